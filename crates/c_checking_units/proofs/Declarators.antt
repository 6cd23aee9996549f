-- Declarators of the file scope: what they declare is what is found (C99 6.7, 6.9).
use Rattle.std.proofs.Common.{◌≡◌, ◌≢◌, ℕ, Bool, true, false, refl, ap, ◌∙◌, subst, cond, List, [], ◌∷◌, length}
use Rattle.std.proofs.Common.{arith, inl, inr}
use Rattle.std.specs.Prelude.{◌⊎◌, Option, Some, None, slice_get}
use Rattle.c_types.specs.Types.{CType, void, integer, pointer, array, function, structure}
use Rattle.c_types.specs.Objects.{is_object}
use Rattle.c_ast.specs.declared.words.Spelling.{Spelling}
use Rattle.c_ast.specs.Trees
use Rattle.c_ast.specs.Places.{first_declarator}
use Rattle.c_ast.specs.WellFormed.{IsDeclarator, IsValue, AreInitDeclarators}
use Rattle.c_typed.specs.declared.program.MentionKind.TheVariants.{Object, Named}
use Rattle.c_typed.specs.Conversions.{is_function}
use Rattle.c_erasure.specs.Declarators.{declared_name, closed}
use Rattle.c_erasure.specs.Erasure.{IsBound}
use Rattle.c_typed.specs.declared.operators.LibraryFunction.{LibraryFunction}
use Rattle.c_typed.specs.Fits.{library_type}
use Rattle.c_erasure.specs.Scopes.{AFunction}
use Rattle.c_erasure.specs.Files.{library_name, IsOwnName, IsLinkage, IsFirst, function_storage}
use Rattle.c_erasure.specs.Files.{bound, is_first, object_how, IsTypedef, IsObject, IsFunction, IsFileDeclarator, AreFileDeclarators}
use Rattle.c_erasure.specs.Marks.{name_from, after_declarator}
use Rattle.c_erasure.specs.Scopes.{FileScope, declares, defines, Entity, typedef, an_object, a_function, a_library_function, at_file_scope, ended}
use Rattle.c_erasure.specs.Specifiers.{Storage, no_storage, a_typedef, is_extern, is_static, is_auto, is_register, several}
use Rattle.c_erasure.specs.Checking.Answers.{Answer, ◌>>=◌}
use Rattle.c_erasure.specs.Checking.Declaring.{with_mention, mentions_in, object_at}
use Rattle.c_erasure.specs.Checking.Files.{library_named, declare_typedef, declare_function, declare_object, without_value, declare_as, declarator_named}
use Rattle.c_erasure.specs.Checking.Files.{file_declarators}
use Rattle.c_erasure.specs.Checking.Finding.{complete}
use Rattle.c_checking_laws.proofs.CompleteLocals.{walk_of_initial}
use Rattle.c_checking_laws.proofs.CompletePart.{Lists, part, complete_stays}
use Rattle.c_checking_laws.proofs.CompleteWalk.{a_name}
use Rattle.c_checking_laws.proofs.WholeFiles.FileScopes.{MayDeclare}
use Rattle.c_checking_units.proofs.Filed.{IsWholeFile, naming}
use Rattle.c_checking_units.proofs.Functions.{IsOwnFunction, function_found, library_function_found, named_ready}
use Rattle.c_checking_units.proofs.Names.{typedef_complete}
use Rattle.c_checking_units.proofs.ObjectDeclarators.{FoundFile, object_found}
use Rattle.c_checking_units.proofs.Objects.{IsOwn}
use Rattle.c_checking_units.proofs.Prepared.{behind_type, steps_of_declarator, skip_nothing, sized_back, object_back, closed_sized, Prepared, prepared, joined}
use Rattle.c_checking_units.proofs.Steps.{Step, events, an_own, entity_at, entity_of, At, IsReady}

declared_as : (words : Storage) → MayDeclare words → (before place from : ℕ) (x : Spelling) (t : CType) (d : Trees.InitDeclarator) (nodes : ℕ) (f : FileScope)
    → declare_as words before place from x t d nodes f
    ≡ cond (is_function t) (without_value x.from d.value (declare_function (with_mention (at_file_scope f) before Named t place f) words x place from t nodes
    (library_named x.text)))
    (object_at f.records (complete (at_file_scope f) x.from) x.from t
    >>= λ u. declare_object (with_mention (at_file_scope f) before Object u place f) words x place from u d.value)
declared_as no_storage m before place from x t d nodes f = refl
declared_as is_extern m before place from x t d nodes f = refl
declared_as is_static m before place from x t d nodes f = refl
declared_as a_typedef m before place from x t d nodes f = absurd m
declared_as is_auto m before place from x t d nodes f = absurd m
declared_as is_register m before place from x t d nodes f = absurd m
declared_as several m before place from x t d nodes f = absurd m

no_value : {A : Type 0} (at : ℕ) (value : Option (ℕ × Trees.Expression)) (r : Answer A) → value ≡ None → without_value at value r ≡ r
no_value at None r e = refl
no_value at (Some value) r e = cc

object_is_no_function : (r : ℕ) (t : CType) → is_object r t ≡ true → is_function t ≡ false
object_is_no_function r void h = refl
object_is_no_function r (integer k) h = refl
object_is_no_function r (pointer t) h = refl
object_is_no_function r (array t n) h = refl
object_is_no_function r (structure k) h = refl
object_is_no_function r (function t all) h = cc

module _ (g : FileScope) (w : IsWholeFile g) where
  -- what a declarator declares is what its name stands for
  own_ready : (c : Lists) (d : Trees.InitDeclarator) (x : Spelling) (from : ℕ) (e : Entity) (rest : List Step) → entity_at g.names from ≡ Some e
      → IsReady g c (behind_type g d x from rest)
      → IsReady g c (an_own (Some e) (is_first g x) (first_declarator d.declarator x.from) ∷ events (At (a_name from ∷ []))
      ∷ events (At (walk_of_initial g.untagged g.objects d.value)) ∷ rest)
  own_ready c d x from e rest is ready =
      subst (λ o. IsReady g c (an_own o (is_first g x) (first_declarator d.declarator x.from) ∷ events (At (a_name from ∷ []))
      ∷ events (At (walk_of_initial g.untagged g.objects d.value)) ∷ rest)) is ready

  abbrev FoundDeclarator : Storage → CType → Trees.InitDeclarator → Spelling → (from nodes : ℕ) → Lists → List Step → Type 0
  FoundDeclarator words base d x from nodes c rest = FoundFile g w (declarator_named (part g c) words base d from nodes (Some x)) rest

  -- ---- typedefs

  a_typedef_found : (types : List (List ℕ)) (base : CType) (d : Trees.InitDeclarator) (x : Spelling) (from nodes : ℕ) (c : Lists) (rest : List Step)
      → IsDeclarator types d.declarator → IsReady g c (steps_of_declarator g d x from rest)
      → IsTypedef g base d x (first_declarator d.declarator x.from) from → FoundDeclarator a_typedef base d x from nodes c rest
  a_typedef_found types base d x from nodes c rest formed ready h =
      let t = h.0 in
      let p = prepared g w types c d x from base (closed t) Named t rest formed ready h.3 h.2 in
      let m = p.lists in
      let b = bound x from defines (typedef t) in
      let r = own_ready m d x from (typedef t) rest (entity_of g w.whole b h.5) p.ready in
      let s = r.steps in
      let z = typedef_complete g w m x from t r.filed s.1.0.0 h.4 h.5 in
      let last = skip_nothing g (naming m b) d.value rest h.1
      (named_ready g w m b _ _ _ _ (events (At (walk_of_initial g.untagged g.objects d.value)) ∷ rest) z.1 s.1 refl refl (omega arith) (omega arith)) in
      record {
        lists = naming m b;
        is = joined g w c p.middle d x p.steps (closed t) t a_typedef base from nodes p.is p.shape_is (closed_sized g w p.middle.records x.from t d.value)
            ∙ no_value x.from d.value (declare_typedef (with_mention (at_file_scope (part g p.middle)) (mentions_in (part g c)) Named t
            (first_declarator d.declarator x.from) (part g p.middle)) x from t) h.1
            ∙ ap (λ f. declare_typedef f x from t) p.said ∙ z.0;
        ready = last;
      }

  -- ---- functions

  as_function : (words : Storage) → MayDeclare words → (c m : Lists) (place from : ℕ) (x : Spelling) (t : CType) (d : Trees.InitDeclarator) (nodes before : ℕ)
      → is_function t ≡ true → d.value ≡ None → with_mention (at_file_scope (part g m)) before Named t place (part g m) ≡ part g c
      → declare_as words before place from x t d nodes (part g m) ≡ declare_function (part g c) words x place from t nodes (library_named x.text)
  as_function words may c m place from x t d nodes before f v said =
      declared_as words may before place from x t d nodes (part g m)
      ∙ ap (λ b. cond b (without_value x.from d.value (declare_function (with_mention (at_file_scope (part g m)) before Named t place (part g m)) words x
      place from t nodes (library_named x.text))) (object_at m.records (complete (at_file_scope (part g m)) x.from) x.from t
      >>= λ u. declare_object (with_mention (at_file_scope (part g m)) before Object u place (part g m)) words x place from u d.value)) f
      ∙ no_value x.from d.value (declare_function (with_mention (at_file_scope (part g m)) before Named t place (part g m)) words x
      place from t nodes (library_named x.text)) v
      ∙ ap (λ f. declare_function f words x place from t nodes (library_named x.text)) said

  a_function_found : (types : List (List ℕ)) (words : Storage) (base : CType) (d : Trees.InitDeclarator) (x : Spelling) (from nodes : ℕ) (c : Lists)
      (rest : List Step) → MayDeclare words → IsDeclarator types d.declarator → IsReady g c (steps_of_declarator g d x from rest)
      → IsFunction g words base d x (first_declarator d.declarator x.from) from → FoundDeclarator words base d x from nodes c rest
  a_function_found types words base d x from nodes c rest may formed ready h = by_kind h.5
    where
      p : Prepared g w c d x from base (closed h.0) Named h.0 rest
      p = prepared g w types c d x from base (closed h.0) Named h.0 rest formed ready h.2 h.4

      place : ℕ
      place = first_declarator d.declarator x.from

      behind : List Step
      behind = events (At (walk_of_initial g.untagged g.objects d.value)) ∷ rest

      begins : declarator_named (part g c) words base d from nodes (Some x)
          ≡ declare_function (part g p.lists) words x (first_declarator d.declarator x.from) from h.0 nodes (library_named x.text)
      begins =
          joined g w c p.middle d x p.steps (closed h.0) h.0 words base from nodes p.is p.shape_is
          (closed_sized g w p.middle.records x.from h.0 d.value)
          ∙ as_function words may p.lists p.middle (first_declarator d.declarator x.from) from x h.0 d nodes (mentions_in (part g c)) h.3 h.1 p.said

      finish : FoundFile g w (declare_function (part g p.lists) words x (first_declarator d.declarator x.from) from h.0 nodes (library_named x.text))
          (events (At (walk_of_initial g.untagged g.objects d.value)) ∷ rest) → FoundDeclarator words base d x from nodes c rest
      finish z = record { lists = z.lists; is = begins ∙ z.is; ready = skip_nothing g z.lists d.value rest h.1 z.ready }

      by_kind : ((which : LibraryFunction) × (x.text ≡ library_name which) × (h.0 ≡ library_type which) × (words ≢ is_static)
          × IsBound (at_file_scope g) (bound x from declares (a_library_function which)))
          ⊎ ((n : ℕ) × (f : AFunction) × IsOwnName x.text × (slice_get g.functions n ≡ Some f) × (f.name ≡ x.text) × (f.ty ≡ h.0)
          × IsLinkage (function_storage words) (is_first g x) f.is_linked × IsFirst (is_first g x) f.first (first_declarator d.declarator x.from)
          × IsBound (at_file_scope g) (bound x from declares (a_function n h.0))) → FoundDeclarator words base d x from nodes c rest
      by_kind (inl k) =
          let b = bound x from declares (a_library_function k.0) in
          let r = own_ready p.lists d x from (a_library_function k.0) rest (entity_of g w.whole b k.4) p.ready in
          finish (library_function_found g w words p.lists x (first_declarator d.declarator x.from) from h.0 nodes k.0
          (events (At (walk_of_initial g.untagged g.objects d.value)) ∷ rest) may k.1 k.3 k.2 r k.4)
      by_kind (inr k) =
          let b = bound x from declares (a_function k.0 h.0) in
          let r = own_ready p.lists d x from (a_function k.0 h.0) rest (entity_of g w.whole b k.8) p.ready in
          let own : IsOwnFunction g w x words (first_declarator d.declarator x.from) h.0 k.0 (is_first g x) k.1 =
          record { there = k.3; name = k.4; ty = k.5; linkage = k.6; begins = k.7 } in
          finish (function_found g w words p.lists x (first_declarator d.declarator x.from) from h.0 nodes k.0 k.1
          (events (At (walk_of_initial g.untagged g.objects d.value)) ∷ rest) may k.2 (p.first b refl refl k.8 (λ v e. cc)) r own k.8)

  -- ---- objects

  as_object : (words : Storage) → MayDeclare words → (c m : Lists) (place from : ℕ) (x : Spelling) (t : CType) (d : Trees.InitDeclarator) (nodes before : ℕ)
      → is_object (ended g.ends x.from) t ≡ true → is_object (length m.records) t ≡ true
      → with_mention (at_file_scope (part g m)) before Object t place (part g m) ≡ part g c
      → declare_as words before place from x t d nodes (part g m) ≡ declare_object (part g c) words x place from t d.value
  as_object words may c m place from x t d nodes before o k said =
      declared_as words may before place from x t d nodes (part g m)
      ∙ ap (λ b. cond b (without_value x.from d.value (declare_function (with_mention (at_file_scope (part g m)) before Named t place (part g m)) words x
      place from t nodes (library_named x.text))) (object_at m.records (complete (at_file_scope (part g m)) x.from) x.from t
      >>= λ u. declare_object (with_mention (at_file_scope (part g m)) before Object u place (part g m)) words x place from u d.value))
      (object_is_no_function (ended g.ends x.from) t o)
      ∙ ap (λ r. r >>= λ u. declare_object (with_mention (at_file_scope (part g m)) before Object u place (part g m)) words x place from u d.value)
      (object_back m.records (ended g.ends x.from) x.from t o k)
      ∙ ap (λ f. declare_object f words x place from t d.value) said

  an_object_found : (types : List (List ℕ)) (words : Storage) (base : CType) (d : Trees.InitDeclarator) (x : Spelling) (from nodes : ℕ) (c : Lists)
      (rest : List Step) → MayDeclare words → IsDeclarator types d.declarator → IsValue types d.value → IsReady g c (steps_of_declarator g d x from rest)
      → IsObject g words base d x (first_declarator d.declarator x.from) from → FoundDeclarator words base d x from nodes c rest
  an_object_found types words base d x from nodes c rest may formed valued ready h =
      let t = h.1 in
      let p = prepared g w types c d x from base h.0 Object t rest formed ready h.4 h.8 in
      let known = complete_stays (ended g.ends x.from) (length p.lists.records) t p.complete h.6 in
      let there = subst (λ all. is_object (length all) t ≡ true) p.records known in
      let b = bound x from (object_how words d.value) (an_object h.2 t) in
      let r = own_ready p.lists d x from (an_object h.2 t) rest (entity_of g w.whole b h.15) p.ready in
      let own : IsOwn g w x words (first_declarator d.declarator x.from) t h.2 (is_first g x) h.3 =
      record { there = h.9; name = h.10; ty = h.11; literal = h.12; linkage = h.13; begins = h.14 } in
      let z = object_found g w types words p.lists x (first_declarator d.declarator x.from) from t d.value h.2 h.3 rest may valued
      (p.first b refl refl h.15 (λ v e. cc)) r known h.7 own h.15 h.16 in
      record {
        lists = z.lists;
        is = joined g w c p.middle d x p.steps h.0 t words base from nodes p.is p.shape_is (sized_back g w p.middle x.from h.0 d.value t p.extends there h.5)
            ∙ as_object words may p.lists p.middle (first_declarator d.declarator x.from) from x t d nodes (mentions_in (part g c)) h.6 there p.said
            ∙ z.is;
        ready = z.ready;
      }

  -- ---- each of them

  pub declarator_found : (types : List (List ℕ)) (words : Storage) (base : CType) (d : Trees.InitDeclarator) (x : Spelling) (from nodes : ℕ) (c : Lists)
      (rest : List Step) → IsDeclarator types d.declarator → IsValue types d.value → IsReady g c (steps_of_declarator g d x from rest)
      → IsFileDeclarator g words base d x (first_declarator d.declarator x.from) from → FoundDeclarator words base d x from nodes c rest
  declarator_found types a_typedef base d x from nodes c rest formed valued ready h = a_typedef_found types base d x from nodes c rest formed ready h
  declarator_found types no_storage base d x from nodes c rest formed valued ready (inl h) =
      a_function_found types no_storage base d x from nodes c rest tt formed ready h
  declarator_found types no_storage base d x from nodes c rest formed valued ready (inr h) =
      an_object_found types no_storage base d x from nodes c rest tt formed valued ready h
  declarator_found types is_extern base d x from nodes c rest formed valued ready (inl h) =
      a_function_found types is_extern base d x from nodes c rest tt formed ready h
  declarator_found types is_extern base d x from nodes c rest formed valued ready (inr h) =
      an_object_found types is_extern base d x from nodes c rest tt formed valued ready h
  declarator_found types is_static base d x from nodes c rest formed valued ready (inl h) =
      a_function_found types is_static base d x from nodes c rest tt formed ready h
  declarator_found types is_static base d x from nodes c rest formed valued ready (inr h) =
      an_object_found types is_static base d x from nodes c rest tt formed valued ready h
  declarator_found types is_auto base d x from nodes c rest formed valued ready h = absurd h
  declarator_found types is_register base d x from nodes c rest formed valued ready h = absurd h
  declarator_found types several base d x from nodes c rest formed valued ready h = absurd h

  -- ---- one after the other

  abbrev pub steps_if_named : Trees.InitDeclarator → Option Spelling → (from : ℕ) → List Step → List Step
  steps_if_named d None from rest = rest
  steps_if_named d (Some x) from rest = steps_of_declarator g d x from rest

  abbrev pub steps_of_declarators : List Trees.InitDeclarator → (semicolon : ℕ) → List Step → List Step
  steps_of_declarators [] semicolon rest = rest
  steps_of_declarators (d ∷ more) semicolon rest =
      steps_if_named d (declared_name d.declarator) (name_from d.value (after_declarator more semicolon)) (steps_of_declarators more semicolon rest)

  pub declarators_found : (types : List (List ℕ)) (lead : Bool) (words : Storage) (base : CType) (all : List Trees.InitDeclarator) (semicolon nodes : ℕ)
      (c : Lists) (rest : List Step) → AreInitDeclarators types lead all → IsReady g c (steps_of_declarators all semicolon rest)
      → AreFileDeclarators g words base all semicolon → FoundFile g w (file_declarators all (part g c) words base semicolon nodes) rest
  unfolding file_declarators
  declarators_found types lead words base [] semicolon nodes c rest formed ready h = record { lists = c; is = refl; ready = ready }
  declarators_found types lead words base (d ∷ more) semicolon nodes c rest formed ready h =
      let from = name_from d.value (after_declarator more semicolon) in
      let r = subst (λ o. IsReady g c (steps_if_named d o from (steps_of_declarators more semicolon rest))) h.1 ready in
      let z = declarator_found types words base d h.0 from nodes c (steps_of_declarators more semicolon rest) formed.1 formed.3 r h.2 in
      let y = declarators_found types false words base more semicolon nodes z.lists rest formed.4 z.ready h.3 in
      record {
        lists = y.lists;
        is = ap (λ o. declarator_named (part g c) words base d from nodes o >>= λ g. file_declarators more g words base semicolon nodes) h.1
            ∙ ap (λ r. r >>= λ g. file_declarators more g words base semicolon nodes) z.is ∙ y.is;
        ready = y.ready;
      }
