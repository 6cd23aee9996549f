-- Objects of blocks that live as long as the program: what they declare is what is found (C99 6.2.4, 6.7.1, 6.7.8).
use Rattle.std.proofs.Common.{◌≡◌, ℕ, suc, ◌≤◌, Bool, true, false, List, [], ◌∷◌, ◌++◌, length, length-append, refl, sym, ap, ◌∙◌, subst, inl}
use Rattle.std.proofs.Common.{inr, arith}
use Rattle.std.proofs.lemmas.List.Elements.{All-nil}
use Rattle.std.specs.Prelude.{◌⊎◌, Option, Some, None, Ok, slice_get, slice_set}
use Rattle.c_types.specs.Types.{CType, void, integer, pointer, array, function, structure}
use Rattle.c_types.specs.Objects.{is_object}
use Rattle.c_ast.specs.declared.words.Spelling.{Spelling}
use Rattle.c_ast.specs.Trees
use Rattle.c_ast.specs.Places.{first, first_declarator}
use Rattle.c_typed.specs.Trees as Typed
use Rattle.c_typed.specs.Conversions.{is_scalar, is_array, is_record}
use Rattle.c_typed.specs.Typed.{Declared}
use Rattle.c_typed.specs.TypedStatements.{IsTypedPart, IsTypedInitializer}
use Rattle.c_erasure.specs.Declarators.{declared_name}
use Rattle.c_erasure.specs.Files.{IsTypedObject}
use Rattle.c_erasure.specs.Initializers.{is_braces, IsInitializer}
use Rattle.c_erasure.specs.Noted.{Noted}
use Rattle.c_erasure.specs.Scopes.{ALocal, AnObject, Bound, FileScope, Scope, an_object, defines, in_full, at_file_scope, declared, ended, with_name}
use Rattle.c_erasure.specs.Statements.{HasConstants, IsVariable, IsStaticLocal}
use Rattle.c_erasure.specs.Checking.Answers.{◌>>=◌, with_file, moved}
use Rattle.c_erasure.specs.Checking.Initializers.{are_constants, constants_in}
use Rattle.c_erasure.specs.Checking.Statements.{variable_of, constants_if_any, declare_named}
use Rattle.c_checking_laws.proofs.Results.{ok}
use Rattle.c_checking_laws.proofs.CompleteWalk.{Event, a_look, a_literal, literals_in, walk_of_declarator}
use Rattle.c_checking_laws.proofs.CompleteLiterals.{none_in_declarator}
use Rattle.c_checking_laws.proofs.CompletePart.{Lists, part, IsWhole, IsBefore, IsAfter, Done, BlocksFit, none_after, complete_stays, left_seen, right_seen}
use Rattle.c_checking_laws.proofs.CompletePart.{then_seen}
use Rattle.c_checking_laws.proofs.CompleteFit.{IsFit, among_more, fit_after, fit_named, no_names}
use Rattle.c_checking_laws.proofs.CompleteStatements.{inner, outer, Seen}
use Rattle.c_checking_laws.proofs.CompleteLocals.{look_at, walk_of_initial, walk_of_declared, variable_complete}
use Rattle.c_checking_laws.proofs.WholeFiles.CompleteWholes.{AsTyped, initials_complete}
use Rattle.c_checking_laws.proofs.WholeFiles.CompleteReached.{reaches}
use Rattle.c_checking_laws.proofs.WholeFiles.CompleteConstants.{constants_back}
use Rattle.c_checking_laws.proofs.WholeFiles.CompleteInFunctions.{initial_inside}
use Rattle.c_checking_laws.proofs.WholeFiles.CompleteObjects.{none_made, any_objects, with_objects, one_more, one_put, set_length}

-- ---- what is typed at file scope

no_scalar : (t : CType) (b : Bool) → (is_array t ≡ true) ⊎ ((is_record t ≡ true) × (b ≡ true)) → is_scalar t ≡ false
no_scalar (array u n) b h = refl
no_scalar (structure r) b h = refl
no_scalar void b h = refl
no_scalar (function u all) b h = refl
no_scalar (integer kind) b (inl h) = cc
no_scalar (integer kind) b (inr h) = let e = h.0 in cc
no_scalar (pointer u) b (inl h) = cc
no_scalar (pointer u) b (inr h) = let e = h.0 in cc

constants_checked : (d : Declared) (at : ℕ) (i : Typed.Initializer Noted) → are_constants d i ≡ true → constants_in d at i ≡ Ok i
unfolding constants_in
constants_checked d at i h = rw h refl

module _ (g : FileScope) (w : IsWhole g) (ls : List ALocal) where
  object_typed : (a : Trees.Expression) (s : Scope) (t : CType) (i : Typed.Initializer Noted) → IsTypedObject g t i → IsInitializer a s t i
      → IsTypedInitializer (declared (at_file_scope g)) t (AsTyped g w ls i)
  object_typed a s t (Typed.whole x) h k = h
  object_typed a s t (Typed.whole_record p) h k = h
  object_typed a s t (Typed.parts (part ∷ more)) h k = h
  object_typed a s t (Typed.parts []) h k = by_form k
    where
      by_form : IsInitializer a s t (Typed.parts []) → IsTypedInitializer (declared (at_file_scope g)) t (AsTyped g w ls (Typed.parts []))
      by_form (inl x) = let e = x.1 in cc
      by_form (inr (inl x)) = let e = x.1 in cc
      by_form (inr (inr x)) = (no_scalar t (is_braces a) x.2, All-nil (IsTypedPart (declared (at_file_scope g)) t), tt)

  -- ---- constants

  abbrev pub Initial : Option (ℕ × Trees.Expression) → List Event
  Initial value = walk_of_initial g.untagged g.objects value

  constants_complete : (value : Option (ℕ × Trees.Expression)) (b : List (List Bound)) (l : List ALocal) (c : Lists) (t : CType)
      (i : Typed.Initializer Noted)
      → IsFit g c b → is_object (length c.records) t ≡ true → IsBefore g c (Seen g w ls (Initial value)) → HasConstants (outer g w ls b) t value i
      → IsTypedObject g t i → Done g c (Seen g w ls (Initial value)) (constants_if_any value (inner g w ls b l c) t) i
  constants_complete None b l c t i f known e h k = record {
    lists = c;
    is = ap (λ i. ok (i, part g c))
        (sym h);
    after = none_after g c [] e refl refl refl;
  }
  constants_complete (Some value) b l c t i f known e h k =
      let typed = initial_inside (declared (outer g w ls b)) t (AsTyped g w ls i) (object_typed value.1 (outer g w ls b) t i k h.0) in
      let z = initials_complete g w ls value.1 b l c t i f.complete known e h.0 typed in
      let m = z.lists in
      let fit = fit_after g c m b (Initial (Some value)) z.after f in
      let none = no_names (Initial (Some value)) in
      let same = z.after.names in
      let there = reaches g w ls (inner g w ls b l c) (length m.records) (length m.objects) (length c.names) (λ x e i.
      (fit.complete x e i, fit.blocks x e i))
      (λ k n i less. fit.names k n i (omega (arith, less, same))) (length c.names) (length c.records) (length c.objects) (Seen g w ls (Initial
      (Some value)))
      (omega (arith, none)) (let r = z.after.records in omega (arith, r)) (let o = z.after.objects in omega (arith, o)) e.follows in
      let k = constants_back g w ls (inner g w ls b l c) refl m z.after.extends value.1 t i h.0 typed h.1 there in
      record {
        lists = m;
        is = ap (λ r. r >>= λ i. with_file i.1 (constants_in (declared (moved (inner g w ls b l c) i.1)) (first value.1) i.0)) z.is
            ∙ ap (with_file (part g m)) (constants_checked (declared (inner g w ls b l m)) (first value.1) i k);
        after = z.after;
      }

  -- ---- one declarator

  abbrev pub static_named : Spelling → CType → ℕ → Bound
  static_named x t n = record { name = x.text; place = x.from; from = x.to; how = defines; entity = an_object n t }

  abbrev made_there : Trees.InitDeclarator → Spelling → CType → Option (Typed.Initializer Noted) → AnObject
  made_there d x t i = record {
    name = x.text;
    place = record { file = g.file; at = first_declarator d.declarator x.from };
    first = first_declarator d.declarator x.from;
    ty = t;
    is_linked = false;
    literal = None;
    initial = i;
  }

  -- the part with the object, which has no initializer yet
  abbrev begun : Lists → Trees.InitDeclarator → Spelling → CType → Lists
  begun c d x t = with_objects c (c.objects ++ made_there d x t None ∷ [])

  static_joined : (b : List (List Bound)) (l : List ALocal) (c m n : Lists) (base : CType) (d : Trees.InitDeclarator) (x : Spelling) (t : CType)
      (i : Typed.Initializer Noted) → variable_of (inner g w ls b l c) base d x ≡ Ok (t, part g m)
      → constants_if_any d.value (inner g w ls (with_name b (static_named x t (length m.objects))) l (begun m d x t)) t ≡ Ok (i, part g n)
      → declare_named true (inner g w ls b l c) base d (Some x) ≡ Ok (
        Typed.no_statements,
        inner g w ls (with_name b (static_named x t (length m.objects))) l
            (with_objects n (slice_set n.objects (length m.objects) (made_there d x t (Some i)))),
      )
  static_joined b l c m n base d x t i v k = rw (v, k) refl

  abbrev pub Declarator : Trees.InitDeclarator → List Event
  Declarator d = walk_of_declared g.untagged g.objects d

  abbrev pub Object : Trees.InitDeclarator → Spelling → List Event
  Object d x = a_literal (first_declarator d.declarator x.from) ∷ []

  pub record FoundStatic (b : List (List Bound)) (l : List ALocal) (c : Lists) (base : CType) (d : Trees.InitDeclarator) (x : Spelling) (t : CType)
      (n : ℕ)
      : Type 0 where
    pub lists : Lists
    pub is : declare_named true (inner g w ls b l c) base d (Some x)
        ≡ Ok (Typed.no_statements, inner g w ls (with_name b (static_named x t n)) l lists)
    pub after : IsAfter g c (Seen g w ls (Object d x ++ Declarator d ++ Initial d.value)) lists
    pub fit : IsFit g lists (with_name b (static_named x t n))

  -- no object is made in a declarator
  none_in_declared : (d : Trees.InitDeclarator) (x : Spelling) → declared_name d.declarator ≡ Some x → literals_in (Seen g w ls (Declarator d)) ≡ 0
  none_in_declared d x e =
      ap (λ o. literals_in (Seen g w ls (look_at g.untagged g.objects o ++ walk_of_declarator g.untagged d.declarator))) e
      ∙ none_made (walk_of_declarator g.untagged d.declarator) (none_in_declarator g.untagged d.declarator)

  as_many : (c d : Lists) (b : List (List Bound)) → IsFit g c b → length d.names ≡ length c.names → length d.records ≡ length c.records
      → length c.objects ≤ length d.objects → IsFit g d b
  as_many c d b f n r o = record {
    complete = subst (λ r. BlocksFit g r b) (sym r) f.complete;
    blocks = λ x e i. among_more (length c.objects) (length d.objects) e o (f.blocks x e i);
    names = λ k m i l. among_more (length c.objects) (length d.objects) m.entity o (f.names k m i (omega (arith, l, n)));
  }

  pub static_complete : (b : List (List Bound)) (l : List ALocal) (c : Lists) (base : CType) (d : Trees.InitDeclarator) (x : Spelling) (t : CType)
      (n : ℕ)
      → ((k : ℕ) (o : AnObject) (i : Typed.Initializer Noted) → slice_get g.objects k ≡ Some o → o.initial ≡ Some i → IsTypedObject g o.ty i)
      → IsFit g c b → IsBefore g c (Seen g w ls (Object d x ++ Declarator d ++ Initial d.value)) → IsVariable (outer g w ls b) base d x t
      → IsStaticLocal (outer g w ls b) d x t n → FoundStatic b l c base d x t n
  static_complete b l c base d x t n typed f e v h =
      let e2 = left_seen g true in_full c (Object d x ++ Declarator d) (Initial d.value) e in
      -- the object comes next
      let next = e2.follows.0 in
      let number : n ≡ length c.objects = w.objects_apart n (length c.objects) (made_there d x t (Some h.0)) next.0 h.2 next.1 (sym next.2) in
      let none = none_in_declared d x v.1 in
      let shifted = any_objects g (length c.names) (length c.records) (suc (length c.objects)) (length c.objects) (Seen g w ls
      (Declarator d)) none e2.follows.1 in
      let name : Declarator d ≡ a_look x.from ∷ walk_of_declarator g.untagged d.declarator =
      ap (λ o. look_at g.untagged g.objects o ++ walk_of_declarator g.untagged d.declarator) v.1 in
      let e0 : IsBefore g c (Seen g w ls (a_look x.from ∷ walk_of_declarator g.untagged d.declarator)) =
      subst (λ u. IsBefore g c (Seen g w ls u)) name (record { extends = e.extends; follows = shifted }) in
      let z = variable_complete g w ls b l c base d x t f.complete e0 v in
      let m = z.lists in
      let a0 : IsAfter g c (Seen g w ls (Declarator d)) m = subst (λ u. IsAfter g c (Seen g w ls u) m) (sym name) z.after in
      let count : length m.objects ≡ length c.objects = let o = a0.objects in omega (arith, o, none) in
      let there : n ≡ length m.objects = number ∙ sym count in
      let stands : slice_get g.objects (length m.objects) ≡ Some (made_there d x t (Some h.0)) =
      subst (λ n. slice_get g.objects n ≡ Some (made_there d x t (Some h.0))) there h.2 in
      let known = complete_stays (ended g.ends x.from) (length m.records) t (omega (arith, e0.follows.0, z.after.records)) v.4 in
      -- with the object
      let more = begun m d x t in
      let long = length-append m.objects (made_there d x t None ∷ []) in
      let a1 : IsAfter g c (Seen g w ls (Object d x ++ Declarator d)) more = record {
        extends = one_more g m (made_there d x t None) (made_there d x t (Some h.0)) a0.extends refl stands refl;
        names = a0.names;
        records = a0.records;
        objects = omega (arith, long, count, none);
        functions = a0.functions;
      } in
      let fit0 = fit_after g c m b (Declarator d) a0 f in
      let fit1 = as_many m more b fit0 refl refl (omega (arith, long)) in
      let fit2 = fit_named g w ls more b (static_named x t (length m.objects)) fit1 known (omega (arith, long)) in
      let y = constants_complete d.value (with_name b (static_named x t (length m.objects))) l more t h.0 fit2 known
      (right_seen g true in_full c more (Object d x ++ Declarator d) (Initial d.value) e a1)
      (subst (λ n. HasConstants (outer g w ls (with_name b (static_named x t n))) t d.value h.0) there h.1)
      (typed n (made_there d x t (Some h.0)) h.0 h.2 refl) in
      -- with its initializer
      let last = with_objects y.lists (slice_set y.lists.objects (length m.objects) (made_there d x t (Some h.0))) in
      let size = set_length y.lists.objects (length m.objects) (made_there d x t (Some h.0)) in
      let a2 : IsAfter g more (Seen g w ls (Initial d.value)) last = record {
        extends = one_put g y.lists (length m.objects) (made_there d x t (Some h.0)) y.after.extends stands;
        names = y.after.names;
        records = y.after.records;
        objects = size ∙ y.after.objects;
        functions = y.after.functions;
      } in
      let fit3 = fit_after g more last (with_name b (static_named x t (length m.objects))) (Initial d.value) a2 fit2 in
      record {
        lists = last;
        is = static_joined b l c m y.lists base d x t h.0 z.is y.is
            ∙ ap (λ n. ok (Typed.no_statements, inner g w ls (with_name b (static_named x t n)) l last)) (sym there);
        after = then_seen g true in_full c more last (Object d x ++ Declarator d) (Initial d.value) a1 a2;
        fit = subst (λ n. IsFit g last (with_name b (static_named x t n))) (sym there) fit3;
      }
