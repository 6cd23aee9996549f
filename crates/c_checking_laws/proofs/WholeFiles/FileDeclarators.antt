-- Declarators of the file scope: typedefs, and functions that are declared (C99 6.7, 6.9).
use Rattle.std.proofs.Common.{◌≡◌, ◌≢◌, ℕ, Bool, true, false, refl, sym, ap, ◌∙◌, subst, List, [], ◌∷◌, cond, inl, inr}
use Rattle.std.proofs.lemmas.Bool.{and_parts}
use Rattle.std.specs.Prelude.{Option, Some, None, Ok, is_none, ◌&&◌}
use Rattle.c_types.specs.Sameness.{same_type}
use Rattle.c_types.specs.Types.{CType, Record}
use Rattle.c_types.proofs.SameTypes.{same_is}
use Rattle.c_ast.specs.declared.words.Spelling.{Spelling}
use Rattle.c_ast.specs.Trees
use Rattle.c_ast.specs.Places.{first_declarator}
use Rattle.c_typed.specs.declared.operators.LibraryFunction.{LibraryFunction}
use Rattle.c_typed.specs.declared.program.MentionKind.TheVariants.{Named}
use Rattle.c_typed.specs.Conversions.{is_function}
use Rattle.c_typed.specs.Fits.{library_type}
use Rattle.c_erasure.specs.Declarators.{Shape, closed, open_array}
use Rattle.c_erasure.specs.Erasure.{Declares}
use Rattle.c_erasure.specs.Files.{library_name, IsLinkage, function_storage, is_first, IsFirst, bound, IsTypedef, IsFunction}
use Rattle.c_erasure.specs.Marks.{marks_of_declarator}
use Rattle.c_erasure.specs.Scopes.{FileScope, Bound, a_library_function, declares, at_file_scope, IsMentioned}
use Rattle.c_erasure.specs.Specifiers.{Storage, no_storage, a_typedef, is_extern, is_static, is_auto, is_register, several}
use Rattle.c_erasure.specs.Checking.Answers.{Answer}
use Rattle.c_erasure.specs.Checking.Declaring.{with_mention, mentions_in, Derivation, derived, declared_among, with_bound}
use Rattle.c_erasure.specs.Checking.Finding.{derivations}
use Rattle.c_erasure.specs.Checking.Files.{is_library_name, first_named, library, library_named, links, library_again, declare_library, declare_function}
use Rattle.c_erasure.specs.Checking.Files.{without_value}
use Rattle.c_erasure.specs.Checking.Files.{declarator_named}
use Rattle.c_erasure.specs.Checking.Statements.{sized_in}
use Rattle.c_checking_laws.proofs.Results.{bound_ok, given, chosen}
use Rattle.c_checking_laws.proofs.Extends.{Extends, further}
use Rattle.c_checking_laws.proofs.Agreement.{Ready}
use Rattle.c_checking_laws.proofs.InRange.{IsDeclaratorInRange}
use Rattle.c_checking_laws.proofs.NodesOfParts.{same_bytes}
use Rattle.c_checking_laws.proofs.Declared.{is_mentioned, before_mention}
use Rattle.c_checking_laws.proofs.Sound.{sound_steps}
use Rattle.c_checking_laws.proofs.WholeFiles.Locals.{IsSizedOver, sized_so}
use Rattle.c_checking_laws.proofs.WholeFiles.FileScopes.{Continues, MayDeclare, StandsFor, own_is, typedef_declared, function_declared, bound_there, bound_put}

no_value : {A : Type 0} (at : ℕ) (o : Option (ℕ × Trees.Expression)) (r : Answer A) (z : A) → without_value at o r ≡ Ok z → (o ≡ None) × (r ≡ Ok z)
no_value at None r z h = (refl, h)
no_value at (Some value) r z h = cc

-- where nothing is left to an initializer the type is that of the declarator
closed_is : (records : List Record) (shape : Shape) (value : Option (ℕ × Trees.Expression)) (t : CType) → value ≡ None → IsSizedOver records shape value t
    → shape ≡ closed t
closed_is records (closed u) value t e h = ap closed (sym h)
closed_is records (open_array u) None t e h = absurd h
closed_is records (open_array u) (Some value) t e h = cc

-- ---- functions of the library

library_name_is : (all : List LibraryFunction) (x : List ℕ) (which : LibraryFunction) → first_named all x ≡ Some which → x ≡ library_name which
library_name_is [] x which h = cc
library_name_is (one ∷ more) x which h = by_test (is_library_name one x) refl (library_name_is more x which) h
  where
    by_test : (b : Bool) → is_library_name one x ≡ b → (first_named more x ≡ Some which → x ≡ library_name which)
        → cond b (Some one) (first_named more x) ≡ Some which → x ≡ library_name which
    by_test true e later h = let same : one ≡ which = cc in sym (same_bytes (library_name one) x e) ∙ ap library_name same
    by_test false e later h = later h

named_is : (x : List ℕ) (which : LibraryFunction) → library_named x ≡ Some which → x ≡ library_name which
unfolding library_named
named_is x which h = library_name_is library x which h

linked_is : (words : Storage) → links words ≡ true → words ≢ is_static
linked_is is_static h = cc
linked_is no_storage h = λ e. cc
linked_is a_typedef h = λ e. cc
linked_is is_extern h = λ e. cc
linked_is is_auto h = λ e. cc
linked_is is_register h = λ e. cc
linked_is several h = λ e. cc

library_declared : (f : FileScope) (words : Storage) (x : Spelling) (from : ℕ) (t : CType) (which : LibraryFunction) (g : FileScope)
    → declare_library f words x from t which ≡ Ok g
    → (t ≡ library_type which) × (words ≢ is_static) × (g ≡ with_bound f (bound x from declares (a_library_function which)))
library_declared f words x from t which g h =
    chosen (same_type t (library_type which) && links words) _ _ g
    ((t ≡ library_type which) × (words ≢ is_static) × (g ≡ with_bound f (bound x from declares (a_library_function which)))) h
    (λ b h.
    let p = and_parts (same_type t (library_type which)) (links words) b in
    chosen (library_again which (declared_among f.names x.text)) _ _ g
    ((t ≡ library_type which) × (words ≢ is_static) × (g ≡ with_bound f (bound x from declares (a_library_function which)))) h
    (λ c h.
    given (λ g. (t ≡ library_type which) × (words ≢ is_static) × (g ≡ with_bound f (bound x from declares (a_library_function which)))) _ g h
    (same_is t (library_type which) p.0, linked_is words p.1, refl))
    (λ c h. cc))
    (λ b h. cc)

module _ (untagged : ℕ → List ℕ) where
  -- a typedef
  pub typedef_found : (f : FileScope) (base : CType) (d : Trees.InitDeclarator) (x : Spelling) (from nodes : ℕ) → IsDeclaratorInRange d.declarator
      → Ready (at_file_scope f) (marks_of_declarator untagged d.declarator) → (g : FileScope)
      → declarator_named f a_typedef base d from nodes (Some x) ≡ Ok g → (h : FileScope) → Extends g h
      → IsTypedef h base d x (first_declarator d.declarator x.from) from
  typedef_found f base d x from nodes n r g h later e =
      let s = at_file_scope f in
      let place = first_declarator d.declarator x.from in
      let steps = bound_ok (derivations d.declarator s) _ g h in
      let v = sound_steps untagged d.declarator s n r steps.0 steps.1 in
      let shape = bound_ok (derived steps.0.1.records steps.0.0 base) _ g steps.2 in
      let t = bound_ok (sized_in steps.0.1.records x.from shape.0 d.value) _ g shape.2 in
      let o = no_value x.from d.value _ g t.2 in
      let file = with_mention s (mentions_in f) Named t.0 place steps.0.1 in
      let w = typedef_declared file x from t.0 g o.1 in
      let back : Extends file later =
      further (subst (Extends file) (sym w.file_is) (bound_put file _).extends) e in
      let before = before_mention s steps.0.1 later (mentions_in f) Named t.0 place back in
      let c = closed_is steps.0.1.records shape.0 d.value t.0 o.0 (sized_so steps.0.1.records x.from shape.0 d.value t.0 t.1) in (
        t.0,
        o.0,
        is_mentioned s steps.0.1 later (mentions_in f) Named t.0 place back,
        v.holds later before steps.0.1.records before.records.0 before.records.1 base (closed t.0) (shape.1 ∙ ap Ok c),
        w.own,
        w.binds later e,
      )

  -- a function that is declared: `first` tells whether no declaration of the name stands before, as the later file has it
  pub function_found : (f : FileScope) (words : Storage) → MayDeclare words → (base : CType) (d : Trees.InitDeclarator) (x : Spelling) (from nodes : ℕ)
      → IsDeclaratorInRange d.declarator → Ready (at_file_scope f) (marks_of_declarator untagged d.declarator)
      → (steps : List Derivation × FileScope) → derivations d.declarator (at_file_scope f) ≡ Ok steps → (shape : Shape)
      → derived steps.1.records steps.0 base ≡ Ok shape → (t : CType) → sized_in steps.1.records x.from shape d.value ≡ Ok t → is_function t ≡ true
      → ((b : Bound)
      → declared_among (with_mention (at_file_scope f) (mentions_in f) Named t (first_declarator d.declarator x.from) steps.1).names x.text ≡ Some b
      → StandsFor (with_mention (at_file_scope f) (mentions_in f) Named t (first_declarator d.declarator x.from) steps.1) x
      (first_declarator d.declarator x.from) b)
      → (g : FileScope)
      → without_value x.from d.value (declare_function (with_mention (at_file_scope f) (mentions_in f) Named t (first_declarator d.declarator x.from) steps.1)
      words x (first_declarator d.declarator x.from) from t nodes (library_named x.text)) ≡ Ok g
      → (h : FileScope) → Continues g h
      → is_first h x
      ≡ is_none (declared_among (with_mention (at_file_scope f) (mentions_in f) Named t (first_declarator d.declarator x.from) steps.1).names x.text)
      → IsFunction h words base d x (first_declarator d.declarator x.from) from
  function_found f words m base d x from nodes n r steps is_steps shape is_shape t is_sized is_fun k g h later c first =
      let s = at_file_scope f in
      let place = first_declarator d.declarator x.from in
      let file = with_mention s (mentions_in f) Named t place steps.1 in
      let o = no_value x.from d.value (declare_function file words x place from t nodes (library_named x.text)) g h in
      let v = sound_steps untagged d.declarator s n r steps is_steps in
      let e = closed_is steps.1.records shape d.value t o.0 (sized_so steps.1.records x.from shape d.value t is_sized) in
      by_name (library_named x.text) refl o.0 o.1
      (λ back.
      let before = before_mention s steps.1 later (mentions_in f) Named t place back in (
        v.holds later before steps.1.records before.records.0 before.records.1 base (closed t) (is_shape ∙ ap Ok e),
        is_mentioned s steps.1 later (mentions_in f) Named t place back,
      ))
    where
      by_name : (o : Option LibraryFunction) → library_named x.text ≡ o → d.value ≡ None
          → declare_function (with_mention (at_file_scope f) (mentions_in f) Named t (first_declarator d.declarator x.from) steps.1) words x
          (first_declarator d.declarator x.from) from t nodes o ≡ Ok g
          → (Extends (with_mention (at_file_scope f) (mentions_in f) Named t (first_declarator d.declarator x.from) steps.1) later
          → Declares (at_file_scope later) d.declarator base (closed t)
          × IsMentioned (at_file_scope later) Named t (first_declarator d.declarator x.from))
          → IsFunction later words base d x (first_declarator d.declarator x.from) from
      by_name None is_own none h both =
          let place = first_declarator d.declarator x.from in
          let file = with_mention (at_file_scope f) (mentions_in f) Named t place steps.1 in
          let w = function_declared file words m x place from t nodes k g h in
          let q = w.1 later c in
          let a = both (further w.0.extends c.extends) in (
            t,
            none,
            a.0,
            is_fun,
            a.1,
            inr (
              q.number,
              q.function,
              own_is x.text is_own,
              q.stands,
              q.name,
              q.ty,
              subst (λ b. IsLinkage (function_storage words) b q.function.is_linked) (sym first) q.linkage,
              subst (λ b. IsFirst b q.function.first place) (sym first) q.first_place,
              q.binds,
            ),
          )
      by_name (Some which) is_library none h both =
          let place = first_declarator d.declarator x.from in
          let file = with_mention (at_file_scope f) (mentions_in f) Named t place steps.1 in
          let w = library_declared file words x from t which g h in
          let b = bound x from declares (a_library_function which) in
          let back : Extends (with_bound file b) later = subst (λ g. Extends g later) w.2 c.extends in
          let a = both (further (bound_put file b).extends back) in
          (t, none, a.0, is_fun, a.1, inl (which, named_is x.text which is_library, w.0, w.1, bound_there file later b back))
