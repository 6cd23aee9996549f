-- The steps of declarators, and the types that specifiers name (C99 6.7.2, 6.7.5).
use Rattle.std.proofs.Common.{◌≡◌, ℕ, ◌≤◌, Bool, true, false, refl, sym, ap, ◌∙◌, subst, cond, List, [], ◌∷◌, ◌++◌, arith, inl, inr, length}
use Rattle.std.proofs.lemmas.Bool.{and_parts, eqb-true}
use Rattle.std.proofs.lemmas.Bool.Decides.{nat_tests}
use Rattle.std.specs.Prelude.{Option, Some, None, Ok, nat_le, ◌==◌, ◌⊎◌}
use Rattle.c_types.specs.Types.{CType, CTypes, void, integer, pointer, array, function, structure, Record}
use Rattle.c_types.specs.Layouts.{size_of}
use Rattle.c_types.specs.Objects.{is_object, parts}
use Rattle.c_types.proofs.Growing.{layouts_stay}
use Rattle.c_ast.specs.Trees
use Rattle.c_typed.specs.Conversions.{is_scalar}
use Rattle.c_erasure.specs.Declarators.{Shape, closed, open_array, IsSmall}
use Rattle.c_erasure.specs.Marks.{marks_of_specifiers}
use Rattle.c_erasure.specs.Scopes.{FileScope}
use Rattle.c_erasure.specs.Specifiers.{Words, types_among, words_of, no_words, same_words, named_by}
use Rattle.c_erasure.specs.Checking.Answers.{◌>>=◌, Checked}
use Rattle.c_erasure.specs.Checking.Declaring.{Derivation, to_pointer, to_array, to_open_array, to_function, is_small, small, element, is_result, result_type}
use Rattle.c_erasure.specs.Checking.Declaring.{derived, closed_at, object_at}
use Rattle.c_erasure.specs.Checking.Declaring.{by_one, no_type, base_of_words, base_among, base_kind}
use Rattle.c_erasure.specs.Checking.Finding.{base_type, type_of_derived}
use Rattle.c_erasure.specs.Checking.Nodes.{is_complete}
use Rattle.c_checking_laws.proofs.Results.{bound_ok, ok, given, only_if, chosen}
use Rattle.c_checking_laws.proofs.NodesOfParts.{complete_is}

-- ---- one step

at_most : (n m : ℕ) → nat_le n m ≡ true → n ≤ m
at_most n m h = grind (arith, nat_tests)

pub small_is : (records : List Record) (at : ℕ) (t u : CType) → small records at t ≡ Ok u → IsSmall records t × (t ≡ u)
small_is records at t u h =
    chosen (is_small records t) _ _ u (IsSmall records t × (t ≡ u)) h
    (λ b h. let p = and_parts (nat_le (size_of records t) 16777216) (nat_le (parts t) 1024) b in
    given (λ u. IsSmall records t × (t ≡ u)) t u h
    (record { bytes = at_most (size_of records t) 16777216 p.0; parts = at_most (parts t) 1024 p.1 }, refl))
    (λ b h. cc)

pub element_is : (records : List Record) (count at : ℕ) (t u : CType) → element records count at t ≡ Ok u
    → (is_object count t ≡ true) × (is_object (length records) t ≡ true) × (t ≡ u)
element_is records count at t u h =
    let b = only_if (is_complete records count t) _ _ _ u h in
    let c = complete_is records count t b.0 in
    given (λ u. (is_object count t ≡ true) × (is_object (length records) t ≡ true) × (t ≡ u)) t u b.1 (c.0, c.1, refl)

result_kind : (t : CType) → is_result t ≡ true → (is_scalar t ≡ true) ⊎ (t ≡ void)
result_kind void h = inr refl
result_kind (integer kind) h = inl refl
result_kind (pointer t) h = inl refl
result_kind (array t n) h = cc
result_kind (function t all) h = cc
result_kind (structure r) h = cc

pub result_is : (at : ℕ) (t u : CType) → result_type at t ≡ Ok u → ((is_scalar t ≡ true) ⊎ (t ≡ void)) × (t ≡ u)
result_is at t u h =
    let b = only_if (is_result t) _ _ _ u h in
    given (λ u. ((is_scalar t ≡ true) ⊎ (t ≡ void)) × (t ≡ u)) t u b.1 (result_kind t b.0, refl)

-- ---- a step before others, where more records are known later

module _ (records all more : List Record) (is : all ≡ records ++ more) (shape : Shape) where
  pub pointer_derived : (at : ℕ) (steps : List Derivation) (t : CType) → derived records (to_pointer at ∷ steps) t ≡ Ok shape
      → IsSmall all (pointer t) × (derived records steps (pointer t) ≡ Ok shape)
  unfolding derived
  pointer_derived at steps t h =
      let u = bound_ok (small records at (pointer t)) _ shape h in
      let b = small_is records at (pointer t) u.0 u.1 in
      (record { bytes = b.0.bytes; parts = b.0.parts }, subst (λ u. derived records steps u ≡ Ok shape) (sym b.1) u.2)

  pub array_derived : (count at n : ℕ) (steps : List Derivation) (t : CType) → derived records (to_array count at n ∷ steps) t ≡ Ok shape
      → (is_object count t ≡ true) × IsSmall all (array t n) × (derived records steps (array t n) ≡ Ok shape)
  unfolding derived
  array_derived count at n steps t h =
      let e = bound_ok (element records count at t) _ shape h in
      let c = element_is records count at t e.0 e.1 in
      let g : (small records at (array t n) >>= λ u. derived records steps u) ≡ Ok shape =
      subst (λ e. (small records at (array e n) >>= λ u. derived records steps u) ≡ Ok shape) (sym c.2) e.2 in
      let u = bound_ok (small records at (array t n)) _ shape g in
      let b = small_is records at (array t n) u.0 u.1 in
      let z : size_of all t ≡ size_of records t = ap (λ all. size_of all t) is ∙ (layouts_stay records more).sizes t c.1 in
      (c.0, record { bytes = rw z b.0.bytes; parts = b.0.parts }, subst (λ u. derived records steps u ≡ Ok shape) (sym b.1) u.2)

  pub open_derived : (count at : ℕ) (steps : List Derivation) (t : CType) → derived records (to_open_array count at ∷ steps) t ≡ Ok shape
      → (steps ≡ []) × (is_object count t ≡ true) × (shape ≡ open_array t)
  unfolding derived
  open_derived count at [] t h =
      let steps : List Derivation = [] in
      let e = bound_ok (element records count at t) _ shape h in
      let c = element_is records count at t e.0 e.1 in
      given (λ s. (steps ≡ []) × (is_object count t ≡ true) × (s ≡ open_array t)) (open_array e.0) shape e.2 (refl, c.0, ap open_array (sym c.2))
  open_derived count at (step ∷ steps) t h = cc

  pub function_derived : (at : ℕ) (types : CTypes) (steps : List Derivation) (t : CType) → derived records (to_function at types ∷ steps) t ≡ Ok shape
      → ((is_scalar t ≡ true) ⊎ (t ≡ void)) × IsSmall all (pointer (function t types)) × (derived records steps (function t types) ≡ Ok shape)
  unfolding derived
  function_derived at types steps t h =
      let r = bound_ok (result_type at t) _ shape h in
      let c = result_is at t r.0 r.1 in
      let g : (small records at (pointer (function t types)) >>= λ u. derived records steps (function t types)) ≡ Ok shape =
      subst (λ r. (small records at (pointer (function r types)) >>= λ u. derived records steps (function r types)) ≡ Ok shape) (sym c.1) r.2 in
      let u = bound_ok (small records at (pointer (function t types))) _ shape g in
      let b = small_is records at (pointer (function t types)) u.0 u.1 in
      (c.0, record { bytes = b.0.bytes; parts = b.0.parts }, u.2)

pub none_derived : (records : List Record) (t : CType) (shape : Shape) → derived records [] t ≡ Ok shape → shape ≡ closed t
unfolding derived
none_derived records t shape h = given (λ s. s ≡ closed t) (closed t) shape h refl

-- a type without a length that is left out
closed_is : (at : ℕ) (shape : Shape) (t : CType) → closed_at at shape ≡ Ok t → shape ≡ closed t
closed_is at (closed u) t h = given (λ t. closed u ≡ closed t) u t h refl
closed_is at (open_array u) t h = cc

pub type_derived : (at : ℕ) (f : FileScope) (steps : List Derivation) (base t : CType) → type_of_derived at f steps base ≡ Ok t
    → derived f.records steps base ≡ Ok (closed t)
type_derived at f steps base t h =
    let r = bound_ok (derived f.records steps base) _ t h in
    r.1 ∙ ap (λ s. ok s) (closed_is at r.0 t r.2)

pub object_is : (records : List Record) (count at : ℕ) (t u : CType) → object_at records count at t ≡ Ok u → (is_object count t ≡ true) × (t ≡ u)
unfolding object_at
object_is records count at t u h =
    let b = only_if (is_complete records count t) _ _ _ u h in
    let c = complete_is records count t b.0 in
    given (λ u. (is_object count t ≡ true) × (t ≡ u)) t u b.1 (c.0, refl)

-- ---- specifiers

words_are : (v w : Words) → same_words v w ≡ true → v ≡ w
words_are v w h =
    let a = and_parts _ (v.unsigned == w.unsigned) h in
    let b = and_parts _ (v.signed == w.signed) a.0 in
    let c = and_parts _ (v.long == w.long) b.0 in
    let d = and_parts _ (v.int == w.int) c.0 in
    let e = and_parts _ (v.short == w.short) d.0 in
    let f = and_parts (v.void == w.void) (v.char == w.char) e.0 in
    let void : v.void ≡ w.void = eqb-true v.void w.void f.0 in
    let char : v.char ≡ w.char = eqb-true v.char w.char f.1 in
    let short : v.short ≡ w.short = eqb-true v.short w.short e.1 in
    let int : v.int ≡ w.int = eqb-true v.int w.int d.1 in
    let long : v.long ≡ w.long = eqb-true v.long w.long c.1 in
    let signed : v.signed ≡ w.signed = eqb-true v.signed w.signed b.1 in
    let unsigned : v.unsigned ≡ w.unsigned = eqb-true v.unsigned w.unsigned a.1 in
    λ i. record { void = void i; char = char i; short = short i; int = int i; long = long i; signed = signed i; unsigned = unsigned i }

-- by words, or by one specifier
abbrev pub IsBaseOf : Trees.Specifiers → FileScope → Checked CType → CType × FileScope → Type 0
IsBaseOf specs f one z = ((types_among specs ≡ []) × (named_by (words_of specs) ≡ Some z.0) × (f ≡ z.1))
    ⊎ ((x : Trees.Specifier) × (types_among specs ≡ x ∷ []) × (words_of specs ≡ no_words) × (one ≡ Ok z))

pub base_is : (specs : Trees.Specifiers) (at : ℕ) (f : FileScope) (one : Checked CType) (z : CType × FileScope) → base_type (base_kind specs) at f one ≡ Ok z
    → IsBaseOf specs f one z
base_is specs at f one z h = by_types (types_among specs) refl h
  where
    by_words_alone : types_among specs ≡ [] → (o : Option CType) → named_by (words_of specs) ≡ o → base_type (base_of_words o) at f one ≡ Ok z
        → IsBaseOf specs f one z
    by_words_alone e None n h = cc
    by_words_alone e (Some t) n h = given (IsBaseOf specs f one) (t, f) z h (inl (e, n, refl))

    by_test : (x : Trees.Specifier) → types_among specs ≡ x ∷ [] → (b : Bool) → same_words (words_of specs) no_words ≡ b
        → base_type (cond b by_one no_type) at f one ≡ Ok z → IsBaseOf specs f one z
    by_test x e true n h = inr (x, e, words_are (words_of specs) no_words n, h)
    by_test x e false n h = cc

    by_types : (all : List Trees.Specifier) → types_among specs ≡ all → base_type (base_among all specs) at f one ≡ Ok z → IsBaseOf specs f one z
    by_types [] e h = by_words_alone e (named_by (words_of specs)) refl h
    by_types (x ∷ []) e h = by_test x e (same_words (words_of specs) no_words) refl h
    by_types (x ∷ y ∷ more) e h = cc

-- words declare nothing
pub words_mark_nothing : (untagged : ℕ → List ℕ) (specs : Trees.Specifiers) → types_among specs ≡ [] → marks_of_specifiers untagged specs ≡ []
words_mark_nothing untagged Trees.no_specifiers h = refl
words_mark_nothing untagged (Trees.and_specifier (Trees.plain word at) more) h = words_mark_nothing untagged more h
words_mark_nothing untagged (Trees.and_specifier s more) h = cc
