-- What the faults of declarations of one name say: names of the library and `main`, a name that stands for something else, and a second definition
-- (C99 6.2.2, 6.7, 6.9).
use Rattle.std.proofs.Common.{◌≡◌, ◌≢◌, ℕ, zero, suc, Bool, true, false, refl, sym, ap, ◌∙◌, subst, List, [], ◌∷◌, cond, inl, inr, arith}
use Rattle.std.proofs.lemmas.Bool.{and_parts}
use Rattle.std.proofs.lemmas.Slice.Eq.{bytes_eq-Decides}
use Rattle.std.specs.Prelude.{◌⊎◌, ◌&&◌, not, Option, Some, None, Err, slice_get, codes}
use Rattle.std.specs.Str.{bytes_eq}
use Rattle.lay_base.specs.declared.faults.Rule.TheVariants as R
use Rattle.c_types.specs.Sameness.{same_type}
use Rattle.c_types.specs.Types.{CType}
use Rattle.c_types.proofs.SameTypes.{same_is, same_self}
use Rattle.c_ast.specs.declared.words.Spelling.{Spelling}
use Rattle.c_ast.specs.Trees
use Rattle.c_typed.specs.declared.operators.LibraryFunction.{LibraryFunction}
use Rattle.c_typed.specs.Conversions.{is_function}
use Rattle.c_typed.specs.Fits.{library_type}
use Rattle.c_erasure.specs.Broken.{Fault, ill_typed, redeclared}
use Rattle.c_erasure.specs.BrokenFiles.{IsNoneBefore, IsOld, IsAny, IsNoObjectOf, IsNoFunctionOf, IsDefinition, linked_object, linked_function, is_linked}
use Rattle.c_erasure.specs.BrokenFiles.{IsOfOtherLinkage, IsBrokenLibrary, IsOtherwise}
use Rattle.c_erasure.specs.Files.{library_name, IsMainType}
use Rattle.c_erasure.specs.Scopes.{FileScope, Bound, How, declares, tentative, defines, Entity, typedef, enumerator, an_object, a_function}
use Rattle.c_erasure.specs.Scopes.{a_library_function}
use Rattle.c_erasure.specs.Scopes.{a_local, a_parameter, AnObject, AFunction}
use Rattle.c_erasure.specs.Specifiers.{Storage, no_storage, a_typedef, is_extern, is_static, is_auto, is_register, several}
use Rattle.c_erasure.specs.Checking.Answers.{Answer}
use Rattle.c_erasure.specs.Checking.Declaring.{declared_among}
use Rattle.c_erasure.specs.Checking.Files.{is_library_name, first_named, library, library_named, own_name, is_main, main_type, main_function, main_object}
use Rattle.c_erasure.specs.Checking.Files.{once, links}
use Rattle.c_erasure.specs.Checking.Files.{defined_among, linked_before, function_linked_before, linkage_agrees, function_linkage_agrees, known_object}
use Rattle.c_erasure.specs.Checking.Files.{object_of}
use Rattle.c_erasure.specs.Checking.Files.{known_function, function_of, library_again, place_of_bound, declare_library, without_value}
use Rattle.c_checking_laws.proofs.Agreement.{AreBegun}
use Rattle.c_checking_laws.proofs.FaultResults.{same_fault, chosen_err}
use Rattle.c_checking_laws.proofs.NodesOfParts.{same_bytes}
use Rattle.c_checking_laws.proofs.WholeFiles.FileScopes.{MayDeclare}
use Rattle.c_checking_laws.proofs.WholeFiles.Known.{AreObjectsBound, AreFunctionsBound, AreLibrariesBound}
use Rattle.c_checking_laws.proofs.WholeFiles.Names.{declared_is}

-- ---- names of the library

library_name_is : (all : List LibraryFunction) (x : List ℕ) (which : LibraryFunction) → first_named all x ≡ Some which → x ≡ library_name which
library_name_is [] x which h = cc
library_name_is (one ∷ more) x which h = by_test (is_library_name one x) refl (library_name_is more x which) h
  where
    by_test : (b : Bool) → is_library_name one x ≡ b → (first_named more x ≡ Some which → x ≡ library_name which)
        → cond b (Some one) (first_named more x) ≡ Some which → x ≡ library_name which
    by_test true e later h = let same : one ≡ which = cc in sym (same_bytes (library_name one) x e) ∙ ap library_name same
    by_test false e later h = later h

pub named_is : (x : List ℕ) (which : LibraryFunction) → library_named x ≡ Some which → x ≡ library_name which
unfolding library_named
named_is x which h = library_name_is library x which h

pub own_fault : {A : Type 0} (at : ℕ) (o : Option LibraryFunction) (r : Answer A) (fault : Fault) (P : Type 0) → own_name at o r ≡ Err fault
    → ((which : LibraryFunction) → o ≡ Some which → fault ≡ ill_typed R.Library at → P) → (o ≡ None → r ≡ Err fault → P) → P
own_fault at None r fault P h p q = q refl h
own_fault {A} at (Some which) r fault P h p q = p which refl (same_fault A (ill_typed R.Library at) fault h)

pub once_fault : {A : Type 0} (x : Spelling) (o : Option Bound) (r : Answer A) (fault : Fault) (P : Type 0) → once x o r ≡ Err fault
    → ((old : Bound) → o ≡ Some old → fault ≡ redeclared x.text x.from old.place → P) → (o ≡ None → r ≡ Err fault → P) → P
once_fault x None r fault P h p q = q refl h
once_fault {A} x (Some old) r fault P h p q = p old refl (same_fault A (redeclared x.text x.from old.place) fault h)

pub value_fault : {A : Type 0} (at : ℕ) (value : Option (ℕ × Trees.Expression)) (r : Answer A) (fault : Fault) (P : Type 0)
    → without_value at value r ≡ Err fault → ((fault ≡ ill_typed R.Init at) → value ≢ None → P) → (value ≡ None → r ≡ Err fault → P) → P
value_fault at None r fault P h p q = q refl h
value_fault {A} at (Some value) r fault P h p q = p (same_fault A (ill_typed R.Init at) fault h) (λ e. cc)

-- ---- `main`

main_is : (x : List ℕ) → is_main x ≡ true → x ≡ codes "main"
unfolding is_main
main_is x h = sym (same_bytes (codes "main") x h)

not_so : (b : Bool) → not b ≡ true → b ≡ false
not_so true h = cc
not_so false h = refl

same_never : (s t : CType) → same_type s t ≡ false → s ≢ t
same_never s t h e = let k = same_self s t e in let true_is_false = sym k ∙ h in cc

other_name : (a b : List ℕ) → bytes_eq a b ≡ false → a ≢ b
other_name a b h e = let same : bytes_eq a b ≡ true = (bytes_eq-Decides a b).1 e in let true_is_false = sym same ∙ h in cc

main_typed : (x : List ℕ) (t : CType) → (is_main x && not (same_type t main_type)) ≡ false → IsMainType x t
unfolding is_main
main_typed x t h e = by_test (same_type t main_type) refl
  where
    by_test : (b : Bool) → same_type t main_type ≡ b → t ≡ main_type
    by_test true s = same_is t main_type s
    by_test false s =
        let m : is_main x ≡ true = (bytes_eq-Decides (codes "main") x).1 (sym e) in
        let both : (is_main x && not (same_type t main_type)) ≡ true = rw (m, s) refl in
        let true_is_false = sym both ∙ h in
        cc

pub main_function_fault : {A : Type 0} (x : List ℕ) (at : ℕ) (t : CType) (r : Answer A) (fault : Fault) (P : Type 0)
    → main_function x at t r ≡ Err fault
    → (fault ≡ ill_typed R.Main at → x ≡ codes "main" → t ≢ main_type → P) → (IsMainType x t → r ≡ Err fault → P) → P
main_function_fault {A} x at t r fault P h p q =
    chosen_err (is_main x && not (same_type t main_type)) _ _ fault P h
    (λ b h.
    let c = and_parts (is_main x) (not (same_type t main_type)) b in
    p (same_fault A (ill_typed R.Main at) fault h) (main_is x c.0) (same_never t main_type (not_so (same_type t main_type) c.1)))
    (λ b h. q (main_typed x t b) h)

pub main_object_fault : {A : Type 0} (x : List ℕ) (at : ℕ) (linked : Bool) (r : Answer A) (fault : Fault) (P : Type 0)
    → main_object x at linked r ≡ Err fault → (fault ≡ ill_typed R.Main at → x ≡ codes "main" → linked ≡ true → P) → (r ≡ Err fault → P) → P
main_object_fault {A} x at linked r fault P h p q =
    chosen_err (is_main x && linked) _ _ fault P h
    (λ b h. let c = and_parts (is_main x) linked b in p (same_fault A (ill_typed R.Main at) fault h) (main_is x c.0) c.1)
    (λ b h. q h)

-- ---- a name that is declared in the file, wherever its scope begins

-- the first declaration of something else, or the first that defines it
abbrev pub IsTaken : FileScope → Spelling → (Bound → Type 0) → Fault → Type 0
IsTaken f x IsOther fault = (k : ℕ) × (b : Bound) × (slice_get f.names k ≡ Some b) × (b.name ≡ x.text) × IsOther b
    × IsNoneBefore f.names k (λ c. (c.name ≡ x.text) × IsOther c) × (fault ≡ redeclared x.text x.from b.place)

abbrev pub IsTakenOtherwise : FileScope → Storage → CType → Spelling → Fault → Type 0
IsTakenOtherwise f a_typedef t x fault = IsTaken f x IsAny fault
IsTakenOtherwise f words t x fault = ((is_function t ≡ true) × IsTaken f x (IsNoFunctionOf t) fault)
    ⊎ ((is_function t ≡ false) × IsTaken f x (IsNoObjectOf t) fault) ⊎ IsTaken f x (IsOfOtherLinkage f words) fault

-- where all names of the file are in scope before the name, it is redeclared
pub old_of : (f : FileScope) (x : Spelling) (from : ℕ) (P : Bound → Type 0) (fault : Fault) → AreBegun f.names from → IsTaken f x P fault
    → IsOld f x from P fault
old_of f x from P fault begun h = (h.0, h.1, h.2, h.3, begun h.0 h.1 h.2, h.4, h.5, h.6)

three : (f : FileScope) (words : Storage) (t : CType) (x : Spelling) (from : ℕ) (fault : Fault) → AreBegun f.names from
    → ((is_function t ≡ true) × IsTaken f x (IsNoFunctionOf t) fault)
    ⊎ ((is_function t ≡ false) × IsTaken f x (IsNoObjectOf t) fault) ⊎ IsTaken f x (IsOfOtherLinkage f words) fault
    → ((is_function t ≡ true) × IsOld f x from (IsNoFunctionOf t) fault)
    ⊎ ((is_function t ≡ false) × IsOld f x from (IsNoObjectOf t) fault) ⊎ IsOld f x from (IsOfOtherLinkage f words) fault
three f words t x from fault begun (inl h) = inl (h.0, old_of f x from (IsNoFunctionOf t) fault begun h.1)
three f words t x from fault begun (inr (inl h)) = inr (inl (h.0, old_of f x from (IsNoObjectOf t) fault begun h.1))
three f words t x from fault begun (inr (inr h)) = inr (inr (old_of f x from (IsOfOtherLinkage f words) fault begun h))

pub otherwise_of : (f : FileScope) (words : Storage) (t : CType) (x : Spelling) (from : ℕ) (fault : Fault) → AreBegun f.names from
    → IsTakenOtherwise f words t x fault → IsOtherwise f words t x from fault
otherwise_of f a_typedef t x from fault begun h = old_of f x from IsAny fault begun h
otherwise_of f no_storage t x from fault begun h = three f no_storage t x from fault begun h
otherwise_of f is_extern t x from fault begun h = three f is_extern t x from fault begun h
otherwise_of f is_static t x from fault begun h = three f is_static t x from fault begun h
otherwise_of f is_auto t x from fault begun h = three f is_auto t x from fault begun h
otherwise_of f is_register t x from fault begun h = three f is_register t x from fault begun h
otherwise_of f several t x from fault begun h = three f several t x from fault begun h

taken_so : (f : FileScope) (words : Storage) → MayDeclare words → (t : CType) (x : Spelling) (fault : Fault)
    → ((is_function t ≡ true) × IsTaken f x (IsNoFunctionOf t) fault)
    ⊎ ((is_function t ≡ false) × IsTaken f x (IsNoObjectOf t) fault) ⊎ IsTaken f x (IsOfOtherLinkage f words) fault
    → IsTakenOtherwise f words t x fault
taken_so f no_storage m t x fault h = h
taken_so f is_extern m t x fault h = h
taken_so f is_static m t x fault h = h
taken_so f a_typedef m t x fault h = absurd m
taken_so f is_auto m t x fault h = absurd m
taken_so f is_register m t x fault h = absurd m
taken_so f several m t x fault h = absurd m

none_more : (b : Bound) (names : List Bound) (k : ℕ) (Is : Bound → Type 0) → (Is b → ⊥) → IsNoneBefore names k Is → IsNoneBefore (b ∷ names) (suc k) Is
none_more b names k Is other h zero c l e i = let same : b ≡ c = cc in other (subst Is (sym same) i)
none_more b names k Is other h (suc j) c l e i = h j c (omega (arith, l)) e i

-- the first declaration of a name
first_declared : (names : List Bound) (x : List ℕ) (old : Bound) → declared_among names x ≡ Some old
    → (k : ℕ) × (slice_get names k ≡ Some old) × (old.name ≡ x) × IsNoneBefore names k (λ c. c.name ≡ x)
first_declared [] x old h = cc
first_declared (b ∷ names) x old h = by_name (bytes_eq b.name x) refl (λ h. first_declared names x old h) h
  where
    by_name : (t : Bool) → bytes_eq b.name x ≡ t
        → (declared_among names x ≡ Some old → (k : ℕ) × (slice_get names k ≡ Some old) × (old.name ≡ x) × IsNoneBefore names k (λ c. c.name ≡ x))
        → cond t (Some b) (declared_among names x) ≡ Some old
        → (k : ℕ) × (slice_get (b ∷ names) k ≡ Some old) × (old.name ≡ x) × IsNoneBefore (b ∷ names) k (λ c. c.name ≡ x)
    by_name true e later h =
        let same : b ≡ old = cc in
        (0, ap Some same, subst (λ (c : Bound). c.name ≡ x) same (same_bytes b.name x e), λ j c l g n. absurd (omega (arith, l)))
    by_name false e later h =
        let r = later h in (suc r.0, r.1, r.2, none_more b names r.0 (λ c. c.name ≡ x) (λ n. other_name b.name x e n) r.3)

pub taken_by : (f : FileScope) (x : Spelling) (P : Bound → Type 0) (fault : Fault) (old : Bound) → declared_among f.names x.text ≡ Some old → P old
    → fault ≡ redeclared x.text x.from old.place → IsTaken f x P fault
taken_by f x P fault old e p is =
    let d = first_declared f.names x.text old e in (d.0, old, d.1, d.2, p, (λ j c l g i. d.3 j c l g i.0), is)

-- ---- both parts of a test

one_fails : (b c : Bool) → (b && c) ≡ false → (b ≡ false) ⊎ (c ≡ false)
one_fails true c h = inr h
one_fails false c h = inl refl

-- ---- objects

module _ (f : FileScope) (x : Spelling) (fault : Fault) (old : Bound) (declared : declared_among f.names x.text ≡ Some old) where
  taken_as : (words : Storage) (P : Bound → Type 0) → P old → fault ≡ redeclared x.text x.from old.place → IsTaken f x P fault
  taken_as words P p is = taken_by f x P fault old declared p is

  some_linked : (n : ℕ) (o : Option AnObject) → linked_before o ≡ true → linked_object o ≡ Some true
  some_linked n None h = cc
  some_linked n (Some o) h = ap Some h

  linked_so : (n : ℕ) (o : Option AnObject) (b : Bool) → ((q : AnObject) × (o ≡ Some q)) → linked_before o ≡ b → linked_object o ≡ Some b
  linked_so n None b q h = let bad = q.1 in cc
  linked_so n (Some o) b q h = ap Some h

  other_linkage : (words : Storage) → MayDeclare words → (n : ℕ) (u : CType) → old.entity ≡ an_object n u
      → ((o : AnObject) × (slice_get f.objects n ≡ Some o)) → linkage_agrees words (linked_before (slice_get f.objects n)) ≡ false
      → IsOfOtherLinkage f words old
  other_linkage no_storage m n u e stands h =
      ((n, u, e), ap (is_linked f) e ∙ linked_so n (slice_get f.objects n) false stands h)
  other_linkage is_extern m n u e stands h = cc
  other_linkage is_static m n u e stands h =
      ap (is_linked f) e ∙ linked_so n (slice_get f.objects n) true stands (negated (linked_before (slice_get f.objects n)) h)
    where
      negated : (b : Bool) → not b ≡ false → b ≡ true
      negated true h = refl
      negated false h = cc
  other_linkage a_typedef m n u e stands h = absurd m
  other_linkage is_auto m n u e stands h = absurd m
  other_linkage is_register m n u e stands h = absurd m
  other_linkage several m n u e stands h = absurd m

  abbrev is_again : Type 0
  is_again = fault ≡ redeclared x.text x.from old.place

  known_fault : (words : Storage) → MayDeclare words → (t : CType) → is_function t ≡ false → AreObjectsBound f.names f.objects → (e : Entity)
      → old.entity ≡ e → known_object f words x t old e ≡ Err fault → IsTakenOtherwise f words t x fault
  known_fault words m t no_function bound (an_object n u) e h =
      chosen_err (same_type u t && linkage_agrees words (linked_before (slice_get f.objects n))) _ _ fault (IsTakenOtherwise f words t x fault) h
      (λ b h. cc)
      (λ b h.
      let is = same_fault (ℕ × FileScope) (redeclared x.text x.from old.place) fault h in
      by_part is (one_fails (same_type u t) (linkage_agrees words (linked_before (slice_get f.objects n))) b))
    where
      by_part : is_again → (same_type u t ≡ false) ⊎ (linkage_agrees words (linked_before (slice_get f.objects n)) ≡ false)
          → IsTakenOtherwise f words t x fault
      by_part is (inl b) =
          taken_so f words m t x fault (inr (inl (
            no_function,
            taken_as words (IsNoObjectOf t)
                (λ k j. let other = same_never u t b in let w : u ≡ t = let i = sym e ∙ j in cc in other w) is,
          )))
      by_part is (inr b) =
          let d = declared_is f.names x.text old declared in
          let o = bound d.0 old d.1 n u e in
          taken_so f words m t x fault (inr (inr (taken_as words (IsOfOtherLinkage f words) (other_linkage words m n u e (o.0, o.1) b) is)))
  known_fault words m t no_function bound (typedef u) e h =
      taken_so f words m t x fault (inr (inl (
        no_function,
        taken_as words (IsNoObjectOf t) (λ k j. let i = sym e ∙ j in cc)
            (same_fault (ℕ × FileScope) (redeclared x.text x.from old.place) fault h),
      )))
  known_fault words m t no_function bound (enumerator v) e h =
      taken_so f words m t x fault (inr (inl (
        no_function,
        taken_as words (IsNoObjectOf t) (λ k j. let i = sym e ∙ j in cc)
            (same_fault (ℕ × FileScope) (redeclared x.text x.from old.place) fault h),
      )))
  known_fault words m t no_function bound (a_function n u) e h =
      taken_so f words m t x fault (inr (inl (
        no_function,
        taken_as words (IsNoObjectOf t) (λ k j. let i = sym e ∙ j in cc)
            (same_fault (ℕ × FileScope) (redeclared x.text x.from old.place) fault h),
      )))
  known_fault words m t no_function bound (a_library_function which) e h =
      taken_so f words m t x fault (inr (inl (
        no_function,
        taken_as words (IsNoObjectOf t) (λ k j. let i = sym e ∙ j in cc)
            (same_fault (ℕ × FileScope) (redeclared x.text x.from old.place) fault h),
      )))
  known_fault words m t no_function bound (a_local n u) e h =
      taken_so f words m t x fault (inr (inl (
        no_function,
        taken_as words (IsNoObjectOf t) (λ k j. let i = sym e ∙ j in cc)
            (same_fault (ℕ × FileScope) (redeclared x.text x.from old.place) fault h),
      )))
  known_fault words m t no_function bound (a_parameter u) e h =
      taken_so f words m t x fault (inr (inl (
        no_function,
        taken_as words (IsNoObjectOf t) (λ k j. let i = sym e ∙ j in cc)
            (same_fault (ℕ × FileScope) (redeclared x.text x.from old.place) fault h),
      )))

  -- ---- functions

  function_linked_so : (o : Option AFunction) (b : Bool) → ((q : AFunction) × (o ≡ Some q)) → function_linked_before o ≡ b
      → linked_function o ≡ Some b
  function_linked_so None b q h = let bad = q.1 in cc
  function_linked_so (Some o) b q h = ap Some h

  other_function_linkage : (words : Storage) → MayDeclare words → (n : ℕ) (u : CType) → old.entity ≡ a_function n u
      → ((o : AFunction) × (slice_get f.functions n ≡ Some o))
      → function_linkage_agrees words (function_linked_before (slice_get f.functions n)) ≡ false
      → IsOfOtherLinkage f words old
  other_function_linkage no_storage m n u e stands h = cc
  other_function_linkage is_extern m n u e stands h = cc
  other_function_linkage is_static m n u e stands h =
      ap (is_linked f) e ∙ function_linked_so (slice_get f.functions n) true stands (negated (function_linked_before (slice_get f.functions n)) h)
    where
      negated : (b : Bool) → not b ≡ false → b ≡ true
      negated true h = refl
      negated false h = cc
  other_function_linkage a_typedef m n u e stands h = absurd m
  other_function_linkage is_auto m n u e stands h = absurd m
  other_function_linkage is_register m n u e stands h = absurd m
  other_function_linkage several m n u e stands h = absurd m

  known_function_fault : (words : Storage) → MayDeclare words → (t : CType) → is_function t ≡ true → AreFunctionsBound f.names f.functions
      → AreLibrariesBound f.names → library_named x.text ≡ None → (e : Entity) → old.entity ≡ e → known_function f words x t old e ≡ Err fault
      → IsTakenOtherwise f words t x fault
  known_function_fault words m t is_one bound libraries own (a_function n u) e h =
      chosen_err (same_type u t && function_linkage_agrees words (function_linked_before (slice_get f.functions n))) _ _ fault
      (IsTakenOtherwise f words t x fault) h
      (λ b h. cc)
      (λ b h.
      let is = same_fault (ℕ × FileScope) (redeclared x.text x.from old.place) fault h in
      by_part is (one_fails (same_type u t) (function_linkage_agrees words (function_linked_before (slice_get f.functions n))) b))
    where
      by_part : is_again → (same_type u t ≡ false) ⊎ (function_linkage_agrees words (function_linked_before (slice_get f.functions n)) ≡ false)
          → IsTakenOtherwise f words t x fault
      by_part is (inl b) =
          taken_so f words m t x fault (inl (
            is_one,
            taken_as words (IsNoFunctionOf t)
                ((λ k j. let other = same_never u t b in let w : u ≡ t = let i = sym e ∙ j in cc in other w), (λ which j. let i = sym e ∙ j in cc)) is,
          ))
      by_part is (inr b) =
          let d = declared_is f.names x.text old declared in
          let o = bound d.0 old d.1 n u e in
          taken_so f words m t x fault (inr (inr (taken_as words (IsOfOtherLinkage f words) (other_function_linkage words m n u e (o.0, o.1) b) is)))
  known_function_fault words m t is_one bound libraries own (a_library_function which) e h =
      let d = declared_is f.names x.text old declared in
      let named = libraries d.0 old d.1 which e in
      let none_is_some = sym own ∙ ap library_named (sym d.2) ∙ named in
      cc
  known_function_fault words m t is_one bound libraries own (typedef u) e h =
      taken_so f words m t x fault (inl (
        is_one,
        taken_as words (IsNoFunctionOf t) (
          (λ k j. let i = sym e ∙ j in cc),
          (λ which j. let i = sym e
              ∙ j in cc),
        )
            (same_fault (ℕ × FileScope) (redeclared x.text x.from old.place) fault h),
      ))
  known_function_fault words m t is_one bound libraries own (enumerator v) e h =
      taken_so f words m t x fault (inl (
        is_one,
        taken_as words (IsNoFunctionOf t) (
          (λ k j. let i = sym e ∙ j in cc),
          (λ which j. let i = sym e
              ∙ j in cc),
        )
            (same_fault (ℕ × FileScope) (redeclared x.text x.from old.place) fault h),
      ))
  known_function_fault words m t is_one bound libraries own (an_object n u) e h =
      taken_so f words m t x fault (inl (
        is_one,
        taken_as words (IsNoFunctionOf t) (
          (λ k j. let i = sym e ∙ j in cc),
          (λ which j. let i = sym e
              ∙ j in cc),
        )
            (same_fault (ℕ × FileScope) (redeclared x.text x.from old.place) fault h),
      ))
  known_function_fault words m t is_one bound libraries own (a_local n u) e h =
      taken_so f words m t x fault (inl (
        is_one,
        taken_as words (IsNoFunctionOf t) (
          (λ k j. let i = sym e ∙ j in cc),
          (λ which j. let i = sym e
              ∙ j in cc),
        )
            (same_fault (ℕ × FileScope) (redeclared x.text x.from old.place) fault h),
      ))
  known_function_fault words m t is_one bound libraries own (a_parameter u) e h =
      taken_so f words m t x fault (inl (
        is_one,
        taken_as words (IsNoFunctionOf t) (
          (λ k j. let i = sym e ∙ j in cc),
          (λ which j. let i = sym e
              ∙ j in cc),
        )
            (same_fault (ℕ × FileScope) (redeclared x.text x.from old.place) fault h),
      ))

-- an object that is declared for the first time, or again
pub object_of_fault : (f : FileScope) (words : Storage) → MayDeclare words → (x : Spelling) (place : ℕ) (t : CType) → is_function t ≡ false
    → AreObjectsBound f.names f.objects → (o : Option Bound) → declared_among f.names x.text ≡ o → (fault : Fault) (P : Type 0)
    → object_of f words x place t o ≡ Err fault
    → (fault ≡ ill_typed R.Main x.from → x.text ≡ codes "main" → links words ≡ true → o ≡ None → P) → (IsTakenOtherwise f words t x fault → P) → P
unfolding object_of
object_of_fault f words m x place t no_function bound None e fault P h p q =
    main_object_fault x.text x.from (links words) _ fault P h (λ is name linked. p is name linked refl) (λ h. cc)
object_of_fault f words m x place t no_function bound (Some old) e fault P h p q =
    q (known_fault f x fault old e words m t no_function bound old.entity refl h)

pub function_of_fault : (f : FileScope) (words : Storage) → MayDeclare words → (x : Spelling) (place : ℕ) (t : CType) (nodes : ℕ)
    → is_function t ≡ true
    → AreFunctionsBound f.names f.functions → AreLibrariesBound f.names → library_named x.text ≡ None → (o : Option Bound)
    → declared_among f.names x.text ≡ o → (fault : Fault) → function_of f words x place t nodes o ≡ Err fault → IsTakenOtherwise f words t x fault
unfolding function_of
function_of_fault f words m x place t nodes is_one bound libraries own None e fault h = cc
function_of_fault f words m x place t nodes is_one bound libraries own (Some old) e fault h =
    known_function_fault f x fault old e words m t is_one bound libraries own old.entity refl h

-- ---- functions of the library

-- no function of the file has a name of the library
abbrev pub AreOwnFunctions : List Bound → Type 0
AreOwnFunctions names = (k : ℕ) (b : Bound) → slice_get names k ≡ Some b → (n : ℕ)
    (t : CType) → b.entity ≡ a_function n t → library_named b.name ≡ None

not_linked : (words : Storage) → links words ≡ false → words ≡ is_static
not_linked is_static h = refl
not_linked no_storage h = cc
not_linked a_typedef h = cc
not_linked is_extern h = cc
not_linked is_auto h = cc
not_linked is_register h = cc
not_linked several h = cc

pub library_fault : (f : FileScope) (words : Storage) → MayDeclare words → (x : Spelling) (from : ℕ) (t : CType) (which : LibraryFunction)
    → is_function t ≡ true → library_named x.text ≡ Some which → AreOwnFunctions f.names → (fault : Fault)
    → declare_library f words x from t which ≡ Err fault
    → ((fault ≡ ill_typed R.Library x.from) × IsBrokenLibrary words t x.text) ⊎ IsTakenOtherwise f words t x fault
library_fault f words m x from t which is_one named own fault h =
    chosen_err (same_type t (library_type which) && links words) _ _ fault
    (((fault ≡ ill_typed R.Library x.from) × IsBrokenLibrary words t x.text) ⊎ IsTakenOtherwise f words t x fault) h
    (λ b h. again (declared_among f.names x.text) refl h)
    (λ b h.
    inl (
      same_fault FileScope (ill_typed R.Library x.from) fault h,
      (which, named_is x.text which named, either (one_fails (same_type t (library_type which)) (links words) b)),
    ))
  where
    either : (same_type t (library_type which) ≡ false) ⊎ (links words ≡ false) → (words ≡ a_typedef) ⊎ (words ≡ is_static) ⊎ (t ≢ library_type which)
    either (inl b) = inr (inr (same_never t (library_type which) b))
    either (inr b) = inr (inl (not_linked words b))

    another : (old : Bound) → declared_among f.names x.text ≡ Some old → (e : Entity) → old.entity ≡ e
        → cond (library_again which (Some (record old { entity = e }))) (Rattle.c_checking_laws.proofs.Results.ok
        (Rattle.c_erasure.specs.Checking.Declaring.with_bound f
        (Rattle.c_erasure.specs.Files.bound x from declares (a_library_function which))))
        (Err (redeclared x.text x.from old.place)) ≡ Err fault → IsNoFunctionOf t old × (fault ≡ redeclared x.text x.from old.place)
    another old d (a_library_function other) e h = cc
    another old d (a_function n u) e h =
        let k = declared_is f.names x.text old d in
        let none = own k.0 old k.1 n u e in
        let none_is_some = sym none ∙ ap library_named k.2 ∙ named in
        cc
    another old d (typedef u) e h =
        (((λ k j. let i = sym e ∙ j in cc), (λ which j. let i = sym e ∙ j in cc)), same_fault FileScope (redeclared x.text x.from old.place) fault h)
    another old d (enumerator v) e h =
        (((λ k j. let i = sym e ∙ j in cc), (λ which j. let i = sym e ∙ j in cc)), same_fault FileScope (redeclared x.text x.from old.place) fault h)
    another old d (an_object n u) e h =
        (((λ k j. let i = sym e ∙ j in cc), (λ which j. let i = sym e ∙ j in cc)), same_fault FileScope (redeclared x.text x.from old.place) fault h)
    another old d (a_local n u) e h =
        (((λ k j. let i = sym e ∙ j in cc), (λ which j. let i = sym e ∙ j in cc)), same_fault FileScope (redeclared x.text x.from old.place) fault h)
    another old d (a_parameter u) e h =
        (((λ k j. let i = sym e ∙ j in cc), (λ which j. let i = sym e ∙ j in cc)), same_fault FileScope (redeclared x.text x.from old.place) fault h)

    again : (o : Option Bound) → declared_among f.names x.text ≡ o
        → cond (library_again which o) (Rattle.c_checking_laws.proofs.Results.ok (Rattle.c_erasure.specs.Checking.Declaring.with_bound f
        (Rattle.c_erasure.specs.Files.bound x from declares (a_library_function which)))) (Err (redeclared x.text x.from
        (place_of_bound o))) ≡ Err fault
        → ((fault ≡ ill_typed R.Library x.from) × IsBrokenLibrary words t x.text) ⊎ IsTakenOtherwise f words t x fault
    again None d h = cc
    again (Some old) d h =
        let a = another old d old.entity refl h in
        inr (taken_so f words m t x fault (inl (is_one, taken_by f x (IsNoFunctionOf t) fault old d a.0 a.1)))

-- ---- a second definition

abbrev DefinedFirst : List Bound → List ℕ → Bound → Type 0
DefinedFirst names x old = (k : ℕ) × (slice_get names k ≡ Some old) × (old.name ≡ x) × (old.how ≡ defines)
    × IsNoneBefore names k (λ c. (c.name ≡ x) × IsDefinition c)

defined_is : (names : List Bound) (x : List ℕ) (old : Bound) → defined_among names x ≡ Some old → DefinedFirst names x old
defined_is [] x old h = cc
defined_is (b ∷ names) x old h = by_name (bytes_eq b.name x) refl b.how refl (λ h. defined_is names x old h) h
  where
    further_on : ((b.name ≡ x) × IsDefinition b → ⊥) → DefinedFirst names x old → DefinedFirst (b ∷ names) x old
    further_on other r = (suc r.0, r.1, r.2, r.3, none_more b names r.0 (λ c. (c.name ≡ x) × IsDefinition c) other r.4)

    by_name : (t : Bool) → bytes_eq b.name x ≡ t → (how : How) → b.how ≡ how → (defined_among names x ≡ Some old → DefinedFirst names x old)
        → defined_among (b ∷ names) x ≡ Some old → DefinedFirst (b ∷ names) x old
    by_name true e defines i later h =
        let found : defined_among (b ∷ names) x ≡ Some b = rw (e, i) refl in
        let some : Some b ≡ Some old = sym found ∙ h in
        let same : b ≡ old = cc in (
          0,
          ap Some same,
          subst (λ (c : Bound). c.name ≡ x) same (same_bytes b.name x e),
          subst (λ (c : Bound). c.how ≡ defines) same i,
          λ j c l g n. absurd (omega (arith, l)),
        )
    by_name true e declares i later h =
        let found : defined_among (b ∷ names) x ≡ defined_among names x = rw (e, i) refl in
        further_on (λ n. let bad = sym i ∙ n.1 in cc) (later (sym found ∙ h))
    by_name true e tentative i later h =
        let found : defined_among (b ∷ names) x ≡ defined_among names x = rw (e, i) refl in
        further_on (λ n. let bad = sym i ∙ n.1 in cc) (later (sym found ∙ h))
    by_name false e how i later h =
        let found : defined_among (b ∷ names) x ≡ defined_among names x = rw e refl in
        further_on (λ n. other_name b.name x e n.0) (later (sym found ∙ h))

pub twice_defined : (f : FileScope) (x : Spelling) (fault : Fault) (old : Bound) → defined_among f.names x.text ≡ Some old
    → fault ≡ redeclared x.text x.from old.place → IsTaken f x IsDefinition fault
twice_defined f x fault old e is = let d = defined_is f.names x.text old e in (d.0, old, d.1, d.2, d.3, d.4, is)
