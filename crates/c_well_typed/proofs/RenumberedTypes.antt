-- Rules on types hold of types with other numbers of records (C99 6.3, 6.5).
use Rattle.std.proofs.Common.{◌≡◌, ◌∙◌, ℕ, ◌+◌, Bool, true, false, refl, sym, ap, subst, cond, List, [], ◌∷◌, map}
use Rattle.std.specs.Prelude.{◌&&◌, ◌||◌, not, Option, Some, None}
use Rattle.std.specs.Option.{option_map}
use Rattle.c_types.specs.Types.{CType, CTypes, void, integer, pointer, array, function, structure, no_types, and_type}
use Rattle.c_types.specs.Objects.{parts, parts_of_all}
use Rattle.c_types.specs.Sameness.{same_type}
use Rattle.c_types.specs.Views.{listed}
use Rattle.c_types.proofs.SameTypes.{same_is, same_self}
use Rattle.c_numbers.specs.TypeNumbers.Renumbered.{renumbered, all_renumbered}
use Rattle.c_typed.specs.declared.operators.BinaryOp.{BinaryOp}
use Rattle.c_typed.specs.declared.operators.CompareOp.{CompareOp}
use Rattle.c_typed.specs.declared.operators.CompareOp.TheVariants.{Equal, NotEqual}
use Rattle.c_typed.specs.declared.operators.LibraryFunction.{LibraryFunction}
use Rattle.c_typed.specs.declared.operators.LibraryFunction.TheVariants.{Malloc, Calloc, Free, Memcpy, Memmove, Memset, Memcmp, Putchar, Getchar, Exit}
use Rattle.c_typed.specs.Conversions.{is_integer, is_pointer, is_scalar, is_function, pointed, element_of}
use Rattle.c_typed.specs.Constants.{Constant, kind_of, converted_constant}
use Rattle.c_typed.specs.Fits.{is_void, is_void_and_object, assigns, casts, met, meeting, ordered, compared, library_type}
use Rattle.c_typed.specs.Rules.{promoting, arithmetic, on_numbers, or_else, comparing, both_void, choosing}

module _ (f : ℕ → ℕ) where
  abbrev R : CType → CType
  R t = renumbered f t

  -- ---- sorts of types

  pub scalar_same : (t : CType) → is_scalar (R t) ≡ is_scalar t
  scalar_same void = refl
  scalar_same t = refl

  pub pointer_same : (t : CType) → is_pointer (R t) ≡ is_pointer t
  pointer_same void = refl
  pointer_same t = refl

  pub integer_same : (t : CType) → is_integer (R t) ≡ is_integer t
  integer_same void = refl
  integer_same t = refl

  pub function_same : (t : CType) → is_function (R t) ≡ is_function t
  function_same void = refl
  function_same t = refl

  pub void_same : (t : CType) → is_void (R t) ≡ is_void t
  void_same void = refl
  void_same t = refl

  pub pointed_same : (t : CType) → pointed (R t) ≡ option_map R (pointed t)
  pointed_same void = refl
  pointed_same t = refl

  pub element_same : (t : CType) → element_of (R t) ≡ option_map R (element_of t)
  element_same void = refl
  element_same t = refl

  pub kind_same : (t : CType) → kind_of (R t) ≡ kind_of t
  kind_same void = refl
  kind_same t = refl

  pub conversion_same : (t : CType) (c : Constant) → converted_constant (R t) c ≡ converted_constant t c
  conversion_same void c = refl
  conversion_same t c = refl

  -- a number has the same type
  pub integer_stays : (t : CType) → is_integer t ≡ true → R t ≡ t
  integer_stays (integer k) h = refl
  integer_stays t h = cc

  pub types_listed : (all : List CType) → listed (map R all) ≡ all_renumbered f (listed all)
  types_listed [] = refl
  types_listed (t ∷ all) = ap (and_type (R t)) (types_listed all)

  -- ---- types that are the same

  pub same_again : (s t : CType) → same_type s t ≡ true → same_type (R s) (R t) ≡ true
  same_again s t h = same_self (R s) (R t) (ap R (same_is s t h))

  objects_again : (s t : CType) → is_void_and_object (R s) (R t) ≡ is_void_and_object s t
  objects_again s t = rw (void_same s, void_same t, function_same s, function_same t) refl

  -- ---- numbers

  pub promoting_same : (t : CType) → promoting (R t) ≡ promoting t
  promoting_same void = refl
  promoting_same t = refl

  pub arithmetic_same : (s t : CType) → arithmetic (R s) (R t) ≡ arithmetic s t
  arithmetic_same (integer k) void = refl
  arithmetic_same (integer k) t = refl
  arithmetic_same void t = refl
  arithmetic_same s t = refl

  pub on_numbers_same : (op : BinaryOp) (s t : CType) → on_numbers op (R s) (R t) ≡ on_numbers op s t
  on_numbers_same op s t = rw (promoting_same s, promoting_same t, arithmetic_same s t) refl

  -- ---- assignments and casts

  either_again : (b c d : Bool) (x y : Bool) → (c ≡ true → d ≡ true) → x ≡ y → (b || c || x) ≡ true → (b || d || y) ≡ true
  either_again true c d x y h e g = refl
  either_again false true d x y h e g = rw (h refl) refl
  either_again false false true x y h e g = refl
  either_again false false false x y h e g = sym e ∙ g

  pub assigns_again : (s t : CType) (b : Bool) → assigns s b t ≡ true → assigns (R s) b (R t) ≡ true
  assigns_again (integer k) (integer l) b h = refl
  assigns_again (integer k) (pointer t) b h = h
  assigns_again (pointer s) (pointer t) b h =
      either_again b (same_type s t) (same_type (R s) (R t)) (is_void_and_object s t) (is_void_and_object (R s) (R t)) (same_again s t)
      (sym (objects_again s t)) h
  assigns_again s t b h = cc

  pub casts_same : (s t : CType) (b : Bool) → casts (R s) b (R t) ≡ casts s b t
  casts_same (pointer s) (pointer t) b = rw (function_same s, function_same t) refl
  casts_same s void b = refl
  casts_same s t b = refl

  -- ---- two pointers together

  some_is : (x y : CType) → Some x ≡ Some y → x ≡ y
  some_is x y h = cc

  met_again : (s t u : CType) (b c : Bool) → met s b t c ≡ Some u → met (R s) b (R t) c ≡ Some (R u)
  met_again s t u b c h = by_same (same_type s t) refl h
    where
      found : (v : CType) → Some (pointer v) ≡ Some u → Some (pointer (R v)) ≡ Some (R u)
      found v e = ap (λ u. Some (R u)) (some_is (pointer v) u e)

      -- the same, now that both have other numbers
      by_new : (x : CType) (d : Bool) → same_type (R s) (R t) ≡ d → (d ≡ true → R s ≡ R x) → Some (pointer x) ≡ Some u
          → cond d (Some (pointer (R s))) (Some (pointer (R x))) ≡ Some (R u)
      by_new x true e g k = ap (λ v. Some (pointer v)) (g refl) ∙ found x k
      by_new x false e g k = found x k

      void_is : (d : Bool) → same_type (R s) (R t) ≡ d → is_void_and_object s t ≡ true → d ≡ true → R s ≡ void
      void_is d e o g = by_void (is_void s) refl (is_void t) refl
        where
          alike : R s ≡ R t
          alike = same_is (R s) (R t) (e ∙ g)

          void_of : (v : CType) → is_void v ≡ true → v ≡ void
          void_of void h = refl
          void_of v h = cc

          by_void : (x : Bool) → is_void s ≡ x → (y : Bool) → is_void t ≡ y → R s ≡ void
          by_void true p y q = ap R (void_of s p)
          by_void false p true q = alike ∙ ap R (void_of t q)
          by_void false p false q =
              let no : (false && not (is_function t) || false && not (is_function s)) ≡ true = rw (p, q) at o in
              cc

      by_objects : (o : Bool) → is_void_and_object s t ≡ o → cond o (Some (pointer void)) None ≡ Some u
          → cond (same_type (R s) (R t)) (Some (pointer (R s))) (cond (is_void_and_object (R s) (R t)) (Some (pointer void)) None) ≡ Some (R u)
      by_objects true o k =
          rw (objects_again s t ∙ o) (by_new void (same_type (R s) (R t)) refl (void_is (same_type (R s) (R t)) refl o) k)
      by_objects false o k = cc

      by_nulls : (b c : Bool) → cond b (Some (pointer t)) (cond c (Some (pointer s)) (cond (is_void_and_object s t) (Some (pointer void)) None)) ≡ Some u
          → cond (same_type (R s) (R t)) (Some (pointer (R s)))
          (cond b (Some (pointer (R t))) (cond c (Some (pointer (R s))) (cond (is_void_and_object (R s) (R t)) (Some (pointer void)) None))) ≡ Some (R u)
      by_nulls true c k = by_new t (same_type (R s) (R t)) refl (λ g. same_is (R s) (R t) g) k
      by_nulls false true k = by_new s (same_type (R s) (R t)) refl (λ g. refl) k
      by_nulls false false k = by_objects (is_void_and_object s t) refl k

      by_same : (d : Bool) → same_type s t ≡ d
          → cond d (Some (pointer s)) (cond b (Some (pointer t)) (cond c (Some (pointer s)) (cond (is_void_and_object s t) (Some (pointer void)) None))) ≡ Some u
          → met (R s) b (R t) c ≡ Some (R u)
      by_same true e k = rw (same_again s t e) (found s k)
      by_same false e k = by_nulls b c k

  meeting_again : (s t u : CType) (b c : Bool) → meeting s b t c ≡ Some u → meeting (R s) b (R t) c ≡ Some (R u)
  meeting_again (pointer s) (pointer t) u b c h = met_again s t u b c h
  meeting_again (pointer s) (integer k) u b true h = ap (λ u. Some (R u)) (some_is (pointer s) u h)
  meeting_again (pointer s) (integer k) u b false h = cc
  meeting_again (integer k) (pointer t) u true c h = ap (λ u. Some (R u)) (some_is (pointer t) u h)
  meeting_again (integer k) t u true c h = cc
  meeting_again (integer k) t u false c h = cc
  meeting_again s t u b c h = cc

  ordered_again : (s t u : CType) → ordered s t ≡ Some u → ordered (R s) (R t) ≡ Some (R u)
  ordered_again (pointer s) (pointer t) u h = by_tests (is_function s) refl (same_type s t) refl h
    where
      by_tests : (g : Bool) → is_function s ≡ g → (d : Bool) → same_type s t ≡ d → cond (not g && d) (Some (pointer s)) None ≡ Some u
          → ordered (pointer (R s)) (pointer (R t)) ≡ Some (R u)
      by_tests false i true e k = rw (function_same s ∙ i, same_again s t e) (ap (λ u. Some (R u)) (some_is (pointer s) u k))
      by_tests false i false e k = cc
      by_tests true i d e k = cc
  ordered_again s t u h = cc

  compared_again : (op : CompareOp) (s t u : CType) (b c : Bool) → compared op s b t c ≡ Some u → compared op (R s) b (R t) c ≡ Some (R u)
  compared_again Equal s t u b c h = meeting_again s t u b c h
  compared_again NotEqual s t u b c h = meeting_again s t u b c h
  compared_again op s t u b c h = ordered_again s t u h

  number_again : (s t u : CType) → arithmetic s t ≡ Some u → R u ≡ u
  number_again (integer k) (integer l) u h = subst (λ u. R u ≡ u) (some_is _ u h) refl
  number_again s t u h = cc

  pub comparing_again : (op : CompareOp) (s t u : CType) (b c : Bool) → comparing op s b t c ≡ Some u → comparing op (R s) b (R t) c ≡ Some (R u)
  comparing_again op s t u b c h = by_numbers (arithmetic s t) refl h
    where
      by_numbers : (o : Option CType) → arithmetic s t ≡ o → or_else o (compared op s b t c) ≡ Some u → comparing op (R s) b (R t) c ≡ Some (R u)
      by_numbers (Some v) e k =
          let is = some_is v u k in
          rw (arithmetic_same s t ∙ e) (k ∙ ap Some (sym (number_again s t u (e ∙ k))))
      by_numbers None e k = rw (arithmetic_same s t ∙ e) (compared_again op s t u b c k)

  voids_again : (s t u : CType) → both_void s t ≡ Some u → both_void (R s) (R t) ≡ Some (R u)
  voids_again void void u h = ap (λ u. Some (R u)) (some_is void u h)
  voids_again s t u h = cc

  pub choosing_again : (s t u : CType) (b c : Bool) → choosing s b t c ≡ Some u → choosing (R s) b (R t) c ≡ Some (R u)
  choosing_again s t u b c h = by_numbers (arithmetic s t) refl h
    where
      no_void : (v w : CType) → meeting s b t c ≡ None → both_void s t ≡ Some u → meeting (R s) b (R t) c ≡ None
      no_void v w m k = by_type s t k
        where
          by_type : (s t : CType) → both_void s t ≡ Some u → meeting (R s) b (R t) c ≡ None
          by_type void void k = refl
          by_type s t k = cc

      by_pointers : (o : Option CType) → meeting s b t c ≡ o → or_else o (both_void s t) ≡ Some u
          → or_else (meeting (R s) b (R t) c) (both_void (R s) (R t)) ≡ Some (R u)
      by_pointers (Some v) e k =
          let m = meeting_again s t u b c (e ∙ k) in
          rw m refl
      by_pointers None e k = rw (no_void s t e k) (voids_again s t u k)

      by_numbers : (o : Option CType) → arithmetic s t ≡ o → or_else o (or_else (meeting s b t c) (both_void s t)) ≡ Some u
          → choosing (R s) b (R t) c ≡ Some (R u)
      by_numbers (Some v) e k = rw (arithmetic_same s t ∙ e) (k ∙ ap Some (sym (number_again s t u (e ∙ k))))
      by_numbers None e k = rw (arithmetic_same s t ∙ e) (by_pointers (meeting s b t c) refl k)

  -- ---- the library's functions hold no record

  pub library_same : (which : LibraryFunction) → R (library_type which) ≡ library_type which
  library_same Malloc = refl
  library_same Calloc = refl
  library_same Free = refl
  library_same Memcpy = refl
  library_same Memmove = refl
  library_same Memset = refl
  library_same Memcmp = refl
  library_same Putchar = refl
  library_same Getchar = refl
  library_same Exit = refl

  -- ---- as many parts

  mutual
    pub parts_same : (t : CType) → parts (R t) ≡ parts t
    parts_same void = refl
    parts_same (integer k) = refl
    parts_same (pointer t) = ap (λ n. n + 1) (parts_same t)
    parts_same (array t n) = ap (λ n. n + 1) (parts_same t)
    parts_same (function t all) = rw (parts_same t, all_parts_same all) refl
    parts_same (structure r) = refl

    all_parts_same : (all : CTypes) → parts_of_all (all_renumbered f all) ≡ parts_of_all all
    all_parts_same no_types = refl
    all_parts_same (and_type t more) = rw (parts_same t, all_parts_same more) refl
