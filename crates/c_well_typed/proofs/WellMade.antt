-- Types of which each function gives a number, a pointer or nothing and takes numbers and pointers, and each array has at least one element, of a type that
-- elements may have (C99 6.7.5.2, 6.7.5.3): a complete one, or whatever else is asked. What the rules of operators make of such types is such a type.
use Rattle.std.proofs.Common.{◌≡◌, ℕ, ◌≤◌, Bool, true, false, refl, subst, cond, inl, inr}
use Rattle.std.specs.Prelude.{Option, Some, None}
use Rattle.std.specs.Option.{option_map}
use Rattle.c_types.specs.Objects.{is_object}
use Rattle.c_types.specs.Sameness.{same_type}
use Rattle.c_types.specs.Types.{CType, CTypes, void, integer, pointer, array, function, structure, no_types, and_type}
use Rattle.c_typed.specs.declared.operators.CompareOp.{CompareOp}
use Rattle.c_typed.specs.declared.operators.CompareOp.TheVariants.{Equal, NotEqual}
use Rattle.c_typed.specs.declared.operators.LibraryFunction.{LibraryFunction}
use Rattle.c_typed.specs.declared.operators.LibraryFunction.TheVariants.{Malloc, Calloc, Free, Memcpy, Memmove, Memset, Memcmp, Putchar, Getchar, Exit}
use Rattle.c_typed.specs.Conversions.{is_integer, is_scalar, pointed, element_of}
use Rattle.c_typed.specs.Fits.{library_type, is_void_and_object, met, meeting, ordered, compared}
use Rattle.c_typed.specs.Rules.{arithmetic, or_else, both_void, comparing, choosing}
use Rattle.c_well_typed.specs.WellTyped.{IsResult}
use Rattle.c_well_typed.proofs.Fitting.{arithmetic_is, ordered_is}

some_is : {A : Type 0} (x y : A) → Some x ≡ Some y → x ≡ y
some_is x y h = cc

-- `IsElement` is what is asked of the types of elements
module _ (IsElement : CType → Type 0) where
  abbrev mutual
    pub IsMade : CType → Type 0
    IsMade void = Unit {0}
    IsMade (integer kind) = Unit {0}
    IsMade (pointer t) = IsMade t
    IsMade (array t n) = (1 ≤ n) × IsElement t × IsMade t
    IsMade (function t all) = IsResult t × IsMade t × AreMade all
    IsMade (structure r) = Unit {0}

    pub AreMade : CTypes → Type 0
    AreMade no_types = Unit {0}
    AreMade (and_type t more) = (is_scalar t ≡ true) × IsMade t × AreMade more

  abbrev W : CType → Type 0
  W = IsMade

  -- ---- parts of types

  pub integer_made : (t : CType) → is_integer t ≡ true → W t
  integer_made (integer kind) h = tt
  integer_made t h = cc

  pub pointed_made : (p t : CType) → pointed p ≡ Some t → W p → W t
  pointed_made (pointer u) t h w = subst W (some_is u t h) w
  pointed_made p t h w = cc

  pub decayed_made : (a t : CType) → option_map pointer (element_of a) ≡ Some t → W a → W t
  decayed_made (array u n) t h w = subst W (some_is (pointer u) t h) w.2
  decayed_made a t h w = cc

  pub element_made : (a t : CType) → element_of a ≡ Some t → W a → W t
  element_made (array u n) t h w = subst W (some_is u t h) w.2
  element_made a t h w = cc

  -- ---- operators

  arithmetic_made : (s t u : CType) → arithmetic s t ≡ Some u → W u
  arithmetic_made s t u h = integer_made u (arithmetic_is s t u h).2

  met_made : (s : CType) (b : Bool) (t : CType) (c : Bool) (u : CType) → W s → W t → met s b t c ≡ Some u → W u
  met_made s b t c u h k = by_tests (same_type s t) b c (is_void_and_object s t)
    where
      by_tests : (x b c y : Bool) → (cond x (Some (pointer s)) (cond b (Some (pointer t)) (cond c (Some (pointer s)) (cond y (Some (pointer void)) None)))) ≡ Some u
          → W u
      by_tests true b c y e = subst W (some_is (pointer s) u e) h
      by_tests false true c y e = subst W (some_is (pointer t) u e) k
      by_tests false false true y e = subst W (some_is (pointer s) u e) h
      by_tests false false false true e = subst W (some_is (pointer void) u e) tt
      by_tests false false false false e = cc

  meeting_made : (s : CType) (b : Bool) (t : CType) (c : Bool) (u : CType) → W s → W t → meeting s b t c ≡ Some u → W u
  meeting_made (pointer s) b (pointer t) c u h k e = met_made s b t c u h k e
  meeting_made (pointer s) b (integer l) true u h k e = subst W (some_is (pointer s) u e) h
  meeting_made (integer k) true (pointer t) c u h m e = subst W (some_is (pointer t) u e) m
  meeting_made s b t c u h k e = cc

  ordered_made : (s t u : CType) → W s → ordered s t ≡ Some u → W u
  ordered_made s t u h e = subst W (ordered_is s t u e).0 h

  compared_made : (op : CompareOp) (s : CType) (b : Bool) (t : CType) (c : Bool) (u : CType) → W s → W t → compared op s b t c ≡ Some u → W u
  compared_made Equal s b t c u h k e = meeting_made s b t c u h k e
  compared_made NotEqual s b t c u h k e = meeting_made s b t c u h k e
  compared_made op s b t c u h k e = ordered_made s t u h e

  pub comparing_made : (op : CompareOp) (s : CType) (b : Bool) (t : CType) (c : Bool) (u : CType) → W s → W t → comparing op s b t c ≡ Some u → W u
  comparing_made op s b t c u h k = by_numbers (arithmetic s t) refl
    where
      by_numbers : (o : Option CType) → arithmetic s t ≡ o → or_else o (compared op s b t c) ≡ Some u → W u
      by_numbers (Some x) f e = subst W (some_is x u e) (arithmetic_made s t x f)
      by_numbers None f e = compared_made op s b t c u h k e

  void_made : (s t u : CType) → both_void s t ≡ Some u → W u
  void_made void void u e = subst W (some_is void u e) tt
  void_made s t u e = cc

  pub choosing_made : (s : CType) (b : Bool) (t : CType) (c : Bool) (u : CType) → W s → W t → choosing s b t c ≡ Some u → W u
  choosing_made s b t c u h k = by_numbers (arithmetic s t) refl
    where
      by_pointers : (o : Option CType) → meeting s b t c ≡ o → or_else o (both_void s t) ≡ Some u → W u
      by_pointers (Some x) f e = subst W (some_is x u e) (meeting_made s b t c x h k f)
      by_pointers None f e = void_made s t u e

      by_numbers : (o : Option CType) → arithmetic s t ≡ o → or_else o (or_else (meeting s b t c) (both_void s t)) ≡ Some u → W u
      by_numbers (Some x) f e = subst W (some_is x u e) (arithmetic_made s t x f)
      by_numbers None f e = by_pointers (meeting s b t c) refl e

  -- ---- the library's functions

  pub library_made : (which : LibraryFunction) → W (library_type which)
  library_made Malloc = (inl refl, tt, (refl, tt, tt))
  library_made Calloc = (inl refl, tt, (refl, tt, (refl, tt, tt)))
  library_made Free = (inr refl, tt, (refl, tt, tt))
  library_made Memcpy = (inl refl, tt, (refl, tt, (refl, tt, (refl, tt, tt))))
  library_made Memmove = (inl refl, tt, (refl, tt, (refl, tt, (refl, tt, tt))))
  library_made Memset = (inl refl, tt, (refl, tt, (refl, tt, (refl, tt, tt))))
  library_made Memcmp = (inl refl, tt, (refl, tt, (refl, tt, (refl, tt, tt))))
  library_made Putchar = (inl refl, tt, (refl, tt, tt))
  library_made Getchar = (inl refl, tt, tt)
  library_made Exit = (inr refl, tt, (refl, tt, tt))

-- ---- types whose elements are complete, where so many records are

abbrev pub IsWellMade : (count : ℕ) → CType → Type 0
IsWellMade count = IsMade (λ t. is_object count t ≡ true)

abbrev pub AreWellMade : (count : ℕ) → CTypes → Type 0
AreWellMade count = AreMade (λ t. is_object count t ≡ true)
