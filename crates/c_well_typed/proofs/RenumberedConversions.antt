-- An implicit conversion is one to another type, also where records have other numbers: of two pointer types that differ by their records none is
-- converted to the other.
use Rattle.std.proofs.Common.{◌≡◌, ◌≢◌, ◌∙◌, ℕ, Bool, true, false, refl, sym, ap, cond}
use Rattle.std.specs.Prelude.{◌||◌, Option, Some, None}
use Rattle.c_types.specs.declared.ty.IntKind.{IntKind}
use Rattle.c_types.specs.Types.{CType, void, integer, pointer, array, function, structure}
use Rattle.c_types.specs.Sameness.{same_type}
use Rattle.c_types.proofs.SameTypes.{same_is}
use Rattle.c_numbers.specs.TypeNumbers.Renumbered.{renumbered}
use Rattle.c_typed.specs.declared.operators.CompareOp.{CompareOp}
use Rattle.c_typed.specs.declared.operators.CompareOp.TheVariants.{Equal, NotEqual}
use Rattle.c_typed.specs.Conversions.{is_integer, is_pointer}
use Rattle.c_typed.specs.Fits.{is_void_and_object, assigns, met, meeting, compared}
use Rattle.c_typed.specs.Rules.{arithmetic, or_else, comparing, both_void, choosing}
use Rattle.c_well_typed.proofs.Fitting.{arithmetic_is, ordered_is}

module _ (f : ℕ → ℕ) where
  abbrev R : CType → CType
  R t = renumbered f t

  some_is : (x y : CType) → Some x ≡ Some y → x ≡ y
  some_is x y h = cc

  pub integer_differs : (s t : CType) → is_integer t ≡ true → s ≢ t → R s ≢ R t
  integer_differs (integer k) (integer l) h n e = n e
  integer_differs void t h n e = by_integer t h e
    where
      by_integer : (t : CType) → is_integer t ≡ true → void ≡ R t → ⊥
      by_integer (integer l) h e = cc
      by_integer t h e = cc
  integer_differs (pointer s) (integer l) h n e = cc
  integer_differs (array s m) (integer l) h n e = cc
  integer_differs (function s all) (integer l) h n e = cc
  integer_differs (structure r) (integer l) h n e = cc
  integer_differs s t h n e = cc

  void_is_void : (t : CType) → R t ≡ void → t ≡ void
  void_is_void void e = refl
  void_is_void t e = cc

  pub void_differs : (t : CType) → t ≢ void → R t ≢ void
  void_differs t n e = n (void_is_void t e)

  pointers_are : (s t : CType) → pointer s ≡ pointer t → s ≡ t
  pointers_are s t e = cc

  -- a pointer to an object and `void *`
  objects_differ : (s t : CType) → is_void_and_object s t ≡ true → pointer s ≢ pointer t → pointer (R s) ≢ pointer (R t)
  objects_differ void t o n e = n (ap pointer (sym (void_is_void t (sym (pointers_are void (R t) e)))))
  objects_differ s void o n e = n (ap pointer (void_is_void s (pointers_are (R s) void e)))
  objects_differ s t o n e = cc

  -- a null pointer constant that is a pointer is `(void *)0`
  pub assigned_differ : (s t : CType) (b : Bool) → (b ≡ true → is_pointer s ≡ true → s ≡ pointer void) → assigns s b t ≡ true → s ≢ t → R s ≢ R t
  assigned_differ (integer k) (integer l) b z h n e = n e
  assigned_differ (integer k) (pointer t) b z h n e = cc
  assigned_differ (pointer s) (pointer t) true z h n e =
      let v = pointers_are s void (z refl refl) in
      n (ap pointer (v ∙ sym (void_is_void t (sym (pointers_are (R s) (R t) e) ∙ ap R v))))
  assigned_differ (pointer s) (pointer t) false z h n e = by_same (same_type s t) refl h
    where
      by_same : (d : Bool) → same_type s t ≡ d → (false || d || is_void_and_object s t) ≡ true → ⊥
      by_same true q k = n (ap pointer (same_is s t q))
      by_same false q k = objects_differ s t k n e
  assigned_differ s t b z h n e = cc

  -- of two operands that meet, one that is converted is converted to another type
  met_differ : (s t u : CType) (b c : Bool) → (b ≡ true → s ≡ void) → met s b t c ≡ Some u → pointer s ≢ u → pointer (R s) ≢ R u
  met_differ s t u b c z h n e = by_same (same_type s t) refl h
    where
      is_own : Some (pointer s) ≡ Some u → ⊥
      is_own k = n (some_is (pointer s) u k)

      of_void : pointer (R s) ≡ pointer void → Some (pointer void) ≡ Some u → ⊥
      of_void g k = n (ap pointer (void_is_void s (pointers_are (R s) void g)) ∙ some_is (pointer void) u k)

      of_null : (b ≡ true → s ≡ void) → b ≡ true → Some (pointer t) ≡ Some u → ⊥
      of_null z g k =
          let is = some_is (pointer t) u k in
          let v = z g in
          let other : R t ≡ void = sym (pointers_are (R s) (R t) (e ∙ ap R (sym is))) ∙ ap R v in
          n (ap pointer (v ∙ sym (void_is_void t other)) ∙ is)

      by_objects : (o : Bool) → is_void_and_object s t ≡ o → cond o (Some (pointer void)) None ≡ Some u → ⊥
      by_objects true q k = of_void (e ∙ ap R (sym (some_is (pointer void) u k))) k
      by_objects false q k = cc

      by_nulls : (d : Bool) → b ≡ d → (c : Bool)
          → cond d (Some (pointer t)) (cond c (Some (pointer s)) (cond (is_void_and_object s t) (Some (pointer void)) None)) ≡ Some u → ⊥
      by_nulls true q c k = of_null z q k
      by_nulls false q true k = is_own k
      by_nulls false q false k = by_objects (is_void_and_object s t) refl k

      by_same : (d : Bool) → same_type s t ≡ d
          → cond d (Some (pointer s)) (cond b (Some (pointer t)) (cond c (Some (pointer s)) (cond (is_void_and_object s t) (Some (pointer void)) None))) ≡ Some u
          → ⊥
      by_same true q k = is_own k
      by_same false q k = by_nulls b refl c k

  met_differ_right : (s t u : CType) (b c : Bool) → (c ≡ true → t ≡ void) → met s b t c ≡ Some u → pointer t ≢ u → pointer (R t) ≢ R u
  met_differ_right s t u b c z h n e = by_same (same_type s t) refl h
    where
      is_own : Some (pointer t) ≡ Some u → ⊥
      is_own k = n (some_is (pointer t) u k)

      of_void : pointer (R t) ≡ pointer void → Some (pointer void) ≡ Some u → ⊥
      of_void g k = n (ap pointer (void_is_void t (pointers_are (R t) void g)) ∙ some_is (pointer void) u k)

      of_null : c ≡ true → Some (pointer s) ≡ Some u → ⊥
      of_null g k =
          let is = some_is (pointer s) u k in
          let v = z g in
          let other : R s ≡ void = sym (pointers_are (R t) (R s) (e ∙ ap R (sym is))) ∙ ap R v in
          n (ap pointer (v ∙ sym (void_is_void s other)) ∙ is)

      by_objects : (o : Bool) → is_void_and_object s t ≡ o → cond o (Some (pointer void)) None ≡ Some u → ⊥
      by_objects true q k = of_void (e ∙ ap R (sym (some_is (pointer void) u k))) k
      by_objects false q k = cc

      by_nulls : (b : Bool) (d : Bool) → c ≡ d
          → cond b (Some (pointer t)) (cond d (Some (pointer s)) (cond (is_void_and_object s t) (Some (pointer void)) None)) ≡ Some u → ⊥
      by_nulls true d q k = is_own k
      by_nulls false true q k = of_null q k
      by_nulls false false q k = by_objects (is_void_and_object s t) refl k

      by_same : (d : Bool) → same_type s t ≡ d
          → cond d (Some (pointer s)) (cond b (Some (pointer t)) (cond c (Some (pointer s)) (cond (is_void_and_object s t) (Some (pointer void)) None))) ≡ Some u
          → ⊥
      by_same true q k = n (ap pointer (sym (same_is s t q)) ∙ some_is (pointer s) u k)
      by_same false q k = by_nulls b c refl k

  -- what is known of an operand that is a null pointer constant
  abbrev pub IsVoidNull : CType → Bool → Type 0
  IsVoidNull s b = b ≡ true → is_pointer s ≡ true → s ≡ pointer void

  integer_or_pointer : (k : IntKind) (t u : CType) → pointer t ≡ u → integer k ≡ R u → ⊥
  integer_or_pointer k t u e g = let x : integer k ≡ pointer (R t) = g ∙ ap R (sym e) in cc

  meeting_left_differ : (s t u : CType) (b c : Bool) → IsVoidNull s b → meeting s b t c ≡ Some u → s ≢ u → R s ≢ R u
  meeting_left_differ (pointer s) (pointer t) u b c z h n e = met_differ s t u b c (λ g. pointers_are s void (z g refl)) h n e
  meeting_left_differ (pointer s) (integer k) u b true z h n e = n (some_is (pointer s) u h)
  meeting_left_differ (pointer s) (integer k) u b false z h n e = cc
  meeting_left_differ (integer k) (pointer t) u true c z h n e = integer_or_pointer k t u (some_is (pointer t) u h) e
  meeting_left_differ (integer k) t u true c z h n e = cc
  meeting_left_differ (integer k) t u false c z h n e = cc
  meeting_left_differ s t u b c z h n e = cc

  meeting_right_differ : (s t u : CType) (b c : Bool) → IsVoidNull t c → meeting s b t c ≡ Some u → t ≢ u → R t ≢ R u
  meeting_right_differ (pointer s) (pointer t) u b c z h n e = met_differ_right s t u b c (λ g. pointers_are t void (z g refl)) h n e
  meeting_right_differ (pointer s) (integer k) u b true z h n e = integer_or_pointer k s u (some_is (pointer s) u h) e
  meeting_right_differ (pointer s) (integer k) u b false z h n e = cc
  meeting_right_differ (integer k) (pointer t) u true c z h n e = n (some_is (pointer t) u h)
  meeting_right_differ (integer k) t u true c z h n e = cc
  meeting_right_differ (integer k) t u false c z h n e = cc
  meeting_right_differ s t u b c z h n e = cc

  module _ (s t u : CType) (b c : Bool) where
    compared_left_differ : (op : CompareOp) → IsVoidNull s b → compared op s b t c ≡ Some u → s ≢ u → R s ≢ R u
    compared_left_differ Equal z h n e = meeting_left_differ s t u b c z h n e
    compared_left_differ NotEqual z h n e = meeting_left_differ s t u b c z h n e
    compared_left_differ op z h n e = n (ordered_is s t u h).0

    compared_right_differ : (op : CompareOp) → IsVoidNull t c → compared op s b t c ≡ Some u → t ≢ u → R t ≢ R u
    compared_right_differ Equal z h n e = meeting_right_differ s t u b c z h n e
    compared_right_differ NotEqual z h n e = meeting_right_differ s t u b c z h n e
    compared_right_differ op z h n e = n (ordered_is s t u h).1

    pub comparing_left_differ : (op : CompareOp) → IsVoidNull s b → comparing op s b t c ≡ Some u → s ≢ u → R s ≢ R u
    comparing_left_differ op z h n = by_numbers (arithmetic s t) refl h
      where
        by_numbers : (o : Option CType) → arithmetic s t ≡ o → or_else o (compared op s b t c) ≡ Some u → R s ≢ R u
        by_numbers (Some v) e k = integer_differs s u (arithmetic_is s t u (e ∙ k)).2 n
        by_numbers None e k = compared_left_differ op z k n

    pub comparing_right_differ : (op : CompareOp) → IsVoidNull t c → comparing op s b t c ≡ Some u → t ≢ u → R t ≢ R u
    comparing_right_differ op z h n = by_numbers (arithmetic s t) refl h
      where
        by_numbers : (o : Option CType) → arithmetic s t ≡ o → or_else o (compared op s b t c) ≡ Some u → R t ≢ R u
        by_numbers (Some v) e k = integer_differs t u (arithmetic_is s t u (e ∙ k)).2 n
        by_numbers None e k = compared_right_differ op z k n

  voids_are : (s t u : CType) → both_void s t ≡ Some u → (s ≡ u) × (t ≡ u)
  voids_are void void u h = let is = some_is void u h in (is, is)
  voids_are s t u h = cc

  module _ (s t u : CType) (b c : Bool) where
    pub choosing_left_differ : IsVoidNull s b → choosing s b t c ≡ Some u → s ≢ u → R s ≢ R u
    choosing_left_differ z h n = by_numbers (arithmetic s t) refl h
      where
        by_pointers : (o : Option CType) → meeting s b t c ≡ o → or_else o (both_void s t) ≡ Some u → R s ≢ R u
        by_pointers (Some v) e k = meeting_left_differ s t u b c z (e ∙ k) n
        by_pointers None e k = absurd (n (voids_are s t u k).0)

        by_numbers : (o : Option CType) → arithmetic s t ≡ o → or_else o (or_else (meeting s b t c) (both_void s t)) ≡ Some u → R s ≢ R u
        by_numbers (Some v) e k = integer_differs s u (arithmetic_is s t u (e ∙ k)).2 n
        by_numbers None e k = by_pointers (meeting s b t c) refl k

    pub choosing_right_differ : IsVoidNull t c → choosing s b t c ≡ Some u → t ≢ u → R t ≢ R u
    choosing_right_differ z h n = by_numbers (arithmetic s t) refl h
      where
        by_pointers : (o : Option CType) → meeting s b t c ≡ o → or_else o (both_void s t) ≡ Some u → R t ≢ R u
        by_pointers (Some v) e k = meeting_right_differ s t u b c z (e ∙ k) n
        by_pointers None e k = absurd (n (voids_are s t u k).1)

        by_numbers : (o : Option CType) → arithmetic s t ≡ o → or_else o (or_else (meeting s b t c) (both_void s t)) ≡ Some u → R t ≢ R u
        by_numbers (Some v) e k = integer_differs t u (arithmetic_is s t u (e ∙ k)).2 n
        by_numbers None e k = by_pointers (meeting s b t c) refl k
