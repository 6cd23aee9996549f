-- What a rule says of an operand that is converted is true too of one that has the type already (C99 6.3, 6.5).
use Rattle.std.proofs.Common.{◌≡◌, ◌∙◌, Bool, true, false, refl, sym, ap, subst, cond}
use Rattle.std.specs.Prelude.{◌&&◌, not, Option, Some, None}
use Rattle.c_types.specs.declared.ty.IntKind.{IntKind}
use Rattle.c_types.specs.Types.{CType, void, integer, pointer, array, function, structure}
use Rattle.c_types.specs.Sameness.{same_type}
use Rattle.c_types.proofs.SameTypes.{same_is, same_self}
use Rattle.c_typed.specs.declared.operators.BinaryOp.{BinaryOp}
use Rattle.c_typed.specs.declared.operators.CompareOp.{CompareOp}
use Rattle.c_typed.specs.declared.operators.CompareOp.TheVariants.{Equal, NotEqual}
use Rattle.c_typed.specs.Conversions.{is_integer, is_pointer, is_function}
use Rattle.c_typed.specs.Fits.{is_void, is_void_and_object, assigns, casts, meeting, ordered, compared}
use Rattle.c_typed.specs.Rules.{promoting, arithmetic, is_shift, shifting, twice, on_numbers, or_else, comparing, both_void, choosing}

some_is : {A : Type 0} (x y : A) → Some x ≡ Some y → x ≡ y
some_is x y h = cc

-- ---- numbers

pub promoting_is : (s t : CType) → promoting s ≡ Some t → (is_integer s ≡ true) × (is_integer t ≡ true)
promoting_is (integer kind) t h = (refl, subst (λ t. is_integer t ≡ true) (some_is _ t h) refl)
promoting_is void t h = cc
promoting_is (pointer s) t h = cc
promoting_is (array s n) t h = cc
promoting_is (function s all) t h = cc
promoting_is (structure r) t h = cc

pub arithmetic_is : (s t u : CType) → arithmetic s t ≡ Some u → (is_integer s ≡ true) × (is_integer t ≡ true) × (is_integer u ≡ true)
arithmetic_is (integer k) (integer l) u h = (refl, refl, subst (λ t. is_integer t ≡ true) (some_is _ u h) refl)
arithmetic_is s t u h = cc

pub on_numbers_is : (op : BinaryOp) (s t a b : CType) → on_numbers op s t ≡ Some (a, b)
    → (is_integer s ≡ true) × (is_integer t ≡ true) × (is_integer a ≡ true) × (is_integer b ≡ true)
on_numbers_is op s t a b = by_shift (is_shift op)
  where
    pair_is : (x y : CType) → shifting (Some x) (Some y) ≡ shifting (Some a) (Some b) → (x ≡ a) × (y ≡ b)
    pair_is x y h = let p = some_is (x, y) (a, b) h in (ap (λ p. p.0) p, ap (λ p. p.1) p)

    shifted : (p q : Option CType) → promoting s ≡ p → promoting t ≡ q → shifting p q ≡ Some (a, b)
        → (is_integer s ≡ true) × (is_integer t ≡ true) × (is_integer a ≡ true) × (is_integer b ≡ true)
    shifted (Some x) (Some y) e f h =
        let p = promoting_is s x e in
        let q = promoting_is t y f in
        let z = pair_is x y h in
        (p.0, q.0, subst (λ x. is_integer x ≡ true) z.0 p.1, subst (λ y. is_integer y ≡ true) z.1 q.1)
    shifted p q e f h = cc

    both : (p : Option CType) → arithmetic s t ≡ p → twice p ≡ Some (a, b)
        → (is_integer s ≡ true) × (is_integer t ≡ true) × (is_integer a ≡ true) × (is_integer b ≡ true)
    both None e h = cc
    both (Some x) e h =
        let p = arithmetic_is s t x e in
        let z = pair_is x x h in
        (p.0, p.1, subst (λ x. is_integer x ≡ true) z.0 p.2, subst (λ y. is_integer y ≡ true) z.1 p.2)

    by_shift : (b' : Bool) → (cond b' (shifting (promoting s) (promoting t)) (twice (arithmetic s t))) ≡ Some (a, b)
        → (is_integer s ≡ true) × (is_integer t ≡ true) × (is_integer a ≡ true) × (is_integer b ≡ true)
    by_shift true h = shifted (promoting s) (promoting t) refl refl h
    by_shift false h = both (arithmetic s t) refl h

pub no_pointer : (t : CType) → is_integer t ≡ true → is_pointer t ≡ false
no_pointer (integer k) h = refl
no_pointer t h = cc

-- ---- assignments and casts

pub assigns_itself : (s t : CType) (b c : Bool) → assigns s b t ≡ true → assigns t c t ≡ true
assigns_itself (integer l) (integer k) b c h = refl
assigns_itself (integer l) (pointer t) b true h = refl
assigns_itself (integer l) (pointer t) b false h = rw (same_self t t refl) refl
assigns_itself (pointer s) (pointer t) b true h = refl
assigns_itself (pointer s) (pointer t) b false h = rw (same_self t t refl) refl
assigns_itself s t b c h = cc

pub assigned_integer : (s : CType) (b : Bool) (k : IntKind) → assigns s b (integer k) ≡ true → is_integer s ≡ true
assigned_integer (integer l) b k h = refl
assigned_integer s b k h = cc

pub assigns_integer : (s : CType) (b : Bool) (k : IntKind) → is_integer s ≡ true → assigns s b (integer k) ≡ true
assigns_integer (integer l) b k h = refl
assigns_integer s b k h = cc

-- a null pointer constant may be assigned where another value may
pub assigns_null : (s t : CType) (b : Bool) → assigns s false t ≡ true → assigns s b t ≡ true
assigns_null s t false h = h
assigns_null (integer k) (integer l) true h = refl
assigns_null (integer k) (pointer t) true h = refl
assigns_null (pointer s) (pointer t) true h = refl
assigns_null s t true h = cc

pub casts_null : (s t : CType) (b : Bool) → casts s false t ≡ true → casts s b t ≡ true
casts_null s t false h = h
casts_null s void true h = refl
casts_null (integer k) (integer l) true h = refl
casts_null (integer k) (pointer t) true h = refl
casts_null (pointer s) (pointer t) true h = refl
casts_null s t true h = cc

-- to a number or to nothing it does not matter
pub assigns_number : (s t : CType) (b c : Bool) → is_pointer t ≡ false → assigns s b t ≡ true → assigns s c t ≡ true
assigns_number (integer k) (integer l) b c n h = refl
assigns_number s (pointer t) b c n h = cc
assigns_number s t b c n h = cc

pub casts_number : (s t : CType) (b c : Bool) → is_pointer t ≡ false → casts s b t ≡ true → casts s c t ≡ true
casts_number s void b c n h = refl
casts_number (integer k) (integer l) b c n h = refl
casts_number s (pointer t) b c n h = cc
casts_number s t b c n h = cc

-- ---- two pointers together

is_void_void : (t : CType) → is_void t ≡ true → t ≡ void
is_void_void void h = refl
is_void_void t h = cc

-- of `void *` and a pointer to an object, the first and the second with `void *`
void_and_other : (u v : CType) → is_void_and_object u v ≡ true → same_type u v ≡ false → is_void_and_object void v ≡ true
void_and_other void v h n = h
void_and_other u void h n = refl
void_and_other u v h n = cc

void_behind : (u v : CType) → is_void_and_object u v ≡ true → same_type u v ≡ false → is_void_and_object u void ≡ true
void_behind void v h n = refl
void_behind (function t all) void h n = cc
void_behind (function t all) v h n = cc
void_behind u v h n = refl

meeting_self : (t : CType) (b c : Bool) → is_pointer t ≡ true → meeting t b t c ≡ Some t
meeting_self (pointer t) b c h = rw (same_self t t refl) refl
meeting_self t b c h = cc

void_meets : (t : CType) → is_void_and_object void t ≡ true → meeting (pointer void) false (pointer t) false ≡ Some (pointer void)
void_meets void h = refl
void_meets (function t all) h = cc
void_meets t h = refl

-- one that is converted, and no null pointer constant after that
meeting_left : (s t u : CType) (b : Bool) → meeting s b t false ≡ Some u → meeting u false t false ≡ Some u
meeting_left (pointer s) (pointer t) u b h = by_same (same_type s t) refl h
  where
    by_void : (c : Bool) → is_void_and_object s t ≡ c → same_type s t ≡ false → cond c (Some (pointer void)) None ≡ Some u
        → meeting u false (pointer t) false ≡ Some u
    by_void true o n h = subst (λ u. meeting u false (pointer t) false ≡ Some u) (some_is (pointer void) u h) (void_meets t (void_and_other s t o n))
    by_void false o n h = cc

    by_null : (b : Bool) → same_type s t ≡ false
        → cond b (Some (pointer t)) (cond false (Some (pointer s)) (cond (is_void_and_object s t) (Some (pointer void)) None)) ≡ Some u
        → meeting u false (pointer t) false ≡ Some u
    by_null true n h = subst (λ u. meeting u false (pointer t) false ≡ Some u) (some_is (pointer t) u h) (meeting_self (pointer t) false false refl)
    by_null false n h = by_void (is_void_and_object s t) refl n h

    by_same : (c : Bool) → same_type s t ≡ c
        → cond c (Some (pointer s)) (cond b (Some (pointer t)) (cond false (Some (pointer s)) (cond (is_void_and_object s t) (Some (pointer void)) None)))
        ≡ Some u → meeting u false (pointer t) false ≡ Some u
    by_same true e h = subst (λ u. meeting u false (pointer t) false ≡ Some u) (some_is (pointer s) u h) (rw e refl)
    by_same false e h = by_null b e h
meeting_left (integer k) (pointer t) u true h =
    subst (λ u. meeting u false (pointer t) false ≡ Some u) (some_is (pointer t) u h) (meeting_self (pointer t) false false refl)
meeting_left (integer k) t u true h = cc
meeting_left (integer k) t u false h = cc
meeting_left s t u b h = cc

meeting_right : (s t u : CType) (b : Bool) → meeting s false t b ≡ Some u → meeting s false u false ≡ Some u
meeting_right (pointer s) (pointer t) u b h = by_same (same_type s t) refl h
  where
    void_again : (c : Bool) → same_type s void ≡ c → same_type s t ≡ false → is_void_and_object s t ≡ true
        → meeting (pointer s) false (pointer void) false ≡ Some (pointer void)
    void_again true f n o = let e = same_is s void f in rw (f, e) refl
    void_again false f n o = let v = void_behind s t o n in rw (f, v) refl

    by_void : (c : Bool) → is_void_and_object s t ≡ c → same_type s t ≡ false → cond c (Some (pointer void)) None ≡ Some u
        → meeting (pointer s) false u false ≡ Some u
    by_void true o n h = subst (λ u. meeting (pointer s) false u false ≡ Some u) (some_is (pointer void) u h) (void_again (same_type s void) refl n o)
    by_void false o n h = cc

    by_null : (b : Bool) → same_type s t ≡ false
        → cond false (Some (pointer t)) (cond b (Some (pointer s)) (cond (is_void_and_object s t) (Some (pointer void)) None)) ≡ Some u
        → meeting (pointer s) false u false ≡ Some u
    by_null true n h = subst (λ u. meeting (pointer s) false u false ≡ Some u) (some_is (pointer s) u h) (meeting_self (pointer s) false false refl)
    by_null false n h = by_void (is_void_and_object s t) refl n h

    by_same : (c : Bool) → same_type s t ≡ c
        → cond c (Some (pointer s)) (cond false (Some (pointer t)) (cond b (Some (pointer s)) (cond (is_void_and_object s t) (Some (pointer void)) None)))
        ≡ Some u → meeting (pointer s) false u false ≡ Some u
    by_same true e h = subst (λ u. meeting (pointer s) false u false ≡ Some u) (some_is (pointer s) u h) (meeting_self (pointer s) false false refl)
    by_same false e h = by_null b e h
meeting_right (pointer s) (integer k) u true h =
    subst (λ u. meeting (pointer s) false u false ≡ Some u) (some_is (pointer s) u h) (meeting_self (pointer s) false false refl)
meeting_right (pointer s) (integer k) u false h = cc
meeting_right s t u b h = cc

meeting_is : (s t u : CType) (b c : Bool) → meeting s b t c ≡ Some u → is_pointer u ≡ true
meeting_is (pointer s) (pointer t) u b c h = by_tests (same_type s t) b c (is_void_and_object s t) h
  where
    is : (v : CType) → Some (pointer v) ≡ Some u → is_pointer u ≡ true
    is v h = subst (λ u. is_pointer u ≡ true) (some_is (pointer v) u h) refl

    by_tests : (x y z w : Bool) → cond x (Some (pointer s)) (cond y (Some (pointer t)) (cond z (Some (pointer s)) (cond w (Some (pointer void)) None))) ≡ Some u
        → is_pointer u ≡ true
    by_tests true y z w h = is s h
    by_tests false true z w h = is t h
    by_tests false false true w h = is s h
    by_tests false false false true h = is void h
    by_tests false false false false h = cc
meeting_is (pointer s) (integer k) u b true h = subst (λ u. is_pointer u ≡ true) (some_is (pointer s) u h) refl
meeting_is (pointer s) (integer k) u b false h = cc
meeting_is (integer k) (pointer t) u true c h = subst (λ u. is_pointer u ≡ true) (some_is (pointer t) u h) refl
meeting_is (integer k) t u true c h = cc
meeting_is (integer k) t u false c h = cc
meeting_is s t u b c h = cc

pub ordered_is : (s t u : CType) → ordered s t ≡ Some u → (s ≡ u) × (t ≡ u) × (is_pointer u ≡ true)
ordered_is (pointer s) (pointer t) u h = by_same (is_function s) (same_type s t) refl h
  where
    by_same : (f c : Bool) → same_type s t ≡ c → cond (not f && c) (Some (pointer s)) None ≡ Some u → (pointer s ≡ u) × (pointer t ≡ u) × (is_pointer u ≡ true)
    by_same false true e h =
        let is = some_is (pointer s) u h in (is, ap pointer (sym (same_is s t e)) ∙ is, subst (λ u. is_pointer u ≡ true) is refl)
    by_same false false e h = cc
    by_same true c e h = cc
ordered_is s t u h = cc

-- ---- an operand before and after: `u` is its type, `s` and `t` that before an implicit conversion, where there is one, and `b` and `c`
-- whether that is a null pointer constant

pub data Under (u s : CType) (b : Bool) (t : CType) (c : Bool) : Type 0 where
  -- not converted
  unconverted : s ≡ u → t ≡ u → (c ≡ true → b ≡ true) → Under u s b t c
  -- a pointer that is not converted after
  settled : is_pointer u ≡ true → t ≡ u → c ≡ false → Under u s b t c
  -- converted to a number or to nothing
  number : is_pointer u ≡ false → t ≡ s → Under u s b t c
  -- converted to a pointer, and no null pointer constant
  address : t ≡ s → b ≡ false → c ≡ false → Under u s b t c

module _ (u s : CType) (b : Bool) (t : CType) (c : Bool) where
  pub under_itself : Under u s b t c → s ≡ u → t ≡ u
  under_itself (unconverted e f g) h = f
  under_itself (settled p f g) h = f
  under_itself (number p f) h = f ∙ h
  under_itself (address f x y) h = f ∙ h

  pub under_number : Under u s b t c → is_pointer u ≡ false → t ≡ s
  under_number (unconverted e f g) h = f ∙ sym e
  under_number (settled p f g) h = cc
  under_number (number p f) h = f
  under_number (address f x y) h = f

  pub assigns_stays : Under u s b t c → assigns s b u ≡ true → assigns t c u ≡ true
  assigns_stays (unconverted e f g) h = rw f (assigns_itself s u b c h)
  assigns_stays (settled p f g) h = rw f (assigns_itself s u b c h)
  assigns_stays (number p f) h = rw f (assigns_number s u b c p h)
  assigns_stays (address f x y) h = rw (f, y) (rw x at h)

left_stays : (u s t : CType) (b c : Bool) → (c ≡ true → (b ≡ true) × (s ≡ u)) → meeting s b t false ≡ Some u → meeting u c t false ≡ Some u
left_stays u s t b true g h = let p = g refl in ap (λ z. meeting z true t false) (sym p.1) ∙ rw p.0 at h
left_stays u s t b false g h = meeting_left s t u b h

right_stays : (u s t : CType) (b c : Bool) → (c ≡ true → (b ≡ true) × (t ≡ u)) → meeting s false t b ≡ Some u → meeting s false u c ≡ Some u
right_stays u s t b true g h = let p = g refl in ap (λ z. meeting s false z true) (sym p.1) ∙ rw p.0 at h
right_stays u s t b false g h = meeting_right s t u b h

module _ (u s : CType) (b : Bool) (t : CType) (c : Bool) (v : CType) (d : Bool) (w : CType) (e : Bool) where
  meeting_stays : Under u s b t c → Under u v d w e → is_pointer u ≡ true → meeting s b v d ≡ Some u → meeting t c w e ≡ Some u
  meeting_stays (unconverted f g h) (unconverted i j k) p m = rw (g, j) (meeting_self u c e p)
  meeting_stays (unconverted f g h) (settled i j k) p m = rw (g, j) (meeting_self u c e p)
  meeting_stays (settled f g h) (unconverted i j k) p m = rw (g, j) (meeting_self u c e p)
  meeting_stays (settled f g h) (settled i j k) p m = rw (g, j) (meeting_self u c e p)
  meeting_stays (unconverted f g h) (address i j k) p m = rw (g, i, k) (left_stays u s v b c (λ x. (h x, f)) (rw j at m))
  meeting_stays (settled f g h) (address i j k) p m =
      rw (g, i, k) (left_stays u s v b c (λ x. let true_is_false = sym x ∙ h in cc) (rw j at m))
  meeting_stays (address i j k) (unconverted f g h) p m = rw (g, i, k) (right_stays u s v d e (λ x. (h x, f)) (rw j at m))
  meeting_stays (address i j k) (settled f g h) p m =
      rw (g, i, k) (right_stays u s v d e (λ x. let true_is_false = sym x ∙ h in cc) (rw j at m))
  meeting_stays (address i j k) (address f g h) p m = rw (i, f, k, h) (rw (j, g) at m)
  meeting_stays (number f g) y p m = cc
  meeting_stays x (number f g) p m = cc

  ordered_stays : Under u s b t c → Under u v d w e → ordered s v ≡ Some u → ordered t w ≡ Some u
  ordered_stays x y h =
      let o = ordered_is s v u h in
      rw (under_itself u s b t c x o.0, under_itself u v d w e y o.1) (rw (o.0, o.1) at h)

  compared_is : (op : CompareOp) → compared op s b v d ≡ Some u → is_pointer u ≡ true
  compared_is Equal h = meeting_is s v u b d h
  compared_is NotEqual h = meeting_is s v u b d h
  compared_is op h = (ordered_is s v u h).2

  compared_stays : (op : CompareOp) → Under u s b t c → Under u v d w e → compared op s b v d ≡ Some u → compared op t c w e ≡ Some u
  compared_stays Equal x y h = meeting_stays x y (meeting_is s v u b d h) h
  compared_stays NotEqual x y h = meeting_stays x y (meeting_is s v u b d h) h
  compared_stays op x y h = ordered_stays x y h

-- an answer for pointers is not one for numbers
no_arithmetic : (u s t : CType) (b c : Bool) → meeting s b t c ≡ Some u → arithmetic s t ≡ None
no_arithmetic u (integer k) (integer l) true true h = cc
no_arithmetic u (integer k) (integer l) true false h = cc
no_arithmetic u (integer k) (integer l) false true h = cc
no_arithmetic u (integer k) (integer l) false false h = cc
no_arithmetic u s t b c h = refl

no_arithmetic_compared : (op : CompareOp) (u s t : CType) (b c : Bool) → compared op s b t c ≡ Some u → arithmetic s t ≡ None
no_arithmetic_compared Equal u s t b c h = no_arithmetic u s t b c h
no_arithmetic_compared NotEqual u s t b c h = no_arithmetic u s t b c h
no_arithmetic_compared op u (integer k) (integer l) b c h = cc
no_arithmetic_compared op u s t b c h = refl

no_arithmetic_void : (u s t : CType) → both_void s t ≡ Some u → (s ≡ void) × (t ≡ void) × (void ≡ u)
no_arithmetic_void u void void h = (refl, refl, some_is void u h)
no_arithmetic_void u s t h = cc

module _ (u s : CType) (b : Bool) (t : CType) (c : Bool) (v : CType) (d : Bool) (w : CType) (e : Bool) (x : Under u s b t c) (y : Under u v d w e) where
  arithmetic_stays : arithmetic s v ≡ Some u → arithmetic t w ≡ Some u
  arithmetic_stays h =
      let n = no_pointer u (arithmetic_is s v u h).2 in
      rw (under_number u s b t c x n, under_number u v d w e y n) h

  pub comparing_stays : (op : CompareOp) → comparing op s b v d ≡ Some u → comparing op t c w e ≡ Some u
  comparing_stays op h = by_numbers (arithmetic s v) refl h
    where
      by_numbers : (o : Option CType) → arithmetic s v ≡ o → or_else o (compared op s b v d) ≡ Some u → comparing op t c w e ≡ Some u
      by_numbers (Some z) f h = rw (arithmetic_stays (f ∙ h)) refl
      by_numbers None f h =
          let r = compared_stays u s b t c v d w e op x y h in
          rw (no_arithmetic_compared op u t w c e r) r

  pub choosing_stays : choosing s b v d ≡ Some u → choosing t c w e ≡ Some u
  choosing_stays h = by_numbers (arithmetic s v) refl h
    where
      by_pointers : (o : Option CType) → meeting s b v d ≡ o → or_else o (both_void s v) ≡ Some u → choosing t c w e ≡ Some u
      by_pointers (Some z) f h =
          let r = meeting_stays u s b t c v d w e x y (meeting_is s v u b d (f ∙ h)) (f ∙ h) in
          rw (no_arithmetic u t w c e r) (rw r refl)
      by_pointers None f h =
          let z = no_arithmetic_void u s v h in
          rw (under_itself u s b t c x (z.0 ∙ z.2), under_itself u v d w e y (z.1 ∙ z.2)) (rw (← z.2) refl)

      by_numbers : (o : Option CType) → arithmetic s v ≡ o → or_else o (or_else (meeting s b v d) (both_void s v)) ≡ Some u
          → choosing t c w e ≡ Some u
      by_numbers (Some z) f h = rw (arithmetic_stays (f ∙ h)) refl
      by_numbers None f h = by_pointers (meeting s b v d) refl h
