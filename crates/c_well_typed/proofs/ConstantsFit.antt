-- An integer constant expression has a value of its type (C99 6.6).
use Rattle.std.proofs.Common.{◌≡◌, ◌∙◌, ℕ, ◌+◌, ◌-◌, ◌%◌, ◌^◌, ◌<◌, Bool, true, false, refl, sym, ap, subst, cond, arith}
use Rattle.std.specs.Prelude.{Option, Some, None, nat_lt}
use Rattle.c_types.specs.declared.ty.IntKind.{IntKind}
use Rattle.c_types.specs.declared.ty.IntKind.TheVariants.{Char, SChar, UChar, Short, UShort, Int, UInt, Long, ULong}
use Rattle.c_types.specs.Types.{CType, void, integer, pointer}
use Rattle.c_typed.specs.declared.operators.BinaryOp.{BinaryOp}
use Rattle.c_typed.specs.Trees as Trees
use Rattle.c_typed.specs.Conversions.{as_kind, sign_extended, promoted_kind, common_promoted, common_kind}
use Rattle.c_typed.specs.Constants.{Constant, none, undefined, valued, ty, converted_constant, constant_of, constant_in}
use Rattle.c_typed.specs.Fits.{meeting}
use Rattle.c_typed.specs.Rules.{promoting, arithmetic, is_shift, shifting, twice, on_numbers, or_else, both_void, choosing}
use Rattle.c_typed.specs.Typed.{Declared, IsTyped, IsTypedNode, bare_ty}
use Rattle.c_checking_laws.proofs.Ranges.{constant_below}

some_is : {A : Type 0} (x y : A) → Some x ≡ Some y → x ≡ y
some_is x y h = cc

kind_is : (k l : IntKind) → integer k ≡ integer l → k ≡ l
kind_is k l h = cc

valued_is : (v w : ℕ) → valued v ≡ valued w → v ≡ w
valued_is v w h = cc

-- ---- a converted value stays what it is

extended_8 : (m : ℕ) → m < 2 ^ 8 → (b : Bool) → nat_lt m (2 ^ 7) ≡ b → sign_extended 8 (cond b m (m + (2 ^ 32 - 2 ^ 8))) ≡ cond b m (m + (2 ^ 32 - 2 ^ 8))
extended_8 m l true e =
    let r : m % 2 ^ 8 ≡ m = omega (arith, l) in rw (r, e) refl
extended_8 m l false e =
    let r : (m + (2 ^ 32 - 2 ^ 8)) % 2 ^ 8 ≡ m = omega (arith, l) in rw (r, e) refl

extended_16 : (m : ℕ) → m < 2 ^ 16 → (b : Bool) → nat_lt m (2 ^ 15) ≡ b
    → sign_extended 16 (cond b m (m + (2 ^ 32 - 2 ^ 16))) ≡ cond b m (m + (2 ^ 32 - 2 ^ 16))
extended_16 m l true e =
    let r : m % 2 ^ 16 ≡ m = omega (arith, l) in rw (r, e) refl
extended_16 m l false e =
    let r : (m + (2 ^ 32 - 2 ^ 16)) % 2 ^ 16 ≡ m = omega (arith, l) in rw (r, e) refl

pub kind_again : (kind : IntKind) (v : ℕ) → as_kind kind (as_kind kind v) ≡ as_kind kind v
kind_again Char v = omega arith
kind_again SChar v = extended_8 (v % 2 ^ 8) (omega arith) (nat_lt (v % 2 ^ 8) (2 ^ 7)) refl
kind_again UChar v = omega arith
kind_again Short v = extended_16 (v % 2 ^ 16) (omega arith) (nat_lt (v % 2 ^ 16) (2 ^ 15)) refl
kind_again UShort v = omega arith
kind_again Int v = omega arith
kind_again UInt v = omega arith
kind_again Long v = omega arith
kind_again ULong v = omega arith

-- ---- what operators make is of 32 bits

abbrev IsWide : IntKind → Type 0
IsWide kind = promoted_kind kind ≡ kind

wide_fits : (kind : IntKind) (v : ℕ) → IsWide kind → v < 2 ^ 32 → as_kind kind v ≡ v
wide_fits Char v w l = cc
wide_fits SChar v w l = cc
wide_fits UChar v w l = cc
wide_fits Short v w l = cc
wide_fits UShort v w l = cc
wide_fits Int v w l = omega (arith, l)
wide_fits UInt v w l = omega (arith, l)
wide_fits Long v w l = omega (arith, l)
wide_fits ULong v w l = omega (arith, l)

promoted_wide : (k : IntKind) → IsWide (promoted_kind k)
promoted_wide UInt = refl
promoted_wide Long = refl
promoted_wide ULong = refl
promoted_wide k = refl

common_wide : (k l : IntKind) → IsWide (common_promoted k l)
common_wide ULong l = refl
common_wide k ULong = refl
common_wide Long UInt = refl
common_wide UInt Long = refl
common_wide Long l = refl
common_wide k Long = refl
common_wide UInt l = refl
common_wide k UInt = refl
common_wide k l = refl

abbrev AreWide : CType → Type 0
AreWide t = (kind : IntKind) → t ≡ integer kind → IsWide kind

wide : (k : IntKind) → IsWide k → AreWide (integer k)
wide k w kind e = subst IsWide (kind_is k kind e) w

promoting_wide : (s t : CType) → promoting s ≡ Some t → AreWide t
promoting_wide (integer k) t h = subst AreWide (some_is _ t h) (wide (promoted_kind k) (promoted_wide k))
promoting_wide s t h = cc

arithmetic_wide : (s t u : CType) → arithmetic s t ≡ Some u → AreWide u
arithmetic_wide (integer k) (integer l) u h = subst AreWide (some_is _ u h) (wide (common_kind k l) (common_wide (promoted_kind k) (promoted_kind l)))
arithmetic_wide s t u h = cc

numbers_wide : (op : BinaryOp) (s t a b : CType) → on_numbers op s t ≡ Some (a, b) → AreWide a
numbers_wide op s t a b = by_shift (is_shift op)
  where
    first_is : (x y : CType) → shifting (Some x) (Some y) ≡ Some (a, b) → x ≡ a
    first_is x y h = ap (λ p. p.0) (some_is (x, y) (a, b) h)

    shifted : (p q : Option CType) → promoting s ≡ p → shifting p q ≡ Some (a, b) → AreWide a
    shifted (Some x) (Some y) e h = subst AreWide (first_is x y h) (promoting_wide s x e)
    shifted p q e h = cc

    both : (p : Option CType) → arithmetic s t ≡ p → twice p ≡ Some (a, b) → AreWide a
    both None e h = cc
    both (Some x) e h = subst AreWide (first_is x x h) (arithmetic_wide s t x e)

    by_shift : (c : Bool) → (cond c (shifting (promoting s) (promoting t)) (twice (arithmetic s t))) ≡ Some (a, b) → AreWide a
    by_shift true h = shifted (promoting s) (promoting t) refl h
    by_shift false h = both (arithmetic s t) refl h

no_kind : (s u : CType) → Some (pointer s) ≡ Some u → AreWide u
no_kind s u h kind e = let is : pointer s ≡ integer kind = some_is (pointer s) u h ∙ e in cc

met_wide : (s t u : CType) (x y z w : Bool)
    → cond x (Some (pointer s)) (cond y (Some (pointer t)) (cond z (Some (pointer s)) (cond w (Some (pointer void)) None))) ≡ Some u → AreWide u
met_wide s t u true y z w h = no_kind s u h
met_wide s t u false true z w h = no_kind t u h
met_wide s t u false false true w h = no_kind s u h
met_wide s t u false false false true h = no_kind void u h
met_wide s t u false false false false h = cc

meeting_wide : (s t u : CType) (b c : Bool) → meeting s b t c ≡ Some u → AreWide u
meeting_wide (pointer s) (pointer t) u b c h = met_wide s t u _ b c _ h
meeting_wide (pointer s) (integer l) u b true h = no_kind s u h
meeting_wide (pointer s) t u b true h = cc
meeting_wide (pointer s) t u b false h = cc
meeting_wide (integer k) (pointer t) u true c h = no_kind t u h
meeting_wide (integer k) t u true c h = cc
meeting_wide (integer k) t u false c h = cc
meeting_wide s t u b c h = cc

void_wide : (s t u : CType) → both_void s t ≡ Some u → AreWide u
void_wide void void u h = λ kind e. let is : void ≡ integer kind = some_is void u h ∙ e in cc
void_wide s t u h = cc

choosing_wide : (s t u : CType) (b c : Bool) → choosing s b t c ≡ Some u → AreWide u
choosing_wide s t u b c h = by_first (arithmetic s t) (meeting s b t c) refl refl h
  where
    by_first : (o p : Option CType) → arithmetic s t ≡ o → meeting s b t c ≡ p → or_else o (or_else p (both_void s t)) ≡ Some u → AreWide u
    by_first (Some v) p e f h = arithmetic_wide s t u (e ∙ h)
    by_first None (Some v) e f h = meeting_wide s t u b c (f ∙ h)
    by_first None None e f h = void_wide s t u h

-- ---- of an expression

converted_fits : (t : CType) (c : Constant) (kind : IntKind) (v : ℕ) → t ≡ integer kind → converted_constant t c ≡ valued v → as_kind kind v ≡ v
converted_fits (integer k) (valued w) kind v e h =
    let is = valued_is (as_kind k w) v h in
    subst (λ k. as_kind k v ≡ v) (kind_is k kind e) (subst (λ v. as_kind k v ≡ v) is (kind_again k w))
converted_fits (integer k) none kind v e h = cc
converted_fits (integer k) undefined kind v e h = cc
converted_fits t c kind v e h = cc

module _ (d : Declared) where
  pub constant_fits : (e : Trees.Expression CType) (kind : IntKind) (v : ℕ) → IsTyped d e → ty e ≡ integer kind → constant_of e ≡ valued v
      → as_kind kind v ≡ v
  constant_fits (Trees.expression t at node) kind v h e c = by_node node h c (constant_below d (Trees.expression t at node) v h c)
    where
      int_wide : t ≡ integer Int → AreWide t
      int_wide is = subst AreWide (sym is) (wide Int refl)

      by_node : (node : Trees.Node CType) → IsTypedNode d t at node → constant_in t node ≡ valued v → v < 2 ^ 32 → as_kind kind v ≡ v
      by_node (Trees.constant w) h c l =
          let is = valued_is w v c in
          subst (λ k. as_kind k v ≡ v) (kind_is h.0 kind (sym h.1 ∙ e)) (subst (λ v. as_kind h.0 v ≡ v) is h.2)
      by_node (Trees.convert x written) h c l = converted_fits t (constant_of x) kind v e c
      by_node (Trees.unary op x) h c l = wide_fits kind v (promoting_wide (bare_ty x) t h.1 kind e) l
      by_node (Trees.binary op x y) h c l = wide_fits kind v (numbers_wide op (bare_ty x) (bare_ty y) t (ty y) h.2 kind e) l
      by_node (Trees.compare op x y) h c l = wide_fits kind v (int_wide h.4 kind e) l
      by_node (Trees.both x y) h c l = wide_fits kind v (int_wide h.4 kind e) l
      by_node (Trees.either x y) h c l = wide_fits kind v (int_wide h.4 kind e) l
      by_node (Trees.not x) h c l = wide_fits kind v (int_wide h.2 kind e) l
      by_node (Trees.choose x y z) h c l = wide_fits kind v (choosing_wide (bare_ty y) (bare_ty z) t _ _ h.4 kind e) l
      by_node node h c l = cc
