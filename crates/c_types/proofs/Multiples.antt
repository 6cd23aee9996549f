-- Alignments are 1, 2 or 4, and sizes are multiples of them.
use Rattle.std.proofs.Common.{◌≡◌, ◌≤◌, ◌*◌, ◌%◌, ◌⊎◌, inl, inr, ⊎_elim, ℕ, zero, suc, List, [], ◌∷◌, refl, sym, ap, ◌∙◌, subst, arith}
use Rattle.std.specs.Prelude.{All, max}
use Rattle.std.specs.Int.{next_multiple_of}
use Rattle.std.proofs.Math.Nat.{zero-mod, zero-mul}
use Rattle.std.proofs.lemmas.Nat.{mul-mod_first}
use Rattle.c_types.specs.declared.ty.IntKind.{IntKind}
use Rattle.c_types.specs.declared.ty.IntKind.TheVariants as I
use Rattle.c_types.specs.declared.layout.Layout.{Layout}
use Rattle.c_types.specs.Laws.{SizesAreMultiples}
use Rattle.c_types.specs.IntKinds.{width}
use Rattle.c_types.specs.Layouts.{alignment_in, greatest_alignment, layout, layout_at, layouts, size_in}
use Rattle.c_types.specs.Types.{CType, Record, void, integer, pointer, array, function, structure}
use Rattle.c_types.proofs.Before.{each_layout}

abbrev pub IsOneOf : ℕ → Type 0
IsOneOf a = (a ≡ 1) ⊎ (a ≡ 2) ⊎ (a ≡ 4)

abbrev one : IsOneOf 1
one = inl refl

abbrev four : IsOneOf 4
four = inr (inr refl)

width_one_of : (kind : IntKind) → IsOneOf (width kind)
width_one_of I.Char = inl refl
width_one_of I.SChar = inl refl
width_one_of I.UChar = inl refl
width_one_of I.Short = inr (inl refl)
width_one_of I.UShort = inr (inl refl)
width_one_of I.Int = inr (inr refl)
width_one_of I.UInt = inr (inr refl)
width_one_of I.Long = inr (inr refl)
width_one_of I.ULong = inr (inr refl)

-- a fact at 1, 2 and 4
at_one_of : (P : ℕ → Type 0) (a : ℕ) → IsOneOf a → P 1 → P 2 → P 4 → P a
at_one_of P a is p q r =
    ⊎_elim (λ e. subst P (sym e) p) (λ more. ⊎_elim (λ e. subst P (sym e) q) (λ e. subst P (sym e) r) more) is

pub multiple_is : (n a : ℕ) → IsOneOf a → next_multiple_of n a % a ≡ 0
multiple_is n a is = at_one_of (λ a. next_multiple_of n a % a ≡ 0) a is (omega arith) (omega arith) (omega arith)

-- the greater of two is a multiple of each
pub max_one_of : (a b : ℕ) → IsOneOf a → IsOneOf b → IsOneOf (max a b)
max_one_of a b x y =
    at_one_of (λ a. IsOneOf (max a b)) a x (at_one_of (λ b. IsOneOf (max 1 b)) b y one (inr (inl refl)) four)
    (at_one_of (λ b. IsOneOf (max 2 b)) b y (inr (inl refl)) (inr (inl refl)) four) (at_one_of (λ b. IsOneOf (max 4 b)) b y four four four)

pub less_divides : (a b : ℕ) → IsOneOf a → IsOneOf b → a ≤ b → b % a ≡ 0
less_divides a b x y =
    at_one_of (λ a. a ≤ b → b % a ≡ 0) a x (at_one_of (λ b. 1 ≤ b → b % 1 ≡ 0) b y (λ h. refl) (λ h. refl) (λ h. refl))
    (at_one_of (λ b. 2 ≤ b → b % 2 ≡ 0) b y (λ h. absurd (omega arith)) (λ h. refl) (λ h. refl))
    (at_one_of (λ b. 4 ≤ b → b % 4 ≡ 0) b y (λ h. absurd (omega arith)) (λ h. absurd (omega arith)) (λ h. refl))

-- a layout whose size is a multiple of its alignment
abbrev pub IsEven : Layout → Type 0
IsEven it = IsOneOf it.alignment × (it.size % it.alignment ≡ 0)

even_at : (known : List Layout) (number : ℕ) → All IsEven known → IsEven (layout_at known number)
even_at [] number all = (one, refl)
even_at (l ∷ more) zero all = all 0 l (omega arith)
even_at (l ∷ more) (suc n) all = even_at more n (λ k d h. all (suc k) d (omega (arith, h)))

pub type_one_of : (known : List Layout) (t : CType) → All IsEven known → IsOneOf (alignment_in known t)
type_one_of known void all = one
type_one_of known (integer kind) all = width_one_of kind
type_one_of known (pointer t) all = four
type_one_of known (array t n) all = type_one_of known t all
type_one_of known (function t ps) all = one
type_one_of known (structure number) all = (even_at known number all).0

pub greatest_one_of : (known : List Layout) (types : List CType) → All IsEven known → IsOneOf (greatest_alignment known types)
greatest_one_of known [] all = one
greatest_one_of known (t ∷ more) all =
    max_one_of (alignment_in known t) (greatest_alignment known more) (type_one_of known t all) (greatest_one_of known more all)

pub layouts_even : (records : List Record) → All IsEven (layouts records)
layouts_even records = each_layout IsEven next records
  where
    next : (known : List Layout) (types : List CType) → All IsEven known → IsEven (layout known types)
    next known types all = (greatest_one_of known types all, multiple_is _ (greatest_alignment known types) (greatest_one_of known types all))

zero_times : (s n a : ℕ) → s % a ≡ 0 → (s * n) % a ≡ 0
zero_times s n a h = sym (mul-mod_first s n a) ∙ ap (λ r. (r * n) % a) h ∙ ap (λ k. k % a) (zero-mul n) ∙ zero-mod a

multiple_in : (known : List Layout) (t : CType) → All IsEven known → size_in known t % alignment_in known t ≡ 0
multiple_in known void all = refl
multiple_in known (integer I.Char) all = refl
multiple_in known (integer I.SChar) all = refl
multiple_in known (integer I.UChar) all = refl
multiple_in known (integer I.Short) all = refl
multiple_in known (integer I.UShort) all = refl
multiple_in known (integer I.Int) all = refl
multiple_in known (integer I.UInt) all = refl
multiple_in known (integer I.Long) all = refl
multiple_in known (integer I.ULong) all = refl
multiple_in known (pointer t) all = refl
multiple_in known (array t n) all = zero_times (size_in known t) n (alignment_in known t) (multiple_in known t all)
multiple_in known (function t ps) all = refl
multiple_in known (structure number) all = (even_at known number all).1

pub sizes_are_multiples : (records : List Record) → SizesAreMultiples records
sizes_are_multiples records = record {
  one_of = λ t. type_one_of (layouts records) t (layouts_even records);
  multiple = λ t. multiple_in (layouts records) t (layouts_even records);
}
