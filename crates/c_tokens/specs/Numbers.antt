-- Integer constants (C99 6.4.4.1), and the words that numbers are taken from (6.4.8).
use Rattle.std.specs.Prelude.{◌≡◌, ℕ, nat_le, ◌==◌, ◌&&◌, ◌||◌, Bool, false, IsTrue, List, [], ◌∷◌, ◌++◌, ◌⊎◌, All, codes, Option, Some, None, if◌then◌else◌}
use Rattle.c_types.specs.declared.ty.IntKind.{IntKind}
use Rattle.c_types.specs.declared.ty.IntKind.TheVariants.{Int, UInt, Long, ULong}
use Rattle.c_types.specs.IntKinds.{greatest}
use Rattle.c_tokens.specs.declared.radix.Radix.{Radix}
use Rattle.c_tokens.specs.declared.radix.Radix.TheVariants.{Decimal, Octal, Hexadecimal}
use Rattle.c_tokens.specs.declared.radix.Suffix.{Suffix}
use Rattle.c_tokens.specs.declared.radix.Suffix.TheVariants.{Plain, Unsigned, UnsignedLong, LongLong, Long as LongSuffix}
use Rattle.c_tokens.specs.Characters.{is_digit, is_octal, is_hexadecimal, goes_on_in_name, is_exponent, is_sign, begins, value_of_digits}

-- ---- preprocessing numbers

-- a digit, or a dot and a digit
abbrev pub begins_number : List ℕ → Bool
begins_number [] = false
begins_number (b ∷ bytes) = is_digit b || (b == 46 && begins is_digit bytes)

-- after that byte: digits, letters and dots go on in a number, and a sign after the letter of an exponent
abbrev pub goes_on_in_number : ℕ → ℕ → Bool
goes_on_in_number before b = goes_on_in_name b || b == 46 || (is_exponent before && is_sign b)

abbrev pub GoOnInNumber : ℕ → List ℕ → Type 0
GoOnInNumber before [] = Unit {0}
GoOnInNumber before (b ∷ bytes) = IsTrue (goes_on_in_number before b) × GoOnInNumber b bytes

abbrev pub IsNumber : List ℕ → Type 0
IsNumber [] = ⊥
IsNumber (b ∷ bytes) = IsTrue (begins_number (b ∷ bytes)) × GoOnInNumber b bytes

-- ---- integer constants

abbrev pub base : Radix → ℕ
base Decimal = 10
base Octal = 8
base Hexadecimal = 16

-- the text is the constant with these digits, without its suffix
abbrev pub IsConstant : Radix → List ℕ → List ℕ → Type 0
IsConstant Decimal digits text = (text ≡ digits) × IsTrue (begins (nat_le 49) digits) × All (λ d. IsTrue (is_digit d)) digits
IsConstant Octal digits text = (text ≡ 48 ∷ digits) × All (λ d. IsTrue (is_octal d)) digits
IsConstant Hexadecimal digits text = (x : ℕ) × (text ≡ 48 ∷ x ∷ digits) × IsTrue (x == 120 || x == 88) × IsTrue (begins is_hexadecimal digits)
    × All (λ d. IsTrue (is_hexadecimal d)) digits

abbrev pub suffix_texts : Suffix → List (List ℕ)
suffix_texts Plain = [] ∷ []
suffix_texts Unsigned = codes "u" ∷ codes "U" ∷ []
suffix_texts LongSuffix = codes "l" ∷ codes "L" ∷ []
suffix_texts UnsignedLong = codes "ul" ∷ codes "uL" ∷ codes "Ul" ∷ codes "UL" ∷ codes "lu" ∷ codes "lU" ∷ codes "Lu" ∷ codes "LU" ∷ []
suffix_texts LongLong = codes "ll" ∷ codes "LL" ∷ codes "ull" ∷ codes "uLL" ∷ codes "Ull" ∷ codes "ULL" ∷ codes "llu" ∷ codes "llU" ∷ codes "LLu"
    ∷ codes "LLU" ∷ []

-- is it one of these texts?
abbrev pub IsOneOf : List (List ℕ) → List ℕ → Type 0
IsOneOf [] text = ⊥
IsOneOf (t ∷ texts) text = (text ≡ t) ⊎ IsOneOf texts text

pub record IsInteger (word : List ℕ) (radix : Radix) (digits : List ℕ) (suffix : Suffix) : Type 0 where
  pub text : List ℕ
  pub tail : List ℕ
  pub word_is : word ≡ text ++ tail
  pub constant : IsConstant radix digits text
  pub suffixed : IsOneOf (suffix_texts suffix) tail

-- the types among which the first that holds the value is the constant's (the table of 6.4.4.1); no type of this
-- profile has more than 32 bits
abbrev pub kinds : Radix → Suffix → List IntKind
kinds Decimal Plain = Int ∷ Long ∷ []
kinds Octal Plain = Int ∷ UInt ∷ Long ∷ ULong ∷ []
kinds Hexadecimal Plain = Int ∷ UInt ∷ Long ∷ ULong ∷ []
kinds radix Unsigned = UInt ∷ ULong ∷ []
kinds Decimal LongSuffix = Long ∷ []
kinds Octal LongSuffix = Long ∷ ULong ∷ []
kinds Hexadecimal LongSuffix = Long ∷ ULong ∷ []
kinds radix UnsignedLong = ULong ∷ []
kinds radix LongLong = []

abbrev pub first_holding : ℕ → List IntKind → Option IntKind
first_holding n [] = None
first_holding n (kind ∷ more) = if nat_le n (greatest kind) then Some kind else first_holding n more

-- the value and the type, where a type holds the value
abbrev pub value : Radix → List ℕ → ℕ
value radix digits = value_of_digits (base radix) digits

abbrev pub type_of : Radix → List ℕ → Suffix → Option IntKind
type_of radix digits suffix = first_holding (value radix digits) (kinds radix suffix)
