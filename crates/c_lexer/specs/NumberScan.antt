-- Reading integer constants from the left: what the private functions compute. No public clause cites it.
use Rattle.std.specs.Prelude.{ℕ, ◌+◌, ◌*◌, ◌^◌, min, ◌==◌, ◌&&◌, ◌||◌, Bool, false, List, [], ◌∷◌, take, drop, fold, Option, Some, None, Result, Ok}
use Rattle.std.specs.Prelude.{Err, if◌then◌else◌}
use Rattle.std.specs.List.{prefix_len}
use Rattle.c_types.specs.declared.ty.IntKind.{IntKind}
use Rattle.c_tokens.specs.declared.fault.FaultKind.{FaultKind}
use Rattle.c_tokens.specs.declared.fault.FaultKind.TheVariants.{BadLiteral, TooWide}
use Rattle.c_tokens.specs.declared.radix.Radix.{Radix}
use Rattle.c_tokens.specs.declared.radix.Radix.TheVariants.{Decimal, Octal, Hexadecimal}
use Rattle.c_tokens.specs.declared.radix.Suffix.{Suffix}
use Rattle.c_tokens.specs.declared.radix.Suffix.TheVariants.{Plain, Unsigned, UnsignedLong, LongLong, Long}
use Rattle.c_tokens.specs.declared.token.TokenKind.{TokenKind}
use Rattle.c_tokens.specs.declared.token.TokenKind.TheVariants.{Number}
use Rattle.c_tokens.specs.Characters.{is_digit, is_octal, is_hexadecimal, begins, digit_value}
use Rattle.c_tokens.specs.Numbers.{base, goes_on_in_number, kinds, first_holding}

-- how far a number goes on after a byte of it
abbrev pub number_length : ℕ → List ℕ → ℕ
number_length before [] = 0
number_length before (b ∷ bytes) = if goes_on_in_number before b then number_length b bytes + 1 else 0

-- the value, or 2 ^ 32 where it is greater
abbrev pub capped_value : ℕ → List ℕ → ℕ
capped_value base digits = fold (λ n d. min (base * n + digit_value d) (2 ^ 32)) 0 digits

abbrev pub is_radix_letter : ℕ → Bool
is_radix_letter b = b == 120 || b == 88

-- does a hexadecimal constant begin, from after its 0?
abbrev pub begins_hexadecimal : List ℕ → Bool
begins_hexadecimal [] = false
begins_hexadecimal (x ∷ bytes) = is_radix_letter x && begins is_hexadecimal bytes

-- how many bytes stand before the digits
abbrev pub radix_at : List ℕ → Option (Radix × ℕ)
radix_at [] = None
radix_at (b ∷ bytes) =
    if b == 48 then (if begins_hexadecimal bytes then Some (Hexadecimal, 2) else Some (Octal, 1))
    else if is_digit b then Some (Decimal, 0)
    else None

abbrev pub is_digit_in : Radix → ℕ → Bool
is_digit_in Decimal b = is_digit b
is_digit_in Octal b = is_octal b
is_digit_in Hexadecimal b = is_hexadecimal b

abbrev pub is_u : ℕ → Bool
is_u b = b == 117 || b == 85

abbrev pub is_l : ℕ → Bool
is_l b = b == 108 || b == 76

abbrev pub suffix_of_one : ℕ → Option Suffix
suffix_of_one a = if is_u a then Some Unsigned else if is_l a then Some Long else None

abbrev pub suffix_of_two : ℕ → ℕ → Option Suffix
suffix_of_two a b =
    if (is_u a && is_l b) || (is_l a && is_u b) then Some UnsignedLong
    else if is_l a && a == b then Some LongLong
    else None

abbrev pub suffix_of_three : ℕ → ℕ → ℕ → Option Suffix
suffix_of_three a b c = if (is_u a && is_l b && b == c) || (is_l a && a == b && is_u c) then Some LongLong else None

abbrev pub suffix_at : List ℕ → Option Suffix
suffix_at [] = Some Plain
suffix_at (a ∷ []) = suffix_of_one a
suffix_at (a ∷ b ∷ []) = suffix_of_two a b
suffix_at (a ∷ b ∷ c ∷ []) = suffix_of_three a b c
suffix_at (a ∷ b ∷ c ∷ d ∷ text) = None

abbrev pub typed_number : ℕ → Option IntKind → Result TokenKind FaultKind
typed_number n None = Err TooWide
typed_number n (Some kind) = Ok (Number n kind)

abbrev pub suffixed_number : Radix → ℕ → Option Suffix → Result TokenKind FaultKind
suffixed_number radix n None = Err BadLiteral
suffixed_number radix n (Some suffix) = typed_number n (first_holding n (kinds radix suffix))

-- the digits, and what stands after them
abbrev pub number_after : Radix → List ℕ → Result TokenKind FaultKind
number_after radix text =
    let n = prefix_len (is_digit_in radix) text in
    suffixed_number radix (capped_value (base radix) (take n text)) (suffix_at (drop n text))

abbrev pub number_from : List ℕ → Option (Radix × ℕ) → Result TokenKind FaultKind
number_from word None = Err BadLiteral
number_from word (Some start) = number_after start.0 (drop start.1 word)

-- the token that a preprocessing number is
unfoldable pub number_of : List ℕ → Result TokenKind FaultKind
number_of word = number_from word (radix_at word)
