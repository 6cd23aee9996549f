-- Reading character constants and string literals from the left: what the private functions compute. No public clause
-- cites it.
use Rattle.std.specs.Prelude.{ℕ, zero, suc, ◌+◌, ◌*◌, min, nat_le, ◌==◌, Bool, true, false, List, [], ◌∷◌, take, drop, fold, length, Option, Some}
use Rattle.std.specs.Prelude.{None, option_map, ◌-◌, Result, Ok, Err, if◌then◌else◌}
use Rattle.std.specs.List.{prefix_len, list_any}
use Rattle.c_tokens.specs.declared.fault.FaultKind.{FaultKind}
use Rattle.c_tokens.specs.declared.fault.FaultKind.TheVariants.{BadLiteral, TooWide}
use Rattle.c_tokens.specs.declared.token.TokenKind.{TokenKind}
use Rattle.c_tokens.specs.declared.token.TokenKind.TheVariants.{Character, Text}
use Rattle.c_tokens.specs.Characters.{is_octal, is_hexadecimal, digit_value}
use Rattle.c_tokens.specs.Quoted.{simple_value}

-- how many bytes go up to the closing quote, and with it, from after the opening one
abbrev pub quoted_length : ℕ → Bool → List ℕ → Option ℕ
quoted_length quote escaped [] = None
quoted_length quote true (b ∷ bytes) = if b == 10 then None else option_map suc (quoted_length quote false bytes)
quoted_length quote false (b ∷ bytes) =
    if b == 10 then None
    else if b == quote then Some 1
    else option_map suc (quoted_length quote (b == 92) bytes)

-- the value of digits, or 256 where it is greater
abbrev pub capped_character : ℕ → List ℕ → ℕ
capped_character base digits = fold (λ n d. min (base * n + digit_value d) 256) 0 digits

-- the value of the digits at the front, with how many bytes there are, if there is any
abbrev pub digits_at : ℕ → ℕ → List ℕ → Option (ℕ × ℕ)
digits_at base zero bytes = None
digits_at base (suc n) bytes = Some (capped_character base (take (suc n) bytes), suc n)

-- after a backslash: the value, and how many bytes
abbrev pub escape_at : List ℕ → Option (ℕ × ℕ)
escape_at [] = None
escape_at (b ∷ bytes) =
    if is_octal b then digits_at 8 (min (prefix_len is_octal (b ∷ bytes)) 3) (b ∷ bytes)
    else if b == 120 then option_map (λ it. (it.0, it.1 + 1)) (digits_at 16 (prefix_len is_hexadecimal bytes) bytes)
    else option_map (λ value. (value, 1)) (simple_value b)

-- the first character: its value, and how many bytes
abbrev pub item_at : List ℕ → Option (ℕ × ℕ)
item_at [] = None
item_at (b ∷ bytes) = if b == 92 then option_map (λ it. (it.0, it.1 + 1)) (escape_at bytes) else Some (b, 1)

-- one character more
abbrev pub with_item : Option (ℕ × ℕ) → (ℕ → Option (List ℕ)) → Option (List ℕ)
with_item None more = None
with_item (Some item) more = option_map (λ values. item.0 ∷ values) (more item.1)

-- the values of all characters; in a body of n bytes there are no more than n
abbrev pub values_in : ℕ → List ℕ → Option (List ℕ)
values_in n [] = Some []
values_in zero (b ∷ bytes) = None
values_in (suc n) (b ∷ bytes) = with_item (item_at (b ∷ bytes)) (λ size. values_in n (drop size (b ∷ bytes)))

abbrev pub is_too_great : ℕ → Bool
is_too_great value = nat_le 256 value

-- what stands between the quotes of a word
abbrev pub body_of : List ℕ → List ℕ
body_of word = let inner = drop 1 word in take (length word - 2) inner

-- the first character is the whole body, of so many bytes
abbrev pub character_with : ℕ → Option (ℕ × ℕ) → Result TokenKind FaultKind
character_with size None = Err BadLiteral
character_with size (Some item) =
    if item.1 == size then (if is_too_great item.0 then Err TooWide else Ok (Character item.0))
    else Err BadLiteral

abbrev pub text_with : Option (List ℕ) → Result TokenKind FaultKind
text_with None = Err BadLiteral
text_with (Some values) = if list_any is_too_great values then Err TooWide else Ok Text

unfoldable pub character_of : List ℕ → Result TokenKind FaultKind
character_of word = let body = body_of word in character_with (length body) (item_at body)

unfoldable pub string_of : List ℕ → Result TokenKind FaultKind
string_of word = let body = body_of word in text_with (values_in (length body) body)

-- the bytes that the values of all characters are, where none is too great
abbrev pub bytes_with : Option (List ℕ) → List ℕ
bytes_with None = []
bytes_with (Some values) = if list_any is_too_great values then [] else values

-- the bytes of the string literal that a word is; of any other word, none
unfoldable pub string_bytes : List ℕ → List ℕ
string_bytes word = let body = body_of word in bytes_with (values_in (length body) body)
