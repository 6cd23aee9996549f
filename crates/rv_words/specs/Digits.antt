-- Words in hexadecimal digits.
use Rattle.std.specs.Prelude.{ℕ, ◌+◌, ◌-◌, ◌*◌, nat_le, ◌&&◌, if◌then◌else◌, Option, Some, None, List, [], ◌∷◌, length}

-- the digit of a character: 0 to 9, a to f and A to F
abbrev pub digit : ℕ → Option ℕ
digit byte =
    if nat_le 0x30 byte && nat_le byte 0x39 then Some (byte - 0x30) else
    (if nat_le 0x61 byte && nat_le byte 0x66 then Some (byte - 0x61 + 10) else
    (if nat_le 0x41 byte && nat_le byte 0x46 then Some (byte - 0x41 + 10) else None))

-- with one digit more
abbrev pub with_digit : (rest : ℕ → Option ℕ) (so_far : ℕ) → Option ℕ → Option ℕ
with_digit rest so_far None = None
with_digit rest so_far (Some d) = rest (so_far * 16 + d)

-- the value of digits after others, the highest first
unfoldable pub value : List ℕ → (so_far : ℕ) → Option ℕ
value [] so_far = Some so_far
value (byte ∷ bytes) so_far = with_digit (value bytes) so_far (digit byte)

-- the word that 1 to 8 digits spell
abbrev pub word_of : List ℕ → Option ℕ
word_of text = if nat_le 1 (length text) && nat_le (length text) 8 then value text 0 else None
