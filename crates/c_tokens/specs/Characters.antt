-- The bytes of a source file by their classes (C99 5.2.1, 6.4, 6.4.2.1, 6.4.4). They are ASCII.
use Rattle.std.specs.Prelude.{ℕ, nat_le, ◌-◌, ◌+◌, ◌*◌, ◌==◌, ◌&&◌, ◌||◌, not, Bool, false, List, [], ◌∷◌, fold, if◌then◌else◌}

-- white space: space, tab, line feed, vertical tab, form feed, carriage return
abbrev pub is_white : ℕ → Bool
is_white b = b == 32 || (nat_le 9 b && nat_le b 13)

abbrev pub is_line_feed : ℕ → Bool
is_line_feed b = b == 10

-- white space within a line
abbrev pub is_blank : ℕ → Bool
is_blank b = is_white b && not (is_line_feed b)

abbrev pub is_digit : ℕ → Bool
is_digit b = nat_le 48 b && nat_le b 57

abbrev pub is_octal : ℕ → Bool
is_octal b = nat_le 48 b && nat_le b 55

abbrev pub is_hexadecimal : ℕ → Bool
is_hexadecimal b = is_digit b || (nat_le 65 b && nat_le b 70) || (nat_le 97 b && nat_le b 102)

-- a letter, and the underscore, which counts as one
abbrev pub is_letter : ℕ → Bool
is_letter b = (nat_le 65 b && nat_le b 90) || (nat_le 97 b && nat_le b 122) || b == 95

abbrev pub goes_on_in_name : ℕ → Bool
goes_on_in_name b = is_letter b || is_digit b

-- "e", "E", "p" and "P", after which a sign goes on in a number
abbrev pub is_exponent : ℕ → Bool
is_exponent b = b == 101 || b == 69 || b == 112 || b == 80

abbrev pub is_sign : ℕ → Bool
is_sign b = b == 43 || b == 45

-- is the first byte such a byte?
abbrev pub begins : (ℕ → Bool) → List ℕ → Bool
begins p [] = false
begins p (b ∷ bytes) = p b

-- the value of a digit, of a hexadecimal one too
abbrev pub digit_value : ℕ → ℕ
digit_value b = if nat_le 97 b then b - 87 else if nat_le 65 b then b - 55 else b - 48

-- the value of digits, the highest first
abbrev pub value_of_digits : ℕ → List ℕ → ℕ
value_of_digits base digits = fold (λ n d. base * n + digit_value d) 0 digits
