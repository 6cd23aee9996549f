-- Character constants and string literals (C99 6.4.4.4, 6.4.5).
use Rattle.std.specs.Prelude.{◌≡◌, ◌≢◌, ℕ, ◌<◌, ◌≤◌, Bool, true, false, IsTrue, List, [], ◌∷◌, ◌++◌, ◌==◌, All, Option, IsSome, unwrap_or, length}
use Rattle.std.specs.Map.{lookup}
use Rattle.c_tokens.specs.Characters.{is_octal, is_hexadecimal, begins, value_of_digits}

-- ---- what stands between quotes

-- no line feed, and the quote only after a backslash, which takes the next byte along; is the byte after one?
abbrev pub IsInside : ℕ → Bool → List ℕ → Type 0
IsInside quote escaped [] = escaped ≡ false
IsInside quote true (b ∷ body) = (b ≢ 10) × IsInside quote false body
IsInside quote false (b ∷ body) = (b ≢ 10) × (b ≢ quote) × IsInside quote (b == 92) body

-- from a quote to the next one that stands after no backslash
abbrev pub IsQuoted : ℕ → List ℕ → Type 0
IsQuoted quote word = (body : List ℕ) × (word ≡ quote ∷ body ++ quote ∷ []) × IsInside quote false body

-- ---- characters and escapes

pub data Item : Type 0 where
  -- a byte that stands for itself
  plain : (b : ℕ) → Item
  -- "\" and a letter or punctuator
  simple : (b : ℕ) → Item
  -- "\" and octal digits
  octal : (digits : List ℕ) → Item
  -- "\x" and hexadecimal digits
  hexadecimal : (digits : List ℕ) → Item

abbrev pub item_text : Item → List ℕ
item_text (plain b) = b ∷ []
item_text (simple b) = 92 ∷ b ∷ []
item_text (octal digits) = 92 ∷ digits
item_text (hexadecimal digits) = 92 ∷ 120 ∷ digits

-- the letters and punctuators of simple escapes with their values: ' " ? \ and alert, backspace, form feed, line feed,
-- carriage return, horizontal and vertical tab
abbrev pub simple_escapes : List (ℕ × ℕ)
simple_escapes = (39, 39) ∷ (34, 34) ∷ (63, 63) ∷ (92, 92) ∷ (97, 7) ∷ (98, 8) ∷ (102, 12) ∷ (110, 10) ∷ (114, 13) ∷ (116, 9) ∷ (118, 11) ∷ []

abbrev pub simple_value : ℕ → Option ℕ
simple_value b = lookup (λ letter. letter == b) simple_escapes

-- an item before what follows in the body: an escape takes as many digits as it can, an octal one at most three
abbrev pub IsItem : Item → List ℕ → Type 0
IsItem (plain b) rest = b ≢ 92
IsItem (simple b) rest = IsSome (simple_value b)
IsItem (octal digits) rest = IsTrue (begins is_octal digits) × All (λ d. IsTrue (is_octal d)) digits × (length digits ≤ 3)
    × (length digits < 3 → begins is_octal rest ≡ false)
IsItem (hexadecimal digits) rest = IsTrue (begins is_hexadecimal digits) × All (λ d. IsTrue (is_hexadecimal d)) digits × (begins is_hexadecimal rest ≡ false)

abbrev pub item_value : Item → ℕ
item_value (plain b) = b
item_value (simple b) = unwrap_or (simple_value b) 0
item_value (octal digits) = value_of_digits 8 digits
item_value (hexadecimal digits) = value_of_digits 16 digits

-- the body is these items, one after the other
abbrev pub AreItems : List Item → List ℕ → Type 0
AreItems [] body = body ≡ []
AreItems (item ∷ items) body = (rest : List ℕ) × (body ≡ item_text item ++ rest) × IsItem item rest × AreItems items rest

-- the word is these items between two such quotes
abbrev pub HasItems : ℕ → List Item → List ℕ → Type 0
HasItems quote items word = (body : List ℕ) × (word ≡ quote ∷ body ++ quote ∷ []) × AreItems items body
