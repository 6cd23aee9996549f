-- The bytes of string literals, without the zero that ends them (C99 6.4.5).
use Rattle.std.specs.Prelude.{◌≡◌, ℕ, ◌≤◌, List, [], ◌∷◌, ◌++◌, All, map}
use Rattle.c_tokens.specs.declared.part.Shape.TheVariants as S
use Rattle.c_tokens.specs.declared.token.TokenKind.TheVariants as K
use Rattle.c_tokens.specs.Quoted.{Item, HasItems, item_value}
use Rattle.c_tokens.specs.Words.{IsToken, greatest_character}

-- the text is that of a string literal
abbrev pub IsStringLiteral : List ℕ → Type 0
IsStringLiteral text = IsToken S.Text text K.Text

-- the values of its characters, with escapes read
abbrev pub AreBytesOf : List ℕ → List ℕ → Type 0
AreBytesOf text bytes = (items : List Item) × HasItems 34 items text × All (λ item. item_value item ≤ greatest_character) items × (bytes ≡ map item_value items)

-- those of adjacent string literals, one after the other: escapes are read before the literals are joined (5.1.1.2)
abbrev pub AreBytesOfAll : List (List ℕ) → List ℕ → Type 0
AreBytesOfAll [] bytes = bytes ≡ []
AreBytesOfAll (text ∷ texts) bytes = (first more : List ℕ) × AreBytesOf text first × AreBytesOfAll texts more × (bytes ≡ first ++ more)
