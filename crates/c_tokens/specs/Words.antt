-- Words: what can be one token, and which token it is (C99 6.4).
use Rattle.std.specs.Prelude.{◌≡◌, ℕ, ◌<◌, ◌≤◌, IsTrue, List, [], ◌∷◌, ◌++◌, All, Any, length, Some, None}
use Rattle.lay_base.specs.declared.faults.Keyword.{Keyword}
use Rattle.c_tokens.specs.declared.part.Shape.{Shape}
use Rattle.c_tokens.specs.declared.part.Shape.TheVariants as S
use Rattle.c_tokens.specs.declared.token.TokenKind.{TokenKind}
use Rattle.c_tokens.specs.declared.token.TokenKind.TheVariants as K
use Rattle.c_tokens.specs.Characters.{is_letter, goes_on_in_name}
use Rattle.lay_base.specs.Keywords.{keyword_text}
use Rattle.c_tokens.specs.Punctuators.{punctuator_text}
use Rattle.c_tokens.specs.declared.radix.Radix.{Radix}
use Rattle.c_tokens.specs.declared.radix.Suffix.{Suffix}
use Rattle.c_tokens.specs.Numbers.{IsNumber, IsInteger, value, type_of}
use Rattle.c_tokens.specs.Quoted.{IsQuoted, Item, HasItems, item_value}

-- a letter, then letters and digits (6.4.2.1)
abbrev pub IsName : List ℕ → Type 0
IsName [] = ⊥
IsName (b ∷ bytes) = IsTrue (is_letter b) × All (λ c. IsTrue (goes_on_in_name c)) bytes

-- bytes that can be one token
abbrev pub IsWord : Shape → List ℕ → Type 0
IsWord S.Name word = IsName word
IsWord S.Number word = IsNumber word
IsWord S.Character word = IsQuoted 39 word
IsWord S.Text word = IsQuoted 34 word
IsWord (S.Punctuator punctuator) word = word ≡ punctuator_text punctuator

-- no longer front of the text can be one token
abbrev pub IsLongest : List ℕ → List ℕ → Type 0
IsLongest word rest = (shape : Shape) (more after : List ℕ) → rest ≡ more ++ after → IsWord shape (word ++ more) → more ≡ []

-- ---- which token a word is

-- the greatest value of a character, and the greatest length of a name
abbrev pub greatest_character : ℕ
greatest_character = 255

abbrev pub longest_name : ℕ
longest_name = 255

abbrev pub IsToken : Shape → List ℕ → TokenKind → Type 0
IsToken S.Name word (K.Keyword keyword) = word ≡ keyword_text keyword
IsToken S.Name word K.Name = (length word ≤ longest_name) × ((keyword : Keyword) → word ≡ keyword_text keyword → ⊥)
IsToken S.Number word (K.Number n kind) = (radix : Radix) × (digits : List ℕ) × (suffix : Suffix) × IsInteger word radix digits suffix
    × (value radix digits ≡ n) × (type_of radix digits suffix ≡ Some kind)
IsToken S.Character word (K.Character n) = (item : Item) × HasItems 39 (item ∷ []) word × (item_value item ≡ n) × (n ≤ greatest_character)
IsToken S.Text word K.Text = (items : List Item) × HasItems 34 items word × All (λ item. item_value item ≤ greatest_character) items
IsToken (S.Punctuator punctuator) word (K.Punctuator m) = m ≡ punctuator
IsToken _ word _ = ⊥

-- a number that is no integer constant, a character constant of no or several characters, and an escape that is none
abbrev pub IsMalformed : Shape → List ℕ → Type 0
IsMalformed S.Number word = (radix : Radix) (digits : List ℕ) (suffix : Suffix) → IsInteger word radix digits suffix → ⊥
IsMalformed S.Character word = (item : Item) → HasItems 39 (item ∷ []) word → ⊥
IsMalformed S.Text word = (items : List Item) → HasItems 34 items word → ⊥
IsMalformed _ word = ⊥

-- a name that is too long, a number that no type holds, and a character above 255
abbrev pub IsTooWide : Shape → List ℕ → Type 0
IsTooWide S.Name word = longest_name < length word
IsTooWide S.Number word = (radix : Radix) × (digits : List ℕ) × (suffix : Suffix) × IsInteger word radix digits suffix × (type_of radix digits suffix ≡ None)
IsTooWide S.Character word = (item : Item) × HasItems 39 (item ∷ []) word × (greatest_character < item_value item)
IsTooWide S.Text word = (items : List Item) × HasItems 34 items word × Any (λ item. greatest_character < item_value item) items
IsTooWide (S.Punctuator punctuator) word = ⊥
