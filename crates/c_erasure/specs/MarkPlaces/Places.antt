-- Places among the tokens of a text.
use Rattle.std.specs.Prelude.{◌≡◌, ℕ, ◌≤◌, ◌<◌, List, [], ◌∷◌, ◌++◌, ◌⊎◌}
use Rattle.c_ast.specs.Spelling.{Lexeme}
use Rattle.c_erasure.specs.Marks.{Mark, a_tag, an_end, a_name}

-- the bytes of the ends and of the beginnings of scopes, in their order
abbrev pub bytes_of : List Mark → List ℕ
bytes_of [] = []
bytes_of (a_tag t ∷ more) = bytes_of more
bytes_of (an_end tag right ∷ more) = right ∷ bytes_of more
bytes_of (a_name from ∷ more) = from ∷ bytes_of more

-- the places are those of some of the tokens, in their order
abbrev pub AreAmong : List ℕ → List Lexeme → Type 0
AreAmong places [] = places ≡ []
AreAmong places (t ∷ tokens) = AreAmong places tokens ⊎ ((more : List ℕ) × (places ≡ t.from ∷ more) × (t.from < t.to) × AreAmong more tokens)

-- the tokens come one after the other, from a byte on
abbrev pub AreOrdered : ℕ → List Lexeme → Type 0
AreOrdered at [] = Unit {0}
AreOrdered at (t ∷ tokens) = (at ≤ t.from) × (t.from ≤ t.to) × AreOrdered t.to tokens

-- the tokens of a part, before those of what follows, and the marks that stand at them in their order
pub record Along (marks : List Mark) (tokens rest : List Lexeme) : Type 0 where
  pub own : List Lexeme
  pub whole : tokens ≡ own ++ rest
  pub among : AreAmong (bytes_of marks) own
