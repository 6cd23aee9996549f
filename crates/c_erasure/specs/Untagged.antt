-- The tag of a structure that has none: `@FILE:LINE:K`, for the K-th `struct` of its file on that presumed line (own).
use Rattle.std.specs.Prelude.{◌≡◌, ◌≢◌, ℕ, ◌+◌, if◌then◌else◌, nat_le, List, [], ◌∷◌, ◌++◌, take, drop, ◌-◌, All, filter, flat_map, decimal, ◌⊎◌}
use Rattle.lay_base.specs.declared.faults.Keyword.TheVariants as W
use Rattle.c_tokens.specs.declared.presumed.Presumed.{Presumed}
use Rattle.c_tokens.specs.declared.token.TokenKind.{TokenKind}
use Rattle.c_tokens.specs.declared.token.TokenKind.TheVariants as K
use Rattle.c_tokens.specs.Presuming.{IsPresumed}
use Rattle.c_ast.specs.Spelling.{Lexeme}

-- a presumed file and line
abbrev pub Line : Type 0
Line = List ℕ × ℕ

-- an empty range means the file's own name
abbrev pub name_in : List ℕ → List ℕ → Presumed → List ℕ
name_in name bytes p = if nat_le p.to p.from then name else take (p.to - p.from) (drop p.from bytes)

abbrev pub IsLineOf : List ℕ → List ℕ → ℕ → Line → Type 0
IsLineOf name bytes at line = (p : Presumed) × IsPresumed (take at bytes) p × (line ≡ (name_in name bytes p, p.line))

-- how many of some places are on a line
abbrev pub AreOnLine : List ℕ → List ℕ → List ℕ → Line → ℕ → Type 0
AreOnLine name bytes [] line k = k ≡ 0
AreOnLine name bytes (at ∷ more) line k = (own : Line) × (j : ℕ) × IsLineOf name bytes at own × AreOnLine name bytes more line j
    × (((own ≡ line) × (k ≡ j + 1)) ⊎ ((own ≢ line) × (k ≡ j)))

abbrev pub place_of_struct : TokenKind → ℕ → List ℕ
place_of_struct (K.Keyword W.Struct) at = at ∷ []
place_of_struct kind at = []

-- where the keyword `struct` stands
abbrev pub structs_in : List Lexeme → List ℕ
structs_in tokens = flat_map (λ t. place_of_struct t.kind t.from) tokens

abbrev pub tag_text : Line → ℕ → List ℕ
tag_text line k = 64 ∷ line.0 ++ 58 ∷ decimal line.1 ++ 58 ∷ decimal k

-- `untagged` gives each `struct` of a file, by its byte, the tag that it has where none is written
abbrev pub AreTags : List ℕ → List ℕ → List ℕ → (ℕ → List ℕ) → Type 0
AreTags name bytes structs untagged = All (λ at. (line : Line) × (k : ℕ) × IsLineOf name bytes at line
    × AreOnLine name bytes (filter (λ other. nat_le other at) structs) line k × (untagged at ≡ tag_text line k)) structs
