-- The tree of a file's bytes.
use Rattle.std.specs.Prelude.{◌≡◌, ℕ, ◌≤◌, Bool, true, false, List, [], ◌∷◌, if◌then◌else◌, Option, Some, None}
use Rattle.lay_base.specs.declared.faults.Keyword.{Keyword}
use Rattle.lay_base.specs.declared.faults.Keyword.TheVariants as W
use Rattle.c_tokens.specs.declared.token.Token.{Token}
use Rattle.c_tokens.specs.declared.token.TokenKind.{TokenKind}
use Rattle.c_tokens.specs.declared.token.TokenKind.TheVariants as K
use Rattle.c_tokens.specs.Lexes.{Lexes}
use Rattle.c_ast.specs.Trees
use Rattle.c_ast.specs.Lexemes.{lexemes_of}
use Rattle.c_ast.specs.Spelling.{Lexeme, spell}
use Rattle.c_ast.specs.WellFormed.{AreItems}
use Rattle.c_ast.specs.Sizes.{depth_items}

-- the deepest tree
abbrev pub greatest_depth : ℕ
greatest_depth = 400

-- a well formed tree that spells these tokens
pub record IsTreeOfTokens (tokens : List Lexeme) (items : List Trees.Item) : Type 0 where
  pub spelled : tokens ≡ spell items
  pub well_formed : AreItems [] items
  pub shallow : depth_items items ≤ greatest_depth

-- ---- keywords that are left out

abbrev pub is_unsupported : Keyword → Bool
is_unsupported (W.LeftOut number) = true
is_unsupported _ = false

-- a keyword that is left out, with its byte, or what is found after it
abbrev pub unsupported_or : TokenKind → ℕ → Option (Keyword × ℕ) → Option (Keyword × ℕ)
unsupported_or (K.Keyword keyword) at later = if is_unsupported keyword then Some (keyword, at) else later
unsupported_or _ at later = later

-- the first keyword that is left out, with its byte
abbrev pub first_unsupported : List Token → Option (Keyword × ℕ)
first_unsupported [] = None
first_unsupported (token ∷ tokens) = unsupported_or token.kind token.from (first_unsupported tokens)

-- ---- the tree of a file's bytes: they are tokens, none of them a keyword that is left out, and the tree is theirs
abbrev pub IsTreeOf : List ℕ → List Trees.Item → Type 0
IsTreeOf bytes items = (tokens : List Token) × Lexes bytes tokens × (first_unsupported tokens ≡ None) × IsTreeOfTokens (lexemes_of bytes tokens) items

-- tokens have one tree
abbrev pub TreesAreOne : Type 0
TreesAreOne = (tokens : List Lexeme) (items others : List Trees.Item) → IsTreeOfTokens tokens items → IsTreeOfTokens tokens others → others ≡ items

-- a file has one tree
abbrev pub FilesHaveOneTree : Type 0
FilesHaveOneTree = (bytes : List ℕ) (items others : List Trees.Item) → IsTreeOf bytes items → IsTreeOf bytes others → others ≡ items
