-- A file has one tree, since its bytes have one list of tokens.
use Rattle.std.proofs.Common.{◌≡◌, ℕ, List, subst}
use Rattle.c_tokens.specs.declared.token.Token.{Token}
use Rattle.c_tokens.specs.Lexes.{Lexes}
use Rattle.c_ast.specs.Lexemes.{lexemes_of}
use Rattle.c_ast.specs.Trees
use Rattle.c_ast.specs.TreesOfFiles.{FilesHaveOneTree, IsTreeOf, IsTreeOfTokens}
use Rattle.c_grammar.proofs.OneTree.{one_tree}

abbrev OneList : Type 0
OneList = (bytes : List ℕ) (tokens others : List Token) → Lexes bytes tokens → Lexes bytes others → others ≡ tokens

-- the tree of a file is one of any list of its tokens
pub of_tokens : OneList → (bytes : List ℕ) (tokens : List Token) (items : List Trees.Item) → Lexes bytes tokens → IsTreeOf bytes items
    → IsTreeOfTokens (lexemes_of bytes tokens) items
of_tokens one bytes tokens items l t = subst (λ all. IsTreeOfTokens (lexemes_of bytes all) items) (one bytes tokens t.0 l t.1) t.3

pub one_file_tree : OneList → FilesHaveOneTree
one_file_tree one bytes items others t o = one_tree (lexemes_of bytes t.0) items others t.3 (of_tokens one bytes t.0 others t.1 o)
