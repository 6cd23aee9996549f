-- The items of a file are read exactly, and tokens have one tree.
use Rattle.std.proofs.Common.{◌≡◌, ℕ, ◌≤◌, List, [], length, Some, None, ap, sym, ◌∙◌, subst, arith}
use Rattle.std.proofs.lemmas.Option.{same_Some}
use Rattle.c_ast.specs.Trees
use Rattle.c_ast.specs.Spelling.{Lexeme}
use Rattle.c_grammar.proofs.Wholeness.{AreWhole}
use Rattle.c_grammar.proofs.Sound.{sound}
use Rattle.c_grammar.proofs.Complete.{read_expression, read_assignment, read_conditional, read_specifiers, read_declarator}
use Rattle.c_ast.specs.TreesOfFiles.{IsTreeOfTokens, TreesAreOne}
use Rattle.c_grammar.specs.StatementReading.{items_in}
use Rattle.c_grammar.proofs.CompleteBelow.{IsComplete}
use Rattle.c_grammar.proofs.SoundItems.{items_sound}
use Rattle.c_grammar.proofs.ItemComplete.{items_complete}

complete : (types : List (List ℕ)) → IsComplete types
complete types = record {
  expression_read = λ t k rest w d p. read_expression types t w k rest d p;
  assignment_read = λ t k rest w l d p. read_assignment types t w l k rest d p;
  conditional_read = λ t k rest w l d p. read_conditional types t w l k rest d (omega (arith, p));
  specifiers_read = λ s k rest w d b n. read_specifiers types s w k rest d b n;
  declarator_read = λ s k rest w d b. read_declarator types s w k rest d b;
}

-- what is read is a tree of the tokens
pub tree_read : (n : ℕ) (tokens : List Lexeme) (items : List Trees.Item) → AreWhole tokens → items_in 399 n [] tokens ≡ Some items → IsTreeOfTokens tokens items
tree_read n tokens items w h = let s = items_sound sound 399 n [] tokens items w h in record { spelled = s.0; well_formed = s.1; shallow = s.2 }

-- a tree of the tokens is read
pub tree_found : (n : ℕ) (tokens : List Lexeme) (items : List Trees.Item) → length tokens ≤ n → IsTreeOfTokens tokens items → items_in 399 n [] tokens
    ≡ Some items
tree_found n tokens items l t =
    let e = t.spelled in
    ap (items_in 399 n []) e ∙ items_complete complete 399 n [] items t.well_formed t.shallow (subst (λ all. length all ≤ n) e l)

pub no_tree : (n : ℕ) (tokens : List Lexeme) → length tokens ≤ n → items_in 399 n [] tokens ≡ None → (items : List Trees.Item) → IsTreeOfTokens tokens items → ⊥
no_tree n tokens l h items t = let e : None ≡ Some items = sym h ∙ tree_found n tokens items l t in cc

pub one_tree : TreesAreOne
one_tree tokens items others t o = same_Some others items (sym (tree_found (length tokens) tokens others (omega arith) o)
    ∙ tree_found (length tokens) tokens items (omega arith) t)
