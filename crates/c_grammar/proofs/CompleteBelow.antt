-- What is known of the readers of expressions, specifiers and declarators: what is spelled is read.
use Rattle.std.proofs.Common.{◌≡◌, ℕ, ◌≤◌, List, Some, false}
use Rattle.c_ast.specs.Trees
use Rattle.c_ast.specs.Spelling.{Lexeme, spelled, spelled_specifiers, spelled_declarator}
use Rattle.c_ast.specs.WellFormed.{level, IsExpression, AreSpecifiers, IsDeclarator}
use Rattle.c_ast.specs.Sizes.{depth, depth_specifiers, depth_declarator}
use Rattle.c_grammar.specs.Reading.{fronted, is_left_brace, begins_specifier, at}
use Rattle.c_grammar.proofs.Follow.{pull, declarators_pull}

pub record IsComplete (types : List (List ℕ)) : Type 0 where
  pub expression_read : (t : Trees.Expression) (k : ℕ) (rest : List Lexeme) → IsExpression types t → depth t ≤ k → pull rest ≡ 0
      → (at types k).expression (spelled t rest) ≡ Some (t, depth t, rest)
  pub assignment_read : (t : Trees.Expression) (k : ℕ) (rest : List Lexeme) → IsExpression types t → 1 ≤ level t → depth t ≤ k → pull rest ≤ 1
      → (at types k).assignment (spelled t rest) ≡ Some (t, depth t, rest)
  pub conditional_read : (t : Trees.Expression) (k : ℕ) (rest : List Lexeme) → IsExpression types t → 2 ≤ level t → depth t ≤ k → pull rest ≤ 1
      → (at types k).conditional (spelled t rest) ≡ Some (t, depth t, rest)
  pub specifiers_read : (s : Trees.Specifiers) (k : ℕ) (rest : List Lexeme) → AreSpecifiers types s → depth_specifiers s ≤ k
      → begins_specifier types rest ≡ false → fronted is_left_brace rest ≡ false → (at types k).specifiers (spelled_specifiers s rest)
      ≡ Some (s, depth_specifiers s, rest)
  pub declarator_read : (s : Trees.Declarator) (k : ℕ) (rest : List Lexeme) → IsDeclarator types s → depth_declarator s ≤ k → declarators_pull rest
      ≡ false → (at types k).declarator (spelled_declarator s rest) ≡ Some (s, depth_declarator s, rest)
