-- The body of a function, at numbers as the code has them.
use Rattle.std.proofs.Common.{◌≡◌, ◌<◌, ℕ, zero, suc, ◌-◌, List, Option, Some, None, max, refl, arith}
use Rattle.c_ast.specs.Trees
use Rattle.c_ast.specs.Spelling.{Lexeme}
use Rattle.c_grammar.specs.Reading.{◌>>=◌, deeper}
use Rattle.c_grammar.specs.StatementReading.{statement_at, below_at, block_in, body_in}

-- the item of a body that is read, with a depth of at most j
abbrev pub defined_of : ℕ → ℕ → Trees.Specifiers → Trees.Declarator → ℕ → ℕ → (Trees.BlockItems × ℕ) × ℕ × List Lexeme → Option (Trees.Item × ℕ × List Lexeme)
defined_of j k specs s d left b = deeper j b.1 >>= λ m. deeper k (max d m) >>= λ n. Some (Trees.defines specs s left b.0.0 b.0.1, n, b.2)

body_with : (types : List (List ℕ)) (k j : ℕ) (specs : Trees.Specifiers) (s : Trees.Declarator) (d left : ℕ) (rest : List Lexeme) → j ≡ k
    → body_in types (suc k) specs s d left rest ≡ (block_in (below_at types j (statement_at types j)) rest >>= defined_of j (suc k) specs s d left)
body_with types k j specs s d left rest e = rw e refl

pub body_round : (types : List (List ℕ)) (k : ℕ) (specs : Trees.Specifiers) (s : Trees.Declarator) (d left : ℕ) (rest : List Lexeme) → 0 < k
    → body_in types k specs s d left rest ≡ (block_in (below_at types (k - 1) (statement_at types (k - 1))) rest >>= defined_of (k - 1) k specs s d left)
body_round types zero specs s d left rest h = absurd (omega (arith, h))
body_round types (suc k) specs s d left rest h = body_with types k (suc k - 1) specs s d left rest (omega arith)

pub body_out : (types : List (List ℕ)) (k : ℕ) (specs : Trees.Specifiers) (s : Trees.Declarator) (d left : ℕ) (rest : List Lexeme) → k ≡ 0
    → body_in types k specs s d left rest ≡ None
body_out types zero specs s d left rest h = refl
body_out types (suc k) specs s d left rest h = absurd (omega arith)
