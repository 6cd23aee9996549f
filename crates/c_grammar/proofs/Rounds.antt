-- One round of a loop, at numbers as the code has them.
use Rattle.std.proofs.Common.{◌≡◌, ℕ, zero, suc, ◌-◌, ◌<◌, List, Some, None, refl, arith, cond}
use Rattle.c_ast.specs.Spelling.{Lexeme}
use Rattle.c_grammar.specs.Reading.{◌>>=◌, Step, chain}

pub chain_round : {S : Type 0} (step : Step S) (s : ℕ) (x : S) (d : ℕ) (tokens : List Lexeme) → 0 < s
    → chain step s x d tokens ≡ (step x d tokens >>= λ r. cond r.3 (chain step (s - 1) r.0 r.1 r.2) (Some (r.0, r.1, r.2)))
unfolding chain
chain_round step zero x d tokens h = absurd (omega arith)
chain_round step (suc s) x d tokens h = let e : suc s - 1 ≡ s = omega arith in rw e refl

pub chain_out : {S : Type 0} (step : Step S) (s : ℕ) (x : S) (d : ℕ) (tokens : List Lexeme) → s ≡ 0 → chain step s x d tokens ≡ None
unfolding chain
chain_out step zero x d tokens h = refl
chain_out step (suc s) x d tokens h = absurd (omega arith)

pub ruleset rounds = (chain_round, chain_out)
