-- A step over declarators reads one of them, then its initializer.
use Rattle.std.proofs.Common.{◌≡◌, ℕ, Bool, List, [], ◌∷◌, ◌++◌, max, Option, Some, None, refl}
use Rattle.c_tokens.specs.declared.punctuator.Punctuator.TheVariants as M
use Rattle.c_ast.specs.Trees
use Rattle.c_ast.specs.Spelling.{Lexeme}
use Rattle.c_grammar.specs.Reading.{◌>>=◌, Reader, comma_before, peek}
use Rattle.c_grammar.specs.StatementReading.{init_declarator_step, named_in, one_in, valued_in}

-- the list with one more, and whether another follows
abbrev pub with_one : List Trees.InitDeclarator → ℕ → Trees.InitDeclarator × ℕ × List Lexeme → Option (List Trees.InitDeclarator × ℕ × List Lexeme × Bool)
with_one all d one = Some (all ++ one.0 ∷ [], max d one.1, one.2, peek M.Comma one.2)

by_parts : (initial : Reader Trees.Expression) (comma : Option ℕ) (all : List Trees.InitDeclarator) (d : ℕ) (named : Option (Trees.Declarator × ℕ × List Lexeme))
    → ((named >>= λ s. valued_in initial comma s.0 s.1 s.2) >>= with_one all d) ≡ (named >>= λ s. valued_in initial comma s.0 s.1 s.2 >>= with_one all d)
by_parts initial comma all d None = refl
by_parts initial comma all d (Some s) = refl

after_comma : (declarator : Reader Trees.Declarator) (initial : Reader Trees.Expression) (all : List Trees.InitDeclarator) (d : ℕ)
    (comma : Option (Option ℕ × List Lexeme)) → (comma >>= λ c. one_in declarator initial c.0 c.1 >>= with_one all d)
    ≡ (comma >>= λ c. named_in declarator c.1 >>= λ s. valued_in initial c.0 s.0 s.1 s.2 >>= with_one all d)
unfolding one_in
after_comma declarator initial all d None = refl
after_comma declarator initial all d (Some c) = by_parts initial c.0 all d (named_in declarator c.1)

pub step_by_one : (declarator : Reader Trees.Declarator) (initial : Reader Trees.Expression) (all : List Trees.InitDeclarator) (d : ℕ) (tokens : List Lexeme)
    → init_declarator_step declarator initial all d tokens
    ≡ (comma_before all tokens >>= λ c. named_in declarator c.1 >>= λ s. valued_in initial c.0 s.0 s.1 s.2 >>= with_one all d)
unfolding init_declarator_step
step_by_one declarator initial all d tokens = after_comma declarator initial all d (comma_before all tokens)
