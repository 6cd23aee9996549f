-- The measures of the readers of initializers, by the same scheme as those of statements.
use Rattle.std.proofs.Common.{ℕ, ◌≡◌, ◌+◌, ◌*◌, map, length, []}
use Rattle.c_ast.specs.Views.{argument_of}
use Rattle.c_grammar.specs.Reading.{chain}
use Rattle.c_grammar.specs.StatementReading.{initial_at, initial_step}
use Rattle.c_parser.proofs.initializers.+initializer.Given as goal

abbrev measure : ℕ → ℕ → ℕ
measure inside rank = 5 * inside + rank

abbrev pub decreases-initializer_inside : goal.decreases-initializer_inside
decreases-initializer_inside l = measure l.by.inside 0

abbrev pub decreases-next_initializer : goal.decreases-next_initializer
decreases-next_initializer l = measure l.by.inside 1

abbrev pub decreases-initializers : goal.decreases-initializers
decreases-initializers l = measure l.by.inside 2

abbrev pub decreases-braces : goal.decreases-braces
decreases-braces l = measure l.by.inside 3

abbrev pub decreases-initializer : goal.decreases-initializer
decreases-initializer l = measure l.by.inside 4

abbrev pub invariant-initializers-more : goal.invariant-initializers-more
invariant-initializers-more l =
    let step = initial_step (initial_at l.by.types.now l.by.inside) in
    chain step l.rounds (map argument_of l.all) l.d l.tokens ≡ chain step (length l.fn.tokens + 1) [] 0 l.fn.tokens

abbrev pub decreases-initializers-more : goal.decreases-initializers-more
decreases-initializers-more l = l.rounds
