use Rattle.std.proofs.Common.{◌≡◌, ◌+◌, map, length, [], ◌∷◌}
use Rattle.c_ast.specs.Views.{init_declarator_of}
use Rattle.c_grammar.specs.Reading.{at, chain}
use Rattle.c_grammar.specs.StatementReading.{init_declarator_step, initial_at}
use Rattle.c_parser.proofs.declarations.more_declarators.Given as goal

abbrev pub invariant-more : goal.invariant-more
invariant-more l =
    let step = init_declarator_step ((at l.by.types.now l.by.inside).declarator) (initial_at l.by.types.now l.by.inside) in
    chain step l.rounds (map init_declarator_of l.all) l.d l.tokens
    ≡ chain step (length l.fn.tokens + 1) (init_declarator_of l.fn.first ∷ []) l.fn.depth l.fn.tokens

abbrev pub decreases-more : goal.decreases-more
decreases-more l = l.rounds
