use Rattle.std.proofs.Common.{◌≡◌, ◌+◌, map, length, []}
use Rattle.c_ast.specs.Views.{label_of}
use Rattle.c_grammar.specs.Reading.{chain}
use Rattle.c_grammar.specs.StatementReading.{below_at, label_step, statement_at}
use Rattle.c_parser.proofs.switch_labels.labels.Given as goal

abbrev pub invariant-more : goal.invariant-more
invariant-more l =
    let step = label_step (below_at l.by.types.now l.by.inside (statement_at l.by.types.now l.by.inside)) in
    chain step l.rounds (map label_of l.all) l.d l.tokens ≡ chain step (length l.fn.tokens + 1) [] 0 l.fn.tokens

abbrev pub decreases-more : goal.decreases-more
decreases-more l = l.rounds
