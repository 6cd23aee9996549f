use Rattle.std.proofs.Common.{◌≡◌, map, length, []}
use Rattle.c_ast.specs.Views.{item_of}
use Rattle.c_grammar.specs.StatementReading.{items_in}
use Rattle.c_parser.proofs.ItemRounds.{with_front}
use Rattle.c_parser.proofs.parsing.items_of.Given as goal

abbrev pub invariant-items : goal.invariant-items
invariant-items l = with_front (map item_of l.all) (items_in 399 l.rounds l.types l.tokens) ≡ items_in 399 (length l.fn.tokens) [] l.fn.tokens

abbrev pub decreases-items : goal.decreases-items
decreases-items l = l.rounds
