-- The measures of the readers of statements: each calls readers of parts that are one less deep, or a reader of a lower rank at the
-- same depth. `statement_inside` has rank 0, and each other one more than the highest rank that it calls at its own depth.
use Rattle.std.proofs.Common.{ℕ, ◌≡◌, ◌+◌, ◌*◌, map, length, []}
use Rattle.c_ast.specs.Views.{block_item_of, switch_item_of}
use Rattle.c_grammar.specs.Reading.{chain}
use Rattle.c_grammar.specs.StatementReading.{below_at, block_item_step, statement_at, switch_item_step}
use Rattle.c_parser.proofs.+statement.Given as goal

abbrev measure : ℕ → ℕ → ℕ
measure inside rank = 7 * inside + rank

abbrev pub decreases-statements::statement_inside : goal.decreases-statements::statement_inside
decreases-statements::statement_inside l = measure l.by.inside 0

abbrev pub decreases-statements::block_item : goal.decreases-statements::block_item
decreases-statements::block_item l = measure l.by.inside 1

abbrev pub decreases-statements::next_block_item : goal.decreases-statements::next_block_item
decreases-statements::next_block_item l = measure l.by.inside 2

abbrev pub decreases-statements::block_items : goal.decreases-statements::block_items
decreases-statements::block_items l = measure l.by.inside 3

abbrev pub decreases-statements::block : goal.decreases-statements::block
decreases-statements::block l = measure l.by.inside 4

abbrev pub decreases-statements::block_statement : goal.decreases-statements::block_statement
decreases-statements::block_statement l = measure l.by.inside 5

abbrev pub decreases-switches::switch_item : goal.decreases-switches::switch_item
decreases-switches::switch_item l = measure l.by.inside 1

abbrev pub decreases-switches::next_switch_item : goal.decreases-switches::next_switch_item
decreases-switches::next_switch_item l = measure l.by.inside 2

abbrev pub decreases-switches::switch_items : goal.decreases-switches::switch_items
decreases-switches::switch_items l = measure l.by.inside 3

abbrev pub decreases-switches::switch : goal.decreases-switches::switch
decreases-switches::switch l = measure l.by.inside 4

abbrev pub decreases-selection::selection : goal.decreases-selection::selection
decreases-selection::selection l = measure l.by.inside 1

abbrev pub decreases-iteration::while_loop : goal.decreases-iteration::while_loop
decreases-iteration::while_loop l = measure l.by.inside 1

abbrev pub decreases-iteration::do_loop : goal.decreases-iteration::do_loop
decreases-iteration::do_loop l = measure l.by.inside 1

abbrev pub decreases-iteration::for_loop : goal.decreases-iteration::for_loop
decreases-iteration::for_loop l = measure l.by.inside 1

abbrev pub decreases-statements::statement : goal.decreases-statements::statement
decreases-statements::statement l = measure l.by.inside 6

abbrev pub invariant-statements::block_items-more : goal.invariant-statements::block_items-more
invariant-statements::block_items-more l =
    let step = block_item_step (below_at l.by.types.now l.by.inside (statement_at l.by.types.now l.by.inside)) in
    chain step l.rounds (map block_item_of l.all) l.d l.tokens ≡ chain step (length l.fn.tokens + 1) [] 0 l.fn.tokens

abbrev pub decreases-statements::block_items-more : goal.decreases-statements::block_items-more
decreases-statements::block_items-more l = l.rounds

abbrev pub invariant-switches::switch_items-more : goal.invariant-switches::switch_items-more
invariant-switches::switch_items-more l =
    let step = switch_item_step (below_at l.by.types.now l.by.inside (statement_at l.by.types.now l.by.inside)) in
    chain step l.rounds (map switch_item_of l.all) l.d l.tokens ≡ chain step (length l.fn.tokens + 1) [] 0 l.fn.tokens

abbrev pub decreases-switches::switch_items-more : goal.decreases-switches::switch_items-more
decreases-switches::switch_items-more l = l.rounds
