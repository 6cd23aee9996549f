use Rattle.std.proofs.Common.{◌≡◌, ◌+◌, length, []}
use Rattle.c_grammar.specs.Reading.{chain, text_in}
use Rattle.c_expressions.proofs.primary.text_list.Given as goal

abbrev pub invariant-more : goal.invariant-more
invariant-more l = chain text_in l.rounds l.all l.d l.tokens ≡ chain text_in (length l.fn.tokens + 1) [] 1 l.fn.tokens

abbrev pub decreases-more : goal.decreases-more
decreases-more l = l.rounds
