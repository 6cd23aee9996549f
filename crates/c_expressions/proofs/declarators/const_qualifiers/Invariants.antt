use Rattle.std.proofs.Common.{◌≡◌, ◌+◌, length, []}
use Rattle.c_grammar.specs.Reading.{chain, const_step}
use Rattle.c_expressions.proofs.declarators.const_qualifiers.Given as goal

abbrev pub invariant-more : goal.invariant-more
invariant-more l = chain const_step l.rounds l.all l.d l.tokens ≡ chain const_step (length l.fn.tokens + 1) [] 0 l.fn.tokens

abbrev pub decreases-more : goal.decreases-more
decreases-more l = l.rounds
