use Rattle.std.proofs.Common.{◌-◌}
use Rattle.c_scopes.proofs.SyntaxTags.Searching.{Between}
use Rattle.c_scopes.proofs.syntax_tags.search.ended.Given as goal

abbrev pub invariant-loop-low : goal.invariant-loop-low
invariant-loop-low l = Between l.places l.at l.low l.high

abbrev pub decreases-loop-low : goal.decreases-loop-low
decreases-loop-low l = l.high - l.low
