use Rattle.std.proofs.Common.{◌≤◌, ◌-◌}
use Rattle.c_lexer.specs.PresumingScan.{IsRead}
use Rattle.c_lexer.proofs.presuming.after_parts.Given as goal

abbrev pub invariant-loop-next : goal.invariant-loop-next
invariant-loop-next l = record {
  read : IsRead l.bytes l.reached;
  within : l.reached.from ≤ l.at;
}

abbrev pub decreases-loop-next : goal.decreases-loop-next
decreases-loop-next l = l.at - l.reached.from
