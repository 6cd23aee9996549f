use Rattle.block_memory.proofs.Gathering.{Shifts}
use Rattle.block_memory.proofs.arena.Arena.shift.Given as goal

abbrev pub invariant-loop-i : goal.invariant-loop-i
invariant-loop-i l = Shifts l.initial.self-inside.words l.self-inside.words l.from l.to l.i
