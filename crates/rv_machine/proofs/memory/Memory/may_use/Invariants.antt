use Rattle.std.proofs.Common.{◌≡◌, ◌+◌}
use Rattle.rv_isa.specs.Memory.{are_mapped}
use Rattle.rv_machine.specs.View.{segments_in}
use Rattle.rv_machine.proofs.memory.Memory.may_use.Given as goal

abbrev pub invariant-loop-left : goal.invariant-loop-left
invariant-loop-left l =
    (l.next + l.left ≡ l.fn.address + l.fn.count)
    × (are_mapped (segments_in l.self) l.flag l.fn.address l.fn.count ≡ are_mapped (segments_in l.self) l.flag l.next l.left)

abbrev pub decreases-loop-left : goal.decreases-loop-left
decreases-loop-left l = l.left
