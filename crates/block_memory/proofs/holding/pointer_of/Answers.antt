use Rattle.std.proofs.Common.{ap, ◌∙◌}
use Rattle.block_memory.specs.Digits.{as_pointer}
use Rattle.block_memory.proofs.CellsHold.{pointer_from_byte, pointer_from_empty}
use Rattle.block_memory.proofs.holding.pointer_of.Goals as goal

pub returns-in-Empty : goal.returns-in-Empty
returns-in-Empty c =
    c.as_pointer.ensures ∙ ap as_pointer c.in_four.ensures ∙ rw c.in-Empty.is (pointer_from_empty c.args.b c.args.c c.args.d c.args.type_number)

pub returns-in-Byte : goal.returns-in-Byte
returns-in-Byte c =
    c.as_pointer-in-Byte.ensures ∙ ap as_pointer c.in_four-in-Byte.ensures
    ∙ rw c.in-Byte.is (pointer_from_byte c.in-Byte.field-0 c.args.b c.args.c c.args.d c.args.type_number)
