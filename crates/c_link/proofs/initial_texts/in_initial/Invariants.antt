use Rattle.std.proofs.Common.{◌≡◌, ◌+◌, drop}
use Rattle.std.specs.Prelude.{map}
use Rattle.c_typed.specs.Views.{part_of}
use Rattle.c_link.specs.Texts.{rounded, texts_in_parts}
use Rattle.c_link.proofs.initial_texts.in_initial.Given as goal

abbrev pub invariant-loop-part : goal.invariant-loop-part
invariant-loop-part l =
    rounded l.lengths + texts_in_parts (map part_of (drop l.part-index l.part-items)) ≡ rounded l.initial.lengths + texts_in_parts (map part_of l.part-items)
