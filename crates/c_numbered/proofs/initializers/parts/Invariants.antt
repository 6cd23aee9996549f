use Rattle.std.proofs.Common.{◌≡◌, ◌++◌, drop, map}
use Rattle.c_annotated.specs.Views.{part_of as noted_part}
use Rattle.c_typed.specs.Mapped.{mapped_part}
use Rattle.c_typed.specs.Views.{part_of}
use Rattle.c_numbered.specs.Numbered.{numbered}
use Rattle.c_numbered.proofs.initializers.parts.Given as goal

abbrev pub invariant-loop-it : goal.invariant-loop-it
invariant-loop-it l = map part_of l.done ++ map (mapped_part (numbered l.by.types.now)) (map noted_part (drop l.it-index l.all))
    ≡ map (mapped_part (numbered l.by.types.now)) (map noted_part l.all)
