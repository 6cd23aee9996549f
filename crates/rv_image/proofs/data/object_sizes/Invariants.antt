use Rattle.std.proofs.Common.{◌≡◌, map, take}
use Rattle.c_meaning.specs.Program.{object_size}
use Rattle.c_typed.specs.Programs.{program_data}
use Rattle.rv_image.proofs.data.object_sizes.Given as goal

abbrev pub invariant-loop-o : goal.invariant-loop-o
invariant-loop-o l = l.sizes.items ≡ map (object_size (program_data l.types)) (take l.o-index l.objects)
