use Rattle.std.proofs.Common.{◌≡◌, length, map}
use Rattle.c_numbers.specs.NewNumbers.Numbers.{renaming_of}
use Rattle.c_numbers.specs.NewNumbers.Parts.{object_in}
use Rattle.c_link.specs.Joining.{is_object_defined}
use Rattle.c_link.specs.Placing.{placed_by}
use Rattle.c_link.proofs.joining.join_objects.Given as goal

abbrev pub invariant-loop-o : goal.invariant-loop-o
invariant-loop-o l = record {
  number : l.n ≡ length l.yielded;
  objects : l.all.items ≡ placed_by is_object_defined (renaming_of l.to).object l.initial.all.items (map (object_in (renaming_of l.to)) l.yielded);
}
