use Rattle.std.proofs.Common.{◌≡◌, length, map}
use Rattle.c_numbers.specs.NewNumbers.Numbers.{renaming_of}
use Rattle.c_numbers.specs.NewNumbers.Parts.{function_in}
use Rattle.c_typed.specs.Programs.{data_of}
use Rattle.c_link.specs.Joining.{is_function_defined}
use Rattle.c_link.specs.Placing.{placed_by}
use Rattle.c_link.proofs.joining.join_functions.Given as goal

abbrev pub invariant-loop-f : goal.invariant-loop-f
invariant-loop-f l = record {
  number : l.n ≡ length l.yielded;
  functions : map data_of l.all.items
      ≡ placed_by is_function_defined (renaming_of l.to).function (map data_of l.initial.all.items) (map (function_in (renaming_of l.to)) (map data_of l.yielded));
}
