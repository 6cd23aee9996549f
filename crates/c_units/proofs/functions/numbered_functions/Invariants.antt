use Rattle.std.proofs.Common.{◌≡◌, ◌++◌, List, flat_map, fold, map}
use Rattle.c_annotated.specs.FileViews.{function_of}
use Rattle.c_numbers.specs.TypeNumbers.Adding.{with_type}
use Rattle.c_typed.specs.Programs.{data_of}
use Rattle.c_types.specs.Types.{CType}
use Rattle.c_types.specs.Views.{type_of}
use Rattle.c_units.specs.CollectedTypes.{function_types}
use Rattle.c_units.specs.NumberedParts.{function_in}
use Rattle.c_units.specs.RecognisedParts.{recognised_function}
use Rattle.c_units.specs.SizeOperands.{operands_of}
use Rattle.c_units.proofs.functions.numbered_functions.Given as goal

abbrev pub invariant-loop-f : goal.invariant-loop-f
invariant-loop-f l =
    let some = map function_of l.yielded in
    record {
      types : map type_of l.types ≡ fold with_type (map type_of l.initial.types) (flat_map function_types (map recognised_function some));
      places : l.places ≡ l.fn.places ++ operands_of some;
      numbered : (later : List CType) → map data_of l.done ≡ map (function_in (fold with_type (map type_of l.types) later)) (map recognised_function some);
    }
