use Rattle.std.proofs.Common.{◌≡◌, drop, fold}
use Rattle.c_types.specs.Views.{types_of}
use Rattle.legality.specs.InTypes.{pointers_in_all}
use Rattle.layout_plan.specs.Clearing.{cleared}
use Rattle.layout_plan.proofs.peeling.+pointers.Given as goal

abbrev pub invariant-clear_all_pointers-loop-t : goal.invariant-clear_all_pointers-loop-t
invariant-clear_all_pointers-loop-t l = fold cleared l.marks (pointers_in_all (types_of (drop l.t-index l.all)))
    ≡ fold cleared l.fn.marks (pointers_in_all (types_of l.all))
