use Rattle.std.proofs.Common.{◌≡◌, drop, fold}
use Rattle.c_types.specs.Views.{types_of}
use Rattle.legality.specs.Breaches.{all_of}
use Rattle.legality.specs.Firsts.{marked}
use Rattle.legality.specs.InTypes.{arrays_in_all}
use Rattle.legality.proofs.marks.+arrays.Given as goal

abbrev pub invariant-mark_all_arrays-loop-t : goal.invariant-mark_all_arrays-loop-t
invariant-mark_all_arrays-loop-t l = fold marked l.firsts (all_of l.test l.place (arrays_in_all (types_of (drop l.t-index l.all))))
    ≡ fold marked l.fn.firsts (all_of l.test l.place (arrays_in_all (types_of l.all)))
