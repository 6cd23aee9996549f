use Rattle.std.proofs.Common.{◌≡◌, ◌+◌, ◌++◌, drop, map}
use Rattle.c_annotated.specs.FileViews.{local_of}
use Rattle.c_erasure.specs.Units.{is_among}
use Rattle.c_types.specs.Views.{type_of}
use Rattle.c_units.specs.NumberedParts.{locals_in}
use Rattle.c_units.proofs.functions.locals.Given as goal

abbrev pub invariant-loop-l : goal.invariant-loop-l
invariant-loop-l l =
    let each = locals_in (map type_of l.types) (is_among l.taken) in
    record {
      number : l.n ≡ l.first + l.l-index;
      locals : l.done ++ each l.n (map local_of (drop l.l-index l.all)) ≡ each l.first (map local_of l.all);
    }
