use Rattle.std.proofs.Common.{◌≡◌, drop, fold, map}
use Rattle.c_annotated.specs.FileViews.{local_of}
use Rattle.c_numbers.specs.TypeNumbers.Adding.{with_type}
use Rattle.c_types.specs.Views.{type_of}
use Rattle.c_units.proofs.functions.add_local_types.Given as goal

abbrev pub invariant-loop-l : goal.invariant-loop-l
invariant-loop-l l = fold with_type (map type_of l.types) (map (λ l. l.ty) (map local_of (drop l.l-index l.all)))
    ≡ fold with_type (map type_of l.initial.types) (map (λ l. l.ty) (map local_of l.all))
