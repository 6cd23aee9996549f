use Rattle.std.proofs.Common.{◌≡◌, drop, fold, map}
use Rattle.c_annotated.specs.Views.{noted_of}
use Rattle.c_numbers.specs.TypeNumbers.Adding.{with_type}
use Rattle.c_types.specs.Views.{type_of}
use Rattle.c_units.proofs.functions.add_found.Given as goal

abbrev pub invariant-loop-t : goal.invariant-loop-t
invariant-loop-t l = fold with_type (map type_of l.types) (map (λ t. t.ty) (map (λ t. noted_of t.now) (drop l.t-index l.found)))
    ≡ fold with_type (map type_of l.initial.types) (map (λ t. t.ty) (map (λ t. noted_of t.now) l.found))
