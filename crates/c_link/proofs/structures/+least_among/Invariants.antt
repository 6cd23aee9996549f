use Rattle.std.proofs.Common.{◌≡◌, drop}
use Rattle.c_types.specs.Views.{types_of}
use Rattle.c_link.specs.Gaps.{structures_in_all}
use Rattle.c_link.specs.Missing.{least_among}
use Rattle.c_link.proofs.structures.+least_among.Given as goal

abbrev pub invariant-loop-parameter : goal.invariant-loop-parameter
invariant-loop-parameter l = least_among l.count l.best (structures_in_all (types_of (drop l.parameter-index l.parameter-items)))
    ≡ least_among l.count l.initial.best (structures_in_all (types_of l.parameter-items))
