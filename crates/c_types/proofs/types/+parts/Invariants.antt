use Rattle.std.proofs.Common.{◌≡◌, ◌+◌, ◌-◌, ◌^◌, ◌≤◌, drop}
use Rattle.std.specs.Prelude.{min}
use Rattle.c_types.specs.Objects.{parts_of_all}
use Rattle.c_types.specs.Views.{types_of}
use Rattle.c_types.proofs.types.+parts.Given as goal

abbrev pub invariant-loop-parameter : goal.invariant-loop-parameter
invariant-loop-parameter l = record {
  count : min (l.count + parts_of_all (types_of (drop l.parameter-index l.parameter-items))) (2 ^ 32 - 1)
      ≡ min (l.initial.count + parts_of_all (types_of l.parameter-items)) (2 ^ 32 - 1);
  capped : l.count ≤ 2 ^ 32 - 1;
}
