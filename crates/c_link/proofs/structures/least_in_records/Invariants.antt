use Rattle.std.proofs.Common.{◌≡◌, drop, map}
use Rattle.std.specs.Prelude.{flat_map, None}
use Rattle.c_link.specs.Missing.{least_among}
use Rattle.c_link.specs.Gaps.{structures_in}
use Rattle.c_types.specs.Types.{field_types}
use Rattle.c_types.specs.Views.{field_of, records_of}
use Rattle.c_link.proofs.structures.least_in_records.Given as goal

abbrev pub invariant-loop-r : goal.invariant-loop-r
invariant-loop-r l = least_among l.count l.best (flat_map structures_in (flat_map field_types (records_of (drop l.r-index l.records))))
    ≡ least_among l.count None (flat_map structures_in (flat_map field_types (records_of l.records)))

abbrev pub invariant-loop-f : goal.invariant-loop-f
invariant-loop-f l = least_among l.count l.best (flat_map structures_in (map (λ f. f.ty) (map field_of (drop l.f-index l.f-items))))
    ≡ least_among l.count l.initial.best (flat_map structures_in (map (λ f. f.ty) (map field_of l.f-items)))
