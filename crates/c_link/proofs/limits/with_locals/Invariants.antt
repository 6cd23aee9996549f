use Rattle.std.proofs.Common.{◌≡◌, ◌≤◌, ◌+◌, ◌*◌, ◌^◌, drop, fold, map}
use Rattle.std.specs.Prelude.{get_or}
use Rattle.c_types.specs.Layouts.{size_of}
use Rattle.c_types.specs.Types.{void}
use Rattle.c_types.specs.Views.{records_of, type_of}
use Rattle.c_link.proofs.limits.with_locals.Given as goal

abbrev pub invariant-loop-l : goal.invariant-loop-l
invariant-loop-l l = record {
  fits : l.bytes ≤ l.start + l.l-index * 2 ^ 24;
  value : fold (λ n it. n + size_of (records_of l.p.records) (get_or (map type_of l.p.types) it.ty void)) l.bytes (drop l.l-index l.locals)
      ≡ fold (λ n it. n + size_of (records_of l.p.records) (get_or (map type_of l.p.types) it.ty void)) l.start l.locals;
}
