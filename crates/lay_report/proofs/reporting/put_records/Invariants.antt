use Rattle.std.proofs.Common.{◌≡◌, ◌++◌, drop}
use Rattle.std.specs.Prelude.{None, flat_map}
use Rattle.std.specs.Option.{option_copied}
use Rattle.c_types.specs.Views.{records_of}
use Rattle.lay_report.specs.Reports.{text_at}
use Rattle.lay_report.proofs.reporting.put_records.Given as goal

abbrev pub invariant-loop-d : goal.invariant-loop-d
invariant-loop-d l = l.text.want ≡ None → (l.fn.text.want ≡ None)
    × (l.text.bytes.items ++ flat_map (λ d. text_at (records_of l.records) (option_copied l.planned) l.places d.number) (drop l.d-index l.order)
    ≡ l.fn.text.bytes.items ++ flat_map (λ d. text_at (records_of l.records) (option_copied l.planned) l.places d.number) l.order)
