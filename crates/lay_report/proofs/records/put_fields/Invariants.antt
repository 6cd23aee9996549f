use Rattle.std.proofs.Common.{map, ◌≡◌, ◌++◌, drop}
use Rattle.std.specs.Prelude.{None}
use Rattle.c_types.specs.Views.{field_of}
use Rattle.lay_report.specs.Texts.{field_lines}
use Rattle.lay_report.proofs.records.put_fields.Given as goal

abbrev pub invariant-loop-number : goal.invariant-loop-number
invariant-loop-number l = l.text.want ≡ None → (l.fn.text.want ≡ None)
    × (l.text.bytes.items ++ field_lines l.number (map field_of (drop l.number l.fields)) l.places l.hotness
    ≡ l.fn.text.bytes.items ++ field_lines 0 (map field_of l.fields) l.places l.hotness)
