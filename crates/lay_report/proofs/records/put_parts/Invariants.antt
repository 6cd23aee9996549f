use Rattle.std.proofs.Common.{◌≡◌, ◌++◌, drop}
use Rattle.std.specs.Prelude.{None}
use Rattle.lay_report.specs.Texts.{part_lines}
use Rattle.lay_report.proofs.records.put_parts.Given as goal

abbrev pub invariant-loop-part : goal.invariant-loop-part
invariant-loop-part l = l.text.want ≡ None → (l.fn.text.want ≡ None)
    × (l.text.bytes.items ++ part_lines l.part (drop l.part l.sizes) ≡ l.fn.text.bytes.items ++ part_lines 0 l.sizes)
