use Rattle.std.proofs.Common.{◌≡◌, ◌≤◌, length}
use Rattle.text_rows.proofs.lines.put_lines.Given as goal

abbrev pub invariant-loop-token : goal.invariant-loop-token
invariant-loop-token l = (l.lines ≡ (l.text, l.asked)) × (l.asked ≤ length l.text)
