use Rattle.std.proofs.Common.{◌≡◌, drop}
use Rattle.rv_image.specs.Data.{put_values}
use Rattle.rv_image.proofs.data.put_values.Given as goal

abbrev pub invariant-loop-i : goal.invariant-loop-i
invariant-loop-i l = put_values l.q l.at (drop l.i-index l.values) l.segment.items ≡ put_values l.fn.q l.fn.at l.fn.values l.fn.segment.items
