use Rattle.std.proofs.Common.{◌≡◌, ◌+◌, drop}
use Rattle.rv_image.specs.Data.{put_bytes}
use Rattle.rv_image.proofs.data.put.Given as goal

abbrev pub invariant-loop-k : goal.invariant-loop-k
invariant-loop-k l = put_bytes (l.at + l.k) (drop l.k l.bytes) l.segment.items ≡ put_bytes l.fn.at l.fn.bytes l.fn.segment.items
