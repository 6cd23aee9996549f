use Rattle.std.proofs.Common.{map, ◌≡◌, ◌++◌, drop}
use Rattle.std.specs.Prelude.{None}
use Rattle.std.specs.List.{concat}
use Rattle.lay_report.proofs.text.put_all.Given as goal

abbrev pub invariant-loop-piece : goal.invariant-loop-piece
invariant-loop-piece l = l.text.want ≡ None → (l.fn.text.want ≡ None)
    × (l.text.bytes.items ++ concat (map (λ piece. piece.now) (drop l.piece-index l.pieces)) ≡ l.fn.text.bytes.items ++ concat (map (λ piece. piece.now) l.pieces))
