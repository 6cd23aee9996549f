-- The rows and the bytes of segments that stand one after the other.
use Rattle.std.specs.Prelude.{ℕ, ◌+◌, ◌-◌, List, [], ◌∷◌, ◌++◌, length, replicate}
use Rattle.std.specs.List.{sum_by, flat_map}
use Rattle.rv_isa.specs.declared.image.Segment.{Segment}
use Rattle.rv_machine.specs.declared.rows.Row.{Row}

-- how many addresses segments have together
abbrev pub size_of : List Segment → ℕ
size_of segments = sum_by (λ segment. segment.size) segments

-- a segment's bytes, and zeros after them
abbrev pub whole : Segment → List ℕ
whole segment = segment.bytes ++ replicate (segment.size - length segment.bytes) 0

abbrev pub bytes_of : List Segment → List ℕ
bytes_of segments = flat_map whole segments

-- the first segment's bytes stand from `start` on, and the others' after them
abbrev pub rows_from : (start : ℕ) → List Segment → List Row
rows_from start [] = []
rows_from start (segment ∷ segments) =
    record { at = segment.at; size = segment.size; start = start; flags = segment.flags }
    ∷ rows_from (start + segment.size) segments
