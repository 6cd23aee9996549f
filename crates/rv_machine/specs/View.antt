-- The memory as contracts see it: which addresses may be used for what, and the byte at each.
use Rattle.std.specs.Prelude.{◌≡◌, ℕ, List, [], Option, Some, None, if◌then◌else◌}
use Rattle.rv_isa.specs.declared.image.Segment.{Segment}
use Rattle.rv_isa.specs.Memory.{Memory as Content, are_mapped}
use Rattle.rv_machine.specs.declared.memory.Memory.{Memory}
use Rattle.rv_machine.specs.Rows.{memory_of, segments_of}

abbrev pub segments_in : Memory → List Segment
segments_in memory = segments_of memory.rows.items

abbrev pub content_of : Memory → Content
content_of memory = memory_of memory.rows.items memory.bytes.items

-- neither the rows nor the bytes have changed
pub record IsKept (old new : Memory) : Type 0 where
  pub rows : new.rows ≡ old.rows
  pub bytes : new.bytes ≡ old.bytes

-- the value, where all bytes from an address on may be used so
abbrev pub if_mapped : Memory → (flag address width value : ℕ) → Option ℕ
if_mapped memory flag address width value = if are_mapped (segments_in memory) flag address width then Some value else None

-- ---- segments as memory stands for them

-- a segment without the bytes that it began with
abbrev pub bare : Segment → Segment
bare segment = record segment { bytes = [] }
