use Rattle.std.proofs.Common.{◌≡◌, map, take}
use Rattle.elf32.specs.Loaded.{segment_of}
use Rattle.elf32.proofs.reading.segments.Given as goal

abbrev pub invariant-loop-header : goal.invariant-loop-header
invariant-loop-header l = l.segments ≡ map (segment_of l.bytes) (take l.header-index l.headers)
