use Rattle.std.proofs.Common.{◌≡◌, drop, map}
use Rattle.c_typed.specs.Programs.{data_of, program_data}
use Rattle.c_link.specs.Gaps.{first_past, local_bytes}
use Rattle.c_link.proofs.limits.frame_past.Given as goal

abbrev pub invariant-loop-f : goal.invariant-loop-f
invariant-loop-f l = first_past 16777216 (map (local_bytes (program_data l.p)) (map data_of (drop l.f-index l.functions)))
    ≡ first_past 16777216 (map (local_bytes (program_data l.p)) (map data_of l.functions))
