use Rattle.std.proofs.Common.{◌≡◌, drop, length}
use Rattle.std.specs.Prelude.{map}
use Rattle.c_typed.specs.RunCounts.Stale.{loops_among, loops_differ, loops_stale}
use Rattle.c_typed.specs.Programs.{program_data}
use Rattle.profile_file.proofs.fitting.loops_fit.Given as goal

-- the numbers of loops that are left differ where all do
abbrev pub invariant-loop-i : goal.invariant-loop-i
invariant-loop-i l = loops_differ l.i (loops_among (program_data l.p) (drop l.i l.order)) (map (λ f. length f.loops) (drop l.i l.c.functions))
    ≡ loops_stale l.fn.c (program_data l.fn.p)
