use Rattle.std.proofs.Common.{◌≡◌, drop}
use Rattle.std.specs.Prelude.{map}
use Rattle.c_typed.specs.RunCounts.Stale.{names_among, names_in, order_differs, order_stale}
use Rattle.c_typed.specs.Programs.{program_data}
use Rattle.profile_file.proofs.fitting.names_fit.Given as goal

-- the names that are left differ where all do
abbrev pub invariant-loop-i : goal.invariant-loop-i
invariant-loop-i l = order_differs (names_in l.c) l.i (names_among (program_data l.p) (drop l.i l.order)) (map (λ f. f.name) (drop l.i l.c.functions))
    ≡ order_stale l.fn.c (program_data l.fn.p)
