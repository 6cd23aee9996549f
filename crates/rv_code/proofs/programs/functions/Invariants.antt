use Rattle.std.proofs.Common.{◌≡◌, ◌++◌, drop, map}
use Rattle.rv_code.specs.Programs.{functions_code}
use Rattle.tac_ir.specs.Code.{data_of}
use Rattle.rv_code.proofs.programs.functions.Given as goal

abbrev pub invariant-loop-i : goal.invariant-loop-i
invariant-loop-i l = l.code.items ++ functions_code l.p (map data_of (drop l.i l.routines)) (drop l.i l.layouts)
    ≡ l.fn.code.items ++ functions_code l.fn.p (map data_of l.fn.routines) l.fn.layouts
