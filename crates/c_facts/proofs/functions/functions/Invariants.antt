use Rattle.std.proofs.Common.{◌≡◌, ◌++◌, drop, None}
use Rattle.c_typed.specs.Programs.{program_data}
use Rattle.c_facts.specs.Programs.{facts_in}
use Rattle.c_facts.proofs.functions.functions.Given as goal

abbrev pub invariant-loop-defined : goal.invariant-loop-defined
invariant-loop-defined l = l.found.want ≡ None → (l.fn.found.want ≡ None)
    × (l.found.list ++ facts_in (program_data l.p) (drop l.defined-index l.order) ≡ l.fn.found.list ++ facts_in (program_data l.fn.p) l.fn.order)
