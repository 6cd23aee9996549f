use Rattle.std.proofs.Common.{sym, subst, length}
use Rattle.rv_isa.specs.Memory.{executable}
use Rattle.rv_machine.specs.declared.rows.Row.{Row}
use Rattle.rv_machine.specs.Rows.{Begins}
use Rattle.rv_machine.proofs.Places.{words_begin}
use Rattle.rv_machine.proofs.memory.Memory.fetch.Goals as goal

pub invariant_of-self-clause-code_begins : goal.invariant_of-self-clause-code_begins
invariant_of-self-clause-code_begins c =
    let memory = c.args.self.now in
    subst (λ (r : Row). Begins memory.rows.items (length memory.bytes.items) executable r) (sym c.beginnings-self.ensures)
    (words_begin _ _ executable c.in-Some.row c.in-Some.ensures.0 c.in-Some.ensures.1)
