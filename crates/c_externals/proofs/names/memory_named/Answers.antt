use Rattle.std.proofs.Common.{◌∙◌, sym}
use Rattle.c_typed.specs.declared.operators.LibraryFunction.TheVariants as L
use Rattle.c_externals.proofs.LibraryNames.{none_of_three, not_named}
use Rattle.c_externals.proofs.names.memory_named.Goals as goal

pub returns-else-eq-3 : goal.returns-else-eq-3
returns-else-eq-3 c =
    let x = c.args.x.now in
    sym (none_of_three x (not_named L.Malloc x c.as_slice.result.now c.as_slice.ensures (sym c.eq.ensures ∙ c.if-eq.false))
    (not_named L.Calloc x c.as_slice-else-eq.result.now c.as_slice-else-eq.ensures (sym c.eq-else-eq.ensures ∙ c.if-eq-2.false))
    (not_named L.Free x c.as_slice-else-eq-2.result.now c.as_slice-else-eq-2.ensures (sym c.eq-else-eq-2.ensures ∙ c.if-eq-3.false)))
