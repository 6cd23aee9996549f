-- What a loop over the parts of a list keeps: the size so far, beside that of the rest, is that of the whole.
use Rattle.std.proofs.Common.{◌≡◌, ◌+◌}
use Rattle.std.specs.Prelude.{max}
use Rattle.c_ast.specs.declared.size.Size.{Size}

abbrev pub Joins : Size → Size → Size → Type 0
Joins so_far rest whole = (max so_far.depth rest.depth ≡ whole.depth) × (so_far.nodes + rest.nodes ≡ whole.nodes)
