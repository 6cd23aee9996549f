use Rattle.std.proofs.Common.{sym}
use Rattle.c_types.specs.Views.{type_of}
use Rattle.c_externals.specs.Signatures.{simple_type}
use Rattle.c_externals.proofs.Signatures.{other_lengths}
use Rattle.c_externals.proofs.library.are_simple.Goals as goal

pub returns-then-all-wanted : goal.returns-then-all-wanted
returns-then-all-wanted c = sym (other_lengths type_of simple_type c.args.all.now c.args.wanted.now c.if-all-wanted.true)
