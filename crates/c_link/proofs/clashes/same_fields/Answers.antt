use Rattle.std.proofs.Common.{sym}
use Rattle.c_link.proofs.Unlike.{unlike_fields}
use Rattle.c_link.proofs.clashes.same_fields.Goals as goal

pub returns-then-all-others : goal.returns-then-all-others
returns-then-all-others c = sym (unlike_fields c.args.all.now c.args.others.now c.if-all-others.true)
