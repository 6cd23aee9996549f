use Rattle.std.proofs.Common.{sym}
use Rattle.c_types.proofs.TypeLists.{unlike_lists}
use Rattle.c_types.proofs.sameness.+sameness.Goals as goal

pub are_all_alike-returns-then-all-others : goal.are_all_alike-returns-then-all-others
are_all_alike-returns-then-all-others t c = sym (unlike_lists c.args.all.now c.args.others.now c.if-all-others.true)
