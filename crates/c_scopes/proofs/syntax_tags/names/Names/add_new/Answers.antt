use Rattle.std.proofs.Common.{sym}
use Rattle.c_scopes.proofs.SyntaxTags.Numbers.{known_with_new, unknown_with_new}
use Rattle.c_scopes.proofs.syntax_tags.names.Names.add_new.Goals as goal

pub returns-in-Some-clause-added : goal.returns-in-Some-clause-added
returns-in-Some-clause-added c = known_with_new c.args.self.now c.args.name.now _ (sym c.in-Some.ensures)

pub returns-in-None-clause-added : goal.returns-in-None-clause-added
returns-in-None-clause-added c = rw (unknown_with_new c.args.self.now c.args.name.now (sym c.in-None.ensures)) c.add.ensures.added
