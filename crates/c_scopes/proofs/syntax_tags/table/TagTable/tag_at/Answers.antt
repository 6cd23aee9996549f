use Rattle.c_scopes.proofs.SyntaxTags.TagTables.{seen_before, seen_later, not_seen}
use Rattle.c_scopes.proofs.syntax_tags.table.TagTable.tag_at.Goals as goal

pub returns-then-known-at : goal.returns-then-known-at
returns-then-known-at c =
    rw (← c.self.view_is) (seen_before c.self.inside.known.entries c.self.invariant c.args.name.now c.args.at c.in-Some.known c.in-Some.ensures
    c.if-known-at.true)

pub returns-else-known-at : goal.returns-else-known-at
returns-else-known-at c =
    rw (← c.self.view_is) (seen_later c.self.inside.known.entries c.self.invariant c.args.name.now c.args.at c.in-Some.known c.in-Some.ensures
    c.if-known-at.false)

pub returns-in-None : goal.returns-in-None
returns-in-None c = rw (← c.self.view_is) (not_seen c.self.inside.known.entries c.args.name.now c.args.at c.in-None.ensures)
