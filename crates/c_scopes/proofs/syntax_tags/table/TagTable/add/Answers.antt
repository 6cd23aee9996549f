use Rattle.std.proofs.Common.{rules, ◌≡◌, sym, refl}
use Rattle.c_scopes.specs.SyntaxTags.Tables.{tag_of}
use Rattle.c_scopes.proofs.SyntaxTags.TagTables.{already, newly, apart_after}
use Rattle.c_scopes.proofs.syntax_tags.table.TagTable.add.Goals as goal

pub returns-in_default-clause-added : goal.returns-in_default-clause-added
returns-in_default-clause-added c =
    rw (← c.self.view_is) (already c.self.inside.known.entries (tag_of c.args.tag.now) c.in_default.field-0 (sym c.in_default.ensures))

pub invariant_of-self-2 : goal.invariant_of-self-2
invariant_of-self-2 c =
    let e : c.in_ok-key.key.items ≡ c.args.tag.now.name.now = search rules in
    apart_after c.self.inside.known.entries c.put.new.entries.entries c.args.tag.now.name.now c.in_ok-key.key _ c.self.invariant e
    c.in-None.ensures c.in_ok-put.ensures.put

pub returns-clause-added : goal.returns-clause-added
returns-clause-added c =
    let e : c.in_ok-key.key.items ≡ c.args.tag.now.name.now = search rules in
    rw (← c.self.view_is) (newly c.self.inside.known.entries c.put.new.entries.entries (tag_of c.args.tag.now) c.in_ok-key.key _ e refl
    c.in-None.ensures c.in_ok-put.ensures.put)
