use Rattle.std.proofs.Common.{rules, ◌≡◌}
use Rattle.c_scopes.proofs.SyntaxTags.Numbers.{noted}
use Rattle.c_scopes.proofs.syntax_tags.names.note.Goals as goal

pub returns-clause-noted : goal.returns-clause-noted
returns-clause-noted c =
    let e : c.in_ok-key.key.items ≡ c.args.name.now = search rules in
    noted c.args.places.now.entries c.put.new.entries.entries c.in_ok-key.key c.args.place c.args.name.now e c.in-None.ensures.value
    c.in_ok-put.ensures.put
