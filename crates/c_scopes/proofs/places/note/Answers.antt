use Rattle.std.proofs.Common.{rules, ◌≡◌}
use Rattle.c_scopes.proofs.FirstPlaces.{declared_noted, defined_noted}
use Rattle.c_scopes.proofs.places.note.Goals as goal

pub returns-clause-declared : goal.returns-clause-declared
returns-clause-declared c =
    let e : c.in_ok-key.key.items ≡ c.args.name.now = search rules in
    declared_noted c.args.places.now.entries c.put.new.entries.entries c.in_ok-key.key _ c.args.place c.args.name.now e (search rules)
    c.in_ok-put.ensures.put

pub returns-clause-defined : goal.returns-clause-defined
returns-clause-defined c =
    let e : c.in_ok-key.key.items ≡ c.args.name.now = search rules in
    defined_noted c.args.places.now.entries c.put.new.entries.entries c.in_ok-key.key _ c.args.definition c.args.name.now e (search rules)
    c.in_ok-put.ensures.put
