use Rattle.std.proofs.Common.{rules, ◌≡◌, ◌++◌, ◌∷◌, [], length, refl}
use Rattle.c_scopes.proofs.FirstPlaces.{has_one_more}
use Rattle.c_scopes.proofs.bound_names.make_room.Goals as goal

pub returns-clause-noted : goal.returns-clause-noted
returns-clause-noted c has =
    let p : c.len-place.result ≡ length c.args.bounds.now.items = search rules in
    let n : c.as_slice.result.now ≡ c.args.b.now.name = search rules in
    has_one_more c.args.places.now.entries c.note.new.places.entries c.args.bounds.now.items (c.args.bounds.now.items ++ c.args.b.now ∷ []) c.args.b.now
    c.as_slice.result.now c.len-place.result c.definition_at-definition.result has c.in_ok-note.ensures.declared
    c.in_ok-note.ensures.defined refl n p c.definition_at-definition.ensures
