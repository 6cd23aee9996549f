use Rattle.std.proofs.Common.{rules, ◌≡◌, ◌++◌, ◌∷◌, [], length}
use Rattle.c_scopes.proofs.SyntaxTags.Numbers.{number_noted}
use Rattle.c_scopes.proofs.syntax_tags.names.Names.add.Goals as goal

pub invariant_of-self-2 : goal.invariant_of-self-2
invariant_of-self-2 c =
    let e : c.push_reserved.new.self.items ≡ c.self.inside.names.items ++ c.args.name.now ∷ [] = search rules in
    let p : c.len-place.result ≡ length c.self.inside.names.items = search rules in
    number_noted c.self.inside.places.entries c.note.new.places.entries c.self.inside.names.items c.push_reserved.new.self.items c.args.name.now
    c.len-place.result c.self.invariant c.in_ok-note.ensures.noted e p
