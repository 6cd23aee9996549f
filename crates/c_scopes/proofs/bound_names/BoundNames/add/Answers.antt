use Rattle.std.proofs.Common.{rules, ◌≡◌, ◌++◌, ◌∷◌, []}
use Rattle.c_scopes.proofs.bound_names.BoundNames.add.Goals as goal

pub invariant_of-self-2 : goal.invariant_of-self-2
invariant_of-self-2 c =
    let e : c.push_reserved.new.self.items ≡ c.self.inside.bounds.items ++ c.args.b ∷ [] = search rules in
    rw e (c.in_ok-make_room.ensures.noted c.self.invariant)
