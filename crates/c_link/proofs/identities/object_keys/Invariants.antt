use Rattle.std.proofs.Common.{◌≡◌, ◌++◌, drop, map}
use Rattle.c_link.specs.Joining.{object_identities}
use Rattle.c_link.proofs.identities.object_keys.Given as goal

abbrev pub invariant-loop-n : goal.invariant-loop-n
invariant-loop-n l = map (λ key. key.items) l.keys ++ object_identities l.unit l.n (drop l.n l.objects) ≡ object_identities l.unit 0 l.objects
