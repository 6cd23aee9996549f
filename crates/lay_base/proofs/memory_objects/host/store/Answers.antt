use Rattle.std.proofs.Common.{◌≡◌, [], ◌∷◌, ◌++◌, rules}
use Rattle.lay_base.proofs.Storing.{contents_of-set, contents_of-push}
use Rattle.lay_base.proofs.memory_objects.host.store.Goals as goal

pub returns-in-Some-clause-ok : goal.returns-in-Some-clause-ok
returns-in-Some-clause-ok c = λ other.
    let same : c.of-bytes.result ≡ c.args.bytes.now = search rules in
    rw same (contents_of-set c.args.files.now.items c.in-Some.at c.index_mut.result.now c.args.name.now c.args.bytes.now other (cc) c.index_mut.ensures.value)

pub returns-in_ok-push-in-None-clause-ok : goal.returns-in_ok-push-in-None-clause-ok
returns-in_ok-push-in-None-clause-ok c = λ other.
    let after : c.push.new.items.items ≡ c.args.files.now.items ++ record { name = c.args.name.now; bytes = c.args.bytes.now } ∷ [] = search rules in
    rw after (contents_of-push c.args.files.now.items c.args.name.now c.args.bytes.now other (cc))
