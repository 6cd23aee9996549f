use Rattle.std.proofs.Common.{rules, ◌≡◌, None, Some}
use Rattle.std.specs.Prelude.{codes}
use Rattle.profile_file.specs.Reading.{after, AreAllFunctions}
use Rattle.profile_file.proofs.Breaking.{breaks_at_first, read_gives}
use Rattle.profile_file.proofs.reading.read.Goals as goal

pub returns-in_default : goal.returns-in_default
returns-in_default c =
    let none : after (codes "layc-profile 1\n") c.args.bytes.now ≡ None = search rules in
    breaks_at_first c.args.bytes.now none

pub returns-in-Ok : goal.returns-in-Ok
returns-in-Ok c =
    let behind : after (codes "layc-profile 1\n") c.args.bytes.now ≡ Some c.in-Some.text.now = search rules in
    let functions : AreAllFunctions c.in-Some.text.now c.in-Ok.functions c.in-Ok.line c.in-Ok.rest.now = search rules in
    read_gives c.args.bytes.now c.in-Some.text.now c.in-Ok.functions c.in-Ok.line c.in-Ok.rest.now c.counts_before.result behind functions
    c.counts_before.ensures
