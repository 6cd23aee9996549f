use Rattle.std.proofs.Common.{rules, ◌≡◌, Some}
use Rattle.profile_file.specs.Reading.{function_at}
use Rattle.profile_file.proofs.LineTexts.{function_whole}
use Rattle.profile_file.proofs.lines.read_function.Goals as goal

pub returns-in_ok-counted-in-Some : goal.returns-in_ok-counted-in-Some
returns-in_ok-counted-in-Some c =
    let found = c.in_ok-counted-in-Some in
    let e : function_at c.args.text.now ≡ Some (c.in-Some.name.now, c.in-Some.entries, c.in-Some.rest.now) = search rules in
    function_whole c.args.text.now c.in-Some.name.now c.in-Some.entries c.in-Some.rest.now found.field-0.0 found.field-0.1.now e
    found.ensures.0 found.ensures.1 found.ensures.2
