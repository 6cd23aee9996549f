use Rattle.std.proofs.Common.{rules, ◌≡◌, ◌+◌, ◌++◌, ◌∷◌, [], length, subst, sym}
use Rattle.profile_file.specs.Reading.{AreFunctions, IsFunction}
use Rattle.profile_file.proofs.Functions.{one_function}
use Rattle.profile_file.proofs.reading.read_functions.Goals as goal

pub loop-functions-preserved : goal.loop-functions-preserved
loop-functions-preserved c =
    let function : IsFunction c.loop-functions.rest.now c.in-Some.f c.in-Some.more.now = search rules in
    let added : c.add.new.list ≡ c.loop-functions.functions ++ c.in-Some.f ∷ [] = search rules in
    let line = c.loop-functions.line + (1 + length c.in-Some.f.loops) in
    let whole : AreFunctions c.args.text.now c.add.new.list line c.in-Some.more.now =
    subst (λ fs. AreFunctions c.args.text.now fs line c.in-Some.more.now) (sym added)
    (one_function c.args.text.now c.loop-functions.functions c.loop-functions.line c.loop-functions.rest.now c.in-Some.f c.in-Some.more.now
    c.loop-functions.invariant function) in
    search (rules, whole)
