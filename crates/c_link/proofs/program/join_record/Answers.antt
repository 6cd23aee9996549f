use Rattle.std.proofs.Common.{◌≡◌, ◌≤◌, ◌<◌, ◌++◌, ◌∷◌, [], ◌∙◌, false, length, rules}
use Rattle.c_link.proofs.Placed.{past, stays}
use Rattle.c_link.proofs.program.join_record.Goals as goal

pub returns-then-number-len : goal.returns-then-number-len
returns-then-number-len c =
    let h : c.args.number < length c.args.records.now = search rules in
    stays c.args.records.now c.args.number c.args.r h

pub returns-in-Ok : goal.returns-in-Ok
returns-in-Ok c =
    let all = c.args.records.now in
    let h : length all ≤ c.args.number = search rules in
    let e : c.add.new.self ≡ all ++ c.args.r ∷ [] = search rules in
    e ∙ past false all c.args.number c.args.r h
