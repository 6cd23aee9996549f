use Rattle.std.proofs.Common.{◌≡◌, ◌≤◌, ◌<◌, ◌∙◌, length, true, false, rules}
use Rattle.c_link.proofs.Placed.{on_ok, past, replaced, stays}
use Rattle.c_link.proofs.joining.put.Goals as goal

pub returns-then-number-len : goal.returns-then-number-len
returns-then-number-len g c =
    let all = c.args.all.now.items in
    let h : length all ≤ c.args.number = search rules in
    on_ok c.push.result (λ e. e ∙ past c.args.replaces all c.args.number c.args.it h) c.push.ensures.pushed

pub returns-then-replaces : goal.returns-then-replaces
returns-then-replaces g c =
    let all = c.args.all.now.items in
    let h : c.args.number < length all = search rules in
    let e : c.args.replaces ≡ true = search rules in
    rw e (replaced all c.args.number c.args.it h)

pub returns-else-replaces : goal.returns-else-replaces
returns-else-replaces g c =
    let all = c.args.all.now.items in
    let h : c.args.number < length all = search rules in
    let e : c.args.replaces ≡ false = search rules in
    rw e (stays all c.args.number c.args.it h)
