use Rattle.std.proofs.Common.{sym, ◌∙◌, ◌≤◌, length, drop, arith}
use Rattle.source_state.specs.RoomView.{core_of}
use Rattle.tac_engine.proofs.Rows.{received_all}
use Rattle.tac_engine.proofs.calls.receive.Goals as goal

pub returns-in_default : goal.returns-in_default
returns-in_default c =
    let past : length c.args.values.now ≤ c.loop-number.number = grind (arith, c.in_default.ensures.lookup) in
    sym (received_all c.args.place c.loop-number.number (drop c.loop-number.number c.args.parameters.now) c.args.values.now (core_of c.loop-number.room) past)
    ∙ c.loop-number.invariant
