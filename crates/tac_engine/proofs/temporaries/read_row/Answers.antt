use Rattle.std.proofs.Common.{◌≡◌, ap, sym, ◌∙◌, ◌+◌, ◌-◌, [], ◌∷◌, List, Option, Ok, Err, length, length-append, arith}
use Rattle.lay_base.specs.declared.faults.UndefinedKind.TheVariants as K
use Rattle.c_meaning.specs.declared.frame.Slot.{Slot}
use Rattle.source_state.specs.RoomView.{core_of}
use Rattle.source_state.specs.Steps.Locals.{slot}
use Rattle.block_memory.specs.declared.run_worlds.value.Value.{Value}
use Rattle.tac_engine.specs.Reading.{behind}
use Rattle.tac_engine.specs.States.{held, read_row}
use Rattle.tac_engine.proofs.Rows.{no_more, one_more}
use Rattle.tac_engine.proofs.temporaries.read_row.Goals as goal

pub returns-in-Err-clause-read : goal.returns-in-Err-clause-read
returns-in-Err-clause-read c =
    let is : held K.Call c.args.place (slot (core_of c.args.room.now) (c.args.row.first + c.loop-i.i)) ≡ Err c.in-Err.end
    = ap (λ (o : Option Slot). held K.Call c.args.place o) (sym c.slot_at-slot.ensures) ∙ sym c.held.ensures ∙ c.in-Err.is in
    sym c.loop-i.invariant.1 ∙ no_more c.args.place c.args.row.first c.args.row.count c.loop-i.i (core_of c.args.room.now) c.loop-i.values.items c.in-Err.end
    c.loop-i-test.true is

pub loop-i-preserved : goal.loop-i-preserved
loop-i-preserved c =
    let is : held K.Call c.args.place (slot (core_of c.args.room.now) (c.args.row.first + c.loop-i.i)) ≡ Ok c.in-Ok.v
    = ap (λ (o : Option Slot). held K.Call c.args.place o) (sym c.slot_at-slot.ensures) ∙ sym c.held.ensures ∙ c.in-Ok.is in
    let more : length c.push.new.items.items ≡ length c.loop-i.values.items + 1
    = ap (λ (vs : List Value). length vs) c.in_ok-push-in-Ok.ensures.pushed ∙ length-append c.loop-i.values.items (c.in-Ok.v ∷ []) in (
      omega (arith, more, c.loop-i.invariant.0),
      ap (λ (vs : List Value). behind vs (read_row c.args.place (c.args.row.first + (c.loop-i.i + 1)) (c.args.row.count - (c.loop-i.i + 1)) (core_of c.args.room.now)))
          c.in_ok-push-in-Ok.ensures.pushed
          ∙ sym (one_more c.args.place c.args.row.first c.args.row.count c.loop-i.i (core_of c.args.room.now) c.loop-i.values.items c.in-Ok.v c.loop-i-test.true is)
          ∙ c.loop-i.invariant.1,
    )
