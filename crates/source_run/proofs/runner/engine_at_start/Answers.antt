use Rattle.std.proofs.Common.{◌≡◌, ap, subst, ◌∙◌}
use Rattle.std.specs.Prelude.{OnOk, Result}
use Rattle.c_typed.specs.Programs.{program_data}
use Rattle.c_typed.specs.declared.program.Typed.{Typed}
use Rattle.lay_base.specs.declared.no_memory.NoMemory.{NoMemory}
use Rattle.source_run.specs.Starting.{first_core}
use Rattle.source_run.proofs.Beginning.{at_start}
use Rattle.source_run.proofs.runner.engine_at_start.Goals as goal
use Rattle.source_start.specs.Zeros.{no_counts}
use Rattle.source_state.specs.RoomView.{core_of, empty_core}
use Rattle.source_state.specs.Steps.Counting.{Counting}
use Rattle.tac_engine.specs.View.{state_of}

pub returns : goal.returns
returns c =
    let p = program_data c.args.types.now in
    let filled = c.start.ensures c.args.turns (no_counts p)
    (c.new-room.ensures ∙ ap (λ (counts : Counting). empty_core c.args.turns counts) (c.in_ok-none.ensures ∙ ap (λ (t : Typed). no_counts (program_data t)) c.typed.ensures)) in
    let core : core_of c.start.new.room ≡ first_core p c.args.turns
    = subst (λ (r : Result (Unit {0}) NoMemory). OnOk r (core_of c.start.new.room ≡ first_core p c.args.turns)) c.in_ok-start.was filled in
    at_start c.args.types.now c.args.code.now c.args.turns (core_of c.start.new.room) c.args.routine.now (state_of c.new.result) core c.requires.code c.new.ensures
