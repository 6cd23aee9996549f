use Rattle.std.proofs.Common.{ap, arith, refl, sym, ◌∙◌}
use Rattle.c_typed.specs.Programs.{program_data}
use Rattle.source_run.proofs.Beginning.{far_begun}
use Rattle.source_run.proofs.Reaching.{far_where, goes_further}
use Rattle.source_run.proofs.Further.{further, steady_begun}
use Rattle.source_run.proofs.Stopping.{is_over, fails_reading, fails_writing, lacks_memory, none_at_all}
use Rattle.source_run.proofs.runner.run_engine.Goals as goal
use Rattle.source_state.specs.declared.ends.Moved.{Moved}
use Rattle.source_state.specs.declared.ends.Moved.TheVariants.{Goes, Over}
use Rattle.tac_engine.specs.View.{state_of}
use Rattle.tac_engine.proofs.Rooming.{has_room}

pub returns-in-Ok-Over : goal.returns-in-Ok-Over
returns-in-Ok-Over g c =
    is_over (program_data c.args.types.now) c.args.turns _ _ _ (state_of c.start.new.self) c.finish.new.kept c.in-Ok-Over.end
    (far_begun c.args.types.now c.args.turns (omega arith) c.runs_are_same.ensures (state_of c.args.engine.now) c.requires.start _ (Over c.in-Ok-Over.end)
    (state_of c.start.new.self) (ap (λ (m : Moved). (m, state_of c.start.new.self)) (sym c.in-Ok-Over.field-0-is) ∙ c.in-Ok-Over.ensures)) refl c.finish.result c.finish.ensures

pub returns-in-Err : goal.returns-in-Err
returns-in-Err g c = none_at_all (program_data c.args.types.now) c.args.turns _ c.args.kept.now

pub loop-end-init : goal.loop-end-init
loop-end-init g c =
    let called = ap (λ (m : Moved). (m, state_of c.start.new.self)) (sym c.in-Ok-Goes.field-0-is) ∙ c.in-Ok-Goes.ensures in (
      far_begun c.args.types.now c.args.turns (omega arith) c.runs_are_same.ensures (state_of c.args.engine.now) c.requires.start _ Goes
          (state_of c.start.new.self) called,
      steady_begun c.args.types.now c.args.turns (state_of c.args.engine.now) c.requires.start c.requires.steady Goes (state_of c.start.new.self) called,
    )

pub loop-end-preserved : goal.loop-end-preserved
loop-end-preserved g c = (
  goes_further (program_data c.args.types.now) c.args.turns _ _ _ c.loop-end.invariant.0 _ _ c.make_step.result c.in-Goes.is c.make_step.ensures,
  (further _ _ _ _ c.loop-end.invariant.1 c.make_step.result c.in-Goes.is c.make_step.ensures).steady,
)

pub loop-end-smaller : goal.loop-end-smaller
loop-end-smaller g c = (further _ _ _ _ c.loop-end.invariant.1 c.make_step.result c.in-Goes.is c.make_step.ensures).less

pub make_step-requires : goal.make_step-requires
make_step-requires g c = has_room (state_of c.loop-end.engine) c.loop-end.invariant.1

pub returns-in-Over : goal.returns-in-Over
returns-in-Over g c =
    is_over (program_data c.args.types.now) c.args.turns _ _ _ (state_of c.make_step.new.engine) c.finish-in-Over.new.kept c.in-Over.end
    (far_where (program_data c.args.types.now) c.args.turns _ _ (state_of c.loop-end.engine) c.loop-end.invariant.0 (Over c.in-Over.end) (state_of c.make_step.new.engine) c.in-Over.ensures.0)
    c.in-Over.ensures.1 c.finish-in-Over.result c.finish-in-Over.ensures

pub returns-in-ReadFails : goal.returns-in-ReadFails
returns-in-ReadFails g c = fails_reading (program_data c.args.types.now) c.args.turns _ _ _ _ _ c.loop-end.kept c.loop-end.invariant.0 c.in-ReadFails.ensures

pub returns-in-WriteFails : goal.returns-in-WriteFails
returns-in-WriteFails g c =
    fails_writing (program_data c.args.types.now) c.args.turns _ _ _ _ _ c.loop-end.kept c.loop-end.invariant.0 c.in-WriteFails.field-0 c.in-WriteFails.ensures

pub returns-in-Memory : goal.returns-in-Memory
returns-in-Memory g c = lacks_memory (program_data c.args.types.now) c.args.turns _ _ _ _ _ c.loop-end.kept c.loop-end.invariant.0 c.in-Memory.ensures
