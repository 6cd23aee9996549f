-- Where a run of code is between two steps, and to what a step leads.
use Rattle.std.specs.Prelude.{List}
use Rattle.block_memory.specs.RunWorlds.Worlds.{World, End, world_of}
use Rattle.c_meaning.specs.Frames.{Frame}
use Rattle.tac_ir.specs.Code.{RoutineData}
use Rattle.tac_ir.specs.declared.step.Step.{Step}
use Rattle.tac_ir.specs.Running.{Caller, Next}

pub record Moment : Type 0 where
  -- the calls that wait, the last one first
  pub callers : List Caller
  -- what runs, and the steps that are left of it
  pub routine : RoutineData
  pub more : List Step
  pub frame : Frame
  pub world : World

pub data Moved : Type 0 where
  to : (m : Moment) → Moved
  -- the run has ended
  over : (e : End) → Moved

abbrev pub world_behind : Moved → World
world_behind (to m) = m.world
world_behind (over e) = world_of e

abbrev pub go_on : Next → Moved → End
go_on next (to m) = next m.callers m.routine m.more m.frame m.world
go_on next (over e) = e
