-- What a run adds to its world.
use Rattle.std.specs.Prelude.{◌≡◌, ◌≤◌, List, ◌++◌, length}
use Rattle.block_memory.specs.RunWorlds.Events.{Event}
use Rattle.block_memory.specs.RunWorlds.Worlds.{World, world_of}
use Rattle.c_meaning.specs.Frames.{Frame}
use Rattle.tac_ir.specs.Code.{RoutineData}
use Rattle.tac_ir.specs.Running.{Caller, Next}
use Rattle.tac_ir.specs.declared.step.Step.{Step}

-- the events that came since, the last one first
abbrev pub Grew : (old new : List Event) → Type 0
Grew old new = (events : List Event) × (new ≡ events ++ old)

-- the trace has only grown, and all blocks have kept their numbers
pub record Onward (w v : World) : Type 0 where
  pub trace : Grew w.trace v.trace
  pub blocks : length w.memory ≤ length v.memory

-- what follows only adds
abbrev pub OnlyAdds : Next → Type 0
OnlyAdds next = (cs : List Caller) (g : RoutineData) (more : List Step) (f : Frame) (w : World) → Onward w (world_of (next cs g more f w))
