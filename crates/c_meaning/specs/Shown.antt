-- What a run shows in all languages is enough to weigh it.
use Rattle.std.specs.Prelude.{◌≡◌, List}
use Rattle.c_typed.specs.Programs.{ProgramData}
use Rattle.block_memory.specs.RunWorlds.Events.{Event, shown, heap_weight}
use Rattle.c_meaning.specs.Weights.{stack_weight}

pub record IsWeighedAsShown (p : ProgramData) (trace : List Event) : Type 0 where
  pub heap : heap_weight (shown trace) ≡ heap_weight trace
  pub stack : stack_weight p (shown trace) ≡ stack_weight p trace
