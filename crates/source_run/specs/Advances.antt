-- What the code of one step gives, with the byte that it writes or reads.
use Rattle.std.specs.Prelude.{◌≡◌, ◌⊎◌, ℕ, List, [], ◌∷◌, Option, Some}
use Rattle.lay_base.specs.Known.{Rose, Appends}
use Rattle.block_memory.specs.declared.run_worlds.value.Value.{Value}
use Rattle.source_run.specs.Streams.{Streams, AreSteady}
use Rattle.source_run.specs.declared.stepping.Advance.{Advance}
use Rattle.source_run.specs.declared.stepping.Advance.TheVariants as A
use Rattle.source_state.specs.Steps.Agreeing.{next_in, behind_next}
use Rattle.source_state.specs.declared.ends.Moved.{Moved}
use Rattle.source_state.specs.declared.ends.Moved.TheVariants.{Goes, Puts, Gets, Over}
use Rattle.tac_engine.specs.States.{State}
use Rattle.tac_engine.specs.Steps.{read_given, stepped}

-- the next byte of an input is taken, where the input is known
abbrev pub Takes : (old new : Option (List ℕ)) → Type 0
Takes old new = (input : List ℕ) → old ≡ Some input → new ≡ Some (behind_next input)

-- ... and that is its value
abbrev pub Reads : (old new : Option (List ℕ)) → Value → Type 0
Reads old new v = (input : List ℕ) → old ≡ Some input → (new ≡ Some (behind_next input)) × (v ≡ next_in input)

-- a byte that could not be written may have been written
abbrev pub WritesNone : (byte : ℕ) → (old new : Option (List ℕ)) → Type 0
WritesNone byte old new = Appends old new [] ⊎ Appends old new (byte ∷ [])

module _ (old new : State) (before now : Streams) where
  -- the step is that, and leads there
  abbrev pub Steps : Moved → Type 0
  Steps moved = stepped old ≡ (moved, new)

  pub record Wrote (byte : ℕ) : Type 0 where
    pub steps : Steps (Puts byte)
    pub steady : AreSteady before now
    pub written : Appends before.written now.written (byte ∷ [])
    pub left : now.left ≡ before.left

  pub record Read : Type 0 where
    pub steps : (stepped old).0 ≡ Gets
    pub steady : AreSteady before now
    pub written : now.written ≡ before.written
    pub value : Value
    pub given : new ≡ read_given value (stepped old).1
    pub reads : Reads before.left now.left value

  pub record ReadFails : Type 0 where
    pub steps : (stepped old).0 ≡ Gets
    pub rose : Rose before.read_faults now.read_faults
    pub written : now.written ≡ before.written
    pub left : now.left ≡ before.left

  pub record WriteFails (byte : ℕ) : Type 0 where
    pub steps : Steps (Puts byte)
    pub rose : Rose before.write_faults now.write_faults
    pub written : WritesNone byte before.written now.written
    pub left : now.left ≡ before.left

  -- behind a byte that was read, or not
  pub record Lacks : Type 0 where
    pub steady : AreSteady before now
    pub written : now.written ≡ before.written
    pub left : (now.left ≡ before.left) ⊎ (((stepped old).0 ≡ Gets) × Takes before.left now.left)

  abbrev pub AdvanceGives : Advance → Type 0
  AdvanceGives A.Goes = Steps Goes × (now ≡ before)
  AdvanceGives (A.Wrote byte) = Wrote byte
  AdvanceGives A.Read = Read
  AdvanceGives (A.Over end) = Steps (Over end) × (now ≡ before)
  AdvanceGives A.ReadFails = ReadFails
  AdvanceGives (A.WriteFails byte) = WriteFails byte
  AdvanceGives (A.Memory want) = Lacks
