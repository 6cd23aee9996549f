-- What is claimed of the machine where a run comes to an end.
use Rattle.std.specs.Prelude.{◌≡◌, ℕ, ◌+◌, ◌≤◌, List, ◌∷◌, ◌*◌, Option}
use Rattle.lay_base.specs.declared.faults.RoomKind.{RoomKind}
use Rattle.lay_base.specs.declared.faults.UndefinedKind.{UndefinedKind}
use Rattle.lay_base.specs.declared.place.Place.{Place}
use Rattle.block_memory.specs.RunWorlds.Events.{entered, output_of, Event, allocated, heap_weight}
use Rattle.block_memory.specs.RunWorlds.Worlds.{World, End, ends, goes_on, undefined, out_of_room}
use Rattle.rv_isa.specs.Step.{State, Ends, Running, Exits, step}
use Rattle.rv_isa.specs.Run.{run}
use Rattle.rv_isa.specs.Events.{MachineEvent, events, heap_start}
use Rattle.rv_runtime.specs.Steps.States.{at, later, IsBackward}
use Rattle.block_memory.specs.declared.run_worlds.value.Value.{Value}
use Rattle.rv_code.specs.Code.{stack_place, steps_code}
use Rattle.rv_code.specs.declared.layout.Layout.{Layout}
use Rattle.tac_ir.specs.Code.{RoutineData}
use Rattle.rv_isa.specs.Step.{Standing}
use Rattle.agreement.specs.Agreement.{shows}
use Rattle.tac_ir.specs.Running.{Caller, Next, body}
use Rattle.c_meaning.specs.Frames.{Frame}
use Rattle.tac_ir.specs.declared.step.Step.{Step}
use Rattle.rv_emit.specs.Maps.{Extents}
use Rattle.rv_emit.specs.Grounds.{Ground}
use Rattle.rv_emit.specs.Relation.{Program, Moment, Point, Ready, Here, IsLaid, IsMade}

-- what is claimed of an end, of a state with at least so many steps to come, behind some events
abbrev pub Claims : Type 1
Claims = End → ℕ → State → List MachineEvent → Type 0

abbrev pub state : Point → State
state q = at q.f q.pc q.memory q.input q.output

module _ (ground : Ground) (p : Program) where
  -- a step carries it backwards, nothing is claimed where something is undefined or room is out, and no step need follow where no turn is left
  pub record AreClaims (Claim : Claims) : Type 0 where
    pub backward : (e : End) → IsBackward ground.segments (Claim e)
    pub undefined : (kind : UndefinedKind) (place : Place) (w : World) (n : ℕ) (s : State) (before : List MachineEvent) → Claim (undefined kind place w) n s before
    pub out_of_room : (kind : RoomKind) (counted : ℕ) (w : World) (n : ℕ) (s : State) (before : List MachineEvent)
        → Claim (out_of_room kind counted w) n s before
    -- the machine exits where the run ends
    pub exits : (blocks : Extents) (status : ℕ) (w : World) (n : ℕ) (s : State) (before : List MachineEvent) → step ground.segments s ≡ Ends (Exits status)
        → s.output ≡ output_of w.trace → s.input ≡ w.input → IsMade ground p blocks w.trace before → Claim (ends status w) n s before
    pub going : (m : Moment) (q : Point) → Ready ground p m q → Claim (goes_on m.w) 0 (state q) q.before

  -- wherever the machine stands so, the claim on what comes holds
  abbrev pub Follows : Claims → Next → Type 0
  Follows Claim next = (m : Moment) (q : Point) → Ready ground p m q → Here ground p q.pc (steps_code p.places m.g m.l m.more)
      → Claim (next m.callers m.g m.more m.frame m.w) m.w.turns (state q) q.before

  -- what is claimed of a run behind the entry of a function may be proved where the stack has room for its frame below the one that is last
  abbrev pub CallsHaveRoom : Claims → Next → Type 0
  CallsHaveRoom Claim next = (m : Moment) (q : Point) → Ready ground p m q → (k : ℕ) (g : RoutineData) (l : Layout) → IsLaid ground p k g l
      → (place : Place) (callers : List Caller) (all : List Value) (w : World) → w.trace ≡ entered k ∷ m.w.trace → (n : ℕ) (s : State) (before : List MachineEvent)
      → (stack_place + l.size ≤ m.sp → Claim (body p.types p.code next place callers g g.code all w) n s before)
      → Claim (body p.types p.code next place callers g g.code all w) n s before

  -- where the run goes on behind an allocation, a claim may suppose that what it takes is within the heap
  abbrev pub AllocationsHaveRoom : Claims → Next → Type 0
  AllocationsHaveRoom Claim next = (callers : List Caller) (g : RoutineData) (more : List Step) (f : Frame) (w : World) (block : ℕ) (elements : Option (ℕ × ℕ))
      (size : ℕ) (trace : List Event) → w.trace ≡ allocated block elements size ∷ trace → (n : ℕ) (s : State) (before : List MachineEvent)
      → (((unused took : ℕ) → unused ≤ heap_start + heap_weight trace → took ≤ 16 * size + 256 → unused + took ≤ ground.room.heap_end)
      → Claim (next callers g more f w) n s before) → Claim (next callers g more f w) n s before

  -- ---- what is claimed

  module _ (IsLight : End → Type 0) where
    -- after k steps the machine stands so, and its events are those of the trace
    pub record Comes (standing : Standing) (w : World) (s : State) (before : List MachineEvent) (k : ℕ) : Type 0 where
      pub run_is : run ground.segments k s ≡ shows standing (output_of w.trace) w.input
      pub blocks : Extents
      pub made : IsMade ground p blocks w.trace (later (events ground.segments k s) before)

    -- of light runs alone: the machine exits, or it runs on for as many steps as turns are left, or more
    abbrev pub Claim : End → ℕ → State → List MachineEvent → Type 0
    Claim (ends status w) n s before = IsLight (ends status w) → (k : ℕ) × Comes (Exits status) w s before k
    Claim (goes_on w) n s before = IsLight (goes_on w) → (k : ℕ) × (n ≤ k) × Comes Running w s before k
    Claim (undefined kind place w) n s before = Unit {0}
    Claim (out_of_room kind counted w) n s before = Unit {0}
