-- When the machine stands where a run of three-address code stands.
use Rattle.std.specs.Prelude.{◌≡◌, ℕ, ◌+◌, ◌%◌, ◌<◌, ◌≤◌, false, true, List, [], ◌∷◌, ◌++◌, length, Option, Some, None, slice_get, slice_index, drop, All}
use Rattle.std.specs.Prelude.{Contains, pos, ◌≢◌, ◌^◌}
use Rattle.c_types.specs.Types.{CType}
use Rattle.block_memory.specs.RunWorlds.Events as E
use Rattle.block_memory.specs.RunWorlds.Events.{Event, output_of, heap_weight}
use Rattle.block_memory.specs.RunWorlds.Worlds.{World}
use Rattle.block_memory.specs.RunWorlds.Scalars.{width_of}
use Rattle.c_meaning.specs.Frames.{Frame}
use Rattle.c_meaning.specs.declared.frame.Slot.{Slot}
use Rattle.c_meaning.specs.declared.frame.Slot.TheVariants.{ByName as by_name, InBlock as in_block}
use Rattle.rv_isa.specs.declared.instruction.Inst.{Inst}
use Rattle.rv_isa.specs.declared.instruction.Inst.TheVariants.{Addi, Ecall}
use Rattle.rv_isa.specs.Memory as M
use Rattle.rv_isa.specs.Memory.{word_at}
use Rattle.rv_isa.specs.Events.{MachineEvent, Request, Reply, Release, Load, Store, code_address}
use Rattle.rv_runtime.specs.Steps.States.{code_end, Code as Stand, Keeps}
use Rattle.tac_ir.specs.Code.{Code, RoutineData, led}
use Rattle.tac_ir.specs.Jumps.{LeadsInside}
use Rattle.tac_ir.specs.Running.{Caller}
use Rattle.tac_ir.specs.declared.step.Parameter.{Parameter}
use Rattle.tac_ir.specs.declared.step.Step.{Step}
use Rattle.tac_ir.specs.declared.step.Target.{Target}
use Rattle.rv_code.specs.Code.{is_block, give_code, steps_code, function_code, place_led, stack_place}
use Rattle.rv_code.specs.Frames.{block_places, block_sizes, frame_size, slot_at, slots}
use Rattle.rv_code.specs.declared.layout.Layout.{Layout}
use Rattle.rv_code.specs.declared.layout.Places.{Places}
use Rattle.rv_runtime.specs.Bytes.{Holds}
use Rattle.rv_runtime.specs.Routines.{data_place}
use Rattle.rv_emit.specs.Maps.{Extent, Extents, HasBody, Means, Flat}
use Rattle.rv_emit.specs.Grounds.{Ground}
use Rattle.rv_emit.specs.Fitting.{CodeFits}

-- ---- code that stands

-- a place of compiled code
pub record IsPlace (a : ℕ) : Type 0 where
  pub code : code_address ≤ a
  pub whole : a % 4 ≡ 0
  pub small : a < code_end

-- what of a routine holds of any layout: each parameter is a local of its sort, with a word, or a block of its size
pub record ParameterFits (g : RoutineData) (x : ℕ) (r : Parameter) : Type 0 where
  pub sort : slice_get g.locals x ≡ Some r.block
  pub size : r.block ≡ true → (r.size ≡ slice_index (block_sizes g) x) × (width_of r.access ≤ r.size)

-- a program, and what is known of where it stands
pub record Program : Type 0 where
  pub types : List CType
  pub code : Code
  pub places : Places
  -- behind the call of `main`
  pub end_place : ℕ
  -- the texts of initializers: where each lies, and its bytes
  pub texts : List (ℕ × List ℕ)

-- ---- where a run and the machine stand

-- where a run stands: the places and owners of its blocks, the functions that run by their numbers, the one that runs now with the steps that are left,
-- and where its frame begins
pub record Moment : Type 0 where
  pub blocks : Extents
  pub owner : ℕ → Option ℕ
  pub numbers : List ℕ
  pub callers : List Caller
  pub number : ℕ
  pub g : RoutineData
  pub l : Layout
  pub more : List Step
  pub frame : Frame
  pub sp : ℕ
  pub w : World

-- where the machine stands, with its events so far, the last first
pub record Point : Type 0 where
  pub f : ℕ → ℕ
  pub pc : ℕ
  pub memory : M.Memory
  pub input : List ℕ
  pub output : List ℕ
  pub before : List MachineEvent

-- the functions that were entered and not left, the last first
abbrev pub active : List Event → List ℕ
active [] = []
active (E.entered f ∷ before) = f ∷ active before
active (E.left ∷ before) = drop 1 (active before)
active (event ∷ before) = active before

module _ (ground : Ground) (p : Program) where
  abbrev pub Here : (pc : ℕ) → List Inst → Type 0
  Here pc is = Stand ground.segments ground.text pc is

  -- in front of what is left of a function's code
  pub record Lands (g : RoutineData) (l : Layout) (pc : ℕ) (rest : List Step) : Type 0 where
    pub place : IsPlace pc
    pub stands : Here pc (steps_code p.places g l rest)
    pub fits : CodeFits p.types p.code p.places g rest

  -- a function whose code stands by a layout
  pub record IsLaid (number : ℕ) (g : RoutineData) (l : Layout) : Type 0 where
    pub is : slice_get p.code.routines number ≡ Some g
    pub entry : IsPlace (slice_index p.places.entries number)
    pub stands : Here (slice_index p.places.entries number) (function_code p.places g l)
    pub fits : CodeFits p.types p.code p.places g g.code
    pub lands : (to : Target) → LeadsInside g to → Lands g l (place_led g l to) (led g to)
    pub blocks : l.blocks ≡ block_places g
    pub size : l.size ≡ frame_size g
    pub parameters : (x : ℕ) (r : Parameter) → slice_get g.parameters x ≡ Some r → ParameterFits g x r
    pub texts : (n : ℕ) (bytes : List ℕ) → slice_get g.texts n ≡ Some bytes → Contains p.texts (slice_index l.texts n, bytes)

  -- the code of the program: each function that has a body stands, no two of them in one place, and behind the call of `main` the program ends
  pub record IsBuilt : Type 0 where
    pub laid : (f : ℕ) (g : RoutineData) → slice_get p.code.routines f ≡ Some g → g.code ≢ [] → (l : Layout) × IsLaid f g l
    pub apart : (f h : ℕ) → HasBody p.code f → HasBody p.code h → slice_index p.places.entries f ≡ slice_index p.places.entries h → f ≡ h
    pub end : IsPlace p.end_place
    pub exits : Here p.end_place (Addi 17 0 (pos 93) ∷ Ecall ∷ [])

  -- ---- frames

  module _ (blocks : Extents) (owner : ℕ → Option ℕ) (memory : M.Memory) where
    -- an address where a local's block may stand has that owner, or none
    abbrev pub OwnedBy : (at size : ℕ) → Option ℕ → Type 0
    OwnedBy at size block = (a b : ℕ) → at ≤ a → a < at + size → owner a ≡ Some b → block ≡ Some b

    -- what the frame from sp on has for a slot: a value in the slot's word, where one is known, or the block of a local, where it has begun
    abbrev pub SlotShows : (g : RoutineData) (l : Layout) (sp t : ℕ) → Slot → Type 0
    SlotShows g l sp t (by_name None) = is_block g t ≡ false
    SlotShows g l sp t (by_name (Some v)) = (is_block g t ≡ false) × Means p.code p.places blocks v (word_at memory (sp + slot_at t))
    SlotShows g l sp t (in_block None) = (is_block g t ≡ true) × OwnedBy (sp + slice_index l.blocks t) (slice_index (block_sizes g) t) None
    SlotShows g l sp t (in_block (Some b)) = (is_block g t ≡ true) × OwnedBy (sp + slice_index l.blocks t) (slice_index (block_sizes g) t) (Some b)
        × (slice_get blocks b ≡ Some (record { at = sp + slice_index l.blocks t; size = slice_index (block_sizes g) t }))

    -- the frame of a call that is not over, from the stack pointer on
    pub record Framed (number : ℕ) (g : RoutineData) (l : Layout) (f : Frame) (sp : ℕ) : Type 0 where
      pub laid : IsLaid number g l
      pub locals : length g.locals ≤ length f
      pub count : length f ≤ slots g
      pub shows : (t : ℕ) (s : Slot) → slice_get f t ≡ Some s → SlotShows g l sp t s
      pub whole : sp % 16 ≡ 0
      pub low : stack_place ≤ sp
      pub high : sp + l.size ≤ ground.room.stack_end
      -- no block has the return place or a slot
      pub private : (a : ℕ) → sp ≤ a → a < sp + slot_at (slots g) → owner a ≡ None
      -- and what is owned in the frame is a local's that has begun
      pub owns : (a b : ℕ) → sp ≤ a → a < sp + l.size → owner a ≡ Some b → (x : ℕ) × (slice_get f x ≡ Some (in_block (Some b)))

    -- the calls that wait: the functions' numbers, where the frame of the last of them begins, and where control goes back
    abbrev pub Callers : (numbers : List ℕ) → List Caller → (sp back : ℕ) → Type 0
    Callers [] [] sp back = (sp ≡ ground.room.stack_end) × (back ≡ p.end_place)
    Callers [] (one ∷ more) sp back = ⊥
    Callers (number ∷ numbers) [] sp back = ⊥
    Callers (number ∷ numbers) (one ∷ more) sp back = (l : Layout)
        × Framed number one.routine l one.frame sp
        × IsPlace back
        × Here back (give_code one.to 10 ++ steps_code p.places one.routine l one.more)
        × CodeFits p.types p.code p.places one.routine one.more
        × (one.to < slots one.routine)
        × (is_block one.routine one.to ≡ false)
        × Callers numbers more (sp + l.size) (word_at memory sp)

  -- ---- events: those of the machine that a trace stands for, both with the last one first

  abbrev pub IsMade : Extents → List Event → List MachineEvent → Type 0
  IsMade blocks [] made = made ≡ []
  IsMade blocks (E.allocated b elements size ∷ before) made = (e : Extent) × (rest : List MachineEvent) × (slice_get blocks b ≡ Some e)
      × (made ≡ Reply e.at ∷ Request size ∷ rest) × IsMade blocks before rest
  IsMade blocks (E.freed b ∷ before) made = (e : Extent) × (rest : List MachineEvent) × (slice_get blocks b ≡ Some e) × (made ≡ Release e.at ∷ rest)
      × IsMade blocks before rest
  IsMade blocks (E.loaded b at width ∷ before) made = (e : Extent) × (rest : List MachineEvent) × (slice_get blocks b ≡ Some e)
      × (made ≡ Load (e.at + at) width ∷ rest) × IsMade blocks before rest
  IsMade blocks (E.stored b at width ∷ before) made = (e : Extent) × (rest : List MachineEvent) × (slice_get blocks b ≡ Some e)
      × (made ≡ Store (e.at + at) width ∷ rest) × IsMade blocks before rest
  IsMade blocks (event ∷ before) made = IsMade blocks before made

  -- ---- the world

  -- memory, the heap that is not used, and what was read, written and told
  pub record Worldly (blocks : Extents) (owner : ℕ → Option ℕ) (w : World) (memory : M.Memory) (input output : List ℕ) (before : List MachineEvent) : Type 0 where
    pub keeps : Keeps ground.text memory
    pub flat : Flat p.code p.places ground.room blocks owner w.memory memory
    -- the first blocks are the program's objects
    pub objects : (n : ℕ) → n < length p.places.objects → (e : Extent) × (slice_get blocks n ≡ Some e) × (e.at ≡ slice_index p.places.objects n)
    -- the heap is not used from the place on that the runtime keeps, and no block has the runtime's data
    pub unused : (a : ℕ) → word_at memory data_place ≤ a → a < ground.room.heap_end → owner a ≡ None
    -- what is not used is zero
    pub zero : (a : ℕ) → word_at memory data_place ≤ a → a < ground.room.heap_end → memory a ≡ 0
    pub heap_low : 0x20000000 ≤ word_at memory data_place
    pub heap_high : word_at memory data_place ≤ ground.room.heap_end
    pub heap_whole : word_at memory data_place % 16 ≡ 0
    pub heap_used : word_at memory data_place ≤ 0x20000000 + heap_weight w.trace
    pub heap_limit : word_at memory (data_place + 4) ≡ ground.room.heap_end
    pub runtime : (a : ℕ) → data_place ≤ a → a < data_place + 256 → owner a ≡ None
    -- the bytes of a text stand among the data, and no block has them
    pub texts : (a : ℕ) (bytes : List ℕ) → Contains p.texts (a, bytes)
        → Holds memory a bytes × (0x08000100 ≤ a) × (a + length bytes ≤ ground.room.data_end) × ((i : ℕ) → i < length bytes → owner (a + i) ≡ None)
    pub input_is : input ≡ w.input
    pub input_bytes : All (λ b. b < 2 ^ 8) input
    pub output_is : output ≡ output_of w.trace
    pub made : IsMade blocks w.trace before

  -- ---- the whole

  pub record Ready (m : Moment) (q : Point) : Type 0 where
    pub nil : q.f 0 ≡ 0
    pub stack : q.f 2 ≡ m.sp
    pub code : code_address ≤ q.pc
    pub whole : q.pc % 4 ≡ 0
    pub fits : CodeFits p.types p.code p.places m.g m.more
    pub world : Worldly m.blocks m.owner m.w q.memory q.input q.output q.before
    pub frame : Framed m.blocks m.owner q.memory m.number m.g m.l m.frame m.sp
    pub callers : Callers m.blocks m.owner q.memory m.numbers m.callers (m.sp + m.l.size) (word_at q.memory m.sp)
    -- the stack below is not used
    pub below : (a : ℕ) → stack_place ≤ a → a < m.sp → m.owner a ≡ None
    pub runs : active m.w.trace ≡ m.number ∷ m.numbers
