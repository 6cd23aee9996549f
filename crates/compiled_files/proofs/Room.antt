-- Where a run fits, a function that is entered has room for its frame in the stack, and an allocation has room in the heap. So what is claimed of runs that
-- fit may be proved where there is room.
use Rattle.std.proofs.Common.{◌≡◌, ℕ, ◌+◌, ◌*◌, ◌^◌, ◌≤◌, List, [], ◌∷◌, Option, Some, None, refl, sym, ap, ◌∙◌, subst, arith}
use Rattle.std.specs.Prelude.{drop, slice_get}
use Rattle.block_memory.specs.RunWorlds.Events as E
use Rattle.block_memory.specs.RunWorlds.Events.{Event, entered, allocated, heap_weight}
use Rattle.block_memory.specs.RunWorlds.Worlds.{World, End, ends, goes_on, undefined, out_of_room, world_of}
use Rattle.c_typed.specs.Programs.{ProgramData}
use Rattle.rv_code.specs.Code.{stack_place}
use Rattle.rv_code.specs.Frames.{frame_size}
use Rattle.rv_code.specs.declared.layout.Layout.{Layout}
use Rattle.rv_emit.specs.Claims.{AllocationsHaveRoom, CallsHaveRoom, Claim as Claimed, Claims}
use Rattle.rv_emit.specs.Grounds.{Ground}
use Rattle.rv_emit.specs.Maps.{Extents, Room}
use Rattle.rv_emit.specs.Relation as Relation
use Rattle.rv_emit.specs.Relation.{Callers, IsLaid, Moment, Point, Ready}
use Rattle.rv_isa.specs.Events.{MachineEvent, heap_start}
use Rattle.rv_isa.specs.Memory as M
use Rattle.rv_isa.specs.Step.{State}
use Rattle.tac_ir.specs.Code.{Code, RoutineData}
use Rattle.tac_ir.specs.Running.{Caller, body, go, no_place}
use Rattle.compiled_files.specs.CodeRuns.Active.{active, frames}
use Rattle.compiled_files.specs.CodeRuns.Growth.{Grew, Onward}
use Rattle.compiled_files.specs.CodeRuns.Laws.{EarlierFits, RunsAdd, StepsAdd}
use Rattle.compiled_files.specs.CodeRuns.Room.{AllocationHasRoom, CallHasRoom, Fits}
use Rattle.compiled_files.specs.Placing.{placed, room_of}

-- the frame of each function, by its number
abbrev pub frame_if_any : Option RoutineData → ℕ
frame_if_any None = 0
frame_if_any (Some g) = frame_size g

abbrev pub frame_in : Code → (k : ℕ) → ℕ
frame_in c k = frame_if_any (slice_get c.routines k)

-- active functions are the same, by either definition
same_active : (trace : List Event) → Relation.active trace ≡ active trace
same_active [] = refl
same_active (E.entered f ∷ trace) = ap (λ (all : List ℕ). f ∷ all) (same_active trace)
same_active (E.left ∷ trace) = ap (drop 1) (same_active trace)
same_active (E.put byte ∷ trace) = same_active trace
same_active (E.got byte ∷ trace) = same_active trace
same_active (E.allocated b e n ∷ trace) = same_active trace
same_active (E.freed b ∷ trace) = same_active trace
same_active (E.loaded b o n ∷ trace) = same_active trace
same_active (E.stored b o n ∷ trace) = same_active trace
same_active (E.reached b o ∷ trace) = same_active trace
same_active (E.began f l ∷ trace) = same_active trace

module _ (p : ProgramData) (c : Code) (heap stack : ℕ) (ground : Ground) (room : ground.room ≡ room_of p c heap stack) where
  -- an end whose run fits
  abbrev pub DoesFit : End → Type 0
  DoesFit e = Fits (frame_in c) heap stack (world_of e).trace

  abbrev pub Claim : Claims
  Claim = Claimed ground (placed p c) DoesFit

  -- what follows from an end that is light may be supposed
  supposed : (Fact : Type 0) (e : End) (n : ℕ) (s : State) (before : List MachineEvent) → (DoesFit e → Fact) → (Fact → Claim e n s before) → Claim e n s before
  supposed Fact (ends status w) n s before fact claim = λ light. claim (fact light) light
  supposed Fact (goes_on w) n s before fact claim = λ light. claim (fact light) light
  supposed Fact (undefined kind place w) n s before fact claim = tt
  supposed Fact (out_of_room kind counted w) n s before fact claim = tt

  frame_is : (k : ℕ) (g : RoutineData) (l : Layout) → IsLaid ground (placed p c) k g l → frame_in c k ≡ l.size
  frame_is k g l laid = ap frame_if_any laid.is ∙ sym laid.size

  -- the frames of calls that wait reach up to the end of the stack
  frames_reach : (blocks : Extents) (owner : ℕ → Option ℕ) (memory : M.Memory) (numbers : List ℕ) (callers : List Caller) (sp back : ℕ)
      → Callers ground (placed p c) blocks owner memory numbers callers sp back → sp + frames (frame_in c) numbers ≡ ground.room.stack_end
  frames_reach blocks owner memory [] [] sp back h = (let e = h.0 in omega (arith, e))
  frames_reach blocks owner memory [] (one ∷ more) sp back h = absurd h
  frames_reach blocks owner memory (k ∷ numbers) [] sp back h = absurd h
  frames_reach blocks owner memory (k ∷ numbers) (one ∷ more) sp back h =
      let l = h.0 in
      let rest = frames_reach blocks owner memory numbers more (sp + l.size) (M.word_at memory sp) h.7 in
      let size = frame_is k one.routine l h.1.laid in
      omega (arith, rest, size)

  stack_is : ground.room.stack_end ≡ stack_place + stack * 2 ^ 20
  stack_is = ap (λ (r : Room). r.stack_end) room

  heap_is : ground.room.heap_end ≡ heap_start + heap * 2 ^ 20
  heap_is = ap (λ (r : Room). r.heap_end) room

  module _ (earlier : EarlierFits) (adds : RunsAdd) (steps_add : StepsAdd) where
    -- where the run of a body fits, the function that was entered has had room
    body_room : CallHasRoom → (pointer k : ℕ) (trace : List Event) → pointer + frames (frame_in c) (active trace) ≡ ground.room.stack_end
        → (w v : World) → w.trace ≡ entered k ∷ trace → Onward w v → Fits (frame_in c) heap stack v.trace → stack_place + frame_in c k ≤ pointer
    body_room has pointer k trace sum w v is onward fits =
        has (frame_in c) heap stack k trace v.trace (subst (λ (t : List Event). Grew t v.trace) is onward.trace) fits stack_place pointer 0 (omega arith)
        (omega (arith, sum, stack_is))

    pub calls_have_room : CallHasRoom → (n : ℕ) → CallsHaveRoom ground (placed p c) Claim (go p.types c n)
    calls_have_room has n m q ready k g l laid place callers all w is steps s before claim =
        let next = go p.types c n in
        let e = body p.types c next place callers g g.code all w in
        let onward = (steps_add p.types c next (adds p.types c n)).bodies place callers g g.code all w in
        let sum = frames_reach m.blocks m.owner q.memory m.numbers m.callers (m.sp + m.l.size) (M.word_at q.memory m.sp) ready.callers in
        let own = frame_is m.number m.g m.l ready.frame.laid in
        let those = sym (same_active m.w.trace) ∙ ready.runs in
        let whole : m.sp + frames (frame_in c) (active m.w.trace) ≡ ground.room.stack_end =
        subst (λ (t : List ℕ). m.sp + frames (frame_in c) t ≡ ground.room.stack_end) (sym those) (omega (arith, sum, own)) in
        let size = frame_is k g l laid in
        supposed (stack_place + l.size ≤ m.sp) e steps s before
        (λ fits. subst (λ (z : ℕ). stack_place + z ≤ m.sp) size (body_room has m.sp k m.w.trace whole w (world_of e) is onward fits)) claim

    -- and so has `main`, above whose frame there is none
    pub main_has_room : CallHasRoom → (n : ℕ) (g : RoutineData) (l : Layout) → IsLaid ground (placed p c) c.main g l → (w : World)
        → w.trace ≡ entered c.main ∷ [] → (steps : ℕ) (s : State) (before : List MachineEvent)
        → (stack_place + l.size ≤ ground.room.stack_end → Claim (body p.types c (go p.types c n) no_place [] g g.code [] w) steps s before)
        → Claim (body p.types c (go p.types c n) no_place [] g g.code [] w) steps s before
    main_has_room has n g l laid w is steps s before claim =
        let next = go p.types c n in
        let e = body p.types c next no_place [] g g.code [] w in
        let onward = (steps_add p.types c next (adds p.types c n)).bodies no_place [] g g.code [] w in
        let size = frame_is c.main g l laid in
        supposed (stack_place + l.size ≤ ground.room.stack_end) e steps s before
        (λ fits. subst (λ (z : ℕ). stack_place + z ≤ ground.room.stack_end) size
        (body_room has ground.room.stack_end c.main [] (omega arith) w (world_of e) is onward fits)) claim

    pub allocations_have_room : AllocationHasRoom → (n : ℕ) → AllocationsHaveRoom ground (placed p c) Claim (go p.types c n)
    allocations_have_room has n callers g more f w block elements size trace is steps s before claim =
        let e = go p.types c n callers g more f w in
        let onward = adds p.types c n callers g more f w in
        supposed ((unused took : ℕ) → unused ≤ heap_start + heap_weight trace → took ≤ 16 * size + 256 → unused + took ≤ ground.room.heap_end) e steps s before
        (λ fits unused took low few.
        let r = has (frame_in c) heap stack block elements size trace (world_of e).trace
        (subst (λ (t : List Event). Grew t (world_of e).trace) is onward.trace) fits heap_start unused took low few in
        let room = r.has_room in omega (arith, room, heap_is)) claim
