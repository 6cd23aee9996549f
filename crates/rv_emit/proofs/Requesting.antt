-- Allocations: a call of the routine, whose answer is the address of the new block.
use Rattle.std.proofs.Common.{◌≡◌, ℕ, zero, suc, ◌+◌, ◌*◌, ◌%◌, ◌^◌, ◌<◌, ◌≤◌, inl, Bool, true, false, cond, ltb, ltb-true, ◌&&◌, List, [], ◌∷◌, ◌++◌, length, Option, Some, Ok}
use Rattle.std.proofs.Common.{refl, ap, sym, ◌∙◌, subst, arith, append_assoc}
use Rattle.lay_base.specs.declared.faults.RoomKind.TheVariants.{Live}
use Rattle.lay_base.specs.declared.faults.UndefinedKind.TheVariants as K
use Rattle.lay_base.specs.declared.place.Place.{Place}
use Rattle.memory_words.specs.declared.cell_words.pointer.Ptr.TheVariants as P
use Rattle.block_memory.specs.RunWorlds.Doing.{Doing, is_undefined}
use Rattle.block_memory.specs.RunWorlds.Library as Library
use Rattle.block_memory.specs.RunWorlds.Scalars.{as_word}
use Rattle.block_memory.specs.RunWorlds.Worlds.{World, End, out_of_room, greatest_live, live_bytes}
use Rattle.block_memory.specs.declared.run_worlds.value.Value.{Value}
use Rattle.block_memory.specs.declared.run_worlds.value.Value.TheVariants.{Word as word, Pointer as pointer}
use Rattle.c_meaning.specs.Frames.{Frame}
use Rattle.c_meaning.specs.declared.frame.Slot.TheVariants.{ByName as by_name}
use Rattle.rv_isa.specs.declared.instruction.Inst.TheVariants.{Mul}
use Rattle.rv_isa.specs.Arithmetic.{product}
use Rattle.rv_isa.specs.Memory.{with_word}
use Rattle.rv_isa.specs.Events.{MachineEvent, Request, Reply, entered, malloc_entry, calloc_entry}
use Rattle.rv_isa.specs.Step.{State}
use Rattle.rv_runtime.specs.Steps.States.{at, put}
use Rattle.rv_runtime.proofs.Steps.Operators.{by_binary, is_mul}
use Rattle.rv_runtime.specs.Effects.{Heap}
use Rattle.rv_runtime.specs.Laws.{ComesBack, Entered}
use Rattle.rv_runtime.specs.Routines.{data_place, head, taken}
use Rattle.rv_runtime.proofs.Rounded.{taken_weighs}
use Rattle.rv_runtime.proofs.Working.{routines_work}
use Rattle.rv_code.specs.Code.{allocate_code, get_code, give_code, steps_code}
use Rattle.rv_code.specs.Words.{call_code, number_code}
use Rattle.tac_ir.specs.Running.{Next, with_temp}
use Rattle.tac_ir.specs.declared.step.Operand.{Operand}
use Rattle.tac_ir.specs.declared.step.Step.TheVariants as S
use Rattle.rv_emit.specs.Maps.{Means}
use Rattle.rv_emit.specs.Grounds.{Ground}
use Rattle.rv_emit.specs.Relation.{Program, Moment, Point, Ready, Here, IsBuilt}
use Rattle.rv_emit.specs.Claims.{AllocationsHaveRoom, AreClaims, Claims, Follows, state}
use Rattle.rv_emit.proofs.Allocating.{allocated_moment, allocated_point, allocated_ready, allocated_world, new, unused}
use Rattle.rv_emit.proofs.Calling.{by_routine, leads_back}
use Rattle.rv_emit.proofs.Giving.{elsewhere}
use Rattle.rv_emit.proofs.Lists.{get_last}
use Rattle.rv_emit.proofs.Moves.{by_number, code_back, code_front, parts}
use Rattle.rv_emit.proofs.Plain.{Takes, Works, aim, takes}
use Rattle.rv_emit.proofs.Values.{by_get, by_give, by_read, by_tested, moved, with_register}

module _ (ground : Ground) (p : Program) (built : IsBuilt ground p) (Claim : Claims) (claims : AreClaims ground p Claim) (next : Next)
    (follows : Follows ground p Claim next) (has_room : AllocationsHaveRoom ground p Claim next) (m : Moment) where
  -- the pointer that it gives
  abbrev pub block : Value
  block = pointer (P.Block (length m.w.memory) 0)

  by_room : (t : Bool) (counted : ℕ) (e : End) (s : State) (before : List MachineEvent) → Claim e m.w.turns s before
      → Claim (cond t (out_of_room Live counted m.w) e) m.w.turns s before
  by_room true counted e s before c = claims.out_of_room Live counted m.w m.w.turns s before
  by_room false counted e s before c = c

  -- ---- the call of a routine that allocates so many bytes

  module _ (q : Point) (ready : Ready ground p m q) (elements : Option (ℕ × ℕ)) (n : ℕ) where
    abbrev back : ℕ
    back = q.pc + 4 + 4

    abbrev called : ℕ → ℕ
    called = put q.f 1 back

    abbrev start : ℕ
    start = unused ground p m q ready elements n

    -- what the routine does, where there is room
    abbrev Gives : (entry : ℕ) → Type 0
    Gives entry = Entered ground.segments ground.text q.memory called back → Heap ground.segments q.memory start ground.room.heap_end
        → start + head + taken n ≤ ground.room.heap_end → n < 2 ^ 32
        → ComesBack ground.segments q.memory (with_word q.memory data_place (start + head + taken n)) q.input q.output called entry back (start + head)
        (Reply (start + head) ∷ [])

    heap_is : Heap ground.segments q.memory start ground.room.heap_end
    heap_is = record {
      begins = refl;
      limit = ready.world.heap_limit;
      whole = ready.world.heap_whole;
      low = ready.world.heap_low;
      small = omega (arith, ground.heap_end);
      reads = ground.read data_place 8 (inl (omega arith, omega (arith, ground.data_low)));
      writes = ground.write data_place 4 (inl (omega arith, omega (arith, ground.data_low)));
    }

    by_allocation : (zeroed : Bool) (entry t : ℕ) → entry % 4 ≡ 0 → entry < 2 ^ 32 → Takes ground p built Claim claims next follows m t
        → entered (at called entry q.memory q.input q.output) ≡ Request n ∷ [] → Gives entry
        → Here ground p q.pc (call_code entry ++ (give_code t 10 ++ steps_code p.places m.g m.l m.more))
        → Claim (next m.callers m.g m.more (with_temp t (by_name (Some block)) m.frame) (allocated_world ground p m q ready elements n zeroed)) m.w.turns (state q) q.before
    by_allocation zeroed entry t whole small takes_it told gives code =
        let w = allocated_world ground p m q ready elements n zeroed in
        let e = next m.callers m.g m.more (with_temp t (by_name (Some block)) m.frame) w in
        let call = call_code entry in
        let rest = give_code t 10 ++ steps_code p.places m.g m.l m.more in
        let goal = aim ground p built Claim claims e m.w.turns q in
        let q' : Point = record q { before = Request n ∷ q.before } in
        let goal' = aim ground p built Claim claims e m.w.turns q' in
        has_room m.callers m.g m.more (with_temp t (by_name (Some block)) m.frame) w (length m.w.memory) elements n m.w.trace refl m.w.turns (state q) q.before
        λ fits.
        let within = fits start (taken n + head) ready.world.heap_used (taken_weighs n) in
        let room : start + head + taken n ≤ ground.room.heap_end = omega (arith, within) in
        let total = fits start (16 * n + 256) ready.world.heap_used (omega arith) in
        let low : n < 2 ^ 32 = omega (arith, total, ground.heap_end) in
        let comes = gives (record {
          runtime = ground.runtime;
          keeps = ready.world.keeps;
          returns = record { nil = ready.nil; link = refl; whole = omega (arith, ready.whole); code = omega (arith, ready.code); small = omega (arith, code.1.0.below) };
        }) heap_is room low in
        let m1 = allocated_moment ground p m q ready elements n zeroed in
        let q1 = allocated_point ground p m q ready elements n in
        let q2 : Point = record q1 { f = comes.registers; pc = back } in
        let done = allocated_ready ground p m q ready elements n room zeroed in
        by_routine ground goal q.f q.pc q.memory entry (Request n ∷ []) ready.world.keeps ready.code (code_front ground q.pc call rest code) whole small told
        (leads_back ground goal' (at called entry q.memory q.input q.output) (at comes.registers back (new ground p m q ready elements n) q.input q.output)
        (Reply (start + head) ∷ []) comes.leads
        (by_give ground p built Claim claims next follows m1 q2
        (elsewhere ground p m1 q1 done comes.registers back (comes.leaves 0 (inl (omega arith))) (comes.leaves 2 (inl (omega arith)))
        (omega (arith, ready.code)) (omega (arith, ready.whole)))
        10 t (start + head) (Some block) (omega arith) (λ d. omega arith) comes.answers (λ v k. omega (arith, room, ground.heap_end)) takes_it.slot takes_it.opened
        (λ v k. let d : block ≡ v = cc in subst (λ z. Means p.code p.places m1.blocks z (start + head)) d (
          record { at = start + head; size = n },
          get_last m.blocks (length m.w.memory) (record { at = start + head; size = n }) (sym ready.world.flat.long),
          omega arith,
          omega arith,
        ))
        code.1.1))

    pub by_malloc : (zeroed : Bool) (t : ℕ) → q.f 10 ≡ n → Takes ground p built Claim claims next follows m t
        → Here ground p q.pc (call_code malloc_entry ++ (give_code t 10 ++ steps_code p.places m.g m.l m.more))
        → Claim (next m.callers m.g m.more (with_temp t (by_name (Some block)) m.frame) (allocated_world ground p m q ready elements n zeroed)) m.w.turns (state q) q.before
    by_malloc zeroed t ten takes_it code =
        by_allocation zeroed malloc_entry t refl (omega arith) takes_it (ap (λ (z : ℕ). Request z ∷ []) ten)
        (λ entered heap room low. subst (λ (k : ℕ). start + head + taken k ≤ ground.room.heap_end
        → ComesBack ground.segments q.memory (with_word q.memory data_place (start + head + taken k)) q.input q.output called malloc_entry back (start + head)
        (Reply (start + head) ∷ [])) ten
        ((routines_work ground.segments ground.text q.memory q.input q.output called back entered).malloc start ground.room.heap_end heap) room)
        code

    pub by_calloc : (zeroed : Bool) (t : ℕ) → q.f 10 * q.f 11 ≡ n → Takes ground p built Claim claims next follows m t
        → Here ground p q.pc (call_code calloc_entry ++ (give_code t 10 ++ steps_code p.places m.g m.l m.more))
        → Claim (next m.callers m.g m.more (with_temp t (by_name (Some block)) m.frame) (allocated_world ground p m q ready elements n zeroed)) m.w.turns (state q) q.before
    by_calloc zeroed t ten takes_it code =
        by_allocation zeroed calloc_entry t refl (omega arith) takes_it (ap (λ (z : ℕ). Request z ∷ []) ten)
        (λ entered heap room low. subst (λ (k : ℕ). k < 2 ^ 32 → start + head + taken k ≤ ground.room.heap_end
        → ComesBack ground.segments q.memory (with_word q.memory data_place (start + head + taken k)) q.input q.output called calloc_entry back (start + head)
        (Reply (start + head) ∷ [])) ten
        ((routines_work ground.segments ground.text q.memory q.input q.output called back entered).calloc start ground.room.heap_end heap) low room)
        code

    -- the run makes the block, where there is room in it
    pub by_make : (zeroed : Bool) (t : ℕ) (s : State) (before : List MachineEvent)
        → Claim (next m.callers m.g m.more (with_temp t (by_name (Some block)) m.frame) (allocated_world ground p m q ready elements n zeroed)) m.w.turns s before
        → Claim (Library.allocate elements n zeroed (λ v f w. next m.callers m.g m.more (with_temp t (by_name (Some v)) f) w) m.frame m.w) m.w.turns s before
    by_make false t s before c =
        by_room (m.w.is_limited && ltb greatest_live (live_bytes m.w.memory + n)) (live_bytes m.w.memory + n)
        (next m.callers m.g m.more (with_temp t (by_name (Some block)) m.frame) (allocated_world ground p m q ready elements n false)) s before c
    by_make true t s before c =
        by_room (m.w.is_limited && ltb greatest_live (live_bytes m.w.memory + n)) (live_bytes m.w.memory + n)
        (next m.callers m.g m.more (with_temp t (by_name (Some block)) m.frame) (allocated_world ground p m q ready elements n true)) s before c

  -- ---- records that are allocated

  by_size : (at : Place) (test : Bool) (whole : Doing Frame Value) (rest : Value → Frame → World → End) (s : State) (before : List MachineEvent)
      → (test ≡ true → Claim (whole rest m.frame m.w) m.w.turns s before)
      → Claim (cond test whole (is_undefined K.Huge at) rest m.frame m.w) m.w.turns s before
  by_size at true whole rest s before c = c refl
  by_size at false whole rest s before c = claims.undefined K.Huge at m.w m.w.turns s before

  same_product : (k size : ℕ) → k * size < 2 ^ 28 → k * (size % 2 ^ 32) ≡ k * size
  same_product zero size lt = omega arith
  same_product (suc k) size lt = (let e : size % 2 ^ 32 ≡ size = omega arith in ap (λ (z : ℕ). suc k * z) e)

  by_count : (zeroed : Bool) (q : Point) (ready : Ready ground p m q) (t r size k : ℕ) → q.f 10 ≡ k → k * size < 2 ^ 28 → Takes ground p built Claim claims next follows m t
      → Here ground p q.pc ((allocate_code size zeroed ++ give_code t 10) ++ steps_code p.places m.g m.l m.more)
      → Claim (next m.callers m.g m.more (with_temp t (by_name (Some block)) m.frame) (allocated_world ground p m q ready (Some (r, k)) (k * size) zeroed)) m.w.turns (state q)
      q.before
  by_count true q ready t r size k ten lt takes_it code =
      let e = next m.callers m.g m.more (with_temp t (by_name (Some block)) m.frame) (allocated_world ground p m q ready (Some (r, k)) (k * size) true) in
      let goal = aim ground p built Claim claims e m.w.turns q in
      let number = number_code 11 size in
      let call = call_code calloc_entry in
      let rest = steps_code p.places m.g m.l m.more in
      let tail = give_code t 10 ++ rest in
      let c1 = subst (Here ground p q.pc) (append_assoc (number ++ call) (give_code t 10) rest) code in
      let c2 = subst (Here ground p q.pc) (append_assoc number call tail) c1 in
      let q1 = with_register q 11 (size % 2 ^ 32) number in
      let ready1 = moved ground p built Claim claims m q ready e m.w.turns 11 (omega arith) (omega arith) (size % 2 ^ 32) number in
      by_number ground goal q.f q.pc q.memory ready.world.keeps ready.code 11 size (omega arith) (omega arith) ready.nil (code_front ground q.pc number (call ++ tail) c2)
      (by_calloc q1 ready1 (Some (r, k)) (k * size) true t (ap (λ (z : ℕ). z * (size % 2 ^ 32)) ten ∙ same_product k size lt) takes_it
      (code_back ground q.pc number (call ++ tail) c2))
  by_count false q ready t r size k ten lt takes_it code =
      let e = next m.callers m.g m.more (with_temp t (by_name (Some block)) m.frame) (allocated_world ground p m q ready (Some (r, k)) (k * size) false) in
      let goal = aim ground p built Claim claims e m.w.turns q in
      let number = number_code 11 size in
      let call = call_code malloc_entry in
      let rest = steps_code p.places m.g m.l m.more in
      let tail = give_code t 10 ++ rest in
      let c1 = subst (Here ground p q.pc) (append_assoc (number ++ (Mul 10 10 11 ∷ call)) (give_code t 10) rest) code in
      let c2 = subst (Here ground p q.pc) (append_assoc number (Mul 10 10 11 ∷ call) tail) c1 in
      let c3 = code_back ground q.pc number ((Mul 10 10 11 ∷ call) ++ tail) c2 in
      let q1 = with_register q 11 (size % 2 ^ 32) number in
      let ready1 = moved ground p built Claim claims m q ready e m.w.turns 11 (omega arith) (omega arith) (size % 2 ^ 32) number in
      let q2 : Point = record q1 { f = put q1.f 10 (k * size); pc = q1.pc + 4 } in
      let ready2 = elsewhere ground p m q1 ready1 (put q1.f 10 (k * size)) (q1.pc + 4) refl refl (omega (arith, ready.code)) (omega (arith, ready.whole)) in
      let value : product (q1.f 10) (q1.f 11) ≡ k * size =
      ap (λ (z : ℕ). z % 2 ^ 32) (ap (λ (z : ℕ). z * (size % 2 ^ 32)) ten ∙ same_product k size lt) ∙ within (k * size) lt in
      by_number ground goal q.f q.pc q.memory ready.world.keeps ready.code 11 size (omega arith) (omega arith) ready.nil
      (code_front ground q.pc number ((Mul 10 10 11 ∷ call) ++ tail) c2)
      (by_binary ground.segments ground.text goal.Claim goal.claim q1.f q1.pc q1.memory goal.input goal.output ready.world.keeps (omega (arith, ready.code)) goal.n
      goal.before (Mul 10 10 11) c3.0 10 10 11 (k * size) product (is_mul 10 10 11) (omega arith) (omega arith) (omega arith) value
      (by_malloc q2 ready2 (Some (r, k)) (k * size) false t refl takes_it c3.1))
    where
      within : (n : ℕ) → n < 2 ^ 28 → n % 2 ^ 32 ≡ n
      within n lt = omega arith

  pub word_is : (w : Value) (i y : ℕ) → as_word w ≡ Ok i → Means p.code p.places m.blocks w y → y ≡ i
  word_is (word n) i y e means = (let d : n ≡ i = cc in means ∙ d)
  word_is (pointer r) i y e means = absurd cc

  pub allocate_works : (q : Point) → Ready ground p m q → (t : ℕ) (at : Place) (r size : ℕ) (zeroed : Bool) (a : Operand)
      → Works ground p built Claim claims next m q (S.Allocate t at r size zeroed a)
  allocate_works q ready t at r size zeroed a code fits =
      by_read ground p built Claim claims a _ m.frame m.w m.w.turns q
      λ v reads. by_tested ground p built Claim claims (as_word v) at _ m.frame m.w m.w.turns q
      λ k is.
      let e = next m.callers m.g m.more (with_temp t (by_name (Some block)) m.frame) (allocated_world ground p m q ready (Some (r, k)) (k * size) zeroed) in
      by_size at (ltb (k * size) (2 ^ 28)) (Library.allocate (Some (r, k)) (k * size) zeroed)
      (λ v f w. next m.callers m.g m.more (with_temp t (by_name (Some v)) f) w) (state q) q.before
      λ small. by_make q ready (Some (r, k)) (k * size) zeroed t (state q) q.before
      (let get = get_code p.places m.g m.l 10 a in
      let d = parts ground q.pc get (allocate_code size zeroed ++ give_code t 10) (steps_code p.places m.g m.l m.more) code in
      by_get ground p built Claim claims m q ready e m.w.turns 10 (omega arith) (omega arith) a v reads (fits.operands 0 a (omega arith)) d.0
      λ x means low ready_x. by_count zeroed (with_register q 10 x get) ready_x t r size k (word_is v k x is means) (ltb-true _ _ small)
      (takes ground p built Claim claims next follows m t fits.slot fits.kinds.0) d.1)
