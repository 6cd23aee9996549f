-- Parameters: each comes from its word of the row into its slot, or into its block.
use Rattle.std.proofs.Common.{◌≡◌, ◌≢◌, ℕ, zero, suc, ◌+◌, ◌*◌, ◌%◌, ◌^◌, ◌<◌, ◌≤◌, inl, inr, Bool, true, false, cond, ltb, ◌&&◌, List, [], ◌∷◌, ◌++◌, length, Option, Some, None, Ok, pos}
use Rattle.std.proofs.Common.{slice_get, slice_set, slice_index, refl, ap, sym, ◌∙◌, subst, arith, append_assoc, ltb-true}
use Rattle.std.specs.Prelude.{unwrap_or, ℤ}
use Rattle.std.proofs.lemmas.Bool.{cond_both}
use Rattle.lay_base.specs.declared.faults.RoomKind.TheVariants.{Live}
use Rattle.lay_base.specs.declared.place.Place.{Place}
use Rattle.memory_words.specs.declared.cell_words.pointer.Ptr.TheVariants as P
use Rattle.block_memory.specs.Blocks.{Memory, Block, kind, ended}
use Rattle.block_memory.specs.declared.kinds.Access.{Access}
use Rattle.block_memory.specs.declared.kinds.BlockKind.TheVariants.{Local}
use Rattle.block_memory.specs.Lifetimes.{is_heap, with_block}
use Rattle.block_memory.specs.RunWorlds.Doing.{◌>>=◌, ◌>>◌, make}
use Rattle.block_memory.specs.RunWorlds.Events as E
use Rattle.block_memory.specs.RunWorlds.Scalars.{note_if, store, store_in, width_of}
use Rattle.block_memory.specs.RunWorlds.Worlds.{World, End, greatest_live, live_bytes, out_of_room}
use Rattle.block_memory.specs.declared.run_worlds.value.Value.{Value}
use Rattle.c_meaning.specs.Frames.{Frame, slot_now, with_slot}
use Rattle.c_meaning.specs.declared.frame.Slot.{Slot}
use Rattle.c_meaning.specs.declared.frame.Slot.TheVariants.{ByName as by_name, InBlock as in_block}
use Rattle.rv_isa.specs.declared.instruction.Inst.{Inst}
use Rattle.rv_isa.specs.Arithmetic.{plus}
use Rattle.rv_isa.specs.Events.{code_address, stores_at}
use Rattle.rv_isa.specs.Memory as M
use Rattle.rv_isa.specs.Memory.{are_mapped, word_at, with_word, writable}
use Rattle.rv_runtime.specs.Steps.States.{Code, Keeps, Stands, at, put}
use Rattle.rv_runtime.proofs.Steps.Operators.{by_store_of}
use Rattle.rv_runtime.proofs.Steps.Registers.{put_other}
use Rattle.rv_runtime.proofs.Steps.Words.{word_fits, word_same}
use Rattle.rv_code.specs.Code.{give_code, is_block, parameters_code, steps_code}
use Rattle.rv_code.specs.Frames.{block_places, block_sizes, frame_size, slot_at, slots}
use Rattle.rv_code.specs.Words.{fetch_code, keep_code, lower, store_by, upper}
use Rattle.tac_ir.specs.Running.{Next, begin, empty_slot, end_slot, receive, received, with_temp}
use Rattle.tac_ir.specs.declared.step.Parameter.{Parameter}
use Rattle.rv_emit.specs.Maps.{Extent, Extents, Means}
use Rattle.rv_emit.specs.Grounds.{Ground}
use Rattle.rv_emit.specs.Relation.{Program, Moment, ParameterFits, Point, Ready, Here, IsBuilt}
use Rattle.rv_emit.specs.Claims.{Claims, AreClaims, Follows, state}
use Rattle.rv_emit.proofs.Accesses.{access_stored, store_is, stored_is, with_access}
use Rattle.rv_emit.proofs.Beginning.{begun, begun_ready, block_known}
use Rattle.rv_emit.proofs.Giving.{elsewhere, given, slot_place, word_elsewhere}
use Rattle.rv_emit.proofs.Growing.{means_more}
use Rattle.rv_emit.proofs.Keeping.{frame_end}
use Rattle.rv_emit.proofs.Lists.{get_below, get_last, place_within, set_other, set_same}
use Rattle.rv_emit.proofs.Loading.{lies, whole_at, wide}
use Rattle.rv_emit.proofs.Moves.{Goal, Shown, by_add, by_fetch, by_keep, by_lui, code_back, code_front, far_value, here, near_value}
use Rattle.rv_emit.proofs.Plain.{aim}
use Rattle.rv_emit.proofs.Storing.{stored}
use Rattle.rv_emit.proofs.Values.{by_tested}

-- ---- a number goes behind an address in a register, by any access; x7 may be lost

module _ (ground : Ground) (goal : Goal ground) (f : ℕ → ℕ) (pc : ℕ) (memory : M.Memory) (keeps : Keeps ground.text memory) (le : code_address ≤ pc) where
  open ground use {segments, text}

  one_store : (access : Access) (g : ℕ → ℕ) (pc' : ℕ) (base rs a v : ℕ) (imm : ℤ) → code_address ≤ pc' → Stands segments text pc' (store_by access base rs imm) → base < 32 → rs < 32
      → plus (g base) imm ≡ a → a % width_of access ≡ 0 → are_mapped segments writable a (width_of access) ≡ true → stores_at segments a (width_of access) ≡ []
      → g rs ≡ v → Shown ground goal g (pc' + 4) (with_access access memory a v) → Shown ground goal g pc' memory
  one_store access g pc' base rs a v imm inside h lb lt e whole mapped quiet value c =
      goal.claim.fewer goal.n (at g pc' memory goal.input goal.output) goal.before
      (by_store_of segments text goal.Claim goal.claim g pc' memory goal.input goal.output keeps inside goal.n goal.before (store_by access base rs imm) h [] base rs a
      (width_of access) imm (with_access access) (store_is access base rs imm) lb lt e whole mapped quiet
      (subst (λ z. Shown ground goal g (pc' + 4) (with_access access memory a z)) (sym value) c))

  pub by_keep_of : (access : Access) (rs base offset a v : ℕ) → rs < 32 → base < 32 → rs ≢ 7 → base ≢ 7 → Code segments text pc (keep_code access rs base offset)
      → (f base + offset) % 2 ^ 32 ≡ a → a % width_of access ≡ 0 → are_mapped segments writable a (width_of access) ≡ true
      → stores_at segments a (width_of access) ≡ [] → f rs ≡ v
      → ((g : ℕ → ℕ) → ((q : ℕ) → q ≢ 7 → g q ≡ f q)
      → Shown ground goal g (pc + 4 * length (keep_code access rs base offset)) (with_access access memory a v))
      → Shown ground goal f pc memory
  by_keep_of access rs base offset a v lt lb ne nb code is whole mapped quiet value c =
      cond_both (ltb offset 2048) _ _
      (λ (is : List Inst). Code segments text pc is
      → ((g : ℕ → ℕ) → ((q : ℕ) → q ≢ 7 → g q ≡ f q) → Shown ground goal g (pc + 4 * length is) (with_access access memory a v)) → Shown ground goal f pc memory)
      (λ e code c. one_store access f pc base rs a v (pos offset) le code.0 lb lt (near_value offset (f base) (ltb-true _ _ e) ∙ is) whole mapped quiet value
      (here ground goal f (pc + 4) _ (with_access access memory a v) (omega arith) (c f (λ q d. refl))))
      (λ e code c.
      let hi = upper offset * 2 ^ 12 in
      let g = put f 7 hi in
      let x = (hi + f base) % 2 ^ 32 in
      let h = put g 7 x in
      by_lui ground goal f pc memory keeps le 7 (upper offset) code.0 (omega arith)
      (by_add ground goal g (pc + 4) memory keeps (omega arith) 7 7 base x code.1.0 (omega arith) (omega arith) lb
      (ap (λ (z : ℕ). (hi + z) % 2 ^ 32) (put_other f 7 hi base nb))
      (one_store access h (pc + 4 + 4) 7 rs a v (lower offset) (omega arith) code.1.1.0 (omega arith) lt (far_value offset (f base) ∙ is) whole mapped quiet
      (put_other g 7 x rs ne ∙ put_other f 7 hi rs ne ∙ value)
      (here ground goal h (pc + 4 + 4 + 4) _ (with_access access memory a v) (omega arith) (c h (λ q d. put_other g 7 x q d ∙ put_other f 7 hi q d))))))
      code c

-- ---- frames

-- a slot that is emptied and written is a temporary that is written
set_is_temp : (f : Frame) (x : ℕ) (a b : Slot) → x < length f → slice_set (slice_set f x a) x b ≡ with_temp x b f
set_is_temp [] x a b lt = absurd (omega arith)
set_is_temp (o ∷ f) zero a b lt = refl
set_is_temp (o ∷ f) (suc x) a b lt = ap (λ (z : Frame). o ∷ z) (set_is_temp f x a b (omega arith))

temp_get : (f : Frame) (x y : ℕ) (b : Slot) → x < length f → y ≢ x → slice_get (with_temp x b f) y ≡ slice_get f y
temp_get f x y b lt ne = ap (λ (z : Frame). slice_get z y) (sym (set_is_temp f x b b lt)) ∙ set_other (slice_set f x b) x y b ne ∙ set_other f x y b ne

-- ---- what is passed: from the x-th word of the row on

module _ (p : Program) where
  abbrev pub Passed : Extents → M.Memory → (row x : ℕ) → List Value → Type 0
  Passed blocks memory row x [] = Unit {0}
  Passed blocks memory row x (v ∷ vs) = Means p.code p.places blocks v (word_at memory (row + 4 * x)) × Passed blocks memory row (x + 1) vs

  pub passed_stays : (blocks : Extents) (old new : M.Memory) (row x : ℕ) (vs : List Value) → ((a : ℕ) → row ≤ a → new a ≡ old a) → Passed blocks old row x vs
      → Passed blocks new row x vs
  passed_stays blocks old new row x [] same h = tt
  passed_stays blocks old new row x (v ∷ vs) same h =
      let e : word_at new (row + 4 * x) ≡ word_at old (row + 4 * x) = word_same old new (row + 4 * x) (λ i lt. same (row + 4 * x + i) (omega arith)) in
      (subst (Means p.code p.places blocks v) (sym e) h.0, passed_stays blocks old new row (x + 1) vs same h.1)

  pub passed_more : (blocks more : Extents) (memory : M.Memory) (row x : ℕ) (vs : List Value) → Passed blocks memory row x vs → Passed (blocks ++ more) memory row x vs
  passed_more blocks more memory row x [] h = tt
  passed_more blocks more memory row x (v ∷ vs) h =
      (means_more p.code p.places blocks more v (word_at memory (row + 4 * x)) h.0, passed_more blocks more memory row (x + 1) vs h.1)

-- ---- the blocks of a frame that begin there

-- the last block of memory has its kind
last_kind : (m : Memory) (n : ℕ) → kind (with_block m n Local) (length m) ≡ Local
last_kind m n = ap (λ (o : Option Block). (unwrap_or o (record { kind = Local; contents = ended 0 })).kind) (get_last m (length m) _ refl)

module _ (ground : Ground) (p : Program) (built : IsBuilt ground p) (Claim : Claims) (claims : AreClaims ground p Claim) (next : Next)
    (follows : Follows ground p Claim next) (place : Place) (row : ℕ) (row_whole : row % 4 ≡ 0) where
  -- what each parameter still has to come
  pub record Comes (m : Moment) (q : Point) (x : ℕ) (rs : List Parameter) (vs : List Value) : Type 0 where
    pub ready : Ready ground p m q
    pub few : length rs ≤ length vs
    pub fits : (i : ℕ) (r : Parameter) → slice_get rs i ≡ Some r → ParameterFits m.g (x + i) r
    pub idle : (i : ℕ) (r : Parameter) → slice_get rs i ≡ Some r → slice_get m.frame (x + i) ≡ Some (empty_slot r.block)
    pub passed : Passed p m.blocks q.memory row x vs
    pub above : m.sp + m.l.size ≤ row
    -- where there is a value
    pub row_is : 0 < length vs → q.f 10 ≡ row
    pub below : 0 < length vs → row + 4 * (x + length vs) ≤ ground.room.stack_end

  abbrev tail_of : Moment → (x : ℕ) → List Parameter → List Inst
  tail_of m x rs = parameters_code m.l x rs ++ steps_code p.places m.g m.l m.more

  -- the point behind a word of the row that comes into x5
  abbrev taken : Point → (x y : ℕ) → Point
  taken q x y = record q { f = put q.f 5 y; pc = q.pc + 4 * length (fetch_code 5 10 (4 * x)) }

  -- the word of the row comes into x5
  fetched : (e : End) (m : Moment) (q : Point) (x : ℕ) (v : Value) (vs : List Value) (tail : List Inst) → Ready ground p m q
      → Passed p m.blocks q.memory row x (v ∷ vs) → q.f 10 ≡ row → m.sp + m.l.size ≤ row → row + 4 * (x + length (v ∷ vs)) ≤ ground.room.stack_end
      → Here ground p q.pc (fetch_code 5 10 (4 * x) ++ tail)
      → ((y : ℕ) → Means p.code p.places m.blocks v y → y < 2 ^ 32 → Ready ground p m (taken q x y) → Here ground p (taken q x y).pc tail
      → Claim e m.w.turns (state (taken q x y)) q.before)
      → Claim e m.w.turns (state q) q.before
  fetched e m q x v vs tail ready passed row_is above below code c =
      let fr = ready.frame in
      let top = ground.stack_end in
      let fetch = fetch_code 5 10 (4 * x) in
      let a = row + 4 * x in
      let y = word_at q.memory a in
      let pc = q.pc + 4 * length fetch in
      let f = put q.f 5 y in
      let sum : (q.f 10 + 4 * x) % 2 ^ 32 ≡ a = omega (arith, row_is) in
      by_fetch ground (aim ground p built Claim claims e m.w.turns q) q.f q.pc q.memory ready.world.keeps ready.code 5 10 (4 * x) a (omega arith) (omega arith)
      (omega arith) (λ d. omega arith) (code_front ground q.pc fetch tail code) sum (omega arith)
      (ground.read a 4 (inr (inl (omega (arith, fr.low), omega arith)))) (ground.quiet_load a 4 (omega arith))
      (c y passed.0 (word_fits q.memory a ready.world.keeps.bytes)
      (elsewhere ground p m q ready f pc refl refl (omega (arith, ready.code)) (omega (arith, ready.whole))) (code_back ground q.pc fetch tail code))

  -- by its name, into its slot
  named : (e : End) (m : Moment) (q : Point) (x y : ℕ) (v : Value) (tail : List Inst) → Ready ground p m q → q.f 5 ≡ y → y < 2 ^ 32
      → Means p.code p.places m.blocks v y → slice_get m.frame x ≡ Some (by_name None) → m.sp + m.l.size ≤ row
      → Here ground p q.pc (give_code x 5 ++ tail)
      → ((r : Point) → Ready ground p (record m { frame = with_temp x (by_name (Some v)) m.frame }) r
      → ((a : ℕ) → row ≤ a → r.memory a ≡ q.memory a) → r.f 10 ≡ q.f 10 → Here ground p r.pc tail → Claim e m.w.turns (state r) r.before)
      → Claim e m.w.turns (state q) q.before
  named e m q x y v tail ready five small means idle above code c =
      let fr = ready.frame in
      let lx : x < slots m.g = omega (arith, get_below m.frame x (by_name None) idle, fr.count) in
      let opened = fr.shows x (by_name None) idle in
      let where' = slot_place ground p m q ready x lx in
      let end = frame_end ground p m.blocks m.owner m.number m.g m.l fr.laid in
      let a = m.sp + slot_at x in
      let give = give_code x 5 in
      let pc = q.pc + 4 * length give in
      by_keep ground (aim ground p built Claim claims e m.w.turns q) q.f q.pc q.memory ready.world.keeps ready.code 5 2 (slot_at x) a y (omega arith) (omega arith)
      (λ d. omega arith) (λ d. omega arith) (code_front ground q.pc give tail code) where'.is where'.whole (ground.write a 4 (inr (inl (where'.low, where'.high))))
      (ground.quiet_store a 4 (omega (arith, where'.high, ground.stack_end))) five
      (λ g same. c (record q { f = g; pc = pc; memory = with_word q.memory a y })
      (given ground p m q ready x (Some v) lx opened y (λ u d. small) (λ u d. let k : v ≡ u = cc in subst (λ z. Means p.code p.places m.blocks z y) k means)
      g pc (same 0 (λ d. omega arith)) (same 2 (λ d. omega arith)) (omega (arith, ready.code)) (omega (arith, ready.whole)))
      (λ b le. word_elsewhere q.memory a y b (inr (omega (arith, where'.inside, end.0))))
      (same 10 (λ d. omega arith)) (code_back ground q.pc give tail code))

  -- into its block, which has begun
  placed_in : (e : End) (m : Moment) (q : Point) (x y b : ℕ) (v : Value) (access : Access) (after : Memory) (tail : List Inst) → Ready ground p m q → q.f 5 ≡ y
      → Means p.code p.places m.blocks v y → slice_get m.frame x ≡ Some (in_block (Some b)) → kind m.w.memory b ≡ Local
      → store_in m.w.memory (P.Block b 0) access v ≡ Ok after → m.sp + m.l.size ≤ row
      → Here ground p q.pc (keep_code access 5 2 (slice_index m.l.blocks x) ++ tail)
      → ((r : Point) → Ready ground p (record m { w = record m.w { memory = after } }) r
      → ((a : ℕ) → row ≤ a → r.memory a ≡ q.memory a) → r.f 10 ≡ q.f 10 → Here ground p r.pc tail → Claim e m.w.turns (state r) r.before)
      → Claim e m.w.turns (state q) q.before
  placed_in e m q x y b v access after tail ready five means begun_is local is above code c =
      let fr = ready.frame in
      let shows = fr.shows x (in_block (Some b)) begun_is in
      let offset = slice_index m.l.blocks x in
      let d : Extent = record { at = m.sp + offset; size = slice_index (block_sizes m.g) x } in
      let st = stored_is p.code p.places m.blocks m.w.memory after (P.Block b 0) access v y is means in
      let same_b : b ≡ st.b = (let z = st.found.is in cc) in
      let same_at : 0 ≡ st.at = (let z = st.found.is in cc) in
      let placed_b = subst (λ z. slice_get m.blocks z ≡ Some d) same_b shows.2 in
      let placed = ready.world.flat.placed st.b d placed_b in
      let inside : st.at + width_of access ≤ d.size = omega (arith, st.found.fits, placed.sized) in
      let lie = lies ground (kind m.w.memory st.b) d st.at (width_of access) placed.within inside in
      let not_heap : is_heap (kind m.w.memory st.b) ≡ false = ap (λ (z : ℕ). is_heap (kind m.w.memory z)) (sym same_b) ∙ ap is_heap local in
      let n = wide access in
      let a = m.sp + offset + st.at in
      let sum : (q.f 2 + offset) % 2 ^ 32 ≡ a = omega (arith, ready.stack, lie.below) in
      let keep = keep_code access 5 2 offset in
      let pc = q.pc + 4 * length keep in
      let done = stored ground p m q ready (P.Block b 0) access after y d st placed_b (omega (arith, lie.above)) in
      let m' : Moment = record m { w = record m.w { memory = after } } in
      let new = with_access access q.memory a y in
      let written = access_stored access q.memory a y in
      let within = by_place fr.laid.blocks fr.laid.size shows.0 in
      by_keep_of ground (aim ground p built Claim claims e m.w.turns q) q.f q.pc q.memory ready.world.keeps ready.code access 5 2 offset a y (omega arith) (omega arith)
      (λ d. omega arith) (λ d. omega arith) (code_front ground q.pc keep tail code) sum (whole_at access d.at st.at placed.whole st.found.whole)
      (ground.write a (width_of access) lie.in_room) (ground.quiet_store a (width_of access) (omega (arith, lie.other not_heap, n.0))) five
      (λ g same. c (record q { f = g; pc = pc; memory = new })
      (elsewhere ground p m' (record q { memory = new }) done g pc (same 0 (λ d. omega arith)) (same 2 (λ d. omega arith)) (omega (arith, ready.code))
      (omega (arith, ready.whole)))
      (λ z le. written.outside z (inr (omega (arith, within))))
      (same 10 (λ d. omega arith)) (code_back ground q.pc keep tail code))
    where
      by_place : m.l.blocks ≡ block_places m.g → m.l.size ≡ frame_size m.g → is_block m.g x ≡ true
          → slice_index m.l.blocks x + slice_index (block_sizes m.g) x ≤ m.l.size
      by_place blocks size is =
          let within = place_within (slot_at (slots m.g)) (block_sizes m.g) x (block_known m.g x is) (omega arith) in
          let where' : slice_index m.l.blocks x ≡ slice_index (block_places m.g) x = ap (λ (z : List ℕ). slice_index z x) blocks in
          omega (arith, within.1)

  -- ---- one parameter after another

  -- from the x-th on
  abbrev Going : (rs : List Parameter) → (vs : List Value) → (x : ℕ) → Type 0
  Going rs vs x = (m : Moment) (q : Point) → Comes m q x rs vs → Here ground p q.pc (tail_of m x rs)
      → Claim (receive place x rs vs (λ u f. next m.callers m.g m.more f) m.frame m.w) m.w.turns (state q) q.before

  module _ (r : Parameter) (rs : List Parameter) (v : Value) (vs : List Value) (x : ℕ) (going : Going rs vs (x + 1)) (m : Moment) (q : Point)
      (h : Comes m q x (r ∷ rs) (v ∷ vs)) (code : Here ground p q.pc (tail_of m x (r ∷ rs))) where
    abbrev tail : List Inst
    tail = tail_of m (x + 1) rs

    abbrev stored_code : Bool → List Inst
    stored_code b = cond b (keep_code r.access 5 2 (slice_index m.l.blocks x)) (give_code x 5)

    at_x : slice_get m.frame x ≡ Some (empty_slot r.block)
    at_x = (let z : x + 0 ≡ x = omega arith in subst (λ i. slice_get m.frame i ≡ Some (empty_slot r.block)) z (h.idle 0 r refl))

    fits_x : ParameterFits m.g x r
    fits_x = (let z : x + 0 ≡ x = omega arith in subst (λ i. ParameterFits m.g i r) z (h.fits 0 r refl))

    lx : x < length m.frame
    lx = get_below m.frame x (empty_slot r.block) at_x

    code' : Here ground p q.pc (fetch_code 5 10 (4 * x) ++ (stored_code r.block ++ tail))
    code' =
        let steps = steps_code p.places m.g m.l m.more in
        let rest = parameters_code m.l (x + 1) rs in
        subst (λ z. Here ground p q.pc (fetch_code 5 10 (4 * x) ++ z)) (append_assoc (stored_code r.block) rest steps)
        (subst (Here ground p q.pc) (append_assoc (fetch_code 5 10 (4 * x)) (stored_code r.block ++ rest) steps) code)

    -- what is to come after it
    later_fits : (i : ℕ) (s : Parameter) → slice_get rs i ≡ Some s → ParameterFits m.g (x + 1 + i) s
    later_fits i s e = (let z : x + suc i ≡ x + 1 + i = omega arith in subst (λ j. ParameterFits m.g j s) z (h.fits (suc i) s e))

    later_idle : (f : Frame) → ((y : ℕ) → y ≢ x → slice_get f y ≡ slice_get m.frame y) → (i : ℕ) (s : Parameter) → slice_get rs i ≡ Some s
        → slice_get f (x + 1 + i) ≡ Some (empty_slot s.block)
    later_idle f same i s e =
        let z : x + suc i ≡ x + 1 + i = omega arith in
        same (x + 1 + i) (λ d. omega arith) ∙ subst (λ j. slice_get m.frame j ≡ Some (empty_slot s.block)) z (h.idle (suc i) s e)

    abbrev rest_of : Unit {0} → Frame → World → End
    rest_of u = receive place (x + 1) rs vs (λ u f. next m.callers m.g m.more f)

    by_name_none : slice_get m.frame x ≡ Some (by_name None) → Here ground p q.pc (fetch_code 5 10 (4 * x) ++ (give_code x 5 ++ tail))
        → Claim (rest_of tt (with_temp x (by_name (Some v)) m.frame) m.w) m.w.turns (state q) q.before
    by_name_none idle code0 =
        let f = with_temp x (by_name (Some v)) m.frame in
        let e = rest_of tt f m.w in
        fetched e m q x v vs (give_code x 5 ++ tail) h.ready h.passed (h.row_is (omega arith)) h.above (h.below (omega arith)) code0
        λ y means small ready code1. named e m (taken q x y) x y v tail ready refl small means idle h.above code1
        λ s ready2 same ten code2. going (record m { frame = f }) s (record {
          ready = ready2;
          few = omega (arith, h.few);
          fits = later_fits;
          idle = later_idle f (λ z ne. temp_get m.frame x z (by_name (Some v)) lx ne);
          passed = passed_stays p m.blocks q.memory s.memory row (x + 1) vs same h.passed.1;
          above = h.above;
          row_is = λ lt. ten ∙ h.row_is (omega arith);
          below = λ lt. omega (arith, h.below (omega arith));
        }) code2

    abbrev n : ℕ
    n = slice_index (block_sizes m.g) x

    abbrev b : ℕ
    b = length m.w.memory

    abbrev with_it : Frame
    with_it = slice_set m.frame x (in_block (Some b))

    abbrev w1 : World
    w1 = record m.w { memory = with_block m.w.memory n Local }

    -- the block has begun, and its number is stored
    by_stored : (after : Memory) → slice_get m.frame x ≡ Some (in_block None) → store_in w1.memory (P.Block b 0) r.access v ≡ Ok after
        → Here ground p q.pc (fetch_code 5 10 (4 * x) ++ (keep_code r.access 5 2 (slice_index m.l.blocks x) ++ tail))
        → Claim (rest_of tt with_it (record w1 { memory = after })) m.w.turns (state q) q.before
    by_stored after idle is code0 =
        let m1 = begun ground p m q h.ready x idle in
        let ready1 = begun_ready ground p m q h.ready x idle in
        let e = rest_of tt with_it (record w1 { memory = after }) in
        let keep = keep_code r.access 5 2 (slice_index m.l.blocks x) in
        let fresh : Extent = record { at = m.sp + slice_index m.l.blocks x; size = n } in
        let passed = passed_more p m.blocks (fresh ∷ []) q.memory row x (v ∷ vs) h.passed in
        let m2 : Moment = record m1 { w = record w1 { memory = after } } in
        fetched e m1 q x v vs (keep ++ tail) ready1 passed (h.row_is (omega arith)) h.above (h.below (omega arith)) code0
        λ y means small ready code1. placed_in e m1 (taken q x y) x y b v r.access after tail ready refl means
        (set_same m.frame x (in_block (Some b)) (in_block None) idle) (last_kind m.w.memory n) is h.above code1
        λ s ready2 same ten code2. going m2 s (record {
          ready = ready2;
          few = omega (arith, h.few);
          fits = later_fits;
          idle = later_idle with_it (λ z ne. set_other m.frame x z (in_block (Some b)) ne);
          passed = passed_stays p (m.blocks ++ fresh ∷ []) q.memory s.memory row (x + 1) vs same passed.1;
          above = h.above;
          row_is = λ lt. ten ∙ h.row_is (omega arith);
          below = λ lt. omega (arith, h.below (omega arith));
        }) code2

    by_store : slice_get m.frame x ≡ Some (in_block None)
        → Here ground p q.pc (fetch_code 5 10 (4 * x) ++ (keep_code r.access 5 2 (slice_index m.l.blocks x) ++ tail))
        → Claim (store place (P.Block b 0) r.access v rest_of with_it w1) m.w.turns (state q) q.before
    by_store idle code0 =
        by_tested ground p built Claim claims (store_in w1.memory (P.Block b 0) r.access v) place _ with_it w1 m.w.turns q
        λ after is. subst (λ t. Claim (note_if t (E.stored b 0 (width_of r.access)) rest_of with_it (record w1 { memory = after })) m.w.turns (state q) q.before)
        (sym (ap is_heap (last_kind m.w.memory n))) (by_stored after idle is code0)

    by_room : slice_get m.frame x ≡ Some (in_block None)
        → Here ground p q.pc (fetch_code 5 10 (4 * x) ++ (keep_code r.access 5 2 (slice_index m.l.blocks x) ++ tail)) → (t : Bool)
        → Claim (cond t (out_of_room Live (live_bytes m.w.memory + n) m.w) (received place x r v (slice_get with_it x) rest_of with_it w1)) m.w.turns (state q) q.before
    by_room idle code0 true = claims.out_of_room Live (live_bytes m.w.memory + n) m.w m.w.turns (state q) q.before
    by_room idle code0 false =
        subst (λ o. Claim (received place x r v o rest_of with_it w1) m.w.turns (state q) q.before)
        (sym (set_same m.frame x (in_block (Some b)) (in_block None) idle)) (by_store idle code0)

    by_sort : (t : Bool) → r.block ≡ t → slice_get m.frame x ≡ Some (empty_slot t)
        → Here ground p q.pc (fetch_code 5 10 (4 * x) ++ (stored_code t ++ tail))
        → Claim ((begin x t r.size >> (slot_now x >>= received place x r v)) rest_of m.frame m.w) m.w.turns (state q) q.before
    by_sort false e idle code0 =
        let f1 = slice_set m.frame x (by_name None) in
        subst (λ o. Claim (received place x r v o rest_of f1 m.w) m.w.turns (state q) q.before) (sym (set_same m.frame x (by_name None) (by_name None) idle))
        (subst (λ f. Claim (rest_of tt f m.w) m.w.turns (state q) q.before) (sym (set_is_temp m.frame x (by_name None) (by_name (Some v)) lx))
        (by_name_none idle code0))
    by_sort true e idle code0 =
        let k = λ (i : ℕ). with_slot x (in_block (Some i)) (λ u f. received place x r v (slice_get f x) rest_of f) in
        subst (λ o. Claim (end_slot x o (λ u. make r.size Local k) m.frame m.w) m.w.turns (state q) q.before) (sym idle)
        (subst (λ z. Claim (make z Local k m.frame m.w) m.w.turns (state q) q.before) (sym (fits_x.size e).0)
        (by_room idle code0 (m.w.is_limited && ltb greatest_live (live_bytes m.w.memory + n))))

    one_parameter : Claim (receive place x (r ∷ rs) (v ∷ vs) (λ u f. next m.callers m.g m.more f) m.frame m.w) m.w.turns (state q) q.before
    one_parameter = by_sort r.block refl at_x code'

  pub by_parameters : (rs : List Parameter) (vs : List Value) (x : ℕ) → Going rs vs x
  by_parameters [] [] x m q h code = follows m q h.ready code
  by_parameters [] (v ∷ vs) x m q h code = follows m q h.ready code
  by_parameters (r ∷ rs) [] x m q h code = absurd (let z = h.few in omega (arith, z))
  by_parameters (r ∷ rs) (v ∷ vs) x m q h code = one_parameter r rs v vs x (by_parameters rs vs (x + 1)) m q h code
