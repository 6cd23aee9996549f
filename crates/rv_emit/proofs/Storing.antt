-- Stores by expressions of the program, with what is told of them.
use Rattle.std.proofs.Common.{◌≡◌, ℕ, zero, suc, ◌+◌, ◌-◌, ◌<◌, ◌≤◌, ◌⊎◌, inl, inr, Bool, true, false, List, [], ◌∷◌, ◌++◌, length, Some, None, pos}
use Rattle.std.proofs.Common.{slice_get, refl, ap, sym, ◌∙◌, subst, arith, append_assoc}
use Rattle.std.proofs.lemmas.Bool.{cases_lt}
use Rattle.std.proofs.lemmas.Int.{ints}
use Rattle.lay_base.specs.declared.place.Place.{Place}
use Rattle.memory_words.specs.declared.cell_words.pointer.Ptr.{Ptr}
use Rattle.block_memory.specs.declared.kinds.Access.{Access}
use Rattle.block_memory.specs.Blocks.{Memory, is_live, kind, size}
use Rattle.block_memory.specs.Lifetimes.{is_heap}
use Rattle.block_memory.specs.RunWorlds.Events as E
use Rattle.block_memory.specs.RunWorlds.Scalars.{note_if, note_in, pointer_of, store_in, width_of}
use Rattle.block_memory.specs.RunWorlds.Worlds.{World}
use Rattle.block_memory.specs.declared.run_worlds.value.Value.{Value}
use Rattle.rv_isa.specs.Arithmetic.{plus}
use Rattle.rv_isa.specs.declared.instruction.Inst.{Inst}
use Rattle.rv_isa.specs.Events.{MachineEvent, Store, stores_at}
use Rattle.rv_isa.specs.Memory as M
use Rattle.rv_isa.specs.Memory.{word_at}
use Rattle.rv_runtime.specs.Steps.States.{Keeps, at, later}
use Rattle.rv_runtime.proofs.Steps.Operators.{by_store_of}
use Rattle.tac_ir.specs.Running.{Next}
use Rattle.tac_ir.specs.declared.step.Operand.{Operand}
use Rattle.tac_ir.specs.declared.step.Step.TheVariants as S
use Rattle.rv_code.specs.Code.{both_code, get_code, steps_code}
use Rattle.rv_code.specs.Words.{store_by}
use Rattle.rv_emit.specs.Maps.{Extent, Flat, Means}
use Rattle.rv_emit.specs.Grounds.{Ground}
use Rattle.rv_emit.specs.Relation.{Program, Moment, Point, Ready, Callers, Here, IsBuilt}
use Rattle.rv_emit.specs.Claims.{Claims, AreClaims, Follows, state}
use Rattle.rv_emit.proofs.Accesses.{Stored, access_keeps, access_stored, store_is, stored_is, with_access}
use Rattle.rv_emit.proofs.Cells.{flat_written, old_cell}
use Rattle.rv_emit.proofs.Giving.{elsewhere}
use Rattle.rv_emit.proofs.Keeping.{KeepsOther, KeepsOutside, back_stays, callers_stay, framed_stays, world_moved}
use Rattle.rv_emit.proofs.Loading.{Lies, address_is, lies, live_extent, whole_at, wide}
use Rattle.rv_emit.proofs.Noting.{told}
use Rattle.rv_emit.proofs.Plain.{Works, by_both}
use Rattle.rv_emit.proofs.Values.{by_read, by_tested, with_register}

-- ---- what a block holds is changed, and nothing else

module _ (ground : Ground) (p : Program) (m : Moment) (q : Point) (ready : Ready ground p m q) where
  -- memory that shows other blocks, and in which each byte that nobody owns is as it was
  pub changed : (after : Memory) (new : M.Memory) → Keeps ground.text new → Flat p.code p.places ground.room m.blocks m.owner after new
      → ((c : ℕ) → m.owner c ≡ None → new c ≡ q.memory c) → Ready ground p (record m { w = record m.w { memory = after } }) (record q { memory = new })
  changed after new keeps flat nobodys =
      let fr = ready.frame in
      let other : (floor : ℕ) → KeepsOther m.owner floor q.memory new = λ floor c none le. nobodys c none in
      let outside : KeepsOutside m.owner q.memory new = λ c none out ne. nobodys c none in
      let back = back_stays ground p m.blocks m.owner q.memory new m.number m.g m.l m.frame m.sp (other m.sp) fr in
      let callers = callers_stay ground p m.blocks m.owner q.memory new m.numbers m.callers (m.sp + m.l.size) (word_at q.memory m.sp) (other (m.sp + m.l.size))
      ready.callers in
      record {
        nil = ready.nil;
        stack = ready.stack;
        code = ready.code;
        whole = ready.whole;
        fits = ready.fits;
        world = world_moved ground p m.blocks m.owner q.memory new m.w after q.input q.output q.before keeps flat outside ready.world;
        frame = framed_stays ground p m.blocks m.owner q.memory new m.number m.g m.l m.frame m.sp (other m.sp) fr;
        callers = subst (Callers ground p m.blocks m.owner new m.numbers m.callers (m.sp + m.l.size)) (sym back) callers;
        below = ready.below;
        runs = ready.runs;
      }

  -- a range of a live block is owned by it
  pub range_owned : (b at n : ℕ) (e : Extent) → is_live m.w.memory b ≡ true → at + n ≤ size m.w.memory b → slice_get m.blocks b ≡ Some e
      → (c : ℕ) → e.at + at ≤ c → c < e.at + at + n → m.owner c ≡ Some b
  range_owned b at n e live fits placed c low high =
      let i = c - e.at in
      let y = old_cell m.w.memory b i live (omega (arith, fits)) in
      let z : e.at + i ≡ c = omega arith in
      ap m.owner (sym z) ∙ ready.world.flat.owned b i e y.0 placed y.1

  -- so what nobody owns lies outside of it
  pub outside_range : (b at n : ℕ) (e : Extent) → is_live m.w.memory b ≡ true → at + n ≤ size m.w.memory b → slice_get m.blocks b ≡ Some e
      → (c : ℕ) → m.owner c ≡ None → (c < e.at + at) ⊎ (e.at + at + n ≤ c)
  outside_range b at n e live fits placed c none = elim (cases_lt c (e.at + at)) [
    | inl lt ↦ inl lt
    | inr le ↦ elim (cases_lt c (e.at + at + n)) [
      | inl lt ↦ absurd (let d : Some b ≡ None = sym (range_owned b at n e live fits placed c le lt) ∙ none in cc)
      | inr ge ↦ inr ge
    ]
  ]

  pub stored : (r : Ptr) (access : Access) (after : Memory) (y : ℕ) (e : Extent) (st : Stored p.code p.places m.blocks m.w.memory after r access y)
      → slice_get m.blocks st.b ≡ Some e → 0x08000000 ≤ e.at + st.at
      → Ready ground p (record m { w = record m.w { memory = after } }) (record q { memory = with_access access q.memory (e.at + st.at) y })
  stored r access after y e st placed above =
      let a = e.at + st.at in
      let new = with_access access q.memory a y in
      let is = access_stored access q.memory a y in
      let flat = flat_written p.code p.places ground.room m.blocks m.owner m.w.memory q.memory new ready.world.flat st.b st.at e st.new st.found.live
      (omega (arith, st.found.fits, st.long)) placed
      (λ i c g. st.shows q.memory new a i c is g (omega (arith, st.long, within st.new i c g)))
      (λ c out. is.outside c (sized c st.long out)) in
      changed after new (access_keeps access ground.text q.memory a y ready.world.keeps above)
      (subst (λ z. Flat p.code p.places ground.room m.blocks m.owner z new) (sym st.is) flat)
      (λ c none. is.outside c (outside_range st.b st.at (width_of access) e st.found.live st.found.fits placed c none))
    where
      within : {A : Type 0} (all : List A) (i : ℕ) (x : A) → slice_get all i ≡ Some x → i < length all
      within [] i x g = absurd cc
      within (z ∷ all) zero x g = omega arith
      within (z ∷ all) (suc i) x g = (let h = within all i x g in omega (arith, h))

      sized : (c : ℕ) → length st.new ≡ width_of access → (c < e.at + st.at) ⊎ (e.at + st.at + length st.new ≤ c) → (c < e.at + st.at) ⊎ (e.at + st.at + width_of access ≤ c)
      sized c long (inl lt) = inl lt
      sized c long (inr le) = inr (omega arith)

module _ (ground : Ground) (p : Program) (built : IsBuilt ground p) (m : Moment) (q : Point) (ready : Ready ground p m q) (Claim : Claims)
    (claims : AreClaims ground p Claim) (next : Next) (follows : Follows ground p Claim next) where
  abbrev rest : List Inst
  rest = steps_code p.places m.g m.l m.more

  pub store_works : (place : Place) (access : Access) (a b : Operand) → Works ground p built Claim claims next m q (S.Store place access a b)
  store_works place access a b code fits =
      by_read ground p built Claim claims a _ m.frame m.w m.w.turns q
      λ v reads_v. by_read ground p built Claim claims b _ m.frame m.w m.w.turns q
      λ u reads_u. by_tested ground p built Claim claims (store_in m.w.memory (pointer_of v) access u) place _ m.frame m.w m.w.turns q
      λ after is.
      let both = both_code p.places m.g m.l a b in
      let code' = subst (Here ground p q.pc) (append_assoc both (store_by access 5 6 (pos 0) ∷ []) rest) code in
      let w' : World = record m.w { memory = after } in
      let end = note_in m.w.memory (pointer_of v) (λ b at. E.stored b at (width_of access)) (λ i. next m.callers m.g m.more) m.frame w' in
      by_both ground p built Claim claims end m.w.turns m q ready a b v u ((store_by access 5 6 (pos 0) ∷ []) ++ rest) reads_v reads_u
      (fits.operands 0 a (omega arith)) (fits.operands 1 b (omega arith)) code'
      λ x y means_x means_y small_x small_y r same. subst (λ (r : Point). Ready ground p m r → Here ground p r.pc (store_by access 5 6 (pos 0) ∷ rest)
      → Claim end m.w.turns (state r) r.before) (sym same)
      (λ ready_r code_r.
      let r = with_register (with_register q 5 x (get_code p.places m.g m.l 5 a)) 6 y (get_code p.places m.g m.l 6 b) in
      let st = stored_is p.code p.places m.blocks m.w.memory after (pointer_of v) access u y is means_y in
      subst (λ s. Claim (note_in m.w.memory s (λ b at. E.stored b at (width_of access)) (λ i. next m.callers m.g m.more) m.frame w') m.w.turns (state r) r.before)
      (sym st.found.is) (by_kind v after x y r refl refl means_x st ready_r code_r (is_heap (kind m.w.memory st.b)) refl))
    where
      -- the store and what follows, with the events that are told
      by_store : (v : Value) (after : Memory) (x y : ℕ) (r : Point) → r.f 5 ≡ x → r.f 6 ≡ y → Means p.code p.places m.blocks v x
          → (st : Stored p.code p.places m.blocks m.w.memory after (pointer_of v) access y) → Ready ground p m r
          → Here ground p r.pc (store_by access 5 6 (pos 0) ∷ rest) → (e : Extent) → slice_get m.blocks st.b ≡ Some e
          → Lies ground (kind m.w.memory st.b) (e.at + st.at) (width_of access) → (w : World) (made : List MachineEvent)
          → stores_at ground.segments (e.at + st.at) (width_of access) ≡ made
          → Ready ground p (record m { w = w }) (record r { memory = with_access access r.memory (e.at + st.at) y; before = later made r.before })
          → Claim (next m.callers m.g m.more m.frame w) w.turns (state r) r.before
      by_store v after x y r five six means st ready_r code_r e is lie w made tells ready' =
          let end = next m.callers m.g m.more m.frame w in
          let place = e.at + st.at in
          let m' : Moment = record m { w = w } in
          let new = with_access access r.memory place y in
          let r1 : Point = record r { memory = new; before = later made r.before } in
          let r2 : Point = record r1 { pc = r.pc + 4 } in
          let address = address_is ground p built m q ready v st.b st.at x e st.found.is means is in
          let same : plus (r.f 5) (pos 0) ≡ place = omega (arith, ints, lie.below) in
          let placed = ready.world.flat.placed st.b e is in
          (claims.backward end).fewer w.turns (state r) r.before
          (by_store_of ground.segments ground.text (Claim end) (claims.backward end) r.f r.pc r.memory r.input r.output ready_r.world.keeps ready_r.code w.turns r.before
          (store_by access 5 6 (pos 0)) code_r.0 made 5 6 place (width_of access) (pos 0) (with_access access) (store_is access 5 6 (pos 0)) (omega arith) (omega arith) same
          (whole_at access e.at st.at placed.whole st.found.whole) (ground.write place (width_of access) lie.in_room) tells
          (subst (λ (z : ℕ). Claim end w.turns (at r.f (r.pc + 4) (with_access access r.memory place z) r.input r.output) (later made r.before)) (sym six)
          (follows m' r2 (elsewhere ground p m' r1 ready' r.f (r.pc + 4) refl refl (omega (arith, ready_r.code)) (omega (arith, ready_r.whole))) code_r.1)))

      by_kind : (v : Value) (after : Memory) (x y : ℕ) (r : Point) → r.f 5 ≡ x → r.f 6 ≡ y → Means p.code p.places m.blocks v x
          → (st : Stored p.code p.places m.blocks m.w.memory after (pointer_of v) access y) → Ready ground p m r
          → Here ground p r.pc (store_by access 5 6 (pos 0) ∷ rest) → (tell : Bool) → is_heap (kind m.w.memory st.b) ≡ tell
          → Claim (note_if tell (E.stored st.b st.at (width_of access)) (λ i. next m.callers m.g m.more) m.frame (record m.w { memory = after })) m.w.turns (state r) r.before
      by_kind v after x y r five six means st ready_r code_r true heap =
          let ext = live_extent ground p built m q ready st.b st.found.live in
          let e = ext.0 in
          let placed = ready.world.flat.placed st.b e ext.1 in
          let lie = lies ground (kind m.w.memory st.b) e st.at (width_of access) placed.within (omega (arith, st.found.fits, placed.sized)) in
          let k = lie.heap heap in
          let n = wide access in
          let a = e.at + st.at in
          let w1 : World = record m.w { memory = after } in
          let w : World = record w1 { trace = E.stored st.b st.at (width_of access) ∷ m.w.trace } in
          let m1 : Moment = record m { w = w1 } in
          let r1 : Point = record r { memory = with_access access r.memory a y } in
          let done = stored ground p m r ready_r (pointer_of v) access after y e st ext.1 (omega (arith, lie.above)) in
          by_store v after x y r five six means st ready_r code_r e ext.1 lie w (Store a (width_of access) ∷ [])
          (ground.told_store a (width_of access) k.0 (omega (arith, k.1, n.0)))
          (told ground p m1 r1 done w (Store a (width_of access) ∷ r.before) refl refl refl (omega arith) refl (e, r.before, ext.1, refl, done.world.made))
      by_kind v after x y r five six means st ready_r code_r false heap =
          let ext = live_extent ground p built m q ready st.b st.found.live in
          let e = ext.0 in
          let placed = ready.world.flat.placed st.b e ext.1 in
          let lie = lies ground (kind m.w.memory st.b) e st.at (width_of access) placed.within (omega (arith, st.found.fits, placed.sized)) in
          let n = wide access in
          let a = e.at + st.at in
          by_store v after x y r five six means st ready_r code_r e ext.1 lie (record m.w { memory = after }) []
          (ground.quiet_store a (width_of access) (omega (arith, lie.other heap, n.0)))
          (stored ground p m r ready_r (pointer_of v) access after y e st ext.1 (omega (arith, lie.above)))
