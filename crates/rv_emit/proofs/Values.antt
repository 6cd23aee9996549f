-- Operands come into registers, and what a step gives goes to its temporary.
use Rattle.std.proofs.Common.{◌≡◌, ◌≢◌, ℕ, ◌+◌, ◌*◌, ◌%◌, ◌^◌, ◌<◌, ◌≤◌, ◌⊎◌, inl, inr, Bool, false, cond, List, ◌++◌, length, Option, Some, None}
use Rattle.std.proofs.Common.{Ok, Err, slice_get, slice_index, refl, sym, subst, arith}
use Rattle.lay_base.specs.declared.faults.UndefinedKind.{UndefinedKind}
use Rattle.lay_base.specs.declared.place.Place.{Place}
use Rattle.memory_words.specs.declared.cell_words.pointer.Ptr.TheVariants as P
use Rattle.block_memory.specs.declared.kinds.BlockKind.{BlockKind}
use Rattle.block_memory.specs.declared.kinds.BlockKind.TheVariants as Kind
use Rattle.block_memory.specs.Blocks.{kind}
use Rattle.block_memory.specs.Tested.{Tested}
use Rattle.block_memory.specs.RunWorlds.Doing.{tested}
use Rattle.block_memory.specs.RunWorlds.Worlds.{World, End}
use Rattle.block_memory.specs.declared.run_worlds.value.Value.{Value}
use Rattle.block_memory.specs.declared.run_worlds.value.Value.TheVariants.{Word as word, Pointer as pointer}
use Rattle.c_meaning.specs.Frames.{Frame}
use Rattle.c_meaning.specs.declared.frame.Slot.{Slot}
use Rattle.c_meaning.specs.declared.frame.Slot.TheVariants.{ByName as by_name, InBlock as in_block}
use Rattle.rv_isa.specs.declared.instruction.Inst.{Inst}
use Rattle.rv_isa.specs.Memory as M
use Rattle.rv_isa.specs.Memory.{word_at}
use Rattle.rv_isa.specs.Events.{code_address}
use Rattle.rv_runtime.specs.Steps.States.{put, at}
use Rattle.rv_runtime.proofs.Steps.Words.{word_fits}
use Rattle.rv_runtime.proofs.Steps.Registers.{put_other}
use Rattle.tac_ir.specs.Running.{Next, held, read, with_temp}
use Rattle.tac_ir.specs.declared.step.Operand.{Operand}
use Rattle.tac_ir.specs.declared.step.Operand.TheVariants as O
use Rattle.rv_code.specs.Code.{is_block, get_code, give_code, steps_code, temporary_code}
use Rattle.rv_code.specs.Words.{number_code, place_code, address_code, fetch_code}
use Rattle.rv_code.specs.Frames.{slot_at, slots}
use Rattle.rv_emit.specs.Maps.{Extent, HasBody, Means, Points, Within}
use Rattle.rv_emit.specs.Grounds.{Ground}
use Rattle.rv_emit.specs.Fitting.{OperandFits}
use Rattle.rv_emit.specs.Relation.{Program, Moment, Point, Ready, Here, IsBuilt}
use Rattle.rv_emit.specs.Claims.{Claims, AreClaims, Follows, state}
use Rattle.rv_emit.proofs.Lists.{get_below}
use Rattle.rv_emit.proofs.Giving.{elsewhere, slot_place, given}
use Rattle.rv_emit.proofs.Moves.{Goal, code_front, code_back, here, by_number, by_place, by_fetch, by_address, by_keep}

-- ---- numbers that stand for values are small

within_small : (ground : Ground) (k : BlockKind) (e : Extent) → Within ground.room k e → (0x08000100 ≤ e.at) × (e.at + e.size < 2 ^ 31)
within_small ground Kind.Local e h = (omega (arith, h.0), omega (arith, h.1, ground.stack_end))
within_small ground Kind.Heap e h = (omega (arith, h.0), omega (arith, h.1, ground.heap_end))
within_small ground Kind.Global e h = (omega (arith, h.0), omega (arith, h.1, ground.data_end))
within_small ground Kind.Text e h = (omega (arith, h.0), omega (arith, h.1, ground.data_end))

-- the point behind a stretch of code that leaves a value in a register
abbrev pub with_register : Point → (r x : ℕ) → (code : List Inst) → Point
with_register q r x code = record q { f = put q.f r x; pc = q.pc + 4 * length code }

-- what an operand is read as
abbrev pub Reads : Frame → Operand → Value → Type 0
Reads f (O.Word n) v = v ≡ word n
Reads f O.Null v = v ≡ pointer P.Null
Reads f (O.Function k) v = v ≡ pointer (P.Function k)
Reads f (O.Object n) v = v ≡ pointer (P.Block n 0)
Reads f (O.Temp kind t at) v =
    (slice_get f t ≡ Some (by_name (Some v))) ⊎ ((b : ℕ) × (slice_get f t ≡ Some (in_block (Some b))) × (v ≡ pointer (P.Block b 0)))

module _ (ground : Ground) (p : Program) (built : IsBuilt ground p) where
  pub extent_small : (m : Moment) (q : Point) → Ready ground p m q → (b : ℕ) (e : Extent) → slice_get m.blocks b ≡ Some e
      → (0x08000100 ≤ e.at) × (e.at + e.size < 2 ^ 31)
  extent_small m q ready b e is = within_small ground (kind m.w.memory b) e (ready.world.flat.placed b e is).within

  pub entry_small : (k : ℕ) → HasBody p.code k → (code_address ≤ slice_index p.places.entries k) × (slice_index p.places.entries k < 0x08000000)
  entry_small k has = (let h = (built.laid k has.0 has.1 has.2).1 in (h.entry.code, h.entry.small))

  -- ---- the state of a goal

  module _ (Claim : Claims) (claims : AreClaims ground p Claim) where
    -- what is to be shown of an end, with so many steps to come
    abbrev pub goal : End → ℕ → Point → Goal ground
    goal e n q = record { Claim = Claim e; claim = claims.backward e; n = n; input = q.input; output = q.output; before = q.before }

    -- ---- what is undefined

    pub by_held : (s : Option Slot) (kind : UndefinedKind) (at : Place) (rest : Value → Frame → World → End) (f : Frame) (w : World) (n : ℕ) (q : Point)
        → ((v : Value) → (s ≡ Some (by_name (Some v))) ⊎ ((b : ℕ) × (s ≡ Some (in_block (Some b))) × (v ≡ pointer (P.Block b 0)))
        → Claim (rest v f w) n (state q) q.before)
        → Claim (held kind at s rest f w) n (state q) q.before
    by_held (Some (by_name (Some v))) kind at rest f w n q h = h v (inl refl)
    by_held (Some (in_block (Some b))) kind at rest f w n q h = h (pointer (P.Block b 0)) (inr (b, refl, refl))
    by_held (Some (by_name None)) kind at rest f w n q h = claims.undefined kind at w n (state q) q.before
    by_held (Some (in_block None)) kind at rest f w n q h = claims.undefined kind at w n (state q) q.before
    by_held None kind at rest f w n q h = claims.undefined kind at w n (state q) q.before

    pub by_read : (a : Operand) (rest : Value → Frame → World → End) (f : Frame) (w : World) (n : ℕ) (q : Point)
        → ((v : Value) → Reads f a v → Claim (rest v f w) n (state q) q.before) → Claim (read a rest f w) n (state q) q.before
    by_read (O.Word k) rest f w n q h = h (word k) refl
    by_read O.Null rest f w n q h = h (pointer P.Null) refl
    by_read (O.Function k) rest f w n q h = h (pointer (P.Function k)) refl
    by_read (O.Object k) rest f w n q h = h (pointer (P.Block k 0)) refl
    by_read (O.Temp kind t at) rest f w n q h = by_held (slice_get f t) kind at rest f w n q h

    pub by_tested : {A : Type 0} (r : Tested A) (place : Place) (rest : A → Frame → World → End) (f : Frame) (w : World) (n : ℕ) (q : Point)
        → ((x : A) → r ≡ Ok x → Claim (rest x f w) n (state q) q.before) → Claim (tested place r rest f w) n (state q) q.before
    by_tested (Ok x) place rest f w n q h = h x refl
    by_tested (Err kind) place rest f w n q h = claims.undefined kind place w n (state q) q.before

    -- ---- an operand comes into a register

    module _ (m : Moment) (q : Point) (ready : Ready ground p m q) (e : End) (n : ℕ) (r : ℕ) (low : 2 < r) (high : r < 32) where
      abbrev Behind : (x : ℕ) → List Inst → Type 0
      Behind x code = Ready ground p m (with_register q r x code) → Claim e n (state (with_register q r x code)) (with_register q r x code).before

      pub moved : (x : ℕ) (code : List Inst) → Ready ground p m (with_register q r x code)
      moved x code =
          elsewhere ground p m q ready (put q.f r x) (q.pc + 4 * length code) (put_other q.f r x 0 (λ d. omega arith)) (put_other q.f r x 2 (λ d. omega arith))
          (omega (arith, ready.code)) (omega (arith, ready.whole))

      get_number : (k : ℕ) → k < 2 ^ 32 → Here ground p q.pc (number_code r k) → Behind k (number_code r k) → Claim e n (state q) q.before
      get_number k small code c =
          let d : k % 2 ^ 32 ≡ k = omega arith in
          by_number ground (goal e n q) q.f q.pc q.memory ready.world.keeps ready.code r k (omega arith) high ready.nil code
          (subst (λ z. Claim e n (at (put q.f r z) (q.pc + 4 * length (number_code r k)) q.memory q.input q.output) q.before) (sym d)
          (c (moved k (number_code r k))))

      get_place : (k : ℕ) → k < 2 ^ 32 → Here ground p q.pc (place_code r k) → Behind k (place_code r k) → Claim e n (state q) q.before
      get_place k small code c =
          let d : k % 2 ^ 32 ≡ k = omega arith in
          by_place ground (goal e n q) q.f q.pc q.memory ready.world.keeps ready.code r k (omega arith) high code
          (subst (λ z. Claim e n (at (put q.f r z) (q.pc + 4 + 4) q.memory q.input q.output) q.before) (sym d)
          (here ground (goal e n q) (put q.f r k) (q.pc + 4 + 4) (q.pc + 4 * length (place_code r k)) q.memory (omega arith) (c (moved k (place_code r k)))))

      -- the value of a temporary
      pub get_temporary : (t : ℕ) (v : Value)
          → ((slice_get m.frame t ≡ Some (by_name (Some v))) ⊎ ((b : ℕ) × (slice_get m.frame t ≡ Some (in_block (Some b))) × (v ≡ pointer (P.Block b 0))))
          → Here ground p q.pc (temporary_code m.g m.l r t)
          → ((x : ℕ) → Means p.code p.places m.blocks v x → x < 2 ^ 32 → Behind x (temporary_code m.g m.l r t)) → Claim e n (state q) q.before
      get_temporary t v (inl is) code c =
          let shows = ready.frame.shows t (by_name (Some v)) is in
          let lt : t < slots m.g = omega (arith, get_below m.frame t (by_name (Some v)) is, ready.frame.count) in
          let place = slot_place ground p m q ready t lt in
          let a = m.sp + slot_at t in
          let x = word_at q.memory a in
          subst (λ (b : Bool). Here ground p q.pc (cond b (address_code r 2 (slice_index m.l.blocks t)) (fetch_code r 2 (slot_at t)))
          → Behind x (cond b (address_code r 2 (slice_index m.l.blocks t)) (fetch_code r 2 (slot_at t))) → Claim e n (state q) q.before) (sym shows.0)
          (λ code c. by_fetch ground (goal e n q) q.f q.pc q.memory ready.world.keeps ready.code r 2 (slot_at t) a (omega arith) high (omega arith)
          (λ d. omega arith) code place.is place.whole (ground.read a 4 (inr (inl (place.low, place.high))))
          (ground.quiet_load a 4 (omega (arith, place.high, ground.stack_end))) (c (moved x (fetch_code r 2 (slot_at t)))))
          code (c x shows.1 (word_fits q.memory a ready.world.keeps.bytes))
      get_temporary t v (inr (b, is, same)) code c =
          let shows = ready.frame.shows t (in_block (Some b)) is in
          let offset = slice_index m.l.blocks t in
          let a = m.sp + offset in
          let small = (extent_small m q ready b _ shows.2).1 in
          let sum : (q.f 2 + offset) % 2 ^ 32 ≡ a = omega (arith, ready.stack) in
          let means : Points p.code p.places m.blocks (P.Block b 0) a = (_, shows.2, omega arith, omega arith) in
          subst (λ (z : Bool). Here ground p q.pc (cond z (address_code r 2 offset) (fetch_code r 2 (slot_at t)))
          → Behind a (cond z (address_code r 2 offset) (fetch_code r 2 (slot_at t))) → Claim e n (state q) q.before) (sym shows.0)
          (λ code c. by_address ground (goal e n q) q.f q.pc q.memory ready.world.keeps ready.code r 2 offset a (omega arith) high (omega arith)
          (λ d. omega arith) code sum (c (moved a (address_code r 2 offset))))
          code (c a (subst (λ z. Means p.code p.places m.blocks z a) (sym same) means) (omega arith))

      pub by_get : (a : Operand) (v : Value) → Reads m.frame a v → OperandFits p.code p.places a → Here ground p q.pc (get_code p.places m.g m.l r a)
          → ((x : ℕ) → Means p.code p.places m.blocks v x → x < 2 ^ 32 → Behind x (get_code p.places m.g m.l r a)) → Claim e n (state q) q.before
      by_get (O.Word k) v is fits code c = get_number k fits code (c k (subst (λ z. Means p.code p.places m.blocks z k) (sym is) refl) fits)
      by_get O.Null v is fits code c =
          get_number 0 (omega arith) code (c 0 (subst (λ z. Means p.code p.places m.blocks z 0) (sym is) refl) (omega arith))
      by_get (O.Function k) v is fits code c =
          let x = slice_index p.places.entries k in
          let below = (entry_small k fits).1 in
          let small : x < 2 ^ 32 = omega arith in
          get_place x small code (c x (subst (λ z. Means p.code p.places m.blocks z x) (sym is) (fits, refl)) small)
      by_get (O.Object k) v is fits code c =
          let x = slice_index p.places.objects k in
          let o = ready.world.objects k fits in
          let small = extent_small m q ready k o.0 o.1 in
          let means : Points p.code p.places m.blocks (P.Block k 0) x = (o.0, o.1, omega arith, omega (arith, o.2)) in
          let lt : x < 2 ^ 32 = omega (arith, o.2, small.1) in
          get_place x lt code (c x (subst (λ z. Means p.code p.places m.blocks z x) (sym is) means) lt)
      by_get (O.Temp kind t at) v is fits code c = get_temporary t v is code c

    -- ---- what a step gives goes to its temporary, and the run goes on

    module _ (next : Next) (follows : Follows ground p Claim next) (m : Moment) (q : Point) (ready : Ready ground p m q) where
      abbrev pub with_value : (t : ℕ) → Option Value → Moment
      with_value t o = record m { frame = with_temp t (by_name o) m.frame }

      pub by_give : (rs t x : ℕ) (o : Option Value) → rs < 32 → rs ≢ 7 → q.f rs ≡ x → ((v : Value) → o ≡ Some v → x < 2 ^ 32) → t < slots m.g → is_block m.g t ≡ false
          → ((v : Value) → o ≡ Some v → Means p.code p.places m.blocks v x)
          → Here ground p q.pc (give_code t rs ++ steps_code p.places m.g m.l m.more)
          → Claim (next m.callers m.g m.more (with_temp t (by_name o) m.frame) m.w) m.w.turns (state q) q.before
      by_give rs t x o lt ne value small inside opened means code =
          let e = next m.callers m.g m.more (with_temp t (by_name o) m.frame) m.w in
          let place = slot_place ground p m q ready t inside in
          let a = m.sp + slot_at t in
          let rest = steps_code p.places m.g m.l m.more in
          let pc = q.pc + 4 * length (give_code t rs) in
          by_keep ground (goal e m.w.turns q) q.f q.pc q.memory ready.world.keeps ready.code rs 2 (slot_at t) a x lt (omega arith) ne (λ d. omega arith)
          (code_front ground q.pc (give_code t rs) rest code) place.is place.whole (ground.write a 4 (inr (inl (place.low, place.high))))
          (ground.quiet_store a 4 (omega (arith, place.high, ground.stack_end))) value
          (λ g same. follows (with_value t o) (record q { f = g; pc = pc; memory = M.with_word q.memory a x })
          (given ground p m q ready t o inside opened x small means g pc (same 0 (λ d. omega arith)) (same 2 (λ d. omega arith)) (omega (arith, ready.code))
          (omega (arith, ready.whole)))
          (code_back ground q.pc (give_code t rs) rest code))
