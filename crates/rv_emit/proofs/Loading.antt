-- Loads by expressions of the program, with what is told of them.
use Rattle.std.proofs.Common.{◌≡◌, ℕ, zero, suc, ◌+◌, ◌%◌, ◌^◌, ◌<◌, ◌≤◌, inl, inr, Bool, true, false, List, [], ◌∷◌, length, Option, Some, None, pos}
use Rattle.std.proofs.Common.{slice_get, refl, ap, sym, ◌∙◌, subst, arith}
use Rattle.std.specs.Prelude.{unwrap_or}
use Rattle.std.proofs.lemmas.Int.{ints}
use Rattle.lay_base.specs.declared.place.Place.{Place}
use Rattle.c_types.specs.declared.ty.IntKind.TheVariants as I
use Rattle.memory_words.specs.declared.cell_words.pointer.Ptr.{Ptr}
use Rattle.memory_words.specs.declared.cell_words.pointer.Ptr.TheVariants as P
use Rattle.block_memory.specs.declared.kinds.Access.{Access}
use Rattle.block_memory.specs.declared.kinds.Access.TheVariants.{Number, Pointer}
use Rattle.block_memory.specs.declared.kinds.BlockKind.{BlockKind}
use Rattle.block_memory.specs.declared.kinds.BlockKind.TheVariants as Kind
use Rattle.block_memory.specs.Blocks.{Block, ended, is_live, kind, lives_in}
use Rattle.block_memory.specs.Lifetimes.{is_heap}
use Rattle.block_memory.specs.RunWorlds.Events as E
use Rattle.block_memory.specs.RunWorlds.Scalars.{load_in, note_if, note_in, pointer_of, width_of}
use Rattle.block_memory.specs.RunWorlds.Worlds.{World}
use Rattle.block_memory.specs.declared.run_worlds.value.Value.{Value}
use Rattle.block_memory.specs.declared.run_worlds.value.Value.TheVariants.{Word as word, Pointer as pointer}
use Rattle.c_meaning.specs.declared.frame.Slot.TheVariants.{ByName as by_name}
use Rattle.rv_isa.specs.Arithmetic.{plus}
use Rattle.rv_isa.specs.Events.{MachineEvent, Load, loads_at}
use Rattle.rv_runtime.specs.Steps.States.{later, put}
use Rattle.rv_runtime.proofs.Steps.Operators.{by_load_of}
use Rattle.tac_ir.specs.Running.{Next, with_temp}
use Rattle.tac_ir.specs.declared.step.Operand.{Operand}
use Rattle.tac_ir.specs.declared.step.Step.TheVariants as S
use Rattle.rv_code.specs.Code.{get_code, give_code, steps_code}
use Rattle.rv_code.specs.Words.{load_by}
use Rattle.rv_emit.specs.Maps.{Extent, Means, Points, Within}
use Rattle.rv_emit.specs.Grounds.{Ground, InRoom}
use Rattle.rv_emit.specs.Relation.{Program, Moment, Point, Ready, IsBuilt}
use Rattle.rv_emit.specs.Claims.{Claims, AreClaims, Follows, state}
use Rattle.rv_emit.proofs.Accesses.{Loaded, load_is, loaded, loaded_fits, loaded_is}
use Rattle.rv_emit.proofs.Giving.{elsewhere}
use Rattle.rv_emit.proofs.Lists.{get_below}
use Rattle.rv_emit.proofs.Moves.{parts}
use Rattle.rv_emit.proofs.Noting.{told}
use Rattle.rv_emit.proofs.Plain.{Works, takes}
use Rattle.rv_emit.proofs.Values.{Reads, by_get, by_give, by_read, by_tested, entry_small, extent_small, with_register}

-- ---- where an access lies

-- an access at a multiple of its width, in a block at a multiple of 4
pub whole_at : (access : Access) (a at : ℕ) → a % 4 ≡ 0 → at % width_of access ≡ 0 → (a + at) % width_of access ≡ 0
whole_at (Pointer type) a at e d = omega arith
whole_at (Number I.Char) a at e d = omega arith
whole_at (Number I.SChar) a at e d = omega arith
whole_at (Number I.UChar) a at e d = omega arith
whole_at (Number I.Short) a at e d = omega arith
whole_at (Number I.UShort) a at e d = omega arith
whole_at (Number I.Int) a at e d = omega arith
whole_at (Number I.UInt) a at e d = omega arith
whole_at (Number I.Long) a at e d = omega arith
whole_at (Number I.ULong) a at e d = omega arith

pub wide : (access : Access) → (0 < width_of access) × (width_of access ≤ 4)
wide (Pointer type) = (omega arith, omega arith)
wide (Number I.Char) = (omega arith, omega arith)
wide (Number I.SChar) = (omega arith, omega arith)
wide (Number I.UChar) = (omega arith, omega arith)
wide (Number I.Short) = (omega arith, omega arith)
wide (Number I.UShort) = (omega arith, omega arith)
wide (Number I.Int) = (omega arith, omega arith)
wide (Number I.UInt) = (omega arith, omega arith)
wide (Number I.Long) = (omega arith, omega arith)
wide (Number I.ULong) = (omega arith, omega arith)

-- so many bytes in a block lie in its part of the address space, in the heap where the block is an allocation
pub record Lies (ground : Ground) (k : BlockKind) (a n : ℕ) : Type 0 where
  pub in_room : InRoom ground.room a n
  pub above : 0x08000100 ≤ a
  pub below : a + n < 2 ^ 31
  pub heap : is_heap k ≡ true → (0x20000000 ≤ a) × (a + n ≤ ground.room.heap_end)
  pub other : is_heap k ≡ false → a + n ≤ 0x20000000

pub lies : (ground : Ground) (k : BlockKind) (e : Extent) (at n : ℕ) → Within ground.room k e → at + n ≤ e.size → Lies ground k (e.at + at) n
lies ground Kind.Local e at n h le = record {
  in_room = inr (inl (omega (arith, h.0), omega (arith, h.1)));
  above = omega (arith, h.0);
  below = omega (arith, h.1, ground.stack_end);
  heap = λ d. absurd cc;
  other = λ d. omega (arith, h.1, ground.stack_end);
}
lies ground Kind.Heap e at n h le = record {
  in_room = inr (inr (omega (arith, h.0), omega (arith, h.1)));
  above = omega (arith, h.0);
  below = omega (arith, h.1, ground.heap_end);
  heap = λ d. (omega (arith, h.0), omega (arith, h.1));
  other = λ d. absurd cc;
}
lies ground Kind.Global e at n h le = record {
  in_room = inl (omega (arith, h.0), omega (arith, h.1));
  above = omega (arith, h.0);
  below = omega (arith, h.1, ground.data_end);
  heap = λ d. absurd cc;
  other = λ d. omega (arith, h.1, ground.data_end);
}
lies ground Kind.Text e at n h le = record {
  in_room = inl (omega (arith, h.0), omega (arith, h.1));
  above = omega (arith, h.0);
  below = omega (arith, h.1, ground.data_end);
  heap = λ d. absurd cc;
  other = λ d. omega (arith, h.1, ground.data_end);
}

abbrev no_block : Block
no_block = record { kind = Kind.Local; contents = ended 0 }

extent_there : {A : Type 0} (all : List A) (i : ℕ) → i < length all → (x : A) × (slice_get all i ≡ Some x)
extent_there [] i lt = absurd (omega arith)
extent_there (x ∷ all) zero lt = (x, refl)
extent_there (x ∷ all) (suc i) lt = extent_there all i (omega arith)

module _ (ground : Ground) (p : Program) (built : IsBuilt ground p) (m : Moment) (q : Point) (ready : Ready ground p m q) where
  abbrev At : Ptr → ℕ → Type 0
  At r x = Points p.code p.places m.blocks r x

  pub points_small : (r : Ptr) (x : ℕ) → At r x → x < 2 ^ 32
  points_small P.Null x h = omega arith
  points_small (P.Block b at) x h = (let e = extent_small ground p built m q ready b h.0 h.1 in omega (arith, e.1, h.2, h.3))
  points_small (P.Function f) x h = (let e = entry_small ground p built f h.0 in omega (arith, e.1, h.1))

  -- where the bytes of a live block are
  pub live_extent : (b : ℕ) → is_live m.w.memory b ≡ true → (e : Extent) × (slice_get m.blocks b ≡ Some e)
  live_extent b live = extent_there m.blocks b (omega (arith, ready.world.flat.long, by_option (slice_get m.w.memory b) refl live))
    where
      by_option : (o : Option Block) → slice_get m.w.memory b ≡ o → lives_in (unwrap_or o no_block).contents ≡ true → b < length m.w.memory
      by_option (Some x) e l = get_below m.w.memory b x e
      by_option None e l = absurd cc

  -- the address of an access, where its pointer came into a register
  pub address_is : (v : Value) (b at x : ℕ) (e : Extent) → pointer_of v ≡ P.Block b at → Means p.code p.places m.blocks v x → slice_get m.blocks b ≡ Some e → x ≡ e.at + at
  address_is (word n) b at x e is means h = absurd cc
  address_is (pointer r) b at x e is means h =
      (let k = subst (λ i. At i x) is means in
      let d : Some k.0 ≡ Some e = sym k.1 ∙ h in
      let same : k.0 ≡ e = cc in
      k.3 ∙ ap (λ (i : Extent). i.at + at) same)

  module _ (Claim : Claims) (claims : AreClaims ground p Claim) (next : Next) (follows : Follows ground p Claim next) where
    -- ---- loads

    pub load_works : (t : ℕ) (at : Place) (access : Access) (a : Operand) → Works ground p built Claim claims next m q (S.Load t at access a)
    load_works t at access a code fits =
        by_read ground p built Claim claims a _ m.frame m.w m.w.turns q
        λ v reads. by_tested ground p built Claim claims (load_in m.w.memory (pointer_of v) access) at _ m.frame m.w m.w.turns q
        λ z is.
        let ld = loaded_is p.code p.places m.blocks q.memory ground.room m.owner m.w.memory ready.world.flat points_small ready.world.keeps.bytes (pointer_of v) access
        z is in
        subst (λ r. Claim (note_in m.w.memory r (λ b at. E.loaded b at (width_of access)) (λ u f w. next m.callers m.g m.more (with_temp t (by_name (Some z)) f) w) m.frame m.w)
        m.w.turns (state q) q.before) (sym ld.found.is)
        (by_kind v z reads ld (is_heap (kind m.w.memory ld.b)) refl)
      where
        -- the load and what follows, with the events that are told
        by_load : (v z : Value) → Reads m.frame a v → (ld : Loaded p.code p.places m.blocks q.memory m.w.memory (pointer_of v) access z) → (e : Extent)
            → slice_get m.blocks ld.b ≡ Some e → (w : World) (made : List MachineEvent) → loads_at ground.segments (e.at + ld.at) (width_of access) ≡ made
            → Lies ground (kind m.w.memory ld.b) (e.at + ld.at) (width_of access)
            → Ready ground p (record m { w = w }) (record q { before = later made q.before })
            → Claim (next m.callers m.g m.more (with_temp t (by_name (Some z)) m.frame) w) w.turns (state q) q.before
        by_load v z reads ld e is w made tells lie ready' =
            let get = get_code p.places m.g m.l 5 a in
            let rest = steps_code p.places m.g m.l m.more in
            let d = parts ground q.pc get (load_by access 5 5 (pos 0) ∷ give_code t 5) rest code in
            let end = next m.callers m.g m.more (with_temp t (by_name (Some z)) m.frame) w in
            let m' : Moment = record m { w = w } in
            by_get ground p built Claim claims m q ready end w.turns 5 (omega arith) (omega arith) a v reads (fits.operands 0 a (omega arith)) d.0
            λ x means small ready_x.
            let r = with_register q 5 x get in
            let place = e.at + ld.at in
            let y = loaded access q.memory place in
            let address = address_is v ld.b ld.at x e ld.found.is means is in
            let same : plus x (pos 0) ≡ place = omega (arith, ints) in
            let placed = ready.world.flat.placed ld.b e is in
            let f' = put r.f 5 y in
            let r' : Point = record r { f = f'; pc = r.pc + 4; before = later made q.before } in
            let takes_it = takes ground p built Claim claims next follows m' t fits.slot fits.kinds.0 in
            by_load_of ground.segments ground.text (Claim end) (claims.backward end) r.f r.pc r.memory r.input r.output ready_x.world.keeps ready_x.code w.turns r.before
            (load_by access 5 5 (pos 0)) d.1.0 made 5 5 place (width_of access) y (pos 0) (loaded access) (load_is access) (omega arith) (omega arith) same
            (whole_at access e.at ld.at placed.whole ld.found.whole) (ground.read place (width_of access) lie.in_room) tells refl
            (by_give ground p built Claim claims next follows m' r'
            (elsewhere ground p m' (record q { before = later made q.before }) ready' f' (r.pc + 4) refl refl (omega (arith, ready_x.code)) (omega (arith, ready_x.whole)))
            5 t y (Some z) (omega arith) (λ k. omega arith) refl (λ u k. loaded_fits access q.memory place ready.world.keeps.bytes) takes_it.slot takes_it.opened
            (λ u k. let l : z ≡ u = cc in subst (λ i. Means p.code p.places m.blocks i y) l (ld.means e is)) d.1.1)

        by_kind : (v z : Value) → Reads m.frame a v → (ld : Loaded p.code p.places m.blocks q.memory m.w.memory (pointer_of v) access z)
            → (tell : Bool) → is_heap (kind m.w.memory ld.b) ≡ tell
            → Claim (note_if tell (E.loaded ld.b ld.at (width_of access)) (λ u f w. next m.callers m.g m.more (with_temp t (by_name (Some z)) f) w) m.frame m.w)
            m.w.turns (state q) q.before
        by_kind v z reads ld true heap =
            let ext = live_extent ld.b ld.found.live in
            let e = ext.0 in
            let placed = ready.world.flat.placed ld.b e ext.1 in
            let lie = lies ground (kind m.w.memory ld.b) e ld.at (width_of access) placed.within (omega (arith, ld.found.fits, placed.sized)) in
            let k = lie.heap heap in
            let n = wide access in
            let w : World = record m.w { trace = E.loaded ld.b ld.at (width_of access) ∷ m.w.trace } in
            by_load v z reads ld e ext.1 w (Load (e.at + ld.at) (width_of access) ∷ [])
            (ground.told_load (e.at + ld.at) (width_of access) k.0 (omega (arith, k.1, n.0))) lie
            (told ground p m q ready w (Load (e.at + ld.at) (width_of access) ∷ q.before) refl refl refl (omega arith) refl (e, q.before, ext.1, refl, ready.world.made))
        by_kind v z reads ld false heap =
            let ext = live_extent ld.b ld.found.live in
            let e = ext.0 in
            let placed = ready.world.flat.placed ld.b e ext.1 in
            let lie = lies ground (kind m.w.memory ld.b) e ld.at (width_of access) placed.within (omega (arith, ld.found.fits, placed.sized)) in
            let n = wide access in
            by_load v z reads ld e ext.1 m.w [] (ground.quiet_load (e.at + ld.at) (width_of access) (omega (arith, lie.other heap, n.0))) lie ready
