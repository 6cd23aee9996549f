-- Blocks of locals that hold nothing again, and blocks that end.
use Rattle.std.proofs.Common.{◌≡◌, ◌≢◌, ℕ, zero, suc, ◌+◌, ◌≤◌, inl, inr, Bool, true, false, cond, eqb, List, [], ◌∷◌, replicate, Option, Some, None}
use Rattle.std.proofs.Common.{slice_get, slice_set, slice_index, refl, ap, sym, ◌∙◌, subst, arith, length-set}
use Rattle.std.specs.Prelude.{unwrap_or}
use Rattle.std.proofs.lemmas.List.{length-replicate}
use Rattle.std.proofs.lemmas.Bool.{both_ways, cases_eq, eq-eqb, ne_eqb}
use Rattle.memory_words.specs.declared.cell_words.cell.Cell.{Cell}
use Rattle.memory_words.specs.declared.cell_words.cell.Cell.TheVariants as C
use Rattle.block_memory.specs.Blocks.{Memory, Block, Contents, living, ended, overwritten, block, cells_in, kind, lives_in, size, size_in, with_cells}
use Rattle.block_memory.specs.declared.kinds.BlockKind.TheVariants.{Local}
use Rattle.block_memory.specs.Lifetimes.{with_end}
use Rattle.block_memory.specs.RunWorlds.Worlds.{World}
use Rattle.block_memory.specs.declared.run_worlds.value.Value.{Value}
use Rattle.lay_base.specs.declared.faults.UndefinedKind.{UndefinedKind}
use Rattle.lay_base.specs.declared.place.Place.{Place}
use Rattle.c_meaning.specs.Frames.{Frame}
use Rattle.c_meaning.specs.declared.frame.Slot.{Slot}
use Rattle.c_meaning.specs.declared.frame.Slot.TheVariants.{ByName as by_name, InBlock as in_block}
use Rattle.rv_isa.specs.Events.{MachineEvent}
use Rattle.rv_isa.specs.Memory as M
use Rattle.rv_isa.specs.Memory.{word_at}
use Rattle.rv_code.specs.Code.{is_block}
use Rattle.rv_code.specs.Frames.{block_sizes}
use Rattle.rv_code.specs.declared.layout.Layout.{Layout}
use Rattle.tac_ir.specs.Code.{RoutineData}
use Rattle.tac_ir.specs.Running.{Caller, Next, emptied, end_slot}
use Rattle.tac_ir.specs.declared.step.Step.TheVariants as S
use Rattle.rv_emit.specs.Maps.{Extent, Extents, Flat, Shows, Within, cell_of}
use Rattle.rv_emit.specs.Grounds.{Ground}
use Rattle.rv_emit.specs.Relation.{Program, Moment, Point, Ready, Callers, Framed, IsBuilt, OwnedBy, SlotShows, Worldly}
use Rattle.rv_emit.specs.Claims.{Claims, AreClaims, Follows, state}
use Rattle.rv_emit.proofs.Cells.{block_other, flat_written}
use Rattle.rv_emit.proofs.Lists.{set_other, set_same}
use Rattle.rv_emit.proofs.Plain.{Works}
use Rattle.rv_emit.proofs.Storing.{changed}

-- ---- owners without a block

abbrev is_owner : Option ℕ → (b : ℕ) → Bool
is_owner None b = false
is_owner (Some c) b = eqb c b

abbrev pub without : (ℕ → Option ℕ) → (b : ℕ) → ℕ → Option ℕ
without owner b a = cond (is_owner (owner a) b) None (owner a)

-- fewer addresses are owned, each by its old owner
pub record Fewer (old new : ℕ → Option ℕ) : Type 0 where
  pub none : (a : ℕ) → old a ≡ None → new a ≡ None
  pub some : (a b : ℕ) → new a ≡ Some b → old a ≡ Some b

by_owner : (o : Option ℕ) (b c : ℕ) → cond (is_owner o b) None o ≡ Some c → (o ≡ Some c) × (c ≢ b)
by_owner None b c e = absurd cc
by_owner (Some d) b c e = by_test (eqb d b) refl e
  where
    by_test : (t : Bool) → eqb d b ≡ t → cond t None (Some d) ≡ Some c → (Some d ≡ Some c) × (c ≢ b)
    by_test true k e = absurd cc
    by_test false k e = (e, λ z. let same : d ≡ b = (let i : d ≡ c = cc in i ∙ z) in both_ways (eqb d b) k (eq-eqb d b same))

pub fewer_without : (owner : ℕ → Option ℕ) (b : ℕ) → Fewer owner (without owner b)
fewer_without owner b = record {
  none = λ a e. ap (λ (o : Option ℕ). cond (is_owner o b) None o) e;
  some = λ a c e. (by_owner (owner a) b c e).0;
}

pub without_other : (owner : ℕ → Option ℕ) (b a c : ℕ) → without owner b a ≡ Some c → c ≢ b
without_other owner b a c e = (by_owner (owner a) b c e).1

pub without_kept : (owner : ℕ → Option ℕ) (b a c : ℕ) → owner a ≡ Some c → c ≢ b → without owner b a ≡ Some c
without_kept owner b a c e ne = ap (λ (o : Option ℕ). cond (is_owner o b) None o) e ∙ ap (λ (t : Bool). cond t None (Some c)) (ne_eqb c b ne)

-- ---- frames and the world, where fewer addresses are owned

module _ (ground : Ground) (p : Program) (blocks : Extents) (old new : ℕ → Option ℕ) (fewer : Fewer old new) (memory : M.Memory) where
  owned_fewer : (at n : ℕ) (o : Option ℕ) → OwnedBy ground p blocks old memory at n o → OwnedBy ground p blocks new memory at n o
  owned_fewer at n o h a b low high e = h a b low high (fewer.some a b e)

  pub slot_fewer : (g : RoutineData) (l : Layout) (sp t : ℕ) (s : Slot) → SlotShows ground p blocks old memory g l sp t s → SlotShows ground p blocks new memory g l sp t s
  slot_fewer g l sp t (by_name None) h = h
  slot_fewer g l sp t (by_name (Some v)) h = h
  slot_fewer g l sp t (in_block None) h = (h.0, owned_fewer (sp + slice_index l.blocks t) (slice_index (block_sizes g) t) None h.1)
  slot_fewer g l sp t (in_block (Some b)) h = (h.0, owned_fewer (sp + slice_index l.blocks t) (slice_index (block_sizes g) t) (Some b) h.1, h.2)

  pub framed_fewer : (number : ℕ) (g : RoutineData) (l : Layout) (f : Frame) (sp : ℕ) → Framed ground p blocks old memory number g l f sp
      → Framed ground p blocks new memory number g l f sp
  framed_fewer number g l f sp fr = record {
    laid = fr.laid;
    locals = fr.locals;
    count = fr.count;
    shows = λ t s e. slot_fewer g l sp t s (fr.shows t s e);
    whole = fr.whole;
    low = fr.low;
    high = fr.high;
    private = λ a low high. fewer.none a (fr.private a low high);
    owns = λ a b low high e. fr.owns a b low high (fewer.some a b e);
  }

  pub callers_fewer : (numbers : List ℕ) (all : List Caller) (sp back : ℕ) → Callers ground p blocks old memory numbers all sp back
      → Callers ground p blocks new memory numbers all sp back
  callers_fewer [] [] sp back h = h
  callers_fewer [] (one ∷ more) sp back h = h
  callers_fewer (number ∷ numbers) [] sp back h = h
  callers_fewer (number ∷ numbers) (one ∷ more) sp back h = (
    h.0,
    framed_fewer number one.routine h.0 one.frame sp h.1,
    h.2,
    h.3,
    h.4,
    h.5,
    h.6,
    callers_fewer numbers more (sp + h.0.size) (word_at memory sp) h.7,
  )

  pub world_fewer : (w : World) (after : Memory) (input output : List ℕ) (before : List MachineEvent) → Flat p.code p.places ground.room blocks new after memory
      → Worldly ground p blocks old w memory input output before → Worldly ground p blocks new (record w { memory = after }) memory input output before
  world_fewer w after input output before flat world = record {
    keeps = world.keeps;
    flat = flat;
    objects = world.objects;
    unused = λ a low high. fewer.none a (world.unused a low high);
    zero = world.zero;
    heap_low = world.heap_low;
    heap_high = world.heap_high;
    heap_whole = world.heap_whole;
    heap_used = world.heap_used;
    heap_limit = world.heap_limit;
    runtime = λ a low high. fewer.none a (world.runtime a low high);
    texts = λ a bytes is. let h = world.texts a bytes is in (h.0, h.1, h.2, λ i lt. fewer.none (a + i) (h.3 i lt));
    input_is = world.input_is;
    input_bytes = world.input_bytes;
    output_is = world.output_is;
    made = world.made;
  }

-- ---- a block ends

abbrev no_block : Block
no_block = record { kind = Local; contents = ended 0 }

-- past the last block nothing changes
past : (all : Memory) (i : ℕ) (x : Block) → slice_get all i ≡ None → block (slice_set all i x) i ≡ record { kind = kind all i; contents = ended (size all i) }
past [] i x e = refl
past (y ∷ all) zero x e = absurd cc
past (y ∷ all) (suc i) x e = past all i x e

module _ (ground : Ground) (p : Program) (blocks : Extents) (owner : ℕ → Option ℕ) (m : Memory) (memory : M.Memory)
    (flat : Flat p.code p.places ground.room blocks owner m memory) (b : ℕ) where
  abbrev over : Block
  over = record { kind = kind m b; contents = ended (size m b) }

  block_is : block (with_end m b) b ≡ over
  block_is = by_option (slice_get m b) refl
    where
      by_option : (o : Option Block) → slice_get m b ≡ o → block (with_end m b) b ≡ over
      by_option (Some x) e = ap (λ (o : Option Block). unwrap_or o no_block) (set_same m b over x e)
      by_option None e = past m b over e

  pub other_cell : (c i : ℕ) (x : Cell) → cell_of (with_end m b) c i ≡ Some x → (c ≢ b) × (cell_of m c i ≡ Some x)
  other_cell c i x e = elim (cases_eq c b) [
    | inl same ↦
        absurd (let d : cell_of (with_end m b) b i ≡ Some x = ap (λ (z : ℕ). cell_of (with_end m b) z i) (sym same) ∙ e in
        let k : slice_get (cells_in over.contents) i ≡ Some x = ap (λ (z : Block). slice_get (cells_in z.contents) i) (sym block_is) ∙ d in cc)
    | inr ne ↦ (ne, ap (λ (z : Block). slice_get (cells_in z.contents) i) (sym (block_other m b c over ne)) ∙ e)
  ]

  pub flat_ended : Flat p.code p.places ground.room blocks (without owner b) (with_end m b) memory
  flat_ended = record {
    long = flat.long ∙ sym (length-set m b over);
    placed = λ c e h.
        let one = flat.placed c e h in
        elim (cases_eq c b) [
          | inl same ↦
              (let d : block (with_end m b) c ≡ over = ap (block (with_end m b)) same ∙ block_is in
              let k : kind (with_end m b) c ≡ kind m c = ap (λ (z : Block). z.kind) d ∙ ap (kind m) (sym same) in
              record {
                sized = ap (λ (z : Block). size_in z.contents) d ∙ ap (size m) (sym same) ∙ one.sized;
                whole = one.whole;
                within = subst (λ i. Within ground.room i e) (sym k) one.within;
              })
          | inr ne ↦ (let d = block_other m b c over ne in
              record {
                sized = ap (λ (z : Block). size_in z.contents) d ∙ one.sized;
                whole = one.whole;
                within = subst (λ (z : Block). Within ground.room z.kind e) (sym d) one.within;
              })
        ];
    shows = λ c i e x h is. flat.shows c i e x h (other_cell c i x is).1;
    owned = λ c i e x h is. let k = other_cell c i x is in without_kept owner b (e.at + i) c (flat.owned c i e x h k.1) k.0;
  }

  -- what is written into a block that has ended changes nothing
  pub flat_dead : Flat p.code p.places ground.room blocks owner (with_end m b) memory
  flat_dead = record {
    long = flat_ended.long;
    placed = flat_ended.placed;
    shows = flat_ended.shows;
    owned = λ c i e x h is. let k = other_cell c i x is in flat.owned c i e x h k.1;
  }

  pub flat_emptied : (n : ℕ) → n ≤ size m b → (e : Extent) → slice_get blocks b ≡ Some e
      → Flat p.code p.places ground.room blocks owner (with_cells m b 0 (replicate n C.Empty)) memory
  flat_emptied n le e placed = by_contents (block m b).contents refl
    where
      empty : (n i : ℕ) (c : Cell) → slice_get (replicate n C.Empty) i ≡ Some c → C.Empty ≡ c
      empty zero i c g = absurd cc
      empty (suc n) zero c g = cc
      empty (suc n) (suc i) c g = empty n i c g

      by_contents : (k : Contents) → (block m b).contents ≡ k → Flat p.code p.places ground.room blocks owner (with_cells m b 0 (replicate n C.Empty)) memory
      by_contents (living all) is =
          flat_written p.code p.places ground.room blocks owner m memory memory flat b 0 e (replicate n C.Empty) (ap lives_in is)
          (omega (arith, length-replicate n C.Empty)) placed
          (λ i c g. subst (λ z. Shows p.code p.places blocks z (memory (e.at + 0 + i))) (empty n i c g) tt) (λ x out. refl)
      by_contents (ended k) is =
          let same : with_end m b ≡ with_cells m b 0 (replicate n C.Empty) =
          ap (λ (z : Contents). slice_set m b (record { kind = kind m b; contents = ended (size_in z) })) is
          ∙ sym (ap (λ (z : Contents). slice_set m b (record { kind = kind m b; contents = overwritten z 0 (replicate n C.Empty) })) is) in
          subst (λ z. Flat p.code p.places ground.room blocks owner z memory) same flat_dead

-- ---- steps

module _ (ground : Ground) (p : Program) (m : Moment) (q : Point) (ready : Ready ground p m q) where
  -- the block of a local ends
  abbrev pub ended_moment : (x b : ℕ) → Moment
  ended_moment x b = record m { owner = without m.owner b; frame = slice_set m.frame x (in_block None); w = record m.w { memory = with_end m.w.memory b } }

  pub ended_ready : (x b : ℕ) → slice_get m.frame x ≡ Some (in_block (Some b)) → Ready ground p (ended_moment x b) q
  ended_ready x b is =
      let fr = ready.frame in
      let fewer = fewer_without m.owner b in
      let flat = flat_ended ground p m.blocks m.owner m.w.memory q.memory ready.world.flat b in
      let here = fr.shows x (in_block (Some b)) is in
      let f = slice_set m.frame x (in_block None) in
      record {
        nil = ready.nil;
        stack = ready.stack;
        code = ready.code;
        whole = ready.whole;
        fits = ready.fits;
        world = world_fewer ground p m.blocks m.owner (without m.owner b) fewer q.memory m.w (with_end m.w.memory b) q.input q.output q.before flat ready.world;
        frame = record {
          laid = fr.laid;
          locals = omega (arith, fr.locals, length-set m.frame x (in_block None));
          count = omega (arith, fr.count, length-set m.frame x (in_block None));
          shows = λ t s e. elim (cases_eq t x) [
            | inl same ↦
                (let d : Some (in_block None) ≡ Some s = sym (set_same m.frame x (in_block None) (in_block (Some b)) is) ∙ ap (slice_get f) (sym same) ∙ e in
                let z : in_block None ≡ s = cc in
                subst (λ i. SlotShows ground p m.blocks (without m.owner b) q.memory m.g m.l m.sp i s) (sym same)
                (subst (SlotShows ground p m.blocks (without m.owner b) q.memory m.g m.l m.sp x) z
                (here.0, λ a c low high o. absurd (mine c (here.1 a c low high (fewer.some a c o)) (without_other m.owner b a c o)))))
            | inr ne ↦ slot_fewer ground p m.blocks m.owner (without m.owner b) fewer q.memory m.g m.l m.sp t s
                (fr.shows t s (sym (set_other m.frame x t (in_block None) ne) ∙ e))
          ];
          whole = fr.whole;
          low = fr.low;
          high = fr.high;
          private = λ a low high. fewer.none a (fr.private a low high);
          owns = λ a c low high o.
              let h = fr.owns a c low high (fewer.some a c o) in
              (h.0, set_other m.frame x h.0 (in_block None) (λ d. another c h.0 h.1 d (without_other m.owner b a c o)) ∙ h.1);
        };
        callers = callers_fewer ground p m.blocks m.owner (without m.owner b) fewer q.memory m.numbers m.callers (m.sp + m.l.size) (word_at q.memory m.sp) ready.callers;
        below = λ a low high. fewer.none a (ready.below a low high);
        runs = ready.runs;
      }
    where
      mine : (c : ℕ) → Some b ≡ Some c → c ≢ b → ⊥
      mine c e ne = (let d : b ≡ c = cc in ne (sym d))

      another : (c y : ℕ) → slice_get m.frame y ≡ Some (in_block (Some c)) → y ≡ x → c ≢ b → ⊥
      another c y e d ne = (let k : Some (in_block (Some c)) ≡ Some (in_block (Some b)) = sym e ∙ ap (slice_get m.frame) d ∙ is in let z : c ≡ b = cc in ne z)

  module _ (Claim : Claims) (claims : AreClaims ground p Claim) (built : IsBuilt ground p) (next : Next) (follows : Follows ground p Claim next) where
    pub end_works : (x : ℕ) → Works ground p built Claim claims next m q (S.End x)
    end_works x code fits = by_slot (slice_get m.frame x) refl
      where
        by_slot : (o : Option Slot) → slice_get m.frame x ≡ o
            → Claim (end_slot x o (λ u. next m.callers m.g m.more) m.frame m.w) m.w.turns (state q) q.before
        by_slot (Some (in_block (Some b))) is = follows (ended_moment x b) q (ended_ready x b is) code
        by_slot (Some (in_block None)) is = follows m q ready code
        by_slot (Some (by_name v)) is = follows m q ready code
        by_slot None is = follows m q ready code

    -- a block holds nothing again
    pub forget_works : (x n : ℕ) → Works ground p built Claim claims next m q (S.Forget x n)
    forget_works x n code fits = by_slot (slice_get m.frame x) refl
      where
        plain : (v : Option Value) → SlotShows ground p m.blocks m.owner q.memory m.g m.l m.sp x (by_name v) → is_block m.g x ≡ false
        plain None h = h
        plain (Some v) h = h.0

        by_slot : (o : Option Slot) → slice_get m.frame x ≡ o
            → Claim (emptied x n o (λ u. next m.callers m.g m.more) m.frame m.w) m.w.turns (state q) q.before
        by_slot (Some (in_block (Some b))) is =
            let shows = ready.frame.shows x (in_block (Some b)) is in
            let placed = ready.world.flat.placed b _ shows.2 in
            let flat = flat_emptied ground p m.blocks m.owner m.w.memory q.memory ready.world.flat b n (omega (arith, placed.sized, fits.numbers)) _ shows.2 in
            let after = with_cells m.w.memory b 0 (replicate n C.Empty) in
            follows (record m { w = record m.w { memory = after } }) q (changed ground p m q ready after q.memory ready.world.keeps flat (λ c none. refl)) code
        by_slot (Some (by_name v)) is =
            absurd (both_ways (is_block m.g x) (plain v (ready.frame.shows x (by_name v) is)) (ap (λ (o : Option Bool). unwrap_or o false) fits.kinds.1))
        by_slot (Some (in_block None)) is = follows m q ready code
        by_slot None is = follows m q ready code

    -- what is undefined
    pub fail_works : (kind' : UndefinedKind) (at : Place) → Works ground p built Claim claims next m q (S.Fail kind' at)
    fail_works kind' at code fits = claims.undefined kind' at m.w m.w.turns (state q) q.before
