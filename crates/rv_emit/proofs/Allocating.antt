-- An allocation: the routine gives the place behind the head of what was unused, and the new block has its bytes there.
use Rattle.std.proofs.Common.{◌≡◌, ℕ, zero, suc, ◌+◌, ◌<◌, ◌≤◌, inl, inr, Bool, true, false, List, [], ◌∷◌, ◌++◌, length, replicate, Option, Some, None}
use Rattle.std.proofs.Common.{slice_get, slice_index, refl, ap, sym, ◌∙◌, subst, arith}
use Rattle.std.proofs.lemmas.List.{length-replicate}
use Rattle.memory_words.specs.declared.cell_words.cell.Cell.{Cell}
use Rattle.memory_words.specs.declared.cell_words.cell.Cell.TheVariants as C
use Rattle.block_memory.specs.declared.kinds.BlockKind.TheVariants.{Heap}
use Rattle.block_memory.specs.Blocks.{Memory, Block, lives_in, size_in, with_cells}
use Rattle.block_memory.specs.Lifetimes.{with_block}
use Rattle.block_memory.specs.RunWorlds.Events as E
use Rattle.block_memory.specs.RunWorlds.Worlds.{World}
use Rattle.c_meaning.specs.Frames.{Frame}
use Rattle.c_meaning.specs.declared.frame.Slot.{Slot}
use Rattle.c_meaning.specs.declared.frame.Slot.TheVariants.{ByName as by_name, InBlock as in_block}
use Rattle.rv_isa.specs.Memory as M
use Rattle.rv_isa.specs.Memory.{word_at, with_word}
use Rattle.rv_isa.specs.Events.{Request, Reply}
use Rattle.rv_runtime.proofs.Steps.Words.{word_apart, word_again, keeps_word}
use Rattle.rv_runtime.specs.Routines.{data_place, head, taken}
use Rattle.rv_runtime.proofs.Rounded.{taken_stopped, taken_weighs, taken_whole}
use Rattle.rv_code.specs.Frames.{block_places, block_sizes, slot_at, slots}
use Rattle.rv_code.specs.declared.layout.Layout.{Layout}
use Rattle.tac_ir.specs.Code.{RoutineData}
use Rattle.tac_ir.specs.Running.{Caller}
use Rattle.rv_emit.specs.Maps.{Extent, Extents, Flat, Shows}
use Rattle.rv_emit.specs.Grounds.{Ground}
use Rattle.rv_emit.specs.Relation.{Program, Moment, Point, Ready, Callers, Framed, OwnedBy, SlotShows}
use Rattle.rv_emit.proofs.Beginning.{block_known}
use Rattle.rv_emit.proofs.Cells.{flat_written}
use Rattle.rv_emit.proofs.Giving.{keeps_owned, word_elsewhere}
use Rattle.rv_emit.proofs.Growing.{Grown, block_new, flat_grown, grown_range, made_more, means_more, with_range}
use Rattle.rv_emit.proofs.Keeping.{KeepsOther, frame_end, callers_stay, flat_stays, framed_stays}
use Rattle.rv_emit.proofs.Lists.{get_front, get_last, place_within}

-- ---- frames, where addresses beside the stack get an owner

module _ (ground : Ground) (p : Program) (blocks more : Extents) (old new : ℕ → Option ℕ) (memory : M.Memory)
    (same : (a : ℕ) → a < ground.room.stack_end → new a ≡ old a) where
  owned_beside : (at n : ℕ) (o : Option ℕ) → at + n ≤ ground.room.stack_end → OwnedBy ground p blocks old memory at n o
      → OwnedBy ground p (blocks ++ more) new memory at n o
  owned_beside at n o le h a c low high e = h a c low high (sym (same a (omega arith)) ∙ e)

  block_end : (number : ℕ) (g : RoutineData) (l : Layout) (f : Frame) (sp t : ℕ) → Framed ground p blocks old memory number g l f sp
      → t < length (block_sizes g) → sp + slice_index l.blocks t + slice_index (block_sizes g) t ≤ ground.room.stack_end
  block_end number g l f sp t fr lt =
      let place : slice_index l.blocks t ≡ slice_index (block_places g) t = ap (λ (z : List ℕ). slice_index z t) fr.laid.blocks in
      let within = place_within (slot_at (slots g)) (block_sizes g) t lt (omega arith) in
      omega (arith, fr.high, fr.laid.size, within.1)

  slot_beside : (number : ℕ) (g : RoutineData) (l : Layout) (f : Frame) (sp t : ℕ) (s : Slot) → Framed ground p blocks old memory number g l f sp
      → SlotShows ground p blocks old memory g l sp t s → SlotShows ground p (blocks ++ more) new memory g l sp t s
  slot_beside number g l f sp t (by_name None) fr h = h
  slot_beside number g l f sp t (by_name (Some v)) fr h = (h.0, means_more p.code p.places blocks more v (word_at memory (sp + slot_at t)) h.1)
  slot_beside number g l f sp t (in_block None) fr h =
      (h.0, owned_beside (sp + slice_index l.blocks t) (slice_index (block_sizes g) t) None (block_end number g l f sp t fr (block_known g t h.0)) h.1)
  slot_beside number g l f sp t (in_block (Some d)) fr h = (
    h.0,
    owned_beside (sp + slice_index l.blocks t) (slice_index (block_sizes g) t) (Some d) (block_end number g l f sp t fr (block_known g t h.0)) h.1,
    get_front blocks more d _ h.2,
  )

  framed_beside : (number : ℕ) (g : RoutineData) (l : Layout) (f : Frame) (sp : ℕ) → Framed ground p blocks old memory number g l f sp
      → Framed ground p (blocks ++ more) new memory number g l f sp
  framed_beside number g l f sp fr = record {
    laid = fr.laid;
    locals = fr.locals;
    count = fr.count;
    shows = λ t s e. slot_beside number g l f sp t s fr (fr.shows t s e);
    whole = fr.whole;
    low = fr.low;
    high = fr.high;
    private = λ a low high.
        let end = frame_end ground p blocks old number g l fr.laid in
        same a (omega (arith, fr.high, end.0)) ∙ fr.private a low high;
    owns = λ a c low high e. fr.owns a c low high (sym (same a (omega (arith, fr.high))) ∙ e);
  }

  callers_beside : (numbers : List ℕ) (all : List Caller) (sp back : ℕ) → Callers ground p blocks old memory numbers all sp back
      → Callers ground p (blocks ++ more) new memory numbers all sp back
  callers_beside [] [] sp back h = h
  callers_beside [] (one ∷ rest) sp back h = h
  callers_beside (number ∷ numbers) [] sp back h = h
  callers_beside (number ∷ numbers) (one ∷ rest) sp back h = (
    h.0,
    framed_beside number one.routine h.0 one.frame sp h.1,
    h.2,
    h.3,
    h.4,
    h.5,
    h.6,
    callers_beside numbers rest (sp + h.0.size) (word_at memory sp) h.7,
  )

-- ---- the moment behind an allocation of so many bytes

module _ (ground : Ground) (p : Program) (m : Moment) (q : Point) (ready : Ready ground p m q) (elements : Option (ℕ × ℕ)) (n : ℕ) where
  -- where the unused heap begins
  abbrev pub unused : ℕ
  unused = word_at q.memory data_place

  abbrev top : ℕ
  top = unused + head + taken n

  abbrev pub place : ℕ
  place = unused + head

  abbrev b : ℕ
  b = length m.w.memory

  abbrev fresh : Extent
  fresh = record { at = place; size = n }

  abbrev pub new : M.Memory
  new = with_word q.memory data_place top

  abbrev pub block_made : Bool → Memory
  block_made false = with_block m.w.memory n Heap
  block_made true = with_cells (with_block m.w.memory n Heap) b 0 (replicate n (C.Byte 0))

  abbrev pub allocated_world : Bool → World
  allocated_world zeroed = record m.w { memory = block_made zeroed; trace = E.allocated b elements n ∷ m.w.trace }

  abbrev pub allocated_moment : Bool → Moment
  allocated_moment zeroed = record m {
    blocks = m.blocks ++ fresh ∷ [];
    owner = with_range m.owner place n b;
    w = allocated_world zeroed;
  }

  abbrev pub allocated_point : Point
  allocated_point = record q { memory = new; before = Reply place ∷ Request n ∷ q.before }

  module _ (room : top ≤ ground.room.heap_end) where
    covers : n ≤ taken n
    covers = taken_stopped n (omega (arith, room, ground.heap_end))

    grown : Grown m.owner (with_range m.owner place n b) place n b
    grown = grown_range m.owner place n b (λ a lo hi. ready.world.unused a (omega arith) (omega (arith, covers, room)))

    flat_fresh : Flat p.code p.places ground.room (m.blocks ++ fresh ∷ []) (with_range m.owner place n b) (block_made false) new
    flat_fresh =
        let world = ready.world in
        let free = λ (k : ℕ) (lt : k < 4). world.runtime (data_place + k) (omega arith) (omega arith) in
        let flat = flat_stays p.code p.places ground.room m.blocks m.owner m.w.memory q.memory new world.flat (keeps_owned m.owner q.memory data_place top free) in
        flat_grown p.code p.places ground.room m.blocks m.owner (with_range m.owner place n b) m.w.memory new flat fresh Heap (omega (arith, world.heap_whole))
        (omega (arith, world.heap_low), omega (arith, covers, room)) grown

    flat_made : (zeroed : Bool) → Flat p.code p.places ground.room (m.blocks ++ fresh ∷ []) (with_range m.owner place n b) (block_made zeroed) new
    flat_made false = flat_fresh
    flat_made true =
        let zeros = replicate n (C.Byte 0) in
        let long = length-replicate n (C.Byte 0) in
        let made = block_new p.code p.places ground.room m.blocks m.owner (with_range m.owner place n b) m.w.memory q.memory ready.world.flat fresh Heap
        (omega (arith, ready.world.heap_whole)) (omega (arith, ready.world.heap_low), omega (arith, covers, room)) grown b refl in
        let sized = ap (λ (z : Block). size_in z.contents) made ∙ length-replicate n C.Empty in
        flat_written p.code p.places ground.room (m.blocks ++ fresh ∷ []) (with_range m.owner place n b) (with_block m.w.memory n Heap) new new flat_fresh b 0 fresh zeros
        (ap (λ (z : Block). lives_in z.contents) made) (omega (arith, sized, long)) (get_last m.blocks b fresh (sym ready.world.flat.long))
        (λ i c g.
        let h = zero_cell n i c g in
        let lt : place + 0 + i < ground.room.heap_end = omega (arith, h.0, covers, room) in
        subst (λ k. Shows p.code p.places (m.blocks ++ fresh ∷ []) k (new (place + 0 + i))) h.1
        (word_elsewhere q.memory data_place top (place + 0 + i) (inr (omega (arith, ready.world.heap_low)))
        ∙ ready.world.zero (place + 0 + i) (omega arith) lt))
        (λ x out. refl)
      where
        zero_cell : (k i : ℕ) (c : Cell) → slice_get (replicate k (C.Byte 0)) i ≡ Some c → (i < k) × (C.Byte 0 ≡ c)
        zero_cell zero i c g = absurd cc
        zero_cell (suc k) zero c g = (omega arith, cc)
        zero_cell (suc k) (suc i) c g = (let h = zero_cell k i c g in (omega (arith, h.0), h.1))

    pub allocated_ready : (zeroed : Bool) → Ready ground p (allocated_moment zeroed) allocated_point
    allocated_ready zeroed =
        let fr = ready.frame in
        let world = ready.world in
        let stack = ground.stack_end in
        let part = ground.data_end in
        let owner = with_range m.owner place n b in
        let blocks = m.blocks ++ fresh ∷ [] in
        let same : (a : ℕ) → a < ground.room.stack_end → owner a ≡ m.owner a = λ a lt. grown.same a (inl (omega (arith, world.heap_low))) in
        let other : (floor : ℕ) → 0x10000000 ≤ floor → KeepsOther m.owner floor q.memory new =
        λ floor le c none above. word_elsewhere q.memory data_place top c (inr (omega arith)) in
        let back : word_at new m.sp ≡ word_at q.memory m.sp = word_apart q.memory data_place top m.sp (inr (omega (arith, fr.low))) in
        let begins : word_at new data_place ≡ top = word_again q.memory data_place top (omega (arith, room, ground.heap_end)) in
        let limit : word_at new (data_place + 4) ≡ word_at q.memory (data_place + 4) = word_apart q.memory data_place top (data_place + 4) (inr (omega arith)) in
        let callers = callers_stay ground p m.blocks m.owner q.memory new m.numbers m.callers (m.sp + m.l.size) (word_at q.memory m.sp)
        (other (m.sp + m.l.size) (omega (arith, fr.low))) ready.callers in
        record {
          nil = ready.nil;
          stack = ready.stack;
          code = ready.code;
          whole = ready.whole;
          fits = ready.fits;
          world = record {
            keeps = keeps_word ground.text q.memory data_place top world.keeps (omega arith);
            flat = flat_made zeroed;
            objects = λ k lt. let h = world.objects k lt in (h.0, get_front m.blocks (fresh ∷ []) k h.0 h.1, h.2);
            unused = λ a lo hi. grown.same a (inr (omega (arith, begins, covers))) ∙ world.unused a (omega (arith, begins)) hi;
            zero = λ a lo hi. word_elsewhere q.memory data_place top a (inr (omega (arith, begins, world.heap_low))) ∙ world.zero a (omega (arith, begins)) hi;
            heap_low = omega (arith, begins, world.heap_low);
            heap_high = omega (arith, begins, room);
            heap_whole = omega (arith, begins, world.heap_whole, taken_whole n);
            heap_used = omega (arith, begins, world.heap_used, taken_weighs n);
            heap_limit = limit ∙ world.heap_limit;
            runtime = λ a lo hi. grown.same a (inl (omega (arith, world.heap_low))) ∙ world.runtime a lo hi;
            texts = λ a bytes is.
                let h = world.texts a bytes is in (
                  record { by = λ k lt. word_elsewhere q.memory data_place top (a + k) (inr (omega (arith, h.1))) ∙ (h.0).by k lt },
                  h.1,
                  h.2,
                  λ i lt. grown.same (a + i) (inl (omega (arith, world.heap_low, h.2))) ∙ h.3 i lt,
                );
            input_is = world.input_is;
            input_bytes = world.input_bytes;
            output_is = world.output_is;
            made = (fresh, q.before, get_last m.blocks b fresh (sym world.flat.long), refl, made_more ground p m.blocks (fresh ∷ []) m.w.trace q.before world.made);
          };
          frame = framed_beside ground p m.blocks (fresh ∷ []) m.owner owner new same m.number m.g m.l m.frame m.sp
              (framed_stays ground p m.blocks m.owner q.memory new m.number m.g m.l m.frame m.sp (other m.sp (omega (arith, fr.low))) fr);
          callers = subst (Callers ground p blocks owner new m.numbers m.callers (m.sp + m.l.size)) (sym back)
              (callers_beside ground p m.blocks (fresh ∷ []) m.owner owner new same m.numbers m.callers (m.sp + m.l.size) (word_at q.memory m.sp) callers);
          below = λ a lo hi. grown.same a (inl (omega (arith, fr.high, world.heap_low))) ∙ ready.below a lo hi;
          runs = ready.runs;
        }
