-- Frames and the world stay where memory changes elsewhere.
use Rattle.std.proofs.Common.{◌≡◌, ◌≢◌, ℕ, ◌+◌, ◌%◌, ◌<◌, ◌≤◌, ◌⊎◌, inl, inr, Bool, false, List, [], ◌∷◌, length, Option, Some, None}
use Rattle.std.proofs.Common.{ap, sym, ◌∙◌, subst, arith}
use Rattle.std.specs.Prelude.{unwrap_or}
use Rattle.block_memory.specs.Blocks.{Memory}
use Rattle.block_memory.specs.RunWorlds.Worlds.{World}
use Rattle.c_meaning.specs.Frames.{Frame}
use Rattle.c_meaning.specs.declared.frame.Slot.{Slot}
use Rattle.c_meaning.specs.declared.frame.Slot.TheVariants.{ByName as by_name, InBlock as in_block}
use Rattle.rv_isa.specs.Memory as M
use Rattle.rv_isa.specs.Memory.{word_at}
use Rattle.rv_isa.specs.Events.{MachineEvent}
use Rattle.rv_runtime.specs.Steps.States.{Keeps}
use Rattle.rv_runtime.proofs.Steps.Words.{word_same}
use Rattle.rv_runtime.specs.Routines.{data_place}
use Rattle.tac_ir.specs.Code.{RoutineData}
use Rattle.tac_ir.specs.Running.{Caller}
use Rattle.rv_code.specs.Code.{byte_at, is_block}
use Rattle.rv_code.specs.Frames.{block_sizes, frame_size, slot_at, slots}
use Rattle.rv_code.specs.declared.layout.Layout.{Layout}
use Rattle.rv_code.specs.declared.layout.Places.{Places}
use Rattle.tac_ir.specs.Code.{Code}
use Rattle.rv_emit.specs.Maps.{Extents, Flat, Means, Room, Shows}
use Rattle.rv_emit.specs.Grounds.{Ground}
use Rattle.rv_emit.specs.Relation.{Program, IsLaid, Framed, SlotShows, Callers, Worldly}
use Rattle.rv_emit.proofs.Lists.{get_below, get_past, end_above}

-- ---- where a frame has what

pub slots_inside : (g : RoutineData) → slot_at (slots g) ≤ frame_size g
slots_inside g = (let h = end_above (slot_at (slots g)) (block_sizes g) in omega (arith, h))

pub frame_whole : (g : RoutineData) → frame_size g % 16 ≡ 0
frame_whole g = omega arith

-- past the locals no temporary is a block
pub no_block : (g : RoutineData) (t : ℕ) → length g.locals ≤ t → is_block g t ≡ false
no_block g t le = ap (λ (o : Option Bool). unwrap_or o false) (get_past g.locals t le)

-- ---- what is as it was

-- each owned byte
abbrev pub KeepsOwned : (owner : ℕ → Option ℕ) → (old new : M.Memory) → Type 0
KeepsOwned owner old new = (a b : ℕ) → owner a ≡ Some b → new a ≡ old a

-- each byte that nobody owns, from an address on
abbrev pub KeepsOther : (owner : ℕ → Option ℕ) → (floor : ℕ) → (old new : M.Memory) → Type 0
KeepsOther owner floor old new = (a : ℕ) → owner a ≡ None → floor ≤ a → new a ≡ old a

-- the byte that goes to the output, or comes from the input
abbrev pub byte_place : ℕ
byte_place = data_place + byte_at

-- each byte that nobody owns, but on the stack, and but that one
abbrev pub KeepsOutside : (owner : ℕ → Option ℕ) → (old new : M.Memory) → Type 0
KeepsOutside owner old new = (a : ℕ) → owner a ≡ None → (a < 0x10000000) ⊎ (0x18000000 ≤ a) → a ≢ byte_place → new a ≡ old a

pub flat_stays : (c : Code) (p : Places) (room : Room) (blocks : Extents) (owner : ℕ → Option ℕ) (m : Memory) (old new : M.Memory)
    → Flat c p room blocks owner m old → KeepsOwned owner old new → Flat c p room blocks owner m new
flat_stays c p room blocks owner m old new flat keeps = record {
  long = flat.long;
  placed = flat.placed;
  shows = λ b i e cell at is. subst (Shows c p blocks cell) (sym (keeps (e.at + i) b (flat.owned b i e cell at is))) (flat.shows b i e cell at is);
  owned = flat.owned;
}

module _ (ground : Ground) (p : Program) (blocks : Extents) (owner : ℕ → Option ℕ) where
  -- where the frame ends
  pub frame_end : (number : ℕ) (g : RoutineData) (l : Layout) → IsLaid ground p number g l → (slot_at (slots g) ≤ l.size) × (l.size % 16 ≡ 0)
  frame_end number g l laid = (let a = slots_inside g in let b = frame_whole g in (omega (arith, laid.size), omega (arith, laid.size)))

  module _ (old new : M.Memory) where
    -- ---- frames

    slot_stays : (g : RoutineData) (l : Layout) (sp t : ℕ) (s : Slot) → word_at new (sp + slot_at t) ≡ word_at old (sp + slot_at t)
        → SlotShows ground p blocks owner old g l sp t s → SlotShows ground p blocks owner new g l sp t s
    slot_stays g l sp t (by_name None) same h = h
    slot_stays g l sp t (by_name (Some v)) same h = (h.0, subst (Means p.code p.places blocks v) (sym same) h.1)
    slot_stays g l sp t (in_block None) same h = h
    slot_stays g l sp t (in_block (Some b)) same h = h

    -- a word of the frame that nobody owns
    word_stays : (floor a : ℕ) → KeepsOther owner floor old new → floor ≤ a → ((k : ℕ) → k < 4 → owner (a + k) ≡ None) → word_at new a ≡ word_at old a
    word_stays floor a keeps le free = word_same old new a (λ k lt. keeps (a + k) (free k lt) (omega arith))

    -- where the words of a frame are as they were
    pub framed_private : (number : ℕ) (g : RoutineData) (l : Layout) (f : Frame) (sp : ℕ) → ((a : ℕ) → sp ≤ a → a < sp + slot_at (slots g) → new a ≡ old a)
        → Framed ground p blocks owner old number g l f sp → Framed ground p blocks owner new number g l f sp
    framed_private number g l f sp keeps framed = record {
      laid = framed.laid;
      locals = framed.locals;
      count = framed.count;
      shows = λ t s e.
          let lt : t < slots g = omega (arith, get_below f t s e, framed.count) in
          slot_stays g l sp t s (word_same old new (sp + slot_at t) (λ k lk. keeps (sp + slot_at t + k) (omega arith) (omega arith))) (framed.shows t s e);
      whole = framed.whole;
      low = framed.low;
      high = framed.high;
      private = framed.private;
      owns = framed.owns;
    }

    pub framed_stays : (number : ℕ) (g : RoutineData) (l : Layout) (f : Frame) (sp : ℕ) → KeepsOther owner sp old new
        → Framed ground p blocks owner old number g l f sp → Framed ground p blocks owner new number g l f sp
    framed_stays number g l f sp keeps framed = framed_private number g l f sp (λ a low high. keeps a (framed.private a low high) low) framed

    -- the return place of a frame
    pub back_stays : (number : ℕ) (g : RoutineData) (l : Layout) (f : Frame) (sp : ℕ) → KeepsOther owner sp old new
        → Framed ground p blocks owner old number g l f sp → word_at new sp ≡ word_at old sp
    back_stays number g l f sp keeps framed = word_stays sp sp keeps (omega arith) (λ k lk. framed.private (sp + k) (omega arith) (omega arith))

    pub callers_stay : (numbers : List ℕ) (all : List Caller) (sp back : ℕ) → KeepsOther owner sp old new
        → Callers ground p blocks owner old numbers all sp back → Callers ground p blocks owner new numbers all sp back
    callers_stay [] [] sp back keeps h = h
    callers_stay [] (one ∷ more) sp back keeps h = h
    callers_stay (number ∷ numbers) [] sp back keeps h = h
    callers_stay (number ∷ numbers) (one ∷ more) sp back keeps h =
        let l = h.0 in
        let framed = h.1 in
        let e = back_stays number one.routine l one.frame sp keeps framed in
        let rest = callers_stay numbers more (sp + l.size) (word_at old sp) (λ a none le. keeps a none (omega arith)) h.7 in (
          l,
          framed_stays number one.routine l one.frame sp keeps framed,
          h.2,
          h.3,
          h.4,
          h.5,
          h.6,
          subst (Callers ground p blocks owner new numbers more (sp + l.size)) (sym e) rest,
        )

    -- ---- the world

    -- with other blocks that memory shows
    pub world_moved : (w : World) (after : Memory) (input output : List ℕ) (before : List MachineEvent) → Keeps ground.text new
        → Flat p.code p.places ground.room blocks owner after new → KeepsOutside owner old new → Worldly ground p blocks owner w old input output before
        → Worldly ground p blocks owner (record w { memory = after }) new input output before
    world_moved w after input output before keeps flat outside world =
        let free = λ (k : ℕ) (lt : k < 8). world.runtime (data_place + k) (omega arith) (omega arith) in
        let one = λ (k : ℕ) (lt : k < 8). outside (data_place + k) (free k lt) (inl (omega arith)) (λ e. omega arith) in
        let begins : word_at new data_place ≡ word_at old data_place = word_same old new data_place (λ k lt. one k (omega arith)) in
        let limit : word_at new (data_place + 4) ≡ word_at old (data_place + 4) =
        word_same old new (data_place + 4) (λ k lt. let e : data_place + (4 + k) ≡ data_place + 4 + k = omega arith in
        subst (λ a. new a ≡ old a) e (one (4 + k) (omega arith))) in
        record {
          keeps = keeps;
          flat = flat;
          objects = world.objects;
          unused = λ a le lt. world.unused a (omega arith) lt;
          zero = λ a le lt.
              outside a (world.unused a (omega arith) lt) (inr (omega (arith, world.heap_low))) (λ e. omega (arith, world.heap_low))
              ∙ world.zero a (omega arith) lt;
          heap_low = omega (arith, world.heap_low);
          heap_high = omega (arith, world.heap_high);
          heap_whole = omega (arith, world.heap_whole);
          heap_used = omega (arith, world.heap_used);
          heap_limit = limit ∙ world.heap_limit;
          runtime = world.runtime;
          texts = λ a bytes is.
              let h = world.texts a bytes is in
              let end = ground.data_end in (
                record { by = λ k lt. outside (a + k) (h.3 k lt) (inl (omega (arith, h.2))) (λ e. omega (arith, h.1)) ∙ (h.0).by k lt },
                h.1,
                h.2,
                h.3,
              );
          input_is = world.input_is;
          input_bytes = world.input_bytes;
          output_is = world.output_is;
          made = world.made;
        }

    pub world_stays : (w : World) (input output : List ℕ) (before : List MachineEvent) → Keeps ground.text new → KeepsOwned owner old new
        → KeepsOutside owner old new → Worldly ground p blocks owner w old input output before → Worldly ground p blocks owner w new input output before
    world_stays w input output before keeps owned outside world =
        world_moved w w.memory input output before keeps (flat_stays p.code p.places ground.room blocks owner w.memory old new world.flat owned) outside world
