-- A store's memory, by its slots and cells.
use Rattle.std.proofs.Common.{◌≡◌, ◌≢◌, ℕ, ◌+◌, ◌*◌, ◌<◌, ◌≤◌, ◌%◌, ◌^◌, List, [], ◌∷◌, length, take, drop, get_or, Bool, true, false, Ok, Err, refl, sym, ap}
use Rattle.std.proofs.Common.{◌∙◌, arith, inl, inr, ⊎_elim, get_or-set_other, get_or-set_same}
use Rattle.std.specs.Prelude.{◌⊎◌, ◌&&◌, ◌==◌, not, nat_le, if◌then◌else◌}
use Rattle.std.proofs.Math.ListN.{set, get_or-map}
use Rattle.std.proofs.lemmas.Bool.{cases_lt, cases_eq}
use Rattle.std.proofs.lemmas.List.{ext_get_or, length-map, length-set}
use Rattle.std.proofs.lemmas.Option.{unwrap_or-slice_get}
use Rattle.lay_base.specs.declared.faults.UndefinedKind.{UndefinedKind}
use Rattle.lay_base.specs.declared.faults.UndefinedKind.TheVariants as K
use Rattle.memory_words.specs.declared.cell_words.cell.Cell.{Cell}
use Rattle.memory_words.specs.declared.cell_words.pointer.Ptr.TheVariants as P
use Rattle.block_memory.specs.declared.slot.Slot.{Slot}
use Rattle.block_memory.specs.Accesses.{is_text, must, place}
use Rattle.block_memory.specs.Blocks.{Block, living, ended, block, cells, cells_in, is_live, kind, lives_in, overwritten, size, size_in, with_cells}
use Rattle.block_memory.specs.Cells.{over, range}
use Rattle.block_memory.specs.Places.{PlaceGives}
use Rattle.block_memory.specs.Slots.{IsSound, block_in, contents_in, end_of, holds, memory_in, no_slot, slot_at}
use Rattle.block_memory.specs.Stores.{IsPlace, tests}
use Rattle.block_memory.specs.Tested.{Tested, ◌>>=◌}
use Rattle.block_memory.proofs.Differences.{length_range}
use Rattle.block_memory.proofs.Overs.{over_none}
use Rattle.block_memory.proofs.RangesHold.{range_apart, range_in, range_over}
use Rattle.block_memory.proofs.Sound.{holds_of_live, known_of_live}

-- ---- one block

pub block_is : (slots : List Slot) (all : List Cell) (b : ℕ) → block (memory_in slots all) b ≡ block_in all (slot_at slots b)
block_is slots all b = unwrap_or-slice_get (memory_in slots all) b (block_in all no_slot) ∙ get_or-map (block_in all) slots b no_slot

pub live_in : (all : List Cell) (s : Slot) → s.live ≡ true → block_in all s ≡ record { kind = s.kind; contents = living (range all (4 * s.start) s.size) }
live_in all s lives = ap (λ l. record { kind = s.kind; contents = contents_in all l s.start s.size }) lives

pub ended_in : (all : List Cell) (s : Slot) → s.live ≡ false → block_in all s ≡ record { kind = s.kind; contents = ended s.size }
ended_in all s ends = ap (λ l. record { kind = s.kind; contents = contents_in all l s.start s.size }) ends

pub live_block : (slots : List Slot) (all : List Cell) (b : ℕ) → (slot_at slots b).live ≡ true
    → block (memory_in slots all) b ≡ record { kind = (slot_at slots b).kind; contents = living (range all (4 * (slot_at slots b).start) (slot_at slots b).size) }
live_block slots all b lives = block_is slots all b ∙ live_in all (slot_at slots b) lives

pub ended_block : (slots : List Slot) (all : List Cell) (b : ℕ) → (slot_at slots b).live ≡ false
    → block (memory_in slots all) b ≡ record { kind = (slot_at slots b).kind; contents = ended (slot_at slots b).size }
ended_block slots all b ends = block_is slots all b ∙ ended_in all (slot_at slots b) ends

pub live_is : (slots : List Slot) (all : List Cell) (b : ℕ) → (slot_at slots b).live ≡ is_live (memory_in slots all) b
live_is slots all b = live_case (slot_at slots b).live refl where
  live_case : (l : Bool) → (slot_at slots b).live ≡ l → (slot_at slots b).live ≡ is_live (memory_in slots all) b
  live_case true e = e ∙ sym (ap (λ y. lives_in y.contents) (live_block slots all b e))
  live_case false e = e ∙ sym (ap (λ y. lives_in y.contents) (ended_block slots all b e))

pub kind_is : (slots : List Slot) (all : List Cell) (b : ℕ) → (slot_at slots b).kind ≡ kind (memory_in slots all) b
kind_is slots all b = sym (ap (λ y. y.kind) (block_is slots all b))

pub size_is : (slots : List Slot) (all : List Cell) (free b : ℕ) → IsSound slots all free → (slot_at slots b).size ≡ size (memory_in slots all) b
size_is slots all free b sound = size_case (slot_at slots b).live refl where
  size_case : (l : Bool) → (slot_at slots b).live ≡ l → (slot_at slots b).size ≡ size (memory_in slots all) b
  size_case true e =
      sym (ap (λ y. size_in y.contents) (live_block slots all b e) ∙ length_range all (4 * (slot_at slots b).start) (slot_at slots b).size (sound.there b e))
  size_case false e = sym (ap (λ y. size_in y.contents) (ended_block slots all b e))

-- ---- the tests of an access

abbrev found_in : Block → (b at count width : ℕ) → (stores : Bool) → Tested (ℕ × ℕ)
found_in y b at count width stores = do
  a ← must (lives_in y.contents) K.Dead
  c ← must (nat_le (at + count) (size_in y.contents)) K.Outside
  d ← must (at % width == 0) K.Align
  e ← must (not (stores && is_text y.kind)) K.ReadOnly
  Ok (b, at)

abbrev tested : (within aligned text : Bool) → Tested (Unit {0})
tested within aligned text = if within then (if aligned then (if text then Err K.ReadOnly else Ok tt) else Err K.Align) else Err K.Outside

tests_chain : (x : ℕ × ℕ) (within aligned text : Bool)
    → (must within K.Outside >>= λ c. must aligned K.Align >>= λ d. must (not text) K.ReadOnly >>= λ e. Ok x)
    ≡ (tested within aligned text >>= λ u. Ok x)
tests_chain x true true true = refl
tests_chain x true true false = refl
tests_chain x true false text = refl
tests_chain x false aligned text = refl

pub place_dead : (slots : List Slot) (all : List Cell) (b at count width : ℕ) (stores : Bool) (slot : Slot) → slot ≡ slot_at slots b → slot.live ≡ false
    → place (memory_in slots all) (P.Block b at) count width stores ≡ Err K.Dead
place_dead slots all b at count width stores slot is ends =
    ap (λ y. found_in y b at count width stores) (ended_block slots all b (ap (λ s. s.live) (sym is) ∙ ends))

place_tested : (slots : List Slot) (all : List Cell) (free b at count width : ℕ) (stores : Bool) → IsSound slots all free → (slot_at slots b).live ≡ true
    → place (memory_in slots all) (P.Block b at) count width stores ≡ (tests (slot_at slots b) at count width stores >>= λ u. Ok (b, at))
place_tested slots all free b at count width stores sound lives =
    let s = slot_at slots b in
    ap (λ y. found_in y b at count width stores) (live_block slots all b lives)
    ∙ tests_chain (b, at) (nat_le (at + count) (length (range all (4 * s.start) s.size))) (at % width == 0) (stores && is_text s.kind)
    ∙ ap (λ n. tested (nat_le (at + count) n) (at % width == 0) (stores && is_text s.kind) >>= λ u. Ok (b, at)) (length_range all (4 * s.start) s.size (sound.there b lives))

bind_is : {A B : Type 0} (r s : Tested A) (f : A → Tested B) → r ≡ s → (s >>= f) ≡ (r >>= f)
bind_is r s f e = ap (λ r. r >>= f) (sym e)

pub place_ok : (slots : List Slot) (all : List Cell) (free b at count width : ℕ) (stores : Bool) (slot : Slot) → IsSound slots all free → slot ≡ slot_at slots b → slot.start < 2 ^ 29 → at < 2 ^ 32
    → slot.live ≡ true → Ok tt ≡ tests slot at count width stores → at + count ≤ slot.size
    → PlaceGives slots all (P.Block b at) count width stores (Ok (record { block = b; cell = 4 * slot.start + at; at = at }))
place_ok slots all free b at count width stores slot sound is low few lives passes fits =
    let live : (slot_at slots b).live ≡ true = ap (λ s. s.live) (sym is) ∙ lives in
    let same : Ok tt ≡ tests (slot_at slots b) at count width stores = passes ∙ ap (λ s. tests s at count width stores) is in (
      place_tested slots all free b at count width stores sound live ∙ bind_is (Ok tt) (tests (slot_at slots b) at count width stores) (λ u. Ok (b, at)) same,
      record { lives = live; lies = ap (λ s. 4 * s.start + at) is; fits = rw (sym is) fits; small = omega (arith, low, few) },
    )

pub place_err : (slots : List Slot) (all : List Cell) (free b at count width : ℕ) (stores : Bool) (slot : Slot) (fault : UndefinedKind) → IsSound slots all free → slot ≡ slot_at slots b
    → slot.live ≡ true → Err fault ≡ tests slot at count width stores → PlaceGives slots all (P.Block b at) count width stores (Err fault)
place_err slots all free b at count width stores slot fault sound is lives fails =
    let live : (slot_at slots b).live ≡ true = ap (λ s. s.live) (sym is) ∙ lives in
    let same : Err fault ≡ tests (slot_at slots b) at count width stores = fails ∙ ap (λ s. tests s at count width stores) is in
    place_tested slots all free b at count width stores sound live ∙ bind_is (Err fault) (tests (slot_at slots b) at count width stores) (λ u. Ok (b, at)) same

-- ---- changes

-- one block is another one now, and the rest are as they were
pub set_in : (slots other : List Slot) (all new : List Cell) (b : ℕ) → b < length slots → length other ≡ length slots
    → ((k : ℕ) → k < length slots → k ≢ b → block_in new (slot_at other k) ≡ block_in all (slot_at slots k))
    → memory_in other new ≡ set (memory_in slots all) b (block_in new (slot_at other b))
set_in slots other all new b known same rest =
    ext_get_or (block_in new no_slot) (memory_in other new) (set (memory_in slots all) b (block_in new (slot_at other b)))
    (length-map other (block_in new) ∙ same ∙ sym (length-set (memory_in slots all) b (block_in new (slot_at other b)) ∙ length-map slots (block_in all)))
    (λ k within. at_k k within (cases_eq k b)) where
      at_k : (k : ℕ) → k < length (memory_in other new) → (k ≡ b) ⊎ (k ≡ b → ⊥)
          → get_or (memory_in other new) k (block_in new no_slot) ≡ get_or (set (memory_in slots all) b (block_in new (slot_at other b))) k (block_in new no_slot)
      at_k k within (inl e) =
          get_or-map (block_in new) other k no_slot ∙ ap (λ k. block_in new (slot_at other k)) e
          ∙ sym (ap (λ k. get_or (set (memory_in slots all) b (block_in new (slot_at other b))) k (block_in new no_slot)) e
          ∙ get_or-set_same (memory_in slots all) b (block_in new (slot_at other b)) (block_in new no_slot) (omega (arith, length-map slots (block_in all))))
      at_k k within (inr ne) =
          get_or-map (block_in new) other k no_slot ∙ rest k (omega (arith, length-map other (block_in new))) ne
          ∙ sym (get_or-set_other (memory_in slots all) b k (block_in new (slot_at other b)) (block_in new no_slot) ne ∙ get_or-map (block_in all) slots k no_slot)

-- slots and cells by which each block is as it was
pub same_memory : (slots other : List Slot) (all new : List Cell) → length other ≡ length slots
    → ((k : ℕ) → k < length slots → block_in new (slot_at other k) ≡ block_in all (slot_at slots k)) → memory_in other new ≡ memory_in slots all
same_memory slots other all new same each =
    ext_get_or (block_in new no_slot) (memory_in other new) (memory_in slots all) (length-map other (block_in new) ∙ same ∙ sym (length-map slots (block_in all)))
    (λ k within. get_or-map (block_in new) other k no_slot ∙ each k (omega (arith, within, same, length-map other (block_in new))) ∙ sym (get_or-map (block_in all) slots k no_slot))

-- a block is as it was where its cells are
pub block_same : (all new : List Cell) (s : Slot) → (s.live ≡ true → 0 < s.size → range new (4 * s.start) s.size ≡ range all (4 * s.start) s.size) → block_in new s ≡ block_in all s
block_same all new s same = block_case s.live refl (cases_lt 0 s.size) where
  cells_case : s.live ≡ true → (0 < s.size) ⊎ (s.size ≤ 0) → range new (4 * s.start) s.size ≡ range all (4 * s.start) s.size
  cells_case e (inl some) = same e some
  cells_case e (inr none) =
      let zero_is : s.size ≡ 0 = omega (arith, none) in ap (λ n. range new (4 * s.start) n) zero_is ∙ sym (ap (λ n. range all (4 * s.start) n) zero_is)

  block_case : (l : Bool) → s.live ≡ l → (0 < s.size) ⊎ (s.size ≤ 0) → block_in new s ≡ block_in all s
  block_case true e some = live_in new s e ∙ ap (λ r. record { kind = s.kind; contents = living r }) (cells_case e some) ∙ sym (live_in all s e)
  block_case false e some = ended_in new s e ∙ sym (ended_in all s e)

-- two blocks that hold cells lie apart
pub lie_apart : (slots : List Slot) (all : List Cell) (free b k : ℕ) → IsSound slots all free → k ≢ b → holds (slot_at slots b) ≡ true → holds (slot_at slots k) ≡ true
    → (end_of (slot_at slots k) ≤ (slot_at slots b).start) ⊎ (end_of (slot_at slots b) ≤ (slot_at slots k).start)
lie_apart slots all free b k sound ne held also = ⊎_elim (λ lt. inl (sound.apart k b lt also held)) (λ le. inr (sound.apart b k (omega (arith, le, ne)) held also)) (cases_lt k b)

-- what is put into one live block leaves the others as they are
pub others_same : (slots : List Slot) (all : List Cell) (free b at : ℕ) (new : List Cell) → IsSound slots all free → (slot_at slots b).live ≡ true
    → at + length new ≤ (slot_at slots b).size → (k : ℕ) → k ≢ b
    → block_in (over all (4 * (slot_at slots b).start + at) new) (slot_at slots k) ≡ block_in all (slot_at slots k)
others_same slots all free b at [] sound lives fits k ne = ap (λ all. block_in all (slot_at slots k)) (sym (over_none all (4 * (slot_at slots b).start + at)))
others_same slots all free b at (c ∷ new) sound lives fits k ne =
    let s = slot_at slots b in
    let o = slot_at slots k in
    let held : holds s ≡ true = holds_of_live s lives (omega (arith, fits)) in
    block_same all (over all (4 * s.start + at) (c ∷ new)) o
    (λ live some. range_apart all (c ∷ new) (4 * s.start + at) (4 * o.start) o.size (let there = sound.there b lives in omega (arith, there, fits)) (sound.there k live)
    (⊎_elim (λ le. inl (omega (arith, le))) (λ le. inr (omega (arith, le, fits))) (lie_apart slots all free b k sound ne held (holds_of_live o live some))))

-- ---- accesses that found their place

pub cells_found : (slots : List Slot) (all : List Cell) (free b cell at count : ℕ) → IsSound slots all free → IsPlace slots b cell at count
    → cells (memory_in slots all) b at count ≡ range all cell count
cells_found slots all free b cell at count sound found =
    let s = slot_at slots b in
    ap (λ y. take count (drop at (cells_in y.contents))) (live_block slots all b found.lives)
    ∙ range_in all (4 * s.start) s.size at count (sound.there b found.lives) found.fits ∙ ap (λ n. range all n count) (sym found.lies)

pub changed_in : (slots : List Slot) (all : List Cell) (free b at : ℕ) (new : List Cell) → IsSound slots all free → (slot_at slots b).live ≡ true
    → at + length new ≤ (slot_at slots b).size → memory_in slots (over all (4 * (slot_at slots b).start + at) new) ≡ with_cells (memory_in slots all) b at new
changed_in slots all free b at new sound lives fits =
    let s = slot_at slots b in
    let m = memory_in slots all in
    let here : block_in (over all (4 * s.start + at) new) s ≡ record { kind = s.kind; contents = living (over (range all (4 * s.start) s.size) at new) } =
    live_in (over all (4 * s.start + at) new) s lives
    ∙ ap (λ r. record { kind = s.kind; contents = living r }) (range_over all new (4 * s.start) s.size at (sound.there b lives) fits) in
    let there : record { kind = kind m b; contents = overwritten (block m b).contents at new }
    ≡ record { kind = s.kind; contents = living (over (range all (4 * s.start) s.size) at new) } =
    ap (λ y. record { kind = y.kind; contents = overwritten y.contents at new }) (live_block slots all b lives) in
    set_in slots slots all (over all (4 * s.start + at) new) b (known_of_live slots b lives) refl (λ k known ne. others_same slots all free b at new sound lives fits k ne)
    ∙ ap (λ y. set m b y) (here ∙ sym there)

pub changed_found : (slots : List Slot) (all : List Cell) (free b cell at count : ℕ) (new : List Cell) → IsSound slots all free → IsPlace slots b cell at count
    → length new ≤ count → memory_in slots (over all cell new) ≡ with_cells (memory_in slots all) b at new
changed_found slots all free b cell at count new sound found le =
    ap (λ n. memory_in slots (over all n new)) found.lies ∙ changed_in slots all free b at new sound found.lives (let fits = found.fits in omega (arith, fits, le))
