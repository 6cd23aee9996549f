-- How blocks begin and end.
use Rattle.std.proofs.Common.{◌≡◌, ◌≢◌, ℕ, ◌+◌, ◌*◌, ◌<◌, ◌≤◌, ◌^◌, List, [], ◌∷◌, ◌++◌, length, replicate, Bool, true, false, refl, sym, ap, ◌∙◌, arith, inl}
use Rattle.std.proofs.Common.{inr, ⊎_elim, get_or-set_other, get_or-set_same}
use Rattle.std.specs.Prelude.{◌⊎◌, ◌&&◌, nat_lt, Result, Ok, Err, MatchResult}
use Rattle.lay_base.specs.declared.no_memory.NoMemory.{NoMemory}
use Rattle.std.proofs.Math.ListN.{set, get_or-map}
use Rattle.std.proofs.lemmas.Bool.{cases_eq, cases_lt}
use Rattle.std.proofs.lemmas.List.{length-append, length-replicate, length-set, length_push, map-append, get_or_append_left, get_or_past, get_or_push}
use Rattle.std.proofs.lemmas.List.{set-get_or}
use Rattle.memory_words.specs.declared.cell_words.cell.Cell.{Cell}
use Rattle.memory_words.specs.declared.cell_words.cell.Cell.TheVariants.{Empty}
use Rattle.block_memory.specs.declared.kinds.BlockKind.{BlockKind}
use Rattle.block_memory.specs.declared.slot.Slot.{Slot}
use Rattle.block_memory.specs.Blocks.{living, ended, block, kind, overwritten, size, size_in, with_cells}
use Rattle.block_memory.specs.Cells.{cell_at, over, range}
use Rattle.block_memory.specs.Lifetimes.{with_block, with_end}
use Rattle.block_memory.specs.Slots.{IsSound, block_in, end_of, holds, memory_in, no_slot, slot_at, words_for}
use Rattle.block_memory.proofs.Differences.{length_range}
use Rattle.block_memory.proofs.RangesHold.{range_apart, range_put, range_same}
use Rattle.block_memory.proofs.Sound.{holds_of_live, known_of_live, live_of_holds, sound_long}
use Rattle.block_memory.proofs.Views.{block_is, block_same, changed_in, ended_block, ended_in, live_block, others_same, same_memory, set_in, size_is}

-- ---- a new block

-- cells that are put behind all live blocks
kept_behind : (slots : List Slot) (all : List Cell) (free : ℕ) (new : List Cell) → IsSound slots all free → 4 * free + length new ≤ length all
    → memory_in slots (over all (4 * free) new) ≡ memory_in slots all
kept_behind slots all free new sound le =
    same_memory slots slots all (over all (4 * free) new) refl
    (λ k known. block_same all (over all (4 * free) new) (slot_at slots k)
    (λ live some. range_apart all new (4 * free) (4 * (slot_at slots k).start) (slot_at slots k).size le (sound.there k live)
    (inl (let before = sound.ends k (holds_of_live (slot_at slots k) live some) in omega (arith, before)))))

-- more cells behind all others
kept_longer : (slots : List Slot) (all new : List Cell) (free : ℕ) (more : List Cell) → IsSound slots all free → new ≡ all ++ more → memory_in slots new ≡ memory_in slots all
kept_longer slots all new free more sound en =
    let long : length new ≡ length all + length more = ap length en ∙ length-append all more in
    same_memory slots slots all new refl
    (λ k known. block_same all new (slot_at slots k)
    (λ live some. let o = slot_at slots k in let there = sound.there k live in
    range_same new all (4 * o.start) (4 * o.start) o.size (omega (arith, there, long)) there
    (λ n lt. ap (λ c. cell_at c (4 * o.start + n)) en ∙ get_or_append_left all more Empty (4 * o.start + n) (omega (arith, there, lt)))))

-- or none, where they were refused
pub kept_grown : (slots : List Slot) (all new : List Cell) (free : ℕ) (more : List Cell) (r : Result (Unit {0}) NoMemory) → IsSound slots all free
    → MatchResult r (λ _. new ≡ all ++ more) (λ refused. new ≡ all) → memory_in slots new ≡ memory_in slots all
kept_grown slots all new free more (Ok u) sound en = kept_longer slots all new free more sound en
kept_grown slots all new free more (Err refused) sound en = ap (memory_in slots) en

pub sound_grown : (slots : List Slot) (all new : List Cell) (free : ℕ) (more : List Cell) (r : Result (Unit {0}) NoMemory) → IsSound slots all free
    → MatchResult r (λ _. new ≡ all ++ more) (λ refused. new ≡ all) → IsSound slots new free
sound_grown slots all new free more (Ok u) sound en = sound_long slots all new free sound (omega (arith, ap length en, length-append all more))
sound_grown slots all new free more (Err refused) sound en = rw en sound

pub begun : (slots all_slots : List Slot) (all new : List Cell) (free size : ℕ) (kind : BlockKind) → IsSound slots all free → 4 * free + size ≤ length all
    → new ≡ over all (4 * free) (replicate size Empty) → all_slots ≡ slots ++ record { kind = kind; live = true; start = free; size = size } ∷ []
    → memory_in all_slots new ≡ with_block (memory_in slots all) size kind
begun slots all_slots all new free size kind sound le en es =
    let slot : Slot = record { kind = kind; live = true; start = free; size = size } in
    let empties : List Cell = replicate size Empty in
    let many : length empties ≡ size = length-replicate size Empty in
    let fits : 4 * free + length empties ≤ length all = omega (arith, many, le) in
    let filled : range (over all (4 * free) empties) (4 * free) size ≡ empties =
    ap (λ n. range (over all (4 * free) empties) (4 * free) n) (sym many) ∙ range_put all empties (4 * free) fits in
    ap (λ s. memory_in s new) es ∙ ap (λ c. memory_in (slots ++ slot ∷ []) c) en
    ∙ map-append (block_in (over all (4 * free) empties)) slots (slot ∷ [])
    ∙ ap (λ m. m ++ block_in (over all (4 * free) empties) slot ∷ []) (kept_behind slots all free empties sound fits)
    ∙ ap (λ r. memory_in slots all ++ record { kind = kind; contents = living r } ∷ []) filled

-- one more slot
pub begun_refused : (slots : List Slot) (all new : List Cell) (free size : ℕ) → IsSound slots all free → 4 * free + size ≤ length all
    → new ≡ over all (4 * free) (replicate size Empty) → memory_in slots new ≡ memory_in slots all
begun_refused slots all new free size sound le en =
    ap (λ c. memory_in slots c) en ∙ kept_behind slots all free (replicate size Empty) sound (omega (arith, le, length-replicate size Empty))

at_last : (slots : List Slot) (slot : Slot) (b : ℕ) → (b < length slots × slot_at (slots ++ slot ∷ []) b ≡ slot_at slots b) ⊎ ((b ≡ length slots × slot_at (slots ++ slot ∷ []) b ≡ slot) ⊎ (slot_at (slots ++ slot ∷ []) b ≡ no_slot))
at_last slots slot b = ⊎_elim (λ lt. inl (lt, get_or_append_left slots (slot ∷ []) no_slot b lt)) (λ le. inr (behind le (cases_eq b (length slots)))) (cases_lt b (length slots)) where
  behind : length slots ≤ b → (b ≡ length slots) ⊎ (b ≡ length slots → ⊥) → (b ≡ length slots × slot_at (slots ++ slot ∷ []) b ≡ slot) ⊎ (slot_at (slots ++ slot ∷ []) b ≡ no_slot)
  behind le (inl e) = inl (e, get_or_push slots slot no_slot b (sym e))
  behind le (inr ne) = inr (get_or_past (slots ++ slot ∷ []) b no_slot (omega (arith, length_push slots slot, le, ne)))

no_slot_dead : {A : Type 0} (s : Slot) → s ≡ no_slot → s.live ≡ true → A
no_slot_dead s e lives = let wrong : false ≡ true = sym (ap (λ s. s.live) e) ∙ lives in cc

pub sound_begun : (slots all_slots : List Slot) (all new : List Cell) (free count : ℕ) (slot : Slot) → IsSound slots all free → slot.start ≡ free → count ≡ words_for slot.size → free + count < 2 ^ 29 → 4 * (free + count) ≤ length new → length all ≤ length new
    → all_slots ≡ slots ++ slot ∷ [] → IsSound all_slots new (free + count)
sound_begun slots all_slots all new free count slot sound at_free ec small room long es = rw es (record {
  small = small;
  within = room;
  there = λ b lives. there_of b lives (at_last slots slot b);
  ends = λ b held. ends_of b held (at_last slots slot b);
  apart = λ b c lt held also. apart_of b c lt held also (at_last slots slot b) (at_last slots slot c);
}) where
  Found : ℕ → Type 0
  Found b = (b < length slots × slot_at (slots ++ slot ∷ []) b ≡ slot_at slots b) ⊎ ((b ≡ length slots × slot_at (slots ++ slot ∷ []) b ≡ slot) ⊎ (slot_at (slots ++ slot ∷ []) b ≡ no_slot))

  there_of : (b : ℕ) → (slot_at (slots ++ slot ∷ []) b).live ≡ true → Found b
      → 4 * (slot_at (slots ++ slot ∷ []) b).start + (slot_at (slots ++ slot ∷ []) b).size ≤ length new
  there_of b lives (inl (lt, e)) = rw e (let was = sound.there b (ap (λ s. s.live) (sym e) ∙ lives) in omega (arith, was, long))
  there_of b lives (inr (inl (is, e))) = rw e (omega (arith, at_free, ec, room))
  there_of b lives (inr (inr e)) = no_slot_dead (slot_at (slots ++ slot ∷ []) b) e lives

  ends_of : (b : ℕ) → holds (slot_at (slots ++ slot ∷ []) b) ≡ true → Found b → end_of (slot_at (slots ++ slot ∷ []) b) ≤ free + count
  ends_of b held (inl (lt, e)) = rw e (let was = sound.ends b (ap holds (sym e) ∙ held) in omega (arith, was))
  ends_of b held (inr (inl (is, e))) = rw e (omega (arith, at_free, ec))
  ends_of b held (inr (inr e)) = no_slot_dead (slot_at (slots ++ slot ∷ []) b) e (live_of_holds (slot_at (slots ++ slot ∷ []) b) held)

  apart_of : (b c : ℕ) → b < c → holds (slot_at (slots ++ slot ∷ []) b) ≡ true → holds (slot_at (slots ++ slot ∷ []) c) ≡ true → Found b → Found c
      → end_of (slot_at (slots ++ slot ∷ []) b) ≤ (slot_at (slots ++ slot ∷ []) c).start
  apart_of b c lt held also (inl (known, e)) (inl (other, f)) = rw (e, f) (sound.apart b c lt (ap holds (sym e) ∙ held) (ap holds (sym f) ∙ also))
  apart_of b c lt held also (inl (known, e)) (inr (inl (is, f))) = rw (e, f) (let was = sound.ends b (ap holds (sym e) ∙ held) in omega (arith, was, at_free))
  apart_of b c lt held also x (inr (inr f)) = no_slot_dead (slot_at (slots ++ slot ∷ []) c) f (live_of_holds (slot_at (slots ++ slot ∷ []) c) also)
  apart_of b c lt held also (inr (inl (is, e))) (inl (other, f)) = absurd (omega (arith, lt, is, other))
  apart_of b c lt held also (inr (inl (is, e))) (inr (inl (also_is, f))) = absurd (omega (arith, lt, is, also_is))
  apart_of b c lt held also (inr (inr e)) y = no_slot_dead (slot_at (slots ++ slot ∷ []) b) e (live_of_holds (slot_at (slots ++ slot ∷ []) b) held)

-- ---- an end

-- a block that holds cells after another one's end held them before
pub was_other : (slots : List Slot) (b k : ℕ) (s : Slot) → s.live ≡ false → b < length slots → (slot_at (set slots b s) k).live ≡ true
    → (k ≢ b) × (slot_at (set slots b s) k ≡ slot_at slots k)
was_other slots b k s dead known lives = ⊎_elim
    (λ e. let wrong : false ≡ true = sym (ap (λ s. s.live) (ap (λ k. slot_at (set slots b s) k) e ∙ get_or-set_same slots b s no_slot known) ∙ dead) ∙ lives in cc)
    (λ ne. (ne, get_or-set_other slots b k s no_slot ne)) (cases_eq k b)

pub sound_ended : (slots other : List Slot) (all new : List Cell) (free b : ℕ) (s : Slot) → IsSound slots all free → b < length slots → s.live ≡ false
    → other ≡ set slots b s → length new ≡ length all → IsSound other new free
sound_ended slots other all new free b s sound known dead es long = rw es (record {
  small = sound.small;
  within = let was = sound.within in omega (arith, was, long);
  there = λ k lives. let o = was_other slots b k s dead known lives in
      rw o.1 (let was = sound.there k (ap (λ s. s.live) (sym o.1) ∙ lives) in omega (arith, was, long));
  ends = λ k held. let o = was_other slots b k s dead known (live_of_holds (slot_at (set slots b s) k) held) in
      rw o.1 (sound.ends k (ap holds (sym o.1) ∙ held));
  apart = λ k c lt held also. let o = was_other slots b k s dead known (live_of_holds (slot_at (set slots b s) k) held) in
      let p = was_other slots b c s dead known (live_of_holds (slot_at (set slots b s) c) also) in
      rw (o.1, p.1) (sound.apart k c lt (ap holds (sym o.1) ∙ held) (ap holds (sym p.1) ∙ also));
})

-- the words of a block that ends before the first free one are free
pub sound_given : (slots other : List Slot) (all new : List Cell) (free b : ℕ) (s : Slot) → IsSound slots all free → b < length slots → s.live ≡ false
    → other ≡ set slots b s → length new ≡ length all → holds (slot_at slots b) ≡ true → end_of (slot_at slots b) ≡ free
    → IsSound other new (slot_at slots b).start
sound_given slots other all new free b s sound known dead es long held last =
    let after : IsSound other new free = sound_ended slots other all new free b s sound known dead es long in record {
      small = let was = sound.small in omega (arith, was, last);
      within = let was = after.within in omega (arith, was, last);
      there = after.there;
      ends = λ k other_held. ends_of k other_held;
      apart = after.apart;
    } where
      some_cells : (s : Slot) → holds s ≡ true → 0 < s.size
      some_cells s held = ⊎_elim (λ lt. lt) (λ le. let zero_is : s.size ≡ 0 = omega (arith, le) in none zero_is) (cases_lt 0 s.size) where
        none : s.size ≡ 0 → 0 < s.size
        none e = let wrong : (s.live && false) ≡ true = ap (λ n. s.live && nat_lt 0 n) (sym e) ∙ held in never s.live wrong where
          never : (l : Bool) → (l && false) ≡ true → 0 < s.size
          never true e = cc
          never false e = cc

      ends_of : (k : ℕ) → holds (slot_at other k) ≡ true → end_of (slot_at other k) ≤ (slot_at slots b).start
      ends_of k also =
          let moved : holds (slot_at (set slots b s) k) ≡ true = ap (λ o. holds (slot_at o k)) (sym es) ∙ also in
          let o = was_other slots b k s dead known (live_of_holds (slot_at (set slots b s) k) moved) in
          let was : holds (slot_at slots k) ≡ true = ap holds (sym o.1) ∙ moved in
          let same : end_of (slot_at other k) ≡ end_of (slot_at slots k) = ap (λ o. end_of (slot_at o k)) es ∙ ap end_of o.1 in
          let some = some_cells (slot_at slots k) was in
          ⊎_elim (λ lt. let le = sound.apart k b lt was held in omega (arith, le, same))
          (λ le. let apart = sound.apart b k (omega (arith, le, o.0)) held was in let ends = sound.ends k was in absurd (omega (arith, apart, ends, last, some)))
          (cases_lt k b)

pub ended_now : (slots other : List Slot) (all new : List Cell) (free b : ℕ) (s : Slot) (put : List Cell) → IsSound slots all free → (slot_at slots b).live ≡ true
    → length put ≤ (slot_at slots b).size → new ≡ over all (4 * (slot_at slots b).start) put
    → s ≡ record { kind = (slot_at slots b).kind; live = false; start = 0; size = (slot_at slots b).size } → other ≡ set slots b s
    → memory_in other new ≡ with_end (memory_in slots all) b
ended_now slots other all new free b s put sound lives fits en is es =
    let known = known_of_live slots b lives in
    let o = slot_at slots b in
    let sum : 4 * o.start + 0 ≡ 4 * o.start = omega arith in
    let dead : s.live ≡ false = ap (λ s. s.live) is in
    let placed : new ≡ over all (4 * o.start + 0) put = en ∙ ap (λ n. over all n put) (sym sum) in
    let rest : (k : ℕ) → k < length slots → k ≢ b → block_in new (slot_at other k) ≡ block_in all (slot_at slots k) =
    λ k also ne. ap (λ o. block_in new (slot_at o k)) es ∙ ap (block_in new) (get_or-set_other slots b k s no_slot ne)
    ∙ ap (λ c. block_in c (slot_at slots k)) placed ∙ others_same slots all free b 0 put sound lives (omega (arith, fits)) k ne in
    set_in slots other all new b known (ap length es ∙ length-set slots b s) rest
    ∙ ap (λ y. set (memory_in slots all) b y) (ap (λ o. block_in new (slot_at o b)) es ∙ ap (block_in new) (get_or-set_same slots b s no_slot known)
    ∙ ended_in new s dead ∙ ap (λ s. record { kind = s.kind; contents = ended s.size }) is
    ∙ sym (ap (λ y. record { kind = y.kind; contents = ended (size_in y.contents) }) (live_block slots all b lives)
    ∙ ap (λ n. record { kind = o.kind; contents = ended n }) (length_of o lives))) where
      length_of : (o : Slot) → (slot_at slots b).live ≡ true → length (range all (4 * (slot_at slots b).start) (slot_at slots b).size) ≡ (slot_at slots b).size
      length_of o lives = length_range all (4 * (slot_at slots b).start) (slot_at slots b).size (sound.there b lives)

pub ended_before : (slots : List Slot) (all : List Cell) (b : ℕ) (slot : Slot) → slot ≡ slot_at slots b → slot.live ≡ false
    → memory_in slots all ≡ with_end (memory_in slots all) b
ended_before slots all b slot is ends =
    let over : (slot_at slots b).live ≡ false = ap (λ s. s.live) (sym is) ∙ ends in
    let same : block (memory_in slots all) b ≡ record { kind = kind (memory_in slots all) b; contents = ended (size (memory_in slots all) b) } =
    ended_block slots all b over ∙ ap (λ y. record { kind = y.kind; contents = ended (size_in y.contents) }) (sym (ended_block slots all b over)) in
    sym (ap (λ y. set (memory_in slots all) b y) (sym same ∙ block_is slots all b ∙ sym (get_or-map (block_in all) slots b no_slot))
    ∙ set-get_or (memory_in slots all) b (block_in all no_slot))

-- ---- cells that are put into a block without a test

pub set_within : (slots : List Slot) (all : List Cell) (free b at count : ℕ) (slot : Slot) → IsSound slots all free → slot ≡ slot_at slots b → slot.live ≡ true
    → at + count ≤ size (memory_in slots all) b → 4 * slot.start + at + count ≤ length all
set_within slots all free b at count slot sound is lives fits =
    let there = sound.there b (ap (λ s. s.live) (sym is) ∙ lives) in
    rw is (omega (arith, there, fits, size_is slots all free b sound))

pub set_live : (slots : List Slot) (all new : List Cell) (free b at cell : ℕ) (slot : Slot) (put : List Cell) → IsSound slots all free → slot ≡ slot_at slots b → slot.live ≡ true
    → at + length put ≤ size (memory_in slots all) b → cell ≡ 4 * slot.start + at → new ≡ over all cell put
    → memory_in slots new ≡ with_cells (memory_in slots all) b at put
set_live slots all new free b at cell slot put sound is lives within lies en =
    let live : (slot_at slots b).live ≡ true = ap (λ s. s.live) (sym is) ∙ lives in
    let placed : cell ≡ 4 * (slot_at slots b).start + at = lies ∙ ap (λ s. 4 * s.start + at) is in
    ap (λ c. memory_in slots c) en ∙ ap (λ n. memory_in slots (over all n put)) placed
    ∙ changed_in slots all free b at put sound live (omega (arith, within, size_is slots all free b sound))

pub set_ended : (slots : List Slot) (all : List Cell) (b at : ℕ) (slot : Slot) (new : List Cell) → slot ≡ slot_at slots b → slot.live ≡ false
    → memory_in slots all ≡ with_cells (memory_in slots all) b at new
set_ended slots all b at slot new is ends =
    let m = memory_in slots all in
    let over : (slot_at slots b).live ≡ false = ap (λ s. s.live) (sym is) ∙ ends in
    let same : block m b ≡ record { kind = kind m b; contents = overwritten (block m b).contents at new } =
    ended_block slots all b over ∙ ap (λ y. record { kind = y.kind; contents = overwritten y.contents at new }) (sym (ended_block slots all b over)) in
    sym (ap (λ y. set m b y) (sym same ∙ block_is slots all b ∙ sym (get_or-map (block_in all) slots b no_slot)) ∙ set-get_or m b (block_in all no_slot))
