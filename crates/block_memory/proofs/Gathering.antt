-- Live blocks that are moved together.
use Rattle.std.proofs.Common.{◌≡◌, ◌≢◌, ℕ, ◌+◌, ◌*◌, ◌/◌, ◌%◌, ◌<◌, ◌≤◌, List, length, true, refl, sym, ap, ◌∙◌, arith, inl, inr, ⊎_elim, get_or-set_other}
use Rattle.std.proofs.Common.{get_or-set_same, [], ◌∷◌, ◌++◌, false}
use Rattle.std.specs.Prelude.{◌⊎◌}
use Rattle.std.proofs.Math.ListN.{set}
use Rattle.std.proofs.lemmas.Bool.{cases_eq, cases_lt}
use Rattle.std.proofs.lemmas.List.{get_or_past, length-set, get_or_append_left, get_or_push, length_push}
use Rattle.memory_words.specs.declared.cell_words.cell.Cell.{Cell}
use Rattle.memory_words.specs.declared.cell_words.word.Four.{Four}
use Rattle.memory_words.specs.CellWords.Words.{cell_in, four_at, nothing}
use Rattle.block_memory.specs.declared.slot.Slot.{Slot}
use Rattle.block_memory.specs.Blocks.{living}
use Rattle.block_memory.specs.Cells.{IsShifted, cell_at, flat}
use Rattle.block_memory.specs.Moves.{IsGathered, IsSettled}
use Rattle.block_memory.specs.Slots.{IsSound, block_in, end_of, holds, memory_in, no_slot, slot_at, words_for}
use Rattle.block_memory.proofs.Beginning.{was_other}
use Rattle.block_memory.proofs.Flat.{length_flat, read}
use Rattle.block_memory.proofs.RangesHold.{range_same}
use Rattle.block_memory.proofs.Sound.{holds_of_live, known_of_live, live_of_holds}
use Rattle.block_memory.proofs.Views.{block_same, live_in, same_memory}

-- ---- words that are moved one by one

pub record Shifts (old new : List Four) (from to count : ℕ) : Type 0 where
  pub long : length new ≡ length old
  pub before : (n : ℕ) → n < to → four_at new n ≡ four_at old n
  pub moved : (n : ℕ) → n < count → four_at new (to + n) ≡ four_at old (from + n)
  pub behind : (n : ℕ) → from + count ≤ n → four_at new n ≡ four_at old n

pub shifts_none : (all : List Four) (from to : ℕ) → Shifts all all from to 0
shifts_none all from to = record { long = refl; before = λ n lt. refl; moved = λ n lt. absurd (omega arith); behind = λ n le. refl }

pub shifts_more : (old with new : List Four) (from to count k : ℕ) → to < from → from + count ≤ length old → k < count → Shifts old with from to k
    → new ≡ set (set with (to + k) (four_at with (from + k))) (from + k) nothing → Shifts old new from to (k + 1)
shifts_more old with new from to count k down within lt was en = rw en (record {
  long = length-set (set with (to + k) f) (from + k) nothing ∙ length-set with (to + k) f ∙ was.long;
  before = λ n less. other n (omega (arith, less)) (omega (arith, less, down)) ∙ was.before n less;
  moved = λ n less. moved_at n less (cases_eq n k);
  behind = λ n le. other n (omega (arith, le, down)) (omega (arith, le)) ∙ was.behind n (omega (arith, le));
}) where
  f : Four
  f = four_at with (from + k)

  other : (n : ℕ) → n ≢ to + k → n ≢ from + k → four_at (set (set with (to + k) f) (from + k) nothing) n ≡ four_at with n
  other n ne ne2 = get_or-set_other (set with (to + k) f) (from + k) n nothing nothing ne2 ∙ get_or-set_other with (to + k) n f nothing ne

  moved_at : (n : ℕ) → n < k + 1 → (n ≡ k) ⊎ (n ≡ k → ⊥) → four_at (set (set with (to + k) f) (from + k) nothing) (to + n) ≡ four_at old (from + n)
  moved_at n less (inl e) =
      ap (λ n. four_at (set (set with (to + k) f) (from + k) nothing) (to + n)) e
      ∙ get_or-set_other (set with (to + k) f) (from + k) (to + k) nothing nothing (omega (arith, down))
      ∙ get_or-set_same with (to + k) f nothing (omega (arith, was.long, within, lt, down))
      ∙ was.behind (from + k) (omega arith) ∙ ap (λ n. four_at old (from + n)) (sym e)
  moved_at n less (inr ne) = other (to + n) (omega (arith, ne)) (omega (arith, less, down)) ∙ was.moved n (omega (arith, less, ne))

cell_is : (fours : List Four) (n : ℕ) → n < 4 * length fours → cell_at (flat fours) n ≡ cell_in (four_at fours (n / 4)) (n % 4)
cell_is fours n lt = sym (read fours n (omega (arith, lt, length_flat fours)))

pub shifted : (old new : List Four) (from to count : ℕ) → to < from → 4 * (from + count) ≤ length (flat old) → Shifts old new from to count
    → IsShifted (flat old) (flat new) from to count
shifted old new from to count down within is = record {
  long = length_flat new ∙ ap (λ n. 4 * n) is.long ∙ sym (length_flat old);
  before = λ n lt. cell_is new n (omega (arith, lt, down, within, length_flat old, is.long))
      ∙ ap (λ f. cell_in f (n % 4)) (is.before (n / 4) (omega (arith, lt)))
      ∙ sym (cell_is old n (omega (arith, lt, down, within, length_flat old)));
  moved = λ n lt. moved_at n lt;
  behind = λ n le. behind_at n le (cases_lt n (length (flat old)));
} where
  moved_at : (n : ℕ) → n < 4 * count → cell_at (flat new) (4 * to + n) ≡ cell_at (flat old) (4 * from + n)
  moved_at n lt =
      let a : (4 * to + n) / 4 ≡ to + n / 4 = omega arith in
      let b : (4 * from + n) / 4 ≡ from + n / 4 = omega arith in
      let c : (4 * to + n) % 4 ≡ n % 4 = omega arith in
      let d : (4 * from + n) % 4 ≡ n % 4 = omega arith in
      cell_is new (4 * to + n) (omega (arith, lt, down, within, length_flat old, is.long))
      ∙ ap (λ m. cell_in (four_at new m) ((4 * to + n) % 4)) a ∙ ap (λ k. cell_in (four_at new (to + n / 4)) k) c
      ∙ ap (λ f. cell_in f (n % 4)) (is.moved (n / 4) (omega (arith, lt)))
      ∙ sym (cell_is old (4 * from + n) (omega (arith, lt, within, length_flat old))
      ∙ ap (λ m. cell_in (four_at old m) ((4 * from + n) % 4)) b ∙ ap (λ k. cell_in (four_at old (from + n / 4)) k) d)

  behind_at : (n : ℕ) → 4 * (from + count) ≤ n → (n < length (flat old)) ⊎ (length (flat old) ≤ n) → cell_at (flat new) n ≡ cell_at (flat old) n
  behind_at n le (inl lt) =
      cell_is new n (omega (arith, lt, length_flat old, is.long)) ∙ ap (λ f. cell_in f (n % 4)) (is.behind (n / 4) (omega (arith, le)))
      ∙ sym (cell_is old n (omega (arith, lt, length_flat old)))
  behind_at n le (inr past) =
      get_or_past (flat new) n _ (omega (arith, past, length_flat old, length_flat new, is.long)) ∙ sym (get_or_past (flat old) n _ past)

-- ---- a block that is moved down

module _ (slots other : List Slot) (all new : List Cell) (free block to : ℕ) (s : Slot) (sound : IsSound slots all free) (gathered : IsGathered slots block to)
    (held : holds (slot_at slots block) ≡ true) (down : to < (slot_at slots block).start)
    (shift : IsShifted all new (slot_at slots block).start to (words_for (slot_at slots block).size))
    (is : s ≡ record { kind = (slot_at slots block).kind; live = (slot_at slots block).live; start = to; size = (slot_at slots block).size })
    (es : other ≡ set slots block s) where
  abbrev was : Slot
  was = slot_at slots block

  live : was.live ≡ true
  live = live_of_holds was held

  known : block < length slots
  known = known_of_live slots block live

  here : slot_at other block ≡ s
  here = ap (λ o. slot_at o block) es ∙ get_or-set_same slots block s no_slot known

  there : (k : ℕ) → k ≢ block → slot_at other k ≡ slot_at slots k
  there k ne = ap (λ o. slot_at o k) es ∙ get_or-set_other slots block k s no_slot ne

  many : length other ≡ length slots
  many = ap length es ∙ length-set slots block s

  -- a block elsewhere is before or behind what is moved
  elsewhere : (k : ℕ) → k ≢ block → holds (slot_at slots k) ≡ true → (end_of (slot_at slots k) ≤ to) ⊎ (end_of was ≤ (slot_at slots k).start)
  elsewhere k ne also = ⊎_elim (λ lt. inl (gathered.before k lt also)) (λ le. inr (sound.apart block k (omega (arith, le, ne)) held also)) (cases_lt k block)

  other_block : (k : ℕ) → k ≢ block → block_in new (slot_at slots k) ≡ block_in all (slot_at slots k)
  other_block k ne =
      let o = slot_at slots k in
      block_same all new o
      (λ lives some. range_same new all (4 * o.start) (4 * o.start) o.size (let fits = sound.there k lives in omega (arith, fits, shift.long)) (sound.there k lives)
      (λ n lt. ⊎_elim (λ le. shift.before (4 * o.start + n) (omega (arith, le, lt))) (λ le. shift.behind (4 * o.start + n) (omega (arith, le)))
      (elsewhere k ne (holds_of_live o lives some))))

  this_block : block_in new s ≡ block_in all was
  this_block =
      let fits = sound.there block live in
      ap (block_in new) is
      ∙ live_in new (record { kind = was.kind; live = was.live; start = to; size = was.size }) live
      ∙ ap (λ r. record { kind = was.kind; contents = living r })
      (range_same new all (4 * to) (4 * was.start) was.size (omega (arith, fits, shift.long, down)) fits (λ n lt. shift.moved n (omega (arith, lt))))
      ∙ sym (live_in all was live)

  pub lowered_memory : memory_in other new ≡ memory_in slots all
  lowered_memory =
      same_memory slots other all new many
      (λ k lt. ⊎_elim (λ e. ap (λ k. block_in new (slot_at other k)) e ∙ ap (block_in new) here ∙ this_block ∙ ap (λ k. block_in all (slot_at slots k)) (sym e))
      (λ ne. ap (block_in new) (there k ne) ∙ other_block k ne) (cases_eq k block))

  start_is : s.start ≡ to
  start_is = ap (λ s. s.start) is

  end_is : end_of s ≡ to + words_for was.size
  end_is = ap end_of is

  holds_is : holds s ≡ true
  holds_is = ap holds is ∙ held

  other_holds : (k : ℕ) → k ≢ block → holds (slot_at other k) ≡ true → holds (slot_at slots k) ≡ true
  other_holds k ne also = ap holds (sym (there k ne)) ∙ also

  pub lowered_sound : IsSound other new free
  lowered_sound = record {
    small = sound.small;
    within = let within = sound.within in omega (arith, within, shift.long);
    there = λ k lives. there_of k lives (cases_eq k block);
    ends = λ k also. ends_of k also (cases_eq k block);
    apart = λ k c lt also too. apart_of k c lt also too (cases_eq k block) (cases_eq c block);
  } where
    there_of : (k : ℕ) → (slot_at other k).live ≡ true → (k ≡ block) ⊎ (k ≡ block → ⊥) → 4 * (slot_at other k).start + (slot_at other k).size ≤ length new
    there_of k lives (inl e) =
        let fits = sound.there block live in
        let same : slot_at other k ≡ s = ap (λ k. slot_at other k) e ∙ here in
        rw same (omega (arith, fits, shift.long, down, start_is, ap (λ s. s.size) is))
    there_of k lives (inr ne) = rw (there k ne) (let fits = sound.there k (ap (λ s. s.live) (sym (there k ne)) ∙ lives) in omega (arith, fits, shift.long))

    ends_of : (k : ℕ) → holds (slot_at other k) ≡ true → (k ≡ block) ⊎ (k ≡ block → ⊥) → end_of (slot_at other k) ≤ free
    ends_of k also (inl e) =
        let same : slot_at other k ≡ s = ap (λ k. slot_at other k) e ∙ here in
        let ends = sound.ends block held in omega (arith, ends, ap end_of same, end_is, down)
    ends_of k also (inr ne) = let ends = sound.ends k (other_holds k ne also) in omega (arith, ends, ap end_of (there k ne))

    apart_of : (k c : ℕ) → k < c → holds (slot_at other k) ≡ true → holds (slot_at other c) ≡ true → (k ≡ block) ⊎ (k ≡ block → ⊥) → (c ≡ block) ⊎ (c ≡ block → ⊥)
        → end_of (slot_at other k) ≤ (slot_at other c).start
    apart_of k c lt also too (inl e) (inl f) = absurd (omega (arith, lt, e, f))
    apart_of k c lt also too (inl e) (inr ne) =
        let same : slot_at other k ≡ s = ap (λ k. slot_at other k) e ∙ here in
        let apart = sound.apart block c (omega (arith, lt, e)) held (other_holds c ne too) in
        omega (arith, apart, ap end_of same, end_is, down, ap (λ s. s.start) (there c ne))
    apart_of k c lt also too (inr ne) (inl f) =
        let same : slot_at other c ≡ s = ap (λ c. slot_at other c) f ∙ here in
        let before = gathered.before k (omega (arith, lt, f)) (other_holds k ne also) in
        omega (arith, before, ap end_of (there k ne), ap (λ s. s.start) same, start_is)
    apart_of k c lt also too (inr ne) (inr mo) =
        let apart = sound.apart k c lt (other_holds k ne also) (other_holds c mo too) in omega (arith, apart, ap end_of (there k ne), ap (λ s. s.start) (there c mo))

  pub lowered_gathered : IsGathered other (block + 1) (to + words_for (slot_at slots block).size)
  lowered_gathered = record {
    before = λ k lt also. before_of k lt also (cases_eq k block);
    behind = λ k le also. let ne : k ≢ block = omega (arith, le) in
        let apart = sound.apart block k (omega (arith, le)) held (other_holds k ne also) in omega (arith, apart, down, ap (λ s. s.start) (there k ne));
  } where
    before_of : (k : ℕ) → k < block + 1 → holds (slot_at other k) ≡ true → (k ≡ block) ⊎ (k ≡ block → ⊥) → end_of (slot_at other k) ≤ to + words_for was.size
    before_of k lt also (inl e) =
        let same : slot_at other k ≡ s = ap (λ k. slot_at other k) e ∙ here in omega (arith, ap end_of same, end_is)
    before_of k lt also (inr ne) = let before = gathered.before k (omega (arith, lt, ne)) (other_holds k ne also) in omega (arith, before, ap end_of (there k ne))

-- ---- one block after the other

pub gathered_none : (slots : List Slot) → IsGathered slots 0 0
gathered_none slots = record { before = λ b lt held. absurd (omega arith); behind = λ b le held. omega arith }

-- a block without cells
pub gathered_past : (slots : List Slot) (block to : ℕ) → IsGathered slots block to → holds (slot_at slots block) ≡ false → IsGathered slots (block + 1) to
gathered_past slots block to gathered none = record {
  before = λ k lt held. ⊎_elim (λ e. let wrong : false ≡ true = sym none ∙ ap (λ k. holds (slot_at slots k)) (sym e) ∙ held in cc)
      (λ ne. gathered.before k (omega (arith, lt, ne)) held) (cases_eq k block);
  behind = λ k le held. gathered.behind k (omega (arith, le)) held;
}

-- a block that is where it should be
pub gathered_there : (slots : List Slot) (all : List Cell) (free block to : ℕ) → IsSound slots all free → IsGathered slots block to → holds (slot_at slots block) ≡ true
    → (slot_at slots block).start ≤ to → IsGathered slots (block + 1) (to + words_for (slot_at slots block).size)
gathered_there slots all free block to sound gathered held le =
    let same : (slot_at slots block).start ≡ to = let behind = gathered.behind block (omega arith) held in omega (arith, behind, le) in record {
      before = λ k lt also. ⊎_elim (λ e. let here : end_of (slot_at slots k) ≡ end_of (slot_at slots block) = ap (λ k. end_of (slot_at slots k)) e in omega (arith, here, same))
          (λ ne. let before = gathered.before k (omega (arith, lt, ne)) also in omega (arith, before)) (cases_eq k block);
      behind = λ k lt also. let apart = sound.apart block k (omega (arith, lt)) held also in omega (arith, apart, same);
    }

pub sound_gathered : (slots : List Slot) (all : List Cell) (free to : ℕ) → IsSound slots all free → IsGathered slots (length slots) to → to ≤ free → IsSound slots all to
sound_gathered slots all free to sound gathered le = record {
  small = let small = sound.small in omega (arith, small, le);
  within = let within = sound.within in omega (arith, within, le);
  there = sound.there;
  ends = λ b held. gathered.before b (known_of_live slots b (live_of_holds (slot_at slots b) held)) held;
  apart = sound.apart;
}

-- ---- blocks that need not be looked at

pub settled_none : (slots : List Slot) (free : ℕ) → slots ≡ [] → IsSettled slots free 0 0
settled_none slots free e = record { gathered = gathered_none slots; known = omega arith; within = omega arith }

pub settled_more : (slots all : List Slot) (free after block to : ℕ) (slot : Slot) → IsSettled slots free block to → slot.start ≡ free → free ≤ after → all ≡ slots ++ slot ∷ []
    → IsSettled all after block to
settled_more slots all free after block to slot settled at_free le ea = rw ea (record {
  gathered = record {
    before = λ b lt held. let was : slot_at (slots ++ slot ∷ []) b ≡ slot_at slots b = get_or_append_left slots (slot ∷ []) no_slot b (omega (arith, lt, settled.known)) in
        let ends = settled.gathered.before b lt (ap holds (sym was) ∙ held) in omega (arith, ends, ap end_of was);
    behind = λ b more held. behind_of b more held (cases_lt b (length slots)) (cases_eq b (length slots));
  };
  known = omega (arith, settled.known, length_push slots slot);
  within = omega (arith, settled.within, le);
}) where
  behind_of : (b : ℕ) → block ≤ b → holds (slot_at (slots ++ slot ∷ []) b) ≡ true → (b < length slots) ⊎ (length slots ≤ b) → (b ≡ length slots) ⊎ (b ≡ length slots → ⊥)
      → to ≤ (slot_at (slots ++ slot ∷ []) b).start
  behind_of b more held (inl lt) other =
      let was : slot_at (slots ++ slot ∷ []) b ≡ slot_at slots b = get_or_append_left slots (slot ∷ []) no_slot b lt in
      let start = settled.gathered.behind b more (ap holds (sym was) ∙ held) in omega (arith, start, ap (λ s. s.start) was)
  behind_of b more held (inr le) (inl e) =
      let is : slot_at (slots ++ slot ∷ []) b ≡ slot = get_or_push slots slot no_slot b (sym e) in omega (arith, settled.within, at_free, ap (λ s. s.start) is)
  behind_of b more held (inr le) (inr ne) =
      let past : slot_at (slots ++ slot ∷ []) b ≡ no_slot = get_or_past (slots ++ slot ∷ []) b no_slot (omega (arith, length_push slots slot, le, ne)) in
      let wrong : false ≡ true = sym (ap holds past) ∙ held in cc

pub settled_ended : (slots other : List Slot) (free after b block to : ℕ) (s : Slot) → IsSettled slots free block to → b < length slots → s.live ≡ false → other ≡ set slots b s → to ≤ after
    → IsSettled other after block to
settled_ended slots other free after b block to s settled known dead eo le = rw eo (record {
  gathered = record {
    before = λ k lt held. let o = was_other slots b k s dead known (live_of_holds (slot_at (set slots b s) k) held) in
        let ends = settled.gathered.before k lt (ap holds (sym o.1) ∙ held) in omega (arith, ends, ap end_of o.1);
    behind = λ k more held. let o = was_other slots b k s dead known (live_of_holds (slot_at (set slots b s) k) held) in
        let start = settled.gathered.behind k more (ap holds (sym o.1) ∙ held) in omega (arith, start, ap (λ s. s.start) o.1);
  };
  known = omega (arith, settled.known, length-set slots b s);
  within = le;
})

-- from a block that holds cells on
pub settled_from : (slots : List Slot) (all : List Cell) (free b start : ℕ) → IsSound slots all free → holds (slot_at slots b) ≡ true → start ≡ (slot_at slots b).start → IsSettled slots free b start
settled_from slots all free b start sound held es = record {
  gathered = record {
    before = λ k lt also. let apart = sound.apart k b lt also held in omega (arith, apart, es);
    behind = λ k more also. ⊎_elim (λ lt. let apart = sound.apart b k lt held also in omega (arith, apart, es))
        (λ le. let same : k ≡ b = omega (arith, more, le) in omega (arith, es, ap (λ k. (slot_at slots k).start) same)) (cases_lt b k);
  };
  known = let lt = known_of_live slots b (live_of_holds (slot_at slots b) held) in omega (arith, lt);
  within = let ends = sound.ends b held in omega (arith, ends, es);
}

-- blocks behind them are moved down
pub settled_lowered : (slots other : List Slot) (free b block to low : ℕ) (s : Slot) → IsSettled slots free block to → block ≤ b → b < length slots → to ≤ low → s.start ≡ low → other ≡ set slots b s
    → IsSettled other free block to
settled_lowered slots other free b block to low s settled le known down es eo = rw eo (record {
  gathered = record {
    before = λ k lt held. let was : slot_at (set slots b s) k ≡ slot_at slots k = get_or-set_other slots b k s no_slot (omega (arith, le, lt)) in
        let ends = settled.gathered.before k lt (ap holds (sym was) ∙ held) in omega (arith, ends, ap end_of was);
    behind = λ k more held. behind_of k more held (cases_eq k b);
  };
  known = omega (arith, settled.known, length-set slots b s);
  within = settled.within;
}) where
  behind_of : (k : ℕ) → block ≤ k → holds (slot_at (set slots b s) k) ≡ true → (k ≡ b) ⊎ (k ≡ b → ⊥) → to ≤ (slot_at (set slots b s) k).start
  behind_of k more held (inl e) =
      let is : slot_at (set slots b s) k ≡ s = ap (λ k. slot_at (set slots b s) k) e ∙ get_or-set_same slots b s no_slot known in omega (arith, down, es, ap (λ s. s.start) is)
  behind_of k more held (inr ne) =
      let was : slot_at (set slots b s) k ≡ slot_at slots k = get_or-set_other slots b k s no_slot ne in
      let start = settled.gathered.behind k more (ap holds (sym was) ∙ held) in omega (arith, start, ap (λ s. s.start) was)

pub settled_all : (slots : List Slot) (n to : ℕ) → IsGathered slots n to → n ≡ length slots → IsSettled slots to n to
settled_all slots n to gathered e = record { gathered = gathered; known = omega (arith, e); within = omega arith }
