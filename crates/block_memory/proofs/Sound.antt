-- What always holds of a store.
use Rattle.std.proofs.Common.{◌≡◌, ℕ, ◌+◌, ◌<◌, ◌≤◌, List, [], length, Bool, true, false, refl, sym, ap, ◌∙◌, arith, ⊎_elim}
use Rattle.std.specs.Prelude.{◌&&◌, nat_lt}
use Rattle.std.proofs.lemmas.Bool.{cases_lt, lt-ltb}
use Rattle.std.proofs.lemmas.List.{get_or_past}
use Rattle.memory_words.specs.declared.cell_words.cell.Cell.{Cell}
use Rattle.block_memory.specs.declared.slot.Slot.{Slot}
use Rattle.block_memory.specs.Cells.{over}
use Rattle.block_memory.specs.Slots.{IsSound, holds, no_slot, slot_at, words_for}
use Rattle.block_memory.proofs.Overs.{no_shorter}

no_live : (b : ℕ) {A : Type 0} → (slot_at [] b).live ≡ true → A
no_live b lives = let wrong : false ≡ true = ap (λ s. s.live) (sym (get_or_past [] b no_slot (omega arith))) ∙ lives in cc

no_holds : (b : ℕ) {A : Type 0} → holds (slot_at [] b) ≡ true → A
no_holds b held = let wrong : false ≡ true = ap holds (sym (get_or_past [] b no_slot (omega arith))) ∙ held in cc

pub sound_none : (slots : List Slot) (cells : List Cell) → slots ≡ [] → cells ≡ [] → IsSound slots cells 0
sound_none slots cells es ec = rw (es, ec) (record {
  small = omega arith;
  within = omega arith;
  there = λ b lives. no_live b lives;
  ends = λ b held. no_holds b held;
  apart = λ b c lt held also. no_holds b held;
})

pub sound_long : (slots : List Slot) (cells new : List Cell) (free : ℕ) → IsSound slots cells free → length cells ≤ length new → IsSound slots new free
sound_long slots cells new free sound le = record {
  small = sound.small;
  within = let was = sound.within in omega (arith, was, le);
  there = λ b lives. let was = sound.there b lives in omega (arith, was, le);
  ends = sound.ends;
  apart = sound.apart;
}

pub sound_changed : (slots : List Slot) (cells new : List Cell) (free at : ℕ) (all : List Cell) → IsSound slots cells free → new ≡ over cells at all → IsSound slots new free
sound_changed slots cells new free at all sound en = sound_long slots cells new free sound (omega (arith, ap length en, no_shorter cells all at))

-- ---- blocks that hold cells

pub live_of_holds : (slot : Slot) → holds slot ≡ true → slot.live ≡ true
live_of_holds slot held = both slot.live (nat_lt 0 slot.size) held where
  both : (a b : Bool) → (a && b) ≡ true → a ≡ true
  both true b e = refl
  both false b e = let wrong : false ≡ true = e in cc

pub holds_of_live : (slot : Slot) → slot.live ≡ true → 0 < slot.size → holds slot ≡ true
holds_of_live slot lives some = ap (λ l. l && nat_lt 0 slot.size) lives ∙ lt-ltb 0 slot.size some

pub known_of_live : (slots : List Slot) (b : ℕ) → (slot_at slots b).live ≡ true → b < length slots
known_of_live slots b lives =
    ⊎_elim (λ l. l) (λ past. absurd (true_is_false (sym lives ∙ ap (λ s. s.live) (get_or_past slots b no_slot past)))) (cases_lt b (length slots)) where
      true_is_false : true ≡ false → ⊥
      true_is_false e = cc

pub before_free : (slots : List Slot) (cells : List Cell) (free b count : ℕ) (slot : Slot) → IsSound slots cells free → holds (slot_at slots b) ≡ true → slot ≡ slot_at slots b
    → count ≡ words_for slot.size → slot.start + count ≤ free
before_free slots cells free b count slot sound held is ec = rw (ec, is) (sound.ends b held)
