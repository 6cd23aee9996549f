-- Words that stay where they stand: the entries of the decoder, as the machine goes on.
use Rattle.std.specs.Prelude.{◌⊎◌, not, slice_index_or, slice_set}
use Rattle.std.proofs.lemmas.Bool.{cases_eq}
use Rattle.std.proofs.lemmas.List.{get_or-replicate, get_or-set_other, get_or-set_same, length-replicate}
use Rattle.std.proofs.Common.{◌≡◌, ℕ, ◌+◌, ◌/◌, ◌%◌, ◌<◌, ◌≤◌, Bool, true, false, List, [], ◌∷◌, Some, length, replicate, refl, sym, ap, ◌∙◌, subst, arith, inl, inr}
use Rattle.rv_isa.specs.declared.image.Segment.{Segment}
use Rattle.rv_isa.specs.Memory.{Memory as Content, is_mapped, are_mapped, executable, writable, word_at}
use Rattle.rv_machine.specs.declared.rows.Row.{Row}
use Rattle.rv_machine.specs.declared.decoder.Decoder.{Decoder}
use Rattle.rv_machine.specs.declared.decoder.Entry.{Entry}
use Rattle.rv_machine.specs.Rows.{segments_of, allows, Serves, AreSound}
use Rattle.std.specs.Global.{Vec}
use Rattle.rv_machine.specs.declared.memory.Memory.{Memory}
use Rattle.rv_machine.specs.View.{content_of, if_mapped, segments_in, IsKept}
use Rattle.rv_machine.specs.Keeping.{AllStay, IsReady, Lasts, Stays}
use Rattle.rv_machine.proofs.Places.{holds_between, mapped_not, some_if}
use Rattle.rv_machine.proofs.Stores.{kept_content}

-- bytes in a row that may not be written
pub not_written : (rows : List Row) (size a n : ℕ) (row : Row) (writes : Bool) → AreSound rows size → Serves rows size row → row.at ≤ a
    → a + n ≤ row.at + row.size → writes ≡ allows row writable → not writes ≡ true
    → (k : ℕ) → k < n → is_mapped (segments_of rows) writable (a + k) ≡ false
not_written rows size a n row true sound serves low high e refused k lt = absurd cc
not_written rows size a n row false sound serves low high e refused k lt =
    mapped_not rows size writable (a + k) row sound (serves.found (a + k) (holds_between row (a + k) (omega arith) (omega arith))) (sym e)

same_word : (m m1 : Content) (a : ℕ) → ((k : ℕ) → k < 4 → m1 (a + k) ≡ m (a + k)) → word_at m1 a ≡ word_at m a
same_word m m1 a same =
    let z : a + 0 ≡ a = omega arith in
    let e0 : m1 a ≡ m a = rw z at (same 0 (omega arith)) in
    let e1 = same 1 (omega arith) in
    let e2 = same 2 (omega arith) in
    let e3 = same 3 (omega arith) in
    rw (e0, e1, e2, e3) refl

module _ (old new : Memory) (decoder : Decoder) (placed : segments_in new ≡ segments_in old) where
  abbrev IsUnwritten : Type 0
  IsUnwritten = (a : ℕ) → is_mapped (segments_in old) writable a ≡ false → content_of new a ≡ content_of old a

  stays_still : (pc word : ℕ) → IsUnwritten → Stays old pc word → Stays new pc word
  stays_still pc word leaves stays = record {
    mapped = ap (λ (p : List Segment). are_mapped p executable pc 4) placed ∙ stays.mapped;
    is = same_word (content_of old) (content_of new) pc (λ k lt. leaves (pc + k) (stays.fixed k lt)) ∙ stays.is;
    fixed = λ k lt. ap (λ (p : List Segment). is_mapped p writable (pc + k)) placed ∙ stays.fixed k lt;
  }

  -- what leaves unwritten memory leaves the words where they stay
  pub all_stay : IsUnwritten → AllStay old decoder → AllStay new decoder
  all_stay leaves all = λ k lt d e. stays_still _ _ leaves (all k lt d e)

some_entry : (entries : List Entry) → length entries ≡ 65536 → Entry
some_entry [] e = absurd cc
some_entry (entry ∷ entries) e = entry

-- memory that has found a word to be executed
module _ (old fetched : Memory) (pc : ℕ) (kept : IsKept old fetched) where
  placed : segments_in fetched ≡ segments_in old
  placed = ap (λ (v : Vec Row). segments_of v.items) kept.rows

  pub all_stay_fetched : (decoder : Decoder) → AllStay old decoder → AllStay fetched decoder
  all_stay_fetched decoder = all_stay old fetched decoder placed (λ a fixed. ap (λ (m : Content). m a) (kept_content old fetched kept))

  pub word_fetched : (word : ℕ) → Some word ≡ if_mapped old executable pc 4 (word_at (content_of old) pc)
      → ((k : ℕ) → k < 4 → is_mapped (segments_in fetched) writable (pc + k) ≡ false) → Stays fetched pc word
  word_fetched word e fixed =
      let f = some_if _ word (word_at (content_of old) pc) e in
      record {
        mapped = ap (λ (p : List Segment). are_mapped p executable pc 4) placed ∙ f.0;
        is = ap (λ (m : Content). word_at m pc) (kept_content old fetched kept) ∙ sym f.1;
        fixed = fixed;
      }

-- a word that stays is ready
pub ready_where_lasts : (memory : Memory) (decoder : Decoder) (pc : ℕ) → AllStay memory decoder → Lasts decoder pc → IsReady memory decoder pc
ready_where_lasts memory decoder pc all lasts =
    record {
      mapped = let d = some_entry decoder.entries.items decoder.full in
          subst (λ (a : ℕ). are_mapped (segments_in memory) executable a 4 ≡ true) (lasts d) (stays d).mapped;
      kept = λ d. sym (ap (word_at (content_of memory)) (sym (lasts d)) ∙ (stays d).is);
    }
  where
    place : ℕ
    place = pc / 4 % 65536

    entry : Entry → Entry
    entry d = slice_index_or decoder.entries.items place d

    stays : (d : Entry) → Stays memory (entry d).at (entry d).word
    stays d = all place (omega arith) d (ap (λ (a : ℕ). a / 4 % 65536) (lasts d))

-- at first no entry has the place of its address
pub none_stay : (entries : List Entry) (first second : Entry) → entries ≡ replicate 65536 first → first.at ≡ 4 → second.at ≡ 0
    → (memory : Memory) (k : ℕ) → k < 65536 → (d : Entry)
    → (slice_index_or (slice_set entries 1 second) k d).at / 4 % 65536 ≡ k → Stays memory (slice_index_or (slice_set entries 1 second) k d).at
    (slice_index_or (slice_set entries 1 second) k d).word
none_stay entries first second all four nought memory k lt d e = absurd (by_place k lt e (cases_eq k 1))
  where
    by_place : (k : ℕ) → k < 65536 → (slice_index_or (slice_set entries 1 second) k d).at / 4 % 65536 ≡ k → (k ≡ 1) ⊎ (k ≡ 1 → ⊥) → ⊥
    by_place k lt e (inl same) =
        let size : length entries ≡ 65536 = ap length all ∙ length-replicate {A = Entry} 65536 first in
        let there : slice_index_or (slice_set entries 1 second) k d ≡ second =
        ap (λ (j : ℕ). slice_index_or (slice_set entries 1 second) j d) same ∙ get_or-set_same entries 1 second d (omega arith) in
        let at : (slice_index_or (slice_set entries 1 second) k d).at ≡ 0 = ap (λ (x : Entry). x.at) there ∙ nought in
        omega arith
    by_place k lt e (inr other) =
        let there : slice_index_or (slice_set entries 1 second) k d ≡ first =
        get_or-set_other entries 1 k second d other
        ∙ ap (λ (xs : List Entry). slice_index_or xs k d) all ∙ get_or-replicate 65536 k first d lt in
        let at : (slice_index_or (slice_set entries 1 second) k d).at ≡ 4 = ap (λ (x : Entry). x.at) there ∙ four in
        omega arith
