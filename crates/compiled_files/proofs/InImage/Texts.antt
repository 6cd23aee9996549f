-- The bytes of texts stand where they are placed.
use Rattle.std.proofs.Common.{◌≡◌, ℕ, zero, suc, ◌+◌, ◌-◌, ◌<◌, ◌≤◌, ◌⊎◌, inl, inr, List, [], ◌∷◌, length, map, refl, ap, ◌∙◌, arith}
use Rattle.std.specs.Prelude.{All, Contains, slice_index, slice_set}
use Rattle.std.proofs.lemmas.List.{get_or-set_same, get_or-set_other, length-set}
use Rattle.std.proofs.lemmas.List.Elements.{All-nil, All-cons, All-append, All-contains}
use Rattle.rv_code.specs.Frames.{whole_words, places_from, end_from}
use Rattle.rv_code.specs.Programs.{texts_from, texts_end, all_texts_end}
use Rattle.rv_code.proofs.Lists.{end_is_behind}
use Rattle.rv_image.specs.Data.{put_bytes, put_texts, put_all_texts}
use Rattle.rv_image.proofs.Walks.{all_ends_behind}
use Rattle.rv_runtime.specs.Routines.{data_place}
use Rattle.tac_ir.specs.Code.{RoutineData}
use Rattle.compiled_files.specs.Placing.{with_places, placed_texts}

-- ---- bytes that are put

put_other : (at : ℕ) (bytes all : List ℕ) (i : ℕ) → (i < at) ⊎ (at + length bytes ≤ i) → slice_index (put_bytes at bytes all) i ≡ slice_index all i
put_other at [] all i o = refl
put_other at (b ∷ more) all i o =
    let apart : (i < at + 1) ⊎ (at + 1 + length more ≤ i) = elim o [
      | inl lt ↦ inl (omega arith)
      | inr le ↦ inr (omega arith)
    ] in
    put_other (at + 1) more (slice_set all at b) i apart
    ∙ get_or-set_other all at i b 0 (λ e. elim o [
      | inl lt ↦ omega arith
      | inr le ↦ omega arith
    ])

put_same : (at : ℕ) (bytes all : List ℕ) (k : ℕ) → k < length bytes → at + length bytes ≤ length all
    → slice_index (put_bytes at bytes all) (at + k) ≡ slice_index bytes k
put_same at [] all k lt le = absurd (omega arith)
put_same at (b ∷ more) all zero lt le =
    let e : at + 0 ≡ at = omega arith in
    ap (slice_index (put_bytes at (b ∷ more) all)) e ∙ put_other (at + 1) more (slice_set all at b) at (inl (omega arith))
    ∙ get_or-set_same all at b 0 (omega arith)
put_same at (b ∷ more) all (suc k) lt le =
    let e : at + suc k ≡ at + 1 + k = omega arith in
    ap (slice_index (put_bytes at (b ∷ more) all)) e
    ∙ put_same (at + 1) more (slice_set all at b) k (omega arith) (omega (arith, length-set all at b))

put_keeps : (at : ℕ) (bytes all : List ℕ) → length (put_bytes at bytes all) ≡ length all
put_keeps at [] all = refl
put_keeps at (byte ∷ more) all = put_keeps (at + 1) more (slice_set all at byte) ∙ length-set all at byte

-- ---- texts, which lie behind each other

-- what lies below them stays
texts_below : (at : ℕ) (texts : List (List ℕ)) (all : List ℕ) (i : ℕ) → data_place + i < at → slice_index (put_texts at texts all) i ≡ slice_index all i
texts_below at [] all i lt = refl
texts_below at (text ∷ more) all i lt =
    texts_below (at + whole_words (length text)) more (put_bytes (at - data_place) text all) i (omega arith)
    ∙ put_other (at - data_place) text all i (inl (omega arith))

pub all_texts_below : (at : ℕ) (gs : List RoutineData) (all : List ℕ) (i : ℕ) → data_place + i < at
    → slice_index (put_all_texts at gs all) i ≡ slice_index all i
all_texts_below at [] all i lt = refl
all_texts_below at (g ∷ more) all i lt =
    all_texts_below (texts_end at g) more (put_texts at g.texts all) i (omega (arith, end_is_behind at (map length g.texts)))
    ∙ texts_below at g.texts all i lt

texts_keep : (at : ℕ) (texts : List (List ℕ)) (all : List ℕ) → length (put_texts at texts all) ≡ length all
texts_keep at [] all = refl
texts_keep at (text ∷ more) all =
    texts_keep (at + whole_words (length text)) more (put_bytes (at - data_place) text all) ∙ put_keeps (at - data_place) text all

pub all_texts_keep : (at : ℕ) (gs : List RoutineData) (all : List ℕ) → length (put_all_texts at gs all) ≡ length all
all_texts_keep at [] all = refl
all_texts_keep at (g ∷ more) all = all_texts_keep (texts_end at g) more (put_texts at g.texts all) ∙ texts_keep at g.texts all

-- a text lies in a range, and its bytes are in the data
abbrev pub Shows : (low high : ℕ) (all : List ℕ) → (ℕ × List ℕ) → Type 0
Shows low high all x = (low ≤ x.0) × (x.0 + length x.1 ≤ high) × ((k : ℕ) → k < length x.1 → slice_index all (x.0 - data_place + k) ≡ slice_index x.1 k)

module _ (low high : ℕ) (end : List ℕ) (behind : data_place ≤ low) where
  texts_shown : (at : ℕ) (texts : List (List ℕ)) (all : List ℕ) → low ≤ at → end_from at (map length texts) ≤ high → high ≤ data_place + length all
      → ((i : ℕ) → data_place + i < end_from at (map length texts) → slice_index end i ≡ slice_index (put_texts at texts all) i)
      → All (Shows low high end) (with_places (places_from at (map length texts)) texts)
  texts_shown at [] all le fits within same = All-nil (Shows low high end)
  texts_shown at (text ∷ more) all le fits within same =
      let next = at + whole_words (length text) in
      let after = put_bytes (at - data_place) text all in
      let above = end_is_behind next (map length more) in
      let first : Shows low high end (at, text) = (
        le,
        omega (arith, above),
        λ k lt. same (at - data_place + k) (omega (arith, above)) ∙ texts_below next more after (at - data_place + k) (omega arith)
            ∙ put_same (at - data_place) text all k lt (omega (arith, above)),
      ) in
      All-cons (Shows low high end) (at, text) (with_places (places_from next (map length more)) more) first
      (texts_shown next more after (omega arith) fits (omega (arith, put_keeps (at - data_place) text all)) same)

  -- the texts of all functions
  all_shown : (at : ℕ) (gs : List RoutineData) (all : List ℕ) → low ≤ at → all_texts_end at gs ≤ high → high ≤ data_place + length all
      → end ≡ put_all_texts at gs all → All (Shows low high end) (placed_texts at gs)
  all_shown at [] all le fits within is = All-nil (Shows low high end)
  all_shown at (g ∷ more) all le fits within is =
      let next = texts_end at g in
      let after = put_texts at g.texts all in
      let above = all_ends_behind next more in
      let same = λ (i : ℕ) (lt : data_place + i < next). (ap (λ xs. slice_index xs i) is ∙ all_texts_below next more after i lt) in
      All-append (Shows low high end) (with_places (texts_from at g) g.texts) (placed_texts next more)
      (texts_shown at g.texts all le (omega (arith, above)) within same)
      (all_shown next more after (omega (arith, end_is_behind at (map length g.texts))) fits (omega (arith, texts_keep at g.texts all)) is)

-- each of the program's texts stands in the data
pub placed_stand : (at : ℕ) (gs : List RoutineData) (all : List ℕ) → data_place ≤ at → all_texts_end at gs ≤ data_place + length all
    → (a : ℕ) (bytes : List ℕ) → Contains (placed_texts at gs) (a, bytes)
    → Shows at (all_texts_end at gs) (put_all_texts at gs all) (a, bytes)
placed_stand at gs all low high a bytes is =
    let end = put_all_texts at gs all in
    All-contains (Shows at (all_texts_end at gs) end) (placed_texts at gs) (a, bytes)
    (all_shown at (all_texts_end at gs) end low at gs all (omega arith) (omega arith) high refl) is
