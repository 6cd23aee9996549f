-- The rows and the bytes of segments that stand one after the other: they are sound, and stand for
-- these segments and their bytes.
use Rattle.std.proofs.Common.{◌≡◌, ℕ, ◌+◌, ◌-◌, ◌<◌, ◌≤◌, Bool, true, false, cond, List, [], ◌∷◌, ◌++◌, length, map, replicate, Option, Some, refl}
use Rattle.std.proofs.Common.{sym, ap, ◌∙◌, arith, inl, inr, append_assoc}
use Rattle.std.specs.Prelude.{All, slice_index}
use Rattle.std.proofs.Math.Path.{fun_ext}
use Rattle.std.proofs.Math.ListN.{get_or-append, length-append}
use Rattle.std.proofs.lemmas.Bool.{false_from_ne_true, cases_lt}
use Rattle.std.proofs.lemmas.List.{get_or-append-add, get_or-append_right, get_or-replicate, get_or_past, length-replicate}
use Rattle.std.proofs.lemmas.List.Concat.{flat_map-cons}
use Rattle.std.proofs.lemmas.List.Elements.{All-nil, All-cons, All-head, All-tail, All-replicate}
use Rattle.std.proofs.lemmas.List.Sums.{sum_by-cons}
use Rattle.rv_isa.specs.declared.image.Segment.{Segment}
use Rattle.rv_isa.specs.Memory.{initial_memory}
use Rattle.rv_isa.specs.Placed.{Fits, AreApart, AllPlaced}
use Rattle.rv_machine.specs.declared.rows.Row.{Row}
use Rattle.rv_machine.specs.Making.{size_of, whole, bytes_of, rows_from}
use Rattle.rv_machine.specs.Rows.{segments_of, holds, row_at, place_in, byte_in, memory_of, Begins, Serves, AreSound}
use Rattle.rv_machine.specs.View.{bare}
use Rattle.rv_machine.proofs.Places.{held_between}

abbrev row_of : ℕ → Segment → Row
row_of start s = record { at = s.at; size = s.size; start = start; flags = s.flags }

pub fits_each : (segments : List Segment) → AllPlaced segments → All Fits segments
fits_each [] p = All-nil Fits
fits_each (s ∷ segments) p = All-cons Fits s segments p.0 (fits_each segments p.2)

-- ---- how many bytes there are

whole_length : (s : Segment) → Fits s → length (whole s) ≡ s.size
whole_length s fits =
    let zeros : ℕ = s.size - length s.bytes in length-append s.bytes (replicate zeros 0) ∙ omega (arith, length-replicate {A = ℕ} zeros 0, fits.bytes)

size_cons : (s : Segment) (segments : List Segment) → size_of (s ∷ segments) ≡ s.size + size_of segments
size_cons s segments = sum_by-cons (λ (t : Segment). t.size) s segments

bytes_cons : (s : Segment) (segments : List Segment) → bytes_of (s ∷ segments) ≡ whole s ++ bytes_of segments
bytes_cons s segments = flat_map-cons whole s segments

pub bytes_length : (segments : List Segment) → AllPlaced segments → length (bytes_of segments) ≡ size_of segments
bytes_length [] p = refl
bytes_length (s ∷ segments) p =
    ap length (bytes_cons s segments)
    ∙ length-append (whole s) (bytes_of segments)
    ∙ omega (arith, whole_length s p.0, bytes_length segments p.2, size_cons s segments)

-- ---- each row serves

-- a row after a row that is apart from it
after : (front row : Row) (rows : List Row) (size : ℕ) → ((a : ℕ) → holds front a ≡ true → holds row a ≡ true → ⊥) → Serves rows size row
    → Serves (front ∷ rows) size row
after front row rows size apart serves = record {
  end = serves.end;
  place = serves.place;
  found = λ a h. let e : holds front a ≡ false = false_from_ne_true _ (λ t. apart a t h) in rw e (serves.found a h);
}

all_after : (front : Segment) (first start size : ℕ) (rows : List Row) (segments : List Segment) → All (AreApart front) segments
    → All (Serves rows size) (rows_from start segments)
    → All (Serves (row_of first front ∷ rows) size) (rows_from start segments)
all_after front first start size rows [] apart all = All-nil (Serves (row_of first front ∷ rows) size)
all_after front first start size rows (s ∷ segments) apart all =
    All-cons (Serves (row_of first front ∷ rows) size) _ _
    (after (row_of first front) (row_of start s) rows size (All-head (AreApart front) s segments apart) (All-head (Serves rows size) (row_of start s) _ all))
    (all_after front first (start + s.size) size rows segments (All-tail (AreApart front) s segments apart)
    (All-tail (Serves rows size) (row_of start s) _ all))

each_serves : (start size : ℕ) (segments : List Segment) → AllPlaced segments → start + size_of segments ≤ size
    → All (Serves (rows_from start segments) size) (rows_from start segments)
each_serves start size [] p le = All-nil (Serves [] size)
each_serves start size (s ∷ segments) p le =
    All-cons (Serves (rows_from start (s ∷ segments)) size) (row_of start s) (rows_from (start + s.size) segments)
    (record { end = p.0.end; place = omega (arith, size_cons s segments); found = λ a h. rw h refl })
    (all_after s start (start + s.size) size (rows_from (start + s.size) segments) segments p.1
    (each_serves (start + s.size) size segments p.2 (omega (arith, size_cons s segments))))

-- a row without address
pub begins_nothing : (rows : List Row) (size flag : ℕ) → Begins rows size flag (record { at = 0; size = 0; start = 0; flags = 0 })
begins_nothing rows size flag = record {
  end = omega arith;
  place = omega arith;
  serves = λ some. absurd (omega arith);
  allowed = λ some. absurd (omega arith);
}

pub all_begin_nothing : (rows : List Row) (size flag : ℕ) → All (Begins rows size flag) (replicate 32 (record { at = 0; size = 0; start = 0; flags = 0 }))
all_begin_nothing rows size flag = All-replicate (Begins rows size flag) 32 (record { at = 0; size = 0; start = 0; flags = 0 }) (begins_nothing rows size flag)

-- ---- no two addresses have one place

same_row : (r s : Row) → ◌≡◌ {A = Option Row} (Some r) (Some s) → r ≡ s
same_row r s e = cc

starts_after : (start b : ℕ) (segments : List Segment) (r : Row) → row_at (rows_from start segments) b ≡ Some r → start ≤ r.start
starts_after start b [] r e = absurd cc
starts_after start b (s ∷ segments) r e = go (starts_after (start + s.size) b segments r) (holds (row_of start s) b) e
  where
    go : (row_at (rows_from (start + s.size) segments) b ≡ Some r → start + s.size ≤ r.start) → (h : Bool)
        → cond h (Some (row_of start s)) (row_at (rows_from (start + s.size) segments) b) ≡ Some r → start ≤ r.start
    go further true f = let same = ap (λ (q : Row). q.start) (same_row (row_of start s) r f) in omega (arith, same)
    go further false f = omega (arith, further f)

places_apart : (start a b : ℕ) (segments : List Segment) (q r : Row) → row_at (rows_from start segments) a ≡ Some q
    → row_at (rows_from start segments) b ≡ Some r → place_in q a ≡ place_in r b → a ≡ b
places_apart start a b [] q r e f same = absurd cc
places_apart start a b (s ∷ segments) q r e f same =
    go (places_apart (start + s.size) a b segments q r) (holds (row_of start s) a) (holds (row_of start s) b) refl refl e f
  where
    rest : List Row
    rest = rows_from (start + s.size) segments

    go : (row_at rest a ≡ Some q → row_at rest b ≡ Some r → place_in q a ≡ place_in r b → a ≡ b) → (h i : Bool) → holds (row_of start s) a ≡ h
        → holds (row_of start s) b ≡ i
        → cond h (Some (row_of start s)) (row_at rest a) ≡ Some q → cond i (Some (row_of start s)) (row_at rest b) ≡ Some r → a ≡ b
    go further true true ha hb ea eb =
        let first = held_between (row_of start s) a ha in
        let second = held_between (row_of start s) b hb in
        let one : place_in q a ≡ place_in (row_of start s) a = ap (λ (row : Row). place_in row a) (same_row q (row_of start s) (sym ea)) in
        let two : place_in r b ≡ place_in (row_of start s) b = ap (λ (row : Row). place_in row b) (same_row r (row_of start s) (sym eb)) in
        omega (arith, first.0, second.0)
    go further true false ha hb ea eb =
        let first = held_between (row_of start s) a ha in
        let one : place_in q a ≡ place_in (row_of start s) a = ap (λ (row : Row). place_in row a) (same_row q (row_of start s) (sym ea)) in
        let two : start + s.size ≤ r.start = starts_after (start + s.size) b segments r eb in
        omega (arith, first.0, first.1)
    go further false true ha hb ea eb =
        let second = held_between (row_of start s) b hb in
        let one : place_in r b ≡ place_in (row_of start s) b = ap (λ (row : Row). place_in row b) (same_row r (row_of start s) (sym eb)) in
        let two : start + s.size ≤ q.start = starts_after (start + s.size) a segments q ea in
        omega (arith, second.0, second.1)
    go further false false ha hb ea eb = further ea eb same

pub rows_are_sound : (segments : List Segment) (size : ℕ) → AllPlaced segments → size ≡ size_of segments → AreSound (rows_from 0 segments) size
rows_are_sound segments size p e = record {
  serve = each_serves 0 size segments p (omega arith);
  apart = λ a b q r. places_apart 0 a b segments q r;
}

-- ---- what they stand for

pub segments_are : (start : ℕ) (segments : List Segment) → segments_of (rows_from start segments) ≡ map bare segments
segments_are start [] = refl
segments_are start (s ∷ segments) = ap (λ (others : List Segment). bare s ∷ others) (segments_are (start + s.size) segments)

zero_at : (n k : ℕ) → slice_index (replicate n 0) k ≡ 0
zero_at n k = elim (cases_lt k n) [
  | inl lt ↦ get_or-replicate n k 0 0 lt
  | inr le ↦ get_or_past (replicate n 0) k 0 (omega (arith, length-replicate {A = ℕ} n 0))
]

-- the zeros do not show
whole_at : (s : Segment) (k : ℕ) → slice_index (whole s) k ≡ slice_index s.bytes k
whole_at s k = elim (cases_lt k (length s.bytes)) [
  | inl lt ↦ get_or-append s.bytes (replicate (s.size - length s.bytes) 0) 0 k lt
  | inr le ↦ get_or-append_right s.bytes (replicate (s.size - length s.bytes) 0) (length s.bytes) k 0 refl le
      ∙ zero_at (s.size - length s.bytes) (k - length s.bytes) ∙ sym (get_or_past s.bytes k 0 le)
]

content_at : (before : List ℕ) (start a : ℕ) (segments : List Segment) → AllPlaced segments → length before ≡ start
    → memory_of (rows_from start segments) (before ++ bytes_of segments) a ≡ initial_memory segments a
content_at before start a [] p e = refl
content_at before start a (s ∷ segments) p e =
    go (content_at (before ++ whole s) (start + s.size) a segments p.2 (length-append before (whole s) ∙ omega (arith, whole_length s p.0)))
    (holds (row_of start s) a) refl
  where
    bytes : List ℕ
    bytes = before ++ (whole s ++ bytes_of segments)

    rest : List Row
    rest = rows_from (start + s.size) segments

    here : holds (row_of start s) a ≡ true → slice_index bytes (start + (a - s.at)) ≡ slice_index s.bytes (a - s.at)
    here h =
        let ends = held_between (row_of start s) a h in
        let within : a - s.at < length (whole s) = omega (arith, ends.0, ends.1, whole_length s p.0) in
        ap (λ n. slice_index bytes (n + (a - s.at))) (sym e)
        ∙ get_or-append-add before (whole s ++ bytes_of segments) (a - s.at) 0
        ∙ get_or-append (whole s) (bytes_of segments) 0 (a - s.at) within
        ∙ whole_at s (a - s.at)

    go : memory_of rest (before ++ whole s ++ bytes_of segments) a ≡ initial_memory segments a → (h : Bool) → holds (row_of start s) a ≡ h
        → byte_in bytes (cond h (Some (row_of start s)) (row_at rest a)) a ≡ cond h (slice_index s.bytes (a - s.at)) (initial_memory segments a)
    go further true h = here h
    go further false h = ap (λ bs. memory_of rest bs a) (sym (append_assoc before (whole s) (bytes_of segments))) ∙ further

pub content_is : (segments : List Segment) → AllPlaced segments → memory_of (rows_from 0 segments) (bytes_of segments) ≡ initial_memory segments
content_is segments p = fun_ext (λ a. content_at [] 0 a segments p refl)
