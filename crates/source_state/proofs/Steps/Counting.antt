-- Counts are those of the trace.
use Rattle.std.proofs.Common.{◌≡◌, ◌≢◌, refl, sym, ap, ◌∙◌, ◌⊎◌, inl, inr, ℕ, zero, suc, ◌+◌, ◌^◌, ◌<◌, ◌==◌, true, false, ◌&&◌, List, [], ◌∷◌, slice_get}
use Rattle.std.proofs.Common.{slice_set, length, map, Option, Some, None, arith}
use Rattle.std.proofs.Math.ListN.{length-set}
use Rattle.std.proofs.lemmas.Bool.Decides.{eqb_tells}
use Rattle.block_memory.specs.RunWorlds.Events.{one_if}
use Rattle.source_state.specs.Steps.Counting.{Counting, KeepsShape, one_more, risen, raised, raised_in, with_begin, with_entry}

-- ---- one element of a list becomes another

get_same : {A : Type 0} (all : List A) (k : ℕ) (x y : A) → slice_get (slice_set all k x) k ≡ Some y → y ≡ x
get_same [] k x y e = cc
get_same (z ∷ all) zero x y e = cc
get_same (z ∷ all) (suc k) x y e = get_same all k x y e

get_other : {A : Type 0} (all : List A) (k j : ℕ) (x : A) → k ≢ j → slice_get (slice_set all k x) j ≡ slice_get all j
get_other [] k j x h = refl
get_other (z ∷ all) zero zero x h = absurd (h refl)
get_other (z ∷ all) zero (suc j) x h = refl
get_other (z ∷ all) (suc k) zero x h = refl
get_other (z ∷ all) (suc k) (suc j) x h = get_other all k j x (λ e. h (ap suc e))

-- ---- one of the counts rises

abbrev pub Counts : List ℕ → (ℕ → ℕ) → Type 0
Counts all count = (f n : ℕ) → slice_get all f ≡ Some n → n ≡ count f

one_fits : (n : ℕ) → n + 1 < 2 ^ 64 → one_more n ≡ n + 1
one_fits n h = omega arith

risen_counts : (all : List ℕ) (k : ℕ) (o : Option ℕ) (count : ℕ → ℕ) → slice_get all k ≡ o → Counts all count → count k + 1 < 2 ^ 64
    → Counts (risen all k o) (λ f. count f + one_if (k == f))
risen_counts all k None count e h few f n d = by_test (eqb_tells k f)
  where
    by_test : ((k == f) ≡ true) × (k ≡ f) ⊎ ((k == f) ≡ false) × (k ≢ f) → n ≡ count f + one_if (k == f)
    by_test (inl (t, same)) = let none : slice_get all f ≡ None = ap (slice_get all) (sym same) ∙ e in cc
    by_test (inr (t, other)) = let is = h f n d in rw t (omega (arith, is))
risen_counts all k (Some m) count e h few f n d = by_test (eqb_tells k f)
  where
    by_test : ((k == f) ≡ true) × (k ≡ f) ⊎ ((k == f) ≡ false) × (k ≢ f) → n ≡ count f + one_if (k == f)
    by_test (inl (t, same)) =
        let is : m ≡ count k = h k m e in
        let there : slice_get (slice_set all k (one_more m)) k ≡ Some n = ap (slice_get (slice_set all k (one_more m))) same ∙ d in
        let new : n ≡ one_more m = get_same all k (one_more m) n there in
        let more : one_more m ≡ m + 1 = one_fits m (omega (arith, is)) in
        let at : count k ≡ count f = ap count same in
        rw t (omega (arith, is, new, more, at))
    by_test (inr (t, other)) =
        let is = h f n (sym (get_other all k f (one_more m) other) ∙ d) in
        rw t (omega (arith, is))

pub raised_counts : (all : List ℕ) (k : ℕ) (count : ℕ → ℕ) → Counts all count → count k + 1 < 2 ^ 64 → Counts (raised all k) (λ f. count f + one_if (k == f))
raised_counts all k count h few = risen_counts all k (slice_get all k) count refl h few

-- ---- the same of counts in rows

abbrev pub AllCounts : List (List ℕ) → (ℕ → ℕ → ℕ) → Type 0
AllCounts all count = (f l n : ℕ) → (loops : List ℕ) → slice_get all f ≡ Some loops → slice_get loops l ≡ Some n → n ≡ count f l

raised_in_counts : (all : List (List ℕ)) (g k : ℕ) (o : Option (List ℕ)) (count : ℕ → ℕ → ℕ) → slice_get all g ≡ o → AllCounts all count → count g k + 1 < 2 ^ 64
    → AllCounts (raised_in all g k o) (λ f l. count f l + one_if (g == f && k == l))
raised_in_counts all g k None count e h few f l n loops d i = by_test (eqb_tells g f)
  where
    by_test : ((g == f) ≡ true) × (g ≡ f) ⊎ ((g == f) ≡ false) × (g ≢ f) → n ≡ count f l + one_if (g == f && k == l)
    by_test (inl (t, same)) = let none : slice_get all f ≡ None = ap (slice_get all) (sym same) ∙ e in cc
    by_test (inr (t, other)) = let is = h f l n loops d i in rw t (omega (arith, is))
raised_in_counts all g k (Some row) count e h few f l n loops d i = by_test (eqb_tells g f)
  where
    by_test : ((g == f) ≡ true) × (g ≡ f) ⊎ ((g == f) ≡ false) × (g ≢ f) → n ≡ count f l + one_if (g == f && k == l)
    by_test (inl (t, same)) =
        let there : slice_get (slice_set all g (raised row k)) g ≡ Some loops = ap (slice_get (slice_set all g (raised row k))) same ∙ d in
        let new : loops ≡ raised row k = get_same all g (raised row k) loops there in
        let found : slice_get (raised row k) l ≡ Some n = ap (λ x. slice_get x l) (sym new) ∙ i in
        let is = raised_counts row k (count g) (λ j m. h g j m row e) few l n found in
        let at : count g l ≡ count f l = ap (λ x. count x l) same in
        rw t (omega (arith, is, at))
    by_test (inr (t, other)) =
        let is = h f l n loops (sym (get_other all g f (raised row k) other) ∙ d) i in
        rw t (omega (arith, is))

pub all_raised_counts : (all : List (List ℕ)) (g k : ℕ) (count : ℕ → ℕ → ℕ) → AllCounts all count → count g k + 1 < 2 ^ 64
    → AllCounts (raised_in all g k (slice_get all g)) (λ f l. count f l + one_if (g == f && k == l))
all_raised_counts all g k count h few = raised_in_counts all g k (slice_get all g) count refl h few

-- ---- counts that rise stay as many

length_risen : (all : List ℕ) (k : ℕ) (o : Option ℕ) → length (risen all k o) ≡ length all
length_risen all k None = refl
length_risen all k (Some n) = simp length-set

length_raised : (all : List ℕ) (k : ℕ) → length (raised all k) ≡ length all
length_raised all k = length_risen all k (slice_get all k)

lengths_raised : (all : List (List ℕ)) (g l : ℕ) → map length (raised_in all g l (slice_get all g)) ≡ map length all
lengths_raised [] g l = refl
lengths_raised (row ∷ all) zero l = ap (λ n. n ∷ map length all) (length_raised row l)
lengths_raised (row ∷ all) (suc g) l = later (slice_get all g) (lengths_raised all g l)
  where
    later : (o : Option (List ℕ)) → map length (raised_in all g l o) ≡ map length all
        → map length (raised_in (row ∷ all) (suc g) l o) ≡ map length (row ∷ all)
    later None h = refl
    later (Some loops) h = ap (λ ns. length row ∷ ns) h

pub keeps_entry : (old c : Counting) (f : ℕ) → KeepsShape old c → KeepsShape old (with_entry c f)
keeps_entry old c f h = record { entries = length_raised c.entries f ∙ h.entries; begins = h.begins }

pub keeps_begin : (old c : Counting) (f l : ℕ) → KeepsShape old c → KeepsShape old (with_begin c f l)
keeps_begin old c f l h = record { entries = h.entries; begins = lengths_raised c.begins f l ∙ h.begins }
