-- Counts that tell of a run are the counts of that run.
use Rattle.std.proofs.Common.{◌≡◌, refl, ap, sym, ◌∙◌, ℕ, zero, suc, ◌+◌, ◌<◌, Bool, true, false, List, [], ◌∷◌, ◌++◌, length, map, slice_get, unwrap_or, Some}
use Rattle.std.proofs.Common.{arith}
use Rattle.std.specs.Prelude.{is_some, if◌then◌else◌}
use Rattle.std.specs.List.{AllByRecursion}
use Rattle.std.proofs.lemmas.List.{map-append}
use Rattle.c_typed.specs.declared.run_counts.counts.FunCount.{FunCount}
use Rattle.c_typed.specs.declared.run_counts.order.Defined.{Defined}
use Rattle.c_typed.specs.RunCounts.Counting.{count_at, counts_by, numbers_below}
use Rattle.c_typed.specs.RunCounts.Loops.{loops_at, loops_of, loops_of_any}
use Rattle.c_typed.specs.RunCounts.Order.{defined_from, defined_in, profile_order}
use Rattle.c_typed.proofs.RunCounts.Orders.{all_in_order, all_mapped}
use Rattle.c_typed.specs.Programs.{FunctionData, ProgramData}
use Rattle.block_memory.specs.RunWorlds.Events.{Event, entries_of, begins_of}
use Rattle.source_start.specs.Counted.{begin_in, entry_in}
use Rattle.source_start.specs.Shape.{HasAll}
use Rattle.source_state.specs.Steps.Cores.{Core}
use Rattle.source_state.specs.Steps.Counting.{Counting}
use Rattle.source_state.specs.Steps.Agreeing.{Agrees}

-- ---- one count

there : (all : List ℕ) (k count : ℕ) → k < length all → ((n : ℕ) → slice_get all k ≡ Some n → n ≡ count) → unwrap_or (slice_get all k) 0 ≡ count
there [] k count h tells = absurd (omega arith)
there (x ∷ all) zero count h tells = tells x refl
there (x ∷ all) (suc k) count h tells = there all k count (omega arith) tells

row_there : (rows : List (List ℕ)) (fs : List FunctionData) (f l count : ℕ) → map length rows ≡ map loops_of fs → l < loops_of_any (slice_get fs f)
    → ((n : ℕ) (loops : List ℕ) → slice_get rows f ≡ Some loops → slice_get loops l ≡ Some n → n ≡ count)
    → unwrap_or (slice_get (unwrap_or (slice_get rows f) []) l) 0 ≡ count
row_there [] [] f l count e h tells = absurd (omega arith)
row_there [] (g ∷ fs) f l count e h tells = cc
row_there (row ∷ rows) [] f l count e h tells = cc
row_there (row ∷ rows) (g ∷ fs) zero l count e h tells =
    let long : length row ≡ loops_of g = cc in
    there row l count (omega arith) (λ n i. tells n row refl i)
row_there (row ∷ rows) (g ∷ fs) (suc f) l count e h tells = row_there rows fs f l count (cc) h tells

-- ---- the counts of a function

same_below : (g h : ℕ → ℕ) (n : ℕ) → ((l : ℕ) → l < n → g l ≡ h l) → map g (numbers_below n) ≡ map h (numbers_below n)
same_below g h zero same = refl
same_below g h (suc n) same =
    let before : map g (numbers_below n) ≡ map h (numbers_below n) = same_below g h n (λ l le. same l (omega arith)) in
    let here : g n ≡ h n = same n (omega arith) in
    map-append g (numbers_below n) (n ∷ []) ∙ ap (λ xs. xs ++ g n ∷ []) before ∙ ap (λ x. map h (numbers_below n) ++ x ∷ []) here
    ∙ sym (map-append h (numbers_below n) (n ∷ []))

abbrev count_with : (name : List ℕ) → (entries : ℕ) → (loops : List ℕ) → FunCount
count_with name entries loops = record { name = name; entries = entries; loops = loops }

same_count : (name : List ℕ) (a b : ℕ) (xs ys : List ℕ) → a ≡ b → xs ≡ ys → count_with name a xs ≡ count_with name b ys
same_count name a b xs ys e f = ap (λ n. count_with name n xs) e ∙ ap (count_with name b) f

-- ---- the functions in their order

same_all : (g h : Defined → FunCount) (xs : List Defined) → AllByRecursion (λ x. g x ≡ h x) xs → map g xs ≡ map h xs
same_all g h [] all = refl
same_all g h (x ∷ xs) all = let here : g x ≡ h x = all.0 in let more : map g xs ≡ map h xs = same_all g h xs all.1 in cc

within_from : (k n : ℕ) (fs : List FunctionData) → k + length fs ≡ n → AllByRecursion (λ x. x.number < n) (defined_from k fs)
within_from k n [] e = tt
within_from k n (f ∷ fs) e = by_body (is_some f.body) (within_from (k + 1) n fs (omega arith))
  where
    by_body : (b : Bool) → AllByRecursion (λ x. x.number < n) (defined_from (k + 1) fs)
        → AllByRecursion (λ x. x.number < n) (if b then record { number = k; place = f.place } ∷ defined_from (k + 1) fs else defined_from (k + 1) fs)
    by_body true later = (omega arith, later)
    by_body false later = later

within_order : (p : ProgramData) → AllByRecursion (λ x. x.number < length p.functions) (profile_order p)
within_order p = all_in_order (λ x. x.number < length p.functions) (defined_in p) (within_from 0 (length p.functions) p.functions (omega arith))

pub counts_are : (p : ProgramData) (c : Counting) (entries : ℕ → ℕ) (begins : ℕ → ℕ → ℕ) → HasAll p c
    → ((f n : ℕ) → slice_get c.entries f ≡ Some n → n ≡ entries f)
    → ((f l n : ℕ) → (loops : List ℕ) → slice_get c.begins f ≡ Some loops → slice_get loops l ≡ Some n → n ≡ begins f l)
    → counts_by (entry_in c) (begin_in c) p ≡ counts_by entries begins p
counts_are p c entries begins all tells_entries tells_begins =
    ap (λ functions. record { functions = functions })
    (same_all (λ f. count_at (entry_in c) (begin_in c) p f.number) (λ f. count_at entries begins p f.number) (profile_order p)
    (all_mapped (λ x. x.number < length p.functions) (λ x. count_at (entry_in c) (begin_in c) p x.number ≡ count_at entries begins p x.number)
    (λ x h. one x.number h) (profile_order p) (within_order p)))
  where
    loops : (f l : ℕ) → l < loops_at p f → begin_in c f l ≡ begins f l
    loops f l h = row_there c.begins p.functions f l (begins f l) all.begins h (λ n loops e i. tells_begins f l n loops e i)

    one : (f : ℕ) → f < length p.functions → count_at (entry_in c) (begin_in c) p f ≡ count_at entries begins p f
    one f h = same_count _ _ _ _ _
        (there c.entries f (entries f) (omega (arith, all.entries)) (λ n e. tells_entries f n e))
        (same_below (begin_in c f) (begins f) (loops_at p f) (loops f))

-- of a run
pub counts_of_run : (p : ProgramData) (start c : Core) (trace : List Event) → HasAll p start.counts → Agrees start c trace
    → counts_by (entry_in c.counts) (begin_in c.counts) p ≡ counts_by (λ f. entries_of f trace) (λ f l. begins_of f l trace) p
counts_of_run p start c trace all agrees = counts_are p c.counts (λ f. entries_of f trace) (λ f l. begins_of f l trace)
    (record { entries = agrees.shape.entries ∙ all.entries; begins = agrees.shape.begins ∙ all.begins }) agrees.entries agrees.begins
