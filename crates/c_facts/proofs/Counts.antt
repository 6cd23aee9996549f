-- Where a profile fits a program, each function begins as many loops as are counted, and there are as many groups as counts.
use Rattle.std.proofs.Common.{◌≡◌, ◌∙◌, ℕ, zero, suc, ◌+◌, Bool, true, false, List, [], ◌∷◌, length, Option, Some, None, refl, sym, ap, arith}
use Rattle.std.specs.Prelude.{◌==◌, flat_map, if◌then◌else◌, map, slice_get}
use Rattle.std.specs.List.{All}
use Rattle.std.specs.Option.{option_or}
use Rattle.std.proofs.lemmas.Bool.Decides.{nat_tests}
use Rattle.std.proofs.lemmas.List.{length-append, length-map}
use Rattle.std.proofs.lemmas.List.Elements.{All-head, All-tail}
use Rattle.std.proofs.lemmas.List.Sorted.{length_permutation}
use Rattle.lay_base.specs.declared.faults.Stale.{Stale}
use Rattle.c_typed.proofs.RunCounts.Orders.{is_profile_order}
use Rattle.c_typed.specs.declared.run_counts.counts.Counts.{Counts}
use Rattle.c_typed.specs.declared.run_counts.counts.FunCount.{FunCount}
use Rattle.c_typed.specs.declared.run_counts.order.Defined.{Defined}
use Rattle.c_typed.specs.Programs.{FunctionData, ProgramData}
use Rattle.c_typed.specs.RunCounts.Loops.{loops_at, loops_of_any}
use Rattle.c_typed.specs.RunCounts.Order.{defined_in, profile_order}
use Rattle.c_typed.specs.RunCounts.Stale.{Fits, functions_differ, loops_among, loops_differ, loops_in_each}
use Rattle.c_facts.specs.Groups.{BodyStartsPlainly, LoopsStartPlainly, LoopsMeetCounts, GroupsMeetCounts, groups_in}
use Rattle.c_facts.specs.Programs.{facts_at, facts_in, facts_of_any}
use Rattle.c_facts.proofs.Groups.{by_body, groups_append}

-- ---- what a fitting profile says of loops

some_is_none : {A : Type 0} (x : A) → Some x ≡ None → ⊥
some_is_none x h = cc

neither : (a b : Option Stale) → option_or a b ≡ None → (a ≡ None) × (b ≡ None)
neither None b h = (refl, h)
neither (Some x) b h = absurd (some_is_none x h)

equal_if : (n m : ℕ) (c : Bool) → (n == m) ≡ c → (found : Option Stale) (x : Stale) → (if c then found else Some x) ≡ None → (n ≡ m) × (found ≡ None)
equal_if n m true e found x h = (grind (arith, nat_tests), h)
equal_if n m false e found x h = absurd (some_is_none x h)

same_number : (n m : ℕ) → functions_differ n m ≡ None → n ≡ m
same_number n m h = (equal_if n m (n == m) refl None _ h).0

same_loops : (k : ℕ) (ns ms : List ℕ) → length ns ≡ length ms → loops_differ k ns ms ≡ None → ns ≡ ms
same_loops k [] [] e h = refl
same_loops k [] (m ∷ ms) e h = absurd (omega (arith, e))
same_loops k (n ∷ ns) [] e h = absurd (omega (arith, e))
same_loops k (n ∷ ns) (m ∷ ms) e h =
    let both = equal_if n m (n == m) refl (loops_differ (k + 1) ns ms) _ h in
    let rest = same_loops (k + 1) ns ms (omega (arith, e)) both.1 in
    ap (λ x. x ∷ ns) both.0 ∙ ap (λ xs. m ∷ xs) rest

loops_fit : (c : Counts) (p : ProgramData) → Fits c p → loops_among p (profile_order p) ≡ loops_in_each c
loops_fit c p h =
    let first = neither _ _ h in
    let rest = neither _ _ first.1 in
    let number = same_number (length (defined_in p)) (length c.functions) first.0 in
    let order = length_permutation (defined_in p) (profile_order p) (is_profile_order p).permutation in
    let left = length-map (profile_order p) (λ f. loops_at p f.number) in
    let right = length-map c.functions (λ f. length f.loops) in
    same_loops 0 (loops_among p (profile_order p)) (loops_in_each c) (left ∙ order ∙ number ∙ sym right) rest.1

-- ---- what facts say of loops

begun_at : (fs : List FunctionData) → All (λ f. BodyStartsPlainly f.body) fs → (n : ℕ) → groups_in (facts_of_any (slice_get fs n)) ≡ loops_of_any (slice_get fs n)
begun_at [] h n = refl
begun_at (f ∷ fs) h zero = by_body f.body (All-head (λ f. BodyStartsPlainly f.body) f fs h)
begun_at (f ∷ fs) h (suc n) = begun_at fs (All-tail (λ f. BodyStartsPlainly f.body) f fs h) n

begun_among : (p : ProgramData) → LoopsStartPlainly p → (order : List Defined) → map (λ f. groups_in (facts_at p f.number)) order ≡ loops_among p order
begun_among p h [] = refl
begun_among p h (d ∷ more) =
    ap (λ n. n ∷ map (λ f. groups_in (facts_at p f.number)) more) (begun_at p.functions h d.number)
    ∙ ap (λ xs. loops_at p d.number ∷ xs) (begun_among p h more)

pub loops_meet_counts : LoopsMeetCounts
loops_meet_counts c p h fits = begun_among p h (profile_order p) ∙ loops_fit c p fits

-- ---- all groups

-- one, and so many more, of each
abbrev groups_of : List ℕ → ℕ
groups_of [] = 0
groups_of (n ∷ more) = suc (n + groups_of more)

of_facts : (p : ProgramData) (order : List Defined) → groups_in (facts_in p order) ≡ groups_of (map (λ f. groups_in (facts_at p f.number)) order)
of_facts p [] = refl
of_facts p (d ∷ more) =
    ap suc (groups_append (facts_at p d.number) (facts_in p more) ∙ ap (λ n. groups_in (facts_at p d.number) + n) (of_facts p more))

of_counts : (fs : List FunCount) → length (flat_map (λ f. f.entries ∷ f.loops) fs) ≡ groups_of (map (λ f. length f.loops) fs)
of_counts [] = refl
of_counts (f ∷ more) =
    ap suc (length-append f.loops (flat_map (λ g. g.entries ∷ g.loops) more) ∙ ap (λ n. length f.loops + n) (of_counts more))

pub groups_meet_counts : GroupsMeetCounts
groups_meet_counts c p h fits = of_facts p (profile_order p) ∙ ap groups_of (loops_meet_counts c p h fits) ∙ sym (of_counts c.functions)
