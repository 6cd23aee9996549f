-- Each access is one of a group that has a weight.
use Rattle.std.proofs.Common.{◌≡◌, ap, ℕ, suc, ◌+◌, ◌-◌, ◌<◌, List, [], ◌∷◌, ◌++◌, Some, None, length, refl, sym, subst, arith}
use Rattle.std.specs.Prelude.{Option}
use Rattle.std.specs.List.{All}
use Rattle.std.proofs.lemmas.List.Elements.{All-cons, All-head, All-nil, All-tail}
use Rattle.c_typed.specs.declared.run_counts.counts.Counts.{Counts}
use Rattle.c_typed.specs.declared.run_counts.order.Defined.{Defined}
use Rattle.c_typed.specs.Programs.{ProgramData}
use Rattle.c_typed.specs.RunCounts.Order.{profile_order}
use Rattle.c_facts.specs.declared.fact.Fact.{Fact}
use Rattle.c_facts.specs.declared.fact.Fact.TheVariants as F
use Rattle.c_facts.specs.Groups.{GroupsMeetCounts, groups_in}
use Rattle.c_facts.specs.Programs.{facts_at, facts_in, facts_of}
use Rattle.affinity.specs.declared.access.Access.{Access}
use Rattle.affinity.specs.Accesses.{access, accesses, accesses_in}
use Rattle.affinity.specs.GroupWeights.{guessed, weights}
use Rattle.affinity.specs.Weighing.{AccessesAreWeighed, FitsIfAny}

guesses_meet_groups : (depth : ℕ) (facts : List Fact) → length (guessed depth facts) ≡ groups_in facts
guesses_meet_groups depth [] = refl
guesses_meet_groups depth (F.FunctionBegins ∷ more) = ap suc (guesses_meet_groups 0 more)
guesses_meet_groups depth (F.LoopBegins ∷ more) = ap suc (guesses_meet_groups (depth + 1) more)
guesses_meet_groups depth (F.LoopEnds ∷ more) = guesses_meet_groups (depth - 1) more
guesses_meet_groups depth (F.Site of field is_read ∷ more) = guesses_meet_groups depth more
guesses_meet_groups depth (F.Value t ∷ more) = guesses_meet_groups depth more
guesses_meet_groups depth (F.Converted s t at ∷ more) = guesses_meet_groups depth more
guesses_meet_groups depth (F.Taken r at ∷ more) = guesses_meet_groups depth more
guesses_meet_groups depth (F.Passed which t at ∷ more) = guesses_meet_groups depth more
guesses_meet_groups depth (F.Function t at ∷ more) = guesses_meet_groups depth more
guesses_meet_groups depth (F.Copied t at ∷ more) = guesses_meet_groups depth more

-- ---- numbers of groups are below that of the next one

abbrev AreBelow : (next : ℕ) → List ℕ → Type 0
AreBelow next groups = All (λ group. group < next) groups

abbrev LieBelow : (next : ℕ) → List Access → Type 0
LieBelow next all = All (λ a. a.group < next) all

one_more : (next : ℕ) (groups : List ℕ) → AreBelow next groups → AreBelow (next + 1) groups
one_more next [] h = All-nil (λ group. group < next + 1)
one_more next (group ∷ more) h =
    let first = All-head (λ g. g < next) group more h in
    All-cons (λ g. g < next + 1) group more (omega (arith, first)) (one_more next more (All-tail (λ g. g < next) group more h))

lie_below : (outer : List ℕ) (inner next : ℕ) (facts : List Fact) → inner < next → AreBelow next outer
    → LieBelow (next + groups_in facts) (accesses outer inner next facts)
lie_below outer inner next [] h k = All-nil (λ a. a.group < next + 0)
lie_below outer inner next (F.FunctionBegins ∷ more) h k =
    let rest = lie_below [] next (next + 1) more (omega arith) (All-nil (λ group. group < next + 1)) in
    subst (λ n. LieBelow n (accesses [] next (next + 1) more)) (omega arith) rest
lie_below outer inner next (F.LoopBegins ∷ more) h k =
    let around = All-cons (λ group. group < next + 1) inner outer (omega (arith, h)) (one_more next outer k) in
    let rest = lie_below (inner ∷ outer) next (next + 1) more (omega arith) around in
    subst (λ n. LieBelow n (accesses (inner ∷ outer) next (next + 1) more)) (omega arith) rest
lie_below [] inner next (F.LoopEnds ∷ more) h k = lie_below [] inner next more h k
lie_below (group ∷ outer) inner next (F.LoopEnds ∷ more) h k =
    lie_below outer group next more (All-head (λ g. g < next) group outer k) (All-tail (λ g. g < next) group outer k)
lie_below outer inner next (F.Site of field is_read ∷ more) h k =
    All-cons (λ a. a.group < next + groups_in more) (access of field is_read inner) (accesses outer inner next more) (omega (arith, h))
    (lie_below outer inner next more h k)
lie_below outer inner next (F.Value t ∷ more) h k = lie_below outer inner next more h k
lie_below outer inner next (F.Converted s t at ∷ more) h k = lie_below outer inner next more h k
lie_below outer inner next (F.Taken r at ∷ more) h k = lie_below outer inner next more h k
lie_below outer inner next (F.Passed which t at ∷ more) h k = lie_below outer inner next more h k
lie_below outer inner next (F.Function t at ∷ more) h k = lie_below outer inner next more h k
lie_below outer inner next (F.Copied t at ∷ more) h k = lie_below outer inner next more h k

-- no access stands before the first function
all_lie_below : (p : ProgramData) (order : List Defined) → LieBelow (groups_in (facts_in p order)) (accesses_in (facts_in p order))
all_lie_below p [] = All-nil (λ a. a.group < 0)
all_lie_below p (d ∷ more) =
    let facts = facts_at p d.number ++ facts_in p more in
    let rest = lie_below [] 0 1 facts (omega arith) (All-nil (λ group. group < 1)) in
    subst (λ n. LieBelow n (accesses [] 0 1 facts)) (omega arith) rest

-- ---- and there are as many weights

weights_meet_groups : GroupsMeetCounts → (counts : Option Counts) (p : ProgramData) → FitsIfAny counts p
    → groups_in (facts_of p) ≡ length (weights counts (facts_of p))
weights_meet_groups meet None p fits = sym (guesses_meet_groups 0 (facts_of p))
weights_meet_groups meet (Some c) p fits = meet c p fits.0 fits.1

pub accesses_are_weighed : GroupsMeetCounts → AccessesAreWeighed
accesses_are_weighed meet counts p fits = subst (λ n. LieBelow n (accesses_in (facts_of p))) (weights_meet_groups meet counts p fits)
    (all_lie_below p (profile_order p))
