-- Groups, weights and sums of small functions, by what c_facts says of them, over
--     struct S { int x; int y; int z; };
use Rattle.std.specs.Prelude.{◌≡◌, refl, ℕ, ◌+◌, true, false, List, [], ◌∷◌, ◌++◌, codes, Option, Some, None}
use Rattle.c_typed.specs.declared.run_counts.counts.Counts.{Counts}
use Rattle.c_facts.specs.declared.fact.Fact.{Fact}
use Rattle.c_facts.specs.declared.fact.Fact.TheVariants.{FunctionBegins, LoopBegins, LoopEnds, Site}
use Rattle.affinity.specs.declared.access.Access.{Access}
use Rattle.affinity.specs.Accesses.{access, accesses_in}
use Rattle.affinity.specs.GroupWeights.{weights}
use Rattle.affinity.specs.Sums.{affinity, hotness, is_read}

abbrev x : ℕ
x = 0

abbrev y : ℕ
y = 1

abbrev z : ℕ
z = 2

-- ---- accesses of a field, its value loaded or not; the record's number is 0

abbrev read : (field : ℕ) → Fact
read field = Site 0 field true

abbrev written : (field : ℕ) → Fact
written field = Site 0 field false

abbrev reads : (field group : ℕ) → Access
reads field group = access 0 field true group

abbrev writes : (field group : ℕ) → Access
writes field group = access 0 field false group

-- ---- sums over some functions, with a profile or without

abbrev hot : Option Counts → List Fact → (field : ℕ) → ℕ
hot counts facts field = hotness (weights counts facts) 0 field (accesses_in facts)

abbrev together : Option Counts → List Fact → (one other : ℕ) → ℕ
together counts facts one other = affinity (weights counts facts) 0 one other (accesses_in facts)

-- ---- a loop in a loop, and a function behind it:
--     void f(struct S *p) { while (p->x) { while (p->y) p->z = p->x; p->y = 0; } p->x = 0; }
--     int g(struct S *p) { return p->y; }

abbrev two_loops : List Fact
two_loops = FunctionBegins ∷ LoopBegins ∷ read x ∷ LoopBegins ∷ read y ∷ written z ∷ read x ∷ LoopEnds ∷ written y ∷ LoopEnds ∷ written x
    ∷ FunctionBegins ∷ read y ∷ []

-- behind a loop the group around it goes on, and what is read stays told from what is not
example_accesses : accesses_in two_loops
    ≡ reads x 1 ∷ reads y 2 ∷ writes z 2 ∷ reads x 2 ∷ writes y 1 ∷ writes x 0 ∷ reads y 3 ∷ []
example_accesses = refl

example_depths : weights None two_loops ≡ 1 ∷ 10 ∷ 100 ∷ 1 ∷ []
example_depths = refl

example_hotness : hot None two_loops x ≡ 10 + 100 + 1
example_hotness = refl

-- x and y are accessed together in both loops, x and z in the inner one alone
example_in_two_groups : together None two_loops x y ≡ 10 + 100
example_in_two_groups = refl

example_in_one_group : together None two_loops x z ≡ 100
example_in_one_group = refl

-- z is written only, and a field that is never accessed is not read
example_is_read : is_read 0 y (accesses_in two_loops) ≡ true
example_is_read = refl

example_is_not_read : is_read 0 z (accesses_in two_loops) ≡ false
example_is_not_read = refl

-- a field of that number in another record
example_other_record : hotness (weights None two_loops) 1 x (accesses_in two_loops) ≡ 0
example_other_record = refl

-- ---- what stands first in a `for` is no part of it:
--     while (p->x) for (p->y = 0; p->z; ) p->z = 0;

abbrev for_in_a_loop : List Fact
for_in_a_loop = FunctionBegins ∷ LoopBegins ∷ read x ∷ written y ∷ LoopBegins ∷ read z ∷ written z ∷ LoopEnds ∷ LoopEnds ∷ []

example_for : accesses_in for_in_a_loop ≡ reads x 1 ∷ writes y 1 ∷ reads z 2 ∷ writes z 2 ∷ []
example_for = refl

-- a field is hot by each of its accesses, but a group counts once for two fields
example_each_access : hot None for_in_a_loop z ≡ 100 + 100
example_each_access = refl

example_group_once : together None for_in_a_loop z z ≡ 100
example_group_once = refl

-- two fields that no group accesses both
example_apart : together None for_in_a_loop y z ≡ 0
example_apart = refl

-- ---- loops one after the other stand in one group, and beyond eight the weight grows no more

example_one_after_the_other : weights None (FunctionBegins ∷ LoopBegins ∷ LoopEnds ∷ LoopBegins ∷ LoopBegins ∷ LoopEnds ∷ LoopEnds ∷ [])
    ≡ 1 ∷ 10 ∷ 10 ∷ 100 ∷ []
example_one_after_the_other = refl

abbrev three_begin : List Fact
three_begin = LoopBegins ∷ LoopBegins ∷ LoopBegins ∷ []

example_ten_loops : weights None (FunctionBegins ∷ three_begin ++ three_begin ++ three_begin ++ LoopBegins ∷ LoopEnds ∷ LoopEnds ∷ LoopEnds ∷ LoopBegins ∷ [])
    ≡ 1 ∷ 10 ∷ 100 ∷ 1000 ∷ 10000 ∷ 100000 ∷ 1000000 ∷ 10000000 ∷ 100000000 ∷ 100000000 ∷ 100000000 ∷ 100000000 ∷ []
example_ten_loops = refl

-- ---- by a profile: f was entered twice, its loops began 7 and 30 times; g was entered 5 times

abbrev a_profile : Counts
a_profile = record {
  functions = record { name = codes "f"; entries = 2; loops = 7 ∷ 30 ∷ [] } ∷ record { name = codes "g"; entries = 5; loops = [] } ∷ [];
}

example_counts : weights (Some a_profile) two_loops ≡ 2 ∷ 7 ∷ 30 ∷ 5 ∷ []
example_counts = refl

example_hotness_by_profile : hot (Some a_profile) two_loops y ≡ 30 + 7 + 5
example_hotness_by_profile = refl

example_affinity_by_profile : together (Some a_profile) two_loops x y ≡ 7 + 30
example_affinity_by_profile = refl

-- of a profile of f alone, g is past the last count, and weighs nothing
abbrev a_short_profile : Counts
a_short_profile = record { functions = record { name = codes "f"; entries = 2; loops = 7 ∷ 30 ∷ [] } ∷ [] }

example_past_the_last : hot (Some a_short_profile) two_loops y ≡ 30 + 7
example_past_the_last = refl

abbrev g_reads_both : List Fact
g_reads_both = FunctionBegins ∷ LoopBegins ∷ LoopEnds ∷ LoopBegins ∷ LoopEnds ∷ FunctionBegins ∷ read x ∷ read y ∷ []

example_together_past_the_last : together (Some a_short_profile) g_reads_both x y ≡ 0
example_together_past_the_last = refl
