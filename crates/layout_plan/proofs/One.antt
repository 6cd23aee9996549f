-- A program has one plan by a profile, and one without.
use Rattle.std.proofs.Common.{◌≡◌, ℕ, Bool, false, List, [], ◌∷◌, get_or, refl, sym, ap, ◌∙◌, arith}
use Rattle.std.specs.Prelude.{Option, Some, None, slice_get, unwrap_or}
use Rattle.std.proofs.lemmas.Bool.Decides.{nat_tests}
use Rattle.std.proofs.lemmas.List.{ext_get_or}
use Rattle.std.proofs.lemmas.Option.{slice_get-get_or}
use Rattle.c_typed.specs.declared.run_counts.counts.Counts.{Counts}
use Rattle.c_typed.specs.Programs.{ProgramData}
use Rattle.c_facts.specs.Programs.{facts_of}
use Rattle.legality.specs.declared.violation.Test.{Test}
use Rattle.legality.specs.declared.violation.Test.TheVariants.{Cstt, Cstf, Atkn, Libc, Ind, Mset, Nest, Size, Objt, Copy}
use Rattle.legality.specs.declared.violation.Violation.{Violation}
use Rattle.legality.specs.Breaches.{Breach}
use Rattle.legality.specs.Firsts.{row, stands_before}
use Rattle.legality.specs.Verdicts.{AreVerdicts, Judges}
use Rattle.affinity.specs.declared.access.Access.{Access}
use Rattle.affinity.specs.declared.weights.Weights.{Weights}
use Rattle.affinity.specs.Weighing.{Weighs}
use Rattle.layout_plan.specs.declared.plans.Planned.{Planned}
use Rattle.layout_plan.specs.declared.plans.RecordPlan.{RecordPlan}
use Rattle.layout_plan.specs.Planning.{PlansAreOne}

-- ---- the first violation

abbrev test_at : ℕ → Test
test_at n = unwrap_or (slice_get (Cstt ∷ Cstf ∷ Atkn ∷ Libc ∷ Ind ∷ Mset ∷ Nest ∷ Size ∷ Objt ∷ Copy ∷ []) n) Copy

by_row : (t : Test) → test_at (row t) ≡ t
by_row Cstt = refl
by_row Cstf = refl
by_row Atkn = refl
by_row Libc = refl
by_row Ind = refl
by_row Mset = refl
by_row Nest = refl
by_row Size = refl
by_row Objt = refl
by_row Copy = refl

same_violation : (x y : Violation) → stands_before x y ≡ false → stands_before y x ≡ false → x ≡ y
same_violation x y e f =
    let file : x.place.file ≡ y.place.file = grind (arith, nat_tests) in
    let at_byte : x.place.at ≡ y.place.at = grind (arith, nat_tests) in
    let number : row x.test ≡ row y.test = grind (arith, nat_tests) in
    made file at_byte (sym (by_row x.test) ∙ ap test_at number ∙ by_row y.test)
  where
    built : Test → ℕ → ℕ → Violation
    built t f a = record { test = t; place = record { file = f; at = a } }

    made : x.place.file ≡ y.place.file → x.place.at ≡ y.place.at → x.test ≡ y.test
        → built x.test x.place.file x.place.at ≡ built y.test y.place.file y.place.at
    made f a t = rw (t, f, a) refl

same_judgement : (all : List Breach) (number : ℕ) (a b : Option Violation) → Judges all number a → Judges all number b → a ≡ b
same_judgement all number None None j k = refl
same_judgement all number None (Some v) j k = absurd (j v k.is)
same_judgement all number (Some v) None j k = absurd (k v j.is)
same_judgement all number (Some v) (Some w) j k = ap Some (same_violation v w (k.first v j.is) (j.first w k.is))

same_verdicts : (all : List Breach) (count : ℕ) (a b : List (Option Violation)) → AreVerdicts all count a → AreVerdicts all count b → a ≡ b
same_verdicts all count a b j k =
    ext_get_or None a b (j.counted ∙ sym k.counted) (λ i within.
    same_judgement all i (get_or a i None) (get_or b i None) (j.judged i _ (slice_get-get_or a i None within))
    (k.judged i _ (slice_get-get_or b i None (rw (k.counted ∙ sym j.counted) within))))

-- ---- the weights

same_weights : (counts : Option Counts) (p : ProgramData) (a b : Weights) → Weighs counts (facts_of p) a → Weighs counts (facts_of p) b → a ≡ b
same_weights counts p a b j k = made (j.0 ∙ sym k.0) (j.1 ∙ sym k.1) (j.2 ∙ sym k.2)
  where
    built : List Access → List ℕ → Bool → Weights
    built accesses groups by_profile = record { accesses = accesses; groups = groups; by_profile = by_profile }

    made : a.accesses ≡ b.accesses → a.groups ≡ b.groups → a.by_profile ≡ b.by_profile
        → built a.accesses a.groups a.by_profile ≡ built b.accesses b.groups b.by_profile
    made x y z = rw (x, y, z) refl

-- ---- the plan

pub plans_are_one : PlansAreOne
plans_are_one counts p a b j k =
    let own = same_weights counts p a.weights b.weights j.weighed k.weighed in
    let verdicts = same_verdicts _ _ j.verdicts k.verdicts j.judged k.judged in
    let records : a.plan.records ≡ b.plan.records = j.planned ∙ rw (own, verdicts) refl ∙ sym k.planned in
    made records own
  where
    built : List RecordPlan → Weights → Planned
    built records own = record { plan = record { records = records }; weights = own }

    made : a.plan.records ≡ b.plan.records → a.weights ≡ b.weights → built a.plan.records a.weights ≡ built b.plan.records b.weights
    made x y = rw (x, y) refl
