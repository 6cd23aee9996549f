-- What becomes of a record, as its functions answer it: both sides of a bound on hotness, and sums of sizes.
use Rattle.std.specs.Prelude.{ℕ, ◌+◌, ◌*◌, ◌/◌, nat_lt, Bool, true, false, not, List, ◌∷◌, filter, fold}
use Rattle.c_types.specs.Layouts.{size_of}
use Rattle.c_types.specs.Types as T
use Rattle.c_types.specs.Types.{CType}
use Rattle.c_typed.specs.TypeNumbers.{type_at}
use Rattle.affinity.specs.declared.fields.FieldWeights.{FieldWeights}
use Rattle.affinity.specs.FieldWeights.{hotness_in}
use Rattle.layout_plan.specs.declared.plans.Decision.{Decision}
use Rattle.layout_plan.specs.declared.plans.Decision.TheVariants.{Reordered, Peeled}

-- hotness below this is less than so many thousandths of the greatest
abbrev pub cold_below : (by_profile : Bool) → (greatest : ℕ) → ℕ
cold_below true greatest = (30 * greatest + 999) / 1000
cold_below false greatest = (75 * greatest + 999) / 1000

abbrev pub is_on : FieldWeights → (below : ℕ) → (is_cold : Bool) → (field : ℕ) → Bool
is_on w below true f = nat_lt (hotness_in w f) below
is_on w below false f = not (nat_lt (hotness_in w f) below)

abbrev pub side : FieldWeights → (below : ℕ) → (is_cold : Bool) → List ℕ → List ℕ
side w below is_cold fields = filter (is_on w below is_cold) fields

-- of a record that may be peeled
abbrev pub decision_of : (groups : List (List ℕ)) → Decision
decision_of (one ∷ other ∷ more) = Peeled
decision_of few = Reordered

abbrev pub sizes : List T.Record → List CType → (sum : ℕ) → List ℕ → ℕ
sizes records types sum fields = fold (λ sum f. sum + size_of records (type_at types f)) sum fields
