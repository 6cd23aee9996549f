-- What is left of a run: the turns, and between two of them the steps. And where a run of steady code stands.
use Rattle.std.proofs.Common.{◌≡◌, ap, subst, ℕ, zero, suc, ◌+◌, ◌*◌, ◌<◌, ◌≤◌, Bool, true, false, if◌then◌else◌, List, [], ◌∷◌, length, map}
use Rattle.std.proofs.Common.{drop, Some, slice_get, arith}
use Rattle.std.proofs.lemmas.List.{length-reverse}
use Rattle.block_memory.specs.Blocks.{Memory}
use Rattle.c_meaning.specs.Frames.{Frame}
use Rattle.source_state.specs.declared.ends.Moved.{Moved}
use Rattle.source_state.specs.declared.ends.Moved.TheVariants.{Goes, Puts, Gets, Over}
use Rattle.tac_ir.specs.Code.{RoutineData, code_of, data_of}
use Rattle.tac_ir.specs.Running.{Caller}
use Rattle.tac_ir.specs.Sizes.{AllFitBlocks}
use Rattle.tac_ir.specs.Turns.{AllLeadOn, TakesTurn, takes_turn}
use Rattle.tac_ir.specs.declared.step.Routine.{Routine}
use Rattle.tac_ir.specs.declared.step.Step.{Step}
use Rattle.tac_ir.specs.declared.step.Tac.{Tac}
use Rattle.tac_engine.specs.States.{State}
use Rattle.tac_engine.proofs.Stays.{HasSizes, Keeps, has_later}
use Rattle.tac_ir.specs.Steady.{AllSteady, IsSteady}

-- ---- the measure

-- so many steps at most before a turn is taken, or the function is left
abbrev pub weight : List Step → ℕ
weight [] = 1
weight (s ∷ more) = if takes_turn s then 1 else 2 + length more

abbrev pub weights : List Caller → ℕ
weights [] = 0
weights (one ∷ more) = weight one.more + weights more

-- no function of the code has more
abbrev pub most_steps : List RoutineData → ℕ
most_steps [] = 0
most_steps (g ∷ more) = length g.code + most_steps more

abbrev pub measure : State → ℕ
measure s = s.core.turns * (2 + most_steps (code_of s.code).routines) + (weight s.more + weights s.callers)

pub weight_most : (code : List Step) → weight code ≤ 1 + length code
weight_most [] = omega arith
weight_most (s ∷ more) = by_turn (takes_turn s)
  where
    by_turn : (b : Bool) → (if b then 1 else 2 + length more) ≤ 1 + suc (length more)
    by_turn true = omega arith
    by_turn false = omega arith

pub weight_least : (code : List Step) → 1 ≤ weight code
weight_least [] = omega arith
weight_least (s ∷ more) = by_turn (takes_turn s)
  where
    by_turn : (b : Bool) → 1 ≤ (if b then 1 else 2 + length more)
    by_turn true = omega arith
    by_turn false = omega arith

pub weight_of_turn : (code : List Step) → TakesTurn code → weight code ≡ 1
weight_of_turn [] h = absurd h
weight_of_turn (s ∷ more) h = ap (λ (b : Bool). if b then 1 else 2 + length more) h

-- ---- code that is left

pub some_same : {A : Type 0} {a b : A} → Some a ≡ Some b → a ≡ b
some_same e = cc

pub drop_leads : (g : RoutineData) (n : ℕ) (code : List Step) → AllLeadOn g code → AllLeadOn g (drop n code)
drop_leads g zero code h = h
drop_leads g (suc n) [] h = tt
drop_leads g (suc n) (s ∷ more) h = drop_leads g n more h.1

pub drop_fits : (sizes : ℕ → ℕ) (texts : List (List ℕ)) (n : ℕ) (code : List Step) → AllFitBlocks sizes texts code → AllFitBlocks sizes texts (drop n code)
drop_fits sizes texts zero code h = h
drop_fits sizes texts (suc n) [] h = tt
drop_fits sizes texts (suc n) (s ∷ more) h = drop_fits sizes texts n more h.1

-- ---- where a function stands

-- the code of a function by its number
pub steady_got : (all : List Routine) (f : ℕ) (g : Routine) → AllSteady (map data_of all) → slice_get all f ≡ Some g → IsSteady (data_of g)
steady_got [] f g h e = cc
steady_got (o ∷ more) zero g h e = subst (λ (g : Routine). IsSteady (data_of g)) (some_same e) h.0
steady_got (o ∷ more) (suc f) g h e = steady_got more f g h.1 e

pub most_got : (all : List Routine) (f : ℕ) (g : Routine) → slice_get all f ≡ Some g → length g.code ≤ most_steps (map data_of all)
most_got [] f g e = cc
most_got (o ∷ more) zero g e =
    let same : length o.code ≡ length g.code = ap (λ (g : Routine). length g.code) (some_same e) in
    let many = length-reverse o.code in omega (arith, same, many)
most_got (o ∷ more) (suc f) g e = let h = most_got more f g e in omega (arith, h)

module _ (code : Tac) where
  abbrev pub limit : ℕ
  limit = most_steps (code_of code).routines

  -- with those steps left, and that frame
  pub record Stands (m : Memory) (g : RoutineData) (more : List Step) (f : Frame) : Type 0 where
    pub sizes : ℕ → ℕ
    pub all_lead : AllLeadOn g g.code
    pub all_fit : AllFitBlocks sizes g.texts g.code
    pub few : length g.code ≤ limit
    pub lead : AllLeadOn g more
    pub fit : AllFitBlocks sizes g.texts more
    pub short : length more ≤ limit
    pub has : HasSizes sizes f m

  abbrev pub AllStand : Memory → List Caller → Type 0
  AllStand m [] = Unit {0}
  AllStand m (one ∷ more) = Stands m one.routine one.more one.frame × AllStand m more

  pub record IsAt (s : State) : Type 0 where
    pub code_is : s.code ≡ code
    pub here : Stands s.core.memory s.routine s.more s.core.frame
    pub callers : AllStand s.core.memory s.callers

  -- a step leads there
  pub record Falls (s new : State) : Type 0 where
    pub at : IsAt new
    pub less : measure new < measure s

  abbrev pub FallsBy : Moved → State → State → Type 0
  FallsBy (Over end) s new = Unit {0}
  FallsBy Goes s new = Falls s new
  FallsBy (Puts byte) s new = Falls s new
  FallsBy Gets s new = Falls s new

  pub later : (m n : Memory) (g : RoutineData) (more : List Step) (f : Frame) → Keeps m n → Stands m g more f → Stands n g more f
  later m n g more f h one = record {
    sizes = one.sizes;
    all_lead = one.all_lead;
    all_fit = one.all_fit;
    few = one.few;
    lead = one.lead;
    fit = one.fit;
    short = one.short;
    has = has_later f m n one.has h;
  }

  pub all_later : (m n : Memory) (all : List Caller) → Keeps m n → AllStand m all → AllStand n all
  all_later m n [] h all = tt
  all_later m n (one ∷ more) h all = (later m n one.routine one.more one.frame h all.0, all_later m n more h all.1)

-- where a run of steady code is
pub record IsSteadyAt (s : State) : Type 0 where
  pub code : Tac
  pub steady : AllSteady (code_of code).routines
  pub at : IsAt code s
