-- That the blocks of locals are as large as what is put into them.
use Rattle.std.specs.Prelude.{◌≡◌, ℕ, ◌+◌, ◌≤◌, true, List, [], ◌∷◌, length, get_or}
use Rattle.tac_ir.specs.Code.{RoutineData}
use Rattle.tac_ir.specs.declared.step.Parameter.{Parameter}
use Rattle.tac_ir.specs.declared.step.Step.{Step}
use Rattle.tac_ir.specs.declared.step.Step.TheVariants as S

-- where the block of each local has that size at least
module _ (size : ℕ → ℕ) where
  abbrev pub FitsBlocks : (texts : List (List ℕ)) → Step → Type 0
  FitsBlocks texts (S.Begin x n) = size x ≤ n
  FitsBlocks texts (S.Forget x n) = n ≤ size x
  FitsBlocks texts (S.Zeros x n) = n ≤ size x
  FitsBlocks texts (S.Text x by n) = by + length (get_or texts n []) ≤ size x
  FitsBlocks texts s = Unit {0}

  abbrev pub AllFitBlocks : (texts : List (List ℕ)) → List Step → Type 0
  AllFitBlocks texts [] = Unit {0}
  AllFitBlocks texts (s ∷ more) = FitsBlocks texts s × AllFitBlocks texts more

  -- of the parameters from the x-th on
  abbrev pub BeginParameters : (x : ℕ) → List Parameter → Type 0
  BeginParameters x [] = Unit {0}
  BeginParameters x (r ∷ more) = (r.block ≡ true → size x ≤ r.size) × BeginParameters (x + 1) more

pub record HasBlocks (g : RoutineData) : Type 0 where
  pub size : ℕ → ℕ
  pub steps : AllFitBlocks size g.texts g.code
  pub parameters : BeginParameters size 0 g.parameters
