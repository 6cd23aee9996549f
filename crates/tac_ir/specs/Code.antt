-- Code as it is read: the steps of a function in their order.
use Rattle.std.specs.Prelude.{ℕ, ◌-◌, Bool, List, length, drop, map, reverse, get_or}
use Rattle.lay_base.specs.declared.place.Place.{Place}
use Rattle.tac_ir.specs.declared.step.Parameter.{Parameter}
use Rattle.tac_ir.specs.declared.step.Routine.{Routine}
use Rattle.tac_ir.specs.declared.step.Step.{Step}
use Rattle.tac_ir.specs.declared.step.Tac.{Tac}
use Rattle.tac_ir.specs.declared.step.Target.{Target}
use Rattle.tac_ir.specs.declared.step.Target.TheVariants as To

pub record RoutineData : Type 0 where
  pub ty : ℕ
  pub locals : List Bool
  pub parameters : List Parameter
  pub code : List Step
  -- how many steps are left at each label
  pub labels : List ℕ
  pub texts : List (List ℕ)

pub record Code : Type 0 where
  pub routines : List RoutineData
  pub main : ℕ
  -- where `main` is in the source
  pub place : Place

abbrev pub data_of : Routine → RoutineData
data_of g = record { ty = g.ty; locals = g.locals; parameters = g.parameters; code = reverse g.code; labels = g.labels; texts = g.texts }

abbrev pub code_of : Tac → Code
code_of t = record { routines = map data_of t.routines; main = t.main; place = t.place }

-- the code from where so many steps are left
abbrev pub left : ℕ → List Step → List Step
left n code = drop (length code - n) code

-- where a jump leads
abbrev pub led : RoutineData → Target → List Step
led g (To.Left n) = left n g.code
led g (To.Label l) = left (get_or g.labels l 0) g.code
