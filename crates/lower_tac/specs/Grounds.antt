-- The code of parts of a function, by what the writing of its code stands on.
use Rattle.std.specs.Prelude.{ℕ, Bool, true, false, not, List, ◌∷◌, length, Option, None}
use Rattle.lay_base.specs.declared.place.Place.{Place}
use Rattle.c_typed.specs.declared.expression.Expression.{Expression}
use Rattle.c_typed.specs.declared.expression.Path.{Path}
use Rattle.c_typed.specs.declared.program.Local.{Local}
use Rattle.c_typed.specs.Programs.{ProgramData, data_of, program_data}
use Rattle.c_typed.specs.Constants.{kind_of, ty}
use Rattle.c_typed.specs.Trees as T
use Rattle.c_typed.specs.Trees.{Node, PathNode, expression, path}
use Rattle.c_typed.specs.Typed.{path_ty}
use Rattle.c_typed.specs.Views.{expression_of, path_of}
use Rattle.c_meaning.specs.Program.{all_locals, size_at, type_at}
use Rattle.lower_tac.specs.declared.ground.Ground.{Ground}
use Rattle.tac_ir.specs.declared.step.Step.TheVariants as S
use Rattle.tac_ir.specs.declared.step.Target.{Target}
use Rattle.tac_ir.specs.declared.step.Target.TheVariants as To
use Rattle.lower_tac.specs.Parts.{Part, Steps, both_code, code_of, operand}
use Rattle.lower_tac.specs.Expressions.{address_code, assign_code, assign_op_code, branch_code, branch_on, copy_code, effect_code, part_code, named_root, part_of, place_of, path_code, step_code, value_code}

abbrev pub program_in : Ground → ProgramData
program_in g = program_data g.types.now

abbrev pub locals_in : Ground → List Local
locals_in g = all_locals (data_of g.function.now)

-- an expression whose value is used
abbrev pub part_in : Ground → Expression ℕ → Part
part_in g e = part_of (program_in g) (locals_in g) (expression_of e) (value_code (program_in g) (locals_in g) (expression_of e))

-- a path whose address is used
abbrev pub place_in : Ground → Path ℕ → Part
place_in g q = place_of (program_in g) (locals_in g) (path_of q) (path_code (program_in g) (locals_in g) false (path_of q))

-- ---- assignments, whose results may be dropped

module _ (p : ProgramData) (locals : List Local) where
  abbrev pub to_place : T.Path ℕ → Part
  to_place q = place_of p locals q (path_code p locals false q)

  abbrev pub to_value : T.Expression ℕ → Part
  to_value x = part_of p locals x (value_code p locals x)

  abbrev pub stored_code : T.Expression ℕ → Option ℕ → (d : ℕ) → Steps → Steps
  stored_code (expression t at (T.assign q x)) to d code =
      assign_code p (named_root p locals q) t at (to_place q) (value_code p locals x) (to_value x) d to code
  stored_code (expression t at (T.assign_op op q x)) to d code =
      assign_op_code p (named_root p locals q) t at op (kind_of (type_at p (ty x))) (to_place q) (to_value x) d to code
  stored_code (expression t at (T.step op before q)) to d code = step_code p (named_root p locals q) t at op before (to_place q) d to code
  stored_code (expression t at (T.copy_record q r)) to d code =
      copy_code p (named_root p locals q) (named_root p locals r) at (size_at p (path_ty q)) (to_place q) (to_place r) d to code
  stored_code e to d code = code

  -- an address as a value
  abbrev pub addressed_code : (addressed : Bool) → T.Path ℕ → Place → (to d : ℕ) → Steps → Steps
  addressed_code addressed q at to d code =
      address_code p locals (named_root p locals q) at (path_code p locals addressed q) to d code

-- ---- sorts of nodes

-- what gives a value that may be dropped where it is made
abbrev pub drops : T.Expression ℕ → Bool
drops (expression t at (T.comma x y)) = true
drops (expression t at (T.assign q x)) = true
drops (expression t at (T.assign_op op q x)) = true
drops (expression t at (T.step op before q)) = true
drops (expression t at (T.copy_record q r)) = true
drops e = false

-- what decides a jump by itself
abbrev pub decides : T.Expression ℕ → Bool
decides (expression t at (T.compare op x y)) = true
decides (expression t at (T.not x)) = true
decides (expression t at (T.both x y)) = true
decides (expression t at (T.either x y)) = true
decides e = false

abbrev pub leads_through : T.Path ℕ → Bool
leads_through (path u b (T.deref e)) = true
leads_through (path u b (T.index e i)) = true
leads_through q = false

-- ---- what the code of a node is, one step deep

module _ (p : ProgramData) (locals : List Local) where
  abbrev pub effect_shown : T.Expression ℕ → (d : ℕ) → Steps → Steps
  effect_shown (expression t at (T.comma x y)) d code = effect_code p locals x d (effect_code p locals y d code)
  effect_shown (expression t at (T.assign q x)) d code = stored_code p locals (expression t at (T.assign q x)) None d code
  effect_shown (expression t at (T.assign_op op q x)) d code = stored_code p locals (expression t at (T.assign_op op q x)) None d code
  effect_shown (expression t at (T.step op before q)) d code = stored_code p locals (expression t at (T.step op before q)) None d code
  effect_shown (expression t at (T.copy_record q r)) d code = stored_code p locals (expression t at (T.copy_record q r)) None d code
  effect_shown e d code = value_code p locals e d d code

  abbrev pub branch_shown : T.Expression ℕ → (when : Bool) → Target → (d : ℕ) → Steps → Steps
  branch_shown (expression t at (T.compare op x y)) when to d code =
      both_code (to_value p locals x) (to_value p locals y) d (λ a b. S.Test at op (kind_of (type_at p (ty x))) when a b to ∷ code)
  branch_shown (expression t at (T.not x)) when to d code = branch_code p locals x (not when) to d code
  branch_shown (expression t at (T.both x y)) false to d code = branch_code p locals x false to d (branch_code p locals y false to d code)
  branch_shown (expression t at (T.both x y)) true to d code =
      branch_code p locals x false (To.Left (length code)) d (branch_code p locals y true to d code)
  branch_shown (expression t at (T.either x y)) true to d code = branch_code p locals x true to d (branch_code p locals y true to d code)
  branch_shown (expression t at (T.either x y)) false to d code =
      branch_code p locals x true (To.Left (length code)) d (branch_code p locals y false to d code)
  branch_shown e when to d code = branch_on p locals (to_value p locals e) when to d code

  abbrev pub member_shown : T.Path ℕ → Place → (by : ℕ) → (to d : ℕ) → Steps → Steps
  member_shown (path u b (T.deref e)) at by to d code =
      code_of (to_value p locals e) d (S.Field to at by (operand (to_value p locals e) d) ∷ code)
  member_shown (path u b (T.index e i)) at by to d code =
      both_code (to_value p locals e) (to_value p locals i) d (λ a b. S.ElementField to at (size_at p u) (kind_of (type_at p (ty i))) by a b ∷ code)
  member_shown q at by to d code = part_code p locals (named_root p locals q) at by (to_place p locals q) to d code

abbrev pub stored_in : Ground → Expression ℕ → Option ℕ → (d : ℕ) → Steps → Steps
stored_in g e = stored_code (program_in g) (locals_in g) (expression_of e)

abbrev pub address_in : Ground → (addressed : Bool) → Path ℕ → Place → (to d : ℕ) → Steps → Steps
address_in g addressed q = addressed_code (program_in g) (locals_in g) addressed (path_of q)
