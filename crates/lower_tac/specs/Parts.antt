-- What code is made of. Code is made from the back: what is made of a part stands before the code that is already there, which is an argument.
use Rattle.std.specs.Prelude.{ℕ, suc, Bool, true, false, if◌then◌else◌, List, ◌∷◌, Option, Some, None}
use Rattle.lay_base.specs.declared.faults.UndefinedKind.TheVariants as K
use Rattle.lay_base.specs.declared.place.Place.{Place}
use Rattle.tac_ir.specs.declared.step.Operand.{Operand}
use Rattle.tac_ir.specs.declared.step.Operand.TheVariants as O
use Rattle.tac_ir.specs.declared.step.Step.{Step}
use Rattle.tac_ir.specs.declared.step.Step.TheVariants as S

abbrev pub Steps : Type 0
Steps = List Step

-- the value of the expression at that place; where it has none, that is undefined there
abbrev pub temp : Place → (t : ℕ) → Operand
temp at t = O.Temp K.NoValue t at

-- ---- a part of an expression whose value is used: an operand that needs no code, or else code that leaves it in a temporary

pub record Part : Type 0 where
  pub atom : Option Operand
  -- into the temporary d; those from d on may change
  pub made : (d : ℕ) → Steps → Steps
  pub at : Place
  -- it may have no value
  pub lacks : Bool

abbrev pub or_temp : Option Operand → Place → (d : ℕ) → Operand
or_temp None at d = temp at d
or_temp (Some a) at d = a

abbrev pub operand : Part → (d : ℕ) → Operand
operand x d = or_temp x.atom x.at d

abbrev pub unless_any : Option Operand → (Steps → Steps) → Steps → Steps
unless_any None make code = make code
unless_any (Some a) make code = code

abbrev pub code_of : Part → (d : ℕ) → Steps → Steps
code_of x d = unless_any x.atom (x.made d)

-- ---- held: in the temporary d, and known to have a value

abbrev pub tested_if : Bool → Place → (t : ℕ) → Steps → Steps
tested_if true at t code = S.Set t (temp at t) ∷ code
tested_if false at t code = code

abbrev pub held : Part → (d : ℕ) → Steps → Steps
held x d code = x.made d (tested_if x.lacks x.at d code)

-- what nothing changes has no need to be held
abbrev pub is_fixed : Operand → Bool
is_fixed (O.Temp kind t at) = false
is_fixed a = true

abbrev pub fixed : Option Operand → Option Operand
fixed None = None
fixed (Some a) = if is_fixed a then Some a else None

abbrev pub settled : Part → (d : ℕ) → Steps → Steps
settled x d = unless_any (fixed x.atom) (held x d)

abbrev pub settled_operand : Part → (d : ℕ) → Operand
settled_operand x d = or_temp (fixed x.atom) x.at d

-- ---- two operands, the left one first: it is settled where the right one has code

abbrev pub left_code : Option Operand → Part → (d : ℕ) → Steps → Steps
left_code None x d = settled x d
left_code (Some b) x d = code_of x d

abbrev pub left_operand : Option Operand → Part → (d : ℕ) → Operand
left_operand None x d = settled_operand x d
left_operand (Some b) x d = operand x d

abbrev pub both_code : Part → Part → (d : ℕ) → (Operand → Operand → Steps) → Steps
both_code x y d steps = left_code y.atom x d (code_of y (suc d) (steps (left_operand y.atom x d) (operand y (suc d))))
