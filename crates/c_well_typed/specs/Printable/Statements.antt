-- Typed statements that a C text can have (C99 6.8).
use Rattle.std.specs.Prelude.{◌≡◌, ◌≢◌, ℕ, Bool, true, false, List, [], Option, Some, None, slice_get, ◌⊎◌}
use Rattle.c_types.specs.Types.{CType, Record}
use Rattle.c_typed.specs.Trees as Trees
use Rattle.c_typed.specs.Trees.{Expression, Initializer, Statement, Statements, no_statements, and_statement, Arms}
use Rattle.c_well_typed.specs.Printable.Declarable.{base_of}
use Rattle.c_well_typed.specs.Printable.Expressions.{IsPrintable}
use Rattle.c_well_typed.specs.Printable.Initializers.{IsPrintableInitializer}

-- an `if` at its end that takes the `else` that follows (6.8.4.1)
abbrev pub is_open : {T : Type 0} → Statement T → Bool
is_open (Trees.when e one) = true
is_open (Trees.when_else e one other) = is_open other
is_open (Trees.while e body) = is_open body
is_open (Trees.for locals start test step body) = is_open body
is_open s = false

abbrev pub is_declaration : {T : Type 0} → Statement T → Bool
is_declaration (Trees.declare n initial) = true
is_declaration s = false

-- a branch, or the body of a loop: a declaration stands in a block alone (6.8)
abbrev pub IsBranch : {T : Type 0} → Statement T → Type 0
IsBranch s = is_declaration s ≡ false

-- a statement after a label: a declaration is none (6.8.1)
abbrev pub begins_with_statement : {T : Type 0} → Statements T → Bool
begins_with_statement no_statements = false
begins_with_statement (and_statement (Trees.declare n initial) more) = false
begins_with_statement all = true

-- an arm has a label; what stands before the first one has none
abbrev pub IsArm : {T : Type 0} → (is_first : Bool) → (cases : List ℕ) → (is_default : Bool) → Statements T → Type 0
IsArm true [] false all = all ≢ no_statements
IsArm is_first cases is_default all = ((cases ≢ []) ⊎ (is_default ≡ true)) × (begins_with_statement all ≡ true)

abbrev pub IsPrintableIfAny : Option (Expression CType) → Type 0
IsPrintableIfAny None = Unit {0}
IsPrintableIfAny (Some e) = IsPrintable e

-- over the program's records, and the types of the function's parameters and locals
module _ (records : List Record) (locals : List CType) where
  -- declarators that make their types of one (6.7)
  abbrev pub AreDeclared : CType → Statements CType → Type 0
  AreDeclared base no_statements = Unit {0}
  AreDeclared base (and_statement (Trees.declare n initial) more) = (t : CType) × (slice_get locals n ≡ Some t) × (base_of t ≡ base) × AreDeclared base more
  AreDeclared base all = ⊥

  -- what stands first in a `for`: an expression, one declaration, or nothing (6.8.5)
  abbrev pub IsStart : Statements CType → Type 0
  IsStart (and_statement (Trees.evaluate e) no_statements) = Unit {0}
  IsStart all = (base : CType) × AreDeclared base all

  abbrev pub IsPrintableDeclaration : (local : ℕ) → Option (Initializer CType) → Type 0
  IsPrintableDeclaration n initial = (t : CType) × (slice_get locals n ≡ Some t) × IsPrintableInitializer records t initial

  abbrev mutual
    pub IsPrintableStatement : Statement CType → Type 0
    IsPrintableStatement (Trees.evaluate e) = IsPrintable e
    IsPrintableStatement (Trees.block own all) = ArePrintableStatements all
    IsPrintableStatement (Trees.declare n initial) = IsPrintableDeclaration n initial
    IsPrintableStatement (Trees.when e one) = IsPrintable e × IsBranch one × IsPrintableStatement one
    IsPrintableStatement (Trees.when_else e one other) = IsPrintable e × IsBranch one × IsPrintableStatement one × (is_open one ≡ false)
        × IsBranch other × IsPrintableStatement other
    IsPrintableStatement (Trees.while e body) = IsPrintable e × IsBranch body × IsPrintableStatement body
    IsPrintableStatement (Trees.do_while body e) = IsBranch body × IsPrintableStatement body × IsPrintable e
    IsPrintableStatement (Trees.for own start test step body) = IsStart start × ArePrintableStatements start × IsPrintableIfAny test × IsPrintableIfAny step
        × IsBranch body × IsPrintableStatement body
    IsPrintableStatement (Trees.switch e own arms) = IsPrintable e × AreArms true arms
    IsPrintableStatement Trees.break = Unit {0}
    IsPrintableStatement Trees.continue = Unit {0}
    IsPrintableStatement (Trees.return e) = IsPrintableIfAny e

    pub ArePrintableStatements : Statements CType → Type 0
    ArePrintableStatements no_statements = Unit {0}
    ArePrintableStatements (and_statement s more) = IsPrintableStatement s × ArePrintableStatements more

    pub AreArms : (is_first : Bool) → Arms CType → Type 0
    AreArms is_first Trees.no_arms = Unit {0}
    AreArms is_first (Trees.and_arm cases is_default all more) = IsArm is_first cases is_default all × ArePrintableStatements all × AreArms false more
