-- Notes in initializers and statements.
use Rattle.std.proofs.Common.{ℕ, List, [], ◌∷◌, Some, None}
use Rattle.std.specs.Prelude.{Option}
use Rattle.c_typed.specs.Trees as Trees
use Rattle.c_erasure.specs.Noted.{Noted, Expression}
use Rattle.c_well_typed.proofs.Notes.{IsNoted, IsNotedPath}

module _ (count : ℕ) (MayAllocate : Type 0) where
  abbrev pub IsNotedValue : Trees.PartValue Noted → Type 0
  IsNotedValue (Trees.value e) = IsNoted count MayAllocate e
  IsNotedValue (Trees.record_of p) = IsNotedPath count MayAllocate p
  IsNotedValue (Trees.text bytes) = Unit {0}

  abbrev pub ArePartsNoted : List (Trees.Part Noted) → Type 0
  ArePartsNoted [] = Unit {0}
  ArePartsNoted (part ∷ more) = IsNotedValue part.value × ArePartsNoted more

  abbrev pub IsNotedInitializer : Trees.Initializer Noted → Type 0
  IsNotedInitializer (Trees.whole e) = IsNoted count MayAllocate e
  IsNotedInitializer (Trees.whole_record p) = IsNotedPath count MayAllocate p
  IsNotedInitializer (Trees.parts all) = ArePartsNoted all

  abbrev pub IsNotedInitial : Option (Trees.Initializer Noted) → Type 0
  IsNotedInitial None = Unit {0}
  IsNotedInitial (Some i) = IsNotedInitializer i

  abbrev pub IsNotedIfAny : Option Expression → Type 0
  IsNotedIfAny None = Unit {0}
  IsNotedIfAny (Some e) = IsNoted count MayAllocate e

  abbrev mutual
    pub IsNotedStatement : Trees.Statement Noted → Type 0
    IsNotedStatement (Trees.evaluate e) = IsNoted count MayAllocate e
    IsNotedStatement (Trees.block locals all) = AreStatementsNoted all
    IsNotedStatement (Trees.declare n initial) = IsNotedInitial initial
    IsNotedStatement (Trees.when e one) = IsNoted count MayAllocate e × IsNotedStatement one
    IsNotedStatement (Trees.when_else e one other) = IsNoted count MayAllocate e × IsNotedStatement one × IsNotedStatement other
    IsNotedStatement (Trees.while e body) = IsNoted count MayAllocate e × IsNotedStatement body
    IsNotedStatement (Trees.do_while body e) = IsNotedStatement body × IsNoted count MayAllocate e
    IsNotedStatement (Trees.for locals start test step body) = AreStatementsNoted start × IsNotedIfAny test × IsNotedIfAny step × IsNotedStatement body
    IsNotedStatement (Trees.switch e locals arms) = IsNoted count MayAllocate e × AreArmsNoted arms
    IsNotedStatement Trees.break = Unit {0}
    IsNotedStatement Trees.continue = Unit {0}
    IsNotedStatement (Trees.return e) = IsNotedIfAny e

    pub AreStatementsNoted : Trees.Statements Noted → Type 0
    AreStatementsNoted Trees.no_statements = Unit {0}
    AreStatementsNoted (Trees.and_statement s more) = IsNotedStatement s × AreStatementsNoted more

    pub AreArmsNoted : Trees.Arms Noted → Type 0
    AreArmsNoted Trees.no_arms = Unit {0}
    AreArmsNoted (Trees.and_arm cases is_default all more) = AreStatementsNoted all × AreArmsNoted more
