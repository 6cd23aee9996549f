-- What holds of the places of a typed tree: those of its expressions and of its paths.
use Rattle.std.specs.Prelude.{List, [], ◌∷◌, All, IfSome, Option, Some, None}
use Rattle.lay_base.specs.declared.place.Place.{Place}
use Rattle.c_typed.specs.Trees
use Rattle.c_typed.specs.Programs.{ProgramData, FunctionData}

module _ {T : Type 0} (Is : Place → Type 0) where
  abbrev mutual
    -- each place in it is so
    pub IsPlaced : Trees.Expression T → Type 0
    IsPlaced (Trees.expression t at node) = Is at × IsPlacedNode node

    pub IsPlacedNode : Trees.Node T → Type 0
    IsPlacedNode (Trees.constant v) = Unit {0}
    IsPlacedNode Trees.null = Unit {0}
    IsPlacedNode (Trees.function_name f) = Unit {0}
    IsPlacedNode (Trees.load p) = IsPlacedPath p
    IsPlacedNode (Trees.address_of p) = IsPlacedPath p
    IsPlacedNode (Trees.decay p) = IsPlacedPath p
    IsPlacedNode (Trees.convert e written) = IsPlaced e
    IsPlacedNode (Trees.unary op x) = IsPlaced x
    IsPlacedNode (Trees.binary op x y) = IsPlaced x × IsPlaced y
    IsPlacedNode (Trees.compare op x y) = IsPlaced x × IsPlaced y
    IsPlacedNode (Trees.pointer_add op x y) = IsPlaced x × IsPlaced y
    IsPlacedNode (Trees.pointer_difference x y) = IsPlaced x × IsPlaced y
    IsPlacedNode (Trees.both x y) = IsPlaced x × IsPlaced y
    IsPlacedNode (Trees.either x y) = IsPlaced x × IsPlaced y
    IsPlacedNode (Trees.not x) = IsPlaced x
    IsPlacedNode (Trees.choose x y z) = IsPlaced x × IsPlaced y × IsPlaced z
    IsPlacedNode (Trees.comma x y) = IsPlaced x × IsPlaced y
    IsPlacedNode (Trees.assign p x) = IsPlacedPath p × IsPlaced x
    IsPlacedNode (Trees.assign_op op p x) = IsPlacedPath p × IsPlaced x
    IsPlacedNode (Trees.step op before p) = IsPlacedPath p
    IsPlacedNode (Trees.copy_record to from) = IsPlacedPath to × IsPlacedPath from
    IsPlacedNode (Trees.call f all) = ArePlaced all
    IsPlacedNode (Trees.call_through e all) = IsPlaced e × ArePlaced all
    IsPlacedNode (Trees.library which all) = ArePlaced all
    IsPlacedNode (Trees.allocate r count zeroed) = IsPlacedCount count

    pub IsPlacedPath : Trees.Path T → Type 0
    IsPlacedPath (Trees.path t at step) = Is at × IsPlacedStep step

    pub IsPlacedStep : Trees.PathNode T → Type 0
    IsPlacedStep (Trees.local n) = Unit {0}
    IsPlacedStep (Trees.object n) = Unit {0}
    IsPlacedStep (Trees.deref e) = IsPlaced e
    IsPlacedStep (Trees.index e i) = IsPlaced e × IsPlaced i
    IsPlacedStep (Trees.member p r field) = IsPlacedPath p
    IsPlacedStep (Trees.element p i) = IsPlacedPath p × IsPlaced i

    pub ArePlaced : Trees.Expressions T → Type 0
    ArePlaced Trees.no_expressions = Unit {0}
    ArePlaced (Trees.and_expression e more) = IsPlaced e × ArePlaced more

    pub IsPlacedCount : Trees.OptionalExpression T → Type 0
    IsPlacedCount Trees.no_expression = Unit {0}
    IsPlacedCount (Trees.some_expression e) = IsPlaced e

  -- ---- initializers and statements

  abbrev pub IsPlacedValue : Trees.PartValue T → Type 0
  IsPlacedValue (Trees.value e) = IsPlaced e
  IsPlacedValue (Trees.record_of p) = IsPlacedPath p
  IsPlacedValue (Trees.text bytes) = Unit {0}

  abbrev pub ArePlacedParts : List (Trees.Part T) → Type 0
  ArePlacedParts [] = Unit {0}
  ArePlacedParts (part ∷ more) = IsPlacedValue part.value × ArePlacedParts more

  abbrev pub IsPlacedInitializer : Trees.Initializer T → Type 0
  IsPlacedInitializer (Trees.whole e) = IsPlaced e
  IsPlacedInitializer (Trees.whole_record p) = IsPlacedPath p
  IsPlacedInitializer (Trees.parts all) = ArePlacedParts all

  abbrev pub IsPlacedInitial : Option (Trees.Initializer T) → Type 0
  IsPlacedInitial None = Unit {0}
  IsPlacedInitial (Some initial) = IsPlacedInitializer initial

  abbrev pub IsPlacedIfAny : Option (Trees.Expression T) → Type 0
  IsPlacedIfAny None = Unit {0}
  IsPlacedIfAny (Some e) = IsPlaced e

  abbrev mutual
    pub IsPlacedStatement : Trees.Statement T → Type 0
    IsPlacedStatement (Trees.evaluate e) = IsPlaced e
    IsPlacedStatement (Trees.block locals all) = ArePlacedStatements all
    IsPlacedStatement (Trees.declare n initial) = IsPlacedInitial initial
    IsPlacedStatement (Trees.when e one) = IsPlaced e × IsPlacedStatement one
    IsPlacedStatement (Trees.when_else e one other) = IsPlaced e × IsPlacedStatement one × IsPlacedStatement other
    IsPlacedStatement (Trees.while e body) = IsPlaced e × IsPlacedStatement body
    IsPlacedStatement (Trees.do_while body e) = IsPlacedStatement body × IsPlaced e
    IsPlacedStatement (Trees.for locals start test step body) =
        ArePlacedStatements start × IsPlacedIfAny test × IsPlacedIfAny step × IsPlacedStatement body
    IsPlacedStatement (Trees.switch e locals arms) = IsPlaced e × ArePlacedArms arms
    IsPlacedStatement Trees.break = Unit {0}
    IsPlacedStatement Trees.continue = Unit {0}
    IsPlacedStatement (Trees.return e) = IsPlacedIfAny e

    pub ArePlacedStatements : Trees.Statements T → Type 0
    ArePlacedStatements Trees.no_statements = Unit {0}
    ArePlacedStatements (Trees.and_statement s more) = IsPlacedStatement s × ArePlacedStatements more

    pub ArePlacedArms : Trees.Arms T → Type 0
    ArePlacedArms Trees.no_arms = Unit {0}
    ArePlacedArms (Trees.and_arm cases is_default all more) = ArePlacedStatements all × ArePlacedArms more

-- the place of a function is so, and each one in its body
abbrev pub IsPlacedFunction : (Place → Type 0) → FunctionData → Type 0
IsPlacedFunction Is g = Is g.place × IfSome g.body (IsPlacedStatement Is)

-- of each function of a program
abbrev pub FunctionsArePlaced : (Place → Type 0) → ProgramData → Type 0
FunctionsArePlaced Is p = All (IsPlacedFunction Is) p.functions
