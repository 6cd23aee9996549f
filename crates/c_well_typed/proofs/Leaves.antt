-- The nodes of a tree whose types no rule tells: names and null pointers, and casts. Something is asked of the types of the ones, and of the others.
use Rattle.std.proofs.Common.{ℕ, List, [], ◌∷◌, false, true, Some, None}
use Rattle.std.specs.Prelude.{Option}
use Rattle.c_types.specs.Types.{CType}
use Rattle.c_typed.specs.Trees as Trees
use Rattle.c_erasure.specs.Noted.{Noted, Note, nothing, size_of, Expression, Path, Node, PathNode, unconverted}

module _ (IsName IsCast : CType → Type 0) where
  abbrev mutual
    pub HasMadeLeaves : Expression → Type 0
    HasMadeLeaves (Trees.expression t at node) = InNode t.ty node

    pub InNode : CType → Node → Type 0
    InNode t (Trees.constant v) = Unit {0}
    InNode t Trees.null = IsName t
    InNode t (Trees.function_name f) = IsName t
    InNode t (Trees.load p) = InPath p
    InNode t (Trees.address_of p) = InPath p
    InNode t (Trees.decay p) = InPath p
    InNode t (Trees.convert e false) = HasMadeLeaves e
    InNode t (Trees.convert e true) = IsCast t × HasMadeLeaves e
    InNode t (Trees.unary op x) = HasMadeLeaves x
    InNode t (Trees.binary op x y) = HasMadeLeaves x × HasMadeLeaves y
    InNode t (Trees.compare op x y) = HasMadeLeaves x × HasMadeLeaves y
    InNode t (Trees.pointer_add op x y) = HasMadeLeaves x × HasMadeLeaves y
    InNode t (Trees.pointer_difference x y) = HasMadeLeaves x × HasMadeLeaves y
    InNode t (Trees.both x y) = HasMadeLeaves x × HasMadeLeaves y
    InNode t (Trees.either x y) = HasMadeLeaves x × HasMadeLeaves y
    InNode t (Trees.not x) = HasMadeLeaves x
    InNode t (Trees.choose x y z) = HasMadeLeaves x × HasMadeLeaves y × HasMadeLeaves z
    InNode t (Trees.comma x y) = HasMadeLeaves x × HasMadeLeaves y
    InNode t (Trees.assign p x) = InPath p × HasMadeLeaves x
    InNode t (Trees.assign_op op p x) = InPath p × HasMadeLeaves x
    InNode t (Trees.step op before p) = InPath p
    InNode t (Trees.copy_record to from) = InPath to × InPath from
    InNode t (Trees.call f all) = InAll all
    InNode t (Trees.call_through e all) = HasMadeLeaves e × InAll all
    InNode t (Trees.library which all) = InAll all
    InNode t (Trees.allocate r n zeroed) = InCount n

    pub InPath : Path → Type 0
    InPath (Trees.path t at step) = InStep t.ty step

    pub InStep : CType → PathNode → Type 0
    InStep t (Trees.local n) = IsName t
    InStep t (Trees.object n) = IsName t
    InStep t (Trees.deref e) = HasMadeLeaves e
    InStep t (Trees.index e i) = HasMadeLeaves e × HasMadeLeaves i
    InStep t (Trees.member p r field) = InPath p
    InStep t (Trees.element p i) = InPath p × HasMadeLeaves i

    pub InAll : Trees.Expressions Noted → Type 0
    InAll Trees.no_expressions = Unit {0}
    InAll (Trees.and_expression e more) = HasMadeLeaves e × InAll more

    pub InCount : Trees.OptionalExpression Noted → Type 0
    InCount Trees.no_expression = Unit {0}
    InCount (Trees.some_expression e) = HasMadeLeaves e

  -- ---- with the conversion at the top

  converted_leaves : (t : CType) (note : Note) (at : Rattle.lay_base.specs.declared.place.Place.Place) (e : Expression)
      → HasMadeLeaves (unconverted (Trees.expression (record { ty = t; note = note }) at (Trees.convert e false)))
      → HasMadeLeaves (Trees.expression (record { ty = t; note = note }) at (Trees.convert e false))
  converted_leaves t nothing at e h = h
  converted_leaves t (size_of u by) at e h = h

  pub whole_leaves : (e : Expression) → HasMadeLeaves (unconverted e) → HasMadeLeaves e
  whole_leaves (Trees.expression t at (Trees.convert e false)) h = converted_leaves t.ty t.note at e h
  whole_leaves (Trees.expression t at (Trees.convert e true)) h = h
  whole_leaves (Trees.expression t at node) h = h

  -- ---- initializers

  abbrev pub InValue : Trees.PartValue Noted → Type 0
  InValue (Trees.value e) = HasMadeLeaves e
  InValue (Trees.record_of p) = InPath p
  InValue (Trees.text bytes) = Unit {0}

  abbrev pub InParts : List (Trees.Part Noted) → Type 0
  InParts [] = Unit {0}
  InParts (part ∷ more) = InValue part.value × InParts more

  abbrev pub InInitializer : Trees.Initializer Noted → Type 0
  InInitializer (Trees.whole e) = HasMadeLeaves e
  InInitializer (Trees.whole_record p) = InPath p
  InInitializer (Trees.parts all) = InParts all

  abbrev pub InInitial : Option (Trees.Initializer Noted) → Type 0
  InInitial None = Unit {0}
  InInitial (Some i) = InInitializer i

  abbrev pub IfAny : Option Expression → Type 0
  IfAny None = Unit {0}
  IfAny (Some e) = HasMadeLeaves e

-- ---- statements, whose locals are asked of too

module _ (IsName IsCast : CType → Type 0) (IsLocal : ℕ → Type 0) where
  abbrev N : Expression → Type 0
  N = HasMadeLeaves IsName IsCast

  abbrev mutual
    pub InStatement : Trees.Statement Noted → Type 0
    InStatement (Trees.evaluate e) = N e
    InStatement (Trees.block locals all) = InStatements all
    InStatement (Trees.declare n initial) = IsLocal n × InInitial IsName IsCast initial
    InStatement (Trees.when e one) = N e × InStatement one
    InStatement (Trees.when_else e one other) = N e × InStatement one × InStatement other
    InStatement (Trees.while e body) = N e × InStatement body
    InStatement (Trees.do_while body e) = InStatement body × N e
    InStatement (Trees.for locals start test step body) = InStatements start × IfAny IsName IsCast test × IfAny IsName IsCast step × InStatement body
    InStatement (Trees.switch e locals arms) = N e × InArms arms
    InStatement Trees.break = Unit {0}
    InStatement Trees.continue = Unit {0}
    InStatement (Trees.return e) = IfAny IsName IsCast e

    pub InStatements : Trees.Statements Noted → Type 0
    InStatements Trees.no_statements = Unit {0}
    InStatements (Trees.and_statement s more) = InStatement s × InStatements more

    pub InArms : Trees.Arms Noted → Type 0
    InArms Trees.no_arms = Unit {0}
    InArms (Trees.and_arm cases is_default all more) = InStatements all × InArms more
