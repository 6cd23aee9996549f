-- Trees whose code fits: what the code of each node asks of its numbers, and of what it names.
use Rattle.std.specs.Prelude.{◌≡◌, ◌≢◌, ℕ, ◌+◌, ◌<◌, ◌≤◌, ◌^◌, Bool, true, false, List, [], ◌∷◌, length, Option, Some, None, slice_get}
use Rattle.c_types.specs.Sameness.{same_type}
use Rattle.c_types.specs.Types.{pointer as pointer_to}
use Rattle.c_typed.specs.Constants.{ty}
use Rattle.c_typed.specs.Programs.{ProgramData}
use Rattle.c_typed.specs.Trees as T
use Rattle.c_typed.specs.Trees.{Expression, expression, Node, Path, path, PathNode, Expressions, OptionalExpression, PartValue, Part, Initializer}
use Rattle.c_typed.specs.Trees.{Statement, Statements, Arms}
use Rattle.c_typed.specs.Typed.{path_ty}
use Rattle.c_typed.specs.declared.program.Local.{Local}
use Rattle.c_meaning.specs.Program.{element_size, size_at, type_at}
use Rattle.lower_tac.specs.Expressions.{count_of, named_root}
use Rattle.tac_ir.specs.Code.{Code, RoutineData}
use Rattle.tac_ir.specs.Running.{type_in}

-- over a program, its code, how many objects have places, what is known of functions that are named, and a function's locals
module _ (p : ProgramData) (c : Code) (objects : ℕ) (Here : ℕ → Type 0) (locals : List Local) where
  -- so many arguments are as many as there are parameters
  abbrev pub IsCalled : (f : ℕ) → (arguments : ℕ) → Type 0
  IsCalled f n = (g : RoutineData) → slice_get c.routines f ≡ Some g → g.code ≢ [] → length g.parameters ≡ n

  abbrev pub IsCalledThrough : (ty : ℕ) → (arguments : ℕ) → Type 0
  IsCalledThrough ty n = (f : ℕ) (g : RoutineData) → slice_get c.routines f ≡ Some g → g.code ≢ []
      → same_type (type_in p.types ty) (pointer_to (type_in p.types g.ty)) ≡ true → length g.parameters ≡ n

  -- the size of what is counted in a difference
  abbrev pub IsStep : ℕ → Type 0
  IsStep size = (0 < size) × (size < 2 ^ 31)

  abbrev mutual
    pub Sits : Expression ℕ → Type 0
    Sits (expression t at node) = SitsNode node

    pub SitsNode : Node ℕ → Type 0
    SitsNode (T.constant v) = v < 2 ^ 32
    SitsNode T.null = Unit {0}
    SitsNode (T.function_name f) = Here f
    SitsNode (T.load q) = SitsPath q
    SitsNode (T.address_of q) = SitsPath q
    SitsNode (T.decay q) = SitsPath q
    SitsNode (T.convert e written) = Sits e
    SitsNode (T.unary op x) = Sits x
    SitsNode (T.binary op x y) = Sits x × Sits y
    SitsNode (T.compare op x y) = Sits x × Sits y
    SitsNode (T.pointer_add op x y) = Sits x × Sits y
    SitsNode (T.pointer_difference x y) = Sits x × Sits y × IsStep (element_size p (type_at p (ty x)))
    SitsNode (T.both x y) = Sits x × Sits y
    SitsNode (T.either x y) = Sits x × Sits y
    SitsNode (T.not x) = Sits x
    SitsNode (T.choose x y z) = Sits x × Sits y × Sits z
    SitsNode (T.comma x y) = Sits x × Sits y
    SitsNode (T.assign q x) = SitsPath q × Sits x
    SitsNode (T.assign_op op q x) = SitsPath q × Sits x
    SitsNode (T.step op before q) = SitsPath q
    SitsNode (T.copy_record q r) = SitsPath q × SitsPath r × (size_at p (path_ty q) < 2 ^ 32)
    SitsNode (T.call f all) = AllSit all × IsCalled f (count_of all)
    SitsNode (T.call_through e all) = Sits e × AllSit all × IsCalledThrough (ty e) (count_of all)
    SitsNode (T.library which all) = AllSit all
    SitsNode (T.allocate r count zeroed) = SitsCount count

    pub SitsPath : Path ℕ → Type 0
    SitsPath (path t at node) = SitsStep node

    -- no element of a local that is kept by its name
    pub SitsStep : PathNode ℕ → Type 0
    SitsStep (T.local x) = Unit {0}
    SitsStep (T.object n) = n < objects
    SitsStep (T.deref e) = Sits e
    SitsStep (T.index e i) = Sits e × Sits i
    SitsStep (T.member q r field) = SitsPath q
    SitsStep (T.element q i) = SitsPath q × Sits i × (named_root p locals q ≡ None)

    pub AllSit : Expressions ℕ → Type 0
    AllSit T.no_expressions = Unit {0}
    AllSit (T.and_expression e more) = Sits e × AllSit more

    pub SitsCount : OptionalExpression ℕ → Type 0
    SitsCount T.no_expression = Unit {0}
    SitsCount (T.some_expression e) = Sits e

  abbrev pub SitsIfAny : Option (Expression ℕ) → Type 0
  SitsIfAny None = Unit {0}
  SitsIfAny (Some e) = Sits e

  -- ---- initializers and statements, where the block of each local has a size

  module _ (size : ℕ → ℕ) where
    abbrev pub SitsValue : (x offset : ℕ) → PartValue ℕ → Type 0
    SitsValue x offset (T.value e) = (offset ≤ size x) × Sits e
    SitsValue x offset (T.record_of q) = (offset ≤ size x) × SitsPath q × (size_at p (path_ty q) < 2 ^ 32)
    SitsValue x offset (T.text bytes) = offset + length bytes ≤ size x

    abbrev pub PartsSit : (x : ℕ) → List (Part ℕ) → Type 0
    PartsSit x [] = Unit {0}
    PartsSit x (one ∷ more) = SitsValue x one.offset one.value × PartsSit x more

    -- a value into a local that is kept by its name, or the parts of a block
    abbrev pub SitsInitializer : (block : Bool) → (x : ℕ) → Initializer ℕ → Type 0
    SitsInitializer true x (T.whole e) = SitsValue x 0 (T.value e)
    SitsInitializer true x (T.whole_record q) = SitsValue x 0 (T.record_of q)
    SitsInitializer true x (T.parts all) = PartsSit x all
    SitsInitializer false x (T.whole e) = Sits e
    SitsInitializer false x i = Unit {0}

    abbrev pub SitsInitial : (block : Bool) → (x : ℕ) → Option (Initializer ℕ) → Type 0
    SitsInitial block x None = Unit {0}
    SitsInitial block x (Some i) = SitsInitializer block x i

    -- the block of a local that is declared has the size of its type
    abbrev pub HasSize : (x : ℕ) → Local → Type 0
    HasSize x l = l.block ≡ true → size_at p l.ty ≡ size x

    abbrev pub SitsDeclaration : Option Local → (x : ℕ) → Option (Initializer ℕ) → Type 0
    SitsDeclaration None x i = Unit {0}
    SitsDeclaration (Some l) x i = HasSize x l × SitsInitial l.block x i

    abbrev pub OwnSit : List ℕ → Type 0
    OwnSit [] = Unit {0}
    OwnSit (x ∷ more) = SitsDeclaration (slice_get locals x) x None × OwnSit more

    abbrev pub CasesSit : List ℕ → Type 0
    CasesSit [] = Unit {0}
    CasesSit (v ∷ more) = (v < 2 ^ 32) × CasesSit more

    abbrev mutual
      pub StatementSits : Statement ℕ → Type 0
      StatementSits (T.evaluate e) = Sits e
      StatementSits (T.block own all) = OwnSit own × StatementsSit all
      StatementSits (T.declare n i) = SitsDeclaration (slice_get locals n) n i
      StatementSits (T.when e one) = Sits e × StatementSits one
      StatementSits (T.when_else e one other) = Sits e × StatementSits one × StatementSits other
      StatementSits (T.while e body) = Sits e × StatementSits body
      StatementSits (T.do_while body e) = StatementSits body × Sits e
      StatementSits (T.for own start test step body) = OwnSit own × StatementsSit start × SitsIfAny test × SitsIfAny step × StatementSits body
      StatementSits (T.switch e own arms) = Sits e × OwnSit own × ArmsSit arms
      StatementSits T.break = Unit {0}
      StatementSits T.continue = Unit {0}
      StatementSits (T.return e) = SitsIfAny e

      pub StatementsSit : Statements ℕ → Type 0
      StatementsSit T.no_statements = Unit {0}
      StatementsSit (T.and_statement s more) = StatementSits s × StatementsSit more

      pub ArmsSit : Arms ℕ → Type 0
      ArmsSit T.no_arms = Unit {0}
      ArmsSit (T.and_arm cases is_default all more) = CasesSit cases × StatementsSit all × ArmsSit more
