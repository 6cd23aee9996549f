-- Which typed statements are those of a statement (C99 6.8), and of a declaration in a block (6.7).
use Rattle.std.specs.Prelude.{◌≡◌, ◌≢◌, ℕ, zero, ◌+◌, ◌==◌, ◌≤◌, Bool, true, false, List, [], ◌∷◌, Option, Some, None, slice_get, ◌⊎◌}
use Rattle.c_types.specs.declared.ty.IntKind.{IntKind}
use Rattle.c_types.specs.Types.{CType, integer, array}
use Rattle.c_types.specs.Objects.{is_object}
use Rattle.c_ast.specs.declared.words.Spelling.{Spelling}
use Rattle.c_ast.specs.Trees
use Rattle.c_ast.specs.Places.{first_declarator}
use Rattle.c_typed.specs.declared.program.MentionKind.TheVariants.{Object}
use Rattle.c_typed.specs.Trees as Typed
use Rattle.c_typed.specs.Conversions.{as_kind}
use Rattle.c_typed.specs.TypedStatements.{declared_by, declared_by_arms}
use Rattle.c_erasure.specs.Noted.{Noted, Expression, type_of, unconverted}
use Rattle.c_erasure.specs.Scopes.{a_local, an_object, defines, Scope, inside, with_local, ended, declared, IsMentioned}
use Rattle.c_erasure.specs.Specifiers.{storage_of, no_storage, is_auto, is_register, is_static}
use Rattle.c_erasure.specs.Declarators.{declared_name, Shape, closed, open_array, IsSmall}
use Rattle.c_erasure.specs.Erasure.{place_in, IsNew, IsBase, IsConstant, Values, Erases, IsOne, Declares}
use Rattle.c_erasure.specs.Initializers.{texts_of, length_of, IsInitializer, AreConstants}

abbrev pub Statement : Type 0
Statement = Typed.Statement Noted

abbrev pub Statements : Type 0
Statements = Typed.Statements Noted

abbrev pub Arms : Type 0
Arms = Typed.Arms Noted

abbrev pub followed_by : Statements → Statements → Statements
followed_by Typed.no_statements rest = rest
followed_by (Typed.and_statement s more) rest = Typed.and_statement s (followed_by more rest)

-- ---- declarations in a block

-- the type of an object: an array whose length is left out has as many elements as its initializer (6.7.8)
abbrev pub IsSized : Scope → Shape → Option (ℕ × Trees.Expression) → CType → Type 0
IsSized s (closed u) value t = t ≡ u
IsSized s (open_array u) None t = ⊥
IsSized s (open_array u) (Some value) t = (t ≡ array u (length_of u (texts_of value.1) value.1)) × (1 ≤ length_of u (texts_of value.1) value.1)
    × IsSmall s.file.records t

abbrev pub HasInitializer : Scope → CType → Option (ℕ × Trees.Expression) → Option (Typed.Initializer Noted) → Type 0
HasInitializer s t None initial = initial ≡ None
HasInitializer s t (Some value) initial = (i : Typed.Initializer Noted) × (initial ≡ Some i) × IsInitializer value.1 s t i

-- an object that is made before the program starts is zero where it has no initializer
abbrev pub HasConstants : Scope → CType → Option (ℕ × Trees.Expression) → Typed.Initializer Noted → Type 0
HasConstants s t None initial = initial ≡ Typed.parts []
HasConstants s t (Some value) initial = IsInitializer value.1 s t initial × AreConstants (declared s) initial

-- the scope after a local: it begins at the end of the declarator, so the initializer is in it
abbrev pub with_object : Scope → Spelling → ℕ → CType → Scope
with_object s x n t = with_local s (record { name = x.text; place = x.from; from = x.to; how = defines; entity = an_object n t })

abbrev pub with_variable : Scope → Spelling → ℕ → CType → Scope
with_variable s x n t = with_local s (record { name = x.text; place = x.from; from = x.to; how = defines; entity = a_local n t })

-- the object that a `static` local is
abbrev pub IsStaticLocal : Scope → Trees.InitDeclarator → Spelling → CType → ℕ → Type 0
IsStaticLocal s d x t n = (initial : Typed.Initializer Noted) × HasConstants (with_object s x n t) t d.value initial
    × (slice_get s.file.objects n ≡ Some (record {
      name = x.text;
      place = place_in s (first_declarator d.declarator x.from);
      first = first_declarator d.declarator x.from;
      ty = t;
      is_linked = false;
      literal = None;
      initial = Some initial;
    }))

-- a name of a complete object type, which the block has not declared yet
abbrev pub IsVariable : Scope → CType → Trees.InitDeclarator → Spelling → CType → Type 0
IsVariable s base d x t = (shape : Shape) × (declared_name d.declarator ≡ Some x) × Declares s d.declarator base shape × IsSized s shape d.value t
    × (is_object (ended s.file.ends x.from) t ≡ true) × IsNew s (Some x) × IsMentioned s Object t (first_declarator d.declarator x.from)

-- the statements of the declarators of a declaration, and the scope after them
abbrev pub DeclareAll : List Trees.InitDeclarator → Scope → (static : Bool) → CType → Statements → Scope → Type 0
DeclareAll [] s static base all after = (all ≡ Typed.no_statements) × (after ≡ s)
DeclareAll (d ∷ more) s true base all after = (x : Spelling) × (t : CType) × (n : ℕ) × IsVariable s base d x t × IsStaticLocal s d x t n
    × DeclareAll more (with_object s x n t) true base all after
DeclareAll (d ∷ more) s false base all after = (x : Spelling) × (t : CType) × (n : ℕ) × (initial : Option (Typed.Initializer Noted)) × (rest : Statements)
    × IsVariable s base d x t × (slice_get s.locals n ≡ Some (record { name = x.text; ty = t })) × (all ≡ Typed.and_statement (Typed.declare n initial) rest)
    × HasInitializer (with_variable s x n t) t d.value initial × DeclareAll more (with_variable s x n t) false base rest after

-- a declaration in a block declares objects (own: no type, no function, and nothing of other files)
abbrev pub IsLocalDeclaration : Trees.Declaration → Scope → Statements → Scope → Type 0
IsLocalDeclaration d s all after = (base : CType) × IsBase (IsOne s d.specs) d.specs base × (d.all ≢ [])
    × (((storage_of d.specs ≡ is_static) × DeclareAll d.all s true base all after)
    ⊎ (((storage_of d.specs ≡ no_storage) ⊎ (storage_of d.specs ≡ is_auto) ⊎ (storage_of d.specs ≡ is_register)) × DeclareAll d.all s false base all after))

-- ---- parts of statements

-- an expression whose value is tested or dropped: it is converted to nothing
abbrev pub IsPlain : Trees.Expression → Scope → Expression → Type 0
IsPlain a s x = Values (Erases a s) x × (unconverted x ≡ x)

abbrev pub IsPlainIfAny : Option Trees.Expression → Scope → Option Expression → Type 0
IsPlainIfAny None s x = x ≡ None
IsPlainIfAny (Some a) s x = (e : Expression) × (x ≡ Some e) × IsPlain a s e

-- what stands first in a `for`, and the scope after it; no object that outlives it is declared there (6.8.5)
abbrev pub IsStart : Trees.ForStart → Scope → Statements → Scope → Type 0
IsStart (Trees.starts_with None semicolon) s all after = (all ≡ Typed.no_statements) × (after ≡ s)
IsStart (Trees.starts_with (Some a) semicolon) s all after = (x : Expression) × (all ≡ Typed.and_statement (Typed.evaluate x) Typed.no_statements)
    × IsPlain a s x × (after ≡ s)
IsStart (Trees.declares d) s all after = IsLocalDeclaration d s all after × (storage_of d.specs ≢ is_static)

-- the values of `case` labels, converted to the type of the controlling expression (6.8.4.2), and whether `default` is among the labels
abbrev pub AreLabels : List Trees.Label → Scope → IntKind → List ℕ → ℕ → Type 0
AreLabels [] s kind cases defaults = (cases ≡ []) × (defaults ≡ 0)
AreLabels (Trees.case at a colon ∷ more) s kind cases defaults = (k : IntKind) × (v : ℕ) × (rest : List ℕ) × IsConstant (Erases a) s k v
    × (cases ≡ as_kind kind v ∷ rest) × AreLabels more s kind rest defaults
AreLabels (Trees.default at colon ∷ more) s kind cases defaults = (n : ℕ) × (defaults ≡ n + 1) × AreLabels more s kind cases n

-- the statements before the first label stand in an arm without labels
abbrev pub with_first : Statements → Arms → Arms
with_first Typed.no_statements arms = arms
with_first all arms = Typed.and_arm [] false all arms

-- what has labels begins an arm
abbrev pub IsArranged : List ℕ → ℕ → Statements → Arms → Statements → Arms → Type 0
IsArranged [] zero own later all arms = (all ≡ own) × (arms ≡ later)
IsArranged cases defaults own later all arms = (all ≡ Typed.no_statements) × (defaults ≤ 1)
    × (arms ≡ Typed.and_arm cases (defaults == 1) own later)

-- ---- the rules

abbrev mutual
  pub ErasesStatement : Trees.Statement → Scope → Statement → Type 0
  ErasesStatement (Trees.block left items right) s st = (all : Statements) × (st ≡ Typed.block (declared_by all) all) × EraseItems items (inside s) all
  ErasesStatement (Trees.evaluate None semicolon) s st = st ≡ Typed.block [] Typed.no_statements
  ErasesStatement (Trees.evaluate (Some a) semicolon) s st = (x : Expression) × (st ≡ Typed.evaluate x) × IsPlain a s x
  ErasesStatement (Trees.when at left a right one) s st = (x : Expression) × (b : Statement) × (st ≡ Typed.when x b) × IsPlain a s x
      × ErasesStatement one s b
  ErasesStatement (Trees.choose at left a right one else other) s st = (x : Expression) × (b c : Statement) × (st ≡ Typed.when_else x b c) × IsPlain a s x
      × ErasesStatement one s b × ErasesStatement other s c
  ErasesStatement (Trees.while at left a right body) s st = (x : Expression) × (b : Statement) × (st ≡ Typed.while x b) × IsPlain a s x
      × ErasesStatement body s b
  ErasesStatement (Trees.do_while at body while left a right semicolon) s st = (b : Statement) × (x : Expression) × (st ≡ Typed.do_while b x)
      × ErasesStatement body s b × IsPlain a s x
  ErasesStatement (Trees.for at left start test semicolon step right body) s st = (all : Statements) × (after : Scope) × (t e : Option Expression)
      × (b : Statement) × (st ≡ Typed.for (declared_by all) all t e b) × IsStart start (inside s) all after × IsPlainIfAny test after t
      × IsPlainIfAny step after e × ErasesStatement body after b
  ErasesStatement (Trees.switch at left a right begin items end) s st = (x : Expression) × (kind : IntKind) × (all : Statements) × (arms : Arms)
      × (st ≡ Typed.switch x (declared_by_arms (with_first all arms)) (with_first all arms)) × Values (Erases a s) x × (type_of x ≡ integer kind)
      × EraseSwitchItems items (inside s) kind all arms
  ErasesStatement (Trees.break at semicolon) s st = st ≡ Typed.break
  ErasesStatement (Trees.continue at semicolon) s st = st ≡ Typed.continue
  ErasesStatement (Trees.return at None semicolon) s st = st ≡ Typed.return None
  ErasesStatement (Trees.return at (Some a) semicolon) s st = (x : Expression) × (st ≡ Typed.return (Some x)) × Values (Erases a s) x

  -- an item of a block: its statements, and the scope after it
  pub ErasesItem : Trees.BlockItem → Scope → Statements → Scope → Type 0
  ErasesItem (Trees.local d) s all after = IsLocalDeclaration d s all after
  ErasesItem (Trees.statement a) s all after = (st : Statement) × (all ≡ Typed.and_statement st Typed.no_statements) × ErasesStatement a s st × (after ≡ s)

  pub EraseItems : Trees.BlockItems → Scope → Statements → Type 0
  EraseItems Trees.no_block_items s all = all ≡ Typed.no_statements
  EraseItems (Trees.and_block_item e more) s all = (own rest : Statements) × (after : Scope) × (all ≡ followed_by own rest) × ErasesItem e s own after
      × EraseItems more after rest

  -- an item of a switch: the labels before it, its statements, and the scope after it
  pub ErasesSwitchItem : Trees.SwitchItem → Scope → IntKind → List ℕ → ℕ → Statements → Scope → Type 0
  ErasesSwitchItem (Trees.local_switch_item d) s kind cases defaults all after = (cases ≡ []) × (defaults ≡ 0) × IsLocalDeclaration d s all after
  ErasesSwitchItem (Trees.labelled labels a) s kind cases defaults all after = AreLabels labels s kind cases defaults
      × ((st : Statement) × (all ≡ Typed.and_statement st Typed.no_statements) × ErasesStatement a s st) × (after ≡ s)

  -- the statements up to the next label, and the arms from there on
  pub EraseSwitchItems : Trees.SwitchItems → Scope → IntKind → Statements → Arms → Type 0
  EraseSwitchItems Trees.no_switch_items s kind all arms = (all ≡ Typed.no_statements) × (arms ≡ Typed.no_arms)
  EraseSwitchItems (Trees.and_switch_item item more) s kind all arms = (cases : List ℕ) × (defaults : ℕ) × (own rest : Statements) × (later : Arms)
      × (after : Scope) × ErasesSwitchItem item s kind cases defaults own after × EraseSwitchItems more after kind rest later
      × IsArranged cases defaults (followed_by own rest) later all arms
