-- Which rule is broken where, in an initializer, a declaration of a block, or a statement (C99 6.7.8, 6.8): what stands before is well typed in
-- the scope that the tree gives it, and the rule there is false.
use Rattle.std.specs.Prelude.{◌≡◌, ◌≢◌, ℕ, ◌+◌, ◌≤◌, Bool, true, false, ◌||◌, List, [], ◌∷◌, ◌++◌, map, Option, Some, None, slice_get, ◌⊎◌}
use Rattle.lay_base.specs.declared.faults.Rule.TheVariants as R
use Rattle.c_types.specs.declared.ty.IntKind.{IntKind}
use Rattle.c_types.specs.Types.{CType, void, integer, array, structure, Field, Record}
use Rattle.c_types.specs.Objects.{is_object}
use Rattle.c_ast.specs.declared.words.Spelling.{Spelling}
use Rattle.c_ast.specs.Trees
use Rattle.c_ast.specs.Places.{first, first_specifiers}
use Rattle.c_typed.specs.Trees as Typed
use Rattle.c_typed.specs.Conversions.{as_kind, is_integer, is_scalar, is_array, is_function, is_record}
use Rattle.c_typed.specs.Fits.{assigns}
use Rattle.c_typed.specs.Rules.{promoting}
use Rattle.c_typed.specs.Mapped.{of_types, mapped_initializer}
use Rattle.c_typed.specs.TypedStatements.{IsTypedInitializer}
use Rattle.c_erasure.specs.Noted.{Noted, type_of}
use Rattle.c_erasure.specs.Scopes.{Scope, inside, ended, declared, for_value}
use Rattle.c_erasure.specs.Specifiers.{storage_of, Storage, a_typedef, is_extern, is_static, several}
use Rattle.c_erasure.specs.Declarators.{declared_name, Shape, closed, open_array}
use Rattle.c_erasure.specs.Erasure.{IsBase, IsConstant, Erases, IsOne, Declares}
use Rattle.c_erasure.specs.Initializers.{texts_of, is_character, IsTextOf, length_of, count_of, Part, Initializes, IsInitializer, AreConstants}
use Rattle.c_erasure.specs.Statements.{Statements, IsSized, with_variable, with_object, DeclareAll, IsStart, ErasesItem, ErasesSwitchItem}
use Rattle.c_erasure.specs.Broken.{Fault, ill_typed, misplaced, One, AThing, IsNoRecord, null, HasNoValue, IsNoConstant, IsOldName, AreNoType, IsBroken}
use Rattle.c_erasure.specs.Broken.{AreBroken}
use Rattle.c_erasure.specs.Broken.{IsTooBig, IsBrokenDeclarator}

-- ---- initializers

-- an array that is no text of characters, and has no braces; or a text that is too long
abbrev pub IsNoArray : Option (List Spelling) → CType → Type 0
IsNoArray None t = is_array t ≡ true
IsNoArray (Some all) t = (is_array t ≡ true) × ((bytes : List ℕ) → IsTextOf t all bytes → ⊥)

abbrev pub is_text : CType → Option (List Spelling) → Bool
is_text (array u n) (Some all) = is_character u
is_text t o = false

-- a value that cannot be assigned to the type, or no record of the type
abbrev pub IsUnfit : Trees.Expression → Scope → CType → Fault → Type 0
IsUnfit a s t f = ((is_scalar t ≡ true) × (HasNoValue a s f ⊎ ((f ≡ ill_typed R.Assign (first a)) × One a s (λ x. assigns (type_of x) (null x) t ≡ false))))
    ⊎ ((is_record t ≡ true) × AThing a s (λ th. IsNoRecord th t × (f ≡ misplaced th R.Assign (first a) (first a))))

abbrev mutual
  pub IsBrokenInitializer : Trees.Expression → Scope → CType → Fault → Type 0
  IsBrokenInitializer (Trees.braces left all last right) s t f =
      ((is_scalar t ≡ true) × (f ≡ ill_typed R.Init left) × (count_of all ≢ 1))
      ⊎ ((is_scalar t ≡ true) × IsBrokenOnly all s t f)
      ⊎ ((is_text t (texts_of (Trees.braces left all last right)) ≡ true) × (f ≡ ill_typed R.Init left)
      × IsNoArray (texts_of (Trees.braces left all last right)) t)
      ⊎ ((u : CType) × (n : ℕ) × (t ≡ array u n) × (is_text t (texts_of (Trees.braces left all last right)) ≡ false) × AreBrokenElements all s u n f)
      ⊎ ((r : ℕ) × (rec : Record) × (t ≡ structure r) × (slice_get s.file.records r ≡ Some rec) × AreBrokenFields all s rec.fields f)
  IsBrokenInitializer a s t f =
      ((is_array t ≡ true) × (f ≡ ill_typed R.Init (first a)) × IsNoArray (texts_of a) t)
      ⊎ ((is_array t ≡ false) × (IsBroken a s f ⊎ IsUnfit a s t f))

  -- one expression alone
  pub IsBrokenOnly : Trees.Arguments → Scope → CType → Fault → Type 0
  IsBrokenOnly (Trees.and_argument comma (Trees.braces left all last right) Trees.no_arguments) s t f = f ≡ ill_typed R.Init left
  IsBrokenOnly (Trees.and_argument comma a Trees.no_arguments) s t f = IsBroken a s f ⊎ IsUnfit a s t f
  IsBrokenOnly all s t f = ⊥

  pub AreBrokenElements : Trees.Arguments → Scope → CType → ℕ → Fault → Type 0
  AreBrokenElements Trees.no_arguments s u n f = ⊥
  AreBrokenElements (Trees.and_argument comma a more) s u n f = ((n ≡ 0) × (f ≡ ill_typed R.Init (first a)))
      ⊎ ((left : ℕ) × (n ≡ left + 1) × (IsBrokenInitializer a s u f
      ⊎ ((own : List Part) × Initializes a s u 0 own × AreBrokenElements more s u left f)))

  pub AreBrokenFields : Trees.Arguments → Scope → List Field → Fault → Type 0
  AreBrokenFields Trees.no_arguments s fields f = ⊥
  AreBrokenFields (Trees.and_argument comma a more) s fields f = ((fields ≡ []) × (f ≡ ill_typed R.Init (first a)))
      ⊎ ((field : Field) × (later : List Field) × (fields ≡ field ∷ later) × (IsBrokenInitializer a s field.ty f
      ⊎ ((own : List Part) × Initializes a s field.ty 0 own × AreBrokenFields more s later f)))

abbrev pub IsBrokenInitial : Option (ℕ × Trees.Expression) → Scope → CType → Fault → Type 0
IsBrokenInitial None s t f = ⊥
IsBrokenInitial (Some value) s t f = IsBrokenInitializer value.1 s t f

-- an object that is made before the program starts has an initializer of constants
abbrev pub HasNoConstants : Option (ℕ × Trees.Expression) → Scope → CType → Fault → Type 0
HasNoConstants None s t f = ⊥
HasNoConstants (Some value) s t f = (i : Typed.Initializer Noted) × IsInitializer value.1 s t i
    × IsTypedInitializer (declared s) t (mapped_initializer (of_types (λ t. t.ty)) i) × (AreConstants (declared s) i → ⊥)
    × (f ≡ ill_typed R.Init (first value.1))

-- ---- declarations in a block

-- a block declares no type, no function, and nothing of other files (own)
abbrev pub IsForbidden : Storage → Type 0
IsForbidden a_typedef = Unit {0}
IsForbidden is_extern = Unit {0}
IsForbidden words = ⊥

-- an array whose length is left to an initializer that is not there, has no elements, or has too many for a type
abbrev pub IsEndless : Scope → Shape → Option (ℕ × Trees.Expression) → ℕ → Fault → Type 0
IsEndless s (open_array u) None at f = f ≡ ill_typed R.Length at
IsEndless s (open_array u) (Some value) at f = ((length_of u (texts_of value.1) value.1 ≡ 0) × (f ≡ ill_typed R.Init (first value.1)))
    ⊎ IsTooBig s (array u (length_of u (texts_of value.1) value.1)) (first value.1) f
IsEndless s (closed t) value at f = ⊥

-- the scope after a local, which is an object of the file where it is `static`
abbrev pub with_declared : Scope → (static : Bool) → Spelling → ℕ → CType → Scope
with_declared s true x n t = with_object s x n t
with_declared s false x n t = with_variable s x n t

-- it is there: a local of the function, or an object of the file where it is `static`
abbrev pub IsThere : Scope → (static : Bool) → Spelling → ℕ → CType → Type 0
IsThere s true x n t = slice_get (map (λ o. o.ty) s.file.objects) n ≡ Some t
IsThere s false x n t = slice_get s.locals n ≡ Some (record { name = x.text; ty = t })

abbrev pub IsBrokenLocal : Scope → (static : Bool) → CType → Trees.InitDeclarator → Fault → Type 0
IsBrokenLocal s static base d f = IsBrokenDeclarator d.declarator s base f ⊎ IsOldName s (declared_name d.declarator) f
    ⊎ ((x : Spelling) × (shape : Shape) × (declared_name d.declarator ≡ Some x) × Declares s d.declarator base shape
    × (IsEndless s shape d.value x.from f
    ⊎ ((t : CType) × (shape ≡ closed t) × (is_function t ≡ true) × (f ≡ ill_typed R.Scope x.from))
    ⊎ ((t : CType) × IsSized s shape d.value t × (is_function t ≡ false) × (is_object (ended s.file.ends x.from) t ≡ false)
    × (f ≡ ill_typed R.Incomplete x.from))
    ⊎ ((t : CType) × (n : ℕ) × IsSized s shape d.value t × IsThere s static x n t × IsBrokenInitial d.value (with_declared s static x n t) t f)
    ⊎ ((t : CType) × (n : ℕ) × (static ≡ true) × IsSized s shape d.value t × IsThere s true x n t × HasNoConstants d.value (with_object s x n t) t f)))

-- what stands before is declared, and then the scope is another
abbrev pub AreBrokenLocals : List Trees.InitDeclarator → Scope → (static : Bool) → CType → Fault → Type 0
AreBrokenLocals [] s static base f = ⊥
AreBrokenLocals (d ∷ more) s static base f = IsBrokenLocal s static base d f
    ⊎ ((all : Statements) × (after : Scope) × DeclareAll (d ∷ []) s static base all after × AreBrokenLocals more after static base f)

abbrev pub is_static_storage : Storage → Bool
is_static_storage is_static = true
is_static_storage words = false

abbrev pub IsBrokenDeclaration : Trees.Declaration → Scope → Fault → Type 0
IsBrokenDeclaration d s f = ((f ≡ ill_typed R.Scope (first_specifiers d.specs)) × IsForbidden (storage_of d.specs))
    ⊎ ((f ≡ ill_typed R.Specifiers (first_specifiers d.specs)) × (storage_of d.specs ≡ several))
    ⊎ ((f ≡ ill_typed R.Specifiers (first_specifiers d.specs)) × (AreNoType d.specs ⊎ (d.all ≡ [])))
    ⊎ AreBroken d.specs s f
    ⊎ ((base : CType) × IsBase (IsOne s d.specs) d.specs base × AreBrokenLocals d.all s (is_static_storage (storage_of d.specs)) base f)

-- ---- parts of statements

abbrev pub IsBrokenIfAny : Option Trees.Expression → Scope → Fault → Type 0
IsBrokenIfAny None s f = ⊥
IsBrokenIfAny (Some a) s f = IsBroken a s f ⊎ HasNoValue a s f

-- a controlling expression that is no scalar (6.8.4.1, 6.8.5)
abbrev pub IsNoCondition : Trees.Expression → Scope → Fault → Type 0
IsNoCondition a s f = IsBroken a s f ⊎ HasNoValue a s f ⊎ ((f ≡ ill_typed R.Condition (first a)) × One a s (λ x. is_scalar (type_of x) ≡ false))

abbrev pub IsNoTest : Option Trees.Expression → Scope → Fault → Type 0
IsNoTest None s f = ⊥
IsNoTest (Some a) s f = IsNoCondition a s f

abbrev pub IsBrokenStart : Trees.ForStart → Scope → Fault → Type 0
IsBrokenStart (Trees.starts_with a semicolon) s f = IsBrokenIfAny a s f
IsBrokenStart (Trees.declares d) s f = IsBrokenDeclaration d s f ⊎ ((f ≡ ill_typed R.Specifiers (first_specifiers d.specs)) × (storage_of d.specs ≡ is_static))

abbrev pub IsBrokenReturn : Option Trees.Expression → ℕ → Scope → (result : CType) → Fault → Type 0
IsBrokenReturn None at s result f = (f ≡ ill_typed R.Return at) × (result ≢ void)
IsBrokenReturn (Some a) at s result f = IsBroken a s f ⊎ HasNoValue a s f ⊎ ((f ≡ ill_typed R.Return at) × (result ≡ void))
    ⊎ ((f ≡ ill_typed R.Return at) × (result ≢ void) × One a s (λ x. assigns (type_of x) (null x) result ≡ false))

-- ---- labels of a switch (6.8.4.2): the values, and the places of `default`, that stand before

pub record Labels : Type 0 where
  pub cases : List ℕ
  pub defaults : ℕ

abbrev pub no_labels : Labels
no_labels = record { cases = []; defaults = 0 }

abbrev pub IsAmong : List ℕ → ℕ → Type 0
IsAmong [] v = ⊥
IsAmong (w ∷ more) v = (v ≡ w) ⊎ IsAmong more v

abbrev pub AreBrokenLabels : List Trees.Label → Scope → IntKind → Labels → Fault → Type 0
AreBrokenLabels [] s kind before f = ⊥
AreBrokenLabels (Trees.case at a colon ∷ more) s kind before f = IsBroken a (for_value s) f ⊎ HasNoValue a (for_value s) f
    ⊎ IsNoConstant a s f
    ⊎ ((k : IntKind) × (v : ℕ) × IsConstant (Erases a) s k v
    × (((f ≡ ill_typed R.Label at) × IsAmong before.cases (as_kind kind v))
    ⊎ AreBrokenLabels more s kind (record before { cases = as_kind kind v ∷ before.cases }) f))
AreBrokenLabels (Trees.default at colon ∷ more) s kind before f = ((f ≡ ill_typed R.Label at) × (1 ≤ before.defaults))
    ⊎ AreBrokenLabels more s kind (record before { defaults = before.defaults + 1 }) f

-- ---- statements: `result` is that of the function; `loop` and `switch` tell what stands around

module _ (result : CType) where
  abbrev mutual
    pub IsBrokenStatement : Trees.Statement → Scope → (loop switch : Bool) → Fault → Type 0
    IsBrokenStatement (Trees.block left items right) s loop switch f = AreBrokenItems items (inside s) loop switch f
    IsBrokenStatement (Trees.evaluate a semicolon) s loop switch f = IsBrokenIfAny a s f
    IsBrokenStatement (Trees.when at left a right one) s loop switch f = IsNoCondition a s f ⊎ IsBrokenStatement one s loop switch f
    IsBrokenStatement (Trees.choose at left a right one else other) s loop switch f = IsNoCondition a s f ⊎ IsBrokenStatement one s loop switch f
        ⊎ IsBrokenStatement other s loop switch f
    IsBrokenStatement (Trees.while at left a right body) s loop switch f = IsNoCondition a s f ⊎ IsBrokenStatement body s true switch f
    IsBrokenStatement (Trees.do_while at body while left a right semicolon) s loop switch f = IsBrokenStatement body s true switch f ⊎ IsNoCondition a s f
    IsBrokenStatement (Trees.for at left start test semicolon step right body) s loop switch f = IsBrokenStart start (inside s) f
        ⊎ ((all : Statements) × (after : Scope) × IsStart start (inside s) all after
        × (IsNoTest test after f ⊎ IsBrokenIfAny step after f ⊎ IsBrokenStatement body after true switch f))
    IsBrokenStatement (Trees.switch at left a right begin items end) s loop switch f = IsBroken a s f ⊎ HasNoValue a s f
        ⊎ ((f ≡ ill_typed R.Condition (first a)) × One a s (λ x. is_integer (type_of x) ≡ false))
        ⊎ ((kind : IntKind) × One a s (λ x. promoting (type_of x) ≡ Some (integer kind)) × AreBrokenSwitchItems items (inside s) loop kind no_labels f)
    IsBrokenStatement (Trees.break at semicolon) s loop switch f = (f ≡ ill_typed R.Jump at) × ((loop || switch) ≡ false)
    IsBrokenStatement (Trees.continue at semicolon) s loop switch f = (f ≡ ill_typed R.Jump at) × (loop ≡ false)
    IsBrokenStatement (Trees.return at a semicolon) s loop switch f = IsBrokenReturn a at s result f

    pub IsBrokenItem : Trees.BlockItem → Scope → (loop switch : Bool) → Fault → Type 0
    IsBrokenItem (Trees.local d) s loop switch f = IsBrokenDeclaration d s f
    IsBrokenItem (Trees.statement a) s loop switch f = IsBrokenStatement a s loop switch f

    pub AreBrokenItems : Trees.BlockItems → Scope → (loop switch : Bool) → Fault → Type 0
    AreBrokenItems Trees.no_block_items s loop switch f = ⊥
    AreBrokenItems (Trees.and_block_item e more) s loop switch f = IsBrokenItem e s loop switch f
        ⊎ ((own : Statements) × (after : Scope) × ErasesItem e s own after × AreBrokenItems more after loop switch f)

    pub IsBrokenSwitchItem : Trees.SwitchItem → Scope → (loop : Bool) → IntKind → Labels → Fault → Type 0
    IsBrokenSwitchItem (Trees.local_switch_item d) s loop kind before f = IsBrokenDeclaration d s f
    IsBrokenSwitchItem (Trees.labelled labels a) s loop kind before f = AreBrokenLabels labels s kind before f ⊎ IsBrokenStatement a s loop true f

    pub AreBrokenSwitchItems : Trees.SwitchItems → Scope → (loop : Bool) → IntKind → Labels → Fault → Type 0
    AreBrokenSwitchItems Trees.no_switch_items s loop kind before f = ⊥
    AreBrokenSwitchItems (Trees.and_switch_item item more) s loop kind before f = IsBrokenSwitchItem item s loop kind before f
        ⊎ ((cases : List ℕ) × (defaults : ℕ) × (own : Statements) × (after : Scope) × ErasesSwitchItem item s kind cases defaults own after
        × AreBrokenSwitchItems more after loop kind (record { cases = cases ++ before.cases; defaults = defaults + before.defaults }) f)
