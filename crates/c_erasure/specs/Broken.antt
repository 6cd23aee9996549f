-- Which rule is broken where, in an expression, a type name, specifiers or a declarator: the parts of some node are well typed in the scope that
-- the tree gives it, and the rule of the node is false of them (C99 6.5, 6.7). Several rules may be broken in one tree.
use Rattle.std.specs.Prelude.{◌≡◌, ◌≢◌, ℕ, ◌+◌, ◌≤◌, ◌<◌, ◌%◌, ◌^◌, Bool, true, false, ◌&&◌, ◌||◌, if◌then◌else◌, List, [], ◌∷◌, ◌++◌, ℤ, pos, Option, Some}
use Rattle.std.specs.Prelude.{None}
use Rattle.std.specs.Prelude.{slice_get, ◌⊎◌}
use Rattle.std.specs.Str.{bytes_eq}
use Rattle.lay_base.specs.declared.faults.Rule.{Rule}
use Rattle.lay_base.specs.declared.faults.Rule.TheVariants as R
use Rattle.c_types.specs.declared.ty.IntKind.{IntKind}
use Rattle.c_types.specs.Types.{CType, CTypes, void, pointer, array, function, structure, no_types, and_type, Field, Record}
use Rattle.c_types.specs.Layouts.{size_of, size_of_record}
use Rattle.c_types.specs.Objects.{is_object, parts}
use Rattle.c_ast.specs.declared.words.Spelling.{Spelling}
use Rattle.c_ast.specs.declared.operators.UnaryOp.{UnaryOp}
use Rattle.c_ast.specs.declared.operators.UnaryOp.TheVariants as U
use Rattle.c_ast.specs.Trees
use Rattle.c_ast.specs.Places.{first, first_specifiers, first_declarator}
use Rattle.c_typed.specs.declared.operators.BinaryOp.{BinaryOp}
use Rattle.c_typed.specs.declared.operators.BinaryOp.TheVariants as B
use Rattle.c_typed.specs.Conversions.{is_integer, is_scalar, is_array, is_function, is_record, number_of}
use Rattle.c_typed.specs.Constants.{is_null, valued, constant_of}
use Rattle.c_typed.specs.Fits.{assigns, casts, library_type}
use Rattle.c_typed.specs.Rules.{on_numbers, comparing, choosing, moving, differing, updating, is_stepped, points_to_object}
use Rattle.c_typed.specs.Typed.{IsTyped}
use Rattle.c_erasure.specs.Noted.{Expression, Thing, an_object, a_value, a_function, a_function_at, a_library_function, type_of, type_of_path}
use Rattle.c_erasure.specs.Noted.{unconverted, is_copy}
use Rattle.c_erasure.specs.Scopes.{typedef, Bound, defines, enumerator, Tag, Scope, inside, for_value, measured, named, tag_at, ended, declared, here}
use Rattle.c_erasure.specs.Operators.{Kind, computes, compares, all_of, any_of, kind_of, update_of}
use Rattle.c_erasure.specs.Specifiers.{named_by, words_of, no_words, types_among, storage_of, no_storage, is_register}
use Rattle.c_erasure.specs.Declarators.{declared_name, is_name, Shape, closed, open_array, parameter_type, IsSmall}
use Rattle.c_erasure.specs.Erasure.{typed, IsTypedThing, IsOfType, Values, IsConstant, IsInt, IsBase, Erases, IsOne, IsTypeName, Declares}
use Rattle.c_erasure.specs.Erasure.{AreFields, AreMembers, AreParameters, tag_text, IsEnumeratorValue, with_parameter_if_named, IsBound, after_all, comma_or}

pub data Fault : Type 0 where
  ill_typed : (rule : Rule) → (at : ℕ) → Fault
  undeclared : (x : List ℕ) → (at : ℕ) → Fault
  redeclared : (x : List ℕ) → (at first : ℕ) → Fault
  too_big : (at : ℕ) → Fault

-- ---- well typed parts

abbrev pub IsThing : Trees.Expression → Scope → Thing → Type 0
IsThing a s th = Erases a s th × IsTypedThing s th

abbrev pub IsValue : Trees.Expression → Scope → Expression → Type 0
IsValue a s x = Values (Erases a s) x × IsTyped (declared s) (typed x) × (unconverted x ≡ x)

-- a record has no value, and a function of the library stands only where it is called (own)
abbrev pub IsValueless : Thing → Rule → Type 0
IsValueless (an_object p) rule = (rule ≡ R.ByValue) × (is_record (type_of_path p) ≡ true)
IsValueless (a_library_function at which) rule = rule ≡ R.Library
IsValueless th rule = ⊥

-- what breaks a rule at a place, as it is no object there; the value of an assignment of a record, which begins at `from`, stands nowhere (own)
abbrev pub misplaced : Thing → Rule → (at from : ℕ) → Fault
misplaced th rule at from = if is_copy th then ill_typed R.ByValue from else ill_typed rule at

abbrev pub HasNoValue : Trees.Expression → Scope → Fault → Type 0
HasNoValue a s f = (th : Thing) × (rule : Rule) × IsThing a s th × IsValueless th rule × (f ≡ ill_typed rule (first a))

-- of one value, or of two, the rule is false
abbrev pub One : Trees.Expression → Scope → (Expression → Type 0) → Type 0
One a s Is = (x : Expression) × IsValue a s x × Is x

abbrev pub Two : Trees.Expression → Trees.Expression → Scope → (Expression → Expression → Type 0) → Type 0
Two a b s Is = (x y : Expression) × IsValue a s x × IsValue b s y × Is x y

abbrev pub AThing : Trees.Expression → Scope → (Thing → Type 0) → Type 0
AThing a s Is = (th : Thing) × IsThing a s th × Is th

-- what stands to the left is well typed, so what it declares is known as the tree says
abbrev pub IsSound : Trees.Expression → Scope → Type 0
IsSound a s = (th : Thing) × IsThing a s th

abbrev pub NamesType : Trees.TypeName → Scope → Type 0
NamesType n s = (t : CType) × IsTypeName s n t

-- the lengths in a declarator are constants
abbrev pub HasLengths : Trees.Declarator → Scope → Type 0
HasLengths Trees.nothing s = Unit {0}
HasLengths (Trees.named x) s = Unit {0}
HasLengths (Trees.pointer at consts d) s = HasLengths d s
HasLengths (Trees.enclosed left d right) s = HasLengths d s
HasLengths (Trees.array d left Trees.no_expression right) s = HasLengths d s
HasLengths (Trees.array d left (Trees.some_expression a) right) s = HasLengths d s × ((kind : IntKind) × (v : ℕ) × IsConstant (Erases a) s kind v)
HasLengths (Trees.function d left all right) s = HasLengths d s

abbrev pub null : Expression → Bool
null x = is_null (typed x)

-- ---- the rules of operators, each false

abbrev pub IsNoSum : (count : ℕ) → BinaryOp → CType → CType → Type 0
IsNoSum count B.Add s t = (on_numbers B.Add s t ≡ None) × (moving count s t ≡ None) × (moving count t s ≡ None)
IsNoSum count B.Subtract s t = (on_numbers B.Subtract s t ≡ None) × (moving count s t ≡ None) × (differing count s t ≡ false)
IsNoSum count op s t = on_numbers op s t ≡ None

abbrev pub AreUnfit : (count : ℕ) → Kind → Expression → Expression → Type 0
AreUnfit count (computes op) x y = IsNoSum count op (type_of x) (type_of y)
AreUnfit count (compares op) x y = comparing op (type_of x) (null x) (type_of y) (null y) ≡ None
AreUnfit count all_of x y = (is_scalar (type_of x) && is_scalar (type_of y)) ≡ false
AreUnfit count any_of x y = (is_scalar (type_of x) && is_scalar (type_of y)) ≡ false

-- a pointer to an object and a number, in either order (6.5.2.1)
abbrev pub is_subscript : (count : ℕ) → CType → CType → Bool
is_subscript count s t = (points_to_object count s && is_integer t) || (is_integer s && points_to_object count t)

abbrev pub IsArrayObject : Thing → Type 0
IsArrayObject (an_object p) = is_array (type_of_path p) ≡ true
IsArrayObject th = ⊥

abbrev pub IsNoObject : Thing → Type 0
IsNoObject (an_object p) = ⊥
IsNoObject th = Unit {0}

-- what is assigned is a number, a pointer or a record (6.5.16)
abbrev pub IsNotAssigned : Thing → Type 0
IsNotAssigned (an_object p) = ((is_scalar (type_of_path p)) || is_record (type_of_path p)) ≡ false
IsNotAssigned th = Unit {0}

abbrev pub IsOfScalar : Thing → CType → Type 0
IsOfScalar (an_object p) t = (type_of_path p ≡ t) × (is_scalar t ≡ true)
IsOfScalar th t = ⊥

abbrev pub IsOfRecord : Thing → CType → Type 0
IsOfRecord (an_object p) t = (type_of_path p ≡ t) × (is_record t ≡ true)
IsOfRecord th t = ⊥

abbrev pub IsObjectOf : Thing → CType → Type 0
IsObjectOf (an_object p) t = type_of_path p ≡ t
IsObjectOf th t = ⊥

-- ---- members (6.5.2.3)

abbrev pub has_field : List Field → List ℕ → Bool
has_field [] x = false
has_field (f ∷ more) x = bytes_eq f.name x || has_field more x

abbrev pub IsMemberless : Scope → (at : ℕ) → CType → List ℕ → Rule → Type 0
IsMemberless s at (structure r) x rule = ((rule ≡ R.Incomplete) × (is_object (ended s.file.ends at) (structure r) ≡ false))
    ⊎ ((rec : Record) × (rule ≡ R.Member) × (is_object (ended s.file.ends at) (structure r) ≡ true) × (slice_get s.file.records r ≡ Some rec)
    × (has_field rec.fields x ≡ false))
IsMemberless s at t x rule = rule ≡ R.Member

abbrev pub NoMemberOf : Scope → (at : ℕ) → Thing → List ℕ → Rule → Type 0
NoMemberOf s at (an_object p) x rule = IsMemberless s at (type_of_path p) x rule
NoMemberOf s at th x rule = rule ≡ R.Member

abbrev pub NoMemberAt : Scope → (at : ℕ) → CType → List ℕ → Rule → Type 0
NoMemberAt s at (pointer t) x rule = IsMemberless s at t x rule
NoMemberAt s at t x rule = rule ≡ R.Member

-- ---- calls (6.5.2.2)

abbrev pub pointed_type : CType → Option CType
pointed_type (pointer t) = Some t
pointed_type t = None

abbrev pub called_type : Thing → Option CType
called_type (a_function at f t) = Some t
called_type (a_library_function at which) = Some (library_type which)
called_type (a_function_at e) = pointed_type (type_of e)
called_type (a_value e) = pointed_type (type_of e)
called_type (an_object p) = pointed_type (type_of_path p)

abbrev pub IsFunctionType : Option CType → CTypes → Type 0
IsFunctionType (Some (function t all)) parameters = all ≡ parameters
IsFunctionType o parameters = ⊥

abbrev pub IsNoFunction : Option CType → Type 0
IsNoFunction (Some (function t all)) = ⊥
IsNoFunction o = Unit {0}

-- an argument that does not fit its parameter, one too many, or one too few
abbrev pub AreUnfitArguments : Trees.Arguments → Scope → ℕ → CTypes → Fault → Type 0
AreUnfitArguments Trees.no_arguments s right no_types f = ⊥
AreUnfitArguments Trees.no_arguments s right (and_type t more) f = f ≡ ill_typed R.Arguments right
AreUnfitArguments (Trees.and_argument comma a rest) s right no_types f = f ≡ ill_typed R.Arguments (first a)
AreUnfitArguments (Trees.and_argument comma a rest) s right (and_type t more) f =
    ((f ≡ ill_typed R.Arguments (first a)) × One a s (λ x. assigns (type_of x) (null x) t ≡ false))
    ⊎ (IsSound a s × AreUnfitArguments rest s right more f)

-- ---- unary operators (6.5.3)

abbrev pub IsLibrary : Thing → Type 0
IsLibrary (a_library_function at which) = Unit {0}
IsLibrary th = ⊥

abbrev pub IsOnlyValue : Thing → Type 0
IsOnlyValue (a_value e) = Unit {0}
IsOnlyValue th = ⊥

-- an object of a type of which a pointer type passes the limit
abbrev pub IsOfGreatestType : Thing → Type 0
IsOfGreatestType (an_object p) = 1024 ≤ parts (type_of_path p)
IsOfGreatestType th = ⊥

-- what it points to is an object or a function
abbrev pub IsPointless : (count : ℕ) → CType → Rule → Type 0
IsPointless count (pointer t) rule = (rule ≡ R.Incomplete) × ((is_object count t || is_function t) ≡ false)
IsPointless count t rule = rule ≡ R.Operands

abbrev pub IsBrokenUnary : UnaryOp → ℕ → Trees.Expression → Scope → Fault → Type 0
IsBrokenUnary U.Address at a s f = ((f ≡ too_big at) × AThing a s IsOfGreatestType) ⊎ AThing a s (λ th. IsOnlyValue th × (f ≡ misplaced th R.Lvalue at (first a)))
    ⊎ ((f ≡ ill_typed R.Library (first a)) × AThing a s IsLibrary)
IsBrokenUnary U.Deref at a s f = HasNoValue a s f
    ⊎ ((rule : Rule) × (f ≡ ill_typed rule at) × One a s (λ x. IsPointless (ended s.file.ends at) (type_of x) rule))
IsBrokenUnary U.Not at a s f = HasNoValue a s f ⊎ ((f ≡ ill_typed R.Operands at) × One a s (λ x. is_scalar (type_of x) ≡ false))
IsBrokenUnary op at a s f = HasNoValue a s f ⊎ ((f ≡ ill_typed R.Operands at) × One a s (λ x. is_integer (type_of x) ≡ false))

-- an operand of `sizeof` that is a function, or of an incomplete type
abbrev pub IsSizeless : (count : ℕ) → Thing → Type 0
IsSizeless count (an_object p) = is_object count (type_of_path p) ≡ false
IsSizeless count (a_value e) = is_object count (type_of e) ≡ false
IsSizeless count th = Unit {0}

abbrev pub IsUnmeasured : Trees.Expression → Scope → ℕ → Fault → Type 0
IsUnmeasured a s at f = AThing a (measured s) (λ th. IsSizeless (ended s.file.ends at) th × (f ≡ misplaced th R.Incomplete at (first a)))

-- a size over the limit of types
abbrev pub IsGreat : Scope → CType → Type 0
IsGreat s t = 16777216 < size_of s.file.records t

abbrev pub IsOfGreatSize : Scope → Thing → Type 0
IsOfGreatSize s th = (t : CType) × IsOfType th t × IsGreat s t

-- ---- assignments (6.5.16): of a number or a pointer, of a record, and with an operator

abbrev pub IsNoRecord : Thing → CType → Type 0
IsNoRecord (an_object p) t = type_of_path p ≢ t
IsNoRecord th t = Unit {0}

abbrev pub IsBrokenAssignment : Option BinaryOp → Trees.Expression → ℕ → Trees.Expression → Scope → Fault → Type 0
IsBrokenAssignment None a at b s f = ((t : CType) × AThing a s (λ th. IsOfScalar th t)
    × (HasNoValue b s f ⊎ ((f ≡ ill_typed R.Assign at) × One b s (λ x. assigns (type_of x) (null x) t ≡ false))))
    ⊎ ((t : CType) × AThing a s (λ th. IsOfRecord th t) × AThing b s (λ th. IsNoRecord th t × (f ≡ misplaced th R.Assign at (first b))))
IsBrokenAssignment (Some op) a at b s f = (IsSound a s × HasNoValue b s f) ⊎ ((t : CType) × (f ≡ ill_typed R.Operands at) × AThing a s (λ th. IsObjectOf th t)
    × One b s (λ x. updating (ended s.file.ends (first a)) op t (type_of x) ≡ None))

-- ---- constants (6.6): an expression that is none, or has no value

abbrev pub IsNoConstant : Trees.Expression → Scope → Fault → Type 0
IsNoConstant a s f = (f ≡ ill_typed R.Constant (first a))
    × One a (for_value s) (λ x. (is_integer (type_of x) ≡ false) ⊎ ((v : ℕ) → constant_of (typed x) ≢ valued v))

abbrev pub IsConstantBut : Trees.Expression → Scope → (ℤ → Type 0) → Type 0
IsConstantBut a s Is = (kind : IntKind) × (v : ℕ) × IsConstant (Erases a) s kind v × Is (number_of kind v)

abbrev pub IsNoLength : ℤ → Type 0
IsNoLength z = (n : ℕ) → 1 ≤ n → z ≢ pos n

abbrev pub IsNoInt : ℤ → Type 0
IsNoInt z = IsInt z → ⊥

-- ---- names that are declared already

-- where a declaration of this name stands in the list whose scope began before a byte
abbrev pub IsDeclaredBefore : List Bound → List ℕ → (before : ℕ) → ℕ → Type 0
IsDeclaredBefore all x before at = (k : ℕ) × (b : Bound) × (slice_get all k ≡ Some b) × (b.name ≡ x) × (b.from < before) × (b.place ≡ at)

abbrev pub IsOldName : Scope → Option Spelling → Fault → Type 0
IsOldName s None f = ⊥
IsOldName s (Some x) f = (b : Bound) × (here s x.text ≡ Some b) × (f ≡ redeclared x.text x.from b.place)

-- a tag of the other sort
abbrev pub IsOtherTag : Scope → Spelling → (is_enumeration : Bool) → Fault → Type 0
IsOtherTag s x is_enumeration f = (k : ℕ) × (t : Tag) × (slice_get s.file.tags k ≡ Some t) × (t.name ≡ x.text) × (t.is_enumeration ≡ is_enumeration)
    × (t.from < x.from) × (f ≡ redeclared x.text x.from t.place)

-- a tag that stands elsewhere in the file before the enumeration with that tag ends
abbrev pub IsTagElsewhere : Scope → Spelling → Fault → Type 0
IsTagElsewhere s x f = (k : ℕ) × (t : Tag) × (slice_get s.file.tags k ≡ Some t) × (t.name ≡ x.text) × (t.place ≢ x.from)
    × (f ≡ redeclared x.text x.from t.place)

-- a structure that another definition completes
abbrev pub tag_place : ℕ → Option Spelling → ℕ
tag_place at None = at
tag_place at (Some x) = x.from

abbrev pub IsDefinedBefore : Scope → (at : ℕ) → Option Spelling → (right : ℕ) → Fault → Type 0
IsDefinedBefore s at x right f = (k end : ℕ) × (r : Record) × (slice_get s.file.records k ≡ Some r) × (r.tag ≡ tag_text s at x)
    × (slice_get s.file.ends k ≡ Some end) × (end < right) × (f ≡ redeclared (tag_text s at x) (tag_place at x) r.place.at)

abbrev pub if_named : Option Spelling → List Spelling
if_named None = []
if_named (Some x) = x ∷ []

abbrev pub names_of_members : Trees.MemberDeclarators → List Spelling
names_of_members Trees.no_member_declarators = []
names_of_members (Trees.and_member_declarator comma d more) = if_named (declared_name d) ++ names_of_members more

abbrev pub member_names : Trees.MemberDeclarations → List Spelling
member_names Trees.no_member_declarations = []
member_names (Trees.and_member_declaration specs ds semicolon more) = names_of_members ds ++ member_names more

-- two of them are the same
abbrev pub IsRepeated : List Spelling → Fault → Type 0
IsRepeated all f = (j k : ℕ) × (x y : Spelling) × (j < k) × (slice_get all j ≡ Some x) × (slice_get all k ≡ Some y) × (x.text ≡ y.text)
    × (f ≡ redeclared y.text y.from x.from)

-- ---- types

abbrev pub IsOfLength : Trees.OptionalExpression → Scope → ℕ → Type 0
IsOfLength Trees.no_expression s n = ⊥
IsOfLength (Trees.some_expression a) s n = IsConstantBut a s (λ z. z ≡ pos n)

abbrev pub IsTooBig : Scope → CType → ℕ → Fault → Type 0
IsTooBig s t at f = (f ≡ too_big at) × (IsSmall s.file.records t → ⊥)

-- a result is a number, a pointer or nothing (own)
abbrev pub IsNoResult : CType → Type 0
IsNoResult t = ((is_scalar t ≡ false) × (t ≢ void))

-- a parameter that is a record is passed by value; any other one that is no scalar is incomplete
abbrev pub IsNoParameter : CType → Rule → Type 0
IsNoParameter (structure r) rule = rule ≡ R.ByValue
IsNoParameter t rule = (rule ≡ R.Incomplete) × (is_scalar t ≡ false)

-- the words name no type, or they stand beside another specifier, or there are two of those
abbrev pub AreNoType : Trees.Specifiers → Type 0
AreNoType specs = ((types_among specs ≡ []) × (named_by (words_of specs) ≡ None))
    ⊎ ((types_among specs ≢ []) × (words_of specs ≢ no_words))
    ⊎ ((a b : Trees.Specifier) × (more : List Trees.Specifier) × (types_among specs ≡ a ∷ b ∷ more))

-- ---- the rules

abbrev mutual
  pub IsBroken : Trees.Expression → Scope → Fault → Type 0
  -- a name of a type is no operand
  IsBroken (Trees.name x) s f = ((named s x.text x.from ≡ None) × (f ≡ undeclared x.text x.from))
      ⊎ ((t : CType) × (named s x.text x.from ≡ Some (typedef t)) × (f ≡ ill_typed R.Operands x.from))
  IsBroken (Trees.number x n kind) s f = ⊥
  IsBroken (Trees.character x n) s f = ⊥
  IsBroken (Trees.texts all) s f = ⊥
  IsBroken (Trees.paren left a right) s f = IsBroken a s f
  IsBroken (Trees.index a left b right) s f = IsBroken a s f ⊎ (IsSound a s × IsBroken b s f) ⊎ HasNoValue a s f ⊎ (IsSound a s × HasNoValue b s f)
      ⊎ ((f ≡ ill_typed R.Operands left) × (AThing a s IsArrayObject × One b s (λ y. is_integer (type_of y) ≡ false)))
      ⊎ ((f ≡ ill_typed R.Operands left) × Two a b s (λ x y. is_subscript (ended s.file.ends (first a)) (type_of x) (type_of y) ≡ false))
  IsBroken (Trees.call g left all right) s f = IsBroken g s f ⊎ (IsSound g s × IsBrokenIn all s f)
      ⊎ ((f ≡ ill_typed R.Callee (first g)) × AThing g s (λ th. IsNoFunction (called_type th)))
      ⊎ ((parameters : CTypes) × AThing g s (λ th. IsFunctionType (called_type th) parameters) × AreUnfitArguments all s right parameters f)
  IsBroken (Trees.dot a at x) s f = IsBroken a s f
      ⊎ ((rule : Rule) × AThing a s (λ th. NoMemberOf s at th x.text rule × (f ≡ misplaced th rule x.from (first a))))
  IsBroken (Trees.arrow a at x) s f = IsBroken a s f ⊎ HasNoValue a s f
      ⊎ ((rule : Rule) × One a s (λ e. NoMemberAt s (first a) (type_of e) x.text rule) × (f ≡ ill_typed rule x.from))
  IsBroken (Trees.post a op at) s f = IsBroken a s f ⊎ ((f ≡ ill_typed R.Lvalue (first a)) × AThing a s IsNoObject)
      ⊎ ((t : CType) × (f ≡ ill_typed R.Operands at) × AThing a s (λ th. IsObjectOf th t) × (is_stepped (ended s.file.ends (first a)) t ≡ false))
  IsBroken (Trees.pre op at a) s f = IsBroken a s f ⊎ ((f ≡ ill_typed R.Lvalue (first a)) × AThing a s IsNoObject)
      ⊎ ((t : CType) × (f ≡ ill_typed R.Operands at) × AThing a s (λ th. IsObjectOf th t) × (is_stepped (ended s.file.ends at) t ≡ false))
  IsBroken (Trees.unary op at a) s f = IsBroken a s f ⊎ IsBrokenUnary op at a s f
  IsBroken (Trees.sizeof_expression at a) s f = IsBroken a (measured s) f
      ⊎ IsUnmeasured a s at f ⊎ ((f ≡ too_big at) × AThing a (measured s) (IsOfGreatSize s))
  IsBroken (Trees.sizeof_type at left n right) s f = IsBrokenTypeName n s f
      ⊎ ((t : CType) × (f ≡ ill_typed R.Incomplete at) × IsTypeName s n t × (is_object (ended s.file.ends right) t ≡ false))
      ⊎ ((t : CType) × (f ≡ too_big at) × IsTypeName s n t × IsGreat s t)
  IsBroken (Trees.cast left n right a) s f = IsBrokenTypeName n s f ⊎ (NamesType n s × IsBroken a s f) ⊎ (NamesType n s × HasNoValue a s f)
      ⊎ ((t : CType) × (f ≡ ill_typed R.Cast left) × IsTypeName s n t × One a s (λ x. casts (type_of x) (null x) t ≡ false))
  IsBroken (Trees.binary a op at b) s f = IsBroken a s f ⊎ (IsSound a s × IsBroken b s f) ⊎ HasNoValue a s f ⊎ (IsSound a s × HasNoValue b s f)
      ⊎ ((f ≡ ill_typed R.Operands at) × Two a b s (AreUnfit (ended s.file.ends (first a)) (kind_of op)))
  IsBroken (Trees.cond a question b colon c) s f = IsBroken a s f ⊎ HasNoValue a s f
      ⊎ ((f ≡ ill_typed R.Operands question) × One a s (λ x. is_scalar (type_of x) ≡ false))
      ⊎ (IsSound a s × (IsBroken b s f ⊎ HasNoValue b s f))
      ⊎ (IsSound a s × IsSound b s × (IsBroken c s f ⊎ HasNoValue c s f))
      ⊎ ((f ≡ ill_typed R.Operands colon) × IsSound a s × Two b c s (λ y z. choosing (type_of y) (null y) (type_of z) (null z) ≡ None))
  IsBroken (Trees.assign a op at b) s f = IsBroken a s f ⊎ (IsSound a s × IsBroken b s f)
      ⊎ ((f ≡ ill_typed R.Lvalue (first a)) × AThing a s IsNotAssigned) ⊎ IsBrokenAssignment (update_of op) a at b s f
  IsBroken (Trees.comma a at b) s f = IsBroken a s f ⊎ (IsSound a s × IsBroken b s f) ⊎ HasNoValue a s f ⊎ (IsSound a s × HasNoValue b s f)
  IsBroken (Trees.braces left all comma right) s f = f ≡ ill_typed R.Init left

  pub IsBrokenIn : Trees.Arguments → Scope → Fault → Type 0
  IsBrokenIn Trees.no_arguments s f = ⊥
  IsBrokenIn (Trees.and_argument comma a more) s f = IsBroken a s f ⊎ HasNoValue a s f ⊎ (IsSound a s × IsBrokenIn more s f)

  -- ---- types

  pub IsBrokenTypeName : Trees.TypeName → Scope → Fault → Type 0
  IsBrokenTypeName (Trees.type_name specs d) s f = ((f ≡ ill_typed R.Specifiers (first_specifiers specs)) × (storage_of specs ≢ no_storage))
      ⊎ ((f ≡ ill_typed R.Specifiers (first_specifiers specs)) × AreNoType specs) ⊎ AreBroken specs s f
      ⊎ ((base : CType) × IsBase (IsOne s specs) specs base × IsBrokenDeclarator d s base f)
      ⊎ ((base u : CType) × IsBase (IsOne s specs) specs base × Declares s d base (open_array u)
      × (f ≡ ill_typed R.Length (first_declarator d (first_specifiers specs))))

  pub AreBroken : Trees.Specifiers → Scope → Fault → Type 0
  AreBroken Trees.no_specifiers s f = ⊥
  AreBroken (Trees.and_specifier specifier more) s f = IsBrokenSpecifier specifier s f ⊎ AreBroken more s f

  pub IsBrokenSpecifier : Trees.Specifier → Scope → Fault → Type 0
  IsBrokenSpecifier (Trees.plain word at) s f = ⊥
  IsBrokenSpecifier (Trees.typename x) s f = ((t : CType) → named s x.text x.from ≢ Some (typedef t)) × (f ≡ undeclared x.text x.from)
  IsBrokenSpecifier (Trees.struct_named at x) s f = IsOtherTag s x true f
      ⊎ ((f ≡ ill_typed R.Scope at) × (s.is_inside ≡ true) × (tag_at s.file.tags x.text x.from ≡ None))
  IsBrokenSpecifier (Trees.struct_body at x left all right) s f = ((f ≡ ill_typed R.Scope at) × (s.is_inside ≡ true))
      ⊎ AreBrokenMembers all s f ⊎ IsRepeated (member_names all) f ⊎ IsDefinedBefore s at x right f
      ⊎ ((y : Spelling) × (x ≡ Some y) × IsOtherTag s y true f)
      ⊎ ((fields : List Field) × AreFields s all fields × (f ≡ too_big at) × (16777216 < size_of_record s.file.records (record {
        tag = [];
        place = record { file = s.file.file; at = at };
        fields = fields;
      })))
  IsBrokenSpecifier (Trees.enum_named at x) s f = IsOtherTag s x false f
      ⊎ ((f ≡ undeclared x.text x.from) × (tag_at s.file.tags x.text x.from ≡ None))
  IsBrokenSpecifier (Trees.enum_body at x left all comma right) s f = ((f ≡ ill_typed R.Scope at) × (s.is_inside ≡ true))
      ⊎ AreBrokenEnumerators all s 0 (after_all comma right) f
      ⊎ ((y : Spelling) × (x ≡ Some y) × IsTagElsewhere s y f)

  -- those before are declared
  pub AreBrokenEnumerators : Trees.Enumerators → Scope → (next after : ℕ) → Fault → Type 0
  AreBrokenEnumerators Trees.no_enumerators s next after f = ⊥
  AreBrokenEnumerators (Trees.and_enumerator comma x value more) s next after f = IsBrokenValue value s f
      ⊎ ((f ≡ ill_typed R.Constant x.from) × (value ≡ Trees.no_value) × (next ≡ 2 ^ 31))
      ⊎ ((first : ℕ) × IsDeclaredBefore s.file.names x.text (comma_or more after) first × (f ≡ redeclared x.text x.from first))
      ⊎ ((v : ℕ) × IsEnumeratorValue s next value v
      × IsBound s (record { name = x.text; place = x.from; from = comma_or more after; how = defines; entity = enumerator v })
      × AreBrokenEnumerators more s ((v + 1) % 2 ^ 32) after f)

  pub IsBrokenValue : Trees.EnumeratorValue → Scope → Fault → Type 0
  IsBrokenValue Trees.no_value s f = ⊥
  IsBrokenValue (Trees.valued equal a) s f = IsBroken a (for_value s) f ⊎ HasNoValue a (for_value s) f ⊎ IsNoConstant a s f
      ⊎ ((f ≡ ill_typed R.Constant (first a)) × IsConstantBut a s IsNoInt)

  -- those before are as their rules say
  pub AreBrokenMembers : Trees.MemberDeclarations → Scope → Fault → Type 0
  AreBrokenMembers Trees.no_member_declarations s f = ⊥
  AreBrokenMembers (Trees.and_member_declaration specs ds semicolon more) s f =
      ((f ≡ ill_typed R.Specifiers (first_specifiers specs)) × (storage_of specs ≢ no_storage))
      ⊎ ((f ≡ ill_typed R.Specifiers (first_specifiers specs)) × AreNoType specs) ⊎ AreBroken specs s f
      ⊎ ((base : CType) × IsBase (IsOne s specs) specs base
      × (AreBrokenFields ds s base semicolon f ⊎ ((own : List Field) × AreMembers s base ds semicolon own × AreBrokenMembers more s f)))

  pub AreBrokenFields : Trees.MemberDeclarators → Scope → CType → ℕ → Fault → Type 0
  AreBrokenFields Trees.no_member_declarators s base semicolon f = ⊥
  AreBrokenFields (Trees.and_member_declarator comma d more) s base semicolon f = IsBrokenDeclarator d s base f
      ⊎ ((u : CType) × Declares s d base (open_array u) × (f ≡ ill_typed R.Length (first_declarator d semicolon)))
      ⊎ ((t : CType) × Declares s d base (closed t) × (is_object (ended s.file.ends (first_declarator d semicolon)) t ≡ false)
      × (f ≡ ill_typed R.Incomplete (first_declarator d semicolon)))
      ⊎ ((t : CType) × Declares s d base (closed t) × (is_object (ended s.file.ends (first_declarator d semicolon)) t ≡ true)
      × AreBrokenFields more s base semicolon f)

  pub IsBrokenDeclarator : Trees.Declarator → Scope → CType → Fault → Type 0
  IsBrokenDeclarator Trees.nothing s t f = ⊥
  IsBrokenDeclarator (Trees.named x) s t f = ⊥
  IsBrokenDeclarator (Trees.pointer at consts d) s t f = IsTooBig s (pointer t) at f ⊎ IsBrokenDeclarator d s (pointer t) f
  IsBrokenDeclarator (Trees.enclosed left d right) s t f = IsBrokenDeclarator d s t f
  IsBrokenDeclarator (Trees.array d left length right) s t f = (HasLengths d s × IsBrokenLength length s f)
      ⊎ ((f ≡ ill_typed R.Incomplete left) × (is_object (ended s.file.ends left) t ≡ false))
      ⊎ ((f ≡ ill_typed R.Length left) × (length ≡ Trees.no_expression) × (is_name d ≡ false))
      ⊎ ((n : ℕ) × IsOfLength length s n × (IsTooBig s (array t n) left f ⊎ IsBrokenDeclarator d s (array t n) f)) ⊎ IsBrokenWithin d s f
  IsBrokenDeclarator (Trees.function d left all right) s t f = (HasLengths d s × AreBrokenParameters all (inside s) f)
      ⊎ ((f ≡ ill_typed R.ByValue left) × IsNoResult t)
      ⊎ ((parameters : CTypes) × AreParameters (inside s) all parameters
      × (IsTooBig s (pointer (function t parameters)) left f ⊎ IsBrokenDeclarator d s (function t parameters) f)) ⊎ IsBrokenWithin d s f

  -- of a length or a parameter in a declarator, whatever type the declarator makes another of
  pub IsBrokenWithin : Trees.Declarator → Scope → Fault → Type 0
  IsBrokenWithin Trees.nothing s f = ⊥
  IsBrokenWithin (Trees.named x) s f = ⊥
  IsBrokenWithin (Trees.pointer at consts d) s f = IsBrokenWithin d s f
  IsBrokenWithin (Trees.enclosed left d right) s f = IsBrokenWithin d s f
  IsBrokenWithin (Trees.array d left length right) s f = IsBrokenWithin d s f ⊎ (HasLengths d s × IsBrokenLength length s f)
  IsBrokenWithin (Trees.function d left all right) s f = IsBrokenWithin d s f ⊎ (HasLengths d s × AreBrokenParameters all (inside s) f)

  pub IsBrokenLength : Trees.OptionalExpression → Scope → Fault → Type 0
  IsBrokenLength Trees.no_expression s f = ⊥
  IsBrokenLength (Trees.some_expression a) s f = IsBroken a (for_value s) f ⊎ HasNoValue a (for_value s) f ⊎ IsNoConstant a s f
      ⊎ ((f ≡ ill_typed R.Length (first a)) × IsConstantBut a s IsNoLength)

  pub AreBrokenParameters : Trees.ParameterList → Scope → Fault → Type 0
  AreBrokenParameters (Trees.void_alone at) s f = ⊥
  AreBrokenParameters (Trees.listed all) s f = IsBrokenAmong all s f

  pub IsBrokenAmong : Trees.Parameters → Scope → Fault → Type 0
  IsBrokenAmong Trees.no_parameters s f = ⊥
  IsBrokenAmong (Trees.and_parameter comma specs d more) s f =
      ((f ≡ ill_typed R.Specifiers (first_specifiers specs)) × (storage_of specs ≢ no_storage) × (storage_of specs ≢ is_register))
      ⊎ ((f ≡ ill_typed R.Specifiers (first_specifiers specs)) × AreNoType specs) ⊎ AreBroken specs s f ⊎ IsOldName s (declared_name d) f
      ⊎ ((base : CType) × IsBase (IsOne s specs) specs base × IsBrokenDeclarator d s base f)
      ⊎ ((base : CType) × (shape : Shape) × IsBase (IsOne s specs) specs base × Declares s d base shape
      × (((rule : Rule) × IsNoParameter (parameter_type shape) rule × (f ≡ ill_typed rule (first_declarator d (first_specifiers specs))))
      ⊎ IsBrokenAmong more (with_parameter_if_named s (declared_name d) (parameter_type shape)) f))
