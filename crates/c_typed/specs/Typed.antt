-- Well typed: the rule of each node of a typed tree (C99 6.5). Types stand at its nodes.
use Rattle.std.specs.Prelude.{◌≡◌, ◌≢◌, ℕ, ◌<◌, Bool, true, false, List, Option, Some, None, slice_get, ◌⊎◌}
use Rattle.std.specs.Option.{option_map}
use Rattle.lay_base.specs.declared.place.Place.{Place}
use Rattle.c_types.specs.declared.ty.IntKind.{IntKind}
use Rattle.c_types.specs.declared.ty.IntKind.TheVariants.{Int, UInt}
use Rattle.c_types.specs.Types.{CType, CTypes, void, integer, pointer, function, structure, no_types, and_type, Record}
use Rattle.c_types.specs.Objects.{is_object}
use Rattle.c_typed.specs.declared.operators.PointerOp.{PointerOp}
use Rattle.c_typed.specs.declared.operators.PointerOp.TheVariants as P
use Rattle.c_typed.specs.Trees as Trees
use Rattle.c_typed.specs.Trees.{Expression, expression, Node, Path, path, PathNode, Expressions, no_expressions, and_expression, OptionalExpression}
use Rattle.c_typed.specs.Conversions.{is_pointer, is_scalar, pointed, element_of, as_kind}
use Rattle.c_typed.specs.Constants.{ty, is_null}
use Rattle.c_typed.specs.Fits.{assigns, casts, library_type}
use Rattle.c_typed.specs.Rules.{promoting, on_numbers, comparing, choosing, moving, differing, updating, is_stepped}

-- ---- parts of nodes

abbrev pub at_of : {T : Type 0} → Expression T → Place
at_of (expression t at node) = at

abbrev pub path_ty : {T : Type 0} → Path T → T
path_ty (path t at step) = t

abbrev pub path_at : {T : Type 0} → Path T → Place
path_at (path t at step) = at

-- without the implicit conversion at the top
abbrev pub bare : {T : Type 0} → Expression T → Expression T
bare (expression t at (Trees.convert e false)) = e
bare e = e

abbrev pub is_bare : {T : Type 0} → Expression T → Bool
is_bare (expression t at (Trees.convert e false)) = false
is_bare e = true

-- the type before the implicit conversion
abbrev pub bare_ty : Expression CType → CType
bare_ty e = ty (bare e)

abbrev pub is_decay : {T : Type 0} → Expression T → Bool
is_decay (expression t at (Trees.decay p)) = true
is_decay e = false

-- ---- rules on the parts of a node

-- a value that is tested against zero
abbrev pub IsTested : Expression CType → Type 0
IsTested x = (is_bare x ≡ true) × (is_scalar (ty x) ≡ true)

-- converted as by assignment (6.5.16.1)
abbrev pub IsConverted : Expression CType → CType → Type 0
IsConverted x t = (assigns (bare_ty x) (is_null (bare x)) t ≡ true) × (ty x ≡ t)

abbrev pub IsSubscript : Expression CType → Type 0
IsSubscript i = promoting (bare_ty i) ≡ Some (ty i)

-- a pointer, and a number of elements
abbrev pub IsMoved : (count : ℕ) → Expression CType → Expression CType → CType → Type 0
IsMoved count x y t = (is_bare x ≡ true) × (moving count (ty x) (bare_ty y) ≡ Some (ty y)) × (t ≡ ty x)

abbrev pub IsMove : PointerOp → (count : ℕ) → Expression CType → Expression CType → CType → Type 0
IsMove P.Add count x y t = IsMoved count x y t ⊎ IsMoved count y x t
IsMove P.Subtract count x y t = IsMoved count x y t

-- ---- what is declared where an expression stands

pub record Declared : Type 0 where
  -- the records, and how many of them are complete at a byte of the file
  pub records : List Record
  pub complete : ℕ → ℕ
  -- the types of the function's parameters and locals, of the objects, and of the functions
  pub locals : List CType
  pub objects : List CType
  pub functions : List CType

-- the type of a field of a record
abbrev pub type_in : Option Record → ℕ → Option CType
type_in None field = None
type_in (Some r) field = option_map (λ f. f.ty) (slice_get r.fields field)

abbrev pub field_type : List Record → (number field : ℕ) → Option CType
field_type records number field = type_in (slice_get records number) field

-- ---- the rule of each node

module _ (d : Declared) where
  abbrev mutual
    pub IsTyped : Expression CType → Type 0
    IsTyped (expression t at node) = IsTypedNode t at node

    pub IsTypedNode : CType → Place → Node CType → Type 0
    IsTypedNode t at (Trees.constant v) = (kind : IntKind) × (t ≡ integer kind) × (as_kind kind v ≡ v)
    IsTypedNode t at Trees.null = is_pointer t ≡ true
    IsTypedNode t at (Trees.function_name f) = (s : CType) × (slice_get d.functions f ≡ Some s) × (t ≡ pointer s)
    IsTypedNode t at (Trees.load p) = IsTypedPath p × (is_scalar t ≡ true) × (t ≡ path_ty p) × (at ≡ path_at p)
    IsTypedNode t at (Trees.address_of p) = IsTypedPath p × (t ≡ pointer (path_ty p))
    IsTypedNode t at (Trees.decay p) = IsTypedPath p × (option_map pointer (element_of (path_ty p)) ≡ Some t) × (at ≡ path_at p)
    -- to what a value may be converted where no cast stands is a rule of the node above
    IsTypedNode t at (Trees.convert e false) = IsTyped e × (is_bare e ≡ true) × (t ≢ ty e) × (at ≡ at_of e)
    IsTypedNode t at (Trees.convert e true) = IsTyped e × (is_bare e ≡ true) × (casts (ty e) (is_null e) t ≡ true)
    IsTypedNode t at (Trees.unary op x) = IsTyped x × (promoting (bare_ty x) ≡ Some t) × (ty x ≡ t)
    IsTypedNode t at (Trees.binary op x y) = IsTyped x × IsTyped y × (on_numbers op (bare_ty x) (bare_ty y) ≡ Some (t, ty y)) × (ty x ≡ t)
    IsTypedNode t at (Trees.compare op x y) = IsTyped x × IsTyped y
        × (comparing op (bare_ty x) (is_null (bare x)) (bare_ty y) (is_null (bare y)) ≡ Some (ty x)) × (ty y ≡ ty x) × (t ≡ integer Int)
    IsTypedNode t at (Trees.pointer_add op x y) = IsTyped x × IsTyped y × IsMove op (d.complete at.at) x y t
    IsTypedNode t at (Trees.pointer_difference x y) = IsTyped x × IsTyped y × (is_bare x ≡ true) × (is_bare y ≡ true)
        × (differing (d.complete at.at) (ty x) (ty y) ≡ true) × (t ≡ integer Int)
    IsTypedNode t at (Trees.both x y) = IsTyped x × IsTyped y × IsTested x × IsTested y × (t ≡ integer Int)
    IsTypedNode t at (Trees.either x y) = IsTyped x × IsTyped y × IsTested x × IsTested y × (t ≡ integer Int)
    IsTypedNode t at (Trees.not x) = IsTyped x × IsTested x × (t ≡ integer Int)
    IsTypedNode t at (Trees.choose x y z) = IsTyped x × IsTyped y × IsTyped z × IsTested x
        × (choosing (bare_ty y) (is_null (bare y)) (bare_ty z) (is_null (bare z)) ≡ Some t) × (ty y ≡ t) × (ty z ≡ t)
    IsTypedNode t at (Trees.comma x y) = IsTyped x × IsTyped y × (is_bare x ≡ true) × (is_bare y ≡ true) × (t ≡ ty y)
    IsTypedNode t at (Trees.assign p x) = IsTypedPath p × IsTyped x × (is_scalar t ≡ true) × (t ≡ path_ty p) × IsConverted x t
    IsTypedNode t at (Trees.assign_op op p x) = IsTypedPath p × IsTyped x × (t ≡ path_ty p)
        × (updating (d.complete at.at) op t (bare_ty x) ≡ Some (ty x))
    IsTypedNode t at (Trees.step op before p) = IsTypedPath p × (t ≡ path_ty p) × (is_stepped (d.complete at.at) t ≡ true)
    -- a record assignment has no value (own)
    IsTypedNode t at (Trees.copy_record to from) = IsTypedPath to × IsTypedPath from × (t ≡ void) × (path_ty from ≡ path_ty to)
        × ((r : ℕ) × (path_ty to ≡ structure r))
    IsTypedNode t at (Trees.call f all) = (parameters : CTypes) × (slice_get d.functions f ≡ Some (function t parameters)) × AreArguments parameters all
    IsTypedNode t at (Trees.call_through e all) = (parameters : CTypes) × IsTyped e × (is_bare e ≡ true)
        × (ty e ≡ pointer (function t parameters)) × AreArguments parameters all
    IsTypedNode t at (Trees.library which all) = (parameters : CTypes) × (library_type which ≡ function t parameters) × AreArguments parameters all
    IsTypedNode t at (Trees.allocate r count zeroed) = (t ≡ pointer (structure r)) × (r < d.complete at.at) × IsCount count

    pub AreArguments : CTypes → Expressions CType → Type 0
    AreArguments no_types no_expressions = Unit {0}
    AreArguments (and_type t more) (and_expression x rest) = IsTyped x × IsConverted x t × AreArguments more rest
    AreArguments parameters all = ⊥

    -- how many records are allocated: one, or the value of an expression as unsigned
    pub IsCount : OptionalExpression CType → Type 0
    IsCount Trees.no_expression = Unit {0}
    IsCount (Trees.some_expression x) = IsTyped x × IsConverted x (integer UInt)

    pub IsTypedPath : Path CType → Type 0
    IsTypedPath (path t at step) = IsTypedStep t at step

    pub IsTypedStep : CType → Place → PathNode CType → Type 0
    IsTypedStep t at (Trees.local n) = slice_get d.locals n ≡ Some t
    IsTypedStep t at (Trees.object n) = slice_get d.objects n ≡ Some t
    IsTypedStep t at (Trees.deref e) = IsTyped e × (is_bare e ≡ true) × (pointed (ty e) ≡ Some t) × (is_object (d.complete at.at) t ≡ true)
    IsTypedStep t at (Trees.index e i) = IsTyped e × IsTyped i × (is_bare e ≡ true) × (is_decay e ≡ false) × IsSubscript i
        × (pointed (ty e) ≡ Some t) × (is_object (d.complete at.at) t ≡ true)
    IsTypedStep t at (Trees.member p r field) = IsTypedPath p × (path_ty p ≡ structure r) × (field_type d.records r field ≡ Some t)
    IsTypedStep t at (Trees.element p i) = IsTypedPath p × IsTyped i × IsSubscript i × (element_of (path_ty p) ≡ Some t)
