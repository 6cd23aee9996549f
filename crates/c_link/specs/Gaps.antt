-- Why units are no program: the first gap, in the order in which gaps are looked for (C99 6.2.7, 6.9; the limits are our own). Of gaps of one
-- kind that of the earliest place is named.
use Rattle.std.specs.Prelude.{◌≡◌, ◌≢◌, ℕ, ◌+◌, ◌^◌, ◌≤◌, ◌<◌, ◌==◌, Bool, true, false, not, ◌&&◌, if◌then◌else◌, nat_le, nat_lt, List, [], ◌∷◌, ◌++◌}
use Rattle.std.specs.Prelude.{All, map, flat_map, filter, length, fold, slice_get, Option, Some, None, is_some, get_or, ◌⊎◌}
use Rattle.std.specs.List.{list_any}
use Rattle.std.specs.Int.{next_multiple_of}
use Rattle.std.specs.Str.{bytes_eq}
use Rattle.lay_base.specs.declared.place.Place.{Place}
use Rattle.lay_base.specs.declared.faults.LimitKind.{LimitKind}
use Rattle.lay_base.specs.declared.faults.LimitKind.TheVariants.{Nodes, Fields, Frame, Globals}
use Rattle.c_types.specs.Types.{CType, CTypes, void, integer, pointer, array, function, structure, no_types, and_type, Record, field_types}
use Rattle.c_types.specs.Layouts.{size_of}
use Rattle.c_typed.specs.declared.program.Object.{Object}
use Rattle.c_typed.specs.declared.program.Initial.{Initial}
use Rattle.c_typed.specs.declared.program.InitialValue as Stored
use Rattle.c_typed.specs.declared.program.InitialValue.TheVariants as V
use Rattle.c_typed.specs.References.{Reference, an_object, a_function, references_by_statement}
use Rattle.c_typed.specs.Walk.{types_in_statement}
use Rattle.c_typed.specs.Programs.{FunctionData, UnitData, ProgramData}
use Rattle.c_numbers.specs.TypeNumbers.Renumbered.{renumbered}
use Rattle.c_link.specs.Joining.{joined, structure_in, all_records_in, all_tags, with_tag, if_any}
use Rattle.c_link.specs.Texts.{texts_in_functions}

-- ---- places, in the order of the files and then of their bytes

abbrev pub IsBefore : Place → Place → Type 0
IsBefore p q = (p.file < q.file) ⊎ ((p.file ≡ q.file) × (p.at < q.at))

abbrev pub IsNotAfter : Place → Place → Type 0
IsNotAfter p q = IsBefore p q ⊎ (p ≡ q)

-- ---- what may be wrong: a name, where it stands, and where it stood first

pub record Trouble : Type 0 where
  pub name : List ℕ
  pub place : Place
  pub first : Place

-- some trouble of that kind, and none at an earlier place
pub record IsEarliest (Is : Trouble → Type 0) (t : Trouble) : Type 0 where
  pub here : Is t
  pub earliest : (other : Trouble) → Is other → IsNotAfter t.place other.place

-- ---- two structures of one tag whose members differ in names or types

abbrev pub HaveSameMembers : Record → Record → Type 0
HaveSameMembers r q = map {B = List ℕ × CType} (λ f. (f.name, f.ty)) r.fields ≡ map {B = List ℕ × CType} (λ f. (f.name, f.ty)) q.fields

abbrev pub IsTagClash : List UnitData → Trouble → Type 0
IsTagClash units t = (before after : List Record) × (r first : Record) × (rest : List Record) × (all_records_in units ≡ before ++ r ∷ after)
    × (with_tag r.tag before ≡ first ∷ rest) × (HaveSameMembers r first → ⊥) × (t ≡ record { name = r.tag; place = r.place; first = first.place })

-- ---- names with linkage, in the order of the units

pub record Linked : Type 0 where
  pub name : List ℕ
  pub place : Place
  pub ty : CType
  pub is_defined : Bool

-- what an object or a function declares; `number` gives a structure's number in the program
abbrev pub linked_object_in : (number : ℕ → ℕ) → List CType → Object → List Linked
linked_object_in number types o = if o.linked
    then record { name = o.name; place = o.place; ty = renumbered number (get_or types o.ty void); is_defined = is_some o.initial } ∷ []
    else []

abbrev pub linked_function_in : (number : ℕ → ℕ) → List CType → FunctionData → List Linked
linked_function_in number types f = if f.is_linked
    then record { name = f.name; place = f.place; ty = renumbered number (get_or types f.ty void); is_defined = is_some f.body } ∷ []
    else []

abbrev pub linked_by : (tags : List (List ℕ)) → UnitData → List Linked
linked_by tags u = flat_map (linked_object_in (structure_in tags u) u.types) u.objects
    ++ flat_map (linked_function_in (structure_in tags u) u.types) u.functions

abbrev pub linked_in : List UnitData → List Linked
linked_in units = flat_map (linked_by (all_tags units)) units

abbrev pub of_name : List ℕ → List Linked → List Linked
of_name x all = filter (λ l. bytes_eq l.name x) all

abbrev pub trouble : Linked → Linked → Trouble
trouble l first = record { name = l.name; place = l.place; first = first.place }

-- a name has another type than where it stood first
abbrev pub IsNameClash : List UnitData → Trouble → Type 0
IsNameClash units t = (before after : List Linked) × (l first : Linked) × (rest : List Linked) × (linked_in units ≡ before ++ l ∷ after)
    × (of_name l.name before ≡ first ∷ rest) × (l.ty ≢ first.ty) × (t ≡ trouble l first)

-- a name is defined in two units
abbrev pub IsTwice : List UnitData → Trouble → Type 0
IsTwice units t = (before after : List Linked) × (l first : Linked) × (rest : List Linked) × (linked_in units ≡ before ++ l ∷ after)
    × (l.is_defined ≡ true) × (filter (λ d. d.is_defined) (of_name l.name before) ≡ first ∷ rest) × (t ≡ trouble l first)

-- ---- of a program: what is used and not defined

abbrev pub referred_by_stored : Stored.InitialValue → List Reference
referred_by_stored (V.Number kind v) = []
referred_by_stored (V.Address t n offset) = an_object n ∷ []
referred_by_stored (V.Function t f) = a_function f ∷ []

abbrev pub referred_by_value : Initial → List Reference
referred_by_value i = referred_by_stored i.value

abbrev pub all_references : ProgramData → List Reference
all_references p = flat_map (λ f. flat_map references_by_statement (if_any f.body)) p.functions
    ++ flat_map (λ o. flat_map referred_by_value (flat_map (λ all. all) (if_any o.initial))) p.objects

abbrev pub is_object : ℕ → Reference → Bool
is_object n (an_object m) = n == m
is_object n reference = false

abbrev pub is_function : ℕ → Reference → Bool
is_function n (a_function m) = n == m
is_function n reference = false

abbrev pub missing_object : List Reference → ℕ → Object → List Trouble
missing_object all n o = if list_any (is_object n) all && not (is_some o.initial)
    then record { name = o.name; place = o.place; first = o.place } ∷ []
    else []

abbrev pub missing_function : List Reference → ℕ → FunctionData → List Trouble
missing_function all n f = if list_any (is_function n) all && not (is_some f.body)
    then record { name = f.name; place = f.place; first = f.place } ∷ []
    else []

-- of objects and functions from a number on
abbrev pub missing_objects : List Reference → ℕ → List Object → List Trouble
missing_objects all n [] = []
missing_objects all n (o ∷ more) = missing_object all n o ++ missing_objects all (n + 1) more

abbrev pub missing_functions : List Reference → ℕ → List FunctionData → List Trouble
missing_functions all n [] = []
missing_functions all n (f ∷ more) = missing_function all n f ++ missing_functions all (n + 1) more

abbrev pub all_missing : ProgramData → List Trouble
all_missing p = missing_objects (all_references p) 0 p.objects ++ missing_functions (all_references p) 0 p.functions

abbrev pub IsIn : Trouble → List Trouble → Type 0
IsIn t [] = ⊥
IsIn t (u ∷ more) = (t ≡ u) ⊎ IsIn t more

abbrev pub IsMissing : ProgramData → Trouble → Type 0
IsMissing p t = IsIn t (all_missing p)

-- ---- structures that no file completes, where a type of a field, of an expression, or of a defined object or function holds them

abbrev mutual
  pub structures_in : CType → List ℕ
  structures_in void = []
  structures_in (integer kind) = []
  structures_in (pointer t) = structures_in t
  structures_in (array t n) = structures_in t
  structures_in (function t all) = structures_in t ++ structures_in_all all
  structures_in (structure r) = r ∷ []

  pub structures_in_all : CTypes → List ℕ
  structures_in_all no_types = []
  structures_in_all (and_type t more) = structures_in t ++ structures_in_all more

abbrev pub type_at : ProgramData → ℕ → CType
type_at p i = get_or p.types i void

-- the numbers of the types of an object and of a function that are defined, with those at the nodes of its body
abbrev pub types_of_object : Object → List ℕ
types_of_object o = if is_some o.initial then o.ty ∷ [] else []

abbrev pub types_of_function : FunctionData → List ℕ
types_of_function f = if is_some f.body then f.ty ∷ map (λ l. l.ty) (f.parameters ++ f.locals) ++ flat_map types_in_statement (if_any f.body) else []

abbrev pub held_types : ProgramData → List CType
held_types p = flat_map field_types p.records ++ map (type_at p) (flat_map types_of_object p.objects ++ flat_map types_of_function p.functions)

abbrev pub is_open : ProgramData → ℕ → Bool
is_open p r = nat_le (length p.records) r

abbrev pub open_structures : ProgramData → List ℕ
open_structures p = filter (is_open p) (flat_map structures_in (held_types p))

-- the one whose tag stands first
abbrev pub IsLeast : List ℕ → ℕ → Type 0
IsLeast all n = (list_any (λ m. m == n) all ≡ true) × All (λ m. n ≤ m) all

-- ---- limits (own): counted, and the greatest number allowed

-- the first number of a list past a limit
abbrev pub first_past : ℕ → List ℕ → Option ℕ
first_past most [] = None
first_past most (n ∷ more) = if nat_lt most n then Some n else first_past most more

abbrev pub local_bytes : ProgramData → FunctionData → ℕ
local_bytes p f = fold (λ n l. n + size_of p.records (type_at p l.ty)) 0 (f.parameters ++ f.locals)

-- an object that is only declared has none
abbrev pub object_bytes : ProgramData → Object → ℕ
object_bytes p o = if is_some o.initial then next_multiple_of (size_of p.records (type_at p o.ty)) 4 else 0

-- of all objects, and of the strings that initialize arrays of locals
abbrev pub global_bytes : ProgramData → ℕ
global_bytes p = fold (λ n o. n + object_bytes p o) 0 p.objects + texts_in_functions p.functions

abbrev pub past_alone : ℕ → ℕ → Option ℕ
past_alone most n = if nat_lt most n then Some n else None

abbrev pub past : ProgramData → LimitKind → Option ℕ
past p Nodes = past_alone 131072 p.nodes
past p Fields = first_past 64 (map (λ r. length r.fields) p.records)
past p Frame = first_past (2 ^ 24) (map (local_bytes p) p.functions)
past p Globals = past_alone (2 ^ 24) (global_bytes p)
past p which = None

abbrev pub limits : List LimitKind
limits = Nodes ∷ Fields ∷ Frame ∷ Globals ∷ []

abbrev pub or_limit : LimitKind → Option ℕ → Option (LimitKind × ℕ) → Option (LimitKind × ℕ)
or_limit which None later = later
or_limit which (Some n) later = Some (which, n)

abbrev pub first_limit : ProgramData → List LimitKind → Option (LimitKind × ℕ)
first_limit p [] = None
first_limit p (which ∷ more) = or_limit which (past p which) (first_limit p more)

-- ---- the first gap

pub data Gap : Type 0 where
  tag_clash : (t : Trouble) → Gap
  name_clash : (t : Trouble) → Gap
  twice : (t : Trouble) → Gap
  missing : (name : List ℕ) → Gap
  no_main : Gap
  limit : (which : LimitKind) → (counted : ℕ) → Gap

abbrev pub HasNone : (Trouble → Type 0) → Type 0
HasNone Is = (t : Trouble) → Is t → ⊥

abbrev pub HasMain : ProgramData → Type 0
HasMain p = (f : FunctionData) × (slice_get p.functions p.main ≡ Some f) × (is_some f.body ≡ true)

-- no two things of the units are at odds
pub record Agree (units : List UnitData) : Type 0 where
  pub tags : HasNone (IsTagClash units)
  pub names : HasNone (IsNameClash units)
  pub once : HasNone (IsTwice units)

-- all that a program uses is there, its function `main` too
pub record IsComplete (p : ProgramData) : Type 0 where
  pub names : HasNone (IsMissing p)
  pub structures : open_structures p ≡ []
  pub main : HasMain p

-- what is missing of a program whose structures have these tags: a name before a tag
abbrev pub IsMissingOf : (tags : List (List ℕ)) → ProgramData → List ℕ → Type 0
IsMissingOf tags p x = ((t : Trouble) × IsEarliest (IsMissing p) t × (x ≡ t.name))
    ⊎ ((r : ℕ) × HasNone (IsMissing p) × IsLeast (open_structures p) r × (x ≡ get_or tags r []))

abbrev pub HasNoMain : ProgramData → Type 0
HasNoMain p = HasNone (IsMissing p) × (open_structures p ≡ []) × (HasMain p → ⊥)

abbrev pub IsGap : List UnitData → Gap → Type 0
IsGap units (tag_clash t) = IsEarliest (IsTagClash units) t
IsGap units (name_clash t) = HasNone (IsTagClash units) × IsEarliest (IsNameClash units) t
IsGap units (twice t) = HasNone (IsTagClash units) × HasNone (IsNameClash units) × IsEarliest (IsTwice units) t
IsGap units (missing x) = Agree units × IsMissingOf (all_tags units) (joined units) x
IsGap units no_main = Agree units × HasNoMain (joined units)
IsGap units (limit which counted) = Agree units × IsComplete (joined units) × (first_limit (joined units) limits ≡ Some (which, counted))

-- ---- the program of units: they have no gap

pub record IsProgramOfUnits (units : List UnitData) (p : ProgramData) : Type 0 where
  pub agree : Agree units
  pub complete : IsComplete (joined units)
  pub within_limits : first_limit (joined units) limits ≡ None
  pub joined_units : p ≡ joined units
