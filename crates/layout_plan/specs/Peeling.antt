-- Which records may be peeled: a record T where every `T *` is that of an object, which is used in the permitted ways alone (own). Facts tell of each
-- expression that stands in another way.
use Rattle.std.specs.Prelude.{ℕ, ◌==◌, Bool, not, List, [], ◌++◌, flat_map, Option, Some, None, slice_get}
use Rattle.std.specs.List.{list_any}
use Rattle.c_types.specs.Types.{CType, pointer, structure, Record, field_types}
use Rattle.c_typed.specs.declared.program.Initial.{Initial}
use Rattle.c_typed.specs.declared.program.InitialValue.{InitialValue}
use Rattle.c_typed.specs.declared.program.InitialValue.TheVariants.{Address}
use Rattle.c_typed.specs.declared.program.Local.{Local}
use Rattle.c_typed.specs.declared.program.Object.{Object}
use Rattle.c_typed.specs.Programs.{FunctionData, ProgramData}
use Rattle.c_typed.specs.TypeNumbers.{type_at}
use Rattle.c_facts.specs.declared.fact.Fact.{Fact}
use Rattle.c_facts.specs.declared.fact.Fact.TheVariants.{Value}
use Rattle.legality.specs.InTypes.{pointed, pointers_in}

-- ---- T of each `T *` that holds T back

-- an expression that stands in no permitted way
abbrev pub by_fact : List CType → Fact → List ℕ
by_fact types (Value t) = pointed (type_at types t)
by_fact types fact = []

abbrev pub by_record : Record → List ℕ
by_record r = flat_map pointers_in (field_types r)

-- an object of type `T *` does not hold T back, and one of any other type that speaks of `T *` does
abbrev pub by_object_type : CType → List ℕ
by_object_type (pointer (structure r)) = []
by_object_type t = pointers_in t

abbrev pub object_type_at : List CType → List Object → (number : ℕ) → Option CType
object_type_at types objects number = type_if_any (slice_get objects number)
  where
    type_if_any : Option Object → Option CType
    type_if_any None = None
    type_if_any (Some o) = slice_get types o.ty

abbrev pub pointed_if_any : Option CType → List ℕ
pointed_if_any None = []
pointed_if_any (Some t) = pointed t

-- the address of an object of type `T *`, in what another one holds at first
abbrev pub by_initial_value : List CType → List Object → InitialValue → List ℕ
by_initial_value types objects (Address t number offset) = pointed_if_any (object_type_at types objects number)
by_initial_value types objects value = []

abbrev pub by_initial : List CType → List Object → Option (List Initial) → List ℕ
by_initial types objects None = []
by_initial types objects (Some all) = flat_map (λ i. by_initial_value types objects i.value) all

abbrev pub by_object : List CType → List Object → Object → List ℕ
by_object types objects o = by_object_type (type_at types o.ty) ++ by_initial types objects o.initial

abbrev pub by_local : List CType → Local → List ℕ
by_local types l = pointers_in (type_at types l.ty)

-- its type has its result and its parameters
abbrev pub by_function : List CType → FunctionData → List ℕ
by_function types f = pointers_in (type_at types f.ty) ++ flat_map (by_local types) f.parameters ++ flat_map (by_local types) f.locals

-- ---- of a program, of whose functions the facts are given

abbrev pub held_back : ProgramData → List Fact → List ℕ
held_back p facts = flat_map (by_fact p.types) facts ++ flat_map by_record p.records ++ flat_map (by_object p.types p.objects) p.objects
    ++ flat_map (by_function p.types) p.functions

abbrev pub is_among : List ℕ → (number : ℕ) → Bool
is_among all number = list_any (λ m. m == number) all

abbrev pub is_peelable : ProgramData → List Fact → (number : ℕ) → Bool
is_peelable p facts number = not (is_among (held_back p facts) number)
