-- The parts of a unit with the places of their types in a list.
use Rattle.std.specs.Prelude.{ℕ, ◌+◌, Bool, not, ◌||◌, List, [], ◌∷◌, length, flat_map, map}
use Rattle.std.specs.Option.{option_map}
use Rattle.c_types.specs.declared.ty.IntKind.TheVariants.{UInt}
use Rattle.c_types.specs.Types.{CType}
use Rattle.c_typed.specs.Addressed.{addressed_by_statement}
use Rattle.c_typed.specs.Conversions.{is_scalar}
use Rattle.c_typed.specs.InitialValues.{a_number, a_null, an_address, a_function}
use Rattle.c_typed.specs.Mapped.{mapped_statement, of_types}
use Rattle.c_typed.specs.Programs.{FunctionData}
use Rattle.c_typed.specs.declared.program.Initial.{Initial}
use Rattle.c_typed.specs.declared.program.InitialValue.TheVariants as V
use Rattle.c_typed.specs.declared.program.Local.{Local}
use Rattle.c_typed.specs.declared.program.Mention.{Mention}
use Rattle.c_typed.specs.declared.program.Object.{Object}
use Rattle.c_erasure.specs.Scopes.{AFunction, ALocal, AMention}
use Rattle.c_erasure.specs.Units.{Stores, if_any, is_among, number_in}
use Rattle.c_units.specs.ValuedObjects.{ValuedObject}

-- whose addresses a body takes
abbrev pub taken_in : AFunction → List ℕ
taken_in g = flat_map addressed_by_statement (if_any g.body)

module _ (types : List CType) where
  abbrev pub initial_in : Stores → Initial
  initial_in (at, t, a_number kind v) = record { offset = at; value = V.Number kind v }
  initial_in (at, t, a_null) = record { offset = at; value = V.Number UInt 0 }
  initial_in (at, t, an_address a) = record { offset = at; value = V.Address (number_in types t) a.object a.offset }
  initial_in (at, t, a_function g) = record { offset = at; value = V.Function (number_in types t) g }

  abbrev pub object_in : ValuedObject → Object
  object_in o = record {
    name = o.name;
    place = o.place;
    ty = number_in types o.ty;
    linked = o.is_linked;
    text = o.is_text;
    initial = option_map (map initial_in) o.initial;
  }

  abbrev pub local_in : (ℕ → Bool) → ℕ → ALocal → Local
  local_in taken n l = record { name = l.name; ty = number_in types l.ty; block = not (is_scalar l.ty) || taken n }

  abbrev pub locals_in : (ℕ → Bool) → ℕ → List ALocal → List Local
  locals_in taken n [] = []
  locals_in taken n (l ∷ more) = local_in taken n l ∷ locals_in taken (n + 1) more

  abbrev pub function_in : AFunction → FunctionData
  function_in g = record {
    name = g.name;
    place = g.place;
    ty = number_in types g.ty;
    is_linked = g.is_linked;
    parameters = locals_in (is_among (taken_in g)) 0 g.parameters;
    locals = locals_in (is_among (taken_in g)) (length g.parameters) g.locals;
    body = option_map (mapped_statement (of_types (λ t. number_in types t.ty))) g.body;
    nodes = g.nodes;
  }

  abbrev pub mention_in : ℕ → AMention → Mention
  mention_in file m = record { kind = m.kind; ty = number_in types m.ty; place = record { file = file; at = m.at } }
