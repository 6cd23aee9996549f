-- What a unit has beside trees, with other numbers.
use Rattle.std.specs.Prelude.{ℕ, map}
use Rattle.std.specs.Option.{option_map}
use Rattle.c_typed.specs.declared.program.Object.{Object}
use Rattle.c_typed.specs.declared.program.Initial.{Initial}
use Rattle.c_typed.specs.declared.program.InitialValue as Stored
use Rattle.c_typed.specs.declared.program.InitialValue.TheVariants as V
use Rattle.c_typed.specs.declared.program.Local.{Local}
use Rattle.c_typed.specs.declared.program.Mention.{Mention}
use Rattle.c_typed.specs.Mapped.{Renaming, mapped_statement}
use Rattle.c_typed.specs.Programs.{FunctionData}

module _ (m : Renaming ℕ ℕ) where
  abbrev pub value_in : Stored.InitialValue → Stored.InitialValue
  value_in (V.Number kind v) = V.Number kind v
  value_in (V.Address t n offset) = V.Address (m.ty t) (m.object n) offset
  value_in (V.Function t n) = V.Function (m.ty t) (m.function n)

  abbrev pub initial_in : Initial → Initial
  initial_in i = record { offset = i.offset; value = value_in i.value }

  abbrev pub object_in : Object → Object
  object_in o = record {
    name = o.name;
    place = o.place;
    ty = m.ty o.ty;
    linked = o.linked;
    text = o.text;
    initial = option_map (map initial_in) o.initial;
  }

  abbrev pub local_in : Local → Local
  local_in l = record { name = l.name; ty = m.ty l.ty; block = l.block }

  abbrev pub function_in : FunctionData → FunctionData
  function_in f = record {
    name = f.name;
    place = f.place;
    ty = m.ty f.ty;
    is_linked = f.is_linked;
    parameters = map local_in f.parameters;
    locals = map local_in f.locals;
    body = option_map (mapped_statement m) f.body;
    nodes = f.nodes;
  }

  abbrev pub mention_in : Mention → Mention
  mention_in it = record { kind = it.kind; ty = m.ty it.ty; place = it.place }
