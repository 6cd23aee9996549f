-- A unit whose tree has that number of nodes.
use Rattle.std.specs.Prelude.{ℕ, List, drop, length, map}
use Rattle.c_types.specs.Types.{CType}
use Rattle.c_types.specs.declared.ty.Ty.{Ty}
use Rattle.c_types.specs.Views.{type_of}
use Rattle.c_typed.specs.Programs.{FunctionData, UnitData, data_of}
use Rattle.c_typed.specs.declared.program.Function.{Function}
use Rattle.c_typed.specs.declared.program.Mention.{Mention}
use Rattle.c_typed.specs.declared.program.Object.{Object}
use Rattle.c_erasure.specs.Scopes.{FileScope}
use Rattle.c_erasure.specs.Units.{function, mention, mentions, object, types}

abbrev pub unit_with : ℕ → FileScope → UnitData
unit_with nodes f = record {
  records = f.records;
  incomplete = drop (length f.records) f.numbered;
  types = types f;
  objects = map (object f) f.objects;
  functions = map (function f) f.functions;
  mentions = map (mention f) (mentions f);
  nodes = nodes;
}

-- ---- what a file gives by the numbers of its types

pub record GivenParts : Type 0 where
  pub types : List CType
  pub objects : List Object
  pub functions : List FunctionData
  pub mentions : List Mention

-- by the table of all types, and the objects, functions and mentions
abbrev pub parts_of : List Ty → List Object × List Function × List Mention → GivenParts
parts_of types parts = record { types = map type_of types; objects = parts.0; functions = map data_of parts.1; mentions = parts.2 }

abbrev pub given_by : FileScope → GivenParts
given_by f = record {
  types = types f;
  objects = map (object f) f.objects;
  functions = map (function f) f.functions;
  mentions = map (mention f) (mentions f);
}
