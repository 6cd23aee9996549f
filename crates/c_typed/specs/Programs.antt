-- A unit and a program as plain data: their functions' bodies are plain trees.
use Rattle.std.specs.Prelude.{ℕ, Bool, List, map, Option}
use Rattle.std.specs.Option.{option_map}
use Rattle.lay_base.specs.declared.place.Place.{Place}
use Rattle.c_types.specs.Types.{CType, Record}
use Rattle.c_types.specs.Views.{type_of, records_of}
use Rattle.c_typed.specs.declared.program.Function.{Function}
use Rattle.c_typed.specs.declared.program.Local.{Local}
use Rattle.c_typed.specs.declared.program.Mention.{Mention}
use Rattle.c_typed.specs.declared.program.Object.{Object}
use Rattle.c_typed.specs.declared.program.Typed.{Typed}
use Rattle.c_typed.specs.declared.program.Unit.{Unit}
use Rattle.c_typed.specs.Trees as Trees
use Rattle.c_typed.specs.Views.{statement_of}

-- a function's data, with its body as a plain tree
pub record FunctionData : Type 0 where
  pub name : List ℕ
  pub place : Place
  pub ty : ℕ
  pub is_linked : Bool
  pub parameters : List Local
  pub locals : List Local
  pub body : Option (Trees.Statement ℕ)
  pub nodes : ℕ

abbrev pub data_of : Function → FunctionData
data_of g = record {
  name = g.name;
  place = g.place;
  ty = g.ty;
  is_linked = g.linked;
  parameters = g.parameters;
  locals = g.locals;
  body = option_map statement_of g.body;
  nodes = g.nodes;
}

-- a unit's data
pub record UnitData : Type 0 where
  pub records : List Record
  pub incomplete : List (List ℕ)
  pub types : List CType
  pub objects : List Object
  pub functions : List FunctionData
  pub mentions : List Mention
  pub nodes : ℕ

abbrev pub unit_data : Unit → UnitData
unit_data u = record {
  records = records_of u.records;
  incomplete = u.incomplete;
  types = map type_of u.types;
  objects = u.objects;
  functions = map data_of u.functions;
  mentions = u.mentions;
  nodes = u.nodes;
}

-- a program's data
pub record ProgramData : Type 0 where
  pub records : List Record
  pub types : List CType
  pub objects : List Object
  pub functions : List FunctionData
  pub mentions : List Mention
  pub main : ℕ
  pub nodes : ℕ

abbrev pub program_data : Typed → ProgramData
program_data p = record {
  records = records_of p.records;
  types = map type_of p.types;
  objects = p.objects;
  functions = map data_of p.functions;
  mentions = p.mentions;
  main = p.main;
  nodes = p.nodes;
}
