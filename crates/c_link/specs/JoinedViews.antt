-- What units have given to the program so far.
use Rattle.std.specs.Prelude.{ℕ, ◌+◌, List, [], ◌++◌}
use Rattle.c_link.specs.Joining.{Tables, functions_of, is_function_defined, is_object_defined, mentions_of, objects_of}
use Rattle.c_link.specs.Placing.{placed}
use Rattle.c_typed.specs.declared.program.Mention.{Mention}
use Rattle.c_typed.specs.declared.program.Object.{Object}
use Rattle.c_typed.specs.Programs.{FunctionData, ProgramData, UnitData}
use Rattle.c_types.specs.Types.{CType, Record}

pub record JoinedData : Type 0 where
  pub objects : List Object
  pub functions : List FunctionData
  pub mentions : List Mention
  pub nodes : ℕ

abbrev pub nothing : JoinedData
nothing = record { objects = []; functions = []; mentions = []; nodes = 0 }

abbrev pub with_unit : Tables → JoinedData → ℕ × UnitData → JoinedData
with_unit t j u = record {
  objects = placed is_object_defined t.objects j.objects (objects_of t u.0 u.1);
  functions = placed is_function_defined t.functions j.functions (functions_of t u.0 u.1);
  mentions = j.mentions ++ mentions_of t u.0 u.1;
  nodes = j.nodes + u.1.nodes;
}

-- a record under its tag
abbrev pub tagged : Record → List ℕ × Record
tagged r = (r.tag, r)

abbrev pub assembled : List Record → List CType → JoinedData → (main : ℕ) → ProgramData
assembled records types j main = record {
  records = records;
  types = types;
  objects = j.objects;
  functions = j.functions;
  mentions = j.mentions;
  main = main;
  nodes = j.nodes;
}
