-- What the tables of the program stand for, and what units have given to the program so far.
use Rattle.std.specs.Prelude.{ℕ, List, [], fold, map}
use Rattle.c_link.specs.Joining.{Tables, function_identities, object_identities, types_in}
use Rattle.c_link.specs.JoinedViews.{JoinedData}
use Rattle.c_link.specs.declared.joining.Joined.{Joined}
use Rattle.c_link.specs.declared.tables.Tables as declared
use Rattle.c_numbers.specs.KeyNumbers.Keys.{with_key}
use Rattle.c_numbers.specs.TypeNumbers.Adding.{with_type}
use Rattle.c_typed.specs.Programs.{UnitData, data_of}
use Rattle.c_types.specs.Views.{type_of}

abbrev pub tables_of : (tags : List (List ℕ)) → declared.Tables → Tables
tables_of tags t = record { tags = tags; types = map type_of t.types; objects = t.objects; functions = t.functions }

abbrev pub no_tables : (tags : List (List ℕ)) → Tables
no_tables tags = record { tags = tags; types = []; objects = []; functions = [] }

-- the tables with what one more unit has
abbrev pub with_unit_in : Tables → ℕ × UnitData → Tables
with_unit_in t u = record {
  tags = t.tags;
  types = fold with_type t.types (types_in t.tags u.1);
  objects = fold with_key t.objects (object_identities u.0 0 u.1.objects);
  functions = fold with_key t.functions (function_identities u.0 0 u.1.functions);
}

abbrev pub joined_of : Joined → JoinedData
joined_of j = record { objects = j.objects.items; functions = map data_of j.functions.items; mentions = j.mentions; nodes = j.nodes }
