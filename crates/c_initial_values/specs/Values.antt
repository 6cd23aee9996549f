-- What the values of the program stand for, and what is declared where an initializer stands.
use Rattle.std.specs.Prelude.{false, List, [], map, Option, Some, None, if◌then◌else◌}
use Rattle.c_types.specs.declared.record.Record.{Record}
use Rattle.c_types.specs.Types.{CType}
use Rattle.c_types.specs.Views.{records_of, type_of}
use Rattle.c_typed.specs.InitialValues.{Address as AnAddress, InitialValue, a_function, a_null, a_number, an_address}
use Rattle.c_typed.specs.InitialValues.{address_in, as_address, as_function, function_in, is_null_in}
use Rattle.c_typed.specs.Trees as Trees
use Rattle.c_typed.specs.Typed.{Declared}
use Rattle.c_annotated.specs.FileViews.{mention_of}
use Rattle.c_annotated.specs.declared.file.Mention.{Mention}
use Rattle.c_annotated.specs.declared.file.Object.{Object}
use Rattle.c_erasure.specs.Scopes.{AMention, AnObject, FileScope, at_file_scope, declared}
use Rattle.c_erasure.specs.Units.{Stores}
use Rattle.c_initial_values.specs.declared.address.Address.{Address}
use Rattle.c_initial_values.specs.declared.stores.Store.{Store}
use Rattle.c_initial_values.specs.declared.values.Value.{Value}
use Rattle.c_initial_values.specs.declared.values.Value.TheVariants as V

abbrev pub address_of : Address → AnAddress
address_of a = record { object = a.object; offset = a.offset }

abbrev pub value_of : Value → InitialValue
value_of (V.Number kind v) = a_number kind v
value_of V.Null = a_null
value_of (V.Address a) = an_address (address_of a)
value_of (V.Function f) = a_function f

abbrev pub store_of : Store → Stores
store_of s = (s.offset, type_of s.ty, value_of s.value)

unfoldable pub stores_in : List Store → List Stores
stores_in all = map store_of all

unfoldable pub mentions_in : List Mention → List AMention
mentions_in all = map mention_of all

-- an object of which no more is known than its type
abbrev pub object_with : CType → AnObject
object_with t = record { name = []; place = record { file = 0; at = 0 }; first = 0; ty = t; is_linked = false; literal = None; initial = None }

-- a file of which no more is known than records and the types of objects: of nothing else do values depend
abbrev pub scope_with : List Record → List Object → FileScope
scope_with records objects = record {
  file = 0;
  names = [];
  tags = [];
  records = records_of records;
  ends = [];
  numbered = [];
  objects = map object_with (map (λ o. type_of o.ty) objects);
  functions = [];
  mentions = [];
  untagged = λ at. [];
}

abbrev pub declared_by : List Record → List Object → Declared
declared_by records objects = declared (at_file_scope (scope_with records objects))

-- the value of an expression whose type is no integer type
abbrev pub pointer_value : Declared → Trees.Expression CType → Option InitialValue
pointer_value d e = if is_null_in d e then Some a_null else as_address d (address_in d e) (as_function d (function_in d e))
