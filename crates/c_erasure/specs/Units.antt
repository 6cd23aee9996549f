-- What a file gives to its program: a function of the annotated file. Allocations are recognised, types are numbered in the order of one walk,
-- and the values of objects are computed.
use Rattle.std.specs.Prelude.{ℕ, ◌+◌, ◌==◌, Bool, true, false, not, ◌&&◌, ◌||◌, if◌then◌else◌, List, [], ◌∷◌, ◌++◌, map, flat_map, filter, drop}
use Rattle.std.specs.Prelude.{length, Option, Some, None, is_some}
use Rattle.std.specs.List.{list_any}
use Rattle.std.specs.Option.{option_map}
use Rattle.c_types.specs.declared.ty.IntKind.TheVariants.{Char, UInt}
use Rattle.c_types.specs.Types.{CType, integer}
use Rattle.c_types.specs.Sameness.{same_type}
use Rattle.c_ast.specs.Trees as Syntax
use Rattle.c_ast.specs.Sizes.{size_items}
use Rattle.c_typed.specs.declared.program.Object.{Object}
use Rattle.c_typed.specs.declared.program.Initial.{Initial}
use Rattle.c_typed.specs.declared.program.InitialValue.TheVariants as V
use Rattle.c_typed.specs.declared.program.Local.{Local}
use Rattle.c_typed.specs.declared.program.Mention.{Mention}
use Rattle.c_typed.specs.declared.program.MentionKind.{MentionKind}
use Rattle.c_typed.specs.declared.program.MentionKind.TheVariants.{Sizeof}
use Rattle.c_typed.specs.Trees as Trees
use Rattle.c_typed.specs.Programs.{FunctionData, UnitData}
use Rattle.c_typed.specs.Changed.{changed_arms, changed_initializer, changed_part, changed_statement, changed_statements, changed_value}
use Rattle.c_typed.specs.Mapped.{of_types, mapped_statement, mapped_initializer}
use Rattle.c_typed.specs.Walk.{types_in_statement}
use Rattle.c_typed.specs.Addressed.{addressed_by_statement}
use Rattle.c_typed.specs.Constants.{ty}
use Rattle.c_typed.specs.Conversions.{is_scalar, is_pointer}
use Rattle.c_typed.specs.InitialValues.{InitialValue, a_number, a_null, an_address, a_function, initial_value}
use Rattle.c_erasure.specs.Noted.{Noted}
use Rattle.c_erasure.specs.Scopes.{AnObject, ALocal, AFunction, AMention, FileScope, at_file_scope, declared}
use Rattle.c_erasure.specs.Recognised.{recognising}
use Rattle.c_erasure.specs.SizeOperands.{operands_in_statement}
use Rattle.c_erasure.specs.InitialMentions.{told_by_initial}

-- ---- trees with allocations recognised

abbrev pub recognised_value : Trees.PartValue Noted → Trees.PartValue Noted
recognised_value = changed_value recognising

abbrev pub recognised_part : Trees.Part Noted → Trees.Part Noted
recognised_part = changed_part recognising

abbrev pub recognised_initializer : Trees.Initializer Noted → Trees.Initializer Noted
recognised_initializer = changed_initializer recognising

abbrev pub recognised_statement : Trees.Statement Noted → Trees.Statement Noted
recognised_statement = changed_statement recognising

abbrev pub recognised_statements : Trees.Statements Noted → Trees.Statements Noted
recognised_statements = changed_statements recognising

abbrev pub recognised_arms : Trees.Arms Noted → Trees.Arms Noted
recognised_arms = changed_arms recognising

-- ---- mentions: a `sizeof` that is the size operand of an allocation is none. First values of objects allocate nothing

abbrev pub if_any : {A : Type 0} → Option A → List A
if_any None = []
if_any (Some x) = x ∷ []

abbrev pub bodies : FileScope → List (Trees.Statement Noted)
bodies f = flat_map (λ g. if_any g.body) f.functions

abbrev pub size_operands : FileScope → List ℕ
size_operands f = flat_map operands_in_statement (bodies f)

abbrev pub is_among : List ℕ → ℕ → Bool
is_among places at = list_any (λ place. place == at) places

abbrev pub is_sizeof : MentionKind → Bool
is_sizeof Sizeof = true
is_sizeof kind = false

abbrev pub is_size_operand : FileScope → AMention → Bool
is_size_operand f m = is_sizeof m.kind && is_among (size_operands f) m.at

abbrev pub typed_initializer : Trees.Initializer Noted → Trees.Initializer CType
typed_initializer i = mapped_initializer (of_types (λ t. t.ty)) (recognised_initializer i)

abbrev pub mentions : FileScope → List AMention
mentions f = filter (λ m. not (is_size_operand f m)) f.mentions ++ flat_map (λ o. told_by_initial (option_map typed_initializer o.initial)) f.objects

-- ---- what an object holds at first: a null pointer is what lies there without a value

abbrev pub Stores : Type 0
Stores = ℕ × CType × InitialValue

abbrev pub of_text : ℕ → List ℕ → List Stores
of_text at [] = []
of_text at (v ∷ more) = (at, integer Char, a_number Char v) ∷ of_text (at + 1) more

abbrev pub stored : CType → ℕ → Option InitialValue → List Stores
stored t at None = []
stored t at (Some a_null) = []
stored t at (Some v) = (at, t, v) ∷ []

abbrev pub of_expression : FileScope → ℕ → Trees.Expression CType → List Stores
of_expression f at e = stored (ty e) at (initial_value (declared (at_file_scope f)) e)

abbrev pub of_value : FileScope → ℕ → Trees.PartValue CType → List Stores
of_value f at (Trees.value e) = of_expression f at e
of_value f at (Trees.record_of p) = []
of_value f at (Trees.text bytes) = of_text at bytes

abbrev pub of_part : FileScope → Trees.Part CType → List Stores
of_part f part = of_value f part.offset part.value

abbrev pub of_initializer : FileScope → Trees.Initializer CType → List Stores
of_initializer f (Trees.whole e) = of_expression f 0 e
of_initializer f (Trees.whole_record p) = []
of_initializer f (Trees.parts all) = flat_map (of_part f) all

abbrev pub stored_in : FileScope → AnObject → List Stores
stored_in f o = flat_map (λ i. of_initializer f (typed_initializer i)) (if_any o.initial)

-- ---- types, each once, in the order in which they stand first: in objects, functions and mentions

abbrev pub type_if_pointer : Stores → List CType
type_if_pointer (at, t, v) = if is_pointer t then t ∷ [] else []

abbrev pub object_types : FileScope → AnObject → List CType
object_types f o = o.ty ∷ flat_map type_if_pointer (stored_in f o)

abbrev pub function_types : AFunction → List CType
function_types g = g.ty ∷ map (λ l. l.ty) (g.parameters ++ g.locals)
    ++ flat_map (λ s. map (λ t. t.ty) (types_in_statement (recognised_statement s))) (if_any g.body)

abbrev pub all_types : FileScope → List CType
all_types f = flat_map (object_types f) f.objects ++ flat_map function_types f.functions ++ map (λ m. m.ty) (mentions f)

abbrev pub new_among : List CType → List CType → List CType
new_among known [] = []
new_among known (t ∷ more) = if list_any (same_type t) known then new_among known more else t ∷ new_among (t ∷ known) more

abbrev pub types : FileScope → List CType
types f = new_among [] (all_types f)

-- the place of a type in a list
abbrev pub number_in : List CType → CType → ℕ
number_in [] t = 0
number_in (s ∷ more) t = if same_type s t then 0 else number_in more t + 1

-- ---- the unit

abbrev pub initial : FileScope → Stores → Initial
initial f (at, t, a_number kind v) = record { offset = at; value = V.Number kind v }
initial f (at, t, a_null) = record { offset = at; value = V.Number UInt 0 }
initial f (at, t, an_address a) = record { offset = at; value = V.Address (number_in (types f) t) a.object a.offset }
initial f (at, t, a_function g) = record { offset = at; value = V.Function (number_in (types f) t) g }

abbrev pub object : FileScope → AnObject → Object
object f o = record {
  name = o.name;
  place = o.place;
  ty = number_in (types f) o.ty;
  linked = o.is_linked;
  text = is_some o.literal;
  initial = option_map (λ i. map (initial f) (of_initializer f (typed_initializer i))) o.initial;
}

-- a local is kept by name where it is a number or a pointer and its address is never taken
abbrev pub is_block : List ℕ → ℕ → CType → Bool
is_block taken n t = not (is_scalar t) || is_among taken n

abbrev pub locals : FileScope → List ℕ → ℕ → List ALocal → List Local
locals f taken n [] = []
locals f taken n (l ∷ more) = record { name = l.name; ty = number_in (types f) l.ty; block = is_block taken n l.ty } ∷ locals f taken (n + 1) more

abbrev pub taken_in : AFunction → List ℕ
taken_in g = flat_map (λ s. addressed_by_statement (recognised_statement s)) (if_any g.body)

abbrev pub function : FileScope → AFunction → FunctionData
function f g = record {
  name = g.name;
  place = g.place;
  ty = number_in (types f) g.ty;
  is_linked = g.is_linked;
  parameters = locals f (taken_in g) 0 g.parameters;
  locals = locals f (taken_in g) (length g.parameters) g.locals;
  body = option_map (λ s. mapped_statement (of_types (λ t. number_in (types f) t.ty)) (recognised_statement s)) g.body;
  nodes = g.nodes;
}

abbrev pub mention : FileScope → AMention → Mention
mention f m = record { kind = m.kind; ty = number_in (types f) m.ty; place = record { file = f.file; at = m.at } }

-- the unit of an annotated file, and of its tree
abbrev pub unit_of : List Syntax.Item → FileScope → UnitData
unit_of items f = record {
  records = f.records;
  incomplete = drop (length f.records) f.numbered;
  types = types f;
  objects = map (object f) f.objects;
  functions = map (function f) f.functions;
  mentions = map (mention f) (mentions f);
  nodes = (size_items items).nodes;
}
