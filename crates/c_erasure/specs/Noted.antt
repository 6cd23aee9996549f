-- The typed tree of an expression as the checker keeps it: types stand at its nodes, and beside them what later decisions ask of the text.
use Rattle.std.specs.Prelude.{ℕ, Bool, true, false, Option, Some, None}
use Rattle.lay_base.specs.declared.place.Place.{Place}
use Rattle.c_types.specs.Types.{CType, integer, pointer, array}
use Rattle.c_typed.specs.declared.operators.LibraryFunction.{LibraryFunction}
use Rattle.c_typed.specs.Trees

-- of a constant: it is the size of that type, by the `sizeof` that stands there
pub data Note : Type 0 where
  nothing : Note
  size_of : (t : CType) → (at : ℕ) → Note

pub record Noted : Type 0 where
  pub ty : CType
  pub note : Note

abbrev pub plain : CType → Noted
plain t = record { ty = t; note = nothing }

abbrev pub Expression : Type 0
Expression = Trees.Expression Noted

abbrev pub Path : Type 0
Path = Trees.Path Noted

abbrev pub Node : Type 0
Node = Trees.Node Noted

abbrev pub PathNode : Type 0
PathNode = Trees.PathNode Noted

-- an expression, or a path, of a type
abbrev pub value : CType → Place → Node → Expression
value t at node = Trees.expression (plain t) at node

abbrev pub way : CType → Place → PathNode → Path
way t at step = Trees.path (plain t) at step

abbrev pub type_of : Expression → CType
type_of (Trees.expression t at node) = t.ty

abbrev pub type_of_path : Path → CType
type_of_path (Trees.path t at step) = t.ty

abbrev pub place_of_path : Path → Place
place_of_path (Trees.path t at step) = at

-- ---- what an expression of C designates (6.3.2.1, 6.5.1): an object, a value, or a function

pub data Thing : Type 0 where
  an_object : (p : Path) → Thing
  a_value : (e : Expression) → Thing
  -- a function by its number, with its type
  a_function : (at : Place) → (f : ℕ) → (t : CType) → Thing
  -- the function to which a pointer points
  a_function_at : (e : Expression) → Thing
  a_library_function : (at : Place) → (which : LibraryFunction) → Thing

-- the value of an assignment of a record (6.5.16)
abbrev pub copies_record : Node → Bool
copies_record (Trees.copy_record p q) = true
copies_record node = false

abbrev pub is_copy : Thing → Bool
is_copy (a_value (Trees.expression t at node)) = copies_record node
is_copy th = false

-- the value of an object: a number or a pointer is loaded, an array becomes a pointer to its first element
abbrev pub object_value : Path → CType → Option Expression
object_value p (integer kind) = Some (value (integer kind) (place_of_path p) (Trees.load p))
object_value p (pointer t) = Some (value (pointer t) (place_of_path p) (Trees.load p))
object_value p (array t n) = Some (value (pointer t) (place_of_path p) (Trees.decay p))
object_value p t = None

-- a function becomes a pointer to it; that of the library stands only where it is called (own)
abbrev pub value_of : Thing → Option Expression
value_of (an_object p) = object_value p (type_of_path p)
value_of (a_value e) = Some e
value_of (a_function at f t) = Some (value (pointer t) at (Trees.function_name f))
value_of (a_function_at e) = Some e
value_of (a_library_function at which) = None

-- without the implicit conversion at the top, beside which there is no note
abbrev pub unless_noted : Note → Expression → Expression → Expression
unless_noted nothing e whole = e
unless_noted (size_of t at) e whole = whole

abbrev pub unconverted : Expression → Expression
unconverted (Trees.expression t at (Trees.convert e false)) = unless_noted t.note e (Trees.expression t at (Trees.convert e false))
unconverted e = e
