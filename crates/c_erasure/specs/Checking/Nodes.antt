-- What is made of the parts of an expression once they are found: a typed node, or the rule that is broken (C99 6.5). `count` records are
-- complete where the node begins.
use Rattle.std.specs.Prelude.{ℕ, ◌+◌, ◌&&◌, Bool, true, false, nat_le, nat_lt, if◌then◌else◌, List, [], ◌∷◌, length, slice_get}
use Rattle.std.specs.Prelude.{Option, Some, None, Ok, Err}
use Rattle.std.specs.Str.{bytes_eq}
use Rattle.lay_base.specs.declared.place.Place.{Place}
use Rattle.lay_base.specs.declared.faults.Rule.TheVariants as R
use Rattle.c_types.specs.declared.ty.IntKind.TheVariants.{Int, UInt}
use Rattle.c_types.specs.Types.{CType, CTypes, void, integer, pointer, array, function, structure, Field, Record}
use Rattle.c_types.specs.Layouts.{size_of}
use Rattle.c_types.specs.Objects.{is_object, parts}
use Rattle.c_types.specs.Sameness.{same_type}
use Rattle.c_typed.specs.declared.operators.UnaryOp.{UnaryOp}
use Rattle.c_typed.specs.declared.operators.StepOp.{StepOp}
use Rattle.c_typed.specs.declared.operators.CompareOp.{CompareOp}
use Rattle.c_typed.specs.declared.operators.BinaryOp.{BinaryOp}
use Rattle.c_typed.specs.declared.operators.BinaryOp.TheVariants as B
use Rattle.c_typed.specs.declared.operators.PointerOp.{PointerOp}
use Rattle.c_typed.specs.declared.operators.PointerOp.TheVariants as P
use Rattle.c_typed.specs.Trees as Typed
use Rattle.c_typed.specs.Conversions.{is_integer, is_scalar, is_function, promoted}
use Rattle.c_typed.specs.Constants.{is_null}
use Rattle.c_typed.specs.Fits.{assigns, casts}
use Rattle.c_typed.specs.Rules.{on_numbers, comparing, choosing, moving, differing, updating, is_stepped, points_to_object}
use Rattle.c_erasure.specs.Broken.{Fault, ill_typed, undeclared, too_big, called_type, misplaced}
use Rattle.c_erasure.specs.Erasure.{typed, unmade}
use Rattle.c_erasure.specs.Noted.{Noted, Expression, Path, Node, Thing, an_object, a_value, a_function, a_function_at, a_library_function, size_of as sized}
use Rattle.c_erasure.specs.Noted.{value, way, type_of, type_of_path, value_of}
use Rattle.c_erasure.specs.Operators.{Kind, computes, compares, all_of, any_of}
use Rattle.c_erasure.specs.Scopes.{Entity, typedef, enumerator, a_local, a_parameter}
use Rattle.c_erasure.specs.Scopes as Scopes
use Rattle.c_erasure.specs.Checking.Answers.{Answer, refused}

-- ---- values

abbrev pub place_of : Expression → Place
place_of (Typed.expression t at node) = at

abbrev pub null : Expression → Bool
null x = is_null (typed x)

-- a value as one of a type
abbrev pub converted : CType → Expression → Expression
converted t x = if same_type (type_of x) t then x else value t (place_of x) (Typed.convert x false)

abbrev pub valued : ℕ → Thing → Option Expression → Answer Expression
valued at th (Some x) = Ok x
valued at (a_library_function from which) None = refused R.Library at
valued at th None = refused R.ByValue at

-- the value of what stands there; `at` is where it begins
unfoldable pub worth : ℕ → Thing → Answer Expression
worth at th = valued at th (value_of th)

abbrev pub a_node : CType → Place → Node → Answer Thing
a_node t at node = Ok (a_value (value t at node))

abbrev pub a_way : CType → Place → Typed.PathNode Noted → Answer Thing
a_way t at step = Ok (an_object (way t at step))

-- ---- primary expressions (6.5.1)

-- `x` stands at `at`
unfoldable pub named_in : Place → List ℕ → Option Entity → Answer Thing
named_in at x None = Err (undeclared x at.at)
named_in at x (Some (typedef t)) = refused R.Operands at.at
named_in at x (Some (enumerator v)) = a_node (integer Int) at (Typed.constant v)
named_in at x (Some (Scopes.an_object n t)) = a_way t at (Typed.object n)
named_in at x (Some (Scopes.a_function f t)) = Ok (a_function at f t)
named_in at x (Some (Scopes.a_library_function which)) = Ok (a_library_function at which)
named_in at x (Some (a_local n t)) = a_way t at (Typed.local n)
named_in at x (Some (a_parameter t)) = Ok (unmade at t)

-- ---- subscripts (6.5.2.1)

-- an integer converted by the integer promotions
abbrev pub promoted_value : Expression → Expression
promoted_value x = converted (promoted (type_of x)) x

-- an element of an array object; `left` is where the bracket stands
abbrev pub element_to : ℕ → Place → Path → CType → Expression → Answer Thing
element_to left at p t i = if is_integer (type_of i) then a_way t at (Typed.element p (promoted_value i)) else refused R.Operands left

abbrev pub index_to : Place → Expression → Expression → CType → Answer Thing
index_to at e i (pointer t) = a_way t at (Typed.index e (promoted_value i))
index_to at e i t = refused R.Operands at.at

abbrev pub turned_to : Place → Expression → Expression → CType → Answer Thing
turned_to at i e (pointer t) = a_way t at (Typed.deref (value (pointer t) at (Typed.pointer_add P.Add (promoted_value i) e)))
turned_to at i e t = refused R.Operands at.at

unfoldable pub index_in : (count : ℕ) → (left : ℕ) → Place → Expression → Expression → Answer Thing
index_in count left at x y =
    if points_to_object count (type_of x) && is_integer (type_of y) then index_to at x y (type_of x)
    else (if is_integer (type_of x) && points_to_object count (type_of y) then turned_to at x y (type_of y) else refused R.Operands left)

-- the path of an array object, and the type of its elements
abbrev pub array_of_type : Path → CType → Option (Path × CType)
array_of_type p (array t n) = Some (p, t)
array_of_type p t = None

unfoldable pub array_of : Thing → Option (Path × CType)
array_of (an_object p) = array_of_type p (type_of_path p)
array_of th = None

unfoldable pub element_in : (left : ℕ) → Place → Path × CType → Expression → Answer Thing
element_in left at a i = element_to left at a.0 a.1 i

-- ---- calls (6.5.2.2)

-- the types of the parameters, and of the result, of what is called; `at` is where it begins
abbrev pub signature_of : ℕ → Option CType → Answer (CTypes × CType)
signature_of at (Some (function t parameters)) = Ok (parameters, t)
signature_of at o = refused R.Callee at

unfoldable pub signature_in : ℕ → Thing → Answer (CTypes × CType)
signature_in at th = signature_of at (called_type th)

unfoldable pub argument_in : ℕ → CType → Expression → Answer Expression
argument_in at t x = if assigns (type_of x) (null x) t then Ok (converted t x) else refused R.Arguments at

abbrev pub call_through : CType → Place → Typed.Expressions Noted → Option Expression → Answer Thing
call_through t at all (Some e) = a_node t at (Typed.call_through e all)
call_through t at all None = refused R.Callee at.at

unfoldable pub call_in : Place → Thing → CType → Typed.Expressions Noted → Answer Thing
call_in at (a_function from f s) t all = a_node t at (Typed.call f all)
call_in at (a_library_function from which) t all = a_node t at (Typed.library which all)
call_in at th t all = call_through t at all (value_of th)

-- ---- members (6.5.2.3)

-- the first field of that name, from a number on
abbrev pub field_from : ℕ → List Field → List ℕ → Option (ℕ × CType)
field_from k [] x = None
field_from k (f ∷ more) x = if bytes_eq f.name x then Some (k, f.ty) else field_from (k + 1) more x

abbrev pub field_in : Option Record → List ℕ → Option (ℕ × CType)
field_in None x = None
field_in (Some rec) x = field_from 0 rec.fields x

abbrev pub member_to : ℕ → Place → Path → ℕ → Option (ℕ × CType) → Answer Thing
member_to named at p r None = refused R.Member named
member_to named at p r (Some f) = a_way f.1 at (Typed.member p r f.0)

-- of a structure; `named` is where the field's name stands
abbrev pub member_of_type : List Record → (count named : ℕ) → Place → Path → CType → List ℕ → Answer Thing
member_of_type records count named at p (structure r) x =
    if is_object count (structure r) then member_to named at p r (field_in (slice_get records r) x) else refused R.Incomplete named
member_of_type records count named at p t x = refused R.Member named

unfoldable pub dot_in : List Record → (count named : ℕ) → Place → Thing → List ℕ → Answer Thing
dot_in records count named at (an_object p) x = member_of_type records count named at p (type_of_path p) x
dot_in records count named at th x = Err (misplaced th R.Member named at.at)

abbrev pub arrow_to : List Record → (count named : ℕ) → Place → Expression → CType → List ℕ → Answer Thing
arrow_to records count named at e (pointer t) x = member_of_type records count named at (way t at (Typed.deref e)) t x
arrow_to records count named at e t x = refused R.Member named

unfoldable pub arrow_in : List Record → (count named : ℕ) → Place → Expression → List ℕ → Answer Thing
arrow_in records count named at e x = arrow_to records count named at e (type_of e) x

-- ---- unary operators (6.5.2.4, 6.5.3)

-- `from` is where the operand begins, `op_at` where the operator stands
unfoldable pub step_in : (count from op_at : ℕ) → Place → StepOp → Bool → Thing → Answer Thing
step_in count from op_at at op before (an_object p) =
    if is_stepped count (type_of_path p) then a_node (type_of_path p) at (Typed.step op before p) else refused R.Operands op_at
step_in count from op_at at op before th = refused R.Lvalue from

unfoldable pub address_in : (from : ℕ) → Place → Thing → Answer Thing
address_in from at (an_object p) =
    if nat_lt (parts (type_of_path p)) 1024 then a_node (pointer (type_of_path p)) at (Typed.address_of p) else Err (too_big at.at)
address_in from at (a_function f_at f t) = a_node (pointer t) at (Typed.function_name f)
address_in from at (a_function_at e) = Ok (a_value e)
address_in from at (a_value e) = Err (misplaced (a_value e) R.Lvalue at.at from)
address_in from at (a_library_function f_at which) = refused R.Library from

abbrev pub pointed_to : (count : ℕ) → Place → Expression → CType → Answer Thing
pointed_to count at e (pointer t) =
    if is_function t then Ok (a_function_at e)
    else (if is_object count t then a_way t at (Typed.deref e) else refused R.Incomplete at.at)
pointed_to count at e t = refused R.Operands at.at

unfoldable pub deref_in : (count : ℕ) → Place → Expression → Answer Thing
deref_in count at e = pointed_to count at e (type_of e)

unfoldable pub unary_in : Place → UnaryOp → Expression → Answer Thing
unary_in at op x =
    if is_integer (type_of x) then a_node (promoted (type_of x)) at (Typed.unary op (promoted_value x)) else refused R.Operands at.at

unfoldable pub not_in : Place → Expression → Answer Thing
not_in at x = if is_scalar (type_of x) then a_node (integer Int) at (Typed.not x) else refused R.Operands at.at

-- ---- `sizeof` and casts (6.5.3.4, 6.5.4)

-- the type of an operand of `sizeof`
unfoldable pub measured_type : Thing → Option CType
measured_type (an_object p) = Some (type_of_path p)
measured_type (a_value e) = Some (type_of e)
measured_type th = None

abbrev pub size_node : List Record → Place → CType → Thing
size_node records at t =
    a_value (Typed.expression (record { ty = integer UInt; note = sized t at.at }) at (Typed.constant (size_of records t)))

-- a complete object type whose records are all in the list
abbrev pub is_complete : List Record → (count : ℕ) → CType → Bool
is_complete records count t = is_object count t && is_object (length records) t

-- no size passes the limit
abbrev pub of_limited_size : List Record → (at : ℕ) → CType → Answer CType
of_limited_size records at t = if nat_le (size_of records t) 16777216 then Ok t else Err (too_big at)

-- a type whose size is asked; where it is not complete, that fault is named
abbrev pub sized_or : List Record → (count at : ℕ) → Fault → CType → Answer CType
sized_or records count at sizeless t = if is_complete records count t then of_limited_size records at t else Err sizeless

unfoldable pub sized_type : List Record → (count at : ℕ) → CType → Answer CType
sized_type records count at t = sized_or records count at (ill_typed R.Incomplete at) t

abbrev pub measured_of : List Record → (count at : ℕ) → Fault → Option CType → Answer CType
measured_of records count at sizeless None = Err sizeless
measured_of records count at sizeless (Some t) = sized_or records count at sizeless t

-- `from` is where the operand begins
unfoldable pub measured_in : List Record → (count at from : ℕ) → Thing → Answer CType
measured_in records count at from th = measured_of records count at (misplaced th R.Incomplete at from) (measured_type th)

unfoldable pub cast_in : Place → CType → Expression → Answer Thing
cast_in at t x = if casts (type_of x) (null x) t then a_node t at (Typed.convert x true) else refused R.Cast at.at

-- ---- binary operators (6.5.5 to 6.5.14); `op_at` is where the operator stands

abbrev pub number_node : Place → BinaryOp → Expression → Expression → CType × CType → Answer Thing
number_node at op x y t = a_node t.0 at (Typed.binary op (converted t.0 x) (converted t.1 y))

-- a pointer and a number
abbrev pub forward_node : Place → PointerOp → Expression → Expression → CType → Answer Thing
forward_node at op x y w = a_node (type_of x) at (Typed.pointer_add op x (converted w y))

-- a number and a pointer
abbrev pub backward_node : Place → Expression → Expression → CType → Answer Thing
backward_node at x y w = a_node (type_of y) at (Typed.pointer_add P.Add (converted w x) y)

abbrev pub or_else : {A B : Type 0} → Option A → (A → B) → B → B
or_else None f other = other
or_else (Some x) f other = f x

abbrev pub added_in : (count op_at : ℕ) → Place → Expression → Expression → Answer Thing
added_in count op_at at x y = or_else (moving count (type_of x) (type_of y)) (forward_node at P.Add x y)
    (or_else (moving count (type_of y) (type_of x)) (backward_node at x y) (refused R.Operands op_at))

abbrev pub subtracted_in : (count op_at : ℕ) → Place → Expression → Expression → Answer Thing
subtracted_in count op_at at x y = or_else (moving count (type_of x) (type_of y)) (forward_node at P.Subtract x y)
    (if differing count (type_of x) (type_of y) then a_node (integer Int) at (Typed.pointer_difference x y) else refused R.Operands op_at)

abbrev pub on_pointers : (count op_at : ℕ) → Place → BinaryOp → Expression → Expression → Answer Thing
on_pointers count op_at at B.Add x y = added_in count op_at at x y
on_pointers count op_at at B.Subtract x y = subtracted_in count op_at at x y
on_pointers count op_at at op x y = refused R.Operands op_at

unfoldable pub computed_in : (count op_at : ℕ) → Place → BinaryOp → Expression → Expression → Answer Thing
computed_in count op_at at op x y =
    or_else (on_numbers op (type_of x) (type_of y)) (number_node at op x y) (on_pointers count op_at at op x y)

abbrev pub compare_node : Place → CompareOp → Expression → Expression → CType → Answer Thing
compare_node at op x y t = a_node (integer Int) at (Typed.compare op (converted t x) (converted t y))

unfoldable pub compared_in : (op_at : ℕ) → Place → CompareOp → Expression → Expression → Answer Thing
compared_in op_at at op x y =
    or_else (comparing op (type_of x) (null x) (type_of y) (null y)) (compare_node at op x y) (refused R.Operands op_at)

unfoldable pub tested_in : (op_at : ℕ) → Place → Node → Expression → Expression → Answer Thing
tested_in op_at at node x y = if is_scalar (type_of x) && is_scalar (type_of y) then a_node (integer Int) at node else refused R.Operands op_at

abbrev pub binary_in : (count op_at : ℕ) → Place → Kind → Expression → Expression → Answer Thing
binary_in count op_at at (computes op) x y = computed_in count op_at at op x y
binary_in count op_at at (compares op) x y = compared_in op_at at op x y
binary_in count op_at at all_of x y = tested_in op_at at (Typed.both x y) x y
binary_in count op_at at any_of x y = tested_in op_at at (Typed.either x y) x y

-- ---- `?:`, assignments and the comma (6.5.15 to 6.5.17)

-- what is tested against zero; `at` is where the fault is named
unfoldable pub tested : (at : ℕ) → Expression → Answer Expression
tested at x = if is_scalar (type_of x) then Ok x else refused R.Operands at

abbrev pub choice_node : Place → Expression → Expression → Expression → CType → Answer Thing
choice_node at x y z t = a_node t at (Typed.choose x (converted t y) (converted t z))

unfoldable pub chosen_in : (colon : ℕ) → Place → Expression → Expression → Expression → Answer Thing
chosen_in colon at x y z =
    or_else (choosing (type_of y) (null y) (type_of z) (null z)) (choice_node at x y z) (refused R.Operands colon)

-- what is assigned, with its type; `from` is where it begins
pub data Target : Type 0 where
  scalar_at : (p : Path) → Target
  record_at : (p : Path) → Target

abbrev pub target_of_type : (from : ℕ) → Path → CType → Answer Target
target_of_type from p (integer kind) = Ok (scalar_at p)
target_of_type from p (pointer t) = Ok (scalar_at p)
target_of_type from p (structure r) = Ok (record_at p)
target_of_type from p t = refused R.Lvalue from

unfoldable pub target_in : (from : ℕ) → Thing → Answer Target
target_in from (an_object p) = target_of_type from p (type_of_path p)
target_in from th = refused R.Lvalue from

abbrev pub path_of : Target → Path
path_of (scalar_at p) = p
path_of (record_at p) = p

-- the plain assignment of a number or a pointer
unfoldable pub assigned_in : (op_at : ℕ) → Place → Path → Expression → Answer Thing
assigned_in op_at at p x =
    if assigns (type_of x) (null x) (type_of_path p) then a_node (type_of_path p) at (Typed.assign p (converted (type_of_path p) x))
    else refused R.Assign op_at

-- that of a record; `from` is where the right operand begins
unfoldable pub copied_in : (op_at from : ℕ) → Place → Path → Thing → Answer Thing
copied_in op_at from at p (an_object q) =
    if same_type (type_of_path q) (type_of_path p) then a_node void at (Typed.copy_record p q) else refused R.Assign op_at
copied_in op_at from at p th = Err (misplaced th R.Assign op_at from)

abbrev pub update_node : Place → BinaryOp → Path → Expression → CType → Answer Thing
update_node at op p x w = a_node (type_of_path p) at (Typed.assign_op op p (converted w x))

unfoldable pub updated_in : (count op_at : ℕ) → Place → BinaryOp → Path → Expression → Answer Thing
updated_in count op_at at op p x = or_else (updating count op (type_of_path p) (type_of x)) (update_node at op p x) (refused R.Operands op_at)

unfoldable pub comma_in : Place → Expression → Expression → Answer Thing
comma_in at x y = a_node (type_of y) at (Typed.comma x y)
