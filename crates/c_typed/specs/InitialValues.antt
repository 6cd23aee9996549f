-- The values that an object may hold before the program starts (C99 6.6, 6.7.8): numbers, null pointers, and addresses of functions and of
-- objects that live as long as the program, with a number of bytes.
use Rattle.std.specs.Prelude.{ℕ, Bool, true, false, ◌&&◌, if◌then◌else◌, nat_le, nat_lt, min, ◌-◌, ◌^◌, ℤ, pos, negsuc, ◌+ℤ◌, ◌*ℤ◌, List, Option, Some, None}
use Rattle.std.specs.Prelude.{get_or}
use Rattle.c_types.specs.declared.ty.IntKind.{IntKind}
use Rattle.c_types.specs.Types.{CType, void, integer, pointer, array, Record}
use Rattle.c_types.specs.Layouts.{size_of, offset_of}
use Rattle.c_typed.specs.declared.operators.PointerOp.{PointerOp}
use Rattle.c_typed.specs.declared.operators.PointerOp.TheVariants as P
use Rattle.c_typed.specs.Trees as Trees
use Rattle.c_typed.specs.Trees.{Expression, expression, Node, Path, path, PathNode}
use Rattle.c_typed.specs.Conversions.{is_pointer, number_of}
use Rattle.c_typed.specs.Constants.{Constant, valued, kind_of, ty, constant_of, is_null}
use Rattle.c_typed.specs.Subscripts.{is_subscript}
use Rattle.c_typed.specs.Typed.{Declared}

-- a byte of an object, or the end of it
pub record Address : Type 0 where
  pub object : ℕ
  pub offset : ℕ

pub data InitialValue : Type 0 where
  a_number : (kind : IntKind) → (v : ℕ) → InitialValue
  a_null : InitialValue
  an_address : (a : Address) → InitialValue
  a_function : (f : ℕ) → InitialValue

-- the number that a constant stands for
abbrev pub number_in : CType → Constant → Option ℤ
number_in t (valued v) = Some (number_of (kind_of t) v)
number_in t c = None

abbrev pub element_size : List Record → CType → ℕ
element_size records (pointer t) = size_of records t
element_size records t = 0

abbrev pub negated : ℤ → ℤ
negated z = negsuc 0 *ℤ z

module _ (d : Declared) where
  -- the end of an object, which is a number of 32 bits
  abbrev pub end_of : (object : ℕ) → ℕ
  end_of n = min (size_of d.records (get_or d.objects n void)) (2 ^ 32 - 1)

  abbrev pub within : ℕ → ℤ → Option Address
  within n (negsuc k) = None
  within n (pos offset) = if nat_le offset (end_of n) then Some (record { object = n; offset = offset }) else None

  -- so many elements further on in the object, and at most at its end
  abbrev pub moved : Option Address → Option ℤ → (size : ℕ) → Option Address
  moved None k size = None
  moved (Some a) None size = None
  moved (Some a) (Some k) size = within a.object (pos a.offset +ℤ k *ℤ pos size)

  -- an element of an array; as the operand of `&` its end too
  abbrev pub subscripted : (addressed : Bool) → CType → Option Address → Option ℤ → Option Address
  subscripted addressed (array t n) (Some a) (Some k) = if is_subscript n addressed k then moved (Some a) (Some k) (size_of d.records t) else None
  subscripted addressed t a k = None

  -- a field, whose first byte lies in the object
  abbrev pub inside : Option Address → Option Address
  inside None = None
  inside (Some a) = if nat_lt a.offset (size_of d.records (get_or d.objects a.object void)) then Some a else None

  abbrev pub or_negated : PointerOp → Option ℤ → Option ℤ
  or_negated P.Add k = k
  or_negated P.Subtract None = None
  or_negated P.Subtract (Some k) = Some (negated k)

  abbrev pub path_type : Path CType → CType
  path_type (path t at step) = t

  -- where a path leads, which may be the operand of `&`; what is undefined in a function has no address here
  abbrev mutual
    pub address_of_path : (addressed : Bool) → Path CType → Option Address
    address_of_path addressed (path t at step) = address_of_step addressed step

    pub address_of_step : (addressed : Bool) → PathNode CType → Option Address
    address_of_step addressed (Trees.local n) = None
    address_of_step addressed (Trees.object n) = Some (record { object = n; offset = 0 })
    address_of_step addressed (Trees.deref e) = address_in e
    address_of_step addressed (Trees.index e i) = moved (address_in e) (number_in (ty i) (constant_of i)) (element_size d.records (ty e))
    address_of_step addressed (Trees.member p r field) = inside (moved (address_of_path false p) (Some (pos (offset_of d.records r field))) 1)
    address_of_step addressed (Trees.element p i) = subscripted addressed (path_type p) (address_of_path false p) (number_in (ty i) (constant_of i))

    pub address_in : Expression CType → Option Address
    address_in (expression t at node) = address_in_node t node

    pub address_in_node : CType → Node CType → Option Address
    address_in_node t (Trees.address_of p) = address_of_path true p
    address_in_node t (Trees.decay p) = address_of_path false p
    address_in_node t (Trees.convert e written) = if is_pointer t then address_in e else None
    address_in_node t (Trees.pointer_add op x y) = if is_pointer (ty x)
        then moved (address_in x) (or_negated op (number_in (ty y) (constant_of y))) (element_size d.records t)
        else moved (address_in y) (number_in (ty x) (constant_of x)) (element_size d.records t)
    address_in_node t node = None

  -- a function's address, converted or not
  abbrev mutual
    pub function_in : Expression CType → Option ℕ
    function_in (expression t at node) = function_in_node t node

    pub function_in_node : CType → Node CType → Option ℕ
    function_in_node t (Trees.function_name f) = Some f
    function_in_node t (Trees.convert e written) = if is_pointer t then function_in e else None
    function_in_node t node = None

  -- a null pointer constant, converted or not
  abbrev mutual
    pub is_null_in : Expression CType → Bool
    is_null_in (expression t at node) = is_null_in_node t node

    pub is_null_in_node : CType → Node CType → Bool
    is_null_in_node t Trees.null = true
    is_null_in_node t (Trees.convert e written) = is_pointer t && (if is_null e then true else is_null_in e)
    is_null_in_node t node = false

  abbrev pub as_function : Option ℕ → Option InitialValue
  as_function None = None
  as_function (Some f) = Some (a_function f)

  abbrev pub as_address : Option Address → Option InitialValue → Option InitialValue
  as_address None other = other
  as_address (Some a) other = Some (an_address a)

  abbrev pub as_number : IntKind → Constant → Option InitialValue
  as_number kind (valued v) = Some (a_number kind v)
  as_number kind c = None

  -- the value of a constant expression, or none
  abbrev pub initial_in : CType → Expression CType → Option InitialValue
  initial_in (integer kind) e = as_number kind (constant_of e)
  initial_in t e = if is_null_in e then Some a_null else as_address (address_in e) (as_function (function_in e))

  abbrev pub initial_value : Expression CType → Option InitialValue
  initial_value e = initial_in (ty e) e
