-- Values are the same wherever records and the types of objects are.
use Rattle.std.proofs.Common.{◌≡◌, ℕ, Bool, true, false, ◌&&◌, List, [], refl, ap, ◌∙◌}
use Rattle.std.specs.Prelude.{if◌then◌else◌, ℤ, pos, negsuc, Option, Some, None}
use Rattle.c_types.specs.declared.ty.IntKind.{IntKind}
use Rattle.c_types.specs.Types.{CType, void, integer, pointer, array, function, structure, Record}
use Rattle.c_types.specs.Layouts.{offset_of, size_of}
use Rattle.c_typed.specs.declared.operators.PointerOp.{PointerOp}
use Rattle.c_typed.specs.declared.operators.PointerOp.TheVariants as P
use Rattle.c_typed.specs.Constants.{Constant, none, undefined, valued, constant_of, is_null, ty}
use Rattle.c_typed.specs.Conversions.{is_pointer}
use Rattle.c_typed.specs.InitialValues.{Address, InitialValue, a_null, address_in, address_in_node, address_of_path, address_of_step, as_address, as_function}
use Rattle.c_typed.specs.InitialValues.{as_number, element_size, function_in, function_in_node, initial_in, initial_value, is_null_in, is_null_in_node}
use Rattle.c_typed.specs.InitialValues.{inside, moved, number_in, or_negated, path_type, subscripted, within}
use Rattle.c_typed.specs.Subscripts.{is_subscript}
use Rattle.c_typed.specs.Trees as Trees
use Rattle.c_typed.specs.Typed.{Declared}
use Rattle.c_initial_values.specs.Values.{declared_by}

chosen : (b : Bool) {x y z w : Option Address} → x ≡ y → z ≡ w → (if b then x else z) ≡ (if b then y else w)
chosen true h k = h
chosen false h k = k

module _ (one two : Declared) where
  mutual
    function_alike : (e : Trees.Expression CType) → function_in one e ≡ function_in two e
    function_alike (Trees.expression t at node) = function_node_alike t node

    function_node_alike : (t : CType) (node : Trees.Node CType) → function_in_node one t node ≡ function_in_node two t node
    function_node_alike t (Trees.convert e written) = ap (λ f. if is_pointer t then f else None) (function_alike e)
    function_node_alike t node = refl

  mutual
    null_alike : (e : Trees.Expression CType) → is_null_in one e ≡ is_null_in two e
    null_alike (Trees.expression t at node) = null_node_alike t node

    null_node_alike : (t : CType) (node : Trees.Node CType) → is_null_in_node one t node ≡ is_null_in_node two t node
    null_node_alike t (Trees.convert e written) = ap (λ b. is_pointer t && (if is_null e then true else b)) (null_alike e)
    null_node_alike t node = refl

pub function_anywhere : (d : Declared) (e : Trees.Expression CType) → function_in (declared_by [] []) e ≡ function_in d e
function_anywhere d e = function_alike (declared_by [] []) d e

pub null_anywhere : (d : Declared) (e : Trees.Expression CType) → is_null_in (declared_by [] []) e ≡ is_null_in d e
null_anywhere d e = null_alike (declared_by [] []) d e

module _ (records : List Record) (objects : List CType) (complete before : ℕ → ℕ) (locals others functions more : List CType) where
  abbrev one : Declared
  one = record { records = records; complete = complete; locals = locals; objects = objects; functions = functions }

  abbrev two : Declared
  two = record { records = records; complete = before; locals = others; objects = objects; functions = more }

  within_alike : (n : ℕ) (k : ℤ) → within one n k ≡ within two n k
  within_alike n (negsuc k) = refl
  within_alike n (pos k) = refl

  moved_alike : (a : Option Address) (k : Option ℤ) (size : ℕ) → moved one a k size ≡ moved two a k size
  moved_alike None k size = refl
  moved_alike (Some a) None size = refl
  moved_alike (Some a) (Some k) size = within_alike a.object _

  subscripted_alike : (b : Bool) (t : CType) (a : Option Address) (k : Option ℤ) → subscripted one b t a k ≡ subscripted two b t a k
  subscripted_alike b (array t n) (Some a) (Some k) =
      ap (λ o. if is_subscript n b k then o else None) (moved_alike (Some a) (Some k) (size_of records t))
  subscripted_alike b t a k = refl

  inside_alike : (a : Option Address) → inside one a ≡ inside two a
  inside_alike None = refl
  inside_alike (Some a) = refl

  negated_alike : (op : PointerOp) (k : Option ℤ) → or_negated one op k ≡ or_negated two op k
  negated_alike P.Add k = refl
  negated_alike P.Subtract None = refl
  negated_alike P.Subtract (Some k) = refl

  type_alike : (p : Trees.Path CType) → path_type one p ≡ path_type two p
  type_alike (Trees.path t at step) = refl

  mutual
    path_alike : (b : Bool) (p : Trees.Path CType) → address_of_path one b p ≡ address_of_path two b p
    path_alike b (Trees.path t at step) = step_alike b step

    step_alike : (b : Bool) (step : Trees.PathNode CType) → address_of_step one b step ≡ address_of_step two b step
    step_alike b (Trees.local n) = refl
    step_alike b (Trees.object n) = refl
    step_alike b (Trees.deref e) = address_alike e
    step_alike b (Trees.index e i) =
        ap (λ a. moved one a (number_in (ty i) (constant_of i)) (element_size records (ty e))) (address_alike e)
        ∙ moved_alike (address_in two e) _ _
    step_alike b (Trees.member p r field) =
        ap (λ a. inside one (moved one a (Some (pos (offset_of records r field))) 1)) (path_alike false p)
        ∙ ap (inside one) (moved_alike (address_of_path two false p) _ _) ∙ inside_alike _
    step_alike b (Trees.element p i) =
        ap (λ t. subscripted one b t (address_of_path one false p) (number_in (ty i) (constant_of i))) (type_alike p)
        ∙ ap (λ a. subscripted one b (path_type two p) a (number_in (ty i) (constant_of i))) (path_alike false p)
        ∙ subscripted_alike b (path_type two p) (address_of_path two false p) _

    address_alike : (e : Trees.Expression CType) → address_in one e ≡ address_in two e
    address_alike (Trees.expression t at node) = node_alike t node

    node_alike : (t : CType) (node : Trees.Node CType) → address_in_node one t node ≡ address_in_node two t node
    node_alike t (Trees.address_of p) = path_alike true p
    node_alike t (Trees.decay p) = path_alike false p
    node_alike t (Trees.convert e written) = ap (λ a. if is_pointer t then a else None) (address_alike e)
    node_alike t (Trees.pointer_add op x y) = chosen (is_pointer (ty x))
        (ap (λ a. moved one a (or_negated one op (number_in (ty y) (constant_of y))) (element_size records t)) (address_alike x)
        ∙ ap (λ k. moved one (address_in two x) k (element_size records t)) (negated_alike op (number_in (ty y) (constant_of y)))
        ∙ moved_alike (address_in two x) _ _)
        (ap (λ a. moved one a (number_in (ty x) (constant_of x)) (element_size records t)) (address_alike y)
        ∙ moved_alike (address_in two y) _ _)
    node_alike t node = refl

  function_value_alike : (f : Option ℕ) → as_function one f ≡ as_function two f
  function_value_alike None = refl
  function_value_alike (Some f) = refl

  address_value_alike : (a : Option Address) (v : Option InitialValue) → as_address one a v ≡ as_address two a v
  address_value_alike None v = refl
  address_value_alike (Some a) v = refl

  number_alike : (kind : IntKind) (c : Constant) → as_number one kind c ≡ as_number two kind c
  number_alike kind none = refl
  number_alike kind undefined = refl
  number_alike kind (valued v) = refl

  pointer_alike : (e : Trees.Expression CType) → (if is_null_in one e then Some a_null else as_address one (address_in one e) (as_function one (function_in one e)))
      ≡ (if is_null_in two e then Some a_null else as_address two (address_in two e) (as_function two (function_in two e)))
  pointer_alike e =
      ap (λ b. if b then Some a_null else as_address one (address_in one e) (as_function one (function_in one e))) (null_alike one two e)
      ∙ ap (λ v. if is_null_in two e then Some a_null else v)
      (ap (λ a. as_address one a (as_function one (function_in one e))) (address_alike e)
      ∙ ap (λ f. as_address one (address_in two e) (as_function one f)) (function_alike one two e)
      ∙ ap (λ v. as_address one (address_in two e) v) (function_value_alike (function_in two e))
      ∙ address_value_alike (address_in two e) (as_function two (function_in two e)))

  in_alike : (t : CType) (e : Trees.Expression CType) → initial_in one t e ≡ initial_in two t e
  in_alike (integer kind) e = number_alike kind (constant_of e)
  in_alike void e = pointer_alike e
  in_alike (pointer t) e = pointer_alike e
  in_alike (array t n) e = pointer_alike e
  in_alike (function t all) e = pointer_alike e
  in_alike (structure r) e = pointer_alike e

  pub values_alike : (e : Trees.Expression CType) → initial_value one e ≡ initial_value two e
  values_alike e = in_alike (ty e) e
