-- The code of expressions and paths (C99 6.5).
use Rattle.std.specs.Prelude.{ℕ, suc, ◌+◌, Bool, true, false, ◌||◌, not, if◌then◌else◌, List, ◌∷◌, length, Option, Some, None, slice_get}
use Rattle.lay_base.specs.declared.faults.UndefinedKind.TheVariants as K
use Rattle.lay_base.specs.declared.place.Place.{Place}
use Rattle.c_types.specs.declared.ty.IntKind.{IntKind}
use Rattle.c_types.specs.declared.ty.IntKind.TheVariants.{Int}
use Rattle.c_types.specs.Layouts.{offset_of}
use Rattle.c_types.specs.Types.{CType, void, integer, pointer as pointer_to}
use Rattle.c_typed.specs.declared.operators.BinaryOp.{BinaryOp}
use Rattle.c_typed.specs.declared.operators.PointerOp.TheVariants.{Add}
use Rattle.c_typed.specs.declared.operators.StepOp.{StepOp}
use Rattle.c_typed.specs.declared.program.Local.{Local}
use Rattle.c_typed.specs.Trees as T
use Rattle.c_typed.specs.Trees.{Expression, expression, Node, Path, path, PathNode, Expressions, OptionalExpression}
use Rattle.c_typed.specs.Constants.{ty, kind_of}
use Rattle.c_typed.specs.Conversions.{is_pointer, promoted_kind}
use Rattle.c_typed.specs.Programs.{ProgramData}
use Rattle.c_typed.specs.Typed.{at_of, path_at, path_ty}
use Rattle.block_memory.specs.RunWorlds.Operators.{step_op}
use Rattle.c_meaning.specs.Expressions.{count_kind}
use Rattle.c_meaning.specs.Program.{type_at, size_at, access_at, element_size, length_of}
use Rattle.tac_ir.specs.declared.step.Operand.{Operand}
use Rattle.tac_ir.specs.declared.step.Operand.TheVariants as O
use Rattle.tac_ir.specs.declared.step.Sort.{Sort}
use Rattle.tac_ir.specs.declared.step.Sort.TheVariants as Sorts
use Rattle.tac_ir.specs.declared.step.Step.TheVariants as S
use Rattle.tac_ir.specs.declared.step.Target.{Target}
use Rattle.tac_ir.specs.declared.step.Target.TheVariants as To
use Rattle.lower_tac.specs.Parts.{Steps, Part, temp, operand, code_of, held, settled, settled_operand, both_code, tested_if}

-- ---- locals: a named one is the temporary of its number, any other is a block

abbrev pub named : Option Local → (x : ℕ) → Option ℕ
named None x = None
named (Some l) x = if l.block then None else Some x

abbrev pub value_of_name : Place → Option ℕ → Option Operand
value_of_name at None = None
value_of_name at (Some x) = Some (O.Temp K.Empty x at)

-- outside of its scope it is no place
abbrev pub address_of_local : Place → (x : ℕ) → Option Local → Option Operand
address_of_local at x None = None
address_of_local at x (Some l) = if l.block then Some (O.Temp K.Dead x at) else None

abbrev pub local_code : Place → (x : ℕ) → Option Local → (to : ℕ) → Steps → Steps
local_code at x None to code = S.Fail K.Dead at ∷ code
local_code at x (Some l) to code = if l.block then S.Set to (O.Temp K.Dead x at) ∷ code else code

-- ---- which expressions may end without a value

abbrev pub is_void : CType → Bool
is_void void = true
is_void t = false

-- ---- operators

-- the old value and the new one of `op=`, `++` and `--`
abbrev pub sort_of : CType → Sort
sort_of (integer kind) = Sorts.Number kind
sort_of t = Sorts.Pointer

abbrev pub unit_kind : CType → IntKind
unit_kind (integer kind) = promoted_kind kind
unit_kind t = Int

abbrev pub convert_step : CType → Place → (to : ℕ) → Operand → Steps → Steps
convert_step (integer kind) at to a code = S.Convert to at kind a ∷ code
convert_step (pointer_to t) at to a code = S.AsPointer to at a ∷ code
convert_step t at to a code = S.Set to a ∷ code

abbrev pub count_of : {X : Type 0} → Expressions X → ℕ
count_of T.no_expressions = 0
count_of (T.and_expression e more) = suc (count_of more)

-- ---- results: a value that is dropped goes nowhere

abbrev pub result_code : Option ℕ → Operand → Steps → Steps
result_code None a code = code
result_code (Some to) a code = S.Set to a ∷ code

abbrev pub no_result : Option ℕ → Steps → Steps
no_result None code = code
no_result (Some to) code = S.Clear to ∷ code

-- ---- assignments to a named local, or else to a place in memory

module _ (p : ProgramData) where
  -- the value is made in the local itself
  abbrev pub assign_named : Place → (x : ℕ) → (value : (to d : ℕ) → Steps → Steps) → Part → (d : ℕ) → Option ℕ → Steps → Steps
  assign_named at x value part d to code = value x d (tested_if part.lacks part.at x (result_code to (O.Temp K.Empty x at) code))

  abbrev pub assign_code : Option ℕ → (t : ℕ) → Place → Part → (value : (to d : ℕ) → Steps → Steps) → Part → (d : ℕ) → Option ℕ → Steps → Steps
  assign_code (Some x) t at q value y d to code = assign_named at x value y d to code
  assign_code None t at q value y d to code = both_code q y d (λ a b. S.Store at (access_at p t) a b ∷ result_code to b code)

  abbrev pub update : (t : ℕ) → Place → BinaryOp → (right : IntKind) → (new : ℕ) → (old b : Operand) → Steps → Steps
  update t at op right new old b code = S.Update new at op (element_size p (type_at p t)) (sort_of (type_at p t)) right old b ∷ code

  abbrev pub assign_op_code : Option ℕ → (t : ℕ) → Place → BinaryOp → (right : IntKind) → Part → Part → (d : ℕ) → Option ℕ → Steps → Steps
  assign_op_code (Some x) t at op right q y d to code =
      code_of y d (update t at op right x (O.Temp K.Empty x at) (operand y d) (result_code to (O.Temp K.Empty x at) code))
  assign_op_code None t at op right q y d to code =
      let a = settled_operand q d in
      let b = settled_operand y (suc d) in
      settled q d (settled y (suc d) (S.Load (d + 2) at (access_at p t) a ∷ update t at op right (d + 2) (temp at (d + 2)) b
      (S.Store at (access_at p t) a (temp at (d + 2)) ∷ result_code to (temp at (d + 2)) code)))

  -- `++` and `--` of a named local: where its old value is the result it is kept
  abbrev pub step_named : (t : ℕ) → Place → StepOp → (x : ℕ) → (before : Bool) → (d : ℕ) → Option ℕ → Steps → Steps
  step_named t at op x before d None code = update t at (step_op op) (unit_kind (type_at p t)) x (O.Temp K.Empty x at) (O.Word 1) code
  step_named t at op x true d (Some to) code =
      update t at (step_op op) (unit_kind (type_at p t)) x (O.Temp K.Empty x at) (O.Word 1) (S.Set to (O.Temp K.Empty x at) ∷ code)
  step_named t at op x false d (Some to) code =
      S.Set d (O.Temp K.Empty x at) ∷ update t at (step_op op) (unit_kind (type_at p t)) x (temp at d) (O.Word 1) (S.Set to (temp at d) ∷ code)

  abbrev pub step_code : Option ℕ → (t : ℕ) → Place → StepOp → (before : Bool) → Part → (d : ℕ) → Option ℕ → Steps → Steps
  step_code (Some x) t at op before q d to code = step_named t at op x before d to code
  step_code None t at op before q d to code =
      let a = settled_operand q d in
      settled q d (S.Load (suc d) at (access_at p t) a ∷ update t at (step_op op) (unit_kind (type_at p t)) (d + 2) (temp at (suc d)) (O.Word 1)
      (S.Store at (access_at p t) a (temp at (d + 2)) ∷ result_code to (temp at (if before then d + 2 else suc d)) code))

  -- a local that is kept by its name is no record
  abbrev pub copy_code : Option ℕ → Option ℕ → Place → (size : ℕ) → Part → Part → (d : ℕ) → Option ℕ → Steps → Steps
  copy_code None None at size q r d to code = both_code q r d (λ a b. S.CopyRecord at size a b ∷ no_result to code)
  copy_code x y at size q r d to code = held q d (held r (suc d) (S.Fail K.Dead at ∷ code))

module _ (p : ProgramData) (locals : List Local) where
  abbrev pub named_local : ℕ → Option ℕ
  named_local x = named (slice_get locals x) x

  -- the named local to which a path leads
  abbrev pub named_root : Path ℕ → Option ℕ
  named_root (path t at (T.local x)) = named_local x
  named_root q = None

  abbrev pub atom : Expression ℕ → Option Operand
  atom (expression t at (T.constant v)) = Some (O.Word v)
  atom (expression t at T.null) = Some O.Null
  atom (expression t at (T.function_name f)) = Some (O.Function f)
  atom (expression t at (T.load q)) = value_of_name at (named_root q)
  atom e = None

  abbrev pub place_atom : Path ℕ → Option Operand
  place_atom (path t at (T.local x)) = address_of_local at x (slice_get locals x)
  place_atom (path t at (T.object n)) = Some (O.Object n)
  place_atom (path t at (T.deref e)) = atom e
  place_atom q = None

  abbrev mutual
    pub lacks : Expression ℕ → Bool
    lacks (expression t at node) = lacks_node t node

    pub lacks_node : (t : ℕ) → Node ℕ → Bool
    lacks_node t (T.address_of q) = place_lacks q
    lacks_node t (T.decay q) = place_lacks q
    lacks_node t (T.convert e written) = is_void (type_at p t)
    lacks_node t (T.choose x y z) = lacks y || lacks z
    lacks_node t (T.comma x y) = lacks y
    lacks_node t (T.copy_record to from) = true
    lacks_node t (T.call f all) = true
    lacks_node t (T.call_through e all) = true
    lacks_node t (T.library which all) = true
    lacks_node t node = false

    -- what a path leads to may be a value that lacks
    pub place_lacks : Path ℕ → Bool
    place_lacks (path t at (T.deref e)) = lacks e
    place_lacks q = false

  abbrev pub place_value_at : Path ℕ → Place
  place_value_at (path t at (T.deref e)) = at_of e
  place_value_at q = path_at q

  abbrev pub part_of : Expression ℕ → (value : (to d : ℕ) → Steps → Steps) → Part
  part_of e value = record { atom = atom e; made = λ d. value d d; at = at_of e; lacks = lacks e }

  abbrev pub place_of : Path ℕ → (address : (to d : ℕ) → Steps → Steps) → Part
  place_of q address = record { atom = place_atom q; made = λ d. address d d; at = place_value_at q; lacks = place_lacks q }

  -- an operand of a size is counted, one where nothing is said
  abbrev pub single : Part
  single = record { atom = Some (O.Word 1); made = λ d code. S.Set d (O.Word 1) ∷ code; at = record { file = 0; at = 0 }; lacks = false }

  -- an address as a value: a named local has none
  abbrev pub address_code : Option ℕ → Place → (address : (to d : ℕ) → Steps → Steps) → (to d : ℕ) → Steps → Steps
  address_code (Some x) at address to d code = S.Fail K.Dead at ∷ code
  address_code None at address to d code = address to d code

  abbrev pub load_code : Option ℕ → (t : ℕ) → Place → Part → (to d : ℕ) → Steps → Steps
  load_code (Some x) t at q to d code = S.Set to (O.Temp K.Empty x at) ∷ code
  load_code None t at q to d code = code_of q d (S.Load to at (access_at p t) (operand q d) ∷ code)

  abbrev pub convert_code : CType → Part → (effect : Steps → Steps) → (to d : ℕ) → Steps → Steps
  convert_code void x effect to d code = effect (S.Clear to ∷ code)
  convert_code t x effect to d code = code_of x d (convert_step t x.at to (operand x d) code)

  -- a member or an element of a named local is no place, and an element's subscript is tested before
  abbrev pub part_code : Option ℕ → Place → (by : ℕ) → Part → (to d : ℕ) → Steps → Steps
  part_code (Some x) at by q to d code = S.Fail K.Dead at ∷ code
  part_code None at by q to d code = code_of q d (S.Part to at by (operand q d) ∷ code)

  abbrev pub element_code : Option ℕ → Place → (length size : ℕ) → (addressed : Bool) → IntKind → Part → Part → (to d : ℕ) → Steps → Steps
  element_code (Some x) at n size addressed kind q i to d code =
      code_of i d (S.Element to at n 0 addressed kind (O.Object 0) (operand i d) ∷ S.Fail K.Dead at ∷ code)
  element_code None at n size addressed kind q i to d code = both_code q i d (λ a b. S.Element to at n size addressed kind a b ∷ code)

  -- jumps on, where a value is true, or where it is not
  abbrev pub branch_on : Part → (when : Bool) → Target → (d : ℕ) → Steps → Steps
  branch_on x when to d code = code_of x d (S.Branch when (operand x d) to ∷ code)

  abbrev mutual
    -- the value into the temporary `to`, by the last step alone; the temporaries from d on may change
    pub value_code : Expression ℕ → (to d : ℕ) → Steps → Steps
    value_code (expression t at node) to d code = node_code t at node to d code

    pub node_code : (t : ℕ) → Place → Node ℕ → (to d : ℕ) → Steps → Steps
    node_code t at (T.constant v) to d code = S.Set to (O.Word v) ∷ code
    node_code t at T.null to d code = S.Set to O.Null ∷ code
    node_code t at (T.function_name f) to d code = S.Set to (O.Function f) ∷ code
    node_code t at (T.load q) to d code = load_code (named_root q) t at (place_of q (path_code false q)) to d code
    node_code t at (T.address_of q) to d code = address_code (named_root q) at (path_code true q) to d code
    node_code t at (T.decay q) to d code = address_code (named_root q) at (path_code false q) to d code
    node_code t at (T.convert e written) to d code = convert_code (type_at p t) (part_of e (value_code e)) (effect_code e d) to d code
    node_code t at (T.unary op x) to d code = let a = part_of x (value_code x) in code_of a d (S.Unary to at op (operand a d) ∷ code)
    node_code t at (T.binary op x y) to d code =
        both_code (part_of x (value_code x)) (part_of y (value_code y)) d
        (λ a b. S.Binary to at op (kind_of (type_at p t)) (kind_of (type_at p (ty y))) a b ∷ code)
    node_code t at (T.compare op x y) to d code =
        both_code (part_of x (value_code x)) (part_of y (value_code y)) d (λ a b. S.Compare to at op (kind_of (type_at p (ty x))) a b ∷ code)
    node_code t at (T.pointer_add op x y) to d code =
        both_code (part_of x (value_code x)) (part_of y (value_code y)) d
        (λ a b. S.Move to at op (element_size p (type_at p t)) (is_pointer (type_at p (ty x))) (count_kind (type_at p (ty x)) (type_at p (ty y))) a b ∷ code)
    node_code t at (T.pointer_difference x y) to d code =
        both_code (part_of x (value_code x)) (part_of y (value_code y)) d (λ a b. S.Distance to at (element_size p (type_at p (ty x))) a b ∷ code)
    node_code t at (T.both x y) to d code =
        let no = S.Set to (O.Word 0) ∷ code in
        branch_code x false (To.Left (length no)) d (branch_code y false (To.Left (length no)) d (S.Set to (O.Word 1) ∷ S.Jump (To.Left (length code)) ∷ no))
    node_code t at (T.either x y) to d code =
        let yes_code = S.Set to (O.Word 1) ∷ code in
        branch_code x true (To.Left (length yes_code)) d
        (branch_code y true (To.Left (length yes_code)) d (S.Set to (O.Word 0) ∷ S.Jump (To.Left (length code)) ∷ yes_code))
    node_code t at (T.not x) to d code = let a = part_of x (value_code x) in code_of a d (S.Not to (operand a d) ∷ code)
    node_code t at (T.choose x y z) to d code =
        let other = value_code z to d code in
        branch_code x false (To.Left (length other)) d (value_code y to d (S.Jump (To.Left (length code)) ∷ other))
    node_code t at (T.comma x y) to d code = effect_code x d (value_code y to d code)
    node_code t at (T.assign q x) to d code =
        assign_code p (named_root q) t at (place_of q (path_code false q)) (value_code x) (part_of x (value_code x)) d (Some to) code
    node_code t at (T.assign_op op q x) to d code =
        assign_op_code p (named_root q) t at op (kind_of (type_at p (ty x))) (place_of q (path_code false q)) (part_of x (value_code x)) d (Some to) code
    node_code t at (T.step op before q) to d code = step_code p (named_root q) t at op before (place_of q (path_code false q)) d (Some to) code
    node_code t at (T.copy_record q r) to d code =
        copy_code p (named_root q) (named_root r) at (size_at p (path_ty q)) (place_of q (path_code false q)) (place_of r (path_code false r)) d (Some to) code
    node_code t at (T.call f all) to d code = arguments_code all d (S.Call to at f (record { first = d; count = count_of all }) ∷ code)
    node_code t at (T.call_through e all) to d code = held (part_of e (value_code e)) d
        (arguments_code all (suc d) (S.CallThrough to at (ty e) (temp (at_of e) d) (record { first = suc d; count = count_of all }) ∷ code))
    node_code t at (T.library which all) to d code = arguments_code all d (S.Library to at which (record { first = d; count = count_of all }) ∷ code)
    node_code t at (T.allocate r count zeroed) to d code =
        let n = count_part count in code_of n d (S.Allocate to at r (element_size p (type_at p t)) zeroed (operand n d) ∷ code)

    pub count_part : OptionalExpression ℕ → Part
    count_part T.no_expression = single
    count_part (T.some_expression e) = part_of e (value_code e)

    -- in a row, from the temporary d on
    pub arguments_code : Expressions ℕ → (d : ℕ) → Steps → Steps
    arguments_code T.no_expressions d code = code
    arguments_code (T.and_expression e more) d code = held (part_of e (value_code e)) d (arguments_code more (suc d) code)

    -- what it does, its value being dropped
    pub effect_code : Expression ℕ → (d : ℕ) → Steps → Steps
    effect_code (expression t at (T.comma x y)) d code = effect_code x d (effect_code y d code)
    effect_code (expression t at (T.assign q x)) d code =
        assign_code p (named_root q) t at (place_of q (path_code false q)) (value_code x) (part_of x (value_code x)) d None code
    effect_code (expression t at (T.assign_op op q x)) d code =
        assign_op_code p (named_root q) t at op (kind_of (type_at p (ty x))) (place_of q (path_code false q)) (part_of x (value_code x)) d None code
    effect_code (expression t at (T.step op before q)) d code = step_code p (named_root q) t at op before (place_of q (path_code false q)) d None code
    effect_code (expression t at (T.copy_record q r)) d code =
        copy_code p (named_root q) (named_root r) at (size_at p (path_ty q)) (place_of q (path_code false q)) (place_of r (path_code false r)) d None code
    effect_code (expression t at node) d code = node_code t at node d d code

    -- a jump where the value is true, or where it is not
    pub branch_code : Expression ℕ → (when : Bool) → Target → (d : ℕ) → Steps → Steps
    branch_code (expression t at (T.compare op x y)) when to d code =
        both_code (part_of x (value_code x)) (part_of y (value_code y)) d (λ a b. S.Test at op (kind_of (type_at p (ty x))) when a b to ∷ code)
    branch_code (expression t at (T.not x)) when to d code = branch_code x (not when) to d code
    branch_code (expression t at (T.both x y)) false to d code = branch_code x false to d (branch_code y false to d code)
    branch_code (expression t at (T.both x y)) true to d code = branch_code x false (To.Left (length code)) d (branch_code y true to d code)
    branch_code (expression t at (T.either x y)) true to d code = branch_code x true to d (branch_code y true to d code)
    branch_code (expression t at (T.either x y)) false to d code = branch_code x true (To.Left (length code)) d (branch_code y false to d code)
    branch_code (expression t at node) when to d code = branch_on (part_of (expression t at node) (node_code t at node)) when to d code

    -- the address of what a path leads to, into the temporary `to`; a named local has none
    pub path_code : (addressed : Bool) → Path ℕ → (to d : ℕ) → Steps → Steps
    path_code addressed (path t at node) to d code = way_code addressed t at node to d code

    pub way_code : (addressed : Bool) → (t : ℕ) → Place → PathNode ℕ → (to d : ℕ) → Steps → Steps
    way_code addressed t at (T.local x) to d code = local_code at x (slice_get locals x) to code
    way_code addressed t at (T.object n) to d code = S.Set to (O.Object n) ∷ code
    way_code addressed t at (T.deref e) to d code = value_code e to d code
    way_code addressed t at (T.index e i) to d code =
        both_code (part_of e (value_code e)) (part_of i (value_code i)) d
        (λ a b. S.Move to at Add (size_at p t) true (kind_of (type_at p (ty i))) a b ∷ code)
    way_code addressed t at (T.member q r field) to d code = member_code q at (offset_of p.records r field) to d code
    way_code addressed t at (T.element q i) to d code =
        element_code (named_root q) at (length_of (type_at p (path_ty q))) (size_at p t) addressed (kind_of (type_at p (ty i)))
        (place_of q (path_code false q)) (part_of i (value_code i)) to d code

    -- the field behind so many bytes
    pub member_code : Path ℕ → Place → (by : ℕ) → (to d : ℕ) → Steps → Steps
    member_code (path u b (T.deref e)) at by to d code = let a = part_of e (value_code e) in code_of a d (S.Field to at by (operand a d) ∷ code)
    member_code (path u b (T.index e i)) at by to d code =
        both_code (part_of e (value_code e)) (part_of i (value_code i)) d
        (λ a b. S.ElementField to at (size_at p u) (kind_of (type_at p (ty i))) by a b ∷ code)
    member_code (path u b node) at by to d code = part_code (named_root (path u b node)) at by (place_of (path u b node) (way_code false u b node)) to d code
