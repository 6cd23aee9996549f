-- The code of expressions and paths that sit has good steps.
use Rattle.std.proofs.Common.{◌≡◌, ℕ, suc, ◌<◌, Bool, true, false, not, List, ◌∷◌, length, Option, Some, None, arith, slice_get}
use Rattle.std.proofs.Common.{if◌then◌else◌}
use Rattle.lay_base.specs.declared.faults.UndefinedKind.TheVariants as K
use Rattle.lay_base.specs.declared.place.Place.{Place}
use Rattle.c_types.specs.declared.ty.IntKind.{IntKind}
use Rattle.c_types.specs.Layouts.{offset_of}
use Rattle.c_types.specs.Types.{CType, void, integer, pointer as pointer_to, array, function, structure}
use Rattle.c_typed.specs.Constants.{ty, kind_of}
use Rattle.c_typed.specs.Conversions.{is_pointer}
use Rattle.c_typed.specs.declared.operators.LibraryFunction.{LibraryFunction}
use Rattle.c_typed.specs.declared.operators.PointerOp.TheVariants.{Add}
use Rattle.c_typed.specs.declared.program.Local.{Local}
use Rattle.c_typed.specs.Programs.{ProgramData}
use Rattle.c_typed.specs.Trees as T
use Rattle.c_typed.specs.Trees.{Expression, expression, Node, Path, path, PathNode, Expressions, OptionalExpression}
use Rattle.c_typed.specs.Typed.{at_of, path_ty}
use Rattle.c_meaning.specs.Expressions.{count_kind}
use Rattle.c_meaning.specs.Program.{type_at, size_at, access_at, element_size, length_of}
use Rattle.lower_tac.specs.Parts.{Steps, Part, temp, operand, code_of, both_code}
use Rattle.lower_tac.specs.Expressions.{local_code, count_of, named_root, part_of, place_of}
use Rattle.lower_tac.specs.Expressions.{address_code, load_code, convert_code, part_code, element_code, branch_on, value_code}
use Rattle.lower_tac.specs.Expressions.{node_code, way_code, arguments_code, effect_code, branch_code, path_code, member_code}
use Rattle.rv_code.specs.declared.layout.Places.{Places}
use Rattle.tac_ir.specs.Code.{Code, RoutineData}
use Rattle.tac_ir.specs.declared.step.Operand.{Operand}
use Rattle.tac_ir.specs.declared.step.Operand.TheVariants as O
use Rattle.tac_ir.specs.declared.step.Step.{Step}
use Rattle.tac_ir.specs.declared.step.Step.TheVariants as S
use Rattle.tac_ir.specs.declared.step.Target.{Target}
use Rattle.tac_ir.specs.declared.step.Target.TheVariants as To
use Rattle.compiled_files.proofs.Soundness.Sitting.{SitsNode, SitsStep, AllSit, IsCalled, IsCalledThrough}
use Rattle.compiled_files.proofs.Soundness.Adding as Adding
use Rattle.compiled_files.proofs.Soundness.Assigning as Assigning

module _ (p : ProgramData) (c : Code) (places : Places) (g : RoutineData) (size : ℕ → ℕ) (Here : ℕ → Type 0) (locals : List Local) (P : Steps → Type 0)
    (add : (s : Step) (code : Steps) → Adding.Good p c places g size Here s → P code → P (s ∷ code)) where
  abbrev Fits : Operand → Type 0
  Fits = Adding.Fits p c places g size Here

  abbrev Good : Step → Type 0
  Good = Adding.Good p c places g size Here

  abbrev Low : ℕ → Type 0
  Low = Adding.Low p c places g size Here

  abbrev Fine : Part → Type 0
  Fine = Adding.Fine p c places g size Here P add

  abbrev Sit : Expression ℕ → Type 0
  Sit = Adding.Sit p c places g size Here locals

  abbrev SitPath : Path ℕ → Type 0
  SitPath = Adding.SitPath p c places g size Here locals

  abbrev SitNode : Node ℕ → Type 0
  SitNode = SitsNode p c (length places.objects) Here locals

  abbrev SitStep : PathNode ℕ → Type 0
  SitStep = SitsStep p c (length places.objects) Here locals

  abbrev Makes : ((to d : ℕ) → Steps → Steps) → Type 0
  Makes = Assigning.Makes p c places g size Here locals P add

  abbrev Branches : (Bool → Target → (d : ℕ) → Steps → Steps) → Type 0
  Branches = Assigning.Branches p c places g size Here locals P add

  value_fine : (e : Expression ℕ) → Sit e → Makes (value_code p locals e) → Fine (part_of p locals e (value_code p locals e))
  value_fine = Assigning.value_fine p c places g size Here locals P add

  place_fine : (q : Path ℕ) → SitPath q → Makes (path_code p locals false q) → Fine (place_of p locals q (path_code p locals false q))
  place_fine = Assigning.place_fine p c places g size Here locals P add false

  one : {x : Part} → Fine x → (d : ℕ) (s : Step) (code : Steps) → Low d → (Fits (operand x d) → Good s) → P code → P (code_of x d (s ∷ code))
  one = Adding.one_adds p c places g size Here P add

  two : {x y : Part} → Fine x → Fine y → (d : ℕ) (s : Operand → Operand → Step) (code : Steps) → Low d
      → ((a b : Operand) → Fits a → Fits b → Good (s a b)) → P code → P (both_code x y d (λ a b. s a b ∷ code))
  two = Adding.two_add p c places g size Here P add

  set_adds : (to : ℕ) (a : Operand) (code : Steps) → Fits a → P code → P (S.Set to a ∷ code)
  set_adds = Assigning.set_adds p c places g size Here locals P add

  fail_adds : (at : Place) (code : Steps) → P code → P (S.Fail K.Dead at ∷ code)
  fail_adds = Assigning.fail_adds p c places g size Here locals P add

  jump_adds : (to : Target) (code : Steps) → P code → P (S.Jump to ∷ code)
  jump_adds to code h = add (S.Jump to) code (tt, tt, tt, tt) h

  -- ---- loads, addresses and conversions

  address_adds : (o : Option ℕ) (at : Place) (address : (to d : ℕ) → Steps → Steps) → Makes address → Makes (address_code p locals o at address)
  address_adds (Some x) at address makes to d code low h = fail_adds at code h
  address_adds None at address makes to d code low h = makes to d code low h

  load_adds : (o : Option ℕ) (t : ℕ) (at : Place) {q : Part} → Fine q → Makes (load_code p locals o t at q)
  load_adds (Some x) t at fine to d code low h = set_adds to (O.Temp K.Empty x at) code tt h
  load_adds None t at {q} fine to d code low h = one fine d (S.Load to at (access_at p t) (operand q d)) code low (λ f. ((f, tt), tt, tt, tt)) h

  convert_adds : (t : CType) {x : Part} → Fine x → (d : ℕ) (effect : Steps → Steps) → ((code : Steps) → P code → P (effect code))
      → (to : ℕ) (code : Steps) → Low d → P code → P (convert_code p locals t x effect to d code)
  convert_adds void fine d effect adds to code low h = adds (S.Clear to ∷ code) (add (S.Clear to) code (tt, tt, tt, tt) h)
  convert_adds (integer kind) {x} fine d effect adds to code low h =
      one fine d (S.Convert to x.at kind (operand x d)) code low (λ f. ((f, tt), tt, tt, tt)) h
  convert_adds (pointer_to t) {x} fine d effect adds to code low h =
      one fine d (S.AsPointer to x.at (operand x d)) code low (λ f. ((f, tt), tt, tt, tt)) h
  convert_adds (array t z) {x} fine d effect adds to code low h = one fine d (S.Set to (operand x d)) code low (λ f. ((f, tt), tt, tt, tt)) h
  convert_adds (function t all) {x} fine d effect adds to code low h = one fine d (S.Set to (operand x d)) code low (λ f. ((f, tt), tt, tt, tt)) h
  convert_adds (structure r) {x} fine d effect adds to code low h = one fine d (S.Set to (operand x d)) code low (λ f. ((f, tt), tt, tt, tt)) h

  -- ---- parts of places

  local_adds : (at : Place) (x : ℕ) (o : Option Local) (to : ℕ) (code : Steps) → P code → P (local_code at x o to code)
  local_adds at x None to code h = fail_adds at code h
  local_adds at x (Some l) to code h = by_block l.block
    where
      by_block : (b : Bool) → P (if b then S.Set to (O.Temp K.Dead x at) ∷ code else code)
      by_block true = set_adds to (O.Temp K.Dead x at) code tt h
      by_block false = h

  part_adds : (o : Option ℕ) (at : Place) (by : ℕ) {q : Part} → Fine q → Makes (part_code p locals o at by q)
  part_adds (Some x) at by fine to d code low h = fail_adds at code h
  part_adds None at by {q} fine to d code low h = one fine d (S.Part to at by (operand q d)) code low (λ f. ((f, tt), tt, tt, tt)) h

  element_adds : (o : Option ℕ) → o ≡ None → (at : Place) (z n : ℕ) (addressed : Bool) (kind : IntKind) {q y : Part} → Fine q → Fine y
      → Makes (element_code p locals o at z n addressed kind q y)
  element_adds (Some x) none at z n addressed kind fine other to d code low h = absurd cc
  element_adds None none at z n addressed kind fine other to d code low h =
      two fine other d (λ a b. S.Element to at z n addressed kind a b) code low (λ a b fa fb. ((fa, (fb, tt)), tt, tt, tt)) h

  -- ---- branches on a value, `&&` and `||` as values, and `?:`

  on_adds : {x : Part} → Fine x → Branches (branch_on p locals x)
  on_adds {x} fine when to d code low h = one fine d (S.Branch when (operand x d) to) code low (λ f. ((f, tt), tt, tt, tt)) h

  -- both lead to where one result is set, and the other result stands before it
  two_ways : {one_code other_code : Bool → Target → (d : ℕ) → Steps → Steps} → Branches one_code → Branches other_code
      → (when : Bool) (right wrong : ℕ) → right < 2 → wrong < 2 → (to d : ℕ) (code : Steps) → Low d → P code
      → P (one_code when (To.Left (length (S.Set to (O.Word wrong) ∷ code))) d
      (other_code when (To.Left (length (S.Set to (O.Word wrong) ∷ code))) d
      (S.Set to (O.Word right) ∷ S.Jump (To.Left (length code)) ∷ S.Set to (O.Word wrong) ∷ code)))
  two_ways {one_code} {other_code} first second when right wrong r w to d code low h =
      let last = S.Set to (O.Word wrong) ∷ code in
      let jumps = S.Jump (To.Left (length code)) ∷ last in
      let set = S.Set to (O.Word right) ∷ jumps in
      let end = To.Left (length last) in
      first when end d (other_code when end d set) low (second when end d set low (set_adds to (O.Word right) jumps (omega (arith, r))
      (jump_adds (To.Left (length code)) last (set_adds to (O.Word wrong) code (omega (arith, w)) h))))

  choice_adds : {test : Bool → Target → (d : ℕ) → Steps → Steps} {one_code other_code : (to d : ℕ) → Steps → Steps}
      → Branches test → Makes one_code → Makes other_code → (to d : ℕ) (code : Steps) → Low d → P code
      → P (test false (To.Left (length (other_code to d code))) d (one_code to d (S.Jump (To.Left (length code)) ∷ other_code to d code)))
  choice_adds {test} {one_code} {other_code} tests first second to d code low h =
      let other = other_code to d code in
      let middle = S.Jump (To.Left (length code)) ∷ other in
      tests false (To.Left (length other)) d (one_code to d middle) low
      (first to d middle low (jump_adds (To.Left (length code)) other (second to d code low h)))

  -- ---- calls

  call_good : (to : ℕ) (at : Place) (f d n : ℕ) → IsCalled p c (length places.objects) Here locals f n → Low d
      → Good (S.Call to at f (record { first = d; count = n }))
  call_good to at f d n called low = (tt, tt, Adding.row_fits p c places g size Here d n low, called)

  library_good : (to : ℕ) (at : Place) (which : LibraryFunction) (d n : ℕ) → Low d → Good (S.Library to at which (record { first = d; count = n }))
  library_good to at which d n low = (tt, tt, Adding.row_fits p c places g size Here d n low, tt)

  call_through_good : (to : ℕ) (at : Place) (t : ℕ) (a : Operand) (d n : ℕ) → Fits a → IsCalledThrough p c (length places.objects) Here locals t n → Low d
      → Good (S.CallThrough to at t a (record { first = d; count = n }))
  call_through_good to at t a d n f called low = ((f, tt), tt, Adding.row_fits p c places g size Here d n low, called)

  -- ---- all of them

  mutual
    pub value_adds : (e : Expression ℕ) → Sit e → Makes (value_code p locals e)
    value_adds (expression t at node) s to d code low h = node_adds t at node s to d code low h

    pub node_adds : (t : ℕ) (at : Place) (node : Node ℕ) → SitNode node → Makes (node_code p locals t at node)
    node_adds t at (T.constant v) s to d code low h = set_adds to (O.Word v) code s h
    node_adds t at T.null s to d code low h = set_adds to O.Null code tt h
    node_adds t at (T.function_name f) s to d code low h = set_adds to (O.Function f) code s h
    node_adds t at (T.load q) s to d code low h = load_adds (named_root p locals q) t at (place_fine q s (path_adds false q s)) to d code low h
    node_adds t at (T.address_of q) s to d code low h =
        address_adds (named_root p locals q) at (path_code p locals true q) (path_adds true q s) to d code low h
    node_adds t at (T.decay q) s to d code low h =
        address_adds (named_root p locals q) at (path_code p locals false q) (path_adds false q s) to d code low h
    node_adds t at (T.convert e written) s to d code low h =
        convert_adds (type_at p t) (value_fine e s (value_adds e s)) d (effect_code p locals e d) (λ code h. effect_adds e s d code low h) to code low h
    node_adds t at (T.unary op x) s to d code low h =
        one (value_fine x s (value_adds x s)) d (S.Unary to at op (operand (part_of p locals x (value_code p locals x)) d)) code low
        (λ f. ((f, tt), tt, tt, tt)) h
    node_adds t at (T.binary op x y) s to d code low h =
        two (value_fine x s.0 (value_adds x s.0)) (value_fine y s.1 (value_adds y s.1)) d
        (λ a b. S.Binary to at op (kind_of (type_at p t)) (kind_of (type_at p (ty y))) a b) code low (λ a b fa fb. ((fa, (fb, tt)), tt, tt, tt)) h
    node_adds t at (T.compare op x y) s to d code low h =
        two (value_fine x s.0 (value_adds x s.0)) (value_fine y s.1 (value_adds y s.1)) d
        (λ a b. S.Compare to at op (kind_of (type_at p (ty x))) a b) code low (λ a b fa fb. ((fa, (fb, tt)), tt, tt, tt)) h
    node_adds t at (T.pointer_add op x y) s to d code low h =
        two (value_fine x s.0 (value_adds x s.0)) (value_fine y s.1 (value_adds y s.1)) d
        (λ a b. S.Move to at op (element_size p (type_at p t)) (is_pointer (type_at p (ty x)))
        (count_kind (type_at p (ty x)) (type_at p (ty y))) a b) code low (λ a b fa fb. ((fa, (fb, tt)), tt, tt, tt)) h
    node_adds t at (T.pointer_difference x y) s to d code low h =
        two (value_fine x s.0 (value_adds x s.0)) (value_fine y s.1 (value_adds y s.1)) d
        (λ a b. S.Distance to at (element_size p (type_at p (ty x))) a b) code low (λ a b fa fb. ((fa, (fb, tt)), s.2, tt, tt)) h
    node_adds t at (T.both x y) s to d code low h =
        two_ways {one_code = branch_code p locals x} {other_code = branch_code p locals y} (branch_adds x s.0) (branch_adds y s.1) false 1 0
        (omega arith) (omega arith) to d code low h
    node_adds t at (T.either x y) s to d code low h =
        two_ways {one_code = branch_code p locals x} {other_code = branch_code p locals y} (branch_adds x s.0) (branch_adds y s.1) true 0 1
        (omega arith) (omega arith) to d code low h
    node_adds t at (T.not x) s to d code low h =
        one (value_fine x s (value_adds x s)) d (S.Not to (operand (part_of p locals x (value_code p locals x)) d)) code low (λ f. ((f, tt), tt, tt, tt)) h
    node_adds t at (T.choose x y z) s to d code low h =
        choice_adds {test = branch_code p locals x} {one_code = value_code p locals y} {other_code = value_code p locals z}
        (branch_adds x s.0) (value_adds y s.1) (value_adds z s.2) to d code low h
    node_adds t at (T.comma x y) s to d code low h = effect_adds x s.0 d (value_code p locals y to d code) low (value_adds y s.1 to d code low h)
    node_adds t at (T.assign q x) s to d code low h =
        Assigning.assign_adds p c places g size Here locals P add (named_root p locals q) t at (value_code p locals x)
        (place_fine q s.0 (path_adds false q s.0))
        (value_adds x s.1) (value_fine x s.1 (value_adds x s.1)) d (Some to) code low h
    node_adds t at (T.assign_op op q x) s to d code low h =
        Assigning.assign_op_adds p c places g size Here locals P add (named_root p locals q) t at op (kind_of (type_at p (ty x)))
        (place_fine q s.0 (path_adds false q s.0)) (value_fine x s.1 (value_adds x s.1)) d (Some to) code low h
    node_adds t at (T.step op before q) s to d code low h =
        Assigning.step_adds p c places g size Here locals P add (named_root p locals q) t at op before (place_fine q s (path_adds false q s)) d
        (Some to) code low h
    node_adds t at (T.copy_record q r) s to d code low h =
        Assigning.copy_adds p c places g size Here locals P add (named_root p locals q) (named_root p locals r) at (size_at p (path_ty q)) s.2
        (place_fine q s.0 (path_adds false q s.0)) (place_fine r s.1 (path_adds false r s.1)) d (Some to) code low h
    node_adds t at (T.call f all) s to d code low h =
        let last = S.Call to at f (record { first = d; count = count_of all }) in
        arguments_add all s.0 d (last ∷ code) low (add last code (call_good to at f d (count_of all) s.1 low) h)
    node_adds t at (T.call_through e all) s to d code low h =
        let last = S.CallThrough to at (ty e) (temp (at_of e) d) (record { first = suc d; count = count_of all }) in
        let lower : Low (suc d) = omega (arith, low) in
        Adding.held_adds p c places g size Here P add (value_fine e s.0 (value_adds e s.0)) d (arguments_code p locals all (suc d) (last ∷ code)) low
        (arguments_add all s.1 (suc d) (last ∷ code) lower
        (add last code (call_through_good to at (ty e) (temp (at_of e) d) (suc d) (count_of all) tt s.2 lower) h))
    node_adds t at (T.library which all) s to d code low h =
        let last = S.Library to at which (record { first = d; count = count_of all }) in
        arguments_add all s d (last ∷ code) low (add last code (library_good to at which d (count_of all) low) h)
    node_adds t at (T.allocate r T.no_expression zeroed) s to d code low h =
        add (S.Allocate to at r (element_size p (type_at p t)) zeroed (O.Word 1)) code ((omega arith, tt), tt, tt, tt) h
    node_adds t at (T.allocate r (T.some_expression e) zeroed) s to d code low h =
        one (value_fine e s (value_adds e s)) d
        (S.Allocate to at r (element_size p (type_at p t)) zeroed (operand (part_of p locals e (value_code p locals e)) d)) code low
        (λ f. ((f, tt), tt, tt, tt)) h

    pub arguments_add : (all : Expressions ℕ) → AllSit p c (length places.objects) Here locals all → (d : ℕ) (code : Steps) → Low d → P code
        → P (arguments_code p locals all d code)
    arguments_add T.no_expressions s d code low h = h
    arguments_add (T.and_expression e more) s d code low h =
        Adding.held_adds p c places g size Here P add (value_fine e s.0 (value_adds e s.0)) d (arguments_code p locals more (suc d) code) low
        (arguments_add more s.1 (suc d) code (omega (arith, low)) h)

    pub effect_adds : (e : Expression ℕ) → Sit e → (d : ℕ) (code : Steps) → Low d → P code → P (effect_code p locals e d code)
    effect_adds (expression t at (T.comma x y)) s d code low h =
        effect_adds x s.0 d (effect_code p locals y d code) low (effect_adds y s.1 d code low h)
    effect_adds (expression t at (T.assign q x)) s d code low h =
        Assigning.assign_adds p c places g size Here locals P add (named_root p locals q) t at (value_code p locals x)
        (place_fine q s.0 (path_adds false q s.0))
        (value_adds x s.1) (value_fine x s.1 (value_adds x s.1)) d None code low h
    effect_adds (expression t at (T.assign_op op q x)) s d code low h =
        Assigning.assign_op_adds p c places g size Here locals P add (named_root p locals q) t at op (kind_of (type_at p (ty x)))
        (place_fine q s.0 (path_adds false q s.0)) (value_fine x s.1 (value_adds x s.1)) d None code low h
    effect_adds (expression t at (T.step op before q)) s d code low h =
        Assigning.step_adds p c places g size Here locals P add (named_root p locals q) t at op before (place_fine q s (path_adds false q s)) d None code low h
    effect_adds (expression t at (T.copy_record q r)) s d code low h =
        Assigning.copy_adds p c places g size Here locals P add (named_root p locals q) (named_root p locals r) at (size_at p (path_ty q)) s.2
        (place_fine q s.0 (path_adds false q s.0)) (place_fine r s.1 (path_adds false r s.1)) d None code low h
    effect_adds (expression t at (T.constant v)) s d code low h = node_adds t at (T.constant v) s d d code low h
    effect_adds (expression t at T.null) s d code low h = node_adds t at T.null s d d code low h
    effect_adds (expression t at (T.function_name f)) s d code low h = node_adds t at (T.function_name f) s d d code low h
    effect_adds (expression t at (T.load q)) s d code low h = node_adds t at (T.load q) s d d code low h
    effect_adds (expression t at (T.address_of q)) s d code low h = node_adds t at (T.address_of q) s d d code low h
    effect_adds (expression t at (T.decay q)) s d code low h = node_adds t at (T.decay q) s d d code low h
    effect_adds (expression t at (T.convert e written)) s d code low h = node_adds t at (T.convert e written) s d d code low h
    effect_adds (expression t at (T.unary op x)) s d code low h = node_adds t at (T.unary op x) s d d code low h
    effect_adds (expression t at (T.binary op x y)) s d code low h = node_adds t at (T.binary op x y) s d d code low h
    effect_adds (expression t at (T.compare op x y)) s d code low h = node_adds t at (T.compare op x y) s d d code low h
    effect_adds (expression t at (T.pointer_add op x y)) s d code low h = node_adds t at (T.pointer_add op x y) s d d code low h
    effect_adds (expression t at (T.pointer_difference x y)) s d code low h = node_adds t at (T.pointer_difference x y) s d d code low h
    effect_adds (expression t at (T.both x y)) s d code low h = node_adds t at (T.both x y) s d d code low h
    effect_adds (expression t at (T.either x y)) s d code low h = node_adds t at (T.either x y) s d d code low h
    effect_adds (expression t at (T.not x)) s d code low h = node_adds t at (T.not x) s d d code low h
    effect_adds (expression t at (T.choose x y z)) s d code low h = node_adds t at (T.choose x y z) s d d code low h
    effect_adds (expression t at (T.call f all)) s d code low h = node_adds t at (T.call f all) s d d code low h
    effect_adds (expression t at (T.call_through e all)) s d code low h = node_adds t at (T.call_through e all) s d d code low h
    effect_adds (expression t at (T.library which all)) s d code low h = node_adds t at (T.library which all) s d d code low h
    effect_adds (expression t at (T.allocate r count zeroed)) s d code low h = node_adds t at (T.allocate r count zeroed) s d d code low h

    pub branch_adds : (e : Expression ℕ) → Sit e → Branches (branch_code p locals e)
    branch_adds (expression t at (T.compare op x y)) s when to d code low h =
        two (value_fine x s.0 (value_adds x s.0)) (value_fine y s.1 (value_adds y s.1)) d
        (λ a b. S.Test at op (kind_of (type_at p (ty x))) when a b to) code low (λ a b fa fb. ((fa, (fb, tt)), tt, tt, tt)) h
    branch_adds (expression t at (T.not x)) s when to d code low h = branch_adds x s (not when) to d code low h
    branch_adds (expression t at (T.both x y)) s false to d code low h =
        branch_adds x s.0 false to d (branch_code p locals y false to d code) low (branch_adds y s.1 false to d code low h)
    branch_adds (expression t at (T.both x y)) s true to d code low h =
        branch_adds x s.0 false (To.Left (length code)) d (branch_code p locals y true to d code) low (branch_adds y s.1 true to d code low h)
    branch_adds (expression t at (T.either x y)) s true to d code low h =
        branch_adds x s.0 true to d (branch_code p locals y true to d code) low (branch_adds y s.1 true to d code low h)
    branch_adds (expression t at (T.either x y)) s false to d code low h =
        branch_adds x s.0 true (To.Left (length code)) d (branch_code p locals y false to d code) low (branch_adds y s.1 false to d code low h)
    branch_adds (expression t at (T.constant v)) s when to d code low h =
        on_adds (value_fine (expression t at (T.constant v)) s (node_adds t at (T.constant v) s)) when to d code low h
    branch_adds (expression t at T.null) s when to d code low h =
        on_adds (value_fine (expression t at T.null) s (node_adds t at T.null s)) when to d code low h
    branch_adds (expression t at (T.function_name f)) s when to d code low h =
        on_adds (value_fine (expression t at (T.function_name f)) s (node_adds t at (T.function_name f) s)) when to d code low h
    branch_adds (expression t at (T.load q)) s when to d code low h =
        on_adds (value_fine (expression t at (T.load q)) s (node_adds t at (T.load q) s)) when to d code low h
    branch_adds (expression t at (T.address_of q)) s when to d code low h =
        on_adds (value_fine (expression t at (T.address_of q)) s (node_adds t at (T.address_of q) s)) when to d code low h
    branch_adds (expression t at (T.decay q)) s when to d code low h =
        on_adds (value_fine (expression t at (T.decay q)) s (node_adds t at (T.decay q) s)) when to d code low h
    branch_adds (expression t at (T.convert e written)) s when to d code low h =
        on_adds (value_fine (expression t at (T.convert e written)) s (node_adds t at (T.convert e written) s)) when to d code low h
    branch_adds (expression t at (T.unary op x)) s when to d code low h =
        on_adds (value_fine (expression t at (T.unary op x)) s (node_adds t at (T.unary op x) s)) when to d code low h
    branch_adds (expression t at (T.binary op x y)) s when to d code low h =
        on_adds (value_fine (expression t at (T.binary op x y)) s (node_adds t at (T.binary op x y) s)) when to d code low h
    branch_adds (expression t at (T.pointer_add op x y)) s when to d code low h =
        on_adds (value_fine (expression t at (T.pointer_add op x y)) s (node_adds t at (T.pointer_add op x y) s)) when to d code low h
    branch_adds (expression t at (T.pointer_difference x y)) s when to d code low h =
        on_adds (value_fine (expression t at (T.pointer_difference x y)) s (node_adds t at (T.pointer_difference x y) s)) when to d code low h
    branch_adds (expression t at (T.choose x y z)) s when to d code low h =
        on_adds (value_fine (expression t at (T.choose x y z)) s (node_adds t at (T.choose x y z) s)) when to d code low h
    branch_adds (expression t at (T.call f all)) s when to d code low h =
        on_adds (value_fine (expression t at (T.call f all)) s (node_adds t at (T.call f all) s)) when to d code low h
    branch_adds (expression t at (T.call_through e all)) s when to d code low h =
        on_adds (value_fine (expression t at (T.call_through e all)) s (node_adds t at (T.call_through e all) s)) when to d code low h
    branch_adds (expression t at (T.library which all)) s when to d code low h =
        on_adds (value_fine (expression t at (T.library which all)) s (node_adds t at (T.library which all) s)) when to d code low h
    branch_adds (expression t at (T.allocate r count zeroed)) s when to d code low h =
        on_adds (value_fine (expression t at (T.allocate r count zeroed)) s (node_adds t at (T.allocate r count zeroed) s)) when to d code low h
    branch_adds (expression t at (T.comma x y)) s when to d code low h =
        on_adds (value_fine (expression t at (T.comma x y)) s (node_adds t at (T.comma x y) s)) when to d code low h
    branch_adds (expression t at (T.assign q x)) s when to d code low h =
        on_adds (value_fine (expression t at (T.assign q x)) s (node_adds t at (T.assign q x) s)) when to d code low h
    branch_adds (expression t at (T.assign_op op q x)) s when to d code low h =
        on_adds (value_fine (expression t at (T.assign_op op q x)) s (node_adds t at (T.assign_op op q x) s)) when to d code low h
    branch_adds (expression t at (T.step op before q)) s when to d code low h =
        on_adds (value_fine (expression t at (T.step op before q)) s (node_adds t at (T.step op before q) s)) when to d code low h
    branch_adds (expression t at (T.copy_record q r)) s when to d code low h =
        on_adds (value_fine (expression t at (T.copy_record q r)) s (node_adds t at (T.copy_record q r) s)) when to d code low h

    pub path_adds : (addressed : Bool) (q : Path ℕ) → SitPath q → Makes (path_code p locals addressed q)
    path_adds addressed (path t at node) s to d code low h = way_adds addressed t at node s to d code low h

    pub way_adds : (addressed : Bool) (t : ℕ) (at : Place) (node : PathNode ℕ) → SitStep node → Makes (way_code p locals addressed t at node)
    way_adds addressed t at (T.local x) s to d code low h = local_adds at x (slice_get locals x) to code h
    way_adds addressed t at (T.object n) s to d code low h = set_adds to (O.Object n) code s h
    way_adds addressed t at (T.deref e) s to d code low h = value_adds e s to d code low h
    way_adds addressed t at (T.index e i) s to d code low h =
        two (value_fine e s.0 (value_adds e s.0)) (value_fine i s.1 (value_adds i s.1)) d
        (λ a b. S.Move to at Add (size_at p t) true (kind_of (type_at p (ty i))) a b) code low (λ a b fa fb. ((fa, (fb, tt)), tt, tt, tt)) h
    way_adds addressed t at (T.member q r field) s to d code low h = member_adds q s at (offset_of p.records r field) to d code low h
    way_adds addressed t at (T.element q i) s to d code low h =
        element_adds (named_root p locals q) s.2 at (length_of (type_at p (path_ty q))) (size_at p t) addressed (kind_of (type_at p (ty i)))
        (place_fine q s.0 (path_adds false q s.0)) (value_fine i s.1 (value_adds i s.1)) to d code low h

    pub member_adds : (q : Path ℕ) → SitPath q → (at : Place) (by : ℕ) → Makes (member_code p locals q at by)
    member_adds (path u b (T.deref e)) s at by to d code low h =
        one (value_fine e s (value_adds e s)) d (S.Field to at by (operand (part_of p locals e (value_code p locals e)) d)) code low
        (λ f. ((f, tt), tt, tt, tt)) h
    member_adds (path u b (T.index e i)) s at by to d code low h =
        two (value_fine e s.0 (value_adds e s.0)) (value_fine i s.1 (value_adds i s.1)) d
        (λ x y. S.ElementField to at (size_at p u) (kind_of (type_at p (ty i))) by x y) code low (λ x y fx fy. ((fx, (fy, tt)), tt, tt, tt)) h
    member_adds (path u b (T.local x)) s at by to d code low h =
        part_adds (named_root p locals (path u b (T.local x))) at by (place_fine (path u b (T.local x)) s (way_adds false u b (T.local x) s)) to d code low h
    member_adds (path u b (T.object n)) s at by to d code low h =
        part_adds (named_root p locals (path u b (T.object n))) at by (place_fine (path u b (T.object n)) s (way_adds false u b (T.object n) s)) to d code low h
    member_adds (path u b (T.member q r field)) s at by to d code low h =
        part_adds (named_root p locals (path u b (T.member q r field))) at by
        (place_fine (path u b (T.member q r field)) s (way_adds false u b (T.member q r field) s)) to d code low h
    member_adds (path u b (T.element q i)) s at by to d code low h =
        part_adds (named_root p locals (path u b (T.element q i))) at by
        (place_fine (path u b (T.element q i)) s (way_adds false u b (T.element q i) s)) to d code low h
