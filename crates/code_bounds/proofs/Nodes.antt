-- Each expression and each path pays for its code.
use Rattle.std.proofs.Common.{map, ◌≡◌, ℕ, suc, ◌+◌, ◌*◌, ◌<◌, ◌≤◌, Bool, true, false, not, List, ◌∷◌, length, Option, Some, None, refl, arith, slice_get}
use Rattle.std.proofs.Common.{if◌then◌else◌}
use Rattle.lay_base.specs.declared.faults.UndefinedKind.TheVariants as K
use Rattle.lay_base.specs.declared.place.Place.{Place}
use Rattle.c_types.specs.declared.ty.IntKind.{IntKind}
use Rattle.c_types.specs.Layouts.{offset_of}
use Rattle.c_types.specs.Types.{CType, void, integer, pointer as pointer_to, array, function, structure}
use Rattle.c_typed.specs.Constants.{ty, kind_of}
use Rattle.c_typed.specs.Conversions.{is_pointer}
use Rattle.c_typed.specs.declared.operators.PointerOp.TheVariants.{Add}
use Rattle.c_typed.specs.declared.program.Local.{Local}
use Rattle.c_typed.specs.Programs.{ProgramData}
use Rattle.c_typed.specs.Trees as T
use Rattle.c_typed.specs.Trees.{Expression, expression, Node, Path, path, PathNode, Expressions, OptionalExpression}
use Rattle.c_typed.specs.Typed.{at_of, path_ty}
use Rattle.c_meaning.specs.Expressions.{count_kind}
use Rattle.c_meaning.specs.Program.{type_at, size_at, access_at, element_size, length_of}
use Rattle.tac_ir.specs.declared.step.Operand.{Operand}
use Rattle.tac_ir.specs.declared.step.Operand.TheVariants as O
use Rattle.tac_ir.specs.declared.step.Step.{Step}
use Rattle.tac_ir.specs.declared.step.Step.TheVariants as S
use Rattle.tac_ir.specs.declared.step.Target.{Target}
use Rattle.tac_ir.specs.declared.step.Target.TheVariants as To
use Rattle.lower_tac.specs.Parts.{Steps, Part, temp, operand, code_of, both_code}
use Rattle.lower_tac.specs.Expressions.{local_code, count_of, named_root, part_of, place_of}
use Rattle.lower_tac.specs.Expressions.{address_code, load_code, convert_code, part_code, element_code, branch_on, value_code}
use Rattle.lower_tac.specs.Expressions.{arguments_code, effect_code, branch_code, path_code, member_code}
use Rattle.c_well_typed.specs.ProgramWeights.Weights.{weight, weight_of_path, weight_of_all}
use Rattle.tac_ir.specs.Jumps.{target_of}
use Rattle.code_bounds.specs.Prices.{Prices, price_of, paid}
use Rattle.tac_ir.specs.Temporaries.{top, top_of}
use Rattle.code_bounds.specs.Temporaries.{temporaries}
use Rattle.code_bounds.proofs.Grows as Grows
use Rattle.code_bounds.proofs.Grows.{Leads, leads_later}
use Rattle.code_bounds.proofs.Expressions as Parts
use Rattle.code_bounds.proofs.Expressions.{F, F_path}

one_argument : (k a : ℕ) → suc k * a ≡ a + k * a
one_argument k a = omega arith

pub count_below : (all : Expressions ℕ) → count_of all ≤ weight_of_all temporaries all
count_below T.no_expressions = omega arith
count_below (T.and_expression e more) = let h = count_below more in omega (arith, h)

module _ (c : Prices) (most labels : ℕ) (p : ProgramData) (locals : List Local) (roomy : length locals ≤ most) where
  abbrev kinds : List Bool
  kinds = map (λ l. l.block) locals

  abbrev sizes : List ℕ
  sizes = map (λ l. size_at p l.ty) locals

  abbrev Open : ℕ → Type 0
  Open = Grows.Open c most kinds sizes

  abbrev Made : (rest paid : ℕ) → (code whole : Steps) → Type 0
  Made = Grows.Grows c most kinds sizes labels

  abbrev Paid : Part → (paid temporaries : ℕ) → Type 0
  Paid = Grows.Paid c most kinds sizes labels

  abbrev W : Expression ℕ → ℕ
  W e = weight (paid c) e

  abbrev W_path : Path ℕ → ℕ
  W_path q = weight_of_path (paid c) q

  abbrev pub ValueGrows : Expression ℕ → Type 0
  ValueGrows = Parts.ValueGrows c most labels p locals roomy

  abbrev pub NodeGrows : (t : ℕ) → Place → Node ℕ → Type 0
  NodeGrows = Parts.NodeGrows c most labels p locals roomy

  abbrev pub EffectGrows : Expression ℕ → Type 0
  EffectGrows = Parts.EffectGrows c most labels p locals roomy

  abbrev pub BranchGrows : Expression ℕ → Type 0
  BranchGrows = Parts.BranchGrows c most labels p locals roomy

  abbrev pub PathGrows : (addressed : Bool) → Path ℕ → Type 0
  PathGrows = Parts.PathGrows c most labels p locals roomy

  abbrev next : {r q v w : ℕ} {code middle whole : Steps} → Made r v code middle → Made q w middle whole → Made (r + q) (v + w) code whole
  next = Grows.next c most kinds sizes labels

  abbrev pay : {r v q w : ℕ} {code whole : Steps} → q + v ≤ r + w → Made r v code whole → Made q w code whole
  pay = Grows.pay c most kinds sizes labels

  abbrev one : (s : Step) (code : Steps) → Grows.LeadsIfAny (length code) labels (target_of s) → top_of s ≤ most → Grows.Keeps c most kinds sizes s
      → Made 0 (price_of c s) code (s ∷ code)
  one = Grows.one c most kinds sizes labels

  free : (d : ℕ) → length kinds ≤ d → Open d
  free = Grows.free_open c most kinds sizes

  abbrev value_paid : (e : Expression ℕ) → ValueGrows e → Paid (part_of p locals e (value_code p locals e)) (W e) (F e)
  value_paid = Parts.part_paid c most labels p locals roomy

  abbrev place_paid : (addressed : Bool) (q : Path ℕ) → PathGrows addressed q
      → Paid (place_of p locals q (path_code p locals addressed q)) (W_path q) (F_path q)
  place_paid = Parts.place_paid c most labels p locals roomy

  abbrev least : {x : Part} {w f : ℕ} → Paid x w f → (d : ℕ) (code : Steps) → 0 < length code → length kinds ≤ d → d < most → d + f ≤ most → c.step ≤ w
  least = Parts.least c most labels p locals roomy

  abbrev read_one : {x : Part} {w f : ℕ} → Paid x w f → (d : ℕ) (s : Step) (code : Steps) → Grows.LeadsIfAny (length code) labels (target_of s)
      → (top (operand x d) ≤ most → top_of s ≤ most) → Grows.Keeps c most kinds sizes s → length kinds ≤ d → d < most → d + f ≤ most → 0 < length code
      → Made c.step (price_of c s + w) code (code_of x d (s ∷ code))
  read_one = Parts.read_one c most labels p locals roomy

  abbrev read_both : {x y : Part} {w f v g : ℕ} → Paid x w f → Paid y v g → (d : ℕ) (s : Operand → Operand → Step) (price : ℕ) (code : Steps)
      → ((a b : Operand) → top a ≤ most → top b ≤ most → Made 0 price code (s a b ∷ code))
      → length kinds ≤ d → suc d < most → d + f ≤ most → suc d + g ≤ most → 0 < length code
      → Made c.step (price + w + v) code (both_code x y d (λ a b. s a b ∷ code))
  read_both = Parts.read_both c most labels p locals roomy

  abbrev root : (q : Path ℕ) → Parts.Below c most labels p locals roomy (named_root p locals q)
  root = Parts.below_root c most labels p locals roomy

  -- ---- loads, addresses and conversions

  address_grows : (o : Option ℕ) (at : Place) (addressed : Bool) (q : Path ℕ) → PathGrows addressed q → (to d : ℕ) (code : Steps) → to < most → Open to
      → length kinds ≤ d → d < most → d + F_path q ≤ most → 0 < length code
      → Made c.step (c.step + W_path q) code (address_code p locals o at (path_code p locals addressed q) to d code)
  address_grows (Some x) at addressed q grows to d code h o u k i n =
      let l = least (place_paid addressed q grows) d code n u k i in pay (omega (arith, l)) (one (S.Fail K.Dead at) code tt (omega arith) (tt, tt))
  address_grows None at addressed q grows to d code h o u k i n = pay (omega arith) (grows to d code h o u k i n)

  load_grows : (o : Option ℕ) → Parts.Below c most labels p locals roomy o → (t : ℕ) (at : Place) {q : Part} {w f : ℕ} → Paid q w f
      → (to d : ℕ) (code : Steps) → to < most → Open to → length kinds ≤ d → d < most → d + f ≤ most → 0 < length code
      → Made c.step (c.step + w) code (load_code p locals o t at q to d code)
  load_grows (Some x) b t at one_paid to d code h o u k i n =
      let l = least one_paid d code n u k i in pay (omega (arith, l))
      (one (S.Set to (O.Temp K.Empty x at)) code tt (let z = b.0 in omega (arith, h, z)) (o, tt))
  load_grows None b t at {q} one_paid to d code h o u k i n =
      read_one one_paid d (S.Load to at (access_at p t) (operand q d)) code tt (λ b. omega (arith, h, b)) (o, tt) u k i n

  convert_grows : (t : CType) {x : Part} {w f : ℕ} → Paid x w f → (effect : Steps → Steps) → ((code : Steps) → 0 < length code → Made 0 w code (effect code))
      → (to d : ℕ) (code : Steps) → to < most → Open to → length kinds ≤ d → d < most → d + f ≤ most → 0 < length code
      → Made c.step (2 * c.step + w) code (convert_code p locals t x effect to d code)
  convert_grows void one_paid effect made to d code h o u k i n =
      pay (omega arith) (next (one (S.Clear to) code tt (omega (arith, h)) (o, tt)) (made (S.Clear to ∷ code) (omega arith)))
  convert_grows (integer kind) {x} one_paid effect made to d code h o u k i n =
      pay (omega arith) (read_one one_paid d (S.Convert to x.at kind (operand x d)) code tt (λ b. omega (arith, h, b)) (o, tt) u k i n)
  convert_grows (pointer_to t) {x} one_paid effect made to d code h o u k i n =
      pay (omega arith) (read_one one_paid d (S.AsPointer to x.at (operand x d)) code tt (λ b. omega (arith, h, b)) (o, tt) u k i n)
  convert_grows (array t z) {x} one_paid effect made to d code h o u k i n =
      pay (omega arith) (read_one one_paid d (S.Set to (operand x d)) code tt (λ b. omega (arith, h, b)) (o, tt) u k i n)
  convert_grows (function t all) {x} one_paid effect made to d code h o u k i n =
      pay (omega arith) (read_one one_paid d (S.Set to (operand x d)) code tt (λ b. omega (arith, h, b)) (o, tt) u k i n)
  convert_grows (structure r) {x} one_paid effect made to d code h o u k i n =
      pay (omega arith) (read_one one_paid d (S.Set to (operand x d)) code tt (λ b. omega (arith, h, b)) (o, tt) u k i n)

  -- ---- parts of places

  local_grows : (at : Place) (x : ℕ) (o : Option Local) → slice_get locals x ≡ o → (to : ℕ) (code : Steps) → to < most → Open to
      → Made c.step (2 * c.step) code (local_code at x o to code)
  local_grows at x None is to code h o = pay (omega arith) (one (S.Fail K.Dead at) code tt (omega arith) (tt, tt))
  local_grows at x (Some l) is to code h o = by_block l.block
    where
      by_block : (b : Bool) → Made c.step (2 * c.step) code (if b then S.Set to (O.Temp K.Dead x at) ∷ code else code)
      by_block true =
          let b = Parts.local_below c most labels p locals roomy x l is in pay (omega arith)
          (one (S.Set to (O.Temp K.Dead x at)) code tt (omega (arith, h, b)) (o, tt))
      by_block false = pay (omega arith) (Grows.same c most kinds sizes labels)

  part_grows : (o : Option ℕ) (at : Place) (by : ℕ) {q : Part} {w f : ℕ} → Paid q w f → (to d : ℕ) (code : Steps) → to < most → Open to → length kinds ≤ d
      → d < most → d + f ≤ most
      → 0 < length code
      → Made c.step (c.step + w) code (part_code p locals o at by q to d code)
  part_grows (Some x) at by one_paid to d code h o u k i n =
      let l = least one_paid d code n u k i in pay (omega (arith, l)) (one (S.Fail K.Dead at) code tt (omega arith) (tt, tt))
  part_grows None at by {q} one_paid to d code h o u k i n =
      read_one one_paid d (S.Part to at by (operand q d)) code tt (λ b. omega (arith, h, b)) (o, tt) u k i n

  element_grows : (o : Option ℕ) (at : Place) (z size : ℕ) (addressed : Bool) (kind : IntKind) {q y : Part} {w f v g : ℕ} → Paid q w f → Paid y v g
      → (to d : ℕ) (code : Steps) → to < most → Open to → length kinds ≤ d → suc d < most → d + f ≤ most → suc d + g ≤ most → 0 < length code
      → Made c.step (c.wide + w + v) code (element_code p locals o at z size addressed kind q y to d code)
  element_grows (Some x) at z size addressed kind {y = y} one_paid other to d code h o u k i j n =
      let l = least one_paid d code n u (omega (arith, k)) i in
      pay (omega (arith, l)) (next (one (S.Fail K.Dead at) code tt (omega arith) (tt, tt))
      (read_one other d (S.Element to at z 0 addressed kind (O.Object 0) (operand y d)) (S.Fail K.Dead at ∷ code) tt (λ b. omega (arith, h, b))
      (o, tt) u (omega (arith, k)) (omega (arith, j)) (omega arith)))
  element_grows None at z size addressed kind one_paid other to d code h o u k i j n =
      read_both one_paid other d (λ a b. S.Element to at z size addressed kind a b) c.wide code
      (λ a b ha hb. one (S.Element to at z size addressed kind a b) code tt (omega (arith, h, ha, hb)) (o, tt)) u k i j n

  -- ---- branches on a value

  on_grows : {x : Part} {w f : ℕ} → Paid x w f → (when : Bool) (to : Target) (d : ℕ) (code : Steps) → Leads (length code) labels to → length kinds ≤ d
      → d < most → d + f ≤ most
      → 0 < length code
      → Made 0 w code (branch_on p locals x when to d code)
  on_grows {x} one_paid when to d code leads u k i n =
      pay (omega arith) (read_one one_paid d (S.Branch when (operand x d) to) code leads (λ b. b) (tt, tt) u k i n)

  -- ---- `&&` and `||` as values, and `?:`

  abbrev Branching : (paid temporaries : ℕ) → (Bool → Target → (d : ℕ) → Steps → Steps) → Type 0
  Branching paid temporaries make =
      (when : Bool) (to : Target) (d : ℕ) (code : Steps) → Leads
      (length code) labels to → length kinds ≤ d → d < most → d + temporaries ≤ most → 0 < length code
      → Made 0 paid code (make when to d code)

  -- both lead to where one result is set, and the other result stands before it
  two_grow : {one_code other_code : Bool → Target → (d : ℕ) → Steps → Steps} (w f v g : ℕ) → Branching w f one_code → Branching v g other_code
      → (when : Bool) (right wrong : ℕ)
      → (to d : ℕ) (code : Steps) → to < most → Open to → length kinds ≤ d → d < most → d + f ≤ most → d + g ≤ most → 0 < length code
      → Made 0 (3 * c.step + w + v) code (one_code when (To.Left (length (S.Set to (O.Word wrong) ∷ code))) d
      (other_code when (To.Left (length (S.Set to (O.Word wrong) ∷ code))) d
      (S.Set to (O.Word right) ∷ S.Jump (To.Left (length code)) ∷ S.Set to
      (O.Word wrong) ∷ code)))
  two_grow {one_code} {other_code} w f v g first second when right wrong to d code h o u k i j n =
      let last = S.Set to (O.Word wrong) ∷ code in
      let jumps = S.Jump (To.Left (length code)) ∷ last in
      let a = one (S.Set to (O.Word wrong)) code tt (omega (arith, h)) (o, tt) in
      let b = one (S.Jump (To.Left (length code))) last (n, omega arith) (omega arith) (tt, tt) in
      let e = one (S.Set to (O.Word right)) jumps tt (omega (arith, h)) (o, tt) in
      let s = second when (To.Left (length last)) d (S.Set to (O.Word right) ∷ jumps) (omega arith, omega arith) u k j (omega arith) in
      let l = s.longer in
      pay (omega arith) (next (next (next (next a b) e) s)
      (first when (To.Left (length last)) d (other_code when (To.Left (length last)) d (S.Set to (O.Word right) ∷ jumps)) (omega arith, omega (arith, l)) u k i
      (omega (arith, l))))

  choice_grows : {test : Bool → Target → (d : ℕ) → Steps → Steps} {one_code other_code : (to d : ℕ) → Steps → Steps} (w f v g m e : ℕ) → Branching w f test
      → Parts.Makes c most labels p locals roomy c.step v g one_code → Parts.Makes c most labels p locals roomy c.step m e other_code
      → (to d : ℕ) (code : Steps) → to < most → Open to → length kinds ≤ d → d < most → d + f ≤ most → d + g ≤ most → d + e ≤ most → 0 < length code
      → Made c.step (w + v + m) code (test false (To.Left (length (other_code to d code))) d
      (one_code to d (S.Jump (To.Left (length code)) ∷ other_code to d code)))
  choice_grows {test} {one_code} {other_code} w f v g m e tests first second to d code h o u k i j l n =
      let other = second to d code h o u k l n in
      let x = other.longer in
      let jump = one (S.Jump (To.Left (length code))) (other_code to d code) (n, x) (omega arith) (tt, tt) in
      let middle = S.Jump (To.Left (length code)) ∷ other_code to d code in
      let s = first to d middle h o u k j (omega arith) in
      let y = s.longer in
      pay (omega arith) (next (next (next other jump) s)
      (tests false (To.Left (length (other_code to d code))) d (one_code to d middle) (omega (arith, n, x), omega (arith, y)) u k i (omega (arith, y))))

  -- ---- all of them

  abbrev MemberGrows : Path ℕ → Type 0
  MemberGrows q = (at : Place) (by : ℕ) (to d : ℕ) (code : Steps) → to < most → Open to → length kinds ≤ d → suc d < most → d + F_path q ≤ most
      → 0 < length code
      → Made c.step (c.step + W_path q) code (member_code p locals q at by to d code)

  mutual
    pub value_grows : (e : Expression ℕ) → ValueGrows e
    value_grows (expression t at node) to d code h o u k i n = node_grows t at node to d code h o u k i n

    pub node_grows : (t : ℕ) (at : Place) (node : Node ℕ) → NodeGrows t at node
    node_grows t at (T.constant v) to d code h o u k i n = pay (omega arith) (one (S.Set to (O.Word v)) code tt (omega (arith, h)) (o, tt))
    node_grows t at T.null to d code h o u k i n = pay (omega arith) (one (S.Set to O.Null) code tt (omega (arith, h)) (o, tt))
    node_grows t at (T.function_name f) to d code h o u k i n = pay (omega arith) (one (S.Set to (O.Function f)) code tt (omega (arith, h)) (o, tt))
    node_grows t at (T.load q) to d code h o u k i n =
        load_grows (named_root p locals q) (root q) t at (place_paid false q (path_grows false q)) to d code h o u k (omega (arith, i)) n
    node_grows t at (T.address_of q) to d code h o u k i n =
        pay (omega arith) (address_grows (named_root p locals q) at true q (path_grows true q) to d code h o u k (omega (arith, i)) n)
    node_grows t at (T.decay q) to d code h o u k i n =
        address_grows (named_root p locals q) at false q (path_grows false q) to d code h o u k (omega (arith, i)) n
    node_grows t at (T.convert e written) to d code h o u k i n =
        convert_grows (type_at p t) (value_paid e (value_grows e)) (effect_code p locals e d)
        (λ code n. effect_grows e d code u k (omega (arith, i)) n) to d code h o u k
        (omega (arith, i)) n
    node_grows t at (T.unary op x) to d code h o u k i n =
        pay (omega arith) (read_one (value_paid x (value_grows x)) d (S.Unary to at op (operand (part_of p locals x (value_code p locals x)) d)) code tt
        (λ b. omega (arith, h, b)) (o, tt) u k (omega (arith, i)) n)
    node_grows t at (T.binary op x y) to d code h o u k i n =
        pay (omega arith) (read_both (value_paid x (value_grows x)) (value_paid y (value_grows y)) d
        (λ a b. S.Binary to at op (kind_of (type_at p t)) (kind_of (type_at p (ty y))) a b) c.step code
        (λ a b ha hb. one (S.Binary to at op (kind_of (type_at p t)) (kind_of (type_at p (ty y))) a b) code tt (omega (arith, h, ha, hb)) (o, tt))
        u (omega (arith, i)) (omega (arith, i)) (omega (arith, i)) n)
    node_grows t at (T.compare op x y) to d code h o u k i n =
        pay (omega arith) (read_both (value_paid x (value_grows x)) (value_paid y (value_grows y)) d
        (λ a b. S.Compare to at op (kind_of (type_at p (ty x))) a b) c.wide code
        (λ a b ha hb. one (S.Compare to at op (kind_of (type_at p (ty x))) a b) code tt (omega (arith, h, ha, hb)) (o, tt))
        u (omega (arith, i)) (omega (arith, i)) (omega (arith, i)) n)
    node_grows t at (T.pointer_add op x y) to d code h o u k i n =
        pay (omega arith) (read_both (value_paid x (value_grows x)) (value_paid y (value_grows y)) d
        (λ a b. S.Move to at op (element_size p (type_at p t)) (is_pointer (type_at p (ty x)))
        (count_kind (type_at p (ty x)) (type_at p (ty y))) a b) c.wide code
        (λ a b ha hb. one (S.Move to at op (element_size p (type_at p t)) (is_pointer (type_at p (ty x)))
        (count_kind (type_at p (ty x)) (type_at p (ty y))) a b) code tt (omega (arith, h, ha, hb)) (o, tt))
        u (omega (arith, i)) (omega (arith, i)) (omega (arith, i)) n)
    node_grows t at (T.pointer_difference x y) to d code h o u k i n =
        pay (omega arith) (read_both (value_paid x (value_grows x)) (value_paid y (value_grows y)) d
        (λ a b. S.Distance to at (element_size p (type_at p (ty x))) a b) c.wide code
        (λ a b ha hb. one (S.Distance to at (element_size p (type_at p (ty x))) a b) code tt (omega (arith, h, ha, hb)) (o, tt))
        u (omega (arith, i)) (omega (arith, i)) (omega (arith, i)) n)
    node_grows t at (T.both x y) to d code h o u k i n =
        pay (omega arith) (two_grow {one_code = branch_code p locals x} {other_code = branch_code p locals y} (W x) (F x) (W y) (F y)
        (branch_grows x) (branch_grows y) false 1 0 to d code h o u k (omega (arith, i)) (omega (arith, i)) n)
    node_grows t at (T.either x y) to d code h o u k i n =
        pay (omega arith) (two_grow {one_code = branch_code p locals x} {other_code = branch_code p locals y} (W x) (F x) (W y) (F y)
        (branch_grows x) (branch_grows y) true 0 1 to d code h o u k (omega (arith, i)) (omega (arith, i)) n)
    node_grows t at (T.not x) to d code h o u k i n =
        pay (omega arith) (read_one (value_paid x (value_grows x)) d (S.Not to (operand (part_of p locals x (value_code p locals x)) d)) code tt
        (λ b. omega (arith, h, b)) (o, tt) u k (omega (arith, i)) n)
    node_grows t at (T.choose x y z) to d code h o u k i n =
        pay (omega arith) (choice_grows {test = branch_code p locals x} {one_code = value_code p locals y} {other_code = value_code p locals z}
        (W x) (F x) (W y) (F y) (W z) (F z) (branch_grows x) (value_grows y) (value_grows z) to d code h o u k (omega (arith, i)) (omega (arith, i))
        (omega (arith, i)) n)
    node_grows t at (T.comma x y) to d code h o u k i n =
        let a = value_grows y to d code h o u k (omega (arith, i)) n in
        let l = a.longer in
        pay (omega arith) (next a (effect_grows x d (value_code p locals y to d code) u k (omega (arith, i)) (omega (arith, n, l))))
    node_grows t at (T.assign q x) to d code h o u k i n =
        pay (omega arith) (Parts.assign_grows c most labels p locals roomy (named_root p locals q) (root q) t at (place_paid false q (path_grows false q))
        (value_grows x) (value_paid x (value_grows x))
        d (Some to) code (h, o) u (omega (arith, i)) (omega (arith, i)) (omega (arith, i)) n)
    node_grows t at (T.assign_op op q x) to d code h o u k i n =
        pay (omega arith) (Parts.assign_op_grows c most labels p locals roomy (named_root p locals q) (root q) t at op (kind_of (type_at p (ty x)))
        (place_paid false q (path_grows false q))
        (value_paid x (value_grows x)) d (Some to) code (h, o) u (omega (arith, i)) (omega (arith, i)) (omega (arith, i)) n)
    node_grows t at (T.step op before q) to d code h o u k i n =
        pay (omega arith) (Parts.step_grows c most labels p locals roomy (named_root p locals q) (root q) t at op before
        (place_paid false q (path_grows false q))
        d (Some to) code (h, o) u (omega (arith, i)) (omega (arith, i)) n)
    node_grows t at (T.copy_record q r) to d code h o u k i n =
        pay (omega arith) (Parts.copy_grows c most labels p locals roomy (named_root p locals q) (named_root p locals r) at (size_at p (path_ty q))
        (place_paid false q (path_grows false q))
        (place_paid false r (path_grows false r)) d (Some to) code (h, o) u (omega (arith, i)) (omega (arith, i)) (omega (arith, i)) n)
    node_grows t at (T.call f all) to d code h o u k i n =
        let b = count_below all in
        pay (omega arith) (next (one (S.Call to at f (record { first = d; count = count_of all })) code tt (omega (arith, h, i, b)) (o, tt))
        (arguments_grow all d (S.Call to at f (record { first = d; count = count_of all }) ∷ code) u (omega (arith, i)) (omega arith)))
    node_grows t at (T.call_through e all) to d code h o u k i n =
        let b = count_below all in
        let s = S.CallThrough to at (ty e) (temp (at_of e) d) (record { first = suc d; count = count_of all }) in
        let a = arguments_grow all (suc d) (s ∷ code) (omega (arith, u)) (omega (arith, i)) (omega arith) in
        let l = a.longer in
        pay (omega arith) (next (next (one s code tt (omega (arith, h, k, i, b)) (o, tt)) a)
        (Grows.held_grows c most kinds sizes labels (value_paid e (value_grows e)) d (arguments_code p locals all (suc d) (s ∷ code)) (omega (arith, l)) u k
        (omega (arith, i))))
    node_grows t at (T.library which all) to d code h o u k i n =
        let b = count_below all in
        pay (omega arith) (next (one (S.Library to at which (record { first = d; count = count_of all })) code tt (omega (arith, h, i, b)) (o, tt))
        (arguments_grow all d (S.Library to at which (record { first = d; count = count_of all }) ∷ code) u (omega (arith, i)) (omega arith)))
    node_grows t at (T.allocate r T.no_expression zeroed) to d code h o u k i n =
        pay (omega arith) (one (S.Allocate to at r (element_size p (type_at p t)) zeroed (O.Word 1)) code tt (omega (arith, h)) (o, tt))
    node_grows t at (T.allocate r (T.some_expression e) zeroed) to d code h o u k i n =
        pay (omega arith) (read_one (value_paid e (value_grows e)) d
        (S.Allocate to at r (element_size p (type_at p t)) zeroed
        (operand (part_of p locals e (value_code p locals e)) d))
        code tt (λ b. omega (arith, h, b)) (o, tt) u k (omega (arith, i)) n)

    -- the price of the arguments in the call itself is left
    pub arguments_grow : (all : Expressions ℕ) (d : ℕ) (code : Steps) → length kinds ≤ d → d + weight_of_all temporaries all ≤ most → 0 < length code
        → Made (count_of all * c.argument) (weight_of_all (paid c) all) code (arguments_code p locals all d code)
    arguments_grow T.no_expressions d code u i n = pay (omega arith) (Grows.same c most kinds sizes labels)
    arguments_grow (T.and_expression e more) d code u i n =
        let a = arguments_grow more (suc d) code (omega (arith, u)) (omega (arith, i)) n in
        let l = a.longer in
        let m = one_argument (count_of more) c.argument in
        pay (omega (arith, m)) (next a
        (Grows.held_grows c most kinds sizes labels (value_paid e (value_grows e)) d (arguments_code p locals more (suc d) code) (omega (arith, n, l)) u
        (omega (arith, i)) (omega (arith, i))))

    pub effect_grows : (e : Expression ℕ) → EffectGrows e
    effect_grows (expression t at (T.comma x y)) d code u k i n =
        let a = effect_grows y d code u k (omega (arith, i)) n in
        let l = a.longer in
        pay (omega arith) (next a (effect_grows x d (effect_code p locals y d code) u k (omega (arith, i)) (omega (arith, n, l))))
    effect_grows (expression t at (T.assign q x)) d code u k i n =
        pay (omega arith) (Parts.assign_grows c most labels p locals roomy (named_root p locals q) (root q) t at (place_paid false q (path_grows false q))
        (value_grows x) (value_paid x (value_grows x))
        d None code tt u (omega (arith, i)) (omega (arith, i)) (omega (arith, i)) n)
    effect_grows (expression t at (T.assign_op op q x)) d code u k i n =
        pay (omega arith) (Parts.assign_op_grows c most labels p locals roomy (named_root p locals q) (root q) t at op (kind_of (type_at p (ty x)))
        (place_paid false q (path_grows false q))
        (value_paid x (value_grows x)) d None code tt u (omega (arith, i)) (omega (arith, i)) (omega (arith, i)) n)
    effect_grows (expression t at (T.step op before q)) d code u k i n =
        pay (omega arith) (Parts.step_grows c most labels p locals roomy (named_root p locals q) (root q) t at op before
        (place_paid false q (path_grows false q))
        d None code tt u (omega (arith, i)) (omega (arith, i)) n)
    effect_grows (expression t at (T.copy_record q r)) d code u k i n =
        pay (omega arith) (Parts.copy_grows c most labels p locals roomy (named_root p locals q) (named_root p locals r) at (size_at p (path_ty q))
        (place_paid false q (path_grows false q))
        (place_paid false r (path_grows false r)) d None code tt u (omega (arith, i)) (omega (arith, i)) (omega (arith, i)) n)
    effect_grows (expression t at (T.constant v)) d code u k i n = pay (omega arith) (node_grows t at (T.constant v) d d code k (free d u) u k i n)
    effect_grows (expression t at T.null) d code u k i n = pay (omega arith) (node_grows t at T.null d d code k (free d u) u k i n)
    effect_grows (expression t at (T.function_name f)) d code u k i n = pay (omega arith) (node_grows t at (T.function_name f) d d code k (free d u) u k i n)
    effect_grows (expression t at (T.load q)) d code u k i n = pay (omega arith) (node_grows t at (T.load q) d d code k (free d u) u k i n)
    effect_grows (expression t at (T.address_of q)) d code u k i n = pay (omega arith) (node_grows t at (T.address_of q) d d code k (free d u) u k i n)
    effect_grows (expression t at (T.decay q)) d code u k i n = pay (omega arith) (node_grows t at (T.decay q) d d code k (free d u) u k i n)
    effect_grows (expression t at (T.convert e written)) d code u k i n =
        pay (omega arith) (node_grows t at (T.convert e written) d d code k (free d u) u k i n)
    effect_grows (expression t at (T.unary op x)) d code u k i n = pay (omega arith) (node_grows t at (T.unary op x) d d code k (free d u) u k i n)
    effect_grows (expression t at (T.binary op x y)) d code u k i n = pay (omega arith) (node_grows t at (T.binary op x y) d d code k (free d u) u k i n)
    effect_grows (expression t at (T.compare op x y)) d code u k i n = pay (omega arith) (node_grows t at (T.compare op x y) d d code k (free d u) u k i n)
    effect_grows (expression t at (T.pointer_add op x y)) d code u k i n =
        pay (omega arith) (node_grows t at (T.pointer_add op x y) d d code k (free d u) u k i n)
    effect_grows (expression t at (T.pointer_difference x y)) d code u k i n =
        pay (omega arith) (node_grows t at (T.pointer_difference x y) d d code k (free d u) u k i n)
    effect_grows (expression t at (T.both x y)) d code u k i n = pay (omega arith) (node_grows t at (T.both x y) d d code k (free d u) u k i n)
    effect_grows (expression t at (T.either x y)) d code u k i n = pay (omega arith) (node_grows t at (T.either x y) d d code k (free d u) u k i n)
    effect_grows (expression t at (T.not x)) d code u k i n = pay (omega arith) (node_grows t at (T.not x) d d code k (free d u) u k i n)
    effect_grows (expression t at (T.choose x y z)) d code u k i n = pay (omega arith) (node_grows t at (T.choose x y z) d d code k (free d u) u k i n)
    effect_grows (expression t at (T.call f all)) d code u k i n = pay (omega arith) (node_grows t at (T.call f all) d d code k (free d u) u k i n)
    effect_grows (expression t at (T.call_through e all)) d code u k i n =
        pay (omega arith) (node_grows t at (T.call_through e all) d d code k (free d u) u k i n)
    effect_grows (expression t at (T.library which all)) d code u k i n =
        pay (omega arith) (node_grows t at (T.library which all) d d code k (free d u) u k i n)
    effect_grows (expression t at (T.allocate r count zeroed)) d code u k i n =
        pay (omega arith) (node_grows t at (T.allocate r count zeroed) d d code k (free d u) u k i n)

    pub branch_grows : (e : Expression ℕ) → BranchGrows e
    branch_grows (expression t at (T.compare op x y)) when to d code leads u k i n =
        pay (omega arith) (read_both (value_paid x (value_grows x)) (value_paid y (value_grows y)) d
        (λ a b. S.Test at op (kind_of (type_at p (ty x))) when a b to) c.wide code
        (λ a b ha hb. one (S.Test at op (kind_of (type_at p (ty x))) when a b to) code leads (omega (arith, ha, hb)) (tt, tt))
        u (omega (arith, i)) (omega (arith, i)) (omega (arith, i)) n)
    branch_grows (expression t at (T.not x)) when to d code leads u k i n =
        pay (omega arith) (branch_grows x (not when) to d code leads u k (omega (arith, i)) n)
    branch_grows (expression t at (T.both x y)) false to d code leads u k i n =
        let b = branch_grows y false to d code leads u k (omega (arith, i)) n in
        let l = b.longer in
        pay (omega arith) (next b (branch_grows x false to d (branch_code p locals y false to d code) (leads_later to l (omega arith) leads) u k
        (omega (arith, i)) (omega (arith, n, l))))
    branch_grows (expression t at (T.both x y)) true to d code leads u k i n =
        let b = branch_grows y true to d code leads u k (omega (arith, i)) n in
        let l = b.longer in
        pay (omega arith) (next b (branch_grows x false (To.Left (length code)) d (branch_code p locals y true to d code) (n, l) u k (omega (arith, i))
        (omega (arith, n, l))))
    branch_grows (expression t at (T.either x y)) true to d code leads u k i n =
        let b = branch_grows y true to d code leads u k (omega (arith, i)) n in
        let l = b.longer in
        pay (omega arith) (next b (branch_grows x true to d (branch_code p locals y true to d code) (leads_later to l (omega arith) leads) u k
        (omega (arith, i))
        (omega (arith, n, l))))
    branch_grows (expression t at (T.either x y)) false to d code leads u k i n =
        let b = branch_grows y false to d code leads u k (omega (arith, i)) n in
        let l = b.longer in
        pay (omega arith) (next b (branch_grows x true (To.Left (length code)) d (branch_code p locals y false to d code) (n, l) u k (omega (arith, i))
        (omega (arith, n, l))))
    branch_grows (expression t at (T.constant v)) when to d code leads u k i n =
        on_grows (value_paid (expression t at (T.constant v)) (node_grows t at (T.constant v))) when to d code leads u k i n
    branch_grows (expression t at T.null) when to d code leads u k i n =
        on_grows (value_paid (expression t at T.null) (node_grows t at T.null)) when to d code leads u k i n
    branch_grows (expression t at (T.function_name f)) when to d code leads u k i n =
        on_grows (value_paid (expression t at (T.function_name f)) (node_grows t at (T.function_name f))) when to d code leads u k i n
    branch_grows (expression t at (T.load q)) when to d code leads u k i n =
        on_grows (value_paid (expression t at (T.load q)) (node_grows t at (T.load q))) when to d code leads u k i n
    branch_grows (expression t at (T.address_of q)) when to d code leads u k i n =
        on_grows (value_paid (expression t at (T.address_of q)) (node_grows t at (T.address_of q))) when to d code leads u k i n
    branch_grows (expression t at (T.decay q)) when to d code leads u k i n =
        on_grows (value_paid (expression t at (T.decay q)) (node_grows t at (T.decay q))) when to d code leads u k i n
    branch_grows (expression t at (T.convert e written)) when to d code leads u k i n =
        on_grows (value_paid (expression t at (T.convert e written)) (node_grows t at (T.convert e written))) when to d code leads u k i n
    branch_grows (expression t at (T.unary op x)) when to d code leads u k i n =
        on_grows (value_paid (expression t at (T.unary op x)) (node_grows t at (T.unary op x))) when to d code leads u k i n
    branch_grows (expression t at (T.binary op x y)) when to d code leads u k i n =
        on_grows (value_paid (expression t at (T.binary op x y)) (node_grows t at (T.binary op x y))) when to d code leads u k i n
    branch_grows (expression t at (T.pointer_add op x y)) when to d code leads u k i n =
        on_grows (value_paid (expression t at (T.pointer_add op x y)) (node_grows t at (T.pointer_add op x y))) when to d code leads u k i n
    branch_grows (expression t at (T.pointer_difference x y)) when to d code leads u k i n =
        on_grows (value_paid (expression t at (T.pointer_difference x y)) (node_grows t at (T.pointer_difference x y))) when to d code leads u k i n
    branch_grows (expression t at (T.choose x y z)) when to d code leads u k i n =
        on_grows (value_paid (expression t at (T.choose x y z)) (node_grows t at (T.choose x y z))) when to d code leads u k i n
    branch_grows (expression t at (T.comma x y)) when to d code leads u k i n =
        on_grows (value_paid (expression t at (T.comma x y)) (node_grows t at (T.comma x y))) when to d code leads u k i n
    branch_grows (expression t at (T.assign q x)) when to d code leads u k i n =
        on_grows (value_paid (expression t at (T.assign q x)) (node_grows t at (T.assign q x))) when to d code leads u k i n
    branch_grows (expression t at (T.assign_op op q x)) when to d code leads u k i n =
        on_grows (value_paid (expression t at (T.assign_op op q x)) (node_grows t at (T.assign_op op q x))) when to d code leads u k i n
    branch_grows (expression t at (T.step op before q)) when to d code leads u k i n =
        on_grows (value_paid (expression t at (T.step op before q)) (node_grows t at (T.step op before q))) when to d code leads u k i n
    branch_grows (expression t at (T.copy_record q r)) when to d code leads u k i n =
        on_grows (value_paid (expression t at (T.copy_record q r)) (node_grows t at (T.copy_record q r))) when to d code leads u k i n
    branch_grows (expression t at (T.call f all)) when to d code leads u k i n =
        on_grows (value_paid (expression t at (T.call f all)) (node_grows t at (T.call f all))) when to d code leads u k i n
    branch_grows (expression t at (T.call_through e all)) when to d code leads u k i n =
        on_grows (value_paid (expression t at (T.call_through e all)) (node_grows t at (T.call_through e all))) when to d code leads u k i n
    branch_grows (expression t at (T.library which all)) when to d code leads u k i n =
        on_grows (value_paid (expression t at (T.library which all)) (node_grows t at (T.library which all))) when to d code leads u k i n
    branch_grows (expression t at (T.allocate r count zeroed)) when to d code leads u k i n =
        on_grows (value_paid (expression t at (T.allocate r count zeroed)) (node_grows t at (T.allocate r count zeroed))) when to d code leads u k i n

    pub path_grows : (addressed : Bool) (q : Path ℕ) → PathGrows addressed q
    path_grows addressed (path t at node) to d code h o u k i n = way_grows addressed t at node to d code h o u k i n

    pub way_grows : (addressed : Bool) (t : ℕ) (at : Place) (node : PathNode ℕ) → PathGrows addressed (path t at node)
    way_grows addressed t at (T.local x) to d code h o u k i n = local_grows at x (slice_get locals x) refl to code h o
    way_grows addressed t at (T.object z) to d code h o u k i n = pay (omega arith) (one (S.Set to (O.Object z)) code tt (omega (arith, h)) (o, tt))
    way_grows addressed t at (T.deref e) to d code h o u k i n = pay (omega arith) (value_grows e to d code h o u k (omega (arith, i)) n)
    way_grows addressed t at (T.index e x) to d code h o u k i n =
        read_both (value_paid e (value_grows e)) (value_paid x (value_grows x)) d
        (λ a b. S.Move to at Add (size_at p t) true (kind_of (type_at p (ty x))) a b) c.wide code
        (λ a b ha hb. one (S.Move to at Add (size_at p t) true (kind_of (type_at p (ty x))) a b) code tt (omega (arith, h, ha, hb))
        (o, tt))
        u (omega (arith, i)) (omega (arith, i)) (omega (arith, i)) n
    way_grows addressed t at (T.member q r field) to d code h o u k i n =
        member_grows q at (offset_of p.records r field) to d code h o u (omega (arith, i)) (omega (arith, i)) n
    way_grows addressed t at (T.element q x) to d code h o u k i n =
        element_grows (named_root p locals q) at (length_of (type_at p (path_ty q))) (size_at p t) addressed (kind_of (type_at p (ty x)))
        (place_paid false q (path_grows false q))
        (value_paid x (value_grows x)) to d code h o u (omega (arith, i)) (omega (arith, i)) (omega (arith, i)) n

    pub member_grows : (q : Path ℕ) → MemberGrows q
    member_grows (path y b (T.deref e)) at by to d code h o u k i n =
        pay (omega arith) (read_one (value_paid e (value_grows e)) d (S.Field to at by (operand (part_of p locals e (value_code p locals e)) d)) code tt
        (λ b. omega (arith, h, b))
        (o, tt) u (omega (arith, k)) (omega (arith, i)) n)
    member_grows (path y b (T.index e x)) at by to d code h o u k i n =
        pay (omega arith) (read_both (value_paid e (value_grows e)) (value_paid x (value_grows x)) d
        (λ a z. S.ElementField to at (size_at p y) (kind_of (type_at p (ty x))) by a z) c.wide code
        (λ a z ha hb. one (S.ElementField to at (size_at p y) (kind_of (type_at p (ty x))) by a z) code tt (omega (arith, h, ha, hb)) (o, tt))
        u k (omega (arith, i)) (omega (arith, i)) n)
    member_grows (path y b (T.local x)) at by to d code h o u k i n =
        part_grows (named_root p locals (path y b (T.local x))) at by (place_paid false (path y b (T.local x)) (way_grows false y b (T.local x))) to d code h
        o u (omega (arith, k)) i n
    member_grows (path y b (T.object z)) at by to d code h o u k i n =
        part_grows (named_root p locals (path y b (T.object z))) at by
        (place_paid false (path y b (T.object z)) (way_grows false y b (T.object z))) to d code h
        o u (omega (arith, k)) i n
    member_grows (path y b (T.member q r field)) at by to d code h o u k i n =
        part_grows (named_root p locals (path y b (T.member q r field))) at by
        (place_paid false (path y b (T.member q r field)) (way_grows false y b (T.member q r field))) to d code h
        o u (omega (arith, k)) i n
    member_grows (path y b (T.element q x)) at by to d code h o u k i n =
        part_grows (named_root p locals (path y b (T.element q x))) at by
        (place_paid false (path y b (T.element q x)) (way_grows false y b (T.element q x))) to d code h
        o u (omega (arith, k)) i n
