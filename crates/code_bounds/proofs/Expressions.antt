-- What the code of expressions and paths adds.
use Rattle.std.specs.Option.{option_map}
use Rattle.std.proofs.Common.{map, ap, ◌∙◌, ◌≢◌, ◌≡◌, ℕ, zero, suc, ◌+◌, ◌*◌, ◌<◌, ◌≤◌, Bool, true, false, List, [], ◌∷◌, length, Option, Some, None, refl}
use Rattle.std.proofs.Common.{subst, arith}
use Rattle.std.proofs.Common.{slice_get, if◌then◌else◌}
use Rattle.lay_base.specs.declared.faults.UndefinedKind.TheVariants as K
use Rattle.lay_base.specs.declared.place.Place.{Place}
use Rattle.c_types.specs.declared.ty.IntKind.{IntKind}
use Rattle.c_typed.specs.declared.operators.BinaryOp.{BinaryOp}
use Rattle.c_typed.specs.declared.operators.StepOp.{StepOp}
use Rattle.c_typed.specs.declared.program.Local.{Local}
use Rattle.c_typed.specs.Programs.{ProgramData}
use Rattle.c_typed.specs.Trees as T
use Rattle.c_typed.specs.Trees.{Expression, expression, Node, Path, path, PathNode, Expressions, OptionalExpression}
use Rattle.c_meaning.specs.Program.{type_at, size_at, access_at, element_size}
use Rattle.block_memory.specs.RunWorlds.Operators.{step_op}
use Rattle.tac_ir.specs.declared.step.Operand.{Operand}
use Rattle.tac_ir.specs.declared.step.Operand.TheVariants as O
use Rattle.tac_ir.specs.declared.step.Step.{Step}
use Rattle.tac_ir.specs.declared.step.Step.TheVariants as S
use Rattle.tac_ir.specs.declared.step.Target.{Target}
use Rattle.lower_tac.specs.Parts.{Steps, Part, temp, operand, code_of, held, settled, settled_operand, tested_if, both_code}
use Rattle.lower_tac.specs.Expressions.{named, value_of_name, address_of_local, result_code, no_result, unit_kind, sort_of}
use Rattle.lower_tac.specs.Expressions.{assign_named, assign_code, assign_op_code, step_code, copy_code, named_root, atom, place_atom, part_of, place_of}
use Rattle.lower_tac.specs.Expressions.{value_code, node_code}
use Rattle.lower_tac.specs.Expressions.{effect_code, branch_code, path_code}
use Rattle.c_well_typed.specs.ProgramWeights.Weights.{weight, weight_of_node, weight_of_path}
use Rattle.tac_ir.specs.Jumps.{target_of}
use Rattle.code_bounds.specs.Prices.{Prices, price_of, paid}
use Rattle.tac_ir.specs.Temporaries.{top, top_of}
use Rattle.code_bounds.specs.Temporaries.{temporaries}
use Rattle.code_bounds.proofs.Grows as Grows
use Rattle.code_bounds.proofs.Grows.{Leads, leads_later}

-- so many temporaries beside the locals
abbrev pub F : Expression ℕ → ℕ
F e = weight temporaries e

abbrev pub F_path : Path ℕ → ℕ
F_path q = weight_of_path temporaries q

some_same : {A : Type 0} {a b : A} → Some a ≡ Some b → a ≡ b
some_same e = cc

module _ (c : Prices) (most labels : ℕ) (p : ProgramData) (locals : List Local) (roomy : length locals ≤ most) where
  -- of each local, whether it lies in a block
  abbrev pub kinds : List Bool
  kinds = map (λ l. l.block) locals

  abbrev pub sizes : List ℕ
  sizes = map (λ l. size_at p l.ty) locals

  abbrev pub Open : ℕ → Type 0
  Open = Grows.Open c most kinds sizes

  free : (d : ℕ) → length kinds ≤ d → Open d
  free = Grows.free_open c most kinds sizes

  abbrev pub Made : (rest paid : ℕ) → (code whole : Steps) → Type 0
  Made = Grows.Grows c most kinds sizes labels

  abbrev pub Paid : Part → (paid temporaries : ℕ) → Type 0
  Paid = Grows.Paid c most kinds sizes labels

  abbrev pub W : Expression ℕ → ℕ
  W e = weight (paid c) e

  abbrev pub W_path : Path ℕ → ℕ
  W_path q = weight_of_path (paid c) q

  -- ---- named locals

  pub within : {A : Type 0} (all : List A) (x : ℕ) (l : A) → slice_get all x ≡ Some l → x < length all
  within [] x l e = cc
  within (o ∷ all) zero l e = omega arith
  within (o ∷ all) (suc x) l e = let h : x < length all = within all x l e in omega (arith, h)

  pub local_below : (x : ℕ) (l : Local) → slice_get locals x ≡ Some l → x < most
  local_below x l e = let h = within locals x l e in omega (arith, h, roomy)

  kind_is : (all : List Local) (x : ℕ) (l : Local) → slice_get all x ≡ Some l → slice_get (map (λ l. l.block) all) x ≡ Some l.block
  kind_is [] x l e = cc
  kind_is (o ∷ all) zero l e = ap (λ (o : Option Local). option_map (λ l. l.block) o) e
  kind_is (o ∷ all) (suc x) l e = kind_is all x l e

  pub block_is : (x : ℕ) (l : Local) → slice_get locals x ≡ Some l → l.block ≡ true → slice_get kinds x ≡ Some true
  block_is x l e b = kind_is locals x l e ∙ ap Some b

  size_is : (all : List Local) (x : ℕ) (l : Local) → slice_get all x ≡ Some l → slice_get (map (λ l. size_at p l.ty) all) x ≡ Some (size_at p l.ty)
  size_is [] x l e = cc
  size_is (o ∷ all) zero l e = ap (λ (o : Option Local). option_map (λ l. size_at p l.ty) o) e
  size_is (o ∷ all) (suc x) l e = size_is all x l e

  pub own_size : (x : ℕ) (l : Local) → slice_get locals x ≡ Some l → slice_get sizes x ≡ Some (size_at p l.ty)
  own_size x l e = size_is locals x l e

  pub named_is_open : (x : ℕ) (l : Local) → slice_get locals x ≡ Some l → l.block ≡ false → Open x
  named_is_open x l e b = by_kind (slice_get kinds x) (kind_is locals x l e ∙ ap Some b)
    where
      by_kind : (o : Option Bool) → o ≡ Some false → o ≢ Some true
      by_kind None e = cc
      by_kind (Some true) e = cc
      by_kind (Some false) e = λ (q : Some false ≡ Some true). cc

  -- what may be written, and is not too great
  abbrev pub Good : ℕ → Type 0
  Good t = (t < most) × Open t

  named_below : (x y : ℕ) (o : Option Local) → slice_get locals y ≡ o → named o y ≡ Some x → Good x
  named_below x y None is e = cc
  named_below x y (Some l) is e = by_block l.block refl e
    where
      by_block : (b : Bool) → l.block ≡ b → (if b then None else Some y) ≡ Some x → Good x
      by_block true is_block e = cc
      by_block false is_named e = subst Good (some_same e) (local_below y l is, named_is_open y l is is_named)

  pub root_good : (q : Path ℕ) (x : ℕ) → named_root p locals q ≡ Some x → Good x
  root_good (path t at (T.local y)) x e = named_below x y (slice_get locals y) refl e
  root_good (path t at (T.object k)) x e = cc
  root_good (path t at (T.deref k)) x e = cc
  root_good (path t at (T.index k i)) x e = cc
  root_good (path t at (T.member q r field)) x e = cc
  root_good (path t at (T.element q i)) x e = cc

  value_of_name_below : (at : Place) (o : Option ℕ) → ((x : ℕ) → o ≡ Some x → x < most) → (a : Operand) → value_of_name at o ≡ Some a → top a ≤ most
  value_of_name_below at None below a e = cc
  value_of_name_below at (Some x) below a e = by_operand a (below x refl) (some_same e)
    where
      by_operand : (a : Operand) → x < most → O.Temp K.Empty x at ≡ a → top a ≤ most
      by_operand a h e = subst (λ a. top a ≤ most) e (let r : suc x ≤ most = omega (arith, h) in r)

  load_below : (at : Place) (q : Path ℕ) (a : Operand) → value_of_name at (named_root p locals q) ≡ Some a → top a ≤ most
  load_below at q a e = value_of_name_below at (named_root p locals q) (λ x e. (root_good q x e).0) a e

  fixed_below : (o a : Operand) → top o ≤ most → Some o ≡ Some a → top a ≤ most
  fixed_below o a h e = subst (λ a. top a ≤ most) (some_same e) h

  atom_below : (e : Expression ℕ) (a : Operand) → atom p locals e ≡ Some a → top a ≤ most
  atom_below (expression t at (T.constant v)) a e = fixed_below (O.Word v) a (omega arith) e
  atom_below (expression t at T.null) a e = fixed_below O.Null a (omega arith) e
  atom_below (expression t at (T.function_name f)) a e = fixed_below (O.Function f) a (omega arith) e
  atom_below (expression t at (T.load q)) a e = load_below at q a e
  atom_below (expression t at (T.address_of q)) a e = cc
  atom_below (expression t at (T.decay q)) a e = cc
  atom_below (expression t at (T.convert x written)) a e = cc
  atom_below (expression t at (T.unary op x)) a e = cc
  atom_below (expression t at (T.binary op x y)) a e = cc
  atom_below (expression t at (T.compare op x y)) a e = cc
  atom_below (expression t at (T.pointer_add op x y)) a e = cc
  atom_below (expression t at (T.pointer_difference x y)) a e = cc
  atom_below (expression t at (T.both x y)) a e = cc
  atom_below (expression t at (T.either x y)) a e = cc
  atom_below (expression t at (T.not x)) a e = cc
  atom_below (expression t at (T.choose x y z)) a e = cc
  atom_below (expression t at (T.comma x y)) a e = cc
  atom_below (expression t at (T.assign q x)) a e = cc
  atom_below (expression t at (T.assign_op op q x)) a e = cc
  atom_below (expression t at (T.step op before q)) a e = cc
  atom_below (expression t at (T.copy_record q r)) a e = cc
  atom_below (expression t at (T.call f all)) a e = cc
  atom_below (expression t at (T.call_through x all)) a e = cc
  atom_below (expression t at (T.library which all)) a e = cc
  atom_below (expression t at (T.allocate r count zeroed)) a e = cc

  place_atom_below : (q : Path ℕ) (a : Operand) → place_atom p locals q ≡ Some a → top a ≤ most
  place_atom_below (path t at (T.local x)) a e = by_local (slice_get locals x) refl e
    where
      by_block : (l : Local) → slice_get locals x ≡ Some l → (b : Bool) → (if b then Some (O.Temp K.Dead x at) else None) ≡ Some a → top a ≤ most
      by_block l is true e = fixed_below (O.Temp K.Dead x at) a (let h = local_below x l is in omega (arith, h)) e
      by_block l is false e = cc

      by_local : (o : Option Local) → slice_get locals x ≡ o → address_of_local at x o ≡ Some a → top a ≤ most
      by_local None is e = cc
      by_local (Some l) is e = by_block l is l.block e
  place_atom_below (path t at (T.object n)) a e = fixed_below (O.Object n) a (omega arith) e
  place_atom_below (path t at (T.deref x)) a e = atom_below x a e
  place_atom_below (path t at (T.index x i)) a e = cc
  place_atom_below (path t at (T.member q r field)) a e = cc
  place_atom_below (path t at (T.element q i)) a e = cc

  -- ---- what is said of each part

  abbrev pub ValueGrows : Expression ℕ → Type 0
  ValueGrows e = (to d : ℕ) (code : Steps) → to < most → Open to → length kinds ≤ d → d < most → d + F e ≤ most → 0 < length code
      → Made c.step (W e) code (value_code p locals e to d code)

  abbrev pub NodeGrows : (t : ℕ) → Place → Node ℕ → Type 0
  NodeGrows t at node = (to d : ℕ) (code : Steps) → to < most → Open to → length kinds ≤ d → d < most → d + weight_of_node temporaries node ≤ most
      → 0 < length code
      → Made c.step (weight_of_node (paid c) node) code (node_code p locals t at node to d code)

  abbrev pub EffectGrows : Expression ℕ → Type 0
  EffectGrows e = (d : ℕ) (code : Steps) → length kinds ≤ d → d < most → d + F e ≤ most → 0 < length code → Made 0 (W e) code (effect_code p locals e d code)

  abbrev pub BranchGrows : Expression ℕ → Type 0
  BranchGrows e = (when : Bool) (to : Target) (d : ℕ) (code : Steps) → Leads (length code) labels to → length kinds ≤ d → d < most → d + F e ≤ most
      → 0 < length code
      → Made 0 (W e) code (branch_code p locals e when to d code)

  abbrev pub PathGrows : (addressed : Bool) → Path ℕ → Type 0
  PathGrows addressed q = (to d : ℕ) (code : Steps) → to < most → Open to → length kinds ≤ d → d < most → d + F_path q ≤ most → 0 < length code
      → Made c.step (W_path q) code (path_code p locals addressed q to d code)

  pub part_paid : (e : Expression ℕ) → ValueGrows e → Paid (part_of p locals e (value_code p locals e)) (W e) (F e)
  part_paid e one = record { made = λ d code k u h g. one d d code h (Grows.free_open c most kinds sizes d u) u h g k; atom = atom_below e }

  pub place_paid : (addressed : Bool) (q : Path ℕ) → PathGrows addressed q → Paid (place_of p locals q (path_code p locals addressed q)) (W_path q) (F_path q)
  place_paid addressed q one = record { made = λ d code k u h g. one d d code h (Grows.free_open c most kinds sizes d u) u h g k; atom = place_atom_below q }

  abbrev pub next : {r q v w : ℕ} {code middle whole : Steps} → Made r v code middle → Made q w middle whole → Made (r + q) (v + w) code whole
  next = Grows.next c most kinds sizes labels

  abbrev pub pay : {r v q w : ℕ} {code whole : Steps} → q + v ≤ r + w → Made r v code whole → Made q w code whole
  pay = Grows.pay c most kinds sizes labels

  abbrev pub one : (s : Step) (code : Steps) → Grows.LeadsIfAny (length code) labels (target_of s) → top_of s ≤ most → Grows.Keeps c most kinds sizes s
      → Made 0 (price_of c s) code (s ∷ code)
  one = Grows.one c most kinds sizes labels

  -- ---- operands and the step that reads them

  pub read_one : {x : Part} {w f : ℕ} → Paid x w f → (d : ℕ) (s : Step) (code : Steps) → Grows.LeadsIfAny (length code) labels (target_of s)
      → (top (operand x d) ≤ most → top_of s ≤ most) → Grows.Keeps c most kinds sizes s → length kinds ≤ d → d < most → d + f ≤ most → 0 < length code
      → Made c.step (price_of c s + w) code (code_of x d (s ∷ code))
  read_one {x} q d s code to below keeps u k h l =
      pay (omega arith) (next (one s code to (below (Grows.operand_below c most kinds sizes labels q d k)) keeps)
      (Grows.code_grows c most kinds sizes labels q d (s ∷ code) (omega arith) u k h))

  pub read_both : {x y : Part} {w f v g : ℕ} → Paid x w f → Paid y v g → (d : ℕ) (s : Operand → Operand → Step) (price : ℕ) (code : Steps)
      → ((a b : Operand) → top a ≤ most → top b ≤ most → Made 0 price code (s a b ∷ code))
      → length kinds ≤ d → suc d < most → d + f ≤ most → suc d + g ≤ most → 0 < length code
      → Made c.step (price + w + v) code (both_code x y d (λ a b. s a b ∷ code))
  read_both q r d s price code last u k h i l = pay (omega arith) (Grows.both_grows c most kinds sizes labels q r d (λ a b. s a b ∷ code) last l u k h i)

  -- a part costs a step at least
  pub least : {x : Part} {w f : ℕ} → Paid x w f → (d : ℕ) (code : Steps) → 0 < length code → length kinds ≤ d → d < most → d + f ≤ most → c.step ≤ w
  least q d code k u h g = let m = q.made d code k u h g in let x = m.dearer in let y = m.cost in omega (arith, x, y)

  -- ---- results

  abbrev pub Below : Option ℕ → Type 0
  Below None = Unit {0}
  Below (Some x) = Good x

  pub below_root : (q : Path ℕ) → Below (named_root p locals q)
  below_root q = by_root (named_root p locals q) (root_good q)
    where
      by_root : (o : Option ℕ) → ((x : ℕ) → o ≡ Some x → Good x) → Below o
      by_root None below = tt
      by_root (Some x) below = below x refl

  result_grows : (to : Option ℕ) (a : Operand) (code : Steps) → Below to → top a ≤ most → Made 0 c.step code (result_code to a code)
  result_grows None a code h g = pay (omega arith) (Grows.same c most kinds sizes labels)
  result_grows (Some to) a code h g = one (S.Set to a) code tt (let k = h.0 in omega (arith, k, g)) (h.1, tt)

  no_result_grows : (to : Option ℕ) (code : Steps) → Below to → Made 0 c.step code (no_result to code)
  no_result_grows None code h = pay (omega arith) (Grows.same c most kinds sizes labels)
  no_result_grows (Some to) code h = one (S.Clear to) code tt (let k = h.0 in omega (arith, k)) (h.1, tt)

  -- ---- assignments

  abbrev pub Makes : (rest paid temporaries : ℕ) → ((to d : ℕ) → Steps → Steps) → Type 0
  Makes rest paid temporaries make =
      (to d : ℕ) (code : Steps) → to < most → Open to → length kinds ≤ d → d < most → d + temporaries ≤ most → 0 < length code → Made rest paid code
      (make to d code)

  pub named_grows : {value : (to d : ℕ) → Steps → Steps} {v : ℕ} (g : ℕ) → Makes c.step v g value
      → (at : Place) (x : ℕ) (y : Part) (d : ℕ) (to : Option ℕ) (code : Steps)
      → Good x → Below to → length kinds ≤ d → d < most → d + g ≤ most → 0 < length code → Made 0 (c.step + v) code (assign_named p at x value y d to code)
  named_grows {value} g makes at x y d to code k h u l i n =
      let r = result_grows to (O.Temp K.Empty x at) code h (let b = k.0 in omega (arith, b)) in
      let e = r.longer in
      let t = Grows.tested_grows c most kinds sizes labels y.lacks y.at x (result_code to (O.Temp K.Empty x at) code) k.0 k.1 in
      let z = t.longer in
      pay (omega arith) (next (next r t) (makes x d (tested_if y.lacks y.at x (result_code to (O.Temp K.Empty x at) code)) k.0 k.1 u l i
      (omega (arith, n, e, z))))

  pub assign_grows : (o : Option ℕ) → Below o → (t : ℕ) (at : Place) {q y : Part} {value : (to d : ℕ) → Steps → Steps} {w f v g : ℕ} → Paid q w f
      → Makes c.step v g value → Paid y v g
      → (d : ℕ) (to : Option ℕ) (code : Steps) → Below to → length kinds ≤ d → suc d < most → d + f ≤ most → suc d + g ≤ most → 0 < length code
      → Made 0 (2 * c.step + w + v) code (assign_code p o t at q value y d to code)
  assign_grows (Some x) b t at {y = y} {g = g} one_paid makes other d to code h u k i l n =
      pay (omega arith) (named_grows g makes at x y d to code b h u (omega (arith, k)) (omega (arith, l)) n)
  assign_grows None b t at one_paid makes other d to code h u k i l n =
      pay (omega arith) (Grows.both_grows c most kinds sizes labels one_paid other d (λ a e. S.Store at (access_at p t) a e ∷ result_code to e code)
      (λ a e ha he. next (result_grows to e code h he) (one (S.Store at (access_at p t) a e) (result_code to e code) tt (omega (arith, ha, he)) (tt, tt)))
      n u k i l)

  abbrev update_step : (t : ℕ) → Place → BinaryOp → (right : IntKind) → (new : ℕ) → (old b : Operand) → Step
  update_step t at op right new old b = S.Update new at op (element_size p (type_at p t)) (sort_of (type_at p t)) right old b

  pub assign_op_grows : (o : Option ℕ) → Below o → (t : ℕ) (at : Place) (op : BinaryOp) (right : IntKind) {q y : Part} {w f v g : ℕ} → Paid q w f → Paid y v g
      → (d : ℕ) (to : Option ℕ) (code : Steps) → Below to → length kinds ≤ d → d + 2 < most → d + f ≤ most → suc d + g ≤ most → 0 < length code
      → Made 0 (3 * c.step + c.wide + w + v) code (assign_op_code p o t at op right q y d to code)
  assign_op_grows (Some x) b t at op right {y = y} one_paid other d to code h u k i l n =
      let r = result_grows to (O.Temp K.Empty x at) code h (let x = b.0 in omega (arith, x)) in
      let after = result_code to (O.Temp K.Empty x at) code in
      let below = Grows.operand_below c most kinds sizes labels other d (omega (arith, k)) in
      let s = one (update_step t at op right x (O.Temp K.Empty x at) (operand y d)) after tt (let x = b.0 in omega (arith, x, below)) (b.1, tt) in
      pay (omega arith) (next (next r s)
      (Grows.code_grows c most kinds sizes labels other d (update_step t at op right x (O.Temp K.Empty x at) (operand y d) ∷ after) (omega arith) u (omega (arith, k))
      (omega (arith, l))))
  assign_op_grows None b t at op right {q} {y} one_paid other d to code h u k i l n =
      let a = settled_operand q d in
      let z = settled_operand y (suc d) in
      let below = Grows.settled_below c most kinds sizes labels one_paid d (omega (arith, k)) in
      let right_below = Grows.settled_below c most kinds sizes labels other (suc d) (omega (arith, k)) in
      let r = result_grows to (temp at (d + 2)) code h (omega (arith, k)) in
      let stored = result_code to (temp at (d + 2)) code in
      let s = one (S.Store at (access_at p t) a (temp at (d + 2))) stored tt (omega (arith, k, below)) (tt, tt) in
      let updated = S.Store at (access_at p t) a (temp at (d + 2)) ∷ stored in
      let v = one (update_step t at op right (d + 2) (temp at (d + 2)) z) updated tt (omega (arith, k, right_below)) (free (d + 2) (omega (arith, u)), tt) in
      let loaded = update_step t at op right (d + 2) (temp at (d + 2)) z ∷ updated in
      let m = one (S.Load (d + 2) at (access_at p t) a) loaded tt (omega (arith, k, below)) (free (d + 2) (omega (arith, u)), tt) in
      let first = S.Load (d + 2) at (access_at p t) a ∷ loaded in
      let e = Grows.settled_grows c most kinds sizes labels other (suc d) first (omega arith) (omega (arith, u)) (omega (arith, k)) l in
      let longer = e.longer in
      pay (omega arith) (next (next (next (next (next r s) v) m) e)
      (Grows.settled_grows c most kinds sizes labels one_paid d (settled y (suc d) first) (omega (arith, longer)) u (omega (arith, k)) i))

  pub step_grows : (o : Option ℕ) → Below o → (t : ℕ) (at : Place) (op : StepOp) (before : Bool) {q : Part} {w f : ℕ} → Paid q w f
      → (d : ℕ) (to : Option ℕ) (code : Steps) → Below to → length kinds ≤ d → d + 2 < most → d + f ≤ most → 0 < length code
      → Made 0 (3 * c.step + c.wide + w) code (step_code p o t at op before q d to code)
  step_grows (Some x) b t at op before one_paid d None code h u k i n =
      pay (omega arith) (one (update_step t at (step_op op) (unit_kind (type_at p t)) x (O.Temp K.Empty x at) (O.Word 1)) code tt
      (let z = b.0 in omega (arith, z)) (b.1, tt))
  step_grows (Some x) b t at op true one_paid d (Some to) code h u k i n =
      pay (omega arith) (next (one (S.Set to (O.Temp K.Empty x at)) code tt (let z = b.0 in let y = h.0 in omega (arith, z, y)) (h.1, tt))
      (one (update_step t at (step_op op) (unit_kind (type_at p t)) x (O.Temp K.Empty x at) (O.Word 1)) (S.Set to (O.Temp K.Empty x at) ∷ code) tt
      (let z = b.0 in omega (arith, z)) (b.1, tt)))
  step_grows (Some x) b t at op false one_paid d (Some to) code h u k i n =
      let last = S.Set to (temp at d) ∷ code in
      let v = update_step t at (step_op op) (unit_kind (type_at p t)) x (temp at d) (O.Word 1) in
      pay (omega arith) (next (next (one (S.Set to (temp at d)) code tt (let y = h.0 in omega (arith, k, y)) (h.1, tt))
      (one v last tt (let z = b.0 in omega (arith, z, k)) (b.1, tt)))
      (one (S.Set d (O.Temp K.Empty x at)) (v ∷ last) tt (let z = b.0 in omega (arith, z, k)) (free d u, tt)))
  step_grows None b t at op before {q} one_paid d to code h u k i n =
      let a = settled_operand q d in
      let below = Grows.settled_below c most kinds sizes labels one_paid d (omega (arith, k)) in
      let result = temp at (if before then d + 2 else suc d) in
      let r = result_grows to result code h (by_before before) in
      let stored = result_code to result code in
      let s = one (S.Store at (access_at p t) a (temp at (d + 2))) stored tt (omega (arith, k, below)) (tt, tt) in
      let updated = S.Store at (access_at p t) a (temp at (d + 2)) ∷ stored in
      let v = one (update_step t at (step_op op) (unit_kind (type_at p t)) (d + 2) (temp at (suc d)) (O.Word 1)) updated tt (omega (arith, k))
      (free (d + 2) (omega (arith, u)), tt) in
      let loaded = update_step t at (step_op op) (unit_kind (type_at p t)) (d + 2) (temp at (suc d)) (O.Word 1) ∷ updated in
      let m = one (S.Load (suc d) at (access_at p t) a) loaded tt (omega (arith, k, below)) (free (suc d) (omega (arith, u)), tt) in
      pay (omega arith) (next (next (next (next r s) v) m)
      (Grows.settled_grows c most kinds sizes labels one_paid d (S.Load (suc d) at (access_at p t) a ∷ loaded) (omega arith) u (omega (arith, k)) i))
    where
      by_before : (t : Bool) → top (temp at (if t then d + 2 else suc d)) ≤ most
      by_before true = omega (arith, k)
      by_before false = omega (arith, k)

  copy_held : {q r : Part} {w f v g : ℕ} → Paid q w f → Paid r v g → (at : Place) (d : ℕ) (code : Steps) → length kinds ≤ d → suc d < most → d + f ≤ most
      → suc d + g ≤ most
      → 0 < length code
      → Made 0 (2 * c.step + w + v) code (held q d (held r (suc d) (S.Fail K.Dead at ∷ code)))
  copy_held {q} {r} one_paid other at d code u k i l n =
      let e = Grows.held_grows c most kinds sizes labels other (suc d) (S.Fail K.Dead at ∷ code) (omega arith) (omega (arith, u)) k l in
      let longer = e.longer in
      pay (omega arith) (next (next (one (S.Fail K.Dead at) code tt (omega arith) (tt, tt)) e)
      (Grows.held_grows c most kinds sizes labels one_paid d (held r (suc d) (S.Fail K.Dead at ∷ code)) (omega (arith, longer)) u (omega (arith, k)) i))

  pub copy_grows : (o u : Option ℕ) (at : Place) (size : ℕ) {q r : Part} {w f v g : ℕ} → Paid q w f → Paid r v g
      → (d : ℕ) (to : Option ℕ) (code : Steps) → Below to → length kinds ≤ d → suc d < most → d + f ≤ most → suc d + g ≤ most → 0 < length code
      → Made 0 (2 * c.step + w + v) code (copy_code p o u at size q r d to code)
  copy_grows None None at size one_paid other d to code h u k i l n =
      pay (omega arith) (Grows.both_grows c most kinds sizes labels one_paid other d (λ a e. S.CopyRecord at size a e ∷ no_result to code)
      (λ a e ha he. next (no_result_grows to code h) (one (S.CopyRecord at size a e) (no_result to code) tt (omega (arith, ha, he)) (tt, tt)))
      n u k i l)
  copy_grows None (Some y) at size one_paid other d to code h u k i l n = copy_held one_paid other at d code u k i l n
  copy_grows (Some x) o at size one_paid other d to code h u k i l n = copy_held one_paid other at d code u k i l n
