-- What the code of each statement adds.
use Rattle.std.proofs.Common.{map, ◌≡◌, ℕ, suc, ◌+◌, ◌*◌, ◌<◌, ◌≤◌, Bool, true, false, List, [], ◌∷◌, length, Option, Some, None, refl, arith, slice_get}
use Rattle.std.proofs.Common.{if◌then◌else◌}
use Rattle.lay_base.specs.declared.faults.UndefinedKind.TheVariants as K
use Rattle.c_typed.specs.Constants.{ty}
use Rattle.c_typed.specs.declared.program.Local.{Local}
use Rattle.c_typed.specs.Programs.{ProgramData}
use Rattle.c_typed.specs.RunCounts.Loops.{loops_in_all}
use Rattle.c_typed.specs.Trees as T
use Rattle.c_typed.specs.Trees.{Expression, PartValue, Initializer, Statement, Statements, Arms}
use Rattle.c_typed.specs.Typed.{at_of, path_at, path_ty}
use Rattle.c_meaning.specs.Program.{size_at, access_at}
use Rattle.tac_ir.specs.declared.step.Operand.{Operand}
use Rattle.tac_ir.specs.declared.step.Step.TheVariants as S
use Rattle.tac_ir.specs.declared.step.Target.{Target}
use Rattle.lower_tac.specs.Parts.{Steps, temp, operand, code_of}
use Rattle.lower_tac.specs.Expressions.{value_code, effect_code, branch_code, path_code, part_of, place_of, named_root}
use Rattle.lower_tac.specs.declared.ways.Exits.{Exits}
use Rattle.lower_tac.specs.declared.ways.ReturnWay.TheVariants.{AtOnce as at_once, BehindEnds as behind_ends}
use Rattle.lower_tac.specs.declared.ways.ReturnWay.{ReturnWay}
use Rattle.lower_tac.specs.Statements.{Out, before, here, with_loops, in_loop, in_switch, ArmsOut}
use Rattle.lower_tac.specs.Statements.{default_start, cases_code, dispatch_code, chosen_code, return_code, test_code, effect_if_any, record_code, put_code}
use Rattle.lower_tac.specs.Statements.{parts_code}
use Rattle.lower_tac.specs.Statements.{initial_code, declare_code, round, enters_by_test, enters_at_once, scoped_code, statement_code, statements_code}
use Rattle.lower_tac.specs.Statements.{arms_code, number_code}
use Rattle.c_well_typed.specs.ProgramWeights.Weights.{weight, weight_of_path, weight_of_value, weight_of_parts, weight_of_initializer, weight_of_initial}
use Rattle.c_well_typed.specs.ProgramWeights.Weights.{weight_if_any}
use Rattle.c_well_typed.specs.ProgramWeights.Weights.{weight_of_labels, weight_of_statement, weight_of_statements, weight_of_arms}
use Rattle.code_bounds.specs.Prices.{Prices, paid}
use Rattle.tac_ir.specs.Temporaries.{top}
use Rattle.code_bounds.specs.Temporaries.{temporaries}
use Rattle.code_bounds.proofs.Grows as Grows
use Rattle.code_bounds.proofs.Grows.{Each, Leads, leads_later}
use Rattle.code_bounds.proofs.Expressions as Parts
use Rattle.code_bounds.proofs.Nodes as Nodes
use Rattle.code_bounds.proofs.Outs as Outs
use Rattle.code_bounds.proofs.Outs.{each, ExitsLead, ReturnLeads, exits_later, return_later}

-- ---- what is paid for a statement, each scope by its locals

module _ (c : Prices) where
  abbrev W : Expression ℕ → ℕ
  W e = weight (paid c) e

  abbrev scope : List ℕ → ℕ
  scope own = c.step + 8 * each c.step own

  abbrev mutual
    pub price : Statement ℕ → ℕ
    price (T.evaluate e) = W e
    price (T.block own all) = scope own + price_of_all all
    price (T.declare n i) = c.step + weight_of_initial (paid c) i
    price (T.when e one) = W e + price one
    price (T.when_else e one other) = c.step + W e + price one + price other
    price (T.while e body) = 2 * c.step + W e + price body
    price (T.do_while body e) = 2 * c.step + W e + price body
    price (T.for own start test step body) =
        scope own + price_of_all start + (3 * c.step + weight_if_any (paid c) test + weight_if_any
        (paid c) step + price body)
    price (T.switch e own arms) = c.step + W e + scope own + price_of_arms arms
    price T.break = c.step
    price T.continue = c.step
    price (T.return e) = 2 * c.step + weight_if_any (paid c) e

    pub price_of_all : Statements ℕ → ℕ
    price_of_all T.no_statements = 0
    price_of_all (T.and_statement s more) = price s + price_of_all more

    pub price_of_arms : Arms ℕ → ℕ
    price_of_arms T.no_arms = 0
    price_of_arms (T.and_arm cases is_default all more) = weight_of_labels (paid c) cases + price_of_all all + price_of_arms more

so_many_kinds : (all : List Local) → length (map (λ (l : Local). l.block) all) ≡ length all
so_many_kinds [] = refl
so_many_kinds (l ∷ all) = let h = so_many_kinds all in omega (arith, h)

module _ (c : Prices) (most : ℕ) (p : ProgramData) (g : ℕ) (locals : List Local) (roomy : length locals < most) where
  abbrev room : ℕ
  room = length locals

  abbrev kinds : List Bool
  kinds = map (λ l. l.block) locals

  abbrev sizes : List ℕ
  sizes = map (λ l. size_at p l.ty) locals

  free : length kinds ≤ room
  free = let h = so_many_kinds locals in omega (arith, h)

  open_room : Grows.Open c most kinds sizes room
  open_room = Grows.free_open c most kinds sizes room free

  abbrev Adds : (labels : ℕ) → (paid : ℕ) → (code whole : Steps) → Type 0
  Adds labels w = Grows.Grows c most kinds sizes labels 0 w

  abbrev Made : (paid : ℕ) (code : Steps) (labels : List ℕ) (whole : Steps) (wide : List ℕ) → Type 0
  Made = Outs.Made c most kinds sizes

  abbrev Makes : (paid : ℕ) → (Exits → Out → Out) → Type 0
  Makes = Outs.Makes c most kinds sizes

  abbrev pay : {v w : ℕ} {code whole : Steps} {labels wide : List ℕ} → v ≤ w → Made v code labels whole wide → Made w code labels whole wide
  pay = Outs.pay c most kinds sizes

  abbrev next : {v w : ℕ} {code middle whole : Steps} {labels between wide : List ℕ} → Made v code labels middle between → Made w middle between whole wide
      → Made (v + w) code labels whole wide
  next = Outs.next c most kinds sizes

  abbrev made : {r w : ℕ} {code whole : Steps} (labels : List ℕ) → Grows.Grows c most kinds sizes (length labels) r w code whole → Made w code labels whole labels
  made = Outs.made c most kinds sizes

  low : length locals ≤ most
  low = omega (arith, roomy)

  value_paid : (labels : ℕ) (e : Expression ℕ)
      → Grows.Paid c most kinds sizes labels (part_of p locals e (value_code p locals e)) (weight (paid c) e) (weight temporaries e)
  value_paid labels e = Parts.part_paid c most labels p locals low e (Nodes.value_grows c most labels p locals low e)

  place_paid : (labels : ℕ) (q : T.Path ℕ)
      → Grows.Paid c most kinds sizes labels (place_of p locals q (path_code p locals false q)) (weight_of_path (paid c) q) (weight_of_path temporaries q)
  place_paid labels q = Parts.place_paid c most labels p locals low false q (Nodes.path_grows c most labels p locals low false q)

  effect_grows : (labels : ℕ) (e : Expression ℕ) (code : Steps) → room + weight temporaries e ≤ most → 0 < length code
      → Adds labels (W c e) code (effect_code p locals e room code)
  effect_grows labels e code h n = Nodes.effect_grows c most labels p locals low e room code free roomy h n

  branch_grows : (labels : ℕ) (e : Expression ℕ) (when : Bool) (to : Target) (code : Steps) → Leads (length code) labels to
      → room + weight temporaries e ≤ most → 0 < length code
      → Adds labels (W c e) code (branch_code p locals e when to room code)
  branch_grows labels e when to code leads h n = Nodes.branch_grows c most labels p locals low e when to room code leads free roomy h n

  test_grows : (e : Option (Expression ℕ)) → room + weight_if_any temporaries e ≤ most → (labels : ℕ) (to : Target) (code : Steps)
      → Leads (length code) labels to → 0 < length code
      → Adds labels (c.step + weight_if_any (paid c) e) code (test_code p g locals e to code)
  test_grows None h labels to code leads n =
      Grows.pay c most kinds sizes labels (omega arith) (Grows.one c most kinds sizes labels (S.Jump to) code leads (omega arith) (tt, tt))
  test_grows (Some e) h labels to code leads n = Grows.pay c most kinds sizes labels (omega arith) (branch_grows labels e true to code leads h n)

  tests_grow : (e : Expression ℕ) → room + weight temporaries e ≤ most → (labels : ℕ) (to : Target) (code : Steps) → Leads (length code) labels to
      → 0 < length code
      → Adds labels (W c e) code (test_code p g locals (Some e) to code)
  tests_grow e h labels to code leads n = branch_grows labels e true to code leads h n

  step_grows : (e : Option (Expression ℕ)) → room + weight_if_any temporaries e ≤ most → (labels : ℕ) (code : Steps) → 0 < length code
      → Adds labels (weight_if_any (paid c) e) code (effect_if_any p g locals e code)
  step_grows None h labels code n = Grows.same c most kinds sizes labels
  step_grows (Some e) h labels code n = effect_grows labels e code h n

  -- the number of a `switch`
  number_grows : (labels : ℕ) (e : Expression ℕ) (code : Steps) → room + weight temporaries e ≤ most → 0 < length code
      → Adds labels (W c e) code (number_code p g locals e code)
  number_grows labels e code h n =
      Grows.pay c most kinds sizes labels (omega arith) (Parts.read_one c most labels p locals low (value_paid labels e) room
      (S.Number room (at_of e) (operand (part_of p locals e (value_code p locals e)) room))
      code tt (λ b. omega (arith, roomy, b)) (open_room, tt) free roomy h n)

  return_grows : (labels : ℕ) (e : Option (Expression ℕ)) (way : ReturnWay) (code : Steps) → ReturnLeads (length code) labels way
      → room + weight_if_any temporaries e ≤ most → 0 < length code
      → Adds labels (2 * c.step + weight_if_any (paid c) e) code (return_code p g locals e way code)
  return_grows labels None at_once code leads h n =
      Grows.pay c most kinds sizes labels (omega arith) (Grows.one c most kinds sizes labels (S.Return None) code tt (omega arith) (tt, tt))
  return_grows labels None (behind_ends to) code leads h n =
      Grows.pay c most kinds sizes labels (omega arith) (Grows.next c most kinds sizes labels (Grows.one c most kinds sizes labels (S.Jump to) code leads (omega arith) (tt, tt))
      (Grows.one c most kinds sizes labels (S.Clear room) (S.Jump to ∷ code) tt (omega (arith, roomy)) (open_room, tt)))
  return_grows labels (Some e) at_once code leads h n =
      Grows.pay c most kinds sizes labels (omega arith) (Parts.read_one c most labels p locals low (value_paid labels e) room
      (S.Return (Some (operand (part_of p locals e (value_code p locals e)) room)))
      code tt (λ b. b) (tt, tt) free roomy h n)
  return_grows labels (Some e) (behind_ends to) code leads h n =
      Grows.pay c most kinds sizes labels (omega arith) (Grows.next c most kinds sizes labels (Grows.one c most kinds sizes labels (S.Jump to) code leads (omega arith) (tt, tt))
      (Grows.held_grows c most kinds sizes labels (value_paid labels e) room (S.Jump to ∷ code) (omega arith) free roomy h))

  -- ---- initializers

  record_grows : (labels : ℕ) (o : Option ℕ) (x offset : ℕ) (q : T.Path ℕ) (code : Steps) → x < most → slice_get kinds x ≡ Some true → suc room < most
      → suc room + weight_of_path temporaries q ≤ most → 0 < length code
      → Adds labels (c.step + weight_of_path (paid c) q) code (record_code p g locals o x offset q code)
  record_grows labels (Some y) x offset q code b is h i n =
      let l = Parts.least c most labels p locals low (place_paid labels q) (suc room) code n (let z = free in omega (arith, z)) h i in
      Grows.pay c most kinds sizes labels (omega (arith, l)) (Grows.next c most kinds sizes labels
      (Grows.one c most kinds sizes labels (S.Fail K.Dead (path_at q)) code tt (omega arith) (tt, tt))
      (Grows.one c most kinds sizes labels (S.Inside room (path_at q) x offset) (S.Fail K.Dead (path_at q) ∷ code) tt (omega (arith, b, roomy)) (open_room, is)))
  record_grows labels None x offset q code b is h i n =
      let s = S.CopyRecord (path_at q) (size_at p (path_ty q)) (temp (path_at q) room)
      (operand (place_of p locals q (path_code p locals false q))
      (suc room)) in
      let a = Parts.read_one c most labels p locals low (place_paid labels q) (suc room) s code tt (λ t. omega (arith, roomy, t)) (tt, tt)
      (let z = free in omega (arith, z)) h i n in
      Grows.pay c most kinds sizes labels (omega arith) (Grows.next c most kinds sizes labels a
      (Grows.one c most kinds sizes labels (S.Inside room (path_at q) x offset) (code_of (place_of p locals q (path_code p locals false q)) (suc room) (s ∷ code)) tt
      (omega (arith, b, roomy)) (open_room, is)))

  store_grows : (labels : ℕ) (x offset : ℕ) (e : Expression ℕ) (code : Steps) → x < most → slice_get kinds x ≡ Some true → suc room < most
      → suc room + weight temporaries e ≤ most
      → 0 < length code
      → Adds labels (c.step + W c e) code (S.Inside room (at_of e) x offset ∷ code_of (part_of p locals e (value_code p locals e)) (suc room)
      (S.Store (at_of e) (access_at p (ty e)) (temp (at_of e) room) (operand (part_of p locals e (value_code p locals e)) (suc room)) ∷ code))
  store_grows labels x offset e code b is h i n =
      let s = S.Store (at_of e) (access_at p (ty e)) (temp (at_of e) room) (operand (part_of p locals e (value_code p locals e)) (suc room)) in
      let a = Parts.read_one c most labels p locals low (value_paid labels e) (suc room) s code tt (λ t. omega (arith, roomy, t)) (tt, tt)
      (let z = free in omega (arith, z)) h i n in
      Grows.pay c most kinds sizes labels (omega arith) (Grows.next c most kinds sizes labels a
      (Grows.one c most kinds sizes labels (S.Inside room (at_of e) x offset) (code_of (part_of p locals e (value_code p locals e)) (suc room) (s ∷ code)) tt
      (omega (arith, b, roomy)) (open_room, is)))

  put_grows : (x offset : ℕ) (v : PartValue ℕ) (out : Out) → x < most → slice_get kinds x ≡ Some true → suc room < most
      → suc room + weight_of_value temporaries v ≤ most → 0 < length out.code
      → Made (c.step + weight_of_value (paid c) v) out.code out.labels (put_code p g locals x offset v out).code (put_code p g locals x offset v out).labels
  put_grows x offset (T.value e) out b is h i n = made out.labels (store_grows (length out.labels) x offset e out.code b is h i n)
  put_grows x offset (T.record_of q) out b is h i n = made out.labels (record_grows (length out.labels) (named_root p locals q) x offset q out.code b is h i n)
  put_grows x offset (T.text bytes) out b is h i n =
      pay (omega arith) (made out.labels (Grows.one c most kinds sizes (length out.labels) (S.Text x offset (length out.texts)) out.code tt (omega (arith, b))
      (tt, is)))

  parts_grow : (x : ℕ) (all : List (T.Part ℕ)) (out : Out) → x < most → slice_get kinds x ≡ Some true → suc room < most
      → room + weight_of_parts temporaries all ≤ most → 0 < length out.code
      → Made (weight_of_parts (paid c) all) out.code out.labels (parts_code p g locals x all out).code (parts_code p g locals x all out).labels
  parts_grow x [] out b is h i n = Outs.unmade c most kinds sizes
  parts_grow x (one ∷ more) out b is h i n =
      let a = parts_grow x more out b is h (omega (arith, i)) n in
      let l = a.longer in
      pay (omega arith) (next a (put_grows x one.offset one.value (parts_code p g locals x more out) b is h (omega (arith, i)) (omega (arith, n, l))))

  -- a local lies in a block or may be written, as it is declared
  abbrev Lies : Bool → ℕ → Type 0
  Lies true x = slice_get kinds x ≡ Some true
  Lies false x = Grows.Open c most kinds sizes x

  lies : (x : ℕ) (l : Local) → slice_get locals x ≡ Some l → Lies l.block x
  lies x l is = by_block l.block refl
    where
      by_block : (b : Bool) → l.block ≡ b → Lies b x
      by_block true b = Parts.block_is c most 0 p locals low x l is b
      by_block false b = Parts.named_is_open c most 0 p locals low x l is b

  initial_grows : (x size : ℕ) (block : Bool) (i : Initializer ℕ) (out : Out) → x < most → Lies block x → room + 2 + weight_of_initializer temporaries i ≤ most
      → 0 < length out.code
      → Made (c.step + weight_of_initializer (paid c) i) out.code out.labels (initial_code p g locals x size block i out).code
      (initial_code p g locals x size block i out).labels
  initial_grows x size true (T.whole e) out b is h n = put_grows x 0 (T.value e) out b is (omega (arith, h)) (omega (arith, h)) n
  initial_grows x size true (T.whole_record q) out b is h n = put_grows x 0 (T.record_of q) out b is (omega (arith, h)) (omega (arith, h)) n
  initial_grows x size true (T.parts all) out b is h n =
      let all_out = parts_code p g locals x all out in
      pay (omega arith) (next (parts_grow x all out b is (omega (arith, h)) (omega (arith, h)) n)
      (made all_out.labels (Grows.one c most kinds sizes (length all_out.labels) (S.Zeros x size) all_out.code tt (omega (arith, b)) (tt, is))))
  initial_grows x size false (T.whole e) out b is h n =
      made out.labels (Parts.named_grows c most (length out.labels) p locals low (weight temporaries e)
      (Nodes.value_grows c most (length out.labels) p locals low e)
      (at_of e) x (part_of p locals e (value_code p locals e)) room None out.code (b, is) tt free roomy (omega (arith, h)) n)
  initial_grows x size false (T.whole_record q) out b is h n = pay (omega arith) (Outs.unmade c most kinds sizes)
  initial_grows x size false (T.parts all) out b is h n = pay (omega arith) (Outs.unmade c most kinds sizes)

  declare_grows : (x : ℕ) (o : Option Local) → slice_get locals x ≡ o → (i : Option (Initializer ℕ)) (out : Out)
      → room + 2 + weight_of_initial temporaries i ≤ most → 0 < length out.code
      → Made (c.step + weight_of_initial (paid c) i) out.code out.labels (declare_code p g locals o x i out).code (declare_code p g locals o x i out).labels
  declare_grows x None is i out h n = pay (omega arith) (Outs.unmade c most kinds sizes)
  declare_grows x (Some l) is None out h n = made out.labels (by_block l.block (lies x l is))
    where
      below : x < most
      below = Parts.local_below c most 0 p locals low x l is

      by_block : (b : Bool) → Lies b x → Adds (length out.labels) (c.step + 0) out.code ((if b then S.Forget x (size_at p l.ty) else S.Clear x) ∷ out.code)
      by_block true lies_so = let b = below in Grows.pay c most kinds sizes (length out.labels) (omega arith)
          (Grows.one c most kinds sizes (length out.labels) (S.Forget x (size_at p l.ty)) out.code tt (omega (arith, b)) (tt, lies_so))
      by_block false lies_so = let b = below in Grows.pay c most kinds sizes (length out.labels) (omega arith)
          (Grows.one c most kinds sizes (length out.labels) (S.Clear x) out.code tt (omega (arith, b)) (lies_so, tt))
  declare_grows x (Some l) is (Some i) out h n =
      initial_grows x (size_at p l.ty) l.block i out (Parts.local_below c most 0 p locals low x l is) (lies x l is) h n

  -- ---- `switch`

  abbrev AllLead : (n l : ℕ) → List Target → Type 0
  AllLead n l all = Each (Leads n l) all

  all_later : {n m l k : ℕ} → n ≤ m → l ≤ k → (all : List Target) → AllLead n l all → AllLead m k all
  all_later h i [] e = tt
  all_later h i (to ∷ all) e = (leads_later to h i e.0, all_later h i all e.1)

  default_leads : (n l : ℕ) (behind : Target) (arms : Arms ℕ) (starts : List Target) → Leads n l behind → AllLead n l starts
      → Leads n l (default_start behind arms starts)
  default_leads n l behind T.no_arms starts b e = b
  default_leads n l behind (T.and_arm cases is_default all more) [] b e = b
  default_leads n l behind (T.and_arm cases is_default all more) (start ∷ starts) b e = by_default is_default (default_leads n l behind more starts b e.1)
    where
      by_default : (t : Bool) → Leads n l (default_start behind more starts) → Leads n l (if t then start else default_start behind more starts)
      by_default true other = e.0
      by_default false other = other

  cases_grow : (labels : ℕ) (a : Operand) (start : Target) (cases : List ℕ) (code : Steps) → Leads (length code) labels start → top a ≤ most
      → Adds labels (weight_of_labels (paid c) cases) code (cases_code a start cases code)
  cases_grow labels a start [] code leads t = Grows.same c most kinds sizes labels
  cases_grow labels a start (v ∷ more) code leads t =
      let r = cases_grow labels a start more code leads t in
      let l = r.longer in
      Grows.pay c most kinds sizes labels (omega arith) (Grows.next c most kinds sizes labels r
      (Grows.one c most kinds sizes labels (S.Case v a start) (cases_code a start more code) (leads_later start l (omega arith) leads) t (tt, tt)))

  abbrev labels_of : Arms ℕ → ℕ
  labels_of T.no_arms = 0
  labels_of (T.and_arm cases is_default all more) = weight_of_labels (paid c) cases + labels_of more

  dispatch_grows : (labels : ℕ) (a : Operand) (arms : Arms ℕ) (starts : List Target) (code : Steps) → AllLead (length code) labels starts → top a ≤ most
      → Adds labels (labels_of arms) code (dispatch_code a arms starts code)
  dispatch_grows labels a T.no_arms starts code e t = Grows.same c most kinds sizes labels
  dispatch_grows labels a (T.and_arm cases is_default all more) [] code e t = Grows.pay c most kinds sizes labels (omega arith) (Grows.same c most kinds sizes labels)
  dispatch_grows labels a (T.and_arm cases is_default all more) (start ∷ starts) code e t =
      let r = dispatch_grows labels a more starts code e.1 t in
      let l = r.longer in
      Grows.pay c most kinds sizes labels (omega arith) (Grows.next c most kinds sizes labels r
      (cases_grow labels a start cases (dispatch_code a more starts code)
      (leads_later start l (omega arith) e.0) t))

  -- ---- statements

  abbrev StatementGrows : Statement ℕ → Type 0
  StatementGrows s = room + weight_of_statement temporaries s ≤ most → Makes (price c s) (statement_code p g locals s)

  abbrev AllGrow : Statements ℕ → Type 0
  AllGrow all = room + weight_of_statements temporaries all ≤ most → Makes (price_of_all c all) (statements_code p g locals all)

  -- what the arms are made of, without their labels
  abbrev in_arms : Arms ℕ → ℕ
  in_arms T.no_arms = 0
  in_arms (T.and_arm cases is_default all more) = price_of_all c all + in_arms more

  pub record ArmsMade (paid : ℕ) (out : Out) (all : ArmsOut) : Type 0 where
    pub made : Made paid out.code out.labels all.out.code all.out.labels
    pub starts : AllLead (length all.out.code) (length all.out.labels) all.starts

  abbrev ArmsGrow : Arms ℕ → Type 0
  ArmsGrow arms =
      room + weight_of_arms temporaries arms ≤ most → (x : Exits) (out : Out) → 0 < length out.code → ExitsLead (length out.code)
      (length out.labels) x
      → ArmsMade (in_arms arms) out (arms_code p g locals arms x out)

  in_all : (arms : Arms ℕ) → labels_of arms + in_arms arms ≤ price_of_arms c arms
  in_all T.no_arms = omega arith
  in_all (T.and_arm cases is_default all more) = let h = in_all more in omega (arith, h)

  chosen_grows : (a : Operand) → top a ≤ most → (arms : Arms ℕ) → ArmsGrow arms → room + weight_of_arms temporaries arms ≤ most
      → Makes (c.step + price_of_arms c arms) (λ x out. chosen_code a arms (here out) (arms_code p g locals arms (in_switch (here out) x) out))
  chosen_grows a t arms grow h x out n e =
      let ways = in_switch (here out) x in
      let all = arms_code p g locals arms ways out in
      let m = grow h ways out n (record { on_break = (n, omega arith); on_continue = e.on_continue; on_return = e.on_return }) in
      let r = m.made in
      let l = r.longer in
      let k = length all.out.labels in
      let to = default_start (here out) arms all.starts in
      let j = Grows.one c most kinds sizes k (S.Jump to) all.out.code (default_leads (length all.out.code) k (here out) arms all.starts (n, l) m.starts)
      (omega arith) (tt, tt) in
      let d = dispatch_grows k a arms all.starts (S.Jump to ∷ all.out.code) (all_later (omega arith) (omega arith) all.starts m.starts) t in
      let i = in_all arms in
      pay (omega (arith, i)) (next r (made all.out.labels (Grows.next c most kinds sizes k j d)))

  loop_grows : (test : Option (Expression ℕ)) (v : ℕ) (step : Option (Expression ℕ)) (enters : Target → Steps → Steps) (body : Statement ℕ)
      → StatementGrows body
      → room + weight_of_statement temporaries body ≤ most → room + weight_if_any temporaries step ≤ most
      → ((labels : ℕ) (to : Target) (code : Steps) → Leads (length code) labels to → 0 < length code → Adds labels v code (test_code p g locals test to code))
      → ((labels : ℕ) (to : Target) (code : Steps) → Leads (length code) labels to → Adds labels c.step code (enters to code))
      → Makes (2 * c.step + v + weight_if_any (paid c) step + price c body)
      (λ x out. round p g locals (test_code p g locals test) (effect_if_any p g locals step) enters
      (λ b k out. statement_code p g locals body (in_loop b k x) out) out)
  loop_grows test v step enters body grow h i tests enter x out n e =
      Outs.round_grows c most kinds sizes p g locals roomy refl refl (test_code p g locals test) (effect_if_any p g locals step) enters
      (λ b k out. statement_code p g locals body (in_loop b k x) out)
      v (weight_if_any (paid c) step) (price c body) tests (step_grows step i) enter out n
      (λ b k inner longer wider lead_b lead_k. grow h (in_loop b k x) inner (omega (arith, n, longer))
      (record { on_break = lead_b; on_continue = lead_k; on_return = return_later x.on_return longer wider e.on_return }))

  enter_by_test : (labels : ℕ) (to : Target) (code : Steps) → Leads (length code) labels to → Adds labels c.step code (enters_by_test p g locals to code)
  enter_by_test labels to code leads = Grows.one c most kinds sizes labels (S.Jump to) code leads (omega arith) (tt, tt)

  enter_at_once : (labels : ℕ) (to : Target) (code : Steps) → Leads (length code) labels to → Adds labels c.step code (enters_at_once p g locals to code)
  enter_at_once labels to code leads = Grows.pay c most kinds sizes labels (omega arith) (Grows.same c most kinds sizes labels)

  after : (x : Exits) {paid : ℕ} {code whole : Steps} {labels wide : List ℕ} → Made paid code labels whole wide → ExitsLead (length code) (length labels) x
      → ExitsLead (length whole) (length wide) x
  after x a e = exits_later x a.longer (Outs.wider c most kinds sizes a) e

  mutual
    pub statement_grows : (s : Statement ℕ) → StatementGrows s
    statement_grows (T.evaluate e) h x out n leads = made out.labels (effect_grows (length out.labels) e out.code (omega (arith, h)) n)
    statement_grows (T.block own all) h x out n leads =
        Outs.scoped_grows c most kinds sizes p g locals roomy refl refl own (price_of_all c all) (λ x out. statements_code p g locals all x out)
        (statements_grow all (omega (arith, h))) x out n leads
    statement_grows (T.declare k i) h x out n leads = declare_grows k (slice_get locals k) refl i out (omega (arith, h)) n
    statement_grows (T.when e one) h x out n leads =
        let a = statement_grows one (omega (arith, h)) x out n leads in
        let l = a.longer in
        let inner = statement_code p g locals one x out in
        pay (omega arith) (next a (made inner.labels (branch_grows (length inner.labels) e false (here out) inner.code (n, l) (omega (arith, h))
        (omega (arith, n, l)))))
    statement_grows (T.when_else e one other) h x out n leads =
        let rest = statement_code p g locals other x out in
        let a = statement_grows other (omega (arith, h)) x out n leads in
        let al = a.longer in
        let b = made rest.labels (Grows.one c most kinds sizes (length rest.labels) (S.Jump (here out)) rest.code (n, al) (omega arith) (tt, tt)) in
        let both = next a b in
        let d = statement_grows one (omega (arith, h)) x (before (S.Jump (here out)) rest) (omega arith) (after x both leads) in
        let dl = d.longer in
        let inner = statement_code p g locals one x (before (S.Jump (here out)) rest) in
        pay (omega arith) (next (next both d)
        (made inner.labels (branch_grows (length inner.labels) e false (here rest) inner.code (omega (arith, n, al), omega (arith, dl)) (omega (arith, h))
        (omega (arith, dl)))))
    statement_grows (T.while e body) h x out n leads =
        pay (omega arith) (loop_grows (Some e) (W c e) None (enters_by_test p g locals) body (statement_grows body) (omega (arith, h)) (omega (arith, roomy))
        (tests_grow e (omega (arith, h))) enter_by_test x out n leads)
    statement_grows (T.do_while body e) h x out n leads =
        pay (omega arith) (loop_grows (Some e) (W c e) None (enters_at_once p g locals) body (statement_grows body) (omega (arith, h)) (omega (arith, roomy))
        (tests_grow e (omega (arith, h))) enter_at_once x out n leads)
    statement_grows (T.for own start test step body) h x out n leads =
        pay (omega arith) (Outs.scoped_grows c most kinds sizes p g locals roomy refl refl own
        (price_of_all c start + (3 * c.step + weight_if_any (paid c) test + weight_if_any (paid c) step + price c body))
        (λ x out. statements_code p g locals start x (with_loops (loops_in_all start)
        (round p g locals (test_code p g locals test) (effect_if_any p g locals step)
        (enters_by_test p g locals) (λ b k out. statement_code p g locals body (in_loop b k x) out) out)))
        (λ x out n leads.
        let a = loop_grows test (c.step + weight_if_any (paid c) test) step (enters_by_test p g locals) body (statement_grows body) (omega (arith, h))
        (omega (arith, h))
        (test_grows test (omega (arith, h))) enter_by_test x out n leads in
        let l = a.longer in
        pay (omega arith) (next a (statements_grow start (omega (arith, h)) x
        (with_loops (loops_in_all start) (round p g locals (test_code p g locals test)
        (effect_if_any p g locals step)
        (enters_by_test p g locals) (λ b k out. statement_code p g locals body (in_loop b k x) out) out)) (omega (arith, n, l)) (after x a leads))))
        x out n leads)
    statement_grows (T.switch e own arms) h x out n leads =
        let a = Outs.scoped_grows c most kinds sizes p g locals roomy refl refl own (c.step + price_of_arms c arms)
        (λ x out. chosen_code (temp (at_of e) room) arms (here out) (arms_code p g locals arms (in_switch (here out) x) out))
        (chosen_grows (temp (at_of e) room) (omega (arith, roomy)) arms (arms_grow arms) (omega (arith, h))) (in_switch (here out) x) out n
        (record { on_break = (n, omega arith); on_continue = leads.on_continue; on_return = leads.on_return }) in
        let l = a.longer in
        let inner = scoped_code p g locals own (λ x out. chosen_code (temp (at_of e) room) arms (here out)
        (arms_code p g locals arms (in_switch (here out) x) out))
        (in_switch (here out) x) out in
        pay (omega arith) (next a (made inner.labels (number_grows (length inner.labels) e inner.code (omega (arith, h)) (omega (arith, n, l)))))
    statement_grows T.break h x out n leads =
        made out.labels (Outs.exit_grows c most kinds sizes p g locals roomy refl refl (length out.labels) x.on_break out.code leads.on_break)
    statement_grows T.continue h x out n leads =
        made out.labels (Outs.exit_grows c most kinds sizes p g locals roomy refl refl
        (length out.labels) x.on_continue out.code leads.on_continue)
    statement_grows (T.return e) h x out n leads =
        made out.labels (return_grows (length out.labels) e x.on_return out.code leads.on_return
        (omega (arith, h)) n)

    pub statements_grow : (all : Statements ℕ) → AllGrow all
    statements_grow T.no_statements h x out n leads = Outs.unmade c most kinds sizes
    statements_grow (T.and_statement s more) h x out n leads =
        let a = statements_grow more (omega (arith, h)) x out n leads in
        let l = a.longer in
        pay (omega arith) (next a (statement_grows s (omega (arith, h)) x (statements_code p g locals more x out) (omega (arith, n, l)) (after x a leads)))

    pub arms_grow : (arms : Arms ℕ) → ArmsGrow arms
    arms_grow T.no_arms h x out n leads = record { made = Outs.unmade c most kinds sizes; starts = tt }
    arms_grow (T.and_arm cases is_default all more) h x out n leads =
        let r = arms_grow more (omega (arith, h)) x out n leads in
        let rest = arms_code p g locals more x out in
        let a = r.made in
        let l = a.longer in
        let s = statements_grow all (omega (arith, h)) x rest.out (omega (arith, n, l)) (after x a leads) in
        let z = s.longer in
        record {
          made = pay (omega arith) (next a s);
          starts = ((omega (arith, n, l, z), omega arith), all_later z (Outs.wider c most kinds sizes s) rest.starts r.starts);
        }
