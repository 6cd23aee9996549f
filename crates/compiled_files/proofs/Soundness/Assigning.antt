-- The code of assignments has good steps where that of their parts has.
use Rattle.std.proofs.Common.{ℕ, suc, ◌+◌, ◌<◌, ◌^◌, Bool, true, false, List, ◌∷◌, Option, Some, None, arith}
use Rattle.std.proofs.Common.{if◌then◌else◌}
use Rattle.lay_base.specs.declared.faults.UndefinedKind.TheVariants as K
use Rattle.lay_base.specs.declared.place.Place.{Place}
use Rattle.c_types.specs.declared.ty.IntKind.{IntKind}
use Rattle.c_typed.specs.declared.operators.BinaryOp.{BinaryOp}
use Rattle.c_typed.specs.declared.operators.StepOp.{StepOp}
use Rattle.c_typed.specs.declared.program.Local.{Local}
use Rattle.c_typed.specs.Programs.{ProgramData}
use Rattle.c_typed.specs.Trees.{Expression, Path}
use Rattle.block_memory.specs.RunWorlds.Operators.{step_op}
use Rattle.c_meaning.specs.Program.{type_at, access_at, element_size}
use Rattle.lower_tac.specs.Parts.{Steps, Part, temp, operand, code_of, held, settled, settled_operand, tested_if, both_code}
use Rattle.lower_tac.specs.Expressions.{part_of, place_of, result_code, no_result, unit_kind, sort_of}
use Rattle.lower_tac.specs.Expressions.{assign_named, assign_code, assign_op_code, step_code, copy_code, update}
use Rattle.lower_tac.specs.Expressions.{value_code}
use Rattle.lower_tac.specs.Expressions.{path_code}
use Rattle.rv_code.specs.declared.layout.Places.{Places}
use Rattle.tac_ir.specs.Code.{Code, RoutineData}
use Rattle.tac_ir.specs.declared.step.Operand.{Operand}
use Rattle.tac_ir.specs.declared.step.Operand.TheVariants as O
use Rattle.tac_ir.specs.declared.step.Step.{Step}
use Rattle.tac_ir.specs.declared.step.Step.TheVariants as S
use Rattle.tac_ir.specs.declared.step.Target.{Target}
use Rattle.compiled_files.proofs.Soundness.Adding as Adding

module _ (p : ProgramData) (c : Code) (places : Places) (g : RoutineData) (size : ℕ → ℕ) (Here : ℕ → Type 0) (locals : List Local) (P : Steps → Type 0)
    (add : (s : Step) (code : Steps) → Adding.Good p c places g size Here s → P code → P (s ∷ code)) where
  abbrev Fits : Operand → Type 0
  Fits = Adding.Fits p c places g size Here

  abbrev Good : Step → Type 0
  Good = Adding.Good p c places g size Here

  abbrev Low : ℕ → Type 0
  Low = Adding.Low p c places g size Here

  abbrev Fine : Part → Type 0
  Fine = Adding.Fine p c places g size Here P add

  abbrev Sit : Expression ℕ → Type 0
  Sit = Adding.Sit p c places g size Here locals

  abbrev SitPath : Path ℕ → Type 0
  SitPath = Adding.SitPath p c places g size Here locals

  -- ---- what is said of each part

  abbrev pub Makes : ((to d : ℕ) → Steps → Steps) → Type 0
  Makes make = (to d : ℕ) (code : Steps) → Low d → P code → P (make to d code)

  abbrev pub Branches : (Bool → Target → (d : ℕ) → Steps → Steps) → Type 0
  Branches make = (when : Bool) (to : Target) (d : ℕ) (code : Steps) → Low d → P code → P (make when to d code)

  pub value_fine : (e : Expression ℕ) → Sit e → Makes (value_code p locals e) → Fine (part_of p locals e (value_code p locals e))
  value_fine e s makes = record { made = λ d code low h. makes d d code low h; atom = Adding.atom_fits p c places g size Here locals e s }

  pub place_fine : (addressed : Bool) (q : Path ℕ) → SitPath q → Makes (path_code p locals addressed q)
      → Fine (place_of p locals q (path_code p locals addressed q))
  place_fine addressed q s makes = record { made = λ d code low h. makes d d code low h; atom = Adding.place_atom_fits p c places g size Here locals q s }

  abbrev one : {x : Part} → Fine x → (d : ℕ) (s : Step) (code : Steps) → Low d → (Fits (operand x d) → Good s) → P code → P (code_of x d (s ∷ code))
  one = Adding.one_adds p c places g size Here P add

  abbrev two : {x y : Part} → Fine x → Fine y → (d : ℕ) (s : Operand → Operand → Step) (code : Steps) → Low d
      → ((a b : Operand) → Fits a → Fits b → Good (s a b)) → P code → P (both_code x y d (λ a b. s a b ∷ code))
  two = Adding.two_add p c places g size Here P add

  abbrev result : (to : Option ℕ) (a : Operand) (code : Steps) → Fits a → P code → P (result_code to a code)
  result = Adding.result_adds p c places g size Here P add

  a_word : (n : ℕ) → n < 2 → Fits (O.Word n)
  a_word n h = omega (arith, h)

  -- ---- assignments

  pub named_adds : (at : Place) (x : ℕ) (value : (to d : ℕ) → Steps → Steps) (y : Part) → Makes value → (d : ℕ) (to : Option ℕ) (code : Steps) → Low d → P code
      → P (assign_named p at x value y d to code)
  named_adds at x value y makes d to code low h =
      let last = result_code to (O.Temp K.Empty x at) code in
      makes x d (tested_if y.lacks y.at x last) low
      (Adding.tested_adds p c places g size Here P add y.lacks y.at x last (result to (O.Temp K.Empty x at) code tt h))

  pub assign_adds : (o : Option ℕ) (t : ℕ) (at : Place) {q y : Part} (value : (to d : ℕ) → Steps → Steps) → Fine q → Makes value → Fine y
      → (d : ℕ) (to : Option ℕ) (code : Steps) → Low d → P code → P (assign_code p o t at q value y d to code)
  assign_adds (Some x) t at {y = y} value q_fine makes y_fine d to code low h = named_adds at x value y makes d to code low h
  assign_adds None t at value q_fine makes y_fine d to code low h =
      Adding.both_add p c places g size Here P add q_fine y_fine d (λ a b. S.Store at (access_at p t) a b ∷ result_code to b code) low
      (λ a b fa fb. add (S.Store at (access_at p t) a b) (result_code to b code) ((fa, (fb, tt)), tt, tt, tt) (result to b code fb h))

  update_adds : (t : ℕ) (at : Place) (op : BinaryOp) (right : IntKind) (new : ℕ) (old b : Operand) (code : Steps) → Fits old → Fits b → P code
      → P (update p t at op right new old b code)
  update_adds t at op right new old b code fo fb h =
      add (S.Update new at op (element_size p (type_at p t)) (sort_of (type_at p t)) right old b) code ((fo, (fb, tt)), tt, tt, tt) h

  store_adds : (t : ℕ) (at : Place) (a b : Operand) (code : Steps) → Fits a → Fits b → P code → P (S.Store at (access_at p t) a b ∷ code)
  store_adds t at a b code fa fb h = add (S.Store at (access_at p t) a b) code ((fa, (fb, tt)), tt, tt, tt) h

  load_adds : (t to : ℕ) (at : Place) (a : Operand) (code : Steps) → Fits a → P code → P (S.Load to at (access_at p t) a ∷ code)
  load_adds t to at a code fa h = add (S.Load to at (access_at p t) a) code ((fa, tt), tt, tt, tt) h

  pub set_adds : (to : ℕ) (a : Operand) (code : Steps) → Fits a → P code → P (S.Set to a ∷ code)
  set_adds to a code fa h = add (S.Set to a) code ((fa, tt), tt, tt, tt) h

  pub fail_adds : (at : Place) (code : Steps) → P code → P (S.Fail K.Dead at ∷ code)
  fail_adds at code h = add (S.Fail K.Dead at) code (tt, tt, tt, tt) h

  pub assign_op_adds : (o : Option ℕ) (t : ℕ) (at : Place) (op : BinaryOp) (right : IntKind) {q y : Part} → Fine q → Fine y
      → (d : ℕ) (to : Option ℕ) (code : Steps) → Low d → P code → P (assign_op_code p o t at op right q y d to code)
  assign_op_adds (Some x) t at op right {y = y} q_fine y_fine d to code low h =
      let last = result_code to (O.Temp K.Empty x at) code in
      let b = operand y d in
      Adding.code_adds p c places g size Here P add y_fine d (update p t at op right x (O.Temp K.Empty x at) b last) low
      (update_adds t at op right x (O.Temp K.Empty x at) b last tt (Adding.operand_fits p c places g size Here P add y_fine d)
      (result to (O.Temp K.Empty x at) code tt h))
  assign_op_adds None t at op right {q} {y} q_fine y_fine d to code low h =
      let a = settled_operand q d in
      let b = settled_operand y (suc d) in
      let fa = Adding.settled_fits p c places g size Here P add q_fine d in
      let fb = Adding.settled_fits p c places g size Here P add y_fine (suc d) in
      let stored = S.Store at (access_at p t) a (temp at (d + 2)) ∷ result_code to (temp at (d + 2)) code in
      let updated = update p t at op right (d + 2) (temp at (d + 2)) b stored in
      let loaded = S.Load (d + 2) at (access_at p t) a ∷ updated in
      Adding.settled_adds p c places g size Here P add q_fine d (settled y (suc d) loaded) low
      (Adding.settled_adds p c places g size Here P add y_fine (suc d) loaded (omega (arith, low))
      (load_adds t (d + 2) at a updated fa (update_adds t at op right (d + 2) (temp at (d + 2)) b stored tt fb
      (store_adds t at a (temp at (d + 2)) (result_code to (temp at (d + 2)) code) fa tt (result to (temp at (d + 2)) code tt h)))))

  pub step_adds : (o : Option ℕ) (t : ℕ) (at : Place) (op : StepOp) (before : Bool) {q : Part} → Fine q
      → (d : ℕ) (to : Option ℕ) (code : Steps) → Low d → P code → P (step_code p o t at op before q d to code)
  step_adds (Some x) t at op before q_fine d None code low h =
      update_adds t at (step_op op) (unit_kind (type_at p t)) x (O.Temp K.Empty x at) (O.Word 1) code tt (a_word 1 (omega arith)) h
  step_adds (Some x) t at op true q_fine d (Some to) code low h =
      update_adds t at (step_op op) (unit_kind (type_at p t)) x (O.Temp K.Empty x at) (O.Word 1) (S.Set to (O.Temp K.Empty x at) ∷ code) tt
      (a_word 1 (omega arith))
      (set_adds to (O.Temp K.Empty x at) code tt h)
  step_adds (Some x) t at op false q_fine d (Some to) code low h =
      let last = S.Set to (temp at d) ∷ code in
      set_adds d (O.Temp K.Empty x at) (update p t at (step_op op) (unit_kind (type_at p t)) x (temp at d) (O.Word 1) last) tt
      (update_adds t at (step_op op) (unit_kind (type_at p t)) x (temp at d) (O.Word 1) last tt (a_word 1 (omega arith)) (set_adds to (temp at d) code tt h))
  step_adds None t at op before {q} q_fine d to code low h =
      let a = settled_operand q d in
      let fa = Adding.settled_fits p c places g size Here P add q_fine d in
      let given = temp at (if before then d + 2 else suc d) in
      let stored = S.Store at (access_at p t) a (temp at (d + 2)) ∷ result_code to given code in
      let updated = update p t at (step_op op) (unit_kind (type_at p t)) (d + 2) (temp at (suc d)) (O.Word 1) stored in
      Adding.settled_adds p c places g size Here P add q_fine d (S.Load (suc d) at (access_at p t) a ∷ updated) low
      (load_adds t (suc d) at a updated fa
      (update_adds t at (step_op op) (unit_kind (type_at p t)) (d + 2) (temp at (suc d)) (O.Word 1) stored tt (a_word 1 (omega arith))
      (store_adds t at a (temp at (d + 2)) (result_code to given code) fa tt (result to given code tt h))))

  copy_held : {q r : Part} → Fine q → Fine r → (at : Place) (d : ℕ) (code : Steps) → Low d → P code → P (held q d (held r (suc d) (S.Fail K.Dead at ∷ code)))
  copy_held {r = r} q_fine r_fine at d code low h =
      Adding.held_adds p c places g size Here P add q_fine d (held r (suc d) (S.Fail K.Dead at ∷ code)) low
      (Adding.held_adds p c places g size Here P add r_fine (suc d) (S.Fail K.Dead at ∷ code) (omega (arith, low)) (fail_adds at code h))

  pub copy_adds : (o u : Option ℕ) (at : Place) (n : ℕ) → n < 2 ^ 32 → {q r : Part} → Fine q → Fine r
      → (d : ℕ) (to : Option ℕ) (code : Steps) → Low d → P code → P (copy_code p o u at n q r d to code)
  copy_adds None None at n small q_fine r_fine d to code low h =
      Adding.both_add p c places g size Here P add q_fine r_fine d (λ a b. S.CopyRecord at n a b ∷ no_result to code) low
      (λ a b fa fb. add (S.CopyRecord at n a b) (no_result to code) ((fa, (fb, tt)), small, tt, tt)
      (Adding.no_result_adds p c places g size Here P add to code h))
  copy_adds None (Some y) at n small q_fine r_fine d to code low h = copy_held q_fine r_fine at d code low h
  copy_adds (Some x) o at n small q_fine r_fine d to code low h = copy_held q_fine r_fine at d code low h
