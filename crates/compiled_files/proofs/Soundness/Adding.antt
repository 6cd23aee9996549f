-- What is made of operands and of named locals keeps what a good step keeps.
use Rattle.std.proofs.Common.{◌≡◌, ◌≢◌, ℕ, zero, suc, ◌+◌, ◌<◌, ◌≤◌, Bool, true, false, List, [], ◌∷◌, length, Option, Some, None, refl, subst, arith}
use Rattle.std.proofs.Common.{slice_get}
use Rattle.std.proofs.Common.{if◌then◌else◌}
use Rattle.std.specs.List.{AllByRecursion as Each}
use Rattle.std.specs.Prelude.{get_or, ◌^◌}
use Rattle.lay_base.specs.declared.faults.UndefinedKind.TheVariants as K
use Rattle.lay_base.specs.declared.place.Place.{Place}
use Rattle.c_typed.specs.Trees as T
use Rattle.c_typed.specs.Trees.{Expression, expression, Path, path}
use Rattle.c_typed.specs.declared.program.Local.{Local}
use Rattle.c_typed.specs.Programs.{ProgramData}
use Rattle.lower_tac.specs.Parts.{Steps, Part, temp, or_temp, operand, unless_any, code_of, tested_if, held, fixed, settled, settled_operand, left_code}
use Rattle.lower_tac.specs.Parts.{left_operand, both_code}
use Rattle.lower_tac.specs.Expressions.{value_of_name, address_of_local, named_root, atom, place_atom, result_code, no_result}
use Rattle.rv_code.specs.declared.layout.Places.{Places}
use Rattle.rv_emit.specs.Fitting.{ArgumentsFit, RowFitsIfAny, operands_of, row_of}
use Rattle.tac_ir.specs.Code.{Code, RoutineData}
use Rattle.tac_ir.specs.declared.step.Operand.{Operand}
use Rattle.tac_ir.specs.declared.step.Operand.TheVariants as O
use Rattle.tac_ir.specs.declared.step.Step.{Step}
use Rattle.tac_ir.specs.declared.step.Step.TheVariants as S
use Rattle.compiled_files.proofs.Soundness.Sitting.{Sits, SitsPath}

past : {A : Type 0} (all : List A) (d : ℕ) → length all ≤ d → slice_get all d ≡ None
past [] d h = refl
past (x ∷ all) zero h = absurd (let r : suc (length all) ≤ 0 = h in omega (arith, r))
past (x ∷ all) (suc d) h = past all d (omega (arith, h))

pub some_same : {A : Type 0} {a b : A} → Some a ≡ Some b → a ≡ b
some_same e = cc

-- the numbers of a step, where the blocks of locals have these sizes
abbrev pub NumbersSit : (size : ℕ → ℕ) → (texts : List (List ℕ)) → Step → Type 0
NumbersSit size texts (S.Distance t at n a b) = (0 < n) × (n < 2 ^ 31)
NumbersSit size texts (S.Inside t at x by) = by ≤ size x
NumbersSit size texts (S.CopyRecord at n a b) = n < 2 ^ 32
NumbersSit size texts (S.Case n a to) = n < 2 ^ 32
NumbersSit size texts (S.Begin x n) = n ≡ size x
NumbersSit size texts (S.Forget x n) = n ≤ size x
NumbersSit size texts (S.Zeros x n) = n ≤ size x
NumbersSit size texts (S.Text x by n) = by + length (get_or texts n []) ≤ size x
NumbersSit size texts s = Unit {0}

module _ (p : ProgramData) (c : Code) (places : Places) (g : RoutineData) (size : ℕ → ℕ) (Here : ℕ → Type 0) where
  -- a number is a word, an object is there, and of a function something is known
  abbrev pub Fits : Operand → Type 0
  Fits (O.Word n) = n < 2 ^ 32
  Fits O.Null = Unit {0}
  Fits (O.Function f) = Here f
  Fits (O.Object n) = n < length places.objects
  Fits (O.Temp kind t at) = Unit {0}

  -- what the walk over trees finds of a step
  abbrev pub Good : Step → Type 0
  Good s = Each Fits (operands_of s) × NumbersSit size g.texts s × RowFitsIfAny g (row_of s) × ArgumentsFit p.types c places s

  -- a temporary behind the locals
  abbrev pub Low : ℕ → Type 0
  Low d = length g.locals ≤ d

  -- a row of temporaries behind the locals has no block
  pub row_fits : (d n : ℕ) → Low d → RowFitsIfAny g (Some (record { first = d; count = n }))
  row_fits d n low t from to = by_none (slice_get g.locals t) (past g.locals t (omega (arith, low, from)))
    where
      by_none : (o : Option Bool) → o ≡ None → o ≢ Some true
      by_none None e = λ (q : None ≡ Some true). cc
      by_none (Some b) e = cc

  -- ---- what stands for a node without code

  module _ (locals : List Local) where
    abbrev pub Sit : Expression ℕ → Type 0
    Sit = Sits p c (length places.objects) Here locals

    abbrev pub SitPath : Path ℕ → Type 0
    SitPath = SitsPath p c (length places.objects) Here locals

    abbrev FitsIfAny : Option Operand → Type 0
    FitsIfAny o = (a : Operand) → o ≡ Some a → Fits a

    it_fits : (o : Operand) → Fits o → FitsIfAny (Some o)
    it_fits o f a e = subst Fits (some_same e) f

    name_fits : (at : Place) (o : Option ℕ) → FitsIfAny (value_of_name at o)
    name_fits at None a e = cc
    name_fits at (Some x) a e = it_fits (O.Temp K.Empty x at) tt a e

    pub atom_fits : (e : Expression ℕ) → Sit e → FitsIfAny (atom p locals e)
    atom_fits (expression t at (T.constant v)) s a e = it_fits (O.Word v) s a e
    atom_fits (expression t at T.null) s a e = it_fits O.Null tt a e
    atom_fits (expression t at (T.function_name f)) s a e = it_fits (O.Function f) s a e
    atom_fits (expression t at (T.load q)) s a e = name_fits at (named_root p locals q) a e
    atom_fits (expression t at (T.address_of q)) s a e = cc
    atom_fits (expression t at (T.decay q)) s a e = cc
    atom_fits (expression t at (T.convert x written)) s a e = cc
    atom_fits (expression t at (T.unary op x)) s a e = cc
    atom_fits (expression t at (T.binary op x y)) s a e = cc
    atom_fits (expression t at (T.compare op x y)) s a e = cc
    atom_fits (expression t at (T.pointer_add op x y)) s a e = cc
    atom_fits (expression t at (T.pointer_difference x y)) s a e = cc
    atom_fits (expression t at (T.both x y)) s a e = cc
    atom_fits (expression t at (T.either x y)) s a e = cc
    atom_fits (expression t at (T.not x)) s a e = cc
    atom_fits (expression t at (T.choose x y z)) s a e = cc
    atom_fits (expression t at (T.comma x y)) s a e = cc
    atom_fits (expression t at (T.assign q x)) s a e = cc
    atom_fits (expression t at (T.assign_op op q x)) s a e = cc
    atom_fits (expression t at (T.step op before q)) s a e = cc
    atom_fits (expression t at (T.copy_record q r)) s a e = cc
    atom_fits (expression t at (T.call f all)) s a e = cc
    atom_fits (expression t at (T.call_through x all)) s a e = cc
    atom_fits (expression t at (T.library which all)) s a e = cc
    atom_fits (expression t at (T.allocate r count zeroed)) s a e = cc

    pub place_atom_fits : (q : Path ℕ) → SitPath q → FitsIfAny (place_atom p locals q)
    place_atom_fits (path t at (T.local x)) s a e = by_local (slice_get locals x) e
      where
        by_block : (b : Bool) → (if b then Some (O.Temp K.Dead x at) else None) ≡ Some a → Fits a
        by_block true e = it_fits (O.Temp K.Dead x at) tt a e
        by_block false e = cc

        by_local : (o : Option Local) → address_of_local at x o ≡ Some a → Fits a
        by_local None e = cc
        by_local (Some l) e = by_block l.block e
    place_atom_fits (path t at (T.object n)) s a e = it_fits (O.Object n) s a e
    place_atom_fits (path t at (T.deref x)) s a e = atom_fits x s a e
    place_atom_fits (path t at (T.index x i)) s a e = cc
    place_atom_fits (path t at (T.member q r field)) s a e = cc
    place_atom_fits (path t at (T.element q i)) s a e = cc

  -- something of code that a good step in front of it keeps
  module _ (P : Steps → Type 0) (add : (s : Step) (code : Steps) → Good s → P code → P (s ∷ code)) where
    -- ---- operands

    pub record Fine (x : Part) : Type 0 where
      pub made : (d : ℕ) (code : Steps) → Low d → P code → P (x.made d code)
      pub atom : (a : Operand) → x.atom ≡ Some a → Fits a

    unless_adds : {code : Steps} (o : Option Operand) (make : Steps → Steps) → (P code → P (make code)) → P code → P (unless_any o make code)
    unless_adds None make h k = h k
    unless_adds (Some o) make h k = k

    or_temp_fits : (o : Option Operand) (at : Place) (d : ℕ) → ((a : Operand) → o ≡ Some a → Fits a) → Fits (or_temp o at d)
    or_temp_fits None at d h = tt
    or_temp_fits (Some a) at d h = h a refl

    pub operand_fits : {x : Part} → Fine x → (d : ℕ) → Fits (operand x d)
    operand_fits {x} f d = or_temp_fits x.atom x.at d f.atom

    fixed_fits : (o : Option Operand) → ((a : Operand) → o ≡ Some a → Fits a) → (a : Operand) → fixed o ≡ Some a → Fits a
    fixed_fits None h a e = cc
    fixed_fits (Some (O.Temp kind t at)) h a e = cc
    fixed_fits (Some (O.Word v)) h a e = h a e
    fixed_fits (Some O.Null) h a e = h a e
    fixed_fits (Some (O.Function f)) h a e = h a e
    fixed_fits (Some (O.Object n)) h a e = h a e

    pub settled_fits : {x : Part} → Fine x → (d : ℕ) → Fits (settled_operand x d)
    settled_fits {x} f d = or_temp_fits (fixed x.atom) x.at d (fixed_fits x.atom f.atom)

    pub code_adds : {x : Part} → Fine x → (d : ℕ) (code : Steps) → Low d → P code → P (code_of x d code)
    code_adds {x} f d code low h = unless_adds x.atom (x.made d) (f.made d code low) h

    pub tested_adds : (b : Bool) (at : Place) (t : ℕ) (code : Steps) → P code → P (tested_if b at t code)
    tested_adds true at t code h = add (S.Set t (temp at t)) code ((tt, tt), tt, tt, tt) h
    tested_adds false at t code h = h

    pub held_adds : {x : Part} → Fine x → (d : ℕ) (code : Steps) → Low d → P code → P (held x d code)
    held_adds {x} f d code low h = f.made d (tested_if x.lacks x.at d code) low (tested_adds x.lacks x.at d code h)

    pub settled_adds : {x : Part} → Fine x → (d : ℕ) (code : Steps) → Low d → P code → P (settled x d code)
    settled_adds {x} f d code low h = unless_adds (fixed x.atom) (held x d) (held_adds f d code low) h

    left_adds : {x : Part} → Fine x → (o : Option Operand) (d : ℕ) (code : Steps) → Low d → P code → P (left_code o x d code)
    left_adds f None d code low h = settled_adds f d code low h
    left_adds f (Some b) d code low h = code_adds f d code low h

    left_fits : {x : Part} → Fine x → (o : Option Operand) (d : ℕ) → Fits (left_operand o x d)
    left_fits f None d = settled_fits f d
    left_fits f (Some b) d = operand_fits f d

    -- two operands and the steps that read them
    pub both_add : {x y : Part} → Fine x → Fine y → (d : ℕ) (steps : Operand → Operand → Steps) → Low d
        → ((a b : Operand) → Fits a → Fits b → P (steps a b)) → P (both_code x y d steps)
    both_add {x} {y} f q d steps low last =
        let a = left_operand y.atom x d in
        let b = operand y (suc d) in
        left_adds f y.atom d (code_of y (suc d) (steps a b)) low
        (code_adds q (suc d) (steps a b) (omega (arith, low)) (last a b (left_fits f y.atom d) (operand_fits q (suc d))))

    -- one or two operands and one step
    pub one_adds : {x : Part} → Fine x → (d : ℕ) (s : Step) (code : Steps) → Low d → (Fits (operand x d) → Good s) → P code → P (code_of x d (s ∷ code))
    one_adds f d s code low good h = code_adds f d (s ∷ code) low (add s code (good (operand_fits f d)) h)

    pub two_add : {x y : Part} → Fine x → Fine y → (d : ℕ) (s : Operand → Operand → Step) (code : Steps) → Low d
        → ((a b : Operand) → Fits a → Fits b → Good (s a b)) → P code → P (both_code x y d (λ a b. s a b ∷ code))
    two_add f q d s code low good h = both_add f q d (λ a b. s a b ∷ code) low (λ a b x y. add (s a b) code (good a b x y) h)

    pub result_adds : (to : Option ℕ) (a : Operand) (code : Steps) → Fits a → P code → P (result_code to a code)
    result_adds None a code f h = h
    result_adds (Some to) a code f h = add (S.Set to a) code ((f, tt), tt, tt, tt) h

    pub no_result_adds : (to : Option ℕ) (code : Steps) → P code → P (no_result to code)
    no_result_adds None code h = h
    no_result_adds (Some to) code h = add (S.Clear to) code (tt, tt, tt, tt) h
