-- The laws, function by function.
use Rattle.std.proofs.Common.{◌≡◌, ◌≢◌, ℕ, zero, suc, ◌+◌, ◌*◌, ◌<◌, ◌≤◌, Bool, true, false, List, [], ◌∷◌, ◌++◌, map, length, All, Option, Some, None, refl}
use Rattle.std.proofs.Common.{sym, ap, subst, arith, slice_get, get_or}
use Rattle.c_typed.specs.declared.program.Local.{Local}
use Rattle.c_typed.specs.Programs.{FunctionData, ProgramData}
use Rattle.c_typed.specs.Trees.{Statement}
use Rattle.c_typed.specs.TypedStatements.{all_declared}
use Rattle.c_meaning.specs.Program.{all_locals}
use Rattle.c_meaning.specs.Run.{numbers_from}
use Rattle.tac_ir.specs.Code.{RoutineData, left}
use Rattle.tac_ir.specs.declared.step.Step.{Step}
use Rattle.tac_ir.specs.declared.step.Step.TheVariants as S
use Rattle.tac_ir.specs.declared.step.Target.{Target}
use Rattle.tac_ir.specs.declared.step.Target.TheVariants as To
use Rattle.lower_tac.specs.Parts.{Steps}
use Rattle.lower_tac.specs.Statements.{Out, statement_code, have_blocks, function_exits, last_code, parameters_of, parameter_of, body_code, routine_of}
use Rattle.lower_tac.specs.Statements.{code_if_any}
use Rattle.lower_tac.specs.Statements.{routines_from, lowered}
use Rattle.c_well_typed.specs.ProgramWeights.Counted.{Kind, statement, code, frame, definition}
use Rattle.c_well_typed.specs.ProgramWeights.Counted as Kinds
use Rattle.c_well_typed.specs.ProgramWeights.Weights.{weight_of_parameters, weight_of_body, weight_of_function, weight_of_functions}
use Rattle.tac_ir.specs.Jumps.{target_of, LeadsInsideIfAny, JumpsWithin}
use Rattle.tac_ir.specs.Kinds.{KeepsKinds, KindsWithin}
use Rattle.code_bounds.specs.LoweredLaws.{AllJumpsLeadOn, HasFewLabels, HasOwnSize, sizes_of_locals, SizesStand, BytesAreLeft, JumpsStand, KindsStand, LabelsAreFew, CodeIsPaid}
use Rattle.code_bounds.specs.LoweredLaws.{StepsAreFew, BytesAreWithin, ProgramsAreWithin}
use Rattle.code_bounds.specs.LoweredLaws.{ProgramsHaveFewSteps, steps_in, TemporariesAreFew, FramesAreWithin, FramesWeighLess}
use Rattle.code_bounds.specs.Prices.{Prices, in_steps, AreBytes, paid, price_of, price_of_all, price_of_code, price_of_parameters, price_of_routine}
use Rattle.code_bounds.specs.Prices.{price_of_routines}
use Rattle.code_bounds.specs.Scopes.{HasScopes, IsScopedBody}
use Rattle.tac_ir.specs.Temporaries.{top_of_all}
use Rattle.tac_ir.specs.Turns.{AllLeadOn, JumpsLeadOn, LeadsOnIfAny, TakesTurn}
use Rattle.code_bounds.specs.Temporaries.{temporaries}
use Rattle.code_bounds.proofs.Grows.{Each, each_all, LeadsIfAny, AllFit, Keeps}
use Rattle.code_bounds.proofs.Outs as Outs
use Rattle.code_bounds.proofs.Outs.{each, scope_price, Starts}
use Rattle.code_bounds.proofs.Statements as Statements
use Rattle.code_bounds.proofs.Statements.{price}
use Rattle.code_bounds.proofs.Routines.{some_same, is_of}
use Rattle.code_bounds.proofs.Scoped.{each_alike, statement_pays, locals_pay, parameters_pay}
use Rattle.code_bounds.proofs.Weights as Weights

-- ---- lists

one_more : {A B : Type 0} (f : A → B) (all : List A) → length (map f all) ≡ length all
one_more f [] = refl
one_more f (x ∷ all) = let h = one_more f all in omega (arith, h)

so_many : (k n : ℕ) → length (numbers_from k n) ≡ n
so_many k zero = refl
so_many k (suc n) = let h = so_many (k + 1) n in omega (arith, h)

both_lengths : {A : Type 0} (a b : List A) → length (a ++ b) ≡ length a + length b
both_lengths [] b = omega arith
both_lengths (x ∷ a) b = let h = both_lengths a b in omega (arith, h)

-- an entry that is there
entry : (P : ℕ → Type 0) (all : List ℕ) (l : ℕ) → l < length all → Each P all → (k : ℕ) × (slice_get all l ≡ Some k) × P k
entry P [] l h e = absurd (let r : l < 0 = h in omega (arith, r))
entry P (k ∷ all) zero h e = (k, refl, e.0)
entry P (k ∷ all) (suc l) h e = entry P all l (omega (arith, h)) e.1

-- ---- the body of a function

module _ (c : Prices) (p : ProgramData) (g : ℕ) (f : FunctionData) (body : Statement ℕ) where
  abbrev most : ℕ
  most = length (all_locals f) + weight_of_body temporaries f (Some body)

  abbrev kinds : List Bool
  kinds = map (λ l. l.block) (all_locals f)

  abbrev sizes : List ℕ
  sizes = sizes_of_locals p f

  roomy : length (all_locals f) < most
  roomy = omega arith

  abbrev out : Out
  out = body_code p g f body

  abbrev parameters : List ℕ
  parameters = parameters_of p f

  abbrev blocks : Bool
  blocks = have_blocks p g (all_locals f) parameters

  body_made : Outs.Made c most kinds sizes (Outs.scope_price c most kinds sizes p g (all_locals f) roomy refl refl blocks parameters + price c body)
      (last_code p g f).code [] out.code out.labels
  body_made = Outs.scope_grows c most kinds sizes p g (all_locals f) roomy refl refl parameters (price c body) (λ x out. statement_code p g (all_locals f) body x out)
      (Statements.statement_grows c most p g (all_locals f) roomy body (omega arith)) blocks
      (function_exits p) (last_code p g f) (omega arith) (record { on_break = tt; on_continue = tt; on_return = tt })

  body_fits : AllFit c most kinds sizes (length out.labels) out.code
  body_fits = body_made.sound ((tt, Outs.fallen_below c most kinds sizes p g (all_locals f) roomy refl refl, (tt, tt)), tt)

  scope_within : (b : Bool) → Outs.scope_price c most kinds sizes p g (all_locals f) roomy refl refl b parameters ≤ 4 * c.step + 4 * each c.step parameters
  scope_within true = omega arith
  scope_within false = omega arith

  -- the price of the whole, with that of the function
  body_price : c.step + price_of_all c out.code ≤ 6 * c.step + 4 * each c.step f.parameters + price c body
  body_price =
      let a = body_made.cost in
      let b = scope_within blocks in
      let d = each_alike c.step parameters f.parameters (so_many 0 (length f.parameters)) in omega (arith, a, b, d)

price_within : {A : Type 0} (c : Prices) (parameters : List A) (code : Steps)
    → price_of_code c parameters code ≤ c.step + price_of_parameters c parameters + price_of_all c code
price_within c parameters [] = omega arith
price_within c parameters (s ∷ more) = omega arith

same_parameters : {A B : Type 0} (c : Prices) (make : A → B) (all : List A) → price_of_parameters c (map make all) ≡ price_of_parameters c all
same_parameters c make [] = refl
same_parameters c make (x ∷ all) = let h = same_parameters c make all in omega (arith, h)

-- ---- jumps

jumps_of_steps : (c : Prices) (top : ℕ) (own : List Bool) (each_size : List ℕ) (r : RoutineData) → Each (Starts r.code) r.labels → (code : Steps)
    → length code ≤ length r.code → AllFit c top own each_size (length r.labels) code → Each (λ s. LeadsInsideIfAny r (target_of s)) code
jumps_of_steps c top own each_size r set [] n e = tt
jumps_of_steps c top own each_size r set (s ∷ code) n e =
    (by_target (target_of s) e.0.0, jumps_of_steps c top own each_size r set code (omega (arith, n)) e.1)
  where
    by_target : (o : Option Target) → LeadsIfAny (length code) (length r.labels) o → LeadsInsideIfAny r o
    by_target None h = tt
    by_target (Some (To.Left k)) h = (h.0, omega (arith, n, h.1))
    by_target (Some (To.Label l)) h = let z = entry (Starts r.code) r.labels l h set in (z.0, z.1, z.2.0)

jumps_of_function : (p : ProgramData) (g : ℕ) (f : FunctionData) (b : Option (Statement ℕ)) → JumpsWithin (routine_of p f (code_if_any p g f b))
jumps_of_function p g f None = each_all (λ s. LeadsInsideIfAny (routine_of p f (code_if_any p g f None)) (target_of s)) [] tt
jumps_of_function p g f (Some body) =
    let r = routine_of p f (body_code p g f body) in
    let m = body_made in_steps p g f body in
    each_all (λ s. LeadsInsideIfAny r (target_of s)) r.code
    (jumps_of_steps in_steps (most in_steps p g f body) (kinds in_steps p g f body) (sizes in_steps p g f body) r
    (subst (λ (all : List ℕ). Each (Starts r.code) all) (sym m.is) m.set) r.code (omega arith)
    (body_fits in_steps p g f body))

pub jumps : JumpsStand
jumps p = each_all JumpsWithin (routines_from p 0 p.functions) (from 0 p.functions)
  where
    from : (g : ℕ) (all : List FunctionData) → Each JumpsWithin (routines_from p g all)
    from g [] = tt
    from g (f ∷ more) = (jumps_of_function p g f f.body, from (suc g) more)

-- ---- jumps lead on

label_is : (all : List ℕ) (l k : ℕ) → slice_get all l ≡ Some k → get_or all l 0 ≡ k
label_is [] l k e = cc
label_is (x ∷ all) zero k e = cc
label_is (x ∷ all) (suc l) k e = label_is all l k e

on_of_steps : (c : Prices) (top : ℕ) (own : List Bool) (each_size : List ℕ) (r : RoutineData) → Each (Starts r.code) r.labels → (code : Steps)
    → AllFit c top own each_size (length r.labels) code → AllLeadOn r code
on_of_steps c top own each_size r set [] e = tt
on_of_steps c top own each_size r set (s ∷ code) e = (by_target (target_of s) e.0.0, on_of_steps c top own each_size r set code e.1)
  where
    by_target : (o : Option Target) → LeadsIfAny (length code) (length r.labels) o → LeadsOnIfAny r (length code) o
    by_target None h = tt
    by_target (Some (To.Left k)) h = h.1
    by_target (Some (To.Label l)) h =
        let z = entry (Starts r.code) r.labels l h set in
        subst (λ (k : ℕ). TakesTurn (left k r.code)) (sym (label_is r.labels l z.0 z.1)) z.2.1

on_of_function : (p : ProgramData) (g : ℕ) (f : FunctionData) (b : Option (Statement ℕ)) → JumpsLeadOn (routine_of p f (code_if_any p g f b))
on_of_function p g f None = tt
on_of_function p g f (Some body) =
    let r = routine_of p f (body_code p g f body) in
    let m = body_made in_steps p g f body in
    on_of_steps in_steps (most in_steps p g f body) (kinds in_steps p g f body) (sizes in_steps p g f body) r
    (subst (λ (all : List ℕ). Each (Starts r.code) all) (sym m.is) m.set) r.code (body_fits in_steps p g f body)

pub jumps_on : AllJumpsLeadOn
jumps_on p = each_all JumpsLeadOn (routines_from p 0 p.functions) (from 0 p.functions)
  where
    from : (g : ℕ) (all : List FunctionData) → Each JumpsLeadOn (routines_from p g all)
    from g [] = tt
    from g (f ∷ more) = (on_of_function p g f f.body, from (suc g) more)

-- ---- kinds of locals

keeps_kinds : (c : Prices) (top : ℕ) (own : List Bool) (each_size : List ℕ) (s : Step) → Keeps c top own each_size s → KeepsKinds own s
keeps_kinds c top own each_size (S.Set t a) h = h
keeps_kinds c top own each_size (S.Clear t) h = h
keeps_kinds c top own each_size (S.Unary t at op a) h = h
keeps_kinds c top own each_size (S.Not t a) h = h
keeps_kinds c top own each_size (S.Convert t at kind a) h = h
keeps_kinds c top own each_size (S.AsPointer t at a) h = h
keeps_kinds c top own each_size (S.Number t at a) h = h
keeps_kinds c top own each_size (S.Binary t at op kind right a b) h = h
keeps_kinds c top own each_size (S.Compare t at op kind a b) h = h
keeps_kinds c top own each_size (S.Move t at op size left kind a b) h = h
keeps_kinds c top own each_size (S.Distance t at size a b) h = h
keeps_kinds c top own each_size (S.Update t at op size sort right a b) h = h
keeps_kinds c top own each_size (S.Field t at by a) h = h
keeps_kinds c top own each_size (S.ElementField t at size kind by a b) h = h
keeps_kinds c top own each_size (S.Element t at n size addressed kind a b) h = h
keeps_kinds c top own each_size (S.Part t at by a) h = h
keeps_kinds c top own each_size (S.Inside t at x by) h = h
keeps_kinds c top own each_size (S.Load t at access a) h = h
keeps_kinds c top own each_size (S.Store at access a b) h = h
keeps_kinds c top own each_size (S.CopyRecord at size a b) h = h
keeps_kinds c top own each_size (S.Jump to) h = h
keeps_kinds c top own each_size (S.Branch when a to) h = h
keeps_kinds c top own each_size (S.Test at op kind when a b to) h = h
keeps_kinds c top own each_size (S.Case n a to) h = h
keeps_kinds c top own each_size (S.Call t at f all) h = h
keeps_kinds c top own each_size (S.CallThrough t at ty a all) h = h
keeps_kinds c top own each_size (S.Library t at which all) h = h
keeps_kinds c top own each_size (S.Allocate t at r size zeroed a) h = h
keeps_kinds c top own each_size (S.Begin x size) h = (tt, h.1.0)
keeps_kinds c top own each_size (S.End x) h = h
keeps_kinds c top own each_size (S.Forget x size) h = h
keeps_kinds c top own each_size (S.Zeros x size) h = h
keeps_kinds c top own each_size (S.Text x by n) h = h
keeps_kinds c top own each_size (S.Began f l) h = h
keeps_kinds c top own each_size (S.Return a) h = h
keeps_kinds c top own each_size (S.ReturnHeld t) h = h
keeps_kinds c top own each_size (S.Fail kind at) h = h

kinds_of_steps : (c : Prices) (top : ℕ) (own : List Bool) (each_size : List ℕ) (l : ℕ) (code : Steps) → AllFit c top own each_size l code → Each (KeepsKinds own) code
kinds_of_steps c top own each_size l [] e = tt
kinds_of_steps c top own each_size l (s ∷ code) e = (keeps_kinds c top own each_size s e.0.2, kinds_of_steps c top own each_size l code e.1)

kinds_of_function : (p : ProgramData) (g : ℕ) (f : FunctionData) (b : Option (Statement ℕ)) → KindsWithin (routine_of p f (code_if_any p g f b))
kinds_of_function p g f None = each_all (KeepsKinds (map (λ l. l.block) (all_locals f))) [] tt
kinds_of_function p g f (Some body) =
    let out = body_code p g f body in
    let all = kinds in_steps p g f body in
    each_all (KeepsKinds all) out.code (kinds_of_steps in_steps (most in_steps p g f body) all (sizes in_steps p g f body) (length out.labels) out.code
    (body_fits in_steps p g f body))

pub kinds_stand : KindsStand
kinds_stand p = each_all KindsWithin (routines_from p 0 p.functions) (from 0 p.functions)
  where
    from : (g : ℕ) (all : List FunctionData) → Each KindsWithin (routines_from p g all)
    from g [] = tt
    from g (f ∷ more) = (kinds_of_function p g f f.body, from (suc g) more)

-- ---- labels

labels_of_function : (p : ProgramData) (g : ℕ) (f : FunctionData) (b : Option (Statement ℕ)) → HasFewLabels (routine_of p f (code_if_any p g f b))
labels_of_function p g f None = omega arith
labels_of_function p g f (Some body) =
    let m = body_made in_steps p g f body in
    let a = m.few in
    let b : length (body_code p g f body).labels ≡ length m.more = ap length m.is in omega (arith, a, b)

pub labels_are_few : LabelsAreFew
labels_are_few p = each_all HasFewLabels (routines_from p 0 p.functions) (from 0 p.functions)
  where
    from : (g : ℕ) (all : List FunctionData) → Each HasFewLabels (routines_from p g all)
    from g [] = tt
    from g (f ∷ more) = (labels_of_function p g f f.body, from (suc g) more)

-- ---- sizes of blocks

has_own_size : (c : Prices) (top : ℕ) (own : List Bool) (each_size : List ℕ) (s : Step) → Keeps c top own each_size s → HasOwnSize each_size s
has_own_size c top own each_size (S.Set t a) h = tt
has_own_size c top own each_size (S.Clear t) h = tt
has_own_size c top own each_size (S.Unary t at op a) h = tt
has_own_size c top own each_size (S.Not t a) h = tt
has_own_size c top own each_size (S.Convert t at kind a) h = tt
has_own_size c top own each_size (S.AsPointer t at a) h = tt
has_own_size c top own each_size (S.Number t at a) h = tt
has_own_size c top own each_size (S.Binary t at op kind right a b) h = tt
has_own_size c top own each_size (S.Compare t at op kind a b) h = tt
has_own_size c top own each_size (S.Move t at op size left kind a b) h = tt
has_own_size c top own each_size (S.Distance t at size a b) h = tt
has_own_size c top own each_size (S.Update t at op size sort right a b) h = tt
has_own_size c top own each_size (S.Field t at by a) h = tt
has_own_size c top own each_size (S.ElementField t at size kind by a b) h = tt
has_own_size c top own each_size (S.Element t at n size addressed kind a b) h = tt
has_own_size c top own each_size (S.Part t at by a) h = tt
has_own_size c top own each_size (S.Inside t at x by) h = tt
has_own_size c top own each_size (S.Load t at access a) h = tt
has_own_size c top own each_size (S.Store at access a b) h = tt
has_own_size c top own each_size (S.CopyRecord at size a b) h = tt
has_own_size c top own each_size (S.Jump to) h = tt
has_own_size c top own each_size (S.Branch when a to) h = tt
has_own_size c top own each_size (S.Test at op kind when a b to) h = tt
has_own_size c top own each_size (S.Case n a to) h = tt
has_own_size c top own each_size (S.Call t at f all) h = tt
has_own_size c top own each_size (S.CallThrough t at ty a all) h = tt
has_own_size c top own each_size (S.Library t at which all) h = tt
has_own_size c top own each_size (S.Allocate t at r size zeroed a) h = tt
has_own_size c top own each_size (S.Begin x size) h = h.1.1
has_own_size c top own each_size (S.End x) h = tt
has_own_size c top own each_size (S.Forget x size) h = tt
has_own_size c top own each_size (S.Zeros x size) h = tt
has_own_size c top own each_size (S.Text x by n) h = tt
has_own_size c top own each_size (S.Began f l) h = tt
has_own_size c top own each_size (S.Return a) h = tt
has_own_size c top own each_size (S.ReturnHeld t) h = tt
has_own_size c top own each_size (S.Fail kind at) h = tt

sizes_of_steps : (c : Prices) (top : ℕ) (own : List Bool) (each_size : List ℕ) (l : ℕ) (code : Steps) → AllFit c top own each_size l code → Each (HasOwnSize each_size) code
sizes_of_steps c top own each_size l [] e = tt
sizes_of_steps c top own each_size l (s ∷ code) e = (has_own_size c top own each_size s e.0.2, sizes_of_steps c top own each_size l code e.1)

sizes_of_function : (p : ProgramData) (g : ℕ) (f : FunctionData) (b : Option (Statement ℕ)) → All (HasOwnSize (sizes_of_locals p f)) (code_if_any p g f b).code
sizes_of_function p g f None = each_all (HasOwnSize (sizes_of_locals p f)) [] tt
sizes_of_function p g f (Some body) =
    let out = body_code p g f body in
    each_all (HasOwnSize (sizes_of_locals p f)) out.code (sizes_of_steps in_steps (most in_steps p g f body) (kinds in_steps p g f body) (sizes_of_locals p f)
    (length out.labels) out.code (body_fits in_steps p g f body))

pub sizes_stand : SizesStand
sizes_stand p r f i =
    let z = is_of p r f i in
    subst (λ (r : RoutineData). All (HasOwnSize (sizes_of_locals p f)) r.code) z.is (sizes_of_function p z.at f f.body)

-- ---- prices

price_of_function : (c : Prices) (p : ProgramData) (g : ℕ) (f : FunctionData) (b : Option (Statement ℕ)) → IsScopedBody f b
    → price_of_code c (map (parameter_of p) f.parameters) (code_if_any p g f b).code ≤ weight_of_body (paid c) f b
price_of_function c p g f None i = omega arith
price_of_function c p g f (Some body) i =
    let a = price_within c (map (parameter_of p) f.parameters) (body_code p g f body).code in
    let k = same_parameters c (parameter_of p) f.parameters in
    let b = body_price c p g f body in
    let d = statement_pays c body i.0 in
    let e = parameters_pay c f.parameters in
    let h = locals_pay c f.locals in
    let j = each_alike c.step (all_declared body) f.locals i.1 in omega (arith, a, b, d, e, h, j, k)

pub code_is_paid : CodeIsPaid
code_is_paid p r f i scopes c =
    let z = is_of p r f i in
    subst (λ (r : RoutineData). price_of_routine c r ≤ weight_of_function (paid c) f) z.is (price_of_function c p z.at f f.body scopes)

-- ---- steps

-- where a wide step costs no less than another
module _ (c : Prices) (wider : c.step ≤ c.wide) where
  one_at_least : (s : Step) → c.step ≤ price_of c s
  one_at_least (S.Set t a) = omega (arith, wider)
  one_at_least (S.Clear t) = omega (arith, wider)
  one_at_least (S.Unary t at op a) = omega (arith, wider)
  one_at_least (S.Not t a) = omega (arith, wider)
  one_at_least (S.Convert t at kind a) = omega (arith, wider)
  one_at_least (S.AsPointer t at a) = omega (arith, wider)
  one_at_least (S.Number t at a) = omega (arith, wider)
  one_at_least (S.Binary t at op kind right a b) = omega (arith, wider)
  one_at_least (S.Compare t at op kind a b) = omega (arith, wider)
  one_at_least (S.Move t at op size left kind a b) = omega (arith, wider)
  one_at_least (S.Distance t at size a b) = omega (arith, wider)
  one_at_least (S.Update t at op size sort right a b) = omega (arith, wider)
  one_at_least (S.Field t at by a) = omega (arith, wider)
  one_at_least (S.ElementField t at size kind by a b) = omega (arith, wider)
  one_at_least (S.Element t at n size addressed kind a b) = omega (arith, wider)
  one_at_least (S.Part t at by a) = omega (arith, wider)
  one_at_least (S.Inside t at x by) = omega (arith, wider)
  one_at_least (S.Load t at access a) = omega (arith, wider)
  one_at_least (S.Store at access a b) = omega (arith, wider)
  one_at_least (S.CopyRecord at size a b) = omega (arith, wider)
  one_at_least (S.Jump to) = omega (arith, wider)
  one_at_least (S.Branch when a to) = omega (arith, wider)
  one_at_least (S.Test at op kind when a b to) = omega (arith, wider)
  one_at_least (S.Case n a to) = omega (arith, wider)
  one_at_least (S.Call t at f all) = omega (arith, wider)
  one_at_least (S.CallThrough t at ty a all) = omega (arith, wider)
  one_at_least (S.Library t at which all) = omega (arith, wider)
  one_at_least (S.Allocate t at r size zeroed a) = omega (arith, wider)
  one_at_least (S.Begin x size) = omega (arith, wider)
  one_at_least (S.End x) = omega (arith, wider)
  one_at_least (S.Forget x size) = omega (arith, wider)
  one_at_least (S.Zeros x size) = omega (arith, wider)
  one_at_least (S.Text x by n) = omega (arith, wider)
  one_at_least (S.Began f l) = omega (arith, wider)
  one_at_least (S.Return a) = omega (arith, wider)
  one_at_least (S.ReturnHeld t) = omega (arith, wider)
  one_at_least (S.Fail kind at) = omega (arith, wider)

  each_at_least : (code : Steps) → each c.step code ≤ price_of_all c code
  each_at_least [] = omega arith
  each_at_least (s ∷ code) = let a = one_at_least s in let b = each_at_least code in omega (arith, a, b)

  code_at_least : {A : Type 0} (parameters : List A) (code : Steps) → each c.step code ≤ price_of_code c parameters code
  code_at_least parameters [] = omega arith
  code_at_least parameters (s ∷ code) = let a = each_at_least (s ∷ code) in omega (arith, a)

one_for_each : (code : Steps) → each 1 code ≡ length code
one_for_each [] = omega arith
one_for_each (s ∷ code) = let h = one_for_each code in omega (arith, h)

pub steps_are_few : StepsAreFew
steps_are_few p r f i scopes =
    let a = code_is_paid p r f i scopes in_steps in
    let b = code_at_least in_steps (omega arith) r.parameters r.code in
    let d = one_for_each r.code in omega (arith, a, b, d)

-- ---- in bytes

module _ (c : Prices) (are : AreBytes c) where
  within_code : (k : Kind) → 1 * paid c k ≤ code k
  within_code Kinds.begins = let a = are.step in let b = are.wide in let d = are.argument in let e = are.parameter in omega (arith, a, b, d, e)
  within_code Kinds.through = let a = are.step in let b = are.wide in let d = are.argument in let e = are.parameter in omega (arith, a, b, d, e)
  within_code Kinds.to_field = let a = are.step in let b = are.wide in let d = are.argument in let e = are.parameter in omega (arith, a, b, d, e)
  within_code Kinds.to_element = let a = are.step in let b = are.wide in let d = are.argument in let e = are.parameter in omega (arith, a, b, d, e)
  within_code Kinds.constant = let a = are.step in let b = are.wide in let d = are.argument in let e = are.parameter in omega (arith, a, b, d, e)
  within_code Kinds.load = let a = are.step in let b = are.wide in let d = are.argument in let e = are.parameter in omega (arith, a, b, d, e)
  within_code Kinds.conversion = let a = are.step in let b = are.wide in let d = are.argument in let e = are.parameter in omega (arith, a, b, d, e)
  within_code Kinds.pointer_sum = let a = are.step in let b = are.wide in let d = are.argument in let e = are.parameter in omega (arith, a, b, d, e)
  within_code Kinds.operator = let a = are.step in let b = are.wide in let d = are.argument in let e = are.parameter in omega (arith, a, b, d, e)
  within_code Kinds.assignment = let a = are.step in let b = are.wide in let d = are.argument in let e = are.parameter in omega (arith, a, b, d, e)
  within_code Kinds.call = let a = are.step in let b = are.wide in let d = are.argument in let e = are.parameter in omega (arith, a, b, d, e)
  within_code Kinds.argument = let a = are.step in let b = are.wide in let d = are.argument in let e = are.parameter in omega (arith, a, b, d, e)
  within_code Kinds.part = let a = are.step in let b = are.wide in let d = are.argument in let e = are.parameter in omega (arith, a, b, d, e)
  within_code Kinds.statement = let a = are.step in let b = are.wide in let d = are.argument in let e = are.parameter in omega (arith, a, b, d, e)
  within_code Kinds.arm = let a = are.step in let b = are.wide in let d = are.argument in let e = are.parameter in omega (arith, a, b, d, e)
  within_code Kinds.label = let a = are.step in let b = are.wide in let d = are.argument in let e = are.parameter in omega (arith, a, b, d, e)
  within_code Kinds.definition = let a = are.step in let b = are.wide in let d = are.argument in let e = are.parameter in omega (arith, a, b, d, e)
  within_code Kinds.parameter = let a = are.step in let b = are.wide in let d = are.argument in let e = are.parameter in omega (arith, a, b, d, e)
  within_code Kinds.named_local = let a = are.step in let b = are.wide in let d = are.argument in let e = are.parameter in omega (arith, a, b, d, e)
  within_code Kinds.block_local = let a = are.step in let b = are.wide in let d = are.argument in let e = are.parameter in omega (arith, a, b, d, e)
  within_code Kinds.structure = let a = are.step in let b = are.wide in let d = are.argument in let e = are.parameter in omega (arith, a, b, d, e)
  within_code Kinds.field = let a = are.step in let b = are.wide in let d = are.argument in let e = are.parameter in omega (arith, a, b, d, e)

  body_within : (f : FunctionData) (b : Option (Statement ℕ)) → weight_of_body (paid c) f b ≤ weight_of_body code f b
  body_within f None = omega arith
  body_within f (Some body) =
      let a = Weights.less_parameters 1 (paid c) code within_code f.parameters in
      let b = Weights.less_locals 1 (paid c) code within_code f.locals in
      let d = Weights.less_statement 1 (paid c) code within_code 0 (let h = are.step in omega (arith, h)) body in
      let e = are.step in omega (arith, a, b, d, e)

  -- a function with a body leaves more
  body_leaves : (f : FunctionData) (b : Option (Statement ℕ)) → b ≢ None → weight_of_body (paid c) f b + 512 ≤ weight_of_body code f b
  body_leaves f None some = absurd (some refl)
  body_leaves f (Some body) some =
      let a = Weights.less_parameters 1 (paid c) code within_code f.parameters in
      let b = Weights.less_locals 1 (paid c) code within_code f.locals in
      let d = Weights.less_statement 1 (paid c) code within_code 0 (let h = are.step in omega (arith, h)) body in
      let e = are.step in omega (arith, a, b, d, e)

pub bytes_are_within : BytesAreWithin
bytes_are_within p r f i scopes c are = let a = code_is_paid p r f i scopes c in let b = body_within c are f f.body in omega (arith, a, b)

functions_are_within : (p : ProgramData) (c : Prices) → AreBytes c → (g : ℕ) (all : List FunctionData) → All HasScopes all
    → price_of_routines c (routines_from p g all) ≤ weight_of_functions code all
functions_are_within p c are g [] e = omega arith
functions_are_within p c are g (f ∷ more) e =
    let a = price_of_function c p g f f.body (e 0 f (omega arith)) in
    let b = body_within c are f f.body in
    let d = functions_are_within p c are (suc g) more (λ k one h. e (suc k) one (omega (arith, h))) in omega (arith, a, b, d)

pub programs_are_within : ProgramsAreWithin
programs_are_within p scopes c are = let a = functions_are_within p c are 0 p.functions scopes in omega (arith, a)

pub bytes_are_left : BytesAreLeft
bytes_are_left p scopes main c are = let a = from p.main 0 p.functions scopes main.1 in omega (arith, a)
  where
    from : (n g : ℕ) (all : List FunctionData) → All HasScopes all → slice_get all n ≡ Some main.0
        → price_of_routines c (routines_from p g all) + 512 ≤ weight_of_functions code all
    from n g [] e is = cc
    from zero g (f ∷ more) e is =
        let a = price_of_function c p g f f.body (e 0 f (omega arith)) in
        let b = body_leaves c are f f.body (subst (λ (f : FunctionData). f.body ≢ None) (sym (some_same is)) main.2.1) in
        let d = functions_are_within p c are (suc g) more (λ k one h. e (suc k) one (omega (arith, h))) in omega (arith, a, b, d)
    from (suc n) g (f ∷ more) e is =
        let a = price_of_function c p g f f.body (e 0 f (omega arith)) in
        let b = body_within c are f f.body in
        let d = from n (suc g) more (λ k one h. e (suc k) one (omega (arith, h))) is in omega (arith, a, b, d)

-- ---- steps by nodes

many : (code : Steps) → each 48 code ≡ 48 * length code
many [] = omega arith
many (s ∷ code) = let h = many code in omega (arith, h)

pub programs_have_few_steps : ProgramsHaveFewSteps
programs_have_few_steps p scopes bounded =
    let a = programs_are_within p scopes at_48 (record { step = omega arith; wide = omega arith; argument = omega arith; parameter = omega arith }) in
    let b = all (lowered p).routines in
    let d = bounded.code in omega (arith, a, b, d)
  where
    at_48 : Prices
    at_48 = record { step = 48; wide = 48; argument = 0; parameter = 0 }

    all : (routines : List RoutineData) → 48 * steps_in routines ≤ price_of_routines at_48 routines
    all [] = omega arith
    all (r ∷ more) =
        let a = code_at_least at_48 (omega arith) r.parameters r.code in
        let b = many r.code in
        let d = all more in omega (arith, a, b, d)

-- ---- temporaries

greatest : (c : Prices) (top : ℕ) (own : List Bool) (each_size : List ℕ) (l : ℕ) (code : Steps) → AllFit c top own each_size l code → top_of_all code ≤ top
greatest c top own each_size l [] e = omega arith
greatest c top own each_size l (s ∷ code) e = let a = greatest c top own each_size l code e.1 in let b = e.0.1 in omega (arith, a, b)

temporaries_of_function : (p : ProgramData) (g : ℕ) (f : FunctionData) (b : Option (Statement ℕ))
    → top_of_all (code_if_any p g f b).code ≤ length (routine_of p f (code_if_any p g f b)).locals + weight_of_body temporaries f b
temporaries_of_function p g f None = omega arith
temporaries_of_function p g f (Some body) =
    let out = body_code p g f body in
    let a = greatest in_steps (most in_steps p g f body) (kinds in_steps p g f body) (sizes in_steps p g f body) (length out.labels) out.code
    (body_fits in_steps p g f body) in
    let b = one_more (λ (l : Local). l.block) (all_locals f) in omega (arith, a, b)

pub temporaries_are_few : TemporariesAreFew
temporaries_are_few p r f i =
    let z = is_of p r f i in
    subst (λ (r : RoutineData). top_of_all r.code ≤ length r.locals + weight_of_function temporaries f) z.is (temporaries_of_function p z.at f f.body)

within_frame : (k : Kind) → 4 * temporaries k ≤ frame k
within_frame Kinds.begins = omega arith
within_frame Kinds.through = omega arith
within_frame Kinds.to_field = omega arith
within_frame Kinds.to_element = omega arith
within_frame Kinds.constant = omega arith
within_frame Kinds.load = omega arith
within_frame Kinds.conversion = omega arith
within_frame Kinds.pointer_sum = omega arith
within_frame Kinds.operator = omega arith
within_frame Kinds.assignment = omega arith
within_frame Kinds.call = omega arith
within_frame Kinds.argument = omega arith
within_frame Kinds.part = omega arith
within_frame Kinds.statement = omega arith
within_frame Kinds.arm = omega arith
within_frame Kinds.label = omega arith
within_frame Kinds.definition = omega arith
within_frame Kinds.parameter = omega arith
within_frame Kinds.named_local = omega arith
within_frame Kinds.block_local = omega arith
within_frame Kinds.structure = omega arith
within_frame Kinds.field = omega arith

four_for_each : {A : Type 0} (all : List A) → each 4 all ≡ 4 * length all
four_for_each [] = omega arith
four_for_each (x ∷ all) = let h = four_for_each all in omega (arith, h)

frame_of_parameters : (all : List Local) → 4 * weight_of_parameters temporaries all + 4 * length all ≤ weight_of_parameters frame all
frame_of_parameters [] = omega arith
frame_of_parameters (l ∷ more) = let h = frame_of_parameters more in omega (arith, h)

-- the statement that declares a local pays for it
frame_of_function : (f : FunctionData) (b : Option (Statement ℕ)) → IsScopedBody f b → b ≢ None
    → 4 * (length (all_locals f) + weight_of_body temporaries f b) + 100 ≤ weight_of_body frame f b
frame_of_function f None i some = absurd (some refl)
frame_of_function f (Some body) i some =
    let a = frame_of_parameters f.parameters in
    let b = Weights.less_locals 4 temporaries frame within_frame f.locals in
    let d = Weights.less_statement 4 temporaries frame within_frame 4 (omega arith) body in
    let e = four_for_each (all_declared body) in
    let h = both_lengths f.parameters f.locals in
    let q : length (all_declared body) ≡ length f.locals = i.1 in omega (arith, a, b, d, e, h, q)

pub frames_are_within : FramesAreWithin
frames_are_within p r f i scopes some =
    let z = is_of p r f i in
    let a = frame_of_function f f.body scopes some in
    let b = one_more (λ (l : Local). l.block) (all_locals f) in
    subst (λ (r : RoutineData). 4 * (length r.locals + weight_of_function temporaries f) + 100 ≤ weight_of_function frame f) z.is (omega (arith, a, b))

-- ---- frames against code

less_than_code : (k : Kind) → 8 * frame k ≤ code k
less_than_code Kinds.begins = omega arith
less_than_code Kinds.through = omega arith
less_than_code Kinds.to_field = omega arith
less_than_code Kinds.to_element = omega arith
less_than_code Kinds.constant = omega arith
less_than_code Kinds.load = omega arith
less_than_code Kinds.conversion = omega arith
less_than_code Kinds.pointer_sum = omega arith
less_than_code Kinds.operator = omega arith
less_than_code Kinds.assignment = omega arith
less_than_code Kinds.call = omega arith
less_than_code Kinds.argument = omega arith
less_than_code Kinds.part = omega arith
less_than_code Kinds.statement = omega arith
less_than_code Kinds.arm = omega arith
less_than_code Kinds.label = omega arith
less_than_code Kinds.definition = omega arith
less_than_code Kinds.parameter = omega arith
less_than_code Kinds.named_local = omega arith
less_than_code Kinds.block_local = omega arith
less_than_code Kinds.structure = omega arith
less_than_code Kinds.field = omega arith

frame_against_code : (f : FunctionData) (b : Option (Statement ℕ)) → 8 * weight_of_body frame f b ≤ weight_of_body code f b
frame_against_code f None = omega arith
frame_against_code f (Some body) =
    let a = Weights.less_parameters 8 frame code less_than_code f.parameters in
    let b = Weights.less_locals 8 frame code less_than_code f.locals in
    let d = Weights.less_statement 8 frame code less_than_code 0 (omega arith) body in omega (arith, a, b, d)

pub frames_weigh_less : FramesWeighLess
frames_weigh_less f = frame_against_code f f.body
