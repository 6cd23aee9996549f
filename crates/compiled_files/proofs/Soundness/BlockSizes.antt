-- How large the blocks of a routine are: each has the size of its local.
use Rattle.std.proofs.Common.{◌≡◌, ℕ, zero, suc, ◌+◌, ◌<◌, ◌≤◌, ◌⊎◌, inl, inr, List, [], ◌∷◌, length, max, replicate, Some, refl}
use Rattle.std.proofs.Common.{ap, sym, subst, ◌∙◌, arith, slice_get, slice_set, slice_index}
use Rattle.std.specs.List.{AllByRecursion as Each}
use Rattle.tac_ir.specs.Code.{RoutineData}
use Rattle.tac_ir.specs.declared.step.Parameter.{Parameter}
use Rattle.tac_ir.specs.declared.step.Step.{Step}
use Rattle.tac_ir.specs.declared.step.Step.TheVariants as S
use Rattle.compiled_files.proofs.Soundness.Adding.{NumbersSit}
use Rattle.rv_code.specs.Frames.{block_size, block_sizes, sizes_in, sizes_of_parameters, sizes_with, with_size}

-- ---- one element that is set

set_long : (all : List ℕ) (x v : ℕ) → length (slice_set all x v) ≡ length all
set_long [] x v = refl
set_long (y ∷ all) zero v = refl
set_long (y ∷ all) (suc x) v = ap suc (set_long all x v)

set_here : (all : List ℕ) (x v : ℕ) → x < length all → slice_index (slice_set all x v) x ≡ v
set_here [] x v h = absurd (let r : x < 0 = h in omega (arith, r))
set_here (y ∷ all) zero v h = refl
set_here (y ∷ all) (suc x) v h = set_here all x v (omega (arith, h))

-- no element is less than it was, where that one is not
set_more : (all : List ℕ) (x v : ℕ) → slice_index all x ≤ v → (y : ℕ) → slice_index all y ≤ slice_index (slice_set all x v) y
set_more [] x v h y = omega arith
set_more (z ∷ all) zero v h zero = h
set_more (z ∷ all) zero v h (suc y) = omega arith
set_more (z ∷ all) (suc x) v h zero = omega arith
set_more (z ∷ all) (suc x) v h (suc y) = set_more all x v h y

-- and no element is more than its bound
set_less : (bound : ℕ → ℕ) (all : List ℕ) (x v : ℕ) → v ≤ bound x → ((y : ℕ) → slice_index all y ≤ bound y) → (y : ℕ)
    → slice_index (slice_set all x v) y ≤ bound y
set_less bound [] x v h b y = omega arith
set_less bound (z ∷ all) zero v h b zero = h
set_less bound (z ∷ all) zero v h b (suc y) = b (suc y)
set_less bound (z ∷ all) (suc x) v h b zero = b zero
set_less bound (z ∷ all) (suc x) v h b (suc y) = set_less (λ y. bound (suc y)) all x v h (λ y. b (suc y)) y

with_long : (x v : ℕ) (all : List ℕ) → length (with_size x v all) ≡ length all
with_long x v all = set_long all x (max v (slice_index all x))

with_here : (x v : ℕ) (all : List ℕ) → x < length all → v ≤ slice_index (with_size x v all) x
with_here x v all h = let e = set_here all x (max v (slice_index all x)) h in omega (arith, e)

with_more : (x v : ℕ) (all : List ℕ) (y : ℕ) → slice_index all y ≤ slice_index (with_size x v all) y
with_more x v all y = set_more all x (max v (slice_index all x)) (omega arith) y

with_less : (bound : ℕ → ℕ) (x v : ℕ) (all : List ℕ) → v ≤ bound x → ((y : ℕ) → slice_index all y ≤ bound y) → (y : ℕ)
    → slice_index (with_size x v all) y ≤ bound y
with_less bound x v all h b y = let z = b x in set_less bound all x (max v (slice_index all x)) (omega (arith, h, z)) b y

-- ---- parameters

parameters_long : (x : ℕ) (all : List Parameter) (sizes : List ℕ) → length (sizes_of_parameters x all sizes) ≡ length sizes
parameters_long x [] sizes = refl
parameters_long x (r ∷ more) sizes = with_long x (block_size r) (sizes_of_parameters (x + 1) more sizes) ∙ parameters_long (x + 1) more sizes

parameters_less : (bound : ℕ → ℕ) (x : ℕ) (all : List Parameter) (sizes : List ℕ)
    → ((i : ℕ) (r : Parameter) → slice_get all i ≡ Some r → block_size r ≤ bound (x + i)) → ((y : ℕ) → slice_index sizes y ≤ bound y) → (y : ℕ)
    → slice_index (sizes_of_parameters x all sizes) y ≤ bound y
parameters_less bound x [] sizes each b y = b y
parameters_less bound x (r ∷ more) sizes each b y =
    let z : x + 0 ≡ x = omega arith in
    with_less bound x (block_size r) (sizes_of_parameters (x + 1) more sizes) (subst (λ k. block_size r ≤ bound k) z (each 0 r refl))
    (parameters_less bound (x + 1) more sizes
    (λ i q e. subst (λ k. block_size q ≤ bound k) (let z : x + suc i ≡ x + 1 + i = omega arith in z) (each (suc i) q e)) b) y

parameters_here : (x : ℕ) (all : List Parameter) (sizes : List ℕ) (i : ℕ) (r : Parameter) → slice_get all i ≡ Some r → x + i < length sizes
    → block_size r ≤ slice_index (sizes_of_parameters x all sizes) (x + i)
parameters_here x [] sizes i r e h = cc
parameters_here x (q ∷ more) sizes zero r e h =
    let long = parameters_long (x + 1) more sizes in
    let rest = sizes_of_parameters (x + 1) more sizes in
    let z : x ≡ x + 0 = omega arith in
    subst (λ k. block_size r ≤ slice_index (with_size x (block_size q) rest) k) z
    (subst (λ (q : Parameter). block_size r ≤ slice_index (with_size x (block_size q) rest) x) (sym (let same : q ≡ r = cc in same))
    (with_here x (block_size r) rest (omega (arith, long, h))))
parameters_here x (q ∷ more) sizes (suc i) r e h =
    let rest = sizes_of_parameters (x + 1) more sizes in
    let a = parameters_here (x + 1) more sizes i r e (omega (arith, h)) in
    let b = with_more x (block_size q) rest (x + 1 + i) in
    let z : x + 1 + i ≡ x + suc i = omega arith in
    subst (λ k. block_size r ≤ slice_index (with_size x (block_size q) rest) k) z (omega (arith, a, b))

-- ---- code

abbrev pub Among : Step → List Step → Type 0
Among s [] = ⊥
Among s (t ∷ more) = (s ≡ t) ⊎ Among s more

-- a block that begins has that size
abbrev pub BeginsWith : (ℕ → ℕ) → Step → Type 0
BeginsWith bound (S.Begin x size) = size ≡ bound x
BeginsWith bound s = Unit {0}

-- what sits begins so
pub begins_so : (size : ℕ → ℕ) (texts : List (List ℕ)) (s : Step) → NumbersSit size texts s → BeginsWith size s
begins_so size texts (S.Begin x n) h = h
begins_so size texts (S.Set t a) h = tt
begins_so size texts (S.Clear t) h = tt
begins_so size texts (S.Unary t at op a) h = tt
begins_so size texts (S.Not t a) h = tt
begins_so size texts (S.Convert t at kind a) h = tt
begins_so size texts (S.AsPointer t at a) h = tt
begins_so size texts (S.Number t at a) h = tt
begins_so size texts (S.Binary t at op kind right a b) h = tt
begins_so size texts (S.Compare t at op kind a b) h = tt
begins_so size texts (S.Move t at op n left kind a b) h = tt
begins_so size texts (S.Distance t at n a b) h = tt
begins_so size texts (S.Update t at op n sort right a b) h = tt
begins_so size texts (S.Field t at by a) h = tt
begins_so size texts (S.ElementField t at n kind by a b) h = tt
begins_so size texts (S.Element t at m n addressed kind a b) h = tt
begins_so size texts (S.Part t at by a) h = tt
begins_so size texts (S.Inside t at x by) h = tt
begins_so size texts (S.Load t at access a) h = tt
begins_so size texts (S.Store at access a b) h = tt
begins_so size texts (S.CopyRecord at n a b) h = tt
begins_so size texts (S.Jump to) h = tt
begins_so size texts (S.Branch when a to) h = tt
begins_so size texts (S.Test at op kind when a b to) h = tt
begins_so size texts (S.Case n a to) h = tt
begins_so size texts (S.Call t at f all) h = tt
begins_so size texts (S.CallThrough t at ty a all) h = tt
begins_so size texts (S.Library t at which all) h = tt
begins_so size texts (S.Allocate t at r n zeroed a) h = tt
begins_so size texts (S.End x) h = tt
begins_so size texts (S.Forget x n) h = tt
begins_so size texts (S.Zeros x n) h = tt
begins_so size texts (S.Text x by n) h = tt
begins_so size texts (S.Began f l) h = tt
begins_so size texts (S.Return a) h = tt
begins_so size texts (S.ReturnHeld t) h = tt
begins_so size texts (S.Fail kind at) h = tt

step_long : (s : Step) (sizes : List ℕ) → length (sizes_with s sizes) ≡ length sizes
step_long (S.Begin x size) sizes = with_long x size sizes
step_long (S.Set t a) sizes = refl
step_long (S.Clear t) sizes = refl
step_long (S.Unary t at op a) sizes = refl
step_long (S.Not t a) sizes = refl
step_long (S.Convert t at kind a) sizes = refl
step_long (S.AsPointer t at a) sizes = refl
step_long (S.Number t at a) sizes = refl
step_long (S.Binary t at op kind right a b) sizes = refl
step_long (S.Compare t at op kind a b) sizes = refl
step_long (S.Move t at op size left kind a b) sizes = refl
step_long (S.Distance t at size a b) sizes = refl
step_long (S.Update t at op size sort right a b) sizes = refl
step_long (S.Field t at by a) sizes = refl
step_long (S.ElementField t at size kind by a b) sizes = refl
step_long (S.Element t at n size addressed kind a b) sizes = refl
step_long (S.Part t at by a) sizes = refl
step_long (S.Inside t at x by) sizes = refl
step_long (S.Load t at access a) sizes = refl
step_long (S.Store at access a b) sizes = refl
step_long (S.CopyRecord at size a b) sizes = refl
step_long (S.Jump to) sizes = refl
step_long (S.Branch when a to) sizes = refl
step_long (S.Test at op kind when a b to) sizes = refl
step_long (S.Case n a to) sizes = refl
step_long (S.Call t at f all) sizes = refl
step_long (S.CallThrough t at ty a all) sizes = refl
step_long (S.Library t at which all) sizes = refl
step_long (S.Allocate t at r size zeroed a) sizes = refl
step_long (S.End x) sizes = refl
step_long (S.Forget x size) sizes = refl
step_long (S.Zeros x size) sizes = refl
step_long (S.Text x by n) sizes = refl
step_long (S.Began f l) sizes = refl
step_long (S.Return a) sizes = refl
step_long (S.ReturnHeld t) sizes = refl
step_long (S.Fail kind at) sizes = refl

step_more : (s : Step) (sizes : List ℕ) (y : ℕ) → slice_index sizes y ≤ slice_index (sizes_with s sizes) y
step_more (S.Begin x size) sizes y = with_more x size sizes y
step_more (S.Set t a) sizes y = omega arith
step_more (S.Clear t) sizes y = omega arith
step_more (S.Unary t at op a) sizes y = omega arith
step_more (S.Not t a) sizes y = omega arith
step_more (S.Convert t at kind a) sizes y = omega arith
step_more (S.AsPointer t at a) sizes y = omega arith
step_more (S.Number t at a) sizes y = omega arith
step_more (S.Binary t at op kind right a b) sizes y = omega arith
step_more (S.Compare t at op kind a b) sizes y = omega arith
step_more (S.Move t at op size left kind a b) sizes y = omega arith
step_more (S.Distance t at size a b) sizes y = omega arith
step_more (S.Update t at op size sort right a b) sizes y = omega arith
step_more (S.Field t at by a) sizes y = omega arith
step_more (S.ElementField t at size kind by a b) sizes y = omega arith
step_more (S.Element t at n size addressed kind a b) sizes y = omega arith
step_more (S.Part t at by a) sizes y = omega arith
step_more (S.Inside t at x by) sizes y = omega arith
step_more (S.Load t at access a) sizes y = omega arith
step_more (S.Store at access a b) sizes y = omega arith
step_more (S.CopyRecord at size a b) sizes y = omega arith
step_more (S.Jump to) sizes y = omega arith
step_more (S.Branch when a to) sizes y = omega arith
step_more (S.Test at op kind when a b to) sizes y = omega arith
step_more (S.Case n a to) sizes y = omega arith
step_more (S.Call t at f all) sizes y = omega arith
step_more (S.CallThrough t at ty a all) sizes y = omega arith
step_more (S.Library t at which all) sizes y = omega arith
step_more (S.Allocate t at r size zeroed a) sizes y = omega arith
step_more (S.End x) sizes y = omega arith
step_more (S.Forget x size) sizes y = omega arith
step_more (S.Zeros x size) sizes y = omega arith
step_more (S.Text x by n) sizes y = omega arith
step_more (S.Began f l) sizes y = omega arith
step_more (S.Return a) sizes y = omega arith
step_more (S.ReturnHeld t) sizes y = omega arith
step_more (S.Fail kind at) sizes y = omega arith

step_less : (bound : ℕ → ℕ) (s : Step) (sizes : List ℕ) → BeginsWith bound s → ((y : ℕ) → slice_index sizes y ≤ bound y) → (y : ℕ)
    → slice_index (sizes_with s sizes) y ≤ bound y
step_less bound (S.Begin x size) sizes h each y = with_less bound x size sizes (omega (arith, h)) each y
step_less bound (S.Set t a) sizes h each y = each y
step_less bound (S.Clear t) sizes h each y = each y
step_less bound (S.Unary t at op a) sizes h each y = each y
step_less bound (S.Not t a) sizes h each y = each y
step_less bound (S.Convert t at kind a) sizes h each y = each y
step_less bound (S.AsPointer t at a) sizes h each y = each y
step_less bound (S.Number t at a) sizes h each y = each y
step_less bound (S.Binary t at op kind right a b) sizes h each y = each y
step_less bound (S.Compare t at op kind a b) sizes h each y = each y
step_less bound (S.Move t at op size left kind a b) sizes h each y = each y
step_less bound (S.Distance t at size a b) sizes h each y = each y
step_less bound (S.Update t at op size sort right a b) sizes h each y = each y
step_less bound (S.Field t at by a) sizes h each y = each y
step_less bound (S.ElementField t at size kind by a b) sizes h each y = each y
step_less bound (S.Element t at n size addressed kind a b) sizes h each y = each y
step_less bound (S.Part t at by a) sizes h each y = each y
step_less bound (S.Inside t at x by) sizes h each y = each y
step_less bound (S.Load t at access a) sizes h each y = each y
step_less bound (S.Store at access a b) sizes h each y = each y
step_less bound (S.CopyRecord at size a b) sizes h each y = each y
step_less bound (S.Jump to) sizes h each y = each y
step_less bound (S.Branch when a to) sizes h each y = each y
step_less bound (S.Test at op kind when a b to) sizes h each y = each y
step_less bound (S.Case n a to) sizes h each y = each y
step_less bound (S.Call t at f all) sizes h each y = each y
step_less bound (S.CallThrough t at ty a all) sizes h each y = each y
step_less bound (S.Library t at which all) sizes h each y = each y
step_less bound (S.Allocate t at r size zeroed a) sizes h each y = each y
step_less bound (S.End x) sizes h each y = each y
step_less bound (S.Forget x size) sizes h each y = each y
step_less bound (S.Zeros x size) sizes h each y = each y
step_less bound (S.Text x by n) sizes h each y = each y
step_less bound (S.Began f l) sizes h each y = each y
step_less bound (S.Return a) sizes h each y = each y
step_less bound (S.ReturnHeld t) sizes h each y = each y
step_less bound (S.Fail kind at) sizes h each y = each y

code_long : (code : List Step) (sizes : List ℕ) → length (sizes_in code sizes) ≡ length sizes
code_long [] sizes = refl
code_long (s ∷ more) sizes = step_long s (sizes_in more sizes) ∙ code_long more sizes

code_more : (code : List Step) (sizes : List ℕ) (y : ℕ) → slice_index sizes y ≤ slice_index (sizes_in code sizes) y
code_more [] sizes y = omega arith
code_more (s ∷ more) sizes y =
    let a = step_more s (sizes_in more sizes) y in
    let b = code_more more sizes y in omega (arith, a, b)

code_less : (bound : ℕ → ℕ) (code : List Step) (sizes : List ℕ) → Each (BeginsWith bound) code → ((y : ℕ) → slice_index sizes y ≤ bound y) → (y : ℕ)
    → slice_index (sizes_in code sizes) y ≤ bound y
code_less bound [] sizes each b y = b y
code_less bound (s ∷ more) sizes each b y = step_less bound s (sizes_in more sizes) each.0 (code_less bound more sizes each.1 b) y

code_here : (code : List Step) (sizes : List ℕ) (x v : ℕ) → Among (S.Begin x v) code → x < length sizes → v ≤ slice_index (sizes_in code sizes) x
code_here [] sizes x v i h = absurd i
code_here (s ∷ more) sizes x v (inl e) h =
    let long = code_long more sizes in
    subst (λ s. v ≤ slice_index (sizes_with s (sizes_in more sizes)) x) e (with_here x v (sizes_in more sizes) (omega (arith, long, h)))
code_here (s ∷ more) sizes x v (inr i) h =
    let a = code_here more sizes x v i h in
    let b = step_more s (sizes_in more sizes) x in omega (arith, a, b)

nothing : (n y : ℕ) → slice_index (replicate n 0) y ≤ 0
nothing zero y = omega arith
nothing (suc n) zero = omega arith
nothing (suc n) (suc y) = nothing n y

nothing_long : (n : ℕ) → length {A = ℕ} (replicate n 0) ≡ n
nothing_long zero = refl
nothing_long (suc n) = ap suc (nothing_long n)

-- ---- the blocks of a routine

module _ (g : RoutineData) (bound : ℕ → ℕ) (parameters : (i : ℕ) (r : Parameter) → slice_get g.parameters i ≡ Some r → block_size r ≤ bound i)
    (begins : Each (BeginsWith bound) g.code) where
  abbrev empty : List ℕ
  empty = replicate (length g.locals) 0

  pub blocks_less : (y : ℕ) → slice_index (block_sizes g) y ≤ bound y
  blocks_less y =
      code_less bound g.code (sizes_of_parameters 0 g.parameters empty) begins
      (parameters_less bound 0 g.parameters empty
      (λ i r e. subst (λ k. block_size r ≤ bound k) (let z : i ≡ 0 + i = omega arith in z) (parameters i r e))
      (λ y. let z = nothing (length g.locals) y in omega (arith, z))) y

  -- a block that begins somewhere has its local's size
  pub begun_size : (x v : ℕ) → v ≡ bound x → x < length g.locals → Among (S.Begin x v) g.code → slice_index (block_sizes g) x ≡ bound x
  begun_size x v e h i =
      let a = blocks_less x in
      let long = parameters_long 0 g.parameters empty in
      let none = nothing_long (length g.locals) in
      let b = code_here g.code (sizes_of_parameters 0 g.parameters empty) x v i (omega (arith, h, long, none)) in
      omega (arith, a, b, e)

  -- and so has that of a parameter
  pub parameter_size : (x : ℕ) (r : Parameter) → slice_get g.parameters x ≡ Some r → block_size r ≡ bound x → x < length g.locals
      → slice_index (block_sizes g) x ≡ bound x
  parameter_size x r is e h =
      let a = blocks_less x in
      let none = nothing_long (length g.locals) in
      let b = parameters_here 0 g.parameters empty x r is (omega (arith, h, none)) in
      let more = code_more g.code (sizes_of_parameters 0 g.parameters empty) (0 + x) in
      let z : 0 + x ≡ x = omega arith in
      let whole : block_size r ≤ slice_index (block_sizes g) x = subst (λ k. block_size r ≤ slice_index (block_sizes g) k) z (omega (arith, b, more)) in
      omega (arith, a, whole, e)
