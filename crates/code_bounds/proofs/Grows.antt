-- What code that is made before other code adds to it.
use Rattle.std.proofs.Common.{◌≡◌, ◌≢◌, slice_get, ℕ, zero, suc, ◌+◌, ◌<◌, ◌≤◌, Bool, true, false, List, [], ◌∷◌, length, All, Option, Some, None, refl}
use Rattle.std.proofs.Common.{arith, ap, ◌∙◌, drop}
use Rattle.std.specs.Prelude.{◌-◌}
use Rattle.lay_base.specs.declared.place.Place.{Place}
use Rattle.tac_ir.specs.declared.step.Operand.{Operand}
use Rattle.tac_ir.specs.declared.step.Operand.TheVariants as O
use Rattle.tac_ir.specs.declared.step.Step.{Step}
use Rattle.tac_ir.specs.declared.step.Step.TheVariants as S
use Rattle.tac_ir.specs.declared.step.Target.{Target}
use Rattle.tac_ir.specs.declared.step.Target.TheVariants as To
use Rattle.lower_tac.specs.Parts.{Steps, Part, temp, or_temp, operand, unless_any, code_of, tested_if, held, fixed, settled, settled_operand, left_code}
use Rattle.lower_tac.specs.Parts.{left_operand, both_code}
use Rattle.tac_ir.specs.Code.{left}
use Rattle.tac_ir.specs.Jumps.{IsInside, target_of}
use Rattle.tac_ir.specs.Kinds.{IsOpenIfAny, IsBlockIfAny, taken_by, block_of}
use Rattle.code_bounds.specs.Prices.{Prices, price_of, price_of_all}
use Rattle.tac_ir.specs.Temporaries.{top, top_of}

abbrev pub Each : {A : Type 0} → (A → Type 0) → List A → Type 0
Each P [] = Unit {0}
Each P (x ∷ all) = P x × Each P all

pub each_all : {A : Type 0} (P : A → Type 0) (all : List A) → Each P all → All P all
each_all P [] e k d h = absurd (let r : k < 0 = h in omega (arith, r))
each_all P (x ∷ all) e zero d h = e.0
each_all P (x ∷ all) e (suc k) d h = each_all P all e.1 k d (omega (arith, h))

past : {A : Type 0} (all : List A) (d : ℕ) → length all ≤ d → slice_get all d ≡ None
past [] d h = refl
past (x ∷ all) zero h = absurd (let r : suc (length all) ≤ 0 = h in omega (arith, r))
past (x ∷ all) (suc d) h = past all d (omega (arith, h))

-- ---- a step before so many with so many labels

abbrev pub Leads : (n l : ℕ) → Target → Type 0
Leads n l (To.Left k) = IsInside n k
Leads n l (To.Label i) = i < l

abbrev pub LeadsIfAny : (n l : ℕ) → Option Target → Type 0
LeadsIfAny n l None = Unit {0}
LeadsIfAny n l (Some to) = Leads n l to

pub leads_later : {n m l k : ℕ} (to : Target) → n ≤ m → l ≤ k → Leads n l to → Leads m k to
leads_later (To.Left i) h g x = (x.0, omega (arith, h, x.1))
leads_later (To.Label i) h g x = omega (arith, g, x)

pub leads_any_later : {n m l k : ℕ} (to : Option Target) → n ≤ m → l ≤ k → LeadsIfAny n l to → LeadsIfAny m k to
leads_any_later None h g x = tt
leads_any_later (Some to) h g x = leads_later to h g x

-- what is left is what was left before a step came in front
left_behind : (s : Step) (code : Steps) (k : ℕ) → k ≤ length code → left k (s ∷ code) ≡ left k code
left_behind s code k h = ap (λ n. drop n (s ∷ code)) (let e : suc (length code) - k ≡ suc (length code - k) = omega (arith, h) in e)

module _ (c : Prices) (most : ℕ) (kinds : List Bool) (sizes : List ℕ) where
  -- a temporary that may be written
  abbrev pub Open : ℕ → Type 0
  Open t = slice_get kinds t ≢ Some true

  pub free_open : (d : ℕ) → length kinds ≤ d → Open d
  free_open d h = by_none (slice_get kinds d) (past kinds d h)
    where
      by_none : (o : Option Bool) → o ≡ None → o ≢ Some true
      by_none None e = λ (q : None ≡ Some true). cc
      by_none (Some b) e = cc

  -- a block begins with the size of its local
  abbrev pub Blocks : Step → Type 0
  Blocks (S.Begin x size) = (slice_get kinds x ≡ Some true) × (slice_get sizes x ≡ Some size)
  Blocks s = IsBlockIfAny kinds (block_of s)

  abbrev pub Keeps : Step → Type 0
  Keeps s = IsOpenIfAny kinds (taken_by s) × Blocks s

  abbrev pub Fits : (n l : ℕ) → Step → Type 0
  Fits n l s = LeadsIfAny n l (target_of s) × (top_of s ≤ most) × Keeps s

  -- each before those behind it
  abbrev pub AllFit : (l : ℕ) → Steps → Type 0
  AllFit l [] = Unit {0}
  AllFit l (s ∷ code) = Fits (length code) l s × AllFit l code

  pub fit_later : {l k : ℕ} (code : Steps) → l ≤ k → AllFit l code → AllFit k code
  fit_later [] g x = tt
  fit_later (s ∷ code) g x = ((leads_any_later {n = length code} {m = length code} (target_of s) (omega arith) g x.0.0, x.0.1, x.0.2), fit_later code g x.1)

  module _ (labels : ℕ) where
    -- so much is paid for it, and so much is left
    pub record Grows (rest paid : ℕ) (code whole : Steps) : Type 0 where
      pub longer : length code ≤ length whole
      pub dearer : price_of_all c code ≤ price_of_all c whole
      pub cost : price_of_all c whole + rest ≤ paid + price_of_all c code
      pub ends : (k : ℕ) → k ≤ length code → left k whole ≡ left k code
      pub sound : AllFit labels code → AllFit labels whole

    pub same : {code : Steps} → Grows 0 0 code code
    same = record { longer = omega arith; dearer = omega arith; cost = omega arith; ends = λ k h. refl; sound = λ a. a }

    pub one : (s : Step) (code : Steps) → LeadsIfAny (length code) labels (target_of s) → top_of s ≤ most → Keeps s
        → Grows 0 (price_of c s) code (s ∷ code)
    one s code to h keeps = record {
      longer = omega arith;
      dearer = omega arith;
      cost = omega arith;
      ends = λ k low. left_behind s code k low;
      sound = λ a. ((to, h, keeps), a);
    }

    pub next : {r q v w : ℕ} {code middle whole : Steps} → Grows r v code middle → Grows q w middle whole → Grows (r + q) (v + w) code whole
    next a b = record {
      longer = (let x = a.longer in let y = b.longer in omega (arith, x, y));
      dearer = (let x = a.dearer in let y = b.dearer in omega (arith, x, y));
      cost = (let x = a.cost in let y = b.cost in omega (arith, x, y));
      ends = λ k h. b.ends k (let x = a.longer in omega (arith, h, x)) ∙ a.ends k h;
      sound = λ z. b.sound (a.sound z);
    }

    pub pay : {r v q w : ℕ} {code whole : Steps} → q + v ≤ r + w → Grows r v code whole → Grows q w code whole
    pay h a = record { longer = a.longer; dearer = a.dearer; cost = (let x = a.cost in omega (arith, x, h)); ends = a.ends; sound = a.sound }

    -- ---- operands

    -- a part for which so much is paid, and which takes so many temporaries
    pub record Paid (x : Part) (paid temporaries : ℕ) : Type 0 where
      pub made : (d : ℕ) (code : Steps) → 0 < length code → length kinds ≤ d → d < most → d + temporaries ≤ most → Grows c.step paid code (x.made d code)
      pub atom : (a : Operand) → x.atom ≡ Some a → top a ≤ most

    unless_grows : {r w : ℕ} {code : Steps} (o : Option Operand) (make : Steps → Steps) → Grows r w code (make code) → Grows r w code (unless_any o make code)
    unless_grows None make a = a
    unless_grows (Some o) make a = record {
      longer = omega arith;
      dearer = omega arith;
      cost = (let x = a.cost in let y = a.dearer in omega (arith, x, y));
      ends = λ k h. refl;
      sound = λ z. z;
    }

    or_temp_below : (o : Option Operand) (at : Place) (d : ℕ) → d < most → ((a : Operand) → o ≡ Some a → top a ≤ most) → top (or_temp o at d) ≤ most
    or_temp_below None at d h below = omega (arith, h)
    or_temp_below (Some a) at d h below = below a refl

    pub operand_below : {x : Part} {w f : ℕ} → Paid x w f → (d : ℕ) → d < most → top (operand x d) ≤ most
    operand_below {x} p d h = or_temp_below x.atom x.at d h p.atom

    fixed_below : (o : Option Operand) → ((a : Operand) → o ≡ Some a → top a ≤ most) → (a : Operand) → fixed o ≡ Some a → top a ≤ most
    fixed_below None below a e = cc
    fixed_below (Some (O.Temp kind t at)) below a e = cc
    fixed_below (Some (O.Word v)) below a e = below a e
    fixed_below (Some O.Null) below a e = below a e
    fixed_below (Some (O.Function f)) below a e = below a e
    fixed_below (Some (O.Object n)) below a e = below a e

    pub settled_below : {x : Part} {w f : ℕ} → Paid x w f → (d : ℕ) → d < most → top (settled_operand x d) ≤ most
    settled_below {x} p d h = or_temp_below (fixed x.atom) x.at d h (fixed_below x.atom p.atom)

    pub code_grows : {x : Part} {w f : ℕ} → Paid x w f → (d : ℕ) (code : Steps) → 0 < length code → length kinds ≤ d → d < most → d + f ≤ most
        → Grows c.step w code (code_of x d code)
    code_grows {x} p d code k u h g = unless_grows x.atom (x.made d) (p.made d code k u h g)

    pub tested_grows : (b : Bool) (at : Place) (t : ℕ) (code : Steps) → t < most → Open t → Grows 0 c.step code (tested_if b at t code)
    tested_grows true at t code h o = one (S.Set t (temp at t)) code tt (omega (arith, h)) (o, tt)
    tested_grows false at t code h o = pay (omega arith) same

    pub held_grows : {x : Part} {w f : ℕ} → Paid x w f → (d : ℕ) (code : Steps) → 0 < length code → length kinds ≤ d → d < most → d + f ≤ most
        → Grows 0 w code (held x d code)
    held_grows {x} p d code k u h g =
        let t = tested_grows x.lacks x.at d code h (free_open d u) in
        let l = t.longer in pay (omega arith) (next t (p.made d (tested_if x.lacks x.at d code) (omega (arith, k, l)) u h g))

    pub settled_grows : {x : Part} {w f : ℕ} → Paid x w f → (d : ℕ) (code : Steps) → 0 < length code → length kinds ≤ d → d < most → d + f ≤ most
        → Grows 0 w code (settled x d code)
    settled_grows {x} p d code k u h g = unless_grows (fixed x.atom) (held x d) (held_grows p d code k u h g)

    left_grows : {x : Part} {w f : ℕ} → Paid x w f → (o : Option Operand) (d : ℕ) (code : Steps) → 0 < length code → length kinds ≤ d → d < most → d + f ≤ most
        → Grows 0 w code (left_code o x d code)
    left_grows p None d code k u h g = settled_grows p d code k u h g
    left_grows p (Some b) d code k u h g = pay (omega arith) (code_grows p d code k u h g)

    left_below : {x : Part} {w f : ℕ} → Paid x w f → (o : Option Operand) (d : ℕ) → d < most → top (left_operand o x d) ≤ most
    left_below p None d h = settled_below p d h
    left_below p (Some b) d h = operand_below p d h

    -- two operands and the step that reads them
    pub both_grows : {x y : Part} {w f v g r u : ℕ} {code : Steps} → Paid x w f → Paid y v g → (d : ℕ) (steps : Operand → Operand → Steps)
        → ((a b : Operand) → top a ≤ most → top b ≤ most → Grows r u code (steps a b))
        → 0 < length code → length kinds ≤ d → suc d < most → d + f ≤ most → suc d + g ≤ most → Grows (r + c.step) (u + w + v) code (both_code x y d steps)
    both_grows {x} {y} {w} {f} {v} {g} {r} {u} {code} p q d steps last k low_kinds h l i =
        let a = left_operand y.atom x d in
        let b = operand y (suc d) in
        let low : d < most = omega (arith, h) in
        let s = last a b (left_below p y.atom d low) (operand_below q (suc d) h) in
        let e = s.longer in
        let right = code_grows q (suc d) (steps a b) (omega (arith, k, e)) (omega (arith, low_kinds)) h i in
        let z = right.longer in
        pay (omega arith) (next (next s right) (left_grows p y.atom d (code_of y (suc d) (steps a b)) (omega (arith, k, e, z)) low_kinds low l))
