-- What holds of the source and of the code at the same moment, and what each of them does to it.
use Rattle.std.proofs.Common.{◌≡◌, ℕ, zero, suc, ◌<◌, ◌≤◌, ◌≢◌, ◌⊎◌, inl, inr, Bool, true, false, List, [], ◌∷◌, Option, Some, None, refl, sym, ap, ◌∙◌, subst, arith, length, slice_get, slice_set}
use Rattle.std.proofs.lemmas.Bool.{true≢false}
use Rattle.lay_base.specs.declared.faults.UndefinedKind.{UndefinedKind}
use Rattle.lay_base.specs.declared.place.Place.{Place}
use Rattle.c_typed.specs.declared.program.Local.{Local}
use Rattle.memory_words.specs.declared.cell_words.pointer.Ptr.TheVariants as P
use Rattle.block_memory.specs.Lifetimes.{with_end}
use Rattle.block_memory.specs.RunWorlds.Doing.{Rest}
use Rattle.block_memory.specs.RunWorlds.Worlds.{World}
use Rattle.block_memory.specs.declared.run_worlds.value.Value.{Value}
use Rattle.block_memory.specs.declared.run_worlds.value.Value.TheVariants.{Pointer as pointer}
use Rattle.c_meaning.specs.Frames.{Frame, end_of, end_all}
use Rattle.c_meaning.specs.declared.frame.Slot.{Slot}
use Rattle.c_meaning.specs.declared.frame.Slot.TheVariants.{ByName as by_name, InBlock as in_block}
use Rattle.tac_ir.specs.declared.step.Operand.{Operand}
use Rattle.tac_ir.specs.declared.step.Operand.TheVariants as O
use Rattle.tac_ir.specs.Running.{with_temp, held, read}

-- ---- temporaries

pub temp_same : (t : ℕ) (s : Slot) (f : Frame) → slice_get (with_temp t s f) t ≡ Some s
temp_same zero s [] = refl
temp_same zero s (o ∷ f) = refl
temp_same (suc t) s [] = temp_same t s []
temp_same (suc t) s (o ∷ f) = temp_same t s f

pub temp_stays : (t u : ℕ) (s o : Slot) (f : Frame) → u ≢ t → slice_get f u ≡ Some o → slice_get (with_temp t s f) u ≡ Some o
temp_stays t u s o [] n e = cc
temp_stays zero zero s o (x ∷ f) n e = absurd (n refl)
temp_stays zero (suc u) s o (x ∷ f) n e = e
temp_stays (suc t) zero s o (x ∷ f) n e = e
temp_stays (suc t) (suc u) s o (x ∷ f) n e = temp_stays t u s o f (λ q. n (ap suc q)) e

-- no temporary is a block
pub temp_block : (t : ℕ) (v : Option Value) (x b : ℕ) (f : Frame) → slice_get (with_temp t (by_name v) f) x ≡ Some (in_block (Some b)) → slice_get f x ≡ Some (in_block (Some b))
temp_block zero v zero b [] e = cc
temp_block zero v (suc x) b [] e = cc
temp_block (suc t) v zero b [] e = cc
temp_block (suc t) v (suc x) b [] e = temp_block t v x b [] e
temp_block zero v zero b (o ∷ f) e = cc
temp_block zero v (suc x) b (o ∷ f) e = e
temp_block (suc t) v zero b (o ∷ f) e = e
temp_block (suc t) v (suc x) b (o ∷ f) e = temp_block t v x b f e

pub equal_or_not : (a b : ℕ) → (a ≡ b) ⊎ (a ≢ b)
equal_or_not zero zero = inl refl
equal_or_not zero (suc b) = inr (λ (q : zero ≡ suc b). cc)
equal_or_not (suc a) zero = inr (λ (q : suc a ≡ zero). cc)
equal_or_not (suc a) (suc b) = by_one (equal_or_not a b)
  where
    by_one : (a ≡ b) ⊎ (a ≢ b) → (suc a ≡ suc b) ⊎ (suc a ≢ suc b)
    by_one (inl e) = inl (ap suc e)
    by_one (inr n) = inr (λ (q : suc a ≡ suc b). n (omega (arith, q)))

-- ---- slots

pub set_is : (f : Frame) (x : ℕ) (s o : Slot) → slice_get (slice_set f x s) x ≡ Some o → s ≡ o
set_is [] x s o e = cc
set_is (y ∷ f) zero s o e = cc
set_is (y ∷ f) (suc x) s o e = set_is f x s o e

pub set_other : (f : Frame) (x y : ℕ) (s : Slot) → y ≢ x → slice_get (slice_set f x s) y ≡ slice_get f y
set_other [] x y s n = refl
set_other (z ∷ f) zero zero s n = absurd (n refl)
set_other (z ∷ f) zero (suc y) s n = refl
set_other (z ∷ f) (suc x) zero s n = refl
set_other (z ∷ f) (suc x) (suc y) s n = set_other f x y s (λ q. n (ap suc q))

pub set_length : (f : Frame) (x : ℕ) (s : Slot) → length (slice_set f x s) ≡ length f
set_length [] x s = refl
set_length (z ∷ f) zero s = refl
set_length (z ∷ f) (suc x) s = ap suc (set_length f x s)

pub set_here : (f : Frame) (x : ℕ) (s o : Slot) → slice_get f x ≡ Some o → slice_get (slice_set f x s) x ≡ Some s
set_here [] x s o e = cc
set_here (z ∷ f) zero s o e = refl
set_here (z ∷ f) (suc x) s o e = set_here f x s o e

pub none_there : {A B : Type 0} (f : List A) (all : List B) (x : ℕ) → length f ≡ length all → slice_get all x ≡ None → slice_get f x ≡ None
none_there [] all x e n = refl
none_there (s ∷ f) [] x e n = cc
none_there (s ∷ f) (l ∷ all) zero e n = cc
none_there (s ∷ f) (l ∷ all) (suc x) e n = none_there f all x (let h : suc (length f) ≡ suc (length all) = e in omega arith) n

pub within : {A : Type 0} (all : List A) (x : ℕ) (l : A) → slice_get all x ≡ Some l → x < length all
within [] x l e = cc
within (o ∷ all) zero l e = omega arith
within (o ∷ all) (suc x) l e = let h : x < length all = within all x l e in omega arith

-- ---- a local is kept by its name or in a block, as it is declared

abbrev pub IsKind : (block : Bool) → Option Slot → Type 0
IsKind block None = ⊥
IsKind true (Some (by_name v)) = ⊥
IsKind true (Some (in_block b)) = Unit {0}
IsKind false (Some (by_name v)) = Unit {0}
IsKind false (Some (in_block b)) = ⊥

module _ (locals : List Local) where
  pub record Standing (b : ℕ) (f own : Frame) (w : World) : Type 0 where
    pub slots : (x : ℕ) (s : Slot) → slice_get f x ≡ Some s → slice_get own x ≡ Some s
    pub size : length f ≡ length locals
    pub kinds : (x : ℕ) (l : Local) → slice_get locals x ≡ Some l → IsKind l.block (slice_get f x)
    pub turns : w.turns ≤ b
    -- a block is that of a local
    pub blocks : (x z : ℕ) → slice_get own x ≡ Some (in_block (Some z)) → x < length locals

  -- what no expression changes: the temporaries below d, and the blocks of locals
  pub record IsBlock (x : ℕ) : Type 0 where
    pub local : Local
    pub is : slice_get locals x ≡ Some local
    pub block : local.block ≡ true

  pub record IsNamed (x : ℕ) : Type 0 where
    pub local : Local
    pub is : slice_get locals x ≡ Some local
    pub named : local.block ≡ false

  abbrev pub Stays : (d t : ℕ) → Type 0
  Stays d t = ((length locals ≤ t) × (t < d)) ⊎ IsBlock t

  -- ... which are as they were in the frame `old`
  pub record Joined (b d : ℕ) (old f own : Frame) (w : World) : Type 0 where
    pub now : Standing b f own w
    pub above : length locals ≤ d
    pub kept : (t : ℕ) → Stays d t → (s : Slot) → slice_get old t ≡ Some s → slice_get own t ≡ Some s

  block_below : (x : ℕ) → IsBlock x → x < length locals
  block_below x i = within locals x i.local i.is

  pub named_below : (x : ℕ) → IsNamed x → x < length locals
  named_below x i = within locals x i.local i.is

  slot_below : {b : ℕ} {f own : Frame} {w : World} → Standing b f own w → (x : ℕ) (s : Slot) → slice_get f x ≡ Some s → x < length locals
  slot_below {f = f} j x s e = let h : x < length f = within f x s e in let q : length f ≡ length locals = j.size in omega (arith, h, q)

  -- ---- a temporary from d on is written

  pub standing_scratch : {b : ℕ} {f own : Frame} {w : World} (t : ℕ) (v : Option Value) → Standing b f own w → length locals ≤ t
      → Standing b f (with_temp t (by_name v) own) w
  standing_scratch {own = own} t v j h = record {
    slots = λ x s e. let l = slot_below j x s e in temp_stays t x (by_name v) s own (λ (q : x ≡ t). omega (arith, q, l, h)) (j.slots x s e);
    size = j.size;
    kinds = j.kinds;
    turns = j.turns;
    blocks = λ x z e. j.blocks x z (temp_block t v x z own e);
  }

  pub scratch : {b d : ℕ} {old f own : Frame} {w : World} (t : ℕ) (v : Option Value) → Joined b d old f own w → d ≤ t
      → Joined b d old f (with_temp t (by_name v) own) w
  scratch {d = d} {old = old} {own = own} t v j h = record {
    now = standing_scratch t v j.now (let a : length locals ≤ d = j.above in omega (arith, a, h));
    above = j.above;
    kept = λ u i s e. temp_stays t u (by_name v) s own (apart u i) (j.kept u i s e);
  }
    where
      apart : (u : ℕ) → Stays d u → u ≢ t
      apart u (inl i) = let l : u < d = i.1 in λ (q : u ≡ t). omega (arith, q, l, h)
      apart u (inr i) = let l = block_below u i in let a : length locals ≤ d = j.above in λ (q : u ≡ t). omega (arith, q, l, h, a)

  -- ---- a named local takes a value, or none, on both sides

  named_kind : (f : Frame) (x : ℕ) (v : Option Value) (y : ℕ) (l : Local) → IsNamed x
      → ((y : ℕ) (l : Local) → slice_get locals y ≡ Some l → IsKind l.block (slice_get f y))
      → slice_get locals y ≡ Some l → IsKind l.block (slice_get (slice_set f x (by_name v)) y)
  named_kind f x v y l i kinds e = by_both x y f l.block (λ (q : x ≡ y). not_block q) (kinds y l e)
    where
      some_same : {A : Type 0} {a c : A} → Some a ≡ Some c → a ≡ c
      some_same e = cc

      not_block : x ≡ y → l.block ≡ false
      not_block q = ap (λ (l : Local). l.block) (some_same (sym e ∙ sym (ap (slice_get locals) q) ∙ i.is)) ∙ i.named

      by_both : (a c : ℕ) (f : Frame) (block : Bool) → (a ≡ c → block ≡ false) → IsKind block (slice_get f c) → IsKind block (slice_get (slice_set f a (by_name v)) c)
      by_both a c [] block same h = h
      by_both zero zero (s ∷ f) true same h = absurd (true≢false (same refl))
      by_both zero zero (s ∷ f) false same h = tt
      by_both zero (suc c) (s ∷ f) block same h = h
      by_both (suc a) zero (s ∷ f) block same h = h
      by_both (suc a) (suc c) (s ∷ f) block same h = by_both a c f block (λ q. same (ap suc q)) h

  pub standing_named : {b : ℕ} {f own : Frame} {w : World} (x : ℕ) (v : Option Value) → IsNamed x → Standing b f own w
      → Standing b (slice_set f x (by_name v)) (with_temp x (by_name v) own) w
  standing_named {f = f} {own = own} x v i j = record {
    slots = λ y s e. by_equal y s e (equal_or_not y x);
    size = set_length f x (by_name v) ∙ j.size;
    kinds = λ y l e. named_kind f x v y l i j.kinds e;
    turns = j.turns;
    blocks = λ y z e. j.blocks y z (temp_block x v y z own e);
  }
    where
      by_equal : (y : ℕ) (s : Slot) → slice_get (slice_set f x (by_name v)) y ≡ Some s → ((y ≡ x) ⊎ (y ≢ x)) → slice_get (with_temp x (by_name v) own) y ≡ Some s
      by_equal y s e (inl q) =
          subst (λ z. slice_get (with_temp x (by_name v) own) z ≡ Some s) (sym q)
          (temp_same x (by_name v) own ∙ ap Some (set_is f x (by_name v) s (sym (ap (slice_get (slice_set f x (by_name v))) q) ∙ e)))
      by_equal y s e (inr n) = temp_stays x y (by_name v) s own n (j.slots y s (sym (set_other f x y (by_name v) n) ∙ e))

  pub named : {b d : ℕ} {old f own : Frame} {w : World} (x : ℕ) (v : Option Value) → IsNamed x → Joined b d old f own w
      → Joined b d old (slice_set f x (by_name v)) (with_temp x (by_name v) own) w
  named {d = d} {old = old} {own = own} x v i j = record {
    now = standing_named x v i j.now;
    above = j.above;
    kept = λ u k s e. temp_stays x u (by_name v) s own (apart u k) (j.kept u k s e);
  }
    where
      some_same : {A : Type 0} {a c : A} → Some a ≡ Some c → a ≡ c
      some_same e = cc

      apart : (u : ℕ) → Stays d u → u ≢ x
      apart u (inl k) = let l : length locals ≤ u = k.0 in let m = named_below x i in λ (q : u ≡ x). omega (arith, q, l, m)
      apart u (inr k) = λ (q : u ≡ x). true≢false (sym k.block ∙ ap (λ (l : Local). l.block) (some_same (sym k.is ∙ ap (slice_get locals) q ∙ i.is)) ∙ i.named)

  -- ---- later

  pub standing_later : {b : ℕ} {f own : Frame} {w : World} (u : World) → u.turns ≤ w.turns → Standing b f own w → Standing b f own u
  standing_later {b = b} {w = w} u h j =
      record { slots = j.slots; size = j.size; kinds = j.kinds; turns = (let t : w.turns ≤ b = j.turns in omega (arith, t, h)); blocks = j.blocks }

  pub later : {b d : ℕ} {old f own : Frame} {w : World} (u : World) → u.turns ≤ w.turns → Joined b d old f own w → Joined b d old f own u
  later u h j = record { now = standing_later u h j.now; above = j.above; kept = j.kept }

  -- code for later temporaries begins, and is done
  pub deeper : {b d : ℕ} {old f own : Frame} {w : World} (t : ℕ) → d ≤ t → Joined b d old f own w → Joined b t own f own w
  deeper {d = d} t h j = record { now = j.now; above = (let a : length locals ≤ d = j.above in omega (arith, a, h)); kept = λ u k s e. e }

  pub done : {b d t : ℕ} {old f own g new : Frame} {w u : World} → d ≤ t → Joined b d old f own w → Joined b t own g new u → Joined b d old g new u
  done {d = d} {t = t} h j z = record { now = z.now; above = j.above; kept = λ x k s e. z.kept x (stays x k) s (j.kept x k s e) }
    where
      stays : (x : ℕ) → Stays d x → Stays t x
      stays x (inl k) = let l : x < d = k.1 in inl (k.0, omega (arith, l, h))
      stays x (inr k) = inr k

-- ---- operands

pub record Reads (own : Frame) (a : Operand) (v : Value) : Type 0 where
  pub is : (rest : Rest Frame Value) (w : World) → read a rest own w ≡ rest v own w

pub reads_temp : {own : Frame} (t : ℕ) (kind : UndefinedKind) (at : Place) (v : Value) → slice_get own t ≡ Some (by_name (Some v)) → Reads own (O.Temp kind t at) v
reads_temp {own} t kind at v e = record { is = λ rest w. ap (λ s. held kind at s rest own w) e }

pub reads_block : {own : Frame} (t : ℕ) (kind : UndefinedKind) (at : Place) (b : ℕ) → slice_get own t ≡ Some (in_block (Some b))
    → Reads own (O.Temp kind t at) (pointer (P.Block b 0))
reads_block {own} t kind at b e = record { is = λ rest w. ap (λ s. held kind at s rest own w) e }

-- ---- a slot that is there is set as a temporary is

pub with_temp_is_set : (x : ℕ) (s o : Slot) (f : Frame) → slice_get f x ≡ Some o → with_temp x s f ≡ slice_set f x s
with_temp_is_set x s o [] e = cc
with_temp_is_set zero s o (y ∷ f) e = refl
with_temp_is_set (suc x) s o (y ∷ f) e = ap (λ (r : Frame). y ∷ r) (with_temp_is_set x s o f e)

-- ---- what has begun ends on both sides

pub frames_end : (f own : Frame) → ((x : ℕ) (s : Slot) → slice_get f x ≡ Some s → slice_get own x ≡ Some s)
    → ((x z : ℕ) → slice_get own x ≡ Some (in_block (Some z)) → x < length f)
    → (rest : Rest Frame (Unit {0})) (frame : Frame) (w : World) → end_all own rest frame w ≡ end_all f rest frame w
frames_end [] [] slots blocks rest frame w = refl
frames_end [] (by_name v ∷ own) slots blocks rest frame w = frames_end [] own (λ x s e. cc) (λ x z e. absurd (let h : suc x < 0 = blocks (suc x) z e in omega (arith, h))) rest frame w
frames_end [] (in_block None ∷ own) slots blocks rest frame w = frames_end [] own (λ x s e. cc) (λ x z e. absurd (let h : suc x < 0 = blocks (suc x) z e in omega (arith, h))) rest frame w
frames_end [] (in_block (Some z) ∷ own) slots blocks rest frame w = absurd (let h : 0 < 0 = blocks 0 z refl in omega (arith, h))
frames_end (s ∷ f) [] slots blocks rest frame w = let never : slice_get [] 0 ≡ Some s = slots 0 s refl in cc
frames_end (s ∷ f) (o ∷ own) slots blocks rest frame w =
    let is : o ≡ s = (let e : Some o ≡ Some s = slots 0 s refl in cc) in
    ap (λ (o : Slot). end_of o (λ u. end_all own rest) frame w) is
    ∙ by_slot s (λ frame w. frames_end f own (λ x s e. slots (suc x) s e) (λ x z e. let h : suc x < suc (length f) = blocks (suc x) z e in omega (arith, h)) rest frame w)
  where
    by_slot : (s : Slot) → ((frame : Frame) (w : World) → end_all own rest frame w ≡ end_all f rest frame w)
        → end_of s (λ u. end_all own rest) frame w ≡ end_of s (λ u. end_all f rest) frame w
    by_slot (by_name v) same = same frame w
    by_slot (in_block None) same = same frame w
    by_slot (in_block (Some z)) same = same frame (record w { memory = with_end w.memory z })
