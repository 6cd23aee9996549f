-- Code that does what a part of an expression does.
use Rattle.std.proofs.Common.{◌≡◌, ℕ, suc, ◌+◌, ◌-◌, ◌<◌, ◌≤◌, Bool, true, false, not, List, [], ◌∷◌, ◌++◌, Option, Some, None, inl, refl, sym, ap, ◌∙◌, arith, length, drop, if◌then◌else◌, slice_get}
use Rattle.lay_base.specs.declared.faults.UndefinedKind.TheVariants as K
use Rattle.lay_base.specs.declared.place.Place.{Place}
use Rattle.c_typed.specs.declared.program.Local.{Local}
use Rattle.c_typed.specs.Programs.{ProgramData}
use Rattle.block_memory.specs.RunWorlds.Doing.{Rest, Doing, pure}
use Rattle.block_memory.specs.RunWorlds.Operators.{is_true}
use Rattle.block_memory.specs.RunWorlds.Worlds.{World, End}
use Rattle.memory_words.specs.declared.cell_words.pointer.Ptr.TheVariants as P
use Rattle.block_memory.specs.declared.run_worlds.value.Value.{Value}
use Rattle.block_memory.specs.declared.run_worlds.value.Value.TheVariants.{Word as word, Pointer as pointer}
use Rattle.c_meaning.specs.Expressions.{or_no_value}
use Rattle.c_meaning.specs.Frames.{Frame}
use Rattle.c_meaning.specs.declared.frame.Slot.{Slot}
use Rattle.c_meaning.specs.declared.frame.Slot.TheVariants.{ByName as by_name}
use Rattle.tac_ir.specs.Code.{Code, RoutineData, left, led}
use Rattle.tac_ir.specs.Covering.{Covers}
use Rattle.tac_ir.specs.Running.{Caller, with_temp, held as slot_held, read, go}
use Rattle.tac_ir.specs.declared.step.Operand.{Operand}
use Rattle.tac_ir.specs.declared.step.Operand.TheVariants as O
use Rattle.tac_ir.specs.declared.step.Step.{Step}
use Rattle.tac_ir.specs.declared.step.Target.{Target}
use Rattle.lower_tac.specs.Parts.{Steps, Part, temp, or_temp, operand, unless_any, code_of, tested_if, held, fixed, settled, settled_operand, left_code, left_operand, both_code}
use Rattle.lower_tac.proofs.Blind.{stays, back, same_run}
use Rattle.lower_tac.proofs.Base.{Joined, Reads, reads_temp, temp_same, scratch, deeper, done}

-- ---- code that ends with other code

pub record Ends (code whole : Steps) : Type 0 where
  pub front : Steps
  pub is : whole ≡ front ++ code

pub ends_same : {code : Steps} → Ends code code
ends_same = record { front = []; is = refl }

pub ends_more : {code whole : Steps} (s : Step) → Ends code whole → Ends code (s ∷ whole)
ends_more s e = record { front = s ∷ e.front; is = ap (λ all. s ∷ all) e.is }

one_moved : (front code : Steps) (s : Step) → front ++ s ∷ code ≡ (front ++ s ∷ []) ++ code
one_moved [] code s = refl
one_moved (t ∷ front) code s = ap (λ all. t ∷ all) (one_moved front code s)

pub ends_behind : {code whole : Steps} {s : Step} → Ends (s ∷ code) whole → Ends code whole
ends_behind {code = code} {s = s} e = record { front = e.front ++ s ∷ []; is = e.is ∙ one_moved e.front code s }

two_fronts : (one other code : Steps) → one ++ (other ++ code) ≡ (one ++ other) ++ code
two_fronts [] other code = refl
two_fronts (s ∷ one) other code = ap (λ all. s ∷ all) (two_fronts one other code)

pub ends_then : {code middle whole : Steps} → Ends code middle → Ends middle whole → Ends code whole
ends_then {code = code} e z = record { front = z.front ++ e.front; is = z.is ∙ ap (λ all. z.front ++ all) e.is ∙ two_fronts z.front e.front code }

drop_front : (front code : Steps) → drop (length (front ++ code) - length code) (front ++ code) ≡ code
drop_front front code = ap (λ k. drop k (front ++ code)) (by_length front) ∙ dropped front
  where
    dropped : (front : Steps) → drop (length front) (front ++ code) ≡ code
    dropped [] = refl
    dropped (s ∷ front) = dropped front

    longer : (front : Steps) → length (front ++ code) ≡ length front + length code
    longer [] = omega arith
    longer (s ∷ front) = let h = longer front in omega (arith, h)

    by_length : (front : Steps) → length (front ++ code) - length code ≡ length front
    by_length front = let h = longer front in omega (arith, h)

-- a jump to where so many steps are left
pub left_there : {code whole : Steps} → Ends code whole → left (length code) whole ≡ code
left_there {code = code} e = ap (left (length code)) e.is ∙ drop_front e.front code

abbrev pub IsSome : Option Value → Type 0
IsSome o = (v : Value) × (o ≡ Some v)

module _ (p : ProgramData) (c : Code) (n : ℕ) (locals : List Local) (cs : List Caller) (g : RoutineData) where
  -- what is done from there in so many steps
  abbrev pub at : (code : Steps) → Frame → World → (steps : ℕ) → End
  at code own w k = go p.types c k cs g code own w

  -- ---- a value, or none, in a temporary: `Is` is what is known of it, and `of` what the source makes of it

  pub record Gives (A : Type 0) (m : Doing Frame A) (of : Option Value → Doing Frame A) (Is : Option Value → Type 0) (make : (to d : ℕ) → Steps → Steps) : Type 0 where
    pub ends : (to d : ℕ) (code : Steps) → Ends code (make to d code)
    pub does : (to d : ℕ) (code : Steps) (rest : Rest Frame A) (b : ℕ) (old f own : Frame) (w : World) → b < n → Joined locals b d old f own w
        → Ends (make to d code) g.code
        → ((o : Option Value) (f own : Frame) (w : World) → Joined locals b d old f own w → Is o
        → Covers (of o rest f w) (at code (with_temp to (by_name o) own) w))
        → Covers (m rest f w) (at (make to d code) own w)

  -- it may lack, or not
  abbrev pub Made : (A : Type 0) → Doing Frame A → (Option Value → Doing Frame A) → (lacks : Bool) → ((to d : ℕ) → Steps → Steps) → Type 0
  Made A m of lacks make = Gives A m of (λ o. lacks ≡ false → IsSome o) make

  abbrev pub Valued : (m : Doing Frame (Option Value)) → (lacks : Bool) → (make : (to d : ℕ) → Steps → Steps) → Type 0
  Valued m lacks make = Made (Option Value) m pure lacks make

  -- ---- what is done, its value being dropped

  pub record Effects (m : Doing Frame (Option Value)) (make : (d : ℕ) → Steps → Steps) : Type 0 where
    pub ends : (d : ℕ) (code : Steps) → Ends code (make d code)
    pub does : (d : ℕ) (code : Steps) (rest : Rest Frame (Option Value)) (b : ℕ) (old f own : Frame) (w : World) → b < n → Joined locals b d old f own w
        → Ends (make d code) g.code
        → ((o : Option Value) (f own : Frame) (w : World) → Joined locals b d old f own w → Covers (rest o f w) (at code own w))
        → Covers (m rest f w) (at (make d code) own w)

  -- ---- a jump where a value is true, or where it is not

  abbrev pub goes : (when t : Bool) → (to code : Steps) → Steps
  goes when t to code = if (if t then when else not when) then to else code

  pub record Branches (m : Doing Frame Value) (make : (when : Bool) → Target → (d : ℕ) → Steps → Steps) : Type 0 where
    pub ends : (when : Bool) (to : Target) (d : ℕ) (code : Steps) → Ends code (make when to d code)
    pub does : (when : Bool) (to : Target) (d : ℕ) (code : Steps) (rest : Rest Frame Bool) (b : ℕ) (old f own : Frame) (w : World) → b < n
        → Joined locals b d old f own w → Ends (make when to d code) g.code
        → ((t : Bool) (f own : Frame) (w : World) → Joined locals b d old f own w → Covers (rest t f w) (at (goes when t (led g to) code) own w))
        → Covers (m (λ v. rest (is_true v)) f w) (at (make when to d code) own w)

  -- ---- a part whose value is used: `of` is what the source makes of the value

  pub record Uses (A : Type 0) (x : Part) (m : Doing Frame A) (of : Value → A) : Type 0 where
    pub ends : (d : ℕ) (code : Steps) → Ends code (x.made d code)
    pub by_atom : (a : Operand) → x.atom ≡ Some a → (rest : Rest Frame A) (later : ℕ → Rest Frame Value) (b d : ℕ) (old f own : Frame) (w : World)
        → Joined locals b d old f own w → ((v : Value) → Reads own a v → Covers (rest (of v) f w) (λ k. later k v own w))
        → Covers (m rest f w) (λ k. read a (later k) own w)
    pub made : (d : ℕ) (code : Steps) (rest : Rest Frame A) (b : ℕ) (old f own : Frame) (w : World) → b < n → Joined locals b d old f own w
        → Ends (x.made d code) g.code
        → ((o : Option Value) (f own : Frame) (w : World) → Joined locals b d old f own w → (x.lacks ≡ false → IsSome o)
        → Covers (or_no_value x.at o (λ v. rest (of v)) f w) (at code (with_temp d (by_name o) own) w))
        → Covers (m rest f w) (at (x.made d code) own w)

  -- ---- what the code of a part ends with

  tested_ends : (b : Bool) (place : Place) (d : ℕ) (code : Steps) → Ends code (tested_if b place d code)
  tested_ends true place d code = ends_more _ ends_same
  tested_ends false place d code = ends_same

  pub held_ends : {A : Type 0} {x : Part} {m : Doing Frame A} {of : Value → A} → Uses A x m of → (d : ℕ) (code : Steps) → Ends code (held x d code)
  held_ends {A} {x} one d code = ends_then (tested_ends x.lacks x.at d code) (one.ends d (tested_if x.lacks x.at d code))

  unless_ends : (o : Option Operand) (make : Steps → Steps) (code : Steps) → Ends code (make code) → Ends code (unless_any o make code)
  unless_ends None make code e = e
  unless_ends (Some a) make code e = ends_same

  pub code_ends : {A : Type 0} {x : Part} {m : Doing Frame A} {of : Value → A} → Uses A x m of → (d : ℕ) (code : Steps) → Ends code (code_of x d code)
  code_ends {A} {x} one d code = unless_ends x.atom (x.made d) code (one.ends d code)

  pub settled_ends : {A : Type 0} {x : Part} {m : Doing Frame A} {of : Value → A} → Uses A x m of → (d : ℕ) (code : Steps) → Ends code (settled x d code)
  settled_ends {A} {x} one d code = unless_ends (fixed x.atom) (held x d) code (held_ends one d code)

  pub both_ends : {A B : Type 0} {x y : Part} {m : Doing Frame A} {o : Doing Frame B} {of : Value → A} {of_other : Value → B} → Uses A x m of → Uses B y o of_other → (d : ℕ) (steps : Operand → Operand → Steps) (code : Steps)
      → ((a e : Operand) → Ends code (steps a e)) → Ends code (both_code x y d steps)
  both_ends {A} {B} {x} {y} one other d steps code e =
      ends_then (e (left_operand y.atom x d) (operand y (suc d)))
      (ends_then (code_ends other (suc d) (steps (left_operand y.atom x d) (operand y (suc d)))) (by_right y.atom (code_of y (suc d) (steps (left_operand y.atom x d) (operand y (suc d))))))
    where
      by_right : (o : Option Operand) (code : Steps) → Ends code (left_code o x d code)
      by_right None code = settled_ends one d code
      by_right (Some a) code = code_ends one d code

  -- ---- an operand, read by the next step

  pub operand_does : {A : Type 0} {x : Part} {m : Doing Frame A} {of : Value → A} → Uses A x m of → (o : Option Operand) → x.atom ≡ o → (d : ℕ) (code : Steps) (rest : Rest Frame A)
      (later : ℕ → Rest Frame Value) (b : ℕ) (old f own : Frame) (w : World) → b < n → Joined locals b d old f own w
      → Ends (unless_any o (x.made d) code) g.code
      → ((f own : Frame) (w : World) → Joined locals b d old f own w → (k : ℕ) → at code own w (suc k) ≡ read (or_temp o x.at d) (later k) own w)
      → ((v : Value) (f own : Frame) (w : World) → Joined locals b d old f own w → Reads own (or_temp o x.at d) v → Covers (rest (of v) f w) (λ k. later k v own w))
      → Covers (m rest f w) (at (unless_any o (x.made d) code) own w)
  operand_does {A} {x} {m} {of} one (Some a) is d code rest later b old f own w lt j e first next =
      back (λ k. first f own w j k) (one.by_atom a is rest later b d old f own w j (λ v r. next v f own w j r))
  operand_does {A} {x} {m} {of} one None is d code rest later b old f own w lt j e first next =
      one.made d code rest b old f own w lt j e (λ o f own w j some. with_value o f own w j)
    where
      with_value : (o : Option Value) (f own : Frame) (w : World) → Joined locals b d old f own w
          → Covers (or_no_value x.at o (λ v. rest (of v)) f w) (at code (with_temp d (by_name o) own) w)
      with_value None f own w j =
          let new = with_temp d (by_name None) own in
          back (λ k. first f new w (scratch locals d None j (omega arith)) k
          ∙ ap (λ s. slot_held K.NoValue x.at s (later k) new w) (temp_same d (by_name None) own)) stays
      with_value (Some v) f own w j =
          let new = with_temp d (by_name (Some v)) own in
          let r : Reads new (temp x.at d) v = reads_temp d K.NoValue x.at v (temp_same d (by_name (Some v)) own) in
          let z = scratch locals d (Some v) j (omega arith) in
          back (λ k. first f new w z k ∙ r.is (later k) w) (next v f new w z r)

  pub code_does : {A : Type 0} {x : Part} {m : Doing Frame A} {of : Value → A} → Uses A x m of → (d : ℕ) (code : Steps) (rest : Rest Frame A) (later : ℕ → Rest Frame Value)
      (b : ℕ) (old f own : Frame) (w : World) → b < n → Joined locals b d old f own w → Ends (code_of x d code) g.code
      → ((f own : Frame) (w : World) → Joined locals b d old f own w → (k : ℕ) → at code own w (suc k) ≡ read (operand x d) (later k) own w)
      → ((v : Value) (f own : Frame) (w : World) → Joined locals b d old f own w → Reads own (operand x d) v → Covers (rest (of v) f w) (λ k. later k v own w))
      → Covers (m rest f w) (at (code_of x d code) own w)
  code_does {A} {x} {m} {of} one d code rest later b old f own w lt j e first next = operand_does one x.atom refl d code rest later b old f own w lt j e first next

  -- ---- a value that is held

  pub held_does : {A : Type 0} {x : Part} {m : Doing Frame A} {of : Value → A} → Uses A x m of → (d : ℕ) (code : Steps) (rest : Rest Frame A)
      (b : ℕ) (old f own : Frame) (w : World) → b < n → Joined locals b d old f own w → Ends (held x d code) g.code
      → ((v : Value) (f own : Frame) (w : World) → Joined locals b d old f own w → slice_get own d ≡ Some (by_name (Some v)) → Covers (rest (of v) f w) (at code own w))
      → Covers (m rest f w) (at (held x d code) own w)
  held_does {A} {x} {m} {of} one d code rest b old f own w lt j e next =
      one.made d (tested_if x.lacks x.at d code) rest b old f own w lt j e (λ o f own w j some. by_value x.lacks o some f own w j)
    where
      there : (v : Value) (f own : Frame) (w : World) → Joined locals b d old f own w → Covers (rest (of v) f w) (at code (with_temp d (by_name (Some v)) own) w)
      there v f own w j = next v f (with_temp d (by_name (Some v)) own) w (scratch locals d (Some v) j (omega arith)) (temp_same d (by_name (Some v)) own)

      kept : (k : ℕ) → Rest Frame Value
      kept k = λ v own w. at code (with_temp d (by_name (Some v)) own) w k

      by_value : (lacks : Bool) (o : Option Value) → (lacks ≡ false → IsSome o) → (f own : Frame) (w : World) → Joined locals b d old f own w
          → Covers (or_no_value x.at o (λ v. rest (of v)) f w) (at (tested_if lacks x.at d code) (with_temp d (by_name o) own) w)
      by_value true None some f own w j =
          back (λ k. ap (λ s. slot_held K.NoValue x.at s (kept k) (with_temp d (by_name None) own) w) (temp_same d (by_name None) own)) stays
      by_value true (Some v) some f own w j =
          let new = with_temp d (by_name (Some v)) own in
          let r : Reads new (temp x.at d) v = reads_temp d K.NoValue x.at v (temp_same d (by_name (Some v)) own) in
          back (λ k. r.is (kept k) w) (there v f new w (scratch locals d (Some v) j (omega arith)))
      by_value false None some f own w j = let z = some refl in cc
      by_value false (Some v) some f own w j = there v f own w j

  -- ---- a value that later code leaves as it is

  pub record Settled (own : Frame) (d : ℕ) (a : Operand) (v : Value) : Type 0 where
    pub reads : (new : Frame) → ((s : Slot) → slice_get own d ≡ Some s → slice_get new d ≡ Some s) → Reads new a v

  pub settled_does : {A : Type 0} {x : Part} {m : Doing Frame A} {of : Value → A} → Uses A x m of → (d : ℕ) (code : Steps) (rest : Rest Frame A)
      (b : ℕ) (old f own : Frame) (w : World) → b < n → Joined locals b d old f own w → Ends (settled x d code) g.code
      → ((v : Value) (f own : Frame) (w : World) → Joined locals b d old f own w → Settled own d (settled_operand x d) v → Covers (rest (of v) f w) (at code own w))
      → Covers (m rest f w) (at (settled x d code) own w)
  settled_does {A} {x} {m} {of} one d code rest b old f own w lt j e next = by_atom x.atom refl e next
    where
      as_held : Ends (held x d code) g.code
          → ((v : Value) (f own : Frame) (w : World) → Joined locals b d old f own w → Settled own d (temp x.at d) v → Covers (rest (of v) f w) (at code own w))
          → Covers (m rest f w) (at (held x d code) own w)
      as_held e next = held_does one d code rest b old f own w lt j e
          (λ v f own w j h. next v f own w j (record { reads = λ new keeps. reads_temp d K.NoValue x.at v (keeps (by_name (Some v)) h) }))

      as_fixed : (a : Operand) (x : Value) → ((own : Frame) → Reads own a x) → ((v : Value) → Reads own a v → Settled own d a v)
      as_fixed a x reads v r = record {
        reads = λ new keeps. record {
          is = λ rest w.
              (reads new).is rest w ∙ sym ((reads own).is (λ z o u. rest z new u) w) ∙ r.is (λ z o u. rest z new u) w;
        };
      }

      with_fixed : (a : Operand) (y : Value) → ((own : Frame) → Reads own a y) → x.atom ≡ Some a
          → ((v : Value) (f own : Frame) (w : World) → Joined locals b d old f own w → Settled own d a v → Covers (rest (of v) f w) (at code own w))
          → Covers (m rest f w) (at code own w)
      with_fixed a y reads is next =
          same_run (λ k. sym ((reads own).is (λ v own w. at code own w k) w))
          (one.by_atom a is rest (λ k v own w. at code own w k) b d old f own w j (λ v r. next v f own w j (as_fixed a y reads v r)))

      by_atom : (o : Option Operand) → x.atom ≡ o → Ends (unless_any (fixed o) (held x d) code) g.code
          → ((v : Value) (f own : Frame) (w : World) → Joined locals b d old f own w → Settled own d (or_temp (fixed o) x.at d) v → Covers (rest (of v) f w) (at code own w))
          → Covers (m rest f w) (at (unless_any (fixed o) (held x d) code) own w)
      by_atom None is e next = as_held e next
      by_atom (Some (O.Temp kind t place)) is e next = as_held e next
      by_atom (Some (O.Word v)) is e next = with_fixed (O.Word v) (word v) (λ own. record { is = λ rest w. refl }) is next
      by_atom (Some O.Null) is e next = with_fixed O.Null (pointer P.Null) (λ own. record { is = λ rest w. refl }) is next
      by_atom (Some (O.Function h)) is e next = with_fixed (O.Function h) (pointer (P.Function h)) (λ own. record { is = λ rest w. refl }) is next
      by_atom (Some (O.Object h)) is e next = with_fixed (O.Object h) (pointer (P.Block h 0)) (λ own. record { is = λ rest w. refl }) is next

  -- ---- two operands, read by the next step

  pub both_does : {A B : Type 0} {x y : Part} {m : Doing Frame A} {o : Doing Frame B} {of : Value → A} {of_other : Value → B} → Uses A x m of → Uses B y o of_other → (d : ℕ) (steps : Operand → Operand → Steps) (code : Steps)
      (rest : A → Rest Frame B) (later : ℕ → Value → Rest Frame Value) (b : ℕ) (old f own : Frame) (w : World) → b < n → Joined locals b d old f own w
      → Ends (both_code x y d steps) g.code
      → ((a : Operand) (own : Frame) (w : World) (k : ℕ) → at (steps a (operand y (suc d))) own w (suc k) ≡ read a (λ v. read (operand y (suc d)) (later k v)) own w)
      → ((v u : Value) (f own : Frame) (w : World) → Joined locals b d old f own w → Reads own (operand y (suc d)) u → Covers (rest (of v) (of_other u) f w) (λ k. later k v u own w))
      → Covers (m (λ v. o (rest v)) f w) (at (both_code x y d steps) own w)
  both_does {A} {B} {x} {y} {m} {o} {of} {of_other} one other d steps code rest later b old f own w lt j e first next = by_right y.atom refl e first next
    where
      by_right : (r : Option Operand) → y.atom ≡ r
          → Ends (left_code r x d (unless_any r (y.made (suc d)) (steps (left_operand r x d) (or_temp r y.at (suc d))))) g.code
          → ((a : Operand) (own : Frame) (w : World) (k : ℕ)
          → at (steps a (or_temp r y.at (suc d))) own w (suc k) ≡ read a (λ v. read (or_temp r y.at (suc d)) (later k v)) own w)
          → ((v u : Value) (f own : Frame) (w : World) → Joined locals b d old f own w → Reads own (or_temp r y.at (suc d)) u → Covers (rest (of v) (of_other u) f w) (λ k. later k v u own w))
          → Covers (m (λ v. o (rest v)) f w) (at (left_code r x d (unless_any r (y.made (suc d)) (steps (left_operand r x d) (or_temp r y.at (suc d))))) own w)
      by_right None is e first next =
          let a = settled_operand x d in
          let right = temp y.at (suc d) in
          settled_does one d (y.made (suc d) (steps a right)) (λ v. o (rest v)) b old f own w lt j e (λ v f own w j s.
          let above : length locals ≤ d = j.above in
          operand_does other None is (suc d) (steps a right) (rest (of v)) (λ k. later k v) b own f own w lt (deeper locals (suc d) (omega arith) j)
          (ends_then (settled_ends one d (y.made (suc d) (steps a right))) e)
          (λ f new w z k. first a new w k ∙ (s.reads new (λ t q. z.kept d (inl (above, omega arith)) t q)).is (λ v. read right (later k v)) w)
          (λ u f own w z r. next v u f own w (done locals (omega arith) j z) r))
      by_right (Some a) is e first next =
          code_does one d (steps (operand x d) a) (λ v. o (rest v)) (λ k v. read a (later k v)) b old f own w lt j e (λ f own w j k. first (operand x d) own w k)
          (λ v f own w j r. other.by_atom a is (rest (of v)) (λ k. later k v) b (suc d) own f own w (deeper locals (suc d) (omega arith) j)
          (λ u s. next v u f own w j s))
