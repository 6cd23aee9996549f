-- Loads and assignments (C99 6.5.16, 6.5.2.4, 6.5.3.1).
use Rattle.std.proofs.Common.{◌≡◌, ℕ, zero, suc, ◌+◌, ◌<◌, ◌≤◌, ◌≢◌, Bool, true, false, List, [], ◌∷◌, Option, Some, None, inl, refl, sym, ap, ◌∙◌, subst, arith, length, if◌then◌else◌, slice_get, slice_set}
use Rattle.lay_base.specs.declared.faults.UndefinedKind.TheVariants as K
use Rattle.lay_base.specs.declared.place.Place.{Place}
use Rattle.c_types.specs.declared.ty.IntKind.{IntKind}
use Rattle.c_types.specs.Types.{CType, void, integer, pointer as pointer_to, array, function, structure}
use Rattle.c_typed.specs.Constants.{kind_of}
use Rattle.c_typed.specs.declared.operators.BinaryOp.{BinaryOp}
use Rattle.c_typed.specs.declared.operators.StepOp.{StepOp}
use Rattle.c_typed.specs.declared.program.Local.{Local}
use Rattle.c_typed.specs.Programs.{ProgramData}
use Rattle.block_memory.specs.Blocks.{Memory}
use Rattle.block_memory.specs.Tested.{Tested}
use Rattle.block_memory.specs.RunWorlds.Doing.{Rest, Doing, ◌>>=◌, pure, tested, memory_now}
use Rattle.block_memory.specs.RunWorlds.Operators.{updated, next as next_value, step_op}
use Rattle.block_memory.specs.RunWorlds.Scalars.{pointer_of, load, store}
use Rattle.block_memory.specs.RunWorlds.Worlds.{World, End}
use Rattle.block_memory.specs.declared.run_worlds.value.Value.{Value}
use Rattle.block_memory.specs.declared.run_worlds.value.Value.TheVariants.{Word as word}
use Rattle.c_meaning.specs.Expressions.{or_no_value}
use Rattle.c_meaning.specs.Frames.{Frame, fetch, put as put_value, with_slot}
use Rattle.c_meaning.specs.Program.{type_at, access_at, element_size}
use Rattle.c_meaning.specs.declared.frame.Slot.{Slot}
use Rattle.c_meaning.specs.declared.frame.Slot.TheVariants.{ByName as by_name}
use Rattle.c_meaning.specs.declared.frame.Spot.{Spot}
use Rattle.c_meaning.specs.declared.frame.Spot.TheVariants.{Kept as kept, Placed as placed}
use Rattle.tac_ir.specs.Code.{Code, RoutineData}
use Rattle.tac_ir.specs.Covering.{Covers}
use Rattle.tac_ir.specs.Running.{Caller, with_temp, held as slot_held, read, type_of_sort}
use Rattle.tac_ir.specs.declared.step.Operand.{Operand}
use Rattle.tac_ir.specs.declared.step.Operand.TheVariants as O
use Rattle.tac_ir.specs.declared.step.Step.TheVariants as S
use Rattle.lower_tac.specs.Parts.{Steps, Part, temp, operand, code_of, both_code, settled, settled_operand, tested_if}
use Rattle.lower_tac.specs.Expressions.{result_code, sort_of, unit_kind, update, assign_named, assign_op_code, step_named, step_code}
use Rattle.lower_tac.proofs.Blind.{blind_covers, tests, loads, stores, stays, back}
use Rattle.lower_tac.proofs.Base.{Joined, IsNamed, Reads, reads_temp, temp_same, temp_stays, scratch, named as named_joined, named_below, later, deeper, done}
use Rattle.lower_tac.proofs.Making as Making
use Rattle.lower_tac.proofs.Making.{Ends, ends_same, ends_more, ends_behind, ends_then, IsSome, Settled}
use Rattle.lower_tac.proofs.Places as Places
use Rattle.lower_tac.proofs.Values as Values

-- ---- temporaries that are written twice

twice : (t : ℕ) (s o : Slot) (f : Frame) → with_temp t s (with_temp t o f) ≡ with_temp t s f
twice zero s o [] = refl
twice zero s o (x ∷ f) = refl
twice (suc t) s o [] = ap (λ f. by_name None ∷ f) (twice t s o [])
twice (suc t) s o (x ∷ f) = ap (λ f. x ∷ f) (twice t s o f)

-- ---- what `op=` makes of a value, by the sort of its type

update_same : (m : Memory) (op : BinaryOp) (size : ℕ) (t : CType) (old : Value) (right : CType) (v : Value)
    → updated m op size t old right v ≡ updated m op size (type_of_sort (sort_of t)) old (integer (kind_of right)) v
update_same m op size (integer kind) old right v = refl
update_same m op size void old right v = refl
update_same m op size (pointer_to t) old right v = refl
update_same m op size (array t k) old right v = refl
update_same m op size (function t all) old right v = refl
update_same m op size (structure r) old right v = refl

next_same : (m : Memory) (op : StepOp) (size : ℕ) (t : CType) (old : Value)
    → next_value m op size t old ≡ updated m (step_op op) size (type_of_sort (sort_of t)) old (integer (unit_kind t)) (word 1)
next_same m op size (integer kind) old = refl
next_same m op size void old = refl
next_same m op size (pointer_to t) old = refl
next_same m op size (array t k) old = refl
next_same m op size (function t all) old = refl
next_same m op size (structure r) old = refl

module _ (p : ProgramData) (c : Code) (n : ℕ) (locals : List Local) (cs : List Caller) (g : RoutineData) where
  abbrev at : (code : Steps) → Frame → World → (steps : ℕ) → End
  at = Making.at p c n locals cs g

  abbrev Made : (A : Type 0) → Doing Frame A → (Option Value → Doing Frame A) → Bool → ((to d : ℕ) → Steps → Steps) → Type 0
  Made = Making.Made p c n locals cs g

  abbrev Valued : Doing Frame (Option Value) → Bool → ((to d : ℕ) → Steps → Steps) → Type 0
  Valued = Making.Valued p c n locals cs g

  abbrev Effects : Doing Frame (Option Value) → ((d : ℕ) → Steps → Steps) → Type 0
  Effects = Making.Effects p c n locals cs g

  abbrev Uses : (A : Type 0) → Part → Doing Frame A → (Value → A) → Type 0
  Uses = Making.Uses p c n locals cs g

  abbrev Value_is : Value → Value
  Value_is v = v

  abbrev Place_of : Value → Spot
  Place_of v = placed (pointer_of v)

  -- a path that leads to a named local
  pub record Named (x : ℕ) (m : Doing Frame Spot) : Type 0 where
    pub named : IsNamed locals x
    pub is : (b d : ℕ) (old f own : Frame) (w : World) → Joined locals b d old f own w → (rest : Rest Frame Spot) → m rest f w ≡ rest (kept x) f w

  -- ---- an assignment whose value is the result, or is dropped

  pub record Assigns (m : Doing Frame (Option Value)) (make : (d : ℕ) → Option ℕ → Steps → Steps) : Type 0 where
    pub valued : Valued m false (λ to d code. make d (Some to) code)
    pub effects : Effects m (λ d code. make d None code)

  -- what stands behind an assignment: the result, which an operand reads
  abbrev Results : (to : Option ℕ) (d : ℕ) (code : Steps) (rest : Rest Frame (Option Value)) (b : ℕ) (old : Frame) → Type 0
  Results to d code rest b old = (v : Value) (a : Operand) (f own : Frame) (w : World) → Joined locals b d old f own w → Reads own a v
      → Covers (rest (Some v) f w) (at (result_code to a code) own w)

  -- both from one lemma
  as_assigns : (m : Doing Frame (Option Value)) (make : (d : ℕ) → Option ℕ → Steps → Steps)
      → ((d : ℕ) (to : Option ℕ) (code : Steps) → Ends code (make d to code))
      → ((d : ℕ) (to : Option ℕ) (code : Steps) (rest : Rest Frame (Option Value)) (b : ℕ) (old f own : Frame) (w : World) → b < n → Joined locals b d old f own w
      → Ends (make d to code) g.code → Results to d code rest b old → Covers (m rest f w) (at (make d to code) own w))
      → Assigns m make
  as_assigns m make ends does = record {
    valued = record {
      ends = λ to d code. ends d (Some to) code;
      does = λ to d code rest b old f own w lt j e next. does d (Some to) code rest b old f own w lt j e (λ v a f own w j r.
          back (λ k. r.is (λ v own w. at code (with_temp to (by_name (Some v)) own) w k) w) (next (Some v) f own w j (λ q. (v, refl))));
    };
    effects = record {
      ends = λ d code. ends d None code;
      does = λ d code rest b old f own w lt j e next. does d None code rest b old f own w lt j e (λ v a f own w j r. next (Some v) f own w j);
    };
  }

  result_ends : (to : Option ℕ) (a : Operand) (code : Steps) → Ends code (result_code to a code)
  result_ends None a code = ends_same
  result_ends (Some to) a code = ends_more _ ends_same

  -- ---- loads

  pub load_named : {m : Doing Frame Spot} (t : ℕ) (place : Place) (x : ℕ) → Named x m
      → Valued (m >>= λ s. fetch p place s t >>= λ v. pure (Some v)) false (λ to d code. S.Set to (O.Temp K.Empty x place) ∷ code)
  load_named {m} t place x one = record {
    ends = λ to d code. ends_more _ ends_same;
    does = λ to d code rest b old f own w lt j e next.
        subst (λ (z : End). Covers z (at (S.Set to (O.Temp K.Empty x place) ∷ code) own w)) (sym (one.is b d old f own w j (λ s. fetch p place s t (λ v. rest (Some v)))))
        (back (λ k. refl) (Places.named_read p c n locals cs g place x one.named j (λ v. rest (Some v)) (λ k v own w. at code (with_temp to (by_name (Some v)) own) w k)
        (λ v r. next (Some v) f own w j (λ q. (v, refl)))));
  }

  pub load_placed : {x : Part} {m : Doing Frame Spot} (t : ℕ) (place : Place) → Uses Spot x m Place_of
      → Valued (m >>= λ s. fetch p place s t >>= λ v. pure (Some v)) false (λ to d code. code_of x d (S.Load to place (access_at p t) (operand x d) ∷ code))
  load_placed {x} {m} t place one =
      Values.one_made p c n locals cs g one pure (λ to a. S.Load to place (access_at p t) a)
      (λ v. load place (pointer_of v) (access_at p t)) (λ s. fetch p place s t >>= λ v. pure (Some v))
      (λ v rest f w. refl) (λ v w. loads place (pointer_of v) (access_at p t) w) (λ to a code own w k. refl)

  -- ---- `=`

  pub assign_to_name : {m : Doing Frame Spot} {o : Doing Frame (Option Value)} {make : (to d : ℕ) → Steps → Steps} (t : ℕ) (place : Place) (x : ℕ) (y : Part)
      → Named x m → Valued o y.lacks make
      → Assigns (m >>= λ s. (o >>= or_no_value y.at) >>= λ v. put_value p place s t v >>= λ a. pure (Some v)) (λ d to code. assign_named p place x make y d to code)
  assign_to_name {m} {o} {make} t place x y one other = as_assigns _ _ ends does
    where
      tested_ends : (lacks : Bool) (code : Steps) → Ends code (tested_if lacks y.at x code)
      tested_ends true code = ends_more _ ends_same
      tested_ends false code = ends_same

      ends : (d : ℕ) (to : Option ℕ) (code : Steps) → Ends code (assign_named p place x make y d to code)
      ends d to code = ends_then (result_ends to (O.Temp K.Empty x place) code)
          (ends_then (tested_ends y.lacks (result_code to (O.Temp K.Empty x place) code)) (other.ends x d (tested_if y.lacks y.at x (result_code to (O.Temp K.Empty x place) code))))

      does : (d : ℕ) (to : Option ℕ) (code : Steps) (rest : Rest Frame (Option Value)) (b : ℕ) (old f own : Frame) (w : World) → b < n → Joined locals b d old f own w
          → Ends (assign_named p place x make y d to code) g.code → Results to d code rest b old
          → Covers ((m >>= λ s. (o >>= or_no_value y.at) >>= λ v. put_value p place s t v >>= λ a. pure (Some v)) rest f w) (at (assign_named p place x make y d to code) own w)
      does d to code rest b old f own w lt j e next =
          subst (λ (z : End). Covers z (at (assign_named p place x make y d to code) own w))
          (sym (one.is b d old f own w j (λ s. ((o >>= or_no_value y.at) >>= λ v. put_value p place s t v >>= λ a. pure (Some v)) rest)))
          (other.does x d (tested_if y.lacks y.at x (result_code to (O.Temp K.Empty x place) code)) (λ v. or_no_value y.at v (λ v. with_slot x (by_name (Some v)) (λ a. rest (Some v))))
          b old f own w lt j e (λ v f own w j some. by_value y.lacks v some f own w j))
        where
          written : (v : Value) (f own : Frame) (w : World) → Joined locals b d old f own w
              → Covers (rest (Some v) (slice_set f x (by_name (Some v))) w) (at (result_code to (O.Temp K.Empty x place) code) (with_temp x (by_name (Some v)) own) w)
          written v f own w j = next v (O.Temp K.Empty x place) (slice_set f x (by_name (Some v))) (with_temp x (by_name (Some v)) own) w
              (named_joined locals x (Some v) one.named j) (reads_temp x K.Empty place v (temp_same x (by_name (Some v)) own))

          once : ℕ → Rest Frame Value
          once k = λ v own w. at (result_code to (O.Temp K.Empty x place) code) (with_temp x (by_name (Some v)) own) w k

          by_value : (lacks : Bool) (v : Option Value) → (lacks ≡ false → IsSome v) → (f own : Frame) (w : World) → Joined locals b d old f own w
              → Covers (or_no_value y.at v (λ v. with_slot x (by_name (Some v)) (λ a. rest (Some v))) f w)
              (at (tested_if lacks y.at x (result_code to (O.Temp K.Empty x place) code)) (with_temp x (by_name v) own) w)
          by_value true None some f own w j =
              back (λ k. ap (λ s. slot_held K.NoValue y.at s (once k) (with_temp x (by_name None) own) w) (temp_same x (by_name None) own)) stays
          by_value true (Some v) some f own w j =
              let new = with_temp x (by_name (Some v)) own in
              let r : Reads new (temp y.at x) v = reads_temp x K.NoValue y.at v (temp_same x (by_name (Some v)) own) in
              back (λ k. r.is (once k) w) (subst (λ (q : Frame). Covers (rest (Some v) (slice_set f x (by_name (Some v))) w) (at (result_code to (O.Temp K.Empty x place) code) q w))
              (sym (twice x (by_name (Some v)) (by_name (Some v)) own)) (written v f own w j))
          by_value false None some f own w j = let z = some refl in cc
          by_value false (Some v) some f own w j = written v f own w j

  pub assign_to_place : {x y : Part} {m : Doing Frame Spot} {o : Doing Frame Value} (t : ℕ) (place : Place) → Uses Spot x m Place_of → Uses Value y o Value_is
      → Assigns (m >>= λ s. o >>= λ v. put_value p place s t v >>= λ a. pure (Some v))
      (λ d to code. both_code x y d (λ a e. S.Store place (access_at p t) a e ∷ result_code to e code))
  assign_to_place {x} {y} {m} {o} t place one other = as_assigns _ _
      (λ d to code. Making.both_ends p c n locals cs g one other d (λ a e. S.Store place (access_at p t) a e ∷ result_code to e code) code (λ a e. ends_more _ (result_ends to e code)))
      (λ d to code rest b old f own w lt j e next.
      Making.both_does p c n locals cs g one other d (λ a e. S.Store place (access_at p t) a e ∷ result_code to e code) code
      (λ s v. put_value p place s t v (λ a. rest (Some v)))
      (λ k v u. store place (pointer_of v) (access_at p t) u (λ a own w. at (result_code to (operand y (suc d)) code) own w k)) b old f own w lt j e
      (λ a own w k. refl)
      (λ v u f own w j r. blind_covers (stores place (pointer_of v) (access_at p t) u w) (λ a. rest (Some u)) f own
      (λ k a own w. at (result_code to (operand y (suc d)) code) own w k) (λ a z h. next u (operand y (suc d)) f own z (later locals z h j) r)))

  -- ---- `op=`, `++` and `--` of a named local

  -- the step that updates it, by an old value that an operand reads
  abbrev Updates : (t : ℕ) (place : Place) (op : BinaryOp) (right : IntKind) (x : ℕ) (old_value new_value : Operand) (code : Steps) → ℕ → Rest Frame Value
  Updates t place op right x a e code = λ k v. read a (λ u. (memory_now >>= λ z. tested place (updated z op (element_size p (type_at p t)) (type_of_sort (sort_of (type_at p t))) u (integer right) v))
      (λ new own w. at code (with_temp x (by_name (Some new)) own) w k))

  -- the value becomes the new one of a named local
  named_updated : (t : ℕ) (place : Place) (op : BinaryOp) (right : IntKind) (x : ℕ) → IsNamed locals x → (d : ℕ) (to : Option ℕ) (code : Steps)
      (rest : Rest Frame (Option Value)) (b : ℕ) (old : Frame) → (made : Memory → Value → Tested Value)
      → (u v : Value) (f own : Frame) (w : World) → Joined locals b d old f own w
      → ((z : Memory) → made z u ≡ updated z op (element_size p (type_at p t)) (type_of_sort (sort_of (type_at p t))) u (integer right) v)
      → (result : Value → Value) (back_code : Steps)
      → ((new : Value) (w : World) → Joined locals b d old (slice_set f x (by_name (Some new))) (with_temp x (by_name (Some new)) own) w
      → Covers (rest (Some (result new)) (slice_set f x (by_name (Some new))) w) (at back_code (with_temp x (by_name (Some new)) own) w))
      → Covers ((memory_now >>= λ z. tested place (made z u) >>= λ new. with_slot x (by_name (Some new)) >>= λ a. pure (Some (result new))) rest f w)
      (λ k. (memory_now >>= λ z. tested place (updated z op (element_size p (type_at p t)) (type_of_sort (sort_of (type_at p t))) u (integer right) v))
      (λ new own w. at back_code (with_temp x (by_name (Some new)) own) w k) own w)
  named_updated t place op right x i d to code rest b old made u v f own w j same result back_code next =
      let new_of : Memory → Tested Value = (λ (z : Memory). updated z op (element_size p (type_at p t)) (type_of_sort (sort_of (type_at p t))) u (integer right) v) in
      subst (λ (r : Tested Value). Covers ((tested place r >>= λ new. with_slot x (by_name (Some new)) >>= λ a. pure (Some (result new))) rest f w)
      (λ k. tested place (new_of w.memory) (λ new own w. at back_code (with_temp x (by_name (Some new)) own) w k) own w)) (sym (same w.memory))
      (blind_covers (tests place (new_of w.memory) w) (λ new. with_slot x (by_name (Some new)) (λ a. rest (Some (result new)))) f own
      (λ k new own w. at back_code (with_temp x (by_name (Some new)) own) w k)
      (λ new z h. next new z (named_joined locals x (Some new) i (later locals z h j))))

  -- what is read once the operand of an update is
  abbrev Made_of : (t : ℕ) → Place → (x : ℕ) → (made : Memory → Value → Tested Value) → (result : Value → Value → Value) → Doing Frame (Option Value)
  Made_of t place x made result = fetch p place (kept x) t >>= λ u. memory_now >>= λ z. tested place (made z u) >>= λ new. with_slot x (by_name (Some new)) >>= λ a.
      pure (Some (result u new))

  -- where the result is the new value
  name_updates : (t : ℕ) (place : Place) (op : BinaryOp) (right : IntKind) (x : ℕ) → IsNamed locals x → (d : ℕ) (to : Option ℕ) (code : Steps)
      (rest : Rest Frame (Option Value)) (b : ℕ) (old : Frame) → (made : Memory → Value → Tested Value) → (v : Value) (f own : Frame) (w : World) → Joined locals b d old f own w
      → ((z : Memory) (u : Value) → made z u ≡ updated z op (element_size p (type_at p t)) (type_of_sort (sort_of (type_at p t))) u (integer right) v)
      → Results to d code rest b old
      → Covers (Made_of t place x made (λ u new. new) rest f w)
      (λ k. read (O.Temp K.Empty x place) (λ u. (memory_now >>= λ z. tested place (updated z op (element_size p (type_at p t)) (type_of_sort (sort_of (type_at p t))) u (integer right) v))
      (λ new own w. at (result_code to (O.Temp K.Empty x place) code) (with_temp x (by_name (Some new)) own) w k)) own w)
  name_updates t place op right x i d to code rest b old made v f own w j same next =
      Places.named_read p c n locals cs g place x i j
      (λ u. (memory_now >>= λ z. tested place (made z u) >>= λ new. with_slot x (by_name (Some new)) >>= λ a. pure (Some new)) rest)
      (λ k u. (memory_now >>= λ z. tested place (updated z op (element_size p (type_at p t)) (type_of_sort (sort_of (type_at p t))) u (integer right) v))
      (λ new own w. at (result_code to (O.Temp K.Empty x place) code) (with_temp x (by_name (Some new)) own) w k))
      (λ u r. named_updated t place op right x i d to code rest b old made u v f own w j (λ z. same z u) (λ new. new) (result_code to (O.Temp K.Empty x place) code)
      (λ new w j. next new (O.Temp K.Empty x place) (slice_set f x (by_name (Some new))) (with_temp x (by_name (Some new)) own) w j
      (reads_temp x K.Empty place new (temp_same x (by_name (Some new)) own))))

  pub assign_op_to_name : {y : Part} {m : Doing Frame Spot} {o : Doing Frame Value} (t : ℕ) (place : Place) (op : BinaryOp) (right : CType) (x : ℕ) → Named x m → Uses Value y o Value_is
      → Assigns (m >>= λ s. o >>= λ v. fetch p place s t >>= λ u. memory_now >>= λ z. tested place (updated z op (element_size p (type_at p t)) (type_at p t) u right v) >>= λ new.
      put_value p place s t new >>= λ a. pure (Some new))
      (λ d to code. code_of y d (update p t place op (kind_of right) x (O.Temp K.Empty x place) (operand y d) (result_code to (O.Temp K.Empty x place) code)))
  assign_op_to_name {y} {m} {o} t place op right x one other = as_assigns _ _
      (λ d to code. ends_then (ends_more _ (result_ends to (O.Temp K.Empty x place) code)) (Making.code_ends p c n locals cs g other d _))
      (λ d to code rest b old f own w lt j e next.
      let source : Spot → Doing Frame (Option Value) = (λ (s : Spot). o >>= λ v. fetch p place s t >>= λ u. memory_now >>= λ z.
      tested place (updated z op (element_size p (type_at p t)) (type_at p t) u right v) >>= λ new. put_value p place s t new >>= λ a. pure (Some new)) in
      subst (λ (z : End). Covers z (at (code_of y d (update p t place op (kind_of right) x (O.Temp K.Empty x place) (operand y d) (result_code to (O.Temp K.Empty x place) code))) own w))
      (sym (one.is b d old f own w j (λ s. source s rest)))
      (Making.code_does p c n locals cs g other d (update p t place op (kind_of right) x (O.Temp K.Empty x place) (operand y d) (result_code to (O.Temp K.Empty x place) code))
      (λ v. Made_of t place x (λ z u. updated z op (element_size p (type_at p t)) (type_at p t) u right v) (λ u new. new) rest)
      (λ k v. read (O.Temp K.Empty x place) (λ u. (memory_now >>= λ z. tested place (updated z op (element_size p (type_at p t)) (type_of_sort (sort_of (type_at p t))) u (integer (kind_of right)) v))
      (λ new own w. at (result_code to (O.Temp K.Empty x place) code) (with_temp x (by_name (Some new)) own) w k)))
      b old f own w lt j e (λ f own w j k. refl)
      (λ v f own w j r. name_updates t place op (kind_of right) x one.named d to code rest b old
      (λ z u. updated z op (element_size p (type_at p t)) (type_at p t) u right v) v f own w j
      (λ z u. update_same z op (element_size p (type_at p t)) (type_at p t) u right v) next)))

  -- ---- `++` and `--` of a named local

  abbrev pub Stepped : Doing Frame Spot → (t : ℕ) → Place → StepOp → (before : Bool) → Doing Frame (Option Value)
  Stepped m t place op before = m >>= λ s. fetch p place s t >>= λ u. memory_now >>= λ z. tested place (next_value z op (element_size p (type_at p t)) (type_at p t) u) >>= λ new.
      put_value p place s t new >>= λ a. pure (Some (if before then new else u))

  step_made : (t : ℕ) → StepOp → Memory → Value → Tested Value
  step_made t op z u = next_value z op (element_size p (type_at p t)) (type_at p t) u

  pub step_name_valued : {m : Doing Frame Spot} (t : ℕ) (place : Place) (op : StepOp) (before : Bool) (x : ℕ) → Named x m
      → Valued (Stepped m t place op before) false (λ to d code. step_named p t place op x before d (Some to) code)
  step_name_valued {m} t place op true x one = record {
    ends = λ to d code. ends_more _ (ends_more _ ends_same);
    does = λ to d code rest b old f own w lt j e next.
        let kind = unit_kind (type_at p t) in
        subst (λ (z : End). Covers z (at (step_named p t place op x true d (Some to) code) own w)) (sym (one.is b d old f own w j _))
        (back (λ k. refl) (name_updates t place (step_op op) kind x one.named d (Some to) code rest b old
        (λ z u. next_value z op (element_size p (type_at p t)) (type_at p t) u) (word 1) f own w j
        (λ z u. next_same z op (element_size p (type_at p t)) (type_at p t) u)
        (λ v a f own w j r. back (λ k. r.is (λ v own w. at code (with_temp to (by_name (Some v)) own) w k) w) (next (Some v) f own w j (λ q. (v, refl))))));
  }
  step_name_valued {m} t place op false x one = record {
    ends = λ to d code. ends_more _ (ends_more _ (ends_more _ ends_same));
    does = λ to d code rest b old f own w lt j e next.
        let kind = unit_kind (type_at p t) in
        let last : Steps = S.Set to (temp place d) ∷ code in
        let then_code : Steps = update p t place (step_op op) kind x (temp place d) (O.Word 1) last in
        subst (λ (z : End). Covers z (at (step_named p t place op x false d (Some to) code) own w)) (sym (one.is b d old f own w j _))
        (back (λ k. refl) (Places.named_read p c n locals cs g place x one.named j
        (λ u. (memory_now >>= λ z. tested place (next_value z op (element_size p (type_at p t)) (type_at p t) u) >>= λ new. with_slot x (by_name (Some new)) >>= λ a. pure (Some u)) rest)
        (λ k u own w. at then_code (with_temp d (by_name (Some u)) own) w k)
        (λ u r.
        let held_there = with_temp d (by_name (Some u)) own in
        let z = scratch locals d (Some u) j (omega arith) in
        let reads : Reads held_there (temp place d) u = reads_temp d K.NoValue place u (temp_same d (by_name (Some u)) own) in
        back (λ k. reads.is (λ u. (memory_now >>= λ z. tested place (updated z (step_op op) (element_size p (type_at p t)) (type_of_sort (sort_of (type_at p t))) u (integer kind) (word 1)))
        (λ new own w. at last (with_temp x (by_name (Some new)) own) w k)) w)
        (kept_step to d code rest b old f own w j e next u))));
  }
    where
      kept_step : (to d : ℕ) (code : Steps) (rest : Rest Frame (Option Value)) (b : ℕ) (old f own : Frame) (w : World) → Joined locals b d old f own w
          → Ends (step_named p t place op x false d (Some to) code) g.code
          → ((o : Option Value) (f own : Frame) (w : World) → Joined locals b d old f own w → (false ≡ false → IsSome o) → Covers (rest o f w) (at code (with_temp to (by_name o) own) w))
          → (u : Value)
          → Covers ((memory_now >>= λ z. tested place (next_value z op (element_size p (type_at p t)) (type_at p t) u) >>= λ new. with_slot x (by_name (Some new)) >>= λ a. pure (Some u)) rest f w)
          (λ k. (memory_now >>= λ z. tested place (updated z (step_op op) (element_size p (type_at p t)) (type_of_sort (sort_of (type_at p t))) u (integer (unit_kind (type_at p t))) (word 1)))
          (λ new own w. at (S.Set to (temp place d) ∷ code) (with_temp x (by_name (Some new)) own) w k) (with_temp d (by_name (Some u)) own) w)
      kept_step to d code rest b old f own w j e next u =
          let there = with_temp d (by_name (Some u)) own in
          let z : Joined locals b d old f there w = scratch locals d (Some u) j (omega arith) in
          let above : length locals ≤ d = j.above in
          let below = named_below locals x one.named in
          named_updated t place (step_op op) (unit_kind (type_at p t)) x one.named d (Some to) code rest b old
          (λ z u. next_value z op (element_size p (type_at p t)) (type_at p t) u) u (word 1) f there w z
          (λ z. next_same z op (element_size p (type_at p t)) (type_at p t) u) (λ new. u) (S.Set to (temp place d) ∷ code)
          (λ new w j.
          let r : Reads (with_temp x (by_name (Some new)) there) (temp place d) u =
          reads_temp d K.NoValue place u (temp_stays x d (by_name (Some new)) (by_name (Some u)) there (λ (q : d ≡ x). omega (arith, q, above, below))
          (temp_same d (by_name (Some u)) own)) in
          back (λ k. r.is (λ v own w. at code (with_temp to (by_name (Some v)) own) w k) w)
          (next (Some u) (slice_set f x (by_name (Some new))) (with_temp x (by_name (Some new)) there) w j (λ q. (u, refl))))

  pub step_name_effects : {m : Doing Frame Spot} (t : ℕ) (place : Place) (op : StepOp) (before : Bool) (x : ℕ) → Named x m
      → Effects (Stepped m t place op before) (λ d code. step_named p t place op x before d None code)
  step_name_effects {m} t place op before x one = record {
    ends = λ d code. ends_more _ ends_same;
    does = λ d code rest b old f own w lt j e next.
        let kind = unit_kind (type_at p t) in
        subst (λ (z : End). Covers z (at (step_named p t place op x before d None code) own w)) (sym (one.is b d old f own w j _))
        (back (λ k. refl) (Places.named_read p c n locals cs g place x one.named j
        (λ u. (memory_now >>= λ z. tested place (next_value z op (element_size p (type_at p t)) (type_at p t) u) >>= λ new. with_slot x (by_name (Some new)) >>= λ a.
        pure (Some (if before then new else u))) rest)
        (λ k u. (memory_now >>= λ z. tested place (updated z (step_op op) (element_size p (type_at p t)) (type_of_sort (sort_of (type_at p t))) u (integer kind) (word 1)))
        (λ new own w. at code (with_temp x (by_name (Some new)) own) w k))
        (λ u r. named_updated t place (step_op op) kind x one.named d None code rest b old (λ z u. next_value z op (element_size p (type_at p t)) (type_at p t) u) u (word 1) f own w j
        (λ z. next_same z op (element_size p (type_at p t)) (type_at p t) u) (λ new. if before then new else u) code
        (λ new w j. next (Some (if before then new else u)) (slice_set f x (by_name (Some new))) (with_temp x (by_name (Some new)) own) w j))));
  }

  -- ---- `op=`, `++` and `--` in memory: the address is held, and the old value and the new one stand in temporaries

  beyond : (d : ℕ) → suc d ≤ d + 2
  beyond d = omega arith

  -- the new value is stored
  stored : {b d : ℕ} {old f own : Frame} {w : World} (t : ℕ) (place : Place) (a : Operand) (q new : Value) (code : Steps) (rest : Rest Frame (Option Value)) (result : Value)
      → Joined locals b d old f own w → Reads own a q → slice_get own (d + 2) ≡ Some (by_name (Some new))
      → ((w : World) → Joined locals b d old f own w → Covers (rest (Some result) f w) (at code own w))
      → Covers (put_value p place (placed (pointer_of q)) t new (λ a. rest (Some result)) f w) (at (S.Store place (access_at p t) a (temp place (d + 2)) ∷ code) own w)
  stored {d = d} {f = f} {own = own} {w = w} t place a q new code rest result j r s next =
      let reads : Reads own (temp place (d + 2)) new = reads_temp (d + 2) K.NoValue place new s in
      let writes : ℕ → Rest Frame Value = (λ (k : ℕ) v. store place (pointer_of q) (access_at p t) v (λ a own w. at code own w k)) in
      back (λ k. r.is (λ q. read (temp place (d + 2)) (λ v. store place (pointer_of q) (access_at p t) v (λ a own w. at code own w k))) w ∙ reads.is (writes k) w)
      (blind_covers (stores place (pointer_of q) (access_at p t) new w) (λ a. rest (Some result)) f own (λ k a own w. at code own w k)
      (λ a z h. next z (later locals z h j)))

  -- the old value is loaded into a temporary
  loaded : {b d : ℕ} {old f own : Frame} {w : World} (t : ℕ) (place : Place) (a : Operand) (q : Value) (to : ℕ) (code : Steps) (rest : Rest Frame Value)
      → Joined locals b d old f own w → d ≤ to → Reads own a q
      → ((u : Value) (w : World) → Joined locals b d old f (with_temp to (by_name (Some u)) own) w → Joined locals b d old f own w
      → Covers (rest u f w) (at code (with_temp to (by_name (Some u)) own) w))
      → Covers (fetch p place (placed (pointer_of q)) t rest f w) (at (S.Load to place (access_at p t) a ∷ code) own w)
  loaded {f = f} {own = own} {w = w} t place a q to code rest j le r next =
      let reads : ℕ → Rest Frame Value = (λ (k : ℕ) v. load place (pointer_of v) (access_at p t) (λ u own w. at code (with_temp to (by_name (Some u)) own) w k)) in
      back (λ k. r.is (reads k) w)
      (blind_covers (loads place (pointer_of q) (access_at p t) w) rest f own (λ k u own w. at code (with_temp to (by_name (Some u)) own) w k)
      (λ u z h. next u z (scratch locals to (Some u) (later locals z h j) le) (later locals z h j)))

  -- the new value is made in a temporary
  renewed : {b d : ℕ} {old f own : Frame} {w : World} (t : ℕ) (place : Place) (op : BinaryOp) (right : IntKind) (to : ℕ) (a e : Operand) (u v : Value) (code : Steps)
      (rest : Rest Frame Value) (made : Memory → Tested Value) → Joined locals b d old f own w → d ≤ to → Reads own a u → Reads own e v
      → ((z : Memory) → made z ≡ updated z op (element_size p (type_at p t)) (type_of_sort (sort_of (type_at p t))) u (integer right) v)
      → ((new : Value) (w : World) → Joined locals b d old f (with_temp to (by_name (Some new)) own) w → Covers (rest new f w) (at code (with_temp to (by_name (Some new)) own) w))
      → Covers ((memory_now >>= λ z. tested place (made z)) rest f w) (at (update p t place op right to a e code) own w)
  renewed {f = f} {own = own} {w = w} t place op right to a e u v code rest made j le r s same next =
      let new_of : Memory → Value → Value → Tested Value = (λ (z : Memory) (u v : Value). updated z op (element_size p (type_at p t)) (type_of_sort (sort_of (type_at p t))) u (integer right) v) in
      back (λ k. s.is (λ v. read a (λ u. (memory_now >>= λ z. tested place (new_of z u v)) (λ new own w. at code (with_temp to (by_name (Some new)) own) w k))) w
      ∙ r.is (λ u. (memory_now >>= λ z. tested place (new_of z u v)) (λ new own w. at code (with_temp to (by_name (Some new)) own) w k)) w)
      (subst (λ (z : Tested Value). Covers (tested place z rest f w) (λ k. tested place (new_of w.memory u v) (λ new own w. at code (with_temp to (by_name (Some new)) own) w k) own w))
      (sym (same w.memory))
      (blind_covers (tests place (new_of w.memory u v) w) rest f own (λ k new own w. at code (with_temp to (by_name (Some new)) own) w k)
      (λ new z h. next new z (scratch locals to (Some new) (later locals z h j) le))))

  pub assign_op_to_place : {x y : Part} {m : Doing Frame Spot} {o : Doing Frame Value} (t : ℕ) (place : Place) (op : BinaryOp) (right : CType)
      → Uses Spot x m Place_of → Uses Value y o Value_is
      → Assigns (m >>= λ s. o >>= λ v. fetch p place s t >>= λ u. memory_now >>= λ z. tested place (updated z op (element_size p (type_at p t)) (type_at p t) u right v) >>= λ new.
      put_value p place s t new >>= λ a. pure (Some new))
      (λ d to code. assign_op_code p None t place op (kind_of right) x y d to code)
  assign_op_to_place {x} {y} {m} {o} t place op right one other = as_assigns _ _ ends does
    where
      last : (d : ℕ) (to : Option ℕ) (code : Steps) → Steps
      last d to code = S.Store place (access_at p t) (settled_operand x d) (temp place (d + 2)) ∷ result_code to (temp place (d + 2)) code

      middle : (d : ℕ) (to : Option ℕ) (code : Steps) → Steps
      middle d to code = S.Load (d + 2) place (access_at p t) (settled_operand x d)
          ∷ update p t place op (kind_of right) (d + 2) (temp place (d + 2)) (settled_operand y (suc d)) (last d to code)

      ends : (d : ℕ) (to : Option ℕ) (code : Steps) → Ends code (settled x d (settled y (suc d) (middle d to code)))
      ends d to code = ends_then (ends_more _ (ends_more _ (ends_more _ (result_ends to (temp place (d + 2)) code))))
          (ends_then (Making.settled_ends p c n locals cs g other (suc d) (middle d to code)) (Making.settled_ends p c n locals cs g one d (settled y (suc d) (middle d to code))))

      does : (d : ℕ) (to : Option ℕ) (code : Steps) (rest : Rest Frame (Option Value)) (b : ℕ) (old f own : Frame) (w : World) → b < n → Joined locals b d old f own w
          → Ends (settled x d (settled y (suc d) (middle d to code))) g.code → Results to d code rest b old
          → Covers ((m >>= λ s. o >>= λ v. fetch p place s t >>= λ u. memory_now >>= λ z. tested place (updated z op (element_size p (type_at p t)) (type_at p t) u right v) >>= λ new.
          put_value p place s t new >>= λ a. pure (Some new)) rest f w)
          (at (settled x d (settled y (suc d) (middle d to code))) own w)
      does d to code rest b old f own w lt j e next =
          Making.settled_does p c n locals cs g one d (settled y (suc d) (middle d to code)) _ b old f own w lt j e (λ q f own w j s.
          Making.settled_does p c n locals cs g other (suc d) (middle d to code) _ b own f own w lt (deeper locals (suc d) (omega arith) j)
          (ends_then (Making.settled_ends p c n locals cs g one d (settled y (suc d) (middle d to code))) e)
          (λ v h new u z r. by_values q v f own h new w u j s z r))
        where
          by_values : (q v : Value) (g' own f new : Frame) (u w : World) → Joined locals b d old g' own u → Settled p c n locals cs g own d (settled_operand x d) q
              → Joined locals b (suc d) own f new w → Settled p c n locals cs g new (suc d) (settled_operand y (suc d)) v
              → Covers ((fetch p place (placed (pointer_of q)) t >>= λ u. memory_now >>= λ z. tested place (updated z op (element_size p (type_at p t)) (type_at p t) u right v) >>= λ new.
              put_value p place (placed (pointer_of q)) t new >>= λ a. pure (Some new)) rest f w) (at (middle d to code) new w)
          by_values q v g' own f new u w j s z r =
              let a = settled_operand x d in
              let above : length locals ≤ d = j.above in
              let here : Joined locals b d old f new w = done locals (omega arith) j z in
              let is_kept = (λ (t : Slot) (h : slice_get own d ≡ Some t). z.kept d (inl (above, omega arith)) t h) in
              let far : d ≢ d + 2 = (λ (q : d ≡ d + 2). omega (arith, q)) in
              let near : suc d ≢ d + 2 = (λ (q : suc d ≡ d + 2). omega (arith, q)) in
              loaded t place a q (d + 2) (update p t place op (kind_of right) (d + 2) (temp place (d + 2)) (settled_operand y (suc d)) (last d to code)) _ here (omega arith)
              (s.reads new is_kept) (λ old_value w j3 j2.
              let third = with_temp (d + 2) (by_name (Some old_value)) new in
              renewed t place op (kind_of right) (d + 2) (temp place (d + 2)) (settled_operand y (suc d)) old_value v (last d to code) _
              (λ z. updated z op (element_size p (type_at p t)) (type_at p t) old_value right v) j3 (omega arith)
              (reads_temp (d + 2) K.NoValue place old_value (temp_same (d + 2) (by_name (Some old_value)) new))
              (r.reads third (λ o h. temp_stays (d + 2) (suc d) (by_name (Some old_value)) o new near h))
              (λ z. update_same z op (element_size p (type_at p t)) (type_at p t) old_value right v)
              (λ value w j4.
              let fourth = with_temp (d + 2) (by_name (Some value)) third in
              let there : slice_get fourth (d + 2) ≡ Some (by_name (Some value)) = temp_same (d + 2) (by_name (Some value)) third in
              stored t place a q value (result_code to (temp place (d + 2)) code) rest value j4
              (s.reads fourth (λ o h. temp_stays (d + 2) d (by_name (Some value)) o third far (temp_stays (d + 2) d (by_name (Some old_value)) o new far (is_kept o h))))
              there (λ w j5. next value (temp place (d + 2)) f fourth w j5 (reads_temp (d + 2) K.NoValue place value there))))

  pub step_place : {x : Part} {m : Doing Frame Spot} (t : ℕ) (place : Place) (op : StepOp) (before : Bool) → Uses Spot x m Place_of
      → Assigns (Stepped m t place op before) (λ d to code. step_code p None t place op before x d to code)
  step_place {x} {m} t place op before one = as_assigns _ _ ends does
    where
      result_temp : (d : ℕ) → ℕ
      result_temp d = if before then d + 2 else suc d

      last : (d : ℕ) (to : Option ℕ) (code : Steps) → Steps
      last d to code = S.Store place (access_at p t) (settled_operand x d) (temp place (d + 2)) ∷ result_code to (temp place (if before then d + 2 else suc d)) code

      middle : (d : ℕ) (to : Option ℕ) (code : Steps) → Steps
      middle d to code = S.Load (suc d) place (access_at p t) (settled_operand x d)
          ∷ update p t place (step_op op) (unit_kind (type_at p t)) (d + 2) (temp place (suc d)) (O.Word 1) (last d to code)

      ends : (d : ℕ) (to : Option ℕ) (code : Steps) → Ends code (settled x d (middle d to code))
      ends d to code = ends_then (ends_more _ (ends_more _ (ends_more _ (result_ends to (temp place (if before then d + 2 else suc d)) code))))
          (Making.settled_ends p c n locals cs g one d (middle d to code))

      does : (d : ℕ) (to : Option ℕ) (code : Steps) (rest : Rest Frame (Option Value)) (b : ℕ) (old f own : Frame) (w : World) → b < n → Joined locals b d old f own w
          → Ends (settled x d (middle d to code)) g.code → Results to d code rest b old
          → Covers (Stepped m t place op before rest f w) (at (settled x d (middle d to code)) own w)
      does d to code rest b old f own w lt j e next =
          Making.settled_does p c n locals cs g one d (middle d to code) _ b old f own w lt j e (λ q f own w j s. by_value q f own w j s)
        where
          result_reads : (t : Bool) (own : Frame) (old_value new : Value) → slice_get own (suc d) ≡ Some (by_name (Some old_value)) → slice_get own (d + 2) ≡ Some (by_name (Some new))
              → Reads own (temp place (if t then d + 2 else suc d)) (if t then new else old_value)
          result_reads true own old_value new o h = reads_temp (d + 2) K.NoValue place new h
          result_reads false own old_value new o h = reads_temp (suc d) K.NoValue place old_value o

          by_value : (q : Value) (f own : Frame) (w : World) → Joined locals b d old f own w → Settled p c n locals cs g own d (settled_operand x d) q
              → Covers ((fetch p place (placed (pointer_of q)) t >>= λ u. memory_now >>= λ z. tested place (next_value z op (element_size p (type_at p t)) (type_at p t) u) >>= λ new.
              put_value p place (placed (pointer_of q)) t new >>= λ a. pure (Some (if before then new else u))) rest f w) (at (middle d to code) own w)
          by_value q f own w j s =
              let a = settled_operand x d in
              let far : d ≢ d + 2 = (λ (q : d ≡ d + 2). omega (arith, q)) in
              let near : d ≢ suc d = (λ (q : d ≡ suc d). omega (arith, q)) in
              let apart : suc d ≢ d + 2 = (λ (q : suc d ≡ d + 2). omega (arith, q)) in
              loaded t place a q (suc d) (update p t place (step_op op) (unit_kind (type_at p t)) (d + 2) (temp place (suc d)) (O.Word 1) (last d to code)) _ j (omega arith)
              (s.reads own (λ o h. h)) (λ old_value w j3 j2.
              let third = with_temp (suc d) (by_name (Some old_value)) own in
              let second : slice_get third (suc d) ≡ Some (by_name (Some old_value)) = temp_same (suc d) (by_name (Some old_value)) own in
              renewed t place (step_op op) (unit_kind (type_at p t)) (d + 2) (temp place (suc d)) (O.Word 1) old_value (word 1) (last d to code) _
              (λ z. next_value z op (element_size p (type_at p t)) (type_at p t) old_value) j3 (omega arith)
              (reads_temp (suc d) K.NoValue place old_value second) (record { is = λ rest w. refl })
              (λ z. next_same z op (element_size p (type_at p t)) (type_at p t) old_value)
              (λ value w j4.
              let fourth = with_temp (d + 2) (by_name (Some value)) third in
              let there : slice_get fourth (d + 2) ≡ Some (by_name (Some value)) = temp_same (d + 2) (by_name (Some value)) third in
              let still : slice_get fourth (suc d) ≡ Some (by_name (Some old_value)) =
              temp_stays (d + 2) (suc d) (by_name (Some value)) (by_name (Some old_value)) third apart second in
              stored t place a q value (result_code to (temp place (if before then d + 2 else suc d)) code) rest (if before then value else old_value) j4
              (s.reads fourth (λ o h. temp_stays (d + 2) d (by_name (Some value)) o third far (temp_stays (suc d) d (by_name (Some old_value)) o own near h)))
              there (λ w j5. next (if before then value else old_value) (temp place (if before then d + 2 else suc d)) f fourth w j5
              (result_reads before fourth old_value value still there))))
