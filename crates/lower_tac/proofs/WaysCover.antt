-- The ways to members and elements (C99 6.5.2.1, 6.5.2.3, 6.5.3.2).
use Rattle.std.proofs.Common.{◌≡◌, ℕ, Bool, true, false, List, ◌∷◌, Option, Some, refl, sym, subst, if◌then◌else◌}
use Rattle.std.specs.Prelude.{ℤ, pos, ◌+ℤ◌, ◌*ℤ◌, Ok, Err, nat_le}
use Rattle.std.proofs.Math.Dec.{leb-zero}
use Rattle.std.proofs.Math.IntN.{*ℤ-zero}
use Rattle.lay_base.specs.declared.faults.UndefinedKind.TheVariants as K
use Rattle.lay_base.specs.declared.place.Place.{Place}
use Rattle.c_types.specs.declared.ty.IntKind.{IntKind}
use Rattle.c_typed.specs.Conversions.{number_of}
use Rattle.c_typed.specs.declared.operators.PointerOp.TheVariants.{Add}
use Rattle.c_typed.specs.declared.program.Local.{Local}
use Rattle.c_typed.specs.Programs.{ProgramData}
use Rattle.c_typed.specs.Subscripts.{is_subscript}
use Rattle.memory_words.specs.declared.cell_words.pointer.Ptr.{Ptr}
use Rattle.memory_words.specs.declared.cell_words.pointer.Ptr.TheVariants as P
use Rattle.block_memory.specs.Blocks.{Memory}
use Rattle.block_memory.specs.Blocks as Blocks
use Rattle.block_memory.specs.Tested.{Tested}
use Rattle.block_memory.specs.RunWorlds.Doing.{Rest, Doing, ◌>>=◌, pure, tested, memory_now, is_undefined}
use Rattle.block_memory.specs.Pointers.{stepped}
use Rattle.block_memory.specs.RunWorlds.Operators.{moved, bytes_by}
use Rattle.block_memory.specs.RunWorlds.Scalars.{as_value, as_word, pointer_of}
use Rattle.block_memory.specs.RunWorlds.Worlds.{World, End, undefined}
use Rattle.block_memory.specs.declared.run_worlds.value.Value.{Value}
use Rattle.block_memory.specs.declared.run_worlds.value.Value.TheVariants.{Word as word, Pointer as pointer}
use Rattle.c_meaning.specs.Expressions.{element_of, part_of, part_in, field_through}
use Rattle.c_meaning.specs.Frames.{Frame}
use Rattle.c_meaning.specs.declared.frame.Slot.TheVariants.{ByName as by_name}
use Rattle.c_meaning.specs.declared.frame.Spot.{Spot}
use Rattle.c_meaning.specs.declared.frame.Spot.TheVariants.{Kept as kept, Placed as placed}
use Rattle.tac_ir.specs.Code.{Code, RoutineData}
use Rattle.tac_ir.specs.Covering.{Covers}
use Rattle.tac_ir.specs.Running.{Caller, with_temp, address}
use Rattle.tac_ir.specs.declared.step.Operand.TheVariants as O
use Rattle.tac_ir.specs.declared.step.Step.TheVariants as S
use Rattle.lower_tac.specs.Parts.{Steps, Part, operand, code_of, both_code}
use Rattle.lower_tac.proofs.Blind.{Blind, then_blind, sees, tests, gives, fails, leads_through, stays, back}
use Rattle.lower_tac.proofs.Base.{Joined}
use Rattle.lower_tac.proofs.Making as Making
use Rattle.lower_tac.proofs.Making.{Ends, ends_same, ends_more, ends_behind, ends_then}
use Rattle.lower_tac.proofs.Places as Places
use Rattle.lower_tac.proofs.Values as Values

-- ---- what a part of a place is, whatever stands behind it

parts : (place : Place) (by : ℤ) (q : Ptr) (w : World) → Blind Spot (part_of place by (placed q)) w
parts place by q w = then_blind {next = λ m. tested place (part_in m q by) >>= λ r. pure (placed r)} (sees w)
    (λ m w. then_blind {next = λ r. pure (placed r)} (tests place (part_in m q by) w) (λ r w. gives (placed r) w))

elements : (place : Place) (k size : ℕ) (addressed : Bool) (q : Ptr) (i : ℤ) (w : World) → Blind Spot (element_of place k size addressed (placed q) i) w
elements place k size addressed q i w = by_test (is_subscript k addressed i)
  where
    by_test : (t : Bool) → Blind Spot (if t then part_of place (i *ℤ pos size) (placed q) else is_undefined K.Subscript place) w
    by_test true = parts place (i *ℤ pos size) q w
    by_test false = fails K.Subscript place w

-- a part of a place in memory is one
part_same : (place : Place) (by : ℤ) (q : Ptr) (rest : Rest Frame Spot) (f : Frame) (w : World)
    → part_of place by (placed q) rest f w ≡ part_of place by (placed q) (λ s. rest (placed (pointer_of (address s)))) f w
part_same place by q rest f w = by_result (part_in w.memory q by)
  where
    by_result : (r : Tested Ptr) → tested place r (λ r. rest (placed r)) f w ≡ tested place r (λ r. rest (placed (pointer_of (address (placed r))))) f w
    by_result (Ok r) = refl
    by_result (Err kind) = refl

element_same : (place : Place) (k size : ℕ) (addressed : Bool) (q : Ptr) (i : ℤ) (rest : Rest Frame Spot) (f : Frame) (w : World)
    → element_of place k size addressed (placed q) i rest f w ≡ element_of place k size addressed (placed q) i (λ s. rest (placed (pointer_of (address s)))) f w
element_same place k size addressed q i rest f w = by_test (is_subscript k addressed i)
  where
    by_test : (t : Bool) → (if t then part_of place (i *ℤ pos size) (placed q) else is_undefined K.Subscript place) rest f w
        ≡ (if t then part_of place (i *ℤ pos size) (placed q) else is_undefined K.Subscript place) (λ s. rest (placed (pointer_of (address s)))) f w
    by_test true = part_same place (i *ℤ pos size) q rest f w
    by_test false = refl

element_tested : (place : Place) (k size : ℕ) (addressed : Bool) (q : Ptr) (kind : IntKind) (t : Tested ℕ) (rest : Rest Frame Spot) (f : Frame) (w : World)
    → (tested place t >>= λ i. element_of place k size addressed (placed q) (number_of kind i)) rest f w
    ≡ (tested place t >>= λ i. element_of place k size addressed (placed q) (number_of kind i)) (λ s. rest (placed (pointer_of (address s)))) f w
element_tested place k size addressed q kind (Ok i) rest f w = element_same place k size addressed q (number_of kind i) rest f w
element_tested place k size addressed q kind (Err which) rest f w = refl

-- a pointer that is moved is one
abbrev Pointed : Tested Value → Type 0
Pointed (Err kind) = Unit {0}
Pointed (Ok (word n)) = ⊥
Pointed (Ok (pointer q)) = Unit {0}

moved_pointed : (m : Memory) (size : ℕ) (kind : IntKind) (v u : Value) → Pointed (moved m Add size kind v u)
moved_pointed m size kind (word n) u = tt
moved_pointed m size kind (pointer q) (pointer r) = tt
moved_pointed m size kind (pointer q) (word n) = by_result (stepped m q (bytes_by Add (number_of kind n) size))
  where
    by_result : (r : Tested Ptr) → Pointed (as_value pointer r)
    by_result (Ok r) = tt
    by_result (Err kind) = tt

module _ (p : ProgramData) (c : Code) (n : ℕ) (locals : List Local) (cs : List Caller) (g : RoutineData) where
  abbrev at : (code : Steps) → Frame → World → (steps : ℕ) → End
  at = Making.at p c n locals cs g

  abbrev Uses : (A : Type 0) → Part → Doing Frame A → (Value → A) → Type 0
  Uses = Making.Uses p c n locals cs g

  abbrev Points : Doing Frame Spot → Place → ((to d : ℕ) → Steps → Steps) → Type 0
  Points = Places.Points p c n locals cs g

  abbrev IsPointer : Option Value → Type 0
  IsPointer = Places.IsPointer p c n locals cs g

  is_pointer : (s : Spot) → IsPointer (Some (address s))
  is_pointer (placed q) = (q, refl)
  is_pointer (kept x) = (P.Null, refl)

  -- the value of what is used is the place
  abbrev Value_is : Value → Value
  Value_is v = v

  abbrev Place_of : Value → Spot
  Place_of v = placed (pointer_of v)

  -- e[i] on a pointer is *(e + i)
  pub index_points : {x y : Part} {m o : Doing Frame Value} (place : Place) (size : ℕ) (kind : IntKind) → Uses Value x m Value_is → Uses Value y o Value_is
      → Points (m >>= λ v. o >>= λ u. memory_now >>= λ z. tested place (moved z Add size kind v u) >>= λ q. pure (placed (pointer_of q))) place
      (λ to d code. both_code x y d (λ a e. S.Move to place Add size true kind a e ∷ code))
  index_points {x} {y} {m} {o} place size kind one other = record {
    ends = λ to d code. Making.both_ends p c n locals cs g one other d (λ a e. S.Move to place Add size true kind a e ∷ code) code (λ a e. ends_more _ ends_same);
    does = λ to d code rest b old f own w lt j e next.
        Making.both_does p c n locals cs g one other d (λ a e. S.Move to place Add size true kind a e ∷ code) code
        (λ v u. (memory_now >>= λ z. tested place (moved z Add size kind v u) >>= λ q. pure (placed (pointer_of q))) rest)
        (λ k v u. (memory_now >>= λ z. tested place (moved z Add size kind v u)) (λ z own w. at code (with_temp to (by_name (Some z)) own) w k)) b old f own w lt j e
        (λ a own w k. refl)
        (λ v u f own w j r. by_result to code rest f own w (moved w.memory Add size kind v u) (moved_pointed w.memory size kind v u)
        (λ q. next (Some (pointer q)) f own w j (q, refl)));
  }
    where
      by_result : (to : ℕ) (code : Steps) (rest : Rest Frame Spot) (f own : Frame) (w : World) (r : Tested Value) → Pointed r
          → ((q : Ptr) → Covers (rest (placed q) f w) (at code (with_temp to (by_name (Some (pointer q))) own) w))
          → Covers ((tested place r >>= λ q. pure (placed (pointer_of q))) rest f w) (λ k. tested place r (λ z own w. at code (with_temp to (by_name (Some z)) own) w k) own w)
      by_result to code rest f own w (Err kind) h next = stays
      by_result to code rest f own w (Ok (word n)) h next = absurd h
      by_result to code rest f own w (Ok (pointer q)) h next = next q

  -- a field through a pointer
  pub field_points : {x : Part} {m : Doing Frame Value} (place : Place) (by : ℕ) → Uses Value x m Value_is
      → Points (m >>= λ v. field_through place (pointer_of v) (pos by)) place (λ to d code. code_of x d (S.Field to place by (operand x d) ∷ code))
  field_points {x} {m} place by one =
      Values.one_gives p c n locals cs g one (Places.placed_of p c n locals cs g place) IsPointer address is_pointer (λ to a. S.Field to place by a)
      (λ v. field_through place (pointer_of v) (pos by))
      (λ v. field_through place (pointer_of v) (pos by))
      (λ v rest f w. refl)
      (λ v w. leads_through place (pointer_of v) (pos by) w)
      (λ to a code own w k. refl)

  pub element_field_points : {x y : Part} {m o : Doing Frame Value} (place : Place) (size : ℕ) (kind : IntKind) (by : ℕ) → Uses Value x m Value_is → Uses Value y o Value_is
      → Points (m >>= λ v. o >>= λ u. tested place (as_word u) >>= λ i. field_through place (pointer_of v) (number_of kind i *ℤ pos size +ℤ pos by)) place
      (λ to d code. both_code x y d (λ a e. S.ElementField to place size kind by a e ∷ code))
  element_field_points {x} {y} {m} {o} place size kind by one other =
      let field : Value → Value → Doing Frame Spot = (λ (v : Value) u. tested place (as_word u) >>= λ i. field_through place (pointer_of v) (number_of kind i *ℤ pos size +ℤ pos by)) in
      Values.two_gives p c n locals cs g one other (Places.placed_of p c n locals cs g place) IsPointer address is_pointer (λ to a e. S.ElementField to place size kind by a e)
      field field
      (λ v u rest f w. refl)
      (λ v u w. then_blind {next = λ i. field_through place (pointer_of v) (number_of kind i *ℤ pos size +ℤ pos by)} (tests place (as_word u) w)
      (λ i w. leads_through place (pointer_of v) (number_of kind i *ℤ pos size +ℤ pos by) w))
      (λ to a e code own w k. refl)

  -- a field, or an element, of what a path leads to
  pub part_points : {x : Part} {m : Doing Frame Spot} (place : Place) (by : ℕ) → Uses Spot x m Place_of
      → Points (m >>= part_of place (pos by)) place (λ to d code. code_of x d (S.Part to place by (operand x d) ∷ code))
  part_points {x} {m} place by one =
      Values.one_gives p c n locals cs g one (Places.placed_of p c n locals cs g place) IsPointer address is_pointer (λ to a. S.Part to place by a)
      (λ v. part_of place (pos by) (placed (pointer_of v)))
      (part_of place (pos by))
      (λ v rest f w. part_same place (pos by) (pointer_of v) rest f w)
      (λ v w. parts place (pos by) (pointer_of v) w)
      (λ to a code own w k. refl)

  pub element_points : {x y : Part} {m : Doing Frame Spot} {o : Doing Frame Value} (place : Place) (k size : ℕ) (addressed : Bool) (kind : IntKind)
      → Uses Spot x m Place_of → Uses Value y o Value_is
      → Points (m >>= λ s. o >>= λ u. tested place (as_word u) >>= λ i. element_of place k size addressed s (number_of kind i)) place
      (λ to d code. both_code x y d (λ a e. S.Element to place k size addressed kind a e ∷ code))
  element_points {x} {y} {m} {o} place k size addressed kind one other =
      Values.two_gives p c n locals cs g one other (Places.placed_of p c n locals cs g place) IsPointer address is_pointer (λ to a e. S.Element to place k size addressed kind a e)
      (λ v u. tested place (as_word u) >>= λ i. element_of place k size addressed (placed (pointer_of v)) (number_of kind i))
      (λ s u. tested place (as_word u) >>= λ i. element_of place k size addressed s (number_of kind i))
      (λ v u rest f w. element_tested place k size addressed (pointer_of v) kind (as_word u) rest f w)
      (λ v u w. then_blind {next = λ i. element_of place k size addressed (placed (pointer_of v)) (number_of kind i)} (tests place (as_word u) w)
      (λ i w. elements place k size addressed (pointer_of v) (number_of kind i) w))
      (λ to a e code own w k. refl)

  -- ---- a named local has no parts

  pub no_part : {m : Doing Frame Spot} (place : Place) (by : ℤ) (x : ℕ)
      → ((b d : ℕ) (old f own : Frame) (w : World) → Joined locals b d old f own w → (rest : Rest Frame Spot) → m rest f w ≡ rest (kept x) f w)
      → Points (m >>= part_of place by) place (λ to d code. S.Fail K.Dead place ∷ code)
  no_part {m} place by x is = record {
    ends = λ to d code. ends_more _ ends_same;
    does = λ to d code rest b old f own w lt j e next.
        subst (λ (z : End). Covers z (at (S.Fail K.Dead place ∷ code) own w)) (sym (is b d old f own w j (λ s. part_of place by s rest))) (back (λ k. refl) stays);
  }

  -- but the subscript is tested before
  pub no_element : {m : Doing Frame Spot} {y : Part} {o : Doing Frame Value} (place : Place) (k size : ℕ) (addressed : Bool) (kind : IntKind) (x : ℕ)
      → ((b d : ℕ) (old f own : Frame) (w : World) → Joined locals b d old f own w → (rest : Rest Frame Spot) → m rest f w ≡ rest (kept x) f w)
      → Uses Value y o Value_is
      → Points (m >>= λ s. o >>= λ u. tested place (as_word u) >>= λ i. element_of place k size addressed s (number_of kind i)) place
      (λ to d code. code_of y d (S.Element to place k 0 addressed kind (O.Object 0) (operand y d) ∷ S.Fail K.Dead place ∷ code))
  no_element {m} {y} {o} place k size addressed kind x is one = record {
    ends = λ to d code. ends_then (ends_more _ (ends_more _ ends_same))
        (Making.code_ends p c n locals cs g one d (S.Element to place k 0 addressed kind (O.Object 0) (operand y d) ∷ S.Fail K.Dead place ∷ code));
    does = λ to d code rest b old f own w lt j e next.
        subst (λ (z : End). Covers z (at (code_of y d (S.Element to place k 0 addressed kind (O.Object 0) (operand y d) ∷ S.Fail K.Dead place ∷ code)) own w))
        (sym (is b d old f own w j (λ s. o (λ u. (tested place (as_word u) >>= λ i. element_of place k size addressed s (number_of kind i)) rest))))
        (Making.code_does p c n locals cs g one d (S.Element to place k 0 addressed kind (O.Object 0) (operand y d) ∷ S.Fail K.Dead place ∷ code)
        (λ u. (tested place (as_word u) >>= λ i. element_of place k size addressed (kept x) (number_of kind i)) rest)
        (λ h u. (tested place (as_word u) >>= λ i. element_of place k 0 addressed (placed (P.Block 0 0)) (number_of kind i))
        (λ s own w. at (S.Fail K.Dead place ∷ code) (with_temp to (by_name (Some (address s))) own) w h)) b old f own w lt j e
        (λ f own w j h. refl)
        (λ u f own w j r. by_word to code rest f own w (as_word u)));
  }
    where
      failed : (to : ℕ) (code : Steps) → ℕ → Rest Frame Spot
      failed to code h = λ s own w. at (S.Fail K.Dead place ∷ code) (with_temp to (by_name (Some (address s))) own) w h

      by_size : (to : ℕ) (code : Steps) (own : Frame) (w : World) (t : Bool) → t ≡ true
          → Covers (undefined K.Dead place w) (λ h. (tested place (if t then Ok (P.Block 0 0) else Err K.Range) >>= λ r. pure (placed r)) (failed to code h) own w)
      by_size to code own w true is = back (λ k. refl) stays
      by_size to code own w false is = cc

      -- so many bytes behind the first object's beginning, of elements that have none
      stays_there : (to : ℕ) (code : Steps) (own : Frame) (w : World) (i z : ℤ) → z ≡ pos 0
          → Covers (undefined K.Dead place w) (λ h. part_of place z (placed (P.Block 0 0)) (failed to code h) own w)
      stays_there to code own w i z is =
          subst (λ (z : ℤ). Covers (undefined K.Dead place w) (λ h. part_of place z (placed (P.Block 0 0)) (failed to code h) own w)) (sym is)
          (by_size to code own w (nat_le 0 (Blocks.size w.memory 0)) (leb-zero (Blocks.size w.memory 0)))

      by_test : (to : ℕ) (code : Steps) (rest : Rest Frame Spot) (f own : Frame) (w : World) (i : ℤ) (t : Bool)
          → Covers ((if t then part_of place (i *ℤ pos size) (kept x) else is_undefined K.Subscript place) rest f w)
          (λ h. (if t then part_of place (i *ℤ pos 0) (placed (P.Block 0 0)) else is_undefined K.Subscript place) (failed to code h) own w)
      by_test to code rest f own w i false = stays
      by_test to code rest f own w i true = stays_there to code own w i (i *ℤ pos 0) (*ℤ-zero i)

      by_word : (to : ℕ) (code : Steps) (rest : Rest Frame Spot) (f own : Frame) (w : World) (t : Tested ℕ)
          → Covers ((tested place t >>= λ i. element_of place k size addressed (kept x) (number_of kind i)) rest f w)
          (λ h. (tested place t >>= λ i. element_of place k 0 addressed (placed (P.Block 0 0)) (number_of kind i)) (failed to code h) own w)
      by_word to code rest f own w (Err which) = stays
      by_word to code rest f own w (Ok i) = by_test to code rest f own w (number_of kind i) (is_subscript k addressed (number_of kind i))
