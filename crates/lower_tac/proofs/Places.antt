-- Locals, and the places to which paths lead.
use Rattle.std.proofs.Common.{◌≡◌, ℕ, Bool, true, false, List, ◌∷◌, Option, Some, None, refl, sym, ap, subst, if◌then◌else◌, slice_get}
use Rattle.lay_base.specs.declared.faults.UndefinedKind.TheVariants as K
use Rattle.lay_base.specs.declared.place.Place.{Place}
use Rattle.c_typed.specs.declared.program.Local.{Local}
use Rattle.c_typed.specs.Programs.{ProgramData}
use Rattle.memory_words.specs.declared.cell_words.pointer.Ptr.{Ptr}
use Rattle.memory_words.specs.declared.cell_words.pointer.Ptr.TheVariants as P
use Rattle.block_memory.specs.RunWorlds.Doing.{Rest, Doing, ◌>>=◌, pure, is_undefined}
use Rattle.block_memory.specs.RunWorlds.LibraryCalls.{the}
use Rattle.block_memory.specs.RunWorlds.Scalars.{pointer_of}
use Rattle.block_memory.specs.RunWorlds.Worlds.{World, End}
use Rattle.block_memory.specs.declared.run_worlds.value.Value.{Value}
use Rattle.block_memory.specs.declared.run_worlds.value.Value.TheVariants.{Word as word, Pointer as pointer}
use Rattle.c_meaning.specs.Expressions.{or_no_value, address_of}
use Rattle.c_meaning.specs.Frames.{Frame, local_spot, spot_of as slot_spot, known}
use Rattle.c_meaning.specs.declared.frame.Slot.{Slot}
use Rattle.c_meaning.specs.declared.frame.Slot.TheVariants.{ByName as by_name, InBlock as in_block}
use Rattle.c_meaning.specs.declared.frame.Spot.{Spot}
use Rattle.c_meaning.specs.declared.frame.Spot.TheVariants.{Kept as kept, Placed as placed}
use Rattle.tac_ir.specs.Code.{Code, RoutineData}
use Rattle.tac_ir.specs.Covering.{Covers}
use Rattle.tac_ir.specs.Running.{Caller, with_temp, held as slot_held, read}
use Rattle.tac_ir.specs.declared.step.Operand.TheVariants as O
use Rattle.tac_ir.specs.declared.step.Step.TheVariants as S
use Rattle.lower_tac.specs.Parts.{Steps, Part}
use Rattle.lower_tac.specs.Expressions.{named, local_code}
use Rattle.lower_tac.proofs.Blind.{stays, back, same_run}
use Rattle.lower_tac.proofs.Base.{Standing, Joined, IsBlock, IsNamed, IsKind, Reads, reads_temp, reads_block, none_there, later}
use Rattle.lower_tac.proofs.Making as Making
use Rattle.lower_tac.proofs.Making.{Ends, ends_same, ends_more, ends_behind, ends_then, left_there, IsSome}

-- ---- the slot of a local, by its kind

module _ (locals : List Local) where
  kind_named : (s : Option Slot) → IsKind false s → (o : Option Value) × (s ≡ Some (by_name o))
  kind_named None h = absurd h
  kind_named (Some (by_name o)) h = (o, refl)
  kind_named (Some (in_block b)) h = absurd h

  kind_block : (s : Option Slot) → IsKind true s → (o : Option ℕ) × (s ≡ Some (in_block o))
  kind_block None h = absurd h
  kind_block (Some (by_name o)) h = absurd h
  kind_block (Some (in_block b)) h = (b, refl)

  pub named_slot : {b : ℕ} {f own : Frame} {w : World} (x : ℕ) → IsNamed locals x → Standing locals b f own w → (o : Option Value) × (slice_get f x ≡ Some (by_name o))
  named_slot {f = f} x i j = kind_named (slice_get f x) (subst (λ (t : Bool). IsKind t (slice_get f x)) i.named (j.kinds x i.local i.is))

  pub block_slot : {b : ℕ} {f own : Frame} {w : World} (x : ℕ) → IsBlock locals x → Standing locals b f own w → (o : Option ℕ) × (slice_get f x ≡ Some (in_block o))
  block_slot {f = f} x i j = kind_block (slice_get f x) (subst (λ (t : Bool). IsKind t (slice_get f x)) i.block (j.kinds x i.local i.is))

-- ---- which local a name is

pub record NamedAs (locals : List Local) (y x : ℕ) : Type 0 where
  pub same : y ≡ x
  pub is : IsNamed locals x

pub named_is : (locals : List Local) (y x : ℕ) → named (slice_get locals y) y ≡ Some x → NamedAs locals y x
named_is locals y x e = by_local (slice_get locals y) refl e
  where
    by_block : (l : Local) (t : Bool) → l.block ≡ t → slice_get locals y ≡ Some l → (if t then None else Some y) ≡ Some x → NamedAs locals y x
    by_block l true t is e = cc
    by_block l false t is e =
        let q : y ≡ x = cc in
        record { same = q; is = record { local = l; is = subst (λ (z : ℕ). slice_get locals z ≡ Some l) q is; named = t } }

    by_local : (o : Option Local) → slice_get locals y ≡ o → named o y ≡ Some x → NamedAs locals y x
    by_local None is e = cc
    by_local (Some l) is e = by_block l l.block refl is e

module _ (p : ProgramData) (c : Code) (n : ℕ) (locals : List Local) (cs : List Caller) (g : RoutineData) where
  abbrev at : (code : Steps) → Frame → World → (steps : ℕ) → End
  at = Making.at p c n locals cs g

  abbrev Made : (A : Type 0) → Doing Frame A → (Option Value → Doing Frame A) → Bool → ((to d : ℕ) → Steps → Steps) → Type 0
  Made = Making.Made p c n locals cs g

  abbrev Uses : (A : Type 0) → Part → Doing Frame A → (Value → A) → Type 0
  Uses = Making.Uses p c n locals cs g

  -- ---- a named local

  pub named_spot : {b d : ℕ} {old f own : Frame} {w : World} (place : Place) (x : ℕ) → IsNamed locals x → Joined locals b d old f own w → (rest : Rest Frame Spot)
      → local_spot place x rest f w ≡ rest (kept x) f w
  named_spot {f = f} {w = w} place x i j rest = let s = named_slot locals x i j.now in ap (λ o. slot_spot place x o rest f w) s.1

  -- its value is read as the operand of its number
  pub named_read : {b d : ℕ} {old f own : Frame} {w : World} (place : Place) (x : ℕ) → IsNamed locals x → Joined locals b d old f own w
      → (rest : Rest Frame Value) (later : ℕ → Rest Frame Value)
      → ((v : Value) → Reads own (O.Temp K.Empty x place) v → Covers (rest v f w) (λ k. later k v own w))
      → Covers (known p place (slice_get f x) rest f w) (λ k. read (O.Temp K.Empty x place) (later k) own w)
  named_read {f = f} {own = own} {w = w} place x i j rest later next = let s = named_slot locals x i j.now in by_value s.0 s.1
    where
      by_value : (o : Option Value) → slice_get f x ≡ Some (by_name o)
          → Covers (known p place (slice_get f x) rest f w) (λ k. read (O.Temp K.Empty x place) (later k) own w)
      by_value None e =
          subst (λ (s : Option Slot). Covers (known p place s rest f w) (λ k. read (O.Temp K.Empty x place) (later k) own w)) (sym e)
          (same_run (λ k. ap (λ s. slot_held K.Empty place s (later k) own w) (j.now.slots x (by_name None) e)) stays)
      by_value (Some v) e =
          let r : Reads own (O.Temp K.Empty x place) v = reads_temp x K.Empty place v (j.now.slots x (by_name (Some v)) e) in
          subst (λ (s : Option Slot). Covers (known p place s rest f w) (λ k. read (O.Temp K.Empty x place) (later k) own w)) (sym e)
          (same_run (λ k. r.is (later k) w) (next v r))

  -- ---- a local in a block

  pub block_read : {b d : ℕ} {old f own : Frame} {w : World} (place : Place) (x : ℕ) → IsBlock locals x → Joined locals b d old f own w
      → (rest : Rest Frame Spot) (later : ℕ → Rest Frame Value)
      → ((q : Ptr) → Reads own (O.Temp K.Dead x place) (pointer q) → Covers (rest (placed q) f w) (λ k. later k (pointer q) own w))
      → Covers (local_spot place x rest f w) (λ k. read (O.Temp K.Dead x place) (later k) own w)
  block_read {f = f} {own = own} {w = w} place x i j rest later next = let s = block_slot locals x i j.now in by_block s.0 s.1
    where
      by_block : (o : Option ℕ) → slice_get f x ≡ Some (in_block o) → Covers (local_spot place x rest f w) (λ k. read (O.Temp K.Dead x place) (later k) own w)
      by_block None e =
          subst (λ (s : Option Slot). Covers (slot_spot place x s rest f w) (λ k. read (O.Temp K.Dead x place) (later k) own w)) (sym e)
          (same_run (λ k. ap (λ s. slot_held K.Dead place s (later k) own w) (j.now.slots x (in_block None) e)) stays)
      by_block (Some b) e =
          let r : Reads own (O.Temp K.Dead x place) (pointer (P.Block b 0)) = reads_block x K.Dead place b (j.now.slots x (in_block (Some b)) e) in
          subst (λ (s : Option Slot). Covers (slot_spot place x s rest f w) (λ k. read (O.Temp K.Dead x place) (later k) own w)) (sym e)
          (same_run (λ k. r.is (later k) w) (next (P.Block b 0) r))

  missing_spot : {b d : ℕ} {old f own : Frame} {w : World} (place : Place) (x : ℕ) → slice_get locals x ≡ None → Joined locals b d old f own w → (rest : Rest Frame Spot)
      → local_spot place x rest f w ≡ is_undefined K.Dead place rest f w
  missing_spot {f = f} {w = w} place x none j rest = ap (λ o. slot_spot place x o rest f w) (none_there f locals x j.now.size none)

  -- ---- a path that leads to a place in memory

  abbrev pub placed_of : Place → Option Value → Doing Frame Spot
  placed_of place o = or_no_value place o >>= λ v. pure (placed (pointer_of v))

  abbrev pub Leads : Doing Frame Spot → Place → Bool → ((to d : ℕ) → Steps → Steps) → Type 0
  Leads m place lacks make = Made Spot m (placed_of place) lacks make

  -- to a place that is a pointer
  abbrev pub IsPointer : Option Value → Type 0
  IsPointer o = (q : Ptr) × (o ≡ Some (pointer q))

  abbrev pub Points : Doing Frame Spot → Place → ((to d : ℕ) → Steps → Steps) → Type 0
  Points m place make = Making.Gives p c n locals cs g Spot m (placed_of place) IsPointer make

  pub as_leads : {m : Doing Frame Spot} {place : Place} {make : (to d : ℕ) → Steps → Steps} → Points m place make → Leads m place false make
  as_leads one = record {
    ends = one.ends;
    does = λ to d code rest b old f own w lt j e next. one.does to d code rest b old f own w lt j e (λ o f own w j is. next o f own w j (λ q. (pointer is.0, is.1)));
  }

  -- its address is the value
  pub address_valued : {m : Doing Frame Spot} {make : (to d : ℕ) → Steps → Steps} (at_address place : Place) → Points m place make
      → Making.Valued p c n locals cs g (m >>= λ s. the (address_of at_address s) pointer) false make
  address_valued {m} {make} at_address place one = record {
    ends = one.ends;
    does = λ to d code rest b old f own w lt j e next.
        one.does to d code (λ s. the (address_of at_address s) pointer rest) b old f own w lt j e (λ o f own w j is. by_pointer to code rest f own w o is (next o f own w j (λ q. (pointer is.0, is.1))));
  }
    where
      by_pointer : (to : ℕ) (code : Steps) (rest : Rest Frame (Option Value)) (f own : Frame) (w : World) (o : Option Value) → IsPointer o
          → Covers (rest o f w) (at code (with_temp to (by_name o) own) w)
          → Covers (placed_of place o (λ s. the (address_of at_address s) pointer rest) f w) (at code (with_temp to (by_name o) own) w)
      by_pointer to code rest f own w None is next = let never : None ≡ Some (pointer is.0) = is.1 in cc
      by_pointer to code rest f own w (Some (word v)) is next = let never : Some (word v) ≡ Some (pointer is.0) = is.1 in cc
      by_pointer to code rest f own w (Some (pointer q)) is next = next

  pub object_points : (place : Place) (k : ℕ) → Points (pure (placed (P.Block k 0))) place (λ to d code. S.Set to (O.Object k) ∷ code)
  object_points place k = record {
    ends = λ to d code. ends_more _ ends_same;
    does = λ to d code rest b old f own w lt j e next. back (λ k. refl) (next (Some (pointer (P.Block k 0))) f own w j (P.Block k 0, refl));
  }

  pub local_points : (place : Place) (x : ℕ) → named (slice_get locals x) x ≡ None → Points (local_spot place x) place (λ to d code. local_code place x (slice_get locals x) to code)
  local_points place x none = by_local (slice_get locals x) refl none
    where
      by_block : (l : Local) (t : Bool) → l.block ≡ t → slice_get locals x ≡ Some l → (if t then None else Some x) ≡ None
          → Points (local_spot place x) place (λ to d code. if t then S.Set to (O.Temp K.Dead x place) ∷ code else code)
      by_block l false t is none = cc
      by_block l true t is none = record {
        ends = λ to d code. ends_more _ ends_same;
        does = λ to d code rest b old f own w lt j e next.
            back (λ k. refl) (block_read place x (record { local = l; is = is; block = t }) j rest (λ k v own w. at code (with_temp to (by_name (Some v)) own) w k)
            (λ q r. next (Some (pointer q)) f own w j (q, refl)));
      }

      by_local : (o : Option Local) → slice_get locals x ≡ o → named o x ≡ None → Points (local_spot place x) place (λ to d code. local_code place x o to code)
      by_local None is none = record {
        ends = λ to d code. ends_more _ ends_same;
        does = λ to d code rest b old f own w lt j e next.
            subst (λ (z : End). Covers z (at (S.Fail K.Dead place ∷ code) own w)) (sym (missing_spot place x is j rest)) (back (λ k. refl) stays);
      }
      by_local (Some l) is none = by_block l l.block refl is none
