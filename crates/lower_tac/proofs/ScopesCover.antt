-- Statements: at the same moment, scopes, and ways out (C99 6.2.4, 6.8.6).
use Rattle.std.proofs.Common.{◌≡◌, ℕ, zero, suc, ◌<◌, ◌≤◌, ◌≢◌, Bool, true, false, List, [], ◌∷◌, Option, Some, None, ◌⊎◌, inl, inr, refl, sym, ap, ◌∙◌, subst, arith, length, if◌then◌else◌, slice_get, slice_set}
use Rattle.std.proofs.lemmas.Bool.{true≢false}
use Rattle.c_typed.specs.declared.program.Local.{Local}
use Rattle.c_typed.specs.Programs.{ProgramData}
use Rattle.block_memory.specs.Lifetimes.{with_end}
use Rattle.block_memory.specs.declared.kinds.BlockKind.TheVariants as Kind
use Rattle.block_memory.specs.RunWorlds.Doing.{Rest, Doing, ◌>>=◌, ◌>>◌, pure, make}
use Rattle.block_memory.specs.RunWorlds.Worlds.{World, End}
use Rattle.c_meaning.specs.Frames.{Frame, with_slot, slot_now, begin, begin_by, begin_all, end_slot, finish, finish_all}
use Rattle.c_meaning.specs.Program.{size_at}
use Rattle.c_meaning.specs.declared.frame.Slot.{Slot}
use Rattle.c_meaning.specs.declared.frame.Slot.TheVariants.{ByName as by_name, InBlock as in_block}
use Rattle.tac_ir.specs.Code.{Code, RoutineData}
use Rattle.tac_ir.specs.Covering.{Covers}
use Rattle.tac_ir.specs.Running.{Caller, with_temp, end_slot as code_end_slot}
use Rattle.tac_ir.specs.declared.step.Step.TheVariants as S
use Rattle.lower_tac.specs.Parts.{Steps}
use Rattle.lower_tac.specs.Statements.{begin_code, begins_code, end_code, ends_code}
use Rattle.lower_tac.proofs.Blind.{blind_covers, makes, same_run, back}
use Rattle.lower_tac.proofs.Base.{Standing, IsBlock, IsNamed, IsKind, temp_stays, set_is, set_other, set_here, set_length, none_there, within as there_below, equal_or_not, standing_named, standing_later, named_below}
use Rattle.lower_tac.proofs.Making as Making
use Rattle.lower_tac.proofs.Making.{Ends, ends_same, ends_more, ends_behind, ends_then, left_there}
use Rattle.lower_tac.proofs.Places.{named_slot, block_slot}

-- ---- the slot of a local in a block changes on both sides

block_kind : (f : Frame) (x : ℕ) (v : Option ℕ) (y : ℕ) (block : Bool) → (x ≡ y → block ≡ true) → IsKind block (slice_get f y) → IsKind block (slice_get (slice_set f x (in_block v)) y)
block_kind [] x v y block same h = h
block_kind (s ∷ f) zero v zero true same h = tt
block_kind (s ∷ f) zero v zero false same h = absurd (true≢false (sym (same refl)))
block_kind (s ∷ f) zero v (suc y) block same h = h
block_kind (s ∷ f) (suc x) v zero block same h = h
block_kind (s ∷ f) (suc x) v (suc y) block same h = block_kind f x v y block (λ q. same (ap suc q)) h

module _ (locals : List Local) where
  some_same : {A : Type 0} {a b : A} → Some a ≡ Some b → a ≡ b
  some_same e = cc

  pub standing_block : {b : ℕ} {f own : Frame} {w : World} (x : ℕ) (v : Option ℕ) → IsBlock locals x → Standing locals b f own w
      → Standing locals b (slice_set f x (in_block v)) (slice_set own x (in_block v)) w
  standing_block {f = f} {own = own} x v i j = record {
    slots = λ y s e. by_equal y s e (equal_or_not y x);
    size = set_length f x (in_block v) ∙ j.size;
    kinds = λ y l e. block_kind f x v y l.block (λ (q : x ≡ y). ap (λ (l : Local). l.block) (some_same (sym e ∙ sym (ap (slice_get locals) q) ∙ i.is)) ∙ i.block) (j.kinds y l e);
    turns = j.turns;
    blocks = λ y z e. below y z e (equal_or_not y x);
  }
    where
      below : (y z : ℕ) → slice_get (slice_set own x (in_block v)) y ≡ Some (in_block (Some z)) → ((y ≡ x) ⊎ (y ≢ x)) → y < length locals
      below y z e (inl q) = let h = there_below locals x i.local i.is in omega (arith, q, h)
      below y z e (inr m) = j.blocks y z (sym (set_other own x y (in_block v) m) ∙ e)

      here : (o : Option ℕ) → slice_get f x ≡ Some (in_block o) → slice_get (slice_set own x (in_block v)) x ≡ Some (in_block v)
      here o e = set_here own x (in_block v) (in_block o) (j.slots x (in_block o) e)

      by_equal : (y : ℕ) (s : Slot) → slice_get (slice_set f x (in_block v)) y ≡ Some s → ((y ≡ x) ⊎ (y ≢ x)) → slice_get (slice_set own x (in_block v)) y ≡ Some s
      by_equal y s e (inl q) =
          let z = block_slot locals x i j in
          subst (λ (k : ℕ). slice_get (slice_set own x (in_block v)) k ≡ Some s) (sym q)
          (here z.0 z.1 ∙ ap Some (set_is f x (in_block v) s (sym (ap (slice_get (slice_set f x (in_block v))) q) ∙ e)))
      by_equal y s e (inr m) = set_other own x y (in_block v) m ∙ j.slots y s (sym (set_other f x y (in_block v) m) ∙ e)

  -- what no scope changes: the temporaries behind the locals
  abbrev pub Behind : (own new : Frame) → Type 0
  Behind own new = (t : ℕ) → length locals ≤ t → (s : Slot) → slice_get own t ≡ Some s → slice_get new t ≡ Some s

  block_behind : (x : ℕ) → IsBlock locals x → (own : Frame) (s : Slot) → Behind own (slice_set own x s)
  block_behind x i own s t h o e =
      let b = there_below locals x i.local i.is in
      set_other own x t s (λ (q : t ≡ x). omega (arith, q, h, b)) ∙ e

  named_behind : (x : ℕ) → IsNamed locals x → (own : Frame) (s : Slot) → Behind own (with_temp x s own)
  named_behind x i own s t h o e =
      let b = named_below locals x i in
      temp_stays x t s o own (λ (q : t ≡ x). omega (arith, q, h, b)) e

module _ (p : ProgramData) (c : Code) (n : ℕ) (locals : List Local) (cs : List Caller) (g : RoutineData) (h : ℕ) where
  abbrev at : (code : Steps) → Frame → World → (steps : ℕ) → End
  at = Making.at p c n locals cs g

  -- ---- what has no result, on both sides

  pub record Acts (m : Doing Frame (Unit {0})) (make : Steps → Steps) : Type 0 where
    pub ends : (code : Steps) → Ends code (make code)
    pub does : (code : Steps) (rest : Rest Frame (Unit {0})) (b : ℕ) (f own : Frame) (w : World) → Standing locals b f own w
        → ((f new : Frame) (w : World) → Standing locals b f new w → Behind locals own new → Covers (rest tt f w) (at code new w))
        → Covers (m rest f w) (at (make code) own w)

  pub nothing : Acts (pure tt) (λ code. code)
  nothing = record { ends = λ code. ends_same; does = λ code rest b f own w j next. next f own w j (λ t q s e. e) }

  pub then_acts : {m o : Doing Frame (Unit {0})} {make more : Steps → Steps} → Acts m make → Acts o more → Acts (m >> o) (λ code. make (more code))
  then_acts {m} {o} {make} {more} one other = record {
    ends = λ code. ends_then (other.ends code) (one.ends (more code));
    does = λ code rest b f own w j next. one.does (more code) (λ u. o rest) b f own w j (λ f new w j before.
        other.does code rest b f new w j (λ f last w j after. next f last w j (λ t q s e. after t q s (before t q s e))));
  }

  -- ---- one local begins, or ends

  -- both sides end the block of a local, where it has begun, and change their frames alike
  pub finish_covers : {b : ℕ} {f own : Frame} {w : World} (x : ℕ) → IsBlock locals x → (rest : Rest Frame (Unit {0})) (other : ℕ → Rest Frame (Unit {0})) → Standing locals b f own w
      → ((change : Frame → Frame) (u : World) → u.turns ≤ w.turns → Standing locals b (change f) (change own) u → Behind locals own (change own)
      → Covers (rest tt (change f) u) (λ k. other k tt (change own) u))
      → Covers (finish p x rest f w) (λ k. (slot_now x >>= code_end_slot x) (other k) own w)
  finish_covers {f = f} {own = own} {w = w} x i rest other j next = let s = block_slot locals x i j in by_slot s.0 s.1
    where
      by_slot : (o : Option ℕ) → slice_get f x ≡ Some (in_block o) → Covers (finish p x rest f w) (λ k. (slot_now x >>= code_end_slot x) (other k) own w)
      by_slot None e =
          subst (λ (o : Option Slot). Covers (end_slot p x o rest f w) (λ k. (slot_now x >>= code_end_slot x) (other k) own w)) (sym e)
          (same_run (λ k. ap (λ s. code_end_slot x s (other k) own w) (j.slots x (in_block None) e)) (next (λ f. f) w (omega arith) j (λ t q s e. e)))
      by_slot (Some z) e =
          let u = record w { memory = with_end w.memory z } in
          subst (λ (o : Option Slot). Covers (end_slot p x o rest f w) (λ k. (slot_now x >>= code_end_slot x) (other k) own w)) (sym e)
          (same_run (λ k. ap (λ s. code_end_slot x s (other k) own w) (j.slots x (in_block (Some z)) e))
          (next (λ f. slice_set f x (in_block None)) u (omega arith) (standing_block locals x None i (standing_later locals u (omega arith) j))
          (block_behind locals x i own (in_block None))))

  by_kind : (x : ℕ) (l : Local) → slice_get locals x ≡ Some l → (block : Bool) → l.block ≡ block
      → Acts (begin_by p x (size_at p l.ty) block) (λ code. if block then S.Begin x (size_at p l.ty) ∷ code else S.Clear x ∷ code)
  by_kind x l is true e = record {
    ends = λ code. ends_more _ ends_same;
    does = λ code rest b f own w j next.
        let i : IsBlock locals x = record { local = l; is = is; block = e } in
        let made : Rest Frame (Unit {0}) → Rest Frame (Unit {0}) = (λ (rest : Rest Frame (Unit {0})) u. (make (size_at p l.ty) Kind.Local >>= λ z. with_slot x (in_block (Some z))) rest) in
        back (λ k. refl) (finish_covers x i (made rest) (λ k. made (λ u own w. at code own w k)) j (λ change u less j behind.
        blind_covers (makes (size_at p l.ty) Kind.Local u) (λ z. with_slot x (in_block (Some z)) rest) (change f) (change own)
        (λ k z. with_slot x (in_block (Some z)) (λ u own w. at code own w k))
        (λ z v q. next (slice_set (change f) x (in_block (Some z))) (slice_set (change own) x (in_block (Some z))) v
        (standing_block locals x (Some z) i (standing_later locals v q j))
        (λ t q s e. block_behind locals x i (change own) (in_block (Some z)) t q s (behind t q s e)))));
  }
  by_kind x l is false e = record {
    ends = λ code. ends_more _ ends_same;
    does = λ code rest b f own w j next.
        let i : IsNamed locals x = record { local = l; is = is; named = e } in
        back (λ k. refl) (next (slice_set f x (by_name None)) (with_temp x (by_name None) own) w (standing_named locals x None i j) (named_behind locals x i own (by_name None)));
  }

  begins : (x : ℕ) (o : Option Local) → slice_get locals x ≡ o → Acts (begin p x o) (λ code. begin_code p h locals o x code)
  begins x None is = nothing
  begins x (Some l) is = by_kind x l is l.block refl

  pub begin_acts : (own : List ℕ) → Acts (begin_all p locals own) (begins_code p h locals own)
  begin_acts [] = nothing
  begin_acts (x ∷ more) = then_acts (begins x (slice_get locals x) refl) (begin_acts more)

  end_by : (x : ℕ) (l : Local) → slice_get locals x ≡ Some l → (block : Bool) → l.block ≡ block
      → Acts (finish p x) (λ code. if block then S.End x ∷ code else code)
  end_by x l is false e = record {
    ends = λ code. ends_same;
    does = λ code rest b f own w j next.
        let i : IsNamed locals x = record { local = l; is = is; named = e } in
        let s = named_slot locals x i j in
        subst (λ (o : Option Slot). Covers (end_slot p x o rest f w) (at code own w)) (sym s.1) (next f own w j (λ t q s e. e));
  }
  end_by x l is true e = record {
    ends = λ code. ends_more _ ends_same;
    does = λ code rest b f own w j next.
        let i : IsBlock locals x = record { local = l; is = is; block = e } in
        back (λ k. refl) (finish_covers x i rest (λ k u own w. at code own w k) j (λ change u less j behind. next (change f) (change own) u j behind));
  }

  finishes : (x : ℕ) (o : Option Local) → slice_get locals x ≡ o → Acts (finish p x) (λ code. end_code p h locals o x code)
  finishes x None is = record {
    ends = λ code. ends_same;
    does = λ code rest b f own w j next.
        subst (λ (o : Option Slot). Covers (end_slot p x o rest f w) (at code own w)) (sym (none_there f locals x j.size is)) (next f own w j (λ t q s e. e));
  }
  finishes x (Some l) is = end_by x l is l.block refl

  pub end_acts : (own : List ℕ) → Acts (finish_all p own) (ends_code p h locals own)
  end_acts [] = nothing
  end_acts (x ∷ more) = then_acts (finishes x (slice_get locals x) refl) (end_acts more)
