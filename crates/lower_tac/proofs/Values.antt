-- Code that does what a node does, by the parts of the node.
use Rattle.std.proofs.Common.{◌≡◌, ℕ, suc, Bool, false, List, ◌∷◌, Option, Some, None, refl, sym, subst, arith}
use Rattle.c_typed.specs.declared.program.Local.{Local}
use Rattle.c_typed.specs.Programs.{ProgramData}
use Rattle.block_memory.specs.RunWorlds.Doing.{Rest, Doing, ◌>>=◌, pure}
use Rattle.block_memory.specs.RunWorlds.Operators.{is_true}
use Rattle.block_memory.specs.RunWorlds.Worlds.{World, End}
use Rattle.block_memory.specs.declared.run_worlds.value.Value.{Value}
use Rattle.c_meaning.specs.Frames.{Frame}
use Rattle.c_meaning.specs.declared.frame.Slot.TheVariants.{ByName as by_name}
use Rattle.tac_ir.specs.Code.{Code, RoutineData, led}
use Rattle.tac_ir.specs.Covering.{Covers}
use Rattle.tac_ir.specs.Running.{Caller, with_temp, read}
use Rattle.tac_ir.specs.declared.step.Operand.{Operand}
use Rattle.tac_ir.specs.declared.step.Step.{Step}
use Rattle.tac_ir.specs.declared.step.Step.TheVariants as S
use Rattle.tac_ir.specs.declared.step.Target.{Target}
use Rattle.lower_tac.specs.Parts.{Steps, Part, operand, code_of, both_code}
use Rattle.lower_tac.specs.Expressions.{result_code}
use Rattle.lower_tac.proofs.Blind.{Blind, blind_covers, back}
use Rattle.lower_tac.proofs.Base.{Reads, scratch, later}
use Rattle.lower_tac.proofs.Making as Making
use Rattle.lower_tac.proofs.Making.{Ends, ends_same, ends_more, ends_behind, ends_then, left_there, IsSome}

module _ (p : ProgramData) (c : Code) (n : ℕ) (locals : List Local) (cs : List Caller) (g : RoutineData) where
  abbrev at : (code : Steps) → Frame → World → (steps : ℕ) → End
  at = Making.at p c n locals cs g

  abbrev Made : (A : Type 0) → Doing Frame A → (Option Value → Doing Frame A) → Bool → ((to d : ℕ) → Steps → Steps) → Type 0
  Made = Making.Made p c n locals cs g

  abbrev Valued : Doing Frame (Option Value) → Bool → ((to d : ℕ) → Steps → Steps) → Type 0
  Valued = Making.Valued p c n locals cs g

  abbrev Effects : Doing Frame (Option Value) → ((d : ℕ) → Steps → Steps) → Type 0
  Effects = Making.Effects p c n locals cs g

  abbrev Uses : (A : Type 0) → Part → Doing Frame A → (Value → A) → Type 0
  Uses = Making.Uses p c n locals cs g

  abbrev Branches : Doing Frame Value → (Bool → Target → (d : ℕ) → Steps → Steps) → Type 0
  Branches = Making.Branches p c n locals cs g

  -- ---- a step that gives a value

  pub set_valued : (v : Value) (a : Operand) → ((own : Frame) → Reads own a v) → Valued (pure (Some v)) false (λ to d code. S.Set to a ∷ code)
  set_valued v a reads = record {
    ends = λ to d code. ends_more _ ends_same;
    does = λ to d code rest b old f own w lt j e next. back (λ k. (reads own).is (λ v own w. at code (with_temp to (by_name (Some v)) own) w k) w)
        (next (Some v) f own w j (λ q. (v, refl)));
  }

  -- of one operand: what the source does with it is `by`, of whose result `to_value` is the value, and with that what `of_value` says
  pub one_gives : {A C R : Type 0} {x : Part} {m : Doing Frame A} {of : Value → A} (one : Uses A x m of) (of_value : Option Value → Doing Frame C)
      (Is : Option Value → Type 0) (to_value : R → Value) → ((z : R) → Is (Some (to_value z))) → (step : (to : ℕ) → Operand → Step)
      (by : Value → Doing Frame R) (source : A → Doing Frame C)
      → ((v : Value) (rest : Rest Frame C) (f : Frame) (w : World) → source (of v) rest f w ≡ by v (λ z. of_value (Some (to_value z)) rest) f w)
      → ((v : Value) (w : World) → Blind R (by v) w)
      → ((to : ℕ) (a : Operand) (code : Steps) (own : Frame) (w : World) (k : ℕ)
      → at (step to a ∷ code) own w (suc k) ≡ read a (λ v. by v (λ z own w. at code (with_temp to (by_name (Some (to_value z))) own) w k)) own w)
      → Making.Gives p c n locals cs g C (m >>= source) of_value Is (λ to d code. code_of x d (step to (operand x d) ∷ code))
  one_gives {A} {C} {R} {x} {m} {of} one of_value Is to_value known step by source same blind is = record {
    ends = λ to d code. ends_then (ends_more _ ends_same) (Making.code_ends p c n locals cs g one d (step to (operand x d) ∷ code));
    does = λ to d code rest b old f own w lt j e next.
        Making.code_does p c n locals cs g one d (step to (operand x d) ∷ code) (λ v. source v rest)
        (λ k v. by v (λ z own w. at code (with_temp to (by_name (Some (to_value z))) own) w k)) b old f own w lt j e
        (λ f own w j k. is to (operand x d) code own w k)
        (λ v f own w j r. subst (λ (z : End). Covers z (λ k. by v (λ z own w. at code (with_temp to (by_name (Some (to_value z))) own) w k) own w)) (sym (same v rest f w))
        (blind_covers (blind v w) (λ z. of_value (Some (to_value z)) rest) f own (λ k z own w. at code (with_temp to (by_name (Some (to_value z))) own) w k)
        (λ z u h. next (Some (to_value z)) f own u (later locals u h j) (known z))));
  }

  -- of two operands
  pub two_gives : {A B C R : Type 0} {x y : Part} {m : Doing Frame A} {o : Doing Frame B} {of : Value → A} {of_other : Value → B}
      (one : Uses A x m of) (other : Uses B y o of_other) (of_value : Option Value → Doing Frame C)
      (Is : Option Value → Type 0) (to_value : R → Value) → ((z : R) → Is (Some (to_value z))) → (step : (to : ℕ) → (a b : Operand) → Step)
      (by : Value → Value → Doing Frame R) (source : A → B → Doing Frame C)
      → ((v u : Value) (rest : Rest Frame C) (f : Frame) (w : World) → source (of v) (of_other u) rest f w ≡ by v u (λ z. of_value (Some (to_value z)) rest) f w)
      → ((v u : Value) (w : World) → Blind R (by v u) w)
      → ((to : ℕ) (a e : Operand) (code : Steps) (own : Frame) (w : World) (k : ℕ)
      → at (step to a e ∷ code) own w (suc k) ≡ read a (λ v. read e (λ u. by v u (λ z own w. at code (with_temp to (by_name (Some (to_value z))) own) w k))) own w)
      → Making.Gives p c n locals cs g C (m >>= λ v. o >>= source v) of_value Is (λ to d code. both_code x y d (λ a e. step to a e ∷ code))
  two_gives {A} {B} {C} {R} {x} {y} {m} {o} {of} {of_other} one other of_value Is to_value known step by source same blind is = record {
    ends = λ to d code. Making.both_ends p c n locals cs g one other d (λ a e. step to a e ∷ code) code (λ a e. ends_more _ ends_same);
    does = λ to d code rest b old f own w lt j e next.
        Making.both_does p c n locals cs g one other d (λ a e. step to a e ∷ code) code (λ v u. source v u rest)
        (λ k v u. by v u (λ z own w. at code (with_temp to (by_name (Some (to_value z))) own) w k)) b old f own w lt j e
        (λ a own w k. is to a (operand y (suc d)) code own w k)
        (λ v u f own w j r. subst (λ (z : End). Covers z (λ k. by v u (λ z own w. at code (with_temp to (by_name (Some (to_value z))) own) w k) own w)) (sym (same v u rest f w))
        (blind_covers (blind v u w) (λ z. of_value (Some (to_value z)) rest) f own (λ k z own w. at code (with_temp to (by_name (Some (to_value z))) own) w k)
        (λ z t h. next (Some (to_value z)) f own t (later locals t h j) (known z))));
  }

  -- the same of values
  pub one_made : {A C : Type 0} {x : Part} {m : Doing Frame A} {of : Value → A} (one : Uses A x m of) (of_value : Option Value → Doing Frame C) (step : (to : ℕ) → Operand → Step)
      (by : Value → Doing Frame Value) (source : A → Doing Frame C)
      → ((v : Value) (rest : Rest Frame C) (f : Frame) (w : World) → source (of v) rest f w ≡ by v (λ z. of_value (Some z) rest) f w)
      → ((v : Value) (w : World) → Blind Value (by v) w)
      → ((to : ℕ) (a : Operand) (code : Steps) (own : Frame) (w : World) (k : ℕ)
      → at (step to a ∷ code) own w (suc k) ≡ read a (λ v. by v (λ z own w. at code (with_temp to (by_name (Some z)) own) w k)) own w)
      → Made C (m >>= source) of_value false (λ to d code. code_of x d (step to (operand x d) ∷ code))
  one_made one of_value step by source same blind is =
      one_gives one of_value (λ o. false ≡ false → IsSome o) (λ z. z) (λ z q. (z, refl)) step by source same blind is

  pub two_made : {A B C : Type 0} {x y : Part} {m : Doing Frame A} {o : Doing Frame B} {of : Value → A} {of_other : Value → B}
      (one : Uses A x m of) (other : Uses B y o of_other) (of_value : Option Value → Doing Frame C) (step : (to : ℕ) → (a b : Operand) → Step)
      (by : Value → Value → Doing Frame Value) (source : A → B → Doing Frame C)
      → ((v u : Value) (rest : Rest Frame C) (f : Frame) (w : World) → source (of v) (of_other u) rest f w ≡ by v u (λ z. of_value (Some z) rest) f w)
      → ((v u : Value) (w : World) → Blind Value (by v u) w)
      → ((to : ℕ) (a e : Operand) (code : Steps) (own : Frame) (w : World) (k : ℕ)
      → at (step to a e ∷ code) own w (suc k) ≡ read a (λ v. read e (λ u. by v u (λ z own w. at code (with_temp to (by_name (Some z)) own) w k))) own w)
      → Made C (m >>= λ v. o >>= source v) of_value false (λ to d code. both_code x y d (λ a e. step to a e ∷ code))
  two_made one other of_value step by source same blind is =
      two_gives one other of_value (λ o. false ≡ false → IsSome o) (λ z. z) (λ z q. (z, refl)) step by source same blind is

  -- ---- what has an expression's value has its effect

  pub as_effect : {m : Doing Frame (Option Value)} {lacks : Bool} {make : (to d : ℕ) → Steps → Steps} → Valued m lacks make → Effects m (λ d. make d d)
  as_effect one = record {
    ends = λ d code. one.ends d d code;
    does = λ d code rest b old f own w lt j e next. one.does d d code rest b old f own w lt j e
        (λ o f own w j some. next o f (with_temp d (by_name o) own) w (scratch locals d o j (omega arith)));
  }

  -- ---- results

  result_ends : (to : Option ℕ) (a : Operand) (code : Steps) → Ends code (result_code to a code)
  result_ends None a code = ends_same
  result_ends (Some to) a code = ends_more _ ends_same

  -- ---- conditions

  abbrev goes : (when t : Bool) → (to code : Steps) → Steps
  goes = Making.goes p c n locals cs g

  pub on_value : {x : Part} {m : Doing Frame Value} → Uses Value x m (λ v. v)
      → Branches m (λ when to d code. code_of x d (S.Branch when (operand x d) to ∷ code))
  on_value {x} {m} one = record {
    ends = λ when to d code. ends_then (ends_more _ ends_same) (Making.code_ends p c n locals cs g one d (S.Branch when (operand x d) to ∷ code));
    does = λ when to d code rest b old f own w lt j e next.
        Making.code_does p c n locals cs g one d (S.Branch when (operand x d) to ∷ code) (λ v. rest (is_true v))
        (λ k v own w. at (goes when (is_true v) (led g to) code) own w k) b old f own w lt j e
        (λ f own w j k. refl) (λ v f own w j r. next (is_true v) f own w j);
  }
