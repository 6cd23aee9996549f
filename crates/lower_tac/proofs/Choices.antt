-- Conditions, and what is chosen by them (C99 6.5.13 to 6.5.15, 6.5.17).
use Rattle.std.proofs.Common.{◌≡◌, ℕ, ◌<◌, Bool, true, false, not, ◌||◌, List, ◌∷◌, Option, Some, refl, sym, subst, length, if◌then◌else◌}
use Rattle.std.proofs.lemmas.Bool.{true≢false}
use Rattle.lay_base.specs.declared.place.Place.{Place}
use Rattle.c_types.specs.declared.ty.IntKind.{IntKind}
use Rattle.c_typed.specs.declared.operators.CompareOp.{CompareOp}
use Rattle.c_typed.specs.declared.program.Local.{Local}
use Rattle.c_typed.specs.Programs.{ProgramData}
use Rattle.block_memory.specs.RunWorlds.Doing.{Rest, Doing, ◌>>=◌, ◌>>◌, pure, tested, memory_now}
use Rattle.block_memory.specs.RunWorlds.LibraryCalls.{the, given}
use Rattle.block_memory.specs.RunWorlds.Operators.{is_true, flag, compared}
use Rattle.block_memory.specs.RunWorlds.Worlds.{World, End}
use Rattle.block_memory.specs.declared.run_worlds.value.Value.{Value}
use Rattle.block_memory.specs.declared.run_worlds.value.Value.TheVariants.{Word as word}
use Rattle.c_meaning.specs.Expressions.{or_no_value}
use Rattle.c_meaning.specs.Frames.{Frame}
use Rattle.c_meaning.specs.declared.frame.Slot.TheVariants.{ByName as by_name}
use Rattle.tac_ir.specs.Code.{Code, RoutineData, left, led}
use Rattle.tac_ir.specs.Covering.{Covers}
use Rattle.tac_ir.specs.Running.{Caller, with_temp}
use Rattle.tac_ir.specs.declared.step.Operand.TheVariants as O
use Rattle.tac_ir.specs.declared.step.Step.TheVariants as S
use Rattle.tac_ir.specs.declared.step.Target.{Target}
use Rattle.tac_ir.specs.declared.step.Target.TheVariants as To
use Rattle.lower_tac.specs.Parts.{Steps, Part, both_code}
use Rattle.lower_tac.proofs.Blind.{blind_covers, then_blind, sees, tests, back}
use Rattle.lower_tac.proofs.Base.{Joined, later}
use Rattle.lower_tac.proofs.Making as Making
use Rattle.lower_tac.proofs.Making.{Ends, ends_same, ends_more, ends_behind, ends_then, left_there, IsSome}

pub is_true_flag : (t : Bool) → is_true (flag t) ≡ t
is_true_flag true = refl
is_true_flag false = refl

module _ (p : ProgramData) (c : Code) (n : ℕ) (locals : List Local) (cs : List Caller) (g : RoutineData) where
  abbrev at : (code : Steps) → Frame → World → (steps : ℕ) → End
  at = Making.at p c n locals cs g

  abbrev Valued : Doing Frame (Option Value) → Bool → ((to d : ℕ) → Steps → Steps) → Type 0
  Valued = Making.Valued p c n locals cs g

  abbrev Effects : Doing Frame (Option Value) → ((d : ℕ) → Steps → Steps) → Type 0
  Effects = Making.Effects p c n locals cs g

  abbrev Uses : (A : Type 0) → Part → Doing Frame A → (Value → A) → Type 0
  Uses = Making.Uses p c n locals cs g

  abbrev Branches : Doing Frame Value → (Bool → Target → (d : ℕ) → Steps → Steps) → Type 0
  Branches = Making.Branches p c n locals cs g

  abbrev goes : (when t : Bool) → (to code : Steps) → Steps
  goes = Making.goes p c n locals cs g

  -- a jump to where so many steps are left
  there : {e : End} (code : Steps) (own : Frame) (w : World) → Ends code g.code → Covers e (at code own w) → Covers e (at (left (length code) g.code) own w)
  there {e} code own w is z = subst (λ (s : Steps). Covers e (at s own w)) (sym (left_there is)) z

  -- ---- comparisons

  pub compare_branches : {x y : Part} {m o : Doing Frame Value} (place : Place) (op : CompareOp) (kind : IntKind) (one : Uses Value x m (λ v. v)) (other : Uses Value y o (λ v. v))
      → Branches (m >>= λ v. o >>= λ u. memory_now >>= λ z. given (tested place (compared op z kind v u)) >>= or_no_value place)
      (λ when to d code. both_code x y d (λ a e. S.Test place op kind when a e to ∷ code))
  compare_branches {x} {y} {m} {o} place op kind one other = record {
    ends = λ when to d code. Making.both_ends p c n locals cs g one other d (λ a e. S.Test place op kind when a e to ∷ code) code (λ a e. ends_more _ ends_same);
    does = λ when to d code rest b old f own w lt j e next.
        Making.both_does p c n locals cs g one other d (λ a e. S.Test place op kind when a e to ∷ code) code
        (λ v u. (memory_now >>= λ z. tested place (compared op z kind v u)) (λ v. rest (is_true v)))
        (λ k v u. (memory_now >>= λ z. tested place (compared op z kind v u)) (λ v own w. at (goes when (is_true v) (led g to) code) own w k)) b old f own w lt j e
        (λ a own w k. refl)
        (λ v u f own w j r. blind_covers (then_blind {next = λ z. tested place (compared op z kind v u)} (sees w) (λ z w. tests place (compared op z kind v u) w))
        (λ v. rest (is_true v)) f own (λ k v own w. at (goes when (is_true v) (led g to) code) own w k)
        (λ v t h. next (is_true v) f own t (later locals t h j)));
  }

  -- ---- `!`

  goes_not : (when t : Bool) (to code : Steps) → goes (not when) t to code ≡ goes when (not t) to code
  goes_not true true to code = refl
  goes_not true false to code = refl
  goes_not false true to code = refl
  goes_not false false to code = refl

  pub not_branches : {m : Doing Frame Value} {make : Bool → Target → (d : ℕ) → Steps → Steps} (place : Place) → Branches m make
      → Branches (the m (λ v. flag (not (is_true v))) >>= or_no_value place) (λ when to d code. make (not when) to d code)
  not_branches {m} {make} place one = record {
    ends = λ when to d code. one.ends (not when) to d code;
    does = λ when to d code rest b old f own w lt j e next.
        one.does (not when) to d code (λ t. rest (is_true (flag (not t)))) b old f own w lt j e (λ t f own w j.
        subst (λ (s : Bool). Covers (rest s f w) (at (goes (not when) t (led g to) code) own w)) (sym (is_true_flag (not t)))
        (subst (λ (s : Steps). Covers (rest (not t) f w) (at s own w)) (sym (goes_not when t (led g to) code)) (next (not t) f own w j)));
  }

  -- ---- `&&` and `||`, as conditions

  abbrev both_of : Doing Frame Value → Doing Frame Value → Doing Frame (Option Value)
  both_of m o = m >>= λ v. if is_true v then the o (λ u. flag (is_true u)) else pure (Some (flag false))

  abbrev either_of : Doing Frame Value → Doing Frame Value → Doing Frame (Option Value)
  either_of m o = m >>= λ v. if is_true v then pure (Some (flag true)) else the o (λ u. flag (is_true u))

  -- the right operand decides
  by_right : {o : Doing Frame Value} {make : Bool → Target → (d : ℕ) → Steps → Steps} (other : Branches o make) (when : Bool) (to : Target) (d : ℕ) (code : Steps) (rest : Rest Frame Bool)
      (b : ℕ) (old f own : Frame) (w : World) → b < n → Joined locals b d old f own w → Ends (make when to d code) g.code
      → ((t : Bool) (f own : Frame) (w : World) → Joined locals b d old f own w → Covers (rest t f w) (at (goes when t (led g to) code) own w))
      → Covers (o (λ u. rest (is_true (flag (is_true u)))) f w) (at (make when to d code) own w)
  by_right {o} {make} other when to d code rest b old f own w lt j e next =
      other.does when to d code (λ t. rest (is_true (flag t))) b old f own w lt j e (λ t f own w j.
      subst (λ (s : Bool). Covers (rest s f w) (at (goes when t (led g to) code) own w)) (sym (is_true_flag t)) (next t f own w j))

  abbrev both_make : (one other : Bool → Target → (d : ℕ) → Steps → Steps) → Bool → Target → (d : ℕ) → Steps → Steps
  both_make one other false to d code = one false to d (other false to d code)
  both_make one other true to d code = one false (To.Left (length code)) d (other true to d code)

  pub both_branches : {m o : Doing Frame Value} {make more : Bool → Target → (d : ℕ) → Steps → Steps} (place : Place) → Branches m make → Branches o more
      → Branches (both_of m o >>= or_no_value place) (both_make make more)
  both_branches {m} {o} {make} {more} place one other = record { ends = ends; does = does }
    where
      ends : (when : Bool) (to : Target) (d : ℕ) (code : Steps) → Ends code (both_make make more when to d code)
      ends false to d code = ends_then (other.ends false to d code) (one.ends false to d (more false to d code))
      ends true to d code = ends_then (other.ends true to d code) (one.ends false (To.Left (length code)) d (more true to d code))

      does : (when : Bool) (to : Target) (d : ℕ) (code : Steps) (rest : Rest Frame Bool) (b : ℕ) (old f own : Frame) (w : World) → b < n
          → Joined locals b d old f own w → Ends (both_make make more when to d code) g.code
          → ((t : Bool) (f own : Frame) (w : World) → Joined locals b d old f own w → Covers (rest t f w) (at (goes when t (led g to) code) own w))
          → Covers ((both_of m o >>= or_no_value place) (λ v. rest (is_true v)) f w) (at (both_make make more when to d code) own w)
      does false to d code rest b old f own w lt j e next =
          one.does false to d (more false to d code) (λ t. ((if t then the o (λ u. flag (is_true u)) else pure (Some (flag false))) >>= or_no_value place) (λ v. rest (is_true v)))
          b old f own w lt j e (λ t f own w j. by_test t f own w j)
        where
          by_test : (t : Bool) (f own : Frame) (w : World) → Joined locals b d old f own w
              → Covers (((if t then the o (λ u. flag (is_true u)) else pure (Some (flag false))) >>= or_no_value place) (λ v. rest (is_true v)) f w)
              (at (goes false t (led g to) (more false to d code)) own w)
          by_test true f own w j = by_right other false to d code rest b old f own w lt j (ends_then (one.ends false to d (more false to d code)) e) next
          by_test false f own w j = next false f own w j
      does true to d code rest b old f own w lt j e next =
          one.does false (To.Left (length code)) d (more true to d code)
          (λ t. ((if t then the o (λ u. flag (is_true u)) else pure (Some (flag false))) >>= or_no_value place) (λ v. rest (is_true v)))
          b old f own w lt j e (λ t f own w j. by_test t f own w j)
        where
          behind : Ends (more true to d code) g.code
          behind = ends_then (one.ends false (To.Left (length code)) d (more true to d code)) e

          by_test : (t : Bool) (f own : Frame) (w : World) → Joined locals b d old f own w
              → Covers (((if t then the o (λ u. flag (is_true u)) else pure (Some (flag false))) >>= or_no_value place) (λ v. rest (is_true v)) f w)
              (at (goes false t (left (length code) g.code) (more true to d code)) own w)
          by_test true f own w j = by_right other true to d code rest b old f own w lt j behind next
          by_test false f own w j = there code own w (ends_then (other.ends true to d code) behind) (next false f own w j)

  abbrev either_make : (one other : Bool → Target → (d : ℕ) → Steps → Steps) → Bool → Target → (d : ℕ) → Steps → Steps
  either_make one other true to d code = one true to d (other true to d code)
  either_make one other false to d code = one true (To.Left (length code)) d (other false to d code)

  pub either_branches : {m o : Doing Frame Value} {make more : Bool → Target → (d : ℕ) → Steps → Steps} (place : Place) → Branches m make → Branches o more
      → Branches (either_of m o >>= or_no_value place) (either_make make more)
  either_branches {m} {o} {make} {more} place one other = record { ends = ends; does = does }
    where
      ends : (when : Bool) (to : Target) (d : ℕ) (code : Steps) → Ends code (either_make make more when to d code)
      ends true to d code = ends_then (other.ends true to d code) (one.ends true to d (more true to d code))
      ends false to d code = ends_then (other.ends false to d code) (one.ends true (To.Left (length code)) d (more false to d code))

      does : (when : Bool) (to : Target) (d : ℕ) (code : Steps) (rest : Rest Frame Bool) (b : ℕ) (old f own : Frame) (w : World) → b < n
          → Joined locals b d old f own w → Ends (either_make make more when to d code) g.code
          → ((t : Bool) (f own : Frame) (w : World) → Joined locals b d old f own w → Covers (rest t f w) (at (goes when t (led g to) code) own w))
          → Covers ((either_of m o >>= or_no_value place) (λ v. rest (is_true v)) f w) (at (either_make make more when to d code) own w)
      does true to d code rest b old f own w lt j e next =
          one.does true to d (more true to d code) (λ t. ((if t then pure (Some (flag true)) else the o (λ u. flag (is_true u))) >>= or_no_value place) (λ v. rest (is_true v)))
          b old f own w lt j e (λ t f own w j. by_test t f own w j)
        where
          by_test : (t : Bool) (f own : Frame) (w : World) → Joined locals b d old f own w
              → Covers (((if t then pure (Some (flag true)) else the o (λ u. flag (is_true u))) >>= or_no_value place) (λ v. rest (is_true v)) f w)
              (at (goes true t (led g to) (more true to d code)) own w)
          by_test true f own w j = next true f own w j
          by_test false f own w j = by_right other true to d code rest b old f own w lt j (ends_then (one.ends true to d (more true to d code)) e) next
      does false to d code rest b old f own w lt j e next =
          one.does true (To.Left (length code)) d (more false to d code)
          (λ t. ((if t then pure (Some (flag true)) else the o (λ u. flag (is_true u))) >>= or_no_value place) (λ v. rest (is_true v)))
          b old f own w lt j e (λ t f own w j. by_test t f own w j)
        where
          behind : Ends (more false to d code) g.code
          behind = ends_then (one.ends true (To.Left (length code)) d (more false to d code)) e

          by_test : (t : Bool) (f own : Frame) (w : World) → Joined locals b d old f own w
              → Covers (((if t then pure (Some (flag true)) else the o (λ u. flag (is_true u))) >>= or_no_value place) (λ v. rest (is_true v)) f w)
              (at (goes true t (left (length code) g.code) (more false to d code)) own w)
          by_test true f own w j = there code own w (ends_then (other.ends false to d code) behind) (next true f own w j)
          by_test false f own w j = by_right other false to d code rest b old f own w lt j behind next

  -- ---- their values: 1 or 0, on two ways

  abbrev number : (to v : ℕ) → Steps → Steps
  number to v code = S.Set to (O.Word v) ∷ code

  abbrev ways : (to first second : ℕ) → Steps → Steps
  ways to first second code = number to first (S.Jump (To.Left (length code)) ∷ number to second code)

  ways_end : (to first second : ℕ) (code : Steps) → Ends code (ways to first second code)
  ways_end to first second code = ends_more _ (ends_more _ (ends_more _ ends_same))

  first_way : {f own : Frame} {w : World} (to first second : ℕ) (code : Steps) (rest : Rest Frame (Option Value)) → Ends (ways to first second code) g.code
      → Covers (rest (Some (word first)) f w) (at code (with_temp to (by_name (Some (word first))) own) w)
      → Covers (rest (Some (word first)) f w) (at (ways to first second code) own w)
  first_way {f = f} {own = own} {w = w} to first second code rest e next =
      back (λ k. refl) (back (λ k. refl) (there code (with_temp to (by_name (Some (word first))) own) w (ends_then (ways_end to first second code) e) next))

  second_way : {f own : Frame} {w : World} (to first second : ℕ) (code : Steps) (rest : Rest Frame (Option Value)) → Ends (ways to first second code) g.code
      → Covers (rest (Some (word second)) f w) (at code (with_temp to (by_name (Some (word second))) own) w)
      → Covers (rest (Some (word second)) f w) (at (left (length (number to second code)) g.code) own w)
  second_way {f = f} {own = own} {w = w} to first second code rest e next =
      there (number to second code) own w (ends_behind (ends_behind e)) (back (λ k. refl) next)

  pub both_valued : {m o : Doing Frame Value} {make more : Bool → Target → (d : ℕ) → Steps → Steps} → Branches m make → Branches o more
      → Valued (both_of m o) false (λ to d code. make false (To.Left (length (number to 0 code))) d (more false (To.Left (length (number to 0 code))) d (ways to 1 0 code)))
  both_valued {m} {o} {make} {more} one other = record { ends = ends; does = does }
    where
      ends : (to d : ℕ) (code : Steps) → Ends code (make false (To.Left (length (number to 0 code))) d (more false (To.Left (length (number to 0 code))) d (ways to 1 0 code)))
      ends to d code = ends_then (ways_end to 1 0 code) (ends_then (other.ends false (To.Left (length (number to 0 code))) d (ways to 1 0 code))
          (one.ends false (To.Left (length (number to 0 code))) d (more false (To.Left (length (number to 0 code))) d (ways to 1 0 code))))

      does : (to d : ℕ) (code : Steps) (rest : Rest Frame (Option Value)) (b : ℕ) (old f own : Frame) (w : World) → b < n → Joined locals b d old f own w
          → Ends (make false (To.Left (length (number to 0 code))) d (more false (To.Left (length (number to 0 code))) d (ways to 1 0 code))) g.code
          → ((o : Option Value) (f own : Frame) (w : World) → Joined locals b d old f own w → (false ≡ false → IsSome o)
          → Covers (rest o f w) (at code (with_temp to (by_name o) own) w))
          → Covers (both_of m o rest f w) (at (make false (To.Left (length (number to 0 code))) d (more false (To.Left (length (number to 0 code))) d (ways to 1 0 code))) own w)
      does to d code rest b old f own w lt j e next =
          one.does false no d (more false no d (ways to 1 0 code)) (λ t. (if t then the o (λ u. flag (is_true u)) else pure (Some (flag false))) rest) b old f own w lt j e
          (λ t f own w j. by_left t f own w j)
        where
          no : Target
          no = To.Left (length (number to 0 code))

          right : Ends (more false no d (ways to 1 0 code)) g.code
          right = ends_then (one.ends false no d (more false no d (ways to 1 0 code))) e

          last : Ends (ways to 1 0 code) g.code
          last = ends_then (other.ends false no d (ways to 1 0 code)) right

          by_right_test : (t : Bool) (f own : Frame) (w : World) → Joined locals b d old f own w
              → Covers (rest (Some (flag t)) f w) (at (goes false t (left (length (number to 0 code)) g.code) (ways to 1 0 code)) own w)
          by_right_test true f own w j = first_way to 1 0 code rest last (next (Some (word 1)) f own w j (λ q. (word 1, refl)))
          by_right_test false f own w j = second_way to 1 0 code rest last (next (Some (word 0)) f own w j (λ q. (word 0, refl)))

          by_left : (t : Bool) (f own : Frame) (w : World) → Joined locals b d old f own w
              → Covers ((if t then the o (λ u. flag (is_true u)) else pure (Some (flag false))) rest f w)
              (at (goes false t (left (length (number to 0 code)) g.code) (more false no d (ways to 1 0 code))) own w)
          by_left true f own w j = other.does false no d (ways to 1 0 code) (λ t. rest (Some (flag t))) b old f own w lt j right by_right_test
          by_left false f own w j = second_way to 1 0 code rest last (next (Some (word 0)) f own w j (λ q. (word 0, refl)))

  pub either_valued : {m o : Doing Frame Value} {make more : Bool → Target → (d : ℕ) → Steps → Steps} → Branches m make → Branches o more
      → Valued (either_of m o) false (λ to d code. make true (To.Left (length (number to 1 code))) d (more true (To.Left (length (number to 1 code))) d (ways to 0 1 code)))
  either_valued {m} {o} {make} {more} one other = record { ends = ends; does = does }
    where
      ends : (to d : ℕ) (code : Steps) → Ends code (make true (To.Left (length (number to 1 code))) d (more true (To.Left (length (number to 1 code))) d (ways to 0 1 code)))
      ends to d code = ends_then (ways_end to 0 1 code) (ends_then (other.ends true (To.Left (length (number to 1 code))) d (ways to 0 1 code))
          (one.ends true (To.Left (length (number to 1 code))) d (more true (To.Left (length (number to 1 code))) d (ways to 0 1 code))))

      does : (to d : ℕ) (code : Steps) (rest : Rest Frame (Option Value)) (b : ℕ) (old f own : Frame) (w : World) → b < n → Joined locals b d old f own w
          → Ends (make true (To.Left (length (number to 1 code))) d (more true (To.Left (length (number to 1 code))) d (ways to 0 1 code))) g.code
          → ((o : Option Value) (f own : Frame) (w : World) → Joined locals b d old f own w → (false ≡ false → IsSome o)
          → Covers (rest o f w) (at code (with_temp to (by_name o) own) w))
          → Covers (either_of m o rest f w) (at (make true (To.Left (length (number to 1 code))) d (more true (To.Left (length (number to 1 code))) d (ways to 0 1 code))) own w)
      does to d code rest b old f own w lt j e next =
          one.does true so d (more true so d (ways to 0 1 code)) (λ t. (if t then pure (Some (flag true)) else the o (λ u. flag (is_true u))) rest) b old f own w lt j e
          (λ t f own w j. by_left t f own w j)
        where
          so : Target
          so = To.Left (length (number to 1 code))

          right : Ends (more true so d (ways to 0 1 code)) g.code
          right = ends_then (one.ends true so d (more true so d (ways to 0 1 code))) e

          last : Ends (ways to 0 1 code) g.code
          last = ends_then (other.ends true so d (ways to 0 1 code)) right

          by_right_test : (t : Bool) (f own : Frame) (w : World) → Joined locals b d old f own w
              → Covers (rest (Some (flag t)) f w) (at (goes true t (left (length (number to 1 code)) g.code) (ways to 0 1 code)) own w)
          by_right_test true f own w j = second_way to 0 1 code rest last (next (Some (word 1)) f own w j (λ q. (word 1, refl)))
          by_right_test false f own w j = first_way to 0 1 code rest last (next (Some (word 0)) f own w j (λ q. (word 0, refl)))

          by_left : (t : Bool) (f own : Frame) (w : World) → Joined locals b d old f own w
              → Covers ((if t then pure (Some (flag true)) else the o (λ u. flag (is_true u))) rest f w)
              (at (goes true t (left (length (number to 1 code)) g.code) (more true so d (ways to 0 1 code))) own w)
          by_left true f own w j = second_way to 0 1 code rest last (next (Some (word 1)) f own w j (λ q. (word 1, refl)))
          by_left false f own w j = other.does true so d (ways to 0 1 code) (λ t. rest (Some (flag t))) b old f own w lt j right by_right_test

  -- ---- `?:` and the comma

  pub choose_valued : {m : Doing Frame Value} {o q : Doing Frame (Option Value)} {lacks_one lacks_other : Bool} {test : Bool → Target → (d : ℕ) → Steps → Steps}
      {make more : (to d : ℕ) → Steps → Steps} → Branches m test → Valued o lacks_one make → Valued q lacks_other more
      → Valued (m >>= λ v. if is_true v then o else q) (lacks_one || lacks_other)
      (λ to d code. test false (To.Left (length (more to d code))) d (make to d (S.Jump (To.Left (length code)) ∷ more to d code)))
  choose_valued {m} {o} {q} {lacks_one} {lacks_other} {test} {make} {more} first one other = record {
    ends = λ to d code. ends_then (other.ends to d code) (ends_then (ends_more _ ends_same) (ends_then (one.ends to d (S.Jump (To.Left (length code)) ∷ more to d code))
        (first.ends false (To.Left (length (more to d code))) d (make to d (S.Jump (To.Left (length code)) ∷ more to d code)))));
    does = does;
  }
    where
      left_some : (a e : Bool) → a || e ≡ false → a ≡ false
      left_some true e h = h
      left_some false e h = refl

      right_some : (a e : Bool) → a || e ≡ false → e ≡ false
      right_some true e h = absurd (true≢false h)
      right_some false e h = h

      does : (to d : ℕ) (code : Steps) (rest : Rest Frame (Option Value)) (b : ℕ) (old f own : Frame) (w : World) → b < n → Joined locals b d old f own w
          → Ends (test false (To.Left (length (more to d code))) d (make to d (S.Jump (To.Left (length code)) ∷ more to d code))) g.code
          → ((o : Option Value) (f own : Frame) (w : World) → Joined locals b d old f own w → (lacks_one || lacks_other ≡ false → IsSome o)
          → Covers (rest o f w) (at code (with_temp to (by_name o) own) w))
          → Covers ((m >>= λ v. if is_true v then o else q) rest f w)
          (at (test false (To.Left (length (more to d code))) d (make to d (S.Jump (To.Left (length code)) ∷ more to d code))) own w)
      does to d code rest b old f own w lt j e next =
          first.does false (To.Left (length (more to d code))) d (make to d (S.Jump (To.Left (length code)) ∷ more to d code)) (λ t. (if t then o else q) rest) b old f own w lt j e
          (λ t f own w j. by_test t f own w j)
        where
          second : Ends (make to d (S.Jump (To.Left (length code)) ∷ more to d code)) g.code
          second = ends_then (first.ends false (To.Left (length (more to d code))) d (make to d (S.Jump (To.Left (length code)) ∷ more to d code))) e

          third : Ends (more to d code) g.code
          third = ends_behind (ends_then (one.ends to d (S.Jump (To.Left (length code)) ∷ more to d code)) second)

          by_test : (t : Bool) (f own : Frame) (w : World) → Joined locals b d old f own w
              → Covers ((if t then o else q) rest f w)
              (at (goes false t (left (length (more to d code)) g.code) (make to d (S.Jump (To.Left (length code)) ∷ more to d code))) own w)
          by_test true f own w j = one.does to d (S.Jump (To.Left (length code)) ∷ more to d code) rest b old f own w lt j second (λ z f own w j some.
              back (λ k. refl) (there code (with_temp to (by_name z) own) w (ends_then (other.ends to d code) third)
              (next z f own w j (λ h. some (left_some lacks_one lacks_other h)))))
          by_test false f own w j = there (more to d code) own w third (other.does to d code rest b old f own w lt j third
              (λ z f own w j some. next z f own w j (λ h. some (right_some lacks_one lacks_other h))))

  pub comma_valued : {m o : Doing Frame (Option Value)} {lacks : Bool} {first : (d : ℕ) → Steps → Steps} {make : (to d : ℕ) → Steps → Steps} → Effects m first → Valued o lacks make
      → Valued (m >> o) lacks (λ to d code. first d (make to d code))
  comma_valued {m} {o} {lacks} {first} {make} one other = record {
    ends = λ to d code. ends_then (other.ends to d code) (one.ends d (make to d code));
    does = λ to d code rest b old f own w lt j e next. one.does d (make to d code) (λ z. o rest) b old f own w lt j e
        (λ z f own w j. other.does to d code rest b old f own w lt j (ends_then (one.ends d (make to d code)) e) next);
  }

  pub comma_effects : {m o : Doing Frame (Option Value)} {first more : (d : ℕ) → Steps → Steps} → Effects m first → Effects o more
      → Effects (m >> o) (λ d code. first d (more d code))
  comma_effects {m} {o} {first} {more} one other = record {
    ends = λ d code. ends_then (other.ends d code) (one.ends d (more d code));
    does = λ d code rest b old f own w lt j e next. one.does d (more d code) (λ z. o rest) b old f own w lt j e
        (λ z f own w j. other.does d code rest b old f own w lt j (ends_then (one.ends d (more d code)) e) next);
  }
