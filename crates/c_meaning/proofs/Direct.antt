-- A part of a run comes to one result, or ends the run, whatever the rest of the run is: so it can be read as a function from worlds to outcomes.
use Rattle.std.proofs.Common.{◌≡◌, refl, ◌∙◌, ℕ, zero, suc, ◌+◌, Bool, true, false, ◌&&◌, nat_lt, if◌then◌else◌, List, [], ◌∷◌, length, Option, Some, None}
use Rattle.std.proofs.Common.{arith}
use Rattle.lay_base.specs.declared.faults.RoomKind.TheVariants.{Live, Depth}
use Rattle.lay_base.specs.declared.faults.UndefinedKind.{UndefinedKind}
use Rattle.lay_base.specs.declared.place.Place.{Place}
use Rattle.c_typed.specs.declared.program.Local.{Local}
use Rattle.c_typed.specs.Trees.{Expression, Path, Statement, Statements}
use Rattle.c_typed.specs.Programs.{ProgramData}
use Rattle.block_memory.specs.declared.kinds.BlockKind.{BlockKind}
use Rattle.block_memory.specs.Blocks.{Memory}
use Rattle.block_memory.specs.Lifetimes.{with_block}
use Rattle.block_memory.specs.RunWorlds.Doing.{Rest, Doing, ◌>>=◌, ◌>>◌, pure, is_undefined, memory_now, with_memory, note, turn_of, turn, make, deeper}
use Rattle.block_memory.specs.RunWorlds.Doing.{less_deep, leave, apart}
use Rattle.block_memory.specs.RunWorlds.Events.{Event, got, left}
use Rattle.block_memory.specs.RunWorlds.Library.{next_of, getchar}
use Rattle.block_memory.specs.declared.run_worlds.value.Value.{Value}
use Rattle.block_memory.specs.RunWorlds.Worlds.{World, End, ends, goes_on, undefined, out_of_room, greatest_live, greatest_depth, live_bytes}
use Rattle.block_memory.specs.declared.run_worlds.way.Way.{Way}
use Rattle.c_meaning.specs.Expressions.{value, used, spot}
use Rattle.c_meaning.specs.Frames.{Frame}
use Rattle.c_meaning.specs.declared.frame.Spot.{Spot}
use Rattle.c_meaning.specs.Run.{called}
use Rattle.c_meaning.specs.Statements.{execute, execute_all}
use Rattle.c_meaning.specs.Outcomes.{Outcome, comes, over, with_rest, and_then, IsWithin}
use Rattle.c_meaning.proofs.Closed.{Relation, stops}
use Rattle.c_meaning.proofs.ClosedCalls as Calls
use Rattle.c_meaning.proofs.ClosedExpressions as Expressions
use Rattle.c_meaning.proofs.ClosedStatements as Statements

pub record Direct (F A : Type 0) (m : Doing F A) : Type 0 where
  pub outcome : F → World → Outcome F A
  pub is : (rest : Rest F A) (f : F) (w : World) → m rest f w ≡ with_rest (outcome f w) rest
  pub within : (f : F) (w : World) → IsWithin w.turns (outcome f w)

-- ---- parts

pub joined : {F A B : Type 0} (o : Outcome F A) (next : A → F → World → Outcome F B) (rest : Rest F B)
    → with_rest o (λ x f w. with_rest (next x f w) rest) ≡ with_rest (and_then o next) rest
joined (comes x f w) next rest = refl
joined (over e) next rest = refl

pub joined_within : {F A B : Type 0} (t : ℕ) (o : Outcome F A) (next : A → F → World → Outcome F B) → IsWithin t o
    → ((x : A) (f : F) (w : World) → IsWithin w.turns (next x f w)) → IsWithin t (and_then o next)
joined_within t (comes x f w) next h k = fewer (next x f w) (k x f w)
  where
    fewer : {F B : Type 0} (o : Outcome F B) → IsWithin w.turns o → IsWithin t o
    fewer (comes y g u) i = omega arith
    fewer (over e) i = tt
joined_within t (over e) next h k = tt

abbrev pub pure_direct : (b : ℕ) (F A : Type 0) (x : A) → Direct F A (pure x)
pure_direct b F A x = record { outcome = λ f w. comes x f w; is = λ k f w. refl; within = λ f w. omega arith }

abbrev pub bind_direct : (b : ℕ) (F A B : Type 0) (m m' : Doing F A) (next next' : A → Doing F B) → Direct F A m' → ((x : A) → Direct F B (next' x))
    → Direct F B (m' >>= next')
bind_direct b F A B m m' next next' one other = record {
  outcome = λ f w. and_then (one.outcome f w) (λ x. (other x).outcome);
  is = λ k f w. one.is (λ x. next' x k) f w ∙ (λ i. with_rest (one.outcome f w) (λ x g u. (other x).is k g u i)) ∙ joined (one.outcome f w) (λ x. (other x).outcome) k;
  within = λ f w. joined_within w.turns (one.outcome f w) (λ x. (other x).outcome) (one.within f w) (λ x. (other x).within);
}

abbrev pub end_direct : (b : ℕ) (F A : Type 0) (status : ℕ) → Direct F A (λ rest f w. ends status w)
end_direct b F A status = record { outcome = λ f w. over (ends status w); is = λ k f w. refl; within = λ f w. tt }

abbrev pub undefined_direct : (b : ℕ) (F A : Type 0) (kind : UndefinedKind) (place : Place) → Direct F A (is_undefined kind place)
undefined_direct b F A kind place = record { outcome = λ f w. over (undefined kind place w); is = λ k f w. refl; within = λ f w. tt }

abbrev pub AreOne : (b n m : ℕ) → Type 0
AreOne b n m = n ≡ m

pub none_direct : (b : ℕ) (F A : Type 0) → AreOne b zero zero → Direct F A stops
none_direct b F A e = record { outcome = λ f w. over (goes_on w); is = λ k f w. refl; within = λ f w. tt }

-- ---- turns

abbrev pub turn_outcome : {F A : Type 0} → (t : ℕ) → (F → World → Outcome F A) → F → World → Outcome F A
turn_outcome zero next f w = over (goes_on w)
turn_outcome (suc t) next f w = next f (record w { turns = t })

pub turned : (t : ℕ) (F A : Type 0) (m : Doing F A) (one : Direct F A m) (k : Rest F A) (f : F) (w : World)
    → turn_of t (λ x. m k) f w ≡ with_rest (turn_outcome t one.outcome f w) k
turned zero F A m one k f w = refl
turned (suc t) F A m one k f w = one.is k f (record w { turns = t })

pub turned_within : (t : ℕ) (F A : Type 0) (m : Doing F A) (one : Direct F A m) (f : F) (w : World) → IsWithin t (turn_outcome t one.outcome f w)
turned_within zero F A m one f w = tt
turned_within (suc t) F A m one f w = fewer (one.outcome f (record w { turns = t })) (one.within f (record w { turns = t }))
  where
    fewer : (o : Outcome F A) → IsWithin t o → IsWithin (suc t) o
    fewer (comes x g u) h = omega arith
    fewer (over e) h = tt

abbrev pub behind_turn : {F A : Type 0} {m : Doing F A} → Direct F A m → Direct F A (turn >> m)
behind_turn one = record {
  outcome = λ f w. turn_outcome w.turns one.outcome f w;
  is = λ k f w. turned w.turns _ _ _ one k f w;
  within = λ f w. turned_within w.turns _ _ _ one f w;
}

pub turn_direct : (b n n' : ℕ) (F A : Type 0) (m m' : Doing F A) → AreOne b (suc n) (suc n') → ((c : ℕ) → AreOne c n n' → Direct F A m') → Direct F A (turn >> m')
turn_direct b n n' F A m m' e same = behind_turn (same b (omega arith))

pub not_left : (b n : ℕ) → AreOne b zero (suc n) → ⊥
not_left b n e = omega arith

pub not_right : (b n : ℕ) → AreOne b (suc n) zero → ⊥
not_right b n e = omega arith

pub one_more : (b n m : ℕ) → AreOne b n m → AreOne b (suc n) (suc m)
one_more b n m e = omega arith

-- ---- the world

pub memory_direct : (b : ℕ) (F : Type 0) → Direct F Memory memory_now
memory_direct b F = record { outcome = λ f w. comes w.memory f w; is = λ k f w. refl; within = λ f w. omega arith }

pub with_memory_direct : (b : ℕ) (F : Type 0) (m : Memory) → Direct F (Unit {0}) (with_memory m)
with_memory_direct b F m = record { outcome = λ f w. comes tt f (record w { memory = m }); is = λ k f w. refl; within = λ f w. omega arith }

pub note_direct : (b : ℕ) (F : Type 0) (event : Event) → Direct F (Unit {0}) (note event)
note_direct b F event = record { outcome = λ f w. comes tt f (record w { trace = event ∷ w.trace }); is = λ k f w. refl; within = λ f w. omega arith }

got_direct : (input : List ℕ) (F : Type 0) → Direct F Value (next_of input)
got_direct [] F = record { outcome = λ f w. comes _ f (record w { trace = got None ∷ w.trace }); is = λ k f w. refl; within = λ f w. omega arith }
got_direct (byte ∷ more) F = record {
  outcome = λ f w. comes _ f (record w { input = more; trace = got (Some byte) ∷ w.trace });
  is = λ k f w. refl;
  within = λ f w. omega arith;
}

pub getchar_direct : (b : ℕ) (F : Type 0) → Direct F Value getchar
getchar_direct b F = record {
  outcome = λ f w. (got_direct w.input F).outcome f w;
  is = λ k f w. (got_direct w.input F).is k f w;
  within = λ f w. (got_direct w.input F).within f w;
}

short : {F A : Type 0} (test : Bool) (e : End) (x : A) (f : F) (w : World) (k : Rest F A)
    → (if test then e else k x f w) ≡ with_rest (if test then over e else comes x f w) k
short true e x f w k = refl
short false e x f w k = refl

short_within : {F A : Type 0} (test : Bool) (e : End) (x : A) (f : F) (w : World) → IsWithin w.turns (if test then over e else comes x f w)
short_within true e x f w = tt
short_within false e x f w = omega arith

pub make_direct : (b : ℕ) (F : Type 0) (size : ℕ) (kind : BlockKind) → Direct F ℕ (make size kind)
make_direct b F size kind = record {
  outcome = λ f w. if w.is_limited && nat_lt greatest_live (live_bytes w.memory + size) then over (out_of_room Live (live_bytes w.memory + size) w)
      else comes (length w.memory) f (record w { memory = with_block w.memory size kind });
  is = λ k f w. short (w.is_limited && nat_lt greatest_live (live_bytes w.memory + size)) (out_of_room Live (live_bytes w.memory + size) w)
      (length w.memory) f (record w { memory = with_block w.memory size kind }) k;
  within = λ f w. short_within (w.is_limited && nat_lt greatest_live (live_bytes w.memory + size)) (out_of_room Live (live_bytes w.memory + size) w)
      (length w.memory) f (record w { memory = with_block w.memory size kind });
}

pub deeper_direct : (b : ℕ) (F : Type 0) → Direct F (Unit {0}) deeper
deeper_direct b F = record {
  outcome = λ f w. if w.is_limited && nat_lt greatest_depth (w.depth + 1) then over (out_of_room Depth (w.depth + 1) w)
      else comes tt f (record w { depth = w.depth + 1 });
  is = λ k f w. short (w.is_limited && nat_lt greatest_depth (w.depth + 1)) (out_of_room Depth (w.depth + 1) w) tt f (record w { depth = w.depth + 1 }) k;
  within = λ f w. short_within (w.is_limited && nat_lt greatest_depth (w.depth + 1)) (out_of_room Depth (w.depth + 1) w) tt f (record w { depth = w.depth + 1 });
}

pub leave_direct : (b : ℕ) (F : Type 0) → Direct F (Unit {0}) leave
leave_direct b F = record {
  outcome = λ f w. comes tt f (record w { depth = less_deep w.depth; trace = left ∷ w.trace });
  is = λ k f w. refl;
  within = λ f w. omega arith;
}

pub own_direct : (b : ℕ) (F A : Type 0) (get : F → A) (set : F → F) → Direct F A (λ rest f w. rest (get f) (set f) w)
own_direct b F A get set = record { outcome = λ f w. comes (get f) (set f) w; is = λ k f w. refl; within = λ f w. omega arith }

pub apart_direct : (b : ℕ) (F A : Type 0) (own : F) (m m' : Doing F A) → Direct F A m' → Direct F A (apart own m')
apart_direct b F A own m m' one = record {
  outcome = λ f w. and_then (one.outcome own w) (λ x g u. comes x f u);
  is = λ k f w. one.is (λ x g u. k x f u) own w ∙ joined (one.outcome own w) (λ x g u. comes x f u) k;
  within = λ f w. joined_within w.turns (one.outcome own w) (λ x g u. comes x f u) (one.within own w) (λ x g u. omega arith);
}

abbrev pub by_outcome : Relation
by_outcome = record {
  Fuels = AreOne;
  Related = λ b F A m m'. Direct F A m';
  on_pure = pure_direct;
  on_bind = bind_direct;
  on_end = end_direct;
  on_undefined = undefined_direct;
  on_none = none_direct;
  on_turn = turn_direct;
  not_left = not_left;
  not_right = not_right;
  one_more = one_more;
  on_memory = memory_direct;
  on_with_memory = with_memory_direct;
  on_note = note_direct;
  on_getchar = getchar_direct;
  on_make = make_direct;
  on_deeper = deeper_direct;
  on_leave = leave_direct;
  on_own = own_direct;
  on_apart = apart_direct;
}

-- the theorem: what a call comes to
pub called_direct : (p : ProgramData) (n : ℕ) (place : Place) (f : ℕ) (values : List Value) → Direct Frame (Option Value) (called p n place f values)
called_direct p n place f values = Calls.called_alike by_outcome p n n 0 refl place f values

module _ (p : ProgramData) (n : ℕ) where
  pub value_direct : (e : Expression ℕ) → Direct Frame (Option Value) (value p (called p n) e)
  value_direct e = Expressions.value_alike by_outcome p (called p n) (called p n) 0 (called_direct p n) e

  pub used_direct : (e : Expression ℕ) → Direct Frame Value (used p (called p n) e)
  used_direct e = Expressions.used_alike by_outcome p (called p n) (called p n) 0 (called_direct p n) e

  pub spot_direct : (addressed : Bool) (q : Path ℕ) → Direct Frame Spot (spot p (called p n) addressed q)
  spot_direct addressed q = Expressions.spot_alike by_outcome p (called p n) (called p n) 0 (called_direct p n) addressed q

  pub executed_direct : (g : ℕ) (locals : List Local) (l : ℕ) (s : Statement ℕ) → Direct Frame Way (execute p (called p n) g locals n l s)
  executed_direct g locals l s = Statements.execute_alike by_outcome p (called p n) (called p n) n n (λ b h. called_direct p n) g locals l s 0 refl

  pub executed_all_direct : (g : ℕ) (locals : List Local) (l : ℕ) (all : Statements ℕ) → Direct Frame Way (execute_all p (called p n) g locals n l all)
  executed_all_direct g locals l all =
      Statements.execute_all_alike by_outcome p (called p n) (called p n) n n (λ b h. called_direct p n) g locals l all 0 refl
