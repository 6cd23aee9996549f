-- The numbers that bound calls and loops do not show, where they are more than the turns that are left.
use Rattle.std.proofs.Common.{◌≡◌, refl, ℕ, zero, suc, ◌+◌, ◌<◌, ◌≤◌, Bool, List, Option, if◌then◌else◌, nat_lt, [], ◌∷◌, ◌&&◌, true, false, arith}
use Rattle.lay_base.specs.declared.faults.RoomKind.TheVariants.{Live, Depth}
use Rattle.lay_base.specs.declared.faults.UndefinedKind.{UndefinedKind}
use Rattle.lay_base.specs.declared.place.Place.{Place}
use Rattle.c_typed.specs.declared.program.Local.{Local}
use Rattle.c_typed.specs.Trees.{Expression, Path, Statement, Statements, Arms}
use Rattle.c_typed.specs.Programs.{ProgramData}
use Rattle.block_memory.specs.declared.kinds.BlockKind.{BlockKind}
use Rattle.block_memory.specs.Blocks.{Memory}
use Rattle.block_memory.specs.Lifetimes.{with_block}
use Rattle.block_memory.specs.RunWorlds.Doing.{Rest, Doing, ◌>>=◌, ◌>>◌, pure, is_undefined, memory_now, with_memory, note, turn_of, turn, make, deeper, leave}
use Rattle.block_memory.specs.RunWorlds.Doing.{apart}
use Rattle.block_memory.specs.RunWorlds.Events.{Event}
use Rattle.block_memory.specs.RunWorlds.Library.{next_of, getchar}
use Rattle.block_memory.specs.declared.run_worlds.value.Value.{Value}
use Rattle.block_memory.specs.RunWorlds.Worlds.{World, End, ends, out_of_room, greatest_live, greatest_depth, live_bytes}
use Rattle.block_memory.specs.RunWorlds.Ways.{and_again, loop, loop_behind}
use Rattle.block_memory.specs.declared.run_worlds.way.Way.{Way}
use Rattle.block_memory.specs.declared.run_worlds.way.Way.TheVariants.{Normally as normally}
use Rattle.c_meaning.specs.Expressions.{value, used, spot}
use Rattle.c_meaning.specs.Frames.{Frame}
use Rattle.c_meaning.specs.declared.frame.Spot.{Spot}
use Rattle.c_meaning.specs.Run.{called}
use Rattle.c_meaning.specs.Statements.{execute, execute_all, enter}
use Rattle.c_meaning.proofs.Closed.{Relation, stops}
use Rattle.c_meaning.proofs.ClosedCalls as Calls
use Rattle.c_meaning.proofs.ClosedExpressions as Expressions
use Rattle.c_meaning.proofs.ClosedStatements as Statements

-- what is done with a result is the same where at most so many turns are left
abbrev pub Rests : (b : ℕ) → (F A : Type 0) → (rest rest' : Rest F A) → Type 0
Rests b F A rest rest' = (x : A) (f : F) (w : World) → w.turns ≤ b → rest x f w ≡ rest' x f w

-- both do the same where at most b turns are left; and no more are left behind
pub record Same (b : ℕ) (F A : Type 0) (m m' : Doing F A) : Type 0 where
  pub at : (rest rest' : Rest F A) (f : F) (w : World) → w.turns ≤ b → Rests w.turns F A rest rest' → m rest f w ≡ m' rest' f w

pub pure_same : (b : ℕ) (F A : Type 0) (x : A) → Same b F A (pure x) (pure x)
pure_same b F A x = record { at = λ k k' f w h c. c x f w (omega arith) }

pub bind_same : (b : ℕ) (F A B : Type 0) (m m' : Doing F A) (next next' : A → Doing F B) → Same b F A m m' → ((x : A) → Same b F B (next x) (next' x))
    → Same b F B (m >>= next) (m' >>= next')
bind_same b F A B m m' next next' one other = record {
  at = λ k k' f w h c.
      one.at (λ x. next x k) (λ x. next' x k') f w h (λ x g u i. (other x).at k k' g u (omega arith) (λ y a v j. c y a v (omega arith)));
}

pub end_same : (b : ℕ) (F A : Type 0) (status : ℕ) → Same b F A (λ rest f w. ends status w) (λ rest f w. ends status w)
end_same b F A status = record { at = λ k k' f w h c. refl }

pub undefined_same : (b : ℕ) (F A : Type 0) (kind : UndefinedKind) (place : Place) → Same b F A (is_undefined kind place) (is_undefined kind place)
undefined_same b F A kind place = record { at = λ k k' f w h c. refl }

-- both are more than the turns that are left
abbrev pub Suffice : (b n m : ℕ) → Type 0
Suffice b n m = (b < n) × (b < m)

pub none_same : (b : ℕ) (F A : Type 0) → Suffice b zero zero → Same b F A stops stops
none_same b F A h = absurd (omega (arith, h.0))

turned : (t b n n' : ℕ) (F A : Type 0) (m m' : Doing F A) → ((c : ℕ) → Suffice c n n' → Same c F A m m') → (k k' : Rest F A) (f : F) (w : World)
    → t ≤ b → b < suc n → b < suc n' → Rests t F A k k' → turn_of t (λ x. m k) f w ≡ turn_of t (λ x. m' k') f w
turned zero b n n' F A m m' same k k' f w h i j c = refl
turned (suc t) b n n' F A m m' same k k' f w h i j c =
    (same t (omega arith, omega arith)).at k k' f (record w { turns = t }) (omega arith) (λ x g u l. c x g u (omega arith))

pub turn_same : (b n n' : ℕ) (F A : Type 0) (m m' : Doing F A) → Suffice b (suc n) (suc n') → ((c : ℕ) → Suffice c n n' → Same c F A m m')
    → Same b F A (turn >> m) (turn >> m')
turn_same b n n' F A m m' h same = record { at = λ k k' f w i c. turned w.turns b n n' F A m m' same k k' f w i h.0 h.1 c }

pub none_suffices : (b n : ℕ) → Suffice b zero (suc n) → ⊥
none_suffices b n h = omega (arith, h.0)

pub none_suffices_either : (b n : ℕ) → Suffice b (suc n) zero → ⊥
none_suffices_either b n h = omega (arith, h.1)

pub more_suffice : (b n m : ℕ) → Suffice b n m → Suffice b (suc n) (suc m)
more_suffice b n m h = (omega (arith, h.0), omega (arith, h.1))

pub memory_same : (b : ℕ) (F : Type 0) → Same b F Memory memory_now memory_now
memory_same b F = record { at = λ k k' f w h c. c w.memory f w (omega arith) }

pub with_memory_same : (b : ℕ) (F : Type 0) (m : Memory) → Same b F (Unit {0}) (with_memory m) (with_memory m)
with_memory_same b F m = record { at = λ k k' f w h c. c tt f (record w { memory = m }) (omega arith) }

pub note_same : (b : ℕ) (F : Type 0) (event : Event) → Same b F (Unit {0}) (note event) (note event)
note_same b F event = record { at = λ k k' f w h c. c tt f (record w { trace = event ∷ w.trace }) (omega arith) }

got : (input : List ℕ) (F : Type 0) (k k' : Rest F Value) (f : F) (w : World) → Rests w.turns F Value k k' → next_of input k f w ≡ next_of input k' f w
got [] F k k' f w c = c _ f _ (omega arith)
got (byte ∷ more) F k k' f w c = c _ f _ (omega arith)

pub getchar_same : (b : ℕ) (F : Type 0) → Same b F Value getchar getchar
getchar_same b F = record { at = λ k k' f w h c. got w.input F k k' f w c }

either_same : (short : Bool) (e : End) {a a' : End} → a ≡ a' → (if short then e else a) ≡ (if short then e else a')
either_same true e same = refl
either_same false e same = same

pub make_same : (b : ℕ) (F : Type 0) (size : ℕ) (kind : BlockKind) → Same b F ℕ (make size kind) (make size kind)
make_same b F size kind = record {
  at = λ k k' f w h c. either_same
      (w.is_limited && nat_lt greatest_live (live_bytes w.memory + size)) (out_of_room Live (live_bytes w.memory + size) w) (c _ f (record w { memory = with_block w.memory size kind }) (omega arith));
}

pub deeper_same : (b : ℕ) (F : Type 0) → Same b F (Unit {0}) deeper deeper
deeper_same b F = record {
  at = λ k k' f w h c. either_same (w.is_limited && nat_lt greatest_depth (w.depth + 1)) (out_of_room Depth (w.depth + 1) w)
      (c tt f (record w { depth = w.depth + 1 }) (omega arith));
}

pub leave_same : (b : ℕ) (F : Type 0) → Same b F (Unit {0}) leave leave
leave_same b F = record { at = λ k k' f w h c. c tt f _ (omega arith) }

pub own_same : (b : ℕ) (F A : Type 0) (get : F → A) (set : F → F) → Same b F A (λ rest f w. rest (get f) (set f) w) (λ rest f w. rest (get f) (set f) w)
own_same b F A get set = record { at = λ k k' f w h c. c (get f) (set f) w (omega arith) }

pub apart_same : (b : ℕ) (F A : Type 0) (own : F) (m m' : Doing F A) → Same b F A m m' → Same b F A (apart own m) (apart own m')
apart_same b F A own m m' one = record { at = λ k k' f w h c. one.at (λ x g u. k x f u) (λ x g u. k' x f u) own w h (λ x g u i. c x f u i) }

abbrev pub by_turns : Relation
by_turns = record {
  Fuels = Suffice;
  Related = Same;
  on_pure = pure_same;
  on_bind = bind_same;
  on_end = end_same;
  on_undefined = undefined_same;
  on_none = none_same;
  on_turn = turn_same;
  not_left = none_suffices;
  not_right = none_suffices_either;
  one_more = more_suffice;
  on_memory = memory_same;
  on_with_memory = with_memory_same;
  on_note = note_same;
  on_getchar = getchar_same;
  on_make = make_same;
  on_deeper = deeper_same;
  on_leave = leave_same;
  on_own = own_same;
  on_apart = apart_same;
}

-- ---- the laws

-- where fewer turns are left than either number, what is done behind the call may differ where more are left
pub called_same : (p : ProgramData) (b n m : ℕ) → b < n → b < m → (place : Place) (f : ℕ) (values : List Value)
    → Same b Frame (Option Value) (called p n place f values) (called p m place f values)
called_same p b n m h i place f values = Calls.called_alike by_turns p n m b (h, i) place f values

pub value_same : (p : ProgramData) (b n m : ℕ) → b < n → b < m → (e : Expression ℕ)
    → Same b Frame (Option Value) (value p (called p n) e) (value p (called p m) e)
value_same p b n m h i e = Expressions.value_alike by_turns p (called p n) (called p m) b (called_same p b n m h i) e

pub used_same : (p : ProgramData) (b n m : ℕ) → b < n → b < m → (e : Expression ℕ) → Same b Frame Value (used p (called p n) e) (used p (called p m) e)
used_same p b n m h i e = Expressions.used_alike by_turns p (called p n) (called p m) b (called_same p b n m h i) e

pub spot_same : (p : ProgramData) (b n m : ℕ) → b < n → b < m → (addressed : Bool) (q : Path ℕ)
    → Same b Frame Spot (spot p (called p n) addressed q) (spot p (called p m) addressed q)
spot_same p b n m h i addressed q = Expressions.spot_alike by_turns p (called p n) (called p m) b (called_same p b n m h i) addressed q

pub executed_same : (p : ProgramData) (b n m : ℕ) → b < n → b < m → (g : ℕ) (locals : List Local) (l : ℕ) (s : Statement ℕ)
    → Same b Frame Way (execute p (called p n) g locals n l s) (execute p (called p m) g locals m l s)
executed_same p b n m h i g locals l s =
    Statements.execute_alike by_turns p (called p n) (called p m) n m (λ c k place f values. called_same p c n m k.0 k.1 place f values) g locals l s b (h, i)

pub executed_all_same : (p : ProgramData) (b n m : ℕ) → b < n → b < m → (g : ℕ) (locals : List Local) (l : ℕ) (all : Statements ℕ)
    → Same b Frame Way (execute_all p (called p n) g locals n l all) (execute_all p (called p m) g locals m l all)
executed_all_same p b n m h i g locals l all =
    Statements.execute_all_alike by_turns p (called p n) (called p m) n m (λ c k place f values. called_same p c n m k.0 k.1 place f values) g locals l all b (h, i)

pub entered_same : (p : ProgramData) (b n m : ℕ) → b < n → b < m → (g : ℕ) (locals : List Local) (l : ℕ) (arm : Option ℕ) (arms : Arms ℕ)
    → Same b Frame Way (enter p (called p n) g locals n l arm arms) (enter p (called p m) g locals m l arm arms)
entered_same p b n m h i g locals l arm arms =
    Statements.enter_alike by_turns p (called p n) (called p m) n m (λ c k place f values. called_same p c n m k.0 k.1 place f values) g locals l arm arms b (h, i)

-- of loops, where the parts are the same
pub loop_same : (event : Event) (b n m : ℕ) (test test' : Doing Frame Bool) (step step' : Doing Frame (Unit {0})) (body body' : Doing Frame Way) → b < n → b < m
    → ((c : ℕ) → c < n → c < m → Same c Frame Bool test test') → ((c : ℕ) → c < n → c < m → Same c Frame (Unit {0}) step step')
    → ((c : ℕ) → c < n → c < m → Same c Frame Way body body')
    → Same b Frame Way (loop (turn >> note event) n test step body) (loop (turn >> note event) m test' step' body')
loop_same event b n m test test' step step' body body' h i t s d =
    Statements.loop_alike by_turns event n m test test' step step' body body' (λ c k. t c k.0 k.1) (λ c k. s c k.0 k.1) (λ c k. d c k.0 k.1) b (h, i)

pub loop_behind_same : (event : Event) (b n m : ℕ) (body body' : Doing Frame Way) (test test' : Doing Frame Bool) → b < n → b < m
    → ((c : ℕ) → c < n → c < m → Same c Frame Way body body') → ((c : ℕ) → c < n → c < m → Same c Frame Bool test test')
    → Same b Frame Way (loop_behind (turn >> note event) n body test) (loop_behind (turn >> note event) m body' test')
loop_behind_same event b n m body body' test test' h i d t =
    Statements.loop_behind_alike by_turns event n m body body' test test' (λ c k. d c k.0 k.1) (λ c k. t c k.0 k.1) b (h, i)

-- a loop is its test, a turn, and the loop again, where its parts are the same as themselves
pub loop_again : (event : Event) (b m : ℕ) (test : Doing Frame Bool) (step : Doing Frame (Unit {0})) (body : Doing Frame Way) → b < suc m
    → ((c : ℕ) → c < suc m → Same c Frame Bool test test) → ((c : ℕ) → c < suc m → Same c Frame (Unit {0}) step step) → ((c : ℕ) → c < suc m
    → Same c Frame Way body body)
    → Same b Frame Way (loop (turn >> note event) (suc m) test step body)
    (test >>= λ goes. if goes then (turn >> note event >> body >>= and_again (step >> loop (turn >> note event) (suc m) test step body)) else pure normally)
loop_again event b m test step body h t s d =
    bind_same b _ _ _ _ _ _ _ (t b h) (λ goes. Statements.choice_alike by_turns goes (turn_same b m m _ _ _ _ (omega arith, omega arith) again) (pure_same b _ _ normally))
  where
    again : (c : ℕ) → Suffice c m m → Same c Frame Way (note event >> (body >>= and_again (step >> loop (turn >> note event) m test step body)))
        (note event >> (body >>= and_again (step >> loop (turn >> note event) (suc m) test step body)))
    again c k = bind_same c _ _ _ _ _ _ _ (note_same c _ event) (λ a. bind_same c _ _ _ _ _ _ _ (d c (omega (arith, k.0)))
        (Statements.and_again_alike by_turns (bind_same c _ _ _ _ _ _ _ (s c (omega (arith, k.0))) (λ a. loop_same event c m (suc m) test test step step body body
        k.0 (omega (arith, k.0)) (λ e i j. t e j) (λ e i j. s e j) (λ e i j. d e j)))))

pub loop_behind_again : (event : Event) (b m : ℕ) (body : Doing Frame Way) (test : Doing Frame Bool) → b < suc m
    → ((c : ℕ) → c < suc m → Same c Frame Way body body) → ((c : ℕ) → c < suc m → Same c Frame Bool test test)
    → Same b Frame Way (loop_behind (turn >> note event) (suc m) body test)
    (turn >> note event >> body >>= and_again (test >>= λ goes. if goes then loop_behind (turn >> note event) (suc m) body test else pure normally))
loop_behind_again event b m body test h d t = turn_same b m m _ _ _ _ (omega arith, omega arith) again
  where
    again : (c : ℕ) → Suffice c m m → Same c Frame Way
        (note event >> (body >>= and_again (test >>= λ goes. if goes then loop_behind (turn >> note event) m body test else pure normally)))
        (note event >> (body >>= and_again (test >>= λ goes. if goes then loop_behind (turn >> note event) (suc m) body test else pure normally)))
    again c k = bind_same c _ _ _ _ _ _ _ (note_same c _ event) (λ a. bind_same c _ _ _ _ _ _ _ (d c (omega (arith, k.0)))
        (Statements.and_again_alike by_turns (bind_same c _ _ _ _ _ _ _ (t c (omega (arith, k.0))) (λ goes. Statements.choice_alike by_turns goes
        (loop_behind_same event c m (suc m) body body test test k.0 (omega (arith, k.0)) (λ e i j. d e j) (λ e i j. t e j)) (pure_same c _ _ normally)))))

-- the theorem
pub fuel : (p : ProgramData) (n m : ℕ) (place : Place) (f : ℕ) (values : List Value) (rest : Rest Frame (Option Value)) (frame : Frame) (w : World)
    → w.turns < n → w.turns < m → called p n place f values rest frame w ≡ called p m place f values rest frame w
fuel p n m place f values rest frame w h i = (called_same p w.turns n m h i place f values).at rest rest frame w (omega arith) (λ x g u k. refl)
