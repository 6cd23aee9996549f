-- With more turns, or with its limit lifted, a part of a run does what it does without them, or goes on.
use Rattle.std.proofs.Common.{◌≡◌, refl, sym, ap, ◌∙◌, ℕ, zero, suc, ◌+◌, Bool, true, false, ◌&&◌, nat_lt, if◌then◌else◌, List, [], ◌∷◌, ◌++◌, length, Some}
use Rattle.std.proofs.Common.{None}
use Rattle.std.proofs.Common.{append_assoc, arith}
use Rattle.lay_base.specs.declared.faults.RoomKind.{RoomKind}
use Rattle.lay_base.specs.declared.faults.RoomKind.TheVariants.{Live, Depth}
use Rattle.lay_base.specs.declared.faults.UndefinedKind.{UndefinedKind}
use Rattle.lay_base.specs.declared.place.Place.{Place}
use Rattle.block_memory.specs.declared.kinds.BlockKind.{BlockKind}
use Rattle.block_memory.specs.Blocks.{Memory}
use Rattle.block_memory.specs.Lifetimes.{with_block}
use Rattle.block_memory.specs.RunWorlds.Doing.{Rest, Doing, ◌>>=◌, ◌>>◌, pure, is_undefined, memory_now, with_memory, note, turn_of, turn, make, deeper}
use Rattle.block_memory.specs.RunWorlds.Doing.{less_deep, leave, apart}
use Rattle.block_memory.specs.RunWorlds.Events.{Event, got, left}
use Rattle.block_memory.specs.RunWorlds.Library.{next_of, getchar}
use Rattle.block_memory.specs.declared.run_worlds.value.Value.{Value}
use Rattle.block_memory.specs.RunWorlds.Worlds.{World, End, ends, goes_on, undefined, out_of_room, greatest_live, greatest_depth, live_bytes}
use Rattle.c_meaning.specs.Longer.{Onward, Continues, still, later, Follows}
use Rattle.c_meaning.proofs.Closed.{Relation, stops}

-- ---- worlds

pub here : (w : World) → Onward w w
here w = record { new = []; trace = refl; taken = []; input = refl }

-- of two worlds only the trace and the input count
pub as_seen : {w u : World} (v : World) → v.trace ≡ u.trace → v.input ≡ u.input → Onward w u → Onward w v
as_seen v same_trace same_input o =
    record { new = o.new; trace = same_trace ∙ o.trace; taken = o.taken; input = o.input ∙ ap (λ rest. o.taken ++ rest) (sym same_input) }

noted : {w u : World} (event : Event) (v : World) → v.trace ≡ event ∷ u.trace → v.input ≡ u.input → Onward w u → Onward w v
noted event v same_trace same_input o = record {
  new = event ∷ o.new;
  trace = same_trace ∙ ap (λ before. event ∷ before) o.trace;
  taken = o.taken;
  input = o.input ∙ ap (λ rest. o.taken ++ rest) (sym same_input);
}

read : {w u : World} (event : Event) (byte : ℕ) (v : World) → v.trace ≡ event ∷ u.trace → u.input ≡ byte ∷ v.input → Onward w u → Onward w v
read event byte v same_trace one_less o = record {
  new = event ∷ o.new;
  trace = same_trace ∙ ap (λ before. event ∷ before) o.trace;
  taken = o.taken ++ byte ∷ [];
  input = o.input ∙ ap (λ rest. o.taken ++ rest) one_less ∙ sym (append_assoc o.taken (byte ∷ []) v.input);
}

-- ---- whatever follows comes behind a world

abbrev pub Keeps : (F A : Type 0) → World → Rest F A → Type 0
Keeps F A w rest = (x : A) (f : F) (u : World) → Onward w u → Continues w (rest x f u)

abbrev pub Grows : (F A : Type 0) → Doing F A → Type 0
Grows F A m = (rest : Rest F A) (f : F) (w u : World) → Onward w u → Keeps F A w rest → Continues w (m rest f u)

grows_turn : (t : ℕ) (F A : Type 0) (m : Doing F A) → Grows F A m → (rest : Rest F A) (f : F) (w u : World) → Onward w u → Keeps F A w rest
    → Continues w (turn_of t (λ x. m rest) f u)
grows_turn zero F A m g k f w u o c = o
grows_turn (suc t) F A m g k f w u o c = g k f w (record u { turns = t }) (as_seen (record u { turns = t }) refl refl o) c

grows_got : (input : List ℕ) (F : Type 0) (rest : Rest F Value) (f : F) (w u : World) → u.input ≡ input → Onward w u → Keeps F Value w rest
    → Continues w (next_of input rest f u)
grows_got [] F k f w u e o c = c _ f _ (noted (got None) (record u { trace = got None ∷ u.trace }) refl refl o)
grows_got (byte ∷ more) F k f w u e o c =
    c _ f _ (read (got (Some byte)) byte (record u { input = more; trace = got (Some byte) ∷ u.trace }) refl e o)

grows_either : (short : Bool) (e a : End) (w : World) → Continues w e → Continues w a → Continues w (if short then e else a)
grows_either true e a w one other = one
grows_either false e a w one other = other

grows_make : (F : Type 0) (size : ℕ) (kind : BlockKind) → Grows F ℕ (make size kind)
grows_make F size kind k f w u o c =
    grows_either (u.is_limited && nat_lt greatest_live (live_bytes u.memory + size)) (out_of_room Live (live_bytes u.memory + size) u)
    (k (length u.memory) f (record u { memory = with_block u.memory size kind })) w o (c _ f _ (as_seen (record u { memory = with_block u.memory size kind }) refl refl o))

grows_deeper : (F : Type 0) → Grows F (Unit {0}) deeper
grows_deeper F k f w u o c = grows_either (u.is_limited && nat_lt greatest_depth (u.depth + 1)) (out_of_room Depth (u.depth + 1) u)
    (k tt f (record u { depth = u.depth + 1 })) w o (c tt f _ (as_seen (record u { depth = u.depth + 1 }) refl refl o))

-- ---- with d more turns, and the limit lifted or not

module _ (d : ℕ) (lifts : Bool) where
  abbrev pub Rests : (F A : Type 0) → (rest rest' : Rest F A) → Type 0
  Rests F A rest rest' = (x : A) (f : F) (w : World) (t : ℕ) → t ≡ w.turns + d → Follows d lifts (rest x f w) (rest' x f (later lifts w t))

  pub record Longer (F A : Type 0) (m m' : Doing F A) : Type 0 where
    pub grows : Grows F A m'
    pub follows : (rest rest' : Rest F A) (f : F) (w : World) (t : ℕ) → t ≡ w.turns + d → ((v : World) → Keeps F A v rest') → Rests F A rest rest'
        → Follows d lifts (m rest f w) (m' rest' f (later lifts w t))

  pub pure_longer : (b : ℕ) (F A : Type 0) (x : A) → Longer F A (pure x) (pure x)
  pure_longer b F A x = record { grows = λ k f w u o c. c x f u o; follows = λ k k' f w t h g c. c x f w t h }

  pub bind_longer : (b : ℕ) (F A B : Type 0) (m m' : Doing F A) (next next' : A → Doing F B) → Longer F A m m' → ((x : A) → Longer F B (next x) (next' x))
      → Longer F B (m >>= next) (m' >>= next')
  bind_longer b F A B m m' next next' one other = record {
    grows = λ k f w u o c. one.grows (λ x. next' x k) f w u o (λ x g v i. (other x).grows k g w v i c);
    follows = λ k k' f w t h g c. one.follows (λ x. next x k) (λ x. next' x k') f w t h (λ v x a u o. (other x).grows k' a v u o (g v))
        (λ x a u s i. (other x).follows k k' a u s i g c);
  }

  pub end_longer : (b : ℕ) (F A : Type 0) (status : ℕ) → Longer F A (λ rest f w. ends status w) (λ rest f w. ends status w)
  end_longer b F A status = record { grows = λ k f w u o c. o; follows = λ k k' f w t h g c. ap (λ n. ends status (later lifts w n)) h }

  pub undefined_longer : (b : ℕ) (F A : Type 0) (kind : UndefinedKind) (place : Place) → Longer F A (is_undefined kind place) (is_undefined kind place)
  undefined_longer b F A kind place = record { grows = λ k f w u o c. o; follows = λ k k' f w t h g c. ap (λ n. undefined kind place (later lifts w n)) h }

  -- one number bounds both
  abbrev pub AreOne : (b n m : ℕ) → Type 0
  AreOne b n m = n ≡ m

  pub none_longer : (b : ℕ) (F A : Type 0) → AreOne b zero zero → Longer F A stops stops
  none_longer b F A e = record {
    grows = λ k f w u o c. o;
    follows = λ k k' f w t h g c. (as_seen (later lifts w t) refl refl (here w), λ z. ap (λ n. goes_on (later lifts w n)) h);
  }

  turned : (s t : ℕ) (F A : Type 0) (m m' : Doing F A) → Longer F A m m' → (k k' : Rest F A) (f : F) (w : World) → s ≡ w.turns → t ≡ w.turns + d
      → ((v : World) → Keeps F A v k') → Rests F A k k' → Follows d lifts (turn_of s (λ x. m k) f w) (turn_of t (λ x. m' k') f (later lifts w t))
  turned zero t F A m m' one k k' f w e h g c =
      (grows_turn t F A m' one.grows k' f w (later lifts w t) (as_seen (later lifts w t) refl refl (here w)) (g w), none t h)
    where
      none : (s : ℕ) → s ≡ w.turns + d → d ≡ 0 → turn_of s (λ x. m' k') f (later lifts w s) ≡ goes_on (later lifts w (w.turns + d))
      none zero h z = ap (λ n. goes_on (later lifts w n)) h
      none (suc s) h z = absurd (omega arith)
  turned (suc s) zero F A m m' one k k' f w e h g c = absurd (omega arith)
  turned (suc s) (suc t) F A m m' one k k' f w e h g c = one.follows k k' f (record w { turns = s }) t (omega arith) g c

  pub turn_longer : (b n n' : ℕ) (F A : Type 0) (m m' : Doing F A) → AreOne b (suc n) (suc n') → ((c : ℕ) → AreOne c n n' → Longer F A m m')
      → Longer F A (turn >> m) (turn >> m')
  turn_longer b n n' F A m m' e same = record {
    grows = λ k f w u o c. grows_turn u.turns F A m' (same b (omega arith)).grows k f w u o c;
    follows = λ k k' f w t h g c. turned w.turns t F A m m' (same b (omega arith)) k k' f w refl h g c;
  }

  pub not_left : (b n : ℕ) → AreOne b zero (suc n) → ⊥
  not_left b n e = omega arith

  pub not_right : (b n : ℕ) → AreOne b (suc n) zero → ⊥
  not_right b n e = omega arith

  pub one_more : (b n m : ℕ) → AreOne b n m → AreOne b (suc n) (suc m)
  one_more b n m e = omega arith

  pub memory_longer : (b : ℕ) (F : Type 0) → Longer F Memory memory_now memory_now
  memory_longer b F = record { grows = λ k f w u o c. c u.memory f u o; follows = λ k k' f w t h g c. c w.memory f w t h }

  pub with_memory_longer : (b : ℕ) (F : Type 0) (m : Memory) → Longer F (Unit {0}) (with_memory m) (with_memory m)
  with_memory_longer b F m = record {
    grows = λ k f w u o c. c tt f _ (as_seen (record u { memory = m }) refl refl o);
    follows = λ k k' f w t h g c. c tt f (record w { memory = m }) t h;
  }

  pub note_longer : (b : ℕ) (F : Type 0) (event : Event) → Longer F (Unit {0}) (note event) (note event)
  note_longer b F event = record {
    grows = λ k f w u o c. c tt f _ (noted event (record u { trace = event ∷ u.trace }) refl refl o);
    follows = λ k k' f w t h g c. c tt f (record w { trace = event ∷ w.trace }) t h;
  }

  got_longer : (input : List ℕ) (F : Type 0) (k k' : Rest F Value) (f : F) (w : World) (t : ℕ) → t ≡ w.turns + d → Rests F Value k k'
      → Follows d lifts (next_of input k f w) (next_of input k' f (later lifts w t))
  got_longer [] F k k' f w t h c = c _ f (record w { trace = got None ∷ w.trace }) t h
  got_longer (byte ∷ more) F k k' f w t h c = c _ f (record w { input = more; trace = got (Some byte) ∷ w.trace }) t h

  pub getchar_longer : (b : ℕ) (F : Type 0) → Longer F Value getchar getchar
  getchar_longer b F = record {
    grows = λ k f w u o c. grows_got u.input F k f w u refl o c;
    follows = λ k k' f w t h g c. got_longer w.input F k k' f w t h c;
  }

  pub leave_longer : (b : ℕ) (F : Type 0) → Longer F (Unit {0}) leave leave
  leave_longer b F = record {
    grows = λ k f w u o c. c tt f _ (noted left (record u { depth = less_deep u.depth; trace = left ∷ u.trace }) refl refl o);
    follows = λ k k' f w t h g c. c tt f (record w { depth = less_deep w.depth; trace = left ∷ w.trace }) t h;
  }

  pub own_longer : (b : ℕ) (F A : Type 0) (get : F → A) (set : F → F) → Longer F A (λ rest f w. rest (get f) (set f) w) (λ rest f w. rest (get f) (set f) w)
  own_longer b F A get set = record { grows = λ k f w u o c. c (get f) (set f) u o; follows = λ k k' f w t h g c. c (get f) (set f) w t h }

  pub apart_longer : (b : ℕ) (F A : Type 0) (own : F) (m m' : Doing F A) → Longer F A m m' → Longer F A (apart own m) (apart own m')
  apart_longer b F A own m m' one = record {
    grows = λ k f w u o c. one.grows (λ x g v. k x f v) own w u o (λ x g v i. c x f v i);
    follows = λ k k' f w t h g c. one.follows (λ x a v. k x f v) (λ x a v. k' x f v) own w t h (λ v x a u o. g v x f u o) (λ x a u s i. c x f u s i);
  }

-- ---- where the room may be short

short_longer : (d : ℕ) (lifts limited test : Bool) (kind : RoomKind) (counted : ℕ) (w : World) (t : ℕ) (a a' : End) → t ≡ w.turns + d → Continues w a'
    → Follows d lifts a a' → Follows d lifts (if limited && test then out_of_room kind counted w else a)
    (if still lifts limited && test then out_of_room kind counted (later lifts w t) else a')
short_longer d true true true kind counted w t a a' h o c = o
short_longer d true true false kind counted w t a a' h o c = c
short_longer d true false test kind counted w t a a' h o c = c
short_longer d false true true kind counted w t a a' h o c = ap (λ n. out_of_room kind counted (later false w n)) h
short_longer d false true false kind counted w t a a' h o c = c
short_longer d false false test kind counted w t a a' h o c = c

pub make_longer : (d : ℕ) (lifts : Bool) (b : ℕ) (F : Type 0) (size : ℕ) (kind : BlockKind) → Longer d lifts F ℕ (make size kind) (make size kind)
make_longer d lifts b F size kind = record {
  grows = grows_make F size kind;
  follows = λ k k' f w t h g c. short_longer d lifts w.is_limited (nat_lt greatest_live (live_bytes w.memory + size)) Live (live_bytes w.memory + size) w t _ _ h
      (g w _ f _ (as_seen (later lifts (record w { memory = with_block w.memory size kind }) t) refl refl (here w)))
      (c (length w.memory) f (record w { memory = with_block w.memory size kind }) t h);
}

pub deeper_longer : (d : ℕ) (lifts : Bool) (b : ℕ) (F : Type 0) → Longer d lifts F (Unit {0}) deeper deeper
deeper_longer d lifts b F = record {
  grows = grows_deeper F;
  follows = λ k k' f w t h g c. short_longer d lifts w.is_limited (nat_lt greatest_depth (w.depth + 1)) Depth (w.depth + 1) w t _ _ h
      (g w tt f _ (as_seen (later lifts (record w { depth = w.depth + 1 }) t) refl refl (here w))) (c tt f (record w { depth = w.depth + 1 }) t h);
}

abbrev pub by_more : (d : ℕ) (lifts : Bool) → Relation
by_more d lifts = record {
  Fuels = AreOne d lifts;
  Related = λ b. Longer d lifts;
  on_pure = pure_longer d lifts;
  on_bind = bind_longer d lifts;
  on_end = end_longer d lifts;
  on_undefined = undefined_longer d lifts;
  on_none = none_longer d lifts;
  on_turn = turn_longer d lifts;
  not_left = not_left d lifts;
  not_right = not_right d lifts;
  one_more = one_more d lifts;
  on_memory = memory_longer d lifts;
  on_with_memory = with_memory_longer d lifts;
  on_note = note_longer d lifts;
  on_getchar = getchar_longer d lifts;
  on_make = make_longer d lifts;
  on_deeper = deeper_longer d lifts;
  on_leave = leave_longer d lifts;
  on_own = own_longer d lifts;
  on_apart = apart_longer d lifts;
}
