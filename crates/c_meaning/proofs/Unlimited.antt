-- A run that is not kept within the room of the interpreter is never out of room.
use Rattle.std.proofs.Common.{◌≡◌, refl, ℕ, zero, suc, ◌+◌, Bool, true, false, ◌&&◌, nat_lt, if◌then◌else◌, List, [], ◌∷◌, length, Option, Some, None, arith}
use Rattle.lay_base.specs.declared.place.Place.{Place}
use Rattle.c_typed.specs.Programs.{ProgramData}
use Rattle.block_memory.specs.Lifetimes.{with_block}
use Rattle.block_memory.specs.RunWorlds.Doing.{Rest, Doing, turn_of, less_deep}
use Rattle.block_memory.specs.RunWorlds.Events.{got, left}
use Rattle.block_memory.specs.RunWorlds.Library.{next_of}
use Rattle.block_memory.specs.declared.run_worlds.value.Value.{Value}
use Rattle.block_memory.specs.declared.run_worlds.value.Value.TheVariants.{Word as word, Pointer as pointer}
use Rattle.block_memory.specs.RunWorlds.Worlds.{World, End, greatest_live, greatest_depth, live_bytes}
use Rattle.c_meaning.specs.Longer.{HadRoom}
use Rattle.c_meaning.specs.Run.{run, seen, start, end_by, main_place, no_place}
use Rattle.c_meaning.proofs.Closed.{Relation}
use Rattle.c_meaning.proofs.ClosedCalls as Calls
use Rattle.c_meaning.proofs.Direct.{AreOne, not_left, not_right, one_more}

-- from a world without limit it is not out of room
abbrev HasRoom : {F A : Type 0} → Rest F A → Type 0
HasRoom rest = (x : _) (f : _) (w : World) → w.is_limited ≡ false → HadRoom (seen (rest x f w))

-- a part is not out of room where what comes behind it is not
record KeepsRoom (F A : Type 0) (m : Doing F A) : Type 0 where
  keeps : (rest : Rest F A) → HasRoom rest → (f : F) (w : World) → w.is_limited ≡ false → HadRoom (seen (m rest f w))

room_behind : (limited test : Bool) (short other : End) → limited ≡ false → HadRoom (seen other) → HadRoom (seen (if limited && test then short else other))
room_behind false test short other h had = had
room_behind true test short other h had = let wrong : true ≡ false = h in cc

turned : (t : ℕ) (F A : Type 0) (m : Doing F A) → KeepsRoom F A m → (rest : Rest F A) → HasRoom rest → (f : F) (w : World) → w.is_limited ≡ false
    → HadRoom (seen (turn_of t (λ x. m rest) f w))
turned zero F A m one rest room f w h = tt
turned (suc t) F A m one rest room f w h = one.keeps rest room f (record w { turns = t }) h

got_room : (input : List ℕ) (F : Type 0) → KeepsRoom F Value (next_of input)
got_room [] F = record { keeps = λ rest room f w h. room _ f (record w { trace = got None ∷ w.trace }) h }
got_room (byte ∷ more) F = record { keeps = λ rest room f w h. room _ f (record w { input = more; trace = got (Some byte) ∷ w.trace }) h }

abbrev by_room : Relation
by_room = record {
  Fuels = AreOne;
  Related = λ b F A m m'. KeepsRoom F A m';
  on_pure = λ b F A x. record { keeps = λ rest room f w h. room x f w h };
  on_bind = λ b F A B m m' next next' one other. record {
    keeps = λ rest room f w h. one.keeps (λ x. next' x rest) (λ x g u i. (other x).keeps rest room g u i) f w h;
  };
  on_end = λ b F A status. record { keeps = λ rest room f w h. tt };
  on_undefined = λ b F A kind place. record { keeps = λ rest room f w h. tt };
  on_none = λ b F A e. record { keeps = λ rest room f w h. tt };
  on_turn = λ b n n' F A m m' e same. record { keeps = λ rest room f w h. turned w.turns F A m' (same b (omega arith)) rest room f w h };
  not_left = not_left;
  not_right = not_right;
  one_more = one_more;
  on_memory = λ b F. record { keeps = λ rest room f w h. room w.memory f w h };
  on_with_memory = λ b F m. record { keeps = λ rest room f w h. room tt f (record w { memory = m }) h };
  on_note = λ b F event. record { keeps = λ rest room f w h. room tt f (record w { trace = event ∷ w.trace }) h };
  on_getchar = λ b F. record { keeps = λ rest room f w h. (got_room w.input F).keeps rest room f w h };
  on_make = λ b F size kind. record {
    keeps = λ rest room f w h. room_behind w.is_limited (nat_lt greatest_live (live_bytes w.memory + size)) _ _ h
        (room (length w.memory) f (record w { memory = with_block w.memory size kind }) h);
  };
  on_deeper = λ b F. record {
    keeps = λ rest room f w h. room_behind w.is_limited (nat_lt greatest_depth (w.depth + 1)) _ _ h (room tt f (record w { depth = w.depth + 1 }) h);
  };
  on_leave = λ b F. record { keeps = λ rest room f w h. room tt f (record w { depth = less_deep w.depth; trace = left ∷ w.trace }) h };
  on_own = λ b F A get set. record { keeps = λ rest room f w h. room (get f) (set f) w h };
  on_apart = λ b F A own m m' one. record { keeps = λ rest room f w h. one.keeps (λ x g u. rest x f u) (λ x g u i. room x f u i) own w h };
}

has_room : (place : Place) (v : Option Value) (w : World) → HadRoom (seen (end_by place v w))
has_room place None w = tt
has_room place (Some (word n)) w = tt
has_room place (Some (pointer q)) w = tt

pub run_has_room : (p : ProgramData) (input : List ℕ) (turns : ℕ) → HadRoom (run p input turns)
run_has_room p input turns =
    (Calls.called_alike by_room p (turns + 1) (turns + 1) 0 refl (no_place p) p.main []).keeps (λ v f w. end_by (main_place p) v w) (λ v f w h. has_room (main_place p) v w) []
    (start p input turns false) refl
