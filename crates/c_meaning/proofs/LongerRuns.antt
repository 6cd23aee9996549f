-- Runs for one input: more turns go on from fewer, an end is the only one, and the room of the interpreter changes nothing but where it is short.
use Rattle.std.proofs.Common.{◌≡◌, refl, sym, ap, ◌∙◌, subst, ℕ, ◌+◌, ◌-◌, ◌%◌, ◌^◌, ◌≤◌, Bool, true, false, List, [], ◌∷◌, ◌++◌, Option, Some, None}
use Rattle.std.proofs.Common.{append_assoc, append-nil, arith}
use native.Mathlib.Decide.{dec_le}
use Rattle.lay_base.specs.declared.faults.UndefinedKind.TheVariants as K
use Rattle.lay_base.specs.declared.place.Place.{Place}
use Rattle.c_typed.specs.Programs.{ProgramData}
use Rattle.block_memory.specs.RunWorlds.Events.{Event, put, output_of}
use Rattle.block_memory.specs.declared.run_worlds.value.Value.{Value}
use Rattle.block_memory.specs.declared.run_worlds.value.Value.TheVariants.{Word as word, Pointer as pointer}
use Rattle.block_memory.specs.RunWorlds.Worlds.{World, End, ends, goes_on, undefined, out_of_room, world_of}
use Rattle.c_meaning.specs.Run.{end_by, main_place, start, no_place, run_of, RunEnd, ended, went_on, was_undefined, no_room, seen, run, kept}
use Rattle.c_meaning.specs.Longer.{Onward, Continues, still, later, Follows, output_in, rest_in, GoesOnFrom, Extends, Frees, IsOver, HadRoom}
use Rattle.c_meaning.proofs.ClosedCalls as Calls
use Rattle.c_meaning.proofs.Fuel.{fuel}
use Rattle.c_meaning.proofs.Longer.{by_more}

-- ---- worlds

continues_end : (place : Place) (w : World) (v : Option Value) (u : World) → Onward w u → Continues w (end_by place v u)
continues_end place w None u o = o
continues_end place w (Some (word n)) u o = o
continues_end place w (Some (pointer q)) u o = o

end_follows : (d : ℕ) (lifts : Bool) (place : Place) (v : Option Value) (w : World) (t : ℕ) → t ≡ w.turns + d
    → Follows d lifts (end_by place v w) (end_by place v (later lifts w t))
end_follows d lifts place None w t h = ap (λ n. undefined K.NoValue place (later lifts w n)) h
end_follows d lifts place (Some (word v)) w t h = ap (λ n. ends (v % 2 ^ 8) (later lifts w n)) h
end_follows d lifts place (Some (pointer q)) w t h = ap (λ n. undefined K.Pointer place (later lifts w n)) h

-- the end with d more turns, and the limit lifted or not: its world is the same but for turns and limit, or it goes on
pub run_follows : (p : ProgramData) (input : List ℕ) (n d : ℕ) (lifts limited : Bool)
    → Follows d lifts (run_of p input n limited) (run_of p input (n + d) (still lifts limited))
run_follows p input n d lifts limited =
    subst (λ e. Follows d lifts e (run_of p input (n + d) (still lifts limited)))
    (fuel p (n + d + 1) (n + 1) (no_place p) p.main [] (λ v f w. end_by (main_place p) v w) [] (start p input n limited) (omega arith) (omega arith))
    ((Calls.called_alike (by_more d lifts) p (n + d + 1) (n + d + 1) 0 refl (no_place p) p.main []).follows (λ v f w. end_by (main_place p) v w)
    (λ v f w. end_by (main_place p) v w) [] (start p input n limited) (n + d) refl (λ w v f u o. continues_end (main_place p) w v u o)
    (λ v f w t h. end_follows d lifts (main_place p) v w t h))

-- ---- what is seen

outputs_append : (new before : List Event) → output_of (new ++ before) ≡ output_of before ++ output_of new
outputs_append [] before = sym (append-nil (output_of before))
outputs_append (put byte ∷ new) before =
    ap (λ all. all ++ byte ∷ []) (outputs_append new before) ∙ append_assoc (output_of before) (output_of new) (byte ∷ [])
outputs_append (event ∷ new) before = outputs_append new before

output_seen : (e : End) → output_in (seen e) ≡ output_of (world_of e).trace
output_seen (ends status w) = refl
output_seen (goes_on w) = refl
output_seen (undefined kind place w) = refl
output_seen (out_of_room kind counted w) = refl

rest_seen : (e : End) → (world_of e).input ≡ rest_in (seen e)
rest_seen (ends status w) = refl
rest_seen (goes_on w) = refl
rest_seen (undefined kind place w) = refl
rest_seen (out_of_room kind counted w) = refl

continues_seen : (w : World) (e : End) → Continues w e → GoesOnFrom (output_of w.trace) w.input (seen e)
continues_seen w e o = record {
  new = output_of o.new;
  output_begins = output_seen e ∙ ap (λ events. output_of events) o.trace ∙ outputs_append o.new w.trace;
  taken = o.taken;
  rest_ends = o.input ∙ ap (λ rest. o.taken ++ rest) (rest_seen e);
}

extends_seen : (d : ℕ) (e e' : End) → Follows d false e e' → Extends (seen e) (seen e')
extends_seen d (ends status w) e' h = ap seen h
extends_seen d (goes_on w) e' h = continues_seen w e' h.0
extends_seen d (undefined kind place w) e' h = ap seen h
extends_seen d (out_of_room kind counted w) e' h = ap seen h

frees_seen : (e e' : End) → Follows 0 true e e' → Frees (seen e) (seen e')
frees_seen (ends status w) e' h = ap seen h
frees_seen (goes_on w) e' h = ap seen (h.1 refl)
frees_seen (undefined kind place w) e' h = ap seen h
frees_seen (out_of_room kind counted w) e' h = continues_seen w e' h

-- a longer run does what a shorter one does, or goes on from it
pub longer : (p : ProgramData) (input : List ℕ) (n m : ℕ) (limited : Bool) → n ≤ m → Extends (seen (run_of p input n limited)) (seen (run_of p input m limited))
longer p input n m limited h =
    let more : n + (m - n) ≡ m = omega arith in
    subst (λ k. Extends (seen (run_of p input n limited)) (seen (run_of p input k limited))) more
    (extends_seen (m - n) _ _ (run_follows p input n (m - n) false limited))

over_extends : (e e' : RunEnd) → IsOver e → Extends e e' → e ≡ e'
over_extends (ended output status rest) e' h x = sym x
over_extends (went_on output rest) e' h x = absurd h
over_extends (was_undefined kind place output rest) e' h x = sym x
over_extends (no_room kind counted output rest) e' h x = sym x

-- a run that is over is over in the same way where more turns may begin
pub over_longer : (p : ProgramData) (input : List ℕ) (n m : ℕ) (limited : Bool) → n ≤ m → IsOver (seen (run_of p input n limited))
    → seen (run_of p input n limited) ≡ seen (run_of p input m limited)
over_longer p input n m limited h over = over_extends _ _ over (longer p input n m limited h)

-- an end, or a place where the meaning is undefined or the room is short, is the only one for its input
pub only_one : (p : ProgramData) (input : List ℕ) (n m : ℕ) (limited : Bool) → IsOver (seen (run_of p input n limited)) → IsOver (seen (run_of p input m limited))
    → seen (run_of p input n limited) ≡ seen (run_of p input m limited)
only_one p input n m limited one other = by_order (dec_le n m)
  where
    by_order : Dec (n ≤ m) → seen (run_of p input n limited) ≡ seen (run_of p input m limited)
    by_order (yes h) = over_longer p input n m limited h one
    by_order (no h) = sym (over_longer p input m n limited (omega arith) other)

-- ---- within the room of the interpreter

-- what is kept within it is what comes without, or what comes without goes on from where the room was short
pub kept_frees : (p : ProgramData) (input : List ℕ) (n : ℕ) → Frees (kept p input n) (run p input n)
kept_frees p input n =
    let same : n + 0 ≡ n = omega arith in
    subst (λ k. Frees (kept p input n) (run p input k)) same (frees_seen _ _ (run_follows p input n 0 true true))

roomy_frees : (e e' : RunEnd) → HadRoom e → Frees e e' → e ≡ e'
roomy_frees (ended output status rest) e' h x = sym x
roomy_frees (went_on output rest) e' h x = sym x
roomy_frees (was_undefined kind place output rest) e' h x = sym x
roomy_frees (no_room kind counted output rest) e' h x = absurd h

pub kept_is_run : (p : ProgramData) (input : List ℕ) (n : ℕ) → HadRoom (kept p input n) → kept p input n ≡ run p input n
kept_is_run p input n h = roomy_frees _ _ h (kept_frees p input n)
