-- Turns, and how functions are entered and left.
use Rattle.std.proofs.Common.{◌≡◌, refl, ℕ, zero, suc, ◌+◌, ◌≤◌, ◌==◌, Bool, true, false, ◌&&◌, nat_lt, List, ◌∷◌, Ok, Err, arith}
use Rattle.lay_base.specs.declared.faults.RoomKind.TheVariants.{Depth}
use Rattle.block_memory.specs.RunWorlds.Doing as Doing
use Rattle.block_memory.specs.RunWorlds.Doing.{◌>>◌, turn, turn_of, note}
use Rattle.block_memory.specs.RunWorlds.Events.{Event, entered, began, left, one_if, entries_of, begins_of}
use Rattle.block_memory.specs.RunWorlds.Worlds.{greatest_depth}
use Rattle.c_meaning.specs.Frames.{Frame}
use Rattle.source_state.specs.Steps.Agreeing.{world, Agrees}
use Rattle.source_state.specs.Steps.Calls.{begun_by, begun, enter_by, enter, leave}
use Rattle.source_state.specs.Steps.Cores.{Core}
use Rattle.source_state.specs.Steps.Counting.{with_entry, with_begin}
use Rattle.source_state.specs.declared.ends.Final.TheVariants.{Room}
use Rattle.source_state.proofs.Steps.Counting.{keeps_begin, keeps_entry, raised_counts, all_raised_counts}
use Rattle.source_state.proofs.Steps.Memories.{either_gives}
use Rattle.source_state.proofs.Steps.Parts.{Gives, Part}

-- ---- turns

at_most_one : (test : Bool) → one_if test ≤ 1
at_most_one true = omega arith
at_most_one false = omega arith

agrees_begun : (start : Core) (n g l : ℕ) (c : Core) (trace : List Event) → c.turns ≡ suc n → Agrees start c trace
    → Agrees start (record c { turns = n; counts = with_begin c.counts g l }) (began g l ∷ trace)
agrees_begun start n g l c trace e h = record {
  few = h.few;
  live = h.live;
  shape = keeps_begin start.counts c.counts g l h.shape;
  entries = h.entries;
  begins = all_raised_counts c.counts.begins g l (λ f l. begins_of f l trace) h.begins
      (let few = h.few in let all = h.all_begins g l in omega (arith, e, few, all));
  all_entries = λ f. let all = h.all_entries f in omega (arith, e, all);
  all_begins = λ f k. let all = h.all_begins f k in let one = at_most_one (g == f && l == k) in omega (arith, e, all, one);
}

begun_gives : (start : Core) (input : List ℕ) (trace : List Event) (g l t : ℕ) (c : Core) → c.turns ≡ t → Agrees start c trace
    → Gives start (λ rest. turn_of t (λ u. note (began g l) rest) c.frame (world c input trace)) input trace (begun_by t g l c).0 (begun_by t g l c).1
begun_gives start input trace g l zero c e h = record { later = trace; does = λ rest. refl; agrees = h; calls = refl }
begun_gives start input trace g l (suc n) c e h = record {
  later = began g l ∷ trace;
  does = λ rest. refl;
  agrees = agrees_begun start n g l c trace e h;
  calls = refl;
}

pub begun_part : (g l : ℕ) (c : Core) → Part c (turn >> note (began g l)) (begun g l c)
begun_part g l c = record { gives = λ start input trace h. begun_gives start input trace g l c.turns c refl h }

-- ---- a function is entered

agrees_turned : (start : Core) (n : ℕ) (c : Core) (trace : List Event) → c.turns ≡ suc n → Agrees start c trace
    → Agrees start (record c { turns = n }) trace
agrees_turned start n c trace e h = record {
  few = h.few;
  live = h.live;
  shape = h.shape;
  entries = h.entries;
  begins = h.begins;
  all_entries = λ f. let all = h.all_entries f in omega (arith, e, all);
  all_begins = λ f k. let all = h.all_begins f k in omega (arith, e, all);
}

agrees_entered : (start : Core) (n g : ℕ) (c : Core) (trace : List Event) → c.turns ≡ suc n → Agrees start c trace
    → Agrees start (record c { turns = n; depth = c.depth + 1; counts = with_entry c.counts g }) (entered g ∷ trace)
agrees_entered start n g c trace e h = record {
  few = h.few;
  live = h.live;
  shape = keeps_entry start.counts c.counts g h.shape;
  entries = raised_counts c.counts.entries g (λ f. entries_of f trace) h.entries
      (let few = h.few in let all = h.all_entries g in omega (arith, e, few, all));
  begins = h.begins;
  all_entries = λ f. let all = h.all_entries f in let one = at_most_one (g == f) in omega (arith, e, all, one);
  all_begins = λ f k. let all = h.all_begins f k in omega (arith, e, all);
}

enter_gives : (start : Core) (input : List ℕ) (trace : List Event) (g t : ℕ) (c : Core) → c.turns ≡ t → Agrees start c trace
    → Gives start (λ rest. turn_of t (λ u. (Doing.deeper >> note (entered g)) rest) c.frame (world c input trace)) input trace (enter_by t g c).0 (enter_by t g c).1
enter_gives start input trace g zero c e h = record { later = trace; does = λ rest. refl; agrees = h; calls = refl }
enter_gives start input trace g (suc n) c e h =
    let new : Core = record c { turns = n; depth = c.depth + 1; counts = with_entry c.counts g } in
    either_gives (nat_lt greatest_depth (c.depth + 1)) _ _ (Err (Room Depth (c.depth + 1)), record c { turns = n }) (Ok tt, new)
    (record { later = trace; does = λ rest. refl; agrees = agrees_turned start n c trace e h; calls = refl })
    (record { later = entered g ∷ trace; does = λ rest. refl; agrees = agrees_entered start n g c trace e h; calls = refl })

pub enter_part : (g : ℕ) (c : Core) → Part c (Doing.enter g) (enter g c)
enter_part g c = record { gives = λ start input trace h. enter_gives start input trace g c.turns c refl h }

-- ---- a function is left

pub agrees_left : (start : Core) (caller : Frame) (c : Core) (trace : List Event) → Agrees start c trace → Agrees start (leave caller c) (left ∷ trace)
agrees_left start caller c trace h = record {
  few = h.few;
  live = h.live;
  shape = h.shape;
  entries = h.entries;
  begins = h.begins;
  all_entries = h.all_entries;
  all_begins = h.all_begins;
}
