-- What is done to the world.
use Rattle.std.proofs.Common.{◌≡◌, refl, sym, ◌∙◌, subst, ℕ, zero, suc, ◌+◌, ◌-◌, ◌/◌, ◌%◌, ◌^◌, ◌≤◌, Bool, true, false, ◌&&◌, ◌||◌, not, nat_lt, nat_le}
use Rattle.std.proofs.Common.{if◌then◌else◌, List, ◌∷◌, length, replicate, drop, Option, Result, Ok, Err, ℤ, arith}
use Rattle.std.proofs.lemmas.List.{length-take, length-replicate}
use Rattle.std.proofs.lemmas.Bool.Decides.{leb_tells}
use Rattle.lay_base.specs.declared.faults.RoomKind.TheVariants.{Live}
use Rattle.lay_base.specs.declared.faults.UndefinedKind.TheVariants as K
use Rattle.lay_base.specs.declared.place.Place.{Place}
use Rattle.c_types.specs.IntKinds.{width}
use Rattle.memory_words.specs.declared.cell_words.cell.Cell.{Cell}
use Rattle.memory_words.specs.declared.cell_words.cell.Cell.TheVariants.{Byte}
use Rattle.block_memory.specs.declared.kinds.Access.{Access}
use Rattle.block_memory.specs.declared.kinds.Access.TheVariants.{Number, Pointer}
use Rattle.block_memory.specs.declared.kinds.BlockKind.{BlockKind}
use Rattle.block_memory.specs.declared.kinds.BlockKind.TheVariants.{Heap}
use Rattle.memory_words.specs.declared.cell_words.pointer.Ptr.{Ptr}
use Rattle.memory_words.specs.declared.cell_words.pointer.Ptr.TheVariants as P
use Rattle.block_memory.specs.Accesses.{must, place}
use Rattle.block_memory.specs.Blocks.{Memory, kind, is_live, size, block, cells, cells_in, with_cells}
use Rattle.block_memory.specs.Held.{bytes_of}
use Rattle.block_memory.specs.Lifetimes as Lifetimes
use Rattle.block_memory.specs.Lifetimes.{with_block, with_end, is_heap}
use Rattle.block_memory.specs.Ranges as Ranges
use Rattle.block_memory.specs.Ranges.{do_overlap}
use Rattle.block_memory.specs.Tested as Tests
use Rattle.block_memory.specs.Tested.{Tested}
use Rattle.block_memory.specs.RunWorlds.Doing as Doing
use Rattle.block_memory.specs.RunWorlds.Doing.{Rest, Doing, ◌>>=◌, ◌>>◌, pure, is_undefined, tested, memory_now, with_memory, note}
use Rattle.block_memory.specs.RunWorlds.Events.{Event, calls_of, entries_of, begins_of, loaded, stored, allocated, freed, reached}
use Rattle.block_memory.specs.RunWorlds.Library as Library
use Rattle.block_memory.specs.RunWorlds.Scalars.{width_of, load_in, store_in, note_if, note_in, load, store}
use Rattle.block_memory.specs.declared.run_worlds.value.Value.{Value}
use Rattle.block_memory.specs.declared.run_worlds.value.Value.TheVariants.{Word, Pointer as Address}
use Rattle.block_memory.specs.RunWorlds.Worlds.{World, End, out_of_room, greatest_live, live_bytes}
use Rattle.c_meaning.specs.Expressions.{field_in}
use Rattle.c_meaning.specs.Frames.{Frame}
use Rattle.source_state.specs.Steps.Cores as Cores
use Rattle.source_state.specs.Steps.Cores.{Core, Does, done, and_then}
use Rattle.source_state.specs.Steps.Memories as Memories
use Rattle.source_state.specs.Steps.Memories.{living_size, put_cells, changed, freed_size}
use Rattle.source_state.specs.declared.ends.Final.{Final}
use Rattle.source_state.specs.declared.ends.Final.TheVariants.{Room}
use Rattle.source_state.proofs.Steps.Living.{live_put, live_end, live_new, live_within}
use Rattle.source_state.specs.Steps.Agreeing.{world, Agrees}
use Rattle.source_state.proofs.Steps.Parts.{Gives, Part, pure_part, undefined_part, reading, tested_part, bind_part}

-- ---- an event that is neither written, nor read, nor counted

pub record IsQuiet (event : Event) : Type 0 where
  pub calls : (trace : List Event) → calls_of (event ∷ trace) ≡ calls_of trace
  pub entries : (f : ℕ) (trace : List Event) → entries_of f (event ∷ trace) ≡ entries_of f trace
  pub begins : (f l : ℕ) (trace : List Event) → begins_of f l (event ∷ trace) ≡ begins_of f l trace

pub agrees_behind : (start : Core) (c : Core) (event : Event) (trace : List Event) → IsQuiet event → Agrees start c trace → Agrees start c (event ∷ trace)
agrees_behind start c event trace q h = record {
  few = h.few;
  live = h.live;
  shape = h.shape;
  entries = λ f n e. h.entries f n e ∙ sym (q.entries f trace);
  begins = λ f l n loops d e. h.begins f l n loops d e ∙ sym (q.begins f l trace);
  all_entries = λ f. let e = q.entries f trace in let b = h.all_entries f in omega (arith, e, b);
  all_begins = λ f l. let e = q.begins f l trace in let b = h.all_begins f l in omega (arith, e, b);
}

pub note_part : (event : Event) (c : Core) → IsQuiet event → Part c (note event) (done tt c)
note_part event c q = record {
  gives = λ start input trace h. record {
    later = event ∷ trace;
    does = λ rest. refl;
    agrees = agrees_behind start c event trace q h;
    calls = q.calls trace;
  };
}

quiet_loaded : (b at width : ℕ) → IsQuiet (loaded b at width)
quiet_loaded b at width = record { calls = λ t. refl; entries = λ f t. refl; begins = λ f l t. refl }

quiet_stored : (b at width : ℕ) → IsQuiet (stored b at width)
quiet_stored b at width = record { calls = λ t. refl; entries = λ f t. refl; begins = λ f l t. refl }

quiet_allocated : (b : ℕ) (elements : Option (ℕ × ℕ)) (n : ℕ) → IsQuiet (allocated b elements n)
quiet_allocated b elements n = record { calls = λ t. refl; entries = λ f t. refl; begins = λ f l t. refl }

quiet_freed : (b : ℕ) → IsQuiet (freed b)
quiet_freed b = record { calls = λ t. refl; entries = λ f t. refl; begins = λ f l t. refl }

note_if_part : (test : Bool) (event : Event) (c : Core) → IsQuiet event → Part c (note_if test event) (done tt c)
note_if_part true event c q = note_part event c q
note_if_part false event c q = pure_part tt c

pub note_in_part : (m : Memory) (q : Ptr) (event : (block at : ℕ) → Event) (c : Core) → ((b at : ℕ) → IsQuiet (event b at)) → Part c (note_in m q event) (done tt c)
note_in_part m (P.Block b at) event c h = note_if_part (is_heap (kind m b)) (event b at) c (h b at)
note_in_part m P.Null event c h = pure_part tt c
note_in_part m (P.Function f) event c h = pure_part tt c

-- ---- memory becomes another one

-- with that count of the bytes that live
abbrev pub remembering : Memory → (live : ℕ) → Core → Core
remembering m n c = record c { memory = m; live = n }

agrees_remembering : (start : Core) (c : Core) (m : Memory) (n : ℕ) (trace : List Event) → n ≡ live_bytes m → Agrees start c trace → Agrees start (remembering m n c) trace
agrees_remembering start c m n trace e h = record {
  few = h.few;
  live = e;
  shape = h.shape;
  entries = h.entries;
  begins = h.begins;
  all_entries = h.all_entries;
  all_begins = h.all_begins;
}

pub with_memory_part : (m : Memory) (n : ℕ) (c : Core) → (c.live ≡ live_bytes c.memory → n ≡ live_bytes m) → Part c (with_memory m) (done tt (remembering m n c))
with_memory_part m n c e = record {
  gives = λ start input trace h. record {
    later = trace;
    does = λ rest. refl;
    agrees = agrees_remembering start c m n trace (e h.live) h;
    calls = refl;
  };
}

put_cells_part : (b at : ℕ) (new : List Cell) (c : Core) → Part c (with_memory (with_cells c.memory b at new)) (done tt (put_cells b at new c))
put_cells_part b at new c =
    with_memory_part (with_cells c.memory b at new) (c.live + living_size (with_cells c.memory b at new) b - living_size c.memory b) c
    (λ e. let h = live_put c.memory b at new in omega (arith, h))

pub now_put_part : (b at : ℕ) (new : List Cell) (c : Core) → Part c (memory_now >>= λ m. with_memory (with_cells m b at new)) (done tt (put_cells b at new c))
now_put_part b at new c = record { gives = (put_cells_part b at new c).gives }

-- ---- blocks begin and end

pub either_gives : {A : Type 0} {start : Core} {input : List ℕ} {trace : List Event} (test : Bool) (one other : Rest Frame A → End) (d e : Does A)
    → Gives start one input trace d.0 d.1 → Gives start other input trace e.0 e.1
    → Gives start (λ rest. if test then one rest else other rest) input trace (if◌then◌else◌ {A = Does A} test d e).0 (if◌then◌else◌ {A = Does A} test d e).1
either_gives true one other d e h k = h
either_gives false one other d e h k = k

pub make_part : (n : ℕ) (kind : BlockKind) (c : Core) → Part c (Doing.make n kind) (Memories.make n kind c)
make_part n kind c = record {
  gives = λ start input trace h.
      let w : World = world c input trace in
      let behind : Core = remembering (with_block c.memory n kind) (c.live + n) c in
      let grown = live_new c.memory n kind in
      let is : c.live ≡ live_bytes c.memory = h.live in
      subst (λ (k : ℕ). Gives start (λ (rest : Rest Frame ℕ). if true && nat_lt greatest_live (k + n) then out_of_room Live (k + n) w
      else rest (length c.memory) c.frame (record w { memory = with_block c.memory n kind }))
      input trace (Memories.make n kind c).0 (Memories.make n kind c).1)
      is
      (either_gives (nat_lt greatest_live (c.live + n)) _ _ (Err (Room Live (c.live + n)), c) (Ok (length c.memory), behind)
      (record { later = trace; does = λ rest. refl; agrees = h; calls = refl })
      (record {
        later = trace;
        does = λ rest. refl;
        agrees = agrees_remembering start c (with_block c.memory n kind) (c.live + n) trace (omega (arith, grown, is)) h;
        calls = refl;
      }));
}

pub end_part : (b : ℕ) (c : Core) → Part c (Doing.end b) (done tt (Memories.end b c))
end_part b c = record { gives = (with_memory_part (with_end c.memory b) (c.live - living_size c.memory b) c (λ e. let h = live_end c.memory b in omega (arith, h))).gives }

-- ---- what memory does, or is undefined

-- so many bytes live in it
abbrev pub LivesIn : ℕ → Tested Memory → Type 0
LivesIn n (Ok m) = n ≡ live_bytes m
LivesIn n (Err kind) = Unit {0}

written_part : (at : Place) (r : Tested Memory) (n : ℕ) (c : Core) → (c.live ≡ live_bytes c.memory → LivesIn n r)
    → Part c (tested at r >>= with_memory) (Cores.tested at (Tests.◌>>=◌ r (λ m. Ok (remembering m n c))) c)
written_part at (Ok m) n c h = record { gives = (with_memory_part m n c h).gives }
written_part at (Err kind) n c h = record { gives = (undefined_part {A = Unit {0}} kind at c).gives }

-- and then nothing that shows
quiet_gives : {A : Type 0} {start : Core} {input : List ℕ} {trace : List Event} (c : Core) (m : Doing Frame A) (next : A → Doing Frame A)
    (r : Result A Final) (c' : Core) → Gives start (λ rest. m rest c.frame (world c input trace)) input trace r c' → ((x : A) (c' : Core) → Part c' (next x) (done x c'))
    → Gives start (λ rest. (m >>= next) rest c.frame (world c input trace)) input trace r c'
quiet_gives {start = start} {input = input} c m next (Ok x) c' first other =
    let second = (other x c').gives start input first.later first.agrees in
    record {
      later = second.later;
      does = λ rest. first.does (λ y. next y rest) ∙ second.does rest;
      agrees = second.agrees;
      calls = second.calls ∙ first.calls;
    }
quiet_gives c m next (Err end) c' first other = record {
  later = first.later;
  does = λ rest. first.does (λ y. next y rest);
  agrees = first.agrees;
  calls = first.calls;
}

pub quiet_part : {A : Type 0} {c : Core} {m : Doing Frame A} {next : A → Doing Frame A} {d : Does A} → Part c m d → ((x : A) (c' : Core) → Part c' (next x) (done x c'))
    → Part c (m >>= next) d
quiet_part {c = c} {m = m} {next = next} {d = d} one other = record { gives = λ start input trace h. quiet_gives c m next d.0 d.1 (one.gives start input trace h) other }

-- ---- places in blocks

abbrev Fits : Memory → (count : ℕ) → Tested (ℕ × ℕ) → Type 0
Fits m count (Ok at) = at.1 + count ≤ size m at.0
Fits m count (Err kind) = Unit {0}

tests_fit : (m : Memory) (b at count : ℕ) (one two three four : Bool) → (two ≡ true → at + count ≤ size m b)
    → Fits m count (Tests.◌>>=◌ (must one K.Dead) (λ u. Tests.◌>>=◌ (must two K.Outside) (λ v. Tests.◌>>=◌ (must three K.Align) (λ w. Tests.◌>>=◌ (must four K.ReadOnly) (λ x. Ok (b, at))))))
tests_fit m b at count false two three four h = tt
tests_fit m b at count true false three four h = tt
tests_fit m b at count true true false four h = tt
tests_fit m b at count true true true false h = tt
tests_fit m b at count true true true true h = h refl

is_le : (a b : ℕ) → nat_le a b ≡ true → a ≤ b
is_le a b h = grind (arith, leb_tells a b)

place_fits : (m : Memory) (q : Ptr) (count w : ℕ) (stores : Bool) → Fits m count (place m q count w stores)
place_fits m P.Null count w stores = tt
place_fits m (P.Function f) count w stores = tt
place_fits m (P.Block b at) count w stores = tests_fit m b at count _ _ _ _ (is_le (at + count) (size m b))

put_lives : (m : Memory) (count : ℕ) (new : List Cell) (r : Tested (ℕ × ℕ)) → length new ≤ count → Fits m count r
    → LivesIn (live_bytes m) (Tests.◌>>=◌ r (λ at. Ok (with_cells m at.0 at.1 new)))
put_lives m count new (Ok at) h fits = sym (live_within m at.0 at.1 new (omega arith))
put_lives m count new (Err kind) h fits = tt

-- ---- loads and stores

so_many : (count v : ℕ) → length (bytes_of count v) ≤ count
so_many zero v = omega arith
so_many (suc count) v = let h = so_many count (v / 256) in omega (arith, h)

pub store_lives : (m : Memory) (q : Ptr) (access : Access) (v : Value) → LivesIn (live_bytes m) (store_in m q access v)
store_lives m q (Number kind) (Word n) =
    put_lives m (width kind) _ (place m q (width kind) (width kind) true) (so_many (width kind) _) (place_fits m q (width kind) (width kind) true)
store_lives m q (Number kind) (Address r) = tt
store_lives m q (Pointer type) (Word n) = tt
store_lives m q (Pointer type) (Address r) = put_lives m 4 _ (place m q 4 4 true) (omega arith) (place_fits m q 4 4 true)

-- the count stays
at_now : (m : Memory) (n : ℕ) (r : Tested Memory) → LivesIn (live_bytes m) r → n ≡ live_bytes m → LivesIn n r
at_now m n (Ok u) h e = e ∙ h
at_now m n (Err kind) h e = tt

pub load_part : (at : Place) (q : Ptr) (access : Access) (c : Core) → Part c (load at q access) (reading at (load_in c.memory q access) c)
load_part at q access c =
    let one : Part c (tested at (load_in c.memory q access) >>= λ v. note_in c.memory q (λ b at. loaded b at (width_of access)) >>= λ a. pure v)
    (reading at (load_in c.memory q access) c)
    = quiet_part (tested_part at (load_in c.memory q access) c)
    (λ v d. bind_part (note_in_part c.memory q _ d (λ b at. quiet_loaded b at (width_of access))) (λ u e. pure_part v e)) in
    record { gives = one.gives }

pub store_part : (at : Place) (q : Ptr) (access : Access) (v : Value) (c : Core) → Part c (store at q access v) (Cores.tested at (changed (store_in c.memory q access v) c) c)
store_part at q access v c =
    let one : Part c ((tested at (store_in c.memory q access v) >>= with_memory) >>= λ a. note_in c.memory q (λ b at. stored b at (width_of access)))
    (Cores.tested at (changed (store_in c.memory q access v) c) c)
    = quiet_part (written_part at (store_in c.memory q access v) c.live c (at_now c.memory c.live _ (store_lives c.memory q access v)))
    (λ a d. note_in_part c.memory q _ d (λ b at. quiet_stored b at (width_of access))) in
    record { gives = one.gives }

-- ---- ranges

pub copy_lives : (m : Memory) (to from : Ptr) (count : ℕ) (overlap : Bool) → LivesIn (live_bytes m) (Ranges.copy m to from count overlap)
copy_lives m to from zero overlap = refl
copy_lives m to from (suc n) overlap = one (place m to (suc n) 1 true) (place m from (suc n) 1 false) (place_fits m to (suc n) 1 true)
  where
    short : (b at : ℕ) → length (cells m b at (suc n)) ≤ suc n
    short b at = let h = length-take (suc n) (drop at (cells_in (block m b).contents)) in omega (arith, h)

    two : (a b : ℕ × ℕ) (test : Bool) → a.1 + suc n ≤ size m a.0
        → LivesIn (live_bytes m) (Tests.◌>>=◌ (must test K.Overlap) (λ c. Ok (with_cells m a.0 a.1 (cells m b.0 b.1 (suc n)))))
    two a b false fits = tt
    two a b true fits = let h = short b.0 b.1 in sym (live_within m a.0 a.1 _ (omega (arith, h)))

    one : (r s : Tested (ℕ × ℕ)) → Fits m (suc n) r
        → LivesIn (live_bytes m) (Tests.◌>>=◌ r (λ a. Tests.◌>>=◌ s (λ b. Tests.◌>>=◌ (must (overlap || not (do_overlap a b (suc n))) K.Overlap) (λ c. Ok (with_cells m a.0 a.1 (cells m b.0 b.1 (suc n)))))))
    one (Err kind) s fits = tt
    one (Ok a) (Err kind) fits = tt
    one (Ok a) (Ok b) fits = two a b (overlap || not (do_overlap a b (suc n))) fits

pub fill_lives : (m : Memory) (to : Ptr) (byte count : ℕ) → LivesIn (live_bytes m) (Ranges.fill m to byte count)
fill_lives m to byte zero = refl
fill_lives m to byte (suc n) =
    let h = length-replicate (suc n) (Byte byte) in
    put_lives m (suc n) (replicate (suc n) (Byte byte)) (place m to (suc n) 1 true) (omega (arith, h)) (place_fits m to (suc n) 1 true)

pub copy_part : (at : Place) (to from : Ptr) (count : ℕ) (overlap : Bool) (c : Core)
    → Part c (memory_now >>= λ m. tested at (Ranges.copy m to from count overlap) >>= with_memory) (Cores.tested at (Memories.copy to from count overlap c) c)
copy_part at to from count overlap c =
    record { gives = (written_part at (Ranges.copy c.memory to from count overlap) c.live c (at_now c.memory c.live _ (copy_lives c.memory to from count overlap))).gives }

pub fill_part : (at : Place) (to : Ptr) (byte count : ℕ) (c : Core)
    → Part c (memory_now >>= λ m. tested at (Ranges.fill m to (byte % 2 ^ 8) count) >>= with_memory) (Cores.tested at (Memories.fill to byte count c) c)
fill_part at to byte count c =
    record { gives = (written_part at (Ranges.fill c.memory to (byte % 2 ^ 8) count) c.live c (at_now c.memory c.live _ (fill_lives c.memory to (byte % 2 ^ 8) count))).gives }

-- ---- allocations

pub free_lives : (m : Memory) (q : Ptr) → LivesIn (live_bytes m - freed_size m q) (Lifetimes.free m q)
free_lives m P.Null = omega arith
free_lives m (P.Function f) = tt
free_lives m (P.Block b (suc at)) = tt
free_lives m (P.Block b zero) = tested_end (is_live m b && is_heap (kind m b))
  where
    tested_end : (test : Bool) → LivesIn (live_bytes m - living_size m b) (if test then Ok (with_end m b) else Err K.Free)
    tested_end true = sym (live_end m b)
    tested_end false = tt

less_now : (m : Memory) (n k : ℕ) (r : Tested Memory) → LivesIn (live_bytes m - k) r → n ≡ live_bytes m → LivesIn (n - k) r
less_now m n k (Ok u) h e = omega (arith, h, e)
less_now m n k (Err kind) h e = tt

note_freed_part : (q : Ptr) (c : Core) → Part c (Library.note_freed q) (done tt c)
note_freed_part P.Null c = pure_part tt c
note_freed_part (P.Function f) c = pure_part tt c
note_freed_part (P.Block b at) c = note_part (freed b) c (quiet_freed b)

pub free_part : (at : Place) (q : Ptr) (c : Core) → Part c (Library.free at q) (Cores.tested at (Memories.free q c) c)
free_part at q c =
    let one : Part c ((tested at (Lifetimes.free c.memory q) >>= with_memory) >>= λ a. Library.note_freed q) (Cores.tested at (Memories.free q c) c)
    = quiet_part (written_part at (Lifetimes.free c.memory q) (c.live - freed_size c.memory q) c
    (less_now c.memory c.live (freed_size c.memory q) _ (free_lives c.memory q)))
    (λ a d. note_freed_part q d) in
    record { gives = one.gives }

zeroed_part : (zero : Bool) (b n : ℕ) (c : Core) → Part c (Library.zeroed zero b n) (done tt (Memories.zeroed zero b n c))
zeroed_part false b n c = pure_part tt c
zeroed_part true b n c = now_put_part b 0 (replicate n (Byte 0)) c

told_part : (elements : Option (ℕ × ℕ)) (b n : ℕ) (all : Bool) (c : Core)
    → Part c (Library.zeroed all b n >>= λ a. note (allocated b elements n) >>= λ d. pure (Address (P.Block b 0))) (done (Address (P.Block b 0)) (Memories.zeroed all b n c))
told_part elements b n all c =
    bind_part (zeroed_part all b n c) (λ u d. bind_part (note_part (allocated b elements n) d (quiet_allocated b elements n)) (λ v e. pure_part (Address (P.Block b 0)) e))

pub allocate_part : (elements : Option (ℕ × ℕ)) (n : ℕ) (all : Bool) (c : Core) → Part c (Library.allocate elements n all) (Memories.allocate n all c)
allocate_part elements n all c = bind_part (make_part n Heap c) (λ b d. told_part elements b n all d)

-- ---- the way to a field is told

quiet_reached : (b at : ℕ) → IsQuiet (reached b at)
quiet_reached b at = record { calls = λ t. refl; entries = λ f t. refl; begins = λ f l t. refl }

pub reached_part : (at : Place) (q : Ptr) (by : ℤ) (c : Core)
    → Part c (memory_now >>= λ m. tested at (field_in m q by) >>= λ r. note_in m r (λ b at. reached b at) >>= λ a. pure r) (reading at (field_in c.memory q by) c)
reached_part at q by c =
    let one : Part c (tested at (field_in c.memory q by) >>= λ r. note_in c.memory r (λ b at. reached b at) >>= λ a. pure r) (reading at (field_in c.memory q by) c)
    = quiet_part (tested_part at (field_in c.memory q by) c) (λ r d. bind_part (note_in_part c.memory r _ d quiet_reached) (λ u e. pure_part r e)) in
    record { gives = one.gives }
