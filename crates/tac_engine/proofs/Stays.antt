-- What is done to a core takes no turn, makes no block smaller, and leaves the blocks of locals as large as they have to be.
use Rattle.std.proofs.Common.{◌≡◌, refl, ap, ◌∙◌, subst, ◌⊎◌, inl, inr, ℕ, zero, suc, ◌+◌, ◌-◌, ◌%◌, ◌^◌, ◌≤◌, Bool, true, false, ◌&&◌, ◌||◌, not, if◌then◌else◌, nat_lt}
use Rattle.std.proofs.Common.{List, [], ◌∷◌, ◌++◌, length, map, replicate, Option, Some, None, Result, Ok, Err, slice_get, slice_set, arith}
use Rattle.std.proofs.lemmas.List.{length-append, length-take, length-drop, length-replicate}
use Rattle.lay_base.specs.declared.faults.RoomKind.TheVariants.{Live}
use Rattle.lay_base.specs.declared.faults.UndefinedKind.TheVariants as K
use Rattle.lay_base.specs.declared.place.Place.{Place}
use Rattle.c_types.specs.IntKinds.{width}
use Rattle.memory_words.specs.declared.cell_words.cell.Cell.{Cell}
use Rattle.memory_words.specs.declared.cell_words.cell.Cell.TheVariants.{Byte, Empty}
use Rattle.memory_words.specs.declared.cell_words.pointer.Ptr.{Ptr}
use Rattle.memory_words.specs.declared.cell_words.pointer.Ptr.TheVariants as P
use Rattle.block_memory.specs.declared.kinds.Access.{Access}
use Rattle.block_memory.specs.declared.kinds.Access.TheVariants.{Number, Pointer}
use Rattle.block_memory.specs.declared.kinds.BlockKind.{BlockKind}
use Rattle.block_memory.specs.declared.kinds.BlockKind.TheVariants as Kind
use Rattle.block_memory.specs.Accesses.{must, place, store_number, store_pointer}
use Rattle.block_memory.specs.Held.{bytes_of, fragments_of}
use Rattle.block_memory.specs.Blocks.{Memory, Block, Contents, living, ended, block, cells, kind, is_live, size, size_in, overwritten, with_cells}
use Rattle.block_memory.specs.Lifetimes as Lifetimes
use Rattle.block_memory.specs.Lifetimes.{is_heap, with_block, with_end}
use Rattle.block_memory.specs.Ranges as Ranges
use Rattle.block_memory.specs.Ranges.{do_overlap}
use Rattle.block_memory.specs.RunWorlds.LibraryCalls.{is_same_place}
use Rattle.block_memory.specs.RunWorlds.Scalars.{as_pointer, as_word, store_in}
use Rattle.block_memory.specs.RunWorlds.Worlds.{greatest_live}
use Rattle.block_memory.specs.Tested.{Tested, ◌>>=◌}
use Rattle.block_memory.specs.declared.run_worlds.value.Value.{Value}
use Rattle.block_memory.specs.declared.run_worlds.value.Value.TheVariants.{Pointer as pointer}
use Rattle.c_meaning.specs.Frames.{Frame}
use Rattle.c_meaning.specs.declared.frame.Slot.{Slot}
use Rattle.c_meaning.specs.declared.frame.Slot.TheVariants.{ByName as by_name, InBlock as in_block}
use Rattle.c_meaning.specs.declared.frame.Spot.{Spot}
use Rattle.c_meaning.specs.declared.frame.Spot.TheVariants.{Kept as kept, Placed as placed}
use Rattle.source_state.specs.Steps.Calls.{received}
use Rattle.source_state.specs.Steps.Cores.{Core, Does, and_then, behind, done}
use Rattle.source_state.specs.Steps.Cores as Cores
use Rattle.source_state.specs.Steps.Locals.{slot, with_slot, end_slot, finish, begin_as, emptied, end_all}
use Rattle.source_state.specs.Steps.Memories.{freed_size, allocate, changed, copy, copy_record, end, fill, free, make, put_cells, with_text, zeroed}
use Rattle.source_state.specs.declared.ends.Final.{Final}
use Rattle.source_state.specs.declared.ends.Final.TheVariants.{Room}
use Rattle.tac_ir.specs.Running.{empty_slot, with_temp}
use Rattle.tac_ir.specs.Sizes.{BeginParameters}
use Rattle.tac_ir.specs.declared.step.Parameter.{Parameter}
use Rattle.tac_engine.specs.States.{put_slot}
use Rattle.tac_engine.specs.Steps.{receive, receive_one}

some_same : {A : Type 0} {a b : A} → Some a ≡ Some b → a ≡ b
some_same e = cc

-- ---- sizes of blocks

abbrev pub Keeps : (old new : Memory) → Type 0
Keeps m n = (b : ℕ) → size m b ≤ size n b

size_set : (m : Memory) (b k : ℕ) (x : Block) → size m b ≤ size_in x.contents → size m k ≤ size (slice_set m b x) k
size_set [] b k x h = omega arith
size_set (y ∷ m) zero zero x h = h
size_set (y ∷ m) zero (suc k) x h = omega arith
size_set (y ∷ m) (suc b) zero x h = omega arith
size_set (y ∷ m) (suc b) (suc k) x h = size_set m b k x h

longer : (c : Contents) (at : ℕ) (new : List Cell) → size_in c ≤ size_in (overwritten c at new)
longer (living all) at new = simp (length-append, length-take, length-drop) (omega arith)
longer (ended n) at new = omega arith

put_keeps : (m : Memory) (b at : ℕ) (new : List Cell) → Keeps m (with_cells m b at new)
put_keeps m b at new k = size_set m b k (record { kind = kind m b; contents = overwritten (block m b).contents at new }) (longer (block m b).contents at new)

end_keeps : (m : Memory) (b : ℕ) → Keeps m (with_end m b)
end_keeps m b k = size_set m b k (record { kind = kind m b; contents = ended (size m b) }) (omega arith)

new_keeps : (m : Memory) (x : Block) → Keeps m (m ++ x ∷ [])
new_keeps [] x k = omega arith
new_keeps (y ∷ m) x zero = omega arith
new_keeps (y ∷ m) x (suc k) = new_keeps m x k

new_size : (m : Memory) (x : Block) → size (m ++ x ∷ []) (length m) ≡ size_in x.contents
new_size [] x = refl
new_size (y ∷ m) x = new_size m x

-- what memory comes to, if to anything
abbrev KeepsIf : Memory → Tested Memory → Type 0
KeepsIf m (Ok n) = Keeps m n
KeepsIf m (Err k) = Unit {0}

after_keeps : {A : Type 0} (m : Memory) (r : Tested A) (next : A → Tested Memory) → ((x : A) → KeepsIf m (next x)) → KeepsIf m (r >>= next)
after_keeps m (Ok x) next h = h x
after_keeps m (Err k) next h = tt

same_keeps : (m : Memory) → Keeps m m
same_keeps m b = omega arith

store_keeps : (m : Memory) (q : Ptr) (access : Access) (v : Value) → KeepsIf m (store_in m q access v)
store_keeps m q (Number k) v = after_keeps m (as_word v) (λ n. store_number m q k n)
    (λ n. after_keeps m (place m q (width k) (width k) true) (λ at. Ok (with_cells m at.0 at.1 (bytes_of (width k) n))) (λ at. put_keeps m at.0 at.1 (bytes_of (width k) n)))
store_keeps m q (Pointer type) v = after_keeps m (as_pointer v) (λ r. store_pointer m q type r)
    (λ r. after_keeps m (place m q 4 4 true) (λ at. Ok (with_cells m at.0 at.1 (fragments_of type r))) (λ at. put_keeps m at.0 at.1 (fragments_of type r)))

copy_keeps : (m : Memory) (to from : Ptr) (count : ℕ) (overlap : Bool) → KeepsIf m (Ranges.copy m to from count overlap)
copy_keeps m to from zero overlap = same_keeps m
copy_keeps m to from (suc n) overlap = after_keeps m (place m to (suc n) 1 true)
    (λ a. place m from (suc n) 1 false >>= λ b. must (overlap || not (do_overlap a b (suc n))) K.Overlap >>= λ c. Ok (with_cells m a.0 a.1 (cells m b.0 b.1 (suc n))))
    (λ a. after_keeps m (place m from (suc n) 1 false)
    (λ b. must (overlap || not (do_overlap a b (suc n))) K.Overlap >>= λ c. Ok (with_cells m a.0 a.1 (cells m b.0 b.1 (suc n))))
    (λ b. after_keeps m (must (overlap || not (do_overlap a b (suc n))) K.Overlap) (λ c. Ok (with_cells m a.0 a.1 (cells m b.0 b.1 (suc n))))
    (λ c. put_keeps m a.0 a.1 (cells m b.0 b.1 (suc n)))))

fill_keeps : (m : Memory) (to : Ptr) (byte count : ℕ) → KeepsIf m (Ranges.fill m to byte count)
fill_keeps m to byte zero = same_keeps m
fill_keeps m to byte (suc n) = after_keeps m (place m to (suc n) 1 true) (λ a. Ok (with_cells m a.0 a.1 (replicate (suc n) (Byte byte))))
    (λ a. put_keeps m a.0 a.1 (replicate (suc n) (Byte byte)))

free_keeps : (m : Memory) (q : Ptr) → KeepsIf m (Lifetimes.free m q)
free_keeps m P.Null = same_keeps m
free_keeps m (P.Function f) = tt
free_keeps m (P.Block b (suc at)) = tt
free_keeps m (P.Block b zero) = by_test (is_live m b && is_heap (kind m b))
  where
    by_test : (test : Bool) → KeepsIf m (if test then Ok (with_end m b) else Err K.Free)
    by_test true = end_keeps m b
    by_test false = tt

-- ---- the blocks of locals

abbrev pub HasSizes : (sizes : ℕ → ℕ) → Frame → Memory → Type 0
HasSizes sizes f m = (x b : ℕ) → slice_get f x ≡ Some (in_block (Some b)) → sizes x ≤ size m b

pub has_later : {sizes : ℕ → ℕ} (f : Frame) (m n : Memory) → HasSizes sizes f m → Keeps m n → HasSizes sizes f n
has_later f m n h keeps x b e = let one = h x b e in let more = keeps b in omega (arith, one, more)

-- what stands in a frame behind a change of one slot
set_got : (f : Frame) (x y : ℕ) (s r : Slot) → slice_get (slice_set f x s) y ≡ Some r → (slice_get f y ≡ Some r) ⊎ ((x ≡ y) × (s ≡ r))
set_got [] x y s r e = inl e
set_got (o ∷ f) zero zero s r e = inr (refl, some_same e)
set_got (o ∷ f) zero (suc y) s r e = inl e
set_got (o ∷ f) (suc x) zero s r e = inl e
set_got (o ∷ f) (suc x) (suc y) s r e = by_rest (set_got f x y s r e)
  where
    by_rest : (slice_get f y ≡ Some r) ⊎ ((x ≡ y) × (s ≡ r)) → (slice_get f y ≡ Some r) ⊎ ((suc x ≡ suc y) × (s ≡ r))
    by_rest (inl h) = inl h
    by_rest (inr h) = inr (ap suc h.0, h.1)

temp_got : (t : ℕ) (v : Option Value) (f : Frame) (y b : ℕ) → slice_get (with_temp t (by_name v) f) y ≡ Some (in_block (Some b)) → slice_get f y ≡ Some (in_block (Some b))
temp_got zero v [] zero b e = cc
temp_got zero v [] (suc y) b e = e
temp_got zero v (o ∷ f) zero b e = cc
temp_got zero v (o ∷ f) (suc y) b e = e
temp_got (suc t) v [] zero b e = cc
temp_got (suc t) v [] (suc y) b e = temp_got t v [] y b e
temp_got (suc t) v (o ∷ f) zero b e = e
temp_got (suc t) v (o ∷ f) (suc y) b e = temp_got t v f y b e

none_begun : (locals : List Bool) (y b : ℕ) → slice_get (map empty_slot locals) y ≡ Some (in_block (Some b)) → ⊥
none_begun [] y b e = cc
none_begun (true ∷ locals) zero b e = cc
none_begun (false ∷ locals) zero b e = cc
none_begun (l ∷ locals) (suc y) b e = none_begun locals y b e

pub has_none : (sizes : ℕ → ℕ) (locals : List Bool) (m : Memory) → HasSizes sizes (map empty_slot locals) m
has_none sizes locals m x b e = absurd (none_begun locals x b e)

-- ---- from one core to another

module _ (sizes : ℕ → ℕ) where
  pub record Stays (c d : Core) : Type 0 where
    pub turns : d.turns ≡ c.turns
    pub memory : Keeps c.memory d.memory
    pub frame : HasSizes sizes c.frame c.memory → HasSizes sizes d.frame d.memory

  pub stays_same : (c : Core) → Stays c c
  stays_same c = record { turns = refl; memory = same_keeps c.memory; frame = λ h. h }

  pub stays_then : {c d e : Core} → Stays c d → Stays d e → Stays c e
  stays_then a b = record {
    turns = b.turns ∙ a.turns;
    memory = λ k. let x = a.memory k in let y = b.memory k in omega (arith, x, y);
    frame = λ h. b.frame (a.frame h);
  }

  in_memory : (c : Core) (m : Memory) (n : ℕ) → Keeps c.memory m → Stays c (record c { memory = m; live = n })
  in_memory c m n h = record { turns = refl; memory = h; frame = λ has. has_later c.frame c.memory m has h }

  pub stays_temp : (t : ℕ) (v : Option Value) (c : Core) → Stays c (put_slot t (by_name v) c)
  stays_temp t v c = record { turns = refl; memory = same_keeps c.memory; frame = λ h x b e. h x b (temp_got t v c.frame x b e) }

  stays_slot : (x : ℕ) (s : Slot) (c : Core) → ((b : ℕ) → s ≡ in_block (Some b) → sizes x ≤ size c.memory b) → Stays c (with_slot x s c)
  stays_slot x s c fits = record {
    turns = refl;
    memory = same_keeps c.memory;
    frame = λ h y b e. by_slot h y b (set_got c.frame x y s (in_block (Some b)) e);
  }
    where
      by_slot : HasSizes sizes c.frame c.memory → (y b : ℕ) → (slice_get c.frame y ≡ Some (in_block (Some b))) ⊎ ((x ≡ y) × (s ≡ in_block (Some b)))
          → sizes y ≤ size c.memory b
      by_slot h y b (inl e) = h y b e
      by_slot h y b (inr e) = subst (λ (y : ℕ). sizes y ≤ size c.memory b) e.0 (fits b e.1)

  stays_named : (x : ℕ) (v : Option Value) (c : Core) → Stays c (with_slot x (by_name v) c)
  stays_named x v c = stays_slot x (by_name v) c (λ b e. cc)

  -- ---- memory

  pub stays_put : (b at : ℕ) (new : List Cell) (c : Core) → Stays c (put_cells b at new c)
  stays_put b at new c = in_memory c (with_cells c.memory b at new) _ (put_keeps c.memory b at new)

  pub stays_zeroed : (zero : Bool) (b n : ℕ) (c : Core) → Stays c (zeroed zero b n c)
  stays_zeroed true b n c = stays_put b 0 (replicate n (Byte 0)) c
  stays_zeroed false b n c = stays_same c

  pub stays_text : (b at : ℕ) (bytes : List ℕ) (c : Core) → Stays c (with_text b at bytes c)
  stays_text b at bytes c = stays_put b at (map Byte bytes) c

  stays_end : (b : ℕ) (c : Core) → Stays c (end b c)
  stays_end b c = in_memory c (with_end c.memory b) _ (end_keeps c.memory b)

  pub stays_end_all : (f : Frame) (c : Core) → Stays c (end_all f c)
  stays_end_all [] c = stays_same c
  stays_end_all (by_name v ∷ more) c = stays_end_all more c
  stays_end_all (in_block None ∷ more) c = stays_end_all more c
  stays_end_all (in_block (Some b) ∷ more) c = stays_then (stays_end b c) (stays_end_all more (end b c))

  end_slot_stays : (x : ℕ) (o : Option Slot) (c : Core) → Stays c (end_slot x o c)
  end_slot_stays x (Some (in_block (Some b))) c = stays_then (stays_end b c) (stays_slot x (in_block None) (end b c) (λ k e. cc))
  end_slot_stays x (Some (in_block None)) c = stays_same c
  end_slot_stays x (Some (by_name v)) c = stays_same c
  end_slot_stays x None c = stays_same c

  pub stays_finish : (x : ℕ) (c : Core) → Stays c (finish x c)
  stays_finish x c = end_slot_stays x (slot c x) c

  pub stays_emptied : (x n : ℕ) (o : Option Slot) (c : Core) → Stays c (emptied x n o c)
  stays_emptied x n (Some (in_block (Some b))) c = stays_put b 0 (replicate n Empty) c
  stays_emptied x n (Some (by_name v)) c = stays_named x None c
  stays_emptied x n (Some (in_block None)) c = stays_same c
  stays_emptied x n None c = stays_same c

  -- where memory comes to something
  abbrev pub StaysIf : Core → Tested Core → Type 0
  StaysIf c (Ok d) = Stays c d
  StaysIf c (Err k) = Unit {0}

  changed_stays : (r : Tested Memory) (c : Core) → KeepsIf c.memory r → StaysIf c (changed r c)
  changed_stays (Ok m) c h = in_memory c m c.live h
  changed_stays (Err k) c h = tt

  pub stays_store : (q : Ptr) (access : Access) (v : Value) (c : Core) → StaysIf c (changed (store_in c.memory q access v) c)
  stays_store q access v c = changed_stays (store_in c.memory q access v) c (store_keeps c.memory q access v)

  pub stays_copy : (to from : Ptr) (count : ℕ) (overlap : Bool) (c : Core) → StaysIf c (copy to from count overlap c)
  stays_copy to from count overlap c = changed_stays (Ranges.copy c.memory to from count overlap) c (copy_keeps c.memory to from count overlap)

  pub stays_copy_record : (n : ℕ) (to from : Spot) (c : Core) → StaysIf c (copy_record n to from c)
  stays_copy_record n (placed q) (placed r) c = stays_copy q r n (is_same_place q r) c
  stays_copy_record n (placed q) (kept y) c = tt
  stays_copy_record n (kept x) from c = tt

  pub stays_fill : (to : Ptr) (byte count : ℕ) (c : Core) → StaysIf c (fill to byte count c)
  stays_fill to byte count c = changed_stays (Ranges.fill c.memory to (byte % 2 ^ 8) count) c (fill_keeps c.memory to (byte % 2 ^ 8) count)

  pub stays_free : (q : Ptr) (c : Core) → StaysIf c (free q c)
  stays_free q c = by_memory (Lifetimes.free c.memory q) (free_keeps c.memory q)
    where
      by_memory : (r : Tested Memory) → KeepsIf c.memory r → StaysIf c (r >>= λ m. Ok (record c { memory = m; live = c.live - freed_size c.memory q }))
      by_memory (Ok m) h = in_memory c m (c.live - freed_size c.memory q) h
      by_memory (Err k) h = tt

  -- ---- with a result, or the end of the run

  abbrev pub StaysWhere : {A : Type 0} → Core → Result A Final → Core → Type 0
  StaysWhere c (Ok x) d = Stays c d
  StaysWhere c (Err last) d = Unit {0}

  abbrev pub StaysTo : {A : Type 0} → Core → Does A → Type 0
  StaysTo c d = StaysWhere c d.0 d.1

  behind_stays : {A B : Type 0} (c : Core) (r : Result A Final) (d : Core) (next : A → Core → Does B) → StaysWhere c r d
      → ((x : A) → Stays c d → StaysTo c (next x d)) → StaysTo c (behind r d next)
  behind_stays c (Ok x) d next h k = k x h
  behind_stays c (Err last) d next h k = tt

  later_stays : {A : Type 0} {c d : Core} (r : Result A Final) (e : Core) → Stays c d → StaysWhere d r e → StaysWhere c r e
  later_stays (Ok x) e h k = stays_then h k
  later_stays (Err last) e h k = tt

  with_all : {A : Type 0} {c d : Core} (e : Does A) → Stays c d → StaysTo d e → StaysTo c e
  with_all e h k = later_stays e.0 e.1 h k

  -- a new block of that size
  block_begins : {A : Type 0} (n : ℕ) (k : BlockKind) (c : Core) (next : ℕ → Core → Does A)
      → ((b : ℕ) (d : Core) → Stays c d → size d.memory b ≡ n → StaysTo c (next b d)) → StaysTo c (and_then (make n k c) next)
  block_begins n k c next h = by_test (nat_lt greatest_live (c.live + n))
    where
      block_new : Block
      block_new = record { kind = k; contents = living (replicate n Empty) }

      new : Core
      new = record c { memory = with_block c.memory n k; live = c.live + n }

      by_test : (test : Bool) → StaysTo c (and_then (if◌then◌else◌ {A = Does ℕ} test (Err (Room Live (c.live + n)), c) (Ok (length c.memory), new)) next)
      by_test true = tt
      by_test false = h (length c.memory) new (in_memory c (with_block c.memory n k) (c.live + n) (new_keeps c.memory block_new))
          (new_size c.memory block_new ∙ length-replicate n Empty)

  pub stays_allocate : (n : ℕ) (all : Bool) (c : Core) → StaysTo c (allocate n all c)
  stays_allocate n all c =
      block_begins n Kind.Heap c (λ b d. done (pointer (P.Block b 0)) (zeroed all b n d)) (λ b d h e. stays_then h (stays_zeroed all b n d))

  pub stays_begin : (x : ℕ) (b : Bool) (n : ℕ) (c : Core) → (b ≡ true → sizes x ≤ n) → StaysTo c (begin_as x b n c)
  stays_begin x false n c fits = stays_named x None c
  stays_begin x true n c fits = with_all (begin_as x true n c) (stays_finish x c) (block_begins n Kind.Local (finish x c)
      (λ b d. done tt (with_slot x (in_block (Some b)) d)) (λ b d h e. stays_then h (stays_slot x (in_block (Some b)) d
      (λ k same. let fit = fits refl in subst (λ (i : ℕ). sizes x ≤ size d.memory i) (block_same same) (omega (arith, fit, e))))))
    where
      block_same : {b k : ℕ} → in_block (Some b) ≡ in_block (Some k) → b ≡ k
      block_same e = cc

  -- ---- arguments

  tested_stays : (at : Place) (r : Tested Core) (c : Core) → StaysIf c r → StaysTo c (Cores.tested at r c)
  tested_stays at (Ok d) c h = h
  tested_stays at (Err k) c h = tt

  received_stays : (at : Place) (x : ℕ) (access : Access) (v : Value) (o : Option Slot) (c : Core) → StaysTo c (received at x access v o c)
  received_stays at x access v (Some (in_block (Some b))) c =
      tested_stays at (changed (store_in c.memory (P.Block b 0) access v) c) c (stays_store (P.Block b 0) access v c)
  received_stays at x access v (Some (in_block None)) c = stays_named x (Some v) c
  received_stays at x access v (Some (by_name w)) c = stays_named x (Some v) c
  received_stays at x access v None c = stays_named x (Some v) c

  one_stays : (at : Place) (x : ℕ) (r : Parameter) (v : Value) (c : Core) → (r.block ≡ true → sizes x ≤ r.size) → StaysTo c (receive_one at x r v c)
  one_stays at x r v c fits = let begun = begin_as x r.block r.size c in
      behind_stays c begun.0 begun.1 (λ u d. received at x r.access v (slot d x) d) (stays_begin x r.block r.size c fits)
      (λ u h. with_all (received at x r.access v (slot begun.1 x) begun.1) h (received_stays at x r.access v (slot begun.1 x) begun.1))

  pub stays_receive : (at : Place) (x : ℕ) (parameters : List Parameter) (values : List Value) (c : Core) → BeginParameters sizes x parameters
      → StaysTo c (receive at x parameters values c)
  stays_receive at x [] values c fits = stays_same c
  stays_receive at x (r ∷ more) [] c fits = stays_same c
  stays_receive at x (r ∷ more) (v ∷ rest) c fits = let one = receive_one at x r v c in
      behind_stays c one.0 one.1 (λ u d. receive at (x + 1) more rest d) (one_stays at x r v c fits.0)
      (λ u h. with_all (receive at (x + 1) more rest one.1) h (stays_receive at (x + 1) more rest one.1 fits.1))
