-- What is done to memory keeps the typing fact of pointers.
use Rattle.std.proofs.Common.{◌≡◌, refl, sym, ap, ◌∙◌, subst, ℕ, zero, suc, ◌+◌, ◌*◌, ◌/◌, ◌%◌, ◌<◌, ◌≤◌, ◌⊎◌, inl, inr, ◌==◌, nat_le, Bool, true, false, ◌&&◌}
use Rattle.std.proofs.Common.{◌||◌, not, if◌then◌else◌}
use Rattle.std.proofs.Common.{List, [], ◌∷◌, ◌++◌, length, drop, replicate, slice_get, slice_set, Option, Some, None, Ok, Err, arith}
use Rattle.std.proofs.Common.{length-append, length-set}
use Rattle.std.proofs.lemmas.List.{length-replicate}
use Rattle.std.specs.Prelude.{IfOk, option_map, ◌≢◌}
use Rattle.std.specs.List.{All, list_any}
use Rattle.std.proofs.lemmas.Bool.Decides.{leb_tells, eqb_tells}
use Rattle.std.proofs.lemmas.List.Elements.{All-nil, All-cons, All-head, All-append, All-replicate, All-take, All-drop, All-weaker, All-from_recursion}
use Rattle.lay_base.specs.declared.faults.UndefinedKind.{UndefinedKind}
use Rattle.lay_base.specs.declared.faults.UndefinedKind.TheVariants as K
use Rattle.c_types.specs.IntKinds.{width}
use Rattle.c_typed.specs.Programs.{ProgramData}
use Rattle.memory_words.specs.CellWords.Fragments.{are_fragments}
use Rattle.memory_words.specs.declared.cell_words.cell.Cell.{Cell}
use Rattle.memory_words.specs.declared.cell_words.cell.Cell.TheVariants.{Empty, Byte, Fragment}
use Rattle.memory_words.specs.declared.cell_words.pointer.Ptr.{Ptr}
use Rattle.memory_words.specs.declared.cell_words.pointer.Ptr.TheVariants as P
use Rattle.block_memory.specs.declared.kinds.Access.{Access}
use Rattle.block_memory.specs.declared.kinds.Access.TheVariants.{Number, Pointer}
use Rattle.block_memory.specs.declared.kinds.BlockKind.{BlockKind}
use Rattle.block_memory.specs.Accesses.{must, place}
use Rattle.block_memory.specs.Blocks.{Memory, Block, living, block, kind, size, size_in, cells_in, cells, with_cells, is_live}
use Rattle.block_memory.specs.Held.{bytes_of, fragments_of, number_in, null_in, pointer_in, or_pointer, is_empty, held}
use Rattle.block_memory.specs.Lifetimes.{with_block, with_end, free, is_heap}
use Rattle.block_memory.specs.Ranges.{copy, do_overlap}
use Rattle.block_memory.specs.Tested as Tests
use Rattle.block_memory.specs.Tested.{Tested}
use Rattle.block_memory.specs.RunWorlds.Events.{Event, allocated}
use Rattle.block_memory.specs.RunWorlds.Scalars.{as_value, load_in, store_in, pointer_of, width_of}
use Rattle.block_memory.specs.declared.run_worlds.value.Value.{Value}
use Rattle.block_memory.specs.declared.run_worlds.value.Value.TheVariants.{Word as word, Pointer as pointer}
use Rattle.c_meaning.specs.Allocations.{HasElements, IsAsTold, LiesInField, Made, allocated_for, byte_of_record, made_for, record_size}
use Rattle.c_meaning.specs.PointerLaws.{StaysTyped, IsTypedValue, IsMadeFor, IsTypeOf, CopiesClear, OperationsKeepTypes}
use Rattle.c_meaning.specs.PointerTypes.{IsClear, IsTypedCell, LiesInFields, MayPoint, PointersAreTyped, PointsElsewhere, PointsToElement, Records}
use Rattle.c_meaning.proofs.ChangedBlocks.{block_before, block_last, made_before, made_last, made_past, none_some, is_made, Before, before, last, past}
use Rattle.c_meaning.proofs.ChangedBlocks.{where_is, block_changed, all_set, all_at, IsWritten, size_over, all_over, cell_over, part_get, no_more_than}
use Rattle.c_meaning.proofs.ChangedBlocks.{same_get, whole_mod, length_bytes}

module _ (p : ProgramData) (among : Records) where
  -- ---- what a pointer may point to in a later memory

  -- the blocks that were there keep their sizes, and what they were made for
  record IsLater (made : Made) (m : Memory) (later : Made) (n : Memory) : Type 0 where
    there : length m ≤ length n
    same_made : (b : ℕ) → b < length made → made_for later b ≡ made_for made b
    same_size : (b : ℕ) → b < length m → size n b ≡ size m b

  module _ (made : Made) (m : Memory) (later : Made) (n : Memory) (each : length made ≡ length m) (l : IsLater made m later n) where
    element_later : (r : ℕ) (q : Ptr) → PointsToElement p made m r q → PointsToElement p later n r q
    element_later r P.Null h = tt
    element_later r (P.Function f) h = h
    element_later r (P.Block b at) h =
        let known : b < length made = is_made made b r h.allocated in
        let old : b < length m = omega (arith, known, each) in record {
          allocated = l.same_made b known ∙ h.allocated;
          index = h.index;
          begins = h.begins;
          within = subst (λ k. at ≤ k) (sym (l.same_size b old)) h.within;
        }

    elsewhere_later : (q : Ptr) → PointsElsewhere among made m q → PointsElsewhere among later n q
    elsewhere_later P.Null h = tt
    elsewhere_later (P.Function f) h = tt
    elsewhere_later (P.Block b at) h =
        let old : b < length m = h.is_there in
        let more = l.there in
        let known : b < length made = omega (arith, old, each) in record {
          is_there = omega (arith, old, more);
          for_none = λ r a e. h.for_none r a (sym (l.same_made b known) ∙ e);
        }

    points_later : (type : ℕ) (q : Ptr) → MayPoint p among made m type q → MayPoint p among later n type q
    points_later type q may = record {
      to_record = λ r a e. element_later r q (may.to_record r a e);
      to_other = λ never. elsewhere_later q (may.to_other never);
    }

    cell_later : (c : Cell) → IsTypedCell p among made m c → IsTypedCell p among later n c
    cell_later Empty h = h
    cell_later (Byte x) h = h
    cell_later (Fragment type q k) h = points_later type q h

    block_later : (one : Block) → All (IsTypedCell p among made m) (cells_in one.contents) → All (IsTypedCell p among later n) (cells_in one.contents)
    block_later one h = All-weaker (IsTypedCell p among made m) (IsTypedCell p among later n) cell_later (cells_in one.contents) h

    memory_later : (all : Memory) → All (λ one. All (IsTypedCell p among made m) (cells_in one.contents)) all
        → All (λ one. All (IsTypedCell p among later n) (cells_in one.contents)) all
    memory_later all h = All-weaker (λ one. All (IsTypedCell p among made m) (cells_in one.contents))
        (λ one. All (IsTypedCell p among later n) (cells_in one.contents)) block_later all h

  -- ---- a block that has others in its place

  -- it is as long, and of the same kind, and what it holds is typed
  record IsAsWide (made : Made) (m : Memory) (b : ℕ) (x : Block) : Type 0 where
    same_kind : x.kind ≡ kind m b
    same_size : size_in x.contents ≡ size m b
    typed : All (IsTypedCell p among made m) (cells_in x.contents)
    clear : (r at : ℕ) (c : Cell) → among r → made_for made b ≡ Some r → slice_get (cells_in x.contents) at ≡ Some c
        → (LiesInField p r (byte_of_record p r at) → ⊥) → IsClear c

  module _ (made : Made) (m : Memory) (typed : PointersAreTyped p among made m) where
    abbrev TypedCells : Block → Type 0
    TypedCells one = All (IsTypedCell p among made m) (cells_in one.contents)

    typed_at : (b : ℕ) → TypedCells (block m b)
    typed_at b = all_at TypedCells m b (All-nil (IsTypedCell p among made m)) typed.pointers

    elements_of : (r b : ℕ) (x : Block) → x.kind ≡ kind m b → size_in x.contents ≡ size m b → HasElements p r (block m b) → HasElements p r x
    elements_of r b x k s h = record { heap = k ∙ h.heap; count = h.count; whole = s ∙ h.whole }

    module _ (b : ℕ) (x : Block) (wide : IsAsWide made m b x) where
      size_stays : (c : ℕ) → size (slice_set m b x) c ≡ size m c
      size_stays c = by_place (block_changed m b x c)
        where
          by_place : (block (slice_set m b x) c ≡ block m c) ⊎ ((c ≡ b) × (block (slice_set m b x) c ≡ x)) → size (slice_set m b x) c ≡ size m c
          by_place (inl e) = ap (λ one. size_in one.contents) e
          by_place (inr e) = ap (λ one. size_in one.contents) e.1 ∙ wide.same_size ∙ ap (λ n. size m n) (sym e.0)

      later_by : IsLater made m made (slice_set m b x)
      later_by = record {
        there = (let same = length-set m b x in omega (arith, same));
        same_made = λ c h. refl;
        same_size = λ c h. size_stays c;
      }

      whole_by : (c r : ℕ) → among r → made_for made c ≡ Some r → HasElements p r (block (slice_set m b x) c)
      whole_by c r a e = by_place (block_changed m b x c)
        where
          by_place : (block (slice_set m b x) c ≡ block m c) ⊎ ((c ≡ b) × (block (slice_set m b x) c ≡ x)) → HasElements p r (block (slice_set m b x) c)
          by_place (inl i) = subst (λ one. HasElements p r one) (sym i) (typed.whole c r a e)
          by_place (inr i) = subst (λ one. HasElements p r one) (sym i.1)
              (elements_of r b x wide.same_kind wide.same_size (typed.whole b r a (ap (λ n. made_for made n) (sym i.0) ∙ e)))

      padding_by : (c r at : ℕ) (cell : Cell) → among r → made_for made c ≡ Some r → slice_get (cells_in (block (slice_set m b x) c).contents) at ≡ Some cell
          → (LiesInField p r (byte_of_record p r at) → ⊥) → IsClear cell
      padding_by c r at cell a e here never = by_place (block_changed m b x c)
        where
          by_place : (block (slice_set m b x) c ≡ block m c) ⊎ ((c ≡ b) × (block (slice_set m b x) c ≡ x)) → IsClear cell
          by_place (inl i) = typed.padding c r at cell a e (ap (λ one. slice_get (cells_in one.contents) at) (sym i) ∙ here) never
          by_place (inr i) = wide.clear r at cell a (ap (λ n. made_for made n) (sym i.0) ∙ e) (ap (λ one. slice_get (cells_in one.contents) at) (sym i.1) ∙ here) never

      changed : StaysTyped p among made m made (slice_set m b x)
      changed = record {
        memory = record {
          each = typed.each ∙ sym (length-set m b x);
          whole = whole_by;
          pointers = memory_later made m made (slice_set m b x) typed.each later_by (slice_set m b x) (all_set TypedCells m b x wide.typed typed.pointers);
          padding = padding_by;
        };
        kept = points_later made m made (slice_set m b x) typed.each later_by;
      }

    nothing_done : StaysTyped p among made m made m
    nothing_done = record { memory = typed; kept = λ type q h. h }

    -- ---- others written into a block

    abbrev ClearIn : (b at : ℕ) → List Cell → Type 0
    ClearIn b at new = (r j : ℕ) (c : Cell) → among r → made_for made b ≡ Some r → j < length new → slice_get new j ≡ Some c
        → (LiesInField p r (byte_of_record p r (at + j)) → ⊥) → IsClear c

    written : (b at : ℕ) (new : List Cell) → at + length new ≤ size m b → All (IsTypedCell p among made m) new → ClearIn b at new
        → StaysTyped p among made m made (with_cells m b at new)
    written b at new fits all clear = changed b _ (record {
      same_kind = refl;
      same_size = size_over (block m b).contents at new fits;
      typed = all_over (IsTypedCell p among made m) (block m b).contents at new (typed_at b) all;
      clear = λ r k c a e here never. by_cell r k c a e never (cell_over (block m b).contents at new k c fits here);
    })
      where
        by_cell : (r k : ℕ) (c : Cell) → among r → made_for made b ≡ Some r → (LiesInField p r (byte_of_record p r k) → ⊥)
            → (slice_get (cells_in (block m b).contents) k ≡ Some c) ⊎ IsWritten new at k c → IsClear c
        by_cell r k c a e never (inl old) = typed.padding b r k c a e old never
        by_cell r k c a e never (inr i) = clear r i.j c a e i.within i.there (subst (λ n. LiesInField p r (byte_of_record p r n) → ⊥) i.is never)

    cleared_by : (b count : ℕ) → count ≤ size m b → StaysTyped p among made m made (with_cells m b 0 (replicate count (Byte 0)))
    cleared_by b count fits = written b 0 (replicate count (Byte 0)) (let same = length-replicate count (Byte 0) in omega (arith, fits, same))
        (All-replicate (IsTypedCell p among made m) count (Byte 0) tt)
        (λ r j c a e less here never. subst IsClear (same_get (Byte 0) count j c here) refl)

    -- ---- a block ends

    ended_by : (b : ℕ) → StaysTyped p among made m made (with_end m b)
    ended_by b = changed b _ (record {
      same_kind = refl;
      same_size = refl;
      typed = All-nil (IsTypedCell p among made m);
      clear = λ r at c a e here never. absurd (none_some c here);
    })

    freed_if : (b : ℕ) (test : Bool) → IfOk (if◌then◌else◌ {A = Tested Memory} test (Ok (with_end m b)) (Err K.Free)) (λ n. StaysTyped p among made m made n)
    freed_if b true = ended_by b
    freed_if b false = tt

    freed_by : (q : Ptr) → IfOk (free m q) (λ n. StaysTyped p among made m made n)
    freed_by P.Null = nothing_done
    freed_by (P.Function f) = tt
    freed_by (P.Block b zero) = freed_if b (is_live m b && is_heap (kind m b))
    freed_by (P.Block b (suc at)) = tt

    -- ---- places: where bytes are accessed, they lie in the block

    abbrev LiesThere : (b at count : ℕ) → ℕ × ℕ → Type 0
    LiesThere b at count found = (found ≡ (b, at)) × (at + count ≤ size m b)

    tests_place : (b at count : ℕ) (one two three four : Bool) → (two ≡ true → at + count ≤ size m b)
        → IfOk (Tests.◌>>=◌ (must one K.Dead) (λ u. Tests.◌>>=◌ (must two K.Outside) (λ v. Tests.◌>>=◌ (must three K.Align)
        (λ w. Tests.◌>>=◌ (must four K.ReadOnly) (λ x. Ok (b, at)))))) (LiesThere b at count)
    tests_place b at count false two three four h = tt
    tests_place b at count true false three four h = tt
    tests_place b at count true true false four h = tt
    tests_place b at count true true true false h = tt
    tests_place b at count true true true true h = (refl, h refl)

    is_le : (a b : ℕ) → nat_le a b ≡ true → a ≤ b
    is_le a b h = grind (arith, leb_tells a b)

    placed : (b at count w : ℕ) (stores : Bool) → IfOk (place m (P.Block b at) count w stores) (LiesThere b at count)
    placed b at count w stores = tests_place b at count _ _ _ _ (is_le (at + count) (size m b))

    -- ---- stores

    put_by : (b at count : ℕ) (new : List Cell) (r : Tested (ℕ × ℕ)) → IfOk r (LiesThere b at count) → length new ≡ count → All (IsTypedCell p among made m) new
        → LiesInFields p among made b at count → IfOk (Tests.◌>>=◌ r (λ found. Ok (with_cells m found.0 found.1 new))) (λ n. StaysTyped p among made m made n)
    put_by b at count new (Err kind) there many all fields = tt
    put_by b at count new (Ok found) there many all fields =
        let fits = there.1 in
        subst (λ (q : ℕ × ℕ). StaysTyped p among made m made (with_cells m q.0 q.1 new)) (sym there.0)
        (written b at new (omega (arith, many, fits)) all
        (λ r j c a e less here never. absurd (never (fields r j a e (let l : j < count = omega (arith, less, many) in l)))))

    bytes_typed : (count v : ℕ) → All (IsTypedCell p among made m) (bytes_of count v)
    bytes_typed zero v = All-nil (IsTypedCell p among made m)
    bytes_typed (suc count) v = All-cons (IsTypedCell p among made m) (Byte (v % 256)) (bytes_of count (v / 256)) tt (bytes_typed count (v / 256))

    fragments_typed : (type : ℕ) (q : Ptr) → MayPoint p among made m type q → All (IsTypedCell p among made m) (fragments_of type q)
    fragments_typed type q h = All-from_recursion (IsTypedCell p among made m) (fragments_of type q) (h, (h, (h, (h, tt))))

    stored_by : (b at : ℕ) (access : Access) (v : Value) → IsTypedValue p among made m access v → LiesInFields p among made b at (width_of access)
        → IfOk (store_in m (P.Block b at) access v) (λ n. StaysTyped p among made m made n)
    stored_by b at (Number kind) (word n) h fields =
        put_by b at (width kind) _ _ (placed b at (width kind) (width kind) true) (length_bytes (width kind) n) (bytes_typed (width kind) n) fields
    stored_by b at (Number kind) (pointer q) h fields = tt
    stored_by b at (Pointer type) (word n) h fields = tt
    stored_by b at (Pointer type) (pointer q) h fields = put_by b at 4 _ _ (placed b at 4 4 true) refl (fragments_typed type q h) fields

    -- ---- loads

    null_typed : (type : ℕ) → MayPoint p among made m type P.Null
    null_typed type = record { to_record = λ r a e. tt; to_other = λ never. tt }

    abbrev IfPointer : (type : ℕ) → Option Ptr → Type 0
    IfPointer type None = Unit {0}
    IfPointer type (Some q) = MayPoint p among made m type q

    null_if : (type : ℕ) (v : Option ℕ) → IfPointer type (null_in v)
    null_if type None = tt
    null_if type (Some zero) = null_typed type
    null_if type (Some (suc n)) = tt

    found_if : (type : ℕ) (q : Ptr) (test : Bool) → (test ≡ true → MayPoint p among made m type q) → IfPointer type (if test then Some q else None)
    found_if type q true h = h refl
    found_if type q false h = tt

    pointer_found : (type : ℕ) (all : List Cell) → All (IsTypedCell p among made m) all → IfPointer type (pointer_in type all)
    pointer_found type [] h = null_typed type
    pointer_found type (Empty ∷ more) h = null_if type (number_in (Empty ∷ more))
    pointer_found type (Byte x ∷ more) h = null_if type (number_in (Byte x ∷ more))
    pointer_found type (Fragment t q k ∷ more) h = found_if type q (are_fragments type q 0 (Fragment t q k ∷ more))
        (λ e. subst (λ n. MayPoint p among made m n q) (same e) (All-head (IsTypedCell p among made m) (Fragment t q k) more h))
      where
        same : are_fragments type q 0 (Fragment t q k ∷ more) ≡ true → t ≡ type
        same e = by_test (eqb_tells t type) e
          where
            by_test : ((t == type) ≡ true) × (t ≡ type) ⊎ ((t == type) ≡ false) × (t ≢ type) → are_fragments type q 0 (Fragment t q k ∷ more) ≡ true → t ≡ type
            by_test (inl i) e = i.1
            by_test (inr i) e = absurd (let never : false ≡ true = rw i.0 at e in cc)

    held_by : (type : ℕ) (test : Bool) (found : Option Ptr) → IfPointer type found
        → IfOk (if◌then◌else◌ {A = Tested Ptr} test (Err K.Empty) (or_pointer found)) (λ q. MayPoint p among made m type q)
    held_by type true found h = tt
    held_by type false None h = tt
    held_by type false (Some q) h = h

    loaded_from : (type b at : ℕ) → IfOk (held (cells m b at 4) (pointer_in type (cells m b at 4))) (λ q. MayPoint p among made m type q)
    loaded_from type b at = held_by type (list_any is_empty (cells m b at 4)) (pointer_in type (cells m b at 4)) (pointer_found type (cells m b at 4)
        (All-take (IsTypedCell p among made m) 4 (drop at (cells_in (block m b).contents)) (All-drop (IsTypedCell p among made m) at (cells_in (block m b).contents) (typed_at b))))

    got_by : (type : ℕ) (r : Tested (ℕ × ℕ))
        → IfOk (as_value pointer (Tests.◌>>=◌ r (λ found. held (cells m found.0 found.1 4) (pointer_in type (cells m found.0 found.1 4)))))
        (λ v. MayPoint p among made m type (pointer_of v))
    got_by type (Err kind) = tt
    got_by type (Ok found) = as_pointer (held (cells m found.0 found.1 4) (pointer_in type (cells m found.0 found.1 4))) (loaded_from type found.0 found.1)
      where
        as_pointer : (r : Tested Ptr) → IfOk r (λ q. MayPoint p among made m type q) → IfOk (as_value pointer r) (λ v. MayPoint p among made m type (pointer_of v))
        as_pointer (Ok q) h = h
        as_pointer (Err kind) h = tt

    any_number : (r : Tested ℕ) → IfOk (as_value word r) (λ v. Unit {0})
    any_number (Ok v) = tt
    any_number (Err kind) = tt

    loaded_by : (q : Ptr) (access : Access) → IfOk (load_in m q access) (λ v. IsTypedValue p among made m access v)
    loaded_by q (Number kind) = any_number _
    loaded_by q (Pointer type) = got_by type (place m q 4 4 false)

    -- ---- copies

    must_hold : (test : Bool) (n : Memory) → StaysTyped p among made m made n
        → IfOk (Tests.◌>>=◌ (must test K.Overlap) (λ c. Ok n)) (λ n. StaysTyped p among made m made n)
    must_hold true n h = h
    must_hold false n h = tt

    put_copy : (b at c start count : ℕ) → at + count ≤ size m b → CopiesClear p among made m (P.Block b at) (P.Block c start) count
        → StaysTyped p among made m made (with_cells m b at (cells m c start count))
    put_copy b at c start count fits clear =
        let all = cells_in (block m c).contents in
        let few : length (cells m c start count) ≤ count = no_more_than count (drop start all) in
        written b at (cells m c start count) (omega (arith, few, fits))
        (All-take (IsTypedCell p among made m) count (drop start all) (All-drop (IsTypedCell p among made m) start all (typed_at c)))
        (λ r j cell a e less here never. clear r j cell a e (let l : j < count = omega (arith, less, few) in l) never
        (part_get all start count j (start + j) cell refl here))

    abbrev copying : (count : ℕ) → (overlap : Bool) → (to from : ℕ × ℕ) → Tested Memory
    copying count overlap x y = Tests.◌>>=◌ (must (overlap || not (do_overlap x y count)) K.Overlap) (λ z. Ok (with_cells m x.0 x.1 (cells m y.0 y.1 count)))

    copy_by : (b at c start count : ℕ) (overlap : Bool) (r s : Tested (ℕ × ℕ)) → IfOk r (LiesThere b at count) → IfOk s (LiesThere c start count)
        → CopiesClear p among made m (P.Block b at) (P.Block c start) count
        → IfOk (Tests.◌>>=◌ r (λ x. Tests.◌>>=◌ s (copying count overlap x))) (λ n. StaysTyped p among made m made n)
    copy_by b at c start count overlap (Err kind) s h k clear = tt
    copy_by b at c start count overlap (Ok x) (Err kind) h k clear = tt
    copy_by b at c start count overlap (Ok x) (Ok y) h k clear =
        must_hold (overlap || not (do_overlap x y count)) (with_cells m x.0 x.1 (cells m y.0 y.1 count))
        (subst (λ (q : ℕ × ℕ). StaysTyped p among made m made (with_cells m q.0 q.1 (cells m y.0 y.1 count))) (sym h.0)
        (subst (λ (q : ℕ × ℕ). StaysTyped p among made m made (with_cells m b at (cells m q.0 q.1 count))) (sym k.0)
        (put_copy b at c start count h.1 clear)))

    elements_clear : (r b c i j count : ℕ) → among r → made_for made b ≡ Some r → made_for made c ≡ Some r
        → CopiesClear p among made m (P.Block b (i * record_size p r)) (P.Block c (j * record_size p r)) count
    elements_clear r b c i j count a to from s k cell a' e less never here =
        let same : r ≡ s = (let both : Some r ≡ Some s = sym to ∙ e in cc) in
        typed.padding c r (j * record_size p r + k) cell a from here (λ lies. never (subst (λ n. LiesInField p n (byte_of_record p n (i * record_size p r + k))) same
        (subst (LiesInField p r) (whole_mod j (record_size p r) k ∙ sym (whole_mod i (record_size p r) k)) lies)))

    no_source : (to : Tested (ℕ × ℕ)) (next : ℕ × ℕ → ℕ × ℕ → Tested Memory) (kind : UndefinedKind)
        → IfOk (Tests.◌>>=◌ to (λ x. Tests.◌>>=◌ (Err kind) (next x))) (λ n. StaysTyped p among made m made n)
    no_source (Ok x) next kind = tt
    no_source (Err k) next kind = tt

    copied_by : (to from : Ptr) (count : ℕ) (overlap : Bool) → CopiesClear p among made m to from count
        → IfOk (copy m to from count overlap) (λ n. StaysTyped p among made m made n)
    copied_by to from zero overlap clear = nothing_done
    copied_by P.Null from (suc n) overlap clear = tt
    copied_by (P.Function f) from (suc n) overlap clear = tt
    copied_by (P.Block b at) P.Null (suc n) overlap clear = no_source (place m (P.Block b at) (suc n) 1 true) (copying (suc n) overlap) K.Null
    copied_by (P.Block b at) (P.Function f) (suc n) overlap clear = no_source (place m (P.Block b at) (suc n) 1 true) (copying (suc n) overlap) K.Dead
    copied_by (P.Block b at) (P.Block c start) (suc n) overlap clear =
        copy_by b at c start (suc n) overlap _ _ (placed b at (suc n) 1 true) (placed c start (suc n) 1 false) clear

    -- ---- a new block

    module _ (size : ℕ) (kind : BlockKind) (record_made : Option ℕ) where
      abbrev new : Block
      new = record { kind = kind; contents = living (replicate size Empty) }

      abbrev later : Made
      later = made ++ record_made ∷ []

      later_with : IsLater made m later (with_block m size kind)
      later_with = record {
        there = (let more = length-append m (new ∷ []) in omega (arith, more));
        same_made = λ b h. made_before made record_made b h;
        same_size = λ b h. ap (λ one. size_in one.contents) (block_before m new b h);
      }

      -- at the number of the new block
      made_here : (b : ℕ) → b ≡ length made → made_for later b ≡ record_made
      made_here b e = ap (λ n. made_for later n) e ∙ made_last made record_made

      block_here : (b : ℕ) → b ≡ length made → block (with_block m size kind) b ≡ new
      block_here b e = ap (λ n. block (with_block m size kind) n) (e ∙ typed.each) ∙ block_last m new

      not_past : (b r : ℕ) → length made < b → made_for later b ≡ Some r → ⊥
      not_past b r h e = none_some r (sym (made_past later b (let more = length-append made (record_made ∷ []) in omega (arith, more, h))) ∙ e)

      whole_with : IsMadeFor p among size kind record_made → (b r : ℕ) → among r → made_for later b ≡ Some r → HasElements p r (block (with_block m size kind) b)
      whole_with is b r a e = by_place (where_is (length made) b)
        where
          by_place : Before (length made) b → HasElements p r (block (with_block m size kind) b)
          by_place (before h) = subst (λ one. HasElements p r one) (sym (block_before m new b (let each = typed.each in omega (arith, h, each))))
              (typed.whole b r a (sym (made_before made record_made b h) ∙ e))
          by_place (last h) = subst (λ one. HasElements p r one) (sym (block_here b h)) (is r a (sym (made_here b h) ∙ e))
          by_place (past h) = absurd (not_past b r h e)

      padding_with : (b r at : ℕ) (c : Cell) → among r → made_for later b ≡ Some r → slice_get (cells_in (block (with_block m size kind) b).contents) at ≡ Some c
          → (LiesInField p r (byte_of_record p r at) → ⊥) → IsClear c
      padding_with b r at c a e here never = by_place (where_is (length made) b)
        where
          by_place : Before (length made) b → IsClear c
          by_place (before h) = typed.padding b r at c a (sym (made_before made record_made b h) ∙ e)
              (ap (λ one. slice_get (cells_in one.contents) at) (sym (block_before m new b (let each = typed.each in omega (arith, h, each)))) ∙ here) never
          by_place (last h) = subst IsClear (same_get Empty size at c (ap (λ one. slice_get (cells_in one.contents) at) (sym (block_here b h)) ∙ here)) tt
          by_place (past h) = absurd (not_past b r h e)

      made_by : IsMadeFor p among size kind record_made → StaysTyped p among made m later (with_block m size kind)
      made_by is = record {
        memory = record {
          each = length-append made (record_made ∷ []) ∙ ap (λ n. n + 1) typed.each ∙ sym (length-append m (new ∷ []));
          whole = whole_with is;
          pointers = All-append (λ one. All (IsTypedCell p among later (with_block m size kind)) (cells_in one.contents)) m (new ∷ [])
              (memory_later made m later (with_block m size kind) typed.each later_with m typed.pointers)
              (All-cons (λ one. All (IsTypedCell p among later (with_block m size kind)) (cells_in one.contents)) new []
              (All-replicate (IsTypedCell p among later (with_block m size kind)) size Empty tt)
              (All-nil (λ one. All (IsTypedCell p among later (with_block m size kind)) (cells_in one.contents))));
          padding = padding_with;
        };
        kept = points_later made m later (with_block m size kind) typed.each later_with;
      }

      new_typed : (type : ℕ) → IsTypeOf p among type record_made → MayPoint p among later (with_block m size kind) type (P.Block (length m) 0)
      new_typed type is = record {
        to_record = λ r a e. record {
          allocated = made_here (length m) (sym typed.each) ∙ is.of_record r a e;
          index = 0;
          begins = omega arith;
          within = omega arith;
        };
        to_other = λ never. record {
          is_there = (let more = length-append m (new ∷ []) in omega (arith, more));
          for_none = λ r a e. is.of_other never r a (sym (made_here (length m) (sym typed.each)) ∙ e);
        };
      }

    -- ---- what the trace tells

    told_at : (trace : List Event) (x : Option ℕ) → IsAsTold trace made → (b : ℕ) → Before (length made) b
        → ((length m == b) ≡ true) × (length m ≡ b) ⊎ ((length m == b) ≡ false) × (length m ≢ b)
        → made_for (made ++ x ∷ []) b ≡ (if length m == b then x else allocated_for trace b)
    told_at trace x told b (last h) (inl e) = rw e.0 (ap (λ n. made_for (made ++ x ∷ []) n) h ∙ made_last made x)
    told_at trace x told b (last h) (inr e) = absurd (let each = typed.each in let apart = e.1 in omega (arith, each, h, apart))
    told_at trace x told b (before h) (inl e) = absurd (let each = typed.each in let is = e.1 in omega (arith, each, h, is))
    told_at trace x told b (before h) (inr e) = rw e.0 (made_before made x b h ∙ told b)
    told_at trace x told b (past h) (inl e) = absurd (let each = typed.each in let is = e.1 in omega (arith, each, h, is))
    told_at trace x told b (past h) (inr e) = rw e.0 (made_past (made ++ x ∷ []) b (let more = length-append made (x ∷ []) in omega (arith, more, h))
        ∙ sym (made_past made b (omega (arith, h))) ∙ told b)

    told_by : (trace : List Event) (elements : Option (ℕ × ℕ)) (size : ℕ) → IsAsTold trace made
        → IsAsTold (allocated (length m) elements size ∷ trace) (made ++ option_map (λ e. e.0) elements ∷ [])
    told_by trace elements size told b = told_at trace (option_map (λ e. e.0) elements) told b (where_is (length made) b) (eqb_tells (length m) b)

    pub keeps_types : OperationsKeepTypes p among made m
    keeps_types = record {
      by_making = made_by;
      new_block = new_typed;
      as_told = told_by;
      by_storing = stored_by;
      by_loading = loaded_by;
      by_copying = copied_by;
      whole_elements = elements_clear;
      by_clearing = cleared_by;
      by_ending = ended_by;
      by_freeing = freed_by;
    }
