-- The world before the first step: the objects are as they are initialized, and the heap and the stack are not used.
use Rattle.std.proofs.Common.{◌≡◌, ℕ, zero, suc, ◌+◌, ◌-◌, ◌%◌, ◌<◌, ◌≤◌, inl, Bool, true, false, List, [], ◌∷◌, length, map, Option, Some, None}
use Rattle.std.proofs.Common.{slice_get, slice_index, unwrap_or, refl, ap, ◌∙◌, sym, subst, arith}
use Rattle.std.specs.Prelude.{All, Contains, ◌^◌}
use Rattle.std.proofs.lemmas.List.{length-map}
use Rattle.c_typed.specs.Programs.{ProgramData}
use Rattle.c_typed.specs.declared.program.Object.{Object}
use Rattle.memory_words.specs.declared.cell_words.cell.Cell.{Cell}
use Rattle.block_memory.specs.Blocks.{Block, block, cells_in, ended, size_in}
use Rattle.block_memory.specs.declared.kinds.BlockKind.TheVariants.{Local}
use Rattle.c_meaning.specs.Program.{initial_memory, object_block, object_kind, object_size}
use Rattle.c_meaning.specs.Run.{start}
use Rattle.rv_isa.specs.Memory as M
use Rattle.rv_isa.specs.Events.{heap_start}
use Rattle.rv_runtime.specs.Bytes.{Holds, data_bytes}
use Rattle.rv_runtime.specs.Effects.{Heap}
use Rattle.rv_runtime.specs.Routines.{data_place}
use Rattle.rv_runtime.proofs.Standing.{heap_begins}
use Rattle.tac_ir.specs.Code.{Code, code_of}
use Rattle.tac_ir.specs.declared.step.Tac.{Tac}
use Rattle.rv_code.specs.declared.layout.Places.{Places}
use Rattle.rv_code.specs.Programs.{places_of}
use Rattle.elf32.specs.Written.{heap_address}
use Rattle.rv_image.specs.Data.{data_size, object_places, object_sizes, objects_at, texts_at}
use Rattle.rv_image.specs.Images.{Fits, end_of_room, image_of}
use Rattle.rv_emit.specs.Maps.{Extent, Extents, Flat, IsPlaced, Room, Shows, Within, cell_of}
use Rattle.rv_emit.specs.Grounds.{Ground}
use Rattle.rv_emit.specs.Relation.{Worldly}
use Rattle.compiled_files.specs.Placing.{placed, room_of}
use Rattle.compiled_files.specs.Sound.{IsSound}
use Rattle.rv_image.proofs.Fitting.{one_for_each}
use Rattle.rv_image.proofs.Lengths.{data_length}
use Rattle.rv_emit.proofs.Lists.{get_below, place_within}
use Rattle.compiled_files.proofs.Starting.Globals.{ends_inside, globals_agree, globals_own, index_of_map, own_length, placed_later}
use Rattle.compiled_files.proofs.Starting.Globals.{texts_behind}
use Rattle.compiled_files.proofs.Starting.Loaded.{data_is, globals, zero_behind}
use Rattle.compiled_files.proofs.Starting.Objects.{AreObjects, object_cells, object_long}
use Rattle.compiled_files.proofs.Starting.Owners.{extent_of, extents_from, extents_long, of_extent, owner_among, owner_behind, owner_below, owner_within}

-- the objects of a program, and who owns what before the first step
abbrev pub blocks_of : ProgramData → Extents
blocks_of p = extents_from objects_at (object_sizes p)

abbrev pub owner_of : ProgramData → ℕ → Option ℕ
owner_of p = owner_among 0 (blocks_of p)

get_of_map : {A B : Type 0} (f : A → B) (all : List A) (n : ℕ) (x : A) → slice_get all n ≡ Some x → slice_get (map f all) n ≡ Some (f x)
get_of_map f [] n x e = absurd cc
get_of_map f (z ∷ all) zero x e = (let d : z ≡ x = cc in ap (λ y. Some (f y)) d)
get_of_map f (z ∷ all) (suc n) x e = get_of_map f all n x e

there : {A : Type 0} (all : List A) (i : ℕ) → i < length all → (x : A) × (slice_get all i ≡ Some x)
there [] i lt = absurd (omega arith)
there (x ∷ all) zero lt = (x, refl)
there (x ∷ all) (suc i) lt = there all i (omega arith)

-- the block of an object
block_is : (p : ProgramData) (n : ℕ) (o : Object) → slice_get p.objects n ≡ Some o → block (initial_memory p) n ≡ object_block p o
block_is p n o e = ap (λ (b : Option Block). unwrap_or b (record { kind = Local; contents = ended 0 })) (get_of_map (object_block p) p.objects n o e)

-- where an object lies, and that it ends in front of the texts
place_of : (p : ProgramData) (n : ℕ) (o : Object) → slice_get p.objects n ≡ Some o
    → (objects_at ≤ slice_index (object_places p) n) × (slice_index (object_places p) n + object_size p o ≤ texts_at p)
    × (slice_index (object_places p) n % 4 ≡ 0)
place_of p n o e =
    let h = place_within objects_at (object_sizes p) n (omega (arith, get_below p.objects n o e, length-map p.objects (object_size p))) refl in
    (h.0, omega (arith, h.1, index_of_map (object_size p) p.objects n o e), h.2)

module _ (p : ProgramData) (t : Tac) (heap stack : ℕ) (fits : Fits p t) (sound : IsSound p (code_of t)) (small : (a : ℕ) → M.initial_memory (image_of p (code_of t) heap stack).segments a < 2 ^ 8)
    (ground : Ground) (text_is : (a : ℕ) → ground.text a ≡ M.initial_memory (image_of p (code_of t) heap stack).segments a)
    (room_is : ground.room ≡ room_of p (code_of t) heap stack)
    (texts_hold : (at : ℕ) (bytes : List ℕ) → Contains (placed p (code_of t)).texts (at, bytes)
    → Holds (M.initial_memory (image_of p (code_of t) heap stack).segments) at bytes × (0x08000100 ≤ at)
    × (at + length bytes ≤ (room_of p (code_of t) heap stack).data_end)) where
  abbrev c : Code
  c = code_of t

  abbrev q : Places
  q = places_of c (object_places p)

  abbrev memory : M.Memory
  memory = M.initial_memory (image_of p c heap stack).segments

  abbrev blocks : Extents
  blocks = blocks_of p

  abbrev owner : ℕ → Option ℕ
  owner = owner_of p

  -- ---- ends

  data_end : ground.room.data_end ≡ data_place + data_size p c
  data_end = ap (λ (r : Room). r.data_end) room_is

  heap_end : ground.room.heap_end ≡ end_of_room heap_address heap
  heap_end = ap (λ (r : Room). r.heap_end) room_is

  globals_long : data_place + length (globals p t heap stack fits) ≡ ground.room.data_end
  globals_long =
      let long = data_length p c q (end_of_room heap_address heap) in
      let a = ends_inside p c (end_of_room heap_address heap) in
      let b = texts_behind p c (end_of_room heap_address heap) in
      omega (arith, long, data_end, a, b)

  -- texts begin within the data
  texts_low : texts_at p ≤ ground.room.data_end
  texts_low = (let a = ends_inside p c (end_of_room heap_address heap) in omega (arith, data_end, a))

  -- no block has an address behind the data
  pub no_owner : (a : ℕ) → ground.room.data_end ≤ a → owner a ≡ None
  no_owner a le = owner_behind 0 objects_at (object_sizes p) a (omega (arith, texts_low))

  -- ---- objects

  known : AreObjects p q blocks
  known n o e = (record { at = slice_index (object_places p) n; size = object_size p o }, extent_of (object_size p) objects_at p.objects n o e, refl, refl)

  within : (e : Extent) → 0x08000100 ≤ e.at → e.at + e.size ≤ ground.room.data_end → (text : Bool) → Within ground.room (object_kind text) e
  within e low high true = (low, high)
  within e low high false = (low, high)

  is_placed : (b : ℕ) (e : Extent) → slice_get blocks b ≡ Some e → IsPlaced ground.room (initial_memory p) b e
  is_placed b e is =
      let h = of_extent (object_size p) objects_at p.objects b e is in
      let o = h.0 in
      let place = place_of p b o h.1 in
      let same = block_is p b o h.1 in
      record {
        sized = ap (λ (x : Block). size_in x.contents) same ∙ (object_long p c q blocks known o (sound.objects b o h.1)).0 ∙ sym h.3;
        whole = omega (arith, place.2, h.2);
        within = subst (λ (x : Block). Within ground.room x.kind e) (sym same)
            (within e (omega (arith, place.0, h.2)) (omega (arith, place.1, h.2, h.3, texts_low)) o.text);
      }

  -- a cell of a block is one of an object's, at a place of its own
  record OfObject (b i : ℕ) (e : Extent) (cell : Cell) : Type 0 where
    o : Object
    is : slice_get p.objects b ≡ Some o
    at : e.at ≡ slice_index (object_places p) b
    inside : i < e.size
    there : slice_get (object_cells p o) i ≡ Some cell

  of_object : (b i : ℕ) (e : Extent) (cell : Cell) → slice_get blocks b ≡ Some e → cell_of (initial_memory p) b i ≡ Some cell → OfObject b i e cell
  of_object b i e cell is there =
      let h = of_extent (object_size p) objects_at p.objects b e is in
      let o = h.0 in
      let here : slice_get (object_cells p o) i ≡ Some cell = subst (λ (x : Block). slice_get (cells_in x.contents) i ≡ Some cell) (block_is p b o h.1) there in
      let lt = get_below (object_cells p o) i cell here in
      let long = object_long p c q blocks known o (sound.objects b o h.1) in
      record { o = o; is = h.1; at = h.2; inside = omega (arith, lt, long.1, h.3); there = here }

  shown : (b i : ℕ) (e : Extent) (cell : Cell) → slice_get blocks b ≡ Some e → cell_of (initial_memory p) b i ≡ Some cell
      → Shows c q blocks cell (memory (e.at + i))
  shown b i e cell is there =
      let h = of_object b i e cell is there in
      let place = place_of p b h.o h.is in
      let j = slice_index (object_places p) b - data_place + i in
      let long = object_long p c q blocks known h.o (sound.objects b h.o h.is) in
      let lt = get_below (object_cells p h.o) i cell h.there in
      let at : e.at + i ≡ data_place + j = omega (arith, h.at, place.0) in
      subst (Shows c q blocks cell)
      (sym (ap memory at ∙ data_is p t heap stack fits j (omega (arith, place.0, place.1, texts_low, globals_long, lt, long.1))))
      (globals_agree p c (end_of_room heap_address heap) q refl blocks known sound.objects b h.o h.is i cell h.there)

  owned : (b i : ℕ) (e : Extent) (cell : Cell) → slice_get blocks b ≡ Some e → cell_of (initial_memory p) b i ≡ Some cell → owner (e.at + i) ≡ Some b
  owned b i e cell is there =
      let h = of_object b i e cell is there in
      owner_within 0 objects_at (object_sizes p) b i e is h.inside ∙ ap Some (let z : 0 + b ≡ b = omega arith in z)

  flat : Flat c q ground.room blocks owner (initial_memory p) memory
  flat = record {
    long = extents_long objects_at (object_sizes p) ∙ length-map p.objects (object_size p) ∙ sym (length-map p.objects (object_block p));
    placed = is_placed;
    shows = shown;
    owned = owned;
  }

  -- ---- the runtime's own data

  own_holds : Holds memory data_place (data_bytes (end_of_room heap_address heap))
  own_holds =
      let end = end_of_room heap_address heap in
      record {
        by = λ k lt.
            data_is p t heap stack fits k (omega (arith, lt, own_length end, globals_long, texts_low, texts_behind p c end))
            ∙ globals_own p c end q refl blocks known sound.objects k (omega (arith, lt, own_length end));
      }

  begins : Heap ground.segments memory heap_start (end_of_room heap_address heap)
  begins =
      heap_begins ground.segments memory (end_of_room heap_address heap) (omega (arith, heap_end, ground.heap_end))
      (ground.read data_place 8 (inl (omega arith, omega (arith, ground.data_low))))
      (ground.write data_place 4 (inl (omega arith, omega (arith, ground.data_low)))) own_holds

  pub first_world : (input : List ℕ) → All (λ b. b < 2 ^ 8) input → (turns : ℕ) (limited : Bool) → Worldly ground (placed p c) blocks owner (start p input turns limited) memory input [] []
  first_world input bytes turns limited =
      let top = ground.data_end in
      record {
        keeps = record {
          same = λ a lt. sym (text_is a);
          bytes = small;
        };
        flat = flat;
        objects = λ n lt.
            let h = there p.objects n (omega (arith, one_for_each p)) in
            let e = known n h.0 h.1 in
            (e.0, e.1, e.2);
        unused = λ a le lt. no_owner a (omega (arith, begins.begins));
        zero = λ a le lt. zero_behind p t heap stack fits a (omega (arith, begins.begins, globals_long));
        heap_low = omega (arith, begins.begins);
        heap_high = omega (arith, begins.begins, heap_end);
        heap_whole = omega (arith, begins.begins);
        heap_used = omega (arith, begins.begins);
        heap_limit = begins.limit ∙ sym heap_end;
        runtime = λ a low high. owner_below 0 objects_at (object_sizes p) a (omega arith);
        texts = λ a bytes is.
            let h = texts_hold a bytes is in
            let le = placed_later (texts_at p) c.routines a bytes is in
            (h.0, h.1, omega (arith, h.2, data_end), λ i lt. owner_behind 0 objects_at (object_sizes p) (a + i) (omega arith));
        input_is = refl;
        input_bytes = bytes;
        output_is = refl;
        made = refl;
      }
