-- What objects hold at first: each cell of their blocks shows its byte among the data.
use Rattle.std.proofs.Common.{◌≡◌, ℕ, zero, suc, ◌+◌, ◌-◌, ◌/◌, ◌%◌, ◌^◌, ◌<◌, ◌≤◌, inl, inr, List, [], ◌∷◌, ◌++◌, length, map, Option, Some, None}
use Rattle.std.proofs.Common.{slice_get, slice_index, take, drop, refl, ap, ◌∙◌, sym, subst, arith}
use Rattle.std.specs.Prelude.{All, replicate}
use Rattle.std.specs.Int.{w32, to_le_bytes}
use Rattle.std.specs.List.{fold}
use Rattle.std.proofs.lemmas.List.{length-append, length-drop, length-replicate, length-take}
use Rattle.std.proofs.lemmas.List.Elements.{All-head, All-tail}
use Rattle.c_types.specs.IntKinds.{width}
use Rattle.c_types.specs.declared.ty.IntKind.{IntKind}
use Rattle.c_types.specs.declared.ty.IntKind.TheVariants as I
use Rattle.c_typed.specs.Programs.{ProgramData}
use Rattle.c_typed.specs.declared.program.Initial.{Initial}
use Rattle.c_typed.specs.declared.program.InitialValue.{InitialValue}
use Rattle.c_typed.specs.declared.program.InitialValue.TheVariants as V
use Rattle.c_typed.specs.declared.program.Object.{Object}
use Rattle.memory_words.specs.declared.cell_words.cell.Cell.{Cell}
use Rattle.memory_words.specs.declared.cell_words.cell.Cell.TheVariants as C
use Rattle.memory_words.specs.declared.cell_words.pointer.Ptr.{Ptr}
use Rattle.memory_words.specs.declared.cell_words.pointer.Ptr.TheVariants as P
use Rattle.block_memory.specs.Blocks.{Contents, living, cells_in, overwritten, size_in}
use Rattle.block_memory.specs.Held.{bytes_of, fragments_of}
use Rattle.c_meaning.specs.Program.{cells_of, initially, none_or, object_size}
use Rattle.rv_code.specs.Frames.{end_from, places_from, whole_words}
use Rattle.rv_code.specs.declared.layout.Places.{Places}
use Rattle.tac_ir.specs.Code.{Code}
use Rattle.rv_emit.specs.Maps.{Extent, Extents, Points, Shows, byte_of}
use Rattle.rv_image.specs.Data.{put_bytes, put_initial, put_objects, put_values, value_bytes}
use Rattle.compiled_files.specs.Sound.{InitialFits, ValueFits, value_width}
use Rattle.rv_runtime.specs.Routines.{data_place}
use Rattle.rv_emit.proofs.Cells.{Outside}
use Rattle.rv_emit.proofs.Lists.{end_above, get_below}
use Rattle.compiled_files.proofs.Starting.Putting.{over_cases, put_inside, put_keeps, put_outside, replicate_is}

-- ---- values

number_long : (q : Places) (kind : IntKind) (n : ℕ) → length (value_bytes q (V.Number kind n)) ≡ width kind
number_long q I.Char n = refl
number_long q I.SChar n = refl
number_long q I.UChar n = refl
number_long q I.Short n = refl
number_long q I.UShort n = refl
number_long q I.Int n = refl
number_long q I.UInt n = refl
number_long q I.Long n = refl
number_long q I.ULong n = refl

pub value_long : (p : ProgramData) (c : Code) (q : Places) (v : InitialValue) → length (value_bytes q v) ≡ value_width p c v
value_long p c q (V.Number kind n) = number_long q kind n
value_long p c q (V.Address type n at) = refl
value_long p c q (V.Function type f) = refl

bytes_long : (count n : ℕ) → length (bytes_of count n) ≡ count
bytes_long zero n = refl
bytes_long (suc count) n = ap suc (bytes_long count (n / 256))

pub cells_long : (p : ProgramData) (c : Code) (v : InitialValue) → length (cells_of v) ≡ value_width p c v
cells_long p c (V.Number kind n) = bytes_long (width kind) n
cells_long p c (V.Address type n at) = refl
cells_long p c (V.Function type f) = refl

module _ (c : Code) (q : Places) (blocks : Extents) where
  abbrev pub Agree : (cells : List Cell) (bytes : List ℕ) (at : ℕ) → Type 0
  Agree cells bytes at = (i : ℕ) (cell : Cell) → slice_get cells i ≡ Some cell → Shows c q blocks cell (slice_index bytes (at + i))

  -- by its number a cell is known
  byte_shows : (x byte : ℕ) (cell : Cell) → Some (C.Byte x) ≡ Some cell → byte ≡ x → Shows c q blocks cell byte
  byte_shows x byte cell e same = (let d : C.Byte x ≡ cell = cc in subst (λ z. Shows c q blocks z byte) d same)

  abbrev ValueShows : InitialValue → Type 0
  ValueShows v = (k : ℕ) (cell : Cell) → slice_get (cells_of v) k ≡ Some cell → Shows c q blocks cell (slice_index (value_bytes q v) k)

  one_shows : (n : ℕ) → ValueShows (V.Number I.Char n)
  one_shows n zero cell e = byte_shows (n % 256) _ cell e (omega arith)
  one_shows n (suc k) cell e = absurd cc

  two_shows : (n : ℕ) → ValueShows (V.Number I.Short n)
  two_shows n zero cell e = byte_shows (n % 256) _ cell e (omega arith)
  two_shows n (suc zero) cell e = byte_shows (n / 256 % 256) _ cell e (omega arith)
  two_shows n (suc (suc k)) cell e = absurd cc

  four_shows : (n : ℕ) → ValueShows (V.Number I.Int n)
  four_shows n zero cell e = byte_shows (n % 256) _ cell e (omega arith)
  four_shows n (suc zero) cell e = byte_shows (n / 256 % 256) _ cell e (omega arith)
  four_shows n (suc (suc zero)) cell e = byte_shows (n / 256 / 256 % 256) _ cell e (omega arith)
  four_shows n (suc (suc (suc zero))) cell e = byte_shows (n / 256 / 256 / 256 % 256) _ cell e (omega arith)
  four_shows n (suc (suc (suc (suc k)))) cell e = absurd cc

  number_shows : (kind : IntKind) (n : ℕ) → ValueShows (V.Number kind n)
  number_shows I.Char n = one_shows n
  number_shows I.SChar n = one_shows n
  number_shows I.UChar n = one_shows n
  number_shows I.Short n = two_shows n
  number_shows I.UShort n = two_shows n
  number_shows I.Int n = four_shows n
  number_shows I.UInt n = four_shows n
  number_shows I.Long n = four_shows n
  number_shows I.ULong n = four_shows n

  -- four fragments of a pointer, by the number for which it stands
  fragment_shows : (type x byte k : ℕ) (p : Ptr) (cell : Cell) → Points c q blocks p x → Some (C.Fragment type p k) ≡ Some cell → byte ≡ byte_of x k
      → Shows c q blocks cell byte
  fragment_shows type x byte k p cell points e same =
      (let d : C.Fragment type p k ≡ cell = cc in subst (λ z. Shows c q blocks z byte) d (x, points, same))

  pointer_shows : (type x y : ℕ) (p : Ptr) → Points c q blocks p x → y % 2 ^ 32 ≡ x % 2 ^ 32 → (k : ℕ) (cell : Cell)
      → slice_get (fragments_of type p) k ≡ Some cell
      → Shows c q blocks cell (slice_index (to_le_bytes w32 y) k)
  pointer_shows type x y p points is zero cell e = fragment_shows type x _ 0 p cell points e (omega (arith, is))
  pointer_shows type x y p points is (suc zero) cell e = fragment_shows type x _ 1 p cell points e (omega (arith, is))
  pointer_shows type x y p points is (suc (suc zero)) cell e = fragment_shows type x _ 2 p cell points e (omega (arith, is))
  pointer_shows type x y p points is (suc (suc (suc zero))) cell e = fragment_shows type x _ 3 p cell points e (omega (arith, is))
  pointer_shows type x y p points is (suc (suc (suc (suc k)))) cell e = absurd cc

-- ---- what a list of values makes of an object

-- cells that are written over others are as many
over_long : (all new : List Cell) (at : ℕ) → at + length new ≤ length all → length (take at all ++ new ++ drop (at + length new) all) ≡ length all
over_long all new at le =
    omega (
      arith,
      length-append (take at all ++ new) (drop (at + length new) all),
      length-append (take at all) new,
      length-take at all,
      length-drop (at + length new) all,
    )

-- each object of the program has a block, of its size, which begins where it lies
abbrev pub AreObjects : ProgramData → Places → Extents → Type 0
AreObjects p q blocks = (n : ℕ) (o : Object) → slice_get p.objects n ≡ Some o
    → (e : Extent) × (slice_get blocks n ≡ Some e) × (e.at ≡ slice_index q.objects n) × (e.size ≡ object_size p o)

-- the cells that an object holds at first
abbrev pub object_cells : ProgramData → Object → List Cell
object_cells p o = cells_in (initially (none_or o.initial) (object_size p o))

abbrev written : Contents → Initial → Contents
written c i = overwritten c i.offset (cells_of i.value)

module _ (p : ProgramData) (c : Code) (q : Places) (blocks : Extents) (known : AreObjects p q blocks) where
  value_shows : (v : InitialValue) → ValueFits p c v → (k : ℕ) (cell : Cell) → slice_get (cells_of v) k ≡ Some cell
      → Shows c q blocks cell (slice_index (value_bytes q v) k)
  value_shows (V.Number kind n) fits = number_shows c q blocks kind n
  value_shows (V.Address type n at) fits =
      let h = known n fits.0 fits.1 in
      let x = slice_index q.objects n + at in
      let points : Points c q blocks (P.Block n at) x = (h.0, h.1, omega (arith, fits.2, h.3), ap (λ z. z + at) (sym h.2)) in
      pointer_shows c q blocks type x (x % 2 ^ 32) (P.Block n at) points (omega arith)
  value_shows (V.Function type f) fits =
      let x = slice_index q.entries f in
      pointer_shows c q blocks type x x (P.Function f) (fits, refl) refl

  -- one value more
  one_agrees : (o : Object) (i : Initial) (cells : List Cell) (all : List ℕ) (at : ℕ) → InitialFits p c o i → length cells ≡ object_size p o
      → at + length cells ≤ length all → Agree c q blocks cells all at
      → Agree c q blocks (cells_in (written (living cells) i)) (put_bytes (at + i.offset) (value_bytes q i.value) all) at
  one_agrees o i cells all at fits long within agree j cell e =
      let new = cells_of i.value in
      let bytes = value_bytes q i.value in
      let new_long = cells_long p c i.value in
      let bytes_long = value_long p c q i.value in
      elim (over_cases cells new i.offset (i.offset + length new) j cell refl (omega (arith, fits.within, new_long, long)) e) [
        | inl h ↦
            let z : at + j ≡ at + i.offset + h.0 = omega (arith, h.1) in
            subst (Shows c q blocks cell)
            (sym (ap (slice_index (put_bytes (at + i.offset) bytes all)) z
            ∙ put_inside (at + i.offset) bytes all h.0 (omega (arith, h.2, new_long, bytes_long)) (omega (arith, fits.within, bytes_long, long))))
            (value_shows i.value fits.value h.0 cell h.3)
        | inr h ↦
            subst (Shows c q blocks cell) (sym (put_outside (at + i.offset) bytes all (at + j) (moved h.0)))
            (agree j cell h.1)
      ]
    where
      moved : Outside i.offset (length (cells_of i.value)) j → Outside (at + i.offset) (length (value_bytes q i.value)) (at + j)
      moved (inl lt) = inl (omega arith)
      moved (inr le) = inr (omega (arith, cells_long p c i.value, value_long p c q i.value))

  values_agree : (o : Object) (values : List Initial) (cells : List Cell) (all : List ℕ) (at : ℕ) → All (InitialFits p c o) values
      → length cells ≡ object_size p o → at + length cells ≤ length all → Agree c q blocks cells all at
      → Agree c q blocks (cells_in (fold written (living cells) values)) (put_values q at values all) at
  values_agree o [] cells all at fits long within agree = agree
  values_agree o (i ∷ more) cells all at fits long within agree =
      let one = All-head (InitialFits p c o) i more fits in
      let new = cells_of i.value in
      let cells' = cells_in (written (living cells) i) in
      let all' = put_bytes (at + i.offset) (value_bytes q i.value) all in
      let same : length cells' ≡ length cells = over_long cells new i.offset (omega (arith, one.within, cells_long p c i.value, long)) in
      values_agree o more cells' all' at (All-tail (InitialFits p c o) i more fits) (same ∙ long)
      (omega (arith, same, put_keeps (at + i.offset) (value_bytes q i.value) all)) (one_agrees o i cells all at one long within agree)

  -- the block has the object's size
  values_size : (o : Object) (values : List Initial) (cells : List Cell) → All (InitialFits p c o) values → length cells ≡ object_size p o
      → (size_in (fold written (living cells) values) ≡ object_size p o) × (length (cells_in (fold written (living cells) values)) ≡ object_size p o)
  values_size o [] cells fits long = (long, long)
  values_size o (i ∷ more) cells fits long =
      let one = All-head (InitialFits p c o) i more fits in
      let same = over_long cells (cells_of i.value) i.offset (omega (arith, one.within, cells_long p c i.value, long)) in
      values_size o more (cells_in (written (living cells) i)) (All-tail (InitialFits p c o) i more fits) (same ∙ long)

  -- bytes outside the object stay, and so does how many there are
  values_outside : (o : Object) (values : List Initial) (all : List ℕ) (at j : ℕ) → All (InitialFits p c o) values → Outside at (object_size p o) j
      → slice_index (put_values q at values all) j ≡ slice_index all j
  values_outside o [] all at j fits out = refl
  values_outside o (i ∷ more) all at j fits out =
      let one = All-head (InitialFits p c o) i more fits in
      values_outside o more (put_bytes (at + i.offset) (value_bytes q i.value) all) at j (All-tail (InitialFits p c o) i more fits) out
      ∙ put_outside (at + i.offset) (value_bytes q i.value) all j (moved one.within out)
    where
      moved : i.offset + value_width p c i.value ≤ object_size p o → Outside at (object_size p o) j
          → Outside (at + i.offset) (length (value_bytes q i.value)) j
      moved within (inl lt) = inl (omega arith)
      moved within (inr le) = inr (omega (arith, value_long p c q i.value))

  values_keep : (values : List Initial) (all : List ℕ) (at : ℕ) → length (put_values q at values all) ≡ length all
  values_keep [] all at = refl
  values_keep (i ∷ more) all at =
      values_keep more (put_bytes (at + i.offset) (value_bytes q i.value) all) at ∙ put_keeps (at + i.offset) (value_bytes q i.value) all

  -- ---- an object

  abbrev pub ObjectFits : Object → Type 0
  ObjectFits o = All (InitialFits p c o) (none_or o.initial)

  pub object_long : (o : Object) → ObjectFits o
      → (size_in (initially (none_or o.initial) (object_size p o)) ≡ object_size p o) × (length (object_cells p o) ≡ object_size p o)
  object_long o fits =
      values_size o (none_or o.initial) (replicate (object_size p o) (C.Byte 0)) fits (length-replicate (object_size p o) (C.Byte 0))

  -- an object that is only declared has no values
  initial_is : (at : ℕ) (initial : Option (List Initial)) (all : List ℕ) → put_initial q at initial all ≡ put_values q at (none_or initial) all
  initial_is at None all = refl
  initial_is at (Some values) all = refl

  -- where an object lies all was zero
  object_agrees : (o : Object) (all : List ℕ) (at : ℕ) → ObjectFits o → at + object_size p o ≤ length all
      → ((j : ℕ) → at ≤ j → slice_index all j ≡ 0) → Agree c q blocks (object_cells p o) (put_initial q at o.initial all) at
  object_agrees o all at fits within nil =
      let zeros = replicate (object_size p o) (C.Byte 0) in
      let long : length zeros ≡ object_size p o = length-replicate (object_size p o) (C.Byte 0) in
      subst (λ bytes. Agree c q blocks (object_cells p o) bytes at) (sym (initial_is at o.initial all))
      (values_agree o (none_or o.initial) zeros all at fits long (omega (arith, long))
      λ i cell e. byte_shows c q blocks 0 (slice_index all (at + i)) cell (ap Some (replicate_is (object_size p o) (C.Byte 0) cell i e))
      (nil (at + i) (omega arith)))

  object_outside : (o : Object) (all : List ℕ) (at j : ℕ) → ObjectFits o → Outside at (object_size p o) j
      → slice_index (put_initial q at o.initial all) j ≡ slice_index all j
  object_outside o all at j fits out =
      ap (λ bytes. slice_index bytes j) (initial_is at o.initial all) ∙ values_outside o (none_or o.initial) all at j fits out

  object_keeps : (o : Object) (all : List ℕ) (at : ℕ) → length (put_initial q at o.initial all) ≡ length all
  object_keeps o all at = ap length (initial_is at o.initial all) ∙ values_keep (none_or o.initial) all at

  -- ---- objects one behind the other

  abbrev pub sizes : List Object → List ℕ
  sizes objects = map (object_size p) objects

  abbrev pub Fitting : List Object → Type 0
  Fitting objects = (n : ℕ) (o : Object) → slice_get objects n ≡ Some o → ObjectFits o

  -- they leave what lies in front of them
  pub objects_outside : (objects : List Object) (at : ℕ) (all : List ℕ) (j : ℕ) → Fitting objects → data_place ≤ at → j < at - data_place
      → slice_index (put_objects q objects (places_from at (sizes objects)) all) j ≡ slice_index all j
  objects_outside [] at all j fits le lt = refl
  objects_outside (o ∷ more) at all j fits le lt =
      let next = at + whole_words (object_size p o) in
      objects_outside more next (put_initial q (at - data_place) o.initial all) j (λ n z e. fits (suc n) z e) (omega arith) (omega arith)
      ∙ object_outside o all (at - data_place) j (fits 0 o refl) (inl lt)

  pub objects_keep : (objects : List Object) (places : List ℕ) (all : List ℕ) → length (put_objects q objects places all) ≡ length all
  objects_keep [] places all = refl
  objects_keep (o ∷ more) [] all = refl
  objects_keep (o ∷ more) (at ∷ places) all =
      objects_keep more places (put_initial q (at - data_place) o.initial all) ∙ object_keeps o all (at - data_place)

  -- each of them shows what it holds at first, where all was zero
  pub objects_agree : (objects : List Object) (at : ℕ) (all : List ℕ) → Fitting objects → data_place ≤ at
      → end_from at (sizes objects) ≤ data_place + length all
      → ((j : ℕ) → at ≤ data_place + j → slice_index all j ≡ 0) → (n : ℕ) (o : Object) → slice_get objects n ≡ Some o
      → Agree c q blocks (object_cells p o) (put_objects q objects (places_from at (sizes objects)) all)
      (slice_index (places_from at (sizes objects)) n - data_place)
  objects_agree [] at all fits le within nil n o e = absurd cc
  objects_agree (z ∷ more) at all fits le within nil zero o e =
      let same : z ≡ o = cc in
      let next = at + whole_words (object_size p z) in
      let first = put_initial q (at - data_place) z.initial all in
      let end = end_above next (sizes more) in
      let long = object_long z (fits 0 z refl) in
      subst (λ x. Agree c q blocks (object_cells p x) (put_objects q more (places_from next (sizes more)) first) (at - data_place)) same
      λ i cell is. subst (Shows c q blocks cell)
      (sym (objects_outside more next first (at - data_place + i) (λ n x d. fits (suc n) x d) (omega arith)
      (let lt = get_below (object_cells p z) i cell is in omega (arith, lt, long.1))))
      (object_agrees z all (at - data_place) (fits 0 z refl) (omega (arith, end)) (λ j lj. nil j (omega arith)) i cell is)
  objects_agree (z ∷ more) at all fits le within nil (suc n) o e =
      let next = at + whole_words (object_size p z) in
      let first = put_initial q (at - data_place) z.initial all in
      objects_agree more next first (λ k x d. fits (suc k) x d) (omega arith) (omega (arith, object_keeps z all (at - data_place)))
      (λ j lj. object_outside z all (at - data_place) j (fits 0 z refl) (inr (omega arith)) ∙ nil j (omega arith)) n o e
