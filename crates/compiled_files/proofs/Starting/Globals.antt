-- The data of a program: the runtime's own come first, then the objects, each as it is at first, and the texts behind them.
use Rattle.std.proofs.Common.{◌≡◌, ℕ, zero, suc, ◌+◌, ◌-◌, ◌<◌, ◌≤◌, inl, List, [], ◌∷◌, length, map, Some}
use Rattle.std.proofs.Common.{slice_get, slice_index, refl, ap, ◌∙◌, sym, subst, arith}
use Rattle.std.specs.Prelude.{All, Contains, replicate}
use Rattle.std.proofs.lemmas.List.{get_or_append_left, get_or-append_right, length-append, length-map, length-replicate}
use Rattle.std.proofs.lemmas.List.Elements.{All-append, All-cons, All-contains, All-nil}
use Rattle.c_typed.specs.Programs.{ProgramData}
use Rattle.c_typed.specs.declared.program.Object.{Object}
use Rattle.c_meaning.specs.Program.{object_size}
use Rattle.rv_code.specs.Frames.{end_from, places_from, whole_words}
use Rattle.rv_code.specs.Programs.{texts_end, texts_from}
use Rattle.rv_code.specs.declared.layout.Places.{Places}
use Rattle.tac_ir.specs.Code.{Code, RoutineData}
use Rattle.rv_emit.specs.Maps.{Extents, Shows}
use Rattle.rv_image.specs.Data.{data_of_program, data_size, empty_data, object_places, object_sizes, objects_at}
use Rattle.rv_image.specs.Data.{put_all_texts, put_bytes, put_objects, put_texts, texts_at}
use Rattle.rv_image.proofs.Walks.{all_ends_behind}
use Rattle.compiled_files.specs.Placing.{placed_texts, with_places}
use Rattle.compiled_files.specs.Sound.{ObjectsFit}
use Rattle.rv_runtime.specs.Bytes.{data_bytes, zeros}
use Rattle.rv_runtime.specs.Routines.{data_place}
use Rattle.rv_emit.proofs.Lists.{end_above, get_below, place_within}
use Rattle.compiled_files.proofs.Starting.Objects.{Agree, AreObjects, object_cells, object_long, objects_agree, objects_outside}
use Rattle.compiled_files.proofs.Starting.Putting.{put_outside}

-- ---- texts

-- they leave what lies in front of them
texts_outside : (at : ℕ) (texts : List (List ℕ)) (all : List ℕ) (j : ℕ) → data_place ≤ at → j < at - data_place
    → slice_index (put_texts at texts all) j ≡ slice_index all j
texts_outside at [] all j le lt = refl
texts_outside at (text ∷ more) all j le lt =
    texts_outside (at + whole_words (length text)) more (put_bytes (at - data_place) text all) j (omega arith) (omega arith)
    ∙ put_outside (at - data_place) text all j (inl lt)

all_texts_outside : (at : ℕ) (gs : List RoutineData) (all : List ℕ) (j : ℕ) → data_place ≤ at → j < at - data_place
    → slice_index (put_all_texts at gs all) j ≡ slice_index all j
all_texts_outside at [] all j le lt = refl
all_texts_outside at (g ∷ more) all j le lt =
    let end = end_above at (map length g.texts) in
    all_texts_outside (end_from at (map length g.texts)) more (put_texts at g.texts all) j (omega (arith, end)) (omega (arith, end))
    ∙ texts_outside at g.texts all j le lt

-- each of them lies behind where the first one begins
abbrev Later : (low : ℕ) → (ℕ × List ℕ) → Type 0
Later low x = low ≤ x.0

texts_later : (low at : ℕ) (texts : List (List ℕ)) → low ≤ at → All (Later low) (with_places (places_from at (map length texts)) texts)
texts_later low at [] le = All-nil (Later low)
texts_later low at (text ∷ more) le =
    let next = at + whole_words (length text) in
    All-cons (Later low) (at, text) (with_places (places_from next (map length more)) more) le (texts_later low next more (omega arith))

all_texts_later : (low at : ℕ) (gs : List RoutineData) → low ≤ at → All (Later low) (placed_texts at gs)
all_texts_later low at [] le = All-nil (Later low)
all_texts_later low at (g ∷ more) le =
    let end = end_above at (map length g.texts) in
    All-append (Later low) (with_places (texts_from at g) g.texts) (placed_texts (texts_end at g) more) (texts_later low at g.texts le)
    (all_texts_later low (texts_end at g) more (omega (arith, end)))

pub placed_later : (at : ℕ) (gs : List RoutineData) (a : ℕ) (bytes : List ℕ) → Contains (placed_texts at gs) (a, bytes) → at ≤ a
placed_later at gs a bytes is = All-contains (Later at) (placed_texts at gs) (a, bytes) (all_texts_later at at gs (omega arith)) is

-- ---- the runtime's own

zeros_length : (n : ℕ) → length (zeros n) ≡ n
unfolding zeros
zeros_length n = length-replicate n 0

pub own_length : (heap_end : ℕ) → length (data_bytes heap_end) ≡ 256
unfolding data_bytes zeros
own_length heap_end = ap (λ n. 4 + (4 + n)) (zeros_length 248)

replicate_zero : (n i : ℕ) → slice_index (replicate n 0) i ≡ 0
replicate_zero zero i = refl
replicate_zero (suc n) zero = refl
replicate_zero (suc n) (suc i) = replicate_zero n i

pub index_of_map : {A : Type 0} (f : A → ℕ) (all : List A) (n : ℕ) (x : A) → slice_get all n ≡ Some x → slice_index (map f all) n ≡ f x
index_of_map f [] n x e = absurd cc
index_of_map f (z ∷ all) zero x e = (let d : z ≡ x = cc in ap f d)
index_of_map f (z ∷ all) (suc n) x e = index_of_map f all n x e

-- ---- all of them

module _ (p : ProgramData) (c : Code) (heap_end : ℕ) where
  abbrev own : List ℕ
  own = data_bytes heap_end

  abbrev rest : List ℕ
  rest = replicate (data_size p c - 256) 0

  -- before objects and texts are put there
  empty_own : (j : ℕ) → j < 256 → slice_index (empty_data p c heap_end) j ≡ slice_index own j
  empty_own j lt = get_or_append_left own rest 0 j (omega (arith, own_length heap_end))

  empty_zero : (j : ℕ) → objects_at ≤ data_place + j → slice_index (empty_data p c heap_end) j ≡ 0
  empty_zero j le = get_or-append_right own rest 256 j 0 (own_length heap_end) (omega arith) ∙ replicate_zero (data_size p c - 256) (j - 256)

  empty_long : length (empty_data p c heap_end) ≡ 256 + (data_size p c - 256)
  empty_long =
      length-append own rest ∙ ap (λ n. n + length rest) (own_length heap_end) ∙ ap (λ n. 256 + n) (length-replicate (data_size p c - 256) 0)

  pub ends_inside : texts_at p ≤ data_place + data_size p c
  ends_inside = (let h = all_ends_behind (texts_at p) c.routines in omega (arith, h))

  pub texts_behind : data_place + 256 ≤ texts_at p
  texts_behind = end_above objects_at (object_sizes p)

  module _ (q : Places) (is : q.objects ≡ object_places p) (blocks : Extents) (known : AreObjects p q blocks) (fits : ObjectsFit p c) where
    abbrev pub globals : List ℕ
    globals = data_of_program p c q heap_end

    abbrev with_objects : List ℕ → List ℕ
    with_objects places = put_objects q p.objects places (empty_data p c heap_end)

    pub globals_own : (j : ℕ) → j < 256 → slice_index globals j ≡ slice_index own j
    globals_own j lt =
        all_texts_outside (texts_at p) c.routines (with_objects q.objects) j (omega (arith, texts_behind)) (omega (arith, texts_behind))
        ∙ ap (λ places. slice_index (with_objects places) j) is
        ∙ objects_outside p c q blocks known p.objects objects_at (empty_data p c heap_end) j fits (omega arith) (omega arith)
        ∙ empty_own j lt

    -- each cell of an object shows its byte
    pub globals_agree : (n : ℕ) (o : Object) → slice_get p.objects n ≡ Some o
        → Agree c q blocks (object_cells p o) globals (slice_index (object_places p) n - data_place)
    globals_agree n o e i cell there =
        let place = slice_index (object_places p) n in
        let j = place - data_place + i in
        let long = object_long p c q blocks known o (fits n o e) in
        let lt = get_below (object_cells p o) i cell there in
        let here = place_within objects_at (object_sizes p) n (omega (arith, get_below p.objects n o e, length-map p.objects (object_size p))) refl in
        let size = index_of_map (object_size p) p.objects n o e in
        subst (Shows c q blocks cell)
        (sym (all_texts_outside (texts_at p) c.routines (with_objects q.objects) j (omega (arith, texts_behind))
        (omega (arith, here.0, here.1, lt, long.1, size))
        ∙ ap (λ places. slice_index (with_objects places) j) is))
        (objects_agree p c q blocks known p.objects objects_at (empty_data p c heap_end) fits (omega arith) (omega (arith, empty_long, ends_inside)) empty_zero
        n o e i cell there)
