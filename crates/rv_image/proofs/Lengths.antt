-- How long the text and the data of a program are.
use Rattle.std.proofs.Common.{◌≡◌, ℕ, zero, suc, ◌+◌, ◌-◌, ◌*◌, ◌≤◌, List, [], ◌∷◌, ◌++◌, Option, Some, None, length, map, refl, ap, sym, ◌∙◌, arith}
use Rattle.std.specs.Prelude.{replicate, slice_set}
use Rattle.std.specs.Int.{w32, to_le_bytes}
use Rattle.std.proofs.lemmas.List.{length-append, length-map, length-replicate, length-set}
use Rattle.c_typed.specs.declared.program.Initial.{Initial}
use Rattle.c_typed.specs.declared.program.Object.{Object}
use Rattle.c_typed.specs.Programs.{ProgramData}
use Rattle.rv_code.specs.Frames.{end_from, whole_words}
use Rattle.rv_code.specs.declared.layout.Places.{Places}
use Rattle.rv_image.specs.Data.{data_of_program, data_size, empty_data, object_places, texts_at, put_all_texts, put_bytes, put_initial, put_objects, put_texts, put_values, value_bytes}
use Rattle.rv_isa.specs.Encoding.{encoding}
use Rattle.rv_isa.specs.declared.instruction.Inst.{Inst}
use Rattle.rv_runtime.specs.Bytes.{bytes_of, data_bytes, open_page, page, runtime_bytes, words_of, zeros}
use Rattle.rv_runtime.specs.Routines.{data_place, return_code, start_code, exit_code, malloc_code, calloc_code, free_code, copy_code, fill_code, compare_code}
use Rattle.elf32.specs.Written.{stack_address}
use Rattle.rv_code.specs.Programs.{program_code}
use Rattle.rv_image.specs.Images.{end_of_room, text_of_program}
use Rattle.tac_ir.specs.Code.{Code, RoutineData}

-- ---- bytes that are put keep the length

put_keeps : (at : ℕ) (bytes all : List ℕ) → length (put_bytes at bytes all) ≡ length all
put_keeps at [] all = refl
put_keeps at (byte ∷ more) all = put_keeps (at + 1) more (slice_set all at byte) ∙ length-set all at byte

values_keep : (q : Places) (at : ℕ) (values : List Initial) (all : List ℕ) → length (put_values q at values all) ≡ length all
values_keep q at [] all = refl
values_keep q at (i ∷ more) all =
    values_keep q at more (put_bytes (at + i.offset) (value_bytes q i.value) all) ∙ put_keeps (at + i.offset) (value_bytes q i.value) all

initial_keeps : (q : Places) (at : ℕ) (initial : Option (List Initial)) (all : List ℕ) → length (put_initial q at initial all) ≡ length all
initial_keeps q at None all = refl
initial_keeps q at (Some values) all = values_keep q at values all

objects_keep : (q : Places) (objects : List Object) (places all : List ℕ) → length (put_objects q objects places all) ≡ length all
objects_keep q [] places all = refl
objects_keep q (o ∷ more) [] all = refl
objects_keep q (o ∷ more) (at ∷ places) all =
    objects_keep q more places (put_initial q (at - data_place) o.initial all) ∙ initial_keeps q (at - data_place) o.initial all

texts_keep : (at : ℕ) (texts : List (List ℕ)) (all : List ℕ) → length (put_texts at texts all) ≡ length all
texts_keep at [] all = refl
texts_keep at (text ∷ more) all =
    texts_keep (at + whole_words (length text)) more (put_bytes (at - data_place) text all) ∙ put_keeps (at - data_place) text all

all_texts_keep : (at : ℕ) (gs : List RoutineData) (all : List ℕ) → length (put_all_texts at gs all) ≡ length all
all_texts_keep at [] all = refl
all_texts_keep at (g ∷ more) all =
    all_texts_keep (end_from at (map length g.texts)) more (put_texts at g.texts all) ∙ texts_keep at g.texts all

-- ---- the data

zeros_length : (n : ℕ) → length (zeros n) ≡ n
unfolding zeros
zeros_length n = length-replicate n 0

own_length : (heap_end : ℕ) → length (data_bytes heap_end) ≡ 256
unfolding data_bytes zeros
own_length heap_end = ap (λ n. 4 + (4 + n)) (zeros_length 248)

pub data_length : (p : ProgramData) (c : Code) (q : Places) (heap_end : ℕ) → length (data_of_program p c q heap_end) ≡ 256 + (data_size p c - 256)
data_length p c q heap_end =
    let rest : List ℕ = replicate (data_size p c - 256) 0 in
    all_texts_keep (texts_at p) c.routines (put_objects q p.objects q.objects (empty_data p c heap_end))
    ∙ objects_keep q p.objects q.objects (empty_data p c heap_end)
    ∙ length-append (data_bytes heap_end) rest
    ∙ ap (λ n. n + length rest) (own_length heap_end)
    ∙ ap (λ n. 256 + n) (length-replicate (data_size p c - 256) 0)

-- ---- the text

words_length : (words : List ℕ) → length (bytes_of words) ≡ 4 * length words
words_length [] = refl
words_length (w ∷ words) = let more = words_length words in omega (arith, more)

open_length : (words : List ℕ) → 4 * length words ≤ 512 → length (open_page words) ≡ 512
unfolding open_page
open_length words le =
    let all : length (bytes_of words ++ zeros (512 - 4 * length words)) ≡ length (bytes_of words) + length (zeros (512 - 4 * length words))
    = length-append (bytes_of words) (zeros (512 - 4 * length words)) in
    omega (arith, all, words_length words, zeros_length (512 - 4 * length words))

page_length : (words : List ℕ) → 4 * length words ≤ 508 → length (page words) ≡ 512
unfolding page
page_length words le =
    let inner : length (zeros (508 - 4 * length words) ++ bytes_of (encoding return_code ∷ [])) ≡ length (zeros (508 - 4 * length words)) + 4
    = length-append (zeros (508 - 4 * length words)) (bytes_of (encoding return_code ∷ [])) in
    let all : length (bytes_of words ++ (zeros (508 - 4 * length words) ++ bytes_of (encoding return_code ∷ [])))
    ≡ length (bytes_of words) + length (zeros (508 - 4 * length words) ++ bytes_of (encoding return_code ∷ []))
    = length-append (bytes_of words) (zeros (508 - 4 * length words) ++ bytes_of (encoding return_code ∷ [])) in
    omega (arith, inner, all, words_length words, zeros_length (508 - 4 * length words))

-- pages one behind the other
joined : (a b : List ℕ) (m n : ℕ) → length a ≡ m → length b ≡ n → length (a ++ b) ≡ m + n
joined a b m n e f = length-append a b ∙ ap (λ k. k + length b) e ∙ ap (λ k. m + k) f

runtime_length : length runtime_bytes ≡ 4096
runtime_length =
    joined _ _ 512 3584 (open_length (words_of start_code) (omega arith))
    (joined _ _ 512 3072 (open_length (words_of exit_code) (omega arith))
    (joined _ _ 512 2560 (page_length (words_of malloc_code) (omega arith))
    (joined _ _ 512 2048 (page_length (words_of calloc_code) (omega arith))
    (joined _ _ 512 1536 (page_length (words_of free_code) (omega arith))
    (joined _ _ 512 1024 (page_length (words_of copy_code) (omega arith))
    (joined _ _ 512 512 (page_length (words_of fill_code) (omega arith)) (page_length (words_of compare_code) (omega arith))))))))

pub text_length : (p : ProgramData) (c : Code) (stack : ℕ) → length (text_of_program p c stack)
    ≡ 4096 + 4 * length (program_code c (end_of_room stack_address stack) (object_places p) (texts_at p))
text_length p c stack =
    let code : List Inst = program_code c (end_of_room stack_address stack) (object_places p) (texts_at p) in
    joined runtime_bytes (bytes_of (words_of code)) 4096 (4 * length code) runtime_length
    (words_length (words_of code) ∙ ap (λ n. 4 * n) (length-map code encoding))
