-- A program that fits into the parts of the address space: its places have 32 bits.
use Rattle.std.proofs.Common.{◌≡◌, ℕ, suc, ◌+◌, ◌-◌, ◌*◌, ◌/◌, ◌^◌, ◌<◌, ◌≤◌, List, [], ◌∷◌, ◌++◌, length, map, refl, sym, subst, ap, ◌∙◌, arith}
use Rattle.std.specs.Prelude.{All, IfOk, Result, Ok, Err}
use Rattle.c_meaning.specs.Program.{object_size}
use Rattle.c_typed.specs.Programs.{ProgramData}
use Rattle.rv_code.specs.Frames.{end_from, places_from, whole_words}
use Rattle.rv_code.specs.Programs.{all_texts_end, places_of, program_code}
use Rattle.rv_code.proofs.Ranges.{program_in}
use Rattle.rv_image.specs.Data.{data_size, object_places, object_sizes, objects_at, texts_at}
use Rattle.elf32.specs.Written.{IsWritable}
use Rattle.rv_image.specs.Images.{Fits, end_of_room, image_of, text_of_program}
use Rattle.rv_image.proofs.Lengths.{data_length, text_length}
use Rattle.rv_isa.specs.declared.instruction.Inst.{Inst}
use Rattle.rv_runtime.specs.Bytes.{bytes_of, runtime_bytes, words_of}
use Rattle.rv_image.proofs.Walks.{all_ends_behind}
use Rattle.rv_isa.specs.Encoding.{IsInRange}
use Rattle.tac_ir.specs.Code.{Code, code_of}
use Rattle.tac_ir.specs.declared.step.Tac.{Tac}

-- texts begin before they end
pub texts_fit_in_all : (p : ProgramData) (t : Tac) → Fits p t → texts_at p < 2 ^ 32
texts_fit_in_all p t fits = let most = fits.small.texts in omega (arith, all_ends_behind (texts_at p) (code_of t).routines)

length_of_places : (at : ℕ) (sizes : List ℕ) → length (places_from at sizes) ≡ length sizes
length_of_places at [] = refl
length_of_places at (size ∷ more) = ap suc (length_of_places (at + whole_words size) more)

length_of_map : {A B : Type 0} (f : A → B) (xs : List A) → length (map f xs) ≡ length xs
length_of_map f [] = refl
length_of_map f (x ∷ xs) = ap suc (length_of_map f xs)

pub one_for_each : (p : ProgramData) → length (object_places p) ≡ length p.objects
one_for_each p = length_of_places objects_at (object_sizes p) ∙ length_of_map (object_size p) p.objects

pub code_in_range : (c : Code) (stack : ℕ) (objects : List ℕ) (texts : ℕ) → stack ≤ 128
    → All IsInRange (program_code c (0x10000000 + stack * 2 ^ 20) objects texts)
code_in_range c stack objects texts le = program_in c (0x10000000 + stack * 2 ^ 20) objects texts (omega arith)

-- the text of a program, from the code that was made for its places
pub text_is : (p : ProgramData) (c : Code) (stack : ℕ) (objects : List ℕ) (texts : ℕ) (code : List Inst) (bytes : List ℕ)
    → bytes ≡ runtime_bytes ++ bytes_of (words_of code) → code ≡ program_code c (0x10000000 + stack * 2 ^ 20) objects texts
    → objects ≡ object_places p → texts ≡ texts_at p → bytes ≡ text_of_program p c stack
text_is p c stack objects texts code bytes e f g h =
    e ∙ ap (λ is. runtime_bytes ++ bytes_of (words_of is)) (f ∙ ap (λ o. program_code c (0x10000000 + stack * 2 ^ 20) o texts) g
    ∙ ap (program_code c (0x10000000 + stack * 2 ^ 20) (object_places p)) h)

-- ---- the image can be written

pub subst_in : {A E : Type 0} (P : A → Type 0) (result : Result A E) (x : A) → IfOk result (λ y. y ≡ x) → P x → IfOk result P
subst_in P (Ok y) x e h = subst P (sym e) h
subst_in P (Err fault) x e h = tt

pub writable : (p : ProgramData) (t : Tac) (heap stack : ℕ) → Fits p t → 1 ≤ heap → heap ≤ 1024 → 1 ≤ stack → stack ≤ 128
    → IsWritable (image_of p (code_of t) heap stack)
writable p t heap stack fits h1 h2 s1 s2 =
    let text = text_length p (code_of t) stack in
    let globals = data_length p (code_of t) (places_of (code_of t) (object_places p)) (end_of_room 0x20000000 heap) in
    record {
      entry = refl;
      segments = record {
        text_full = record { is_at = refl; has_flags = refl; size = refl; at_least = omega arith; at_most = fits.text stack };
        globals_full = record { is_at = refl; has_flags = refl; size = refl; at_least = omega arith; at_most = fits.globals (end_of_room 0x20000000 heap) };
        globals_whole = omega arith;
        stack_room = record { is_at = refl; has_flags = refl; bytes = refl; mib = stack; size = refl; at_least = s1; at_most = s2 };
        heap_room = record { is_at = refl; has_flags = refl; bytes = refl; mib = heap; size = refl; at_least = h1; at_most = h2 };
      };
    }
