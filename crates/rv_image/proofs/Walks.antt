-- How walks over bytes, objects and texts go on.
use Rattle.std.proofs.Common.{◌≡◌, ℕ, ◌+◌, ◌<◌, ◌≤◌, ◌-◌, ◌*◌, ◌/◌, ◌^◌, map, List, [], ◌∷◌, length, drop, append_assoc, append-nil, take, ◌++◌, get_or, refl, sym, ap, ◌∙◌, arith}
use Rattle.std.specs.Prelude.{slice_index, slice_set}
use Rattle.std.proofs.lemmas.List.{drop_more, take_more}
use Rattle.std.specs.Int.{w32, to_le_bytes}
use Rattle.rv_isa.specs.declared.instruction.Inst.{Inst}
use Rattle.rv_isa.specs.Encoding.{encoding}
use Rattle.rv_runtime.specs.Bytes.{bytes_of, words_of}
use Rattle.c_typed.specs.declared.program.Object.{Object}
use Rattle.rv_code.specs.Frames.{end_from, whole_words}
use Rattle.rv_code.specs.declared.layout.Places.{Places}
use Rattle.rv_image.specs.Data.{put_bytes, put_initial, put_objects}
use Rattle.rv_code.specs.Programs.{all_texts_end}
use Rattle.rv_runtime.specs.Routines.{data_place}
use Rattle.tac_ir.specs.Code.{RoutineData, data_of}
use Rattle.tac_ir.specs.declared.step.Routine.{Routine}

pub bytes_more : (at : ℕ) (bytes : List ℕ) (k byte : ℕ) (all : List ℕ) → k < length bytes → byte ≡ get_or bytes k byte
    → put_bytes (at + k) (drop k bytes) all ≡ put_bytes (at + (k + 1)) (drop (k + 1) bytes) (slice_set all (at + k) byte)
bytes_more at bytes k byte all lt is =
    ap (λ more. put_bytes (at + k) more all) (drop_more bytes k byte lt ∙ ap (λ b. b ∷ drop (k + 1) bytes) (sym is))
    ∙ ap (λ n. put_bytes n (drop (k + 1) bytes) (slice_set all (at + k) byte)) (omega arith)

pub objects_more : (q : Places) (objects : List Object) (places : List ℕ) (i at : ℕ) (o : Object) (all : List ℕ)
    → i < length objects → o ≡ get_or objects i o → i < length places → at ≡ get_or places i at
    → put_objects q (drop i objects) (drop i places) all ≡ put_objects q (drop (i + 1) objects) (drop (i + 1) places) (put_initial q (at - data_place) o.initial all)
objects_more q objects places i at o all lt is few here =
    ap (λ more. put_objects q more (drop i places) all) (drop_more objects i o lt ∙ ap (λ x. x ∷ drop (i + 1) objects) (sym is))
    ∙ ap (λ more. put_objects q (o ∷ drop (i + 1) objects) more all) (drop_more places i at few ∙ ap (λ x. x ∷ drop (i + 1) places) (sym here))

end_is_behind : (at : ℕ) (sizes : List ℕ) → at ≤ end_from at sizes
end_is_behind at [] = omega arith
end_is_behind at (size ∷ more) = omega (arith, end_is_behind (at + whole_words size) more)

pub all_ends_behind : (at : ℕ) (gs : List RoutineData) → at ≤ all_texts_end at gs
all_ends_behind at [] = omega arith
all_ends_behind at (g ∷ more) = omega (arith, end_is_behind at (map length g.texts), all_ends_behind (end_from at (map length g.texts)) more)

pub place_fits : (at : ℕ) (sizes : List ℕ) → end_from at sizes < 2 ^ 32 → at < 2 ^ 32
place_fits at sizes lt = omega (arith, end_is_behind at sizes)

pub text_fits : (texts : List (List ℕ)) (i at : ℕ) (text : List ℕ) → i < length texts → text ≡ get_or texts i text
    → end_from at (map length (drop i texts)) < 2 ^ 32 → at + (length text + 3) / 4 * 4 < 2 ^ 32
text_fits texts i at text lt is fit =
    let all : end_from at (map length (drop i texts)) ≡ end_from (at + (length text + 3) / 4 * 4) (map length (drop (i + 1) texts))
    = ap (λ more. end_from at (map length more)) (drop_more texts i text lt ∙ ap (λ x. x ∷ drop (i + 1) texts) (sym is)) in
    omega (arith, end_is_behind (at + (length text + 3) / 4 * 4) (map length (drop (i + 1) texts)))

pub texts_fit : (gs : List Routine) (i at : ℕ) (g : Routine) → i < length gs → g ≡ get_or gs i g
    → all_texts_end at (map data_of (drop i gs)) < 2 ^ 32 → end_from at (map length g.texts) < 2 ^ 32
texts_fit gs i at g lt is fit =
    let all : all_texts_end at (map data_of (drop i gs)) ≡ all_texts_end (end_from at (map length g.texts)) (map data_of (drop (i + 1) gs))
    = ap (λ more. all_texts_end at (map data_of more)) (drop_more gs i g lt ∙ ap (λ x. x ∷ drop (i + 1) gs) (sym is)) in
    omega (arith, all_ends_behind (end_from at (map length g.texts)) (map data_of (drop (i + 1) gs)))

-- ---- code as bytes

words_more : (a b : List Inst) → bytes_of (words_of (a ++ b)) ≡ bytes_of (words_of a) ++ bytes_of (words_of b)
words_more [] b = refl
words_more (i ∷ a) b =
    ap (λ more. to_le_bytes w32 (encoding i) ++ more) (words_more a b)
    ∙ sym (append_assoc (to_le_bytes w32 (encoding i)) (bytes_of (words_of a)) (bytes_of (words_of b)))

pub words_next : (code : List Inst) (k : ℕ) (i : Inst) → k < length code → i ≡ get_or code k i
    → bytes_of (words_of (take (k + 1) code)) ≡ bytes_of (words_of (take k code)) ++ to_le_bytes w32 (encoding i)
words_next code k i lt is =
    ap (λ all. bytes_of (words_of all)) (take_more code k i lt ∙ ap (λ x. take k code ++ x ∷ []) (sym is))
    ∙ words_more (take k code) (i ∷ [])
    ∙ ap (λ more. bytes_of (words_of (take k code)) ++ more) (append-nil (to_le_bytes w32 (encoding i)))
