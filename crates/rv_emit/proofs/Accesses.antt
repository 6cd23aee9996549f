-- What loads find in cells, and what stores leave in them: numbers of each width, and pointers.
use Rattle.std.proofs.Common.{◌≡◌, ℕ, zero, suc, ◌+◌, ◌-◌, ◌*◌, ◌/◌, ◌%◌, ◌^◌, ◌<◌, ◌≤◌, ◌⊎◌, Bool, true, false, cond, eqb, leb, ltb, ◌&&◌, List, [], ◌∷◌, length, pos, negsuc, ℤ}
use Rattle.std.proofs.Common.{Option, Some, None, Ok, Err, slice_get, take, drop, refl, ap, sym, ◌∙◌, subst, arith, leb-true, eqb-true}
use Rattle.std.specs.List.{list_any}
use Rattle.std.specs.Option.{option_map}
use Rattle.std.specs.Int.{w8, w16, cast_signed}
use Rattle.std.proofs.lemmas.Bool.{cond_both, and_parts, ltb-true, ltb-false, leb-false}
use Rattle.lay_base.specs.declared.faults.UndefinedKind.TheVariants as K
use Rattle.c_types.specs.declared.ty.IntKind.{IntKind}
use Rattle.c_types.specs.declared.ty.IntKind.TheVariants as I
use Rattle.c_types.specs.IntKinds.{width}
use Rattle.memory_words.specs.declared.cell_words.cell.Cell.{Cell}
use Rattle.memory_words.specs.declared.cell_words.cell.Cell.TheVariants as C
use Rattle.memory_words.specs.declared.cell_words.pointer.Ptr.{Ptr}
use Rattle.memory_words.specs.declared.cell_words.pointer.Ptr.TheVariants as P
use Rattle.memory_words.specs.CellWords.Fragments.{is_same, is_fragment, are_fragments}
use Rattle.block_memory.specs.declared.kinds.Access.{Access}
use Rattle.block_memory.specs.declared.kinds.Access.TheVariants.{Number, Pointer}
use Rattle.block_memory.specs.Accesses.{load_number, load_pointer, place}
use Rattle.block_memory.specs.Blocks.{Memory, Contents, living, ended, block, cells, cells_in, lives_in, size_in, with_cells}
use Rattle.block_memory.specs.Held.{bytes_of, number_in, null_in, pointer_in, fragments_of, held, is_empty, or_pointer, word_of}
use Rattle.block_memory.specs.Tested.{Tested, ◌>>=◌}
use Rattle.block_memory.specs.RunWorlds.Scalars.{as_value, load_in, store_in, width_of}
use Rattle.block_memory.specs.declared.run_worlds.value.Value.{Value}
use Rattle.block_memory.specs.declared.run_worlds.value.Value.TheVariants.{Word as word, Pointer as pointer}
use Rattle.rv_isa.specs.Arithmetic.{extended}
use Rattle.rv_isa.specs.Memory as M
use Rattle.rv_isa.specs.Memory.{half_at, word_at, with_byte, with_half, with_word}
use Rattle.rv_runtime.specs.Steps.States.{Keeps, code_end}
use Rattle.rv_runtime.proofs.Steps.Operators.{IsLoad, IsStore, is_lb, is_lbu, is_lh, is_lhu, is_lw, is_sb, is_sh, is_sw}
use Rattle.rv_runtime.proofs.Steps.Words.{byte_0, byte_1, byte_2, byte_3, half_fits, half_other, keeps_byte, keeps_half, keeps_word, with_byte_other, with_byte_same, with_word_other, word_fits}
use Rattle.rv_code.specs.Words.{load_by, load_number as load_instruction, store_by, store_number as store_instruction}
use Rattle.rv_code.specs.declared.layout.Places.{Places}
use Rattle.tac_ir.specs.Code.{Code}
use Rattle.rv_emit.specs.Maps.{Extent, Extents, Flat, Means, Points, Room, Shows, byte_of}
use Rattle.rv_emit.proofs.Cells.{Found, found}

-- ---- instructions that load and store

abbrev pub loaded_number : IntKind → M.Memory → ℕ → ℕ
loaded_number I.Char = λ memory a. memory a
loaded_number I.SChar = λ memory a. extended (cast_signed w8 (memory a))
loaded_number I.UChar = λ memory a. memory a
loaded_number I.Short = λ memory a. extended (cast_signed w16 (half_at memory a))
loaded_number I.UShort = half_at
loaded_number I.Int = word_at
loaded_number I.UInt = word_at
loaded_number I.Long = word_at
loaded_number I.ULong = word_at

abbrev pub loaded : Access → M.Memory → ℕ → ℕ
loaded (Number kind) = loaded_number kind
loaded (Pointer type) = word_at

number_load : (kind : IntKind) → IsLoad (load_instruction kind 5 5 (pos 0)) 5 5 (pos 0) (width kind) (loaded_number kind)
number_load I.Char = is_lbu 5 5 (pos 0)
number_load I.SChar = is_lb 5 5 (pos 0)
number_load I.UChar = is_lbu 5 5 (pos 0)
number_load I.Short = is_lh 5 5 (pos 0)
number_load I.UShort = is_lhu 5 5 (pos 0)
number_load I.Int = is_lw 5 5 (pos 0)
number_load I.UInt = is_lw 5 5 (pos 0)
number_load I.Long = is_lw 5 5 (pos 0)
number_load I.ULong = is_lw 5 5 (pos 0)

pub load_is : (access : Access) → IsLoad (load_by access 5 5 (pos 0)) 5 5 (pos 0) (width_of access) (loaded access)
load_is (Number kind) = number_load kind
load_is (Pointer type) = is_lw 5 5 (pos 0)

byte_extended_fits : (b : ℕ) → b < 2 ^ 8 → extended (cast_signed w8 b) < 2 ^ 32
byte_extended_fits b lt = cond_both (ltb b (2 ^ 7)) (pos b) (negsuc (2 ^ 8 - suc b)) (λ z. extended z < 2 ^ 32) (λ e. omega arith) (λ e. omega arith)

half_extended_fits : (b : ℕ) → b < 2 ^ 16 → extended (cast_signed w16 b) < 2 ^ 32
half_extended_fits b lt = cond_both (ltb b (2 ^ 15)) (pos b) (negsuc (2 ^ 16 - suc b)) (λ z. extended z < 2 ^ 32) (λ e. omega arith) (λ e. omega arith)

number_loaded_fits : (kind : IntKind) (memory : M.Memory) (a : ℕ) → ((c : ℕ) → memory c < 2 ^ 8) → loaded_number kind memory a < 2 ^ 32
number_loaded_fits I.Char memory a fits = omega (arith, fits a)
number_loaded_fits I.SChar memory a fits = byte_extended_fits (memory a) (fits a)
number_loaded_fits I.UChar memory a fits = omega (arith, fits a)
number_loaded_fits I.Short memory a fits = half_extended_fits (half_at memory a) (half_fits memory a fits)
number_loaded_fits I.UShort memory a fits = omega (arith, half_fits memory a fits)
number_loaded_fits I.Int memory a fits = word_fits memory a fits
number_loaded_fits I.UInt memory a fits = word_fits memory a fits
number_loaded_fits I.Long memory a fits = word_fits memory a fits
number_loaded_fits I.ULong memory a fits = word_fits memory a fits

pub loaded_fits : (access : Access) (memory : M.Memory) (a : ℕ) → ((c : ℕ) → memory c < 2 ^ 8) → loaded access memory a < 2 ^ 32
loaded_fits (Number kind) memory a fits = number_loaded_fits kind memory a fits
loaded_fits (Pointer type) memory a fits = word_fits memory a fits

abbrev pub with_number : IntKind → M.Memory → (a v : ℕ) → M.Memory
with_number I.Char = with_byte
with_number I.SChar = with_byte
with_number I.UChar = with_byte
with_number I.Short = with_half
with_number I.UShort = with_half
with_number I.Int = with_word
with_number I.UInt = with_word
with_number I.Long = with_word
with_number I.ULong = with_word

abbrev pub with_access : Access → M.Memory → (a v : ℕ) → M.Memory
with_access (Number kind) = with_number kind
with_access (Pointer type) = with_word

number_store : (kind : IntKind) (base rs : ℕ) (by : ℤ) → IsStore (store_instruction kind base rs by) base rs by (width kind) (with_number kind)
number_store I.Char base rs by = is_sb base rs by
number_store I.SChar base rs by = is_sb base rs by
number_store I.UChar base rs by = is_sb base rs by
number_store I.Short base rs by = is_sh base rs by
number_store I.UShort base rs by = is_sh base rs by
number_store I.Int base rs by = is_sw base rs by
number_store I.UInt base rs by = is_sw base rs by
number_store I.Long base rs by = is_sw base rs by
number_store I.ULong base rs by = is_sw base rs by

pub store_is : (access : Access) (base rs : ℕ) (by : ℤ) → IsStore (store_by access base rs by) base rs by (width_of access) (with_access access)
store_is (Number kind) base rs by = number_store kind base rs by
store_is (Pointer type) base rs by = is_sw base rs by

-- the bytes of a number that is stored, and all others
pub record IsStored (old new : M.Memory) (a v n : ℕ) : Type 0 where
  pub inside : (k : ℕ) → k < n → new (a + k) ≡ v / 2 ^ (8 * k) % 2 ^ 8
  pub outside : (c : ℕ) → (c < a) ⊎ (a + n ≤ c) → new c ≡ old c

byte_stored : (memory : M.Memory) (a v : ℕ) → IsStored memory (with_byte memory a v) a v 1
byte_stored memory a v = record { inside = inside; outside = λ c out. with_byte_other memory a v c (λ e. omega arith) }
  where
    inside : (k : ℕ) → k < 1 → with_byte memory a v (a + k) ≡ v / 2 ^ (8 * k) % 2 ^ 8
    inside zero lt = (let z : a + 0 ≡ a = omega arith in ap (with_byte memory a v) z ∙ with_byte_same memory a v ∙ (let d : v % 2 ^ 8 ≡ v / 2 ^ (8 * 0) % 2 ^ 8 = omega arith in d))
    inside (suc k) lt = absurd (omega arith)

half_stored : (memory : M.Memory) (a v : ℕ) → IsStored memory (with_half memory a v) a v 2
half_stored memory a v = record { inside = inside; outside = λ c out. half_other memory a v c (λ e. omega arith) (λ e. omega arith) }
  where
    inside : (k : ℕ) → k < 2 → with_half memory a v (a + k) ≡ v / 2 ^ (8 * k) % 2 ^ 8
    inside zero lt =
        (let z : a + 0 ≡ a = omega arith in ap (with_half memory a v) z ∙ with_byte_other (with_byte memory a v) (a + 1) (v / 2 ^ 8) a (λ e. omega arith)
        ∙ with_byte_same memory a v ∙ (let d : v % 2 ^ 8 ≡ v / 2 ^ (8 * 0) % 2 ^ 8 = omega arith in d))
    inside (suc zero) lt = with_byte_same (with_byte memory a v) (a + 1) (v / 2 ^ 8)
    inside (suc (suc k)) lt = absurd (omega arith)

word_stored : (memory : M.Memory) (a v : ℕ) → IsStored memory (with_word memory a v) a v 4
word_stored memory a v = record {
  inside = inside;
  outside = λ c out. with_word_other memory a v c (λ e. omega arith) (λ e. omega arith) (λ e. omega arith) (λ e. omega arith);
}
  where
    inside : (k : ℕ) → k < 4 → with_word memory a v (a + k) ≡ v / 2 ^ (8 * k) % 2 ^ 8
    inside zero lt =
        (let z : a + 0 ≡ a = omega arith in ap (with_word memory a v) z ∙ byte_0 memory a v ∙ (let d : v % 2 ^ 8 ≡ v / 2 ^ (8 * 0) % 2 ^ 8 = omega arith in d))
    inside (suc zero) lt = byte_1 memory a v
    inside (suc (suc zero)) lt = byte_2 memory a v
    inside (suc (suc (suc zero))) lt = byte_3 memory a v
    inside (suc (suc (suc (suc k)))) lt = absurd (omega arith)

number_stored : (kind : IntKind) (memory : M.Memory) (a v : ℕ) → IsStored memory (with_number kind memory a v) a v (width kind)
number_stored I.Char memory a v = byte_stored memory a v
number_stored I.SChar memory a v = byte_stored memory a v
number_stored I.UChar memory a v = byte_stored memory a v
number_stored I.Short memory a v = half_stored memory a v
number_stored I.UShort memory a v = half_stored memory a v
number_stored I.Int memory a v = word_stored memory a v
number_stored I.UInt memory a v = word_stored memory a v
number_stored I.Long memory a v = word_stored memory a v
number_stored I.ULong memory a v = word_stored memory a v

pub access_stored : (access : Access) (memory : M.Memory) (a v : ℕ) → IsStored memory (with_access access memory a v) a v (width_of access)
access_stored (Number kind) memory a v = number_stored kind memory a v
access_stored (Pointer type) memory a v = word_stored memory a v

number_keeps : (kind : IntKind) (text memory : M.Memory) (a v : ℕ) → Keeps text memory → code_end ≤ a → Keeps text (with_number kind memory a v)
number_keeps I.Char text memory a v keeps le = keeps_byte text memory a v keeps le
number_keeps I.SChar text memory a v keeps le = keeps_byte text memory a v keeps le
number_keeps I.UChar text memory a v keeps le = keeps_byte text memory a v keeps le
number_keeps I.Short text memory a v keeps le = keeps_half text memory a v keeps le
number_keeps I.UShort text memory a v keeps le = keeps_half text memory a v keeps le
number_keeps I.Int text memory a v keeps le = keeps_word text memory a v keeps le
number_keeps I.UInt text memory a v keeps le = keeps_word text memory a v keeps le
number_keeps I.Long text memory a v keeps le = keeps_word text memory a v keeps le
number_keeps I.ULong text memory a v keeps le = keeps_word text memory a v keeps le

pub access_keeps : (access : Access) (text memory : M.Memory) (a v : ℕ) → Keeps text memory → code_end ≤ a → Keeps text (with_access access memory a v)
access_keeps (Number kind) text memory a v keeps le = number_keeps kind text memory a v keeps le
access_keeps (Pointer type) text memory a v keeps le = keeps_word text memory a v keeps le

-- ---- numbers in cells

abbrev pub value_at : M.Memory → (a count : ℕ) → ℕ
value_at bytes a zero = 0
value_at bytes a (suc count) = bytes a + 256 * value_at bytes (a + 1) count

word_is_value : (bytes : M.Memory) (a : ℕ) → word_at bytes a ≡ value_at bytes a 4
word_is_value bytes a =
    let e2 : a + 1 + 1 ≡ a + 2 = omega arith in
    let e3 : a + 1 + 1 + 1 ≡ a + 3 = omega arith in
    omega (arith, ap bytes e2, ap bytes e3)

half_is_value : (bytes : M.Memory) (a : ℕ) → half_at bytes a ≡ value_at bytes a 2
half_is_value bytes a = omega arith

byte_is_value : (bytes : M.Memory) (a : ℕ) → bytes a ≡ value_at bytes a 1
byte_is_value bytes a = omega arith

-- a whole word is its own two's complement
whole_word : (n : ℕ) (bytes : M.Memory) (a : ℕ) → cond (leb (value_at bytes a 4) n) (value_at bytes a 4) (value_at bytes a 4 + (2 ^ 32 - 2 ^ (8 * 4))) ≡ word_at bytes a
whole_word n bytes a =
    cond_both (leb (value_at bytes a 4) n) _ _ (λ (r : ℕ). r ≡ word_at bytes a) (λ e. sym (word_is_value bytes a)) (λ e. omega (arith, word_is_value bytes a))

-- a number as it stands in memory is read as what is loaded
word_is : (kind : IntKind) (bytes : M.Memory) (a : ℕ) → ((c : ℕ) → bytes c < 2 ^ 8) → word_of kind (value_at bytes a (width kind)) ≡ loaded_number kind bytes a
word_is I.Char bytes a fits =
    cond_both (leb (value_at bytes a 1) (2 ^ 8 - 1)) _ _ (λ (r : ℕ). r ≡ bytes a) (λ e. sym (byte_is_value bytes a))
    (λ e. absurd (let d = leb-false _ _ e in omega (arith, fits a)))
word_is I.UChar bytes a fits =
    cond_both (leb (value_at bytes a 1) (2 ^ 8 - 1)) _ _ (λ (r : ℕ). r ≡ bytes a) (λ e. sym (byte_is_value bytes a))
    (λ e. absurd (let d = leb-false _ _ e in omega (arith, fits a)))
word_is I.SChar bytes a fits =
    cond_both (leb (value_at bytes a 1) (2 ^ 7 - 1)) _ _ (λ (r : ℕ). r ≡ extended (cast_signed w8 (bytes a)))
    (λ e. let d = leb-true _ _ e in cond_both (ltb (bytes a) (2 ^ 7)) (pos (bytes a)) (negsuc (2 ^ 8 - suc (bytes a))) (λ z. value_at bytes a 1 ≡ extended z)
    (λ l. omega arith) (λ l. absurd (let k = ltb-false _ _ l in omega arith)))
    (λ e. let d = leb-false _ _ e in cond_both (ltb (bytes a) (2 ^ 7)) (pos (bytes a)) (negsuc (2 ^ 8 - suc (bytes a)))
    (λ z. value_at bytes a 1 + (2 ^ 32 - 2 ^ 8) ≡ extended z) (λ l. absurd (let k = ltb-true _ _ l in omega arith)) (λ l. omega (arith, fits a)))
word_is I.Short bytes a fits =
    let h = half_at bytes a in
    let v = half_is_value bytes a in
    cond_both (leb (value_at bytes a 2) (2 ^ 15 - 1)) _ _ (λ (r : ℕ). r ≡ extended (cast_signed w16 h))
    (λ e. let d = leb-true _ _ e in cond_both (ltb h (2 ^ 15)) (pos h) (negsuc (2 ^ 16 - suc h)) (λ z. value_at bytes a 2 ≡ extended z)
    (λ l. omega arith) (λ l. absurd (let k = ltb-false _ _ l in omega arith)))
    (λ e. let d = leb-false _ _ e in cond_both (ltb h (2 ^ 15)) (pos h) (negsuc (2 ^ 16 - suc h)) (λ z. value_at bytes a 2 + (2 ^ 32 - 2 ^ 16) ≡ extended z)
    (λ l. absurd (let k = ltb-true _ _ l in omega arith)) (λ l. omega (arith, half_fits bytes a fits)))
word_is I.UShort bytes a fits =
    let v = half_is_value bytes a in
    cond_both (leb (value_at bytes a 2) (2 ^ 16 - 1)) _ _ (λ (r : ℕ). r ≡ half_at bytes a) (λ e. sym v)
    (λ e. absurd (let d = leb-false _ _ e in omega (arith, half_fits bytes a fits)))
word_is I.Int bytes a fits = whole_word (2 ^ 31 - 1) bytes a
word_is I.UInt bytes a fits = whole_word (2 ^ 32 - 1) bytes a
word_is I.Long bytes a fits = whole_word (2 ^ 31 - 1) bytes a
word_is I.ULong bytes a fits = whole_word (2 ^ 32 - 1) bytes a

-- pointers that are the same
same_pointer : (p q : Ptr) → is_same p q ≡ true → p ≡ q
same_pointer P.Null P.Null e = refl
same_pointer (P.Block b at) (P.Block c o) e =
    let h = and_parts (eqb b c) (eqb at o) e in
    let d1 = eqb-true b c h.0 in
    let d2 = eqb-true at o h.1 in
    cc
same_pointer (P.Function f) (P.Function g) e = ap P.Function (eqb-true f g e)
same_pointer P.Null (P.Block c o) e = absurd cc
same_pointer P.Null (P.Function g) e = absurd cc
same_pointer (P.Block b at) P.Null e = absurd cc
same_pointer (P.Block b at) (P.Function g) e = absurd cc
same_pointer (P.Function f) P.Null e = absurd cc
same_pointer (P.Function f) (P.Block c o) e = absurd cc

joined : (x b0 b1 b2 b3 : ℕ) → x < 2 ^ 32 → b0 ≡ x / 2 ^ (8 * 0) % 2 ^ 8 → b1 ≡ x / 2 ^ (8 * 1) % 2 ^ 8 → b2 ≡ x / 2 ^ (8 * 2) % 2 ^ 8
    → b3 ≡ x / 2 ^ (8 * 3) % 2 ^ 8 → b0 + 256 * (b1 + 256 * (b2 + 256 * (b3 + 256 * 0))) ≡ x
joined x b0 b1 b2 b3 lt e0 e1 e2 e3 = omega arith

-- ---- results of tests

pub bind_is : {A B : Type 0} (r : Tested A) (next : A → Tested B) (z : B) → (r >>= next) ≡ Ok z → (x : A) × (r ≡ Ok x) × (next x ≡ Ok z)
bind_is (Ok x) next z e = (x, refl, e)
bind_is (Err k) next z e = absurd cc

held_by : {A : Type 0} (t : Bool) (o : Option A) (z : A) → cond t (Err K.Empty) (or_pointer o) ≡ Ok z → o ≡ Some z
held_by true o z e = absurd cc
held_by false (Some x) z e = (let d : x ≡ z = cc in ap Some d)
held_by false None z e = absurd cc

held_is : {A : Type 0} (all : List Cell) (o : Option A) (z : A) → held all o ≡ Ok z → o ≡ Some z
held_is all o z e = held_by (list_any is_empty all) o z e

map_is : {A B : Type 0} (f : A → B) (o : Option A) (z : B) → option_map f o ≡ Some z → (x : A) × (o ≡ Some x) × (f x ≡ z)
map_is f (Some x) z e = (x, refl, cc)
map_is f None z e = absurd cc

value_is : {A : Type 0} (f : A → Value) (r : Tested A) (z : Value) → as_value f r ≡ Ok z → (x : A) × (r ≡ Ok x) × (f x ≡ z)
value_is f (Ok x) z e = (x, refl, cc)
value_is f (Err k) z e = absurd cc

four : (all : List Cell) → length all ≡ 4 → (c0 c1 c2 c3 : Cell) × (all ≡ c0 ∷ c1 ∷ c2 ∷ c3 ∷ [])
four [] e = absurd (omega arith)
four (c0 ∷ []) e = absurd (omega arith)
four (c0 ∷ c1 ∷ []) e = absurd (omega arith)
four (c0 ∷ c1 ∷ c2 ∷ []) e = absurd (omega arith)
four (c0 ∷ c1 ∷ c2 ∷ c3 ∷ []) e = (c0, c1, c2, c3, refl)
four (c0 ∷ c1 ∷ c2 ∷ c3 ∷ c4 ∷ more) e = absurd (omega arith)

-- the bytes of a number as cells
number_cell : (count v i : ℕ) (c : Cell) → count ≤ 4 → slice_get (bytes_of count v) i ≡ Some c → C.Byte (v / 2 ^ (8 * i) % 2 ^ 8) ≡ c
number_cell zero v i c le e = absurd cc
number_cell (suc n) v zero c le e = (let d : C.Byte (v % 256) ≡ c = cc in let z : v / 2 ^ (8 * 0) % 2 ^ 8 ≡ v % 256 = omega arith in ap C.Byte z ∙ d)
number_cell (suc zero) v (suc i) c le e = absurd cc
number_cell (suc (suc n)) v (suc zero) c le e = cc
number_cell (suc (suc zero)) v (suc (suc i)) c le e = absurd cc
number_cell (suc (suc (suc n))) v (suc (suc zero)) c le e =
    (let d : C.Byte (v / 256 / 256 % 256) ≡ c = cc in let z : v / 2 ^ (8 * 2) % 2 ^ 8 ≡ v / 256 / 256 % 256 = omega arith in ap C.Byte z ∙ d)
number_cell (suc (suc (suc zero))) v (suc (suc (suc i))) c le e = absurd cc
number_cell (suc (suc (suc (suc n)))) v (suc (suc (suc zero))) c le e =
    (let d : C.Byte (v / 256 / 256 / 256 % 256) ≡ c = cc in let z : v / 2 ^ (8 * 3) % 2 ^ 8 ≡ v / 256 / 256 / 256 % 256 = omega arith in ap C.Byte z ∙ d)
number_cell (suc (suc (suc (suc zero)))) v (suc (suc (suc (suc i)))) c le e = absurd cc
number_cell (suc (suc (suc (suc (suc n))))) v (suc (suc (suc (suc i)))) c le e = absurd (omega arith)

number_long : (count v : ℕ) → length (bytes_of count v) ≡ count
number_long zero v = refl
number_long (suc n) v = ap suc (number_long n (v / 256))

narrow : (kind : IntKind) → width kind ≤ 4
narrow I.Char = omega arith
narrow I.SChar = omega arith
narrow I.UChar = omega arith
narrow I.Short = omega arith
narrow I.UShort = omega arith
narrow I.Int = omega arith
narrow I.UInt = omega arith
narrow I.Long = omega arith
narrow I.ULong = omega arith

fragment_cell : (type : ℕ) (r : Ptr) (i : ℕ) (c : Cell) → slice_get (fragments_of type r) i ≡ Some c → C.Fragment type r i ≡ c
fragment_cell type r zero c e = cc
fragment_cell type r (suc zero) c e = cc
fragment_cell type r (suc (suc zero)) c e = cc
fragment_cell type r (suc (suc (suc zero))) c e = cc
fragment_cell type r (suc (suc (suc (suc i)))) c e = absurd cc

module _ (code : Code) (p : Places) (blocks : Extents) (bytes : M.Memory) where
  -- cells and the bytes from an address on
  abbrev pub AllShow : (a : ℕ) → List Cell → Type 0
  AllShow a [] = Unit {0}
  AllShow a (c ∷ more) = Shows code p blocks c (bytes a) × AllShow (a + 1) more

  -- a number in cells is the number of their bytes
  number_shown : (a : ℕ) (all : List Cell) (n : ℕ) → AllShow a all → number_in all ≡ Some n → n ≡ value_at bytes a (length all)
  number_shown a [] n h e = (let d : 0 ≡ n = cc in sym d)
  number_shown a (C.Byte x ∷ more) n h e = by_rest (number_in more) (λ v d. number_shown (a + 1) more v h.1 d) e
    where
      by_rest : (o : Option ℕ) → ((v : ℕ) → o ≡ Some v → v ≡ value_at bytes (a + 1) (length more)) → option_map (λ v. x + 256 * v) o ≡ Some n
          → n ≡ bytes a + 256 * value_at bytes (a + 1) (length more)
      by_rest (Some v) r k =
          let z : x + 256 * v ≡ n = cc in
          let y = r v refl in
          omega (arith, h.0)
      by_rest None r k = absurd cc
  number_shown a (C.Empty ∷ more) n h e = absurd cc
  number_shown a (C.Fragment type r k ∷ more) n h e = absurd cc

  -- a number that stands for a pointer is the only one
  points_once : (r : Ptr) (x y : ℕ) → Points code p blocks r x → Points code p blocks r y → x ≡ y
  points_once P.Null x y h k = h ∙ sym k
  points_once (P.Block b at) x y h k =
      let d : Some h.0 ≡ Some k.0 = sym h.1 ∙ k.1 in
      let e : h.0 ≡ k.0 = cc in
      h.3 ∙ ap (λ (a : Extent). a.at + at) e ∙ sym k.3
  points_once (P.Function f) x y h k = h.1 ∙ sym k.1

  -- a fragment that is tested to be the k-th one of a pointer
  fragment_is : (type : ℕ) (r : Ptr) (k : ℕ) (c : Cell) (byte : ℕ) → is_fragment type r k c ≡ true → Shows code p blocks c byte
      → (x : ℕ) × Points code p blocks r x × (byte ≡ byte_of x k)
  fragment_is type r k (C.Fragment t q j) byte e h =
      let e1 = and_parts (eqb t type && is_same q r) (eqb j k) e in
      let e2 = and_parts (eqb t type) (is_same q r) e1.0 in
      let d1 = same_pointer q r e2.1 in
      let d2 = eqb-true j k e1.1 in
      (h.0, subst (λ z. Points code p blocks z h.0) d1 h.1, h.2 ∙ ap (byte_of h.0) d2)
  fragment_is type r k C.Empty byte e h = absurd cc
  fragment_is type r k (C.Byte x) byte e h = absurd cc

  -- four fragments are the pointer's number
  fragments_shown : (a type : ℕ) (r : Ptr) (c0 c1 c2 c3 : Cell) → ((x : ℕ) → Points code p blocks r x → x < 2 ^ 32)
      → AllShow a (c0 ∷ c1 ∷ c2 ∷ c3 ∷ []) → are_fragments type r 0 (c0 ∷ c1 ∷ c2 ∷ c3 ∷ []) ≡ true → Points code p blocks r (word_at bytes a)
  fragments_shown a type r c0 c1 c2 c3 small h e =
      let e0 = and_parts (is_fragment type r 0 c0) _ e in
      let e1 = and_parts (is_fragment type r 1 c1) _ e0.1 in
      let e2 = and_parts (is_fragment type r 2 c2) _ e1.1 in
      let e3 = and_parts (is_fragment type r 3 c3) _ e2.1 in
      let f0 = fragment_is type r 0 c0 (bytes a) e0.0 h.0 in
      let f1 = fragment_is type r 1 c1 (bytes (a + 1)) e1.0 h.1.0 in
      let f2 = fragment_is type r 2 c2 (bytes (a + 1 + 1)) e2.0 h.1.1.0 in
      let f3 = fragment_is type r 3 c3 (bytes (a + 1 + 1 + 1)) e3.0 h.1.1.1.0 in
      let x = f0.0 in
      let same = λ (y : ℕ) (k : Points code p blocks r y). points_once r y x k f0.1 in
      let d1 = f1.2 ∙ ap (λ (z : ℕ). byte_of z 1) (same f1.0 f1.1) in
      let d2 = f2.2 ∙ ap (λ (z : ℕ). byte_of z 2) (same f2.0 f2.1) in
      let d3 = f3.2 ∙ ap (λ (z : ℕ). byte_of z 3) (same f3.0 f3.1) in
      let is : word_at bytes a ≡ x = word_is_value bytes a ∙ joined x _ _ _ _ (small x f0.1) f0.2 d1 d2 d3 in
      subst (Points code p blocks r) (sym is) f0.1

  -- a pointer in four cells
  pointer_shown : (a type : ℕ) (q : Ptr) (c0 c1 c2 c3 : Cell) → ((r : Ptr) (x : ℕ) → Points code p blocks r x → x < 2 ^ 32)
      → AllShow a (c0 ∷ c1 ∷ c2 ∷ c3 ∷ []) → pointer_in type (c0 ∷ c1 ∷ c2 ∷ c3 ∷ []) ≡ Some q → Points code p blocks q (word_at bytes a)
  pointer_shown a type q (C.Fragment t r k) c1 c2 c3 small h e = by_test (are_fragments type r 0 (C.Fragment t r k ∷ c1 ∷ c2 ∷ c3 ∷ [])) refl e
    where
      by_test : (t' : Bool) → are_fragments type r 0 (C.Fragment t r k ∷ c1 ∷ c2 ∷ c3 ∷ []) ≡ t' → cond t' (Some r) None ≡ Some q
          → Points code p blocks q (word_at bytes a)
      by_test true d e =
          let same : r ≡ q = cc in
          subst (λ z. Points code p blocks z (word_at bytes a)) same (fragments_shown a type r (C.Fragment t r k) c1 c2 c3 (small r) h d)
      by_test false d e = absurd cc
  pointer_shown a type q C.Empty c1 c2 c3 small h e = absurd cc
  pointer_shown a type q (C.Byte x) c1 c2 c3 small h e =
      by_number (number_in (C.Byte x ∷ c1 ∷ c2 ∷ c3 ∷ [])) (λ n d. number_shown a (C.Byte x ∷ c1 ∷ c2 ∷ c3 ∷ []) n h d) e
    where
      by_number : (o : Option ℕ) → ((n : ℕ) → o ≡ Some n → n ≡ value_at bytes a 4) → null_in o ≡ Some q → Points code p blocks q (word_at bytes a)
      by_number (Some zero) r e =
          let same : P.Null ≡ q = cc in
          subst (λ z. Points code p blocks z (word_at bytes a)) same (word_is_value bytes a ∙ sym (r 0 refl))
      by_number (Some (suc n)) r e = absurd cc
      by_number None r e = absurd cc

  -- the cells of a range, with their bytes
  cells_show : (all : List Cell) (at n a : ℕ) → at + n ≤ length all
      → ((i : ℕ) (c : Cell) → slice_get all i ≡ Some c → at ≤ i → Shows code p blocks c (bytes (a + (i - at))))
      → AllShow a (take n (drop at all)) × (length (take n (drop at all)) ≡ n)
  cells_show all zero zero a le h = (tt, refl)
  cells_show [] zero (suc n) a le h = absurd (omega arith)
  cells_show (c ∷ all) zero (suc n) a le h =
      let z : a + (0 - 0) ≡ a = omega arith in
      let first = subst (λ q. Shows code p blocks c (bytes q)) z (h 0 c refl (omega arith)) in
      let rest = cells_show all zero n (a + 1) (omega arith)
      (λ i x e k. let y : a + (suc i - 0) ≡ a + 1 + (i - 0) = omega arith in subst (λ q. Shows code p blocks x (bytes q)) y (h (suc i) x e (omega arith))) in
      ((first, rest.0), ap suc rest.1)
  cells_show [] (suc at) n a le h = absurd (omega arith)
  cells_show (c ∷ all) (suc at) n a le h =
      cells_show all at n a (omega arith)
      (λ i x e k. let y : a + (suc i - suc at) ≡ a + (i - at) = omega arith in subst (λ q. Shows code p blocks x (bytes q)) y (h (suc i) x e (omega arith)))

  -- ---- a load

  pub record Loaded (m : Memory) (r : Ptr) (access : Access) (z : Value) : Type 0 where
    pub b : ℕ
    pub at : ℕ
    pub found : Found m r (width_of access) (width_of access) b at
    pub means : (e : Extent) → slice_get blocks b ≡ Some e → Means code p blocks z (loaded access bytes (e.at + at))

  module _ (room : Room) (owner : ℕ → Option ℕ) (m : Memory) (flat : Flat code p room blocks owner m bytes)
      (small : (r : Ptr) (x : ℕ) → Points code p blocks r x → x < 2 ^ 32) (fits : (c : ℕ) → bytes c < 2 ^ 8) where
    -- the cells of an access show their bytes
    pub shown_cells : (r : Ptr) (b at n w : ℕ) (e : Extent) → Found m r n w b at → slice_get blocks b ≡ Some e
        → AllShow (e.at + at) (cells m b at n) × (length (cells m b at n) ≡ n)
    shown_cells r b at n w e f h =
        cells_show (cells_in (block m b).contents) at n (e.at + at) (fits_cells (block m b).contents f.live f.fits)
        (λ i c is k. let y : e.at + i ≡ e.at + at + (i - at) = omega arith in subst (λ q. Shows code p blocks c (bytes q)) y (flat.shows b i e c h is))
      where
        fits_cells : (k : Contents) → lives_in k ≡ true → at + n ≤ size_in k → at + n ≤ length (cells_in k)
        fits_cells (living all) l le = le
        fits_cells (ended n) l le = absurd cc

    number_found : (r : Ptr) (k : IntKind) (z : Value) → as_value word (load_number m r k) ≡ Ok z → Loaded m r (Number k) z
    number_found r k z e =
        let h1 = value_is word (load_number m r k) z e in
        let h2 = bind_is (place m r (width k) (width k) false) _ h1.0 h1.1 in
        let q = h2.0 in
        let f = found m r (width k) (width k) false q h2.1 in
        let h3 = held_is (cells m q.0 q.1 (width k)) _ h1.0 h2.2 in
        let h4 = map_is (word_of k) (number_in (cells m q.0 q.1 (width k))) h1.0 h3 in
        record {
          b = q.0;
          at = q.1;
          found = f;
          means = λ e h.
              let s = shown_cells r q.0 q.1 (width k) (width k) e f h in
              let n = number_shown (e.at + q.1) (cells m q.0 q.1 (width k)) h4.0 s.0 h4.1 in
              let v : loaded_number k bytes (e.at + q.1) ≡ h1.0 =
              sym (word_is k bytes (e.at + q.1) fits) ∙ ap (λ (i : ℕ). word_of k (value_at bytes (e.at + q.1) i)) (sym s.1) ∙ ap (word_of k) (sym n) ∙ h4.2 in
              subst (λ i. Means code p blocks i (loaded_number k bytes (e.at + q.1))) h1.2 v;
        }

    pointer_found : (r : Ptr) (type : ℕ) (z : Value) → as_value pointer (load_pointer m r type) ≡ Ok z → Loaded m r (Pointer type) z
    pointer_found r type z e =
        let h1 = value_is pointer (load_pointer m r type) z e in
        let h2 = bind_is (place m r 4 4 false) _ h1.0 h1.1 in
        let q = h2.0 in
        let f = found m r 4 4 false q h2.1 in
        let h3 = held_is (cells m q.0 q.1 4) _ h1.0 h2.2 in
        record {
          b = q.0;
          at = q.1;
          found = f;
          means = λ e h.
              let s = shown_cells r q.0 q.1 4 4 e f h in
              let c = four (cells m q.0 q.1 4) s.1 in
              subst (λ i. Means code p blocks i (word_at bytes (e.at + q.1))) h1.2
              (pointer_shown (e.at + q.1) type h1.0 c.0 c.1 c.2 c.3 small (subst (AllShow (e.at + q.1)) c.4 s.0) (ap (pointer_in type) (sym c.4) ∙ h3));
        }

    pub loaded_is : (r : Ptr) (access : Access) (z : Value) → load_in m r access ≡ Ok z → Loaded m r access z
    loaded_is r (Number k) z e = number_found r k z e
    loaded_is r (Pointer type) z e = pointer_found r type z e

-- ---- a store: what it does to blocks, and that the bytes of its number show the new cells

pub record Stored (code : Code) (p : Places) (blocks : Extents) (m after : Memory) (r : Ptr) (access : Access) (y : ℕ) : Type 0 where
  pub b : ℕ
  pub at : ℕ
  pub found : Found m r (width_of access) (width_of access) b at
  pub new : List Cell
  pub long : length new ≡ width_of access
  pub is : after ≡ with_cells m b at new
  pub shows : (old bytes : M.Memory) (a i : ℕ) (c : Cell) → IsStored old bytes a y (width_of access) → slice_get new i ≡ Some c → i < width_of access
      → Shows code p blocks c (bytes (a + i))

pub stored_is : (code : Code) (p : Places) (blocks : Extents) (m after : Memory) (r : Ptr) (access : Access) (u : Value) (y : ℕ) → store_in m r access u ≡ Ok after
    → Means code p blocks u y → Stored code p blocks m after r access y
stored_is code p blocks m after r (Number k) (word v) y e means =
    let h = bind_is (place m r (width k) (width k) true) _ after e in
    let q = h.0 in
    let d : with_cells m q.0 q.1 (bytes_of (width k) v) ≡ after = (let z = h.2 in cc) in
    record {
      b = q.0;
      at = q.1;
      found = found m r (width k) (width k) true q h.1;
      new = bytes_of (width k) v;
      long = number_long (width k) v;
      is = sym d;
      shows = λ old bytes a i c st g lt.
          let byte : bytes (a + i) ≡ v / 2 ^ (8 * i) % 2 ^ 8 = st.inside i lt ∙ ap (λ (z : ℕ). z / 2 ^ (8 * i) % 2 ^ 8) means in
          subst (λ z. Shows code p blocks z (bytes (a + i))) (number_cell (width k) v i c (narrow k) g) byte;
    }
stored_is code p blocks m after r (Pointer type) (pointer s) y e means =
    let h = bind_is (place m r 4 4 true) _ after e in
    let q = h.0 in
    let d : with_cells m q.0 q.1 (fragments_of type s) ≡ after = (let z = h.2 in cc) in
    record {
      b = q.0;
      at = q.1;
      found = found m r 4 4 true q h.1;
      new = fragments_of type s;
      long = refl;
      is = sym d;
      shows = λ old bytes a i c st g lt. subst (λ z. Shows code p blocks z (bytes (a + i))) (fragment_cell type s i c g) (y, means, st.inside i lt);
    }
stored_is code p blocks m after r (Number k) (pointer s) y e means = absurd cc
stored_is code p blocks m after r (Pointer type) (word v) y e means = absurd cc
