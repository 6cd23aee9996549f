-- Cells in words of four.
use Rattle.std.specs.Prelude.{◌≡◌, ◌≢◌, ℕ, zero, suc, ◌+◌, ◌/◌, ◌%◌, ◌<◌, ◌^◌, Bool, true, false, List, [], ◌∷◌, length, slice_index_or, Option, Some, None}
use Rattle.std.specs.Prelude.{MatchOption, ◌*◌}
use Rattle.std.specs.List.{sum_by}
use Rattle.memory_words.specs.declared.cell_words.cell.Cell.{Cell}
use Rattle.memory_words.specs.declared.cell_words.cell.Cell.TheVariants.{Empty, Byte, Fragment}
use Rattle.memory_words.specs.declared.cell_words.pointer.Ptr.{Ptr}
use Rattle.memory_words.specs.declared.cell_words.pointer.Ptr.TheVariants as P
use Rattle.memory_words.specs.declared.cell_words.word.Content.{Content}
use Rattle.memory_words.specs.declared.cell_words.word.Content.TheVariants as C
use Rattle.memory_words.specs.declared.cell_words.word.Four.{Four}
use Rattle.memory_words.specs.declared.cell_words.word.Group.{Group}
use Rattle.memory_words.specs.declared.cell_words.word.Part.{Part}
use Rattle.memory_words.specs.declared.cell_words.word.Part.TheVariants as R
use Rattle.memory_words.specs.declared.cell_words.word.Pointer.{Pointer}
use Rattle.memory_words.specs.declared.cell_words.word.Pointer.TheVariants as T
use Rattle.memory_words.specs.declared.cell_words.word.Word.{Word}
use Rattle.memory_words.specs.declared.cell_words.word.Word.TheVariants as W

-- ---- four cells

abbrev pub nothing : Four
nothing = record { a = Empty; b = Empty; c = Empty; d = Empty }

-- the fragments of a pointer
abbrev pub four_pointer : (type : ℕ) → Ptr → Four
four_pointer type p = record { a = Fragment type p 0; b = Fragment type p 1; c = Fragment type p 2; d = Fragment type p 3 }

-- the bytes of a number, the least first
abbrev pub four_bytes : (v : ℕ) → Four
four_bytes v = record { a = Byte (v % 256); b = Byte (v / 256 % 256); c = Byte (v / 256 / 256 % 256); d = Byte (v / 256 / 256 / 256 % 256) }

-- one of them
abbrev pub cell_in : Four → (k : ℕ) → Cell
cell_in four zero = four.a
cell_in four (suc zero) = four.b
cell_in four (suc (suc zero)) = four.c
cell_in four (suc (suc (suc k))) = four.d

abbrev pub with_cell_in : Four → (k : ℕ) → Cell → Four
with_cell_in four zero c = record four { a = c }
with_cell_in four (suc zero) c = record four { b = c }
with_cell_in four (suc (suc zero)) c = record four { c = c }
with_cell_in four (suc (suc (suc k))) c = record four { d = c }

abbrev pub cells_of : Four → List Cell
cells_of four = four.a ∷ four.b ∷ four.c ∷ four.d ∷ []

-- past the last one there is none, which is as one that holds nothing
abbrev pub four_at : List Four → ℕ → Four
four_at fours i = slice_index_or fours i nothing

-- ---- words

abbrev pub cell_of : Content → Cell
cell_of C.Empty = Empty
cell_of (C.Byte x) = Byte x

abbrev pub cell_by : (gap x : ℕ) → Cell
cell_by zero x = Byte x
cell_by (suc gap) x = Empty

-- the cells of a word that stands in no table
abbrev pub whole : Word → Four
whole (W.Number v) = four_bytes v
whole (W.Bytes gaps a b c d) = record { a = cell_by (gaps % 2) a; b = cell_by (gaps / 2 % 2) b; c = cell_by (gaps / 4 % 2) c; d = cell_by (gaps / 8 % 2) d }
whole (W.Null type) = four_pointer type P.Null
whole (W.Pointer e) = nothing
whole (W.Group e) = nothing

abbrev pub is_tabled : Word → Bool
is_tabled (W.Pointer e) = true
is_tabled (W.Group e) = true
is_tabled word = false

-- a word's place in the table of pointers, and in that of groups
abbrev pub pointer_place : Word → Option ℕ
pointer_place (W.Pointer e) = Some e
pointer_place word = None

abbrev pub group_place : Word → Option ℕ
group_place (W.Group e) = Some e
group_place word = None

-- ---- tables

abbrev pub four_of_pointer : Pointer → Four
four_of_pointer (T.Block type b at) = four_pointer type (P.Block b at)
four_of_pointer (T.Function type f) = four_pointer type (P.Function f)

abbrev pub cell_of_part : Part → Cell
cell_of_part R.Empty = Empty
cell_of_part (R.Byte x) = Byte x
cell_of_part (R.Null k s t) = Fragment (s + 2 ^ 32 * t) P.Null k
cell_of_part (R.Block k s t b c at) = Fragment (s + 2 ^ 32 * t) (P.Block (b + 2 ^ 32 * c) at) k
cell_of_part (R.Function k s t f g) = Fragment (s + 2 ^ 32 * t) (P.Function (f + 2 ^ 32 * g)) k

abbrev pub four_of_group : Group → Four
four_of_group g = record { a = cell_of_part g.a; b = cell_of_part g.b; c = cell_of_part g.c; d = cell_of_part g.d }

-- the cells of any word
abbrev pub four_of : (pointers groups : List Four) → Word → Four
four_of pointers groups (W.Pointer e) = four_at pointers e
four_of pointers groups (W.Group e) = four_at groups e
four_of pointers groups (W.Number v) = whole (W.Number v)
four_of pointers groups (W.Bytes gaps a b c d) = whole (W.Bytes gaps a b c d)
four_of pointers groups (W.Null type) = whole (W.Null type)

abbrev pub empty_word : Word
empty_word = W.Bytes 15 0 0 0 0

abbrev pub word_at : List Word → ℕ → Word
word_at words i = slice_index_or words i empty_word

abbrev pub owner_at : List ℕ → ℕ → ℕ
owner_at owners e = slice_index_or owners e 0

abbrev pub one_if_some : Option ℕ → ℕ
one_if_some None = 0
one_if_some (Some e) = 1

-- each place of a table belongs to the one word that names it
pub record IsTable (place : Word → Option ℕ) (words : List Word) (owners : List ℕ) : Type 0 where
  pub count : sum_by (λ w. one_if_some (place w)) words ≡ length owners
  pub named : (e : ℕ) → e < length owners → (owner_at owners e < length words) × (place (word_at words (owner_at owners e)) ≡ Some e)
  pub owned : (i e : ℕ) → place (word_at words i) ≡ Some e → (e < length owners) × (owner_at owners e ≡ i)

-- ---- what the code finds

-- the number that four cells hold as their bytes, if there is one
abbrev pub NumberIn : Four → Option ℕ → Type 0
NumberIn four result = MatchOption result ((v : ℕ) → four ≢ four_bytes v) (λ v. four ≡ four_bytes v)

-- the pointer of a type whose fragments they are, if there is one
abbrev pub PointerIn : (type : ℕ) → Four → Option Ptr → Type 0
PointerIn type four result = MatchOption result ((p : Ptr) → four ≢ four_pointer type p) (λ p. four ≡ four_pointer type p)

-- 1 where a content is none
abbrev pub gap_of : Content → ℕ
gap_of C.Empty = 1
gap_of (C.Byte x) = 0

abbrev pub byte_of : Content → ℕ
byte_of C.Empty = 0
byte_of (C.Byte x) = x

abbrev pub ContentGives : Cell → Option Content → Type 0
ContentGives cell result = MatchOption result (Unit {0}) (λ content. cell_of content ≡ cell)

-- a word for cells, where there is one that stands in no table
abbrev pub WordGives : Four → Option Word → Type 0
WordGives four result = MatchOption result (Unit {0}) (λ word. (is_tabled word ≡ false) × (whole word ≡ four))

-- the word with another cell, where neither holds a part of a pointer
abbrev pub PutGives : Word → (k : ℕ) → Cell → Option Word → Type 0
PutGives word k c result = MatchOption result (Unit {0}) (λ new. (is_tabled word ≡ false) × (is_tabled new ≡ false) × (whole new ≡ with_cell_in (whole word) k c))
