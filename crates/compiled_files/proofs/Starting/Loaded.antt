-- The memory of the machine before its first step: the text and the data of the program, and zeros.
use Rattle.std.proofs.Common.{◌≡◌, ℕ, ◌+◌, ◌-◌, ◌^◌, ◌<◌, ◌≤◌, ◌⊎◌, inl, inr, Bool, false, cond, leb, List, [], ◌∷◌, length, slice_index}
use Rattle.std.proofs.Common.{refl, ap, ◌∙◌, arith, le-leb, le-ltb, lt-ltb}
use Rattle.std.specs.Prelude.{All}
use Rattle.std.proofs.lemmas.Bool.{and_left, and_right, cases_lt, cond_both, lt-leb}
use Rattle.std.proofs.lemmas.List.{get_or_past}
use Rattle.std.proofs.lemmas.List.Elements.{All-get_or, All-head, All-tail}
use Rattle.c_typed.specs.Programs.{ProgramData}
use Rattle.rv_isa.specs.declared.image.Segment.{Segment}
use Rattle.rv_isa.specs.Memory.{initial_memory, is_in}
use Rattle.rv_runtime.specs.Routines.{data_place}
use Rattle.tac_ir.specs.Code.{code_of}
use Rattle.tac_ir.specs.declared.step.Tac.{Tac}
use Rattle.rv_code.specs.Programs.{places_of}
use Rattle.elf32.specs.Written.{heap_address, stack_address}
use Rattle.rv_image.specs.Data.{data_of_program, object_places}
use Rattle.rv_image.specs.Images.{Fits, end_of_room, full_segment, image_of, room_segment, text_of_program}
use Rattle.compiled_files.proofs.Starting.Putting.{AreBytes}

-- ---- segments, one after the other

module _ (s : Segment) (more : List Segment) (a : ℕ) where
  pub in_segment : s.at ≤ a → a < s.at + s.size → initial_memory (s ∷ more) a ≡ slice_index s.bytes (a - s.at)
  in_segment low high = rw (le-leb s.at a low, lt-ltb a (s.at + s.size) high) refl

  is_outside : (a < s.at) ⊎ (s.at + s.size ≤ a) → is_in s a ≡ false
  is_outside (inl lt) = and_left (leb s.at a) _ (lt-leb s.at a lt)
  is_outside (inr le) = and_right (leb s.at a) _ (le-ltb a (s.at + s.size) le)

  pub past_segment : (a < s.at) ⊎ (s.at + s.size ≤ a) → initial_memory (s ∷ more) a ≡ initial_memory more a
  past_segment out = ap (λ (b : Bool). cond b (slice_index s.bytes (a - s.at)) (initial_memory more a)) (is_outside out)

small_at : (all : List ℕ) (i : ℕ) → AreBytes all → slice_index all i < 2 ^ 8
small_at all i h = elim (cases_lt i (length all)) [
  | inl lt ↦ All-get_or (λ b. b < 2 ^ 8) all i 0 lt h
  | inr le ↦ (let e = get_or_past all i 0 le in omega (arith, e))
]

abbrev Bytes : Segment → Type 0
Bytes s = AreBytes s.bytes

pub memory_small : (segments : List Segment) (a : ℕ) → All Bytes segments → initial_memory segments a < 2 ^ 8
memory_small [] a h = omega arith
memory_small (s ∷ more) a h =
    cond_both (is_in s a) (slice_index s.bytes (a - s.at)) (initial_memory more a) (λ z. z < 2 ^ 8)
    (λ e. small_at s.bytes (a - s.at) (All-head Bytes s more h))
    (λ e. memory_small more a (All-tail Bytes s more h))

-- ---- the image

module _ (p : ProgramData) (t : Tac) (heap stack : ℕ) (fits : Fits p t) where
  abbrev pub text : List ℕ
  text = text_of_program p (code_of t) stack

  abbrev pub globals : List ℕ
  globals = data_of_program p (code_of t) (places_of (code_of t) (object_places p)) (end_of_room heap_address heap)

  abbrev pub segments : List Segment
  segments = (image_of p (code_of t) heap stack).segments

  -- the stack and the heap, which are zero
  abbrev rooms : List Segment
  rooms = room_segment stack_address stack ∷ room_segment heap_address heap ∷ []

  behind_text : (a : ℕ) → data_place ≤ a → initial_memory segments a ≡ initial_memory (full_segment data_place 6 globals ∷ rooms) a
  behind_text a le =
      past_segment (full_segment 0x10000 5 text) (full_segment data_place 6 globals ∷ rooms) a (inr (let h = fits.text stack in omega arith))

  pub data_is : (j : ℕ) → j < length globals → initial_memory segments (data_place + j) ≡ slice_index globals j
  data_is j lt =
      let e : data_place + j - data_place ≡ j = omega arith in
      behind_text (data_place + j) (omega arith)
      ∙ in_segment (full_segment data_place 6 globals) rooms (data_place + j) (omega arith) (omega arith)
      ∙ ap (slice_index globals) e

  rooms_zero : (a : ℕ) → initial_memory rooms a ≡ 0
  rooms_zero a =
      cond_both (is_in (room_segment stack_address stack) a) 0 _ (λ z. z ≡ 0) (λ e. refl)
      (λ e. cond_both (is_in (room_segment heap_address heap) a) 0 0 (λ z. z ≡ 0) (λ d. refl) (λ d. refl))

  pub zero_behind : (a : ℕ) → data_place + length globals ≤ a → initial_memory segments a ≡ 0
  zero_behind a le =
      behind_text a (omega arith) ∙ past_segment (full_segment data_place 6 globals) rooms a (inr le) ∙ rooms_zero a
