-- Words, halves and bytes in memory.
use Rattle.std.proofs.Common.{◌≡◌, ℕ, ◌+◌, ◌*◌, ◌/◌, ◌%◌, ◌^◌, ◌<◌, ◌≤◌, ◌≢◌, ◌⊎◌, inl, inr, Bool, cond, ◌&&◌, leb, ltb, List, [], ◌∷◌, length, slice_index, ◌-◌, refl, ap, ◌∙◌, eq-eqb, ne_eqb, le-leb, lt-ltb, le-ltb, arith}
use Rattle.std.proofs.lemmas.Bool.{cases_eq, cond_both, and_right, lt-leb}
use Rattle.rv_isa.specs.Memory.{Memory, half_at, word_at, with_byte, with_half, with_word, bytes_at, with_bytes}
use Rattle.rv_runtime.specs.Steps.States.{Keeps, code_end}

pub with_byte_same : (memory : Memory) (a v : ℕ) → with_byte memory a v a ≡ v % 2 ^ 8
with_byte_same memory a v = rw (eq-eqb a a refl) refl

pub with_byte_other : (memory : Memory) (a v b : ℕ) → b ≢ a → with_byte memory a v b ≡ memory b
with_byte_other memory a v b ne = rw (ne_eqb b a ne) refl

-- a byte that is stored is a byte
pub with_byte_fits : (memory : Memory) (a v b : ℕ) → ((c : ℕ) → memory c < 2 ^ 8) → with_byte memory a v b < 2 ^ 8
with_byte_fits memory a v b fits = elim (cases_eq b a) [
  | inl e ↦ rw e (rw (with_byte_same memory a v) (omega arith))
  | inr ne ↦ rw (with_byte_other memory a v b ne) (fits b)
]

module _ (memory : Memory) (a v : ℕ) where
  abbrev one : Memory
  one = with_byte memory a v

  abbrev two : Memory
  two = with_byte one (a + 1) (v / 2 ^ 8)

  abbrev three : Memory
  three = with_byte two (a + 2) (v / 2 ^ 16)

  pub with_word_other : (b : ℕ) → b ≢ a → b ≢ a + 1 → b ≢ a + 2 → b ≢ a + 3 → with_word memory a v b ≡ memory b
  with_word_other b n0 n1 n2 n3 = with_byte_other three (a + 3) (v / 2 ^ 24) b n3 ∙ with_byte_other two (a + 2) (v / 2 ^ 16) b n2
      ∙ with_byte_other one (a + 1) (v / 2 ^ 8) b n1 ∙ with_byte_other memory a v b n0

  pub byte_0 : with_word memory a v a ≡ v % 2 ^ 8
  byte_0 = with_byte_other three (a + 3) (v / 2 ^ 24) a (λ e. omega arith) ∙ with_byte_other two (a + 2) (v / 2 ^ 16) a (λ e. omega arith)
      ∙ with_byte_other one (a + 1) (v / 2 ^ 8) a (λ e. omega arith) ∙ with_byte_same memory a v

  pub byte_1 : with_word memory a v (a + 1) ≡ v / 2 ^ 8 % 2 ^ 8
  byte_1 = with_byte_other three (a + 3) (v / 2 ^ 24) (a + 1) (λ e. omega arith) ∙ with_byte_other two (a + 2) (v / 2 ^ 16) (a + 1) (λ e. omega arith)
      ∙ with_byte_same one (a + 1) (v / 2 ^ 8)

  pub byte_2 : with_word memory a v (a + 2) ≡ v / 2 ^ 16 % 2 ^ 8
  byte_2 = with_byte_other three (a + 3) (v / 2 ^ 24) (a + 2) (λ e. omega arith) ∙ with_byte_same two (a + 2) (v / 2 ^ 16)

  pub byte_3 : with_word memory a v (a + 3) ≡ v / 2 ^ 24 % 2 ^ 8
  byte_3 = with_byte_same three (a + 3) (v / 2 ^ 24)

  pub with_word_fits : ((c : ℕ) → memory c < 2 ^ 8) → (b : ℕ) → with_word memory a v b < 2 ^ 8
  with_word_fits fits b =
      with_byte_fits three (a + 3) (v / 2 ^ 24) b λ c. with_byte_fits two (a + 2) (v / 2 ^ 16) c
      λ d. with_byte_fits one (a + 1) (v / 2 ^ 8) d λ e. with_byte_fits memory a v e fits

joined_again : (v b0 b1 b2 b3 : ℕ) → v < 2 ^ 32 → b0 ≡ v % 2 ^ 8 → b1 ≡ v / 2 ^ 8 % 2 ^ 8 → b2 ≡ v / 2 ^ 16 % 2 ^ 8 → b3 ≡ v / 2 ^ 24 % 2 ^ 8
    → b0 + 2 ^ 8 * b1 + 2 ^ 16 * b2 + 2 ^ 24 * b3 ≡ v
joined_again v b0 b1 b2 b3 lt e0 e1 e2 e3 = omega arith

pub word_again : (memory : Memory) (a v : ℕ) → v < 2 ^ 32 → word_at (with_word memory a v) a ≡ v
word_again memory a v lt = joined_again v _ _ _ _ lt (byte_0 memory a v) (byte_1 memory a v) (byte_2 memory a v) (byte_3 memory a v)

same_word : (b0 b1 b2 b3 c0 c1 c2 c3 : ℕ) → b0 ≡ c0 → b1 ≡ c1 → b2 ≡ c2 → b3 ≡ c3
    → b0 + 2 ^ 8 * b1 + 2 ^ 16 * b2 + 2 ^ 24 * b3 ≡ c0 + 2 ^ 8 * c1 + 2 ^ 16 * c2 + 2 ^ 24 * c3
same_word b0 b1 b2 b3 c0 c1 c2 c3 e0 e1 e2 e3 = cc

-- the same four bytes are the same word
pub word_same : (m n : Memory) (a : ℕ) → ((k : ℕ) → k < 4 → n (a + k) ≡ m (a + k)) → word_at n a ≡ word_at m a
word_same m n a h =
    let z : a + 0 ≡ a = omega arith in
    same_word _ _ _ _ _ _ _ _ (rw z at (h 0 (omega arith))) (h 1 (omega arith)) (h 2 (omega arith)) (h 3 (omega arith))

-- another word than the one that is stored
pub word_apart : (memory : Memory) (a v b : ℕ) → (b + 4 ≤ a) ⊎ (a + 4 ≤ b) → word_at (with_word memory a v) b ≡ word_at memory b
word_apart memory a v b apart =
    word_same memory (with_word memory a v) b (λ k lt. with_word_other memory a v (b + k) (λ e. omega arith) (λ e. omega arith) (λ e. omega arith) (λ e. omega arith))

pub word_fits : (memory : Memory) (a : ℕ) → ((c : ℕ) → memory c < 2 ^ 8) → word_at memory a < 2 ^ 32
word_fits memory a fits = omega (arith, fits a, fits (a + 1), fits (a + 2), fits (a + 3))

-- a store above the text keeps it
pub keeps_word : (text memory : Memory) (a v : ℕ) → Keeps text memory → code_end ≤ a → Keeps text (with_word memory a v)
keeps_word text memory a v keeps le = record {
  same = λ b lt. with_word_other memory a v b (λ e. omega arith) (λ e. omega arith) (λ e. omega arith) (λ e. omega arith) ∙ keeps.same b lt;
  bytes = with_word_fits memory a v keeps.bytes;
}

-- ---- bytes and halves

pub keeps_byte : (text memory : Memory) (a v : ℕ) → Keeps text memory → code_end ≤ a → Keeps text (with_byte memory a v)
keeps_byte text memory a v keeps le = record {
  same = λ b lt. with_byte_other memory a v b (λ e. omega arith) ∙ keeps.same b lt;
  bytes = λ b. with_byte_fits memory a v b keeps.bytes;
}

pub keeps_half : (text memory : Memory) (a v : ℕ) → Keeps text memory → code_end ≤ a → Keeps text (with_half memory a v)
keeps_half text memory a v keeps le =
    keeps_byte text (with_byte memory a v) (a + 1) (v / 2 ^ 8) (keeps_byte text memory a v keeps le) (omega arith)

pub half_other : (memory : Memory) (a v b : ℕ) → b ≢ a → b ≢ a + 1 → with_half memory a v b ≡ memory b
half_other memory a v b n0 n1 = with_byte_other (with_byte memory a v) (a + 1) (v / 2 ^ 8) b n1 ∙ with_byte_other memory a v b n0

joined_half : (v b0 b1 : ℕ) → b0 ≡ v % 2 ^ 8 → b1 ≡ v / 2 ^ 8 % 2 ^ 8 → b0 + 2 ^ 8 * b1 ≡ v % 2 ^ 16
joined_half v b0 b1 e0 e1 = omega arith

-- the low half of what was stored is loaded again
pub half_again : (memory : Memory) (a v : ℕ) → half_at (with_half memory a v) a ≡ v % 2 ^ 16
half_again memory a v =
    joined_half v _ _ (with_byte_other (with_byte memory a v) (a + 1) (v / 2 ^ 8) a (λ e. omega arith) ∙ with_byte_same memory a v)
    (with_byte_same (with_byte memory a v) (a + 1) (v / 2 ^ 8))

pub half_fits : (memory : Memory) (a : ℕ) → ((c : ℕ) → memory c < 2 ^ 8) → half_at memory a < 2 ^ 16
half_fits memory a fits = omega (arith, fits a, fits (a + 1))

-- ---- lists of bytes

-- the one byte from an address on
pub bytes_at_one : (memory : Memory) (a : ℕ) → bytes_at memory a 1 ≡ memory a ∷ []
unfolding bytes_at
bytes_at_one memory a = refl

module _ (memory : Memory) (a : ℕ) (bytes : List ℕ) where
  pub with_bytes_inside : (i : ℕ) → i < length bytes → with_bytes memory a bytes (a + i) ≡ slice_index bytes i
  with_bytes_inside i lt =
      let e : a + i - a ≡ i = omega arith in
      rw (le-leb a (a + i) (omega arith), lt-ltb (a + i) (a + length bytes) (omega arith)) (ap (slice_index bytes) e)

  pub with_bytes_outside : (b : ℕ) → (b < a) ⊎ (a + length bytes ≤ b) → with_bytes memory a bytes b ≡ memory b
  with_bytes_outside b (inl lt) = rw (lt-leb a b lt) refl
  with_bytes_outside b (inr ge) = ap (λ (x : Bool). cond x (slice_index bytes (b - a)) (memory b)) (and_right (leb a b) _ (le-ltb b (a + length bytes) ge))

  -- bytes that are read into memory above the text keep it
  pub keeps_bytes : (text : Memory) → Keeps text memory → code_end ≤ a → ((i : ℕ) → slice_index bytes i < 2 ^ 8) → Keeps text (with_bytes memory a bytes)
  keeps_bytes text keeps le small = record {
    same = λ b lt. with_bytes_outside b (inl (omega arith)) ∙ keeps.same b lt;
    bytes = λ b.
        cond_both (leb a b && ltb b (a + length bytes)) (slice_index bytes (b - a)) (memory b) (λ (z : ℕ). z < 2 ^ 8) (λ e. small (b - a)) (λ e. keeps.bytes b);
  }
