-- What stores leave in memory.
use Rattle.std.proofs.Common.{◌≡◌, ℕ, zero, suc, ◌+◌, ◌/◌, ◌%◌, ◌^◌, ◌<◌, ◌≤◌, Bool, true, cond, List, length, refl, sym, ap, ◌∙◌, arith, slice_set, length-set}
use Rattle.std.specs.Global.{Vec}
use Rattle.std.proofs.lemmas.Bool.{and_parts}
use Rattle.rv_isa.specs.declared.image.Segment.{Segment}
use Rattle.rv_isa.specs.Memory.{Memory as Content, is_mapped, are_mapped, writable, with_byte, with_half, with_word}
use Rattle.rv_machine.specs.declared.rows.Row.{Row}
use Rattle.rv_machine.specs.declared.memory.Memory.{Memory}
use Rattle.rv_machine.specs.Rows.{segments_of, memory_of, AreSound, IsFound, half_put, word_put}
use Rattle.rv_machine.specs.View.{segments_in, content_of, IsKept}
use Rattle.rv_machine.proofs.Places.{byte_stored_in}

-- ---- at a place that was found

module _ (rows : List Row) (bytes : List ℕ) (flag a n place : ℕ) (sound : AreSound rows (length bytes))
    (found : IsFound rows (length bytes) flag a n place) where
  -- the first byte
  first_stored : (b v : ℕ) → 0 < n → b ≡ v % 2 ^ 8 → memory_of rows (slice_set bytes place b) ≡ with_byte (memory_of rows bytes) a v
  first_stored b v lt same =
      let e : place + 0 ≡ place = omega arith in
      let f : a + 0 ≡ a = omega arith in
      let h = byte_stored_in rows bytes (length bytes) flag a n place 0 b v sound found (omega arith) lt same in
      ap (λ (p : ℕ). memory_of rows (slice_set bytes p b)) (sym e) ∙ h ∙ ap (λ (x : ℕ). with_byte (memory_of rows bytes) x v) f

  -- a byte after bytes that are stored
  next_stored : (now : List ℕ) (k b v : ℕ) → length bytes ≤ length now → k < n → b ≡ v % 2 ^ 8
      → memory_of rows (slice_set now (place + k) b) ≡ with_byte (memory_of rows now) (a + k) v
  next_stored now k b v le lt same = byte_stored_in rows now (length bytes) flag a n place k b v sound found le lt same

  half_stored_here : (v : ℕ) → 2 ≤ n → memory_of rows (half_put bytes place v) ≡ with_half (memory_of rows bytes) a v
  half_stored_here v le =
      let one : List ℕ = slice_set bytes place (v % 2 ^ 8) in
      let s : length one ≡ length bytes = length-set bytes place (v % 2 ^ 8) in
      next_stored one 1 (v / 2 ^ 8 % 2 ^ 8) (v / 2 ^ 8) (omega arith) (omega arith) refl
      ∙ ap (λ (m : Content). with_byte m (a + 1) (v / 2 ^ 8)) (first_stored (v % 2 ^ 8) v (omega arith) refl)

  word_stored_here : (v : ℕ) → v < 2 ^ 32 → 4 ≤ n → memory_of rows (word_put bytes place v) ≡ with_word (memory_of rows bytes) a v
  word_stored_here v fits le =
      let two : List ℕ = half_put bytes place v in
      let s2 : length two ≡ length bytes = length-set (slice_set bytes place (v % 2 ^ 8)) (place + 1) (v / 2 ^ 8 % 2 ^ 8)
      ∙ length-set bytes place (v % 2 ^ 8) in
      let three : List ℕ = slice_set two (place + 2) (v / 2 ^ 16 % 2 ^ 8) in
      let s3 : length three ≡ length bytes = length-set two (place + 2) (v / 2 ^ 16 % 2 ^ 8) ∙ s2 in
      next_stored three 3 (v / 2 ^ 24) (v / 2 ^ 24) (omega arith) (omega arith) (omega arith)
      ∙ ap (λ (m : Content). with_byte m (a + 3) (v / 2 ^ 24))
      (next_stored two 2 (v / 2 ^ 16 % 2 ^ 8) (v / 2 ^ 16) (omega arith) (omega arith) refl
      ∙ ap (λ (m : Content). with_byte m (a + 2) (v / 2 ^ 16)) (half_stored_here v (omega arith)))

-- the same where the place was found in memory as it was before
pub kept_content : (old new : Memory) → IsKept old new → content_of new ≡ content_of old
kept_content old new k = ap (λ (v : Vec Row). memory_of v.items new.bytes.items) k.rows ∙ ap (λ (v : Vec ℕ). memory_of old.rows.items v.items) k.bytes

pub half_stored : (old new : Memory) (flag a place v : ℕ) (before after : List ℕ) → IsKept old new
    → IsFound new.rows.items (length new.bytes.items) flag a 2 place → before ≡ new.bytes.items → after ≡ half_put before place v
    → memory_of new.rows.items after ≡ with_half (content_of old) a v
half_stored old new flag a place v before after kept found same put =
    ap (memory_of new.rows.items) (put ∙ ap (λ (bs : List ℕ). half_put bs place v) same)
    ∙ half_stored_here new.rows.items new.bytes.items flag a 2 place new.sound found v (omega arith)
    ∙ ap (λ (m : Content). with_half m a v) (kept_content old new kept)

pub word_stored : (old new : Memory) (flag a place v : ℕ) (before after : List ℕ) → v < 2 ^ 32 → IsKept old new
    → IsFound new.rows.items (length new.bytes.items) flag a 4 place → before ≡ new.bytes.items → after ≡ word_put before place v
    → memory_of new.rows.items after ≡ with_word (content_of old) a v
word_stored old new flag a place v before after fits kept found same put =
    ap (memory_of new.rows.items) (put ∙ ap (λ (bs : List ℕ). word_put bs place v) same)
    ∙ word_stored_here new.rows.items new.bytes.items flag a 4 place new.sound found v fits (omega arith)
    ∙ ap (λ (m : Content). with_word m a v) (kept_content old new kept)

pub byte_put : (m : Memory) (flag a place v : ℕ) → IsFound m.rows.items (length m.bytes.items) flag a 1 place
    → memory_of m.rows.items (slice_set m.bytes.items place (v % 256)) ≡ with_byte (content_of m) a v
byte_put m flag a place v found = first_stored m.rows.items m.bytes.items flag a 1 place m.sound found (v % 256) v (omega arith) refl

-- ---- byte by byte

-- each byte of a range that is mapped
pub mapped_at : (segments : List Segment) (flag a n : ℕ) → are_mapped segments flag a n ≡ true → (k : ℕ) → k < n → is_mapped segments flag (a + k) ≡ true
unfolding are_mapped
mapped_at segments flag a zero all k lt = absurd (omega arith)
mapped_at segments flag a (suc n) all zero lt =
    let p = and_parts (is_mapped segments flag a) (are_mapped segments flag (a + 1) n) all in
    let e : a + 0 ≡ a = omega arith in
    rw e p.0
mapped_at segments flag a (suc n) all (suc k) lt =
    let p = and_parts (is_mapped segments flag a) (are_mapped segments flag (a + 1) n) all in
    let e : a + suc k ≡ a + 1 + k = omega arith in
    rw e (mapped_at segments flag (a + 1) n p.1 k (omega arith))

-- what a call that stores one byte says, in a memory with the same rows as the first
record Puts (first old new : Memory) (a v : ℕ) : Type 0 where
  same : old.rows ≡ first.rows
  rows : new.rows ≡ old.rows
  done : Bool
  mapped : done ≡ is_mapped (segments_in old) writable a
  content : content_of new ≡ cond done (with_byte (content_of old) a v) (content_of old)

puts_done : (first old new : Memory) (a v : ℕ) → is_mapped (segments_in first) writable a ≡ true → Puts first old new a v
    → content_of new ≡ with_byte (content_of old) a v
puts_done first old new a v m p =
    let t : p.done ≡ true = p.mapped ∙ ap (λ (rows : Vec Row). is_mapped (segments_of rows.items) writable a) p.same ∙ m in
    p.content ∙ ap (λ (b : Bool). cond b (with_byte (content_of old) a v) (content_of old)) t

pub half_apart : (m0 m1 m2 : Memory) (a v : ℕ) (d1 d2 : Bool) → are_mapped (segments_in m0) writable a 2 ≡ true
    → m1.rows ≡ m0.rows → d1 ≡ is_mapped (segments_in m0) writable a → content_of m1 ≡ cond d1 (with_byte (content_of m0) a v) (content_of m0)
    → m2.rows ≡ m1.rows → d2 ≡ is_mapped (segments_in m1) writable (a + 1)
    → content_of m2 ≡ cond d2 (with_byte (content_of m1) (a + 1) (v / 2 ^ 8)) (content_of m1)
    → content_of m2 ≡ with_half (content_of m0) a v
half_apart m0 m1 m2 a v d1 d2 all r1 t1 c1 r2 t2 c2 =
    let e : a + 0 ≡ a = omega arith in
    let a0 : is_mapped (segments_in m0) writable a ≡ true = rw e at (mapped_at (segments_in m0) writable a 2 all 0 (omega arith)) in
    let a1 = mapped_at (segments_in m0) writable a 2 all 1 (omega arith) in
    let h1 = puts_done m0 m0 m1 a v a0 (record { same = refl; rows = r1; done = d1; mapped = t1; content = c1 }) in
    let h2 = puts_done m0 m1 m2 (a + 1) (v / 2 ^ 8) a1 (record { same = r1; rows = r2; done = d2; mapped = t2; content = c2 }) in
    h2 ∙ ap (λ (m : Content). with_byte m (a + 1) (v / 2 ^ 8)) h1

pub word_apart : (m0 m1 m2 m3 m4 : Memory) (a v : ℕ) (d1 d2 d3 d4 : Bool) → are_mapped (segments_in m0) writable a 4 ≡ true
    → m1.rows ≡ m0.rows → d1 ≡ is_mapped (segments_in m0) writable a → content_of m1 ≡ cond d1 (with_byte (content_of m0) a v) (content_of m0)
    → m2.rows ≡ m1.rows → d2 ≡ is_mapped (segments_in m1) writable (a + 1)
    → content_of m2 ≡ cond d2 (with_byte (content_of m1) (a + 1) (v / 2 ^ 8)) (content_of m1)
    → m3.rows ≡ m2.rows → d3 ≡ is_mapped (segments_in m2) writable (a + 2)
    → content_of m3 ≡ cond d3 (with_byte (content_of m2) (a + 2) (v / 2 ^ 16)) (content_of m2)
    → m4.rows ≡ m3.rows → d4 ≡ is_mapped (segments_in m3) writable (a + 3)
    → content_of m4 ≡ cond d4 (with_byte (content_of m3) (a + 3) (v / 2 ^ 24)) (content_of m3)
    → content_of m4 ≡ with_word (content_of m0) a v
word_apart m0 m1 m2 m3 m4 a v d1 d2 d3 d4 all r1 t1 c1 r2 t2 c2 r3 t3 c3 r4 t4 c4 =
    let e : a + 0 ≡ a = omega arith in
    let a0 : is_mapped (segments_in m0) writable a ≡ true = rw e at (mapped_at (segments_in m0) writable a 4 all 0 (omega arith)) in
    let a1 = mapped_at (segments_in m0) writable a 4 all 1 (omega arith) in
    let a2 = mapped_at (segments_in m0) writable a 4 all 2 (omega arith) in
    let a3 = mapped_at (segments_in m0) writable a 4 all 3 (omega arith) in
    let h1 = puts_done m0 m0 m1 a v a0 (record { same = refl; rows = r1; done = d1; mapped = t1; content = c1 }) in
    let h2 = puts_done m0 m1 m2 (a + 1) (v / 2 ^ 8) a1 (record { same = r1; rows = r2; done = d2; mapped = t2; content = c2 }) in
    let h3 = puts_done m0 m2 m3 (a + 2) (v / 2 ^ 16) a2 (record { same = r2 ∙ r1; rows = r3; done = d3; mapped = t3; content = c3 }) in
    let h4 = puts_done m0 m3 m4 (a + 3) (v / 2 ^ 24) a3 (record { same = r3 ∙ r2 ∙ r1; rows = r4; done = d4; mapped = t4; content = c4 }) in
    h4
    ∙ ap (λ (m : Content). with_byte m (a + 3) (v / 2 ^ 24))
    (h3 ∙ ap (λ (m : Content). with_byte m (a + 2) (v / 2 ^ 16)) (h2 ∙ ap (λ (m : Content). with_byte m (a + 1) (v / 2 ^ 8)) h1))
