-- Runs: how far bytes of one class go at the front of a text.
use Rattle.std.proofs.Common.{◌≡◌, ℕ, zero, suc, ◌+◌, ◌≤◌, ◌<◌, Bool, true, false, IsTrue, List, [], ◌∷◌, ◌++◌, length, take, drop, refl, ap, ◌∙◌}
use Rattle.std.proofs.Common.{arith, one-add, add-one}
use Rattle.std.specs.Prelude.{◌==◌}
use Rattle.std.specs.List.{All, prefix_len}
use Rattle.std.proofs.lemmas.Bool.{cond_both, eqb-true}
use Rattle.std.proofs.lemmas.List.Elements.{All-nil, All-cons, All-head, All-tail}
use Rattle.std.proofs.Math.Seq.{take-append_seam, drop-append_seam}
use Rattle.c_tokens.specs.Characters.{begins}

-- bytes of the class, before what does not begin with one
pub run_read : (p : ℕ → Bool) (front rest : List ℕ) → All (λ b. IsTrue (p b)) front → begins p rest ≡ false → prefix_len p (front ++ rest) ≡ length front
run_read p [] [] each stops = refl
run_read p [] (b ∷ rest) each stops = rw stops refl
run_read p (b ∷ front) rest each stops =
    rw (All-head (λ b. IsTrue (p b)) b front each, run_read p front rest (All-tail (λ b. IsTrue (p b)) b front each) stops) (one-add (length front))

-- where no such byte begins
pub no_run : (p : ℕ → Bool) (rest : List ℕ) → begins p rest ≡ false → prefix_len p rest ≡ 0
no_run p rest stops = run_read p [] rest (All-nil (λ b. IsTrue (p b))) stops

-- the bytes at the front, as far as the class goes, and the others
pub record Run (p : ℕ → Bool) (bytes : List ℕ) : Type 0 where
  pub front : List ℕ
  pub rest : List ℕ
  pub is : bytes ≡ front ++ rest
  pub each : All (λ b. IsTrue (p b)) front
  pub stops : begins p rest ≡ false
  pub size : prefix_len p bytes ≡ length front

-- one byte more
run_more : (p : ℕ → Bool) (b : ℕ) (bytes : List ℕ) → p b ≡ true → Run p bytes → Run p (b ∷ bytes)
run_more p b bytes h r = record {
  front = b ∷ r.front;
  rest = r.rest;
  is = ap (λ l. b ∷ l) r.is;
  each = All-cons (λ b. IsTrue (p b)) b r.front h r.each;
  stops = r.stops;
  size = rw (h, r.size) (one-add (length r.front));
}

-- every text has such a run
pub run_taken : (p : ℕ → Bool) (bytes : List ℕ) → Run p bytes
run_taken p [] = record { front = []; rest = []; is = refl; each = All-nil (λ b. IsTrue (p b)); stops = refl; size = refl }
run_taken p (b ∷ bytes) =
    let P : Bool → Type 0 = λ c. p b ≡ c → Run p (b ∷ bytes) in
    let goes_on : P true = λ h. run_more p b bytes h (run_taken p bytes) in
    let ends : P false = λ h. record { front = []; rest = b ∷ bytes; is = refl; each = All-nil (λ b. IsTrue (p b)); stops = h; size = rw h refl } in
    let each : (c : Bool) → P c = λ c. elim c as P [ true ↦ goes_on | false ↦ ends ] in
    each (p b) refl

-- so many bytes are the front, and the others are the rest
pub run_front : (p : ℕ → Bool) (bytes : List ℕ) (r : Run p bytes) → take (prefix_len p bytes) bytes ≡ r.front
run_front p bytes r = ap (λ n. take n bytes) r.size ∙ ap (take (length r.front)) r.is ∙ take-append_seam r.front r.rest

pub run_rest : (p : ℕ → Bool) (bytes : List ℕ) (r : Run p bytes) → drop (prefix_len p bytes) bytes ≡ r.rest
run_rest p bytes r = ap (λ n. drop n bytes) r.size ∙ ap (drop (length r.front)) r.is ∙ drop-append_seam r.front r.rest

-- ---- fronts of runs

module _ (p : ℕ → Bool) where
  -- it is no shorter than such bytes in front
  pub run_reaches : (run rest : List ℕ) → All (λ b. IsTrue (p b)) run → length run ≤ prefix_len p (run ++ rest)
  run_reaches [] rest each = omega arith
  run_reaches (b ∷ run) rest each =
      rw (All-head (λ b. IsTrue (p b)) b run each) (omega (arith, run_reaches run rest (All-tail (λ b. IsTrue (p b)) b run each)))

  -- its bytes are such bytes, and so are those of a front of it
  pub run_each : (n : ℕ) (bytes : List ℕ) → n ≤ prefix_len p bytes → All (λ b. IsTrue (p b)) (take n bytes)
  run_each zero bytes h = All-nil (λ b. IsTrue (p b))
  run_each (suc n) [] h = All-nil (λ b. IsTrue (p b))
  run_each (suc n) (b ∷ bytes) h =
      cond_both (p b) (1 + prefix_len p bytes) 0 (λ m. suc n ≤ m → All (λ b. IsTrue (p b)) (b ∷ take n bytes))
      (λ e l. All-cons (λ b. IsTrue (p b)) b (take n bytes) e (run_each n bytes (omega (arith, l))))
      (λ e l. absurd (omega (arith, l))) h

  -- no such byte stands after it
  pub run_stops : (bytes : List ℕ) → begins p (drop (prefix_len p bytes) bytes) ≡ false
  run_stops [] = refl
  run_stops (b ∷ bytes) =
      cond_both (p b) (1 + prefix_len p bytes) 0 (λ n. begins p (drop n (b ∷ bytes)) ≡ false)
      (λ _. rw one-add (run_stops bytes))
      (λ h. h)

  -- where such a byte is first, the run has it
  pub run_begins : (q : ℕ → Bool) (bytes : List ℕ) → begins p bytes ≡ true → begins q bytes ≡ true → begins q (take (prefix_len p bytes) bytes) ≡ true
  run_begins q [] h k = k
  run_begins q (b ∷ bytes) h k = rw (h, one-add (prefix_len p bytes)) k

  -- a run of some length begins with such a byte
  pub run_some : (bytes : List ℕ) → 0 < prefix_len p bytes → begins p bytes ≡ true
  run_some [] h = absurd (omega (arith, h))
  run_some (b ∷ bytes) h = cond_both (p b) (1 + prefix_len p bytes) 0 (λ n. 0 < n → p b ≡ true) (λ e _. e) (λ _ l. absurd (omega (arith, l))) h

-- ---- the first byte

-- what begins the front begins the whole
pub begins_whole : (p : ℕ → Bool) (front rest : List ℕ) → begins p front ≡ true → begins p (front ++ rest) ≡ true
begins_whole p [] rest h = cc
begins_whole p (b ∷ front) rest h = h

-- what begins the whole begins the front, where it does not begin the rest
pub begins_front : (p : ℕ → Bool) (front rest : List ℕ) → begins p (front ++ rest) ≡ true → begins p rest ≡ false → begins p front ≡ true
begins_front p [] rest h stops = cc
begins_front p (b ∷ front) rest h stops = h

-- where one class begins, another does not
pub begins_other : (p q : ℕ → Bool) (bytes : List ℕ) → ((b : ℕ) → p b ≡ true → q b ≡ false) → begins p bytes ≡ true → begins q bytes ≡ false
begins_other p q [] apart h = cc
begins_other p q (b ∷ bytes) apart h = apart b h

-- the byte that begins
pub begins_byte : (c : ℕ) (bytes : List ℕ) → begins (λ b. b == c) bytes ≡ true → (rest : List ℕ) × (bytes ≡ c ∷ rest)
begins_byte c [] h = cc
begins_byte c (b ∷ bytes) h = (bytes, ap (λ x. x ∷ bytes) (eqb-true b c h))

drop_next : (front rest : List ℕ) (c : ℕ) → drop (suc (length front)) (front ++ c ∷ rest) ≡ rest
drop_next [] rest c = refl
drop_next (b ∷ front) rest c = drop_next front rest c

-- after a front and one byte more
pub drop_after : (front rest : List ℕ) (c : ℕ) → drop (length front + 1) (front ++ c ∷ rest) ≡ rest
drop_after front rest c = ap (λ n. drop n (front ++ c ∷ rest)) (add-one (length front)) ∙ drop_next front rest c
