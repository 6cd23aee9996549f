-- The parts of a file: their lengths, and where the bytes of text and data stand.
use Rattle.std.proofs.Common.{◌≡◌, ℕ, ◌+◌, List, [], ◌++◌, length, take, drop, refl, ap, ◌∙◌, append_assoc}
use Rattle.std.proofs.lemmas.List.{length-append, length-replicate, take_at, drop_at, append-nil}
use Rattle.rv_isa.specs.declared.image.Segment.{Segment}
use Rattle.elf32.specs.Written.{file_header, four_headers, zeros}

pub length-zeros : (n : ℕ) → length (zeros n) ≡ n
unfolding zeros
length-zeros n = length-replicate n 0

-- the file header has 52 bytes, and each of the four program headers has 32
pub length-file_header : (entry : ℕ) → length (file_header entry 4) ≡ 52
length-file_header entry = refl

pub length-four_headers : (text globals stack heap : Segment) → length (four_headers text globals stack heap) ≡ 128
length-four_headers text globals stack heap = refl

-- ---- lists joined from a file header, program headers, zeros, text, zeros and data

pub length-parts : (f p z t y d : List ℕ) → length (f ++ (p ++ (z ++ (t ++ (y ++ d)))))
    ≡ length f + (length p + (length z + (length t + (length y + length d))))
length-parts f p z t y d = simp length-append

slice_at : (front piece rest : List ℕ) (n : ℕ) → length front ≡ n → take (length piece) (drop n (front ++ (piece ++ rest))) ≡ piece
slice_at front piece rest n e = ap (take (length piece)) (drop_at front (piece ++ rest) n e) ∙ take_at piece rest (length piece) refl

pub text_part : (f p z t y d : List ℕ) (n : ℕ) → length f + (length p + length z) ≡ n → take (length t) (drop n (f ++ (p ++ (z ++ (t ++ (y ++ d)))))) ≡ t
text_part f p z t y d n e =
    let grouped : f ++ (p ++ (z ++ (t ++ (y ++ d)))) ≡ (f ++ (p ++ z)) ++ (t ++ (y ++ d)) = simp append_assoc in
    let len : length (f ++ (p ++ z)) ≡ n = simp length-append e in
    ap (λ (bytes : List ℕ). take (length t) (drop n bytes)) grouped ∙ slice_at (f ++ (p ++ z)) t (y ++ d) n len

pub data_part : (f p z t y d : List ℕ) (n : ℕ) → length f + (length p + (length z + (length t + length y))) ≡ n
    → take (length d) (drop n (f ++ (p ++ (z ++ (t ++ (y ++ d)))))) ≡ d
data_part f p z t y d n e =
    let grouped : f ++ (p ++ (z ++ (t ++ (y ++ d)))) ≡ (f ++ (p ++ (z ++ (t ++ y)))) ++ (d ++ []) = simp (append_assoc, append-nil) in
    let len : length (f ++ (p ++ (z ++ (t ++ y)))) ≡ n = simp length-append e in
    ap (λ (bytes : List ℕ). take (length d) (drop n bytes)) grouped ∙ slice_at (f ++ (p ++ (z ++ (t ++ y)))) d [] n len

-- the same parts, appended one after the other
pub appended : (o f p q r s z t y d : List ℕ) → o ≡ []
    → ((((((((o ++ f) ++ p) ++ q) ++ r) ++ s) ++ z) ++ t) ++ y) ++ d ≡ f ++ ((p ++ (q ++ (r ++ s))) ++ (z ++ (t ++ (y ++ d))))
appended o f p q r s z t y d e = rw e (simp append_assoc)
