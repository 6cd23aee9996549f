-- Bytes of words, part by part.
use Rattle.std.proofs.Common.{◌≡◌, ℕ, List, [], ◌∷◌, ◌++◌, refl, ap, sym, ◌∙◌, append_assoc}
use Rattle.std.specs.Int.{w32, to_le_bytes}
use Rattle.rv_runtime.specs.Bytes.{bytes_of}

pub bytes_append : (a b : List ℕ) → bytes_of (a ++ b) ≡ bytes_of a ++ bytes_of b
bytes_append [] b = refl
bytes_append (w ∷ a) b = ap (λ (x : List ℕ). to_le_bytes w32 w ++ x) (bytes_append a b) ∙ sym (append_assoc (to_le_bytes w32 w) (bytes_of a) (bytes_of b))

-- ---- eight parts, added one after the other

onto : (a b p q : List ℕ) → b ≡ a ++ p → b ++ q ≡ a ++ (p ++ q)
onto a b p q e = ap (λ (x : List ℕ). x ++ q) e ∙ append_assoc a p q

pub eight_parts : (b1 b2 b3 b4 b5 b6 b7 b8 p1 p2 p3 p4 p5 p6 p7 p8 : List ℕ) → b1 ≡ p1 → b2 ≡ b1 ++ p2 → b3 ≡ b2 ++ p3 → b4 ≡ b3 ++ p4 → b5 ≡ b4 ++ p5
    → b6 ≡ b5 ++ p6 → b7 ≡ b6 ++ p7 → b8 ≡ b7 ++ p8 → b8 ≡ p1 ++ (p2 ++ (p3 ++ (p4 ++ (p5 ++ (p6 ++ (p7 ++ p8))))))
eight_parts b1 b2 b3 b4 b5 b6 b7 b8 p1 p2 p3 p4 p5 p6 p7 p8 e1 e2 e3 e4 e5 e6 e7 e8 =
    e8 ∙ onto b6 b7 p7 p8 e7 ∙ onto b5 b6 p6 (p7 ++ p8) e6 ∙ onto b4 b5 p5 (p6 ++ (p7 ++ p8)) e5 ∙ onto b3 b4 p4 (p5 ++ (p6 ++ (p7 ++ p8))) e4
    ∙ onto b2 b3 p3 (p4 ++ (p5 ++ (p6 ++ (p7 ++ p8)))) e3 ∙ onto b1 b2 p2 (p3 ++ (p4 ++ (p5 ++ (p6 ++ (p7 ++ p8))))) e2
    ∙ ap (λ (x : List ℕ). x ++ (p2 ++ (p3 ++ (p4 ++ (p5 ++ (p6 ++ (p7 ++ p8))))))) e1
