-- One more program header.
use Rattle.std.proofs.Common.{◌≡◌, ◌≢◌, ◌==◌, ℕ, zero, suc, ◌+◌, ◌*◌, ◌<◌, true, false, eq-eqb, ne_eqb, List, [], ◌∷◌, ◌++◌, length, take, filter}
use Rattle.std.proofs.Common.{refl, sym, ap, ◌∙◌, add-one, add-zero, arith}
use Rattle.std.proofs.lemmas.List.{take_all, append-nil, length-append}
use Rattle.std.proofs.lemmas.List.Elements.{filter-append}
use Rattle.elf32.specs.declared.header.ProgramHeader.{ProgramHeader}
use Rattle.elf32.specs.Header.{header_at, headers_from}

headers_more : (bytes : List ℕ) (at n : ℕ) → headers_from bytes at (suc n) ≡ headers_from bytes at n ++ header_at bytes (at + 32 * n) ∷ []
headers_more bytes at zero = rw add-zero refl
headers_more bytes at (suc n) =
    let moved : at + 32 + 32 * n ≡ at + 32 * suc n = omega arith in
    ap (λ hs. header_at bytes at ∷ hs) (headers_more bytes (at + 32) n)
    ∙ ap (λ (place : ℕ). header_at bytes at ∷ (headers_from bytes (at + 32) n ++ header_at bytes place ∷ [])) moved

-- the loadable ones of so many headers and one more
loadable_more : (bytes : List ℕ) (at n : ℕ) → filter (λ h. h.kind == 1) (headers_from bytes at (n + 1))
    ≡ filter (λ h. h.kind == 1) (headers_from bytes at n) ++ filter (λ h. h.kind == 1) (header_at bytes (at + 32 * n) ∷ [])
loadable_more bytes at n =
    let more : headers_from bytes at (n + 1) ≡ headers_from bytes at n ++ header_at bytes (at + 32 * n) ∷ [] = ap (headers_from bytes at) (add-one n)
    ∙ headers_more bytes at n in
    ap (filter (λ (h : ProgramHeader). h.kind == 1)) more
    ∙ filter-append (λ (h : ProgramHeader). h.kind == 1) (headers_from bytes at n) (header_at bytes (at + 32 * n) ∷ [])

-- which is one of them
pub loadable_taken : (bytes : List ℕ) (at n : ℕ) (h : ProgramHeader) → h ≡ header_at bytes (at + 32 * n) → h.kind ≡ 1
    → filter (λ h. h.kind == 1) (headers_from bytes at (n + 1)) ≡ filter (λ h. h.kind == 1) (headers_from bytes at n) ++ h ∷ []
loadable_taken bytes at n h is kind =
    let loads : ((header_at bytes (at + 32 * n)).kind == 1) ≡ true = eq-eqb _ 1 (ap (λ (h : ProgramHeader). h.kind) (sym is) ∙ kind) in
    loadable_more bytes at n ∙ ap (λ hs. filter (λ (h : ProgramHeader). h.kind == 1) (headers_from bytes at n) ++ hs) (rw loads (ap (λ h. h ∷ []) (sym is)))

-- or which is not
pub loadable_passed : (bytes : List ℕ) (at n : ℕ) (h : ProgramHeader) → h ≡ header_at bytes (at + 32 * n) → h.kind ≢ 1
    → filter (λ h. h.kind == 1) (headers_from bytes at (n + 1)) ≡ filter (λ h. h.kind == 1) (headers_from bytes at n)
loadable_passed bytes at n h is kind =
    let loads : ((header_at bytes (at + 32 * n)).kind == 1) ≡ false = ne_eqb _ 1 (λ e. kind (ap (λ (h : ProgramHeader). h.kind) is ∙ e)) in
    loadable_more bytes at n ∙ rw loads (append-nil _)

-- the first of a list with one element more
pub first_more : {A : Type 0} (most : ℕ) (xs : List A) (x : A) → length xs < most → take most (xs ++ x ∷ []) ≡ take most xs ++ x ∷ []
first_more most xs x lt =
    take_all most (xs ++ x ∷ []) (omega (arith, length-append xs (x ∷ []))) ∙ ap (λ ys. ys ++ x ∷ []) (sym (take_all most xs (omega arith)))
