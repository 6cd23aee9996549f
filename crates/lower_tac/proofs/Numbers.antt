-- The numbers of parameters, one after the other.
use Rattle.std.proofs.Common.{◌≡◌, ◌+◌, ◌++◌, ℕ, zero, suc, [], ◌∷◌, ap, sym, ◌∙◌, add-one, arith}
use Rattle.c_meaning.specs.Run.{numbers, numbers_from}

further : (k n : ℕ) → numbers_from k n ++ (k + n) ∷ [] ≡ numbers_from k (suc n)
further k zero = ap (λ (x : ℕ). x ∷ []) (omega arith)
further k (suc n) = ap (λ (x : ℕ). k ∷ numbers_from (k + 1) n ++ x ∷ []) (omega arith) ∙ ap (◌∷◌ k) (further (k + 1) n)

pub one_further : (n m : ℕ) → m ≡ n + 1 → numbers m ≡ numbers n ++ n ∷ []
one_further n m e = rw (e, add-one) (sym (further 0 n) ∙ ap (λ (x : ℕ). numbers n ++ x ∷ []) (omega arith))
