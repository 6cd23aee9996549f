-- A token at an index is among the tokens.
use Rattle.std.proofs.Common.{◌≡◌, ◌<◌, ℕ, zero, suc, List, [], ◌∷◌, ◌++◌, length, get_or, ap, sym, arith}
use Rattle.c_tokens.specs.declared.token.Token.{Token}

pub token_found : (tokens : List Token) (i : ℕ) (token : Token) → i < length tokens → token ≡ get_or tokens i token
    → (before after : List Token) × (tokens ≡ before ++ token ∷ after)
token_found [] i token l h = absurd (omega (arith, l))
token_found (t ∷ tokens) zero token l h = ([], tokens, ap (λ x. x ∷ tokens) (sym h))
token_found (t ∷ tokens) (suc i) token l h = let r = token_found tokens i token (omega (arith, l)) h in (t ∷ r.0, r.1, ap (λ l. t ∷ l) r.2)
