-- What stands between quotes is found up to the closing quote, exactly.
use Rattle.std.proofs.Common.{◌≡◌, ◌≢◌, ℕ, suc, ◌+◌, Bool, true, false, cond, List, [], ◌∷◌, ◌++◌, length, Option, Some, None, refl, sym, ap, subst}
use Rattle.std.proofs.Common.{◌∙◌, arith, add-one}
use Rattle.std.specs.Prelude.{option_map, ◌==◌}
use Rattle.std.proofs.lemmas.Bool.{ne_eqb, eq-eqb, eqb-true, eqb-false}
use Rattle.std.proofs.lemmas.Option.{same_Some}
use Rattle.c_tokens.specs.Quoted.{IsInside}
use Rattle.c_tokens.specs.QuotedScan.{quoted_length}

-- one byte more before the quote
longer : (n k : ℕ) (found : Option ℕ) → found ≡ Some (n + 1) → k ≡ n + 1 → option_map suc found ≡ Some (k + 1)
longer n k found h e = rw (h, e) (ap (λ m. Some m) (sym (add-one (n + 1))))

-- what stands inside is found up to a quote, after a backslash or not
pub quoted_read : (quote : ℕ) (escaped : Bool) (body rest : List ℕ) → quote ≢ 10 → IsInside quote escaped body
    → quoted_length quote escaped (body ++ quote ∷ rest) ≡ Some (length body + 1)
quoted_read quote true [] rest n h = cc
quoted_read quote false [] rest n h = rw (ne_eqb quote 10 n, eq-eqb quote quote refl) refl
quoted_read quote true (b ∷ body) rest n h =
    rw (ne_eqb b 10 h.0) (longer (length body) (length (b ∷ body)) _ (quoted_read quote false body rest n h.1) (omega arith))
quoted_read quote false (b ∷ body) rest n h =
    rw (ne_eqb b 10 h.0, ne_eqb b quote h.1) (longer (length body) (length (b ∷ body)) _ (quoted_read quote (b == 92) body rest n h.2) (omega arith))

-- bytes that stand inside, up to a quote
pub record Closed (quote : ℕ) (escaped : Bool) (bytes : List ℕ) (n : ℕ) : Type 0 where
  pub body : List ℕ
  pub rest : List ℕ
  pub is : bytes ≡ body ++ quote ∷ rest
  pub inside : IsInside quote escaped body
  pub size : n ≡ length body + 1

-- one byte more before them, which a backslash took along
closed_escaped : (quote b : ℕ) (bytes : List ℕ) (n : ℕ) → b ≢ 10 → Closed quote false bytes n → Closed quote true (b ∷ bytes) (suc n)
closed_escaped quote b bytes n line c = record {
  body = b ∷ c.body;
  rest = c.rest;
  is = ap (λ l. b ∷ l) c.is;
  inside = (line, c.inside);
  size =
      let e = c.size in omega (arith, e);
}

-- one byte more before them, a backslash or one that none took along
closed_more : (quote b : ℕ) (bytes : List ℕ) (n : ℕ) → b ≢ 10 → b ≢ quote → Closed quote (b == 92) bytes n → Closed quote false (b ∷ bytes) (suc n)
closed_more quote b bytes n line other c = record {
  body = b ∷ c.body;
  rest = c.rest;
  is = ap (λ l. b ∷ l) c.is;
  inside =
      (line, other, c.inside);
  size = let e = c.size in omega (arith, e);
}

-- how many bytes were counted after the first
pub counted : (found : Option ℕ) (n : ℕ) → option_map suc found ≡ Some n → (m : ℕ) × (found ≡ Some m) × (suc m ≡ n)
counted None n h = cc
counted (Some m) n h = (m, refl, same_Some (suc m) n h)

-- what is found stands inside
pub quoted_taken : (quote : ℕ) (escaped : Bool) (bytes : List ℕ) (n : ℕ) → quoted_length quote escaped bytes ≡ Some n → Closed quote escaped bytes n
quoted_taken quote escaped [] n h = cc
quoted_taken quote true (b ∷ bytes) n h =
    let P : Bool → Type 0 = λ c. (b == 10) ≡ c → cond c None (option_map suc (quoted_length quote false bytes)) ≡ Some n → Closed quote true (b ∷ bytes) n in
    let at_line : P true = λ e h. cc in
    let within : P false = λ e h.
    let m = counted (quoted_length quote false bytes) n h in
    subst (Closed quote true (b ∷ bytes)) m.2 (closed_escaped quote b bytes m.0 (eqb-false b 10 e) (quoted_taken quote false bytes m.0 m.1)) in
    let each : (c : Bool) → P c = λ c. elim c as P [ true ↦ at_line | false ↦ within ] in
    each (b == 10) refl h
quoted_taken quote false (b ∷ bytes) n h =
    let rest = option_map suc (quoted_length quote (b == 92) bytes) in
    let P : Bool → Bool → Type 0 = λ c d. (b == 10) ≡ c → (b == quote) ≡ d → cond c None (cond d (Some 1) rest) ≡ Some n → Closed quote false (b ∷ bytes) n in
    let at_line : (d : Bool) → P true d = λ d e f h. cc in
    let at_quote : P false true = λ e f h. record {
      body = [];
      rest = bytes;
      is = ap (λ c. c ∷ bytes) (eqb-true b quote f);
      inside = refl;
      size =
          sym (same_Some 1 n h);
    } in
    let within : P false false = λ e f h.
    let m = counted (quoted_length quote (b == 92) bytes) n h in
    subst (Closed quote false (b ∷ bytes)) m.2 (closed_more quote b bytes m.0 (eqb-false b 10 e) (eqb-false b quote f)
    (quoted_taken quote (b == 92) bytes m.0 m.1)) in
    let each : (c d : Bool) → P c d = λ c d. elim c as (λ x. P x d) [
      | true ↦ at_line d
      | false ↦ elim d as
          (λ y. P false y) [ true ↦ at_quote | false ↦ within ]
    ] in
    each (b == 10) (b == quote) refl refl h

-- where nothing is found, no bytes stand inside
pub no_quoted : (quote : ℕ) (escaped : Bool) (bytes body rest : List ℕ) → quote ≢ 10 → quoted_length quote escaped bytes ≡ None → bytes
    ≡ body ++ quote ∷ rest → IsInside quote escaped body → ⊥
no_quoted quote escaped bytes body rest n none is inside =
    let found : quoted_length quote escaped bytes ≡ Some (length body + 1) = ap (quoted_length quote escaped) is
    ∙ quoted_read quote escaped body rest n inside in
    cc
