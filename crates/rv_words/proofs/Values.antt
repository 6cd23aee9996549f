-- The value of digits, taken from the first to the last.
use Rattle.std.proofs.Common.{◌≡◌, ℕ, ◌+◌, ◌*◌, ◌^◌, ◌<◌, ◌≤◌, Some, None, List, length, drop, get_or, ap, ◌∙◌, arith}
use Rattle.std.proofs.Math.Nat.{pow-le-pow_right, pow-suc}
use Rattle.std.proofs.Math.Seq.{drop-length}
use Rattle.std.proofs.lemmas.List.{drop_more}
use Rattle.rv_words.specs.Digits.{digit, with_digit, value}

module _ (text : List ℕ) (i word : ℕ) (lt : i < length text) where
  -- by the next digit
  value_more : value (drop i text) word ≡ with_digit (value (drop (i + 1) text)) word (digit (get_or text i 0))
  unfolding value
  value_more = ap (λ rest. value rest word) (drop_more text i 0 lt)

  pub value_digit : (d : ℕ) → digit (get_or text i 0) ≡ Some d → value (drop i text) word ≡ value (drop (i + 1) text) (word * 16 + d)
  value_digit d e = value_more ∙ ap (with_digit (value (drop (i + 1) text)) word) e

  pub value_other : digit (get_or text i 0) ≡ None → value (drop i text) word ≡ None
  value_other e = value_more ∙ ap (with_digit (value (drop (i + 1) text)) word) e

-- after the last there is no more
pub value_end : (text : List ℕ) (i word : ℕ) → i ≡ length text → value (drop i text) word ≡ Some word
unfolding value
value_end text i word e = ap (λ n. value (drop n text) word) e ∙ ap (λ rest. value rest word) (drop-length text)

-- a word of fewer than 8 digits has room for one more
pub has_room : (i word : ℕ) → i < 8 → word < 16 ^ i → word * 16 + 15 < 2 ^ 32
has_room i word lt below = let e : 16 ^ i ≤ 16 ^ 7 = pow-le-pow_right {n = 16} (omega arith) {i = i} {j = 7} (omega arith) in omega (arith, e, below)

pub below_more : (i word d : ℕ) → word < 16 ^ i → d < 16 → word * 16 + d < 16 ^ (i + 1)
below_more i word d below lt = let e : 16 ^ (i + 1) ≡ 16 ^ i * 16 = ap (λ n. 16 ^ n) (omega arith) ∙ pow-suc 16 i in omega (arith, e, below, lt)
