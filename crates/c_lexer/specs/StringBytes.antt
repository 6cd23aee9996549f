-- String literals have their bytes, and no others.
use Rattle.std.specs.Prelude.{◌≡◌, ℕ, List, All, flat_map}
use Rattle.c_tokens.specs.Strings.{IsStringLiteral, AreBytesOf, AreBytesOfAll}
use Rattle.c_tokens.specs.QuotedScan.{string_bytes}

-- `string_bytes` computes them
pub record StringsHaveBytes : Type 0 where
  pub of_one : (text : List ℕ) → IsStringLiteral text → AreBytesOf text (string_bytes text)
  pub of_all : (texts : List (List ℕ)) → All IsStringLiteral texts → AreBytesOfAll texts (flat_map string_bytes texts)
  pub no_others : (text bytes others : List ℕ) → AreBytesOf text bytes → AreBytesOf text others → others ≡ bytes
