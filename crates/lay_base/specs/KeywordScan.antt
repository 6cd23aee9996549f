-- Looking up the keyword of a word: what the functions compute. No public clause of another crate cites it.
use Rattle.std.specs.Prelude.{ℕ, ◌+◌, ◌==◌, Bool, false, List, [], ◌∷◌, map, bytes_eq, Option, Some, None, if◌then◌else◌}
use Rattle.lay_base.specs.declared.faults.Keyword.{Keyword}
use Rattle.lay_base.specs.declared.faults.Keyword.TheVariants as K
use Rattle.lay_base.specs.Keywords.{keyword_text, left_out, left_out_plain}

-- the keywords that the language has
abbrev pub kept : List Keyword
kept =
    K.Auto ∷ K.Break ∷ K.Case ∷ K.Char ∷ K.Const ∷ K.Continue ∷ K.Default ∷ K.Do ∷ K.Else ∷ K.Enum ∷ K.Extern ∷ K.For ∷ K.If ∷ K.Int ∷ K.Long ∷
    K.Register ∷ K.Return ∷ K.Short ∷ K.Signed ∷ K.Sizeof ∷ K.Static ∷ K.Struct ∷ K.Switch ∷ K.Typedef ∷ K.Unsigned ∷ K.Void ∷ K.While ∷ []

abbrev pub kept_rows : List (List ℕ × Keyword)
kept_rows = map (λ keyword. (keyword_text keyword, keyword)) kept

-- the keyword of the first row with that text
unfoldable pub found_in : List (List ℕ × Keyword) → List ℕ → Option Keyword
found_in [] word = None
found_in (row ∷ rows) word = if bytes_eq row.0 word then Some row.1 else found_in rows word

-- the first number of that text, where they count from n on
unfoldable pub number_from : ℕ → List (List ℕ) → List ℕ → Option Keyword
number_from n [] word = None
number_from n (text ∷ texts) word = if bytes_eq text word then Some (K.LeftOut n) else number_from (n + 1) texts word

abbrev pub begins_with_underscore : List ℕ → Bool
begins_with_underscore [] = false
begins_with_underscore (b ∷ rest) = b == 95

-- among those that are left out; most words begin with no underscore, and so do few of these
abbrev pub left_out_of : List ℕ → Option Keyword
left_out_of word = if begins_with_underscore word then number_from 0 left_out word else number_from 0 left_out_plain word

-- the keyword that a word is
abbrev pub kept_or : Option Keyword → List ℕ → Option Keyword
kept_or (Some keyword) word = Some keyword
kept_or None word = left_out_of word

unfoldable pub keyword_of : List ℕ → Option Keyword
keyword_of word = kept_or (found_in kept_rows word) word
