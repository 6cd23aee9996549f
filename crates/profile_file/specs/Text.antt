-- The text of a profile.
use Rattle.std.specs.Prelude.{◌≡◌, ℕ, ◌≤◌, nat_le, ◌==◌, Bool, true, false, ◌&&◌, ◌||◌, List, [], ◌∷◌, ◌++◌, length, map, flat_map, codes, decimal}
use Rattle.std.specs.List.{All, list_all}
use Rattle.lay_base.specs.Keywords.{keyword_text}
use Rattle.lay_base.specs.declared.faults.Keyword.{Keyword}
use Rattle.c_typed.specs.declared.run_counts.counts.Counts.{Counts}
use Rattle.c_typed.specs.declared.run_counts.counts.FunCount.{FunCount}

-- ---- names (C99 6.4.2.1)

abbrev pub is_letter : ℕ → Bool
is_letter b = (nat_le 65 b && nat_le b 90) || (nat_le 97 b && nat_le b 122) || b == 95

abbrev pub goes_on_in_name : ℕ → Bool
goes_on_in_name b = is_letter b || (nat_le 48 b && nat_le b 57)

abbrev pub begins_name : List ℕ → Bool
begins_name [] = false
begins_name (b ∷ more) = is_letter b

-- a letter, then letters and digits, of at most 255 bytes, and no keyword (6.4.1)
pub record IsName (name : List ℕ) : Type 0 where
  pub begins : begins_name name ≡ true
  pub goes_on : list_all goes_on_in_name name ≡ true
  pub short : length name ≤ 255
  pub no_keyword : (keyword : Keyword) → name ≡ keyword_text keyword → ⊥

-- ---- which counts have a text

abbrev pub greatest_count : ℕ
greatest_count = 1000000000000000000

pub record HasLines (f : FunCount) : Type 0 where
  pub name : IsName f.name
  pub entries : f.entries ≤ greatest_count
  pub loops : All (λ n. n ≤ greatest_count) f.loops

abbrev pub IsProfile : Counts → Type 0
IsProfile c = All HasLines c.functions

-- ---- the text, line by line

abbrev pub function_line : (name : List ℕ) → (entries : ℕ) → List ℕ
function_line name entries = codes "fun " ++ name ++ 32 ∷ decimal entries

abbrev pub loop_line : ℕ → List ℕ
loop_line n = codes "loop " ++ decimal n

-- those of a function and of its loops
abbrev pub function_lines : FunCount → List (List ℕ)
function_lines f = function_line f.name f.entries ∷ map loop_line f.loops

abbrev pub first_line : List ℕ
first_line = codes "layc-profile 1"

abbrev pub last_line : List ℕ
last_line = codes "end"

abbrev pub profile_lines : Counts → List (List ℕ)
profile_lines c = first_line ∷ flat_map function_lines c.functions ++ last_line ∷ []

-- a line feed ends each line
abbrev pub ended : List ℕ → List ℕ
ended line = line ++ 10 ∷ []

abbrev pub text_of : List (List ℕ) → List ℕ
text_of lines = flat_map ended lines

abbrev pub profile_text : Counts → List ℕ
profile_text c = text_of (profile_lines c)

-- ---- a text is that of one profile at most

abbrev pub CountsAreOne : Type 0
CountsAreOne = (c d : Counts) → IsProfile c → IsProfile d → profile_text c ≡ profile_text d → c ≡ d
