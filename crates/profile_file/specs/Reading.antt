-- What the parts of the reader answer.
use Rattle.std.specs.Prelude.{◌≡◌, ℕ, ◌+◌, ◌*◌, ◌-◌, ◌<◌, ◌≤◌, ◌==◌, nat_le, ◌⊎◌, Bool, true, false, not, ◌&&◌, if◌then◌else◌, List, [], ◌∷◌, ◌++◌, length, map}
use Rattle.std.specs.Prelude.{flat_map, take, drop, fold, codes, Option, Some, None, option_map, Result, Ok, Err}
use Rattle.std.specs.List.{All, prefix_len, list_all}
use Rattle.std.specs.Option.{is_some, option_and_then}
use Rattle.std.specs.Str.{bytes_eq}
use Rattle.lay_base.specs.KeywordScan.{keyword_of}
use Rattle.c_typed.specs.declared.run_counts.counts.Counts.{Counts}
use Rattle.c_typed.specs.declared.run_counts.counts.FunCount.{FunCount}
use Rattle.profile_file.specs.declared.fault.ProfileFault.{ProfileFault}
use Rattle.profile_file.specs.declared.fault.ProfileFault.TheVariants.{BadProfile, Memory}
use Rattle.profile_file.specs.Text.{HasLines, begins_name, function_lines, goes_on_in_name, greatest_count, loop_line, text_of}

-- what stands behind these bytes, where they are in front
abbrev pub after : (front text : List ℕ) → Option (List ℕ)
after front text = if bytes_eq (take (length front) text) front then Some (drop (length front) text) else None

-- ---- numbers

abbrev pub is_digit : ℕ → Bool
is_digit b = nat_le 48 b && nat_le b 57

abbrev pub has_no_leading_zero : List ℕ → Bool
has_no_leading_zero [] = false
has_no_leading_zero (d ∷ []) = true
has_no_leading_zero (d ∷ e ∷ digits) = not (d == 48)

abbrev pub value_of_digits : List ℕ → ℕ
value_of_digits digits = fold (λ n d. n * 10 + (d - 48)) 0 digits

abbrev pub is_numeral : List ℕ → Bool
is_numeral digits = has_no_leading_zero digits && (list_all is_digit digits && nat_le (value_of_digits digits) greatest_count)

abbrev pub number_of : List ℕ → Option ℕ
number_of digits = if is_numeral digits then Some (value_of_digits digits) else None

-- the number of these digits, where a line feed stands behind them, and what is left
abbrev pub count_before : (digits rest : List ℕ) → Option (ℕ × List ℕ)
count_before digits [] = None
count_before digits (b ∷ rest) = if b == 10 then option_map (λ n. (n, rest)) (number_of digits) else None

-- a number that ends a line
abbrev pub count_at : List ℕ → Option (ℕ × List ℕ)
count_at text = count_before (take (prefix_len is_digit text) text) (drop (prefix_len is_digit text) text)

-- ---- names

abbrev pub is_name : List ℕ → Bool
is_name name = begins_name name && (list_all goes_on_in_name name && (nat_le (length name) 255 && not (is_some (keyword_of name))))

abbrev pub name_before : (name rest : List ℕ) → Option (List ℕ × List ℕ)
name_before name [] = None
name_before name (b ∷ rest) = if b == 32 && is_name name then Some (name, rest) else None

-- a name with the space behind it
abbrev pub name_at : List ℕ → Option (List ℕ × List ℕ)
name_at text = name_before (take (prefix_len goes_on_in_name text) text) (drop (prefix_len goes_on_in_name text) text)

-- ---- lines

abbrev pub loop_at : List ℕ → Option (ℕ × List ℕ)
loop_at text = option_and_then count_at (after (codes "loop ") text)

abbrev pub entries_at : List ℕ × List ℕ → Option (List ℕ × ℕ × List ℕ)
entries_at found = option_map (λ counted. (found.0, counted.0, counted.1)) (count_at found.1)

abbrev pub function_at : List ℕ → Option (List ℕ × ℕ × List ℕ)
function_at text = option_and_then entries_at (option_and_then name_at (after (codes "fun ") text))

-- ---- what was read

pub record AreLoops (text loops rest : List ℕ) : Type 0 where
  pub is : text ≡ text_of (map loop_line loops) ++ rest
  pub small : All (λ n. n ≤ greatest_count) loops
  pub stops : loop_at rest ≡ None

pub record IsFunction (text : List ℕ) (f : FunCount) (rest : List ℕ) : Type 0 where
  pub is : text ≡ text_of (function_lines f) ++ rest
  pub has : HasLines f
  pub stops : loop_at rest ≡ None
  pub few : length f.loops + length rest < length text

-- the lines of these functions, up to the line of that number, where those before are one line more
pub record AreFunctions (text : List ℕ) (functions : List FunCount) (line : ℕ) (rest : List ℕ) : Type 0 where
  pub is : text ≡ text_of (flat_map function_lines functions) ++ rest
  pub have : All HasLines functions
  pub counted : line ≡ 2 + length (flat_map function_lines functions)
  pub stops : (functions ≡ []) ⊎ (loop_at rest ≡ None)
  pub few : line + length rest ≤ length text + 2

-- all functions in front of a text
pub record AreAllFunctions (text : List ℕ) (functions : List FunCount) (line : ℕ) (rest : List ℕ) : Type 0 where
  pub are : AreFunctions text functions line rest
  pub no_more : function_at rest ≡ None

-- what stands behind the functions: the last line alone, no such line, or something behind it
abbrev pub EndFault : (number line : ℕ) → Option (List ℕ) → Type 0
EndFault number line None = number ≡ line
EndFault number line (Some []) = ⊥
EndFault number line (Some (b ∷ more)) = number ≡ line + 1

abbrev pub EndGives : Result Counts ProfileFault → (functions : List FunCount) → (line : ℕ) → (rest : List ℕ) → Type 0
EndGives (Ok c) functions line rest = (c.functions ≡ functions) × (after (codes "end\n") rest ≡ Some [])
EndGives (Err (BadProfile number)) functions line rest = EndFault number line (after (codes "end\n") rest)
EndGives (Err (Memory want)) functions line rest = ⊥
