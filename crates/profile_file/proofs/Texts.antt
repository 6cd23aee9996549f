-- The text of lines that are joined.
use Rattle.std.proofs.Common.{◌≡◌, List, [], ◌∷◌, ◌++◌, ℕ, ◌+◌, ◌≤◌, length, refl, sym, ap, ◌∙◌, arith, append_assoc}
use Rattle.std.specs.Prelude.{flat_map}
use Rattle.std.proofs.lemmas.List.{length-append}
use Rattle.c_typed.specs.declared.run_counts.counts.Counts.{Counts}
use Rattle.c_typed.specs.declared.run_counts.counts.FunCount.{FunCount}
use Rattle.profile_file.specs.Text.{ended, first_line, function_lines, last_line, profile_text, text_of}

pub text_of-append : (xs ys : List (List ℕ)) → text_of (xs ++ ys) ≡ text_of xs ++ text_of ys
text_of-append [] ys = refl
text_of-append (x ∷ xs) ys = ap (λ t. ended x ++ t) (text_of-append xs ys) ∙ sym (append_assoc (ended x) (text_of xs) (text_of ys))

pub text_of_functions : (fs : List FunCount) → text_of (flat_map function_lines fs) ≡ flat_map (λ f. text_of (function_lines f)) fs
text_of_functions [] = refl
text_of_functions (f ∷ fs) = text_of-append (function_lines f) (flat_map function_lines fs) ∙ ap (λ t. text_of (function_lines f) ++ t) (text_of_functions fs)

pub text_in_pieces : (c : Counts) → profile_text c ≡ ended first_line ++ (flat_map (λ f. text_of (function_lines f)) c.functions ++ ended last_line)
text_in_pieces c = ap (λ t. ended first_line ++ t)
    (text_of-append (flat_map function_lines c.functions) (last_line ∷ []) ∙ ap (λ t. t ++ ended last_line) (text_of_functions c.functions))

-- each line has its line feed
pub text_longer : (ls : List (List ℕ)) → length ls ≤ length (text_of ls)
text_longer [] = omega arith
text_longer (l ∷ ls) =
    let whole : length (text_of (l ∷ ls)) ≡ length (ended l) + length (text_of ls) = length-append (ended l) (text_of ls) in
    let one : length (ended l) ≡ length l + 1 = length-append l (10 ∷ []) in
    omega (arith, whole, one, text_longer ls)
