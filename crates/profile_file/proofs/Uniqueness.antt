-- A text is that of one profile at most.
use Rattle.std.proofs.Common.{◌≡◌, ℕ, ◌≤◌, List, [], ◌∷◌, ◌++◌, refl, sym, ap, ◌∙◌}
use Rattle.std.specs.Prelude.{map}
use Rattle.std.specs.List.{All}
use Rattle.std.proofs.lemmas.List.{append_cancel_right}
use Rattle.std.proofs.lemmas.List.Elements.{All-head, All-tail}
use Rattle.c_typed.specs.declared.run_counts.counts.Counts.{Counts}
use Rattle.c_typed.specs.declared.run_counts.counts.FunCount.{FunCount}
use Rattle.profile_file.specs.Text.{CountsAreOne, HasLines, IsProfile, ended, first_line, function_line, greatest_count, last_line, loop_line, profile_lines}
use Rattle.profile_file.specs.Text.{profile_text}
use Rattle.profile_file.specs.Lines.{lines_of}
use Rattle.profile_file.specs.Reading.{function_at, loop_at}
use Rattle.profile_file.proofs.Breaking.{counts, function_no_loop, function_part, no_lines, same_head, same_tail}
use Rattle.profile_file.proofs.Fronts.{some_same}
use Rattle.profile_file.proofs.LineTexts.{function_read, loop_read}
use Rattle.profile_file.proofs.Splitting.{lines_of_profile}

-- ---- lines that are the same text are the same lines

same_ended : (xs ys : List (List ℕ)) → map ended xs ≡ map ended ys → xs ≡ ys
same_ended [] [] e = refl
same_ended [] (y ∷ ys) e = absurd (no_lines (ended y) (map ended ys) e)
same_ended (x ∷ xs) [] e = absurd (no_lines (ended x) (map ended xs) (sym e))
same_ended (x ∷ xs) (y ∷ ys) e =
    let first : x ≡ y = append_cancel_right x y (10 ∷ []) (same_head (ended x) (ended y) (map ended xs) (map ended ys) e) in
    ap (λ l. l ∷ xs) first ∙ ap (λ ls. y ∷ ls) (same_ended xs ys (same_tail (ended x) (ended y) (map ended xs) (map ended ys) e))

same_lines : (c d : Counts) → IsProfile c → IsProfile d → profile_text c ≡ profile_text d → profile_lines c ≡ profile_lines d
same_lines c d h g e = same_ended (profile_lines c) (profile_lines d)
    (append_cancel_right (map ended (profile_lines c)) (map ended (profile_lines d)) ([] ∷ []) (sym (lines_of_profile c h) ∙ ap lines_of e ∙ lines_of_profile d g))

-- ---- the same lines have the same counts

same_loop : (n m : ℕ) → n ≤ greatest_count → m ≤ greatest_count → loop_line n ≡ loop_line m → n ≡ m
same_loop n m small less e =
    ap (λ found. found.0) (some_same (n, []) (m, []) (sym (loop_read n [] small) ∙ ap (λ l. loop_at (ended l ++ [])) e ∙ loop_read m [] less))

same_function : (f g : FunCount) → HasLines f → HasLines g → function_line f.name f.entries ≡ function_line g.name g.entries
    → ◌≡◌ {A = List ℕ × ℕ × List ℕ} (f.name, f.entries, []) (g.name, g.entries, [])
same_function f g h k e = some_same {A = List ℕ × ℕ × List ℕ} (f.name, f.entries, []) (g.name, g.entries, [])
    (sym (function_read f.name f.entries [] h.name h.entries) ∙ ap (λ l. function_at (ended l ++ [])) e ∙ function_read g.name g.entries [] k.name k.entries)

no_first_loop : (fs : List FunCount) (n : ℕ) (more : List (List ℕ)) → function_part fs ≡ loop_line n ∷ more → ⊥
no_first_loop [] n more e = no_lines (loop_line n) more e
no_first_loop (f ∷ fs) n more e = function_no_loop f.name f.entries n
    (same_head (function_line f.name f.entries) (loop_line n) (map loop_line f.loops ++ function_part fs) more e)

abbrev IsSmall : ℕ → Type 0
IsSmall n = n ≤ greatest_count

-- loops end where a function begins
same_loops : (ns ms : List ℕ) (fs gs : List FunCount) → All IsSmall ns → All IsSmall ms → map loop_line ns ++ function_part fs ≡ map loop_line ms ++ function_part gs
    → (ns ≡ ms) × (function_part fs ≡ function_part gs)
same_loops [] [] fs gs h k e = (refl, e)
same_loops [] (m ∷ ms) fs gs h k e = absurd (no_first_loop fs m (map loop_line ms ++ function_part gs) e)
same_loops (n ∷ ns) [] fs gs h k e = absurd (no_first_loop gs n (map loop_line ns ++ function_part fs) (sym e))
same_loops (n ∷ ns) (m ∷ ms) fs gs h k e =
    let xs = map loop_line ns ++ function_part fs in
    let ys = map loop_line ms ++ function_part gs in
    let first = same_loop n m (All-head IsSmall n ns h) (All-head IsSmall m ms k) (same_head (loop_line n) (loop_line m) xs ys e) in
    let later = same_loops ns ms fs gs (All-tail IsSmall n ns h) (All-tail IsSmall m ms k) (same_tail (loop_line n) (loop_line m) xs ys e) in
    (ap (λ i. i ∷ ns) first ∙ ap (λ is. m ∷ is) later.0, later.1)

abbrev count : (name : List ℕ) → (entries : ℕ) → (loops : List ℕ) → FunCount
count name entries loops = record { name = name; entries = entries; loops = loops }

same_count : (f g : FunCount) → f.name ≡ g.name → f.entries ≡ g.entries → f.loops ≡ g.loops → f ≡ g
same_count f g name entries loops =
    ap (λ x. count x f.entries f.loops) name ∙ ap (λ x. count g.name x f.loops) entries ∙ ap (λ x. count g.name g.entries x) loops

same_functions : (fs gs : List FunCount) → All HasLines fs → All HasLines gs → function_part fs ≡ function_part gs → fs ≡ gs
same_functions [] [] h k e = refl
same_functions [] (g ∷ gs) h k e = absurd (no_lines (function_line g.name g.entries) (map loop_line g.loops ++ function_part gs) e)
same_functions (f ∷ fs) [] h k e = absurd (no_lines (function_line f.name f.entries) (map loop_line f.loops ++ function_part fs) (sym e))
same_functions (f ∷ fs) (g ∷ gs) h k e =
    let one = function_line f.name f.entries in
    let other = function_line g.name g.entries in
    let xs = map loop_line f.loops ++ function_part fs in
    let ys = map loop_line g.loops ++ function_part gs in
    let has = All-head HasLines f fs h in
    let holds = All-head HasLines g gs k in
    let line = same_function f g has holds (same_head one other xs ys e) in
    let rest = same_loops f.loops g.loops fs gs has.loops holds.loops (same_tail one other xs ys e) in
    let first = same_count f g (ap (λ q. q.0) line) (ap (λ q. q.1) line) rest.0 in
    ap (λ x. x ∷ fs) first ∙ ap (λ xs. g ∷ xs) (same_functions fs gs (All-tail HasLines f fs h) (All-tail HasLines g gs k) rest.1)

-- ---- the counts of a text are one

pub counts_are_one : CountsAreOne
counts_are_one c d h k e =
    let lines = same_tail first_line first_line (function_part c.functions ++ last_line ∷ []) (function_part d.functions ++ last_line ∷ []) (same_lines c d h k e) in
    ap counts (same_functions c.functions d.functions h k (append_cancel_right (function_part c.functions) (function_part d.functions) (last_line ∷ []) lines))
