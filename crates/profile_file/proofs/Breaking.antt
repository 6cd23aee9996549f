-- At which line bytes break off.
use Rattle.std.proofs.Common.{◌≡◌, ℕ, ◌+◌, ◌≤◌, ◌⊎◌, inl, inr, List, [], ◌∷◌, ◌++◌, length, take, drop, Option, Some, None, refl, sym, ap, ◌∙◌, subst, arith}
use Rattle.std.proofs.Common.{append_assoc, append-nil}
use Rattle.std.specs.Prelude.{codes, flat_map, map, Result, Ok, Err}
use Rattle.std.specs.List.{All, AllByRecursion}
use Rattle.std.proofs.lemmas.List.{append_cancel_right, length-append, length-map, take-append-drop}
use Rattle.std.proofs.lemmas.List.Elements.{All-nil}
use Rattle.std.proofs.Math.Seq.{take-append_seam}
use Rattle.c_typed.specs.declared.run_counts.counts.Counts.{Counts}
use Rattle.c_typed.specs.declared.run_counts.counts.FunCount.{FunCount}
use Rattle.profile_file.specs.Text.{HasLines, IsName, IsProfile, ended, first_line, function_line, function_lines, greatest_count, last_line, loop_line}
use Rattle.profile_file.specs.Text.{profile_lines, profile_text, text_of}
use Rattle.profile_file.specs.declared.fault.ProfileFault.{ProfileFault}
use Rattle.profile_file.specs.declared.fault.ProfileFault.TheVariants.{BadProfile, Memory}
use Rattle.profile_file.specs.Lines.{Begins, BreaksAt, ReadGives, lines_of}
use Rattle.profile_file.specs.Reading.{after, AreAllFunctions, AreFunctions, EndFault, EndGives, function_at, loop_at}
use Rattle.profile_file.proofs.Fronts.{after_front, after_taken, none_some}
use Rattle.profile_file.proofs.LineTexts.{function_read, loop_read}
use Rattle.profile_file.proofs.Splitting.{a_first_line, functions_all, line_in_front, lines_of_profile, lines_read, lines_whole, not_empty, read_lines}
use Rattle.profile_file.proofs.Texts.{text_of-append}

-- ---- lists with a common front

map-append : (xs ys : List (List ℕ)) → map ended (xs ++ ys) ≡ map ended xs ++ map ended ys
map-append [] ys = refl
map-append (x ∷ xs) ys = ap (λ zs. ended x ∷ zs) (map-append xs ys)

front : (ls : List (List ℕ)) (rest : List (List ℕ)) → take (length ls) (map ended ls ++ rest) ≡ map ended ls
front ls rest = ap (λ n. take n (map ended ls ++ rest)) (sym (length-map ls ended)) ∙ take-append_seam (map ended ls) rest

front_and_one : (ls : List (List ℕ)) (r : List ℕ) (rest : List (List ℕ)) → take (length ls + 1) (map ended ls ++ r ∷ rest) ≡ map ended ls ++ r ∷ []
front_and_one ls r rest =
    let long : length ls + 1 ≡ length (map ended ls ++ r ∷ []) = omega (arith, length-map ls ended, length-append (map ended ls) (r ∷ [])) in
    ap (λ n. take n (map ended ls ++ r ∷ rest)) long ∙ ap (take (length (map ended ls ++ r ∷ []))) (sym (append_assoc (map ended ls) (r ∷ []) rest))
    ∙ take-append_seam (map ended ls ++ r ∷ []) rest

pub same_head : (x y : List ℕ) (xs ys : List (List ℕ)) → x ∷ xs ≡ y ∷ ys → x ≡ y
same_head x y xs ys e = cc

pub same_tail : (x y : List ℕ) (xs ys : List (List ℕ)) → x ∷ xs ≡ y ∷ ys → xs ≡ ys
same_tail x y xs ys e = cc

nothing_ended : (line : List ℕ) → [] ≡ ended line → ⊥
nothing_ended [] e = cc
nothing_ended (b ∷ line) e = cc

pub no_lines : (x : List ℕ) (xs : List (List ℕ)) → [] ≡ x ∷ xs → ⊥
no_lines x xs e = cc

-- a line is in front of what is left, or the text is over
abbrev IsFront : List ℕ → List (List ℕ) → Type 0
IsFront r [] = r ≡ []
IsFront r (l ∷ more) = r ≡ ended l

abbrev GoesOn : (ls all : List (List ℕ)) → List ℕ → Type 0
GoesOn ls all r = (post : List (List ℕ)) × (all ≡ ls ++ post) × IsFront r post

goes_on : (ls all : List (List ℕ)) (r : List ℕ) (rest : List (List ℕ)) → map ended all ++ [] ∷ [] ≡ map ended ls ++ r ∷ rest → GoesOn ls all r
goes_on [] [] r rest e = ([], refl, sym (same_head [] r [] rest e))
goes_on [] (l ∷ all) r rest e = (l ∷ all, refl, sym (same_head (ended l) r (map ended all ++ [] ∷ []) rest e))
goes_on (l ∷ ls) [] r rest e = absurd (nothing_ended l (same_head [] (ended l) [] (map ended ls ++ r ∷ rest) e))
goes_on (l ∷ ls) (m ∷ all) r rest e =
    let later = goes_on ls all r rest (same_tail (ended m) (ended l) (map ended all ++ [] ∷ []) (map ended ls ++ r ∷ rest) e) in
    let same : m ≡ l = append_cancel_right m l (10 ∷ []) (same_head (ended m) (ended l) (map ended all ++ [] ∷ []) (map ended ls ++ r ∷ rest) e) in
    (later.0, ap (λ x. x ∷ all) same ∙ ap (λ xs. l ∷ xs) later.1, later.2)

-- what stands in the text of counts where that begins as these lines do
begun : (bytes : List ℕ) (ls : List (List ℕ)) (r : List ℕ) (rest : List (List ℕ)) → lines_of bytes ≡ map ended ls ++ r ∷ rest → Begins (length ls + 1) bytes
    → (c : Counts) × IsProfile c × GoesOn ls (profile_lines c) r
begun bytes ls r rest e b =
    let c = b.0 in
    let all = map ended (profile_lines c) ++ [] ∷ [] in
    let taken : map ended ls ++ r ∷ [] ≡ take (length ls + 1) all =
    sym (front_and_one ls r rest) ∙ ap (take (length ls + 1)) (sym e) ∙ b.2 ∙ ap (take (length ls + 1)) (lines_of_profile c b.1) in
    let whole : all ≡ map ended ls ++ r ∷ drop (length ls + 1) all =
    sym (take-append-drop (length ls + 1) all) ∙ ap (λ xs. xs ++ drop (length ls + 1) all) (sym taken) ∙ append_assoc (map ended ls) (r ∷ []) (drop (length ls + 1) all) in
    (c, b.1, goes_on ls (profile_lines c) r (drop (length ls + 1) all) whole)

-- ---- the lines of counts

abbrev pub function_part : List FunCount → List (List ℕ)
function_part fs = flat_map function_lines fs

abbrev IsFunctionLine : List ℕ → Type 0
IsFunctionLine l = (name : List ℕ) × (n : ℕ) × IsName name × (n ≤ greatest_count) × (l ≡ function_line name n)

abbrev IsLoopLine : List ℕ → Type 0
IsLoopLine l = (n : ℕ) × (n ≤ greatest_count) × (l ≡ loop_line n)

abbrev IsCountLine : List ℕ → Type 0
IsCountLine l = IsFunctionLine l ⊎ IsLoopLine l

count_lines : (fs : List FunCount) → All HasLines fs → AllByRecursion IsCountLine (function_part fs)
count_lines fs h = functions_all IsCountLine (λ name n is le. inl (name, n, is, le, refl)) (λ n le. inr (n, le, refl)) fs h

abbrev first_byte : List ℕ → ℕ
first_byte [] = 0
first_byte (b ∷ more) = b

function_no_last : (name : List ℕ) (n : ℕ) → function_line name n ≡ last_line → ⊥
function_no_last name n e = let first : ◌≡◌ {A = ℕ} 102 101 = ap first_byte e in omega (arith, first)

loop_no_last : (n : ℕ) → loop_line n ≡ last_line → ⊥
loop_no_last n e = let first : ◌≡◌ {A = ℕ} 108 101 = ap first_byte e in omega (arith, first)

pub function_no_loop : (name : List ℕ) (n m : ℕ) → function_line name n ≡ loop_line m → ⊥
function_no_loop name n m e = let first : ◌≡◌ {A = ℕ} 102 108 = ap first_byte e in omega (arith, first)

no_last : (l : List ℕ) → IsCountLine l → l ≡ last_line → ⊥
no_last l (inl f) e = function_no_last f.0 f.1 (sym f.4 ∙ e)
no_last l (inr f) e = loop_no_last f.0 (sym f.2 ∙ e)

-- behind lines of functions and loops the text of counts goes on with such a line or the last one
next_line : (gs xs : List (List ℕ)) (post : List (List ℕ)) → AllByRecursion IsCountLine gs → AllByRecursion IsCountLine xs → gs ++ last_line ∷ [] ≡ xs ++ post
    → (p : List ℕ) × (more : List (List ℕ)) × (post ≡ p ∷ more) × (IsCountLine p ⊎ (p ≡ last_line))
next_line [] [] post h g e = (last_line, [], sym e, inr refl)
next_line (l ∷ gs) [] post h g e = (l, gs ++ last_line ∷ [], sym e, inl h.0)
next_line [] (x ∷ xs) post h g e = absurd (no_last x g.0 (sym (same_head last_line x [] (xs ++ post) e)))
next_line (l ∷ gs) (x ∷ xs) post h g e = next_line gs xs post h.1 g.1 (same_tail l x (gs ++ last_line ∷ []) (xs ++ post) e)

-- nothing stands behind the last line
last_once : (gs xs : List (List ℕ)) (p : List ℕ) (more : List (List ℕ)) → AllByRecursion IsCountLine gs → gs ++ last_line ∷ [] ≡ (xs ++ last_line ∷ []) ++ p ∷ more → ⊥
last_once [] [] p more h e = no_lines p more (same_tail last_line last_line [] (p ∷ more) e)
last_once (l ∷ gs) [] p more h e = no_last l h.0 (same_head l last_line (gs ++ last_line ∷ []) (p ∷ more) e)
last_once [] (x ∷ []) p more h e = no_lines last_line (p ∷ more) (same_tail last_line x [] (last_line ∷ p ∷ more) e)
last_once [] (x ∷ y ∷ xs) p more h e = no_lines y ((xs ++ last_line ∷ []) ++ p ∷ more) (same_tail last_line x [] (y ∷ (xs ++ last_line ∷ []) ++ p ∷ more) e)
last_once (l ∷ gs) (x ∷ xs) p more h e = last_once gs xs p more h.1 (same_tail l x (gs ++ last_line ∷ []) ((xs ++ last_line ∷ []) ++ p ∷ more) e)

-- ---- the lines before

abbrev pub counts : List FunCount → Counts
counts fs = record { functions = fs }

begins_read : (bytes : List ℕ) (fs : List FunCount) (rest : List ℕ) → bytes ≡ text_of (read_lines fs) ++ rest → All HasLines fs → Begins (length (read_lines fs)) bytes
begins_read bytes fs rest e h =
    let here : take (length (read_lines fs)) (lines_of bytes) ≡ map ended (read_lines fs) =
    ap (λ b. take (length (read_lines fs)) (lines_of b)) e ∙ ap (take (length (read_lines fs))) (lines_read fs rest h) ∙ front (read_lines fs) (lines_of rest) in
    let there : take (length (read_lines fs)) (lines_of (profile_text (counts fs))) ≡ map ended (read_lines fs) =
    ap (take (length (read_lines fs))) (lines_of_profile (counts fs) h ∙ ap (λ xs. xs ++ [] ∷ []) (map-append (read_lines fs) (last_line ∷ []))
    ∙ append_assoc (map ended (read_lines fs)) (ended last_line ∷ []) ([] ∷ [])) ∙ front (read_lines fs) (ended last_line ∷ [] ∷ []) in
    (counts fs, h, here ∙ sym there)

-- ---- where no line goes on

not_first_loop : (gs : List FunCount) (n : ℕ) (more : List (List ℕ)) → function_part gs ++ last_line ∷ [] ≡ loop_line n ∷ more → ⊥
not_first_loop [] n more e = loop_no_last n (sym (same_head last_line (loop_line n) [] more e))
not_first_loop (g ∷ gs) n more e = function_no_loop g.name g.entries n
    (same_head (function_line g.name g.entries) (loop_line n) ((map loop_line g.loops ++ function_part gs) ++ last_line ∷ []) more e)

no_loop : (gs fs : List FunCount) (p rest more : List ℕ) (post : List (List ℕ)) → (fs ≡ []) ⊎ (loop_at rest ≡ None)
    → function_part gs ++ last_line ∷ [] ≡ function_part fs ++ p ∷ post → rest ≡ ended p ++ more → IsLoopLine p → ⊥
no_loop gs fs p rest more post (inl none) tails e l =
    not_first_loop gs l.0 post (tails ∙ ap (λ xs. function_part xs ++ p ∷ post) none ∙ ap (λ x. x ∷ post) l.2)
no_loop gs fs p rest more post (inr none) tails e l =
    none_some (l.0, more) (sym none ∙ ap loop_at (e ∙ ap (λ x. ended x ++ more) l.2) ∙ loop_read l.0 more l.1)

refused : (p rest more : List ℕ) → rest ≡ ended p ++ more → IsCountLine p ⊎ (p ≡ last_line) → function_at rest ≡ None → after (codes "end\n") rest ≡ None
    → (IsLoopLine p → ⊥) → ⊥
refused p rest more e (inl (inl f)) no_function no_end never =
    none_some (f.0, f.1, more) (sym no_function ∙ ap function_at (e ∙ ap (λ x. ended x ++ more) f.4) ∙ function_read f.0 f.1 more f.2 f.3)
refused p rest more e (inl (inr l)) no_function no_end never = never l
refused p rest more e (inr last) no_function no_end never =
    none_some more (sym no_end ∙ ap (after (codes "end\n")) (e ∙ ap (λ x. ended x ++ more) last) ∙ after_front (codes "end\n") more)

cannot_go_on : (bytes : List ℕ) (fs : List FunCount) (rest : List ℕ) → bytes ≡ text_of (read_lines fs) ++ rest → All HasLines fs
    → (fs ≡ []) ⊎ (loop_at rest ≡ None) → function_at rest ≡ None → after (codes "end\n") rest ≡ None → Begins (length (read_lines fs) + 1) bytes → ⊥
cannot_go_on bytes fs rest e h stops no_function no_end b =
    let line = a_first_line rest in
    let r = line.0 in
    let found = begun bytes (read_lines fs) r line.1 (ap lines_of e ∙ lines_read fs rest h ∙ ap (λ xs. map ended (read_lines fs) ++ xs) line.2) b in
    let gs = found.0.functions in
    let tails : function_part gs ++ last_line ∷ [] ≡ function_part fs ++ found.2.0 =
    same_tail first_line first_line (function_part gs ++ last_line ∷ []) (function_part fs ++ found.2.0) found.2.1 in
    let next = next_line (function_part gs) (function_part fs) found.2.0 (count_lines gs found.1) (count_lines fs h) tails in
    let is_line : r ≡ ended next.0 = subst (IsFront r) next.2 found.2.2 in
    let text = line_in_front rest next.0 line.1 (line.2 ∙ ap (λ x. x ∷ line.1) is_line) in
    refused next.0 rest text.0 text.1 next.3 no_function no_end
    (no_loop gs fs next.0 rest text.0 next.1 stops (tails ∙ ap (λ xs. function_part fs ++ xs) next.2) text.1)

-- the first line and those of the functions
whole_is : (bytes text : List ℕ) (fs : List FunCount) (line : ℕ) (rest : List ℕ) → bytes ≡ codes "layc-profile 1\n" ++ text → AreFunctions text fs line rest
    → bytes ≡ text_of (read_lines fs) ++ rest
whole_is bytes text fs line rest e a = e ∙ ap (λ t. codes "layc-profile 1\n" ++ t) a.is

breaks_off : (bytes text : List ℕ) (fs : List FunCount) (line : ℕ) (rest : List ℕ) → bytes ≡ codes "layc-profile 1\n" ++ text → AreFunctions text fs line rest
    → function_at rest ≡ None → after (codes "end\n") rest ≡ None → BreaksAt line bytes
breaks_off bytes text fs line rest e a no_function no_end =
    let whole = whole_is bytes text fs line rest e a in
    let is : line ≡ length (read_lines fs) + 1 = omega (arith, a.counted) in
    record {
      before = length (read_lines fs);
      is = is;
      begins = begins_read bytes fs rest whole a.have;
      breaks = subst (λ n. Begins n bytes → ⊥) (sym is) (cannot_go_on bytes fs rest whole a.have a.stops no_function no_end);
    }

-- ---- where something stands behind the last line

text_is_whole : (bytes : List ℕ) (fs : List FunCount) (rest more : List ℕ) → bytes ≡ text_of (read_lines fs) ++ rest → after (codes "end\n") rest ≡ Some more
    → bytes ≡ profile_text (counts fs) ++ more
text_is_whole bytes fs rest more e end =
    let whole : text_of (read_lines fs ++ last_line ∷ []) ≡ text_of (read_lines fs) ++ ended last_line = text_of-append (read_lines fs) (last_line ∷ []) in
    e ∙ ap (λ t. text_of (read_lines fs) ++ t) (after_taken (codes "end\n") rest more end) ∙ sym (append_assoc (text_of (read_lines fs)) (ended last_line) more)
    ∙ ap (λ t. t ++ more) (sym whole)

begins_whole : (bytes : List ℕ) (c : Counts) (more : List ℕ) → bytes ≡ profile_text c ++ more → IsProfile c → Begins (length (profile_lines c)) bytes
begins_whole bytes c more e h =
    let here : take (length (profile_lines c)) (lines_of bytes) ≡ map ended (profile_lines c) =
    ap (λ b. take (length (profile_lines c)) (lines_of b)) e ∙ ap (take (length (profile_lines c))) (lines_whole c more h) ∙ front (profile_lines c) (lines_of more) in
    let there : take (length (profile_lines c)) (lines_of (profile_text c)) ≡ map ended (profile_lines c) =
    ap (take (length (profile_lines c))) (lines_of_profile c h) ∙ front (profile_lines c) ([] ∷ []) in
    (c, h, here ∙ sym there)

not_over : (b : ℕ) (text r : List ℕ) (rs : List (List ℕ)) (gs fs : List FunCount) (post : List (List ℕ)) → All HasLines gs → lines_of (b ∷ text) ≡ r ∷ rs
    → function_part gs ++ last_line ∷ [] ≡ (function_part fs ++ last_line ∷ []) ++ post → IsFront r post → ⊥
not_over b text r rs gs fs [] h e tails front = not_empty b text rs (e ∙ ap (λ x. x ∷ rs) front)
not_over b text r rs gs fs (p ∷ more) h e tails front = last_once (function_part gs) (function_part fs) p more (count_lines gs h) tails

cannot_follow : (bytes : List ℕ) (fs : List FunCount) (b : ℕ) (text : List ℕ) → bytes ≡ profile_text (counts fs) ++ b ∷ text → All HasLines fs
    → Begins (length (profile_lines (counts fs)) + 1) bytes → ⊥
cannot_follow bytes fs b text e h begins =
    let line = a_first_line (b ∷ text) in
    let ls = profile_lines (counts fs) in
    let found = begun bytes ls line.0 line.1 (ap lines_of e ∙ lines_whole (counts fs) (b ∷ text) h ∙ ap (λ xs. map ended ls ++ xs) line.2) begins in
    let gs = found.0.functions in
    not_over b text line.0 line.1 gs fs found.2.0 found.1 line.2
    (same_tail first_line first_line (function_part gs ++ last_line ∷ []) ((function_part fs ++ last_line ∷ []) ++ found.2.0) found.2.1) found.2.2

goes_too_far : (bytes text : List ℕ) (fs : List FunCount) (line : ℕ) (rest : List ℕ) (b : ℕ) (more : List ℕ) → bytes ≡ codes "layc-profile 1\n" ++ text
    → AreFunctions text fs line rest → after (codes "end\n") rest ≡ Some (b ∷ more) → BreaksAt (line + 1) bytes
goes_too_far bytes text fs line rest b more e a end =
    let whole = text_is_whole bytes fs rest (b ∷ more) (whole_is bytes text fs line rest e a) end in
    let is : line + 1 ≡ length (profile_lines (counts fs)) + 1 = omega (arith, a.counted, length-append (function_part fs) (last_line ∷ [])) in
    record {
      before = length (profile_lines (counts fs));
      is = is;
      begins = begins_whole bytes (counts fs) (b ∷ more) whole a.have;
      breaks = subst (λ n. Begins n bytes → ⊥) (sym is) (cannot_follow bytes fs b more whole a.have);
    }

-- ---- the whole text, and none

is_whole : (bytes text : List ℕ) (c : Counts) (line : ℕ) (rest : List ℕ) → bytes ≡ codes "layc-profile 1\n" ++ text → AreFunctions text c.functions line rest
    → after (codes "end\n") rest ≡ Some [] → IsProfile c × (profile_text c ≡ bytes)
is_whole bytes text c line rest e a end =
    (a.have, sym (text_is_whole bytes c.functions rest [] (whole_is bytes text c.functions line rest e a) end ∙ append-nil (profile_text c)))

first_needed : (bytes : List ℕ) → after (codes "layc-profile 1\n") bytes ≡ None → Begins 1 bytes → ⊥
first_needed bytes none b =
    let line = a_first_line bytes in
    let found = begun bytes [] line.0 line.1 line.2 b in
    let is_line : line.0 ≡ ended first_line = subst (IsFront line.0) (sym found.2.1) found.2.2 in
    let text = line_in_front bytes first_line line.1 (line.2 ∙ ap (λ x. x ∷ line.1) is_line) in
    none_some text.0 (sym none ∙ ap (after (codes "layc-profile 1\n")) text.1 ∙ after_front (codes "layc-profile 1\n") text.0)

pub breaks_at_first : (bytes : List ℕ) → after (codes "layc-profile 1\n") bytes ≡ None → BreaksAt 1 bytes
breaks_at_first bytes none = record { before = 0; is = refl; begins = (counts [], All-nil HasLines, refl); breaks = first_needed bytes none }

-- ---- what the reader answers

end_fault : (bytes text : List ℕ) (fs : List FunCount) (line number : ℕ) (rest : List ℕ) (o : Option (List ℕ)) → bytes ≡ codes "layc-profile 1\n" ++ text
    → AreAllFunctions text fs line rest → after (codes "end\n") rest ≡ o → EndFault number line o → BreaksAt number bytes
end_fault bytes text fs line number rest None e a is same =
    subst (λ n. BreaksAt n bytes) (sym same) (breaks_off bytes text fs line rest e a.are a.no_more is)
end_fault bytes text fs line number rest (Some []) e a is never = absurd never
end_fault bytes text fs line number rest (Some (b ∷ more)) e a is same =
    subst (λ n. BreaksAt n bytes) (sym same) (goes_too_far bytes text fs line rest b more e a.are is)

pub read_gives : (bytes text : List ℕ) (fs : List FunCount) (line : ℕ) (rest : List ℕ) (r : Result Counts ProfileFault) → after (codes "layc-profile 1\n") bytes ≡ Some text
    → AreAllFunctions text fs line rest → EndGives r fs line rest → ReadGives r bytes
read_gives bytes text fs line rest (Ok c) e a h =
    is_whole bytes text c line rest (after_taken (codes "layc-profile 1\n") bytes text e) (subst (λ gs. AreFunctions text gs line rest) (sym h.0) a.are) h.1
read_gives bytes text fs line rest (Err (BadProfile number)) e a h =
    end_fault bytes text fs line number rest (after (codes "end\n") rest) (after_taken (codes "layc-profile 1\n") bytes text e) a refl h
read_gives bytes text fs line rest (Err (Memory want)) e a h = absurd h
