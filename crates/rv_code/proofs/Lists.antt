-- Lists by number, and what is gathered from a list from its end on.
use Rattle.std.proofs.Common.{◌≡◌, ℕ, zero, suc, ◌+◌, ◌*◌, ◌^◌, ◌≤◌, List, [], ◌∷◌, ◌++◌, Some, None, length, reverse, refl, sym, ap, ◌∙◌, get_or, arith, ◌<◌}
use Rattle.std.specs.Prelude.{slice_get}
use Rattle.std.proofs.lemmas.List.{drop_more, take_more, reverse-append, reverse-reverse}
use Rattle.std.specs.Prelude.{drop, map, max, take, ◌==◌, false}
use Rattle.std.proofs.lemmas.Bool.Decides.{nat_tests}
use Rattle.tac_ir.specs.declared.step.Parameter.{Parameter}
use Rattle.tac_ir.specs.declared.step.Step.{Step}
use Rattle.tac_ir.specs.Code.{RoutineData, data_of}
use Rattle.tac_ir.specs.declared.step.Routine.{Routine}
use Rattle.std.specs.List.{sum_by}
use Rattle.std.proofs.lemmas.List.Sorted.{IsPermutation-reverse, sum_by-IsPermutation}
use Rattle.rv_code.specs.Code.{entry_code, function_code, step_code, steps_code}
use Rattle.rv_code.specs.Programs.{functions_code, layouts_from, all_texts_end, entries_end, texts_end, frame_alone, words_of, words_of_all, words_of_function}
use Rattle.rv_code.specs.declared.layout.Layout.{Layout}
use Rattle.rv_code.specs.declared.layout.Places.{Places}
use Rattle.rv_code.specs.Frames.{block_sizes, frame_size, slots, slot_at, sizes_of_parameters, with_size, end_from, sizes_in, sizes_with, whole_words, block_size, kept_by, kept_in, past}

pub text_found : (texts : List (List ℕ)) (n : ℕ) (bytes : List ℕ) → slice_get texts n ≡ Some bytes → get_or texts n [] ≡ bytes
text_found [] n bytes e = cc
text_found (t ∷ more) zero bytes e = cc
text_found (t ∷ more) (suc n) bytes e = text_found more n bytes e

pub text_missing : (texts : List (List ℕ)) (n : ℕ) → slice_get texts n ≡ None → get_or texts n [] ≡ []
text_missing [] n e = refl
text_missing (t ∷ more) zero e = cc
text_missing (t ∷ more) (suc n) e = text_missing more n e

pub label_missing : (labels : List ℕ) (k : ℕ) → slice_get labels k ≡ None → get_or labels k 0 ≡ 0
label_missing [] k e = refl
label_missing (n ∷ more) zero e = cc
label_missing (n ∷ more) (suc k) e = label_missing more k e

-- places ascend
pub end_is_behind : (at : ℕ) (sizes : List ℕ) → at ≤ end_from at sizes
end_is_behind at [] = omega arith
end_is_behind at (size ∷ more) = omega (arith, end_is_behind (at + whole_words size) more)

-- ---- steps are gathered from the last one on

pub one_taken : (all : List Step) (i : ℕ) (s : Step) → i < length all → s ≡ get_or all i s → reverse (take (i + 1) all) ≡ s ∷ reverse (take i all)
one_taken all i s lt is = ap reverse (take_more all i s lt ∙ ap (λ x. take i all ++ x ∷ []) (sym is)) ∙ reverse-append (take i all) (s ∷ [])

pub kept_more : (all : List Step) (i : ℕ) (s : Step) (n : ℕ) → i < length all → s ≡ get_or all i s
    → kept_in (reverse (take (i + 1) all)) n ≡ max (past (kept_by s)) (kept_in (reverse (take i all)) n)
kept_more all i s n lt is = ap (λ more. kept_in more n) (one_taken all i s lt is)

pub sizes_more : (all : List Step) (i : ℕ) (s : Step) (sizes : List ℕ) → i < length all → s ≡ get_or all i s
    → sizes_in (reverse (take (i + 1) all)) sizes ≡ sizes_with s (sizes_in (reverse (take i all)) sizes)
sizes_more all i s sizes lt is = ap (λ more. sizes_in more sizes) (one_taken all i s lt is)

-- ---- code is made from the last step that is stored on

pub steps_more : (p : Places) (g : RoutineData) (l : Layout) (all : List Step) (i : ℕ) (s : Step) → i < length all → s ≡ get_or all i s
    → steps_code p g l (reverse (take (i + 1) all)) ≡ step_code p g l s ++ steps_code p g l (reverse (take i all))
steps_more p g l all i s lt is = ap (λ more. steps_code p g l more) (one_taken all i s lt is)

pub parameters_more : (all : List Parameter) (x : ℕ) (r : Parameter) (sizes : List ℕ) → x < length all → r ≡ get_or all x r
    → sizes_of_parameters x (drop x all) sizes ≡ with_size x (block_size r) (sizes_of_parameters (x + 1) (drop (x + 1) all) sizes)
parameters_more all x r sizes lt is = ap (λ more. sizes_of_parameters x more sizes) (drop_more all x r lt ∙ ap (λ q. q ∷ drop (x + 1) all) (sym is))

pub slots_fit : (g : RoutineData) → frame_size g < 2 ^ 31 → 4 + 4 * slots g < 2 ^ 31
slots_fit g lt = omega (arith, lt, end_is_behind (slot_at (slots g)) (block_sizes g))

-- ---- words of steps, in either order

sum_reversed : (f : Step → ℕ) (all : List Step) → sum_by f (reverse all) ≡ sum_by f all
sum_reversed f all = sum_by-IsPermutation f all (reverse all) (IsPermutation-reverse all)

reversed_is_empty : (all : List Step) → reverse all ≡ [] → all ≡ []
reversed_is_empty all e = sym (reverse-reverse all) ∙ ap reverse e

-- a function that has code takes the words of its beginning and of its steps
pub words_are : (g : Routine) → 0 < length g.code
    → words_of_function (data_of g) ≡ length (entry_code (frame_alone (data_of g)) g.parameters) + sum_by (words_of (data_of g)) g.code
words_are g lt = go (reverse g.code) refl
  where
    go : (all : List Step) → reverse g.code ≡ all
        → words_of_all (data_of g) all ≡ length (entry_code (frame_alone (data_of g)) g.parameters) + sum_by (words_of (data_of g)) g.code
    go [] f = absurd (let none : length g.code ≡ 0 = ap length (reversed_is_empty g.code f) in omega (arith, lt))
    go (t ∷ rest) f = ap (λ n. length (entry_code (frame_alone (data_of g)) g.parameters) + n)
        (ap (sum_by (words_of (data_of g))) (sym f) ∙ sum_reversed (words_of (data_of g)) g.code)

-- with the parts that are counted
pub words_counted : (g : Routine) (frame : Layout) (steps : ℕ) → frame ≡ frame_alone (data_of g) → steps ≡ sum_by (words_of (data_of g)) g.code
    → (length g.code == 0) ≡ false → length (entry_code frame g.parameters) + steps ≡ words_of_function (data_of g)
words_counted g frame steps e f some =
    rw (e, f) (sym (words_are g (grind (arith, nat_tests))))

pub no_words : (g : Routine) → g.code ≡ [] → words_of_function (data_of g) ≡ 0
no_words g e = ap (λ all. words_of_all (data_of g) (reverse all)) e

pub steps_fit : (g : Routine) → words_of_function (data_of g) < 2 ^ 30 → sum_by (words_of (data_of g)) g.code < 2 ^ 30
steps_fit g lt = go g.code refl
  where
    go : (all : List Step) → g.code ≡ all → sum_by (words_of (data_of g)) g.code < 2 ^ 30
    go [] e = let none : sum_by (words_of (data_of g)) g.code ≡ 0 = ap (sum_by (words_of (data_of g))) e in omega arith
    go (s ∷ more) e =
        let some : length g.code ≡ suc (length more) = ap length e in
        let is = words_are g (omega arith) in omega arith

-- ---- functions one behind the other

entries_ascend : (at : ℕ) (gs : List RoutineData) → at ≤ entries_end at gs
entries_ascend at [] = omega arith
entries_ascend at (g ∷ more) = omega (arith, entries_ascend (at + 4 * words_of_function g) more)

texts_ascend : (at : ℕ) (gs : List RoutineData) → at ≤ all_texts_end at gs
texts_ascend at [] = omega arith
texts_ascend at (g ∷ more) = omega (arith, end_is_behind at (map length g.texts), texts_ascend (texts_end at g) more)

pub code_fits : (gs : List Routine) (i : ℕ) (g : Routine) (at : ℕ) → i < length gs → g ≡ get_or gs i g → entries_end at (map data_of (drop i gs)) < 2 ^ 32
    → at + 4 * words_of_function (data_of g) < 2 ^ 32
code_fits gs i g at lt is fit =
    let all : entries_end at (map data_of (drop i gs)) ≡ entries_end (at + 4 * words_of_function (data_of g)) (map data_of (drop (i + 1) gs))
    = ap (λ more. entries_end at (map data_of more)) (drop_more gs i g lt ∙ ap (λ q. q ∷ drop (i + 1) gs) (sym is)) in
    omega (arith, entries_ascend (at + 4 * words_of_function (data_of g)) (map data_of (drop (i + 1) gs)))

pub texts_fit : (gs : List Routine) (i : ℕ) (g : Routine) (at : ℕ) → i < length gs → g ≡ get_or gs i g → all_texts_end at (map data_of (drop i gs)) < 2 ^ 32
    → texts_end at (data_of g) < 2 ^ 32
texts_fit gs i g at lt is fit =
    let all : all_texts_end at (map data_of (drop i gs)) ≡ all_texts_end (texts_end at (data_of g)) (map data_of (drop (i + 1) gs))
    = ap (λ more. all_texts_end at (map data_of more)) (drop_more gs i g lt ∙ ap (λ q. q ∷ drop (i + 1) gs) (sym is)) in
    omega (arith, texts_ascend (texts_end at (data_of g)) (map data_of (drop (i + 1) gs)))

pub layout_for_each : (at texts : ℕ) (gs : List Routine) → length (layouts_from at texts (map data_of gs)) ≡ length gs
layout_for_each at texts [] = refl
layout_for_each at texts (g ∷ more) = ap suc (layout_for_each (at + 4 * words_of_function (data_of g)) (texts_end texts (data_of g)) more)

pub functions_more : (p : Places) (gs : List Routine) (layouts : List Layout) (i : ℕ) (g : Routine) (l : Layout)
    → i < length gs → g ≡ get_or gs i g → i < length layouts → l ≡ get_or layouts i l
    → functions_code p (map data_of (drop i gs)) (drop i layouts)
    ≡ function_code p (data_of g) l ++ functions_code p (map data_of (drop (i + 1) gs)) (drop (i + 1) layouts)
functions_more p gs layouts i g l lt is few here =
    ap (λ more. functions_code p (map data_of more) (drop i layouts)) (drop_more gs i g lt ∙ ap (λ q. q ∷ drop (i + 1) gs) (sym is))
    ∙ ap (λ more. functions_code p (data_of g ∷ map data_of (drop (i + 1) gs)) more) (drop_more layouts i l few ∙ ap (λ q. q ∷ drop (i + 1) layouts) (sym here))
