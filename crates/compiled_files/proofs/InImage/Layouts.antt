-- The code of a function by its layout: behind each number of steps that are left stands their code.
use Rattle.std.proofs.Common.{◌≡◌, ℕ, ◌+◌, ◌-◌, ◌*◌, ◌%◌, ◌<◌, ◌≤◌, List, [], ◌∷◌, ◌++◌, length, map, reverse, take, refl}
use Rattle.std.proofs.Common.{ap, sym, ◌∙◌, subst, arith, append_assoc, length-append}
use Rattle.std.specs.Prelude.{slice_index}
use Rattle.std.proofs.lemmas.List.{length-drop, length-reverse, reverse-append, take-append-drop}
use Rattle.rv_runtime.specs.Steps.States.{Code}
use Rattle.tac_ir.specs.Code.{RoutineData, left}
use Rattle.tac_ir.specs.Jumps.{IsInside}
use Rattle.tac_ir.specs.declared.step.Step.{Step}
use Rattle.rv_code.specs.Code.{step_code, steps_code, code_if_any, function_code, entry_code, place_left}
use Rattle.rv_code.specs.Programs.{no_places, frame_alone, words_of, words_of_function, sums_from, layout_of}
use Rattle.rv_code.specs.declared.layout.Layout.{Layout}
use Rattle.rv_code.specs.declared.layout.Places.{Places}
use Rattle.rv_emit.specs.Grounds.{Ground}
use Rattle.rv_emit.proofs.Moves.{code_back}
use Rattle.code_bounds.specs.CompiledLaws.{StepsAreAsLong, FunctionsAreAsLong}

-- ---- sums of words, which a layout has from the last step on

abbrev total : (Step → ℕ) → List Step → ℕ
total f [] = 0
total f (s ∷ more) = f s + total f more

total_append : (f : Step → ℕ) (a b : List Step) → total f (a ++ b) ≡ total f a + total f b
total_append f [] b = omega arith
total_append f (s ∷ a) b = (let h = total_append f a b in omega (arith, h))

total_reverse : (f : Step → ℕ) (a : List Step) → total f (reverse a) ≡ total f a
total_reverse f [] = refl
total_reverse f (s ∷ a) =
    let h = total_reverse f a in
    ap (total f) (reverse-append (s ∷ []) a) ∙ total_append f (reverse a) (s ∷ []) ∙ omega (arith, h)

-- the sum behind the first of them
sum_behind : (f : Step → ℕ) (m : ℕ) (a more : List Step) → slice_index (sums_from m (map f (a ++ more))) (length a) ≡ m + total f a
sum_behind f m [] [] = omega arith
sum_behind f m [] (s ∷ more) = omega arith
sum_behind f m (s ∷ a) more = sum_behind f (m + f s) a more ∙ omega arith

-- from the end on
sum_left : (f : Step → ℕ) (a b : List Step) → slice_index (sums_from 0 (map f (reverse (a ++ b)))) (length b) ≡ total f b
sum_left f a b =
    ap (λ all. slice_index (sums_from 0 (map f all)) (length b)) (reverse-append a b)
    ∙ ap (slice_index (sums_from 0 (map f (reverse b ++ reverse a)))) (sym (length-reverse b))
    ∙ sum_behind f 0 (reverse b) (reverse a) ∙ omega (arith, total_reverse f b)

-- ---- code in parts

steps_append : (p : Places) (g : RoutineData) (l : Layout) (a b : List Step) → steps_code p g l (a ++ b) ≡ steps_code p g l a ++ steps_code p g l b
steps_append p g l [] b = refl
steps_append p g l (s ∷ a) b =
    ap (λ more. step_code p g l s ++ more) (steps_append p g l a b) ∙ sym (append_assoc (step_code p g l s) (steps_code p g l a) (steps_code p g l b))

some_code : (p : Places) (g : RoutineData) (l : Layout) (all : List Step) → 0 < length all
    → code_if_any p g l all ≡ entry_code l g.parameters ++ steps_code p g l all
some_code p g l [] lt = absurd (omega arith)
some_code p g l (s ∷ more) lt = refl

module _ (as_long : StepsAreAsLong) (functions : FunctionsAreAsLong) (p : Places) (g : RoutineData) (entry texts : ℕ) where
  abbrev l : Layout
  l = layout_of g entry texts

  total_is : (all : List Step) → total (words_of g) all ≡ length (steps_code p g l all)
  total_is [] = refl
  total_is (s ∷ more) =
      let h = total_is more in
      let here = as_long no_places p g (frame_alone g) l (refl, refl) s in
      omega (arith, here, h, length-append (step_code p g l s) (steps_code p g l more))

  -- what stands in front of the steps that are left is the beginning and the steps in front of them
  place_is : (a b : List Step) → g.code ≡ a ++ b → 0 < length b
      → place_left l (length b) ≡ entry + 4 * length (entry_code l g.parameters ++ steps_code p g l a)
  place_is a b e some =
      let behind : slice_index l.behind (length b) ≡ length (steps_code p g l b)
      = ap (λ all. slice_index (sums_from 0 (map (words_of g) (reverse all))) (length b)) e ∙ sum_left (words_of g) a b ∙ total_is b in
      let whole : words_of_function g ≡ length (entry_code l g.parameters ++ steps_code p g l (a ++ b))
      = sym (functions p g entry texts) ∙ ap (λ all. length (code_if_any p g l all)) e
      ∙ ap length (some_code p g l (a ++ b) (omega (arith, length-append a b))) in
      let steps = ap length (steps_append p g l a b) in
      omega (
        arith,
        behind,
        whole,
        steps,
        length-append (entry_code l g.parameters) (steps_code p g l (a ++ b)),
        length-append (entry_code l g.parameters) (steps_code p g l a),
        length-append (steps_code p g l a) (steps_code p g l b),
      )

  -- which is between the beginning of the function's code and its end
  pub record Between (pc : ℕ) : Type 0 where
    pub low : entry ≤ pc
    pub whole : entry % 4 ≡ 0 → pc % 4 ≡ 0
    pub high : pc ≤ entry + 4 * words_of_function g

  left_between : (a b : List Step) → g.code ≡ a ++ b → 0 < length b → Between (place_left l (length b))
  left_between a b e some =
      let is = place_is a b e some in
      record { low = omega (arith, is); whole = λ h. omega (arith, is, h); high = omega arith }

  pub inside_between : (n : ℕ) → IsInside (length g.code) n → Between (place_left l n)
  inside_between n inside =
      let long : length (left n g.code) ≡ n = length-drop (length g.code - n) g.code ∙ omega arith in
      subst (λ k. Between (place_left l k)) long
      (left_between (take (length g.code - n) g.code) (left n g.code) (sym (take-append-drop (length g.code - n) g.code)) (omega (arith, long)))

  -- so the code of the steps that are left stands at their place
  module _ (ground : Ground) (stands : Code ground.segments ground.text entry (function_code p g l)) where
    left_stands : (a b : List Step) → g.code ≡ a ++ b → 0 < length b → Code ground.segments ground.text (place_left l (length b)) (steps_code p g l b)
    left_stands a b e some =
        let front = entry_code l g.parameters ++ steps_code p g l a in
        let code : function_code p g l ≡ front ++ steps_code p g l b
        = ap (code_if_any p g l) e ∙ some_code p g l (a ++ b) (omega (arith, length-append a b))
        ∙ ap (λ more. entry_code l g.parameters ++ more) (steps_append p g l a b)
        ∙ sym (append_assoc (entry_code l g.parameters) (steps_code p g l a) (steps_code p g l b)) in
        subst (λ pc. Code ground.segments ground.text pc (steps_code p g l b)) (sym (place_is a b e some))
        (code_back ground entry front (steps_code p g l b) (subst (Code ground.segments ground.text entry) code stands))

    pub inside_stands : (n : ℕ) → IsInside (length g.code) n → Code ground.segments ground.text (place_left l n) (steps_code p g l (left n g.code))
    inside_stands n inside =
        let a = take (length g.code - n) g.code in
        let b = left n g.code in
        let long : length b ≡ n = length-drop (length g.code - n) g.code ∙ omega arith in
        subst (λ k. Code ground.segments ground.text (place_left l k) (steps_code p g l b)) long
        (left_stands a b (sym (take-append-drop (length g.code - n) g.code)) (omega (arith, long)))
