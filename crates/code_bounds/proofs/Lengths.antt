-- How long code is.
use Rattle.std.proofs.Common.{◌≡◌, ℕ, suc, ◌+◌, ◌*◌, Bool, true, false, List, [], ◌∷◌, ◌++◌, length, Option, Some, None, refl, ap, ◌∙◌, subst, arith}
use Rattle.std.proofs.Common.{if◌then◌else◌, length-append}
use Rattle.std.specs.Prelude.{fold, get_or, pos, slice_index}
use Rattle.rv_runtime.specs.Routines.{copy_entry}
use Rattle.rv_isa.specs.declared.instruction.Inst.{Inst}
use Rattle.rv_isa.specs.declared.instruction.Inst.TheVariants.{Bgeu, Bne, Ebreak, Sub}
use Rattle.tac_ir.specs.Code.{RoutineData}
use Rattle.tac_ir.specs.declared.step.Operand.{Operand}
use Rattle.tac_ir.specs.declared.step.Operand.TheVariants as O
use Rattle.tac_ir.specs.declared.step.Parameter.{Parameter}
use Rattle.tac_ir.specs.declared.step.Step.{Step}
use Rattle.tac_ir.specs.declared.step.Step.TheVariants as S
use Rattle.rv_code.specs.Code.{step_code, steps_code, code_if_any, entry_code, parameters_code, function_code, get_code, get_if_any, both_code, give_code}
use Rattle.rv_code.specs.Code.{row_code}
use Rattle.rv_code.specs.Code.{a_word, block_code, place_led, parameter_code, stack_place}
use Rattle.rv_code.specs.Words.{call_code, fetch_code, jump_code, keep_code, number_code, place_code}
use Rattle.rv_code.specs.Frames.{block_places, frame_size}
use Rattle.rv_code.specs.Programs.{no_places, frame_alone, words_of, words_of_all, words_of_function, layout_of, layouts_from, functions_code, texts_end}
use Rattle.rv_code.specs.Programs.{places_of, first_entry, entries_end}
use Rattle.rv_code.specs.declared.layout.Layout.{Layout}
use Rattle.rv_code.specs.declared.layout.Places.{Places}
use Rattle.code_bounds.specs.CompiledLaws.{StepsAreAsLong, EntriesAreAsLong, FunctionsAreAsLong, ProgramsAreAsLong}

both : (a b c d : List Inst) → length a ≡ length b → length c ≡ length d → length (a ++ c) ≡ length (b ++ d)
both a b c d e f = length-append a c ∙ (let x = length-append b d in omega (arith, e, f, x))

behind : (a b c : List Inst) → length b ≡ length c → length (a ++ b) ≡ length (a ++ c)
behind a b c e = both a a b c refl e

-- in two frames of one form
module _ (p q : Places) (g : RoutineData) (blocks : List ℕ) (size : ℕ) (t u b d : List ℕ) (e f : ℕ) where
  abbrev l : Layout
  l = record { blocks = blocks; size = size; texts = t; behind = b; end = e }

  abbrev m : Layout
  m = record { blocks = blocks; size = size; texts = u; behind = d; end = f }

  get_alike : (rd : ℕ) (a : Operand) → length (get_code p g l rd a) ≡ length (get_code q g m rd a)
  get_alike rd (O.Word n) = refl
  get_alike rd O.Null = refl
  get_alike rd (O.Function f) = refl
  get_alike rd (O.Object n) = refl
  get_alike rd (O.Temp kind t at) = refl

  any_alike : (a : Option Operand) → length (get_if_any p g l a) ≡ length (get_if_any q g m a)
  any_alike None = refl
  any_alike (Some a) = get_alike 10 a

  both_alike : (a b : Operand) → length (both_code p g l a b) ≡ length (both_code q g m a b)
  both_alike a b = both _ _ _ _ (get_alike 5 a) (get_alike 6 b)

  either_alike : (left : Bool) (a b : Operand)
      → length (if left then both_code p g l a b else both_code p g l b a) ≡ length (if left then both_code q g m a b else both_code q g m b a)
  either_alike true a b = both_alike a b
  either_alike false a b = both_alike b a

  pub step_alike : (s : Step) → length (step_code p g l s) ≡ length (step_code q g m s)
  step_alike (S.Set t a) = both _ _ _ _ (get_alike 5 a) refl
  step_alike (S.Clear t) = refl
  step_alike (S.Unary t at op a) = both _ _ _ _ (get_alike 5 a) refl
  step_alike (S.Not t a) = both _ _ _ _ (get_alike 5 a) refl
  step_alike (S.Convert t at kind a) = both _ _ _ _ (get_alike 5 a) refl
  step_alike (S.AsPointer t at a) = both _ _ _ _ (get_alike 5 a) refl
  step_alike (S.Number t at a) = both _ _ _ _ (get_alike 5 a) refl
  step_alike (S.Binary t at op kind right a b) = both _ _ _ _ (both_alike a b) refl
  step_alike (S.Compare t at op kind a b) = both _ _ _ _ (both_alike a b) refl
  step_alike (S.Move t at op size left kind a b) = both _ _ _ _ (either_alike left a b) refl
  step_alike (S.Distance t at size a b) = both _ _ _ _ (both_alike a b) refl
  step_alike (S.Update t at op size sort right a b) = both _ _ _ _ (both_alike a b) refl
  step_alike (S.Field t at by a) = both _ _ _ _ (get_alike 5 a) refl
  step_alike (S.ElementField t at size kind by a b) = both _ _ _ _ (both_alike a b) refl
  step_alike (S.Element t at n size addressed kind a b) = both _ _ _ _ (both_alike a b) refl
  step_alike (S.Part t at by a) = both _ _ _ _ (get_alike 5 a) refl
  step_alike (S.Inside t at x by) = refl
  step_alike (S.Load t at access a) = both _ _ _ _ (get_alike 5 a) refl
  step_alike (S.Store at access a b) = both _ _ _ _ (both_alike a b) refl
  step_alike (S.CopyRecord at size a b) = both _ _ _ _ (get_alike 10 a) (both _ _ _ _ (get_alike 11 b) refl)
  step_alike (S.Jump to) = refl
  step_alike (S.Branch when a to) = both _ _ _ _ (get_alike 5 a) refl
  step_alike (S.Test at op kind when a b to) = both _ _ _ _ (both_alike a b) refl
  step_alike (S.Case n a to) = both _ _ _ _ (get_alike 5 a)
      (behind (number_code 6 n) (Bne 5 6 (pos 12) ∷ jump_code (place_led g l to)) (Bne 5 6 (pos 12) ∷ jump_code (place_led g m to)) refl)
  step_alike (S.Call t at f all) =
      behind (row_code all) (call_code (slice_index p.entries f) ++ give_code t 10) (call_code (slice_index q.entries f) ++ give_code t 10) refl
  step_alike (S.CallThrough t at ty a all) = both _ _ _ _ (get_alike 5 a) refl
  step_alike (S.Library t at which all) = refl
  step_alike (S.Allocate t at r size zeroed a) = both _ _ _ _ (get_alike 10 a) refl
  step_alike (S.Begin x size) = refl
  step_alike (S.End x) = refl
  step_alike (S.Forget x size) = refl
  step_alike (S.Zeros x size) = refl
  step_alike (S.Text x by n) =
      behind (block_code l 10 x by) (place_code 11 (slice_index l.texts n) ++ last) (place_code 11 (slice_index m.texts n) ++ last) refl
    where
      last : List Inst
      last = number_code 12 (length (get_or g.texts n [])) ++ call_code copy_entry
  step_alike (S.Began f n) = refl
  step_alike (S.Return a) = both _ _ _ _ (any_alike a) refl
  step_alike (S.ReturnHeld t) = refl
  step_alike (S.Fail kind at) = refl

  pub steps_alike : (all : List Step) → length (steps_code p g l all) ≡ length (steps_code q g m all)
  steps_alike [] = refl
  steps_alike (s ∷ more) = both _ _ _ _ (step_alike s) (steps_alike more)

  parameters_alike : (x : ℕ) (all : List Parameter) → length (parameters_code l x all) ≡ length (parameters_code m x all)
  parameters_alike x [] = refl
  parameters_alike x (r ∷ more) =
      behind (fetch_code 5 10 (4 * x)) (parameter_code l x r ++ parameters_code l (x + 1) more) (parameter_code m x r ++ parameters_code m (x + 1) more)
      (behind (parameter_code l x r) (parameters_code l (x + 1) more) (parameters_code m (x + 1) more) (parameters_alike (x + 1) more))

  pub entry_alike : (all : List Parameter) → length (entry_code l all) ≡ length (entry_code m all)
  entry_alike all =
      behind (number_code 5 (stack_place + size)) (Bgeu 2 5 (pos 8) ∷ Ebreak ∷ (number_code 5 size ++ rest l))
      (Bgeu 2 5 (pos 8) ∷ Ebreak ∷ (number_code 5 size ++ rest m))
      (ap (λ n. suc (suc n)) (behind (number_code 5 size) (rest l) (rest m)
      (ap suc (behind (keep_code a_word 1 2 0) (parameters_code l 0 all) (parameters_code m 0 all) (parameters_alike 0 all)))))
    where
      rest : Layout → List Inst
      rest l = Sub 2 2 5 ∷ (keep_code a_word 1 2 0 ++ parameters_code l 0 all)

pub steps_are_as_long : StepsAreAsLong
steps_are_as_long p q g l m same s =
    subst (λ size. length (step_code p g l s)
    ≡ length (step_code q g (record { blocks = m.blocks; size = size; texts = m.texts; behind = m.behind; end = m.end }) s)) same.1
    (subst (λ blocks. length (step_code p g l s)
    ≡ length (step_code q g (record { blocks = blocks; size = l.size; texts = m.texts; behind = m.behind; end = m.end }) s)) same.0
    (step_alike p q g l.blocks l.size l.texts m.texts l.behind m.behind l.end m.end s))

pub entries_are_as_long : EntriesAreAsLong
entries_are_as_long l m same all =
    subst (λ size. length (entry_code l all)
    ≡ length (entry_code (record { blocks = m.blocks; size = size; texts = m.texts; behind = m.behind; end = m.end }) all)) same.1
    (subst (λ blocks. length (entry_code l all)
    ≡ length (entry_code (record { blocks = blocks; size = l.size; texts = m.texts; behind = m.behind; end = m.end }) all)) same.0
    (entry_alike no_places no_places empty l.blocks l.size l.texts m.texts l.behind m.behind l.end m.end all))
  where
    empty : RoutineData
    empty = record { ty = 0; locals = []; parameters = []; code = []; labels = []; texts = [] }

-- ---- functions

-- words of steps, one behind the other
words_of_steps : (g : RoutineData) (n : ℕ) (all : List Step) → fold (λ k s. k + words_of g s) n all ≡ n + length (steps_code no_places g (frame_alone g) all)
words_of_steps g n [] = omega arith
words_of_steps g n (s ∷ more) =
    let a = words_of_steps g (n + words_of g s) more in
    let b = length-append (step_code no_places g (frame_alone g) s) (steps_code no_places g (frame_alone g) more) in omega (arith, a, b)

pub functions_are_as_long : FunctionsAreAsLong
functions_are_as_long p g entry texts = by_code g.code
  where
    by_code : (all : List Step) → length (code_if_any p g (layout_of g entry texts) all) ≡ words_of_all g all
    by_code [] = refl
    by_code (s ∷ more) =
        let l = layout_of g entry texts in
        let a = length-append (entry_code l g.parameters) (steps_code p g l (s ∷ more)) in
        let b = entry_alike p no_places g (block_places g) (frame_size g) l.texts [] l.behind [] l.end 0 g.parameters in
        let d = steps_alike p no_places g (block_places g) (frame_size g) l.texts [] l.behind [] l.end 0 (s ∷ more) in
        let e = words_of_steps g 0 (s ∷ more) in omega (arith, a, b, d, e)

functions_end : (p : Places) (at texts : ℕ) (all : List RoutineData)
    → at + 4 * length (functions_code p all (layouts_from at texts all)) ≡ entries_end at all
functions_end p at texts [] = omega arith
functions_end p at texts (g ∷ more) =
    let l = layout_of g at texts in
    let a = length-append (function_code p g l) (functions_code p more (layouts_from (at + 4 * words_of_function g) (texts_end texts g) more)) in
    let b = functions_are_as_long p g at texts in
    let d = functions_end p (at + 4 * words_of_function g) (texts_end texts g) more in omega (arith, a, b, d)

pub programs_are_as_long : ProgramsAreAsLong
programs_are_as_long c stack_end objects texts =
    let a = functions_end (places_of c objects) first_entry texts c.routines in omega (arith, a)
