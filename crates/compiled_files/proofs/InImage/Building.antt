-- The code of a program stands in its image as the laws of its steps ask for.
use Rattle.std.proofs.Common.{◌≡◌, ◌≢◌, ℕ, zero, suc, ◌-◌, ◌%◌, ◌<◌, ◌⊎◌, inl, inr, List, [], ◌∷◌, ◌++◌, Some, length, get_or, refl, subst}
use Rattle.std.proofs.Common.{arith, length-append}
use Rattle.std.specs.Prelude.{slice_get, slice_index}
use Rattle.std.proofs.lemmas.Bool.{cases_lt}
use Rattle.std.proofs.lemmas.List.Elements.{All-drop}
use Rattle.rv_isa.specs.Events.{code_address}
use Rattle.rv_isa.specs.declared.instruction.Inst.{Inst}
use Rattle.rv_runtime.specs.Steps.States.{code_end}
use Rattle.c_typed.specs.Programs.{ProgramData}
use Rattle.tac_ir.specs.Code.{Code, RoutineData, left, led}
use Rattle.tac_ir.specs.Jumps.{IsInside, LeadsInside}
use Rattle.tac_ir.specs.declared.step.Step.{Step}
use Rattle.tac_ir.specs.declared.step.Target.{Target}
use Rattle.tac_ir.specs.declared.step.Target.TheVariants as To
use Rattle.rv_code.specs.Code.{entry_code, function_code, place_left, place_led}
use Rattle.rv_code.specs.Programs.{entries_from, entries_end, first_entry, frame_alone, functions_code, layout_of, layouts_from}
use Rattle.rv_code.specs.Programs.{places_of, program_code, start_code, words_of_all}
use Rattle.rv_code.specs.declared.layout.Layout.{Layout}
use Rattle.rv_image.specs.Data.{object_places, texts_at}
use Rattle.rv_emit.specs.Fitting.{CodeFits, StepFits}
use Rattle.rv_emit.specs.Grounds.{Ground}
use Rattle.rv_emit.specs.Maps.{HasBody}
use Rattle.rv_emit.specs.Relation.{IsPlace, Here, Lands, IsLaid, IsBuilt}
use Rattle.rv_emit.proofs.Moves.{code_back}
use Rattle.compiled_files.specs.Placing.{placed}
use Rattle.compiled_files.specs.Sound.{RoutineFits, IsSound}
use Rattle.code_bounds.specs.CompiledLaws.{StepsAreAsLong, FunctionsAreAsLong}
use Rattle.compiled_files.proofs.InImage.Layouts.{inside_stands, inside_between}
use Rattle.compiled_files.proofs.InImage.Functions.{text_place, entry_low, entry_whole, entry_high, entries_apart, function_stands, texts_placed}

-- a look-up with a default gives what is there
get_is : (all : List ℕ) (i x : ℕ) → slice_get all i ≡ Some x → x ≡ get_or all i 0
get_is [] i x e = absurd cc
get_is (y ∷ all) zero x e = cc
get_is (y ∷ all) (suc i) x e = get_is all i x e

less_or_more : (f h : ℕ) → (f < h) ⊎ ((f ≡ h) ⊎ (h < f))
less_or_more f h = elim (cases_lt f h) [
  | inl lt ↦ inl lt
  | inr le ↦ elim (cases_lt h f) [
    | inl lt ↦ inr (inr lt)
    | inr ge ↦ inr (inl (omega arith))
  ]
]

-- code that has an instruction in its middle
longer : (a : List Inst) (i : Inst) (b : List Inst) → 0 < length (a ++ i ∷ b)
longer a i b = omega (arith, length-append a (i ∷ b))

-- a function with a body has a word at least
has_words : (g : RoutineData) (all : List Step) → all ≢ [] → 0 < words_of_all g all
has_words g [] some = absurd (some refl)
has_words g (s ∷ more) some =
    let first : 0 < length (entry_code (frame_alone g) g.parameters) = longer _ _ _ in omega (arith, first)

module _ (as_long : StepsAreAsLong) (functions : FunctionsAreAsLong) (ground : Ground) (p : ProgramData) (c : Code) (stack_end : ℕ)
    (fits : entries_end first_entry c.routines < code_end)
    (stands : Here ground (placed p c) code_address (program_code c stack_end (object_places p) (texts_at p))) where
  abbrev entry_of : (f : ℕ) → ℕ
  entry_of f = slice_index (entries_from first_entry c.routines) f

  -- the layout of the f-th function
  abbrev laid_out : (f : ℕ) → RoutineData → Layout
  laid_out f g = layout_of g (entry_of f) (text_place (texts_at p) c.routines f)

  functions_stand : Here ground (placed p c) first_entry
      (functions_code (places_of c (object_places p)) c.routines (layouts_from first_entry (texts_at p) c.routines))
  functions_stand = code_back ground code_address (start_code stack_end (entry_of c.main)) _ stands

  module _ (f : ℕ) (g : RoutineData) (is : slice_get c.routines f ≡ Some g) where
    code_is : Here ground (placed p c) (entry_of f) (function_code (places_of c (object_places p)) g (laid_out f g))
    code_is = function_stands functions ground (places_of c (object_places p)) first_entry (texts_at p) c.routines f g is functions_stand

    whole : entry_of f % 4 ≡ 0
    whole = entry_whole first_entry c.routines f g refl is

    entry_is : IsPlace (entry_of f)
    entry_is = record {
      code = omega (arith, entry_low first_entry c.routines f g is);
      whole = whole;
      small = omega (arith, entry_high first_entry c.routines f g is);
    }

    -- a place that so many steps are behind
    left_is : (n : ℕ) → IsInside (length g.code) n → IsPlace (place_left (laid_out f g) n)
    left_is n inside =
        let between = inside_between as_long functions (places_of c (object_places p)) g (entry_of f) (text_place (texts_at p) c.routines f) n inside in
        record {
          code = omega (arith, entry_is.code, between.low);
          whole = between.whole whole;
          small = omega (arith, entry_high first_entry c.routines f g is, between.high);
        }

    lands_left : (n : ℕ) → IsInside (length g.code) n → CodeFits p.types c (places_of c (object_places p)) g g.code
        → Lands ground (placed p c) g (laid_out f g) (place_left (laid_out f g) n) (left n g.code)
    lands_left n inside code = record {
      place = left_is n inside;
      stands = inside_stands as_long functions (places_of c (object_places p)) g (entry_of f) (text_place (texts_at p) c.routines f) ground code_is
          n inside;
      fits = All-drop (StepFits p.types c (places_of c (object_places p)) g) (length g.code - n) g.code code;
    }

    lands : CodeFits p.types c (places_of c (object_places p)) g g.code → (to : Target) → LeadsInside g to
        → Lands ground (placed p c) g (laid_out f g) (place_led g (laid_out f g) to) (led g to)
    lands code (To.Left n) inside = lands_left n inside code
    lands code (To.Label k) inside =
        subst (λ n. Lands ground (placed p c) g (laid_out f g) (place_left (laid_out f g) n) (left n g.code)) (get_is g.labels k inside.0 inside.1)
        (lands_left inside.0 inside.2 code)

    laid : RoutineFits p c g → IsLaid ground (placed p c) f g (laid_out f g)
    laid fits = record {
      is = is;
      entry = entry_is;
      stands = code_is;
      fits = fits.code;
      lands = lands fits.code;
      blocks = refl;
      size = refl;
      parameters = fits.parameters;
      texts = texts_placed (texts_at p) c.routines f g is;
    }

  -- two functions with bodies do not begin at one place
  apart : (f h : ℕ) → HasBody c f → HasBody c h → entry_of f ≡ entry_of h → f ≡ h
  apart f h a b same = elim (less_or_more f h) [
    | inl lt ↦ absurd (omega (arith, entries_apart first_entry c.routines f h a.0 b.0 a.1 b.1 lt, has_words a.0 a.0.code a.2))
    | inr (inl eq) ↦ eq
    | inr (inr lt) ↦ absurd (omega (arith, entries_apart first_entry c.routines h f b.0 a.0 b.1 a.1 lt, has_words b.0 b.0.code b.2))
  ]

  pub built_on : IsSound p c → IsBuilt ground (placed p c)
  built_on sound = record {
    laid = λ f g is some. (laid_out f g, laid f g is (sound.routines f g is));
    apart = apart;
    end = record { code = omega arith; whole = refl; small = omega arith };
    exits = (stands.1.1.1.0, (stands.1.1.1.1.0, tt));
  }
