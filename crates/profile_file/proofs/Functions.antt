-- What is read, function by function.
use Rattle.std.proofs.Common.{◌≡◌, ℕ, ◌+◌, inr, List, [], ◌∷◌, ◌++◌, length, sym, ap, ◌∙◌, arith, append_assoc, append-nil}
use Rattle.std.specs.Prelude.{flat_map}
use Rattle.std.proofs.lemmas.Grind.{flat_map-append}
use Rattle.std.proofs.lemmas.List.{length-append, length-map}
use Rattle.std.proofs.lemmas.List.Elements.{All-push}
use Rattle.c_typed.specs.declared.run_counts.counts.FunCount.{FunCount}
use Rattle.profile_file.specs.Text.{HasLines, function_lines, loop_line, text_of}
use Rattle.profile_file.specs.Reading.{AreFunctions, IsFunction}
use Rattle.profile_file.proofs.Texts.{text_of-append}

one_more : (fs : List FunCount) (f : FunCount) → flat_map function_lines (fs ++ f ∷ []) ≡ flat_map function_lines fs ++ function_lines f
one_more fs f = flat_map-append function_lines fs (f ∷ []) ∙ ap (λ ls. flat_map function_lines fs ++ ls) (append-nil (function_lines f))

pub one_function : (text : List ℕ) (fs : List FunCount) (line : ℕ) (rest : List ℕ) (f : FunCount) (more : List ℕ) → AreFunctions text fs line rest
    → IsFunction rest f more → AreFunctions text (fs ++ f ∷ []) (line + (1 + length f.loops)) more
one_function text fs line rest f more a g =
    let before = flat_map function_lines fs in
    let lines = one_more fs f in
    let long : length (flat_map function_lines (fs ++ f ∷ [])) ≡ length before + length (function_lines f) = ap length lines ∙ length-append before (function_lines f) in
    let own : length (function_lines f) ≡ 1 + length f.loops = omega (arith, length-map f.loops loop_line) in
    record {
      is = a.is ∙ ap (λ t. text_of before ++ t) g.is ∙ sym (append_assoc (text_of before) (text_of (function_lines f)) more)
          ∙ ap (λ t. t ++ more) (sym (text_of-append before (function_lines f))) ∙ ap (λ ls. text_of ls ++ more) (sym lines);
      have = All-push HasLines fs f a.have g.has;
      counted = omega (arith, a.counted, long, own);
      stops = inr g.stops;
      few = omega (arith, a.few, g.few);
    }
