use Rattle.std.proofs.Common.{◌≡◌, ◌∙◌, IfOk, ap, fold, map, subst, sym}
use Rattle.c_annotated.specs.FileViews.{function_of}
use Rattle.c_numbers.specs.TypeNumbers.Adding.{with_type}
use Rattle.c_typed.specs.Programs.{data_of}
use Rattle.c_types.specs.Views.{type_of}
use Rattle.c_units.specs.CollectedTypes.{function_types}
use Rattle.c_units.specs.NumberedParts.{function_in}
use Rattle.c_units.specs.RecognisedParts.{recognised_function}
use Rattle.c_units.proofs.Stable.{function_stable}
use Rattle.c_units.proofs.functions.function.Goals as goal

pub returns-clause-numbered : goal.returns-clause-numbered
returns-clause-numbered c later =
    let left = function_of c.recognise.new.f in
    let f = recognised_function (function_of c.args.f) in
    let before = map type_of c.args.types.now in
    let after = map type_of c.add_types.new.types in
    let tree : left ≡ f = c.in_ok-recognise.ensures.tree in
    let h : after ≡ fold with_type before (function_types left) = c.in_ok-taken.ensures.types in
    subst (λ it. IfOk c.numbered.result (λ r. data_of r ≡ it))
    (ap (λ types. function_in types left) h ∙ sym (function_stable before later left) ∙ ap (λ types. function_in (fold with_type types later) left) (sym h)
    ∙ ap (function_in (fold with_type after later)) tree)
    (c.numbered.ensures c.in_ok-taken.ensures.taken)
