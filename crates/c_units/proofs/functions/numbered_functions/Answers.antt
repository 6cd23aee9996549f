use Rattle.std.proofs.Common.{◌≡◌, ◌∙◌, ◌∷◌, ◌++◌, [], ap, flat_map, fold, map, sym}
use Rattle.std.proofs.lemmas.Iterator.Adapters.{YieldsList-from_vec}
use Rattle.std.proofs.lemmas.Iterator.Consumers.{YieldsList-end}
use Rattle.std.proofs.lemmas.List.{map-append, map-id}
use Rattle.c_annotated.specs.FileViews.{function_of}
use Rattle.c_numbers.specs.TypeNumbers.Adding.{with_type}
use Rattle.c_typed.specs.Programs.{data_of}
use Rattle.c_types.specs.Views.{type_of}
use Rattle.c_units.specs.CollectedTypes.{function_types}
use Rattle.c_units.specs.NumberedParts.{function_in}
use Rattle.c_units.specs.RecognisedParts.{recognised_function}
use Rattle.c_units.specs.SizeOperands.{operands_of}
use Rattle.c_units.proofs.Stable.{counted, more_places, one_more_function, one_more_types}
use Rattle.c_units.proofs.functions.numbered_functions.Goals as goal

pub loop-f-preserved : goal.loop-f-preserved
loop-f-preserved c =
    let l = c.loop-f in
    let all = map function_of l.yielded in
    let one = function_of c.in-Some.f in
    let some = map recognised_function all in
    let f = recognised_function one in
    let before = map type_of l.types in
    let after = map type_of c.function.new.types in
    let h : after ≡ fold with_type before (function_types f) = c.in_ok-f.ensures.types in
    let more : map function_of (l.yielded ++ c.in-Some.f ∷ []) ≡ all ++ one ∷ [] = map-append function_of l.yielded (c.in-Some.f ∷ []) in
    let split : map recognised_function (map function_of (l.yielded ++ c.in-Some.f ∷ [])) ≡ some ++ f ∷ [] =
    ap (map recognised_function) more ∙ map-append recognised_function all (one ∷ []) in
    let done : map data_of c.add.new.list ≡ map data_of l.done ++ data_of c.in_ok-f.f ∷ [] =
    ap (map data_of) c.in_ok-add.ensures.added ∙ map-append data_of l.done (c.in_ok-f.f ∷ []) in
    record {
      types = one_more_types (map type_of c.args.types.now) before after some f l.invariant.types h
          ∙ ap (λ them. fold with_type (map type_of c.args.types.now) (flat_map function_types them)) (sym split);
      places = more_places c.args.places.now l.places c.function.new.places all one l.invariant.places c.in_ok-f.ensures.places
          ∙ ap (λ them. c.args.places.now ++ operands_of them) (sym more);
      numbered = λ later. done
          ∙ one_more_function before after some f (map data_of l.done) (data_of c.in_ok-f.f) h l.invariant.numbered (λ more. c.in_ok-f.ensures.numbered more) later
          ∙ ap (map (function_in (fold with_type after later))) (sym split);
    }

pub returns-clause-types : goal.returns-clause-types
returns-clause-types c =
    let g = c.into_iter-f-iterator.ensures.into_iter_gives in
    let end = YieldsList-end (YieldsList-from_vec _ g.0 (g.1 ∙ counted c.into_vec-f-items.result)) c.loop-f.yielded c.loop-f.f-iterator c.loop-f.yielded_by c.next.result c.next.new.self c.in-None.is c.next.ensures.steps in
    let e : c.loop-f.yielded ≡ c.args.all = sym (map-id c.loop-f.yielded) ∙ end.0 ∙ c.into_vec-f-items.ensures in
    c.loop-f.invariant.types ∙ ap (λ them. fold with_type (map type_of c.args.types.now) (flat_map function_types (map recognised_function (map function_of them)))) e

pub returns-clause-places : goal.returns-clause-places
returns-clause-places c =
    let g = c.into_iter-f-iterator.ensures.into_iter_gives in
    let end = YieldsList-end (YieldsList-from_vec _ g.0 (g.1 ∙ counted c.into_vec-f-items.result)) c.loop-f.yielded c.loop-f.f-iterator c.loop-f.yielded_by c.next.result c.next.new.self c.in-None.is c.next.ensures.steps in
    let e : c.loop-f.yielded ≡ c.args.all = sym (map-id c.loop-f.yielded) ∙ end.0 ∙ c.into_vec-f-items.ensures in
    c.loop-f.invariant.places ∙ ap (λ them. c.args.places.now ++ operands_of (map function_of them)) e

pub returns-clause-numbered : goal.returns-clause-numbered
returns-clause-numbered c later =
    let g = c.into_iter-f-iterator.ensures.into_iter_gives in
    let end = YieldsList-end (YieldsList-from_vec _ g.0 (g.1 ∙ counted c.into_vec-f-items.result)) c.loop-f.yielded c.loop-f.f-iterator c.loop-f.yielded_by c.next.result c.next.new.self c.in-None.is c.next.ensures.steps in
    let e : c.loop-f.yielded ≡ c.args.all = sym (map-id c.loop-f.yielded) ∙ end.0 ∙ c.into_vec-f-items.ensures in
    c.loop-f.invariant.numbered later ∙ ap (λ them. map (function_in (fold with_type (map type_of c.loop-f.types) later)) (map recognised_function (map function_of them))) e
