use Rattle.std.proofs.Common.{◌≡◌, ◌∙◌, [], ◌∷◌, length, map, ap, sym, arith, rules}
use Rattle.std.proofs.lemmas.List.{length_push, length-map, map-append}
use Rattle.c_numbers.specs.NewNumbers.Numbers.{renaming_of}
use Rattle.c_numbers.specs.NewNumbers.Parts.{function_in}
use Rattle.c_typed.specs.Programs.{data_of}
use Rattle.c_link.specs.Joining.{is_function_defined}
use Rattle.c_link.specs.Placing.{place, placed_by}
use Rattle.c_link.proofs.Pairs.{one_more}
use Rattle.c_link.proofs.joining.join_functions.Goals as goal

pub loop-f-preserved : goal.loop-f-preserved
loop-f-preserved c =
    let ys = c.loop-f.yielded in
    let f = c.in-Some.f in
    let m = renaming_of c.args.to.now in
    let all = map data_of c.loop-f.all.items in
    let done = map (function_in m) (map data_of ys) in
    let x = function_in m (data_of f) in
    let e : map data_of c.place_function.new.all.items ≡ place is_function_defined all (m.function c.loop-f.n) x = search rules in
    let q : c.loop-f.n ≡ length done = c.loop-f.invariant.number ∙ sym (length-map (map data_of ys) (function_in m) ∙ length-map ys data_of) in
    record {
      number = omega (arith, c.loop-f.invariant.number, length_push ys f);
      functions = e ∙ ap (λ n. place is_function_defined all (m.function n) x) q
          ∙ ap (λ them. place is_function_defined them (m.function (length done)) x) c.loop-f.invariant.functions
          ∙ sym (one_more is_function_defined m.function (map data_of c.args.all.now.items) done x)
          ∙ ap (placed_by is_function_defined m.function (map data_of c.args.all.now.items))
          (sym (ap (map (function_in m)) (map-append data_of ys (f ∷ [])) ∙ map-append (function_in m) (map data_of ys) (data_of f ∷ [])));
    }
