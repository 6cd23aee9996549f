use Rattle.std.proofs.Common.{◌≡◌, ◌≤◌, ◌+◌, ◌*◌, ◌^◌, ◌∙◌, [], ◌∷◌, fold, length, map, ap, sym, arith, rules}
use Rattle.std.proofs.lemmas.List.{length_push, length-map, map-append}
use Rattle.c_typed.specs.Programs.{unit_data}
use Rattle.c_link.specs.Joining.{numbered_from}
use Rattle.c_link.specs.JoinedViews.{nothing, with_unit}
use Rattle.c_link.specs.Views.{joined_of, tables_of}
use Rattle.c_link.proofs.Pairs.{joined_one_more}
use Rattle.c_link.proofs.joining.joined_units.Goals as goal

pub loop-u-preserved : goal.loop-u-preserved
loop-u-preserved c =
    let ys = c.loop-u.yielded in
    let u = unit_data c.in-Some.u in
    let t = tables_of c.args.tags.now c.args.tables.now in
    let e : joined_of c.join_unit.new.joined ≡ with_unit t (joined_of c.loop-u.joined) (c.loop-u.k, u) = search rules in
    let q : c.loop-u.k ≡ 0 + length (map unit_data ys) = omega (arith, c.loop-u.invariant.number, length-map ys unit_data) in
    let few : c.join_unit.new.joined.nodes ≤ (c.loop-u.k + 1) * 2 ^ 64 = search rules in
    record {
      few = few;
      number = omega (arith, c.loop-u.invariant.number, length_push ys c.in-Some.u);
      joined = e ∙ ap (λ n. with_unit t (joined_of c.loop-u.joined) (n, u)) q
          ∙ ap (λ j. with_unit t j (0 + length (map unit_data ys), u)) c.loop-u.invariant.joined
          ∙ sym (joined_one_more t nothing 0 (map unit_data ys) u)
          ∙ ap (λ them. fold (with_unit t) nothing (numbered_from 0 them)) (sym (map-append unit_data ys (c.in-Some.u ∷ [])));
    }
