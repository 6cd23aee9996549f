use Rattle.std.proofs.Common.{◌≡◌, ◌∙◌, [], ◌∷◌, length, map, ap, sym, arith, rules}
use Rattle.std.proofs.lemmas.List.{length_push, length-map, map-append}
use Rattle.c_numbers.specs.NewNumbers.Numbers.{renaming_of}
use Rattle.c_numbers.specs.NewNumbers.Parts.{object_in}
use Rattle.c_link.specs.Joining.{is_object_defined}
use Rattle.c_link.specs.Placing.{place, placed_by}
use Rattle.c_link.proofs.Pairs.{one_more}
use Rattle.c_link.proofs.joining.join_objects.Goals as goal

pub loop-o-preserved : goal.loop-o-preserved
loop-o-preserved c =
    let ys = c.loop-o.yielded in
    let o = c.in-Some.o in
    let m = renaming_of c.args.to.now in
    let all = c.loop-o.all.items in
    let e : c.place_object.new.all.items ≡ place is_object_defined all (m.object c.loop-o.n) (object_in m o) = search rules in
    let q : c.loop-o.n ≡ length (map (object_in m) ys) = c.loop-o.invariant.number ∙ sym (length-map ys (object_in m)) in
    record {
      number = omega (arith, c.loop-o.invariant.number, length_push ys o);
      objects = e ∙ ap (λ n. place is_object_defined all (m.object n) (object_in m o)) q
          ∙ ap (λ them. place is_object_defined them (m.object (length (map (object_in m) ys))) (object_in m o)) c.loop-o.invariant.objects
          ∙ sym (one_more is_object_defined m.object c.args.all.now.items (map (object_in m) ys) (object_in m o))
          ∙ ap (placed_by is_object_defined m.object c.args.all.now.items) (sym (map-append (object_in m) ys (o ∷ [])));
    }
