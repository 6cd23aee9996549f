use Rattle.std.proofs.Common.{◌≡◌, ◌∙◌, ◌++◌, ◌∷◌, [], ap, arith, length, map, sym}
use Rattle.std.specs.Prelude.{slice_get}
use Rattle.std.proofs.lemmas.List.{length-map, length_push, map-append}
use Rattle.c_annotated.specs.FileViews.{object_of}
use Rattle.c_externals.specs.Settling.{is_marked, settled_by, settled_each}
use Rattle.c_externals.proofs.Marks.{settled_last}
use Rattle.c_externals.proofs.settling.all_settled.Goals as goal

pub loop-o-preserved : goal.loop-o-preserved
loop-o-preserved c =
    let l = c.loop-o in
    let marks = c.args.marks.now in
    let o = c.in-Some.o in
    let n : c.len-n.result ≡ length (map object_of l.yielded) = c.len-n.ensures ∙ l.invariant.0 ∙ sym (length-map l.yielded object_of) in
    let s : object_of c.settled.result ≡ settled_by (is_marked (slice_get marks (length (map object_of l.yielded)))) (object_of o) =
    c.settled.ensures ∙ ap (λ m. settled_by m (object_of o)) (c.is_marked.ensures ∙ ap (λ n. is_marked (slice_get marks n)) n) in (
      omega (arith, ap length c.in_ok-add.ensures.added, length_push l.all c.settled.result, l.invariant.0, length_push l.yielded o),
      ap (map object_of) c.in_ok-add.ensures.added
          ∙ map-append object_of l.all (c.settled.result ∷ [])
          ∙ ap (λ x. map object_of l.all ++ x ∷ []) s
          ∙ ap (λ them. them ++ settled_by (is_marked (slice_get marks (length (map object_of l.yielded)))) (object_of o) ∷ []) l.invariant.1
          ∙ sym (settled_last marks (map object_of l.yielded) (object_of o))
          ∙ ap (settled_each marks) (sym (map-append object_of l.yielded (o ∷ []))),
    )
