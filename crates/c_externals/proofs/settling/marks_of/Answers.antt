use Rattle.std.proofs.Common.{◌∙◌, ◌++◌, ◌∷◌, [], ap, map, sym, take}
use Rattle.std.proofs.lemmas.List.{map-append, take_more}
use Rattle.c_annotated.specs.FileViews.{bound_of}
use Rattle.c_externals.specs.Settling.{marked, marks_from}
use Rattle.c_externals.proofs.Marks.{one_more_declared}
use Rattle.c_externals.proofs.settling.marks_of.Goals as goal

pub loop-b-preserved : goal.loop-b-preserved
loop-b-preserved c =
    let l = c.loop-b in
    let names = c.args.names.now in
    let b = c.b-item.result in
    c.mark.ensures
    ∙ ap (marked (bound_of b)) l.invariant
    ∙ one_more_declared (map bound_of (take l.b-index names)) (bound_of b) c.args.count
    ∙ ap (λ all. marks_from all 0 c.args.count)
    (sym (map-append bound_of (take l.b-index names) (b ∷ []))
    ∙ ap (λ x. map bound_of (take l.b-index names ++ x ∷ [])) c.b-item.is
    ∙ ap (map bound_of) (sym (take_more names l.b-index b c.loop-b-test.true)))
