use Rattle.std.proofs.Common.{◌∙◌, ◌∷◌, [], Some, ap, map, sym}
use Rattle.std.proofs.lemmas.List.{map-append}
use Rattle.c_link.specs.Clashes.{trouble_of}
use Rattle.c_link.specs.Earliest.{earlier_of, earliest_of}
use Rattle.c_link.proofs.Earliest.{one_more_trouble}
use Rattle.c_link.proofs.troubles.earliest.Goals as goal

pub loop-t-preserved : goal.loop-t-preserved
loop-t-preserved c =
    let ys = c.loop-t.yielded in
    let t = trouble_of c.in-Some.t in
    ap Some (c.earlier.ensures ∙ ap (λ best. earlier_of best t) c.loop-t.invariant)
    ∙ one_more_trouble (map trouble_of ys) t
    ∙ ap earliest_of (sym (map-append trouble_of ys (c.in-Some.t ∷ [])))
