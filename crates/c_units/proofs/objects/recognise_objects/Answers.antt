use Rattle.std.proofs.Common.{◌≡◌, ◌<◌, length, map, rules}
use Rattle.std.proofs.lemmas.List.{length-map}
use Rattle.c_annotated.specs.FileViews.{object_of}
use Rattle.c_walks.proofs.ChangedLists.{one_more}
use Rattle.c_units.specs.RecognisedParts.{recognised_object}
use Rattle.c_units.proofs.objects.recognise_objects.Goals as goal

pub loop-o-preserved : goal.loop-o-preserved
loop-o-preserved c =
    let old = c.deref_mut-o-items.result.now in
    let before = map object_of old in
    let l : length before ≡ length old = length-map old object_of in
    let h : c.loop-o.o-index < length before = search rules in
    let k : c.loop-o.o-index < length c.loop-o.o-items = search rules in
    one_more object_of recognised_object before c.loop-o.o-items c.loop-o.o-index _ _ h k c.loop-o.invariant c.in_ok-recognise.ensures
