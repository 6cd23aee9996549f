use Rattle.std.proofs.Common.{◌≡◌, ◌++◌, drop, map, take}
use Rattle.c_annotated.specs.FileViews.{object_of}
use Rattle.c_units.specs.RecognisedParts.{recognised_object}
use Rattle.c_units.proofs.objects.recognise_objects.Given as goal

abbrev pub invariant-loop-o : goal.invariant-loop-o
invariant-loop-o l =
    let before = map object_of l.initial.o-items in
    map object_of l.o-items ≡ map recognised_object (take l.o-index before) ++ drop l.o-index before
