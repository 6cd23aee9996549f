use Rattle.std.proofs.Common.{◌≡◌, drop}
use Rattle.rv_image.specs.Data.{put_objects}
use Rattle.rv_image.proofs.data.put_objects.Given as goal

abbrev pub invariant-loop-i : goal.invariant-loop-i
invariant-loop-i l = put_objects l.q (drop l.i l.objects) (drop l.i l.places) l.segment.items ≡ put_objects l.fn.q l.fn.objects l.fn.q.objects l.fn.segment.items
