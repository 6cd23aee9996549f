use Rattle.c_file_tags.proofs.Pushing.{one_mark_more}
use Rattle.c_file_tags.proofs.marks.Marks.add_end.Goals as goal

pub returns : goal.returns
returns c = one_mark_more _ _ _ c.in_ok-push.ensures.pushed
