use Rattle.std.proofs.Common.{◌≡◌, [], ◌∙◌, map, subst, arith}
use Rattle.std.specs.Prelude.{fold}
use Rattle.c_file_tags.specs.Marks.{mark_of, marks_in}
use Rattle.c_scopes.specs.SyntaxTags.Tables.{after_tag}
use Rattle.c_file_tags.proofs.Folds.{first_tags, none_left}
use Rattle.c_file_tags.proofs.tables.tag_table.Goals as goal

pub returns : goal.returns
unfolding marks_in
returns c =
    subst (λ rest. fold after_tag c.loop-mark.tags (map mark_of rest) ≡ fold after_tag [] (map mark_of c.args.marks.now.list.items))
    (none_left c.args.marks.now.list.items c.loop-mark.mark-index (omega arith)) c.loop-mark.invariant
    ∙ first_tags (map mark_of c.args.marks.now.list.items)
