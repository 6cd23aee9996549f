use Rattle.std.proofs.Common.{rules, ◌≡◌, ◌∙◌, map, subst, arith}
use Rattle.std.specs.Prelude.{fold}
use Rattle.c_erasure.specs.Marks.{defined_in}
use Rattle.c_file_tags.specs.Marks.{mark_of, marks_in}
use Rattle.c_scopes.specs.SyntaxTags.Tables.{after_structure}
use Rattle.c_file_tags.proofs.Folds.{other_structures, none_left}
use Rattle.c_file_tags.proofs.tables.numbered_tags.Goals as goal

pub returns : goal.returns
unfolding marks_in
returns c =
    subst (λ rest. fold after_structure c.loop-mark.names (map mark_of rest)
    ≡ fold after_structure (defined_in (map mark_of c.args.marks.now.list.items)) (map mark_of c.args.marks.now.list.items))
    (none_left c.args.marks.now.list.items c.loop-mark.mark-index (omega arith)) c.loop-mark.invariant
    ∙ other_structures (map mark_of c.args.marks.now.list.items)

pub loop-mark-init : goal.loop-mark-init
unfolding marks_in
loop-mark-init c = search rules
