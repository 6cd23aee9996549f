use Rattle.std.specs.Prelude.{map}
use Rattle.c_ast.specs.Views.{items_of}
use Rattle.c_typed.specs.Programs.{unit_data}
use Rattle.lay_compile.proofs.Next.{no_tree, no_unit, tree_in_file, with_its_unit}
use Rattle.lay_compile.proofs.Steps.{units_have_trees}
use Rattle.lay_compile.proofs.stages.with_unit.Goals as goal

pub returns-in-Err : goal.returns-in-Err
returns-in-Err c before e h =
    no_tree c.args.number c.args.file.now c.args.tokens c.requires.tokens c.in-Err.fault c.in-Err.ensures before e
    (units_have_trees before (map unit_data c.args.units) h.0)

pub returns-in_ok-with_one_more-in-Ok-check : goal.returns-in_ok-with_one_more-in-Ok-check
returns-in_ok-with_one_more-in-Ok-check c before e h =
    let file = c.args.file.now in
    let items = items_of c.in-Ok.tree in
    let kept = c.in_ok-with_one_more-in-Ok-check in
    let tree = tree_in_file c.args.number file c.args.tokens c.requires.tokens items c.in-Ok.ensures.1 in
    let unit = c.in-Ok-check.unit in
    let erases = c.in-Ok-check.ensures in
    with_its_unit c.args.number file items tree unit erases (c.units_are_countable.ensures c.args.number file.name file.bytes items (unit_data unit) tree erases)
    before e c.args.units kept.field-0 kept.ensures h

pub returns-in-Err-check : goal.returns-in-Err-check
returns-in-Err-check c before e h =
    let file = c.args.file.now in
    let items = items_of c.in-Ok.tree in
    no_unit c.args.number file items (tree_in_file c.args.number file c.args.tokens c.requires.tokens items c.in-Ok.ensures.1) c.in-Err-check.fault
    c.in-Err-check.ensures before e (map unit_data c.args.units) h.0
