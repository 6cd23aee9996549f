use Rattle.std.proofs.Common.{◌≡◌, map, drop}
use Rattle.c_types.specs.Views.{type_of}
use Rattle.c_ast.specs.Views.{block_item_of, block_items_of, switch_item_of, switch_items_of}
use Rattle.c_erasure.specs.BrokenStatements.{no_labels}
use Rattle.c_annotated.specs.Views.{arm_of}
use Rattle.c_erasure.specs.Checking.Statements.{items_in, switch_items}
use Rattle.c_check_parts.specs.BlockLocals.Performing.{body_of, standing, statements_after}
use Rattle.c_check_statements.specs.StatementParts.Arms.{arms_after, last_arm_of}
use Rattle.c_check_statements.specs.StatementParts.Parts.{switch_labels_of, with_first_arm}
use Rattle.c_check_statements.proofs.recursion.+performed.Given as goal

abbrev pub invariant-items_in-loop-item : goal.invariant-items_in-loop-item
invariant-items_in-loop-item l =
    statements_after (body_of l.fn.all) (items_in (type_of l.around.result_type.now) (block_items_of (map block_item_of l.items))
    (standing l.fn.file l.fn.block l.fn.locals) l.around.in_loop l.around.in_switch)
    ≡ statements_after (body_of l.all) (items_in (type_of l.around.result_type.now) (block_items_of (map block_item_of (drop l.item-index l.items)))
    (standing l.file l.block l.locals) l.around.in_loop l.around.in_switch)

abbrev pub invariant-switch_items-loop-item : goal.invariant-switch_items-loop-item
invariant-switch_items-loop-item l =
    with_first_arm (switch_items (type_of l.around.result_type.now) (switch_items_of (map switch_item_of l.items))
    (standing l.fn.file l.fn.block l.fn.locals) l.around.in_loop l.kind no_labels)
    ≡ arms_after (map arm_of l.arms) (last_arm_of l.last) (switch_items (type_of l.around.result_type.now)
    (switch_items_of (map switch_item_of (drop l.item-index l.items))) (standing l.file l.block l.locals) l.around.in_loop l.kind (switch_labels_of l.labels))
