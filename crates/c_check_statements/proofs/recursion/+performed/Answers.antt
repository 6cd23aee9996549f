use Rattle.std.proofs.Common.{◌≡◌, ◌∙◌, ◌+◌, ap, sym, map, drop, [], false, rules}
use Rattle.std.specs.Prelude.{Ok}
use Rattle.c_types.specs.Views.{type_of}
use Rattle.c_ast.specs.declared.statement.SwitchItem.{the_lemmas}
use Rattle.c_ast.specs.Trees
use Rattle.c_typed.specs.Trees.{no_statements}
use Rattle.c_ast.specs.Views.{declaration_of, block_item_of, block_items_of, switch_item_of, switch_items_of}
use Rattle.c_erasure.specs.BrokenStatements.{no_labels}
use Rattle.c_annotated.specs.Views.{arm_of, arms_of}
use Rattle.c_erasure.specs.Checking.Answers.{◌>>=◌}
use Rattle.c_erasure.specs.Checking.Statements.{items_in, switch_item, switch_items}
use Rattle.c_check_parts.proofs.InitializerParts.Turns.{fails_along, fails_on}
use Rattle.c_check_parts.specs.BlockLocals.Performing.{body_of, standing, statements_after}
use Rattle.c_check_statements.specs.StatementParts.Arms.{arms_after, item_added, last_arm_of}
use Rattle.c_check_statements.specs.StatementParts.Parts.{switch_labels_of}
use Rattle.c_check_statements.proofs.StatementParts.ArmsInTurn.{arms_begin, local_item, switch_end, switch_next}
use Rattle.c_check_statements.proofs.InTurn.{items_next, no_items}
use Rattle.c_check_statements.proofs.recursion.+performed.Goals as goal

pub items_in-returns-in-Err : goal.items_in-returns-in-Err
items_in-returns-in-Err t c =
    let l = c.loop-item in
    fails_along c.in-Err.fault _ _
    (c.loop-item.invariant
    ∙ items_next (type_of c.args.around.result_type.now) (body_of l.all) c.args.items.now l.item-index c.item-item.result (standing l.file l.block l.locals)
    c.args.around.in_loop c.args.around.in_switch c.loop-item-test.true c.item-item.is)
    (fails_on c.in-Err.fault _ _ c.in-Err.ensures)

pub items_in-loop-item-preserved : goal.items_in-loop-item-preserved
items_in-loop-item-preserved t c =
    let l = c.loop-item in
    c.loop-item.invariant
    ∙ items_next (type_of c.args.around.result_type.now) (body_of l.all) c.args.items.now l.item-index c.item-item.result (standing l.file l.block l.locals)
    c.args.around.in_loop c.args.around.in_switch c.loop-item-test.true c.item-item.is
    ∙ ap (λ r. r >>= λ own. statements_after own.0 (items_in (type_of c.args.around.result_type.now)
    (block_items_of (map block_item_of (drop (l.item-index + 1) c.args.items.now))) own.1 c.args.around.in_loop c.args.around.in_switch))
    c.in-Ok.ensures

pub items_in-returns : goal.items_in-returns
items_in-returns t c =
    let l = c.loop-item in
    c.loop-item.invariant
    ∙ no_items (type_of c.args.around.result_type.now) (body_of l.all) c.args.items.now l.item-index (standing l.file l.block l.locals)
    c.args.around.in_loop c.args.around.in_switch c.loop-item-test.false

pub switch_items-loop-item-init : goal.switch_items-loop-item-init
switch_items-loop-item-init t c =
    let items = switch_items_of (map switch_item_of c.args.items.now) in
    let s = standing c.args.file.now c.args.block.now c.args.locals.now in
    let result = type_of c.args.around.result_type.now in
    arms_begin (switch_items result items s c.args.around.in_loop c.args.kind no_labels)
    ∙ ap (λ arms. arms_after arms (false, ([], false, no_statements)) (switch_items result items s c.args.around.in_loop c.args.kind no_labels))
    (sym (ap (map arm_of) c.new-arms.ensures))
    ∙ ap (λ last. arms_after (map arm_of c.new-arms.result) last (switch_items result items s c.args.around.in_loop c.args.kind no_labels))
    (sym c.first_arm-last.ensures)
    ∙ ap (λ labels. arms_after (map arm_of c.new-arms.result) (last_arm_of c.first_arm-last.result)
    (switch_items result items s c.args.around.in_loop c.args.kind labels)) (sym c.no_labels-labels.ensures)

pub switch_item-returns-in-Err : goal.switch_item-returns-in-Err
switch_item-returns-in-Err t c =
    let s = standing c.args.file.now c.args.block.now c.args.locals.now in
    let result = type_of c.args.around.result_type.now in
    let done = map arm_of c.args.arms.now in
    let last = last_arm_of c.args.last.now in
    let before = switch_labels_of c.args.labels.now in
    let local : switch_item_of c.args.item.now ≡ Trees.local_switch_item (declaration_of c.in-Local.d) = search (rules, the_lemmas) in
    fails_along c.in-Err.fault _ _
    (ap (λ it. item_added done last (switch_item result it s c.args.around.in_loop c.args.kind before)) local
    ∙ local_item result done last (declaration_of c.in-Local.d) s c.args.around.in_loop c.args.kind before)
    (fails_on c.in-Err.fault _ _ c.in-Err.ensures)

pub switch_items-returns-in-Err : goal.switch_items-returns-in-Err
switch_items-returns-in-Err t c =
    let l = c.loop-item in
    fails_along c.in-Err.fault _ _
    (c.loop-item.invariant
    ∙ switch_next (type_of c.args.around.result_type.now) (map arm_of l.arms) (last_arm_of l.last) c.args.items.now l.item-index c.item-item.result
    (standing l.file l.block l.locals) c.args.around.in_loop c.args.kind (switch_labels_of l.labels) c.loop-item-test.true c.item-item.is)
    (fails_on c.in-Err.fault _ _ c.in-Err.ensures)

pub switch_items-loop-item-preserved : goal.switch_items-loop-item-preserved
switch_items-loop-item-preserved t c =
    let l = c.loop-item in
    c.loop-item.invariant
    ∙ switch_next (type_of c.args.around.result_type.now) (map arm_of l.arms) (last_arm_of l.last) c.args.items.now l.item-index c.item-item.result
    (standing l.file l.block l.locals) c.args.around.in_loop c.args.kind (switch_labels_of l.labels) c.loop-item-test.true c.item-item.is
    ∙ ap (λ r. r >>= λ x. arms_after x.0.0.0 x.0.0.1 (switch_items (type_of c.args.around.result_type.now)
    (switch_items_of (map switch_item_of (drop (l.item-index + 1) c.args.items.now))) x.1 c.args.around.in_loop c.args.kind x.0.1))
    c.in-Ok.ensures

pub switch_items-returns-in-Ok-close : goal.switch_items-returns-in-Ok-close
switch_items-returns-in-Ok-close t c =
    let l = c.loop-item in
    c.loop-item.invariant
    ∙ switch_end (type_of c.args.around.result_type.now) (map arm_of l.arms) (last_arm_of l.last) c.args.items.now l.item-index
    (standing l.file l.block l.locals) c.args.around.in_loop c.args.kind (switch_labels_of l.labels) c.loop-item-test.false
    ∙ ap (λ arms. Ok (arms_of arms, standing l.file l.block l.locals)) (sym c.in-Ok-close.ensures)
