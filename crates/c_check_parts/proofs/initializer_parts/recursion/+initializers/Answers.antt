use Rattle.std.proofs.Common.{◌∙◌, ◌+◌, ◌-◌, ap, sym, map, drop, slice_get}
use Rattle.std.specs.Prelude.{Err}
use Rattle.lay_base.specs.declared.faults.Rule.TheVariants as R
use Rattle.c_types.specs.Layouts.{size_of}
use Rattle.c_types.specs.Views.{type_of}
use Rattle.c_ast.specs.Views.{argument_of, arguments_of, expression_of}
use Rattle.c_annotated.specs.Views.{part_of}
use Rattle.c_erasure.specs.Broken.{ill_typed}
use Rattle.c_erasure.specs.Checking.Answers.{◌>>=◌, moved}
use Rattle.c_erasure.specs.Checking.Initializers.{elements, fields_from, fields_of, initialized}
use Rattle.c_scopes.specs.Scoping.{scope_of}
use Rattle.c_check_parts.specs.InitializerParts.Parts.{bare_field, parts_after}
use Rattle.c_check_parts.proofs.InitializerParts.Turns.{elements_end, elements_next, fails_along, fails_on, fields_end, fields_next, fields_of_types}
use Rattle.c_check_parts.proofs.InitializerParts.Turns.{too_many_elements}
use Rattle.c_check_parts.proofs.InitializerParts.Turns.{too_many_fields}
use Rattle.c_check_parts.proofs.initializer_parts.recursion.+initializers.Goals as goal

pub elements-returns-then-left-eq0 : goal.elements-returns-then-left-eq0
elements-returns-then-left-eq0 t c =
    let l = c.loop-item in
    let s = scope_of l.file c.args.scope in
    c.loop-item.invariant
    ∙ ap (λ left. parts_after (map part_of l.parts) (elements (arguments_of (map argument_of (drop l.item-index c.args.all.now))) s (type_of c.args.element.now) left l.from))
    c.if-left-eq0.true
    ∙ too_many_elements (map part_of l.parts) c.args.all.now l.item-index s (type_of c.args.element.now) c.item-item.result l.from c.loop-item-test.true c.item-item.is
    ∙ ap (λ at. Err (ill_typed R.Init at)) (sym c.first_of_expression.ensures)

pub elements-returns-in-Err : goal.elements-returns-in-Err
elements-returns-in-Err t c =
    let l = c.loop-item in
    let s = scope_of l.file c.args.scope in
    let u = type_of c.args.element.now in
    fails_along c.in-Err.fault _ _
    (c.loop-item.invariant
    ∙ elements_next (map part_of l.parts) c.args.all.now l.item-index s u c.item-item.result l.left l.from c.loop-item-test.true c.item-item.is c.if-left-eq0.false)
    (fails_on c.in-Err.fault _ _ c.in-Err.ensures)

pub elements-loop-item-preserved : goal.elements-loop-item-preserved
elements-loop-item-preserved t c =
    let l = c.loop-item in
    let s = scope_of l.file c.args.scope in
    let u = type_of c.args.element.now in
    let rest = arguments_of (map argument_of (drop (l.item-index + 1) c.args.all.now)) in
    c.loop-item.invariant
    ∙ elements_next (map part_of l.parts) c.args.all.now l.item-index s u c.item-item.result l.left l.from c.loop-item-test.true c.item-item.is c.if-left-eq0.false
    ∙ ap (λ r. r >>= λ own. parts_after own.0 (elements rest (moved s own.1) u (l.left - 1) (l.from + size_of own.1.records u))) c.in-Ok.ensures
    ∙ ap (λ at. parts_after (map part_of c.initialized.new.parts) (elements rest (scope_of c.initialized.new.file c.args.scope) u (l.left - 1) at))
    (sym c.in-Ok-after_element.ensures)

pub elements-returns : goal.elements-returns
elements-returns t c =
    let l = c.loop-item in
    c.loop-item.invariant
    ∙ elements_end (map part_of l.parts) c.args.all.now l.item-index (scope_of l.file c.args.scope) (type_of c.args.element.now) l.left l.from c.loop-item-test.false

pub fields-loop-k-init : goal.fields-loop-k-init
fields-loop-k-init t c =
    let s = scope_of c.args.file.now c.args.scope in
    ap (parts_after (map part_of c.args.parts.now))
    (fields_of_types (arguments_of (map argument_of c.args.all.now)) s c.args.r 0 (fields_of (slice_get s.file.records c.args.r)) c.as_slice-listed.result.now
    c.args.at (ap (map type_of) c.as_slice-listed.ensures ∙ c.in-Ok.ensures))

pub fields-returns-then-k-listed : goal.fields-returns-then-k-listed
fields-returns-then-k-listed t c =
    let l = c.loop-k in
    c.loop-k.invariant
    ∙ too_many_fields (map part_of l.parts) c.args.all.now c.as_slice-listed.result.now l.k (scope_of l.file c.args.scope) c.args.r c.args.at
    c.index-all-k.result c.loop-k-test.true c.index-all-k.is c.if-k-listed.true
    ∙ ap (λ at. Err (ill_typed R.Init at)) (sym c.first_of_expression.ensures)

pub fields-returns-in-Err-initialized : goal.fields-returns-in-Err-initialized
fields-returns-in-Err-initialized t c =
    let l = c.loop-k in
    let s = scope_of l.file c.args.scope in
    fails_along c.in-Err-initialized.fault _ _
    (c.loop-k.invariant
    ∙ fields_next (map part_of l.parts) c.args.all.now c.as_slice-listed.result.now l.k s c.args.r c.args.at c.index-all-k.result c.index-listed-k.result
    c.loop-k-test.true c.index-all-k.is c.if-k-listed.false c.index-listed-k.is)
    (fails_on c.in-Err-initialized.fault _ _
    (fails_along c.in-Err-initialized.fault _ _
    (ap (λ at. parts_after (map part_of l.parts) (initialized (expression_of c.index-all-k.result.value) s (type_of c.index-listed-k.result) at))
    (sym c.in-Ok-field_at.ensures))
    c.in-Err-initialized.ensures))

pub fields-loop-k-preserved : goal.fields-loop-k-preserved
fields-loop-k-preserved t c =
    let l = c.loop-k in
    let s = scope_of l.file c.args.scope in
    let listed = c.as_slice-listed.result.now in
    c.loop-k.invariant
    ∙ fields_next (map part_of l.parts) c.args.all.now listed l.k s c.args.r c.args.at c.index-all-k.result c.index-listed-k.result
    c.loop-k-test.true c.index-all-k.is c.if-k-listed.false c.index-listed-k.is
    ∙ ap (λ at. parts_after (map part_of l.parts) (initialized (expression_of c.index-all-k.result.value) s (type_of c.index-listed-k.result) at)
    >>= λ own. parts_after own.0 (fields_from (arguments_of (map argument_of (drop (l.k + 1) c.args.all.now))) (moved s own.1) c.args.r (l.k + 1)
    (map bare_field (drop (l.k + 1) listed)) c.args.at))
    (sym c.in-Ok-field_at.ensures)
    ∙ ap (λ r. r >>= λ own. parts_after own.0 (fields_from (arguments_of (map argument_of (drop (l.k + 1) c.args.all.now))) (moved s own.1) c.args.r (l.k + 1)
    (map bare_field (drop (l.k + 1) listed)) c.args.at))
    c.in-Ok-initialized.ensures

pub fields-returns : goal.fields-returns
fields-returns t c =
    let l = c.loop-k in
    c.loop-k.invariant
    ∙ fields_end (map part_of l.parts) c.args.all.now c.as_slice-listed.result.now l.k (scope_of l.file c.args.scope) c.args.r c.args.at c.loop-k-test.false
