use Rattle.std.proofs.Common.{Err, ◌≡◌, ◌≤◌, length, ap, ◌∙◌, subst, List}
use Rattle.c_types.specs.declared.layout.Layout.{Layout}
use Rattle.c_types.specs.declared.record.Field.{Field}
use Rattle.c_types.specs.Laying.{LayoutGives}
use Rattle.c_types.specs.Layouts.{layout, layouts}
use Rattle.c_types.specs.Limits.{greatest_size}
use Rattle.c_types.specs.Types.{field_types}
use Rattle.c_types.specs.Views.{types_of_fields, record_of, records_of}
use Rattle.c_types.proofs.Longer.{aligned-laid, laid-push, length-laid}
use Rattle.c_types.proofs.Refusals.{refused}
use Rattle.c_types.proofs.records.Records.add.Goals as goal

pub layout_after-requires-clause-aligned : goal.layout_after-requires-clause-aligned
layout_after-requires-clause-aligned c =
    rw c.deref.ensures.value (aligned-laid c.self.inside.records.items c.self.inside.layouts.items c.self.invariant)

pub layout_after-requires-clause-objects : goal.layout_after-requires-clause-objects
layout_after-requires-clause-objects c =
    let count : length c.deref.result.now ≡ length c.args.self.now =
    ap length c.deref.ensures.value ∙ length-laid c.self.inside.records.items c.self.inside.layouts.items c.self.invariant ∙ ap length c.self.view_is in
    rw (c.as_slice.ensures, count) c.requires.objects

pub invariant_of-self-2 : goal.invariant_of-self-2
invariant_of-self-2 c =
    let as_said : c.in-Ok.layout ≡ layout c.self.inside.layouts.items (field_types (record_of c.args.r)) =
    rw (c.deref.ensures.value, c.as_slice.ensures) at c.in-Ok.ensures.0 in
    let small : (layout c.self.inside.layouts.items (field_types (record_of c.args.r))).size ≤ greatest_size =
    rw (c.deref.ensures.value, c.as_slice.ensures) at c.in-Ok.ensures.1 in
    rw (c.push_reserved.ensures.items, c.push_reserved-2.ensures.items, c.reserve.ensures.items, c.reserve-2.ensures.items)
    (laid-push c.self.inside.records.items c.self.inside.layouts.items c.args.r c.in-Ok.layout c.self.invariant
    (rw c.self.view_is c.requires.objects) as_said small)

pub returns-in-Err : goal.returns-in-Err
returns-in-Err c =
    let known : c.deref.result.now ≡ layouts (records_of c.args.self.now) =
    c.deref.ensures.value ∙ c.self.invariant.laid ∙ ap (λ all. layouts (records_of all)) c.self.view_is in
    let said : LayoutGives (layout c.deref.result.now (types_of_fields c.as_slice.result.now)) (Err c.in-Err.fault) = c.in-Err.ensures in
    let over_known = subst (λ (k : List Layout). LayoutGives (layout k (types_of_fields c.as_slice.result.now)) (Err c.in-Err.fault)) known said in
    let over_fields = subst (λ (fields : List Field). LayoutGives (layout (layouts (records_of c.args.self.now)) (types_of_fields fields)) (Err c.in-Err.fault))
    c.as_slice.ensures over_known in
    refused (layout (layouts (records_of c.args.self.now)) (field_types (record_of c.args.r))) c.args.self.now c.args.r c.in-Err.fault over_fields
