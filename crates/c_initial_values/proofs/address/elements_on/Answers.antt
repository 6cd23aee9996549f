use mir.Syntax.{w128}
use Rattle.std.proofs.Common.{◌<◌, ◌^◌, ◌∙◌, ◌+ℤ◌, ◌*ℤ◌, pos, ap, arith}
use Rattle.std.proofs.lemmas.Int.{to_z-of_z}
use Rattle.c_typed.specs.InitialValues.{within}
use Rattle.c_initial_values.proofs.Far.{alike}
use Rattle.c_initial_values.specs.Values.{declared_by}
use Rattle.c_initial_values.proofs.address.elements_on.Goals as goal

pub returns : goal.returns
returns c exact h =
    let d = declared_by c.args.records.now c.args.objects.now in
    let n = c.args.a.object in
    let from : c.args.a.offset < 2 ^ 32 = omega arith in
    let same = to_z-of_z w128 c.args.k (record { sfits = c.ranges.k.sfits }) in
    let byte = to_z-of_z w128 c.byte_at.result (record { sfits = c.byte_at.type_inv }) in
    c.byte_of.ensures d c.object_size-end.ensures ∙ ap (within d n) (byte ∙ c.byte_at.ensures)
    ∙ ap (λ k. within d n (pos c.args.a.offset +ℤ k *ℤ pos c.args.size)) same ∙ alike d n c.args.a.offset from c.args.size exact c.args.k h
