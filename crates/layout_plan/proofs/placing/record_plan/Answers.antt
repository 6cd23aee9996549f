use Rattle.std.proofs.Common.{◌≡◌, ◌∷◌, ap, arith, drop, ◌+◌}
use Rattle.c_types.specs.Limits.{greatest_size}
use Rattle.c_types.specs.Views.{records_of, types_of_fields}
use Rattle.layout_plan.specs.Parts.{link, part_layout}
use Rattle.layout_plan.specs.declared.parts.Extent.{Extent}
use Rattle.layout_plan.proofs.Ends.{ends_within, part_here, part_more, size_more, small_here, small_more}
use Rattle.layout_plan.proofs.placing.record_plan.Goals as goal

pub overflow_cast-size : goal.overflow_cast-size
overflow_cast-size c =
    let parts = c.args.o.parts in
    let i = c.loop-part.part in
    let here = part_here parts c.as_slice-parts.result.now i c.index-parts-part.result c.as_slice-fields.result.now c.as_slice-parts.ensures
    c.loop-part-test.true c.index-parts-part.is c.as_slice-fields.ensures in
    omega (
      arith,
      c.part_size-size.ensures,
      small_here (records_of c.args.records.now) (types_of_fields c.args.own.now) c.args.o.decision i (drop i parts)
          (drop (i + 1) parts) c.as_slice-fields.result.now here greatest_size c.loop-part.invariant.small,
    )

pub place_part-requires-clause-small : goal.place_part-requires-clause-small
place_part-requires-clause-small c =
    let parts = c.args.o.parts in
    let i = c.loop-part.part in
    let fields = c.as_slice-fields.result.now in
    let here = part_here parts c.as_slice-parts.result.now i c.index-parts-part.result fields c.as_slice-parts.ensures
    c.loop-part-test.true c.index-parts-part.is c.as_slice-fields.ensures in
    rw (ap (λ (it : Extent). it.end) c.front-before.ensures)
    (ends_within (records_of c.args.records.now) (types_of_fields c.args.own.now) c.args.o.decision i fields greatest_size
    (small_here (records_of c.args.records.now) (types_of_fields c.args.own.now) c.args.o.decision i (drop i parts) (drop (i + 1) parts) fields here
    greatest_size c.loop-part.invariant.small))

pub loop-part-preserved : goal.loop-part-preserved
loop-part-preserved c =
    let records = records_of c.args.records.now in
    let types = types_of_fields c.args.own.now in
    let decision = c.args.o.decision in
    let parts = c.args.o.parts in
    let i = c.loop-part.part in
    let fields = c.as_slice-fields.result.now in
    let here : drop i parts ≡ fields ∷ drop (i + 1) parts =
    part_here parts c.as_slice-parts.result.now i c.index-parts-part.result fields c.as_slice-parts.ensures
    c.loop-part-test.true c.index-parts-part.is c.as_slice-fields.ensures in
    let small = small_here records types decision i (drop i parts) (drop (i + 1) parts) fields here greatest_size c.loop-part.invariant.small in
    let size : c.part_size-size.result ≡ (part_layout records types (link decision i) fields).size = omega (arith, c.part_size-size.ensures, small) in
    record {
      placed = part_more records types decision i (drop i parts) (drop (i + 1) parts) fields here c.front-before.result.end c.loop-part.placed
          c.place_part.new.placed _ (ap (λ (it : Extent). it.end) c.front-before.ensures) c.in_ok-place_part.ensures c.loop-part.invariant.placed;
      sizes = size_more records types decision i (drop i parts) (drop (i + 1) parts) fields here c.part_size-size.result c.loop-part.sizes
          c.add.new.list _ size c.in_ok-add.ensures.added c.loop-part.invariant.sizes;
      small = small_more records types decision i (drop i parts) (drop (i + 1) parts) fields here greatest_size c.loop-part.invariant.small;
    }
