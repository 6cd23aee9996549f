use Rattle.layout_plan.proofs.Small.{outlines_small}
use Rattle.layout_plan.proofs.parts.outlines_are_small.Goals as goal

pub returns : goal.returns
returns c =
    outlines_small c.layouts_stay.ensures c.added_records_have_their_size.ensures c.sizes_are_multiples.ensures c.args.records.now c.args.own.now c.requires
    c.records_are_complete.ensures.complete c.records_are_complete.ensures.small
