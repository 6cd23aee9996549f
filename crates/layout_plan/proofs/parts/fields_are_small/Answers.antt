use Rattle.layout_plan.proofs.Fields.{fields_small}
use Rattle.layout_plan.proofs.parts.fields_are_small.Goals as goal

pub returns : goal.returns
returns c =
    fields_small c.args.records.now c.args.own.now c.requires c.records_are_complete.ensures.complete c.records_are_complete.ensures.small
    c.fields_lie_apart.ensures
