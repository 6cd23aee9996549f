use Rattle.std.proofs.Common.{length, ap, ◌∙◌}
use Rattle.c_types.proofs.Longer.{length-laid}
use Rattle.c_types.proofs.records.Records.layouts.Goals as goal

pub returns-clause-count : goal.returns-clause-count
returns-clause-count c =
    ap length c.deref.ensures.value ∙ length-laid c.self.inside.records.items c.self.inside.layouts.items c.self.invariant ∙ ap length c.self.view_is
