use Rattle.std.proofs.Common.{arith}
use Rattle.c_types.specs.Views.{records_of, type_of}
use Rattle.layout_plan.proofs.Small.{one_positive}
use Rattle.layout_plan.proofs.parts.alignment_at.Goals as goal

pub returns-in-Some-clause-positive : goal.returns-in-Some-clause-positive
returns-in-Some-clause-positive c =
    omega (arith, c.align_of.ensures, one_positive _ ((c.sizes_are_multiples.ensures (records_of c.args.records.now)).one_of (type_of c.in-Some.field.now.ty)))
