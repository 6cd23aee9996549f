use Rattle.std.proofs.Common.{◌∙◌, ap, sym}
use Rattle.c_types.specs.Objects.{is_object}
use Rattle.c_types.specs.Views.{type_of}
use Rattle.c_nodes.proofs.Limits.{small_of_none}
use Rattle.c_nodes.proofs.sizes.has_small_size.Goals as goal

pub returns-else-is_object : goal.returns-else-is_object
returns-else-is_object c = small_of_none c.args.records.now (type_of c.args.t.now)
    (ap (λ n. is_object n (type_of c.args.t.now)) (sym c.len.ensures) ∙ sym c.is_object.ensures ∙ c.if-is_object.false)
