use Rattle.std.proofs.Common.{ap, length, refl, sym, ◌∙◌}
use Rattle.std.proofs.lemmas.Bool.{ltb-false, ltb-true}
use Rattle.std.proofs.lemmas.Option.{slice_get_past, slice_get_read}
use Rattle.c_types.specs.Layouts.{size_of}
use Rattle.c_types.specs.Limits.{size_if_small}
use Rattle.c_types.specs.Views.{records_of}
use Rattle.layout_plan.proofs.Sized.{found, none_found, whole}
use Rattle.layout_plan.proofs.outlining.size_at.Goals as goal

pub checked_size_of-requires : goal.checked_size_of-requires
checked_size_of-requires c =
    let at = c.in-Some.ensures.lookup in
    whole c.args.records.now c.args.own.now c.args.f c.in-Some.field.now c.records_are_complete.ensures.complete c.requires
    (slice_get_read c.args.own.now (length c.args.own.now) c.args.f c.in-Some.field.now refl (ltb-true c.args.f (length c.args.own.now) (sym at.0)) at.1)

pub returns-in-Some : goal.returns-in-Some
returns-in-Some c =
    let at = c.in-Some.ensures.lookup in
    c.checked_size_of.ensures ∙ ap (λ t. size_if_small (size_of (records_of c.args.records.now) t)) (sym (found c.args.own.now c.args.f c.in-Some.field.now
    (slice_get_read c.args.own.now (length c.args.own.now) c.args.f c.in-Some.field.now refl (ltb-true c.args.f (length c.args.own.now) (sym at.0)) at.1)))

pub returns-in-None : goal.returns-in-None
returns-in-None c =
    let past = c.in-None.ensures.lookup in
    ap (λ t. size_if_small (size_of (records_of c.args.records.now) t))
    (sym (none_found c.args.own.now c.args.f (slice_get_past c.args.own.now c.args.f (ltb-false c.args.f (length c.args.own.now) (sym past.0)))))
