use Rattle.std.proofs.Common.{◌∙◌, [], ap, map}
use Rattle.c_typed.specs.Programs.{unit_data}
use Rattle.c_types.specs.Views.{records_of}
use Rattle.std.specs.Prelude.{flat_map}
use Rattle.c_link.specs.Clashes.{clashes}
use Rattle.c_link.specs.Earliest.{earliest_of}
use Rattle.c_link.specs.Joining.{records_in}
use Rattle.c_link.proofs.TagClashes.{clash_or_none}
use Rattle.c_link.proofs.clashes.tag_clash.Goals as goal

pub returns : goal.returns
returns c =
    let units = map unit_data c.args.units.now in
    let tags = c.args.tags.now in
    let e = c.earliest.ensures ∙ ap earliest_of c.in_ok-tag_troubles.ensures ∙ ap (λ them. earliest_of (clashes tags [] (records_of them))) c.as_slice.ensures
    ∙ ap (λ them. earliest_of (clashes tags [] them)) c.in_ok-all.ensures
    ∙ ap (λ them. earliest_of (clashes them [] (flat_map (records_in them) units))) c.requires in
    clash_or_none units c.earliest.result e
