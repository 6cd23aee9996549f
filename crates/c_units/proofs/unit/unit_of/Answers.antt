use Rattle.std.proofs.Common.{◌≡◌, ◌∙◌, List, ap, drop, length, map, refl, sym}
use Rattle.std.proofs.lemmas.List.{length-map}
use Rattle.c_annotated.specs.FileViews.{mention_of, object_of}
use Rattle.c_scopes.specs.Scoping.{file_of}
use Rattle.c_typed.specs.Programs.{unit_data}
use Rattle.c_types.specs.declared.ty.Ty.{Ty}
use Rattle.c_types.specs.Views.{record_of, records_of}
use Rattle.c_units.specs.UnitWith.{given_by, parts_of}
use Rattle.c_units.proofs.Whole.{unit_is}
use Rattle.c_units.proofs.unit.unit_of.Goals as goal

pub returns : goal.returns
returns c =
    let file = c.args.file in
    let parts = parts_of c.given_by.new.types c.in_ok-given.given in
    let g : parts ≡ given_by (file_of file) =
    c.in_ok-given.ensures (file_of file) c.new-types.ensures refl refl (ap (map object_of) c.as_slice.ensures ∙ c.in_ok-recognise_objects.ensures) refl
    (ap (map mention_of) (sym c.as_slice-2.ensures)) in
    let i : c.in_ok-incomplete.incomplete ≡ drop (length (records_of file.records)) file.tags.numbered =
    c.in_ok-incomplete.ensures ∙ ap (λ n. drop n file.tags.numbered) (c.len.ensures ∙ sym (length-map file.records record_of)) in
    ap (λ (them : List Ty). unit_data (record {
      records = file.records;
      incomplete = c.in_ok-incomplete.incomplete;
      types = them;
      objects = c.in_ok-given.given.0;
      functions = c.in_ok-given.given.1;
      mentions = c.in_ok-given.given.2;
      nodes = c.args.nodes;
    })) c.into_list.ensures
    ∙ unit_is c.args.nodes (file_of file) parts c.in_ok-incomplete.incomplete g i
