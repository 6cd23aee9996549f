use Rattle.std.proofs.Common.{◌≡◌, ◌∙◌, ◌++◌, ap, flat_map, fold, map, sym}
use Rattle.c_annotated.specs.FileViews.{function_of, mention_of, object_of}
use Rattle.c_erasure.specs.Units.{of_initializer}
use Rattle.c_initial_values.specs.Values.{mentions_in}
use Rattle.c_numbers.specs.TypeNumbers.Adding.{with_type}
use Rattle.c_typed.specs.Programs.{data_of}
use Rattle.c_types.specs.Views.{type_of}
use Rattle.c_units.specs.CollectedTypes.{object_types}
use Rattle.c_units.specs.NumberedParts.{object_in}
use Rattle.c_units.specs.RecognisedParts.{recognised_function}
use Rattle.c_units.specs.SizeOperands.{given_mentions, told}
use Rattle.c_units.specs.ValuedObjects.{valued, valued_of}
use Rattle.c_units.proofs.Alike.{stores_alike}
use Rattle.c_units.proofs.Stable.{parts_are}
use Rattle.c_units.proofs.Whole.{given_is, mentions_given, types_left}
use Rattle.c_units.proofs.unit.given_by.Goals as goal

pub returns : goal.returns
unfolding mentions_in
returns c f z n r o g m =
    let left = map object_of c.args.objects.now in
    let os = map valued_of c.in_ok-valued.valued in
    let fs = map function_of c.args.functions in
    let ms = map mention_of c.args.mentions.now in
    let others = map mention_of c.as_slice.result.now in
    let none = map type_of c.args.types.now in
    let first = map type_of c.valued_objects.new.types in
    let last = map type_of c.functions_and_mentions.new.types in
    let slice : c.as_slice-2.result.now ≡ c.in_ok-valued.valued = c.as_slice-2.ensures in
    let a : others ≡ told left =
    ap (map mention_of) c.as_slice.ensures ∙ c.in_ok-valued.ensures.told ∙ ap (λ them. map mention_of them ++ told left) c.new-told.ensures in
    let t : first ≡ fold with_type none (flat_map object_types os) =
    c.in_ok-valued.ensures.types ∙ ap (λ them. fold with_type none (flat_map object_types them)) (sym c.in_ok-valued.ensures.valued) in
    let v : os ≡ map (valued (of_initializer f)) left =
    c.in_ok-valued.ensures.valued ∙ ap (λ stores. map (valued stores) left) (stores_alike f c.args.records.now c.args.objects.now r (types_left f.objects c.args.objects.now o)) in
    parts_are c.args.file os fs ms others none first last c.in_ok-objects.objects (map data_of c.in_ok-left.left.0) c.in_ok-left.left.1
    (ap (map type_of) z) t (c.in_ok-left.ensures.types)
    (c.in_ok-objects.ensures ∙ ap (λ them. map (object_in last) (map valued_of them)) slice)
    c.in_ok-left.ensures.functions c.in_ok-left.ensures.mentions
    ∙ given_is f c.args.file left os (map recognised_function fs) (given_mentions fs ms others) n o v (ap (map recognised_function) (sym g))
    (mentions_given f left fs ms others o g m a)
