use Rattle.std.proofs.Common.{◌≡◌, ◌∙◌, ◌++◌, ap, map}
use Rattle.c_annotated.specs.FileViews.{function_of, mention_of}
use Rattle.c_erasure.specs.Units.{is_among}
use Rattle.c_typed.specs.Programs.{data_of}
use Rattle.c_types.specs.Views.{type_of}
use Rattle.c_units.specs.RecognisedParts.{recognised_function}
use Rattle.c_units.specs.SizeOperands.{operands_of}
use Rattle.c_units.proofs.Stable.{functions_given, mentions_given, types_given}
use Rattle.c_units.proofs.unit.functions_and_mentions.Goals as goal

pub returns-clause-types : goal.returns-clause-types
returns-clause-types c =
    let fs = map function_of c.args.functions in
    let s : is_among c.in_ok-sizes.sizes ≡ is_among (operands_of fs) =
    c.in_ok-sizes.ensures ∙ ap is_among (c.as_slice.ensures ∙ c.in_ok-functions.ensures.places ∙ ap (λ them. them ++ operands_of fs) c.new-places.ensures) in
    types_given (map type_of c.args.types.now) (map type_of c.numbered_functions.new.types) (map type_of c.add_mentions.new.types) (map type_of c.add_mentions-2.new.types)
    fs (map mention_of c.args.mentions.now) (map mention_of c.args.told.now) (is_among c.in_ok-sizes.sizes) (is_among c.new-none.result)
    s (ap is_among c.new-none.ensures) c.in_ok-add_mentions.ensures.types c.in_ok-add_mentions-2.ensures.types c.in_ok-functions.ensures.types

pub returns-clause-functions : goal.returns-clause-functions
returns-clause-functions c =
    let fs = map function_of c.args.functions in
    let s : is_among c.in_ok-sizes.sizes ≡ is_among (operands_of fs) =
    c.in_ok-sizes.ensures ∙ ap is_among (c.as_slice.ensures ∙ c.in_ok-functions.ensures.places ∙ ap (λ them. them ++ operands_of fs) c.new-places.ensures) in
    functions_given (map type_of c.args.types.now) (map type_of c.numbered_functions.new.types) (map type_of c.add_mentions.new.types) (map type_of c.add_mentions-2.new.types)
    fs (map mention_of c.args.mentions.now) (map mention_of c.args.told.now) (is_among c.in_ok-sizes.sizes) (is_among c.new-none.result)
    s (ap is_among c.new-none.ensures) c.in_ok-add_mentions.ensures.types c.in_ok-add_mentions-2.ensures.types
    (map recognised_function fs) (map data_of c.in_ok-functions.functions) (λ later. c.in_ok-functions.ensures.numbered later)

pub returns-clause-mentions : goal.returns-clause-mentions
returns-clause-mentions c =
    let fs = map function_of c.args.functions in
    let s : is_among c.in_ok-sizes.sizes ≡ is_among (operands_of fs) =
    c.in_ok-sizes.ensures ∙ ap is_among (c.as_slice.ensures ∙ c.in_ok-functions.ensures.places ∙ ap (λ them. them ++ operands_of fs) c.new-places.ensures) in
    mentions_given (map type_of c.args.types.now) (map type_of c.numbered_functions.new.types) (map type_of c.add_mentions.new.types) (map type_of c.add_mentions-2.new.types)
    fs (map mention_of c.args.mentions.now) (map mention_of c.args.told.now) (is_among c.in_ok-sizes.sizes) (is_among c.new-none.result)
    s (ap is_among c.new-none.ensures) c.in_ok-add_mentions.ensures.types c.in_ok-add_mentions-2.ensures.types
    c.args.file c.new-found.result c.add_mentions.new.found c.add_mentions-2.new.found c.new-found.ensures
    (λ later. c.in_ok-add_mentions.ensures.numbered later) (λ later. c.in_ok-add_mentions-2.ensures.numbered later)
