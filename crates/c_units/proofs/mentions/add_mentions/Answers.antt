use Rattle.std.proofs.Common.{◌≡◌, ◌<◌, ◌+◌, ◌∙◌, ◌∷◌, ◌++◌, ap, drop, fold, get_or, length, map, rules, sym}
use Rattle.std.proofs.lemmas.List.{append-nil, drop_all}
use Rattle.c_annotated.specs.FileViews.{mention_of}
use Rattle.c_erasure.specs.Units.{is_among}
use Rattle.c_numbers.specs.TypeNumbers.Adding.{with_type}
use Rattle.c_types.specs.Views.{type_of}
use Rattle.c_units.specs.NumberedParts.{mention_in}
use Rattle.c_units.specs.SizeOperands.{kept, kept_types}
use Rattle.c_units.proofs.Stable.{next_item, one_more_mention, one_more_type}
use Rattle.c_units.proofs.mentions.add_mentions.Goals as goal

pub loop-m-preserved : goal.loop-m-preserved
loop-m-preserved c =
    let l = c.loop-m in
    let is_size = is_among c.args.sizes.now in
    let all = c.args.all.now in
    let m = c.m-item.result in
    let within : l.m-index < length all = search rules in
    let item : m ≡ get_or all l.m-index m = search rules in
    let rest = map mention_of (drop (l.m-index + 1) all) in
    let left : map mention_of (drop l.m-index all) ≡ mention_of m ∷ rest = ap (map mention_of) (next_item all l.m-index m within item) in
    let after = map type_of c.add_mention.new.types in
    let types = fold with_type (map type_of c.args.types.now) (kept_types is_size (map mention_of all)) in
    let t : fold with_type after (kept_types is_size rest) ≡ types =
    one_more_type is_size c.args.file (map type_of l.types) after types (mention_of m) rest _ left c.in_ok-add_mention.ensures.types l.invariant.types in
    record {
      types = t;
      numbered = λ later. one_more_mention is_size c.args.file after types (mention_of m) rest _ l.found c.add_mention.new.found _ left t
          (λ more. c.in_ok-add_mention.ensures.numbered more) later (l.invariant.numbered later);
    }

pub returns-clause-numbered : goal.returns-clause-numbered
returns-clause-numbered c later =
    let l = c.loop-m in
    let is_size = is_among c.args.sizes.now in
    let all = map mention_of c.args.all.now in
    let types = fold with_type (map type_of c.args.types.now) (kept_types is_size all) in
    let e = drop_all l.m-index c.args.all.now c.loop-m-test.false in
    let t : map type_of l.types ≡ types = ap (λ them. fold with_type (map type_of l.types) (kept_types is_size (map mention_of them))) (sym e) ∙ l.invariant.types in
    sym (append-nil l.found) ∙ ap (λ them. l.found ++ map (mention_in (fold with_type types later) c.args.file) (kept is_size (map mention_of them))) (sym e)
    ∙ l.invariant.numbered later ∙ ap (λ them. c.args.found.now ++ map (mention_in (fold with_type them later) c.args.file) (kept is_size all)) (sym t)
