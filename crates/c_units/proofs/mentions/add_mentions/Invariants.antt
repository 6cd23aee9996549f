use Rattle.std.proofs.Common.{◌≡◌, ◌++◌, List, drop, fold, map}
use Rattle.c_annotated.specs.FileViews.{mention_of}
use Rattle.c_erasure.specs.Units.{is_among}
use Rattle.c_numbers.specs.TypeNumbers.Adding.{with_type}
use Rattle.c_types.specs.Types.{CType}
use Rattle.c_types.specs.Views.{type_of}
use Rattle.c_units.specs.NumberedParts.{mention_in}
use Rattle.c_units.specs.SizeOperands.{kept, kept_types}
use Rattle.c_units.proofs.mentions.add_mentions.Given as goal

abbrev pub invariant-loop-m : goal.invariant-loop-m
invariant-loop-m l =
    let is_size = is_among l.sizes in
    let left = map mention_of (drop l.m-index l.all) in
    let whole = map mention_of l.all in
    let known = fold with_type (map type_of l.initial.types) (kept_types is_size whole) in
    record {
      types : fold with_type (map type_of l.types) (kept_types is_size left) ≡ known;
      numbered : (later : List CType) → l.found ++ map (mention_in (fold with_type known later) l.file) (kept is_size left)
          ≡ l.fn.found ++ map (mention_in (fold with_type known later) l.file) (kept is_size whole);
    }
