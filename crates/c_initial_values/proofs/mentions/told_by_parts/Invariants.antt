use Rattle.std.proofs.Common.{◌≡◌, ◌++◌, drop}
use Rattle.std.specs.Prelude.{flat_map, map}
use Rattle.c_annotated.specs.Views.{part_of}
use Rattle.c_erasure.specs.InitialMentions.{told_by_value}
use Rattle.c_typed.specs.Mapped.{mapped_part, of_types}
use Rattle.c_initial_values.specs.Values.{mentions_in}
use Rattle.c_initial_values.proofs.mentions.told_by_parts.Given as goal

abbrev pub invariant-loop-part : goal.invariant-loop-part
invariant-loop-part l =
    mentions_in l.found ++ flat_map (λ part. told_by_value part.value) (map (mapped_part (of_types (λ t. t.ty))) (map part_of (drop l.part-index l.all)))
    ≡ mentions_in l.fn.found ++ flat_map (λ part. told_by_value part.value) (map (mapped_part (of_types (λ t. t.ty))) (map part_of l.all))
