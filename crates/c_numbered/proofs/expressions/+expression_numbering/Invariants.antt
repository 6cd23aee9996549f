use Rattle.std.proofs.Common.{◌≡◌, ◌++◌, drop, map}
use Rattle.c_annotated.specs.Views.{expression_of as noted_expression}
use Rattle.c_typed.specs.Mapped.{mapped}
use Rattle.c_typed.specs.Views.{expression_of}
use Rattle.c_numbered.specs.Numbered.{numbered}
use Rattle.c_numbered.proofs.expressions.+expression_numbering.Given as goal

abbrev pub invariant-expressions-loop-e : goal.invariant-expressions-loop-e
invariant-expressions-loop-e l = map expression_of l.done ++ map (mapped (numbered l.by.types.now)) (map noted_expression (drop l.e-index l.all))
    ≡ map (mapped (numbered l.by.types.now)) (map noted_expression l.all)
