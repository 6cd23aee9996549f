use Rattle.std.proofs.Common.{◌≡◌, ◌++◌, drop, map}
use Rattle.c_annotated.specs.Views.{arm_of as noted_arm}
use Rattle.c_annotated.specs.Views.{statement_of as noted_statement}
use Rattle.c_typed.specs.Mapped.{mapped_statement}
use Rattle.c_typed.specs.Views.{arm_of, statement_of}
use Rattle.c_numbered.specs.Numbered.{numbered, numbered_arm}
use Rattle.c_numbered.proofs.statements.+statement_numbering.Given as goal

abbrev pub invariant-statements-loop-s : goal.invariant-statements-loop-s
invariant-statements-loop-s l = map statement_of l.done ++ map (mapped_statement (numbered l.by.types.now)) (map noted_statement (drop l.s-index l.all))
    ≡ map (mapped_statement (numbered l.by.types.now)) (map noted_statement l.all)

abbrev pub invariant-arms-loop-it : goal.invariant-arms-loop-it
invariant-arms-loop-it l = map arm_of l.done ++ map (numbered_arm l.by.types.now) (map noted_arm (drop l.it-index l.all))
    ≡ map (numbered_arm l.by.types.now) (map noted_arm l.all)
