-- How many temporaries a function's code asks for beside its locals.
use Rattle.std.specs.Prelude.{ℕ}
use Rattle.c_well_typed.specs.ProgramWeights.Counted.{Kind}
use Rattle.c_well_typed.specs.ProgramWeights.Counted as Kinds

-- what each kind of thing pays for
abbrev pub temporaries : Kind → ℕ
temporaries Kinds.begins = 0
temporaries Kinds.through = 0
temporaries Kinds.to_field = 2
temporaries Kinds.to_element = 2
temporaries Kinds.constant = 0
temporaries Kinds.load = 1
temporaries Kinds.conversion = 1
temporaries Kinds.pointer_sum = 2
temporaries Kinds.operator = 2
temporaries Kinds.assignment = 3
temporaries Kinds.call = 1
temporaries Kinds.argument = 1
temporaries Kinds.part = 2
temporaries Kinds.statement = 2
temporaries Kinds.arm = 0
temporaries Kinds.label = 0
temporaries Kinds.definition = 1
temporaries Kinds.parameter = 0
temporaries Kinds.named_local = 0
temporaries Kinds.block_local = 0
temporaries Kinds.structure = 0
temporaries Kinds.field = 0
