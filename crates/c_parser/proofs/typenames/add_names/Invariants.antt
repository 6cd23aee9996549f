use Rattle.std.proofs.Common.{◌≡◌, ◌++◌, drop, map}
use Rattle.c_ast.specs.WellFormed.{declared_names}
use Rattle.c_ast.specs.Views.{init_declarator_of}
use Rattle.c_parser.proofs.typenames.add_names.Given as goal

abbrev pub invariant-loop-one : goal.invariant-loop-one
invariant-loop-one l = l.types ++ declared_names (map init_declarator_of (drop l.one-index l.declarators))
    ≡ l.fn.types ++ declared_names (map init_declarator_of l.declarators)
