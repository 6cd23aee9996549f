use Rattle.std.proofs.Common.{◌≡◌, drop, map}
use Rattle.c_ast.specs.WellFormed.{has_typedef}
use Rattle.c_ast.specs.Views.{specifier_of, specifiers_of}
use Rattle.c_parser.proofs.typenames.has_typedef.Given as goal

abbrev pub invariant-loop-specifier : goal.invariant-loop-specifier
invariant-loop-specifier l = has_typedef (specifiers_of (map specifier_of (drop l.specifier-index l.specifiers)))
    ≡ has_typedef (specifiers_of (map specifier_of l.specifiers))
