use Rattle.std.proofs.Common.{◌≡◌, map, drop}
use Rattle.c_ast.specs.Views.{specifier_of, specifiers_of}
use Rattle.c_erasure.specs.Specifiers.{types_among}
use Rattle.c_nodes.specs.DeclaratorTypes.WordViews.{others_in}
use Rattle.c_nodes.proofs.declarator_types.words.others_of.Given as goal

abbrev pub invariant-loop-i : goal.invariant-loop-i
invariant-loop-i l = l.others ≡ others_in (types_among (specifiers_of (map specifier_of (drop l.i l.all))))
