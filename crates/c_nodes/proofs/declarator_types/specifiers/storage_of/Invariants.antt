use Rattle.std.proofs.Common.{◌≡◌, map, drop}
use Rattle.c_ast.specs.Views.{specifier_of, specifiers_of}
use Rattle.c_erasure.specs.Specifiers.{storage_of, together}
use Rattle.c_nodes.specs.DeclaratorTypes.SpecifierViews.{storage_view}
use Rattle.c_nodes.proofs.declarator_types.specifiers.storage_of.Given as goal

abbrev pub invariant-loop-specifier : goal.invariant-loop-specifier
invariant-loop-specifier l = storage_of (specifiers_of (map specifier_of l.all))
    ≡ together (storage_view l.storage) (storage_of (specifiers_of (map specifier_of (drop l.specifier-index l.all))))
