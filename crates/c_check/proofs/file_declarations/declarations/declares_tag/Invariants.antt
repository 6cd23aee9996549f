use Rattle.std.proofs.Common.{◌≡◌, map, drop}
use Rattle.c_ast.specs.Views.{specifier_of, specifiers_of}
use Rattle.c_erasure.specs.Files.{declares_tag}
use Rattle.c_check.proofs.file_declarations.declarations.declares_tag.Given as goal

abbrev pub invariant-loop-specifier : goal.invariant-loop-specifier
invariant-loop-specifier l = declares_tag (specifiers_of (map specifier_of l.specifiers))
    ≡ declares_tag (specifiers_of (map specifier_of (drop l.specifier-index l.specifiers)))
