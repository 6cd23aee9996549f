use Rattle.std.proofs.Common.{◌≡◌, map, drop}
use Rattle.c_types.specs.Views.{type_of}
use Rattle.c_ast.specs.Views.{init_declarator_of}
use Rattle.c_erasure.specs.Checking.Files.{file_declarators}
use Rattle.c_nodes.specs.DeclaratorTypes.SpecifierViews.{storage_view}
use Rattle.c_scopes.specs.Scoping.{file_of}
use Rattle.c_check.proofs.file_declarations.declarations.declare_all.Given as goal

abbrev pub invariant-loop-number : goal.invariant-loop-number
invariant-loop-number l =
    file_declarators (map init_declarator_of l.declarators) (file_of l.fn.file) (storage_view l.words) (type_of l.base) l.semicolon l.nodes
    ≡ file_declarators (map init_declarator_of (drop l.number l.declarators)) (file_of l.file) (storage_view l.words) (type_of l.base) l.semicolon l.nodes
