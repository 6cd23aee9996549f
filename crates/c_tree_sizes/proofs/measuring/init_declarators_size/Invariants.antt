use Rattle.std.proofs.Common.{drop}
use Rattle.std.specs.Prelude.{map}
use Rattle.c_ast.specs.Sizes.{size_init_declarators}
use Rattle.c_ast.specs.Views.{init_declarator_of}
use Rattle.c_tree_sizes.proofs.Joining.{Joins}
use Rattle.c_tree_sizes.proofs.measuring.init_declarators_size.Given as goal

abbrev pub invariant-loop-d : goal.invariant-loop-d
invariant-loop-d l =
    Joins l.size (size_init_declarators (map init_declarator_of (drop l.d-index l.all))) (size_init_declarators (map init_declarator_of l.all))
