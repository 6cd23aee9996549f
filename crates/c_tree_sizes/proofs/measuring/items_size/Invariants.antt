use Rattle.std.proofs.Common.{drop}
use Rattle.std.specs.Prelude.{map}
use Rattle.c_ast.specs.Sizes.{size_items}
use Rattle.c_ast.specs.Views.{item_of}
use Rattle.c_tree_sizes.proofs.Joining.{Joins}
use Rattle.c_tree_sizes.proofs.measuring.items_size.Given as goal

abbrev pub invariant-loop-item : goal.invariant-loop-item
invariant-loop-item l = Joins l.size (size_items (map item_of (drop l.item-index l.all))) (size_items (map item_of l.all))
