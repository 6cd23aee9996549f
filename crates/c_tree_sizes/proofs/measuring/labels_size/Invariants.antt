use Rattle.std.proofs.Common.{drop}
use Rattle.std.specs.Prelude.{map}
use Rattle.c_ast.specs.Sizes.{size_labels}
use Rattle.c_ast.specs.Views.{label_of}
use Rattle.c_tree_sizes.proofs.Joining.{Joins}
use Rattle.c_tree_sizes.proofs.measuring.labels_size.Given as goal

abbrev pub invariant-loop-label : goal.invariant-loop-label
invariant-loop-label l = Joins l.size (size_labels (map label_of (drop l.label-index l.all))) (size_labels (map label_of l.all))
