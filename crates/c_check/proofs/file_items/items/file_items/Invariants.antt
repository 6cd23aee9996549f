use Rattle.std.proofs.Common.{◌≡◌, ◌+◌, length, map, drop}
use Rattle.c_ast.specs.Sizes.{IsCountable, size_items}
use Rattle.c_ast.specs.Views.{item_of}
use Rattle.c_erasure.specs.Checking.Files.{filed}
use Rattle.c_scopes.specs.Scoping.{file_of}
use Rattle.c_check.proofs.file_items.items.file_items.Given as goal

abbrev pub invariant-loop-item : goal.invariant-loop-item
invariant-loop-item l = (filed (map item_of l.fn.items) (file_of l.fn.file) ≡ filed (map item_of (drop (length l.yielded) l.fn.items)) (file_of l.file))
    × (l.nodes + (size_items (map item_of (drop (length l.yielded) l.fn.items))).nodes ≡ (size_items (map item_of l.fn.items)).nodes)
    × IsCountable (size_items (map item_of (drop (length l.yielded) l.fn.items)))
