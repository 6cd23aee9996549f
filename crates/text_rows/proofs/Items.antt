-- What holds of the items of a tree holds of those of its list.
use Rattle.std.proofs.Common.{◌<◌, List, All, map, subst, sym}
use Rattle.std.proofs.lemmas.List.{get_or-map, length-map}
use Rattle.c_ast.specs.declared.tree.Item.{Item}
use Rattle.c_ast.specs.Sizes.{IsCountable, size_item}
use Rattle.c_ast.specs.Views.{item_of}

pub are_countable : (items : List Item) → All (λ item. IsCountable (size_item item)) (map item_of items)
    → All (λ item. IsCountable (size_item (item_of item))) items
are_countable items all k d h = subst (λ item. IsCountable (size_item item)) (get_or-map item_of items k d (item_of d) h)
    (all k (item_of d) (subst (λ n. k < n) (sym (length-map items item_of)) h))
