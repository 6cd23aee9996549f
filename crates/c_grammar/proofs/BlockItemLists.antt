-- The items of a block and of the body of a switch as lists.
use Rattle.std.proofs.Common.{◌≡◌, List, [], ◌∷◌, refl, ap}
use Rattle.c_ast.specs.Trees
use Rattle.c_ast.specs.Views.{block_items_of, switch_items_of}

abbrev pub block_items_list : Trees.BlockItems → List Trees.BlockItem
block_items_list Trees.no_block_items = []
block_items_list (Trees.and_block_item e more) = e ∷ block_items_list more

abbrev pub switch_items_list : Trees.SwitchItems → List Trees.SwitchItem
switch_items_list Trees.no_switch_items = []
switch_items_list (Trees.and_switch_item switch_item more) = switch_item ∷ switch_items_list more

pub block_items_again : (all : Trees.BlockItems) → block_items_of (block_items_list all) ≡ all
block_items_again Trees.no_block_items = refl
block_items_again (Trees.and_block_item e more) = ap (λ r. Trees.and_block_item e r) (block_items_again more)

pub switch_items_again : (all : Trees.SwitchItems) → switch_items_of (switch_items_list all) ≡ all
switch_items_again Trees.no_switch_items = refl
switch_items_again (Trees.and_switch_item switch_item more) = ap (λ r. Trees.and_switch_item switch_item r) (switch_items_again more)
