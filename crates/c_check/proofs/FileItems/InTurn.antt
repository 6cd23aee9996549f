-- Items in turn: one, and those after it.
use Rattle.std.proofs.Common.{◌≡◌, ◌<◌, ◌≤◌, ℕ, ◌+◌, List, Vec, length, drop, get_or, map, ap, subst, arith, rules}
use Rattle.std.specs.Prelude.{Ok, max}
use Rattle.std.proofs.Math.Nat.{le-max_right}
use Rattle.std.proofs.lemmas.List.{at_drop_all}
use Rattle.c_ast.specs.declared.tree.Item.{Item}
use Rattle.c_ast.specs.Sizes.{IsCountable, beside, size_item, size_items}
use Rattle.c_ast.specs.Views.{item_of}
use Rattle.c_erasure.specs.Scopes.{FileScope}
use Rattle.c_erasure.specs.Checking.Answers.{◌>>=◌}
use Rattle.c_erasure.specs.Checking.Files.{filed, filed_item}
use Rattle.c_check_parts.proofs.InitializerParts.Lists.{next_mapped}

module _ (all : List Item) (i : ℕ) where
  pub items_next : (item : Item) (f : FileScope) → i < length all → item ≡ get_or all i item
      → filed (map item_of (drop i all)) f ≡ (filed_item (item_of item) f >>= λ g. filed (map item_of (drop (i + 1) all)) g)
  unfolding filed
  items_next item f h e = ap (λ rest. filed rest f) (next_mapped item_of all i item h e)

  pub no_items : (f : FileScope) → length all ≤ i → filed (map item_of (drop i all)) f ≡ Ok f
  unfolding filed
  no_items f h = ap (λ rest. filed rest f) (at_drop_all (map item_of) all i h)

  pub nodes_next : (item : Item) → i < length all → item ≡ get_or all i item
      → (size_items (map item_of (drop i all))).nodes ≡ (size_item (item_of item)).nodes + (size_items (map item_of (drop (i + 1) all))).nodes
  nodes_next item h e = ap (λ rest. (size_items rest).nodes) (next_mapped item_of all i item h e)

  pub rest_countable : (item : Item) → i < length all → item ≡ get_or all i item
      → IsCountable (size_items (map item_of (drop i all))) → IsCountable (size_items (map item_of (drop (i + 1) all)))
  rest_countable item h e k =
      let both : IsCountable (beside (size_item (item_of item)) (size_items (map item_of (drop (i + 1) all)))) =
      subst (λ rest. IsCountable (size_items rest)) (next_mapped item_of all i item h e) k in
      let a = size_item (item_of item) in
      let b = size_items (map item_of (drop (i + 1) all)) in
      let m : b.depth ≤ max a.depth b.depth = le-max_right a.depth b.depth in
      (omega (arith, both.0, m), omega (arith, both.1))

pub counted : {X Z : Type 0} (v : Vec X Z) → v.len ≡ length v.items
counted v = search rules
