-- Statements in turn: those of one item, and of those after it.
use Rattle.std.proofs.Common.{◌≡◌, ◌∙◌, ◌<◌, ◌≤◌, ℕ, ◌+◌, List, length, drop, get_or, Bool, ap}
use Rattle.std.specs.Prelude.{Ok, map}
use Rattle.std.proofs.lemmas.List.{at_drop_all}
use Rattle.c_types.specs.Types.{CType}
use Rattle.c_ast.specs.declared.statement.BlockItem.{BlockItem}
use Rattle.c_ast.specs.Trees
use Rattle.c_ast.specs.Views.{block_item_of, block_items_of}
use Rattle.c_erasure.specs.Scopes.{Scope}
use Rattle.c_erasure.specs.Statements.{Statements}
use Rattle.c_erasure.specs.Checking.Answers.{◌>>=◌}
use Rattle.c_erasure.specs.Checking.Statements.{item_in, items_in}
use Rattle.c_check_parts.specs.BlockLocals.Performing.{statements_after}
use Rattle.c_check_parts.proofs.BlockLocals.InTurn.{in_turn, nothing_after}
use Rattle.c_check_parts.proofs.InitializerParts.Lists.{next_mapped}

pub items_turn : (result : CType) (before : Statements) (e : Trees.BlockItem) (more : Trees.BlockItems) (s : Scope) (loop switch : Bool)
    → statements_after before (items_in result (Trees.and_block_item e more) s loop switch)
    ≡ (statements_after before (item_in result e s loop switch) >>= λ own. statements_after own.0 (items_in result more own.1 loop switch))
unfolding items_in
items_turn result before e more s loop switch = in_turn before (item_in result e s loop switch) (λ after. items_in result more after loop switch)

pub items_end : (result : CType) (before : Statements) (s : Scope) (loop switch : Bool)
    → statements_after before (items_in result Trees.no_block_items s loop switch) ≡ Ok (before, s)
unfolding items_in
items_end result before s loop switch = ap (λ all. Ok (all, s)) (nothing_after before)

-- ---- the next item of a list, and its end

module _ (result : CType) (before : Statements) (all : List BlockItem) (i : ℕ) where
  pub items_next : (item : BlockItem) (s : Scope) (loop switch : Bool) → i < length all → item ≡ get_or all i item
      → statements_after before (items_in result (block_items_of (map block_item_of (drop i all))) s loop switch)
      ≡ (statements_after before (item_in result (block_item_of item) s loop switch)
      >>= λ own. statements_after own.0 (items_in result (block_items_of (map block_item_of (drop (i + 1) all))) own.1 loop switch))
  items_next item s loop switch h e =
      ap (λ rest. statements_after before (items_in result (block_items_of rest) s loop switch)) (next_mapped block_item_of all i item h e)
      ∙ items_turn result before (block_item_of item) (block_items_of (map block_item_of (drop (i + 1) all))) s loop switch

  pub no_items : (s : Scope) (loop switch : Bool) → length all ≤ i
      → statements_after before (items_in result (block_items_of (map block_item_of (drop i all))) s loop switch) ≡ Ok (before, s)
  no_items s loop switch h =
      ap (λ rest. statements_after before (items_in result (block_items_of rest) s loop switch)) (at_drop_all (map block_item_of) all i h)
      ∙ items_end result before s loop switch
