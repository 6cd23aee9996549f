-- What blocks and the file up to there stand for.
use Rattle.std.specs.Prelude.{List, [], ◌∷◌, map, Option, Some, None}
use Rattle.std.specs.Borrow.{Bor}
use Rattle.c_erasure.specs.Scopes as Scopes
use Rattle.c_annotated.specs.FileViews.{bound_of}
use Rattle.c_scopes.specs.declared.block.Block.{Block, fold-Block}

abbrev pub outer_blocks : Option (Bor (List (List Scopes.Bound))) → List (List Scopes.Bound)
outer_blocks None = []
outer_blocks (Some all) = all.now

-- the innermost first
abbrev pub blocks_of : Block → List (List Scopes.Bound)
blocks_of = fold-Block (List (List Scopes.Bound)) (λ b. map bound_of b.names ∷ outer_blocks b.outer)
