-- The unit of a tree with that number of nodes.
use Rattle.std.proofs.Common.{◌≡◌, ℕ, List, ap}
use Rattle.c_ast.specs.Sizes.{size_items}
use Rattle.c_ast.specs.Trees as Syntax
use Rattle.c_erasure.specs.Scopes.{FileScope}
use Rattle.c_erasure.specs.Units.{unit_of}
use Rattle.c_units.specs.UnitWith.{unit_with}

pub is_unit_of : (items : List Syntax.Item) (f : FileScope) (nodes : ℕ) → nodes ≡ (size_items items).nodes → unit_with nodes f ≡ unit_of items f
is_unit_of items f nodes h = ap (λ n. unit_with n f) h
