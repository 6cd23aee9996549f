-- The fields on a path (C99 6.5.2.1, 6.5.2.3).
use Rattle.std.specs.Prelude.{ℕ, Bool, List, [], ◌∷◌}
use Rattle.c_typed.specs.Trees as T
use Rattle.c_typed.specs.Trees.{Path}
use Rattle.c_facts.specs.declared.fact.Fact.{Fact}
use Rattle.c_facts.specs.declared.fact.Fact.TheVariants as F

-- a path that ends in a field, with its subscripts, is one access to that field; the fields within which it lies are not accessed
abbrev pub site : (is_read : Bool) → Path ℕ → List Fact
site is_read (T.path t at (T.member p r field)) = F.Site r field is_read ∷ []
site is_read (T.path t at (T.element p i)) = site is_read p
site is_read p = []

-- the address of an object is one into each record within which the object lies as a field or as a part of one
abbrev pub taken : Path ℕ → List Fact
taken (T.path t at (T.member p r field)) = F.Taken r at ∷ taken p
taken (T.path t at (T.element p i)) = taken p
taken p = []
