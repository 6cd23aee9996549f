-- Accesses to fields, and the group of each: the innermost loop around it, or what of a function is in no loop.
use Rattle.std.specs.Prelude.{ℕ, ◌+◌, ◌==◌, Bool, ◌&&◌, List, [], ◌∷◌}
use Rattle.c_facts.specs.declared.fact.Fact.{Fact}
use Rattle.c_facts.specs.declared.fact.Fact.TheVariants as F
use Rattle.affinity.specs.declared.access.Access.{Access}

abbrev pub access : (of field : ℕ) → (is_read : Bool) → (group : ℕ) → Access
access of field is_read group = record { of = of; field = field; is_read = is_read; group = group }

-- groups are numbered as they begin: a function, then its loops in the order of the text; given are those around the open one, innermost first,
-- the open one, and the number of the next
abbrev pub accesses : (outer : List ℕ) → (inner next : ℕ) → List Fact → List Access
accesses outer inner next [] = []
accesses outer inner next (F.FunctionBegins ∷ more) = accesses [] next (next + 1) more
accesses outer inner next (F.LoopBegins ∷ more) = accesses (inner ∷ outer) next (next + 1) more
accesses [] inner next (F.LoopEnds ∷ more) = accesses [] inner next more
accesses (group ∷ outer) inner next (F.LoopEnds ∷ more) = accesses outer group next more
accesses outer inner next (F.Site of field is_read ∷ more) = access of field is_read inner ∷ accesses outer inner next more
accesses outer inner next (fact ∷ more) = accesses outer inner next more

-- of all functions
abbrev pub accesses_in : List Fact → List Access
accesses_in facts = accesses [] 0 0 facts

abbrev pub is_to : (of field : ℕ) → Access → Bool
is_to of field a = a.of == of && a.field == field
