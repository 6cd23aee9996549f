-- Which objects are declared tentatively, object after object.
use Rattle.std.specs.Prelude.{ℕ, zero, suc, Bool, true, false, List, length, nat_lt, slice_set, [], ◌∷◌, ◌+◌, ◌&&◌, if◌then◌else◌, Option, Some, None, is_none}
use Rattle.std.specs.List.{list_any}
use Rattle.c_typed.specs.Trees.{parts}
use Rattle.c_erasure.specs.Scopes.{AnObject, Bound, How, tentative, Entity, an_object}
use Rattle.c_erasure.specs.Checking.Files.{is_tentative}

-- of so many objects from a number on, whether a definition is tentative
abbrev pub marks_from : List Bound → ℕ → ℕ → List Bool
marks_from names n zero = []
marks_from names n (suc count) = list_any (is_tentative n) names ∷ marks_from names (n + 1) count

abbrev pub settled_by : Bool → AnObject → AnObject
settled_by m o = if is_none o.initial && m then record o { initial = Some (parts []) } else o

abbrev pub is_marked : Option Bool → Bool
is_marked None = false
is_marked (Some m) = m

-- objects with their marks
abbrev pub settled_each : List Bool → List AnObject → List AnObject
settled_each marks [] = []
settled_each [] (o ∷ more) = settled_by false o ∷ settled_each [] more
settled_each (m ∷ marks) (o ∷ more) = settled_by m o ∷ settled_each marks more

-- the marks with that of one more declaration
abbrev pub marked_by : How → Entity → List Bool → List Bool
marked_by tentative (an_object n t) marks = if nat_lt n (length marks) then slice_set marks n true else marks
marked_by how e marks = marks

abbrev pub marked : Bound → List Bool → List Bool
marked b marks = marked_by b.how b.entity marks
