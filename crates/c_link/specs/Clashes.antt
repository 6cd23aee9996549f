-- The troubles with tags, record after record.
use Rattle.std.specs.Prelude.{ℕ, Bool, true, false, ◌&&◌, if◌then◌else◌, List, [], ◌∷◌}
use Rattle.std.specs.Str.{bytes_eq}
use Rattle.c_types.specs.Sameness.{same_type}
use Rattle.c_types.specs.Types.{Field, Record}
use Rattle.c_link.specs.declared.troubles.Trouble as declared
use Rattle.c_link.specs.Gaps.{Trouble}
use Rattle.c_link.specs.Repeats.{repeats}

abbrev pub trouble_of : declared.Trouble → Trouble
trouble_of t = record { name = t.name; place = t.place; first = t.first }

abbrev pub same_field : Field → Field → Bool
same_field f g = bytes_eq f.name g.name && same_type f.ty g.ty

abbrev pub same_fields : List Field → List Field → Bool
same_fields [] [] = true
same_fields (f ∷ more) (g ∷ others) = same_field f g && same_fields more others
same_fields all others = false

-- of other members than the first
abbrev pub differing : Record → Record → List Trouble
differing first r = if same_fields r.fields first.fields then [] else record { name = r.tag; place = r.place; first = first.place } ∷ []

-- what is told of records one after another, whose tags have these numbers
abbrev pub clashes : (tags : List (List ℕ)) → (firsts : List Record) → List Record → List Trouble
clashes tags firsts all = repeats (λ r. r.tag) (λ r. true) differing tags firsts all
