-- What is told of two names with linkage, and what names of the program stand for.
use Rattle.std.specs.Prelude.{Bool, true, ◌&&◌, if◌then◌else◌, List, [], ◌∷◌, map, fold}
use Rattle.c_types.specs.Sameness.{same_type}
use Rattle.c_types.specs.Views.{type_of}
use Rattle.c_numbers.specs.KeyNumbers.Keys.{with_key}
use Rattle.c_typed.specs.Programs.{UnitData}
use Rattle.c_link.specs.Gaps.{IsNameClash, IsTwice, Linked, Trouble, trouble}
use Rattle.c_link.specs.Repeats.{repeats}
use Rattle.c_link.specs.declared.linked.Linked as declared
use Rattle.c_link.specs.declared.names.Asked.{Asked}
use Rattle.c_link.specs.declared.names.Asked.TheVariants.{OneType, OneDefinition}

abbrev pub linked_of : declared.Linked → Linked
linked_of l = record { name = l.name; place = l.place; ty = type_of l.ty; is_defined = l.is_defined }

-- of another type than the first
abbrev pub of_two_types : Linked → Linked → List Trouble
of_two_types first l = if same_type l.ty first.ty then [] else trouble l first ∷ []

-- defined as the first one is
abbrev pub defined_twice : Linked → Linked → List Trouble
defined_twice first l = if first.is_defined && l.is_defined then trouble l first ∷ [] else []

abbrev pub told_by : Asked → Linked → Linked → List Trouble
told_by OneType = of_two_types
told_by OneDefinition = defined_twice

-- which one of a name stands for those before: the first, or the first that is defined
abbrev pub counts : Asked → Linked → Bool
counts OneType l = true
counts OneDefinition l = l.is_defined

abbrev pub troubles_with_names : Asked → List Linked → List Trouble
troubles_with_names asked all = repeats (λ l. l.name) (counts asked) (told_by asked) (fold with_key [] (map (λ l. l.name) all)) [] all

-- the troubles that are asked for
abbrev pub IsAsked : Asked → List UnitData → Trouble → Type 0
IsAsked OneType = IsNameClash
IsAsked OneDefinition = IsTwice
