-- What is said of types and of records, and what they violate, stands at places of the files.
use Rattle.std.specs.Prelude.{ℕ, List, All}
use Rattle.lay_base.specs.declared.place.File.{File}
use Rattle.lay_base.specs.declared.place.Place.{Place}
use Rattle.c_tokens.specs.TokenPlaces.{IsPlaceOf}
use Rattle.c_facts.specs.declared.fact.Fact.{Fact}
use Rattle.c_facts.specs.declared.fact.Fact.TheVariants as F
use Rattle.c_facts.specs.Programs.{facts_of}
use Rattle.c_link.specs.Programs.{IsProgramOf}
use Rattle.c_typed.specs.Programs.{ProgramData}
use Rattle.legality.specs.declared.violation.Test.{Test}
use Rattle.legality.specs.Breaches.{Violates}

-- the place of a fact, if it has one, is so
abbrev pub IsPlacedFact : (Place → Type 0) → Fact → Type 0
IsPlacedFact Is (F.Converted s t at) = Is at
IsPlacedFact Is (F.Taken r at) = Is at
IsPlacedFact Is (F.Passed which t at) = Is at
IsPlacedFact Is (F.Function t at) = Is at
IsPlacedFact Is (F.Copied t at) = Is at
IsPlacedFact Is fact = Unit {0}

-- what the functions of the program of some files say stands in these, with tokens before it
abbrev pub FactsStandInFiles : Type 0
FactsStandInFiles = (files : List File) (p : ProgramData) → IsProgramOf files p → All (IsPlacedFact (IsPlaceOf files)) (facts_of p)

-- where a record of such a program violates a test, it does so at such a place
abbrev pub ViolationsStandInFiles : Type 0
ViolationsStandInFiles = (files : List File) (p : ProgramData) → IsProgramOf files p → (number : ℕ) (test : Test) (place : Place)
    → Violates p number test place → IsPlaceOf files place
