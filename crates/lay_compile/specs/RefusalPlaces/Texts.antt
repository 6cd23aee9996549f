-- The texts FILE:LINE of the places of a refusal of the front end.
use Rattle.std.specs.Prelude.{ℕ, List, Some, IfSome}
use Rattle.lay_base.specs.Known.{Contents}
use Rattle.lay_base.specs.declared.place.File.{File}
use Rattle.lay_base.specs.declared.place.Place.{Place}
use Rattle.c_tokens.specs.TokenPlaces.{IsPlaceOf}
use Rattle.refusals.specs.declared.refusal.Refusal.{Refusal}
use Rattle.refusals.specs.Table.{places}
use Rattle.lay_compile.specs.LineTexts.PlaceTexts.{HasPlaceText}
use Rattle.lay_compile.specs.ProgramFiles.FrontEnd.{AreRefused, HaveTexts}
use Rattle.lay_compile.specs.ProgramFiles.Reading.{WereSo}

-- the place is one of the file of its number, with tokens before it, and this is its text
abbrev pub IsOfPlace : List File → Place → List ℕ → Type 0
IsOfPlace files place text = IsPlaceOf files place × HasPlaceText files place text

-- ... for each place of the refusal
abbrev pub AreOfPlaces : List File → Refusal → (at first : List ℕ) → Type 0
AreOfPlaces files refusal at first =
    IfSome (places refusal).0 (λ place. IsOfPlace files place at) × IfSome (places refusal).1 (λ place. IsOfPlace files place first)

-- where the refusal tells why the files are no program, its texts are those of its places
abbrev pub TextsAreOfPlaces : Type 0
TextsAreOfPlaces = (files : List File) (refusal : Refusal) (at first : List ℕ) → AreRefused files refusal → HaveTexts files refusal at first
    → AreOfPlaces files refusal at first

-- ... the same for the files under some names, as known contents have them
abbrev pub NamedTextsAreOfPlaces : Type 0
NamedTextsAreOfPlaces = (contents : Contents) (names : List (List ℕ)) (refusal : Refusal) (at first : List ℕ)
    → WereSo (Some contents) names (λ files. AreRefused files refusal) → WereSo (Some contents) names (λ files. HaveTexts files refusal at first)
    → WereSo (Some contents) names (λ files. AreOfPlaces files refusal at first)
