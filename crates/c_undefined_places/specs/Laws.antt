-- Where the program of some files stands, and where its undefined steps do.
use Rattle.std.specs.Prelude.{◌≡◌, ℕ, Bool, List}
use Rattle.lay_base.specs.declared.faults.UndefinedKind.{UndefinedKind}
use Rattle.lay_base.specs.declared.place.File.{File}
use Rattle.lay_base.specs.declared.place.Place.{Place}
use Rattle.c_tokens.specs.TokenPlaces.{IsPlaceOf}
use Rattle.c_link.specs.Programs.{IsProgramOf}
use Rattle.c_meaning.specs.Run.{run_of, was_undefined, seen}
use Rattle.c_typed.specs.Programs.{ProgramData}
use Rattle.c_undefined_places.specs.Placed.{FunctionsArePlaced}

-- the place of each function of the program of some files, and each place in its body, is one of the file of its number, with tokens before it
abbrev pub ProgramsStandInFiles : Type 0
ProgramsStandInFiles = (files : List File) (p : ProgramData) → IsProgramOf files p → FunctionsArePlaced (IsPlaceOf files) p

-- where a run of it is undefined, within the room of the interpreter or not, that step stands at such a place
abbrev pub UndefinedStepsStandInFiles : Type 0
UndefinedStepsStandInFiles = (files : List File) (p : ProgramData) → IsProgramOf files p → (input : List ℕ) (turns : ℕ) (limited : Bool)
    (kind : UndefinedKind) (place : Place) (output rest : List ℕ) → seen (run_of p input turns limited) ≡ was_undefined kind place output rest
    → IsPlaceOf files place
