-- The text FILE:LINE of a place in files.
use Rattle.std.specs.Prelude.{◌≡◌, ℕ, List, ◌∷◌, ◌++◌, take, decimal, slice_get, Option, Some, None}
use Rattle.lay_base.specs.declared.place.File.{File}
use Rattle.lay_base.specs.declared.place.Place.{Place}
use Rattle.c_tokens.specs.TokenPlaces.{IsPlaceIn}
use Rattle.c_tokens.specs.Presuming.{IsPresumed}
use Rattle.c_tokens.specs.declared.presumed.Presumed.{Presumed}
use Rattle.c_erasure.specs.Untagged.{Line, IsLineOf}

-- a file and a line, with a colon between them
abbrev pub line_text : Line → List ℕ
line_text line = line.0 ++ 58 ∷ decimal line.1

-- the text is the presumed file and line of a byte before which there are tokens (C99 6.10.4); of any other byte it says nothing
abbrev pub IsTextAt : File → ℕ → List ℕ → Type 0
IsTextAt file at text = IsPlaceIn file.bytes at → (line : Line) × IsLineOf file.name file.bytes at line × (text ≡ line_text line)

-- ... of a place in one of the files
abbrev pub IsPlaceText : List File → Place → List ℕ → Type 0
IsPlaceText files place text = (file : File) → slice_get files place.file ≡ Some file → IsTextAt file place.at text

-- the place is in one of the files, and the text is the presumed file and line of it
abbrev pub HasPlaceText : List File → Place → List ℕ → Type 0
HasPlaceText files place text = (file : File) × (slice_get files place.file ≡ Some file)
    × ((line : Line) × IsLineOf file.name file.bytes place.at line × (text ≡ line_text line))

-- what is presumed of a byte, where there are tokens before it
abbrev pub PresumesIfAny : List ℕ → ℕ → Option Presumed → Type 0
PresumesIfAny bytes at (Some presumed) = IsPresumed (take at bytes) presumed
PresumesIfAny bytes at None = IsPlaceIn bytes at → ⊥
