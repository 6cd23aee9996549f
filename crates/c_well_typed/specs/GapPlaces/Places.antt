-- Where the gaps of the units of files stand.
use Rattle.std.specs.Prelude.{List}
use Rattle.lay_base.specs.declared.place.File.{File}
use Rattle.c_typed.specs.Programs.{UnitData}
use Rattle.c_link.specs.Gaps.{Gap, tag_clash, name_clash, twice, Trouble, IsGap}
use Rattle.c_link.specs.Programs.{AreUnitsOf}
use Rattle.c_tokens.specs.TokenPlaces.{IsPlaceOf}

-- where a name stands, and where it stood first
abbrev pub StandsIn : List File → Trouble → Type 0
StandsIn files t = IsPlaceOf files t.place × IsPlaceOf files t.first

-- each place that a gap names is one of the files
abbrev pub IsGapIn : List File → Gap → Type 0
IsGapIn files (tag_clash t) = StandsIn files t
IsGapIn files (name_clash t) = StandsIn files t
IsGapIn files (twice t) = StandsIn files t
IsGapIn files gap = Unit {0}

-- ... of the units of files
abbrev pub GapsHavePlaces : Type 0
GapsHavePlaces = (files : List File) (units : List UnitData) (gap : Gap) → AreUnitsOf 0 files units → IsGap units gap → IsGapIn files gap
