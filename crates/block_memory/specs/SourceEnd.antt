-- What a run of a source program comes to, when it is given a number of turns.
use Rattle.std.specs.Prelude.{ℕ, List}
use Rattle.lay_base.specs.declared.faults.UndefinedKind.{UndefinedKind}
use Rattle.lay_base.specs.declared.place.Place.{Place}

-- Each has the output so far and the rest of the input.
pub data SourceEnd : Type 0 where
  -- it ended with this status
  Ends : (output : List ℕ) (status : ℕ) (rest : List ℕ) → SourceEnd
  -- the turns are used up, and the next would begin
  GoesOn : (output rest : List ℕ) → SourceEnd
  -- the step at this place has no defined meaning
  Undefined : (kind : UndefinedKind) (place : Place) (output rest : List ℕ) → SourceEnd

abbrev pub IsDefined : SourceEnd → Type 0
IsDefined (Undefined kind place output rest) = ⊥
IsDefined _ = Unit {0}
