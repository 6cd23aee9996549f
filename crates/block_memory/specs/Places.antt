-- What the code knows of the place of an access.
use Rattle.std.specs.Prelude.{◌≡◌, ℕ, Bool, List, Result, Ok, Err, MatchResult, ◌||◌, not}
use Rattle.lay_base.specs.declared.faults.UndefinedKind.{UndefinedKind}
use Rattle.lay_base.specs.declared.faults.UndefinedKind.TheVariants as K
use Rattle.block_memory.specs.declared.place.Place.{Place}
use Rattle.memory_words.specs.declared.cell_words.pointer.Ptr.{Ptr}
use Rattle.block_memory.specs.declared.slot.Slot.{Slot}
use Rattle.block_memory.specs.Accesses.{must, place}
use Rattle.memory_words.specs.declared.cell_words.cell.Cell.{Cell}
use Rattle.block_memory.specs.Slots.{memory_in}
use Rattle.block_memory.specs.Stores.{Does, IsPlace}
use Rattle.block_memory.specs.Blocks.{Memory, cells, with_cells}
use Rattle.block_memory.specs.Ranges.{do_overlap}
use Rattle.block_memory.specs.Tested.{Tested, ◌>>=◌}

abbrev pub PlaceGives : List Slot → List Cell → Ptr → (count width : ℕ) → (stores : Bool) → Result Place UndefinedKind → Type 0
PlaceGives slots all p count width stores result = MatchResult result
    (λ found. (place (memory_in slots all) p count width stores ≡ Ok (found.block, found.at)) × IsPlace slots found.block found.cell found.at count)
    (λ kind. place (memory_in slots all) p count width stores ≡ Err kind)

abbrev pub IsPlaceOf : List Slot → Place → (count : ℕ) → Type 0
IsPlaceOf slots found count = IsPlace slots found.block found.cell found.at count

-- a copy between two places
abbrev pub copied : Memory → (a b : Place) → (count : ℕ) → (overlap : Bool) → Tested Memory
copied m a b count overlap = do
  c ← must (overlap || not (do_overlap (a.block, a.at) (b.block, b.at) count)) K.Overlap
  Ok (with_cells m a.block a.at (cells m b.block b.at count))

abbrev pub CopyGives : List Slot → List Cell → (a b : Place) → (count : ℕ) → (overlap : Bool) → Result (Unit {0}) UndefinedKind → List Slot → List Cell → Type 0
CopyGives slots all a b count overlap result other new =
    Does result (memory_in slots all) (memory_in other new) (copied (memory_in slots all) a b count overlap)
