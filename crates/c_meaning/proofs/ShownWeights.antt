-- The weights of a trace are those of what it shows in all languages.
use Rattle.std.proofs.Common.{◌≡◌, refl, ap, ◌∙◌, ◌+◌, ◌*◌, max, List, [], ◌∷◌, drop}
use Rattle.c_typed.specs.Programs.{ProgramData}
use Rattle.block_memory.specs.RunWorlds.Events.{Event, put, got, allocated, freed, loaded, stored, reached, entered, left, began, shown, heap_weight}
use Rattle.c_meaning.specs.Shown.{IsWeighedAsShown}
use Rattle.c_meaning.specs.Weights.{active, frames, greatest_frames}

heap_as_shown : (trace : List Event) → heap_weight (shown trace) ≡ heap_weight trace
heap_as_shown [] = refl
heap_as_shown (put byte ∷ before) = heap_as_shown before
heap_as_shown (got byte ∷ before) = heap_as_shown before
heap_as_shown (allocated block elements size ∷ before) = ap (λ n. n + (16 * size + 256)) (heap_as_shown before)
heap_as_shown (freed block ∷ before) = heap_as_shown before
heap_as_shown (loaded block at width ∷ before) = heap_as_shown before
heap_as_shown (stored block at width ∷ before) = heap_as_shown before
heap_as_shown (reached block at ∷ before) = heap_as_shown before
heap_as_shown (entered function ∷ before) = heap_as_shown before
heap_as_shown (left ∷ before) = heap_as_shown before
heap_as_shown (began function loop ∷ before) = heap_as_shown before

module _ (p : ProgramData) where
  active_as_shown : (trace : List Event) → active p (shown trace) ≡ active p trace
  active_as_shown [] = refl
  active_as_shown (put byte ∷ before) = active_as_shown before
  active_as_shown (got byte ∷ before) = active_as_shown before
  active_as_shown (allocated block elements size ∷ before) = active_as_shown before
  active_as_shown (freed block ∷ before) = active_as_shown before
  active_as_shown (loaded block at width ∷ before) = active_as_shown before
  active_as_shown (stored block at width ∷ before) = active_as_shown before
  active_as_shown (reached block at ∷ before) = active_as_shown before
  active_as_shown (entered function ∷ before) = ap (λ all. function ∷ all) (active_as_shown before)
  active_as_shown (left ∷ before) = ap (λ all. drop 1 all) (active_as_shown before)
  active_as_shown (began function loop ∷ before) = active_as_shown before

  frames_as_shown : (trace : List Event) → greatest_frames p (shown trace) ≡ greatest_frames p trace
  frames_as_shown [] = refl
  frames_as_shown (put byte ∷ before) = frames_as_shown before
  frames_as_shown (got byte ∷ before) = frames_as_shown before
  frames_as_shown (allocated block elements size ∷ before) = frames_as_shown before
  frames_as_shown (freed block ∷ before) = frames_as_shown before
  frames_as_shown (loaded block at width ∷ before) = frames_as_shown before
  frames_as_shown (stored block at width ∷ before) = frames_as_shown before
  frames_as_shown (reached block at ∷ before) = frames_as_shown before
  frames_as_shown (entered function ∷ before) =
      ap (λ all. max (frames p (function ∷ all)) (greatest_frames p (shown before))) (active_as_shown before)
      ∙ ap (λ n. max (frames p (function ∷ active p before)) n) (frames_as_shown before)
  frames_as_shown (left ∷ before) = frames_as_shown before
  frames_as_shown (began function loop ∷ before) = frames_as_shown before

  pub weighed_as_shown : (trace : List Event) → IsWeighedAsShown p trace
  weighed_as_shown trace = record { heap = heap_as_shown trace; stack = ap (λ n. 16384 + n) (frames_as_shown trace) }
