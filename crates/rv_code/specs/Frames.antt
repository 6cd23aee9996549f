-- What a function's frame has where, in bytes from the stack pointer on: the place to which the function returns, a word for each temporary, with the
-- locals among them, and the blocks of locals.
use Rattle.std.specs.Prelude.{ℕ, suc, ◌+◌, ◌*◌, ◌/◌, max, if◌then◌else◌, List, [], ◌∷◌, length, replicate, slice_index, slice_set, Option, Some, None}
use Rattle.tac_ir.specs.Code.{RoutineData}
use Rattle.tac_ir.specs.Kinds.{taken_by}
use Rattle.tac_ir.specs.declared.step.Parameter.{Parameter}
use Rattle.tac_ir.specs.declared.step.Step.{Step}
use Rattle.tac_ir.specs.declared.step.Step.TheVariants as S

-- ---- how large the block of each local is, by the local's number; 0 where it has none

-- a block of that size is that local's
abbrev pub with_size : (x size : ℕ) → List ℕ → List ℕ
with_size x size sizes = slice_set sizes x (max size (slice_index sizes x))

-- a parameter that is kept by name has none
abbrev pub block_size : Parameter → ℕ
block_size r = if r.block then r.size else 0

-- of the parameters from the x-th on
abbrev pub sizes_of_parameters : (x : ℕ) → List Parameter → List ℕ → List ℕ
sizes_of_parameters x [] sizes = sizes
sizes_of_parameters x (r ∷ more) sizes = with_size x (block_size r) (sizes_of_parameters (x + 1) more sizes)

abbrev pub sizes_with : Step → List ℕ → List ℕ
sizes_with (S.Begin x size) sizes = with_size x size sizes
sizes_with s sizes = sizes

abbrev pub sizes_in : List Step → List ℕ → List ℕ
sizes_in [] sizes = sizes
sizes_in (s ∷ more) sizes = sizes_with s (sizes_in more sizes)

abbrev pub block_sizes : RoutineData → List ℕ
block_sizes g = sizes_in g.code (sizes_of_parameters 0 g.parameters (replicate (length g.locals) 0))

-- ---- where things are

-- the temporary that a step writes, or whose value it returns
abbrev pub kept_by : Step → Option ℕ
kept_by (S.ReturnHeld t) = Some t
kept_by s = taken_by s

-- one more than the greatest of these
abbrev pub past : Option ℕ → ℕ
past None = 0
past (Some t) = suc t

abbrev pub kept_in : List Step → ℕ → ℕ
kept_in [] least = least
kept_in (s ∷ more) least = max (past (kept_by s)) (kept_in more least)

-- a word for each local, and for each of these temporaries
abbrev pub slots : RoutineData → ℕ
slots g = kept_in g.code (length g.locals)

abbrev pub slot_at : (t : ℕ) → ℕ
slot_at t = 4 + 4 * t

-- each block begins at a multiple of 4
abbrev pub whole_words : ℕ → ℕ
whole_words size = (size + 3) / 4 * 4

abbrev pub places_from : (at : ℕ) → (sizes : List ℕ) → List ℕ
places_from at [] = []
places_from at (size ∷ more) = at ∷ places_from (at + whole_words size) more

-- behind the last of them
abbrev pub end_from : (at : ℕ) → (sizes : List ℕ) → ℕ
end_from at [] = at
end_from at (size ∷ more) = end_from (at + whole_words size) more

-- of each local, where its block is
abbrev pub block_places : RoutineData → List ℕ
block_places g = places_from (slot_at (slots g)) (block_sizes g)

-- frames are multiples of 16 bytes
abbrev pub frame_size : RoutineData → ℕ
frame_size g = (end_from (slot_at (slots g)) (block_sizes g) + 15) / 16 * 16
