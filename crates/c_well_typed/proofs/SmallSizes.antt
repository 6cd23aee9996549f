-- No type of a program of files is larger than the limit of types, nor what one points to.
use Rattle.std.proofs.Common.{◌≢◌, ℕ, zero, suc, ◌*◌, ◌<◌, ◌≤◌, List, [], arith}
use Rattle.std.specs.Prelude.{All}
use Rattle.c_checking_units.specs.TypeLimits.Limits.{HasSmallArrays}
use Rattle.c_types.specs.Layouts.{size_of}
use Rattle.c_types.specs.Limits.{AreComplete, AreSmall, greatest_size}
use Rattle.c_types.specs.Types.{CType, void, integer, pointer, array, function, structure, Record}
use Rattle.c_typed.specs.Programs.{ProgramData}
use Rattle.c_well_typed.specs.Laws.{HasSmallParts, HasSmallSizes, ProgramHasSmallArrays, ProgramHasSmallSizes}
use Rattle.c_well_typed.specs.Printable.Laws.{HasPrintableTypes}
use Rattle.c_well_typed.proofs.Sizing.{not_empty}
use Rattle.c_well_typed.proofs.SmallTypes.{structure_small, width_small}

no_more : (size n : ℕ) → 0 < size → size * n ≤ greatest_size → n ≤ greatest_size
no_more zero n p l = absurd (omega (arith, p))
no_more (suc size) n p l = omega (arith, l)

module _ (all : List Record) (complete : AreComplete all) (small : AreSmall all) (filled : All (λ (r : Record). r.fields ≢ []) all) where
  size_small : (t : CType) → HasSmallArrays all t → size_of all t ≤ greatest_size
  size_small void h = omega arith
  size_small (integer kind) h = width_small kind
  size_small (pointer t) h = omega arith
  size_small (array t n) h = h.1
  size_small (function t more) h = omega arith
  size_small (structure r) h = structure_small all small r

  -- no object is empty, so an array has no more elements than bytes
  parts_small : (t : CType) → HasSmallArrays all t → HasSmallParts all t
  parts_small void h = tt
  parts_small (integer kind) h = tt
  parts_small (pointer t) h = size_small t h
  parts_small (array t n) h = (size_small t h.2, no_more (size_of all t) n (not_empty all complete filled t h.0) h.1)
  parts_small (function t more) h = tt
  parts_small (structure r) h = tt

  sizes_small : (types : List CType) → All (HasSmallArrays all) types → All (HasSmallSizes all) types
  sizes_small types arrays k d h = (size_small _ (arrays k d h), parts_small _ (arrays k d h))

pub program_has_small_sizes : (p : ProgramData) → AreComplete p.records → AreSmall p.records → HasPrintableTypes p → ProgramHasSmallArrays p
    → ProgramHasSmallSizes p
program_has_small_sizes p complete small printable arrays files short is =
    let q = printable files is in
    sizes_small p.records complete small (λ k d h. (q.1 k d h).0) p.types (arrays files short is)
