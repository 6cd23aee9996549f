-- The types of a program of files are small, by their sizes.
use Rattle.std.proofs.Common.{◌≡◌, ℕ, ◌<◌, ◌≤◌, sym, subst, arith, length, inl, inr}
use Rattle.std.proofs.lemmas.Option.{slice_get_cases}
use Rattle.std.specs.Prelude.{◌⊎◌, All, Option, Some, None, slice_get, get_or, unwrap_or}
use Rattle.c_types.specs.Limits.{greatest_size}
use Rattle.c_types.specs.Types.{CType, void, integer, pointer, array, function, structure}
use Rattle.c_typed.specs.Programs.{ProgramData}
use Rattle.c_meaning.specs.Program.{element_size, length_of}
use Rattle.c_well_typed.specs.Laws.{HasSmallParts, HasSmallSizes, ProgramHasSmallSizes}
use Rattle.c_well_typed.proofs.Sizing.{at_all}
use Rattle.source_values.specs.Rows.{IsSmall, TypesAreSmall, row_for, row_of}
use Rattle.code_bounds.specs.StartLaws.{ProgramHasSmallTypes}

module _ (p : ProgramData) where
  element_small : (t : CType) → HasSmallParts p.records t → element_size p t ≤ greatest_size
  element_small void h = omega arith
  element_small (integer kind) h = omega arith
  element_small (pointer t) h = h
  element_small (array t n) h = h.0
  element_small (function t all) h = omega arith
  element_small (structure r) h = omega arith

  length_small : (t : CType) → HasSmallParts p.records t → length_of t ≤ greatest_size
  length_small void h = omega arith
  length_small (integer kind) h = omega arith
  length_small (pointer t) h = omega arith
  length_small (array t n) h = h.1
  length_small (function t all) h = omega arith
  length_small (structure r) h = omega arith

  row_small : (n : ℕ) (t : CType) → HasSmallSizes p.records t → IsSmall (row_for p t n)
  row_small n t h = record { size = h.0; element = element_small t h.1; length = length_small t h.1 }

  types_small : All (HasSmallSizes p.records) p.types → TypesAreSmall p
  types_small all n = by_place (slice_get_cases p.types n).1
    where
      by_place : ((t : CType) × (n < length p.types) × (slice_get p.types n ≡ Some t) × (get_or p.types n t ≡ t))
          ⊎ ((length p.types ≤ n) × (slice_get p.types n ≡ None)) → IsSmall (row_of p n)
      by_place (inl z) =
          subst (λ (o : Option CType). IsSmall (row_for p (unwrap_or o void) n)) (sym z.2) (row_small n z.0 (at_all (HasSmallSizes p.records) p.types n z.0 all z.2))
      by_place (inr z) = subst (λ (o : Option CType). IsSmall (row_for p (unwrap_or o void) n)) (sym z.1) (row_small n void (omega arith, tt))

pub program_has_small_types : (p : ProgramData) → ProgramHasSmallSizes p → ProgramHasSmallTypes p
program_has_small_types p sizes files short is = types_small p (sizes files short is)
