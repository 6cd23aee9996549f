-- Types of which each record that stands in an array is accused: of elements of arrays it is asked that they are complete, and accused where they are records.
use Rattle.std.proofs.Common.{◌≡◌, ℕ, true, List}
use Rattle.std.specs.List.{AllByRecursion}
use Rattle.c_types.specs.Objects.{is_object}
use Rattle.c_types.specs.Types.{CType, CTypes, void, integer, pointer, array, function, structure, no_types, and_type}
use Rattle.c_well_typed.proofs.NamesInScope.{joined}
use Rattle.c_well_typed.proofs.Numbers.{two_parts}
use Rattle.c_well_typed.proofs.WellMade.{IsMade, AreMade, IsWellMade, AreWellMade}
use Rattle.legality.specs.InTypes.{arrays_in, arrays_in_all, itself}

module _ (count : ℕ) (A : ℕ → Type 0) where
  abbrev pub Are : List ℕ → Type 0
  Are numbers = AllByRecursion A numbers

  abbrev pub IsElement : CType → Type 0
  IsElement t = (is_object count t ≡ true) × Are (itself t)

  abbrev pub IsTold : CType → Type 0
  IsTold = IsMade IsElement

  mutual
    pub told : (t : CType) → IsWellMade count t → Are (arrays_in t) → IsTold t
    told void w a = tt
    told (integer kind) w a = tt
    told (pointer t) w a = told t w a
    told (array t n) w a = let p = two_parts A (itself t) (arrays_in t) a in (w.0, (w.1, p.0), told t w.2 p.1)
    told (function t all) w a = let p = two_parts A (arrays_in t) (arrays_in_all all) a in (w.0, told t w.1 p.0, all_told all w.2 p.1)
    told (structure r) w a = tt

    all_told : (all : CTypes) → AreWellMade count all → Are (arrays_in_all all) → AreMade IsElement all
    all_told no_types w a = tt
    all_told (and_type t more) w a = let p = two_parts A (arrays_in t) (arrays_in_all more) a in (w.0, told t w.1 p.0, all_told more w.2 p.1)

  mutual
    pub arrays : (t : CType) → IsTold t → Are (arrays_in t)
    arrays void w = tt
    arrays (integer kind) w = tt
    arrays (pointer t) w = arrays t w
    arrays (array t n) w = joined A (itself t) (arrays_in t) w.1.1 (arrays t w.2)
    arrays (function t all) w = joined A (arrays_in t) (arrays_in_all all) (arrays t w.1) (all_arrays all w.2)
    arrays (structure r) w = tt

    all_arrays : (all : CTypes) → AreMade IsElement all → Are (arrays_in_all all)
    all_arrays no_types w = tt
    all_arrays (and_type t more) w = joined A (arrays_in t) (arrays_in_all more) (arrays t w.1) (all_arrays more w.2)

  mutual
    pub made : (t : CType) → IsTold t → IsWellMade count t
    made void w = tt
    made (integer kind) w = tt
    made (pointer t) w = made t w
    made (array t n) w = (w.0, w.1.0, made t w.2)
    made (function t all) w = (w.0, made t w.1, all_made all w.2)
    made (structure r) w = tt

    all_made : (all : CTypes) → AreMade IsElement all → AreWellMade count all
    all_made no_types w = tt
    all_made (and_type t more) w = (w.0, made t w.1, all_made more w.2)
