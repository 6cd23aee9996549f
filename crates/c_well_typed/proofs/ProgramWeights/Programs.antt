-- The program of some files is within the bounds, since the units of the files are.
use Rattle.std.proofs.Common.{◌≡◌, ℕ, zero, suc, ◌+◌, List, [], ◌∷◌, ap, sym, subst}
use Rattle.std.specs.Prelude.{Some, slice_get}
use Rattle.lay_base.specs.declared.place.File.{File}
use Rattle.c_ast.specs.Sizes.{size_items}
use Rattle.c_ast.specs.Trees as Syntax
use Rattle.c_typed.specs.Programs.{UnitData}
use Rattle.c_link.specs.Programs.{AreUnitsOf, IsUnitOfFile}
use Rattle.c_well_typed.specs.ProgramWeights.Bounds.{IsBounded, IsProgramBounded, JoinedAreBounded, ProgramsAreBounded, UnitsAreBounded}

-- within the bounds by the number of nodes that it holds
abbrev HasBounds : UnitData → Type 0
HasBounds u = (items : List Syntax.Item) × IsBounded items u × (u.nodes ≡ (size_items items).nodes)

unit_has_bounds : UnitsAreBounded → (number : ℕ) (file : File) (u : UnitData) → IsUnitOfFile number file u → HasBounds u
unit_has_bounds bounded number file u h = (
  h.items,
  bounded number file.name file.bytes h.items u h.tree h.erases,
  ap (λ (u : UnitData). u.nodes) h.erases.unit,
)

units_have_bounds : UnitsAreBounded → (number : ℕ) (files : List File) (units : List UnitData) → AreUnitsOf number files units → (k : ℕ) (u : UnitData)
    → slice_get units k ≡ Some u → HasBounds u
units_have_bounds bounded number [] units h k u e = none (subst (λ (all : List UnitData). slice_get all k ≡ Some u) h e)
  where
    none : slice_get [] k ≡ Some u → HasBounds u
    none e = cc
units_have_bounds bounded number (file ∷ more) units h k u e =
    by_place k (λ k e. units_have_bounds bounded (number + 1) more h.1 h.4 k u e) (subst (λ (all : List UnitData). slice_get all k ≡ Some u) h.2 e)
  where
    by_place : (k : ℕ) → ((k : ℕ) → slice_get h.1 k ≡ Some u → HasBounds u) → slice_get (h.0 ∷ h.1) k ≡ Some u → HasBounds u
    by_place zero later e =
        let is : h.0 ≡ u = cc in
        subst HasBounds is (unit_has_bounds bounded number file h.0 h.3)
    by_place (suc k) later e = later k e

pub programs_are_bounded : UnitsAreBounded → JoinedAreBounded → ProgramsAreBounded
programs_are_bounded bounded joined files p h =
    subst IsProgramBounded (sym h.program.joined_units) (joined h.units (units_have_bounds bounded 0 files h.units h.of_files))
