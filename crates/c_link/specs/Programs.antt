-- The program of some files: each file's bytes have a tree, a unit erases to it, and the units have no gap.
use Rattle.std.specs.Prelude.{◌≡◌, ℕ, ◌+◌, List, [], ◌∷◌}
use Rattle.lay_base.specs.declared.place.File.{File}
use Rattle.c_ast.specs.Trees
use Rattle.c_ast.specs.TreesOfFiles.{IsTreeOf}
use Rattle.c_typed.specs.Programs.{UnitData, ProgramData}
use Rattle.c_erasure.specs.Erasing.{ErasesTo}
use Rattle.c_link.specs.Gaps.{IsProgramOfUnits}

-- the unit of a file by its number
pub record IsUnitOfFile (number : ℕ) (file : File) (u : UnitData) : Type 0 where
  pub items : List Trees.Item
  pub tree : IsTreeOf file.bytes items
  pub erases : ErasesTo number file.name file.bytes items u

-- the units of files, from that number on
abbrev pub AreUnitsOf : ℕ → List File → List UnitData → Type 0
AreUnitsOf number [] units = units ≡ []
AreUnitsOf number (file ∷ more) units = (u : UnitData) × (rest : List UnitData) × (units ≡ u ∷ rest) × IsUnitOfFile number file u
    × AreUnitsOf (number + 1) more rest

pub record IsProgramOf (files : List File) (p : ProgramData) : Type 0 where
  pub units : List UnitData
  pub of_files : AreUnitsOf 0 files units
  pub program : IsProgramOfUnits units p

-- files have at most one program
abbrev pub ProgramsAreOne : Type 0
ProgramsAreOne = (files : List File) (p q : ProgramData) → IsProgramOf files p → IsProgramOf files q → p ≡ q
