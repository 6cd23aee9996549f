-- What is well typed.
use Rattle.std.specs.Prelude.{◌≡◌, ℕ, ◌≤◌, true, List, ◌++◌, length, All, Some}
use Rattle.lay_base.specs.declared.place.File.{File}
use Rattle.c_ast.specs.Trees
use Rattle.c_ast.specs.TreesOfFiles.{IsTreeOf}
use Rattle.c_erasure.specs.Erasing.{ErasesTo}
use Rattle.c_checking_units.specs.TypeLimits.Limits.{HasSmallArrays}
use Rattle.c_link.specs.Programs.{IsProgramOf}
use Rattle.c_types.specs.Layouts.{size_of}
use Rattle.c_types.specs.Limits.{greatest_size}
use Rattle.c_types.specs.Objects.{is_object}
use Rattle.c_types.specs.Types.{CType, void, integer, pointer, array, function, structure, Record}
use Rattle.c_typed.specs.Programs.{FunctionData, UnitData, ProgramData}
use Rattle.c_typed.specs.Trees as Typed
use Rattle.c_well_typed.specs.WellTyped.{Lists, ty, of_unit, of_program, IsSmallType, IsTypedFunction, IsTypedObject, HaveTypedFunctions}
use Rattle.c_well_typed.specs.WellTyped.{HaveWholeElements, IsWellTypedUnit, HasMain, IsWellTyped}

-- the functions of a unit that erases to the tree of a file are well typed, and its types are small
abbrev pub UnitsHaveTypedFunctions : Type 0
UnitsHaveTypedFunctions = (file : ℕ) (name bytes : List ℕ) (items : List Trees.Item) (u : UnitData) → IsTreeOf bytes items
    → ErasesTo file name bytes items u → HaveTypedFunctions (of_unit u) × All (IsSmallType (of_unit u)) u.types

-- that unit is well typed
abbrev pub UnitsAreWellTyped : Type 0
UnitsAreWellTyped = (file : ℕ) (name bytes : List ℕ) (items : List Trees.Item) (u : UnitData) → IsTreeOf bytes items → ErasesTo file name bytes items u
    → IsWellTypedUnit u

-- in it the elements of array types are complete
abbrev pub UnitsHaveWholeElements : Type 0
UnitsHaveWholeElements = (file : ℕ) (name bytes : List ℕ) (items : List Trees.Item) (u : UnitData) → IsTreeOf bytes items
    → ErasesTo file name bytes items u → HaveWholeElements u

-- those of the program of some files, and it has a `main`
abbrev pub ProgramHasTypedFunctions : ProgramData → Type 0
ProgramHasTypedFunctions p = (files : List File) → IsProgramOf files p → HaveTypedFunctions (of_program p) × HasMain p

-- what the objects of the program of some files hold at first are values of the parts at their bytes
abbrev pub ProgramHasTypedObjects : ProgramData → Type 0
ProgramHasTypedObjects p = (files : List File) → IsProgramOf files p → All (IsTypedObject (of_program p)) p.objects

-- that program is well typed
abbrev pub ProgramIsWellTyped : ProgramData → Type 0
ProgramIsWellTyped p = (files : List File) → IsProgramOf files p → IsWellTyped p

-- the arrays inside of its types are small, where each file has at most 4 MiB
abbrev pub ProgramHasSmallArrays : ProgramData → Type 0
ProgramHasSmallArrays p = (files : List File) → All (λ (f : File). length f.bytes ≤ 4194304) files → IsProgramOf files p
    → All (HasSmallArrays p.records) p.types

-- what a pointer of the type points to is within the limit of sizes, and so are the elements of an array of it, and their number
abbrev pub HasSmallParts : List Record → CType → Type 0
HasSmallParts records void = Unit {0}
HasSmallParts records (integer kind) = Unit {0}
HasSmallParts records (pointer t) = size_of records t ≤ greatest_size
HasSmallParts records (array t n) = (size_of records t ≤ greatest_size) × (n ≤ greatest_size)
HasSmallParts records (function t all) = Unit {0}
HasSmallParts records (structure r) = Unit {0}

abbrev pub HasSmallSizes : List Record → CType → Type 0
HasSmallSizes records t = (size_of records t ≤ greatest_size) × HasSmallParts records t

-- so it is for each type of that program
abbrev pub ProgramHasSmallSizes : ProgramData → Type 0
ProgramHasSmallSizes p = (files : List File) → All (λ (f : File). length f.bytes ≤ 4194304) files → IsProgramOf files p
    → All (HasSmallSizes p.records) p.types

-- the parameters and locals of a function with a body have complete types
abbrev pub LocalsAreComplete : Type 0
LocalsAreComplete = (l : Lists) (f : FunctionData) (body : Typed.Statement ℕ) → IsTypedFunction l f → f.body ≡ Some body
    → All (λ x. is_object (length l.records) (ty l x.ty) ≡ true) (f.parameters ++ f.locals)
