-- The program of some files can be said in C.
use Rattle.std.specs.Prelude.{List, length, All}
use Rattle.lay_base.specs.declared.place.File.{File}
use Rattle.c_link.specs.Programs.{IsProgramOf}
use Rattle.c_typed.specs.Programs.{ProgramData}
use Rattle.c_well_typed.specs.Printable.Declarable.{IsDeclarable}
use Rattle.c_well_typed.specs.Printable.Programs.{IsPrintable, IsPrintableFunction, IsPrintableObject, IsPrintableRecord, StandsOnce}

-- declarators make its types, and its records have members
abbrev pub HasPrintableTypes : ProgramData → Type 0
HasPrintableTypes p = (files : List File) → IsProgramOf files p → All (IsDeclarable (length p.records)) p.types × All (IsPrintableRecord p) p.records

-- braces name in order what its objects hold at first
abbrev pub HasPrintableObjects : ProgramData → Type 0
HasPrintableObjects p = (files : List File) → IsProgramOf files p → All (IsPrintableObject p) p.objects

-- each string literal stands where its object is referred to
abbrev pub HasLiteralsOnce : ProgramData → Type 0
HasLiteralsOnce p = (files : List File) → IsProgramOf files p → StandsOnce p

-- its functions are printable
abbrev pub ProgramHasPrintableFunctions : ProgramData → Type 0
ProgramHasPrintableFunctions p = (files : List File) → IsProgramOf files p → All (IsPrintableFunction p) p.functions

-- so it is
abbrev pub ProgramIsPrintable : ProgramData → Type 0
ProgramIsPrintable p = (files : List File) → IsProgramOf files p → IsPrintable p
