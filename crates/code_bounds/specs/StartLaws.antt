-- What is asked of a program before it runs or its code is made, as each program of files has it.
use Rattle.std.specs.Prelude.{◌≤◌, List, All, length}
use Rattle.lay_base.specs.declared.place.File.{File}
use Rattle.c_link.specs.Programs.{IsProgramOf}
use Rattle.c_typed.specs.Programs.{ProgramData}
use Rattle.source_start.specs.Fits.{StartsFit}
use Rattle.source_values.specs.Rows.{TypesAreSmall}

-- its start wants nothing but memory
abbrev pub ProgramStartsFit : ProgramData → Type 0
ProgramStartsFit p = (files : List File) → IsProgramOf files p → StartsFit p

-- no type is larger than the limit of types, nor what one points to, where each file has at most 4 MiB
abbrev pub ProgramHasSmallTypes : ProgramData → Type 0
ProgramHasSmallTypes p = (files : List File) → All (λ (f : File). length f.bytes ≤ 4194304) files → IsProgramOf files p → TypesAreSmall p
