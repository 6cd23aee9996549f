-- The program of some files is covered.
use Rattle.std.specs.Prelude.{List}
use Rattle.lay_base.specs.declared.place.File.{File}
use Rattle.c_link.specs.Programs.{IsProgramOf}
use Rattle.c_typed.specs.Programs.{ProgramData}
use Rattle.legality.specs.Covered.{IsCovered}

abbrev pub ProgramsAreCovered : Type 0
ProgramsAreCovered = (files : List File) (p : ProgramData) → IsProgramOf files p → IsCovered p
