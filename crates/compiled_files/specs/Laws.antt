-- The laws of images and of steady code.
use Rattle.std.specs.Prelude.{◌≡◌, ℕ, ◌^◌, ◌<◌, ◌≤◌, List, All, Ok}
use Rattle.lay_base.specs.declared.place.File.{File}
use Rattle.c_link.specs.Programs.{IsProgramOf}
use Rattle.c_typed.specs.Programs.{ProgramData}
use Rattle.elf32.specs.Loaded.{loaded}
use Rattle.elf32.specs.Written.{elf_file}
use Rattle.lower_tac.specs.Statements.{lowered}
use Rattle.rv_image.specs.Images.{image_of}
use Rattle.source_values.specs.Rows.{TypesAreSmall}
use Rattle.tac_ir.specs.Code.{code_of}
use Rattle.tac_ir.specs.Steady.{AllSteady}
use Rattle.tac_ir.specs.declared.step.Tac.{Tac}
use Rattle.compiled_files.specs.Files.{IsFileOf}

-- the file of the image of a program of files and of its code, where it loads as that image, is one of the program
abbrev pub ImageIsOfProgram : ProgramData → Tac → Type 0
ImageIsOfProgram p t = (files : List File) → IsProgramOf files p → code_of t ≡ lowered p → TypesAreSmall p
    → (heap stack : ℕ) → heap ≤ 1024 → stack ≤ 128 → (elf : List ℕ) → All (λ b. b < 2 ^ 8) elf → elf ≡ elf_file (image_of p (code_of t) heap stack)
    → loaded elf ≡ Ok (image_of p (code_of t) heap stack) → IsFileOf p heap stack elf

-- the code of a program of files is steady, where its types are small
abbrev pub ProgramIsSteady : ProgramData → Type 0
ProgramIsSteady p = (files : List File) → IsProgramOf files p → TypesAreSmall p → AllSteady (lowered p).routines
