-- The program of some files, or, where they have none, the fault of the first file that fails the earliest stage that any file fails: its tokens, its
-- tree, its types, and then the gap of the units. Want of memory is a free answer.
use Rattle.std.specs.Prelude.{◌≡◌, ℕ, ◌+◌, List, [], ◌∷◌, ◌++◌, length, Result, Ok, Err, ◌⊎◌}
use Rattle.lay_base.specs.declared.place.File.{File}
use Rattle.c_lexer.specs.Answers.{LexGives, OnFault}
use Rattle.c_tokens.specs.Lexes.{Lexes, LexFaultAt}
use Rattle.c_lexer.specs.declared.fault.LexFault.{LexFault}
use Rattle.c_lexer.specs.declared.fault.LexFault.TheVariants as L
use Rattle.c_tokens.specs.declared.token.Token.{Token}
use Rattle.c_tokens.specs.declared.token.Tokens.{Tokens}
use Rattle.c_ast.specs.Trees
use Rattle.c_ast.specs.TreesOfFiles.{IsTreeOf}
use Rattle.c_parser.specs.Parsing.{ParseGives}
use Rattle.c_parser.specs.declared.faults.ParseFault.{ParseFault}
use Rattle.c_parser.specs.declared.faults.ParseFault.TheVariants as S
use Rattle.c_typed.specs.Programs.{UnitData, ProgramData, program_data}
use Rattle.c_typed.specs.declared.program.Typed.{Typed}
use Rattle.c_check.specs.Checking.{CheckGives}
use Rattle.c_check.specs.declared.fault.CheckFault.{CheckFault}
use Rattle.c_check.specs.declared.fault.CheckFault.TheVariants as T
use Rattle.c_link.specs.declared.gap.Gap.TheVariants as G
use Rattle.c_link.specs.Gaps.{IsGap}
use Rattle.c_link.specs.Linking.{Fails}
use Rattle.c_link.specs.Programs.{AreUnitsOf, IsProgramOf, IsUnitOfFile}
use Rattle.lay_compile.specs.declared.fault.CompileFault.{CompileFault}
use Rattle.lay_compile.specs.declared.fault.CompileFault.TheVariants.{Lexical, Syntax, Types, Joining, Memory}

-- ---- the stages of a file, which has that number

abbrev pub Stage : Type 1
Stage = ℕ → File → Type 0

abbrev pub IsFile : Stage
IsFile number file = Unit {0}

abbrev pub HasTokens : Stage
HasTokens number file = (tokens : List Token) × Lexes file.bytes tokens

abbrev pub HasTree : Stage
HasTree number file = (items : List Trees.Item) × IsTreeOf file.bytes items

abbrev pub HasUnit : Stage
HasUnit number file = (u : UnitData) × IsUnitOfFile number file u

-- ---- the faults of a file, as the layers say them

abbrev pub HasLexicalFault : ℕ → LexFault → Stage
HasLexicalFault n fault number file = (n ≡ number) × OnFault fault (LexFaultAt file.bytes)

abbrev pub HasSyntaxFault : ParseFault → Stage
HasSyntaxFault fault number file = (tokens : Tokens) × LexGives file.bytes number (Ok tokens) × ParseGives tokens (Err fault)

abbrev pub HasTypeFault : CheckFault → Stage
HasTypeFault fault number file = (items : List Trees.Item) × IsTreeOf file.bytes items × CheckGives number file items (Err fault)

-- ---- all files, each with its number

abbrev pub Each : Stage → ℕ → List File → Type 0
Each Is number [] = Unit {0}
Each Is number (file ∷ more) = Is number file × Each Is (number + 1) more

-- the first file that fails a stage, where each file has passed the stage before
pub record FirstFails (Before Passes Fails : Stage) (files : List File) : Type 0 where
  pub before : Each Before 0 files
  pub passed : List File
  pub file : File
  pub later : List File
  pub files_are : files ≡ passed ++ file ∷ later
  pub passes : Each Passes 0 passed
  pub fails : Fails (length passed) file

-- ---- what the front end answers

abbrev pub IsFaultOf : List File → CompileFault → Type 0
IsFaultOf files (Lexical n fault) = FirstFails IsFile HasTokens (HasLexicalFault n fault) files
IsFaultOf files (Syntax fault) = FirstFails HasTokens HasTree (HasSyntaxFault fault) files
IsFaultOf files (Types fault) = FirstFails HasTree HasUnit (HasTypeFault fault) files
IsFaultOf files (Joining gap) = (units : List UnitData) × AreUnitsOf 0 files units × Fails (IsGap units) gap
IsFaultOf files (Memory want) = Unit {0}

-- want of memory, whichever stage met it
abbrev pub IsWantOfMemory : CompileFault → Type 0
IsWantOfMemory (Lexical n (L.Memory want)) = Unit {0}
IsWantOfMemory (Syntax (S.Memory want)) = Unit {0}
IsWantOfMemory (Types (T.Memory want)) = Unit {0}
IsWantOfMemory (Joining (G.Memory want)) = Unit {0}
IsWantOfMemory (Memory want) = Unit {0}
IsWantOfMemory fault = ⊥

abbrev pub HaveNoProgram : List File → Type 0
HaveNoProgram files = (p : ProgramData) → IsProgramOf files p → ⊥

abbrev pub FrontGives : List File → Result Typed CompileFault → Type 0
FrontGives files (Ok p) = IsProgramOf files (program_data p)
FrontGives files (Err fault) = IsFaultOf files fault × (IsWantOfMemory fault ⊎ HaveNoProgram files)
