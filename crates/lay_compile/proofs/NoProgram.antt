-- Files have at most one program, and none where they are refused.
use Rattle.std.proofs.Common.{◌≡◌, ◌∙◌, ℕ, ◌+◌, List, [], ◌∷◌, ◌++◌, length, sym, ap, subst, inl, inr, arith}
use Rattle.std.specs.Prelude.{◌⊎◌, Result, Ok, Err}
use Rattle.lay_base.specs.declared.place.File.{File}
use Rattle.c_tokens.specs.declared.fault.FaultKind.{FaultKind}
use Rattle.c_tokens.specs.declared.fault.FaultKind.TheVariants as F
use Rattle.c_lexer.specs.declared.fault.LexFault.{LexFault}
use Rattle.c_lexer.specs.declared.fault.LexFault.TheVariants as L
use Rattle.c_tokens.specs.Lexes.{LexFaultAt}
use Rattle.c_lexer.specs.Readings.{HaveOneReading}
use Rattle.c_ast.specs.Trees
use Rattle.c_ast.specs.TreesOfFiles.{FilesHaveOneTree, IsTreeOf, first_unsupported}
use Rattle.c_parser.specs.declared.faults.ParseFault.{ParseFault}
use Rattle.c_parser.specs.declared.faults.ParseFault.TheVariants as S
use Rattle.c_typed.specs.declared.program.Typed.{Typed}
use Rattle.c_typed.specs.Programs.{UnitData, ProgramData}
use Rattle.c_erasure.specs.Erasing.{ErasesTo, UnitsAreOne}
use Rattle.c_check.specs.declared.fault.CheckFault.{CheckFault}
use Rattle.c_check.specs.declared.fault.CheckFault.TheVariants as T
use Rattle.c_check.specs.Checking.{HasNoUnit}
use Rattle.c_link.proofs.OneProgram.{program_is_one, no_program_with_a_gap}
use Rattle.c_link.specs.declared.gap.Gap.{Gap}
use Rattle.c_link.specs.declared.gap.Gap.TheVariants as G
use Rattle.c_link.specs.Gaps as Gaps
use Rattle.c_link.specs.Gaps.{IsGap}
use Rattle.c_link.specs.Clashes.{trouble_of}
use Rattle.c_link.specs.Linking.{Fails}
use Rattle.c_link.specs.Programs.{AreUnitsOf, IsProgramOf, IsUnitOfFile, ProgramsAreOne}
use Rattle.lay_compile.specs.declared.fault.CompileFault.{CompileFault}
use Rattle.lay_compile.specs.declared.fault.CompileFault.TheVariants.{Lexical, Syntax, Types, Joining, Memory}
use Rattle.lay_compile.specs.Front.{Stage, IsFile, HasTokens, HasTree, HasUnit, HasLexicalFault, HasSyntaxFault, HasTypeFault, FirstFails}
use Rattle.lay_compile.specs.Front.{IsFaultOf, IsWantOfMemory, HaveNoProgram, FrontGives}
use Rattle.lay_compile.specs.Reaching.{StagesGive}

-- ---- the unit of one of the files

unit_at : (number : ℕ) (passed : List File) (file : File) (later : List File) (units : List UnitData) → AreUnitsOf number (passed ++ file ∷ later) units
    → (u : UnitData) × IsUnitOfFile (number + length passed) file u
unit_at number [] file later units h = (h.0, subst (λ n. IsUnitOfFile n file h.0) (omega arith) h.3)
unit_at number (f ∷ passed) file later units h =
    let r = unit_at (number + 1) passed file later h.1 h.4 in
    (r.0, subst (λ n. IsUnitOfFile n file r.0) (omega arith) r.1)

-- of that which fails a stage
unit_there : (Before Passes Fails : Stage) (files : List File) (s : FirstFails Before Passes Fails files) (p : ProgramData) → IsProgramOf files p
    → (u : UnitData) × IsUnitOfFile (length s.passed) s.file u
unit_there Before Passes Fails files s p h =
    let r = unit_at 0 s.passed s.file s.later h.units (subst (λ files. AreUnitsOf 0 files h.units) s.files_are h.of_files) in
    (r.0, subst (λ n. IsUnitOfFile n s.file r.0) (omega arith) r.1)

module _ (reading : HaveOneReading) (trees : FilesHaveOneTree) (one : UnitsAreOne) where
  -- ---- a file has one unit, and files have one list of units

  unit_is : (number : ℕ) (file : File) (u v : UnitData) → IsUnitOfFile number file u → IsUnitOfFile number file v → u ≡ v
  unit_is number file u v h k =
      let same = trees file.bytes h.items k.items h.tree k.tree in
      one number file.name file.bytes h.items u v h.tree h.erases
      (subst (λ items. ErasesTo number file.name file.bytes items v) same k.erases)

  units_are : (number : ℕ) (files : List File) (units others : List UnitData) → AreUnitsOf number files units → AreUnitsOf number files others
      → units ≡ others
  units_are number [] units others h k = h ∙ sym k
  units_are number (file ∷ more) units others h k =
      let first = unit_is number file h.0 k.0 h.3 k.3 in
      let rest = units_are (number + 1) more h.1 k.1 h.4 k.4 in
      h.2 ∙ ap (λ u. u ∷ h.1) first ∙ ap (λ all. k.0 ∷ all) rest ∙ sym k.2

  pub one_program : ProgramsAreOne
  one_program files p q h k =
      let same = units_are 0 files k.units h.units k.of_files h.of_files in
      program_is_one h.units p q h.program (subst (λ units. Gaps.IsProgramOfUnits units q) same k.program)

  -- ---- each stage

  module _ (files : List File) where
    no_tokens : (n : ℕ) (fault : LexFault) (kind : FaultKind) (at : ℕ) (s : FirstFails IsFile HasTokens (HasLexicalFault n fault) files)
        → LexFaultAt s.file.bytes kind at → HaveNoProgram files
    no_tokens n fault kind at s f p h =
        let w = unit_there IsFile HasTokens (HasLexicalFault n fault) files s p h in
        reading.not_both s.file.bytes w.1.tree.0 kind at w.1.tree.1 f

    lexical : (n : ℕ) (fault : LexFault) → FirstFails IsFile HasTokens (HasLexicalFault n fault) files
        → IsWantOfMemory (Lexical n fault) ⊎ HaveNoProgram files
    lexical n (L.BadByte at) s = inr (no_tokens n (L.BadByte at) F.BadByte at s s.fails.1)
    lexical n (L.BadLiteral at) s = inr (no_tokens n (L.BadLiteral at) F.BadLiteral at s s.fails.1)
    lexical n (L.Unclosed at) s = inr (no_tokens n (L.Unclosed at) F.Unclosed at s s.fails.1)
    lexical n (L.TooWide at) s = inr (no_tokens n (L.TooWide at) F.TooWide at s s.fails.1)
    lexical n (L.Memory want) s = inl tt

    syntax : (fault : ParseFault) → FirstFails HasTokens HasTree (HasSyntaxFault fault) files → IsWantOfMemory (Syntax fault) ⊎ HaveNoProgram files
    syntax (S.NoParse place) s = inr (λ p h.
        let w = unit_there HasTokens HasTree (HasSyntaxFault (S.NoParse place)) files s p h in
        s.fails.2.2 w.1.items (subst (λ bytes. IsTreeOf bytes w.1.items) (sym s.fails.1.1) w.1.tree))
    syntax (S.Unsupported keyword place) s = inr (λ p h.
        let w = unit_there HasTokens HasTree (HasSyntaxFault (S.Unsupported keyword place)) files s p h in
        let same = reading.one_list s.file.bytes w.1.tree.0 s.fails.0.list w.1.tree.1 s.fails.1.2 in
        let some_is_none = sym s.fails.2.1 ∙ ap first_unsupported same ∙ w.1.tree.2 in
        cc)
    syntax (S.Memory want) s = inl tt

    no_unit : (fault : CheckFault) (s : FirstFails HasTree HasUnit (HasTypeFault fault) files) → HasNoUnit (length s.passed) s.file s.fails.0
        → HaveNoProgram files
    no_unit fault s none p h =
        let w = unit_there HasTree HasUnit (HasTypeFault fault) files s p h in
        let same = trees s.file.bytes s.fails.0 w.1.items s.fails.1 w.1.tree in
        none w.0 (subst (λ items. ErasesTo (length s.passed) s.file.name s.file.bytes items w.0) same w.1.erases)

    types : (fault : CheckFault) → FirstFails HasTree HasUnit (HasTypeFault fault) files → IsWantOfMemory (Types fault) ⊎ HaveNoProgram files
    types (T.TooBig place) s = inr (no_unit (T.TooBig place) s s.fails.2.1.1)
    types (T.IllTyped rule place) s = inr (no_unit (T.IllTyped rule place) s s.fails.2.1.1)
    types (T.Undeclared x place) s = inr (no_unit (T.Undeclared x place) s s.fails.2.1.1)
    types (T.Redeclared x place first) s = inr (no_unit (T.Redeclared x place first) s s.fails.2.2.1)
    types (T.Memory want) s = inl tt

    no_program : (units : List UnitData) → AreUnitsOf 0 files units → (gap : Gaps.Gap) → IsGap units gap → HaveNoProgram files
    no_program units are gap g p h =
        let same = units_are 0 files h.units units h.of_files are in
        no_program_with_a_gap units p gap (subst (λ units. Gaps.IsProgramOfUnits units p) same h.program) g

    joining : (gap : Gap) → (units : List UnitData) → AreUnitsOf 0 files units → Fails (IsGap units) gap → IsWantOfMemory (Joining gap) ⊎ HaveNoProgram files
    joining (G.TagClash t) units are f = inr (no_program units are (Gaps.tag_clash (trouble_of t)) f)
    joining (G.NameClash t) units are f = inr (no_program units are (Gaps.name_clash (trouble_of t)) f)
    joining (G.Twice t) units are f = inr (no_program units are (Gaps.twice (trouble_of t)) f)
    joining (G.Missing x) units are f = inr (no_program units are (Gaps.missing x) f)
    joining G.NoMain units are f = inr (no_program units are Gaps.no_main f)
    joining (G.Limit it) units are f = inr (no_program units are (Gaps.limit it.which it.counted) f)
    joining (G.Memory want) units are f = inl tt

    refused : (fault : CompileFault) → IsFaultOf files fault → IsWantOfMemory fault ⊎ HaveNoProgram files
    refused (Lexical n fault) h = lexical n fault h
    refused (Syntax fault) h = syntax fault h
    refused (Types fault) h = types fault h
    refused (Joining gap) h = joining gap h.0 h.1 h.2
    refused (Memory want) h = inl tt

  of_stages : (files : List File) (r : Result Typed CompileFault) → StagesGive files r → FrontGives files r
  of_stages files (Ok p) h = h
  of_stages files (Err fault) h = (h, refused files fault h)

-- so it is of what the stages answer
pub gives : HaveOneReading → FilesHaveOneTree → UnitsAreOne → (files : List File) (r : Result Typed CompileFault) → StagesGive files r → FrontGives files r
gives reading trees one files r h = of_stages reading trees one files r h
