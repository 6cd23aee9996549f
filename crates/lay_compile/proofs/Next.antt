-- What comes of a file by its tokens, its tree and its unit, after files that have come so far.
use Rattle.std.proofs.Common.{◌≡◌, ◌∙◌, ℕ, List, [], ◌∷◌, ◌++◌, length, sym, ap, subst}
use Rattle.std.specs.Prelude.{All, Ok, Err, map}
use Rattle.std.proofs.lemmas.List.{map-append}
use Rattle.std.proofs.lemmas.List.Elements.{All-push}
use Rattle.lay_base.specs.declared.place.File.{File}
use Rattle.c_lexer.specs.Answers.{LexGives, OnFault}
use Rattle.c_tokens.specs.Lexes.{LexFaultAt}
use Rattle.c_lexer.specs.declared.fault.LexFault.{LexFault}
use Rattle.c_tokens.specs.declared.token.Tokens.{Tokens}
use Rattle.c_ast.specs.Trees
use Rattle.c_ast.specs.TreesOfFiles.{IsTreeOf}
use Rattle.c_parser.specs.Parsing.{ParseGives}
use Rattle.c_parser.specs.declared.faults.ParseFault.{ParseFault}
use Rattle.c_typed.specs.Programs.{UnitData, unit_data}
use Rattle.c_typed.specs.declared.program.Unit.{Unit as DeclaredUnit}
use Rattle.c_erasure.specs.Erasing.{ErasesTo}
use Rattle.c_check.specs.Checking.{CheckGives}
use Rattle.c_check.specs.declared.fault.CheckFault.{CheckFault}
use Rattle.c_link.specs.Counting.{IsCountable}
use Rattle.c_link.specs.Programs.{AreUnitsOf, IsUnitOfFile}
use Rattle.lay_compile.specs.declared.stages.Reached.{Reached}
use Rattle.lay_compile.specs.Front.{Stage, IsFile, HasTokens, HasTree, HasUnit, HasLexicalFault, HasSyntaxFault, HasTypeFault, Each}
use Rattle.lay_compile.specs.Front.{FirstFails}
use Rattle.lay_compile.specs.Reaching.{HaveReached}
use Rattle.lay_compile.proofs.Steps.{fails_now, fails_still, fails_at_once, units_next, have_units, units_have_trees, trees_have_tokens, reached_tokens}

-- its number is how many files stand before it
there : (Is : Stage) (before : List File) (number : ℕ) (file : File) → length before ≡ number → Is number file → Is (length before) file
there Is before number file e x = subst (λ n. Is n file) (sym e) x

has_tokens : (number : ℕ) (file : File) (tokens : Tokens) → LexGives file.bytes number (Ok tokens) → HasTokens number file
has_tokens number file tokens l = (tokens.list, l.2)

pub tree_in_file : (number : ℕ) (file : File) (tokens : Tokens) → LexGives file.bytes number (Ok tokens) → (items : List Trees.Item)
    → IsTreeOf tokens.bytes items → IsTreeOf file.bytes items
tree_in_file number file tokens l items t = subst (λ bytes. IsTreeOf bytes items) l.1 t

pub no_tokens : (number : ℕ) (file : File) (fault : LexFault) → OnFault fault (LexFaultAt file.bytes) → (before : List File) → length before ≡ number
    → (reached : Reached) → HaveReached before reached → (later : List File)
    → FirstFails IsFile HasTokens (HasLexicalFault number fault) (before ++ file ∷ later)
no_tokens number file fault f before e reached h later =
    fails_at_once fault before file (reached_tokens before reached h) number (sym e, f) later

pub no_tree : (number : ℕ) (file : File) (tokens : Tokens) → LexGives file.bytes number (Ok tokens) → (fault : ParseFault) → ParseGives tokens (Err fault)
    → (before : List File) → length before ≡ number → Each HasTree 0 before → FirstFails HasTokens HasTree (HasSyntaxFault fault) (before ++ file ∷ [])
no_tree number file tokens l fault f before e h =
    fails_now HasTokens HasTree (HasSyntaxFault fault) before file (trees_have_tokens before h) h
    (there HasTokens before number file e (has_tokens number file tokens l)) (there (HasSyntaxFault fault) before number file e (tokens, l, f))

pub no_unit : (number : ℕ) (file : File) (items : List Trees.Item) → IsTreeOf file.bytes items → (fault : CheckFault)
    → CheckGives number file items (Err fault) → (before : List File) → length before ≡ number → (units : List UnitData) → AreUnitsOf 0 before units
    → FirstFails HasTree HasUnit (HasTypeFault fault) (before ++ file ∷ [])
no_unit number file items t fault f before e units h =
    fails_now HasTree HasUnit (HasTypeFault fault) before file (units_have_trees before units h) (have_units 0 before units h)
    (there HasTree before number file e (items, t)) (there (HasTypeFault fault) before number file e (items, t, f))

pub still_no_unit : (number : ℕ) (file : File) (items : List Trees.Item) → IsTreeOf file.bytes items → (fault : CheckFault) → (before : List File)
    → length before ≡ number → FirstFails HasTree HasUnit (HasTypeFault fault) before → FirstFails HasTree HasUnit (HasTypeFault fault) (before ++ file ∷ [])
still_no_unit number file items t fault before e h =
    fails_still HasTree HasUnit (HasTypeFault fault) before file h (there HasTree before number file e (items, t))

pub still_no_tree : (number : ℕ) (file : File) (tokens : Tokens) → LexGives file.bytes number (Ok tokens) → (fault : ParseFault) → (before : List File)
    → length before ≡ number → FirstFails HasTokens HasTree (HasSyntaxFault fault) before
    → FirstFails HasTokens HasTree (HasSyntaxFault fault) (before ++ file ∷ [])
still_no_tree number file tokens l fault before e h =
    fails_still HasTokens HasTree (HasSyntaxFault fault) before file h (there HasTokens before number file e (has_tokens number file tokens l))

abbrev AreCountableUnits : List File → List UnitData → Type 0
AreCountableUnits files units = AreUnitsOf 0 files units × All IsCountable units

one_unit : (number : ℕ) (file : File) (items : List Trees.Item) → IsTreeOf file.bytes items → (u : UnitData) → ErasesTo number file.name file.bytes items u
    → IsCountable u → (before : List File) → length before ≡ number → (units : List UnitData) → AreCountableUnits before units
    → AreCountableUnits (before ++ file ∷ []) (units ++ u ∷ [])
one_unit number file items t u f c before e units h = (
  units_next before units file u h.0 (there (λ n file. IsUnitOfFile n file u) before number file e (record { items = items; tree = t; erases = f })),
  All-push IsCountable units u h.1 c,
)

pub with_its_unit : (number : ℕ) (file : File) (items : List Trees.Item) → IsTreeOf file.bytes items → (u : DeclaredUnit)
    → ErasesTo number file.name file.bytes items (unit_data u) → IsCountable (unit_data u) → (before : List File) → length before ≡ number
    → (units all : List DeclaredUnit) → all ≡ units ++ u ∷ [] → AreCountableUnits before (map unit_data units)
    → AreCountableUnits (before ++ file ∷ []) (map unit_data all)
with_its_unit number file items t u f c before e units all is h =
    subst (AreCountableUnits (before ++ file ∷ [])) (sym (map-append unit_data units (u ∷ [])) ∙ ap (map unit_data) (sym is))
    (one_unit number file items t (unit_data u) f c before e (map unit_data units) h)
