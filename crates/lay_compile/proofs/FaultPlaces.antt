-- Each place that a fault of files names is one of the file of its number, with tokens before it.
use Rattle.std.proofs.Common.{◌≡◌, ◌∙◌, ℕ, Bool, true, false, cond, List, [], ◌∷◌, ◌++◌, length, Option, Some, None, Err, refl, sym, subst, inl, inr}
use Rattle.std.specs.Prelude.{slice_get}
use Rattle.std.specs.List.{AllByRecursion}
use Rattle.std.proofs.lemmas.List.Elements.{recursion_from_All}
use Rattle.lay_base.specs.declared.faults.Keyword.{Keyword}
use Rattle.lay_base.specs.declared.place.File.{File}
use Rattle.lay_base.specs.declared.place.Place.{Place}
use Rattle.c_lexer.specs.Answers.{OnFault}
use Rattle.c_tokens.specs.Lexes.{Lexes, LexFaultAt}
use Rattle.c_tokens.specs.TokenPlaces.{IsPlaceIn, TokensHavePlaces, IsPlaceOf}
use Rattle.c_lexer.specs.declared.fault.LexFault.{LexFault}
use Rattle.c_lexer.specs.declared.fault.LexFault.TheVariants as L
use Rattle.c_tokens.specs.declared.fault.FaultKind.TheVariants as K
use Rattle.c_tokens.specs.declared.token.Token.{Token}
use Rattle.c_tokens.specs.declared.token.TokenKind.{TokenKind}
use Rattle.c_tokens.specs.declared.token.TokenKind.TheVariants as T
use Rattle.c_tokens.specs.declared.token.Tokens.{Tokens}
use Rattle.c_ast.specs.Trees
use Rattle.c_ast.specs.TreesOfFiles.{IsTreeOf, first_unsupported, unsupported_or, is_unsupported}
use Rattle.c_erasure.specs.Broken.{Fault}
use Rattle.c_parser.specs.Parsing.{ParseGives}
use Rattle.c_parser.specs.Parsing as Parsing
use Rattle.c_parser.specs.declared.faults.ParseFault.{ParseFault}
use Rattle.c_parser.specs.declared.faults.ParseFault.TheVariants as S
use Rattle.c_check.specs.Checking.{CheckGives, Finds}
use Rattle.c_check.specs.declared.fault.CheckFault.{CheckFault}
use Rattle.c_check.specs.declared.fault.CheckFault.TheVariants as C
use Rattle.c_link.specs.Clashes.{trouble_of}
use Rattle.c_link.specs.Gaps.{tag_clash, name_clash, twice, IsGap}
use Rattle.c_link.specs.Linking.{Fails}
use Rattle.c_link.specs.Programs.{AreUnitsOf}
use Rattle.c_link.specs.declared.gap.Gap.{Gap}
use Rattle.c_link.specs.declared.gap.Gap.TheVariants as G
use Rattle.c_typed.specs.Programs.{UnitData}
use Rattle.c_checking_units.specs.FaultPlaces.Places.{FaultsHavePlaces}
use Rattle.c_checking_units.specs.FaultPlaces.Places as Types
use Rattle.c_well_typed.specs.GapPlaces.Places.{GapsHavePlaces}
use Rattle.lay_compile.specs.declared.fault.CompileFault.TheVariants.{Lexical, Syntax, Types, Joining, Memory}
use Rattle.lay_compile.specs.Front.{Stage, FirstFails, HasSyntaxFault, HasTypeFault}
use Rattle.lay_compile.specs.Places.{LexicalStands, SyntaxStands, TypesStand, GapStands, FaultsStandInFiles}

-- ---- a file and its number

behind : (before : List File) (file : File) (later : List File) → slice_get (before ++ file ∷ later) (length before) ≡ Some file
behind [] file later = refl
behind (other ∷ before) file later = behind before file later

-- the file that fails is the one of its number
its_number : {Before Passes Fails : Stage} {files : List File} (h : FirstFails Before Passes Fails files) → slice_get files (length h.passed) ≡ Some h.file
its_number {Before} {Passes} {Fails} {files} h =
    subst (λ all. slice_get all (length h.passed) ≡ Some h.file) (sym h.files_are) (behind h.passed h.file h.later)

module _ (files : List File) (file : File) (number : ℕ) (is : slice_get files number ≡ Some file) where
  -- a place of the file
  placed : (place : Place) → place.file ≡ number → IsPlaceIn file.bytes place.at → IsPlaceOf files place
  placed place e p = (file, subst (λ n. slice_get files n ≡ Some file) (sym e) is, p)

  -- ---- tokens

  lexical : TokensHavePlaces → (n : ℕ) (fault : LexFault) → n ≡ number → OnFault fault (LexFaultAt file.bytes) → LexicalStands (IsPlaceOf files) n fault
  lexical p n (L.BadByte at) e h = placed (record { file = n; at = at }) e (p.of_fault file.bytes K.BadByte at h)
  lexical p n (L.BadLiteral at) e h = placed (record { file = n; at = at }) e (p.of_fault file.bytes K.BadLiteral at h)
  lexical p n (L.Unclosed at) e h = placed (record { file = n; at = at }) e (p.of_fault file.bytes K.Unclosed at h)
  lexical p n (L.TooWide at) e h = placed (record { file = n; at = at }) e (p.of_fault file.bytes K.TooWide at h)
  lexical p n (L.Memory want) e h = tt

-- ---- trees

-- what holds of the places of all tokens
module _ (P : ℕ → Type 0) where
  one_of : (before : List Token) (token : Token) (after : List Token) → AllByRecursion (λ t. P t.from) (before ++ token ∷ after) → P token.from
  one_of [] token after h = h.0
  one_of (other ∷ before) token after h = one_of before token after h.1

  abbrev IsKeywordAt : Option (Keyword × ℕ) → Type 0
  IsKeywordAt None = Unit {0}
  IsKeywordAt (Some k) = P k.1

  chosen : (b : Bool) (x y : Option (Keyword × ℕ)) → IsKeywordAt x → IsKeywordAt y → IsKeywordAt (cond b x y)
  chosen true x y p q = p
  chosen false x y p q = q

  unsupported_at : (kind : TokenKind) (at : ℕ) (later : Option (Keyword × ℕ)) → P at → IsKeywordAt later → IsKeywordAt (unsupported_or kind at later)
  unsupported_at (T.Keyword keyword) at later p q = chosen (is_unsupported keyword) (Some (keyword, at)) later p q
  unsupported_at kind at later p q = q

  keyword_at : (tokens : List Token) → AllByRecursion (λ t. P t.from) tokens → IsKeywordAt (first_unsupported tokens)
  keyword_at [] h = tt
  keyword_at (token ∷ tokens) h = unsupported_at token.kind token.from (first_unsupported tokens) h.0 (keyword_at tokens h.1)

module _ (p : TokensHavePlaces) (tokens : Tokens) (lexes : Lexes tokens.bytes tokens.list) where
  each_token : AllByRecursion (λ t. IsPlaceIn tokens.bytes t.from) tokens.list
  each_token = recursion_from_All (λ t. IsPlaceIn tokens.bytes t.from) tokens.list (p.of_tokens tokens.bytes tokens.list lexes)

  place_of_tokens : (place : Place) → Parsing.IsPlaceIn tokens place → IsPlaceIn tokens.bytes place.at
  place_of_tokens place (e, inl t) = subst (IsPlaceIn tokens.bytes) (sym t.4)
      (one_of (IsPlaceIn tokens.bytes) t.0 t.2 t.1 (subst (AllByRecursion (λ t. IsPlaceIn tokens.bytes t.from)) t.3 each_token))
  place_of_tokens place (e, inr end) = subst (IsPlaceIn tokens.bytes) (sym end) (p.of_end tokens.bytes tokens.list lexes)

  place_of_keyword : (keyword : Keyword) (at : ℕ) → first_unsupported tokens.list ≡ Some (keyword, at) → IsPlaceIn tokens.bytes at
  place_of_keyword keyword at h = subst (IsKeywordAt (IsPlaceIn tokens.bytes)) h (keyword_at (IsPlaceIn tokens.bytes) tokens.list each_token)

  syntax_in : (Is : Place → Type 0) → ((place : Place) → place.file ≡ tokens.file → IsPlaceIn tokens.bytes place.at → Is place) → (fault : ParseFault)
      → ParseGives tokens (Err fault) → SyntaxStands Is fault
  syntax_in Is is (S.NoParse place) h = is place h.0.0 (place_of_tokens place h.0)
  syntax_in Is is (S.Unsupported keyword place) h = is place h.0 (place_of_keyword keyword place.at h.1)
  syntax_in Is is (S.Memory want) h = tt

-- ---- types

types_in : FaultsHavePlaces → (number : ℕ) (file : File) (items : List Trees.Item) → IsTreeOf file.bytes items → (Is : Place → Type 0)
    → ((place : Place) → place.file ≡ number → IsPlaceIn file.bytes place.at → Is place) → (fault : CheckFault)
    → CheckGives number file items (Err fault) → TypesStand Is fault
types_in p number file items tree Is is = of_fault
  where
    found : (f : Fault) → Finds number file items (Err f) → Types.Stands (IsPlaceIn file.bytes) f
    found f h = p number h.untagged file.bytes items f tree h.is_found

    of_fault : (fault : CheckFault) → CheckGives number file items (Err fault) → TypesStand Is fault
    of_fault (C.TooBig place) h = is place h.0 (found _ h.1.0)
    of_fault (C.IllTyped rule place) h = is place h.0 (found _ h.1.0)
    of_fault (C.Undeclared x place) h = is place h.0 (found _ h.1.0)
    of_fault (C.Redeclared x place first) h = let both = found _ h.2.0 in (is place h.0 both.0, is first h.1 both.1)
    of_fault (C.Memory want) h = tt

-- ---- gaps

gap_in : GapsHavePlaces → (files : List File) (units : List UnitData) → AreUnitsOf 0 files units → (gap : Gap) → Fails (IsGap units) gap
    → GapStands (IsPlaceOf files) gap
gap_in p files units u (G.TagClash t) h = p files units (tag_clash (trouble_of t)) u h
gap_in p files units u (G.NameClash t) h = p files units (name_clash (trouble_of t)) u h
gap_in p files units u (G.Twice t) h = p files units (twice (trouble_of t)) u h
gap_in p files units u gap h = tt

-- ---- all faults

pub faults_stand : TokensHavePlaces → FaultsHavePlaces → GapsHavePlaces → FaultsStandInFiles
faults_stand p q r files (Lexical n fault) h = lexical files h.file (length h.passed) (its_number h) p n fault h.fails.0 h.fails.1
faults_stand p q r files (Syntax fault) h = of_tokens h.fails
  where
    of_tokens : HasSyntaxFault fault (length h.passed) h.file → SyntaxStands (IsPlaceOf files) fault
    of_tokens (tokens, (number, bytes, lexes), fails) =
        let own : Lexes tokens.bytes tokens.list = subst (λ all. Lexes all tokens.list) (sym bytes) lexes in
        syntax_in p tokens own (IsPlaceOf files) (λ place e at. placed files h.file (length h.passed) (its_number h) place (e ∙ number)
        (subst (λ all. IsPlaceIn all place.at) bytes at)) fault fails
faults_stand p q r files (Types fault) h = of_items h.fails
  where
    of_items : HasTypeFault fault (length h.passed) h.file → TypesStand (IsPlaceOf files) fault
    of_items (items, tree, gives) =
        types_in q (length h.passed) h.file items tree (IsPlaceOf files) (placed files h.file (length h.passed) (its_number h)) fault gives
faults_stand p q r files (Joining gap) h = gap_in r files h.0 h.1 gap h.2
faults_stand p q r files (Memory want) h = tt
