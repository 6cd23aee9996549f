-- Each place of a refusal of the front end is one that its fault names, so there are tokens before it, and it has its text.
use Rattle.std.proofs.Common.{◌≡◌, ℕ, List, Option, Some, None, subst}
use Rattle.std.specs.Prelude.{IfSome}
use Rattle.lay_base.specs.declared.place.File.{File}
use Rattle.lay_base.specs.declared.place.Place.{Place}
use Rattle.c_tokens.specs.TokenPlaces.{IsPlaceOf}
use Rattle.c_lexer.specs.declared.fault.LexFault.TheVariants as L
use Rattle.c_parser.specs.declared.faults.ParseFault.TheVariants as S
use Rattle.c_check.specs.declared.fault.CheckFault.TheVariants as T
use Rattle.c_link.specs.declared.gap.Gap.TheVariants as G
use Rattle.lay_compile.specs.Places.{Stands, FaultsStandInFiles}
use Rattle.lay_compile.specs.declared.fault.CompileFault.{CompileFault}
use Rattle.lay_compile.specs.declared.fault.CompileFault.TheVariants as C
use Rattle.lay_compile.specs.LineTexts.PlaceTexts.{IsPlaceText}
use Rattle.refusals.specs.Table.{places}
use Rattle.refusals.specs.declared.refusal.Refusal.{Refusal}
use Rattle.refusals.specs.declared.refusal.Refusal.TheVariants as R
use Rattle.lay_compile.specs.ProgramFiles.FrontEnd.{fault_told}
use Rattle.lay_compile.specs.RefusalPlaces.Texts.{IsOfPlace, TextsAreOfPlaces}

module _ (Is : Place → Type 0) where
  abbrev PlacesAreSo : Refusal → Type 0
  PlacesAreSo refusal = IfSome (places refusal).0 Is × IfSome (places refusal).1 Is

  same : (fault other : CompileFault) → Some other ≡ Some fault → Stands Is fault → Stands Is other
  same fault other e h = let is : fault ≡ other = cc in subst (Stands Is) is h

  -- the places of a refusal are those of the fault that it tells
  told : (refusal : Refusal) (fault : CompileFault) → fault_told refusal ≡ Some fault → Stands Is fault → PlacesAreSo refusal
  told (R.BadByte place) fault e h = (same fault (C.Lexical place.file (L.BadByte place.at)) e h, tt)
  told (R.BadLiteral place) fault e h = (same fault (C.Lexical place.file (L.BadLiteral place.at)) e h, tt)
  told (R.Unclosed place) fault e h = (same fault (C.Lexical place.file (L.Unclosed place.at)) e h, tt)
  told (R.TooWide place) fault e h = (same fault (C.Lexical place.file (L.TooWide place.at)) e h, tt)
  told (R.NoParse place) fault e h = (same fault (C.Syntax (S.NoParse place)) e h, tt)
  told (R.Unsupported keyword place) fault e h = (same fault (C.Syntax (S.Unsupported keyword place)) e h, tt)
  told (R.TooBig place) fault e h = (same fault (C.Types (T.TooBig place)) e h, tt)
  told (R.IllTyped rule place) fault e h = (same fault (C.Types (T.IllTyped rule place)) e h, tt)
  told (R.Undeclared name place) fault e h = (same fault (C.Types (T.Undeclared name place)) e h, tt)
  told (R.Redeclared name place first) fault e h = same fault (C.Types (T.Redeclared name place first)) e h
  told (R.TagClash tag place first) fault e h =
      same fault (C.Joining (G.TagClash (record { name = tag; place = place; first = first }))) e h
  told (R.NameClash name place first) fault e h =
      same fault (C.Joining (G.NameClash (record { name = name; place = place; first = first }))) e h
  told (R.Twice name place first) fault e h = same fault (C.Joining (G.Twice (record { name = name; place = place; first = first }))) e h
  told (R.Undefined kind place) fault e h = cc
  told refusal fault e h = (tt, tt)

-- what is a text where there are tokens before the place is one of this place
text_is : (files : List File) (place : Option Place) (text : List ℕ) → IfSome place (IsPlaceOf files) → IfSome place (λ p. IsPlaceText files p text)
    → IfSome place (λ p. IsOfPlace files p text)
text_is files None text there is = tt
text_is files (Some place) text (file, found, before) is = ((file, found, before), (file, found, is file found before))

pub texts_are_of_places : FaultsStandInFiles → TextsAreOfPlaces
texts_are_of_places stand files refusal at first (fault, tells, gives) (of_place, of_first) =
    let so = told (IsPlaceOf files) refusal fault tells (stand files fault gives.0) in
    (text_is files (places refusal).0 at so.0 of_place, text_is files (places refusal).1 first so.1 of_first)
