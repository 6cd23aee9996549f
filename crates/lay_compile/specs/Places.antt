-- Where the faults of the front end stand.
use Rattle.std.specs.Prelude.{ℕ, List}
use Rattle.lay_base.specs.declared.place.File.{File}
use Rattle.lay_base.specs.declared.place.Place.{Place}
use Rattle.c_lexer.specs.declared.fault.LexFault.{LexFault}
use Rattle.c_lexer.specs.declared.fault.LexFault.TheVariants as L
use Rattle.c_parser.specs.declared.faults.ParseFault.{ParseFault}
use Rattle.c_parser.specs.declared.faults.ParseFault.TheVariants as S
use Rattle.c_check.specs.declared.fault.CheckFault.{CheckFault}
use Rattle.c_check.specs.declared.fault.CheckFault.TheVariants as T
use Rattle.c_link.specs.declared.gap.Gap.{Gap}
use Rattle.c_link.specs.declared.gap.Gap.TheVariants as G
use Rattle.c_tokens.specs.TokenPlaces.{IsPlaceOf}
use Rattle.lay_compile.specs.declared.fault.CompileFault.{CompileFault}
use Rattle.lay_compile.specs.declared.fault.CompileFault.TheVariants.{Lexical, Syntax, Types, Joining, Memory}
use Rattle.lay_compile.specs.Front.{IsFaultOf}

-- ---- each place that a fault names is so

abbrev pub LexicalStands : (Place → Type 0) → (number : ℕ) → LexFault → Type 0
LexicalStands Is number (L.BadByte at) = Is (record { file = number; at = at })
LexicalStands Is number (L.BadLiteral at) = Is (record { file = number; at = at })
LexicalStands Is number (L.Unclosed at) = Is (record { file = number; at = at })
LexicalStands Is number (L.TooWide at) = Is (record { file = number; at = at })
LexicalStands Is number (L.Memory want) = Unit {0}

abbrev pub SyntaxStands : (Place → Type 0) → ParseFault → Type 0
SyntaxStands Is (S.NoParse place) = Is place
SyntaxStands Is (S.Unsupported keyword place) = Is place
SyntaxStands Is (S.Memory want) = Unit {0}

abbrev pub TypesStand : (Place → Type 0) → CheckFault → Type 0
TypesStand Is (T.TooBig place) = Is place
TypesStand Is (T.IllTyped rule place) = Is place
TypesStand Is (T.Undeclared x place) = Is place
TypesStand Is (T.Redeclared x place first) = Is place × Is first
TypesStand Is (T.Memory want) = Unit {0}

abbrev pub GapStands : (Place → Type 0) → Gap → Type 0
GapStands Is (G.TagClash t) = Is t.place × Is t.first
GapStands Is (G.NameClash t) = Is t.place × Is t.first
GapStands Is (G.Twice t) = Is t.place × Is t.first
GapStands Is gap = Unit {0}

abbrev pub Stands : (Place → Type 0) → CompileFault → Type 0
Stands Is (Lexical number fault) = LexicalStands Is number fault
Stands Is (Syntax fault) = SyntaxStands Is fault
Stands Is (Types fault) = TypesStand Is fault
Stands Is (Joining gap) = GapStands Is gap
Stands Is (Memory want) = Unit {0}

-- it is one of the file of its number, with tokens before it
abbrev pub FaultsStandInFiles : Type 0
FaultsStandInFiles = (files : List File) (fault : CompileFault) → IsFaultOf files fault → Stands (IsPlaceOf files) fault
