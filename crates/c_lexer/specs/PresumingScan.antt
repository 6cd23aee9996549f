-- Lines after one part after the other: what the private functions compute. No public clause cites it.
use Rattle.std.specs.Prelude.{◌≡◌, ◌≤◌, ℕ, ◌+◌, ◌-◌, Bool, List, [], ◌∷◌, fold, take, drop, length, Option, Some, None}
use Rattle.c_tokens.specs.declared.part.PartKind.{PartKind}
use Rattle.c_tokens.specs.declared.part.PartKind.TheVariants as P
use Rattle.c_tokens.specs.declared.presumed.Lines.{Lines}
use Rattle.c_lexer.specs.declared.presuming.Reached.{Reached}
use Rattle.c_tokens.specs.declared.directive.Directive.{Directive}
use Rattle.c_lexer.specs.DirectiveScan.{directive_in}
use Rattle.c_tokens.specs.Parts.{Part, text_of, AreParts}
use Rattle.c_tokens.specs.Presuming.{first_lines, after_byte, after_directive, AreTokensBefore}
use Rattle.c_tokens.specs.Lexes.{Lexes}
use Rattle.c_tokens.specs.declared.token.Token.{Token}
use Rattle.c_tokens.specs.declared.presumed.Presumed.{Presumed}

abbrev pub with_directive : ℕ → Option Directive → Lines → Lines
with_directive at None lines = lines
with_directive at (Some directive) lines = after_directive at directive lines

-- after one more part, which begins at a byte of the file
abbrev pub after_part : ℕ → PartKind → List ℕ → Lines → Lines
after_part at P.Directive [] lines = lines
after_part at P.Directive (b ∷ content) lines = with_directive at (directive_in content) lines
after_part at _ text lines = fold after_byte lines text

-- after parts that begin at a byte of the file
abbrev pub after_parts : ℕ → List Part → Lines → Lines
after_parts at [] lines = lines
after_parts at (part ∷ parts) lines = after_parts (at + length part.text) parts (after_part at part.kind part.text lines)

-- ---- how far a text was read

-- no line goes above the limit
pub record AreSmall (limit : ℕ) (lines : Lines) : Type 0 where
  pub here : lines.here.line ≤ limit
  pub next : lines.next.line ≤ limit

-- the rest has parts, after which stands such a line
pub record LeadsOn (Ends : Presumed → Type 0) (at : ℕ) (begins_line : Bool) (rest : List ℕ) (lines : Lines) : Type 0 where
  pub parts : List Part
  pub is : rest ≡ text_of parts
  pub are_parts : AreParts begins_line parts []
  pub leads : Ends (after_parts at parts lines).here
  pub small : AreSmall (2147483647 + at) lines

-- what parts of a text say of the place after it
abbrev pub last_line : (bytes : List ℕ) (tokens : List Token) → Lexes bytes tokens → Presumed
last_line bytes tokens l = (after_parts 0 l.parts first_lines).here

-- up to there: the bytes from there to any place say what all bytes before that place do
abbrev pub IsRead : List ℕ → Reached → Type 0
IsRead bytes reached =
    (at : ℕ) → reached.from ≤ at → at ≤ length bytes → (t : AreTokensBefore at bytes)
    → ∥ LeadsOn (λ line. line ≡ last_line (take at bytes) t.0 t.1) reached.from reached.begins_line
    (take (at - reached.from) (drop reached.from bytes)) reached.lines ∥₁
