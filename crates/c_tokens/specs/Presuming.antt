-- Presumed lines and file names (C99 6.10.4).
use Rattle.std.specs.Prelude.{◌≡◌, ℕ, ◌+◌, true, List, [], ◌∷◌, fold, take, length, Some, None, if◌then◌else◌}
use Rattle.c_tokens.specs.declared.part.PartKind.{PartKind}
use Rattle.c_tokens.specs.declared.part.PartKind.TheVariants as P
use Rattle.c_tokens.specs.declared.presumed.Presumed.{Presumed}
use Rattle.c_tokens.specs.declared.presumed.Lines.{Lines}
use Rattle.c_tokens.specs.Characters.{is_line_feed}
use Rattle.c_tokens.specs.declared.directive.Directive.{Directive}
use Rattle.c_tokens.specs.declared.directive.Directive.TheVariants.{Silent, Renumbers}
use Rattle.c_tokens.specs.declared.token.Token.{Token}
use Rattle.c_tokens.specs.Directives.{IsDirective}
use Rattle.c_tokens.specs.Parts.{Part, text_of, AreParts}
use Rattle.c_tokens.specs.Lexes.{Lexes}

-- lines count from 1, under the file's own name
abbrev pub first_lines : Lines
first_lines = record { here = record { from = 0; to = 0; line = 1 }; next = record { from = 0; to = 0; line = 2 } }

-- after one more byte: a line feed begins the next line
abbrev pub after_byte : Lines → ℕ → Lines
after_byte lines b = if is_line_feed b then record { here = lines.next; next = record lines.next { line = lines.next.line + 1 } } else lines

-- after a directive whose '#' stands at that byte of the file
abbrev pub after_directive : ℕ → Directive → Lines → Lines
after_directive at Silent lines = lines
after_directive at (Renumbers number None) lines = record lines { next = record lines.here { line = number } }
after_directive at (Renumbers number (Some name)) lines = record lines { next = record { from = at + 1 + name.from; to = at + 1 + name.to; line = number } }

-- after one more part, which begins at a byte of the file
abbrev pub Moves : ℕ → PartKind → List ℕ → Lines → Lines → Type 0
Moves at P.Directive text before after = (content : List ℕ) × (directive : Directive) × (text ≡ 35 ∷ content) × IsDirective content directive
    × (after ≡ after_directive at directive before)
Moves at _ text before after = after ≡ fold after_byte before text

-- after parts that begin at a byte of the file
abbrev pub Presumes : ℕ → List Part → Lines → Lines → Type 0
Presumes at [] before last = last ≡ before
Presumes at (part ∷ parts) before last = (after : Lines) × Moves at part.kind part.text before after × Presumes (at + length part.text) parts after last

-- what is presumed of the place after the text
pub record IsPresumed (bytes : List ℕ) (presumed : Presumed) : Type 0 where
  pub parts : List Part
  pub last : Lines
  pub bytes_are : bytes ≡ text_of parts
  pub are_parts : AreParts true parts []
  pub presumes : Presumes 0 parts first_lines last
  pub here : presumed ≡ last.here

-- the bytes before a place are tokens
abbrev pub AreTokensBefore : ℕ → List ℕ → Type 0
AreTokensBefore at bytes = (tokens : List Token) × Lexes (take at bytes) tokens
