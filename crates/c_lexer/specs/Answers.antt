-- What `lex` answers.
use Rattle.std.specs.Prelude.{◌≡◌, ℕ, List, Result, Ok, Err}
use Rattle.c_tokens.specs.declared.token.Tokens.{Tokens}
use Rattle.c_tokens.specs.declared.fault.FaultKind.{FaultKind}
use Rattle.c_tokens.specs.declared.fault.FaultKind.TheVariants as F
use Rattle.c_lexer.specs.declared.fault.LexFault.{LexFault}
use Rattle.c_lexer.specs.declared.fault.LexFault.TheVariants as L
use Rattle.c_tokens.specs.Lexes.{Lexes, LexFaultAt}

-- a fault is of a kind, at a place; of want of memory nothing is said
abbrev pub OnFault : LexFault → (FaultKind → ℕ → Type 0) → Type 0
OnFault (L.BadByte at) Says = Says F.BadByte at
OnFault (L.BadLiteral at) Says = Says F.BadLiteral at
OnFault (L.Unclosed at) Says = Says F.Unclosed at
OnFault (L.TooWide at) Says = Says F.TooWide at
OnFault (L.Memory want) Says = Unit {0}

-- the tokens of the file, or its first fault
abbrev pub LexGives : List ℕ → ℕ → Result Tokens LexFault → Type 0
LexGives bytes file (Ok tokens) = (tokens.file ≡ file) × (tokens.bytes ≡ bytes) × Lexes bytes tokens.list
LexGives bytes file (Err fault) = OnFault fault (LexFaultAt bytes)
