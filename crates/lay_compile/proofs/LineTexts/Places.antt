-- Bytes that have a fault are no tokens.
use Rattle.std.proofs.Common.{ℕ, List, take, refl}
use Rattle.std.specs.Prelude.{◌≢◌, None}
use Rattle.lay_base.specs.Want.{no_memory}
use Rattle.c_lexer.specs.declared.fault.LexFault.{LexFault}
use Rattle.c_lexer.specs.declared.fault.LexFault.TheVariants as L
use Rattle.c_tokens.specs.declared.fault.FaultKind.TheVariants as F
use Rattle.c_lexer.specs.Answers.{OnFault}
use Rattle.c_tokens.specs.Lexes.{LexFaultAt}
use Rattle.c_lexer.specs.Readings.{HaveOneReading}
use Rattle.lay_compile.specs.LineTexts.PlaceTexts.{PresumesIfAny}

pub no_tokens : (bytes : List ℕ) (at : ℕ) (fault : LexFault) → HaveOneReading → OnFault fault (LexFaultAt (take at bytes)) → fault ≢ L.Memory no_memory
    → PresumesIfAny bytes at None
no_tokens bytes at (L.BadByte place) one says memory = λ is. one.not_both (take at bytes) is.1.0 F.BadByte place is.1.1 says
no_tokens bytes at (L.BadLiteral place) one says memory = λ is. one.not_both (take at bytes) is.1.0 F.BadLiteral place is.1.1 says
no_tokens bytes at (L.Unclosed place) one says memory = λ is. one.not_both (take at bytes) is.1.0 F.Unclosed place is.1.1 says
no_tokens bytes at (L.TooWide place) one says memory = λ is. one.not_both (take at bytes) is.1.0 F.TooWide place is.1.1 says
no_tokens bytes at (L.Memory want) one says memory = absurd (memory refl)
