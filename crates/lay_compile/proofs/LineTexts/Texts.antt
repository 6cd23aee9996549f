-- The text of a byte of a file.
use Rattle.std.proofs.Common.{◌≡◌, ℕ, List, take, refl}
use Rattle.lay_base.specs.declared.place.File.{File}
use Rattle.c_tokens.specs.Presuming.{IsPresumed}
use Rattle.c_tokens.specs.declared.presumed.Presumed.{Presumed}
use Rattle.c_erasure.specs.Untagged.{name_in}
use Rattle.lay_compile.specs.LineTexts.PlaceTexts.{line_text, IsTextAt}

pub is_text : (file : File) (at : ℕ) (text : List ℕ) (p : Presumed) → IsPresumed (take at file.bytes) p
    → text ≡ line_text (name_in file.name file.bytes p, p.line) → IsTextAt file at text
is_text file at text p is e = λ place. ((name_in file.name file.bytes p, p.line), (p, is, refl), e)
