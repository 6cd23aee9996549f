-- The files of a list, one round after the other.
use Rattle.std.proofs.Common.{◌≡◌, ◌∙◌, ℕ, ◌+◌, ◌<◌, List, [], ◌∷◌, ◌++◌, length, take, drop, get_or, sym, ap, subst, arith, append_assoc}
use Rattle.std.specs.Prelude.{Ok, Err}
use Rattle.std.proofs.lemmas.List.{take_more, take-append-drop, length-take-le}
use Rattle.lay_base.specs.declared.place.File.{File}
use Rattle.lay_compile.specs.declared.fault.CompileFault.{CompileFault}
use Rattle.lay_compile.specs.declared.stages.Reached.{Reached}
use Rattle.lay_compile.specs.Front.{IsFaultOf}
use Rattle.lay_compile.specs.Reaching.{HaveReached, StepGives}

taken : (files : List File) (i number : ℕ) → i < length files → number ≡ i → length (take i files) ≡ number
taken files i number l e = length-take-le i files (omega (arith, l)) ∙ sym e

one_more : (files : List File) (i : ℕ) (file : File) → i < length files → file ≡ get_or files i file → take i files ++ file ∷ [] ≡ take (i + 1) files
one_more files i file l is = ap (λ x. take i files ++ x ∷ []) is ∙ sym (take_more files i file l)

with_later : (files : List File) (i : ℕ) (file : File) → i < length files → file ≡ get_or files i file
    → take i files ++ file ∷ drop (i + 1) files ≡ files
with_later files i file l is =
    sym (append_assoc (take i files) (file ∷ []) (drop (i + 1) files)) ∙ ap (λ all. all ++ drop (i + 1) files) (one_more files i file l is)
    ∙ take-append-drop (i + 1) files

pub next_reached : (files : List File) (i number : ℕ) (file : File) (reached next : Reached) → i < length files → file ≡ get_or files i file → number ≡ i
    → HaveReached (take i files) reached → StepGives number file reached (Ok next) → HaveReached (take (i + 1) files) next
next_reached files i number file reached next l is e h s =
    subst (λ all. HaveReached all next) (one_more files i file l is) (s (take i files) (taken files i number l e) h)

pub fault_reached : (files : List File) (i number : ℕ) (file : File) (reached : Reached) (fault : CompileFault) → i < length files
    → file ≡ get_or files i file → number ≡ i → HaveReached (take i files) reached → StepGives number file reached (Err fault) → IsFaultOf files fault
fault_reached files i number file reached fault l is e h s =
    subst (λ all. IsFaultOf all fault) (with_later files i file l is) (s (take i files) (taken files i number l e) h (drop (i + 1) files))
