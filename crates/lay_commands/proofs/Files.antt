-- Known files over two calls of a host.
use Rattle.std.proofs.Common.{◌≡◌, ℕ, List, Option, Some, None, Bool, true, false, refl, ◌∙◌}
use Rattle.std.specs.Prelude.{◌≢◌, ◌⊎◌}
use Rattle.std.proofs.Common.{inl, inr}
use Rattle.std.specs.Str.{bytes_eq}
use Rattle.std.proofs.lemmas.Slice.Eq.{bytes_eq-Decides}
use Rattle.lay_base.specs.Known.{Contents, IfKnown, FilesKeep, FilesKeepBut}

-- two names are one name or two
same_name : (a b : List ℕ) → (a ≡ b) ⊎ (a ≢ b)
same_name a b = by_test (bytes_eq a b) refl
  where
    by_test : (t : Bool) → bytes_eq a b ≡ t → (a ≡ b) ⊎ (a ≢ b)
    by_test true e = inl ((bytes_eq-Decides a b).0 e)
    by_test false e = inr (λ same. let t = (bytes_eq-Decides a b).1 same in cc)

-- a call that changes nothing, and one that changes one file
pub keep_then_but : (out : List ℕ) (f0 f1 f2 : Option Contents) → FilesKeep f0 f1 → FilesKeepBut out f1 f2 → FilesKeepBut out f0 f2
keep_then_but out None None f2 k b = b
keep_then_but out None (Some f1) f2 k b = cc
keep_then_but out (Some f0) None f2 k b = absurd k
keep_then_but out (Some f0) (Some f1) None k b = absurd b
keep_then_but out (Some f0) (Some f1) (Some f2) k b = λ name other. b name other ∙ k name

-- a call that changes nothing, and one that leaves its file as it was
pub keep_then_same : (out : List ℕ) (f0 f1 f2 : Option Contents) → FilesKeep f0 f1 → FilesKeepBut out f1 f2
    → IfKnown f1 out (λ was. IfKnown f2 out (λ file. file ≡ was)) → FilesKeep f0 f2
keep_then_same out None None f2 k b t = b
keep_then_same out None (Some f1) f2 k b t = cc
keep_then_same out (Some f0) None f2 k b t = absurd k
keep_then_same out (Some f0) (Some f1) None k b t = absurd b
keep_then_same out (Some f0) (Some f1) (Some f2) k b t = λ name.
    elim (same_name name out) [ inl e ↦ (rw e t) ∙ k name | inr ne ↦ b name ne ∙ k name ]
