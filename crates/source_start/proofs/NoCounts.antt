-- Counts that are all 0 are zero, and all there.
use Rattle.std.proofs.Common.{◌≡◌, refl, ap, ◌∙◌, ℕ, zero, suc, List, [], ◌∷◌, length, map, replicate, slice_get, Some}
use Rattle.std.proofs.lemmas.List.{length-replicate}
use Rattle.c_typed.specs.RunCounts.Loops.{loops_of}
use Rattle.c_typed.specs.Programs.{FunctionData, ProgramData}
use Rattle.source_start.specs.Shape.{HasAll}
use Rattle.source_start.specs.Zeros.{no_counts}
use Rattle.source_state.specs.Steps.AtStart.{AreZero}

in_zeros : (count k n : ℕ) → slice_get (replicate count 0) k ≡ Some n → n ≡ zero
in_zeros zero k n e = cc
in_zeros (suc count) zero n e = cc
in_zeros (suc count) (suc k) n e = in_zeros count k n e

in_rows : (fs : List FunctionData) (f l n : ℕ) (loops : List ℕ)
    → slice_get (map (λ f. replicate (loops_of f) 0) fs) f ≡ Some loops → slice_get loops l ≡ Some n → n ≡ zero
in_rows [] f l n loops e i = cc
in_rows (g ∷ fs) zero l n loops e i = in_zeros (loops_of g) l n (ap (λ loops. slice_get loops l) (same e) ∙ i)
  where
    same : Some (replicate (loops_of g) 0) ≡ Some loops → replicate (loops_of g) 0 ≡ loops
    same e = cc
in_rows (g ∷ fs) (suc f) l n loops e i = in_rows fs f l n loops e i

pub are_zero : (p : ProgramData) → AreZero (no_counts p)
are_zero p = record { entries = in_zeros (length p.functions); begins = in_rows p.functions }

as_many : (fs : List FunctionData) → map length (map (λ f. replicate {A = ℕ} (loops_of f) 0) fs) ≡ map loops_of fs
as_many [] = refl
as_many (f ∷ fs) =
    let here : length (replicate (loops_of f) zero) ≡ loops_of f = length-replicate (loops_of f) zero in
    let more : map length (map (λ f. replicate {A = ℕ} (loops_of f) 0) fs) ≡ map loops_of fs = as_many fs in
    cc

pub has_all : (p : ProgramData) → HasAll p (no_counts p)
has_all p = record { entries = length-replicate (length p.functions) 0; begins = as_many p.functions }
