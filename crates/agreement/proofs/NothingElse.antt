-- That a machine does nothing else than its source follows from what it does where the source ends and goes on: a step leads to one state.
use Rattle.std.proofs.Common.{◌≡◌, ℕ, ◌+◌, ◌-◌, ◌≤◌, inl, inr, List, sym, ap, ◌∙◌, subst, arith, refl}
use Rattle.std.proofs.lemmas.Bool.{cases_lt}
use Rattle.block_memory.specs.SourceEnd.{SourceEnd, Ends, GoesOn, Undefined, IsDefined}
use Rattle.rv_isa.specs.declared.image.Image.{Image}
use Rattle.rv_isa.specs.declared.image.Segment.{Segment}
use Rattle.rv_isa.specs.Step.{State, Standing, Running, Exits}
use Rattle.rv_isa.specs.Run.{Shown, run, start, machine_run}
use Rattle.rv_isa.proofs.Runs.{settled, was_running}
use Rattle.agreement.specs.Agreement.{SourceRun, Lightness, AgreesFor, shows, ShowsOnlySource}
use Rattle.agreement.specs.Laws.{Follows}

running_fine : (source : SourceRun) (input : List ℕ) (m : Shown) → m.standing ≡ Running → ShowsOnlySource source input m
running_fine source input m e = subst (λ (z : Standing). ShowsOnlySource source input (shows z m.output m.rest)) (sym e) tt

module _ (segments : List Segment) (s : State) (source : SourceRun) (input : List ℕ) where
  -- a run that has ended shows its end at each moment, or still runs
  shows_only : (n last status : ℕ) (output rest : List ℕ) → run segments last s ≡ shows (Exits status) output rest → source input n ≡ Ends output status rest
      → (m : ℕ) → ShowsOnlySource source input (run segments m s)
  shows_only n last status output rest ends says m =
      let end_fine = λ (x : Shown) (e : x ≡ shows (Exits status) output rest). subst (λ (z : Shown). ShowsOnlySource source input z) (sym e) (n, says) in
      elim (cases_lt last m) [
        | inl later ↦ elim (settled segments last s) [
          | inl r ↦ absurd (let e : Running ≡ Exits status = sym r ∙ ap (λ (x : Shown). x.standing) ends in cc)
          | inr f ↦ (let e : m ≡ last + (m - last) = omega arith in end_fine (run segments m s) (ap (λ (k : ℕ). run segments k s) e ∙ f (m - last) ∙ ends))
        ]
        | inr earlier ↦ elim (settled segments m s) [
          | inl r ↦ running_fine source input (run segments m s) r
          | inr f ↦ (let e : m + (last - m) ≡ last = omega arith in
              end_fine (run segments m s) (sym (f (last - m)) ∙ ap (λ (k : ℕ). run segments k s) e ∙ ends))
        ]
      ]

module _ (source : SourceRun) (image : Image) (input : List ℕ) (follows : Follows source image input) (defined : (n : ℕ) → IsDefined (source input n)) where
  -- with one turn more than m, the source has ended, or the machine runs on after no fewer than m steps
  by_source : (m : ℕ) (e : SourceEnd) → source input (m + 1) ≡ e → IsDefined e → ShowsOnlySource source input (machine_run image input m)
  by_source m (Ends output status rest) says d =
      let h = follows.ends (m + 1) output status rest says in
      shows_only image.segments (start image input) source input (m + 1) h.0 status output rest h.1 says m
  by_source m (GoesOn output rest) says d =
      let h = follows.goes_on (m + 1) output rest says in
      let e : m + (h.0 - m) ≡ h.0 = omega (arith, h.1) in
      let r = ap (λ (k : ℕ). (run image.segments k (start image input)).standing) e ∙ ap (λ (x : Shown). x.standing) h.2 in
      running_fine source input (machine_run image input m) (was_running image.segments m (h.0 - m) (start image input) r)
  by_source m (Undefined kind place output rest) says d = absurd d

  pub does_nothing_else : (m : ℕ) → ShowsOnlySource source input (machine_run image input m)
  does_nothing_else m = by_source m (source input (m + 1)) refl (defined (m + 1))

-- so agreement for an input has two clauses to show
pub agrees_for : (source : SourceRun) (IsLight : Lightness) (image : Image) (input : List ℕ)
    → ((n : ℕ) (output : List ℕ) (status : ℕ) (rest : List ℕ) → source input n ≡ Ends output status rest → IsLight input n
    → (m : ℕ) × (machine_run image input m ≡ shows (Exits status) output rest))
    → ((n : ℕ) (output rest : List ℕ) → source input n ≡ GoesOn output rest → IsLight input n
    → (m : ℕ) × (n ≤ m) × (machine_run image input m ≡ shows Running output rest))
    → AgreesFor source IsLight image input
agrees_for source IsLight image input ends goes_on = record {
  ends = ends;
  goes_on = goes_on;
  nothing_else = λ defined light. does_nothing_else source image input (record {
    ends = λ n output status rest says. ends n output status rest says (light n);
    goes_on = λ n output rest says. goes_on n output rest says (light n);
  }) defined;
}
