-- Where an expression in a statement stops, a rule is broken: of the expression, of its value, or of a condition (C99 6.8).
use Rattle.std.proofs.Common.{◌≡◌, ℕ, true, false, sym, subst, List, length, inl, inr}
use Rattle.std.specs.Prelude.{◌⊎◌, Option, Some, None, Ok, Err}
use Rattle.lay_base.specs.declared.faults.Rule.TheVariants as R
use Rattle.c_ast.specs.Trees
use Rattle.c_ast.specs.Places.{first}
use Rattle.c_typed.specs.Conversions.{is_scalar}
use Rattle.c_erasure.specs.Broken.{Fault, ill_typed, IsBroken, HasNoValue}
use Rattle.c_erasure.specs.Broken as Broken
use Rattle.c_erasure.specs.BrokenStatements.{IsBrokenIfAny, IsNoCondition, IsNoTest}
use Rattle.c_erasure.specs.Literals.{literals, literals_if_any}
use Rattle.c_erasure.specs.Marks.{marks}
use Rattle.c_erasure.specs.Noted.{Expression, type_of}
use Rattle.c_erasure.specs.Scopes.{FileScope, Scope}
use Rattle.c_erasure.specs.Checking.Finding.{value_at, find}
use Rattle.c_erasure.specs.Checking.Statements.{value_of_expression, value_if_any, condition_in, condition, condition_if_any}
use Rattle.c_checking_laws.proofs.InRange.{IsInRange}
use Rattle.c_checking_laws.proofs.FaultPremises.{IsTimely}
use Rattle.c_checking_laws.proofs.FaultResults as Results
use Rattle.c_checking_laws.proofs.FaultAdditions.{of}
use Rattle.c_checking_laws.proofs.FaultResults.{Up, bound_err, unless_err}
use Rattle.c_checking_laws.proofs.FaultParts.{value_is}
use Rattle.c_checking_laws.proofs.Faults.{value_faults}
use Rattle.c_checking_laws.proofs.WholeFiles.Longer.{seen}
use Rattle.c_checking_laws.proofs.WholeFiles.StatementLaws.{IsInRangeIfAny}
use Rattle.c_checking_laws.proofs.WholeFiles.StatementParts.{value_as}
use Rattle.c_checking_units.proofs.FirstStops.Clear.{AreFresh}
use Rattle.c_checking_units.proofs.FirstStops.InnerAdditions.{at_value, at_if_any}
use Rattle.c_checking_units.proofs.FirstStops.Stopped.{Stopped, stopped_more, IsIn, prepared, many, stopped_of, holds_there, stopped_there}

condition_fault : (at : ℕ) (x : Expression) (fault : Fault) → condition_in at x ≡ Err fault
    → (fault ≡ ill_typed R.Condition at) × (is_scalar (type_of x) ≡ false)
unfolding condition_in
condition_fault at x fault h = let b = unless_err (is_scalar (type_of x)) _ _ _ fault h in (b.1, b.0)

module _ (untagged : ℕ → List ℕ) (ends : List ℕ) (f : FileScope) where
  -- records are known where an expression of a function asks for them: those that are known before the function
  abbrev pub IsTimelyThere : Trees.Expression → Type 0
  IsTimelyThere a = IsTimely untagged ends true (length f.records) a

  abbrev pub IsTimelyIfAny : Option Trees.Expression → Type 0
  IsTimelyIfAny None = Unit {0}
  IsTimelyIfAny (Some a) = IsTimelyThere a

  pub value_stops : (a : Trees.Expression) (s : Scope) → IsIn untagged ends f s → IsInRange a → IsTimelyThere a → (fault : Fault)
      → value_of_expression a s ≡ Err fault → Stopped (at_value a) s (λ s. IsBroken a s fault ⊎ HasNoValue a s fault)
  value_stops a s p i t fault h =
      bound_err (value_at (first a) (find a s)) _ fault (Stopped (at_value a) s (λ s. IsBroken a s fault ⊎ HasNoValue a s fault)) h
      (λ e. by_fault (value_faults untagged ends (Up s (of untagged a)) a s (length f.records) i (prepared untagged ends f s p (marks untagged a))
      (many untagged ends f s p) (subst (λ b. IsTimely untagged ends b (length f.records) a) (sym p.within.inside) t) (λ g w. w) fault e))
      (λ x e h. cc)
    where
      by_fault : Results.Broken (Up s (of untagged a)) s (λ s. IsBroken a s fault) ⊎ Results.Broken (Up s (of untagged a)) s (λ s. HasNoValue a s fault)
          → Stopped (at_value a) s (λ s. IsBroken a s fault ⊎ HasNoValue a s fault)
      by_fault (inl b) =
          stopped_more (λ s. IsBroken a s fault) (λ s. IsBroken a s fault ⊎ HasNoValue a s fault) (λ g w. w) (λ s h. inl h)
          (stopped_of untagged ends f s (λ s. IsBroken a s fault) p b)
      by_fault (inr b) =
          stopped_more (λ s. HasNoValue a s fault) (λ s. IsBroken a s fault ⊎ HasNoValue a s fault) (λ g w. w) (λ s h. inr h)
          (stopped_of untagged ends f s (λ s. HasNoValue a s fault) p b)

  -- what is found, where it is found
  pub value_there : (a : Trees.Expression) (s : Scope) → IsIn untagged ends f s → IsInRange a → AreFresh s.file (literals a) → (x : Expression × Scope)
      → value_of_expression a s ≡ Ok x → (Is : Scope → Type 0) → ((s : Scope) → Broken.IsValue a s x.0 → Is s) → Stopped (at_value a) s Is
  value_there a s p i fresh x e Is is =
      let v = value_as untagged f a s i p.within x e in
      stopped_there untagged ends f s _ _ _ _ _ v.found Is
      (is (seen s x.1.file x.1.locals) (value_is a (seen s x.1.file x.1.locals) x.0 (holds_there untagged ends f s _ _ _ _ _ v.found p fresh)))

  pub condition_stops : (a : Trees.Expression) (s : Scope) → IsIn untagged ends f s → IsInRange a → IsTimelyThere a → AreFresh s.file (literals a)
      → (fault : Fault) → condition a s ≡ Err fault → Stopped (at_value a) s (λ s. IsNoCondition a s fault)
  condition_stops a s p i t fresh fault h =
      bound_err (value_of_expression a s) _ fault (Stopped (at_value a) s (λ s. IsNoCondition a s fault)) h
      (λ e. stopped_more (λ s. IsBroken a s fault ⊎ HasNoValue a s fault) (λ s. IsNoCondition a s fault) (λ g w. w) (λ s b. either s b)
      (value_stops a s p i t fault e))
      (λ x e h. bound_err (condition_in (first a) x.0) _ fault (Stopped (at_value a) s (λ s. IsNoCondition a s fault)) h
      (λ k.
      let n = condition_fault (first a) x.0 fault k in
      value_there a s p i fresh x e (λ s. IsNoCondition a s fault) (λ s v. inr (inr (n.0, (x.0, v, n.1)))))
      (λ y k h. cc))
    where
      either : (s : Scope) → IsBroken a s fault ⊎ HasNoValue a s fault → IsNoCondition a s fault
      either s (inl b) = inl b
      either s (inr b) = inr (inl b)

  pub test_stops : (a : Option Trees.Expression) (s : Scope) → IsIn untagged ends f s → IsInRangeIfAny a → IsTimelyIfAny a → AreFresh s.file (literals_if_any a)
      → (fault : Fault) → condition_if_any a s ≡ Err fault → Stopped (at_if_any a) s (λ s. IsNoTest a s fault)
  test_stops None s p i t fresh fault h = cc
  test_stops (Some a) s p i t fresh fault h =
      bound_err (condition a s) _ fault (Stopped (at_value a) s (λ s. IsNoCondition a s fault)) h (λ e. condition_stops a s p i t fresh fault e) (λ x e h. cc)

  pub effect_stops : (a : Option Trees.Expression) (s : Scope) → IsIn untagged ends f s → IsInRangeIfAny a → IsTimelyIfAny a
      → (fault : Fault) → value_if_any a s ≡ Err fault → Stopped (at_if_any a) s (λ s. IsBrokenIfAny a s fault)
  effect_stops None s p i t fault h = cc
  effect_stops (Some a) s p i t fault h =
      bound_err (value_of_expression a s) _ fault (Stopped (at_value a) s (λ s. IsBroken a s fault ⊎ HasNoValue a s fault)) h
      (λ e. value_stops a s p i t fault e) (λ x e h. cc)
