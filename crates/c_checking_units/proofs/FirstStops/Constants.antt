-- Where the initializer of an object that is made before the program starts stops, it is broken, or none of constants (C99 6.7.8).
use Rattle.std.proofs.Common.{◌≡◌, ℕ, ◌≤◌, Bool, true, false, refl, ap, List, [], ◌∷◌, length, inl, inr}
use Rattle.std.proofs.lemmas.List.Elements.{All-head, All-tail}
use Rattle.std.specs.Prelude.{◌⊎◌, ◌&&◌, All, Some, Ok, Err, is_some}
use Rattle.lay_base.specs.declared.faults.Rule.TheVariants as R
use Rattle.c_types.specs.Types.{CType}
use Rattle.c_ast.specs.Trees
use Rattle.c_ast.specs.Places.{first}
use Rattle.c_typed.specs.Trees as Typed
use Rattle.c_typed.specs.Typed.{Declared}
use Rattle.c_erasure.specs.Broken.{Fault, ill_typed}
use Rattle.c_erasure.specs.BrokenStatements.{IsBrokenInitializer, IsBrokenInitial, HasNoConstants}
use Rattle.c_erasure.specs.Initializers.{Part, HasConstant, AreConstants}
use Rattle.c_erasure.specs.Literals.{literals}
use Rattle.c_erasure.specs.Marks.{marks}
use Rattle.c_erasure.specs.Noted.{Noted}
use Rattle.c_erasure.specs.Scopes.{FileScope, Scope, declared}
use Rattle.c_erasure.specs.Checking.Answers.{moved}
use Rattle.c_erasure.specs.Checking.Initializers.{initialized, initializer, is_constant_part, are_constant_parts, are_constants, constants_in}
use Rattle.c_erasure.specs.Checking.Statements.{constants_if_any}
use Rattle.c_checking_laws.proofs.Extends.{itself}
use Rattle.c_checking_laws.proofs.InRange.{IsInRange}
use Rattle.c_checking_laws.proofs.FaultPremises.{Prepared}
use Rattle.c_checking_laws.proofs.FaultResults.{Up, bound_err, with_file_err, unless_err, Broken, there, whole, reached_some}
use Rattle.c_checking_laws.proofs.FaultAdditions.{of}
use Rattle.c_checking_laws.proofs.WholeFiles.Layouts.{IsLaid}
use Rattle.c_checking_laws.proofs.WholeFiles.Initials.{IsKnown, ReadFrom, same_locals}
use Rattle.c_checking_laws.proofs.WholeFiles.Wholes.{sound_whole}
use Rattle.c_checking_units.proofs.FirstStops.Clear.{AreFresh, picked_made, begun_there, clear_there}
use Rattle.c_checking_units.proofs.FirstStops.BracesFaults.{IsInitialTimely, initial_faults}

-- ---- what the test of constants tells

constant_so : (d : Declared) (v : Typed.PartValue Noted) → HasConstant d v → is_constant_part d v ≡ true
constant_so d (Typed.value x) h = ap is_some h.1
constant_so d (Typed.record_of p) h = absurd h
constant_so d (Typed.text bytes) h = refl

both_so : (b c : Bool) → b ≡ true → c ≡ true → (b && c) ≡ true
both_so true c p q = q
both_so false c p q = cc

parts_so : (d : Declared) (all : List Part) → All (λ part. HasConstant d part.value) all → are_constant_parts d all ≡ true
parts_so d [] h = refl
parts_so d (part ∷ more) h =
    both_so (is_constant_part d part.value) (are_constant_parts d more)
    (constant_so d part.value (All-head (λ (part : Part). HasConstant d part.value) part more h))
    (parts_so d more (All-tail (λ (part : Part). HasConstant d part.value) part more h))

constants_so : (d : Declared) (i : Typed.Initializer Noted) → AreConstants d i → are_constants d i ≡ true
constants_so d (Typed.whole x) h = constant_so d (Typed.value x) h
constants_so d (Typed.whole_record p) h = absurd h
constants_so d (Typed.parts all) h = parts_so d all h

constants_fault : (d : Declared) (at : ℕ) (i : Typed.Initializer Noted) (f : Fault) → constants_in d at i ≡ Err f
    → (f ≡ ill_typed R.Init at) × (AreConstants d i → ⊥)
unfolding constants_in
constants_fault d at i f h =
    let b = unless_err (are_constants d i) _ _ _ f h in
    (b.1, λ c. let t = constants_so d i c in let n = b.0 in cc)

module _ (untagged : ℕ → List ℕ) (ends : List ℕ) where
  -- ---- initializers of whole objects

  pub initializer_faults : (k : FileScope) (a : Trees.Expression) (s : Scope) (n : ℕ) → IsInRange a → Prepared untagged ends s (marks untagged a)
      → n ≤ length s.file.records → IsInitialTimely untagged ends s.is_inside n a → ReadFrom untagged k s → AreFresh s.file (literals a) → (t : CType)
      → IsKnown k t → (f : Fault) → initializer a s t ≡ Err f → Broken (Up s (of untagged a)) s (λ s. IsBrokenInitializer a s t f)
  initializer_faults k a s n i p l w q fresh t o f h =
      bound_err (initialized a s t 0) _ f (Broken (Up s (of untagged a)) s (λ s. IsBrokenInitializer a s t f)) h
      (λ e. initial_faults untagged ends k a s n i p l w q fresh t 0 o f e) (λ x e h. cc)

  -- ---- of an object that is made before the program starts; what the initializer is typed in has records whose objects are not empty

  pub constant_faults : (k : FileScope) (value : ℕ × Trees.Expression) (s : Scope) (n : ℕ) → IsInRange value.1 → Prepared untagged ends s (marks untagged value.1)
      → n ≤ length s.file.records → IsInitialTimely untagged ends s.is_inside n value.1 → ReadFrom untagged k s → AreFresh s.file (literals value.1)
      → (t : CType) → IsKnown k t → ((z : Typed.Initializer Noted × FileScope) → initializer value.1 s t ≡ Ok z → IsLaid z.1) → (f : Fault)
      → constants_if_any (Some value) s t ≡ Err f
      → Broken (Up s (of untagged value.1)) s (λ s. IsBrokenInitial (Some value) s t f ⊎ HasNoConstants (Some value) s t f)
  constant_faults k value s n i p l w q fresh t o laid f h =
      let May = Up s (of untagged value.1) in
      bound_err (initializer value.1 s t) _ f (Broken May s (λ s. IsBrokenInitial (Some value) s t f ⊎ HasNoConstants (Some value) s t f)) h
      (λ e. whole May s (λ s. IsBrokenInitializer value.1 s t f) (λ s. IsBrokenInitial (Some value) s t f ⊎ HasNoConstants (Some value) s t f)
      (initializer_faults k value.1 s n i p l w q fresh t o f e) (λ g p h. inl h))
      (λ z e h.
      let v = sound_whole untagged k value.1 s i p.ready q t o z e in
      let is = v.holds z.1 s.locals (itself z.1) (same_locals untagged s) (laid z e) (clear_there v.parted fresh (begun_there s v.grows)) in
      let c = constants_fault (declared (moved s z.1)) (first value.1) z.0 f
      (with_file_err z.1 (constants_in (declared (moved s z.1)) (first value.1) z.0) f h) in
      there May s (λ s. IsBrokenInitial (Some value) s t f ⊎ HasNoConstants (Some value) s t f) z.1 (reached_some May s (literals value.1) v.grew v.grows (picked_made v.parted) (λ g w. w))
      (inr (z.0, is.0, is.1, c.1, c.0)))
