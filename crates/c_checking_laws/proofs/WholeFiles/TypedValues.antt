-- The values of an initializer are typed in the file that it leaves (C99 6.7.8).
use Rattle.std.proofs.Common.{◌≡◌, ℕ, Bool, true, false, cond, List, [], ◌∷◌}
use Rattle.std.proofs.lemmas.List.Elements.{All-cons, All-nil}
use Rattle.std.specs.Prelude.{All, Ok, ◌||◌, ◌&&◌, not}
use Rattle.c_types.specs.Types.{CType}
use Rattle.c_ast.specs.Trees
use Rattle.c_typed.specs.Trees as Typed
use Rattle.c_typed.specs.Conversions.{is_scalar, is_record}
use Rattle.c_typed.specs.Mapped.{of_types, mapped_value}
use Rattle.c_typed.specs.Typed.{Declared, IsTyped}
use Rattle.c_typed.specs.TypedStatements.{IsTypedValue}
use Rattle.c_erasure.specs.Erasure.{typed}
use Rattle.c_erasure.specs.Initializers.{Part, is_braces}
use Rattle.c_erasure.specs.Marks.{marks}
use Rattle.c_erasure.specs.Noted.{Noted}
use Rattle.c_erasure.specs.Scopes.{FileScope, Scope, declared}
use Rattle.c_erasure.specs.Checking.Answers.{moved}
use Rattle.c_erasure.specs.Checking.Initializers.{initialized, initializer, whole_in, whole_of}
use Rattle.c_checking_laws.proofs.Results.{bound_ok, given}
use Rattle.c_checking_laws.proofs.Extends.{itself}
use Rattle.c_checking_laws.proofs.Agreement.{Ready}
use Rattle.c_checking_laws.proofs.InRange.{IsInRange}
use Rattle.c_checking_laws.proofs.WholeFiles.Parts.{AreOver}
use Rattle.c_checking_laws.proofs.WholeFiles.Initials.{OfObject, ReadFrom, IsKnown, sound_initial, same_locals}

abbrev pub IsValueTyped : Declared → Typed.PartValue Noted → Type 0
IsValueTyped d (Typed.value x) = IsTyped d (typed x)
IsValueTyped d (Typed.record_of p) = Unit {0}
IsValueTyped d (Typed.text bytes) = Unit {0}

abbrev pub AreValuesTyped : Declared → Typed.Initializer Noted → Type 0
AreValuesTyped d (Typed.whole x) = IsTyped d (typed x)
AreValuesTyped d (Typed.whole_record p) = Unit {0}
AreValuesTyped d (Typed.parts all) = All (λ part. IsValueTyped d part.value) all

one_value : (d : Declared) (u : CType) (v : Typed.PartValue Noted) → IsTypedValue d u (mapped_value (of_types (λ t. t.ty)) v) → IsValueTyped d v
one_value d u (Typed.value x) h = h.0
one_value d u (Typed.record_of p) h = tt
one_value d u (Typed.text bytes) h = tt

values_over : (P : ℕ → CType → Type 0) (d : Declared) (parts : List Part) → AreOver P d parts → All (λ part. IsValueTyped d part.value) parts
values_over P d [] h = All-nil (λ (part : Part). IsValueTyped d part.value)
values_over P d (part ∷ more) h =
    All-cons (λ (part : Part). IsValueTyped d part.value) part more (one_value d h.0.0 part.value h.0.2) (values_over P d more h.1)

whole_values : (P : ℕ → CType → Type 0) (d : Declared) (parts : List Part) → AreOver P d parts → AreValuesTyped d (whole_in parts)
whole_values P d [] h = values_over P d [] h
whole_values P d (part ∷ []) h = from part.value (one_value d h.0.0 part.value h.0.2)
  where
    from : (v : Typed.PartValue Noted) → IsValueTyped d v → AreValuesTyped d (Rattle.c_erasure.specs.Checking.Initializers.whole_from v (part ∷ []))
    from (Typed.value x) k = k
    from (Typed.record_of p) k = tt
    from (Typed.text bytes) k = values_over P d (part ∷ []) h
whole_values P d (part ∷ next ∷ more) h = values_over P d (part ∷ next ∷ more) h

either_values : (b : Bool) (P : ℕ → CType → Type 0) (d : Declared) (parts : List Part) → AreOver P d parts
    → AreValuesTyped d (cond b (whole_in parts) (Typed.parts parts))
either_values true P d parts h = whole_values P d parts h
either_values false P d parts h = values_over P d parts h

module _ (untagged : ℕ → List ℕ) where
  pub values_typed : (f : FileScope) (a : Trees.Expression) (s : Scope) → IsInRange a → Ready s (marks untagged a) → ReadFrom untagged f s → (t : CType)
      → IsKnown f t → (z : Typed.Initializer Noted × FileScope) → initializer a s t ≡ Ok z → AreValuesTyped (declared (moved s z.1)) z.0
  values_typed f a s n r q t k z h =
      let x = bound_ok (initialized a s t 0) _ z h in
      let v = sound_initial untagged f a s n r q t 0 k x.0 x.1 in
      given (λ (z : Typed.Initializer Noted × FileScope). AreValuesTyped (declared (moved s z.1)) z.0) (whole_of t (is_braces a) x.0.0, x.0.1) z x.2
      (either_values (is_scalar t || (is_record t && not (is_braces a))) (OfObject t 0 x.0.1) (declared (moved s x.0.1)) x.0.0
      (v.typed x.0.1 s.locals (itself x.0.1) (same_locals untagged s)))
