-- What is known of a file where functions are declared and defined (C99 6.7, 6.9.1).
use Rattle.std.proofs.Common.{◌≡◌, ℕ, zero, suc, refl, sym, ap, ◌∙◌, subst, List, [], ◌∷◌, length, inl, inr}
use Rattle.std.specs.Prelude.{◌⊎◌, Some, slice_get, slice_set}
use Rattle.c_types.specs.Types.{CType}
use Rattle.c_erasure.specs.Scopes.{FileScope, Bound, AFunction}
use Rattle.c_erasure.specs.Checking.Files.{with_new_function}
use Rattle.c_checking_laws.proofs.Agreement.{fits_stay}
use Rattle.c_checking_laws.proofs.Extends.{Extends, last_or}
use Rattle.c_checking_laws.proofs.WholeFiles.FileObjects.{set_same, set_other}
use Rattle.c_checking_laws.proofs.WholeFiles.FileScopes.{IsSameFunction}
use Rattle.c_checking_laws.proofs.WholeFiles.Known.{IsFunctionKnown, IsKnown, none_new, this_one, functions_bound_longer}

module _ (nodes_at : ℕ → ℕ) (made : List ℕ) where
  pub new_function_known : (f : FileScope) (o : AFunction) → Extends f (with_new_function f o) → IsKnown nodes_at made none_new none_new f
      → IsKnown nodes_at made none_new (this_one (length f.functions)) (with_new_function f o)
  new_function_known f o p k = record {
    fits = fits_stay p [] f.names k.fits;
    settled = k.settled;
    whole = k.whole;
    consistent = k.consistent;
    objects_bound = k.objects_bound;
    functions_bound = functions_bound_longer f.names f.functions (o ∷ []) k.functions_bound;
    libraries_bound = k.libraries_bound;
    objects = k.objects;
    functions = λ n q e. one n q (last_or f.functions o n q e);
  }
    where
      one : (n : ℕ) (q : AFunction) → (slice_get f.functions n ≡ Some q) ⊎ ((n ≡ length f.functions) × (o ≡ q))
          → (n ≡ length f.functions) ⊎ IsFunctionKnown nodes_at f.file f.names n q
      one n q (inl e) = old (k.functions n q e)
        where
          old : ⊥ ⊎ IsFunctionKnown nodes_at f.file f.names n q → (n ≡ length f.functions) ⊎ IsFunctionKnown nodes_at f.file f.names n q
          old (inl h) = absurd h
          old (inr h) = inr h
      one n q (inr e) = inl e.0

  pub replaced_function_known : (P : ℕ → Type 0) (f : FileScope) (n : ℕ) (o p : AFunction) → slice_get f.functions n ≡ Some o → IsSameFunction o p
      → Extends f (record f { functions = slice_set f.functions n p }) → IsKnown nodes_at made P (this_one n) f → IsKnown nodes_at made P (this_one n) (record f { functions = slice_set f.functions n p })
  replaced_function_known P f n o p h same e k = record {
    fits = fits_stay e [] f.names k.fits;
    settled = k.settled;
    whole = k.whole;
    consistent = k.consistent;
    objects_bound = k.objects_bound;
    functions_bound = λ j b g m t is. let q = k.functions_bound j b g m t is in bound m t b q (set_other f.functions n o p h m q.0 q.1);
    libraries_bound = k.libraries_bound;
    objects = k.objects;
    functions = λ m q g. one m q (set_or m q g);
  }
    where
      from_set : (xs : List AFunction) (n m : ℕ) (p q : AFunction) → slice_get (slice_set xs n p) m ≡ Some q
          → ((m ≡ n) × (q ≡ p)) ⊎ (slice_get xs m ≡ Some q)
      from_set [] n m p q g = inr g
      from_set (x ∷ xs) zero zero p q g = let f : p ≡ q = cc in inl (refl, sym f)
      from_set (x ∷ xs) zero (suc m) p q g = inr g
      from_set (x ∷ xs) (suc n) zero p q g = inr g
      from_set (x ∷ xs) (suc n) (suc m) p q g = next (from_set xs n m p q g)
        where
          next : ((m ≡ n) × (q ≡ p)) ⊎ (slice_get xs m ≡ Some q) → ((suc m ≡ suc n) × (q ≡ p)) ⊎ (slice_get (x ∷ xs) (suc m) ≡ Some q)
          next (inl e) = inl (ap suc e.0, e.1)
          next (inr e) = inr e

      set_or : (m : ℕ) (q : AFunction) → slice_get (slice_set f.functions n p) m ≡ Some q → ((m ≡ n) × (q ≡ p)) ⊎ (slice_get f.functions m ≡ Some q)
      set_or m q g = from_set f.functions n m p q g

      bound : (m : ℕ) (t : CType) (b : Bound)
          → (q : (q : AFunction) × (slice_get f.functions m ≡ Some q) × (q.name ≡ b.name) × (q.ty ≡ t))
          → ((m ≡ n) × (q.0 ≡ o)) ⊎ (slice_get (slice_set f.functions n p) m ≡ Some q.0)
          → (q : AFunction) × (slice_get (slice_set f.functions n p) m ≡ Some q) × (q.name ≡ b.name) × (q.ty ≡ t)
      bound m t b q (inl e) = (
        p,
        subst (λ m. slice_get (slice_set f.functions n p) m ≡ Some p) (sym e.0) (set_same f.functions n o p h),
        same.name ∙ ap (λ (o : AFunction). o.name) (sym e.1) ∙ q.2,
        same.ty ∙ ap (λ (o : AFunction). o.ty) (sym e.1) ∙ q.3,
      )
      bound m t b q (inr e) = (q.0, e, q.2, q.3)

      one : (m : ℕ) (q : AFunction) → ((m ≡ n) × (q ≡ p)) ⊎ (slice_get f.functions m ≡ Some q)
          → (m ≡ n) ⊎ IsFunctionKnown nodes_at f.file f.names m q
      one m q (inl e) = inl e.0
      one m q (inr e) = k.functions m q e

  pub settle_function : (P : ℕ → Type 0) (f : FileScope) (n : ℕ) (o : AFunction) → slice_get f.functions n ≡ Some o
      → IsFunctionKnown nodes_at f.file f.names n o → IsKnown nodes_at made P (this_one n) f → IsKnown nodes_at made P none_new f
  settle_function P f n o h is k = record {
    fits = k.fits;
    settled = k.settled;
    whole = k.whole;
    consistent = k.consistent;
    objects_bound = k.objects_bound;
    functions_bound = k.functions_bound;
    libraries_bound = k.libraries_bound;
    objects = k.objects;
    functions = λ m q e. one m q e (k.functions m q e);
  }
    where
      one : (m : ℕ) (q : AFunction) → slice_get f.functions m ≡ Some q → (m ≡ n) ⊎ IsFunctionKnown nodes_at f.file f.names m q
          → ⊥ ⊎ IsFunctionKnown nodes_at f.file f.names m q
      one m q e (inr g) = inr g
      one m q e (inl g) =
          let there : Some q ≡ Some o = sym e ∙ ap (slice_get f.functions) g ∙ h in
          let same : q ≡ o = cc in
          inr (subst (λ q. IsFunctionKnown nodes_at f.file f.names m q) (sym same) (subst (λ m. IsFunctionKnown nodes_at f.file f.names m o) (sym g) is))
