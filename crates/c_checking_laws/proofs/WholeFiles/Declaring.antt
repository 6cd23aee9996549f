-- What is known of a file where objects and functions are declared: a new one stands behind the others, a name is bound, and what is defined takes
-- the place of what was declared (C99 6.7, 6.9).
use Rattle.std.proofs.Common.{◌≡◌, ◌≢◌, ℕ, zero, suc, ◌+◌, Bool, true, false, refl, sym, ap, ◌∙◌, subst, List, [], ◌∷◌, ◌++◌, length, arith, inl, inr}
use Rattle.std.proofs.lemmas.Bool.{eqb-true}
use Rattle.std.specs.Prelude.{◌⊎◌, ◌==◌, Some, None, slice_get, slice_set}
use Rattle.c_types.specs.Types.{CType}
use Rattle.c_types.specs.Objects.{is_object}
use Rattle.c_typed.specs.declared.operators.LibraryFunction.{LibraryFunction}
use Rattle.c_erasure.specs.Scopes.{FileScope, Bound, Entity, typedef, enumerator, an_object, a_function, a_library_function, a_local, a_parameter}
use Rattle.c_erasure.specs.Scopes.{AnObject, AFunction}
use Rattle.c_erasure.specs.Checking.Declaring.{with_bound}
use Rattle.c_erasure.specs.Checking.Files.{with_new_object, library_named}
use Rattle.c_erasure.specs.Checking.Statements.{replaced_object}
use Rattle.c_checking_laws.proofs.Agreement.{IsFit, fits_stay, one_more_fits}
use Rattle.c_checking_laws.proofs.Extends.{Extends, last_or}
use Rattle.c_checking_laws.proofs.WholeFiles.Kept.{objects_more}
use Rattle.c_checking_laws.proofs.WholeFiles.FileObjects.{set_same, set_other}
use Rattle.c_checking_laws.proofs.WholeFiles.FileScopes.{IsSameObject, bound_put}
use Rattle.c_checking_laws.proofs.WholeFiles.Known.{AreOthers, others_define_none, IsObjectKnown, object_later, IsFunctionKnown, function_later}
use Rattle.c_checking_laws.proofs.WholeFiles.Known.{IsKnown, none_new, this_one, one_bound}
use Rattle.c_checking_laws.proofs.WholeFiles.Known.{objects_bound_more, functions_bound_more, libraries_bound_more, objects_bound_longer}
use Rattle.c_checking_laws.proofs.WholeFiles.Names.{MayBind, bind_consistent}

no_more : (file : ℕ) (names more : List Bound) (made : List ℕ) (n : ℕ) (o : AnObject) → AreOthers more (an_object n o.ty)
    → IsObjectKnown file names made n o → IsObjectKnown file (names ++ more) made n o
no_more file names more made n o h k =
    subst (λ made. IsObjectKnown file (names ++ more) made n o) (Rattle.std.proofs.Common.append-nil made)
    (object_later file names more made [] n o h k)

-- what a bound name stands for is among the objects and functions of the file
pub record IsBoundIn (f : FileScope) (b : Bound) : Type 0 where
  pub fit : IsFit f [] b.entity
  pub object : (n : ℕ) (t : CType) → b.entity ≡ an_object n t
      → (o : AnObject) × (slice_get f.objects n ≡ Some o) × (o.name ≡ b.name) × (o.ty ≡ t) × (o.literal ≡ None)
  pub function : (n : ℕ) (t : CType) → b.entity ≡ a_function n t → (g : AFunction) × (slice_get f.functions n ≡ Some g) × (g.name ≡ b.name) × (g.ty ≡ t)
  pub library : (which : LibraryFunction) → b.entity ≡ a_library_function which → library_named b.name ≡ Some which

equal_or_not : (n m : ℕ) → (n ≡ m) ⊎ (n ≢ m)
equal_or_not n m = by_test (n == m) refl
  where
    by_test : (t : Bool) → n == m ≡ t → (n ≡ m) ⊎ (n ≢ m)
    by_test true e = inl (eqb-true n m e)
    by_test false e = inr (λ f. let g = Rattle.std.proofs.lemmas.Bool.eq-eqb n m f in cc)

pub object_or_not : (e : Entity) (n : ℕ) (t : CType) → ((u : CType) × (e ≡ an_object n u)) ⊎ (e ≢ an_object n t)
object_or_not (an_object m u) n t = by_number (equal_or_not m n)
  where
    by_number : (m ≡ n) ⊎ (m ≢ n) → ((v : CType) × (an_object m u ≡ an_object n v)) ⊎ (an_object m u ≢ an_object n t)
    by_number (inl e) = inl (u, ap (λ m. an_object m u) e)
    by_number (inr e) = inr (λ f. let g : m ≡ n = cc in e g)
object_or_not e n t = inr (λ f. cc)

pub function_or_not : (e : Entity) (n : ℕ) (t : CType) → ((u : CType) × (e ≡ a_function n u)) ⊎ (e ≢ a_function n t)
function_or_not (a_function m u) n t = by_number (equal_or_not m n)
  where
    by_number : (m ≡ n) ⊎ (m ≢ n) → ((v : CType) × (a_function m u ≡ a_function n v)) ⊎ (a_function m u ≢ a_function n t)
    by_number (inl e) = inl (u, ap (λ m. a_function m u) e)
    by_number (inr e) = inr (λ f. let g : m ≡ n = cc in e g)
function_or_not e n t = inr (λ f. cc)

module _ (nodes_at : ℕ → ℕ) (made : List ℕ) where
  -- one more name; what it stands for may be in the making
  pub bind_known : (P Q R S : ℕ → Type 0) (f : FileScope) (b : Bound) → ((n : ℕ) → P n → R n) → ((n : ℕ) → Q n → S n)
      → ((n : ℕ) (t : CType) → b.entity ≡ an_object n t → R n) → ((n : ℕ) (t : CType) → b.entity ≡ a_function n t → S n) → MayBind f.names b
      → IsBoundIn f b → IsKnown nodes_at made P Q f → IsKnown nodes_at made R S (with_bound f b)
  bind_known P Q R S f b p q r s may is k = record {
    fits = one_more_fits (with_bound f b) [] f.names b (fits_stay (bound_put f b).extends [] f.names k.fits) (fit_there b.entity is.fit);
    settled = k.settled;
    whole = k.whole;
    consistent = bind_consistent f.names b may k.consistent;
    objects_bound = objects_bound_more f.names (b ∷ []) f.objects k.objects_bound (one_bound (λ c. (n : ℕ) (t : CType) → c.entity ≡ an_object n t
        → (o : AnObject) × (slice_get f.objects n ≡ Some o) × (o.name ≡ c.name) × (o.ty ≡ t) × (o.literal ≡ None)) b is.object);
    functions_bound = functions_bound_more f.names (b ∷ []) f.functions k.functions_bound (one_bound (λ c. (n : ℕ) (t : CType) → c.entity ≡ a_function n t
        → (g : AFunction) × (slice_get f.functions n ≡ Some g) × (g.name ≡ c.name) × (g.ty ≡ t)) b is.function);
    libraries_bound = libraries_bound_more f.names (b ∷ []) k.libraries_bound (one_bound (λ c. (which : LibraryFunction)
        → c.entity ≡ a_library_function which → library_named c.name ≡ Some which) b is.library);
    objects = λ n o e. object n o (k.objects n o e) (object_or_not b.entity n o.ty);
    functions = λ n g e. function n g (k.functions n g e) (function_or_not b.entity n g.ty);
  }
    where
      fit_there : (e : Entity) → IsFit f [] e → IsFit (with_bound f b) [] e
      fit_there (typedef t) h = h
      fit_there (enumerator v) h = h
      fit_there (an_object n t) h = h
      fit_there (a_function n t) h = h
      fit_there (a_library_function which) h = h
      fit_there (a_local n t) h = h
      fit_there (a_parameter t) h = h

      object : (n : ℕ) (o : AnObject) → P n ⊎ IsObjectKnown f.file f.names made n o → ((u : CType) × (b.entity ≡ an_object n u)) ⊎ (b.entity ≢ an_object n o.ty)
          → R n ⊎ IsObjectKnown f.file (f.names ++ b ∷ []) made n o
      object n o (inl h) w = inl (p n h)
      object n o (inr h) (inl w) = inl (r n w.0 w.1)
      object n o (inr h) (inr w) = inr (no_more f.file f.names (b ∷ []) made n o (one_bound (λ c. c.entity ≢ an_object n o.ty) b w) h)

      function : (n : ℕ) (g : AFunction) → Q n ⊎ IsFunctionKnown nodes_at f.file f.names n g
          → ((u : CType) × (b.entity ≡ a_function n u)) ⊎ (b.entity ≢ a_function n g.ty) → S n ⊎ IsFunctionKnown nodes_at f.file (f.names ++ b ∷ []) n g
      function n g (inl h) w = inl (q n h)
      function n g (inr h) (inl w) = inl (s n w.0 w.1)
      function n g (inr h) (inr w) =
          inr (function_later nodes_at f.file f.names (b ∷ []) n g
          (others_define_none (b ∷ []) (a_function n g.ty) (one_bound (λ c. c.entity ≢ a_function n g.ty) b w)) h)

  -- ---- objects

  pub new_object_known : (f : FileScope) (o : AnObject) → Extends f (with_new_object f o) → is_object (length f.records) o.ty ≡ true
      → IsKnown nodes_at made none_new none_new f → IsKnown nodes_at made (this_one (length f.objects)) none_new (with_new_object f o)
  new_object_known f o p is k = record {
    fits = fits_stay p [] f.names k.fits;
    settled = k.settled;
    whole = objects_more f.records f.objects o is k.whole;
    consistent = k.consistent;
    objects_bound = objects_bound_longer f.names f.objects (o ∷ []) k.objects_bound;
    functions_bound = k.functions_bound;
    libraries_bound = k.libraries_bound;
    objects = λ n q e. one n q (last_or f.objects o n q e);
    functions = k.functions;
  }
    where
      one : (n : ℕ) (q : AnObject) → (slice_get f.objects n ≡ Some q) ⊎ ((n ≡ length f.objects) × (o ≡ q))
          → (n ≡ length f.objects) ⊎ IsObjectKnown f.file f.names made n q
      one n q (inl e) = old (k.objects n q e)
        where
          old : ⊥ ⊎ IsObjectKnown f.file f.names made n q → (n ≡ length f.objects) ⊎ IsObjectKnown f.file f.names made n q
          old (inl h) = absurd h
          old (inr h) = inr h
      one n q (inr e) = inl e.0

  pub replaced_known : (Q : ℕ → Type 0) (f : FileScope) (n : ℕ) (o p : AnObject) → slice_get f.objects n ≡ Some o → IsSameObject o p
      → Extends f (replaced_object f n p) → IsKnown nodes_at made (this_one n) Q f → IsKnown nodes_at made (this_one n) Q (replaced_object f n p)
  replaced_known Q f n o p h same e k = record {
    fits = fits_stay e [] f.names k.fits;
    settled = k.settled;
    whole = λ m q g. whole_of m q (set_or m q g);
    consistent = k.consistent;
    objects_bound = λ j b g m t is. let q = k.objects_bound j b g m t is in bound m t b q (set_other f.objects n o p h m q.0 q.1);
    functions_bound = k.functions_bound;
    libraries_bound = k.libraries_bound;
    objects = λ m q g. object m q (set_or m q g);
    functions = k.functions;
  }
    where
      from_set : (xs : List AnObject) (n m : ℕ) (p q : AnObject) → slice_get (slice_set xs n p) m ≡ Some q
          → ((m ≡ n) × (q ≡ p)) ⊎ (slice_get xs m ≡ Some q)
      from_set [] n m p q g = inr g
      from_set (x ∷ xs) zero zero p q g = let f : p ≡ q = cc in inl (refl, sym f)
      from_set (x ∷ xs) zero (suc m) p q g = inr g
      from_set (x ∷ xs) (suc n) zero p q g = inr g
      from_set (x ∷ xs) (suc n) (suc m) p q g = next (from_set xs n m p q g)
        where
          next : ((m ≡ n) × (q ≡ p)) ⊎ (slice_get xs m ≡ Some q) → ((suc m ≡ suc n) × (q ≡ p)) ⊎ (slice_get (x ∷ xs) (suc m) ≡ Some q)
          next (inl e) = inl (ap suc e.0, e.1)
          next (inr e) = inr e

      set_or : (m : ℕ) (q : AnObject) → slice_get (slice_set f.objects n p) m ≡ Some q → ((m ≡ n) × (q ≡ p)) ⊎ (slice_get f.objects m ≡ Some q)
      set_or m q g = from_set f.objects n m p q g

      whole_of : (m : ℕ) (q : AnObject) → ((m ≡ n) × (q ≡ p)) ⊎ (slice_get f.objects m ≡ Some q) → is_object (length f.records) q.ty ≡ true
      whole_of m q (inl e) =
          subst (λ t. is_object (length f.records) t ≡ true) (sym (ap (λ (o : AnObject). o.ty) e.1 ∙ same.ty)) (k.whole n o h)
      whole_of m q (inr e) = k.whole m q e

      bound : (m : ℕ) (t : CType) (b : Bound)
          → (q : (q : AnObject) × (slice_get f.objects m ≡ Some q) × (q.name ≡ b.name) × (q.ty ≡ t) × (q.literal ≡ None))
          → ((m ≡ n) × (q.0 ≡ o)) ⊎ (slice_get (slice_set f.objects n p) m ≡ Some q.0)
          → (q : AnObject) × (slice_get (slice_set f.objects n p) m ≡ Some q) × (q.name ≡ b.name) × (q.ty ≡ t) × (q.literal ≡ None)
      bound m t b q (inl e) = (
        p,
        subst (λ m. slice_get (slice_set f.objects n p) m ≡ Some p) (sym e.0) (set_same f.objects n o p h),
        same.name ∙ ap (λ (o : AnObject). o.name) (sym e.1) ∙ q.2,
        same.ty ∙ ap (λ (o : AnObject). o.ty) (sym e.1) ∙ q.3,
        same.literal ∙ ap (λ (o : AnObject). o.literal) (sym e.1) ∙ q.4,
      )
      bound m t b q (inr e) = (q.0, e, q.2, q.3, q.4)

      object : (m : ℕ) (q : AnObject) → ((m ≡ n) × (q ≡ p)) ⊎ (slice_get f.objects m ≡ Some q)
          → (m ≡ n) ⊎ IsObjectKnown f.file f.names made m q
      object m q (inl e) = inl e.0
      object m q (inr e) = k.objects m q e

  pub settle_object : (Q : ℕ → Type 0) (f : FileScope) (n : ℕ) (o : AnObject) → slice_get f.objects n ≡ Some o
      → IsObjectKnown f.file f.names made n o → IsKnown nodes_at made (this_one n) Q f → IsKnown nodes_at made none_new Q f
  settle_object Q f n o h is k = record {
    fits = k.fits;
    settled = k.settled;
    whole = k.whole;
    consistent = k.consistent;
    objects_bound = k.objects_bound;
    functions_bound = k.functions_bound;
    libraries_bound = k.libraries_bound;
    objects = λ m q e. one m q e (k.objects m q e);
    functions = k.functions;
  }
    where
      one : (m : ℕ) (q : AnObject) → slice_get f.objects m ≡ Some q → (m ≡ n) ⊎ IsObjectKnown f.file f.names made m q
          → ⊥ ⊎ IsObjectKnown f.file f.names made m q
      one m q e (inr g) = inr g
      one m q e (inl g) =
          let there : Some q ≡ Some o = sym e ∙ ap (slice_get f.objects) g ∙ h in
          let same : q ≡ o = cc in
          inr (subst (λ q. IsObjectKnown f.file f.names made m q) (sym same) (subst (λ m. IsObjectKnown f.file f.names made m o) (sym g) is))
