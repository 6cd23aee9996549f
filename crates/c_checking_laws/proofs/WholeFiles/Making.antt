-- What is known of a file stays known where a part of the text makes objects at its places, and binds names of enumerators alone.
use Rattle.std.proofs.Common.{◌≡◌, ℕ, zero, suc, ◌+◌, false, refl, sym, ap, ◌∙◌, subst, List, [], ◌∷◌, ◌++◌, length, inl, inr}
use Rattle.std.proofs.Common.{arith}
use Rattle.std.proofs.lemmas.Option.{slice_get_within}
use Rattle.std.specs.Prelude.{◌⊎◌, map, Some, slice_get}
use Rattle.std.specs.Option.{IsSome}
use Rattle.c_types.specs.Types.{CType}
use Rattle.c_erasure.specs.Files.{IsMade, AreConsistent}
use Rattle.c_erasure.specs.Marks.{Mark}
use Rattle.c_erasure.specs.Scopes.{FileScope, Bound, an_object, a_function, AnObject, AFunction, enumerator, a_library_function}
use Rattle.c_typed.specs.declared.operators.LibraryFunction.{LibraryFunction}
use Rattle.c_checking_laws.proofs.Adding.{Adds}
use Rattle.c_checking_laws.proofs.Agreement.{AreFit, IsGrown}
use Rattle.c_checking_laws.proofs.Extends.{one_of_both}
use Rattle.c_checking_laws.proofs.Settled.{AreSettled}
use Rattle.c_checking_laws.proofs.WholeFiles.Kept.{AreObjectsWhole, Keeps, IsAnEnumerator, IsALiteral}
use Rattle.c_checking_laws.proofs.WholeFiles.Scoped.{new_of}
use Rattle.c_checking_laws.proofs.WholeFiles.Known.{others_more, others_define_none, AreOthers, IsObjectKnown, made_right, object_later, IsFunctionKnown}
use Rattle.c_checking_laws.proofs.WholeFiles.Known.{function_later}
use Rattle.c_checking_laws.proofs.WholeFiles.Known.{AreLibrariesBound, libraries_bound_more, AreObjectsBound, AreFunctionsBound, IsKnown, objects_bound_more}
use Rattle.c_checking_laws.proofs.WholeFiles.Known.{functions_bound_more, objects_bound_longer}

-- objects at places
pub at_places : (more : List AnObject) (k : ℕ) (o : AnObject) → slice_get more k ≡ Some o → IsMade (map (λ o. o.first) more) o.first
at_places [] k o e = cc
at_places (p ∷ more) zero o e = let same : p ≡ o = cc in inl (ap (λ (o : AnObject). o.first) (sym same))
at_places (p ∷ more) (suc k) o e = inr (at_places more k o e)

enumerators_are_others : (names : List Bound) → ((k : ℕ) (b : Bound) → slice_get names k ≡ Some b → IsAnEnumerator b) → (n : ℕ) (t : CType)
    → AreOthers names (an_object n t)
enumerators_are_others names h n t k b g e = let v = h k b g in let f : enumerator v.0 ≡ an_object n t = sym v.1 ∙ e in cc

no_functions : (names : List Bound) → ((k : ℕ) (b : Bound) → slice_get names k ≡ Some b → IsAnEnumerator b) → (n : ℕ) (t : CType)
    → AreOthers names (a_function n t)
no_functions names h n t k b g e = let v = h k b g in let f : enumerator v.0 ≡ a_function n t = sym v.1 ∙ e in cc

no_library : (b : Bound) (which : LibraryFunction) → IsAnEnumerator b → b.entity ≡ a_library_function which → ⊥
no_library b which v e = let f : enumerator v.0 ≡ a_library_function which = sym v.1 ∙ e in cc

-- what a part adds: names of enumerators, and objects that it makes
pub record Makes (f : FileScope) (made : List ℕ) (g : FileScope) : Type 0 where
  pub file : g.file ≡ f.file
  pub functions : g.functions ≡ f.functions
  pub names : (more : List Bound) × (g.names ≡ f.names ++ more) × ((k : ℕ) (b : Bound) → slice_get more k ≡ Some b → IsAnEnumerator b)
  pub objects : (more : List AnObject) × (g.objects ≡ f.objects ++ more) × (map (λ o. o.first) more ≡ made)
  pub new : (n : ℕ) (o : AnObject) → slice_get g.objects n ≡ Some o → (slice_get f.objects n ≡ Some o) ⊎ (IsSome o.initial × (o.is_linked ≡ false))

pub finding_makes : {f g : FileScope} {v : List Mark} {x k : List ℕ} → Keeps f false v g → Adds f false false false v x k g → Makes f k g
finding_makes {f} {g} p a = record {
  file = p.file;
  functions = p.functions;
  names = p.names;
  objects = a.objects;
  new = λ n o e. by_part n o (new_of p n o e);
}
  where
    by_part : (n : ℕ) (o : AnObject) → (slice_get f.objects n ≡ Some o) ⊎ IsALiteral f.file o
        → (slice_get f.objects n ≡ Some o) ⊎ (IsSome o.initial × (o.is_linked ≡ false))
    by_part n o (inl e) = inl e
    by_part n o (inr e) = inr (subst (λ (o : AnObject). IsSome o.initial × (o.is_linked ≡ false)) (sym e.2) (refl, refl))

module _ (nodes_at : ℕ → ℕ) (P Q : ℕ → Type 0) where
  pub making_known : {f g : FileScope} {new : List ℕ} (made : List ℕ) → Makes f new g → AreFit g [] g.names → AreSettled g.numbered g.records
      → AreObjectsWhole g.records g.objects → AreConsistent g.names → IsKnown nodes_at made P Q f → IsKnown nodes_at (made ++ new) P Q g
  making_known {f} {g} {new} made m fits settled whole consistent k = record {
    fits = fits;
    settled = settled;
    whole = whole;
    consistent = consistent;
    objects_bound = subst (λ names. AreObjectsBound names g.objects) (sym m.names.1)
        (subst (AreObjectsBound (f.names ++ m.names.0)) (sym m.objects.1)
        (objects_bound_longer (f.names ++ m.names.0) f.objects m.objects.0
        (objects_bound_more f.names m.names.0 f.objects k.objects_bound
        (λ j b e n t is. absurd (enumerators_are_others m.names.0 m.names.2 n t j b e is)))));
    functions_bound = subst (λ names. AreFunctionsBound names g.functions) (sym m.names.1)
        (subst (AreFunctionsBound (f.names ++ m.names.0)) (sym m.functions)
        (functions_bound_more f.names m.names.0 f.functions k.functions_bound
        (λ j b e n t is. absurd (no_functions m.names.0 m.names.2 n t j b e is))));
    libraries_bound = subst AreLibrariesBound (sym m.names.1)
        (libraries_bound_more f.names m.names.0 k.libraries_bound
        (λ j b e which is. absurd (no_library b which (m.names.2 j b e) is)));
    objects = λ n o e. one n o e (m.new n o e);
    functions = λ n o e. function n o (k.functions n o (subst (λ all. slice_get all n ≡ Some o) m.functions e));
  }
    where
      there : (n : ℕ) (o : AnObject) → IsObjectKnown f.file (f.names ++ m.names.0) (made ++ new) n o → IsObjectKnown g.file g.names (made ++ new) n o
      there n o h = subst (λ names. IsObjectKnown g.file names (made ++ new) n o) (sym m.names.1)
          (subst (λ file. IsObjectKnown file (f.names ++ m.names.0) (made ++ new) n o) (sym m.file) h)

      old : (n : ℕ) (o : AnObject) → P n ⊎ IsObjectKnown f.file f.names made n o → P n ⊎ IsObjectKnown g.file g.names (made ++ new) n o
      old n o (inl h) = inl h
      old n o (inr h) = inr (there n o (object_later f.file f.names m.names.0 made new n o
          (enumerators_are_others m.names.0 m.names.2 n o.ty) h))

      unbound : (n : ℕ) (o : AnObject) → (j : ℕ) × (n ≡ length f.objects + j) × (slice_get m.objects.0 j ≡ Some o) → AreOthers f.names (an_object n o.ty)
      unbound n o e j b g is =
          let q = k.objects_bound j b g n o.ty is in
          let l = slice_get_within f.objects n q.0 q.1 in
          omega (arith, l, e.1)

      by_place : (n : ℕ) (o : AnObject) → IsSome o.initial × (o.is_linked ≡ false)
          → (slice_get f.objects n ≡ Some o) ⊎ ((j : ℕ) × (n ≡ length f.objects + j) × (slice_get m.objects.0 j ≡ Some o))
          → P n ⊎ IsObjectKnown g.file g.names (made ++ new) n o
      by_place n o i (inl e) = old n o (k.objects n o e)
      by_place n o i (inr e) = inr (inl (
        made_right made new o.first (subst (λ all. IsMade all o.first) m.objects.2 (at_places m.objects.0 e.0 o e.2)),
        i.0,
        i.1,
        subst (λ names. AreOthers names (an_object n o.ty)) (sym m.names.1)
            (others_more f.names m.names.0 (an_object n o.ty) (unbound n o e) (enumerators_are_others m.names.0 m.names.2 n o.ty)),
      ))

      one : (n : ℕ) (o : AnObject) → slice_get g.objects n ≡ Some o → (slice_get f.objects n ≡ Some o) ⊎ (IsSome o.initial × (o.is_linked ≡ false))
          → P n ⊎ IsObjectKnown g.file g.names (made ++ new) n o
      one n o e (inl h) = old n o (k.objects n o h)
      one n o e (inr h) = by_place n o h (one_of_both f.objects m.objects.0 n o (subst (λ all. slice_get all n ≡ Some o) m.objects.1 e))

      function : (n : ℕ) (o : AFunction) → Q n ⊎ IsFunctionKnown nodes_at f.file f.names n o → Q n ⊎ IsFunctionKnown nodes_at g.file g.names n o
      function n o (inl h) = inl h
      function n o (inr h) = inr (subst (λ names. IsFunctionKnown nodes_at g.file names n o) (sym m.names.1)
          (subst (λ file. IsFunctionKnown nodes_at file (f.names ++ m.names.0) n o) (sym m.file)
          (function_later nodes_at f.file f.names m.names.0 n o
          (others_define_none m.names.0 (a_function n o.ty) (no_functions m.names.0 m.names.2 n o.ty)) h)))

  -- a part that is found
  pub finding_known : {f g : FileScope} {v : List Mark} {x new : List ℕ} (made : List ℕ) → IsGrown f false v g → Keeps f false v g
      → Adds f false false false v x new g → IsKnown nodes_at made P Q f → IsKnown nodes_at (made ++ new) P Q g
  finding_known made w p a k =
      making_known made (finding_makes p a) (w.names [] k.fits) (p.settled k.settled) (p.whole k.whole) (p.consistent k.consistent) k
