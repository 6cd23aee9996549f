-- What is asked of a whole file, as far as the definition of an annotated file says it (C99 6.7, 6.9).
use Rattle.std.proofs.Common.{◌≡◌, ◌≢◌, ℕ, zero, suc, ◌<◌, refl, sym, ap, ◌∙◌, subst, List, [], ◌∷◌, arith}
use Rattle.std.specs.Prelude.{map, Some, slice_get}
use Rattle.c_types.specs.Limits.{AreComplete}
use Rattle.c_ast.specs.Trees
use Rattle.c_erasure.specs.Files.{AreAscending, IsFileOf}
use Rattle.c_erasure.specs.Scopes.{Bound, FileScope, enumerator, AnObject, AFunction}
use Rattle.c_checking_laws.proofs.Agreement as Agreement
use Rattle.c_checking_laws.proofs.CompleteNodes.{some_is}
use Rattle.c_checking_laws.proofs.CompletePart.{IsWhole}
use Rattle.c_checking_laws.proofs.WholeFiles.CompleteObjects.{mapped_at}
use Rattle.c_checking_laws.proofs.WholeFiles.Names.{all_at}
use Rattle.c_checking_units.proofs.Filed.{IsWholeFile, consistent_at}

-- those that stand one after the other are different
apart : {X : Type 0} (v : X → ℕ) (xs : List X) → AreAscending (map v xs) → (j k : ℕ) (a b : X) → slice_get xs j ≡ Some a → slice_get xs k ≡ Some b
    → v a ≡ v b → j ≡ k
apart v [] h j k a b e f q = cc
apart v (x ∷ xs) h zero zero a b e f q = refl
apart v (x ∷ xs) h zero (suc k) a b e f q =
    let less = all_at (λ m. v x < m) (map v xs) h.0 k (v b) (mapped_at v xs k b f) in
    let same = ap v (some_is x a e) in
    absurd (omega (arith, less, same, q))
apart v (x ∷ xs) h (suc j) zero a b e f q =
    let less = all_at (λ m. v x < m) (map v xs) h.0 j (v a) (mapped_at v xs j a e) in
    let same = ap v (some_is x b f) in
    absurd (omega (arith, less, same, q))
apart v (x ∷ xs) h (suc j) (suc k) a b e f q = ap suc (apart v xs h.1 j k a b e f q)

module _ (g : FileScope) (items : List Trees.Item) (h : IsFileOf items g) where
  pub objects_apart : (j k : ℕ) (a b : AnObject) → slice_get g.objects j ≡ Some a → slice_get g.objects k ≡ Some b → a.first ≡ b.first → j ≡ k
  objects_apart = apart (λ (o : AnObject). o.first) g.objects h.objects_in_order

  -- an enumerator's name is declared once
  pub enumerators_alone : (j k : ℕ) (a b : Bound) (v : ℕ) → slice_get g.names j ≡ Some a → slice_get g.names k ≡ Some b → j < k
      → b.entity ≡ enumerator v → a.name ≢ b.name
  enumerators_alone j k a b v e f l is n =
      let both = consistent_at g.names h.consistent j k a b l e f (sym n) in
      subst Rattle.c_erasure.specs.Files.MayBeDeclaredAgain (both.same ∙ is) both.declared_again

  -- what is left is said of the names and records of the file alone
  pub whole_file : IsWhole g → AreComplete g.records → ((k : ℕ) (b : Bound) → slice_get g.names k ≡ Some b → Agreement.IsFit g [] b.entity)
      → IsWholeFile g
  whole_file w complete names = record {
    whole = w;
    typed = h.initialized;
    consistent = h.consistent;
    functions_apart = apart (λ (o : AFunction). o.first) g.functions h.functions_in_order;
    main_is_no_object = λ n o e. all_at (λ (o : AnObject). o.is_linked ≡ Rattle.std.specs.Prelude.true
        → o.name ≢ Rattle.std.specs.Prelude.codes "main") g.objects h.main_is_no_object n o e;
    main = h.main;
    complete = complete;
    names_stand = names;
  }
