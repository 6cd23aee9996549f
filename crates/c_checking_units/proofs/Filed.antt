-- What the file level knows of the first part of a whole file (C99 6.2.1, 6.7, 6.9).
use Rattle.std.proofs.Common.{◌≡◌, ℕ, zero, suc, ◌<◌, true, refl, sym, ap, ◌∙◌, subst, List, [], ◌∷◌, ◌++◌, length}
use Rattle.std.proofs.Common.{append_assoc, arith, inl, inr}
use Rattle.std.specs.Prelude.{◌⊎◌, All, Some, slice_get, codes, ◌≢◌}
use Rattle.c_types.specs.Limits.{AreComplete}
use Rattle.c_types.specs.Types.{CType}
use Rattle.c_erasure.specs.Erasure.{IsBound}
use Rattle.c_erasure.specs.Files.{AreConsistent, MayStandTogether, IsMainType}
use Rattle.c_erasure.specs.Scopes.{FileScope, Bound, an_object, a_function, AnObject, AFunction, at_file_scope}
use Rattle.c_erasure.specs.Checking.Declaring.{declared_among}
use Rattle.c_checking_laws.proofs.Agreement as Agreement
use Rattle.c_checking_laws.proofs.WholeFiles.Kept.{AreObjectsWhole}
use Rattle.c_checking_laws.proofs.CompleteNodes.{some_is}
use Rattle.c_checking_laws.proofs.CompleteStructures.{split_at, below_length}
use Rattle.c_checking_laws.proofs.CompleteWalk.{IsNamedFrom}
use Rattle.c_checking_laws.proofs.CompletePart.{Lists, part, IsWhole}
use Rattle.c_checking_laws.proofs.Extends.{Extends, bound_stays, last_or}
use Rattle.c_checking_laws.proofs.WholeFiles.CompleteStaticLists.{AreTypedObjects}
use Rattle.c_checking_laws.proofs.WholeFiles.FileScopes.{IsSameObject, IsSameFunction}
use Rattle.c_checking_laws.proofs.WholeFiles.Names.{all_at, declared_is}

-- what is asked of the whole file
pub record IsWholeFile (g : FileScope) : Type 0 where
  pub whole : IsWhole g
  pub typed : AreTypedObjects g
  pub consistent : AreConsistent g.names
  pub functions_apart : (j k : ℕ) (a b : AFunction) → slice_get g.functions j ≡ Some a → slice_get g.functions k ≡ Some b → a.first ≡ b.first → j ≡ k
  pub main_is_no_object : (n : ℕ) (o : AnObject) → slice_get g.objects n ≡ Some o → o.is_linked ≡ true → o.name ≢ codes "main"
  pub main : (n : ℕ) (h : AFunction) → slice_get g.functions n ≡ Some h → IsMainType h.name h.ty
  pub complete : AreComplete g.records
  pub names_stand : (k : ℕ) (b : Bound) → slice_get g.names k ≡ Some b → Agreement.IsFit g [] b.entity

-- each object and function is one of the whole file, which may be defined later, and names stand for those that are there
pub record IsFiled (g : FileScope) (c : Lists) : Type 0 where
  pub extends : Extends (part g c) g
  pub objects : (n : ℕ) (o : AnObject) → slice_get c.objects n ≡ Some o → (p : AnObject) × (slice_get g.objects n ≡ Some p) × IsSameObject o p
  pub functions : (n : ℕ) (o : AFunction) → slice_get c.functions n ≡ Some o → (p : AFunction) × (slice_get g.functions n ≡ Some p)
      × IsSameFunction o p
  pub objects_there : (k : ℕ) (b : Bound) → slice_get c.names k ≡ Some b → (n : ℕ) (t : CType) → b.entity ≡ an_object n t → n < length c.objects
  pub functions_there : (k : ℕ) (b : Bound) → slice_get c.names k ≡ Some b → (n : ℕ) (t : CType) → b.entity ≡ a_function n t
      → n < length c.functions
  pub whole : AreObjectsWhole c.records c.objects

-- ---- names

pub consistent_at : (all : List Bound) → AreConsistent all → (j k : ℕ) (a b : Bound) → j < k → slice_get all j ≡ Some a → slice_get all k ≡ Some b
    → b.name ≡ a.name → MayStandTogether a b
consistent_at [] h j k a b l e f n = cc
consistent_at (x ∷ all) h zero zero a b l e f n = absurd (omega (arith, l))
consistent_at (x ∷ all) h zero (suc k) a b l e f n =
    let same : x ≡ a = some_is x a e in
    let h = subst (λ (x : Bound). All (λ c. c.name ≡ x.name → MayStandTogether x c) all) same h.0 in
    all_at (λ c. c.name ≡ a.name → MayStandTogether a c) all h k b f n
consistent_at (x ∷ all) h (suc j) zero a b l e f n = absurd (omega (arith, l))
consistent_at (x ∷ all) h (suc j) (suc k) a b l e f n = consistent_at all h.1 j k a b (omega (arith, l)) e f n

abbrev pub naming : Lists → Bound → Lists
naming c b = record { names = c.names ++ b ∷ []; records = c.records; objects = c.objects; functions = c.functions; mentions = c.mentions }

module _ (g : FileScope) (w : IsWholeFile g) (c : Lists) where
  -- the name that is in scope from there on is the next one
  pub next_bound : (b : Bound) → IsNamedFrom g.names (length c.names) b.from → IsBound (at_file_scope g) b → slice_get g.names (length c.names) ≡ Some b
  next_bound b n h =
      let same = w.whole.names_apart h.0 (length c.names) b n.0 h.1 n.1 (sym n.2) in
      subst (λ k. slice_get g.names k ≡ Some b) same h.1

  -- what was declared under its name may stand with it
  pub earlier : Extends (part g c) g → (b : Bound) → slice_get g.names (length c.names) ≡ Some b → (k : ℕ) (old : Bound)
      → slice_get c.names k ≡ Some old → old.name ≡ b.name → MayStandTogether old b
  earlier p b next k old e n =
      consistent_at g.names w.consistent k (length c.names) old b (below_length c.names k old e) (bound_stays p k old e) next (sym n)

  pub declared_earlier : Extends (part g c) g → (b : Bound) → slice_get g.names (length c.names) ≡ Some b → (old : Bound)
      → declared_among c.names b.name ≡ Some old → MayStandTogether old b
  declared_earlier p b next old e = let d = declared_is c.names b.name old e in earlier p b next d.0 old d.1 d.2

  naming_extends : Extends (part g c) g → (b : Bound) → slice_get g.names (length c.names) ≡ Some b → Extends (part g (naming c b)) g
  naming_extends p b next =
      let z = split_at c.names p.names.0 b (subst (λ all. slice_get all (length c.names) ≡ Some b) p.names.1 next) in
      record {
        file = refl;
        tags = refl;
        ends = refl;
        numbered = refl;
        untagged = refl;
        names = (z.0, p.names.1 ∙ ap (λ m. c.names ++ m) z.1 ∙ sym (append_assoc c.names (b ∷ []) z.0));
        records = p.records;
        mentions = p.mentions;
        types = p.types;
        objects = p.objects;
        functions = p.functions;
      }

  pub naming_filed : IsFiled g c → (b : Bound) → slice_get g.names (length c.names) ≡ Some b
      → ((n : ℕ) (t : CType) → b.entity ≡ an_object n t → n < length c.objects)
      → ((n : ℕ) (t : CType) → b.entity ≡ a_function n t → n < length c.functions) → IsFiled g (naming c b)
  naming_filed f b next o h = record {
    extends = naming_extends f.extends b next;
    objects = f.objects;
    functions = f.functions;
    objects_there = λ k a e n t is. an_object_there k a n t is (last_or c.names b k a e);
    functions_there = λ k a e n t is. a_function_there k a n t is (last_or c.names b k a e);
    whole = f.whole;
  }
    where
      an_object_there : (k : ℕ) (a : Bound) (n : ℕ) (t : CType) → a.entity ≡ an_object n t
          → (slice_get c.names k ≡ Some a) ⊎ ((k ≡ length c.names) × (b ≡ a)) → n < length c.objects
      an_object_there k a n t is (inl e) = f.objects_there k a e n t is
      an_object_there k a n t is (inr e) = o n t (ap (λ (b : Bound). b.entity) e.1 ∙ is)

      a_function_there : (k : ℕ) (a : Bound) (n : ℕ) (t : CType) → a.entity ≡ a_function n t
          → (slice_get c.names k ≡ Some a) ⊎ ((k ≡ length c.names) × (b ≡ a)) → n < length c.functions
      a_function_there k a n t is (inl e) = f.functions_there k a e n t is
      a_function_there k a n t is (inr e) = h n t (ap (λ (b : Bound). b.entity) e.1 ∙ is)
