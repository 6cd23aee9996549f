-- What completeness asks of a whole file, from what the definitions of files say (C99 6.2.1, 6.7).
use Rattle.std.proofs.Common.{◌≡◌, ◌≢◌, ℕ, zero, suc, ◌≤◌, ◌<◌, true, List, [], ◌∷◌, ◌++◌, length, length-append, append_assoc}
use Rattle.std.proofs.Common.{refl, sym, ap, ◌∙◌, subst, arith}
use Rattle.std.proofs.lemmas.Bool.{lt-ltb}
use Rattle.std.specs.Prelude.{map, Some, slice_get}
use Rattle.c_types.specs.Limits.{AreSmall}
use Rattle.c_types.specs.Types.{structure, Field, Record}
use Rattle.c_types.specs.Layouts.{size_of, size_of_record}
use Rattle.c_types.specs.Objects.{is_object}
use Rattle.c_types.proofs.Growing.{has_its_size, layouts_stay}
use Rattle.c_erasure.specs.Declarators.{AreDifferent}
use Rattle.c_erasure.specs.Files.{AreAscending, AreConsistent, MayStandTogether, MayBeDeclaredAgain}
use Rattle.c_erasure.specs.Scopes.{Bound, AnObject, FileScope, Entity, enumerator, visible, ended}
use Rattle.c_checking_laws.proofs.CompleteNodes.{some, some_is}
use Rattle.c_checking_laws.proofs.CompleteParts.{all_at}
use Rattle.c_checking_laws.proofs.CompletePart.{IsFitFor, IsWhole}

mapped_at : {X Y : Type 0} (f : X → Y) (xs : List X) (k : ℕ) (x : X) → slice_get xs k ≡ Some x → slice_get (map f xs) k ≡ Some (f x)
mapped_at f [] k x h = cc
mapped_at f (y ∷ xs) zero x h = ap (λ y. some (f y)) (some_is y x h)
mapped_at f (y ∷ xs) (suc k) x h = mapped_at f xs k x h

ascending_apart : (all : List ℕ) → AreAscending all → (j k m : ℕ) → slice_get all j ≡ Some m → slice_get all k ≡ Some m → j ≡ k
ascending_apart [] a j k m p q = cc
ascending_apart (x ∷ all) a zero zero m p q = refl
ascending_apart (x ∷ all) a zero (suc k) m p q =
    let l : x < m = all_at (λ y. x < y) all a.0 k m q in let e = some_is x m p in absurd (omega (arith, l, e))
ascending_apart (x ∷ all) a (suc j) zero m p q =
    let l : x < m = all_at (λ y. x < y) all a.0 j m p in let e = some_is x m q in absurd (omega (arith, l, e))
ascending_apart (x ∷ all) a (suc j) (suc k) m p q = let e = ascending_apart all a.1 j k m p q in omega (arith, e)

different_apart : (all : List (List ℕ)) → AreDifferent all → (j k : ℕ) (x : List ℕ) → slice_get all j ≡ Some x → slice_get all k ≡ Some x → j ≡ k
different_apart [] a j k x p q = cc
different_apart (y ∷ all) a zero zero x p q = refl
different_apart (y ∷ all) a zero (suc k) x p q = absurd (all_at (λ z. y ≢ z) all a.0 k x q (some_is y x p))
different_apart (y ∷ all) a (suc j) zero x p q = absurd (all_at (λ z. y ≢ z) all a.0 j x p (some_is y x q))
different_apart (y ∷ all) a (suc j) (suc k) x p q = let e = different_apart all a.1 j k x p q in omega (arith, e)

-- an enumerator is declared once
declared_again : (e : Entity) (v : ℕ) → MayBeDeclaredAgain e → e ≡ enumerator v → ⊥
declared_again e v m h = let z : MayBeDeclaredAgain (enumerator v) = subst MayBeDeclaredAgain h m in z

consistent_alone : (all : List Bound) → AreConsistent all → (j k : ℕ) (a b : Bound) (v : ℕ) → slice_get all j ≡ Some a → slice_get all k ≡ Some b → j < k
    → b.entity ≡ enumerator v → a.name ≢ b.name
consistent_alone [] c j k a b v p q l e = cc
consistent_alone (x ∷ all) c zero zero a b v p q l e = absurd (omega (arith, l))
consistent_alone (x ∷ all) c (suc j) zero a b v p q l e = absurd (omega (arith, l))
consistent_alone (x ∷ all) c zero (suc k) a b v p q l e = λ n.
    let s = some_is x a p in
    let t : MayStandTogether x b = all_at (λ c. c.name ≡ x.name → MayStandTogether x c) all c.0 k b q (sym n ∙ sym (ap (λ (x : Bound). x.name) s)) in
    declared_again x.entity v t.declared_again (t.same ∙ e)
consistent_alone (x ∷ all) c (suc j) (suc k) a b v p q l e = consistent_alone all c.1 j k a b v p q (omega (arith, l)) e

-- a record has the size that it has where it is added
small_before : (all before more : List Record) (r : Record) → AreSmall all → all ≡ before ++ r ∷ more → size_of_record before r ≤ 16777216
small_before all before more r a e =
    let own = before ++ r ∷ [] in
    let q : all ≡ (before ++ r ∷ []) ++ more = e ∙ sym (append_assoc before (r ∷ []) more) in
    let n = length-append before (r ∷ []) in
    let m = length-append (before ++ r ∷ []) more in
    let k : length all ≡ length ((before ++ r ∷ []) ++ more) = ap length q in
    let o : is_object (length (before ++ r ∷ [])) (structure (length before)) ≡ true = lt-ltb (length before) (length (before ++ r ∷ [])) (omega (arith, n)) in
    let stays : size_of all (structure (length before)) ≡ size_of (before ++ r ∷ []) (structure (length before)) =
    ap (λ all. size_of all (structure (length before))) q ∙ (layouts_stay (before ++ r ∷ []) more).sizes (structure (length before)) o in
    let size : size_of (before ++ r ∷ []) (structure (length before)) ≡ size_of_record before r = has_its_size before r in
    let l : size_of all (structure (length before)) ≤ 16777216 = a (length before) (omega (arith, k, m, n)) in
    omega (arith, stays, size, l)

-- of what the definitions of files say of the whole file
pub record IsWholeFile (g : FileScope) : Type 0 where
  pub names_ascend : AreAscending (map (λ b. b.from) g.names)
  pub names_consistent : AreConsistent g.names
  pub names_fit : (x : List ℕ) (at : ℕ) (e : Entity) → visible g.names x at ≡ Some e → IsFitFor g (ended g.ends at) e
  pub objects_ascend : AreAscending (map (λ o. o.first) g.objects)
  pub numbered_differ : AreDifferent g.numbered
  pub records_differ : AreDifferent (map (λ r. r.tag) g.records)
  pub fields_differ : (k : ℕ) (r : Record) → slice_get g.records k ≡ Some r → AreDifferent (map (λ f. f.name) r.fields)
  pub fields_complete : (k j : ℕ) (r : Record) (f : Field) → slice_get g.records k ≡ Some r → slice_get r.fields j ≡ Some f → is_object k f.ty ≡ true
  pub records_small : AreSmall g.records

pub is_whole : (g : FileScope) → IsWholeFile g → IsWhole g
is_whole g p = record {
  names_apart = λ j k a b x y e. ascending_apart (map (λ b. b.from) g.names) p.names_ascend j k a.from
      (mapped_at (λ (b : Bound). b.from) g.names j a x) (mapped_at (λ (b : Bound). b.from) g.names k b y ∙ ap some (sym e));
  enumerators_alone = consistent_alone g.names p.names_consistent;
  names_fit = p.names_fit;
  objects_apart = λ j k a b x y e. ascending_apart (map (λ o. o.first) g.objects) p.objects_ascend j k a.first
      (mapped_at (λ (o : AnObject). o.first) g.objects j a x) (mapped_at (λ (o : AnObject). o.first) g.objects k b y ∙ ap some (sym e));
  numbered_apart = different_apart g.numbered p.numbered_differ;
  records_apart = λ j k a b x y e. different_apart (map (λ r. r.tag) g.records) p.records_differ j k a.tag
      (mapped_at (λ (r : Record). r.tag) g.records j a x) (mapped_at (λ (r : Record). r.tag) g.records k b y ∙ ap some (sym e));
  fields_apart = p.fields_differ;
  fields_complete = p.fields_complete;
  records_small = λ before more r e. small_before g.records before more r p.records_small e;
}
