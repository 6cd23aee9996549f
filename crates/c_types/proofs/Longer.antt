-- A list of records with the layouts that are kept, and one more at its end.
use Rattle.std.proofs.Common.{◌≡◌, ℕ, zero, suc, ◌<◌, ◌≤◌, ◌⊎◌, inl, inr, ⊎_elim, List, [], ◌∷◌, ◌++◌, length, IsTrue, refl, sym, ap, ◌∙◌, subst}
use Rattle.std.specs.Prelude.{All, slice_get, Some, map}
use Rattle.std.proofs.lemmas.List.{map-append, length-map}
use Rattle.std.proofs.lemmas.List.Elements.{All-map, All-push}
use Rattle.std.proofs.lemmas.List.Sums.{fold-append}
use Rattle.c_types.specs.declared.layout.Layout.{Layout}
use Rattle.c_types.specs.declared.record.Record as R
use Rattle.c_types.specs.Laying.{AreAligned, AreLaid, AreObjects}
use Rattle.c_types.specs.Layouts.{layout, layouts}
use Rattle.c_types.specs.Limits.{AreComplete, greatest_size}
use Rattle.c_types.specs.Objects.{is_object}
use Rattle.c_types.specs.Types.{Record, field_types}
use Rattle.c_types.specs.Views.{field_of, record_of, records_of}
use Rattle.c_types.specs.Types as T
use Rattle.c_types.proofs.Alignments.{greatest_positive}
use Rattle.c_types.proofs.Before.{each_layout, length-layouts, step}

pub length-laid : (records : List R.Record) (known : List Layout) → AreLaid records known → length known ≡ length records
length-laid records known laid = ap length laid.laid ∙ length-layouts (records_of records) ∙ length-map records record_of

pub aligned-laid : (records : List R.Record) (known : List Layout) → AreLaid records known → AreAligned known
aligned-laid records known laid =
    rw laid.laid (each_layout (λ it. 0 < it.alignment) (λ k types all. greatest_positive k types) (records_of records))

-- ---- one more

push_cases : {X : Type 0} (xs : List X) (y : X) (k : ℕ) (x : X) → slice_get (xs ++ y ∷ []) k ≡ Some x
    → (slice_get xs k ≡ Some x) ⊎ ((k ≡ length xs) × (x ≡ y))
push_cases [] y zero x e = inr (refl, cc)
push_cases [] y (suc k) x e = cc
push_cases (z ∷ xs) y zero x e = inl e
push_cases (z ∷ xs) y (suc k) x e = ⊎_elim (λ here. inl here) (λ last. inr (ap suc last.0, last.1)) (push_cases xs y k x e)

complete-push : (records : List Record) (r : Record) → AreComplete records → All (λ t. IsTrue (is_object (length records) t)) (field_types r)
    → AreComplete (records ++ r ∷ [])
complete-push records r old new number x e = ⊎_elim (λ here. old number x here) last (push_cases records r number x e)
  where
    last : (number ≡ length records) × (x ≡ r) → All (λ t. IsTrue (is_object number t)) (field_types x)
    last is = rw (is.0, is.1) new

members_are : (count : ℕ) (r : R.Record) → AreObjects count r.fields → All (λ t. IsTrue (is_object count t)) (field_types (record_of r))
members_are count r objects =
    All-map (λ t. IsTrue (is_object count t)) (λ (f : T.Field). f.ty) (map field_of r.fields)
    (All-map (λ (f : T.Field). IsTrue (is_object count f.ty)) field_of r.fields objects)

pub laid-push : (records : List R.Record) (known : List Layout) (r : R.Record) (it : Layout) → AreLaid records known
    → AreObjects (length records) r.fields → it ≡ layout known (field_types (record_of r))
    → (layout known (field_types (record_of r))).size ≤ greatest_size → AreLaid (records ++ r ∷ []) (known ++ it ∷ [])
laid-push records known r it old objects is small =
    let e : records_of (records ++ r ∷ []) ≡ records_of records ++ record_of r ∷ [] = map-append record_of records (r ∷ []) in
    let count : length (records_of records) ≡ length records = length-map records record_of in
    let as_said : it ≡ layout (layouts (records_of records)) (field_types (record_of r)) = is ∙ ap (λ k. layout k (field_types (record_of r))) old.laid in
    record {
      laid = ap (λ k. k ++ it ∷ []) old.laid
          ∙ ap (λ x. layouts (records_of records) ++ x ∷ []) as_said
          ∙ sym (fold-append step [] (records_of records) (record_of r ∷ []))
          ∙ ap layouts (sym e);
      complete = rw e (complete-push (records_of records) (record_of r) old.complete (rw count (members_are (length records) r objects)));
      small = All-push (λ (l : Layout). l.size ≤ greatest_size) known it old.small (subst (λ (l : Layout). l.size ≤ greatest_size) (sym is) small);
    }
