-- The layouts of records, each found from the records before it alone.
use Rattle.std.proofs.Common.{◌≡◌, ℕ, zero, suc, ◌+◌, List, [], ◌∷◌, ◌++◌, length, take, refl, subst, arith, length-append}
use Rattle.std.specs.Prelude.{All, fold, slice_get, Some}
use Rattle.std.proofs.lemmas.List.Elements.{All-push, All-nil}
use Rattle.c_types.specs.declared.layout.Layout.{Layout}
use Rattle.c_types.specs.Layouts.{layout, layouts}
use Rattle.c_types.specs.Types.{CType, Record, field_types}

abbrev pub step : List Layout → Record → List Layout
step known r = known ++ layout known (field_types r) ∷ []

length_from : (known : List Layout) (records : List Record) → length (fold step known records) ≡ length known + length records
length_from known [] = omega arith
length_from known (r ∷ more) = omega (arith, length_from (step known r) more, length-append known (layout known (field_types r) ∷ []))

pub length-layouts : (records : List Record) → length (layouts records) ≡ length records
length-layouts records = omega (arith, length_from [] records)

-- ---- what holds of each layout that is found holds of all

each_from : (P : Layout → Type 0) → ((known : List Layout) (types : List CType) → All P known → P (layout known types))
    → (known : List Layout) (records : List Record) → All P known → All P (fold step known records)
each_from P next known [] all = all
each_from P next known (r ∷ more) all =
    each_from P next (step known r) more (All-push P known (layout known (field_types r)) all (next known (field_types r) all))

pub each_layout : (P : Layout → Type 0) → ((known : List Layout) (types : List CType) → All P known → P (layout known types))
    → (records : List Record) → All P (layouts records)
each_layout P next records = each_from P next [] records (All-nil P)

-- ---- a layout that is known stays as it is while more are found

kept_by_append : {X : Type 0} (xs ys : List X) (k : ℕ) (x : X) → slice_get xs k ≡ Some x → slice_get (xs ++ ys) k ≡ Some x
kept_by_append [] ys k x e = cc
kept_by_append (z ∷ xs) ys zero x e = e
kept_by_append (z ∷ xs) ys (suc k) x e = kept_by_append xs ys k x e

pub pushed : {X : Type 0} (xs : List X) (y : X) → slice_get (xs ++ y ∷ []) (length xs) ≡ Some y
pushed [] y = refl
pushed (z ∷ xs) y = pushed xs y

pub kept : (known : List Layout) (records : List Record) (k : ℕ) (it : Layout) → slice_get known k ≡ Some it
    → slice_get (fold step known records) k ≡ Some it
kept known [] k it e = e
kept known (r ∷ more) k it e = kept (step known r) more k it (kept_by_append known (layout known (field_types r) ∷ []) k it e)

found : (known : List Layout) (records : List Record) (j at : ℕ) (r : Record) → slice_get records j ≡ Some r → at ≡ length known + j
    → slice_get (fold step known records) at ≡ Some (layout (fold step known (take j records)) (field_types r))
found known [] j at r e is = cc
found known (x ∷ more) zero at r e is =
    let here : slice_get (step known x) at ≡ Some (layout known (field_types x)) =
    let at_end : at ≡ length known = omega arith in rw at_end (pushed known (layout known (field_types x))) in
    let same : x ≡ r = cc in
    subst (λ (y : Record). slice_get (fold step known (x ∷ more)) at ≡ Some (layout known (field_types y))) same
    (kept (step known x) more at (layout known (field_types x)) here)
found known (x ∷ more) (suc j) at r e is =
    found (step known x) more j at r e (omega (arith, length-append known (layout known (field_types x) ∷ [])))

pub layout_of : (records : List Record) (number : ℕ) (r : Record) → slice_get records number ≡ Some r
    → slice_get (layouts records) number ≡ Some (layout (layouts (take number records)) (field_types r))
layout_of records number r e = found [] records number number r e (omega arith)
