-- A key that is new to a table.
use Rattle.std.proofs.Common.{◌≡◌, List, [], ◌∷◌, ◌++◌, Bool, true, false, cond, Some, None, refl, ap, if◌then◌else◌}
use Rattle.std.specs.Map.{lookup}
use Rattle.indexmap.specs.IndexMap.{insert_entry}

-- a key that is not there goes last
pub inserted_last : {K V : Type 0} (eq : K → K → Bool) (es : List (K × V)) (k : K) (v : V) → lookup (eq k) es ≡ None
    → insert_entry eq es k v ≡ es ++ (k, v) ∷ []
inserted_last eq [] k v h = refl
inserted_last {K} {V} eq (e ∷ es) k v h = by (eq k e.0) h (inserted_last eq es k v)
  where
    by : (b : Bool) → cond b (Some e.1) (lookup (eq k) es) ≡ None → (lookup (eq k) es ≡ None → insert_entry eq es k v ≡ es ++ (k, v) ∷ [])
        → (if b then (e.0, v) ∷ es else e ∷ insert_entry eq es k v) ≡ e ∷ (es ++ (k, v) ∷ [])
    by true h rest = cc
    by false h rest = ap (λ more. e ∷ more) (rest h)
