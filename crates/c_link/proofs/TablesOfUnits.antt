-- The tables that come of all units, one after another.
use Rattle.std.proofs.Common.{◌≡◌, ℕ, ◌+◌, List, [], ◌∷◌, ◌++◌, fold, flat_map, refl, sym, ap, ◌∙◌}
use Rattle.c_erasure.specs.Units.{new_among}
use Rattle.c_numbers.specs.KeyNumbers.Keys.{with_key}
use Rattle.c_numbers.specs.TypeNumbers.Adding.{with_type}
use Rattle.c_numbers.proofs.KeyNumbers.Laws as keys
use Rattle.c_numbers.proofs.TypeNumbers.Laws as types
use Rattle.c_typed.specs.Programs.{UnitData}
use Rattle.c_link.specs.Joining.{Tables, all_tags, function_identities, numbered_from, object_identities, tables, types_in}
use Rattle.c_link.specs.Views.{no_tables, with_unit_in}

fold_append : {A B : Type 0} (f : B → A → B) (start : B) (xs ys : List A) → fold f start (xs ++ ys) ≡ fold f (fold f start xs) ys
fold_append f start [] ys = refl
fold_append f start (x ∷ more) ys = fold_append f (f start x) more ys

abbrev after : Tables → ℕ → List UnitData → Tables
after t k units = record {
  tags = t.tags;
  types = fold with_type t.types (flat_map (types_in t.tags) units);
  objects = fold with_key t.objects (flat_map (λ u. object_identities u.0 0 u.1.objects) (numbered_from k units));
  functions = fold with_key t.functions (flat_map (λ u. function_identities u.0 0 u.1.functions) (numbered_from k units));
}

all_after : (t : Tables) (k : ℕ) (units : List UnitData) → fold with_unit_in t (numbered_from k units) ≡ after t k units
all_after t k [] = refl
all_after t k (u ∷ more) =
    let next = with_unit_in t (k, u) in
    let types = fold_append with_type t.types (types_in t.tags u) (flat_map (types_in t.tags) more) in
    let objects = fold_append with_key t.objects (object_identities k 0 u.objects) (flat_map (λ u. object_identities u.0 0 u.1.objects) (numbered_from (k + 1) more)) in
    let functions = fold_append with_key t.functions (function_identities k 0 u.functions) (flat_map (λ u. function_identities u.0 0 u.1.functions) (numbered_from (k + 1) more)) in
    all_after next (k + 1) more ∙ (λ i. record { tags = t.tags; types = sym types i; objects = sym objects i; functions = sym functions i })

pub all_tables : (units : List UnitData) (tags : List (List ℕ)) → tags ≡ all_tags units → fold with_unit_in (no_tables tags) (numbered_from 0 units) ≡ tables units
all_tables units tags e =
    let us = numbered_from 0 units in
    let types = types.all_new (flat_map (types_in tags) units) ∙ ap (λ them. new_among [] (flat_map (types_in them) units)) e in
    let objects = keys.all_new (flat_map (λ u. object_identities u.0 0 u.1.objects) us) in
    let functions = keys.all_new (flat_map (λ u. function_identities u.0 0 u.1.functions) us) in
    all_after (no_tables tags) 0 units ∙ (λ i. record { tags = e i; types = types i; objects = objects i; functions = functions i })
