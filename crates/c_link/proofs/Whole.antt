-- What is assembled is the program of the units.
use Rattle.std.proofs.Common.{◌≡◌, ℕ, ◌+◌, Bool, true, false, List, [], ◌∷◌, ◌++◌, fold, map, flat_map, refl, sym, ap, ◌∙◌}
use Rattle.std.specs.Prelude.{codes, if◌then◌else◌}
use Rattle.std.specs.Str.{bytes_eq}
use Rattle.std.proofs.lemmas.List.{append-nil, map-append}
use Rattle.c_types.specs.Types.{Record}
use Rattle.c_typed.specs.declared.program.Object.{Object}
use Rattle.c_typed.specs.Programs.{FunctionData, UnitData}
use Rattle.c_numbers.specs.TypeNumbers.Renumbered.{record_in}
use Rattle.c_numbers.specs.KeyNumbers.Keys.{new_keys, position}
use Rattle.c_link.specs.Joining.{all_functions, all_functions_in, all_objects, all_objects_in, all_records_in, all_tags, chosen, complete_in, complete_tags}
use Rattle.c_link.specs.Joining.{function_identities, functions, functions_of, identity, if_any, is_function_defined, is_object_defined, joined, named}
use Rattle.c_link.specs.Joining.{numbered_from}
use Rattle.c_link.specs.Joining.{object_identities, objects, objects_of, paired, records, records_in, structure_in, tables, under, with_tag}
use Rattle.c_link.specs.Placing.{placed}
use Rattle.c_link.specs.JoinedViews.{assembled, nothing, tagged, with_unit}
use Rattle.c_link.proofs.Pairs.{functions_joined, mentions_joined, nodes_joined, objects_joined}
use Rattle.c_link.proofs.UnderKeys.{placed_all}

abbrev Key : Type 0
Key = List ℕ

-- ---- records

pub with_tag_is : (tag : Key) (all : List Record) → if_any (chosen (λ r. true) (under tag (map tagged all))) ≡ with_tag tag all
with_tag_is tag [] = refl
with_tag_is tag (r ∷ more) = go (bytes_eq tag r.tag) (with_tag_is tag more)
  where
    go : (b : Bool) → if_any (chosen (λ r. true) (under tag (map tagged more))) ≡ with_tag tag more
        → if_any (chosen (λ r. true) (if b then r ∷ under tag (map tagged more) else under tag (map tagged more))) ≡ (if b then r ∷ [] else with_tag tag more)
    go true e = refl
    go false e = e

tags_of_records : (f : ℕ → ℕ) (all : List Record) → map {B = Key} (λ p. p.0) (map tagged (map (record_in f) all)) ≡ map (λ r. r.tag) all
tags_of_records f [] = refl
tags_of_records f (r ∷ more) = ap (λ rest. r.tag ∷ rest) (tags_of_records f more)

pub tags_of_all : (tags : List Key) (units : List UnitData) → map {B = Key} (λ p. p.0) (map tagged (flat_map (records_in tags) units)) ≡ flat_map complete_in units
tags_of_all tags [] = refl
tags_of_all tags (u ∷ more) =
    ap (map {B = Key} (λ p. p.0)) (map-append tagged (records_in tags u) (flat_map (records_in tags) more))
    ∙ map-append {B = Key} (λ p. p.0) (map tagged (records_in tags u)) (map tagged (flat_map (records_in tags) more))
    ∙ ap (λ ks. ks ++ map {B = Key} (λ p. p.0) (map tagged (flat_map (records_in tags) more))) (tags_of_records (structure_in tags u) u.records)
    ∙ ap (λ ks. complete_in u ++ ks) (tags_of_all tags more)

pub records_are : (units : List UnitData) → placed (λ r. true) (all_tags units) [] (map tagged (all_records_in units)) ≡ records units
records_are units =
    let ps = map tagged (all_records_in units) in
    let others = new_keys (complete_tags units) (flat_map (λ u. u.incomplete) units) in
    let e = ap (new_keys []) (tags_of_all (all_tags units) units) in
    ap (λ ks. placed (λ r. true) (ks ++ others) [] ps) (sym e)
    ∙ placed_all (λ r. true) ps others
    ∙ ap (flat_map (λ k. if_any (chosen (λ r. true) (under k ps)))) e
    ∙ ap (λ (g : Key → List Record). flat_map g (complete_tags units)) (λ i k. with_tag_is k (all_records_in units) i)

-- ---- objects and functions

keys_of_objects : {A : Type 0} (k n : ℕ) (f : Object → A) (os : List Object) → map {B = Key} (λ p. p.0) (paired (object_identities k n os) (map f os)) ≡ object_identities k n os
keys_of_objects k n f [] = refl
keys_of_objects k n f (o ∷ more) = ap (λ ks. identity k o.linked o.name n ∷ ks) (keys_of_objects k (n + 1) f more)

keys_of_functions : {A : Type 0} (k n : ℕ) (f : FunctionData → A) (os : List FunctionData)
    → map {B = Key} (λ p. p.0) (paired (function_identities k n os) (map f os)) ≡ function_identities k n os
keys_of_functions k n f [] = refl
keys_of_functions k n f (o ∷ more) = ap (λ ks. identity k o.is_linked o.name n ∷ ks) (keys_of_functions k (n + 1) f more)

all_keys : {A : Type 0} (f : ℕ × UnitData → List (Key × A)) (g : ℕ × UnitData → List Key) → ((u : ℕ × UnitData) → map {B = Key} (λ p. p.0) (f u) ≡ g u)
    → (us : List (ℕ × UnitData)) → map {B = Key} (λ p. p.0) (flat_map f us) ≡ flat_map g us
all_keys f g h [] = refl
all_keys f g h (u ∷ more) =
    map-append {B = Key} (λ p. p.0) (f u) (flat_map f more) ∙ ap (λ ks. ks ++ map {B = Key} (λ p. p.0) (flat_map f more)) (h u)
    ∙ ap (λ ks. g u ++ ks) (all_keys f g h more)

placed_once : {A : Type 0} (d : A → Bool) (keys : List Key) (ps : List (Key × A)) → new_keys [] (map {B = Key} (λ p. p.0) ps) ≡ keys
    → placed d keys [] ps ≡ flat_map (λ k. if_any (chosen d (under k ps))) keys
placed_once d keys ps e =
    ap (λ ks. placed d ks [] ps) (sym e ∙ sym (append-nil _)) ∙ placed_all d ps [] ∙ ap (flat_map (λ k. if_any (chosen d (under k ps)))) e

objects_are : (units : List UnitData) → placed is_object_defined (all_objects units) [] (all_objects_in units) ≡ objects units
objects_are units =
    placed_once is_object_defined (all_objects units) (all_objects_in units)
    (ap (new_keys []) (all_keys (λ u. objects_of (tables units) u.0 u.1) (λ u. object_identities u.0 0 u.1.objects) (λ u. keys_of_objects u.0 0 _ u.1.objects)
    (numbered_from 0 units)))

functions_are : (units : List UnitData) → placed is_function_defined (all_functions units) [] (all_functions_in units) ≡ functions units
functions_are units =
    placed_once is_function_defined (all_functions units) (all_functions_in units)
    (ap (new_keys []) (all_keys (λ u. functions_of (tables units) u.0 u.1) (λ u. function_identities u.0 0 u.1.functions)
    (λ u. keys_of_functions u.0 0 _ u.1.functions) (numbered_from 0 units)))

-- ---- the whole

pub assembled_is : (units : List UnitData) → assembled (placed (λ r. true) (all_tags units) [] (map tagged (all_records_in units))) (tables units).types
    (fold (with_unit (tables units)) nothing (numbered_from 0 units)) (position (all_functions units) (named (codes "main"))) ≡ joined units
assembled_is units =
    let t = tables units in
    let us = numbered_from 0 units in
    let r = records_are units in
    let o = objects_joined t nothing us ∙ objects_are units in
    let f = functions_joined t nothing us ∙ functions_are units in
    let m = mentions_joined t nothing us in
    let n = nodes_joined t nothing 0 units in
    λ i. record {
      records = r i;
      types = t.types;
      objects = o i;
      functions = f i;
      mentions = m i;
      main = position (all_functions units) (named (codes "main"));
      nodes = n i;
    }
