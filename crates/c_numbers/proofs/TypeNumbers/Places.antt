-- A type's place is that of its key.
use Rattle.std.proofs.Common.{◌≡◌, ◌+◌, ◌<◌, ◌≤◌, Bool, true, false, ◌||◌, List, [], ◌∷◌, ◌++◌, length, map, refl, sym, ap, ◌∙◌, arith}
use Rattle.std.specs.Prelude.{if◌then◌else◌}
use Rattle.std.specs.List.{list_any}
use Rattle.std.specs.Str.{bytes_eq}
use Rattle.std.proofs.lemmas.List.{length-map, map-append}
use Rattle.std.proofs.lemmas.Slice.Eq.{bytes_eq-Decides}
use Rattle.c_types.proofs.SameTypes.{same_is, same_self}
use Rattle.c_types.specs.Sameness.{same_type}
use Rattle.c_types.specs.Types.{CType}
use Rattle.c_erasure.specs.Units.{number_in}
use Rattle.c_numbers.proofs.KeyNumbers.Laws.{absent, found}
use Rattle.c_numbers.specs.KeyNumbers.Keys.{is_among, position, with_key}
use Rattle.c_numbers.specs.TypeNumbers.TypeKeys.{type_key}
use Rattle.c_numbers.specs.TypeNumbers.Adding.{with_type}
use Rattle.c_numbers.proofs.TypeNumbers.Readable.{key_is_of_one}

alike : (a b : Bool) → (a ≡ true → b ≡ true) → (b ≡ true → a ≡ true) → a ≡ b
alike true b f g = sym (f refl)
alike false true f g = g refl
alike false false f g = refl

keys_alike : (t s : CType) → bytes_eq (type_key t) (type_key s) ≡ same_type t s
keys_alike t s =
    alike _ _ (λ h. same_self t s (key_is_of_one t s ((bytes_eq-Decides (type_key t) (type_key s)).0 h)))
    (λ h. (bytes_eq-Decides (type_key t) (type_key s)).1 (ap type_key (same_is t s h)))

turned : (t s : CType) → same_type t s ≡ same_type s t
turned t s = alike _ _ (λ h. same_self s t (sym (same_is t s h))) (λ h. same_self t s (sym (same_is s t h)))

pub place_is : (types : List CType) (t : CType) → position (map type_key types) (type_key t) ≡ number_in types t
place_is [] t = refl
place_is (s ∷ more) t =
    ap (λ b. if b then 0 else position (map type_key more) (type_key t) + 1) (keys_alike t s ∙ turned t s)
    ∙ ap (λ n. if same_type s t then 0 else n + 1) (place_is more t)

among_is : (types : List CType) (t : CType) → is_among (map type_key types) (type_key t) ≡ list_any (same_type t) types
among_is [] t = refl
among_is (s ∷ more) t =
    ap (λ b. b || is_among (map type_key more) (type_key t)) (keys_alike t s) ∙ ap (λ b. same_type t s || b) (among_is more t)

pub one_more : (types : List CType) (t : CType) → with_key (map type_key types) (type_key t) ≡ map type_key (with_type types t)
one_more types t =
    ap (λ b. if b then map type_key types else map type_key types ++ type_key t ∷ []) (among_is types t) ∙ go (list_any (same_type t) types)
  where
    go : (b : Bool) → (if b then map type_key types else map type_key types ++ type_key t ∷ []) ≡ map type_key (if b then types else types ++ t ∷ [])
    go true = refl
    go false = sym (map-append type_key types (t ∷ []))

pub stays : (types : List CType) (t : CType) → position (map type_key types) (type_key t) < length (map type_key types) → types ≡ with_type types t
stays types t h = ap (λ b. if b then types else types ++ t ∷ []) (sym (found (map type_key types) (type_key t) h) ∙ among_is types t)

pub grows : (types : List CType) (t : CType) → length (map type_key types) ≤ position (map type_key types) (type_key t) → types ++ t ∷ [] ≡ with_type types t
grows types t h = ap (λ b. if b then types else types ++ t ∷ []) (sym (absent (map type_key types) (type_key t) h) ∙ among_is types t)

pub not_there : (types : List CType) (t : CType) → length (map type_key types) ≤ position (map type_key types) (type_key t) → length types ≤ number_in types t
not_there types t h =
    let e = place_is types t in
    let n : length (map type_key types) ≡ length types = length-map types type_key in
    omega (arith, h, e, n)

-- a type whose number is one of the types' is there
pub is_there : (types : List CType) (t : CType) → number_in types t < length types → types ≡ with_type types t
is_there types t h =
    let e = place_is types t in
    let n : length (map type_key types) ≡ length types = length-map types type_key in
    stays types t (omega (arith, h, e, n))
