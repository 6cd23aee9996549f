-- A part of a file with an object that has no initializer yet, and with another one in its place (C99 6.2.4, 6.7.8).
use Rattle.std.proofs.Common.{◌≡◌, ℕ, zero, suc, ◌+◌, true, refl, sym, ap, ◌∙◌, subst, List, [], ◌∷◌, ◌++◌, length, inl, inr, arith}
use Rattle.std.specs.Prelude.{◌⊎◌, map, Some, None, IsSome, slice_get, slice_set}
use Rattle.std.specs.Option.{option_map}
use Rattle.c_types.specs.Types.{CType}
use Rattle.c_erasure.specs.Scopes.{AnObject, FileScope, in_full}
use Rattle.c_checking_laws.proofs.Extends.{Extends, one_of_both}
use Rattle.c_checking_laws.proofs.CompleteNodes.{some, some_is}
use Rattle.c_checking_laws.proofs.CompleteWalk.{Event, a_use, a_look, a_tag, an_end, a_name, a_literal, seen, literals_in, Follows}
use Rattle.c_checking_laws.proofs.CompleteLists.{made_at}
use Rattle.c_checking_laws.proofs.CompletePart.{Lists, part}

-- ---- where nothing is made, any number of objects may stand before

pub none_made : (all : List Event) → made_at all ≡ [] → literals_in (seen true in_full all) ≡ 0
none_made [] h = refl
none_made (a_use at ∷ all) h = none_made all h
none_made (a_look at ∷ all) h = none_made all h
none_made (a_tag t ∷ all) h = none_made all h
none_made (an_end tag right ∷ all) h = none_made all h
none_made (a_name from ∷ all) h = none_made all h
none_made (a_literal at ∷ all) h = cc

pub any_objects : (g : FileScope) (n r o p : ℕ) (all : List Event) → literals_in all ≡ 0 → Follows g n r o all → Follows g n r p all
any_objects g n r o p [] h f = tt
any_objects g n r o p (a_use at ∷ all) h f = (f.0, any_objects g n r o p all h f.1)
any_objects g n r o p (a_look at ∷ all) h f = (f.0, any_objects g n r o p all h f.1)
any_objects g n r o p (a_tag t ∷ all) h f = (f.0, any_objects g n r o p all h f.1)
any_objects g n r o p (an_end tag right ∷ all) h f = (f.0, any_objects g n (suc r) o p all h f.1)
any_objects g n r o p (a_name from ∷ all) h f = (f.0, any_objects g (suc n) r o p all h f.1)
any_objects g n r o p (a_literal at ∷ all) h f = absurd (omega (arith, h))

-- ---- lists

mapped_one : {X Y : Type 0} (v : X → Y) (xs : List X) (y : X) → map v (xs ++ y ∷ []) ≡ map v xs ++ v y ∷ []
mapped_one v [] y = refl
mapped_one v (x ∷ xs) y = ap (λ z. v x ∷ z) (mapped_one v xs y)

mapped_length : {X Y : Type 0} (v : X → Y) (xs : List X) → length (map v xs) ≡ length xs
mapped_length v [] = refl
mapped_length v (x ∷ xs) = let e = mapped_length v xs in omega (arith, e)

pub mapped_set : {X Y : Type 0} (v : X → Y) (xs : List X) (n : ℕ) (y : X) → map v (slice_set xs n y) ≡ slice_set (map v xs) n (v y)
mapped_set v [] n y = refl
mapped_set v (x ∷ xs) zero y = refl
mapped_set v (x ∷ xs) (suc n) y = ap (λ z. v x ∷ z) (mapped_set v xs n y)

pub set_length : {X : Type 0} (xs : List X) (n : ℕ) (y : X) → length (slice_set xs n y) ≡ length xs
set_length [] n y = refl
set_length (x ∷ xs) zero y = refl
set_length (x ∷ xs) (suc n) y = let e = set_length xs n y in omega (arith, e)

-- the last of a list, or one before it
last_of : {X : Type 0} (xs : List X) (y : X) (k : ℕ) (x : X) → slice_get (xs ++ y ∷ []) k ≡ Some x
    → (slice_get xs k ≡ Some x) ⊎ ((k ≡ length xs) × (y ≡ x))
last_of {X} xs y k x h = by_place (one_of_both xs (y ∷ []) k x h)
  where
    by_place : (slice_get xs k ≡ Some x) ⊎ ((j : ℕ) × (k ≡ length xs + j) × (slice_get (y ∷ []) j ≡ Some x))
        → (slice_get xs k ≡ Some x) ⊎ ((k ≡ length xs) × (y ≡ x))
    by_place (inl h) = inl h
    by_place (inr (zero, e, h)) = inr (omega (arith, e), some_is y x h)
    by_place (inr (suc j, e, h)) = cc

-- the one that is put there, or another
pub set_of : {X : Type 0} (xs : List X) (n : ℕ) (y : X) (k : ℕ) (x : X) → slice_get (slice_set xs n y) k ≡ Some x
    → (slice_get xs k ≡ Some x) ⊎ ((k ≡ n) × (y ≡ x))
set_of [] n y k x h = inl h
set_of (z ∷ xs) zero y zero x h = inr (refl, some_is y x h)
set_of (z ∷ xs) zero y (suc k) x h = inl h
set_of (z ∷ xs) (suc n) y zero x h = inl h
set_of {X} (z ∷ xs) (suc n) y (suc k) x h = later (set_of xs n y k x h)
  where
    later : (slice_get xs k ≡ Some x) ⊎ ((k ≡ n) × (y ≡ x)) → (slice_get xs k ≡ Some x) ⊎ ((suc k ≡ suc n) × (y ≡ x))
    later (inl h) = inl h
    later (inr h) = inr (let e = h.0 in omega (arith, e), h.1)

pub mapped_at : {X Y : Type 0} (v : X → Y) (xs : List X) (k : ℕ) (x : X) → slice_get xs k ≡ Some x → slice_get (map v xs) k ≡ Some (v x)
mapped_at v [] k x h = cc
mapped_at v (y ∷ xs) zero x h = ap (λ o. option_map v o) h
mapped_at v (y ∷ xs) (suc k) x h = mapped_at v xs k x h

-- ---- parts of a file

abbrev pub with_objects : Lists → List AnObject → Lists
with_objects c all = record { names = c.names; records = c.records; objects = all; functions = c.functions; mentions = c.mentions }

abbrev pub TypesStand : FileScope → List AnObject → Type 0
TypesStand g all = (k : ℕ) (t : CType) → slice_get (map (λ o. o.ty) all) k ≡ Some t → slice_get (map (λ o. o.ty) g.objects) k ≡ Some t

abbrev pub ObjectsStand : FileScope → List AnObject → Type 0
ObjectsStand g all = (k : ℕ) (o : AnObject) → slice_get all k ≡ Some o → IsSome o.initial → slice_get g.objects k ≡ Some o

with_others : (g : FileScope) (c : Lists) (all : List AnObject) → Extends (part g c) g → TypesStand g all → ObjectsStand g all
    → Extends (part g (with_objects c all)) g
with_others g c all p types objects = record {
  file = refl;
  tags = refl;
  ends = refl;
  numbered = refl;
  untagged = refl;
  names = p.names;
  records = p.records;
  mentions = p.mentions;
  types = types;
  objects = objects;
  functions = p.functions;
}

-- an object comes last that is of its type, and has no initializer yet
pub one_more : (g : FileScope) (c : Lists) (o made : AnObject) → Extends (part g c) g → o.initial ≡ None
    → slice_get g.objects (length c.objects) ≡ Some made
    → o.ty ≡ made.ty → Extends (part g (with_objects c (c.objects ++ o ∷ []))) g
one_more g c o made p none there same = with_others g c (c.objects ++ o ∷ []) p types objects
  where
    types : TypesStand g (c.objects ++ o ∷ [])
    types k t h =
        by_place (last_of (map (λ o. o.ty) c.objects) o.ty k t (subst (λ all. slice_get all k ≡ Some t) (mapped_one (λ o. o.ty) c.objects o) h))
      where
        by_place : (slice_get (map (λ o. o.ty) c.objects) k ≡ Some t) ⊎ ((k ≡ length (map (λ o. o.ty) c.objects)) × (o.ty ≡ t))
            → slice_get (map (λ o. o.ty) g.objects) k ≡ Some t
        by_place (inl h) = p.types k t h
        by_place (inr h) =
            let e : k ≡ length c.objects = h.0 ∙ mapped_length (λ (o : AnObject). o.ty) c.objects in
            subst (λ k. slice_get (map (λ o. o.ty) g.objects) k ≡ Some t) (sym e)
            (mapped_at (λ (o : AnObject). o.ty) g.objects (length c.objects) made there ∙ ap (λ t. some t)
            (sym same ∙ h.1))

    objects : ObjectsStand g (c.objects ++ o ∷ [])
    objects k x h i = by_place (last_of c.objects o k x h)
      where
        by_place : (slice_get c.objects k ≡ Some x) ⊎ ((k ≡ length c.objects) × (o ≡ x)) → slice_get g.objects k ≡ Some x
        by_place (inl h) = p.objects k x h i
        by_place (inr h) = let none_is_some = subst IsSome (ap (λ (o : AnObject). o.initial) (sym h.1) ∙ none) i in cc

-- an object of the whole file stands there
pub one_put : (g : FileScope) (c : Lists) (n : ℕ) (o : AnObject) → Extends (part g c) g → slice_get g.objects n ≡ Some o
    → Extends (part g (with_objects c (slice_set c.objects n o))) g
one_put g c n o p there = with_others g c (slice_set c.objects n o) p types objects
  where
    types : TypesStand g (slice_set c.objects n o)
    types k t h = by_place (set_of (map (λ o. o.ty) c.objects) n o.ty k t (subst (λ all. slice_get all k ≡ Some t) (mapped_set
        (λ o. o.ty) c.objects n o) h))
      where
        by_place : (slice_get (map (λ o. o.ty) c.objects) k ≡ Some t) ⊎ ((k ≡ n) × (o.ty ≡ t)) → slice_get (map (λ o. o.ty) g.objects) k ≡ Some t
        by_place (inl h) = p.types k t h
        by_place (inr h) =
            subst (λ k. slice_get (map (λ o. o.ty) g.objects) k ≡ Some t) (sym h.0)
            (mapped_at (λ (o : AnObject). o.ty) g.objects n o there ∙ ap (λ t. some t) h.1)

    objects : ObjectsStand g (slice_set c.objects n o)
    objects k x h i = by_place (set_of c.objects n o k x h)
      where
        by_place : (slice_get c.objects k ≡ Some x) ⊎ ((k ≡ n) × (o ≡ x)) → slice_get g.objects k ≡ Some x
        by_place (inl h) = p.objects k x h i
        by_place (inr h) =
            subst (λ k. slice_get g.objects k ≡ Some x) (sym h.0) (there ∙ ap (λ o. some o) h.1)
