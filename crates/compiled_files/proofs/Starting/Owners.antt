-- The blocks of a program's objects before its first step, and who owns an address.
use Rattle.std.proofs.Common.{◌≡◌, ℕ, zero, suc, ◌+◌, ◌<◌, ◌≤◌, ◌⊎◌, inl, inr, Bool, false, cond, ◌&&◌, leb, ltb, List, [], ◌∷◌, length, map}
use Rattle.std.proofs.Common.{Option, Some, None, slice_get, slice_index, refl, ap, ◌∙◌, sym, arith, le-leb, le-ltb, lt-ltb}
use Rattle.std.specs.Prelude.{if◌then◌else◌, nat_le, nat_lt}
use Rattle.std.proofs.lemmas.Bool.{and_left, and_right, lt-leb}
use Rattle.rv_code.specs.Frames.{end_from, places_from, whole_words}
use Rattle.rv_emit.specs.Maps.{Extent, Extents}
use Rattle.rv_emit.proofs.Lists.{end_above}

abbrev pub extents_from : (at : ℕ) → (sizes : List ℕ) → Extents
extents_from at [] = []
extents_from at (size ∷ more) = record { at = at; size = size } ∷ extents_from (at + whole_words size) more

-- the number of the block in which an address lies, from the n-th on
abbrev pub owner_among : (n : ℕ) → Extents → ℕ → Option ℕ
owner_among n [] a = None
owner_among n (e ∷ more) a = if nat_le e.at a && nat_lt a (e.at + e.size) then Some n else owner_among (n + 1) more a

pub extents_long : (at : ℕ) (sizes : List ℕ) → length (extents_from at sizes) ≡ length sizes
extents_long at [] = refl
extents_long at (size ∷ more) = ap suc (extents_long (at + whole_words size) more)

-- ---- each block begins at its place and has its size

pub extent_of : {A : Type 0} (f : A → ℕ) (at : ℕ) (all : List A) (n : ℕ) (x : A) → slice_get all n ≡ Some x
    → slice_get (extents_from at (map f all)) n ≡ Some (record { at = slice_index (places_from at (map f all)) n; size = f x })
extent_of f at [] n x e = absurd cc
extent_of f at (z ∷ all) zero x e = (let d : z ≡ x = cc in ap (λ (y : ℕ). Some (record { at = at; size = y })) (ap f d))
extent_of f at (z ∷ all) (suc n) x e = extent_of f (at + whole_words (f z)) all n x e

pub of_extent : {A : Type 0} (f : A → ℕ) (at : ℕ) (all : List A) (n : ℕ) (e : Extent) → slice_get (extents_from at (map f all)) n ≡ Some e
    → (x : A) × (slice_get all n ≡ Some x) × (e.at ≡ slice_index (places_from at (map f all)) n) × (e.size ≡ f x)
of_extent f at [] n e is = absurd cc
of_extent f at (z ∷ all) zero e is =
    let d : record { at = at; size = f z } ≡ e = cc in
    (z, refl, sym (ap (λ (y : Extent). y.at) d), sym (ap (λ (y : Extent). y.size) d))
of_extent f at (z ∷ all) (suc n) e is = of_extent f (at + whole_words (f z)) all n e is

-- ---- owners

module _ (n : ℕ) (e : Extent) (more : Extents) (a : ℕ) where
  owner_here : e.at ≤ a → a < e.at + e.size → owner_among n (e ∷ more) a ≡ Some n
  owner_here low high = rw (le-leb e.at a low, lt-ltb a (e.at + e.size) high) refl

  is_outside : (a < e.at) ⊎ (e.at + e.size ≤ a) → (leb e.at a && ltb a (e.at + e.size)) ≡ false
  is_outside (inl lt) = and_left (leb e.at a) _ (lt-leb e.at a lt)
  is_outside (inr le) = and_right (leb e.at a) _ (le-ltb a (e.at + e.size) le)

  owner_past : (a < e.at) ⊎ (e.at + e.size ≤ a) → owner_among n (e ∷ more) a ≡ owner_among (n + 1) more a
  owner_past out = ap (λ (b : Bool). cond b (Some n) (owner_among (n + 1) more a)) (is_outside out)

pub owner_below : (n at : ℕ) (sizes : List ℕ) (a : ℕ) → a < at → owner_among n (extents_from at sizes) a ≡ None
owner_below n at [] a lt = refl
owner_below n at (size ∷ more) a lt =
    owner_past n (record { at = at; size = size }) (extents_from (at + whole_words size) more) a (inl lt)
    ∙ owner_below (n + 1) (at + whole_words size) more a (omega arith)

pub owner_behind : (n at : ℕ) (sizes : List ℕ) (a : ℕ) → end_from at sizes ≤ a → owner_among n (extents_from at sizes) a ≡ None
owner_behind n at [] a le = refl
owner_behind n at (size ∷ more) a le =
    let h = end_above (at + whole_words size) more in
    owner_past n (record { at = at; size = size }) (extents_from (at + whole_words size) more) a (inr (omega (arith, h)))
    ∙ owner_behind (n + 1) (at + whole_words size) more a le

above : (at : ℕ) (sizes : List ℕ) (b : ℕ) (e : Extent) → slice_get (extents_from at sizes) b ≡ Some e → at ≤ e.at
above at [] b e is = absurd cc
above at (size ∷ more) zero e is = (let d : at ≡ e.at = ap (λ (y : Extent). y.at) (let z : record { at = at; size = size } ≡ e = cc in z) in omega (arith, d))
above at (size ∷ more) (suc b) e is = (let h = above (at + whole_words size) more b e is in omega (arith, h))

pub owner_within : (n at : ℕ) (sizes : List ℕ) (b i : ℕ) (e : Extent) → slice_get (extents_from at sizes) b ≡ Some e → i < e.size
    → owner_among n (extents_from at sizes) (e.at + i) ≡ Some (n + b)
owner_within n at [] b i e is lt = absurd cc
owner_within n at (size ∷ more) zero i e is lt =
    let d : record { at = at; size = size } ≡ e = cc in
    let place : at ≡ e.at = ap (λ (y : Extent). y.at) d in
    let long : size ≡ e.size = ap (λ (y : Extent). y.size) d in
    owner_here n (record { at = at; size = size }) (extents_from (at + whole_words size) more) (e.at + i) (omega (arith, place)) (omega (arith, place, long))
    ∙ ap Some (let z : n ≡ n + 0 = omega arith in z)
owner_within n at (size ∷ more) (suc b) i e is lt =
    let low = above (at + whole_words size) more b e is in
    owner_past n (record { at = at; size = size }) (extents_from (at + whole_words size) more) (e.at + i) (inr (omega (arith, low)))
    ∙ owner_within (n + 1) (at + whole_words size) more b i e is lt ∙ ap Some (let z : n + 1 + b ≡ n + suc b = omega arith in z)
