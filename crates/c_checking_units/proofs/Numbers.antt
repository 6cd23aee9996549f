-- The tags of a file's records are different: those that are defined, and behind them those that are not (C99 6.7.2.3).
use Rattle.std.proofs.Common.{◌≡◌, ◌≢◌, ℕ, zero, suc, ◌+◌, Bool, true, false, refl, sym, ◌∙◌, subst, cond, List, [], ◌∷◌, ◌++◌, length, inl, inr}
use Rattle.std.specs.Prelude.{◌⊎◌, ◌||◌, filter, map, not, Some, slice_get}
use Rattle.std.specs.Str.{bytes_eq}
use Rattle.c_erasure.specs.Declarators.{AreDifferent}
use Rattle.c_erasure.specs.Marks.{Mark, is_among, firsts, defined_in, undefined_in, tags_in}
use Rattle.c_erasure.specs.Scopes.{Tag}
use Rattle.c_checking_laws.proofs.Extends.{one_of_both}
use Rattle.c_checking_laws.proofs.WholeFiles.Names.{all_at, names_equal}
use Rattle.c_checking_laws.proofs.WholeFiles.Orders.{all_from_slices}

-- none of the names is among those
abbrev AreFresh : List (List ℕ) → List (List ℕ) → Type 0
AreFresh known names = (k : ℕ) (y : List ℕ) → slice_get names k ≡ Some y → is_among known y ≡ false

neither : (a b : Bool) → (a || b) ≡ false → b ≡ false
neither true b h = cc
neither false b h = h

not_it : (a b : Bool) → (a || b) ≡ false → a ≡ false
not_it true b h = cc
not_it false b h = refl

-- one that is among some names is no fresh one
other : (x y : List ℕ) (known : List (List ℕ)) → is_among (x ∷ known) y ≡ false → x ≢ y
other x y known h e =
    let same = names_equal y x (sym e) in
    let differs = not_it (bytes_eq y x) (is_among known y) h in
    let true_is_false = sym same ∙ differs in
    cc

firsts_fresh : (known : List (List ℕ)) (tags : List Tag) → AreFresh known (map (λ t. t.name) (firsts known tags))
firsts_fresh known [] k y e = cc
firsts_fresh known (t ∷ tags) k y e = by_test (is_among known t.name) refl k e (λ known k e. firsts_fresh known tags k y e)
  where
    by_test : (b : Bool) → is_among known t.name ≡ b → (k : ℕ)
        → slice_get (map (λ t. t.name) (cond b (firsts known tags) (t ∷ firsts (t.name ∷ known) tags))) k ≡ Some y
        → ((known : List (List ℕ)) (k : ℕ) → slice_get (map (λ t. t.name) (firsts known tags)) k ≡ Some y → is_among known y ≡ false)
        → is_among known y ≡ false
    by_test true f k e later = later known k e
    by_test false f zero e later = let same : t.name ≡ y = cc in subst (λ y. is_among known y ≡ false) same f
    by_test false f (suc k) e later = neither (bytes_eq y t.name) (is_among known y) (later (t.name ∷ known) k e)

firsts_differ : (known : List (List ℕ)) (tags : List Tag) → AreDifferent (map (λ t. t.name) (firsts known tags))
firsts_differ known [] = tt
firsts_differ known (t ∷ tags) = by_test (is_among known t.name) (λ known. firsts_differ known tags)
  where
    by_test : (b : Bool) → ((known : List (List ℕ)) → AreDifferent (map (λ t. t.name) (firsts known tags)))
        → AreDifferent (map (λ t. t.name) (cond b (firsts known tags) (t ∷ firsts (t.name ∷ known) tags)))
    by_test true later = later known
    by_test false later = (
      all_from_slices (λ y. t.name ≢ y) (map (λ t. t.name) (firsts (t.name ∷ known) tags))
          (λ k y e. other t.name y known (firsts_fresh (t.name ∷ known) tags k y e)),
      later (t.name ∷ known),
    )

differ_both : (u v : List (List ℕ)) → AreDifferent u → AreDifferent v → AreFresh u v → AreDifferent (u ++ v)
differ_both [] v h k f = k
differ_both (x ∷ u) v h k f = (
  all_from_slices (λ y. x ≢ y) (u ++ v) (λ j y e. apart j y (one_of_both u v j y e)),
  differ_both u v h.1 k (λ j y e. neither (bytes_eq y x) (is_among u y) (f j y e)),
)
  where
    apart : (j : ℕ) (y : List ℕ) → (slice_get u j ≡ Some y) ⊎ ((i : ℕ) × (j ≡ length u + i) × (slice_get v i ≡ Some y)) → x ≢ y
    apart j y (inl e) = all_at (λ y. x ≢ y) u h.0 j y e
    apart j y (inr e) = other x y u (f e.0 y e.2)

pub numbers_differ : (all : List Mark) → AreDifferent (defined_in all) → AreDifferent (defined_in all ++ undefined_in all)
numbers_differ all h =
    let tags = filter (λ t. not t.is_enumeration) (tags_in all) in
    differ_both (defined_in all) (undefined_in all) h (firsts_differ (defined_in all) tags) (firsts_fresh (defined_in all) tags)
