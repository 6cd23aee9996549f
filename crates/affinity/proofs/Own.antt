-- What is said of the fields of one record over its own accesses is what is said over all.
use Rattle.std.proofs.Common.{◌≡◌, ap, ℕ, ◌+◌, ◌==◌, Bool, true, false, ◌&&◌, ◌||◌, List, [], ◌∷◌, map, refl, sym, ◌∙◌, arith}
use Rattle.std.specs.Prelude.{cond, if◌then◌else◌}
use Rattle.std.specs.List.{list_any}
use Rattle.c_typed.specs.RunCounts.Counting.{numbers_below}
use Rattle.affinity.specs.declared.access.Access.{Access}
use Rattle.affinity.specs.Accesses.{is_to}
use Rattle.affinity.specs.GroupWeights.{weight_of}
use Rattle.affinity.specs.Sums.{affinity, affinity_from, hotness, is_read, touches, touches_both}
use Rattle.affinity.specs.Touched.{own}

same_map : {X Y : Type 0} (f g : X → Y) → ((x : X) → f x ≡ g x) → (xs : List X) → map f xs ≡ map g xs
same_map f g h [] = refl
same_map f g h (x ∷ xs) = ap (λ y. y ∷ map f xs) (h x) ∙ ap (λ ys. g x ∷ ys) (same_map f g h xs)

add-none : (n : ℕ) → 0 + n ≡ n
add-none n = omega arith

module _ (of : ℕ) where
  hotness_same : (weights : List ℕ) (field : ℕ) (all : List Access) → hotness weights of field (own of all) ≡ hotness weights of field all
  hotness_same weights field [] = refl
  hotness_same weights field (a ∷ more) = go (hotness_same weights field more) (a.of == of) refl
    where
      go : hotness weights of field (own of more) ≡ hotness weights of field more
          → (t : Bool) → (a.of == of) ≡ t → hotness weights of field (cond t (a ∷ own of more) (own of more)) ≡ hotness weights of field (a ∷ more)
      go rest true e = ap (λ n. (if is_to of field a then weight_of weights a.group else 0) + n) rest
      go rest false e = rest ∙ sym (add-none (hotness weights of field more))
          ∙ ap (λ t. (if t && a.field == field then weight_of weights a.group else 0) + hotness weights of field more) (sym e)

  -- a test that no access to another record meets
  any_same : (test : Bool → Access → Bool) → ((a : Access) → test false a ≡ false) → (all : List Access)
      → list_any (λ a. test (a.of == of) a) (own of all) ≡ list_any (λ a. test (a.of == of) a) all
  any_same test none [] = refl
  any_same test none (a ∷ more) = go (any_same test none more) (a.of == of) refl
    where
      found : List Access → Bool
      found all = list_any (λ a. test (a.of == of) a) all

      go : found (own of more) ≡ found more → (t : Bool) → (a.of == of) ≡ t → found (cond t (a ∷ own of more) (own of more)) ≡ found (a ∷ more)
      go rest true e = ap (λ b. test (a.of == of) a || b) rest
      go rest false e = rest ∙ ap (λ b. b || found more) (sym (none a)) ∙ ap (λ t. test t a || found more) (sym e)

  read_same : (field : ℕ) (all : List Access) → is_read of field (own of all) ≡ is_read of field all
  read_same field all = any_same (λ t a. (t && a.field == field) && a.is_read) (λ a. refl) all

  touches_same : (field group : ℕ) (all : List Access) → touches of field group (own of all) ≡ touches of field group all
  touches_same field group all = any_same (λ t a. (t && a.field == field) && a.group == group) (λ a. refl) all

  affinity_same : (group : ℕ) (weights : List ℕ) (one other : ℕ) (all : List Access)
      → affinity_from group weights of one other (own of all) ≡ affinity_from group weights of one other all
  affinity_same group [] one other all = refl
  affinity_same group (weight ∷ more) one other all =
      ap (λ t. (if t && touches of other group (own of all) then weight else 0) + rest) (touches_same one group all)
      ∙ ap (λ t. (if touches of one group all && t then weight else 0) + rest) (touches_same other group all)
      ∙ ap (λ n. (if touches_both of one other group all then weight else 0) + n) (affinity_same (group + 1) more one other all)
    where
      rest : ℕ
      rest = affinity_from (group + 1) more of one other (own of all)

  module _ (count : ℕ) (those all : List Access) (h : those ≡ own of all) where
    pub own_reads : map (λ f. is_read of f those) (numbers_below count) ≡ map (λ f. is_read of f all) (numbers_below count)
    own_reads = same_map (λ f. is_read of f those) (λ f. is_read of f all) (λ f. ap (is_read of f) h ∙ read_same f all) (numbers_below count)

    module _ (weights : List ℕ) where
      pub own_hotnesses : map (λ f. hotness weights of f those) (numbers_below count) ≡ map (λ f. hotness weights of f all) (numbers_below count)
      own_hotnesses = same_map (λ f. hotness weights of f those) (λ f. hotness weights of f all)
          (λ f. ap (hotness weights of f) h ∙ hotness_same weights f all) (numbers_below count)

      pub own_affinities : map (λ f. map (λ g. affinity weights of f g those) (numbers_below count)) (numbers_below count)
          ≡ map (λ f. map (λ g. affinity weights of f g all) (numbers_below count)) (numbers_below count)
      own_affinities = same_map (λ f. map (λ g. affinity weights of f g those) (numbers_below count))
          (λ f. map (λ g. affinity weights of f g all) (numbers_below count))
          (λ f. same_map (λ g. affinity weights of f g those) (λ g. affinity weights of f g all)
          (λ g. ap (affinity weights of f g) h ∙ affinity_same 0 weights f g all) (numbers_below count))
          (numbers_below count)
