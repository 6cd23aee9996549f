-- Where only what stands at the groups with an access is kept, sums over groups that access two fields stay the same.
use Rattle.std.proofs.Common.{◌≡◌, ap, ℕ, zero, suc, ◌+◌, Bool, true, false, ◌&&◌, List, [], ◌∷◌, length, map, replicate, refl, sym, ◌∙◌, subst, arith}
use Rattle.std.specs.Prelude.{if◌then◌else◌, fold, slice_set}
use Rattle.std.proofs.lemmas.List.{length-replicate}
use Rattle.c_typed.specs.RunCounts.Counting.{numbers_below}
use Rattle.affinity.specs.declared.access.Access.{Access}
use Rattle.affinity.specs.Accesses.{is_to}
use Rattle.affinity.specs.Sums.{affinity}
use Rattle.affinity.specs.Touched.{common, is_marked, kept, marked, marked_group, touched, touched_at_all}
use Rattle.affinity.proofs.Common.{common_is_affinity, set_length}

-- ---- marks that stand only where others do, in lists of one length

abbrev Under : List Bool → List Bool → Type 0
Under [] [] = Unit {0}
Under [] (k ∷ all) = ⊥
Under (m ∷ marks) [] = ⊥
Under (true ∷ marks) (false ∷ all) = ⊥
Under (true ∷ marks) (true ∷ all) = Under marks all
Under (false ∷ marks) (k ∷ all) = Under marks all

under_none : (count : ℕ) → Under (replicate count false) (replicate count false)
under_none zero = tt
under_none (suc count) = under_none count

under_rest : (m : Bool) (marks all : List Bool) → Under (m ∷ marks) (true ∷ all) → Under marks all
under_rest true marks all h = h
under_rest false marks all h = h

one_more_right : (marks all : List Bool) (n : ℕ) → Under marks all → Under marks (slice_set all n true)
one_more_right [] [] n h = h
one_more_right [] (k ∷ all) n h = absurd h
one_more_right (m ∷ marks) [] n h = absurd h
one_more_right (true ∷ marks) (false ∷ all) n h = absurd h
one_more_right (true ∷ marks) (true ∷ all) zero h = h
one_more_right (true ∷ marks) (true ∷ all) (suc n) h = one_more_right marks all n h
one_more_right (false ∷ marks) (k ∷ all) zero h = h
one_more_right (false ∷ marks) (k ∷ all) (suc n) h = one_more_right marks all n h

one_more_both : (marks all : List Bool) (n : ℕ) → Under marks all → Under (slice_set marks n true) (slice_set all n true)
one_more_both [] [] n h = h
one_more_both [] (k ∷ all) n h = absurd h
one_more_both (m ∷ marks) [] n h = absurd h
one_more_both (true ∷ marks) (false ∷ all) n h = absurd h
one_more_both (true ∷ marks) (true ∷ all) zero h = h
one_more_both (true ∷ marks) (true ∷ all) (suc n) h = one_more_both marks all n h
one_more_both (false ∷ marks) (k ∷ all) zero h = h
one_more_both (false ∷ marks) (k ∷ all) (suc n) h = one_more_both marks all n h

under : (of field : ℕ) (accesses : List Access) (marks all : List Bool) → Under marks all
    → Under (fold (marked of field) marks accesses) (fold marked_group all accesses)
under of field [] marks all h = h
under of field (a ∷ more) marks all h = under of field more (marked of field marks a) (marked_group all a) (go (is_to of field a))
  where
    go : (t : Bool) → Under (if t then slice_set marks a.group true else marks) (slice_set all a.group true)
    go true = one_more_both marks all a.group h
    go false = one_more_right marks all a.group h

-- ---- without the first group

turned : (n : ℕ) → suc (n + 1) ≡ suc n + 1
turned n = omega arith

kept_next : {X : Type 0} (group : ℕ) (k : Bool) (marks : List Bool) (items : List X) → kept (suc group) (k ∷ marks) items ≡ kept group marks items
kept_next group k marks [] = refl
kept_next group k marks (x ∷ more) =
    ap (λ those. if is_marked marks group then x ∷ those else those)
    (subst (λ n. kept n (k ∷ marks) more ≡ kept (group + 1) marks more) (turned group) (kept_next (group + 1) k marks more))

common_next : (group : ℕ) (weights : List ℕ) (a b : Bool) (ones others : List Bool)
    → common (suc group) weights (a ∷ ones) (b ∷ others) ≡ common group weights ones others
common_next group [] a b ones others = refl
common_next group (weight ∷ more) a b ones others =
    ap (λ n. (if is_marked ones group && is_marked others group then weight else 0) + n)
    (subst (λ n. common n more (a ∷ ones) (b ∷ others) ≡ common (group + 1) more ones others) (turned group) (common_next (group + 1) more a b ones others))

kept_first : {X : Type 0} (k : Bool) (marks : List Bool) (x : X) (items : List X)
    → kept 0 (k ∷ marks) (x ∷ items) ≡ (if k then x ∷ kept 0 marks items else kept 0 marks items)
kept_first k marks x items = ap (λ those. if k then x ∷ those else those) (kept_next 0 k marks items)

-- ---- the same sum

abbrev chosen : {X : Type 0} → Bool → List Bool → X → List X → List X
chosen k marks x items = if k then x ∷ kept 0 marks items else kept 0 marks items

-- one group more, where the sum over the others is known
one_more : (k a b : Bool) (marks : List Bool) (weight : ℕ) (weights : List ℕ) (ones others : List Bool)
    → Under (a ∷ ones) (k ∷ marks) → Under (b ∷ others) (k ∷ marks)
    → (Under ones marks → Under others marks → common 0 (kept 0 marks weights) (kept 0 marks ones) (kept 0 marks others) ≡ common 0 weights ones others)
    → common 0 (chosen k marks weight weights) (chosen k marks a ones) (chosen k marks b others) ≡ (if a && b then weight else 0) + common 0 weights ones others
one_more true a b marks weight weights ones others h j rest =
    ap (λ n. (if a && b then weight else 0) + n)
    (common_next 0 (kept 0 marks weights) a b (kept 0 marks ones) (kept 0 marks others) ∙ rest (under_rest a ones marks h) (under_rest b others marks j))
one_more false true b marks weight weights ones others h j rest = absurd h
one_more false false true marks weight weights ones others h j rest = absurd j
one_more false false false marks weight weights ones others h j rest = rest h j ∙ omega arith

common_kept : (marks : List Bool) (weights : List ℕ) (ones others : List Bool) → length marks ≡ length weights → Under ones marks → Under others marks
    → common 0 (kept 0 marks weights) (kept 0 marks ones) (kept 0 marks others) ≡ common 0 weights ones others
common_kept marks [] ones others l h j = refl
common_kept [] (weight ∷ weights) ones others l h j = absurd (omega (arith, l))
common_kept (k ∷ marks) (weight ∷ weights) [] others l h j = absurd h
common_kept (k ∷ marks) (weight ∷ weights) (a ∷ ones) [] l h j = absurd j
common_kept (k ∷ marks) (weight ∷ weights) (a ∷ ones) (b ∷ others) l h j =
    ap (λ xs. common 0 xs (kept 0 (k ∷ marks) (a ∷ ones)) (kept 0 (k ∷ marks) (b ∷ others))) (kept_first k marks weight weights)
    ∙ ap (λ xs. common 0 (chosen k marks weight weights) xs (kept 0 (k ∷ marks) (b ∷ others))) (kept_first k marks a ones)
    ∙ ap (λ xs. common 0 (chosen k marks weight weights) (chosen k marks a ones) xs) (kept_first k marks b others)
    ∙ one_more k a b marks weight weights ones others h j (λ p q. common_kept marks weights ones others (omega (arith, l)) p q)
    ∙ ap (λ n. (if a && b then weight else 0) + n) (sym (common_next 0 weights a b ones others))

-- ---- of all pairs of fields

map_twice : {X Y Z : Type 0} (g : X → Y) (h : Y → Z) (k : X → Z) → ((x : X) → h (g x) ≡ k x) → (xs : List X) → map h (map g xs) ≡ map k xs
map_twice g h k e [] = refl
map_twice g h k e (x ∷ xs) = ap (λ z. z ∷ map h (map g xs)) (e x) ∙ ap (λ zs. k x ∷ zs) (map_twice g h k e xs)

all_length : (marks : List Bool) (all : List Access) → length (fold marked_group marks all) ≡ length marks
all_length marks [] = refl
all_length marks (a ∷ more) = all_length (marked_group marks a) more ∙ set_length marks a.group

module _ (weights : List ℕ) (of : ℕ) (all : List Access) (marks : List Bool) (h : marks ≡ touched_at_all (length weights) all) where
  abbrev column : (field : ℕ) → List Bool
  column f = kept 0 marks (touched of f (length marks) all)

  marks_length : length marks ≡ length weights
  marks_length = ap length h ∙ all_length (replicate (length weights) false) all ∙ length-replicate (length weights) false

  column_under : (field : ℕ) → Under (touched of field (length marks) all) marks
  column_under f = subst (λ n. Under (touched of f n all) marks) (sym marks_length)
      (subst (λ them. Under (touched of f (length weights) all) them) (sym h)
      (under of f all (replicate (length weights) false) (replicate (length weights) false) (under_none (length weights))))

  of_two : (one other : ℕ) → common 0 (kept 0 marks weights) (column one) (column other) ≡ affinity weights of one other all
  of_two f g = common_kept marks weights (touched of f (length marks) all) (touched of g (length marks) all) marks_length (column_under f) (column_under g)
      ∙ ap (λ n. common 0 weights (touched of f n all) (touched of g n all)) marks_length ∙ common_is_affinity weights of f g all

  pub rows_are : (count : ℕ) → map (λ one. map (λ other. common 0 (kept 0 marks weights) one other) (map column (numbers_below count)))
      (map column (numbers_below count)) ≡ map (λ f. map (λ g. affinity weights of f g all) (numbers_below count)) (numbers_below count)
  rows_are count = map_twice column (λ one. map (λ other. common 0 (kept 0 marks weights) one other) (map column (numbers_below count)))
      (λ f. map (λ g. affinity weights of f g all) (numbers_below count))
      (λ f. map_twice column (λ other. common 0 (kept 0 marks weights) (column f) other) (λ g. affinity weights of f g all) (λ g. of_two f g)
      (numbers_below count))
      (numbers_below count)
