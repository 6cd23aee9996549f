-- The least number that is found is that of the open structure whose tag stands first.
use Rattle.std.proofs.Common.{◌≡◌, ℕ, zero, suc, ◌≤◌, ◌==◌, Bool, true, false, ◌||◌, List, [], ◌∷◌, ◌++◌, Option, Some, None, All, fold, map, flat_map, get_or}
use Rattle.std.proofs.Common.{length, refl, sym, ap, ◌∙◌, subst, arith}
use Rattle.std.specs.Prelude.{if◌then◌else◌, nat_le, nat_lt, filter, MatchOption}
use Rattle.std.specs.List.{list_any}
use Rattle.std.proofs.lemmas.Bool.{eq-eqb, ltb-false, ltb-true}
use Rattle.std.proofs.lemmas.List.Elements.{All-cons, All-head, All-nil, All-tail}
use Rattle.std.proofs.lemmas.List.Sums.{fold-append}
use Rattle.std.proofs.Math.ListN.{get_or-map}
use Rattle.c_types.specs.Types.{CType, void}
use Rattle.c_typed.specs.Programs.{ProgramData}
use Rattle.c_link.specs.Gaps.{IsLeast, held_types, open_structures, structures_in}
use Rattle.c_link.specs.Missing.{have_none, least_among, least_in, lesser, lesser_at, lesser_if_any, lesser_of}

false_is_true : false ≡ true → ⊥
false_is_true h = cc

-- ---- the lesser of two, one after another

lesser_twice : (best : Option ℕ) (m n : ℕ) → lesser_of (lesser_of best m) n ≡ lesser_if_any best (lesser_of (Some m) n)
lesser_twice None m n = go (nat_lt n m)
  where
    go : (b : Bool) → (if b then Some n else Some m) ≡ lesser_if_any None (if b then Some n else Some m)
    go true = refl
    go false = refl
lesser_twice (Some k) m n =
    go (nat_lt m k) (nat_lt n m) (nat_lt n k) refl refl refl
  where
    go : (a b c : Bool) → nat_lt m k ≡ a → nat_lt n m ≡ b → nat_lt n k ≡ c
        → lesser_of (if a then Some m else Some k) n ≡ lesser_if_any (Some k) (if b then Some n else Some m)
    go true true true e f g = ap (λ x. if x then Some n else Some m) f ∙ sym (ap (λ x. if x then Some n else Some k) g)
    go true false c e f g = ap (λ x. if x then Some n else Some m) f ∙ sym (ap (λ x. if x then Some m else Some k) e)
    go true true false e f g = let p = ltb-true m k e in let q = ltb-true n m f in let r = ltb-false n k g in absurd (omega (arith, p, q, r))
    go false true c e f g = refl
    go false false true e f g = let p = ltb-false m k e in let q = ltb-false n m f in let r = ltb-true n k g in absurd (omega (arith, p, q, r))
    go false false false e f g = ap (λ x. if x then Some n else Some k) g ∙ sym (ap (λ x. if x then Some m else Some k) e)

joined : (count : ℕ) (best other : Option ℕ) (n : ℕ) → lesser count (lesser_if_any best other) n ≡ lesser_if_any best (lesser count other n)
joined count best other n =
    go (nat_le count n) other
  where
    go : (b : Bool) (other : Option ℕ) → (if b then lesser_of (lesser_if_any best other) n else lesser_if_any best other)
        ≡ lesser_if_any best (if b then lesser_of other n else other)
    go true None = refl
    go true (Some m) = lesser_twice best m n
    go false other = refl

all_joined : (count : ℕ) (best other : Option ℕ) (all : List ℕ) → least_among count (lesser_if_any best other) all ≡ lesser_if_any best (least_among count other all)
all_joined count best other [] = refl
all_joined count best other (n ∷ more) =
    ap (λ o. least_among count o more) (joined count best other n) ∙ all_joined count best (lesser count other n) more

pub least_append : (count : ℕ) (best : Option ℕ) (xs ys : List ℕ) → least_among count best (xs ++ ys) ≡ least_among count (least_among count best xs) ys
least_append count best xs ys = fold-append (lesser count) best xs ys

-- the numbers of types, each by the least of its type
pub by_numbers : (count : ℕ) (types : List CType) (best : Option ℕ) (numbers : List ℕ)
    → fold (lesser_at (map (least_in count) types)) best numbers ≡ least_among count best (flat_map structures_in (map (λ i. get_or types i void) numbers))
by_numbers count types best [] = refl
by_numbers count types best (i ∷ more) =
    let t = get_or types i void in
    let e : lesser_at (map (least_in count) types) best i ≡ least_among count best (structures_in t) =
    ap (lesser_if_any best) (get_or-map (least_in count) types i void) ∙ sym (all_joined count best None (structures_in t)) in
    by_numbers count types (lesser_at (map (least_in count) types) best i) more
    ∙ ap (λ o. least_among count o (flat_map structures_in (map (λ i. get_or types i void) more))) e
    ∙ sym (fold-append (lesser count) best (structures_in t) (flat_map structures_in (map (λ i. get_or types i void) more)))

none_at : (leasts : List (Option ℕ)) → have_none leasts ≡ true → (i : ℕ) → get_or leasts i None ≡ None
none_at [] h i = refl
none_at (None ∷ more) h zero = refl
none_at (None ∷ more) h (suc i) = none_at more h i
none_at (Some n ∷ more) h i = absurd (false_is_true h)

-- where no type has an open structure, no number has
pub none_lesser : (leasts : List (Option ℕ)) (best : Option ℕ) (numbers : List ℕ) → have_none leasts ≡ true → best ≡ fold (lesser_at leasts) best numbers
none_lesser leasts best [] h = refl
none_lesser leasts best (i ∷ more) h =
    none_lesser leasts best more h ∙ ap (λ o. fold (lesser_at leasts) (lesser_if_any best o) more) (sym (none_at leasts h i))

-- ---- what the least is

abbrev opens : ℕ → List ℕ → List ℕ
opens count all = filter (λ r. nat_le count r) all

same : (n : ℕ) → (n == n) ≡ true
same n = eq-eqb n n refl

all_more : (r n : ℕ) (all : List ℕ) → All (λ m. n ≤ m) all → r ≤ n → All (λ m. r ≤ m) all
all_more r n [] h k = All-nil (λ m. r ≤ m)
all_more r n (m ∷ more) h k =
    let a : n ≤ m = All-head (λ m. n ≤ m) m more h in
    All-cons (λ m. r ≤ m) m more (omega (arith, a, k)) (all_more r n more (All-tail (λ m. n ≤ m) m more h) k)

abbrev least_of : (all : List ℕ) → Option ℕ → Type 0
least_of all None = all ≡ []
least_of all (Some r) = IsLeast all r

-- one more in front
with_one : (n : ℕ) (all : List ℕ) (o : Option ℕ) → least_of all o → (m : ℕ) × (lesser_if_any (Some n) o ≡ Some m) × IsLeast (n ∷ all) m
with_one n all None h = (
  n,
  refl,
  (
    ap (λ b. b || list_any (λ m. m == n) all) (same n),
    All-cons (λ m. n ≤ m) n all (omega arith)
        (subst (All (λ m. n ≤ m)) (sym h) (All-nil (λ m. n ≤ m))),
  ),
)
with_one n all (Some r) h =
    go (nat_lt r n) refl
  where
    or_right : (a b : Bool) → b ≡ true → (a || b) ≡ true
    or_right true b e = refl
    or_right false b e = e

    go : (b : Bool) → nat_lt r n ≡ b → (m : ℕ) × ((if b then Some r else Some n) ≡ Some m) × IsLeast (n ∷ all) m
    go true e = let k = ltb-true r n e in (r, refl, (or_right (n == r) (list_any (λ m. m == r) all) h.0, All-cons (λ m. r ≤ m) n all (omega (arith, k)) h.1))
    go false e = let k : n ≤ r = ltb-false r n e in
        (n, refl, (ap (λ b. b || list_any (λ m. m == n) all) (same n), All-cons (λ m. n ≤ m) n all (omega arith) (all_more n r all h.1 k)))

least_is : (count : ℕ) (all : List ℕ) → least_of (opens count all) (least_among count None all)
least_is count [] = refl
least_is count (n ∷ more) =
    go (nat_le count n) (least_is count more)
  where
    go : (b : Bool) → least_of (opens count more) (least_among count None more)
        → least_of (if b then n ∷ opens count more else opens count more) (least_among count (if b then Some n else None) more)
    go true h =
        let w = with_one n (opens count more) (least_among count None more) h in
        subst (least_of (n ∷ opens count more)) (sym (all_joined count (Some n) None more ∙ w.1)) w.2
    go false h = h

pub open_or_none : (p : ProgramData) (count : ℕ) (o : Option ℕ) → o ≡ least_among count None (flat_map structures_in (held_types p)) → count ≡ length p.records
    → MatchOption o (open_structures p ≡ []) (λ r. IsLeast (open_structures p) r)
open_or_none p count o h e =
    let all = flat_map structures_in (held_types p) in
    let k : least_of (opens (length p.records) all) (least_among (length p.records) None all) = least_is (length p.records) all in
    go o (subst (least_of (opens (length p.records) all)) (ap (λ c. least_among c None all) (sym e) ∙ sym h) k)
  where
    go : (o : Option ℕ) → least_of (open_structures p) o → MatchOption o (open_structures p ≡ []) (λ r. IsLeast (open_structures p) r)
    go None h = h
    go (Some r) h = h
