-- The order of functions: it is strict, and what a sort by file, place and number gives.
use Rattle.std.proofs.Common.{Ordering, length, suc, ◌≡◌, ℕ, ◌<◌, ◌≤◌, ◌+◌, Bool, true, false, List, [], ◌∷◌, refl, sym, ap, ◌∙◌, arith, nat_lt}
use Rattle.std.specs.Prelude.{if◌then◌else◌, is_some}
use Rattle.std.specs.List.{AllByRecursion}
use Rattle.std.specs.List.Sorted.{IsPermutation, IsSortedBy}
use Rattle.std.specs.Prelude.{slice_index_or, cond, ◌==◌, ◌&&◌, ◌||◌}
use Rattle.std.specs.List.{sum_by}
use Rattle.std.specs.Cmp.{IsStrictWeakOrder}
use Rattle.std.specs.Ordering.{is_lt, nat_cmp, ordering_then}
use Rattle.std.specs.declared.cmp.Ordering.TheVariants.{Less, Equal, Greater}
use Rattle.std.proofs.lemmas.Bool.Decides.{nat_tests}
use Rattle.std.proofs.lemmas.List.Sums.{sum_by-cons}
use Rattle.std.proofs.lemmas.List.Sorted.{IsPermutation-refl, IsPermutation-cons, IsPermutation-trans, sorted_far, sum_by-IsPermutation}
use Rattle.c_typed.specs.declared.run_counts.order.Defined.{Defined}
use Rattle.c_typed.specs.RunCounts.Order.{is_less_or, stands_before, put_in_order, in_order, defined_from, defined_in, profile_order, Ascends, IsProfileOrder}
use Rattle.c_typed.specs.Programs.{FunctionData, ProgramData}

false_is_true : false ≡ true → ⊥
false_is_true h = cc

-- ---- by a number, and then by what comes later

less_or_itself : (a : ℕ) (p : Bool) → p ≡ false → is_less_or a a p ≡ false
less_or_itself a p e = grind (arith, nat_tests)

less_or_trans : (a b c : ℕ) (p q r : Bool) → (p ≡ true → q ≡ true → r ≡ true) → is_less_or a b p ≡ true → is_less_or b c q ≡ true → is_less_or a c r ≡ true
less_or_trans a b c p q r h e f = grind (arith, nat_tests)

not_less_or_trans : (a b c : ℕ) (p q r : Bool) → (p ≡ false → q ≡ false → r ≡ false) → is_less_or a b p ≡ false → is_less_or b c q ≡ false → is_less_or a c r ≡ false
not_less_or_trans a b c p q r h e f = grind (arith, nat_tests)

less_or_total : (a b : ℕ) (p q : Bool) → (p ≡ false → q ≡ true) → is_less_or a b p ≡ false → is_less_or b a q ≡ true
less_or_total a b p q h e = grind (arith, nat_tests)

less_itself : (a : ℕ) → nat_lt a a ≡ false
less_itself a = grind (arith, nat_tests)

less_trans : (a b c : ℕ) → nat_lt a b ≡ true → nat_lt b c ≡ true → nat_lt a c ≡ true
less_trans a b c e f = grind (arith, nat_tests)

not_less_trans : (a b c : ℕ) → nat_lt a b ≡ false → nat_lt b c ≡ false → nat_lt a c ≡ false
not_less_trans a b c e f = grind (arith, nat_tests)

less_total : (a b : ℕ) → a < b → nat_lt a b ≡ false → nat_lt b a ≡ true
less_total a b lt e = grind (arith, nat_tests)

-- ---- the order of two

not_itself : (x : Defined) → stands_before x x ≡ false
not_itself x = less_or_itself x.place.file _ (less_or_itself x.place.at _ (less_itself x.number))

chain : (x y z : Defined) → stands_before x y ≡ true → stands_before y z ≡ true → stands_before x z ≡ true
chain x y z = less_or_trans x.place.file y.place.file z.place.file _ _ _
    (less_or_trans x.place.at y.place.at z.place.at _ _ _ (less_trans x.number y.number z.number))

not_chain : (x y z : Defined) → stands_before x y ≡ false → stands_before y z ≡ false → stands_before x z ≡ false
not_chain x y z = not_less_or_trans x.place.file y.place.file z.place.file _ _ _
    (not_less_or_trans x.place.at y.place.at z.place.at _ _ _ (not_less_trans x.number y.number z.number))

total : (x y : Defined) → x.number < y.number → stands_before x y ≡ false → stands_before y x ≡ true
total x y lt = less_or_total x.place.file y.place.file _ _ (less_or_total x.place.at y.place.at _ _ (less_total x.number y.number lt))

one_way : (x y : Defined) → stands_before x y ≡ true → stands_before y x ≡ false
one_way x y e = go (stands_before y x) refl
  where
    go : (b : Bool) → stands_before y x ≡ b → b ≡ false
    go true f = absurd (false_is_true (sym (not_itself x) ∙ chain x y x e f))
    go false f = refl

-- ---- of each

pub all_mapped : (P Q : Defined → Type 0) → ((x : Defined) → P x → Q x) → (xs : List Defined) → AllByRecursion P xs → AllByRecursion Q xs
all_mapped P Q f [] h = tt
all_mapped P Q f (x ∷ xs) h = (f x h.0, all_mapped P Q f xs h.1)

all_put : (P : Defined → Type 0) (x : Defined) (ys : List Defined) → P x → AllByRecursion P ys → AllByRecursion P (put_in_order x ys)
all_put P x [] h all = (h, tt)
all_put P x (y ∷ more) h all = go (stands_before x y) (all_put P x more h all.1)
  where
    go : (b : Bool) → AllByRecursion P (put_in_order x more) → AllByRecursion P (if b then x ∷ y ∷ more else y ∷ put_in_order x more)
    go true later = (h, all)
    go false later = (all.0, later)

pub all_in_order : (P : Defined → Type 0) (xs : List Defined) → AllByRecursion P xs → AllByRecursion P (in_order xs)
all_in_order P [] h = tt
all_in_order P (x ∷ more) h = all_put P x (in_order more) h.0 (all_in_order P more h.1)

-- ---- lists with greater numbers ascend where they are put

abbrev Below : Defined → List Defined → Type 0
Below x ys = AllByRecursion (λ y. x.number < y.number) ys

ascends_put : (x : Defined) (ys : List Defined) → Below x ys → Ascends ys → Ascends (put_in_order x ys)
ascends_put x [] below up = (tt, tt)
ascends_put x (y ∷ more) below up = go (stands_before x y) refl (ascends_put x more below.1 up.1)
  where
    go : (b : Bool) → stands_before x y ≡ b → Ascends (put_in_order x more) → Ascends (if b then x ∷ y ∷ more else y ∷ put_in_order x more)
    go true e later = ((e, all_mapped (λ z. stands_before y z ≡ true) (λ z. stands_before x z ≡ true) (λ z. chain x y z e) more up.0), up)
    go false e later = (all_put (λ z. stands_before y z ≡ true) x more (total x y below.0 e) up.0, later)

-- each list with its numbers in order
abbrev Numbered : List Defined → Type 0
Numbered [] = Unit {0}
Numbered (x ∷ more) = Below x more × Numbered more

from_k : (k : ℕ) (fs : List FunctionData) → AllByRecursion (λ y. k ≤ y.number) (defined_from k fs)
from_k k [] = tt
from_k k (f ∷ more) = go (is_some f.body) (all_mapped (λ y. k + 1 ≤ y.number) (λ y. k ≤ y.number) (λ y le. omega arith) (defined_from (k + 1) more) (from_k (k + 1) more))
  where
    go : (b : Bool) → AllByRecursion (λ y. k ≤ y.number) (defined_from (k + 1) more)
        → AllByRecursion (λ y. k ≤ y.number) (if b then record { number = k; place = f.place } ∷ defined_from (k + 1) more else defined_from (k + 1) more)
    go true later = (omega arith, later)
    go false later = later

numbered_from_k : (k : ℕ) (fs : List FunctionData) → Numbered (defined_from k fs)
numbered_from_k k [] = tt
numbered_from_k k (f ∷ more) = go (is_some f.body) (numbered_from_k (k + 1) more)
  where
    go : (b : Bool) → Numbered (defined_from (k + 1) more)
        → Numbered (if b then record { number = k; place = f.place } ∷ defined_from (k + 1) more else defined_from (k + 1) more)
    go true later = (all_mapped (λ y. k + 1 ≤ y.number) (λ y. k < y.number) (λ y le. omega arith) (defined_from (k + 1) more) (from_k (k + 1) more), later)
    go false later = later

ascends_in_order : (xs : List Defined) → Numbered xs → Ascends (in_order xs)
ascends_in_order [] h = tt
ascends_in_order (x ∷ more) h = ascends_put x (in_order more) (all_in_order (λ y. x.number < y.number) more h.0) (ascends_in_order more h.1)

pub order_ascends : (p : ProgramData) → Ascends (profile_order p)
order_ascends p = ascends_in_order (defined_in p) (numbered_from_k 0 p.functions)

-- ---- it has the same functions

swapped : (x y : Defined) (more : List Defined) → IsPermutation (x ∷ y ∷ more) (y ∷ x ∷ more)
swapped x y more = record { moves = (0, 1) ∷ []; below = (omega arith, omega arith, tt); is = refl }

permutation_put : (x : Defined) (ys : List Defined) → IsPermutation (x ∷ ys) (put_in_order x ys)
permutation_put x [] = IsPermutation-refl (x ∷ [])
permutation_put x (y ∷ more) = go (stands_before x y) (permutation_put x more)
  where
    go : (b : Bool) → IsPermutation (x ∷ more) (put_in_order x more) → IsPermutation (x ∷ y ∷ more) (if b then x ∷ y ∷ more else y ∷ put_in_order x more)
    go true later = IsPermutation-refl (x ∷ y ∷ more)
    go false later = IsPermutation-trans (x ∷ y ∷ more) (y ∷ x ∷ more) (y ∷ put_in_order x more) (swapped x y more)
        (IsPermutation-cons y (x ∷ more) (put_in_order x more) later)

permutation_in_order : (xs : List Defined) → IsPermutation xs (in_order xs)
permutation_in_order [] = IsPermutation-refl []
permutation_in_order (x ∷ more) = IsPermutation-trans (x ∷ more) (x ∷ in_order more) (put_in_order x (in_order more))
    (IsPermutation-cons x more (in_order more) (permutation_in_order more)) (permutation_put x (in_order more))

pub is_profile_order : (p : ProgramData) → IsProfileOrder p (profile_order p)
is_profile_order p = record { permutation = permutation_in_order (defined_in p); ascends = order_ascends p }

-- ---- what a sort by the three numbers gives

-- each is not before one that stands earlier
abbrev pub Rises : List Defined → Type 0
Rises [] = Unit {0}
Rises (x ∷ more) = AllByRecursion (λ y. stands_before y x ≡ false) more × Rises more

weak : IsStrictWeakOrder stands_before
weak = record { one_way = one_way; chain = not_chain }

by_numbers : (a b c d : ℕ) (o : Ordering) → is_lt (ordering_then (ordering_then (nat_cmp a b) (nat_cmp c d)) o) ≡ is_less_or a b (is_less_or c d (is_lt o))
by_numbers a b c d o = go (nat_lt a b) (a == b) (nat_lt c d) (c == d)
  where
    go : (l e m f : Bool) → is_lt (ordering_then (ordering_then (cond l Less (cond e Equal Greater)) (cond m Less (cond f Equal Greater))) o)
        ≡ (l || (e && (m || (f && is_lt o))))
    go true e m f = refl
    go false true true f = refl
    go false true false true = refl
    go false true false false = refl
    go false false m f = refl

by_number : (a b : ℕ) → is_lt (nat_cmp a b) ≡ nat_lt a b
by_number a b = go (nat_lt a b) (a == b)
  where
    go : (l e : Bool) → is_lt (cond l Less (cond e Equal Greater)) ≡ l
    go true e = refl
    go false true = refl
    go false false = refl

pub key_order : (x y : Defined)
    → is_lt (ordering_then (ordering_then (nat_cmp x.place.file y.place.file) (nat_cmp x.place.at y.place.at)) (nat_cmp x.number y.number)) ≡ stands_before x y
key_order x y =
    by_numbers x.place.file y.place.file x.place.at y.place.at (nat_cmp x.number y.number)
    ∙ ap (λ q. is_less_or x.place.file y.place.file (is_less_or x.place.at y.place.at q)) (by_number x.number y.number)

all_at : (P : Defined → Type 0) (ys : List Defined) → ((j : ℕ) (d : Defined) → j < length ys → P (slice_index_or ys j d)) → AllByRecursion P ys
all_at P [] h = tt
all_at P (y ∷ more) h = (h 0 y (omega arith), all_at P more (λ j d lt. h (suc j) d (omega arith)))

rises_far : (ys : List Defined) → ((i j : ℕ) (d : Defined) → i ≤ j → j < length ys → stands_before (slice_index_or ys j d) (slice_index_or ys i d) ≡ false) → Rises ys
rises_far [] h = tt
rises_far (y ∷ more) h = (
  all_at (λ z. stands_before z y ≡ false) more (λ j d lt. h 0 (suc j) d (omega arith) (omega arith)),
  rises_far more (λ i j d le lt. h (suc i) (suc j) d (omega arith) (omega arith)),
)

pub rises : (ys : List Defined) → IsSortedBy stands_before ys → Rises ys
rises ys up = rises_far ys (λ i j d le lt. sorted_far stands_before weak ys up i j d le lt)

-- 1 where neither stands before the other
abbrev one_at : Defined → Defined → ℕ
one_at c x = if stands_before c x then 0 else (if stands_before x c then 0 else 1)

-- how many of a list stand neither before c nor behind it
abbrev at : Defined → List Defined → ℕ
at c [] = 0
at c (x ∷ more) = one_at c x + at c more

at_is_sum : (c : Defined) (xs : List Defined) → at c xs ≡ sum_by (one_at c) xs
at_is_sum c [] = refl
at_is_sum c (x ∷ more) = ap (λ n. one_at c x + n) (at_is_sum c more) ∙ sym (sum_by-cons (one_at c) x more)

one_itself : (x : Defined) → one_at x x ≡ 1
one_itself x = rw (not_itself x) refl

none_at : (c : Defined) (xs : List Defined) → AllByRecursion (λ x. stands_before c x ≡ true) xs → at c xs ≡ 0
none_at c [] all = refl
none_at c (x ∷ more) all = rw (all.0, none_at c more all.1) refl

-- in a list that rises, none is at a function that stands before the first one
none_rising : (x y : Defined) (ys : List Defined) → stands_before x y ≡ true → Rises (y ∷ ys) → at x (y ∷ ys) ≡ 0
none_rising x y ys e up = none_at x (y ∷ ys) (e, all_mapped (λ z. stands_before z y ≡ false) (λ z. stands_before x z ≡ true) behind ys up.0)
  where
    behind : (z : Defined) → stands_before z y ≡ false → stands_before x z ≡ true
    behind z f = go (stands_before x z) refl
      where
        go : (b : Bool) → stands_before x z ≡ b → b ≡ true
        go true g = refl
        go false g = absurd (false_is_true (sym (not_chain x z y g f) ∙ e))

none_ascending : (x y : Defined) (ys : List Defined) → stands_before x y ≡ true → Ascends (y ∷ ys) → at x (y ∷ ys) ≡ 0
none_ascending x y ys e up = none_at x (y ∷ ys) (e, all_mapped (λ z. stands_before y z ≡ true) (λ z. stands_before x z ≡ true) (λ z. chain x y z e) ys up.0)

some_at : (x : Defined) (xs : List Defined) → at x (x ∷ xs) ≡ 0 → ⊥
some_at x xs e = let one = one_itself x in omega arith

same_number : (x y : Defined) → stands_before x y ≡ false → stands_before y x ≡ false → x ≡ y
same_number x y e f =
    let file : x.place.file ≡ y.place.file = grind (arith, nat_tests) in
    let at_byte : x.place.at ≡ y.place.at = grind (arith, nat_tests) in
    let number : x.number ≡ y.number = grind (arith, nat_tests) in
    made number file at_byte
  where
    built : ℕ → ℕ → ℕ → Defined
    built n f a = record { number = n; place = record { file = f; at = a } }

    made : x.number ≡ y.number → x.place.file ≡ y.place.file → x.place.at ≡ y.place.at
        → built x.number x.place.file x.place.at ≡ built y.number y.place.file y.place.at
    made n f a = rw (n, f, a) refl

pub only_order : (xs ys : List Defined) → Ascends xs → Rises ys → ((c : Defined) → at c ys ≡ at c xs) → ys ≡ xs
only_order [] [] up rise same = refl
only_order [] (y ∷ ys) up rise same = absurd (some_at y ys (same y))
only_order (x ∷ xs) [] up rise same = absurd (some_at x xs (sym (same x)))
only_order (x ∷ xs) (y ∷ ys) up rise same = go (stands_before x y) (stands_before y x) refl refl (only_order xs ys up.1 rise.1)
  where
    go : (b c : Bool) → stands_before x y ≡ b → stands_before y x ≡ c → (((c : Defined) → at c ys ≡ at c xs) → ys ≡ xs) → y ∷ ys ≡ x ∷ xs
    go true c e f later = absurd (some_at x xs (sym (same x) ∙ none_rising x y ys e rise))
    go false true e f later = absurd (some_at y ys (same y ∙ none_ascending y x xs f up))
    go false false e f later =
        let is : x ≡ y = same_number x y e f in
        let rest : (c : Defined) → at c ys ≡ at c xs = λ c. let all = same c in let one = ap (one_at c) is in omega arith in
        rw (is, later rest) refl

pub sorted_is_order : (p : ProgramData) (ys : List Defined) → IsPermutation (defined_in p) ys → IsSortedBy stands_before ys → ys ≡ profile_order p
sorted_is_order p ys moved up = only_order (profile_order p) ys (order_ascends p) (rises ys up)
    (λ c. at_is_sum c ys ∙ sum_by-IsPermutation (one_at c) (defined_in p) ys moved
    ∙ sym (at_is_sum c (profile_order p) ∙ sum_by-IsPermutation (one_at c) (defined_in p) (profile_order p) (permutation_in_order (defined_in p))))
