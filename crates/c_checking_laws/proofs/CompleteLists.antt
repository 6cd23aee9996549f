-- From the order of the text: what stands in a part is what comes next in the lists of the whole file.
use Rattle.std.proofs.Common.{◌≡◌, ℕ, zero, suc, ◌+◌, ◌≤◌, ◌<◌, true, false, List, [], ◌∷◌, ◌++◌, drop, length, length-append, append_assoc}
use Rattle.std.proofs.Common.{refl, sym}
use Rattle.std.proofs.Common.{ap, ◌∙◌, subst, cond, arith}
use Rattle.std.proofs.lemmas.Bool.Decides.{nat_tests}
use Rattle.std.specs.Prelude.{nat_lt, map, Some, slice_get}
use Rattle.std.specs.List.{AllByRecursion}
use Rattle.c_types.specs.Types.{Record}
use Rattle.c_erasure.specs.Scopes.{Bound, Tag, AnObject, FileScope, ended}
use Rattle.c_checking_laws.proofs.CompleteNodes.{some, some_is}
use Rattle.c_checking_laws.proofs.CompleteWalk.{Event, a_use, a_look, a_tag, an_end, a_name, a_literal, IsTagOf, Follows}
use Rattle.c_checking_laws.proofs.CompleteOrder.{AreInOrder, order_earlier}

-- ---- what a part adds to each list

abbrev pub froms_of : List Event → List ℕ
froms_of [] = []
froms_of (a_name from ∷ all) = from ∷ froms_of all
froms_of (e ∷ all) = froms_of all

abbrev pub rights_of : List Event → List ℕ
rights_of [] = []
rights_of (an_end tag right ∷ all) = right ∷ rights_of all
rights_of (e ∷ all) = rights_of all

abbrev pub defined_by : List Event → List (List ℕ)
defined_by [] = []
defined_by (an_end tag right ∷ all) = tag ∷ defined_by all
defined_by (e ∷ all) = defined_by all

abbrev pub tags_of : List Event → List Tag
tags_of [] = []
tags_of (a_tag t ∷ all) = t ∷ tags_of all
tags_of (e ∷ all) = tags_of all

abbrev pub made_at : List Event → List ℕ
made_at [] = []
made_at (a_literal at ∷ all) = at ∷ made_at all
made_at (e ∷ all) = made_at all

-- ---- lists

AreFrom : ℕ → List ℕ → Type 0
AreFrom low all = AllByRecursion (λ m. low ≤ m) all

first_same : {X : Type 0} (x y : X) (xs ys : List X) → (x ∷ xs) ≡ (y ∷ ys) → x ≡ y
first_same x y xs ys h = cc

rest_same : {X : Type 0} (x y : X) (xs ys : List X) → (x ∷ xs) ≡ (y ∷ ys) → xs ≡ ys
rest_same x y xs ys h = cc

-- what comes next in a list
pub record IsNext {X Y : Type 0} (f : X → Y) (xs : List X) (n : ℕ) (y : Y) (ys : List Y) : Type 0 where
  pub element : X
  pub there : slice_get xs n ≡ Some element
  pub same : f element ≡ y
  pub rest : map f (drop (suc n) xs) ≡ ys

next_of : {X Y : Type 0} (f : X → Y) (xs : List X) (n : ℕ) (y : Y) (ys : List Y) → map f (drop n xs) ≡ y ∷ ys → IsNext f xs n y ys
next_of f [] zero y ys h = cc
next_of f [] (suc n) y ys h = cc
next_of f (x ∷ xs) zero y ys h = record {
  element = x;
  there = refl;
  same = first_same (f x) y (map f xs) ys h;
  rest = rest_same (f x) y (map f xs) ys h;
}
next_of f (x ∷ xs) (suc n) y ys h =
    let z = next_of f xs n y ys h in record { element = z.element; there = z.there; same = z.same; rest = z.rest }

mapped_at : {X Y : Type 0} (f : X → Y) (xs : List X) (k : ℕ) (x : X) → slice_get xs k ≡ Some x → slice_get (map f xs) k ≡ Some (f x)
mapped_at f [] k x h = cc
mapped_at f (y ∷ xs) zero x h = ap (λ y. some (f y)) (some_is y x h)
mapped_at f (y ∷ xs) (suc k) x h = mapped_at f xs k x h

behind_drop : {X Y : Type 0} (f : X → Y) (xs : List X) (n k m : ℕ) (x : X) → m ≡ n + k → slice_get xs m ≡ Some x → slice_get (map f (drop n xs)) k ≡ Some (f x)
behind_drop f [] n k m x e h = cc
behind_drop f (y ∷ xs) zero k m x e h =
    let q : m ≡ k = omega (arith, e) in mapped_at f (y ∷ xs) k x (subst (λ m. slice_get (y ∷ xs) m ≡ Some x) q h)
behind_drop f (y ∷ xs) (suc n) k zero x e h = absurd (omega (arith, e))
behind_drop f (y ∷ xs) (suc n) k (suc m) x e h = behind_drop f xs n k m x (omega (arith, e)) h

all_from : (low : ℕ) (all : List ℕ) → AreFrom low all → (k m : ℕ) → slice_get all k ≡ Some m → low ≤ m
unfolding AreFrom
all_from low [] a k m h = cc
all_from low (x ∷ all) a zero m h = subst (λ m. low ≤ m) (some_is x m h) a.0
all_from low (x ∷ all) a (suc k) m h = all_from low all a.1 k m h

from_both : (low : ℕ) (a b : List ℕ) → AreFrom low a → AreFrom low b → AreFrom low (a ++ b)
unfolding AreFrom
from_both low [] b p q = q
from_both low (x ∷ a) b p q = (p.0, from_both low a b p.1 q)

from_lower : (low m : ℕ) (all : List ℕ) → low ≤ m → AreFrom m all → AreFrom low all
unfolding AreFrom
from_lower low m [] l a = tt
from_lower low m (x ∷ all) l a = let z = a.0 in (omega (arith, l, z), from_lower low m all l a.1)

-- ---- in order

AreBelow : ℕ → List ℕ → Type 0
AreBelow high all = AllByRecursion (λ m. m < high) all

below_higher : (high m : ℕ) (all : List ℕ) → high ≤ m → AreBelow high all → AreBelow m all
unfolding AreBelow
below_higher high m [] l a = tt
below_higher high m (x ∷ all) l a = let z = a.0 in (omega (arith, l, z), below_higher high m all l a.1)

below_one_more : (high : ℕ) (all : List ℕ) (x : ℕ) → AreBelow high all → x < high → AreBelow high (all ++ x ∷ [])
unfolding AreBelow
below_one_more high [] x a l = (l, tt)
below_one_more high (y ∷ all) x a l = (a.0, below_one_more high all x a.1 l)

low_high : (low : ℕ) (all : List Event) (high : ℕ) → AreInOrder low all high → low ≤ high
low_high low [] high h = h
low_high low (a_use at ∷ all) high h = let l = h.0 in let m = low_high (suc at) all high h.1 in omega (arith, l, m)
low_high low (a_look at ∷ all) high h = let l = h.0 in let m = low_high at all high h.1 in omega (arith, l, m)
low_high low (a_tag t ∷ all) high h = low_high low all high h
low_high low (an_end tag right ∷ all) high h = let l = h.0 in let m = low_high (suc right) all high h.1 in omega (arith, l, m)
low_high low (a_name from ∷ all) high h = let l = h.0 in let m = low_high (suc from) all high h.1 in omega (arith, l, m)
low_high low (a_literal at ∷ all) high h = let l = h.0 in let m = low_high at all high h.1 in omega (arith, l, m)

after_suc : (low at : ℕ) (all : List ℕ) → low ≤ at → AreFrom (suc at) all → AreFrom low all
after_suc low at all l a = from_lower low (suc at) all (omega (arith, l)) a

froms_in_order : (low : ℕ) (all : List Event) (high : ℕ) → AreInOrder low all high → AreFrom low (froms_of all)
unfolding AreFrom
froms_in_order low [] high h = tt
froms_in_order low (a_use at ∷ all) high h = after_suc low at (froms_of all) h.0 (froms_in_order (suc at) all high h.1)
froms_in_order low (a_look at ∷ all) high h = from_lower low at (froms_of all) h.0 (froms_in_order at all high h.1)
froms_in_order low (a_tag t ∷ all) high h = froms_in_order low all high h
froms_in_order low (an_end tag right ∷ all) high h = after_suc low right (froms_of all) h.0 (froms_in_order (suc right) all high h.1)
froms_in_order low (a_name from ∷ all) high h = (h.0, after_suc low from (froms_of all) h.0 (froms_in_order (suc from) all high h.1))
froms_in_order low (a_literal at ∷ all) high h = from_lower low at (froms_of all) h.0 (froms_in_order at all high h.1)

rights_in_order : (low : ℕ) (all : List Event) (high : ℕ) → AreInOrder low all high → AreFrom low (rights_of all)
unfolding AreFrom
rights_in_order low [] high h = tt
rights_in_order low (a_use at ∷ all) high h = after_suc low at (rights_of all) h.0 (rights_in_order (suc at) all high h.1)
rights_in_order low (a_look at ∷ all) high h = from_lower low at (rights_of all) h.0 (rights_in_order at all high h.1)
rights_in_order low (a_tag t ∷ all) high h = rights_in_order low all high h
rights_in_order low (an_end tag right ∷ all) high h = (h.0, after_suc low right (rights_of all) h.0 (rights_in_order (suc right) all high h.1))
rights_in_order low (a_name from ∷ all) high h = after_suc low from (rights_of all) h.0 (rights_in_order (suc from) all high h.1)
rights_in_order low (a_literal at ∷ all) high h = from_lower low at (rights_of all) h.0 (rights_in_order at all high h.1)

-- ---- how many definitions ended before a byte

is_before : (n m : ℕ) → n < m → nat_lt n m ≡ true
is_before n m h = grind (arith, nat_tests)

not_before : (n m : ℕ) → m ≤ n → nat_lt n m ≡ false
not_before n m h = grind (arith, nat_tests)

none_ended : (all : List ℕ) (at : ℕ) → AreFrom at all → ended all at ≡ 0
unfolding AreFrom
none_ended [] at a = refl
none_ended (x ∷ all) at a = rw (not_before x at a.0, none_ended all at a.1) refl

some_ended : (before all : List ℕ) (at : ℕ) → AreBelow at before → AreFrom at all → ended (before ++ all) at ≡ length before
unfolding AreBelow
some_ended [] all at b a = none_ended all at a
some_ended (x ∷ before) all at b a =
    let e = some_ended before all at b.1 a in
    ap (λ t. cond t 1 0 + ended (before ++ all) at) (is_before x at b.0) ∙ omega (arith, e)

-- ---- the lists of the whole file go on with what stands in the part; `high` is where the part ends

abbrev IsTagged : FileScope → Tag → Type 0
IsTagged g t = IsTagOf g t t.is_enumeration

pub record AreNext (g : FileScope) (n r o low : ℕ) (all : List Event) (high : ℕ) : Type 0 where
  pub in_order : AreInOrder low all high
  -- names, and those that begin to be in scope after the part
  pub later : List ℕ
  pub names : map (λ b. b.from) (drop n g.names) ≡ froms_of all ++ later
  pub names_later : AllByRecursion (λ m. high ≤ m) later
  -- the ends of structures before the part, in it and after it
  pub before : List ℕ
  pub after : List ℕ
  pub ends : g.ends ≡ before ++ (rights_of all ++ after)
  pub ended_before : length before ≡ r
  pub ends_before : AllByRecursion (λ m. m < low) before
  pub ends_after : AllByRecursion (λ m. high ≤ m) after
  pub records : (more : List (List ℕ)) × (map (λ x. x.tag) (drop r g.records) ≡ defined_by all ++ more)
  pub tags : AllByRecursion (λ t. IsTagged g t) (tags_of all)
  pub objects : (more : List ℕ) × (map (λ x. x.first) (drop o g.objects) ≡ made_at all ++ more)

-- behind what declares nothing
same_lists : (g : FileScope) (n r o low : ℕ) (e : Event) (all : List Event) (high m : ℕ) → low ≤ m → AreInOrder m all high → AreNext g n r o low (e ∷ all) high
    → froms_of (e ∷ all) ≡ froms_of all → rights_of (e ∷ all) ≡ rights_of all → defined_by (e ∷ all) ≡ defined_by all → tags_of (e ∷ all) ≡ tags_of all
    → made_at (e ∷ all) ≡ made_at all → AreNext g n r o m all high
unfolding AreBelow
same_lists g n r o low e all high m l i p a b c d f = record {
  in_order = i;
  later = p.later;
  names = p.names ∙ ap (λ z. z ++ p.later) a;
  names_later = p.names_later;
  before = p.before;
  after = p.after;
  ends = p.ends ∙ ap (λ z. p.before ++ (z ++ p.after)) b;
  ended_before = p.ended_before;
  ends_before = below_higher low m p.before l p.ends_before;
  ends_after = p.ends_after;
  records = (p.records.0, p.records.1 ∙ ap (λ z. z ++ p.records.0) c);
  tags = subst (λ z. AllByRecursion (λ t. IsTagged g t) z) d p.tags;
  objects = (p.objects.0, p.objects.1 ∙ ap (λ z. z ++ p.objects.0) f);
}

-- so many records are complete there
looked : (g : FileScope) (n r o low : ℕ) (e : Event) (all : List Event) (high at : ℕ) → AreNext g n r o low (e ∷ all) high → low ≤ at → AreInOrder at all high
    → rights_of (e ∷ all) ≡ rights_of all → ended g.ends at ≡ r
unfolding AreFrom AreBelow
looked g n r o low e all high at p l i q =
    let h = low_high at all high i in
    let from : AreFrom at (rights_of all ++ p.after) = from_both at (rights_of all) p.after (rights_in_order at all high i)
    (from_lower at high p.after h p.ends_after) in
    let before : AreBelow at p.before = below_higher low at p.before l p.ends_before in
    ap (λ all. ended all at) (p.ends ∙ ap (λ z. p.before ++ (z ++ p.after)) q) ∙ some_ended p.before (rights_of all ++ p.after) at before from ∙ p.ended_before

later_names : (g : FileScope) (n r o low : ℕ) (at : ℕ) (all : List Event) (high : ℕ) → AreNext g n r o low (a_use at ∷ all) high
    → (k : ℕ) (b : Bound) → slice_get g.names (n + k) ≡ Some b → at < b.from
unfolding AreFrom
later_names g n r o low at all high p k b h =
    let i = p.in_order.1 in
    let l = low_high (suc at) all high i in
    let from : AreFrom (suc at) (froms_of all ++ p.later) =
    from_both (suc at) (froms_of all) p.later (froms_in_order (suc at) all high i) (from_lower (suc at) high p.later l p.names_later) in
    let q = behind_drop (λ (b : Bound). b.from) g.names n k (n + k) b refl h in
    let m = all_from (suc at) (froms_of all ++ p.later) from k b.from (subst (λ all. slice_get all k ≡ Some b.from) p.names q) in
    omega (arith, m)

suc_later : (low at : ℕ) → low ≤ at → low ≤ suc at
suc_later low at l = omega (arith, l)

pub follows : (g : FileScope) (n r o low : ℕ) (all : List Event) (high : ℕ) → AreNext g n r o low all high → Follows g n r o all
unfolding AreBelow
follows g n r o low [] high p = tt
follows g n r o low (a_use at ∷ all) high p =
    let i = p.in_order in (
      (
        later_names g n r o low at all high p,
        looked g n r o low (a_use at) all high at p i.0 (order_earlier at (suc at) all high (omega arith) i.1) refl,
      ),
      follows g n r o (suc at) all high (same_lists g n r o low (a_use at) all high (suc at) (suc_later low at i.0) i.1 p refl refl refl refl refl),
    )
follows g n r o low (a_look at ∷ all) high p =
    let i = p.in_order in (
      looked g n r o low (a_look at) all high at p i.0 i.1 refl,
      follows g n r o at all high (same_lists g n r o low (a_look at) all high at i.0 i.1 p refl refl refl refl refl),
    )
follows g n r o low (a_tag t ∷ all) high p = (
  p.tags.0,
  follows g n r o low all high (record {
    in_order = p.in_order;
    later = p.later;
    names = p.names;
    names_later = p.names_later;
    before = p.before;
    after = p.after;
    ends = p.ends;
    ended_before = p.ended_before;
    ends_before = p.ends_before;
    ends_after = p.ends_after;
    records = p.records;
    tags = p.tags.1;
    objects = p.objects;
  }),
)
follows g n r o low (an_end tag right ∷ all) high p =
    let z = next_of (λ (x : Record). x.tag) g.records r tag (defined_by all ++ p.records.0) p.records.1 in
    let l = p.in_order.0 in
    let e = length-append p.before (right ∷ []) in
    let b = p.ended_before in (
      (z.element, z.there, z.same),
      follows g n (suc r) o (suc right) all high (record {
        in_order = p.in_order.1;
        later = p.later;
        names = p.names;
        names_later = p.names_later;
        before = p.before ++ right ∷ [];
        after = p.after;
        ends = p.ends ∙ sym (append_assoc p.before (right ∷ []) (rights_of all ++ p.after));
        ended_before = omega (arith, e, b);
        ends_before = below_one_more (suc right) p.before right (below_higher low (suc right) p.before (omega (arith, l)) p.ends_before) (omega arith);
        ends_after = p.ends_after;
        records = (p.records.0, z.rest);
        tags = p.tags;
        objects = p.objects;
      }),
    )
follows g n r o low (a_name from ∷ all) high p =
    let z = next_of (λ (b : Bound). b.from) g.names n from (froms_of all ++ p.later) p.names in
    let l = p.in_order.0 in (
      (z.element, z.there, z.same),
      follows g (suc n) r o (suc from) all high (record {
        in_order = p.in_order.1;
        later = p.later;
        names = z.rest;
        names_later = p.names_later;
        before = p.before;
        after = p.after;
        ends = p.ends;
        ended_before = p.ended_before;
        ends_before = below_higher low (suc from) p.before (omega (arith, l)) p.ends_before;
        ends_after = p.ends_after;
        records = p.records;
        tags = p.tags;
        objects = p.objects;
      }),
    )
follows g n r o low (a_literal at ∷ all) high p =
    let z = next_of (λ (x : AnObject). x.first) g.objects o at (made_at all ++ p.objects.0) p.objects.1 in
    let l = p.in_order.0 in (
      (z.element, z.there, z.same),
      follows g n r (suc o) at all high (record {
        in_order = p.in_order.1;
        later = p.later;
        names = p.names;
        names_later = p.names_later;
        before = p.before;
        after = p.after;
        ends = p.ends;
        ended_before = p.ended_before;
        ends_before = below_higher low at p.before l p.ends_before;
        ends_after = p.ends_after;
        records = p.records;
        tags = p.tags;
        objects = (p.objects.0, z.rest);
      }),
    )
