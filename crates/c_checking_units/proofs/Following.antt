-- Steps whose lists are those of the whole file, and which stand in their order, are what stands in the file.
use Rattle.std.proofs.Common.{◌≡◌, ℕ, zero, suc, ◌+◌, ◌≤◌, ◌<◌, true, false, List, [], ◌∷◌, ◌++◌, drop, length, length-append, append_assoc}
use Rattle.std.proofs.Common.{refl, sym, ap, ◌∙◌, subst, cond, arith}
use Rattle.std.proofs.lemmas.Bool.Decides.{nat_tests}
use Rattle.std.specs.Prelude.{Bool, Option, Some, None, map, slice_get, nat_lt}
use Rattle.std.specs.List.{AllByRecursion}
use Rattle.c_types.specs.Types.{Record}
use Rattle.c_erasure.specs.Scopes.{Bound, AnObject, AFunction, FileScope, Entity, typedef, enumerator, an_object, a_function, a_library_function, ended}
use Rattle.c_erasure.specs.Scopes.{a_local, a_parameter}
use Rattle.c_checking_laws.proofs.CompleteLists.{froms_of, rights_of, defined_by, made_at, AreNext, follows}
use Rattle.c_checking_laws.proofs.CompleteNodes.{some_is}
use Rattle.c_checking_laws.proofs.CompleteOrder.{AreInOrder}
use Rattle.c_checking_laws.proofs.CompleteWalk.{Event, a_use, a_look, a_tag, an_end, a_name, a_literal, IsAsked, names_in, ends_in, literals_in}
use Rattle.c_checking_units.proofs.Steps.{Step, events, a_declarator, an_own, a_body, own_objects, own_functions, IsNextOwn, AreBegun}
use Rattle.c_checking_units.proofs.Steps.{AreSteps}
use Rattle.c_checking_units.proofs.StepLists.{names_of, ends_of, defined_of, own_object, own_function, objects_of, functions_of}
use Rattle.c_checking_units.proofs.StepLists.{AreStepsTagged, AreStepsInRange, AreStepsInOrder}

-- ---- how many

names_counted : (all : List Event) → names_in all ≡ length (froms_of all)
names_counted [] = refl
names_counted (a_use at ∷ all) = names_counted all
names_counted (a_look at ∷ all) = names_counted all
names_counted (a_tag t ∷ all) = names_counted all
names_counted (an_end tag right ∷ all) = names_counted all
names_counted (a_name from ∷ all) = ap suc (names_counted all)
names_counted (a_literal at ∷ all) = names_counted all

pub ends_counted : (all : List Event) → ends_in all ≡ length (rights_of all)
ends_counted [] = refl
ends_counted (a_use at ∷ all) = ends_counted all
ends_counted (a_look at ∷ all) = ends_counted all
ends_counted (a_tag t ∷ all) = ends_counted all
ends_counted (an_end tag right ∷ all) = ap suc (ends_counted all)
ends_counted (a_name from ∷ all) = ends_counted all
ends_counted (a_literal at ∷ all) = ends_counted all

tags_counted : (all : List Event) → ends_in all ≡ length (defined_by all)
tags_counted [] = refl
tags_counted (a_use at ∷ all) = tags_counted all
tags_counted (a_look at ∷ all) = tags_counted all
tags_counted (a_tag t ∷ all) = tags_counted all
tags_counted (an_end tag right ∷ all) = ap suc (tags_counted all)
tags_counted (a_name from ∷ all) = tags_counted all
tags_counted (a_literal at ∷ all) = tags_counted all

literals_counted : (all : List Event) → literals_in all ≡ length (made_at all)
literals_counted [] = refl
literals_counted (a_use at ∷ all) = literals_counted all
literals_counted (a_look at ∷ all) = literals_counted all
literals_counted (a_tag t ∷ all) = literals_counted all
literals_counted (an_end tag right ∷ all) = literals_counted all
literals_counted (a_name from ∷ all) = literals_counted all
literals_counted (a_literal at ∷ all) = ap suc (literals_counted all)

objects_counted : (e : Option Entity) (first : Bool) (place : ℕ) → own_objects e first ≡ length (own_object e first place)
objects_counted None b place = refl
objects_counted (Some (typedef t)) b place = refl
objects_counted (Some (enumerator v)) b place = refl
objects_counted (Some (an_object n t)) true place = refl
objects_counted (Some (an_object n t)) false place = refl
objects_counted (Some (a_function n t)) b place = refl
objects_counted (Some (a_library_function which)) b place = refl
objects_counted (Some (a_local n t)) b place = refl
objects_counted (Some (a_parameter t)) b place = refl

functions_counted : (e : Option Entity) (first : Bool) (place : ℕ) → own_functions e first ≡ length (own_function e first place)
functions_counted None b place = refl
functions_counted (Some (typedef t)) b place = refl
functions_counted (Some (enumerator v)) b place = refl
functions_counted (Some (an_object n t)) b place = refl
functions_counted (Some (a_function n t)) true place = refl
functions_counted (Some (a_function n t)) false place = refl
functions_counted (Some (a_library_function which)) b place = refl
functions_counted (Some (a_local n t)) b place = refl
functions_counted (Some (a_parameter t)) b place = refl

-- ---- order

pub from_lower : (low m : ℕ) (all : List ℕ) → low ≤ m → AllByRecursion (λ k. m ≤ k) all → AllByRecursion (λ k. low ≤ k) all
from_lower low m [] l a = tt
from_lower low m (x ∷ all) l a = let z = a.0 in (omega (arith, l, z), from_lower low m all l a.1)

pub from_both : (low : ℕ) (a b : List ℕ) → AllByRecursion (λ k. low ≤ k) a → AllByRecursion (λ k. low ≤ k) b → AllByRecursion (λ k. low ≤ k) (a ++ b)
from_both low [] b p q = q
from_both low (x ∷ a) b p q = (p.0, from_both low a b p.1 q)

below_higher : (high m : ℕ) (all : List ℕ) → high ≤ m → AllByRecursion (λ k. k < high) all → AllByRecursion (λ k. k < m) all
below_higher high m [] l a = tt
below_higher high m (x ∷ all) l a = let z = a.0 in (omega (arith, l, z), below_higher high m all l a.1)

below_both : (high : ℕ) (a b : List ℕ) → AllByRecursion (λ k. k < high) a → AllByRecursion (λ k. k < high) b → AllByRecursion (λ k. k < high) (a ++ b)
below_both high [] b p q = q
below_both high (x ∷ a) b p q = (p.0, below_both high a b p.1 q)

pub low_high : (low : ℕ) (all : List Event) (high : ℕ) → AreInOrder low all high → low ≤ high
low_high low [] high h = h
low_high low (a_use at ∷ all) high h = let l = h.0 in let m = low_high (suc at) all high h.1 in omega (arith, l, m)
low_high low (a_look at ∷ all) high h = let l = h.0 in let m = low_high at all high h.1 in omega (arith, l, m)
low_high low (a_tag t ∷ all) high h = low_high low all high h
low_high low (an_end tag right ∷ all) high h = let l = h.0 in let m = low_high (suc right) all high h.1 in omega (arith, l, m)
low_high low (a_name from ∷ all) high h = let l = h.0 in let m = low_high (suc from) all high h.1 in omega (arith, l, m)
low_high low (a_literal at ∷ all) high h = let l = h.0 in let m = low_high at all high h.1 in omega (arith, l, m)

pub froms_from : (low : ℕ) (all : List Event) (high : ℕ) → AreInOrder low all high → AllByRecursion (λ k. low ≤ k) (froms_of all)
froms_from low [] high h = tt
froms_from low (a_use at ∷ all) high h = let l = h.0 in from_lower low (suc at) (froms_of all) (omega (arith, l)) (froms_from (suc at) all high h.1)
froms_from low (a_look at ∷ all) high h = from_lower low at (froms_of all) h.0 (froms_from at all high h.1)
froms_from low (a_tag t ∷ all) high h = froms_from low all high h
froms_from low (an_end tag right ∷ all) high h =
    let l = h.0 in from_lower low (suc right) (froms_of all) (omega (arith, l)) (froms_from (suc right) all high h.1)
froms_from low (a_name from ∷ all) high h =
    let l = h.0 in (h.0, from_lower low (suc from) (froms_of all) (omega (arith, l)) (froms_from (suc from) all high h.1))
froms_from low (a_literal at ∷ all) high h = from_lower low at (froms_of all) h.0 (froms_from at all high h.1)

froms_below : (low : ℕ) (all : List Event) (high : ℕ) → AreInOrder low all high → AllByRecursion (λ k. k < high) (froms_of all)
froms_below low [] high h = tt
froms_below low (a_use at ∷ all) high h = froms_below (suc at) all high h.1
froms_below low (a_look at ∷ all) high h = froms_below at all high h.1
froms_below low (a_tag t ∷ all) high h = froms_below low all high h
froms_below low (an_end tag right ∷ all) high h = froms_below (suc right) all high h.1
froms_below low (a_name from ∷ all) high h =
    let l = low_high (suc from) all high h.1 in (omega (arith, l), froms_below (suc from) all high h.1)
froms_below low (a_literal at ∷ all) high h = froms_below at all high h.1

rights_below : (low : ℕ) (all : List Event) (high : ℕ) → AreInOrder low all high → AllByRecursion (λ k. k < high) (rights_of all)
rights_below low [] high h = tt
rights_below low (a_use at ∷ all) high h = rights_below (suc at) all high h.1
rights_below low (a_look at ∷ all) high h = rights_below at all high h.1
rights_below low (a_tag t ∷ all) high h = rights_below low all high h
rights_below low (an_end tag right ∷ all) high h =
    let l = low_high (suc right) all high h.1 in (omega (arith, l), rights_below (suc right) all high h.1)
rights_below low (a_name from ∷ all) high h = rights_below (suc from) all high h.1
rights_below low (a_literal at ∷ all) high h = rights_below at all high h.1

rights_from : (low : ℕ) (all : List Event) (high : ℕ) → AreInOrder low all high → AllByRecursion (λ k. low ≤ k) (rights_of all)
rights_from low [] high h = tt
rights_from low (a_use at ∷ all) high h = let l = h.0 in from_lower low (suc at) (rights_of all) (omega (arith, l)) (rights_from (suc at) all high h.1)
rights_from low (a_look at ∷ all) high h = from_lower low at (rights_of all) h.0 (rights_from at all high h.1)
rights_from low (a_tag t ∷ all) high h = rights_from low all high h
rights_from low (an_end tag right ∷ all) high h =
    let l = h.0 in (h.0, from_lower low (suc right) (rights_of all) (omega (arith, l)) (rights_from (suc right) all high h.1))
rights_from low (a_name from ∷ all) high h = let l = h.0 in from_lower low (suc from) (rights_of all) (omega (arith, l)) (rights_from (suc from) all high h.1)
rights_from low (a_literal at ∷ all) high h = from_lower low at (rights_of all) h.0 (rights_from at all high h.1)

pub names_from : (low : ℕ) (all : List Step) → AreStepsInOrder low all → AllByRecursion (λ k. low ≤ k) (names_of all)
names_from low [] h = tt
names_from low (events all ∷ more) h =
    from_both low (froms_of all) (names_of more) (froms_from low all h.0 h.1)
    (from_lower low h.0 (names_of more) (low_high low all h.0 h.1) (names_from h.0 more h.2))
names_from low (a_declarator at ∷ more) h = from_lower low at (names_of more) h.0 (names_from at more h.1)
names_from low (an_own e first place ∷ more) h = names_from low more h
names_from low (a_body items ∷ more) h = names_from low more h

pub ends_from : (low : ℕ) (all : List Step) → AreStepsInOrder low all → AllByRecursion (λ k. low ≤ k) (ends_of all)
ends_from low [] h = tt
ends_from low (events all ∷ more) h =
    from_both low (rights_of all) (ends_of more) (rights_from low all h.0 h.1)
    (from_lower low h.0 (ends_of more) (low_high low all h.0 h.1) (ends_from h.0 more h.2))
ends_from low (a_declarator at ∷ more) h = from_lower low at (ends_of more) h.0 (ends_from at more h.1)
ends_from low (an_own e first place ∷ more) h = ends_from low more h
ends_from low (a_body items ∷ more) h = ends_from low more h

-- ---- a list of which so many come first

pub record Split {X Y : Type 0} (v : X → Y) (xs : List X) (n : ℕ) (ys : List Y) : Type 0 where
  pub before : List Y
  pub count : length before ≡ n
  pub all : map v xs ≡ before ++ ys

behind : {X Y : Type 0} (v : X → Y) (xs : List X) (n : ℕ) (before ys : List Y) → length before ≡ n → map v xs ≡ before ++ ys → map v (drop n xs) ≡ ys
behind v xs zero [] ys c e = e
behind v xs zero (y ∷ before) ys c e = absurd (omega (arith, c))
behind v xs (suc n) [] ys c e = absurd (omega (arith, c))
behind v [] (suc n) (y ∷ before) ys c e = cc
behind v (x ∷ xs) (suc n) (y ∷ before) ys c e = let h : map v xs ≡ before ++ ys = cc in behind v xs n before ys (omega (arith, c)) h

left_over : {X Y : Type 0} {v : X → Y} {xs : List X} {n : ℕ} {ys : List Y} → Split v xs n ys → map v (drop n xs) ≡ ys
left_over {v = v} {xs = xs} {n = n} {ys = ys} s = behind v xs n s.before ys s.count s.all

split_on : {X Y : Type 0} {v : X → Y} {xs : List X} (n m : ℕ) (own ys : List Y) → m ≡ n + length own → Split v xs n (own ++ ys) → Split v xs m ys
split_on n m own ys e s = record {
  before = s.before ++ own;
  count = let l = length-append s.before own in let c = s.count in omega (arith, l, c, e);
  all = s.all ∙ sym (append_assoc s.before own ys);
}

mapped_length : {X Y : Type 0} (v : X → Y) (xs : List X) → length (map v xs) ≡ length xs
mapped_length v [] = refl
mapped_length v (x ∷ xs) = let e = mapped_length v xs in omega (arith, e)

-- all have come
all_there : {X Y : Type 0} {v : X → Y} {xs : List X} (n : ℕ) → Split v xs n [] → n ≡ length xs
all_there {v = v} {xs = xs} n s =
    let a = ap length s.all in
    let b = length-append s.before [] in
    let c = s.count in
    let d = mapped_length v xs in
    omega (arith, a, b, c, d)

next_one : {X : Type 0} (v : X → ℕ) (xs : List X) (n at : ℕ) (ys : List ℕ) → map v (drop n xs) ≡ at ∷ ys → (x : X) × (slice_get xs n ≡ Some x) × (v x ≡ at)
next_one v [] zero at ys h = cc
next_one v [] (suc n) at ys h = cc
next_one v (x ∷ xs) zero at ys h = let e : v x ≡ at = cc in (x, refl, e)
next_one v (x ∷ xs) (suc n) at ys h = next_one v xs n at ys h

at_place : {X : Type 0} (v : X → ℕ) (xs : List X) (k : ℕ) (x : X) → slice_get xs k ≡ Some x → slice_get (map v xs) k ≡ Some (v x)
at_place v [] k x h = cc
at_place v (y ∷ xs) zero x h = let e = some_is y x h in ap (λ y. Some (v y)) e
at_place v (y ∷ xs) (suc k) x h = at_place v xs k x h

at_drop : {X : Type 0} (v : X → ℕ) (xs : List X) (n k m : ℕ) (x : X) → m ≡ n + k → slice_get xs m ≡ Some x → slice_get (map v (drop n xs)) k ≡ Some (v x)
at_drop v [] n k m x e h = cc
at_drop v (y ∷ xs) zero k m x e h =
    let q : m ≡ k = omega (arith, e) in at_place v (y ∷ xs) k x (subst (λ m. slice_get (y ∷ xs) m ≡ Some x) q h)
at_drop v (y ∷ xs) (suc n) k zero x e h = absurd (omega (arith, e))
at_drop v (y ∷ xs) (suc n) k (suc m) x e h = at_drop v xs n k m x (omega (arith, e)) h

from_at : (low : ℕ) (all : List ℕ) → AllByRecursion (λ k. low ≤ k) all → (k m : ℕ) → slice_get all k ≡ Some m → low ≤ m
from_at low [] a k m h = cc
from_at low (x ∷ all) a zero m h = subst (λ m. low ≤ m) (some_is x m h) a.0
from_at low (x ∷ all) a (suc k) m h = from_at low all a.1 k m h

below_at : (high : ℕ) (before ys : List ℕ) → AllByRecursion (λ k. k < high) before → (k m : ℕ) → k < length before
    → slice_get (before ++ ys) k ≡ Some m → m < high
below_at high [] ys a k m l h = absurd (omega (arith, l))
below_at high (x ∷ before) ys a zero m l h = subst (λ m. m < high) (some_is x m h) a.0
below_at high (x ∷ before) ys a (suc k) m l h = below_at high before ys a.1 k m (omega (arith, l)) h

is_before : (n m : ℕ) → n < m → nat_lt n m ≡ true
is_before n m h = grind (arith, nat_tests)

not_before : (n m : ℕ) → m ≤ n → nat_lt n m ≡ false
not_before n m h = grind (arith, nat_tests)

none_ended : (all : List ℕ) (at : ℕ) → AllByRecursion (λ k. at ≤ k) all → ended all at ≡ 0
none_ended [] at a = refl
none_ended (x ∷ all) at a = rw (not_before x at a.0, none_ended all at a.1) refl

some_ended : (before all : List ℕ) (at : ℕ) → AllByRecursion (λ k. k < at) before → AllByRecursion (λ k. at ≤ k) all → ended (before ++ all) at ≡ length before
some_ended [] all at b a = none_ended all at a
some_ended (x ∷ before) all at b a =
    let e = some_ended before all at b.1 a in
    ap (λ t. cond t 1 0 + ended (before ++ all) at) (is_before x at b.0) ∙ omega (arith, e)

-- ---- the whole file goes on with the steps

pub record AreStepsNext (g : FileScope) (n r o f low : ℕ) (all : List Step) : Type 0 where
  pub in_order : AreStepsInOrder low all
  pub names : Split (λ (b : Bound). b.from) g.names n (names_of all)
  pub names_before : AllByRecursion (λ k. k < low) names.before
  pub before : List ℕ
  pub ends : g.ends ≡ before ++ ends_of all
  pub ended_before : length before ≡ r
  pub ends_before : AllByRecursion (λ k. k < low) before
  pub records : Split (λ (x : Record). x.tag) g.records r (defined_of all)
  pub objects : Split (λ (x : AnObject). x.first) g.objects o (objects_of all)
  pub functions : Split (λ (x : AFunction). x.first) g.functions f (functions_of all)
  pub tags : AreStepsTagged g all
  pub ranged : AreStepsInRange g.ends r all

module _ (g : FileScope) where
  events_next : (n r o f low : ℕ) (all : List Event) (more : List Step) → (p : AreStepsNext g n r o f low (events all ∷ more))
      → AreNext g n r o low all p.in_order.0
  events_next n r o f low all more p =
      record {
        in_order = p.in_order.1;
        later = names_of more;
        names = left_over p.names;
        names_later = names_from p.in_order.0 more p.in_order.2;
        before = p.before;
        after = ends_of more;
        ends = p.ends;
        ended_before = p.ended_before;
        ends_before = p.ends_before;
        ends_after = ends_from p.in_order.0 more p.in_order.2;
        records = (defined_of more, left_over p.records);
        tags = p.tags.0;
        objects = (objects_of more, left_over p.objects);
      }

  behind_events : (n r o f low : ℕ) (all : List Event) (more : List Step) → (p : AreStepsNext g n r o f low (events all ∷ more))
      → AreStepsNext g (n + names_in all) (r + ends_in all) (o + literals_in all) f p.in_order.0 more
  unfolding split_on
  behind_events n r o f low all more p =
      let middle = p.in_order.0 in
      let l = low_high low all middle p.in_order.1 in
      let c = names_counted all in
      let d = ends_counted all in
      let e = length-append p.before (rights_of all) in
      let b = p.ended_before in
      let t = tags_counted all in
      let i = literals_counted all in
      record {
        in_order = p.in_order.2;
        names = split_on n (n + names_in all) (froms_of all) (names_of more) (omega (arith, c)) p.names;
        names_before = below_both middle p.names.before (froms_of all) (below_higher low middle p.names.before l p.names_before)
            (froms_below low all middle p.in_order.1);
        before = p.before ++ rights_of all;
        ends = p.ends ∙ sym (append_assoc p.before (rights_of all) (ends_of more));
        ended_before = omega (arith, d, e, b);
        ends_before = below_both middle p.before (rights_of all) (below_higher low middle p.before l p.ends_before)
            (rights_below low all middle p.in_order.1);
        records = split_on r (r + ends_in all) (defined_by all) (defined_of more) (omega (arith, t)) p.records;
        objects = split_on o (o + literals_in all) (made_at all) (objects_of more) (omega (arith, i)) p.objects;
        functions = p.functions;
        tags = p.tags.1;
        ranged = p.ranged;
      }

  asked : (n r o f low at : ℕ) (more : List Step) → AreStepsNext g n r o f low (a_declarator at ∷ more)
      → IsAsked g n r at × AreBegun g n at
  asked n r o f low at more p = ((later, ended_there), begun)
    where
      later : (k : ℕ) (b : Bound) → slice_get g.names (n + k) ≡ Some b → at < b.from
      later k b e =
          let q = at_drop (λ (b : Bound). b.from) g.names n k (n + k) b refl e in
          let m = from_at (suc at) (names_of more) p.in_order.2 k b.from (subst (λ all. slice_get all k ≡ Some b.from) (left_over p.names) q) in
          omega (arith, m)

      ended_there : ended g.ends at ≡ r
      ended_there =
          ap (λ all. ended all at) p.ends
          ∙ some_ended p.before (ends_of more) at (below_higher low at p.before p.in_order.0 p.ends_before) (ends_from at more p.in_order.1)
          ∙ p.ended_before

      begun : AreBegun g n at
      begun k b e l =
          let q = at_place (λ (b : Bound). b.from) g.names k b e in
          let c = p.names.count in
          let m = below_at low p.names.before (names_of more) p.names_before k b.from (omega (arith, l, c))
          (subst (λ all. slice_get all k ≡ Some b.from) p.names.all q) in
          let i = p.in_order.0 in
          omega (arith, m, i)

  behind_declarator : (n r o f low at : ℕ) (more : List Step) → AreStepsNext g n r o f low (a_declarator at ∷ more)
      → AreStepsNext g n r o f at more
  behind_declarator n r o f low at more p = record {
    in_order = p.in_order.1;
    names = p.names;
    names_before = below_higher low at p.names.before p.in_order.0 p.names_before;
    before = p.before;
    ends = p.ends;
    ended_before = p.ended_before;
    ends_before = below_higher low at p.before p.in_order.0 p.ends_before;
    records = p.records;
    objects = p.objects;
    functions = p.functions;
    tags = p.tags;
    ranged = p.ranged;
  }

  next_own : (o f : ℕ) (e : Option Entity) (first : Bool) (place : ℕ) (objects functions : List ℕ)
      → Split (λ (x : AnObject). x.first) g.objects o (own_object e first place ++ objects)
      → Split (λ (x : AFunction). x.first) g.functions f (own_function e first place ++ functions) → IsNextOwn g o f e first place
  next_own o f None b place os fs p q = tt
  next_own o f (Some (typedef t)) b place os fs p q = tt
  next_own o f (Some (enumerator v)) b place os fs p q = tt
  next_own o f (Some (an_object n t)) true place os fs p q = next_one (λ (x : AnObject). x.first) g.objects o place os (left_over p)
  next_own o f (Some (an_object n t)) false place os fs p q = tt
  next_own o f (Some (a_function n t)) true place os fs p q = next_one (λ (x : AFunction). x.first) g.functions f place fs (left_over q)
  next_own o f (Some (a_function n t)) false place os fs p q = tt
  next_own o f (Some (a_library_function which)) b place os fs p q = tt
  next_own o f (Some (a_local n t)) b place os fs p q = tt
  next_own o f (Some (a_parameter t)) b place os fs p q = tt

  behind_own : (n r o f low : ℕ) (e : Option Entity) (first : Bool) (place : ℕ) (more : List Step)
      → AreStepsNext g n r o f low (an_own e first place ∷ more)
      → AreStepsNext g n r (o + own_objects e first) (f + own_functions e first) low more
  behind_own n r o f low e first place more p =
      let c = objects_counted e first place in
      let d = functions_counted e first place in
      record {
        in_order = p.in_order;
        names = p.names;
        names_before = p.names_before;
        before = p.before;
        ends = p.ends;
        ended_before = p.ended_before;
        ends_before = p.ends_before;
        records = p.records;
        objects = split_on o (o + own_objects e first) (own_object e first place) (objects_of more) (omega (arith, c)) p.objects;
        functions = split_on f (f + own_functions e first) (own_function e first place) (functions_of more) (omega (arith, d)) p.functions;
        tags = p.tags;
        ranged = p.ranged;
      }

  behind_body : (n r o f low : ℕ) (items : Rattle.c_ast.specs.Trees.BlockItems) (more : List Step)
      → AreStepsNext g n r o f low (a_body items ∷ more) → AreStepsNext g n r o f low more
  behind_body n r o f low items more p = record {
    in_order = p.in_order;
    names = p.names;
    names_before = p.names_before;
    before = p.before;
    ends = p.ends;
    ended_before = p.ended_before;
    ends_before = p.ends_before;
    records = p.records;
    objects = p.objects;
    functions = p.functions;
    tags = p.tags;
    ranged = p.ranged.1;
  }

  pub steps_follow : (n r o f low : ℕ) (all : List Step) → AreStepsNext g n r o f low all → AreSteps g n r o f all
  steps_follow n r o f low [] p = (all_there o p.objects, all_there f p.functions)
  steps_follow n r o f low (events all ∷ more) p = (
    follows g n r o low all p.in_order.0 (events_next n r o f low all more p),
    steps_follow (n + names_in all) (r + ends_in all) (o + literals_in all) f p.in_order.0 more (behind_events n r o f low all more p),
  )
  steps_follow n r o f low (a_declarator at ∷ more) p =
      (asked n r o f low at more p, steps_follow n r o f at more (behind_declarator n r o f low at more p))
  steps_follow n r o f low (an_own e first place ∷ more) p = (
    next_own o f e first place (objects_of more) (functions_of more) p.objects p.functions,
    steps_follow n r (o + own_objects e first) (f + own_functions e first) low more (behind_own n r o f low e first place more p),
  )
  steps_follow n r o f low (a_body items ∷ more) p =
      (p.ranged.0, steps_follow n r o f low more (behind_body n r o f low items more p))
