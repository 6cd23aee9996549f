-- The records of units that agree, of whose structures each is complete and small, are those of a program: complete and small.
use Rattle.std.proofs.Common.{◌≡◌, ℕ, zero, suc, ◌+◌, ◌<◌, ◌≤◌, ◌⊎◌, inl, inr, Bool, true, false, ◌||◌, IsTrue, List, [], ◌∷◌, ◌++◌, Some, fold, length, map, flat_map}
use Rattle.std.proofs.Common.{refl, sym, ap, ◌∙◌, subst, append_assoc, arith}
use Rattle.std.specs.Prelude.{All, if◌then◌else◌, slice_get, nat_lt}
use Rattle.std.specs.Str.{bytes_eq}
use Rattle.std.proofs.lemmas.Bool.{and_from, and_parts, lt-ltb, ltb-false, ltb-true}
use Rattle.std.proofs.lemmas.Slice.Eq.{bytes_eq-Decides}
use Rattle.std.proofs.lemmas.List.{length-append, length-map, map-append}
use Rattle.std.proofs.lemmas.List.Elements.{All-cons, All-head, All-nil, All-tail}
use Rattle.c_types.specs.Layouts.{size_of}
use Rattle.c_types.specs.Limits.{AreComplete, AreSmall, greatest_size}
use Rattle.c_types.specs.Objects.{is_object}
use Rattle.c_types.specs.Types.{CType, Record, field_types, void, integer, pointer, array, function, structure}
use Rattle.c_typed.specs.Programs.{UnitData}
use Rattle.c_numbers.proofs.KeyNumbers.Laws.{all_after, all_new}
use Rattle.c_numbers.specs.KeyNumbers.Keys.{is_among, new_keys, position, with_key}
use Rattle.c_numbers.specs.TypeNumbers.Renumbered.{record_in, renumbered}
use Rattle.c_link.specs.Joining.{all_records_in, all_tags, complete_in, complete_tags, records, records_in, structure_in}
use Rattle.c_link.specs.Placing.{place}
use Rattle.c_link.specs.JoinedRecords.{AreWhole}
use Rattle.c_link.proofs.NextRecords.{from, placed_is}
use Rattle.c_link.proofs.Placed.{past, stays}
use Rattle.c_link.proofs.Whole.{records_are, tags_of_all}
use Rattle.c_link.specs.Counting.{IsCountable}
use Rattle.c_link.specs.Gaps.{Agree}
use Rattle.c_link.proofs.JoinedRecords.{IsAmong, stand_among, tag_at, tags_are, types_renumbered}
use Rattle.c_link.proofs.Layouts.{below, lies_alike}
use Rattle.c_link.proofs.Measures.{is_each}

abbrev Key : Type 0
Key = List ℕ

abbrev tag_of : Record → Key
tag_of r = r.tag

-- ---- places of keys

among_below : (keys : List Key) (x : Key) → is_among keys x ≡ true → position keys x < length keys
among_below [] x h = cc
among_below (y ∷ more) x h = go (bytes_eq x y) h (among_below more x)
  where
    go : (b : Bool) → (b || is_among more x) ≡ true → (is_among more x ≡ true → position more x < length more)
        → (if b then 0 else position more x + 1) < suc (length more)
    go true h f = omega arith
    go false h f = let k = f h in omega (arith, k)

place_stays : (keys more : List Key) (x : Key) → is_among keys x ≡ true → position (keys ++ more) x ≡ position keys x
place_stays [] more x h = cc
place_stays (y ∷ keys) more x h = go (bytes_eq x y) h (place_stays keys more x)
  where
    go : (b : Bool) → (b || is_among keys x) ≡ true → (is_among keys x ≡ true → position (keys ++ more) x ≡ position keys x)
        → (if b then 0 else position (keys ++ more) x + 1) ≡ (if b then 0 else position keys x + 1)
    go true h f = refl
    go false h f = ap (λ n. n + 1) (f h)

self : (x : Key) → bytes_eq x x ≡ true
self x = (bytes_eq-Decides x x).1 refl

place_next : (keys more : List Key) (x : Key) → is_among keys x ≡ false → position (keys ++ x ∷ more) x ≡ length keys
place_next [] more x h = ap (λ b. if b then 0 else position more x + 1) (self x)
place_next (y ∷ keys) more x h = go (bytes_eq x y) h (place_next keys more x)
  where
    go : (b : Bool) → (b || is_among keys x) ≡ false → (is_among keys x ≡ false → position (keys ++ x ∷ more) x ≡ length keys)
        → (if b then 0 else position (keys ++ x ∷ more) x + 1) ≡ suc (length keys)
    go true h f = cc
    go false h f = let k = f h in omega (arith, k)

-- ---- one more record

last_or_before : (old : List Record) (r x : Record) (n : ℕ) → slice_get (old ++ r ∷ []) n ≡ Some x → (slice_get old n ≡ Some x) ⊎ ((n ≡ length old) × (r ≡ x))
last_or_before [] r x zero h = inr (refl, cc)
last_or_before [] r x (suc n) h = cc
last_or_before (y ∷ old) r x zero h = inl h
last_or_before (y ∷ old) r x (suc n) h =
    elim (last_or_before old r x n h) [ inl k ↦ inl k | inr k ↦ inr (ap suc k.0, k.1) ]

complete_more : (old : List Record) (r : Record) → AreComplete old → All (λ t. IsTrue (is_object (length old) t)) (field_types r) → AreComplete (old ++ r ∷ [])
complete_more old r h k number x e =
    elim (last_or_before old r x number e) [
      | inl f ↦ h number x f
      | inr f ↦ subst (λ n. All (λ t. IsTrue (is_object n t)) (field_types x)) (sym f.0)
          (subst (λ (y : Record). All (λ t. IsTrue (is_object (length old) t)) (field_types y)) f.1 k)
    ]

-- ---- records that come in order: each is of structures whose tags come before it

module _ (tags : List Key) (Q : ℕ → Type 0) where
  abbrev AreBelow : List Key → ℕ → Type 0
  AreBelow before n = (k : Key) → IsAmong k before → position tags k < n

  abbrev Follows : List Key → Record → Type 0
  Follows before r = (n : ℕ) → AreBelow before n → All (λ t. IsTrue (is_object n t)) (field_types r)

  abbrev InOrder : List Key → List Record → Type 0
  InOrder before [] = Unit {0}
  InOrder before (r ∷ more) = Follows before r × Q (position tags r.tag) × InOrder (r.tag ∷ before) more

  abbrev EachIs : List Record → Type 0
  EachIs all = (n : ℕ) → n < length all → Q n

  one_below : (before : List Key) (x : Key) (n m : ℕ) → AreBelow before n → n ≤ m → position tags x < m → AreBelow (x ∷ before) m
  one_below before x n m h l p k (inl e) = subst (λ y. position tags y < m) (sym e) p
  one_below before x n m h l p k (inr a) = let b = h k a in omega (arith, b, l)

  one_is : (old : List Record) (r : Record) → EachIs old → Q (length old) → EachIs (old ++ r ∷ [])
  one_is old r h q n l = go (nat_lt n (length old)) refl
    where
      go : (b : Bool) → nat_lt n (length old) ≡ b → Q n
      go true e = h n (ltb-true n (length old) e)
      go false e =
          let c = length-append old (r ∷ []) in
          let d = ltb-false n (length old) e in
          let same : length old ≡ n = omega (arith, c, d, l) in
          subst Q same q

  placed_whole : (rest before : List Key) (old xs : List Record) → tags ≡ fold with_key (map tag_of old) (map tag_of xs) ++ rest
      → AreComplete old → EachIs old → AreBelow before (length old) → InOrder before xs → AreComplete (from tags old xs) × EachIs (from tags old xs)
  placed_whole rest before old [] t h q b o = (h, q)
  placed_whole rest before old (r ∷ more) t h q b o =
      go (λ before old t h q b o. placed_whole rest before old more t h q b o) (is_among (map tag_of old) r.tag) refl
    where
      Again : Type 0
      Again = (before : List Key) (old : List Record) → tags ≡ fold with_key (map tag_of old) (map tag_of more) ++ rest
          → AreComplete old → EachIs old → AreBelow before (length old) → InOrder before more → AreComplete (from tags old more) × EachIs (from tags old more)

      known : List Key
      known = map tag_of old

      count : length known ≡ length old
      count = length-map old tag_of

      next : List Record
      next = place (λ r. true) old (position tags r.tag) r

      Done : List Record → Type 0
      Done them = AreComplete (from tags them more) × EachIs (from tags them more)

      go : Again → (c : Bool) → is_among known r.tag ≡ c → Done next
      go again true e =
          let w : with_key known r.tag ≡ known = ap (λ c. if c then known else known ++ r.tag ∷ []) e in
          let u : tags ≡ fold with_key known (map tag_of more) ++ rest = t ∙ ap (λ ks. fold with_key ks (map tag_of more) ++ rest) w in
          let v : tags ≡ known ++ (new_keys known (map tag_of more) ++ rest) =
          u ∙ ap (λ ks. ks ++ rest) (all_after (map tag_of more) known) ∙ append_assoc known (new_keys known (map tag_of more)) rest in
          let p : position tags r.tag ≡ position known r.tag =
          ap (λ ks. position ks r.tag) v ∙ place_stays known (new_keys known (map tag_of more) ++ rest) r.tag e in
          let s = among_below known r.tag e in
          let l : position tags r.tag < length old = omega (arith, p, s, count) in
          let same : old ≡ next = stays old (position tags r.tag) r l ∙ sym (placed_is old (position tags r.tag) r) in
          subst Done same (again (r.tag ∷ before) old u h q (one_below before r.tag (length old) (length old) b (omega arith) l) o.2)
      go again false e =
          let w : with_key known r.tag ≡ known ++ r.tag ∷ [] = ap (λ c. if c then known else known ++ r.tag ∷ []) e in
          let grown = old ++ r ∷ [] in
          let m : map tag_of grown ≡ known ++ r.tag ∷ [] = map-append tag_of old (r ∷ []) in
          let u : tags ≡ fold with_key (known ++ r.tag ∷ []) (map tag_of more) ++ rest = t ∙ ap (λ ks. fold with_key ks (map tag_of more) ++ rest) w in
          let later = new_keys (known ++ r.tag ∷ []) (map tag_of more) ++ rest in
          let v : tags ≡ known ++ r.tag ∷ later =
          u ∙ ap (λ ks. ks ++ rest) (all_after (map tag_of more) (known ++ r.tag ∷ []))
          ∙ append_assoc (known ++ r.tag ∷ []) (new_keys (known ++ r.tag ∷ []) (map tag_of more)) rest ∙ append_assoc known (r.tag ∷ []) later in
          let p : position tags r.tag ≡ length known = ap (λ ks. position ks r.tag) v ∙ place_next known later r.tag e in
          let l : length old ≤ position tags r.tag = omega (arith, p, count) in
          let here : position tags r.tag ≡ length old = p ∙ count in
          let same : grown ≡ next = past false old (position tags r.tag) r l ∙ sym (placed_is old (position tags r.tag) r) in
          let c = length-append old (r ∷ []) in
          subst Done same
          (again (r.tag ∷ before) grown (u ∙ ap (λ ks. fold with_key ks (map tag_of more) ++ rest) (sym m))
          (complete_more old r h (o.0 (length old) b)) (one_is old r q (subst Q here o.1))
          (one_below before r.tag (length old) (length grown) b (omega (arith, c)) (omega (arith, c, here))) o.2)

  -- ---- the records of a unit, and of all

  by_others : (f : ℕ → ℕ) (n m : ℕ) → ((k : ℕ) → k < n → f k < m) → (t : CType) → IsTrue (is_object n t) → IsTrue (is_object m (renumbered f t))
  by_others f n m h void k = k
  by_others f n m h (integer kind) k = k
  by_others f n m h (pointer t) k = k
  by_others f n m h (array t l) k =
      let p = and_parts (nat_lt 0 l) (is_object n t) k in
      and_from (nat_lt 0 l) (is_object m (renumbered f t)) p.0 (by_others f n m h t p.1)
  by_others f n m h (function t all) k = k
  by_others f n m h (structure number) k = lt-ltb (f number) m (h number (ltb-true number n k))

  each_by_others : (f : ℕ → ℕ) (n m : ℕ) → ((k : ℕ) → k < n → f k < m) → (types : List CType) → All (λ t. IsTrue (is_object n t)) types
      → All (λ t. IsTrue (is_object m t)) (map (renumbered f) types)
  each_by_others f n m h [] k = All-nil (λ t. IsTrue (is_object m t))
  each_by_others f n m h (t ∷ more) k =
      let P : CType → Type 0 = λ t. IsTrue (is_object n t) in
      All-cons (λ t. IsTrue (is_object m t)) (renumbered f t) (map (renumbered f) more) (by_others f n m h t (All-head P t more k))
      (each_by_others f n m h more (All-tail P t more k))

  at_end : (done more : List Record) (r : Record) → slice_get (done ++ r ∷ more) (length done) ≡ Some r
  at_end [] more r = refl
  at_end (x ∷ done) more r = at_end done more r

  in_front : (done more : List Record) (k : ℕ) (x : Record) → slice_get done k ≡ Some x → slice_get (done ++ more) k ≡ Some x
  in_front [] more k x h = cc
  in_front (y ∷ done) more zero x h = h
  in_front (y ∷ done) more (suc k) x h = in_front done more k x h

  of_unit : (u : UnitData) → AreComplete u.records → ((j : ℕ) → j < length u.records → Q (structure_in tags u j)) → (tail : List Record)
      → ((b : List Key) → InOrder b tail) → (done more : List Record) (before : List Key) → u.records ≡ done ++ more
      → ((k : ℕ) (x : Record) → slice_get done k ≡ Some x → IsAmong x.tag before) → InOrder before (map (record_in (structure_in tags u)) more ++ tail)
  of_unit u complete q tail after done [] before e h = after before
  of_unit u complete q tail after done (r ∷ more) before e h =
      let f = structure_in tags u in
      let at : slice_get u.records (length done) ≡ Some r = ap (λ all. slice_get all (length done)) e ∙ at_end done more r in
      let a = ap length e in
      let b = length-append done (r ∷ more) in
      let number : f (length done) ≡ position tags r.tag = ap (position tags) (tag_at u.records u.incomplete (length done) r at) in (
        λ n are.
            let less : (k : ℕ) → k < length done → f k < n = λ k l.
            let x = below done k l in
            let there : slice_get u.records k ≡ Some x.0 = ap (λ all. slice_get all k) e ∙ in_front done (r ∷ more) k x.0 x.1 in
            let p : f k ≡ position tags x.0.tag = ap (position tags) (tag_at u.records u.incomplete k x.0 there) in
            let s = are x.0.tag (h k x.0 x.1) in
            omega (arith, p, s)
            in
            subst (All (λ t. IsTrue (is_object n t))) (sym (types_renumbered f r.fields))
            (each_by_others f (length done) n less (field_types r) (complete (length done) r at)),
        subst Q number (q (length done) (omega (arith, a, b))),
        of_unit u complete q tail after (done ++ r ∷ []) more (r.tag ∷ before) (e ∙ sym (append_assoc done (r ∷ []) more))
            (λ k x s. elim (last_or_before done r x k s) [ inl i ↦ inr (h k x i) | inr i ↦ inl (ap tag_of (sym i.1)) ]),
      )

  all_in_order : (us : List UnitData) → ((u : UnitData) → IsAmong u us → AreComplete u.records)
      → ((u : UnitData) → IsAmong u us → (j : ℕ) → j < length u.records → Q (structure_in tags u j)) → (b : List Key) → InOrder b (flat_map (records_in tags) us)
  all_in_order [] h q b = tt
  all_in_order (u ∷ more) h q b =
      of_unit u (h u (inl refl)) (q u (inl refl)) (flat_map (records_in tags) more) (all_in_order more (λ v k. h v (inr k)) (λ v k. q v (inr k)))
      [] u.records b refl (λ k x e. absurd (nothing k x e))
    where
      nothing : (k : ℕ) (x : Record) → slice_get [] k ≡ Some x → ⊥
      nothing k x e = cc

-- ---- the whole

module _ (units : List UnitData) (agree : Agree units) (countable : All IsCountable units) (small : All (λ u. AreSmall u.records) units) where
  abbrev tags : List Key
  tags = all_tags units

  -- a number of the program's is that of some unit's record
  abbrev IsOfUnit : ℕ → Type 0
  IsOfUnit n = (u : UnitData) × IsAmong u units × (j : ℕ) × (j < length u.records) × (structure_in tags u j ≡ n)

  complete_in_unit : (u : UnitData) → IsAmong u units → AreComplete u.records
  complete_in_unit u there = (is_each IsCountable units countable u there).records

  placed_so : AreComplete (from tags [] (all_records_in units)) × EachIs tags IsOfUnit (from tags [] (all_records_in units))
  placed_so =
      let xs = all_records_in units in
      let rest = new_keys (complete_tags units) (flat_map (λ u. u.incomplete) units) in
      let e : tags ≡ fold with_key [] (map tag_of xs) ++ rest =
      ap (λ ks. ks ++ rest) (sym (all_new (flat_map complete_in units)) ∙ ap (fold with_key []) (sym (tags_of_all tags units) ∙ tags_are xs)) in
      placed_whole tags IsOfUnit rest [] [] xs e (λ number r h. absurd (nothing number r h)) (λ n l. absurd (omega (arith, l))) (λ k h. absurd h)
      (all_in_order tags IsOfUnit units complete_in_unit (λ u there j l. (u, there, j, l, refl)) [])
    where
      nothing : (n : ℕ) (r : Record) → slice_get [] n ≡ Some r → ⊥
      nothing n r e = cc

  complete : AreComplete (records units)
  complete = subst AreComplete (records_are units) placed_so.0

  pub whole_records : AreWhole (records units)
  whole_records = record {
    complete = complete;
    small = λ n l.
        let w = subst (EachIs tags IsOfUnit) (records_are units) placed_so.1 n l in
        let u = w.0 in
        let s = is_each (λ (u : UnitData). AreSmall u.records) units small u w.1 w.2 w.3 in
        let a = lies_alike (structure_in tags u) u.records (records units) (complete_in_unit u w.1) complete (stand_among units agree.tags u w.1) (structure w.2)
        (lt-ltb w.2 (length u.records) w.3) in
        let same : size_of (records units) (structure (structure_in tags u w.2)) ≡ size_of u.records (structure w.2) = a.alike.sizes in
        subst (λ m. size_of (records units) (structure m) ≤ greatest_size) w.4 (omega (arith, s, same));
  }
