-- In a program the object of each string literal is referred to once where it is so in its units: it is that of one unit, whose other numbers stand for other
-- things, and of what refers to it the program keeps the one that is defined (C99 6.2.2, 6.4.5).
use Rattle.std.proofs.Common.{◌≡◌, ◌≢◌, ◌∙◌, ℕ, zero, suc, ◌+◌, ◌≤◌, ◌<◌, Bool, true, false, refl, sym, ap, subst, cond, List, [], ◌∷◌, ◌++◌, length}
use Rattle.std.proofs.Common.{length-append}
use Rattle.std.proofs.Common.{map, flat_map, arith, inl, inr}
use Rattle.std.proofs.lemmas.List.{map-append}
use Rattle.std.proofs.lemmas.Slice.Eq.{bytes_eq-Decides}
use Rattle.std.specs.Prelude.{◌⊎◌, ◌==◌, if◌then◌else◌, Option, Some, None, is_some, slice_get, get_or}
use Rattle.std.specs.Option.{option_map}
use Rattle.std.specs.Str.{bytes_eq}
use Rattle.c_numbers.specs.KeyNumbers.Keys.{position}
use Rattle.c_typed.specs.declared.program.Initial.{Initial}
use Rattle.c_typed.specs.declared.program.InitialValue.{InitialValue}
use Rattle.c_typed.specs.declared.program.InitialValue.TheVariants as V
use Rattle.c_typed.specs.declared.program.Object.{Object}
use Rattle.c_typed.specs.Mapped.{Renaming, mapped_statement}
use Rattle.c_typed.specs.Programs.{FunctionData, UnitData}
use Rattle.c_typed.specs.References.{Reference, an_object, a_function, references_by_statement}
use Rattle.c_typed.specs.Trees as Trees
use Rattle.c_numbers.specs.NewNumbers.Parts.{initial_in, value_in, object_in, function_in}
use Rattle.c_link.specs.Joining.{joined, tables, renaming, numbered_from, own, identity, object_identities, function_identities, paired, chosen, under}
use Rattle.c_link.specs.Joining.{objects, functions, all_objects, all_functions, all_objects_in, all_functions_in, objects_of, functions_of}
use Rattle.c_link.specs.Joining.{is_object_defined, is_function_defined}
use Rattle.c_link.specs.Joining as Joining
use Rattle.c_link.specs.Gaps.{HasNone, IsTwice}
use Rattle.c_link.proofs.JoinedRecords as Joined
use Rattle.c_link.proofs.JoinedRecords.{among_at}
use Rattle.c_well_typed.proofs.ProgramWeights.Numbered.{total}
use Rattle.c_well_typed.proofs.ProgramWeights.Shares.{Key, total_flat, total_less, chosen_share}
use Rattle.c_well_typed.proofs.JoinedFunctions.{object_identity}
use Rattle.c_well_typed.proofs.LookedUp.{from_zero, IsFound, looked_up, one_unit, under_number, unit_among}
use Rattle.c_well_typed.specs.Printable.Programs.{if_any, times, references, referred_by, StandsOnce}
use Rattle.c_well_typed.proofs.PrintableObjects.Counts.{same_number, is_same, alike}
use Rattle.c_well_typed.proofs.PrintableObjects.OneDefinition.{one_object, one_function}
use Rattle.c_well_typed.proofs.PrintableObjects.Renamed.{renamed, statement_same}
use Rattle.c_well_typed.proofs.PrintableObjects.StoredReferences.{referred_by_all}
use Rattle.c_well_typed.proofs.PrintableObjects.Totals.{one_place, some_place, total_mapped}
use Rattle.c_well_typed.proofs.PrintableObjects.UnitLiterals.{by_object, by_function, times_in}
use Rattle.c_well_typed.proofs.PrintableObjects.UnitObjects.{as_program}

some_is : {A : Type 0} (x y : A) → Some x ≡ Some y → x ≡ y
some_is x y h = cc

-- ---- what refers with other numbers

module _ (m : Renaming ℕ ℕ) where
  value_renamed : (v : InitialValue) → referred_by (value_in m v) ≡ map (renamed m) (referred_by v)
  value_renamed (V.Number kind v) = refl
  value_renamed (V.Address t n offset) = refl
  value_renamed (V.Function t n) = refl

  stored_renamed : (all : List Initial) → referred_by_all (map (initial_in m) all) ≡ map (renamed m) (referred_by_all all)
  stored_renamed [] = refl
  stored_renamed (i ∷ all) = rw (value_renamed i.value, stored_renamed all) (sym (map-append (renamed m) (referred_by i.value) (referred_by_all all)))

  object_renamed : (o : Object) → by_object (object_in m o) ≡ map (renamed m) (by_object o)
  object_renamed o = by_initial o.initial
    where
      by_initial : (i : Option (List Initial)) → flat_map referred_by_all (if_any (option_map (map (initial_in m)) i))
          ≡ map (renamed m) (flat_map referred_by_all (if_any i))
      by_initial None = refl
      by_initial (Some all) = ap (λ own. own ++ []) (stored_renamed all) ∙ sym (map-append (renamed m) (referred_by_all all) [])

  function_renamed : (g : FunctionData) → by_function (function_in m g) ≡ map (renamed m) (by_function g)
  function_renamed g = by_body g.body
    where
      by_body : (b : Option (Trees.Statement ℕ)) → flat_map references_by_statement (if_any (option_map (mapped_statement m) b))
          ≡ map (renamed m) (flat_map references_by_statement (if_any b))
      by_body None = refl
      by_body (Some s) = ap (λ own. own ++ []) (statement_same m s) ∙ sym (map-append (renamed m) (references_by_statement s) [])

-- what refers to something is there
refers_if_any : {A : Type 0} (n : ℕ) (v : A → List Reference) (o : Option A) → times n (flat_map v (if_any o)) ≢ 0 → is_some o ≡ true
refers_if_any n v None d = absurd (d refl)
refers_if_any n v (Some x) d = refl

some_mapped : {A B : Type 0} (v : A → B) (o : Option A) → is_some (option_map v o) ≡ is_some o
some_mapped v None = refl
some_mapped v (Some x) = refl

-- ---- lists

below_length : {A : Type 0} (xs : List A) (n : ℕ) (x : A) → slice_get xs n ≡ Some x → n < length xs
below_length [] n x e = cc
below_length (y ∷ xs) zero x e = omega arith
below_length (y ∷ xs) (suc n) x e = let r = below_length xs n x e in omega (arith, r)

no_longer : {A B : Type 0} (v : A → Option B) (xs : List A) → length (flat_map (λ x. Joining.if_any (v x)) xs) ≤ length xs
no_longer v [] = omega arith
no_longer v (x ∷ xs) =
    let r = no_longer v xs in
    let s = length-append (Joining.if_any (v x)) (flat_map (λ x. Joining.if_any (v x)) xs) in
    let l = at_most_one (v x) in
    omega (arith, r, s, l)
  where
    at_most_one : {A : Type 0} (o : Option A) → length (Joining.if_any o) ≤ 1
    at_most_one None = omega arith
    at_most_one (Some y) = omega arith

paired_less : {X : Type 0} (g : X → ℕ) (ks : List Key) (xs : List X) → total (λ (p : Key × X). g p.1) (paired ks xs) ≤ total g xs
paired_less g [] xs = omega arith
paired_less g (k ∷ ks) [] = omega arith
paired_less g (k ∷ ks) (x ∷ xs) = let r = paired_less g ks xs in omega (arith, r)

two_totals : {A : Type 0} (g h : A → ℕ) (xs : List A) → total g xs + total h xs ≡ total (λ x. g x + h x) xs
two_totals g h [] = refl
two_totals g h (x ∷ xs) = let r = two_totals g h xs in omega (arith, r)

nothing_in : {A : Type 0} (xs : List A) → total (λ (x : A). 0) xs ≡ 0
nothing_in [] = refl
nothing_in (x ∷ xs) = let r = nothing_in xs in omega (arith, r)

-- a key that is there has its own place
one_key : (keys : List Key) (a b : Key) → position keys a ≡ position keys b → position keys a < length keys → a ≡ b
one_key [] a b e l = absurd (omega (arith, l))
one_key (k ∷ keys) a b e l = by_tests (bytes_eq a k) (bytes_eq b k) refl refl e l (one_key keys a b)
  where
    by_tests : (s t : Bool) → bytes_eq a k ≡ s → bytes_eq b k ≡ t → cond s 0 (position keys a + 1) ≡ cond t 0 (position keys b + 1)
        → cond s 0 (position keys a + 1) < length (k ∷ keys) → (position keys a ≡ position keys b → position keys a < length keys → a ≡ b) → a ≡ b
    by_tests true true p q e l again = (bytes_eq-Decides a k).0 p ∙ sym ((bytes_eq-Decides b k).0 q)
    by_tests true false p q e l again = absurd (omega (arith, e))
    by_tests false true p q e l again = absurd (omega (arith, e))
    by_tests false false p q e l again = again (omega (arith, e)) (omega (arith, l))

no_identity : (k n : ℕ) (all : List Object) (r : ℕ) → slice_get all r ≡ None → get_or (object_identities k n all) r [] ≡ []
no_identity k n [] r e = refl
no_identity k n (o ∷ all) zero e = cc
no_identity k n (o ∷ all) (suc r) e = no_identity k (n + 1) all r e

own_is : (k j : ℕ) (l : Bool) (x : List ℕ) (r m : ℕ) → identity k l x r ≡ own j m → (k ≡ j) × (r ≡ m)
own_is k j true x r m e = cc
own_is k j false x r m e = (cc, cc)

-- ---- the units with their numbers

unit_at : (j : ℕ) (units : List UnitData) (k : ℕ) (u : UnitData) → Joined.IsAmong (k, u) (numbered_from j units)
    → (i : ℕ) × (k ≡ j + i) × (slice_get units i ≡ Some u)
unit_at j [] k u h = absurd h
unit_at j (v ∷ units) k u (inl e) =
    let is : k ≡ j = ap (λ (p : ℕ × UnitData). p.0) e in
    (0, omega (arith, is), ap (λ (p : ℕ × UnitData). Some p.1) (sym e))
unit_at j (v ∷ units) k u (inr h) = let r = unit_at (j + 1) units k u h in let e = r.1 in (suc r.0, omega (arith, e), r.2)

unit_numbered : (units : List UnitData) (k : ℕ) (u : UnitData) → Joined.IsAmong (k, u) (numbered_from 0 units) → slice_get units k ≡ Some u
unit_numbered units k u h =
    let r = unit_at 0 units k u h in
    subst (λ i. slice_get units i ≡ Some u) (sym (r.1 ∙ from_zero r.0)) r.2

-- where one unit alone weighs something
module _ (g : ℕ × UnitData → ℕ) (k : ℕ) (u : UnitData) (here : g (k, u) ≡ 1) (other : (j : ℕ) (v : UnitData) → j ≢ k → g (j, v) ≡ 0) where
  after_it : (j : ℕ) (units : List UnitData) → k < j → total g (numbered_from j units) ≡ 0
  after_it j [] l = refl
  after_it j (v ∷ units) l =
      let o = other j v (λ e. omega (arith, l, e)) in
      let r = after_it (j + 1) units (omega (arith, l)) in
      omega (arith, o, r)

  one_weighs : (j : ℕ) (units : List UnitData) → Joined.IsAmong (k, u) (numbered_from j units) → total g (numbered_from j units) ≡ 1
  one_weighs j [] h = absurd h
  one_weighs j (v ∷ units) (inl e) =
      let is : k ≡ j = ap (λ (p : ℕ × UnitData). p.0) e in
      let r = after_it (j + 1) units (omega (arith, is)) in
      let own : g (j, v) ≡ 1 = ap g (sym e) ∙ here in
      omega (arith, own, r)
  one_weighs j (v ∷ units) (inr h) =
      let i = unit_at (j + 1) units k u h in
      let e = i.1 in
      let o = other j v (λ z. omega (arith, z, e)) in
      let r = one_weighs (j + 1) units h in
      omega (arith, o, r)

module _ (units : List UnitData) (none : HasNone (IsTwice units)) where
  abbrev M : ℕ → UnitData → Renaming ℕ ℕ
  M k u = renaming (tables units) k u

  abbrev keys : List Key
  keys = all_objects units

  -- ---- what is looked up

  abbrev ObjectFound : ℕ → UnitData → ℕ → Object → Type 0
  ObjectFound k u n o = IsFound (λ (o : Object). o.linked) (λ (o : Object). o.name) (λ (u : UnitData). u.objects) is_object_defined
      (λ k u o. object_in (M k u) o) object_identities (λ k n. refl) (λ k n x more. refl) units k u n o

  abbrev FunctionFound : ℕ → UnitData → ℕ → FunctionData → Type 0
  FunctionFound k u n o = IsFound (λ (o : FunctionData). o.is_linked) (λ (o : FunctionData). o.name) (λ (u : UnitData). u.functions) is_function_defined
      (λ k u o. function_in (M k u) o) function_identities (λ k n. refl) (λ k n x more. refl) units k u n o

  find_object : (k : ℕ) (u : UnitData) → Joined.IsAmong (k, u) (numbered_from 0 units) → (n : ℕ) (o : Object) → slice_get u.objects n ≡ Some o
      → ObjectFound k u n o
  find_object = looked_up (λ (o : Object). o.linked) (λ (o : Object). o.name) (λ (u : UnitData). u.objects) is_object_defined (λ k u o. object_in (M k u) o)
      object_identities (λ k n. refl) (λ k n x more. refl) units

  find_function : (k : ℕ) (u : UnitData) → Joined.IsAmong (k, u) (numbered_from 0 units) → (n : ℕ) (o : FunctionData) → slice_get u.functions n ≡ Some o
      → FunctionFound k u n o
  find_function = looked_up (λ (o : FunctionData). o.is_linked) (λ (o : FunctionData). o.name) (λ (u : UnitData). u.functions) is_function_defined
      (λ k u o. function_in (M k u) o) function_identities (λ k n. refl) (λ k n x more. refl) units

  -- what is defined in a unit is what the program has
  object_kept : (k : ℕ) (u : UnitData) → Joined.IsAmong (k, u) (numbered_from 0 units) → (n : ℕ) (o : Object) → slice_get u.objects n ≡ Some o
      → is_some o.initial ≡ true → (j : ℕ) × (slice_get (objects units) j ≡ Some (object_in (M k u) o))
  object_kept k u h n o e d =
      let z = find_object k u h n o e in
      (position keys (identity k o.linked o.name n), z.stands ∙ ap Some (z.is ∙ by_case z.unit z.numbered z.thing z.there z.alike (thing_defined z)))
    where
      thing_defined : (z : ObjectFound k u n o) → is_some z.thing.initial ≡ true
      thing_defined z =
          sym (some_mapped (map (initial_in (M z.number z.unit))) z.thing.initial)
          ∙ sym (ap is_object_defined z.is) ∙ z.defined (some_mapped (map (initial_in (M k u))) o.initial ∙ d)

      same : {j p : ℕ} (v : UnitData) → Joined.IsAmong (j, v) (numbered_from 0 units) → (q : Object) → slice_get v.objects p ≡ Some q → (k ≡ j) × (n ≡ p)
          → object_in (M j v) q ≡ object_in (M k u) o
      same {j} {p} v i q at a =
          let is : u ≡ v = one_unit 0 k u v units h (subst (λ j. Joined.IsAmong (j, v) (numbered_from 0 units)) (sym a.0) i) in
          let there : slice_get u.objects n ≡ Some q = subst (λ p. slice_get u.objects p ≡ Some q) (sym a.1)
          (subst (λ (v : UnitData). slice_get v.objects p ≡ Some q) (sym is) at) in
          ap (λ j. object_in (M j v) q) (sym a.0) ∙ ap (λ v. object_in (M k v) q) (sym is) ∙ ap (object_in (M k u)) (some_is q o (sym there ∙ e))

      by_case : {j p : ℕ} (v : UnitData) → Joined.IsAmong (j, v) (numbered_from 0 units) → (q : Object) → slice_get v.objects p ≡ Some q
          → ((o.linked ≡ true) × (q.linked ≡ true) × (o.name ≡ q.name)) ⊎ ((k ≡ j) × (n ≡ p)) → is_some q.initial ≡ true
          → object_in (M j v) q ≡ object_in (M k u) o
      by_case v i q at (inr a) r = same v i q at a
      by_case {j} {p} v i q at (inl a) r =
          same v i q at
          (one_object units none k j n p u v o q (unit_numbered units k u h) (unit_numbered units j v i) e at a.0 a.1 a.2 d r)

  function_kept : (k : ℕ) (u : UnitData) → Joined.IsAmong (k, u) (numbered_from 0 units) → (n : ℕ) (o : FunctionData) → slice_get u.functions n ≡ Some o
      → is_some o.body ≡ true → (j : ℕ) × (slice_get (functions units) j ≡ Some (function_in (M k u) o))
  function_kept k u h n o e d =
      let z = find_function k u h n o e in (
        position (all_functions units) (identity k o.is_linked o.name n),
        z.stands ∙ ap Some (z.is ∙ by_case z.unit z.numbered z.thing z.there z.alike (thing_defined z)),
      )
    where
      thing_defined : (z : FunctionFound k u n o) → is_some z.thing.body ≡ true
      thing_defined z =
          sym (some_mapped (mapped_statement (M z.number z.unit)) z.thing.body)
          ∙ sym (ap is_function_defined z.is) ∙ z.defined (some_mapped (mapped_statement (M k u)) o.body ∙ d)

      same : {j p : ℕ} (v : UnitData) → Joined.IsAmong (j, v) (numbered_from 0 units) → (q : FunctionData) → slice_get v.functions p ≡ Some q
          → (k ≡ j) × (n ≡ p) → function_in (M j v) q ≡ function_in (M k u) o
      same {j} {p} v i q at a =
          let is : u ≡ v = one_unit 0 k u v units h (subst (λ j. Joined.IsAmong (j, v) (numbered_from 0 units)) (sym a.0) i) in
          let there : slice_get u.functions n ≡ Some q = subst (λ p. slice_get u.functions p ≡ Some q) (sym a.1)
          (subst (λ (v : UnitData). slice_get v.functions p ≡ Some q) (sym is) at) in
          ap (λ j. function_in (M j v) q) (sym a.0) ∙ ap (λ v. function_in (M k v) q) (sym is) ∙ ap (function_in (M k u)) (some_is q o (sym there ∙ e))

      by_case : {j p : ℕ} (v : UnitData) → Joined.IsAmong (j, v) (numbered_from 0 units) → (q : FunctionData) → slice_get v.functions p ≡ Some q
          → ((o.is_linked ≡ true) × (q.is_linked ≡ true) × (o.name ≡ q.name)) ⊎ ((k ≡ j) × (n ≡ p)) → is_some q.body ≡ true
          → function_in (M j v) q ≡ function_in (M k u) o
      by_case v i q at (inr a) r = same v i q at a
      by_case {j} {p} v i q at (inl a) r =
          same v i q at
          (one_function units none k j n p u v o q (unit_numbered units k u h) (unit_numbered units j v i) e at a.0 a.1 a.2 d r)

  -- ---- the object of a literal, by its unit and its number there

  module _ (n k m : ℕ) (u : UnitData) (h : Joined.IsAmong (k, u) (numbered_from 0 units)) (o : Object) (there : slice_get u.objects m ≡ Some o)
      (unlinked : o.linked ≡ false) (number : n ≡ position keys (own k m)) (below : n < length keys) (once : times m (references (as_program u)) ≡ 1) where
    itself : (M k u).object m ≡ n
    itself =
        ap (position keys) (object_identity k 0 u.objects m o there)
        ∙ ap (λ b. position keys (identity k b o.name (0 + m))) unlinked ∙ ap (λ r. position keys (own k r)) (from_zero m) ∙ sym number

    -- no other number stands for it
    alone : (j : ℕ) (v : UnitData) (r : ℕ) → (M j v).object r ≡ n → (j ≡ k) × (r ≡ m)
    alone j v r e = by_object (slice_get v.objects r) refl
      where
        key : get_or (object_identities j 0 v.objects) r [] ≡ own k m
        key = one_key keys (get_or (object_identities j 0 v.objects) r []) (own k m) (e ∙ number) (subst (λ i. i < length keys) (sym e) below)

        by_object : (o : Option Object) → slice_get v.objects r ≡ o → (j ≡ k) × (r ≡ m)
        by_object None q = let no : [] ≡ own k m = sym (no_identity j 0 v.objects r q) ∙ key in cc
        by_object (Some p) q =
            let is = own_is j k p.linked p.name (0 + r) m (sym (object_identity j 0 v.objects r p q) ∙ key) in
            (is.0, sym (from_zero r) ∙ is.1)

    others_refer : (j : ℕ) (v : UnitData) → j ≢ k → (all : List Reference) → times n (map (renamed (M j v)) all) ≡ 0
    others_refer j v d [] = refl
    others_refer j v d (a_function g ∷ all) = others_refer j v d all
    others_refer j v d (an_object r ∷ all) = by_test ((M j v).object r == n) refl (others_refer j v d all)
      where
        by_test : (b : Bool) → ((M j v).object r == n) ≡ b → times n (map (renamed (M j v)) all) ≡ 0
            → (if b then 1 else 0) + times n (map (renamed (M j v)) all) ≡ 0
        by_test true e z = absurd (d (alone j v r (same_number ((M j v).object r) n e)).0)
        by_test false e z = omega (arith, z)

    own_refer : (all : List Reference) → times n (map (renamed (M k u)) all) ≡ times m all
    own_refer [] = refl
    own_refer (a_function g ∷ all) = own_refer all
    own_refer (an_object r ∷ all) =
        let e = alike ((M k u).object r == n) (r == m)
        (λ e. is_same r m (alone k u r (same_number ((M k u).object r) n e)).1)
        (λ e. is_same ((M k u).object r) n (ap (M k u).object (same_number r m e) ∙ itself)) in
        rw (e, own_refer all) refl

    -- ---- sums

    abbrev W : Object → ℕ
    W o = times n (by_object o)

    abbrev F : FunctionData → ℕ
    F g = times n (by_function g)

    abbrev by_objects : ℕ × UnitData → ℕ
    by_objects p = total W (map (object_in (M p.0 p.1)) p.1.objects)

    abbrev by_functions : ℕ × UnitData → ℕ
    by_functions p = total F (map (function_in (M p.0 p.1)) p.1.functions)

    abbrev weight : ℕ × UnitData → ℕ
    weight p = by_objects p + by_functions p

    object_weighs : (o : Object) → W (object_in (M k u) o) ≡ times m (by_object o)
    object_weighs o = ap (times n) (object_renamed (M k u) o) ∙ own_refer (by_object o)

    function_weighs : (g : FunctionData) → F (function_in (M k u) g) ≡ times m (by_function g)
    function_weighs g = ap (times n) (function_renamed (M k u) g) ∙ own_refer (by_function g)

    own_sum : total (λ o. times m (by_object o)) u.objects + total (λ g. times m (by_function g)) u.functions ≡ 1
    own_sum = sym (times_in m (as_program u)) ∙ once

    own_weight : weight (k, u) ≡ 1
    own_weight =
        let a = total_mapped W (λ o. times m (by_object o)) (object_in (M k u)) u.objects (λ i o e. object_weighs o) in
        let b = total_mapped F (λ g. times m (by_function g)) (function_in (M k u)) u.functions (λ i g e. function_weighs g) in
        let s = own_sum in
        omega (arith, a, b, s)

    other_weight : (j : ℕ) (v : UnitData) → j ≢ k → weight (j, v) ≡ 0
    other_weight j v d =
        let a = total_mapped W (λ o. 0) (object_in (M j v)) v.objects
        (λ i o e. ap (times n) (object_renamed (M j v) o) ∙ others_refer j v d (by_object o)) in
        let b = total_mapped F (λ g. 0) (function_in (M j v)) v.functions
        (λ i g e. ap (times n) (function_renamed (M j v) g) ∙ others_refer j v d (by_function g)) in
        let c = nothing_in v.objects in
        let e = nothing_in v.functions in
        omega (arith, a, b, c, e)

    at_most : total W (objects units) + total F (functions units) ≤ 1
    at_most =
        let all = numbered_from 0 units in
        let a = chosen_share W is_object_defined (all_objects_in units) [] (flat_map (λ (p : ℕ × UnitData). object_identities p.0 0 p.1.objects) all) in
        let b = total_flat (λ (p : Key × Object). W p.1) (λ (p : ℕ × UnitData). objects_of (tables units) p.0 p.1) all in
        let c = total_less (λ (p : ℕ × UnitData). total (λ (p : Key × Object). W p.1) (objects_of (tables units) p.0 p.1)) by_objects all
        (λ p. paired_less W (object_identities p.0 0 p.1.objects) (map (object_in (M p.0 p.1)) p.1.objects)) in
        let d = chosen_share F is_function_defined (all_functions_in units) [] (flat_map (λ (p : ℕ × UnitData). function_identities p.0 0 p.1.functions) all) in
        let e = total_flat (λ (p : Key × FunctionData). F p.1) (λ (p : ℕ × UnitData). functions_of (tables units) p.0 p.1) all in
        let f = total_less (λ (p : ℕ × UnitData). total (λ (p : Key × FunctionData). F p.1) (functions_of (tables units) p.0 p.1)) by_functions all
        (λ p. paired_less F (function_identities p.0 0 p.1.functions) (map (function_in (M p.0 p.1)) p.1.functions)) in
        let s = two_totals by_objects by_functions all in
        let t = one_weighs weight k u own_weight other_weight 0 units h in
        omega (arith, a, b, c, d, e, f, s, t)

    at_least : 1 ≤ total W (objects units) + total F (functions units)
    at_least = by_sum (total (λ o. times m (by_object o)) u.objects) refl
      where
        of_object : total (λ o. times m (by_object o)) u.objects ≢ 0 → 1 ≤ total W (objects units)
        of_object d =
            let z = some_place (λ o. times m (by_object o)) u.objects d in
            let q = object_kept k u h z.0 z.1 z.2 (refers_if_any m referred_by_all z.1.initial z.3) in
            let l = one_place W (objects units) q.0 (object_in (M k u) z.1) q.1 in
            let w = object_weighs z.1 in
            let e = z.3 in
            omega (arith, l, w, e)

        of_function : total (λ g. times m (by_function g)) u.functions ≢ 0 → 1 ≤ total F (functions units)
        of_function d =
            let z = some_place (λ g. times m (by_function g)) u.functions d in
            let q = function_kept k u h z.0 z.1 z.2 (refers_if_any m references_by_statement z.1.body z.3) in
            let l = one_place F (functions units) q.0 (function_in (M k u) z.1) q.1 in
            let w = function_weighs z.1 in
            let e = z.3 in
            omega (arith, l, w, e)

        by_sum : (s : ℕ) → total (λ o. times m (by_object o)) u.objects ≡ s → 1 ≤ total W (objects units) + total F (functions units)
        by_sum (suc s) e = let r = of_object (λ z. omega (arith, z, e)) in omega (arith, r)
        by_sum zero e = let t = own_sum in let r = of_function (λ z. omega (arith, z, e, t)) in omega (arith, r)

    literal_once : times n (references (joined units)) ≡ 1
    literal_once = let a = times_in n (joined units) in let b = at_most in let c = at_least in omega (arith, a, b, c)

  -- ---- each

  pub literals_once_again : ((u : UnitData) → Joined.IsAmong u units → (o : Object) → Joined.IsAmong o u.objects → o.text ≡ true → o.linked ≡ false)
      → ((u : UnitData) → Joined.IsAmong u units → StandsOnce (as_program u)) → StandsOnce (joined units)
  literals_once_again unlinked once n y e text =
      let z = under_number (λ (o : Object). o.linked) (λ (o : Object). o.name) (λ (u : UnitData). u.objects) is_object_defined (λ k u o. object_in (M k u) o)
      object_identities (λ k n. refl) (λ k n x more. refl) units n y e in
      let among = unit_among 0 units (z.number, z.unit) z.numbered in
      let is : z.thing.text ≡ true = sym (ap (λ (o : Object). o.text) z.is) ∙ text in
      let alone = unlinked z.unit among z.thing (among_at z.unit.objects z.place z.thing z.there) is in
      let l = below_length (objects units) n y e in
      let s = no_longer (λ i. chosen is_object_defined (under i (all_objects_in units))) keys in
      literal_once n z.number z.place z.unit z.numbered z.thing z.there alone
      (z.position_is ∙ ap (λ b. position keys (identity z.number b z.thing.name z.place)) alone) (omega (arith, l, s))
      (once z.unit among z.place z.thing z.there is)
