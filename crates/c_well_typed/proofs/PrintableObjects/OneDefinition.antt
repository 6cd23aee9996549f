-- Of units in which no name is defined twice, two things of a name with linkage that are both defined are one (C99 6.9).
use Rattle.std.proofs.Common.{◌≡◌, ◌∙◌, ℕ, ◌+◌, ◌≤◌, Bool, true, false, refl, sym, ap, subst, cond, List, [], ◌∷◌, ◌++◌, flat_map, filter}
use Rattle.std.proofs.Common.{append-nil, append_assoc, arith}
use Rattle.std.proofs.lemmas.Slice.Eq.{bytes_eq-Decides}
use Rattle.std.specs.Prelude.{◌&&◌, ◌==◌, if◌then◌else◌, Some, is_some, slice_get, get_or}
use Rattle.std.specs.Str.{bytes_eq}
use Rattle.c_types.specs.Types.{void}
use Rattle.c_numbers.specs.TypeNumbers.Renumbered.{renumbered}
use Rattle.c_typed.specs.declared.program.Object.{Object}
use Rattle.c_typed.specs.Programs.{FunctionData, UnitData}
use Rattle.c_link.specs.Joining.{all_tags, structure_in}
use Rattle.c_link.specs.Gaps.{Linked, linked_object_in, linked_function_in, linked_by, linked_in, of_name, trouble, HasNone, IsTwice}
use Rattle.c_well_typed.proofs.ProgramWeights.Numbered.{total}
use Rattle.c_well_typed.proofs.ProgramWeights.Shares.{total_append, total_flat}
use Rattle.c_well_typed.proofs.PrintableObjects.Counts.{same_number, other_number}
use Rattle.c_well_typed.proofs.PrintableObjects.Totals.{one_place, two_places}

some_is : {A : Type 0} (x y : A) → Some x ≡ Some y → x ≡ y
some_is x y h = cc

-- ---- definitions of a name

abbrev is_defined : Linked → Bool
is_defined l = l.is_defined

abbrev defines : List ℕ → Linked → ℕ
defines x l = if bytes_eq l.name x && l.is_defined then 1 else 0

abbrev defined_before : List ℕ → List Linked → List Linked
defined_before x all = filter (λ d. d.is_defined) (of_name x all)

none_defines : (x : List ℕ) (all : List Linked) → defined_before x all ≡ [] → total (defines x) all ≡ 0
none_defines x [] h = refl
none_defines x (l ∷ all) h = by_test (bytes_eq l.name x) l.is_defined h (none_defines x all)
  where
    by_test : (b d : Bool) → filter is_defined (cond b (record { name = l.name; place = l.place; ty = l.ty; is_defined = d } ∷ of_name x all) (of_name x all)) ≡ []
        → (defined_before x all ≡ [] → total (defines x) all ≡ 0) → (if b && d then 1 else 0) + total (defines x) all ≡ 0
    by_test true true h again = cc
    by_test true false h again = let r = again h in omega (arith, r)
    by_test false d h again = let r = again h in omega (arith, r)

module _ (all : List Linked) where
  abbrev IsOnce : Type 0
  IsOnce = (before after : List Linked) (l first : Linked) (rest : List Linked) → all ≡ before ++ l ∷ after → l.is_defined ≡ true
      → defined_before l.name before ≡ first ∷ rest → ⊥

  module _ (once : IsOnce) (x : List ℕ) where
    most_from : (before after : List Linked) → all ≡ before ++ after → total (defines x) before ≤ 1 → total (defines x) all ≤ 1
    most_from before [] e h = subst (λ all. total (defines x) all ≤ 1) (sym (e ∙ append-nil before)) h
    most_from before (l ∷ after) e h =
        most_from (before ++ l ∷ []) after (e ∙ sym (append_assoc before (l ∷ []) after)) (by_test (bytes_eq l.name x) l.is_defined refl refl)
      where
        by_found : (found : List Linked) → defined_before x before ≡ found → bytes_eq l.name x ≡ true → l.is_defined ≡ true → total (defines x) before ≡ 0
        by_found [] q b d = none_defines x before q
        by_found (first ∷ rest) q b d =
            let name = (bytes_eq-Decides l.name x).0 b in
            absurd (once before after l first rest e d (ap (λ x. defined_before x before) name ∙ q))

        by_test : (b d : Bool) → bytes_eq l.name x ≡ b → l.is_defined ≡ d → total (defines x) (before ++ l ∷ []) ≤ 1
        by_test true true q r =
            let z = by_found (defined_before x before) refl q r in
            let s = total_append (defines x) before (l ∷ []) in
            let own : defines x l ≡ 1 = rw (q, r) refl in
            omega (arith, z, s, own)
        by_test true false q r =
            let s = total_append (defines x) before (l ∷ []) in
            let own : defines x l ≡ 0 = rw (q, r) refl in
            omega (arith, h, s, own)
        by_test false d q r =
            let s = total_append (defines x) before (l ∷ []) in
            let own : defines x l ≡ 0 = rw q refl in
            omega (arith, h, s, own)

-- ---- in units

module _ (units : List UnitData) (none : HasNone (IsTwice units)) where
  abbrev tags : List (List ℕ)
  tags = all_tags units

  most : (x : List ℕ) → total (defines x) (linked_in units) ≤ 1
  most x =
      most_from (linked_in units)
      (λ before after l first rest e d k. none (trouble l first) (before, after, l, first, rest, e, d, k, refl)) x [] (linked_in units) refl (omega arith)

  module _ {X : Type 0} (items : UnitData → List X) (own : UnitData → X → List Linked)
      (among : (x : List ℕ) (u : UnitData) → total (λ y. total (defines x) (own u y)) (items u) ≤ total (defines x) (linked_by tags u)) (x : List ℕ) where
    abbrev weight : UnitData → ℕ
    weight u = total (defines x) (linked_by tags u)

    units_most : total weight units ≤ 1
    units_most = let m = most x in let e = total_flat (defines x) (linked_by tags) units in omega (arith, m, e)

    one_thing : (j k m n : ℕ) (u v : UnitData) (a b : X) → slice_get units j ≡ Some u → slice_get units k ≡ Some v → slice_get (items u) m ≡ Some a
        → slice_get (items v) n ≡ Some b → 1 ≤ total (defines x) (own u a) → 1 ≤ total (defines x) (own v b) → (j ≡ k) × (m ≡ n)
    one_thing j k m n u v a b hu hv ha hb wa wb = by_unit (j == k) refl
      where
        here : 1 ≤ weight u
        here = let l = one_place (λ y. total (defines x) (own u y)) (items u) m a ha in let r = among x u in omega (arith, l, r, wa)

        there : 1 ≤ weight v
        there = let l = one_place (λ y. total (defines x) (own v y)) (items v) n b hb in let r = among x v in omega (arith, l, r, wb)

        by_place : (c : Bool) → (m == n) ≡ c → j ≡ k → (j ≡ k) × (m ≡ n)
        by_place true e q = (q, same_number m n e)
        by_place false e q =
            let is = some_is u v (sym hu ∙ ap (slice_get units) q ∙ hv) in
            let hb' = subst (λ v. slice_get (items v) n ≡ Some b) (sym is) hb in
            let wb' = subst (λ v. 1 ≤ total (defines x) (own v b)) (sym is) wb in
            let l = two_places (λ y. total (defines x) (own u y)) (items u) m n a b (other_number m n e) ha hb' in
            let r = among x u in
            let o = one_place weight units j u hu in
            let t = units_most in
            absurd (omega (arith, l, r, o, t, wa, wb'))

        by_unit : (c : Bool) → (j == k) ≡ c → (j ≡ k) × (m ≡ n)
        by_unit true e = by_place (m == n) refl (same_number j k e)
        by_unit false e =
            let l = two_places weight units j k u v (other_number j k e) hu hv in
            let t = units_most in
            let h = here in
            let g = there in
            absurd (omega (arith, l, t, h, g))

  -- ---- objects and functions

  abbrev of_object : UnitData → Object → List Linked
  of_object u o = linked_object_in (structure_in tags u) u.types o

  abbrev of_function : UnitData → FunctionData → List Linked
  of_function u g = linked_function_in (structure_in tags u) u.types g

  objects_among : (x : List ℕ) (u : UnitData) → total (λ o. total (defines x) (of_object u o)) u.objects ≤ total (defines x) (linked_by tags u)
  objects_among x u =
      let a = total_append (defines x) (flat_map (of_object u) u.objects) (flat_map (of_function u) u.functions) in
      let b = total_flat (defines x) (of_object u) u.objects in
      omega (arith, a, b)

  functions_among : (x : List ℕ) (u : UnitData) → total (λ g. total (defines x) (of_function u g)) u.functions ≤ total (defines x) (linked_by tags u)
  functions_among x u =
      let a = total_append (defines x) (flat_map (of_object u) u.objects) (flat_map (of_function u) u.functions) in
      let b = total_flat (defines x) (of_function u) u.functions in
      omega (arith, a, b)

  object_defines : (u : UnitData) (o : Object) (x : List ℕ) → o.linked ≡ true → o.name ≡ x → is_some o.initial ≡ true → 1 ≤ total (defines x) (of_object u o)
  object_defines u o x l n d =
      let same : bytes_eq o.name x ≡ true = (bytes_eq-Decides o.name x).1 n in
      let own : defines x (record { name = o.name; place = o.place; ty = renumbered (structure_in tags u) (get_or u.types o.ty void); is_defined = is_some o.initial }) ≡ 1 =
      rw (same, d) refl in
      subst (λ b. 1 ≤ total (defines x) (if b
      then record { name = o.name; place = o.place; ty = renumbered (structure_in tags u) (get_or u.types o.ty void); is_defined = is_some o.initial } ∷ []
      else [])) (sym l) (omega (arith, own))

  function_defines : (u : UnitData) (o : FunctionData) (x : List ℕ) → o.is_linked ≡ true → o.name ≡ x → is_some o.body ≡ true
      → 1 ≤ total (defines x) (of_function u o)
  function_defines u o x l n d =
      let same : bytes_eq o.name x ≡ true = (bytes_eq-Decides o.name x).1 n in
      let own : defines x (record { name = o.name; place = o.place; ty = renumbered (structure_in tags u) (get_or u.types o.ty void); is_defined = is_some o.body }) ≡ 1 =
      rw (same, d) refl in
      subst (λ b. 1 ≤ total (defines x) (if b
      then record { name = o.name; place = o.place; ty = renumbered (structure_in tags u) (get_or u.types o.ty void); is_defined = is_some o.body } ∷ []
      else [])) (sym l) (omega (arith, own))

  pub one_object : (j k m n : ℕ) (u v : UnitData) (a b : Object) → slice_get units j ≡ Some u → slice_get units k ≡ Some v → slice_get u.objects m ≡ Some a
      → slice_get v.objects n ≡ Some b → a.linked ≡ true → b.linked ≡ true → a.name ≡ b.name → is_some a.initial ≡ true → is_some b.initial ≡ true
      → (j ≡ k) × (m ≡ n)
  one_object j k m n u v a b hu hv ha hb la lb name da db =
      one_thing (λ u. u.objects) of_object objects_among b.name j k m n u v a b hu hv ha hb (object_defines u a b.name la name da)
      (object_defines v b b.name lb refl db)

  pub one_function : (j k m n : ℕ) (u v : UnitData) (a b : FunctionData) → slice_get units j ≡ Some u → slice_get units k ≡ Some v
      → slice_get u.functions m ≡ Some a → slice_get v.functions n ≡ Some b → a.is_linked ≡ true → b.is_linked ≡ true → a.name ≡ b.name
      → is_some a.body ≡ true → is_some b.body ≡ true → (j ≡ k) × (m ≡ n)
  one_function j k m n u v a b hu hv ha hb la lb name da db =
      one_thing (λ u. u.functions) of_function functions_among b.name j k m n u v a b hu hv ha hb (function_defines u a b.name la name da)
      (function_defines v b b.name lb refl db)
