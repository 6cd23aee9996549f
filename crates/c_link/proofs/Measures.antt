-- Where the objects of units can be counted, so can those of their program.
use Rattle.std.proofs.Common.{◌≡◌, ℕ, zero, suc, ◌+◌, ◌⊎◌, inl, inr, Bool, true, false, ◌||◌, IsTrue, List, [], ◌∷◌, ◌++◌, Option, Some, None, map, flat_map}
use Rattle.std.proofs.Common.{get_or, length, refl, sym, ap, ◌∙◌, subst, add-one, arith}
use Rattle.std.specs.Prelude.{All, if◌then◌else◌}
use Rattle.std.specs.List.{list_any}
use Rattle.std.specs.Str.{bytes_eq}
use Rattle.std.proofs.lemmas.List.{map-append}
use Rattle.std.proofs.lemmas.List.Elements.{All-cons, All-head, All-nil, All-tail}
use Rattle.c_erasure.specs.Units.{new_among, number_in}
use Rattle.c_numbers.specs.NewNumbers.Parts.{function_in, local_in, object_in}
use Rattle.c_numbers.specs.TypeNumbers.Renumbered.{renumbered}
use Rattle.c_types.proofs.SameTypes.{same_is, same_self}
use Rattle.c_types.specs.Layouts.{size_of}
use Rattle.c_types.specs.Limits.{AreComplete}
use Rattle.c_types.specs.Objects.{is_object}
use Rattle.c_types.specs.Sameness.{same_type}
use Rattle.c_types.specs.Types.{CType, void}
use Rattle.c_typed.specs.declared.program.Local.{Local}
use Rattle.c_typed.specs.declared.program.Object.{Object}
use Rattle.c_typed.specs.Programs.{FunctionData, UnitData}
use Rattle.c_link.specs.Joining.{all_functions, all_functions_in, all_objects, all_objects_in, all_tags, chosen, chosen_among, function_identities}
use Rattle.c_link.specs.Joining.{functions}
use Rattle.c_link.specs.Joining.{functions_of, if_any, is_function_defined, is_object_defined, joined, numbered_from, object_identities, objects, objects_of}
use Rattle.c_link.specs.Joining.{or_first, paired}
use Rattle.c_link.specs.Joining.{records, renaming, structure_in, tables, type_in, types, types_in, under}
use Rattle.c_link.specs.Counting.{AreLocalsMeasured, AreMeasured, IsCountable, IsMeasured, type_of_unit}
use Rattle.c_link.specs.Gaps.{Agree, type_at}
use Rattle.c_link.proofs.JoinedRecords.{IsAmong, among_flat, among_map, stand_among}
use Rattle.c_link.proofs.Layouts.{lies_alike}

-- ---- what is among lists

each_is : {A : Type 0} (P : A → Type 0) (all : List A) → ((x : A) → IsAmong x all → P x) → All P all
each_is P [] h = All-nil P
each_is P (x ∷ more) h = All-cons P x more (h x (inl refl)) (each_is P more (λ y k. h y (inr k)))

pub is_each : {A : Type 0} (P : A → Type 0) (all : List A) → All P all → (x : A) → IsAmong x all → P x
is_each P [] h x k = absurd k
is_each P (y ∷ more) h x (inl e) = subst P (sym e) (All-head P y more h)
is_each P (y ∷ more) h x (inr k) = is_each P more (All-tail P y more h) x k

append_among : {A : Type 0} (x : A) (xs ys : List A) → IsAmong x (xs ++ ys) → IsAmong x xs ⊎ IsAmong x ys
append_among x [] ys h = inr h
append_among x (y ∷ more) ys (inl e) = inl (inl e)
append_among x (y ∷ more) ys (inr h) = elim (append_among x more ys h) [ inl k ↦ inl (inr k) | inr k ↦ inr k ]

flat_among : {A B : Type 0} (f : A → List B) (all : List A) (x : B) → IsAmong x (flat_map f all) → (y : A) × IsAmong y all × IsAmong x (f y)
flat_among f [] x h = absurd h
flat_among f (y ∷ more) x h =
    elim (append_among x (f y) (flat_map f more) h) [
      | inl k ↦ (y, inl refl, k)
      | inr k ↦ let w = flat_among f more x k in (w.0, inr w.1, w.2)
    ]

map_among : {A B : Type 0} (f : A → B) (all : List A) (x : B) → IsAmong x (map f all) → (y : A) × IsAmong y all × (x ≡ f y)
map_among f [] x h = absurd h
map_among f (y ∷ more) x (inl e) = (y, inl refl, e)
map_among f (y ∷ more) x (inr h) = let w = map_among f more x h in (w.0, inr w.1, w.2)

-- ---- what is chosen under a key

under_among : {A : Type 0} (i : List ℕ) (ps : List (List ℕ × A)) (x : A) → IsAmong x (under i ps) → (p : List ℕ × A) × IsAmong p ps × (x ≡ p.1)
under_among i [] x h = absurd h
under_among {A = A} i (p ∷ more) x h =
    go (bytes_eq i p.0) h (under_among i more x)
  where
    go : (b : Bool) → IsAmong x (if b then p.1 ∷ under i more else under i more)
        → (IsAmong x (under i more) → (q : List ℕ × A) × IsAmong q more × (x ≡ q.1)) → (q : List ℕ × A) × IsAmong q (p ∷ more) × (x ≡ q.1)
    go true (inl e) f = (p, inl refl, e)
    go true (inr k) f = let w = f k in (w.0, inr w.1, w.2)
    go false k f = let w = f k in (w.0, inr w.1, w.2)

among_chosen : {A : Type 0} (d : A → Bool) (xs : List A) (x : A) → IsAmong x (if_any (chosen_among d xs)) → IsAmong x xs
among_chosen d [] x h = absurd h
among_chosen d (y ∷ more) x h =
    go (d y) h (among_chosen d more x)
  where
    go : (b : Bool) → IsAmong x (if_any (if b then Some y else chosen_among d more)) → (IsAmong x (if_any (chosen_among d more)) → IsAmong x more) → IsAmong x (y ∷ more)
    go true (inl e) f = inl e
    go true (inr k) f = absurd k
    go false k f = inr (f k)

chosen_among_all : {A : Type 0} (d : A → Bool) (xs : List A) (x : A) → IsAmong x (if_any (chosen d xs)) → IsAmong x xs
chosen_among_all d [] x h = absurd h
chosen_among_all {A = A} d (y ∷ more) x h =
    go (d y) (chosen_among d more) h (among_chosen d more x)
  where
    go : (b : Bool) (o : Option A) → IsAmong x (if_any (if b then Some y else or_first y o)) → (IsAmong x (if_any o) → IsAmong x more)
        → IsAmong x (y ∷ more)
    go true o (inl e) f = inl e
    go true o (inr k) f = absurd k
    go false None (inl e) f = inl e
    go false None (inr k) f = absurd k
    go false (Some z) k f = inr (f k)

-- ---- units with their numbers, and what stands in pairs

numbered_among : (k : ℕ) (units : List UnitData) (u : ℕ × UnitData) → IsAmong u (numbered_from k units) → IsAmong u.1 units
numbered_among k [] u h = absurd h
numbered_among k (v ∷ more) u (inl e) = inl (ap (λ p. p.1) e)
numbered_among k (v ∷ more) u (inr h) = inr (numbered_among (k + 1) more u h)

paired_among : {A B : Type 0} (xs : List A) (ys : List B) (p : A × B) → IsAmong p (paired xs ys) → IsAmong p.1 ys
paired_among [] ys p h = absurd h
paired_among (x ∷ xs) [] p h = absurd h
paired_among (x ∷ xs) (y ∷ ys) p (inl e) = inl (ap (λ q. q.1) e)
paired_among (x ∷ xs) (y ∷ ys) p (inr h) = inr (paired_among xs ys p h)

-- an object of the program is one of a unit
object_of_unit : (units : List UnitData) (x : Object) → IsAmong x (objects units)
    → (k : ℕ) × (u : UnitData) × (o : Object) × IsAmong u units × IsAmong o u.objects × (x ≡ object_in (renaming (tables units) k u) o)
object_of_unit units x h =
    let a = flat_among (λ i. if_any (chosen is_object_defined (under i (all_objects_in units)))) (all_objects units) x h in
    let b = under_among a.0 (all_objects_in units) x (chosen_among_all is_object_defined (under a.0 (all_objects_in units)) x a.2) in
    let c = flat_among (λ (u : ℕ × UnitData). objects_of (tables units) u.0 u.1) (numbered_from 0 units) b.0 b.1 in
    let u = c.0 in
    let ren = renaming (tables units) u.0 u.1 in
    let d = map_among (object_in ren) u.1.objects b.0.1 (paired_among (object_identities u.0 0 u.1.objects) (map (object_in ren) u.1.objects) b.0 c.2) in
    (u.0, u.1, d.0, numbered_among 0 units u c.1, d.1, b.2 ∙ d.2)

function_of_unit : (units : List UnitData) (x : FunctionData) → IsAmong x (functions units)
    → (k : ℕ) × (u : UnitData) × (f : FunctionData) × IsAmong u units × IsAmong f u.functions × (x ≡ function_in (renaming (tables units) k u) f)
function_of_unit units x h =
    let a = flat_among (λ i. if_any (chosen is_function_defined (under i (all_functions_in units)))) (all_functions units) x h in
    let b = under_among a.0 (all_functions_in units) x (chosen_among_all is_function_defined (under a.0 (all_functions_in units)) x a.2) in
    let c = flat_among (λ (u : ℕ × UnitData). functions_of (tables units) u.0 u.1) (numbered_from 0 units) b.0 b.1 in
    let u = c.0 in
    let ren = renaming (tables units) u.0 u.1 in
    let d = map_among (function_in ren) u.1.functions b.0.1 (paired_among (function_identities u.0 0 u.1.functions) (map (function_in ren) u.1.functions) b.0 c.2) in
    (u.0, u.1, d.0, numbered_among 0 units u c.1, d.1, b.2 ∙ d.2)

-- ---- types by their numbers

any_among : (t : CType) (known : List CType) → list_any (same_type t) known ≡ true → IsAmong t known
any_among t [] h = absurd (let k : false ≡ true = h in cc)
any_among t (s ∷ more) h =
    go (same_type t s) refl h (any_among t more)
  where
    go : (b : Bool) → same_type t s ≡ b → (b || list_any (same_type t) more) ≡ true → (list_any (same_type t) more ≡ true → IsAmong t more) → IsAmong t (s ∷ more)
    go true e k f = inl (same_is t s e)
    go false e k f = inr (f k)

still_new : (t : CType) (known all : List CType) → IsAmong t all → IsAmong t known ⊎ IsAmong t (new_among known all)
still_new t known [] h = absurd h
still_new t known (s ∷ more) h =
    go (list_any (same_type s) known) refl h (still_new t known more) (still_new t (s ∷ known) more)
  where
    later : IsAmong t (s ∷ known) ⊎ IsAmong t (new_among (s ∷ known) more) → IsAmong t known ⊎ IsAmong t (s ∷ new_among (s ∷ known) more)
    later (inl (inl e)) = inr (inl e)
    later (inl (inr k)) = inl k
    later (inr k) = inr (inr k)

    go : (b : Bool) → list_any (same_type s) known ≡ b → IsAmong t (s ∷ more) → (IsAmong t more → IsAmong t known ⊎ IsAmong t (new_among known more))
        → (IsAmong t more → IsAmong t (s ∷ known) ⊎ IsAmong t (new_among (s ∷ known) more))
        → IsAmong t known ⊎ IsAmong t (if b then new_among known more else s ∷ new_among (s ∷ known) more)
    go true e (inl is) f g = inl (subst (λ x. IsAmong x known) (sym is) (any_among s known e))
    go true e (inr k) f g = f k
    go false e (inl is) f g = inr (inl is)
    go false e (inr k) f g = later (g k)

found_again : (t : CType) (all : List CType) → IsAmong t all → get_or all (number_in all t) void ≡ t
found_again t [] h = absurd h
found_again t (s ∷ more) h =
    go (same_type s t) refl h (found_again t more)
  where
    go : (b : Bool) → same_type s t ≡ b → IsAmong t (s ∷ more) → (IsAmong t more → get_or more (number_in more t) void ≡ t)
        → get_or (s ∷ more) (if b then 0 else number_in more t + 1) void ≡ t
    go true e k f = same_is s t e
    go false e (inl is) f = absurd (let k : false ≡ true = sym e ∙ same_self s t (sym is) in cc)
    go false e (inr k) f = ap (λ n. get_or (s ∷ more) n void) (add-one (number_in more t)) ∙ f k

in_range : (all : List CType) (i count : ℕ) → IsTrue (is_object count (get_or all i void)) → IsAmong (get_or all i void) all
in_range [] i count h = absurd (let k : false ≡ true = h in cc)
in_range (t ∷ more) zero count h = inl refl
in_range (t ∷ more) (suc i) count h = inr (in_range more i count h)

-- ---- one type

module _ (units : List UnitData) (agree : Agree units) (whole : AreComplete (records units)) where
  measured : (u : UnitData) → IsAmong u units → AreComplete u.records → (k i : ℕ) → IsMeasured u.records (type_of_unit u i)
      → IsMeasured (records units) (get_or (types units) ((renaming (tables units) k u).ty i) void)
  measured u there complete k i h =
      let tags = all_tags units in
      let t = type_of_unit u i in
      let f = structure_in tags u in
      let all = flat_map (types_in tags) units in
      let a : IsAmong (type_in tags u t) (types_in tags u) = among_map (type_in tags u) t u.types (in_range u.types i (length u.records) h.complete) in
      let b : IsAmong (type_in tags u t) (types units) =
      elim (still_new (type_in tags u t) [] all (among_flat (types_in tags) u units (type_in tags u t) there a)) [ inl k ↦ absurd k | inr k ↦ k ] in
      let e : get_or (types units) ((renaming (tables units) k u).ty i) void ≡ renumbered f t = found_again (type_in tags u t) (types units) b in
      let w = lies_alike f u.records (records units) complete whole (stand_among units agree.tags u there) t h.complete in
      let s : size_of (records units) (renumbered f t) ≡ size_of u.records t = w.alike.sizes in
      let small = h.small in
      subst (IsMeasured (records units)) (sym e) (record { complete = w.object; small = omega (arith, s, small) })

  pub are_measured : All IsCountable units → AreMeasured (joined units)
  are_measured h = record {
    objects = each_is (λ o. IsMeasured (records units) (type_at (joined units) o.ty)) (objects units) one_object;
    locals = each_is (AreLocalsMeasured (joined units)) (functions units) one_function;
  }
    where
      one_object : (x : Object) → IsAmong x (objects units) → IsMeasured (records units) (type_at (joined units) x.ty)
      one_object x there =
          let w = object_of_unit units x there in
          let u = w.1 in
          let o = w.2 in
          let c = is_each IsCountable units h u w.3 in
          let m = is_each (λ o. IsMeasured u.records (type_of_unit u o.ty)) u.objects c.objects o w.4 in
          subst (λ (y : Object). IsMeasured (records units) (type_at (joined units) y.ty)) (sym w.5) (measured u w.3 c.records w.0 o.ty m)

      one_local : (k : ℕ) (u : UnitData) (f : FunctionData) → IsAmong u units → IsCountable u → IsAmong f u.functions → (l : Local)
          → IsAmong l (map (local_in (renaming (tables units) k u)) (f.parameters ++ f.locals)) → IsMeasured (records units) (type_at (joined units) l.ty)
      one_local k u f there c of_unit l h =
          let w = map_among (local_in (renaming (tables units) k u)) (f.parameters ++ f.locals) l h in
          let all = is_each (λ f. All (λ l. IsMeasured u.records (type_of_unit u l.ty)) (f.parameters ++ f.locals)) u.functions c.locals f of_unit in
          let m = is_each (λ l. IsMeasured u.records (type_of_unit u l.ty)) (f.parameters ++ f.locals) all w.0 w.1 in
          subst (λ (y : Local). IsMeasured (records units) (type_at (joined units) y.ty)) (sym w.2) (measured u there c.records k w.0.ty m)

      one_function : (x : FunctionData) → IsAmong x (functions units) → AreLocalsMeasured (joined units) x
      one_function x there =
          let w = function_of_unit units x there in
          let u = w.1 in
          let f = w.2 in
          let ren = renaming (tables units) w.0 u in
          let c = is_each IsCountable units h u w.3 in
          let P : Local → Type 0 = λ l. IsMeasured (records units) (type_at (joined units) l.ty) in
          let all : All P (map (local_in ren) (f.parameters ++ f.locals)) =
          each_is P (map (local_in ren) (f.parameters ++ f.locals)) (one_local w.0 u f w.3 c w.4) in
          subst (AreLocalsMeasured (joined units)) (sym w.5) (subst (All P) (map-append (local_in ren) f.parameters f.locals) all)
