-- The functions of a program are well typed where those of its units are.
use Rattle.std.proofs.Common.{◌≡◌, ◌∙◌, ℕ, zero, suc, ◌+◌, ◌≤◌, ◌<◌, true, false, refl, sym, ap, subst, List, [], ◌∷◌, ◌++◌, length, map, flat_map}
use Rattle.std.proofs.Common.{arith, inl, inr}
use Rattle.std.proofs.lemmas.List.{map-append, length-map}
use Rattle.std.proofs.lemmas.List.Elements.{recursion_from_All, All-from_recursion}
use Rattle.std.proofs.lemmas.Option.{unwrap_or-slice_get}
use Rattle.std.specs.Prelude.{◌⊎◌, All, Option, Some, None, slice_get, get_or, is_some, codes}
use Rattle.std.specs.List.{AllByRecursion}
use Rattle.std.specs.Option.{option_map}
use Rattle.c_numbers.specs.KeyNumbers.Keys.{position}
use Rattle.c_types.specs.Limits.{AreComplete, AreSmall}
use Rattle.c_types.specs.Objects.{is_object}
use Rattle.c_types.specs.declared.ty.IntKind.TheVariants.{Int}
use Rattle.c_types.specs.Types.{CType, CTypes, void, integer, function, no_types, and_type}
use Rattle.c_types.specs.Views.{listed}
use Rattle.c_numbers.specs.TypeNumbers.Renumbered.{renumbered, all_renumbered}
use Rattle.c_typed.specs.declared.program.Local.{Local}
use Rattle.c_typed.specs.declared.program.Object.{Object}
use Rattle.c_typed.specs.Mapped.{Renaming, of_types, mapped_statement}
use Rattle.c_typed.specs.Programs.{FunctionData, UnitData}
use Rattle.c_typed.specs.Trees as Trees
use Rattle.c_typed.specs.TypedStatements.{IsTypedStatement}
use Rattle.c_typed.specs.TypeNumbers.{type_at}
use Rattle.c_typed.specs.Walk.{types_in_statement}
use Rattle.c_erasure.specs.Units.{number_in}
use Rattle.c_numbers.specs.NewNumbers.Parts.{function_in, local_in, object_in}
use Rattle.c_link.specs.Joining.{joined, tables, all_tags, structure_in, type_in, types_in, types, renaming, numbered_from, object_identities}
use Rattle.c_link.specs.Joining.{function_identities, identity}
use Rattle.c_link.specs.Joining.{objects, functions, records, all_objects, all_functions, is_object_defined, is_function_defined}
use Rattle.c_link.specs.Gaps.{Agree}
use Rattle.c_link.proofs.JoinedRecords as Joined
use Rattle.c_link.proofs.JoinedRecords.{among_at, among_flat, among_map, stand_among}
use Rattle.c_link.proofs.Layouts.{lies_alike}
use Rattle.c_checking_laws.proofs.WholeFiles.CompleteObjects.{mapped_at}
use Rattle.c_well_typed.specs.WellTyped.{Lists, of_unit, of_program, count_up, declared_in, AreDifferent, HasFewParts, IsResult, AreScalars, HasBody}
use Rattle.c_well_typed.specs.WellTyped.{IsTypedFunction, HasObjectType, HaveTypedFunctions, HasMain}
use Rattle.c_well_typed.proofs.Composed as Composed
use Rattle.c_well_typed.proofs.Labels.{all_declared_mapped}
use Rattle.c_well_typed.proofs.LookedUp.{from_zero, flat_among, IsFound, looked_up, of_name, of_unit as found_unit, one_unit, unit_among}
use Rattle.c_well_typed.proofs.Numbers.{IsAmong, all_among, of_all, taken_up, AreOnce, once, IsNumbered, numbered}
use Rattle.c_well_typed.proofs.OneType.{program_type, object_type, function_type}
use Rattle.c_well_typed.proofs.Renumbered.{m, AreRenumbered}
use Rattle.c_well_typed.proofs.RenumberedParts.{fields_again, part_again}
use Rattle.c_well_typed.proofs.RenumberedStatements.{statement_again}
use Rattle.c_well_typed.proofs.RenumberedTypes.{scalar_same, parts_same, types_listed}
use Rattle.c_well_typed.proofs.TypesMapped.{types_of_statement}

-- ---- lists

some_is : {A : Type 0} (x y : A) → Some x ≡ Some y → x ≡ y
some_is x y h = cc

turned : {A : Type 0} (x : A) (xs : List A) → Joined.IsAmong x xs → IsAmong x xs
turned x [] h = h
turned x (y ∷ xs) (inl e) = inl e
turned x (y ∷ xs) (inr h) = inr (turned x xs h)

pub each_is : {A : Type 0} (P : A → Type 0) (xs : List A) → ((x : A) → Joined.IsAmong x xs → P x) → AllByRecursion P xs
each_is P [] h = tt
each_is P (x ∷ xs) h = (h x (inl refl), each_is P xs (λ y k. h y (inr k)))

pub is_each : {A : Type 0} (P : A → Type 0) (xs : List A) → AllByRecursion P xs → (x : A) → Joined.IsAmong x xs → P x
is_each P [] h x k = absurd k
is_each P (y ∷ xs) h x (inl e) = subst P (sym e) h.0
is_each P (y ∷ xs) h x (inr k) = is_each P xs h.1 x k

pub unmapped_at : {A B : Type 0} (v : A → B) (xs : List A) (n : ℕ) (y : B) → slice_get (map v xs) n ≡ Some y → (x : A) × (slice_get xs n ≡ Some x) × (v x ≡ y)
unmapped_at v [] n y h = cc
unmapped_at v (x ∷ xs) zero y h = (x, refl, some_is (v x) y h)
unmapped_at v (x ∷ xs) (suc n) y h = unmapped_at v xs n y h

type_among : (all : List CType) (i : ℕ) → i < length all → Joined.IsAmong (type_at all i) all
type_among [] i h = absurd (omega (arith, h))
type_among (t ∷ all) zero h = inl refl
type_among (t ∷ all) (suc i) h = inr (type_among all i (omega (arith, h)))

mapped_all : {A B : Type 0} (P : A → Type 0) (Q : B → Type 0) (v : A → B) (xs : List A) → ((x : A) → P x → Q (v x)) → AllByRecursion P xs
    → AllByRecursion Q (map v xs)
mapped_all P Q v [] f h = tt
mapped_all P Q v (x ∷ xs) f h = (f x h.0, mapped_all P Q v xs f h.1)

each_so : {A : Type 0} (P Q : A → Type 0) (xs : List A) → ((x : A) → P x → Q x) → AllByRecursion P xs → AllByRecursion Q xs
each_so P Q [] f h = tt
each_so P Q (x ∷ xs) f h = (f x h.0, each_so P Q xs f h.1)

always : {A : Type 0} (Q : A → Type 0) (xs : List A) → ((x : A) → Q x) → AllByRecursion Q xs
always Q [] f = tt
always Q (x ∷ xs) f = (f x, always Q xs f)

-- ---- identities by their places

pub object_identity : (k n : ℕ) (all : List Object) (i : ℕ) (o : Object) → slice_get all i ≡ Some o
    → get_or (object_identities k n all) i [] ≡ identity k o.linked o.name (n + i)
object_identity k n [] i o h = cc
object_identity k n (p ∷ all) zero o h =
    let is = some_is p o h in
    ap (λ (p : Object). identity k p.linked p.name n) is ∙ ap (identity k o.linked o.name) (let z : n ≡ n + 0 = omega arith in z)
object_identity k n (p ∷ all) (suc i) o h =
    object_identity k (n + 1) all i o h ∙ ap (identity k o.linked o.name) (let z : n + 1 + i ≡ n + suc i = omega arith in z)

function_identity : (k n : ℕ) (all : List FunctionData) (i : ℕ) (o : FunctionData) → slice_get all i ≡ Some o
    → get_or (function_identities k n all) i [] ≡ identity k o.is_linked o.name (n + i)
function_identity k n [] i o h = cc
function_identity k n (p ∷ all) zero o h =
    let is = some_is p o h in
    ap (λ (p : FunctionData). identity k p.is_linked p.name n) is ∙ ap (identity k o.is_linked o.name) (let z : n ≡ n + 0 = omega arith in z)
function_identity k n (p ∷ all) (suc i) o h =
    function_identity k (n + 1) all i o h ∙ ap (identity k o.is_linked o.name) (let z : n + 1 + i ≡ n + suc i = omega arith in z)

module _ (units : List UnitData) (agree : Agree units) (complete : AreComplete (records units))
    (each : (u : UnitData) → Joined.IsAmong u units → HaveTypedFunctions (of_unit u)) where
  abbrev pub T : List CType
  T = types units

  abbrev pub P : Lists
  P = of_program (joined units)

  abbrev pub R : UnitData → CType → CType
  R u t = renumbered (structure_in (all_tags units) u) t

  abbrev pub N : ℕ → UnitData → Renaming ℕ ℕ
  N k u = renaming (tables units) k u

  -- ---- types

  known : (u : UnitData) → Joined.IsAmong u units → (i : ℕ) → i < length u.types → IsNumbered T (R u (type_at u.types i))
  known u h i l =
      let t = type_at u.types i in
      let own : Joined.IsAmong (type_in (all_tags units) u t) (types_in (all_tags units) u) =
      among_map (type_in (all_tags units) u) t u.types (type_among u.types i l) in
      let all = flat_map (types_in (all_tags units)) units in
      let there = among_flat (types_in (all_tags units)) u units (type_in (all_tags units) u t) h own in
      numbered T (R u t) (taken_up all (R u t) (turned (R u t) all there))

  pub type_is : (u : UnitData) → Joined.IsAmong u units → (k i : ℕ) → i < length u.types
      → ((N k u).ty i < length T) × (type_at T ((N k u).ty i) ≡ R u (type_at u.types i))
  type_is u h k i l =
      subst (λ t. (number_in T (type_in (all_tags units) u t) < length T) × (type_at T (number_in T (type_in (all_tags units) u t)) ≡ R u (type_at u.types i)))
      (unwrap_or-slice_get u.types i void) (known u h i l)

  program_type_is : (u : UnitData) (i : ℕ) → program_type units agree.names u i ≡ R u (type_at u.types i)
  program_type_is u i = ap (R u) (sym (unwrap_or-slice_get u.types i void))

  -- what is complete in a unit is complete in the program
  lies_in : (u : UnitData) → Joined.IsAmong u units → (t : CType) → is_object (length u.records) t ≡ true → is_object (length (records units)) (R u t) ≡ true
  lies_in u h t o =
      (lies_alike (structure_in (all_tags units) u) u.records (records units) (each u h).records complete (stand_among units agree.tags u h) t o).object

  -- ---- objects by their numbers

  pub object_typed : (u : UnitData) → Joined.IsAmong u units → (o : Object) → Joined.IsAmong o u.objects → HasObjectType (of_unit u) o
  object_typed u h o i =
      is_each (HasObjectType (of_unit u)) u.objects (recursion_from_All (HasObjectType (of_unit u)) u.objects (each u h).object_types) o i

  function_typed : (u : UnitData) → Joined.IsAmong u units → (g : FunctionData) → Joined.IsAmong g u.functions → IsTypedFunction (of_unit u) g
  function_typed u h g i = is_each (IsTypedFunction (of_unit u)) u.functions (recursion_from_All (IsTypedFunction (of_unit u)) u.functions (each u h).functions) g i

  abbrev ObjectFound : ℕ → UnitData → ℕ → Object → Type 0
  ObjectFound k u n o = IsFound (λ (o : Object). o.linked) (λ (o : Object). o.name) (λ (u : UnitData). u.objects) is_object_defined (λ k u o. object_in (N k u) o)
      object_identities (λ k n. refl) (λ k n x more. refl) units k u n o

  find_object : (k : ℕ) (u : UnitData) → Joined.IsAmong (k, u) (numbered_from 0 units) → (n : ℕ) (o : Object) → slice_get u.objects n ≡ Some o
      → ObjectFound k u n o
  find_object = looked_up (λ (o : Object). o.linked) (λ (o : Object). o.name) (λ (u : UnitData). u.objects) is_object_defined (λ k u o. object_in (N k u) o)
      object_identities (λ k n. refl) (λ k n x more. refl) units

  abbrev FunctionFound : ℕ → UnitData → ℕ → FunctionData → Type 0
  FunctionFound k u n o = IsFound (λ (o : FunctionData). o.is_linked) (λ (o : FunctionData). o.name) (λ (u : UnitData). u.functions) is_function_defined
      (λ k u o. function_in (N k u) o) function_identities (λ k n. refl) (λ k n x more. refl) units k u n o

  find_function : (k : ℕ) (u : UnitData) → Joined.IsAmong (k, u) (numbered_from 0 units) → (n : ℕ) (o : FunctionData) → slice_get u.functions n ≡ Some o
      → FunctionFound k u n o
  find_function = looked_up (λ (o : FunctionData). o.is_linked) (λ (o : FunctionData). o.name) (λ (u : UnitData). u.functions) is_function_defined
      (λ k u o. function_in (N k u) o) function_identities (λ k n. refl) (λ k n x more. refl) units

  -- what is under the number of an object has its type
  pub object_again : (k : ℕ) (u : UnitData) → Joined.IsAmong (k, u) (numbered_from 0 units) → (n : ℕ) (o : Object) → slice_get u.objects n ≡ Some o
      → slice_get (map (λ o. type_at T o.ty) (objects units)) ((N k u).object n) ≡ Some (R u (type_at u.types o.ty))
  object_again k u h n o e =
      let z = find_object k u h n o e in
      let number : (N k u).object n ≡ position (all_objects units) (identity k o.linked o.name n) =
      ap (position (all_objects units)) (object_identity k 0 u.objects n o e ∙ ap (identity k o.linked o.name) (from_zero n)) in
      let there = unit_among 0 units (z.number, z.unit) z.numbered in
      let own = among_at z.unit.objects z.place z.thing z.there in
      let ty = (type_is z.unit there z.number z.thing.ty (object_typed z.unit there z.thing own).0).1 in
      mapped_at (λ (o : Object). type_at T o.ty) (objects units) ((N k u).object n) z.found (ap (slice_get (objects units)) number ∙ z.stands)
      ∙ ap (λ (y : Object). Some (type_at T y.ty)) z.is
      ∙ ap Some (ty ∙ by_case z.unit z.numbered z.thing z.there there own z.alike)
    where
      by_case : {j p : ℕ} (v : UnitData) → Joined.IsAmong (j, v) (numbered_from 0 units) → (q : Object) → slice_get v.objects p ≡ Some q
          → Joined.IsAmong v units → Joined.IsAmong q v.objects
          → ((o.linked ≡ true) × (q.linked ≡ true) × (o.name ≡ q.name)) ⊎ ((k ≡ j) × (n ≡ p))
          → R v (type_at v.types q.ty) ≡ R u (type_at u.types o.ty)
      by_case v i q at there own (inl a) =
          sym (program_type_is v q.ty)
          ∙ sym (object_type units agree.names u v (unit_among 0 units (k, u) h) there o q (among_at u.objects n o e) own a.0 a.1 a.2)
          ∙ program_type_is u o.ty
      by_case {j} {p} v i q at there own (inr a) =
          let same : u ≡ v = one_unit 0 k u v units h (subst (λ j. Joined.IsAmong (j, v) (numbered_from 0 units)) (sym a.0) i) in
          let thing : slice_get u.objects n ≡ Some q = subst (λ p. slice_get u.objects p ≡ Some q) (sym a.1) (subst (λ (v : UnitData). slice_get v.objects p ≡ Some q) (sym same) at) in
          let is = some_is o q (sym e ∙ thing) in
          ap (λ (v : UnitData). R v (type_at v.types q.ty)) (sym same) ∙ ap (λ (q : Object). R u (type_at u.types q.ty)) (sym is)

  pub function_again : (k : ℕ) (u : UnitData) → Joined.IsAmong (k, u) (numbered_from 0 units) → (n : ℕ) (o : FunctionData) → slice_get u.functions n ≡ Some o
      → slice_get (map (λ o. type_at T o.ty) (functions units)) ((N k u).function n) ≡ Some (R u (type_at u.types o.ty))
  function_again k u h n o e =
      let z = find_function k u h n o e in
      let number : (N k u).function n ≡ position (all_functions units) (identity k o.is_linked o.name n) =
      ap (position (all_functions units)) (function_identity k 0 u.functions n o e ∙ ap (identity k o.is_linked o.name) (from_zero n)) in
      let there = unit_among 0 units (z.number, z.unit) z.numbered in
      let own = among_at z.unit.functions z.place z.thing z.there in
      let ty = (type_is z.unit there z.number z.thing.ty (function_typed z.unit there z.thing own).2).1 in
      mapped_at (λ (o : FunctionData). type_at T o.ty) (functions units) ((N k u).function n) z.found (ap (slice_get (functions units)) number ∙ z.stands)
      ∙ ap (λ (y : FunctionData). Some (type_at T y.ty)) z.is
      ∙ ap Some (ty ∙ by_case z.unit z.numbered z.thing z.there there own z.alike)
    where
      by_case : {j p : ℕ} (v : UnitData) → Joined.IsAmong (j, v) (numbered_from 0 units) → (q : FunctionData) → slice_get v.functions p ≡ Some q
          → Joined.IsAmong v units → Joined.IsAmong q v.functions
          → ((o.is_linked ≡ true) × (q.is_linked ≡ true) × (o.name ≡ q.name)) ⊎ ((k ≡ j) × (n ≡ p))
          → R v (type_at v.types q.ty) ≡ R u (type_at u.types o.ty)
      by_case v i q at there own (inl a) =
          sym (program_type_is v q.ty)
          ∙ sym (function_type units agree.names u v (unit_among 0 units (k, u) h) there o q (among_at u.functions n o e) own a.0 a.1 a.2)
          ∙ program_type_is u o.ty
      by_case {j} {p} v i q at there own (inr a) =
          let same : u ≡ v = one_unit 0 k u v units h (subst (λ j. Joined.IsAmong (j, v) (numbered_from 0 units)) (sym a.0) i) in
          let thing : slice_get u.functions n ≡ Some q = subst (λ p. slice_get u.functions p ≡ Some q) (sym a.1) (subst (λ (v : UnitData). slice_get v.functions p ≡ Some q) (sym same) at) in
          let is = some_is o q (sym e ∙ thing) in
          ap (λ (v : UnitData). R v (type_at v.types q.ty)) (sym same) ∙ ap (λ (q : FunctionData). R u (type_at u.types q.ty)) (sym is)

  -- ---- a function of a unit

  module _ (k : ℕ) (u : UnitData) (h : Joined.IsAmong (k, u) (numbered_from 0 units)) (g : FunctionData) (t : IsTypedFunction (of_unit u) g) where
    there : Joined.IsAmong u units
    there = unit_among 0 units (k, u) h

    abbrev S : ℕ → ℕ
    S = structure_in (all_tags units) u

    abbrev G : FunctionData
    G = function_in (N k u) g

    abbrev Ranged : List Local → Type 0
    Ranged all = AllByRecursion (λ (x : Local). x.ty < length u.types) all

    locals_same : (all : List Local) → Ranged all
        → map (λ x. type_at T x.ty) (map (local_in (N k u)) all) ≡ map (R u) (map (λ x. type_at u.types x.ty) all)
    locals_same [] r = refl
    locals_same (x ∷ all) r = rw ((type_is u there k x.ty r.0).1, locals_same all r.1) refl

    ranged : Ranged (g.parameters ++ g.locals)
    ranged = recursion_from_All (λ (x : Local). x.ty < length u.types) (g.parameters ++ g.locals) t.4

    front : (a b : List Local) → Ranged (a ++ b) → Ranged a
    front [] b r = tt
    front (x ∷ a) b r = (r.0, front a b r.1)

    all_same : map (λ x. type_at T x.ty) (G.parameters ++ G.locals) ≡ map (R u) (map (λ x. type_at u.types x.ty) (g.parameters ++ g.locals))
    all_same =
        ap (map (λ (x : Local). type_at T x.ty)) (sym (map-append (local_in (N k u)) g.parameters g.locals))
        ∙ locals_same (g.parameters ++ g.locals) ranged

    lies : (t : CType) → is_object (length u.records) t ≡ true → is_object (length (records units)) (R u t) ≡ true
    lies t o = lies_in u there t o

    renumbers : AreRenumbered S (N k u).object (N k u).function (declared_in (of_unit u) g) (declared_in P G)
    renumbers = record {
      locals = λ n t e. ap (λ all. slice_get all n) all_same ∙ mapped_at (R u) (map (λ (x : Local). type_at u.types x.ty) (g.parameters ++ g.locals)) n t e;
      objects = λ n t e.
          let z = unmapped_at (λ (o : Object). type_at u.types o.ty) u.objects n t e in
          object_again k u h n z.0 z.1 ∙ ap (λ t. Some (R u t)) z.2;
      functions = λ n t e.
          let z = unmapped_at (λ (o : FunctionData). type_at u.types o.ty) u.functions n t e in
          function_again k u h n z.0 z.1 ∙ ap (λ t. Some (R u t)) z.2;
      fields = fields_again S u.records (records units) (each u there).records complete (stand_among units agree.tags u there);
      complete = λ at t o. lies t o;
      whole = lies;
      parts = part_again S u.records (records units) (each u there).records complete (stand_among units agree.tags u there);
    }

    -- types that stand for both
    abbrev K : Renaming ℕ CType
    K = record { ty = λ i. R u (type_at u.types i); object = (N k u).object; function = (N k u).function; structure = S }

    body_same : (body : Trees.Statement ℕ) → All (λ i. i < length u.types) (types_in_statement body)
        → mapped_statement (of_types (type_at T)) (mapped_statement (N k u) body)
        ≡ mapped_statement (m S (N k u).object (N k u).function) (mapped_statement (of_types (type_at u.types)) body)
    body_same body r =
        let own = recursion_from_All (λ i. i < length u.types) (types_in_statement body) r in
        Composed.of_statement (N k u) (of_types (type_at T)) K (λ i. refl) (λ i. refl) (λ i. refl) body
        (each_so (λ i. i < length u.types) (λ i. type_at T ((N k u).ty i) ≡ R u (type_at u.types i)) (types_in_statement body)
        (λ i l. (type_is u there k i l).1) own)
        ∙ sym (Composed.of_statement (of_types (type_at u.types)) (m S (N k u).object (N k u).function) K (λ i. refl) (λ i. refl) (λ i. refl) body
        (always (λ i. R u (type_at u.types i) ≡ R u (type_at u.types i)) (types_in_statement body) (λ i. refl)))

    body_ranged : (body : Trees.Statement ℕ) → All (λ i. i < length u.types) (types_in_statement body)
        → All (λ i. i < length T) (types_in_statement (mapped_statement (N k u) body))
    body_ranged body r =
        subst (All (λ i. i < length T)) (sym (types_of_statement (N k u) body))
        (All-from_recursion (λ i. i < length T) (map (N k u).ty (types_in_statement body))
        (mapped_all (λ i. i < length u.types) (λ i. i < length T) (N k u).ty (types_in_statement body) (λ i l. (type_is u there k i l).0)
        (recursion_from_All (λ i. i < length u.types) (types_in_statement body) r)))

    result_again : (t : CType) → IsResult t → IsResult (R u t)
    result_again t (inl h) = inl (scalar_same S t ∙ h)
    result_again t (inr h) = inr (ap (R u) h)

    scalars_again : (all : CTypes) → AreScalars all → AreScalars (all_renumbered S all)
    scalars_again no_types h = h
    scalars_again (and_type t more) h = (scalar_same S t ∙ h.0, scalars_again more h.1)

    body_again : (result : CType) (parameters : CTypes) (b : Option (Trees.Statement ℕ)) → HasBody (of_unit u) g result parameters b
        → HasBody P G (R u result) (all_renumbered S parameters) (option_map (mapped_statement (N k u)) b)
    body_again result parameters None b = (ap (map (local_in (N k u))) b.0, ap (map (local_in (N k u))) b.1)
    body_again result parameters (Some body) b = (
      result_again result b.0,
      scalars_again parameters b.1,
      ap listed (locals_same g.parameters (front g.parameters g.locals ranged)) ∙ types_listed S (map (λ x. type_at u.types x.ty) g.parameters)
          ∙ ap (all_renumbered S) b.2,
      (
        body_ranged body b.3.0,
        subst (IsTypedStatement (declared_in P G) (R u result) false false) (sym (body_same body b.3.0))
            (statement_again S (N k u).object (N k u).function (declared_in (of_unit u) g) (declared_in P G) renumbers result
            (mapped_statement (of_types (type_at u.types)) body) false false b.3.1),
        all_declared_mapped (N k u) body ∙ b.3.2
            ∙ ap (λ n. count_up n (length g.locals)) (sym (length-map g.parameters (local_in (N k u))))
            ∙ ap (count_up (length G.parameters)) (sym (length-map g.locals (local_in (N k u)))),
      ),
    )

    again : IsTypedFunction P G
    again =
        let own = type_is u there k g.ty t.2 in (
          R u t.0,
          all_renumbered S t.1,
          own.0,
          own.1 ∙ ap (R u) t.3,
          subst (All (λ x. x.ty < length T)) (map-append (local_in (N k u)) g.parameters g.locals)
              (All-from_recursion (λ (x : Local). x.ty < length T) (map (local_in (N k u)) (g.parameters ++ g.locals))
              (mapped_all (λ (x : Local). x.ty < length u.types) (λ (x : Local). x.ty < length T) (local_in (N k u)) (g.parameters ++ g.locals)
              (λ x l. (type_is u there k x.ty l).0) ranged)),
          body_again t.0 t.1 g.body t.5,
        )

  -- ---- all functions, and the objects that they name

  functions_again : All (IsTypedFunction P) (functions units)
  functions_again = All-from_recursion (IsTypedFunction P) (functions units) (each_is (IsTypedFunction P) (functions units) one)
    where
      one : (F : FunctionData) → Joined.IsAmong F (functions units) → IsTypedFunction P F
      one F i =
          let z = found_unit (λ (o : FunctionData). o.is_linked) (λ (o : FunctionData). o.name) (λ (u : UnitData). u.functions) is_function_defined
          (λ k u o. function_in (N k u) o) function_identities (λ k n. refl) (λ k n x more. refl) units F i in
          subst (IsTypedFunction P) (sym z.6)
          (again z.0 z.1 z.2 z.4 (function_typed z.1 (unit_among 0 units (z.0, z.1) z.2) z.4 (among_at z.1.functions z.3 z.4 z.5)))

  objects_again : All (HasObjectType P) (objects units)
  objects_again = All-from_recursion (HasObjectType P) (objects units) (each_is (HasObjectType P) (objects units) one)
    where
      one : (o : Object) → Joined.IsAmong o (objects units) → HasObjectType P o
      one o i =
          let z = found_unit (λ (o : Object). o.linked) (λ (o : Object). o.name) (λ (u : UnitData). u.objects) is_object_defined (λ k u o. object_in (N k u) o)
          object_identities (λ k n. refl) (λ k n x more. refl) units o i in
          let u = z.1 in
          let there = unit_among 0 units (z.0, u) z.2 in
          let own = object_typed u there z.4 (among_at u.objects z.3 z.4 z.5) in
          let type = type_is u there z.0 z.4.ty own.0 in
          let complete = subst (λ t. is_object (length (records units)) t ≡ true) (sym type.1) (lies_in u there (type_at u.types z.4.ty) own.1) in
          subst (HasObjectType P) (sym z.6) (type.0, complete)

  mains_again : All (λ F. F.name ≡ codes "main" → type_at T F.ty ≡ function (integer Int) no_types) (functions units)
  mains_again =
      All-from_recursion (λ (F : FunctionData). F.name ≡ codes "main" → type_at T F.ty ≡ function (integer Int) no_types) (functions units)
      (each_is (λ (F : FunctionData). F.name ≡ codes "main" → type_at T F.ty ≡ function (integer Int) no_types) (functions units) one)
    where
      one : (F : FunctionData) → Joined.IsAmong F (functions units) → F.name ≡ codes "main" → type_at T F.ty ≡ function (integer Int) no_types
      one F i name =
          let z = found_unit (λ (o : FunctionData). o.is_linked) (λ (o : FunctionData). o.name) (λ (u : UnitData). u.functions) is_function_defined
          (λ k u o. function_in (N k u) o) function_identities (λ k n. refl) (λ k n x more. refl) units F i in
          let u = z.1 in
          let there = unit_among 0 units (z.0, u) z.2 in
          let own = among_at u.functions z.3 z.4 z.5 in
          let named : z.4.name ≡ codes "main" = sym (ap (λ (F : FunctionData). F.name) z.6) ∙ name in
          let type = is_each (λ (g : FunctionData). g.name ≡ codes "main" → type_at u.types g.ty ≡ function (integer Int) no_types) u.functions
          (recursion_from_All (λ (g : FunctionData). g.name ≡ codes "main" → type_at u.types g.ty ≡ function (integer Int) no_types) u.functions
          (each u there).main_types) z.4 own named in
          ap (λ (F : FunctionData). type_at T F.ty) z.6 ∙ (type_is u there z.0 z.4.ty (function_typed u there z.4 own).2).1 ∙ ap (R u) type

  different : (all : List CType) → AreOnce all → AreDifferent P all
  different [] k = tt
  different (t ∷ all) k = (k.0, different all k.1)

  turned_back : {A : Type 0} (x : A) (xs : List A) → IsAmong x xs → Joined.IsAmong x xs
  turned_back x [] i = i
  turned_back x (y ∷ xs) (inl e) = inl e
  turned_back x (y ∷ xs) (inr i) = inr (turned_back x xs i)

  few_of : (u : UnitData) (all : List CType) → AllByRecursion (HasFewParts (of_unit u)) all → (t : CType)
      → Joined.IsAmong t (map (type_in (all_tags units) u) all) → HasFewParts P t
  few_of u [] k t i = absurd i
  few_of u (s ∷ all) k t (inl e) = subst (HasFewParts P) (sym e) (subst (λ n. n ≤ 1024) (sym (parts_same (structure_in (all_tags units) u) s)) k.0)
  few_of u (s ∷ all) k t (inr i) = few_of u all k.1 t i

  few_again : All (HasFewParts P) T
  few_again =
      All-from_recursion (HasFewParts P) T
      (all_among (HasFewParts P) T (λ t i.
      let z = flat_among (types_in (all_tags units)) units t
      (turned_back t (flat_map (types_in (all_tags units)) units) (of_all [] (flat_map (types_in (all_tags units)) units) t i)) in
      few_of z.0 z.0.types (recursion_from_All (HasFewParts (of_unit z.0)) z.0.types (each z.0 z.1).few_parts) t z.2))

  pub program_typed : AreSmall (records units) → HaveTypedFunctions P
  program_typed small = record {
    records = complete;
    small_records = small;
    different_types = different T (once (flat_map (types_in (all_tags units)) units));
    few_parts = few_again;
    functions = functions_again;
    object_types = objects_again;
    main_types = mains_again;
  }

  -- ---- `main`

  pub main_again : (F : FunctionData) → slice_get (functions units) (joined units).main ≡ Some F → is_some F.body ≡ true → HasMain (joined units)
  main_again F e b =
      let z = of_name (λ (o : FunctionData). o.is_linked) (λ (o : FunctionData). o.name) (λ (u : UnitData). u.functions) is_function_defined
      (λ k u o. function_in (N k u) o) function_identities (λ k n. refl) (λ k n x more. refl) units (codes "main") F e in
      let name : F.name ≡ codes "main" = ap (λ (F : FunctionData). F.name) z.5 ∙ z.6 in
      let type = is_each (λ (F : FunctionData). F.name ≡ codes "main" → type_at T F.ty ≡ function (integer Int) no_types) (functions units)
      (recursion_from_All (λ (F : FunctionData). F.name ≡ codes "main" → type_at T F.ty ≡ function (integer Int) no_types) (functions units) mains_again)
      F (among_at (functions units) (joined units).main F e) in
      (F, e, (name, (λ none. has_body F.body b none), type name))
    where
      has_body : (o : Option (Trees.Statement ℕ)) → is_some o ≡ true → o ≡ None → ⊥
      has_body (Some body) b e = cc
      has_body None b e = cc
