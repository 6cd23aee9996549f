-- The objects of a program hold at first values of the parts at their bytes where those of its units do (C99 6.7.8).
use Rattle.std.proofs.Common.{◌≡◌, ◌∙◌, ℕ, ◌≤◌, true, refl, sym, ap, subst, List, [], ◌∷◌, length, map}
use Rattle.std.proofs.lemmas.List.Elements.{recursion_from_All, All-from_recursion}
use Rattle.std.specs.Prelude.{Option, Some, None, All}
use Rattle.std.specs.List.{AllByRecursion}
use Rattle.std.specs.Option.{option_map}
use Rattle.c_types.specs.Layouts.{size_of}
use Rattle.c_types.specs.Limits.{AreComplete}
use Rattle.c_types.specs.Objects.{is_object}
use Rattle.c_types.specs.Types.{CType}
use Rattle.c_typed.specs.declared.program.Initial.{Initial}
use Rattle.c_typed.specs.declared.program.InitialValue.{InitialValue}
use Rattle.c_typed.specs.declared.program.InitialValue.TheVariants as V
use Rattle.c_typed.specs.declared.program.Object.{Object}
use Rattle.c_typed.specs.Programs.{FunctionData, UnitData}
use Rattle.c_typed.specs.TypeNumbers.{type_at}
use Rattle.c_numbers.specs.NewNumbers.Parts.{initial_in, value_in, object_in}
use Rattle.c_link.specs.Joining.{all_tags, structure_in, numbered_from, objects, functions, records, is_object_defined, object_identities}
use Rattle.c_link.specs.Gaps.{Agree}
use Rattle.c_link.proofs.JoinedRecords as Joined
use Rattle.c_link.proofs.JoinedRecords.{among_at, stand_among}
use Rattle.c_link.proofs.Layouts.{lies_alike}
use Rattle.c_well_typed.specs.WellTyped.{of_unit, IsTypedInitial, IsTypedInitialValue, AreInitials, HaveTypedFunctions}
use Rattle.c_well_typed.specs.Within.{IsTextObject}
use Rattle.c_well_typed.proofs.JoinedFunctions.{each_is, is_each, unmapped_at, T, P, R, N, type_is, object_typed, object_again, function_again}
use Rattle.c_well_typed.proofs.LookedUp.{of_unit as found_unit, unit_among}
use Rattle.c_well_typed.proofs.RenumberedParts.{part_again}
use Rattle.c_well_typed.proofs.RenumberedTypes.{function_same}

mapped_all : {A B : Type 0} (P : A → Type 0) (Q : B → Type 0) (v : A → B) (xs : List A) → ((x : A) → P x → Q (v x)) → AllByRecursion P xs
    → AllByRecursion Q (map v xs)
mapped_all P Q v [] f h = tt
mapped_all P Q v (x ∷ xs) f h = (f x h.0, mapped_all P Q v xs f h.1)

module _ (units : List UnitData) (agree : Agree units) (complete : AreComplete (records units))
    (each : (u : UnitData) → Joined.IsAmong u units → HaveTypedFunctions (of_unit u))
    (values : (u : UnitData) → Joined.IsAmong u units → All (λ o. AreInitials (of_unit u) (type_at u.types o.ty) o.initial) u.objects) where
  abbrev Types : List CType
  Types = T units agree complete each

  abbrev AreHeld : Object → Type 0
  AreHeld o = AreInitials (P units agree complete each) (type_at Types o.ty) o.initial

  module _ (k : ℕ) (u : UnitData) (h : Joined.IsAmong (k, u) (numbered_from 0 units)) where
    abbrev Again : CType → CType
    Again t = R units agree complete each u t

    there : Joined.IsAmong u units
    there = unit_among 0 units (k, u) h

    abbrev S : ℕ → ℕ
    S = structure_in (all_tags units) u

    value_again : (t : CType) (v : InitialValue) → IsTypedInitialValue (of_unit u) t v
        → IsTypedInitialValue (P units agree complete each) (Again t) (value_in (N units agree complete each k u) v)
    value_again t (V.Number kind v) (own, e, w, f) = (own, ap Again e, w, f)
    value_again t (V.Address i n offset) (o, w, l, e, p, there_is, less) =
        let number = type_is units agree complete each u there k i l in
        let z = unmapped_at (λ (o : Object). type_at Types o.ty) (objects units) _ _ (object_again units agree complete each k u h n o there_is) in
        let own = object_typed units agree complete each u there o (among_at u.objects n o there_is) in
        let same = (lies_alike S u.records (records units) (each u there).records complete (stand_among units agree.tags u there)
        (type_at u.types o.ty) own.1).alike.sizes in (
          z.0,
          Again w,
          number.0,
          number.1 ∙ ap Again e,
          ap Again p,
          z.1,
          subst (λ t. offset ≤ size_of (records units) t) (sym z.2) (subst (λ n. offset ≤ n) (sym same) less),
        )
    value_again t (V.Function i n) (g, w, l, e, p, there_is, points) =
        let number = type_is units agree complete each u there k i l in
        let z = unmapped_at (λ (o : FunctionData). type_at Types o.ty) (functions units) _ _ (function_again units agree complete each k u h n g there_is) in
        (z.0, Again w, number.0, number.1 ∙ ap Again e, ap Again p, z.1, function_same S w ∙ points)

    initial_again : (t : CType) → is_object (length u.records) t ≡ true → (i : Initial) → IsTypedInitial (of_unit u) t i
        → IsTypedInitial (P units agree complete each) (Again t) (initial_in (N units agree complete each k u) i)
    initial_again t o i (w, p, v) = (
      Again w,
      part_again S u.records (records units) (each u there).records complete (stand_among units agree.tags u there) t w i.offset o p,
      value_again w i.value v,
    )

    initials_again : (t : CType) → is_object (length u.records) t ≡ true → (all : Option (List Initial)) → AreInitials (of_unit u) t all
        → AreInitials (P units agree complete each) (Again t) (option_map (map (initial_in (N units agree complete each k u))) all)
    initials_again t o None h = tt
    initials_again t o (Some all) h =
        let m = initial_in (N units agree complete each k u) in
        All-from_recursion (IsTypedInitial (P units agree complete each) (Again t)) (map m all)
        (mapped_all (IsTypedInitial (of_unit u) t) (IsTypedInitial (P units agree complete each) (Again t)) m all (initial_again t o)
        (recursion_from_All (IsTypedInitial (of_unit u) t) all h))

  pub objects_hold_again : All AreHeld (objects units)
  objects_hold_again = All-from_recursion AreHeld (objects units) (each_is AreHeld (objects units) one)
    where
      one : (o : Object) → Joined.IsAmong o (objects units) → AreHeld o
      one o i =
          let z = found_unit (λ (o : Object). o.linked) (λ (o : Object). o.name) (λ (u : UnitData). u.objects) is_object_defined
          (λ k u o. object_in (N units agree complete each k u) o) object_identities (λ k n. refl) (λ k n x more. refl) units o i in
          let u = z.1 in
          let there = unit_among 0 units (z.0, u) z.2 in
          let among = among_at u.objects z.3 z.4 z.5 in
          let own = object_typed units agree complete each u there z.4 among in
          let type = type_is units agree complete each u there z.0 z.4.ty own.0 in
          let held = is_each (λ (o : Object). AreInitials (of_unit u) (type_at u.types o.ty) o.initial) u.objects
          (recursion_from_All (λ (o : Object). AreInitials (of_unit u) (type_at u.types o.ty) o.initial) u.objects (values u there)) z.4 among in
          let all = option_map (map (initial_in (N units agree complete each z.0 u))) z.4.initial in
          subst AreHeld (sym z.6)
          (subst (λ t. AreInitials (P units agree complete each) t all) (sym type.1)
          (initials_again z.0 u z.2 (type_at u.types z.4.ty) own.1 z.4.initial held))

  -- ---- the objects of literals

  module _ (texts : (u : UnitData) → Joined.IsAmong u units → All (IsTextObject (of_unit u)) u.objects) where
    abbrev IsText : Object → Type 0
    IsText o = IsTextObject (P units agree complete each) o

    pub texts_again : All IsText (objects units)
    texts_again = All-from_recursion IsText (objects units) (each_is IsText (objects units) one)
      where
        one : (o : Object) → Joined.IsAmong o (objects units) → IsText o
        one o i =
            let z = found_unit (λ (o : Object). o.linked) (λ (o : Object). o.name) (λ (u : UnitData). u.objects) is_object_defined
            (λ k u o. object_in (N units agree complete each k u) o) object_identities (λ k n. refl) (λ k n x more. refl) units o i in
            let u = z.1 in
            let there = unit_among 0 units (z.0, u) z.2 in
            let among = among_at u.objects z.3 z.4 z.5 in
            let own = object_typed units agree complete each u there z.4 among in
            let type = type_is units agree complete each u there z.0 z.4.ty own.0 in
            let text = is_each (IsTextObject (of_unit u)) u.objects (recursion_from_All (IsTextObject (of_unit u)) u.objects (texts u there)) z.4 among in
            subst IsText (sym z.6) (λ t. let k = text t in (k.0, type.1 ∙ ap (R units agree complete each u) k.1))
