-- The objects of a unit hold at first values of the parts at their bytes (C99 6.7.8).
use Rattle.std.proofs.Common.{◌≡◌, ◌∙◌, ℕ, zero, suc, ◌≤◌, true, refl, sym, ap, subst, cond, List, [], ◌∷◌, length, map, flat_map, append-nil}
use Rattle.std.proofs.lemmas.List.Elements.{All-from_recursion}
use Rattle.std.specs.Prelude.{Option, Some, None, All, slice_get, is_some}
use Rattle.std.specs.List.{AllByRecursion}
use Rattle.std.specs.Option.{option_map}
use Rattle.c_types.specs.Layouts.{size_of}
use Rattle.c_types.specs.declared.ty.IntKind.TheVariants.{Char}
use Rattle.c_types.specs.Types.{CType, integer, pointer, array}
use Rattle.c_ast.specs.Trees
use Rattle.c_typed.specs.declared.program.Object.{Object}
use Rattle.c_typed.specs.Conversions.{is_pointer, is_function}
use Rattle.c_typed.specs.InitialValues.{InitialValue, a_number, a_null, an_address, a_function}
use Rattle.c_typed.specs.Trees as Typed
use Rattle.c_typed.specs.TypeNumbers.{type_at}
use Rattle.c_erasure.specs.Files.{AreAscending, IsFileOf}
use Rattle.c_erasure.specs.Marks.{marks_of_file, scope_beginnings}
use Rattle.c_erasure.specs.Noted.{Noted}
use Rattle.c_erasure.specs.Scopes.{AnObject, AFunction, FileScope, at_file_scope, declared}
use Rattle.c_erasure.specs.Units as Units
use Rattle.c_erasure.specs.Units.{Stores, of_initializer, typed_initializer, stored_in, type_if_pointer, object_types, function_types, types, unit_of}
use Rattle.c_well_typed.specs.WellTyped.{Lists, of_unit, IsTypedInitial, AreInitials}
use Rattle.c_well_typed.specs.Within.{IsTextObject}
use Rattle.c_well_typed.proofs.Definitions.{is_function_type}
use Rattle.c_well_typed.proofs.InitialStores.{IsStored, initializer_stored}
use Rattle.c_well_typed.proofs.LiteralObjects.{Holds, IsTextual}
use Rattle.c_well_typed.proofs.Numbers.{two_parts, IsNumbered}
use Rattle.c_well_typed.proofs.UnitFunctions.{records_ended, objects_numbered}

some_is : {A : Type 0} (x y : A) → Some x ≡ Some y → x ≡ y
some_is x y h = cc

-- what stands in a list after each is changed
pub before_at : {A B : Type 0} (v : A → B) (xs : List A) (k : ℕ) (y : B) → slice_get (map v xs) k ≡ Some y
    → (x : A) × (slice_get xs k ≡ Some x) × (v x ≡ y)
before_at v [] k y h = cc
before_at v (x ∷ xs) zero y h = (x, refl, some_is (v x) y h)
before_at v (x ∷ xs) (suc k) y h = before_at v xs k y h

after_at : {A B : Type 0} (v : A → B) (xs : List A) (k : ℕ) (x : A) → slice_get xs k ≡ Some x → slice_get (map v xs) k ≡ Some (v x)
after_at v [] k x h = cc
after_at v (y ∷ xs) zero x h = ap (λ o. option_map v o) h
after_at v (y ∷ xs) (suc k) x h = after_at v xs k x h

at_place : {A : Type 0} (P : A → Type 0) (xs : List A) → AllByRecursion P xs → (k : ℕ) (x : A) → slice_get xs k ≡ Some x → P x
at_place P [] h k x e = cc
at_place P (y ∷ xs) h zero x e = subst P (some_is y x e) h.0
at_place P (y ∷ xs) h (suc k) x e = at_place P xs h.1 k x e

each_mapped : {A B : Type 0} (P : B → Type 0) (v : A → B) (xs : List A) → ((j : ℕ) (x : A) → slice_get xs j ≡ Some x → P (v x))
    → AllByRecursion P (map v xs)
each_mapped P v [] h = tt
each_mapped P v (x ∷ xs) h = (h 0 x refl, each_mapped P v xs (λ j y e. h (suc j) y e))

module _ (items : List Trees.Item) (f : FileScope) (h : IsFileOf items f) (beginnings : AreAscending (scope_beginnings (marks_of_file f.untagged items)))
    (known : (n : ℕ) (o : AnObject) → slice_get f.objects n ≡ Some o → Holds o × IsTextual o) where
  abbrev T : List CType
  T = types f

  abbrev L : Lists
  L = of_unit (unit_of items f)

  all_functions : (n : ℕ) (s : CType) → slice_get (declared (at_file_scope f)).functions n ≡ Some s → is_function s ≡ true
  all_functions n s e =
      let g = before_at (λ (g : AFunction). g.ty) f.functions n s e in
      subst (λ s. is_function s ≡ true) g.2 (is_function_type f (length f.records) (records_ended items f h beginnings) items h beginnings n g.0 g.1)

  -- an object under its number has its type
  object_type : (n : ℕ) (o : AnObject) → slice_get f.objects n ≡ Some o → type_at T (Units.object f o).ty ≡ o.ty
  object_type n o e =
      let k = at_place (λ o. AllByRecursion (IsNumbered T) (object_types f o)) f.objects (objects_numbered items f h beginnings) n o e in k.0.1

  abbrev Numbered : Stores → Type 0
  Numbered s = AllByRecursion (IsNumbered T) (type_if_pointer s)

  pointer_numbered : (at : ℕ) (t u : CType) (v : InitialValue) → t ≡ pointer u → Numbered (at, t, v) → IsNumbered T t
  pointer_numbered at t u v e k =
      let p : is_pointer t ≡ true = ap is_pointer e in
      (subst (λ b. AllByRecursion (IsNumbered T) (cond b (t ∷ []) [])) p k).0

  initial_typed : (t : CType) (s : Stores) → IsStored (declared (at_file_scope f)) t s → Numbered s → IsTypedInitial L t (Units.initial f s)
  initial_typed t (at, s, a_number kind v) i k = i
  initial_typed t (at, s, a_null) i k = absurd i.2
  initial_typed t (at, s, an_address a) i k =
      let w = i.2.1 in
      let n = pointer_numbered at s w.0 (an_address a) (i.2.0 ∙ w.1) k in
      let within = i.2.2 in
      let o = before_at (λ (o : AnObject). o.ty) f.objects a.object within.0 within.1 in
      let there = after_at (Units.object f) f.objects a.object o.0 o.1 in
      let same : type_at T (Units.object f o.0).ty ≡ within.0 = object_type a.object o.0 o.1 ∙ o.2 in (
        i.0,
        i.1,
        (Units.object f o.0, w.0, n.0, n.1 ∙ i.2.0, w.1, there, subst (λ t. a.offset ≤ size_of f.records t) (sym same) within.2),
      )
  initial_typed t (at, s, a_function g) i k =
      let p = i.2.1 in
      let n = pointer_numbered at s p.0 (a_function g) (i.2.0 ∙ p.1) k in
      let z = i.2.2 in
      let o = before_at (λ (o : AFunction). o.ty) f.functions g z.0 z.1 in
      (i.0, i.1, (Units.function f o.0, p.0, n.0, n.1 ∙ i.2.0, p.1, after_at (Units.function f) f.functions g o.0 o.1, p.2))

  initials_typed : (t : CType) (all : List Stores) → AllByRecursion (IsStored (declared (at_file_scope f)) t) all
      → AllByRecursion (IsNumbered T) (flat_map type_if_pointer all) → AllByRecursion (IsTypedInitial L t) (map (Units.initial f) all)
  initials_typed t [] i k = tt
  initials_typed t (s ∷ all) i k =
      let p = two_parts (IsNumbered T) (type_if_pointer s) (flat_map type_if_pointer all) k in
      (initial_typed t s i.0 p.0, initials_typed t all i.1 p.1)

  are_initials : (n : ℕ) (o : AnObject) → slice_get f.objects n ≡ Some o → AreInitials L o.ty (Units.object f o).initial
  are_initials n o e = by_initial o.initial refl
    where
      numbered : AllByRecursion (IsNumbered T) (object_types f o)
      numbered = at_place (λ o. AllByRecursion (IsNumbered T) (object_types f o)) f.objects (objects_numbered items f h beginnings) n o e

      by_initial : (i : Option (Typed.Initializer Noted)) → o.initial ≡ i
          → AreInitials L o.ty (option_map (λ i. map (Units.initial f) (of_initializer f (typed_initializer i))) i)
      by_initial None q = tt
      by_initial (Some i) q =
          let all = of_initializer f (typed_initializer i) in
          let stored = initializer_stored f all_functions o.ty i ((known n o e).0 i q) (h.initialized n o i e q) in
          let k = subst (λ q. AllByRecursion (IsNumbered T) (flat_map type_if_pointer (flat_map (λ i. of_initializer f (typed_initializer i)) (Units.if_any q)))) q
          numbered.1 in
          let own : AllByRecursion (IsNumbered T) (flat_map type_if_pointer all) =
          subst (λ all. AllByRecursion (IsNumbered T) (flat_map type_if_pointer all)) (append-nil all) k in
          All-from_recursion (IsTypedInitial L o.ty) (map (Units.initial f) all) (initials_typed o.ty all stored own)

  pub initials_all : All (λ o. AreInitials L (type_at T o.ty) o.initial) (map (Units.object f) f.objects)
  initials_all =
      All-from_recursion (λ (o : Object). AreInitials L (type_at T o.ty) o.initial) (map (Units.object f) f.objects)
      (each_mapped (λ (o : Object). AreInitials L (type_at T o.ty) o.initial) (Units.object f) f.objects
      (λ n o e. subst (λ t. AreInitials L t (Units.object f o).initial) (sym (object_type n o e)) (are_initials n o e)))

  -- ---- the objects of literals are arrays of characters

  text_typed : (n : ℕ) (o : AnObject) → slice_get f.objects n ≡ Some o → IsTextObject L (Units.object f o)
  text_typed n o e text = by_literal o.literal refl text
    where
      by_literal : (b : Option (List ℕ)) → o.literal ≡ b → is_some b ≡ true → (n : ℕ) × (type_at T (Units.object f o).ty ≡ array (integer Char) n)
      by_literal None q t = cc
      by_literal (Some bytes) q t = let k = (known n o e).1 bytes q in (k.0, object_type n o e ∙ k.1)

  pub texts_all : All (IsTextObject L) (map (Units.object f) f.objects)
  texts_all =
      All-from_recursion (IsTextObject L) (map (Units.object f) f.objects)
      (each_mapped (IsTextObject L) (Units.object f) f.objects text_typed)
