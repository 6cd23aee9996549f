-- What an object holds at first where its initializer is well typed (C99 6.7.8): a value of the part at its byte, and bytes of literals.
use Rattle.std.proofs.Common.{◌≡◌, ◌∙◌, ℕ, ◌+◌, ◌*◌, ◌^◌, ◌≤◌, ◌<◌, Bool, true, false, refl, sym, ap, subst, cond, List, [], ◌∷◌, ◌++◌, length, map}
use Rattle.std.proofs.Common.{flat_map, arith}
use Rattle.std.proofs.lemmas.List.Elements.{recursion_from_All}
use Rattle.std.specs.Prelude.{Option, Some, None, slice_get}
use Rattle.std.specs.List.{AllByRecursion}
use Rattle.c_types.specs.declared.ty.IntKind.{IntKind}
use Rattle.c_types.specs.IntKinds.{width}
use Rattle.c_types.specs.Layouts.{size_of, offset_of}
use Rattle.c_types.specs.Types.{CType, integer, pointer, array, structure, Record}
use Rattle.c_typed.specs.Trees as Trees
use Rattle.c_typed.specs.Conversions.{as_kind, is_function, is_scalar}
use Rattle.c_typed.specs.Constants.{Constant, none, undefined, valued, ty, constant_of}
use Rattle.c_typed.specs.InitialValues.{Address, InitialValue, a_number, a_null, an_address, a_function, as_number, as_address, as_function, initial_in}
use Rattle.c_typed.specs.InitialValues.{initial_value}
use Rattle.c_typed.specs.InitialValues.{is_null_in, address_in, function_in}
use Rattle.c_typed.specs.Mapped.{of_types, mapped_value, mapped_part, mapped_initializer}
use Rattle.c_typed.specs.Parts.{IsPart, itself, of_element, of_field}
use Rattle.c_typed.specs.Typed.{Declared}
use Rattle.c_typed.specs.TypedStatements.{IsTypedValue, IsTypedPart, IsTypedInitializer}
use Rattle.c_erasure.specs.Erasure.{typed}
use Rattle.c_erasure.specs.Files.{IsTypedObject}
use Rattle.c_erasure.specs.Noted.{Noted, Expression}
use Rattle.c_erasure.specs.Recognised.{recognised}
use Rattle.c_erasure.specs.Scopes.{FileScope, at_file_scope, declared}
use Rattle.c_erasure.specs.Units.{recognised_part, typed_initializer, Stores, of_text, stored, of_part, of_initializer}
use Rattle.c_well_typed.proofs.ConstantsFit.{constant_fits}
use Rattle.c_well_typed.proofs.InitialAddresses.{IsWithin, address_within}
use Rattle.c_well_typed.proofs.InitialFunctions.{IsFunctionPointer, function_is}
use Rattle.c_well_typed.proofs.Nulls.{type_stays, constant_stays}

some_is : {A : Type 0} (x y : A) → Some x ≡ Some y → x ≡ y
some_is x y h = cc

-- ---- parts of parts

pub part_of : (records : List Record) (t u v : CType) (at by : ℕ) → IsPart records t at u → IsPart records u by v → IsPart records t (at + by) v
part_of records t u v at by (itself s) p = let e : by ≡ 0 + by = omega arith in subst (λ at. IsPart records s at v) e p
part_of records t u v at by (of_element s w n k b l q) p =
    let e : k * size_of records s + (b + by) ≡ k * size_of records s + b + by = omega arith in
    subst (λ at. IsPart records (array s n) at v) e (of_element s v n k (b + by) l (part_of records s w v b by q p))
part_of records t u v at by (of_field s w r field b e q) p =
    let o = offset_of records r field in
    let a : o + (b + by) ≡ o + b + by = omega arith in
    subst (λ at. IsPart records (structure r) at v) a (of_field s v r field (b + by) e (part_of records s w v b by q p))

-- ---- the bytes of literals

abbrev pub AreBytes : List ℕ → Type 0
AreBytes bytes = AllByRecursion (λ v. v < 2 ^ 8) bytes

abbrev pub HasBytes : Trees.PartValue Noted → Type 0
HasBytes (Trees.text bytes) = AreBytes bytes
HasBytes v = Unit {0}

abbrev pub HaveBytes : List (Trees.Part Noted) → Type 0
HaveBytes [] = Unit {0}
HaveBytes (part ∷ all) = HasBytes part.value × HaveBytes all

abbrev pub HoldsBytes : Trees.Initializer Noted → Type 0
HoldsBytes (Trees.parts all) = HaveBytes all
HoldsBytes i = Unit {0}

module _ (d : Declared) where
  abbrev pub IsFunctionThere : ℕ → Type 0
  IsFunctionThere g = (s : CType) × (slice_get d.functions g ≡ Some s)

  -- a value of the first type, which stands there as of the second
  abbrev pub IsValueOf : CType → CType → InitialValue → Type 0
  IsValueOf u t (a_number kind v) = (own : IntKind) × (u ≡ integer own) × (width kind ≡ width own) × (as_kind kind v ≡ v)
  IsValueOf u t a_null = ⊥
  IsValueOf u t (an_address a) = (t ≡ u) × ((w : CType) × (u ≡ pointer w)) × IsWithin d a
  IsValueOf u t (a_function g) = (t ≡ u) × IsFunctionPointer u × IsFunctionThere g

  abbrev pub IsStored : CType → Stores → Type 0
  IsStored T (at, t, v) = (u : CType) × IsPart d.records T at u × IsValueOf u t v

  module _ (all_functions : (n : ℕ) (s : CType) → slice_get d.functions n ≡ Some s → is_function s ≡ true) where
    -- ---- of an expression

    abbrev pub IsFit : CType → InitialValue → Type 0
    IsFit t a_null = Unit {0}
    IsFit t v = IsValueOf t t v

    value_fits : (e : Expression) (t : CType) (v : InitialValue) → IsTypedValue d t (Trees.value (typed e)) → initial_value d (typed (recognised e)) ≡ Some v
        → IsFit t v
    value_fits e t v h q = by_type t h.1 (subst (λ t. initial_in d t x ≡ Some v) is q) (λ c w same. fits c w same) functions
      where
        x : Trees.Expression CType
        x = typed (recognised e)

        is : ty x ≡ t
        is = type_stays e ∙ h.2.1

        fits : (kind : IntKind) (w : ℕ) → t ≡ integer kind → constant_of x ≡ valued w → as_kind kind w ≡ w
        fits kind w same c = constant_fits d (typed e) kind w h.0 (h.2.1 ∙ same) (sym (constant_stays e) ∙ c)

        functions : (g : ℕ) → function_in d x ≡ Some g → IsFunctionThere g × IsFunctionPointer t
        functions g f = function_is d all_functions e t g h.0 h.2 f

        number : (kind : IntKind) (c : Constant) → constant_of x ≡ c → ((w : ℕ) → constant_of x ≡ valued w → as_kind kind w ≡ w)
            → as_number d kind c ≡ Some v → IsFit (integer kind) v
        number kind (valued w) e fits q = subst (IsFit (integer kind)) (some_is (a_number kind w) v q) (kind, refl, refl, fits w e)
        number kind none e fits q = cc
        number kind undefined e fits q = cc

        function_there : (u : CType) → ((g : ℕ) → function_in d x ≡ Some g → IsFunctionThere g × IsFunctionPointer (pointer u)) → (o : Option ℕ)
            → function_in d x ≡ o → as_function d o ≡ Some v → IsFit (pointer u) v
        function_there u functions None e q = cc
        function_there u functions (Some g) e q =
            let i = functions g e in subst (IsFit (pointer u)) (some_is (a_function g) v q) (refl, i.1, i.0)

        address : (u : CType) → ((g : ℕ) → function_in d x ≡ Some g → IsFunctionThere g × IsFunctionPointer (pointer u)) → (o : Option Address)
            → address_in d x ≡ o → as_address d o (as_function d (function_in d x)) ≡ Some v → IsFit (pointer u) v
        address u functions None e q = function_there u functions (function_in d x) refl q
        address u functions (Some a) f q =
            subst (IsFit (pointer u)) (some_is (an_address a) v q) (refl, (u, refl), address_within d e h.0 a f)

        by_null : (u : CType) → ((g : ℕ) → function_in d x ≡ Some g → IsFunctionThere g × IsFunctionPointer (pointer u)) → (b : Bool)
            → cond b (Some a_null) (as_address d (address_in d x) (as_function d (function_in d x))) ≡ Some v → IsFit (pointer u) v
        by_null u functions true q = subst (IsFit (pointer u)) (some_is a_null v q) tt
        by_null u functions false q = address u functions (address_in d x) refl q

        by_type : (t : CType) → is_scalar t ≡ true → initial_in d t x ≡ Some v
            → ((kind : IntKind) (w : ℕ) → t ≡ integer kind → constant_of x ≡ valued w → as_kind kind w ≡ w)
            → ((g : ℕ) → function_in d x ≡ Some g → IsFunctionThere g × IsFunctionPointer t) → IsFit t v
        by_type (integer kind) s q fits functions = number kind (constant_of x) refl (λ w. fits kind w refl) q
        by_type (pointer u) s q fits functions = by_null u functions (is_null_in d x) q
        by_type t s q fits functions = cc

    expression_stored : (T u : CType) (at : ℕ) (e : Expression) → IsPart d.records T at u → IsTypedValue d u (Trees.value (typed e))
        → AllByRecursion (IsStored T) (stored (ty (typed (recognised e))) at (initial_value d (typed (recognised e))))
    expression_stored T u at e p h =
        by_value (initial_value d (typed (recognised e))) (λ v q. value_fits e u v h q)
      where
        same : ty (typed (recognised e)) ≡ u
        same = type_stays e ∙ h.2.1

        of_value : (v : InitialValue) → IsFit u v → AllByRecursion (IsStored T) (stored (ty (typed (recognised e))) at (Some v))
        of_value (a_number kind w) i = ((u, p, i), tt)
        of_value a_null i = tt
        of_value (an_address a) i = ((u, p, (same, i.1, i.2)), tt)
        of_value (a_function g) i = ((u, p, (same, i.1, i.2)), tt)

        by_value : (o : Option InitialValue) → ((v : InitialValue) → o ≡ Some v → IsFit u v)
            → AllByRecursion (IsStored T) (stored (ty (typed (recognised e))) at o)
        by_value None f = tt
        by_value (Some v) f = of_value v (f v refl)

    -- ---- of the bytes of a literal, from one on

    text_stored : (T : CType) (kind : IntKind) (n at k : ℕ) (bytes : List ℕ) → IsPart d.records T at (array (integer kind) n) → width kind ≡ 1
        → k + length bytes ≤ n → AreBytes bytes → AllByRecursion (IsStored T) (of_text (at + k) bytes)
    text_stored T kind n at k [] p w l b = tt
    text_stored T kind n at k (v ∷ bytes) p w l b =
        let less : k < n = omega (arith, l) in
        let there : IsPart d.records (array (integer kind) n) (k * width kind + 0) (integer kind) = of_element (integer kind) (integer kind) n k 0 less (itself (integer kind)) in
        let e : k * width kind + 0 ≡ k = ap (λ w. k * w + 0) w ∙ omega arith in
        let q = part_of d.records T (array (integer kind) n) (integer kind) at k p
        (subst (λ at. IsPart d.records (array (integer kind) n) at (integer kind)) e there) in
        let below = b.0 in
        let f : at + (k + 1) ≡ at + k + 1 = omega arith in
        let m : k + 1 + length bytes ≤ n = omega (arith, l) in (
          (integer kind, q, (kind, refl, sym w, omega (arith, below))),
          subst (λ at. AllByRecursion (IsStored T) (of_text at bytes)) f (text_stored T kind n at (k + 1) bytes p w m b.1),
        )

both : {A : Type 0} (P : A → Type 0) (u v : List A) → AllByRecursion P u → AllByRecursion P v → AllByRecursion P (u ++ v)
both P [] v h k = k
both P (x ∷ u) v h k = (h.0, both P u v h.1 k)

module _ (f : FileScope) (all_functions : (n : ℕ) (s : CType) → slice_get (declared (at_file_scope f)).functions n ≡ Some s → is_function s ≡ true) where
  abbrev d : Declared
  d = declared (at_file_scope f)

  abbrev typed_part : Trees.Part Noted → Trees.Part CType
  typed_part = mapped_part (of_types (λ (t : Noted). t.ty))

  part_stored : (T : CType) (part : Trees.Part Noted) → HasBytes part.value → IsTypedPart d T (typed_part part)
      → AllByRecursion (IsStored d T) (of_part f (typed_part (recognised_part part)))
  part_stored T part b h = by_value part.value b h.2
    where
      by_value : (v : Trees.PartValue Noted) → HasBytes v → IsTypedValue d h.0 (mapped_value (of_types (λ (t : Noted). t.ty)) v)
          → AllByRecursion (IsStored d T) (of_part f (typed_part (recognised_part (record { offset = part.offset; value = v }))))
      by_value (Trees.value e) b i = expression_stored d all_functions T h.0 part.offset e h.1 i
      by_value (Trees.record_of p) b i = tt
      by_value (Trees.text bytes) b i =
          let p = subst (IsPart d.records T part.offset) i.2 h.1 in
          let l = i.4 in
          let e : part.offset + 0 ≡ part.offset = omega arith in
          subst (λ at. AllByRecursion (IsStored d T) (of_text at bytes)) e
          (text_stored d all_functions T i.0 i.1 part.offset 0 bytes p i.3 (omega (arith, l)) b)

  parts_stored : (T : CType) (all : List (Trees.Part Noted)) → HaveBytes all → AllByRecursion (IsTypedPart d T) (map typed_part all)
      → AllByRecursion (IsStored d T) (flat_map (of_part f) (map typed_part (map recognised_part all)))
  parts_stored T [] b h = tt
  parts_stored T (part ∷ all) b h =
      both (IsStored d T) (of_part f (typed_part (recognised_part part))) _ (part_stored T part b.0 h.0) (parts_stored T all b.1 h.1)

  typed_stored : (T : CType) (i : Trees.Initializer Noted) → HoldsBytes i → IsTypedInitializer d T (mapped_initializer (of_types (λ (t : Noted). t.ty)) i)
      → AllByRecursion (IsStored d T) (of_initializer f (typed_initializer i))
  typed_stored T (Trees.whole e) b h = expression_stored d all_functions T T 0 e (itself T) h
  typed_stored T (Trees.whole_record p) b h = tt
  typed_stored T (Trees.parts all) b h = parts_stored T all b (recursion_from_All (IsTypedPart d T) (map typed_part all) h.1)

  pub initializer_stored : (T : CType) (i : Trees.Initializer Noted) → HoldsBytes i → IsTypedObject f T i
      → AllByRecursion (IsStored d T) (of_initializer f (typed_initializer i))
  initializer_stored T (Trees.parts []) b h = tt
  initializer_stored T (Trees.parts (part ∷ all)) b h = typed_stored T (Trees.parts (part ∷ all)) b h
  initializer_stored T (Trees.whole e) b h = typed_stored T (Trees.whole e) b h
  initializer_stored T (Trees.whole_record p) b h = tt
