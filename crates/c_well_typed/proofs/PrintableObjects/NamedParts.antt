-- What an object holds at first by an initializer of constants is named by its braces, part after part (C99 6.7.8).
use Rattle.std.proofs.Common.{◌≡◌, ◌≢◌, ◌∙◌, ℕ, ◌+◌, ◌≤◌, ◌<◌, Bool, true, false, refl, sym, ap, subst, List, [], ◌∷◌, ◌++◌, length, map}
use Rattle.std.proofs.Common.{flat_map, arith, append-nil, append_assoc, inl, inr}
use Rattle.std.proofs.lemmas.List.{map-append}
use Rattle.std.proofs.lemmas.List.Elements.{recursion_from_All, All-from_recursion}
use Rattle.std.specs.Prelude.{◌⊎◌, All, Option, Some, None, slice_get}
use Rattle.std.specs.List.{AllByRecursion}
use Rattle.c_types.specs.declared.ty.IntKind.{IntKind}
use Rattle.c_types.specs.declared.ty.IntKind.TheVariants.{Char}
use Rattle.c_types.specs.Layouts.{size_of, offset_of}
use Rattle.c_types.specs.Types.{CType, integer, pointer, array, structure, Field, Record}
use Rattle.c_tokens.specs.QuotedScan.{string_bytes}
use Rattle.c_ast.specs.declared.words.Spelling.{Spelling}
use Rattle.c_ast.specs.Trees
use Rattle.c_ast.specs.WellFormed as Formed
use Rattle.c_typed.specs.declared.program.Initial.{Initial}
use Rattle.c_typed.specs.declared.program.InitialValue.TheVariants as V
use Rattle.c_typed.specs.Constants.{Constant, none, undefined, valued, ty, constant_of}
use Rattle.c_typed.specs.Conversions.{is_scalar}
use Rattle.c_typed.specs.InitialValues.{InitialValue, a_number, a_null, an_address, a_function, as_number, initial_in}
use Rattle.c_typed.specs.Mapped.{of_types, mapped_part, mapped_value}
use Rattle.c_typed.specs.Trees as Typed
use Rattle.c_typed.specs.Typed.{Declared}
use Rattle.c_erasure.specs.Erasure.{typed, literal_of, Values, Erases}
use Rattle.c_erasure.specs.Initializers.{Part, part_at, texts_of, IsText, Initializes, InitializeElements, InitializeFields, IsInitializer}
use Rattle.c_erasure.specs.Initializers.{HasConstant, AreConstants}
use Rattle.c_erasure.specs.Noted.{Noted, Expression, Path, an_object, type_of, type_of_path}
use Rattle.c_erasure.specs.Recognised.{recognised}
use Rattle.c_erasure.specs.Scopes.{FileScope, Scope, at_file_scope, declared}
use Rattle.c_erasure.specs.Units as Units
use Rattle.c_erasure.specs.Units.{Stores, recognised_part, recognised_value, typed_initializer, stored, of_part, of_value, of_initializer}
use Rattle.c_well_typed.proofs.InitialStores.{AreBytes, HaveBytes, HoldsBytes}
use Rattle.c_well_typed.proofs.Nulls.{type_stays, constant_stays}
use Rattle.c_well_typed.specs.Printable.Initializers.{IsText as IsTextIn, IsNamed, by_value, by_elements, by_fields, AreElements, one_element, and_elements}
use Rattle.c_well_typed.specs.Printable.Initializers.{AreFields, one_field, and_fields, of_text, IsStored}

some_is : {A : Type 0} (x y : A) → Some x ≡ Some y → x ≡ y
some_is x y h = cc

-- ---- string literals

-- a literal ends in a zero
pub front_of : (all : List Spelling) → (front : List ℕ) × (literal_of all ≡ front ++ 0 ∷ [])
front_of [] = ([], refl)
front_of (x ∷ more) =
    let r = front_of more in
    (string_bytes x.text ++ r.0, ap (λ own. string_bytes x.text ++ own) r.1 ∙ sym (append_assoc (string_bytes x.text) r.0 (0 ∷ [])))

below : (bytes : List ℕ) → AreBytes bytes → AllByRecursion (λ b. b < 256) bytes
below [] h = tt
below (v ∷ bytes) h = let l = h.0 in (omega (arith, l), below bytes h.1)

pub are_below : (bytes : List ℕ) → AreBytes bytes → All (λ b. b < 256) bytes
are_below bytes h = All-from_recursion (λ b. b < 256) bytes (below bytes h)

text_in : (all : List Spelling) (n : ℕ) (bytes : List ℕ) → AreBytes bytes
    → ((literal_of all ≡ bytes) × (length bytes ≤ n)) ⊎ ((literal_of all ≡ bytes ++ 0 ∷ []) × (length bytes ≡ n)) → IsTextIn n bytes
text_in all n bytes b (inl h) = let r = front_of all in (are_below bytes b, inr (r.0, sym h.0 ∙ r.1, h.1))
text_in all n bytes b (inr h) = (are_below bytes b, inl h.1)

module _ (f : FileScope) where
  abbrev R : List Record
  R = f.records

  abbrev Named : CType → ℕ → List Initial → Type 0
  Named = IsNamed R IsStored

  pub texts_same : (at : ℕ) (bytes : List ℕ) → map (Units.initial f) (Units.of_text at bytes) ≡ of_text at bytes
  texts_same at [] = refl
  texts_same at (v ∷ bytes) = ap (λ more. record { offset = at; value = V.Number Char v } ∷ more) (texts_same (at + 1) bytes)

  -- ---- what some parts store

  abbrev typed_part : Typed.Part Noted → Typed.Part CType
  typed_part = mapped_part (of_types (λ (t : Noted). t.ty))

  abbrev stores_of_value : ℕ → Typed.PartValue Noted → List Initial
  stores_of_value at v = map (Units.initial f) (of_value f at (mapped_value (of_types (λ (t : Noted). t.ty)) (recognised_value v)))

  abbrev pub stores : List Part → List Initial
  stores parts = map (Units.initial f) (flat_map (of_part f) (map typed_part (map recognised_part parts)))

  stores_both : (a b : List Part) → stores (a ++ b) ≡ stores a ++ stores b
  stores_both [] b = refl
  stores_both (part ∷ a) b =
      let own = of_part f (typed_part (recognised_part part)) in
      map-append (Units.initial f) own (flat_map (of_part f) (map typed_part (map recognised_part (a ++ b))))
      ∙ ap (λ rest. map (Units.initial f) own ++ rest) (stores_both a b) ∙ sym (append_assoc (map (Units.initial f) own) (stores a) (stores b))
      ∙ ap (λ whole. whole ++ stores b) (sym (map-append (Units.initial f) own (flat_map (of_part f) (map typed_part (map recognised_part a)))))

  stores_one : (parts : List Part) (at : ℕ) (v : Typed.PartValue Noted) → parts ≡ part_at at v → stores parts ≡ stores_of_value at v
  stores_one parts at v e =
      ap stores e
      ∙ ap (map (Units.initial f)) (append-nil (of_value f at (mapped_value (of_types (λ (t : Noted). t.ty)) (recognised_value v))))

  split_bytes : (a b : List Part) → HaveBytes (a ++ b) → HaveBytes a × HaveBytes b
  split_bytes [] b h = (tt, h)
  split_bytes (part ∷ a) b h = let r = split_bytes a b h.1 in ((h.0, r.0), r.1)

  two : {A : Type 0} (P : A → Type 0) (a b : List A) → AllByRecursion P (a ++ b) → AllByRecursion P a × AllByRecursion P b
  two P [] b h = (tt, h)
  two P (x ∷ a) b h = let r = two P a b h.1 in ((h.0, r.0), r.1)

  -- ---- of a number or a pointer

  module _ (d : Declared) where
    abbrev C : Typed.PartValue Noted → Type 0
    C v = HasConstant d v

    abbrev pub AreKnown : List Part → Type 0
    AreKnown parts = AllByRecursion (λ (part : Part). C part.value) parts

    pointer_stored : (t u : CType) (at : ℕ) (o : Option InitialValue) → IsStored (pointer t) at (map (Units.initial f) (stored u at o))
    pointer_stored t u at None = inl refl
    pointer_stored t u at (Some (a_number kind v)) = inr (V.Number kind v, refl)
    pointer_stored t u at (Some a_null) = inl refl
    pointer_stored t u at (Some (an_address a)) = inr (_, refl)
    pointer_stored t u at (Some (a_function g)) = inr (_, refl)

    number_stored : (kind : IntKind) (u : CType) (at : ℕ) (v : InitialValue) (c : Constant) → as_number d kind c ≡ Some v
        → IsStored (integer kind) at (map (Units.initial f) (stored u at (as_number (declared (at_file_scope f)) kind c)))
    number_stored kind u at v (valued x) h = (x, refl)
    number_stored kind u at v none h = cc
    number_stored kind u at v undefined h = cc

    value_stored : (t : CType) (at : ℕ) (x : Expression) → is_scalar t ≡ true → type_of x ≡ t → C (Typed.value x)
        → IsStored t at (stores_of_value at (Typed.value x))
    value_stored t at x s e h = by_type t s (type_stays x ∙ same x ∙ e) h.0 (subst (λ u. initial_in d u (typed x) ≡ Some h.0) (same x ∙ e) h.1)
      where
        same : (x : Expression) → ty (typed x) ≡ type_of x
        same (Typed.expression t at node) = refl

        y : Typed.Expression CType
        y = typed (recognised x)

        D : Declared
        D = declared (at_file_scope f)

        by_type : (t : CType) → is_scalar t ≡ true → ty y ≡ t → (v : InitialValue) → initial_in d t (typed x) ≡ Some v
            → IsStored t at (map (Units.initial f) (stored (ty y) at (initial_in D (ty y) y)))
        by_type (integer kind) s q v r =
            subst (λ u. IsStored (integer kind) at (map (Units.initial f) (stored u at (initial_in D u y)))) (sym q)
            (subst (λ c. IsStored (integer kind) at (map (Units.initial f) (stored (integer kind) at (as_number D kind c)))) (sym (constant_stays x))
            (number_stored kind (integer kind) at v (constant_of (typed x)) r))
        by_type (pointer t) s q v r = pointer_stored t (ty y) at (initial_in D (ty y) y)
        by_type t s q v r = cc

    one_named : (t : CType) (at : ℕ) (parts : List Part) (x : Expression) → is_scalar t ≡ true → type_of x ≡ t → parts ≡ part_at at (Typed.value x)
        → AreKnown parts → Named t at (stores parts)
    one_named t at parts x s e q k =
        let c = subst AreKnown q k in
        subst (Named t at) (sym (stores_one parts at (Typed.value x) q)) (by_value t at (stores_of_value at (Typed.value x)) (value_stored t at x s e c.0))

    text_named : (all : Option (List Spelling)) (s : Scope) (t : CType) (at : ℕ) (parts : List Part) → HaveBytes parts → IsText all s t at parts
        → Named t at (stores parts)
    text_named None s t at parts b h = absurd h
    text_named (Some all) s t at parts b h =
        let own = h.1 in
        let bytes = subst HaveBytes h.3 b in
        let text : IsStored (array (integer own.0) own.1) at (map (Units.initial f) (Units.of_text at h.0)) =
        (h.0, own.3, text_in all own.1 h.0 bytes.0 own.4, texts_same at h.0) in
        subst (Named t at) (sym (stores_one parts at (Typed.text h.0) h.3))
        (subst (λ t. Named t at (map (Units.initial f) (Units.of_text at h.0))) (sym own.2) (by_value (array (integer own.0) own.1) at _ text))

    -- ---- parts of arrays and structures

    abbrev IsSingle : Trees.Expression → Scope → CType → ℕ → List Part → Type 0
    IsSingle a s t at parts =
        ((x : Expression) × (is_scalar t ≡ true) × (type_of x ≡ t) × (parts ≡ part_at at (Typed.value x)) × Values (Erases a s) x)
        ⊎ ((r : ℕ) × (p : Path) × (t ≡ structure r) × (type_of_path p ≡ t) × (parts ≡ part_at at (Typed.record_of p)) × Erases a s (an_object p))
        ⊎ IsText (texts_of a) s t at parts

    single_named : (a : Trees.Expression) (s : Scope) (t : CType) (at : ℕ) (parts : List Part) → AreKnown parts → HaveBytes parts → IsSingle a s t at parts
        → Named t at (stores parts)
    single_named a s t at parts k b (inl h) = one_named t at parts h.0 h.1 h.2 h.3 k
    single_named a s t at parts k b (inr (inl h)) = let c = subst AreKnown h.4 k in absurd c.0
    single_named a s t at parts k b (inr (inr h)) = text_named (texts_of a) s t at parts b h

    no_more : (parts own rest : List Part) → parts ≡ own ++ rest → rest ≡ [] → stores own ≡ stores parts
    no_more parts own rest e z = ap stores (sym (e ∙ ap (λ rest. own ++ rest) z ∙ append-nil own))

    module _ (types : List (List ℕ)) where
      mutual
        named : (a : Trees.Expression) (s : Scope) (t : CType) (at : ℕ) (parts : List Part) → s.file ≡ f → Formed.IsInitializer types a → AreKnown parts
            → HaveBytes parts → Initializes a s t at parts → Named t at (stores parts)
        named (Trees.braces left all last right) s t at parts i well k b (inl h) = one_named t at parts h.0 h.1 h.2 h.3 k
        named (Trees.braces left all last right) s t at parts i well k b (inr (inl h)) =
            let e = elements_named all true s h.1 h.0 at parts i well.0 well.1 k b h.4 in
            subst (λ t. Named t at (stores parts)) (sym (h.2 ∙ ap (array h.1) e.1)) (by_elements h.1 e.0 at (stores parts) e.2)
        named (Trees.braces left all last right) s t at parts i well k b (inr (inr (inl h))) =
            let e = fields_named all true s h.0 0 h.1.fields at parts i well.0 well.1 k b h.4 in
            let there = subst (λ (f : FileScope). slice_get f.records h.0 ≡ Some h.1) i h.3 in
            subst (λ t. Named t at (stores parts)) (sym h.2) (by_fields h.0 at h.1 e.0 e.1 (stores parts) there e.2 e.3)
        named (Trees.braces left all last right) s t at parts i well k b (inr (inr (inr h))) =
            text_named (texts_of (Trees.braces left all last right)) s t at parts b h
        named a s t at parts i well k b h = single_named a s t at parts k b h

        -- at least one of them is named
        elements_named : (all : Trees.Arguments) (first : Bool) (s : Scope) (u : CType) (n at : ℕ) (parts : List Part) → s.file ≡ f
            → all ≢ Trees.no_arguments → Formed.AreInitializers types first all → AreKnown parts → HaveBytes parts → InitializeElements all s u n at parts
            → (m : ℕ) × (n ≡ m + 1) × AreElements R IsStored u (m + 1) at (stores parts)
        elements_named Trees.no_arguments first s u n at parts i some well k b h = absurd (some refl)
        elements_named (Trees.and_argument comma a Trees.no_arguments) first s u n at parts i some well k b h =
            let z = no_more parts h.1 h.2 h.4 h.6 in
            let c = two (λ (part : Part). C part.value) h.1 h.2 (subst AreKnown h.4 k) in
            let y = split_bytes h.1 h.2 (subst HaveBytes h.4 b) in
            (h.0, h.3, subst (AreElements R IsStored u (h.0 + 1) at) z (one_element u h.0 at (stores h.1) (named a s u at h.1 i well.1 c.0 y.0 h.5)))
        elements_named (Trees.and_argument comma a (Trees.and_argument second e more)) first s u n at parts i some well k b h =
            let c = two (λ (part : Part). C part.value) h.1 h.2 (subst AreKnown h.4 k) in
            let y = split_bytes h.1 h.2 (subst HaveBytes h.4 b) in
            let own = named a s u at h.1 i well.1 c.0 y.0 h.5 in
            let rest = elements_named (Trees.and_argument second e more) false s u h.0 (at + size_of s.file.records u) h.2 i (λ e. cc) well.2 c.1 y.1 h.6 in
            let there = subst (λ (f : FileScope). AreElements R IsStored u (rest.0 + 1) (at + size_of f.records u) (stores h.2)) i rest.2 in
            let all = and_elements u (rest.0 + 1) at (stores h.1) (stores h.2) own there in
            let whole = subst (AreElements R IsStored u (rest.0 + 1 + 1) at) (sym (ap stores h.4 ∙ stores_both h.1 h.2)) all in
            (h.0, h.3, subst (λ m. AreElements R IsStored u (m + 1) at (stores parts)) (sym rest.1) whole)

        fields_named : (all : Trees.Arguments) (first : Bool) (s : Scope) (r k : ℕ) (fields : List Field) (at : ℕ) (parts : List Part) → s.file ≡ f
            → all ≢ Trees.no_arguments → Formed.AreInitializers types first all → AreKnown parts → HaveBytes parts
            → InitializeFields all s r k fields at parts
            → (g : Field) × (later : List Field) × (fields ≡ g ∷ later) × AreFields R IsStored r k fields at (stores parts)
        fields_named Trees.no_arguments first s r k fields at parts i some well c b h = absurd (some refl)
        fields_named (Trees.and_argument comma a Trees.no_arguments) first s r k fields at parts i some well c b h =
            let z = no_more parts h.2 h.3 h.5 h.7 in
            let c = two (λ (part : Part). C part.value) h.2 h.3 (subst AreKnown h.5 c) in
            let y = split_bytes h.2 h.3 (subst HaveBytes h.5 b) in
            let own = named a s h.0.ty (at + offset_of s.file.records r k) h.2 i well.1 c.0 y.0 h.6 in
            let there = subst (λ (f : FileScope). Named h.0.ty (at + offset_of f.records r k) (stores h.2)) i own in
            let all = subst (AreFields R IsStored r k (h.0 ∷ h.1) at) z (one_field r k at h.0 h.1 (stores h.2) there) in
            (h.0, h.1, h.4, subst (λ fields. AreFields R IsStored r k fields at (stores parts)) (sym h.4) all)
        fields_named (Trees.and_argument comma a (Trees.and_argument second e more)) first s r k fields at parts i some well c b h =
            let c = two (λ (part : Part). C part.value) h.2 h.3 (subst AreKnown h.5 c) in
            let y = split_bytes h.2 h.3 (subst HaveBytes h.5 b) in
            let own = named a s h.0.ty (at + offset_of s.file.records r k) h.2 i well.1 c.0 y.0 h.6 in
            let there = subst (λ (f : FileScope). Named h.0.ty (at + offset_of f.records r k) (stores h.2)) i own in
            let rest = fields_named (Trees.and_argument second e more) false s r (k + 1) h.1 at h.3 i (λ e. cc) well.2 c.1 y.1 h.7 in
            let all = and_fields r k at h.0 h.1 (stores h.2) (stores h.3) there rest.3 in
            let whole = subst (AreFields R IsStored r k (h.0 ∷ h.1) at) (sym (ap stores h.5 ∙ stores_both h.2 h.3)) all in
            (h.0, h.1, h.4, subst (λ fields. AreFields R IsStored r k fields at (stores parts)) (sym h.4) whole)

  -- ---- of whole objects

  pub initializer_named : (d : Declared) (types : List (List ℕ)) (a : Trees.Expression) (s : Scope) (t : CType) (i : Typed.Initializer Noted) → s.file ≡ f
      → Formed.IsInitializer types a → AreConstants d i → HoldsBytes i → IsInitializer a s t i
      → Named t 0 (map (Units.initial f) (of_initializer f (typed_initializer i)))
  initializer_named d types a s t i file well k b (inl h) =
      let c = subst (AreConstants d) h.1 k in
      let all = named d types a s t 0 (part_at 0 (Typed.value h.0)) file well (c, tt) (tt, tt) h.3 in
      subst (λ i. Named t 0 (map (Units.initial f) (of_initializer f (typed_initializer i)))) (sym h.1)
      (subst (Named t 0) (stores_one (part_at 0 (Typed.value h.0)) 0 (Typed.value h.0) refl) all)
  initializer_named d types a s t i file well k b (inr (inl h)) = absurd (subst (AreConstants d) h.1 k)
  initializer_named d types a s t i file well k b (inr (inr h)) =
      let c = recursion_from_All (λ (part : Part). HasConstant d part.value) h.0 (subst (AreConstants d) h.1 k) in
      subst (λ i. Named t 0 (map (Units.initial f) (of_initializer f (typed_initializer i)))) (sym h.1)
      (named d types a s t 0 h.0 file well c (subst HoldsBytes h.1 b) h.3)
