-- What stands for an initializer of a text is printable (C99 6.7.8): braces name parts from the first on.
use Rattle.std.proofs.Common.{◌≡◌, ◌≢◌, ◌∙◌, ℕ, suc, ◌+◌, ◌≤◌, ◌<◌, Bool, true, false, refl, sym, ap, subst, List, [], ◌∷◌, ◌++◌, map, length, append-nil}
use Rattle.std.proofs.Common.{arith, inl, inr, Some, None}
use Rattle.std.proofs.lemmas.Bool.{and_parts}
use Rattle.std.proofs.lemmas.List.{map-append}
use Rattle.std.proofs.lemmas.List.Elements.{All-from_recursion}
use Rattle.std.specs.Prelude.{◌⊎◌, Option, slice_get, nat_lt}
use Rattle.std.specs.Option.{option_map}
use Rattle.c_types.specs.Layouts.{size_of, offset_of}
use Rattle.c_types.specs.Objects.{is_object}
use Rattle.c_types.specs.Types.{CType, void, array, structure, Field, Record, field_types}
use Rattle.c_numbers.specs.TypeNumbers.Renumbered.{renumbered}
use Rattle.c_ast.specs.declared.words.Spelling.{Spelling}
use Rattle.c_ast.specs.Spelling.{Lexeme, spelled, spelled_arguments}
use Rattle.c_ast.specs.Trees
use Rattle.c_ast.specs.WellFormed.{IsExpression, IsInitializer, AreInitializers}
use Rattle.c_typed.specs.Conversions.{is_scalar, is_record}
use Rattle.c_typed.specs.Mapped.{mapped_value, mapped_part, mapped_initializer}
use Rattle.c_typed.specs.Trees as Typed
use Rattle.c_typed.specs.Typed.{field_type, type_in}
use Rattle.c_erasure.specs.Erasure.{literal_of, Values, Erases}
use Rattle.c_erasure.specs.Initializers.{Part, part_at, texts_of, IsTextOf, IsText, Initializes, IsOneValue, InitializeElements, InitializeFields, is_braces}
use Rattle.c_erasure.specs.Initializers as Erased
use Rattle.c_erasure.specs.Noted.{Noted, Expression, Path, an_object, type_of, type_of_path}
use Rattle.c_erasure.specs.Scopes.{Scope, FileScope}
use Rattle.c_erasure.specs.Units.{recognised_value, recognised_part, recognised_initializer}
use Rattle.c_erasure.proofs.MarkPlaces.MarksOfFiles.{initializer_along}
use Rattle.c_erasure.proofs.MarkPlaces.Walks.{comma_along}
use Rattle.c_well_typed.proofs.RenumberedTypes.{scalar_same}
use Rattle.c_well_typed.specs.Printable.Initializers.{IsNamed, AreElements, AreFields, by_value, by_elements, by_fields, one_element, and_elements, one_field, and_fields}
use Rattle.c_well_typed.specs.Printable.Initializers.{IsValue, IsPart, IsPrintableInitializer}
use Rattle.c_well_typed.specs.Printable.Initializers as Printable
use Rattle.c_well_typed.proofs.PrintableFunctions.Conversions.{renamed}
use Rattle.c_well_typed.proofs.PrintableFunctions.Expressions.{no_tags, IsSaid, said, said_value}
use Rattle.c_well_typed.proofs.PrintableFunctions.Tokens.{AreBytes, HaveValues, behind, literal_has_bytes, literal_ends}

-- the records of a file among those of the program: complete types are as large there, and fields begin at the same bytes
pub record LieAlike (records others : List Record) (n : ℕ → ℕ) : Type 0 where
  pub sizes : (t : CType) → is_object (length records) t ≡ true → size_of others (renumbered n t) ≡ size_of records t
  pub fields : (r : ℕ) (rec : Record) → slice_get records r ≡ Some rec → (other : Record) × (slice_get others (n r) ≡ Some other)
      × (field_types other ≡ map (renumbered n) (field_types rec))
  pub offsets : (r k : ℕ) (t : CType) → field_type records r k ≡ Some t → offset_of others (n r) k ≡ offset_of records r k
  pub complete : (r k : ℕ) (t : CType) → field_type records r k ≡ Some t → is_object (length records) t ≡ true

-- the fields of a record from one on
abbrev Follow : List Record → (r k : ℕ) → List Field → Type 0
Follow records r k [] = Unit {0}
Follow records r k (x ∷ more) = (field_type records r k ≡ Some x.ty) × Follow records r (k + 1) more

follow_on : (records : List Record) (r : ℕ) (rec : Record) → slice_get records r ≡ Some rec → (k : ℕ) (fields : List Field)
    → ((i : ℕ) → slice_get fields i ≡ slice_get rec.fields (k + i)) → Follow records r k fields
follow_on records r rec e k [] h = tt
follow_on records r rec e k (x ∷ more) h = (
  ap (λ o. type_in o k) e ∙ ap (option_map (λ (x : Field). x.ty)) (ap (slice_get rec.fields) (let z : k ≡ k + 0 = omega arith in z) ∙ sym (h 0)),
  follow_on records r rec e (k + 1) more (λ i. h (suc i) ∙ ap (slice_get rec.fields) (let z : k + suc i ≡ k + 1 + i = omega arith in z)),
)

all_follow : (records : List Record) (r : ℕ) (rec : Record) → slice_get records r ≡ Some rec → Follow records r 0 rec.fields
all_follow records r rec e = follow_on records r rec e 0 rec.fields (λ i. ap (slice_get rec.fields) (let z : i ≡ 0 + i = omega arith in z))

first_bytes : (a b : List ℕ) → AreBytes (a ++ b) → AreBytes a
first_bytes [] b h = tt
first_bytes (x ∷ a) b h = (h.0, first_bytes a b h.1)

-- a part tells its value
abbrev first_value : Typed.PartValue Noted → List Part → Typed.PartValue Noted
first_value other [] = other
first_value other (part ∷ more) = part.value

value_of_one : (at : ℕ) (v w : Typed.PartValue Noted) → part_at at v ≡ part_at at w → v ≡ w
value_of_one at v w h = ap (first_value v) h

no_value : (p : Path) (x : Expression) → Typed.record_of p ≡ Typed.value x → ⊥
no_value p x h = cc

no_text : (p : Path) (bytes : List ℕ) → Typed.record_of p ≡ Typed.text bytes → ⊥
no_text p bytes h = cc

same_path : {T : Type 0} (p q : Typed.Path T) → Typed.record_of p ≡ Typed.record_of q → p ≡ q
same_path p q h = cc

module _ (n object callee : ℕ → ℕ) (f : FileScope) (records : List Record) (alike : LieAlike f.records records n) (types : List (List ℕ)) where
  abbrev R : CType → CType
  R t = renumbered n t

  abbrev moved : List Part → List (Typed.Part CType)
  moved parts = map (mapped_part (renamed n object callee)) (map recognised_part parts)

  abbrev Named : CType → ℕ → List Part → Type 0
  Named t at parts = IsNamed records IsPart (R t) at (moved parts)

  abbrev IsWhole : CType → Type 0
  IsWhole t = is_object (length f.records) t ≡ true

  moved_both : (a b : List Part) → moved (a ++ b) ≡ moved a ++ moved b
  moved_both a b =
      ap (map (mapped_part (renamed n object callee))) (map-append recognised_part a b)
      ∙ map-append (mapped_part (renamed n object callee)) (map recognised_part a) (map recognised_part b)

  -- ---- sorts of types

  record_same : (t : CType) → is_record (R t) ≡ is_record t
  record_same void = refl
  record_same t = refl

  -- ---- one value

  one : (t : CType) (at : ℕ) (parts : List Part) (v : Typed.PartValue Noted) → parts ≡ part_at at v
      → IsValue (R t) (mapped_value (renamed n object callee) (recognised_value v)) → Named t at parts
  one t at parts v e h = subst (Named t at) (sym e) (by_value (R t) at (moved (part_at at v)) (refl, h))

  scalar : (t : CType) (at : ℕ) (parts : List Part) (x : Expression) → is_scalar t ≡ true → parts ≡ part_at at (Typed.value x) → IsSaid n object callee x
      → Named t at parts
  scalar t at parts x i e h = one t at parts (Typed.value x) e (scalar_same n t ∙ i, h.0)

  text : (all : List Spelling) (s : Scope) (t : CType) (at : ℕ) (parts : List Part) → AreBytes (literal_of all) → IsText (Some all) s t at parts
      → Named t at parts
  text all s t at parts b h = one t at parts (Typed.text h.0) h.3 (h.1.0, h.1.1, ap R h.1.2, h.1.3, by_length h.1.4)
    where
      by_length : ((literal_of all ≡ h.0) × (length h.0 ≤ h.1.1)) ⊎ ((literal_of all ≡ h.0 ++ 0 ∷ []) × (length h.0 ≡ h.1.1)) → Printable.IsText h.1.1 h.0
      by_length (inl e) =
          let ends = literal_ends all in
          (All-from_recursion (λ b. b < 256) h.0 (subst AreBytes e.0 b), inr (ends.0, sym e.0 ∙ ends.1, e.1))
      by_length (inr e) = (All-from_recursion (λ b. b < 256) h.0 (first_bytes h.0 (0 ∷ []) (subst AreBytes e.0 b)), inl e.1)

  in_braces : (left : ℕ) (all : Trees.Arguments) (last : Option ℕ) (right : ℕ) (s : Scope) (t : CType) (at : ℕ) (parts : List Part) (rest : List Lexeme)
      → HaveValues (spelled_arguments all rest) → IsText (texts_of (Trees.braces left all last right)) s t at parts → Named t at parts
  in_braces left Trees.no_arguments last right s t at parts rest k h = absurd h
  in_braces left (Trees.and_argument comma (Trees.texts all) Trees.no_arguments) last right s t at parts rest k h =
      text all s t at parts (literal_has_bytes all _ (behind (comma_along comma) k)) h
  in_braces left (Trees.and_argument comma (Trees.texts all) (Trees.and_argument second c more)) last right s t at parts rest k h = absurd h
  in_braces left (Trees.and_argument comma a more) last right s t at parts rest k h = absurd h

  by_texts : (a : Trees.Expression) (s : Scope) (t : CType) (at : ℕ) (parts : List Part) (rest : List Lexeme) → HaveValues (spelled a rest)
      → IsText (texts_of a) s t at parts → Named t at parts
  by_texts (Trees.texts all) s t at parts rest k h = text all s t at parts (literal_has_bytes all rest k) h
  by_texts (Trees.braces left all last right) s t at parts rest k h = in_braces left all last right s t at parts _ k.1 h
  by_texts a s t at parts rest k h = absurd h

  abbrev IsSingle : Trees.Expression → Scope → CType → ℕ → List Part → Type 0
  IsSingle a s t at parts =
      ((x : Expression) × (is_scalar t ≡ true) × (type_of x ≡ t) × (parts ≡ part_at at (Typed.value x)) × Values (Erases a s) x)
      ⊎ ((r : ℕ) × (p : Path) × (t ≡ structure r) × (type_of_path p ≡ t) × (parts ≡ part_at at (Typed.record_of p)) × Erases a s (an_object p))
      ⊎ IsText (texts_of a) s t at parts

  single : (a : Trees.Expression) (s : Scope) (t : CType) (at : ℕ) (parts : List Part) (rest : List Lexeme) → IsExpression types a
      → HaveValues (spelled a rest) → IsSingle a s t at parts → Named t at parts
  single a s t at parts rest w k (inl h) = scalar t at parts h.0 h.1 h.3 (said_value n object callee types a s h.0 rest w k h.4)
  single a s t at parts rest w k (inr (inl h)) =
      one t at parts (Typed.record_of h.1) h.4
      (record_same t ∙ ap is_record h.2, said n object callee types a s (an_object h.1) rest w k h.5)
  single a s t at parts rest w k (inr (inr h)) = by_texts a s t at parts rest k h

  value_in : (a : Trees.Expression) (s : Scope) (x : Expression) (rest : List Lexeme) → IsInitializer types a → HaveValues (spelled a rest)
      → Values (Erases a s) x → IsSaid n object callee x
  value_in (Trees.braces left all last right) s x rest w k h = absurd h.2
  value_in a s x rest w k h = said_value n object callee types a s x rest w.1 k h

  one_value : (all : Trees.Arguments) (s : Scope) (x : Expression) (rest : List Lexeme) → AreInitializers types true all
      → HaveValues (spelled_arguments all rest) → IsOneValue all s x → IsSaid n object callee x
  one_value Trees.no_arguments s x rest w k h = absurd h
  one_value (Trees.and_argument comma a Trees.no_arguments) s x rest w k h = value_in a s x _ w.1 (behind (comma_along comma) k) h
  one_value (Trees.and_argument comma a (Trees.and_argument second c more)) s x rest w k h = absurd h

  -- ---- elements and fields

  abbrev HasElements : CType → ℕ → ℕ → List Part → Type 0
  HasElements u size at parts = (m : ℕ) × (size ≡ m + 1) × AreElements records IsPart (R u) (m + 1) at (moved parts)

  one_alone : (u : CType) (size m at : ℕ) (parts own rest : List Part) → size ≡ m + 1 → parts ≡ own ++ rest → rest ≡ [] → Named u at own
      → HasElements u size at parts
  one_alone u size m at parts own rest e p empty h =
      let is : parts ≡ own = p ∙ ap (λ rest. own ++ rest) empty ∙ append-nil own in
      (m, e, subst (λ parts. AreElements records IsPart (R u) (m + 1) at (moved parts)) (sym is) (one_element (R u) m at (moved own) h))

  one_before : (u : CType) (size m at next : ℕ) (parts own rest : List Part) → size ≡ m + 1 → parts ≡ own ++ rest → next ≡ at + size_of records (R u)
      → Named u at own → HasElements u m next rest → HasElements u size at parts
  one_before u size m at next parts own rest e p there h k =
      let is : moved parts ≡ moved own ++ moved rest = ap moved p ∙ moved_both own rest in
      let more = subst (λ m. AreElements records IsPart (R u) m next (moved rest)) (sym k.1) k.2 in
      let after = subst (λ at. AreElements records IsPart (R u) m at (moved rest)) there more in
      (m, e, subst (AreElements records IsPart (R u) (m + 1) at) (sym is) (and_elements (R u) m at (moved own) (moved rest) h after))

  -- the same fields in the program
  abbrev AreAgain : List Field → List Field → Type 0
  AreAgain others fields = map (λ (x : Field). x.ty) others ≡ map R (map (λ (x : Field). x.ty) fields)

  field_alone : (r k at by : ℕ) (others : List Field) (x : Field) (later : List Field) (parts own rest : List Part) → AreAgain others (x ∷ later)
      → parts ≡ own ++ rest → rest ≡ [] → by ≡ at + offset_of records (n r) k → Named x.ty by own → AreFields records IsPart (n r) k others at (moved parts)
  field_alone r k at by [] x later parts own rest g p empty there h = cc
  field_alone r k at by (o ∷ os) x later parts own rest g p empty there h =
      let is : parts ≡ own = p ∙ ap (λ rest. own ++ rest) empty ∙ append-nil own in
      let type : o.ty ≡ R x.ty = cc in
      let own_there = subst (λ t. IsNamed records IsPart t (at + offset_of records (n r) k) (moved own)) (sym type)
      (subst (λ by. Named x.ty by own) there h) in
      subst (λ parts. AreFields records IsPart (n r) k (o ∷ os) at (moved parts)) (sym is) (one_field (n r) k at o os (moved own) own_there)

  field_before : (r k at by : ℕ) (others : List Field) (x : Field) (later : List Field) (parts own rest : List Part) → AreAgain others (x ∷ later)
      → parts ≡ own ++ rest → by ≡ at + offset_of records (n r) k → Named x.ty by own
      → ((others : List Field) → AreAgain others later → AreFields records IsPart (n r) (k + 1) others at (moved rest))
      → AreFields records IsPart (n r) k others at (moved parts)
  field_before r k at by [] x later parts own rest g p there h more = cc
  field_before r k at by (o ∷ os) x later parts own rest g p there h more =
      let is : moved parts ≡ moved own ++ moved rest = ap moved p ∙ moved_both own rest in
      let type : o.ty ≡ R x.ty = cc in
      let own_there = subst (λ t. IsNamed records IsPart t (at + offset_of records (n r) k) (moved own)) (sym type)
      (subst (λ by. Named x.ty by own) there h) in
      subst (AreFields records IsPart (n r) k (o ∷ os) at) (sym is) (and_fields (n r) k at o os (moved own) (moved rest) own_there (more os cc))

  has_first : (r k at : ℕ) (others : List Field) (all : List (Typed.Part CType)) → AreFields records IsPart r k others at all
      → (o : Field) × (os : List Field) × (others ≡ o ∷ os)
  has_first r k at others all (one_field _ _ _ x more own h) = (x, more, refl)
  has_first r k at others all (and_fields _ _ _ x more own rest h g) = (x, more, refl)

  elements_named : (t u : CType) (size at : ℕ) (parts : List Part) → t ≡ array u size → HasElements u size at parts → Named t at parts
  elements_named t u size at parts e h =
      subst (λ t. Named t at parts) (sym (e ∙ ap (array u) h.1)) (by_elements (R u) h.0 at (moved parts) h.2)

  fields_named : (t : CType) (r at : ℕ) (rec : Record) (parts : List Part) → t ≡ structure r → slice_get f.records r ≡ Some rec
      → ((others : List Field) → AreAgain others rec.fields → AreFields records IsPart (n r) 0 others at (moved parts)) → Named t at parts
  fields_named t r at rec parts e there h =
      let z = alike.fields r rec there in
      let other = z.0 in
      let all = h other.fields z.2 in
      let first = has_first (n r) 0 at other.fields (moved parts) all in
      subst (λ t. Named t at parts) (sym e) (by_fields (n r) at other first.0 first.1 (moved parts) z.1 first.2 all)

  -- ---- where an element or a field begins

  next_element : (s : Scope) (u : CType) (at : ℕ) → s.file ≡ f → IsWhole u → at + size_of s.file.records u ≡ at + size_of records (R u)
  next_element s u at e o = ap (λ (f : FileScope). at + size_of f.records u) e ∙ ap (λ size. at + size) (sym (alike.sizes u o))

  this_field : (s : Scope) (r k at : ℕ) (t : CType) → s.file ≡ f → field_type f.records r k ≡ Some t
      → at + offset_of s.file.records r k ≡ at + offset_of records (n r) k
  this_field s r k at t e h = ap (λ (f : FileScope). at + offset_of f.records r k) e ∙ ap (λ by. at + by) (sym (alike.offsets r k t h))

  element_whole : (t u : CType) (size : ℕ) → t ≡ array u size → IsWhole t → IsWhole u
  element_whole t u size e o = (and_parts (nat_lt 0 size) (is_object (length f.records) u) (subst IsWhole e o)).1

  -- ---- initializers

  mutual
    named : (a : Trees.Expression) (s : Scope) (t : CType) (at : ℕ) (parts : List Part) (rest : List Lexeme) → s.file ≡ f → IsInitializer types a
        → HaveValues (spelled a rest) → IsWhole t → Initializes a s t at parts → Named t at parts
    named (Trees.braces left all last right) s t at parts rest e w k o (inl h) =
        scalar t at parts h.0 h.1 h.3 (one_value all s h.0 _ w.1 k.1 h.4)
    named (Trees.braces left all last right) s t at parts rest e w k o (inr (inl h)) =
        elements_named t h.1 h.0 at parts h.2 (elements true all s h.1 h.0 at parts _ e w.0 w.1 k.1 (element_whole t h.1 h.0 h.2 o) h.4)
    named (Trees.braces left all last right) s t at parts rest e w k o (inr (inr (inl h))) =
        let there = subst (λ (f : FileScope). slice_get f.records h.0 ≡ Some h.1) e h.3 in
        fields_named t h.0 at h.1 parts h.2 there
        (λ others again. fields true all s h.0 0 h.1.fields others at parts _ e w.0 w.1 k.1 (all_follow f.records h.0 h.1 there) again h.4)
    named (Trees.braces left all last right) s t at parts rest e w k o (inr (inr (inr h))) = in_braces left all last right s t at parts _ k.1 h
    named a s t at parts rest e w k o h = single a s t at parts rest w.1 k h

    elements : (first : Bool) (all : Trees.Arguments) (s : Scope) (u : CType) (size at : ℕ) (parts : List Part) (rest : List Lexeme) → s.file ≡ f
        → all ≢ Trees.no_arguments → AreInitializers types first all → HaveValues (spelled_arguments all rest) → IsWhole u
        → InitializeElements all s u size at parts → HasElements u size at parts
    elements first Trees.no_arguments s u size at parts rest e some w k o h = absurd (some refl)
    elements first (Trees.and_argument comma a Trees.no_arguments) s u size at parts rest e some w k o h =
        one_alone u size h.0 at parts h.1 h.2 h.3 h.4 h.6 (named a s u at h.1 _ e w.1 (behind (comma_along comma) k) o h.5)
    elements first (Trees.and_argument comma a (Trees.and_argument second c more)) s u size at parts rest e some w k o h =
        let own = behind (comma_along comma) k in
        one_before u size h.0 at (at + size_of s.file.records u) parts h.1 h.2 h.3 h.4 (next_element s u at e o) (named a s u at h.1 _ e w.1 own o h.5)
        (elements false (Trees.and_argument second c more) s u h.0 _ h.2 rest e (λ none. cc) w.2 (behind (initializer_along no_tags types a w.1) own) o h.6)

    fields : (first : Bool) (all : Trees.Arguments) (s : Scope) (r k : ℕ) (own others : List Field) (at : ℕ) (parts : List Part) (rest : List Lexeme)
        → s.file ≡ f → all ≢ Trees.no_arguments → AreInitializers types first all → HaveValues (spelled_arguments all rest) → Follow f.records r k own
        → AreAgain others own → InitializeFields all s r k own at parts → AreFields records IsPart (n r) k others at (moved parts)
    fields first Trees.no_arguments s r k own others at parts rest e some w v follows again h = absurd (some refl)
    fields first (Trees.and_argument comma a Trees.no_arguments) s r k own others at parts rest e some w v follows again h =
        let is = subst (Follow f.records r k) h.4 follows in
        field_alone r k at _ others h.0 h.1 parts h.2 h.3 (subst (AreAgain others) h.4 again) h.5 h.7 (this_field s r k at h.0.ty e is.0)
        (named a s h.0.ty _ h.2 _ e w.1 (behind (comma_along comma) v) (alike.complete r k h.0.ty is.0) h.6)
    fields first (Trees.and_argument comma a (Trees.and_argument second c more)) s r k own others at parts rest e some w v follows again h =
        let is = subst (Follow f.records r k) h.4 follows in
        let first = behind (comma_along comma) v in
        field_before r k at _ others h.0 h.1 parts h.2 h.3 (subst (AreAgain others) h.4 again) h.5 (this_field s r k at h.0.ty e is.0)
        (named a s h.0.ty _ h.2 _ e w.1 first (alike.complete r k h.0.ty is.0) h.6)
        (λ others again. fields false (Trees.and_argument second c more) s r (k + 1) h.1 others at h.3 rest e (λ none. cc) w.2
        (behind (initializer_along no_tags types a w.1) first) is.1 again h.7)

  -- ---- of a whole object

  scalar_part : (t : CType) (at : ℕ) (all : List (Typed.Part CType)) → is_scalar t ≡ true → IsNamed records IsPart t at all → IsPart t at all
  scalar_part t at all i (by_value _ _ _ h) = h
  scalar_part t at all i (by_elements u size _ _ h) = cc
  scalar_part t at all i (by_fields r _ rec x more _ e g h) = cc

  no_text_alone : (all : Option (List Spelling)) (s : Scope) (t : CType) (p : Path) → IsText all s t 0 (part_at 0 (Typed.record_of p)) → ⊥
  no_text_alone None s t p h = absurd h
  no_text_alone (Some all) s t p h = no_text p h.0 (value_of_one 0 (Typed.record_of p) (Typed.text h.0) h.3)

  single_record : (a : Trees.Expression) (s : Scope) (t : CType) (p : Path) → IsSingle a s t 0 (part_at 0 (Typed.record_of p)) → Erases a s (an_object p)
  single_record a s t p (inl h) = absurd (no_value p h.0 (value_of_one 0 (Typed.record_of p) (Typed.value h.0) h.3))
  single_record a s t p (inr (inl h)) =
      subst (λ p. Erases a s (an_object p)) (sym (same_path p h.1 (value_of_one 0 (Typed.record_of p) (Typed.record_of h.1) h.4))) h.5
  single_record a s t p (inr (inr h)) = absurd (no_text_alone (texts_of a) s t p h)

  abbrev Is : CType → Option (Typed.Initializer Noted) → Type 0
  Is t i = IsPrintableInitializer records (R t) (option_map (mapped_initializer (renamed n object callee)) (option_map recognised_initializer i))

  record_said : (a : Trees.Expression) (s : Scope) (t : CType) (p : Path) (rest : List Lexeme) → IsInitializer types a → HaveValues (spelled a rest)
      → is_braces a ≡ false → Initializes a s t 0 (part_at 0 (Typed.record_of p)) → Is t (Some (Typed.whole_record p))
  record_said (Trees.braces left all last right) s t p rest w k b h = cc
  record_said a s t p rest w k b h = said n object callee types a s (an_object p) rest w.1 k (single_record a s t p h)

  pub initializer_said : (a : Trees.Expression) (s : Scope) (t : CType) (i : Typed.Initializer Noted) (rest : List Lexeme) → s.file ≡ f
      → IsInitializer types a → HaveValues (spelled a rest) → IsWhole t → Erased.IsInitializer a s t i → Is t (Some i)
  initializer_said a s t i rest e w k o (inl h) =
      let part = scalar_part (R t) 0 (moved (part_at 0 (Typed.value h.0))) (scalar_same n t ∙ h.2) (named a s t 0 _ rest e w k o h.3) in
      subst (λ i. Is t (Some i)) (sym h.1) part.1.1
  initializer_said a s t i rest e w k o (inr (inl h)) = subst (λ i. Is t (Some i)) (sym h.1) (record_said a s t h.0 rest w k h.3 h.4)
  initializer_said a s t i rest e w k o (inr (inr h)) = subst (λ i. Is t (Some i)) (sym h.1) (named a s t 0 h.0 rest e w k o h.3)
