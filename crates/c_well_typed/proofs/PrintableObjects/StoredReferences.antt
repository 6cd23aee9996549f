-- What a file's objects hold at first refers to what their initializers do, in the same order, where they are constants: a number and a null pointer refer to
-- nothing, and an address or a function to one thing (C99 6.6, 6.7.8).
use Rattle.std.proofs.Common.{◌≡◌, ◌∙◌, ℕ, ◌+◌, refl, sym, ap, List, [], ◌∷◌, ◌++◌, map, flat_map}
use Rattle.std.proofs.lemmas.List.{map-append}
use Rattle.std.proofs.lemmas.List.Elements.{recursion_from_All}
use Rattle.std.specs.Prelude.{Some}
use Rattle.std.specs.List.{AllByRecursion}
use Rattle.c_types.specs.Types.{CType}
use Rattle.c_typed.specs.declared.program.Initial.{Initial}
use Rattle.c_typed.specs.Constants.{ty}
use Rattle.c_typed.specs.InitialValues.{InitialValue, a_number, a_null, an_address, a_function}
use Rattle.c_typed.specs.References.{Reference, references_by_value, references_by_initializer}
use Rattle.c_typed.specs.Trees as Typed
use Rattle.c_typed.specs.Typed.{Declared}
use Rattle.c_typed.specs.TypedStatements.{IsTypedValue, IsTypedPart, IsTypedInitializer}
use Rattle.c_erasure.specs.Erasure.{typed}
use Rattle.c_erasure.specs.Initializers.{Part, HasConstant, AreConstants}
use Rattle.c_erasure.specs.Noted.{Noted}
use Rattle.c_erasure.specs.Recognised.{recognised}
use Rattle.c_erasure.specs.Scopes.{FileScope, at_file_scope, declared}
use Rattle.c_erasure.specs.Units as Units
use Rattle.c_erasure.specs.Units.{recognised_part, recognised_value, typed_initializer, stored, of_part, of_value, of_text, of_expression, of_initializer}
use Rattle.c_well_typed.proofs.RecognisedStatements.{typed_value, typed_part, typed_initial}
use Rattle.c_well_typed.specs.Printable.Programs.{referred_by}
use Rattle.c_well_typed.proofs.PrintableObjects.Addresses.{value_alone, referred}
use Rattle.c_well_typed.proofs.PrintableObjects.Kept.{kept, converted_settled}
use Rattle.c_well_typed.proofs.PrintableObjects.Renamed.{types_alike}
use Rattle.c_well_typed.proofs.PrintableObjects.StayingValues.{HasValue, value_stays, value_same, with_locals}

abbrev pub referred_by_all : List Initial → List Reference
referred_by_all all = flat_map (λ i. referred_by i.value) all

referred_both : (a b : List Initial) → referred_by_all (a ++ b) ≡ referred_by_all a ++ referred_by_all b
referred_both [] b = refl
referred_both (i ∷ a) b = rw (referred_both a b) (both (referred_by i.value) (referred_by_all a) (referred_by_all b))
  where
    both : (x y z : List Reference) → x ++ (y ++ z) ≡ (x ++ y) ++ z
    both [] y z = refl
    both (r ∷ x) y z = ap (λ more. r ∷ more) (both x y z)

module _ (f : FileScope) where
  abbrev D : Declared
  D = declared (at_file_scope f)

  abbrev New : ℕ → Typed.PartValue Noted → List Reference
  New at v = referred_by_all (map (Units.initial f) (of_value f at (typed_value (recognised_value v))))

  text_refers : (at : ℕ) (bytes : List ℕ) → referred_by_all (map (Units.initial f) (of_text at bytes)) ≡ []
  text_refers at [] = refl
  text_refers at (v ∷ bytes) = text_refers (at + 1) bytes

  stored_refers : (t : CType) (at : ℕ) (v : InitialValue) → referred_by_all (map (Units.initial f) (stored t at (Some v))) ≡ referred D v
  stored_refers t at (a_number kind v) = refl
  stored_refers t at a_null = refl
  stored_refers t at (an_address a) = refl
  stored_refers t at (a_function g) = refl

  -- with whatever locals it is constant
  module _ (L : List CType) where
    abbrev C : Declared
    C = with_locals L D

    value_refers : (t : CType) (at : ℕ) (v : Typed.PartValue Noted) → HasConstant C v → IsTypedValue D t (typed_value v)
        → New at v ≡ references_by_value v
    value_refers t at (Typed.value e) c h =
        let s = converted_settled (typed e) t h.2 in
        let here : HasValue D (typed e) = (c.0, sym (value_same D L (typed e)) ∙ c.1) in
        let k = value_stays D e h.0 s here in
        let stores : of_expression f at (typed (recognised e)) ≡ stored (ty (typed (recognised e))) at (Some k.0) =
        ap (stored (ty (typed (recognised e))) at) k.1 in
        ap (λ all. referred_by_all (map (Units.initial f) all)) stores ∙ stored_refers (ty (typed (recognised e))) at k.0
        ∙ sym (value_alone D (typed (recognised e)) k.0 k.1) ∙ types_alike (λ (t : Noted). t.ty) (recognised e) ∙ kept D e h.0 s
    value_refers t at (Typed.record_of p) c h = absurd c
    value_refers t at (Typed.text bytes) c h = text_refers at bytes

    parts_refer : (t : CType) (all : List Part) → AllByRecursion (λ (part : Part). HasConstant C part.value) all
        → AllByRecursion (IsTypedPart D t) (map typed_part all)
        → referred_by_all (map (Units.initial f) (flat_map (of_part f) (map typed_part (map recognised_part all))))
        ≡ flat_map (λ part. references_by_value part.value) all
    parts_refer t [] c h = refl
    parts_refer t (part ∷ all) c h =
        let own = of_part f (typed_part (recognised_part part)) in
        let rest = flat_map (of_part f) (map typed_part (map recognised_part all)) in
        let v = value_refers h.0.0 part.offset part.value c.0 h.0.2 in
        let r = parts_refer t all c.1 h.1 in
        ap referred_by_all (map-append (Units.initial f) own rest) ∙ referred_both (map (Units.initial f) own) (map (Units.initial f) rest)
        ∙ rw (v, r) refl

    pub initializer_refers : (t : CType) (i : Typed.Initializer Noted) → AreConstants C i → IsTypedInitializer D t (typed_initial i)
        → referred_by_all (map (Units.initial f) (of_initializer f (typed_initializer i))) ≡ references_by_initializer i
    initializer_refers t (Typed.whole e) c h = value_refers t 0 (Typed.value e) c h
    initializer_refers t (Typed.whole_record p) c h = absurd c
    initializer_refers t (Typed.parts all) c h =
        parts_refer t all (recursion_from_All (λ (part : Part). HasConstant C part.value) all c) (recursion_from_All (IsTypedPart D t) (map typed_part all) h.1)
