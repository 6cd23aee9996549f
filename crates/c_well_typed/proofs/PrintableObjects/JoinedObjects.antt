-- What the objects of a program hold at first is named by braces where it is so in its units: fields and elements lie at the same bytes where records have
-- other numbers (C99 6.7.8).
use Rattle.std.proofs.Common.{◌≡◌, ◌∙◌, ℕ, suc, ◌+◌, Bool, true, false, refl, sym, ap, subst, List, [], ◌∷◌, ◌++◌, length, map, arith, inl, inr}
use Rattle.std.proofs.lemmas.Bool.{and_parts}
use Rattle.std.proofs.lemmas.List.{map-append}
use Rattle.std.proofs.lemmas.List.Elements.{recursion_from_All, All-from_recursion}
use Rattle.std.specs.Prelude.{All, Option, Some, None, slice_get, nat_lt}
use Rattle.std.specs.Option.{option_map}
use Rattle.c_types.specs.declared.ty.IntKind.TheVariants.{Char}
use Rattle.c_types.specs.Layouts.{size_of, offset_of}
use Rattle.c_types.specs.Limits.{AreComplete}
use Rattle.c_types.specs.Objects.{is_object}
use Rattle.c_types.specs.Types.{CType, integer, pointer, array, Field, Record}
use Rattle.c_numbers.specs.TypeNumbers.Renumbered.{renumbered}
use Rattle.c_typed.specs.declared.program.Initial.{Initial}
use Rattle.c_typed.specs.declared.program.InitialValue.TheVariants as V
use Rattle.c_typed.specs.declared.program.Object.{Object}
use Rattle.c_typed.specs.Mapped.{Renaming}
use Rattle.c_typed.specs.Programs.{UnitData, ProgramData}
use Rattle.c_typed.specs.Typed.{field_type, type_in}
use Rattle.c_typed.specs.TypeNumbers.{type_at}
use Rattle.c_numbers.specs.NewNumbers.Parts.{initial_in, value_in, object_in}
use Rattle.c_link.specs.Joining.{joined, all_tags, structure_in, numbered_from, objects, records, is_object_defined, object_identities}
use Rattle.c_link.specs.Gaps.{Agree}
use Rattle.c_link.proofs.JoinedRecords as Joined
use Rattle.c_link.proofs.JoinedRecords.{among_at, stand_among}
use Rattle.c_link.proofs.Layouts.{StandAmong, lies_alike}
use Rattle.c_checking_laws.proofs.WholeFiles.Layouts.{field_object}
use Rattle.c_well_typed.specs.WellTyped.{of_unit, HaveTypedFunctions}
use Rattle.c_well_typed.proofs.JoinedFunctions.{each_is, is_each, T, R, N, type_is, object_typed}
use Rattle.c_well_typed.proofs.LookedUp.{of_unit as found_unit, unit_among}
use Rattle.c_well_typed.proofs.RenumberedParts.{offset_again}
use Rattle.c_well_typed.specs.Printable.Initializers.{IsNamed, by_value, by_elements, by_fields, AreElements, one_element, and_elements, AreFields, one_field, and_fields}
use Rattle.c_well_typed.specs.Printable.Initializers.{of_text, IsStored}
use Rattle.c_well_typed.specs.Printable.Programs.{IsInitial, IsObject, IsPrintableObject}
use Rattle.c_well_typed.proofs.PrintableObjects.UnitObjects.{as_program}

module _ (number : ℕ → ℕ) (m : Renaming ℕ ℕ) where
  abbrev New : List Initial → List Initial
  New all = map (initial_in m) all

  pub texts_again : (at : ℕ) (bytes : List ℕ) → map (initial_in m) (of_text at bytes) ≡ of_text at bytes
  texts_again at [] = refl
  texts_again at (v ∷ bytes) = ap (λ more. record { offset = at; value = V.Number Char v } ∷ more) (texts_again (at + 1) bytes)

  stored_again : (t : CType) (at : ℕ) (all : List Initial) → IsStored t at all → IsStored (renumbered number t) at (New all)
  stored_again (integer kind) at all h = (h.0, ap New h.1)
  stored_again (pointer t) at all (inl e) = inl (ap New e)
  stored_again (pointer t) at all (inr h) = inr (value_in m h.0, ap New h.1)
  stored_again (array (integer kind) n) at all h = (h.0, h.1, h.2, ap New h.3 ∙ texts_again at h.0)
  stored_again t at all h = absurd h

  module _ (records others : List Record) (complete : AreComplete records) (whole : AreComplete others) (among : StandAmong number records others) where
    abbrev Named : CType → ℕ → List Initial → Type 0
    Named = IsNamed records IsStored

    abbrev Again : CType → ℕ → List Initial → Type 0
    Again = IsNamed others IsStored

    abbrev Is : CType → CType
    Is t = renumbered number t

    heads_same : (g : Field) (all fields : List Field) (f : Field) → map (λ (x : Field). x.ty) (g ∷ all) ≡ map Is (map (λ (x : Field). x.ty) (f ∷ fields))
        → (g.ty ≡ Is f.ty) × (map (λ (x : Field). x.ty) all ≡ map Is (map (λ (x : Field). x.ty) fields))
    heads_same g all fields f h = (cc, cc)

    field_is : (r k : ℕ) (rec : Record) (f : Field) (more : List Field) → slice_get records r ≡ Some rec
        → ((j : ℕ) → slice_get rec.fields (k + j) ≡ slice_get (f ∷ more) j) → field_type records r k ≡ Some f.ty
    field_is r k rec f more there e =
        let l : k + 0 ≡ k = omega arith in
        ap (λ o. type_in o k) there ∙ ap (option_map (λ (x : Field). x.ty)) (sym (ap (slice_get rec.fields) l) ∙ e 0)

    some_field : (all : List Field) (f : Field) (more : List Field) → map (λ (x : Field). x.ty) all ≡ map Is (map (λ (x : Field). x.ty) (f ∷ more))
        → (g : Field) × (rest : List Field) × (all ≡ g ∷ rest)
    some_field [] f more h = cc
    some_field (g ∷ rest) f more h = (g, rest, refl)

    mutual
      pub named_again : (t : CType) (at : ℕ) (all : List Initial) → is_object (length records) t ≡ true → Named t at all → Again (Is t) at (New all)
      named_again t at all o (by_value s p own h) = by_value (Is s) p (New own) (stored_again s p own h)
      named_again t at all o (by_elements s n p own h) =
          let e = (and_parts (nat_lt 0 (n + 1)) (is_object (length records) s) o).1 in
          by_elements (Is s) n p (New own) (elements_again s (n + 1) p own e h)
      named_again t at all o (by_fields r p rec f more own there e h) =
          let q = among r rec there in
          let types = q.2 ∙ ap (λ fields. map Is (map (λ (x : Field). x.ty) fields)) e in
          let z = some_field q.0.fields f more types in
          by_fields (number r) p q.0 z.0 z.1 (New own) q.1 z.2
          (fields_again r 0 rec rec.fields q.0.fields p own there (λ j. let l : 0 + j ≡ j = omega arith in ap (slice_get rec.fields) l) q.2 h)

      elements_again : (t : CType) (left at : ℕ) (all : List Initial) → is_object (length records) t ≡ true → AreElements records IsStored t left at all
          → AreElements others IsStored (Is t) left at (New all)
      elements_again t left at all o (one_element s n p own h) = one_element (Is s) n p (New own) (named_again s p own o h)
      elements_again t left at all o (and_elements s n p own more h k) =
          let same = (lies_alike number records others complete whole among s o).alike.sizes in
          let later = elements_again s n (p + size_of records s) more o k in
          let there = subst (λ size. AreElements others IsStored (Is s) n (p + size) (New more)) (sym same) later in
          subst (AreElements others IsStored (Is s) (n + 1) p) (sym (map-append (initial_in m) own more))
          (and_elements (Is s) n p (New own) (New more) (named_again s p own o h) there)

      fields_again : (r k : ℕ) (rec : Record) (fields all : List Field) (at : ℕ) (own : List Initial) → slice_get records r ≡ Some rec
          → ((j : ℕ) → slice_get rec.fields (k + j) ≡ slice_get fields j) → map (λ (x : Field). x.ty) all ≡ map Is (map (λ (x : Field). x.ty) fields)
          → AreFields records IsStored r k fields at own → AreFields others IsStored (number r) k all at (New own)
      fields_again r k rec fields [] at own there e types (one_field s i p f more mine h) = cc
      fields_again r k rec fields (g ∷ all) at own there e types (one_field s i p f more mine h) =
          let z = heads_same g all more f types in
          let t = field_is s i rec f more there e in
          let o = field_object records complete s i f.ty t in
          let n = named_again f.ty (p + offset_of records s i) mine o h in
          let there = subst (λ offset. Again (Is f.ty) (p + offset) (New mine)) (sym (offset_again number records others complete whole among s i f.ty t)) n in
          one_field (number s) i p g all (New mine) (subst (λ t. Again t (p + offset_of others (number s) i) (New mine)) (sym z.0) there)
      fields_again r k rec fields [] at own there e types (and_fields s i p f more mine rest h h') = cc
      fields_again r k rec fields (g ∷ all) at own there e types (and_fields s i p f more mine rest h h') =
          let z = heads_same g all more f types in
          let t = field_is s i rec f more there e in
          let o = field_object records complete s i f.ty t in
          let n = named_again f.ty (p + offset_of records s i) mine o h in
          let here = subst (λ offset. Again (Is f.ty) (p + offset) (New mine)) (sym (offset_again number records others complete whole among s i f.ty t)) n in
          let first = subst (λ t. Again t (p + offset_of others (number s) i) (New mine)) (sym z.0) here in
          let later = fields_again s (i + 1) rec more all p rest there (λ j. let l : i + 1 + j ≡ i + suc j = omega arith in ap (slice_get rec.fields) l ∙ e (suc j)) z.1 h' in
          subst (AreFields others IsStored (number s) i (g ∷ all) p) (sym (map-append (initial_in m) mine rest))
          (and_fields (number s) i p g all (New mine) (New rest) first later)

-- ---- a program

module _ (units : List UnitData) (agree : Agree units) (complete : AreComplete (records units))
    (each : (u : UnitData) → Joined.IsAmong u units → HaveTypedFunctions (of_unit u))
    (said : (u : UnitData) → Joined.IsAmong u units → All (IsPrintableObject (as_program u)) u.objects) where
  abbrev P : ProgramData
  P = joined units

  object_again : (k : ℕ) (u : UnitData) → Joined.IsAmong (k, u) (numbered_from 0 units) → (o : Object) → Joined.IsAmong o u.objects
      → IsPrintableObject (as_program u) o → IsPrintableObject P (object_in (N units agree complete each k u) o)
  object_again k u h o i s = by_kind o.text s
    where
      there : Joined.IsAmong u units
      there = unit_among 0 units (k, u) h

      S : ℕ → ℕ
      S = structure_in (all_tags units) u

      m : Renaming ℕ ℕ
      m = N units agree complete each k u

      ty_is : type_at (T units agree complete each) (m.ty o.ty) ≡ R units agree complete each u (type_at u.types o.ty)
      ty_is = (type_is units agree complete each u there k o.ty (object_typed units agree complete each u there o i).0).1

      of_initial : (t : CType) → is_object (length u.records) t ≡ true → (all : Option (List Initial)) → IsInitial (as_program u) t all
          → IsInitial P (renumbered (structure_in (all_tags units) u) t) (option_map (map (initial_in (N units agree complete each k u))) all)
      of_initial t q None h = tt
      of_initial t q (Some all) (inl e) = inl (ap (map (initial_in (N units agree complete each k u))) e)
      of_initial t q (Some all) (inr h) =
          inr (named_again (structure_in (all_tags units) u) (N units agree complete each k u) u.records (records units) (each u there).records complete
          (stand_among units agree.tags u there) t 0 all q h)

      by_kind : (b : Bool) → IsObject (as_program u) b o → IsObject P b (object_in (N units agree complete each k u) o)
      by_kind true (bytes, name, linked, t, below, initial) = (
        bytes,
        name,
        linked,
        ty_is ∙ ap (R units agree complete each u) t,
        below,
        ap (option_map (map (initial_in m))) initial ∙ ap Some (texts_again S m 0 (bytes ++ 0 ∷ [])),
      )
      by_kind false h =
          subst (λ t. IsInitial P t (option_map (map (initial_in m)) o.initial)) (sym ty_is)
          (of_initial (type_at u.types o.ty) (object_typed units agree complete each u there o i).1 o.initial h)

  pub objects_said_again : All (IsPrintableObject P) (objects units)
  objects_said_again = All-from_recursion (IsPrintableObject P) (objects units) (each_is (IsPrintableObject P) (objects units) one)
    where
      one : (o : Object) → Joined.IsAmong o (objects units) → IsPrintableObject P o
      one o i =
          let z = found_unit (λ (o : Object). o.linked) (λ (o : Object). o.name) (λ (u : UnitData). u.objects) is_object_defined
          (λ k u o. object_in (N units agree complete each k u) o) object_identities (λ k n. refl) (λ k n x more. refl) units o i in
          let u = z.1 in
          let there = unit_among 0 units (z.0, u) z.2 in
          let among = among_at u.objects z.3 z.4 z.5 in
          let own = is_each (IsPrintableObject (as_program u)) u.objects
          (recursion_from_All (IsPrintableObject (as_program u)) u.objects (said u there)) z.4 among in
          subst (IsPrintableObject P) (sym z.6) (object_again z.0 u z.2 z.4 among own)
