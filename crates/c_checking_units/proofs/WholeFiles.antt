-- What completeness asks of a whole annotated file holds of that of the tree of a text (C99 6.2.1, 6.7, 6.9).
use Rattle.std.proofs.Common.{◌≡◌, ℕ, suc, ◌≤◌, Bool, true, false, refl, sym, ap, ◌∙◌, subst, cond, List, [], ◌∷◌}
use Rattle.std.proofs.lemmas.Bool.{and_parts, leb-true}
use Rattle.std.proofs.lemmas.List.Elements.{All-cons, All-nil}
use Rattle.std.specs.Prelude.{All, map, nat_le, ◌&&◌, Some, None, slice_get}
use Rattle.std.specs.Str.{bytes_eq}
use Rattle.c_tokens.specs.TokenPlaces.{TokensHavePlaces}
use Rattle.c_types.specs.Limits.{AreComplete}
use Rattle.c_types.specs.Objects.{is_object}
use Rattle.c_types.specs.Types.{CType, Field, Record}
use Rattle.c_ast.specs.Laws.{TreesBeginFirst}
use Rattle.c_ast.specs.Trees
use Rattle.c_ast.specs.TreesOfFiles.{IsTreeOf}
use Rattle.c_erasure.specs.Declarators.{AreDifferent}
use Rattle.c_erasure.specs.Files.{AreAscending, IsFileOf, IsMade}
use Rattle.c_erasure.specs.Marks.{marks_of_file, scope_beginnings}
use Rattle.c_erasure.specs.Scopes.{Bound, FileScope, Entity, an_object, visible, or_else, ended}
use Rattle.c_erasure.proofs.MarkPlaces.Ordered.{tree_ordered, marks_are_in_order}
use Rattle.c_checking_laws.specs.TextOrder.TextOrder.{TextsAreInOrder}
use Rattle.c_checking_laws.proofs.Agreement as Agreement
use Rattle.c_checking_laws.proofs.CompleteNodes.{some_is}
use Rattle.c_checking_laws.proofs.CompletePart.{IsFitFor, fit_stays}
use Rattle.c_checking_laws.proofs.NodesOfParts.{same_bytes}
use Rattle.c_checking_laws.proofs.CompleteWhole as Complete
use Rattle.c_checking_laws.proofs.WholeFiles.CompleteObjects.{mapped_at}
use Rattle.c_checking_laws.proofs.Settled.{AreWhole}
use Rattle.c_checking_units.proofs.Filed.{IsWholeFile}
use Rattle.c_checking_units.proofs.FileFacts.{whole_file}
use Rattle.c_checking_units.proofs.Ended.{ended_grows}
use Rattle.c_checking_units.proofs.Lists.{ascending_apart, different_apart}
use Rattle.c_checking_units.proofs.Numbers.{numbers_differ}
use Rattle.c_checking_units.proofs.Tracing.{IsTracedRecord, name_at, record_at}
use Rattle.c_checking_units.proofs.TracedItems.{IsTracedName, IsObjectName, AreFiled, declared_by_file, file_traced}

-- a name that is visible there is in scope from an earlier byte on
pub visible_is : (all : List Bound) (x : List ℕ) (at : ℕ) (e : Entity) → visible all x at ≡ Some e
    → (k : ℕ) × (b : Bound) × (slice_get all k ≡ Some b) × (b.from ≤ at) × (b.name ≡ x) × (b.entity ≡ e)
visible_is [] x at e h = cc
visible_is (b ∷ all) x at e h = by_test (bytes_eq b.name x && nat_le b.from at) refl (λ h. visible_is all x at e h) h
  where
    by_test : (t : Bool) → (bytes_eq b.name x && nat_le b.from at) ≡ t
        → (visible all x at ≡ Some e → (k : ℕ) × (b : Bound) × (slice_get all k ≡ Some b) × (b.from ≤ at) × (b.name ≡ x) × (b.entity ≡ e))
        → or_else (cond t (Some b.entity) None) (visible all x at) ≡ Some e
        → (k : ℕ) × (c : Bound) × (slice_get (b ∷ all) k ≡ Some c) × (c.from ≤ at) × (c.name ≡ x) × (c.entity ≡ e)
    by_test true f later h =
        let p = and_parts (bytes_eq b.name x) (nat_le b.from at) f in
        (0, b, refl, leb-true b.from at p.1, same_bytes b.name x p.0, some_is b.entity e h)
    by_test false f later h = let r = later h in (suc r.0, r.1, r.2, r.3, r.4, r.5)

all_whole : (count : ℕ) (fields : List Field) → AreWhole count fields → All (λ t. is_object count t ≡ true) (map (λ x. x.ty) fields)
all_whole count [] h = All-nil (λ t. is_object count t ≡ true)
all_whole count (x ∷ more) h =
    All-cons (λ t. is_object count t ≡ true) x.ty (map (λ x. x.ty) more) (h 0 x refl) (all_whole count more (λ j y e. h (suc j) y e))

module _ (g : FileScope) (items : List Trees.Item) (h : IsFileOf items g)
    (beginnings : AreAscending (scope_beginnings (marks_of_file g.untagged items))) (IsPlace : ℕ → Type 0) (traced : AreFiled g IsPlace (marks_of_file g.untagged items)) where
  names_ascend : AreAscending (map (λ b. b.from) g.names)
  names_ascend = subst AreAscending (sym h.names) beginnings

  records_differ : AreDifferent (map (λ r. r.tag) g.records)
  records_differ = subst AreDifferent (sym h.records) h.defined_once

  -- ---- names

  pub name_traced : (k : ℕ) (b : Bound) → slice_get g.names k ≡ Some b → Agreement.IsFit g [] b.entity × IsFitFor g (ended g.ends b.from) b.entity
      × ((n : ℕ) (t : CType) → b.entity ≡ an_object n t → IsObjectName g IsPlace b n)
  name_traced k b e =
      let from : slice_get (map (λ (b : Bound). b.from) g.names) k ≡ Some b.from = mapped_at (λ (b : Bound). b.from) g.names k b e in
      let z = name_at (IsTracedName g IsPlace) (IsTracedRecord g) (marks_of_file g.untagged items) k b.from traced (subst (λ all. slice_get all k ≡ Some b.from) h.names from) in
      let other = mapped_at (λ (b : Bound). b.from) g.names z.stands.0 z.binding z.stands.1 ∙ ap Some z.begins in
      let number : z.stands.0 ≡ k = ascending_apart (map (λ b. b.from) g.names) names_ascend z.stands.0 k b.from other from in
      let there : slice_get g.names k ≡ Some z.binding = subst (λ k. slice_get g.names k ≡ Some z.binding) number z.stands.1 in
      let same : z.binding ≡ b = some_is z.binding b (sym there ∙ e) in
      subst (λ (b : Bound). Agreement.IsFit g [] b.entity × IsFitFor g (ended g.ends b.from) b.entity
      × ((n : ℕ) (t : CType) → b.entity ≡ an_object n t → IsObjectName g IsPlace b n)) same
      (z.fit, subst (λ from. IsFitFor g (ended g.ends from) z.binding.entity) (sym z.begins) z.complete, z.object)

  names_fit : (x : List ℕ) (at : ℕ) (e : Entity) → visible g.names x at ≡ Some e → IsFitFor g (ended g.ends at) e
  names_fit x at e v =
      let z = visible_is g.names x at e v in
      let fits = (name_traced z.0 z.1 z.2).1 in
      subst (λ e. IsFitFor g (ended g.ends at) e) z.5
      (fit_stays g (ended g.ends z.1.from) (ended g.ends at) z.1.entity (ended_grows g.ends z.1.from at z.3) fits)

  -- ---- records

  record_fits : (k : ℕ) (r : Record) → slice_get g.records k ≡ Some r → AreDifferent (map (λ x. x.name) r.fields) × AreWhole k r.fields
  record_fits k r e =
      let tag : slice_get (map (λ (r : Record). r.tag) g.records) k ≡ Some r.tag = mapped_at (λ (r : Record). r.tag) g.records k r e in
      let z = record_at (IsTracedName g IsPlace) (IsTracedRecord g) (marks_of_file g.untagged items) k r.tag traced (subst (λ all. slice_get all k ≡ Some r.tag) h.records tag) in
      let other = mapped_at (λ (r : Record). r.tag) g.records z.number z.defined z.stands ∙ ap Some z.tag_is in
      let number : z.number ≡ k = different_apart (map (λ r. r.tag) g.records) records_differ z.number k r.tag other tag in
      let there : slice_get g.records k ≡ Some z.defined = subst (λ k. slice_get g.records k ≡ Some z.defined) number z.stands in
      let same : z.defined ≡ r = some_is z.defined r (sym there ∙ e) in
      subst (λ (r : Record). AreDifferent (map (λ x. x.name) r.fields) × AreWhole k r.fields) same
      (z.different, subst (λ k. AreWhole k z.defined.fields) number z.whole)

  complete : AreComplete g.records
  complete k r e = all_whole k r.fields (record_fits k r e).1

  -- ---- the file

  of_definitions : Complete.IsWholeFile g
  of_definitions = record {
    names_ascend = names_ascend;
    names_consistent = h.consistent;
    names_fit = names_fit;
    objects_ascend = h.objects_in_order;
    numbered_differ = subst AreDifferent (sym h.numbered) (numbers_differ (marks_of_file g.untagged items) h.defined_once);
    records_differ = records_differ;
    fields_differ = λ k r e. (record_fits k r e).0;
    fields_complete = λ k j r x e. (record_fits k r e).1 j x;
    records_small = h.small;
  }

  pub traced_whole : IsWholeFile g
  traced_whole = whole_file g items h (Complete.is_whole g of_definitions) complete (λ k b e. (name_traced k b e).0)

-- an annotated file of the tree of a text is all that completeness asks
module _ (places : TokensHavePlaces) (first : TreesBeginFirst) (texts : TextsAreInOrder) where
  -- each name and each record of it is one that the tree declares
  pub text_traced : (bytes : List ℕ) (items : List Trees.Item) (g : FileScope) → IsTreeOf bytes items → IsFileOf items g
      → AreFiled g (IsMade (declared_by_file items)) (marks_of_file g.untagged items)
  text_traced bytes items g tree h =
      let ascending : AreAscending g.ends = subst AreAscending (sym h.ends) ((marks_are_in_order places).ends bytes items g.untagged tree) in
      file_traced g (IsMade (declared_by_file items)) ascending first items tree.3.well_formed (tree_ordered places bytes items tree)
      (texts.order bytes items g.untagged tree).names h.ends (λ p i. i) h.each_item

  pub text_whole : (bytes : List ℕ) (items : List Trees.Item) (g : FileScope) → IsTreeOf bytes items → IsFileOf items g → IsWholeFile g
  text_whole bytes items g tree h =
      traced_whole g items h ((marks_are_in_order places).beginnings bytes items g.untagged tree) (IsMade (declared_by_file items))
      (text_traced bytes items g tree h)
