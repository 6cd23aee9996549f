-- An object that a name stands for stands first where a declarator of the file scope does, and so is none that the text makes (C99 6.2.2, 6.9.2).
use Rattle.std.proofs.Common.{◌≡◌, ℕ, zero, suc, ◌<◌, Bool, true, false, refl, sym, ap, ◌∙◌, subst, List, arith}
use Rattle.std.specs.Prelude.{map, Option, Some, None, slice_get, is_none}
use Rattle.c_types.specs.Types.{CType}
use Rattle.c_ast.specs.Trees
use Rattle.c_erasure.specs.Files.{AreAscending, IsFirst, is_first, IsFileOf}
use Rattle.c_erasure.specs.Marks.{marks_of_file, scope_beginnings}
use Rattle.c_erasure.specs.Scopes.{Bound, FileScope, Entity, an_object, AnObject, visible}
use Rattle.c_checking_laws.proofs.CompleteNodes.{some_is}
use Rattle.c_checking_laws.proofs.WholeFiles.CompleteObjects.{mapped_at}
use Rattle.c_checking_units.proofs.Filed.{consistent_at}
use Rattle.c_checking_units.proofs.Lists.{lesser_first}
use Rattle.c_checking_units.proofs.TracedItems.{AreFiled, IsObjectName}
use Rattle.c_checking_units.proofs.WholeFiles.{visible_is, name_traced}

module _ (g : FileScope) (items : List Trees.Item) (h : IsFileOf items g)
    (beginnings : AreAscending (scope_beginnings (marks_of_file g.untagged items))) (IsPlace : ℕ → Type 0)
    (traced : AreFiled g IsPlace (marks_of_file g.untagged items)) (n : ℕ) (t : CType) (o : AnObject) (there : slice_get g.objects n ≡ Some o) where
  ascending : AreAscending (map (λ b. b.from) g.names)
  ascending = subst AreAscending (sym h.names) beginnings

  -- where it is no first declaration of its name, one before it declares the same
  earlier : (k : ℕ) (b : Bound) → slice_get g.names k ≡ Some b → (x : Option Entity) (z : IsObjectName g IsPlace b n)
      → visible g.names z.spelling.text z.spelling.from ≡ x → is_none x ≡ false
      → (j : ℕ) × (c : Bound) × (j < k) × (slice_get g.names j ≡ Some c) × (c.entity ≡ b.entity)
  earlier k b at None z v f = cc
  earlier k b at (Some e) z v f =
      let r = visible_is g.names z.spelling.text z.spelling.from e v in
      let less = r.3 in
      let before = z.before in
      let own = mapped_at (λ (b : Bound). b.from) g.names k b at in
      let other = mapped_at (λ (b : Bound). b.from) g.names r.0 r.1 r.2 in
      let number = lesser_first (map (λ b. b.from) g.names) ascending r.0 k r.1.from b.from other own (omega (arith, less, before)) in
      let one = consistent_at g.names h.consistent r.0 k r.1 b number r.2 at (z.name_is ∙ sym r.4) in
      (r.0, r.1, number, r.2, one.same)

  -- the first of the declarations of its name
  pub declared_first : (m k : ℕ) (b : Bound) → k < m → slice_get g.names k ≡ Some b → b.entity ≡ an_object n t → IsPlace o.first
  declared_first zero k b l at is = absurd (omega (arith, l))
  declared_first (suc m) k b l at is =
      let z = (name_traced g items h beginnings IsPlace traced k b at).2 n t is in
      by_first z (is_first g z.spelling) refl z.first (λ j c l at is. declared_first m j c l at is)
    where
      by_first : (z : IsObjectName g IsPlace b n) (first : Bool) → is_first g z.spelling ≡ first → IsFirst first z.object.first z.place
          → ((j : ℕ) (c : Bound) → j < m → slice_get g.names j ≡ Some c → c.entity ≡ an_object n t → IsPlace o.first) → IsPlace o.first
      by_first z true f p later =
          let same : z.object ≡ o = some_is z.object o (sym z.stands ∙ there) in
          subst IsPlace (sym p ∙ ap (λ (o : AnObject). o.first) same) z.is_place
      by_first z false f p later =
          let r = earlier k b at (visible g.names z.spelling.text z.spelling.from) z refl f in
          let number = r.2 in
          later r.0 r.1 (omega (arith, number, l)) r.3 (r.4 ∙ is)
