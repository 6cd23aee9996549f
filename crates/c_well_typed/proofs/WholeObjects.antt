-- The objects of the annotated file of a text have complete types (C99 6.7, 6.9.2): the checker answers that file, and keeps it so.
use Rattle.std.proofs.Common.{◌≡◌, ◌∙◌, ℕ, true, refl, sym, ap, subst, List, [], ◌∷◌, length, drop, Ok}
use Rattle.std.proofs.lemmas.List.Elements.{recursion_from_All, All-from_recursion}
use Rattle.std.specs.List.{AllByRecursion}
use Rattle.c_tokens.specs.TokenPlaces.{TokensHavePlaces}
use Rattle.c_types.specs.Objects.{is_object}
use Rattle.c_ast.specs.Laws.{TreesBeginFirst}
use Rattle.c_ast.specs.Spelling.{spell}
use Rattle.c_ast.specs.Trees
use Rattle.c_ast.specs.TreesOfFiles.{IsTreeOf}
use Rattle.c_erasure.specs.Files.{IsFileOf}
use Rattle.c_erasure.specs.Scopes.{AnObject, FileScope}
use Rattle.c_erasure.specs.Untagged.{AreTags, structs_in}
use Rattle.c_checking_laws.proofs.TextOrder.UntaggedNames.OneLine.{IsTagAt}
use Rattle.c_checking_laws.proofs.TextOrder.UntaggedNames.OtherParts.{with_tags}
use Rattle.c_checking_laws.specs.TextOrder.TextOrder.{IsUnwritten, TextsAreInOrder}
use Rattle.c_erasure.specs.Checking.Files.{unread, closed_file, filed, annotated}
use Rattle.c_checking_laws.proofs.WholeFiles.Kept.{AreObjectsWhole}
use Rattle.c_checking_laws.proofs.WholeFiles.Closing.{settled_same, closed_object}
use Rattle.c_checking_laws.proofs.WholeFiles.SoundFiles.{AreFitItems, filed_known}
use Rattle.c_checking_laws.proofs.WholeFiles.TextFits.{text_is_fit}
use Rattle.c_checking_laws.proofs.Results.{bound_ok, given}
use Rattle.c_checking_units.proofs.StepsOfFiles.{text_steps}
use Rattle.c_checking_units.proofs.OneUnit.{HaveSteps, found_by}

-- names of structures without a tag that begin as no identifier does
abbrev unwritten_by : (ℕ → List ℕ) → ℕ → List ℕ
unwritten_by u at = 64 ∷ drop 1 (u at)

each_unwritten : (name bytes structs : List ℕ) (u : ℕ → List ℕ) (places : List ℕ) → AllByRecursion (IsTagAt name bytes structs u) places
    → AllByRecursion (IsTagAt name bytes structs (unwritten_by u)) places
each_unwritten name bytes structs u [] h = tt
each_unwritten name bytes structs u (at ∷ places) h =
    let t = h.0 in
    ((t.0, t.1, t.2, t.3, ap (λ tag. 64 ∷ drop 1 tag) t.4), each_unwritten name bytes structs u places h.1)

tags_unwritten : (name bytes structs : List ℕ) (u : ℕ → List ℕ) → AreTags name bytes structs u → AreTags name bytes structs (unwritten_by u)
tags_unwritten name bytes structs u h =
    All-from_recursion (IsTagAt name bytes structs (unwritten_by u)) structs
    (each_unwritten name bytes structs u structs (recursion_from_All (IsTagAt name bytes structs u) structs h))

-- what is left tentative is zero, of the same type
closed_whole : (g : FileScope) → AreObjectsWhole g.records g.objects → AreObjectsWhole (closed_file g).records (closed_file g).objects
closed_whole g w n p e =
    let z = closed_object g n p e in
    let same = ap (λ (o : AnObject). o.ty) z.2 ∙ (settled_same g.names n z.0).ty in
    subst (λ t. is_object (length g.records) t ≡ true) (sym same) (w n z.0 z.1)

module _ (places : TokensHavePlaces) (first : TreesBeginFirst) (texts : TextsAreInOrder) where
  answered : (file : ℕ) (untagged : ℕ → List ℕ) (items : List Trees.Item) → AreFitItems untagged items → (g : FileScope)
      → annotated file untagged items ≡ Ok g → AreObjectsWhole g.records g.objects
  unfolding annotated
  answered file untagged items fit g h =
      let x = bound_ok (filed items (unread file untagged items)) _ g h in
      let k = filed_known file untagged items fit x.0 x.1 in
      given (λ g. AreObjectsWhole g.records g.objects) (closed_file x.0) g x.2 (closed_whole x.0 k.whole)

  steps : HaveSteps
  steps bytes items g unwritten tree h w = text_steps places first texts g w bytes items unwritten tree h

  pub objects_whole : (name bytes : List ℕ) (items : List Trees.Item) (f : FileScope) → IsTreeOf bytes items
      → AreTags name bytes (structs_in (spell items)) f.untagged → IsFileOf items f → AreObjectsWhole f.records f.objects
  objects_whole name bytes items f tree own h =
      let v = unwritten_by f.untagged in
      let unwritten : (at : ℕ) → IsUnwritten (v at) = λ at. (drop 1 (f.untagged at), refl) in
      let is = found_by places first texts steps name bytes items f v tree unwritten own (tags_unwritten name bytes (structs_in (spell items)) f.untagged own) h in
      answered f.file v items (text_is_fit places first texts v bytes items unwritten tree) (with_tags v f) is
