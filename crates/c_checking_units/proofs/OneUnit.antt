-- The tree of a text has at most one unit, and the checker refuses nothing where it has one, where the steps of a file's items are those of the file.
use Rattle.std.proofs.Common.{◌≡◌, ℕ, List, [], ◌∷◌, drop, Ok, Err, refl, sym, ap, ◌∙◌, subst}
use Rattle.std.specs.List.{AllByRecursion}
use Rattle.std.proofs.lemmas.List.Elements.{All-from_recursion, recursion_from_All}
use Rattle.c_tokens.specs.TokenPlaces.{TokensHavePlaces}
use Rattle.c_ast.specs.Laws.{TreesBeginFirst}
use Rattle.c_ast.specs.Spelling.{spell}
use Rattle.c_ast.specs.Trees
use Rattle.c_ast.specs.TreesOfFiles.{IsTreeOf}
use Rattle.c_typed.specs.Programs.{UnitData}
use Rattle.c_erasure.specs.Broken.{Fault}
use Rattle.c_erasure.specs.Erasing.{ErasesTo}
use Rattle.c_erasure.specs.Files.{IsFileOf}
use Rattle.c_erasure.specs.Scopes.{FileScope}
use Rattle.c_erasure.specs.Units.{unit_of}
use Rattle.c_erasure.specs.Untagged.{AreTags, structs_in}
use Rattle.c_checking_laws.specs.TextOrder.TextOrder.{IsUnwritten, TextsAreInOrder}
use Rattle.c_erasure.specs.Checking.Answers.{Answer}
use Rattle.c_erasure.specs.Checking.Files.{annotated}
use Rattle.c_checking_laws.proofs.TextOrder.UntaggedNames.OneLine.{IsTagAt, tags_agree}
use Rattle.c_checking_laws.proofs.TextOrder.UntaggedNames.OtherFiles.{file_other}
use Rattle.c_checking_laws.proofs.TextOrder.UntaggedNames.OtherParts.{with_tags}
use Rattle.c_checking_units.proofs.Filed.{IsWholeFile}
use Rattle.c_checking_units.proofs.Items.{steps_of_items}
use Rattle.c_checking_units.proofs.Steps.{AreSteps}
use Rattle.c_checking_units.proofs.Answer.{answer_is}
use Rattle.c_checking_units.proofs.WholeFiles.{text_whole}

-- the items of a text have the steps of its annotated file
abbrev pub HaveSteps : Type 0
HaveSteps = (bytes : List ℕ) (items : List Trees.Item) (g : FileScope) → ((at : ℕ) → IsUnwritten (g.untagged at)) → IsTreeOf bytes items → IsFileOf items g
    → (w : IsWholeFile g) → AreSteps g 0 0 0 0 (steps_of_items g w items)

-- names that begin as no identifier does, and are those of the structures of the text
abbrev unwritten_by : (ℕ → List ℕ) → ℕ → List ℕ
unwritten_by u at = 64 ∷ drop 1 (u at)

each_unwritten : (name bytes structs : List ℕ) (u : ℕ → List ℕ) (places : List ℕ) → AllByRecursion (IsTagAt name bytes structs u) places
    → AllByRecursion (IsTagAt name bytes structs (unwritten_by u)) places
each_unwritten name bytes structs u [] h = tt
each_unwritten name bytes structs u (at ∷ places) h =
    let t = h.0 in
    ((t.0, t.1, t.2, t.3, ap (λ tag. 64 ∷ drop 1 tag) t.4), each_unwritten name bytes structs u places h.1)

tags_unwritten : (name bytes structs : List ℕ) (u : ℕ → List ℕ) → AreTags name bytes structs u → AreTags name bytes structs (unwritten_by u)
tags_unwritten name bytes structs u h =
    All-from_recursion (IsTagAt name bytes structs (unwritten_by u)) structs
    (each_unwritten name bytes structs u structs (recursion_from_All (IsTagAt name bytes structs u) structs h))

same_answer : (r : Answer FileScope) (f g : FileScope) → r ≡ Ok f → r ≡ Ok g → f ≡ g
same_answer r f g a b = cc

module _ (places : TokensHavePlaces) (first : TreesBeginFirst) (texts : TextsAreInOrder) (steps : HaveSteps) where
  -- the checker answers the file, whichever names structures without a tag have elsewhere
  pub found_by : (name bytes : List ℕ) (items : List Trees.Item) (f : FileScope) (v : ℕ → List ℕ) → IsTreeOf bytes items → ((at : ℕ) → IsUnwritten (v at))
      → AreTags name bytes (structs_in (spell items)) f.untagged → AreTags name bytes (structs_in (spell items)) v → IsFileOf items f
      → annotated f.file v items ≡ Ok (with_tags v f)
  found_by name bytes items f v tree unwritten own given h =
      let g = with_tags v f in
      let is = file_other v f items tree.3.well_formed (tags_agree name bytes (spell items) f.untagged v own given) h in
      let w = text_whole places first texts bytes items g tree is in
      answer_is places first texts bytes items g unwritten tree is w (steps bytes items g unwritten tree is w)

  -- a unit that erases to the tree is that of what the checker answers
  pub found_unit : (number : ℕ) (name bytes : List ℕ) (items : List Trees.Item) (u : UnitData) (v : ℕ → List ℕ) → IsTreeOf bytes items
      → ((at : ℕ) → IsUnwritten (v at)) → AreTags name bytes (structs_in (spell items)) v → ErasesTo number name bytes items u
      → (g : FileScope) × (annotated number v items ≡ Ok g) × (u ≡ unit_of items g)
  found_unit number name bytes items u v tree unwritten given h =
      let f = h.annotated in
      let is = found_by name bytes items f v tree unwritten h.tags given h.of_tree in
      (with_tags v f, subst (λ n. annotated n v items ≡ Ok (with_tags v f)) h.number is, h.unit)

  -- so each unit is that of a file that the checker answers
  pub unit_found : (number : ℕ) (name bytes : List ℕ) (items : List Trees.Item) (u : UnitData) → IsTreeOf bytes items → ErasesTo number name bytes items u
      → (v : ℕ → List ℕ) × (g : FileScope) × (annotated number v items ≡ Ok g) × (u ≡ unit_of items g)
  unit_found number name bytes items u tree h =
      let names = unwritten_by h.annotated.untagged in
      let given = tags_unwritten name bytes (structs_in (spell items)) h.annotated.untagged h.tags in
      let z = found_unit number name bytes items u names tree (λ at. (drop 1 (h.annotated.untagged at), refl)) given h in
      (names, z.0, z.1, z.2)

  -- it refuses nothing where there is one
  pub none_refused : (number : ℕ) (name bytes : List ℕ) (items : List Trees.Item) (u : UnitData) (v : ℕ → List ℕ) → IsTreeOf bytes items
      → ((at : ℕ) → IsUnwritten (v at)) → AreTags name bytes (structs_in (spell items)) v → ErasesTo number name bytes items u → (e : Fault)
      → annotated number v items ≡ Err e → ⊥
  none_refused number name bytes items u v tree unwritten given h e r =
      let z = found_unit number name bytes items u v tree unwritten given h in
      let ok_is_err : Ok z.0 ≡ Err e = sym z.1 ∙ r in
      cc

  -- and there is at most one
  pub units_are_one : (number : ℕ) (name bytes : List ℕ) (items : List Trees.Item) (u v : UnitData) → IsTreeOf bytes items
      → ErasesTo number name bytes items u → ErasesTo number name bytes items v → u ≡ v
  units_are_one number name bytes items u v tree h k =
      let names = unwritten_by h.annotated.untagged in
      let unwritten : (at : ℕ) → IsUnwritten (names at) = λ at. (drop 1 (h.annotated.untagged at), refl) in
      let given = tags_unwritten name bytes (structs_in (spell items)) h.annotated.untagged h.tags in
      let a = found_unit number name bytes items u names tree unwritten given h in
      let b = found_unit number name bytes items v names tree unwritten given k in
      a.2 ∙ ap (unit_of items) (same_answer (annotated number names items) a.0 b.0 a.1 b.1) ∙ sym b.2
