-- What the theorem on whole files asks of items holds of the tree of a text, where `untagged` gives names that no tag of a text has.
use Rattle.std.proofs.Common.{◌≡◌, ℕ, true, List, subst, sym}
use Rattle.c_tokens.specs.TokenPlaces.{TokensHavePlaces}
use Rattle.c_ast.specs.Trees
use Rattle.c_ast.specs.Laws.{TreesBeginFirst}
use Rattle.c_ast.specs.TreesOfFiles.{IsTreeOf}
use Rattle.c_erasure.specs.Marks.{tags_in, marks_of_file}
use Rattle.c_erasure.specs.Scopes.{Tag}
use Rattle.c_erasure.proofs.MarkPlaces.Ordered.{tree_ordered, marks_are_in_order}
use Rattle.c_checking_laws.specs.TextOrder.TextOrder.{IsUnwritten, TextsAreInOrder}
use Rattle.c_checking_laws.specs.WholeFiles.Found.{AnnotatedFilesAreFound}
use Rattle.c_checking_laws.proofs.WholeFiles.Names.{all_at}
use Rattle.c_checking_laws.proofs.WholeFiles.RangedParts.{AreRanged}
use Rattle.c_checking_laws.proofs.WholeFiles.RangedItems.{ranged_text}
use Rattle.c_checking_laws.proofs.WholeFiles.RangedTokens.{text_ranged}
use Rattle.c_checking_laws.proofs.WholeFiles.ItemsInTime.{text_fits}
use Rattle.c_checking_laws.proofs.WholeFiles.SoundFiles.{AreFitItems, sound_file}

module _ (places : TokensHavePlaces) (first : TreesBeginFirst) (texts : TextsAreInOrder) where
  pub text_is_fit : (untagged : ℕ → List ℕ) (bytes : List ℕ) (items : List Trees.Item) → ((at : ℕ) → IsUnwritten (untagged at)) → IsTreeOf bytes items
      → AreFitItems untagged items
  text_is_fit untagged bytes items unwritten tree = record {
    formed = tree.3.well_formed;
    order = texts.order bytes items untagged tree;
    beginnings = (marks_are_in_order places).beginnings bytes items untagged tree;
    fit = text_fits first untagged items tree.3.well_formed 0 (tree_ordered places bytes items tree)
        (ranged_text untagged items tree.3.well_formed (subst AreRanged tree.3.spelled (text_ranged bytes tree.0 tree.1)));
    spelled = λ k t e enumerates at same.
        all_at (λ (t : Tag). t.is_enumeration ≡ true → IsUnwritten t.name → ⊥) (tags_in (marks_of_file untagged items))
        (texts.enumerations bytes items untagged tree) k t e enumerates (subst IsUnwritten (sym same) (unwritten at));
  }

  pub sound_text : AnnotatedFilesAreFound
  sound_text file untagged bytes items f unwritten tree h =
      sound_file file untagged items (text_is_fit untagged bytes items unwritten tree) f h
