-- What a tree has stands in its annotated file in the order of the text (C99 6.2.1, 6.7, 6.9).
use Rattle.std.proofs.Common.{◌≡◌, ℕ, List, [], sym, ap, ◌∙◌, subst, refl, length}
use Rattle.std.specs.Prelude.{map, Ok, Err}
use Rattle.c_tokens.specs.TokenPlaces.{TokensHavePlaces}
use Rattle.c_ast.specs.Trees
use Rattle.c_ast.specs.Laws.{TreesBeginFirst}
use Rattle.c_ast.specs.Spelling.{spell}
use Rattle.c_ast.specs.TreesOfFiles.{IsTreeOf}
use Rattle.c_erasure.specs.Broken.{Fault}
use Rattle.c_erasure.specs.Files.{IsFileOf}
use Rattle.c_erasure.specs.Marks.{scope_beginnings, ends_in, defined_in, tags_in, marks_of_file}
use Rattle.c_erasure.specs.Scopes.{Bound, FileScope}
use Rattle.c_checking_laws.specs.TextOrder.TextOrder.{IsUnwritten, TextsAreInOrder}
use Rattle.c_checking_laws.proofs.TextOrder.Rising.{AreRising}
use Rattle.c_checking_laws.proofs.TextOrder.Tokens.{tokens_rise}
use Rattle.c_erasure.specs.Checking.Files.{closed_file, annotated}
use Rattle.c_checking_laws.proofs.CompleteOrder.{AreApart}
use Rattle.c_checking_laws.proofs.CompletePart.{Lists, part}
use Rattle.c_checking_laws.proofs.WholeFiles.Items.{AreItemsFit}
use Rattle.c_checking_laws.proofs.WholeFiles.SoundFiles.{AreFitItems}
use Rattle.c_checking_laws.proofs.WholeFiles.TextFits.{text_is_fit}
use Rattle.c_checking_units.proofs.Filed.{IsWholeFile, IsFiled}
use Rattle.c_checking_units.proofs.Items.{steps_of_items, annotated_found, never_refused}
use Rattle.c_checking_units.proofs.Steps.{Step, AreSteps}
use Rattle.c_checking_units.proofs.AllObjects.{objects_same, functions_same}
use Rattle.c_checking_units.proofs.Following.{AreStepsNext, steps_follow}
use Rattle.c_checking_units.proofs.MarksOfSteps.{marks_of_items}
use Rattle.c_checking_units.proofs.NamedSteps.{AreNamed, items_named}
use Rattle.c_checking_units.proofs.OrderedSteps.{ordered_items}
use Rattle.c_checking_units.proofs.StepLists.{names_of, objects_of, functions_of, marks_of, AreTagged, AreStepsInOrder, names_same}
use Rattle.c_checking_units.proofs.StepLists.{ends_same, defined_all_same, steps_tagged}
use Rattle.c_checking_units.proofs.StepsInRange.{ranged_items}
use Rattle.c_checking_units.proofs.StepTags.{tags_fit}
use Rattle.c_checking_units.proofs.Walking.{apart_of}

module _ (g : FileScope) (items : List Trees.Item) (h : IsFileOf items g) (w : IsWholeFile g) (fit : AreFitItems g.untagged items)
    (apart : AreApart 0 (spell items))
  where
    abbrev Steps : List Step
    Steps = steps_of_items g w items

    order : AreStepsInOrder 0 Steps
    order = ordered_items g w [] items fit.formed 0 apart

    marks : marks_of Steps ≡ marks_of_file g.untagged items
    marks = marks_of_items g w [] items fit.formed

    froms : map (λ (b : Bound). b.from) g.names ≡ names_of Steps
    froms = h.names ∙ ap scope_beginnings (sym marks) ∙ sym (names_same Steps)

    named : AreNamed g (objects_of Steps) (functions_of Steps) Steps
    named = items_named g (objects_of Steps) (functions_of Steps) w items h.each_item 0 order
        (record { objects_in = λ at m. m; functions_in = λ at m. m })

    next : AreStepsNext g 0 0 0 0 0 Steps
    next = record {
      in_order = order;
      names = record { before = []; count = refl; all = froms };
      names_before = tt;
      before = [];
      ends = h.ends ∙ ap ends_in (sym marks) ∙ sym (ends_same Steps);
      ended_before = refl;
      ends_before = tt;
      records = record { before = []; count = refl; all = h.records ∙ ap defined_in (sym marks) ∙ sym (defined_all_same Steps) };
      objects = record { before = []; count = refl; all = objects_same g items h w fit.formed fit.beginnings fit.order.places named froms };
      functions = record { before = []; count = refl; all = functions_same g items h w fit.formed fit.beginnings fit.order.places named froms };
      tags = steps_tagged g Steps (subst (λ m. AreTagged g (tags_in m)) (sym marks) (tags_fit g items h));
      ranged = ranged_items g w g.ends [] items fit.formed 0 (subst (λ ends. AreItemsFit g.untagged ends 0 items) (sym h.ends) fit.fit);
    }

    pub steps_stand : AreSteps g 0 0 0 0 (steps_of_items g w items)
    steps_stand = steps_follow g 0 0 0 0 0 Steps next

-- ---- of the tree of a text, where `untagged` gives names that no tag of the text has

tree_apart : (bytes : List ℕ) (items : List Trees.Item) → IsTreeOf bytes items → AreApart 0 (spell items)
tree_apart bytes items t = apart_of 0 (spell items) (subst (AreRising 0) t.3.spelled (tokens_rise bytes t.0 t.1))

module _ (places : TokensHavePlaces) (first : TreesBeginFirst) (texts : TextsAreInOrder) where
  pub text_steps : (g : FileScope) (w : IsWholeFile g) (bytes : List ℕ) (items : List Trees.Item) → ((at : ℕ) → IsUnwritten (g.untagged at))
      → IsTreeOf bytes items → IsFileOf items g → AreSteps g 0 0 0 0 (steps_of_items g w items)
  text_steps g w bytes items unwritten tree h =
      steps_stand g items h w (text_is_fit places first texts g.untagged bytes items unwritten tree) (tree_apart bytes items tree)

  -- the checker answers, with a part of the annotated file that has as many objects and functions
  pub text_found : (g : FileScope) (w : IsWholeFile g) (bytes : List ℕ) (items : List Trees.Item) → ((at : ℕ) → IsUnwritten (g.untagged at))
      → IsTreeOf bytes items → IsFileOf items g
      → (c : Lists) × (annotated g.file g.untagged items ≡ Ok (closed_file (part g c))) × IsFiled g c × (length c.objects ≡ length g.objects)
      × (length c.functions ≡ length g.functions)
  text_found g w bytes items unwritten tree h =
      annotated_found g w items tree.3.well_formed h (text_steps g w bytes items unwritten tree h)

  -- and refuses nothing
  pub text_never_refused : (g : FileScope) (w : IsWholeFile g) (bytes : List ℕ) (items : List Trees.Item) → ((at : ℕ) → IsUnwritten (g.untagged at))
      → IsTreeOf bytes items → IsFileOf items g → (e : Fault) → annotated g.file g.untagged items ≡ Err e → ⊥
  text_never_refused g w bytes items unwritten tree h e r =
      never_refused g w items tree.3.well_formed h (text_steps g w bytes items unwritten tree h) e r
