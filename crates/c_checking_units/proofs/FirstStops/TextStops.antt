-- Where the checker stops in the tree of a text, the items before the one at which it stops are declared, and a rule is broken there.
use Rattle.std.proofs.Common.{◌≡◌, ℕ, sym, ap, ◌∙◌, subst, List, [], ◌∷◌, ◌++◌}
use Rattle.std.proofs.Common.{append_assoc}
use Rattle.std.specs.Prelude.{All, Err}
use Rattle.c_tokens.specs.TokenPlaces.{TokensHavePlaces}
use Rattle.c_ast.specs.Trees
use Rattle.c_ast.specs.Laws.{TreesBeginFirst}
use Rattle.c_ast.specs.TreesOfFiles.{IsTreeOf}
use Rattle.c_erasure.specs.Broken.{Fault}
use Rattle.c_erasure.specs.BrokenFiles.{IsFileUpTo, IsFaultOf}
use Rattle.c_erasure.specs.Files.{nodes_at, AreAscending, ErasesItem}
use Rattle.c_erasure.specs.Literals.{made_by_file}
use Rattle.c_erasure.specs.Marks.{Mark, ends_in, marks_of_item, marks_of_file}
use Rattle.c_erasure.specs.MentionPlaces.{mentions_of_item, mentions_of_file}
use Rattle.c_erasure.specs.Scopes.{FileScope}
use Rattle.c_erasure.proofs.MarkPlaces.Ordered.{tree_ordered, marks_are_in_order}
use Rattle.c_erasure.specs.Checking.Files.{unread, annotated}
use Rattle.c_checking_laws.proofs.Within.{Additions}
use Rattle.c_checking_laws.specs.TextOrder.TextOrder.{IsUnwritten, TextsAreInOrder, places_of_item}
use Rattle.c_checking_laws.proofs.WholeFiles.Items.{places_in}
use Rattle.c_checking_laws.proofs.WholeFiles.SoundFiles.{AreFitItems, start_may, nothing_known}
use Rattle.c_checking_laws.proofs.WholeFiles.Stepping.{Stepped, stepped_then}
use Rattle.c_checking_laws.proofs.WholeFiles.TextFits.{text_is_fit}
use Rattle.c_checking_units.proofs.FirstStops.UpTo.{of_file, up_to_first}
use Rattle.c_checking_units.proofs.FirstStops.Behind.{GoesUpTo}
use Rattle.c_checking_units.proofs.FirstStops.ItemStops.{IsStoppedItem, ItemStops, item_stops, StopsAtItem, annotated_stops}
use Rattle.c_checking_units.specs.FirstStops.Faults.{FaultsBreakRules}
use Rattle.c_checking_units.proofs.FirstStops.BehindItems.{MayStopFile, item_may, IsBehind, behind_items}
use Rattle.c_checking_units.proofs.FirstStops.FilesOfFaults.{declared_there, file_there, is_broken_item}
use Rattle.c_checking_units.proofs.FirstStops.FilesSoFar.{marks_append, places_append, mentions_append, declared_so_far, file_up_to}
use Rattle.c_checking_units.proofs.FirstStops.ItemsInTime.{AreAllTimely, text_timely}
use Rattle.c_checking_units.proofs.FirstStops.UnreadFiles.{unread_prepared}

-- a part that is read up to somewhere, between what stands before and behind it
part_read : {X : Type 0} (a b c d w : List X) → b ++ c ≡ w → (a ++ b) ++ (c ++ d) ≡ a ++ (w ++ d)
part_read a b c d w e = append_assoc a b (c ++ d) ∙ ap (λ z. a ++ z) (sym (append_assoc b c d)) ∙ ap (λ z. a ++ (z ++ d)) e

-- the item at which a file stops: the file of the text up to there, and one that goes on from it, in which the item is broken
pub record StopsInText (items : List Trees.Item) (fault : Fault) : Type 0 where
  pub before : List Trees.Item
  pub item : Trees.Item
  pub after : List Trees.Item
  pub whole : items ≡ before ++ item ∷ after
  pub known : FileScope
  pub known_is : IsFileUpTo before items known
  pub file : FileScope
  -- the places of what is declared of the item, and what is left of it
  pub places : List ℕ
  pub left : Additions
  pub places_are : places ++ left.made ≡ places_of_item item
  pub reaches : GoesUpTo left known file
  pub broken : IsStoppedItem known file item fault
  -- what is read is declared in that file too: it is the file of the fault
  pub fault_of : IsFaultOf items fault

module _ (file : ℕ) (untagged : ℕ → List ℕ) (items : List Trees.Item) (fit : AreFitItems untagged items)
    (ends_ascend : AreAscending (ends_in (marks_of_file untagged items)))
    (timely : AreAllTimely untagged (nodes_at items) (ends_in (marks_of_file untagged items)) [] 0 items) where
  abbrev ends : List ℕ
  ends = ends_in (marks_of_file untagged items)

  abbrev start : FileScope
  start = unread file untagged items

  file_may : MayStopFile untagged (nodes_at items) ends [] start items 0 0
  file_may = record {
    may = start_may file untagged items fit;
    prepared = unread_prepared file untagged items fit ends_ascend;
    timely = timely;
    own_functions = λ k b e. cc;
  }

  -- what is asked of the item at which the file stops holds behind those before it
  pub behind_them : (fault : Fault) (b : StopsAtItem items start fault)
      → IsBehind untagged (nodes_at items) ends start b.before (b.item ∷ b.after) b.known
  behind_them fault b =
      behind_items untagged (nodes_at items) ends b.before (b.item ∷ b.after) [] [] start 0 0
      (subst (λ all. MayStopFile untagged (nodes_at items) ends [] start all 0 0) b.whole file_may)
      (nothing_known (nodes_at items) file untagged items) b.known b.read

  -- so it stops as the law on items says
  pub stops_there : (fault : Fault) (b : StopsAtItem items start fault)
      → ItemStops untagged (behind_them fault b).types (nodes_at items) ends b.known b.item fault
  stops_there fault b =
      let p = behind_them fault b in
      item_stops untagged p.types (nodes_at items) ends p.made b.item b.known p.at p.in_scope
      (item_may untagged (nodes_at items) ends p.types b.known b.item b.after p.at p.in_scope p.may) p.known fault b.stops

  -- what is read before the fault, and what is broken there
  abbrev Holds : List Trees.Item → Trees.Item → FileScope → Fault → FileScope → Type 0
  Holds before item there fault h = All (ErasesItem h) before × IsStoppedItem h there item fault

  stopped : ((at : ℕ) → IsUnwritten (untagged at)) → (fault : Fault) (b : StopsAtItem items start fault) (types : List (List ℕ))
      → ItemStops untagged types (nodes_at items) ends b.known b.item fault
      → Stepped (nodes_at items) (marks_of_file untagged b.before) (mentions_of_file b.before) (places_in b.before) (made_by_file b.before) start
      (λ h. All (ErasesItem h) b.before) b.known → StopsInText items fault
  stopped unwritten fault b types s read =
      let rest : List Trees.Item = b.item ∷ b.after in
      let u : List Mark = marks_of_file untagged b.before ++ s.marks in
      let v : List Mark = s.marks_later ++ marks_of_file untagged b.after in
      let x : List ℕ = mentions_of_file b.before ++ s.types_said in
      let y : List ℕ = s.said_later ++ mentions_of_file b.after in
      let k : List ℕ = places_in b.before ++ s.places in
      let l : List ℕ = s.later ++ places_in b.after in
      let made : List ℕ = made_by_file b.before ++ s.made in
      let marks_are : u ++ v ≡ marks_of_file untagged items =
      part_read (marks_of_file untagged b.before) s.marks s.marks_later (marks_of_file untagged b.after) (marks_of_item untagged b.item) s.marks_are
      ∙ sym (ap (marks_of_file untagged) b.whole ∙ marks_append untagged b.before rest) in
      let said_are : x ++ y ≡ mentions_of_file items =
      part_read (mentions_of_file b.before) s.types_said s.said_later (mentions_of_file b.after) (mentions_of_item b.item) s.said_are
      ∙ sym (ap mentions_of_file b.whole ∙ mentions_append b.before rest) in
      let places_are : k ++ l ≡ places_in items =
      part_read (places_in b.before) s.places s.later (places_in b.after) (places_of_item b.item) s.places_are
      ∙ sym (ap places_in b.whole ∙ places_append b.before rest) in
      let so_far = stepped_then (nodes_at items) {C = Holds b.before b.item s.file fault} start b.known s.middle read s.step (λ i c e a q. (a, q)) in
      let reach : GoesUpTo (record { marks = v; said = y; made = l }) s.middle s.file = record {
        continues = s.reaches.continues;
        up_to = up_to_first (record { marks = s.marks_later; said = s.said_later; made = s.later }) (of_file untagged b.after) s.reaches.up_to;
      } in
      let here = declared_so_far file untagged items fit u v x y k l made (Holds b.before b.item s.file fault) s.middle so_far marks_are places_are in
      record {
        before = b.before;
        item = b.item;
        after = b.after;
        whole = b.whole;
        known = s.middle;
        known_is = file_up_to file untagged items fit u v x y k l made (Holds b.before b.item s.file fault) s.middle so_far marks_are places_are unwritten
            said_are b.before here.0;
        file = s.file;
        places = s.places;
        left = record { marks = s.marks_later; said = s.said_later; made = s.later };
        places_are = s.places_are;
        reaches = s.reaches;
        broken = here.1;
        fault_of =
            let there = declared_there file untagged items fit u v x y k l made (Holds b.before b.item s.file fault) s.middle s.file so_far marks_are
            said_are places_are reach in
            record {
              before = b.before;
              item = b.item;
              after = b.after;
              whole = b.whole;
              annotated = s.file;
              known = file_there file untagged items fit u v x y k l made (Holds b.before b.item s.file fault) s.middle s.file so_far marks_are said_are
                  places_are reach unwritten b.before there.0;
              broken = is_broken_item s.file b.item fault there.1;
            };
      }

  pub file_stops : ((at : ℕ) → IsUnwritten (untagged at)) → (fault : Fault) → annotated file untagged items ≡ Err fault → StopsInText items fault
  file_stops unwritten fault h =
      let b = annotated_stops file untagged items fault h in
      stopped unwritten fault b (behind_them fault b).types (stops_there fault b) (behind_them fault b).read.step

module _ (places : TokensHavePlaces) (first : TreesBeginFirst) (texts : TextsAreInOrder) where
  pub text_stops : (file : ℕ) (untagged : ℕ → List ℕ) (bytes : List ℕ) (items : List Trees.Item) (fault : Fault) → ((at : ℕ) → IsUnwritten (untagged at))
      → IsTreeOf bytes items → annotated file untagged items ≡ Err fault → StopsInText items fault
  text_stops file untagged bytes items fault unwritten tree h =
      let fit = text_is_fit places first texts untagged bytes items unwritten tree in
      file_stops file untagged items fit ((marks_are_in_order places).ends bytes items untagged tree)
      (text_timely first untagged (nodes_at items) items fit.formed 0 (tree_ordered places bytes items tree)) unwritten fault h

  pub broken_text : FaultsBreakRules
  broken_text number untagged bytes items fault unwritten tree h = (text_stops number untagged bytes items fault unwritten tree h).fault_of
