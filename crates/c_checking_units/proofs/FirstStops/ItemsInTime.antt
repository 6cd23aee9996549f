-- The items of a file ask for records in time, where they are well formed and their tokens come one after the other.
use Rattle.std.proofs.Common.{◌≡◌, ℕ, ◌+◌, true, false, sym, subst, List, [], ◌∷◌, ◌++◌, length, arith}
use Rattle.std.specs.Prelude.{Some, slice_get}
use Rattle.c_tokens.specs.declared.punctuator.Punctuator.TheVariants as M
use Rattle.c_ast.specs.Trees
use Rattle.c_ast.specs.Laws.{TreesBeginFirst}
use Rattle.c_ast.specs.Spelling.{Lexeme, punctuator, spelled_declarator, spelled_init_declarators, spelled_block_items, spelled_item, spelled_items, spell}
use Rattle.c_ast.specs.WellFormed.{IsItem, AreItems, types_after}
use Rattle.c_erasure.specs.Marks.{Mark, a_name, ends_in, marks_of_declarator, marks_of_declarators, marks_of_specifiers, marks_of_item, marks_of_file}
use Rattle.c_erasure.specs.Scopes.{FileScope}
use Rattle.c_erasure.specs.MarkPlaces.Places.{AreOrdered}
use Rattle.c_erasure.proofs.MarkPlaces.MarksOfParts.{declarator_along, specifiers_along}
use Rattle.c_erasure.proofs.MarkPlaces.MarksOfFiles.{block_items_along, declarators_along, item_along, items_along}
use Rattle.c_checking_laws.proofs.Agreement.{added}
use Rattle.c_checking_laws.proofs.FaultPremises.{AreSpecifiersTimely, IsDeclaratorTimely}
use Rattle.c_checking_laws.proofs.Ahead.{Ahead, Standing, standing_left, standing_right, earlier, back, ahead_same, added_both, none_left}
use Rattle.c_checking_laws.proofs.Timely.{timely_specifiers, timely_declarator}
use Rattle.c_checking_units.proofs.FirstStops.StatementTimely.{AreItemsTimely}
use Rattle.c_checking_units.proofs.FirstStops.TextTimely.{items_timely}
use Rattle.c_checking_units.proofs.FirstStops.DeclaratorsStop.{AreTimely}
use Rattle.c_checking_units.proofs.FirstStops.InitialsInTime.{behind, ahead_of}
use Rattle.c_checking_units.proofs.FirstStops.DeclaratorsInTime.{declarators_timely}

abbrev many : List Mark → ℕ
many u = length (ends_in u)

module _ (untagged : ℕ → List ℕ) (nodes_at : ℕ → ℕ) (ends : List ℕ) where
  -- an item asks for records in time, where `n` of them are complete before it
  abbrev pub IsItemTimely : List (List ℕ) → ℕ → Trees.Item → Type 0
  IsItemTimely types n (Trees.defines specs d left items right) = AreSpecifiersTimely untagged ends false n specs
      × IsDeclaratorTimely untagged ends false (n + length (ends_in (marks_of_specifiers untagged specs))) d
      × ((g : FileScope)
      → length g.records ≡ n + length (ends_in (marks_of_specifiers untagged specs)) + length (ends_in (marks_of_declarator untagged d))
      → AreItemsTimely untagged ends g items)
  IsItemTimely types n (Trees.declaration d) = AreSpecifiersTimely untagged ends false n d.specs
      × AreTimely untagged types nodes_at ends (n + length (ends_in (marks_of_specifiers untagged d.specs))) d.all

  abbrev pub AreAllTimely : List (List ℕ) → ℕ → List Trees.Item → Type 0
  AreAllTimely types n [] = Unit {0}
  AreAllTimely types n (item ∷ more) = IsItemTimely types n item
      × AreAllTimely (types_after types item) (n + length (ends_in (marks_of_item untagged item))) more

  module _ (law : TreesBeginFirst) where
    declaration_timely : (types : List (List ℕ)) (d : Trees.Declaration) → IsItem types (Trees.declaration d) → (n from : ℕ) (rest : List Lexeme)
        → AreOrdered from (spelled_item (Trees.declaration d) rest) → Standing ends false n (marks_of_item untagged (Trees.declaration d))
        → Ahead ends (n + added false (marks_of_item untagged (Trees.declaration d))) rest → IsItemTimely types n (Trees.declaration d)
    declaration_timely types d w n from rest o st h =
        let u : List Mark = marks_of_specifiers untagged d.specs in
        let k : List Mark = marks_of_declarators untagged d.all d.semicolon in
        let N : ℕ = n + length (ends_in u) in
        let tokens : List Lexeme = spelled_init_declarators d.all (punctuator M.Semicolon d.semicolon ∷ rest) in
        let all = added_both false u k in
        let whole : n + added false (u ++ k) ≡ N + added false k = omega (arith, all) in
        let hk = ahead_same ends (n + added false (u ++ k)) (N + added false k) rest whole h in
        let sk = standing_right ends false n u k st in
        let hd : Ahead ends N tokens = back ends false N (declarators_along untagged types true d.all w.1 d.semicolon {rest = rest}) sk hk in
        let c = behind untagged types ends law from (specifiers_along untagged types d.specs w.0 {rest = tokens}) o in (
          timely_specifiers untagged types ends law false n d.specs w.0 from tokens o (standing_left ends false n u k st) hd,
          declarators_timely untagged types ends law nodes_at true d.all w.1 d.semicolon N c.0 rest c.1 sk hk,
        )

    definition_timely : (types : List (List ℕ)) (specs : Trees.Specifiers) (d : Trees.Declarator) (left : ℕ) (items : Trees.BlockItems) (right : ℕ)
        → IsItem types (Trees.defines specs d left items right) → (n from : ℕ) (rest : List Lexeme)
        → AreOrdered from (spelled_item (Trees.defines specs d left items right) rest)
        → Standing ends false n (marks_of_item untagged (Trees.defines specs d left items right))
        → Ahead ends (n + added false (marks_of_item untagged (Trees.defines specs d left items right))) rest
        → IsItemTimely types n (Trees.defines specs d left items right)
    definition_timely types specs d left items right w n from rest o st h =
        let u : List Mark = marks_of_specifiers untagged specs in
        let v : List Mark = marks_of_declarator untagged d in
        let k : List Mark = a_name left ∷ [] in
        let m : ℕ = n + length (ends_in u) in
        let N : ℕ = m + length (ends_in v) in
        let close : Lexeme = punctuator M.CloseBrace right in
        let begin : Lexeme = punctuator M.OpenBrace left in
        let body : List Lexeme = spelled_block_items items (close ∷ rest) in
        let own = added_both false u v in
        let all = added_both false (u ++ v) k in
        let whole : n + added false ((u ++ v) ++ k) ≡ N = omega (arith, own, all) in
        let hb : Ahead ends N (close ∷ rest) =
        ahead_of untagged types ends law N close rest (ahead_same ends (n + added false ((u ++ v) ++ k)) N rest whole h) in
        let hv : Ahead ends N (begin ∷ body) =
        ahead_of untagged types ends law N begin body (earlier ends N (block_items_along untagged types items w.3 {rest = close ∷ rest}) hb) in
        let both = standing_left ends false n (u ++ v) k st in
        let sv : Standing ends false m v = standing_right ends false n u v both in
        let hu : Ahead ends m (spelled_declarator d (begin ∷ body)) =
        back ends false m (declarator_along untagged types d w.1 {rest = begin ∷ body}) sv hv in
        let c = behind untagged types ends law from (specifiers_along untagged types specs w.0 {rest = spelled_declarator d (begin ∷ body)}) o in
        let e = behind untagged types ends law c.0 (declarator_along untagged types d w.1 {rest = begin ∷ body}) c.1 in (
          timely_specifiers untagged types ends law false n specs w.0 from (spelled_declarator d (begin ∷ body)) o (standing_left ends false n u v both) hu,
          timely_declarator untagged types ends law false m d w.1 c.0 (begin ∷ body) c.1 sv hv,
          λ g l. items_timely untagged types ends g law items w.3 _ (close ∷ rest) e.1.2 (ahead_same ends N (length g.records) (close ∷ rest) (sym l) hb),
        )

    item_timely : (types : List (List ℕ)) (item : Trees.Item) → IsItem types item → (n from : ℕ) (rest : List Lexeme)
        → AreOrdered from (spelled_item item rest) → Standing ends false n (marks_of_item untagged item)
        → Ahead ends (n + added false (marks_of_item untagged item)) rest → IsItemTimely types n item
    item_timely types (Trees.declaration d) w n from rest o st h = declaration_timely types d w n from rest o st h
    item_timely types (Trees.defines specs d left items right) w n from rest o st h =
        definition_timely types specs d left items right w n from rest o st h

    all_timely : (types : List (List ℕ)) (items : List Trees.Item) → AreItems types items → (n from : ℕ) (rest : List Lexeme)
        → AreOrdered from (spelled_items items rest) → Standing ends false n (marks_of_file untagged items)
        → Ahead ends (n + added false (marks_of_file untagged items)) rest → AreAllTimely types n items
    all_timely types [] w n from rest o st h = tt
    all_timely types (item ∷ more) w n from rest o st h =
        let u : List Mark = marks_of_item untagged item in
        let k : List Mark = marks_of_file untagged more in
        let N : ℕ = n + length (ends_in u) in
        let tokens : List Lexeme = spelled_items more rest in
        let all = added_both false u k in
        let whole : n + added false (u ++ k) ≡ N + added false k = omega (arith, all) in
        let hr = ahead_same ends (n + added false (u ++ k)) (N + added false k) rest whole h in
        let sm = standing_right ends false n u k st in
        let hm : Ahead ends N tokens = back ends false N (items_along untagged (types_after types item) more w.1 {rest = rest}) sm hr in
        let c = behind untagged types ends law from (item_along untagged types item w.0 {rest = tokens}) o in (
          item_timely types item w.0 n from tokens o (standing_left ends false n u k st) hm,
          all_timely (types_after types item) more w.1 N c.0 rest c.1 sm hr,
        )

-- the items of a whole file
pub text_timely : TreesBeginFirst → (untagged : ℕ → List ℕ) (nodes_at : ℕ → ℕ) (items : List Trees.Item) → AreItems [] items → (from : ℕ)
    → AreOrdered from (spell items) → AreAllTimely untagged nodes_at (ends_in (marks_of_file untagged items)) [] 0 items
text_timely law untagged nodes_at items w from o =
    let ends : List ℕ = ends_in (marks_of_file untagged items) in
    let from_zero : length ends ≡ 0 + length ends = omega arith in
    all_timely untagged nodes_at ends law [] items w 0 from [] o
    (λ e j right g. subst (λ n. slice_get ends n ≡ Some right) (let z : j ≡ 0 + j = omega arith in z) g)
    (ahead_same ends (length ends) (0 + length ends) [] from_zero (none_left ends))
