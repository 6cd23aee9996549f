-- The initializers of a file's items ask for records in time, where the items are well formed and their tokens come one after the other.
use Rattle.std.proofs.Common.{◌≡◌, ℕ, ◌+◌, false, subst, List, [], ◌∷◌, ◌++◌, length, arith}
use Rattle.std.specs.Prelude.{Some, slice_get}
use Rattle.c_tokens.specs.declared.punctuator.Punctuator.TheVariants as M
use Rattle.c_ast.specs.Trees
use Rattle.c_ast.specs.Laws.{TreesBeginFirst}
use Rattle.c_ast.specs.Spelling.{Lexeme, punctuator, spelled_declarator, spelled_block_items, spelled_item, spelled_items, spell}
use Rattle.c_ast.specs.WellFormed.{IsItem, AreItems, types_after}
use Rattle.c_erasure.specs.Marks.{Mark, a_name, ends_in, marks_of_declarator, marks_of_specifiers, marks_of_item, marks_of_file}
use Rattle.c_erasure.specs.MarkPlaces.Places.{AreOrdered}
use Rattle.c_erasure.proofs.MarkPlaces.MarksOfParts.{declarator_along, specifiers_along}
use Rattle.c_erasure.proofs.MarkPlaces.MarksOfFiles.{item_along, items_along}
use Rattle.c_checking_laws.proofs.Agreement.{added}
use Rattle.c_checking_laws.proofs.Ahead.{Ahead, Standing, standing_left, standing_right, back, ahead_same, added_both, none_left}
use Rattle.c_checking_laws.proofs.WholeFiles.Items.{IsItemFit, AreItemsFit}
use Rattle.c_checking_laws.proofs.WholeFiles.InTextTime.{behind_part, ahead_of}
use Rattle.c_checking_laws.proofs.WholeFiles.DeclarationsInTime.{declaration_fit}
use Rattle.c_checking_laws.proofs.WholeFiles.BodiesInTime.{items_timely}

module _ (untagged : ℕ → List ℕ) (ends : List ℕ) (law : TreesBeginFirst) where
  item_fit : (types : List (List ℕ)) (item : Trees.Item) → IsItem types item → (n m from : ℕ) (rest : List Lexeme) → AreOrdered from (spelled_item item rest)
      → Standing ends false n (marks_of_item untagged item) → Ahead ends (n + added false (marks_of_item untagged item)) rest
      → IsItemFit untagged [] m item → IsItemFit untagged ends n item
  item_fit types (Trees.declaration d) w n m f rest o st h r = declaration_fit untagged types ends law d w n m f rest o st h r
  item_fit types (Trees.defines specs d left items right) w n m f rest o st h r =
      let u : List Mark = marks_of_specifiers untagged specs in
      let v : List Mark = marks_of_declarator untagged d in
      let k : List Mark = a_name left ∷ [] in
      let N : ℕ = n + length (ends_in u) + length (ends_in v) in
      let close : Lexeme = punctuator M.CloseBrace right in
      let body : List Lexeme = spelled_block_items items (close ∷ rest) in
      let tokens : List Lexeme = punctuator M.OpenBrace left ∷ body in
      let own = added_both false u v in
      let all = added_both false (u ++ v) k in
      let whole : n + added false ((u ++ v) ++ k) ≡ N = omega (arith, own, all) in
      let hb = ahead_of untagged types ends N law close rest (ahead_same ends (n + added false ((u ++ v) ++ k)) N rest whole h) in
      let c = behind_part untagged types ends N law f (specifiers_along untagged types specs w.0 {rest = spelled_declarator d tokens}) o in
      let e = behind_part untagged types ends N law c.0 (declarator_along untagged types d w.1 {rest = tokens}) c.1 in
      (r.0, r.1, items_timely untagged types ends N (m + length (ends_in u) + length (ends_in v)) law items w.3 _ (close ∷ rest) e.1.2 hb r.2)

  items_fit : (types : List (List ℕ)) (items : List Trees.Item) → AreItems types items → (n m from : ℕ) (rest : List Lexeme)
      → AreOrdered from (spelled_items items rest) → Standing ends false n (marks_of_file untagged items)
      → Ahead ends (n + added false (marks_of_file untagged items)) rest → AreItemsFit untagged [] m items → AreItemsFit untagged ends n items
  items_fit types [] w n m f rest o st h r = tt
  items_fit types (item ∷ more) w n m f rest o st h r =
      let u : List Mark = marks_of_item untagged item in
      let k : List Mark = marks_of_file untagged more in
      let N : ℕ = n + added false u in
      let tokens : List Lexeme = spelled_items more rest in
      let all = added_both false u k in
      let whole : n + added false (u ++ k) ≡ N + added false k = omega (arith, all) in
      let hr = ahead_same ends (n + added false (u ++ k)) (N + added false k) rest whole h in
      let sm = standing_right ends false n u k st in
      let hm : Ahead ends N tokens = back ends false N (items_along untagged (types_after types item) more w.1 {rest = rest}) sm hr in
      let c = behind_part untagged types ends N law f (item_along untagged types item w.0 {rest = tokens}) o in
      (item_fit types item w.0 n m f tokens o (standing_left ends false n u k st) hm r.0, items_fit (types_after types item) more w.1 N _ c.0 rest c.1 sm hr r.1)

-- that the literals of a file are in range is asked with no ends at all
pub text_fits : TreesBeginFirst → (untagged : ℕ → List ℕ) (items : List Trees.Item) → AreItems [] items → (from : ℕ) → AreOrdered from (spell items)
    → AreItemsFit untagged [] 0 items → AreItemsFit untagged (ends_in (marks_of_file untagged items)) 0 items
text_fits law untagged items w from o r =
    let ends : List ℕ = ends_in (marks_of_file untagged items) in
    let from_zero : length ends ≡ 0 + length ends = omega arith in
    items_fit untagged ends law [] items w 0 0 from [] o
    (λ e j right g. subst (λ n. slice_get ends n ≡ Some right) (let z : j ≡ 0 + j = omega arith in z) g)
    (ahead_same ends (length ends) (0 + length ends) [] from_zero (none_left ends)) r
