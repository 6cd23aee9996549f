-- The initializers of a declaration at file scope ask for records in time, where the definitions of the declaration stand among the file's and the
-- next ones lie ahead. That its literals are in range is asked with no ends at all.
use Rattle.std.proofs.Common.{◌≡◌, ℕ, ◌+◌, Bool, true, false, subst, List, [], ◌∷◌, ◌++◌, length, arith}
use Rattle.std.specs.Prelude.{Option, Some, None}
use Rattle.c_tokens.specs.declared.punctuator.Punctuator.TheVariants as M
use Rattle.c_ast.specs.Trees
use Rattle.c_ast.specs.Laws.{TreesBeginFirst}
use Rattle.c_ast.specs.Spelling.{Lexeme, punctuator, spelled_value, spelled_declarator, spelled_init_declarators, spelled_declaration}
use Rattle.c_ast.specs.WellFormed.{IsValue, AreInitDeclarators, IsDeclaration}
use Rattle.c_erasure.specs.Marks.{Mark, a_name, ends_in, marks_of_declarator, marks_of_initial, marks_of_declarators, marks_of_specifiers, marks_of_item}
use Rattle.c_erasure.specs.Marks.{name_from, after_declarator}
use Rattle.c_erasure.specs.MarkPlaces.Places.{AreOrdered}
use Rattle.c_erasure.proofs.MarkPlaces.Walks.{comma_along}
use Rattle.c_erasure.proofs.MarkPlaces.MarksOfParts.{declarator_along, specifiers_along}
use Rattle.c_erasure.proofs.MarkPlaces.MarksOfFiles.{initializer_along, declarators_along}
use Rattle.c_checking_laws.proofs.Agreement.{added}
use Rattle.c_checking_laws.proofs.Ahead.{Ahead, Standing, standing_right, back, ahead_same, added_both}
use Rattle.c_checking_laws.proofs.WholeFiles.LocalObjects.{IsValueInRange}
use Rattle.c_checking_laws.proofs.WholeFiles.DeclarationItems.{AreDeclaratorsFit}
use Rattle.c_checking_laws.proofs.WholeFiles.Items.{IsItemFit}
use Rattle.c_checking_laws.proofs.WholeFiles.InTextTime.{behind_part, initial_in_time}

module _ (untagged : ℕ → List ℕ) (types : List (List ℕ)) (ends : List ℕ) (law : TreesBeginFirst) where
  behind : {u : List Mark} {tokens rest : List Lexeme} (from : ℕ) → Rattle.c_erasure.specs.MarkPlaces.Places.Along u tokens rest → AreOrdered from tokens
      → (to : ℕ) × AreOrdered to rest
  behind from a o = behind_part untagged types ends 0 law from a o

  -- an initializer, or none, and what lies behind it
  pub value_fit : (value : Option (ℕ × Trees.Expression)) → IsValue types value → (n m from : ℕ) (rest : List Lexeme) → AreOrdered from (spelled_value value rest)
      → Ahead ends n rest → IsValueInRange [] m value → IsValueInRange ends n value × ((to : ℕ) × AreOrdered to rest)
  value_fit None w n m f rest o h r = (tt, (f, o))
  value_fit (Some value) w n m f rest o h r =
      ((r.0, initial_in_time untagged types ends n law value.1 w _ rest o.2 h), behind _ (initializer_along untagged types value.1 w {rest = rest}) o.2)

  pub declarators_fit : (lead : Bool) (all : List Trees.InitDeclarator) → AreInitDeclarators types lead all → (semicolon n m from : ℕ) (rest : List Lexeme)
      → AreOrdered from (spelled_init_declarators all (punctuator M.Semicolon semicolon ∷ rest))
      → Standing ends false n (marks_of_declarators untagged all semicolon)
      → Ahead ends (n + added false (marks_of_declarators untagged all semicolon)) rest → AreDeclaratorsFit untagged [] m all
      → AreDeclaratorsFit untagged ends n all
  declarators_fit lead [] w semicolon n m f rest o st h r = tt
  declarators_fit lead (d ∷ more) w semicolon n m f rest o st h r =
      let u : List Mark = marks_of_declarator untagged d.declarator in
      let v : List Mark = a_name (name_from d.value (after_declarator more semicolon)) ∷ marks_of_initial untagged d.value in
      let k : List Mark = marks_of_declarators untagged more semicolon in
      let N : ℕ = n + length (ends_in u) + length (ends_in (marks_of_initial untagged d.value)) in
      let tokens : List Lexeme = spelled_init_declarators more (punctuator M.Semicolon semicolon ∷ rest) in
      let own = added_both false u v in
      let all = added_both false (u ++ v) k in
      let number : n + added false (u ++ v) ≡ N = omega (arith, own) in
      let sm = subst (λ n. Standing ends false n k) number (standing_right ends false n (u ++ v) k st) in
      let whole : n + added false ((u ++ v) ++ k) ≡ N + added false k = omega (arith, all, own) in
      let hm : Ahead ends N tokens = back ends false N (declarators_along untagged types false more w.4 semicolon {rest = rest}) sm
      (ahead_same ends (n + added false ((u ++ v) ++ k)) (N + added false k) rest whole h) in
      let c = behind f (comma_along d.comma {rest = spelled_declarator d.declarator (spelled_value d.value tokens)}) o in
      let e = behind c.0 (declarator_along untagged types d.declarator w.1 {rest = spelled_value d.value tokens}) c.1 in
      let b = value_fit d.value w.3 N _ e.0 tokens e.1 hm r.1 in (
        r.0,
        b.0,
        declarators_fit false more w.4 semicolon N _ b.1.0 rest b.1.1 sm
            (ahead_same ends (n + added false ((u ++ v) ++ k)) (N + added false k) rest whole h) r.2,
      )

  -- a declaration
  pub declaration_fit : (d : Trees.Declaration) → IsDeclaration types d → (n m from : ℕ) (rest : List Lexeme) → AreOrdered from (spelled_declaration d rest)
      → Standing ends false n (marks_of_item untagged (Trees.declaration d)) → Ahead ends (n + added false (marks_of_item untagged (Trees.declaration d))) rest
      → IsItemFit untagged [] m (Trees.declaration d) → IsItemFit untagged ends n (Trees.declaration d)
  declaration_fit d w n m f rest o st h r =
      let u : List Mark = marks_of_specifiers untagged d.specs in
      let k : List Mark = marks_of_declarators untagged d.all d.semicolon in
      let tokens : List Lexeme = spelled_init_declarators d.all (punctuator M.Semicolon d.semicolon ∷ rest) in
      let all = added_both false u k in
      let whole : n + added false (u ++ k) ≡ n + added false u + added false k = omega (arith, all) in
      let c = behind f (specifiers_along untagged types d.specs w.0 {rest = tokens}) o in (
        r.0,
        declarators_fit true d.all w.1 d.semicolon (n + added false u) _ c.0 rest c.1 (standing_right ends false n u k st)
            (ahead_same ends (n + added false (u ++ k)) (n + added false u + added false k) rest whole h) r.1,
      )
