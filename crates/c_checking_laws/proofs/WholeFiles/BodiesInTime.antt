-- The initializers of a function's body ask for records in time: no structure is defined there, and the next ones lie ahead.
use Rattle.std.proofs.Common.{ℕ, Bool, true, false, List, [], ◌∷◌}
use Rattle.lay_base.specs.declared.faults.Keyword.TheVariants as W
use Rattle.c_tokens.specs.declared.punctuator.Punctuator.TheVariants as M
use Rattle.c_ast.specs.Trees
use Rattle.c_ast.specs.Laws.{TreesBeginFirst}
use Rattle.c_ast.specs.Spelling.{Lexeme, punctuator, keyword, spelled, spelled_value, spelled_declarator, spelled_init_declarators, spelled_declaration}
use Rattle.c_ast.specs.Spelling.{spelled_if_any, spelled_for_start, spelled_statement, spelled_block_item, spelled_block_items, spelled_switch_item}
use Rattle.c_ast.specs.Spelling.{spelled_switch_items}
use Rattle.c_ast.specs.WellFormed.{AreInitDeclarators, IsDeclaration, IsForStart, IsStatement, IsBlockItem, AreBlockItems, IsSwitchItem, AreSwitchItems}
use Rattle.c_erasure.specs.Marks.{Mark}
use Rattle.c_erasure.specs.MarkPlaces.Places.{AreOrdered, Along}
use Rattle.c_erasure.proofs.MarkPlaces.Walks.{comma_along}
use Rattle.c_erasure.proofs.MarkPlaces.MarksOfParts.{along, declarator_along, specifiers_along}
use Rattle.c_erasure.proofs.MarkPlaces.MarksOfFiles.{declarators_along, if_any_along, labels_along, for_start_along, statement_along, block_item_along}
use Rattle.c_erasure.proofs.MarkPlaces.MarksOfFiles.{block_items_along}
use Rattle.c_erasure.proofs.MarkPlaces.MarksOfFiles.{switch_item_along, switch_items_along}
use Rattle.c_checking_laws.proofs.Ahead.{Ahead, earlier}
use Rattle.c_checking_laws.proofs.WholeFiles.Declarations.{AreDeclaratorsInRange, IsDeclarationInRange}
use Rattle.c_checking_laws.proofs.WholeFiles.StatementLaws.{IsStartInRange, IsStatementInRange, IsItemInRange, AreItemsInRange, IsSwitchItemInRange}
use Rattle.c_checking_laws.proofs.WholeFiles.StatementLaws.{AreSwitchItemsInRange}
use Rattle.c_checking_laws.proofs.WholeFiles.DeclarationsInTime.{value_fit}
use Rattle.c_checking_laws.proofs.WholeFiles.InTextTime as Text

module _ (untagged : ℕ → List ℕ) (types : List (List ℕ)) (ends : List ℕ) (n m : ℕ) (law : TreesBeginFirst) where
  behind : {u : List Mark} {tokens rest : List Lexeme} (from : ℕ) → Along u tokens rest → AreOrdered from tokens → (to : ℕ) × AreOrdered to rest
  behind from a o = Text.behind_part untagged types ends n law from a o

  ahead_of : (t : Lexeme) (rest : List Lexeme) → Ahead ends n rest → Ahead ends n (t ∷ rest)
  ahead_of t rest h = Text.ahead_of untagged types ends n law t rest h

  declarators_timely : (lead : Bool) (all : List Trees.InitDeclarator) → AreInitDeclarators types lead all → (semicolon from : ℕ) (rest : List Lexeme)
      → AreOrdered from (spelled_init_declarators all (punctuator M.Semicolon semicolon ∷ rest)) → Ahead ends n rest → AreDeclaratorsInRange [] m all
      → AreDeclaratorsInRange ends n all
  declarators_timely lead [] w semicolon f rest o h r = tt
  declarators_timely lead (d ∷ more) w semicolon f rest o h r =
      let tokens : List Lexeme = spelled_init_declarators more (punctuator M.Semicolon semicolon ∷ rest) in
      let hm : Ahead ends n tokens = earlier ends n (declarators_along untagged types false more w.4 semicolon {rest = rest}) h in
      let c = behind f (comma_along d.comma {rest = spelled_declarator d.declarator (spelled_value d.value tokens)}) o in
      let e = behind c.0 (declarator_along untagged types d.declarator w.1 {rest = spelled_value d.value tokens}) c.1 in
      let b = value_fit untagged types ends law d.value w.3 n m e.0 tokens e.1 hm r.1 in
      (r.0, b.0, declarators_timely false more w.4 semicolon b.1.0 rest b.1.1 h r.2)

  declaration_timely : (d : Trees.Declaration) → IsDeclaration types d → (from : ℕ) (rest : List Lexeme) → AreOrdered from (spelled_declaration d rest)
      → Ahead ends n rest → IsDeclarationInRange [] m d → IsDeclarationInRange ends n d
  declaration_timely d w f rest o h r =
      let tokens : List Lexeme = spelled_init_declarators d.all (punctuator M.Semicolon d.semicolon ∷ rest) in
      let c = behind f (specifiers_along untagged types d.specs w.0 {rest = tokens}) o in
      (r.0, declarators_timely true d.all w.1 d.semicolon c.0 rest c.1 h r.1)

  start_timely : (t : Trees.ForStart) → IsForStart types t → (from : ℕ) (rest : List Lexeme) → AreOrdered from (spelled_for_start t rest)
      → Ahead ends n rest → IsStartInRange [] m t → IsStartInRange ends n t
  start_timely (Trees.starts_with a semicolon) w f rest o h r = r
  start_timely (Trees.declares d) w f rest o h r = declaration_timely d w.1 f rest o h r

  mutual
    statement_timely : (t : Trees.Statement) → IsStatement types t → (from : ℕ) (rest : List Lexeme) → AreOrdered from (spelled_statement t rest)
        → Ahead ends n rest → IsStatementInRange [] m t → IsStatementInRange ends n t
    statement_timely (Trees.block left items right) w f rest o h r =
        items_timely items w _ (punctuator M.CloseBrace right ∷ rest) o.2 (ahead_of (punctuator M.CloseBrace right) rest h) r
    statement_timely (Trees.evaluate a semicolon) w f rest o h r = r
    statement_timely (Trees.when at left a right one) w f rest o h r =
        let c = behind _ (along untagged types a w.0 {rest = punctuator M.Close right ∷ spelled_statement one rest}) o.2.2 in
        (r.0, statement_timely one w.1 _ rest c.1.2 h r.1)
    statement_timely (Trees.choose at left a right one middle other) w f rest o h r =
        let tokens : List Lexeme = keyword W.Else middle ∷ spelled_statement other rest in
        let ho : Ahead ends n tokens =
        ahead_of (keyword W.Else middle) (spelled_statement other rest) (earlier ends n (statement_along untagged types other w.3 {rest = rest}) h) in
        let c = behind _ (along untagged types a w.1 {rest = punctuator M.Close right ∷ spelled_statement one tokens}) o.2.2 in
        let e = behind _ (statement_along untagged types one w.2 {rest = tokens}) c.1.2 in
        (r.0, statement_timely one w.2 _ tokens c.1.2 ho r.1, statement_timely other w.3 _ rest e.1.2 h r.2)
    statement_timely (Trees.while at left a right body) w f rest o h r =
        let c = behind _ (along untagged types a w.0 {rest = punctuator M.Close right ∷ spelled_statement body rest}) o.2.2 in
        (r.0, statement_timely body w.1 _ rest c.1.2 h r.1)
    statement_timely (Trees.do_while at body while left a right semicolon) w f rest o h r =
        let last : List Lexeme = punctuator M.Close right ∷ punctuator M.Semicolon semicolon ∷ rest in
        let hl : Ahead ends n last = ahead_of (punctuator M.Close right) (punctuator M.Semicolon semicolon ∷ rest)
        (ahead_of (punctuator M.Semicolon semicolon) rest h) in
        let tokens : List Lexeme = keyword W.While while ∷ punctuator M.Open left ∷ spelled a last in
        let hb : Ahead ends n tokens = ahead_of (keyword W.While while) (punctuator M.Open left ∷ spelled a last)
        (ahead_of (punctuator M.Open left) (spelled a last) (earlier ends n (along untagged types a w.1 {rest = last}) hl)) in
        (r.0, statement_timely body w.0 _ tokens o.2 hb r.1)
    statement_timely (Trees.for at left start test semicolon step right body) w f rest o h r =
        let third : List Lexeme = punctuator M.Close right ∷ spelled_statement body rest in
        let second : List Lexeme = punctuator M.Semicolon semicolon ∷ spelled_if_any step third in
        let one : List Lexeme = spelled_if_any test second in
        let h3 : Ahead ends n third = ahead_of (punctuator M.Close right) (spelled_statement body rest)
        (earlier ends n (statement_along untagged types body w.3 {rest = rest}) h) in
        let h2 : Ahead ends n second = ahead_of (punctuator M.Semicolon semicolon) (spelled_if_any step third)
        (earlier ends n (if_any_along untagged types step w.2 {rest = third}) h3) in
        let h1 : Ahead ends n one = earlier ends n (if_any_along untagged types test w.1 {rest = second}) h2 in
        let c1 = behind _ (for_start_along untagged types start w.0 {rest = one}) o.2.2 in
        let c2 = behind c1.0 (if_any_along untagged types test w.1 {rest = second}) c1.1 in
        let c3 = behind _ (if_any_along untagged types step w.2 {rest = third}) c2.1.2 in
        (start_timely start w.0 _ one o.2.2 h1 r.0, r.1, r.2, statement_timely body w.3 _ rest c3.1.2 h r.3)
    statement_timely (Trees.switch at left a right begin items end) w f rest o h r =
        let close : Lexeme = punctuator M.CloseBrace end in
        let tokens : List Lexeme = punctuator M.Close right ∷ punctuator M.OpenBrace begin ∷ spelled_switch_items items (close ∷ rest) in
        let c = behind _ (along untagged types a w.0 {rest = tokens}) o.2.2 in
        (r.0, switch_items_timely items w.1 _ (close ∷ rest) c.1.2.2 (ahead_of close rest h) r.1)
    statement_timely (Trees.break at semicolon) w f rest o h r = tt
    statement_timely (Trees.continue at semicolon) w f rest o h r = tt
    statement_timely (Trees.return at a semicolon) w f rest o h r = r

    item_timely : (t : Trees.BlockItem) → IsBlockItem types t → (from : ℕ) (rest : List Lexeme) → AreOrdered from (spelled_block_item t rest)
        → Ahead ends n rest → IsItemInRange [] m t → IsItemInRange ends n t
    item_timely (Trees.local d) w f rest o h r = declaration_timely d w f rest o h r
    item_timely (Trees.statement a) w f rest o h r = statement_timely a w f rest o h r

    pub items_timely : (t : Trees.BlockItems) → AreBlockItems types t → (from : ℕ) (rest : List Lexeme) → AreOrdered from (spelled_block_items t rest)
        → Ahead ends n rest → AreItemsInRange [] m t → AreItemsInRange ends n t
    items_timely Trees.no_block_items w f rest o h r = tt
    items_timely (Trees.and_block_item e more) w f rest o h r =
        let tokens : List Lexeme = spelled_block_items more rest in
        let c = behind f (block_item_along untagged types e w.0 {rest = tokens}) o in (
          item_timely e w.0 f tokens o (earlier ends n (block_items_along untagged types more w.1 {rest = rest}) h) r.0,
          items_timely more w.1 c.0 rest c.1 h r.1,
        )

    switch_item_timely : (t : Trees.SwitchItem) → IsSwitchItem types t → (from : ℕ) (rest : List Lexeme) → AreOrdered from (spelled_switch_item t rest)
        → Ahead ends n rest → IsSwitchItemInRange [] m t → IsSwitchItemInRange ends n t
    switch_item_timely (Trees.local_switch_item d) w f rest o h r = declaration_timely d w.1 f rest o h r
    switch_item_timely (Trees.labelled labels a) w f rest o h r =
        let c = behind f (labels_along untagged types labels w.0 {rest = spelled_statement a rest}) o in
        (r.0, statement_timely a w.1 c.0 rest c.1 h r.1)

    switch_items_timely : (t : Trees.SwitchItems) → AreSwitchItems types t → (from : ℕ) (rest : List Lexeme) → AreOrdered from (spelled_switch_items t rest)
        → Ahead ends n rest → AreSwitchItemsInRange [] m t → AreSwitchItemsInRange ends n t
    switch_items_timely Trees.no_switch_items w f rest o h r = tt
    switch_items_timely (Trees.and_switch_item item more) w f rest o h r =
        let tokens : List Lexeme = spelled_switch_items more rest in
        let c = behind f (switch_item_along untagged types item w.0 {rest = tokens}) o in (
          switch_item_timely item w.0 f tokens o (earlier ends n (switch_items_along untagged types more w.1 {rest = rest}) h) r.0,
          switch_items_timely more w.1 c.0 rest c.1 h r.1,
        )
