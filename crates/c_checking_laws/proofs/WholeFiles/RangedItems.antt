-- The literals of a file's well formed items are in range where those among its tokens are.
use Rattle.std.proofs.Common.{ℕ, ◌+◌, Bool, true, false, List, [], ◌∷◌, length, arith}
use Rattle.std.specs.Prelude.{Option, Some, None}
use Rattle.c_ast.specs.Trees
use Rattle.c_ast.specs.Spelling.{Lexeme, spelled_value, spelled_init_declarators, spelled_declaration, spelled_if_any, spelled_labels, spelled_for_start}
use Rattle.c_ast.specs.Spelling.{spelled_statement, spelled_block_item, spelled_block_items, spelled_switch_item, spelled_switch_items, spelled_item}
use Rattle.c_ast.specs.Spelling.{spelled_items}
use Rattle.c_ast.specs.Spelling.{spell}
use Rattle.c_ast.specs.WellFormed.{IsValue, AreInitDeclarators, IsDeclaration, IsExpressionIfAny, AreLabels, IsForStart, IsStatement, IsBlockItem}
use Rattle.c_ast.specs.WellFormed.{AreBlockItems, IsSwitchItem, AreSwitchItems, IsItem, AreItems, types_after}
use Rattle.c_erasure.specs.Marks.{ends_in, marks_of_declarator, marks_of_initial, marks_of_specifiers, marks_of_item}
use Rattle.c_checking_laws.proofs.WholeFiles.InTime.{IsInTime, AreInTime}
use Rattle.c_checking_laws.proofs.WholeFiles.LocalObjects.{IsValueInRange}
use Rattle.c_checking_laws.proofs.WholeFiles.Declarations.{AreDeclaratorsInRange, IsDeclarationInRange}
use Rattle.c_checking_laws.proofs.WholeFiles.StatementLaws.{IsInRangeIfAny, IsStartInRange, IsStatementInRange, IsItemInRange, AreItemsInRange}
use Rattle.c_checking_laws.proofs.WholeFiles.StatementLaws.{IsSwitchItemInRange, AreSwitchItemsInRange}
use Rattle.c_checking_laws.proofs.WholeFiles.Labels.{AreLabelsInRange}
use Rattle.c_checking_laws.proofs.WholeFiles.DeclarationItems.{AreDeclaratorsFit}
use Rattle.c_checking_laws.proofs.WholeFiles.Items.{IsItemFit, AreItemsFit}
use Rattle.c_checking_laws.proofs.WholeFiles.RangedParts.{AreRanged, behind_comma, ranged, ranged_specifiers, ranged_declarator, ranged_whole}

-- with no ends at all each is in time
mutual
  in_no_time : (m : ℕ) (a : Trees.Expression) → IsInTime [] m a
  in_no_time m (Trees.paren left a right) = in_no_time m a
  in_no_time m (Trees.index a left b right) = (omega arith, in_no_time m a, in_no_time m b)
  in_no_time m (Trees.dot a at x) = in_no_time m a
  in_no_time m (Trees.arrow a at x) = (omega arith, in_no_time m a)
  in_no_time m (Trees.unary op at a) = (omega arith, in_no_time m a)
  in_no_time m (Trees.cast left t right a) = in_no_time m a
  in_no_time m (Trees.binary a op at b) = (omega arith, in_no_time m a, in_no_time m b)
  in_no_time m (Trees.braces left all comma right) = all_in_no_time m all
  in_no_time m a = tt

  all_in_no_time : (m : ℕ) (all : Trees.Arguments) → AreInTime [] m all
  all_in_no_time m Trees.no_arguments = tt
  all_in_no_time m (Trees.and_argument comma a more) = (in_no_time m a, all_in_no_time m more)

module _ (types : List (List ℕ)) where
  ranged_initial : (m : ℕ) (value : Option (ℕ × Trees.Expression)) → IsValue types value → (rest : List Lexeme) → AreRanged (spelled_value value rest)
      → IsValueInRange [] m value × AreRanged rest
  ranged_initial m None w rest h = (tt, h)
  ranged_initial m (Some value) w rest h = let p = ranged_whole types value.1 w rest h.1 in ((p.0, in_no_time m value.1), p.1)

  ranged_if_any : (a : Option Trees.Expression) → IsExpressionIfAny types a → (rest : List Lexeme) → AreRanged (spelled_if_any a rest)
      → IsInRangeIfAny a × AreRanged rest
  ranged_if_any None w rest h = (tt, h)
  ranged_if_any (Some a) w rest h = ranged types a w rest h

  module _ (m : ℕ) where
    ranged_locals : (lead : Bool) (all : List Trees.InitDeclarator) → AreInitDeclarators types lead all → (rest : List Lexeme)
        → AreRanged (spelled_init_declarators all rest) → AreDeclaratorsInRange [] m all × AreRanged rest
    ranged_locals lead [] w rest h = (tt, h)
    ranged_locals lead (d ∷ more) w rest h =
        let p = ranged_declarator types d.declarator w.1 _ (behind_comma d.comma _ h) in
        let q = ranged_initial m d.value w.3 _ p.1 in
        let r = ranged_locals false more w.4 rest q.1 in ((p.0, q.0, r.0), r.1)

    ranged_declaration : (d : Trees.Declaration) → IsDeclaration types d → (rest : List Lexeme) → AreRanged (spelled_declaration d rest)
        → IsDeclarationInRange [] m d × AreRanged rest
    ranged_declaration d w rest h =
        let p = ranged_specifiers types d.specs w.0 _ h in let q = ranged_locals true d.all w.1 _ p.1 in ((p.0, q.0), q.1.1)

    ranged_labels : (all : List Trees.Label) → AreLabels types all → (rest : List Lexeme) → AreRanged (spelled_labels all rest)
        → AreLabelsInRange all × AreRanged rest
    ranged_labels [] w rest h = (tt, h)
    ranged_labels (Trees.case at a colon ∷ more) w rest h =
        let p = ranged types a w.1 _ h.1 in let q = ranged_labels more w.2 rest p.1.1 in ((p.0, q.0), q.1)
    ranged_labels (Trees.default at colon ∷ more) w rest h = ranged_labels more w rest h.1.1

    ranged_start : (t : Trees.ForStart) → IsForStart types t → (rest : List Lexeme) → AreRanged (spelled_for_start t rest)
        → IsStartInRange [] m t × AreRanged rest
    ranged_start (Trees.starts_with a semicolon) w rest h = let p = ranged_if_any a w _ h in (p.0, p.1.1)
    ranged_start (Trees.declares d) w rest h = ranged_declaration d w.1 rest h

    mutual
      ranged_statement : (t : Trees.Statement) → IsStatement types t → (rest : List Lexeme) → AreRanged (spelled_statement t rest)
          → IsStatementInRange [] m t × AreRanged rest
      ranged_statement (Trees.block left items right) w rest h = let p = ranged_items items w _ h.1 in (p.0, p.1.1)
      ranged_statement (Trees.evaluate a semicolon) w rest h = let p = ranged_if_any a w _ h in (p.0, p.1.1)
      ranged_statement (Trees.when at left a right one) w rest h =
          let p = ranged types a w.0 _ h.1.1 in let q = ranged_statement one w.1 rest p.1.1 in ((p.0, q.0), q.1)
      ranged_statement (Trees.choose at left a right one middle other) w rest h =
          let p = ranged types a w.1 _ h.1.1 in
          let q = ranged_statement one w.2 _ p.1.1 in
          let r = ranged_statement other w.3 rest q.1.1 in ((p.0, q.0, r.0), r.1)
      ranged_statement (Trees.while at left a right body) w rest h =
          let p = ranged types a w.0 _ h.1.1 in let q = ranged_statement body w.1 rest p.1.1 in ((p.0, q.0), q.1)
      ranged_statement (Trees.do_while at body while left a right semicolon) w rest h =
          let p = ranged_statement body w.0 _ h.1 in let q = ranged types a w.1 _ p.1.1.1 in ((q.0, p.0), q.1.1.1)
      ranged_statement (Trees.for at left start test semicolon step right body) w rest h =
          let p = ranged_start start w.0 _ h.1.1 in
          let q = ranged_if_any test w.1 _ p.1 in
          let r = ranged_if_any step w.2 _ q.1.1 in
          let s = ranged_statement body w.3 rest r.1.1 in ((p.0, q.0, r.0, s.0), s.1)
      ranged_statement (Trees.switch at left a right begin items end) w rest h =
          let p = ranged types a w.0 _ h.1.1 in let q = ranged_switch_items items w.1 _ p.1.1.1 in ((p.0, q.0), q.1.1)
      ranged_statement (Trees.break at semicolon) w rest h = (tt, h.1.1)
      ranged_statement (Trees.continue at semicolon) w rest h = (tt, h.1.1)
      ranged_statement (Trees.return at a semicolon) w rest h = let p = ranged_if_any a w _ h.1 in (p.0, p.1.1)

      ranged_item : (t : Trees.BlockItem) → IsBlockItem types t → (rest : List Lexeme) → AreRanged (spelled_block_item t rest)
          → IsItemInRange [] m t × AreRanged rest
      ranged_item (Trees.local d) w rest h = ranged_declaration d w rest h
      ranged_item (Trees.statement a) w rest h = ranged_statement a w rest h

      pub ranged_items : (t : Trees.BlockItems) → AreBlockItems types t → (rest : List Lexeme) → AreRanged (spelled_block_items t rest)
          → AreItemsInRange [] m t × AreRanged rest
      ranged_items Trees.no_block_items w rest h = (tt, h)
      ranged_items (Trees.and_block_item e more) w rest h =
          let p = ranged_item e w.0 _ h in let q = ranged_items more w.1 rest p.1 in ((p.0, q.0), q.1)

      ranged_switch_item : (t : Trees.SwitchItem) → IsSwitchItem types t → (rest : List Lexeme) → AreRanged (spelled_switch_item t rest)
          → IsSwitchItemInRange [] m t × AreRanged rest
      ranged_switch_item (Trees.local_switch_item d) w rest h = ranged_declaration d w.1 rest h
      ranged_switch_item (Trees.labelled labels a) w rest h =
          let p = ranged_labels labels w.0 _ h in let q = ranged_statement a w.1 rest p.1 in ((p.0, q.0), q.1)

      ranged_switch_items : (t : Trees.SwitchItems) → AreSwitchItems types t → (rest : List Lexeme) → AreRanged (spelled_switch_items t rest)
          → AreSwitchItemsInRange [] m t × AreRanged rest
      ranged_switch_items Trees.no_switch_items w rest h = (tt, h)
      ranged_switch_items (Trees.and_switch_item item more) w rest h =
          let p = ranged_switch_item item w.0 _ h in let q = ranged_switch_items more w.1 rest p.1 in ((p.0, q.0), q.1)

module _ (untagged : ℕ → List ℕ) where
  ranged_declarators : (types : List (List ℕ)) (m : ℕ) (lead : Bool) (all : List Trees.InitDeclarator) → AreInitDeclarators types lead all
      → (rest : List Lexeme) → AreRanged (spelled_init_declarators all rest) → AreDeclaratorsFit untagged [] m all × AreRanged rest
  ranged_declarators types m lead [] w rest h = (tt, h)
  ranged_declarators types m lead (d ∷ more) w rest h =
      let k : ℕ = m + length (ends_in (marks_of_declarator untagged d.declarator)) + length (ends_in (marks_of_initial untagged d.value)) in
      let p = ranged_declarator types d.declarator w.1 _ (behind_comma d.comma _ h) in
      let q = ranged_initial types k d.value w.3 _ p.1 in
      let r = ranged_declarators types k false more w.4 rest q.1 in ((p.0, q.0, r.0), r.1)

  ranged_one : (types : List (List ℕ)) (m : ℕ) (item : Trees.Item) → IsItem types item → (rest : List Lexeme) → AreRanged (spelled_item item rest)
      → IsItemFit untagged [] m item × AreRanged rest
  ranged_one types m (Trees.defines specs d left items right) w rest h =
      let k : ℕ = m + length (ends_in (marks_of_specifiers untagged specs)) + length (ends_in (marks_of_declarator untagged d)) in
      let p = ranged_specifiers types specs w.0 _ h in
      let q = ranged_declarator types d w.1 _ p.1 in
      let r = ranged_items types k items w.3 _ q.1.1 in ((p.0, q.0, r.0), r.1.1)
  ranged_one types m (Trees.declaration d) w rest h =
      let p = ranged_specifiers types d.specs w.0 _ h in
      let q = ranged_declarators types (m + length (ends_in (marks_of_specifiers untagged d.specs))) true d.all w.1 _ p.1 in ((p.0, q.0), q.1.1)

  pub ranged_file : (types : List (List ℕ)) (m : ℕ) (items : List Trees.Item) → AreItems types items → (rest : List Lexeme)
      → AreRanged (spelled_items items rest) → AreItemsFit untagged [] m items × AreRanged rest
  ranged_file types m [] w rest h = (tt, h)
  ranged_file types m (item ∷ more) w rest h =
      let p = ranged_one types m item w.0 _ h in
      let q = ranged_file (types_after types item) (m + length (ends_in (marks_of_item untagged item))) more w.1 rest p.1 in ((p.0, q.0), q.1)

  pub ranged_text : (items : List Trees.Item) → AreItems [] items → AreRanged (spell items) → AreItemsFit untagged [] 0 items
  ranged_text items w h = (ranged_file [] 0 items w [] h).0
