-- In a well formed body of a function, whose tokens come one after the other and before the ends of the definitions that are left, records are
-- known where a byte asks for them: those before the function.
use Rattle.std.proofs.Common.{◌≡◌, ℕ, ◌+◌, Bool, true, false, refl, subst, List, [], ◌∷◌, length, arith}
use Rattle.std.specs.Prelude.{Option, Some, None}
use Rattle.lay_base.specs.declared.faults.Keyword.TheVariants as W
use Rattle.c_tokens.specs.declared.punctuator.Punctuator.TheVariants as M
use Rattle.c_tokens.specs.declared.token.TokenKind.TheVariants as K
use Rattle.c_ast.specs.declared.words.Spelling.{Spelling}
use Rattle.c_ast.specs.Trees
use Rattle.c_ast.specs.Laws.{TreesBeginFirst}
use Rattle.c_ast.specs.Spelling.{Lexeme, punctuator, keyword, word, spelled, spelled_arguments, spelled_comma, spelled_optional, spelled_declarator}
use Rattle.c_ast.specs.Spelling.{spelled_parameter_list, spelled_value, spelled_init_declarators, spelled_declaration, spelled_if_any}
use Rattle.c_ast.specs.Spelling.{spelled_labels, spelled_for_start, spelled_statement, spelled_block_item, spelled_block_items, spelled_switch_item}
use Rattle.c_ast.specs.Spelling.{spelled_switch_items}
use Rattle.c_ast.specs.WellFormed.{has_name, IsExpression, IsDeclarator, IsInitializer, AreInitializers, IsValue, AreInitDeclarators}
use Rattle.c_ast.specs.WellFormed.{IsDeclaration, IsExpressionIfAny, AreLabels, IsForStart, IsStatement, IsBlockItem, AreBlockItems, IsSwitchItem}
use Rattle.c_ast.specs.WellFormed.{AreSwitchItems}
use Rattle.c_erasure.specs.Declarators.{declared_name}
use Rattle.c_erasure.specs.Marks.{Mark, marks, marks_of_specifiers, marks_of_declarator}
use Rattle.c_erasure.specs.Scopes.{FileScope}
use Rattle.c_erasure.specs.MarkPlaces.Places.{AreOrdered, Along}
use Rattle.c_erasure.proofs.MarkPlaces.Walks.{comma_along, consts_along}
use Rattle.c_erasure.proofs.MarkPlaces.MarksOfParts.{along, declarator_along, specifiers_along, optional_along, parameter_list_along}
use Rattle.c_erasure.proofs.MarkPlaces.MarksOfFiles.{initializer_along, declarators_along, if_any_along, labels_along, for_start_along, statement_along}
use Rattle.c_erasure.proofs.MarkPlaces.MarksOfFiles.{block_item_along}
use Rattle.c_erasure.proofs.MarkPlaces.MarksOfFiles.{block_items_along, switch_item_along, switch_items_along}
use Rattle.c_checking_laws.proofs.Agreement.{added}
use Rattle.c_checking_laws.proofs.FaultPremises.{AreKnown}
use Rattle.c_checking_laws.proofs.Ahead.{Ahead, Standing, known, earlier, ahead_same}
use Rattle.c_checking_laws.proofs.Timely.{timely, timely_specifiers, timely_declarator}
use Rattle.c_checking_laws.proofs.WholeFiles.InTextTime as Text
use Rattle.c_checking_units.proofs.FirstStops.BracesFaults.{IsInitialTimely, AreInitialsTimely}
use Rattle.c_checking_units.proofs.FirstStops.DeclarationStops.{AreLocalsTimely, IsDeclarationTimely}
use Rattle.c_checking_units.proofs.FirstStops.LabelStops.{AreLabelsTimely}
use Rattle.c_checking_units.proofs.FirstStops.LocalStops.{IsValueTimely}
use Rattle.c_checking_units.proofs.FirstStops.StatementTimely.{IsStartTimely, IsStatementTimely, IsItemTimely, AreItemsTimely, IsSwitchItemTimely}
use Rattle.c_checking_units.proofs.FirstStops.StatementTimely.{AreSwitchItemsTimely}
use Rattle.c_checking_units.proofs.FirstStops.ValueStops.{IsTimelyThere, IsTimelyIfAny}

name_of : (d : Trees.Declarator) → has_name d ≡ true → (x : Spelling) × (declared_name d ≡ Some x)
name_of Trees.nothing h = cc
name_of (Trees.named x) h = (x, refl)
name_of (Trees.pointer at consts d) h = name_of d h
name_of (Trees.enclosed left d right) h = name_of d h
name_of (Trees.array d left n right) h = name_of d h
name_of (Trees.function d left all right) h = name_of d h

module _ (untagged : ℕ → List ℕ) (types : List (List ℕ)) (ends : List ℕ) (f : FileScope) (law : TreesBeginFirst) where
  abbrev N : ℕ
  N = length f.records

  behind : {u : List Mark} {tokens rest : List Lexeme} (from : ℕ) → Along u tokens rest → AreOrdered from tokens → (to : ℕ) × AreOrdered to rest
  behind from a o = Text.behind_part untagged types ends N law from a o

  ahead_of : (t : Lexeme) (rest : List Lexeme) → Ahead ends N rest → Ahead ends N (t ∷ rest)
  ahead_of t rest h = Text.ahead_of untagged types ends N law t rest h

  -- no structure is defined there
  none_stand : (u : List Mark) → Standing ends true N u
  none_stand u e j right g = cc

  no_more : (u : List Mark) (rest : List Lexeme) → Ahead ends N rest → Ahead ends (N + added true u) rest
  no_more u rest h = ahead_same ends N (N + added true u) rest (omega arith) h

  expression_timely : (a : Trees.Expression) → IsExpression types a → (from : ℕ) (rest : List Lexeme) → AreOrdered from (spelled a rest) → Ahead ends N rest
      → IsTimelyThere untagged ends f a
  expression_timely a w from rest o h =
      timely untagged types ends law true N a w from rest o (none_stand (marks untagged a)) (no_more (marks untagged a) rest h)

  if_any_timely : (a : Option Trees.Expression) → IsExpressionIfAny types a → (from : ℕ) (rest : List Lexeme) → AreOrdered from (spelled_if_any a rest)
      → Ahead ends N rest → IsTimelyIfAny untagged ends f a
  if_any_timely None w from rest o h = tt
  if_any_timely (Some a) w from rest o h = expression_timely a w from rest o h

  -- ---- initializers

  mutual
    initial_timely : (a : Trees.Expression) → IsInitializer types a → (from : ℕ) (rest : List Lexeme) → AreOrdered from (spelled a rest)
        → Ahead ends N rest → IsInitialTimely untagged ends true N a
    initial_timely (Trees.braces left all comma right) w from rest o h =
        let close : Lexeme = punctuator M.CloseBrace right in
        initials_timely true all w.1 _ (spelled_comma comma (close ∷ rest)) o.2 (earlier ends N (comma_along comma {rest = close ∷ rest}) (ahead_of close rest h))
    initial_timely a w from rest o h = expression_timely a w.1 from rest o h

    initials_timely : (lead : Bool) (all : Trees.Arguments) → AreInitializers types lead all → (from : ℕ) (rest : List Lexeme)
        → AreOrdered from (spelled_arguments all rest) → Ahead ends N rest → AreInitialsTimely untagged ends true N all
    initials_timely lead Trees.no_arguments w from rest o h = tt
    initials_timely lead (Trees.and_argument comma a more) w from rest o h =
        let c = behind from (comma_along comma {rest = spelled a (spelled_arguments more rest)}) o in
        let e = behind c.0 (initializer_along untagged types a w.1 {rest = spelled_arguments more rest}) c.1 in
        let same : N ≡ N + added true (marks untagged a) = omega arith in (
          initial_timely a w.1 c.0 (spelled_arguments more rest) c.1 (earlier ends N (Text.list_along untagged types ends N law false more w.2 {rest = rest}) h),
          subst (λ n. AreInitialsTimely untagged ends true n more) same (initials_timely false more w.2 e.0 rest e.1 h),
        )

  -- an initializer, or none, and what lies behind it
  value_timely : (value : Option (ℕ × Trees.Expression)) → IsValue types value → (from : ℕ) (rest : List Lexeme) → AreOrdered from (spelled_value value rest)
      → Ahead ends N rest → IsValueTimely untagged ends f value × ((to : ℕ) × AreOrdered to rest)
  value_timely None w from rest o h = (tt, (from, o))
  value_timely (Some value) w from rest o h =
      (initial_timely value.1 w _ rest o.2 h, behind _ (initializer_along untagged types value.1 w {rest = rest}) o.2)

  -- before the initializer
  before_value : (value : Option (ℕ × Trees.Expression)) → IsValue types value → (rest : List Lexeme) → Ahead ends N rest
      → Ahead ends N (spelled_value value rest)
  before_value None w rest h = h
  before_value (Some value) w rest h =
      ahead_of (punctuator M.Equal value.0) (spelled value.1 rest) (earlier ends N (initializer_along untagged types value.1 w {rest = rest}) h)

  -- ---- declarations

  -- where the name of a declarator stands
  name_known : (d : Trees.Declarator) → IsDeclarator types d → (x : Spelling) → declared_name d ≡ Some x → (from : ℕ) (rest : List Lexeme)
      → AreOrdered from (spelled_declarator d rest) → Ahead ends N rest → AreKnown untagged ends N x.from
  name_known Trees.nothing w x e from rest o h = cc
  name_known (Trees.named y) w x e from rest o h =
      let same : y ≡ x = cc in
      subst (λ (y : Spelling). AreKnown untagged ends N y.from) same
      (known ends N y.from (word K.Name y ∷ rest) (ahead_of (word K.Name y) rest h) (omega arith, o.1, o.2))
  name_known (Trees.pointer at consts d) w x e from rest o h =
      let c = behind _ (consts_along consts {rest = spelled_declarator d rest}) o.2 in
      name_known d w x e c.0 rest c.1 h
  name_known (Trees.enclosed left d right) w x e from rest o h =
      name_known d w.1 x e _ (punctuator M.Close right ∷ rest) o.2 (ahead_of (punctuator M.Close right) rest h)
  name_known (Trees.array d left len right) w x e from rest o h =
      let close : Lexeme = punctuator M.CloseSquare right in
      let inner : List Lexeme = spelled_optional len (close ∷ rest) in
      name_known d w.1 x e from (punctuator M.OpenSquare left ∷ inner) o
      (ahead_of (punctuator M.OpenSquare left) inner (earlier ends N (optional_along untagged types len w.2 {rest = close ∷ rest}) (ahead_of close rest h)))
  name_known (Trees.function d left all right) w x e from rest o h =
      let close : Lexeme = punctuator M.Close right in
      let inner : List Lexeme = spelled_parameter_list all (close ∷ rest) in
      name_known d w.1 x e from (punctuator M.Open left ∷ inner) o
      (ahead_of (punctuator M.Open left) inner (earlier ends N (parameter_list_along untagged types all w.2 {rest = close ∷ rest}) (ahead_of close rest h)))

  declarators_timely : (lead : Bool) (all : List Trees.InitDeclarator) → AreInitDeclarators types lead all → (semicolon from : ℕ) (rest : List Lexeme)
      → AreOrdered from (spelled_init_declarators all (punctuator M.Semicolon semicolon ∷ rest)) → Ahead ends N rest → AreLocalsTimely untagged ends f all
  declarators_timely lead [] w semicolon from rest o h = tt
  declarators_timely lead (d ∷ more) w semicolon from rest o h =
      let tokens : List Lexeme = spelled_init_declarators more (punctuator M.Semicolon semicolon ∷ rest) in
      let hm : Ahead ends N tokens = earlier ends N (declarators_along untagged types false more w.4 semicolon {rest = rest}) h in
      let hv = before_value d.value w.3 tokens hm in
      let c = behind from (comma_along d.comma {rest = spelled_declarator d.declarator (spelled_value d.value tokens)}) o in
      let e = behind c.0 (declarator_along untagged types d.declarator w.1 {rest = spelled_value d.value tokens}) c.1 in
      let u = marks_of_declarator untagged d.declarator in
      let name = name_of d.declarator w.2 in
      let b = value_timely d.value w.3 e.0 tokens e.1 hm in (
        timely_declarator untagged types ends law true N d.declarator w.1 c.0 (spelled_value d.value tokens) c.1 (none_stand u)
            (no_more u (spelled_value d.value tokens) hv),
        (name.0, name.1, name_known d.declarator w.1 name.0 name.1 c.0 (spelled_value d.value tokens) c.1 hv),
        b.0,
        declarators_timely false more w.4 semicolon b.1.0 rest b.1.1 h,
      )

  declaration_timely : (d : Trees.Declaration) → IsDeclaration types d → (from : ℕ) (rest : List Lexeme) → AreOrdered from (spelled_declaration d rest)
      → Ahead ends N rest → IsDeclarationTimely untagged ends f d
  declaration_timely d w from rest o h =
      let tokens : List Lexeme = spelled_init_declarators d.all (punctuator M.Semicolon d.semicolon ∷ rest) in
      let hd : Ahead ends N tokens = earlier ends N (declarators_along untagged types true d.all w.1 d.semicolon {rest = rest}) h in
      let u = marks_of_specifiers untagged d.specs in
      let c = behind from (specifiers_along untagged types d.specs w.0 {rest = tokens}) o in (
        timely_specifiers untagged types ends law true N d.specs w.0 from tokens o (none_stand u) (no_more u tokens hd),
        declarators_timely true d.all w.1 d.semicolon c.0 rest c.1 h,
      )

  -- ---- statements

  labels_timely : (all : List Trees.Label) → AreLabels types all → (from : ℕ) (rest : List Lexeme) → AreOrdered from (spelled_labels all rest)
      → Ahead ends N rest → AreLabelsTimely untagged ends f all
  labels_timely [] w from rest o h = tt
  labels_timely (Trees.case at a colon ∷ more) w from rest o h =
      let tokens : List Lexeme = punctuator M.Colon colon ∷ spelled_labels more rest in
      let ht : Ahead ends N tokens = ahead_of (punctuator M.Colon colon) (spelled_labels more rest)
      (earlier ends N (labels_along untagged types more w.2 {rest = rest}) h) in
      let c = behind _ (along untagged types a w.1 {rest = tokens}) o.2 in
      (expression_timely a w.1 _ tokens o.2 ht, labels_timely more w.2 _ rest c.1.2 h)
  labels_timely (Trees.default at colon ∷ more) w from rest o h = labels_timely more w _ rest o.2.2 h

  start_timely : (t : Trees.ForStart) → IsForStart types t → (from : ℕ) (rest : List Lexeme) → AreOrdered from (spelled_for_start t rest)
      → Ahead ends N rest → IsStartTimely untagged ends f t
  start_timely (Trees.starts_with a semicolon) w from rest o h =
      if_any_timely a w from (punctuator M.Semicolon semicolon ∷ rest) o (ahead_of (punctuator M.Semicolon semicolon) rest h)
  start_timely (Trees.declares d) w from rest o h = declaration_timely d w.1 from rest o h

  mutual
    pub statement_timely : (t : Trees.Statement) → IsStatement types t → (from : ℕ) (rest : List Lexeme) → AreOrdered from (spelled_statement t rest)
        → Ahead ends N rest → IsStatementTimely untagged ends f t
    statement_timely (Trees.block left items right) w from rest o h =
        items_timely items w _ (punctuator M.CloseBrace right ∷ rest) o.2 (ahead_of (punctuator M.CloseBrace right) rest h)
    statement_timely (Trees.evaluate a semicolon) w from rest o h =
        if_any_timely a w from (punctuator M.Semicolon semicolon ∷ rest) o (ahead_of (punctuator M.Semicolon semicolon) rest h)
    statement_timely (Trees.when at left a right one) w from rest o h =
        let tokens : List Lexeme = punctuator M.Close right ∷ spelled_statement one rest in
        let ht : Ahead ends N tokens = ahead_of (punctuator M.Close right) (spelled_statement one rest)
        (earlier ends N (statement_along untagged types one w.1 {rest = rest}) h) in
        let c = behind _ (along untagged types a w.0 {rest = tokens}) o.2.2 in
        (expression_timely a w.0 _ tokens o.2.2 ht, statement_timely one w.1 _ rest c.1.2 h)
    statement_timely (Trees.choose at left a right one middle other) w from rest o h =
        let tokens : List Lexeme = keyword W.Else middle ∷ spelled_statement other rest in
        let ho : Ahead ends N tokens =
        ahead_of (keyword W.Else middle) (spelled_statement other rest) (earlier ends N (statement_along untagged types other w.3 {rest = rest}) h) in
        let inner : List Lexeme = punctuator M.Close right ∷ spelled_statement one tokens in
        let hi : Ahead ends N inner = ahead_of (punctuator M.Close right) (spelled_statement one tokens)
        (earlier ends N (statement_along untagged types one w.2 {rest = tokens}) ho) in
        let c = behind _ (along untagged types a w.1 {rest = inner}) o.2.2 in
        let e = behind _ (statement_along untagged types one w.2 {rest = tokens}) c.1.2 in
        (expression_timely a w.1 _ inner o.2.2 hi, statement_timely one w.2 _ tokens c.1.2 ho, statement_timely other w.3 _ rest e.1.2 h)
    statement_timely (Trees.while at left a right body) w from rest o h =
        let tokens : List Lexeme = punctuator M.Close right ∷ spelled_statement body rest in
        let ht : Ahead ends N tokens = ahead_of (punctuator M.Close right) (spelled_statement body rest)
        (earlier ends N (statement_along untagged types body w.1 {rest = rest}) h) in
        let c = behind _ (along untagged types a w.0 {rest = tokens}) o.2.2 in
        (expression_timely a w.0 _ tokens o.2.2 ht, statement_timely body w.1 _ rest c.1.2 h)
    statement_timely (Trees.do_while at body while left a right semicolon) w from rest o h =
        let last : List Lexeme = punctuator M.Close right ∷ punctuator M.Semicolon semicolon ∷ rest in
        let hl : Ahead ends N last = ahead_of (punctuator M.Close right) (punctuator M.Semicolon semicolon ∷ rest)
        (ahead_of (punctuator M.Semicolon semicolon) rest h) in
        let tokens : List Lexeme = keyword W.While while ∷ punctuator M.Open left ∷ spelled a last in
        let hb : Ahead ends N tokens = ahead_of (keyword W.While while) (punctuator M.Open left ∷ spelled a last)
        (ahead_of (punctuator M.Open left) (spelled a last) (earlier ends N (along untagged types a w.1 {rest = last}) hl)) in
        let c = behind _ (statement_along untagged types body w.0 {rest = tokens}) o.2 in
        (expression_timely a w.1 _ last c.1.2.2 hl, statement_timely body w.0 _ tokens o.2 hb)
    statement_timely (Trees.for at left start test semicolon step right body) w from rest o h =
        let third : List Lexeme = punctuator M.Close right ∷ spelled_statement body rest in
        let second : List Lexeme = punctuator M.Semicolon semicolon ∷ spelled_if_any step third in
        let one : List Lexeme = spelled_if_any test second in
        let h3 : Ahead ends N third = ahead_of (punctuator M.Close right) (spelled_statement body rest)
        (earlier ends N (statement_along untagged types body w.3 {rest = rest}) h) in
        let h2 : Ahead ends N second = ahead_of (punctuator M.Semicolon semicolon) (spelled_if_any step third)
        (earlier ends N (if_any_along untagged types step w.2 {rest = third}) h3) in
        let h1 : Ahead ends N one = earlier ends N (if_any_along untagged types test w.1 {rest = second}) h2 in
        let c1 = behind _ (for_start_along untagged types start w.0 {rest = one}) o.2.2 in
        let c2 = behind c1.0 (if_any_along untagged types test w.1 {rest = second}) c1.1 in
        let c3 = behind _ (if_any_along untagged types step w.2 {rest = third}) c2.1.2 in (
          start_timely start w.0 _ one o.2.2 h1,
          if_any_timely test w.1 c1.0 second c1.1 h2,
          if_any_timely step w.2 _ third c2.1.2 h3,
          statement_timely body w.3 _ rest c3.1.2 h,
        )
    statement_timely (Trees.switch at left a right begin items end) w from rest o h =
        let close : Lexeme = punctuator M.CloseBrace end in
        let inner : List Lexeme = spelled_switch_items items (close ∷ rest) in
        let tokens : List Lexeme = punctuator M.Close right ∷ punctuator M.OpenBrace begin ∷ inner in
        let hc = ahead_of close rest h in
        let ht : Ahead ends N tokens = ahead_of (punctuator M.Close right) (punctuator M.OpenBrace begin ∷ inner)
        (ahead_of (punctuator M.OpenBrace begin) inner (earlier ends N (switch_items_along untagged types items w.1 {rest = close ∷ rest}) hc)) in
        let c = behind _ (along untagged types a w.0 {rest = tokens}) o.2.2 in
        (expression_timely a w.0 _ tokens o.2.2 ht, switch_items_timely items w.1 _ (close ∷ rest) c.1.2.2 hc)
    statement_timely (Trees.break at semicolon) w from rest o h = tt
    statement_timely (Trees.continue at semicolon) w from rest o h = tt
    statement_timely (Trees.return at a semicolon) w from rest o h =
        if_any_timely a w _ (punctuator M.Semicolon semicolon ∷ rest) o.2 (ahead_of (punctuator M.Semicolon semicolon) rest h)

    item_timely : (t : Trees.BlockItem) → IsBlockItem types t → (from : ℕ) (rest : List Lexeme) → AreOrdered from (spelled_block_item t rest)
        → Ahead ends N rest → IsItemTimely untagged ends f t
    item_timely (Trees.local d) w from rest o h = declaration_timely d w from rest o h
    item_timely (Trees.statement a) w from rest o h = statement_timely a w from rest o h

    pub items_timely : (t : Trees.BlockItems) → AreBlockItems types t → (from : ℕ) (rest : List Lexeme) → AreOrdered from (spelled_block_items t rest)
        → Ahead ends N rest → AreItemsTimely untagged ends f t
    items_timely Trees.no_block_items w from rest o h = tt
    items_timely (Trees.and_block_item e more) w from rest o h =
        let tokens : List Lexeme = spelled_block_items more rest in
        let c = behind from (block_item_along untagged types e w.0 {rest = tokens}) o in (
          item_timely e w.0 from tokens o (earlier ends N (block_items_along untagged types more w.1 {rest = rest}) h),
          items_timely more w.1 c.0 rest c.1 h,
        )

    switch_item_timely : (t : Trees.SwitchItem) → IsSwitchItem types t → (from : ℕ) (rest : List Lexeme) → AreOrdered from (spelled_switch_item t rest)
        → Ahead ends N rest → IsSwitchItemTimely untagged ends f t
    switch_item_timely (Trees.local_switch_item d) w from rest o h = declaration_timely d w.1 from rest o h
    switch_item_timely (Trees.labelled labels a) w from rest o h =
        let tokens : List Lexeme = spelled_statement a rest in
        let ht : Ahead ends N tokens = earlier ends N (statement_along untagged types a w.1 {rest = rest}) h in
        let c = behind from (labels_along untagged types labels w.0 {rest = tokens}) o in
        (labels_timely labels w.0 from tokens o ht, statement_timely a w.1 c.0 rest c.1 h)

    switch_items_timely : (t : Trees.SwitchItems) → AreSwitchItems types t → (from : ℕ) (rest : List Lexeme) → AreOrdered from (spelled_switch_items t rest)
        → Ahead ends N rest → AreSwitchItemsTimely untagged ends f t
    switch_items_timely Trees.no_switch_items w from rest o h = tt
    switch_items_timely (Trees.and_switch_item item more) w from rest o h =
        let tokens : List Lexeme = spelled_switch_items more rest in
        let c = behind from (switch_item_along untagged types item w.0 {rest = tokens}) o in (
          switch_item_timely item w.0 from tokens o (earlier ends N (switch_items_along untagged types more w.1 {rest = rest}) h),
          switch_items_timely more w.1 c.0 rest c.1 h,
        )
