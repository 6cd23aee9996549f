-- Statements: what is spelled is read.
use Rattle.std.proofs.Common.{◌≡◌, ℕ, zero, suc, ◌+◌, ◌≤◌, ◌<◌, max, List, [], ◌∷◌, ◌++◌, Option, Some, None, Bool, true, false, length, refl, ◌∙◌}
use Rattle.std.proofs.Common.{arith, append_assoc, append-nil, add-one}
use Rattle.lay_base.specs.declared.faults.Keyword.TheVariants as W
use Rattle.c_tokens.specs.declared.punctuator.Punctuator.TheVariants as M
use Rattle.c_tokens.specs.declared.token.TokenKind.{TokenKind}
use Rattle.c_tokens.specs.declared.token.TokenKind.TheVariants as K
use Rattle.c_ast.specs.Trees
use Rattle.c_ast.specs.Spelling.{Lexeme, punctuator, keyword, spelled, spelled_if_any, spelled_labels, spelled_for_start, spelled_statement}
use Rattle.c_ast.specs.Spelling.{spelled_block_item, spelled_block_items, spelled_switch_item, spelled_switch_items}
use Rattle.c_ast.specs.WellFormed.{IsExpression, IsExpressionIfAny, AreLabels, IsForStart, is_open, IsStatement, IsBlockItem, AreBlockItems}
use Rattle.c_ast.specs.WellFormed.{IsSwitchItem, AreSwitchItems}
use Rattle.c_ast.specs.Sizes.{depth, depth_if_any, depth_labels, depth_for_start, depth_statement, depth_block_item, depth_block_items}
use Rattle.c_ast.specs.Sizes.{depth_switch_item, depth_switch_items}
use Rattle.c_grammar.specs.Reading.{fronted, is_right, is_semicolon, begins_specifier, chain, at}
use Rattle.c_grammar.proofs.Follow.{pull, within}
use Rattle.c_grammar.specs.StatementReading.{is_else, expression_if_any, condition_in, Below, block_item_in, block_item_step, block_in, if_in}
use Rattle.c_grammar.specs.StatementReading.{while_in, do_in, for_start_in, for_in, label_step, labelled_in, switch_item_in, switch_item_step}
use Rattle.c_grammar.specs.StatementReading.{switch_in, jump_in, return_in, evaluate_in, block_statement_in, statement_in, below_at, statement_at}
use Rattle.c_grammar.proofs.CompleteBelow.{IsComplete}
use Rattle.c_grammar.proofs.FirstTokens.{none_after, fronted_not, begins_expression, expression_start}
use Rattle.c_grammar.proofs.BlockItemLists.{block_items_list, switch_items_list, block_items_again, switch_items_again}
use Rattle.c_grammar.proofs.Longer.{longer_labels, longer_block_items, longer_switch_items}
use Rattle.c_grammar.proofs.DeclarationComplete.{declaration_read}
use Rattle.c_grammar.proofs.StatementBeginnings.{is_label, statement_start, plain, label_stops, labelled_start, declaration_start, block_item_start}
use Rattle.c_grammar.proofs.StatementBeginnings.{switch_item_start}

not_semicolon : (kind : TokenKind) → begins_expression kind ≡ true → is_semicolon kind ≡ false
not_semicolon (K.Punctuator M.Semicolon) h = cc
not_semicolon kind h = refl

not_right : (kind : TokenKind) → begins_expression kind ≡ true → is_right kind ≡ false
not_right (K.Punctuator M.Close) h = cc
not_right kind h = refl

positive : (a : Trees.Statement) → 0 < depth_statement a
positive (Trees.block left items right) = omega arith
positive a = omega arith

module _ (types : List (List ℕ)) (c : IsComplete types) where
  -- the readers of the parts of a statement of depth at most k + 1
  abbrev inside : ℕ → Below
  inside k = below_at types k (statement_at types k)

  -- an else after it is not its own
  abbrev Follows : Trees.Statement → List Lexeme → Type 0
  Follows a rest = is_open a ≡ true → fronted is_else rest ≡ false

  abbrev ReadsBelow : Trees.Statement → Type 0
  ReadsBelow a = (k : ℕ) (rest : List Lexeme) → depth_statement a ≤ suc k → Follows a rest → statement_in k (inside k) (spelled_statement a rest)
      ≡ Some (a, depth_statement a, rest)

  abbrev Reads : Trees.Statement → Type 0
  Reads a = (k : ℕ) (rest : List Lexeme) → depth_statement a ≤ k → Follows a rest → statement_at types k (spelled_statement a rest)
      ≡ Some (a, depth_statement a, rest)

  of_depth : (a : Trees.Statement) → 0 < depth_statement a → ReadsBelow a → Reads a
  of_depth a z r zero rest h f = absurd (omega arith)
  of_depth a z r (suc k) rest h f = r k rest h f

  -- ---- expressions

  if_any_read : (p : TokenKind → Bool) → ((kind : TokenKind) → begins_expression kind ≡ true → p kind ≡ false) → (a : Option Trees.Expression)
      → IsExpressionIfAny types a → (k : ℕ) (rest : List Lexeme) → fronted p rest ≡ true → pull rest ≡ 0 → depth_if_any a ≤ k
      → expression_if_any p ((at types k).expression) (spelled_if_any a rest) ≡ Some (a, depth_if_any a, rest)
  unfolding expression_if_any
  if_any_read p n None w k rest f z h = rw f refl
  if_any_read p n (Some a) w k rest f z h = rw (
    fronted_not begins_expression p n (spelled a rest) (expression_start types a w rest).begins,
    c.expression_read a k rest w h z,
  ) refl

  condition_read : (a : Trees.Expression) → IsExpression types a → (k left right : ℕ) (rest : List Lexeme) → depth a ≤ k
      → condition_in ((at types k).expression) (punctuator M.Open left ∷ spelled a (punctuator M.Close right ∷ rest)) ≡ Some ((left, a, right), depth a, rest)
  unfolding condition_in
  condition_read a w k left right rest h = rw (c.expression_read a k (punctuator M.Close right ∷ rest) w h refl) refl

  expression_no_specifier : (a : Option Trees.Expression) → IsExpressionIfAny types a → (semicolon : ℕ) (rest : List Lexeme)
      → begins_specifier types (spelled_if_any a (punctuator M.Semicolon semicolon ∷ rest)) ≡ false
  expression_no_specifier None w semicolon rest = refl
  expression_no_specifier (Some a) w semicolon rest = (expression_start types a w (punctuator M.Semicolon semicolon ∷ rest)).no_specifier

  -- ---- blocks

  abbrev BlockItemReads : Trees.BlockItem → Type 0
  BlockItemReads (Trees.local d) = Unit {0}
  BlockItemReads (Trees.statement a) = Reads a

  abbrev AllRead : Trees.BlockItems → Type 0
  AllRead Trees.no_block_items = Unit {0}
  AllRead (Trees.and_block_item e more) = BlockItemReads e × AllRead more

  block_item_read : (e : Trees.BlockItem) → IsBlockItem types e → BlockItemReads e → (k : ℕ) (rest : List Lexeme) → depth_block_item e ≤ k
      → fronted is_else rest ≡ false → block_item_in (inside k) (spelled_block_item e rest) ≡ Some (e, depth_block_item e, rest)
  unfolding block_item_in
  block_item_read (Trees.local d) w r k rest h f = rw (declaration_start types d w rest, declaration_read types c false d w (λ e. cc) k rest h) refl
  block_item_read (Trees.statement a) w r k rest h f = rw ((statement_start types a w rest).no_specifier, r k rest h (λ e. f)) refl

  block_items_no_else : (all : Trees.BlockItems) → AreBlockItems types all → (right : ℕ) (rest : List Lexeme)
      → fronted is_else (spelled_block_items all (punctuator M.CloseBrace right ∷ rest)) ≡ false
  block_items_no_else Trees.no_block_items w right rest = refl
  block_items_no_else (Trees.and_block_item e more) w right rest =
      (block_item_start types e w.0 (spelled_block_items more (punctuator M.CloseBrace right ∷ rest))).not_else

  block_items_read : (all : Trees.BlockItems) → AreBlockItems types all → AllRead all
      → (k s : ℕ) (done : List Trees.BlockItem) (d right : ℕ) (rest : List Lexeme) → depth_block_items all ≤ k → length (block_items_list all) ≤ s
      → chain (block_item_step (inside k)) (suc s) done d (spelled_block_items all (punctuator M.CloseBrace right ∷ rest))
      ≡ Some (done ++ block_items_list all, max d (depth_block_items all), punctuator M.CloseBrace right ∷ rest)
  unfolding chain block_item_step
  block_items_read Trees.no_block_items w r k s done d right rest h i = let e : max d 0 ≡ d = omega arith in rw (append-nil done, e) refl
  block_items_read (Trees.and_block_item e more) w r k zero done d right rest h i = absurd (omega arith)
  block_items_read (Trees.and_block_item e more) w r k (suc s) done d right rest h i =
      let tail = spelled_block_items more (punctuator M.CloseBrace right ∷ rest) in
      let m : max (max d (depth_block_item e)) (depth_block_items more) ≡ max d (max (depth_block_item e) (depth_block_items more)) = omega arith in
      rw ((block_item_start types e w.0 tail).not_end, block_item_read e w.0 r.0 k tail (omega arith) (block_items_no_else more w.1 right rest))
      (block_items_read more w.1 r.1 k s (done ++ e ∷ []) (max d (depth_block_item e)) right rest (omega arith) (omega arith)
      ∙ rw (append_assoc done (e ∷ []) (block_items_list more), m) refl)

  body_read : (all : Trees.BlockItems) → AreBlockItems types all → AllRead all → (k right : ℕ) (rest : List Lexeme) → depth_block_items all ≤ k
      → block_in (inside k) (spelled_block_items all (punctuator M.CloseBrace right ∷ rest)) ≡ Some ((all, right), depth_block_items all, rest)
  unfolding block_in
  body_read all w r k right rest h =
      let tokens = spelled_block_items all (punctuator M.CloseBrace right ∷ rest) in
      let z : max 0 (depth_block_items all) ≡ depth_block_items all = omega arith in
      rw (
        add-one (length tokens),
        block_items_read all w r k (length tokens) [] 0 right rest h
            (omega (arith, longer_block_items all (punctuator M.CloseBrace right ∷ rest))),
        block_items_again all,
        z,
      ) refl

  -- ---- the body of a switch

  labels_read : (all : List Trees.Label) → AreLabels types all → (k s : ℕ) (done : List Trees.Label) (d : ℕ) (rest : List Lexeme)
      → depth_labels all ≤ k → length all ≤ s → fronted is_label rest ≡ false
      → chain (label_step (inside k)) (suc s) done d (spelled_labels all rest) ≡ Some (done ++ all, max d (depth_labels all), rest)
  unfolding chain label_step
  labels_read [] w k s done d rest h i n = let e : max d 0 ≡ d = omega arith in rw (label_stops (inside k) done d rest n, append-nil done, e) refl
  labels_read (Trees.case place a colon ∷ more) w k zero done d rest h i n = absurd (omega arith)
  labels_read (Trees.default place colon ∷ more) w k zero done d rest h i n = absurd (omega arith)
  labels_read (Trees.case place a colon ∷ more) w k (suc s) done d rest h i n =
      let m : max (max d (depth a)) (depth_labels more) ≡ max d (max (depth a) (depth_labels more)) = omega arith in
      rw (c.conditional_read a k (punctuator M.Colon colon ∷ spelled_labels more rest) w.1 w.0 (omega arith) (omega arith))
      (labels_read more w.2 k s (done ++ Trees.case place a colon ∷ []) (max d (depth a)) rest (omega arith) (omega arith) n
      ∙ rw (append_assoc done (Trees.case place a colon ∷ []) more, m) refl)
  labels_read (Trees.default place colon ∷ more) w k (suc s) done d rest h i n =
      labels_read more w k s (done ++ Trees.default place colon ∷ []) d rest (omega arith) (omega arith) n
      ∙ rw (append_assoc done (Trees.default place colon ∷ []) more) refl

  abbrev SwitchItemReads : Trees.SwitchItem → Type 0
  SwitchItemReads (Trees.local_switch_item d) = Unit {0}
  SwitchItemReads (Trees.labelled labels a) = Reads a

  abbrev AllSwitchItemsRead : Trees.SwitchItems → Type 0
  AllSwitchItemsRead Trees.no_switch_items = Unit {0}
  AllSwitchItemsRead (Trees.and_switch_item switch_item more) = SwitchItemReads switch_item × AllSwitchItemsRead more

  labelled_read : (labels : List Trees.Label) (a : Trees.Statement) → AreLabels types labels → IsStatement types a → Reads a
      → (k : ℕ) (rest : List Lexeme) → max (depth_labels labels) (depth_statement a) ≤ k → fronted is_else rest ≡ false
      → labelled_in (inside k) (spelled_labels labels (spelled_statement a rest))
      ≡ Some (Trees.labelled labels a, max (depth_labels labels) (depth_statement a), rest)
  unfolding labelled_in
  labelled_read labels a v w r k rest h f =
      let tail = spelled_statement a rest in
      let tokens = spelled_labels labels tail in
      let z : max 0 (depth_labels labels) ≡ depth_labels labels = omega arith in
      rw (
        add-one (length tokens),
        labels_read labels v k (length tokens) [] 0 tail (omega arith) (omega (arith, longer_labels labels tail))
            (statement_start types a w rest).not_label,
        r k rest (omega arith) (λ e. f),
        z,
      ) refl

  switch_item_read : (switch_item : Trees.SwitchItem) → IsSwitchItem types switch_item → SwitchItemReads switch_item → (k : ℕ) (rest : List Lexeme)
      → depth_switch_item switch_item ≤ k → fronted is_else rest ≡ false → switch_item_in (inside k) (spelled_switch_item switch_item rest)
      ≡ Some (switch_item, depth_switch_item switch_item, rest)
  unfolding switch_item_in
  switch_item_read (Trees.local_switch_item d) w r k rest h f =
      rw (declaration_start types d w.1 rest, declaration_read types c true d w.1 (λ e. w.0) k rest h) refl
  switch_item_read (Trees.labelled labels a) w r k rest h f = rw (labelled_start types labels a w.1 rest) (labelled_read labels a w.0 w.1 r k rest h f)

  switch_items_no_else : (all : Trees.SwitchItems) → AreSwitchItems types all → (right : ℕ) (rest : List Lexeme)
      → fronted is_else (spelled_switch_items all (punctuator M.CloseBrace right ∷ rest)) ≡ false
  switch_items_no_else Trees.no_switch_items w right rest = refl
  switch_items_no_else (Trees.and_switch_item switch_item more) w right rest =
      (switch_item_start types switch_item w.0 (spelled_switch_items more (punctuator M.CloseBrace right ∷ rest))).not_else

  switch_items_read : (all : Trees.SwitchItems) → AreSwitchItems types all → AllSwitchItemsRead all
      → (k s : ℕ) (done : List Trees.SwitchItem) (d right : ℕ) (rest : List Lexeme) → depth_switch_items all ≤ k → length (switch_items_list all) ≤ s
      → chain (switch_item_step (inside k)) (suc s) done d (spelled_switch_items all (punctuator M.CloseBrace right ∷ rest))
      ≡ Some (done ++ switch_items_list all, max d (depth_switch_items all), punctuator M.CloseBrace right ∷ rest)
  unfolding chain switch_item_step
  switch_items_read Trees.no_switch_items w r k s done d right rest h i = let e : max d 0 ≡ d = omega arith in rw (append-nil done, e) refl
  switch_items_read (Trees.and_switch_item switch_item more) w r k zero done d right rest h i = absurd (omega arith)
  switch_items_read (Trees.and_switch_item switch_item more) w r k (suc s) done d right rest h i =
      let tail = spelled_switch_items more (punctuator M.CloseBrace right ∷ rest) in
      let m : max (max d (depth_switch_item switch_item)) (depth_switch_items more)
      ≡ max d (max (depth_switch_item switch_item) (depth_switch_items more)) = omega arith in
      rw (
        (switch_item_start types switch_item w.0 tail).not_end,
        switch_item_read switch_item w.0 r.0 k tail (omega arith) (switch_items_no_else more w.1 right rest),
      )
      (switch_items_read more w.1 r.1 k s (done ++ switch_item ∷ []) (max d (depth_switch_item switch_item)) right rest (omega arith) (omega arith)
      ∙ rw (append_assoc done (switch_item ∷ []) (switch_items_list more), m) refl)

  -- ---- one production each

  block_reads : (left : ℕ) (items : Trees.BlockItems) (right : ℕ) → AreBlockItems types items → AllRead items → ReadsBelow (Trees.block left items right)
  unfolding statement_in block_statement_in
  block_reads left items right w r k rest h f = rw (body_read items w r k right rest (omega arith), within (depth_block_items items) k (omega arith)) refl

  evaluate_in_read : (a : Option Trees.Expression) (semicolon : ℕ) → IsExpressionIfAny types a → (k : ℕ) (rest : List Lexeme) → depth_if_any a ≤ k
      → evaluate_in k (inside k) (spelled_statement (Trees.evaluate a semicolon) rest) ≡ Some (Trees.evaluate a semicolon, depth_if_any a + 1, rest)
  unfolding evaluate_in
  evaluate_in_read a semicolon w k rest h = rw (
    if_any_read is_semicolon not_semicolon a w k (punctuator M.Semicolon semicolon ∷ rest) refl refl h,
    within (depth_if_any a) k h,
  ) refl

  evaluate_reads : (a : Option Trees.Expression) (semicolon : ℕ) → IsExpressionIfAny types a → ReadsBelow (Trees.evaluate a semicolon)
  unfolding statement_in
  evaluate_reads None semicolon w k rest h f = evaluate_in_read None semicolon w k rest (omega arith)
  evaluate_reads (Some a) semicolon w k rest h f =
      plain k (inside k) (spelled a (punctuator M.Semicolon semicolon ∷ rest))
      (expression_start types a w (punctuator M.Semicolon semicolon ∷ rest)).begins ∙ evaluate_in_read (Some a) semicolon w k rest (omega arith)

  when_reads : (place left : ℕ) (a : Trees.Expression) (right : ℕ) (one : Trees.Statement) → IsExpression types a → Reads one
      → ReadsBelow (Trees.when place left a right one)
  unfolding statement_in if_in
  when_reads place left a right one w r k rest h f =
      rw (
        condition_read a w k left right (spelled_statement one rest) (omega arith),
        r k rest (omega arith) (λ e. f refl),
        none_after is_else rest (f refl),
        within (max (depth a) (depth_statement one)) k (omega arith),
      ) refl

  choose_reads : (place left : ℕ) (a : Trees.Expression) (right : ℕ) (one : Trees.Statement) (otherwise : ℕ) (other : Trees.Statement) → is_open one
      ≡ false → IsExpression types a → Reads one → Reads other → ReadsBelow (Trees.choose place left a right one otherwise other)
  unfolding statement_in if_in
  choose_reads place left a right one otherwise other o w r q k rest h f =
      let tail = keyword W.Else otherwise ∷ spelled_statement other rest in
      rw (
        condition_read a w k left right (spelled_statement one tail) (omega arith),
        r k tail (omega arith) (λ e. cc),
        q k rest (omega arith) f,
        within (max (max (depth a) (depth_statement one)) (depth_statement other)) k (omega arith),
      ) refl

  while_reads : (place left : ℕ) (a : Trees.Expression) (right : ℕ) (body : Trees.Statement) → IsExpression types a → Reads body
      → ReadsBelow (Trees.while place left a right body)
  unfolding statement_in while_in
  while_reads place left a right body w r k rest h f =
      rw (
        condition_read a w k left right (spelled_statement body rest) (omega arith),
        r k rest (omega arith) f,
        within (max (depth a) (depth_statement body)) k (omega arith),
      ) refl

  do_reads : (place : ℕ) (body : Trees.Statement) (while left : ℕ) (a : Trees.Expression) (right semicolon : ℕ) → Reads body → IsExpression types a
      → ReadsBelow (Trees.do_while place body while left a right semicolon)
  unfolding statement_in do_in
  do_reads place body while left a right semicolon r w k rest h f =
      let end = punctuator M.Semicolon semicolon ∷ rest in
      rw (
        r k (keyword W.While while ∷ punctuator M.Open left ∷ spelled a (punctuator M.Close right ∷ end)) (omega arith) (λ e. refl),
        condition_read a w k left right end (omega arith),
        within (max (depth_statement body) (depth a)) k (omega arith),
      ) refl

  for_start_read : (start : Trees.ForStart) → IsForStart types start → (k : ℕ) (rest : List Lexeme) → depth_for_start start ≤ k
      → for_start_in (inside k) (spelled_for_start start rest) ≡ Some (start, depth_for_start start, rest)
  unfolding for_start_in
  for_start_read (Trees.declares d) w k rest h = rw (declaration_start types d w.1 rest, declaration_read types c true d w.1 (λ e. w.0) k rest h) refl
  for_start_read (Trees.starts_with a semicolon) w k rest h =
      let tail = punctuator M.Semicolon semicolon ∷ rest in
      rw (expression_no_specifier a w semicolon rest, if_any_read is_semicolon not_semicolon a w k tail refl refl h) refl

  for_reads : (place left : ℕ) (start : Trees.ForStart) (test : Option Trees.Expression) (semicolon : ℕ) (step : Option Trees.Expression) (right : ℕ)
      (body : Trees.Statement) → IsForStart types start → IsExpressionIfAny types test → IsExpressionIfAny types step → Reads body
      → ReadsBelow (Trees.for place left start test semicolon step right body)
  unfolding statement_in for_in
  for_reads place left start test semicolon step right body u v w r k rest h f =
      let after_step = punctuator M.Close right ∷ spelled_statement body rest in
      let after_test = punctuator M.Semicolon semicolon ∷ spelled_if_any step after_step in
      rw (
        for_start_read start u k (spelled_if_any test after_test) (omega arith),
        if_any_read is_semicolon not_semicolon test v k after_test refl refl (omega arith),
        if_any_read is_right not_right step w k after_step refl refl (omega arith),
        r k rest (omega arith) f,
        within (max (max (max (depth_for_start start) (depth_if_any test)) (depth_if_any step)) (depth_statement body)) k (omega arith),
      ) refl

  switch_reads : (place left : ℕ) (a : Trees.Expression) (right begin : ℕ) (switch_items : Trees.SwitchItems) (end : ℕ) → IsExpression types a
      → AreSwitchItems types switch_items → AllSwitchItemsRead switch_items → ReadsBelow (Trees.switch place left a right begin switch_items end)
  unfolding statement_in switch_in
  switch_reads place left a right begin switch_items end w v r k rest h f =
      let tail = punctuator M.CloseBrace end ∷ rest in
      let tokens = spelled_switch_items switch_items tail in
      let z : max 0 (depth_switch_items switch_items) ≡ depth_switch_items switch_items = omega arith in
      rw (
        condition_read a w k left right (punctuator M.OpenBrace begin ∷ tokens) (omega arith),
        add-one (length tokens),
        switch_items_read switch_items v r k (length tokens) [] 0 end rest (omega arith) (omega (arith, longer_switch_items switch_items tail)),
        z,
        within (max (depth a) (depth_switch_items switch_items)) k (omega arith),
        switch_items_again switch_items,
      ) refl

  return_reads : (place : ℕ) (a : Option Trees.Expression) (semicolon : ℕ) → IsExpressionIfAny types a → ReadsBelow (Trees.return place a semicolon)
  unfolding statement_in return_in
  return_reads place a semicolon w k rest h f = rw (
    if_any_read is_semicolon not_semicolon a w k (punctuator M.Semicolon semicolon ∷ rest) refl refl
        (omega arith),
    within (depth_if_any a) k (omega arith),
  ) refl

  break_reads : (place semicolon : ℕ) → ReadsBelow (Trees.break place semicolon)
  unfolding statement_in jump_in
  break_reads place semicolon k rest h f = refl

  continue_reads : (place semicolon : ℕ) → ReadsBelow (Trees.continue place semicolon)
  unfolding statement_in jump_in
  continue_reads place semicolon k rest h f = refl

  -- ---- all of them

  mutual
    statement_reads : (a : Trees.Statement) → IsStatement types a → ReadsBelow a
    statement_reads (Trees.block left items right) w = block_reads left items right w (block_items_all items w)
    statement_reads (Trees.evaluate a semicolon) w = evaluate_reads a semicolon w
    statement_reads (Trees.when place left a right one) w = when_reads place left a right one w.0 (of_depth one (positive one) (statement_reads one w.1))
    statement_reads (Trees.choose place left a right one otherwise other) w =
        choose_reads place left a right one otherwise other w.0 w.1 (of_depth one (positive one) (statement_reads one w.2))
        (of_depth other (positive other) (statement_reads other w.3))
    statement_reads (Trees.while place left a right body) w = while_reads place left a right body w.0 (of_depth body (positive body) (statement_reads body w.1))
    statement_reads (Trees.do_while place body while left a right semicolon) w =
        do_reads place body while left a right semicolon (of_depth body (positive body) (statement_reads body w.0)) w.1
    statement_reads (Trees.for place left start test semicolon step right body) w =
        for_reads place left start test semicolon step right body w.0 w.1 w.2 (of_depth body (positive body) (statement_reads body w.3))
    statement_reads (Trees.switch place left a right begin switch_items end) w =
        switch_reads place left a right begin switch_items end w.0 w.1 (switch_items_all switch_items w.1)
    statement_reads (Trees.break place semicolon) w = break_reads place semicolon
    statement_reads (Trees.continue place semicolon) w = continue_reads place semicolon
    statement_reads (Trees.return place a semicolon) w = return_reads place a semicolon w

    block_item_reads : (e : Trees.BlockItem) → IsBlockItem types e → BlockItemReads e
    block_item_reads (Trees.local d) w = tt
    block_item_reads (Trees.statement a) w = of_depth a (positive a) (statement_reads a w)

    block_items_all : (all : Trees.BlockItems) → AreBlockItems types all → AllRead all
    block_items_all Trees.no_block_items w = tt
    block_items_all (Trees.and_block_item e more) w = (block_item_reads e w.0, block_items_all more w.1)

    switch_item_reads : (switch_item : Trees.SwitchItem) → IsSwitchItem types switch_item → SwitchItemReads switch_item
    switch_item_reads (Trees.local_switch_item d) w = tt
    switch_item_reads (Trees.labelled labels a) w = of_depth a (positive a) (statement_reads a w.1)

    switch_items_all : (all : Trees.SwitchItems) → AreSwitchItems types all → AllSwitchItemsRead all
    switch_items_all Trees.no_switch_items w = tt
    switch_items_all (Trees.and_switch_item switch_item more) w = (switch_item_reads switch_item w.0, switch_items_all more w.1)

  pub statement_read : (a : Trees.Statement) → IsStatement types a → (k : ℕ) (rest : List Lexeme) → depth_statement a ≤ k
      → (is_open a ≡ true → fronted is_else rest ≡ false) → statement_at types k (spelled_statement a rest) ≡ Some (a, depth_statement a, rest)
  statement_read a w = of_depth a (positive a) (statement_reads a w)

  pub block_read : (all : Trees.BlockItems) → AreBlockItems types all → (k right : ℕ) (rest : List Lexeme) → depth_block_items all ≤ k
      → block_in (below_at types k (statement_at types k)) (spelled_block_items all (punctuator M.CloseBrace right ∷ rest))
      ≡ Some ((all, right), depth_block_items all, rest)
  block_read all w = body_read all w (block_items_all all w)
