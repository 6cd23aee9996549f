-- The recursion over statements.
use Rattle.std.proofs.Common.{ℕ, ◌||◌, Bool, true, List, [], Some, None}
use Rattle.lay_base.specs.declared.faults.Rule.TheVariants as R
use Rattle.c_types.specs.declared.ty.IntKind.{IntKind}
use Rattle.c_types.specs.Types.{CType}
use Rattle.c_ast.specs.Trees
use Rattle.c_ast.specs.Places.{first}
use Rattle.c_ast.specs.Spelling.{Lexeme, spelled_statement, spelled_block_item, spelled_block_items, spelled_switch_item, spelled_switch_items}
use Rattle.c_typed.specs.Trees as Typed
use Rattle.c_typed.specs.Fits.{is_void}
use Rattle.c_erasure.specs.BrokenStatements.{Labels, no_labels}
use Rattle.c_erasure.specs.Scopes.{Scope, inside}
use Rattle.c_erasure.specs.Checking.Statements as C
use Rattle.c_checking_units.proofs.FaultPlaces.Given.{IsIn, found, refuses, then, chosen, is_inside}
use Rattle.c_checking_units.proofs.FaultPlaces.Tokens.{Tokens, front, back, expression_behind}
use Rattle.c_checking_units.proofs.FaultPlaces.Firsts.{begins}
use Rattle.c_checking_units.proofs.FaultPlaces.Blocks.{if_any_behind, labels_behind, start_behind, statement_behind, block_item_behind, switch_item_behind}
use Rattle.c_checking_units.proofs.FaultPlaces.Statements.{Performs, scoped, left_block, declaration_found, value_performed, value_if_any_performed, kept}
use Rattle.c_checking_units.proofs.FaultPlaces.Statements.{condition_performed, condition_if_any_performed, start_performed, labels_found}
use Rattle.c_checking_units.proofs.FaultPlaces.Statements.{switched_stops, jump_stops, returned_stops}

module _ (number : ℕ) (P : ℕ → Type 0) (begin : P 0) (result : CType) where
  abbrev Performed : {A : Type 0} → C.Performed A → Type 0
  Performed r = Performs number P begin r

  mutual
    unfolding C.performed C.item_in C.items_in C.switch_items C.switch_item

    statement_performed : (t : Trees.Statement) (s : Scope) (loop switch : Bool) (rest : List Lexeme) → IsIn number P s
        → Tokens P (spelled_statement t rest) → Performed (C.performed result t s loop switch)
    statement_performed (Trees.block left items right) s loop switch rest k h =
        then (C.items_in result items (inside s) loop switch) _ (items_performed items (inside s) loop switch _ (is_inside k) (back h))
        (λ b j. found _ (left_block number P begin s b.1 k j))
    statement_performed (Trees.evaluate None semicolon) s loop switch rest k h = found _ k
    statement_performed (Trees.evaluate (Some a) semicolon) s loop switch rest k h =
        then (C.value_of_expression a s) _ (value_performed number P begin a s _ k h) (λ x j. found _ j)
    statement_performed (Trees.when at left a right one) s loop switch rest k h =
        let own = back (back h) in
        then (C.condition a s) _ (condition_performed number P begin a s _ k own)
        (λ x j. then (C.performed result one x.1 loop switch) _
        (statement_performed one x.1 loop switch rest j (back (expression_behind P (λ at. []) a own).tokens)) (λ b i. found _ i))
    statement_performed (Trees.choose at left a right one middle other) s loop switch rest k h =
        let own = back (back h) in
        let first = back (expression_behind P (λ at. []) a own).tokens in
        then (C.condition a s) _ (condition_performed number P begin a s _ k own)
        (λ x j. then (C.performed result one x.1 loop switch) _ (statement_performed one x.1 loop switch _ j first)
        (λ b i. then (C.performed result other b.1 loop switch) _
        (statement_performed other b.1 loop switch rest i (back (statement_behind P (λ at. []) one first))) (λ c l. found _ l)))
    statement_performed (Trees.while at left a right body) s loop switch rest k h =
        let own = back (back h) in
        then (C.condition a s) _ (condition_performed number P begin a s _ k own)
        (λ x j. then (C.performed result body x.1 true switch) _
        (statement_performed body x.1 true switch rest j (back (expression_behind P (λ at. []) a own).tokens)) (λ b i. found _ i))
    statement_performed (Trees.do_while at body while left a right semicolon) s loop switch rest k h =
        then (C.performed result body s true switch) _ (statement_performed body s true switch _ k (back h))
        (λ b j. then (C.condition a b.1) _
        (condition_performed number P begin a b.1 _ j (back (back (statement_behind P (λ at. []) body (back h))))) (λ x i. found _ i))
    statement_performed (Trees.for at left start test semicolon step right body) s loop switch rest k h =
        let own = back (back h) in
        let second = start_behind P (λ at. []) start own in
        let third = back (if_any_behind P (λ at. []) test second) in
        then (C.start_of start (inside s)) _ (start_performed number P begin start (inside s) _ (is_inside k) own)
        (λ all i. then (C.condition_if_any test all.1) _ (condition_if_any_performed number P begin test all.1 _ i second)
        (λ t j. then (C.value_if_any step t.1) _ (value_if_any_performed number P begin step t.1 _ j third)
        (λ e l. then (C.performed result body e.1 true switch) _
        (statement_performed body e.1 true switch rest l (back (if_any_behind P (λ at. []) step third)))
        (λ b m. found _ (left_block number P begin s b.1 k m)))))
    statement_performed (Trees.switch at left a right begin_at items end) s loop switch rest k h =
        let own = back (back h) in
        then (C.value_of_expression a s) _ (value_performed number P begin a s _ k own)
        (λ x j. then (C.switched_in (first a) x.0) _ (switched_stops P (first a) x.0 (begins P begin a _ own))
        (λ y u. then (C.switch_items result items (inside x.1) loop y.1 no_labels) _
        (switch_items_performed items (inside x.1) loop y.1 no_labels _ (is_inside j) (back (back (expression_behind P (λ at. []) a own).tokens)))
        (λ b i. found _ (left_block number P begin s b.1 k i))))
    statement_performed (Trees.break at semicolon) s loop switch rest k h = kept number P begin s _ k (jump_stops P at (loop || switch) Typed.break (front h))
    statement_performed (Trees.continue at semicolon) s loop switch rest k h = kept number P begin s _ k (jump_stops P at loop Typed.continue (front h))
    statement_performed (Trees.return at None semicolon) s loop switch rest k h =
        kept number P begin s _ k (chosen (is_void result) _ _ (found _ tt) (refuses R.Return at (front h)))
    statement_performed (Trees.return at (Some a) semicolon) s loop switch rest k h =
        chosen (is_void result) _ _ (refuses R.Return at (front h))
        (then (C.value_of_expression a s) _ (value_performed number P begin a s _ k (back h))
        (λ x j. then (C.returned_in at result x.0) _ (returned_stops P at result x.0 (front h)) (λ y u. found _ j)))

    item_performed : (t : Trees.BlockItem) (s : Scope) (loop switch : Bool) (rest : List Lexeme) → IsIn number P s
        → Tokens P (spelled_block_item t rest) → Performed (C.item_in result t s loop switch)
    item_performed (Trees.local d) s loop switch rest k h = declaration_found number P begin d s rest k h
    item_performed (Trees.statement a) s loop switch rest k h =
        then (C.performed result a s loop switch) _ (statement_performed a s loop switch rest k h) (λ st j. found _ j)

    pub items_performed : (t : Trees.BlockItems) (s : Scope) (loop switch : Bool) (rest : List Lexeme) → IsIn number P s
        → Tokens P (spelled_block_items t rest) → Performed (C.items_in result t s loop switch)
    items_performed Trees.no_block_items s loop switch rest k h = found _ k
    items_performed (Trees.and_block_item e more) s loop switch rest k h =
        then (C.item_in result e s loop switch) _ (item_performed e s loop switch _ k h)
        (λ own j. then (C.items_in result more own.1 loop switch) _
        (items_performed more own.1 loop switch rest j (block_item_behind P (λ at. []) e h)) (λ rest i. found _ i))

    switch_items_performed : (t : Trees.SwitchItems) (s : Scope) (loop : Bool) (kind : IntKind) (before : Labels) (rest : List Lexeme) → IsIn number P s
        → Tokens P (spelled_switch_items t rest) → Performed (C.switch_items result t s loop kind before)
    switch_items_performed Trees.no_switch_items s loop kind before rest k h = found _ k
    switch_items_performed (Trees.and_switch_item item more) s loop kind before rest k h =
        then (C.switch_item result item s loop kind before) _ (switch_item_performed item s loop kind before _ k h)
        (λ own j. then (C.switch_items result more own.1 loop kind own.0.1.all) _
        (switch_items_performed more own.1 loop kind own.0.1.all rest j (switch_item_behind P (λ at. []) item h)) (λ rest i. found _ i))

    switch_item_performed : (t : Trees.SwitchItem) (s : Scope) (loop : Bool) (kind : IntKind) (before : Labels) (rest : List Lexeme) → IsIn number P s
        → Tokens P (spelled_switch_item t rest) → Performed (C.switch_item result t s loop kind before)
    switch_item_performed (Trees.local_switch_item d) s loop kind before rest k h =
        then (C.local_declaration d s) _ (declaration_found number P begin d s rest k h) (λ own j. found _ j)
    switch_item_performed (Trees.labelled labels a) s loop kind before rest k h =
        then (C.in_scope s (C.labels_in labels s kind before)) _
        (scoped number P begin s _ k (labels_found number P begin labels s kind before _ k h))
        (λ all j. then (C.performed result a all.1 loop true) _
        (statement_performed a all.1 loop true rest j (labels_behind P (λ at. []) labels h)) (λ st i. found _ i))
