-- The names of a file and the beginnings of their scopes stand at its tokens, in their order.
use Rattle.std.proofs.Common.{◌≡◌, ℕ, List, [], ◌∷◌, ◌++◌, Option, Some, None, Bool, true, false, refl, sym, ap, ◌∙◌, subst, append_assoc}
use Rattle.std.specs.Prelude.{unwrap_or}
use Rattle.c_tokens.specs.declared.punctuator.Punctuator.TheVariants as M
use Rattle.c_ast.specs.Trees
use Rattle.c_ast.specs.Spelling.{Lexeme, punctuator, spelled_comma, spelled_declarator, spelled_value, spelled_init_declarators, spelled_item}
use Rattle.c_ast.specs.Spelling.{spelled_items}
use Rattle.c_ast.specs.WellFormed.{IsComma, IsDeclarator, IsValue, AreInitDeclarators, IsItem, AreItems, types_after}
use Rattle.c_erasure.specs.Declarators.{declared_name}
use Rattle.c_erasure.specs.Marks.{Mark, a_tag, an_end, a_name, marks_if_any, marks_of_specifiers, marks_of_declarator, marks_of_initial}
use Rattle.c_erasure.specs.Marks.{scope_beginnings, name_from, after_declarator}
use Rattle.c_erasure.proofs.MarkPlaces.Walks.{comma_along, consts_along}
use Rattle.c_erasure.proofs.MarkPlaces.MarksOfParts.{specifiers_along, optional_along, parameter_list_along}
use Rattle.c_erasure.proofs.MarkPlaces.MarksOfFiles.{initializer_along, block_items_along}
use Rattle.c_checking_laws.specs.TextOrder.TextOrder.{place_of_name, names_of_declarators, names_of_item, names_of_file}
use Rattle.c_checking_laws.proofs.TextOrder.Rising.{Rise, none, skip, here, both, before, after, marked, unmarked}

beginnings_of_both : (a b : List Mark) → scope_beginnings (a ++ b) ≡ scope_beginnings a ++ scope_beginnings b
beginnings_of_both [] b = refl
beginnings_of_both (a_tag t ∷ a) b = beginnings_of_both a b
beginnings_of_both (an_end tag right ∷ a) b = beginnings_of_both a b
beginnings_of_both (a_name from ∷ a) b = ap (λ x. from ∷ x) (beginnings_of_both a b)

-- a name, what begins in its declarator, the byte where it is in scope, what begins in its initializer, and all that comes after
regrouped : (a : List ℕ) (m i : List Mark) (from : ℕ) (n : List ℕ)
    → (a ++ scope_beginnings m) ++ (from ∷ (scope_beginnings i ++ n)) ≡ (a ++ scope_beginnings (m ++ (a_name from ∷ i))) ++ n
regrouped [] m i from n =
    sym (ap (λ x. x ++ n) (beginnings_of_both m (a_name from ∷ i)) ∙ append_assoc (scope_beginnings m) (from ∷ scope_beginnings i) n)
regrouped (x ∷ a) m i from n = ap (λ y. x ∷ y) (regrouped a m i from n)

module _ (u : ℕ → List ℕ) (types : List (List ℕ)) where
  -- the name comes before all that begins in its declarator
  declarator_names : (t : Trees.Declarator) → IsDeclarator types t → {rest : List Lexeme}
      → Rise (place_of_name (declared_name t) ++ scope_beginnings (marks_of_declarator u t)) (spelled_declarator t rest) rest
  declarator_names Trees.nothing w = none
  declarator_names (Trees.named x) w = here none
  declarator_names (Trees.pointer at consts d) w = skip (after (unmarked (consts_along consts)) (declarator_names d w))
  declarator_names (Trees.enclosed left d right) w = skip (before (declarator_names d w.1) (skip none))
  declarator_names (Trees.array d left bound right) w {rest = rest} =
      let name = place_of_name (declared_name d) in
      let m = marks_of_declarator u d in
      let e = append_assoc name (scope_beginnings m) (scope_beginnings (marks_if_any u bound))
      ∙ ap (λ x. name ++ x) (sym (beginnings_of_both m (marks_if_any u bound))) in
      subst (λ places. Rise places (spelled_declarator (Trees.array d left bound right) rest) rest) e
      (both (declarator_names d w.1) (skip (before (marked (optional_along u types bound w.2)) (skip none))))
  declarator_names (Trees.function d left all right) w =
      before (declarator_names d w.1) (skip (after (unmarked (parameter_list_along u types all w.2)) (skip none)))

  -- the scope of a declarator begins at the comma after it
  comma_begins : (c : Option ℕ) → IsComma false c → (at : ℕ) {places : List ℕ} {tokens rest : List Lexeme} → Rise places tokens rest
      → Rise (unwrap_or c at ∷ places) (spelled_comma c tokens) rest
  comma_begins None w at p = cc
  comma_begins (Some comma) w at p = here p

  one_names : (d : Trees.Declarator) (value : Option (ℕ × Trees.Expression)) → IsDeclarator types d → IsValue types value → (from : ℕ)
      {others : List ℕ} {tokens rest : List Lexeme} → Rise others tokens rest → Rise (from ∷ others) tokens rest
      → Rise (place_of_name (declared_name d)
      ++ scope_beginnings (marks_of_declarator u d ++ (a_name (name_from value from) ∷ marks_of_initial u value)) ++ others)
      (spelled_declarator d (spelled_value value tokens)) rest
  one_names d None w v from {others = others} {tokens = tokens} {rest = rest} p q =
      subst (λ places. Rise places (spelled_declarator d tokens) rest)
      (regrouped (place_of_name (declared_name d)) (marks_of_declarator u d) [] from others)
      (both (declarator_names d w) q)
  one_names d (Some value) w v from {others = others} {tokens = tokens} {rest = rest} p q =
      subst (λ places. Rise places (spelled_declarator d (spelled_value (Some value) tokens)) rest)
      (regrouped (place_of_name (declared_name d)) (marks_of_declarator u d) (marks_of_initial u (Some value)) value.0 others)
      (both (declarator_names d w) (here (both (marked (initializer_along u types value.1 v)) p)))

  -- with the semicolon after them, where the scope of the last may begin
  mutual
    declarators_name : (first : Bool) (t : List Trees.InitDeclarator) → AreInitDeclarators types first t → (at : ℕ) → {rest : List Lexeme}
        → Rise (names_of_declarators u t at) (spelled_init_declarators t (punctuator M.Semicolon at ∷ rest)) rest
    declarators_name first [] w at = skip none
    declarators_name first (d ∷ more) w at = after (unmarked (comma_along d.comma))
        (one_names d.declarator d.value w.1 w.3 (after_declarator more at) (declarators_name false more w.4 at) (next_names more w.4 at))

    next_names : (t : List Trees.InitDeclarator) → AreInitDeclarators types false t → (at : ℕ) → {rest : List Lexeme}
        → Rise (after_declarator t at ∷ names_of_declarators u t at) (spelled_init_declarators t (punctuator M.Semicolon at ∷ rest)) rest
    next_names [] w at = here none
    next_names (d ∷ more) w at = comma_begins d.comma w.0 at
        (one_names d.declarator d.value w.1 w.3 (after_declarator more at) (declarators_name false more w.4 at) (next_names more w.4 at))

  item_names : (t : Trees.Item) → IsItem types t → {rest : List Lexeme} → Rise (names_of_item u t) (spelled_item t rest) rest
  item_names (Trees.defines specs d left items right) w {rest = rest} =
      let own = place_of_name (declared_name d) in
      let m = marks_of_declarator u d in
      let s = scope_beginnings (marks_of_specifiers u specs) in
      let last = append_assoc own (scope_beginnings m) (left ∷ []) ∙ ap (λ x. own ++ x) (sym (beginnings_of_both m (a_name left ∷ []))) in
      let e = ap (λ x. s ++ x) last ∙ sym (append_assoc s own (scope_beginnings (m ++ a_name left ∷ []))) in
      let body = here (after (unmarked (block_items_along u types items w.3)) (skip none)) in
      subst (λ places. Rise places (spelled_item (Trees.defines specs d left items right) rest) rest) e
      (both (marked (specifiers_along u types specs w.0)) (both (declarator_names d w.1) body))
  item_names (Trees.declaration d) w = both (marked (specifiers_along u types d.specs w.0)) (declarators_name true d.all w.1 d.semicolon)

pub items_name : (u : ℕ → List ℕ) (types : List (List ℕ)) (t : List Trees.Item) → AreItems types t → {rest : List Lexeme}
    → Rise (names_of_file u t) (spelled_items t rest) rest
items_name u types [] w = none
items_name u types (item ∷ items) w = both (item_names u types item w.0) (items_name u (types_after types item) items w.1)
