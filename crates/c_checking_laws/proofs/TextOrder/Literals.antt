-- The literals of expressions and initializers stand at their tokens, in their order; so does the beginning of a declarator.
use Rattle.std.proofs.Common.{◌≡◌, ℕ, List, [], ◌∷◌, Bool, true, false, refl}
use Rattle.c_ast.specs.Trees
use Rattle.c_ast.specs.Places.{first_declarator}
use Rattle.c_ast.specs.Spelling.{Lexeme, spelled, spelled_arguments, spelled_declarator}
use Rattle.c_ast.specs.WellFormed.{IsExpression, AreArguments, IsInitializer, AreInitializers, IsDeclarator, has_name}
use Rattle.c_erasure.specs.Literals.{literals, literals_of_all}
use Rattle.c_erasure.proofs.MarkPlaces.Walks.{comma_along, texts_along, consts_along}
use Rattle.c_erasure.proofs.MarkPlaces.MarksOfParts.{along, type_name_along, declarator_along, optional_along, parameter_list_along}
use Rattle.c_checking_laws.proofs.TextOrder.Rising.{Rise, none, skip, here, both, before, after, unmarked}

-- `u` gives the tags of structures without one
module _ (u : ℕ → List ℕ) (types : List (List ℕ)) where
  mutual
    pub literals_rise : (t : Trees.Expression) → IsExpression types t → {rest : List Lexeme} → Rise (literals t) (spelled t rest) rest
    literals_rise (Trees.name x) w = skip none
    literals_rise (Trees.number x n kind) w = skip none
    literals_rise (Trees.character x n) w = skip none
    literals_rise (Trees.texts []) w = absurd (w refl)
    literals_rise (Trees.texts (x ∷ more)) w = here (unmarked (texts_along more))
    literals_rise (Trees.paren left a right) w = skip (before (literals_rise a w) (skip none))
    literals_rise (Trees.index a left b right) w = both (literals_rise a w.1) (skip (before (literals_rise b w.2) (skip none)))
    literals_rise (Trees.call f left all right) w = both (literals_rise f w.1) (skip (before (arguments_rise true all w.2) (skip none)))
    literals_rise (Trees.dot a at x) w = before (literals_rise a w.1) (skip (skip none))
    literals_rise (Trees.arrow a at x) w = before (literals_rise a w.1) (skip (skip none))
    literals_rise (Trees.post a op at) w = before (literals_rise a w.1) (skip none)
    literals_rise (Trees.pre op at a) w = skip (literals_rise a w.1)
    literals_rise (Trees.unary op at a) w = skip (literals_rise a w.1)
    literals_rise (Trees.sizeof_expression at a) w = skip (unmarked (along u types a w.1))
    literals_rise (Trees.sizeof_type at left t right) w = skip (skip (after (unmarked (type_name_along u types t w)) (skip none)))
    literals_rise (Trees.cast left t right a) w = skip (after (unmarked (type_name_along u types t w.1)) (skip (literals_rise a w.2)))
    literals_rise (Trees.binary a op at b) w = both (literals_rise a w.2) (skip (literals_rise b w.3))
    literals_rise (Trees.cond a question b colon c) w =
        both (both (literals_rise a w.2) (skip (literals_rise b w.3))) (skip (literals_rise c w.4))
    literals_rise (Trees.assign a op at b) w = both (literals_rise a w.2) (skip (literals_rise b w.3))
    literals_rise (Trees.comma a at b) w = both (literals_rise a w.1) (skip (literals_rise b w.2))
    literals_rise (Trees.braces left all comma right) w = absurd w

    arguments_rise : (first : Bool) (t : Trees.Arguments) → AreArguments types first t → {rest : List Lexeme}
        → Rise (literals_of_all t) (spelled_arguments t rest) rest
    arguments_rise first Trees.no_arguments w = none
    arguments_rise first (Trees.and_argument comma a more) w =
        after (unmarked (comma_along comma)) (both (literals_rise a w.2) (arguments_rise false more w.3))

  mutual
    pub initializer_rises : (t : Trees.Expression) → IsInitializer types t → {rest : List Lexeme} → Rise (literals t) (spelled t rest) rest
    initializer_rises (Trees.braces left all comma right) w =
        skip (before (initializers_rise true all w.1) (after (unmarked (comma_along comma)) (skip none)))
    initializer_rises (Trees.name x) w = literals_rise (Trees.name x) w.1
    initializer_rises (Trees.number x n kind) w = literals_rise (Trees.number x n kind) w.1
    initializer_rises (Trees.character x n) w = literals_rise (Trees.character x n) w.1
    initializer_rises (Trees.texts all) w = literals_rise (Trees.texts all) w.1
    initializer_rises (Trees.paren left a right) w = literals_rise (Trees.paren left a right) w.1
    initializer_rises (Trees.index a left b right) w = literals_rise (Trees.index a left b right) w.1
    initializer_rises (Trees.call f left all right) w = literals_rise (Trees.call f left all right) w.1
    initializer_rises (Trees.dot a at x) w = literals_rise (Trees.dot a at x) w.1
    initializer_rises (Trees.arrow a at x) w = literals_rise (Trees.arrow a at x) w.1
    initializer_rises (Trees.post a op at) w = literals_rise (Trees.post a op at) w.1
    initializer_rises (Trees.pre op at a) w = literals_rise (Trees.pre op at a) w.1
    initializer_rises (Trees.unary op at a) w = literals_rise (Trees.unary op at a) w.1
    initializer_rises (Trees.sizeof_expression at a) w = literals_rise (Trees.sizeof_expression at a) w.1
    initializer_rises (Trees.sizeof_type at left t right) w = literals_rise (Trees.sizeof_type at left t right) w.1
    initializer_rises (Trees.cast left t right a) w = literals_rise (Trees.cast left t right a) w.1
    initializer_rises (Trees.binary a op at b) w = literals_rise (Trees.binary a op at b) w.1
    initializer_rises (Trees.cond a question b colon c) w = literals_rise (Trees.cond a question b colon c) w.1
    initializer_rises (Trees.assign a op at b) w = literals_rise (Trees.assign a op at b) w.1
    initializer_rises (Trees.comma a at b) w = literals_rise (Trees.comma a at b) w.1

    initializers_rise : (first : Bool) (t : Trees.Arguments) → AreInitializers types first t → {rest : List Lexeme}
        → Rise (literals_of_all t) (spelled_arguments t rest) rest
    initializers_rise first Trees.no_arguments w = none
    initializers_rise first (Trees.and_argument comma a more) w =
        after (unmarked (comma_along comma)) (both (initializer_rises a w.1) (initializers_rise false more w.2))

  -- a declarator with a name begins at a token of its own
  pub declarator_begins : (t : Trees.Declarator) → IsDeclarator types t → has_name t ≡ true → (after_it : ℕ) → {rest : List Lexeme}
      → Rise (first_declarator t after_it ∷ []) (spelled_declarator t rest) rest
  declarator_begins Trees.nothing w n at = cc
  declarator_begins (Trees.named x) w n at = here none
  declarator_begins (Trees.pointer star consts d) w n at =
      here (after (unmarked (consts_along consts)) (unmarked (declarator_along u types d w)))
  declarator_begins (Trees.enclosed left d right) w n at = here (after (unmarked (declarator_along u types d w.1)) (skip none))
  declarator_begins (Trees.array d left bound right) w n at =
      before (declarator_begins d w.1 n left) (skip (after (unmarked (optional_along u types bound w.2)) (skip none)))
  declarator_begins (Trees.function d left all right) w n at =
      before (declarator_begins d w.1 n left) (skip (after (unmarked (parameter_list_along u types all w.2)) (skip none)))
