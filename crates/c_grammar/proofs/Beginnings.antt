-- How what is spelled begins.
use Rattle.std.proofs.Common.{◌≡◌, ◌≢◌, ℕ, ◌≤◌, List, [], ◌∷◌, Some, None, Bool, true, false, refl, arith}
use Rattle.lay_base.specs.declared.faults.Keyword.TheVariants as W
use Rattle.c_tokens.specs.declared.punctuator.Punctuator.TheVariants as M
use Rattle.c_tokens.specs.declared.token.TokenKind.{TokenKind}
use Rattle.c_tokens.specs.declared.token.TokenKind.TheVariants as K
use Rattle.c_ast.specs.declared.operators.StepOp.TheVariants as P
use Rattle.c_ast.specs.declared.operators.UnaryOp.TheVariants as U
use Rattle.c_ast.specs.declared.operators.SpecifierKeyword.{SpecifierKeyword}
use Rattle.c_ast.specs.declared.operators.SpecifierKeyword.TheVariants as S
use Rattle.c_ast.specs.Trees
use Rattle.c_ast.specs.Spelling.{Lexeme, punctuator, specifier_keyword, spelled, spelled_specifiers, spelled_specifier, spelled_declarator, spelled_parameters}
use Rattle.c_ast.specs.WellFormed.{level, is_direct, is_lone_void, IsExpression, IsDeclarator, AreSpecifiers, IsSpecifier, AreParameters}
use Rattle.c_grammar.specs.Reading.{Inner, after, fronted, is_right, is_right_square, is_left_brace, is_right_brace, is_star, is_const, is_nothing}
use Rattle.c_grammar.specs.Reading.{begins_specifier, begins_type_name, begins_void, postfix_in, unary_expression_in}
use Rattle.c_grammar.proofs.Follow.{strength_most}

module _ (types : List (List ℕ)) where
  -- ---- an expression

  pub record IsFront (tokens : List Lexeme) : Type 0 where
    pub no_specifier : begins_specifier types tokens ≡ false
    pub no_right : fronted is_right tokens ≡ false
    pub no_right_square : fronted is_right_square tokens ≡ false

  pub front : (t : Trees.Expression) → IsExpression types t → (rest : List Lexeme) → IsFront (spelled t rest)
  front (Trees.name x) w rest = record { no_specifier = w; no_right = refl; no_right_square = refl }
  front (Trees.number x n kind) w rest = record { no_specifier = refl; no_right = refl; no_right_square = refl }
  front (Trees.character x n) w rest = record { no_specifier = refl; no_right = refl; no_right_square = refl }
  front (Trees.texts []) w rest = absurd (w refl)
  front (Trees.texts (x ∷ all)) w rest = record { no_specifier = refl; no_right = refl; no_right_square = refl }
  front (Trees.paren left a right) w rest = record { no_specifier = refl; no_right = refl; no_right_square = refl }
  front (Trees.index a left b right) w rest = front a w.1 _
  front (Trees.call f left all right) w rest = front f w.1 _
  front (Trees.dot a at x) w rest = front a w.1 _
  front (Trees.arrow a at x) w rest = front a w.1 _
  front (Trees.post a op at) w rest = front a w.1 _
  front (Trees.pre P.Increment at a) w rest = record { no_specifier = refl; no_right = refl; no_right_square = refl }
  front (Trees.pre op at a) w rest = record { no_specifier = refl; no_right = refl; no_right_square = refl }
  front (Trees.unary U.Address at a) w rest = record { no_specifier = refl; no_right = refl; no_right_square = refl }
  front (Trees.unary op at a) w rest = record { no_specifier = refl; no_right = refl; no_right_square = refl }
  front (Trees.sizeof_expression at a) w rest = record { no_specifier = refl; no_right = refl; no_right_square = refl }
  front (Trees.sizeof_type at left t right) w rest = record { no_specifier = refl; no_right = refl; no_right_square = refl }
  front (Trees.cast left t right a) w rest = record { no_specifier = refl; no_right = refl; no_right_square = refl }
  front (Trees.binary a op at b) w rest = front a w.2 _
  front (Trees.cond a question b colon c) w rest = front a w.2 _
  front (Trees.assign a op at b) w rest = front a w.2 _
  front (Trees.comma a at b) w rest = front a w.1 _
  front (Trees.braces left all comma right) w rest = absurd w

  -- none but a cast begins with a type name in parentheses
  pub no_type_name : (t : Trees.Expression) → IsExpression types t → 14 ≤ level t → (rest : List Lexeme) → begins_type_name types (spelled t rest) ≡ false
  no_type_name (Trees.name x) w l rest = refl
  no_type_name (Trees.number x n kind) w l rest = refl
  no_type_name (Trees.character x n) w l rest = refl
  no_type_name (Trees.texts []) w l rest = absurd (w refl)
  no_type_name (Trees.texts (x ∷ all)) w l rest = refl
  no_type_name (Trees.paren left a right) w l rest = (front a w _).no_specifier
  no_type_name (Trees.index a left b right) w l rest = no_type_name a w.1 (omega (arith, w.0)) _
  no_type_name (Trees.call f left all right) w l rest = no_type_name f w.1 (omega (arith, w.0)) _
  no_type_name (Trees.dot a at x) w l rest = no_type_name a w.1 (omega (arith, w.0)) _
  no_type_name (Trees.arrow a at x) w l rest = no_type_name a w.1 (omega (arith, w.0)) _
  no_type_name (Trees.post a op at) w l rest = no_type_name a w.1 (omega (arith, w.0)) _
  no_type_name (Trees.pre P.Increment at a) w l rest = refl
  no_type_name (Trees.pre op at a) w l rest = refl
  no_type_name (Trees.unary U.Address at a) w l rest = refl
  no_type_name (Trees.unary op at a) w l rest = refl
  no_type_name (Trees.sizeof_expression at a) w l rest = refl
  no_type_name (Trees.sizeof_type at left t right) w l rest = refl
  no_type_name (Trees.cast left t right a) w l rest = absurd (omega arith)
  no_type_name (Trees.binary a op at b) w l rest = absurd (omega (arith, strength_most op))
  no_type_name (Trees.cond a question b colon c) w l rest = absurd (omega arith)
  no_type_name (Trees.assign a op at b) w l rest = absurd (omega arith)
  no_type_name (Trees.comma a at b) w l rest = absurd (omega arith)
  no_type_name (Trees.braces left all comma right) w l rest = absurd w

  -- a postfix expression begins with no unary operator
  pub unary_by_postfix : (t : Trees.Expression) → IsExpression types t → 15 ≤ level t → (k : ℕ) (inner : Inner) (rest : List Lexeme)
      → unary_expression_in types k inner (spelled t rest) ≡ postfix_in types k inner (spelled t rest)
  unfolding unary_expression_in
  unary_by_postfix (Trees.name x) w l k inner rest = refl
  unary_by_postfix (Trees.number x n kind) w l k inner rest = refl
  unary_by_postfix (Trees.character x n) w l k inner rest = refl
  unary_by_postfix (Trees.texts []) w l k inner rest = absurd (w refl)
  unary_by_postfix (Trees.texts (x ∷ all)) w l k inner rest = refl
  unary_by_postfix (Trees.paren left a right) w l k inner rest = refl
  unary_by_postfix (Trees.index a left b right) w l k inner rest = unary_by_postfix a w.1 w.0 k inner _
  unary_by_postfix (Trees.call f left all right) w l k inner rest = unary_by_postfix f w.1 w.0 k inner _
  unary_by_postfix (Trees.dot a at x) w l k inner rest = unary_by_postfix a w.1 w.0 k inner _
  unary_by_postfix (Trees.arrow a at x) w l k inner rest = unary_by_postfix a w.1 w.0 k inner _
  unary_by_postfix (Trees.post a op at) w l k inner rest = unary_by_postfix a w.1 w.0 k inner _
  unary_by_postfix (Trees.pre op at a) w l k inner rest = absurd (omega arith)
  unary_by_postfix (Trees.unary op at a) w l k inner rest = absurd (omega arith)
  unary_by_postfix (Trees.sizeof_expression at a) w l k inner rest = absurd (omega arith)
  unary_by_postfix (Trees.sizeof_type at left t right) w l k inner rest = absurd (omega arith)
  unary_by_postfix (Trees.cast left t right a) w l k inner rest = absurd (omega arith)
  unary_by_postfix (Trees.binary a op at b) w l k inner rest = absurd (omega (arith, strength_most op))
  unary_by_postfix (Trees.cond a question b colon c) w l k inner rest = absurd (omega arith)
  unary_by_postfix (Trees.assign a op at b) w l k inner rest = absurd (omega arith)
  unary_by_postfix (Trees.comma a at b) w l k inner rest = absurd (omega arith)
  unary_by_postfix (Trees.braces left all comma right) w l k inner rest = absurd w

  -- ---- specifiers

  pub specifier_begins : (s : Trees.Specifier) → IsSpecifier types s → (rest : List Lexeme) → begins_specifier types (spelled_specifier s rest) ≡ true
  specifier_begins (Trees.plain S.Void at) w rest = refl
  specifier_begins (Trees.plain op at) w rest = refl
  specifier_begins (Trees.typename x) w rest = w
  specifier_begins (Trees.struct_named at x) w rest = refl
  specifier_begins (Trees.struct_body at x left member_declarations right) w rest = refl
  specifier_begins (Trees.enum_named at x) w rest = refl
  specifier_begins (Trees.enum_body at x left all comma right) w rest = refl

  pub specifiers_begin : (specs : Trees.Specifiers) → AreSpecifiers types specs → (rest : List Lexeme)
      → begins_specifier types (spelled_specifiers specs rest) ≡ true
  specifiers_begin Trees.no_specifiers w rest = absurd w
  specifiers_begin (Trees.and_specifier s more) w rest = specifier_begins s w.0 _

  -- a test that fails at each first token of a specifier
  pub record FailsAtSpecifiers (p : TokenKind → Bool) : Type 0 where
    pub no_keyword : (op : SpecifierKeyword) → p (K.Keyword (specifier_keyword op)) ≡ false
    pub no_struct : p (K.Keyword W.Struct) ≡ false
    pub no_enum : p (K.Keyword W.Enum) ≡ false
    pub no_name : p K.Name ≡ false

  pub specifier_front : (p : TokenKind → Bool) → FailsAtSpecifiers p → (s : Trees.Specifier) (rest : List Lexeme) → fronted p (spelled_specifier s rest) ≡ false
  specifier_front p a (Trees.plain op at) rest = a.no_keyword op
  specifier_front p a (Trees.typename x) rest = a.no_name
  specifier_front p a (Trees.struct_named at x) rest = a.no_struct
  specifier_front p a (Trees.struct_body at x left member_declarations right) rest = a.no_struct
  specifier_front p a (Trees.enum_named at x) rest = a.no_enum
  specifier_front p a (Trees.enum_body at x left all comma right) rest = a.no_enum

  pub right_at_specifiers : FailsAtSpecifiers is_right
  right_at_specifiers = record { no_keyword = λ _. refl; no_struct = refl; no_enum = refl; no_name = refl }

  pub left_brace_at_specifiers : FailsAtSpecifiers is_left_brace
  left_brace_at_specifiers = record { no_keyword = λ _. refl; no_struct = refl; no_enum = refl; no_name = refl }

  pub right_brace_at_specifiers : FailsAtSpecifiers is_right_brace
  right_brace_at_specifiers = record { no_keyword = λ _. refl; no_struct = refl; no_enum = refl; no_name = refl }

  pub specifiers_front : (p : TokenKind → Bool) → FailsAtSpecifiers p → (specs : Trees.Specifiers) → AreSpecifiers types specs → (rest : List Lexeme)
      → fronted p (spelled_specifiers specs rest) ≡ false
  specifiers_front p a Trees.no_specifiers w rest = absurd w
  specifiers_front p a (Trees.and_specifier s more) w rest = specifier_front p a s _

  -- ---- declarators

  pub something : (d : Trees.Declarator) → d ≢ Trees.nothing → is_nothing d ≡ false
  something Trees.nothing h = absurd (h refl)
  something d h = refl

  -- a test that fails at each first token of a declarator
  pub record FailsAtDeclarators (p : TokenKind → Bool) : Type 0 where
    pub no_name : p K.Name ≡ false
    pub no_star : p (K.Punctuator M.Star) ≡ false
    pub no_left : p (K.Punctuator M.Open) ≡ false
    pub no_left_square : p (K.Punctuator M.OpenSquare) ≡ false

  pub declarator_front : (p : TokenKind → Bool) → FailsAtDeclarators p → (d : Trees.Declarator) (rest : List Lexeme) → fronted p rest ≡ false
      → fronted p (spelled_declarator d rest) ≡ false
  declarator_front p o Trees.nothing rest h = h
  declarator_front p o (Trees.named x) rest h = o.no_name
  declarator_front p o (Trees.pointer at consts d) rest h = o.no_star
  declarator_front p o (Trees.enclosed left d right) rest h = o.no_left
  declarator_front p o (Trees.array d left length right) rest h = declarator_front p o d _ o.no_left_square
  declarator_front p o (Trees.function d left all right) rest h = declarator_front p o d _ o.no_left

  pub right_at_declarators : FailsAtDeclarators is_right
  right_at_declarators = record { no_name = refl; no_star = refl; no_left = refl; no_left_square = refl }

  pub left_brace_at_declarators : FailsAtDeclarators is_left_brace
  left_brace_at_declarators = record { no_name = refl; no_star = refl; no_left = refl; no_left_square = refl }

  pub const_at_declarators : FailsAtDeclarators is_const
  const_at_declarators = record { no_name = refl; no_star = refl; no_left = refl; no_left_square = refl }

  pub declarator_no_right : (d : Trees.Declarator) → is_nothing d ≡ false → (rest : List Lexeme) → fronted is_right (spelled_declarator d rest) ≡ false
  declarator_no_right Trees.nothing h rest = cc
  declarator_no_right (Trees.named x) h rest = refl
  declarator_no_right (Trees.pointer at consts d) h rest = refl
  declarator_no_right (Trees.enclosed left d right) h rest = refl
  declarator_no_right (Trees.array d left length right) h rest = declarator_front is_right right_at_declarators d _ refl
  declarator_no_right (Trees.function d left all right) h rest = declarator_front is_right right_at_declarators d _ refl

  pub declarator_no_specifier : (d : Trees.Declarator) → IsDeclarator types d → (rest : List Lexeme) → begins_specifier types rest ≡ false
      → begins_specifier types (spelled_declarator d rest) ≡ false
  declarator_no_specifier Trees.nothing w rest h = h
  declarator_no_specifier (Trees.named x) w rest h = w
  declarator_no_specifier (Trees.pointer at consts d) w rest h = refl
  declarator_no_specifier (Trees.enclosed left d right) w rest h = refl
  declarator_no_specifier (Trees.array d left length right) w rest h = declarator_no_specifier d w.1 _ refl
  declarator_no_specifier (Trees.function d left all right) w rest h = declarator_no_specifier d w.1 _ refl

  pub direct_no_star : (d : Trees.Declarator) → is_direct d ≡ true → IsDeclarator types d → (rest : List Lexeme) → after is_star rest ≡ None
      → after is_star (spelled_declarator d rest) ≡ None
  direct_no_star Trees.nothing i w rest h = h
  direct_no_star (Trees.named x) i w rest h = refl
  direct_no_star (Trees.pointer at consts d) i w rest h = cc
  direct_no_star (Trees.enclosed left d right) i w rest h = refl
  direct_no_star (Trees.array d left length right) i w rest h = direct_no_star d w.0 w.1 _ refl
  direct_no_star (Trees.function d left all right) i w rest h = direct_no_star d w.0 w.1 _ refl

  -- ---- parameters

  void_goes_on : (d : Trees.Declarator) (more : Trees.Parameters) (at right : ℕ) (rest : List Lexeme) → AreParameters types false more
      → is_lone_void (Trees.and_parameter None (Trees.and_specifier (Trees.plain S.Void at) Trees.no_specifiers) d more) ≡ false
      → fronted is_right (spelled_declarator d (spelled_parameters more (punctuator M.Close right ∷ rest))) ≡ false
  void_goes_on Trees.nothing Trees.no_parameters at right rest w h = cc
  void_goes_on Trees.nothing (Trees.and_parameter None specs d more) at right rest w h = let e : false ≡ true = w.0 in cc
  void_goes_on Trees.nothing (Trees.and_parameter (Some c) specs d more) at right rest w h = refl
  void_goes_on (Trees.named x) more at right rest w h = refl
  void_goes_on (Trees.pointer i consts d) more at right rest w h = refl
  void_goes_on (Trees.enclosed left d i) more at right rest w h = refl
  void_goes_on (Trees.array d left length i) more at right rest w h = declarator_front is_right right_at_declarators d _ refl
  void_goes_on (Trees.function d left all i) more at right rest w h = declarator_front is_right right_at_declarators d _ refl

  void_first : (specs : Trees.Specifiers) (d : Trees.Declarator) (more : Trees.Parameters) (right : ℕ) (rest : List Lexeme)
      → AreSpecifiers types specs → AreParameters types false more
      → is_lone_void (Trees.and_parameter None specs d more) ≡ false
      → begins_void (spelled_specifiers specs (spelled_declarator d (spelled_parameters more (punctuator M.Close right ∷ rest)))) ≡ false
  void_first Trees.no_specifiers d more right rest w v h = absurd w
  void_first (Trees.and_specifier (Trees.plain S.Void at) Trees.no_specifiers) d more right rest w v h = void_goes_on d more at right rest v h
  void_first (Trees.and_specifier (Trees.plain S.Void at) (Trees.and_specifier s others)) d more right rest w v h =
      specifier_front is_right right_at_specifiers s _
  void_first (Trees.and_specifier (Trees.plain op at) others) d more right rest w v h = refl
  void_first (Trees.and_specifier s others) d more right rest w v h = refl

  -- `void` alone is not among listed parameters
  pub no_void : (all : Trees.Parameters) → AreParameters types true all → is_lone_void all ≡ false → (right : ℕ) (rest : List Lexeme)
      → begins_void (spelled_parameters all (punctuator M.Close right ∷ rest)) ≡ false
  no_void Trees.no_parameters w h right rest = refl
  no_void (Trees.and_parameter None specs d more) w h right rest = void_first specs d more right rest w.1 w.3 h
  no_void (Trees.and_parameter (Some c) specs d more) w h right rest = refl
