-- The tokens of a tree, before those of what follows: one rule for each alternative of the grammar.
use Rattle.std.specs.Prelude.{ℕ, ◌+◌, List, [], ◌∷◌, length, Option, Some, None}
use Rattle.lay_base.specs.declared.faults.Keyword.{Keyword}
use Rattle.lay_base.specs.declared.faults.Keyword.TheVariants as W
use Rattle.c_tokens.specs.declared.punctuator.Punctuator.{Punctuator as Punctuator}
use Rattle.c_tokens.specs.declared.punctuator.Punctuator.TheVariants as M
use Rattle.c_tokens.specs.declared.token.TokenKind.{TokenKind}
use Rattle.c_tokens.specs.declared.token.TokenKind.TheVariants as K
use Rattle.lay_base.specs.Keywords.{keyword_text}
use Rattle.c_tokens.specs.Punctuators.{punctuator_text}
use Rattle.c_ast.specs.declared.words.Spelling.{Spelling}
use Rattle.c_ast.specs.declared.operators.StepOp.{StepOp}
use Rattle.c_ast.specs.declared.operators.StepOp.TheVariants as P
use Rattle.c_ast.specs.declared.operators.UnaryOp.{UnaryOp}
use Rattle.c_ast.specs.declared.operators.UnaryOp.TheVariants as U
use Rattle.c_ast.specs.declared.operators.BinaryOp.{BinaryOp}
use Rattle.c_ast.specs.declared.operators.BinaryOp.TheVariants as B
use Rattle.c_ast.specs.declared.operators.AssignOp.{AssignOp}
use Rattle.c_ast.specs.declared.operators.AssignOp.TheVariants as A
use Rattle.c_ast.specs.declared.operators.SpecifierKeyword.{SpecifierKeyword}
use Rattle.c_ast.specs.declared.operators.SpecifierKeyword.TheVariants as S
use Rattle.c_ast.specs.Trees

-- a token with the bytes that it is, and its text
pub record Lexeme : Type 0 where
  pub kind : TokenKind
  pub from : ℕ
  pub to : ℕ
  pub text : List ℕ

abbrev pub punctuator : Punctuator → ℕ → Lexeme
punctuator m at = record { kind = K.Punctuator m; from = at; to = at + length (punctuator_text m); text = punctuator_text m }

abbrev pub keyword : Keyword → ℕ → Lexeme
keyword k at = record { kind = K.Keyword k; from = at; to = at + length (keyword_text k); text = keyword_text k }

abbrev pub word : TokenKind → Spelling → Lexeme
word kind x = record { kind = kind; from = x.from; to = x.to; text = x.text }

-- ---- operators

abbrev pub step_punctuator : StepOp → Punctuator
step_punctuator P.Increment = M.PlusPlus
step_punctuator P.Decrement = M.MinusMinus

abbrev pub unary_punctuator : UnaryOp → Punctuator
unary_punctuator U.Address = M.And
unary_punctuator U.Deref = M.Star
unary_punctuator U.Plus = M.Plus
unary_punctuator U.Minus = M.Minus
unary_punctuator U.Complement = M.Tilde
unary_punctuator U.Not = M.Not

abbrev pub binary_punctuator : BinaryOp → Punctuator
binary_punctuator B.Or = M.BarBar
binary_punctuator B.And = M.AndAnd
binary_punctuator B.BitOr = M.Bar
binary_punctuator B.BitXor = M.Caret
binary_punctuator B.BitAnd = M.And
binary_punctuator B.Equal = M.EqualEqual
binary_punctuator B.NotEqual = M.NotEqual
binary_punctuator B.Less = M.Less
binary_punctuator B.Greater = M.Greater
binary_punctuator B.LessEqual = M.LessEqual
binary_punctuator B.GreaterEqual = M.GreaterEqual
binary_punctuator B.ShiftLeft = M.ShiftLeft
binary_punctuator B.ShiftRight = M.ShiftRight
binary_punctuator B.Add = M.Plus
binary_punctuator B.Subtract = M.Minus
binary_punctuator B.Multiply = M.Star
binary_punctuator B.Divide = M.Slash
binary_punctuator B.Remainder = M.Percent

abbrev pub assign_punctuator : AssignOp → Punctuator
assign_punctuator A.Plain = M.Equal
assign_punctuator A.Multiply = M.StarEqual
assign_punctuator A.Divide = M.SlashEqual
assign_punctuator A.Remainder = M.PercentEqual
assign_punctuator A.Add = M.PlusEqual
assign_punctuator A.Subtract = M.MinusEqual
assign_punctuator A.ShiftLeft = M.ShiftLeftEqual
assign_punctuator A.ShiftRight = M.ShiftRightEqual
assign_punctuator A.BitAnd = M.AndEqual
assign_punctuator A.BitXor = M.CaretEqual
assign_punctuator A.BitOr = M.BarEqual

abbrev pub specifier_keyword : SpecifierKeyword → Keyword
specifier_keyword S.Typedef = W.Typedef
specifier_keyword S.Extern = W.Extern
specifier_keyword S.Static = W.Static
specifier_keyword S.Auto = W.Auto
specifier_keyword S.Register = W.Register
specifier_keyword S.Const = W.Const
specifier_keyword S.Void = W.Void
specifier_keyword S.Char = W.Char
specifier_keyword S.Short = W.Short
specifier_keyword S.Int = W.Int
specifier_keyword S.Long = W.Long
specifier_keyword S.Signed = W.Signed
specifier_keyword S.Unsigned = W.Unsigned

-- ---- expressions, type names, specifiers and declarators

abbrev pub spelled_comma : Option ℕ → List Lexeme → List Lexeme
spelled_comma None rest = rest
spelled_comma (Some at) rest = punctuator M.Comma at ∷ rest

abbrev pub spelled_texts : List Spelling → List Lexeme → List Lexeme
spelled_texts [] rest = rest
spelled_texts (x ∷ more) rest = word K.Text x ∷ spelled_texts more rest

abbrev pub spelled_tag : Option Spelling → List Lexeme → List Lexeme
spelled_tag None rest = rest
spelled_tag (Some x) rest = word K.Name x ∷ rest

abbrev pub spelled_consts : List ℕ → List Lexeme → List Lexeme
spelled_consts [] rest = rest
spelled_consts (at ∷ more) rest = keyword W.Const at ∷ spelled_consts more rest

abbrev mutual
  pub spelled : Trees.Expression → List Lexeme → List Lexeme
  spelled (Trees.name x) rest = word K.Name x ∷ rest
  spelled (Trees.number x n kind) rest = word (K.Number n kind) x ∷ rest
  spelled (Trees.character x n) rest = word (K.Character n) x ∷ rest
  spelled (Trees.texts all) rest = spelled_texts all rest
  spelled (Trees.paren left a right) rest = punctuator M.Open left ∷ spelled a (punctuator M.Close right ∷ rest)
  spelled (Trees.index a left b right) rest = spelled a (punctuator M.OpenSquare left ∷ spelled b (punctuator M.CloseSquare right ∷ rest))
  spelled (Trees.call f left all right) rest = spelled f (punctuator M.Open left ∷ spelled_arguments all (punctuator M.Close right ∷ rest))
  spelled (Trees.dot a at x) rest = spelled a (punctuator M.Dot at ∷ word K.Name x ∷ rest)
  spelled (Trees.arrow a at x) rest = spelled a (punctuator M.Arrow at ∷ word K.Name x ∷ rest)
  spelled (Trees.post a op at) rest = spelled a (punctuator (step_punctuator op) at ∷ rest)
  spelled (Trees.pre op at a) rest = punctuator (step_punctuator op) at ∷ spelled a rest
  spelled (Trees.unary op at a) rest = punctuator (unary_punctuator op) at ∷ spelled a rest
  spelled (Trees.sizeof_expression at a) rest = keyword W.Sizeof at ∷ spelled a rest
  spelled (Trees.sizeof_type at left t right) rest = keyword W.Sizeof at ∷ punctuator M.Open left ∷ spelled_type_name t (punctuator M.Close right ∷ rest)
  spelled (Trees.cast left t right a) rest = punctuator M.Open left ∷ spelled_type_name t (punctuator M.Close right ∷ spelled a rest)
  spelled (Trees.binary a op at b) rest = spelled a (punctuator (binary_punctuator op) at ∷ spelled b rest)
  spelled (Trees.cond a question b colon c) rest = spelled a (punctuator M.Question question ∷ spelled b (punctuator M.Colon colon ∷ spelled c rest))
  spelled (Trees.assign a op at b) rest = spelled a (punctuator (assign_punctuator op) at ∷ spelled b rest)
  spelled (Trees.comma a at b) rest = spelled a (punctuator M.Comma at ∷ spelled b rest)
  spelled (Trees.braces left all comma right) rest = punctuator M.OpenBrace left ∷ spelled_arguments all
      (spelled_comma comma (punctuator M.CloseBrace right ∷ rest))

  pub spelled_arguments : Trees.Arguments → List Lexeme → List Lexeme
  spelled_arguments Trees.no_arguments rest = rest
  spelled_arguments (Trees.and_argument comma a more) rest = spelled_comma comma (spelled a (spelled_arguments more rest))

  pub spelled_optional : Trees.OptionalExpression → List Lexeme → List Lexeme
  spelled_optional Trees.no_expression rest = rest
  spelled_optional (Trees.some_expression a) rest = spelled a rest

  pub spelled_type_name : Trees.TypeName → List Lexeme → List Lexeme
  spelled_type_name (Trees.type_name specs d) rest = spelled_specifiers specs (spelled_declarator d rest)

  pub spelled_specifiers : Trees.Specifiers → List Lexeme → List Lexeme
  spelled_specifiers Trees.no_specifiers rest = rest
  spelled_specifiers (Trees.and_specifier s more) rest = spelled_specifier s (spelled_specifiers more rest)

  pub spelled_specifier : Trees.Specifier → List Lexeme → List Lexeme
  spelled_specifier (Trees.plain word at) rest = keyword (specifier_keyword word) at ∷ rest
  spelled_specifier (Trees.typename x) rest = word K.Name x ∷ rest
  spelled_specifier (Trees.struct_named at x) rest = keyword W.Struct at ∷ word K.Name x ∷ rest
  spelled_specifier (Trees.struct_body at x left member_declarations right) rest =
      keyword W.Struct at ∷ spelled_tag x (punctuator M.OpenBrace left ∷ spelled_member_declarations member_declarations (punctuator M.CloseBrace right ∷ rest))
  spelled_specifier (Trees.enum_named at x) rest = keyword W.Enum at ∷ word K.Name x ∷ rest
  spelled_specifier (Trees.enum_body at x left all comma right) rest =
      keyword W.Enum at ∷ spelled_tag x (punctuator M.OpenBrace left ∷ spelled_enumerators all (spelled_comma comma (punctuator M.CloseBrace right ∷ rest)))

  pub spelled_member_declarations : Trees.MemberDeclarations → List Lexeme → List Lexeme
  spelled_member_declarations Trees.no_member_declarations rest = rest
  spelled_member_declarations (Trees.and_member_declaration specs member_declarators semicolon more) rest =
      spelled_specifiers specs (spelled_member_declarators member_declarators (punctuator M.Semicolon semicolon ∷ spelled_member_declarations more rest))

  pub spelled_member_declarators : Trees.MemberDeclarators → List Lexeme → List Lexeme
  spelled_member_declarators Trees.no_member_declarators rest = rest
  spelled_member_declarators (Trees.and_member_declarator comma d more) rest = spelled_comma comma (spelled_declarator d (spelled_member_declarators more rest))

  pub spelled_enumerators : Trees.Enumerators → List Lexeme → List Lexeme
  spelled_enumerators Trees.no_enumerators rest = rest
  spelled_enumerators (Trees.and_enumerator comma x value more) rest =
      spelled_comma comma (word K.Name x ∷ spelled_enumerator_value value (spelled_enumerators more rest))

  pub spelled_enumerator_value : Trees.EnumeratorValue → List Lexeme → List Lexeme
  spelled_enumerator_value Trees.no_value rest = rest
  spelled_enumerator_value (Trees.valued equal a) rest = punctuator M.Equal equal ∷ spelled a rest

  pub spelled_declarator : Trees.Declarator → List Lexeme → List Lexeme
  spelled_declarator Trees.nothing rest = rest
  spelled_declarator (Trees.named x) rest = word K.Name x ∷ rest
  spelled_declarator (Trees.pointer at consts d) rest = punctuator M.Star at ∷ spelled_consts consts (spelled_declarator d rest)
  spelled_declarator (Trees.enclosed left d right) rest = punctuator M.Open left ∷ spelled_declarator d (punctuator M.Close right ∷ rest)
  spelled_declarator (Trees.array d left length right) rest =
      spelled_declarator d (punctuator M.OpenSquare left ∷ spelled_optional length (punctuator M.CloseSquare right ∷ rest))
  spelled_declarator (Trees.function d left all right) rest =
      spelled_declarator d (punctuator M.Open left ∷ spelled_parameter_list all (punctuator M.Close right ∷ rest))

  pub spelled_parameter_list : Trees.ParameterList → List Lexeme → List Lexeme
  spelled_parameter_list (Trees.void_alone at) rest = keyword W.Void at ∷ rest
  spelled_parameter_list (Trees.listed all) rest = spelled_parameters all rest

  pub spelled_parameters : Trees.Parameters → List Lexeme → List Lexeme
  spelled_parameters Trees.no_parameters rest = rest
  spelled_parameters (Trees.and_parameter comma specs d more) rest =
      spelled_comma comma (spelled_specifiers specs (spelled_declarator d (spelled_parameters more rest)))

-- ---- declarations

abbrev pub spelled_value : Option (ℕ × Trees.Expression) → List Lexeme → List Lexeme
spelled_value None rest = rest
spelled_value (Some value) rest = punctuator M.Equal value.0 ∷ spelled value.1 rest

abbrev pub spelled_init_declarators : List Trees.InitDeclarator → List Lexeme → List Lexeme
spelled_init_declarators [] rest = rest
spelled_init_declarators (d ∷ more) rest = spelled_comma d.comma (spelled_declarator d.declarator (spelled_value d.value (spelled_init_declarators more rest)))

abbrev pub spelled_declaration : Trees.Declaration → List Lexeme → List Lexeme
spelled_declaration d rest = spelled_specifiers d.specs (spelled_init_declarators d.all (punctuator M.Semicolon d.semicolon ∷ rest))

-- ---- statements

abbrev pub spelled_if_any : Option Trees.Expression → List Lexeme → List Lexeme
spelled_if_any None rest = rest
spelled_if_any (Some a) rest = spelled a rest

abbrev pub spelled_labels : List Trees.Label → List Lexeme → List Lexeme
spelled_labels [] rest = rest
spelled_labels (Trees.case at a colon ∷ more) rest = keyword W.Case at ∷ spelled a (punctuator M.Colon colon ∷ spelled_labels more rest)
spelled_labels (Trees.default at colon ∷ more) rest = keyword W.Default at ∷ punctuator M.Colon colon ∷ spelled_labels more rest

abbrev pub spelled_for_start : Trees.ForStart → List Lexeme → List Lexeme
spelled_for_start (Trees.starts_with a semicolon) rest = spelled_if_any a (punctuator M.Semicolon semicolon ∷ rest)
spelled_for_start (Trees.declares d) rest = spelled_declaration d rest

abbrev mutual
  pub spelled_statement : Trees.Statement → List Lexeme → List Lexeme
  spelled_statement (Trees.block left items right) rest = punctuator M.OpenBrace left ∷ spelled_block_items items (punctuator M.CloseBrace right ∷ rest)
  spelled_statement (Trees.evaluate a semicolon) rest = spelled_if_any a (punctuator M.Semicolon semicolon ∷ rest)
  spelled_statement (Trees.when at left a right one) rest = keyword W.If at ∷ punctuator M.Open left ∷ spelled a
      (punctuator M.Close right ∷ spelled_statement one rest)
  spelled_statement (Trees.choose at left a right one else other) rest =
      keyword W.If at ∷ punctuator M.Open left ∷ spelled a (punctuator M.Close right ∷ spelled_statement one
      (keyword W.Else else ∷ spelled_statement other rest))
  spelled_statement (Trees.while at left a right body) rest =
      keyword W.While at ∷ punctuator M.Open left ∷ spelled a (punctuator M.Close right ∷ spelled_statement body rest)
  spelled_statement (Trees.do_while at body while left a right semicolon) rest =
      keyword W.Do at ∷ spelled_statement body (keyword W.While while ∷ punctuator M.Open left ∷ spelled a
      (punctuator M.Close right ∷ punctuator M.Semicolon semicolon ∷ rest))
  spelled_statement (Trees.for at left start test semicolon step right body) rest =
      keyword W.For at ∷ punctuator M.Open left ∷ spelled_for_start start
      (spelled_if_any test (punctuator M.Semicolon semicolon ∷ spelled_if_any step (punctuator M.Close right ∷ spelled_statement body rest)))
  spelled_statement (Trees.switch at left a right begin switch_items end) rest =
      keyword W.Switch at ∷ punctuator M.Open left ∷ spelled a
      (punctuator M.Close right ∷ punctuator M.OpenBrace begin ∷ spelled_switch_items switch_items (punctuator M.CloseBrace end ∷ rest))
  spelled_statement (Trees.break at semicolon) rest = keyword W.Break at ∷ punctuator M.Semicolon semicolon ∷ rest
  spelled_statement (Trees.continue at semicolon) rest = keyword W.Continue at ∷ punctuator M.Semicolon semicolon ∷ rest
  spelled_statement (Trees.return at a semicolon) rest = keyword W.Return at ∷ spelled_if_any a (punctuator M.Semicolon semicolon ∷ rest)

  pub spelled_block_item : Trees.BlockItem → List Lexeme → List Lexeme
  spelled_block_item (Trees.local d) rest = spelled_declaration d rest
  spelled_block_item (Trees.statement a) rest = spelled_statement a rest

  pub spelled_block_items : Trees.BlockItems → List Lexeme → List Lexeme
  spelled_block_items Trees.no_block_items rest = rest
  spelled_block_items (Trees.and_block_item e more) rest = spelled_block_item e (spelled_block_items more rest)

  pub spelled_switch_item : Trees.SwitchItem → List Lexeme → List Lexeme
  spelled_switch_item (Trees.local_switch_item d) rest = spelled_declaration d rest
  spelled_switch_item (Trees.labelled labels a) rest = spelled_labels labels (spelled_statement a rest)

  pub spelled_switch_items : Trees.SwitchItems → List Lexeme → List Lexeme
  spelled_switch_items Trees.no_switch_items rest = rest
  spelled_switch_items (Trees.and_switch_item switch_item more) rest = spelled_switch_item switch_item (spelled_switch_items more rest)

-- ---- files

abbrev pub spelled_item : Trees.Item → List Lexeme → List Lexeme
spelled_item (Trees.defines specs d left items right) rest =
    spelled_specifiers specs (spelled_declarator d (punctuator M.OpenBrace left ∷ spelled_block_items items (punctuator M.CloseBrace right ∷ rest)))
spelled_item (Trees.declaration d) rest = spelled_declaration d rest

abbrev pub spelled_items : List Trees.Item → List Lexeme → List Lexeme
spelled_items [] rest = rest
spelled_items (item ∷ items) rest = spelled_item item (spelled_items items rest)

-- all tokens of a file's tree
abbrev pub spell : List Trees.Item → List Lexeme
spell items = spelled_items items []
