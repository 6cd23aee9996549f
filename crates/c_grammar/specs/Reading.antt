-- Reading an expression, a type name, specifiers or a declarator from the left of a list of tokens.
use Rattle.std.specs.Prelude.{ℕ, zero, suc, ◌+◌, leb, ◌&&◌, ◌||◌, not, Bool, true, false, List, [], ◌∷◌, ◌++◌, length, Option, Some, None, is_some}
use Rattle.std.specs.Prelude.{max, if◌then◌else◌}
use Rattle.lay_base.specs.declared.faults.Keyword.{Keyword}
use Rattle.lay_base.specs.declared.faults.Keyword.TheVariants as W
use Rattle.lay_base.specs.contracts.faults.KeywordPartialEq.TheImpl as keywords
use Rattle.c_tokens.specs.declared.punctuator.Punctuator.{Punctuator}
use Rattle.c_tokens.specs.contracts.punctuator.PunctuatorPartialEq.TheImpl as punctuators
use Rattle.c_tokens.specs.declared.punctuator.Punctuator.TheVariants as M
use Rattle.c_tokens.specs.declared.token.TokenKind.{TokenKind}
use Rattle.c_tokens.specs.declared.token.TokenKind.TheVariants as K
use Rattle.c_ast.specs.declared.words.Spelling.{Spelling}
use Rattle.c_ast.specs.declared.operators.StepOp.{StepOp}
use Rattle.c_ast.specs.declared.operators.StepOp.TheVariants as P
use Rattle.c_ast.specs.declared.operators.UnaryOp.{UnaryOp}
use Rattle.c_ast.specs.declared.operators.UnaryOp.TheVariants as U
use Rattle.c_ast.specs.declared.operators.BinaryOp.{BinaryOp}
use Rattle.c_ast.specs.declared.operators.BinaryOp.TheVariants as B
use Rattle.c_ast.specs.declared.operators.AssignOp.{AssignOp}
use Rattle.c_ast.specs.declared.operators.AssignOp.TheVariants as A
use Rattle.c_ast.specs.declared.operators.SpecifierKeyword.{SpecifierKeyword}
use Rattle.c_ast.specs.declared.operators.SpecifierKeyword.TheVariants as S
use Rattle.c_ast.specs.Trees
use Rattle.c_ast.specs.Spelling.{Lexeme}
use Rattle.c_ast.specs.WellFormed.{strength, level, has_name, is_typename}
use Rattle.c_ast.specs.Views.{arguments_of, specifiers_of, member_declarations_of, member_declarators_of, enumerators_of, parameters_of}

infixl 10 ◌>>=◌
abbrev pub ◌>>=◌ : {A B : Type 0} → Option A → (A → Option B) → Option B
None >>= f = None
(Some x) >>= f = f x

-- ---- tokens

-- the kind of the token at the front
abbrev pub front : List Lexeme → Option TokenKind
front [] = None
front (t ∷ rest) = Some t.kind

-- the byte of the token at the front, and what stands after it
abbrev pub advance : List Lexeme → ℕ × List Lexeme
advance [] = (0, [])
advance (t ∷ rest) = (t.from, rest)

-- the byte of a token of that kind at the front, and what stands after it
abbrev pub after : (TokenKind → Bool) → List Lexeme → Option (ℕ × List Lexeme)
after p [] = None
after p (t ∷ rest) = if p t.kind then Some (t.from, rest) else None

-- does a token of that kind stand at the front?
abbrev pub fronted : (TokenKind → Bool) → List Lexeme → Bool
fronted p [] = false
fronted p (t ∷ rest) = p t.kind

abbrev pub is_punctuator : Punctuator → TokenKind → Bool
is_punctuator p (K.Punctuator q) = punctuators.eq-value.it q p
is_punctuator p _ = false

abbrev pub is_keyword : Keyword → TokenKind → Bool
is_keyword k (K.Keyword l) = keywords.eq-value.it l k
is_keyword k _ = false

-- that punctuator at the front
abbrev pub expect : Punctuator → List Lexeme → Option (ℕ × List Lexeme)
expect p tokens = after (is_punctuator p) tokens

abbrev pub peek : Punctuator → List Lexeme → Bool
peek p tokens = fronted (is_punctuator p) tokens

abbrev pub is_left : TokenKind → Bool
is_left = is_punctuator M.Open

abbrev pub is_right : TokenKind → Bool
is_right = is_punctuator M.Close

abbrev pub is_left_square : TokenKind → Bool
is_left_square = is_punctuator M.OpenSquare

abbrev pub is_right_square : TokenKind → Bool
is_right_square = is_punctuator M.CloseSquare

abbrev pub is_left_brace : TokenKind → Bool
is_left_brace = is_punctuator M.OpenBrace

abbrev pub is_right_brace : TokenKind → Bool
is_right_brace = is_punctuator M.CloseBrace

abbrev pub is_comma : TokenKind → Bool
is_comma = is_punctuator M.Comma

abbrev pub is_semicolon : TokenKind → Bool
is_semicolon = is_punctuator M.Semicolon

abbrev pub is_colon : TokenKind → Bool
is_colon = is_punctuator M.Colon

abbrev pub is_question : TokenKind → Bool
is_question = is_punctuator M.Question

abbrev pub is_equal : TokenKind → Bool
is_equal = is_punctuator M.Equal

abbrev pub is_star : TokenKind → Bool
is_star = is_punctuator M.Star

abbrev pub is_const : TokenKind → Bool
is_const = is_keyword W.Const

abbrev pub is_void : TokenKind → Bool
is_void = is_keyword W.Void

abbrev pub is_name : TokenKind → Bool
is_name K.Name = true
is_name _ = false

abbrev pub spelling_of : Lexeme → Spelling
spelling_of t = record { from = t.from; to = t.to; text = t.text }

-- a name at the front, whatever it names
abbrev pub any_name : List Lexeme → Option (Spelling × List Lexeme)
any_name [] = None
any_name (t ∷ rest) = if is_name t.kind then Some (spelling_of t, rest) else None

-- a name at the front that names no type
abbrev pub plain_name : List (List ℕ) → List Lexeme → Option (Spelling × List Lexeme)
plain_name types [] = None
plain_name types (t ∷ rest) = if is_name t.kind && not (is_typename types t.text) then Some (spelling_of t, rest) else None

-- the token at the front, whatever it is
abbrev pub any_word : List Lexeme → Option (Spelling × List Lexeme)
any_word [] = None
any_word (t ∷ rest) = Some (spelling_of t, rest)

-- is the text at the front that of a type's name?
abbrev pub names_type : List (List ℕ) → List Lexeme → Bool
names_type types [] = false
names_type types (t ∷ rest) = is_typename types t.text

-- ---- operators

abbrev pub step_op : TokenKind → Option StepOp
step_op (K.Punctuator M.PlusPlus) = Some P.Increment
step_op (K.Punctuator M.MinusMinus) = Some P.Decrement
step_op _ = None

abbrev pub unary_op : TokenKind → Option UnaryOp
unary_op (K.Punctuator M.And) = Some U.Address
unary_op (K.Punctuator M.Star) = Some U.Deref
unary_op (K.Punctuator M.Plus) = Some U.Plus
unary_op (K.Punctuator M.Minus) = Some U.Minus
unary_op (K.Punctuator M.Tilde) = Some U.Complement
unary_op (K.Punctuator M.Not) = Some U.Not
unary_op _ = None

abbrev pub binary_op : TokenKind → Option BinaryOp
binary_op (K.Punctuator M.BarBar) = Some B.Or
binary_op (K.Punctuator M.AndAnd) = Some B.And
binary_op (K.Punctuator M.Bar) = Some B.BitOr
binary_op (K.Punctuator M.Caret) = Some B.BitXor
binary_op (K.Punctuator M.And) = Some B.BitAnd
binary_op (K.Punctuator M.EqualEqual) = Some B.Equal
binary_op (K.Punctuator M.NotEqual) = Some B.NotEqual
binary_op (K.Punctuator M.Less) = Some B.Less
binary_op (K.Punctuator M.Greater) = Some B.Greater
binary_op (K.Punctuator M.LessEqual) = Some B.LessEqual
binary_op (K.Punctuator M.GreaterEqual) = Some B.GreaterEqual
binary_op (K.Punctuator M.ShiftLeft) = Some B.ShiftLeft
binary_op (K.Punctuator M.ShiftRight) = Some B.ShiftRight
binary_op (K.Punctuator M.Plus) = Some B.Add
binary_op (K.Punctuator M.Minus) = Some B.Subtract
binary_op (K.Punctuator M.Star) = Some B.Multiply
binary_op (K.Punctuator M.Slash) = Some B.Divide
binary_op (K.Punctuator M.Percent) = Some B.Remainder
binary_op _ = None

abbrev pub assign_op : TokenKind → Option AssignOp
assign_op (K.Punctuator M.Equal) = Some A.Plain
assign_op (K.Punctuator M.StarEqual) = Some A.Multiply
assign_op (K.Punctuator M.SlashEqual) = Some A.Divide
assign_op (K.Punctuator M.PercentEqual) = Some A.Remainder
assign_op (K.Punctuator M.PlusEqual) = Some A.Add
assign_op (K.Punctuator M.MinusEqual) = Some A.Subtract
assign_op (K.Punctuator M.ShiftLeftEqual) = Some A.ShiftLeft
assign_op (K.Punctuator M.ShiftRightEqual) = Some A.ShiftRight
assign_op (K.Punctuator M.AndEqual) = Some A.BitAnd
assign_op (K.Punctuator M.CaretEqual) = Some A.BitXor
assign_op (K.Punctuator M.BarEqual) = Some A.BitOr
assign_op _ = None

abbrev pub keyword_specifier : TokenKind → Option SpecifierKeyword
keyword_specifier (K.Keyword W.Typedef) = Some S.Typedef
keyword_specifier (K.Keyword W.Extern) = Some S.Extern
keyword_specifier (K.Keyword W.Static) = Some S.Static
keyword_specifier (K.Keyword W.Auto) = Some S.Auto
keyword_specifier (K.Keyword W.Register) = Some S.Register
keyword_specifier (K.Keyword W.Const) = Some S.Const
keyword_specifier (K.Keyword W.Void) = Some S.Void
keyword_specifier (K.Keyword W.Char) = Some S.Char
keyword_specifier (K.Keyword W.Short) = Some S.Short
keyword_specifier (K.Keyword W.Int) = Some S.Int
keyword_specifier (K.Keyword W.Long) = Some S.Long
keyword_specifier (K.Keyword W.Signed) = Some S.Signed
keyword_specifier (K.Keyword W.Unsigned) = Some S.Unsigned
keyword_specifier _ = None

-- the operator at the front, if there is one
abbrev pub step_at : List Lexeme → Option StepOp
step_at tokens = front tokens >>= step_op

abbrev pub unary_at : List Lexeme → Option UnaryOp
unary_at tokens = front tokens >>= unary_op

abbrev pub binary_at : List Lexeme → Option BinaryOp
binary_at tokens = front tokens >>= binary_op

abbrev pub assign_at : List Lexeme → Option AssignOp
assign_at tokens = front tokens >>= assign_op

abbrev pub specifier_at : List Lexeme → Option SpecifierKeyword
specifier_at tokens = front tokens >>= keyword_specifier

abbrev pub is_struct : TokenKind → Bool
is_struct = is_keyword W.Struct

abbrev pub is_enum : TokenKind → Bool
is_enum = is_keyword W.Enum

-- does a specifier begin here?
abbrev pub begins_specifier : List (List ℕ) → List Lexeme → Bool
begins_specifier types [] = false
begins_specifier types (t ∷ rest) = is_some (keyword_specifier t.kind) || is_struct t.kind || is_enum t.kind || (is_name t.kind && is_typename types t.text)

-- does "(" and a type name begin here?
abbrev pub begins_type_name : List (List ℕ) → List Lexeme → Bool
begins_type_name types [] = false
begins_type_name types (t ∷ rest) = is_left t.kind && begins_specifier types rest

-- ---- readers

-- a value, its depth, and the rest of the tokens
abbrev pub Reader : Type 0 → Type 0
Reader A = List Lexeme → Option (A × ℕ × List Lexeme)

-- the readers of parts that are one less deep
pub record Inner : Type 0 where
  pub expression : Reader Trees.Expression
  pub assignment : Reader Trees.Expression
  pub conditional : Reader Trees.Expression
  pub operators : ℕ → Reader Trees.Expression
  pub operand : Reader Trees.Expression
  pub unary : Reader Trees.Expression
  pub specifiers : Reader Trees.Specifiers
  pub member_declaration : Reader (Trees.Specifiers × Trees.MemberDeclarators × ℕ)
  pub enumerator : Reader (Spelling × Trees.EnumeratorValue)
  pub declarator : Reader Trees.Declarator

-- the depth of a node over parts of depth d, which is to be at most k + 1
abbrev pub deeper : ℕ → ℕ → Option ℕ
deeper k d = if leb d k then Some (d + 1) else None

-- A step from what there is so far: what there is then, its depth, the rest, and whether to go on.
abbrev pub Step : Type 0 → Type 0
Step S = S → ℕ → List Lexeme → Option (S × ℕ × List Lexeme × Bool)

-- step after step, until one says that it was the last
unfoldable pub chain : {S : Type 0} → Step S → ℕ → S → ℕ → Reader S
chain step zero x d tokens = None
chain step (suc s) x d tokens = step x d tokens >>= λ r. if r.3 then chain step s r.0 r.1 r.2 else Some (r.0, r.1, r.2)

-- the comma before the next of a list: none before the first
abbrev pub comma_before : {A : Type 0} → List A → List Lexeme → Option (Option ℕ × List Lexeme)
comma_before [] tokens = Some (None, tokens)
comma_before (a ∷ all) tokens = expect M.Comma tokens >>= λ c. Some (Some c.0, c.1)

-- ---- type names

-- a type name of specifiers and a declarator of some depth
unfoldable pub type_name_in : Inner → Reader Trees.TypeName
type_name_in inner tokens = do
  specs ← inner.specifiers tokens
  d ← inner.declarator specs.2
  if has_name d.0 then None else Some (Trees.type_name specs.0 d.0, max specs.1 d.1, d.2)

-- a type name in parentheses: the places of both with it
unfoldable pub enclosed_type_name_in : Inner → Reader (ℕ × Trees.TypeName × ℕ)
enclosed_type_name_in inner tokens = do
  left ← expect M.Open tokens
  t ← type_name_in inner left.1
  right ← expect M.Close t.2
  Some ((left.0, t.0, right.0), t.1, right.1)

-- ---- primary expressions

unfoldable pub text_in : Step (List Spelling)
text_in all d tokens = text_step (front tokens)
  where
    text_step : Option TokenKind → Option (List Spelling × ℕ × List Lexeme × Bool)
    text_step (Some K.Text) = any_word tokens >>= λ x. Some (all ++ x.0 ∷ [], d, x.1, true)
    text_step _ = Some (all, d, tokens, false)

unfoldable pub texts_in : Reader Trees.Expression
texts_in tokens = do
  all ← chain text_in (length tokens + 1) [] 1 tokens
  Some (Trees.texts all.0, all.1, all.2)

unfoldable pub paren_in : ℕ → Inner → Reader Trees.Expression
paren_in k inner tokens = do
  left ← expect M.Open tokens
  a ← inner.expression left.1
  right ← expect M.Close a.2
  d ← deeper k a.1
  Some (Trees.paren left.0 a.0 right.0, d, right.1)

abbrev pub literal_in : List Lexeme → TokenKind → Option (Trees.Expression × ℕ × List Lexeme)
literal_in tokens (K.Number n kind) = any_word tokens >>= λ x. Some (Trees.number x.0 n kind, 1, x.1)
literal_in tokens (K.Character n) = any_word tokens >>= λ x. Some (Trees.character x.0 n, 1, x.1)
literal_in tokens _ = None

unfoldable pub primary_in : List (List ℕ) → ℕ → Inner → Reader Trees.Expression
primary_in types k inner tokens = primary (front tokens)
  where
    primary : Option TokenKind → Option (Trees.Expression × ℕ × List Lexeme)
    primary None = None
    primary (Some K.Name) = if names_type types tokens then None else (any_word tokens >>= λ x. Some (Trees.name x.0, 1, x.1))
    primary (Some K.Text) = texts_in tokens
    primary (Some (K.Punctuator M.Open)) = paren_in k inner tokens
    primary (Some kind) = literal_in tokens kind

-- ---- postfix expressions

unfoldable pub argument_in : Inner → Step (List (Option ℕ × Trees.Expression))
argument_in inner all d tokens =
    if peek M.Close tokens then Some (all, d, tokens, false)
    else (comma_before all tokens >>= λ c. inner.assignment c.1 >>= λ a. Some (all ++ (c.0, a.0) ∷ [], max d a.1, a.2, true))

-- the arguments after "(", with the place of ")"
unfoldable pub arguments_in : Inner → Reader (Trees.Arguments × ℕ)
arguments_in inner tokens = do
  all ← chain (argument_in inner) (length tokens + 1) [] 0 tokens
  right ← expect M.Close all.2
  Some ((arguments_of all.0, right.0), all.1, right.1)

unfoldable pub index_in : ℕ → Inner → Trees.Expression → ℕ → ℕ → Reader Trees.Expression
index_in k inner x d left tokens = do
  b ← inner.expression tokens
  right ← expect M.CloseSquare b.2
  n ← deeper k (max d b.1)
  Some (Trees.index x left b.0 right.0, n, right.1)

unfoldable pub call_in : ℕ → Inner → Trees.Expression → ℕ → ℕ → Reader Trees.Expression
call_in k inner x d left tokens = do
  all ← arguments_in inner tokens
  n ← deeper k (max d all.1)
  Some (Trees.call x left all.0.0 all.0.1, n, all.2)

unfoldable pub dot_in : ℕ → Trees.Expression → ℕ → ℕ → Reader Trees.Expression
dot_in k x d at tokens = do
  name ← any_name tokens
  n ← deeper k d
  Some (Trees.dot x at name.0, n, name.1)

unfoldable pub arrow_in : ℕ → Trees.Expression → ℕ → ℕ → Reader Trees.Expression
arrow_in k x d at tokens = do
  name ← any_name tokens
  n ← deeper k d
  Some (Trees.arrow x at name.0, n, name.1)

unfoldable pub stepped_in : ℕ → Trees.Expression → ℕ → StepOp → ℕ → Reader Trees.Expression
stepped_in k x d op at tokens = do
  n ← deeper k d
  Some (Trees.post x op at, n, tokens)

abbrev pub going_on : Option (Trees.Expression × ℕ × List Lexeme) → Option (Trees.Expression × ℕ × List Lexeme × Bool)
going_on o = o >>= λ r. Some (r.0, r.1, r.2, true)

unfoldable pub postfix_step : ℕ → Inner → Step Trees.Expression
postfix_step k inner x d tokens = by_kind (front tokens)
  where
    by_kind : Option TokenKind → Option (Trees.Expression × ℕ × List Lexeme × Bool)
    by_kind (Some (K.Punctuator M.OpenSquare)) = going_on (index_in k inner x d (advance tokens).0 (advance tokens).1)
    by_kind (Some (K.Punctuator M.Open)) = going_on (call_in k inner x d (advance tokens).0 (advance tokens).1)
    by_kind (Some (K.Punctuator M.Dot)) = going_on (dot_in k x d (advance tokens).0 (advance tokens).1)
    by_kind (Some (K.Punctuator M.Arrow)) = going_on (arrow_in k x d (advance tokens).0 (advance tokens).1)
    by_kind (Some (K.Punctuator M.PlusPlus)) = going_on (stepped_in k x d P.Increment (advance tokens).0 (advance tokens).1)
    by_kind (Some (K.Punctuator M.MinusMinus)) = going_on (stepped_in k x d P.Decrement (advance tokens).0 (advance tokens).1)
    by_kind _ = Some (x, d, tokens, false)

unfoldable pub postfix_in : List (List ℕ) → ℕ → Inner → Reader Trees.Expression
postfix_in types k inner tokens = do
  x ← primary_in types k inner tokens
  chain (postfix_step k inner) (suc k) x.0 x.1 x.2

-- ---- unary and cast expressions

unfoldable pub pre_in : ℕ → Inner → StepOp → ℕ → Reader Trees.Expression
pre_in k inner op at tokens = do
  a ← inner.unary tokens
  d ← deeper k a.1
  Some (Trees.pre op at a.0, d, a.2)

unfoldable pub unary_in : ℕ → Inner → UnaryOp → ℕ → Reader Trees.Expression
unary_in k inner op at tokens = do
  a ← inner.operand tokens
  d ← deeper k a.1
  Some (Trees.unary op at a.0, d, a.2)

unfoldable pub sizeof_in : List (List ℕ) → ℕ → Inner → ℕ → Reader Trees.Expression
sizeof_in types k inner at tokens =
    if begins_type_name types tokens
    then (enclosed_type_name_in inner tokens >>= λ t. deeper k t.1 >>= λ d. Some (Trees.sizeof_type at t.0.0 t.0.1 t.0.2, d, t.2))
    else (inner.unary tokens >>= λ a. deeper k a.1 >>= λ d. Some (Trees.sizeof_expression at a.0, d, a.2))

unfoldable pub cast_in : ℕ → Inner → Reader Trees.Expression
cast_in k inner tokens = do
  t ← enclosed_type_name_in inner tokens
  a ← inner.operand t.2
  d ← deeper k (max t.1 a.1)
  Some (Trees.cast t.0.0 t.0.1 t.0.2 a.0, d, a.2)

abbrev pub is_sizeof : TokenKind → Bool
is_sizeof = is_keyword W.Sizeof

-- a unary expression by its first token, or a postfix one
abbrev pub prefixed_in : List (List ℕ) → ℕ → Inner → List Lexeme → Option StepOp → Option UnaryOp → Option (Trees.Expression × ℕ × List Lexeme)
prefixed_in types k inner tokens (Some op) o = pre_in k inner op (advance tokens).0 (advance tokens).1
prefixed_in types k inner tokens None (Some op) = unary_in k inner op (advance tokens).0 (advance tokens).1
prefixed_in types k inner tokens None None =
    if fronted is_sizeof tokens then sizeof_in types k inner (advance tokens).0 (advance tokens).1 else postfix_in types k inner tokens

unfoldable pub unary_expression_in : List (List ℕ) → ℕ → Inner → Reader Trees.Expression
unary_expression_in types k inner tokens = prefixed_in types k inner tokens (step_at tokens) (unary_at tokens)

unfoldable pub operand_in : List (List ℕ) → ℕ → Inner → Reader Trees.Expression
operand_in types k inner tokens =
    if begins_type_name types tokens then cast_in k inner tokens else unary_expression_in types k inner tokens

-- ---- binary operators, from a least strength on

abbrev pub operated_in : ℕ → Inner → ℕ → Trees.Expression → ℕ → List Lexeme → Option BinaryOp → Option (Trees.Expression × ℕ × List Lexeme × Bool)
operated_in k inner least x d tokens None = Some (x, d, tokens, false)
operated_in k inner least x d tokens (Some op) =
    if leb least (strength op)
    then (inner.operators (strength op + 1) (advance tokens).1 >>= λ b. deeper k (max d b.1)
    >>= λ n. Some (Trees.binary x op (advance tokens).0 b.0, n, b.2, true))
    else Some (x, d, tokens, false)

unfoldable pub operator_step : ℕ → Inner → ℕ → Step Trees.Expression
operator_step k inner least x d tokens = operated_in k inner least x d tokens (binary_at tokens)

unfoldable pub operators_in : List (List ℕ) → ℕ → Inner → ℕ → Reader Trees.Expression
operators_in types k inner least tokens = do
  x ← operand_in types k inner tokens
  chain (operator_step k inner least) (suc k) x.0 x.1 x.2

-- ---- conditional expressions, assignments and the comma

unfoldable pub chosen_in : ℕ → Inner → Trees.Expression → ℕ → ℕ → Reader Trees.Expression
chosen_in k inner a d question tokens = do
  b ← inner.expression tokens
  colon ← expect M.Colon b.2
  c ← inner.conditional colon.1
  n ← deeper k (max (max d b.1) c.1)
  Some (Trees.cond a question b.0 colon.0 c.0, n, c.2)

abbrev pub conditional_after : ℕ → Inner → Trees.Expression → ℕ → List Lexeme → Option (ℕ × List Lexeme) → Option (Trees.Expression × ℕ × List Lexeme)
conditional_after k inner a d rest None = Some (a, d, rest)
conditional_after k inner a d rest (Some question) = chosen_in k inner a d question.0 question.1

unfoldable pub conditional_in : List (List ℕ) → ℕ → Inner → Reader Trees.Expression
conditional_in types k inner tokens = do
  a ← operators_in types k inner 3 tokens
  conditional_after k inner a.0 a.1 a.2 (expect M.Question a.2)

abbrev pub assigned_in : ℕ → Inner → Trees.Expression → ℕ → List Lexeme → Option AssignOp → Option (Trees.Expression × ℕ × List Lexeme)
assigned_in k inner a d tokens None = Some (a, d, tokens)
assigned_in k inner a d tokens (Some op) =
    if leb 14 (level a)
    then (inner.assignment (advance tokens).1 >>= λ b. deeper k (max d b.1) >>= λ n. Some (Trees.assign a op (advance tokens).0 b.0, n, b.2))
    else None

unfoldable pub assignment_after : ℕ → Inner → Trees.Expression → ℕ → Reader Trees.Expression
assignment_after k inner a d tokens = assigned_in k inner a d tokens (assign_at tokens)

unfoldable pub assignment_in : List (List ℕ) → ℕ → Inner → Reader Trees.Expression
assignment_in types k inner tokens = do
  a ← conditional_in types k inner tokens
  assignment_after k inner a.0 a.1 a.2

abbrev pub comma_after : ℕ → Inner → Trees.Expression → ℕ → List Lexeme → Option (ℕ × List Lexeme) → Option (Trees.Expression × ℕ × List Lexeme × Bool)
comma_after k inner x d tokens None = Some (x, d, tokens, false)
comma_after k inner x d tokens (Some comma) = inner.assignment comma.1 >>= λ b. deeper k (max d b.1) >>= λ n. Some (Trees.comma x comma.0 b.0, n, b.2, true)

unfoldable pub comma_step : ℕ → Inner → Step Trees.Expression
comma_step k inner x d tokens = comma_after k inner x d tokens (expect M.Comma tokens)

unfoldable pub expression_in : List (List ℕ) → ℕ → Inner → Reader Trees.Expression
expression_in types k inner tokens = do
  x ← assignment_in types k inner tokens
  chain (comma_step k inner) (suc k) x.0 x.1 x.2

-- ---- lists

-- a comma at the front, if there is one
abbrev pub comma_if_any : List Lexeme → Option ℕ × List Lexeme
comma_if_any tokens = if_found (expect M.Comma tokens)
  where
    if_found : Option (ℕ × List Lexeme) → Option ℕ × List Lexeme
    if_found None = (None, tokens)
    if_found (Some c) = (Some c.0, c.1)

-- a name at the front, if there is one
abbrev pub tag_if_any : List Lexeme → Option Spelling × List Lexeme
tag_if_any tokens = if_found (any_name tokens)
  where
    if_found : Option (Spelling × List Lexeme) → Option Spelling × List Lexeme
    if_found None = (None, tokens)
    if_found (Some x) = (Some x.0, x.1)

-- ---- structures and enumerations

-- one declarator of a member declaration more, as long as a comma follows
unfoldable pub member_declarator_step : Inner → Step (List (Option ℕ × Trees.Declarator))
member_declarator_step inner all d tokens =
    comma_before all tokens >>= λ c. inner.declarator c.1 >>= λ s.
    if has_name s.0 then Some (all ++ (c.0, s.0) ∷ [], max d s.1, s.2, peek M.Comma s.2) else None

unfoldable pub member_declaration_in : ℕ → Inner → Reader (Trees.Specifiers × Trees.MemberDeclarators × ℕ)
member_declaration_in k inner tokens = do
  specs ← inner.specifiers tokens
  all ← chain (member_declarator_step inner) (length specs.2 + 1) [] specs.1 specs.2
  semicolon ← expect M.Semicolon all.2
  d ← deeper k all.1
  Some ((specs.0, member_declarators_of all.0, semicolon.0), d, semicolon.1)

unfoldable pub member_declaration_step : Inner → Step (List (Trees.Specifiers × Trees.MemberDeclarators × ℕ))
member_declaration_step inner all d tokens =
    inner.member_declaration tokens >>= λ member_declaration. Some
    (all ++ member_declaration.0 ∷ [], max d member_declaration.1, member_declaration.2, not (peek M.CloseBrace member_declaration.2))

-- the body of a structure, from "{" on
unfoldable pub struct_body_in : ℕ → Inner → ℕ → Option Spelling → Reader Trees.Specifier
struct_body_in k inner at x tokens = do
  left ← expect M.OpenBrace tokens
  all ← chain (member_declaration_step inner) (length left.1 + 1) [] 0 left.1
  right ← expect M.CloseBrace all.2
  d ← deeper k all.1
  Some (Trees.struct_body at x left.0 (member_declarations_of all.0) right.0, d, right.1)

abbrev pub enumerator_value_after : ℕ → Inner → Spelling → List Lexeme → Option (ℕ × List Lexeme)
    → Option ((Spelling × Trees.EnumeratorValue) × ℕ × List Lexeme)
enumerator_value_after k inner x rest None = Some ((x, Trees.no_value), 1, rest)
enumerator_value_after k inner x rest (Some equal) = inner.conditional equal.1 >>= λ a. deeper k a.1 >>= λ d. Some ((x, Trees.valued equal.0 a.0), d, a.2)

unfoldable pub enumerator_in : List (List ℕ) → ℕ → Inner → Reader (Spelling × Trees.EnumeratorValue)
enumerator_in types k inner tokens = do
  x ← plain_name types tokens
  enumerator_value_after k inner x.0 x.1 (expect M.Equal x.1)

-- does another of a list follow: a comma, and no "}" after it?
abbrev pub another : List Lexeme → Bool
another [] = false
another (t ∷ rest) = is_comma t.kind && not (peek M.CloseBrace rest)

unfoldable pub enumerator_step : Inner → Step (List (Option ℕ × Spelling × Trees.EnumeratorValue))
enumerator_step inner all d tokens =
    comma_before all tokens >>= λ c. inner.enumerator c.1 >>= λ e.
    Some (all ++ (c.0, e.0.0, e.0.1) ∷ [], max d e.1, e.2, another e.2)

-- the body of an enumeration, from "{" on
unfoldable pub enum_body_in : ℕ → Inner → ℕ → Option Spelling → Reader Trees.Specifier
enum_body_in k inner at x tokens = do
  left ← expect M.OpenBrace tokens
  all ← chain (enumerator_step inner) (length left.1 + 1) [] 0 left.1
  right ← expect M.CloseBrace ((comma_if_any all.2).1)
  d ← deeper k all.1
  Some (Trees.enum_body at x left.0 (enumerators_of all.0) ((comma_if_any all.2).0) right.0, d, right.1)

-- ---- specifiers

-- after `struct` or `enum`: a name without a body, or a body with or without a name
abbrev pub tagged_in : (Spelling → Trees.Specifier) → (Option Spelling → Reader Trees.Specifier) → Option Spelling × List Lexeme
    → Option (Trees.Specifier × ℕ × List Lexeme)
tagged_in named body (None, rest) = body None rest
tagged_in named body (Some x, rest) = if peek M.OpenBrace rest then body (Some x) rest else Some (named x, 1, rest)

-- does the name of a type stand at the front?
abbrev pub begins_typename : List (List ℕ) → List Lexeme → Bool
begins_typename types [] = false
begins_typename types (t ∷ rest) = is_name t.kind && is_typename types t.text

abbrev pub specified_in : List (List ℕ) → ℕ → Inner → List Lexeme → Option SpecifierKeyword → Option (Trees.Specifier × ℕ × List Lexeme)
specified_in types k inner tokens (Some word) = Some (Trees.plain word (advance tokens).0, 1, (advance tokens).1)
specified_in types k inner tokens None =
    if fronted is_struct tokens then tagged_in (Trees.struct_named (advance tokens).0) (struct_body_in k inner (advance tokens).0)
    (tag_if_any (advance tokens).1)
    else if fronted is_enum tokens then tagged_in (Trees.enum_named (advance tokens).0) (enum_body_in k inner (advance tokens).0)
    (tag_if_any (advance tokens).1)
    else if begins_typename types tokens then (any_word tokens >>= λ x. Some (Trees.typename x.0, 1, x.1))
    else None

unfoldable pub specifier_in : List (List ℕ) → ℕ → Inner → Reader Trees.Specifier
specifier_in types k inner tokens = specified_in types k inner tokens (specifier_at tokens)

unfoldable pub specifier_step : List (List ℕ) → ℕ → Inner → Step (List Trees.Specifier)
specifier_step types k inner all d tokens =
    specifier_in types k inner tokens >>= λ s. Some (all ++ s.0 ∷ [], max d s.1, s.2, begins_specifier types s.2)

unfoldable pub specifiers_in : List (List ℕ) → ℕ → Inner → Reader Trees.Specifiers
specifiers_in types k inner tokens = do
  all ← chain (specifier_step types k inner) (length tokens + 1) [] 0 tokens
  Some (specifiers_of all.0, all.1, all.2)

-- ---- declarators

unfoldable pub const_step : Step (List ℕ)
const_step all d tokens =
    if fronted is_const tokens then Some (all ++ (advance tokens).0 ∷ [], d, (advance tokens).1, true) else Some (all, d, tokens, false)

unfoldable pub pointer_in : ℕ → Inner → ℕ → Reader Trees.Declarator
pointer_in k inner at tokens = do
  consts ← chain const_step (length tokens + 1) [] 0 tokens
  d ← inner.declarator consts.2
  n ← deeper k d.1
  Some (Trees.pointer at consts.0 d.0, n, d.2)

abbrev pub is_nothing : Trees.Declarator → Bool
is_nothing Trees.nothing = true
is_nothing _ = false

unfoldable pub enclosed_in : ℕ → Inner → Reader Trees.Declarator
enclosed_in k inner tokens = do
  left ← expect M.Open tokens
  d ← inner.declarator left.1
  right ← expect M.Close d.2
  n ← deeper k d.1
  if is_nothing d.0 then None else Some (Trees.enclosed left.0 d.0 right.0, n, right.1)

-- do the parameters of a function begin after "(", or its end?
abbrev pub begins_parameters : List (List ℕ) → List Lexeme → Bool
begins_parameters types tokens = peek M.Close tokens || begins_specifier types tokens

-- does "(" begin a declarator in parentheses?
abbrev pub begins_enclosed : List (List ℕ) → List Lexeme → Bool
begins_enclosed types [] = false
begins_enclosed types (t ∷ rest) = is_left t.kind && not (begins_parameters types rest)

abbrev pub core_after : List (List ℕ) → ℕ → Inner → List Lexeme → Option (Spelling × List Lexeme) → Option (Trees.Declarator × ℕ × List Lexeme)
core_after types k inner tokens (Some x) = Some (Trees.named x.0, 1, x.1)
core_after types k inner tokens None = if begins_enclosed types tokens then enclosed_in k inner tokens else Some (Trees.nothing, 0, tokens)

-- what stands before the brackets and parentheses
unfoldable pub core_in : List (List ℕ) → ℕ → Inner → Reader Trees.Declarator
core_in types k inner tokens = core_after types k inner tokens (plain_name types tokens)

abbrev pub length_in : Inner → Reader Trees.OptionalExpression
length_in inner tokens = if peek M.CloseSquare tokens then Some
    (Trees.no_expression, 0, tokens) else (inner.conditional tokens >>= λ a. Some (Trees.some_expression a.0, a.1, a.2))

unfoldable pub array_in : ℕ → Inner → Trees.Declarator → ℕ → ℕ → Reader Trees.Declarator
array_in k inner x d left tokens = do
  n ← length_in inner tokens
  right ← expect M.CloseSquare n.2
  m ← deeper k (max d n.1)
  Some (Trees.array x left n.0 right.0, m, right.1)

unfoldable pub parameter_step : Inner → Step (List (Option ℕ × Trees.Specifiers × Trees.Declarator))
parameter_step inner all d tokens =
    if peek M.Close tokens then Some (all, d, tokens, false)
    else (comma_before all tokens >>= λ c. inner.specifiers c.1 >>= λ specs. inner.declarator specs.2 >>= λ s.
    Some (all ++ (c.0, specs.0, s.0) ∷ [], max d (max specs.1 s.1), s.2, true))

-- is `void` alone there, before ")"?
abbrev pub begins_void : List Lexeme → Bool
begins_void [] = false
begins_void (t ∷ rest) = is_void t.kind && peek M.Close rest

unfoldable pub parameters_in : Inner → Reader Trees.ParameterList
parameters_in inner tokens =
    if begins_void tokens then (after is_void tokens >>= λ v. Some (Trees.void_alone v.0, 0, v.1))
    else (chain (parameter_step inner) (length tokens + 1) [] 0 tokens >>= λ all. Some (Trees.listed (parameters_of all.0), all.1, all.2))

unfoldable pub function_in : ℕ → Inner → Trees.Declarator → ℕ → ℕ → Reader Trees.Declarator
function_in k inner x d left tokens = do
  all ← parameters_in inner tokens
  right ← expect M.Close all.2
  n ← deeper k (max d all.1)
  Some (Trees.function x left all.0 right.0, n, right.1)

abbrev pub shaping : Option (Trees.Declarator × ℕ × List Lexeme) → Option (Trees.Declarator × ℕ × List Lexeme × Bool)
shaping o = o >>= λ r. Some (r.0, r.1, r.2, true)

unfoldable pub suffix_step : ℕ → Inner → Step Trees.Declarator
suffix_step k inner x d tokens =
    if peek M.OpenSquare tokens then shaping (array_in k inner x d (advance tokens).0 (advance tokens).1)
    else if peek M.Open tokens then shaping (function_in k inner x d (advance tokens).0 (advance tokens).1)
    else Some (x, d, tokens, false)

unfoldable pub direct_in : List (List ℕ) → ℕ → Inner → Reader Trees.Declarator
direct_in types k inner tokens = do
  x ← core_in types k inner tokens
  chain (suffix_step k inner) (suc (suc k)) x.0 x.1 x.2

abbrev pub declarator_after : List (List ℕ) → ℕ → Inner → List Lexeme → Option (ℕ × List Lexeme) → Option (Trees.Declarator × ℕ × List Lexeme)
declarator_after types k inner tokens None = direct_in types k inner tokens
declarator_after types k inner tokens (Some star) = pointer_in k inner star.0 star.1

-- a declarator, with or without a name, or nothing
unfoldable pub declarator_in : List (List ℕ) → ℕ → Inner → Reader Trees.Declarator
declarator_in types k inner tokens = declarator_after types k inner tokens (expect M.Star tokens)

-- ---- all of them

-- no tree has depth 0, and a declarator that is nothing has
abbrev pub none : Inner
none = record {
  expression = λ _. None;
  assignment = λ _. None;
  conditional = λ _. None;
  operators = λ _ _. None;
  operand = λ _. None;
  unary = λ _. None;
  specifiers = λ _. None;
  member_declaration = λ _. None;
  enumerator = λ _. None;
  declarator = λ tokens. Some (Trees.nothing, 0, tokens);
}

abbrev pub around : List (List ℕ) → ℕ → Inner → Inner
around types k inner = record {
  expression = expression_in types k inner;
  assignment = assignment_in types k inner;
  conditional = conditional_in types k inner;
  operators = operators_in types k inner;
  operand = operand_in types k inner;
  unary = unary_expression_in types k inner;
  specifiers = specifiers_in types k inner;
  member_declaration = member_declaration_in k inner;
  enumerator = enumerator_in types k inner;
  declarator = declarator_in types k inner;
}

-- the readers of trees of depth at most n
abbrev pub at : List (List ℕ) → ℕ → Inner
at types zero = none
at types (suc k) = around types k (at types k)
