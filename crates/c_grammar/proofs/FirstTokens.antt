-- How trees begin.
use Rattle.std.proofs.Common.{◌≡◌, ℕ, List, [], ◌∷◌, None, Bool, true, false, refl, is_some}
use Rattle.lay_base.specs.declared.faults.Keyword.TheVariants as W
use Rattle.c_tokens.specs.declared.punctuator.Punctuator.TheVariants as M
use Rattle.c_tokens.specs.declared.token.TokenKind.{TokenKind}
use Rattle.c_tokens.specs.declared.token.TokenKind.TheVariants as K
use Rattle.c_ast.specs.declared.operators.StepOp.{StepOp}
use Rattle.c_ast.specs.declared.operators.StepOp.TheVariants as P
use Rattle.c_ast.specs.declared.operators.UnaryOp.{UnaryOp}
use Rattle.c_ast.specs.declared.operators.UnaryOp.TheVariants as U
use Rattle.c_ast.specs.declared.operators.SpecifierKeyword.{SpecifierKeyword}
use Rattle.c_ast.specs.declared.operators.SpecifierKeyword.TheVariants as S
use Rattle.c_ast.specs.Trees
use Rattle.c_ast.specs.Spelling.{Lexeme, punctuator, step_punctuator, unary_punctuator, specifier_keyword, spelled, spelled_specifiers}
use Rattle.c_ast.specs.Spelling.{spelled_specifier, spelled_declarator}
use Rattle.c_ast.specs.WellFormed.{IsExpression, IsSpecifier, AreSpecifiers, IsDeclarator, has_name}
use Rattle.c_grammar.specs.Reading.{after, fronted, is_right_brace, keyword_specifier, begins_specifier}

-- ---- the token at the front, by its kind

pub none_after : (p : TokenKind → Bool) (tokens : List Lexeme) → fronted p tokens ≡ false → after p tokens ≡ None
none_after p [] h = refl
none_after p (t ∷ rest) h = rw h

pub fronted_not : (q p : TokenKind → Bool) → ((kind : TokenKind) → q kind ≡ true → p kind ≡ false) → (tokens : List Lexeme) → fronted q tokens ≡ true
    → fronted p tokens ≡ false
fronted_not q p f [] h = refl
fronted_not q p f (t ∷ rest) h = f t.kind h

-- ---- expressions

-- may an expression begin with it?
abbrev pub begins_expression : TokenKind → Bool
begins_expression K.Name = true
begins_expression K.Text = true
begins_expression (K.Number n kind) = true
begins_expression (K.Character n) = true
begins_expression (K.Punctuator M.Open) = true
begins_expression (K.Punctuator M.PlusPlus) = true
begins_expression (K.Punctuator M.MinusMinus) = true
begins_expression (K.Punctuator M.And) = true
begins_expression (K.Punctuator M.Star) = true
begins_expression (K.Punctuator M.Plus) = true
begins_expression (K.Punctuator M.Minus) = true
begins_expression (K.Punctuator M.Tilde) = true
begins_expression (K.Punctuator M.Not) = true
begins_expression (K.Keyword W.Sizeof) = true
begins_expression _ = false

pub not_right_brace : (kind : TokenKind) → begins_expression kind ≡ true → is_right_brace kind ≡ false
not_right_brace (K.Punctuator M.CloseBrace) h = cc
not_right_brace kind h = refl

pub record IsExpressionStart (types : List (List ℕ)) (tokens : List Lexeme) : Type 0 where
  pub begins : fronted begins_expression tokens ≡ true
  pub no_specifier : begins_specifier types tokens ≡ false

step_start : (types : List (List ℕ)) (op : StepOp) (place : ℕ) (rest : List Lexeme) → IsExpressionStart types (punctuator (step_punctuator op) place ∷ rest)
step_start types P.Increment place rest = record { begins = refl; no_specifier = refl }
step_start types P.Decrement place rest = record { begins = refl; no_specifier = refl }

unary_start : (types : List (List ℕ)) (op : UnaryOp) (place : ℕ) (rest : List Lexeme) → IsExpressionStart types (punctuator (unary_punctuator op) place ∷ rest)
unary_start types U.Address place rest = record { begins = refl; no_specifier = refl }
unary_start types op place rest = record { begins = refl; no_specifier = refl }

pub expression_start : (types : List (List ℕ)) (t : Trees.Expression) → IsExpression types t → (rest : List Lexeme) → IsExpressionStart types (spelled t rest)
expression_start types (Trees.name x) w rest = record { begins = refl; no_specifier = w }
expression_start types (Trees.number x n kind) w rest = record { begins = refl; no_specifier = refl }
expression_start types (Trees.character x n) w rest = record { begins = refl; no_specifier = refl }
expression_start types (Trees.texts []) w rest = absurd (w refl)
expression_start types (Trees.texts (x ∷ more)) w rest = record { begins = refl; no_specifier = refl }
expression_start types (Trees.paren left a right) w rest = record { begins = refl; no_specifier = refl }
expression_start types (Trees.index a left b right) w rest = expression_start types a w.1 _
expression_start types (Trees.call f left all right) w rest = expression_start types f w.1 _
expression_start types (Trees.dot a place x) w rest = expression_start types a w.1 _
expression_start types (Trees.arrow a place x) w rest = expression_start types a w.1 _
expression_start types (Trees.post a op place) w rest = expression_start types a w.1 _
expression_start types (Trees.pre op place a) w rest = step_start types op place _
expression_start types (Trees.unary op place a) w rest = unary_start types op place _
expression_start types (Trees.sizeof_expression place a) w rest = record { begins = refl; no_specifier = refl }
expression_start types (Trees.sizeof_type place left t right) w rest = record { begins = refl; no_specifier = refl }
expression_start types (Trees.cast left t right a) w rest = record { begins = refl; no_specifier = refl }
expression_start types (Trees.binary a op place b) w rest = expression_start types a w.2 _
expression_start types (Trees.cond a question b colon e) w rest = expression_start types a w.2 _
expression_start types (Trees.assign a op place b) w rest = expression_start types a w.2 _
expression_start types (Trees.comma a place b) w rest = expression_start types a w.1 _
expression_start types (Trees.braces left all comma right) w rest = absurd w

-- ---- specifiers

word_again : (word : SpecifierKeyword) → is_some (keyword_specifier (K.Keyword (specifier_keyword word))) ≡ true
word_again S.Typedef = refl
word_again word = refl

specifier_start : (types : List (List ℕ)) (s : Trees.Specifier) → IsSpecifier types s → (rest : List Lexeme)
    → begins_specifier types (spelled_specifier s rest) ≡ true
specifier_start types (Trees.plain word place) w rest = rw (word_again word)
specifier_start types (Trees.typename x) w rest = w
specifier_start types (Trees.struct_named place x) w rest = refl
specifier_start types (Trees.struct_body place x left member_declarations right) w rest = refl
specifier_start types (Trees.enum_named place x) w rest = refl
specifier_start types (Trees.enum_body place x left all comma right) w rest = refl

pub specifiers_start : (types : List (List ℕ)) (s : Trees.Specifiers) → AreSpecifiers types s → (rest : List Lexeme)
    → begins_specifier types (spelled_specifiers s rest) ≡ true
specifiers_start types Trees.no_specifiers w rest = absurd w
specifiers_start types (Trees.and_specifier s more) w rest = specifier_start types s w.0 _

-- ---- declarators

-- may a declarator with a name begin with it?
abbrev pub begins_declarator : TokenKind → Bool
begins_declarator K.Name = true
begins_declarator (K.Punctuator M.Star) = true
begins_declarator (K.Punctuator M.Open) = true
begins_declarator _ = false

pub record IsDeclaratorStart (types : List (List ℕ)) (tokens : List Lexeme) : Type 0 where
  pub begins : fronted begins_declarator tokens ≡ true
  pub no_specifier : begins_specifier types tokens ≡ false

pub declarator_start : (types : List (List ℕ)) (s : Trees.Declarator) → IsDeclarator types s → has_name s ≡ true → (rest : List Lexeme)
    → IsDeclaratorStart types (spelled_declarator s rest)
declarator_start types Trees.nothing w h rest = cc
declarator_start types (Trees.named x) w h rest = record { begins = refl; no_specifier = w }
declarator_start types (Trees.pointer place consts d) w h rest = record { begins = refl; no_specifier = refl }
declarator_start types (Trees.enclosed left d right) w h rest = record { begins = refl; no_specifier = refl }
declarator_start types (Trees.array d left length right) w h rest = declarator_start types d w.1 h _
declarator_start types (Trees.function d left all right) w h rest = declarator_start types d w.1 h _
