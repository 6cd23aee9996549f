-- What stands after a tree, and where each reader stops.
use Rattle.std.proofs.Common.{◌≡◌, ℕ, suc, ◌+◌, ◌≤◌, ◌<◌, List, [], ◌∷◌, Option, Some, None, Bool, true, false, refl, arith, leb}
use Rattle.std.proofs.lemmas.Bool.Decides.{nat_tests}
use Rattle.lay_base.specs.declared.faults.Keyword.TheVariants as W
use Rattle.c_tokens.specs.declared.punctuator.Punctuator.TheVariants as M
use Rattle.c_tokens.specs.declared.token.TokenKind.{TokenKind}
use Rattle.c_tokens.specs.declared.token.TokenKind.TheVariants as K
use Rattle.c_ast.specs.declared.words.Spelling.{Spelling}
use Rattle.c_ast.specs.declared.operators.BinaryOp.{BinaryOp}
use Rattle.c_ast.specs.declared.operators.BinaryOp.TheVariants as B
use Rattle.c_ast.specs.declared.operators.AssignOp.{AssignOp}
use Rattle.c_ast.specs.declared.operators.AssignOp.TheVariants as A
use Rattle.c_ast.specs.Trees
use Rattle.c_ast.specs.Spelling.{Lexeme, binary_punctuator, assign_punctuator}
use Rattle.c_ast.specs.WellFormed.{strength}
use Rattle.c_grammar.specs.Reading.{Inner, chain, after, fronted, is_comma, is_equal, is_question, is_star, is_const, plain_name, begins_enclosed}
use Rattle.c_grammar.specs.Reading.{binary_op, assign_op, text_in, postfix_step, operated_in, operator_step, conditional_after, assignment_after}
use Rattle.c_grammar.specs.Reading.{comma_step, suffix_step, const_step}

-- ---- how tightly a token binds to the expression before it: 0 not at all, 1 a comma, 2 an assignment operator,
-- 3 `?`, 4 to 13 a binary operator, by its strength, 16 a postfix punctuator, 17 a string after a string

abbrev pub pull_operator : Option BinaryOp → Option AssignOp → ℕ
pull_operator (Some op) a = strength op + 1
pull_operator None (Some op) = 2
pull_operator None None = 0

abbrev pub pull_kind : TokenKind → ℕ
pull_kind K.Text = 17
pull_kind (K.Punctuator M.OpenSquare) = 16
pull_kind (K.Punctuator M.Open) = 16
pull_kind (K.Punctuator M.Dot) = 16
pull_kind (K.Punctuator M.Arrow) = 16
pull_kind (K.Punctuator M.PlusPlus) = 16
pull_kind (K.Punctuator M.MinusMinus) = 16
pull_kind (K.Punctuator M.Question) = 3
pull_kind (K.Punctuator M.Comma) = 1
pull_kind kind = pull_operator (binary_op kind) (assign_op kind)

abbrev pub pull : List Lexeme → ℕ
pull [] = 0
pull (t ∷ rest) = pull_kind t.kind

-- ---- tests of numbers

pub within : (n m : ℕ) → n ≤ m → leb n m ≡ true
within n m h = grind (arith, nat_tests)

above : (n m : ℕ) → m < n → leb n m ≡ false
above n m h = grind (arith, nat_tests)

-- ---- operators

pub strength_least : (op : BinaryOp) → 3 ≤ strength op
strength_least B.Or = omega arith
strength_least op = omega arith

pub strength_most : (op : BinaryOp) → strength op ≤ 12
strength_most B.Or = omega arith
strength_most op = omega arith

pub pull_binary : (op : BinaryOp) → pull_kind (K.Punctuator (binary_punctuator op)) ≡ strength op + 1
pull_binary B.Or = refl
pull_binary op = refl

pub pull_assign : (op : AssignOp) → pull_kind (K.Punctuator (assign_punctuator op)) ≡ 2
pull_assign A.Plain = refl
pull_assign op = refl

pub binary_again : (op : BinaryOp) → binary_op (K.Punctuator (binary_punctuator op)) ≡ Some op
binary_again B.Or = refl
binary_again op = refl

pub assign_again : (op : AssignOp) → assign_op (K.Punctuator (assign_punctuator op)) ≡ Some op
assign_again A.Plain = refl
assign_again op = refl

-- ---- the token after, by its kind

abbrev lexeme : TokenKind → ℕ → ℕ → List ℕ → Lexeme
lexeme kind from to text = record { kind = kind; from = from; to = to; text = text }

text_ends : (kind : TokenKind) (from to : ℕ) (text : List ℕ) (all : List Spelling) (d : ℕ) (rest : List Lexeme) → pull_kind kind ≤ 16
    → text_in all d (lexeme kind from to text ∷ rest) ≡ Some (all, d, lexeme kind from to text ∷ rest, false)
unfolding text_in
text_ends K.Text from to text all d rest h = absurd (omega arith)
text_ends kind from to text all d rest h = refl

postfix_ends : (kind : TokenKind) (from to : ℕ) (text : List ℕ) (k : ℕ) (inner : Inner) (x : Trees.Expression) (d : ℕ) (rest : List Lexeme)
    → pull_kind kind ≤ 15 → postfix_step k inner x d (lexeme kind from to text ∷ rest) ≡ Some (x, d, lexeme kind from to text ∷ rest, false)
unfolding postfix_step
postfix_ends (K.Punctuator M.OpenSquare) from to text k inner x d rest h = absurd (omega arith)
postfix_ends (K.Punctuator M.Open) from to text k inner x d rest h = absurd (omega arith)
postfix_ends (K.Punctuator M.Dot) from to text k inner x d rest h = absurd (omega arith)
postfix_ends (K.Punctuator M.Arrow) from to text k inner x d rest h = absurd (omega arith)
postfix_ends (K.Punctuator M.PlusPlus) from to text k inner x d rest h = absurd (omega arith)
postfix_ends (K.Punctuator M.MinusMinus) from to text k inner x d rest h = absurd (omega arith)
postfix_ends kind from to text k inner x d rest h = refl

abbrev taken : Option BinaryOp → ℕ
taken None = 0
taken (Some op) = strength op + 1

operator_pull : (kind : TokenKind) → taken (binary_op kind) ≤ pull_kind kind
operator_pull (K.Punctuator M.BarBar) = omega arith
operator_pull kind = omega arith

operator_ends : (o : Option BinaryOp) (k : ℕ) (inner : Inner) (least : ℕ) (x : Trees.Expression) (d : ℕ) (t : Lexeme) (rest : List Lexeme)
    → taken o ≤ least → operated_in k inner least x d (t ∷ rest) o ≡ Some (x, d, t ∷ rest, false)
operator_ends None k inner least x d t rest h = refl
operator_ends (Some op) k inner least x d t rest h = rw (above least (strength op) (omega arith))

not_question : (kind : TokenKind) (from to : ℕ) (text : List ℕ) (rest : List Lexeme) → pull_kind kind ≤ 2
    → after is_question (lexeme kind from to text ∷ rest) ≡ None
not_question (K.Punctuator M.Question) from to text rest h = absurd (omega arith)
not_question kind from to text rest h = refl

not_assign : (kind : TokenKind) → pull_kind kind ≤ 1 → assign_op kind ≡ None
not_assign (K.Punctuator M.Equal) h = absurd (omega arith)
not_assign (K.Punctuator M.StarEqual) h = absurd (omega arith)
not_assign (K.Punctuator M.SlashEqual) h = absurd (omega arith)
not_assign (K.Punctuator M.PercentEqual) h = absurd (omega arith)
not_assign (K.Punctuator M.PlusEqual) h = absurd (omega arith)
not_assign (K.Punctuator M.MinusEqual) h = absurd (omega arith)
not_assign (K.Punctuator M.ShiftLeftEqual) h = absurd (omega arith)
not_assign (K.Punctuator M.ShiftRightEqual) h = absurd (omega arith)
not_assign (K.Punctuator M.AndEqual) h = absurd (omega arith)
not_assign (K.Punctuator M.CaretEqual) h = absurd (omega arith)
not_assign (K.Punctuator M.BarEqual) h = absurd (omega arith)
not_assign kind h = refl

not_comma : (kind : TokenKind) (from to : ℕ) (text : List ℕ) (rest : List Lexeme) → pull_kind kind ≡ 0 → after is_comma (lexeme kind from to text ∷ rest) ≡ None
not_comma (K.Punctuator M.Comma) from to text rest h = absurd (omega arith)
not_comma kind from to text rest h = refl

not_equal : (kind : TokenKind) (from to : ℕ) (text : List ℕ) (rest : List Lexeme) → pull_kind kind ≤ 1 → after is_equal (lexeme kind from to text ∷ rest) ≡ None
not_equal (K.Punctuator M.Equal) from to text rest h = absurd (omega arith)
not_equal kind from to text rest h = refl

-- ---- readers that stop there

pub text_stops : (all : List Spelling) (d : ℕ) (rest : List Lexeme) → pull rest ≤ 16 → text_in all d rest ≡ Some (all, d, rest, false)
unfolding text_in
text_stops all d [] h = refl
text_stops all d (t ∷ rest) h = text_ends t.kind t.from t.to t.text all d rest h

pub postfix_stops : (k s : ℕ) (inner : Inner) (x : Trees.Expression) (d : ℕ) (rest : List Lexeme) → pull rest ≤ 15
    → chain (postfix_step k inner) (suc s) x d rest ≡ Some (x, d, rest)
unfolding chain postfix_step
postfix_stops k s inner x d [] h = refl
postfix_stops k s inner x d (t ∷ rest) h = rw (postfix_ends t.kind t.from t.to t.text k inner x d rest h)

pub operators_stops : (k s least : ℕ) (inner : Inner) (x : Trees.Expression) (d : ℕ) (rest : List Lexeme) → pull rest ≤ least
    → chain (operator_step k inner least) (suc s) x d rest ≡ Some (x, d, rest)
unfolding chain operator_step
operators_stops k s least inner x d [] h = refl
operators_stops k s least inner x d (t ∷ rest) h = rw (operator_ends (binary_op t.kind) k inner least x d t rest (omega (arith, operator_pull t.kind)))

pub conditional_stops : (k : ℕ) (inner : Inner) (x : Trees.Expression) (d : ℕ) (rest : List Lexeme) → pull rest ≤ 2
    → conditional_after k inner x d rest (after is_question rest) ≡ Some (x, d, rest)
conditional_stops k inner x d [] h = refl
conditional_stops k inner x d (t ∷ rest) h = rw (not_question t.kind t.from t.to t.text rest h)

pub assignment_stops : (k : ℕ) (inner : Inner) (x : Trees.Expression) (d : ℕ) (rest : List Lexeme) → pull rest ≤ 1 → assignment_after k inner x d rest
    ≡ Some (x, d, rest)
unfolding assignment_after
assignment_stops k inner x d [] h = refl
assignment_stops k inner x d (t ∷ rest) h = rw (not_assign t.kind h)

pub comma_stops : (k s : ℕ) (inner : Inner) (x : Trees.Expression) (d : ℕ) (rest : List Lexeme) → pull rest ≡ 0
    → chain (comma_step k inner) (suc s) x d rest ≡ Some (x, d, rest)
unfolding chain comma_step
comma_stops k s inner x d [] h = refl
comma_stops k s inner x d (t ∷ rest) h = rw (not_comma t.kind t.from t.to t.text rest h)

pub no_equal : (rest : List Lexeme) → pull rest ≤ 1 → after is_equal rest ≡ None
no_equal [] h = refl
no_equal (t ∷ rest) h = not_equal t.kind t.from t.to t.text rest h

-- ---- declarators

-- does a token go on in a declarator, or begin one?
abbrev pub declarators_pull_kind : TokenKind → Bool
declarators_pull_kind (K.Punctuator M.Star) = true
declarators_pull_kind (K.Punctuator M.Open) = true
declarators_pull_kind (K.Punctuator M.OpenSquare) = true
declarators_pull_kind (K.Keyword W.Const) = true
declarators_pull_kind K.Name = true
declarators_pull_kind _ = false

abbrev pub declarators_pull : List Lexeme → Bool
declarators_pull [] = false
declarators_pull (t ∷ rest) = declarators_pull_kind t.kind

-- what may stand after the nothing in brackets or parentheses alone
pub record IsBare (types : List (List ℕ)) (rest : List Lexeme) : Type 0 where
  pub no_name : plain_name types rest ≡ None
  pub no_left : begins_enclosed types rest ≡ false
  pub no_star : after is_star rest ≡ None

bare_kind : (types : List (List ℕ)) (kind : TokenKind) (from to : ℕ) (text : List ℕ) (rest : List Lexeme) → declarators_pull_kind kind ≡ false
    → IsBare types (lexeme kind from to text ∷ rest)
bare_kind types (K.Punctuator M.Star) from to text rest h = cc
bare_kind types (K.Punctuator M.Open) from to text rest h = cc
bare_kind types K.Name from to text rest h = cc
bare_kind types kind from to text rest h = record { no_name = refl; no_left = refl; no_star = refl }

pub bare : (types : List (List ℕ)) (rest : List Lexeme) → declarators_pull rest ≡ false → IsBare types rest
bare types [] h = record { no_name = refl; no_left = refl; no_star = refl }
bare types (t ∷ rest) h = bare_kind types t.kind t.from t.to t.text rest h

suffix_ends : (kind : TokenKind) (from to : ℕ) (text : List ℕ) (k : ℕ) (inner : Inner) (x : Trees.Declarator) (d : ℕ) (rest : List Lexeme)
    → declarators_pull_kind kind ≡ false → suffix_step k inner x d (lexeme kind from to text ∷ rest) ≡ Some (x, d, lexeme kind from to text ∷ rest, false)
unfolding suffix_step
suffix_ends (K.Punctuator M.Open) from to text k inner x d rest h = cc
suffix_ends (K.Punctuator M.OpenSquare) from to text k inner x d rest h = cc
suffix_ends kind from to text k inner x d rest h = refl

pub suffix_stops : (k s : ℕ) (inner : Inner) (x : Trees.Declarator) (d : ℕ) (rest : List Lexeme) → declarators_pull rest ≡ false
    → chain (suffix_step k inner) (suc s) x d rest ≡ Some (x, d, rest)
unfolding chain suffix_step
suffix_stops k s inner x d [] h = refl
suffix_stops k s inner x d (t ∷ rest) h = rw (suffix_ends t.kind t.from t.to t.text k inner x d rest h)

pub no_const : (rest : List Lexeme) → fronted is_const rest ≡ false → (all : List ℕ) (d : ℕ) → const_step all d rest ≡ Some (all, d, rest, false)
unfolding const_step
no_const [] h all d = refl
no_const (t ∷ rest) h all d = rw h

const_kind : (kind : TokenKind) → declarators_pull_kind kind ≡ false → is_const kind ≡ false
const_kind (K.Keyword W.Const) h = cc
const_kind kind h = refl

pub not_const : (rest : List Lexeme) → declarators_pull rest ≡ false → fronted is_const rest ≡ false
not_const [] h = refl
not_const (t ∷ rest) h = const_kind t.kind h
