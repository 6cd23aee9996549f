-- What the smallest readers took from the front of the tokens.
use Rattle.std.proofs.Common.{◌≡◌, ℕ, ◌+◌, ◌≤◌, ◌<◌, List, [], ◌∷◌, Option, Some, None, Bool, true, false, ◌&&◌, not, refl, ap, ◌∙◌, subst, arith}
use Rattle.std.proofs.Common.{leb, cond, rules}
use Rattle.std.proofs.lemmas.Bool.Decides.{nat_tests}
use Rattle.std.proofs.lemmas.List.Elements.{All-head, All-tail}
use Rattle.lay_base.specs.declared.faults.Keyword.{Keyword}
use Rattle.lay_base.specs.declared.faults.Keyword.TheVariants as W
use Rattle.c_tokens.specs.declared.punctuator.Punctuator.{Punctuator as Punctuator}
use Rattle.c_tokens.specs.declared.punctuator.Punctuator.TheVariants as M
use Rattle.c_tokens.specs.declared.token.TokenKind.{TokenKind}
use Rattle.c_tokens.specs.declared.token.TokenKind.TheVariants as K
use Rattle.c_ast.specs.declared.words.Spelling.{Spelling}
use Rattle.c_ast.specs.declared.operators.SpecifierKeyword.{SpecifierKeyword}
use Rattle.c_ast.specs.Spelling.{Lexeme, punctuator, keyword, word, step_punctuator, unary_punctuator, binary_punctuator, assign_punctuator}
use Rattle.c_ast.specs.Spelling.{specifier_keyword, spelled_comma, spelled_tag}
use Rattle.c_ast.specs.WellFormed.{is_typename, IsComma}
use Rattle.c_grammar.proofs.Wholeness.{IsWhole, AreWhole}
use Rattle.c_grammar.specs.Reading.{◌>>=◌, after, deeper, spelling_of, any_name, plain_name, comma_before, comma_if_any, tag_if_any, is_left}
use Rattle.c_grammar.specs.Reading.{is_right, is_left_square, is_right_square, is_left_brace, is_right_brace, is_comma, is_semicolon, is_colon}
use Rattle.c_grammar.specs.Reading.{is_question, is_equal, is_star, is_const, is_void, is_name, is_sizeof, is_struct, is_enum, step_op, unary_op}
use Rattle.c_grammar.specs.Reading.{binary_op, assign_op, keyword_specifier}

-- ---- options and tests

pub bind_some : {A B : Type 0} (o : Option A) (f : A → Option B) (y : B) → (o >>= f) ≡ Some y → (x : A) × (o ≡ Some x) × (f x ≡ Some y)
bind_some None f y h = cc
bind_some (Some x) f y h = (x, refl, h)

-- the result of o, what holds of each of its results, and what f gave for it
pub bind_taken : {A B : Type 0} {o : Option A} {P : A → Type 0} (f : A → Option B) {y : B} → ((x : A) → o ≡ Some x → P x) → (o >>= f) ≡ Some y
    → (x : A) × P x × (f x ≡ Some y)
bind_taken {o = o} f {y} p h = let b = bind_some o f y h in (b.0, p b.0 b.1, b.2)

pub given : {A : Type 0} (P : A → Type 0) (y z : A) → Some y ≡ Some z → P y → P z
given P y z h p = let e : y ≡ z = cc in subst P e p

pub chosen : {A : Type 0} (b : Bool) (x z : Option A) (y : A) (P : Type 0) → cond b x z ≡ Some y → (b ≡ true → x ≡ Some y → P)
    → (b ≡ false → z ≡ Some y → P) → P
chosen true x z y P h p q = p refl h
chosen false x z y P h p q = q refl h

pub both : (a b : Bool) → (a && b) ≡ true → (a ≡ true) × (b ≡ true)
both true true h = (refl, refl)
both true false h = cc
both false b h = cc

pub negated : (b : Bool) → not b ≡ true → b ≡ false
negated true h = cc
negated false h = refl

pub from_leb : (n m : ℕ) → leb n m ≡ true → n ≤ m
from_leb n m h = grind (arith, nat_tests)

pub below : (n m : ℕ) → leb n m ≡ false → m < n
below n m h = grind (arith, nat_tests)

pub deeper_taken : (k d n : ℕ) → deeper k d ≡ Some n → (d ≤ k) × (n ≡ d + 1)
deeper_taken k d n h = chosen (leb d k) (Some (d + 1)) None n ((d ≤ k) × (n ≡ d + 1)) h (λ t h. (from_leb d k t, cc)) (λ t h. cc)

pub never : {A : Type 0} → false ≡ true → A
never h = cc

-- ---- kinds of tokens

abbrev pub lexeme : TokenKind → ℕ → ℕ → List ℕ → Lexeme
lexeme kind from to text = record { kind = kind; from = from; to = to; text = text }

pub left_kind : (kind : TokenKind) → is_left kind ≡ true → kind ≡ K.Punctuator M.Open
left_kind (K.Punctuator M.Open) h = refl
left_kind kind h = cc

right_kind : (kind : TokenKind) → is_right kind ≡ true → kind ≡ K.Punctuator M.Close
right_kind (K.Punctuator M.Close) h = refl
right_kind kind h = cc

pub left_square_kind : (kind : TokenKind) → is_left_square kind ≡ true → kind ≡ K.Punctuator M.OpenSquare
left_square_kind (K.Punctuator M.OpenSquare) h = refl
left_square_kind kind h = cc

right_square_kind : (kind : TokenKind) → is_right_square kind ≡ true → kind ≡ K.Punctuator M.CloseSquare
right_square_kind (K.Punctuator M.CloseSquare) h = refl
right_square_kind kind h = cc

left_brace_kind : (kind : TokenKind) → is_left_brace kind ≡ true → kind ≡ K.Punctuator M.OpenBrace
left_brace_kind (K.Punctuator M.OpenBrace) h = refl
left_brace_kind kind h = cc

right_brace_kind : (kind : TokenKind) → is_right_brace kind ≡ true → kind ≡ K.Punctuator M.CloseBrace
right_brace_kind (K.Punctuator M.CloseBrace) h = refl
right_brace_kind kind h = cc

comma_kind : (kind : TokenKind) → is_comma kind ≡ true → kind ≡ K.Punctuator M.Comma
comma_kind (K.Punctuator M.Comma) h = refl
comma_kind kind h = cc

semicolon_kind : (kind : TokenKind) → is_semicolon kind ≡ true → kind ≡ K.Punctuator M.Semicolon
semicolon_kind (K.Punctuator M.Semicolon) h = refl
semicolon_kind kind h = cc

colon_kind : (kind : TokenKind) → is_colon kind ≡ true → kind ≡ K.Punctuator M.Colon
colon_kind (K.Punctuator M.Colon) h = refl
colon_kind kind h = cc

question_kind : (kind : TokenKind) → is_question kind ≡ true → kind ≡ K.Punctuator M.Question
question_kind (K.Punctuator M.Question) h = refl
question_kind kind h = cc

equal_kind : (kind : TokenKind) → is_equal kind ≡ true → kind ≡ K.Punctuator M.Equal
equal_kind (K.Punctuator M.Equal) h = refl
equal_kind kind h = cc

star_kind : (kind : TokenKind) → is_star kind ≡ true → kind ≡ K.Punctuator M.Star
star_kind (K.Punctuator M.Star) h = refl
star_kind kind h = cc

pub const_kind : (kind : TokenKind) → is_const kind ≡ true → kind ≡ K.Keyword W.Const
const_kind (K.Keyword W.Const) h = refl
const_kind kind h = never h

void_kind : (kind : TokenKind) → is_void kind ≡ true → kind ≡ K.Keyword W.Void
void_kind (K.Keyword W.Void) h = refl
void_kind kind h = never h

pub sizeof_kind : (kind : TokenKind) → is_sizeof kind ≡ true → kind ≡ K.Keyword W.Sizeof
sizeof_kind (K.Keyword W.Sizeof) h = refl
sizeof_kind kind h = never h

pub struct_kind : (kind : TokenKind) → is_struct kind ≡ true → kind ≡ K.Keyword W.Struct
struct_kind (K.Keyword W.Struct) h = refl
struct_kind kind h = never h

pub enum_kind : (kind : TokenKind) → is_enum kind ≡ true → kind ≡ K.Keyword W.Enum
enum_kind (K.Keyword W.Enum) h = refl
enum_kind kind h = never h

name_kind : (kind : TokenKind) → is_name kind ≡ true → kind ≡ K.Name
name_kind K.Name h = refl
name_kind kind h = cc

-- the operator, if there is one, is of that punctuator
abbrev Punctuators : {O : Type 0} → (O → Punctuator) → TokenKind → Option O → Type 0
Punctuators punctuator_of kind None = Unit {0}
Punctuators punctuator_of kind (Some op) = kind ≡ K.Punctuator (punctuator_of op)

pub punctuators_some : {O : Type 0} (punctuator_of : O → Punctuator) (kind : TokenKind) (o : Option O) (op : O) → Punctuators punctuator_of kind o → o
    ≡ Some op → kind ≡ K.Punctuator (punctuator_of op)
punctuators_some punctuator_of kind None op m h = cc
punctuators_some punctuator_of kind (Some x) op m h = given (λ x. kind ≡ K.Punctuator (punctuator_of x)) x op h m

pub step_kind : (kind : TokenKind) → Punctuators step_punctuator kind (step_op kind)
step_kind (K.Punctuator M.PlusPlus) = refl
step_kind kind = search rules

pub unary_kind : (kind : TokenKind) → Punctuators unary_punctuator kind (unary_op kind)
unary_kind (K.Punctuator M.And) = refl
unary_kind kind = search rules

pub binary_kind : (kind : TokenKind) → Punctuators binary_punctuator kind (binary_op kind)
binary_kind (K.Punctuator M.BarBar) = refl
binary_kind kind = search rules

pub assign_kind : (kind : TokenKind) → Punctuators assign_punctuator kind (assign_op kind)
assign_kind (K.Punctuator M.Equal) = refl
assign_kind kind = search rules

abbrev Says : TokenKind → Option SpecifierKeyword → Type 0
Says kind None = Unit {0}
Says kind (Some s) = kind ≡ K.Keyword (specifier_keyword s)

pub says_some : (kind : TokenKind) (o : Option SpecifierKeyword) (s : SpecifierKeyword) → Says kind o → o ≡ Some s → kind ≡ K.Keyword (specifier_keyword s)
says_some kind None s m h = cc
says_some kind (Some x) s m h = given (λ x. kind ≡ K.Keyword (specifier_keyword x)) x s h m

pub specifier_kind : (kind : TokenKind) → Says kind (keyword_specifier kind)
specifier_kind (K.Keyword W.Typedef) = refl
specifier_kind kind = search rules

-- ---- whole tokens

pub punctuator_whole : (t : Lexeme) (m : Punctuator) → IsWhole t → t.kind ≡ K.Punctuator m → t ≡ punctuator m t.from
punctuator_whole t m w e = ap (λ kind. lexeme kind t.from t.to t.text) e ∙ (rw e at w)

pub keyword_whole : (t : Lexeme) (k : Keyword) → IsWhole t → t.kind ≡ K.Keyword k → t ≡ keyword k t.from
keyword_whole t k w e = ap (λ kind. lexeme kind t.from t.to t.text) e ∙ (rw e at w)

pub name_word : (t : Lexeme) → is_name t.kind ≡ true → t ≡ word K.Name (spelling_of t)
name_word t c = ap (λ kind. word kind (spelling_of t)) (name_kind t.kind c)

pub front_whole : (t : Lexeme) (rest : List Lexeme) → AreWhole (t ∷ rest) → IsWhole t
front_whole t rest w = All-head IsWhole t rest w

pub rest_whole : (t : Lexeme) (rest : List Lexeme) → AreWhole (t ∷ rest) → AreWhole rest
rest_whole t rest w = All-tail IsWhole t rest w

after_taken : (p : TokenKind → Bool) (front : ℕ → Lexeme) → ((t : Lexeme) → IsWhole t → p t.kind ≡ true → t ≡ front t.from)
    → (tokens : List Lexeme) → AreWhole tokens → (r : ℕ × List Lexeme) → after p tokens ≡ Some r → (tokens ≡ front r.0 ∷ r.1) × AreWhole r.1
after_taken p front f [] w r h = cc
after_taken p front f (t ∷ rest) w r h =
    chosen (p t.kind) _ _ r ((t ∷ rest ≡ front r.0 ∷ r.1) × AreWhole r.1) h
    (λ c h. given (λ r. (t ∷ rest ≡ front r.0 ∷ r.1) × AreWhole r.1) _ r h (ap (λ t. t ∷ rest) (f t (front_whole t rest w) c), rest_whole t rest w))
    (λ c h. cc)

pub left_taken : (tokens : List Lexeme) → AreWhole tokens → (r : ℕ × List Lexeme) → after is_left tokens ≡ Some r
    → (tokens ≡ punctuator M.Open r.0 ∷ r.1) × AreWhole r.1
left_taken = after_taken is_left (punctuator M.Open) (λ t w c. punctuator_whole t M.Open w (left_kind t.kind c))

pub right_taken : (tokens : List Lexeme) → AreWhole tokens → (r : ℕ × List Lexeme) → after is_right tokens ≡ Some r
    → (tokens ≡ punctuator M.Close r.0 ∷ r.1) × AreWhole r.1
right_taken = after_taken is_right (punctuator M.Close) (λ t w c. punctuator_whole t M.Close w (right_kind t.kind c))

pub right_square_taken : (tokens : List Lexeme) → AreWhole tokens → (r : ℕ × List Lexeme) → after is_right_square tokens ≡ Some r
    → (tokens ≡ punctuator M.CloseSquare r.0 ∷ r.1) × AreWhole r.1
right_square_taken = after_taken is_right_square (punctuator M.CloseSquare) (λ t w c. punctuator_whole t M.CloseSquare w (right_square_kind t.kind c))

pub left_brace_taken : (tokens : List Lexeme) → AreWhole tokens → (r : ℕ × List Lexeme) → after is_left_brace tokens ≡ Some r
    → (tokens ≡ punctuator M.OpenBrace r.0 ∷ r.1) × AreWhole r.1
left_brace_taken = after_taken is_left_brace (punctuator M.OpenBrace) (λ t w c. punctuator_whole t M.OpenBrace w (left_brace_kind t.kind c))

pub right_brace_taken : (tokens : List Lexeme) → AreWhole tokens → (r : ℕ × List Lexeme) → after is_right_brace tokens ≡ Some r
    → (tokens ≡ punctuator M.CloseBrace r.0 ∷ r.1) × AreWhole r.1
right_brace_taken = after_taken is_right_brace (punctuator M.CloseBrace) (λ t w c. punctuator_whole t M.CloseBrace w (right_brace_kind t.kind c))

pub comma_taken : (tokens : List Lexeme) → AreWhole tokens → (r : ℕ × List Lexeme) → after is_comma tokens ≡ Some r
    → (tokens ≡ punctuator M.Comma r.0 ∷ r.1) × AreWhole r.1
comma_taken = after_taken is_comma (punctuator M.Comma) (λ t w c. punctuator_whole t M.Comma w (comma_kind t.kind c))

pub semicolon_taken : (tokens : List Lexeme) → AreWhole tokens → (r : ℕ × List Lexeme) → after is_semicolon tokens ≡ Some r
    → (tokens ≡ punctuator M.Semicolon r.0 ∷ r.1) × AreWhole r.1
semicolon_taken = after_taken is_semicolon (punctuator M.Semicolon) (λ t w c. punctuator_whole t M.Semicolon w (semicolon_kind t.kind c))

pub colon_taken : (tokens : List Lexeme) → AreWhole tokens → (r : ℕ × List Lexeme) → after is_colon tokens ≡ Some r
    → (tokens ≡ punctuator M.Colon r.0 ∷ r.1) × AreWhole r.1
colon_taken = after_taken is_colon (punctuator M.Colon) (λ t w c. punctuator_whole t M.Colon w (colon_kind t.kind c))

pub question_taken : (tokens : List Lexeme) → AreWhole tokens → (r : ℕ × List Lexeme) → after is_question tokens ≡ Some r
    → (tokens ≡ punctuator M.Question r.0 ∷ r.1) × AreWhole r.1
question_taken = after_taken is_question (punctuator M.Question) (λ t w c. punctuator_whole t M.Question w (question_kind t.kind c))

pub equal_taken : (tokens : List Lexeme) → AreWhole tokens → (r : ℕ × List Lexeme) → after is_equal tokens ≡ Some r
    → (tokens ≡ punctuator M.Equal r.0 ∷ r.1) × AreWhole r.1
equal_taken = after_taken is_equal (punctuator M.Equal) (λ t w c. punctuator_whole t M.Equal w (equal_kind t.kind c))

pub star_taken : (tokens : List Lexeme) → AreWhole tokens → (r : ℕ × List Lexeme) → after is_star tokens ≡ Some r
    → (tokens ≡ punctuator M.Star r.0 ∷ r.1) × AreWhole r.1
star_taken = after_taken is_star (punctuator M.Star) (λ t w c. punctuator_whole t M.Star w (star_kind t.kind c))

pub void_taken : (tokens : List Lexeme) → AreWhole tokens → (r : ℕ × List Lexeme) → after is_void tokens ≡ Some r
    → (tokens ≡ keyword W.Void r.0 ∷ r.1) × AreWhole r.1
void_taken = after_taken is_void (keyword W.Void) (λ t w c. keyword_whole t W.Void w (void_kind t.kind c))

pub any_name_taken : (tokens : List Lexeme) → AreWhole tokens → (r : Spelling × List Lexeme) → any_name tokens ≡ Some r
    → (tokens ≡ word K.Name r.0 ∷ r.1) × AreWhole r.1
any_name_taken [] w r h = cc
any_name_taken (t ∷ rest) w r h =
    chosen (is_name t.kind) _ _ r ((t ∷ rest ≡ word K.Name r.0 ∷ r.1) × AreWhole r.1) h
    (λ c h. given (λ r. (t ∷ rest ≡ word K.Name r.0 ∷ r.1) × AreWhole r.1) _ r h (ap (λ t. t ∷ rest) (name_word t c), rest_whole t rest w))
    (λ c h. cc)

pub plain_name_taken : (types : List (List ℕ)) (tokens : List Lexeme) → AreWhole tokens → (r : Spelling × List Lexeme) → plain_name types tokens
    ≡ Some r → (tokens ≡ word K.Name r.0 ∷ r.1) × AreWhole r.1 × (is_typename types r.0.text ≡ false)
plain_name_taken types [] w r h = cc
plain_name_taken types (t ∷ rest) w r h =
    chosen (is_name t.kind && not (is_typename types t.text)) _ _ r ((t ∷ rest ≡ word K.Name r.0 ∷ r.1) × AreWhole r.1 × (is_typename types r.0.text ≡ false)) h
    (λ c h.
    let b = both (is_name t.kind) (not (is_typename types t.text)) c in
    given (λ r. (t ∷ rest ≡ word K.Name r.0 ∷ r.1) × AreWhole r.1 × (is_typename types r.0.text ≡ false)) _ r h
    (ap (λ t. t ∷ rest) (name_word t b.0), rest_whole t rest w, negated (is_typename types t.text) b.1))
    (λ c h. cc)

-- ---- commas

abbrev pub is_first : {A : Type 0} → List A → Bool
is_first [] = true
is_first (a ∷ all) = false

pub comma_before_taken : {A : Type 0} (all : List A) (tokens : List Lexeme) → AreWhole tokens → (c : Option ℕ × List Lexeme) → comma_before all tokens
    ≡ Some c → (tokens ≡ spelled_comma c.0 c.1) × IsComma (is_first all) c.0 × AreWhole c.1
comma_before_taken [] tokens w c h = given (λ c. (tokens ≡ spelled_comma c.0 c.1) × IsComma true c.0 × AreWhole c.1) (None, tokens) c h (refl, refl, w)
comma_before_taken (a ∷ all) tokens w c h =
    let b = bind_some (after is_comma tokens) _ c h in
    let p = comma_taken tokens w b.0 b.1 in
    given (λ c. (tokens ≡ spelled_comma c.0 c.1) × IsComma false c.0 × AreWhole c.1) (Some b.0.0, b.0.1) c b.2 (p.0, refl, p.1)

-- ---- what may be missing

comma_of_kind : (kind : TokenKind) (from to : ℕ) (text : List ℕ) (rest : List Lexeme) → AreWhole (lexeme kind from to text ∷ rest)
    → (lexeme kind from to text ∷ rest ≡ spelled_comma (comma_if_any (lexeme kind from to text ∷ rest)).0
    (comma_if_any (lexeme kind from to text ∷ rest)).1) × AreWhole (comma_if_any (lexeme kind from to text ∷ rest)).1
comma_of_kind (K.Punctuator M.Comma) from to text rest w = (
  ap (λ t. t ∷ rest) (front_whole (lexeme (K.Punctuator M.Comma) from to text) rest w),
  rest_whole (lexeme (K.Punctuator M.Comma) from to text) rest w,
)
comma_of_kind kind from to text rest w = (refl, w)

pub comma_if_any_taken : (tokens : List Lexeme) → AreWhole tokens
    → (tokens ≡ spelled_comma (comma_if_any tokens).0 (comma_if_any tokens).1) × AreWhole (comma_if_any tokens).1
comma_if_any_taken [] w = (refl, w)
comma_if_any_taken (t ∷ rest) w = comma_of_kind t.kind t.from t.to t.text rest w

tag_of_kind : (kind : TokenKind) (from to : ℕ) (text : List ℕ) (rest : List Lexeme) → AreWhole (lexeme kind from to text ∷ rest)
    → (lexeme kind from to text ∷ rest ≡ spelled_tag (tag_if_any (lexeme kind from to text ∷ rest)).0
    (tag_if_any (lexeme kind from to text ∷ rest)).1) × AreWhole (tag_if_any (lexeme kind from to text ∷ rest)).1
tag_of_kind K.Name from to text rest w = (refl, rest_whole (lexeme K.Name from to text) rest w)
tag_of_kind kind from to text rest w = (refl, w)

pub tag_if_any_taken : (tokens : List Lexeme) → AreWhole tokens
    → (tokens ≡ spelled_tag (tag_if_any tokens).0 (tag_if_any tokens).1) × AreWhole (tag_if_any tokens).1
tag_if_any_taken [] w = (refl, w)
tag_if_any_taken (t ∷ rest) w = tag_of_kind t.kind t.from t.to t.text rest w
