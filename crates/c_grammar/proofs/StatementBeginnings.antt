-- How statements and the items of blocks begin.
use Rattle.std.proofs.Common.{◌≡◌, ℕ, List, [], ◌∷◌, Some, None, Bool, true, false, refl, is_some, ◌||◌, ◌&&◌}
use Rattle.lay_base.specs.declared.faults.Keyword.TheVariants as W
use Rattle.c_tokens.specs.declared.punctuator.Punctuator.TheVariants as M
use Rattle.c_tokens.specs.declared.token.TokenKind.{TokenKind}
use Rattle.c_tokens.specs.declared.token.TokenKind.TheVariants as K
use Rattle.c_ast.specs.Trees
use Rattle.c_ast.specs.Spelling.{Lexeme, punctuator, spelled, spelled_init_declarators, spelled_declaration, spelled_labels, spelled_statement}
use Rattle.c_ast.specs.Spelling.{spelled_block_item, spelled_switch_item}
use Rattle.c_ast.specs.WellFormed.{is_typename, IsDeclaration, IsStatement, IsBlockItem, IsSwitchItem}
use Rattle.c_grammar.specs.Reading.{fronted, is_right_brace, is_name, is_struct, is_enum, keyword_specifier, begins_specifier}
use Rattle.c_grammar.specs.StatementReading.{Below, is_else, label_of_kind, label_step, evaluate_in, statement_of_kind, statement_in}
use Rattle.c_grammar.proofs.FirstTokens.{fronted_not, begins_expression, not_right_brace, IsExpressionStart, expression_start, specifiers_start}

abbrev pub is_label : TokenKind → Bool
is_label (K.Keyword W.Case) = true
is_label (K.Keyword W.Default) = true
is_label _ = false

-- ---- statements

pub record IsStatementStart (types : List (List ℕ)) (tokens : List Lexeme) : Type 0 where
  pub no_specifier : begins_specifier types tokens ≡ false
  pub not_end : fronted is_right_brace tokens ≡ false
  pub not_else : fronted is_else tokens ≡ false
  pub not_label : fronted is_label tokens ≡ false

not_else_word : (kind : TokenKind) → begins_expression kind ≡ true → is_else kind ≡ false
not_else_word (K.Keyword W.Else) h = cc
not_else_word kind h = refl

not_label_word : (kind : TokenKind) → begins_expression kind ≡ true → is_label kind ≡ false
not_label_word (K.Keyword W.Case) h = cc
not_label_word (K.Keyword W.Default) h = cc
not_label_word kind h = refl

evaluate_start : (types : List (List ℕ)) (tokens : List Lexeme) → IsExpressionStart types tokens → IsStatementStart types tokens
evaluate_start types tokens s = record {
  no_specifier = s.no_specifier;
  not_end = fronted_not begins_expression is_right_brace not_right_brace tokens s.begins;
  not_else = fronted_not begins_expression is_else not_else_word tokens s.begins;
  not_label = fronted_not begins_expression is_label not_label_word tokens s.begins;
}

pub statement_start : (types : List (List ℕ)) (a : Trees.Statement) → IsStatement types a → (rest : List Lexeme)
    → IsStatementStart types (spelled_statement a rest)
statement_start types (Trees.evaluate (Some a) semicolon) w rest =
    evaluate_start types (spelled a (punctuator M.Semicolon semicolon ∷ rest)) (expression_start types a w (punctuator M.Semicolon semicolon ∷ rest))
statement_start types (Trees.evaluate None semicolon) w rest = record { no_specifier = refl; not_end = refl; not_else = refl; not_label = refl }
statement_start types a w rest = record { no_specifier = refl; not_end = refl; not_else = refl; not_label = refl }

abbrev lexeme : TokenKind → ℕ → ℕ → List ℕ → Lexeme
lexeme kind from to text = record { kind = kind; from = from; to = to; text = text }

plain_kind : (k : ℕ) (below : Below) (from to : ℕ) (text : List ℕ) (rest : List Lexeme) (kind : TokenKind) → begins_expression kind ≡ true
    → statement_of_kind k below (lexeme kind from to text ∷ rest) kind ≡ evaluate_in k below (lexeme kind from to text ∷ rest)
plain_kind k below from to text rest (K.Keyword W.If) h = cc
plain_kind k below from to text rest (K.Keyword W.While) h = cc
plain_kind k below from to text rest (K.Keyword W.Do) h = cc
plain_kind k below from to text rest (K.Keyword W.For) h = cc
plain_kind k below from to text rest (K.Keyword W.Switch) h = cc
plain_kind k below from to text rest (K.Keyword W.Break) h = cc
plain_kind k below from to text rest (K.Keyword W.Continue) h = cc
plain_kind k below from to text rest (K.Keyword W.Return) h = cc
plain_kind k below from to text rest (K.Punctuator M.OpenBrace) h = cc
plain_kind k below from to text rest kind h = refl

-- a statement that begins as an expression is one
pub plain : (k : ℕ) (below : Below) (tokens : List Lexeme) → fronted begins_expression tokens ≡ true → statement_in k below tokens ≡ evaluate_in k below tokens
unfolding statement_in
plain k below [] h = cc
plain k below (t ∷ rest) h = plain_kind k below t.from t.to t.text rest t.kind h

-- ---- labels

label_kind : (below : Below) (all : List Trees.Label) (d : ℕ) (t : Lexeme) (rest : List Lexeme) (kind : TokenKind) → is_label kind ≡ false
    → label_of_kind below all d (t ∷ rest) (Some kind) ≡ Some (all, d, t ∷ rest, false)
label_kind below all d t rest (K.Keyword W.Case) h = cc
label_kind below all d t rest (K.Keyword W.Default) h = cc
label_kind below all d t rest kind h = refl

pub label_stops : (below : Below) (all : List Trees.Label) (d : ℕ) (tokens : List Lexeme) → fronted is_label tokens ≡ false
    → label_step below all d tokens ≡ Some (all, d, tokens, false)
unfolding label_step
label_stops below all d [] h = refl
label_stops below all d (t ∷ rest) h = label_kind below all d t rest t.kind h

pub labelled_start : (types : List (List ℕ)) (labels : List Trees.Label) (a : Trees.Statement) → IsStatement types a → (rest : List Lexeme)
    → begins_specifier types (spelled_labels labels (spelled_statement a rest)) ≡ false
labelled_start types [] a w rest = (statement_start types a w rest).no_specifier
labelled_start types (Trees.case place b colon ∷ more) a w rest = refl
labelled_start types (Trees.default place colon ∷ more) a w rest = refl

-- ---- items

pub record IsItemStart (tokens : List Lexeme) : Type 0 where
  pub not_end : fronted is_right_brace tokens ≡ false
  pub not_else : fronted is_else tokens ≡ false

abbrev specifies : List (List ℕ) → TokenKind → List ℕ → Bool
specifies types kind text = is_some (keyword_specifier kind) || is_struct kind || is_enum kind || (is_name kind && is_typename types text)

specifier_not_end : (types : List (List ℕ)) (kind : TokenKind) (text : List ℕ) → specifies types kind text ≡ true → is_right_brace kind ≡ false
specifier_not_end types (K.Punctuator M.CloseBrace) text h = cc
specifier_not_end types kind text h = refl

specifier_not_else : (types : List (List ℕ)) (kind : TokenKind) (text : List ℕ) → specifies types kind text ≡ true → is_else kind ≡ false
specifier_not_else types (K.Keyword W.Else) text h = cc
specifier_not_else types kind text h = refl

specifier_item : (types : List (List ℕ)) (tokens : List Lexeme) → begins_specifier types tokens ≡ true → IsItemStart tokens
specifier_item types [] h = cc
specifier_item types (t ∷ rest) h = record { not_end = specifier_not_end types t.kind t.text h; not_else = specifier_not_else types t.kind t.text h }

pub declaration_start : (types : List (List ℕ)) (d : Trees.Declaration) → IsDeclaration types d → (rest : List Lexeme)
    → begins_specifier types (spelled_declaration d rest) ≡ true
declaration_start types d w rest = specifiers_start types d.specs w.0 (spelled_init_declarators d.all (punctuator M.Semicolon d.semicolon ∷ rest))

statement_item : (types : List (List ℕ)) (tokens : List Lexeme) → IsStatementStart types tokens → IsItemStart tokens
statement_item types tokens s = record { not_end = s.not_end; not_else = s.not_else }

pub block_item_start : (types : List (List ℕ)) (e : Trees.BlockItem) → IsBlockItem types e → (rest : List Lexeme) → IsItemStart (spelled_block_item e rest)
block_item_start types (Trees.local d) w rest = specifier_item types (spelled_declaration d rest) (declaration_start types d w rest)
block_item_start types (Trees.statement a) w rest = statement_item types (spelled_statement a rest) (statement_start types a w rest)

labels_item : (types : List (List ℕ)) (labels : List Trees.Label) (a : Trees.Statement) → IsStatement types a → (rest : List Lexeme)
    → IsItemStart (spelled_labels labels (spelled_statement a rest))
labels_item types [] a w rest = statement_item types (spelled_statement a rest) (statement_start types a w rest)
labels_item types (Trees.case place b colon ∷ more) a w rest = record { not_end = refl; not_else = refl }
labels_item types (Trees.default place colon ∷ more) a w rest = record { not_end = refl; not_else = refl }

pub switch_item_start : (types : List (List ℕ)) (switch_item : Trees.SwitchItem) → IsSwitchItem types switch_item → (rest : List Lexeme)
    → IsItemStart (spelled_switch_item switch_item rest)
switch_item_start types (Trees.local_switch_item d) w rest = specifier_item types (spelled_declaration d rest) (declaration_start types d w.1 rest)
switch_item_start types (Trees.labelled labels a) w rest = labels_item types labels a w.1 rest
