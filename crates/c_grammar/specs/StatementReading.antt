-- Reading declarations, statements and the items of a file from the left of a list of tokens.
use Rattle.std.specs.Prelude.{ℕ, zero, suc, ◌+◌, ◌&&◌, not, Bool, true, false, List, [], ◌∷◌, ◌++◌, length, Option, Some, None, max, if◌then◌else◌}
use Rattle.lay_base.specs.declared.faults.Keyword.TheVariants as W
use Rattle.c_tokens.specs.declared.token.TokenKind.{TokenKind}
use Rattle.c_tokens.specs.declared.token.TokenKind.TheVariants as K
use Rattle.c_ast.specs.Trees
use Rattle.c_ast.specs.Spelling.{Lexeme}
use Rattle.c_ast.specs.WellFormed.{has_name, types_after}
use Rattle.c_ast.specs.Views.{arguments_of, block_items_of, switch_items_of}
use Rattle.c_tokens.specs.declared.punctuator.Punctuator.TheVariants as M
use Rattle.c_grammar.specs.Reading.{◌>>=◌, advance, after, expect, front, fronted, peek, is_keyword, is_right}
use Rattle.c_grammar.specs.Reading.{is_semicolon, begins_specifier, Reader, Step, deeper, chain, comma_before, another}
use Rattle.c_grammar.specs.Reading.{comma_if_any, at}

-- ---- initializers

unfoldable pub initial_step : Reader Trees.Expression → Step (List (Option ℕ × Trees.Expression))
initial_step initial all d tokens =
    comma_before all tokens >>= λ c. initial c.1 >>= λ i. Some (all ++ (c.0, i.0) ∷ [], max d i.1, i.2, another i.2)

-- initializers in braces, from after "{" on
unfoldable pub braces_in : ℕ → Reader Trees.Expression → ℕ → Reader Trees.Expression
braces_in k initial left tokens = do
  all ← chain (initial_step initial) (length tokens + 1) [] 0 tokens
  right ← expect M.CloseBrace ((comma_if_any all.2).1)
  d ← deeper k all.1
  Some (Trees.braces left (arguments_of all.0) ((comma_if_any all.2).0) right.0, d, right.1)

abbrev pub initial_after : ℕ → Reader Trees.Expression → Reader Trees.Expression → List Lexeme → Option (ℕ × List Lexeme)
    → Option (Trees.Expression × ℕ × List Lexeme)
initial_after k assignment initial tokens (Some left) = braces_in k initial left.0 left.1
initial_after k assignment initial tokens None = assignment tokens >>= λ a. deeper k a.1 >>= λ d. Some (a.0, d, a.2)

unfoldable pub initial_in : ℕ → Reader Trees.Expression → Reader Trees.Expression → Reader Trees.Expression
initial_in k assignment initial tokens = initial_after k assignment initial tokens (expect M.OpenBrace tokens)

-- initializers of depth at most n
abbrev pub initial_at : List (List ℕ) → ℕ → Reader Trees.Expression
initial_at types zero tokens = None
initial_at types (suc k) tokens = initial_in k ((at types k).assignment) (initial_at types k) tokens

-- ---- declarations

abbrev pub value_after : Reader Trees.Expression → Option ℕ → Trees.Declarator → ℕ → List Lexeme → Option (ℕ × List Lexeme)
    → Option (Trees.InitDeclarator × ℕ × List Lexeme)
value_after initial comma s d tokens None = Some (record { comma = comma; declarator = s; value = None }, d, tokens)
value_after initial comma s d tokens (Some equal) =
    initial equal.1 >>= λ i. Some (record { comma = comma; declarator = s; value = Some (equal.0, i.0) }, max d i.1, i.2)

-- a declarator that is read, with its initializer if there is one
unfoldable pub valued_in : Reader Trees.Expression → Option ℕ → Trees.Declarator → ℕ → Reader Trees.InitDeclarator
valued_in initial comma s d tokens = value_after initial comma s d tokens (expect M.Equal tokens)

-- a declarator with its name
unfoldable pub named_in : Reader Trees.Declarator → Reader Trees.Declarator
named_in declarator tokens = declarator tokens >>= λ s. if has_name s.0 then Some s else None

-- the two, one after the other
unfoldable pub one_in : Reader Trees.Declarator → Reader Trees.Expression → Option ℕ → Reader Trees.InitDeclarator
one_in declarator initial comma tokens = named_in declarator tokens >>= λ s. valued_in initial comma s.0 s.1 s.2

unfoldable pub init_declarator_step : Reader Trees.Declarator → Reader Trees.Expression → Step (List Trees.InitDeclarator)
init_declarator_step declarator initial all d tokens = do
  c ← comma_before all tokens
  one ← one_in declarator initial c.0 c.1
  Some (all ++ one.0 ∷ [], max d one.1, one.2, peek M.Comma one.2)

-- the declarators after the first, which is read with its initializer
abbrev pub more_init_declarators : Reader Trees.Declarator → Reader Trees.Expression → Trees.InitDeclarator → ℕ → Reader (List Trees.InitDeclarator)
more_init_declarators declarator initial first d tokens =
    if peek M.Comma tokens then chain (init_declarator_step declarator initial) (length tokens + 1) (first ∷ []) d tokens
    else Some (first ∷ [], d, tokens)

-- all declarators, after the first, which is read
unfoldable pub declarators_after : Reader Trees.Declarator → Reader Trees.Expression → Trees.Declarator → ℕ → Reader (List Trees.InitDeclarator)
declarators_after declarator initial s d tokens = do
  first ← valued_in initial None s d tokens
  more_init_declarators declarator initial first.0 first.1 first.2

unfoldable pub declarators_in : Reader Trees.Declarator → Reader Trees.Expression → Reader (List Trees.InitDeclarator)
declarators_in declarator initial tokens = do
  s ← named_in declarator tokens
  declarators_after declarator initial s.0 s.1 s.2

-- the declarators of a declaration; where it need not have one, there may be none
abbrev pub declarators_if_any : Bool → Reader Trees.Declarator → Reader Trees.Expression → Reader (List Trees.InitDeclarator)
declarators_if_any full declarator initial tokens =
    if not full && peek M.Semicolon tokens then Some ([], 0, tokens) else declarators_in declarator initial tokens

unfoldable pub declaration_in : Bool → List (List ℕ) → ℕ → Reader Trees.Declaration
declaration_in full types k tokens = do
  specs ← (at types k).specifiers tokens
  all ← declarators_if_any full ((at types k).declarator) (initial_at types k) specs.2
  semicolon ← expect M.Semicolon all.2
  Some (record { specs = specs.0; all = all.0; semicolon = semicolon.0 }, max specs.1 all.1, semicolon.1)

-- ---- statements

abbrev pub is_if : TokenKind → Bool
is_if = is_keyword W.If

abbrev pub is_else : TokenKind → Bool
is_else = is_keyword W.Else

abbrev pub is_while : TokenKind → Bool
is_while = is_keyword W.While

-- an expression before a token of that kind, or none
unfoldable pub expression_if_any : (TokenKind → Bool) → Reader Trees.Expression → Reader (Option Trees.Expression)
expression_if_any p expression tokens =
    if fronted p tokens then Some (None, 0, tokens) else (expression tokens >>= λ a. Some (Some a.0, a.1, a.2))

-- "(" expression ")"
unfoldable pub condition_in : Reader Trees.Expression → Reader (ℕ × Trees.Expression × ℕ)
condition_in expression tokens = do
  left ← expect M.Open tokens
  a ← expression left.1
  right ← expect M.Close a.2
  Some ((left.0, a.0, right.0), a.1, right.1)

-- the readers of the parts of a statement, which are one less deep
pub record Below : Type 0 where
  pub types : List (List ℕ)
  pub expression : Reader Trees.Expression
  pub conditional : Reader Trees.Expression
  pub local : Reader Trees.Declaration
  pub full : Reader Trees.Declaration
  pub statement : Reader Trees.Statement

unfoldable pub block_item_in : Below → Reader Trees.BlockItem
block_item_in below tokens =
    if begins_specifier below.types tokens then (below.local tokens >>= λ d. Some (Trees.local d.0, d.1, d.2))
    else (below.statement tokens >>= λ a. Some (Trees.statement a.0, a.1, a.2))

unfoldable pub block_item_step : Below → Step (List Trees.BlockItem)
block_item_step below all d tokens =
    if peek M.CloseBrace tokens then Some (all, d, tokens, false)
    else (block_item_in below tokens >>= λ e. Some (all ++ e.0 ∷ [], max d e.1, e.2, true))

-- a block, from after "{" on, with the place of "}"
unfoldable pub block_in : Below → Reader (Trees.BlockItems × ℕ)
block_in below tokens = do
  all ← chain (block_item_step below) (length tokens + 1) [] 0 tokens
  right ← expect M.CloseBrace all.2
  Some ((block_items_of all.0, right.0), all.1, right.1)

abbrev pub else_after : ℕ → Below → ℕ → ℕ × Trees.Expression × ℕ → Trees.Statement → ℕ → List Lexeme → Option (ℕ × List Lexeme)
    → Option (Trees.Statement × ℕ × List Lexeme)
else_after k below place c one d tokens None = deeper k d >>= λ n. Some (Trees.when place c.0 c.1 c.2 one, n, tokens)
else_after k below place c one d tokens (Some otherwise) =
    below.statement otherwise.1 >>= λ other. deeper k (max d other.1) >>= λ n. Some (Trees.choose place c.0 c.1 c.2 one otherwise.0 other.0, n, other.2)

unfoldable pub if_in : ℕ → Below → ℕ → Reader Trees.Statement
if_in k below place tokens = do
  c ← condition_in below.expression tokens
  one ← below.statement c.2
  else_after k below place c.0 one.0 (max c.1 one.1) one.2 (after is_else one.2)

unfoldable pub while_in : ℕ → Below → ℕ → Reader Trees.Statement
while_in k below place tokens = do
  c ← condition_in below.expression tokens
  body ← below.statement c.2
  d ← deeper k (max c.1 body.1)
  Some (Trees.while place c.0.0 c.0.1 c.0.2 body.0, d, body.2)

unfoldable pub do_in : ℕ → Below → ℕ → Reader Trees.Statement
do_in k below place tokens = do
  body ← below.statement tokens
  while ← after is_while body.2
  c ← condition_in below.expression while.1
  semicolon ← expect M.Semicolon c.2
  d ← deeper k (max body.1 c.1)
  Some (Trees.do_while place body.0 while.0 c.0.0 c.0.1 c.0.2 semicolon.0, d, semicolon.1)

unfoldable pub for_start_in : Below → Reader Trees.ForStart
for_start_in below tokens =
    if begins_specifier below.types tokens then (below.full tokens >>= λ d. Some (Trees.declares d.0, d.1, d.2))
    else (expression_if_any is_semicolon below.expression tokens >>= λ a. expect M.Semicolon a.2
    >>= λ semicolon. Some (Trees.starts_with a.0 semicolon.0, a.1, semicolon.1))

unfoldable pub for_in : ℕ → Below → ℕ → Reader Trees.Statement
for_in k below place tokens = do
  left ← expect M.Open tokens
  start ← for_start_in below left.1
  test ← expression_if_any is_semicolon below.expression start.2
  semicolon ← expect M.Semicolon test.2
  step ← expression_if_any is_right below.expression semicolon.1
  right ← expect M.Close step.2
  body ← below.statement right.1
  d ← deeper k (max (max (max start.1 test.1) step.1) body.1)
  Some (Trees.for place left.0 start.0 test.0 semicolon.0 step.0 right.0 body.0, d, body.2)

-- ---- the body of a switch

abbrev pub label_of_kind : Below → List Trees.Label → ℕ → List Lexeme → Option TokenKind → Option (List Trees.Label × ℕ × List Lexeme × Bool)
label_of_kind below all d tokens (Some (K.Keyword W.Case)) =
    below.conditional (advance tokens).1 >>= λ a. expect M.Colon a.2 >>= λ colon.
    Some (all ++ Trees.case (advance tokens).0 a.0 colon.0 ∷ [], max d a.1, colon.1, true)
label_of_kind below all d tokens (Some (K.Keyword W.Default)) =
    expect M.Colon (advance tokens).1 >>= λ colon. Some (all ++ Trees.default (advance tokens).0 colon.0 ∷ [], d, colon.1, true)
label_of_kind below all d tokens _ = Some (all, d, tokens, false)

unfoldable pub label_step : Below → Step (List Trees.Label)
label_step below all d tokens = label_of_kind below all d tokens (front tokens)

unfoldable pub labelled_in : Below → Reader Trees.SwitchItem
labelled_in below tokens = do
  labels ← chain (label_step below) (length tokens + 1) [] 0 tokens
  a ← below.statement labels.2
  Some (Trees.labelled labels.0 a.0, max labels.1 a.1, a.2)

unfoldable pub switch_item_in : Below → Reader Trees.SwitchItem
switch_item_in below tokens =
    if begins_specifier below.types tokens then (below.full tokens >>= λ d. Some (Trees.local_switch_item d.0, d.1, d.2))
    else labelled_in below tokens

unfoldable pub switch_item_step : Below → Step (List Trees.SwitchItem)
switch_item_step below all d tokens =
    if peek M.CloseBrace tokens then Some (all, d, tokens, false)
    else (switch_item_in below tokens >>= λ switch_item. Some (all ++ switch_item.0 ∷ [], max d switch_item.1, switch_item.2, true))

unfoldable pub switch_in : ℕ → Below → ℕ → Reader Trees.Statement
switch_in k below place tokens = do
  c ← condition_in below.expression tokens
  begin ← expect M.OpenBrace c.2
  all ← chain (switch_item_step below) (length begin.1 + 1) [] 0 begin.1
  end ← expect M.CloseBrace all.2
  d ← deeper k (max c.1 all.1)
  Some (Trees.switch place c.0.0 c.0.1 c.0.2 begin.0 (switch_items_of all.0) end.0, d, end.1)

-- ---- jumps, expressions, blocks

unfoldable pub jump_in : (ℕ → Trees.Statement) → Reader Trees.Statement
jump_in made tokens = expect M.Semicolon tokens >>= λ semicolon. Some (made semicolon.0, 1, semicolon.1)

unfoldable pub return_in : ℕ → Below → ℕ → Reader Trees.Statement
return_in k below place tokens = do
  a ← expression_if_any is_semicolon below.expression tokens
  semicolon ← expect M.Semicolon a.2
  d ← deeper k a.1
  Some (Trees.return place a.0 semicolon.0, d, semicolon.1)

unfoldable pub evaluate_in : ℕ → Below → Reader Trees.Statement
evaluate_in k below tokens = do
  a ← expression_if_any is_semicolon below.expression tokens
  semicolon ← expect M.Semicolon a.2
  d ← deeper k a.1
  Some (Trees.evaluate a.0 semicolon.0, d, semicolon.1)

unfoldable pub block_statement_in : ℕ → Below → ℕ → Reader Trees.Statement
block_statement_in k below left tokens = do
  b ← block_in below tokens
  d ← deeper k b.1
  Some (Trees.block left b.0.0 b.0.1, d, b.2)

-- a statement by its first token
abbrev pub statement_of_kind : ℕ → Below → List Lexeme → TokenKind → Option (Trees.Statement × ℕ × List Lexeme)
statement_of_kind k below tokens (K.Keyword W.If) = if_in k below (advance tokens).0 (advance tokens).1
statement_of_kind k below tokens (K.Keyword W.While) = while_in k below (advance tokens).0 (advance tokens).1
statement_of_kind k below tokens (K.Keyword W.Do) = do_in k below (advance tokens).0 (advance tokens).1
statement_of_kind k below tokens (K.Keyword W.For) = for_in k below (advance tokens).0 (advance tokens).1
statement_of_kind k below tokens (K.Keyword W.Switch) = switch_in k below (advance tokens).0 (advance tokens).1
statement_of_kind k below tokens (K.Keyword W.Break) = jump_in (Trees.break (advance tokens).0) (advance tokens).1
statement_of_kind k below tokens (K.Keyword W.Continue) = jump_in (Trees.continue (advance tokens).0) (advance tokens).1
statement_of_kind k below tokens (K.Keyword W.Return) = return_in k below (advance tokens).0 (advance tokens).1
statement_of_kind k below tokens (K.Punctuator M.OpenBrace) = block_statement_in k below (advance tokens).0 (advance tokens).1
statement_of_kind k below tokens kind = evaluate_in k below tokens

unfoldable pub statement_in : ℕ → Below → Reader Trees.Statement
statement_in k below tokens = front tokens >>= statement_of_kind k below tokens

abbrev pub below_at : List (List ℕ) → ℕ → Reader Trees.Statement → Below
below_at types k statement = record {
  types = types;
  expression = (at types k).expression;
  conditional = (at types k).conditional;
  local = declaration_in false types k;
  full = declaration_in true types k;
  statement = statement;
}

-- statements of depth at most n
abbrev pub statement_at : List (List ℕ) → ℕ → Reader Trees.Statement
statement_at types zero tokens = None
statement_at types (suc k) tokens = statement_in k (below_at types k (statement_at types k)) tokens

-- ---- files

-- the definition of a function, from after the "{" of its body on
abbrev pub body_in : List (List ℕ) → ℕ → Trees.Specifiers → Trees.Declarator → ℕ → ℕ → Reader Trees.Item
body_in types zero specs s d left tokens = None
body_in types (suc k) specs s d left tokens = do
  b ← block_in (below_at types k (statement_at types k)) tokens
  m ← deeper k b.1
  n ← deeper (suc k) (max d m)
  Some (Trees.defines specs s left b.0.0 b.0.1, n, b.2)

-- a declaration, from after its first declarator on
abbrev pub rest_of_declaration_in : List (List ℕ) → ℕ → Trees.Specifiers → Trees.Declarator → ℕ → Reader Trees.Item
rest_of_declaration_in types k specs s d tokens = do
  all ← declarators_after ((at types k).declarator) (initial_at types k) s 0 tokens
  semicolon ← expect M.Semicolon all.2
  n ← deeper k (max d all.1)
  Some (Trees.declaration (record { specs = specs; all = all.0; semicolon = semicolon.0 }), n, semicolon.1)

abbrev pub body_after : List (List ℕ) → ℕ → Trees.Specifiers → Trees.Declarator → ℕ → List Lexeme → Option (ℕ × List Lexeme)
    → Option (Trees.Item × ℕ × List Lexeme)
body_after types k specs s d tokens None = rest_of_declaration_in types k specs s d tokens
body_after types k specs s d tokens (Some left) = body_in types k specs s d left.0 left.1

-- an item, after its specifiers
abbrev pub item_after : List (List ℕ) → ℕ → Trees.Specifiers → ℕ → List Lexeme → Option (ℕ × List Lexeme) → Option (Trees.Item × ℕ × List Lexeme)
item_after types k specs d tokens (Some semicolon) =
    deeper k d >>= λ n. Some (Trees.declaration (record { specs = specs; all = []; semicolon = semicolon.0 }), n, semicolon.1)
item_after types k specs d tokens None =
    named_in ((at types k).declarator) tokens >>= λ s. body_after types k specs s.0 (max d s.1) s.2 (expect M.OpenBrace s.2)

unfoldable pub item_in : List (List ℕ) → ℕ → Reader Trees.Item
item_in types k tokens = do
  specs ← (at types k).specifiers tokens
  item_after types k specs.0 specs.1 specs.2 (expect M.Semicolon specs.2)

-- the items of a file of depth at most k + 1, each after the typedefs of those before it
unfoldable pub items_in : ℕ → ℕ → List (List ℕ) → List Lexeme → Option (List Trees.Item)
items_in k n types [] = Some []
items_in k zero types (t ∷ rest) = None
items_in k (suc n) types (t ∷ rest) = do
  item ← item_in types k (t ∷ rest)
  more ← items_in k n (types_after types item.0) item.2
  Some (item.0 ∷ more)
