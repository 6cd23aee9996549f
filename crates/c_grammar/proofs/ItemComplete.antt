-- The items of a file: what is spelled is read.
use Rattle.std.proofs.Common.{◌≡◌, ℕ, zero, suc, ◌+◌, ◌≤◌, ◌<◌, max, List, [], ◌∷◌, Option, Some, None, true, false, length, refl, ◌∙◌, arith}
use Rattle.c_tokens.specs.declared.punctuator.Punctuator.TheVariants as M
use Rattle.c_ast.specs.Trees
use Rattle.c_ast.specs.Spelling.{Lexeme, punctuator, spelled_comma, spelled_declarator, spelled_value, spelled_init_declarators, spelled_specifiers}
use Rattle.c_ast.specs.Spelling.{spelled_block_items, spelled_item, spelled_items}
use Rattle.c_ast.specs.WellFormed.{AreSpecifiers, AreInitDeclarators, types_after, IsItem, AreItems}
use Rattle.c_ast.specs.Sizes.{depth_specifiers, depth_declarator, depth_value, depth_init_declarators, depth_block_items, depth_item, depth_items}
use Rattle.c_grammar.specs.Reading.{◌>>=◌, fronted, is_left_brace, is_semicolon}
use Rattle.c_grammar.proofs.Follow.{within}
use Rattle.c_grammar.specs.StatementReading.{item_in, items_in}
use Rattle.c_grammar.proofs.CompleteBelow.{IsComplete}
use Rattle.c_grammar.proofs.FirstTokens.{none_after, fronted_not, begins_declarator, declarator_start}
use Rattle.c_grammar.proofs.Longer.{longer_item, longer_items}
use Rattle.c_grammar.proofs.DeclarationComplete.{not_brace_after, not_left_brace, not_semicolon, value_ends, comma_first, same_first}
use Rattle.c_grammar.proofs.DeclarationComplete.{after_specifiers, named_read, declarators_read}
use Rattle.c_grammar.proofs.StatementComplete.{block_read}

-- no "{" stands after a declarator of a declaration
value_no_brace : (types : List (List ℕ)) (value : Option (ℕ × Trees.Expression)) (more : List Trees.InitDeclarator)
    → AreInitDeclarators types false more → (semicolon : ℕ) (rest : List Lexeme)
    → fronted is_left_brace (spelled_value value (spelled_init_declarators more (punctuator M.Semicolon semicolon ∷ rest))) ≡ false
value_no_brace types (Some value) more w semicolon rest = refl
value_no_brace types None [] w semicolon rest = refl
value_no_brace types None (d ∷ more) w semicolon rest = not_brace_after d.comma
    (spelled_declarator d.declarator (spelled_value d.value (spelled_init_declarators more (punctuator M.Semicolon semicolon ∷ rest)))) w.0

module _ (types : List (List ℕ)) (c : IsComplete types) where
  declaration_item : (specs : Trees.Specifiers) (all : List Trees.InitDeclarator) (semicolon : ℕ) → AreSpecifiers types specs
      → AreInitDeclarators types true all → (k : ℕ) (rest : List Lexeme) → max (depth_specifiers specs) (depth_init_declarators all) ≤ k
      → item_in types k (spelled_specifiers specs (spelled_init_declarators all (punctuator M.Semicolon semicolon ∷ rest)))
      ≡ Some (
        Trees.declaration (record { specs = specs; all = all; semicolon = semicolon }),
        max (depth_specifiers specs) (depth_init_declarators all) + 1,
        rest,
      )
  unfolding item_in
  declaration_item specs [] semicolon v w k rest h =
      let e : max (depth_specifiers specs) 0 ≡ depth_specifiers specs = omega arith in
      rw (
        c.specifiers_read specs k (punctuator M.Semicolon semicolon ∷ rest) v (omega arith) refl refl,
        within (depth_specifiers specs) k (omega arith),
        e,
      ) refl
  declaration_item specs (first ∷ more) semicolon v w k rest h =
      let tail = spelled_value first.value (spelled_init_declarators more (punctuator M.Semicolon semicolon ∷ rest)) in
      let tokens = spelled_declarator first.declarator tail in
      let b = after_specifiers types c (first ∷ more) w semicolon rest in
      let m = max (max 0 (depth_value first.value)) (depth_init_declarators more) in
      let e : max (max (depth_specifiers specs) (depth_declarator first.declarator)) m
      ≡ max (depth_specifiers specs) (max (max (depth_declarator first.declarator) (depth_value first.value)) (depth_init_declarators more)) =
      omega arith in
      rw (
        c.specifiers_read specs k (spelled_comma first.comma tokens) v (omega arith) b.no_specifier b.no_left_brace,
        comma_first first.comma tokens w.0,
        none_after is_semicolon tokens (fronted_not begins_declarator is_semicolon not_semicolon tokens
            (declarator_start types first.declarator w.1 w.2 tail).begins),
        named_read types c first.declarator w.1 w.2 k tail (omega arith) (value_ends types first.value more w.4 semicolon rest),
        none_after is_left_brace tail (value_no_brace types first.value more w.4 semicolon rest),
        declarators_read types c first.declarator first.value more w.3 w.4 k 0 semicolon rest (omega arith) (omega arith),
        within (max (max (depth_specifiers specs) (depth_declarator first.declarator)) m) k (omega arith),
        same_first types c first w.0,
        e,
      ) refl

  definition_item : (specs : Trees.Specifiers) (d : Trees.Declarator) (left : ℕ) (items : Trees.BlockItems) (right : ℕ)
      → IsItem types (Trees.defines specs d left items right) → (k : ℕ) (rest : List Lexeme) → depth_item (Trees.defines specs d left items right) ≤ suc k
      → item_in types k (spelled_item (Trees.defines specs d left items right) rest)
      ≡ Some (Trees.defines specs d left items right, depth_item (Trees.defines specs d left items right), rest)
  unfolding item_in
  definition_item specs d left items right w zero rest h = absurd (omega arith)
  definition_item specs d left items right w (suc k) rest h =
      let tail = punctuator M.OpenBrace left ∷ spelled_block_items items (punctuator M.CloseBrace right ∷ rest) in
      let tokens = spelled_declarator d tail in
      let s = declarator_start types d w.1 w.2 tail in
      rw (
        c.specifiers_read specs (suc k) tokens w.0 (omega arith) s.no_specifier (fronted_not begins_declarator is_left_brace not_left_brace tokens s.begins),
        none_after is_semicolon tokens (fronted_not begins_declarator is_semicolon not_semicolon tokens s.begins),
        named_read types c d w.1 w.2 (suc k) tail (omega arith) refl,
        block_read types c items w.3 k right rest (omega arith),
        within (depth_block_items items) k (omega arith),
        within (max (max (depth_specifiers specs) (depth_declarator d)) (depth_block_items items + 1)) (suc k) (omega arith),
      ) refl

  pub item_read : (p : Trees.Item) → IsItem types p → (k : ℕ) (rest : List Lexeme) → depth_item p ≤ suc k → item_in types k (spelled_item p rest)
      ≡ Some (p, depth_item p, rest)
  item_read (Trees.defines specs d left items right) w k rest h = definition_item specs d left items right w k rest h
  item_read (Trees.declaration d) w k rest h = declaration_item d.specs d.all d.semicolon w.0 w.1 k rest (omega arith)

-- ---- files

item_goes : (k n : ℕ) (types : List (List ℕ)) (tokens : List Lexeme) → 0 < length tokens
    → items_in k (suc n) types tokens ≡ (item_in types k tokens >>= λ item. items_in k n (types_after types item.0) item.2 >>= λ more. Some (item.0 ∷ more))
unfolding items_in
item_goes k n types [] h = absurd (omega arith)
item_goes k n types (t ∷ rest) h = refl

pub items_read : ((types : List (List ℕ)) → IsComplete types) → (k : ℕ) (items : List Trees.Item) (n : ℕ) (types : List (List ℕ))
    → AreItems types items → depth_items items ≤ suc k → length items ≤ n → items_in k n types (spelled_items items []) ≡ Some items
unfolding items_in
items_read c k [] n types w h i = refl
items_read c k (item ∷ items) zero types w h i = absurd (omega arith)
items_read c k (item ∷ items) (suc n) types w h i =
    let tail = spelled_items items [] in
    item_goes k n types (spelled_item item tail) (omega (arith, longer_item item tail))
    ∙ rw (item_read types (c types) item w.0 k tail (omega arith), items_read c k items n (types_after types item) w.1 (omega arith) (omega arith)) refl

pub items_count : (items : List Trees.Item) → length items ≤ length (spelled_items items [])
items_count items = omega (arith, longer_items items [])

pub items_complete : ((types : List (List ℕ)) → IsComplete types) → (k n : ℕ) (types : List (List ℕ)) (items : List Trees.Item) → AreItems types items
    → depth_items items ≤ suc k → length (spelled_items items []) ≤ n → items_in k n types (spelled_items items []) ≡ Some items
items_complete c k n types items w h i = items_read c k items n types w h (omega (arith, items_count items))
