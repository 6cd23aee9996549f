-- What holds of the trees of files: their sizes, where they begin, and where their nodes stand.
use Rattle.std.specs.Prelude.{◌≡◌, ℕ, ◌≤◌, List, [], ◌∷◌, ◌++◌, All, length}
use Rattle.c_tokens.specs.TokenPlaces.{IsPlaceIn}
use Rattle.c_ast.specs.Trees
use Rattle.c_ast.specs.Spelling.{Lexeme, spelled, spelled_specifiers, spelled_declarator, spelled_declaration, spelled_statement, spelled_item, spell}
use Rattle.c_ast.specs.WellFormed.{IsExpression, IsInitializer, AreSpecifiers, IsDeclaration, IsStatement, IsItem, AreItems}
use Rattle.c_ast.specs.Sizes.{IsCountable, size_item, size_items, depth_item, depth_items}
use Rattle.c_ast.specs.Places.{begins_at, first, first_specifiers, first_declarator, first_declaration, first_statement, first_item, places_item}
use Rattle.c_ast.specs.Places.{places_items}
use Rattle.c_ast.specs.TreesOfFiles.{IsTreeOf, greatest_depth}

-- the tree of a file has at most as many nodes as the file has bytes, and so has each of its items
pub record TreesAreSmall : Type 0 where
  pub nodes : (bytes : List ℕ) (items : List Trees.Item) → IsTreeOf bytes items → (size_items items).nodes ≤ length bytes
  pub depth : (bytes : List ℕ) (items : List Trees.Item) → IsTreeOf bytes items → depth_items items ≤ greatest_depth
  pub nodes_of_item : (bytes : List ℕ) (items : List Trees.Item) → IsTreeOf bytes items → All (λ item. (size_item item).nodes ≤ length bytes) items
  pub depth_of_item : (bytes : List ℕ) (items : List Trees.Item) → IsTreeOf bytes items → All (λ item. depth_item item ≤ greatest_depth) items
  -- the nodes of a file of at most 4 MiB can be counted
  pub countable : (bytes : List ℕ) (items : List Trees.Item) → IsTreeOf bytes items → length bytes ≤ 4194304 → IsCountable (size_items items)
  pub countable_item : (bytes : List ℕ) (items : List Trees.Item) → IsTreeOf bytes items → length bytes ≤ 4194304
      → All (λ item. IsCountable (size_item item)) items

-- what is well formed begins at the first token of its spelling; a declarator may have no token, and then begins where what follows does
pub record TreesBeginFirst : Type 0 where
  pub of_expression : (types : List (List ℕ)) (t : Trees.Expression) → IsExpression types t → (rest : List Lexeme) → begins_at (spelled t rest) ≡ first t
  pub of_initializer : (types : List (List ℕ)) (t : Trees.Expression) → IsInitializer types t → (rest : List Lexeme) → begins_at (spelled t rest) ≡ first t
  pub of_specifiers : (types : List (List ℕ)) (specs : Trees.Specifiers) → AreSpecifiers types specs → (rest : List Lexeme)
      → begins_at (spelled_specifiers specs rest) ≡ first_specifiers specs
  pub of_declarator : (d : Trees.Declarator) (rest : List Lexeme) → begins_at (spelled_declarator d rest) ≡ first_declarator d (begins_at rest)
  pub of_declaration : (types : List (List ℕ)) (d : Trees.Declaration) → IsDeclaration types d → (rest : List Lexeme)
      → begins_at (spelled_declaration d rest) ≡ first_declaration d
  pub of_statement : (types : List (List ℕ)) (t : Trees.Statement) → IsStatement types t → (rest : List Lexeme)
      → begins_at (spelled_statement t rest) ≡ first_statement t
  pub of_item : (types : List (List ℕ)) (t : Trees.Item) → IsItem types t → (rest : List Lexeme) → begins_at (spelled_item t rest) ≡ first_item t

-- one of the tokens stands there
abbrev pub IsPlaceOf : List Lexeme → ℕ → Type 0
IsPlaceOf tokens at = (before after : List Lexeme) × (token : Lexeme) × (tokens ≡ before ++ token ∷ after) × (at ≡ token.from)

-- each node of a tree stands at one of its tokens, so in a file there are tokens before it
pub record NodesHavePlaces : Type 0 where
  pub of_tree : (items : List Trees.Item) → AreItems [] items → All (IsPlaceOf (spell items)) (places_items items)
  pub of_file : (bytes : List ℕ) (items : List Trees.Item) → IsTreeOf bytes items → All (IsPlaceIn bytes) (places_items items)
  pub of_item : (bytes : List ℕ) (items : List Trees.Item) → IsTreeOf bytes items → All (λ item. All (IsPlaceIn bytes) (places_item item)) items
  pub count : (items : List Trees.Item) → length (places_items items) ≡ (size_items items).nodes
  pub count_item : (item : Trees.Item) → length (places_item item) ≡ (size_item item).nodes
