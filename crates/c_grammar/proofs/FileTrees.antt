-- The tree of a file is small, and its nodes stand at tokens of the file.
use Rattle.std.proofs.Common.{◌≡◌, ℕ, ◌≤◌, List, [], ◌∷◌, ◌++◌, length, refl, ap, sym, ◌∙◌, subst, arith}
use Rattle.std.specs.List.{All, AllByRecursion}
use Rattle.std.proofs.lemmas.List.{length-map, append_assoc}
use Rattle.std.proofs.lemmas.List.Elements.{All-from_recursion, recursion_from_All}
use Rattle.c_tokens.specs.declared.token.Token.{Token}
use Rattle.c_tokens.specs.TokenPlaces.{IsPlaceIn, TokensHavePlaces}
use Rattle.c_ast.specs.Trees
use Rattle.c_ast.specs.Spelling.{Lexeme, spell}
use Rattle.c_ast.specs.Lexemes.{lexeme_of, lexemes_of}
use Rattle.c_ast.specs.WellFormed.{AreItems}
use Rattle.c_ast.specs.Sizes.{IsCountable, size_item, size_items, depth_item, depth_items}
use Rattle.c_ast.specs.Places.{places_item, places_items}
use Rattle.c_ast.specs.TreesOfFiles.{IsTreeOf, greatest_depth}
use Rattle.c_ast.specs.Laws.{TreesAreSmall, IsPlaceOf, NodesHavePlaces}
use Rattle.c_grammar.proofs.FewNodes.{no_more_nodes}
use Rattle.c_grammar.proofs.NodePlaces.{items_stand}
use Rattle.c_grammar.proofs.NodeCounts.{item_count, items_count}

-- ---- each item of a tree is no larger than the tree

nodes_of_each : (n : ℕ) (items : List Trees.Item) → (size_items items).nodes ≤ n → AllByRecursion (λ item. (size_item item).nodes ≤ n) items
nodes_of_each n [] h = tt
nodes_of_each n (item ∷ items) h = (omega (arith, h), nodes_of_each n items (omega (arith, h)))

depth_of_each : (n : ℕ) (items : List Trees.Item) → depth_items items ≤ n → AllByRecursion (λ item. depth_item item ≤ n) items
depth_of_each n [] h = tt
depth_of_each n (item ∷ items) h = (omega (arith, h), depth_of_each n items (omega (arith, h)))

countable_each : (items : List Trees.Item) → (size_items items).nodes ≤ 4194304 → depth_items items ≤ greatest_depth
    → AllByRecursion (λ item. IsCountable (size_item item)) items
countable_each [] n d = tt
countable_each (item ∷ items) n d = ((omega (arith, d), omega (arith, n)), countable_each items (omega (arith, n)) (omega (arith, d)))

few_nodes : TokensHavePlaces → (bytes : List ℕ) (items : List Trees.Item) → IsTreeOf bytes items → (size_items items).nodes ≤ length bytes
few_nodes p bytes items t =
    omega (arith, no_more_nodes items t.3.well_formed, ap length t.3.spelled, length-map t.0 (lexeme_of bytes), p.few bytes t.0 t.1)

pub trees_are_small : TokensHavePlaces → TreesAreSmall
trees_are_small p = record {
  nodes = few_nodes p;
  depth = λ bytes items t. t.3.shallow;
  nodes_of_item = λ bytes items t.
      All-from_recursion (λ item. (size_item item).nodes ≤ length bytes) items (nodes_of_each (length bytes) items (few_nodes p bytes items t));
  depth_of_item = λ bytes items t. All-from_recursion (λ item. depth_item item ≤ greatest_depth) items (depth_of_each greatest_depth items t.3.shallow);
  countable = λ bytes items t l. (omega (arith, t.3.shallow), omega (arith, l, few_nodes p bytes items t));
  countable_item = λ bytes items t l.
      All-from_recursion (λ item. IsCountable (size_item item)) items (countable_each items (omega (arith, l, few_nodes p bytes items t)) t.3.shallow);
}

-- ---- the places of nodes

own_places : (tokens before rest : List Lexeme) → tokens ≡ before ++ rest → AllByRecursion (λ token. IsPlaceOf tokens token.from) rest
own_places tokens before [] e = tt
own_places tokens before (token ∷ rest) e =
    ((before, rest, token, e, refl), own_places tokens (before ++ token ∷ []) rest (e ∙ sym (append_assoc before (token ∷ []) rest)))

of_lexemes : (P : ℕ → Type 0) (bytes : List ℕ) (tokens : List Token) → AllByRecursion (λ token. P token.from) tokens
    → AllByRecursion (λ token. P token.from) (lexemes_of bytes tokens)
of_lexemes P bytes [] h = tt
of_lexemes P bytes (token ∷ tokens) h = (h.0, of_lexemes P bytes tokens h.1)

placed : (P : ℕ → Type 0) (items : List Trees.Item) → AreItems [] items → AllByRecursion (λ token. P token.from) (spell items)
    → AllByRecursion P (places_items items)
placed P items w h = (items_stand P [] items w (record { each = h })).nodes.each

placed_in : TokensHavePlaces → (bytes : List ℕ) (items : List Trees.Item) → IsTreeOf bytes items → AllByRecursion (IsPlaceIn bytes) (places_items items)
placed_in p bytes items t =
    let all = of_lexemes (IsPlaceIn bytes) bytes t.0 (recursion_from_All (λ token. IsPlaceIn bytes token.from) t.0 (p.of_tokens bytes t.0 t.1)) in
    placed (IsPlaceIn bytes) items t.3.well_formed (subst (AllByRecursion (λ token. IsPlaceIn bytes token.from)) t.3.spelled all)

of_front : (P : ℕ → Type 0) (a b : List ℕ) → AllByRecursion P (a ++ b) → AllByRecursion P a
of_front P [] b h = tt
of_front P (x ∷ a) b h = (h.0, of_front P a b h.1)

of_back : (P : ℕ → Type 0) (a b : List ℕ) → AllByRecursion P (a ++ b) → AllByRecursion P b
of_back P [] b h = h
of_back P (x ∷ a) b h = of_back P a b h.1

of_each : (P : ℕ → Type 0) (items : List Trees.Item) → AllByRecursion P (places_items items) → AllByRecursion (λ item. All P (places_item item)) items
of_each P [] h = tt
of_each P (item ∷ items) h = (
  All-from_recursion P (places_item item) (of_front P (places_item item) (places_items items) h),
  of_each P items (of_back P (places_item item) (places_items items) h),
)

pub nodes_have_places : TokensHavePlaces → NodesHavePlaces
nodes_have_places p = record {
  of_tree = λ items w.
      All-from_recursion (IsPlaceOf (spell items)) (places_items items)
      (placed (IsPlaceOf (spell items)) items w (own_places (spell items) [] (spell items) refl));
  of_file = λ bytes items t. All-from_recursion (IsPlaceIn bytes) (places_items items) (placed_in p bytes items t);
  of_item = λ bytes items t.
      All-from_recursion (λ item. All (IsPlaceIn bytes) (places_item item)) items (of_each (IsPlaceIn bytes) items (placed_in p bytes items t));
  count = items_count;
  count_item = item_count;
}
