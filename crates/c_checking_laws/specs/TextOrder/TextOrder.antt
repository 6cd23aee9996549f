-- What the order of the text says of a file's items: where declarators, literals and `static` locals stand, where names stand and begin to be in
-- scope, and where tags do.
use Rattle.std.specs.Prelude.{◌≡◌, ◌≢◌, ℕ, ◌+◌, ◌≤◌, ◌<◌, true, List, [], ◌∷◌, ◌++◌, All, Option, Some, None}
use Rattle.c_ast.specs.declared.words.Spelling.{Spelling}
use Rattle.c_ast.specs.Trees
use Rattle.c_ast.specs.Places.{first_declarator, first_item}
use Rattle.c_ast.specs.TreesOfFiles.{IsTreeOf}
use Rattle.c_erasure.specs.Declarators.{declared_name}
use Rattle.c_erasure.specs.Literals.{literals_of_value, made_by_items}
use Rattle.c_erasure.specs.Marks.{a_name, marks_of_specifiers, marks_of_declarator, marks_of_initial, marks_of_file, name_from, after_declarator}
use Rattle.c_erasure.specs.Marks.{scope_beginnings, tags_in}
use Rattle.c_erasure.specs.Scopes.{Tag}

-- from a byte on, one after the other
abbrev pub Rising : ℕ → List ℕ → Type 0
Rising at [] = Unit {0}
Rising at (p ∷ more) = (at ≤ p) × Rising (p + 1) more

-- ---- declarators, the literals of their initializers, and what bodies of functions make

abbrev pub places_of_declarators : List Trees.InitDeclarator → ℕ → List ℕ
places_of_declarators [] semicolon = []
places_of_declarators (d ∷ more) semicolon =
    first_declarator d.declarator semicolon ∷ literals_of_value d.value ++ places_of_declarators more semicolon

abbrev pub places_of_item : Trees.Item → List ℕ
places_of_item (Trees.defines specs d left items right) = first_declarator d left ∷ made_by_items items
places_of_item (Trees.declaration d) = places_of_declarators d.all d.semicolon

-- with the place of each item
abbrev pub places_of_file : List Trees.Item → List ℕ
places_of_file [] = []
places_of_file (item ∷ more) = first_item item ∷ places_of_item item ++ places_of_file more

-- ---- names, and where they begin to be in scope

abbrev pub place_of_name : Option Spelling → List ℕ
place_of_name None = []
place_of_name (Some x) = x.from ∷ []

module _ (untagged : ℕ → List ℕ) where
  abbrev pub names_of_declarators : List Trees.InitDeclarator → ℕ → List ℕ
  names_of_declarators [] semicolon = []
  names_of_declarators (d ∷ more) semicolon = place_of_name (declared_name d.declarator)
      ++ scope_beginnings (marks_of_declarator untagged d.declarator ++ a_name (name_from d.value (after_declarator more semicolon))
      ∷ marks_of_initial untagged d.value)
      ++ names_of_declarators more semicolon

  abbrev pub names_of_item : Trees.Item → List ℕ
  names_of_item (Trees.defines specs d left items right) = scope_beginnings (marks_of_specifiers untagged specs) ++ place_of_name (declared_name d)
      ++ scope_beginnings (marks_of_declarator untagged d ++ a_name left ∷ [])
  names_of_item (Trees.declaration d) = scope_beginnings (marks_of_specifiers untagged d.specs) ++ names_of_declarators d.all d.semicolon

  abbrev pub names_of_file : List Trees.Item → List ℕ
  names_of_file [] = []
  names_of_file (item ∷ more) = names_of_item item ++ names_of_file more

-- ---- tags

pub record IsTagBefore (t u : Tag) : Type 0 where
  pub place : t.place ≢ u.place
  pub from : t.from < u.from

abbrev pub AreTagsInOrder : List Tag → Type 0
AreTagsInOrder [] = Unit {0}
AreTagsInOrder (t ∷ more) = All (IsTagBefore t) more × AreTagsInOrder more

-- ---- a file's items in the order of the text

pub record AreInTextOrder (untagged : ℕ → List ℕ) (items : List Trees.Item) : Type 0 where
  pub places : Rising 0 (places_of_file items)
  pub names : Rising 0 (names_of_file untagged items)
  pub tags : AreTagsInOrder (tags_in (marks_of_file untagged items))

-- ---- what holds of the trees of files

-- no identifier begins with this byte, that of `@`
abbrev pub IsUnwritten : List ℕ → Type 0
IsUnwritten name = (rest : List ℕ) × (name ≡ 64 ∷ rest)

pub record TextsAreInOrder : Type 0 where
  pub order : (bytes : List ℕ) (items : List Trees.Item) (untagged : ℕ → List ℕ) → IsTreeOf bytes items → AreInTextOrder untagged items
  -- the tag of an enumeration is written
  pub enumerations : (bytes : List ℕ) (items : List Trees.Item) (untagged : ℕ → List ℕ) → IsTreeOf bytes items
      → All (λ t. t.is_enumeration ≡ true → IsUnwritten t.name → ⊥) (tags_in (marks_of_file untagged items))
