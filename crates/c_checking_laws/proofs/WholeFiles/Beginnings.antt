-- Where the names of an item begin to be in scope is among the places of its names.
use Rattle.std.proofs.Common.{◌≡◌, ℕ, ◌+◌, refl, ap, ◌∙◌, subst, List, [], ◌∷◌, ◌++◌, length, append_assoc, inl, inr}
use Rattle.std.specs.Prelude.{◌⊎◌, Some, slice_get}
use Rattle.c_ast.specs.Trees
use Rattle.c_erasure.specs.Declarators.{declared_name}
use Rattle.c_erasure.specs.Marks.{a_name, marks_of_specifiers, marks_of_declarator, marks_of_initial, marks_of_declarators, marks_of_item, name_from}
use Rattle.c_erasure.specs.Marks.{after_declarator, scope_beginnings}
use Rattle.c_checking_laws.proofs.Agreement.{beginnings_append}
use Rattle.c_checking_laws.proofs.Extends.{kept, behind, one_of_both}
use Rattle.c_checking_laws.specs.TextOrder.TextOrder.{place_of_name, names_of_declarators, names_of_item}

abbrev IsIn : List ℕ → ℕ → Type 0
IsIn all p = (j : ℕ) × (slice_get all j ≡ Some p)

in_left : (u v : List ℕ) (p : ℕ) → IsIn u p → IsIn (u ++ v) p
in_left u v p h = (h.0, kept u v h.0 p h.1)

in_right : (u v : List ℕ) (p : ℕ) → IsIn v p → IsIn (u ++ v) p
in_right u v p h = (length u + h.0, behind u v h.0 (length u + h.0) p refl h.1)

-- one of both parts
by_parts : (u v w : List ℕ) (p : ℕ) → (IsIn u p → IsIn w p) → (IsIn v p → IsIn w p) → IsIn (u ++ v) p → IsIn w p
by_parts u v w p f g h = of_part (one_of_both u v h.0 p h.1)
  where
    of_part : (slice_get u h.0 ≡ Some p) ⊎ ((j : ℕ) × (h.0 ≡ length u + j) × (slice_get v j ≡ Some p)) → IsIn w p
    of_part (inl e) = f (h.0, e)
    of_part (inr e) = g (e.0, e.2)

module _ (untagged : ℕ → List ℕ) where
  of_declarators : (all : List Trees.InitDeclarator) (semicolon p : ℕ) → IsIn (scope_beginnings (marks_of_declarators untagged all semicolon)) p
      → IsIn (names_of_declarators untagged all semicolon) p
  of_declarators [] semicolon p h = h
  of_declarators (d ∷ more) semicolon p h =
      let from = name_from d.value (after_declarator more semicolon) in
      let own = marks_of_declarator untagged d.declarator ++ a_name from ∷ marks_of_initial untagged d.value in
      let rest = names_of_declarators untagged more semicolon in
      by_parts (scope_beginnings own) (scope_beginnings (marks_of_declarators untagged more semicolon)) (names_of_declarators untagged (d ∷ more) semicolon) p
      (λ i. in_left (place_of_name (declared_name d.declarator) ++ scope_beginnings own) rest p
      (in_right (place_of_name (declared_name d.declarator)) (scope_beginnings own) p i))
      (λ i. in_right (place_of_name (declared_name d.declarator) ++ scope_beginnings own) rest p (of_declarators more semicolon p i))
      (subst (λ all. IsIn all p) (beginnings_append own (marks_of_declarators untagged more semicolon)) h)

  pub beginning_is_name : (item : Trees.Item) (k p : ℕ) → slice_get (scope_beginnings (marks_of_item untagged item)) k ≡ Some p
      → IsIn (names_of_item untagged item) p
  beginning_is_name (Trees.declaration d) k p e =
      let u = marks_of_specifiers untagged d.specs in
      let w = marks_of_declarators untagged d.all d.semicolon in
      by_parts (scope_beginnings u) (scope_beginnings w) (names_of_item untagged (Trees.declaration d)) p
      (λ i. in_left (scope_beginnings u) (names_of_declarators untagged d.all d.semicolon) p i)
      (λ i. in_right (scope_beginnings u) (names_of_declarators untagged d.all d.semicolon) p (of_declarators d.all d.semicolon p i))
      (subst (λ all. IsIn all p) (beginnings_append u w) (k, e))
  beginning_is_name (Trees.defines specs d left items right) k p e =
      let u = marks_of_specifiers untagged specs in
      let w = marks_of_declarator untagged d ++ a_name left ∷ [] in
      let name = place_of_name (declared_name d) in
      let whole : marks_of_item untagged (Trees.defines specs d left items right) ≡ u ++ w = append_assoc u (marks_of_declarator untagged d) (a_name left ∷ []) in
      by_parts (scope_beginnings u) (scope_beginnings w) (names_of_item untagged (Trees.defines specs d left items right)) p
      (λ i. in_left (scope_beginnings u ++ name) (scope_beginnings w) p (in_left (scope_beginnings u) name p i))
      (λ i. in_right (scope_beginnings u ++ name) (scope_beginnings w) p i)
      (subst (λ all. IsIn all p) (ap scope_beginnings whole ∙ beginnings_append u w) (k, e))
