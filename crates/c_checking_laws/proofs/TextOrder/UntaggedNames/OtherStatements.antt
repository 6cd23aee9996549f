-- The rules of initializers, declarations of blocks and statements, in a file that names structures without a tag otherwise.
use Rattle.std.proofs.Common.{◌≡◌, ℕ, List, [], ◌∷◌, Option, Some, None, Bool, true, false, refl, ap, ◌∙◌, inl, inr}
use Rattle.std.specs.Prelude.{◌⊎◌, ◌+◌}
use Rattle.c_types.specs.Layouts.{size_of, offset_of}
use Rattle.c_types.specs.Types.{CType, structure, Field}
use Rattle.c_types.specs.declared.ty.IntKind.{IntKind}
use Rattle.c_ast.specs.Trees
use Rattle.c_ast.specs.declared.words.Spelling.{Spelling}
use Rattle.c_typed.specs.Conversions.{is_scalar}
use Rattle.c_typed.specs.Trees as Typed
use Rattle.c_erasure.specs.Declarators.{Shape, closed, open_array}
use Rattle.c_erasure.specs.Erasure.{Values, Erases, IsBase, IsOne}
use Rattle.c_erasure.specs.Initializers.{Part, part_at, texts_of, IsText, Initializes, IsOneValue, InitializeElements, InitializeFields, IsInitializer}
use Rattle.c_erasure.specs.Noted.{Noted, Expression, an_object, type_of, type_of_path}
use Rattle.c_erasure.specs.Scopes.{Scope, for_value, inside}
use Rattle.c_erasure.specs.Specifiers.{storage_of, no_storage, is_auto, is_register, is_static}
use Rattle.c_erasure.specs.Statements.{Statement, Statements, Arms, IsSized, HasInitializer, HasConstants, with_object, with_variable, IsStaticLocal}
use Rattle.c_erasure.specs.Statements.{IsVariable}
use Rattle.c_erasure.specs.Statements.{DeclareAll, IsLocalDeclaration, IsPlain, IsPlainIfAny, IsStart, AreLabels, ErasesStatement, ErasesItem, EraseItems}
use Rattle.c_erasure.specs.Statements.{ErasesSwitchItem, EraseSwitchItems}
use Rattle.c_checking_laws.proofs.TextOrder.UntaggedNames.Agreeing.{Agree, AgreeInAll, AgreeInInitial, AgreeInSpecifiers, AgreeInDeclarator}
use Rattle.c_checking_laws.proofs.TextOrder.UntaggedNames.OtherParts.{tagged, IfOutside, none_outside, base_other, other, one_other, declarator_other}

module _ (v : ℕ → List ℕ) where
  -- ---- initializers

  text_same : (x : Option (List Spelling)) (s : Scope) (t : CType) (at : ℕ) (parts : List Part) → IsText x s t at parts → IsText x (tagged v s) t at parts
  text_same None s t at parts h = h
  text_same (Some all) s t at parts h = h

  -- what does not stand in braces
  abbrev IsBare : Trees.Expression → Scope → CType → ℕ → List Part → Type 0
  IsBare a s t at parts =
      ((x : Expression) × (is_scalar t ≡ true) × (type_of x ≡ t) × (parts ≡ part_at at (Typed.value x)) × Values (Erases a s) x)
      ⊎ ((r : ℕ) × (p : Typed.Path Noted) × (t ≡ structure r) × (type_of_path p ≡ t) × (parts ≡ part_at at (Typed.record_of p)) × Erases a s (an_object p))
      ⊎ IsText (texts_of a) s t at parts

  bare_other : (a : Trees.Expression) (s : Scope) (t : CType) (at : ℕ) (parts : List Part) → IfOutside v s (Agree s.file.untagged v a) → IsBare a s t at parts
      → IsBare a (tagged v s) t at parts
  bare_other a s t at parts m (inl h) = inl (h.0, h.1, h.2, h.3, (h.4.0, h.4.1, other v a s h.4.0 m h.4.2))
  bare_other a s t at parts m (inr (inl h)) = inr (inl (h.0, h.1, h.2, h.3, h.4, other v a s (an_object h.1) m h.5))
  bare_other a s t at parts m (inr (inr h)) = inr (inr (text_same (texts_of a) s t at parts h))

  mutual
    initial_other : (a : Trees.Expression) (s : Scope) (t : CType) (at : ℕ) (parts : List Part) → IfOutside v s (Agree s.file.untagged v a)
        → Initializes a s t at parts → Initializes a (tagged v s) t at parts
    initial_other (Trees.braces left all last right) s t at parts m (inl h) = inl (h.0, h.1, h.2, h.3, one_value_other all s h.0 m h.4)
    initial_other (Trees.braces left all last right) s t at parts m (inr (inl h)) =
        inr (inl (h.0, h.1, h.2, h.3, elements_other all s h.1 h.0 at parts m h.4))
    initial_other (Trees.braces left all last right) s t at parts m (inr (inr (inl h))) =
        inr (inr (inl (h.0, h.1, h.2, h.3, fields_other all s h.0 0 h.1.fields at parts m h.4)))
    initial_other (Trees.braces left all last right) s t at parts m (inr (inr (inr h))) =
        inr (inr (inr (text_same (texts_of (Trees.braces left all last right)) s t at parts h)))
    initial_other a s t at parts m h = bare_other a s t at parts m h

    one_value_other : (all : Trees.Arguments) (s : Scope) (x : Expression) → IfOutside v s (AgreeInAll s.file.untagged v all) → IsOneValue all s x
        → IsOneValue all (tagged v s) x
    one_value_other Trees.no_arguments s x m h = h
    one_value_other (Trees.and_argument comma a Trees.no_arguments) s x m h = (h.0, h.1, other v a s h.0 (λ i. (m i).0) h.2)
    one_value_other (Trees.and_argument comma a (Trees.and_argument next b more)) s x m h = h

    elements_other : (all : Trees.Arguments) (s : Scope) (u : CType) (n at : ℕ) (parts : List Part) → IfOutside v s (AgreeInAll s.file.untagged v all)
        → InitializeElements all s u n at parts → InitializeElements all (tagged v s) u n at parts
    elements_other Trees.no_arguments s u n at parts m h = h
    elements_other (Trees.and_argument comma a more) s u n at parts m h = (
      h.0,
      h.1,
      h.2,
      h.3,
      h.4,
      initial_other a s u at h.1 (λ i. (m i).0) h.5,
      elements_other more s u h.0 (at + size_of s.file.records u) h.2 (λ i. (m i).1) h.6,
    )

    fields_other : (all : Trees.Arguments) (s : Scope) (r k : ℕ) (fields : List Field) (at : ℕ) (parts : List Part)
        → IfOutside v s (AgreeInAll s.file.untagged v all) → InitializeFields all s r k fields at parts → InitializeFields all (tagged v s) r k fields at parts
    fields_other Trees.no_arguments s r k fields at parts m h = h
    fields_other (Trees.and_argument comma a more) s r k fields at parts m h = (
      h.0,
      h.1,
      h.2,
      h.3,
      h.4,
      h.5,
      initial_other a s h.0.ty (at + offset_of s.file.records r k) h.2 (λ i. (m i).0) h.6,
      fields_other more s r (k + 1) h.1 at h.3 (λ i. (m i).1) h.7,
    )

  pub initializer_other : (a : Trees.Expression) (s : Scope) (t : CType) (i : Typed.Initializer Noted) → IfOutside v s (Agree s.file.untagged v a)
      → IsInitializer a s t i → IsInitializer a (tagged v s) t i
  initializer_other a s t i m (inl h) = inl (h.0, h.1, h.2, initial_other a s t 0 (part_at 0 (Typed.value h.0)) m h.3)
  initializer_other a s t i m (inr (inl h)) = inr (inl (h.0, h.1, h.2, h.3, initial_other a s t 0 (part_at 0 (Typed.record_of h.0)) m h.4))
  initializer_other a s t i m (inr (inr h)) = inr (inr (h.0, h.1, h.2, initial_other a s t 0 h.0 m h.3))

  pub sized_other : (s : Scope) (shape : Shape) (value : Option (ℕ × Trees.Expression)) (t : CType) → IsSized s shape value t → IsSized (tagged v s) shape value t
  sized_other s (closed u) value t h = h
  sized_other s (open_array u) None t h = h
  sized_other s (open_array u) (Some value) t h = h

  pub constants_other : (s : Scope) (t : CType) (value : Option (ℕ × Trees.Expression)) (i : Typed.Initializer Noted)
      → IfOutside v s (AgreeInInitial s.file.untagged v value) → HasConstants s t value i → HasConstants (tagged v s) t value i
  constants_other s t None i m h = h
  constants_other s t (Some value) i m h = (initializer_other value.1 s t i m h.0, h.1)

  -- ---- inside of functions

  value_inside : (s : Scope) (t : CType) (value : Option (ℕ × Trees.Expression)) (i : Option (Typed.Initializer Noted)) → s.is_inside ≡ true
      → HasInitializer s t value i → HasInitializer (tagged v s) t value i
  value_inside s t None i e h = h
  value_inside s t (Some value) i e h = (h.0, h.1, initializer_other value.1 s t h.0 (none_outside v s (Agree s.file.untagged v value.1) e) h.2)

  variable_inside : (s : Scope) (base : CType) (d : Trees.InitDeclarator) (x : Spelling) (t : CType) → s.is_inside ≡ true → IsVariable s base d x t
      → IsVariable (tagged v s) base d x t
  variable_inside s base d x t e h = (
    h.0,
    h.1,
    declarator_other v d.declarator s base h.0 (none_outside v s (AgreeInDeclarator s.file.untagged v d.declarator) e) h.2,
    sized_other s h.0 d.value t h.3,
    h.4,
    h.5,
    h.6,
  )

  static_inside : (s : Scope) (d : Trees.InitDeclarator) (x : Spelling) (t : CType) (n : ℕ) → IsStaticLocal s d x t n → IsStaticLocal (tagged v s) d x t n
  static_inside s d x t n h = (
    h.0,
    constants_other (with_object s x n t) t d.value h.0
        (none_outside v (with_object s x n t) (AgreeInInitial s.file.untagged v d.value) refl) h.1,
    h.2,
  )

  -- with the scope after them, which is inside too
  abbrev IsAfter : Scope → (Scope → Type 0) → Type 0
  IsAfter after Rule = Rule (tagged v after) × (after.is_inside ≡ true)

  declare_inside : (all : List Trees.InitDeclarator) (s : Scope) (static : Bool) (base : CType) (own : Statements) (after : Scope) → s.is_inside ≡ true
      → DeclareAll all s static base own after → IsAfter after (λ after. DeclareAll all (tagged v s) static base own after)
  declare_inside [] s static base own after e h = ((h.0, ap (tagged v) h.1), ap (λ (s : Scope). s.is_inside) h.1 ∙ e)
  declare_inside (d ∷ more) s true base own after e h =
      let r = declare_inside more (with_object s h.0 h.2 h.1) true base own after refl h.5 in
      ((h.0, h.1, h.2, variable_inside s base d h.0 h.1 e h.3, static_inside s d h.0 h.1 h.2 h.4, r.0), r.1)
  declare_inside (d ∷ more) s false base own after e h =
      let r = declare_inside more (with_variable s h.0 h.2 h.1) false base h.4 after refl h.9 in (
        (
          h.0,
          h.1,
          h.2,
          h.3,
          h.4,
          variable_inside s base d h.0 h.1 e h.5,
          h.6,
          h.7,
          value_inside (with_variable s h.0 h.2 h.1) h.1 d.value h.3 refl h.8,
          r.0,
        ),
        r.1,
      )

  declaration_inside : (d : Trees.Declaration) (s : Scope) (own : Statements) (after : Scope) → s.is_inside ≡ true → IsLocalDeclaration d s own after
      → IsAfter after (λ after. IsLocalDeclaration d (tagged v s) own after)
  declaration_inside d s own after e h = by_class h.3
    where
      base : IsBase (IsOne (tagged v s) d.specs) d.specs h.0
      base = base_other v d.specs s h.0 (λ o. one_other v d.specs s h.0 (none_outside v s (AgreeInSpecifiers s.file.untagged v d.specs) e) o) h.1

      by_class : ((storage_of d.specs ≡ is_static) × DeclareAll d.all s true h.0 own after)
          ⊎ (((storage_of d.specs ≡ no_storage) ⊎ (storage_of d.specs ≡ is_auto) ⊎ (storage_of d.specs ≡ is_register))
          × DeclareAll d.all s false h.0 own after) → IsAfter after (λ after. IsLocalDeclaration d (tagged v s) own after)
      by_class (inl k) = let r = declare_inside d.all s true h.0 own after e k.1 in ((h.0, base, h.2, inl (k.0, r.0)), r.1)
      by_class (inr k) = let r = declare_inside d.all s false h.0 own after e k.1 in ((h.0, base, h.2, inr (k.0, r.0)), r.1)

  plain_inside : (a : Trees.Expression) (s : Scope) (x : Expression) → s.is_inside ≡ true → IsPlain a s x → IsPlain a (tagged v s) x
  plain_inside a s x e h = ((h.0.0, h.0.1, other v a s h.0.0 (none_outside v s (Agree s.file.untagged v a) e) h.0.2), h.1)

  values_inside : (a : Trees.Expression) (s : Scope) (x : Expression) → s.is_inside ≡ true → Values (Erases a s) x → Values (Erases a (tagged v s)) x
  values_inside a s x e h = (h.0, h.1, other v a s h.0 (none_outside v s (Agree s.file.untagged v a) e) h.2)

  if_any_inside : (a : Option Trees.Expression) (s : Scope) (x : Option Expression) → s.is_inside ≡ true → IsPlainIfAny a s x → IsPlainIfAny a (tagged v s) x
  if_any_inside None s x e h = h
  if_any_inside (Some a) s x e h = (h.0, h.1, plain_inside a s h.0 e h.2)

  start_inside : (start : Trees.ForStart) (s : Scope) (own : Statements) (after : Scope) → s.is_inside ≡ true → IsStart start s own after
      → IsAfter after (λ after. IsStart start (tagged v s) own after)
  start_inside (Trees.starts_with None semicolon) s own after e h = ((h.0, ap (tagged v) h.1), ap (λ (s : Scope). s.is_inside) h.1 ∙ e)
  start_inside (Trees.starts_with (Some a) semicolon) s own after e h =
      ((h.0, h.1, plain_inside a s h.0 e h.2, ap (tagged v) h.3), ap (λ (s : Scope). s.is_inside) h.3 ∙ e)
  start_inside (Trees.declares d) s own after e h = let r = declaration_inside d s own after e h.0 in ((r.0, h.1), r.1)

  labels_inside : (all : List Trees.Label) (s : Scope) (kind : IntKind) (cases : List ℕ) (defaults : ℕ) → s.is_inside ≡ true
      → AreLabels all s kind cases defaults → AreLabels all (tagged v s) kind cases defaults
  labels_inside [] s kind cases defaults e h = h
  labels_inside (Trees.case at a colon ∷ more) s kind cases defaults e h =
      let k = h.3 in (
        h.0,
        h.1,
        h.2,
        (k.0, values_inside a (for_value s) k.0 e k.1, k.2, k.3, k.4, k.5),
        h.4,
        labels_inside more s kind h.2 defaults e h.5,
      )
  labels_inside (Trees.default at colon ∷ more) s kind cases defaults e h = (h.0, h.1, labels_inside more s kind cases h.0 e h.2)

  mutual
    statement_inside : (a : Trees.Statement) (s : Scope) (st : Statement) → s.is_inside ≡ true → ErasesStatement a s st → ErasesStatement a (tagged v s) st
    statement_inside (Trees.block left items right) s st e h = (h.0, h.1, items_inside items (inside s) h.0 refl h.2)
    statement_inside (Trees.evaluate None semicolon) s st e h = h
    statement_inside (Trees.evaluate (Some a) semicolon) s st e h = (h.0, h.1, plain_inside a s h.0 e h.2)
    statement_inside (Trees.when at left a right one) s st e h =
        (h.0, h.1, h.2, plain_inside a s h.0 e h.3, statement_inside one s h.1 e h.4)
    statement_inside (Trees.choose at left a right one else another) s st e h =
        (h.0, h.1, h.2, h.3, plain_inside a s h.0 e h.4, statement_inside one s h.1 e h.5, statement_inside another s h.2 e h.6)
    statement_inside (Trees.while at left a right body) s st e h =
        (h.0, h.1, h.2, plain_inside a s h.0 e h.3, statement_inside body s h.1 e h.4)
    statement_inside (Trees.do_while at body while left a right semicolon) s st e h =
        (h.0, h.1, h.2, statement_inside body s h.0 e h.3, plain_inside a s h.1 e h.4)
    statement_inside (Trees.for at left start test semicolon step right body) s st e h =
        let r = start_inside start (inside s) h.0 h.1 refl h.6 in (
          h.0,
          tagged v h.1,
          h.2,
          h.3,
          h.4,
          h.5,
          r.0,
          if_any_inside test h.1 h.2 r.1 h.7,
          if_any_inside step h.1 h.3 r.1 h.8,
          statement_inside body h.1 h.4 r.1 h.9,
        )
    statement_inside (Trees.switch at left a right begin items end) s st e h =
        (h.0, h.1, h.2, h.3, h.4, values_inside a s h.0 e h.5, h.6, switch_items_inside items (inside s) h.1 h.2 h.3 refl h.7)
    statement_inside (Trees.break at semicolon) s st e h = h
    statement_inside (Trees.continue at semicolon) s st e h = h
    statement_inside (Trees.return at None semicolon) s st e h = h
    statement_inside (Trees.return at (Some a) semicolon) s st e h = (h.0, h.1, values_inside a s h.0 e h.2)

    item_inside : (item : Trees.BlockItem) (s : Scope) (own : Statements) (after : Scope) → s.is_inside ≡ true → ErasesItem item s own after
        → IsAfter after (λ after. ErasesItem item (tagged v s) own after)
    item_inside (Trees.local d) s own after e h = declaration_inside d s own after e h
    item_inside (Trees.statement a) s own after e h =
        ((h.0, h.1, statement_inside a s h.0 e h.2, ap (tagged v) h.3), ap (λ (s : Scope). s.is_inside) h.3 ∙ e)

    pub items_inside : (items : Trees.BlockItems) (s : Scope) (all : Statements) → s.is_inside ≡ true → EraseItems items s all
        → EraseItems items (tagged v s) all
    items_inside Trees.no_block_items s all e h = h
    items_inside (Trees.and_block_item item more) s all e h =
        let r = item_inside item s h.0 h.2 e h.4 in (h.0, h.1, tagged v h.2, h.3, r.0, items_inside more h.2 h.1 r.1 h.5)

    switch_item_inside : (item : Trees.SwitchItem) (s : Scope) (kind : IntKind) (cases : List ℕ) (defaults : ℕ) (own : Statements) (after : Scope)
        → s.is_inside ≡ true → ErasesSwitchItem item s kind cases defaults own after
        → IsAfter after (λ after. ErasesSwitchItem item (tagged v s) kind cases defaults own after)
    switch_item_inside (Trees.local_switch_item d) s kind cases defaults own after e h =
        let r = declaration_inside d s own after e h.2 in ((h.0, h.1, r.0), r.1)
    switch_item_inside (Trees.labelled labels a) s kind cases defaults own after e h = (
      (
        labels_inside labels s kind cases defaults e h.0,
        (h.1.0, h.1.1, statement_inside a s h.1.0 e h.1.2),
        ap (tagged v) h.2,
      ),
      ap (λ (s : Scope). s.is_inside) h.2 ∙ e,
    )

    switch_items_inside : (items : Trees.SwitchItems) (s : Scope) (kind : IntKind) (all : Statements) (arms : Arms) → s.is_inside ≡ true
        → EraseSwitchItems items s kind all arms → EraseSwitchItems items (tagged v s) kind all arms
    switch_items_inside Trees.no_switch_items s kind all arms e h = h
    switch_items_inside (Trees.and_switch_item item more) s kind all arms e h =
        let r = switch_item_inside item s kind h.0 h.1 h.2 h.5 e h.6 in (
          h.0,
          h.1,
          h.2,
          h.3,
          h.4,
          tagged v h.5,
          r.0,
          switch_items_inside more h.5 kind h.3 h.4 r.1 h.7,
          h.8,
        )
