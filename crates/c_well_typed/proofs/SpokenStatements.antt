-- The types of which a file speaks in initializers, declarations of blocks and statements (C99 6.7, 6.7.8, 6.8) have what all types have that functions and
-- arrays can have (`IsWellMade`), where the operands of `sizeof` have it.
use Rattle.std.proofs.Common.{◌≡◌, ℕ, ◌+◌, ◌≤◌, Bool, true, false, sym, subst, List, [], ◌∷◌, ◌++◌, inl, inr}
use Rattle.std.specs.Prelude.{◌⊎◌, Option, Some, None}
use Rattle.c_types.specs.declared.ty.IntKind.{IntKind}
use Rattle.c_types.specs.Objects.{is_object}
use Rattle.c_types.specs.Types.{CType, structure, Field}
use Rattle.c_ast.specs.Places.{first_declarator}
use Rattle.c_ast.specs.Trees
use Rattle.c_typed.specs.declared.program.MentionKind.TheVariants.{Object}
use Rattle.c_typed.specs.Conversions.{is_scalar}
use Rattle.c_typed.specs.Trees as Typed
use Rattle.c_ast.specs.declared.words.Spelling.{Spelling}
use Rattle.c_erasure.specs.Erasure.{Values, IsMeasured, Erases}
use Rattle.c_erasure.specs.Initializers.{Part, part_at, texts_of, IsText, Initializes, IsOneValue, InitializeElements, InitializeFields, IsInitializer}
use Rattle.c_erasure.specs.Marks.{Mark, marks, marks_of_all}
use Rattle.c_erasure.specs.MentionPlaces.{spoken, spoken_of_all, spoken_of_specifiers, spoken_of_declarator, spoken_by_value, spoken_of_declarators}
use Rattle.c_erasure.specs.MentionPlaces.{spoken_of_declaration, spoken_if_some, spoken_of_start, spoken_of_labels, spoken_by, spoken_by_item, spoken_by_items}
use Rattle.c_erasure.specs.MentionPlaces.{spoken_by_switch_item, spoken_by_switch_items}
use Rattle.c_erasure.specs.Noted.{Noted, Expression, Path, an_object, type_of, type_of_path}
use Rattle.c_erasure.specs.Scopes.{Entity, Scope, FileScope, Purpose, is_measured, inside, visible, ended}
use Rattle.c_erasure.specs.Statements.{Statement, Statements, Arms, HasInitializer, HasConstants, with_object, with_variable, IsVariable, DeclareAll}
use Rattle.c_erasure.specs.Statements.{IsLocalDeclaration, IsPlainIfAny, IsStart, AreLabels, ErasesStatement, ErasesItem, EraseItems, ErasesSwitchItem}
use Rattle.c_erasure.specs.Statements.{EraseSwitchItems}
use Rattle.c_checking_laws.proofs.WholeFiles.Declarations.{first_named}
use Rattle.c_well_typed.proofs.KnownTypes.{base_known, variable_known}
use Rattle.c_well_typed.proofs.NamedTypes.{IsMadeEntity, IsMadeScope, inside_made, with_local_made}
use Rattle.c_well_typed.proofs.SpokenTypes as Spoken
use Rattle.c_well_typed.proofs.SpokenTypes.{value_told}
use Rattle.c_well_typed.proofs.WellMade.{IsWellMade}

module _ (f : FileScope) (count : ℕ) (less : (at : ℕ) → ended f.ends at ≤ count)
    (visible_made : (x : List ℕ) (at : ℕ) (e : Entity) → visible f.names x at ≡ Some e → IsMadeEntity f count less e)
    (H : CType → Type 0) (of_made : (t : CType) → IsWellMade count t → H t)
    (sized : (a : Trees.Expression) (s : Scope) (t : CType) → IsMadeScope f count less s → IsMeasured (Erases a) s t → is_object count t ≡ true → H t) where
  abbrev u : ℕ → List ℕ
  u = f.untagged

  abbrev IsTold : Purpose → List Mark → List ℕ → Type 0
  IsTold p u places = Spoken.IsTold f count less visible_made H of_made sized p u places

  abbrev AreSpoken : List ℕ → Type 0
  AreSpoken places = Spoken.AreSpoken f count less visible_made H of_made sized places

  -- ---- initializers

  text_told : {p : Purpose} (a : Trees.Expression) (s : Scope) (t : CType) (at : ℕ) (parts : List Part) → IsText (texts_of a) s t at parts
      → IsTold p (marks u a) (spoken a)
  text_told (Trees.texts all) s t at parts h = Spoken.none f count less visible_made H of_made sized
  text_told (Trees.braces left Trees.no_arguments last right) s t at parts h = absurd h
  text_told (Trees.braces left (Trees.and_argument comma (Trees.texts all) Trees.no_arguments) last right) s t at parts h =
      Spoken.none f count less visible_made H of_made sized
  text_told (Trees.braces left (Trees.and_argument comma (Trees.texts all) (Trees.and_argument second b more)) last right) s t at parts h = absurd h
  text_told (Trees.braces left (Trees.and_argument comma a more) last right) s t at parts h = absurd h
  text_told a s t at parts h = absurd h

  abbrev IsSingle : Trees.Expression → Scope → CType → ℕ → List Part → Type 0
  IsSingle a s t at parts =
      ((x : Expression) × (is_scalar t ≡ true) × (type_of x ≡ t) × (parts ≡ part_at at (Typed.value x)) × Values (Erases a s) x)
      ⊎ ((r : ℕ) × (p : Path) × (t ≡ structure r) × (type_of_path p ≡ t) × (parts ≡ part_at at (Typed.record_of p)) × Erases a s (an_object p))
      ⊎ IsText (texts_of a) s t at parts

  abbrev Made : Scope → Type 0
  Made s = IsMadeScope f count less s

  value_is_told : (a : Trees.Expression) (s : Scope) (x : Expression) → Made s → Values (Erases a s) x → IsTold s.purpose (marks u a) (spoken a)
  value_is_told a s x e h = Spoken.told f count less visible_made H of_made sized a s h.0 e h.2

  single_told : (a : Trees.Expression) (s : Scope) (t : CType) (at : ℕ) (parts : List Part) → Made s → IsSingle a s t at parts
      → IsTold s.purpose (marks u a) (spoken a)
  single_told a s t at parts e (inl h) = value_is_told a s h.0 e h.4
  single_told a s t at parts e (inr (inl h)) = Spoken.told f count less visible_made H of_made sized a s (an_object h.1) e h.5
  single_told a s t at parts e (inr (inr h)) = text_told a s t at parts h

  one_told : (all : Trees.Arguments) (s : Scope) (x : Expression) → Made s → IsOneValue all s x
      → IsTold s.purpose (marks_of_all u all) (spoken_of_all all)
  one_told Trees.no_arguments s x e h = absurd h
  one_told (Trees.and_argument comma a Trees.no_arguments) s x e h =
      Spoken.both f count less visible_made H of_made sized (value_is_told a s x e h) (Spoken.none f count less visible_made H of_made sized)
  one_told (Trees.and_argument comma a (Trees.and_argument second b more)) s x e h = absurd h

  mutual
    initial_told : (a : Trees.Expression) (s : Scope) (t : CType) (at : ℕ) (parts : List Part) → Made s → Initializes a s t at parts
        → IsTold s.purpose (marks u a) (spoken a)
    initial_told (Trees.braces left all last right) s t at parts e (inl h) = one_told all s h.0 e h.4
    initial_told (Trees.braces left all last right) s t at parts e (inr (inl h)) = elements_told all s h.1 h.0 at parts e h.4
    initial_told (Trees.braces left all last right) s t at parts e (inr (inr (inl h))) = fields_told all s h.0 0 h.1.fields at parts e h.4
    initial_told (Trees.braces left all last right) s t at parts e (inr (inr (inr h))) =
        text_told (Trees.braces left all last right) s t at parts h
    initial_told a s t at parts e h = single_told a s t at parts e h

    elements_told : (all : Trees.Arguments) (s : Scope) (ty : CType) (k at : ℕ) (parts : List Part) → Made s → InitializeElements all s ty k at parts
        → IsTold s.purpose (marks_of_all u all) (spoken_of_all all)
    elements_told Trees.no_arguments s ty k at parts e h = Spoken.none f count less visible_made H of_made sized
    elements_told (Trees.and_argument comma a more) s ty k at parts e h =
        Spoken.both f count less visible_made H of_made sized (initial_told a s ty at h.1 e h.5) (elements_told more s ty h.0 _ h.2 e h.6)

    fields_told : (all : Trees.Arguments) (s : Scope) (r k : ℕ) (fields : List Field) (at : ℕ) (parts : List Part) → Made s
        → InitializeFields all s r k fields at parts → IsTold s.purpose (marks_of_all u all) (spoken_of_all all)
    fields_told Trees.no_arguments s r k fields at parts e h = Spoken.none f count less visible_made H of_made sized
    fields_told (Trees.and_argument comma a more) s r k fields at parts e h =
        Spoken.both f count less visible_made H of_made sized (initial_told a s h.0.ty _ h.2 e h.6) (fields_told more s r (k + 1) h.1 at h.3 e h.7)

  pub initializer_told : (a : Trees.Expression) (s : Scope) (t : CType) (i : Typed.Initializer Noted) → Made s → IsInitializer a s t i
      → IsTold s.purpose (marks u a) (spoken a)
  initializer_told a s t i e (inl h) = initial_told a s t 0 _ e h.3
  initializer_told a s t i e (inr (inl h)) = initial_told a s t 0 _ e h.4
  initializer_told a s t i e (inr (inr h)) = initial_told a s t 0 h.0 e h.3

  -- ---- declarations in a block, where all is evaluated

  abbrev pub In : Scope → Type 0
  In s = IsMadeScope f count less s × (is_measured s.purpose ≡ false)

  two : (a b : List ℕ) → AreSpoken a → AreSpoken b → AreSpoken (a ++ b)
  two a b h k = Spoken.spoken_both f count less visible_made H of_made sized a b h k

  scope_is : (s t : Scope) → t ≡ s → In s → In t
  scope_is s t e h = subst In (sym e) h

  inside_in : (s : Scope) → In s → In (inside s)
  inside_in s i = (inside_made f count less s i.0, i.1)

  value : (a : Trees.Expression) (s : Scope) (x : Expression) → In s → Values (Erases a s) x → AreSpoken (spoken a)
  value a s x i h = let r = value_is_told a s x i.0 h in r.spoken i.1

  initialized : (v : Option (ℕ × Trees.Expression)) (s : Scope) (t : CType) (initial : Option (Typed.Initializer Noted)) → In s
      → HasInitializer s t v initial → AreSpoken (spoken_by_value v)
  initialized None s t initial i h = tt
  initialized (Some v) s t initial i h = let r = initializer_told v.1 s t h.0 i.0 h.2 in r.spoken i.1

  constant : (v : Option (ℕ × Trees.Expression)) (s : Scope) (t : CType) (initial : Typed.Initializer Noted) → In s → HasConstants s t v initial
      → AreSpoken (spoken_by_value v)
  constant None s t initial i h = tt
  constant (Some v) s t initial i h = let r = initializer_told v.1 s t initial i.0 h.0 in r.spoken i.1

  variable : (d : Trees.InitDeclarator) (s : Scope) (base : CType) (x : Spelling) (t : CType) (semicolon : ℕ) → In s → IsWellMade count base
      → IsVariable s base d x t → AreSpoken (first_declarator d.declarator semicolon ∷ spoken_of_declarator d.declarator)
  variable d s base x t semicolon i m h =
      let w = of_made t (variable_known f count less visible_made d s base x t i.0 m h) in
      let own = Spoken.place_told f count less visible_made H of_made sized s Object t (first_declarator d.declarator x.from) i.0 h.6 w i.1 in
      let r = Spoken.lengths_told f count less visible_made H of_made sized d.declarator s base h.0 i.0 m h.2 in
      (subst (Spoken.IsSpoken f count less visible_made H of_made sized) (first_named d.declarator x h.1 x.from semicolon) own, r.spoken i.1)

  declarators_spoken : (ds : List Trees.InitDeclarator) (s : Scope) (static : Bool) (base : CType) (all : Statements) (after : Scope) (semicolon : ℕ) → In s
      → IsWellMade count base → DeclareAll ds s static base all after → AreSpoken (spoken_of_declarators ds semicolon) × In after
  declarators_spoken [] s static base all after semicolon i m h = (tt, scope_is s after h.1 i)
  declarators_spoken (d ∷ more) s true base all after semicolon i m h =
      let t = variable_known f count less visible_made d s base h.0 h.1 i.0 m h.3 in
      let next : In (with_object s h.0 h.2 h.1) = (with_local_made f count less s _ i.0 t, i.1) in
      let r = declarators_spoken more (with_object s h.0 h.2 h.1) true base all after semicolon next m h.5 in
      let own = first_declarator d.declarator semicolon ∷ spoken_of_declarator d.declarator in (
        two (own ++ spoken_by_value d.value) (spoken_of_declarators more semicolon)
            (two own (spoken_by_value d.value) (variable d s base h.0 h.1 semicolon i m h.3) (constant d.value (with_object s h.0 h.2 h.1) h.1 h.4.0 next h.4.1)) r.0,
        r.1,
      )
  declarators_spoken (d ∷ more) s false base all after semicolon i m h =
      let t = variable_known f count less visible_made d s base h.0 h.1 i.0 m h.5 in
      let next : In (with_variable s h.0 h.2 h.1) = (with_local_made f count less s _ i.0 t, i.1) in
      let r = declarators_spoken more (with_variable s h.0 h.2 h.1) false base h.4 after semicolon next m h.9 in
      let own = first_declarator d.declarator semicolon ∷ spoken_of_declarator d.declarator in (
        two (own ++ spoken_by_value d.value) (spoken_of_declarators more semicolon)
            (two own (spoken_by_value d.value) (variable d s base h.0 h.1 semicolon i m h.5) (initialized d.value (with_variable s h.0 h.2 h.1) h.1 h.3 next h.8)) r.0,
        r.1,
      )

  either_way : {A B : Type 0} (d : Trees.Declaration) (s : Scope) (base : CType) (all : Statements) (after : Scope) → In s → IsWellMade count base
      → (A × DeclareAll d.all s true base all after) ⊎ (B × DeclareAll d.all s false base all after)
      → AreSpoken (spoken_of_declarators d.all d.semicolon) × In after
  either_way d s base all after i m (inl k) = declarators_spoken d.all s true base all after d.semicolon i m k.1
  either_way d s base all after i m (inr k) = declarators_spoken d.all s false base all after d.semicolon i m k.1

  local_spoken : (d : Trees.Declaration) (s : Scope) (all : Statements) (after : Scope) → In s → IsLocalDeclaration d s all after
      → AreSpoken (spoken_of_declaration d) × In after
  local_spoken d s all after i h =
      let b = Spoken.base_told f count less visible_made H of_made sized d.specs s h.0 i.0 h.1 in
      let r = either_way d s h.0 all after i (base_known f count less visible_made d.specs s h.0 i.0 h.1) h.3 in
      (two (spoken_of_specifiers d.specs) (spoken_of_declarators d.all d.semicolon) (b.spoken i.1) r.0, r.1)

  -- ---- statements

  plain : (a : Option Trees.Expression) (s : Scope) (x : Option Expression) → In s → IsPlainIfAny a s x → AreSpoken (spoken_if_some a)
  plain None s x i h = tt
  plain (Some a) s x i h = value a s h.0 i h.2.0

  start_spoken : (start : Trees.ForStart) (s : Scope) (all : Statements) (after : Scope) → In s → IsStart start s all after
      → AreSpoken (spoken_of_start start) × In after
  start_spoken (Trees.starts_with None semicolon) s all after i h = (tt, scope_is s after h.1 i)
  start_spoken (Trees.starts_with (Some a) semicolon) s all after i h = (value a s h.0 i h.2.0, scope_is s after h.3 i)
  start_spoken (Trees.declares d) s all after i h = local_spoken d s all after i h.0

  labels_spoken : (labels : List Trees.Label) (s : Scope) (kind : IntKind) (cases : List ℕ) (defaults : ℕ) → In s → AreLabels labels s kind cases defaults
      → AreSpoken (spoken_of_labels labels)
  labels_spoken [] s kind cases defaults i h = tt
  labels_spoken (Trees.case at a colon ∷ more) s kind cases defaults i h =
      let c = h.3 in
      let r = Spoken.told f count less visible_made H of_made sized a _ c.1.0 i.0 c.1.2 in
      two (spoken a) (spoken_of_labels more) (r.spoken (value_told s.purpose i.1)) (labels_spoken more s kind h.2 defaults i h.5)
  labels_spoken (Trees.default at colon ∷ more) s kind cases defaults i h = labels_spoken more s kind cases h.0 i h.2

  mutual
    statement_spoken : (a : Trees.Statement) (s : Scope) (st : Statement) → In s → ErasesStatement a s st → AreSpoken (spoken_by a)
    statement_spoken (Trees.block left items right) s st i h = items_spoken items (inside s) h.0 (inside_in s i) h.2
    statement_spoken (Trees.evaluate None semicolon) s st i h = tt
    statement_spoken (Trees.evaluate (Some a) semicolon) s st i h = value a s h.0 i h.2.0
    statement_spoken (Trees.when at left a right one) s st i h = two (spoken a) (spoken_by one) (value a s h.0 i h.3.0) (statement_spoken one s h.1 i h.4)
    statement_spoken (Trees.choose at left a right one else other) s st i h =
        two (spoken a ++ spoken_by one) (spoken_by other)
        (two (spoken a) (spoken_by one) (value a s h.0 i h.4.0) (statement_spoken one s h.1 i h.5)) (statement_spoken other s h.2 i h.6)
    statement_spoken (Trees.while at left a right body) s st i h =
        two (spoken a) (spoken_by body) (value a s h.0 i h.3.0) (statement_spoken body s h.1 i h.4)
    statement_spoken (Trees.do_while at body while left a right semicolon) s st i h =
        two (spoken_by body) (spoken a) (statement_spoken body s h.0 i h.3) (value a s h.1 i h.4.0)
    statement_spoken (Trees.for at left start test semicolon step right body) s st i h =
        let r = start_spoken start (inside s) h.0 h.1 (inside_in s i) h.6 in
        two (spoken_of_start start ++ spoken_if_some test ++ spoken_if_some step) (spoken_by body)
        (two (spoken_of_start start ++ spoken_if_some test) (spoken_if_some step)
        (two (spoken_of_start start) (spoken_if_some test) r.0 (plain test h.1 h.2 r.1 h.7)) (plain step h.1 h.3 r.1 h.8)) (statement_spoken body h.1 h.4 r.1 h.9)
    statement_spoken (Trees.switch at left a right begin items end) s st i h =
        two (spoken a) (spoken_by_switch_items items) (value a s h.0 i h.5) (switch_items_spoken items (inside s) h.1 h.2 h.3 (inside_in s i) h.7)
    statement_spoken (Trees.break at semicolon) s st i h = tt
    statement_spoken (Trees.continue at semicolon) s st i h = tt
    statement_spoken (Trees.return at None semicolon) s st i h = tt
    statement_spoken (Trees.return at (Some a) semicolon) s st i h = value a s h.0 i h.2

    item_spoken : (b : Trees.BlockItem) (s : Scope) (all : Statements) (after : Scope) → In s → ErasesItem b s all after
        → AreSpoken (spoken_by_item b) × In after
    item_spoken (Trees.local d) s all after i h = local_spoken d s all after i h
    item_spoken (Trees.statement a) s all after i h = (statement_spoken a s h.0 i h.2, scope_is s after h.3 i)

    pub items_spoken : (items : Trees.BlockItems) (s : Scope) (all : Statements) → In s → EraseItems items s all → AreSpoken (spoken_by_items items)
    items_spoken Trees.no_block_items s all i h = tt
    items_spoken (Trees.and_block_item b more) s all i h =
        let r = item_spoken b s h.0 h.2 i h.4 in
        two (spoken_by_item b) (spoken_by_items more) r.0 (items_spoken more h.2 h.1 r.1 h.5)

    switch_item_spoken : (b : Trees.SwitchItem) (s : Scope) (kind : IntKind) (cases : List ℕ) (defaults : ℕ) (all : Statements) (after : Scope) → In s
        → ErasesSwitchItem b s kind cases defaults all after → AreSpoken (spoken_by_switch_item b) × In after
    switch_item_spoken (Trees.local_switch_item d) s kind cases defaults all after i h = local_spoken d s all after i h.2
    switch_item_spoken (Trees.labelled labels a) s kind cases defaults all after i h =
        (two (spoken_of_labels labels) (spoken_by a) (labels_spoken labels s kind cases defaults i h.0) (statement_spoken a s h.1.0 i h.1.2), scope_is s after h.2 i)

    switch_items_spoken : (items : Trees.SwitchItems) (s : Scope) (kind : IntKind) (all : Statements) (arms : Arms) → In s
        → EraseSwitchItems items s kind all arms → AreSpoken (spoken_by_switch_items items)
    switch_items_spoken Trees.no_switch_items s kind all arms i h = tt
    switch_items_spoken (Trees.and_switch_item b more) s kind all arms i h =
        let r = switch_item_spoken b s kind h.0 h.1 h.2 h.5 i h.6 in
        two (spoken_by_switch_item b) (spoken_by_switch_items more) r.0 (switch_items_spoken more h.5 kind h.3 h.4 r.1 h.7)
