-- The structures and functions that the items of a file define are paid for by the nodes of the items (C99 6.7, 6.9).
use Rattle.std.proofs.Common.{◌≡◌, ℕ, ◌+◌, ◌*◌, ◌≤◌, refl, sym, subst, List, [], ◌∷◌, ◌++◌, arith, inl, inr}
use Rattle.std.specs.Prelude.{Option, Some, None}
use Rattle.std.specs.List.{AllByRecursion}
use Rattle.c_types.specs.Types.{CType, Field, function}
use Rattle.c_ast.specs.declared.words.Spelling.{Spelling}
use Rattle.c_ast.specs.Trees
use Rattle.c_ast.specs.Places.{first_declarator}
use Rattle.c_ast.specs.Sizes.{size, size_initializers, size_initializer, as_initializer, size_value, size_init_declarators, size_declarator, size_specifiers}
use Rattle.c_ast.specs.Sizes.{size_item, size_items, size_block_items}
use Rattle.c_typed.specs.Trees as Typed
use Rattle.c_erasure.specs.Declarators.{closed}
use Rattle.c_erasure.specs.Erasure.{IsBound}
use Rattle.c_erasure.specs.Files.{bound, IsTypedef, IsObject, IsFunction, IsFileDeclarator, AreFileDeclarators, IsDefinition, ErasesItem, object_how}
use Rattle.c_erasure.specs.Initializers.{Part, texts_of, IsText, Initializes, IsOneValue, InitializeElements, InitializeFields, IsInitializer}
use Rattle.c_erasure.specs.Marks.{Mark, a_name, marks, marks_of_all, marks_of_initial, marks_of_declarator, marks_of_declarators}
use Rattle.c_erasure.specs.Marks.{marks_of_item, marks_of_file, name_from, after_declarator}
use Rattle.c_erasure.specs.Noted.{Noted, Expression, an_object}
use Rattle.c_erasure.specs.Scopes.{How, declares, tentative, defines, Entity, a_function, typedef, a_library_function, Bound, AnObject, FileScope, Scope}
use Rattle.c_erasure.specs.Scopes.{at_file_scope}
use Rattle.c_erasure.specs.Scopes as Scopes
use Rattle.c_erasure.specs.Specifiers.{Storage, storage_of, no_storage, a_typedef, is_extern, is_static, is_auto, is_register, several}
use Rattle.c_well_typed.specs.ProgramWeights.Counted.{Kind}
use Rattle.c_well_typed.proofs.ProgramWeights.Found.{Found, none_found, two_found, found_in, more_nodes, name_found, function_found, of_function}
use Rattle.c_well_typed.proofs.ProgramWeights.Functions.{lengths, lengths_less, defined_paid}
use Rattle.c_well_typed.proofs.ProgramWeights.Initializers.{IsSingle, node_above}
use Rattle.c_well_typed.proofs.ProgramWeights.Structures.{found, value_found, base_found, lengths_found}
use Rattle.c_well_typed.proofs.ProgramWeights.Within.{AreWithin}

module _ (n : Kind → ℕ) (most : ℕ) (w : AreWithin n most) (f : FileScope) where
  abbrev u : ℕ → List ℕ
  u = f.untagged

  abbrev F : List Mark → ℕ → Type 0
  F marks nodes = Found n most f 0 marks nodes

  none : (nodes : ℕ) → F [] nodes
  none nodes = none_found n most f nodes

  over : {m : List Mark} {i : ℕ} → F m i → F m (i + 1)
  over {m} {i} a = more_nodes n most f (i + 1) (omega arith) a

  both : {a b : List Mark} {i j : ℕ} → F a i → F b j → F (a ++ b) (i + j)
  both x y = two_found n most f x y

  -- ---- initializers

  text_found : (a : Trees.Expression) (s : Scope) (t : CType) (at : ℕ) (parts : List Part) (k : ℕ) → IsText (texts_of a) s t at parts → F (marks u a) k
  text_found (Trees.texts all) s t at parts k h = none k
  text_found (Trees.braces left Trees.no_arguments last right) s t at parts k h = absurd h
  text_found (Trees.braces left (Trees.and_argument comma (Trees.texts all) Trees.no_arguments) last right) s t at parts k h = none k
  text_found (Trees.braces left (Trees.and_argument comma (Trees.texts all) (Trees.and_argument second b more)) last right) s t at parts k h = absurd h
  text_found (Trees.braces left (Trees.and_argument comma a more) last right) s t at parts k h = absurd h
  text_found a s t at parts k h = absurd h

  single_found : (a : Trees.Expression) (s : Scope) (t : CType) (at : ℕ) (parts : List Part) → s.file ≡ f → IsSingle a s t at parts
      → F (marks u a) ((size a).nodes + 1)
  single_found a s t at parts e (inl h) = over (value_found n most w f a s h.0 e h.4)
  single_found a s t at parts e (inr (inl h)) = over (found n most w f a s (an_object h.1) e h.5)
  single_found a s t at parts e (inr (inr h)) = text_found a s t at parts ((size a).nodes + 1) h

  no_more : {m : List Mark} {i : ℕ} → F m i → F (m ++ []) (i + 0)
  no_more {m} {i} h = both h (none 0)

  one_found : (all : Trees.Arguments) (s : Scope) (x : Expression) → s.file ≡ f → IsOneValue all s x → F (marks_of_all u all) (size_initializers all).nodes
  one_found Trees.no_arguments s x e h = absurd h
  one_found (Trees.and_argument comma a Trees.no_arguments) s x e h =
      no_more (more_nodes n most f (as_initializer a (size a)).nodes (node_above a (size a)) (value_found n most w f a s x e h))
  one_found (Trees.and_argument comma a (Trees.and_argument second b more)) s x e h = absurd h

  mutual
    initial_found : (a : Trees.Expression) (s : Scope) (t : CType) (at : ℕ) (parts : List Part) → s.file ≡ f → Initializes a s t at parts
        → F (marks u a) (as_initializer a (size a)).nodes
    initial_found (Trees.braces left all last right) s t at parts e (inl h) = over (one_found all s h.0 e h.4)
    initial_found (Trees.braces left all last right) s t at parts e (inr (inl h)) = over (elements_found all s h.1 h.0 at parts e h.4)
    initial_found (Trees.braces left all last right) s t at parts e (inr (inr (inl h))) = over (fields_found all s h.0 0 h.1.fields at parts e h.4)
    initial_found (Trees.braces left all last right) s t at parts e (inr (inr (inr h))) =
        text_found (Trees.braces left all last right) s t at parts ((size_initializers all).nodes + 1) h
    initial_found a s t at parts e h = single_found a s t at parts e h

    elements_found : (all : Trees.Arguments) (s : Scope) (ty : CType) (k at : ℕ) (parts : List Part) → s.file ≡ f → InitializeElements all s ty k at parts
        → F (marks_of_all u all) (size_initializers all).nodes
    elements_found Trees.no_arguments s ty k at parts e h = none 0
    elements_found (Trees.and_argument comma a more) s ty k at parts e h =
        both (initial_found a s ty at h.1 e h.5) (elements_found more s ty h.0 _ h.2 e h.6)

    fields_found : (all : Trees.Arguments) (s : Scope) (r k : ℕ) (fields : List Field) (at : ℕ) (parts : List Part) → s.file ≡ f
        → InitializeFields all s r k fields at parts → F (marks_of_all u all) (size_initializers all).nodes
    fields_found Trees.no_arguments s r k fields at parts e h = none 0
    fields_found (Trees.and_argument comma a more) s r k fields at parts e h =
        both (initial_found a s h.0.ty _ h.2 e h.6) (fields_found more s r (k + 1) h.1 at h.3 e h.7)

  initializer_found : (a : Trees.Expression) (s : Scope) (t : CType) (i : Typed.Initializer Noted) → s.file ≡ f → IsInitializer a s t i
      → F (marks u a) (size_initializer a).nodes
  initializer_found a s t i e (inl h) = initial_found a s t 0 _ e h.3
  initializer_found a s t i e (inr (inl h)) = initial_found a s t 0 _ e h.4
  initializer_found a s t i e (inr (inr h)) = initial_found a s t 0 h.0 e h.3

  -- ---- declarators

  bound_found : (x : Spelling) (from : ℕ) (how : How) (e : Entity) → IsBound (at_file_scope f) (bound x from how e)
      → ((j : ℕ) (t : CType) → how ≡ defines → e ≡ a_function j t → ⊥) → F (a_name from ∷ []) 0
  bound_found x from how e h o = name_found n most f from h.0 (bound x from how e) h.1 refl o

  abbrev IsDeclarator : Trees.InitDeclarator → ℕ → Type 0
  IsDeclarator d from = F (marks_of_declarator u d.declarator ++ a_name from ∷ marks_of_initial u d.value)
      ((size_declarator d.declarator).nodes + (size_value d.value).nodes)

  with_name : (d : Trees.InitDeclarator) (from : ℕ) → F (marks_of_declarator u d.declarator) (lengths d.declarator) → F (a_name from ∷ []) 0
      → F (marks_of_initial u d.value) (size_value d.value).nodes → IsDeclarator d from
  with_name d from a b c =
      more_nodes n most f ((size_declarator d.declarator).nodes + (size_value d.value).nodes) (let l = lengths_less d.declarator in omega (arith, l))
      (both a (both b c))

  no_value : (v : Option (ℕ × Trees.Expression)) → v ≡ None → F (marks_of_initial u v) (size_value v).nodes
  no_value v h = subst (λ v. F (marks_of_initial u v) (size_value v).nodes) (sym h) (none 0)

  value_of_object : (v : Option (ℕ × Trees.Expression)) (place : ℕ) (t : CType) (o : AnObject) → IsDefinition (at_file_scope f) place t v o
      → F (marks_of_initial u v) (size_value v).nodes
  value_of_object None place t o h = none 0
  value_of_object (Some v) place t o h = initializer_found v.1 (at_file_scope f) t h.0 refl h.1.0

  no_typedef : (t : CType) (j : ℕ) (r : CType) → typedef t ≡ a_function j r → ⊥
  no_typedef t j r h = cc

  no_object : (k : ℕ) (t : CType) (j : ℕ) (r : CType) → Scopes.an_object k t ≡ a_function j r → ⊥
  no_object k t j r h = cc

  no_definition : declares ≡ defines → ⊥
  no_definition h = cc

  typedef_found : (base : CType) (d : Trees.InitDeclarator) (x : Spelling) (place from : ℕ) → IsTypedef f base d x place from → IsDeclarator d from
  typedef_found base d x place from h =
      with_name d from (lengths_found n most w f d.declarator (at_file_scope f) base (closed h.0) refl h.3)
      (bound_found x from defines (typedef h.0) h.5 (λ j t d i. no_typedef h.0 j t i)) (no_value d.value h.1)

  object_found : (words : Storage) (base : CType) (d : Trees.InitDeclarator) (x : Spelling) (place from : ℕ) → IsObject f words base d x place from
      → IsDeclarator d from
  object_found words base d x place from h =
      with_name d from (lengths_found n most w f d.declarator (at_file_scope f) base h.0 refl h.4)
      (bound_found x from (object_how words d.value) (Scopes.an_object h.2 h.1) h.15 (λ j t d i. no_object h.2 h.1 j t i))
      (value_of_object d.value place h.1 h.3 h.16)

  function_named : (words : Storage) (base : CType) (d : Trees.InitDeclarator) (x : Spelling) (place from : ℕ) → IsFunction f words base d x place from
      → F (a_name from ∷ []) 0
  function_named words base d x place from (t, v, de, fn, me, inl k) =
      bound_found x from declares (a_library_function k.0) k.4 (λ j t d i. no_definition d)
  function_named words base d x place from (t, v, de, fn, me, inr k) = bound_found x from declares (a_function k.0 t) k.8 (λ j t d i. no_definition d)

  declared_found : (words : Storage) (base : CType) (d : Trees.InitDeclarator) (x : Spelling) (place from : ℕ) → IsFunction f words base d x place from
      → IsDeclarator d from
  declared_found words base d x place from h =
      with_name d from (lengths_found n most w f d.declarator (at_file_scope f) base (closed h.0) refl h.2)
      (function_named words base d x place from h) (no_value d.value h.1)

  declarator_found : (words : Storage) (base : CType) (d : Trees.InitDeclarator) (x : Spelling) (place from : ℕ)
      → IsFileDeclarator f words base d x place from → IsDeclarator d from
  declarator_found a_typedef base d x place from h = typedef_found base d x place from h
  declarator_found no_storage base d x place from (inl h) = declared_found no_storage base d x place from h
  declarator_found no_storage base d x place from (inr h) = object_found no_storage base d x place from h
  declarator_found is_extern base d x place from (inl h) = declared_found is_extern base d x place from h
  declarator_found is_extern base d x place from (inr h) = object_found is_extern base d x place from h
  declarator_found is_static base d x place from (inl h) = declared_found is_static base d x place from h
  declarator_found is_static base d x place from (inr h) = object_found is_static base d x place from h
  declarator_found is_auto base d x place from h = absurd h
  declarator_found is_register base d x place from h = absurd h
  declarator_found several base d x place from h = absurd h

  declarators_found : (ds : List Trees.InitDeclarator) (words : Storage) (base : CType) (semicolon : ℕ) → AreFileDeclarators f words base ds semicolon
      → F (marks_of_declarators u ds semicolon) (size_init_declarators ds).nodes
  declarators_found [] words base semicolon h = none 0
  declarators_found (d ∷ more) words base semicolon h =
      both (declarator_found words base d h.0 (first_declarator d.declarator h.0.from) (name_from d.value (after_declarator more semicolon)) h.2)
      (declarators_found more words base semicolon h.3)

  -- ---- items

  number_of : (i j : ℕ) (s t : CType) → a_function i s ≡ a_function j t → j ≡ i
  number_of i j s t h = cc

  pub item_found : (item : Trees.Item) → ErasesItem f item → F (marks_of_item u item) (size_item item).nodes
  item_found (Trees.declaration d) h =
      over (both (base_found n most w f d.specs (at_file_scope f) h.0 refl h.2) (declarators_found d.all (storage_of d.specs) h.0 d.semicolon h.4))
  item_found (Trees.defines specs d left items right) h =
      let a = base_found n most w f specs (at_file_scope f) h.0 refl h.7 in
      let b = lengths_found n most w f d (at_file_scope f) h.0 (closed (function h.1 h.2)) refl h.10 in
      let p = defined_paid n most w f h.1 d h.2 h.6 h.5 items h.21 h.22 in
      let nodes = h.16 in
      let i = (size_specifiers specs).nodes in
      let j = (size_declarator d).nodes in
      let k = (size_block_items items).nodes in
      let each : of_function n most f h.5 ≤ most * h.5.nodes =
      subst (λ m. of_function n most f h.5 ≤ most * m) (sym nodes) (omega (arith, p)) in
      function_found n most f left h.4 h.20.0 (bound h.3 left defines (a_function h.4 h.5.ty)) h.5 h.13 h.20.1 refl
      (λ m t e. number_of h.4 m h.5.ty t e) each
      (found_in n most f (of_function n most f h.5) (i + j + (k + 1) + 1) (omega (arith, p)) (both a b))

  pub items_found : (items : List Trees.Item) → AllByRecursion (ErasesItem f) items → F (marks_of_file u items) (size_items items).nodes
  items_found [] h = none 0
  items_found (item ∷ items) h = both (item_found item h.0) (items_found items h.1)
