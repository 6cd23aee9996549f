-- The functions of a file have no more loops than its tree has nodes (C99 6.8.5, 6.9.1).
use Rattle.std.proofs.Common.{◌≡◌, ◌∙◌, ℕ, suc, ◌≤◌, Bool, true, false, refl, sym, ap, subst, List, [], ◌∷◌, ◌++◌, map, length, arith, inl, inr}
use Rattle.std.proofs.lemmas.List.Elements.{recursion_from_All, All-from_recursion}
use Rattle.std.specs.Prelude.{Option, Some, None, All, slice_get}
use Rattle.std.specs.List.{AllByRecursion}
use Rattle.std.specs.Option.{option_map}
use Rattle.c_types.specs.Types.{CType, function}
use Rattle.c_ast.specs.declared.words.Spelling.{Spelling}
use Rattle.c_ast.specs.Places.{first_declarator}
use Rattle.c_ast.specs.Sizes.{size_item, size_items}
use Rattle.c_ast.specs.Trees
use Rattle.c_ast.specs.TreesOfFiles.{IsTreeOf}
use Rattle.c_typed.specs.RunCounts.Loops.{loops_in, loops_in_body, loops_of}
use Rattle.c_tokens.specs.TokenPlaces.{TokensHavePlaces}
use Rattle.c_typed.specs.declared.operators.LibraryFunction.{LibraryFunction}
use Rattle.c_typed.specs.Mapped.{of_types, mapped_statement}
use Rattle.c_typed.specs.Programs.{FunctionData, UnitData}
use Rattle.c_typed.specs.Trees as Typed
use Rattle.c_erasure.specs.Declarators.{closed}
use Rattle.c_erasure.specs.Erasing.{ErasesTo}
use Rattle.c_erasure.specs.Erasure.{IsBound}
use Rattle.c_erasure.specs.Files.{bound, object_how, IsTypedef, IsObject, IsFunction, IsFileDeclarator, AreFileDeclarators, ErasesItem, in_body}
use Rattle.c_erasure.specs.Files.{AreAscending, IsFileOf, IsOpen, is_defined}
use Rattle.c_erasure.specs.Marks.{Mark, a_name, marks_of_initial, marks_of_declarator, marks_of_declarators, marks_of_item, marks_of_file, name_from}
use Rattle.c_erasure.specs.Marks.{after_declarator, scope_beginnings}
use Rattle.c_erasure.specs.Noted.{Noted}
use Rattle.c_erasure.specs.Scopes.{How, declares, defines, Entity, typedef, an_object, a_function, a_library_function, enumerator, Bound, AFunction}
use Rattle.c_erasure.specs.Scopes.{FileScope, at_file_scope, ended}
use Rattle.c_erasure.specs.Specifiers.{Storage, storage_of, no_storage, a_typedef, is_extern, is_static, is_auto, is_register, several}
use Rattle.c_erasure.specs.Units as Units
use Rattle.c_erasure.specs.Units.{recognised_statement, number_in, types, unit_of}
use Rattle.c_erasure.proofs.MarkPlaces.Ordered.{marks_are_in_order}
use Rattle.c_checking_laws.proofs.WholeFiles.CompleteObjects.{mapped_at}
use Rattle.c_checking_units.proofs.Lists.{ascending_apart}
use Rattle.c_checking_units.proofs.Tracing as Tracing
use Rattle.c_checking_units.proofs.Tracing.{AreAll, with_names, name_at}
use Rattle.c_well_typed.proofs.Definitions.{defining, value_of_object}
use Rattle.c_well_typed.proofs.Enumerators.{IsEnumerated, AreEnumerated, anything, base_found, lengths_found}
use Rattle.c_well_typed.proofs.StatementLoops.{loops_mapped, loops_recognised, items_few}
use Rattle.c_well_typed.proofs.UnitFunctions.{records_ended}

some_is : {A : Type 0} (x y : A) → Some x ≡ Some y → x ≡ y
some_is x y h = cc

abbrev loops_if_any : {X : Type 0} → Option (Typed.Statement X) → ℕ
loops_if_any None = 0
loops_if_any (Some s) = loops_in s

each_mapped : {A B : Type 0} (P : B → Type 0) (v : A → B) (xs : List A) → ((j : ℕ) (x : A) → slice_get xs j ≡ Some x → P (v x))
    → AllByRecursion P (map v xs)
each_mapped P v [] h = tt
each_mapped P v (x ∷ xs) h = (h 0 x refl, each_mapped P v xs (λ j y e. h (suc j) y e))

module _ (f : FileScope) (count : ℕ) (less : (at : ℕ) → ended f.ends at ≤ count) (most : ℕ) where
  abbrev u : ℕ → List ℕ
  u = f.untagged

  abbrev IsFew : AFunction → Type 0
  IsFew g = loops_if_any g.body ≤ most

  abbrev IsDefinedFunction : ℕ → Type 0
  IsDefinedFunction n = (g : AFunction) × (slice_get f.functions n ≡ Some g) × IsFew g

  abbrev IsFunctionName : Bound → Type 0
  IsFunctionName b = (n : ℕ) (t : CType) → b.entity ≡ a_function n t → b.how ≡ defines → IsDefinedFunction n

  abbrev IsNamedBy : ℕ → Type 0
  IsNamedBy from = (b : Bound) × IsBound (at_file_scope f) b × (b.from ≡ from) × IsFunctionName b

  record AreNames (u : List Mark) : Type 0 where
    pub all : AreAll IsNamedBy anything u

  name_none : AreNames []
  name_none = record { all = tt }

  name_both : {a b : List Mark} → AreNames a → AreNames b → AreNames (a ++ b)
  name_both {a} {b} x y = record { all = Tracing.both IsNamedBy anything a b x.all y.all }

  no_enumerator : (v j : ℕ) (t : CType) → enumerator v ≡ a_function j t → ⊥
  no_enumerator v j t h = cc

  enumerators_name : {a : List Mark} → AreEnumerated f a → AreNames a
  enumerators_name {a} x = record {
    all = with_names (IsEnumerated f) IsNamedBy anything a
        (λ from h. (h.0, h.2, h.3, (λ n t e. absurd (no_enumerator h.1 n t (sym h.4 ∙ e))))) x.all;
  }

  one_name : (x : Spelling) (from : ℕ) (how : How) (e : Entity) → IsBound (at_file_scope f) (bound x from how e) → IsFunctionName (bound x from how e)
      → AreNames (a_name from ∷ [])
  one_name x from how e h i = record { all = ((bound x from how e, h, refl, i), tt) }

  no_typedef : (t : CType) (j : ℕ) (r : CType) → typedef t ≡ a_function j r → ⊥
  no_typedef t j r h = cc

  no_object : (k : ℕ) (t : CType) (j : ℕ) (r : CType) → an_object k t ≡ a_function j r → ⊥
  no_object k t j r h = cc

  no_library : (which : LibraryFunction) (j : ℕ) (r : CType) → a_library_function which ≡ a_function j r → ⊥
  no_library which j r h = cc

  no_definition : declares ≡ defines → ⊥
  no_definition h = cc

  same_function : (i j : ℕ) (s t : CType) → a_function i s ≡ a_function j t → i ≡ j
  same_function i j s t h = cc

  -- ---- declarators

  abbrev IsDeclarator : Trees.InitDeclarator → ℕ → Type 0
  IsDeclarator d from = AreNames (marks_of_declarator u d.declarator ++ a_name from ∷ marks_of_initial u d.value)

  no_marks : AreEnumerated f []
  no_marks = record { all = tt }

  no_value : (v : Option (ℕ × Trees.Expression)) → v ≡ None → AreEnumerated f (marks_of_initial u v)
  no_value v h = subst (λ v. AreEnumerated f (marks_of_initial u v)) (sym h) no_marks

  with_name : (d : Trees.InitDeclarator) (from : ℕ) → AreEnumerated f (marks_of_declarator u d.declarator) → AreNames (a_name from ∷ [])
      → AreEnumerated f (marks_of_initial u d.value) → IsDeclarator d from
  with_name d from a b c = name_both (enumerators_name a) (name_both b (enumerators_name c))

  typedef_found : (base : CType) (d : Trees.InitDeclarator) (x : Spelling) (place from : ℕ) → IsTypedef f base d x place from → IsDeclarator d from
  typedef_found base d x place from h =
      with_name d from (lengths_found f d.declarator (at_file_scope f) base (closed h.0) refl h.3)
      (one_name x from defines (typedef h.0) h.5 (λ n t e. absurd (no_typedef h.0 n t e))) (no_value d.value h.1)

  object_found : (words : Storage) (base : CType) (d : Trees.InitDeclarator) (x : Spelling) (place from : ℕ) → IsObject f words base d x place from
      → IsDeclarator d from
  object_found words base d x place from h =
      with_name d from (lengths_found f d.declarator (at_file_scope f) base h.0 refl h.4)
      (one_name x from (object_how words d.value) (an_object h.2 h.1) h.15 (λ n t e. absurd (no_object h.2 h.1 n t e)))
      (value_of_object f count less d.value place h.1 h.3 h.16)

  function_named : (words : Storage) (base : CType) (d : Trees.InitDeclarator) (x : Spelling) (place from : ℕ) → IsFunction f words base d x place from
      → AreNames (a_name from ∷ [])
  function_named words base d x place from (t, v, de, fn, me, inl k) =
      one_name x from declares (a_library_function k.0) k.4 (λ n t e. absurd (no_library k.0 n t e))
  function_named words base d x place from (t, v, de, fn, me, inr k) =
      one_name x from declares (a_function k.0 t) k.8 (λ n s e d. absurd (no_definition d))

  function_found : (words : Storage) (base : CType) (d : Trees.InitDeclarator) (x : Spelling) (place from : ℕ) → IsFunction f words base d x place from
      → IsDeclarator d from
  function_found words base d x place from h =
      with_name d from (lengths_found f d.declarator (at_file_scope f) base (closed h.0) refl h.2)
      (function_named words base d x place from h) (no_value d.value h.1)

  declarator_found : (words : Storage) (base : CType) (d : Trees.InitDeclarator) (x : Spelling) (place from : ℕ)
      → IsFileDeclarator f words base d x place from → IsDeclarator d from
  declarator_found a_typedef base d x place from h = typedef_found base d x place from h
  declarator_found no_storage base d x place from (inl h) = function_found no_storage base d x place from h
  declarator_found no_storage base d x place from (inr h) = object_found no_storage base d x place from h
  declarator_found is_extern base d x place from (inl h) = function_found is_extern base d x place from h
  declarator_found is_extern base d x place from (inr h) = object_found is_extern base d x place from h
  declarator_found is_static base d x place from (inl h) = function_found is_static base d x place from h
  declarator_found is_static base d x place from (inr h) = object_found is_static base d x place from h
  declarator_found is_auto base d x place from h = absurd h
  declarator_found is_register base d x place from h = absurd h
  declarator_found several base d x place from h = absurd h

  declarators_found : (ds : List Trees.InitDeclarator) (words : Storage) (base : CType) (semicolon : ℕ) → AreFileDeclarators f words base ds semicolon
      → AreNames (marks_of_declarators u ds semicolon)
  declarators_found [] words base semicolon h = name_none
  declarators_found (d ∷ more) words base semicolon h =
      name_both (declarator_found words base d h.0 (first_declarator d.declarator h.0.from) (name_from d.value (after_declarator more semicolon)) h.2)
      (declarators_found more words base semicolon h.3)

  -- ---- items

  item_found : (item : Trees.Item) → (size_item item).nodes ≤ most → ErasesItem f item → AreNames (marks_of_item u item)
  item_found (Trees.declaration d) l h =
      name_both (enumerators_name (base_found f d.specs (at_file_scope f) h.0 refl h.2)) (declarators_found d.all (storage_of d.specs) h.0 d.semicolon h.4)
  item_found (Trees.defines specs d left items right) l h =
      let body = h.22 in
      let few = items_few items (in_body f h.6 (h.5.parameters ++ h.5.locals)) body.0 body.2 in
      let good : IsFew h.5 = subst (λ b. loops_if_any b ≤ most) (sym body.1) (omega (arith, l, few)) in
      name_both
      (name_both (enumerators_name (base_found f specs (at_file_scope f) h.0 refl h.7))
      (enumerators_name (lengths_found f d (at_file_scope f) h.0 (closed (function h.1 h.2)) refl h.10)))
      (one_name h.3 left defines (a_function h.4 h.5.ty) h.20
      (λ n t e d. subst IsDefinedFunction (same_function h.4 n h.5.ty t e) (h.5, h.13, good)))

  items_found : (items : List Trees.Item) → (size_items items).nodes ≤ most → AllByRecursion (ErasesItem f) items → AreNames (marks_of_file u items)
  items_found [] l h = name_none
  items_found (item ∷ items) l h = name_both (item_found item (omega (arith, l)) h.0) (items_found items (omega (arith, l)) h.1)

  -- ---- functions of the file

  module _ (items : List Trees.Item) (small : (size_items items).nodes ≤ most) (h : IsFileOf items f)
      (beginnings : AreAscending (scope_beginnings (marks_of_file f.untagged items)))
    where
      name_known : (k : ℕ) (b : Bound) → slice_get f.names k ≡ Some b → IsFunctionName b
      name_known k b e =
          let names = subst AreAscending (sym h.names) beginnings in
          let from : slice_get (map (λ (b : Bound). b.from) f.names) k ≡ Some b.from = mapped_at (λ (b : Bound). b.from) f.names k b e in
          let all = items_found items small (recursion_from_All (ErasesItem f) items h.each_item) in
          let z = name_at IsNamedBy anything (marks_of_file f.untagged items) k b.from all.all (subst (λ all. slice_get all k ≡ Some b.from) h.names from) in
          let other = mapped_at (λ (b : Bound). b.from) f.names z.1.0 z.0 z.1.1 ∙ ap Some z.2 in
          let number : z.1.0 ≡ k = ascending_apart (map (λ b. b.from) f.names) names z.1.0 k b.from other from in
          let there : slice_get f.names k ≡ Some z.0 = subst (λ k. slice_get f.names k ≡ Some z.0) number z.1.1 in
          subst IsFunctionName (some_is z.0 b (sym there ∙ e)) z.3

      pub function_few : (n : ℕ) (g : AFunction) → slice_get f.functions n ≡ Some g → IsFew g
      function_few n g e = let d = h.functions n g e in by_open (is_defined d.0) refl d.3
        where
          of_definition : is_defined (h.functions n g e).0 ≡ true → IsFew g
          of_definition t =
              let d = h.functions n g e in
              let b = defining f count less f.names (a_function n g.ty) d.0 d.2 t in
              let x = name_known b.0 b.1 b.2 n g.ty b.3 b.4 in
              subst IsFew (some_is x.0 g (sym x.1 ∙ e)) x.2

          by_open : (b : Bool) → is_defined (h.functions n g e).0 ≡ b → IsOpen f items g b → IsFew g
          by_open true t o = of_definition t
          by_open false t o = subst (λ b. loops_if_any b ≤ most) (sym o.0) (omega arith)

-- ---- of a unit

abbrev pub HasFewLoops : UnitData → Type 0
HasFewLoops u = All (λ f. loops_of f ≤ u.nodes) u.functions

of_function : (f : FileScope) (n : ℕ) (body : Option (Typed.Statement Noted)) → loops_if_any body ≤ n
    → loops_if_any (option_map (λ s. mapped_statement (of_types (λ (t : Noted). number_in (types f) t.ty)) (recognised_statement s)) body) ≤ n
of_function f n None h = h
of_function f n (Some s) h =
    let e = loops_mapped (of_types (λ (t : Noted). number_in (types f) t.ty)) (recognised_statement s) ∙ loops_recognised s in
    subst (λ k. k ≤ n) (sym e) h

same_loops : (o : Option (Typed.Statement ℕ)) → loops_if_any o ≡ loops_in_body o
same_loops None = refl
same_loops (Some s) = refl

pub units_have_few_loops : TokensHavePlaces → (file : ℕ) (name bytes : List ℕ) (items : List Trees.Item) (u : UnitData) → IsTreeOf bytes items
    → ErasesTo file name bytes items u → HasFewLoops u
units_have_few_loops places file name bytes items u tree e =
    let f = e.annotated in
    let beginnings = (marks_are_in_order places).beginnings bytes items f.untagged tree in
    let n = (size_items items).nodes in
    let known = function_few f (length f.records) (records_ended items f e.of_tree beginnings) n items (omega arith) e.of_tree beginnings in
    subst HasFewLoops (sym e.unit)
    (All-from_recursion (λ (g : FunctionData). loops_of g ≤ n) (map (Units.function f) f.functions)
    (each_mapped (λ (g : FunctionData). loops_of g ≤ n) (Units.function f) f.functions
    (λ j g k. subst (λ l. l ≤ n) (same_loops (Units.function f g).body) (of_function f n g.body (known j g k)))))
