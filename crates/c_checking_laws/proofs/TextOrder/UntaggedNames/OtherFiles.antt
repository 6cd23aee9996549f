-- A file is annotated for a tree too where it names structures without a tag otherwise, but in the tree the same (C99 6.7.2.1, 6.9).
use Rattle.std.proofs.Common.{◌≡◌, ℕ, List, [], ◌∷◌, ◌++◌, Option, Some, None, Bool, true, false, refl, subst, inl, inr}
use Rattle.std.proofs.lemmas.List.Elements.{All-head, All-tail, All-cons, All-nil}
use Rattle.std.specs.Prelude.{All, map}
use Rattle.c_types.specs.Types.{CType, function}
use Rattle.c_ast.specs.Places.{first_declarator}
use Rattle.c_ast.specs.Spelling.{spell}
use Rattle.c_ast.specs.Trees
use Rattle.c_ast.specs.WellFormed.{AreItems}
use Rattle.c_ast.specs.declared.words.Spelling.{Spelling}
use Rattle.c_typed.specs.Trees as Typed
use Rattle.c_erasure.specs.Declarators.{AreDifferent, closed}
use Rattle.c_erasure.specs.Erasure.{IsBase, IsOne}
use Rattle.c_erasure.specs.Files.{IsDefinition, IsTypedef, IsObject, IsFunction, IsFileDeclarator, AreFileDeclarators, IsBody, in_body, ErasesItem}
use Rattle.c_erasure.specs.Files.{IsTypedObject, IsLeft, IsIntroduced, IsOpen, AreConsistentTags, IsFileOf, is_defined, is_tentative}
use Rattle.c_erasure.specs.Marks.{name_from, after_declarator, scope_beginnings, ends_in, defined_in, tags_in, undefined_in, firsts}
use Rattle.c_erasure.specs.Noted.{Noted}
use Rattle.c_erasure.specs.Scopes.{Bound, FileScope, AnObject, AFunction, at_file_scope}
use Rattle.c_erasure.specs.Specifiers.{Storage, no_storage, a_typedef, is_extern, is_static, is_auto, is_register, several, storage_of}
use Rattle.c_checking_laws.proofs.TextOrder.UntaggedNames.Agreeing.{AgreeInSpecifiers, AgreeInDeclarator, AgreeInInitial, AgreeInList, AgreeInItem}
use Rattle.c_checking_laws.proofs.TextOrder.UntaggedNames.Agreeing.{AgreeInItems, AgreeAlong}
use Rattle.c_checking_laws.proofs.TextOrder.UntaggedNames.Agreeing.{items_agree}
use Rattle.c_checking_laws.proofs.TextOrder.UntaggedNames.OtherParts.{with_tags, base_other, one_other, declarator_other}
use Rattle.c_checking_laws.proofs.TextOrder.UntaggedNames.OtherStatements.{sized_other, constants_other, items_inside}
use Rattle.c_checking_laws.proofs.TextOrder.UntaggedNames.SameMarks.{marks_same}

module _ (v : ℕ → List ℕ) (f : FileScope) where
  abbrev other_file : FileScope
  other_file = with_tags v f

  -- ---- declarators

  definition_other : (place : ℕ) (t : CType) (value : Option (ℕ × Trees.Expression)) (o : AnObject) → AgreeInInitial f.untagged v value
      → IsDefinition (at_file_scope f) place t value o → IsDefinition (at_file_scope other_file) place t value o
  definition_other place t None o m h = h
  definition_other place t (Some value) o m h = (h.0, constants_other v (at_file_scope f) t (Some value) h.0 (λ i. m) h.1, h.2, h.3)

  typedef_other : (base : CType) (d : Trees.InitDeclarator) (x : Spelling) (place from : ℕ) → AgreeInDeclarator f.untagged v d.declarator
      → IsTypedef f base d x place from → IsTypedef other_file base d x place from
  typedef_other base d x place from m h =
      (h.0, h.1, h.2, declarator_other v d.declarator (at_file_scope f) base (closed h.0) (λ i. m) h.3, h.4, h.5)

  object_other : (words : Storage) (base : CType) (d : Trees.InitDeclarator) (x : Spelling) (place from : ℕ) → AgreeInDeclarator f.untagged v d.declarator
      → AgreeInInitial f.untagged v d.value → IsObject f words base d x place from → IsObject other_file words base d x place from
  object_other words base d x place from m i h = (
    h.0,
    h.1,
    h.2,
    h.3,
    declarator_other v d.declarator (at_file_scope f) base h.0 (λ i. m) h.4,
    sized_other v (at_file_scope f) h.0 d.value h.1 h.5,
    h.6,
    h.7,
    h.8,
    h.9,
    h.10,
    h.11,
    h.12,
    h.13,
    h.14,
    h.15,
    definition_other place h.1 d.value h.3 i h.16,
  )

  function_other : (words : Storage) (base : CType) (d : Trees.InitDeclarator) (x : Spelling) (place from : ℕ) → AgreeInDeclarator f.untagged v d.declarator
      → IsFunction f words base d x place from → IsFunction other_file words base d x place from
  function_other words base d x place from m h =
      (h.0, h.1, declarator_other v d.declarator (at_file_scope f) base (closed h.0) (λ i. m) h.2, h.3, h.4, h.5)

  declarator_in_file : (words : Storage) (base : CType) (d : Trees.InitDeclarator) (x : Spelling) (place from : ℕ) → AgreeInDeclarator f.untagged v d.declarator
      → AgreeInInitial f.untagged v d.value → IsFileDeclarator f words base d x place from → IsFileDeclarator other_file words base d x place from
  declarator_in_file a_typedef base d x place from m i h = typedef_other base d x place from m h
  declarator_in_file no_storage base d x place from m i (inl h) = inl (function_other no_storage base d x place from m h)
  declarator_in_file no_storage base d x place from m i (inr h) = inr (object_other no_storage base d x place from m i h)
  declarator_in_file is_extern base d x place from m i (inl h) = inl (function_other is_extern base d x place from m h)
  declarator_in_file is_extern base d x place from m i (inr h) = inr (object_other is_extern base d x place from m i h)
  declarator_in_file is_static base d x place from m i (inl h) = inl (function_other is_static base d x place from m h)
  declarator_in_file is_static base d x place from m i (inr h) = inr (object_other is_static base d x place from m i h)
  declarator_in_file is_auto base d x place from m i h = h
  declarator_in_file is_register base d x place from m i h = h
  declarator_in_file several base d x place from m i h = h

  declarators_in_file : (words : Storage) (base : CType) (all : List Trees.InitDeclarator) (semicolon : ℕ) → AgreeInList f.untagged v all
      → AreFileDeclarators f words base all semicolon → AreFileDeclarators other_file words base all semicolon
  declarators_in_file words base [] semicolon m h = h
  declarators_in_file words base (d ∷ more) semicolon m h = (
    h.0,
    h.1,
    declarator_in_file words base d h.0 (first_declarator d.declarator h.0.from) (name_from d.value (after_declarator more semicolon)) m.0 m.1 h.2,
    declarators_in_file words base more semicolon m.2 h.3,
  )

  -- ---- items

  body_other : (result : CType) (bounds : List Bound) (g : AFunction) (items : Trees.BlockItems) → IsBody f result bounds g items
      → IsBody other_file result bounds g items
  body_other result bounds g items h =
      (h.0, h.1, items_inside v items (in_body f bounds (g.parameters ++ g.locals)) h.0 refl h.2, h.3, h.4)

  base_in_file : (specs : Trees.Specifiers) (t : CType) → AgreeInSpecifiers f.untagged v specs → IsBase (IsOne (at_file_scope f) specs) specs t
      → IsBase (IsOne (at_file_scope other_file) specs) specs t
  base_in_file specs t m h = base_other v specs (at_file_scope f) t (λ o. one_other v specs (at_file_scope f) t (λ i. m) o) h

  item_other : (item : Trees.Item) → AgreeInItem f.untagged v item → ErasesItem f item → ErasesItem other_file item
  item_other (Trees.declaration d) m h =
      (h.0, h.1, base_in_file d.specs h.0 m.0 h.2, h.3, declarators_in_file (storage_of d.specs) h.0 d.all d.semicolon m.1 h.4)
  item_other (Trees.defines specs d left items right) m h = (
    h.0,
    h.1,
    h.2,
    h.3,
    h.4,
    h.5,
    h.6,
    base_in_file specs h.0 m.0 h.7,
    h.8,
    h.9,
    declarator_other v d (at_file_scope f) h.0 (closed (function h.1 h.2)) (λ i. m.1) h.10,
    h.11,
    h.12,
    h.13,
    h.14,
    h.15,
    h.16,
    h.17,
    h.18,
    h.19,
    h.20,
    h.21,
    body_other h.1 h.6 h.5 items h.22,
  )

  items_other : (items : List Trees.Item) → AgreeInItems f.untagged v items → All (ErasesItem f) items → All (ErasesItem other_file) items
  items_other [] m h = All-nil (ErasesItem other_file)
  items_other (item ∷ more) m h =
      All-cons (ErasesItem other_file) item more (item_other item m.0 (All-head (ErasesItem f) item more h))
      (items_other more m.1 (All-tail (ErasesItem f) item more h))

  -- ---- objects and functions

  left_other : (o : AnObject) (b c : Bool) → IsLeft f o b c → IsLeft other_file o b c
  left_other o true c h = h
  left_other o false true h = h
  left_other o false false h = h

  introduced_other : (items : List Trees.Item) (n : ℕ) (o : AnObject) → IsIntroduced f items n o → IsIntroduced other_file items n o
  introduced_other items n o (inl h) = inl h
  introduced_other items n o (inr h) = inr (h.0, h.1, h.2, left_other o (is_defined h.0) (is_tentative h.0) h.3)

  open_other : (items : List Trees.Item) (g : AFunction) (b : Bool) → IsOpen f items g b → IsOpen other_file items g b
  open_other items g true h = h
  open_other items g false h = h

  held_other : (t : CType) (i : Typed.Initializer Noted) → IsTypedObject f t i → IsTypedObject other_file t i
  held_other t (Typed.whole e) h = h
  held_other t (Typed.whole_record p) h = h
  held_other t (Typed.parts []) h = h
  held_other t (Typed.parts (p ∷ all)) h = h

  -- ---- the file

  -- where both functions agree at each `struct` of the tree
  pub file_other : (items : List Trees.Item) → AreItems [] items → AgreeAlong f.untagged v (spell items) → IsFileOf items f → IsFileOf items other_file
  file_other items w along h =
      let agree = items_agree f.untagged v [] items w [] along in
      let e = marks_same f.untagged v items agree in
      record {
        tags = subst (λ m. f.tags ≡ firsts [] (tags_in m)) e h.tags;
        ends = subst (λ m. f.ends ≡ ends_in m) e h.ends;
        numbered = subst (λ m. f.numbered ≡ defined_in m ++ undefined_in m) e h.numbered;
        records = subst (λ m. map (λ r. r.tag) f.records ≡ defined_in m) e h.records;
        names = subst (λ m. map (λ b. b.from) f.names ≡ scope_beginnings m) e h.names;
        mentions = h.mentions;
        each_item = items_other items agree h.each_item;
        consistent = h.consistent;
        consistent_tags = subst (λ m. AreConsistentTags (tags_in m)) e h.consistent_tags;
        defined_once = subst (λ m. AreDifferent (defined_in m)) e h.defined_once;
        small = h.small;
        objects_in_order = h.objects_in_order;
        functions_in_order = h.functions_in_order;
        objects = λ n o there. introduced_other items n o (h.objects n o there);
        functions = λ n g there. let d = h.functions n g there in (d.0, d.1, d.2, open_other items g (is_defined d.0) d.3);
        initialized = λ n o i there holds. held_other o.ty i (h.initialized n o i there holds);
        main_is_no_object = h.main_is_no_object;
        main = h.main;
      }
