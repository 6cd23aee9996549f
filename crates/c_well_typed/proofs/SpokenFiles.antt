-- The types of which a file speaks outside of its expressions, and those of the fields of its structures (C99 6.7, 6.9), have what all types have that
-- functions and arrays can have (`IsWellMade`), where the operands of `sizeof` have it.
use Rattle.std.proofs.Common.{◌≡◌, ◌∙◌, ℕ, zero, suc, ◌≤◌, true, refl, sym, ap, subst, List, [], ◌∷◌, ◌++◌, map, inl, inr}
use Rattle.std.proofs.lemmas.List.Elements.{recursion_from_All}
use Rattle.std.specs.Prelude.{Option, Some, None, slice_get}
use Rattle.std.specs.List.{AllByRecursion}
use Rattle.std.specs.Option.{option_map}
use Rattle.c_types.specs.Objects.{is_object}
use Rattle.c_types.specs.Types.{CType, function, Field, Record}
use Rattle.c_ast.specs.declared.words.Spelling.{Spelling}
use Rattle.c_ast.specs.Places.{first_declarator}
use Rattle.c_ast.specs.Trees
use Rattle.c_ast.specs.TreesOfFiles.{IsTreeOf}
use Rattle.c_typed.specs.declared.program.MentionKind.{MentionKind}
use Rattle.c_typed.specs.declared.program.MentionKind.TheVariants.{Object, Named}
use Rattle.c_typed.specs.Typed.{type_in, field_type}
use Rattle.c_erasure.specs.Declarators.{AreDifferent, Shape, closed, declared_name}
use Rattle.c_erasure.specs.Erasure.{IsMeasured, Erases, Declares}
use Rattle.c_erasure.specs.Files.{IsTypedef, IsObject, IsFunction, IsFileDeclarator, AreFileDeclarators, IsDefinition, ErasesItem, parameters_of, in_body}
use Rattle.c_erasure.specs.Files.{IsFileOf}
use Rattle.c_erasure.specs.Marks.{Mark, a_name, marks_of_specifiers, marks_of_declarator, marks_of_initial, marks_of_declarators, marks_of_item, marks_of_file}
use Rattle.c_erasure.specs.Marks.{name_from, after_declarator}
use Rattle.c_erasure.specs.MentionPlaces.{spoken_of_specifiers, spoken_of_declarator, spoken_by_value, spoken_of_declarators, spoken_by_items}
use Rattle.c_erasure.specs.MentionPlaces.{mentions_of_item, mentions_of_file}
use Rattle.c_erasure.specs.Scopes.{Entity, Scope, FileScope, AnObject, AMention, in_full, at_file_scope, IsMentioned, visible, ended}
use Rattle.c_erasure.specs.Specifiers.{Storage, storage_of, no_storage, a_typedef, is_extern, is_static, is_auto, is_register, several}
use Rattle.c_checking_laws.proofs.WholeFiles.CompleteObjects.{mapped_at}
use Rattle.c_checking_laws.proofs.WholeFiles.Declarations.{first_named}
use Rattle.c_checking_units.proofs.Lists.{different_apart}
use Rattle.c_checking_units.proofs.SpokenItems.{mentions_apart}
use Rattle.c_checking_units.proofs.Tracing.{record_at}
use Rattle.c_well_typed.proofs.KnownTypes.{base_known, declarator_known, body_scope}
use Rattle.c_well_typed.proofs.NamedTypes.{IsMadeEntity, IsMadeScope, sized_made}
use Rattle.c_well_typed.proofs.SpokenStatements.{initializer_told, items_spoken}
use Rattle.c_well_typed.proofs.SpokenTypes as Spoken
use Rattle.c_well_typed.proofs.SpokenTypes.{anywhere}
use Rattle.c_well_typed.proofs.WellMade.{IsWellMade}

some_is : {A : Type 0} (x y : A) → Some x ≡ Some y → x ≡ y
some_is x y h = cc

at_place : {A : Type 0} (P : A → Type 0) (xs : List A) → AllByRecursion P xs → (k : ℕ) (x : A) → slice_get xs k ≡ Some x → P x
at_place P [] h k x e = cc
at_place P (y ∷ xs) h zero x e = subst P (some_is y x e) h.0
at_place P (y ∷ xs) h (suc k) x e = at_place P xs h.1 k x e

module _ (f : FileScope) (count : ℕ) (less : (at : ℕ) → ended f.ends at ≤ count)
    (visible_made : (x : List ℕ) (at : ℕ) (e : Entity) → visible f.names x at ≡ Some e → IsMadeEntity f count less e)
    (H : CType → Type 0) (of_made : (t : CType) → IsWellMade count t → H t)
    (sized : (a : Trees.Expression) (s : Scope) (t : CType) → IsMadeScope f count less s → IsMeasured (Erases a) s t → is_object count t ≡ true → H t) where
  abbrev u : ℕ → List ℕ
  u = f.untagged

  abbrev F : Scope
  F = at_file_scope f

  abbrev IsTold : List Mark → List ℕ → Type 0
  IsTold u places = Spoken.IsTold f count less visible_made H of_made sized in_full u places

  in_file : IsMadeScope f count less F
  in_file = (refl, tt)

  -- ---- declarators of the file scope

  abbrev IsToldDeclarator : Trees.InitDeclarator → (from semicolon : ℕ) → Type 0
  IsToldDeclarator d from semicolon = IsTold (marks_of_declarator u d.declarator ++ a_name from ∷ marks_of_initial u d.value)
      (first_declarator d.declarator semicolon ∷ spoken_of_declarator d.declarator ++ spoken_by_value d.value)

  with_name : (kind : MentionKind) (base t : CType) (shape : Shape) (d : Trees.InitDeclarator) (x : Spelling) (from semicolon : ℕ)
      → declared_name d.declarator ≡ Some x → IsWellMade count base → Declares F d.declarator base shape
      → IsMentioned F kind t (first_declarator d.declarator x.from) → H t → IsTold (marks_of_initial u d.value) (spoken_by_value d.value)
      → IsToldDeclarator d from semicolon
  with_name kind base t shape d x from semicolon name m h said w v =
      let c = Spoken.lengths_told f count less visible_made H of_made sized d.declarator F base shape in_file m h in
      let own = Spoken.place_told f count less visible_made H of_made sized F kind t (first_declarator d.declarator x.from) in_file said w refl in
      let there = subst (Spoken.IsSpoken f count less visible_made H of_made sized) (first_named d.declarator x name x.from semicolon) own in
      record {
        marks = Spoken.marks_both f count less visible_made H of_made sized (marks_of_declarator u d.declarator) (a_name from ∷ marks_of_initial u d.value) c.marks
            (tt, v.marks);
        spoken = λ n. Spoken.spoken_both f count less visible_made H of_made sized (first_declarator d.declarator semicolon ∷ spoken_of_declarator d.declarator)
            (spoken_by_value d.value) (there, c.spoken n) (v.spoken n);
      }

  no_value : (v : Option (ℕ × Trees.Expression)) → v ≡ None → IsTold (marks_of_initial u v) (spoken_by_value v)
  no_value v h = subst (λ v. IsTold (marks_of_initial u v) (spoken_by_value v)) (sym h) (record { marks = tt; spoken = λ n. tt })

  value_of_object : (v : Option (ℕ × Trees.Expression)) (place : ℕ) (t : CType) (o : AnObject) → IsDefinition F place t v o
      → IsTold (marks_of_initial u v) (spoken_by_value v)
  value_of_object None place t o h = record { marks = tt; spoken = λ n. tt }
  value_of_object (Some v) place t o h = initializer_told f count less visible_made H of_made sized v.1 F t h.0 in_file h.1.0

  module _ (base : CType) (m : IsWellMade count base) where
    typedef_told : (d : Trees.InitDeclarator) (x : Spelling) (from semicolon : ℕ) → declared_name d.declarator ≡ Some x
        → IsTypedef f base d x (first_declarator d.declarator x.from) from → IsToldDeclarator d from semicolon
    typedef_told d x from semicolon name h =
        let w = of_made h.0 (declarator_known f count less visible_made d.declarator F base (closed h.0) in_file m h.3) in
        with_name Named base h.0 (closed h.0) d x from semicolon name m h.3 h.2 w (no_value d.value h.1)

    object_told : (words : Storage) (d : Trees.InitDeclarator) (x : Spelling) (from semicolon : ℕ) → declared_name d.declarator ≡ Some x
        → IsObject f words base d x (first_declarator d.declarator x.from) from → IsToldDeclarator d from semicolon
    object_told words d x from semicolon name h =
        let shape = declarator_known f count less visible_made d.declarator F base h.0 in_file m h.4 in
        let w = of_made h.1 (sized_made f count less h.0 d.value F h.1 shape h.5) in
        with_name Object base h.1 h.0 d x from semicolon name m h.4 h.8 w (value_of_object d.value (first_declarator d.declarator x.from) h.1 h.3 h.16)

    function_told : (words : Storage) (d : Trees.InitDeclarator) (x : Spelling) (from semicolon : ℕ) → declared_name d.declarator ≡ Some x
        → IsFunction f words base d x (first_declarator d.declarator x.from) from → IsToldDeclarator d from semicolon
    function_told words d x from semicolon name h =
        let w = of_made h.0 (declarator_known f count less visible_made d.declarator F base (closed h.0) in_file m h.2) in
        with_name Named base h.0 (closed h.0) d x from semicolon name m h.2 h.4 w (no_value d.value h.1)

    declarator_told : (words : Storage) (d : Trees.InitDeclarator) (x : Spelling) (from semicolon : ℕ) → declared_name d.declarator ≡ Some x
        → IsFileDeclarator f words base d x (first_declarator d.declarator x.from) from → IsToldDeclarator d from semicolon
    declarator_told a_typedef d x from semicolon name h = typedef_told d x from semicolon name h
    declarator_told no_storage d x from semicolon name (inl h) = function_told no_storage d x from semicolon name h
    declarator_told no_storage d x from semicolon name (inr h) = object_told no_storage d x from semicolon name h
    declarator_told is_extern d x from semicolon name (inl h) = function_told is_extern d x from semicolon name h
    declarator_told is_extern d x from semicolon name (inr h) = object_told is_extern d x from semicolon name h
    declarator_told is_static d x from semicolon name (inl h) = function_told is_static d x from semicolon name h
    declarator_told is_static d x from semicolon name (inr h) = object_told is_static d x from semicolon name h
    declarator_told is_auto d x from semicolon name h = absurd h
    declarator_told is_register d x from semicolon name h = absurd h
    declarator_told several d x from semicolon name h = absurd h

    declarators_told : (ds : List Trees.InitDeclarator) (words : Storage) (semicolon : ℕ) → AreFileDeclarators f words base ds semicolon
        → IsTold (marks_of_declarators u ds semicolon) (spoken_of_declarators ds semicolon)
    declarators_told [] words semicolon h = Spoken.none f count less visible_made H of_made sized
    declarators_told (d ∷ more) words semicolon h =
        Spoken.both f count less visible_made H of_made sized (declarator_told words d h.0 (name_from d.value (after_declarator more semicolon)) semicolon h.1 h.2)
        (declarators_told more words semicolon h.3)

  -- ---- items

  defined_told : (specs : Trees.Specifiers) (d : Trees.Declarator) (left : ℕ) (items : Trees.BlockItems) (right : ℕ)
      → ErasesItem f (Trees.defines specs d left items right)
      → IsTold (marks_of_item u (Trees.defines specs d left items right)) (mentions_of_item (Trees.defines specs d left items right))
  defined_told specs d left items right h =
      let base = base_known f count less visible_made specs F h.0 in_file h.7 in
      let t = declarator_known f count less visible_made d F h.0 (closed (function h.1 h.2)) in_file base h.10 in
      let b = Spoken.base_told f count less visible_made H of_made sized specs F h.0 in_file h.7 in
      let c = Spoken.lengths_told f count less visible_made H of_made sized d F h.0 (closed (function h.1 h.2)) in_file base h.10 in
      let own = Spoken.place_told f count less visible_made H of_made sized F Named (function h.1 h.2) (first_declarator d h.3.from) in_file h.12 (of_made (function h.1 h.2) t) refl in
      let there = subst (Spoken.IsSpoken f count less visible_made H of_made sized) (first_named d h.3 h.8 h.3.from left) own in
      let body = h.22 in
      let i = body_scope f (λ t. is_object count t ≡ true) (parameters_of d) h.2 h.5.parameters h.6 (h.5.parameters ++ h.5.locals) h.21 t.2 in
      let s = items_spoken f count less visible_made H of_made sized items (in_body f h.6 (h.5.parameters ++ h.5.locals)) body.0 (i, refl) body.2 in
      record {
        marks = Spoken.marks_both f count less visible_made H of_made sized (marks_of_specifiers u specs ++ marks_of_declarator u d) (a_name left ∷ [])
            (Spoken.marks_both f count less visible_made H of_made sized (marks_of_specifiers u specs) (marks_of_declarator u d) b.marks c.marks) (tt, tt);
        spoken = λ n. Spoken.spoken_both f count less visible_made H of_made sized (spoken_of_specifiers specs ++ first_declarator d left ∷ spoken_of_declarator d)
            (spoken_by_items items)
            (Spoken.spoken_both f count less visible_made H of_made sized (spoken_of_specifiers specs) (first_declarator d left ∷ spoken_of_declarator d) (b.spoken n)
            (there, c.spoken n)) s;
      }

  item_told : (item : Trees.Item) → ErasesItem f item → IsTold (marks_of_item u item) (mentions_of_item item)
  item_told (Trees.declaration d) h =
      Spoken.both f count less visible_made H of_made sized (Spoken.base_told f count less visible_made H of_made sized d.specs F h.0 in_file h.2)
      (declarators_told h.0 (base_known f count less visible_made d.specs F h.0 in_file h.2) d.all (storage_of d.specs) d.semicolon h.4)
  item_told (Trees.defines specs d left items right) h = defined_told specs d left items right h

  items_told : (items : List Trees.Item) → AllByRecursion (ErasesItem f) items → IsTold (marks_of_file u items) (mentions_of_file items)
  items_told [] h = Spoken.none f count less visible_made H of_made sized
  items_told (item ∷ items) h = Spoken.both f count less visible_made H of_made sized (item_told item h.0) (items_told items h.1)

  -- ---- of the tree of a text

  module _ (bytes : List ℕ) (items : List Trees.Item) (tree : IsTreeOf bytes items) (h : IsFileOf items f) where
    all_told : IsTold (marks_of_file u items) (mentions_of_file items)
    all_told = items_told items (recursion_from_All (ErasesItem f) items h.each_item)

    pub mention_whole : (k : ℕ) (m : AMention) → slice_get f.mentions k ≡ Some m → H m.ty
    mention_whole k m e =
        let there = subst (λ all. slice_get all k ≡ Some m.at) h.mentions (mapped_at (λ (m : AMention). m.at) f.mentions k m e) in
        let told = all_told in
        let z = at_place (Spoken.IsSpoken f count less visible_made H of_made sized) (mentions_of_file items) (told.spoken refl) k m.at there in
        let listed = z.2 in
        let other = subst (λ all. slice_get all listed.0 ≡ Some m.at) h.mentions (mapped_at (λ (m : AMention). m.at) f.mentions listed.0 _ listed.1) in
        let same = mentions_apart u bytes items tree listed.0 k m.at other there in
        let one = sym (subst (λ k. slice_get f.mentions k ≡ Some (record { kind = z.0; ty = z.1; at = m.at })) same listed.1) ∙ e in
        subst (λ (m : AMention). H m.ty) (some_is (record { kind = z.0; ty = z.1; at = m.at }) m one) z.3

    record_told : (r : ℕ) (rec : Record) → slice_get f.records r ≡ Some rec → Spoken.AreMadeFields f count less visible_made H of_made sized rec.fields
    record_told r rec e =
        let tag : slice_get (map (λ (r : Record). r.tag) f.records) r ≡ Some rec.tag = mapped_at (λ (r : Record). r.tag) f.records r rec e in
        let told = all_told in
        let z = record_at anywhere (Spoken.IsMadeRecord f count less visible_made H of_made sized) (marks_of_file u items) r rec.tag told.marks
        (subst (λ all. slice_get all r ≡ Some rec.tag) h.records tag) in
        let other = mapped_at (λ (r : Record). r.tag) f.records z.0 z.1 z.2 ∙ ap Some z.3 in
        let same : z.0 ≡ r = different_apart (map (λ r. r.tag) f.records) (subst AreDifferent (sym h.records) h.defined_once) z.0 r rec.tag other tag in
        let there : slice_get f.records r ≡ Some z.1 = subst (λ r. slice_get f.records r ≡ Some z.1) same z.2 in
        subst (λ (r : Record). Spoken.AreMadeFields f count less visible_made H of_made sized r.fields) (some_is z.1 rec (sym there ∙ e)) z.4

    pub field_made : (r k : ℕ) (t : CType) → field_type f.records r k ≡ Some t → IsWellMade count t
    field_made r k t e = by_record (slice_get f.records r) refl e
      where
        by_field : (all : List Field) → Spoken.AreMadeFields f count less visible_made H of_made sized all → (o : Option Field) → slice_get all k ≡ o
            → option_map (λ (x : Field). x.ty) o ≡ Some t → IsWellMade count t
        by_field all m None q e = cc
        by_field all m (Some x) q e = subst (IsWellMade count) (some_is x.ty t e) (at_place (λ (x : Field). IsWellMade count x.ty) all m k x q)

        by_record : (o : Option Record) → slice_get f.records r ≡ o → type_in o k ≡ Some t → IsWellMade count t
        by_record None q e = cc
        by_record (Some rec) q e = by_field rec.fields (record_told r rec q) (slice_get rec.fields k) refl e
