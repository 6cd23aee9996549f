-- What each object of a file holds at first are bytes where string literals initialize it (C99 6.4.5, 6.7.8, 6.9.2), and its type is fit.
use Rattle.std.proofs.Common.{◌≡◌, ◌≢◌, ◌∙◌, ℕ, zero, suc, ◌≤◌, Bool, true, false, refl, sym, ap, subst, List, [], ◌∷◌, ◌++◌, map, inl, inr}
use Rattle.std.proofs.lemmas.List.Elements.{recursion_from_All}
use Rattle.std.specs.Prelude.{Option, Some, None, slice_get}
use Rattle.std.specs.List.{AllByRecursion}
use Rattle.c_types.specs.Types.{CType, function}
use Rattle.c_ast.specs.declared.words.Spelling.{Spelling}
use Rattle.c_ast.specs.Places.{first_declarator}
use Rattle.c_ast.specs.Spelling.{Lexeme, spell, spelled_value, spelled_init_declarators, spelled_item, spelled_items}
use Rattle.c_ast.specs.Trees
use Rattle.c_typed.specs.declared.operators.LibraryFunction.{LibraryFunction}
use Rattle.c_typed.specs.Trees as Typed
use Rattle.c_erasure.specs.Declarators.{closed}
use Rattle.c_erasure.specs.Erasure.{IsBound}
use Rattle.c_erasure.specs.Files.{bound, object_how, IsTypedef, IsObject, IsFunction, IsFileDeclarator, AreFileDeclarators, IsDefinition, ErasesItem, in_body}
use Rattle.c_erasure.specs.Files.{IsMade, AreAscending, IsFileOf, IsIntroduced, IsLeft, is_defined, is_tentative}
use Rattle.c_erasure.specs.Literals.{literals_of_value, initial_literals, made_by_file_item, made_by_file}
use Rattle.c_erasure.specs.Marks.{Mark, a_name, marks_of_initial, marks_of_declarator, marks_of_declarators, marks_of_item, marks_of_file, name_from}
use Rattle.c_erasure.specs.Marks.{after_declarator, scope_beginnings}
use Rattle.c_erasure.specs.Noted.{Noted}
use Rattle.c_erasure.specs.Scopes.{How, declares, defines, Entity, typedef, an_object, a_function, a_library_function, enumerator, Bound, AnObject}
use Rattle.c_erasure.specs.Scopes.{FileScope, at_file_scope, ended}
use Rattle.c_erasure.specs.Specifiers.{Storage, storage_of, no_storage, a_typedef, is_extern, is_static, is_auto, is_register, several}
use Rattle.c_checking_laws.proofs.WholeFiles.CompleteObjects.{mapped_at}
use Rattle.c_checking_units.proofs.Lists.{ascending_apart}
use Rattle.c_checking_units.proofs.Tracing as Tracing
use Rattle.c_checking_units.proofs.Tracing.{AreAll, with_names, name_at}
use Rattle.c_well_typed.proofs.Definitions.{IsDeclaring, IsDefining, declaring, defining, value_of_object}
use Rattle.c_well_typed.proofs.Enumerators.{IsEnumerated, AreEnumerated, anything, base_found, lengths_found}
use Rattle.c_well_typed.proofs.LiteralObjects.{AreGood, IsGood, is_good, Holds, IsTextual, IsAccounted, AreAccounted, join, holds, constants_held}
use Rattle.c_well_typed.proofs.StatementObjects.{items_done}
use Rattle.c_well_typed.proofs.TokenBytes.{AreOfBytes, behind_comma, behind_specifiers, behind_declarator, behind_value, behind_declaration, behind_items}

some_is : {A : Type 0} (x y : A) → Some x ≡ Some y → x ≡ y
some_is x y h = cc

-- a declaration without an initializer does not define
no_definition : (words : Storage) → object_how words None ≡ defines → ⊥
no_definition is_extern h = cc
no_definition words h = cc

among : (Good : Typed.Initializer Noted → Type 0) (Fit : CType → Type 0) (f : FileScope) (places : List ℕ) (at : ℕ) → IsMade places at
    → AreAccounted Good Fit f places → IsAccounted Good Fit f at
among Good Fit f [] at m h = absurd m
among Good Fit f (place ∷ places) at (inl e) h = subst (IsAccounted Good Fit f) (sym e) h.0
among Good Fit f (place ∷ places) at (inr m) h = among Good Fit f places at m h.1

at_place : {A : Type 0} (P : A → Type 0) (xs : List A) → AllByRecursion P xs → (k : ℕ) (x : A) → slice_get xs k ≡ Some x → P x
at_place P [] h k x e = cc
at_place P (y ∷ xs) h zero x e = subst P (some_is y x e) h.0
at_place P (y ∷ xs) h (suc k) x e = at_place P xs h.1 k x e

module _ {P : ℕ → Type 0} {Good : Typed.Initializer Noted → Type 0} {Fit : CType → Type 0} (f : FileScope) (count : ℕ)
    (less : (at : ℕ) → ended f.ends at ≤ count) (good : AreGood P Good Fit f) where
  abbrev u : ℕ → List ℕ
  u = f.untagged

  -- ---- names of the file scope

  abbrev pub IsDefinedObject : ℕ → Type 0
  IsDefinedObject n = (o : AnObject) × (slice_get f.objects n ≡ Some o) × Holds o × IsGood Good o

  -- one that is declared is that of no literal
  abbrev pub IsOwnObject : ℕ → Type 0
  IsOwnObject n = (o : AnObject) × (slice_get f.objects n ≡ Some o) × (o.literal ≡ None)

  abbrev pub IsObjectName : Bound → Type 0
  IsObjectName b = (n : ℕ) (t : CType) → b.entity ≡ an_object n t → IsOwnObject n × (b.how ≡ defines → IsDefinedObject n) × Fit t

  abbrev IsNamedBy : ℕ → Type 0
  IsNamedBy from = (b : Bound) × IsBound (at_file_scope f) b × (b.from ≡ from) × IsObjectName b

  record AreNames (u : List Mark) : Type 0 where
    pub all : AreAll IsNamedBy anything u

  name_none : AreNames []
  name_none = record { all = tt }

  name_both : {a b : List Mark} → AreNames a → AreNames b → AreNames (a ++ b)
  name_both {a} {b} x y = record { all = Tracing.both IsNamedBy anything a b x.all y.all }

  no_enumerator : (v j : ℕ) (t : CType) → enumerator v ≡ an_object j t → ⊥
  no_enumerator v j t h = cc

  enumerators_name : {a : List Mark} → AreEnumerated f a → AreNames a
  enumerators_name {a} x = record {
    all = with_names (IsEnumerated f) IsNamedBy anything a
        (λ from h. (h.0, h.2, h.3, (λ n t e. absurd (no_enumerator h.1 n t (sym h.4 ∙ e))))) x.all;
  }

  one_name : (x : Spelling) (from : ℕ) (how : How) (e : Entity) → IsBound (at_file_scope f) (bound x from how e) → IsObjectName (bound x from how e)
      → AreNames (a_name from ∷ [])
  one_name x from how e h i = record { all = ((bound x from how e, h, refl, i), tt) }

  no_typedef : (t : CType) (j : ℕ) (r : CType) → typedef t ≡ an_object j r → ⊥
  no_typedef t j r h = cc

  no_function : (k : ℕ) (t : CType) (j : ℕ) (r : CType) → a_function k t ≡ an_object j r → ⊥
  no_function k t j r h = cc

  no_library : (which : LibraryFunction) (j : ℕ) (r : CType) → a_library_function which ≡ an_object j r → ⊥
  no_library which j r h = cc

  same_object : (i j : ℕ) (s t : CType) → an_object i s ≡ an_object j t → i ≡ j
  same_object i j s t h = cc

  same_type : (i j : ℕ) (s t : CType) → an_object i s ≡ an_object j t → s ≡ t
  same_type i j s t h = cc

  -- ---- declarators

  abbrev IsDeclarator : Trees.InitDeclarator → ℕ → Type 0
  IsDeclarator d from = AreNames (marks_of_declarator u d.declarator ++ a_name from ∷ marks_of_initial u d.value)
      × AreAccounted Good Fit f (literals_of_value d.value)

  no_marks : AreEnumerated f []
  no_marks = record { all = tt }

  no_value : (v : Option (ℕ × Trees.Expression)) → v ≡ None → AreEnumerated f (marks_of_initial u v) × AreAccounted Good Fit f (literals_of_value v)
  no_value v h = subst (λ v. AreEnumerated f (marks_of_initial u v) × AreAccounted Good Fit f (literals_of_value v)) (sym h) (no_marks, tt)

  with_name : (d : Trees.InitDeclarator) (from : ℕ) → AreEnumerated f (marks_of_declarator u d.declarator) → AreNames (a_name from ∷ [])
      → AreEnumerated f (marks_of_initial u d.value) × AreAccounted Good Fit f (literals_of_value d.value) → IsDeclarator d from
  with_name d from a b c = (name_both (enumerators_name a) (name_both b (enumerators_name c.0)), c.1)

  defined : (words : Storage) (v : Option (ℕ × Trees.Expression)) (place : ℕ) (t : CType) (o : AnObject) (rest : List Lexeme) → AreOfBytes P (spelled_value v rest)
      → IsDefinition (at_file_scope f) place t v o → AreAccounted Good Fit f (literals_of_value v) × (object_how words v ≡ defines → Holds o × IsGood Good o)
  defined words None place t o rest b h = (tt, λ d. absurd (no_definition words d))
  defined words (Some v) place t o rest b h =
      let k = constants_held f good (Some v) (at_file_scope f) t h.0 rest (refl, refl) b h.1 in
      let here = is_good Good o h.0 h.2 (good.of_value (Some v) (at_file_scope f) t h.0 rest (refl, refl) b h.1) in
      (k.1, λ d. (holds o h.0 h.2 k.0, here))

  typedef_found : (base : CType) (d : Trees.InitDeclarator) (x : Spelling) (place from : ℕ) → IsTypedef f base d x place from → IsDeclarator d from
  typedef_found base d x place from h =
      with_name d from (lengths_found f d.declarator (at_file_scope f) base (closed h.0) refl h.3)
      (one_name x from defines (typedef h.0) h.5 (λ n t e. absurd (no_typedef h.0 n t e))) (no_value d.value h.1)

  object_found : (words : Storage) (base : CType) (d : Trees.InitDeclarator) (x : Spelling) (place from : ℕ) (rest : List Lexeme)
      → AreOfBytes P (spelled_value d.value rest) → IsObject f words base d x place from → IsDeclarator d from
  object_found words base d x place from rest b h =
      let k = defined words d.value place h.1 h.3 rest b h.16 in
      with_name d from (lengths_found f d.declarator (at_file_scope f) base h.0 refl h.4)
      (one_name x from (object_how words d.value) (an_object h.2 h.1) h.15
      (λ n t e. (
        subst IsOwnObject (same_object h.2 n h.1 t e) (h.3, h.9, h.12),
        (λ d. subst IsDefinedObject (same_object h.2 n h.1 t e) (h.3, h.9, (k.1 d).0, (k.1 d).1)),
        subst Fit (same_type h.2 n h.1 t e) (good.object_fits h.1 place h.8),
      )))
      (value_of_object f count less d.value place h.1 h.3 h.16, k.0)

  function_named : (words : Storage) (base : CType) (d : Trees.InitDeclarator) (x : Spelling) (place from : ℕ) → IsFunction f words base d x place from
      → AreNames (a_name from ∷ [])
  function_named words base d x place from (t, v, de, fn, me, inl k) =
      one_name x from declares (a_library_function k.0) k.4 (λ n t e. absurd (no_library k.0 n t e))
  function_named words base d x place from (t, v, de, fn, me, inr k) =
      one_name x from declares (a_function k.0 t) k.8 (λ n s e. absurd (no_function k.0 t n s e))

  function_found : (words : Storage) (base : CType) (d : Trees.InitDeclarator) (x : Spelling) (place from : ℕ) → IsFunction f words base d x place from
      → IsDeclarator d from
  function_found words base d x place from h =
      with_name d from (lengths_found f d.declarator (at_file_scope f) base (closed h.0) refl h.2)
      (function_named words base d x place from h) (no_value d.value h.1)

  declarator_found : (words : Storage) (base : CType) (d : Trees.InitDeclarator) (x : Spelling) (place from : ℕ) (rest : List Lexeme)
      → AreOfBytes P (spelled_value d.value rest) → IsFileDeclarator f words base d x place from → IsDeclarator d from
  declarator_found a_typedef base d x place from rest b h = typedef_found base d x place from h
  declarator_found no_storage base d x place from rest b (inl h) = function_found no_storage base d x place from h
  declarator_found no_storage base d x place from rest b (inr h) = object_found no_storage base d x place from rest b h
  declarator_found is_extern base d x place from rest b (inl h) = function_found is_extern base d x place from h
  declarator_found is_extern base d x place from rest b (inr h) = object_found is_extern base d x place from rest b h
  declarator_found is_static base d x place from rest b (inl h) = function_found is_static base d x place from h
  declarator_found is_static base d x place from rest b (inr h) = object_found is_static base d x place from rest b h
  declarator_found is_auto base d x place from rest b h = absurd h
  declarator_found is_register base d x place from rest b h = absurd h
  declarator_found several base d x place from rest b h = absurd h

  declarators_found : (ds : List Trees.InitDeclarator) (words : Storage) (base : CType) (semicolon : ℕ) (rest : List Lexeme)
      → AreOfBytes P (spelled_init_declarators ds rest) → AreFileDeclarators f words base ds semicolon
      → AreNames (marks_of_declarators u ds semicolon) × AreAccounted Good Fit f (initial_literals ds)
  declarators_found [] words base semicolon rest b h = (name_none, tt)
  declarators_found (d ∷ more) words base semicolon rest b h =
      let v = behind_declarator P d.declarator _ (behind_comma P d.comma _ b) in
      let own = declarator_found words base d h.0 (first_declarator d.declarator h.0.from) (name_from d.value (after_declarator more semicolon)) _ v h.2 in
      let later = declarators_found more words base semicolon rest (behind_value P d.value _ v) h.3 in
      (name_both own.0 later.0, join Good Fit f (literals_of_value d.value) (initial_literals more) own.1 later.1)

  -- ---- items

  item_found : (item : Trees.Item) (rest : List Lexeme) → AreOfBytes P (spelled_item item rest) → ErasesItem f item
      → AreNames (marks_of_item u item) × AreAccounted Good Fit f (made_by_file_item item) × AreOfBytes P rest
  item_found (Trees.declaration d) rest b h =
      let own = declarators_found d.all (storage_of d.specs) h.0 d.semicolon _ (behind_specifiers P d.specs _ b) h.4 in
      (name_both (enumerators_name (base_found f d.specs (at_file_scope f) h.0 refl h.2)) own.0, own.1, behind_declaration P d rest b)
  item_found (Trees.defines specs d left items right) rest b h =
      let body = h.22 in
      let tokens = (behind_declarator P d _ (behind_specifiers P specs _ b)).1 in (
        name_both
            (name_both (enumerators_name (base_found f specs (at_file_scope f) h.0 refl h.7))
            (enumerators_name (lengths_found f d (at_file_scope f) h.0 (closed (function h.1 h.2)) refl h.10)))
            (one_name h.3 left defines (a_function h.4 h.5.ty) h.20 (λ n t e. absurd (no_function h.4 h.5.ty n t e))),
        items_done f good items (in_body f h.6 (h.5.parameters ++ h.5.locals)) body.0 _ (refl, refl) tokens body.2,
        (behind_items P items _ tokens).1,
      )

  items_found : (items : List Trees.Item) (rest : List Lexeme) → AreOfBytes P (spelled_items items rest) → AllByRecursion (ErasesItem f) items
      → AreNames (marks_of_file u items) × AreAccounted Good Fit f (made_by_file items)
  items_found [] rest b h = (name_none, tt)
  items_found (item ∷ items) rest b h =
      let own = item_found item _ b h.0 in
      let later = items_found items rest own.2 h.1 in
      (name_both own.0 later.0, join Good Fit f (made_by_file_item item) (made_by_file items) own.1 later.1)

  -- ---- objects of the file

  module _ (items : List Trees.Item) (b : AreOfBytes P (spell items)) (h : IsFileOf items f)
      (beginnings : AreAscending (scope_beginnings (marks_of_file f.untagged items)))
    where
      known : AreNames (marks_of_file f.untagged items) × AreAccounted Good Fit f (made_by_file items)
      known = items_found items [] b (recursion_from_All (ErasesItem f) items h.each_item)

      pub name_known : (k : ℕ) (b : Bound) → slice_get f.names k ≡ Some b → IsObjectName b
      name_known k b e =
          let names = subst AreAscending (sym h.names) beginnings in
          let from : slice_get (map (λ (b : Bound). b.from) f.names) k ≡ Some b.from = mapped_at (λ (b : Bound). b.from) f.names k b e in
          let all = known.0 in
          let z = name_at IsNamedBy anything (marks_of_file f.untagged items) k b.from all.all (subst (λ all. slice_get all k ≡ Some b.from) h.names from) in
          let other = mapped_at (λ (b : Bound). b.from) f.names z.1.0 z.0 z.1.1 ∙ ap Some z.2 in
          let number : z.1.0 ≡ k = ascending_apart (map (λ b. b.from) f.names) names z.1.0 k b.from other from in
          let there : slice_get f.names k ≡ Some z.0 = subst (λ k. slice_get f.names k ≡ Some z.0) number z.1.1 in
          subst IsObjectName (some_is z.0 b (sym there ∙ e)) z.3

      abbrev IsKnown : AnObject → Type 0
      IsKnown o = Holds o × IsTextual o × IsGood Good o × Fit o.ty

      pub objects_known : (n : ℕ) (o : AnObject) → slice_get f.objects n ≡ Some o → IsKnown o
      objects_known n o e = by_maker (h.objects n o e)
        where
          made : IsAccounted Good Fit f o.first → IsKnown o
          made (inl k) =
              let first = mapped_at (λ (o : AnObject). o.first) f.objects n o e in
              let other = mapped_at (λ (o : AnObject). o.first) f.objects k.0 k.1 k.2 ∙ ap Some k.3 in
              let number : k.0 ≡ n = ascending_apart (map (λ o. o.first) f.objects) h.objects_in_order k.0 n o.first other first in
              let there : slice_get f.objects n ≡ Some k.1 = subst (λ n. slice_get f.objects n ≡ Some k.1) number k.2 in
              subst IsKnown (some_is k.1 o (sym there ∙ e)) (k.4, k.5, k.6, k.7)
          made (inr k) =
              absurd (at_place (λ (p : AnObject). p.first ≢ o.first) f.objects (recursion_from_All (λ (p : AnObject). p.first ≢ o.first) f.objects k) n o e refl)

          of_name : IsDefining f count less f.names (an_object n o.ty) → Holds o × IsGood Good o
          of_name d =
              let k = (name_known d.0 d.1 d.2 n o.ty d.3).1 d.4 in subst (λ o. Holds o × IsGood Good o) (some_is k.0 o (sym k.1 ∙ e)) (k.2, k.3)

          no_literal : o.literal ≡ None → IsTextual o
          no_literal q bytes k = let none : None ≡ Some bytes = sym q ∙ k in cc

          own : IsDeclaring f count less f.names (an_object n o.ty) → IsTextual o × Fit o.ty
          own d =
              let known = name_known d.0 d.1 d.2 n o.ty d.3 in
              let k = known.0 in
              (no_literal (subst (λ (o : AnObject). o.literal ≡ None) (some_is k.0 o (sym k.1 ∙ e)) k.2), known.2)

          absent : {A : Type 0} (i : Typed.Initializer Noted) → o.initial ≡ None → o.initial ≡ Some i → A
          absent i q k = let none : None ≡ Some i = sym q ∙ k in cc

          no_initial : o.initial ≡ None → Holds o × IsGood Good o
          no_initial q = ((λ i k. absent i q k), (λ i k. absent i q k))

          by_left : (b c : Bool) → IsLeft f o b c → (b ≡ true → Holds o × IsGood Good o) → Holds o × IsGood Good o
          by_left true c l k = k refl
          by_left false true l k = (holds o (Typed.parts []) l.1 tt, is_good Good o (Typed.parts []) l.1 good.of_zero)
          by_left false false l k = no_initial l.1

          by_maker : IsIntroduced f items n o → IsKnown o
          by_maker (inl m) = made (among Good Fit f (made_by_file items) o.first m known.1)
          by_maker (inr d) =
              let k = by_left (is_defined d.0) (is_tentative d.0) d.3 (λ t. of_name (defining f count less f.names (an_object n o.ty) d.0 d.2 t)) in
              let declared = own (declaring f count less f.names (an_object n o.ty) d.0 d.2 d.1) in
              (k.0, declared.0, k.1, declared.1)
