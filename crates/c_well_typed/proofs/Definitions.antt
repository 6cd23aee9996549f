-- Each function of a file with a body is one that an item of the file defines, and each function has the type of one (C99 6.7, 6.9.1).
use Rattle.std.proofs.Common.{◌≡◌, ◌≢◌, ◌∙◌, ℕ, zero, suc, ◌+◌, ◌≤◌, Bool, true, false, refl, sym, ap, subst, cond, List, [], ◌∷◌, ◌++◌, length, map, inl, inr}
use Rattle.std.proofs.lemmas.List.Elements.{recursion_from_All}
use Rattle.std.specs.Prelude.{◌⊎◌, Option, Some, None, slice_get}
use Rattle.std.specs.List.{AllByRecursion}
use Rattle.c_types.specs.Types.{CType, CTypes, function, structure, and_type, Field}
use Rattle.c_types.specs.Views.{listed}
use Rattle.c_ast.specs.declared.words.Spelling.{Spelling}
use Rattle.c_ast.specs.Places.{first_declarator}
use Rattle.c_ast.specs.Trees
use Rattle.c_typed.specs.declared.operators.LibraryFunction.{LibraryFunction}
use Rattle.c_typed.specs.Conversions.{is_function, is_scalar}
use Rattle.c_typed.specs.Trees as Typed
use Rattle.c_typed.specs.Typed.{Declared}
use Rattle.c_typed.specs.TypedStatements.{declared_by, all_declared_by, AreTyped}
use Rattle.c_erasure.specs.Declarators.{closed, open_array, is_name}
use Rattle.c_erasure.specs.Erasure.{Values, Erases, IsBound, Declares, AreParameters, AreListed}
use Rattle.c_erasure.specs.Files.{bound, IsTypedef, IsObject, IsFunction, IsFileDeclarator, AreFileDeclarators, IsDefinition, ErasesItem, object_how, AreNamed}
use Rattle.c_erasure.specs.Files.{HasParameters, parameters_of, in_body, count_up, without_notes, AreAscending, IsFileOf, IsOpen, declarations_of, is_defined}
use Rattle.c_erasure.specs.Initializers.{Part, part_at, texts_of, IsText, Initializes, IsOneValue, InitializeElements, InitializeFields, IsInitializer}
use Rattle.c_erasure.specs.Marks.{Mark, a_name, marks, marks_of_all, marks_of_initial, marks_of_declarator, marks_of_declarators, marks_of_item, marks_of_file}
use Rattle.c_erasure.specs.Marks.{name_from, after_declarator, scope_beginnings}
use Rattle.c_erasure.specs.Noted.{Noted, Expression, Path, an_object, type_of, type_of_path}
use Rattle.c_erasure.specs.Scopes.{How, declares, tentative, defines, Entity, a_function, typedef, a_library_function, enumerator, Bound, ALocal, AFunction}
use Rattle.c_erasure.specs.Scopes.{FileScope, Scope, at_file_scope, declared, ended}
use Rattle.c_erasure.specs.Scopes as Scopes
use Rattle.c_erasure.specs.Statements.{EraseItems}
use Rattle.c_erasure.specs.Specifiers.{Storage, storage_of, no_storage, a_typedef, is_extern, is_static, is_auto, is_register, several}
use Rattle.c_checking_laws.proofs.WholeFiles.CompleteObjects.{mapped_at}
use Rattle.c_checking_units.proofs.Lists.{ascending_apart}
use Rattle.c_checking_units.proofs.Tracing as Tracing
use Rattle.c_checking_units.proofs.Tracing.{AreAll, with_names, name_at}
use Rattle.c_well_typed.specs.WellTyped.{IsResult, AreScalars}
use Rattle.c_well_typed.proofs.Enumerators.{IsEnumerated, AreEnumerated, anything, found, value_found, base_found, lengths_found}
use Rattle.c_well_typed.proofs.ErasedNotes.{items_noted}
use Rattle.c_well_typed.proofs.StatementNotes.{AreStatementsNoted}

some_is : {A : Type 0} (x y : A) → Some x ≡ Some y → x ≡ y
some_is x y h = cc

-- ---- parameters

types_of_named : (all : Trees.Parameters) (types : CTypes) (k : ℕ) (locals : List ALocal) (bounds : List Bound) → AreNamed all types k locals bounds
    → listed (map (λ l. l.ty) locals) ≡ types
types_of_named Trees.no_parameters types k locals bounds h = rw (h.1, h.0) refl
types_of_named (Trees.and_parameter comma specs d more) types k locals bounds h =
    rw (h.7, h.6) (ap (and_type h.1) (types_of_named more h.2 (k + 1) h.3 h.4 h.9))

types_of_parameters : (all : Option Trees.ParameterList) (types : CTypes) (locals : List ALocal) (bounds : List Bound) → HasParameters all types locals bounds
    → listed (map (λ l. l.ty) locals) ≡ types
types_of_parameters None types locals bounds h = absurd h
types_of_parameters (Some (Trees.void_alone at)) types locals bounds h = rw (h.1, h.0) refl
types_of_parameters (Some (Trees.listed all)) types locals bounds h = types_of_named all types 0 locals bounds h

-- they are numbers and pointers

listed_scalars : (all : Trees.Parameters) (s : Scope) (types : CTypes) → AreListed s all types → AreScalars types
listed_scalars Trees.no_parameters s types h = subst AreScalars (sym h) tt
listed_scalars (Trees.and_parameter comma specs d more) s types h = subst AreScalars (sym h.3) (h.7, listed_scalars more _ h.2 h.10)

parameters_scalars : (all : Trees.ParameterList) (s : Scope) (types : CTypes) → AreParameters s all types → AreScalars types
parameters_scalars (Trees.void_alone at) s types h = subst AreScalars (sym h) tt
parameters_scalars (Trees.listed all) s types h = listed_scalars all s types h

-- where nothing but a name stands the type is the one before it
name_is : (d : Trees.Declarator) (s : Scope) (t u : CType) → is_name d ≡ true → Declares s d t (closed u) → t ≡ u
name_is Trees.nothing s t u n h = let is : closed u ≡ closed t = h in cc
name_is (Trees.named x) s t u n h = let is : closed u ≡ closed t = h in cc
name_is (Trees.enclosed left d right) s t u n h = name_is d s t u n h
name_is (Trees.pointer at consts d) s t u n h = cc
name_is (Trees.array d left length right) s t u n h = cc
name_is (Trees.function d left all right) s t u n h = cc

parts_are : (s t : CType) (p q : CTypes) → function s p ≡ function t q → (s ≡ t) × (p ≡ q)
parts_are s t p q e = (cc, cc)

no_open_array : (t u : CType) → closed t ≡ open_array u → ⊥
no_open_array t u e = cc

scalar_function : (d : Trees.Declarator) (s : Scope) (base result : CType) (types : CTypes) (locals : List ALocal) (bounds : List Bound)
    → Declares s d base (closed (function result types)) → HasParameters (parameters_of d) types locals bounds → IsResult result × AreScalars types
scalar_function Trees.nothing s base result types locals bounds h k = absurd k
scalar_function (Trees.named x) s base result types locals bounds h k = absurd k
scalar_function (Trees.pointer at consts d) s base result types locals bounds h k = scalar_function d s _ result types locals bounds h.1 k
scalar_function (Trees.enclosed left d right) s base result types locals bounds h k = scalar_function d s base result types locals bounds h k
scalar_function (Trees.array d left (Trees.some_expression a) right) s base result types locals bounds h k =
    scalar_function d s _ result types locals bounds h.8 k
scalar_function (Trees.array d left Trees.no_expression right) s base result types locals bounds h k =
    absurd (no_open_array (function result types) base h.2)
scalar_function (Trees.function d left all right) s base result types locals bounds h k =
    by_name (is_name d) refl k (λ k. scalar_function d s _ result types locals bounds h.4 k)
  where
    by_name : (b : Bool) → is_name d ≡ b → HasParameters (cond b (Some all) (parameters_of d)) types locals bounds
        → (HasParameters (parameters_of d) types locals bounds → IsResult result × AreScalars types) → IsResult result × AreScalars types
    by_name true n k again =
        let e = parts_are base result h.0 types (name_is d s (function base h.0) (function result types) n h.4) in
        (subst IsResult e.0 h.2, subst AreScalars e.1 (parameters_scalars all _ h.0 h.1))
    by_name false n k again = again k

-- ---- what is defined

abbrev pub in_function : FileScope → AFunction → Declared
in_function f g = record {
  records = f.records;
  complete = ended f.ends;
  locals = map (λ l. l.ty) (g.parameters ++ g.locals);
  objects = map (λ o. o.ty) f.objects;
  functions = map (λ h. h.ty) f.functions;
}

pub record IsDefinedFunction (f : FileScope) (count : ℕ) (g : AFunction) : Type 0 where
  pub result : CType
  pub types : CTypes
  pub ty_is : g.ty ≡ function result types
  pub scalars : IsResult result × AreScalars types
  pub parameters : listed (map (λ l. l.ty) g.parameters) ≡ types
  pub all : Typed.Statements Noted
  pub body : g.body ≡ Some (Typed.block (declared_by all) all)
  pub typed : AreTyped (in_function f g) result false false (without_notes all)
  pub declared_all : all_declared_by all ≡ count_up (length g.parameters) (length g.locals)
  pub noted : AreStatementsNoted count ⊥ all
  -- what its body is the tree of
  pub list : Option Trees.ParameterList
  pub bounds : List Bound
  pub of_list : HasParameters list types g.parameters bounds
  pub items : Trees.BlockItems
  pub erased : EraseItems items (in_body f bounds (g.parameters ++ g.locals)) all

module _ (f : FileScope) (count : ℕ) (less : (at : ℕ) → ended f.ends at ≤ count) where
  abbrev u : ℕ → List ℕ
  u = f.untagged

  abbrev E : List Mark → Type 0
  E marks = AreEnumerated f marks

  no_marks : E []
  no_marks = record { all = tt }

  both : {a b : List Mark} → E a → E b → E (a ++ b)
  both {a} {b} x y = record { all = Tracing.both (IsEnumerated f) anything a b x.all y.all }

  -- ---- initializers

  text_found : (a : Trees.Expression) (s : Scope) (t : CType) (at : ℕ) (parts : List Part) → IsText (texts_of a) s t at parts → E (marks u a)
  text_found (Trees.texts all) s t at parts h = no_marks
  text_found (Trees.braces left Trees.no_arguments last right) s t at parts h = absurd h
  text_found (Trees.braces left (Trees.and_argument comma (Trees.texts all) Trees.no_arguments) last right) s t at parts h = no_marks
  text_found (Trees.braces left (Trees.and_argument comma (Trees.texts all) (Trees.and_argument second b more)) last right) s t at parts h = absurd h
  text_found (Trees.braces left (Trees.and_argument comma a more) last right) s t at parts h = absurd h
  text_found a s t at parts h = absurd h

  abbrev IsSingle : Trees.Expression → Scope → CType → ℕ → List Part → Type 0
  IsSingle a s t at parts =
      ((x : Expression) × (is_scalar t ≡ true) × (type_of x ≡ t) × (parts ≡ part_at at (Typed.value x)) × Values (Erases a s) x)
      ⊎ ((r : ℕ) × (p : Path) × (t ≡ structure r) × (type_of_path p ≡ t) × (parts ≡ part_at at (Typed.record_of p)) × Erases a s (an_object p))
      ⊎ IsText (texts_of a) s t at parts

  single_found : (a : Trees.Expression) (s : Scope) (t : CType) (at : ℕ) (parts : List Part) → s.file ≡ f → IsSingle a s t at parts → E (marks u a)
  single_found a s t at parts e (inl h) = value_found f a s h.0 e h.4
  single_found a s t at parts e (inr (inl h)) = found f a s (an_object h.1) e h.5
  single_found a s t at parts e (inr (inr h)) = text_found a s t at parts h

  one_found : (all : Trees.Arguments) (s : Scope) (x : Expression) → s.file ≡ f → IsOneValue all s x → E (marks_of_all u all)
  one_found Trees.no_arguments s x e h = absurd h
  one_found (Trees.and_argument comma a Trees.no_arguments) s x e h = both (value_found f a s x e h) no_marks
  one_found (Trees.and_argument comma a (Trees.and_argument second b more)) s x e h = absurd h

  mutual
    initial_found : (a : Trees.Expression) (s : Scope) (t : CType) (at : ℕ) (parts : List Part) → s.file ≡ f → Initializes a s t at parts → E (marks u a)
    initial_found (Trees.braces left all last right) s t at parts e (inl h) = one_found all s h.0 e h.4
    initial_found (Trees.braces left all last right) s t at parts e (inr (inl h)) = elements_found all s h.1 h.0 at parts e h.4
    initial_found (Trees.braces left all last right) s t at parts e (inr (inr (inl h))) = fields_found all s h.0 0 h.1.fields at parts e h.4
    initial_found (Trees.braces left all last right) s t at parts e (inr (inr (inr h))) =
        text_found (Trees.braces left all last right) s t at parts h
    initial_found a s t at parts e h = single_found a s t at parts e h

    elements_found : (all : Trees.Arguments) (s : Scope) (ty : CType) (k at : ℕ) (parts : List Part) → s.file ≡ f → InitializeElements all s ty k at parts
        → E (marks_of_all u all)
    elements_found Trees.no_arguments s ty k at parts e h = no_marks
    elements_found (Trees.and_argument comma a more) s ty k at parts e h =
        both (initial_found a s ty at h.1 e h.5) (elements_found more s ty h.0 _ h.2 e h.6)

    fields_found : (all : Trees.Arguments) (s : Scope) (r k : ℕ) (fields : List Field) (at : ℕ) (parts : List Part) → s.file ≡ f
        → InitializeFields all s r k fields at parts → E (marks_of_all u all)
    fields_found Trees.no_arguments s r k fields at parts e h = no_marks
    fields_found (Trees.and_argument comma a more) s r k fields at parts e h =
        both (initial_found a s h.0.ty _ h.2 e h.6) (fields_found more s r (k + 1) h.1 at h.3 e h.7)

  initializer_found : (a : Trees.Expression) (s : Scope) (t : CType) (i : Typed.Initializer Noted) → s.file ≡ f → IsInitializer a s t i → E (marks u a)
  initializer_found a s t i e (inl h) = initial_found a s t 0 _ e h.3
  initializer_found a s t i e (inr (inl h)) = initial_found a s t 0 _ e h.4
  initializer_found a s t i e (inr (inr h)) = initial_found a s t 0 h.0 e h.3

  -- ---- names of the file scope

  abbrev HasDefinition : ℕ → Type 0
  HasDefinition n = (g : AFunction) × (slice_get f.functions n ≡ Some g) × IsDefinedFunction f count g

  abbrev pub IsFunctionName : Bound → Type 0
  IsFunctionName b = (n : ℕ) (t : CType) → b.entity ≡ a_function n t → (is_function t ≡ true) × (b.how ≡ defines → HasDefinition n)

  abbrev pub IsNamedBy : ℕ → Type 0
  IsNamedBy from = (b : Bound) × IsBound (at_file_scope f) b × (b.from ≡ from) × IsFunctionName b

  record AreNames (u : List Mark) : Type 0 where
    pub all : AreAll IsNamedBy anything u

  name_none : AreNames []
  name_none = record { all = tt }

  name_both : {a b : List Mark} → AreNames a → AreNames b → AreNames (a ++ b)
  name_both {a} {b} x y = record { all = Tracing.both IsNamedBy anything a b x.all y.all }

  no_function : (v j : ℕ) (t : CType) → enumerator v ≡ a_function j t → ⊥
  no_function v j t h = cc

  enumerators_name : {a : List Mark} → E a → AreNames a
  enumerators_name {a} x = record {
    all = with_names (IsEnumerated f) IsNamedBy anything a
        (λ from h. (h.0, h.2, h.3, (λ n t e. absurd (no_function h.1 n t (sym h.4 ∙ e))))) x.all;
  }

  one_name : (x : Spelling) (from : ℕ) (how : How) (e : Entity) → IsBound (at_file_scope f) (bound x from how e) → IsFunctionName (bound x from how e)
      → AreNames (a_name from ∷ [])
  one_name x from how e h i = record { all = ((bound x from how e, h, refl, i), tt) }

  -- ---- declarators

  abbrev IsDeclarator : Trees.InitDeclarator → ℕ → Type 0
  IsDeclarator d from = AreNames (marks_of_declarator u d.declarator ++ a_name from ∷ marks_of_initial u d.value)

  with_name : (d : Trees.InitDeclarator) (from : ℕ) → E (marks_of_declarator u d.declarator) → AreNames (a_name from ∷ []) → E (marks_of_initial u d.value)
      → IsDeclarator d from
  with_name d from a b c = name_both (enumerators_name a) (name_both b (enumerators_name c))

  no_value : (v : Option (ℕ × Trees.Expression)) → v ≡ None → E (marks_of_initial u v)
  no_value v h = subst (λ v. E (marks_of_initial u v)) (sym h) no_marks

  pub value_of_object : (v : Option (ℕ × Trees.Expression)) (place : ℕ) (t : CType) (o : Scopes.AnObject) → IsDefinition (at_file_scope f) place t v o
      → E (marks_of_initial u v)
  value_of_object None place t o h = no_marks
  value_of_object (Some v) place t o h = initializer_found v.1 (at_file_scope f) t h.0 refl h.1.0

  no_typedef : (t : CType) (j : ℕ) (r : CType) → typedef t ≡ a_function j r → ⊥
  no_typedef t j r h = cc

  no_object : (k : ℕ) (t : CType) (j : ℕ) (r : CType) → Scopes.an_object k t ≡ a_function j r → ⊥
  no_object k t j r h = cc

  no_library : (which : LibraryFunction) (j : ℕ) (r : CType) → a_library_function which ≡ a_function j r → ⊥
  no_library which j r h = cc

  no_definition : declares ≡ defines → ⊥
  no_definition h = cc

  same_function : (i j : ℕ) (s t : CType) → a_function i s ≡ a_function j t → (i ≡ j) × (s ≡ t)
  same_function i j s t h = (cc, cc)

  typedef_found : (base : CType) (d : Trees.InitDeclarator) (x : Spelling) (place from : ℕ) → IsTypedef f base d x place from → IsDeclarator d from
  typedef_found base d x place from h =
      with_name d from (lengths_found f d.declarator (at_file_scope f) base (closed h.0) refl h.3)
      (one_name x from defines (typedef h.0) h.5 (λ n t e. absurd (no_typedef h.0 n t e))) (no_value d.value h.1)

  object_found : (words : Storage) (base : CType) (d : Trees.InitDeclarator) (x : Spelling) (place from : ℕ) → IsObject f words base d x place from
      → IsDeclarator d from
  object_found words base d x place from h =
      with_name d from (lengths_found f d.declarator (at_file_scope f) base h.0 refl h.4)
      (one_name x from (object_how words d.value) (Scopes.an_object h.2 h.1) h.15 (λ n t e. absurd (no_object h.2 h.1 n t e)))
      (value_of_object d.value place h.1 h.3 h.16)

  function_named : (words : Storage) (base : CType) (d : Trees.InitDeclarator) (x : Spelling) (place from : ℕ) → IsFunction f words base d x place from
      → AreNames (a_name from ∷ [])
  function_named words base d x place from (t, v, de, fn, me, inl k) =
      one_name x from declares (a_library_function k.0) k.4 (λ n t e. absurd (no_library k.0 n t e))
  function_named words base d x place from (t, v, de, fn, me, inr k) =
      one_name x from declares (a_function k.0 t) k.8
      (λ n s e. (subst (λ t. is_function t ≡ true) (same_function k.0 n t s e).1 fn, (λ d. absurd (no_definition d))))

  declared_found : (words : Storage) (base : CType) (d : Trees.InitDeclarator) (x : Spelling) (place from : ℕ) → IsFunction f words base d x place from
      → IsDeclarator d from
  declared_found words base d x place from h =
      with_name d from (lengths_found f d.declarator (at_file_scope f) base (closed h.0) refl h.2)
      (function_named words base d x place from h) (no_value d.value h.1)

  declarator_found : (words : Storage) (base : CType) (d : Trees.InitDeclarator) (x : Spelling) (place from : ℕ)
      → IsFileDeclarator f words base d x place from → IsDeclarator d from
  declarator_found a_typedef base d x place from h = typedef_found base d x place from h
  declarator_found no_storage base d x place from (inl h) = declared_found no_storage base d x place from h
  declarator_found no_storage base d x place from (inr h) = object_found no_storage base d x place from h
  declarator_found is_extern base d x place from (inl h) = declared_found is_extern base d x place from h
  declarator_found is_extern base d x place from (inr h) = object_found is_extern base d x place from h
  declarator_found is_static base d x place from (inl h) = declared_found is_static base d x place from h
  declarator_found is_static base d x place from (inr h) = object_found is_static base d x place from h
  declarator_found is_auto base d x place from h = absurd h
  declarator_found is_register base d x place from h = absurd h
  declarator_found several base d x place from h = absurd h

  declarators_found : (ds : List Trees.InitDeclarator) (words : Storage) (base : CType) (semicolon : ℕ) → AreFileDeclarators f words base ds semicolon
      → AreNames (marks_of_declarators u ds semicolon)
  declarators_found [] words base semicolon h = name_none
  declarators_found (d ∷ more) words base semicolon h =
      name_both (declarator_found words base d h.0 (first_declarator d.declarator h.0.from) (name_from d.value (after_declarator more semicolon)) h.2)
      (declarators_found more words base semicolon h.3)

  -- ---- items

  item_found : (item : Trees.Item) → ErasesItem f item → AreNames (marks_of_item u item)
  item_found (Trees.declaration d) h =
      name_both (enumerators_name (base_found f d.specs (at_file_scope f) h.0 refl h.2)) (declarators_found d.all (storage_of d.specs) h.0 d.semicolon h.4)
  item_found (Trees.defines specs d left items right) h =
      let body = h.22 in
      let good : IsDefinedFunction f count h.5 = record {
        result = h.1;
        types = h.2;
        ty_is = h.15;
        scalars = scalar_function d (at_file_scope f) h.0 h.1 h.2 h.5.parameters h.6 h.10 h.21;
        parameters = types_of_parameters (parameters_of d) h.2 h.5.parameters h.6 h.21;
        all = body.0;
        body = body.1;
        typed = body.3;
        declared_all = body.4;
        noted = items_noted f count less items (in_body f h.6 (h.5.parameters ++ h.5.locals)) body.0 refl body.2;
        list = parameters_of d;
        bounds = h.6;
        of_list = h.21;
        items = items;
        erased = body.2;
      } in
      name_both
      (name_both (enumerators_name (base_found f specs (at_file_scope f) h.0 refl h.7))
      (enumerators_name (lengths_found f d (at_file_scope f) h.0 (closed (function h.1 h.2)) refl h.10)))
      (one_name h.3 left defines (a_function h.4 h.5.ty) h.20
      (λ n t e.
      let is = same_function h.4 n h.5.ty t e in
      (subst (λ t. is_function t ≡ true) (sym h.15 ∙ is.1) refl, (λ d. subst HasDefinition is.0 (h.5, h.13, good)))))

  items_found : (items : List Trees.Item) → AllByRecursion (ErasesItem f) items → AreNames (marks_of_file u items)
  items_found [] h = name_none
  items_found (item ∷ items) h = name_both (item_found item h.0) (items_found items h.1)

  -- ---- declarations of a function

  abbrev pub IsDeclaring : List Bound → Entity → Type 0
  IsDeclaring names e = (k : ℕ) × (b : Bound) × (slice_get names k ≡ Some b) × (b.entity ≡ e)

  abbrev pub IsDefining : List Bound → Entity → Type 0
  IsDefining names e = (k : ℕ) × (b : Bound) × (slice_get names k ≡ Some b) × (b.entity ≡ e) × (b.how ≡ defines)

  pub declaring : (names : List Bound) (e : Entity) (all : List How) → declarations_of names e all → all ≢ [] → IsDeclaring names e
  declaring [] e all h n = absurd (n h)
  declaring (b ∷ names) e all (inl h) n = (zero, b, refl, h.0)
  declaring (b ∷ names) e all (inr h) n = let r = declaring names e all h.1 n in (suc r.0, r.1, r.2, r.3)

  one_further : (b : Bound) (names : List Bound) (e : Entity) → IsDefining names e → IsDefining (b ∷ names) e
  one_further b names e h = (suc h.0, h.1, h.2, h.3, h.4)

  pub defining : (names : List Bound) (e : Entity) (all : List How) → declarations_of names e all → is_defined all ≡ true → IsDefining names e
  defining [] e all h d = let x : is_defined [] ≡ true = subst (λ all. is_defined all ≡ true) h d in cc
  defining (b ∷ names) e all (inl h) d =
      by_how b.how refl (subst (λ all. is_defined all ≡ true) h.1.1 d) (λ d. defining names e h.1.0 h.1.2 d)
    where
      by_how : (how : How) → b.how ≡ how → is_defined (how ∷ h.1.0) ≡ true → (is_defined h.1.0 ≡ true → IsDefining names e) → IsDefining (b ∷ names) e
      by_how defines q d again = (zero, b, refl, h.0, q)
      by_how declares q d again = one_further b names e (again d)
      by_how tentative q d again = one_further b names e (again d)
  defining (b ∷ names) e all (inr h) d = one_further b names e (defining names e all h.1 d)

  -- ---- functions of the file

  module _ (items : List Trees.Item) (h : IsFileOf items f) (beginnings : AreAscending (scope_beginnings (marks_of_file f.untagged items))) where
    name_known : (k : ℕ) (b : Bound) → slice_get f.names k ≡ Some b → IsFunctionName b
    name_known k b e =
        let names = subst AreAscending (sym h.names) beginnings in
        let from : slice_get (map (λ (b : Bound). b.from) f.names) k ≡ Some b.from = mapped_at (λ (b : Bound). b.from) f.names k b e in
        let all = (items_found items (recursion_from_All (ErasesItem f) items h.each_item)).all in
        let z = name_at IsNamedBy anything (marks_of_file f.untagged items) k b.from all (subst (λ all. slice_get all k ≡ Some b.from) h.names from) in
        let other = mapped_at (λ (b : Bound). b.from) f.names z.1.0 z.0 z.1.1 ∙ ap Some z.2 in
        let number : z.1.0 ≡ k = ascending_apart (map (λ b. b.from) f.names) names z.1.0 k b.from other from in
        let there : slice_get f.names k ≡ Some z.0 = subst (λ k. slice_get f.names k ≡ Some z.0) number z.1.1 in
        subst IsFunctionName (some_is z.0 b (sym there ∙ e)) z.3

    pub is_function_type : (n : ℕ) (g : AFunction) → slice_get f.functions n ≡ Some g → is_function g.ty ≡ true
    is_function_type n g e =
        let d = h.functions n g e in
        let b = declaring f.names (a_function n g.ty) d.0 d.2 d.1 in
        (name_known b.0 b.1 b.2 n g.ty b.3).0

    pub function_known : (n : ℕ) (g : AFunction) → slice_get f.functions n ≡ Some g
        → ((g.body ≡ None) × (g.parameters ≡ []) × (g.locals ≡ [])) ⊎ IsDefinedFunction f count g
    function_known n g e = let d = h.functions n g e in by_open (is_defined d.0) refl d.3
      where
        of_definition : is_defined (h.functions n g e).0 ≡ true → IsDefinedFunction f count g
        of_definition t =
            let d = h.functions n g e in
            let b = defining f.names (a_function n g.ty) d.0 d.2 t in
            let x = (name_known b.0 b.1 b.2 n g.ty b.3).1 b.4 in
            subst (IsDefinedFunction f count) (some_is x.0 g (sym x.1 ∙ e)) x.2

        by_open : (b : Bool) → is_defined (h.functions n g e).0 ≡ b → IsOpen f items g b
            → ((g.body ≡ None) × (g.parameters ≡ []) × (g.locals ≡ [])) ⊎ IsDefinedFunction f count g
        by_open true t o = inr (of_definition t)
        by_open false t o = inl (o.0, o.1, o.2)
