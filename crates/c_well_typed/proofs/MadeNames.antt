-- The names of the file scope have types whose functions give no arrays and whose arrays have complete elements (C99 6.2.1, 6.7.7): a typedef stands for a
-- type that is built of those of earlier items.
use Rattle.std.proofs.Common.{◌≡◌, ◌∙◌, ℕ, zero, suc, ◌≤◌, Bool, true, false, ◌||◌, refl, sym, ap, subst, List, [], ◌∷◌, ◌++◌, map, inl, inr}
use Rattle.std.proofs.lemmas.List.Elements.{recursion_from_All}
use Rattle.std.specs.Prelude.{◌⊎◌, Option, Some, None, slice_get}
use Rattle.std.specs.List.{AllByRecursion, list_any}
use Rattle.std.specs.Str.{bytes_eq}
use Rattle.c_types.specs.Types.{CType, function}
use Rattle.c_ast.specs.declared.operators.SpecifierKeyword.TheVariants as S
use Rattle.c_ast.specs.declared.words.Spelling.{Spelling}
use Rattle.c_ast.specs.Places.{first_declarator}
use Rattle.c_ast.specs.Trees
use Rattle.c_ast.specs.WellFormed as Formed
use Rattle.c_ast.specs.WellFormed.{is_typename, has_typedef, types_after}
use Rattle.c_typed.specs.declared.program.MentionKind.{MentionKind}
use Rattle.c_typed.specs.declared.program.MentionKind.TheVariants.{Object, Named}
use Rattle.c_erasure.specs.Declarators.{Shape, closed, declared_name}
use Rattle.c_erasure.specs.Erasure.{IsBound, IsBase, IsOne, Declares}
use Rattle.c_erasure.specs.Files.{bound, object_how, IsTypedef, IsObject, IsFunction, IsFileDeclarator, AreFileDeclarators, ErasesItem, AreConsistent}
use Rattle.c_erasure.specs.Files.{MayStandTogether, AreAscending, IsFileOf}
use Rattle.c_erasure.specs.Marks.{Mark, a_name, marks_of_declarator, marks_of_initial, marks_of_declarators, marks_of_item, marks_of_file, name_from}
use Rattle.c_erasure.specs.Marks.{after_declarator, scope_beginnings}
use Rattle.c_erasure.specs.Scopes.{How, declares, defines, Entity, typedef, a_function, a_library_function, Bound, AFunction, FileScope, Scope}
use Rattle.c_erasure.specs.Scopes.{at_file_scope, visible, named, ended, IsListedAt, IsMentioned}
use Rattle.c_erasure.specs.Scopes as Scopes
use Rattle.c_erasure.specs.Specifiers.{Storage, storage_of, storage_word, together, no_storage, a_typedef, is_extern, is_static, is_auto, is_register, several}
use Rattle.c_checking_laws.proofs.WholeFiles.CompleteObjects.{mapped_at}
use Rattle.c_checking_laws.proofs.WholeFiles.Names.{all_at}
use Rattle.c_checking_laws.proofs.NodesOfParts.{same_bytes}
use Rattle.c_checking_units.proofs.Lists.{ascending_apart}
use Rattle.c_checking_units.proofs.Tracing as Tracing
use Rattle.c_checking_units.proofs.Tracing.{AreAll, with_names, name_at}
use Rattle.c_checking_units.proofs.WholeFiles.{visible_is}
use Rattle.c_well_typed.proofs.Definitions.{declaring, value_of_object}
use Rattle.c_well_typed.proofs.Enumerators.{IsEnumerated, AreEnumerated, anything, base_found, lengths_found}
use Rattle.c_well_typed.proofs.NamedTypes.{IsMadeEntity, IsMadeScope, IsMadeShape, named_made, base_made, declarator_made, sized_made}
use Rattle.c_well_typed.proofs.NamesInScope.{joined, IsEntityOf, entity_again}
use Rattle.c_well_typed.proofs.WellMade.{IsWellMade}

some_is : {A : Type 0} (x y : A) → Some x ≡ Some y → x ≡ y
some_is x y h = cc

-- ---- mentions

-- the file has a mention for a type, as that of an object or as one that something else names
abbrev pub IsSpokenIn : FileScope → CType → Type 0
IsSpokenIn f t = ((at : ℕ) × IsListedAt f.mentions Object t at) ⊎ ((at : ℕ) × IsListedAt f.mentions Named t at)

listed : (f : FileScope) (kind : MentionKind) (t : CType) (at : ℕ) → IsMentioned (at_file_scope f) kind t at → IsListedAt f.mentions kind t at
listed f kind t at (inl m) = let false_is_true : false ≡ true = m in cc
listed f kind t at (inr l) = l

pub as_object : (f : FileScope) (t : CType) (at : ℕ) → IsMentioned (at_file_scope f) Object t at → IsSpokenIn f t
as_object f t at m = inl (at, listed f Object t at m)

pub as_named : (f : FileScope) (t : CType) (at : ℕ) → IsMentioned (at_file_scope f) Named t at → IsSpokenIn f t
as_named f t at m = inr (at, listed f Named t at m)

-- ---- one name stands for one thing

abbrev IsAlone : Bound → Bound → Type 0
IsAlone b c = c.name ≡ b.name → MayStandTogether b c

one_entity : (names : List Bound) → AreConsistent names → (j k : ℕ) (b c : Bound) → slice_get names j ≡ Some b → slice_get names k ≡ Some c → c.name ≡ b.name
    → b.entity ≡ c.entity
one_entity [] h j k b c e g n = cc
one_entity (x ∷ names) h zero zero b c e g n = let p : x ≡ b = cc in let q : x ≡ c = cc in ap (λ (b : Bound). b.entity) (sym p ∙ q)
one_entity (x ∷ names) h zero (suc k) b c e g n =
    let p = some_is x b e in
    let m = all_at (IsAlone x) names h.0 k c g (n ∙ ap (λ (b : Bound). b.name) (sym p)) in
    ap (λ (b : Bound). b.entity) (sym p) ∙ m.same
one_entity (x ∷ names) h (suc j) zero b c e g n =
    let p = some_is x c g in
    let m = all_at (IsAlone x) names h.0 j b e (sym n ∙ ap (λ (b : Bound). b.name) (sym p)) in
    sym m.same ∙ ap (λ (b : Bound). b.entity) p
one_entity (x ∷ names) h (suc j) (suc k) b c e g n = one_entity names h.1 j k b c e g n

-- ---- where `typedef` stands, it alone is the storage class, or there are several

abbrev IsTypedefStorage : Storage → Type 0
IsTypedefStorage s = (s ≡ a_typedef) ⊎ (s ≡ several)

kept : (s t : Storage) → IsTypedefStorage t → IsTypedefStorage (together s t)
kept no_storage t h = h
kept s a_typedef h = inr refl
kept s several h = inr refl
kept s no_storage (inl h) = cc
kept s no_storage (inr h) = cc
kept s is_extern (inl h) = cc
kept s is_extern (inr h) = cc
kept s is_static (inl h) = cc
kept s is_static (inr h) = cc
kept s is_auto (inl h) = cc
kept s is_auto (inr h) = cc
kept s is_register (inl h) = cc
kept s is_register (inr h) = cc

begun : (t : Storage) → IsTypedefStorage (together a_typedef t)
begun no_storage = inl refl
begun t = inr refl

typedef_storage : (specs : Trees.Specifiers) → has_typedef specs ≡ true → IsTypedefStorage (storage_of specs)
typedef_storage Trees.no_specifiers h = cc
typedef_storage (Trees.and_specifier (Trees.plain S.Typedef at) more) h = begun (storage_of more)
typedef_storage (Trees.and_specifier (Trees.plain word at) more) h = kept (storage_word word) (storage_of more) (typedef_storage more h)
typedef_storage (Trees.and_specifier x more) h = typedef_storage more h

name_alike : (d : Trees.Declarator) (x : Spelling) → declared_name d ≡ Some x → Formed.declared_name d ≡ x.text ∷ []
name_alike Trees.nothing x h = cc
name_alike (Trees.named y) x h = ap (λ (x : Spelling). x.text ∷ []) (some_is y x h)
name_alike (Trees.pointer at consts d) x h = name_alike d x h
name_alike (Trees.enclosed left d right) x h = name_alike d x h
name_alike (Trees.array d left length right) x h = name_alike d x h
name_alike (Trees.function d left all right) x h = name_alike d x h

more_specifiers : (types : List (List ℕ)) (specs : Trees.Specifiers) → Formed.AreSpecifiers types specs → Formed.AreMoreSpecifiers types specs
more_specifiers types Trees.no_specifiers w = absurd w
more_specifiers types (Trees.and_specifier s more) w = w

module _ (f : FileScope) (count : ℕ) (less : (at : ℕ) → ended f.ends at ≤ count) (consistent : AreConsistent f.names) where
  abbrev u : ℕ → List ℕ
  u = f.untagged

  abbrev W : CType → Type 0
  W = IsWellMade count

  abbrev F : Scope
  F = at_file_scope f

  in_file : IsMadeScope f count less F
  in_file = (refl, tt)

  -- ---- the typedefs of earlier items

  abbrev IsKnownName : List ℕ → Type 0
  IsKnownName x = (b : Bound) × (t : CType) × IsBound F b × (b.name ≡ x) × (b.entity ≡ typedef t) × W t

  abbrev AreKnown : List (List ℕ) → Type 0
  AreKnown types = AllByRecursion IsKnownName types

  among : (types : List (List ℕ)) (x : List ℕ) → AreKnown types → is_typename types x ≡ true → IsKnownName x
  among [] x h e = let false_is_true : false ≡ true = e in cc
  among (y ∷ types) x h e = by_test (bytes_eq x y) refl e (among types x h.1)
    where
      by_test : (b : Bool) → bytes_eq x y ≡ b → (b || list_any (bytes_eq x) types) ≡ true → (is_typename types x ≡ true → IsKnownName x) → IsKnownName x
      by_test true t e again = subst IsKnownName (sym (same_bytes x y t)) h.0
      by_test false t e again = again e

  module _ (types : List (List ℕ)) (known : AreKnown types) where
    typedef_made : (s : Scope) (x : Spelling) (t : CType) → IsMadeScope f count less s → is_typename types x.text ≡ true
        → named s x.text x.from ≡ Some (typedef t) → W t
    typedef_made s x t i w = named_made f count less s x.text x.from (typedef t) i of_file
      where
        of_file : visible f.names x.text x.from ≡ Some (typedef t) → W t
        of_file v =
            let z = visible_is f.names x.text x.from (typedef t) v in
            let k = among types x.text known w in
            let same = one_entity f.names consistent k.2.0 z.0 k.0 z.1 k.2.1 z.2 (z.4 ∙ sym k.3) in
            subst (IsMadeEntity f count less) (sym k.4 ∙ same ∙ z.5) k.5

    abbrev Listed : Trees.Parameters → Type 0
    Listed all = (first : Bool) × Formed.AreParameters types first all

    parameters : (comma : Option ℕ) (specs : Trees.Specifiers) (d : Trees.Declarator) (more : Trees.Parameters)
        → Listed (Trees.and_parameter comma specs d more) → Formed.AreMoreSpecifiers types specs × Formed.IsDeclarator types d × Listed more
    parameters comma specs d more w = by_parts w.0 w.1
      where
        by_parts : (first : Bool) → Formed.AreParameters types first (Trees.and_parameter comma specs d more)
            → Formed.AreMoreSpecifiers types specs × Formed.IsDeclarator types d × Listed more
        by_parts first p = (more_specifiers types specs p.1, p.2, (false, p.3))

    base_typed : (specs : Trees.Specifiers) (t : CType) → Formed.AreSpecifiers types specs → IsBase (IsOne F specs) specs t → W t
    base_typed specs t w h =
        base_made f count less (Formed.AreMoreSpecifiers types) (Formed.IsSpecifier types) (Formed.IsDeclarator types) Listed (λ x more w. w)
        (λ at consts d w. w) (λ left d right w. w.1) (λ d left bound right w. w.1) (λ d left all right w. w.1) (λ d left all right w. (true, w.2.1)) parameters
        typedef_made specs F t in_file (more_specifiers types specs w) h

    declarator_typed : (d : Trees.Declarator) (t : CType) (shape : Shape) → Formed.IsDeclarator types d → W t → Declares F d t shape
        → IsMadeShape f count less shape
    declarator_typed d t shape w m h =
        declarator_made f count less (Formed.AreMoreSpecifiers types) (Formed.IsSpecifier types) (Formed.IsDeclarator types) Listed (λ x more w. w)
        (λ at consts d w. w) (λ left d right w. w.1) (λ d left bound right w. w.1) (λ d left all right w. w.1) (λ d left all right w. (true, w.2.1)) parameters
        typedef_made d F t shape in_file w m h

  -- ---- names of the file scope, for whose types the file has mentions

  abbrev Of : Entity → Type 0
  Of e = IsEntityOf (λ t. W t × IsSpokenIn f t) e

  abbrev IsMadeName : ℕ → Type 0
  IsMadeName from = (b : Bound) × IsBound F b × (b.from ≡ from) × Of b.entity

  record AreNames (u : List Mark) : Type 0 where
    pub all : AreAll IsMadeName anything u

  name_none : AreNames []
  name_none = record { all = tt }

  name_both : {a b : List Mark} → AreNames a → AreNames b → AreNames (a ++ b)
  name_both {a} {b} x y = record { all = Tracing.both IsMadeName anything a b x.all y.all }

  enumerators_name : {a : List Mark} → AreEnumerated f a → AreNames a
  enumerators_name {a} x = record {
    all = with_names (IsEnumerated f) IsMadeName anything a (λ from h. (h.0, h.2, h.3, subst Of (sym h.4) tt)) x.all;
  }

  one_name : (x : Spelling) (from : ℕ) (how : How) (e : Entity) → IsBound F (bound x from how e) → Of e → AreNames (a_name from ∷ [])
  one_name x from how e h m = record { all = ((bound x from how e, h, refl, m), tt) }

  abbrev IsDeclarator : Trees.InitDeclarator → ℕ → Type 0
  IsDeclarator d from = AreNames (marks_of_declarator u d.declarator ++ a_name from ∷ marks_of_initial u d.value)

  with_name : (d : Trees.InitDeclarator) (from : ℕ) → AreEnumerated f (marks_of_declarator u d.declarator) → AreNames (a_name from ∷ [])
      → AreEnumerated f (marks_of_initial u d.value) → IsDeclarator d from
  with_name d from a b c = name_both (enumerators_name a) (name_both b (enumerators_name c))

  no_value : (v : Option (ℕ × Trees.Expression)) → v ≡ None → AreEnumerated f (marks_of_initial u v)
  no_value v h = subst (λ v. AreEnumerated f (marks_of_initial u v)) (sym h) (record { all = tt })

  module _ (types : List (List ℕ)) (known : AreKnown types) (base : CType) (m : W base) where
    typedef_found : (d : Trees.InitDeclarator) (x : Spelling) (place from : ℕ) → Formed.IsDeclarator types d.declarator → IsTypedef f base d x place from
        → IsDeclarator d from
    typedef_found d x place from w h =
        with_name d from (lengths_found f d.declarator F base (closed h.0) refl h.3)
        (one_name x from defines (typedef h.0) h.5 (declarator_typed types known d.declarator base (closed h.0) w m h.3, as_named f h.0 place h.2)) (no_value d.value h.1)

    object_found : (words : Storage) (d : Trees.InitDeclarator) (x : Spelling) (place from : ℕ) → Formed.IsDeclarator types d.declarator
        → IsObject f words base d x place from → IsDeclarator d from
    object_found words d x place from w h =
        let t = sized_made f count less h.0 d.value F h.1 (declarator_typed types known d.declarator base h.0 w m h.4) h.5 in
        with_name d from (lengths_found f d.declarator F base h.0 refl h.4)
        (one_name x from (object_how words d.value) (Scopes.an_object h.2 h.1) h.15 (t, as_object f h.1 place h.8)) (value_of_object f count less d.value place h.1 h.3 h.16)

    function_named : (words : Storage) (d : Trees.InitDeclarator) (x : Spelling) (place from : ℕ) → Formed.IsDeclarator types d.declarator
        → IsFunction f words base d x place from → AreNames (a_name from ∷ [])
    function_named words d x place from w (t, v, de, fn, me, inl k) = one_name x from declares (a_library_function k.0) k.4 tt
    function_named words d x place from w (t, v, de, fn, me, inr k) =
        one_name x from declares (a_function k.0 t) k.8 (declarator_typed types known d.declarator base (closed t) w m de, as_named f t place me)

    function_found : (words : Storage) (d : Trees.InitDeclarator) (x : Spelling) (place from : ℕ) → Formed.IsDeclarator types d.declarator
        → IsFunction f words base d x place from → IsDeclarator d from
    function_found words d x place from w h =
        with_name d from (lengths_found f d.declarator F base (closed h.0) refl h.2) (function_named words d x place from w h) (no_value d.value h.1)

    declarator_found : (words : Storage) (d : Trees.InitDeclarator) (x : Spelling) (place from : ℕ) → Formed.IsDeclarator types d.declarator
        → IsFileDeclarator f words base d x place from → IsDeclarator d from
    declarator_found a_typedef d x place from w h = typedef_found d x place from w h
    declarator_found no_storage d x place from w (inl h) = function_found no_storage d x place from w h
    declarator_found no_storage d x place from w (inr h) = object_found no_storage d x place from w h
    declarator_found is_extern d x place from w (inl h) = function_found is_extern d x place from w h
    declarator_found is_extern d x place from w (inr h) = object_found is_extern d x place from w h
    declarator_found is_static d x place from w (inl h) = function_found is_static d x place from w h
    declarator_found is_static d x place from w (inr h) = object_found is_static d x place from w h
    declarator_found is_auto d x place from w h = absurd h
    declarator_found is_register d x place from w h = absurd h
    declarator_found several d x place from w h = absurd h

    declarators_found : (first : Bool) (ds : List Trees.InitDeclarator) (words : Storage) (semicolon : ℕ) → Formed.AreInitDeclarators types first ds
        → AreFileDeclarators f words base ds semicolon → AreNames (marks_of_declarators u ds semicolon)
    declarators_found first [] words semicolon w h = name_none
    declarators_found first (d ∷ more) words semicolon w h =
        name_both (declarator_found words d h.0 (first_declarator d.declarator h.0.from) (name_from d.value (after_declarator more semicolon)) w.1 h.2)
        (declarators_found false more words semicolon w.4 h.3)

    -- the typedefs of a declaration are known after it
    declared_known : (first : Bool) (ds : List Trees.InitDeclarator) (semicolon : ℕ) → Formed.AreInitDeclarators types first ds
        → AreFileDeclarators f a_typedef base ds semicolon → AreKnown (Formed.declared_names ds)
    declared_known first [] semicolon w h = tt
    declared_known first (d ∷ more) semicolon w h =
        let t = h.2 in
        let own : IsKnownName h.0.text = (_, t.0, t.5, refl, refl, declarator_typed types known d.declarator base (closed t.0) w.1 m t.3) in
        joined IsKnownName (Formed.declared_name d.declarator) (Formed.declared_names more)
        (subst AreKnown (sym (name_alike d.declarator h.0 h.1)) (own, tt)) (declared_known false more semicolon w.4 h.3)

    none_several : (ds : List Trees.InitDeclarator) (semicolon : ℕ) → AreFileDeclarators f several base ds semicolon → AreKnown (Formed.declared_names ds)
    none_several [] semicolon h = tt
    none_several (d ∷ more) semicolon h = absurd h.2

    names_known : (d : Trees.Declaration) → Formed.IsDeclaration types d → AreFileDeclarators f (storage_of d.specs) base d.all d.semicolon
        → IsTypedefStorage (storage_of d.specs) → AreKnown (Formed.declared_names d.all)
    names_known d w h (inl e) = declared_known true d.all d.semicolon w.1 (subst (λ s. AreFileDeclarators f s base d.all d.semicolon) e h)
    names_known d w h (inr e) = none_several d.all d.semicolon (subst (λ s. AreFileDeclarators f s base d.all d.semicolon) e h)

  -- ---- items

  known_after : (types : List (List ℕ)) → AreKnown types → (item : Trees.Item) → Formed.IsItem types item → ErasesItem f item
      → AreKnown (types_after types item)
  known_after types known (Trees.defines specs d left items right) w h = known
  known_after types known (Trees.declaration d) w h = by_typedef (has_typedef d.specs) refl
    where
      by_typedef : (b : Bool) → has_typedef d.specs ≡ b → AreKnown (types_after types (Trees.declaration d))
      by_typedef true e =
          rw e (joined IsKnownName types (Formed.declared_names d.all) known
          (names_known types known h.0 (base_typed types known d.specs h.0 w.0 h.2) d w h.4 (typedef_storage d.specs e)))
      by_typedef false e = rw e known

  item_found : (types : List (List ℕ)) → AreKnown types → (item : Trees.Item) → Formed.IsItem types item → ErasesItem f item → AreNames (marks_of_item u item)
  item_found types known (Trees.declaration d) w h =
      name_both (enumerators_name (base_found f d.specs F h.0 refl h.2))
      (declarators_found types known h.0 (base_typed types known d.specs h.0 w.0 h.2) true d.all (storage_of d.specs) d.semicolon w.1 h.4)
  item_found types known (Trees.defines specs d left items right) w h =
      let m = declarator_typed types known d h.0 (closed (function h.1 h.2)) w.1 (base_typed types known specs h.0 w.0 h.7) h.10 in
      name_both
      (name_both (enumerators_name (base_found f specs F h.0 refl h.7)) (enumerators_name (lengths_found f d F h.0 (closed (function h.1 h.2)) refl h.10)))
      (one_name h.3 left defines (a_function h.4 h.5.ty) h.20 (subst (λ t. W t × IsSpokenIn f t) (sym h.15) (m, as_named f (function h.1 h.2) (first_declarator d h.3.from) h.12)))

  items_found : (types : List (List ℕ)) → AreKnown types → (items : List Trees.Item) → Formed.AreItems types items → AllByRecursion (ErasesItem f) items
      → AreNames (marks_of_file u items)
  items_found types known [] w h = name_none
  items_found types known (item ∷ items) w h =
      name_both (item_found types known item w.0 h.0) (items_found (types_after types item) (known_after types known item w.0 h.0) items w.1 h.1)

  -- ---- each name, and each function

  module _ (items : List Trees.Item) (well : Formed.AreItems [] items) (h : IsFileOf items f)
      (beginnings : AreAscending (scope_beginnings (marks_of_file f.untagged items))) where
    name_made : (k : ℕ) (b : Bound) → slice_get f.names k ≡ Some b → Of b.entity
    name_made k b e =
        let names = subst AreAscending (sym h.names) beginnings in
        let from : slice_get (map (λ (b : Bound). b.from) f.names) k ≡ Some b.from = mapped_at (λ (b : Bound). b.from) f.names k b e in
        let all = (items_found [] tt items well (recursion_from_All (ErasesItem f) items h.each_item)).all in
        let z = name_at IsMadeName anything (marks_of_file f.untagged items) k b.from all (subst (λ all. slice_get all k ≡ Some b.from) h.names from) in
        let other = mapped_at (λ (b : Bound). b.from) f.names z.1.0 z.0 z.1.1 ∙ ap Some z.2 in
        let number : z.1.0 ≡ k = ascending_apart (map (λ b. b.from) f.names) names z.1.0 k b.from other from in
        let there : slice_get f.names k ≡ Some z.0 = subst (λ k. slice_get f.names k ≡ Some z.0) number z.1.1 in
        subst (λ (b : Bound). Of b.entity) (some_is z.0 b (sym there ∙ e)) z.3

    -- what is visible has such a type, for which the file has a mention
    pub visible_spoken : (x : List ℕ) (at : ℕ) (e : Entity) → visible f.names x at ≡ Some e → IsEntityOf (λ t. W t × IsSpokenIn f t) e
    visible_spoken x at e v = let z = visible_is f.names x at e v in subst Of z.5 (name_made z.0 z.1 z.2)

    pub visible_made : (x : List ℕ) (at : ℕ) (e : Entity) → visible f.names x at ≡ Some e → IsMadeEntity f count less e
    visible_made x at e v = entity_again (λ t. W t × IsSpokenIn f t) W (λ t m. m.0) e (visible_spoken x at e v)

    pub function_spoken : (n : ℕ) (g : AFunction) → slice_get f.functions n ≡ Some g → W g.ty × IsSpokenIn f g.ty
    function_spoken n g e =
        let d = h.functions n g e in
        let b = declaring f count less f.names (a_function n g.ty) d.0 d.2 d.1 in
        subst Of b.3 (name_made b.0 b.1 b.2)

    pub function_made : (n : ℕ) (g : AFunction) → slice_get f.functions n ≡ Some g → W g.ty
    function_made n g e = (function_spoken n g e).0
