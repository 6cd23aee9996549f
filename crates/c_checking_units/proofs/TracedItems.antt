-- What the items of a file declare is of the file (C99 6.7, 6.9).
use Rattle.std.proofs.Common.{◌≡◌, ◌≢◌, ℕ, zero, suc, ◌+◌, ◌≤◌, ◌<◌, Bool, true, false, List, [], ◌∷◌, ◌++◌, length, refl, sym, ap, ◌∙◌, subst, arith, inl, inr}
use Rattle.std.proofs.lemmas.List.Elements.{All-head, All-tail}
use Rattle.std.specs.Prelude.{◌⊎◌, All, map, Option, Some, None, slice_get}
use Rattle.c_tokens.specs.declared.punctuator.Punctuator.TheVariants as M
use Rattle.c_types.specs.Types.{CType, function}
use Rattle.c_typed.specs.Fits.{library_type}
use Rattle.c_typed.specs.Trees as Typed
use Rattle.c_typed.specs.declared.operators.LibraryFunction.{LibraryFunction}
use Rattle.c_ast.specs.Laws.{TreesBeginFirst}
use Rattle.c_ast.specs.Places.{first_declarator}
use Rattle.c_ast.specs.Spelling.{Lexeme, punctuator, spelled_declarator, spelled_value, spelled_init_declarators}
use Rattle.c_ast.specs.Spelling.{spelled_block_items, spelled_item, spelled_items, spell}
use Rattle.c_ast.specs.Trees
use Rattle.c_ast.specs.WellFormed.{IsValue, AreInitDeclarators, AreBlockItems, IsItem, AreItems, types_after, has_name}
use Rattle.c_ast.specs.declared.words.Spelling.{Spelling}
use Rattle.c_erasure.specs.Declarators.{Shape, closed, declared_name}
use Rattle.c_erasure.specs.Erasure.{IsBound, Declares}
use Rattle.c_erasure.specs.Files.{AreAscending, bound, object_how, IsDefinition, IsTypedef, IsObject, IsFunction, IsFileDeclarator, AreFileDeclarators}
use Rattle.c_erasure.specs.Files.{ErasesItem, library_name, IsOwnName, IsLinkage, function_storage, IsFirst, is_first, IsMade}
use Rattle.c_erasure.specs.Initializers.{IsInitializer, part_at}
use Rattle.c_erasure.specs.Marks.{Mark, a_name, marks, marks_of_specifiers, marks_of_declarator, marks_of_initial, marks_of_declarators, marks_of_item}
use Rattle.c_erasure.specs.Marks.{marks_of_file, name_from, after_declarator, scope_beginnings, ends_in}
use Rattle.c_erasure.specs.Scopes.{Bound, FileScope, enumerator, AnObject, AFunction, at_file_scope, ended, defines, declares, typedef, an_object, a_function}
use Rattle.c_erasure.specs.Scopes.{a_library_function}
use Rattle.c_erasure.specs.Specifiers.{Storage, no_storage, a_typedef, is_extern, is_static, is_auto, is_register, several, storage_of}
use Rattle.c_erasure.specs.MarkPlaces.Places.{AreOrdered, Along}
use Rattle.c_erasure.proofs.MarkPlaces.Walks.{none, skip, after, comma_along}
use Rattle.c_erasure.proofs.MarkPlaces.MarksOfParts.{declarator_along, specifiers_along}
use Rattle.c_erasure.proofs.MarkPlaces.MarksOfFiles.{initializer_along, declarators_along, block_items_along, item_along, items_along}
use Rattle.c_checking_laws.proofs.Agreement as Agreement
use Rattle.c_checking_laws.proofs.Agreement.{added, beginnings_append}
use Rattle.c_checking_laws.proofs.CompletePart.{IsFitFor, complete_stays}
use Rattle.c_checking_laws.proofs.Extends.{behind}
use Rattle.c_checking_laws.proofs.WholeFiles.CompleteObjects.{mapped_at}
use Rattle.c_checking_laws.proofs.Ahead.{Ahead, Standing, standing_left, standing_right, back, earlier, ahead_same, added_both, none_left}
use Rattle.c_checking_laws.proofs.Timely.{timely_specifiers, timely_declarator}
use Rattle.c_checking_laws.proofs.WholeFiles.InTextTime.{behind_part}
use Rattle.c_checking_laws.proofs.WholeFiles.Known.{made_left, made_right}
use Rattle.c_checking_laws.proofs.WholeFiles.Rises.{passed, rising_front}
use Rattle.c_checking_laws.specs.TextOrder.TextOrder.{Rising, place_of_name, names_of_declarators, names_of_item, names_of_file}
use Rattle.c_checking_units.proofs.Ended.{ended_grows}
use Rattle.c_checking_units.proofs.Tracing.{IsTracedEnumerator, IsTracedRecord, AreTraced, AreAll, both, with_names}
use Rattle.c_checking_units.proofs.TracedParts.{one_traced, base_traced, declarator_traced}
use Rattle.c_checking_units.proofs.TracedInitials.{IsInitialTimely, initial_timely, initial_traced}

-- ---- where the declarators of the file scope stand that define no function

abbrev pub declared_by : List Trees.InitDeclarator → (semicolon : ℕ) → List ℕ
declared_by [] semicolon = []
declared_by (d ∷ more) semicolon = first_declarator d.declarator semicolon ∷ declared_by more semicolon

abbrev pub declared_by_item : Trees.Item → List ℕ
declared_by_item (Trees.defines specs d left items right) = []
declared_by_item (Trees.declaration d) = declared_by d.all d.semicolon

abbrev pub declared_by_file : List Trees.Item → List ℕ
declared_by_file [] = []
declared_by_file (item ∷ more) = declared_by_item item ++ declared_by_file more

-- ---- one declarator of the file scope

-- the declarator that gives an object its name; its place is that of the object where it is the first
pub record IsObjectName (g : FileScope) (IsPlace : ℕ → Type 0) (b : Bound) (n : ℕ) : Type 0 where
  pub spelling : Spelling
  pub place : ℕ
  pub object : AnObject
  pub name_is : b.name ≡ spelling.text
  pub before : spelling.from < b.from
  pub stands : slice_get g.objects n ≡ Some object
  pub first : IsFirst (is_first g spelling) object.first place
  pub is_place : IsPlace place

-- the name that is in scope from there on, and what it stands for, which is there
pub record IsTracedName (g : FileScope) (IsPlace : ℕ → Type 0) (from : ℕ) : Type 0 where
  pub binding : Bound
  pub stands : IsBound (at_file_scope g) binding
  pub begins : binding.from ≡ from
  pub fit : Agreement.IsFit g [] binding.entity
  pub complete : IsFitFor g (ended g.ends from) binding.entity
  pub object : (n : ℕ) (t : CType) → binding.entity ≡ an_object n t → IsObjectName g IsPlace binding n

module _ (g : FileScope) (IsPlace : ℕ → Type 0) where
  abbrev pub AreFiled : List Mark → Type 0
  AreFiled u = AreAll (IsTracedName g IsPlace) (IsTracedRecord g) u

  -- an enumerator
  of_enumerator : (from : ℕ) → IsTracedEnumerator g from → IsTracedName g IsPlace from
  of_enumerator from h = record {
    binding = h.binding;
    stands = h.stands;
    begins = h.begins;
    fit = subst (Agreement.IsFit g []) (sym h.is) h.fit;
    complete = subst (IsFitFor g (ended g.ends from)) (sym h.is) tt;
    object = λ n t e. let other : enumerator h.value ≡ an_object n t = sym h.is ∙ e in cc;
  }

  parts_filed : (u : List Mark) → AreTraced g u → AreFiled u
  parts_filed u h = with_names (IsTracedEnumerator g) (IsTracedName g IsPlace) (IsTracedRecord g) u of_enumerator h

  -- what is known of the expressions of an initializer, where so many records are complete before it
  abbrev IsValueTimely : ℕ → Option (ℕ × Trees.Expression) → Type 0
  IsValueTimely n None = Unit {0}
  IsValueTimely n (Some value) = IsInitialTimely g.untagged g.ends n value.1

  -- what a declarator makes of its type, its name, and its initializer
  record IsTracedDeclarator (base : CType) (d : Trees.InitDeclarator) (n from : ℕ) : Type 0 where
    pub shape : Shape
    pub declares_so : Declares (at_file_scope g) d.declarator base shape
    pub name : IsTracedName g IsPlace from
    pub initial : AreAscending g.ends → IsValueTimely n d.value → Standing g.ends false n (marks_of_initial g.untagged d.value)
        → AreTraced g (marks_of_initial g.untagged d.value)

  no_value : (value : Option (ℕ × Trees.Expression)) → value ≡ None → AreTraced g (marks_of_initial g.untagged value)
  no_value value e = subst (λ value. AreTraced g (marks_of_initial g.untagged value)) (sym e) tt

  value_traced : (place : ℕ) (t : CType) (value : Option (ℕ × Trees.Expression)) (o : AnObject) (n : ℕ) → IsDefinition (at_file_scope g) place t value o
      → AreAscending g.ends → IsValueTimely n value → Standing g.ends false n (marks_of_initial g.untagged value)
      → AreTraced g (marks_of_initial g.untagged value)
  value_traced place t None o n h c time st = tt
  value_traced place t (Some value) o n h c time st = by_form h.1.0
    where
      by_form : IsInitializer value.1 (at_file_scope g) t h.0 → AreTraced g (marks g.untagged value.1)
      by_form (inl k) = initial_traced value.1 (at_file_scope g) t 0 (part_at 0 (Typed.value k.0)) n c time st k.3
      by_form (inr (inl k)) = initial_traced value.1 (at_file_scope g) t 0 (part_at 0 (Typed.record_of k.0)) n c time st k.4
      by_form (inr (inr k)) = initial_traced value.1 (at_file_scope g) t 0 k.0 n c time st k.3

  of_typedef : (base : CType) (d : Trees.InitDeclarator) (x : Spelling) (place n from : ℕ) → IsTypedef g base d x place from
      → IsTracedDeclarator base d n from
  of_typedef base d x place n from h = record {
    shape = closed h.0;
    declares_so = h.3;
    name = record { binding = bound x from defines (typedef h.0); stands = h.5; begins = refl; fit = tt; complete = tt; object = λ n t e. cc };
    initial = λ c time st. no_value d.value h.1;
  }

  -- an object is complete where its name stands, before it is in scope
  of_object : (words : Storage) (base : CType) (d : Trees.InitDeclarator) (x : Spelling) (place n from : ℕ) → x.from < from → IsPlace place
      → IsObject g words base d x place from → IsTracedDeclarator base d n from
  of_object words base d x place n from l i h = record {
    shape = h.0;
    declares_so = h.4;
    name = record {
      binding = bound x from (object_how words d.value) (an_object h.2 h.1);
      stands = h.15;
      begins = refl;
      fit = mapped_at (λ (o : AnObject). o.ty) g.objects h.2 h.3 h.9 ∙ ap Some h.11;
      complete = complete_stays (ended g.ends x.from) (ended g.ends from) h.1 (ended_grows g.ends x.from from (omega (arith, l))) h.6;
      object = λ m t e.
          let same : h.2 ≡ m = cc in
          record {
            spelling = x;
            place = place;
            object = h.3;
            name_is = refl;
            before = l;
            stands = subst (λ m. slice_get g.objects m ≡ Some h.3) same h.9;
            first = h.14;
            is_place = i;
          };
    };
    initial = value_traced place h.1 d.value h.3 n h.16;
  }

  of_function : (words : Storage) (base : CType) (d : Trees.InitDeclarator) (x : Spelling) (place n from : ℕ) → IsFunction g words base d x place from
      → IsTracedDeclarator base d n from
  of_function words base d x place n from h = record {
    shape = closed h.0;
    declares_so = h.2;
    name = by_sort h.5;
    initial = λ c time st. no_value d.value h.1;
  }
    where
      by_sort : ((which : LibraryFunction) × (x.text ≡ library_name which) × (h.0 ≡ library_type which) × (words ≢ is_static)
          × IsBound (at_file_scope g) (bound x from declares (a_library_function which)))
          ⊎ ((m : ℕ) × (f : AFunction) × IsOwnName x.text × (slice_get g.functions m ≡ Some f) × (f.name ≡ x.text) × (f.ty ≡ h.0)
          × IsLinkage (function_storage words) (is_first g x) f.is_linked × IsFirst (is_first g x) f.first place
          × IsBound (at_file_scope g) (bound x from declares (a_function m h.0))) → IsTracedName g IsPlace from
      by_sort (inl k) = record { binding = bound x from declares (a_library_function k.0); stands = k.4; begins = refl; fit = tt; complete = tt; object = λ n t e. cc }
      by_sort (inr k) =
          let there : slice_get (map (λ (f : AFunction). f.ty) g.functions) k.0 ≡ Some h.0 =
          mapped_at (λ (f : AFunction). f.ty) g.functions k.0 k.1 k.3 ∙ ap Some k.5 in
          record { binding = bound x from declares (a_function k.0 h.0); stands = k.8; begins = refl; fit = there; complete = there; object = λ n t e. cc }

  declarator_is : (words : Storage) (base : CType) (d : Trees.InitDeclarator) (x : Spelling) (place n from : ℕ) → x.from < from → IsPlace place
      → IsFileDeclarator g words base d x place from → IsTracedDeclarator base d n from
  declarator_is a_typedef base d x place n from l i h = of_typedef base d x place n from h
  declarator_is no_storage base d x place n from l i (inl h) = of_function no_storage base d x place n from h
  declarator_is no_storage base d x place n from l i (inr h) = of_object no_storage base d x place n from l i h
  declarator_is is_extern base d x place n from l i (inl h) = of_function is_extern base d x place n from h
  declarator_is is_extern base d x place n from l i (inr h) = of_object is_extern base d x place n from l i h
  declarator_is is_static base d x place n from l i (inl h) = of_function is_static base d x place n from h
  declarator_is is_static base d x place n from l i (inr h) = of_object is_static base d x place n from l i h
  declarator_is is_auto base d x place n from l i h = absurd h
  declarator_is is_register base d x place n from l i h = absurd h
  declarator_is several base d x place n from l i h = absurd h

-- a declarator with a name begins at a token of its own
begins_alike : (d : Trees.Declarator) → has_name d ≡ true → (p q : ℕ) → first_declarator d p ≡ first_declarator d q
begins_alike Trees.nothing h p q = cc
begins_alike (Trees.named x) h p q = refl
begins_alike (Trees.pointer at consts d) h p q = refl
begins_alike (Trees.enclosed left d right) h p q = refl
begins_alike (Trees.array d left length right) h p q = refl
begins_alike (Trees.function d left all right) h p q = refl

-- ---- a name stands before the byte from which it is in scope

no_sooner : (at : ℕ) (all : List ℕ) (k p : ℕ) → Rising at all → slice_get all k ≡ Some p → at ≤ p
no_sooner at [] k p r e = cc
no_sooner at (q ∷ all) zero p r e = let same : q ≡ p = cc in let l = r.0 in omega (arith, l, same)
no_sooner at (q ∷ all) (suc k) p r e = let l = r.0 in let m = no_sooner (q + 1) all k p r.1 e in omega (arith, l, m)

name_before : (name : Option Spelling) (x : Spelling) (u v : List Mark) (from at : ℕ) (rest : List ℕ) → name ≡ Some x
    → Rising at (place_of_name name ++ scope_beginnings (u ++ a_name from ∷ v) ++ rest) → x.from < from
name_before name x u v from at rest e r =
    let own = scope_beginnings (u ++ a_name from ∷ v) in
    let front = rising_front at (place_of_name name ++ own) rest r in
    let there : Rising at (x.from ∷ own) = subst (λ name. Rising at (place_of_name name ++ own)) e front in
    let stands : slice_get own (length (scope_beginnings u)) ≡ Some from =
    subst (λ all. slice_get all (length (scope_beginnings u)) ≡ Some from) (sym (beginnings_append u (a_name from ∷ v)))
    (behind (scope_beginnings u) (from ∷ scope_beginnings v) 0 (length (scope_beginnings u)) from (omega arith) refl) in
    let m = no_sooner (x.from + 1) own (length (scope_beginnings u)) from there.1 stands in
    omega (arith, m)

-- ---- declarators and items, with their tokens

module _ (g : FileScope) (IsPlace : ℕ → Type 0) (ascending : AreAscending g.ends) (law : TreesBeginFirst) where
  filed_both : (u v : List Mark) → AreFiled g IsPlace u → AreFiled g IsPlace v → AreFiled g IsPlace (u ++ v)
  filed_both u v h k = both (IsTracedName g IsPlace) (IsTracedRecord g) u v h k

  abbrev Stands : ℕ → List Mark → Type 0
  Stands n u = Standing g.ends false n u

  abbrev Before : ℕ → List Lexeme → Type 0
  Before n tokens = Ahead g.ends n tokens

  module _ (types : List (List ℕ)) where
    value_along : (value : Option (ℕ × Trees.Expression)) → IsValue types value → {rest : List Lexeme}
        → Along (marks_of_initial g.untagged value) (spelled_value value rest) rest
    value_along None w = none
    value_along (Some value) w = skip (initializer_along g.untagged types value.1 w)

    value_timely : (n : ℕ) (value : Option (ℕ × Trees.Expression)) → IsValue types value → (from : ℕ) (rest : List Lexeme)
        → AreOrdered from (spelled_value value rest) → Stands n (marks_of_initial g.untagged value)
        → Before (n + added false (marks_of_initial g.untagged value)) rest → IsValueTimely g IsPlace n value
    value_timely n None w f rest o st h = tt
    value_timely n (Some value) w f rest o st h = initial_timely g.untagged types g.ends law n value.1 w _ rest o.2 st h

    declarators_traced : (lead : Bool) (all : List Trees.InitDeclarator) → AreInitDeclarators types lead all → (words : Storage) (base : CType)
        → (semicolon n from at : ℕ) (rest : List Lexeme)
        → AreOrdered from (spelled_init_declarators all (punctuator M.Semicolon semicolon ∷ rest))
        → Stands n (marks_of_declarators g.untagged all semicolon) → Before (n + added false (marks_of_declarators g.untagged all semicolon)) rest
        → Rising at (names_of_declarators g.untagged all semicolon) → ((p : ℕ) → IsMade (declared_by all semicolon) p → IsPlace p)
        → AreFileDeclarators g words base all semicolon → AreFiled g IsPlace (marks_of_declarators g.untagged all semicolon)
    declarators_traced lead [] w words base semicolon n f at rest o st h r i k = tt
    declarators_traced lead (d ∷ more) w words base semicolon n f at rest o st h r into k =
        let from = name_from d.value (after_declarator more semicolon) in
        let u : List Mark = marks_of_declarator g.untagged d.declarator in
        let i : List Mark = marks_of_initial g.untagged d.value in
        let v : List Mark = a_name from ∷ i in
        let m : List Mark = marks_of_declarators g.untagged more semicolon in
        let N : ℕ = n + added false u + added false i in
        let tokens : List Lexeme = spelled_init_declarators more (punctuator M.Semicolon semicolon ∷ rest) in
        let own = added_both false u v in
        let all = added_both false (u ++ v) m in
        let number : n + added false (u ++ v) ≡ N = omega (arith, own) in
        let first = standing_left g.ends false n (u ++ v) m st in
        let sm = subst (λ n. Stands n m) number (standing_right g.ends false n (u ++ v) m st) in
        let whole : n + added false ((u ++ v) ++ m) ≡ N + added false m = omega (arith, all, own) in
        let hr = ahead_same g.ends (n + added false ((u ++ v) ++ m)) (N + added false m) rest whole h in
        let hm : Before N tokens = back g.ends false N (declarators_along g.untagged types false more w.4 semicolon {rest = rest}) sm hr in
        let si : Stands (n + added false u) i = standing_right g.ends false n u v first in
        let hv : Before (n + added false u) (spelled_value d.value tokens) = back g.ends false (n + added false u) (value_along d.value w.3) si hm in
        let c = behind_part g.untagged types g.ends N law f (comma_along d.comma {rest = spelled_declarator d.declarator (spelled_value d.value tokens)}) o in
        let e = behind_part g.untagged types g.ends N law c.0 (declarator_along g.untagged types d.declarator w.1 {rest = spelled_value d.value tokens}) c.1 in
        let b = behind_part g.untagged types g.ends N law e.0 (value_along d.value w.3 {rest = tokens}) e.1 in
        let names = names_of_declarators g.untagged more semicolon in
        let less = name_before (declared_name d.declarator) k.0 u i from at names k.1 r in
        let place = into (first_declarator d.declarator k.0.from) (inl (begins_alike d.declarator w.2 k.0.from semicolon)) in
        let p = declarator_is g IsPlace words base d k.0 (first_declarator d.declarator k.0.from) (n + added false u) from less place k.2 in
        let time = timely_declarator g.untagged types g.ends law false n d.declarator w.1 c.0 (spelled_value d.value tokens) c.1
        (standing_left g.ends false n u v first) hv in
        let behind_names = passed at (place_of_name (declared_name d.declarator) ++ scope_beginnings (u ++ v)) names r in
        let own = declarator_traced d.declarator (at_file_scope g) base p.shape n ascending time (standing_left g.ends false n u v first) p.declares_so in
        let initial = p.initial ascending (value_timely (n + added false u) d.value w.3 e.0 tokens e.1 si hm) si in
        filed_both (u ++ v) m (filed_both u v (parts_filed g IsPlace u own) (p.name, parts_filed g IsPlace i initial))
        (declarators_traced false more w.4 words base semicolon N b.0 behind_names.to rest b.1 sm hr behind_names.rest (λ p j. into p (inr j)) k.3)

    body_along : (left : ℕ) (items : Trees.BlockItems) (right : ℕ) → AreBlockItems types items → {rest : List Lexeme}
        → Along [] (punctuator M.OpenBrace left ∷ spelled_block_items items (punctuator M.CloseBrace right ∷ rest)) rest
    body_along left items right w = skip (after (block_items_along g.untagged types items w) (skip none))

    item_traced : (item : Trees.Item) → IsItem types item → (n from at : ℕ) (rest : List Lexeme) → AreOrdered from (spelled_item item rest)
        → Stands n (marks_of_item g.untagged item) → Before (n + added false (marks_of_item g.untagged item)) rest
        → Rising at (names_of_item g.untagged item) → ((p : ℕ) → IsMade (declared_by_item item) p → IsPlace p) → ErasesItem g item
        → AreFiled g IsPlace (marks_of_item g.untagged item)
    item_traced (Trees.declaration d) w n f at rest o st h r into k =
        let u : List Mark = marks_of_specifiers g.untagged d.specs in
        let m : List Mark = marks_of_declarators g.untagged d.all d.semicolon in
        let tokens : List Lexeme = spelled_init_declarators d.all (punctuator M.Semicolon d.semicolon ∷ rest) in
        let N : ℕ = n + added false u in
        let all = added_both false u m in
        let whole : n + added false (u ++ m) ≡ N + added false m = omega (arith, all) in
        let hr = ahead_same g.ends (n + added false (u ++ m)) (N + added false m) rest whole h in
        let sm = standing_right g.ends false n u m st in
        let su = standing_left g.ends false n u m st in
        let hm : Before N tokens = back g.ends false N (declarators_along g.untagged types true d.all w.1 d.semicolon {rest = rest}) sm hr in
        let c = behind_part g.untagged types g.ends N law f (specifiers_along g.untagged types d.specs w.0 {rest = tokens}) o in
        let time = timely_specifiers g.untagged types g.ends law false n d.specs w.0 f tokens o su hm in
        let p = passed at (scope_beginnings u) (names_of_declarators g.untagged d.all d.semicolon) r in
        let own = base_traced d.specs (at_file_scope g) k.0 (λ one. one_traced d.specs (at_file_scope g) k.0 n ascending time su one) k.2 in
        filed_both u m (parts_filed g IsPlace u own)
        (declarators_traced true d.all w.1 (storage_of d.specs) k.0 d.semicolon N c.0 p.to rest c.1 sm hr p.rest into k.4)
    item_traced (Trees.defines specs d left items right) w n f at rest o st h r into k =
        let u : List Mark = marks_of_specifiers g.untagged specs in
        let v : List Mark = marks_of_declarator g.untagged d in
        let m : List Mark = a_name left ∷ [] in
        let N : ℕ = n + added false u in
        let body : List Lexeme = punctuator M.OpenBrace left ∷ spelled_block_items items (punctuator M.CloseBrace right ∷ rest) in
        let own = added_both false u v in
        let all = added_both false (u ++ v) m in
        let whole : n + added false ((u ++ v) ++ m) ≡ N + added false v = omega (arith, own, all) in
        let two = standing_left g.ends false n (u ++ v) m st in
        let su = standing_left g.ends false n u v two in
        let sv = standing_right g.ends false n u v two in
        let hr = ahead_same g.ends (n + added false ((u ++ v) ++ m)) (N + added false v) rest whole h in
        let hb : Before (N + added false v) body =
        earlier g.ends (N + added false v) (body_along left items right w.3) hr in
        let hd : Before N (spelled_declarator d body) = back g.ends false N (declarator_along g.untagged types d w.1 {rest = body}) sv hb in
        let c = behind_part g.untagged types g.ends N law f (specifiers_along g.untagged types specs w.0 {rest = spelled_declarator d body}) o in
        let first = timely_specifiers g.untagged types g.ends law false n specs w.0 f (spelled_declarator d body) o su hd in
        let second = timely_declarator g.untagged types g.ends law false N d w.1 c.0 body c.1 sv hb in
        let there : slice_get (map (λ (f : AFunction). f.ty) g.functions) k.4 ≡ Some k.5.ty = mapped_at (λ (f : AFunction). f.ty) g.functions k.4 k.5 k.13 in
        let own = base_traced specs (at_file_scope g) k.0 (λ one. one_traced specs (at_file_scope g) k.0 n ascending first su one) k.7 in
        let declared = declarator_traced d (at_file_scope g) k.0 (closed (function k.1 k.2)) N ascending second sv k.10 in
        filed_both (u ++ v) m (filed_both u v (parts_filed g IsPlace u own) (parts_filed g IsPlace v declared)) (
          record { binding = bound k.3 left defines (a_function k.4 k.5.ty); stands = k.20; begins = refl; fit = there; complete = there; object = λ n t e. cc },
          tt,
        )

  items_traced : (types : List (List ℕ)) (items : List Trees.Item) → AreItems types items → (n from at : ℕ) (rest : List Lexeme)
      → AreOrdered from (spelled_items items rest) → Stands n (marks_of_file g.untagged items)
      → Before (n + added false (marks_of_file g.untagged items)) rest → Rising at (names_of_file g.untagged items)
      → ((p : ℕ) → IsMade (declared_by_file items) p → IsPlace p) → All (ErasesItem g) items → AreFiled g IsPlace (marks_of_file g.untagged items)
  items_traced types [] w n f at rest o st h r into k = tt
  items_traced types (item ∷ more) w n f at rest o st h r into k =
      let u : List Mark = marks_of_item g.untagged item in
      let m : List Mark = marks_of_file g.untagged more in
      let N : ℕ = n + added false u in
      let tokens : List Lexeme = spelled_items more rest in
      let all = added_both false u m in
      let whole : n + added false (u ++ m) ≡ N + added false m = omega (arith, all) in
      let hr = ahead_same g.ends (n + added false (u ++ m)) (N + added false m) rest whole h in
      let sm = standing_right g.ends false n u m st in
      let hm : Before N tokens = back g.ends false N (items_along g.untagged (types_after types item) more w.1 {rest = rest}) sm hr in
      let c = behind_part g.untagged types g.ends N law f (item_along g.untagged types item w.0 {rest = tokens}) o in
      let p = passed at (names_of_item g.untagged item) (names_of_file g.untagged more) r in
      filed_both u m
      (item_traced types item w.0 n f at tokens o (standing_left g.ends false n u m st) hm
      (rising_front at (names_of_item g.untagged item) (names_of_file g.untagged more) r)
      (λ p i. into p (made_left (declared_by_item item) (declared_by_file more) p i)) (All-head (ErasesItem g) item more k))
      (items_traced (types_after types item) more w.1 N c.0 p.to rest c.1 sm hr p.rest
      (λ p i. into p (made_right (declared_by_item item) (declared_by_file more) p i)) (All-tail (ErasesItem g) item more k))

  -- of a whole file, whose ends are those of its marks
  pub file_traced : (items : List Trees.Item) → AreItems [] items → AreOrdered 0 (spell items) → Rising 0 (names_of_file g.untagged items)
      → g.ends ≡ ends_in (marks_of_file g.untagged items) → ((p : ℕ) → IsMade (declared_by_file items) p → IsPlace p) → All (ErasesItem g) items
      → AreFiled g IsPlace (marks_of_file g.untagged items)
  file_traced items w o r e into k =
      let ends = ends_in (marks_of_file g.untagged items) in
      let stand : Stands 0 (marks_of_file g.untagged items) =
      λ f j right at. subst (λ all. slice_get all (0 + j) ≡ Some right) (sym e) (subst (λ n. slice_get ends n ≡ Some right) (let z : j ≡ 0 + j = omega arith in z) at) in
      let count = ap length e in
      let whole : length g.ends ≡ 0 + length ends = omega (arith, count) in
      items_traced [] items w 0 0 0 [] o stand (ahead_same g.ends (length g.ends) (0 + length ends) [] whole (none_left g.ends)) r into k
