-- The types of the unit of an annotated file are within the limits, where those of its entries are.
use Rattle.std.proofs.Common.{◌≡◌, ℕ, ◌+◌, ◌<◌, ◌≤◌, Bool, true, false, sym, subst, cond, List, [], ◌∷◌, ◌++◌, length, map, flat_map, filter, inl, inr, arith}
use Rattle.std.proofs.lemmas.List.Elements.{All-from_recursion}
use Rattle.std.proofs.lemmas.Option.{slice_get_cases}
use Rattle.std.specs.Prelude.{◌⊎◌, ◌&&◌, not, All, Option, Some, None, slice_get, get_or, unwrap_or}
use Rattle.std.specs.List.{AllByRecursion, list_any}
use Rattle.std.specs.Option.{option_map}
use Rattle.lay_base.specs.declared.place.Place.{Place}
use Rattle.c_tokens.specs.TokenPlaces.{TokensHavePlaces}
use Rattle.c_types.proofs.Before.{length-layouts}
use Rattle.c_types.specs.declared.ty.IntKind.TheVariants.{Char, UInt}
use Rattle.c_types.specs.declared.layout.Layout.{Layout}
use Rattle.c_types.specs.Layouts.{layouts, size_of}
use Rattle.c_types.specs.Sameness.{same_type}
use Rattle.c_types.specs.Types.{CType, integer, structure}
use Rattle.c_typed.specs.declared.program.MentionKind.TheVariants.{From, To}
use Rattle.c_typed.specs.Constants.{ty}
use Rattle.c_typed.specs.Conversions.{is_pointer}
use Rattle.c_typed.specs.InitialValues.{InitialValue, a_number, a_null, an_address, a_function, initial_value}
use Rattle.c_typed.specs.Mapped.{of_types, mapped, mapped_node, mapped_path, mapped_step, mapped_value, mapped_part, mapped_initializer}
use Rattle.c_typed.specs.Trees as Trees
use Rattle.c_typed.specs.Walk.{types_in_statement}
use Rattle.c_erasure.specs.Declarators.{IsSmall}
use Rattle.c_erasure.specs.InitialMentions.{mention, is_null_node, of_conversion, told, told_by_node, told_by_path, told_by_step, told_by_value}
use Rattle.c_erasure.specs.InitialMentions.{told_by_initial}
use Rattle.c_erasure.specs.InitialMentions as Told
use Rattle.c_erasure.specs.Noted.{Noted, Expression, Path, Node, PathNode}
use Rattle.c_erasure.specs.Scopes.{AnObject, ALocal, AFunction, AMention, FileScope, at_file_scope, declared}
use Rattle.c_erasure.specs.Units.{recognised_initializer, recognised_statement, if_any, is_size_operand, typed_initializer, mentions, Stores, of_text, stored}
use Rattle.c_erasure.specs.Units.{of_expression, of_value, of_part, of_initializer, stored_in, type_if_pointer, object_types, function_types, all_types}
use Rattle.c_erasure.specs.Units.{new_among, types}
use Rattle.c_checking_units.specs.TypeLimits.Limits.{TypesAreSmall, HasSmallArrays}
use Rattle.c_checking_units.proofs.TypeLimits.Types.{IsWithin, number_within, record_within, within_is_small}
use Rattle.c_checking_units.proofs.TypeLimits.Trees.{Each, EachInNode, EachInPath, EachInStep, EachInValue, EachInParts, EachInInitializer, EachInInitial}
use Rattle.c_checking_units.proofs.TypeLimits.Trees.{listed_in_statement, recognised_in_initializer, recognised_in_statement}
use Rattle.c_checking_units.proofs.TypeLimits.States.{joined, each_so, IsObject, IsBodyIfAny, IsFunction, IsFile}
use Rattle.c_checking_units.proofs.TypeLimits.Files.{annotated_within}
use Rattle.c_checking_units.proofs.TypeLimits.Texts.{texts_are_short}

-- ---- lists

of_each : {A B : Type 0} (P : A → Type 0) (Q : B → Type 0) (v : A → List B) (xs : List A) → ((x : A) → P x → AllByRecursion Q (v x)) → AllByRecursion P xs
    → AllByRecursion Q (flat_map v xs)
of_each P Q v [] f h = tt
of_each P Q v (x ∷ xs) f h = joined Q (v x) (flat_map v xs) (f x h.0) (of_each P Q v xs f h.1)

mapped_each : {A B : Type 0} (P : A → Type 0) (Q : B → Type 0) (v : A → B) (xs : List A) → ((x : A) → P x → Q (v x)) → AllByRecursion P xs
    → AllByRecursion Q (map v xs)
mapped_each P Q v [] f h = tt
mapped_each P Q v (x ∷ xs) f h = (f x h.0, mapped_each P Q v xs f h.1)

filtered : {A : Type 0} (P : A → Type 0) (test : A → Bool) (xs : List A) → AllByRecursion P xs → AllByRecursion P (filter test xs)
filtered P test [] h = tt
filtered P test (x ∷ xs) h = by_test (test x) (filtered P test xs h.1)
  where
    by_test : (b : Bool) → AllByRecursion P (filter test xs) → AllByRecursion P (cond b (x ∷ filter test xs) (filter test xs))
    by_test true k = (h.0, k)
    by_test false k = k

new_ones : (P : CType → Type 0) (known all : List CType) → AllByRecursion P all → AllByRecursion P (new_among known all)
new_ones P known [] h = tt
new_ones P known (t ∷ all) h = by_test (list_any (same_type t) known) (new_ones P known all h.1) (new_ones P (t ∷ known) all h.1)
  where
    by_test : (b : Bool) → AllByRecursion P (new_among known all) → AllByRecursion P (new_among (t ∷ known) all)
        → AllByRecursion P (cond b (new_among known all) (t ∷ new_among (t ∷ known) all))
    by_test true k l = k
    by_test false k l = (h.0, l)

-- ---- types in trees of objects

module _ (P : CType → Type 0) (record_too : (r : ℕ) → P (structure r)) (char_too : P (integer Char)) where
  abbrev Plain : Expression → Trees.Expression CType
  Plain e = mapped (of_types (λ (t : Noted). t.ty)) e

  abbrev PlainPath : Path → Trees.Path CType
  PlainPath p = mapped_path (of_types (λ (t : Noted). t.ty)) p

  abbrev AreTold : List AMention → Type 0
  AreTold all = AllByRecursion (λ (m : AMention). P m.ty) all

  type_of_plain : (e : Expression) → Each P e → P (ty (Plain e))
  type_of_plain (Trees.expression t at node) h = h.1

  told_type : (e : Expression) → Each P e → P (Told.ty (Plain e))
  told_type (Trees.expression t at node) h = h.1

  both : (xs ys : List AMention) → AreTold xs → AreTold ys → AreTold (xs ++ ys)
  both xs ys h k = joined (λ (m : AMention). P m.ty) xs ys h k

  conversion_told : (t : CType) (e : Expression) → P t → Each P e → AreTold (of_conversion t (Plain e))
  conversion_told t e w h =
      by_test (is_pointer t && is_pointer (Told.ty (Plain e)) && not (same_type t (Told.ty (Plain e))) && not (is_null_node (Plain e)))
    where
      by_test : (b : Bool) → AreTold (cond b (mention From (Told.ty (Plain e)) (Told.place (Plain e)) ∷ mention To t (Told.place (Plain e)) ∷ []) [])
      by_test true = (told_type e h, (w, tt))
      by_test false = tt

  mutual
    told_each : (e : Expression) → Each P e → AreTold (told (Plain e))
    told_each (Trees.expression t at node) h = told_in_node t.ty at node h.1 h.0

    told_in_node : (t : CType) (at : Place) (node : Node) → P t → EachInNode P node
        → AreTold (told_by_node t at (mapped_node (of_types (λ (t : Noted). t.ty)) node))
    told_in_node t at (Trees.constant v) w h = tt
    told_in_node t at Trees.null w h = tt
    told_in_node t at (Trees.function_name f) w h = (w, tt)
    told_in_node t at (Trees.load p) w h = told_in_path p h
    told_in_node t at (Trees.address_of p) w h = told_in_path p h
    told_in_node t at (Trees.decay p) w h = told_in_path p h
    told_in_node t at (Trees.convert e written) w h = both (told (Plain e)) (of_conversion t (Plain e)) (told_each e h) (conversion_told t e w h)
    told_in_node t at (Trees.unary op x) w h = told_each x h
    told_in_node t at (Trees.binary op x y) w h = both (told (Plain x)) (told (Plain y)) (told_each x h.0) (told_each y h.1)
    told_in_node t at (Trees.compare op x y) w h = both (told (Plain x)) (told (Plain y)) (told_each x h.0) (told_each y h.1)
    told_in_node t at (Trees.pointer_add op x y) w h = both (told (Plain x)) (told (Plain y)) (told_each x h.0) (told_each y h.1)
    told_in_node t at (Trees.pointer_difference x y) w h = both (told (Plain x)) (told (Plain y)) (told_each x h.0) (told_each y h.1)
    told_in_node t at (Trees.both x y) w h = both (told (Plain x)) (told (Plain y)) (told_each x h.0) (told_each y h.1)
    told_in_node t at (Trees.either x y) w h = both (told (Plain x)) (told (Plain y)) (told_each x h.0) (told_each y h.1)
    told_in_node t at (Trees.not x) w h = told_each x h
    told_in_node t at (Trees.choose x y z) w h =
        both (told (Plain x) ++ told (Plain y)) (told (Plain z)) (both (told (Plain x)) (told (Plain y)) (told_each x h.0) (told_each y h.1)) (told_each z h.2)
    told_in_node t at (Trees.comma x y) w h = tt
    told_in_node t at (Trees.assign p x) w h = tt
    told_in_node t at (Trees.assign_op op p x) w h = tt
    told_in_node t at (Trees.step op before p) w h = tt
    told_in_node t at (Trees.copy_record to from) w h = tt
    told_in_node t at (Trees.call f all) w h = tt
    told_in_node t at (Trees.call_through e all) w h = tt
    told_in_node t at (Trees.library which all) w h = tt
    told_in_node t at (Trees.allocate r count zeroed) w h = tt

    told_in_path : (p : Path) → EachInPath P p → AreTold (told_by_path (PlainPath p))
    told_in_path (Trees.path t at step) h = told_in_step at step h.0

    told_in_step : (at : Place) (step : PathNode) → EachInStep P step → AreTold (told_by_step at (mapped_step (of_types (λ (t : Noted). t.ty)) step))
    told_in_step at (Trees.local n) h = tt
    told_in_step at (Trees.object n) h = tt
    told_in_step at (Trees.deref e) h = told_each e h
    told_in_step at (Trees.index e i) h = both (told (Plain e)) (told (Plain i)) (told_each e h.0) (told_each i h.1)
    told_in_step at (Trees.member p r k) h = both (told_by_path (PlainPath p)) _ (told_in_path p h) (record_too r, tt)
    told_in_step at (Trees.element p i) h = both (told_by_path (PlainPath p)) (told (Plain i)) (told_in_path p h.0) (told_each i h.1)

  told_in_value : (v : Trees.PartValue Noted) → EachInValue P v → AreTold (told_by_value (mapped_value (of_types (λ (t : Noted). t.ty)) v))
  told_in_value (Trees.value e) h = told_each e h
  told_in_value (Trees.record_of p) h = told_in_path p h
  told_in_value (Trees.text bytes) h = tt

  told_in_parts : (all : List (Trees.Part Noted)) → EachInParts P all
      → AreTold (flat_map (λ (part : Trees.Part CType). told_by_value part.value) (map (mapped_part (of_types (λ (t : Noted). t.ty))) all))
  told_in_parts [] h = tt
  told_in_parts (part ∷ all) h = both _ _ (told_in_value part.value h.0) (told_in_parts all h.1)

  told_in_initializer : (i : Trees.Initializer Noted) → EachInInitializer P i
      → AreTold (told_by_initial (Some (mapped_initializer (of_types (λ (t : Noted). t.ty)) i)))
  told_in_initializer (Trees.whole e) h = told_each e h
  told_in_initializer (Trees.whole_record p) h = told_in_path p h
  told_in_initializer (Trees.parts all) h = told_in_parts all h

  -- ---- what objects hold at first

  abbrev AreStored : List Stores → Type 0
  AreStored all = AllByRecursion (λ (s : Stores). P s.1) all

  stored_each : (t : CType) (at : ℕ) (o : Option InitialValue) → P t → AreStored (stored t at o)
  stored_each t at None w = tt
  stored_each t at (Some a_null) w = tt
  stored_each t at (Some (a_number kind v)) w = (w, tt)
  stored_each t at (Some (an_address a)) w = (w, tt)
  stored_each t at (Some (a_function g)) w = (w, tt)

  text_each : (at : ℕ) (bytes : List ℕ) → AreStored (of_text at bytes)
  text_each at [] = tt
  text_each at (v ∷ more) = (char_too, text_each (at + 1) more)

  module _ (f : FileScope) where
    expression_each : (at : ℕ) (e : Expression) → Each P e → AreStored (of_expression f at (Plain e))
    expression_each at e h = stored_each (ty (Plain e)) at (initial_value (declared (at_file_scope f)) (Plain e)) (type_of_plain e h)

    value_each : (at : ℕ) (v : Trees.PartValue Noted) → EachInValue P v → AreStored (of_value f at (mapped_value (of_types (λ (t : Noted). t.ty)) v))
    value_each at (Trees.value e) h = expression_each at e h
    value_each at (Trees.record_of p) h = tt
    value_each at (Trees.text bytes) h = text_each at bytes

    parts_each : (all : List (Trees.Part Noted)) → EachInParts P all → AreStored (flat_map (of_part f) (map (mapped_part (of_types (λ (t : Noted). t.ty))) all))
    parts_each [] h = tt
    parts_each (part ∷ all) h =
        joined (λ (s : Stores). P s.1) (of_value f part.offset (mapped_value (of_types (λ (t : Noted). t.ty)) part.value))
        (flat_map (of_part f) (map (mapped_part (of_types (λ (t : Noted). t.ty))) all)) (value_each part.offset part.value h.0) (parts_each all h.1)

    initializer_each : (i : Trees.Initializer Noted) → EachInInitializer P i → AreStored (of_initializer f (mapped_initializer (of_types (λ (t : Noted). t.ty)) i))
    initializer_each (Trees.whole e) h = expression_each 0 e h
    initializer_each (Trees.whole_record p) h = tt
    initializer_each (Trees.parts all) h = parts_each all h

  pointers_each : (s : Stores) → P s.1 → AllByRecursion P (type_if_pointer s)
  pointers_each (at, t, v) w = by_test (is_pointer t)
    where
      by_test : (b : Bool) → AllByRecursion P (cond b (t ∷ []) [])
      by_test true = (w, tt)
      by_test false = tt

-- ---- of a whole file

module _ (f : FileScope) (h : IsFile f) where
  abbrev W : CType → Type 0
  W t = IsWithin f.records t

  recognised_too : (i : Trees.Initializer Noted) → EachInInitializer W i → EachInInitializer W (recognised_initializer i)
  recognised_too i k = recognised_in_initializer W (number_within f.records UInt) i k

  object_each : (o : AnObject) → IsObject f.records o → AllByRecursion W (object_types f o)
  object_each o k = (k.0, of_each (λ (s : Stores). W s.1) W type_if_pointer (stored_in f o) (λ s w. pointers_each W (record_within f.records) (number_within f.records Char) s w) (by_initial o.initial k.1))
    where
      by_initial : (i : Option (Trees.Initializer Noted)) → EachInInitial W i
          → AllByRecursion (λ (s : Stores). W s.1) (flat_map (λ i. of_initializer f (typed_initializer i)) (if_any i))
      by_initial None k = tt
      by_initial (Some i) k =
          joined (λ (s : Stores). W s.1) (of_initializer f (typed_initializer i)) []
          (initializer_each W (record_within f.records) (number_within f.records Char) f (recognised_initializer i) (recognised_too i k)) tt

  told_object : (o : AnObject) → IsObject f.records o → AllByRecursion (λ (m : AMention). W m.ty) (told_by_initial (option_map typed_initializer o.initial))
  told_object o k = by_initial o.initial k.1
    where
      by_initial : (i : Option (Trees.Initializer Noted)) → EachInInitial W i
          → AllByRecursion (λ (m : AMention). W m.ty) (told_by_initial (option_map typed_initializer i))
      by_initial None k = tt
      by_initial (Some i) k = told_in_initializer W (record_within f.records) (number_within f.records Char) (recognised_initializer i) (recognised_too i k)

  function_each : (g : AFunction) → IsFunction f.records g → AllByRecursion W (function_types g)
  function_each g k = (k.ty, joined W (map (λ (l : ALocal). l.ty) (g.parameters ++ g.locals)) _ locals_each (by_body g.body k.body))
    where
      locals_each : AllByRecursion W (map (λ (l : ALocal). l.ty) (g.parameters ++ g.locals))
      locals_each =
          mapped_each (λ (l : ALocal). W l.ty) W (λ (l : ALocal). l.ty) (g.parameters ++ g.locals) (λ l w. w)
          (joined (λ (l : ALocal). W l.ty) g.parameters g.locals k.parameters k.locals)

      by_body : (b : Option (Trees.Statement Noted)) → IsBodyIfAny f.records b
          → AllByRecursion W (flat_map (λ s. map (λ (t : Noted). t.ty) (types_in_statement (recognised_statement s))) (if_any b))
      by_body None k = tt
      by_body (Some s) k =
          joined W (map (λ (t : Noted). t.ty) (types_in_statement (recognised_statement s))) []
          (mapped_each (λ (t : Noted). W t.ty) W (λ (t : Noted). t.ty) (types_in_statement (recognised_statement s)) (λ t w. w)
          (listed_in_statement W (recognised_statement s) (recognised_in_statement W (number_within f.records UInt) s k))) tt

  all_within : AllByRecursion W (all_types f)
  all_within =
      joined W (flat_map (object_types f) f.objects ++ flat_map function_types f.functions) (map (λ (m : AMention). m.ty) (mentions f))
      (joined W (flat_map (object_types f) f.objects) (flat_map function_types f.functions)
      (of_each (IsObject f.records) W (object_types f) f.objects object_each h.objects)
      (of_each (IsFunction f.records) W function_types f.functions function_each h.functions))
      (mapped_each (λ (m : AMention). W m.ty) W (λ (m : AMention). m.ty) (mentions f) (λ m w. w)
      (joined (λ (m : AMention). W m.ty) (filter (λ m. not (is_size_operand f m)) f.mentions)
      (flat_map (λ (o : AnObject). told_by_initial (option_map typed_initializer o.initial)) f.objects)
      (filtered (λ (m : AMention). W m.ty) (λ m. not (is_size_operand f m)) f.mentions h.mentions)
      (of_each (IsObject f.records) (λ (m : AMention). W m.ty) (λ (o : AnObject). told_by_initial (option_map typed_initializer o.initial)) f.objects
      told_object h.objects)))

  -- a number of no record has the size 0
  record_small : (r : ℕ) → size_of f.records (structure r) ≤ 16777216
  record_small r = by_place ((slice_get_cases (layouts f.records) r).1)
    where
      by_place : ((x : Layout) × (r < length (layouts f.records)) × (slice_get (layouts f.records) r ≡ Some x) × (get_or (layouts f.records) r x ≡ x))
          ⊎ ((length (layouts f.records) ≤ r) × (slice_get (layouts f.records) r ≡ None)) → size_of f.records (structure r) ≤ 16777216
      by_place (inl z) = h.sizes r (subst (λ n. r < n) (length-layouts f.records) z.1)
      by_place (inr z) =
          subst (λ (o : Option Layout). (unwrap_or o (record { offsets = []; size = 0; alignment = 1 })).size ≤ 16777216) (sym z.1) (omega arith)

  types_within : AllByRecursion W (types f)
  types_within = new_ones W [] (all_types f) all_within

  pub types_small : All (IsSmall f.records) (types f)
  types_small =
      All-from_recursion (IsSmall f.records) (types f)
      (each_so W (IsSmall f.records) (types f) (λ t w. within_is_small f.records record_small t w) types_within)

  pub arrays_small : All (HasSmallArrays f.records) (types f)
  arrays_small =
      All-from_recursion (HasSmallArrays f.records) (types f)
      (each_so W (HasSmallArrays f.records) (types f) (λ t w. let h : IsWithin f.records t = w in h.arrays) types_within)

pub types_are_small : TokensHavePlaces → TypesAreSmall
types_are_small places number untagged bytes items f l tree h =
    types_small f (annotated_within number untagged items (texts_are_short places bytes items tree l) f h)
