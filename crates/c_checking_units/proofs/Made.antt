-- The objects that stand in a part are made where its literals and its `static` locals stand (C99 6.4.5, 6.7.1).
use Rattle.std.proofs.Common.{◌≡◌, ℕ, Bool, true, false, List, [], ◌∷◌, ◌++◌, Option, Some, None, refl, sym, ap, ◌∙◌, subst, inl, inr, append-nil}
use Rattle.std.specs.Prelude.{◌⊎◌}
use Rattle.c_ast.specs.declared.words.Spelling.{Spelling}
use Rattle.c_ast.specs.Trees
use Rattle.c_ast.specs.Places.{first_text, first_declarator}
use Rattle.c_ast.specs.WellFormed.{AreInitDeclarators, IsDeclaration, IsForStart, IsStatement, IsBlockItem, AreBlockItems, IsSwitchItem, AreSwitchItems}
use Rattle.c_erasure.specs.Declarators.{declared_name}
use Rattle.c_erasure.specs.Files.{IsMade}
use Rattle.c_erasure.specs.Literals.{literals, literals_of_all, literals_if_any, literals_of_value, place_if_static, made_by_declarators, made_by_declaration}
use Rattle.c_erasure.specs.Literals.{made_by_start, made_by, made_by_item, made_by_items, made_by_switch_item, made_by_switch_items}
use Rattle.c_erasure.specs.Scopes.{FileScope, in_full, value_alone}
use Rattle.c_erasure.specs.Specifiers.{Storage, no_storage, a_typedef, is_extern, is_static, is_auto, is_register, several, storage_of}
use Rattle.c_checking_laws.proofs.CompleteBodies.{walk_by_storage}
use Rattle.c_checking_laws.proofs.CompleteLists.{made_at}
use Rattle.c_checking_laws.proofs.CompleteLocals.{begins, literal_if, walk_of_initializer, walk_of_initializers, walk_of_initial, look_at, walk_of_declared}
use Rattle.c_checking_laws.proofs.CompleteLocals.{walk_of_locals}
use Rattle.c_checking_laws.proofs.CompleteStatements.{walk_of_option, walk_of_start, walk_of_labels, walk_of_statement, walk_of_item, walk_of_items}
use Rattle.c_checking_laws.proofs.CompleteStatements.{walk_of_switch_item, walk_of_switch_items}
use Rattle.c_checking_laws.proofs.CompleteWalk.{Event, a_use, a_look, a_tag, an_end, a_name, a_literal, seen, walk, walk_of_all, walk_if_any, walk_of_type}
use Rattle.c_checking_laws.proofs.CompleteWalk.{walk_of_specifiers, walk_of_specifier, walk_of_members, walk_of_member_declarators, walk_of_enumerators}
use Rattle.c_checking_laws.proofs.CompleteWalk.{walk_of_value, walk_of_declarator, walk_of_parameter_list, walk_of_parameters, an_enumeration}
use Rattle.c_checking_laws.proofs.WholeFiles.CompleteStaticLists.{object_at, walk_of_statics}
use Rattle.c_checking_units.proofs.StepLists.{two}
use Rattle.c_checking_units.proofs.Walking.{own, name_there}

-- ---- lists of which some elements are left out

abbrev pub Kept : (ℕ → Type 0) → (small all : List ℕ) → Type 0
Kept P small [] = small ≡ []
Kept P small (at ∷ all) = ((rest : List ℕ) × (small ≡ at ∷ rest) × Kept P rest all) ⊎ (P at × Kept P small all)

pub all_kept : (P : ℕ → Type 0) (all : List ℕ) → Kept P all all
all_kept P [] = refl
all_kept P (at ∷ all) = inl (all, refl, all_kept P all)

pub kept_same : (P : ℕ → Type 0) (small all : List ℕ) → small ≡ all → Kept P small all
kept_same P small all e = subst (λ small. Kept P small all) (sym e) (all_kept P all)

pub kept_both : (P : ℕ → Type 0) (a x b y : List ℕ) → Kept P a x → Kept P b y → Kept P (a ++ b) (x ++ y)
kept_both P a [] b y h k = subst (λ a. Kept P (a ++ b) y) (sym h) k
kept_both P a (at ∷ x) b y (inl h) k =
    subst (λ a. Kept P (a ++ b) (at ∷ (x ++ y))) (sym h.1) (inl (h.0 ++ b, refl, kept_both P h.0 x b y h.2 k))
kept_both P a (at ∷ x) b y (inr h) k = inr (h.0, kept_both P a x b y h.1 k)

pub kept_for : (P Q : ℕ → Type 0) → ((at : ℕ) → P at → Q at) → (small all : List ℕ) → Kept P small all → Kept Q small all
kept_for P Q f small [] h = h
kept_for P Q f small (at ∷ all) (inl h) = inl (h.0, h.1, kept_for P Q f h.0 all h.2)
kept_for P Q f small (at ∷ all) (inr h) = inr (f at h.0, kept_for P Q f small all h.1)

-- ---- in lists

pub made_left : (a b : List ℕ) (at : ℕ) → IsMade a at → IsMade (a ++ b) at
made_left [] b at h = absurd h
made_left (x ∷ a) b at (inl h) = inl h
made_left (x ∷ a) b at (inr h) = inr (made_left a b at h)

pub made_right : (a b : List ℕ) (at : ℕ) → IsMade b at → IsMade (a ++ b) at
made_right [] b at h = h
made_right (x ∷ a) b at h = inr (made_right a b at h)

pub made_either : (a b : List ℕ) (at : ℕ) → IsMade (a ++ b) at → IsMade a at ⊎ IsMade b at
made_either [] b at h = inr h
made_either (x ∷ a) b at (inl h) = inl (inl h)
made_either (x ∷ a) b at (inr h) = by_part (made_either a b at h)
  where
    by_part : IsMade a at ⊎ IsMade b at → IsMade (x ∷ a) at ⊎ IsMade b at
    by_part (inl h) = inl (inr h)
    by_part (inr h) = inr h

-- what is not left out
pub kept_made : (P : ℕ → Type 0) (small all : List ℕ) → Kept P small all → (at : ℕ) → (P at → ⊥) → IsMade all at → IsMade small at
kept_made P small [] h at n m = absurd m
kept_made P small (x ∷ all) (inl h) at n (inl m) = subst (λ small. IsMade small at) (sym h.1) (inl m)
kept_made P small (x ∷ all) (inl h) at n (inr m) = subst (λ small. IsMade small at) (sym h.1) (inr (kept_made P h.0 all h.2 at n m))
kept_made P small (x ∷ all) (inr h) at n (inl m) = absurd (n (subst P (sym m) h.0))
kept_made P small (x ∷ all) (inr h) at n (inr m) = kept_made P small all h.1 at n m

-- ---- events

pub made_both : (a b : List Event) → made_at (a ++ b) ≡ made_at a ++ made_at b
made_both [] b = refl
made_both (a_use at ∷ a) b = made_both a b
made_both (a_look at ∷ a) b = made_both a b
made_both (a_tag t ∷ a) b = made_both a b
made_both (an_end tag right ∷ a) b = made_both a b
made_both (a_name from ∷ a) b = made_both a b
made_both (a_literal at ∷ a) b = ap (λ z. at ∷ z) (made_both a b)

joined : (a b : List Event) (m n : List ℕ) → made_at a ≡ m → made_at b ≡ n → made_at (a ++ b) ≡ m ++ n
joined a b m n p q = made_both a b ∙ two _ _ m n p q

pub none_made : (a b : List Event) → made_at a ≡ [] → made_at b ≡ [] → made_at (a ++ b) ≡ []
none_made a b p q = joined a b [] [] p q

-- what is used for its value alone makes nothing
nothing_made : (all : List Event) → made_at (seen false value_alone all) ≡ []
nothing_made [] = refl
nothing_made (a_use at ∷ a) = nothing_made a
nothing_made (a_look at ∷ a) = nothing_made a
nothing_made (a_tag t ∷ a) = nothing_made a
nothing_made (an_end tag right ∷ a) = nothing_made a
nothing_made (a_name from ∷ a) = nothing_made a
nothing_made (a_literal at ∷ a) = nothing_made a

pub made_inside : (all : List Event) → made_at (seen true in_full all) ≡ made_at all
made_inside [] = refl
made_inside (a_use at ∷ a) = made_inside a
made_inside (a_look at ∷ a) = made_inside a
made_inside (a_tag t ∷ a) = made_inside a
made_inside (an_end tag right ∷ a) = made_inside a
made_inside (a_name from ∷ a) = made_inside a
made_inside (a_literal at ∷ a) = ap (λ z. at ∷ z) (made_inside a)

module _ (u : ℕ → List ℕ) where
  -- ---- types make nothing

  tag_made : (x : Option Spelling) (right : ℕ) → made_at (an_enumeration u x right) ≡ []
  tag_made None right = refl
  tag_made (Some x) right = refl

  length_made : (t : Trees.OptionalExpression) → made_at (walk_if_any u t) ≡ []
  length_made Trees.no_expression = refl
  length_made (Trees.some_expression a) = nothing_made (walk u a)

  value_made : (t : Trees.EnumeratorValue) → made_at (walk_of_value u t) ≡ []
  value_made Trees.no_value = refl
  value_made (Trees.valued equal a) = nothing_made (walk u a)

  enumerators_made : (t : Trees.Enumerators) (after : ℕ) → made_at (walk_of_enumerators u t after) ≡ []
  enumerators_made Trees.no_enumerators after = refl
  enumerators_made (Trees.and_enumerator comma x value more) after =
      none_made (walk_of_value u value) _ (value_made value) (enumerators_made more after)

  mutual
    pub specifiers_made : (t : Trees.Specifiers) → made_at (walk_of_specifiers u t) ≡ []
    specifiers_made Trees.no_specifiers = refl
    specifiers_made (Trees.and_specifier s more) = none_made (walk_of_specifier u s) _ (specifier_made s) (specifiers_made more)

    specifier_made : (t : Trees.Specifier) → made_at (walk_of_specifier u t) ≡ []
    specifier_made (Trees.plain word at) = refl
    specifier_made (Trees.typename x) = refl
    specifier_made (Trees.struct_named at x) = refl
    specifier_made (Trees.struct_body at x left all right) = none_made (walk_of_members u all) _ (members_made all) refl
    specifier_made (Trees.enum_named at x) = refl
    specifier_made (Trees.enum_body at x left all comma right) =
        none_made (walk_of_enumerators u all _) (an_enumeration u x right) (enumerators_made all _) (tag_made x right)

    members_made : (t : Trees.MemberDeclarations) → made_at (walk_of_members u t) ≡ []
    members_made Trees.no_member_declarations = refl
    members_made (Trees.and_member_declaration specs ds semicolon more) =
        none_made (walk_of_specifiers u specs ++ walk_of_member_declarators u ds semicolon) _
        (none_made (walk_of_specifiers u specs) _ (specifiers_made specs) (member_declarators_made ds semicolon)) (members_made more)

    member_declarators_made : (t : Trees.MemberDeclarators) (semicolon : ℕ) → made_at (walk_of_member_declarators u t semicolon) ≡ []
    member_declarators_made Trees.no_member_declarators semicolon = refl
    member_declarators_made (Trees.and_member_declarator comma d more) semicolon =
        none_made (walk_of_declarator u d) _ (declarator_made d) (member_declarators_made more semicolon)

    pub declarator_made : (t : Trees.Declarator) → made_at (walk_of_declarator u t) ≡ []
    declarator_made Trees.nothing = refl
    declarator_made (Trees.named x) = refl
    declarator_made (Trees.pointer at consts d) = declarator_made d
    declarator_made (Trees.enclosed left d right) = declarator_made d
    declarator_made (Trees.array d left bound right) = none_made (walk_of_declarator u d) _ (declarator_made d) (length_made bound)
    declarator_made (Trees.function d left all right) =
        none_made (walk_of_declarator u d) _ (declarator_made d) (made_inside (walk_of_parameter_list u all) ∙ parameter_list_made all)

    parameter_list_made : (t : Trees.ParameterList) → made_at (walk_of_parameter_list u t) ≡ []
    parameter_list_made (Trees.void_alone at) = refl
    parameter_list_made (Trees.listed all) = parameters_made all

    parameters_made : (t : Trees.Parameters) → made_at (walk_of_parameters u t) ≡ []
    parameters_made Trees.no_parameters = refl
    parameters_made (Trees.and_parameter comma specs d more) =
        none_made (walk_of_specifiers u specs ++ walk_of_declarator u d) _
        (none_made (walk_of_specifiers u specs) _ (specifiers_made specs) (declarator_made d)) (parameters_made more)

  type_made : (t : Trees.TypeName) → made_at (walk_of_type u t) ≡ []
  type_made (Trees.type_name specs d) = none_made (walk_of_specifiers u specs) _ (specifiers_made specs) (declarator_made d)

  -- ---- expressions

  mutual
    pub expression_made : (t : Trees.Expression) → made_at (walk u t) ≡ literals t
    expression_made (Trees.name x) = refl
    expression_made (Trees.number x n kind) = refl
    expression_made (Trees.character x n) = refl
    expression_made (Trees.texts all) = refl
    expression_made (Trees.paren left a right) = expression_made a
    expression_made (Trees.index a left b right) = joined (walk u a) (walk u b) _ _ (expression_made a) (expression_made b)
    expression_made (Trees.call f left all right) = joined (walk u f) (walk_of_all u all) _ _ (expression_made f) (arguments_made all)
    expression_made (Trees.dot a at x) = joined (walk u a) (a_look at ∷ []) _ [] (expression_made a) refl ∙ append-nil (literals a)
    expression_made (Trees.arrow a at x) = expression_made a
    expression_made (Trees.post a op at) = expression_made a
    expression_made (Trees.pre op at a) = expression_made a
    expression_made (Trees.unary op at a) = expression_made a
    expression_made (Trees.sizeof_expression at a) = nothing_made (walk u a)
    expression_made (Trees.sizeof_type at left n right) = none_made (walk_of_type u n) (a_look right ∷ []) (type_made n) refl
    expression_made (Trees.cast left n right a) = joined (walk_of_type u n) (walk u a) [] _ (type_made n) (expression_made a)
    expression_made (Trees.binary a op at b) = joined (walk u a) (walk u b) _ _ (expression_made a) (expression_made b)
    expression_made (Trees.cond a question b colon c) =
        joined (walk u a ++ walk u b) (walk u c) _ _ (joined (walk u a) (walk u b) _ _ (expression_made a) (expression_made b)) (expression_made c)
    expression_made (Trees.assign a op at b) = joined (walk u a) (walk u b) _ _ (expression_made a) (expression_made b)
    expression_made (Trees.comma a at b) = joined (walk u a) (walk u b) _ _ (expression_made a) (expression_made b)
    expression_made (Trees.braces left all comma right) = arguments_made all

    arguments_made : (t : Trees.Arguments) → made_at (walk_of_all u t) ≡ literals_of_all t
    arguments_made Trees.no_arguments = refl
    arguments_made (Trees.and_argument comma a more) = joined (walk u a) (walk_of_all u more) _ _ (expression_made a) (arguments_made more)

-- ---- initializers: what begins no object is left out

module _ (g : FileScope) where
  abbrev pub BeginsNone : ℕ → Type 0
  BeginsNone at = begins g.objects at ≡ false

  abbrev pub Makes : List Event → List ℕ → Type 0
  Makes events all = Kept BeginsNone (made_at events) all

  same : (events : List Event) (all : List ℕ) → made_at events ≡ all → Makes events all
  same events all e = kept_same BeginsNone (made_at events) all e

  join : (a b : List Event) (x y : List ℕ) → Makes a x → Makes b y → Makes (a ++ b) (x ++ y)
  join a b x y h k = subst (λ z. Kept BeginsNone z (x ++ y)) (sym (made_both a b)) (kept_both BeginsNone (made_at a) x (made_at b) y h k)

  -- behind what makes nothing
  behind : (a b : List Event) (y : List ℕ) → made_at a ≡ [] → Makes b y → Makes (a ++ b) y
  behind a b y e k = join a b [] y e k

  pub whole : (a : Trees.Expression) → Makes (walk g.untagged a) (literals a)
  whole a = same (walk g.untagged a) (literals a) (expression_made g.untagged a)

  literal_makes : (b : Bool) (at : ℕ) → begins g.objects at ≡ b → Makes (literal_if b at) (at ∷ [])
  literal_makes true at e = inl ([], refl, refl)
  literal_makes false at e = inr (e, refl)

  mutual
    initializer_makes : (a : Trees.Expression) → Makes (walk_of_initializer g.untagged g.objects a) (literals a)
    initializer_makes (Trees.name x) = whole (Trees.name x)
    initializer_makes (Trees.number x n kind) = whole (Trees.number x n kind)
    initializer_makes (Trees.character x n) = whole (Trees.character x n)
    initializer_makes (Trees.texts all) = literal_makes (begins g.objects (first_text all)) (first_text all) refl
    initializer_makes (Trees.paren left a right) = whole (Trees.paren left a right)
    initializer_makes (Trees.index a left b right) = whole (Trees.index a left b right)
    initializer_makes (Trees.call f left all right) = whole (Trees.call f left all right)
    initializer_makes (Trees.dot a at x) = whole (Trees.dot a at x)
    initializer_makes (Trees.arrow a at x) = whole (Trees.arrow a at x)
    initializer_makes (Trees.post a op at) = whole (Trees.post a op at)
    initializer_makes (Trees.pre op at a) = whole (Trees.pre op at a)
    initializer_makes (Trees.unary op at a) = whole (Trees.unary op at a)
    initializer_makes (Trees.sizeof_expression at a) = whole (Trees.sizeof_expression at a)
    initializer_makes (Trees.sizeof_type at left n right) = whole (Trees.sizeof_type at left n right)
    initializer_makes (Trees.cast left n right a) = whole (Trees.cast left n right a)
    initializer_makes (Trees.binary a op at b) = whole (Trees.binary a op at b)
    initializer_makes (Trees.cond a question b colon c) = whole (Trees.cond a question b colon c)
    initializer_makes (Trees.assign a op at b) = whole (Trees.assign a op at b)
    initializer_makes (Trees.comma a at b) = whole (Trees.comma a at b)
    initializer_makes (Trees.braces left all comma right) = initializers_make all

    initializers_make : (all : Trees.Arguments) → Makes (walk_of_initializers g.untagged g.objects all) (literals_of_all all)
    initializers_make Trees.no_arguments = refl
    initializers_make (Trees.and_argument comma a more) =
        join (walk_of_initializer g.untagged g.objects a) (walk_of_initializers g.untagged g.objects more) (literals a) (literals_of_all more)
        (initializer_makes a) (initializers_make more)

  pub initial_makes : (value : Option (ℕ × Trees.Expression)) → Makes (walk_of_initial g.untagged g.objects value) (literals_of_value value)
  initial_makes None = refl
  initial_makes (Some value) = initializer_makes value.1

  -- ---- declarations in a block

  look_made : (o : Option Spelling) → made_at (look_at g.untagged g.objects o) ≡ []
  look_made None = refl
  look_made (Some x) = refl

  declared_made : (d : Trees.InitDeclarator) → made_at (walk_of_declared g.untagged g.objects d) ≡ []
  declared_made d =
      none_made (look_at g.untagged g.objects (declared_name d.declarator)) (walk_of_declarator g.untagged d.declarator)
      (look_made (declared_name d.declarator)) (declarator_made g.untagged d.declarator)

  abbrev LocalsMake : Storage → List Trees.InitDeclarator → ℕ → Type 0
  LocalsMake words all semicolon = Makes (walk_of_locals g.untagged g.objects all) (made_by_declarators words all semicolon)

  -- where none of them lives as long as the program
  locals_make : (words : Storage) → ((at : ℕ) → place_if_static words at ≡ []) → (all : List Trees.InitDeclarator) (semicolon : ℕ)
      → LocalsMake words all semicolon
  locals_make words n [] semicolon = refl
  locals_make words n (d ∷ more) semicolon =
      let v = walk_of_initial g.untagged g.objects d.value in
      join (walk_of_declared g.untagged g.objects d ++ v) (walk_of_locals g.untagged g.objects more)
      (place_if_static words (first_declarator d.declarator semicolon) ++ literals_of_value d.value) (made_by_declarators words more semicolon)
      (join (walk_of_declared g.untagged g.objects d) v (place_if_static words (first_declarator d.declarator semicolon)) (literals_of_value d.value)
      (same (walk_of_declared g.untagged g.objects d) (place_if_static words (first_declarator d.declarator semicolon))
      (declared_made d ∙ sym (n (first_declarator d.declarator semicolon)))) (initial_makes d.value))
      (locals_make words n more semicolon)

-- a declarator with a name begins at the same token, whatever stands behind
pub begins_same : (d : Trees.Declarator) (x : Spelling) → declared_name d ≡ Some x → (m n : ℕ) → first_declarator d m ≡ first_declarator d n
begins_same Trees.nothing x e m n = cc
begins_same (Trees.named y) x e m n = refl
begins_same (Trees.pointer at consts d) x e m n = refl
begins_same (Trees.enclosed left d right) x e m n = refl
begins_same (Trees.array d left length right) x e m n = refl
begins_same (Trees.function d left all right) x e m n = refl

module _ (g : FileScope) (types : List (List ℕ)) where
  abbrev Own : Trees.Declaration → List Event
  Own d = own g d

  statics_make : (lead : Bool) (all : List Trees.InitDeclarator) → AreInitDeclarators types lead all → (semicolon : ℕ)
      → Makes g (walk_of_statics g all) (made_by_declarators is_static all semicolon)
  statics_make lead [] w semicolon = refl
  statics_make lead (d ∷ more) w semicolon =
      let x = name_there d.declarator w.2 in
      let object = object_at d (declared_name d.declarator) in
      let own = walk_of_declared g.untagged g.objects d in
      let v = walk_of_initial g.untagged g.objects d.value in
      let place = first_declarator d.declarator semicolon in
      let at_place : made_at object ≡ place ∷ [] =
      ap (λ o. made_at (object_at d o)) x.1 ∙ ap (λ p. p ∷ []) (begins_same d.declarator x.0 x.1 x.0.from semicolon) in
      let first : Makes g (object ++ own) (place ∷ []) =
      same g (object ++ own) (place ∷ []) (joined object own (place ∷ []) [] at_place (declared_made g d)) in
      join g ((object ++ own) ++ v) (walk_of_statics g more) ((place ∷ []) ++ literals_of_value d.value) (made_by_declarators is_static more semicolon)
      (join g (object ++ own) v (place ∷ []) (literals_of_value d.value) first (initial_makes g d.value)) (statics_make false more w.4 semicolon)

  by_storage : (words : Storage) (all : List Trees.InitDeclarator) → AreInitDeclarators types true all → (semicolon : ℕ)
      → Makes g (walk_by_storage g (λ all. walk_of_statics g all) words all) (made_by_declarators words all semicolon)
  by_storage is_static all w semicolon = statics_make true all w semicolon
  by_storage no_storage all w semicolon = locals_make g no_storage (λ at. refl) all semicolon
  by_storage a_typedef all w semicolon = locals_make g a_typedef (λ at. refl) all semicolon
  by_storage is_extern all w semicolon = locals_make g is_extern (λ at. refl) all semicolon
  by_storage is_auto all w semicolon = locals_make g is_auto (λ at. refl) all semicolon
  by_storage is_register all w semicolon = locals_make g is_register (λ at. refl) all semicolon
  by_storage several all w semicolon = locals_make g several (λ at. refl) all semicolon

  declaration_makes : (d : Trees.Declaration) → IsDeclaration types d → Makes g (Own d) (made_by_declaration d)
  declaration_makes d w =
      behind g (walk_of_specifiers g.untagged d.specs) (walk_by_storage g (λ all. walk_of_statics g all) (storage_of d.specs) d.all)
      (made_by_declaration d) (specifiers_made g.untagged d.specs) (by_storage (storage_of d.specs) d.all w.1 d.semicolon)

  -- ---- statements

  option_makes : (a : Option Trees.Expression) → Makes g (walk_of_option g.untagged Own a) (literals_if_any a)
  option_makes None = refl
  option_makes (Some a) = whole g a

  start_makes : (t : Trees.ForStart) → IsForStart types t → Makes g (walk_of_start g.untagged Own t) (made_by_start t)
  start_makes (Trees.starts_with a semicolon) w = option_makes a
  start_makes (Trees.declares d) w = declaration_makes d w.1

  labels_made : (all : List Trees.Label) → made_at (walk_of_labels g.untagged Own all) ≡ []
  labels_made [] = refl
  labels_made (Trees.case at a colon ∷ more) = none_made (seen false value_alone (walk g.untagged a)) _ (nothing_made (walk g.untagged a)) (labels_made more)
  labels_made (Trees.default at colon ∷ more) = labels_made more

  mutual
    statement_makes : (t : Trees.Statement) → IsStatement types t → Makes g (walk_of_statement g.untagged Own t) (made_by t)
    statement_makes (Trees.block left items right) w = items_make items w
    statement_makes (Trees.evaluate a semicolon) w = option_makes a
    statement_makes (Trees.when at left a right one) w =
        join g (walk g.untagged a) (walk_of_statement g.untagged Own one) (literals a) (made_by one) (whole g a) (statement_makes one w.1)
    statement_makes (Trees.choose at left a right one middle other) w =
        join g (walk g.untagged a ++ walk_of_statement g.untagged Own one) (walk_of_statement g.untagged Own other) (literals a ++ made_by one)
        (made_by other)
        (join g (walk g.untagged a) (walk_of_statement g.untagged Own one) (literals a) (made_by one) (whole g a) (statement_makes one w.2))
        (statement_makes other w.3)
    statement_makes (Trees.while at left a right one) w =
        join g (walk g.untagged a) (walk_of_statement g.untagged Own one) (literals a) (made_by one) (whole g a) (statement_makes one w.1)
    statement_makes (Trees.do_while at one until left a right semicolon) w =
        join g (walk_of_statement g.untagged Own one) (walk g.untagged a) (made_by one) (literals a) (statement_makes one w.0) (whole g a)
    statement_makes (Trees.for at left start test semicolon step right one) w =
        let s = walk_of_start g.untagged Own start in
        let t = walk_of_option g.untagged Own test in
        let e = walk_of_option g.untagged Own step in
        join g ((s ++ t) ++ e) (walk_of_statement g.untagged Own one) ((made_by_start start ++ literals_if_any test) ++ literals_if_any step) (made_by one)
        (join g (s ++ t) e (made_by_start start ++ literals_if_any test) (literals_if_any step)
        (join g s t (made_by_start start) (literals_if_any test) (start_makes start w.0) (option_makes test)) (option_makes step))
        (statement_makes one w.3)
    statement_makes (Trees.switch at left a right begin items end) w =
        join g (walk g.untagged a) (walk_of_switch_items g.untagged Own items) (literals a) (made_by_switch_items items) (whole g a)
        (switch_items_make items w.1)
    statement_makes (Trees.break at semicolon) w = refl
    statement_makes (Trees.continue at semicolon) w = refl
    statement_makes (Trees.return at a semicolon) w = option_makes a

    item_makes : (t : Trees.BlockItem) → IsBlockItem types t → Makes g (walk_of_item g.untagged Own t) (made_by_item t)
    item_makes (Trees.local d) w = declaration_makes d w
    item_makes (Trees.statement a) w = statement_makes a w

    items_make : (t : Trees.BlockItems) → AreBlockItems types t → Makes g (walk_of_items g.untagged Own t) (made_by_items t)
    items_make Trees.no_block_items w = refl
    items_make (Trees.and_block_item e more) w =
        join g (walk_of_item g.untagged Own e) (walk_of_items g.untagged Own more) (made_by_item e) (made_by_items more) (item_makes e w.0)
        (items_make more w.1)

    switch_item_makes : (t : Trees.SwitchItem) → IsSwitchItem types t → Makes g (walk_of_switch_item g.untagged Own t) (made_by_switch_item t)
    switch_item_makes (Trees.local_switch_item d) w = declaration_makes d w.1
    switch_item_makes (Trees.labelled labels a) w =
        behind g (walk_of_labels g.untagged Own labels) (walk_of_statement g.untagged Own a) (made_by a) (labels_made labels) (statement_makes a w.1)

    switch_items_make : (t : Trees.SwitchItems) → AreSwitchItems types t → Makes g (walk_of_switch_items g.untagged Own t) (made_by_switch_items t)
    switch_items_make Trees.no_switch_items w = refl
    switch_items_make (Trees.and_switch_item e more) w =
        join g (walk_of_switch_item g.untagged Own e) (walk_of_switch_items g.untagged Own more) (made_by_switch_item e) (made_by_switch_items more)
        (switch_item_makes e w.0) (switch_items_make more w.1)

  pub body_makes : (items : Trees.BlockItems) → AreBlockItems types items → Makes g (seen true in_full (walk_of_items g.untagged Own items)) (made_by_items items)
  body_makes items w =
      subst (λ z. Kept (BeginsNone g) z (made_by_items items)) (sym (made_inside (walk_of_items g.untagged Own items))) (items_make items w)
