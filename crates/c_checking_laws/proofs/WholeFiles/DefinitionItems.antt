-- Definitions of functions at file scope: what each adds to the file, and that it stands in the whole file (C99 6.9.1).
use Rattle.std.proofs.Common.{◌≡◌, ◌≢◌, ℕ, ◌+◌, ◌≤◌, ◌<◌, refl, sym, ap, ◌∙◌, subst, List, [], ◌∷◌, ◌++◌, length}
use Rattle.std.proofs.Common.{append-nil, append_assoc, arith, inl, inr}
use Rattle.std.specs.Prelude.{◌⊎◌, map, Option, Some, None, Ok, slice_get}
use Rattle.c_types.specs.Types.{CType, CTypes, void, integer, pointer, array, function, structure}
use Rattle.c_ast.specs.declared.words.Spelling.{Spelling}
use Rattle.c_ast.specs.Trees
use Rattle.c_ast.specs.Places.{first_specifiers, first_declarator}
use Rattle.c_ast.specs.WellFormed.{AreSpecifiers, IsDeclarator}
use Rattle.c_typed.specs.declared.program.MentionKind.TheVariants.{Named}
use Rattle.c_erasure.specs.Declarators.{declared_name, Shape, closed, open_array}
use Rattle.c_erasure.specs.Files.{parameters_of, IsDefined}
use Rattle.c_erasure.specs.Literals.{made_by_items}
use Rattle.c_erasure.specs.Marks.{Mark, a_name, marks_of_specifiers, marks_of_declarator, ends_in, scope_beginnings}
use Rattle.c_erasure.specs.MentionPlaces.{spoken_of_specifiers, spoken_of_declarator, spoken_by_items}
use Rattle.c_erasure.specs.Scopes.{FileScope, Bound, AnObject, AFunction, defines, a_function, at_file_scope}
use Rattle.c_erasure.specs.Specifiers.{Storage, storage_of, no_storage, a_typedef, is_extern, is_static, is_auto, is_register, several}
use Rattle.c_erasure.specs.Checking.Answers.{Answer}
use Rattle.c_erasure.specs.Checking.Declaring.{base_kind, with_mention, mentions_in, derived}
use Rattle.c_erasure.specs.Checking.Files.{function_storage, Received, received_by, define_function, define_shape, definition_named, function_definition}
use Rattle.c_erasure.specs.Checking.Finding.{base_type, one_of, derivations}
use Rattle.c_checking_laws.proofs.Adding.{mention_before}
use Rattle.c_checking_laws.proofs.Agreement as Agreement
use Rattle.c_checking_laws.proofs.Agreement.{Ready, beginnings_append}
use Rattle.c_checking_laws.proofs.Declared.{mentioned}
use Rattle.c_checking_laws.proofs.Extends.{further, behind}
use Rattle.c_checking_laws.proofs.Growth.{grow_base, grow_steps}
use Rattle.c_checking_laws.proofs.InRange.{IsDeclaratorInRange, AreSpecifiersInRange}
use Rattle.c_checking_laws.proofs.Results.{bound_ok}
use Rattle.c_checking_laws.proofs.Sound.{sound_base, sound_steps}
use Rattle.c_checking_laws.proofs.WholeFiles.Declarations.{first_named}
use Rattle.c_checking_laws.proofs.WholeFiles.FileDefinitions.{definition_stands}
use Rattle.c_checking_laws.proofs.WholeFiles.FileScopes.{MayDeclare}
use Rattle.c_checking_laws.proofs.WholeFiles.Keeping.{keep_base, keep_steps}
use Rattle.c_checking_laws.proofs.WholeFiles.Kept.{keeps_mention}
use Rattle.c_checking_laws.proofs.WholeFiles.StatementLaws.{AreItemsInRange}
use Rattle.c_checking_laws.specs.TextOrder.TextOrder.{Rising, place_of_name}
use Rattle.c_checking_laws.proofs.WholeFiles.Known.{IsKnown, none_new}
use Rattle.c_checking_laws.proofs.WholeFiles.Rises.{passed, below_then}
use Rattle.c_checking_laws.proofs.WholeFiles.Stepping.{Stepped, stepped_then, found_step}
use Rattle.c_checking_laws.proofs.WholeFiles.FunctionDefined.{function_defined_step}
use Rattle.c_checking_laws.proofs.WholeFiles.FirstNames.{first_is}

no_firsts : (more : List AnObject) → map (λ o. o.first) more ≡ [] → more ≡ []
no_firsts [] e = refl
no_firsts (o ∷ more) e = cc

proper : (n : ℕ) (t : CType) (v : ℕ) → a_function n t ≢ Rattle.c_erasure.specs.Scopes.enumerator v
proper n t v e = cc

no_name : (f : FileScope) (specs : Trees.Specifiers) (base : CType) (d : Trees.Declarator) (left nodes : ℕ) (items : Trees.BlockItems) (g : FileScope)
    → definition_named f specs base d left nodes items None ≡ Ok g → ⊥
no_name f specs base d left nodes items g h = cc

-- the storage classes of functions
storage_is : {A : Type 0} (at : ℕ) (words : Storage) (r : Answer A) (z : A) → function_storage at words r ≡ Ok z
    → (r ≡ Ok z) × MayDeclare words × ((words ≡ no_storage) ⊎ (words ≡ is_extern) ⊎ (words ≡ is_static))
storage_is at no_storage r z h = (h, tt, inl refl)
storage_is at is_extern r z h = (h, tt, inr (inl refl))
storage_is at is_static r z h = (h, tt, inr (inr refl))
storage_is at a_typedef r z h = cc
storage_is at is_auto r z h = cc
storage_is at is_register r z h = cc
storage_is at several r z h = cc

-- a definition of a function type, whose parameters have names
pub record IsAFunction (f : FileScope) (words : Storage) (x : Spelling) (before at place left nodes : ℕ) (shape : Shape) (list : Option Trees.ParameterList)
    (items : Trees.BlockItems) (g : FileScope) : Type 0 where
  pub result : CType
  pub types : CTypes
  pub shape_is : shape ≡ closed (function result types)
  pub received : Received
  pub received_is : received_by list types ≡ Some received
  pub answer : define_function (with_mention (at_file_scope f) before Named (function result types) place f) words x at place left nodes result types items
      (Some received) ≡ Ok g

function_is : (f : FileScope) (words : Storage) (x : Spelling) (before at place left nodes : ℕ) (shape : Shape) (list : Option Trees.ParameterList)
    (items : Trees.BlockItems) (g : FileScope) → define_shape f words x before at place left nodes shape list items ≡ Ok g
    → IsAFunction f words x before at place left nodes shape list items g
function_is f words x before at place left nodes (closed (function result types)) list items g h = by_parameters (received_by list types) refl h
  where
    by_parameters : (o : Option Received) → received_by list types ≡ o
        → define_function (with_mention (at_file_scope f) before Named (function result types) place f) words x at place left nodes result types items o ≡ Ok g
        → IsAFunction f words x before at place left nodes (closed (function result types)) list items g
    by_parameters None e h = cc
    by_parameters (Some p) e h = record { result = result; types = types; shape_is = refl; received = p; received_is = e; answer = h }
function_is f words x before at place left nodes (open_array t) list items g h = cc
function_is f words x before at place left nodes (closed void) list items g h = cc
function_is f words x before at place left nodes (closed (integer kind)) list items g h = cc
function_is f words x before at place left nodes (closed (pointer t)) list items g h = cc
function_is f words x before at place left nodes (closed (array t n)) list items g h = cc
function_is f words x before at place left nodes (closed (structure r)) list items g h = cc

module _ (untagged : ℕ → List ℕ) (names : List (List ℕ)) (nodes_at : ℕ → ℕ) where
  -- what is asked of a definition
  pub record MayDefineIn (f : FileScope) (specs : Trees.Specifiers) (d : Trees.Declarator) (left : ℕ) (items : Trees.BlockItems) (nodes at in_scope : ℕ)
      : Type 0 where
    pub same : f.untagged ≡ untagged
    pub specifiers_formed : AreSpecifiers names specs
    pub formed : IsDeclarator names d
    pub specifiers_in_range : AreSpecifiersInRange specs
    pub in_range : IsDeclaratorInRange d
    pub items_in_range : AreItemsInRange f.ends
        (length f.records + length (ends_in (marks_of_specifiers untagged specs)) + length (ends_in (marks_of_declarator untagged d))) items
    pub ready : Ready (at_file_scope f) (marks_of_specifiers untagged specs ++ (marks_of_declarator untagged d ++ a_name left ∷ []))
    pub counted : nodes ≡ nodes_at (first_declarator d left)
    pub place : at ≤ first_declarator d left
    pub objects_before : (n : ℕ) (o : AnObject) → slice_get f.objects n ≡ Some o → o.first < at
    pub functions_before : (n : ℕ) (g : AFunction) → slice_get f.functions n ≡ Some g → g.first < at
    pub in_order : Rising in_scope (scope_beginnings (marks_of_specifiers untagged specs) ++ place_of_name (declared_name d)
        ++ scope_beginnings (marks_of_declarator untagged d ++ a_name left ∷ []))
    pub begun : (k : ℕ) (b : Bound) → slice_get f.names k ≡ Some b → b.from < in_scope

  abbrev Definition : FileScope → Trees.Specifiers → Trees.Declarator → ℕ → Trees.BlockItems → (nodes : ℕ) → FileScope → Type 0
  Definition f specs d left items nodes g = Stepped nodes_at (marks_of_specifiers untagged specs ++ (marks_of_declarator untagged d ++ a_name left ∷ []))
      (spoken_of_specifiers specs ++ (first_declarator d left ∷ spoken_of_declarator d ++ spoken_by_items items))
      (first_declarator d left ∷ made_by_items items) (made_by_items items) f (λ h. IsDefined h specs d left items nodes) g

  module _ (before : List ℕ) (specs : Trees.Specifiers) (d : Trees.Declarator) (left : ℕ) (items : Trees.BlockItems) (nodes at in_scope : ℕ) (f : FileScope)
      (may : MayDefineIn f specs d left items nodes at in_scope) (k : IsKnown nodes_at before none_new none_new f) where
    abbrev u : List Mark
    u = marks_of_specifiers untagged specs

    abbrev w : List Mark
    w = marks_of_declarator untagged d

    abbrev from : ℕ
    from = first_specifiers specs

    -- the declarator and the body, behind the specifiers
    named_step : MayDeclare (storage_of specs) → (storage_of specs ≡ no_storage) ⊎ (storage_of specs ≡ is_extern) ⊎ (storage_of specs ≡ is_static)
        → (x : Spelling) → declared_name d ≡ Some x → (b : CType × FileScope)
        → base_type (base_kind specs) from f (one_of specs (at_file_scope f)) ≡ Ok b → (g : FileScope)
        → definition_named b.1 specs b.0 d left nodes items (Some x) ≡ Ok g → Definition f specs d left items nodes g
    named_step words which x name b is_base g h =
        let s = at_file_scope f in
        let v = sound_base untagged specs s may.specifiers_in_range (Agreement.left u (w ++ a_name left ∷ []) may.ready) from b is_base in
        let keeps = keep_base untagged names specs s may.same (λ i. may.specifiers_formed) from b is_base in
        let adds = grow_base untagged specs s may.same from b is_base in
        let first = found_step nodes_at f b.1 (λ h. Unit {0}) v.grew keeps adds (λ h e. tt) in
        let k1 = subst (λ made. IsKnown nodes_at made none_new none_new b.1) (append-nil before) (first.known before k) in
        let same = v.grew.extends.untagged ∙ may.same in
        let ready = Agreement.right u (w ++ a_name left ∷ []) may.ready v.grew in
        let s1 = at_file_scope b.1 in
        let steps = bound_ok (derivations d s1) _ g h in
        let shape = bound_ok (derived steps.0.1.records steps.0.0 b.0) _ g steps.2 in
        let place = first_declarator d x.from in
        let a = function_is steps.0.1 (storage_of specs) x (mentions_in b.1) from place left nodes shape.0 (parameters_of d) items g shape.2 in
        let t = function a.result a.types in
        let own = sound_steps untagged d s1 may.in_range (Agreement.left w (a_name left ∷ []) ready) steps.0 steps.1 in
        let said = with_mention s1 (mentions_in b.1) Named t place steps.0.1 in
        let grown = mentioned s1 (mentions_in b.1) Named t place own.grew in
        let keeps2 = keeps_mention s1 (mentions_in b.1) Named t place (keep_steps untagged names d s1 same (λ i. may.formed) steps.0 steps.1) in
        let adds2 = mention_before s1 Named t place (grow_steps untagged d s1 same steps.0 steps.1) in
        let second = found_step nodes_at b.1 said (λ h. Unit {0}) grown keeps2 adds2 (λ h e. tt) in
        let k2 = subst (λ made. IsKnown nodes_at made none_new none_new said) (append-nil before) (second.known before k1) in
        let there = first_named d x name left x.from in
        let late : at ≤ place = let p = may.place in omega (arith, p, there) in
        let objects : said.objects ≡ f.objects = no_objects adds2.objects.0 adds2.objects.1 adds2.objects.2 ∙ no_objects adds.objects.0 adds.objects.1 adds.objects.2 in
        let functions : said.functions ≡ f.functions = adds2.functions ∙ adds.functions in
        let c1 = v.grew.counted in
        let c2 = grown.counted in
        let counts : length f.records + length (ends_in u) + length (ends_in w) ≡ length said.records = omega (arith, c1, c2) in
        let ends : said.ends ≡ f.ends = grown.extends.ends ∙ v.grew.extends.ends in
        let third = function_defined_step untagged nodes_at before said (storage_of specs) x from place left nodes a.result a.types (parameters_of d) items a.received
        (record {
          may = words;
          counted = may.counted ∙ ap nodes_at there;
          objects_before = λ n o e. let b = may.objects_before n o (subst (λ all. slice_get all n ≡ Some o) objects e) in omega (arith, b, late);
          functions_before = λ n o e. let b = may.functions_before n o (subst (λ all. slice_get all n ≡ Some o) functions e) in omega (arith, b, late);
        }) (grown.extends.untagged ∙ same) a.received_is
        (subst (λ n. AreItemsInRange said.ends n items) counts
        (subst (λ ends. AreItemsInRange ends (length f.records + length (ends_in u) + length (ends_in w)) items) (sym ends) may.items_in_range)) k2 g a.answer in
        let order = passed in_scope (scope_beginnings u) (place_of_name (declared_name d) ++ scope_beginnings (w ++ a_name left ∷ []))
        (subst (Rising in_scope) (append_assoc (scope_beginnings u) (place_of_name (declared_name d)) (scope_beginnings (w ++ a_name left ∷ [])))
        may.in_order) in
        let rest = subst (λ o. Rising order.to (place_of_name o ++ scope_beginnings (w ++ a_name left ∷ []))) name order.rest in
        let less = name_less (x.from + 1) left rest.1 in
        let begun = below_then (λ b. b.from) f.names b.1.names (scope_beginnings u) in_scope order.to first.names order.later may.begun order.below in
        let near = rest.0 in
        let m = keeps2.names in
        let both = stepped_then nodes_at b.1 said g second third.1 (λ i c e a q. q) in
        let whole = stepped_then nodes_at f b.1 g first both
        (λ i c e y q. definition_stands untagged f specs d x a.result a.types b steps.0 left nodes items name which v may.in_range
        (Agreement.left w (a_name left ∷ []) ready) steps.1 (shape.1 ∙ ap Ok a.shape_is) a.received g third.0 i c q
        (first_is b.1 said g i x left [] _ defines (a_function q.number t) e c.extends third.1.names m.0 m.1 m.2
        (further third.1.continues.extends c.extends)
        (λ j n e. let l = begun j n e in omega (arith, l, near)) (omega (arith, less)) q.binds (proper q.number t))) in
        subst (λ p. Stepped nodes_at (u ++ (w ++ a_name left ∷ []))
        (spoken_of_specifiers specs ++ (p ∷ spoken_of_declarator d ++ spoken_by_items items))
        (p ∷ made_by_items items) (made_by_items items) f (λ h. IsDefined h specs d left items nodes) g) (sym there) whole
      where
        no_objects : {xs ys : List AnObject} (more : List AnObject) → ys ≡ xs ++ more → map (λ o. o.first) more ≡ [] → ys ≡ xs
        no_objects {xs} more e n = e ∙ ap (λ z. xs ++ z) (no_firsts more n) ∙ append-nil xs

        name_less : (at left : ℕ) → Rising at (scope_beginnings (w ++ a_name left ∷ [])) → at ≤ left
        name_less at left r =
            let p = passed at (scope_beginnings (w ++ a_name left ∷ [])) [] (subst (Rising at) (sym (append-nil _)) r) in
            p.from (length (scope_beginnings w) + 0) left
            (subst (λ all. slice_get all (length (scope_beginnings w) + 0) ≡ Some left) (sym (beginnings_append w (a_name left ∷ [])))
            (behind (scope_beginnings w) (left ∷ []) 0 (length (scope_beginnings w) + 0) left refl refl))

    pub definition_step : (g : FileScope) → function_definition specs d left items f nodes ≡ Ok g → Definition f specs d left items nodes g
    definition_step g h =
        let w = storage_is from (storage_of specs) _ g h in
        let b = bound_ok (base_type (base_kind specs) from f (one_of specs (at_file_scope f))) _ g w.0 in
        by_name (declared_name d) refl b.0 b.1 w.1 w.2 b.2
      where
        by_name : (o : Option Spelling) → declared_name d ≡ o → (b : CType × FileScope)
            → base_type (base_kind specs) from f (one_of specs (at_file_scope f)) ≡ Ok b → MayDeclare (storage_of specs)
            → (storage_of specs ≡ no_storage) ⊎ (storage_of specs ≡ is_extern) ⊎ (storage_of specs ≡ is_static)
            → definition_named b.1 specs b.0 d left nodes items o ≡ Ok g → Definition f specs d left items nodes g
        by_name None name b is_base words which h = absurd (no_name b.1 specs b.0 d left nodes items g h)
        by_name (Some x) name b is_base words which h = named_step words which x name b is_base g h
