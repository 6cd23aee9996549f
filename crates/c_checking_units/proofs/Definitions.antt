-- Definitions of functions: what they define is what is found (C99 6.9.1).
use Rattle.std.proofs.Common.{◌≡◌, ℕ, Bool, true, false, refl, sym, ap, ◌∙◌, subst, cond, List, [], ◌∷◌, length}
use Rattle.std.proofs.Common.{arith, inl, inr}
use Rattle.std.specs.Prelude.{◌⊎◌, Option, Some, None, Ok, slice_get}
use Rattle.c_types.specs.Types.{CType, CTypes, pointer, array, function}
use Rattle.c_ast.specs.declared.words.Spelling.{Spelling}
use Rattle.c_ast.specs.Places.{first_specifiers, first_declarator}
use Rattle.c_ast.specs.Trees
use Rattle.c_ast.specs.WellFormed.{AreSpecifiers, IsDeclarator}
use Rattle.c_typed.specs.declared.program.MentionKind.TheVariants.{Named}
use Rattle.c_erasure.specs.Declarators.{declared_name, is_name, Shape, closed, parameter_type}
use Rattle.c_erasure.specs.Erasure.{with_parameter_if_named}
use Rattle.c_erasure.specs.Erasure.{IsBound, AreListed, AreParameters, Declares}
use Rattle.c_erasure.specs.Files.{is_first, bound, parameters_of, HasParameters, IsMainType, IsDefined}
use Rattle.c_erasure.specs.Scopes.{ALocal, Bound, FileScope, Scope, a_function, defines, inside, in_full, at_file_scope}
use Rattle.c_erasure.specs.Specifiers.{Storage, no_storage, is_extern, is_static, storage_of}
use Rattle.c_erasure.specs.Checking.Answers.{Answer, ◌>>=◌}
use Rattle.c_erasure.specs.Checking.Declaring.{Derivation, declared_among, with_bound, with_mention, mentions_in, base_kind, derived}
use Rattle.c_erasure.specs.Checking.Files.{library_named, own_name, main_function, defined_among, once, function_of, function_storage, Received, received_by}
use Rattle.c_erasure.specs.Checking.Files.{function_body, define_function, define_shape, definition_named, function_definition}
use Rattle.c_erasure.specs.Checking.Finding.{base_type, one_of, derivations}
use Rattle.c_checking_laws.proofs.CompleteBodies.{walk_of_declaration}
use Rattle.c_checking_laws.proofs.CompletePart.{Lists, part}
use Rattle.c_checking_laws.proofs.CompleteStatements.{walk_of_items}
use Rattle.c_checking_laws.proofs.CompleteWalk.{Event, seen, a_name, walk_of_specifiers}
use Rattle.c_checking_laws.proofs.WholeFiles.CompleteBodies.{AreScalar, parameters_complete}
use Rattle.c_checking_laws.proofs.WholeFiles.CompleteStaticLists.{walk_of_statics}
use Rattle.c_checking_laws.proofs.WholeFiles.FileScopes.{MayDeclare}
use Rattle.c_checking_units.proofs.Declarations.{base_found}
use Rattle.c_checking_units.proofs.Filed.{IsWholeFile, naming, next_bound, naming_filed}
use Rattle.c_checking_units.proofs.FunctionBodies.{function_body_found}
use Rattle.c_checking_units.proofs.Functions.{main_fits, IsOwnFunction, own_found, named_ready}
use Rattle.c_checking_units.proofs.Names.{own_back}
use Rattle.c_checking_units.proofs.ObjectDeclarators.{FoundFile}
use Rattle.c_checking_units.proofs.Objects.{none_defined}
use Rattle.c_checking_units.proofs.Prepared.{steps_of_declarator, skip_nothing, prepared}
use Rattle.c_checking_units.proofs.Steps.{Step, events, an_own, a_body, entity_of, At, IsReady}

-- ---- parameters are numbers and pointers

abbrev AreScalarIn : Trees.Parameters → Type 0
AreScalarIn all = (s : Scope) (types : CTypes) → AreListed s all types → AreScalar types

scalar_none : AreScalarIn Trees.no_parameters
scalar_none s types h = subst AreScalar (sym h) tt

scalar_one : (comma : Option ℕ) (specs : Trees.Specifiers) (d : Trees.Declarator) (more : Trees.Parameters) → AreScalarIn more
    → AreScalarIn (Trees.and_parameter comma specs d more)
scalar_one comma specs d more i s types h =
    subst AreScalar (sym h.3) (h.7, i (with_parameter_if_named s (declared_name d) (parameter_type h.1)) h.2 h.10)

scalar_listed : (all : Trees.Parameters) → AreScalarIn all
scalar_listed Trees.no_parameters = scalar_none
scalar_listed (Trees.and_parameter comma specs d more) = scalar_one comma specs d more (scalar_listed more)

scalar_parameters : (s : Scope) (all : Trees.ParameterList) (types : CTypes) → AreParameters s all types → AreScalar types
scalar_parameters s (Trees.void_alone at) types h = subst AreScalar (sym h) tt
scalar_parameters s (Trees.listed all) types h = scalar_listed all s types h

name_shape : (s : Scope) (d : Trees.Declarator) (t : CType) (shape : Shape) → is_name d ≡ true → Declares s d t shape → shape ≡ closed t
name_shape s Trees.nothing t shape n h = h
name_shape s (Trees.named x) t shape n h = h
name_shape s (Trees.enclosed left d right) t shape n h = name_shape s d t shape n h
name_shape s (Trees.pointer at consts d) t shape n h = cc
name_shape s (Trees.array d left length right) t shape n h = cc
name_shape s (Trees.function d left all right) t shape n h = cc

abbrev IsScalarIn : Trees.Declarator → Type 0
IsScalarIn d = (s : Scope) (t result : CType) (types : CTypes) (list : Trees.ParameterList) → parameters_of d ≡ Some list
    → Declares s d t (closed (function result types)) → AreScalar types

scalar_pointer : (at : ℕ) (consts : List ℕ) (d : Trees.Declarator) → IsScalarIn d → IsScalarIn (Trees.pointer at consts d)
scalar_pointer at consts d i s t result types list e h = i s (pointer t) result types list e h.1

scalar_array : (d : Trees.Declarator) (left : ℕ) (a : Trees.Expression) (right : ℕ) → IsScalarIn d
    → IsScalarIn (Trees.array d left (Trees.some_expression a) right)
scalar_array d left a right i s t result types list e h = i s (array t h.2) result types list e h.8

scalar_open : (d : Trees.Declarator) (left right : ℕ) → IsScalarIn (Trees.array d left Trees.no_expression right)
scalar_open d left right s t result types list e h = let no = h.2 in cc

scalar_function : (d : Trees.Declarator) (left : ℕ) (all : Trees.ParameterList) (right : ℕ) → IsScalarIn d → IsScalarIn (Trees.function d left all right)
scalar_function d left all right i s t result types list e h = by_name (is_name d) refl e
  where
    by_name : (b : Bool) → is_name d ≡ b → cond b (Some all) (parameters_of d) ≡ Some list → AreScalar types
    by_name true n e =
        let z = name_shape s d (function t h.0) (closed (function result types)) n h.4 in
        let same : types ≡ h.0 = cc in
        subst AreScalar (sym same) (scalar_parameters (inside s) all h.0 h.1)
    by_name false n e = i s (function t h.0) result types list e h.4

scalar_of : (d : Trees.Declarator) → IsScalarIn d
scalar_of Trees.nothing = λ s t result types list e h. cc
scalar_of (Trees.named x) = λ s t result types list e h. cc
scalar_of (Trees.pointer at consts d) = scalar_pointer at consts d (scalar_of d)
scalar_of (Trees.enclosed left d right) = scalar_of d
scalar_of (Trees.array d left (Trees.some_expression a) right) = scalar_array d left a right (scalar_of d)
scalar_of (Trees.array d left Trees.no_expression right) = scalar_open d left right
scalar_of (Trees.function d left all right) = scalar_function d left all right (scalar_of d)

some_list : (o : Option Trees.ParameterList) (types : CTypes) (locals : List ALocal) (bounds : List Bound) → HasParameters o types locals bounds
    → (list : Trees.ParameterList) × (o ≡ Some list)
some_list None types locals bounds h = absurd h
some_list (Some list) types locals bounds h = (list, refl)

-- ---- storage classes

storage_fits : {A : Type 0} (at : ℕ) (words : Storage) (r : Answer A) → (words ≡ no_storage) ⊎ (words ≡ is_extern) ⊎ (words ≡ is_static)
    → function_storage at words r ≡ r
storage_fits at words r (inl e) = ap (λ words. function_storage at words r) e
storage_fits at words r (inr (inl e)) = ap (λ words. function_storage at words r) e
storage_fits at words r (inr (inr e)) = ap (λ words. function_storage at words r) e

storage_may : (words : Storage) → (words ≡ no_storage) ⊎ (words ≡ is_extern) ⊎ (words ≡ is_static) → MayDeclare words
storage_may words (inl e) = subst MayDeclare (sym e) tt
storage_may words (inr (inl e)) = subst MayDeclare (sym e) tt
storage_may words (inr (inr e)) = subst MayDeclare (sym e) tt

abbrev pub alone : Trees.Declarator → Trees.InitDeclarator
alone d = record { comma = None; declarator = d; value = None }

module _ (g : FileScope) (w : IsWholeFile g) where
  abbrev pub body_events : Trees.BlockItems → List Event
  body_events items = seen true in_full (walk_of_items g.untagged (λ d. walk_of_declaration g (λ all. walk_of_statics g all) d) items)

  abbrev pub steps_of_body : Trees.BlockItems → List Step → List Step
  steps_of_body items rest = a_body items ∷ events (body_events items) ∷ rest

  abbrev pub steps_if_defined : Option Spelling → Trees.Declarator → (left : ℕ) → Trees.BlockItems → List Step → List Step
  steps_if_defined None d left items rest = rest
  steps_if_defined (Some x) d left items rest = steps_of_declarator g (alone d) x left (steps_of_body items rest)

  abbrev pub steps_of_definition : Trees.Specifiers → Trees.Declarator → (left : ℕ) → Trees.BlockItems → List Step → List Step
  steps_of_definition specs d left items rest =
      events (At (walk_of_specifiers g.untagged specs)) ∷ steps_if_defined (declared_name d) d left items rest

  -- ---- one answer after the other

  shape_joined : (bl mid m : Lists) (specs : Trees.Specifiers) (d : Trees.Declarator) (left nodes : ℕ) (items : Trees.BlockItems) (x : Spelling)
      (r : Answer (CType × FileScope)) (base result : CType) (types : CTypes) (steps : List Derivation) (pr : Received)
      → r ≡ Ok (base, part g bl) → declared_name d ≡ Some x → derivations d (at_file_scope (part g bl)) ≡ Ok (steps, part g mid)
      → derived mid.records steps base ≡ Ok (closed (function result types))
      → with_mention (at_file_scope (part g mid)) (mentions_in (part g bl)) Named (function result types) (first_declarator d x.from) (part g mid) ≡ part g m
      → received_by (parameters_of d) types ≡ Some pr
      → (r >>= λ b. definition_named b.1 specs b.0 d left nodes items (declared_name d))
      ≡ define_function (part g m) (storage_of specs) x (first_specifiers specs) (first_declarator d x.from) left nodes result types items (Some pr)
  shape_joined bl mid m specs d left nodes items x r base result types steps pr e0 e1 e2 e3 e4 e5 =
      ap (λ r. r >>= λ b. definition_named b.1 specs b.0 d left nodes items (declared_name d)) e0
      ∙ ap (definition_named (part g bl) specs base d left nodes items) e1
      ∙ ap (λ r. r >>= λ steps. derived steps.1.records steps.0 base >>= λ shape. define_shape steps.1 (storage_of specs) x (mentions_in (part g bl))
      (first_specifiers specs) (first_declarator d x.from) left nodes shape (parameters_of d) items) e2
      ∙ ap (λ r. r >>= λ shape. define_shape (part g mid) (storage_of specs) x (mentions_in (part g bl)) (first_specifiers specs)
      (first_declarator d x.from) left nodes shape (parameters_of d) items) e3
      ∙ ap (λ f. define_function f (storage_of specs) x (first_specifiers specs) (first_declarator d x.from) left nodes result types items
      (received_by (parameters_of d) types)) e4
      ∙ ap (define_function (part g m) (storage_of specs) x (first_specifiers specs) (first_declarator d x.from) left nodes result types items) e5

  function_joined : (m q : Lists) (words : Storage) (x : Spelling) (at place left nodes : ℕ) (result : CType) (types : CTypes) (items : Trees.BlockItems)
      (pr : Received) (n : ℕ) (r : Answer FileScope) → library_named x.text ≡ None → IsMainType x.text (function result types)
      → function_of (part g m) words x place (function result types) nodes (declared_among m.names x.text) ≡ Ok (n, part g q)
      → defined_among m.names x.text ≡ None
      → function_body (part g (naming q (bound x left defines (a_function n (function result types))))) n place nodes result items pr ≡ r
      → define_function (part g m) words x at place left nodes result types items (Some pr) ≡ r
  function_joined m q words x at place left nodes result types items pr n r own main e none b =
      ap (λ l. own_name x.from l (main_function x.text x.from (function result types)
      (function_of (part g m) words x place (function result types) nodes (declared_among m.names x.text) >>= λ n. once x (defined_among m.names x.text)
      (function_body (with_bound n.1 (bound x left defines (a_function n.0 (function result types)))) n.0 place nodes result items pr)))) own
      ∙ main_fits x.text x.from (function result types)
      (function_of (part g m) words x place (function result types) nodes (declared_among m.names x.text) >>= λ n. once x (defined_among m.names x.text)
      (function_body (with_bound n.1 (bound x left defines (a_function n.0 (function result types)))) n.0 place nodes result items pr)) main
      ∙ ap (λ r. r >>= λ n. once x (defined_among m.names x.text)
      (function_body (with_bound n.1 (bound x left defines (a_function n.0 (function result types)))) n.0 place nodes result items pr)) e
      ∙ ap (λ o. once x o (function_body (part g (naming q (bound x left defines (a_function n (function result types))))) n place nodes result items pr))
      none ∙ b

  -- ---- the definition

  pub definition_found : (names : List (List ℕ)) (specs : Trees.Specifiers) (d : Trees.Declarator) (left : ℕ) (items : Trees.BlockItems) (nodes : ℕ)
      (c : Lists) (rest : List Step) → AreSpecifiers names specs → IsDeclarator names d → IsReady g c (steps_of_definition specs d left items rest)
      → IsDefined g specs d left items nodes → FoundFile g w (function_definition specs d left items (part g c) nodes) rest
  definition_found names specs d left items nodes c rest formed_specs formed ready h =
      let base = h.0 in
      let result = h.1 in
      let types = h.2 in
      let x = h.3 in
      let n = h.4 in
      let fn = h.5 in
      let bounds = h.6 in
      let t = function result types in
      let words = storage_of specs in
      let place = first_declarator d x.from in
      let may = storage_may words h.9 in
      let behind = steps_of_body items rest in
      let ready0 = subst (λ o. IsReady g c (events (At (walk_of_specifiers g.untagged specs)) ∷ steps_if_defined o d left items rest)) h.8 ready in
      let b = base_found g w names specs c base (steps_of_declarator g (alone d) x left behind) formed_specs ready0 h.7 in
      let p = prepared g w names b.lists (alone d) x left base (closed t) Named t behind formed b.ready h.10 h.12 in
      let m = p.lists in
      let bd = bound x left defines (a_function n t) in
      let binds : IsBound (at_file_scope g) bd = subst (λ t. IsBound (at_file_scope g) (bound x left defines (a_function n t))) h.15 h.20 in
      let r = subst (λ o. IsReady g m (an_own o (is_first g x) place ∷ events (At (a_name left ∷ [])) ∷ events [] ∷ behind))
      (entity_of g w.whole bd binds) p.ready in
      let next = next_bound g w m bd r.steps.1.0.0 binds in
      let own : IsOwnFunction g w x words place t n (is_first g x) fn =
      record { there = h.13; name = h.14; ty = h.15; linkage = h.18; begins = h.19 } in
      let z = own_found g w m words x place t nodes n fn (is_first g x) (declared_among m.names x.text) bd may r.filed refl
      (p.first bd refl refl binds (λ v e. cc)) r.steps.0 own refl next in
      let q = z.lists in
      let next_there = subst (λ all. slice_get g.names (length all) ≡ Some bd) (sym z.names) next in
      let named = naming_filed g w q z.filed bd next_there (λ k u e. cc)
      (λ k u e. let k_is : n ≡ k = cc in let l = z.there in omega (arith, l, k_is)) in
      let s = naming q bd in
      let ready2 = named_ready g w q bd _ _ _ _ (events [] ∷ behind) named r.steps.1 (sym (ap length z.names)) (sym (ap length z.records))
      (let o = ap length z.objects in omega (arith, o)) (let k = z.functions in omega (arith, k)) in
      let ready3 = skip_nothing g s None behind refl ready2 in
      let list = some_list (parameters_of d) types fn.parameters bounds h.21 in
      let scalar = scalar_of d (at_file_scope g) base result types list.0 list.1 h.10 in
      let y = function_body_found g w result types (parameters_of d) s fn bounds items n place rest ready3 h.21 scalar h.22 h.13 z.there h.17 in
      let main : IsMainType x.text t = λ e. sym h.15 ∙ w.main n fn h.13 (h.14 ∙ e) in
      let pr : Received = record { locals = fn.parameters; bounds = bounds } in
      record {
        lists = y.lists;
        is = storage_fits (first_specifiers specs) words (base_type (base_kind specs) (first_specifiers specs) (part g c)
            (one_of specs (at_file_scope (part g c))) >>= λ b. definition_named b.1 specs b.0 d left nodes items (declared_name d)) h.9
            ∙ shape_joined b.lists p.middle m specs d left nodes items x (base_type (base_kind specs) (first_specifiers specs) (part g c)
            (one_of specs (at_file_scope (part g c)))) base result types p.steps pr b.is h.8 p.is p.shape_is p.said
            (parameters_complete (parameters_of d) types fn.parameters bounds h.21)
            ∙ function_joined m q words x (first_specifiers specs) place left nodes result types items pr n (Ok (part g y.lists)) (own_back x.text h.11) main
            z.is (none_defined g w m bd r.filed.extends next refl)
            (ap (λ k. function_body (part g s) n place k result items pr) (sym h.16) ∙ y.is);
        ready = y.ready;
      }
