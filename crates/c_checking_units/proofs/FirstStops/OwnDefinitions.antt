-- The definition of a function binds a name of the library to no function of the file (own).
use Rattle.std.proofs.Common.{◌≡◌, ℕ, suc, ◌+◌, ◌≤◌, refl, sym, ap, ◌∙◌, subst, List, [], ◌∷◌, ◌++◌, length}
use Rattle.std.proofs.Common.{append-nil, length-append, arith}
use Rattle.std.specs.Prelude.{map, Option, Some, None, Ok, slice_get}
use Rattle.c_types.specs.Types.{CType, CTypes, void, integer, pointer, array, function, structure}
use Rattle.c_ast.specs.declared.words.Spelling.{Spelling}
use Rattle.c_ast.specs.Trees
use Rattle.c_ast.specs.Places.{first_specifiers, first_declarator}
use Rattle.c_typed.specs.declared.program.MentionKind.TheVariants.{Named}
use Rattle.c_erasure.specs.Declarators.{declared_name, Shape, closed, open_array}
use Rattle.c_erasure.specs.Files.{bound, parameters_of}
use Rattle.c_erasure.specs.Marks.{Mark, a_name, marks_of_specifiers, marks_of_declarator, ends_in}
use Rattle.c_erasure.specs.Scopes.{FileScope, AnObject, defines, a_function, at_file_scope}
use Rattle.c_erasure.specs.Specifiers.{Storage, storage_of, no_storage, a_typedef, is_extern, is_static, is_auto, is_register, several}
use Rattle.c_erasure.specs.Checking.Answers.{Answer}
use Rattle.c_erasure.specs.Checking.Declaring.{base_kind, with_mention, mentions_in, derived, declared_among, with_bound}
use Rattle.c_erasure.specs.Checking.Files.{function_storage, Received, received_by, library_named, define_function, define_shape, definition_named}
use Rattle.c_erasure.specs.Checking.Files.{function_definition}
use Rattle.c_erasure.specs.Checking.Finding.{base_type, one_of, derivations}
use Rattle.c_checking_laws.proofs.Adding.{mention_before}
use Rattle.c_checking_laws.proofs.Declared.{mentioned}
use Rattle.c_checking_laws.proofs.FaultPremises.{left, right}
use Rattle.c_checking_laws.proofs.Growth.{grow_base, grow_steps}
use Rattle.c_checking_laws.proofs.Results.{bound_ok}
use Rattle.c_checking_laws.proofs.Sound.{sound_base, sound_steps}
use Rattle.c_checking_laws.proofs.WholeFiles.Declarations.{first_named}
use Rattle.c_checking_laws.proofs.WholeFiles.FileScopes.{MayDeclare, own_answer}
use Rattle.c_checking_laws.proofs.WholeFiles.Keeping.{keep_base, keep_steps}
use Rattle.c_checking_laws.proofs.WholeFiles.Kept.{keeps_mention}
use Rattle.c_checking_laws.proofs.WholeFiles.StatementLaws.{AreItemsInRange}
use Rattle.c_checking_laws.proofs.WholeFiles.FunctionDefined.{function_defined_step}
use Rattle.c_checking_laws.proofs.WholeFiles.FunctionSteps.{function_entered}
use Rattle.c_checking_laws.proofs.WholeFiles.Known.{IsKnown, none_new}
use Rattle.c_checking_laws.proofs.WholeFiles.Stepping.{found_step}
use Rattle.c_checking_units.proofs.FirstStops.DefinitionStops.{MayStopIn}
use Rattle.c_checking_units.proofs.FirstStops.OwnFunctions.{own_enumerators, same_functions, one_own}
use Rattle.c_checking_units.proofs.FirstStops.Tests.{AreOwnFunctions}

no_longer : {X : Type 0} (xs ys zs : List X) → zs ≡ xs ++ ys → length zs ≡ length xs → ys ≡ []
no_longer xs [] zs e h = refl
no_longer xs (y ∷ ys) zs e h = absurd (let n = ap length e ∙ length-append xs (y ∷ ys) in omega (arith, n, h))

map_length : {X Y : Type 0} (v : X → Y) (xs : List X) → length (map v xs) ≡ length xs
map_length v [] = refl
map_length v (x ∷ xs) = ap suc (map_length v xs)

same_length : {X Y : Type 0} (v : X → Y) (xs ys : List X) → map v ys ≡ map v xs ++ [] → length ys ≡ length xs
same_length v xs ys e = sym (map_length v ys) ∙ ap length (e ∙ append-nil (map v xs)) ∙ map_length v xs

no_firsts : (more : List AnObject) → map (λ o. o.first) more ≡ [] → more ≡ []
no_firsts [] e = refl
no_firsts (o ∷ more) e = cc

no_objects : {xs ys : List AnObject} (more : List AnObject) → ys ≡ xs ++ more → map (λ o. o.first) more ≡ [] → ys ≡ xs
no_objects {xs} more e n = e ∙ ap (λ z. xs ++ z) (no_firsts more n) ∙ append-nil xs

storage_is : {A : Type 0} (at : ℕ) (words : Storage) (r : Answer A) (z : A) → function_storage at words r ≡ Ok z → (r ≡ Ok z) × MayDeclare words
storage_is at no_storage r z h = (h, tt)
storage_is at is_extern r z h = (h, tt)
storage_is at is_static r z h = (h, tt)
storage_is at a_typedef r z h = cc
storage_is at is_auto r z h = cc
storage_is at is_register r z h = cc
storage_is at several r z h = cc

-- a definition that is read is one of a function, whose parameters have names
function_type_is : (f : FileScope) (words : Storage) (x : Spelling) (before at place left nodes : ℕ) (shape : Shape) (list : Option Trees.ParameterList)
    (items : Trees.BlockItems) (g : FileScope) (P : Type 0) → define_shape f words x before at place left nodes shape list items ≡ Ok g
    → ((result : CType) (types : CTypes) (p : Received) → received_by list types ≡ Some p
    → define_function (with_mention (at_file_scope f) before Named (function result types) place f) words x at place left nodes result types items
    (Some p) ≡ Ok g → P) → P
function_type_is f words x before at place left nodes (closed (function result types)) list items g P h next = by_parameters (received_by list types) refl h
  where
    by_parameters : (o : Option Received) → received_by list types ≡ o
        → define_function (with_mention (at_file_scope f) before Named (function result types) place f) words x at place left nodes result types items o
        ≡ Ok g → P
    by_parameters None e h = cc
    by_parameters (Some p) e h = next result types p e h
function_type_is f words x before at place left nodes (open_array t) list items g P h next = cc
function_type_is f words x before at place left nodes (closed void) list items g P h next = cc
function_type_is f words x before at place left nodes (closed (integer kind)) list items g P h next = cc
function_type_is f words x before at place left nodes (closed (pointer t)) list items g P h next = cc
function_type_is f words x before at place left nodes (closed (array t n)) list items g P h next = cc
function_type_is f words x before at place left nodes (closed (structure r)) list items g P h next = cc

module _ (untagged : ℕ → List ℕ) (types_named : List (List ℕ)) (nodes_at : ℕ → ℕ) (ends : List ℕ) (before : List ℕ) (specs : Trees.Specifiers)
    (d : Trees.Declarator) (left_at : ℕ) (items : Trees.BlockItems) (nodes at in_scope : ℕ) (f : FileScope)
    (may : MayStopIn untagged types_named nodes_at ends f specs d left_at items nodes at in_scope) (k : IsKnown nodes_at before none_new none_new f)
    (own : AreOwnFunctions f.names) (x : Spelling) (name : declared_name d ≡ Some x) where
  abbrev u : List Mark
  u = marks_of_specifiers untagged specs

  abbrev w : List Mark
  w = marks_of_declarator untagged d

  abbrev from : ℕ
  from = first_specifiers specs

  named_own : MayDeclare (storage_of specs) → (b : CType × FileScope) → base_type (base_kind specs) from f (one_of specs (at_file_scope f)) ≡ Ok b
      → (g : FileScope) → definition_named b.1 specs b.0 d left_at nodes items (Some x) ≡ Ok g → AreOwnFunctions g.names
  named_own words b is_base g h =
      let s = at_file_scope f in
      let m = may.may in
      let v = sound_base untagged specs s m.specifiers_in_range (left untagged ends u (w ++ a_name left_at ∷ []) may.prepared).ready from b is_base in
      let adds = grow_base untagged specs s m.same from b is_base in
      let keeps = keep_base untagged types_named specs s m.same (λ i. m.specifiers_formed) from b is_base in
      let first = found_step nodes_at f b.1 (λ h. Unit {0}) v.grew keeps adds (λ h e. tt) in
      let k1 = subst (λ made. IsKnown nodes_at made none_new none_new b.1) (append-nil before) (first.known before k) in
      let own1 = own_enumerators f.names b.1.names keeps.names.0 keeps.names.1 keeps.names.2 own in
      let s1 = at_file_scope b.1 in
      let same = v.grew.extends.untagged ∙ m.same in
      let prepared = right untagged ends u (w ++ a_name left_at ∷ []) may.prepared v.grew in
      let steps = bound_ok (derivations d s1) _ g h in
      let shape = bound_ok (derived steps.0.1.records steps.0.0 b.0) _ g steps.2 in
      let place = first_declarator d x.from in
      let found = sound_steps untagged d s1 m.in_range (left untagged ends w (a_name left_at ∷ []) prepared).ready steps.0 steps.1 in
      function_type_is steps.0.1 (storage_of specs) x (mentions_in b.1) from place left_at nodes shape.0 (parameters_of d) items g
      (AreOwnFunctions g.names) shape.2
      (λ result types p received h.
      let t = function result types in
      let said = with_mention s1 (mentions_in b.1) Named t place steps.0.1 in
      let grown = mentioned s1 (mentions_in b.1) Named t place found.grew in
      let keeps2 = keeps_mention s1 (mentions_in b.1) Named t place (keep_steps untagged types_named d s1 same (λ i. m.formed) steps.0 steps.1) in
      let adds2 = mention_before s1 Named t place (grow_steps untagged d s1 same steps.0 steps.1) in
      let second = found_step nodes_at b.1 said (λ h. Unit {0}) grown keeps2 adds2 (λ h e. tt) in
      let k2 = subst (λ made. IsKnown nodes_at made none_new none_new said) (append-nil before) (second.known before k1) in
      let own2 = own_enumerators b.1.names said.names keeps2.names.0 keeps2.names.1 keeps2.names.2 own1 in
      let there = first_named d x name left_at x.from in
      let late : at ≤ place = let p = m.place in omega (arith, p, there) in
      let objects : said.objects ≡ f.objects = no_objects adds2.objects.0 adds2.objects.1 adds2.objects.2
      ∙ no_objects adds.objects.0 adds.objects.1 adds.objects.2 in
      let functions : said.functions ≡ f.functions = adds2.functions ∙ adds.functions in
      let c1 = v.grew.counted in
      let c2 = grown.counted in
      let counts : length f.records + length (ends_in u) + length (ends_in w) ≡ length said.records = omega (arith, c1, c2) in
      let said_ends : said.ends ≡ f.ends = grown.extends.ends ∙ v.grew.extends.ends in
      let third = function_defined_step untagged nodes_at before said (storage_of specs) x from place left_at nodes result types (parameters_of d) items p
      (record {
        may = words;
        counted = m.counted ∙ ap nodes_at there;
        objects_before = λ n o e. let b = m.objects_before n o (subst (λ all. slice_get all n ≡ Some o) objects e) in omega (arith, b, late);
        functions_before = λ n o e. let b = m.functions_before n o (subst (λ all. slice_get all n ≡ Some o) functions e) in omega (arith, b, late);
      }) (grown.extends.untagged ∙ same) received
      (subst (λ n. AreItemsInRange said.ends n items) counts
      (subst (λ ends. AreItemsInRange ends (length f.records + length (ends_in u) + length (ends_in w)) items) (sym said_ends) m.items_in_range)) k2 g h in
      let o = third.0 in
      let n = bound x left_at defines (a_function o.number.0 t) in
      let c = with_bound o.number.1 n in
      let after = o.all.1.file in
      let none = no_longer c.names o.read.extends.names.0 after.names o.read.extends.names.1
      (same_length (λ b. b.from) c.names after.names o.read.grows.names) in
      let names : after.names ≡ c.names = o.read.extends.names.1 ∙ ap (λ z. c.names ++ z) none ∙ append-nil c.names in
      let is_own = (own_answer x.from (library_named x.text) _ g h).0 in
      let entered = same_functions said (storage_of specs) x place t nodes o.number
      (function_entered said (storage_of specs) x place t nodes (declared_among said.names x.text) refl o.number o.number_is) in
      subst (λ (g : FileScope). AreOwnFunctions g.names) (sym o.file_is)
      (subst AreOwnFunctions (sym names) (one_own o.number.1 n (subst AreOwnFunctions (sym entered) own2) (λ j y is. is_own))))

  pub definition_own : (g : FileScope) → function_definition specs d left_at items f nodes ≡ Ok g → AreOwnFunctions g.names
  definition_own g h =
      let w = storage_is from (storage_of specs) _ g h in
      let b = bound_ok (base_type (base_kind specs) from f (one_of specs (at_file_scope f))) _ g w.0 in
      named_own w.1 b.0 b.1 g (subst (λ o. definition_named b.0.1 specs b.0.0 d left_at nodes items o ≡ Ok g) name b.2)
