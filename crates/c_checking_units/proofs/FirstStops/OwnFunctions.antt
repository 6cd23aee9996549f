-- A declarator of the file scope binds a name of the library to no function of the file (own).
use Rattle.std.proofs.Common.{◌≡◌, ℕ, ◌+◌, true, refl, sym, ap, ◌∙◌, subst, List, [], ◌∷◌, ◌++◌, length, inl, inr}
use Rattle.std.specs.Prelude.{◌⊎◌, Option, Some, None, Ok, slice_get, ◌&&◌, not}
use Rattle.lay_base.specs.declared.faults.Rule.TheVariants as R
use Rattle.c_types.specs.Sameness.{same_type}
use Rattle.c_types.specs.Types.{CType}
use Rattle.c_ast.specs.declared.words.Spelling.{Spelling}
use Rattle.c_ast.specs.Trees
use Rattle.c_ast.specs.Places.{first, first_declarator}
use Rattle.c_ast.specs.WellFormed.{IsValue}
use Rattle.c_typed.specs.Conversions.{is_function}
use Rattle.c_typed.specs.Fits.{library_type}
use Rattle.c_typed.specs.declared.operators.LibraryFunction.{LibraryFunction}
use Rattle.c_typed.specs.declared.program.MentionKind.TheVariants.{Object, Named}
use Rattle.c_erasure.specs.Broken.{ill_typed}
use Rattle.c_erasure.specs.Declarators.{declared_name}
use Rattle.c_erasure.specs.Files.{bound, object_how, may_stand_in_file}
use Rattle.c_erasure.specs.Scopes.{FileScope, Bound, AnObject, declares, defines, typedef, an_object, a_function, a_library_function}
use Rattle.c_erasure.specs.Scopes.{at_file_scope, declared}
use Rattle.c_erasure.specs.Specifiers.{Storage, a_typedef}
use Rattle.c_erasure.specs.Checking.Answers.{Answer, moved}
use Rattle.c_erasure.specs.Checking.Declaring.{derived, mentions_in, object_at, declared_among, with_bound, with_mention}
use Rattle.c_erasure.specs.Checking.Files.{library_named, main_type, is_main, links, library_again, declare_typedef}
use Rattle.c_erasure.specs.Checking.Files.{declare_function}
use Rattle.c_erasure.specs.Checking.Files.{declare_object, without_value, object_of, function_of, define_object, with_definition, declare_as}
use Rattle.c_erasure.specs.Checking.Files.{declarator_named}
use Rattle.c_erasure.specs.Checking.Finding.{complete, derivations}
use Rattle.c_erasure.specs.Checking.Initializers.{initializer, constants_in}
use Rattle.c_erasure.specs.Checking.Statements.{sized_in, constants_if_any}
use Rattle.c_checking_laws.proofs.Extends.{one_of_both}
use Rattle.c_checking_laws.proofs.Results.{bound_ok, given, chosen, with_file_ok}
use Rattle.c_checking_laws.proofs.WholeFiles.FileScopes.{MayDeclare, own_answer, typedef_declared}
use Rattle.c_checking_laws.proofs.WholeFiles.Kept.{IsAnEnumerator}
use Rattle.c_checking_laws.proofs.WholeFiles.KeepingInitials.{keep_initializer}
use Rattle.c_checking_laws.proofs.WholeFiles.FunctionSteps.{IsNewFunction, IsOldFunction, function_entered}
use Rattle.c_checking_laws.proofs.WholeFiles.Known.{IsKnown, none_new, one_bound}
use Rattle.c_checking_laws.proofs.WholeFiles.ObjectSteps.{IsNew, IsOld, entered, once_is}
use Rattle.c_checking_units.proofs.FirstStops.DeclaratorStops.{by_storage, declared_as}
use Rattle.c_checking_units.proofs.FirstStops.Tests.{AreOwnFunctions}
use Rattle.c_checking_units.proofs.FirstStops.WholeDeclarators.{MayStop, said_own}

abbrev IsOwn : Bound → Type 0
IsOwn b = (n : ℕ) (t : CType) → b.entity ≡ a_function n t → library_named b.name ≡ None

own_more : (names more : List Bound) → AreOwnFunctions names → ((k : ℕ) (b : Bound) → slice_get more k ≡ Some b → IsOwn b)
    → AreOwnFunctions (names ++ more)
own_more names more h i k b e = by_part (one_of_both names more k b e)
  where
    by_part : (slice_get names k ≡ Some b) ⊎ ((j : ℕ) × (k ≡ length names + j) × (slice_get more j ≡ Some b)) → IsOwn b
    by_part (inl e) = h k b e
    by_part (inr e) = i e.0 b e.2

pub one_own : (f : FileScope) (b : Bound) → AreOwnFunctions f.names → IsOwn b → AreOwnFunctions (with_bound f b).names
one_own f b h i = own_more f.names (b ∷ []) h (one_bound IsOwn b i)

-- enumerators are no functions
pub own_enumerators : (names all : List Bound) → (more : List Bound) → all ≡ names ++ more
    → ((k : ℕ) (b : Bound) → slice_get more k ≡ Some b → IsAnEnumerator b) → AreOwnFunctions names → AreOwnFunctions all
own_enumerators names all more e are h =
    subst AreOwnFunctions (sym e) (own_more names more h (λ k b i n t is. let v = are k b i in let bad = sym is ∙ v.1 in cc))

no_value : {A : Type 0} (at : ℕ) (o : Option (ℕ × Trees.Expression)) (r : Answer A) (z : A) → without_value at o r ≡ Ok z → r ≡ Ok z
no_value at None r z h = h
no_value at (Some value) r z h = cc

-- ---- functions

pub same_functions : (f : FileScope) (words : Storage) (x : Spelling) (place : ℕ) (t : CType) (nodes : ℕ) (n : ℕ × FileScope)
    → IsNewFunction f words x place t nodes n ⊎ IsOldFunction f x t n → n.1.names ≡ f.names
same_functions f words x place t nodes n (inl e) = sym (ap (λ (z : ℕ × FileScope). z.1.names) e.1)
same_functions f words x place t nodes n (inr e) = sym (ap (λ (g : FileScope). g.names) e.3)

function_own : (f : FileScope) (words : Storage) (x : Spelling) (place from : ℕ) (t : CType) (nodes : ℕ) → AreOwnFunctions f.names
    → (o : Option LibraryFunction) → library_named x.text ≡ o → (g : FileScope) → declare_function f words x place from t nodes o ≡ Ok g
    → AreOwnFunctions g.names
function_own f words x place from t nodes h None own g e =
    chosen (is_main x.text && not (same_type t main_type)) _ _ g (AreOwnFunctions g.names) e (λ b e. cc)
    (λ b e.
    let n = bound_ok (function_of f words x place t nodes (declared_among f.names x.text)) _ g e in
    let same = same_functions f words x place t nodes n.0
    (function_entered f words x place t nodes (declared_among f.names x.text) refl n.0 n.1) in
    given (λ (g : FileScope). AreOwnFunctions g.names) (with_bound n.0.1 (bound x from declares (a_function n.0.0 t))) g n.2
    (one_own n.0.1 (bound x from declares (a_function n.0.0 t)) (subst AreOwnFunctions (sym same) h) (λ m u is. own)))
function_own f words x place from t nodes h (Some which) own g e =
    chosen (same_type t (library_type which) && links words) _ _ g (AreOwnFunctions g.names) e
    (λ b e. chosen (library_again which (declared_among f.names x.text)) _ _ g (AreOwnFunctions g.names) e
    (λ b e. given (λ (g : FileScope). AreOwnFunctions g.names) (with_bound f (bound x from declares (a_library_function which))) g e
    (one_own f (bound x from declares (a_library_function which)) h (λ m u is. cc)))
    (λ b e. cc))
    (λ b e. cc)

-- ---- objects

same_names : (f : FileScope) (words : Storage) (x : Spelling) (place : ℕ) (t : CType) (n : ℕ × FileScope)
    → IsNew f words x place t n ⊎ IsOld f x t n → n.1.names ≡ f.names
same_names f words x place t n (inl e) = sym (ap (λ (z : ℕ × FileScope). z.1.names) e.1)
same_names f words x place t n (inr e) = sym (ap (λ (g : FileScope). g.names) e.3)

same_defined : (f : FileScope) (n : ℕ) (o : Option AnObject) → (with_definition f n o).names ≡ f.names
same_defined f n None = refl
same_defined f n (Some o) = refl

defined_own : (untagged : ℕ → List ℕ) (types : List (List ℕ)) (f : FileScope) (n place : ℕ) (value : Option (ℕ × Trees.Expression)) (t : CType)
    → f.untagged ≡ untagged → IsValue types value → AreOwnFunctions f.names → (g : FileScope) → define_object f n place value t ≡ Ok g
    → AreOwnFunctions g.names
defined_own untagged types f n place None t same w h g e = given (λ (g : FileScope). AreOwnFunctions g.names) f g e h
defined_own untagged types f n place (Some value) t same w h g e =
    let i = bound_ok (constants_if_any (Some value) (at_file_scope f) t) _ g e in
    let z = bound_ok (initializer value.1 (at_file_scope f) t) _ i.0 i.1 in
    let file = (with_file_ok z.0.1 (constants_in (declared (moved (at_file_scope f) z.0.1)) (first value.1) z.0.0) i.0 z.2).1 in
    let names = (keep_initializer untagged types value.1 (at_file_scope f) same (λ j. w) t z.0 z.1).names in
    let there : AreOwnFunctions i.0.1.names =
    subst (λ (g : FileScope). AreOwnFunctions g.names) file (own_enumerators f.names z.0.1.names names.0 names.1 names.2 h) in
    given (λ (g : FileScope). AreOwnFunctions g.names) _ g i.2 (subst AreOwnFunctions (sym (same_defined i.0.1 n _)) there)

object_own : (untagged : ℕ → List ℕ) (types : List (List ℕ)) (f : FileScope) (words : Storage) (x : Spelling) (place from : ℕ) (t : CType)
    (value : Option (ℕ × Trees.Expression)) → f.untagged ≡ untagged → IsValue types value → AreOwnFunctions f.names → (g : FileScope)
    → declare_object f words x place from t value ≡ Ok g → AreOwnFunctions g.names
object_own untagged types f words x place from t value same w h g e =
    let a = own_answer x.from (library_named x.text) _ g e in
    let n = bound_ok (object_of f words x place t (declared_among f.names x.text)) _ g a.1 in
    let o = once_is f x value _ g n.2 in
    let i = entered f words x place t (declared_among f.names x.text) refl n.0 n.1 in
    let b = bound x from (object_how words value) (an_object n.0.0 t) in
    defined_own untagged types (with_bound n.0.1 b) n.0.0 place value t (untagged_same n.0 i ∙ same) w
    (one_own n.0.1 b (subst AreOwnFunctions (sym (same_names f words x place t n.0 i)) h) (λ m u is. cc)) g o.0
  where
    untagged_same : (n : ℕ × FileScope) → IsNew f words x place t n ⊎ IsOld f x t n → n.1.untagged ≡ f.untagged
    untagged_same n (inl e) = sym (ap (λ (z : ℕ × FileScope). z.1.untagged) e.1)
    untagged_same n (inr e) = sym (ap (λ (g : FileScope). g.untagged) e.3)

-- ---- declarators

pub own_after : (untagged : ℕ → List ℕ) (types : List (List ℕ)) (nodes_at : ℕ → ℕ) (ends : List ℕ) (before : List ℕ) (f : FileScope) (words : Storage)
    (base : CType) (d : Trees.InitDeclarator) (x : Spelling) (from nodes : ℕ) → MayStop untagged types nodes_at ends f d x from nodes
    → IsKnown nodes_at before none_new none_new f → declared_name d.declarator ≡ Some x → may_stand_in_file words ≡ true → (g : FileScope)
    → declarator_named f words base d from nodes (Some x) ≡ Ok g → AreOwnFunctions g.names
own_after untagged types nodes_at ends before f words base d x from nodes may k name stands g h =
    let steps = bound_ok (derivations d.declarator (at_file_scope f)) _ g h in
    let shape = bound_ok (derived steps.0.1.records steps.0.0 base) _ g steps.2 in
    let t = bound_ok (sized_in steps.0.1.records x.from shape.0 d.value) _ g shape.2 in
    let place = first_declarator d.declarator x.from in
    let named = said_own untagged types nodes_at ends before f words base d x from nodes may k name (ill_typed R.Init 0) steps.0 steps.1 Named t.0 in
    let same : steps.0.1.untagged ≡ untagged =
    (Rattle.c_checking_laws.proofs.Sound.sound_steps untagged d.declarator (at_file_scope f) may.may.in_range
    (Rattle.c_checking_laws.proofs.FaultPremises.left untagged ends _ _ may.prepared).ready steps.0 steps.1).grew.extends.untagged ∙ may.may.same in
    by_words steps.0.1 t.0 named same (by_storage words stands)
    (λ u. said_own untagged types nodes_at ends before f words base d x from nodes may k name (ill_typed R.Init 0) steps.0 steps.1 Object u) t.2
  where
    place : ℕ
    place = first_declarator d.declarator x.from

    by_words : (m : FileScope) (t : CType) → AreOwnFunctions (with_mention (at_file_scope f) (mentions_in f) Named t place m).names
        → m.untagged ≡ untagged
        → (words ≡ a_typedef) ⊎ MayDeclare words
        → ((u : CType) → AreOwnFunctions (with_mention (at_file_scope f) (mentions_in f) Object u place m).names)
        → declare_as words (mentions_in f) place from x t d nodes m ≡ Ok g → AreOwnFunctions g.names
    by_words m t own same (inl e) objects h =
        let said = with_mention (at_file_scope f) (mentions_in f) Named t place m in
        let i = no_value x.from d.value (declare_typedef said x from t) g
        (subst (λ words. declare_as words (mentions_in f) place from x t d nodes m ≡ Ok g) e h) in
        subst (λ (g : FileScope). AreOwnFunctions g.names) (sym (typedef_declared said x from t g i).file_is)
        (one_own said (bound x from defines (typedef t)) own (λ n u is. cc))
    by_words m t own same (inr w) objects h =
        chosen (is_function t) _ _ g (AreOwnFunctions g.names) (sym (declared_as words w (mentions_in f) place from x t d nodes m) ∙ h)
        (λ b h. function_own (with_mention (at_file_scope f) (mentions_in f) Named t place m) words x place from t nodes own
        (library_named x.text) refl g
        (no_value x.from d.value _ g h))
        (λ b h.
        let u = bound_ok (object_at m.records (complete (at_file_scope m) x.from) x.from t) _ g h in
        object_own untagged types (with_mention (at_file_scope f)
        (mentions_in f) Object u.0 place m) words x place from u.0 d.value same may.may.value_formed
        (objects u.0) g u.2)
