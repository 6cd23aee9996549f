-- Definitions of functions at file scope (C99 6.9.1).
use Rattle.std.proofs.lemmas.Bool.{and_from}
use Rattle.std.proofs.lemmas.Slice.Eq.{bytes_eq-Decides}
use Rattle.std.specs.Prelude.{codes}
use Rattle.c_types.proofs.SameTypes.{same_is}
use Rattle.c_erasure.specs.Files.{IsMainType}
use Rattle.std.proofs.Common.{◌≡◌, ℕ, Bool, true, false, refl, sym, ap, ◌∙◌, subst, List, ◌++◌, length, inl, inr}
use Rattle.std.specs.Prelude.{◌⊎◌, map, Option, Some, None, Ok, slice_get, slice_set, is_none, not, ◌&&◌}
use Rattle.std.specs.Option.{IsSome}
use Rattle.c_types.specs.Sameness.{same_type}
use Rattle.c_types.specs.Types.{CType, CTypes, function}
use Rattle.c_ast.specs.declared.words.Spelling.{Spelling}
use Rattle.c_ast.specs.Trees
use Rattle.c_erasure.specs.Erasure.{place_in, IsBound}
use Rattle.c_erasure.specs.Files.{IsOwnName, IsLinkage, function_storage, IsFirst, bound, HasParameters, IsBody, in_body}
use Rattle.c_erasure.specs.Scopes.{FileScope, Scope, Bound, AFunction, a_function, defines, at_file_scope}
use Rattle.c_erasure.specs.Specifiers.{Storage}
use Rattle.c_erasure.specs.Checking.Answers.{Answer}
use Rattle.c_erasure.specs.Checking.Declaring.{declared_among, with_bound}
use Rattle.c_erasure.specs.Checking.Files.{library_named, main_function, is_main, main_type, defined_among, function_of, Received, received_by}
use Rattle.c_erasure.specs.Checking.Files.{defined_function}
use Rattle.c_erasure.specs.Checking.Files.{with_body, define_function}
use Rattle.c_erasure.specs.Checking.Statements.{items_in}
use Rattle.c_checking_laws.proofs.Results.{bound_ok, given, chosen}
use Rattle.c_checking_laws.proofs.Extends.{itself, further}
use Rattle.c_typed.specs.TypedStatements.{all_declared_by}
use Rattle.c_erasure.specs.Literals.{made_by_items}
use Rattle.c_erasure.specs.MentionPlaces.{spoken_by_items}
use Rattle.c_erasure.specs.Statements.{Statements}
use Rattle.c_checking_laws.proofs.WholeFiles.Scoped.{IsLater, FoundIn}
use Rattle.c_checking_laws.proofs.WholeFiles.StatementLaws.{AreItemsInRange}
use Rattle.c_checking_laws.proofs.WholeFiles.Bodies.{IsReadyFile, AreParametersOf, parameters_are, body_found}
use Rattle.c_checking_laws.proofs.WholeFiles.FileScopes.{IsSameFunction, Continues, continues_itself, continues_then, adds_continues, MayDeclare, StandsFor}
use Rattle.c_checking_laws.proofs.WholeFiles.FileScopes.{own_answer, own_is}
use Rattle.c_checking_laws.proofs.WholeFiles.FileScopes.{once_answer, bound_there, bound_put, IsTheFunction, function_is}
use Rattle.c_checking_laws.proofs.WholeFiles.FileObjects.{set_same, set_other, set_types}

-- ---- a function that is defined takes the place of the one that was declared

abbrev pub replaced_function : FileScope → ℕ → AFunction → FileScope
replaced_function f n p = record f { functions = slice_set f.functions n p }

same_function : (o : AFunction) → IsSameFunction o o
same_function o = record { name = refl; first = refl; ty = refl; is_linked = refl; settled = λ s. refl }

nothing_settled : (o q : AFunction) → o.body ≡ None → q ≡ o → IsSome q.body → ⊥
nothing_settled o q e f i = let none_is_some = subst IsSome (ap (λ (o : AFunction). o.body) f ∙ e) i in cc

pub function_defined : (f : FileScope) (n : ℕ) (o p : AFunction) → slice_get f.functions n ≡ Some o → o.body ≡ None → IsSameFunction o p
    → Continues f (replaced_function f n p)
function_defined f n o p h e same = record {
  extends = record {
    file = refl;
    tags = refl;
    ends = refl;
    numbered = refl;
    untagged = refl;
    names = (itself f).names;
    records = (itself f).records;
    mentions = λ kind t at h. h;
    types = λ n t h. h;
    objects = λ n p h i. h;
    functions = λ k t i. subst (λ all. slice_get all k ≡ Some t) (sym (set_types (λ o. o.ty) f.functions n o p h same.ty)) i;
  };
  objects = λ k q i. (continues_itself f).objects k q i;
  functions = λ k q i. found k q (set_other f.functions n o p h k q i);
}
  where
    found : (k : ℕ) (q : AFunction) → ((k ≡ n) × (q ≡ o)) ⊎ (slice_get (slice_set f.functions n p) k ≡ Some q)
        → (r : AFunction) × (slice_get (slice_set f.functions n p) k ≡ Some r) × IsSameFunction q r
    found k q (inl i) = (
      p,
      subst (λ k. slice_get (slice_set f.functions n p) k ≡ Some p) (sym i.0) (set_same f.functions n o p h),
      subst (λ q. IsSameFunction q p)
          (sym i.1) same,
    )
    found k q (inr i) = (q, i, same_function q)

main_answer : {A : Type 0} (x : List ℕ) (at : ℕ) (t : CType) (r : Answer A) (z : A) → main_function x at t r ≡ Ok z → r ≡ Ok z
main_answer x at t r z h = chosen (is_main x && not (same_type t main_type)) _ _ z (r ≡ Ok z) h (λ b h. cc) (λ b h. h)

pub main_type_is : {A : Type 0} (x : List ℕ) (at : ℕ) (t : CType) (r : Answer A) (z : A) → main_function x at t r ≡ Ok z
    → (r ≡ Ok z) × IsMainType x t
unfolding is_main
main_type_is x at t r z h =
    chosen (is_main x && not (same_type t main_type)) _ _ z ((r ≡ Ok z) × IsMainType x t) h (λ b h. cc)
    (λ b h. (h, λ e. of_type (same_type t main_type) refl ((bytes_eq-Decides (codes "main") x).1 (sym e)) b))
  where
    of_type : (c : Bool) → same_type t main_type ≡ c → is_main x ≡ true → (is_main x && not (same_type t main_type)) ≡ false → t ≡ main_type
    of_type true e m b = same_is t main_type e
    of_type false e m b =
        let all = and_from (is_main x) (not (same_type t main_type)) m (ap not e) in
        let true_is_false = sym all ∙ b in
        cc

module _ (untagged : ℕ → List ℕ) where
  -- a function as a definition leaves it
  pub record IsFunctionDefined (words : Storage) (x : Spelling) (place left nodes : ℕ) (result : CType) (types : CTypes) (list : Option Trees.ParameterList)
      (items : Trees.BlockItems) (first : Bool) (h : FileScope) : Type 0 where
    pub number : ℕ
    pub the_function : AFunction
    pub bounds : List Bound
    pub stands : slice_get h.functions number ≡ Some the_function
    pub name : the_function.name ≡ x.text
    pub ty : the_function.ty ≡ function result types
    pub nodes_are : the_function.nodes ≡ nodes
    pub place_is : the_function.place ≡ place_in (at_file_scope h) place
    pub linkage : IsLinkage (function_storage words) first the_function.is_linked
    pub first_place : IsFirst first the_function.first place
    pub binds : IsBound (at_file_scope h) (bound x left defines (a_function number (function result types)))
    pub parameters : HasParameters list types the_function.parameters bounds
    pub body : IsBody h result bounds the_function items

  -- the file in which the body is read, and the scope after it
  pub record FoundFunction (f : FileScope) (words : Storage) (x : Spelling) (place left nodes : ℕ) (result : CType) (types : CTypes)
      (list : Option Trees.ParameterList) (items : Trees.BlockItems) (p : Received) (g : FileScope) : Type 0 where
    pub number : ℕ × FileScope
    pub number_is : function_of f words x place (function result types) nodes (declared_among f.names x.text) ≡ Ok number
    pub the : IsTheFunction f words x place (function result types) (is_none (declared_among f.names x.text)) number
    pub main : IsMainType x.text (function result types)
    pub once : defined_among f.names x.text ≡ None
    pub all : Statements × Scope
    pub read : FoundIn untagged (with_bound number.1 (bound x left defines (a_function number.0 (function result types))))
        (in_body (with_bound number.1 (bound x left defines (a_function number.0 (function result types)))) p.bounds p.locals)
        (spoken_by_items items) (made_by_items items)
        (λ g l. (old : AFunction) → l ≡ all.1.locals → IsBody g result p.bounds
        (defined_function all.1.file place (length p.locals) nodes all.0 all.1.locals old) items) (all_declared_by all.0) all.1
    pub file_is : g ≡ replaced_function all.1.file number.0 (defined_function all.1.file place (length p.locals) nodes all.0 all.1.locals the.function)
    pub own : IsOwnName x.text
    pub continues : Continues f g
    pub holds : (h : FileScope) → Continues g h
        → IsLater (with_bound number.1 (bound x left defines (a_function number.0 (function result types)))) all.1 read.texts h all.1.locals
        → IsFunctionDefined words x place left nodes result types list items (is_none (declared_among f.names x.text)) h

  pub function_found : (f : FileScope) (words : Storage) → MayDeclare words → (x : Spelling) (at place left nodes : ℕ) (result : CType) (types : CTypes)
      (list : Option Trees.ParameterList) (items : Trees.BlockItems) (p : Received) → received_by list types ≡ Some p
      → ((b : Bound) → declared_among f.names x.text ≡ Some b → StandsFor f x place b)
      → ((n : ℕ × FileScope) → function_of f words x place (function result types) nodes (declared_among f.names x.text) ≡ Ok n
      → defined_among f.names x.text ≡ None → IsMainType x.text (function result types)
      → IsTheFunction f words x place (function result types) (is_none (declared_among f.names x.text)) n
      → IsReadyFile untagged (with_bound n.1 (bound x left defines (a_function n.0 (function result types))))
      × AreItemsInRange n.1.ends (length n.1.records) items
      × ((o : AFunction) → slice_get n.1.functions n.0 ≡ Some o → o.body ≡ None))
      → (g : FileScope) → define_function f words x at place left nodes result types items (Some p) ≡ Ok g
      → FoundFunction f words x place left nodes result types list items p g
  function_found f words m x at place left nodes result types list items p e k ready g h =
      let t = function result types in
      let a = own_answer x.from (library_named x.text) _ g h in
      let b = main_answer x.text x.from t _ g a.1 in
      let n = bound_ok (function_of f words x place t nodes (declared_among f.names x.text)) _ g b in
      let v = function_is f words m x place t nodes (declared_among f.names x.text) k n.0 n.1 in
      let c = once_answer x (defined_among f.names x.text) _ g n.2 in
      let name = bound x left defines (a_function n.0.0 t) in
      let file = with_bound n.0.1 name in
      let r = ready n.0 n.1 c.0 (main_type_is x.text x.from t _ g a.1).1 v in
      let all = bound_ok (items_in result items (in_body file p.bounds p.locals) false false) _ g c.1 in
      let u = body_found untagged file place nodes result items list types p e r.1 r.0 all.0 all.1 in
      let step = adds_continues u.extends u.grows in
      let known : slice_get all.0.1.file.functions n.0.0 ≡ Some v.function = subst (λ all. slice_get all n.0.0 ≡ Some v.function)
      (sym u.grows.functions) v.stands in
      let new = defined_function all.0.1.file place (length p.locals) nodes all.0.0 all.0.1.locals v.function in
      let none = r.2 v.function v.stands in
      let last = function_defined all.0.1.file n.0.0 v.function new known none
      (record { name = refl; first = refl; ty = refl; is_linked = refl; settled = λ s. absurd (nothing_settled v.function v.function none refl s) }) in
      let there : g ≡ replaced_function all.0.1.file n.0.0 new =
      given (λ g. g ≡ replaced_function all.0.1.file n.0.0 new) _ g all.2
      (ap (λ o. with_body all.0.1.file n.0.0 place (length p.locals) nodes all.0.0 all.0.1.locals o) known) in
      record {
        number = n.0;
        number_is = n.1;
        the = v;
        main = (main_type_is x.text x.from t _ g a.1).1;
        once = c.0;
        all = all.0;
        read = u;
        file_is = there;
        own = own_is x.text a.0;
        continues = subst (Continues f) (sym there) (continues_then v.continues (continues_then (bound_put n.0.1 name) (continues_then step last)));
        holds = λ h later read.
            let back = subst (λ g. Continues g h) there later in
            let q = back.functions n.0.0 new (set_same all.0.1.file.functions n.0.0 v.function new known) in
            let is = q.2.settled refl in
            let number : h.file ≡ all.0.1.file.file = (further last.extends back.extends).file in
            record {
              number = n.0.0;
              the_function = new;
              bounds = p.bounds;
              stands = q.1 ∙ ap Some is;
              name = v.name;
              ty = v.ty;
              nodes_are = refl;
              place_is = ap (λ file. record { file = file; at = place }) (sym number);
              linkage = v.linkage;
              first_place = v.first_place;
              binds = bound_there n.0.1 h name (further u.extends (further last.extends back.extends));
              parameters = subst (λ locals. HasParameters list types locals p.bounds) (sym (own_locals p all.0.1 u.more u.locals))
                  (parameters_are file list types p e).has;
              body = u.holds h all.0.1.locals read v.function refl;
            };
      }
    where
      own_locals : (p : Received) (after : Scope) (more : List Rattle.c_erasure.specs.Scopes.ALocal) → after.locals ≡ p.locals ++ more
          → Rattle.std.specs.Prelude.take (length p.locals) after.locals ≡ p.locals
      own_locals p after more e = ap (Rattle.std.specs.Prelude.take (length p.locals)) e ∙ Rattle.c_checking_laws.proofs.WholeFiles.Bodies.take_own p.locals more
