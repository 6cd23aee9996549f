-- Declarators of functions at file scope: what they declare is what is found (C99 6.2.2, 6.7, 7.1.3).
use Rattle.std.proofs.Common.{◌≡◌, ◌≢◌, ℕ, zero, suc, ◌+◌, ◌≤◌, ◌<◌, Bool, true, false, refl, sym, ap, ◌∙◌, subst, cond, List, [], ◌∷◌, ◌++◌, length}
use Rattle.std.proofs.Common.{length-append, arith, inl, inr}
use Rattle.std.specs.Prelude.{◌⊎◌, ◌&&◌, not, map, Option, Some, None, Ok, slice_get, is_none, codes}
use Rattle.lay_base.specs.declared.faults.Rule.TheVariants as R
use Rattle.c_types.specs.Types.{CType}
use Rattle.c_types.proofs.SameTypes.{same_self}
use Rattle.c_ast.specs.declared.words.Spelling.{Spelling}
use Rattle.c_typed.specs.declared.operators.LibraryFunction.{LibraryFunction}
use Rattle.c_typed.specs.Fits.{library_type}
use Rattle.c_erasure.specs.Erasure.{IsBound}
use Rattle.c_erasure.specs.Files.{library_name, IsMainType, IsOwnName, IsLinkage, function_storage, IsFirst, is_first, bound}
use Rattle.c_erasure.specs.Scopes.{FileScope, Bound, a_function, a_library_function, AFunction, at_file_scope, declares}
use Rattle.c_erasure.specs.Specifiers.{Storage, no_storage, a_typedef, is_extern, is_static, is_auto, is_register, several}
use Rattle.c_erasure.specs.Checking.Answers.{Answer, ◌>>=◌, refused}
use Rattle.c_erasure.specs.Checking.Declaring.{declared_among, with_bound}
use Rattle.c_erasure.specs.Checking.Files.{library_named, is_main, main_type, main_function, links, function_linkage_agrees, function_linked_before}
use Rattle.c_erasure.specs.Checking.Files.{new_function}
use Rattle.c_erasure.specs.Checking.Files.{known_function, function_of, library_again, declare_library, declare_own, declare_function}
use Rattle.c_checking_laws.proofs.CompleteNodes.{some, some_is}
use Rattle.c_checking_laws.proofs.CompletePart.{Lists, part}
use Rattle.c_checking_laws.proofs.CompleteWalk.{a_name}
use Rattle.c_checking_laws.proofs.Extends.{last_or}
use Rattle.c_checking_laws.proofs.NodesOfParts.{same_bytes}
use Rattle.c_checking_laws.proofs.Results.{ok}
use Rattle.c_checking_laws.proofs.WholeFiles.CompleteObjects.{mapped_at}
use Rattle.c_checking_laws.proofs.WholeFiles.FileScopes.{IsSameFunction, MayDeclare}
use Rattle.c_checking_laws.proofs.WholeFiles.Names.{declared_is}
use Rattle.c_checking_units.proofs.Filed.{IsWholeFile, IsFiled, declared_earlier, naming, next_bound, naming_filed}
use Rattle.c_checking_units.proofs.Names.{own_back, library_back}
use Rattle.c_checking_units.proofs.ObjectDeclarators.{FoundFile}
use Rattle.c_checking_units.proofs.Steps.{Step, events, an_own, IsNextOwn, own_functions, AreSteps, steps_at, At, IsReady}

-- ---- linkage, and `main`

links_new : (words : Storage) → MayDeclare words → (l : Bool) → IsLinkage (function_storage words) true l → links words ≡ l
links_new no_storage m l h = sym h
links_new is_extern m l h = sym h
links_new is_static m l h = sym h
links_new a_typedef m l h = absurd m
links_new is_auto m l h = absurd m
links_new is_register m l h = absurd m
links_new several m l h = absurd m

links_known : (words : Storage) → MayDeclare words → (l : Bool) → IsLinkage (function_storage words) false l → function_linkage_agrees words l ≡ true
links_known no_storage m l h = refl
links_known is_extern m l h = refl
links_known is_static m l h = ap not h
links_known a_typedef m l h = absurd m
links_known is_auto m l h = absurd m
links_known is_register m l h = absurd m
links_known several m l h = absurd m

links_library : (words : Storage) → MayDeclare words → words ≢ is_static → links words ≡ true
links_library no_storage m n = refl
links_library is_extern m n = refl
links_library is_static m n = absurd (n refl)
links_library a_typedef m n = absurd m
links_library is_auto m n = absurd m
links_library is_register m n = absurd m
links_library several m n = absurd m

pub main_fits : {A : Type 0} (x : List ℕ) (at : ℕ) (t : CType) (r : Answer A) → IsMainType x t → main_function x at t r ≡ r
unfolding is_main
main_fits x at t r h = by_test (is_main x) refl
  where
    by_test : (b : Bool) → is_main x ≡ b
        → cond (b && not (Rattle.c_types.specs.Sameness.same_type t main_type)) (refused R.Main at) r ≡ r
    by_test false e = refl
    by_test true e =
        let s = same_self t main_type (h (sym (same_bytes (codes "main") x e))) in
        ap (λ b. cond (not b) (refused R.Main at) r) s

-- ---- lists

pub map_back : {X Y : Type 0} (v : X → Y) (xs : List X) (k : ℕ) (y : Y) → slice_get (map v xs) k ≡ Some y → (x : X) × (slice_get xs k ≡ Some x) × (v x ≡ y)
map_back v [] k y e = cc
map_back v (x ∷ xs) zero y e = (x, refl, let f : v x ≡ y = cc in f)
map_back v (x ∷ xs) (suc k) y e = map_back v xs k y e

there_in : {X : Type 0} (xs : List X) (n : ℕ) → n < length xs → (x : X) × (slice_get xs n ≡ Some x)
there_in [] n l = absurd (omega (arith, l))
there_in (x ∷ xs) zero l = (x, refl)
there_in (x ∷ xs) (suc n) l = there_in xs n (omega (arith, l))

abbrev pub with_functions : Lists → List AFunction → Lists
with_functions c all = record { names = c.names; records = c.records; objects = c.objects; functions = all; mentions = c.mentions }

abbrev pub AreOfFile : FileScope → List AFunction → Type 0
AreOfFile g all = (n : ℕ) (o : AFunction) → slice_get all n ≡ Some o → (p : AFunction) × (slice_get g.functions n ≡ Some p) × IsSameFunction o p

-- with other functions, each of which is one of the whole file
pub functions_filed : (g : FileScope) (c : Lists) (all : List AFunction) → IsFiled g c → AreOfFile g all → length c.functions ≤ length all
    → IsFiled g (with_functions c all)
functions_filed g c all f same long = record {
  extends = record {
    file = refl;
    tags = refl;
    ends = refl;
    numbered = refl;
    untagged = refl;
    names = f.extends.names;
    records = f.extends.records;
    mentions = f.extends.mentions;
    types = f.extends.types;
    objects = f.extends.objects;
    functions = λ k t h.
        let z = map_back (λ (o : AFunction). o.ty) all k t h in
        let p = same k z.0 z.1 in
        mapped_at (λ (o : AFunction). o.ty) g.functions k p.0 p.1 ∙ ap (λ t. some t) (p.2.ty ∙ z.2);
  };
  objects = f.objects;
  functions = same;
  objects_there = f.objects_there;
  functions_there = λ k b e n t is. let l = f.functions_there k b e n t is in omega (arith, l, long);
  whole = f.whole;
}

module _ (g : FileScope) (w : IsWholeFile g) where
  -- ---- the function that a name stands for: a new one, or one that was declared

  pub record IsOwnFunction (x : Spelling) (words : Storage) (place : ℕ) (t : CType) (n : ℕ) (first : Bool) (h : AFunction) : Type 0 where
    pub there : slice_get g.functions n ≡ Some h
    pub name : h.name ≡ x.text
    pub ty : h.ty ≡ t
    pub linkage : IsLinkage (function_storage words) first h.is_linked
    pub begins : IsFirst first h.first place

  pub record FoundFunction (c : Lists) (words : Storage) (x : Spelling) (place : ℕ) (t : CType) (nodes n : ℕ) (first : Bool) (old : Option Bound) : Type 0
    where
      pub lists : Lists
      pub is : function_of (part g c) words x place t nodes old ≡ Ok (n, part g lists)
      pub filed : IsFiled g lists
      pub names : lists.names ≡ c.names
      pub records : lists.records ≡ c.records
      pub objects : lists.objects ≡ c.objects
      pub functions : length lists.functions ≡ length c.functions + own_functions (Some (a_function n t)) first
      pub there : n < length lists.functions

  one_new : (c : Lists) (words : Storage) (x : Spelling) (place : ℕ) (t : CType) (nodes n : ℕ) (h : AFunction) → MayDeclare words → IsFiled g c
      → IsNextOwn g (length c.objects) (length c.functions) (Some (a_function n t)) true place → IsOwnFunction x words place t n true h
      → FoundFunction c words x place t nodes n true None
  unfolding function_of
  one_new c words x place t nodes n h may f next own =
      let number : n ≡ length c.functions = w.functions_apart n (length c.functions) h next.0 own.there next.1 (own.begins ∙ sym next.2) in
      let new = new_function (part g c) words x place t nodes in
      let lists = with_functions c (c.functions ++ new ∷ []) in
      let long = length-append c.functions (new ∷ []) in
      let there = subst (λ n. slice_get g.functions n ≡ Some h) number own.there in
      let same : IsSameFunction new h = record {
        name = own.name;
        first = own.begins;
        ty = own.ty;
        is_linked = sym (links_new words may h.is_linked own.linkage);
        settled = λ s. cc;
      } in
      record {
        lists = lists;
        is = ap (λ k. ok (k, part g lists)) (sym number);
        filed = functions_filed g c (c.functions ++ new ∷ []) f (λ k p e. one k p (last_or c.functions new k p e) same there)
            (omega (arith, long));
        names = refl;
        records = refl;
        objects = refl;
        functions = long;
        there = omega (arith, long, number);
      }
    where
      one : {new : AFunction} (k : ℕ) (p : AFunction) → (slice_get c.functions k ≡ Some p) ⊎ ((k ≡ length c.functions) × (new ≡ p))
          → IsSameFunction new h → slice_get g.functions (length c.functions) ≡ Some h
          → (q : AFunction) × (slice_get g.functions k ≡ Some q) × IsSameFunction p q
      one k p (inl e) same there = f.functions k p e
      one k p (inr e) same there =
          (h, subst (λ k. slice_get g.functions k ≡ Some h) (sym e.0) there, subst (λ p. IsSameFunction p h) e.1 same)

  one_known : (c : Lists) (words : Storage) (x : Spelling) (place : ℕ) (t : CType) (nodes n : ℕ) (h : AFunction) (old : Bound) → MayDeclare words
      → IsFiled g c → n < length c.functions → old.entity ≡ a_function n t → IsOwnFunction x words place t n false h
      → FoundFunction c words x place t nodes n false (Some old)
  unfolding function_of
  one_known c words x place t nodes n h old may f less stands own =
      let z = there_in c.functions n less in
      let q = f.functions n z.0 z.1 in
      let same : q.0 ≡ h = some_is q.0 h (sym q.1 ∙ own.there) in
      let linked : z.0.is_linked ≡ h.is_linked = sym q.2.is_linked ∙ ap (λ (o : AFunction). o.is_linked) same in
      let agrees : function_linkage_agrees words z.0.is_linked ≡ true =
      ap (function_linkage_agrees words) linked ∙ links_known words may h.is_linked own.linkage in
      let e : function_linkage_agrees words (function_linked_before (slice_get c.functions n)) ≡ true =
      ap (λ o. function_linkage_agrees words (function_linked_before o)) z.1 ∙ agrees in
      let s = same_self t t refl in
      record {
        lists = c;
        is = ap (known_function (part g c) words x t old) stands ∙ rw (s, e) refl;
        filed = f;
        names = refl;
        records = refl;
        objects = refl;
        functions = omega arith;
        there = less;
      }

  pub own_found : (c : Lists) (words : Storage) (x : Spelling) (place : ℕ) (t : CType) (nodes n : ℕ) (h : AFunction) (first : Bool) (old : Option Bound)
      (b : Bound) → MayDeclare words → IsFiled g c → declared_among c.names b.name ≡ old → first ≡ is_none old
      → IsNextOwn g (length c.objects) (length c.functions) (Some (a_function n t)) first place → IsOwnFunction x words place t n first h
      → b.entity ≡ a_function n t → slice_get g.names (length c.names) ≡ Some b → FoundFunction c words x place t nodes n first old
  own_found c words x place t nodes n h true None b may f e i next own is there = one_new c words x place t nodes n h may f next own
  own_found c words x place t nodes n h false None b may f e i next own is there = cc
  own_found c words x place t nodes n h true (Some old) b may f e i next own is there = cc
  own_found c words x place t nodes n h false (Some old) b may f e i next own is there =
      let both = declared_earlier g w c f.extends b there old e in
      let d = declared_is c.names b.name old e in
      one_known c words x place t nodes n h old may f (f.functions_there d.0 old d.1 n t (both.same ∙ is)) (both.same ∙ is) own

  -- ---- declarators

  pub named_ready : (c : Lists) (b : Bound) (n r o f : ℕ) (rest : List Step) → IsFiled g (naming c b)
      → AreSteps g n r o f (events (At (a_name b.from ∷ [])) ∷ rest) → n ≡ length c.names → r ≡ length c.records → o ≡ length c.objects
      → f ≡ length c.functions → IsReady g (naming c b) rest
  named_ready c b n r o f rest filed s en er eo ef =
      let long = length-append c.names (b ∷ []) in
      record {
        filed = filed;
        steps = steps_at g _ _ _ _ (length (naming c b).names) (length c.records) (length c.objects) (length c.functions) rest
            (omega (arith, long, en)) (omega (arith, er)) (omega (arith, eo)) ef s.1;
      }

  own_function_found : (words : Storage) (c : Lists) (x : Spelling) (place from : ℕ) (t : CType) (nodes n : ℕ) (h : AFunction) (rest : List Step)
      → MayDeclare words → is_first g x ≡ is_none (declared_among c.names x.text)
      → IsReady g c (an_own (Some (a_function n t)) (is_first g x) place ∷ events (At (a_name from ∷ [])) ∷ rest) → IsOwnFunction x words place t n (is_first g x) h
      → IsBound (at_file_scope g) (bound x from declares (a_function n t)) → FoundFile g w (declare_own (part g c) words x place from t nodes) rest
  own_function_found words c x place from t nodes n h rest may first ready is binds =
      let b = bound x from declares (a_function n t) in
      let s = ready.steps in
      let next = next_bound g w c b s.1.0.0 binds in
      let z = own_found c words x place t nodes n h (is_first g x) (declared_among c.names x.text) b may ready.filed refl first s.0 is refl next in
      let m = z.lists in
      let next_there : slice_get g.names (length m.names) ≡ Some b = subst (λ all. slice_get g.names (length all) ≡ Some b) (sym z.names) next in
      let named = naming_filed g w m z.filed b next_there (λ k u e. cc)
      (λ k u e. let k_is : n ≡ k = cc in let l = z.there in omega (arith, l, k_is)) in
      let main : IsMainType x.text t = λ e. sym is.ty ∙ w.main n h is.there (is.name ∙ e) in
      record {
        lists = naming m b;
        is = main_fits x.text x.from t (function_of (part g c) words x place t nodes (declared_among c.names x.text)
            >>= λ n. ok (with_bound n.1 (bound x from declares (a_function n.0 t)))) main
            ∙ ap (λ r. r >>= λ n. ok (with_bound n.1 (bound x from declares (a_function n.0 t)))) z.is;
        ready = named_ready m b _ _ _ _ rest named s.1 (sym (ap length z.names)) (sym (ap length z.records))
            (let o = ap length z.objects in omega (arith, o)) (let k = z.functions in omega (arith, k));
      }

  library_found : (words : Storage) (c : Lists) (x : Spelling) (place from : ℕ) (t : CType) (which : LibraryFunction) (rest : List Step)
      → MayDeclare words → words ≢ is_static → t ≡ library_type which
      → IsReady g c (an_own (Some (a_library_function which)) (is_first g x) place ∷ events (At (a_name from ∷ [])) ∷ rest)
      → IsBound (at_file_scope g) (bound x from declares (a_library_function which))
      → FoundFile g w (declare_library (part g c) words x from t which) rest
  library_found words c x place from t which rest may proper ty ready binds =
      let b = bound x from declares (a_library_function which) in
      let s = ready.steps in
      let next = next_bound g w c b s.1.0.0 binds in
      let named = naming_filed g w c ready.filed b next (λ k u e. cc) (λ k u e. cc) in
      let k = links_library words may proper in
      let same = same_self t (library_type which) ty in
      let a = again (declared_among c.names x.text) (λ old e. (declared_earlier g w c ready.filed.extends b next old e).same) in
      record {
        lists = naming c b;
        is = rw (same, k, a) refl;
        ready = named_ready c b _ _ _ _ rest named s.1 refl refl (omega arith) (omega arith);
      }
    where
      again : (o : Option Bound) → ((old : Bound) → o ≡ Some old → old.entity ≡ a_library_function which) → library_again which o ≡ true
      again None h = refl
      again (Some old) h = let e = h old refl in rw e refl

  -- one of the library, or another one
  pub function_found : (words : Storage) (c : Lists) (x : Spelling) (place from : ℕ) (t : CType) (nodes n : ℕ) (h : AFunction) (rest : List Step)
      → MayDeclare words → IsOwnName x.text → is_first g x ≡ is_none (declared_among c.names x.text)
      → IsReady g c (an_own (Some (a_function n t)) (is_first g x) place ∷ events (At (a_name from ∷ [])) ∷ rest) → IsOwnFunction x words place t n (is_first g x) h
      → IsBound (at_file_scope g) (bound x from declares (a_function n t))
      → FoundFile g w (declare_function (part g c) words x place from t nodes (library_named x.text)) rest
  function_found words c x place from t nodes n h rest may own first ready is binds =
      let z = own_function_found words c x place from t nodes n h rest may first ready is binds in
      record {
        lists = z.lists;
        is = ap (declare_function (part g c) words x place from t nodes) (own_back x.text own) ∙ z.is;
        ready = z.ready;
      }

  pub library_function_found : (words : Storage) (c : Lists) (x : Spelling) (place from : ℕ) (t : CType) (nodes : ℕ) (which : LibraryFunction)
      (rest : List Step) → MayDeclare words → x.text ≡ library_name which → words ≢ is_static → t ≡ library_type which
      → IsReady g c (an_own (Some (a_library_function which)) (is_first g x) place ∷ events (At (a_name from ∷ [])) ∷ rest)
      → IsBound (at_file_scope g) (bound x from declares (a_library_function which))
      → FoundFile g w (declare_function (part g c) words x place from t nodes (library_named x.text)) rest
  library_function_found words c x place from t nodes which rest may name proper ty ready binds =
      let z = library_found words c x place from t which rest may proper ty ready binds in
      record {
        lists = z.lists;
        is = ap (declare_function (part g c) words x place from t nodes) (library_back x.text which name) ∙ z.is;
        ready = z.ready;
      }
