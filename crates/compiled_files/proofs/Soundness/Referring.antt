-- What a program of files refers to is there: a function has a body, and an object what it holds at first.
use Rattle.std.proofs.Common.{◌≡◌, ℕ, zero, suc, ◌+◌, ◌==◌, Bool, true, false, ◌||◌, ◌&&◌, not, List, [], ◌∷◌, ◌++◌, flat_map, Option, Some, refl, sym, subst}
use Rattle.std.proofs.Common.{slice_get, arith, inl, inr, if◌then◌else◌}
use Rattle.std.proofs.lemmas.Bool.{eq-eqb, or_left, or_right, true_from_ne_false}
use Rattle.std.specs.List.{AllByRecursion as Each, list_any}
use Rattle.std.specs.Prelude.{is_some}
use Rattle.c_link.specs.Joining.{if_any}
use Rattle.c_link.specs.Gaps.{Trouble, HasNone, IsIn, IsMissing, all_references, is_function, is_object, missing_function, missing_functions}
use Rattle.c_link.specs.Gaps.{missing_object, missing_objects, referred_by_value}
use Rattle.c_typed.specs.Programs.{FunctionData, ProgramData}
use Rattle.c_typed.specs.References.{Reference, an_object, a_function, references_by_statement}
use Rattle.c_typed.specs.Trees.{Statement}
use Rattle.c_typed.specs.declared.program.Initial.{Initial}
use Rattle.c_typed.specs.declared.program.Object.{Object}
use Rattle.compiled_files.proofs.Soundness.Adding.{some_same}
use Rattle.compiled_files.proofs.Soundness.Bodies.{no_more}
use Rattle.compiled_files.proofs.Soundness.Typing.{IsThere}

-- ---- lists

any_front : {A : Type 0} (test : A → Bool) (a b : List A) → list_any test a ≡ true → list_any test (a ++ b) ≡ true
any_front test [] b e = cc
any_front test (x ∷ a) b e = by_first (test x) refl e (any_front test a b)
  where
    by_first : (t : Bool) → test x ≡ t → (t || list_any test a) ≡ true → (list_any test a ≡ true → list_any test (a ++ b) ≡ true)
        → (test x || list_any test (a ++ b)) ≡ true
    by_first true is e more = or_left (test x) (list_any test (a ++ b)) is
    by_first false is e more = or_right (test x) (list_any test (a ++ b)) (more e)

any_back : {A : Type 0} (test : A → Bool) (a b : List A) → list_any test b ≡ true → list_any test (a ++ b) ≡ true
any_back test [] b e = e
any_back test (x ∷ a) b e = or_right (test x) (list_any test (a ++ b)) (any_back test a b e)

any_of : {A B : Type 0} (test : B → Bool) (f : A → List B) (all : List A) (k : ℕ) (x : A) → slice_get all k ≡ Some x → list_any test (f x) ≡ true
    → list_any test (flat_map f all) ≡ true
any_of test f [] k x i e = cc
any_of test f (y ∷ all) zero x i e =
    any_front test (f y) (flat_map f all) (subst (λ y. list_any test (f y) ≡ true) (sym (some_same i)) e)
any_of test f (y ∷ all) (suc k) x i e = any_back test (f y) (flat_map f all) (any_of test f all k x i e)

in_front : (t : Trouble) (a b : List Trouble) → IsIn t a → IsIn t (a ++ b)
in_front t [] b i = absurd i
in_front t (x ∷ a) b (inl e) = inl e
in_front t (x ∷ a) b (inr i) = inr (in_front t a b i)

in_back : (t : Trouble) (a b : List Trouble) → IsIn t b → IsIn t (a ++ b)
in_back t [] b i = i
in_back t (x ∷ a) b i = inr (in_back t a b i)

-- ---- what is missing is found

found : (t : Trouble) (used there : Bool) → used ≡ true → there ≡ false → IsIn t (if used && not there then t ∷ [] else [])
found t true true u h = cc
found t true false u h = inl refl
found t false there u h = cc

missing_is : (all : List Reference) (n : ℕ) (fs : List FunctionData) (i : ℕ) (h : FunctionData) → slice_get fs i ≡ Some h
    → list_any (is_function (n + i)) all ≡ true → is_some h.body ≡ false → (t : Trouble) × IsIn t (missing_functions all n fs)
missing_is all n [] i h e used none = cc
missing_is all n (f ∷ more) zero h e used none =
    let t : Trouble = record { name = f.name; place = f.place; first = f.place } in
    let same : f ≡ h = some_same e in
    let used' : list_any (is_function n) all ≡ true = subst (λ k. list_any (is_function k) all ≡ true) (let z : n + 0 ≡ n = omega arith in z) used in (
      t,
      in_front t (missing_function all n f) (missing_functions all (n + 1) more)
          (found t (list_any (is_function n) all) (is_some f.body) used' (subst (λ (f : FunctionData). is_some f.body ≡ false) (sym same) none)),
    )
missing_is all n (f ∷ more) (suc i) h e used none =
    let used' = subst (λ k. list_any (is_function k) all ≡ true) (let z : n + suc i ≡ n + 1 + i = omega arith in z) used in
    let rest = missing_is all (n + 1) more i h e used' none in
    (rest.0, in_back rest.0 (missing_function all n f) (missing_functions all (n + 1) more) rest.1)

missing_object_is : (all : List Reference) (n : ℕ) (os : List Object) (i : ℕ) (o : Object) → slice_get os i ≡ Some o
    → list_any (is_object (n + i)) all ≡ true → is_some o.initial ≡ false → (t : Trouble) × IsIn t (missing_objects all n os)
missing_object_is all n [] i o e used none = cc
missing_object_is all n (f ∷ more) zero o e used none =
    let t : Trouble = record { name = f.name; place = f.place; first = f.place } in
    let same : f ≡ o = some_same e in
    let used' : list_any (is_object n) all ≡ true = subst (λ k. list_any (is_object k) all ≡ true) (let z : n + 0 ≡ n = omega arith in z) used in (
      t,
      in_front t (missing_object all n f) (missing_objects all (n + 1) more)
          (found t (list_any (is_object n) all) (is_some f.initial) used' (subst (λ (f : Object). is_some f.initial ≡ false) (sym same) none)),
    )
missing_object_is all n (f ∷ more) (suc i) o e used none =
    let used' = subst (λ k. list_any (is_object k) all ≡ true) (let z : n + suc i ≡ n + 1 + i = omega arith in z) used in
    let rest = missing_object_is all (n + 1) more i o e used' none in
    (rest.0, in_back rest.0 (missing_object all n f) (missing_objects all (n + 1) more) rest.1)

module _ (p : ProgramData) where
  abbrev pub IsUsed : ℕ → Type 0
  IsUsed f = list_any (is_function f) (all_references p) ≡ true

  abbrev pub IsUsedObject : ℕ → Type 0
  IsUsedObject n = list_any (is_object n) (all_references p) ≡ true

  -- ---- nothing is missing

  module _ (names : HasNone (IsMissing p)) where
    pub has_body : (f : ℕ) (h : FunctionData) → slice_get p.functions f ≡ Some h → IsUsed f → is_some h.body ≡ true
    has_body f h e used = true_from_ne_false (is_some h.body) (λ none.
        let used' = subst (λ k. list_any (is_function k) (all_references p) ≡ true) (let z : f ≡ 0 + f = omega arith in z) used in
        let z = missing_is (all_references p) 0 p.functions f h e used' none in
        names z.0 (in_back z.0 (missing_objects (all_references p) 0 p.objects) (missing_functions (all_references p) 0 p.functions) z.1))

    pub has_initial : (n : ℕ) (o : Object) → slice_get p.objects n ≡ Some o → IsUsedObject n → is_some o.initial ≡ true
    has_initial n o e used = true_from_ne_false (is_some o.initial) (λ none.
        let used' = subst (λ k. list_any (is_object k) (all_references p) ≡ true) (let z : n ≡ 0 + n = omega arith in z) used in
        let z = missing_object_is (all_references p) 0 p.objects n o e used' none in
        names z.0 (in_front z.0 (missing_objects (all_references p) 0 p.objects) (missing_functions (all_references p) 0 p.functions) z.1))

  -- ---- what bodies and objects refer to is used

  abbrev of_functions : List Reference
  of_functions = flat_map (λ (f : FunctionData). flat_map references_by_statement (if_any f.body)) p.functions

  abbrev of_object : Object → List Reference
  of_object o = flat_map referred_by_value (flat_map (λ (all : List Initial). all) (if_any o.initial))

  abbrev of_objects : List Reference
  of_objects = flat_map of_object p.objects

  in_body : (f : ℕ) (h : FunctionData) (body : Statement ℕ) → slice_get p.functions f ≡ Some h → h.body ≡ Some body → (test : Reference → Bool)
      → list_any test (references_by_statement body) ≡ true → list_any test (all_references p) ≡ true
  in_body f h body e is test t =
      let own : list_any test (flat_map references_by_statement (if_any h.body)) ≡ true =
      subst (λ (b : Option (Statement ℕ)). list_any test (flat_map references_by_statement (if_any b)) ≡ true) (sym is)
      (any_front test (references_by_statement body) [] t) in
      any_front test of_functions of_objects
      (any_of test (λ (f : FunctionData). flat_map references_by_statement (if_any f.body)) p.functions f h e own)

  in_object : (n : ℕ) (o : Object) (all : List Initial) → slice_get p.objects n ≡ Some o → o.initial ≡ Some all → (k : ℕ) (i : Initial)
      → slice_get all k ≡ Some i
      → (test : Reference → Bool) → list_any test (referred_by_value i) ≡ true → list_any test (all_references p) ≡ true
  in_object n o all e is k i there test t =
      let flat : slice_get (all ++ []) k ≡ Some i = subst (λ (all : List Initial). slice_get all k ≡ Some i) (sym (no_more all)) there in
      let own : list_any test (of_object o) ≡ true =
      subst (λ (b : Option (List Initial)). list_any test (flat_map referred_by_value (flat_map (λ (all : List Initial). all) (if_any b))) ≡ true) (sym is)
      (any_of test referred_by_value (all ++ []) k i flat t) in
      any_back test of_functions of_objects (any_of test of_object p.objects n o e own)

  each_used : (refs : List Reference) → ((test : Reference → Bool) → list_any test refs ≡ true → list_any test (all_references p) ≡ true)
      → Each (IsThere IsUsed) refs
  each_used [] h = tt
  each_used (an_object n ∷ more) h = (tt, each_used more (λ test t. h test (or_right (test (an_object n)) (list_any test more) t)))
  each_used (a_function f ∷ more) h = (
    h (is_function f) (or_left (f == f) (list_any (is_function f) more) (eq-eqb f f refl)),
    each_used more (λ test t. h test (or_right (test (a_function f)) (list_any test more) t)),
  )

  pub body_used : (f : ℕ) (h : FunctionData) (body : Statement ℕ) → slice_get p.functions f ≡ Some h → h.body ≡ Some body
      → Each (IsThere IsUsed) (references_by_statement body)
  body_used f h body e is = each_used (references_by_statement body) (in_body f h body e is)

  -- a value of an object
  pub value_used : (n : ℕ) (o : Object) (all : List Initial) → slice_get p.objects n ≡ Some o → o.initial ≡ Some all → (k : ℕ) (i : Initial)
      → slice_get all k ≡ Some i → Each (IsThere IsUsed) (referred_by_value i)
  value_used n o all e is k i there = each_used (referred_by_value i) (in_object n o all e is k i there)

  pub value_test : (n : ℕ) (o : Object) (all : List Initial) → slice_get p.objects n ≡ Some o → o.initial ≡ Some all → (k : ℕ) (i : Initial)
      → slice_get all k ≡ Some i → (test : Reference → Bool) → list_any test (referred_by_value i) ≡ true → list_any test (all_references p) ≡ true
  value_test = in_object
