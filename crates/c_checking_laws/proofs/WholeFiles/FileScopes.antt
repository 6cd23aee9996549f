-- What is declared at file scope stands in each file that goes on from there: typedefs and functions (C99 6.7, 6.9).
use Rattle.std.proofs.Common.{◌≡◌, ◌≢◌, ℕ, zero, suc, ◌<◌, Bool, true, false, refl, sym, ap, ◌∙◌, subst, List, [], ◌∷◌, ◌++◌, length, cond, arith}
use Rattle.std.proofs.lemmas.Bool.{and_parts}
use Rattle.std.proofs.lemmas.Slice.Eq.{bytes_eq-Decides}
use Rattle.std.specs.Prelude.{map, Option, Some, None, Ok, slice_get, is_none, not, ◌&&◌}
use Rattle.std.specs.Option.{IsSome}
use Rattle.c_types.specs.Sameness.{same_type}
use Rattle.c_types.specs.Types.{CType}
use Rattle.c_types.proofs.SameTypes.{same_is}
use Rattle.c_ast.specs.declared.words.Spelling.{Spelling}
use Rattle.c_typed.specs.declared.operators.LibraryFunction.{LibraryFunction}
use Rattle.c_typed.specs.declared.operators.LibraryFunction.TheVariants as L
use Rattle.c_erasure.specs.Erasure.{IsBound}
use Rattle.c_erasure.specs.Files.{library_name, IsOwnName, IsLinkage, function_storage, IsFirst, bound}
use Rattle.c_erasure.specs.Scopes.{FileScope, Bound, AnObject, AFunction, Entity, typedef, enumerator, an_object, a_function, a_library_function, a_local}
use Rattle.c_erasure.specs.Scopes.{a_parameter}
use Rattle.c_erasure.specs.Scopes.{declares, defines, at_file_scope}
use Rattle.c_erasure.specs.Specifiers.{Storage, no_storage, a_typedef, is_extern, is_static, is_auto, is_register, several}
use Rattle.c_erasure.specs.Checking.Answers.{Answer}
use Rattle.c_erasure.specs.Checking.Declaring.{declared_among, with_bound}
use Rattle.c_erasure.specs.Checking.Files.{is_library_name, first_named, library_named, own_name, main_function, is_main, main_type, once, links}
use Rattle.c_erasure.specs.Checking.Files.{function_linked_before, function_linkage_agrees, new_function, with_new_function, known_function, function_of}
use Rattle.c_erasure.specs.Checking.Files.{declare_own}
use Rattle.c_erasure.specs.Checking.Files.{declare_typedef}
use Rattle.c_checking_laws.proofs.Results.{bound_ok, given, chosen}
use Rattle.c_checking_laws.proofs.Extends.{Extends, itself, further, kept, at_end, bound_stays}
use Rattle.c_checking_laws.proofs.Adding.{Adds}

-- ---- what a later file keeps of objects and functions: where and as what each is declared first, and all of it where it is defined

pub record IsSameObject (o p : AnObject) : Type 0 where
  pub name : p.name ≡ o.name
  pub first : p.first ≡ o.first
  pub ty : p.ty ≡ o.ty
  pub is_linked : p.is_linked ≡ o.is_linked
  pub literal : p.literal ≡ o.literal
  pub settled : IsSome o.initial → p ≡ o

pub record IsSameFunction (o p : AFunction) : Type 0 where
  pub name : p.name ≡ o.name
  pub first : p.first ≡ o.first
  pub ty : p.ty ≡ o.ty
  pub is_linked : p.is_linked ≡ o.is_linked
  pub settled : IsSome o.body → p ≡ o

pub record Continues (f g : FileScope) : Type 0 where
  pub extends : Extends f g
  pub objects : (n : ℕ) (o : AnObject) → slice_get f.objects n ≡ Some o → (p : AnObject) × (slice_get g.objects n ≡ Some p) × IsSameObject o p
  pub functions : (n : ℕ) (o : AFunction) → slice_get f.functions n ≡ Some o → (p : AFunction) × (slice_get g.functions n ≡ Some p) × IsSameFunction o p

same_object : (o : AnObject) → IsSameObject o o
same_object o = record { name = refl; first = refl; ty = refl; is_linked = refl; literal = refl; settled = λ s. refl }

same_function : (o : AFunction) → IsSameFunction o o
same_function o = record { name = refl; first = refl; ty = refl; is_linked = refl; settled = λ s. refl }

pub continues_itself : (f : FileScope) → Continues f f
continues_itself f = record {
  extends = itself f;
  objects = λ n o h. (o, h, same_object o);
  functions = λ n o h. (o, h, same_function o);
}

object_then : (o p q : AnObject) → IsSameObject o p → IsSameObject p q → IsSameObject o q
object_then o p q a b = record {
  name = b.name ∙ a.name;
  first = b.first ∙ a.first;
  ty = b.ty ∙ a.ty;
  is_linked = b.is_linked ∙ a.is_linked;
  literal = b.literal ∙ a.literal;
  settled = λ s. b.settled (subst (λ (p : AnObject). IsSome p.initial) (sym (a.settled s)) s) ∙ a.settled s;
}

function_then : (o p q : AFunction) → IsSameFunction o p → IsSameFunction p q → IsSameFunction o q
function_then o p q a b = record {
  name = b.name ∙ a.name;
  first = b.first ∙ a.first;
  ty = b.ty ∙ a.ty;
  is_linked = b.is_linked ∙ a.is_linked;
  settled = λ s. b.settled (subst (λ (p : AFunction). IsSome p.body) (sym (a.settled s)) s) ∙ a.settled s;
}

pub continues_then : {f g h : FileScope} → Continues f g → Continues g h → Continues f h
continues_then p q = record {
  extends = further p.extends q.extends;
  objects = λ n o i.
      let a = p.objects n o i in
      let b = q.objects n a.0 a.1 in
      (b.0, b.1, object_then o a.0 b.0 a.2 b.2);
  functions = λ n o i.
      let a = p.functions n o i in
      let b = q.functions n a.0 a.1 in
      (b.0, b.1, function_then o a.0 b.0 a.2 b.2);
}

-- what only adds objects behind those of a file
pub adds_continues : {f g : FileScope} {a b c : Bool} {u : List Rattle.c_erasure.specs.Marks.Mark} {x k : List ℕ} → Extends f g → Adds f a b c u x k g
    → Continues f g
adds_continues {f} {g} e p = record {
  extends = e;
  objects = λ n o h. (o, subst (λ all. slice_get all n ≡ Some o) (sym p.objects.1) (kept f.objects p.objects.0 n o h), same_object o);
  functions = λ n o h. (o, subst (λ all. slice_get all n ≡ Some o) (sym p.functions) h, same_function o);
}

-- ---- names that are none of the library's

other_name : (which : LibraryFunction) (x : List ℕ) → is_library_name which x ≡ false → x ≢ library_name which
other_name which x h e = let t = (bytes_eq-Decides (library_name which) x).1 (sym e) in cc

first_is_other : (which : LibraryFunction) (more : List LibraryFunction) (x : List ℕ) → first_named (which ∷ more) x ≡ None
    → (is_library_name which x ≡ false) × (first_named more x ≡ None)
first_is_other which more x h = by_test (is_library_name which x) refl h
  where
    by_test : (b : Bool) → is_library_name which x ≡ b → cond b (Some which) (first_named more x) ≡ None
        → (is_library_name which x ≡ false) × (first_named more x ≡ None)
    by_test true e h = cc
    by_test false e h = (e, h)

pub own_is : (x : List ℕ) → library_named x ≡ None → IsOwnName x
unfolding library_named
own_is x h =
    let a = first_is_other L.Malloc (L.Calloc ∷ L.Free ∷ L.Memcpy ∷ L.Memmove ∷ L.Memset ∷ L.Memcmp ∷ L.Putchar ∷ L.Getchar ∷ L.Exit ∷ []) x h in
    let b = first_is_other L.Calloc (L.Free ∷ L.Memcpy ∷ L.Memmove ∷ L.Memset ∷ L.Memcmp ∷ L.Putchar ∷ L.Getchar ∷ L.Exit ∷ []) x a.1 in
    let c = first_is_other L.Free (L.Memcpy ∷ L.Memmove ∷ L.Memset ∷ L.Memcmp ∷ L.Putchar ∷ L.Getchar ∷ L.Exit ∷ []) x b.1 in
    let d = first_is_other L.Memcpy (L.Memmove ∷ L.Memset ∷ L.Memcmp ∷ L.Putchar ∷ L.Getchar ∷ L.Exit ∷ []) x c.1 in
    let e = first_is_other L.Memmove (L.Memset ∷ L.Memcmp ∷ L.Putchar ∷ L.Getchar ∷ L.Exit ∷ []) x d.1 in
    let f = first_is_other L.Memset (L.Memcmp ∷ L.Putchar ∷ L.Getchar ∷ L.Exit ∷ []) x e.1 in
    let g = first_is_other L.Memcmp (L.Putchar ∷ L.Getchar ∷ L.Exit ∷ []) x f.1 in
    let i = first_is_other L.Putchar (L.Getchar ∷ L.Exit ∷ []) x g.1 in
    let j = first_is_other L.Getchar (L.Exit ∷ []) x i.1 in
    let k = first_is_other L.Exit [] x j.1 in
    by_which a.0 b.0 c.0 d.0 e.0 f.0 g.0 i.0 j.0 k.0
  where
    by_which : is_library_name L.Malloc x ≡ false → is_library_name L.Calloc x ≡ false → is_library_name L.Free x ≡ false → is_library_name L.Memcpy x ≡ false
        → is_library_name L.Memmove x ≡ false → is_library_name L.Memset x ≡ false → is_library_name L.Memcmp x ≡ false → is_library_name L.Putchar x ≡ false
        → is_library_name L.Getchar x ≡ false → is_library_name L.Exit x ≡ false → IsOwnName x
    by_which a b c d e f g i j k L.Malloc = other_name L.Malloc x a
    by_which a b c d e f g i j k L.Calloc = other_name L.Calloc x b
    by_which a b c d e f g i j k L.Free = other_name L.Free x c
    by_which a b c d e f g i j k L.Memcpy = other_name L.Memcpy x d
    by_which a b c d e f g i j k L.Memmove = other_name L.Memmove x e
    by_which a b c d e f g i j k L.Memset = other_name L.Memset x f
    by_which a b c d e f g i j k L.Memcmp = other_name L.Memcmp x g
    by_which a b c d e f g i j k L.Putchar = other_name L.Putchar x i
    by_which a b c d e f g i j k L.Getchar = other_name L.Getchar x j
    by_which a b c d e f g i j k L.Exit = other_name L.Exit x k

pub own_answer : {A : Type 0} (at : ℕ) (o : Option LibraryFunction) (r : Answer A) (z : A) → own_name at o r ≡ Ok z → (o ≡ None) × (r ≡ Ok z)
own_answer at None r z h = (refl, h)
own_answer at (Some which) r z h = cc

pub once_answer : {A : Type 0} (x : Spelling) (o : Option Bound) (r : Answer A) (z : A) → once x o r ≡ Ok z → (o ≡ None) × (r ≡ Ok z)
once_answer x None r z h = (refl, h)
once_answer x (Some b) r z h = cc

-- ---- typedefs

-- a name is bound behind the others
pub bound_there : (f g : FileScope) (b : Bound) → Extends (with_bound f b) g → IsBound (at_file_scope g) b
bound_there f g b p = (length f.names, bound_stays p (length f.names) b (at_end f.names b))

pub record IsTypedefDeclared (f : FileScope) (x : Spelling) (from : ℕ) (t : CType) (g : FileScope) : Type 0 where
  pub own : IsOwnName x.text
  pub is_new : declared_among f.names x.text ≡ None
  pub file_is : g ≡ with_bound f (bound x from defines (typedef t))
  pub binds : (h : FileScope) → Extends g h → IsBound (at_file_scope h) (bound x from defines (typedef t))

pub typedef_declared : (f : FileScope) (x : Spelling) (from : ℕ) (t : CType) (g : FileScope) → declare_typedef f x from t ≡ Ok g
    → IsTypedefDeclared f x from t g
typedef_declared f x from t g h =
    let o = own_answer x.from (library_named x.text) _ g h in
    let n = once_answer x (declared_among f.names x.text) _ g o.1 in
    given (IsTypedefDeclared f x from t) (with_bound f (bound x from defines (typedef t))) g n.1 (record {
      own = own_is x.text o.0;
      is_new = n.0;
      file_is = refl;
      binds = λ h p. bound_there f h (bound x from defines (typedef t)) p;
    })

-- ---- functions and objects: declared for the first time, or again

abbrev pub MayDeclare : Storage → Type 0
MayDeclare no_storage = Unit {0}
MayDeclare is_extern = Unit {0}
MayDeclare is_static = Unit {0}
MayDeclare words = ⊥

-- what a name that was declared before stands for
pub record StandsFor (f : FileScope) (x : Spelling) (place : ℕ) (b : Bound) : Type 0 where
  pub functions : (n : ℕ) (t : CType) → b.entity ≡ a_function n t
      → (o : AFunction) × (slice_get f.functions n ≡ Some o) × (o.name ≡ x.text) × (o.ty ≡ t) × (o.first < place)
  pub objects : (n : ℕ) (t : CType) → b.entity ≡ an_object n t
      → (o : AnObject) × (slice_get f.objects n ≡ Some o) × (o.name ≡ x.text) × (o.ty ≡ t) × (o.literal ≡ None) × (o.first < place)

new_linkage : (words : Storage) → MayDeclare words → IsLinkage (function_storage words) true (links words)
new_linkage no_storage m = refl
new_linkage is_extern m = refl
new_linkage is_static m = refl
new_linkage a_typedef m = absurd m
new_linkage is_auto m = absurd m
new_linkage is_register m = absurd m
new_linkage several m = absurd m

negation_false : (b : Bool) → not b ≡ true → b ≡ false
negation_false true h = cc
negation_false false h = refl

known_linkage : (words : Storage) → MayDeclare words → (linked : Bool) → function_linkage_agrees words linked ≡ true
    → IsLinkage (function_storage words) false linked
known_linkage no_storage m linked h = tt
known_linkage is_extern m linked h = tt
known_linkage is_static m linked h = negation_false linked h
known_linkage a_typedef m linked h = absurd m
known_linkage is_auto m linked h = absurd m
known_linkage is_register m linked h = absurd m
known_linkage several m linked h = absurd m

-- a function of the file, under its number
pub record IsTheFunction (f : FileScope) (words : Storage) (x : Spelling) (place : ℕ) (t : CType) (first : Bool) (z : ℕ × FileScope) : Type 0 where
  pub continues : Continues f z.1
  pub function : AFunction
  pub stands : slice_get z.1.functions z.0 ≡ Some function
  pub name : function.name ≡ x.text
  pub ty : function.ty ≡ t
  pub linkage : IsLinkage (function_storage words) first function.is_linked
  pub first_place : IsFirst first function.first place

function_added : (f : FileScope) (o : AFunction) → Continues f (with_new_function f o)
function_added f o = record {
  extends = record {
    file = refl;
    tags = refl;
    ends = refl;
    numbered = refl;
    untagged = refl;
    names = (itself f).names;
    records = (itself f).records;
    mentions = λ kind t at h. h;
    types = λ n t h. h;
    objects = λ n p h i. h;
    functions = λ n t h. map_kept (λ o. o.ty) f.functions (o ∷ []) n t h;
  };
  objects = λ n p h. (p, h, same_object p);
  functions = λ n p h. (p, kept f.functions (o ∷ []) n p h, same_function p);
}
  where
    map_kept : {X Y : Type 0} (v : X → Y) (xs ys : List X) (k : ℕ) (y : Y) → slice_get (map v xs) k ≡ Some y → slice_get (map v (xs ++ ys)) k ≡ Some y
    map_kept v [] ys k y e = cc
    map_kept v (x ∷ xs) ys zero y e = e
    map_kept v (x ∷ xs) ys (suc k) y e = map_kept v xs ys k y e

known_is : (f : FileScope) (words : Storage) → MayDeclare words → (x : Spelling) (place : ℕ) (t : CType) (old : Bound) → StandsFor f x place old
    → (e : Entity) → old.entity ≡ e → (z : ℕ × FileScope) → known_function f words x t old e ≡ Ok z → IsTheFunction f words x place t false z
known_is f words m x place t old k (a_function n u) e z h =
    let o = k.functions n u e in
    let linked = function_linked_before (slice_get f.functions n) in
    let there : linked ≡ o.0.is_linked = ap function_linked_before o.1 in
    chosen (same_type u t && function_linkage_agrees words linked) _ _ z (IsTheFunction f words x place t false z) h
    (λ b h.
    let p = and_parts (same_type u t) (function_linkage_agrees words linked) b in
    given (IsTheFunction f words x place t false) (n, f) z h (record {
      continues = continues_itself f;
      function = o.0;
      stands = o.1;
      name = o.2;
      ty = o.3 ∙ same_is u t p.0;
      linkage = known_linkage words m o.0.is_linked (subst (λ b. function_linkage_agrees words b ≡ true) there p.1);
      first_place = o.4;
    }))
    (λ b h. cc)
known_is f words m x place t old k (typedef u) e z h = cc
known_is f words m x place t old k (enumerator v) e z h = cc
known_is f words m x place t old k (an_object n u) e z h = cc
known_is f words m x place t old k (a_library_function which) e z h = cc
known_is f words m x place t old k (a_local n u) e z h = cc
known_is f words m x place t old k (a_parameter u) e z h = cc

pub function_is : (f : FileScope) (words : Storage) → MayDeclare words → (x : Spelling) (place : ℕ) (t : CType) (nodes : ℕ) (o : Option Bound)
    → ((b : Bound) → o ≡ Some b → StandsFor f x place b) → (z : ℕ × FileScope) → function_of f words x place t nodes o ≡ Ok z
    → IsTheFunction f words x place t (is_none o) z
unfolding function_of
function_is f words m x place t nodes None k z h =
    let g = new_function f words x place t nodes in
    given (IsTheFunction f words x place t true) (length f.functions, with_new_function f g) z h (record {
      continues = function_added f g;
      function = g;
      stands = at_end f.functions g;
      name = refl;
      ty = refl;
      linkage = new_linkage words m;
      first_place = refl;
    })
function_is f words m x place t nodes (Some old) k z h = known_is f words m x place t old (k old refl) old.entity refl z h

-- a declaration of a function: it stands in each file that goes on from there
pub record IsFunctionDeclared (words : Storage) (x : Spelling) (place from : ℕ) (t : CType) (first : Bool) (g : FileScope) : Type 0 where
  pub number : ℕ
  pub function : AFunction
  pub stands : slice_get g.functions number ≡ Some function
  pub name : function.name ≡ x.text
  pub ty : function.ty ≡ t
  pub linkage : IsLinkage (function_storage words) first function.is_linked
  pub first_place : IsFirst first function.first place
  pub binds : IsBound (at_file_scope g) (bound x from declares (a_function number t))

pub bound_put : (f : FileScope) (b : Bound) → Continues f (with_bound f b)
bound_put f b = record {
  extends = record {
    file = refl;
    tags = refl;
    ends = refl;
    numbered = refl;
    untagged = refl;
    names = (b ∷ [], refl);
    records = (itself f).records;
    mentions = λ kind t at h. h;
    types = λ n t h. h;
    objects = λ n o h i. h;
    functions = λ n t h. h;
  };
  objects = λ n o h. (o, h, same_object o);
  functions = λ n o h. (o, h, same_function o);
}

pub first_later : (first : Bool) (a b place : ℕ) → a ≡ b → IsFirst first b place → IsFirst first a place
first_later true a b place e h = e ∙ h
first_later false a b place e h = omega (arith, e, h)

pub function_declared : (f : FileScope) (words : Storage) → MayDeclare words → (x : Spelling) (place from : ℕ) (t : CType) (nodes : ℕ)
    → ((b : Bound) → declared_among f.names x.text ≡ Some b → StandsFor f x place b) → (g : FileScope) → declare_own f words x place from t nodes ≡ Ok g
    → Continues f g
    × ((h : FileScope) → Continues g h → IsFunctionDeclared words x place from t (is_none (declared_among f.names x.text)) h)
function_declared f words m x place from t nodes k g h =
    let p = main_answer x.text x.from t _ g h in
    let n = bound_ok (function_of f words x place t nodes (declared_among f.names x.text)) _ g p in
    let v = function_is f words m x place t nodes (declared_among f.names x.text) k n.0 n.1 in
    let b = bound x from declares (a_function n.0.0 t) in
    given (λ g. Continues f g × ((h : FileScope) → Continues g h → IsFunctionDeclared words x place from t (is_none (declared_among f.names x.text)) h))
    (with_bound n.0.1 b) g n.2 (
      continues_then v.continues (bound_put n.0.1 b),
      λ h c.
          let q = c.functions n.0.0 v.function v.stands in
          record {
            number = n.0.0;
            function = q.0;
            stands = q.1;
            name = q.2.name ∙ v.name;
            ty = q.2.ty ∙ v.ty;
            linkage = subst (λ b. IsLinkage (function_storage words) (is_none (declared_among f.names x.text)) b) (sym q.2.is_linked) v.linkage;
            first_place = first_later (is_none (declared_among f.names x.text)) q.0.first v.function.first place q.2.first v.first_place;
            binds = bound_there n.0.1 h b c.extends;
          },
    )
  where
    main_answer : {A : Type 0} (x : List ℕ) (at : ℕ) (t : CType) (r : Answer A) (z : A) → main_function x at t r ≡ Ok z → r ≡ Ok z
    main_answer x at t r z h = chosen (is_main x && not (same_type t main_type)) _ _ z (r ≡ Ok z) h (λ b h. cc) (λ b h. h)
