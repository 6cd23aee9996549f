-- The checker answers a file all of whose types are within the limits (C99 6.7, 6.9).
use Rattle.std.proofs.Common.{◌≡◌, ℕ, zero, suc, ◌+◌, Bool, true, false, refl, subst, cond, List, [], ◌∷◌, length, take, drop, arith}
use Rattle.std.specs.Prelude.{◌&&◌, not, Option, Some, None, Ok, slice_get, is_none}
use Rattle.std.specs.List.{AllByRecursion, list_any}
use Rattle.c_types.specs.Sameness.{same_type}
use Rattle.c_types.specs.Types.{CType, CTypes, void, integer, pointer, array, function, structure, no_types, and_type, Record}
use Rattle.c_ast.specs.declared.words.Spelling.{Spelling}
use Rattle.c_ast.specs.Places.{first_specifiers, first_declarator}
use Rattle.c_ast.specs.Trees
use Rattle.c_typed.specs.declared.operators.LibraryFunction.{LibraryFunction}
use Rattle.c_typed.specs.declared.program.MentionKind.TheVariants.{Object, Named}
use Rattle.c_typed.specs.Conversions.{is_function}
use Rattle.c_typed.specs.Fits.{library_type}
use Rattle.c_typed.specs.Trees as Typed
use Rattle.c_erasure.specs.Declarators.{declared_name, Shape, closed, open_array}
use Rattle.c_erasure.specs.Files.{bound, object_how, declares_tag, may_stand_in_file, parameters_of, in_body}
use Rattle.c_erasure.specs.Marks.{name_from, after_declarator}
use Rattle.c_erasure.specs.Noted.{Noted}
use Rattle.c_erasure.specs.Scopes as Scopes
use Rattle.c_erasure.specs.Scopes.{declares, defines, typedef, a_library_function, a_local, Entity, Bound, AnObject, ALocal, AFunction, FileScope, Scope}
use Rattle.c_erasure.specs.Scopes.{at_file_scope}
use Rattle.c_erasure.specs.Specifiers.{Storage, no_storage, a_typedef, is_extern, is_static, is_auto, is_register, several, storage_of}
use Rattle.c_erasure.specs.Statements.{Statements}
use Rattle.c_erasure.specs.Checking.Answers.{Answer, ◌>>=◌}
use Rattle.c_erasure.specs.Checking.Declaring.{with_mention, mentions_in, base_kind, derived, declared_among, with_bound, object_at}
use Rattle.c_erasure.specs.Checking.Files as Checked
use Rattle.c_erasure.specs.Checking.Files.{library_named, own_name, is_main, main_type, main_function, main_object, defined_among, once, links, new_object}
use Rattle.c_erasure.specs.Checking.Files.{with_new_object}
use Rattle.c_erasure.specs.Checking.Files.{linkage_agrees, linked_before, known_object, object_of, defined_object, with_definition, define_object, defined_once}
use Rattle.c_erasure.specs.Checking.Files.{declare_object}
use Rattle.c_erasure.specs.Checking.Files.{new_function, with_new_function, function_linkage_agrees, function_linked_before, known_function, function_of}
use Rattle.c_erasure.specs.Checking.Files.{library_again}
use Rattle.c_erasure.specs.Checking.Files.{declare_library, declare_own, declare_function, without_value, declare_typedef, declare_as, declarator_named}
use Rattle.c_erasure.specs.Checking.Files.{file_declarators, is_empty}
use Rattle.c_erasure.specs.Checking.Files.{file_declaration, function_storage, Received, received, received_if_named, named_parameters, received_by}
use Rattle.c_erasure.specs.Checking.Files.{defined_function, with_body}
use Rattle.c_erasure.specs.Checking.Files.{function_body, define_function, define_shape, definition_named, function_definition, item_nodes, filed_item, filed}
use Rattle.c_erasure.specs.Checking.Files.{unread, settled}
use Rattle.c_erasure.specs.Checking.Files.{settled_from, closed_file, annotated}
use Rattle.c_erasure.specs.Checking.Finding.{complete, base_type, one_of, derivations}
use Rattle.c_erasure.specs.Checking.Statements.{sized_in, constants_if_any, items_in}
use Rattle.c_checking_laws.proofs.Results.{bound_ok, chosen, given, only_if}
use Rattle.c_checking_units.proofs.TypeLimits.Types.{IsWithin, AreWithin, IsLonger, same_list, stays, function_pointer_within, result_within, parameters_within}
use Rattle.c_checking_units.proofs.TypeLimits.Trees.{EachInStatements}
use Rattle.c_checking_units.proofs.TypeLimits.Nodes.{IsEntity}
use Rattle.c_checking_units.proofs.TypeLimits.States.{one_more, AreLocals, AreBounds, IsObject, IsFunction, IsFile, IsScope, Goes, stands, goes_on, mentioned}
use Rattle.c_checking_units.proofs.TypeLimits.States.{mentioned_same, locals_stay, bounds_stay}
use Rattle.c_checking_units.proofs.TypeLimits.Literals.{ShortInitial, ShortInitDeclarators, ShortDeclarator, ShortSpecifiers, ShortBlockItems, ShortDeclaration}
use Rattle.c_checking_units.proofs.TypeLimits.Literals.{ShortItem, ShortItems}
use Rattle.c_checking_units.proofs.TypeLimits.Derived.{IsShape, few_parameters, derived_is, object_is}
use Rattle.c_checking_units.proofs.TypeLimits.Finding.{base_within, derivations_within, bound_goes}
use Rattle.c_checking_units.proofs.TypeLimits.Initials.{IsInitializer}
use Rattle.c_checking_units.proofs.TypeLimits.Statements.{sized_is, constants_within, set_each, object_replaced, object_added, items_within}

-- ---- what lets an answer pass

own_is : {A : Type 0} (at : ℕ) (o : Option LibraryFunction) (r : Answer A) (z : A) → own_name at o r ≡ Ok z → r ≡ Ok z
own_is at None r z h = h
own_is at (Some which) r z h = cc

main_is : {A : Type 0} (x : List ℕ) (at : ℕ) (t : CType) (r : Answer A) (z : A) → main_function x at t r ≡ Ok z → r ≡ Ok z
main_is x at t r z h = chosen (is_main x && not (same_type t main_type)) _ r z (r ≡ Ok z) h (λ b h. cc) (λ b h. h)

main_object_is : {A : Type 0} (x : List ℕ) (at : ℕ) (linked : Bool) (r : Answer A) (z : A) → main_object x at linked r ≡ Ok z → r ≡ Ok z
main_object_is x at linked r z h = chosen (is_main x && linked) _ r z (r ≡ Ok z) h (λ b h. cc) (λ b h. h)

once_is : {A : Type 0} (x : Spelling) (o : Option Bound) (r : Answer A) (z : A) → once x o r ≡ Ok z → r ≡ Ok z
once_is x None r z h = h
once_is x (Some old) r z h = cc

defined_once_is : {A : Type 0} (f : FileScope) (x : Spelling) (value : Option (ℕ × Trees.Expression)) (r : Answer A) (z : A)
    → defined_once f x value r ≡ Ok z → r ≡ Ok z
defined_once_is f x None r z h = h
defined_once_is f x (Some value) r z h = once_is x (defined_among f.names x.text) r z h

without_is : {A : Type 0} (at : ℕ) (value : Option (ℕ × Trees.Expression)) (r : Answer A) (z : A) → without_value at value r ≡ Ok z → r ≡ Ok z
without_is at None r z h = h
without_is at (Some value) r z h = cc

storage_is : {A : Type 0} (at : ℕ) (words : Storage) (r : Answer A) (z : A) → function_storage at words r ≡ Ok z → r ≡ Ok z
storage_is at no_storage r z h = h
storage_is at is_extern r z h = h
storage_is at is_static r z h = h
storage_is at a_typedef r z h = cc
storage_is at is_auto r z h = cc
storage_is at is_register r z h = cc
storage_is at several r z h = cc

-- ---- scopes and lists

file_scope : (f : FileScope) → IsFile f → IsScope (at_file_scope f)
file_scope f h = record { file = h; blocks = tt; locals = tt }

at_place : {A : Type 0} (P : A → Type 0) (xs : List A) (n : ℕ) (x : A) → AllByRecursion P xs → slice_get xs n ≡ Some x → P x
at_place P [] n x h e = cc
at_place P (y ∷ xs) zero x h e = let is : y ≡ x = cc in subst P is h.0
at_place P (y ∷ xs) (suc n) x h e = at_place P xs n x h.1 e

first_ones : {A : Type 0} (P : A → Type 0) (n : ℕ) (xs : List A) → AllByRecursion P xs → AllByRecursion P (take n xs)
first_ones P zero [] h = tt
first_ones P zero (x ∷ xs) h = tt
first_ones P (suc n) [] h = tt
first_ones P (suc n) (x ∷ xs) h = (h.0, first_ones P n xs h.1)

last_ones : {A : Type 0} (P : A → Type 0) (n : ℕ) (xs : List A) → AllByRecursion P xs → AllByRecursion P (drop n xs)
last_ones P zero [] h = tt
last_ones P zero (x ∷ xs) h = h
last_ones P (suc n) [] h = tt
last_ones P (suc n) (x ∷ xs) h = last_ones P n xs h.1

named_more : (f : FileScope) (b : Bound) → IsFile f → IsEntity f.records b.entity → Goes f (with_bound f b)
named_more f b h w = bound_goes (at_file_scope f) f b (stands f h) w

-- ---- objects

found_object : (f : FileScope) (words : Storage) (x : Spelling) (t : CType) (old : Bound) (e : Entity) (n : ℕ × FileScope)
    → known_object f words x t old e ≡ Ok n → f ≡ n.1
found_object f words x t old (Scopes.an_object k u) n h =
    chosen (same_type u t && linkage_agrees words (linked_before (slice_get f.objects k))) (Ok (k, f)) _ n (f ≡ n.1) h
    (λ b h. given (λ (n : ℕ × FileScope). f ≡ n.1) (k, f) n h refl) (λ b h. cc)
found_object f words x t old e n h = cc

object_goes : (f : FileScope) (words : Storage) (x : Spelling) (place : ℕ) (t : CType) (o : Option Bound) → IsFile f → IsWithin f.records t
    → (n : ℕ × FileScope) → object_of f words x place t o ≡ Ok n → Goes f n.1
unfolding object_of
object_goes f words x place t None h w n e =
    let own = new_object f words x place t in
    given (λ (n : ℕ × FileScope). Goes f n.1) (length f.objects, with_new_object f own) n
    (main_object_is x.text x.from (links words) (Ok (length f.objects, with_new_object f own)) n e) (object_added f own h (w, tt))
object_goes f words x place t (Some old) h w n e = subst (Goes f) (found_object f words x t old old.entity n e) (stands f h)

definition_goes : (f g : FileScope) (n place : ℕ) (i : Typed.Initializer Noted) (o : Option AnObject) → IsFile g → IsInitializer g.records i
    → ((x : AnObject) → o ≡ Some x → IsObject g.records x) → Goes g (with_definition g n (defined_object f place i o))
definition_goes f g n place i None h w k = stands g h
definition_goes f g n place i (Some o) h w k = object_replaced g n _ h ((k o refl).0, w)

define_goes : (f : FileScope) (n place : ℕ) (value : Option (ℕ × Trees.Expression)) (t : CType) → ShortInitial value → IsFile f → IsWithin f.records t
    → (g : FileScope) → define_object f n place value t ≡ Ok g → Goes f g
define_goes f n place None t l h w g e = given (Goes f) f g e (stands f h)
define_goes f n place (Some value) t l h w g e =
    let i = bound_ok (constants_if_any (Some value) (at_file_scope f) t) _ g e in
    let v = constants_within (Some value) (at_file_scope f) t l (file_scope f h) w i.0 i.1 in
    given (Goes f) (with_definition i.0.1 n (defined_object f place i.0.0 (slice_get i.0.1.objects n))) g i.2
    (goes_on v.0 (definition_goes f i.0.1 n place i.0.0 (slice_get i.0.1.objects n) v.0.file v.1
    (λ x j. at_place (IsObject i.0.1.records) i.0.1.objects n x v.0.file.objects j)))

declare_object_goes : (f : FileScope) (words : Storage) (x : Spelling) (place from : ℕ) (t : CType) (value : Option (ℕ × Trees.Expression))
    → ShortInitial value → IsFile f → IsWithin f.records t → (g : FileScope) → declare_object f words x place from t value ≡ Ok g → Goes f g
declare_object_goes f words x place from t value l h w g e =
    let o = own_is x.from (library_named x.text) _ g e in
    let n = bound_ok (object_of f words x place t (declared_among f.names x.text)) _ g o in
    let p = object_goes f words x place t (declared_among f.names x.text) h w n.0 n.1 in
    let wn = stays p.longer t w in
    let b = bound x from (object_how words value) (Scopes.an_object n.0.0 t) in
    let q = named_more n.0.1 b p.file wn in
    let k = defined_once_is f x value (define_object (with_bound n.0.1 b) n.0.0 place value t) g n.2 in
    goes_on p (goes_on q (define_goes (with_bound n.0.1 b) n.0.0 place value t l q.file wn g k))

-- ---- functions

found_function : (f : FileScope) (words : Storage) (x : Spelling) (t : CType) (old : Bound) (e : Entity) (n : ℕ × FileScope)
    → known_function f words x t old e ≡ Ok n → f ≡ n.1
found_function f words x t old (Scopes.a_function k u) n h =
    chosen (same_type u t && function_linkage_agrees words (function_linked_before (slice_get f.functions k))) (Ok (k, f)) _ n (f ≡ n.1) h
    (λ b h. given (λ (n : ℕ × FileScope). f ≡ n.1) (k, f) n h refl) (λ b h. cc)
found_function f words x t old e n h = cc

function_goes : (f : FileScope) (words : Storage) (x : Spelling) (place : ℕ) (t : CType) (nodes : ℕ) (o : Option Bound) → IsFile f → IsWithin f.records t
    → (n : ℕ × FileScope) → function_of f words x place t nodes o ≡ Ok n → Goes f n.1
unfolding function_of
function_goes f words x place t nodes None h w n e =
    let own = new_function f words x place t nodes in
    let is : IsFunction f.records own = record { ty = w; parameters = tt; locals = tt; body = tt } in
    given (λ (n : ℕ × FileScope). Goes f n.1) (length f.functions, with_new_function f own) n e (record {
      longer = same_list f.records;
      file = record {
        names = h.names;
        records = h.records;
        sizes = h.sizes;
        objects = h.objects;
        functions = one_more (IsFunction f.records) f.functions own h.functions is;
        mentions = h.mentions;
      };
    })
function_goes f words x place t nodes (Some old) h w n e = subst (Goes f) (found_function f words x t old old.entity n e) (stands f h)

pointer_is : (records : List Record) (t : CType) → is_function t ≡ true → IsWithin records t → IsWithin records (pointer t)
pointer_is records (function t all) e w = function_pointer_within records t all w
pointer_is records void e w = cc
pointer_is records (integer kind) e w = cc
pointer_is records (pointer t) e w = cc
pointer_is records (array t n) e w = cc
pointer_is records (structure r) e w = cc

declare_own_goes : (f : FileScope) (words : Storage) (x : Spelling) (place from : ℕ) (t : CType) (nodes : ℕ) → is_function t ≡ true → IsFile f
    → IsWithin f.records t → (g : FileScope) → declare_own f words x place from t nodes ≡ Ok g → Goes f g
declare_own_goes f words x place from t nodes is h w g e =
    let m = main_is x.text x.from t _ g e in
    let n = bound_ok (function_of f words x place t nodes (declared_among f.names x.text)) _ g m in
    let p = function_goes f words x place t nodes (declared_among f.names x.text) h w n.0 n.1 in
    let wn = stays p.longer t w in
    let b = bound x from declares (Scopes.a_function n.0.0 t) in
    given (Goes f) (with_bound n.0.1 b) g n.2 (goes_on p (named_more n.0.1 b p.file (wn, pointer_is n.0.1.records t is wn)))

library_goes : (f : FileScope) (words : Storage) (x : Spelling) (from : ℕ) (t : CType) (which : LibraryFunction) → IsFile f → (g : FileScope)
    → declare_library f words x from t which ≡ Ok g → Goes f g
library_goes f words x from t which h g e =
    let b = bound x from declares (a_library_function which) in
    let o = only_if (same_type t (library_type which) && links words) _ _ _ g e in
    chosen (library_again which (declared_among f.names x.text)) (Ok (with_bound f b)) _ g (Goes f g) o.1
    (λ c e. given (Goes f) (with_bound f b) g e (named_more f b h tt)) (λ c e. cc)

declare_function_goes : (f : FileScope) (words : Storage) (x : Spelling) (place from : ℕ) (t : CType) (nodes : ℕ) (o : Option LibraryFunction)
    → is_function t ≡ true → IsFile f → IsWithin f.records t → (g : FileScope) → declare_function f words x place from t nodes o ≡ Ok g → Goes f g
declare_function_goes f words x place from t nodes None is h w g e = declare_own_goes f words x place from t nodes is h w g e
declare_function_goes f words x place from t nodes (Some which) is h w g e = library_goes f words x from t which h g e

-- ---- declarators of the file scope

typedef_goes : (f : FileScope) (x : Spelling) (from : ℕ) (t : CType) → IsFile f → IsWithin f.records t → (g : FileScope)
    → declare_typedef f x from t ≡ Ok g → Goes f g
typedef_goes f x from t h w g e =
    let b = bound x from defines (typedef t) in
    let o = once_is x (declared_among f.names x.text) (Ok (with_bound f b)) g (own_is x.from (library_named x.text) _ g e) in
    given (Goes f) (with_bound f b) g o (named_more f b h w)

object_or_function : (words : Storage) (before place from : ℕ) (x : Spelling) (t : CType) (d : Trees.InitDeclarator) (nodes : ℕ) (f : FileScope)
    → ShortInitial d.value → IsFile f → IsWithin f.records t → (g : FileScope)
    → cond (is_function t)
    (without_value x.from d.value (declare_function (with_mention (at_file_scope f) before Named t place f) words x place from t nodes (library_named x.text)))
    (object_at f.records (complete (at_file_scope f) x.from) x.from t
    >>= λ u. declare_object (with_mention (at_file_scope f) before Object u place f) words x place from u d.value) ≡ Ok g
    → Goes f g
object_or_function words before place from x t d nodes f l h w g e =
    let s = at_file_scope f in
    chosen (is_function t) _ _ g (Goes f g) e
    (λ b e.
    let after = with_mention s before Named t place f in
    let p = mentioned s f f before Named t place (stands f h) w in
    let k = without_is x.from d.value (declare_function after words x place from t nodes (library_named x.text)) g e in
    goes_on p (declare_function_goes after words x place from t nodes (library_named x.text) b p.file (mentioned_same s before Named t t place f w) g k))
    (λ b e.
    let u = bound_ok (object_at f.records (complete s x.from) x.from t) _ g e in
    let v = object_is f.records (complete s x.from) x.from t u.0 u.1 w in
    let after = with_mention s before Object u.0 place f in
    let p = mentioned s f f before Object u.0 place (stands f h) v in
    goes_on p (declare_object_goes after words x place from u.0 d.value l p.file (mentioned_same s before Object u.0 u.0 place f v) g u.2))

declare_as_goes : (words : Storage) (before place from : ℕ) (x : Spelling) (t : CType) (d : Trees.InitDeclarator) (nodes : ℕ) (f : FileScope)
    → ShortInitial d.value → IsFile f → IsWithin f.records t → (g : FileScope) → declare_as words before place from x t d nodes f ≡ Ok g → Goes f g
declare_as_goes a_typedef before place from x t d nodes f l h w g e =
    let s = at_file_scope f in
    let after = with_mention s before Named t place f in
    let p = mentioned s f f before Named t place (stands f h) w in
    let k = without_is x.from d.value (declare_typedef after x from t) g e in
    goes_on p (typedef_goes after x from t p.file (mentioned_same s before Named t t place f w) g k)
declare_as_goes no_storage before place from x t d nodes f l h w g e = object_or_function no_storage before place from x t d nodes f l h w g e
declare_as_goes is_extern before place from x t d nodes f l h w g e = object_or_function is_extern before place from x t d nodes f l h w g e
declare_as_goes is_static before place from x t d nodes f l h w g e = object_or_function is_static before place from x t d nodes f l h w g e
declare_as_goes is_auto before place from x t d nodes f l h w g e = object_or_function is_auto before place from x t d nodes f l h w g e
declare_as_goes is_register before place from x t d nodes f l h w g e = object_or_function is_register before place from x t d nodes f l h w g e
declare_as_goes several before place from x t d nodes f l h w g e = object_or_function several before place from x t d nodes f l h w g e

declarator_goes : (f : FileScope) (words : Storage) (base : CType) (d : Trees.InitDeclarator) (from nodes : ℕ) (o : Option Spelling)
    → ShortDeclarator d.declarator → ShortInitial d.value → IsFile f → IsWithin f.records base → (g : FileScope)
    → declarator_named f words base d from nodes o ≡ Ok g → Goes f g
declarator_goes f words base d from nodes None l m h w g e = cc
declarator_goes f words base d from nodes (Some x) l m h w g e =
    let s = at_file_scope f in
    let steps = bound_ok (derivations d.declarator s) _ g e in
    let shape = bound_ok (derived steps.0.1.records steps.0.0 base) _ g steps.2 in
    let few = few_parameters steps.0.1.records steps.0.0 base shape.0 shape.1 in
    let v = derivations_within d.declarator s l (file_scope f h) steps.0 steps.1 few in
    let is = derived_is steps.0.1.records steps.0.0 base shape.0 shape.1 (stays v.0.longer base w) v.1 in
    let t = bound_ok (sized_in steps.0.1.records x.from shape.0 d.value) _ g shape.2 in
    let k = sized_is steps.0.1.records x.from shape.0 d.value t.0 t.1 is in
    goes_on v.0 (declare_as_goes words (mentions_in f) (first_declarator d.declarator x.from) from x t.0 d nodes steps.0.1 m v.0.file k g t.2)

declarators_go : (all : List Trees.InitDeclarator) (f : FileScope) (words : Storage) (base : CType) (semicolon nodes : ℕ) → ShortInitDeclarators all
    → IsFile f → IsWithin f.records base → (g : FileScope) → file_declarators all f words base semicolon nodes ≡ Ok g → Goes f g
unfolding file_declarators
declarators_go [] f words base semicolon nodes l h w g e = given (Goes f) f g e (stands f h)
declarators_go (d ∷ more) f words base semicolon nodes l h w g e =
    let from = name_from d.value (after_declarator more semicolon) in
    let k = bound_ok (declarator_named f words base d from nodes (declared_name d.declarator)) _ g e in
    let p = declarator_goes f words base d from nodes (declared_name d.declarator) l.0 l.1 h w k.0 k.1 in
    goes_on p (declarators_go more k.0 words base semicolon nodes l.2 p.file (stays p.longer base w) g k.2)

declaration_goes : (d : Trees.Declaration) (f : FileScope) (nodes : ℕ) → ShortDeclaration d → IsFile f → (g : FileScope)
    → file_declaration d f nodes ≡ Ok g → Goes f g
declaration_goes d f nodes l h g e =
    let s = at_file_scope f in
    let at = first_specifiers d.specs in
    let o = only_if (may_stand_in_file (storage_of d.specs)) _ _ _ g e in
    let b = bound_ok (base_type (base_kind d.specs) at f (one_of d.specs s)) _ g o.1 in
    let v = base_within d.specs s at l.0 (file_scope f h) b.0 b.1 in
    chosen (is_empty d.all && not (declares_tag d.specs)) _ (file_declarators d.all b.0.1 (storage_of d.specs) b.0.0 d.semicolon nodes) g (Goes f g) b.2
    (λ c e. cc)
    (λ c e. goes_on v.0 (declarators_go d.all b.0.1 (storage_of d.specs) b.0.0 d.semicolon nodes l.1 v.0.file v.1 g e))

-- ---- definitions of functions

record AreReceived (records : List Record) (p : Received) : Type 0 where
  pub locals : AreLocals records p.locals
  pub bounds : AreBounds records p.bounds

abbrev AreReceivedIfAny : List Record → Option Received → Type 0
AreReceivedIfAny records None = Unit {0}
AreReceivedIfAny records (Some p) = AreReceived records p

one_received : (records : List Record) (o : Option Spelling) (k : ℕ) (t : CType) (more : Option Received) → IsWithin records t
    → AreReceivedIfAny records more → AreReceivedIfAny records (received_if_named o k t more)
one_received records None k t more w h = tt
one_received records (Some x) k t None w h = tt
one_received records (Some x) k t (Some more) w h = record { locals = (w, h.locals); bounds = (w, h.bounds) }

all_received : (records : List Record) (all : Trees.Parameters) (types : CTypes) (k : ℕ) → AreWithin records types
    → AreReceivedIfAny records (named_parameters all types k)
all_received records Trees.no_parameters no_types k w = record { locals = tt; bounds = tt }
all_received records Trees.no_parameters (and_type t types) k w = tt
all_received records (Trees.and_parameter comma specs d more) no_types k w = tt
all_received records (Trees.and_parameter comma specs d more) (and_type t types) k w =
    one_received records (declared_name d) k t (named_parameters more types (k + 1)) w.0 (all_received records more types (k + 1) w.1)

are_received : (records : List Record) (list : Option Trees.ParameterList) (types : CTypes) → AreWithin records types
    → AreReceivedIfAny records (received_by list types)
unfolding received_by
are_received records (Some (Trees.listed all)) types w = all_received records all types 0 w
are_received records (Some (Trees.void_alone at)) no_types w = record { locals = tt; bounds = tt }
are_received records (Some (Trees.void_alone at)) (and_type t types) w = tt
are_received records None types w = tt

body_goes : (f : FileScope) (n place count nodes : ℕ) (all : Statements) (locals : List ALocal) (o : Option AFunction) → IsFile f
    → AreLocals f.records locals → EachInStatements (IsWithin f.records) all
    → ((g : AFunction) → o ≡ Some g → IsFunction f.records g) → Goes f (with_body f n place count nodes all locals o)
body_goes f n place count nodes all locals None h w k is = stands f h
body_goes f n place count nodes all locals (Some g) h w k is =
    let own = is g refl in
    let P : ALocal → Type 0 = λ l. IsWithin f.records l.ty in
    record {
      longer = same_list f.records;
      file = record {
        names = h.names;
        records = h.records;
        sizes = h.sizes;
        objects = h.objects;
        functions = set_each (IsFunction f.records) f.functions n (defined_function f place count nodes all locals g) h.functions
            (record { ty = own.ty; parameters = first_ones P count locals w; locals = last_ones P count locals w; body = k });
        mentions = h.mentions;
      };
    }

function_body_goes : (f : FileScope) (n place nodes : ℕ) (result : CType) (items : Trees.BlockItems) (p : Received) → ShortBlockItems items → IsFile f
    → IsWithin f.records result → AreReceived f.records p → (g : FileScope) → function_body f n place nodes result items p ≡ Ok g → Goes f g
function_body_goes f n place nodes result items p l h w r g e =
    let s = in_body f p.bounds p.locals in
    let c : IsScope s = record { file = h; blocks = (r.bounds, tt); locals = r.locals } in
    let all = bound_ok (items_in result items s false false) _ g e in
    let v = items_within result items s false false l c w all.0 all.1 in
    let after = all.0.1 in
    given (Goes f) (with_body after.file n place (length p.locals) nodes all.0.0 after.locals (slice_get after.file.functions n)) g all.2
    (goes_on v.0.goes (body_goes after.file n place (length p.locals) nodes all.0.0 after.locals (slice_get after.file.functions n) v.0.goes.file
    v.0.scope.locals v.1 (λ x j. at_place (IsFunction after.file.records) after.file.functions n x v.0.goes.file.functions j)))

received_stays : {records all : List Record} → IsLonger records all → (p : Received) → AreReceived records p → AreReceived all p
received_stays q p r = record {
  locals = locals_stay q p.locals r.locals;
  bounds = bounds_stay q p.bounds r.bounds;
}

define_function_goes : (f : FileScope) (words : Storage) (x : Spelling) (at place left nodes : ℕ) (result : CType) (types : CTypes)
    (items : Trees.BlockItems) (o : Option Received) → ShortBlockItems items → IsFile f → IsWithin f.records (function result types)
    → AreReceivedIfAny f.records o → (g : FileScope) → define_function f words x at place left nodes result types items o ≡ Ok g → Goes f g
define_function_goes f words x at place left nodes result types items None l h w r g e = cc
define_function_goes f words x at place left nodes result types items (Some p) l h w r g e =
    let t = function result types in
    let m = main_is x.text x.from t _ g (own_is x.from (library_named x.text) _ g e) in
    let n = bound_ok (function_of f words x place t nodes (declared_among f.names x.text)) _ g m in
    let q = function_goes f words x place t nodes (declared_among f.names x.text) h w n.0 n.1 in
    let wn = stays q.longer t w in
    let b = bound x left defines (Scopes.a_function n.0.0 t) in
    let k = named_more n.0.1 b q.file (wn, function_pointer_within n.0.1.records result types wn) in
    let o = once_is x (defined_among f.names x.text) (function_body (with_bound n.0.1 b) n.0.0 place nodes result items p) g n.2 in
    goes_on q (goes_on k (function_body_goes (with_bound n.0.1 b) n.0.0 place nodes result items p l k.file
    (result_within n.0.1.records result types wn) (received_stays q.longer p r) g o))

define_shape_goes : (f : FileScope) (words : Storage) (x : Spelling) (before at place left nodes : ℕ) (shape : Shape) (list : Option Trees.ParameterList)
    (items : Trees.BlockItems) → ShortBlockItems items → IsFile f → IsShape f.records shape → (g : FileScope)
    → define_shape f words x before at place left nodes shape list items ≡ Ok g → Goes f g
define_shape_goes f words x before at place left nodes (closed (function result types)) list items l h w g e =
    let s = at_file_scope f in
    let t = function result types in
    let after = with_mention s before Named t place f in
    let p = mentioned s f f before Named t place (stands f h) w in
    let k = mentioned_same s before Named t t place f w in
    goes_on p (define_function_goes after words x at place left nodes result types items (received_by list types) l p.file k
    (are_received after.records list types (parameters_within after.records result types k)) g e)
define_shape_goes f words x before at place left nodes (closed void) list items l h w g e = cc
define_shape_goes f words x before at place left nodes (closed (integer kind)) list items l h w g e = cc
define_shape_goes f words x before at place left nodes (closed (pointer t)) list items l h w g e = cc
define_shape_goes f words x before at place left nodes (closed (array t n)) list items l h w g e = cc
define_shape_goes f words x before at place left nodes (closed (structure r)) list items l h w g e = cc
define_shape_goes f words x before at place left nodes (open_array t) list items l h w g e = cc

definition_named_goes : (f : FileScope) (specs : Trees.Specifiers) (base : CType) (d : Trees.Declarator) (left nodes : ℕ) (items : Trees.BlockItems)
    (o : Option Spelling) → ShortDeclarator d → ShortBlockItems items → IsFile f → IsWithin f.records base → (g : FileScope)
    → definition_named f specs base d left nodes items o ≡ Ok g → Goes f g
definition_named_goes f specs base d left nodes items None l m h w g e = cc
definition_named_goes f specs base d left nodes items (Some x) l m h w g e =
    let steps = bound_ok (derivations d (at_file_scope f)) _ g e in
    let shape = bound_ok (derived steps.0.1.records steps.0.0 base) _ g steps.2 in
    let few = few_parameters steps.0.1.records steps.0.0 base shape.0 shape.1 in
    let v = derivations_within d (at_file_scope f) l (file_scope f h) steps.0 steps.1 few in
    let is = derived_is steps.0.1.records steps.0.0 base shape.0 shape.1 (stays v.0.longer base w) v.1 in
    goes_on v.0 (define_shape_goes steps.0.1 (storage_of specs) x (mentions_in f) (first_specifiers specs) (first_declarator d x.from) left nodes shape.0
    (parameters_of d) items m v.0.file is g shape.2)

definition_of_function : (specs : Trees.Specifiers) (d : Trees.Declarator) (left : ℕ) (items : Trees.BlockItems) (f : FileScope) (nodes : ℕ)
    → ShortSpecifiers specs → ShortDeclarator d → ShortBlockItems items → IsFile f → (g : FileScope)
    → function_definition specs d left items f nodes ≡ Ok g → Goes f g
definition_of_function specs d left items f nodes l m n h g e =
    let s = at_file_scope f in
    let at = first_specifiers specs in
    let o = storage_is at (storage_of specs) _ g e in
    let b = bound_ok (base_type (base_kind specs) at f (one_of specs s)) _ g o in
    let v = base_within specs s at l (file_scope f h) b.0 b.1 in
    goes_on v.0 (definition_named_goes b.0.1 specs b.0.0 d left nodes items (declared_name d) m n v.0.file v.1 g b.2)

-- ---- files

item_goes : (item : Trees.Item) (f : FileScope) → ShortItem item → IsFile f → (g : FileScope) → filed_item item f ≡ Ok g → Goes f g
unfolding filed_item
item_goes (Trees.defines specs d left items right) f l h g e =
    definition_of_function specs d left items f (item_nodes (Trees.defines specs d left items right)) l.0 l.1 l.2 h g e
item_goes (Trees.declaration d) f l h g e = declaration_goes d f (item_nodes (Trees.declaration d)) l h g e

items_go : (items : List Trees.Item) (f : FileScope) → ShortItems items → IsFile f → (g : FileScope) → filed items f ≡ Ok g → IsFile g
unfolding filed
items_go [] f l h g e = given IsFile f g e h
items_go (item ∷ more) f l h g e =
    let k = bound_ok (filed_item item f) _ g e in
    items_go more k.0 l.1 (item_goes item f l.0 h k.0 k.1).file g k.2

settled_object : (records : List Record) (names : List Bound) (n : ℕ) (o : AnObject) → IsObject records o → IsObject records (settled names n o)
settled_object records names n o h = by_test (is_none o.initial && list_any (Checked.is_tentative n) names)
  where
    by_test : (b : Bool) → IsObject records (cond b (record o { initial = Some (Typed.parts []) }) o)
    by_test true = (h.0, tt)
    by_test false = h

settled_objects : (records : List Record) (names : List Bound) (n : ℕ) (all : List AnObject) → AllByRecursion (IsObject records) all
    → AllByRecursion (IsObject records) (settled_from names n all)
settled_objects records names n [] h = tt
settled_objects records names n (o ∷ all) h = (settled_object records names n o h.0, settled_objects records names (n + 1) all h.1)

closed_is : (f : FileScope) → IsFile f → IsFile (closed_file f)
closed_is f h = record {
  names = h.names;
  records = h.records;
  sizes = h.sizes;
  objects = settled_objects f.records f.names 0 f.objects h.objects;
  functions = h.functions;
  mentions = h.mentions;
}

unread_is : (file : ℕ) (untagged : ℕ → List ℕ) (items : List Trees.Item) → IsFile (unread file untagged items)
unread_is file untagged items = record { names = tt; records = tt; sizes = λ k l. absurd (omega (arith, l)); objects = tt; functions = tt; mentions = tt }

pub annotated_within : (file : ℕ) (untagged : ℕ → List ℕ) (items : List Trees.Item) → ShortItems items → (f : FileScope)
    → annotated file untagged items ≡ Ok f → IsFile f
unfolding annotated
annotated_within file untagged items l f h =
    let g = bound_ok (filed items (unread file untagged items)) _ f h in
    given IsFile (closed_file g.0) f g.2 (closed_is g.0 (items_go items (unread file untagged items) l (unread_is file untagged items) g.0 g.1))
