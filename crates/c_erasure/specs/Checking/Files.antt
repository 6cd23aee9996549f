-- The checker of a file as functions (C99 6.7, 6.9): its items one after the other, and what is left open at its end.
use Rattle.std.specs.Prelude.{ℕ, zero, suc, ◌+◌, ◌==◌, ◌&&◌, ◌||◌, Bool, true, false, not, if◌then◌else◌, List, [], ◌∷◌, ◌++◌, map, length, drop, codes}
use Rattle.std.specs.Prelude.{Option, Some, None, Result, Ok, Err, slice_get, slice_set, is_some, is_none}
use Rattle.std.specs.List.{list_any}
use Rattle.std.specs.Str.{bytes_eq}
use Rattle.lay_base.specs.declared.faults.Rule.TheVariants as R
use Rattle.c_types.specs.declared.ty.IntKind.TheVariants.{Int}
use Rattle.c_types.specs.Types.{CType, CTypes, integer, function, no_types, and_type}
use Rattle.c_types.specs.Sameness.{same_type}
use Rattle.c_ast.specs.declared.words.Spelling.{Spelling}
use Rattle.c_ast.specs.Trees
use Rattle.c_ast.specs.Places.{first_specifiers, first_declarator}
use Rattle.c_ast.specs.Sizes.{size_item}
use Rattle.c_typed.specs.declared.operators.LibraryFunction.{LibraryFunction}
use Rattle.c_typed.specs.declared.operators.LibraryFunction.TheVariants as L
use Rattle.c_typed.specs.declared.program.MentionKind.TheVariants.{Object, Named}
use Rattle.c_typed.specs.Trees as Typed
use Rattle.c_typed.specs.Conversions.{is_function}
use Rattle.c_typed.specs.Fits.{library_type}
use Rattle.c_typed.specs.TypedStatements.{declared_by}
use Rattle.c_erasure.specs.Broken.{redeclared}
use Rattle.c_erasure.specs.Declarators.{declared_name, Shape, closed}
use Rattle.c_erasure.specs.Erasure.{place_in}
use Rattle.c_erasure.specs.Files.{library_name, bound, object_how, declares_tag, may_stand_in_file, parameters_of, in_body}
use Rattle.c_erasure.specs.Marks.{marks_of_file, name_from, after_declarator, ends_in, defined_in, tags_in, undefined_in, firsts}
use Rattle.c_erasure.specs.Noted.{Noted}
use Rattle.c_erasure.specs.Scopes.{How, declares, tentative, defines, Entity, typedef, an_object, a_function, a_library_function, a_local, Bound}
use Rattle.c_erasure.specs.Scopes.{AnObject, ALocal, AFunction, FileScope, at_file_scope}
use Rattle.c_erasure.specs.Specifiers.{Storage, no_storage, a_typedef, is_extern, is_static, storage_of}
use Rattle.c_erasure.specs.Statements.{Statements}
use Rattle.c_erasure.specs.Checking.Answers.{Answer, ◌>>=◌, refused}
use Rattle.c_erasure.specs.Checking.Declaring.{with_mention, mentions_in, base_kind, derived, declared_among, with_bound, object_at}
use Rattle.c_erasure.specs.Checking.Finding.{complete, base_type, one_of, derivations}
use Rattle.c_erasure.specs.Checking.Statements.{sized_in, constants_if_any, replaced_object, items_in}

-- ---- names of the library and of `main` (own)

abbrev pub is_library_name : LibraryFunction → List ℕ → Bool
is_library_name which x = bytes_eq (library_name which) x

abbrev pub first_named : List LibraryFunction → List ℕ → Option LibraryFunction
first_named [] x = None
first_named (which ∷ more) x = if is_library_name which x then Some which else first_named more x

abbrev pub library : List LibraryFunction
library = L.Malloc ∷ L.Calloc ∷ L.Free ∷ L.Memcpy ∷ L.Memmove ∷ L.Memset ∷ L.Memcmp ∷ L.Putchar ∷ L.Getchar ∷ L.Exit ∷ []

unfoldable pub library_named : List ℕ → Option LibraryFunction
library_named x = first_named library x

-- a name of the library is not defined, and names nothing else
abbrev pub own_name : {A : Type 0} → (at : ℕ) → Option LibraryFunction → Answer A → Answer A
own_name at None r = r
own_name at (Some which) r = refused R.Library at

unfoldable pub is_main : List ℕ → Bool
is_main x = bytes_eq (codes "main") x

abbrev pub main_type : CType
main_type = function (integer Int) no_types

-- `main` takes nothing and gives an int, and is no object that other files can name
abbrev pub main_function : {A : Type 0} → List ℕ → (at : ℕ) → CType → Answer A → Answer A
main_function x at t r = if is_main x && not (same_type t main_type) then refused R.Main at else r

abbrev pub main_object : {A : Type 0} → List ℕ → (at : ℕ) → (linked : Bool) → Answer A → Answer A
main_object x at linked r = if is_main x && linked then refused R.Main at else r

-- ---- declarations of one name: of one object or function, which at most one of them defines (6.7, 6.9)

abbrev pub again : {A : Type 0} → Spelling → Bound → Answer A
again x old = Err (redeclared x.text x.from old.place)

-- one that defines it stood before
abbrev pub defined_among : List Bound → List ℕ → Option Bound
defined_among [] x = None
defined_among (b ∷ more) x = if bytes_eq b.name x && is_defining b.how then Some b else defined_among more x
  where
    is_defining : How → Bool
    is_defining defines = true
    is_defining how = false

abbrev pub once : {A : Type 0} → Spelling → Option Bound → Answer A → Answer A
once x None r = r
once x (Some old) r = again x old

-- whether other files can name it, where a declaration before says so (6.2.2)
abbrev pub linked_before : Option AnObject → Bool
linked_before None = false
linked_before (Some o) = o.is_linked

abbrev pub function_linked_before : Option AFunction → Bool
function_linked_before None = false
function_linked_before (Some g) = g.is_linked

-- `static` does not follow linkage with other files; an object without a storage class does not follow `static`, as `extern` may
abbrev pub linkage_agrees : Storage → (linked : Bool) → Bool
linkage_agrees is_static linked = not linked
linkage_agrees is_extern linked = true
linkage_agrees words linked = linked

abbrev pub function_linkage_agrees : Storage → (linked : Bool) → Bool
function_linkage_agrees is_static linked = not linked
function_linkage_agrees words linked = true

abbrev pub links : Storage → Bool
links is_static = false
links words = true

-- ---- objects (6.9.2)

abbrev pub new_object : FileScope → Storage → Spelling → (place : ℕ) → CType → AnObject
new_object f words x place t = record {
  name = x.text;
  place = place_in (at_file_scope f) place;
  first = place;
  ty = t;
  is_linked = links words;
  literal = None;
  initial = None;
}

abbrev pub with_new_object : FileScope → AnObject → FileScope
with_new_object f o = record f { objects = f.objects ++ o ∷ [] }

-- its number, and the file with it
abbrev pub known_object : FileScope → Storage → Spelling → CType → Bound → Entity → Answer (ℕ × FileScope)
known_object f words x t old (an_object n u) =
    if same_type u t && linkage_agrees words (linked_before (slice_get f.objects n)) then Ok (n, f) else again x old
known_object f words x t old e = again x old

unfoldable pub object_of : FileScope → Storage → Spelling → (place : ℕ) → CType → Option Bound → Answer (ℕ × FileScope)
object_of f words x place t None = main_object x.text x.from (links words) (Ok (length f.objects, with_new_object f (new_object f words x place t)))
object_of f words x place t (Some old) = known_object f words x t old old.entity

-- with its initializer, an object stands where it is defined
abbrev pub defined_object : FileScope → (place : ℕ) → Typed.Initializer Noted → Option AnObject → Option AnObject
defined_object f place i None = None
defined_object f place i (Some o) = Some (record o { place = place_in (at_file_scope f) place; initial = Some i })

abbrev pub with_definition : FileScope → ℕ → Option AnObject → FileScope
with_definition f n None = f
with_definition f n (Some o) = replaced_object f n o

abbrev pub define_object : FileScope → ℕ → (place : ℕ) → Option (ℕ × Trees.Expression) → CType → Answer FileScope
define_object f n place None t = Ok f
define_object f n place (Some value) t = constants_if_any (Some value) (at_file_scope f) t
    >>= λ i. Ok (with_definition i.1 n (defined_object f place i.0 (slice_get i.1.objects n)))

-- two definitions of one object are one too many
abbrev pub defined_once : {A : Type 0} → FileScope → Spelling → Option (ℕ × Trees.Expression) → Answer A → Answer A
defined_once f x None r = r
defined_once f x (Some value) r = once x (defined_among f.names x.text) r

-- the name is bound before its initializer is read; the file has spoken of the type already
abbrev pub declare_object : FileScope → Storage → Spelling → (place from : ℕ) → CType → Option (ℕ × Trees.Expression) → Answer FileScope
declare_object f words x place from t value = own_name x.from (library_named x.text)
    (object_of f words x place t (declared_among f.names x.text) >>= λ n. defined_once f x value
    (define_object (with_bound n.1 (bound x from (object_how words value) (an_object n.0 t))) n.0 place value t))

-- ---- functions

abbrev pub new_function : FileScope → Storage → Spelling → (place : ℕ) → CType → (nodes : ℕ) → AFunction
new_function f words x place t nodes = record {
  name = x.text;
  place = place_in (at_file_scope f) place;
  first = place;
  ty = t;
  is_linked = links words;
  parameters = [];
  locals = [];
  body = None;
  nodes = nodes;
}

abbrev pub with_new_function : FileScope → AFunction → FileScope
with_new_function f g = record f { functions = f.functions ++ g ∷ [] }

abbrev pub known_function : FileScope → Storage → Spelling → CType → Bound → Entity → Answer (ℕ × FileScope)
known_function f words x t old (a_function n u) =
    if same_type u t && function_linkage_agrees words (function_linked_before (slice_get f.functions n)) then Ok (n, f) else again x old
known_function f words x t old e = again x old

unfoldable pub function_of : FileScope → Storage → Spelling → (place : ℕ) → CType → (nodes : ℕ) → Option Bound → Answer (ℕ × FileScope)
function_of f words x place t nodes None = Ok (length f.functions, with_new_function f (new_function f words x place t nodes))
function_of f words x place t nodes (Some old) = known_function f words x t old old.entity

-- a function of the library, under its own name and type
abbrev pub library_again : LibraryFunction → Option Bound → Bool
library_again which None = true
library_again which (Some b) = is_that b.entity
  where
    is_that : Entity → Bool
    is_that (a_library_function other) = true
    is_that e = false

abbrev pub place_of_bound : Option Bound → ℕ
place_of_bound None = 0
place_of_bound (Some b) = b.place

abbrev pub declare_library : FileScope → Storage → Spelling → (from : ℕ) → CType → LibraryFunction → Answer FileScope
declare_library f words x from t which =
    if same_type t (library_type which) && links words then
    (if library_again which (declared_among f.names x.text) then Ok (with_bound f (bound x from declares (a_library_function which)))
    else Err (redeclared x.text x.from (place_of_bound (declared_among f.names x.text))))
    else refused R.Library x.from

abbrev pub declare_own : FileScope → Storage → Spelling → (place from : ℕ) → CType → (nodes : ℕ) → Answer FileScope
declare_own f words x place from t nodes = main_function x.text x.from t (function_of f words x place t nodes (declared_among f.names x.text)
    >>= λ n. Ok (with_bound n.1 (bound x from declares (a_function n.0 t))))

abbrev pub declare_function : FileScope → Storage → Spelling → (place from : ℕ) → CType → (nodes : ℕ) → Option LibraryFunction → Answer FileScope
declare_function f words x place from t nodes None = declare_own f words x place from t nodes
declare_function f words x place from t nodes (Some which) = declare_library f words x from t which

-- ---- declarators of the file scope

-- neither a type nor a function has an initializer
abbrev pub without_value : {A : Type 0} → (at : ℕ) → Option (ℕ × Trees.Expression) → Answer A → Answer A
without_value at None r = r
without_value at (Some value) r = refused R.Init at

abbrev pub declare_typedef : FileScope → Spelling → (from : ℕ) → CType → Answer FileScope
declare_typedef f x from t = own_name x.from (library_named x.text) (once x (declared_among f.names x.text)
    (Ok (with_bound f (bound x from defines (typedef t)))))

-- by the storage class and the type; `before` is how many types the file has spoken of before the declarator
abbrev pub declare_as : Storage → (before place from : ℕ) → Spelling → CType → Trees.InitDeclarator → (nodes : ℕ) → FileScope → Answer FileScope
declare_as a_typedef before place from x t d nodes f =
    without_value x.from d.value (declare_typedef (with_mention (at_file_scope f) before Named t place f) x from t)
declare_as words before place from x t d nodes f = if is_function t
    then without_value x.from d.value
    (declare_function (with_mention (at_file_scope f) before Named t place f) words x place from t nodes (library_named x.text))
    else object_at f.records (complete (at_file_scope f) x.from) x.from t
    >>= λ u. declare_object (with_mention (at_file_scope f) before Object u place f) words x place from u d.value

abbrev pub declarator_named : FileScope → Storage → CType → Trees.InitDeclarator → (from nodes : ℕ) → Option Spelling → Answer FileScope
declarator_named f words base d from nodes None = refused R.Specifiers (first_declarator d.declarator 0)
declarator_named f words base d from nodes (Some x) = derivations d.declarator (at_file_scope f)
    >>= λ steps. derived steps.1.records steps.0 base >>= λ shape. sized_in steps.1.records x.from shape d.value
    >>= λ t. declare_as words (mentions_in f) (first_declarator d.declarator x.from) from x t d nodes steps.1

unfoldable pub file_declarators : List Trees.InitDeclarator → FileScope → Storage → CType → (semicolon nodes : ℕ) → Answer FileScope
file_declarators [] f words base semicolon nodes = Ok f
file_declarators (d ∷ more) f words base semicolon nodes =
    declarator_named f words base d (name_from d.value (after_declarator more semicolon)) nodes (declared_name d.declarator)
    >>= λ g. file_declarators more g words base semicolon nodes

abbrev pub is_empty : {A : Type 0} → List A → Bool
is_empty [] = true
is_empty (x ∷ more) = false

-- a declaration declares something
abbrev pub file_declaration : Trees.Declaration → FileScope → (nodes : ℕ) → Answer FileScope
file_declaration d f nodes = if may_stand_in_file (storage_of d.specs) then
    (base_type (base_kind d.specs) (first_specifiers d.specs) f (one_of d.specs (at_file_scope f))
    >>= λ b. if is_empty d.all && not (declares_tag d.specs) then refused R.Specifiers (first_specifiers d.specs)
    else file_declarators d.all b.1 (storage_of d.specs) b.0 d.semicolon nodes)
    else refused R.Specifiers (first_specifiers d.specs)

-- ---- definitions of functions (6.9.1)

abbrev pub function_storage : {A : Type 0} → (at : ℕ) → Storage → Answer A → Answer A
function_storage at no_storage r = r
function_storage at is_extern r = r
function_storage at is_static r = r
function_storage at words r = refused R.Specifiers at

-- the parameters as locals, and their names; each has one
pub record Received : Type 0 where
  pub locals : List ALocal
  pub bounds : List Bound

abbrev pub received : Spelling → (k : ℕ) → CType → Option Received → Option Received
received x k t None = None
received x k t (Some more) = Some (record {
  locals = record { name = x.text; ty = t } ∷ more.locals;
  bounds = record { name = x.text; place = x.from; from = x.to; how = defines; entity = a_local k t } ∷ more.bounds;
})

abbrev pub received_if_named : Option Spelling → (k : ℕ) → CType → Option Received → Option Received
received_if_named None k t more = None
received_if_named (Some x) k t more = received x k t more

abbrev pub named_parameters : Trees.Parameters → CTypes → (k : ℕ) → Option Received
named_parameters Trees.no_parameters no_types k = Some (record { locals = []; bounds = [] })
named_parameters (Trees.and_parameter comma specs d more) (and_type t types) k =
    received_if_named (declared_name d) k t (named_parameters more types (k + 1))
named_parameters all types k = None

unfoldable pub received_by : Option Trees.ParameterList → CTypes → Option Received
received_by (Some (Trees.listed all)) types = named_parameters all types 0
received_by (Some (Trees.void_alone at)) no_types = Some (record { locals = []; bounds = [] })
received_by o types = None

abbrev pub defined_function : FileScope → (place : ℕ) → (count : ℕ) → (nodes : ℕ) → Statements → List ALocal → AFunction → AFunction
defined_function f place count nodes all locals g = record g {
  place = place_in (at_file_scope f) place;
  parameters = Rattle.std.specs.Prelude.take count locals;
  locals = drop count locals;
  body = Some (Typed.block (declared_by all) all);
  nodes = nodes;
}

abbrev pub with_body : FileScope → ℕ → (place count nodes : ℕ) → Statements → List ALocal → Option AFunction → FileScope
with_body f n place count nodes all locals None = f
with_body f n place count nodes all locals (Some g) =
    record f { functions = slice_set f.functions n (defined_function f place count nodes all locals g) }

abbrev pub function_body : FileScope → ℕ → (place nodes : ℕ) → CType → Trees.BlockItems → Received → Answer FileScope
function_body f n place nodes result items p = items_in result items (in_body f p.bounds p.locals) false false
    >>= λ all. Ok (with_body all.1.file n place (length p.locals) nodes all.0 all.1.locals (slice_get all.1.file.functions n))

-- a definition of a function type, whose parameters have names; the name is bound in its body
abbrev pub define_function : FileScope → Storage → Spelling → (at place left nodes : ℕ) → (result : CType) → CTypes → Trees.BlockItems → Option Received
    → Answer FileScope
define_function f words x at place left nodes result types items None = refused R.Specifiers at
define_function f words x at place left nodes result types items (Some p) = own_name x.from (library_named x.text)
    (main_function x.text x.from (function result types)
    (function_of f words x place (function result types) nodes (declared_among f.names x.text) >>= λ n. once x (defined_among f.names x.text)
    (function_body (with_bound n.1 (bound x left defines (a_function n.0 (function result types)))) n.0 place nodes result items p)))

abbrev pub define_shape : FileScope → Storage → Spelling → (before at place left nodes : ℕ) → Shape → Option Trees.ParameterList → Trees.BlockItems
    → Answer FileScope
define_shape f words x before at place left nodes (closed (function result types)) list items =
    define_function (with_mention (at_file_scope f) before Named (function result types) place f) words x at place left nodes result types items
    (received_by list types)
define_shape f words x before at place left nodes shape list items = refused R.Specifiers at

abbrev pub definition_named : FileScope → Trees.Specifiers → CType → Trees.Declarator → (left nodes : ℕ) → Trees.BlockItems → Option Spelling
    → Answer FileScope
definition_named f specs base d left nodes items None = refused R.Specifiers (first_specifiers specs)
definition_named f specs base d left nodes items (Some x) = derivations d (at_file_scope f) >>= λ steps. derived steps.1.records steps.0 base
    >>= λ shape. define_shape steps.1 (storage_of specs) x (mentions_in f) (first_specifiers specs) (first_declarator d x.from) left nodes shape
    (parameters_of d) items

abbrev pub function_definition : Trees.Specifiers → Trees.Declarator → (left : ℕ) → Trees.BlockItems → FileScope → (nodes : ℕ) → Answer FileScope
function_definition specs d left items f nodes = function_storage (first_specifiers specs) (storage_of specs)
    (base_type (base_kind specs) (first_specifiers specs) f (one_of specs (at_file_scope f))
    >>= λ b. definition_named b.1 specs b.0 d left nodes items (declared_name d))

-- ---- files

abbrev pub item_nodes : Trees.Item → ℕ
item_nodes item = (size_item item).nodes

unfoldable pub filed_item : Trees.Item → FileScope → Answer FileScope
filed_item (Trees.defines specs d left items right) f = function_definition specs d left items f (item_nodes (Trees.defines specs d left items right))
filed_item (Trees.declaration d) f = file_declaration d f (item_nodes (Trees.declaration d))

unfoldable pub filed : List Trees.Item → FileScope → Answer FileScope
filed [] f = Ok f
filed (item ∷ more) f = filed_item item f >>= λ g. filed more g

-- what the syntax alone tells before the first item
abbrev pub unread : (file : ℕ) → (untagged : ℕ → List ℕ) → List Trees.Item → FileScope
unread file untagged items = record {
  file = file;
  names = [];
  tags = firsts [] (tags_in (marks_of_file untagged items));
  records = [];
  ends = ends_in (marks_of_file untagged items);
  numbered = defined_in (marks_of_file untagged items) ++ undefined_in (marks_of_file untagged items);
  objects = [];
  functions = [];
  mentions = [];
  untagged = untagged;
}

-- an object that is declared tentatively, and not defined, is zero (6.9.2)
abbrev pub is_tentative : ℕ → Bound → Bool
is_tentative n b = is_object n b.entity && is_tentatively b.how
  where
    is_object : ℕ → Entity → Bool
    is_object n (an_object m t) = n == m
    is_object n e = false

    is_tentatively : How → Bool
    is_tentatively tentative = true
    is_tentatively how = false

abbrev pub settled : List Bound → ℕ → AnObject → AnObject
settled names n o = if is_none o.initial && list_any (is_tentative n) names then record o { initial = Some (Typed.parts []) } else o

abbrev pub settled_from : List Bound → ℕ → List AnObject → List AnObject
settled_from names n [] = []
settled_from names n (o ∷ more) = settled names n o ∷ settled_from names (n + 1) more

abbrev pub closed_file : FileScope → FileScope
closed_file f = record f { objects = settled_from f.names 0 f.objects }

-- the annotated file of a tree, or a fault of it
unfoldable pub annotated : (file : ℕ) → (untagged : ℕ → List ℕ) → List Trees.Item → Answer FileScope
annotated file untagged items = filed items (unread file untagged items) >>= λ f. Ok (closed_file f)
