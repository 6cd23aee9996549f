-- Which annotated file is that of a syntax tree: what its items declare (C99 6.7, 6.9), and that nothing else is declared.
use Rattle.std.specs.Prelude.{◌≡◌, ◌≢◌, ℕ, zero, suc, ◌+◌, ◌<◌, Bool, true, false, if◌then◌else◌, List, [], ◌∷◌, ◌++◌, map, All, length, Option, Some}
use Rattle.std.specs.Prelude.{None, codes, is_none, nat_le, slice_get, ◌⊎◌}
use Rattle.c_types.specs.declared.ty.IntKind.TheVariants.{Int}
use Rattle.c_types.specs.Types.{CType, CTypes, integer, function, no_types, and_type}
use Rattle.c_types.specs.Objects.{is_object}
use Rattle.c_types.specs.Limits.{AreSmall}
use Rattle.c_ast.specs.declared.words.Spelling.{Spelling}
use Rattle.c_ast.specs.Trees
use Rattle.c_ast.specs.Places.{first_declarator, first_item}
use Rattle.c_ast.specs.Sizes.{size_item}
use Rattle.c_typed.specs.declared.operators.LibraryFunction.{LibraryFunction}
use Rattle.c_typed.specs.declared.operators.LibraryFunction.TheVariants as L
use Rattle.c_typed.specs.declared.program.MentionKind.TheVariants.{Object, Named}
use Rattle.c_typed.specs.Trees as Typed
use Rattle.c_typed.specs.Mapped.{of_types, mapped_statement, mapped_initializer}
use Rattle.c_typed.specs.Conversions.{is_function}
use Rattle.c_typed.specs.Fits.{library_type}
use Rattle.c_typed.specs.TypedStatements.{declared_by, all_declared_by, IsTypedInitializer, AreTyped}
use Rattle.c_erasure.specs.Noted.{Noted}
use Rattle.c_erasure.specs.Scopes.{How, declares, tentative, defines, Entity, typedef, an_object, a_function, a_library_function, a_local, Bound, Tag}
use Rattle.c_erasure.specs.Scopes.{AnObject, ALocal, AFunction, FileScope, Scope, in_full, at_file_scope, visible, ended, declared, IsMentioned}
use Rattle.c_erasure.specs.Specifiers.{storage_of, Storage, no_storage, a_typedef, is_extern, is_static}
use Rattle.c_erasure.specs.Declarators.{declared_name, is_name, Shape, closed, AreDifferent}
use Rattle.c_erasure.specs.Erasure.{place_in, IsBound, IsBase, IsOne, Declares}
use Rattle.c_erasure.specs.Statements.{Statements, IsSized, HasConstants, EraseItems}
use Rattle.c_erasure.specs.Marks.{marks_of_file, name_from, after_declarator, scope_beginnings, ends_in, defined_in, tags_in, undefined_in, firsts}
use Rattle.c_erasure.specs.Literals.{made_by_file}
use Rattle.c_erasure.specs.MentionPlaces.{mentions_of_file}

-- ---- the names of the library's functions

abbrev pub library_name : LibraryFunction → List ℕ
library_name L.Malloc = codes "malloc"
library_name L.Calloc = codes "calloc"
library_name L.Free = codes "free"
library_name L.Memcpy = codes "memcpy"
library_name L.Memmove = codes "memmove"
library_name L.Memset = codes "memset"
library_name L.Memcmp = codes "memcmp"
library_name L.Putchar = codes "putchar"
library_name L.Getchar = codes "getchar"
library_name L.Exit = codes "exit"

-- a name of the file scope that is none of the library's
abbrev pub IsOwnName : List ℕ → Type 0
IsOwnName x = (which : LibraryFunction) → x ≢ library_name which

-- ---- linkage (6.2.2): of a declaration, where the name was declared before or not

abbrev pub IsLinkage : Storage → (first : Bool) → (linked : Bool) → Type 0
IsLinkage is_static first linked = linked ≡ false
IsLinkage is_extern true linked = linked ≡ true
IsLinkage is_extern false linked = Unit {0}
IsLinkage words first linked = linked ≡ true

-- a function without a storage class is as one with `extern`
abbrev pub function_storage : Storage → Storage
function_storage no_storage = is_extern
function_storage words = words

abbrev pub is_first : FileScope → Spelling → Bool
is_first f x = is_none (visible f.names x.text x.from)

-- where it is declared first
abbrev pub IsFirst : Bool → (first place : ℕ) → Type 0
IsFirst true first place = first ≡ place
IsFirst false first place = first < place

-- ---- declarators of the file scope (6.7, 6.9.2)

-- how an object is declared: it is defined where it has an initializer, and tentatively where it is not `extern`
abbrev pub object_how : Storage → Option (ℕ × Trees.Expression) → How
object_how words (Some value) = defines
object_how is_extern None = declares
object_how words None = tentative

abbrev pub bound : Spelling → ℕ → How → Entity → Bound
bound x from how e = record { name = x.text; place = x.from; from = from; how = how; entity = e }

-- the initializer of a definition is that of its object, which then stands there
abbrev pub IsDefinition : Scope → ℕ → CType → Option (ℕ × Trees.Expression) → AnObject → Type 0
IsDefinition s place t None o = Unit {0}
IsDefinition s place t (Some value) o = (i : Typed.Initializer Noted) × HasConstants s t (Some value) i × (o.initial ≡ Some i) × (o.place ≡ place_in s place)

abbrev pub IsTypedef : FileScope → CType → Trees.InitDeclarator → Spelling → ℕ → ℕ → Type 0
IsTypedef f base d x place from = (t : CType) × (d.value ≡ None) × IsMentioned (at_file_scope f) Named t place
    × Declares (at_file_scope f) d.declarator base (closed t) × IsOwnName x.text
    × IsBound (at_file_scope f) (bound x from defines (typedef t))

abbrev pub IsObject : FileScope → Storage → CType → Trees.InitDeclarator → Spelling → ℕ → ℕ → Type 0
IsObject f words base d x place from = (shape : Shape) × (t : CType) × (n : ℕ) × (o : AnObject) × Declares (at_file_scope f) d.declarator base shape
    × IsSized (at_file_scope f) shape d.value t × (is_object (ended f.ends x.from) t ≡ true) × IsOwnName x.text
    × IsMentioned (at_file_scope f) Object t place
    × (slice_get f.objects n ≡ Some o) × (o.name ≡ x.text) × (o.ty ≡ t) × (o.literal ≡ None)
    × IsLinkage words (is_first f x) o.is_linked × IsFirst (is_first f x) o.first place
    × IsBound (at_file_scope f) (bound x from (object_how words d.value) (an_object n t)) × IsDefinition (at_file_scope f) place t d.value o

-- a function is declared, or one of the library
abbrev pub IsFunction : FileScope → Storage → CType → Trees.InitDeclarator → Spelling → ℕ → ℕ → Type 0
IsFunction f words base d x place from = (t : CType) × (d.value ≡ None) × Declares (at_file_scope f) d.declarator base (closed t) × (is_function t ≡ true)
    × IsMentioned (at_file_scope f) Named t place
    × (((which : LibraryFunction) × (x.text ≡ library_name which) × (t ≡ library_type which) × (words ≢ is_static)
    × IsBound (at_file_scope f) (bound x from declares (a_library_function which)))
    ⊎ ((n : ℕ) × (g : AFunction) × IsOwnName x.text × (slice_get f.functions n ≡ Some g) × (g.name ≡ x.text) × (g.ty ≡ t)
    × IsLinkage (function_storage words) (is_first f x) g.is_linked × IsFirst (is_first f x) g.first place
    × IsBound (at_file_scope f) (bound x from declares (a_function n t))))

abbrev pub IsFileDeclarator : FileScope → Storage → CType → Trees.InitDeclarator → Spelling → ℕ → ℕ → Type 0
IsFileDeclarator f a_typedef base d x place from = IsTypedef f base d x place from
IsFileDeclarator f no_storage base d x place from = IsFunction f no_storage base d x place from ⊎ IsObject f no_storage base d x place from
IsFileDeclarator f is_extern base d x place from = IsFunction f is_extern base d x place from ⊎ IsObject f is_extern base d x place from
IsFileDeclarator f is_static base d x place from = IsFunction f is_static base d x place from ⊎ IsObject f is_static base d x place from
IsFileDeclarator f words base d x place from = ⊥

abbrev pub AreFileDeclarators : FileScope → Storage → CType → List Trees.InitDeclarator → ℕ → Type 0
AreFileDeclarators f words base [] semicolon = Unit {0}
AreFileDeclarators f words base (d ∷ more) semicolon = (x : Spelling) × (declared_name d.declarator ≡ Some x)
    × IsFileDeclarator f words base d x (first_declarator d.declarator x.from) (name_from d.value (after_declarator more semicolon))
    × AreFileDeclarators f words base more semicolon

-- a declaration without a declarator declares a tag or enumerators (6.7)
abbrev pub declares_tag : Trees.Specifiers → Bool
declares_tag Trees.no_specifiers = false
declares_tag (Trees.and_specifier (Trees.struct_named at x) more) = true
declares_tag (Trees.and_specifier (Trees.struct_body at (Some x) left all right) more) = true
declares_tag (Trees.and_specifier (Trees.enum_body at x left all comma right) more) = true
declares_tag (Trees.and_specifier s more) = declares_tag more

abbrev pub DeclaresSomething : Trees.Declaration → Type 0
DeclaresSomething d = (d.all ≢ []) ⊎ (declares_tag d.specs ≡ true)

-- ---- definitions of functions (6.9.1)

-- the parameters in the declarator that stands nearest to the name
abbrev pub parameters_of : Trees.Declarator → Option Trees.ParameterList
parameters_of Trees.nothing = None
parameters_of (Trees.named x) = None
parameters_of (Trees.pointer at consts d) = parameters_of d
parameters_of (Trees.enclosed left d right) = parameters_of d
parameters_of (Trees.array d left length right) = parameters_of d
parameters_of (Trees.function d left all right) = if is_name d then Some all else parameters_of d

-- each parameter has a name, and the type that the function's type says
abbrev pub AreNamed : Trees.Parameters → CTypes → ℕ → List ALocal → List Bound → Type 0
AreNamed Trees.no_parameters types k locals bounds = (types ≡ no_types) × (locals ≡ []) × (bounds ≡ [])
AreNamed (Trees.and_parameter comma specs d more) types k locals bounds = (x : Spelling) × (t : CType) × (rest : CTypes) × (later : List ALocal)
    × (outer : List Bound) × (declared_name d ≡ Some x) × (types ≡ and_type t rest) × (locals ≡ record { name = x.text; ty = t } ∷ later)
    × (bounds ≡ record { name = x.text; place = x.from; from = x.to; how = defines; entity = a_local k t } ∷ outer) × AreNamed more rest (k + 1) later outer

abbrev pub HasParameters : Option Trees.ParameterList → CTypes → List ALocal → List Bound → Type 0
HasParameters None types locals bounds = ⊥
HasParameters (Some (Trees.void_alone at)) types locals bounds = (types ≡ no_types) × (locals ≡ []) × (bounds ≡ [])
HasParameters (Some (Trees.listed all)) types locals bounds = AreNamed all types 0 locals bounds

-- the numbers from one on, so many
abbrev pub count_up : (from count : ℕ) → List ℕ
count_up from zero = []
count_up from (suc count) = from ∷ count_up (from + 1) count

abbrev pub without_notes : Statements → Typed.Statements CType
without_notes Typed.no_statements = Typed.no_statements
without_notes (Typed.and_statement s more) = Typed.and_statement (mapped_statement (of_types (λ t. t.ty)) s) (without_notes more)

-- inside the body, whose block is that of the parameters too (6.2.1)
abbrev pub in_body : FileScope → List Bound → List ALocal → Scope
in_body f bounds locals = record { file = f; blocks = bounds ∷ []; is_inside = true; purpose = in_full; locals = locals }

-- the locals are numbered in the order of the text, the parameters first
abbrev pub IsBody : FileScope → CType → List Bound → AFunction → Trees.BlockItems → Type 0
IsBody f result bounds g items = (all : Statements) × (g.body ≡ Some (Typed.block (declared_by all) all))
    × EraseItems items (in_body f bounds (g.parameters ++ g.locals)) all
    × AreTyped (declared (in_body f bounds (g.parameters ++ g.locals))) result false false (without_notes all)
    × (all_declared_by all ≡ count_up (length g.parameters) (length g.locals))

-- `main` takes nothing and gives an int (own)
abbrev pub IsMainType : List ℕ → CType → Type 0
IsMainType x t = x ≡ codes "main" → t ≡ function (integer Int) no_types

abbrev pub IsDefined : FileScope → Trees.Specifiers → Trees.Declarator → ℕ → Trees.BlockItems → ℕ → Type 0
IsDefined f specs d left items nodes = (base result : CType) × (types : CTypes) × (x : Spelling) × (n : ℕ) × (g : AFunction) × (bounds : List Bound)
    × IsBase (IsOne (at_file_scope f) specs) specs base × (declared_name d ≡ Some x)
    × ((storage_of specs ≡ no_storage) ⊎ (storage_of specs ≡ is_extern) ⊎ (storage_of specs ≡ is_static))
    × Declares (at_file_scope f) d base (closed (function result types)) × IsOwnName x.text
    × IsMentioned (at_file_scope f) Named (function result types) (first_declarator d x.from)
    × (slice_get f.functions n ≡ Some g) × (g.name ≡ x.text) × (g.ty ≡ function result types) × (g.nodes ≡ nodes)
    × (g.place ≡ place_in (at_file_scope f) (first_declarator d x.from))
    × IsLinkage (function_storage (storage_of specs)) (is_first f x) g.is_linked × IsFirst (is_first f x) g.first (first_declarator d x.from)
    × IsBound (at_file_scope f) (bound x left defines (a_function n g.ty))
    × HasParameters (parameters_of d) types g.parameters bounds × IsBody f result bounds g items

-- ---- items

-- the storage classes that may stand at file scope (6.9), also where nothing but a tag is declared
abbrev pub may_stand_in_file : Storage → Bool
may_stand_in_file no_storage = true
may_stand_in_file a_typedef = true
may_stand_in_file is_extern = true
may_stand_in_file is_static = true
may_stand_in_file words = false

abbrev pub ErasesItem : FileScope → Trees.Item → Type 0
ErasesItem f (Trees.defines specs d left items right) = IsDefined f specs d left items (size_item (Trees.defines specs d left items right)).nodes
ErasesItem f (Trees.declaration d) = (base : CType) × (may_stand_in_file (storage_of d.specs) ≡ true)
    × IsBase (IsOne (at_file_scope f) d.specs) d.specs base × DeclaresSomething d
    × AreFileDeclarators f (storage_of d.specs) base d.all d.semicolon

-- ---- what is declared, and nothing else

abbrev pub IsMade : List ℕ → ℕ → Type 0
IsMade [] at = ⊥
IsMade (place ∷ more) at = (at ≡ place) ⊎ IsMade more at

-- the nodes of the item in which a declarator begins: of the last item that begins before it
abbrev pub nodes_up_to : List Trees.Item → ℕ → ℕ → ℕ
nodes_up_to [] at nodes = nodes
nodes_up_to (item ∷ more) at nodes = if nat_le (first_item item) at then nodes_up_to more at (size_item item).nodes else nodes

abbrev pub nodes_at : List Trees.Item → ℕ → ℕ
nodes_at items at = nodes_up_to items at 0

-- an object of which nothing is named is zero, whatever its type is
abbrev pub IsTypedObject : FileScope → CType → Typed.Initializer Noted → Type 0
IsTypedObject f t (Typed.parts []) = Unit {0}
IsTypedObject f t i = IsTypedInitializer (declared (at_file_scope f)) t (mapped_initializer (of_types (λ t. t.ty)) i)

abbrev pub MayBeDeclaredAgain : Entity → Type 0
MayBeDeclaredAgain (an_object n t) = Unit {0}
MayBeDeclaredAgain (a_function n t) = Unit {0}
MayBeDeclaredAgain (a_library_function which) = Unit {0}
MayBeDeclaredAgain e = ⊥

-- two declarations of a name in one scope are of one object or function, and one at most defines it (6.7, 6.9)
pub record MayStandTogether (a b : Bound) : Type 0 where
  pub same : a.entity ≡ b.entity
  pub declared_again : MayBeDeclaredAgain a.entity
  pub defined_once : (a.how ≡ defines) × (b.how ≡ defines) → ⊥

abbrev pub AreConsistent : List Bound → Type 0
AreConsistent [] = Unit {0}
AreConsistent (b ∷ more) = All (λ c. c.name ≡ b.name → MayStandTogether b c) more × AreConsistent more

-- tags: one name is one structure or one enumeration, which is defined once (6.7.2.3)
abbrev pub AreConsistentTags : List Tag → Type 0
AreConsistentTags [] = Unit {0}
AreConsistentTags (t ∷ more) = All (λ u. u.name ≡ t.name → (u.is_enumeration ≡ false) × (t.is_enumeration ≡ false)) more × AreConsistentTags more

-- each stands after those before it
abbrev pub AreAscending : List ℕ → Type 0
AreAscending [] = Unit {0}
AreAscending (n ∷ more) = All (λ m. n < m) more × AreAscending more

-- the declarations of an object or a function
abbrev pub declarations_of : List Bound → Entity → List How → Type 0
declarations_of [] e all = all ≡ []
declarations_of (b ∷ more) e all = ((b.entity ≡ e) × ((rest : List How) × (all ≡ b.how ∷ rest) × declarations_of more e rest))
    ⊎ ((b.entity ≢ e) × declarations_of more e all)

abbrev pub is_defined : List How → Bool
is_defined [] = false
is_defined (defines ∷ more) = true
is_defined (how ∷ more) = is_defined more

abbrev pub is_tentative : List How → Bool
is_tentative [] = false
is_tentative (tentative ∷ more) = true
is_tentative (how ∷ more) = is_tentative more

-- what is declared, and not defined, stands where it is declared first; it is zero where a declaration is tentative (6.9.2)
abbrev pub IsLeft : FileScope → AnObject → Bool → Bool → Type 0
IsLeft f o true known = Unit {0}
IsLeft f o false true = (o.place ≡ record { file = f.file; at = o.first }) × (o.initial ≡ Some (Typed.parts []))
IsLeft f o false false = (o.place ≡ record { file = f.file; at = o.first }) × (o.initial ≡ None)

-- an object is a string literal, a `static` local, or declared at file scope
abbrev pub IsIntroduced : FileScope → List Trees.Item → ℕ → AnObject → Type 0
IsIntroduced f items n o = IsMade (made_by_file items) o.first ⊎ ((all : List How) × (all ≢ []) × declarations_of f.names (an_object n o.ty) all
    × IsLeft f o (is_defined all) (is_tentative all))

-- a function that is not defined has no body, and stands where it is declared first
abbrev pub IsOpen : FileScope → List Trees.Item → AFunction → Bool → Type 0
IsOpen f items g true = Unit {0}
IsOpen f items g false = (g.body ≡ None) × (g.parameters ≡ []) × (g.locals ≡ []) × (g.place ≡ record { file = f.file; at = g.first })
    × (g.nodes ≡ nodes_at items g.first)

abbrev pub IsDeclaredFunction : FileScope → List Trees.Item → ℕ → AFunction → Type 0
IsDeclaredFunction f items n g = (all : List How) × (all ≢ []) × declarations_of f.names (a_function n g.ty) all × IsOpen f items g (is_defined all)

-- ---- the annotated file of a tree, whose file has that number; `untagged` gives the tags of records without one

pub record IsFileOf (items : List Trees.Item) (f : FileScope) : Type 0 where
  pub tags : f.tags ≡ firsts [] (tags_in (marks_of_file f.untagged items))
  pub ends : f.ends ≡ ends_in (marks_of_file f.untagged items)
  pub numbered : f.numbered ≡ defined_in (marks_of_file f.untagged items) ++ undefined_in (marks_of_file f.untagged items)
  pub records : map (λ r. r.tag) f.records ≡ defined_in (marks_of_file f.untagged items)
  pub names : map (λ b. b.from) f.names ≡ scope_beginnings (marks_of_file f.untagged items)
  pub mentions : map (λ m. m.at) f.mentions ≡ mentions_of_file items
  pub each_item : All (ErasesItem f) items
  pub consistent : AreConsistent f.names
  pub consistent_tags : AreConsistentTags (tags_in (marks_of_file f.untagged items))
  pub defined_once : AreDifferent (defined_in (marks_of_file f.untagged items))
  pub small : AreSmall f.records
  pub objects_in_order : AreAscending (map (λ o. o.first) f.objects)
  pub functions_in_order : AreAscending (map (λ g. g.first) f.functions)
  pub objects : (n : ℕ) (o : AnObject) → slice_get f.objects n ≡ Some o → IsIntroduced f items n o
  pub functions : (n : ℕ) (g : AFunction) → slice_get f.functions n ≡ Some g → IsDeclaredFunction f items n g
  -- what objects hold at first is well typed
  pub initialized : (n : ℕ) (o : AnObject) (i : Typed.Initializer Noted) → slice_get f.objects n ≡ Some o → o.initial ≡ Some i
      → IsTypedObject f o.ty i
  pub main_is_no_object : All (λ o. o.is_linked ≡ true → o.name ≢ codes "main") f.objects
  pub main : (n : ℕ) (g : AFunction) → slice_get f.functions n ≡ Some g → IsMainType g.name g.ty
