-- Which rule is broken where in a file (C99 6.7, 6.9): what stands before is declared as its rules say, and the rule there is false.
use Rattle.std.specs.Prelude.{◌≡◌, ◌≢◌, ℕ, ◌<◌, Bool, true, false, List, [], ◌∷◌, ◌++◌, map, length, take, All, codes, Option, Some, None, slice_get, ◌⊎◌}
use Rattle.lay_base.specs.declared.faults.Rule.TheVariants as R
use Rattle.c_types.specs.declared.ty.IntKind.TheVariants.{Int}
use Rattle.c_types.specs.Types.{CType, integer, function, no_types}
use Rattle.c_types.specs.Objects.{is_object}
use Rattle.c_ast.specs.declared.words.Spelling.{Spelling}
use Rattle.c_ast.specs.Trees
use Rattle.c_ast.specs.Places.{first_specifiers, first_declarator}
use Rattle.c_typed.specs.declared.operators.LibraryFunction.{LibraryFunction}
use Rattle.c_typed.specs.Conversions.{is_function}
use Rattle.c_typed.specs.Fits.{library_type}
use Rattle.c_erasure.specs.Scopes.{Entity, an_object, a_function, a_library_function, defines, Bound, ALocal, AnObject, AFunction, FileScope}
use Rattle.c_erasure.specs.Scopes.{at_file_scope, ended}
use Rattle.c_erasure.specs.Specifiers.{storage_of, Storage, no_storage, a_typedef, is_extern, is_static}
use Rattle.c_erasure.specs.Declarators.{declared_name, Shape, closed}
use Rattle.c_erasure.specs.Erasure.{IsBound, IsBase, IsOne, Declares}
use Rattle.c_erasure.specs.Statements.{IsSized}
use Rattle.c_erasure.specs.Marks.{marks_of_file, name_from, after_declarator, scope_beginnings, ends_in, defined_in, tags_in, undefined_in, firsts}
use Rattle.c_erasure.specs.MentionPlaces.{mentions_of_file}
use Rattle.c_erasure.specs.Files.{bound, is_first, library_name, IsFileDeclarator, may_stand_in_file, DeclaresSomething, parameters_of}
use Rattle.c_erasure.specs.Files.{HasParameters, in_body, ErasesItem, IsMade, AreConsistent, AreAscending}
use Rattle.c_erasure.specs.Broken.{Fault, ill_typed, redeclared, AreNoType, AreBroken, IsBrokenDeclarator}
use Rattle.c_erasure.specs.BrokenStatements.{IsBrokenInitial, HasNoConstants, IsEndless, AreBrokenItems}

-- ---- names of the file scope

-- no name before this one is so
abbrev pub IsNoneBefore : List Bound → ℕ → (Bound → Type 0) → Type 0
IsNoneBefore names k Is = (j : ℕ) (b : Bound) → j < k → slice_get names j ≡ Some b → Is b → ⊥

-- among the other declarations of the name whose scope begins before that of this one, the first of something else, or the first that defines it
abbrev pub IsOld : FileScope → Spelling → (from : ℕ) → (Bound → Type 0) → Fault → Type 0
IsOld f x from IsOther fault = (k : ℕ) × (b : Bound) × (slice_get f.names k ≡ Some b) × (b.name ≡ x.text) × (b.from < from) × IsOther b
    × IsNoneBefore f.names k (λ c. (c.name ≡ x.text) × IsOther c) × (fault ≡ redeclared x.text x.from b.place)

-- a typedef's name and an enumerator are declared once
abbrev pub IsAny : Bound → Type 0
IsAny b = Unit {0}

abbrev pub IsNoObjectOf : CType → Bound → Type 0
IsNoObjectOf t b = (n : ℕ) → b.entity ≢ an_object n t

abbrev pub IsNoFunctionOf : CType → Bound → Type 0
IsNoFunctionOf t b = ((n : ℕ) → b.entity ≢ a_function n t) × ((which : LibraryFunction) → b.entity ≢ a_library_function which)

abbrev pub IsDefinition : Bound → Type 0
IsDefinition b = b.how ≡ defines

abbrev pub linked_object : Option AnObject → Option Bool
linked_object None = None
linked_object (Some o) = Some o.is_linked

abbrev pub linked_function : Option AFunction → Option Bool
linked_function None = None
linked_function (Some g) = Some g.is_linked

-- whether other files can name what a name stands for
abbrev pub is_linked : FileScope → Entity → Option Bool
is_linked f (an_object n t) = linked_object (slice_get f.objects n)
is_linked f (a_function n t) = linked_function (slice_get f.functions n)
is_linked f e = None

-- one has linkage in the file alone, and the other with other files (6.2.2); `extern` takes that of the declaration before
abbrev pub IsOfOtherLinkage : FileScope → Storage → Bound → Type 0
IsOfOtherLinkage f is_static b = is_linked f b.entity ≡ Some true
IsOfOtherLinkage f no_storage b = ((n : ℕ) × (t : CType) × (b.entity ≡ an_object n t)) × (is_linked f b.entity ≡ Some false)
IsOfOtherLinkage f words b = ⊥

-- ---- rules of declarators of the file scope

-- a name of the library has the library's type, and is not defined (own)
abbrev pub IsBrokenLibrary : Storage → CType → List ℕ → Type 0
IsBrokenLibrary words t x = (which : LibraryFunction) × (x ≡ library_name which) × ((words ≡ a_typedef) ⊎ (words ≡ is_static) ⊎ (t ≢ library_type which))

-- `main` is of another type, or an object that other files can name
abbrev pub IsBrokenMain : FileScope → Storage → CType → Spelling → Type 0
IsBrokenMain f words t x = (x.text ≡ codes "main") × (((words ≢ a_typedef) × (is_function t ≡ true) × (t ≢ function (integer Int) no_types))
    ⊎ ((is_function t ≡ false) × ((words ≡ no_storage) ⊎ ((words ≡ is_extern) × (is_first f x ≡ true)))))

-- of which type there is another declaration
abbrev pub IsOtherwise : FileScope → Storage → CType → Spelling → (from : ℕ) → Fault → Type 0
IsOtherwise f a_typedef t x from fault = IsOld f x from IsAny fault
IsOtherwise f words t x from fault = ((is_function t ≡ true) × IsOld f x from (IsNoFunctionOf t) fault)
    ⊎ ((is_function t ≡ false) × IsOld f x from (IsNoObjectOf t) fault) ⊎ IsOld f x from (IsOfOtherLinkage f words) fault

-- the object is in the scope of its own initializer
abbrev pub IsDefinedThere : FileScope → Spelling → CType → Option (ℕ × Trees.Expression) → Type 0
IsDefinedThere f x t None = ⊥
IsDefinedThere f x t (Some value) = (n : ℕ) × (slice_get (map (λ o. o.ty) f.objects) n ≡ Some t)
    × IsBound (at_file_scope f) (bound x value.0 defines (an_object n t))

-- of a declarator whose name is in scope from that byte on
abbrev pub IsBrokenFileDeclarator : FileScope → Storage → CType → Trees.InitDeclarator → (from : ℕ) → Fault → Type 0
IsBrokenFileDeclarator f words base d from fault = IsBrokenDeclarator d.declarator (at_file_scope f) base fault
    ⊎ ((x : Spelling) × (shape : Shape) × (declared_name d.declarator ≡ Some x) × Declares (at_file_scope f) d.declarator base shape
    × (IsEndless (at_file_scope f) shape d.value x.from fault
    ⊎ ((t : CType) × IsSized (at_file_scope f) shape d.value t
    × (((fault ≡ ill_typed R.Library x.from) × IsBrokenLibrary words t x.text)
    ⊎ ((fault ≡ ill_typed R.Main x.from) × IsBrokenMain f words t x)
    ⊎ ((fault ≡ ill_typed R.Incomplete x.from) × (words ≢ a_typedef) × (is_function t ≡ false) × (is_object (ended f.ends x.from) t ≡ false))
    ⊎ ((fault ≡ ill_typed R.Init x.from) × (d.value ≢ None) × ((words ≡ a_typedef) ⊎ (is_function t ≡ true)))
    ⊎ IsOtherwise f words t x from fault
    ⊎ ((d.value ≢ None) × IsOld f x from IsDefinition fault)
    ⊎ (IsDefinedThere f x t d.value × (IsBrokenInitial d.value (at_file_scope f) t fault ⊎ HasNoConstants d.value (at_file_scope f) t fault))))))

-- the declarators before are as their rules say
abbrev pub AreBrokenDeclarators : FileScope → Storage → CType → List Trees.InitDeclarator → ℕ → Fault → Type 0
AreBrokenDeclarators f words base [] semicolon fault = ⊥
AreBrokenDeclarators f words base (d ∷ more) semicolon fault =
    IsBrokenFileDeclarator f words base d (name_from d.value (after_declarator more semicolon)) fault
    ⊎ ((x : Spelling) × (declared_name d.declarator ≡ Some x)
    × IsFileDeclarator f words base d x (first_declarator d.declarator x.from) (name_from d.value (after_declarator more semicolon))
    × AreBrokenDeclarators f words base more semicolon fault)

abbrev pub IsBrokenFileDeclaration : FileScope → Trees.Declaration → Fault → Type 0
IsBrokenFileDeclaration f d fault = ((fault ≡ ill_typed R.Specifiers (first_specifiers d.specs))
    × ((may_stand_in_file (storage_of d.specs) ≡ false) ⊎ AreNoType d.specs ⊎ (DeclaresSomething d → ⊥)))
    ⊎ AreBroken d.specs (at_file_scope f) fault
    ⊎ ((base : CType) × IsBase (IsOne (at_file_scope f) d.specs) d.specs base × AreBrokenDeclarators f (storage_of d.specs) base d.all d.semicolon fault)

-- ---- definitions of functions (6.9.1)

abbrev pub IsFunctionStorage : Storage → Type 0
IsFunctionStorage no_storage = Unit {0}
IsFunctionStorage is_extern = Unit {0}
IsFunctionStorage is_static = Unit {0}
IsFunctionStorage words = ⊥

-- a parameter without a name
abbrev pub IsNameless : Trees.Parameters → Type 0
IsNameless Trees.no_parameters = ⊥
IsNameless (Trees.and_parameter comma specs d more) = (declared_name d ≡ None) ⊎ IsNameless more

-- no parameters at all, which is no function, or one without a name
abbrev pub HasNameless : Option Trees.ParameterList → Type 0
HasNameless None = Unit {0}
HasNameless (Some (Trees.void_alone at)) = ⊥
HasNameless (Some (Trees.listed all)) = IsNameless all

-- the body, in the scope of its parameters and of the function itself
abbrev pub IsBrokenBody : FileScope → CType → Trees.Declarator → Spelling → ℕ → Trees.BlockItems → Fault → Type 0
IsBrokenBody f (function result types) d x left items fault = (parameters locals : List ALocal) × (bounds : List Bound) × (n : ℕ)
    × (slice_get (map (λ g. g.ty) f.functions) n ≡ Some (function result types))
    × IsBound (at_file_scope f) (bound x left defines (a_function n (function result types)))
    × HasParameters (parameters_of d) types parameters bounds
    × AreBrokenItems result items (in_body f bounds (parameters ++ locals)) false false fault
IsBrokenBody f t d x left items fault = ⊥

abbrev pub IsBrokenDefinition : FileScope → Trees.Specifiers → Trees.Declarator → ℕ → Trees.BlockItems → Fault → Type 0
IsBrokenDefinition f specs d left items fault = ((fault ≡ ill_typed R.Specifiers (first_specifiers specs))
    × ((IsFunctionStorage (storage_of specs) → ⊥) ⊎ AreNoType specs ⊎ HasNameless (parameters_of d)))
    ⊎ AreBroken specs (at_file_scope f) fault
    ⊎ ((base : CType) × IsBase (IsOne (at_file_scope f) specs) specs base × (IsBrokenDeclarator d (at_file_scope f) base fault
    ⊎ ((x : Spelling) × (t : CType) × (declared_name d ≡ Some x) × Declares (at_file_scope f) d base (closed t)
    × (((fault ≡ ill_typed R.Specifiers (first_specifiers specs)) × (is_function t ≡ false))
    ⊎ ((which : LibraryFunction) × (x.text ≡ library_name which) × (fault ≡ ill_typed R.Library x.from))
    ⊎ ((fault ≡ ill_typed R.Main x.from) × IsBrokenMain f (storage_of specs) t x)
    ⊎ IsOtherwise f (storage_of specs) t x left fault
    ⊎ IsOld f x left IsDefinition fault
    ⊎ IsBrokenBody f t d x left items fault))))

-- ---- items

abbrev pub IsBrokenItem : FileScope → Trees.Item → Fault → Type 0
IsBrokenItem f (Trees.defines specs d left items right) fault = IsBrokenDefinition f specs d left items fault
IsBrokenItem f (Trees.declaration d) fault = IsBrokenFileDeclaration f d fault

-- ---- files: the annotated file is that of a first part of the text

abbrev pub IsFirstPart : {A : Type 0} → List A → List A → Type 0
IsFirstPart all whole = all ≡ take (length all) whole

pub record IsFileUpTo (before items : List Trees.Item) (f : FileScope) : Type 0 where
  -- a tag that is written nowhere is no tag of another structure
  pub untagged : (at : ℕ) → (rest : List ℕ) × (f.untagged at ≡ 64 ∷ rest)
  pub tags : f.tags ≡ firsts [] (tags_in (marks_of_file f.untagged items))
  pub ends : f.ends ≡ ends_in (marks_of_file f.untagged items)
  pub numbered : f.numbered ≡ defined_in (marks_of_file f.untagged items) ++ undefined_in (marks_of_file f.untagged items)
  pub records : IsFirstPart (map (λ r. r.tag) f.records) (defined_in (marks_of_file f.untagged items))
  pub names : IsFirstPart (map (λ b. b.from) f.names) (scope_beginnings (marks_of_file f.untagged items))
  -- a `sizeof` of a type speaks of it first, and is told after what its type name speaks of
  pub mentions : All (λ m. IsMade (mentions_of_file items) m.at) f.mentions
  pub consistent : AreConsistent f.names
  pub objects_in_order : AreAscending (map (λ o. o.first) f.objects)
  pub functions_in_order : AreAscending (map (λ g. g.first) f.functions)
  pub each_before : All (ErasesItem f) before

-- a fault of a file's tree
pub record IsFaultOf (items : List Trees.Item) (fault : Fault) : Type 0 where
  pub before : List Trees.Item
  pub item : Trees.Item
  pub after : List Trees.Item
  pub whole : items ≡ before ++ item ∷ after
  pub annotated : FileScope
  pub known : IsFileUpTo before items annotated
  pub broken : IsBrokenItem annotated item fault
