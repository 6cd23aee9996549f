-- What is known of a file between parts of its items: what its names are bound to, and of each object and function where it stands and whether it
-- is defined (C99 6.2.2, 6.7, 6.9).
use Rattle.std.proofs.Common.{◌≡◌, ◌≢◌, ℕ, zero, suc, ◌+◌, true, false, subst, List, [], ◌∷◌, ◌++◌, length, arith}
use Rattle.std.proofs.Common.{inl, inr}
use Rattle.std.proofs.lemmas.Option.{slice_get_within}
use Rattle.std.specs.Prelude.{◌⊎◌, Some, None, slice_get, codes}
use Rattle.std.specs.Option.{IsSome}
use Rattle.c_types.specs.Types.{CType}
use Rattle.c_erasure.specs.Files.{IsMade, IsMainType, AreConsistent}
use Rattle.c_erasure.specs.Scopes.{FileScope, Bound, defines, Entity, an_object, a_function, a_library_function, AnObject, AFunction}
use Rattle.c_typed.specs.declared.operators.LibraryFunction.{LibraryFunction}
use Rattle.c_erasure.specs.Checking.Files.{library_named}
use Rattle.c_checking_laws.proofs.Agreement.{AreFit}
use Rattle.c_checking_laws.proofs.Extends.{kept, one_of_both}
use Rattle.c_checking_laws.proofs.Settled.{AreSettled}
use Rattle.c_checking_laws.proofs.WholeFiles.Kept.{AreObjectsWhole}

-- ---- names that are bound to a thing

abbrev pub HasBound : List Bound → Entity → Type 0
HasBound names e = (k : ℕ) × (b : Bound) × (slice_get names k ≡ Some b) × (b.entity ≡ e)

abbrev pub HasDefinition : List Bound → Entity → Type 0
HasDefinition names e = (k : ℕ) × (b : Bound) × (slice_get names k ≡ Some b) × (b.entity ≡ e) × (b.how ≡ defines)

abbrev pub HasNoDefinition : List Bound → Entity → Type 0
HasNoDefinition names e = (k : ℕ) (b : Bound) → slice_get names k ≡ Some b → b.entity ≡ e → b.how ≢ defines

abbrev pub AreOthers : List Bound → Entity → Type 0
AreOthers names e = (k : ℕ) (b : Bound) → slice_get names k ≡ Some b → b.entity ≢ e

pub bound_more : (names more : List Bound) (e : Entity) → HasBound names e → HasBound (names ++ more) e
bound_more names more e h = (h.0, h.1, kept names more h.0 h.1 h.2, h.3)

pub definition_more : (names more : List Bound) (e : Entity) → HasDefinition names e → HasDefinition (names ++ more) e
definition_more names more e h = (h.0, h.1, kept names more h.0 h.1 h.2, h.3, h.4)

pub no_definition_more : (names more : List Bound) (e : Entity) → HasNoDefinition names e → HasNoDefinition more e → HasNoDefinition (names ++ more) e
no_definition_more names more e h i k b g = by_part (one_of_both names more k b g)
  where
    by_part : (slice_get names k ≡ Some b) ⊎ ((j : ℕ) × (k ≡ length names + j) × (slice_get more j ≡ Some b)) → b.entity ≡ e → b.how ≢ defines
    by_part (inl g) = h k b g
    by_part (inr g) = i g.0 b g.2

pub others_define_none : (names : List Bound) (e : Entity) → AreOthers names e → HasNoDefinition names e
others_define_none names e h k b g is = absurd (h k b g is)

pub others_more : (names more : List Bound) (e : Entity) → AreOthers names e → AreOthers more e → AreOthers (names ++ more) e
others_more names more e h i k b g = by_part (one_of_both names more k b g)
  where
    by_part : (slice_get names k ≡ Some b) ⊎ ((j : ℕ) × (k ≡ length names + j) × (slice_get more j ≡ Some b)) → b.entity ≢ e
    by_part (inl g) = h k b g
    by_part (inr g) = i g.0 b g.2

-- ---- objects

-- one that a declarator of the file scope declares, by its number
pub record IsADeclaredObject (file : ℕ) (names : List Bound) (n : ℕ) (o : AnObject) : Type 0 where
  pub declared : HasBound names (an_object n o.ty)
  pub left : o.initial ≡ None → (o.place ≡ record { file = file; at = o.first }) × HasNoDefinition names (an_object n o.ty)
  pub defined : IsSome o.initial → HasDefinition names (an_object n o.ty)
  pub not_main : o.is_linked ≡ true → o.name ≢ codes "main"

-- or one that is made at one of some places
abbrev pub IsObjectKnown : (file : ℕ) → List Bound → (made : List ℕ) → (n : ℕ) → AnObject → Type 0
IsObjectKnown file names made n o = (IsMade made o.first × IsSome o.initial × (o.is_linked ≡ false) × AreOthers names (an_object n o.ty))
    ⊎ IsADeclaredObject file names n o

pub made_left : (u v : List ℕ) (at : ℕ) → IsMade u at → IsMade (u ++ v) at
made_left [] v at h = absurd h
made_left (p ∷ u) v at (inl h) = inl h
made_left (p ∷ u) v at (inr h) = inr (made_left u v at h)

pub made_right : (u v : List ℕ) (at : ℕ) → IsMade v at → IsMade (u ++ v) at
made_right [] v at h = h
made_right (p ∷ u) v at h = inr (made_right u v at h)

pub object_later : (file : ℕ) (names more : List Bound) (made new : List ℕ) (n : ℕ) (o : AnObject) → AreOthers more (an_object n o.ty)
    → IsObjectKnown file names made n o → IsObjectKnown file (names ++ more) (made ++ new) n o
object_later file names more made new n o h (inl k) =
    inl (made_left made new o.first k.0, k.1, k.2, others_more names more (an_object n o.ty) k.3 h)
object_later file names more made new n o h (inr k) = inr (record {
  declared = bound_more names more (an_object n o.ty) k.declared;
  left = λ e. let l = k.left e in (l.0, no_definition_more names more (an_object n o.ty) l.1 (others_define_none more (an_object n o.ty) h));
  defined = λ s. definition_more names more (an_object n o.ty) (k.defined s);
  not_main = k.not_main;
})

-- ---- functions

pub record IsFunctionKnown (nodes_at : ℕ → ℕ) (file : ℕ) (names : List Bound) (n : ℕ) (g : AFunction) : Type 0 where
  pub declared : HasBound names (a_function n g.ty)
  pub left : g.body ≡ None → (g.parameters ≡ []) × (g.locals ≡ []) × (g.place ≡ record { file = file; at = g.first }) × (g.nodes ≡ nodes_at g.first)
      × HasNoDefinition names (a_function n g.ty)
  pub defined : IsSome g.body → HasDefinition names (a_function n g.ty)
  pub main : IsMainType g.name g.ty

pub function_later : (nodes_at : ℕ → ℕ) (file : ℕ) (names more : List Bound) (n : ℕ) (g : AFunction) → HasNoDefinition more (a_function n g.ty)
    → IsFunctionKnown nodes_at file names n g → IsFunctionKnown nodes_at file (names ++ more) n g
function_later nodes_at file names more n g h k = record {
  declared = bound_more names more (a_function n g.ty) k.declared;
  left = λ e. let l = k.left e in (l.0, l.1, l.2, l.3, no_definition_more names more (a_function n g.ty) l.4 h);
  defined = λ s. definition_more names more (a_function n g.ty) (k.defined s);
  main = k.main;
}

-- ---- the file; of objects and functions that are just being declared nothing is known yet

abbrev pub AreObjectsBound : List Bound → List AnObject → Type 0
AreObjectsBound names objects = (k : ℕ) (b : Bound) → slice_get names k ≡ Some b → (n : ℕ) (t : CType) → b.entity ≡ an_object n t
    → (o : AnObject) × (slice_get objects n ≡ Some o) × (o.name ≡ b.name) × (o.ty ≡ t) × (o.literal ≡ None)

abbrev pub AreFunctionsBound : List Bound → List AFunction → Type 0
AreFunctionsBound names functions = (k : ℕ) (b : Bound) → slice_get names k ≡ Some b → (n : ℕ) (t : CType) → b.entity ≡ a_function n t
    → (g : AFunction) × (slice_get functions n ≡ Some g) × (g.name ≡ b.name) × (g.ty ≡ t)

-- a function of the library has its name
abbrev pub AreLibrariesBound : List Bound → Type 0
AreLibrariesBound names = (k : ℕ) (b : Bound) → slice_get names k ≡ Some b → (which : LibraryFunction) → b.entity ≡ a_library_function which
    → library_named b.name ≡ Some which

pub libraries_bound_more : (names more : List Bound) → AreLibrariesBound names → AreLibrariesBound more → AreLibrariesBound (names ++ more)
libraries_bound_more names more h i k b g = by_part (one_of_both names more k b g)
  where
    by_part : (slice_get names k ≡ Some b) ⊎ ((j : ℕ) × (k ≡ length names + j) × (slice_get more j ≡ Some b)) → (which : LibraryFunction)
        → b.entity ≡ a_library_function which → library_named b.name ≡ Some which
    by_part (inl g) = h k b g
    by_part (inr g) = i g.0 b g.2

pub record IsKnown (nodes_at : ℕ → ℕ) (made : List ℕ) (IsNewObject IsNewFunction : ℕ → Type 0) (f : FileScope) : Type 0 where
  pub fits : AreFit f [] f.names
  pub settled : AreSettled f.numbered f.records
  pub whole : AreObjectsWhole f.records f.objects
  pub consistent : AreConsistent f.names
  pub objects_bound : AreObjectsBound f.names f.objects
  pub functions_bound : AreFunctionsBound f.names f.functions
  pub libraries_bound : AreLibrariesBound f.names
  pub objects : (n : ℕ) (o : AnObject) → slice_get f.objects n ≡ Some o → IsNewObject n ⊎ IsObjectKnown f.file f.names made n o
  pub functions : (n : ℕ) (g : AFunction) → slice_get f.functions n ≡ Some g → IsNewFunction n ⊎ IsFunctionKnown nodes_at f.file f.names n g

abbrev pub none_new : ℕ → Type 0
none_new n = ⊥

abbrev pub this_one : ℕ → ℕ → Type 0
this_one n k = k ≡ n

-- ---- what a name was bound to

-- an object of the file, and no new one
pub other_object : (names : List Bound) (objects : List AnObject) → AreObjectsBound names objects → (t : CType) → AreOthers names (an_object (length objects) t)
other_object names objects h t k b g e =
    let o = h k b g (length objects) t e in
    let l = slice_get_within objects (length objects) o.0 o.1 in
    omega (arith, l)

pub other_function : (names : List Bound) (functions : List AFunction) → AreFunctionsBound names functions → (t : CType)
    → AreOthers names (a_function (length functions) t)
other_function names functions h t k b g e =
    let o = h k b g (length functions) t e in
    let l = slice_get_within functions (length functions) o.0 o.1 in
    omega (arith, l)

-- where more objects may have been made
pub known_more : (nodes_at : ℕ → ℕ) (u v : List ℕ) (P Q : ℕ → Type 0) (f : FileScope) → ((at : ℕ) → IsMade u at → IsMade v at) → IsKnown nodes_at u P Q f
    → IsKnown nodes_at v P Q f
known_more nodes_at u v P Q f into k = record {
  fits = k.fits;
  settled = k.settled;
  whole = k.whole;
  consistent = k.consistent;
  objects_bound = k.objects_bound;
  functions_bound = k.functions_bound;
  libraries_bound = k.libraries_bound;
  objects = λ n o e. one n o (k.objects n o e);
  functions = k.functions;
}
  where
    one : (n : ℕ) (o : AnObject) → P n ⊎ IsObjectKnown f.file f.names u n o → P n ⊎ IsObjectKnown f.file f.names v n o
    one n o (inl h) = inl h
    one n o (inr (inl h)) = inr (inl (into o.first h.0, h.1, h.2, h.3))
    one n o (inr (inr h)) = inr (inr h)

-- ---- one more name

pub one_bound : (P : Bound → Type 0) (b : Bound) → P b → (k : ℕ) (c : Bound) → slice_get (b ∷ []) k ≡ Some c → P c
one_bound P b p zero c e = let same : b ≡ c = cc in subst P same p
one_bound P b p (suc k) c e = cc

pub one_defines_none : (b : Bound) (e : Entity) → (b.entity ≡ e → b.how ≢ defines) → HasNoDefinition (b ∷ []) e
one_defines_none b e h = one_bound (λ c. c.entity ≡ e → c.how ≢ defines) b h

pub objects_bound_more : (names more : List Bound) (objects : List AnObject) → AreObjectsBound names objects → AreObjectsBound more objects
    → AreObjectsBound (names ++ more) objects
objects_bound_more names more objects h i k b g = by_part (one_of_both names more k b g)
  where
    by_part : (slice_get names k ≡ Some b) ⊎ ((j : ℕ) × (k ≡ length names + j) × (slice_get more j ≡ Some b)) → (n : ℕ) (t : CType)
        → b.entity ≡ an_object n t → (o : AnObject) × (slice_get objects n ≡ Some o) × (o.name ≡ b.name) × (o.ty ≡ t) × (o.literal ≡ None)
    by_part (inl g) = h k b g
    by_part (inr g) = i g.0 b g.2

pub functions_bound_more : (names more : List Bound) (functions : List AFunction) → AreFunctionsBound names functions → AreFunctionsBound more functions
    → AreFunctionsBound (names ++ more) functions
functions_bound_more names more functions h i k b g = by_part (one_of_both names more k b g)
  where
    by_part : (slice_get names k ≡ Some b) ⊎ ((j : ℕ) × (k ≡ length names + j) × (slice_get more j ≡ Some b)) → (n : ℕ) (t : CType)
        → b.entity ≡ a_function n t → (o : AFunction) × (slice_get functions n ≡ Some o) × (o.name ≡ b.name) × (o.ty ≡ t)
    by_part (inl g) = h k b g
    by_part (inr g) = i g.0 b g.2

pub objects_bound_longer : (names : List Bound) (objects more : List AnObject) → AreObjectsBound names objects → AreObjectsBound names (objects ++ more)
objects_bound_longer names objects more h k b g n t e = let o = h k b g n t e in (o.0, kept objects more n o.0 o.1, o.2, o.3, o.4)

pub functions_bound_longer : (names : List Bound) (functions more : List AFunction) → AreFunctionsBound names functions
    → AreFunctionsBound names (functions ++ more)
functions_bound_longer names functions more h k b g n t e = let o = h k b g n t e in (o.0, kept functions more n o.0 o.1, o.2, o.3)
