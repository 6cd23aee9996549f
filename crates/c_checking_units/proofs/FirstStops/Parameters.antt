-- The parameters of a definition: those that its type says, each of a type of an object, and each with a name unless the definition is broken
-- (C99 6.7.5.3, 6.9.1).
use Rattle.std.proofs.Common.{◌≡◌, ℕ, zero, suc, ◌+◌, Bool, true, false, refl, sym, ap, ◌∙◌, subst, cond, List, [], ◌∷◌, inl, inr}
use Rattle.std.specs.Prelude.{Option, Some, None}
use Rattle.c_types.specs.Types.{CType, CTypes, void, integer, pointer, array, function, structure, no_types, and_type}
use Rattle.c_ast.specs.declared.words.Spelling.{Spelling}
use Rattle.c_ast.specs.Trees
use Rattle.c_typed.specs.Conversions.{is_scalar}
use Rattle.c_erasure.specs.BrokenFiles.{IsNameless, HasNameless}
use Rattle.c_erasure.specs.Declarators.{declared_name, is_name, Shape, closed, open_array, parameter_type}
use Rattle.c_erasure.specs.Erasure.{Declares, AreParameters, AreListed, with_parameter_if_named}
use Rattle.c_erasure.specs.Files.{parameters_of, AreNamed, HasParameters}
use Rattle.c_erasure.specs.Scopes.{Scope, ALocal, Bound, inside}
use Rattle.c_erasure.specs.Checking.Files.{Received, received_by, named_parameters, received, received_if_named}
use Rattle.c_checking_laws.proofs.Agreement.{IsObjectType}
use Rattle.c_checking_units.proofs.FirstStops.DeclaredLocals.{AreObjectLocals}

-- ---- the parameters that stand nearest to the name

named_nearest : (d : Trees.Declarator) → is_name d ≡ true → (s : Scope) (t : CType) (shape : Shape) → Declares s d t shape → shape ≡ closed t
named_nearest Trees.nothing e s t shape h = h
named_nearest (Trees.named x) e s t shape h = h
named_nearest (Trees.enclosed from d to) e s t shape h = named_nearest d e s t shape h
named_nearest (Trees.pointer at consts d) e s t shape h = cc
named_nearest (Trees.array d from n to) e s t shape h = cc
named_nearest (Trees.function d from all to) e s t shape h = cc

no_list : (d : Trees.Declarator) → is_name d ≡ true → parameters_of d ≡ None
no_list Trees.nothing e = refl
no_list (Trees.named x) e = refl
no_list (Trees.enclosed from d to) e = no_list d e
no_list (Trees.pointer at consts d) e = cc
no_list (Trees.array d from n to) e = cc
no_list (Trees.function d from all to) e = cc

-- the type of the declarator is that of a function with those parameters
abbrev IsOfList : Scope → CType → Trees.ParameterList → Type 0
IsOfList s t list = (result : CType) × (types : CTypes) × (t ≡ function result types) × AreParameters (inside s) list types

pub nearest : (d : Trees.Declarator) (s : Scope) (base t : CType) → Declares s d base (closed t) → (list : Trees.ParameterList)
    → parameters_of d ≡ Some list
    → IsOfList s t list
nearest Trees.nothing s base t h list e = cc
nearest (Trees.named x) s base t h list e = cc
nearest (Trees.pointer at consts d) s base t h list e = nearest d s (pointer base) t h.1 list e
nearest (Trees.enclosed from d to) s base t h list e = nearest d s base t h list e
nearest (Trees.array d from Trees.no_expression to) s base t h list e = let closed_is_open = h.2 in cc
nearest (Trees.array d from (Trees.some_expression a) to) s base t h list e = nearest d s (array base h.2) t h.8 list e
nearest (Trees.function d from all to) s base t h list e =
    by_test (is_name d) refl e (λ e. nearest d s (function base h.0) t h.4 list e)
  where
    by_test : (b : Bool) → is_name d ≡ b → cond b (Some all) (parameters_of d) ≡ Some list → (parameters_of d ≡ Some list → IsOfList s t list)
        → IsOfList s t list
    by_test true n e later =
        let same : all ≡ list = cc in
        let shape = named_nearest d n s (function base h.0) (closed t) h.4 in
        let is : t ≡ function base h.0 = cc in
        (base, h.0, is, subst (λ list. AreParameters (inside s) list h.0) same h.1)
    by_test false n e later = later e

pub open_without : (d : Trees.Declarator) (s : Scope) (base u : CType) → Declares s d base (open_array u) → parameters_of d ≡ None
open_without Trees.nothing s base u h = cc
open_without (Trees.named x) s base u h = cc
open_without (Trees.pointer at consts d) s base u h = open_without d s (pointer base) u h.1
open_without (Trees.enclosed from d to) s base u h = open_without d s base u h
open_without (Trees.array d from Trees.no_expression to) s base u h = no_list d h.1
open_without (Trees.array d from (Trees.some_expression a) to) s base u h = open_without d s (array base h.2) u h.8
open_without (Trees.function d from all to) s base u h =
    by_test (is_name d) refl (open_without d s (function base h.0) u h.4)
  where
    by_test : (b : Bool) → is_name d ≡ b → parameters_of d ≡ None → cond b (Some all) (parameters_of d) ≡ None
    by_test true n later = let shape = named_nearest d n s (function base h.0) (open_array u) h.4 in cc
    by_test false n later = later

-- ---- names of parameters

nameless_listed : (all : Trees.Parameters) (types : CTypes) (k : ℕ) (s : Scope) → AreListed s all types → named_parameters all types k ≡ None
    → IsNameless all
nameless_listed Trees.no_parameters no_types k s are h = cc
nameless_listed Trees.no_parameters (and_type t types) k s are h = cc
nameless_listed (Trees.and_parameter comma specs d more) no_types k s are h = let none_is_one = are.3 in cc
nameless_listed (Trees.and_parameter comma specs d more) (and_type t types) k s are h =
    let e = are.3 in
    let rest : are.2 ≡ types = cc in
    by_name (declared_name d) refl h (λ h.
    let t = with_parameter_if_named s (declared_name d) (parameter_type are.1) in
    nameless_listed more types (k + 1) t (subst (λ types. AreListed t more types) rest are.10) h)
  where
    by_rest : (x : Spelling) (o : Option Received) → received x k t o ≡ None → o ≡ None
    by_rest x None h = refl
    by_rest x (Some p) h = cc

    by_name : (o : Option Spelling) → declared_name d ≡ o → received_if_named o k t (named_parameters more types (k + 1)) ≡ None
        → (named_parameters more types (k + 1) ≡ None → IsNameless more) → IsNameless (Trees.and_parameter comma specs d more)
    by_name None n h later = inl n
    by_name (Some x) n h later = inr (later (by_rest x (named_parameters more types (k + 1)) h))

nameless_list : (list : Trees.ParameterList) (types : CTypes) (s : Scope) → AreParameters s list types → received_by (Some list) types ≡ None
    → HasNameless (Some list)
unfolding received_by
nameless_list (Trees.void_alone at) no_types s are h = cc
nameless_list (Trees.void_alone at) (and_type t types) s are h = cc
nameless_list (Trees.listed all) types s are h = nameless_listed all types 0 s are h

-- a definition that is not received has a parameter without a name, or no list of parameters
pub nameless : (d : Trees.Declarator) (s : Scope) (base result : CType) (types : CTypes) → Declares s d base (closed (function result types))
    → received_by (parameters_of d) types ≡ None → HasNameless (parameters_of d)
nameless d s base result types declares h = by_list (parameters_of d) refl h
  where
    by_list : (o : Option Trees.ParameterList) → parameters_of d ≡ o → received_by o types ≡ None → HasNameless o
    by_list None e h = tt
    by_list (Some list) e h =
        let n = nearest d s base (function result types) declares list e in
        let i = n.2 in
        let same : n.1 ≡ types = cc in
        nameless_list list types (inside s) (subst (AreParameters (inside s) list) same n.3) h

-- ---- parameters are numbers or pointers

scalar_object : (t : CType) → is_scalar t ≡ true → IsObjectType t
scalar_object (integer kind) h = (0, refl)
scalar_object (pointer t) h = (0, refl)
scalar_object void h = cc
scalar_object (array t n) h = cc
scalar_object (function t all) h = cc
scalar_object (structure r) h = cc

one_more : (x : ALocal) (later : List ALocal) → IsObjectType x.ty → AreObjectLocals later → AreObjectLocals (x ∷ later)
one_more x later h i zero t e = let same : x.ty ≡ t = cc in subst IsObjectType same h
one_more x later h i (suc k) t e = i k t e

no_locals : AreObjectLocals []
no_locals k t e = cc

objects_named : (all : Trees.Parameters) (types : CTypes) (s : Scope) (k : ℕ) (locals : List ALocal) (bounds : List Bound) → AreListed s all types
    → AreNamed all types k locals bounds → AreObjectLocals locals
objects_named Trees.no_parameters types s k locals bounds are named = subst AreObjectLocals (sym named.1) no_locals
objects_named (Trees.and_parameter comma specs d more) types s k locals bounds are named =
    let e : and_type named.1 named.2 ≡ and_type (parameter_type are.1) are.2 = sym named.6 ∙ are.3 in
    let rest : are.2 ≡ named.2 = cc in
    let u : named.1 ≡ parameter_type are.1 = cc in
    let scalar : is_scalar named.1 ≡ true = ap is_scalar u ∙ are.7 in
    let t = with_parameter_if_named s (declared_name d) (parameter_type are.1) in
    subst AreObjectLocals (sym named.7)
    (one_more (record { name = named.0.text; ty = named.1 }) named.3 (scalar_object named.1 scalar)
    (objects_named more named.2 t (k + 1) named.3 named.4 (subst (λ types. AreListed t more types) rest are.10) named.9))

pub object_parameters : (d : Trees.Declarator) (s : Scope) (base result : CType) (types : CTypes) (locals : List ALocal) (bounds : List Bound)
    → Declares s d base (closed (function result types)) → HasParameters (parameters_of d) types locals bounds → AreObjectLocals locals
object_parameters d s base result types locals bounds declares has = by_list (parameters_of d) refl has
  where
    by_list : (o : Option Trees.ParameterList) → parameters_of d ≡ o → HasParameters o types locals bounds → AreObjectLocals locals
    by_list None e h = absurd h
    by_list (Some (Trees.void_alone at)) e h = subst AreObjectLocals (sym h.1) no_locals
    by_list (Some (Trees.listed all)) e h =
        let n = nearest d s base (function result types) declares (Trees.listed all) e in
        let i = n.2 in
        let same : n.1 ≡ types = cc in
        objects_named all types (inside s) 0 locals bounds (subst (λ types. AreListed (inside s) all types) same n.3) h
