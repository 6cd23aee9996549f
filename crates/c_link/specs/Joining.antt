-- The program of several units. What has linkage is one thing under its name, a structure is one under its tag, and everything else is that of
-- its unit (C99 6.2.2). Joining is concatenation, each name once where it stands first.
use Rattle.std.specs.Prelude.{ℕ, ◌+◌, Bool, true, false, if◌then◌else◌, List, [], ◌∷◌, ◌++◌, map, flat_map, fold, Option, Some, None, get_or, is_some, codes}
use Rattle.std.specs.Str.{bytes_eq}
use Rattle.c_types.specs.Types.{CType, void, Record}
use Rattle.c_typed.specs.declared.program.Mention.{Mention}
use Rattle.c_typed.specs.declared.program.Object.{Object}
use Rattle.c_typed.specs.Mapped.{Renaming}
use Rattle.c_typed.specs.Programs.{FunctionData, UnitData, ProgramData}
use Rattle.c_erasure.specs.Units.{new_among, number_in}
use Rattle.c_numbers.specs.KeyNumbers.Keys.{new_keys, position}
use Rattle.c_numbers.specs.NewNumbers.Parts.{function_in, mention_in, object_in}
use Rattle.c_numbers.specs.TypeNumbers.Renumbered.{record_in, renumbered}

-- ---- the units with their numbers, from 0

abbrev pub numbered_from : ℕ → List UnitData → List (ℕ × UnitData)
numbered_from k [] = []
numbered_from k (u ∷ more) = (k, u) ∷ numbered_from (k + 1) more

abbrev pub each_unit : {A : Type 0} → (ℕ → UnitData → List A) → List UnitData → List A
each_unit f units = flat_map (λ u. f u.0 u.1) (numbered_from 0 units)

-- ---- structures: by tag, those that a unit completes first, and then the others

abbrev pub complete_in : UnitData → List (List ℕ)
complete_in u = map (λ r. r.tag) u.records

abbrev pub tags_of_unit : UnitData → List (List ℕ)
tags_of_unit u = complete_in u ++ u.incomplete

abbrev pub complete_tags : List UnitData → List (List ℕ)
complete_tags units = new_keys [] (flat_map complete_in units)

abbrev pub all_tags : List UnitData → List (List ℕ)
all_tags units = complete_tags units ++ new_keys (complete_tags units) (flat_map (λ u. u.incomplete) units)

-- the number of a unit's structure among all tags
abbrev pub structure_in : (tags : List (List ℕ)) → UnitData → ℕ → ℕ
structure_in tags u r = position tags (get_or (tags_of_unit u) r [])

-- ---- types

abbrev pub type_in : (tags : List (List ℕ)) → UnitData → CType → CType
type_in tags u t = renumbered (structure_in tags u) t

abbrev pub types_in : (tags : List (List ℕ)) → UnitData → List CType
types_in tags u = map (type_in tags u) u.types

abbrev pub types : List UnitData → List CType
types units = new_among [] (flat_map (types_in (all_tags units)) units)

-- ---- what is one thing: what has linkage is named, and everything else is that of its unit. An identity is a key

abbrev pub named : List ℕ → List ℕ
named x = 0 ∷ x

abbrev pub own : (unit number : ℕ) → List ℕ
own unit number = 1 ∷ unit ∷ number ∷ []

abbrev pub identity : (unit : ℕ) → (linked : Bool) → List ℕ → (number : ℕ) → List ℕ
identity unit true x n = named x
identity unit false x n = own unit n

abbrev pub object_identities : ℕ → ℕ → List Object → List (List ℕ)
object_identities unit n [] = []
object_identities unit n (o ∷ more) = identity unit o.linked o.name n ∷ object_identities unit (n + 1) more

abbrev pub function_identities : ℕ → ℕ → List FunctionData → List (List ℕ)
function_identities unit n [] = []
function_identities unit n (f ∷ more) = identity unit f.is_linked f.name n ∷ function_identities unit (n + 1) more

abbrev pub all_objects : List UnitData → List (List ℕ)
all_objects units = new_keys [] (each_unit (λ k u. object_identities k 0 u.objects) units)

abbrev pub all_functions : List UnitData → List (List ℕ)
all_functions units = new_keys [] (each_unit (λ k u. function_identities k 0 u.functions) units)

-- ---- the lists by which the program's numbers go, and what a unit's numbers are there

pub record Tables : Type 0 where
  pub tags : List (List ℕ)
  pub types : List CType
  pub objects : List (List ℕ)
  pub functions : List (List ℕ)

abbrev pub tables : List UnitData → Tables
tables units = record { tags = all_tags units; types = types units; objects = all_objects units; functions = all_functions units }

abbrev pub type_number : Tables → UnitData → ℕ → ℕ
type_number t u i = number_in t.types (type_in t.tags u (get_or u.types i void))

abbrev pub object_number : Tables → ℕ → UnitData → ℕ → ℕ
object_number t k u n = position t.objects (get_or (object_identities k 0 u.objects) n [])

abbrev pub function_number : Tables → ℕ → UnitData → ℕ → ℕ
function_number t k u n = position t.functions (get_or (function_identities k 0 u.functions) n [])

abbrev pub renaming : Tables → ℕ → UnitData → Renaming ℕ ℕ
renaming t k u = record {
  ty = type_number t u;
  object = object_number t k u;
  function = function_number t k u;
  structure = structure_in t.tags u;
}

-- ---- lists beside one another, and what stands under an identity

abbrev pub paired : {A B : Type 0} → List A → List B → List (A × B)
paired [] ys = []
paired (x ∷ xs) [] = []
paired (x ∷ xs) (y ∷ ys) = (x, y) ∷ paired xs ys

abbrev pub under : {A : Type 0} → List ℕ → List (List ℕ × A) → List A
under i [] = []
under i (p ∷ more) = if bytes_eq i p.0 then p.1 ∷ under i more else under i more

abbrev pub chosen_among : {A : Type 0} → (A → Bool) → List A → Option A
chosen_among is_defined [] = None
chosen_among is_defined (x ∷ more) = if is_defined x then Some x else chosen_among is_defined more

abbrev pub or_first : {A : Type 0} → A → Option A → Option A
or_first x None = Some x
or_first x (Some y) = Some y

-- the first that is defined, or else the first
abbrev pub chosen : {A : Type 0} → (A → Bool) → List A → Option A
chosen is_defined [] = None
chosen is_defined (x ∷ more) = if is_defined x then Some x else or_first x (chosen_among is_defined more)

-- ---- all that stand under one identity, in the order of the units; the one that is defined is the program's, or else the first

abbrev pub objects_of : Tables → ℕ → UnitData → List (List ℕ × Object)
objects_of t k u = paired (object_identities k 0 u.objects) (map (object_in (renaming t k u)) u.objects)

abbrev pub functions_of : Tables → ℕ → UnitData → List (List ℕ × FunctionData)
functions_of t k u = paired (function_identities k 0 u.functions) (map (function_in (renaming t k u)) u.functions)

abbrev pub all_objects_in : List UnitData → List (List ℕ × Object)
all_objects_in units = each_unit (objects_of (tables units)) units

abbrev pub all_functions_in : List UnitData → List (List ℕ × FunctionData)
all_functions_in units = each_unit (functions_of (tables units)) units

abbrev pub if_any : {A : Type 0} → Option A → List A
if_any None = []
if_any (Some x) = x ∷ []

abbrev pub is_object_defined : Object → Bool
is_object_defined o = is_some o.initial

abbrev pub is_function_defined : FunctionData → Bool
is_function_defined f = is_some f.body

abbrev pub objects : List UnitData → List Object
objects units = flat_map (λ i. if_any (chosen is_object_defined (under i (all_objects_in units)))) (all_objects units)

abbrev pub functions : List UnitData → List FunctionData
functions units = flat_map (λ i. if_any (chosen is_function_defined (under i (all_functions_in units)))) (all_functions units)

-- ---- structures: the first definition of each

abbrev pub records_in : (tags : List (List ℕ)) → UnitData → List Record
records_in tags u = map (record_in (structure_in tags u)) u.records

abbrev pub all_records_in : List UnitData → List Record
all_records_in units = flat_map (records_in (all_tags units)) units

abbrev pub with_tag : List ℕ → List Record → List Record
with_tag tag [] = []
with_tag tag (r ∷ more) = if bytes_eq tag r.tag then r ∷ [] else with_tag tag more

abbrev pub records : List UnitData → List Record
records units = flat_map (λ tag. with_tag tag (all_records_in units)) (complete_tags units)

-- ---- the program

abbrev pub mentions_of : Tables → ℕ → UnitData → List Mention
mentions_of t k u = map (mention_in (renaming t k u)) u.mentions

abbrev pub joined : List UnitData → ProgramData
joined units = record {
  records = records units;
  types = types units;
  objects = objects units;
  functions = functions units;
  mentions = each_unit (mentions_of (tables units)) units;
  main = position (all_functions units) (named (codes "main"));
  nodes = fold (λ n u. n + u.nodes) 0 units;
}
