-- What declarators and specifiers come to: the types that declarators make (C99 6.7.5), and what else a file declares.
use Rattle.std.specs.Prelude.{ℕ, zero, suc, ◌+◌, ◌==◌, ◌&&◌, Bool, true, false, nat_le, nat_lt, if◌then◌else◌, List, [], ◌∷◌, ◌++◌, length, take, drop}
use Rattle.std.specs.Prelude.{ℤ, pos, negsuc, ◌^◌, Option, Some, None, Ok, Err, slice_get}
use Rattle.std.specs.Str.{bytes_eq}
use Rattle.lay_base.specs.declared.place.Place.{Place}
use Rattle.lay_base.specs.declared.faults.Rule.TheVariants as R
use Rattle.c_types.specs.declared.ty.IntKind.{IntKind}
use Rattle.c_types.specs.declared.ty.IntKind.TheVariants.{Char, Int}
use Rattle.c_types.specs.Types.{CType, CTypes, void, integer, pointer, array, function, structure, Record}
use Rattle.c_types.specs.Layouts.{size_of, size_of_record}
use Rattle.c_types.specs.Objects.{parts}
use Rattle.c_ast.specs.declared.words.Spelling.{Spelling}
use Rattle.c_ast.specs.Trees
use Rattle.c_typed.specs.declared.program.MentionKind.{MentionKind}
use Rattle.c_typed.specs.Trees as Typed
use Rattle.c_typed.specs.Conversions.{is_scalar, number_of}
use Rattle.c_typed.specs.Constants.{Constant, valued, constant_of}
use Rattle.c_erasure.specs.Broken.{Fault, undeclared, redeclared, too_big}
use Rattle.c_erasure.specs.Declarators.{Shape, closed, open_array}
use Rattle.c_erasure.specs.Erasure.{typed, literal_object, unmade}
use Rattle.c_erasure.specs.Noted.{Expression, Thing, an_object, way, type_of}
use Rattle.c_erasure.specs.Scopes.{Entity, typedef, Bound, Tag, AnObject, FileScope, Scope, Purpose, in_full, is_measured, here, tag_at}
use Rattle.c_erasure.specs.Specifiers.{Storage, no_storage, is_register, types_among, words_of, no_words, same_words, named_by}
use Rattle.c_erasure.specs.Checking.Nodes.{is_complete}
use Rattle.c_erasure.specs.Checking.Answers.{Answer, ◌>>=◌, refused, Checked}

-- ---- types of which the file speaks

-- a type is listed before those that are listed from that place of the list on; in the operand of a `sizeof` none is
abbrev pub with_mention : Scope → (before : ℕ) → MentionKind → CType → (at : ℕ) → FileScope → FileScope
with_mention s before kind t at f =
    if is_measured s.purpose then f
    else record f { mentions = take before f.mentions ++ record { kind = kind; ty = t; at = at } ∷ drop before f.mentions }

abbrev pub mentions_in : FileScope → ℕ
mentions_in f = length f.mentions

-- ---- string literals

abbrev pub with_object : FileScope → AnObject → FileScope
with_object f o = record f { objects = f.objects ++ o ∷ [] }

abbrev pub literal_for : Purpose → Scope → Place → List ℕ → Checked Thing
literal_for in_full s at bytes = Ok (
  an_object (way (array (integer Char) (length bytes)) at (Typed.object (length s.file.objects))),
  with_object s.file (literal_object at bytes),
)
literal_for p s at bytes = Ok (unmade at (array (integer Char) (length bytes)), s.file)

unfoldable pub literal_in : Scope → Place → List ℕ → Checked Thing
literal_in s at bytes = literal_for s.purpose s at bytes

-- ---- integer constant expressions (6.6); `at` is where the expression begins

abbrev pub constant_of_type : ℕ → CType → Constant → Answer (IntKind × ℕ)
constant_of_type at (integer kind) (valued v) = Ok (kind, v)
constant_of_type at t c = refused R.Constant at

unfoldable pub constant_in : ℕ → Expression → Answer (IntKind × ℕ)
constant_in at x = constant_of_type at (type_of x) (constant_of (typed x))

-- ---- tags and numbers of structures

abbrev pub tag_named : List Tag → List ℕ → Option Tag
tag_named [] x = None
tag_named (t ∷ more) x = if bytes_eq t.name x then Some t else tag_named more x

abbrev pub place_of_tag : Option Tag → ℕ
place_of_tag None = 0
place_of_tag (Some t) = t.place

abbrev pub next : Option ℕ → Option ℕ
next None = None
next (Some n) = Some (n + 1)

abbrev pub number_among : List (List ℕ) → List ℕ → Option ℕ
number_among [] tag = None
number_among (t ∷ more) tag = if bytes_eq t tag then Some 0 else next (number_among more tag)

-- the structure type of a tag; each tag of the file has a number
abbrev pub structure_of : ℕ → Option ℕ → Answer CType
structure_of at None = refused R.Scope at
structure_of at (Some r) = Ok (structure r)

abbrev pub other_tag : FileScope → Spelling → Fault
other_tag f x = redeclared x.text x.from (place_of_tag (tag_named f.tags x.text))

-- `struct` and a tag, which is known to be one of an enumeration or not
abbrev pub tagged : Scope → (at : ℕ) → Spelling → Option Bool → Answer CType
tagged s at x (Some false) = structure_of at (number_among s.file.numbered x.text)
tagged s at x (Some true) = Err (other_tag s.file x)
tagged s at x None = if s.is_inside then refused R.Scope at else structure_of at (number_among s.file.numbered x.text)

unfoldable pub tagged_in : Scope → (at : ℕ) → Spelling → Answer CType
tagged_in s at x = tagged s at x (tag_at s.file.tags x.text x.from)

-- `enum` and a tag
abbrev pub enumerated : FileScope → Spelling → Option Bool → Answer CType
enumerated f x (Some true) = Ok (integer Int)
enumerated f x (Some false) = Err (other_tag f x)
enumerated f x None = Err (undeclared x.text x.from)

unfoldable pub enumerated_in : FileScope → Spelling → Answer CType
enumerated_in f x = enumerated f x (tag_at f.tags x.text x.from)

-- a typedef's name
abbrev pub type_named : Spelling → Option Entity → Answer CType
type_named x (Some (typedef t)) = Ok t
type_named x o = Err (undeclared x.text x.from)

-- ---- definitions of structures (6.7.2.1)

-- the first of some names that stood before
abbrev pub standing : List Spelling → List ℕ → Option Spelling
standing [] x = None
standing (y ∷ more) x = if bytes_eq y.text x then Some y else standing more x

abbrev pub repeated_or : Spelling → Option Spelling → Option Fault → Option Fault
repeated_or y None later = later
repeated_or y (Some x) later = Some (redeclared y.text y.from x.from)

abbrev pub repeated : List Spelling → List Spelling → Option Fault
repeated before [] = None
repeated before (y ∷ more) = repeated_or y (standing before y.text) (repeated (before ++ y ∷ []) more)

abbrev pub unless : {A : Type 0} → Option Fault → Answer A → Answer A
unless None r = r
unless (Some f) r = Err f

-- a structure may be defined at file scope alone, under a tag that is none of an enumeration
abbrev pub definable : Scope → (at : ℕ) → Option Spelling → Option Bool → Option Fault
definable s at (Some x) (Some true) = Some (other_tag s.file x)
definable s at x o = None

abbrev pub known_tag : Scope → Option Spelling → Option Bool
known_tag s None = None
known_tag s (Some x) = tag_at s.file.tags x.text x.from

abbrev pub place_of_record : Option Record → ℕ
place_of_record None = 0
place_of_record (Some r) = r.place.at

abbrev pub record_if_any : List Record → Option ℕ → Option Record
record_if_any records None = None
record_if_any records (Some r) = slice_get records r

-- the structure that an earlier definition completes; its tag stands at `at`
abbrev pub completed_before : FileScope → (at : ℕ) → List ℕ → Fault
completed_before f at tag = redeclared tag at (place_of_record (record_if_any f.records (number_among f.numbered tag)))

abbrev pub is_next : ℕ → Option ℕ → Bool
is_next n None = false
is_next n (Some r) = r == n

abbrev pub with_record : FileScope → Record → FileScope
with_record f r = record f { records = f.records ++ r ∷ [] }

-- one more record, within the limit of sizes
abbrev pub complete_with : FileScope → (at : ℕ) → Record → Checked CType
complete_with f at r = if nat_le (size_of_record f.records r) 16777216 then Ok (structure (length f.records), with_record f r) else Err (too_big at)

-- a definition ends; its members' names differ, and its tag, which stands at `named`, is that of the next number
unfoldable pub completed_in : FileScope → (named : ℕ) → (names : List Spelling) → Record → Checked CType
completed_in f named names r = unless (repeated [] names) (if is_next (length f.records) (number_among f.numbered r.tag) then complete_with f r.place.at r
    else Err (completed_before f named r.tag))

-- ---- enumerations (6.7.2.2)

abbrev pub declared_among : List Bound → List ℕ → Option Bound
declared_among [] x = None
declared_among (b ∷ more) x = if bytes_eq b.name x then Some b else declared_among more x

abbrev pub with_bound : FileScope → Bound → FileScope
with_bound f b = record f { names = f.names ++ b ∷ [] }

abbrev pub new_name : FileScope → Bound → Option Bound → Answer FileScope
new_name f b None = Ok (with_bound f b)
new_name f b (Some old) = Err (redeclared b.name b.place old.place)

-- an enumerator, whose name is new in the file
unfoldable pub enumerator_in : FileScope → Bound → Answer FileScope
enumerator_in f b = new_name f b (declared_among f.names b.name)

abbrev pub is_int : ℤ → Bool
is_int (pos n) = nat_lt n (2 ^ 31)
is_int (negsuc n) = nat_lt n (2 ^ 31)

abbrev pub int_value : ℕ → IntKind × ℕ → Answer ℕ
int_value at c = if is_int (number_of c.0 c.1) then Ok c.1 else refused R.Constant at

-- one past the greatest int is none
abbrev pub next_value : ℕ → ℕ → Answer ℕ
next_value at v = if v == 2 ^ 31 then refused R.Constant at else Ok v

-- the tag stands nowhere else
abbrev pub only_tag : Spelling → Option Tag → Answer CType
only_tag x None = Ok (integer Int)
only_tag x (Some t) = if t.place == x.from then Ok (integer Int) else Err (redeclared x.text x.from t.place)

abbrev pub enumeration_of : FileScope → Option Spelling → Answer CType
enumeration_of f None = Ok (integer Int)
enumeration_of f (Some x) = only_tag x (tag_named f.tags x.text)

-- ---- declarators (6.7.5)

-- one step from a type to the next: `count` records are complete there, and `at` is the byte of its punctuator
pub data Derivation : Type 0 where
  to_pointer : (at : ℕ) → Derivation
  to_array : (count at n : ℕ) → Derivation
  to_open_array : (count at : ℕ) → Derivation
  to_function : (at : ℕ) → (parameters : CTypes) → Derivation

-- within the limits of types
abbrev pub is_small : List Record → CType → Bool
is_small records t = nat_le (size_of records t) 16777216 && nat_le (parts t) 1024

abbrev pub small : List Record → (at : ℕ) → CType → Answer CType
small records at t = if is_small records t then Ok t else Err (too_big at)

abbrev pub element : List Record → (count at : ℕ) → CType → Answer CType
element records count at t = if is_complete records count t then Ok t else refused R.Incomplete at

-- a result is a number, a pointer or nothing (own)
abbrev pub is_result : CType → Bool
is_result void = true
is_result t = is_scalar t

abbrev pub result_type : (at : ℕ) → CType → Answer CType
result_type at t = if is_result t then Ok t else refused R.ByValue at

-- the steps that a declarator takes, one after the other
unfoldable pub derived : List Record → List Derivation → CType → Answer Shape
derived records [] t = Ok (closed t)
derived records (to_pointer at ∷ more) t = small records at (pointer t) >>= λ u. derived records more u
derived records (to_array count at n ∷ more) t =
    element records count at t >>= λ e. small records at (array e n) >>= λ u. derived records more u
derived records (to_open_array count at ∷ []) t = element records count at t >>= λ e. Ok (open_array e)
derived records (to_open_array count at ∷ more) t = refused R.Length at
derived records (to_function at parameters ∷ more) t =
    result_type at t >>= λ r. small records at (pointer (function r parameters)) >>= λ u. derived records more (function r parameters)

-- a length is a number of at least 1
abbrev pub length_of_number : ℕ → ℤ → Answer ℕ
length_of_number at (pos zero) = refused R.Length at
length_of_number at (pos (suc n)) = Ok (suc n)
length_of_number at (negsuc n) = refused R.Length at

abbrev pub length_value : ℕ → IntKind × ℕ → Answer ℕ
length_value at c = length_of_number at (number_of c.0 c.1)

-- the type itself, where an array's length is not left out
abbrev pub closed_at : (at : ℕ) → Shape → Answer CType
closed_at at (closed t) = Ok t
closed_at at (open_array t) = refused R.Length at

unfoldable pub object_at : List Record → (count at : ℕ) → CType → Answer CType
object_at records count at t = if is_complete records count t then Ok t else refused R.Incomplete at

-- ---- specifiers (6.7.2): a type is named by words, or by one specifier

pub data Base : Type 0 where
  by_words : (t : CType) → Base
  by_one : Base
  no_type : Base

abbrev pub base_of_words : Option CType → Base
base_of_words None = no_type
base_of_words (Some t) = by_words t

abbrev pub base_among : List Trees.Specifier → Trees.Specifiers → Base
base_among [] specs = base_of_words (named_by (words_of specs))
base_among (s ∷ []) specs = if same_words (words_of specs) no_words then by_one else no_type
base_among all specs = no_type

abbrev pub base_kind : Trees.Specifiers → Base
base_kind specs = base_among (types_among specs) specs

-- no storage class stands there
abbrev pub without_storage : {A : Type 0} → (at : ℕ) → Storage → Answer A → Answer A
without_storage at no_storage r = r
without_storage at words r = refused R.Specifiers at

-- ---- parameters (6.7.5.3)

abbrev pub parameter_storage : {A : Type 0} → (at : ℕ) → Storage → Answer A → Answer A
parameter_storage at no_storage r = r
parameter_storage at is_register r = r
parameter_storage at words r = refused R.Specifiers at

-- a name that the innermost block has not declared
abbrev pub new_here : {A : Type 0} → Spelling → Option Bound → Answer A → Answer A
new_here x None r = r
new_here x (Some b) r = Err (redeclared x.text x.from b.place)

abbrev pub new_if_named : {A : Type 0} → Scope → Option Spelling → Answer A → Answer A
new_if_named s None r = r
new_if_named s (Some x) r = new_here x (here s x.text) r

-- a number or a pointer; a record would be passed by value
abbrev pub scalar_parameter : (at : ℕ) → CType → Answer CType
scalar_parameter at (integer kind) = Ok (integer kind)
scalar_parameter at (pointer t) = Ok (pointer t)
scalar_parameter at (structure r) = refused R.ByValue at
scalar_parameter at t = refused R.Incomplete at
