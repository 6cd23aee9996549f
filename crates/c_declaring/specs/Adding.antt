-- What functions on a file answer, beside what the definitions of the checker say.
use Rattle.std.specs.Prelude.{◌≡◌, ℕ, true, false, All, IsTrue, List, length, ◌∷◌, ◌++◌, drop, map, take, Result, Option, Some, None, Ok, Err, if◌then◌else◌}
use Rattle.std.specs.Borrow.{Bor}
use Rattle.lay_base.specs.declared.place.Place.{Place}
use Rattle.lay_base.specs.declared.faults.Rule.TheVariants as R
use Rattle.c_types.specs.declared.ty.IntKind.{IntKind}
use Rattle.c_types.specs.declared.record.Field as Fields
use Rattle.c_types.specs.declared.record.Record as Records
use Rattle.c_types.specs.Objects.{is_object}
use Rattle.c_types.specs.Types.{CType, Field, Record}
use Rattle.c_types.specs.Views.{type_of}
use Rattle.c_ast.specs.declared.words.Spelling.{Spelling}
use Rattle.c_typed.specs.declared.program.MentionKind.TheVariants.{Named, Sizeof}
use Rattle.c_erasure.specs.Declarators.{Shape, parameter_type}
use Rattle.c_erasure.specs.Erasure.{place_in, tag_text}
use Rattle.c_erasure.specs.Noted.{Thing}
use Rattle.c_erasure.specs.Scopes.{AMention, Bound, FileScope, Scope, defines, a_parameter, with_name}
use Rattle.c_erasure.specs.Checking.Answers.{Answer, ◌>>=◌, refused, Checked, with_file}
use Rattle.c_erasure.specs.Checking.Declaring.{Derivation, to_array, complete_with, completed_before, definable, derived, enumerator_in, is_next, number_among}
use Rattle.c_erasure.specs.Checking.Declaring.{known_tag, length_value, mentions_in, new_if_named, object_at}
use Rattle.c_erasure.specs.Checking.Declaring.{scalar_parameter, unless, with_mention}
use Rattle.c_erasure.specs.Checking.Finding.{type_of_derived}
use Rattle.c_erasure.specs.Checking.Nodes.{measured_in, size_node, sized_type}
use Rattle.c_nodes.specs.declared.fault.Fault.{Fault}
use Rattle.c_nodes.specs.Gives.{Fails}
use Rattle.c_annotated.specs.FileViews.{local_of}
use Rattle.c_scopes.specs.declared.file_scope.FileScope as Program
use Rattle.c_scopes.specs.declared.scope.Scope as Around
use Rattle.c_scopes.specs.Scoping.{file_of, purpose_of}
use Rattle.c_declaring.specs.declared.structures.Heading.{Heading}

-- ---- mentions

abbrev pub mentioned : (before : ℕ) → AMention → FileScope → FileScope
mentioned before m f = record f { mentions = take before f.mentions ++ m ∷ drop before f.mentions }

-- ---- definitions of structures

-- what follows is a definition's, where it may stand
abbrev pub defining : {A : Type 0} → Scope → (at : ℕ) → Option Spelling → Answer A → Answer A
defining s at x later = if s.is_inside then refused R.Scope at else unless (definable s at x (known_tag s x)) later

-- the definition may stand there, and its structure has that tag and that place
abbrev pub Begins : Result Heading Fault → Scope → (at : ℕ) → Option Spelling → Type 0
Begins (Ok it) s at x = (s.is_inside ≡ false) × (definable s at x (known_tag s x) ≡ None) × (it.tag ≡ tag_text s at x) × (it.place ≡ place_in s at)
Begins (Err fault) s at x = Fails fault (defining {A = Unit {0}} s at x (Ok tt))

-- the fields are of complete types
abbrev pub AreObjects : List Records.Record → List Fields.Field → Type 0
AreObjects records fields = All (λ f. IsTrue (is_object (length records) (type_of f.ty))) fields

-- the record is that of the next number, or an earlier definition completed its structure
abbrev pub next_or_before : FileScope → (named : ℕ) → Record → Checked CType
next_or_before f named r = if is_next (length f.records) (number_among f.numbered r.tag) then complete_with f r.place.at r else Err (completed_before f named r.tag)

-- ---- enumerators

abbrev pub with_enumerator : FileScope → Bound → Checked (Unit {0})
with_enumerator f b = enumerator_in f b >>= λ g. Ok (tt, g)

-- ---- steps of declarators, and what they make

-- the step to an array, whose length is that number
abbrev pub array_step_in : FileScope → (at count left : ℕ) → IntKind × ℕ → List Derivation → Checked (List Derivation)
array_step_in f at count left c steps = with_file f (length_value at c) >>= λ n. Ok (to_array count left n.0 ∷ steps, n.1)

-- the type that a type name names, which the file lists before those from that place of its list on
abbrev pub type_name_in : Scope → (before at : ℕ) → FileScope → List Derivation → CType → Checked CType
type_name_in s before at f steps base = with_file f (type_of_derived at f steps base) >>= λ t. Ok (t.0, with_mention s before Named t.0 at t.1)

abbrev pub field_with : Place → CType → Option Spelling → FileScope → Checked Field
field_with at t None f = refused R.Specifiers at.at
field_with at t (Some x) f = Ok (record { name = x.text; ty = t; place = at }, f)

-- a field, whose declarator stands at that place, where so many records are complete
abbrev pub field_in : Scope → (before count : ℕ) → Place → Option Spelling → FileScope → List Derivation → CType → Checked Field
field_in s before count at x f steps base = with_file f (type_of_derived at.at f steps base)
    >>= λ t. with_file t.1 (object_at t.1.records count at.at t.0) >>= λ u. field_with at u.0 x (with_mention s before Named u.0 at.at u.1)

-- a parameter, whose declarator stands at that byte
abbrev pub parameter_made : Scope → (before at : ℕ) → Option Spelling → FileScope → Shape → Checked CType
parameter_made s before at x f shape = new_if_named s x (with_file f (scalar_parameter at (parameter_type shape)))
    >>= λ t. Ok (t.0, with_mention s before Named t.0 at t.1)

abbrev pub parameter_in : Scope → (before at : ℕ) → Option Spelling → FileScope → List Derivation → CType → Checked CType
parameter_in s before at x f steps base = with_file f (derived f.records steps base) >>= λ shape. parameter_made s before at x shape.1 shape.0

-- the names of blocks with that of a parameter, where it has one
abbrev pub blocks_with : List (List Bound) → Option Spelling → CType → List (List Bound)
blocks_with blocks None t = blocks
blocks_with blocks (Some x) t = with_name blocks (record { name = x.text; place = x.from; from = x.from; how = defines; entity = a_parameter t })

-- the same place, with these blocks around
abbrev pub scope_within : Program.FileScope → List (List Bound) → Around.Scope → Scope
scope_within f blocks s = record { file = file_of f; blocks = blocks; is_inside = true; purpose = purpose_of s.purpose; locals = map local_of s.locals.now }

-- ---- `sizeof`

-- the size of an operand, which begins at `from`, and that of a type, which the file lists before those from that place of its list on
abbrev pub measured_size : Scope → (count at from : ℕ) → Place → FileScope → Thing → Checked Thing
measured_size s count at from place f th = with_file f (measured_in f.records count at from th)
    >>= λ t. Ok (size_node t.1.records place t.0, with_mention s (mentions_in t.1) Sizeof t.0 at t.1)

abbrev pub sized_size : Scope → (before count at : ℕ) → Place → FileScope → CType → Checked Thing
sized_size s before count at place f t = with_file f (sized_type f.records count at t)
    >>= λ t. Ok (size_node t.1.records place t.0, with_mention s before Sizeof t.0 at t.1)

-- ---- names of members

-- what references lend
abbrev pub lent : List (Bor Spelling) → List Spelling
lent all = map (λ b. b.now) all
