-- One part of a list as it is found, before the rest; and the types that specifiers name where some storage classes may stand.
use Rattle.std.specs.Prelude.{ℕ, List, Option, Ok, if◌then◌else◌}
use Rattle.lay_base.specs.declared.place.Place.{Place}
use Rattle.lay_base.specs.declared.faults.Rule.TheVariants as R
use Rattle.c_types.specs.Types.{CType, Field}
use Rattle.c_ast.specs.declared.words.Spelling.{Spelling}
use Rattle.c_ast.specs.Trees
use Rattle.c_ast.specs.Places.{first, first_specifiers, first_declarator}
use Rattle.c_erasure.specs.Broken.{member_names, tag_place}
use Rattle.c_erasure.specs.Declarators.{declared_name}
use Rattle.c_erasure.specs.Erasure.{place_in, tag_text}
use Rattle.c_erasure.specs.Noted.{Expression, Thing}
use Rattle.c_erasure.specs.Scopes.{Scope, defines, enumerator}
use Rattle.c_erasure.specs.Specifiers.{storage_of}
use Rattle.c_erasure.specs.Checking.Answers.{◌>>=◌, refused, Checked, with_file, moved}
use Rattle.c_erasure.specs.Checking.Declaring.{base_kind, completed_in, enumeration_of, mentions_in, parameter_storage, without_storage}
use Rattle.c_erasure.specs.Checking.Finding.{arguments, base_type, complete, derivations, enumerator_value, enumerators, find, member_declarators, members}
use Rattle.c_erasure.specs.Checking.Finding.{one_of, value_at}
use Rattle.c_erasure.specs.Checking.Nodes.{argument_in, call_in, signature_in}
use Rattle.c_declaring.specs.Adding.{defining, field_in, parameter_in, with_enumerator}

-- an argument of a parameter's type
abbrev pub argument_found : CType → Trees.Expression → Scope → Checked Expression
argument_found t a s = value_at (first a) (find a s) >>= λ x. with_file x.1 (argument_in (first a) t x.0)

-- a call of what is found, which begins at a place, with arguments up to `right`
abbrev pub call_found : (right from : ℕ) → Place → Thing → Trees.Arguments → Scope → Checked Thing
call_found right from at g all s = with_file s.file (signature_in from g) >>= λ t. arguments right t.0.0 all (moved s t.1)
    >>= λ xs. with_file xs.1 (call_in at g t.0.1 xs.0)

-- where no storage class stands, and where that of a parameter may
abbrev pub base_alone : Trees.Specifiers → Scope → Checked CType
base_alone specs s = without_storage (first_specifiers specs) (storage_of specs) (base_type (base_kind specs) (first_specifiers specs) s.file (one_of specs s))

abbrev pub base_of_parameter : Trees.Specifiers → Scope → Checked CType
base_of_parameter specs s =
    parameter_storage (first_specifiers specs) (storage_of specs) (base_type (base_kind specs) (first_specifiers specs) s.file (one_of specs s))

-- the fields of a line
abbrev pub line_found : Trees.Specifiers → Trees.MemberDeclarators → (semicolon : ℕ) → Scope → Checked (List Field)
line_found specs ds semicolon s = base_alone specs s >>= λ b. member_declarators ds b.0 semicolon (moved s b.1)

-- a field
abbrev pub member_found : Trees.Declarator → CType → (semicolon : ℕ) → Scope → Checked Field
member_found d base semicolon s = derivations d s >>= λ steps.
    field_in s (mentions_in s.file) (complete s (first_declarator d semicolon)) (place_in s (first_declarator d semicolon)) (declared_name d) steps.1 steps.0 base

-- an enumerator, which is known from that byte on
abbrev pub enumerator_found : Spelling → Trees.EnumeratorValue → (from : ℕ) → Scope → (next : ℕ) → Checked ℕ
enumerator_found x value from s next = enumerator_value value s x.from next
    >>= λ v. with_enumerator v.1 (record { name = x.text; place = x.from; from = from; how = defines; entity = enumerator v.0 }) >>= λ f. Ok (v.0, f.1)

-- the type of a parameter
abbrev pub parameter_found : Trees.Specifiers → Trees.Declarator → Scope → Checked CType
parameter_found specs d s = base_of_parameter specs s >>= λ b. derivations d (moved s b.1)
    >>= λ steps. parameter_in (moved s steps.1) (mentions_in b.1) (first_declarator d (first_specifiers specs)) (declared_name d) steps.1 steps.0 b.0

-- ---- definitions of structures and enumerations

abbrev pub structure_found : (at : ℕ) → Option Spelling → Trees.MemberDeclarations → Scope → Checked CType
structure_found at x all s = defining s at x (members all s
    >>= λ m. completed_in m.1 (tag_place at x) (member_names all) (record { tag = tag_text s at x; place = place_in s at; fields = m.0 }))

abbrev pub enumeration_found : (at : ℕ) → Trees.Enumerators → (after : ℕ) → Option Spelling → Scope → Checked CType
enumeration_found at all after x s = if s.is_inside then refused R.Scope at else enumerators all s 0 after >>= λ f. with_file f.1 (enumeration_of f.1 x)
