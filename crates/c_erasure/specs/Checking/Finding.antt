-- The checker of expressions, type names, specifiers and declarators as functions of the tree and of the file up to there, from left to right.
use Rattle.std.specs.Prelude.{ℕ, ◌+◌, ◌%◌, ◌^◌, true, false, if◌then◌else◌, List, [], ◌∷◌, ◌++◌, Option, Some, None, Ok}
use Rattle.lay_base.specs.declared.faults.Rule.TheVariants as R
use Rattle.lay_base.specs.declared.place.Place.{Place}
use Rattle.c_types.specs.declared.ty.IntKind.{IntKind}
use Rattle.c_types.specs.declared.ty.IntKind.TheVariants.{Int}
use Rattle.c_types.specs.Types.{CType, CTypes, integer, no_types, and_type, Field}
use Rattle.c_ast.specs.declared.words.Spelling.{Spelling}
use Rattle.c_ast.specs.declared.operators.UnaryOp.{UnaryOp}
use Rattle.c_ast.specs.declared.operators.UnaryOp.TheVariants as U
use Rattle.c_ast.specs.Trees
use Rattle.c_ast.specs.Places.{first, first_specifiers, first_declarator}
use Rattle.c_typed.specs.declared.operators.UnaryOp.TheVariants as TU
use Rattle.c_typed.specs.declared.operators.BinaryOp.{BinaryOp}
use Rattle.c_typed.specs.declared.program.MentionKind.TheVariants.{Named, Sizeof}
use Rattle.c_typed.specs.Trees as Typed
use Rattle.c_erasure.specs.Broken.{member_names, tag_place}
use Rattle.c_erasure.specs.Declarators.{declared_name, parameter_type}
use Rattle.c_erasure.specs.Erasure.{place_in, literal_of, tag_text, comma_or, after_all, with_parameter_if_named}
use Rattle.c_erasure.specs.Noted.{Noted, nothing, Expression, Thing, a_value}
use Rattle.c_erasure.specs.Operators.{kind_of, update_of, step_of}
use Rattle.c_erasure.specs.Scopes.{FileScope, Scope, inside, measured, for_value, named, ended, defines, enumerator}
use Rattle.c_erasure.specs.Specifiers.{storage_of}
use Rattle.c_erasure.specs.Checking.Answers.{Answer, ◌>>=◌, refused, Checked, with_file, moved}
use Rattle.c_erasure.specs.Checking.Nodes.{worth, named_in, array_of, element_in, index_in, signature_in, argument_in, call_in, dot_in, arrow_in, step_in}
use Rattle.c_erasure.specs.Checking.Nodes.{address_in, deref_in, unary_in, not_in, size_node, sized_type, measured_in, cast_in, binary_in, tested, chosen_in}
use Rattle.c_erasure.specs.Checking.Nodes.{Target, scalar_at, record_at, path_of, target_in, assigned_in, copied_in, updated_in, comma_in}
use Rattle.c_erasure.specs.Checking.Declaring.{with_mention, mentions_in, literal_in, constant_in, tagged_in, enumerated_in, type_named, known_tag, definable}
use Rattle.c_erasure.specs.Checking.Declaring.{unless, completed_in, enumerator_in, int_value, next_value, enumeration_of, Derivation, to_pointer, to_array}
use Rattle.c_erasure.specs.Checking.Declaring.{to_open_array, to_function, derived, length_value, closed_at, object_at, Base, by_words, by_one, no_type}
use Rattle.c_erasure.specs.Checking.Declaring.{base_kind}
use Rattle.c_erasure.specs.Checking.Declaring.{without_storage, parameter_storage, new_if_named, scalar_parameter}

-- how many records are complete at a byte
abbrev pub complete : Scope → (at : ℕ) → ℕ
complete s at = ended s.file.ends at

-- the value of what is found, which begins at `at`
abbrev pub value_at : ℕ → Checked Thing → Checked Expression
value_at at r = r >>= λ x. with_file x.1 (worth at x.0)

-- a value that is tested against zero
abbrev pub tested_at : ℕ → Checked Expression → Checked Expression
tested_at at r = r >>= λ x. with_file x.1 (tested at x.0)

-- ---- unary operators, by what their operand is

abbrev pub on_value : UnaryOp → (count at : ℕ) → Scope → Expression → Answer Thing
on_value U.Deref count at s x = deref_in count (place_in s at) x
on_value U.Plus count at s x = unary_in (place_in s at) TU.Plus x
on_value U.Minus count at s x = unary_in (place_in s at) TU.Minus x
on_value U.Complement count at s x = unary_in (place_in s at) TU.Complement x
on_value U.Not count at s x = not_in (place_in s at) x
on_value U.Address count at s x = refused R.Lvalue at

abbrev pub unary_on : UnaryOp → (count from at : ℕ) → Scope → Checked Thing → Checked Thing
unary_on U.Address count from at s r = r >>= λ x. with_file x.1 (address_in from (place_in s at) x.0)
unary_on op count from at s r = value_at from r >>= λ x. with_file x.1 (on_value op count at s x.0)

-- an integer constant expression
abbrev pub constant_at : ℕ → Checked Expression → Checked (IntKind × ℕ)
constant_at at r = r >>= λ x. with_file x.1 (constant_in at x.0)

-- the type that a declarator names, where no length is left out
abbrev pub type_of_derived : (at : ℕ) → FileScope → List Derivation → CType → Answer CType
type_of_derived at f steps base = derived f.records steps base >>= λ shape. closed_at at shape

-- a subscript on what is found, which may be an array object
abbrev pub subscripted : (count from left : ℕ) → Place → Thing → FileScope → (FileScope → Checked Expression) → Option (Typed.Path Noted × CType)
    → Checked Thing
subscripted count from left at th f number (Some p) = number f >>= λ i. with_file i.1 (element_in left at p i.0)
subscripted count from left at th f number None = with_file f (worth from th) >>= λ x. number x.1 >>= λ y. with_file y.1 (index_in count left at x.0 y.0)

-- what is assigned to an object: a value, a record, or with an operator
abbrev pub assigned : (count op_at from : ℕ) → Place → Target → FileScope → (FileScope → Checked Thing) → Option BinaryOp → Checked Thing
assigned count op_at from at target f right (Some op) =
    value_at from (right f) >>= λ x. with_file x.1 (updated_in count op_at at op (path_of target) x.0)
assigned count op_at from at (scalar_at p) f right None = value_at from (right f) >>= λ x. with_file x.1 (assigned_in op_at at p x.0)
assigned count op_at from at (record_at p) f right None = right f >>= λ x. with_file x.1 (copied_in op_at from at p x.0)

-- the type that specifiers name (6.7.2), by the way in which they name it
abbrev pub base_type : Base → (at : ℕ) → FileScope → Checked CType → Checked CType
base_type (by_words t) at f one = Ok (t, f)
base_type by_one at f one = one
base_type no_type at f one = refused R.Specifiers at

-- a field before others; the declarator begins at that place
abbrev pub with_member : Place → CType → Option Spelling → Checked (List Field) → Checked (List Field)
with_member at t None later = refused R.Specifiers at.at
with_member at t (Some x) later = later >>= λ rest. Ok (record { name = x.text; ty = t; place = at } ∷ rest.0, rest.1)

-- ---- the recursion

unfoldable mutual
  -- what an expression designates (6.5)
  pub find : Trees.Expression → Scope → Checked Thing
  find (Trees.name x) s = with_file s.file (named_in (place_in s x.from) x.text (named s x.text x.from))
  find (Trees.number x n kind) s = Ok (a_value (Typed.expression (record { ty = integer kind; note = nothing }) (place_in s x.from) (Typed.constant n)), s.file)
  find (Trees.character x n) s = Ok (a_value (Typed.expression (record { ty = integer Int; note = nothing }) (place_in s x.from) (Typed.constant n)), s.file)
  find (Trees.texts all) s = literal_in s (place_in s (first (Trees.texts all))) (literal_of all)
  find (Trees.paren left a right) s = find a s
  find (Trees.index a left b right) s = find a s >>= λ x. subscripted (complete s (first a)) (first a) left (place_in s (first a)) x.0 x.1
      (λ f. value_at (first b) (find b (moved s f))) (array_of x.0)
  find (Trees.call g left all right) s = find g s >>= λ x. with_file x.1 (signature_in (first g) x.0) >>= λ t. arguments right t.0.0 all (moved s t.1)
      >>= λ xs. with_file xs.1 (call_in (place_in s (first g)) x.0 t.0.1 xs.0)
  find (Trees.dot a at x) s = find a s >>= λ p. with_file p.1 (dot_in p.1.records (complete s at) x.from (place_in s (first a)) p.0 x.text)
  find (Trees.arrow a at x) s = value_at (first a) (find a s)
      >>= λ e. with_file e.1 (arrow_in e.1.records (complete s (first a)) x.from (place_in s (first a)) e.0 x.text)
  find (Trees.post a op at) s = find a s >>= λ p. with_file p.1 (step_in (complete s (first a)) (first a) at (place_in s (first a)) (step_of op) false p.0)
  find (Trees.pre op at a) s = find a s >>= λ p. with_file p.1 (step_in (complete s at) (first a) at (place_in s at) (step_of op) true p.0)
  find (Trees.unary op at a) s = unary_on op (complete s at) (first a) at s (find a s)
  find (Trees.sizeof_expression at a) s = find a (measured s) >>= λ x. with_file x.1 (measured_in x.1.records (complete s at) at (first a) x.0)
      >>= λ t. Ok (size_node t.1.records (place_in s at) t.0, with_mention s (mentions_in t.1) Sizeof t.0 at t.1)
  find (Trees.sizeof_type at left n right) s = type_name n s >>= λ n. with_file n.1 (sized_type n.1.records (complete s right) at n.0)
      >>= λ t. Ok (size_node t.1.records (place_in s at) t.0, with_mention s (mentions_in s.file) Sizeof t.0 at t.1)
  find (Trees.cast left n right a) s = type_name n s >>= λ t. value_at (first a) (find a (moved s t.1)) >>= λ x. with_file x.1 (cast_in (place_in s left) t.0 x.0)
  find (Trees.binary a op at b) s = value_at (first a) (find a s) >>= λ x. value_at (first b) (find b (moved s x.1))
      >>= λ y. with_file y.1 (binary_in (complete s (first a)) at (place_in s (first a)) (kind_of op) x.0 y.0)
  find (Trees.cond a question b colon c) s = tested_at question (value_at (first a) (find a s)) >>= λ x. value_at (first b) (find b (moved s x.1))
      >>= λ y. value_at (first c) (find c (moved s y.1)) >>= λ z. with_file z.1 (chosen_in colon (place_in s (first a)) x.0 y.0 z.0)
  find (Trees.assign a op at b) s = find a s >>= λ p. with_file p.1 (target_in (first a) p.0)
      >>= λ t. assigned (complete s (first a)) at (first b) (place_in s (first a)) t.0 t.1 (λ f. find b (moved s f)) (update_of op)
  find (Trees.comma a at b) s = value_at (first a) (find a s) >>= λ x. value_at (first b) (find b (moved s x.1))
      >>= λ y. with_file y.1 (comma_in (place_in s (first a)) x.0 y.0)
  find (Trees.braces left all comma right) s = refused R.Init left

  -- the arguments of a call, each converted to its parameter's type; `right` is where they end
  pub arguments : (right : ℕ) → CTypes → Trees.Arguments → Scope → Checked (Typed.Expressions Noted)
  arguments right no_types Trees.no_arguments s = Ok (Typed.no_expressions, s.file)
  arguments right (and_type t more) Trees.no_arguments s = refused R.Arguments right
  arguments right no_types (Trees.and_argument comma a rest) s = refused R.Arguments (first a)
  arguments right (and_type t more) (Trees.and_argument comma a rest) s = value_at (first a) (find a s)
      >>= λ x. with_file x.1 (argument_in (first a) t x.0) >>= λ y. arguments right more rest (moved s y.1) >>= λ ys. Ok (Typed.and_expression y.0 ys.0, ys.1)

  -- ---- types

  -- a type name (6.7.6)
  pub type_name : Trees.TypeName → Scope → Checked CType
  type_name (Trees.type_name specs d) s = without_storage (first_specifiers specs) (storage_of specs) (base_type (base_kind specs) (first_specifiers specs) s.file (one_of specs s))
      >>= λ b. derivations d (moved s b.1) >>= λ steps. with_file steps.1 (type_of_derived (first_declarator d (first_specifiers specs)) steps.1 steps.0 b.0)
      >>= λ t. Ok (t.0, with_mention s (mentions_in b.1) Named t.0 (first_declarator d (first_specifiers specs)) t.1)

  -- the type of the first specifier that is no word (6.7.2)
  pub one_of : Trees.Specifiers → Scope → Checked CType
  one_of Trees.no_specifiers s = refused R.Specifiers 0
  one_of (Trees.and_specifier (Trees.plain word at) more) s = one_of more s
  one_of (Trees.and_specifier specifier more) s = specified specifier s

  pub specified : Trees.Specifier → Scope → Checked CType
  specified (Trees.plain word at) s = refused R.Specifiers at
  specified (Trees.typename x) s = with_file s.file (type_named x (named s x.text x.from))
  specified (Trees.struct_named at x) s = with_file s.file (tagged_in s at x)
  specified (Trees.struct_body at x left all right) s = if s.is_inside then refused R.Scope at else unless (definable s at x (known_tag s x)) (members all s
      >>= λ m. completed_in m.1 (tag_place at x) (member_names all) (record { tag = tag_text s at x; place = place_in s at; fields = m.0 }))
  specified (Trees.enum_named at x) s = with_file s.file (enumerated_in s.file x)
  specified (Trees.enum_body at x left all comma right) s = if s.is_inside then refused R.Scope at
      else enumerators all s 0 (after_all comma right) >>= λ f. with_file f.1 (enumeration_of f.1 x)

  -- the fields of a structure (6.7.2.1)
  pub members : Trees.MemberDeclarations → Scope → Checked (List Field)
  members Trees.no_member_declarations s = Ok ([], s.file)
  members (Trees.and_member_declaration specs ds semicolon more) s = without_storage (first_specifiers specs) (storage_of specs) (base_type (base_kind specs) (first_specifiers specs) s.file (one_of specs s))
      >>= λ b. member_declarators ds b.0 semicolon (moved s b.1) >>= λ own. members more (moved s own.1) >>= λ rest. Ok (own.0 ++ rest.0, rest.1)

  pub member_declarators : Trees.MemberDeclarators → CType → (semicolon : ℕ) → Scope → Checked (List Field)
  member_declarators Trees.no_member_declarators base semicolon s = Ok ([], s.file)
  member_declarators (Trees.and_member_declarator comma d more) base semicolon s = derivations d s
      >>= λ steps. with_file steps.1 (type_of_derived (first_declarator d semicolon) steps.1 steps.0 base)
      >>= λ t. with_file t.1 (object_at t.1.records (complete s (first_declarator d semicolon)) (first_declarator d semicolon) t.0)
      >>= λ u. with_member (place_in s (first_declarator d semicolon)) u.0 (declared_name d)
      (member_declarators more base semicolon (moved s (with_mention s (mentions_in s.file) Named u.0 (first_declarator d semicolon) u.1)))

  -- enumerators, from the value on that the next one has where none is written (6.7.2.2)
  pub enumerators : Trees.Enumerators → Scope → (next after : ℕ) → Checked (Unit {0})
  enumerators Trees.no_enumerators s next after = Ok (tt, s.file)
  enumerators (Trees.and_enumerator comma x value more) s next after = enumerator_value value s x.from next
      >>= λ v. enumerator_in v.1 (record { name = x.text; place = x.from; from = comma_or more after; how = defines; entity = enumerator v.0 })
      >>= λ f. enumerators more (moved s f) ((v.0 + 1) % 2 ^ 32) after

  pub enumerator_value : Trees.EnumeratorValue → Scope → (at next : ℕ) → Checked ℕ
  enumerator_value Trees.no_value s at next = with_file s.file (next_value at next)
  enumerator_value (Trees.valued equal a) s at next = constant_at (first a) (value_at (first a) (find a (for_value s)))
      >>= λ c. with_file c.1 (int_value (first a) c.0)

  -- the steps of a declarator (6.7.5), the one that is taken first in front; they are read from left to right
  pub derivations : Trees.Declarator → Scope → Checked (List Derivation)
  derivations Trees.nothing s = Ok ([], s.file)
  derivations (Trees.named x) s = Ok ([], s.file)
  derivations (Trees.pointer at consts d) s = derivations d s >>= λ steps. Ok (to_pointer at ∷ steps.0, steps.1)
  derivations (Trees.enclosed left d right) s = derivations d s
  derivations (Trees.array d left number right) s = derivations d s >>= λ steps. array_step number left (complete s left) steps.0 (moved s steps.1)
  derivations (Trees.function d left all right) s = derivations d s >>= λ steps. parameter_list all (inside (moved s steps.1))
      >>= λ types. Ok (to_function left types.0 ∷ steps.0, types.1)

  pub array_step : Trees.OptionalExpression → (left count : ℕ) → List Derivation → Scope → Checked (List Derivation)
  array_step Trees.no_expression left count steps s = Ok (to_open_array count left ∷ steps, s.file)
  array_step (Trees.some_expression a) left count steps s = constant_at (first a) (value_at (first a) (find a (for_value s)))
      >>= λ c. with_file c.1 (length_value (first a) c.0) >>= λ n. Ok (to_array count left n.0 ∷ steps, n.1)

  -- the types of parameters (6.7.5.3)
  pub parameter_list : Trees.ParameterList → Scope → Checked CTypes
  parameter_list (Trees.void_alone at) s = Ok (no_types, s.file)
  parameter_list (Trees.listed all) s = parameters all s

  pub parameters : Trees.Parameters → Scope → Checked CTypes
  parameters Trees.no_parameters s = Ok (no_types, s.file)
  parameters (Trees.and_parameter comma specs d more) s = parameter_storage (first_specifiers specs) (storage_of specs) (base_type (base_kind specs) (first_specifiers specs) s.file (one_of specs s))
      >>= λ b. derivations d (moved s b.1) >>= λ steps. with_file steps.1 (derived steps.1.records steps.0 b.0)
      >>= λ shape. new_if_named s (declared_name d) (with_file shape.1 (scalar_parameter (first_declarator d (first_specifiers specs)) (parameter_type shape.0)))
      >>= λ t. parameters more (with_parameter_if_named (moved s (with_mention s (mentions_in b.1) Named t.0 (first_declarator d (first_specifiers specs)) t.1))
      (declared_name d) t.0)
      >>= λ rest. Ok (and_type t.0 rest.0, rest.1)
