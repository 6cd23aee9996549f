-- What is found does not depend on the locals of the function: names are bound in blocks.
use Rattle.std.proofs.Common.{◌≡◌, Bool, refl, ap, ◌∙◌}
use Rattle.c_erasure.specs.Scopes.{tag_at}
use Rattle.c_erasure.specs.Checking.Declaring.{literal_for, tagged}
use Rattle.std.specs.Prelude.{ℕ, ◌+◌, ◌%◌, ◌^◌, true, false, if◌then◌else◌, List, ◌∷◌, ◌++◌, Option, Some, None, Ok}
use Rattle.lay_base.specs.declared.faults.Rule.TheVariants as R
use Rattle.lay_base.specs.declared.place.Place.{Place}
use Rattle.c_types.specs.Types.{CType, CTypes, no_types, and_type}
use Rattle.c_ast.specs.declared.words.Spelling.{Spelling}
use Rattle.c_ast.specs.declared.operators.UnaryOp.{UnaryOp}
use Rattle.c_ast.specs.declared.operators.UnaryOp.TheVariants as U
use Rattle.c_ast.specs.Trees
use Rattle.c_ast.specs.Places.{first, first_specifiers, first_declarator}
use Rattle.c_typed.specs.declared.program.MentionKind.TheVariants.{Named, Sizeof}
use Rattle.c_typed.specs.Trees as Typed
use Rattle.c_erasure.specs.Broken.{member_names, tag_place}
use Rattle.c_erasure.specs.Declarators.{declared_name, parameter_type}
use Rattle.c_erasure.specs.Erasure.{place_in, literal_of, tag_text, comma_or, after_all, with_parameter_if_named}
use Rattle.c_erasure.specs.Noted.{Thing}
use Rattle.c_erasure.specs.Operators.{kind_of, update_of, step_of}
use Rattle.c_erasure.specs.Scopes.{ALocal, Scope, Purpose, in_full, value_alone, type_alone, inside, measured, for_value, defines, enumerator}
use Rattle.c_erasure.specs.Specifiers.{storage_of}
use Rattle.c_erasure.specs.Checking.Answers.{Answer, ◌>>=◌, refused, Checked, with_file, moved}
use Rattle.c_erasure.specs.Checking.Nodes.{array_of, signature_in, argument_in, call_in, dot_in, arrow_in, step_in}
use Rattle.c_erasure.specs.Checking.Nodes.{size_node, sized_type, measured_in, cast_in, binary_in, chosen_in}
use Rattle.c_erasure.specs.Checking.Nodes.{target_in, comma_in}
use Rattle.c_erasure.specs.Checking.Declaring.{with_mention, mentions_in, literal_in, tagged_in, known_tag, definable}
use Rattle.c_erasure.specs.Checking.Declaring.{unless, completed_in, enumerator_in, int_value, enumeration_of, Derivation, to_pointer, to_array}
use Rattle.c_erasure.specs.Checking.Declaring.{to_function, derived, length_value, object_at, base_kind}
use Rattle.c_erasure.specs.Checking.Declaring.{without_storage, parameter_storage, new_if_named, scalar_parameter}
use Rattle.c_erasure.specs.Checking.Finding.{complete, value_at, tested_at, unary_on, constant_at, type_of_derived, subscripted, assigned, base_type}
use Rattle.c_erasure.specs.Checking.Finding.{with_member}
use Rattle.c_erasure.specs.Checking.Finding.{find, arguments, type_name, one_of, specified, members, member_declarators, enumerators, enumerator_value}
use Rattle.c_erasure.specs.Checking.Finding.{derivations, array_step, parameter_list, parameters}

module _ (l : List ALocal) where
  -- the scope with those locals
  abbrev pub with_locals : Scope → Scope
  with_locals s = record s { locals = l }

  literal_locals : (s : Scope) (at : Place) (bytes : List ℕ) → literal_in (with_locals s) at bytes ≡ literal_in s at bytes
  unfolding literal_in
  literal_locals s at bytes = by_purpose s.purpose
    where
      by_purpose : (p : Purpose) → literal_for p (with_locals s) at bytes ≡ literal_for p s at bytes
      by_purpose in_full = refl
      by_purpose value_alone = refl
      by_purpose type_alone = refl

  tagged_locals : (s : Scope) (at : ℕ) (x : Spelling) → tagged_in (with_locals s) at x ≡ tagged_in s at x
  unfolding tagged_in
  tagged_locals s at x = by_tag (tag_at s.file.tags x.text x.from)
    where
      by_tag : (o : Option Bool) → tagged (with_locals s) at x o ≡ tagged s at x o
      by_tag (Some true) = refl
      by_tag (Some false) = refl
      by_tag None = refl

  definable_locals : (s : Scope) (at : ℕ) (x : Option Spelling)
      → definable (with_locals s) at x (known_tag (with_locals s) x) ≡ definable s at x (known_tag s x)
  definable_locals s at None = refl
  definable_locals s at (Some x) = by_tag (tag_at s.file.tags x.text x.from)
    where
      by_tag : (o : Option Bool) → definable (with_locals s) at (Some x) o ≡ definable s at (Some x) o
      by_tag (Some true) = refl
      by_tag (Some false) = refl
      by_tag None = refl

  unary_locals : (op : UnaryOp) (count from at : ℕ) (s : Scope) (r : Checked Thing)
      → unary_on op count from at (with_locals s) r ≡ unary_on op count from at s r
  unary_locals U.Address count from at s r = refl
  unary_locals U.Deref count from at s r = refl
  unary_locals U.Plus count from at s r = refl
  unary_locals U.Minus count from at s r = refl
  unary_locals U.Complement count from at s r = refl
  unary_locals U.Not count from at s r = refl

  new_locals : {A : Type 0} (s : Scope) (x : Option Spelling) (r : Answer A) → new_if_named (with_locals s) x r ≡ new_if_named s x r
  new_locals s None r = refl
  new_locals s (Some x) r = refl

  parameter_locals : (s : Scope) (x : Option Spelling) (t : CType) → with_parameter_if_named (with_locals s) x t ≡ with_locals (with_parameter_if_named s x t)
  parameter_locals s None t = refl
  parameter_locals s (Some x) t = refl

  mutual
    unfolding find arguments type_name one_of specified members member_declarators enumerators enumerator_value derivations array_step parameter_list parameters

    pub same_find : (a : Trees.Expression) (s : Scope) → find a (with_locals s) ≡ find a s
    same_find (Trees.name x) s = refl
    same_find (Trees.number x n kind) s = refl
    same_find (Trees.character x n) s = refl
    same_find (Trees.texts all) s = literal_locals s (place_in s (first (Trees.texts all))) (literal_of all)
    same_find (Trees.paren left a right) s = λ i. same_find a s i
    same_find (Trees.index a left b right) s = λ i. same_find a s i >>= λ x. subscripted (complete s (first a)) (first a) left (place_in s (first a)) x.0 x.1
        (λ f. value_at (first b) (same_find b (moved s f) i)) (array_of x.0)
    same_find (Trees.call g left all right) s =
        λ i. same_find g s i >>= λ x. with_file x.1 (signature_in (first g) x.0) >>= λ t. same_arguments right t.0.0 all (moved s t.1) i
        >>= λ xs. with_file xs.1 (call_in (place_in s (first g)) x.0 t.0.1 xs.0)
    same_find (Trees.dot a at x) s = λ i. same_find a s i >>= λ p. with_file p.1 (dot_in p.1.records (complete s at) x.from (place_in s (first a)) p.0 x.text)
    same_find (Trees.arrow a at x) s = λ i. value_at (first a) (same_find a s i)
        >>= λ e. with_file e.1 (arrow_in e.1.records (complete s (first a)) x.from (place_in s (first a)) e.0 x.text)
    same_find (Trees.post a op at) s =
        λ i. same_find a s i >>= λ p. with_file p.1 (step_in (complete s (first a)) (first a) at (place_in s (first a)) (step_of op) false p.0)
    same_find (Trees.pre op at a) s = λ i. same_find a s i >>= λ p. with_file p.1 (step_in (complete s at) (first a) at (place_in s at) (step_of op) true p.0)
    same_find (Trees.unary op at a) s =
        unary_locals op (complete s at) (first a) at s (find a (with_locals s)) ∙ (λ i. unary_on op (complete s at) (first a) at s (same_find a s i))
    same_find (Trees.sizeof_expression at a) s = λ i. same_find a (measured s) i >>= λ x. with_file x.1 (measured_in x.1.records (complete s at) at (first a) x.0)
        >>= λ t. Ok (size_node t.1.records (place_in s at) t.0, with_mention s (mentions_in t.1) Sizeof t.0 at t.1)
    same_find (Trees.sizeof_type at left n right) s = λ i. same_type_name n s i >>= λ n. with_file n.1 (sized_type n.1.records (complete s right) at n.0)
        >>= λ t. Ok (size_node t.1.records (place_in s at) t.0, with_mention s (mentions_in s.file) Sizeof t.0 at t.1)
    same_find (Trees.cast left n right a) s =
        λ i. same_type_name n s i >>= λ t. value_at (first a) (same_find a (moved s t.1) i) >>= λ x. with_file x.1 (cast_in (place_in s left) t.0 x.0)
    same_find (Trees.binary a op at b) s = λ i. value_at (first a) (same_find a s i) >>= λ x. value_at (first b) (same_find b (moved s x.1) i)
        >>= λ y. with_file y.1 (binary_in (complete s (first a)) at (place_in s (first a)) (kind_of op) x.0 y.0)
    same_find (Trees.cond a question b colon c) s =
        λ i. tested_at question (value_at (first a) (same_find a s i)) >>= λ x. value_at (first b) (same_find b (moved s x.1) i)
        >>= λ y. value_at (first c) (same_find c (moved s y.1) i) >>= λ z. with_file z.1 (chosen_in colon (place_in s (first a)) x.0 y.0 z.0)
    same_find (Trees.assign a op at b) s = λ i. same_find a s i >>= λ p. with_file p.1 (target_in (first a) p.0)
        >>= λ t. assigned (complete s (first a)) at (first b) (place_in s (first a)) t.0 t.1 (λ f. same_find b (moved s f) i) (update_of op)
    same_find (Trees.comma a at b) s = λ i. value_at (first a) (same_find a s i) >>= λ x. value_at (first b) (same_find b (moved s x.1) i)
        >>= λ y. with_file y.1 (comma_in (place_in s (first a)) x.0 y.0)
    same_find (Trees.braces left all comma right) s = refl

    pub same_arguments : (right : ℕ) (types : CTypes) (a : Trees.Arguments) (s : Scope) → arguments right types a (with_locals s) ≡ arguments right types a s
    same_arguments right no_types Trees.no_arguments s = refl
    same_arguments right (and_type t more) Trees.no_arguments s = refl
    same_arguments right no_types (Trees.and_argument comma a rest) s = refl
    same_arguments right (and_type t more) (Trees.and_argument comma a rest) s = λ i. value_at (first a) (same_find a s i)
        >>= λ x. with_file x.1 (argument_in (first a) t x.0) >>= λ y. same_arguments right more rest (moved s y.1) i >>= λ ys. Ok
        (Typed.and_expression y.0 ys.0, ys.1)

    pub same_type_name : (n : Trees.TypeName) (s : Scope) → type_name n (with_locals s) ≡ type_name n s
    same_type_name (Trees.type_name specs d) s =
        λ i. without_storage (first_specifiers specs) (storage_of specs) (base_type (base_kind specs) (first_specifiers specs) s.file (same_one_of specs s i))
        >>= λ b. same_derivations d (moved s b.1) i >>= λ steps. with_file steps.1
        (type_of_derived (first_declarator d (first_specifiers specs)) steps.1 steps.0 b.0)
        >>= λ t. Ok (t.0, with_mention s (mentions_in b.1) Named t.0 (first_declarator d (first_specifiers specs)) t.1)

    pub same_one_of : (x : Trees.Specifiers) (s : Scope) → one_of x (with_locals s) ≡ one_of x s
    same_one_of Trees.no_specifiers s = refl
    same_one_of (Trees.and_specifier (Trees.plain word at) more) s = λ i. same_one_of more s i
    same_one_of (Trees.and_specifier (Trees.typename x) more) s = same_specified (Trees.typename x) s
    same_one_of (Trees.and_specifier (Trees.struct_named at x) more) s = same_specified (Trees.struct_named at x) s
    same_one_of (Trees.and_specifier (Trees.struct_body at x left fields right) more) s = same_specified (Trees.struct_body at x left fields right) s
    same_one_of (Trees.and_specifier (Trees.enum_named at x) more) s = same_specified (Trees.enum_named at x) s
    same_one_of (Trees.and_specifier (Trees.enum_body at x left enums comma right) more) s = same_specified (Trees.enum_body at x left enums comma right) s

    pub same_specified : (x : Trees.Specifier) (s : Scope) → specified x (with_locals s) ≡ specified x s
    same_specified (Trees.plain word at) s = refl
    same_specified (Trees.typename x) s = refl
    same_specified (Trees.struct_named at x) s = λ i. with_file s.file (tagged_locals s at x i)
    same_specified (Trees.struct_body at x left all right) s =
        λ i. if s.is_inside then refused R.Scope at else unless (definable_locals s at x i) (same_members all s i
        >>= λ m. completed_in m.1 (tag_place at x) (member_names all) (record { tag = tag_text s at x; place = place_in s at; fields = m.0 }))
    same_specified (Trees.enum_named at x) s = refl
    same_specified (Trees.enum_body at x left all comma right) s = λ i. if s.is_inside then refused R.Scope at
        else same_enumerators all s 0 (after_all comma right) i >>= λ f. with_file f.1 (enumeration_of f.1 x)

    pub same_members : (a : Trees.MemberDeclarations) (s : Scope) → members a (with_locals s) ≡ members a s
    same_members Trees.no_member_declarations s = refl
    same_members (Trees.and_member_declaration specs ds semicolon more) s =
        λ i. without_storage (first_specifiers specs) (storage_of specs) (base_type (base_kind specs) (first_specifiers specs) s.file (same_one_of specs s i))
        >>= λ b. same_member_declarators ds b.0 semicolon (moved s b.1) i >>= λ own. same_members more (moved s own.1) i >>= λ rest. Ok
        (own.0 ++ rest.0, rest.1)

    pub same_member_declarators : (a : Trees.MemberDeclarators) (base : CType) (semicolon : ℕ) (s : Scope)
        → member_declarators a base semicolon (with_locals s) ≡ member_declarators a base semicolon s
    same_member_declarators Trees.no_member_declarators base semicolon s = refl
    same_member_declarators (Trees.and_member_declarator comma d more) base semicolon s = λ i. same_derivations d s i
        >>= λ steps. with_file steps.1 (type_of_derived (first_declarator d semicolon) steps.1 steps.0 base)
        >>= λ t. with_file t.1 (object_at t.1.records (complete s (first_declarator d semicolon)) (first_declarator d semicolon) t.0)
        >>= λ u. with_member (place_in s (first_declarator d semicolon)) u.0 (declared_name d)
        (same_member_declarators more base semicolon (moved s (with_mention s (mentions_in s.file) Named u.0 (first_declarator d semicolon) u.1)) i)

    pub same_enumerators : (a : Trees.Enumerators) (s : Scope) (next after : ℕ) → enumerators a (with_locals s) next after ≡ enumerators a s next after
    same_enumerators Trees.no_enumerators s next after = refl
    same_enumerators (Trees.and_enumerator comma x value more) s next after = λ i. same_enumerator_value value s x.from next i
        >>= λ v. enumerator_in v.1 (record { name = x.text; place = x.from; from = comma_or more after; how = defines; entity = enumerator v.0 })
        >>= λ f. same_enumerators more (moved s f) ((v.0 + 1) % 2 ^ 32) after i

    pub same_enumerator_value : (a : Trees.EnumeratorValue) (s : Scope) (at next : ℕ)
        → enumerator_value a (with_locals s) at next ≡ enumerator_value a s at next
    same_enumerator_value Trees.no_value s at next = refl
    same_enumerator_value (Trees.valued equal a) s at next = λ i. constant_at (first a) (value_at (first a) (same_find a (for_value s) i))
        >>= λ c. with_file c.1 (int_value (first a) c.0)

    pub same_derivations : (d : Trees.Declarator) (s : Scope) → derivations d (with_locals s) ≡ derivations d s
    same_derivations Trees.nothing s = refl
    same_derivations (Trees.named x) s = refl
    same_derivations (Trees.pointer at consts d) s = λ i. same_derivations d s i >>= λ steps. Ok (to_pointer at ∷ steps.0, steps.1)
    same_derivations (Trees.enclosed left d right) s = λ i. same_derivations d s i
    same_derivations (Trees.array d left number right) s =
        λ i. same_derivations d s i >>= λ steps. same_array_step number left (complete s left) steps.0 (moved s steps.1) i
    same_derivations (Trees.function d left all right) s = λ i. same_derivations d s i >>= λ steps. same_parameter_list all (inside (moved s steps.1)) i
        >>= λ types. Ok (to_function left types.0 ∷ steps.0, types.1)

    pub same_array_step : (n : Trees.OptionalExpression) (left count : ℕ) (steps : List Derivation) (s : Scope)
        → array_step n left count steps (with_locals s) ≡ array_step n left count steps s
    same_array_step Trees.no_expression left count steps s = refl
    same_array_step (Trees.some_expression a) left count steps s = λ i. constant_at (first a) (value_at (first a) (same_find a (for_value s) i))
        >>= λ c. with_file c.1 (length_value (first a) c.0) >>= λ n. Ok (to_array count left n.0 ∷ steps, n.1)

    pub same_parameter_list : (a : Trees.ParameterList) (s : Scope) → parameter_list a (with_locals s) ≡ parameter_list a s
    same_parameter_list (Trees.void_alone at) s = refl
    same_parameter_list (Trees.listed all) s = λ i. same_parameters all s i

    pub same_parameters : (a : Trees.Parameters) (s : Scope) → parameters a (with_locals s) ≡ parameters a s
    same_parameters Trees.no_parameters s = refl
    same_parameters (Trees.and_parameter comma specs d more) s =
        λ i. parameter_storage (first_specifiers specs) (storage_of specs) (base_type (base_kind specs) (first_specifiers specs) s.file (same_one_of specs s i))
        >>= λ b. same_derivations d (moved s b.1) i >>= λ steps. with_file steps.1 (derived steps.1.records steps.0 b.0)
        >>= λ shape. new_locals s (declared_name d)
        (with_file shape.1 (scalar_parameter (first_declarator d (first_specifiers specs)) (parameter_type shape.0))) i
        >>= λ t. (ap (parameters more) (parameter_locals
        (moved s (with_mention s (mentions_in b.1) Named t.0 (first_declarator d (first_specifiers specs)) t.1))
        (declared_name d) t.0) ∙ same_parameters more
        (with_parameter_if_named (moved s (with_mention s (mentions_in b.1) Named t.0 (first_declarator d (first_specifiers specs)) t.1))
        (declared_name d) t.0)) i
        >>= λ rest. Ok (and_type t.0 rest.0, rest.1)
