-- Which typed trees are those of an expression, and which types those of a type name: one rule for each alternative of the grammar
-- (C99 6.5, 6.7.2 to 6.7.6). Conversions and parentheses are stepped over; a typedef's name stands for its type, and `sizeof` and an
-- enumerator for their constants.
use Rattle.std.specs.Prelude.{◌≡◌, ◌≢◌, ℕ, ◌+◌, ◌≤◌, ◌<◌, ◌%◌, ◌^◌, true, false, List, [], ◌∷◌, ◌++◌, map, length, ℤ, pos, negsuc}
use Rattle.std.specs.Prelude.{Option, Some, None, slice_get, ◌⊎◌}
use Rattle.lay_base.specs.declared.place.Place.{Place}
use Rattle.c_types.specs.declared.ty.IntKind.{IntKind}
use Rattle.c_types.specs.declared.ty.IntKind.TheVariants.{Char, Int, UInt}
use Rattle.c_types.specs.Types.{CType, CTypes, void, integer, pointer, array, function, structure, no_types, and_type, Field, Record}
use Rattle.c_types.specs.Layouts.{size_of}
use Rattle.c_types.specs.Objects.{is_object, parts}
use Rattle.c_tokens.specs.QuotedScan.{string_bytes}
use Rattle.c_ast.specs.declared.words.Spelling.{Spelling}
use Rattle.c_ast.specs.declared.operators.UnaryOp.TheVariants as U
use Rattle.c_ast.specs.Trees
use Rattle.c_ast.specs.Places.{first, first_specifiers, first_declarator}
use Rattle.c_typed.specs.declared.operators.UnaryOp.TheVariants as TU
use Rattle.c_typed.specs.declared.program.MentionKind.TheVariants.{Named, Sizeof}
use Rattle.c_typed.specs.declared.operators.BinaryOp.{BinaryOp}
use Rattle.c_typed.specs.declared.operators.BinaryOp.TheVariants as B
use Rattle.c_typed.specs.declared.operators.PointerOp.TheVariants as P
use Rattle.c_typed.specs.Trees as Typed
use Rattle.c_typed.specs.Mapped.{of_types, mapped, mapped_path}
use Rattle.c_typed.specs.Conversions.{is_integer, is_array, is_function, is_scalar, number_of}
use Rattle.c_typed.specs.Constants.{valued, constant_of}
use Rattle.c_typed.specs.Typed.{IsTyped, IsTypedPath}
use Rattle.c_erasure.specs.Scopes.{Entity, typedef, enumerator, a_local, a_parameter, Bound, FileScope, AnObject, Scope, inside, with_parameter, here, named}
use Rattle.c_erasure.specs.Scopes.{tag_at}
use Rattle.c_erasure.specs.Scopes.{IsNumbered, ended, declared, Purpose, in_full, for_value, measured, IsMentioned}
use Rattle.c_erasure.specs.Scopes as Scopes
use Rattle.c_erasure.specs.Scopes.{defines}
use Rattle.c_erasure.specs.Noted as Notes
use Rattle.c_erasure.specs.Noted.{Noted, Note, size_of as sized, Expression, Node, Thing, an_object, a_value, a_function, a_function_at}
use Rattle.c_erasure.specs.Noted.{a_library_function, value, way, type_of, type_of_path, value_of, unconverted}
use Rattle.c_erasure.specs.Operators.{Kind, computes, compares, all_of, any_of, kind_of, update_of, step_of}
use Rattle.c_erasure.specs.Specifiers.{named_by, words_of, no_words, types_among, storage_of, no_storage, is_register}
use Rattle.c_erasure.specs.Declarators.{declared_name, is_name, Shape, closed, open_array, parameter_type, IsSmall, AreDifferent}

-- ---- the typed tree without its notes

abbrev pub typed : Expression → Typed.Expression CType
typed = mapped (of_types (λ t. t.ty))

abbrev pub IsTypedThing : Scope → Thing → Type 0
IsTypedThing s (an_object p) = IsTypedPath (declared s) (mapped_path (of_types (λ t. t.ty)) p)
IsTypedThing s (a_value e) = IsTyped (declared s) (typed e)
IsTypedThing s (a_function at f t) = slice_get (declared s).functions f ≡ Some t
IsTypedThing s (a_function_at e) = IsTyped (declared s) (typed e) × ((t : CType) × (type_of e ≡ pointer t) × (is_function t ≡ true))
IsTypedThing s (a_library_function at which) = Unit {0}

-- the type of an object or a value; that of a function is no operand of `sizeof`
abbrev pub IsOfType : Thing → CType → Type 0
IsOfType (an_object p) t = type_of_path p ≡ t
IsOfType (a_value e) t = type_of e ≡ t
IsOfType th t = ⊥

-- ---- parts of rules

abbrev pub place_in : Scope → ℕ → Place
place_in s at = record { file = s.file.file; at = at }

-- where nothing is evaluated there is no object: what is used of it is a type, as of what a null pointer points to
abbrev pub unmade : Place → CType → Thing
unmade at t = an_object (way t at (Typed.deref (value (pointer t) at Typed.null)))

-- an object, a function or a constant by its name (6.5.1)
abbrev pub IsNamed : Place → Entity → Thing → Type 0
IsNamed at (typedef t) th = ⊥
IsNamed at (enumerator v) th = th ≡ a_value (value (integer Int) at (Typed.constant v))
IsNamed at (Scopes.an_object n t) th = th ≡ an_object (way t at (Typed.object n))
IsNamed at (Scopes.a_function f t) th = th ≡ a_function at f t
IsNamed at (Scopes.a_library_function which) th = th ≡ a_library_function at which
IsNamed at (a_local n t) th = th ≡ an_object (way t at (Typed.local n))
IsNamed at (a_parameter t) th = th ≡ unmade at t

-- the object of a string literal: the bytes of the adjacent ones, and a zero (6.4.5)
abbrev pub literal_of : List Spelling → List ℕ
literal_of [] = 0 ∷ []
literal_of (x ∷ more) = string_bytes x.text ++ literal_of more

-- an object for itself, of an array type, which no other file can name
abbrev pub literal_object : Place → List ℕ → AnObject
literal_object at bytes = record {
  name = [];
  place = at;
  first = at.at;
  ty = array (integer Char) (length bytes);
  is_linked = false;
  literal = Some bytes;
  initial = Some (Typed.parts (record { offset = 0; value = Typed.text bytes } ∷ []));
}

abbrev pub IsLiteralFor : Purpose → Scope → Place → List ℕ → Thing → Type 0
IsLiteralFor in_full s at bytes th = (n : ℕ) × (th ≡ an_object (way (array (integer Char) (length bytes)) at (Typed.object n)))
    × (slice_get s.file.objects n ≡ Some (literal_object at bytes))
IsLiteralFor p s at bytes th = th ≡ unmade at (array (integer Char) (length bytes))

abbrev pub IsLiteral : Scope → Place → List ℕ → Thing → Type 0
IsLiteral s at bytes th = IsLiteralFor s.purpose s at bytes th

-- what a binary operator makes of its operands
abbrev pub IsSum : BinaryOp → Expression → Expression → Node → Type 0
IsSum B.Add x y node = (node ≡ Typed.binary B.Add x y) ⊎ (node ≡ Typed.pointer_add P.Add x y)
IsSum B.Subtract x y node = (node ≡ Typed.binary B.Subtract x y) ⊎ (node ≡ Typed.pointer_add P.Subtract x y) ⊎ (node ≡ Typed.pointer_difference x y)
IsSum op x y node = node ≡ Typed.binary op x y

abbrev pub IsJoined : Kind → Expression → Expression → Node → Type 0
IsJoined (computes op) x y node = IsSum op x y node
IsJoined (compares op) x y node = node ≡ Typed.compare op x y
IsJoined all_of x y node = node ≡ Typed.both x y
IsJoined any_of x y node = node ≡ Typed.either x y

-- what is called: a function by its name, one of the library, or one through a pointer (6.5.2.2)
abbrev pub IsCall : Thing → Typed.Expressions Noted → Node → Type 0
IsCall (a_function at f t) all node = node ≡ Typed.call f all
IsCall (a_library_function at which) all node = node ≡ Typed.library which all
IsCall (a_value e) all node = node ≡ Typed.call_through e all
IsCall (a_function_at e) all node = node ≡ Typed.call_through e all
IsCall (an_object p) all node = (e : Expression) × (value_of (an_object p) ≡ Some e) × (node ≡ Typed.call_through e all)

-- `&` of an object, within the limits of types, or of a function (6.5.3.2)
abbrev pub IsAddress : Place → Thing → Thing → Type 0
IsAddress at (an_object p) th = (t : CType) × (parts t ≤ 1024) × (th ≡ a_value (value t at (Typed.address_of p)))
IsAddress at (a_function from f t) th = th ≡ a_value (value (pointer t) at (Typed.function_name f))
IsAddress at (a_function_at e) th = th ≡ a_value e
IsAddress at operand th = ⊥

-- what a pointer points to: an object, or a function
abbrev pub IsPointed : Place → Expression → Thing → Type 0
IsPointed at e th = ((t : CType) × (is_function t ≡ false) × (th ≡ an_object (way t at (Typed.deref e))))
    ⊎ ((t : CType) × (type_of e ≡ pointer t) × (is_function t ≡ true) × (unconverted e ≡ e) × (th ≡ a_function_at e))

-- a field by its name
abbrev pub IsField : Scope → ℕ → List ℕ → ℕ → CType → Type 0
IsField s r x k t = (rec : Record) × (f : Field) × (slice_get s.file.records r ≡ Some rec) × (slice_get rec.fields k ≡ Some f) × (f.name ≡ x) × (f.ty ≡ t)

-- `struct` and a tag: it was declared before, or is new, which it may be at file scope alone (6.7.2.3)
abbrev pub IsStructTag : Scope → Spelling → Type 0
IsStructTag s x = (tag_at s.file.tags x.text x.from ≡ Some false) ⊎ ((tag_at s.file.tags x.text x.from ≡ None) × (s.is_inside ≡ false))

abbrev pub tag_text : Scope → ℕ → Option Spelling → List ℕ
tag_text s at None = s.file.untagged at
tag_text s at (Some x) = x.text

-- the last byte at which an enumerator is not yet known is that of the comma or brace after it
abbrev pub comma_or : Trees.Enumerators → ℕ → ℕ
comma_or (Trees.and_enumerator (Some comma) x value more) after = comma
comma_or all after = after

abbrev pub after_all : Option ℕ → ℕ → ℕ
after_all (Some comma) right = comma
after_all None right = right

-- among the names of the file scope
abbrev pub IsBound : Scope → Bound → Type 0
IsBound s b = (k : ℕ) × (slice_get s.file.names k ≡ Some b)

-- a name may be declared once in a block; what has none declares nothing
abbrev pub IsNew : Scope → Option Spelling → Type 0
IsNew s None = Unit {0}
IsNew s (Some x) = here s x.text ≡ None

abbrev pub with_parameter_if_named : Scope → Option Spelling → CType → Scope
with_parameter_if_named s None t = s
with_parameter_if_named s (Some x) t = with_parameter s x.text x.from t

-- `sizeof` a type that is a complete object type by that byte (6.5.3.4), within the limits of types
abbrev pub IsSize : Scope → (at by : ℕ) → CType → Thing → Type 0
IsSize s at by t th = (is_object (ended s.file.ends by) t ≡ true) × IsMentioned s Sizeof t at
    × (th ≡ a_value (Typed.expression (record { ty = integer UInt; note = sized t at }) (place_in s at)
    (Typed.constant (size_of s.file.records t)))) × (size_of s.file.records t ≤ 16777216)

abbrev pub IsInt : ℤ → Type 0
IsInt (pos n) = n < 2 ^ 31
IsInt (negsuc n) = n < 2 ^ 31

-- the value of what stands there, converted or not
abbrev pub Values : (Thing → Type 0) → Expression → Type 0
Values Stands x = (th : Thing) × (value_of th ≡ Some (unconverted x)) × Stands th

-- an integer constant expression with its value (6.6): it is typed, and leaves nothing but its value
abbrev pub IsConstant : (Scope → Thing → Type 0) → Scope → IntKind → ℕ → Type 0
IsConstant Stands s kind v = (x : Expression) × Values (Stands (for_value s)) x × IsTyped (declared s) (typed x)
    × (unconverted x ≡ x) × (type_of x ≡ integer kind) × (constant_of (typed x) ≡ valued v)

-- the operand of `sizeof` is not evaluated: it is typed, and leaves nothing but its type
abbrev pub IsMeasured : (Scope → Thing → Type 0) → Scope → CType → Type 0
IsMeasured Stands s t = (operand : Thing) × Stands (measured s) operand × IsTypedThing s operand × IsOfType operand t

-- the type that specifiers name (6.7.2): by their words, or by one typedef's name, structure or enumeration
abbrev pub IsBase : (CType → Type 0) → Trees.Specifiers → CType → Type 0
IsBase One specs t = ((types_among specs ≡ []) × (named_by (words_of specs) ≡ Some t)) ⊎ ((words_of specs ≡ no_words) × One t)

-- where a type name names its type: at its declarator, or else at its first token
abbrev pub place_of_name : Trees.TypeName → ℕ
place_of_name (Trees.type_name specs d) = first_declarator d (first_specifiers specs)

-- ---- the rules

abbrev mutual
  -- what an expression designates
  pub Erases : Trees.Expression → Scope → Thing → Type 0
  Erases (Trees.name x) s th = (e : Entity) × (named s x.text x.from ≡ Some e) × IsNamed (place_in s x.from) e th
  Erases (Trees.number x n kind) s th = th ≡ a_value (value (integer kind) (place_in s x.from) (Typed.constant n))
  Erases (Trees.character x n) s th = th ≡ a_value (value (integer Int) (place_in s x.from) (Typed.constant n))
  Erases (Trees.texts all) s th = IsLiteral s (place_in s (first (Trees.texts all))) (literal_of all) th
  Erases (Trees.paren left a right) s th = Erases a s th
  -- an array's own element, what lies so far behind a pointer, or with the number first
  Erases (Trees.index a left b right) s th = ((t : CType) × (p : Notes.Path) × (i : Expression) × (is_array (type_of_path p) ≡ true)
      × (th ≡ an_object (way t (place_in s (first a)) (Typed.element p i))) × Erases a s (an_object p) × Values (Erases b s) i)
      ⊎ ((t : CType) × (e i : Expression) × (th ≡ an_object (way t (place_in s (first a)) (Typed.index e i))) × Values (Erases a s) e × Values (Erases b s) i)
      ⊎ ((t u : CType) × (i e : Expression) × (is_integer (type_of i) ≡ true) × Values (Erases a s) i × Values (Erases b s) e
      × (th ≡ an_object (way t (place_in s (first a)) (Typed.deref (value u (place_in s (first a)) (Typed.pointer_add P.Add i e))))))
  Erases (Trees.call f left all right) s th = (t : CType) × (g : Thing) × (xs : Typed.Expressions Noted) × (node : Node) × Erases f s g
      × AreValues s xs all × IsCall g xs node × (th ≡ a_value (value t (place_in s (first f)) node))
  Erases (Trees.dot a at x) s th = (t : CType) × (p : Notes.Path) × (r k : ℕ) × (th ≡ an_object (way t (place_in s (first a)) (Typed.member p r k)))
      × IsField s r x.text k t × Erases a s (an_object p)
  Erases (Trees.arrow a at x) s th = (t u : CType) × (e : Expression) × (r k : ℕ) × IsField s r x.text k t × Values (Erases a s) e
      × (th ≡ an_object (way t (place_in s (first a)) (Typed.member (way u (place_in s (first a)) (Typed.deref e)) r k)))
  Erases (Trees.post a op at) s th = (t : CType) × (p : Notes.Path) × (th ≡ a_value (value t (place_in s (first a)) (Typed.step (step_of op) false p)))
      × Erases a s (an_object p)
  Erases (Trees.pre op at a) s th = (t : CType) × (p : Notes.Path) × (th ≡ a_value (value t (place_in s at) (Typed.step (step_of op) true p)))
      × Erases a s (an_object p)
  Erases (Trees.unary U.Address at a) s th = (operand : Thing) × IsAddress (place_in s at) operand th × Erases a s operand
  Erases (Trees.unary U.Deref at a) s th = (e : Expression) × IsPointed (place_in s at) e th × Values (Erases a s) e
  Erases (Trees.unary U.Plus at a) s th = (t : CType) × (x : Expression) × (th ≡ a_value (value t (place_in s at) (Typed.unary TU.Plus x)))
      × Values (Erases a s) x
  Erases (Trees.unary U.Minus at a) s th = (t : CType) × (x : Expression) × (th ≡ a_value (value t (place_in s at) (Typed.unary TU.Minus x)))
      × Values (Erases a s) x
  Erases (Trees.unary U.Complement at a) s th = (t : CType) × (x : Expression)
      × (th ≡ a_value (value t (place_in s at) (Typed.unary TU.Complement x))) × Values (Erases a s) x
  Erases (Trees.unary U.Not at a) s th = (t : CType) × (x : Expression) × (th ≡ a_value (value t (place_in s at) (Typed.not x))) × Values (Erases a s) x
  Erases (Trees.sizeof_expression at a) s th = (t : CType) × IsMeasured (Erases a) s t × IsSize s at at t th
  Erases (Trees.sizeof_type at left n right) s th = (t : CType) × IsTypeName s n t × IsMentioned s Named t (place_of_name n)
      × IsSize s at right t th
  Erases (Trees.cast left n right a) s th = (t : CType) × (x : Expression) × IsTypeName s n t × IsMentioned s Named t (place_of_name n)
      × Values (Erases a s) x
      × (th ≡ a_value (value t (place_in s left) (Typed.convert x true)))
  Erases (Trees.binary a op at b) s th = (t : CType) × (x y : Expression) × (node : Node) × Values (Erases a s) x × Values (Erases b s) y
      × IsJoined (kind_of op) x y node
      × (th ≡ a_value (value t (place_in s (first a)) node))
  Erases (Trees.cond a question b colon c) s th = (t : CType) × (x y z : Expression)
      × (th ≡ a_value (value t (place_in s (first a)) (Typed.choose x y z))) × Values (Erases a s) x × Values (Erases b s) y × Values (Erases c s) z
  Erases (Trees.assign a op at b) s th = ((t : CType) × (p : Notes.Path) × (x : Expression) × (update_of op ≡ None)
      × (th ≡ a_value (value t (place_in s (first a)) (Typed.assign p x))) × Erases a s (an_object p) × Values (Erases b s) x)
      ⊎ ((t : CType) × (p q : Notes.Path) × (update_of op ≡ None)
      × (th ≡ a_value (value t (place_in s (first a)) (Typed.copy_record p q))) × Erases a s (an_object p) × Erases b s (an_object q))
      ⊎ ((t : CType) × (p : Notes.Path) × (x : Expression) × (update : BinaryOp) × (update_of op ≡ Some update)
      × (th ≡ a_value (value t (place_in s (first a)) (Typed.assign_op update p x))) × Erases a s (an_object p) × Values (Erases b s) x)
  Erases (Trees.comma a at b) s th = (t : CType) × (x y : Expression) × (th ≡ a_value (value t (place_in s (first a)) (Typed.comma x y)))
      × Values (Erases a s) x × Values (Erases b s) y
  -- braces stand in initializers alone
  Erases (Trees.braces left all comma right) s th = ⊥

  pub AreValues : Scope → Typed.Expressions Noted → Trees.Arguments → Type 0
  AreValues s xs Trees.no_arguments = xs ≡ Typed.no_expressions
  AreValues s xs (Trees.and_argument comma a more) = (x : Expression) × (rest : Typed.Expressions Noted) × (xs ≡ Typed.and_expression x rest)
      × Values (Erases a s) x × AreValues s rest more

  -- ---- types

  -- specifiers without a storage class, and an abstract declarator (6.7.6)
  pub IsTypeName : Scope → Trees.TypeName → CType → Type 0
  IsTypeName s (Trees.type_name specs d) t = (base : CType) × (storage_of specs ≡ no_storage) × IsBase (IsOne s specs) specs base × Declares s d base (closed t)

  pub IsOne : Scope → Trees.Specifiers → CType → Type 0
  IsOne s Trees.no_specifiers t = ⊥
  IsOne s (Trees.and_specifier (Trees.plain word at) more) t = IsOne s more t
  IsOne s (Trees.and_specifier specifier more) t = Specifies s specifier t × (types_among more ≡ [])

  pub Specifies : Scope → Trees.Specifier → CType → Type 0
  Specifies s (Trees.plain word at) t = ⊥
  Specifies s (Trees.typename x) t = named s x.text x.from ≡ Some (typedef t)
  Specifies s (Trees.struct_named at x) t = (r : ℕ) × (t ≡ structure r) × IsNumbered s.file x.text r × IsStructTag s x
  -- a structure is defined at file scope alone (own)
  Specifies s (Trees.struct_body at x left member_declarations right) t = (r : ℕ) × (rec : Record) × (s.is_inside ≡ false) × (t ≡ structure r)
      × IsNumbered s.file (tag_text s at x) r × (slice_get s.file.records r ≡ Some rec) × (slice_get s.file.ends r ≡ Some right)
      × (rec.tag ≡ tag_text s at x) × (rec.place ≡ place_in s at) × AreFields s member_declarations rec.fields
      × AreDifferent (map (λ f. f.name) rec.fields)
  -- an enumeration is an int (own), and is named after its definition (6.7.2.3)
  Specifies s (Trees.enum_named at x) t = (t ≡ integer Int) × (tag_at s.file.tags x.text x.from ≡ Some true)
  Specifies s (Trees.enum_body at x left all comma right) t = (s.is_inside ≡ false) × (t ≡ integer Int) × AreEnumerators s 0 all (after_all comma right)

  -- the type that a declarator makes of a type (6.7.5): what stands nearest to the name comes last
  pub Declares : Scope → Trees.Declarator → CType → Shape → Type 0
  Declares s Trees.nothing t shape = shape ≡ closed t
  Declares s (Trees.named x) t shape = shape ≡ closed t
  Declares s (Trees.pointer at consts d) t shape = IsSmall s.file.records (pointer t) × Declares s d (pointer t) shape
  Declares s (Trees.enclosed left d right) t shape = Declares s d t shape
  -- an array has elements of a complete object type, and at least one
  Declares s (Trees.array d left (Trees.some_expression a) right) t shape = (kind : IntKind) × (v n : ℕ) × IsConstant (Erases a) s kind v
      × (number_of kind v ≡ pos n)
      × (1 ≤ n) × (is_object (ended s.file.ends left) t ≡ true) × IsSmall s.file.records (array t n) × Declares s d (array t n) shape
  Declares s (Trees.array d left Trees.no_expression right) t shape = (is_object (ended s.file.ends left) t ≡ true) × (is_name d ≡ true)
      × (shape ≡ open_array t)
  -- a function gives a number, a pointer or nothing (own: no record), and its name becomes a pointer to it
  Declares s (Trees.function d left all right) t shape = (parameters : CTypes) × AreParameters (inside s) all parameters
      × ((is_scalar t ≡ true) ⊎ (t ≡ void)) × IsSmall s.file.records (pointer (function t parameters))
      × Declares s d (function t parameters) shape

  pub AreParameters : Scope → Trees.ParameterList → CTypes → Type 0
  AreParameters s (Trees.void_alone at) types = types ≡ no_types
  AreParameters s (Trees.listed all) types = AreListed s all types

  -- each is a number or a pointer, and may be declared `register`; its name is known in those after it
  pub AreListed : Scope → Trees.Parameters → CTypes → Type 0
  AreListed s Trees.no_parameters types = types ≡ no_types
  AreListed s (Trees.and_parameter comma specs d more) types = (base : CType) × (shape : Shape) × (rest : CTypes)
      × (types ≡ and_type (parameter_type shape) rest) × ((storage_of specs ≡ no_storage) ⊎ (storage_of specs ≡ is_register))
      × IsBase (IsOne s specs) specs base × Declares s d base shape × (is_scalar (parameter_type shape) ≡ true) × IsNew s (declared_name d)
      × IsMentioned s Named (parameter_type shape) (first_declarator d (first_specifiers specs))
      × AreListed (with_parameter_if_named s (declared_name d) (parameter_type shape)) more rest

  -- the members of a structure, in declared order (6.7.2.1)
  pub AreFields : Scope → Trees.MemberDeclarations → List Field → Type 0
  AreFields s Trees.no_member_declarations fields = fields ≡ []
  AreFields s (Trees.and_member_declaration specs ds semicolon more) fields = (base : CType) × (own rest : List Field) × (fields ≡ own ++ rest)
      × (storage_of specs ≡ no_storage) × IsBase (IsOne s specs) specs base × AreMembers s base ds semicolon own × AreFields s more rest

  pub AreMembers : Scope → CType → Trees.MemberDeclarators → ℕ → List Field → Type 0
  AreMembers s base Trees.no_member_declarators semicolon fields = fields ≡ []
  AreMembers s base (Trees.and_member_declarator comma d more) semicolon fields = (x : Spelling) × (t : CType) × (rest : List Field)
      × (declared_name d ≡ Some x) × Declares s d base (closed t) × (is_object (ended s.file.ends (first_declarator d semicolon)) t ≡ true)
      × IsMentioned s Named t (first_declarator d semicolon)
      × (fields ≡ record { name = x.text; ty = t; place = place_in s (first_declarator d semicolon) } ∷ rest) × AreMembers s base more semicolon rest

  -- enumerators, whose values follow one another where none is written (6.7.2.2)
  pub AreEnumerators : Scope → ℕ → Trees.Enumerators → ℕ → Type 0
  AreEnumerators s next Trees.no_enumerators after = Unit {0}
  AreEnumerators s next (Trees.and_enumerator comma x value more) after = (v : ℕ) × IsEnumeratorValue s next value v
      × IsBound s (record { name = x.text; place = x.from; from = comma_or more after; how = defines; entity = enumerator v })
      × AreEnumerators s ((v + 1) % 2 ^ 32) more after

  -- the value is an int's: one past the greatest int is none
  pub IsEnumeratorValue : Scope → ℕ → Trees.EnumeratorValue → ℕ → Type 0
  IsEnumeratorValue s next Trees.no_value v = (v ≡ next) × (v ≢ 2 ^ 31)
  IsEnumeratorValue s next (Trees.valued equal a) v = (kind : IntKind) × IsConstant (Erases a) s kind v × IsInt (number_of kind v)
