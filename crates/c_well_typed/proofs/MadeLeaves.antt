-- In what stands for an expression, an initializer or a statement the types of names, casts and null pointers are those that the file names, of which something
-- is known (C99 6.5.1, 6.5.4).
use Rattle.std.proofs.Common.{◌≡◌, ℕ, zero, suc, ◌+◌, ◌≤◌, Bool, true, false, sym, subst, List, [], ◌∷◌, ◌++◌, length, length-append, arith, inl, inr}
use Rattle.std.specs.Prelude.{◌⊎◌, Option, Some, None, slice_get}
use Rattle.lay_base.specs.declared.place.Place.{Place}
use Rattle.c_types.specs.declared.ty.IntKind.{IntKind}
use Rattle.c_types.specs.declared.ty.IntKind.TheVariants.{Char}
use Rattle.c_types.specs.Types.{CType, integer, pointer, array, structure, Field}
use Rattle.c_tokens.specs.QuotedScan.{string_bytes}
use Rattle.c_ast.specs.declared.words.Spelling.{Spelling}
use Rattle.c_ast.specs.declared.operators.UnaryOp.TheVariants as U
use Rattle.c_ast.specs.Trees
use Rattle.c_typed.specs.declared.operators.BinaryOp.{BinaryOp}
use Rattle.c_typed.specs.declared.operators.BinaryOp.TheVariants as B
use Rattle.c_typed.specs.declared.program.MentionKind.TheVariants.{Named}
use Rattle.c_typed.specs.Conversions.{is_scalar}
use Rattle.c_typed.specs.Trees as Typed
use Rattle.c_erasure.specs.Erasure.{IsTypeName, IsBase, IsOne, place_of_name}
use Rattle.c_erasure.specs.Erasure.{literal_of, IsNamed, IsLiteralFor, IsSum, IsJoined, IsCall, IsAddress, IsPointed, IsSize, Values, Erases, AreValues}
use Rattle.c_erasure.specs.Initializers.{part_at, texts_of, IsText, Initializes, IsOneValue, InitializeElements, InitializeFields, IsInitializer}
use Rattle.c_erasure.specs.Noted.{Noted, Expression, Path, Node, Thing, an_object, a_value, a_function, a_function_at, a_library_function}
use Rattle.c_erasure.specs.Noted.{type_of, type_of_path, object_value, value_of, unconverted}
use Rattle.c_erasure.specs.Operators.{Kind, computes, compares, all_of, any_of, kind_of}
use Rattle.c_erasure.specs.Scopes.{Scope, Entity, typedef, enumerator, a_local, a_parameter, Purpose, in_full, value_alone, type_alone, named}
use Rattle.c_erasure.specs.Scopes.{IsMentioned}
use Rattle.c_erasure.specs.Scopes as Scopes
use Rattle.c_erasure.specs.Statements.{Statement, Statements, Arms, followed_by, HasInitializer, with_object, with_variable, IsVariable, DeclareAll, IsLocalDeclaration}
use Rattle.c_erasure.specs.Statements.{IsPlainIfAny, IsStart, with_first, IsArranged, ErasesStatement, ErasesItem, EraseItems, ErasesSwitchItem}
use Rattle.c_erasure.specs.Statements.{EraseSwitchItems}
use Rattle.c_well_typed.proofs.NamesInScope.{IsEntityOf}
use Rattle.c_well_typed.proofs.Leaves.{HasMadeLeaves, InNode, InPath, InAll, whole_leaves, InValue, InParts, InInitializer, InInitial, IfAny, InStatement}
use Rattle.c_well_typed.proofs.Leaves.{InStatements}
use Rattle.c_well_typed.proofs.Leaves as Leaves

some_is : {A : Type 0} (x y : A) → Some x ≡ Some y → x ≡ y
some_is x y h = cc

-- a string literal has a zero at its end
literal_long : (all : List Spelling) → 1 ≤ length (literal_of all)
literal_long [] = omega arith
literal_long (x ∷ more) =
    let l = literal_long more in let s = length-append (string_bytes x.text) (literal_of more) in omega (arith, l, s)

-- What is known where such trees stand, in scopes of some sort: of the types of names, casts and string literals, and of the variables that declarations
-- declare.
pub record Knows (IsName IsCast : CType → Type 0) (IsLocal : ℕ → Type 0) (In : Scope → Type 0) : Type 0 where
  -- a string literal, and what stands for one where nothing is evaluated
  pub text : (n : ℕ) → 1 ≤ n → IsName (array (integer Char) n) × IsName (pointer (array (integer Char) n))
  pub entity : (s : Scope) (x : List ℕ) (at : ℕ) (e : Entity) → In s → named s x at ≡ Some e → IsEntityOf IsName e
  -- what is used of a parameter in a declarator, and of a function, is a pointer to it
  pub pointer : (t : CType) → IsName t → IsName (pointer t)
  pub cast : (n : Trees.TypeName) (s : Scope) (t : CType) → In s → IsTypeName s n t → IsMentioned s Named t (place_of_name n) → IsCast t
  pub inside : (s : Scope) → In s → In (Scopes.inside s)
  -- a variable of a declaration whose specifiers stand in the first scope, and its declarator in another
  pub variable : (specs : Trees.Specifiers) (s : Scope) (base : CType) → In s → IsBase (IsOne s specs) specs base
      → (d : Trees.InitDeclarator) (later : Scope) (x : Spelling) (t : CType) → In later → IsVariable later base d x t → IsName t
  pub object : (s : Scope) (x : Spelling) (n : ℕ) (t : CType) → In s → IsName t → In (with_object s x n t)
  pub local : (s : Scope) (x : Spelling) (n : ℕ) (t : CType) → In s → IsName t → In (with_variable s x n t)
  pub declared : (s : Scope) (base : CType) (d : Trees.InitDeclarator) (x : Spelling) (t : CType) (n : ℕ) → In s → IsName t → IsVariable s base d x t
      → slice_get s.locals n ≡ Some (record { name = x.text; ty = t }) → IsLocal n

module _ (IsName IsCast : CType → Type 0) (IsLocal : ℕ → Type 0) (In : Scope → Type 0) (known : Knows IsName IsCast IsLocal In) where
  abbrev N : Expression → Type 0
  N = HasMadeLeaves IsName IsCast

  abbrev NPath : Path → Type 0
  NPath = InPath IsName IsCast

  -- a node of a value of whatever type
  abbrev NNode : Node → Type 0
  NNode node = (t : CType) → InNode IsName IsCast t node

  abbrev NThing : Thing → Type 0
  NThing (an_object p) = NPath p
  NThing (a_value e) = N e
  NThing (a_function at g t) = IsName t
  NThing (a_function_at e) = N e
  NThing (a_library_function at which) = Unit {0}

  is_thing : (th own : Thing) → th ≡ own → NThing own → NThing th
  is_thing th own e h = subst NThing (sym e) h

  -- ---- values of things

  of_object : (p : Path) (t : CType) (e : Expression) → NPath p → object_value p t ≡ Some e → N e
  of_object p (integer kind) e h v = subst N (some_is _ e v) h
  of_object p (pointer t) e h v = subst N (some_is _ e v) h
  of_object p (array t n) e h v = subst N (some_is _ e v) h
  of_object p t e h v = cc

  value_leaves : (th : Thing) (e : Expression) → NThing th → value_of th ≡ Some e → N e
  value_leaves (an_object p) e h v = of_object p (type_of_path p) e h v
  value_leaves (a_value x) e h v = subst N (some_is x e v) h
  value_leaves (a_function at g t) e h v = subst N (some_is _ e v) (known.pointer t h)
  value_leaves (a_function_at x) e h v = subst N (some_is x e v) h
  value_leaves (a_library_function at which) e h v = cc

  -- ---- names, literals and sizes

  name_leaves : (at : Place) (e : Entity) (th : Thing) → IsEntityOf IsName e → IsNamed at e th → NThing th
  name_leaves at (typedef t) th m h = absurd h
  name_leaves at (enumerator v) th m h = is_thing th _ h tt
  name_leaves at (Scopes.an_object n t) th m h = is_thing th _ h m
  name_leaves at (Scopes.a_function g t) th m h = is_thing th _ h m
  name_leaves at (Scopes.a_library_function which) th m h = is_thing th _ h tt
  name_leaves at (a_local n t) th m h = is_thing th _ h m
  name_leaves at (a_parameter t) th m h = is_thing th _ h (known.pointer t m)

  literal_leaves : (p : Purpose) (s : Scope) (at : Place) (bytes : List ℕ) (th : Thing) → 1 ≤ length bytes → IsLiteralFor p s at bytes th → NThing th
  literal_leaves in_full s at bytes th l h = is_thing th _ h.1 (known.text (length bytes) l).0
  literal_leaves value_alone s at bytes th l h = is_thing th _ h (known.text (length bytes) l).1
  literal_leaves type_alone s at bytes th l h = is_thing th _ h (known.text (length bytes) l).1

  size_leaves : (s : Scope) (at by : ℕ) (t : CType) (th : Thing) → IsSize s at by t th → NThing th
  size_leaves s at by t th h = is_thing th _ h.2 tt

  -- ---- operators

  sum_leaves : (op : BinaryOp) (x y : Expression) (node : Node) → N x → N y → IsSum op x y node → NNode node
  sum_leaves B.Add x y node h k (inl e) = subst NNode (sym e) (λ t. (h, k))
  sum_leaves B.Add x y node h k (inr e) = subst NNode (sym e) (λ t. (h, k))
  sum_leaves B.Subtract x y node h k (inl e) = subst NNode (sym e) (λ t. (h, k))
  sum_leaves B.Subtract x y node h k (inr (inl e)) = subst NNode (sym e) (λ t. (h, k))
  sum_leaves B.Subtract x y node h k (inr (inr e)) = subst NNode (sym e) (λ t. (h, k))
  sum_leaves op x y node h k e = subst NNode (sym e) (λ t. (h, k))

  joined_leaves : (kind : Kind) (x y : Expression) (node : Node) → N x → N y → IsJoined kind x y node → NNode node
  joined_leaves (computes op) x y node h k e = sum_leaves op x y node h k e
  joined_leaves (compares op) x y node h k e = subst NNode (sym e) (λ t. (h, k))
  joined_leaves all_of x y node h k e = subst NNode (sym e) (λ t. (h, k))
  joined_leaves any_of x y node h k e = subst NNode (sym e) (λ t. (h, k))

  call_leaves : (g : Thing) (xs : Typed.Expressions Noted) (node : Node) → NThing g → InAll IsName IsCast xs → IsCall g xs node → NNode node
  call_leaves (a_function at n t) xs node h k e = subst NNode (sym e) (λ t. k)
  call_leaves (a_library_function at which) xs node h k e = subst NNode (sym e) (λ t. k)
  call_leaves (a_value x) xs node h k e = subst NNode (sym e) (λ t. (h, k))
  call_leaves (a_function_at x) xs node h k e = subst NNode (sym e) (λ t. (h, k))
  call_leaves (an_object p) xs node h k e = subst NNode (sym e.2) (λ t. (value_leaves (an_object p) e.0 h e.1, k))

  address_leaves : (at : Place) (operand th : Thing) → NThing operand → IsAddress at operand th → NThing th
  address_leaves at (an_object p) th h e = is_thing th _ e.2 h
  address_leaves at (a_function from g t) th h e = is_thing th _ e (known.pointer t h)
  address_leaves at (a_function_at x) th h e = is_thing th _ e h
  address_leaves at (a_value x) th h e = absurd e
  address_leaves at (a_library_function from which) th h e = absurd e

  pointed_leaves : (at : Place) (e : Expression) (th : Thing) → N e → IsPointed at e th → NThing th
  pointed_leaves at e th h (inl p) = is_thing th _ p.2 h
  pointed_leaves at e th h (inr p) = is_thing th _ p.4 h

  -- ---- expressions

  valued : (th : Thing) (x : Expression) → value_of th ≡ Some (unconverted x) → NThing th → N x
  valued th x e h = whole_leaves IsName IsCast x (value_leaves th (unconverted x) h e)

  mutual
    pub leaves : (a : Trees.Expression) (s : Scope) (th : Thing) → In s → Erases a s th → NThing th
    leaves (Trees.name x) s th e h = name_leaves _ h.0 th (known.entity s x.text x.from h.0 e h.1) h.2
    leaves (Trees.number x v kind) s th e h = is_thing th _ h tt
    leaves (Trees.character x v) s th e h = is_thing th _ h tt
    leaves (Trees.texts all) s th e h = literal_leaves s.purpose s _ _ th (literal_long all) h
    leaves (Trees.paren left a right) s th e h = leaves a s th e h
    leaves (Trees.index a left b right) s th e (inl h) = is_thing th _ h.4 (leaves a s (an_object h.1) e h.5, valued h.6.0 h.2 h.6.1 (leaves b s h.6.0 e h.6.2))
    leaves (Trees.index a left b right) s th e (inr (inl h)) = is_thing th _ h.3 (valued h.4.0 h.1 h.4.1 (leaves a s h.4.0 e h.4.2), valued h.5.0 h.2 h.5.1 (leaves b s h.5.0 e h.5.2))
    leaves (Trees.index a left b right) s th e (inr (inr h)) = is_thing th _ h.7 (valued h.5.0 h.2 h.5.1 (leaves a s h.5.0 e h.5.2), valued h.6.0 h.3 h.6.1 (leaves b s h.6.0 e h.6.2))
    leaves (Trees.call c left all right) s th e h =
        is_thing th _ h.7 (call_leaves h.1 h.2 h.3 (leaves c s h.1 e h.4) (values_leaves s h.2 all e h.5) h.6 h.0)
    leaves (Trees.dot a at x) s th e h = is_thing th _ h.4 (leaves a s (an_object h.1) e h.6)
    leaves (Trees.arrow a at x) s th e h = is_thing th _ h.7 (valued h.6.0 h.2 h.6.1 (leaves a s h.6.0 e h.6.2))
    leaves (Trees.post a op at) s th e h = is_thing th _ h.2 (leaves a s (an_object h.1) e h.3)
    leaves (Trees.pre op at a) s th e h = is_thing th _ h.2 (leaves a s (an_object h.1) e h.3)
    leaves (Trees.unary U.Address at a) s th e h = address_leaves _ h.0 th (leaves a s h.0 e h.2) h.1
    leaves (Trees.unary U.Deref at a) s th e h = pointed_leaves _ h.0 th (valued h.2.0 h.0 h.2.1 (leaves a s h.2.0 e h.2.2)) h.1
    leaves (Trees.unary U.Plus at a) s th e h = is_thing th _ h.2 (valued h.3.0 h.1 h.3.1 (leaves a s h.3.0 e h.3.2))
    leaves (Trees.unary U.Minus at a) s th e h = is_thing th _ h.2 (valued h.3.0 h.1 h.3.1 (leaves a s h.3.0 e h.3.2))
    leaves (Trees.unary U.Complement at a) s th e h = is_thing th _ h.2 (valued h.3.0 h.1 h.3.1 (leaves a s h.3.0 e h.3.2))
    leaves (Trees.unary U.Not at a) s th e h = is_thing th _ h.2 (valued h.3.0 h.1 h.3.1 (leaves a s h.3.0 e h.3.2))
    leaves (Trees.sizeof_expression at a) s th e h = size_leaves s at at h.0 th h.2
    leaves (Trees.sizeof_type at left t right) s th e h = size_leaves s at right h.0 th h.3
    leaves (Trees.cast left t right a) s th e h = is_thing th _ h.5 (known.cast t s h.0 e h.2 h.3, valued h.4.0 h.1 h.4.1 (leaves a s h.4.0 e h.4.2))
    leaves (Trees.binary a op at b) s th e h =
        is_thing th _ h.7 (joined_leaves (kind_of op) h.1 h.2 h.3 (valued h.4.0 h.1 h.4.1 (leaves a s h.4.0 e h.4.2)) (valued h.5.0 h.2 h.5.1 (leaves b s h.5.0 e h.5.2)) h.6 h.0)
    leaves (Trees.cond a question b colon c) s th e h = is_thing th _ h.4 (valued h.5.0 h.1 h.5.1 (leaves a s h.5.0 e h.5.2), valued h.6.0 h.2 h.6.1 (leaves b s h.6.0 e h.6.2), valued h.7.0 h.3 h.7.1 (leaves c s h.7.0 e h.7.2))
    leaves (Trees.assign a op at b) s th e (inl h) = is_thing th _ h.4 (leaves a s (an_object h.1) e h.5, valued h.6.0 h.2 h.6.1 (leaves b s h.6.0 e h.6.2))
    leaves (Trees.assign a op at b) s th e (inr (inl h)) =
        is_thing th _ h.4 (leaves a s (an_object h.1) e h.5, leaves b s (an_object h.2) e h.6)
    leaves (Trees.assign a op at b) s th e (inr (inr h)) = is_thing th _ h.5 (leaves a s (an_object h.1) e h.6, valued h.7.0 h.2 h.7.1 (leaves b s h.7.0 e h.7.2))
    leaves (Trees.comma a at b) s th e h = is_thing th _ h.3 (valued h.4.0 h.1 h.4.1 (leaves a s h.4.0 e h.4.2), valued h.5.0 h.2 h.5.1 (leaves b s h.5.0 e h.5.2))
    leaves (Trees.braces left all comma right) s th e h = absurd h

    values_leaves : (s : Scope) (xs : Typed.Expressions Noted) (all : Trees.Arguments) → In s → AreValues s xs all → InAll IsName IsCast xs
    values_leaves s xs Trees.no_arguments e h = subst (InAll IsName IsCast) (sym h) tt
    values_leaves s xs (Trees.and_argument comma a more) e h =
        subst (InAll IsName IsCast) (sym h.2) (valued h.3.0 h.0 h.3.1 (leaves a s h.3.0 e h.3.2), values_leaves s h.1 more e h.4)

  pub value : (a : Trees.Expression) (s : Scope) (x : Expression) → In s → Values (Erases a s) x → N x
  value a s x e h = valued h.0 x h.1 (leaves a s h.0 e h.2)

  -- ---- initializers

  abbrev Parts : List (Typed.Part Noted) → Type 0
  Parts = InParts IsName IsCast

  parts_are : (parts own : List (Typed.Part Noted)) → parts ≡ own → Parts own → Parts parts
  parts_are parts own e h = subst Parts (sym e) h

  both_parts : (a b : List (Typed.Part Noted)) → Parts a → Parts b → Parts (a ++ b)
  both_parts [] b h k = k
  both_parts (p ∷ a) b h k = (h.0, both_parts a b h.1 k)

  text_leaves : (all : Option (List Spelling)) (s : Scope) (t : CType) (at : ℕ) (parts : List (Typed.Part Noted))
      → IsText all s t at parts → Parts parts
  text_leaves None s t at parts h = absurd h
  text_leaves (Some all) s t at parts h = parts_are parts _ h.3 (tt, tt)

  one_leaves : (all : Trees.Arguments) (s : Scope) (x : Expression) → In s → IsOneValue all s x → N x
  one_leaves Trees.no_arguments s x e h = absurd h
  one_leaves (Trees.and_argument comma a Trees.no_arguments) s x e h = value a s x e h
  one_leaves (Trees.and_argument comma a (Trees.and_argument second b more)) s x e h = absurd h

  abbrev IsSingle : Trees.Expression → Scope → CType → ℕ → List (Typed.Part Noted) → Type 0
  IsSingle a s t at parts =
      ((x : Expression) × (is_scalar t ≡ true) × (type_of x ≡ t)
      × (parts ≡ part_at at (Typed.value x)) × Values (Erases a s) x)
      ⊎ ((r : ℕ) × (p : Path) × (t ≡ structure r) × (type_of_path p ≡ t)
      × (parts ≡ part_at at (Typed.record_of p)) × Erases a s (an_object p))
      ⊎ IsText (texts_of a) s t at parts

  single_leaves : (a : Trees.Expression) (s : Scope) (t : CType) (at : ℕ) (parts : List (Typed.Part Noted)) → In s → IsSingle a s t at parts
      → Parts parts
  single_leaves a s t at parts e (inl h) = parts_are parts _ h.3 (value a s h.0 e h.4, tt)
  single_leaves a s t at parts e (inr (inl h)) = parts_are parts _ h.4 (leaves a s (an_object h.1) e h.5, tt)
  single_leaves a s t at parts e (inr (inr h)) = text_leaves (texts_of a) s t at parts h

  mutual
    initializes_leaves : (a : Trees.Expression) (s : Scope) (t : CType) (at : ℕ) (parts : List (Typed.Part Noted)) → In s
        → Initializes a s t at parts → Parts parts
    initializes_leaves (Trees.braces left all last right) s t at parts e (inl h) = parts_are parts _ h.3 (one_leaves all s h.0 e h.4, tt)
    initializes_leaves (Trees.braces left all last right) s t at parts e (inr (inl h)) = elements_leaves all s h.1 h.0 at parts e h.4
    initializes_leaves (Trees.braces left all last right) s t at parts e (inr (inr (inl h))) = fields_leaves all s h.0 0 h.1.fields at parts e h.4
    initializes_leaves (Trees.braces left all last right) s t at parts e (inr (inr (inr h))) =
        text_leaves (texts_of (Trees.braces left all last right)) s t at parts h
    initializes_leaves a s t at parts e h = single_leaves a s t at parts e h

    elements_leaves : (all : Trees.Arguments) (s : Scope) (u : CType) (k at : ℕ) (parts : List (Typed.Part Noted)) → In s
        → InitializeElements all s u k at parts → Parts parts
    elements_leaves Trees.no_arguments s u k at parts e h = parts_are parts _ h tt
    elements_leaves (Trees.and_argument comma a more) s u k at parts e h =
        parts_are parts _ h.4 (both_parts h.1 h.2 (initializes_leaves a s u at h.1 e h.5) (elements_leaves more s u h.0 _ h.2 e h.6))

    fields_leaves : (all : Trees.Arguments) (s : Scope) (r k : ℕ) (fields : List Field) (at : ℕ) (parts : List (Typed.Part Noted)) → In s
        → InitializeFields all s r k fields at parts → Parts parts
    fields_leaves Trees.no_arguments s r k fields at parts e h = parts_are parts _ h tt
    fields_leaves (Trees.and_argument comma a more) s r k fields at parts e h =
        parts_are parts _ h.5 (both_parts h.2 h.3 (initializes_leaves a s h.0.ty _ h.2 e h.6) (fields_leaves more s r (k + 1) h.1 at h.3 e h.7))

  one_part : (at : ℕ) (v : Typed.PartValue Noted) → Parts (part_at at v) → InValue IsName IsCast v
  one_part at v h = h.0

  pub initializer_leaves : (a : Trees.Expression) (s : Scope) (t : CType) (i : Typed.Initializer Noted) → In s → IsInitializer a s t i
      → InInitializer IsName IsCast i
  initializer_leaves a s t i e (inl h) =
      subst (InInitializer IsName IsCast) (sym h.1) (one_part 0 (Typed.value h.0) (initializes_leaves a s t 0 _ e h.3))
  initializer_leaves a s t i e (inr (inl h)) =
      subst (InInitializer IsName IsCast) (sym h.1) (one_part 0 (Typed.record_of h.0) (initializes_leaves a s t 0 _ e h.4))
  initializer_leaves a s t i e (inr (inr h)) = subst (InInitializer IsName IsCast) (sym h.1) (initializes_leaves a s t 0 h.0 e h.3)

  has_initializer : (v : Option (ℕ × Trees.Expression)) (s : Scope) (t : CType) (i : Option (Typed.Initializer Noted)) → In s
      → HasInitializer s t v i → InInitial IsName IsCast i
  has_initializer None s t i e h = subst (InInitial IsName IsCast) (sym h) tt
  has_initializer (Some v) s t i e h = subst (InInitial IsName IsCast) (sym h.1) (initializer_leaves v.1 s t h.0 e h.2)

  -- ---- statements, and the scope after them

  abbrev All : Statements → Type 0
  All = InStatements IsName IsCast IsLocal

  all_are : (all own : Statements) → all ≡ own → All own → All all
  all_are all own e h = subst All (sym e) h

  scope_is : (s t : Scope) → t ≡ s → In s → In t
  scope_is s t e h = subst In (sym e) h

  abbrev AreVariables : CType → Type 0
  AreVariables base = (d : Trees.InitDeclarator) (s : Scope) (x : Spelling) (t : CType) → In s → IsVariable s base d x t → IsName t

  declarators_leaves : (ds : List Trees.InitDeclarator) (s : Scope) (static : Bool) (base : CType) (all : Statements) (after : Scope) → In s
      → AreVariables base → DeclareAll ds s static base all after → All all × In after
  declarators_leaves [] s static base all after e m h = (all_are all _ h.0 tt, scope_is s after h.1 e)
  declarators_leaves (d ∷ more) s true base all after e m h =
      let next = known.object s h.0 h.2 h.1 e (m d s h.0 h.1 e h.3) in
      declarators_leaves more (with_object s h.0 h.2 h.1) true base all after next m h.5
  declarators_leaves (d ∷ more) s false base all after e m h =
      let made = m d s h.0 h.1 e h.5 in
      let next = known.local s h.0 h.2 h.1 e made in
      let r = declarators_leaves more (with_variable s h.0 h.2 h.1) false base h.4 after next m h.9 in
      let own = known.declared s base d h.0 h.1 h.2 e made h.5 h.6 in
      (all_are all _ h.7 ((own, has_initializer d.value (with_variable s h.0 h.2 h.1) h.1 h.3 next h.8), r.0), r.1)

  either_way : {A B : Type 0} (d : Trees.Declaration) (s : Scope) (base : CType) (all : Statements) (after : Scope) → In s → AreVariables base
      → (A × DeclareAll d.all s true base all after) ⊎ (B × DeclareAll d.all s false base all after) → All all × In after
  either_way d s base all after e m (inl k) = declarators_leaves d.all s true base all after e m k.1
  either_way d s base all after e m (inr k) = declarators_leaves d.all s false base all after e m k.1

  local_leaves : (d : Trees.Declaration) (s : Scope) (all : Statements) (after : Scope) → In s → IsLocalDeclaration d s all after → All all × In after
  local_leaves d s all after e h = either_way d s h.0 all after e (known.variable d.specs s h.0 e h.1) h.3

  plain_leaves : (a : Option Trees.Expression) (s : Scope) (x : Option Expression) → In s → IsPlainIfAny a s x → IfAny IsName IsCast x
  plain_leaves None s x e h = subst (IfAny IsName IsCast) (sym h) tt
  plain_leaves (Some a) s x e h = subst (IfAny IsName IsCast) (sym h.1) (value a s h.0 e h.2.0)

  start_leaves : (start : Trees.ForStart) (s : Scope) (all : Statements) (after : Scope) → In s → IsStart start s all after
      → All all × In after
  start_leaves (Trees.starts_with None semicolon) s all after e h = (all_are all _ h.0 tt, scope_is s after h.1 e)
  start_leaves (Trees.starts_with (Some a) semicolon) s all after e h = (all_are all _ h.1 (value a s h.0 e h.2.0, tt), scope_is s after h.3 e)
  start_leaves (Trees.declares d) s all after e h = local_leaves d s all after e h.0

  followed_leaves : (a b : Statements) → All a → All b → All (followed_by a b)
  followed_leaves Typed.no_statements b h k = k
  followed_leaves (Typed.and_statement s a) b h k = (h.0, followed_leaves a b h.1 k)

  abbrev InArms : Arms → Type 0
  InArms = Leaves.InArms IsName IsCast IsLocal

  first_leaves : (all : Statements) (arms : Arms) → All all → InArms arms → InArms (with_first all arms)
  first_leaves Typed.no_statements arms h k = k
  first_leaves (Typed.and_statement s more) arms h k = (h, k)

  arranged_leaves : (cases : List ℕ) (defaults : ℕ) (own : Statements) (later : Arms) (all : Statements) (arms : Arms) → All own → InArms later
      → IsArranged cases defaults own later all arms → All all × InArms arms
  arranged_leaves [] zero own later all arms h k e = (all_are all _ e.0 h, subst InArms (sym e.1) k)
  arranged_leaves [] (suc n) own later all arms h k e = (all_are all _ e.0 tt, subst InArms (sym e.2) (h, k))
  arranged_leaves (v ∷ cases) n own later all arms h k e = (all_are all _ e.0 tt, subst InArms (sym e.2) (h, k))

  abbrev S : Statement → Type 0
  S = InStatement IsName IsCast IsLocal

  statement_is : (st own : Statement) → st ≡ own → S own → S st
  statement_is st own e h = subst S (sym e) h

  mutual
    statement_leaves : (a : Trees.Statement) (s : Scope) (st : Statement) → In s → ErasesStatement a s st → S st
    statement_leaves (Trees.block left items right) s st e h = statement_is st _ h.1 (items_leaves items (Scopes.inside s) h.0 (known.inside s e) h.2)
    statement_leaves (Trees.evaluate None semicolon) s st e h = statement_is st _ h tt
    statement_leaves (Trees.evaluate (Some a) semicolon) s st e h = statement_is st _ h.1 (value a s h.0 e h.2.0)
    statement_leaves (Trees.when at left a right one) s st e h = statement_is st _ h.2 (value a s h.0 e h.3.0, statement_leaves one s h.1 e h.4)
    statement_leaves (Trees.choose at left a right one else other) s st e h =
        statement_is st _ h.3 (value a s h.0 e h.4.0, statement_leaves one s h.1 e h.5, statement_leaves other s h.2 e h.6)
    statement_leaves (Trees.while at left a right body) s st e h = statement_is st _ h.2 (value a s h.0 e h.3.0, statement_leaves body s h.1 e h.4)
    statement_leaves (Trees.do_while at body while left a right semicolon) s st e h =
        statement_is st _ h.2 (statement_leaves body s h.0 e h.3, value a s h.1 e h.4.0)
    statement_leaves (Trees.for at left start test semicolon step right body) s st e h =
        let r = start_leaves start (Scopes.inside s) h.0 h.1 (known.inside s e) h.6 in
        statement_is st _ h.5
        (r.0, plain_leaves test h.1 h.2 r.1 h.7, plain_leaves step h.1 h.3 r.1 h.8, statement_leaves body h.1 h.4 r.1 h.9)
    statement_leaves (Trees.switch at left a right begin items end) s st e h =
        let r = switch_items_leaves items (Scopes.inside s) h.1 h.2 h.3 (known.inside s e) h.7 in
        statement_is st _ h.4 (value a s h.0 e h.5, first_leaves h.2 h.3 r.0 r.1)
    statement_leaves (Trees.break at semicolon) s st e h = statement_is st _ h tt
    statement_leaves (Trees.continue at semicolon) s st e h = statement_is st _ h tt
    statement_leaves (Trees.return at None semicolon) s st e h = statement_is st _ h tt
    statement_leaves (Trees.return at (Some a) semicolon) s st e h = statement_is st _ h.1 (value a s h.0 e h.2)

    item_leaves : (i : Trees.BlockItem) (s : Scope) (all : Statements) (after : Scope) → In s → ErasesItem i s all after
        → All all × In after
    item_leaves (Trees.local d) s all after e h = local_leaves d s all after e h
    item_leaves (Trees.statement a) s all after e h = (all_are all _ h.1 (statement_leaves a s h.0 e h.2, tt), scope_is s after h.3 e)

    pub items_leaves : (items : Trees.BlockItems) (s : Scope) (all : Statements) → In s → EraseItems items s all → All all
    items_leaves Trees.no_block_items s all e h = all_are all _ h tt
    items_leaves (Trees.and_block_item i more) s all e h =
        let r = item_leaves i s h.0 h.2 e h.4 in
        all_are all _ h.3 (followed_leaves h.0 h.1 r.0 (items_leaves more h.2 h.1 r.1 h.5))

    switch_item_leaves : (i : Trees.SwitchItem) (s : Scope) (kind : IntKind) (cases : List ℕ) (defaults : ℕ) (all : Statements) (after : Scope) → In s
        → ErasesSwitchItem i s kind cases defaults all after → All all × In after
    switch_item_leaves (Trees.local_switch_item d) s kind cases defaults all after e h = local_leaves d s all after e h.2
    switch_item_leaves (Trees.labelled labels a) s kind cases defaults all after e h =
        (all_are all _ h.1.1 (statement_leaves a s h.1.0 e h.1.2, tt), scope_is s after h.2 e)

    switch_items_leaves : (items : Trees.SwitchItems) (s : Scope) (kind : IntKind) (all : Statements) (arms : Arms) → In s
        → EraseSwitchItems items s kind all arms → All all × InArms arms
    switch_items_leaves Trees.no_switch_items s kind all arms e h = (all_are all _ h.0 tt, subst InArms (sym h.1) tt)
    switch_items_leaves (Trees.and_switch_item i more) s kind all arms e h =
        let r = switch_item_leaves i s kind h.0 h.1 h.2 h.5 e h.6 in
        let q = switch_items_leaves more h.5 kind h.3 h.4 r.1 h.7 in
        arranged_leaves h.0 h.1 (followed_by h.2 h.3) h.4 all arms (followed_leaves h.2 h.3 r.0 q.0) q.1 h.8
