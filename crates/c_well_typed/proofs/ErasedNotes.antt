-- What stands for an expression, an initializer or a statement has notes at the constants alone that `sizeof` makes, and allocates nothing by itself
-- (C99 6.5.3.4).
use Rattle.std.proofs.Common.{◌≡◌, ◌∙◌, ℕ, zero, suc, ◌+◌, ◌≤◌, Bool, true, false, refl, sym, ap, subst, List, [], ◌∷◌, ◌++◌, inl, inr}
use Rattle.std.specs.Prelude.{◌⊎◌, Option, Some, None}
use Rattle.lay_base.specs.declared.place.Place.{Place}
use Rattle.c_types.specs.declared.ty.IntKind.{IntKind}
use Rattle.c_types.specs.Types.{CType, integer, pointer, array, structure, Field}
use Rattle.c_types.specs.Objects.{is_object}
use Rattle.c_ast.specs.declared.words.Spelling.{Spelling}
use Rattle.c_ast.specs.declared.operators.UnaryOp.TheVariants as U
use Rattle.c_ast.specs.Trees
use Rattle.c_typed.specs.declared.operators.BinaryOp.{BinaryOp}
use Rattle.c_typed.specs.declared.operators.BinaryOp.TheVariants as B
use Rattle.c_typed.specs.Conversions.{is_scalar}
use Rattle.c_typed.specs.Trees as Typed
use Rattle.c_erasure.specs.Erasure.{IsNamed, IsLiteralFor, IsSum, IsJoined, IsCall, IsAddress, IsPointed, IsSize, Values, Erases, AreValues}
use Rattle.c_erasure.specs.Initializers.{part_at, texts_of, IsText, Initializes, IsOneValue, InitializeElements, InitializeFields, IsInitializer}
use Rattle.c_erasure.specs.Noted.{Noted, nothing, Expression, Path, Node, Thing, an_object, a_value, a_function, a_function_at, a_library_function}
use Rattle.c_erasure.specs.Noted.{type_of, type_of_path, object_value, value_of, unconverted}
use Rattle.c_erasure.specs.Operators.{Kind, computes, compares, all_of, any_of, kind_of}
use Rattle.c_erasure.specs.Scopes.{FileScope, Scope, Entity, typedef, enumerator, a_local, a_parameter, Purpose, in_full, value_alone, type_alone, ended}
use Rattle.c_erasure.specs.Scopes.{with_local}
use Rattle.c_erasure.specs.Scopes as Scopes
use Rattle.c_erasure.specs.Statements.{Statement, Statements, Arms, followed_by, HasInitializer, with_object, with_variable, DeclareAll, IsLocalDeclaration}
use Rattle.c_erasure.specs.Statements.{IsPlainIfAny, IsStart, with_first, IsArranged, ErasesStatement, ErasesItem, EraseItems, ErasesSwitchItem}
use Rattle.c_erasure.specs.Statements.{EraseSwitchItems}
use Rattle.c_checking_laws.proofs.CompletePart.{complete_stays}
use Rattle.c_well_typed.proofs.Notes.{IsNote, IsNoted, IsNotedNode, IsNotedPath, AreNoted, whole_noted}
use Rattle.c_well_typed.proofs.StatementNotes.{IsNotedValue, ArePartsNoted, IsNotedInitializer, IsNotedInitial, IsNotedIfAny, IsNotedStatement}
use Rattle.c_well_typed.proofs.StatementNotes.{AreStatementsNoted, AreArmsNoted}

some_is : {A : Type 0} (x y : A) → Some x ≡ Some y → x ≡ y
some_is x y h = cc

module _ (f : FileScope) (count : ℕ) (less : (at : ℕ) → ended f.ends at ≤ count) where
  abbrev N : Expression → Type 0
  N = IsNoted count ⊥

  abbrev NPath : Path → Type 0
  NPath = IsNotedPath count ⊥

  -- a node of a value, beside which there is no note
  abbrev NNode : Node → Type 0
  NNode node = IsNote count ⊥ nothing node × IsNotedNode count ⊥ node

  abbrev NThing : Thing → Type 0
  NThing (an_object p) = NPath p
  NThing (a_value e) = N e
  NThing (a_function at g t) = Unit {0}
  NThing (a_function_at e) = N e
  NThing (a_library_function at which) = Unit {0}

  is_thing : (th own : Thing) → th ≡ own → NThing own → NThing th
  is_thing th own e h = subst NThing (sym e) h

  -- ---- values of things

  of_object : (p : Path) (t : CType) (e : Expression) → NPath p → object_value p t ≡ Some e → N e
  of_object p (integer kind) e h v = subst N (some_is _ e v) (refl, h)
  of_object p (pointer t) e h v = subst N (some_is _ e v) (refl, h)
  of_object p (array t n) e h v = subst N (some_is _ e v) (refl, h)
  of_object p t e h v = cc

  value_noted : (th : Thing) (e : Expression) → NThing th → value_of th ≡ Some e → N e
  value_noted (an_object p) e h v = of_object p (type_of_path p) e h v
  value_noted (a_value x) e h v = subst N (some_is x e v) h
  value_noted (a_function at g t) e h v = subst N (some_is _ e v) (refl, tt)
  value_noted (a_function_at x) e h v = subst N (some_is x e v) h
  value_noted (a_library_function at which) e h v = cc

  -- ---- names, literals and sizes

  name_noted : (at : Place) (e : Entity) (th : Thing) → IsNamed at e th → NThing th
  name_noted at (typedef t) th h = absurd h
  name_noted at (enumerator v) th h = is_thing th _ h (tt, tt)
  name_noted at (Scopes.an_object n t) th h = is_thing th _ h tt
  name_noted at (Scopes.a_function g t) th h = is_thing th _ h tt
  name_noted at (Scopes.a_library_function which) th h = is_thing th _ h tt
  name_noted at (a_local n t) th h = is_thing th _ h tt
  name_noted at (a_parameter t) th h = is_thing th _ h (refl, tt)

  literal_noted : (p : Purpose) (s : Scope) (at : Place) (bytes : List ℕ) (th : Thing) → IsLiteralFor p s at bytes th → NThing th
  literal_noted in_full s at bytes th h = is_thing th _ h.1 tt
  literal_noted value_alone s at bytes th h = is_thing th _ h (refl, tt)
  literal_noted type_alone s at bytes th h = is_thing th _ h (refl, tt)

  size_noted : (s : Scope) → s.file ≡ f → (at by : ℕ) (t : CType) (th : Thing) → IsSize s at by t th → NThing th
  size_noted s e at by t th h =
      let complete = complete_stays (ended f.ends by) count t (less by) (subst (λ (f : FileScope). is_object (ended f.ends by) t ≡ true) e h.0) in
      is_thing th _ h.2 (complete, tt)

  -- ---- operators

  sum_noted : (op : BinaryOp) (x y : Expression) (node : Node) → N x → N y → IsSum op x y node → NNode node
  sum_noted B.Add x y node h k (inl e) = subst NNode (sym e) (refl, (h, k))
  sum_noted B.Add x y node h k (inr e) = subst NNode (sym e) (refl, (h, k))
  sum_noted B.Subtract x y node h k (inl e) = subst NNode (sym e) (refl, (h, k))
  sum_noted B.Subtract x y node h k (inr (inl e)) = subst NNode (sym e) (refl, (h, k))
  sum_noted B.Subtract x y node h k (inr (inr e)) = subst NNode (sym e) (refl, (h, k))
  sum_noted op x y node h k e = subst NNode (sym e) (refl, (h, k))

  joined_noted : (kind : Kind) (x y : Expression) (node : Node) → N x → N y → IsJoined kind x y node → NNode node
  joined_noted (computes op) x y node h k e = sum_noted op x y node h k e
  joined_noted (compares op) x y node h k e = subst NNode (sym e) (refl, (h, k))
  joined_noted all_of x y node h k e = subst NNode (sym e) (refl, (h, k))
  joined_noted any_of x y node h k e = subst NNode (sym e) (refl, (h, k))

  call_noted : (g : Thing) (xs : Typed.Expressions Noted) (node : Node) → NThing g → AreNoted count ⊥ xs → IsCall g xs node → NNode node
  call_noted (a_function at n t) xs node h k e = subst NNode (sym e) (refl, k)
  call_noted (a_library_function at which) xs node h k e = subst NNode (sym e) (refl, k)
  call_noted (a_value x) xs node h k e = subst NNode (sym e) (refl, (h, k))
  call_noted (a_function_at x) xs node h k e = subst NNode (sym e) (refl, (h, k))
  call_noted (an_object p) xs node h k e = subst NNode (sym e.2) (refl, (value_noted (an_object p) e.0 h e.1, k))

  address_noted : (at : Place) (operand th : Thing) → NThing operand → IsAddress at operand th → NThing th
  address_noted at (an_object p) th h e = is_thing th _ e.2 (refl, h)
  address_noted at (a_function from g t) th h e = is_thing th _ e (refl, tt)
  address_noted at (a_function_at x) th h e = is_thing th _ e h
  address_noted at (a_value x) th h e = absurd e
  address_noted at (a_library_function from which) th h e = absurd e

  pointed_noted : (at : Place) (e : Expression) (th : Thing) → N e → IsPointed at e th → NThing th
  pointed_noted at e th h (inl p) = is_thing th _ p.2 h
  pointed_noted at e th h (inr p) = is_thing th _ p.4 h

  -- ---- expressions

  valued : (th : Thing) (x : Expression) → value_of th ≡ Some (unconverted x) → NThing th → N x
  valued th x e h = whole_noted count ⊥ x (value_noted th (unconverted x) h e)

  mutual
    pub noted : (a : Trees.Expression) (s : Scope) (th : Thing) → s.file ≡ f → Erases a s th → NThing th
    noted (Trees.name x) s th e h = name_noted _ h.0 th h.2
    noted (Trees.number x v kind) s th e h = is_thing th _ h (tt, tt)
    noted (Trees.character x v) s th e h = is_thing th _ h (tt, tt)
    noted (Trees.texts all) s th e h = literal_noted s.purpose s _ _ th h
    noted (Trees.paren left a right) s th e h = noted a s th e h
    noted (Trees.index a left b right) s th e (inl h) = is_thing th _ h.4 (noted a s (an_object h.1) e h.5, valued h.6.0 h.2 h.6.1 (noted b s h.6.0 e h.6.2))
    noted (Trees.index a left b right) s th e (inr (inl h)) = is_thing th _ h.3 (valued h.4.0 h.1 h.4.1 (noted a s h.4.0 e h.4.2), valued h.5.0 h.2 h.5.1 (noted b s h.5.0 e h.5.2))
    noted (Trees.index a left b right) s th e (inr (inr h)) = is_thing th _ h.7 (refl, (valued h.5.0 h.2 h.5.1 (noted a s h.5.0 e h.5.2), valued h.6.0 h.3 h.6.1 (noted b s h.6.0 e h.6.2)))
    noted (Trees.call c left all right) s th e h =
        is_thing th _ h.7 (call_noted h.1 h.2 h.3 (noted c s h.1 e h.4) (values_noted s h.2 all e h.5) h.6)
    noted (Trees.dot a at x) s th e h = is_thing th _ h.4 (noted a s (an_object h.1) e h.6)
    noted (Trees.arrow a at x) s th e h = is_thing th _ h.7 (valued h.6.0 h.2 h.6.1 (noted a s h.6.0 e h.6.2))
    noted (Trees.post a op at) s th e h = is_thing th _ h.2 (refl, noted a s (an_object h.1) e h.3)
    noted (Trees.pre op at a) s th e h = is_thing th _ h.2 (refl, noted a s (an_object h.1) e h.3)
    noted (Trees.unary U.Address at a) s th e h = address_noted _ h.0 th (noted a s h.0 e h.2) h.1
    noted (Trees.unary U.Deref at a) s th e h = pointed_noted _ h.0 th (valued h.2.0 h.0 h.2.1 (noted a s h.2.0 e h.2.2)) h.1
    noted (Trees.unary U.Plus at a) s th e h = is_thing th _ h.2 (refl, valued h.3.0 h.1 h.3.1 (noted a s h.3.0 e h.3.2))
    noted (Trees.unary U.Minus at a) s th e h = is_thing th _ h.2 (refl, valued h.3.0 h.1 h.3.1 (noted a s h.3.0 e h.3.2))
    noted (Trees.unary U.Complement at a) s th e h = is_thing th _ h.2 (refl, valued h.3.0 h.1 h.3.1 (noted a s h.3.0 e h.3.2))
    noted (Trees.unary U.Not at a) s th e h = is_thing th _ h.2 (refl, valued h.3.0 h.1 h.3.1 (noted a s h.3.0 e h.3.2))
    noted (Trees.sizeof_expression at a) s th e h = size_noted s e at at h.0 th h.2
    noted (Trees.sizeof_type at left t right) s th e h = size_noted s e at right h.0 th h.3
    noted (Trees.cast left t right a) s th e h = is_thing th _ h.5 (refl, valued h.4.0 h.1 h.4.1 (noted a s h.4.0 e h.4.2))
    noted (Trees.binary a op at b) s th e h =
        is_thing th _ h.7 (joined_noted (kind_of op) h.1 h.2 h.3 (valued h.4.0 h.1 h.4.1 (noted a s h.4.0 e h.4.2)) (valued h.5.0 h.2 h.5.1 (noted b s h.5.0 e h.5.2)) h.6)
    noted (Trees.cond a question b colon c) s th e h = is_thing th _ h.4 (refl, (valued h.5.0 h.1 h.5.1 (noted a s h.5.0 e h.5.2), valued h.6.0 h.2 h.6.1 (noted b s h.6.0 e h.6.2), valued h.7.0 h.3 h.7.1 (noted c s h.7.0 e h.7.2)))
    noted (Trees.assign a op at b) s th e (inl h) = is_thing th _ h.4 (refl, (noted a s (an_object h.1) e h.5, valued h.6.0 h.2 h.6.1 (noted b s h.6.0 e h.6.2)))
    noted (Trees.assign a op at b) s th e (inr (inl h)) =
        is_thing th _ h.4 (refl, (noted a s (an_object h.1) e h.5, noted b s (an_object h.2) e h.6))
    noted (Trees.assign a op at b) s th e (inr (inr h)) = is_thing th _ h.5 (refl, (noted a s (an_object h.1) e h.6, valued h.7.0 h.2 h.7.1 (noted b s h.7.0 e h.7.2)))
    noted (Trees.comma a at b) s th e h = is_thing th _ h.3 (refl, (valued h.4.0 h.1 h.4.1 (noted a s h.4.0 e h.4.2), valued h.5.0 h.2 h.5.1 (noted b s h.5.0 e h.5.2)))
    noted (Trees.braces left all comma right) s th e h = absurd h

    values_noted : (s : Scope) (xs : Typed.Expressions Noted) (all : Trees.Arguments) → s.file ≡ f → AreValues s xs all → AreNoted count ⊥ xs
    values_noted s xs Trees.no_arguments e h = subst (AreNoted count ⊥) (sym h) tt
    values_noted s xs (Trees.and_argument comma a more) e h =
        subst (AreNoted count ⊥) (sym h.2) (valued h.3.0 h.0 h.3.1 (noted a s h.3.0 e h.3.2), values_noted s h.1 more e h.4)

  pub value : (a : Trees.Expression) (s : Scope) (x : Expression) → s.file ≡ f → Values (Erases a s) x → N x
  value a s x e h = valued h.0 x h.1 (noted a s h.0 e h.2)

  -- ---- initializers

  abbrev Parts : List (Typed.Part Noted) → Type 0
  Parts = ArePartsNoted count ⊥

  parts_are : (parts own : List (Typed.Part Noted)) → parts ≡ own → Parts own → Parts parts
  parts_are parts own e h = subst Parts (sym e) h

  both_parts : (a b : List (Typed.Part Noted)) → Parts a → Parts b → Parts (a ++ b)
  both_parts [] b h k = k
  both_parts (p ∷ a) b h k = (h.0, both_parts a b h.1 k)

  text_noted : (all : Option (List Spelling)) (s : Scope) (t : CType) (at : ℕ) (parts : List (Typed.Part Noted))
      → IsText all s t at parts → Parts parts
  text_noted None s t at parts h = absurd h
  text_noted (Some all) s t at parts h = parts_are parts _ h.3 (tt, tt)

  one_noted : (all : Trees.Arguments) (s : Scope) (x : Expression) → s.file ≡ f → IsOneValue all s x → N x
  one_noted Trees.no_arguments s x e h = absurd h
  one_noted (Trees.and_argument comma a Trees.no_arguments) s x e h = value a s x e h
  one_noted (Trees.and_argument comma a (Trees.and_argument second b more)) s x e h = absurd h

  abbrev IsSingle : Trees.Expression → Scope → CType → ℕ → List (Typed.Part Noted) → Type 0
  IsSingle a s t at parts =
      ((x : Expression) × (is_scalar t ≡ true) × (type_of x ≡ t)
      × (parts ≡ part_at at (Typed.value x)) × Values (Erases a s) x)
      ⊎ ((r : ℕ) × (p : Path) × (t ≡ structure r) × (type_of_path p ≡ t)
      × (parts ≡ part_at at (Typed.record_of p)) × Erases a s (an_object p))
      ⊎ IsText (texts_of a) s t at parts

  single_noted : (a : Trees.Expression) (s : Scope) (t : CType) (at : ℕ) (parts : List (Typed.Part Noted)) → s.file ≡ f → IsSingle a s t at parts
      → Parts parts
  single_noted a s t at parts e (inl h) = parts_are parts _ h.3 (value a s h.0 e h.4, tt)
  single_noted a s t at parts e (inr (inl h)) = parts_are parts _ h.4 (noted a s (an_object h.1) e h.5, tt)
  single_noted a s t at parts e (inr (inr h)) = text_noted (texts_of a) s t at parts h

  mutual
    initializes_noted : (a : Trees.Expression) (s : Scope) (t : CType) (at : ℕ) (parts : List (Typed.Part Noted)) → s.file ≡ f
        → Initializes a s t at parts → Parts parts
    initializes_noted (Trees.braces left all last right) s t at parts e (inl h) = parts_are parts _ h.3 (one_noted all s h.0 e h.4, tt)
    initializes_noted (Trees.braces left all last right) s t at parts e (inr (inl h)) = elements_noted all s h.1 h.0 at parts e h.4
    initializes_noted (Trees.braces left all last right) s t at parts e (inr (inr (inl h))) = fields_noted all s h.0 0 h.1.fields at parts e h.4
    initializes_noted (Trees.braces left all last right) s t at parts e (inr (inr (inr h))) =
        text_noted (texts_of (Trees.braces left all last right)) s t at parts h
    initializes_noted a s t at parts e h = single_noted a s t at parts e h

    elements_noted : (all : Trees.Arguments) (s : Scope) (u : CType) (k at : ℕ) (parts : List (Typed.Part Noted)) → s.file ≡ f
        → InitializeElements all s u k at parts → Parts parts
    elements_noted Trees.no_arguments s u k at parts e h = parts_are parts _ h tt
    elements_noted (Trees.and_argument comma a more) s u k at parts e h =
        parts_are parts _ h.4 (both_parts h.1 h.2 (initializes_noted a s u at h.1 e h.5) (elements_noted more s u h.0 _ h.2 e h.6))

    fields_noted : (all : Trees.Arguments) (s : Scope) (r k : ℕ) (fields : List Field) (at : ℕ) (parts : List (Typed.Part Noted)) → s.file ≡ f
        → InitializeFields all s r k fields at parts → Parts parts
    fields_noted Trees.no_arguments s r k fields at parts e h = parts_are parts _ h tt
    fields_noted (Trees.and_argument comma a more) s r k fields at parts e h =
        parts_are parts _ h.5 (both_parts h.2 h.3 (initializes_noted a s h.0.ty _ h.2 e h.6) (fields_noted more s r (k + 1) h.1 at h.3 e h.7))

  one_part : (at : ℕ) (v : Typed.PartValue Noted) → Parts (part_at at v) → IsNotedValue count ⊥ v
  one_part at v h = h.0

  pub initializer_noted : (a : Trees.Expression) (s : Scope) (t : CType) (i : Typed.Initializer Noted) → s.file ≡ f → IsInitializer a s t i
      → IsNotedInitializer count ⊥ i
  initializer_noted a s t i e (inl h) =
      subst (IsNotedInitializer count ⊥) (sym h.1) (one_part 0 (Typed.value h.0) (initializes_noted a s t 0 _ e h.3))
  initializer_noted a s t i e (inr (inl h)) =
      subst (IsNotedInitializer count ⊥) (sym h.1) (one_part 0 (Typed.record_of h.0) (initializes_noted a s t 0 _ e h.4))
  initializer_noted a s t i e (inr (inr h)) = subst (IsNotedInitializer count ⊥) (sym h.1) (initializes_noted a s t 0 h.0 e h.3)

  has_initializer : (v : Option (ℕ × Trees.Expression)) (s : Scope) (t : CType) (i : Option (Typed.Initializer Noted)) → s.file ≡ f
      → HasInitializer s t v i → IsNotedInitial count ⊥ i
  has_initializer None s t i e h = subst (IsNotedInitial count ⊥) (sym h) tt
  has_initializer (Some v) s t i e h = subst (IsNotedInitial count ⊥) (sym h.1) (initializer_noted v.1 s t h.0 e h.2)

  -- ---- statements, and the file of the scope after them

  abbrev All : Statements → Type 0
  All = AreStatementsNoted count ⊥

  all_are : (all own : Statements) → all ≡ own → All own → All all
  all_are all own e h = subst All (sym e) h

  file_is : (s t : Scope) → t ≡ s → s.file ≡ f → t.file ≡ f
  file_is s t e h = ap (λ (s : Scope). s.file) e ∙ h

  declarators_noted : (ds : List Trees.InitDeclarator) (s : Scope) (static : Bool) (base : CType) (all : Statements) (after : Scope) → s.file ≡ f
      → DeclareAll ds s static base all after → All all × (after.file ≡ f)
  declarators_noted [] s static base all after e h = (all_are all _ h.0 tt, file_is s after h.1 e)
  declarators_noted (d ∷ more) s true base all after e h = declarators_noted more (with_object s h.0 h.2 h.1) true base all after e h.5
  declarators_noted (d ∷ more) s false base all after e h =
      let r = declarators_noted more (with_variable s h.0 h.2 h.1) false base h.4 after e h.9 in
      (all_are all _ h.7 (has_initializer d.value (with_variable s h.0 h.2 h.1) h.1 h.3 e h.8, r.0), r.1)

  either_way : {A B : Type 0} (d : Trees.Declaration) (s : Scope) (base : CType) (all : Statements) (after : Scope) → s.file ≡ f
      → (A × DeclareAll d.all s true base all after) ⊎ (B × DeclareAll d.all s false base all after) → All all × (after.file ≡ f)
  either_way d s base all after e (inl k) = declarators_noted d.all s true base all after e k.1
  either_way d s base all after e (inr k) = declarators_noted d.all s false base all after e k.1

  local_noted : (d : Trees.Declaration) (s : Scope) (all : Statements) (after : Scope) → s.file ≡ f → IsLocalDeclaration d s all after
      → All all × (after.file ≡ f)
  local_noted d s all after e h = either_way d s h.0 all after e h.3

  plain_noted : (a : Option Trees.Expression) (s : Scope) (x : Option Expression) → s.file ≡ f → IsPlainIfAny a s x → IsNotedIfAny count ⊥ x
  plain_noted None s x e h = subst (IsNotedIfAny count ⊥) (sym h) tt
  plain_noted (Some a) s x e h = subst (IsNotedIfAny count ⊥) (sym h.1) (value a s h.0 e h.2.0)

  start_noted : (start : Trees.ForStart) (s : Scope) (all : Statements) (after : Scope) → s.file ≡ f → IsStart start s all after
      → All all × (after.file ≡ f)
  start_noted (Trees.starts_with None semicolon) s all after e h = (all_are all _ h.0 tt, file_is s after h.1 e)
  start_noted (Trees.starts_with (Some a) semicolon) s all after e h = (all_are all _ h.1 (value a s h.0 e h.2.0, tt), file_is s after h.3 e)
  start_noted (Trees.declares d) s all after e h = local_noted d s all after e h.0

  followed_noted : (a b : Statements) → All a → All b → All (followed_by a b)
  followed_noted Typed.no_statements b h k = k
  followed_noted (Typed.and_statement s a) b h k = (h.0, followed_noted a b h.1 k)

  abbrev InArms : Arms → Type 0
  InArms = AreArmsNoted count ⊥

  first_noted : (all : Statements) (arms : Arms) → All all → InArms arms → InArms (with_first all arms)
  first_noted Typed.no_statements arms h k = k
  first_noted (Typed.and_statement s more) arms h k = (h, k)

  arranged_noted : (cases : List ℕ) (defaults : ℕ) (own : Statements) (later : Arms) (all : Statements) (arms : Arms) → All own → InArms later
      → IsArranged cases defaults own later all arms → All all × InArms arms
  arranged_noted [] zero own later all arms h k e = (all_are all _ e.0 h, subst InArms (sym e.1) k)
  arranged_noted [] (suc n) own later all arms h k e = (all_are all _ e.0 tt, subst InArms (sym e.2) (h, k))
  arranged_noted (v ∷ cases) n own later all arms h k e = (all_are all _ e.0 tt, subst InArms (sym e.2) (h, k))

  abbrev S : Statement → Type 0
  S = IsNotedStatement count ⊥

  statement_is : (st own : Statement) → st ≡ own → S own → S st
  statement_is st own e h = subst S (sym e) h

  mutual
    statement_noted : (a : Trees.Statement) (s : Scope) (st : Statement) → s.file ≡ f → ErasesStatement a s st → S st
    statement_noted (Trees.block left items right) s st e h = statement_is st _ h.1 (items_noted items (Scopes.inside s) h.0 e h.2)
    statement_noted (Trees.evaluate None semicolon) s st e h = statement_is st _ h tt
    statement_noted (Trees.evaluate (Some a) semicolon) s st e h = statement_is st _ h.1 (value a s h.0 e h.2.0)
    statement_noted (Trees.when at left a right one) s st e h = statement_is st _ h.2 (value a s h.0 e h.3.0, statement_noted one s h.1 e h.4)
    statement_noted (Trees.choose at left a right one else other) s st e h =
        statement_is st _ h.3 (value a s h.0 e h.4.0, statement_noted one s h.1 e h.5, statement_noted other s h.2 e h.6)
    statement_noted (Trees.while at left a right body) s st e h = statement_is st _ h.2 (value a s h.0 e h.3.0, statement_noted body s h.1 e h.4)
    statement_noted (Trees.do_while at body while left a right semicolon) s st e h =
        statement_is st _ h.2 (statement_noted body s h.0 e h.3, value a s h.1 e h.4.0)
    statement_noted (Trees.for at left start test semicolon step right body) s st e h =
        let r = start_noted start (Scopes.inside s) h.0 h.1 e h.6 in
        statement_is st _ h.5
        (r.0, plain_noted test h.1 h.2 r.1 h.7, plain_noted step h.1 h.3 r.1 h.8, statement_noted body h.1 h.4 r.1 h.9)
    statement_noted (Trees.switch at left a right begin items end) s st e h =
        let r = switch_items_noted items (Scopes.inside s) h.1 h.2 h.3 e h.7 in
        statement_is st _ h.4 (value a s h.0 e h.5, first_noted h.2 h.3 r.0 r.1)
    statement_noted (Trees.break at semicolon) s st e h = statement_is st _ h tt
    statement_noted (Trees.continue at semicolon) s st e h = statement_is st _ h tt
    statement_noted (Trees.return at None semicolon) s st e h = statement_is st _ h tt
    statement_noted (Trees.return at (Some a) semicolon) s st e h = statement_is st _ h.1 (value a s h.0 e h.2)

    item_noted : (i : Trees.BlockItem) (s : Scope) (all : Statements) (after : Scope) → s.file ≡ f → ErasesItem i s all after
        → All all × (after.file ≡ f)
    item_noted (Trees.local d) s all after e h = local_noted d s all after e h
    item_noted (Trees.statement a) s all after e h = (all_are all _ h.1 (statement_noted a s h.0 e h.2, tt), file_is s after h.3 e)

    pub items_noted : (items : Trees.BlockItems) (s : Scope) (all : Statements) → s.file ≡ f → EraseItems items s all → All all
    items_noted Trees.no_block_items s all e h = all_are all _ h tt
    items_noted (Trees.and_block_item i more) s all e h =
        let r = item_noted i s h.0 h.2 e h.4 in
        all_are all _ h.3 (followed_noted h.0 h.1 r.0 (items_noted more h.2 h.1 r.1 h.5))

    switch_item_noted : (i : Trees.SwitchItem) (s : Scope) (kind : IntKind) (cases : List ℕ) (defaults : ℕ) (all : Statements) (after : Scope) → s.file ≡ f
        → ErasesSwitchItem i s kind cases defaults all after → All all × (after.file ≡ f)
    switch_item_noted (Trees.local_switch_item d) s kind cases defaults all after e h = local_noted d s all after e h.2
    switch_item_noted (Trees.labelled labels a) s kind cases defaults all after e h =
        (all_are all _ h.1.1 (statement_noted a s h.1.0 e h.1.2, tt), file_is s after h.2 e)

    switch_items_noted : (items : Trees.SwitchItems) (s : Scope) (kind : IntKind) (all : Statements) (arms : Arms) → s.file ≡ f
        → EraseSwitchItems items s kind all arms → All all × InArms arms
    switch_items_noted Trees.no_switch_items s kind all arms e h = (all_are all _ h.0 tt, subst InArms (sym h.1) tt)
    switch_items_noted (Trees.and_switch_item i more) s kind all arms e h =
        let r = switch_item_noted i s kind h.0 h.1 h.2 h.5 e h.6 in
        let q = switch_items_noted more h.5 kind h.3 h.4 r.1 h.7 in
        arranged_noted h.0 h.1 (followed_by h.2 h.3) h.4 all arms (followed_noted h.2 h.3 r.0 q.0) q.1 h.8
