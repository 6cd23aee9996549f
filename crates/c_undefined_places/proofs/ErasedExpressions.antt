-- What stands for an expression of a text stands where its tokens do, but for implicit conversions (C99 6.5).
use Rattle.std.proofs.Common.{◌≡◌, ℕ, true, false, sym, subst, List, [], inl, inr, Some}
use Rattle.lay_base.specs.declared.place.Place.{Place}
use Rattle.c_types.specs.Types.{CType, integer, pointer, array}
use Rattle.c_ast.specs.declared.operators.UnaryOp.TheVariants as U
use Rattle.c_ast.specs.Places.{first}
use Rattle.c_ast.specs.Spelling.{Lexeme, spelled, spelled_arguments}
use Rattle.c_ast.specs.Trees
use Rattle.c_typed.specs.declared.operators.BinaryOp.{BinaryOp}
use Rattle.c_typed.specs.declared.operators.BinaryOp.TheVariants as B
use Rattle.c_typed.specs.Trees as Typed
use Rattle.c_erasure.specs.Erasure.{place_in, IsNamed, IsLiteralFor, IsSum, IsJoined, IsCall, IsAddress, IsPointed, IsSize, Values, Erases, AreValues}
use Rattle.c_erasure.specs.Noted.{Noted, Note, nothing, size_of, Expression, Path, Node, Thing, an_object, a_value, a_function, a_function_at}
use Rattle.c_erasure.specs.Noted.{a_library_function, value, type_of_path, place_of_path, object_value, value_of, unless_noted, unconverted}
use Rattle.c_erasure.specs.Operators.{Kind, computes, compares, all_of, any_of, kind_of}
use Rattle.c_erasure.specs.Scopes.{Scope, Entity, typedef, enumerator, a_local, a_parameter, Purpose, in_full, value_alone, type_alone}
use Rattle.c_erasure.specs.Scopes as Scopes
use Rattle.c_checking_units.proofs.FaultPlaces.Firsts.{begins}
use Rattle.c_checking_units.proofs.FaultPlaces.Tokens.{Tokens, front, back, comma_after, expression_behind, type_name_behind}
use Rattle.c_undefined_places.proofs.Loose.{IsLoose, IsLoosePath, AreLoose}

some_is : {A : Type 0} (x y : A) → Some x ≡ Some y → x ≡ y
some_is x y h = cc

-- in the file of that number; what has no token begins at 0
module _ (Is : Place → Type 0) (number : ℕ) (zero : Is (record { file = number; at = 0 })) where
  abbrev pub P : ℕ → Type 0
  P at = Is (record { file = number; at = at })

  abbrev pub IsHere : Scope → Type 0
  IsHere s = s.file.file ≡ number

  at_place : (s : Scope) (at : ℕ) → IsHere s → P at → Is (place_in s at)
  at_place s at e h = subst (λ n. Is (record { file = n; at = at })) (sym e) h

  pub past : (a : Trees.Expression) (rest : List Lexeme) → Tokens P (spelled a rest) → Tokens P rest
  past a rest k = (expression_behind P (λ at. []) a k).tokens

  -- a node of a value, beside which there is no note
  abbrev IsNode : Node → Type 0
  IsNode node = (t : CType) (at : Place) → Is at → IsLoose Is (value t at node)

  abbrev IsThing : Thing → Type 0
  IsThing (an_object p) = IsLoosePath Is p
  IsThing (a_value e) = IsLoose Is e
  IsThing (a_function at g t) = Is at
  IsThing (a_function_at e) = IsLoose Is e
  IsThing (a_library_function at which) = Unit {0}

  is_thing : (th own : Thing) → th ≡ own → IsThing own → IsThing th
  is_thing th own e h = subst IsThing (sym e) h

  -- ---- values of things

  path_place : (p : Path) → IsLoosePath Is p → Is (place_of_path p)
  path_place (Typed.path t at step) h = h.0

  of_object : (p : Path) (t : CType) (e : Expression) → IsLoosePath Is p → object_value p t ≡ Some e → IsLoose Is e
  of_object p (integer kind) e h v = subst (IsLoose Is) (some_is _ e v) (path_place p h, h)
  of_object p (pointer t) e h v = subst (IsLoose Is) (some_is _ e v) (path_place p h, h)
  of_object p (array t size) e h v = subst (IsLoose Is) (some_is _ e v) (path_place p h, h)
  of_object p t e h v = cc

  value_loose : (th : Thing) (e : Expression) → IsThing th → value_of th ≡ Some e → IsLoose Is e
  value_loose (an_object p) e h v = of_object p (type_of_path p) e h v
  value_loose (a_value x) e h v = subst (IsLoose Is) (some_is x e v) h
  value_loose (a_function at g t) e h v = subst (IsLoose Is) (some_is _ e v) (h, tt)
  value_loose (a_function_at x) e h v = subst (IsLoose Is) (some_is x e v) h
  value_loose (a_library_function at which) e h v = cc

  with_conversion : (t : Noted) (note : Note) (at : Place) (e : Expression)
      → IsLoose Is (unless_noted note e (Typed.expression t at (Typed.convert e false))) → IsLoose Is (Typed.expression t at (Typed.convert e false))
  with_conversion t nothing at e h = h
  with_conversion t (size_of u by) at e h = h

  whole_loose : (e : Expression) → IsLoose Is (unconverted e) → IsLoose Is e
  whole_loose (Typed.expression t at (Typed.convert e false)) h = with_conversion t t.note at e h
  whole_loose (Typed.expression t at (Typed.convert e true)) h = h
  whole_loose (Typed.expression t at node) h = h

  valued : (th : Thing) (x : Expression) → value_of th ≡ Some (unconverted x) → IsThing th → IsLoose Is x
  valued th x e h = whole_loose x (value_loose th (unconverted x) h e)

  -- ---- names, literals and sizes

  name_loose : (at : Place) (e : Entity) (th : Thing) → Is at → IsNamed at e th → IsThing th
  name_loose at (typedef t) th p h = absurd h
  name_loose at (enumerator v) th p h = is_thing th _ h (p, tt)
  name_loose at (Scopes.an_object k t) th p h = is_thing th _ h (p, tt)
  name_loose at (Scopes.a_function g t) th p h = is_thing th _ h p
  name_loose at (Scopes.a_library_function which) th p h = is_thing th _ h tt
  name_loose at (a_local k t) th p h = is_thing th _ h (p, tt)
  name_loose at (a_parameter t) th p h = is_thing th _ h (p, (p, tt))

  literal_loose : (purpose : Purpose) (s : Scope) (at : Place) (bytes : List ℕ) (th : Thing) → Is at → IsLiteralFor purpose s at bytes th → IsThing th
  literal_loose in_full s at bytes th p h = is_thing th _ h.1 (p, tt)
  literal_loose value_alone s at bytes th p h = is_thing th _ h (p, (p, tt))
  literal_loose type_alone s at bytes th p h = is_thing th _ h (p, (p, tt))

  size_loose : (s : Scope) (at by : ℕ) (t : CType) (th : Thing) → Is (place_in s at) → IsSize s at by t th → IsThing th
  size_loose s at by t th p h = is_thing th _ h.2 (p, tt)

  -- ---- operators

  sum_loose : (op : BinaryOp) (x y : Expression) (node : Node) → IsLoose Is x → IsLoose Is y → IsSum op x y node → IsNode node
  sum_loose B.Add x y node h k (inl e) = subst IsNode (sym e) (λ t at p. (p, (h, k)))
  sum_loose B.Add x y node h k (inr e) = subst IsNode (sym e) (λ t at p. (p, (h, k)))
  sum_loose B.Subtract x y node h k (inl e) = subst IsNode (sym e) (λ t at p. (p, (h, k)))
  sum_loose B.Subtract x y node h k (inr (inl e)) = subst IsNode (sym e) (λ t at p. (p, (h, k)))
  sum_loose B.Subtract x y node h k (inr (inr e)) = subst IsNode (sym e) (λ t at p. (p, (h, k)))
  sum_loose op x y node h k e = subst IsNode (sym e) (λ t at p. (p, (h, k)))

  joined_loose : (kind : Kind) (x y : Expression) (node : Node) → IsLoose Is x → IsLoose Is y → IsJoined kind x y node → IsNode node
  joined_loose (computes op) x y node h k e = sum_loose op x y node h k e
  joined_loose (compares op) x y node h k e = subst IsNode (sym e) (λ t at p. (p, (h, k)))
  joined_loose all_of x y node h k e = subst IsNode (sym e) (λ t at p. (p, (h, k)))
  joined_loose any_of x y node h k e = subst IsNode (sym e) (λ t at p. (p, (h, k)))

  call_loose : (g : Thing) (xs : Typed.Expressions Noted) (node : Node) → IsThing g → AreLoose Is xs → IsCall g xs node → IsNode node
  call_loose (a_function at f t) xs node h k e = subst IsNode (sym e) (λ t at p. (p, k))
  call_loose (a_library_function at which) xs node h k e = subst IsNode (sym e) (λ t at p. (p, k))
  call_loose (a_value x) xs node h k e = subst IsNode (sym e) (λ t at p. (p, (h, k)))
  call_loose (a_function_at x) xs node h k e = subst IsNode (sym e) (λ t at p. (p, (h, k)))
  call_loose (an_object q) xs node h k e = subst IsNode (sym e.2) (λ t at p. (p, (value_loose (an_object q) e.0 h e.1, k)))

  address_loose : (at : Place) (operand th : Thing) → Is at → IsThing operand → IsAddress at operand th → IsThing th
  address_loose at (an_object q) th p h e = is_thing th _ e.2 (p, h)
  address_loose at (a_function from g t) th p h e = is_thing th _ e (p, tt)
  address_loose at (a_function_at x) th p h e = is_thing th _ e h
  address_loose at (a_value x) th p h e = absurd e
  address_loose at (a_library_function from which) th p h e = absurd e

  pointed_loose : (at : Place) (e : Expression) (th : Thing) → Is at → IsLoose Is e → IsPointed at e th → IsThing th
  pointed_loose at e th p h (inl q) = is_thing th _ q.2 (p, h)
  pointed_loose at e th p h (inr q) = is_thing th _ q.4 h

  -- ---- expressions

  mutual
    pub thing_loose : (a : Trees.Expression) (s : Scope) (th : Thing) (rest : List Lexeme) → IsHere s → Tokens P (spelled a rest) → Erases a s th → IsThing th
    thing_loose (Trees.name x) s th rest i k h = name_loose _ h.0 th (at_place s x.from i (front k)) h.2
    thing_loose (Trees.number x v kind) s th rest i k h = is_thing th _ h (at_place s x.from i (front k), tt)
    thing_loose (Trees.character x v) s th rest i k h = is_thing th _ h (at_place s x.from i (front k), tt)
    thing_loose (Trees.texts all) s th rest i k h =
        literal_loose s.purpose s _ _ th (at_place s (first (Trees.texts all)) i (begins P zero (Trees.texts all) rest k)) h
    thing_loose (Trees.paren left a right) s th rest i k h = thing_loose a s th _ i (back k) h
    thing_loose (Trees.index a left b right) s th rest i k (inl h) =
        is_thing th _ h.4 (
          at_place s (first a) i (begins P zero a _ k),
          (
            thing_loose a s (an_object h.1) _ i k h.5,
            valued h.6.0 h.2 h.6.1 (thing_loose b s h.6.0 _ i (back (past a _ k)) h.6.2),
          ),
        )
    thing_loose (Trees.index a left b right) s th rest i k (inr (inl h)) =
        is_thing th _ h.3 (
          at_place s (first a) i (begins P zero a _ k),
          (
            valued h.4.0 h.1 h.4.1 (thing_loose a s h.4.0 _ i k h.4.2),
            valued h.5.0 h.2 h.5.1 (thing_loose b s h.5.0 _ i (back (past a _ k)) h.5.2),
          ),
        )
    thing_loose (Trees.index a left b right) s th rest i k (inr (inr h)) =
        let p = at_place s (first a) i (begins P zero a _ k) in
        is_thing th _ h.7 (
          p,
          (
            p,
            (
              valued h.5.0 h.2 h.5.1 (thing_loose a s h.5.0 _ i k h.5.2),
              valued h.6.0 h.3 h.6.1 (thing_loose b s h.6.0 _ i (back (past a _ k)) h.6.2),
            ),
          ),
        )
    thing_loose (Trees.call c left all right) s th rest i k h =
        is_thing th _ h.7
        (call_loose h.1 h.2 h.3 (thing_loose c s h.1 _ i k h.4) (all_loose s h.2 all _ i (back (past c _ k)) h.5) h.6 h.0 (place_in s (first c))
        (at_place s (first c) i (begins P zero c _ k)))
    thing_loose (Trees.dot a at x) s th rest i k h =
        is_thing th _ h.4 (at_place s (first a) i (begins P zero a _ k), thing_loose a s (an_object h.1) _ i k h.6)
    thing_loose (Trees.arrow a at x) s th rest i k h =
        let p = at_place s (first a) i (begins P zero a _ k) in
        is_thing th _ h.7 (p, (p, valued h.6.0 h.2 h.6.1 (thing_loose a s h.6.0 _ i k h.6.2)))
    thing_loose (Trees.post a op at) s th rest i k h =
        is_thing th _ h.2 (at_place s (first a) i (begins P zero a _ k), thing_loose a s (an_object h.1) _ i k h.3)
    thing_loose (Trees.pre op at a) s th rest i k h =
        is_thing th _ h.2 (at_place s at i (front k), thing_loose a s (an_object h.1) _ i (back k) h.3)
    thing_loose (Trees.unary U.Address at a) s th rest i k h =
        address_loose _ h.0 th (at_place s at i (front k)) (thing_loose a s h.0 _ i (back k) h.2) h.1
    thing_loose (Trees.unary U.Deref at a) s th rest i k h =
        pointed_loose _ h.0 th (at_place s at i (front k)) (valued h.2.0 h.0 h.2.1 (thing_loose a s h.2.0 _ i (back k) h.2.2)) h.1
    thing_loose (Trees.unary U.Plus at a) s th rest i k h =
        is_thing th _ h.2 (at_place s at i (front k), valued h.3.0 h.1 h.3.1 (thing_loose a s h.3.0 _ i (back k) h.3.2))
    thing_loose (Trees.unary U.Minus at a) s th rest i k h =
        is_thing th _ h.2 (at_place s at i (front k), valued h.3.0 h.1 h.3.1 (thing_loose a s h.3.0 _ i (back k) h.3.2))
    thing_loose (Trees.unary U.Complement at a) s th rest i k h =
        is_thing th _ h.2 (at_place s at i (front k), valued h.3.0 h.1 h.3.1 (thing_loose a s h.3.0 _ i (back k) h.3.2))
    thing_loose (Trees.unary U.Not at a) s th rest i k h =
        is_thing th _ h.2 (at_place s at i (front k), valued h.3.0 h.1 h.3.1 (thing_loose a s h.3.0 _ i (back k) h.3.2))
    thing_loose (Trees.sizeof_expression at a) s th rest i k h = size_loose s at at h.0 th (at_place s at i (front k)) h.2
    thing_loose (Trees.sizeof_type at left t right) s th rest i k h = size_loose s at right h.0 th (at_place s at i (front k)) h.3
    thing_loose (Trees.cast left t right a) s th rest i k h =
        let inner = back (type_name_behind P (λ at. []) t (back k)).tokens in
        is_thing th _ h.5 (at_place s left i (front k), valued h.4.0 h.1 h.4.1 (thing_loose a s h.4.0 _ i inner h.4.2))
    thing_loose (Trees.binary a op at b) s th rest i k h =
        is_thing th _ h.7
        (joined_loose (kind_of op) h.1 h.2 h.3 (valued h.4.0 h.1 h.4.1 (thing_loose a s h.4.0 _ i k h.4.2))
        (valued h.5.0 h.2 h.5.1 (thing_loose b s h.5.0 _ i (back (past a _ k)) h.5.2)) h.6 h.0 (place_in s (first a))
        (at_place s (first a) i (begins P zero a _ k)))
    thing_loose (Trees.cond a question b colon c) s th rest i k h =
        let after = back (past a _ k) in
        is_thing th _ h.4 (
          at_place s (first a) i (begins P zero a _ k),
          (
            valued h.5.0 h.1 h.5.1 (thing_loose a s h.5.0 _ i k h.5.2),
            valued h.6.0 h.2 h.6.1 (thing_loose b s h.6.0 _ i after h.6.2),
            valued h.7.0 h.3 h.7.1 (thing_loose c s h.7.0 _ i (back (past b _ after)) h.7.2),
          ),
        )
    thing_loose (Trees.assign a op at b) s th rest i k (inl h) =
        is_thing th _ h.4 (
          at_place s (first a) i (begins P zero a _ k),
          (
            thing_loose a s (an_object h.1) _ i k h.5,
            valued h.6.0 h.2 h.6.1 (thing_loose b s h.6.0 _ i (back (past a _ k)) h.6.2),
          ),
        )
    thing_loose (Trees.assign a op at b) s th rest i k (inr (inl h)) =
        is_thing th _ h.4 (
          at_place s (first a) i (begins P zero a _ k),
          (
            thing_loose a s (an_object h.1) _ i k h.5,
            thing_loose b s (an_object h.2) _ i (back (past a _ k)) h.6,
          ),
        )
    thing_loose (Trees.assign a op at b) s th rest i k (inr (inr h)) =
        is_thing th _ h.5 (
          at_place s (first a) i (begins P zero a _ k),
          (
            thing_loose a s (an_object h.1) _ i k h.6,
            valued h.7.0 h.2 h.7.1 (thing_loose b s h.7.0 _ i (back (past a _ k)) h.7.2),
          ),
        )
    thing_loose (Trees.comma a at b) s th rest i k h =
        is_thing th _ h.3 (
          at_place s (first a) i (begins P zero a _ k),
          (
            valued h.4.0 h.1 h.4.1 (thing_loose a s h.4.0 _ i k h.4.2),
            valued h.5.0 h.2 h.5.1 (thing_loose b s h.5.0 _ i (back (past a _ k)) h.5.2),
          ),
        )
    thing_loose (Trees.braces left all comma right) s th rest i k h = absurd h

    all_loose : (s : Scope) (xs : Typed.Expressions Noted) (all : Trees.Arguments) (rest : List Lexeme) → IsHere s → Tokens P (spelled_arguments all rest)
        → AreValues s xs all → AreLoose Is xs
    all_loose s xs Trees.no_arguments rest i k h = subst (AreLoose Is) (sym h) tt
    all_loose s xs (Trees.and_argument comma a more) rest i k h =
        let own = comma_after comma k in
        subst (AreLoose Is) (sym h.2)
        (valued h.3.0 h.0 h.3.1 (thing_loose a s h.3.0 _ i own h.3.2), all_loose s h.1 more rest i (past a _ own) h.4)

  pub found_loose : (a : Trees.Expression) (s : Scope) (x : Expression) (rest : List Lexeme) → IsHere s → Tokens P (spelled a rest) → Values (Erases a s) x
      → IsLoose Is x
  found_loose a s x rest i k h = valued h.0 x h.1 (thing_loose a s h.0 rest i k h.2)
