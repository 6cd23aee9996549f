-- What stands for an expression of a text is printable where its allocations and null pointers are recognised, with other numbers too (C99 6.5).
use Rattle.std.proofs.Common.{◌≡◌, ℕ, Bool, true, false, sym, subst, List, [], inl, inr, Some}
use Rattle.lay_base.specs.declared.place.Place.{Place}
use Rattle.c_types.specs.Types.{CType, integer, pointer, array}
use Rattle.c_ast.specs.declared.operators.UnaryOp.TheVariants as U
use Rattle.c_ast.specs.Places.{first}
use Rattle.c_ast.specs.Spelling.{Lexeme, spelled, spelled_arguments}
use Rattle.c_ast.specs.Trees
use Rattle.c_ast.specs.WellFormed.{IsExpression, AreArguments}
use Rattle.c_typed.specs.declared.operators.BinaryOp.{BinaryOp}
use Rattle.c_typed.specs.declared.operators.BinaryOp.TheVariants as B
use Rattle.c_typed.specs.Mapped.{mapped, mapped_path, mapped_all}
use Rattle.c_typed.specs.Trees as Typed
use Rattle.c_erasure.specs.Erasure.{place_in, IsNamed, IsLiteralFor, IsSum, IsJoined, IsCall, IsAddress, IsPointed, IsSize, Values, Erases, AreValues}
use Rattle.c_erasure.specs.Noted.{Noted, Note, nothing, size_of, plain, Expression, Path, Node, Thing, an_object, a_value, a_function, a_function_at}
use Rattle.c_erasure.specs.Noted.{a_library_function, value, type_of_path, object_value, value_of, unless_noted, unconverted}
use Rattle.c_erasure.specs.Operators.{Kind, computes, compares, all_of, any_of, kind_of}
use Rattle.c_erasure.specs.Recognised.{recognised, recognised_path, recognised_all}
use Rattle.c_erasure.specs.Scopes.{Scope, Entity, typedef, enumerator, a_local, a_parameter, Purpose, in_full, value_alone, type_alone}
use Rattle.c_erasure.specs.Scopes as Scopes
use Rattle.c_erasure.proofs.MarkPlaces.MarksOfParts.{along, type_name_along}
use Rattle.c_erasure.proofs.MarkPlaces.Walks.{comma_along}
use Rattle.c_well_typed.specs.Printable.Expressions.{IsPrintable, IsPrintablePath, ArePrintable}
use Rattle.c_well_typed.proofs.PrintableFunctions.Conversions.{renamed, HasPointerType, conversion}
use Rattle.c_well_typed.proofs.PrintableFunctions.Tokens.{HaveValues, behind}

some_is : {A : Type 0} (x y : A) → Some x ≡ Some y → x ≡ y
some_is x y h = cc

-- names for the structures without a tag, on which nothing here depends
abbrev pub no_tags : ℕ → List ℕ
no_tags at = []

module _ (n object callee : ℕ → ℕ) where
  -- a text can say what is recognised of it
  abbrev pub IsSaid : Expression → Type 0
  IsSaid e = IsPrintable (mapped (renamed n object callee) (recognised e)) × HasPointerType (recognised e)

  abbrev pub IsSaidPath : Path → Type 0
  IsSaidPath p = IsPrintablePath (mapped_path (renamed n object callee) (recognised_path p))

  abbrev pub AreSaid : Typed.Expressions Noted → Type 0
  AreSaid all = ArePrintable (mapped_all (renamed n object callee) (recognised_all all))

  -- a node of a value, beside which there is no note
  abbrev IsSaidNode : Node → Type 0
  IsSaidNode node = (t : CType) (at : Place) → IsSaid (value t at node)

  abbrev IsSaidThing : Thing → Type 0
  IsSaidThing (an_object p) = IsSaidPath p
  IsSaidThing (a_value e) = IsSaid e
  IsSaidThing (a_function at g t) = Unit {0}
  IsSaidThing (a_function_at e) = IsSaid e
  IsSaidThing (a_library_function at which) = Unit {0}

  is_thing : (th own : Thing) → th ≡ own → IsSaidThing own → IsSaidThing th
  is_thing th own e h = subst IsSaidThing (sym e) h

  -- ---- values of things

  of_object : (p : Path) (t : CType) (e : Expression) → IsSaidPath p → object_value p t ≡ Some e → IsSaid e
  of_object p (integer kind) e h v = subst IsSaid (some_is _ e v) (h, tt)
  of_object p (pointer t) e h v = subst IsSaid (some_is _ e v) (h, tt)
  of_object p (array t size) e h v = subst IsSaid (some_is _ e v) (h, tt)
  of_object p t e h v = cc

  value_said : (th : Thing) (e : Expression) → IsSaidThing th → value_of th ≡ Some e → IsSaid e
  value_said (an_object p) e h v = of_object p (type_of_path p) e h v
  value_said (a_value x) e h v = subst IsSaid (some_is x e v) h
  value_said (a_function at g t) e h v = subst IsSaid (some_is _ e v) (tt, tt)
  value_said (a_function_at x) e h v = subst IsSaid (some_is x e v) h
  value_said (a_library_function at which) e h v = cc

  converted_said : (t : Noted) (at : Place) (e : Expression) (written : Bool) → IsSaid e → IsSaid (Typed.expression t at (Typed.convert e written))
  converted_said t at e written h = let c = conversion n object callee t.ty (recognised e) written h.0 h.1 in (c.0, c.1 t.note at)

  with_conversion : (t : Noted) (note : Note) (at : Place) (e : Expression)
      → IsSaid (unless_noted note e (Typed.expression t at (Typed.convert e false))) → IsSaid (Typed.expression t at (Typed.convert e false))
  with_conversion t nothing at e h = converted_said t at e false h
  with_conversion t (size_of u by) at e h = h

  whole_said : (e : Expression) → IsSaid (unconverted e) → IsSaid e
  whole_said (Typed.expression t at (Typed.convert e false)) h = with_conversion t t.note at e h
  whole_said (Typed.expression t at (Typed.convert e true)) h = h
  whole_said (Typed.expression t at node) h = h

  valued : (th : Thing) (x : Expression) → value_of th ≡ Some (unconverted x) → IsSaidThing th → IsSaid x
  valued th x e h = whole_said x (value_said th (unconverted x) h e)

  -- ---- names, literals and sizes

  name_said : (at : Place) (e : Entity) (th : Thing) → IsNamed at e th → IsSaidThing th
  name_said at (typedef t) th h = absurd h
  name_said at (enumerator v) th h = is_thing th _ h (tt, tt)
  name_said at (Scopes.an_object k t) th h = is_thing th _ h tt
  name_said at (Scopes.a_function g t) th h = is_thing th _ h tt
  name_said at (Scopes.a_library_function which) th h = is_thing th _ h tt
  name_said at (a_local k t) th h = is_thing th _ h tt
  name_said at (a_parameter t) th h = is_thing th _ h tt

  literal_said : (p : Purpose) (s : Scope) (at : Place) (bytes : List ℕ) (th : Thing) → IsLiteralFor p s at bytes th → IsSaidThing th
  literal_said in_full s at bytes th h = is_thing th _ h.1 tt
  literal_said value_alone s at bytes th h = is_thing th _ h tt
  literal_said type_alone s at bytes th h = is_thing th _ h tt

  size_said : (s : Scope) (at by : ℕ) (t : CType) (th : Thing) → IsSize s at by t th → IsSaidThing th
  size_said s at by t th h = is_thing th _ h.2 (tt, tt)

  -- ---- operators

  sum_said : (op : BinaryOp) (x y : Expression) (node : Node) → IsSaid x → IsSaid y → IsSum op x y node → IsSaidNode node
  sum_said B.Add x y node h k (inl e) = subst IsSaidNode (sym e) (λ t at. ((h.0, k.0), tt))
  sum_said B.Add x y node h k (inr e) = subst IsSaidNode (sym e) (λ t at. ((h.0, k.0), tt))
  sum_said B.Subtract x y node h k (inl e) = subst IsSaidNode (sym e) (λ t at. ((h.0, k.0), tt))
  sum_said B.Subtract x y node h k (inr (inl e)) = subst IsSaidNode (sym e) (λ t at. ((h.0, k.0), tt))
  sum_said B.Subtract x y node h k (inr (inr e)) = subst IsSaidNode (sym e) (λ t at. ((h.0, k.0), tt))
  sum_said op x y node h k e = subst IsSaidNode (sym e) (λ t at. ((h.0, k.0), tt))

  joined_said : (kind : Kind) (x y : Expression) (node : Node) → IsSaid x → IsSaid y → IsJoined kind x y node → IsSaidNode node
  joined_said (computes op) x y node h k e = sum_said op x y node h k e
  joined_said (compares op) x y node h k e = subst IsSaidNode (sym e) (λ t at. ((h.0, k.0), tt))
  joined_said all_of x y node h k e = subst IsSaidNode (sym e) (λ t at. ((h.0, k.0), tt))
  joined_said any_of x y node h k e = subst IsSaidNode (sym e) (λ t at. ((h.0, k.0), tt))

  call_said : (g : Thing) (xs : Typed.Expressions Noted) (node : Node) → IsSaidThing g → AreSaid xs → IsCall g xs node → IsSaidNode node
  call_said (a_function at f t) xs node h k e = subst IsSaidNode (sym e) (λ t at. (k, tt))
  call_said (a_library_function at which) xs node h k e = subst IsSaidNode (sym e) (λ t at. (k, tt))
  call_said (a_value x) xs node h k e = subst IsSaidNode (sym e) (λ t at. ((h.0, k), tt))
  call_said (a_function_at x) xs node h k e = subst IsSaidNode (sym e) (λ t at. ((h.0, k), tt))
  call_said (an_object p) xs node h k e = subst IsSaidNode (sym e.2) (λ t at. (((value_said (an_object p) e.0 h e.1).0, k), tt))

  address_said : (at : Place) (operand th : Thing) → IsSaidThing operand → IsAddress at operand th → IsSaidThing th
  address_said at (an_object p) th h e = is_thing th _ e.2 (h, tt)
  address_said at (a_function from g t) th h e = is_thing th _ e (tt, tt)
  address_said at (a_function_at x) th h e = is_thing th _ e h
  address_said at (a_value x) th h e = absurd e
  address_said at (a_library_function from which) th h e = absurd e

  pointed_said : (at : Place) (e : Expression) (th : Thing) → IsSaid e → IsPointed at e th → IsSaidThing th
  pointed_said at e th h (inl p) = is_thing th _ p.2 h.0
  pointed_said at e th h (inr p) = is_thing th _ p.4 h

  -- ---- expressions

  module _ (types : List (List ℕ)) where
    past : (a : Trees.Expression) → IsExpression types a → (rest : List Lexeme) → HaveValues (spelled a rest) → HaveValues rest
    past a w rest k = behind (along no_tags types a w) k

    mutual
      pub said : (a : Trees.Expression) (s : Scope) (th : Thing) (rest : List Lexeme) → IsExpression types a → HaveValues (spelled a rest) → Erases a s th
          → IsSaidThing th
      said (Trees.name x) s th rest w k h = name_said _ h.0 th h.2
      said (Trees.number x v kind) s th rest w k h = is_thing th _ h (k.0, tt)
      said (Trees.character x v) s th rest w k h = is_thing th _ h (tt, tt)
      said (Trees.texts all) s th rest w k h = literal_said s.purpose s _ _ th h
      said (Trees.paren left a right) s th rest w k h = said a s th _ w k.1 h
      said (Trees.index a left b right) s th rest w k (inl h) =
          is_thing th _ h.4
          (said a s (an_object h.1) _ w.1 k h.5, (valued h.6.0 h.2 h.6.1 (said b s h.6.0 _ w.2 (past a w.1 _ k).1 h.6.2)).0)
      said (Trees.index a left b right) s th rest w k (inr (inl h)) =
          is_thing th _ h.3 (
            (valued h.4.0 h.1 h.4.1 (said a s h.4.0 _ w.1 k h.4.2)).0,
            (valued h.5.0 h.2 h.5.1 (said b s h.5.0 _ w.2 (past a w.1 _ k).1 h.5.2)).0,
          )
      said (Trees.index a left b right) s th rest w k (inr (inr h)) =
          is_thing th _ h.7 (
            (valued h.5.0 h.2 h.5.1 (said a s h.5.0 _ w.1 k h.5.2)).0,
            (valued h.6.0 h.3 h.6.1 (said b s h.6.0 _ w.2 (past a w.1 _ k).1 h.6.2)).0,
          )
      said (Trees.call c left all right) s th rest w k h =
          is_thing th _ h.7
          (call_said h.1 h.2 h.3 (said c s h.1 _ w.1 k h.4) (values_said true s h.2 all _ w.2 (past c w.1 _ k).1 h.5) h.6 h.0 (place_in s (first c)))
      said (Trees.dot a at x) s th rest w k h = is_thing th _ h.4 (said a s (an_object h.1) _ w.1 k h.6)
      said (Trees.arrow a at x) s th rest w k h = is_thing th _ h.7 (valued h.6.0 h.2 h.6.1 (said a s h.6.0 _ w.1 k h.6.2)).0
      said (Trees.post a op at) s th rest w k h = is_thing th _ h.2 (said a s (an_object h.1) _ w.1 k h.3, tt)
      said (Trees.pre op at a) s th rest w k h = is_thing th _ h.2 (said a s (an_object h.1) _ w.1 k.1 h.3, tt)
      said (Trees.unary U.Address at a) s th rest w k h = address_said _ h.0 th (said a s h.0 _ w.1 k.1 h.2) h.1
      said (Trees.unary U.Deref at a) s th rest w k h = pointed_said _ h.0 th (valued h.2.0 h.0 h.2.1 (said a s h.2.0 _ w.1 k.1 h.2.2)) h.1
      said (Trees.unary U.Plus at a) s th rest w k h = is_thing th _ h.2 ((valued h.3.0 h.1 h.3.1 (said a s h.3.0 _ w.1 k.1 h.3.2)).0, tt)
      said (Trees.unary U.Minus at a) s th rest w k h = is_thing th _ h.2 ((valued h.3.0 h.1 h.3.1 (said a s h.3.0 _ w.1 k.1 h.3.2)).0, tt)
      said (Trees.unary U.Complement at a) s th rest w k h = is_thing th _ h.2 ((valued h.3.0 h.1 h.3.1 (said a s h.3.0 _ w.1 k.1 h.3.2)).0, tt)
      said (Trees.unary U.Not at a) s th rest w k h = is_thing th _ h.2 ((valued h.3.0 h.1 h.3.1 (said a s h.3.0 _ w.1 k.1 h.3.2)).0, tt)
      said (Trees.sizeof_expression at a) s th rest w k h = size_said s at at h.0 th h.2
      said (Trees.sizeof_type at left t right) s th rest w k h = size_said s at right h.0 th h.3
      said (Trees.cast left t right a) s th rest w k h =
          let inner = (behind (type_name_along no_tags types t w.1) k.1).1 in
          is_thing th _ h.5 (converted_said (plain h.0) (place_in s left) h.1 true (valued h.4.0 h.1 h.4.1 (said a s h.4.0 _ w.2 inner h.4.2)))
      said (Trees.binary a op at b) s th rest w k h =
          is_thing th _ h.7
          (joined_said (kind_of op) h.1 h.2 h.3 (valued h.4.0 h.1 h.4.1 (said a s h.4.0 _ w.2 k h.4.2))
          (valued h.5.0 h.2 h.5.1 (said b s h.5.0 _ w.3 (past a w.2 _ k).1 h.5.2)) h.6 h.0 (place_in s (first a)))
      said (Trees.cond a question b colon c) s th rest w k h =
          let after = (past a w.2 _ k).1 in
          is_thing th _ h.4 (
            (
              (valued h.5.0 h.1 h.5.1 (said a s h.5.0 _ w.2 k h.5.2)).0,
              (valued h.6.0 h.2 h.6.1 (said b s h.6.0 _ w.3 after h.6.2)).0,
              (valued h.7.0 h.3 h.7.1 (said c s h.7.0 _ w.4 (past b w.3 _ after).1 h.7.2)).0,
            ),
            tt,
          )
      said (Trees.assign a op at b) s th rest w k (inl h) =
          is_thing th _ h.4
          ((said a s (an_object h.1) _ w.2 k h.5, (valued h.6.0 h.2 h.6.1 (said b s h.6.0 _ w.3 (past a w.2 _ k).1 h.6.2)).0), tt)
      said (Trees.assign a op at b) s th rest w k (inr (inl h)) =
          is_thing th _ h.4 ((said a s (an_object h.1) _ w.2 k h.5, said b s (an_object h.2) _ w.3 (past a w.2 _ k).1 h.6), tt)
      said (Trees.assign a op at b) s th rest w k (inr (inr h)) =
          is_thing th _ h.5
          ((said a s (an_object h.1) _ w.2 k h.6, (valued h.7.0 h.2 h.7.1 (said b s h.7.0 _ w.3 (past a w.2 _ k).1 h.7.2)).0), tt)
      said (Trees.comma a at b) s th rest w k h =
          is_thing th _ h.3 (
            ((valued h.4.0 h.1 h.4.1 (said a s h.4.0 _ w.1 k h.4.2)).0, (valued h.5.0 h.2 h.5.1 (said b s h.5.0 _ w.2 (past a w.1 _ k).1 h.5.2)).0),
            tt,
          )
      said (Trees.braces left all comma right) s th rest w k h = absurd h

      values_said : (first : Bool) (s : Scope) (xs : Typed.Expressions Noted) (all : Trees.Arguments) (rest : List Lexeme) → AreArguments types first all
          → HaveValues (spelled_arguments all rest) → AreValues s xs all → AreSaid xs
      values_said first s xs Trees.no_arguments rest w k h = subst AreSaid (sym h) tt
      values_said first s xs (Trees.and_argument comma a more) rest w k h =
          let own = behind (comma_along comma) k in
          subst AreSaid (sym h.2)
          ((valued h.3.0 h.0 h.3.1 (said a s h.3.0 _ w.2 own h.3.2)).0, values_said false s h.1 more rest w.3 (past a w.2 _ own) h.4)

    pub said_value : (a : Trees.Expression) (s : Scope) (x : Expression) (rest : List Lexeme) → IsExpression types a → HaveValues (spelled a rest)
        → Values (Erases a s) x → IsSaid x
    said_value a s x rest w k h = valued h.0 x h.1 (said a s h.0 rest w k h.2)
