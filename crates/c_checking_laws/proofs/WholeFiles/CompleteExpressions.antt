-- What an expression designates in the whole file lies at the same address in the part that has what it reaches (C99 6.5, 6.6).
use Rattle.std.proofs.Common.{◌≡◌, ℕ, ◌≤◌, ◌<◌, true, refl, sym, ap, subst, List, [], ◌∷◌, ◌++◌, length, arith, inl, inr}
use Rattle.std.proofs.Common.{length-append}
use Rattle.std.proofs.lemmas.Bool.{lt-ltb}
use Rattle.std.specs.Prelude.{◌&&◌, Some, slice_get}
use Rattle.lay_base.specs.declared.place.Place.{Place}
use Rattle.c_types.specs.Objects.{is_object}
use Rattle.c_types.specs.declared.ty.IntKind.TheVariants.{Int, Char}
use Rattle.c_types.specs.Types.{CType, integer, pointer, array}
use Rattle.c_tokens.specs.QuotedScan.{string_bytes}
use Rattle.c_ast.specs.declared.words.Spelling.{Spelling}
use Rattle.c_ast.specs.declared.operators.UnaryOp.TheVariants as U
use Rattle.c_ast.specs.Trees
use Rattle.c_ast.specs.Places.{first, first_text}
use Rattle.c_typed.specs.declared.operators.BinaryOp.{BinaryOp}
use Rattle.c_typed.specs.declared.operators.BinaryOp.TheVariants as B
use Rattle.c_typed.specs.declared.operators.PointerOp.TheVariants as P
use Rattle.c_typed.specs.Trees as Typed
use Rattle.c_erasure.specs.Erasure.{Erases, IsNamed, IsLiteralFor, IsAddress, IsPointed, IsSum, IsJoined, IsCall, IsSize, literal_of, place_in}
use Rattle.c_erasure.specs.Noted.{Noted, Expression, Thing, an_object, a_value, a_function, a_function_at, a_library_function, value, way, Node}
use Rattle.c_erasure.specs.Operators.{Kind, computes, compares, all_of, any_of, kind_of}
use Rattle.c_erasure.specs.Scopes as Scopes
use Rattle.c_erasure.specs.Scopes.{FileScope, Scope, ALocal, AnObject, Entity, Purpose, in_full, value_alone, type_alone, ended}
use Rattle.c_checking_laws.proofs.Extends.{Extends}
use Rattle.c_checking_laws.proofs.CompleteWalk.{Event, a_look, seen, walk, walk_of_type}
use Rattle.c_checking_laws.proofs.CompletePart.{whole, Lists, part, IsWhole}
use Rattle.c_checking_laws.proofs.WholeFiles.CompleteReached.{IsThere, Reaches, left_reached, right_reached}
use Rattle.c_checking_laws.proofs.WholeFiles.CompleteAddresses.{ValueBack, ThingBack, value_back, none_here, pointer_add_back, deref_back, member_back}
use Rattle.c_checking_laws.proofs.WholeFiles.CompleteAddresses.{index_back}
use Rattle.c_checking_laws.proofs.WholeFiles.CompleteAddresses.{element_back}
use Rattle.c_checking_laws.proofs.WholeFiles.CompleteAddresses.{object_back, unmade_back, cast_back}

some_bytes : (all : List Spelling) → 0 < length (literal_of all)
some_bytes [] = omega arith
some_bytes (x ∷ more) = let h = some_bytes more in let l = length-append (string_bytes x.text) (literal_of more) in omega (arith, h, l)

module _ (g : FileScope) (w : IsWhole g) (ls : List ALocal) (s : Scope) (m : Lists) (p : Extends (part g m) g) where
  abbrev n : ℕ
  n = length m.records

  abbrev Things : Thing → Type 0
  Things th = ThingBack g w ls s m p th

  abbrev Value : Expression → Type 0
  Value e = ValueBack g w ls s m p e

  abbrev There : List Event → Type 0
  There all = Reaches g w ls s n (length m.objects) (seen s.is_inside in_full all)

  -- ---- parts of rules

  char_object : (k : ℕ) → 0 < k → is_object n (array (integer Char) k) ≡ true
  char_object k h = ap (λ b. b && true) (lt-ltb 0 k h)

  named_back : (at : Place) (e : Entity) (th : Thing) → IsThere g w ls s n (length m.objects) e → IsNamed at e th → Things th
  named_back at (Scopes.typedef t) th f h = absurd h
  named_back at (Scopes.enumerator v) th f h = subst Things (sym h) (none_here g w ls s m p (value (integer Int) at (Typed.constant v)) refl)
  named_back at (Scopes.an_object k t) th f h = subst Things (sym h) (object_back g w ls s m p t at k f.1 f.0)
  named_back at (Scopes.a_function k t) th f h = subst Things (sym h) tt
  named_back at (Scopes.a_library_function which) th f h = subst Things (sym h) tt
  named_back at (Scopes.a_local k t) th f h = subst Things (sym h) (λ w s a k. cc)
  named_back at (Scopes.a_parameter t) th f h = subst Things (sym h) (unmade_back g w ls s m p t at)

  literal_back : (from : ℕ) (all : List Spelling) (o : Purpose) (at : Place) (th : Thing) → at.at ≡ from
      → ((k : ℕ) (object : AnObject) → slice_get g.objects k ≡ Some object → object.first ≡ from → k < length m.objects)
      → IsLiteralFor o (whole g ls s) at (literal_of all) th → Things th
  literal_back from all in_full at th e f h =
      subst Things (sym h.1)
      (object_back g w ls s m p (array (integer Char) (length (literal_of all))) at h.0 (f h.0 _ h.2 e)
      (char_object (length (literal_of all)) (some_bytes all)))
  literal_back from all value_alone at th e f h = subst Things (sym h) (unmade_back g w ls s m p (array (integer Char) (length (literal_of all))) at)
  literal_back from all type_alone at th e f h = subst Things (sym h) (unmade_back g w ls s m p (array (integer Char) (length (literal_of all))) at)

  address_back : (at : Place) (operand th : Thing) → IsAddress at operand th → Things operand → Things th
  address_back at (an_object q) th h k = subst Things (sym h.2) (λ w a i. (k w.0 true a i).0)
  address_back at (a_function from j t) th h k =
      subst Things (sym h) (none_here g w ls s m p (value (pointer t) at (Typed.function_name j)) refl)
  address_back at (a_function_at e) th h k = subst Things (sym h) k
  address_back at (a_value e) th h k = absurd h
  address_back at (a_library_function from which) th h k = absurd h

  pointed_back : (at : Place) (e : Expression) (th : Thing) → ended g.ends at.at ≤ n → IsPointed at e th → Value e → Things th
  pointed_back at e th l (inl h) k = subst Things (sym h.2) (deref_back g w ls s m p h.0 at e l k)
  pointed_back at e th l (inr h) k = subst Things (sym h.4) k

  size_back : (sc : Scope) (at by : ℕ) (t : CType) (th : Thing) → IsSize sc at by t th → Things th
  size_back sc at by t th h = subst Things (sym h.2) (λ w a k. cc)

  call_back : (c : Thing) (t : CType) (at : Place) (xs : Typed.Expressions Noted) (node : Node) → IsCall c xs node → Value (value t at node)
  call_back (a_function from k u) t at xs node h = subst (λ node. Value (value t at node)) (sym h) (λ w a i. cc)
  call_back (a_library_function from which) t at xs node h = subst (λ node. Value (value t at node)) (sym h) (λ w a i. cc)
  call_back (a_value e) t at xs node h = subst (λ node. Value (value t at node)) (sym h) (λ w a i. cc)
  call_back (a_function_at e) t at xs node h = subst (λ node. Value (value t at node)) (sym h) (λ w a i. cc)
  call_back (an_object q) t at xs node h = subst (λ node. Value (value t at node)) (sym h.2) (λ w a i. cc)

  sum_back : (op : BinaryOp) (t : CType) (at : Place) (x y : Expression) (node : Node) → ended g.ends at.at ≤ n → IsSum op x y node
      → Value x → Value y → Value (value t at node)
  sum_back B.Add t at x y node l (inl h) hx hy = subst (λ node. Value (value t at node)) (sym h) (λ w a i. cc)
  sum_back B.Add t at x y node l (inr h) hx hy =
      subst (λ node. Value (value t at node)) (sym h) (pointer_add_back g w ls s m p t at P.Add x y l hx hy)
  sum_back B.Subtract t at x y node l (inl h) hx hy = subst (λ node. Value (value t at node)) (sym h) (λ w a i. cc)
  sum_back B.Subtract t at x y node l (inr (inl h)) hx hy =
      subst (λ node. Value (value t at node)) (sym h) (pointer_add_back g w ls s m p t at P.Subtract x y l hx hy)
  sum_back B.Subtract t at x y node l (inr (inr h)) hx hy = subst (λ node. Value (value t at node)) (sym h) (λ w a i. cc)
  sum_back op t at x y node l h hx hy = subst (λ node. Value (value t at node)) (sym h) (λ w a i. cc)

  joined_back : (kind : Kind) (t : CType) (at : Place) (x y : Expression) (node : Node) → ended g.ends at.at ≤ n → IsJoined kind x y node
      → Value x → Value y → Value (value t at node)
  joined_back (computes op) t at x y node l h hx hy = sum_back op t at x y node l h hx hy
  joined_back (compares op) t at x y node l h hx hy = subst (λ node. Value (value t at node)) (sym h) (λ w a i. cc)
  joined_back all_of t at x y node l h hx hy = subst (λ node. Value (value t at node)) (sym h) (λ w a i. cc)
  joined_back any_of t at x y node l h hx hy = subst (λ node. Value (value t at node)) (sym h) (λ w a i. cc)

  -- ---- expressions

  abbrev S : Scope
  S = whole g ls s

  on_left : (u v : List Event) → There (u ++ v) → There u
  on_left u v h = left_reached g w ls s n (length m.objects) s.is_inside in_full u v h

  on_right : (u v : List Event) → There (u ++ v) → There v
  on_right u v h = right_reached g w ls s n (length m.objects) s.is_inside in_full u v h

  abbrev Walk : Trees.Expression → List Event
  Walk a = walk g.untagged a

  pub erased_back : (a : Trees.Expression) (th : Thing) → Erases a S th → There (Walk a) → Things th
  erased_back (Trees.name x) th h i = named_back (place_in S x.from) h.0 th (i.0 x.text h.0 h.1) h.2
  erased_back (Trees.number x v kind) th h i = subst Things (sym h) (λ w a k. cc)
  erased_back (Trees.character x v) th h i = subst Things (sym h) (λ w a k. cc)
  erased_back (Trees.texts all) th h i = literal_back (first_text all) all s.purpose (place_in S (first_text all)) th refl i.0 h
  erased_back (Trees.paren left a right) th h i = erased_back a th h i
  erased_back (Trees.index a left b right) th (inl h) i =
      subst Things (sym h.4)
      (element_back g w ls s m p h.0 (place_in S (first a)) h.1 h.2 (erased_back a (an_object h.1) h.5 (on_left (Walk a) (Walk b) i.1)))
  erased_back (Trees.index a left b right) th (inr (inl h)) i =
      subst Things (sym h.3)
      (index_back g w ls s m p h.0 (place_in S (first a)) h.1 h.2 i.0
      (value_back g w ls s m p (Erases a S) h.1 h.4 (λ th k. erased_back a th k (on_left (Walk a) (Walk b) i.1))))
  erased_back (Trees.index a left b right) th (inr (inr h)) i =
      subst Things (sym h.7)
      (deref_back g w ls s m p h.0 (place_in S (first a)) (value h.1 (place_in S (first a)) (Typed.pointer_add P.Add h.2 h.3)) i.0
      (pointer_add_back g w ls s m p h.1 (place_in S (first a)) P.Add h.2 h.3 i.0
      (value_back g w ls s m p (Erases a S) h.2 h.5 (λ th k. erased_back a th k (on_left (Walk a) (Walk b) i.1)))
      (value_back g w ls s m p (Erases b S) h.3 h.6 (λ th k. erased_back b th k (on_right (Walk a) (Walk b) i.1)))))
  erased_back (Trees.call f left all right) th h i = subst Things (sym h.7) (call_back h.1 h.0 (place_in S (first f)) h.2 h.3 h.6)
  erased_back (Trees.dot a at x) th h i =
      subst Things (sym h.4)
      (member_back g w ls s m p h.0 (place_in S (first a)) h.1 h.2 h.3 (erased_back a (an_object h.1) h.6 (on_left (Walk a) (a_look at ∷ []) i)))
  erased_back (Trees.arrow a at x) th h i =
      subst Things (sym h.7)
      (member_back g w ls s m p h.0 (place_in S (first a)) (way h.1 (place_in S (first a)) (Typed.deref h.2)) h.3 h.4
      (deref_back g w ls s m p h.1 (place_in S (first a)) h.2 i.0
      (value_back g w ls s m p (Erases a S) h.2 h.6 (λ th k. erased_back a th k i.1))))
  erased_back (Trees.post a op at) th h i = subst Things (sym h.2) (λ w a k. cc)
  erased_back (Trees.pre op at a) th h i = subst Things (sym h.2) (λ w a k. cc)
  erased_back (Trees.unary U.Address at a) th h i = address_back (place_in S at) h.0 th h.1 (erased_back a h.0 h.2 i.1)
  erased_back (Trees.unary U.Deref at a) th h i =
      pointed_back (place_in S at) h.0 th i.0 h.1 (value_back g w ls s m p (Erases a S) h.0 h.2 (λ th k. erased_back a th k i.1))
  erased_back (Trees.unary U.Plus at a) th h i = subst Things (sym h.2) (λ w a k. cc)
  erased_back (Trees.unary U.Minus at a) th h i = subst Things (sym h.2) (λ w a k. cc)
  erased_back (Trees.unary U.Complement at a) th h i = subst Things (sym h.2) (λ w a k. cc)
  erased_back (Trees.unary U.Not at a) th h i = subst Things (sym h.2) (λ w a k. cc)
  erased_back (Trees.sizeof_expression at a) th h i = size_back S at at h.0 th h.2
  erased_back (Trees.sizeof_type at left t right) th h i = size_back S at right h.0 th h.3
  erased_back (Trees.cast left t right a) th h i =
      subst Things (sym h.5)
      (cast_back g w ls s m p h.0 (place_in S left) h.1
      (value_back g w ls s m p (Erases a S) h.1 h.4 (λ th k. erased_back a th k (on_right (walk_of_type g.untagged t) (Walk a) i))))
  erased_back (Trees.binary a op at b) th h i =
      subst Things (sym h.7)
      (joined_back (kind_of op) h.0 (place_in S (first a)) h.1 h.2 h.3 i.0 h.6
      (value_back g w ls s m p (Erases a S) h.1 h.4 (λ th k. erased_back a th k (on_left (Walk a) (Walk b) i.1)))
      (value_back g w ls s m p (Erases b S) h.2 h.5 (λ th k. erased_back b th k (on_right (Walk a) (Walk b) i.1))))
  erased_back (Trees.cond a question b colon c) th h i = subst Things (sym h.4) (λ w a k. cc)
  erased_back (Trees.assign a op at b) th (inl h) i = subst Things (sym h.4) (λ w a k. cc)
  erased_back (Trees.assign a op at b) th (inr (inl h)) i = subst Things (sym h.4) (λ w a k. cc)
  erased_back (Trees.assign a op at b) th (inr (inr h)) i = subst Things (sym h.5) (λ w a k. cc)
  erased_back (Trees.comma a at b) th h i = subst Things (sym h.3) (λ w a k. cc)
  erased_back (Trees.braces left all comma right) th h i = absurd h
