-- What stands for a part of the text is sound, and so is the value that is read of it.
use Rattle.std.proofs.Common.{◌≡◌, ℕ, true, false, List, length, refl, sym, ap, ◌∙◌, subst, inl, inr}
use Rattle.std.specs.Prelude.{Option, Some, None, Ok}
use Rattle.lay_base.specs.declared.place.Place.{Place}
use Rattle.c_types.specs.Types.{CType, void, integer, pointer, array, function, structure}
use Rattle.c_types.specs.Objects.{is_object}
use Rattle.c_ast.specs.declared.operators.UnaryOp.TheVariants as U
use Rattle.c_ast.specs.Trees
use Rattle.c_ast.specs.Places.{first}
use Rattle.c_typed.specs.declared.operators.BinaryOp.{BinaryOp}
use Rattle.c_typed.specs.declared.operators.BinaryOp.TheVariants as B
use Rattle.c_typed.specs.Trees as Typed
use Rattle.c_typed.specs.Conversions.{is_integer, is_scalar}
use Rattle.c_typed.specs.Typed.{is_decay, IsTyped}
use Rattle.c_erasure.specs.Erasure.{typed, IsTypedThing, Values, Erases, IsNamed, IsAddress, IsPointed, IsLiteralFor, IsSum, IsJoined, IsCall, place_in}
use Rattle.c_erasure.specs.Operators.{Kind, computes, compares, all_of, any_of, kind_of}
use Rattle.c_erasure.specs.Noted.{Noted, Node, value, Expression, Path, Thing, an_object, a_value, a_function, a_function_at, a_library_function}
use Rattle.c_erasure.specs.Noted.{type_of, type_of_path, object_value, value_of, unconverted}
use Rattle.c_erasure.specs.Scopes.{ALocal, FileScope, Scope, Entity, typedef, enumerator, a_local, a_parameter, Purpose, in_full, value_alone, type_alone}
use Rattle.c_erasure.specs.Scopes.{innermost, visible, named, or_else, ended, declared}
use Rattle.c_erasure.specs.Scopes as Scopes
use Rattle.c_erasure.specs.Checking.Answers.{with_file, moved}
use Rattle.c_erasure.specs.Checking.Nodes.{array_of_type, array_of}
use Rattle.c_erasure.specs.Checking.Finding.{value_at, find}
use Rattle.c_checking_laws.proofs.CompleteNodes.{some_is, worth_back}
use Rattle.c_checking_laws.proofs.CompleteValues.{IsBare, IsLeftOf, left_of}
use Rattle.c_checking_laws.proofs.CompleteWalk.{Event, seen, walk}
use Rattle.c_checking_laws.proofs.CompletePart.{whole, Lists, part, IsFitFor, IsWhole, IsBefore, IsAfter, Done, BlocksFit, IsSound, IsComplete, value_bare}
use Rattle.c_checking_laws.proofs.CompletePart.{value_typed}

either : {A : Type 0} (o n : Option A) (e : A) (Q : Type 0) → (o ≡ Some e → Q) → (n ≡ Some e → Q) → or_else o n ≡ Some e → Q
either None n e Q p q h = q h
either (Some x) n e Q p q h = p h

-- an array object alone has the value of its first element
array_of_object : (p : Path) (t : CType) (y : Expression) → object_value p t ≡ Some y → is_decay (typed y) ≡ false → array_of_type p t ≡ None
array_of_object p void y v h = refl
array_of_object p (integer kind) y v h = refl
array_of_object p (pointer t) y v h = refl
array_of_object p (array t n) y v h = let e : is_decay (typed y) ≡ true = subst (λ y. is_decay (typed y) ≡ true) (some_is _ y v) refl in cc
array_of_object p (function t all) y v h = refl
array_of_object p (structure r) y v h = refl

pub no_array : (th : Thing) (y : Expression) → value_of th ≡ Some y → is_decay (typed y) ≡ false → array_of th ≡ None
unfolding array_of
no_array (an_object p) y v h = array_of_object p (type_of_path p) y v h
no_array (a_value x) y v h = refl
no_array (a_function at f t) y v h = refl
no_array (a_function_at x) y v h = refl
no_array (a_library_function at which) y v h = refl

number_object : (p : Path) (t : CType) (y : Expression) → object_value p t ≡ Some y → is_integer (type_of y) ≡ true → array_of_type p t ≡ None
number_object p void y v h = refl
number_object p (integer kind) y v h = refl
number_object p (pointer t) y v h = refl
number_object p (array t n) y v h = let e : is_integer (type_of y) ≡ false = subst (λ y. is_integer (type_of y) ≡ false) (some_is _ y v) refl in cc
number_object p (function t all) y v h = refl
number_object p (structure r) y v h = refl

pub number_no_array : (th : Thing) (y : Expression) → value_of th ≡ Some y → is_integer (type_of y) ≡ true → array_of th ≡ None
unfolding array_of
number_no_array (an_object p) y v h = number_object p (type_of_path p) y v h
number_no_array (a_value x) y v h = refl
number_no_array (a_function at f t) y v h = refl
number_no_array (a_function_at x) y v h = refl
number_no_array (a_library_function at which) y v h = refl

module _ (g : FileScope) (w : IsWhole g) (ls : List ALocal) where
  -- ---- names

  abbrev Fits : Entity → Type 0
  Fits e = (r : ℕ) × IsFitFor g r e

  named_sound : (at : Place) (e : Entity) (th : Thing) → Fits e → IsNamed at e th → IsSound g th
  named_sound at (typedef t) th f h = absurd h
  named_sound at (enumerator v) th f h = subst (IsSound g) (sym h) refl
  named_sound at (Scopes.an_object n t) th f h = subst (IsSound g) (sym h) tt
  named_sound at (Scopes.a_function n t) th f h = subst (IsSound g) (sym h) f.1
  named_sound at (Scopes.a_library_function which) th f h = subst (IsSound g) (sym h) tt
  named_sound at (a_local n t) th f h = subst (IsSound g) (sym h) tt
  named_sound at (a_parameter t) th f h = subst (IsSound g) (sym h) tt

  scalar_complete : (r : ℕ) (t : CType) → is_scalar t ≡ true → is_object r t ≡ true
  scalar_complete r (integer kind) h = refl
  scalar_complete r (pointer t) h = refl
  scalar_complete r void h = cc
  scalar_complete r (array t n) h = cc
  scalar_complete r (function t all) h = cc
  scalar_complete r (structure k) h = cc

  pub named_complete : (at : Place) (e : Entity) (th : Thing) (r : ℕ) → IsFitFor g r e → IsNamed at e th → IsComplete g r th
  named_complete at (typedef t) th r f h = absurd h
  named_complete at (enumerator v) th r f h = subst (IsComplete g r) (sym h) tt
  named_complete at (Scopes.an_object n t) th r f h = subst (IsComplete g r) (sym h) f
  named_complete at (Scopes.a_function n t) th r f h = subst (IsComplete g r) (sym h) tt
  named_complete at (Scopes.a_library_function which) th r f h = subst (IsComplete g r) (sym h) tt
  named_complete at (a_local n t) th r f h = subst (IsComplete g r) (sym h) f
  named_complete at (a_parameter t) th r f h = subst (IsComplete g r) (sym h) (scalar_complete r t f)

  -- ---- what stands for an expression

  address_sound : (at : Place) (operand th : Thing) → IsSound g operand → IsAddress at operand th → IsSound g th
  address_sound at (an_object p) th f h = subst (IsSound g) (sym h.2) refl
  address_sound at (a_function from n t) th f h = subst (IsSound g) (sym h) refl
  address_sound at (a_function_at e) th f h = subst (IsSound g) (sym h) f.0
  address_sound at (a_value e) th f h = absurd h
  address_sound at (a_library_function from which) th f h = absurd h

  pointed_sound : (at : Place) (e : Expression) (th : Thing) → IsBare (unconverted e) → IsPointed at e th → IsSound g th
  pointed_sound at e th b (inl h) = subst (IsSound g) (sym h.2) tt
  pointed_sound at e th b (inr h) = subst (IsSound g) (sym h.4) (subst IsBare h.3 b, (h.0, h.1, h.2))

  literal_sound : (p : Purpose) (s : Scope) (at : Place) (bytes : List ℕ) (th : Thing) → IsLiteralFor p s at bytes th → IsSound g th
  literal_sound in_full s at bytes th h = subst (IsSound g) (sym h.1) tt
  literal_sound value_alone s at bytes th h = subst (IsSound g) (sym h) tt
  literal_sound type_alone s at bytes th h = subst (IsSound g) (sym h) tt

  sum_bare : (op : BinaryOp) (t : CType) (at : Place) (x y : Expression) (node : Node) → IsSum op x y node → IsBare (value t at node)
  sum_bare B.Add t at x y node (inl h) = subst (λ node. IsBare (value t at node)) (sym h) refl
  sum_bare B.Add t at x y node (inr h) = subst (λ node. IsBare (value t at node)) (sym h) refl
  sum_bare B.Subtract t at x y node (inl h) = subst (λ node. IsBare (value t at node)) (sym h) refl
  sum_bare B.Subtract t at x y node (inr (inl h)) = subst (λ node. IsBare (value t at node)) (sym h) refl
  sum_bare B.Subtract t at x y node (inr (inr h)) = subst (λ node. IsBare (value t at node)) (sym h) refl
  sum_bare B.Multiply t at x y node h = subst (λ node. IsBare (value t at node)) (sym h) refl
  sum_bare B.Divide t at x y node h = subst (λ node. IsBare (value t at node)) (sym h) refl
  sum_bare B.Remainder t at x y node h = subst (λ node. IsBare (value t at node)) (sym h) refl
  sum_bare B.ShiftLeft t at x y node h = subst (λ node. IsBare (value t at node)) (sym h) refl
  sum_bare B.ShiftRight t at x y node h = subst (λ node. IsBare (value t at node)) (sym h) refl
  sum_bare B.BitAnd t at x y node h = subst (λ node. IsBare (value t at node)) (sym h) refl
  sum_bare B.BitXor t at x y node h = subst (λ node. IsBare (value t at node)) (sym h) refl
  sum_bare B.BitOr t at x y node h = subst (λ node. IsBare (value t at node)) (sym h) refl

  joined_bare : (kind : Kind) (t : CType) (at : Place) (x y : Expression) (node : Node) → IsJoined kind x y node → IsBare (value t at node)
  joined_bare (computes op) t at x y node h = sum_bare op t at x y node h
  joined_bare (compares op) t at x y node h = subst (λ node. IsBare (value t at node)) (sym h) refl
  joined_bare all_of t at x y node h = subst (λ node. IsBare (value t at node)) (sym h) refl
  joined_bare any_of t at x y node h = subst (λ node. IsBare (value t at node)) (sym h) refl

  call_bare : (f : Thing) (t : CType) (at : Place) (all : Typed.Expressions Noted) (node : Node) → IsCall f all node → IsBare (value t at node)
  call_bare (a_function from n u) t at all node h = subst (λ node. IsBare (value t at node)) (sym h) refl
  call_bare (a_library_function from which) t at all node h = subst (λ node. IsBare (value t at node)) (sym h) refl
  call_bare (a_value e) t at all node h = subst (λ node. IsBare (value t at node)) (sym h) refl
  call_bare (a_function_at e) t at all node h = subst (λ node. IsBare (value t at node)) (sym h) refl
  call_bare (an_object p) t at all node h = subst (λ node. IsBare (value t at node)) (sym h.2) refl

  pub erased_sound : (a : Trees.Expression) (s : Scope) (r : ℕ) → BlocksFit g r s.blocks → (th : Thing) → Erases a (whole g ls s) th → IsSound g th
  erased_sound (Trees.name x) s r b th h = named_sound (place_in (whole g ls s) x.from) h.0 th
      (either (innermost s.blocks x.text) (visible g.names x.text x.from) h.0 (Fits h.0) (λ e. (r, b x.text h.0 e))
      (λ e. (ended g.ends x.from, w.names_fit x.text x.from h.0 e)) h.1) h.2
  erased_sound (Trees.number x n kind) s r b th h = subst (IsSound g) (sym h) refl
  erased_sound (Trees.character x n) s r b th h = subst (IsSound g) (sym h) refl
  erased_sound (Trees.texts all) s r b th h = literal_sound s.purpose (whole g ls s) _ _ th h
  erased_sound (Trees.paren left a right) s r b th h = erased_sound a s r b th h
  erased_sound (Trees.index a left c right) s r b th (inl h) = subst (IsSound g) (sym h.4) tt
  erased_sound (Trees.index a left c right) s r b th (inr (inl h)) = subst (IsSound g) (sym h.3) tt
  erased_sound (Trees.index a left c right) s r b th (inr (inr h)) = subst (IsSound g) (sym h.7) tt
  erased_sound (Trees.call f left all right) s r b th h = subst (IsSound g) (sym h.7) (call_bare h.1 h.0 (place_in (whole g ls s) (first f)) h.2 h.3 h.6)
  erased_sound (Trees.dot a at x) s r b th h = subst (IsSound g) (sym h.4) tt
  erased_sound (Trees.arrow a at x) s r b th h = subst (IsSound g) (sym h.7) tt
  erased_sound (Trees.post a op at) s r b th h = subst (IsSound g) (sym h.2) refl
  erased_sound (Trees.pre op at a) s r b th h = subst (IsSound g) (sym h.2) refl
  erased_sound (Trees.unary U.Address at a) s r b th h = address_sound (place_in (whole g ls s) at) h.0 th (erased_sound a s r b h.0 h.2) h.1
  erased_sound (Trees.unary U.Deref at a) s r b th h =
      pointed_sound (place_in (whole g ls s) at) h.0 th (value_bare g h.2.0 (unconverted h.0) (erased_sound a s r b h.2.0 h.2.2) h.2.1) h.1
  erased_sound (Trees.unary U.Plus at a) s r b th h = subst (IsSound g) (sym h.2) refl
  erased_sound (Trees.unary U.Minus at a) s r b th h = subst (IsSound g) (sym h.2) refl
  erased_sound (Trees.unary U.Complement at a) s r b th h = subst (IsSound g) (sym h.2) refl
  erased_sound (Trees.unary U.Not at a) s r b th h = subst (IsSound g) (sym h.2) refl
  erased_sound (Trees.sizeof_expression at a) s r b th h = subst (IsSound g) (sym h.2.2) refl
  erased_sound (Trees.sizeof_type at left n right) s r b th h = subst (IsSound g) (sym h.3.2) refl
  erased_sound (Trees.cast left n right a) s r b th h = subst (IsSound g) (sym h.5) refl
  erased_sound (Trees.binary a op at c) s r b th h = subst (IsSound g) (sym h.7)
      (joined_bare (kind_of op) h.0 (place_in (whole g ls s) (first a)) h.1 h.2 h.3 h.6)
  erased_sound (Trees.cond a question c colon d) s r b th h = subst (IsSound g) (sym h.4) refl
  erased_sound (Trees.assign a op at c) s r b th (inl h) = subst (IsSound g) (sym h.4) refl
  erased_sound (Trees.assign a op at c) s r b th (inr (inl h)) = subst (IsSound g) (sym h.4) refl
  erased_sound (Trees.assign a op at c) s r b th (inr (inr h)) = subst (IsSound g) (sym h.5) refl
  erased_sound (Trees.comma a at c) s r b th h = subst (IsSound g) (sym h.3) refl
  erased_sound (Trees.braces left all comma right) s r b th h = absurd h

  -- ---- operands

  abbrev pub Seen : Scope → Trees.Expression → List Event
  Seen s a = seen s.is_inside s.purpose (walk g.untagged a)

  pub record Found (s : Scope) (c : Lists) (a : Trees.Expression) (th : Thing) : Type 0 where
    pub done : Done g c (Seen s a) (find a (moved s (part g c))) th
    pub complete : IsComplete g (length done.lists.records) th

  -- the typed tree of an expression is the one that is found
  abbrev pub Completes : Trees.Expression → Type 0
  Completes a = (s : Scope) (c : Lists) (th : Thing) → BlocksFit g (length c.records) s.blocks → IsBefore g c (Seen s a) → Erases a (whole g ls s) th
      → IsTypedThing (whole g ls s) th → Found s c a th

  pub record FoundValue (s : Scope) (c : Lists) (a : Trees.Expression) (x : Expression) : Type 0 where
    pub lists : Lists
    pub thing : Thing
    pub is : find a (moved s (part g c)) ≡ Ok (thing, part g lists)
    pub value : value_of thing ≡ Some (unconverted x)
    pub value_is : value_at (first a) (find a (moved s (part g c))) ≡ Ok (unconverted x, part g lists)
    pub after : IsAfter g c (Seen s a) lists
    pub left : IsLeftOf (declared (whole g ls s)) x (unconverted x)

  pub operand : (a : Trees.Expression) → Completes a → (s : Scope) (c : Lists) (x : Expression) → BlocksFit g (length c.records) s.blocks
      → IsBefore g c (Seen s a)
      → Values (Erases a (whole g ls s)) x → IsTyped (declared (whole g ls s)) (typed x) → FoundValue s c a x
  operand a h s c x f b v t =
      let sound = erased_sound a s (length c.records) f v.0 v.2 in
      let left = left_of (declared (whole g ls s)) x t (value_bare g v.0 (unconverted x) sound v.1) in
      let z = h s c v.0 f b v.2 (value_typed g ls s v.0 (unconverted x) sound v.1 left.is_typed) in
      record {
        lists = z.done.lists;
        thing = v.0;
        is = z.done.is;
        value = v.1;
        value_is = ap (value_at (first a)) z.done.is ∙ ap (with_file (part g z.done.lists)) (worth_back (first a) v.0 (unconverted x) v.1);
        after = z.done.after;
        left = left;
      }
