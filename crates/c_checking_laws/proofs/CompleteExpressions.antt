-- Each alternative of an expression: the typed tree is the one that is found, where those of the parts are (C99 6.5).
use Rattle.std.proofs.Common.{◌≡◌, ℕ, zero, suc, ◌≤◌, ◌<◌, Bool, true, false, List, [], ◌∷◌, ◌++◌, length, refl, sym, ap, ◌∙◌, subst, cond, inl, inr, arith}
use Rattle.std.proofs.lemmas.Bool.{and_parts, ltb-true}
use Rattle.std.specs.Prelude.{nat_lt, Some, None, Ok, slice_get}
use Rattle.lay_base.specs.declared.place.Place.{Place}
use Rattle.c_types.specs.declared.ty.IntKind.{IntKind}
use Rattle.c_types.specs.Types.{CType, void, integer, pointer, array, function, structure}
use Rattle.c_types.specs.Objects.{is_object}
use Rattle.c_ast.specs.declared.words.Spelling.{Spelling}
use Rattle.c_ast.specs.declared.operators.UnaryOp.TheVariants as U
use Rattle.c_ast.specs.declared.operators.BinaryOp.{BinaryOp}
use Rattle.c_ast.specs.declared.operators.StepOp.{StepOp}
use Rattle.c_ast.specs.declared.operators.AssignOp.{AssignOp}
use Rattle.c_ast.specs.Trees
use Rattle.c_ast.specs.Places.{first}
use Rattle.c_typed.specs.declared.operators.UnaryOp.TheVariants as TU
use Rattle.c_typed.specs.declared.operators.BinaryOp as TypedBinary
use Rattle.c_typed.specs.declared.operators.BinaryOp.TheVariants as B
use Rattle.c_typed.specs.Trees as Typed
use Rattle.c_typed.specs.Constants.{ty}
use Rattle.c_typed.specs.Conversions.{element_of, is_scalar}
use Rattle.c_typed.specs.Rules.{updating, is_move, moving}
use Rattle.c_typed.specs.Typed.{is_decay, bare_ty, IsTyped, IsTypedPath}
use Rattle.c_erasure.specs.Erasure.{typed, IsTypedThing, Values, Erases, IsSum, IsJoined, IsAddress, IsPointed, place_in}
use Rattle.c_erasure.specs.Noted.{Node, value, Expression, Path, Thing, an_object, a_value, a_function, a_function_at, a_library_function}
use Rattle.c_erasure.specs.Noted.{type_of_path, unconverted}
use Rattle.c_erasure.specs.Operators.{Kind, computes, compares, all_of, any_of, kind_of, step_of}
use Rattle.c_erasure.specs.Scopes.{ALocal, FileScope, Scope, ended, declared}
use Rattle.c_erasure.specs.Checking.Answers.{with_file}
use Rattle.c_erasure.specs.Checking.Nodes.{named_in}
use Rattle.c_erasure.specs.Checking.Nodes.{address_in}
use Rattle.c_erasure.specs.Checking.Finding.{find}
use Rattle.c_checking_laws.proofs.Values.{typed_path, path_type_same, unconverted_same}
use Rattle.c_checking_laws.proofs.CompleteNodes
use Rattle.c_checking_laws.proofs.CompleteParts
use Rattle.c_checking_laws.proofs.CompleteWalk.{Event, seen, walk, a_look}
use Rattle.c_checking_laws.proofs.CompletePart.{whole, Lists, part, IsFitFor, IsWhole, IsBefore, IsAfter, BlocksFit, blocks_stay, none_after, grown}
use Rattle.c_checking_laws.proofs.CompletePart.{complete_stays}
use Rattle.c_checking_laws.proofs.CompletePart.{left_seen, right_seen, then_seen, named_same, named_fits}
use Rattle.c_checking_laws.proofs.CompleteOperands.{Seen, Found, Completes, FoundValue, operand, named_complete, erased_sound, no_array, number_no_array}

in_first : {X : Type 0} (first more : List X) (k : ℕ) (x : X) → slice_get (first ++ more) k ≡ Some x → k < length first → slice_get first k ≡ Some x
in_first [] more k x e l = absurd (omega (arith, l))
in_first (y ∷ first) more zero x e l = e
in_first (y ∷ first) more (suc k) x e l = in_first first more k x e (omega (arith, l))

-- a number or a pointer is updated
updated_scalar : (count : ℕ) (op : TypedBinary.BinaryOp) (t u v : CType) → updating count op t u ≡ Some v → is_scalar t ≡ true
updated_scalar count op (integer kind) u v h = refl
updated_scalar count op (pointer t) u v h = refl
updated_scalar count op void u v h = by_test (is_move op) h
  where
    by_test : (b : Bool) → cond b (moving count void u) None ≡ Some v → is_scalar void ≡ true
    by_test true h = cc
    by_test false h = cc
updated_scalar count op (array t n) u v h = by_test (is_move op) h
  where
    by_test : (b : Bool) → cond b (moving count (array t n) u) None ≡ Some v → is_scalar (array t n) ≡ true
    by_test true h = cc
    by_test false h = cc
updated_scalar count op (function t all) u v h = by_test (is_move op) h
  where
    by_test : (b : Bool) → cond b (moving count (function t all) u) None ≡ Some v → is_scalar (function t all) ≡ true
    by_test true h = cc
    by_test false h = cc
updated_scalar count op (structure r) u v h = by_test (is_move op) h
  where
    by_test : (b : Bool) → cond b (moving count (structure r) u) None ≡ Some v → is_scalar (structure r) ≡ true
    by_test true h = cc
    by_test false h = cc

module _ (g : FileScope) (w : IsWhole g) (ls : List ALocal) where
  abbrev Is : Trees.Expression → Type 0
  Is a = Completes g w ls a

  -- what stands there is a value, or an object, of that form
  abbrev pub Back : Scope → Lists → Trees.Expression → Thing → Type 0
  Back s c a th = IsTypedThing (whole g ls s) th → Found g w ls s c a th

  pub by_thing : (s : Scope) (c : Lists) (a : Trees.Expression) (th own : Thing) → th ≡ own → Back s c a own → Back s c a th
  by_thing s c a th own e h = subst (Back s c a) (sym e) h

  -- ---- primary expressions

  pub name_complete : (x : Spelling) → Is (Trees.name x)
  unfolding find
  name_complete x s c th f b h t =
      let asked = b.follows.0 in
      let n = named_same g ls s c b.extends x.text x.from asked.0 ∙ h.1 in
      let fits = named_fits g w ls s x.from (subst (λ r. BlocksFit g r s.blocks) (sym asked.1) f) x.text h.0 h.1 in
      record {
        done = record {
          lists = c;
          is = ap (λ o. with_file (part g c) (named_in (place_in (whole g ls s) x.from) x.text o)) n
              ∙ ap (with_file (part g c)) (CompleteNodes.named_back (place_in (whole g ls s) x.from) x.text h.0 th h.2);
          after = none_after g c (Seen g w ls s (Trees.name x)) b refl refl refl;
        };
        complete = named_complete g w ls (place_in (whole g ls s) x.from) h.0 th (length c.records) (subst (λ r. IsFitFor g r h.0) asked.1 fits) h.2;
      }

  pub number_complete : (x : Spelling) (n : ℕ) (kind : IntKind) → Is (Trees.number x n kind)
  unfolding find
  number_complete x n kind s c th f b h t = by_thing s c (Trees.number x n kind) th _ h
      (λ t. record { done = record { lists = c; is = refl; after = none_after g c [] b refl refl refl }; complete = tt }) t

  pub character_complete : (x : Spelling) (n : ℕ) → Is (Trees.character x n)
  unfolding find
  character_complete x n s c th f b h t = by_thing s c (Trees.character x n) th _ h
      (λ t. record { done = record { lists = c; is = refl; after = none_after g c [] b refl refl refl }; complete = tt }) t

  pub paren_complete : (a : Trees.Expression) (left right : ℕ) → Is a → Is (Trees.paren left a right)
  unfolding find
  paren_complete a left right i s c th f b h t =
      let z = i s c th f b h t in
      record { done = record { lists = z.done.lists; is = z.done.is; after = z.done.after }; complete = z.complete }

  -- ---- where complete records are asked for

  pub after_look : (c e : Lists) (at : ℕ) (v : List Event) → IsAfter g c v e → IsAfter g c (a_look at ∷ v) e
  after_look c e at v p = record { extends = p.extends; names = p.names; records = p.records; objects = p.objects; functions = p.functions }

  pub behind_look : (c : Lists) (at : ℕ) (v : List Event) → IsBefore g c (a_look at ∷ v) → IsBefore g c v
  behind_look c at v p = record { extends = p.extends; follows = p.follows.1 }

  -- ---- binary operators

  joined_parts : (s : Scope) (kind : Kind) (t : CType) (at : Place) (x y : Expression) (node : Node) → IsJoined kind x y node
      → IsTyped (declared s) (typed (value t at node)) → IsTyped (declared s) (typed x) × IsTyped (declared s) (typed y)
  joined_parts s (computes op) t at x y node j h = by_sum op j
    where
      same : (own : Node) → node ≡ own → IsTyped (declared s) (typed (value t at own))
      same own e = subst (λ node. IsTyped (declared s) (typed (value t at node))) e h

      by_sum : (op : TypedBinary.BinaryOp) → IsSum op x y node → IsTyped (declared s) (typed x) × IsTyped (declared s) (typed y)
      by_sum B.Add (inl e) = let h = same _ e in (h.0, h.1)
      by_sum B.Add (inr e) = let h = same _ e in (h.0, h.1)
      by_sum B.Subtract (inl e) = let h = same _ e in (h.0, h.1)
      by_sum B.Subtract (inr (inl e)) = let h = same _ e in (h.0, h.1)
      by_sum B.Subtract (inr (inr e)) = let h = same _ e in (h.0, h.1)
      by_sum B.Multiply e = let h = same _ e in (h.0, h.1)
      by_sum B.Divide e = let h = same _ e in (h.0, h.1)
      by_sum B.Remainder e = let h = same _ e in (h.0, h.1)
      by_sum B.ShiftLeft e = let h = same _ e in (h.0, h.1)
      by_sum B.ShiftRight e = let h = same _ e in (h.0, h.1)
      by_sum B.BitAnd e = let h = same _ e in (h.0, h.1)
      by_sum B.BitXor e = let h = same _ e in (h.0, h.1)
      by_sum B.BitOr e = let h = same _ e in (h.0, h.1)
  joined_parts s (compares op) t at x y node j h = let h = subst (λ node. IsTyped (declared s) (typed (value t at node))) j h in (h.0, h.1)
  joined_parts s all_of t at x y node j h = let h = subst (λ node. IsTyped (declared s) (typed (value t at node))) j h in (h.0, h.1)
  joined_parts s any_of t at x y node j h = let h = subst (λ node. IsTyped (declared s) (typed (value t at node))) j h in (h.0, h.1)

  -- two operands, one after the other
  record Operands (s : Scope) (c : Lists) (a b : Trees.Expression) (x y : Expression) : Type 0 where
    pub first : FoundValue g w ls s c a x
    pub second : FoundValue g w ls s first.lists b y
    pub after : IsAfter g c (seen s.is_inside s.purpose (walk g.untagged a ++ walk g.untagged b)) second.lists

  operands : (a b : Trees.Expression) → Is a → Is b → (s : Scope) (c : Lists) (x y : Expression) → BlocksFit g (length c.records) s.blocks
      → IsBefore g c (seen s.is_inside s.purpose (walk g.untagged a ++ walk g.untagged b))
      → Values (Erases a (whole g ls s)) x → Values (Erases b (whole g ls s)) y → IsTyped (declared (whole g ls s)) (typed x)
      → IsTyped (declared (whole g ls s)) (typed y)
      → Operands s c a b x y
  operands a b i j s c x y f e v u t q =
      let m = operand g w ls a i s c x f (left_seen g s.is_inside s.purpose c (walk g.untagged a) (walk g.untagged b) e) v t in
      let n = operand g w ls b j s m.lists y (blocks_stay g (length c.records) (length m.lists.records) s.blocks (grown m.after) f)
      (right_seen g s.is_inside s.purpose c m.lists (walk g.untagged a) (walk g.untagged b) e m.after) u q in
      record { first = m; second = n; after = then_seen g s.is_inside s.purpose c m.lists n.lists (walk g.untagged a) (walk g.untagged b) m.after n.after }

  pub binary_complete : (a b : Trees.Expression) (op : BinaryOp) (at : ℕ) → Is a → Is b → Is (Trees.binary a op at b)
  unfolding find
  binary_complete a b op at i j s c th f e h t = by_thing s c (Trees.binary a op at b) th _ h.7
      (λ t.
      let p = joined_parts (whole g ls s) (kind_of op) h.0 (place_in (whole g ls s) (first a)) h.1 h.2 h.3 h.6 t in
      let both = behind_look c (first a) (seen s.is_inside s.purpose (walk g.untagged a ++ walk g.untagged b)) e in
      let z = operands a b i j s c h.1 h.2 f both h.4 h.5 p.0 p.1 in
      let n = CompleteNodes.binary_back (declared (whole g ls s)) (place_in (whole g ls s) (first a)) at (kind_of op) h.0 h.1 h.2 h.3 z.first.left z.second.left
      h.6 t in
      record {
        done = record {
          lists = z.second.lists;
          is = rw (z.first.value_is, z.second.value_is, n) refl;
          after = after_look c z.second.lists (first a) (seen s.is_inside s.purpose (walk g.untagged a ++ walk g.untagged b)) z.after;
        };
        complete = tt;
      }) t

  pub comma_complete : (a b : Trees.Expression) (at : ℕ) → Is a → Is b → Is (Trees.comma a at b)
  unfolding find
  comma_complete a b at i j s c th f e h t = by_thing s c (Trees.comma a at b) th _ h.3
      (λ t.
      let z = operands a b i j s c h.1 h.2 f e h.4 h.5 t.0 t.1 in
      let n = CompleteNodes.comma_back (declared (whole g ls s)) (place_in (whole g ls s) (first a)) h.0 h.1 h.2 t in
      record {
        done = record { lists = z.second.lists; is = rw (z.first.value_is, z.second.value_is, n) refl; after = z.after };
        complete = tt;
      }) t

  -- ---- `?:`

  pub cond_complete : (a b d : Trees.Expression) (question colon : ℕ) → Is a → Is b → Is d → Is (Trees.cond a question b colon d)
  unfolding find
  cond_complete a b d question colon i j k s c th f e h t = by_thing s c (Trees.cond a question b colon d) th _ h.4
      (λ t.
      let ab : List Event = walk g.untagged a ++ walk g.untagged b in
      let z = operands a b i j s c h.1 h.2 f (left_seen g s.is_inside s.purpose c (walk g.untagged a ++ walk g.untagged b) (walk g.untagged d) e) h.5 h.6 t.0
      t.1 in
      let m = operand g w ls d k s z.second.lists h.3 (blocks_stay g (length c.records) (length z.second.lists.records) s.blocks (grown z.after) f)
      (right_seen g s.is_inside s.purpose c z.second.lists (walk g.untagged a ++ walk g.untagged b) (walk g.untagged d) e z.after) h.7 t.2 in
      let n = CompleteNodes.test_back (declared (whole g ls s)) (place_in (whole g ls s) (first a)) question h.1 z.first.left t.3 in
      let o = CompleteNodes.choice_back (declared (whole g ls s)) (place_in (whole g ls s) (first a)) colon h.0 h.1 h.2 h.3 z.second.left m.left t in
      record {
        done = record {
          lists = m.lists;
          is = rw (z.first.value_is, n, z.second.value_is, m.value_is, o) refl;
          after = then_seen g s.is_inside s.purpose c z.second.lists m.lists (walk g.untagged a ++ walk g.untagged b) (walk g.untagged d) z.after m.after;
        };
        complete = tt;
      }) t

  -- ---- objects

  -- an object that is part of what stands there
  object : (a : Trees.Expression) → Is a → (s : Scope) (c : Lists) (p : Path) → BlocksFit g (length c.records) s.blocks → IsBefore g c (Seen g w ls s a)
      → Erases a (whole g ls s) (an_object p) → IsTypedPath (declared (whole g ls s)) (typed_path p) → Found g w ls s c a (an_object p)
  object a i s c p f b h t = i s c (an_object p) f b h t

  -- ---- steps

  pub post_complete : (a : Trees.Expression) (op : StepOp) (at : ℕ) → Is a → Is (Trees.post a op at)
  unfolding find
  post_complete a op at i s c th f b h t = by_thing s c (Trees.post a op at) th _ h.2
      (λ t.
      let z = object a i s c h.1 f b h.3 t.0 in
      let n = CompleteNodes.step_back (declared (whole g ls s)) (place_in (whole g ls s) (first a)) (first a) at (step_of op) false h.0 h.1 t in
      record { done = record { lists = z.done.lists; is = rw (z.done.is, n) refl; after = z.done.after }; complete = tt }) t

  pub pre_complete : (a : Trees.Expression) (op : StepOp) (at : ℕ) → Is a → Is (Trees.pre op at a)
  unfolding find
  pre_complete a op at i s c th f b h t = by_thing s c (Trees.pre op at a) th _ h.2
      (λ t.
      let z = object a i s c h.1 f b h.3 t.0 in
      let n = CompleteNodes.step_back (declared (whole g ls s)) (place_in (whole g ls s) at) (first a) at (step_of op) true h.0 h.1 t in
      record { done = record { lists = z.done.lists; is = rw (z.done.is, n) refl; after = z.done.after }; complete = tt }) t

  -- ---- unary operators

  pub plus_complete : (at : ℕ) (a : Trees.Expression) → Is a → Is (Trees.unary U.Plus at a)
  unfolding find
  plus_complete at a i s c th f b h t = by_thing s c (Trees.unary U.Plus at a) th _ h.2
      (λ t.
      let z = operand g w ls a i s c h.1 f (behind_look c at (Seen g w ls s a) b) h.3 t.0 in
      let n = CompleteNodes.unary_back (declared (whole g ls s)) (place_in (whole g ls s) at) TU.Plus h.0 h.1 z.left t in
      record { done = record { lists = z.lists; is = rw (z.value_is, n) refl; after = after_look c z.lists at (Seen g w ls s a) z.after }; complete = tt }) t

  pub minus_complete : (at : ℕ) (a : Trees.Expression) → Is a → Is (Trees.unary U.Minus at a)
  unfolding find
  minus_complete at a i s c th f b h t = by_thing s c (Trees.unary U.Minus at a) th _ h.2
      (λ t.
      let z = operand g w ls a i s c h.1 f (behind_look c at (Seen g w ls s a) b) h.3 t.0 in
      let n = CompleteNodes.unary_back (declared (whole g ls s)) (place_in (whole g ls s) at) TU.Minus h.0 h.1 z.left t in
      record { done = record { lists = z.lists; is = rw (z.value_is, n) refl; after = after_look c z.lists at (Seen g w ls s a) z.after }; complete = tt }) t

  pub complement_complete : (at : ℕ) (a : Trees.Expression) → Is a → Is (Trees.unary U.Complement at a)
  unfolding find
  complement_complete at a i s c th f b h t = by_thing s c (Trees.unary U.Complement at a) th _ h.2
      (λ t.
      let z = operand g w ls a i s c h.1 f (behind_look c at (Seen g w ls s a) b) h.3 t.0 in
      let n = CompleteNodes.unary_back (declared (whole g ls s)) (place_in (whole g ls s) at) TU.Complement h.0 h.1 z.left t in
      record { done = record { lists = z.lists; is = rw (z.value_is, n) refl; after = after_look c z.lists at (Seen g w ls s a) z.after }; complete = tt }) t

  pub not_complete : (at : ℕ) (a : Trees.Expression) → Is a → Is (Trees.unary U.Not at a)
  unfolding find
  not_complete at a i s c th f b h t = by_thing s c (Trees.unary U.Not at a) th _ h.2
      (λ t.
      let z = operand g w ls a i s c h.1 f (behind_look c at (Seen g w ls s a) b) h.3 t.0 in
      let n = CompleteNodes.not_back (declared (whole g ls s)) (place_in (whole g ls s) at) h.0 h.1 z.left t in
      record { done = record { lists = z.lists; is = rw (z.value_is, n) refl; after = after_look c z.lists at (Seen g w ls s a) z.after }; complete = tt }) t

  pub deref_complete : (at : ℕ) (a : Trees.Expression) → Is a → Is (Trees.unary U.Deref at a)
  unfolding find
  deref_complete at a i s c th f b h t = by_pointed h.1 t
    where
      by_pointed : IsPointed (place_in (whole g ls s) at) h.0 th → Back s c (Trees.unary U.Deref at a) th
      by_pointed (inl e) = by_thing s c (Trees.unary U.Deref at a) th _ e.2
          (λ t.
          let z = operand g w ls a i s c h.0 f (behind_look c at (Seen g w ls s a) b) h.2 t.0 in
          let n = CompleteNodes.deref_back (declared (whole g ls s)) (place_in (whole g ls s) at) e.0 h.0 z.left t in
          let k : ended g.ends at ≤ length z.lists.records = omega (arith, b.follows.0, z.after.records) in
          record {
            done = record { lists = z.lists; is = rw (z.value_is, n) refl; after = after_look c z.lists at (Seen g w ls s a) z.after };
            complete = complete_stays (ended g.ends at) (length z.lists.records) e.0 k t.3;
          })
      by_pointed (inr e) = by_thing s c (Trees.unary U.Deref at a) th _ e.4
          (λ t.
          let z = operand g w ls a i s c h.0 f (behind_look c at (Seen g w ls s a) b) h.2 t.0 in
          let n = CompleteNodes.deref_function_back (declared (whole g ls s)) (place_in (whole g ls s) at) e.0 h.0 e.1 e.2 in
          record {
            done = record { lists = z.lists; is = rw (z.value_is, e.3, n) refl; after = after_look c z.lists at (Seen g w ls s a) z.after };
            complete = tt;
          })

  address_function : (from : ℕ) (at f_at : Place) (f : ℕ) (t : CType)
      → address_in from at (a_function f_at f t) ≡ Ok (a_value (value (pointer t) at (Typed.function_name f)))
  unfolding address_in
  address_function from at f_at f t = refl

  address_function_at : (from : ℕ) (at : Place) (e : Expression) → address_in from at (a_function_at e) ≡ Ok (a_value e)
  unfolding address_in
  address_function_at from at e = refl

  pub address_complete : (at : ℕ) (a : Trees.Expression) → Is a → Is (Trees.unary U.Address at a)
  unfolding find
  address_complete at a i s c th f b h t = by_operand h.0 h.1 h.2 t
    where
      by_operand : (operand : Thing) → IsAddress (place_in (whole g ls s) at) operand th → Erases a (whole g ls s) operand
          → Back s c (Trees.unary U.Address at a) th
      by_operand (an_object p) x e = by_thing s c (Trees.unary U.Address at a) th _ x.2
          (λ t.
          let z = i s c (an_object p) f (behind_look c at (Seen g w ls s a) b) e t.0 in
          let n = CompleteNodes.address_of_object_back (declared (whole g ls s)) (place_in (whole g ls s) at) (first a) x.0 p x.1 t in
          record {
            done = record { lists = z.done.lists; is = rw (z.done.is, n) refl; after = after_look c z.done.lists at (Seen g w ls s a) z.done.after };
            complete = tt;
          })
      by_operand (a_function from k u) x e = by_thing s c (Trees.unary U.Address at a) th _ x
          (λ t.
          let z = i s c (a_function from k u) f (behind_look c at (Seen g w ls s a) b) e
          (erased_sound g w ls a s (length c.records) f (a_function from k u) e) in
          let n = address_function (first a) (place_in (whole g ls s) at) from k u in
          record {
            done = record { lists = z.done.lists; is = rw (z.done.is, n) refl; after = after_look c z.done.lists at (Seen g w ls s a) z.done.after };
            complete = tt;
          })
      by_operand (a_function_at y) x e = by_thing s c (Trees.unary U.Address at a) th _ x
          (λ t.
          let k = erased_sound g w ls a s (length c.records) f (a_function_at y) e in
          let z = i s c (a_function_at y) f (behind_look c at (Seen g w ls s a) b) e (t, k.1) in
          let n = address_function_at (first a) (place_in (whole g ls s) at) y in
          record {
            done = record { lists = z.done.lists; is = rw (z.done.is, n) refl; after = after_look c z.done.lists at (Seen g w ls s a) z.done.after };
            complete = tt;
          })
      by_operand (a_value y) x e = absurd x
      by_operand (a_library_function from which) x e = absurd x

  -- ---- subscripts

  element_stays : (r : ℕ) (u t : CType) → element_of u ≡ Some t → is_object r u ≡ true → is_object r t ≡ true
  element_stays r (array v n) t e h = subst (λ t. is_object r t ≡ true) (CompleteNodes.some_is v t e) (and_parts (nat_lt 0 n) (is_object r v) h).1
  element_stays r void t e h = cc
  element_stays r (integer kind) t e h = cc
  element_stays r (pointer v) t e h = cc
  element_stays r (function v all) t e h = cc
  element_stays r (structure k) t e h = cc

  pub index_complete : (a b : Trees.Expression) (left right : ℕ) → Is a → Is b → Is (Trees.index a left b right)
  unfolding find
  index_complete a b left right i j s c th f e (inl h) t = by_thing s c (Trees.index a left b right) th _ h.4
      (λ t.
      let both = behind_look c (first a) (seen s.is_inside s.purpose (walk g.untagged a ++ walk g.untagged b)) e in
      let m = object a i s c h.1 f (left_seen g s.is_inside s.purpose c (walk g.untagged a) (walk g.untagged b) both) h.5 t.0 in
      let n = operand g w ls b j s m.done.lists h.2 (blocks_stay g (length c.records) (length m.done.lists.records) s.blocks (grown m.done.after) f)
      (right_seen g s.is_inside s.purpose c m.done.lists (walk g.untagged a) (walk g.untagged b) both m.done.after) h.6 t.1 in
      let l : element_of (type_of_path h.1) ≡ Some h.0 = ap element_of (sym (path_type_same h.1)) ∙ t.3 in
      let r = CompleteParts.array_back (declared (whole g ls s)) (place_in (whole g ls s) (first a)) h.1 h.0 l in
      let o = CompleteParts.element_back (declared (whole g ls s)) (place_in (whole g ls s) (first a)) left h.0 h.1 h.2 n.left t in
      let k : length m.done.lists.records ≤ length n.lists.records = grown n.after in
      record {
        done = record {
          lists = n.lists;
          is = rw (m.done.is, r, n.value_is, o) refl;
          after = after_look c n.lists (first a) (seen s.is_inside s.purpose (walk g.untagged a ++ walk g.untagged b))
              (then_seen g s.is_inside s.purpose c m.done.lists n.lists (walk g.untagged a) (walk g.untagged b) m.done.after n.after);
        };
        complete = complete_stays (length m.done.lists.records) (length n.lists.records) h.0 k
            (element_stays (length m.done.lists.records) (type_of_path h.1) h.0 l m.complete);
      }) t
  index_complete a b left right i j s c th f e (inr (inl h)) t = by_thing s c (Trees.index a left b right) th _ h.3
      (λ t.
      let both = behind_look c (first a) (seen s.is_inside s.purpose (walk g.untagged a ++ walk g.untagged b)) e in
      let z = operands a b i j s c h.1 h.2 f both h.4 h.5 t.0 t.1 in
      let u : unconverted h.1 ≡ h.1 = unconverted_same h.1 t.2 in
      let d : is_decay (typed (unconverted h.1)) ≡ false = ap (λ x. is_decay (typed x)) u ∙ t.3 in
      let n = no_array z.first.thing (unconverted h.1) z.first.value d in
      let v = CompleteNodes.worth_back (first a) z.first.thing (unconverted h.1) z.first.value in
      let o = CompleteParts.index_back (declared (whole g ls s)) (place_in (whole g ls s) (first a)) left h.0 h.1 h.2 z.first.left z.second.left t in
      let k : ended g.ends (first a) ≤ length z.second.lists.records = omega (arith, e.follows.0, z.after.records) in
      record {
        done = record {
          lists = z.second.lists;
          is = rw (z.first.is, n, v, z.second.value_is, o) refl;
          after = after_look c z.second.lists (first a) (seen s.is_inside s.purpose (walk g.untagged a ++ walk g.untagged b)) z.after;
        };
        complete = complete_stays (ended g.ends (first a)) (length z.second.lists.records) h.0 k t.6;
      }) t
  index_complete a b left right i j s c th f e (inr (inr h)) t = by_thing s c (Trees.index a left b right) th _ h.7
      (λ t.
      let both = behind_look c (first a) (seen s.is_inside s.purpose (walk g.untagged a ++ walk g.untagged b)) e in
      let z = operands a b i j s c h.2 h.3 f both h.5 h.6 t.0.0 t.0.1 in
      let q = CompleteParts.turned_number (declared (whole g ls s)) (place_in (whole g ls s) (first a)) h.0 h.1 h.2 h.3 z.first.left h.4 t in
      let n = number_no_array z.first.thing (unconverted h.2) z.first.value q in
      let v = CompleteNodes.worth_back (first a) z.first.thing (unconverted h.2) z.first.value in
      let o = CompleteParts.turned_back (declared (whole g ls s)) (place_in (whole g ls s) (first a)) left h.0 h.1 h.2 h.3 z.first.left z.second.left h.4 t in
      let k : ended g.ends (first a) ≤ length z.second.lists.records = omega (arith, e.follows.0, z.after.records) in
      record {
        done = record {
          lists = z.second.lists;
          is = rw (z.first.is, n, v, z.second.value_is, o) refl;
          after = after_look c z.second.lists (first a) (seen s.is_inside s.purpose (walk g.untagged a ++ walk g.untagged b)) z.after;
        };
        complete = complete_stays (ended g.ends (first a)) (length z.second.lists.records) h.0 k t.3;
      }) t

  -- ---- members

  among_first : {X : Type 0} (all first more : List X) (k : ℕ) (x : X) → all ≡ first ++ more → slice_get all k ≡ Some x → k < length first
      → slice_get first k ≡ Some x
  among_first all first more k x e h l = in_first first more k x (subst (λ all. slice_get all k ≡ Some x) e h) l

  structure_below : (r k : ℕ) → is_object r (structure k) ≡ true → k < r
  structure_below r k h = ltb-true k r h

  pub dot_complete : (a : Trees.Expression) (at : ℕ) (x : Spelling) → Is a → Is (Trees.dot a at x)
  unfolding find
  dot_complete a at x i s c th f b h t = by_thing s c (Trees.dot a at x) th _ h.4
      (λ t.
      let z = object a i s c h.1 f (left_seen g s.is_inside s.purpose c (walk g.untagged a) (a_look at ∷ []) b) h.6 t.0 in
      let asked = (right_seen g s.is_inside s.purpose c z.done.lists (walk g.untagged a) (a_look at ∷ []) b z.done.after).follows.0 in
      let u : type_of_path h.1 ≡ structure h.2 = sym (path_type_same h.1) ∙ t.1 in
      let q = subst (λ r. is_object r (type_of_path h.1) ≡ true) (sym asked) z.complete in
      let l = structure_below (length z.done.lists.records) h.2 (subst (λ t. is_object (length z.done.lists.records) t ≡ true) u z.complete) in
      let y = z.done.after.extends.records in
      let rec = h.5.0 in
      let there = among_first g.records z.done.lists.records y.0 h.2 rec y.1 h.5.2 l in
      let n = CompleteParts.dot_back (declared (whole g ls s)) (place_in (whole g ls s) (first a)) z.done.lists.records (ended g.ends at) x.from h.1 h.2 h.3 rec
      h.5.1 x.text
      u q there h.5.3 h.5.4 (w.fields_apart h.2 rec h.5.2) in
      record {
        done = record {
          lists = z.done.lists;
          is = rw (z.done.is, n, h.5.5) refl;
          after = then_seen g s.is_inside s.purpose c z.done.lists z.done.lists (walk g.untagged a) (a_look at ∷ []) z.done.after
              (none_after g z.done.lists (a_look at ∷ [])
              (right_seen g s.is_inside s.purpose c z.done.lists (walk g.untagged a) (a_look at ∷ []) b z.done.after) refl refl refl);
        };
        complete = subst (λ t. is_object (length z.done.lists.records) t ≡ true) h.5.5
            (complete_stays h.2 (length z.done.lists.records) h.5.1.ty (omega (arith, l)) (w.fields_complete h.2 h.3 rec h.5.1 h.5.2 h.5.3));
      }) t

  pub arrow_complete : (a : Trees.Expression) (at : ℕ) (x : Spelling) → Is a → Is (Trees.arrow a at x)
  unfolding find
  arrow_complete a at x i s c th f b h t = by_thing s c (Trees.arrow a at x) th _ h.7
      (λ t.
      let z = operand g w ls a i s c h.2 f (behind_look c (first a) (Seen g w ls s a) b) h.6 t.0.0 in
      let k : ended g.ends (first a) ≤ length z.lists.records = omega (arith, b.follows.0, z.after.records) in
      let m = structure_below (ended g.ends (first a)) h.3 (subst (λ t. is_object (ended g.ends (first a)) t ≡ true) t.1 t.0.3) in
      let l : h.3 < length z.lists.records = omega (arith, m, k) in
      let y = z.after.extends.records in
      let rec = h.5.0 in
      let there = among_first g.records z.lists.records y.0 h.3 rec y.1 h.5.2 l in
      let n = CompleteParts.arrow_back (declared (whole g ls s)) (place_in (whole g ls s) (first a)) z.lists.records x.from h.1 h.2 h.3 h.4 rec h.5.1 x.text
      z.left t.0 t.1 there h.5.3 h.5.4 (w.fields_apart h.3 rec h.5.2) in
      record {
        done = record { lists = z.lists; is = rw (z.value_is, n, h.5.5) refl; after = after_look c z.lists (first a) (Seen g w ls s a) z.after };
        complete = subst (λ t. is_object (length z.lists.records) t ≡ true) h.5.5
            (complete_stays h.3 (length z.lists.records) h.5.1.ty (omega (arith, l)) (w.fields_complete h.3 h.4 rec h.5.1 h.5.2 h.5.3));
      }) t

  -- ---- assignments

  pub assign_complete : (a b : Trees.Expression) (op : AssignOp) (at : ℕ) → Is a → Is b → Is (Trees.assign a op at b)
  unfolding find
  assign_complete a b op at i j s c th f e (inl h) t = by_thing s c (Trees.assign a op at b) th _ h.4
      (λ t.
      let m = object a i s c h.1 f (left_seen g s.is_inside s.purpose c (walk g.untagged a) (walk g.untagged b) e) h.5 t.0 in
      let n = operand g w ls b j s m.done.lists h.2 (blocks_stay g (length c.records) (length m.done.lists.records) s.blocks (grown m.done.after) f)
      (right_seen g s.is_inside s.purpose c m.done.lists (walk g.untagged a) (walk g.untagged b) e m.done.after) h.6 t.1 in
      let u : is_scalar (type_of_path h.1) ≡ true = subst (λ t. is_scalar t ≡ true) (t.3 ∙ path_type_same h.1) t.2 in
      let v = CompleteNodes.scalar_target_back (declared (whole g ls s)) (place_in (whole g ls s) (first a)) (first a) h.1 u in
      let o = CompleteNodes.assign_back (declared (whole g ls s)) (place_in (whole g ls s) (first a)) at h.0 h.1 h.2 n.left t in
      record {
        done = record {
          lists = n.lists;
          is = rw (m.done.is, v, h.3, n.value_is, o) refl;
          after = then_seen g s.is_inside s.purpose c m.done.lists n.lists (walk g.untagged a) (walk g.untagged b) m.done.after n.after;
        };
        complete = tt;
      }) t
  assign_complete a b op at i j s c th f e (inr (inl h)) t = by_thing s c (Trees.assign a op at b) th _ h.4
      (λ t.
      let m = object a i s c h.1 f (left_seen g s.is_inside s.purpose c (walk g.untagged a) (walk g.untagged b) e) h.5 t.0 in
      let n = object b j s m.done.lists h.2 (blocks_stay g (length c.records) (length m.done.lists.records) s.blocks (grown m.done.after) f)
      (right_seen g s.is_inside s.purpose c m.done.lists (walk g.untagged a) (walk g.untagged b) e m.done.after) h.6 t.1 in
      let v = CompleteNodes.record_target_back (declared (whole g ls s)) (place_in (whole g ls s) (first a)) (first a) h.1 t.4.0 (sym (path_type_same h.1)
      ∙ t.4.1) in
      let o = CompleteNodes.copy_back (declared (whole g ls s)) (place_in (whole g ls s) (first a)) at (first b) h.0 h.1 h.2 t in
      record {
        done = record {
          lists = n.done.lists;
          is = rw (m.done.is, v, h.3, n.done.is, o) refl;
          after = then_seen g s.is_inside s.purpose c m.done.lists n.done.lists (walk g.untagged a) (walk g.untagged b) m.done.after n.done.after;
        };
        complete = tt;
      }) t
  assign_complete a b op at i j s c th f e (inr (inr h)) t = by_thing s c (Trees.assign a op at b) th _ h.5
      (λ t.
      let m = object a i s c h.1 f (left_seen g s.is_inside s.purpose c (walk g.untagged a) (walk g.untagged b) e) h.6 t.0 in
      let n = operand g w ls b j s m.done.lists h.2 (blocks_stay g (length c.records) (length m.done.lists.records) s.blocks (grown m.done.after) f)
      (right_seen g s.is_inside s.purpose c m.done.lists (walk g.untagged a) (walk g.untagged b) e m.done.after) h.7 t.1 in
      let u : is_scalar (type_of_path h.1) ≡ true = updated_scalar (ended g.ends (first a)) h.3 (type_of_path h.1) (bare_ty (typed h.2)) (ty (typed h.2))
      (subst (λ u. updating (ended g.ends (first a)) h.3 u (bare_ty (typed h.2)) ≡ Some (ty (typed h.2))) (t.2 ∙ path_type_same h.1) t.3) in
      let v = CompleteNodes.scalar_target_back (declared (whole g ls s)) (place_in (whole g ls s) (first a)) (first a) h.1 u in
      let o = CompleteNodes.update_back (declared (whole g ls s)) (place_in (whole g ls s) (first a)) at h.3 h.0 h.1 h.2 n.left t in
      record {
        done = record {
          lists = n.lists;
          is = rw (m.done.is, v, h.4, n.value_is, o) refl;
          after = then_seen g s.is_inside s.purpose c m.done.lists n.lists (walk g.untagged a) (walk g.untagged b) m.done.after n.after;
        };
        complete = tt;
      }) t
