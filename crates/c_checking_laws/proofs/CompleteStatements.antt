-- Statements without declarations and labels: the typed statement is the one that is found, where those of its parts are (C99 6.8).
use Rattle.std.proofs.Common.{◌≡◌, ℕ, suc, ◌+◌, Bool, true, false, List, [], ◌∷◌, ◌++◌, length, length-append, refl, sym, ap, ◌∙◌}
use Rattle.std.proofs.Common.{subst, cond, arith}
use Rattle.std.specs.Prelude.{Option, Some, None, Ok}
use Rattle.lay_base.specs.declared.faults.Rule.TheVariants as R
use Rattle.c_types.specs.Types.{CType}
use Rattle.c_ast.specs.Trees
use Rattle.c_ast.specs.Places.{first}
use Rattle.c_typed.specs.Trees as Typed
use Rattle.c_typed.specs.Mapped.{of_types, mapped_statement}
use Rattle.c_typed.specs.Conversions.{is_scalar}
use Rattle.c_typed.specs.Typed.{IsTyped, IsTested}
use Rattle.c_typed.specs.TypedStatements.{all_declared, IsTypedStatement}
use Rattle.c_erasure.specs.Erasure.{typed, Values, Erases}
use Rattle.c_erasure.specs.Noted.{Expression, type_of, unconverted}
use Rattle.c_erasure.specs.Scopes.{ALocal, Bound, FileScope, Scope, in_full, value_alone, declared}
use Rattle.c_erasure.specs.Statements.{Statement, IsPlain, ErasesStatement}
use Rattle.c_erasure.specs.Checking.Answers.{◌>>=◌, refused}
use Rattle.c_erasure.specs.Checking.Statements.{Performed, in_scope, value_of_expression, condition_in, in_same_scope, condition, jump}
use Rattle.c_erasure.specs.Checking.Statements.{returned_nothing}
use Rattle.c_erasure.specs.Checking.Statements.{performed}
use Rattle.c_checking_laws.proofs.Results.{ok}
use Rattle.c_checking_laws.proofs.Values.{type_same}
use Rattle.c_checking_laws.proofs.CompleteValues.{IsLeftOf}
use Rattle.c_checking_laws.proofs.CompleteWalk.{Event, seen, walk}
use Rattle.c_checking_laws.proofs.CompletePart.{Lists, part, IsWhole, IsBefore, IsAfter, none_after}
use Rattle.c_checking_laws.proofs.CompletePart.{left_seen, right_seen, then_seen}
use Rattle.c_checking_laws.proofs.CompleteFit.{IsFit, fit_after}
use Rattle.c_checking_laws.proofs.CompleteOperands.{operand}
use Rattle.c_checking_laws.proofs.CompleteTrees.{complete}

-- ---- what stands in statements; `own` says it of declarations

module _ (u : ℕ → List ℕ) (own : Trees.Declaration → List Event) where
  abbrev pub walk_of_option : Option Trees.Expression → List Event
  walk_of_option None = []
  walk_of_option (Some a) = walk u a

  abbrev pub walk_of_start : Trees.ForStart → List Event
  walk_of_start (Trees.starts_with a semicolon) = walk_of_option a
  walk_of_start (Trees.declares d) = own d

  abbrev pub walk_of_labels : List Trees.Label → List Event
  walk_of_labels [] = []
  walk_of_labels (Trees.case at a colon ∷ more) = seen false value_alone (walk u a) ++ walk_of_labels more
  walk_of_labels (Trees.default at colon ∷ more) = walk_of_labels more

  abbrev mutual
    pub walk_of_statement : Trees.Statement → List Event
    walk_of_statement (Trees.block left items right) = walk_of_items items
    walk_of_statement (Trees.evaluate a semicolon) = walk_of_option a
    walk_of_statement (Trees.when at left a right one) = walk u a ++ walk_of_statement one
    walk_of_statement (Trees.choose at left a right one else other) = walk u a ++ walk_of_statement one ++ walk_of_statement other
    walk_of_statement (Trees.while at left a right body) = walk u a ++ walk_of_statement body
    walk_of_statement (Trees.do_while at body while left a right semicolon) = walk_of_statement body ++ walk u a
    walk_of_statement (Trees.for at left start test semicolon step right body) =
        walk_of_start start ++ walk_of_option test ++ walk_of_option step ++ walk_of_statement body
    walk_of_statement (Trees.switch at left a right begin items end) = walk u a ++ walk_of_switch_items items
    walk_of_statement (Trees.break at semicolon) = []
    walk_of_statement (Trees.continue at semicolon) = []
    walk_of_statement (Trees.return at a semicolon) = walk_of_option a

    pub walk_of_item : Trees.BlockItem → List Event
    walk_of_item (Trees.local d) = own d
    walk_of_item (Trees.statement a) = walk_of_statement a

    pub walk_of_items : Trees.BlockItems → List Event
    walk_of_items Trees.no_block_items = []
    walk_of_items (Trees.and_block_item e more) = walk_of_item e ++ walk_of_items more

    pub walk_of_switch_item : Trees.SwitchItem → List Event
    walk_of_switch_item (Trees.local_switch_item d) = own d
    walk_of_switch_item (Trees.labelled labels a) = walk_of_labels labels ++ walk_of_statement a

    pub walk_of_switch_items : Trees.SwitchItems → List Event
    walk_of_switch_items Trees.no_switch_items = []
    walk_of_switch_items (Trees.and_switch_item e more) = walk_of_switch_item e ++ walk_of_switch_items more

-- ---- numbers of locals, one after the other

abbrev pub AreNumbered : ℕ → List ℕ → Type 0
AreNumbered n [] = Unit {0}
AreNumbered n (m ∷ all) = (m ≡ n) × AreNumbered (suc n) all

pub numbered_left : (n : ℕ) (a b : List ℕ) → AreNumbered n (a ++ b) → AreNumbered n a
numbered_left n [] b h = tt
numbered_left n (m ∷ a) b h = (h.0, numbered_left (suc n) a b h.1)

pub numbered_right : (n k : ℕ) (a b : List ℕ) → k ≡ n + length a → AreNumbered n (a ++ b) → AreNumbered k b
numbered_right n k [] b e h = let q : n ≡ k = omega (arith, e) in subst (λ n. AreNumbered n b) q h
numbered_right n k (m ∷ a) b e h = numbered_right (suc n) k a b (omega (arith, e)) h.1

module _ (g : FileScope) (w : IsWhole g) (ls : List ALocal) where
  -- in the body of a function: as found, and as the definitions have it
  abbrev pub inner : List (List Bound) → List ALocal → Lists → Scope
  inner b l c = record { file = part g c; blocks = b; is_inside = true; purpose = in_full; locals = l }

  abbrev pub outer : List (List Bound) → Scope
  outer b = record { file = g; blocks = b; is_inside = true; purpose = in_full; locals = ls }

  abbrev pub Seen : List Event → List Event
  Seen all = seen true in_full all

  -- what is found, with the blocks, the locals and the file after it
  pub record Performs {A : Type 0} (c : Lists) (l : List ALocal) (all : List Event) (own : List ℕ) (r : Performed A) (a : A) (b : List (List Bound)) : Type 0
    where
      pub lists : Lists
      pub locals : List ALocal
      pub is : r ≡ Ok (a, inner b locals lists)
      pub after : IsAfter g c (Seen all) lists
      pub count : length locals ≡ length l + length own
      pub rest : (more : List ALocal) × (ls ≡ locals ++ more)

  -- ---- expressions

  pub record FoundPlain (b : List (List Bound)) (l : List ALocal) (c : Lists) (a : Trees.Expression) (x : Expression) : Type 0 where
    pub lists : Lists
    pub is : value_of_expression a (inner b l c) ≡ Ok (unconverted x, inner b l lists)
    pub after : IsAfter g c (Seen (walk g.untagged a)) lists
    pub left : IsLeftOf (declared (outer b)) x (unconverted x)

  pub found_plain : (a : Trees.Expression) (b : List (List Bound)) (l : List ALocal) (c : Lists) (x : Expression) → IsFit g c b
      → IsBefore g c (Seen (walk g.untagged a)) → Values (Erases a (outer b)) x → IsTyped (declared (outer b)) (typed x) → FoundPlain b l c a x
  found_plain a b l c x f e v t =
      let z = operand g w ls a (complete g w ls a) (inner b l c) c x f.complete e v t in
      record { lists = z.lists; is = ap (in_scope (inner b l c)) z.value_is; after = z.after; left = z.left }

  pub record FoundCondition (b : List (List Bound)) (l : List ALocal) (c : Lists) (a : Trees.Expression) (x : Expression) : Type 0 where
    pub lists : Lists
    pub is : condition a (inner b l c) ≡ Ok (x, inner b l lists)
    pub after : IsAfter g c (Seen (walk g.untagged a)) lists

  pub found_condition : (a : Trees.Expression) (b : List (List Bound)) (l : List ALocal) (c : Lists) (x : Expression) → IsFit g c b
      → IsBefore g c (Seen (walk g.untagged a)) → IsPlain a (outer b) x → IsTyped (declared (outer b)) (typed x) → IsTested (typed x) → FoundCondition b l c a x
  unfolding condition_in
  found_condition a b l c x f e p t k =
      let z = found_plain a b l c x f e p.0 t in
      let n : value_of_expression a (inner b l c) ≡ Ok (x, inner b l z.lists) = z.is ∙ ap (λ x. ok (x, inner b l z.lists)) p.1 in
      let i : is_scalar (type_of x) ≡ true = ap is_scalar (sym (type_same x)) ∙ k.1 in
      record {
        lists = z.lists;
        is = ap (λ r. r >>= λ x. in_same_scope x.1 (condition_in (first a) x.0)) n
            ∙ ap (λ t. in_same_scope (inner b l z.lists) (cond t (ok x) (refused R.Condition (first a)))) i;
        after = z.after;
      }

  module _ (result : CType) (own : Trees.Declaration → List Event) where
    abbrev pub walk_in : Trees.Statement → List Event
    walk_in st = walk_of_statement g.untagged own st

    abbrev pub IsTypedHere : List (List Bound) → (loop switch : Bool) → Statement → Type 0
    IsTypedHere b loop switch t = IsTypedStatement (declared (outer b)) result loop switch (mapped_statement (of_types (λ t. t.ty)) t)

    abbrev pub CompletesStatement : Trees.Statement → Type 0
    CompletesStatement st = (b : List (List Bound)) (l : List ALocal) (c : Lists) (t : Statement) (loop switch : Bool) → IsFit g c b
        → IsBefore g c (Seen (walk_in st)) → (more : List ALocal) × (ls ≡ l ++ more) → ErasesStatement st (outer b) t → IsTypedHere b loop switch t
        → AreNumbered (length l) (all_declared t) → Performs c l (walk_in st) (all_declared t) (performed result st (inner b l c) loop switch) t b

    abbrev pub Back : Trees.Statement → List (List Bound) → List ALocal → Lists → Bool → Bool → Statement → Type 0
    Back st b l c loop switch t = IsTypedHere b loop switch t → AreNumbered (length l) (all_declared t)
        → Performs c l (walk_in st) (all_declared t) (performed result st (inner b l c) loop switch) t b

    pub by_statement : (st : Trees.Statement) (b : List (List Bound)) (l : List ALocal) (c : Lists) (loop switch : Bool) (t made : Statement) → t ≡ made
        → Back st b l c loop switch made → Back st b l c loop switch t
    by_statement st b l c loop switch t made e h = subst (Back st b l c loop switch) (sym e) h

    pub empty_complete : (semicolon : ℕ) → CompletesStatement (Trees.evaluate None semicolon)
    unfolding performed
    empty_complete semicolon b l c t loop switch f e p h k n = by_statement (Trees.evaluate None semicolon) b l c loop switch t _ h
        (λ k n. record { lists = c; locals = l; is = refl; after = none_after g c [] e refl refl refl; count = omega arith; rest = p }) k n

    pub evaluate_complete : (a : Trees.Expression) (semicolon : ℕ) → CompletesStatement (Trees.evaluate (Some a) semicolon)
    unfolding performed
    evaluate_complete a semicolon b l c t loop switch f e p h k n = by_statement (Trees.evaluate (Some a) semicolon) b l c loop switch t _ h.1
        (λ k n.
        let z = found_plain a b l c h.0 f e h.2.0 k.0 in
        record {
          lists = z.lists;
          locals = l;
          is = ap (λ r. r >>= λ x. ok (Typed.evaluate x.0, x.1)) z.is ∙ ap (λ x. ok (Typed.evaluate x, inner b l z.lists)) h.2.1;
          after = z.after;
          count = omega arith;
          rest = p;
        }) k n

    pub when_complete : (at begin : ℕ) (a : Trees.Expression) (end : ℕ) (one : Trees.Statement) → CompletesStatement one
        → CompletesStatement (Trees.when at begin a end one)
    unfolding performed
    when_complete at begin a end one i b l c t loop switch f e p h k n = by_statement (Trees.when at begin a end one) b l c loop switch t _ h.2
        (λ k n.
        let z = found_condition a b l c h.0 f (left_seen g true in_full c (walk g.untagged a) (walk_in one) e) h.3 k.0 k.1 in
        let m = i b l z.lists h.1 loop switch (fit_after g c z.lists b (walk g.untagged a) z.after f)
        (right_seen g true in_full c z.lists (walk g.untagged a) (walk_in one) e z.after) p h.4 k.2 n in
        record {
          lists = m.lists;
          locals = m.locals;
          is = rw (z.is, m.is) refl;
          after = then_seen g true in_full c z.lists m.lists (walk g.untagged a) (walk_in one) z.after m.after;
          count = m.count;
          rest = m.rest;
        }) k n

    pub while_complete : (at begin : ℕ) (a : Trees.Expression) (end : ℕ) (body : Trees.Statement) → CompletesStatement body
        → CompletesStatement (Trees.while at begin a end body)
    unfolding performed
    while_complete at begin a end body i b l c t loop switch f e p h k n = by_statement (Trees.while at begin a end body) b l c loop switch t _ h.2
        (λ k n.
        let z = found_condition a b l c h.0 f (left_seen g true in_full c (walk g.untagged a) (walk_in body) e) h.3 k.0 k.1 in
        let m = i b l z.lists h.1 true switch (fit_after g c z.lists b (walk g.untagged a) z.after f)
        (right_seen g true in_full c z.lists (walk g.untagged a) (walk_in body) e z.after) p h.4 k.2 n in
        record {
          lists = m.lists;
          locals = m.locals;
          is = rw (z.is, m.is) refl;
          after = then_seen g true in_full c z.lists m.lists (walk g.untagged a) (walk_in body) z.after m.after;
          count = m.count;
          rest = m.rest;
        }) k n

    pub do_while_complete : (at : ℕ) (body : Trees.Statement) (word begin : ℕ) (a : Trees.Expression) (end semicolon : ℕ) → CompletesStatement body
        → CompletesStatement (Trees.do_while at body word begin a end semicolon)
    unfolding performed
    do_while_complete at body word begin a end semicolon i b l c t loop switch f e p h k n =
        by_statement (Trees.do_while at body word begin a end semicolon) b l c loop switch t _ h.2
        (λ k n.
        let m = i b l c h.0 true switch f (left_seen g true in_full c (walk_in body) (walk g.untagged a) e) p h.3 k.0 n in
        let z = found_condition a b m.locals m.lists h.1 (fit_after g c m.lists b (walk_in body) m.after f)
        (right_seen g true in_full c m.lists (walk_in body) (walk g.untagged a) e m.after) h.4 k.1 k.2 in
        record {
          lists = z.lists;
          locals = m.locals;
          is = rw (m.is, z.is) refl;
          after = then_seen g true in_full c m.lists z.lists (walk_in body) (walk g.untagged a) m.after z.after;
          count = m.count;
          rest = m.rest;
        }) k n

    pub choose_complete : (at begin : ℕ) (a : Trees.Expression) (end : ℕ) (one : Trees.Statement) (word : ℕ) (other : Trees.Statement) → CompletesStatement one
        → CompletesStatement other → CompletesStatement (Trees.choose at begin a end one word other)
    unfolding performed
    choose_complete at begin a end one word other i j b l c t loop switch f e p h k n =
        by_statement (Trees.choose at begin a end one word other) b l c loop switch t _ h.3
        (λ k n.
        let ab = left_seen g true in_full c (walk g.untagged a ++ walk_in one) (walk_in other) e in
        let z = found_condition a b l c h.0 f (left_seen g true in_full c (walk g.untagged a) (walk_in one) ab) h.4 k.0 k.1 in
        let m = i b l z.lists h.1 loop switch (fit_after g c z.lists b (walk g.untagged a) z.after f)
        (right_seen g true in_full c z.lists (walk g.untagged a) (walk_in one) ab z.after) p h.5 k.2
        (numbered_left (length l) (all_declared h.1) (all_declared h.2) n) in
        let x = then_seen g true in_full c z.lists m.lists (walk g.untagged a) (walk_in one) z.after m.after in
        let q = j b m.locals m.lists h.2 loop switch (fit_after g c m.lists b (walk g.untagged a ++ walk_in one) x f)
        (right_seen g true in_full c m.lists (walk g.untagged a ++ walk_in one) (walk_in other) e x) m.rest h.6 k.3
        (numbered_right (length l) (length m.locals) (all_declared h.1) (all_declared h.2) m.count n) in
        let d = length-append (all_declared h.1) (all_declared h.2) in
        record {
          lists = q.lists;
          locals = q.locals;
          is = rw (z.is, m.is, q.is) refl;
          after = then_seen g true in_full c m.lists q.lists (walk g.untagged a ++ walk_in one) (walk_in other) x q.after;
          count = omega (arith, m.count, q.count, d);
          rest = q.rest;
        }) k n

    -- ---- jumps

    pub break_complete : (at semicolon : ℕ) → CompletesStatement (Trees.break at semicolon)
    unfolding performed
    break_complete at semicolon b l c t loop switch f e p h k n = by_statement (Trees.break at semicolon) b l c loop switch t _ h
        (λ k n. record {
          lists = c;
          locals = l;
          is = ap (λ may. in_same_scope (inner b l c) (jump at may Typed.break)) k;
          after = none_after g c [] e refl refl refl;
          count = omega arith;
          rest = p;
        }) k n

    pub continue_complete : (at semicolon : ℕ) → CompletesStatement (Trees.continue at semicolon)
    unfolding performed
    continue_complete at semicolon b l c t loop switch f e p h k n = by_statement (Trees.continue at semicolon) b l c loop switch t _ h
        (λ k n. record {
          lists = c;
          locals = l;
          is = ap (λ may. in_same_scope (inner b l c) (jump at may Typed.continue)) k;
          after = none_after g c [] e refl refl refl;
          count = omega arith;
          rest = p;
        }) k n

    pub return_nothing_complete : (at semicolon : ℕ) → CompletesStatement (Trees.return at None semicolon)
    unfolding performed
    return_nothing_complete at semicolon b l c t loop switch f e p h k n = by_statement (Trees.return at None semicolon) b l c loop switch t _ h
        (λ k n. record {
          lists = c;
          locals = l;
          is = ap (λ t. in_same_scope (inner b l c) (returned_nothing at t)) k;
          after = none_after g c [] e refl refl refl;
          count = omega arith;
          rest = p;
        }) k n
