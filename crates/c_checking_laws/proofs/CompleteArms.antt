-- The items of a `switch` and its arms are those that are found, where its statements are (C99 6.8.4.2).
use Rattle.std.proofs.Common.{◌≡◌, ℕ, zero, suc, ◌+◌, ◌≤◌, Bool, true, List, [], ◌∷◌, ◌++◌, length, length-append, append_assoc, append-nil, refl}
use Rattle.std.proofs.Common.{sym, ap, ◌∙◌, subst, arith}
use Rattle.std.specs.Prelude.{◌==◌, Some, Ok}
use Rattle.c_types.specs.declared.ty.IntKind.{IntKind}
use Rattle.c_types.specs.Types.{CType, integer}
use Rattle.c_ast.specs.Trees
use Rattle.c_typed.specs.Trees as Typed
use Rattle.c_typed.specs.Mapped.{of_types, mapped_arms}
use Rattle.c_typed.specs.Constants.{ty}
use Rattle.c_typed.specs.Rules.{promoting}
use Rattle.c_typed.specs.Typed.{bare_ty}
use Rattle.c_typed.specs.TypedStatements.{AreDifferent, declared_by_arms, all_declared, all_declared_by, all_declared_by_arms, all_cases, defaults}
use Rattle.c_typed.specs.TypedStatements.{one_if, AreTypedArms}
use Rattle.c_ast.specs.Places.{first}
use Rattle.c_erasure.specs.BrokenStatements.{Labels, no_labels}
use Rattle.c_erasure.specs.Erasure.{typed, place_in}
use Rattle.c_erasure.specs.Noted.{Expression, type_of, unconverted}
use Rattle.c_erasure.specs.Scopes.{ALocal, Bound, FileScope, Scope, in_full, declared, inside}
use Rattle.c_erasure.specs.Statements.{Statement, Statements, Arms, with_first, followed_by, IsArranged, ErasesSwitchItem, EraseSwitchItems}
use Rattle.c_erasure.specs.Checking.Answers.{◌>>=◌}
use Rattle.c_erasure.specs.Checking.Statements.{Performed, Found, in_scope, labels_in, arranged, performed, switch_item, switch_items, value_of_expression}
use Rattle.c_erasure.specs.Checking.Statements.{switch_value, switched_in, leaving}
use Rattle.c_checking_laws.proofs.Results.{ok}
use Rattle.c_checking_laws.proofs.CompleteNodes
use Rattle.c_checking_laws.proofs.CompleteWalk.{Event, walk}
use Rattle.c_checking_laws.proofs.CompletePart.{Lists, IsWhole, IsBefore, none_after, left_seen, right_seen, then_seen}
use Rattle.c_checking_laws.proofs.CompleteFit.{IsFit, fit_after, fit_inside}
use Rattle.c_checking_laws.proofs.CompleteStatements.{inner, outer, Seen, Performs, AreNumbered, numbered_left, numbered_right, walk_of_labels}
use Rattle.c_checking_laws.proofs.CompleteStatements.{walk_of_statement}
use Rattle.c_checking_laws.proofs.CompleteStatements.{walk_of_switch_item, walk_of_switch_items, found_plain, by_statement}
use Rattle.c_checking_laws.proofs.CompleteBlocks.{AreTypedHere, typed_followed, declared_followed, CompletesDeclaration, Is}
use Rattle.c_checking_laws.proofs.CompleteSwitches.{AreFresh, onto, fresh_left, fresh_right, fresh_of_different, found_labels, labels_complete}

one_if_is : (n : ℕ) → n ≤ 1 → one_if (n == 1) ≡ n
one_if_is zero h = refl
one_if_is (suc zero) h = refl
one_if_is (suc (suc n)) h = absurd (omega (arith, h))

module _ (g : FileScope) (w : IsWhole g) (ls : List ALocal) (result : CType) (own : Trees.Declaration → List Event) where
  abbrev pub ArmsAreTyped : List (List Bound) → Bool → Arms → Type 0
  ArmsAreTyped b loop arms = AreTypedArms (declared (outer g w ls b)) result loop (mapped_arms (of_types (λ t. t.ty)) arms)

  -- what the labels of an item make of its statements and of the arms behind it
  record Parts (b : List (List Bound)) (loop : Bool) (cases : List ℕ) (n : ℕ) (here : Statements) (later : Arms) (all : Statements) (arms : Arms) : Type 0 where
    pub is : arranged cases n here later ≡ (all, arms)
    pub values : all_cases arms ≡ cases ++ all_cases later
    pub declare : all_declared_by all ++ all_declared_by_arms arms ≡ all_declared_by here ++ all_declared_by_arms later
    pub count : defaults arms ≡ n + defaults later
    pub typed : AreTypedHere g w ls result own b loop true all → ArmsAreTyped b loop arms
        → AreTypedHere g w ls result own b loop true here × ArmsAreTyped b loop later

  parts : (b : List (List Bound)) (loop : Bool) (cases : List ℕ) (n : ℕ) (here : Statements) (later : Arms) (all : Statements) (arms : Arms)
      → IsArranged cases n here later all arms → Parts b loop cases n here later all arms
  parts b loop [] zero here later all arms h = subst (λ arms. Parts b loop [] zero here later all arms) (sym h.1)
      (subst (λ all. Parts b loop [] zero here later all later) (sym h.0)
      (record { is = refl; values = refl; declare = refl; count = omega arith; typed = λ x y. (x, y) }))
  parts b loop [] (suc n) here later all arms h = subst (λ arms. Parts b loop [] (suc n) here later all arms) (sym h.2)
      (subst (λ all. Parts b loop [] (suc n) here later all (Typed.and_arm [] (suc n == 1) here later)) (sym h.0)
      (let o = one_if_is (suc n) h.1 in record { is = refl; values = refl; declare = refl; count = omega (arith, o); typed = λ x y. (y.0, y.1) }))
  parts b loop (v ∷ cases) n here later all arms h = subst (λ arms. Parts b loop (v ∷ cases) n here later all arms) (sym h.2)
      (subst (λ all. Parts b loop (v ∷ cases) n here later all (Typed.and_arm (v ∷ cases) (n == 1) here later)) (sym h.0)
      (let o = one_if_is n h.1 in record { is = refl; values = refl; declare = refl; count = omega (arith, o); typed = λ x y. (y.0, y.1) }))

  -- ---- an item

  pub record FoundSwitchItem (b : List (List Bound)) (l : List ALocal) (c : Lists) (all : List Event) (r : Performed (Statements × Found))
      (found : Statements) (labels : Found)
      (after : Scope) : Type 0 where
    pub blocks : List (List Bound)
    pub is_after : after ≡ outer g w ls blocks
    pub performs : Performs g w ls c l all (all_declared_by found) r (found, labels) blocks
    pub fit : IsFit g performs.lists blocks

  abbrev pub CompletesSwitchItem : Trees.SwitchItem → Type 0
  CompletesSwitchItem item = (b : List (List Bound)) (l : List ALocal) (c : Lists) (kind : IntKind) (cases : List ℕ) (n : ℕ) (found : Statements)
      (after : Scope)
      (before : Labels) (loop : Bool) → IsFit g c b → IsBefore g c (Seen g w ls (walk_of_switch_item g.untagged own item))
      → (more : List ALocal) × (ls ≡ l ++ more) → ErasesSwitchItem item (outer g w ls b) kind cases n found after
      → AreTypedHere g w ls result own b loop true found
      → AreNumbered (length l) (all_declared_by found) → AreFresh before.cases cases → before.defaults + n ≤ 1
      → FoundSwitchItem b l c (walk_of_switch_item g.untagged own item) (switch_item result item (inner g w ls b l c) loop kind before) found
      (found_labels g w ls cases n before) after

  no_labels_found : (cases : List ℕ) (n : ℕ) (before : Labels) → cases ≡ [] → n ≡ 0
      → record { cases = []; defaults = 0; all = before } ≡ found_labels g w ls cases n before
  no_labels_found cases n before p q =
      let z : before.defaults ≡ before.defaults + n = omega (arith, q) in
      ap (λ m. found [] 0 [] m) z ∙ ap (λ cases. found cases 0 cases (before.defaults + n)) (sym p)
      ∙ ap (λ k. found cases k cases (before.defaults + n)) (sym q)
    where
      found : List ℕ → ℕ → List ℕ → ℕ → Found
      found own k all m = record { cases = own; defaults = k; all = record { cases = onto all before.cases; defaults = m } }

  pub local_item_complete : (d : Trees.Declaration) → CompletesDeclaration g w ls result own d → CompletesSwitchItem (Trees.local_switch_item d)
  unfolding switch_item
  local_item_complete d i b l c kind cases n found after before loop f e p h k m u q =
      let z = i b l c found after loop true f e p h.2 k m in
      let r = z.performs in
      record {
        blocks = z.blocks;
        is_after = z.is_after;
        performs = record {
          lists = r.lists;
          locals = r.locals;
          is = ap (λ r. r >>= λ x. ok {A = (Statements × Found) × Scope} ((x.0, record { cases = []; defaults = 0; all = before }), x.1)) r.is
              ∙ ap (λ labels. ok {A = (Statements × Found) × Scope} ((found, labels), inner g w ls z.blocks r.locals r.lists))
              (no_labels_found cases n before h.0 h.1);
          after = r.after;
          count = r.count;
          rest = r.rest;
        };
        fit = z.fit;
      }

  labelled_joined : (labels : List Trees.Label) (a : Trees.Statement) (s t v : Scope) (kind : IntKind) (before : Labels) (loop : Bool) (x : Found)
      (st : Statement)
      → in_scope s (labels_in labels s kind before) ≡ Ok (x, t) → performed result a t loop true ≡ Ok (st, v)
      → switch_item result (Trees.labelled labels a) s loop kind before ≡ Ok ((Typed.and_statement st Typed.no_statements, x), v)
  unfolding switch_item
  labelled_joined labels a s t v kind before loop x st p q = rw (p, q) refl

  pub labelled_complete : (labels : List Trees.Label) (a : Trees.Statement) → Is g w ls result own a → CompletesSwitchItem (Trees.labelled labels a)
  labelled_complete labels a i b l c kind cases n found after before loop f e p h k m u q =
      let y = h.1 in
      let k = subst (AreTypedHere g w ls result own b loop true) y.1 k in
      let m = subst (λ found. AreNumbered (length l) (all_declared_by found)) y.1 m in
      let z = labels_complete g w ls own labels b l c kind cases n before f.complete
      (left_seen g true in_full c (walk_of_labels g.untagged own labels) (walk_of_statement g.untagged own a) e) h.0 u q in
      let r = i b l z.lists y.0 loop true (fit_after g c z.lists b (walk_of_labels g.untagged own labels) z.after f)
      (right_seen g true in_full c z.lists (walk_of_labels g.untagged own labels) (walk_of_statement g.untagged own a) e z.after) p y.2 k.0
      (numbered_left (length l) (all_declared y.0) [] m) in
      let x = then_seen g true in_full c z.lists r.lists (walk_of_labels g.untagged own labels) (walk_of_statement g.untagged own a) z.after r.after in
      record {
        blocks = b;
        is_after = h.2;
        performs = record {
          lists = r.lists;
          locals = r.locals;
          is = labelled_joined labels a (inner g w ls b l c) (inner g w ls b l z.lists) (inner g w ls b r.locals r.lists) kind before loop
              (found_labels g w ls cases n before) y.0 (ap (in_scope (inner g w ls b l c)) z.is) r.is
              ∙ ap (λ found. ok {A = (Statements × Found) × Scope} ((found, found_labels g w ls cases n before), inner g w ls b r.locals r.lists)) (sym y.1);
          after = x;
          count = r.count ∙ ap (λ all. length l + length all) (sym (append-nil (all_declared y.0)) ∙ sym (ap all_declared_by y.1));
          rest = r.rest;
        };
        fit = fit_after g c r.lists b (walk_of_labels g.untagged own labels ++ walk_of_statement g.untagged own a) x f;
      }

  -- ---- items, one after the other

  pub record FoundSwitchItems (l : List ALocal) (c : Lists) (walked : List Event) (r : Performed (Statements × Arms)) (all : Statements) (arms : Arms) : Type
      0 where
    pub blocks : List (List Bound)
    pub performs : Performs g w ls c l walked (all_declared_by all ++ all_declared_by_arms arms) r (all, arms) blocks

  abbrev pub CompletesSwitchItems : Trees.SwitchItems → Type 0
  CompletesSwitchItems items = (b : List (List Bound)) (l : List ALocal) (c : Lists) (kind : IntKind) (all : Statements) (arms : Arms) (before : Labels)
      (loop : Bool)
      → IsFit g c b → IsBefore g c (Seen g w ls (walk_of_switch_items g.untagged own items)) → (more : List ALocal) × (ls ≡ l ++ more)
      → EraseSwitchItems items (outer g w ls b) kind all arms → AreTypedHere g w ls result own b loop true all → ArmsAreTyped b loop arms
      → AreNumbered (length l) (all_declared_by all ++ all_declared_by_arms arms) → AreFresh before.cases (all_cases arms) → before.defaults + defaults arms ≤ 1
      → FoundSwitchItems l c (walk_of_switch_items g.untagged own items) (switch_items result items (inner g w ls b l c) loop kind before) all arms

  pub no_switch_items_complete : CompletesSwitchItems Trees.no_switch_items
  unfolding switch_items
  no_switch_items_complete b l c kind all arms before loop f e p h k m n u q = record {
    blocks = b;
    performs = record {
      lists = c;
      locals = l;
      is = ap (λ all. ok {A = (Statements × Arms) × Scope} ((all, Typed.no_arms), inner g w ls b l c)) (sym h.0)
          ∙ ap (λ arms. ok {A = (Statements × Arms) × Scope} ((all, arms), inner g w ls b l c)) (sym h.1);
      after = none_after g c [] e refl refl refl;
      count = let z : all_declared_by all ++ all_declared_by_arms arms ≡ [] = ap (λ all. all_declared_by all ++ all_declared_by_arms arms) h.0
          ∙ ap all_declared_by_arms h.1 in
          let m = ap length z in omega (arith, m);
      rest = p;
    };
  }

  items_joined : (item : Trees.SwitchItem) (more : Trees.SwitchItems) (s t v : Scope) (kind : IntKind) (before : Labels) (loop : Bool)
      (here rest : Statements) (x : Found)
      (later : Arms) → switch_item result item s loop kind before ≡ Ok ((here, x), t) → switch_items result more t loop kind x.all ≡ Ok ((rest, later), v)
      → switch_items result (Trees.and_switch_item item more) s loop kind before ≡ Ok (arranged x.cases x.defaults (followed_by here rest) later, v)
  unfolding switch_items
  items_joined item more s t v kind before loop here rest x later p q = rw (p, q) refl

  pub switch_items_complete : (item : Trees.SwitchItem) (more : Trees.SwitchItems) → CompletesSwitchItem item → CompletesSwitchItems more
      → CompletesSwitchItems (Trees.and_switch_item item more)
  switch_items_complete item more i j b l c kind all arms before loop f e p h k m n u q =
      let a = parts b loop h.0 h.1 (followed_by h.2 h.3) h.4 all arms h.8 in
      let t = a.typed k m in
      let both = typed_followed g w ls result own b loop true h.2 h.3 t.0 in
      let d : all_declared_by all ++ all_declared_by_arms arms ≡ all_declared_by h.2 ++ (all_declared_by h.3 ++ all_declared_by_arms h.4) =
      a.declare ∙ ap (λ z. z ++ all_declared_by_arms h.4) (declared_followed h.2 h.3)
      ∙ append_assoc (all_declared_by h.2) (all_declared_by h.3) (all_declared_by_arms h.4) in
      let n = subst (AreNumbered (length l)) d n in
      let u = subst (AreFresh before.cases) a.values u in
      let own_count = a.count in
      let z = i b l c kind h.0 h.1 h.2 h.5 before loop f
      (left_seen g true in_full c (walk_of_switch_item g.untagged own item) (walk_of_switch_items g.untagged own more) e) p h.6 both.0
      (numbered_left (length l) (all_declared_by h.2) (all_declared_by h.3 ++ all_declared_by_arms h.4) n)
      (fresh_left before.cases h.0 (all_cases h.4) u) (omega (arith, q, own_count)) in
      let r = z.performs in
      let y = j z.blocks r.locals r.lists kind h.3 h.4 (record { cases = onto h.0 before.cases; defaults = before.defaults + h.1 }) loop z.fit
      (right_seen g true in_full c r.lists (walk_of_switch_item g.untagged own item) (walk_of_switch_items g.untagged own more) e r.after) r.rest
      (subst (λ s. EraseSwitchItems more s kind h.3 h.4) z.is_after h.7) both.1 t.1
      (numbered_right (length l) (length r.locals) (all_declared_by h.2) (all_declared_by h.3 ++ all_declared_by_arms h.4) r.count n)
      (fresh_right before.cases h.0 (all_cases h.4) u) (omega (arith, q, own_count)) in
      let v = y.performs in
      let long = ap length d in
      let sum = length-append (all_declared_by h.2) (all_declared_by h.3 ++ all_declared_by_arms h.4) in
      record {
        blocks = y.blocks;
        performs = record {
          lists = v.lists;
          locals = v.locals;
          is = items_joined item more (inner g w ls b l c) (inner g w ls z.blocks r.locals r.lists) (inner g w ls y.blocks v.locals v.lists) kind before loop
              h.2 h.3
              (found_labels g w ls h.0 h.1 before) h.4 r.is v.is
              ∙ ap (λ x. ok {A = (Statements × Arms) × Scope} (x, inner g w ls y.blocks v.locals v.lists)) a.is;
          after = then_seen g true in_full c r.lists v.lists (walk_of_switch_item g.untagged own item) (walk_of_switch_items g.untagged own more) r.after
              v.after;
          count = omega (arith, r.count, v.count, long, sum);
          rest = v.rest;
        };
      }

  -- ---- the statement

  first_cases : (all : Statements) (arms : Arms) → all_cases (with_first all arms) ≡ all_cases arms
  first_cases Typed.no_statements arms = refl
  first_cases (Typed.and_statement s all) arms = refl

  first_defaults : (all : Statements) (arms : Arms) → defaults (with_first all arms) ≡ defaults arms
  first_defaults Typed.no_statements arms = refl
  first_defaults (Typed.and_statement s all) arms = omega arith

  first_declared : (all : Statements) (arms : Arms) → all_declared_by_arms (with_first all arms) ≡ all_declared_by all ++ all_declared_by_arms arms
  first_declared Typed.no_statements arms = refl
  first_declared (Typed.and_statement s all) arms = refl

  first_typed : (b : List (List Bound)) (loop : Bool) (all : Statements) (arms : Arms) → ArmsAreTyped b loop (with_first all arms)
      → AreTypedHere g w ls result own b loop true all × ArmsAreTyped b loop arms
  first_typed b loop Typed.no_statements arms h = (tt, h)
  first_typed b loop (Typed.and_statement s all) arms h = (h.0, h.1)

  cases_same : (arms : Arms) → all_cases (mapped_arms (of_types (λ t. t.ty)) arms) ≡ all_cases arms
  cases_same Typed.no_arms = refl
  cases_same (Typed.and_arm cases is_default all more) = ap (λ z. cases ++ z) (cases_same more)

  defaults_same : (arms : Arms) → defaults (mapped_arms (of_types (λ t. t.ty)) arms) ≡ defaults arms
  defaults_same Typed.no_arms = refl
  defaults_same (Typed.and_arm cases is_default all more) = ap (λ z. one_if is_default + z) (defaults_same more)

  switched_back : (at : ℕ) (b : List (List Bound)) (x : Expression) (kind : IntKind)
      → CompleteNodes.Left (declared (outer g w ls b)) (place_in (outer g w ls b) at) x
      → promoting (bare_ty (typed x)) ≡ Some (ty (typed x)) → type_of x ≡ integer kind → switched_in at (unconverted x) ≡ Ok (x, kind)
  unfolding switched_in
  switched_back at b x kind o p q =
      let m = CompleteNodes.promoting_back (type_of (unconverted x)) (ty (typed x)) (ap promoting (sym o.bare_type) ∙ p) in
      ap (switch_value at (unconverted x)) (m.is_promoted ∙ o.type_same ∙ q)
      ∙ ap (λ x. ok {A = Expression × IntKind} (x, kind))
      (CompleteNodes.back_to (declared (outer g w ls b)) (place_in (outer g w ls b) at) x o (integer kind) (o.type_same ∙ q))

  switch_joined : (at begin : ℕ) (a : Trees.Expression) (end left : ℕ) (items : Trees.SwitchItems) (right : ℕ) (s t v : Scope) (loop switch : Bool)
      (y x : Expression)
      (kind : IntKind) (all : Statements) (arms : Arms) → value_of_expression a s ≡ Ok (y, t) → switched_in (first a) y ≡ Ok (x, kind)
      → switch_items result items (inside t) loop kind no_labels ≡ Ok ((all, arms), v)
      → performed result (Trees.switch at begin a end left items right) s loop switch
      ≡ Ok (Typed.switch x (declared_by_arms (with_first all arms)) (with_first all arms), leaving s v)
  unfolding performed
  switch_joined at begin a end left items right s t v loop switch y x kind all arms p q r = rw (p, q, r) refl

  pub switch_complete : (at begin : ℕ) (a : Trees.Expression) (end left : ℕ) (items : Trees.SwitchItems) (right : ℕ) → CompletesSwitchItems items
      → Is g w ls result own (Trees.switch at begin a end left items right)
  switch_complete at begin a end left items right i b l c t loop switch f e p h k n =
      by_statement g w ls result own (Trees.switch at begin a end left items right) b l c loop switch t _ h.4
      (λ k n.
      let z = found_plain g w ls a b l c h.0 f (left_seen g true in_full c (walk g.untagged a) (walk_of_switch_items g.untagged own items) e) h.5 k.0 in
      let s = switched_back (first a) b h.0 h.1 z.left k.1 h.6 in
      let t = first_typed b loop h.2 h.3 k.6 in
      let d = first_declared h.2 h.3 in
      let different = subst AreDifferent (cases_same (with_first h.2 h.3) ∙ first_cases h.2 h.3) k.4 in
      let one = k.5 in
      let d1 = defaults_same (with_first h.2 h.3) in
      let d2 = first_defaults h.2 h.3 in
      let y = i ([] ∷ b) l z.lists h.1 h.2 h.3 no_labels loop (fit_inside g z.lists b (fit_after g c z.lists b (walk g.untagged a) z.after f))
      (right_seen g true in_full c z.lists (walk g.untagged a) (walk_of_switch_items g.untagged own items) e z.after) p h.7 t.0 t.1
      (subst (AreNumbered (length l)) d n) (fresh_of_different (all_cases h.3) different) (omega (arith, one, d1, d2)) in
      let v = y.performs in
      let long = ap length d in
      record {
        lists = v.lists;
        locals = v.locals;
        is = switch_joined at begin a end left items right (inner g w ls b l c) (inner g w ls b l z.lists) (inner g w ls y.blocks v.locals v.lists) loop switch
            (unconverted h.0) h.0 h.1 h.2 h.3 z.is s v.is;
        after = then_seen g true in_full c z.lists v.lists (walk g.untagged a) (walk_of_switch_items g.untagged own items) z.after v.after;
        count = omega (arith, v.count, long);
        rest = v.rest;
      }) k n
