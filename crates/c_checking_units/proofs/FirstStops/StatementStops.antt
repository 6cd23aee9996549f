-- Where a statement stops, the rule that the fault names is broken, in the file as it stands there and with the locals up to there (C99 6.8).
use Rattle.std.proofs.Common.{◌≡◌, ℕ, ◌≤◌, Bool, true, refl, subst, List, [], ◌++◌, length, inl, inr, arith}
use Rattle.std.specs.Prelude.{◌⊎◌, ◌||◌, Some, None, Err}
use Rattle.c_types.specs.declared.ty.IntKind.{IntKind}
use Rattle.c_types.specs.Types.{CType}
use Rattle.c_ast.specs.Trees
use Rattle.c_ast.specs.Places.{first}
use Rattle.c_typed.specs.Trees as Typed
use Rattle.c_typed.specs.Conversions.{as_kind}
use Rattle.c_erasure.specs.Broken.{Fault, IsBroken, HasNoValue}
use Rattle.c_erasure.specs.BrokenStatements.{IsAmong, Labels, no_labels, IsBrokenDeclaration, IsNoCondition}
use Rattle.c_erasure.specs.BrokenStatements.{AreBrokenLabels, IsBrokenItem, AreBrokenItems, IsBrokenSwitchItem, AreBrokenSwitchItems}
use Rattle.c_erasure.specs.Literals.{made_by, made_by_item, made_by_items, made_by_switch_item, made_by_switch_items}
use Rattle.c_erasure.specs.Scopes.{FileScope, Scope, inside, declared}
use Rattle.c_erasure.specs.Checking.Answers.{moved}
use Rattle.c_erasure.specs.Checking.Statements.{in_scope, value_of_expression, condition, local_declaration}
use Rattle.c_erasure.specs.Checking.Statements.{labels_in, Found, switched_in, jump, returned_in, returned_nothing, performed, item_in, items_in, switch_items}
use Rattle.c_erasure.specs.Checking.Statements.{switch_item}
use Rattle.c_checking_laws.proofs.Results.{bound_ok, given}
use Rattle.c_checking_laws.proofs.FaultParts.{value_is}
use Rattle.c_checking_laws.proofs.FaultResults.{bound_err}
use Rattle.c_checking_laws.proofs.WholeFiles.Labels.{labels_found}
use Rattle.c_checking_laws.proofs.WholeFiles.Longer.{seen}
use Rattle.c_checking_laws.proofs.WholeFiles.StatementLaws.{IsStatementInRange, IsItemInRange, AreItemsInRange, IsSwitchItemInRange, AreSwitchItemsInRange}
use Rattle.c_checking_laws.proofs.WholeFiles.StatementParts.{same_seen, then_as, value_as, IsConditionThere, condition_as, switched_keeps}
use Rattle.c_checking_laws.proofs.WholeFiles.Statements.{IsStatementThere, sound_statement, sound_item, sound_switch_item}
use Rattle.c_checking_units.proofs.FirstStops.Clear.{AreFresh, fresh_left}
use Rattle.c_checking_units.proofs.FirstStops.InnerAdditions.{at_value, at_labels, at_statement, at_item, at_items, at_switch_item, at_switch_items}
use Rattle.c_checking_laws.proofs.FaultAdditions.{nothing_added}
use Rattle.c_checking_laws.proofs.Within.{both}
use Rattle.c_checking_units.proofs.FirstStops.DeclaredLocals.{objects_declared, objects_declared_by}
use Rattle.c_checking_units.proofs.FirstStops.DeclarationStops.{declaration_stops}
use Rattle.c_checking_units.proofs.FirstStops.JumpFaults.{jump_fault, nothing_fault, void_fault, returned_fault, switched_fault, switched_promotes}
use Rattle.c_checking_units.proofs.FirstStops.LabelStops.{labels_stop, more_items, among_pushed}
use Rattle.c_checking_units.proofs.FirstStops.Stopped.{Stopped, inner_left, stopped_here, stopped_more, IsIn, stopped_later, fresh_later, in_later, in_same}
use Rattle.c_checking_units.proofs.FirstStops.ValueStops.{value_stops, value_there, condition_stops}
use Rattle.c_checking_units.proofs.FirstStops.StatementTimely.{IsStatementTimely, IsItemTimely, AreItemsTimely, IsSwitchItemTimely, AreSwitchItemsTimely}
use Rattle.c_checking_units.proofs.FirstStops.BlockStops.{inside_in, block_stops, StatementIsBroken, behind_condition, value_of_switch, value_of_return}
use Rattle.c_checking_units.proofs.FirstStops.BlockStops.{for_stops}

module _ (untagged : ℕ → List ℕ) (ends : List ℕ) (f : FileScope) (result : CType) where
  mutual
    unfolding performed item_in items_in switch_items switch_item

    pub statement_stops : (a : Trees.Statement) (s : Scope) (loop switch : Bool) → IsIn untagged ends f s → IsStatementInRange f.ends (length f.records) a
        → IsStatementTimely untagged ends f a → AreFresh s.file (made_by a) → (fault : Fault) → performed result a s loop switch ≡ Err fault
        → Stopped (at_statement a) s (StatementIsBroken result a loop switch fault)
    statement_stops (Trees.block from items to) s loop switch p n t fresh fault h =
        let k = at_items items in
        let Is = StatementIsBroken result (Trees.block from items to) loop switch fault in
        bound_err (items_in result items (inside s) loop switch) _ fault (Stopped k s Is) h
        (λ e. block_stops untagged ends f s (λ s. AreBrokenItems result items s loop switch fault) Is (λ s b. b)
        (items_stop items (inside s) loop switch (inside_in untagged ends f s p) n t fresh fault e))
        (λ b e h. cc)
    statement_stops (Trees.evaluate None semicolon) s loop switch p n t fresh fault h = cc
    statement_stops (Trees.evaluate (Some a) semicolon) s loop switch p n t fresh fault h =
        bound_err (value_of_expression a s) _ fault (Stopped (at_value a) s (StatementIsBroken result (Trees.evaluate (Some a) semicolon) loop switch fault)) h
        (λ e. value_stops untagged ends f a s p n t fault e) (λ x e h. cc)
    statement_stops (Trees.when at from a to one) s loop switch p n t fresh fault h =
        let k = at_value a in
        let l = at_statement one in
        let Is = StatementIsBroken result (Trees.when at from a to one) loop switch fault in
        bound_err (condition a s) _ fault (Stopped (both k l) s Is) h
        (λ e. stopped_more (λ s. IsNoCondition a s fault) Is (inner_left k l) (λ s b. inl b)
        (condition_stops untagged ends f a s p n.0 t.0 (fresh_left k.made l.made fresh) fault e))
        (λ x e h. bound_err (performed result one x.1 loop switch) _ fault (Stopped (both k l) s Is) h
        (λ j. behind_condition untagged ends f result a s l p n.0 fresh x e Is (StatementIsBroken result one loop switch fault) (λ s b. inr b)
        (λ q clear. statement_stops one x.1 loop switch q n.1 t.1 clear fault j))
        (λ b e h. cc))
    statement_stops (Trees.choose at from a to one middle other) s loop switch p n t fresh fault h =
        let k = at_value a in
        let l = at_statement one in
        let m = at_statement other in
        let Is = StatementIsBroken result (Trees.choose at from a to one middle other) loop switch fault in
        let first_two = fresh_left (k.made ++ l.made) m.made fresh in
        bound_err (condition a s) _ fault (Stopped (both (both k l) m) s Is) h
        (λ e. stopped_more (λ s. IsNoCondition a s fault) Is (λ g w. inner_left (both k l) m g (inner_left k l g w)) (λ s b. inl b)
        (condition_stops untagged ends f a s p n.0 t.0 (fresh_left k.made l.made first_two) fault e))
        (λ x e h.
        let v = condition_as untagged f a s n.0 p.within x e in
        let q = in_same untagged ends f s _ _ _ _ _ v.found p (fresh_left k.made l.made first_two) refl in
        let clear = fresh_later untagged ends f s _ _ _ _ _ v.found l.made first_two in
        bound_err (performed result one x.1 loop switch) _ fault (Stopped (both (both k l) m) s Is) h
        (λ j. stopped_more (StatementIsBroken result one loop switch fault) Is (inner_left (both k l) m) (λ s b. inr (inl b))
        (behind_condition untagged ends f result a s l p n.0 first_two x e (StatementIsBroken result one loop switch fault) (StatementIsBroken result one loop switch fault) (λ s b. b)
        (λ q clear. statement_stops one x.1 loop switch q n.1 t.1 clear fault j)))
        (λ b j h.
        let u = sound_statement untagged f result one x.1 loop switch n.1 q.within b j in
        let first_parts = then_as untagged f s x.1 b.1 _ _ _ _ (IsConditionThere untagged f a x.0) (IsStatementThere untagged f result one loop switch b.0)
        (IsStatementThere untagged f result one loop switch b.0) _ _ v u (λ c y z. z) in
        let last = in_later untagged ends f s _ _ _ _ _ first_parts.found p first_two
        (λ is i w t g. objects_declared (declared (seen s b.1.file b.1.locals)) result loop switch b.0 is.1 i w t g) in
        bound_err (performed result other b.1 loop switch) _ fault (Stopped (both (both k l) m) s Is) h
        (λ o. stopped_later untagged ends f s _ _ _ _ _ first_parts.found p m fresh Is (StatementIsBroken result other loop switch fault)
        (λ g w c y. inr (inr (subst (StatementIsBroken result other loop switch fault) (same_seen untagged f s b.1 first_parts.stays g w) y)))
        (statement_stops other b.1 loop switch last n.2 t.2 (fresh_later untagged ends f s _ _ _ _ _ first_parts.found m.made fresh) fault o))
        (λ d e h. cc)))
    statement_stops (Trees.while at from a to body) s loop switch p n t fresh fault h =
        let k = at_value a in
        let l = at_statement body in
        let Is = StatementIsBroken result (Trees.while at from a to body) loop switch fault in
        bound_err (condition a s) _ fault (Stopped (both k l) s Is) h
        (λ e. stopped_more (λ s. IsNoCondition a s fault) Is (inner_left k l) (λ s b. inl b)
        (condition_stops untagged ends f a s p n.0 t.0 (fresh_left k.made l.made fresh) fault e))
        (λ x e h. bound_err (performed result body x.1 true switch) _ fault (Stopped (both k l) s Is) h
        (λ j. behind_condition untagged ends f result a s l p n.0 fresh x e Is (StatementIsBroken result body true switch fault) (λ s b. inr b)
        (λ q clear. statement_stops body x.1 true switch q n.1 t.1 clear fault j))
        (λ b e h. cc))
    statement_stops (Trees.do_while at body word from a to semicolon) s loop switch p n t fresh fault h =
        let k = at_statement body in
        let l = at_value a in
        let Is = StatementIsBroken result (Trees.do_while at body word from a to semicolon) loop switch fault in
        bound_err (performed result body s true switch) _ fault (Stopped (both k l) s Is) h
        (λ e. stopped_more (StatementIsBroken result body true switch fault) Is (inner_left k l) (λ s b. inl b)
        (statement_stops body s true switch p n.1 t.1 (fresh_left k.made l.made fresh) fault e))
        (λ b e h.
        let u = sound_statement untagged f result body s true switch n.1 p.within b e in
        let q = in_later untagged ends f s _ _ _ _ _ u.found p (fresh_left k.made l.made fresh)
        (λ is i w t g. objects_declared (declared (seen s b.1.file b.1.locals)) result true switch b.0 is.1 i w t g) in
        bound_err (condition a b.1) _ fault (Stopped (both k l) s Is) h
        (λ j. stopped_later untagged ends f s _ _ _ _ _ u.found p l fresh Is (λ s. IsNoCondition a s fault)
        (λ g w c y. inr (subst (λ s. IsNoCondition a s fault) (same_seen untagged f s b.1 u.stays g w) y))
        (condition_stops untagged ends f a b.1 q n.0 t.0 (fresh_later untagged ends f s _ _ _ _ _ u.found l.made fresh) fault j))
        (λ x e h. cc))
    statement_stops (Trees.for at from start test semicolon step to body) s loop switch p n t fresh fault h =
        for_stops untagged ends f result at from start test semicolon step to body s loop switch p n t fresh fault h
        (λ c q clear e. statement_stops body c true switch q n.3 t.3 clear fault e)
    statement_stops (Trees.switch at from a to begin items end) s loop switch p n t fresh fault h =
        let k = at_value a in
        let l = at_switch_items items in
        let Is = StatementIsBroken result (Trees.switch at from a to begin items end) loop switch fault in
        bound_err (value_of_expression a s) _ fault (Stopped (both k l) s Is) h
        (λ e. stopped_more (λ s. IsBroken a s fault ⊎ HasNoValue a s fault) Is (inner_left k l)
        (λ s b. value_of_switch untagged ends f result at from a to begin items end s loop switch fault b)
        (value_stops untagged ends f a s p n.0 t.0 fault e))
        (λ x e h. bound_err (switched_in (first a) x.0) _ fault (Stopped (both k l) s Is) h
        (λ j.
        let m = switched_fault (first a) x.0 fault j in
        stopped_more Is Is (inner_left k l) (λ s b. b)
        (value_there untagged ends f a s p n.0 (fresh_left k.made l.made fresh) x e Is (λ s v. inr (inr (inl (m.0, (x.0, v, m.1)))))))
        (λ y j h.
        let v = value_as untagged f a s n.0 p.within x e in
        let q = in_same untagged ends f s _ _ _ _ _ v.found p (fresh_left k.made l.made fresh) refl in
        let Js = λ (s : Scope). AreBrokenSwitchItems result items s loop y.1 no_labels fault in
        bound_err (switch_items result items (inside x.1) loop y.1 no_labels) _ fault (Stopped (both k l) s Is) h
        (λ o. stopped_later untagged ends f s _ _ _ _ _ v.found p l fresh Is (λ s. Js (inside s))
        (λ g w is b. inr (inr (inr (
          y.1,
          (x.0, value_is a (seen s g w) x.0 is, switched_promotes (first a) x.0 y j),
          subst (λ s. Js (inside s)) (same_seen untagged f s x.1 v.stays g w) b,
        ))))
        (block_stops untagged ends f x.1 Js (λ s. Js (inside s)) (λ s b. b)
        (switch_items_stop items (inside x.1) loop y.1 (switched_keeps (first a) x.0 y j) no_labels (omega arith) (inside_in untagged ends f x.1 q) n.1 t.1
        (fresh_later untagged ends f s _ _ _ _ _ v.found l.made fresh) fault o)))
        (λ b e h. cc)))
    statement_stops (Trees.break at semicolon) s loop switch p n t fresh fault h =
        let Is = StatementIsBroken result (Trees.break at semicolon) loop switch fault in
        bound_err (jump at (loop || switch) Typed.break) _ fault (Stopped nothing_added s Is) h
        (λ e. stopped_here nothing_added s Is (jump_fault at (loop || switch) Typed.break fault e)) (λ x e h. cc)
    statement_stops (Trees.continue at semicolon) s loop switch p n t fresh fault h =
        let Is = StatementIsBroken result (Trees.continue at semicolon) loop switch fault in
        bound_err (jump at loop Typed.continue) _ fault (Stopped nothing_added s Is) h
        (λ e. stopped_here nothing_added s Is (jump_fault at loop Typed.continue fault e)) (λ x e h. cc)
    statement_stops (Trees.return at None semicolon) s loop switch p n t fresh fault h =
        let Is = StatementIsBroken result (Trees.return at None semicolon) loop switch fault in
        bound_err (returned_nothing at result) _ fault (Stopped nothing_added s Is) h
        (λ e. stopped_here nothing_added s Is (nothing_fault at result fault e)) (λ x e h. cc)
    statement_stops (Trees.return at (Some a) semicolon) s loop switch p n t fresh fault h =
        let k = at_value a in
        let Is = StatementIsBroken result (Trees.return at (Some a) semicolon) loop switch fault in
        void_fault at result _ fault (Stopped k s Is) h
        (λ b. stopped_here k s Is (inr (inr (inl b))))
        (λ given_one h. bound_err (value_of_expression a s) _ fault (Stopped k s Is) h
        (λ e. stopped_more (λ s. IsBroken a s fault ⊎ HasNoValue a s fault) Is (λ g w. w)
        (λ s b. value_of_return untagged ends f result at a semicolon s loop switch fault b) (value_stops untagged ends f a s p n t fault e))
        (λ x e h. bound_err (returned_in at result x.0) _ fault (Stopped k s Is) h
        (λ j.
        let m = returned_fault at result x.0 fault j in
        value_there untagged ends f a s p n fresh x e Is (λ s v. inr (inr (inr (m.0, given_one, (x.0, v, m.1))))))
        (λ y e h. cc)))

    pub item_stops : (e : Trees.BlockItem) (s : Scope) (loop switch : Bool) → IsIn untagged ends f s → IsItemInRange f.ends (length f.records) e
        → IsItemTimely untagged ends f e → AreFresh s.file (made_by_item e) → (fault : Fault) → item_in result e s loop switch ≡ Err fault
        → Stopped (at_item e) s (λ s. IsBrokenItem result e s loop switch fault)
    item_stops (Trees.local d) s loop switch p n t fresh fault h = declaration_stops untagged ends f d s p n t fresh fault h
    item_stops (Trees.statement a) s loop switch p n t fresh fault h =
        bound_err (performed result a s loop switch) _ fault (Stopped (at_statement a) s (StatementIsBroken result a loop switch fault)) h
        (λ e. statement_stops a s loop switch p n t fresh fault e) (λ st e h. cc)

    pub items_stop : (items : Trees.BlockItems) (s : Scope) (loop switch : Bool) → IsIn untagged ends f s → AreItemsInRange f.ends (length f.records) items
        → AreItemsTimely untagged ends f items → AreFresh s.file (made_by_items items) → (fault : Fault) → items_in result items s loop switch ≡ Err fault
        → Stopped (at_items items) s (λ s. AreBrokenItems result items s loop switch fault)
    items_stop Trees.no_block_items s loop switch p n t fresh fault h = cc
    items_stop (Trees.and_block_item e more) s loop switch p n t fresh fault h =
        let k = at_item e in
        let l = at_items more in
        let Is = λ (s : Scope). AreBrokenItems result (Trees.and_block_item e more) s loop switch fault in
        bound_err (item_in result e s loop switch) _ fault (Stopped (both k l) s Is) h
        (λ j. stopped_more (λ s. IsBrokenItem result e s loop switch fault) Is (inner_left k l) (λ s b. inl b)
        (item_stops e s loop switch p n.0 t.0 (fresh_left k.made l.made fresh) fault j))
        (λ own j h.
        let v = sound_item untagged f result e s loop switch n.0 p.within own j in
        let q = in_later untagged ends f s _ _ _ _ _ v p (fresh_left k.made l.made fresh)
        (λ is i w t g. objects_declared_by (declared (seen s own.1.file own.1.locals)) result loop switch own.0 is.is_typed i w t g) in
        bound_err (items_in result more own.1 loop switch) _ fault (Stopped (both k l) s Is) h
        (λ o. stopped_later untagged ends f s _ _ _ _ _ v p l fresh Is (λ s. AreBrokenItems result more s loop switch fault)
        (λ g w is b. inr (own.0, seen own.1 g w, is.erases, b))
        (items_stop more own.1 loop switch q n.1 t.1 (fresh_later untagged ends f s _ _ _ _ _ v l.made fresh) fault o))
        (λ rest e h. cc))

    pub switch_items_stop : (items : Trees.SwitchItems) (s : Scope) (loop : Bool) (kind : IntKind) → ((v : ℕ) → as_kind kind (as_kind kind v) ≡ as_kind kind v)
        → (before : Labels) → before.defaults ≤ 1 → IsIn untagged ends f s → AreSwitchItemsInRange f.ends (length f.records) items
        → AreSwitchItemsTimely untagged ends f items → AreFresh s.file (made_by_switch_items items) → (fault : Fault) → switch_items result items s loop kind before ≡ Err fault
        → Stopped (at_switch_items items) s (λ s. AreBrokenSwitchItems result items s loop kind before fault)
    switch_items_stop Trees.no_switch_items s loop kind keeps before few p n t fresh fault h = cc
    switch_items_stop (Trees.and_switch_item item more) s loop kind keeps before few p n t fresh fault h =
        let k = at_switch_item item in
        let l = at_switch_items more in
        let Is = λ (s : Scope). AreBrokenSwitchItems result (Trees.and_switch_item item more) s loop kind before fault in
        bound_err (switch_item result item s loop kind before) _ fault (Stopped (both k l) s Is) h
        (λ j. stopped_more (λ s. IsBrokenSwitchItem result item s loop kind before fault) Is (inner_left k l) (λ s b. inl b)
        (switch_item_stops item s loop kind keeps before p n.0 t.0 (fresh_left k.made l.made fresh) fault j))
        (λ own j h.
        let v = sound_switch_item untagged f result item s loop kind keeps before n.0 p.within own j in
        let q = in_later untagged ends f s _ _ _ _ _ v.found p (fresh_left k.made l.made fresh)
        (λ is i w t g. objects_declared_by (declared (seen s own.1.file own.1.locals)) result loop true own.0.0 is.is_typed i w t g) in
        bound_err (switch_items result more own.1 loop kind own.0.1.all) _ fault (Stopped (both k l) s Is) h
        (λ o. stopped_later untagged ends f s _ _ _ _ _ v.found p l fresh Is (λ s. AreBrokenSwitchItems result more s loop kind own.0.1.all fault)
        (λ g w is b. inr (
          own.0.1.cases,
          own.0.1.defaults,
          own.0.0,
          seen own.1 g w,
          is.erases,
          more_items result more (seen own.1 g w) loop kind own.0.1.all _ (
            (λ x i. among_pushed before.cases own.0.1.cases x (subst (λ all. IsAmong all x) v.counted.pushed_are i)),
            (let c = v.counted.counted in omega (arith, c)),
          ) fault b,
        ))
        (switch_items_stop more own.1 loop kind keeps own.0.1.all (v.counted.bounded few) q n.1 t.1
        (fresh_later untagged ends f s _ _ _ _ _ v.found l.made fresh) fault o))
        (λ rest e h. cc))

    switch_item_stops : (item : Trees.SwitchItem) (s : Scope) (loop : Bool) (kind : IntKind) → ((v : ℕ) → as_kind kind (as_kind kind v) ≡ as_kind kind v)
        → (before : Labels) → IsIn untagged ends f s → IsSwitchItemInRange f.ends (length f.records) item
        → IsSwitchItemTimely untagged ends f item → AreFresh s.file (made_by_switch_item item) → (fault : Fault) → switch_item result item s loop kind before ≡ Err fault
        → Stopped (at_switch_item item) s (λ s. IsBrokenSwitchItem result item s loop kind before fault)
    switch_item_stops (Trees.local_switch_item d) s loop kind keeps before p n t fresh fault h =
        bound_err (local_declaration d s) _ fault
        (Stopped (at_switch_item (Trees.local_switch_item d)) s (λ s. IsBrokenDeclaration d s fault)) h
        (λ e. declaration_stops untagged ends f d s p n t fresh fault e) (λ own e h. cc)
    switch_item_stops (Trees.labelled labels a) s loop kind keeps before p n t fresh fault h =
        let k = at_statement a in
        let j = at_labels labels in
        let Is = λ (s : Scope). IsBrokenSwitchItem result (Trees.labelled labels a) s loop kind before fault in
        bound_err (in_scope s (labels_in labels s kind before)) _ fault (Stopped (both j k) s Is) h
        (λ e. bound_err (labels_in labels s kind before) _ fault (Stopped (both j k) s Is) e
        (λ e. stopped_more {k = j} (λ s. AreBrokenLabels labels s kind before fault) Is (inner_left j k) (λ s b. inl b)
        (labels_stop untagged ends f labels s kind before p n.0 t.0 fault e))
        (λ x e h. cc))
        (λ z e h.
        let c = bound_ok (labels_in labels s kind before) _ z e in
        let v = labels_found untagged f labels s kind keeps before n.0 p.within c.0 c.1 in
        let q = in_same untagged ends f s _ _ _ _ _ v.found.found p (fresh_left [] k.made fresh) refl in
        bound_err (performed result a z.1 loop true) _ fault (Stopped (both j k) s Is) h
        (λ o. given (λ (z : Found × Scope). performed result a z.1 loop true ≡ Err fault → Stopped (both j k) s Is) (c.0.0, moved s c.0.1) z c.2
        (λ o. stopped_later untagged ends f s _ _ _ _ _ v.found.found p k fresh Is (StatementIsBroken result a loop true fault) (λ g w is b. inr b)
        (statement_stops a (moved s c.0.1) loop true q n.1 t.1 (fresh_later untagged ends f s _ _ _ _ _ v.found.found k.made fresh) fault o)) o)
        (λ st e h. cc))
