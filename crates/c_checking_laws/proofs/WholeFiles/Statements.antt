-- What is found for statements stands for them and is well typed, in each later file and with each longer list of locals (C99 6.8).
use Rattle.std.proofs.Common.{◌≡◌, ℕ, ◌+◌, ◌≤◌, Bool, true, false, refl, sym, ap, ◌∙◌, subst, List, [], ◌++◌, append-nil}
use Rattle.std.proofs.Common.{append_assoc, arith}
use Rattle.std.proofs.lemmas.List.Elements.{All-nil}
use Rattle.std.proofs.Common.{length}
use Rattle.std.specs.Prelude.{All, Option, Some, None, Ok, ◌||◌}
use Rattle.std.specs.Option.{option_map}
use Rattle.c_types.specs.declared.ty.IntKind.{IntKind}
use Rattle.c_types.specs.Types.{CType, integer}
use Rattle.c_ast.specs.Trees
use Rattle.c_ast.specs.Places.{first, first_specifiers}
use Rattle.c_typed.specs.Trees as Typed
use Rattle.c_typed.specs.Conversions.{as_kind}
use Rattle.c_typed.specs.Constants.{ty}
use Rattle.c_typed.specs.TypedStatements.{declared_by, declared_by_arms, all_declared, all_declared_by, all_declared_by_arms, all_cases, defaults}
use Rattle.c_typed.specs.TypedStatements.{AreDifferent, IsCondition, IsEffect, IsTypedStatement, AreTyped, AreTypedArms}
use Rattle.c_erasure.specs.BrokenStatements.{Labels, no_labels}
use Rattle.c_erasure.specs.Erasure.{typed, Erases}
use Rattle.c_erasure.specs.Literals.{literals, literals_if_any, made_by_start, made_by, made_by_item, made_by_items, made_by_switch_item, made_by_switch_items}
use Rattle.c_erasure.specs.MentionPlaces.{spoken, spoken_if_some, spoken_of_start, spoken_by, spoken_by_item, spoken_by_items}
use Rattle.c_erasure.specs.MentionPlaces.{spoken_by_switch_item, spoken_by_switch_items}
use Rattle.c_erasure.specs.Noted.{Expression, type_of}
use Rattle.c_erasure.specs.Scopes.{FileScope, Scope, ALocal, declared, inside}
use Rattle.c_erasure.specs.Specifiers.{storage_of}
use Rattle.c_erasure.specs.Statements.{Statement, Statements, Arms, followed_by, with_first, IsPlainIfAny, IsStart, ErasesStatement}
use Rattle.c_erasure.specs.Statements.{ErasesItem, EraseItems, ErasesSwitchItem, EraseSwitchItems}
use Rattle.c_erasure.specs.Checking.Answers.{Answer, ◌>>=◌, moved}
use Rattle.c_erasure.specs.Checking.Statements.{in_scope, leaving, value_of_expression, value_if_any, condition, condition_if_any, start_of}
use Rattle.c_erasure.specs.Checking.Statements.{local_declaration, labels_in, Found, arranged, switched_in, jump, returned_in, returned_nothing}
use Rattle.c_erasure.specs.Checking.Statements.{performed, item_in, items_in, switch_items, switch_item}
use Rattle.c_checking_laws.proofs.Results.{bound_ok, given, only_if, chosen}
use Rattle.c_checking_laws.proofs.Values.{type_same}
use Rattle.c_checking_laws.proofs.WholeFiles.Longer.{seen}
use Rattle.c_checking_laws.proofs.WholeFiles.Scoped.{IsWithin, FoundIn, then_in, as_said, nothing_in}
use Rattle.c_checking_laws.proofs.WholeFiles.Declarations.{typed_statements, declared_then, typed_then}
use Rattle.c_checking_laws.proofs.WholeFiles.StatementParts.{FoundAs, same_seen, then_as, change_as, nothing_as, inside_within, left_block, declaration_found}
use Rattle.c_checking_laws.proofs.WholeFiles.StatementParts.{IsValueThere, value_as, IsConditionThere, condition_as, plain_value, switched_made, switched_keeps}
use Rattle.c_checking_laws.proofs.WholeFiles.StatementParts.{returned_made}
use Rattle.c_checking_laws.proofs.WholeFiles.Labels.{are_different, AreCounted, none_counted, labels_found}
use Rattle.c_checking_laws.proofs.WholeFiles.StatementLaws.{declared_typed, declared_typed_arms, cases_typed, defaults_typed}
use Rattle.c_checking_laws.proofs.WholeFiles.StatementLaws.{arranged_is, arranged_declared, arranged_typed, first_cases, first_defaults}
use Rattle.c_checking_laws.proofs.WholeFiles.StatementLaws.{first_declared, first_typed, arms_counted, jump_is, nothing_is, not_static}
use Rattle.c_checking_laws.proofs.WholeFiles.StatementLaws.{not_void, IsInRangeIfAny, IsStartInRange, typed_statement, typed_arms, IsStatementInRange}
use Rattle.c_checking_laws.proofs.WholeFiles.StatementLaws.{IsItemInRange, AreItemsInRange, IsSwitchItemInRange, AreSwitchItemsInRange, AreArmsCounted}

labels_there : {A B : Type 0} (x y : A) → Rattle.c_checking_laws.proofs.Results.ok x ≡ Ok y → (k : A → Answer B) (z : B) → k y ≡ Ok z → k x ≡ Ok z
labels_there x y h k z e = given (λ y. k y ≡ Ok z → k x ≡ Ok z) x y h (λ e. e) e

module _ (untagged : ℕ → List ℕ) (f : FileScope) where
  -- ---- expressions that may be left out

  abbrev pub IsTestThere : Option Trees.Expression → Option Expression → Scope → Type 0
  IsTestThere a x c = IsPlainIfAny a c x × IsCondition (declared c) (option_map typed x)

  abbrev pub IsEffectThere : Option Trees.Expression → Option Expression → Scope → Type 0
  IsEffectThere a x c = IsPlainIfAny a c x × IsEffect (declared c) (option_map typed x)

  pub test_as : (a : Option Trees.Expression) (s : Scope) → IsInRangeIfAny a → IsWithin untagged f s → (z : Option Expression × Scope) → condition_if_any a s ≡ Ok z
      → FoundAs untagged f s (spoken_if_some a) (literals_if_any a) (IsTestThere a z.0) [] z.1
  test_as None s n w z h =
      given (λ (z : Option Expression × Scope). FoundAs untagged f s [] [] (IsTestThere None z.0) [] z.1) (None, s) z h
      (nothing_as untagged f s (IsTestThere None None) w (λ c. (refl, tt)))
  test_as (Some a) s n w z h =
      let x = bound_ok (condition a s) _ z h in
      given (λ (z : Option Expression × Scope). FoundAs untagged f s (spoken a) (literals a) (IsTestThere (Some a) z.0) [] z.1) (Some x.0.0, x.0.1) z x.2
      (change_as untagged f s x.0.1 (spoken a) (literals a) (IsConditionThere untagged f a x.0.0) (IsTestThere (Some a) (Some x.0.0)) [] []
      (condition_as untagged f a s n w x.0 x.1) refl (λ c v. ((x.0.0, refl, v.0), (v.1, v.2))))

  pub effect_as : (a : Option Trees.Expression) (s : Scope) → IsInRangeIfAny a → IsWithin untagged f s → (z : Option Expression × Scope) → value_if_any a s ≡ Ok z
      → FoundAs untagged f s (spoken_if_some a) (literals_if_any a) (IsEffectThere a z.0) [] z.1
  effect_as None s n w z h =
      given (λ (z : Option Expression × Scope). FoundAs untagged f s [] [] (IsEffectThere None z.0) [] z.1) (None, s) z h
      (nothing_as untagged f s (IsEffectThere None None) w (λ c. (refl, tt)))
  effect_as (Some a) s n w z h =
      let x = bound_ok (value_of_expression a s) _ z h in
      given (λ (z : Option Expression × Scope). FoundAs untagged f s (spoken a) (literals a) (IsEffectThere (Some a) z.0) [] z.1) (Some x.0.0, x.0.1) z x.2
      (change_as untagged f s x.0.1 (spoken a) (literals a) (IsValueThere untagged f a x.0.0) (IsEffectThere (Some a) (Some x.0.0)) [] []
      (value_as untagged f a s n w x.0 x.1) refl (λ c v. ((x.0.0, refl, plain_value a c x.0.0 v), (v.1, v.2))))

  -- ---- what stands first in a `for`

  pub record IsStartFound (start : Trees.ForStart) (result : CType) (s : Scope) (all : Statements) (after : Scope) (g : FileScope) (l : List ALocal) : Type 0 where
    pub starts : IsStart start (seen s g l) all (seen after g l)
    pub is_typed : AreTyped (declared (seen s g l)) result false false (typed_statements all)

  pub start_found : (result : CType) (start : Trees.ForStart) (s : Scope) → IsStartInRange f.ends (length f.records) start → IsWithin untagged f s → (z : Statements × Scope)
      → start_of start s ≡ Ok z
      → FoundIn untagged f s (spoken_of_start start) (made_by_start start) (IsStartFound start result s z.0 z.1) (all_declared_by z.0) z.1
  start_found result (Trees.starts_with None semicolon) s n w z h =
      given (λ (z : Statements × Scope). FoundIn untagged f s [] [] (IsStartFound (Trees.starts_with None semicolon) result s z.0 z.1)
      (all_declared_by z.0) z.1)
      (Typed.no_statements, s) z h (nothing_in untagged f s _ w (λ g l. record { starts = (refl, refl); is_typed = tt }))
  start_found result (Trees.starts_with (Some a) semicolon) s n w z h =
      let x = bound_ok (value_of_expression a s) _ z h in
      let v = value_as untagged f a s n w x.0 x.1 in
      given (λ (z : Statements × Scope). FoundIn untagged f s (spoken a) (literals a) (IsStartFound (Trees.starts_with (Some a) semicolon) result s z.0 z.1)
      (all_declared_by z.0) z.1) (Typed.and_statement (Typed.evaluate x.0.0) Typed.no_statements, x.0.1) z x.2
      (as_said untagged f s x.0.1 (spoken a) (literals a) _ _ [] [] v.found refl
      (λ g l e laid goes v'. record {
        starts = (x.0.0, refl, plain_value a (seen s g l) x.0.0 v', same_seen untagged f s x.0.1 v.stays g l);
        is_typed = ((v'.1, v'.2), tt);
      }))
  start_found result (Trees.declares d) s n w z h =
      let k = not_static (first_specifiers d.specs) (storage_of d.specs) (local_declaration d s) z h in
      let v = declaration_found untagged f d s n w z k.1 in
      as_said untagged f s z.1 _ _ _ (IsStartFound (Trees.declares d) result s z.0 z.1) _ _ v refl
      (λ g l e laid goes v'. record { starts = (v'.declares, k.0); is_typed = v'.is_typed result false false })

  module _ (result : CType) where
    -- ---- what is found for statements

    abbrev pub IsStatementThere : Trees.Statement → Bool → Bool → Statement → Scope → Type 0
    IsStatementThere a loop switch st c = ErasesStatement a c st × IsTypedStatement (declared c) result loop switch (typed_statement st)

    abbrev pub FoundStatement : Trees.Statement → Scope → Bool → Bool → Statement × Scope → Type 0
    FoundStatement a s loop switch z =
        FoundAs untagged f s (spoken_by a) (made_by a) (IsStatementThere a loop switch z.0) (all_declared z.0) z.1

    pub record IsItemFound (e : Trees.BlockItem) (s : Scope) (loop switch : Bool) (all : Statements) (after : Scope) (g : FileScope)
        (l : List ALocal) : Type 0 where
      pub erases : ErasesItem e (seen s g l) all (seen after g l)
      pub is_typed : AreTyped (declared (seen s g l)) result loop switch (typed_statements all)

    abbrev pub FoundItem : Trees.BlockItem → Scope → Bool → Bool → Statements × Scope → Type 0
    FoundItem e s loop switch z =
        FoundIn untagged f s (spoken_by_item e) (made_by_item e) (IsItemFound e s loop switch z.0 z.1) (all_declared_by z.0) z.1

    pub record AreItemsFound (items : Trees.BlockItems) (s : Scope) (loop switch : Bool) (all : Statements) (g : FileScope) (l : List ALocal) : Type 0 where
      pub erase : EraseItems items (seen s g l) all
      pub is_typed : AreTyped (declared (seen s g l)) result loop switch (typed_statements all)

    abbrev pub FoundItems : Trees.BlockItems → Scope → Bool → Bool → Statements × Scope → Type 0
    FoundItems items s loop switch z =
        FoundIn untagged f s (spoken_by_items items) (made_by_items items) (AreItemsFound items s loop switch z.0) (all_declared_by z.0) z.1

    pub record IsSwitchItemFound (item : Trees.SwitchItem) (s : Scope) (loop : Bool) (kind : IntKind) (cases : List ℕ) (n : ℕ) (all : Statements) (after : Scope)
        (g : FileScope) (l : List ALocal) : Type 0 where
      pub erases : ErasesSwitchItem item (seen s g l) kind cases n all (seen after g l)
      pub is_typed : AreTyped (declared (seen s g l)) result loop true (typed_statements all)

    pub record FoundSwitchItem (item : Trees.SwitchItem) (s : Scope) (loop : Bool) (kind : IntKind) (before : Labels)
        (z : (Statements × Found) × Scope) : Type 0 where
      pub found : FoundIn untagged f s (spoken_by_switch_item item) (made_by_switch_item item)
          (IsSwitchItemFound item s loop kind z.0.1.cases z.0.1.defaults z.0.0 z.1) (all_declared_by z.0.0) z.1
      pub counted : AreCounted kind before z.0.1.cases z.0.1.defaults z.0.1.all

    record AreSwitchItemsFound (items : Trees.SwitchItems) (s : Scope) (loop : Bool) (kind : IntKind) (own : Statements) (arms : Arms) (g : FileScope)
        (l : List ALocal) : Type 0 where
      pub erase : EraseSwitchItems items (seen s g l) kind own arms
      pub is_typed : AreTyped (declared (seen s g l)) result loop true (typed_statements own)
      pub arms_typed : AreTypedArms (declared (seen s g l)) result loop (typed_arms arms)

    record FoundSwitchItems (items : Trees.SwitchItems) (s : Scope) (loop : Bool) (kind : IntKind) (before : Labels)
        (z : (Statements × Arms) × Scope) : Type 0 where
      pub found : FoundIn untagged f s (spoken_by_switch_items items) (made_by_switch_items items)
          (AreSwitchItemsFound items s loop kind z.0.0 z.0.1) (all_declared_by z.0.0 ++ all_declared_by_arms z.0.1) z.1
      pub counted : AreArmsCounted kind before z.0.1

    -- ---- one lemma for each statement with parts of its own

    for_found : (at from : ℕ) (start : Trees.ForStart) (test : Option Trees.Expression) (semicolon : ℕ) (step : Option Trees.Expression) (to : ℕ)
        (body : Trees.Statement) (s : Scope) (loop switch : Bool) → IsWithin untagged f s → (all : Statements × Scope)
        → FoundIn untagged f (inside s) (spoken_of_start start) (made_by_start start) (IsStartFound start result (inside s) all.0 all.1)
        (all_declared_by all.0) all.1
        → (t : Option Expression × Scope) → FoundAs untagged f all.1 (spoken_if_some test) (literals_if_any test) (IsTestThere test t.0) [] t.1
        → (e : Option Expression × Scope) → FoundAs untagged f t.1 (spoken_if_some step) (literals_if_any step) (IsEffectThere step e.0) [] e.1
        → (b : Statement × Scope) → FoundStatement body e.1 true switch b
        → FoundStatement (Trees.for at from start test semicolon step to body) s loop switch
        (Typed.for (declared_by all.0) all.0 t.0 e.0 b.0, leaving s b.1)
    for_found at from start test semicolon step to body s loop switch w all u t v e x b y =
        let one = then_in untagged f (inside s) all.1 t.1 _ _ _ _ _ _
        (λ g l. IsStartFound start result (inside s) all.0 all.1 g l × IsTestThere test t.0 (seen all.1 g l))
        _ _ u v.found (λ g l ex laid goes a b. (a, b)) in
        let two = then_in untagged f (inside s) t.1 e.1 _ _ _ _ _ _
        (λ g l. IsStartFound start result (inside s) all.0 all.1 g l × IsTestThere test t.0 (seen all.1 g l) × IsEffectThere step e.0 (seen all.1 g l))
        _ _ one x.found (λ g l ex laid goes a b. (a.0, a.1, subst (IsEffectThere step e.0) (same_seen untagged f all.1 t.1 v.stays g l) b)) in
        let three = then_in untagged f (inside s) e.1 b.1 _ _ _ _ _ _
        (λ g l. IsStatementThere (Trees.for at from start test semicolon step to body) loop switch (Typed.for (declared_by all.0) all.0 t.0 e.0 b.0)
        (seen s g l))
        _ _ two y.found
        (λ g l ex laid goes a c.
        let there = same_seen untagged f t.1 e.1 x.stays g l ∙ same_seen untagged f all.1 t.1 v.stays g l in
        let d = subst (IsStatementThere body true switch b.0) there c in
        ((all.0, seen all.1 g l, t.0, e.0, b.0, refl, a.0.starts, a.1.0, a.2.0, d.0), (declared_typed all.0, a.0.is_typed, a.1.1, a.2.1, d.1))) in
        record {
          found = left_block untagged f s b.1 _ _ _ _ w
              (as_said untagged f (inside s) b.1 _ _ _ _ _ (all_declared_by all.0 ++ all_declared b.0) three
              (ap (λ z. z ++ [] ++ all_declared b.0) (append-nil (all_declared_by all.0))
              ∙ ap (λ z. z ++ all_declared b.0) (append-nil (all_declared_by all.0))) (λ g l ex laid goes a. a));
          stays = refl;
        }

    switch_found : (at from : ℕ) (a : Trees.Expression) (to begin : ℕ) (items : Trees.SwitchItems) (end : ℕ) (s : Scope) (loop switch : Bool)
        → (x : Expression × Scope) → FoundAs untagged f s (spoken a) (literals a) (IsValueThere untagged f a x.0) [] x.1 → (y : Expression × IntKind)
        → switched_in (first a) x.0 ≡ Ok y → (b : (Statements × Arms) × Scope) → FoundSwitchItems items (inside x.1) loop y.1 no_labels b
        → FoundStatement (Trees.switch at from a to begin items end) s loop switch
        (Typed.switch y.0 (declared_by_arms (with_first b.0.0 b.0.1)) (with_first b.0.0 b.0.1), leaving s b.1)
    switch_found at from a to begin items end s loop switch x v y h b u =
        let arms = with_first b.0.0 b.0.1 in
        let st = Typed.switch y.0 (declared_by_arms arms) arms in
        let left_there = left_block untagged f x.1 b.1 _ _ _ _ v.found.within u.found in
        let both = then_in untagged f s x.1 (leaving x.1 b.1) _ _ _ _ _ _
        (λ g l. IsStatementThere (Trees.switch at from a to begin items end) loop switch st (seen s g l)) _ _ v.found left_there
        (λ g l e laid goes value all.
        let k = switched_made (Erases a (seen s g l)) (seen s g l) (first a) x.0 value y h in
        let here = same_seen untagged f s x.1 v.stays g l in
        let m = first_cases b.0.0 b.0.1 in (
          (y.0, y.1, b.0.0, b.0.1, refl, k.values, k.type_is, subst (λ c. EraseSwitchItems items (inside c) y.1 b.0.0 b.0.1) here all.erase),
          (
            k.is_typed,
            k.promotes,
            declared_typed_arms arms,
            (y.1, sym (type_there k.type_is), subst (All (λ v. as_kind y.1 v ≡ v)) (sym m ∙ cases_typed arms) u.counted.values),
            subst AreDifferent (sym m ∙ cases_typed arms) (are_different (all_cases b.0.1) u.counted.fresh),
            few (defaults_typed arms) (first_defaults b.0.0 b.0.1) u.counted.bounded,
            first_typed (declared (seen s g l)) result loop b.0.0 b.0.1 all.is_typed all.arms_typed,
          ),
        )) in
        record {
          found = subst (λ after. FoundIn untagged f s (spoken a ++ spoken_by_switch_items items) (literals a ++ made_by_switch_items items)
              (λ g l. IsStatementThere (Trees.switch at from a to begin items end) loop switch st (seen s g l))
              (all_declared st) after) (ap (λ c. leaving c b.1) v.stays)
              (as_said untagged f s (leaving x.1 b.1) _ _ _ _ _ (all_declared st) both (first_declared b.0.0 b.0.1) (λ g l e laid goes a. a));
          stays = refl;
        }
      where
        type_there : type_of y.0 ≡ integer y.1 → integer y.1 ≡ ty (typed y.0)
        type_there e = sym (type_same y.0 ∙ e)

        few : defaults (with_first b.0.0 b.0.1) ≡ defaults (typed_arms (with_first b.0.0 b.0.1)) → defaults (with_first b.0.0 b.0.1) ≡ defaults b.0.1
            → 0 + defaults b.0.1 ≤ 1 → defaults (typed_arms (with_first b.0.0 b.0.1)) ≤ 1
        few p q r = omega (arith, p, q, r)

    switch_items_then : (item : Trees.SwitchItem) (more : Trees.SwitchItems) (s : Scope) (loop : Bool) (kind : IntKind) (before : Labels)
        → before.defaults ≤ 1 → (own : (Statements × Found) × Scope) → FoundSwitchItem item s loop kind before own → (rest : (Statements × Arms) × Scope)
        → FoundSwitchItems more own.1 loop kind own.0.1.all rest
        → FoundSwitchItems (Trees.and_switch_item item more) s loop kind before
        (arranged own.0.1.cases own.0.1.defaults (followed_by own.0.0 rest.0.0) rest.0.1, rest.1)
    switch_items_then item more s loop kind before few own p rest q =
        let cases = own.0.1.cases in
        let n = own.0.1.defaults in
        let all = followed_by own.0.0 rest.0.0 in
        let r = arranged cases n all rest.0.1 in
        record {
          found = as_said untagged f s rest.1 _ _ _ (AreSwitchItemsFound (Trees.and_switch_item item more) s loop kind r.0 r.1) _
              (all_declared_by r.0 ++ all_declared_by_arms r.1)
              (then_in untagged f s own.1 rest.1 _ _ _ _ _ _ (AreSwitchItemsFound (Trees.and_switch_item item more) s loop kind r.0 r.1) _ _ p.found q.found
              (λ g l e laid goes one others.
              let t = arranged_typed (declared (seen s g l)) result loop cases n all rest.0.1
              (typed_then (declared (seen s g l)) result loop true own.0.0 rest.0.0 one.is_typed others.is_typed) others.arms_typed in
              record {
                erase = (cases, n, own.0.0, rest.0.0, rest.0.1, seen own.1 g l, one.erases, others.erase, arranged_is cases n all rest.0.1 at_most_one);
                is_typed = t.0;
                arms_typed = t.1;
              }))
              (sym (append_assoc (all_declared_by own.0.0) (all_declared_by rest.0.0) (all_declared_by_arms rest.0.1))
              ∙ ap (λ z. z ++ all_declared_by_arms rest.0.1) (sym (declared_then own.0.0 rest.0.0)) ∙ arranged_declared cases n all rest.0.1)
              (λ g l e laid goes a. a);
          counted = arms_counted kind before own.0.1.all cases n all rest.0.1 p.counted q.counted;
        }
      where
        at_most_one : own.0.1.defaults ≤ 1
        at_most_one = let c = p.counted.counted in let b = p.counted.bounded few in omega (arith, c, b)

    mutual
      unfolding performed item_in items_in switch_items switch_item

      pub sound_statement : (a : Trees.Statement) (s : Scope) (loop switch : Bool) → IsStatementInRange f.ends (length f.records) a → IsWithin untagged f s → (z : Statement × Scope)
          → performed result a s loop switch ≡ Ok z → FoundStatement a s loop switch z
      sound_statement (Trees.block from items to) s loop switch n w z h =
          let b = bound_ok (items_in result items (inside s) loop switch) _ z h in
          let v = sound_items items (inside s) loop switch n (inside_within untagged f s w) b.0 b.1 in
          given (FoundStatement (Trees.block from items to) s loop switch) _ z b.2 (record {
            found = left_block untagged f s b.0.1 _ _ _ _ w
                (as_said untagged f (inside s) b.0.1 _ _ _
                (λ g l. IsStatementThere (Trees.block from items to) loop switch (Typed.block (declared_by b.0.0) b.0.0) (seen s g l)) _ _ v refl
                (λ g l e laid goes i. ((b.0.0, refl, i.erase), (declared_typed b.0.0, i.is_typed))));
            stays = refl;
          })
      sound_statement (Trees.evaluate None semicolon) s loop switch n w z h =
          given (FoundStatement (Trees.evaluate None semicolon) s loop switch) (Typed.block [] Typed.no_statements, s) z h
          (nothing_as untagged f s (IsStatementThere (Trees.evaluate None semicolon) loop switch (Typed.block [] Typed.no_statements)) w
          (λ c. (refl, (refl, tt))))
      sound_statement (Trees.evaluate (Some a) semicolon) s loop switch n w z h =
          let x = bound_ok (value_of_expression a s) _ z h in
          given (FoundStatement (Trees.evaluate (Some a) semicolon) s loop switch) (Typed.evaluate x.0.0, x.0.1) z x.2
          (change_as untagged f s x.0.1 (spoken a) (literals a) (IsValueThere untagged f a x.0.0)
          (IsStatementThere (Trees.evaluate (Some a) semicolon) loop switch (Typed.evaluate x.0.0)) [] [] (value_as untagged f a s n w x.0 x.1) refl
          (λ c v. ((x.0.0, refl, plain_value a c x.0.0 v), (v.1, v.2))))
      sound_statement (Trees.when at from a to one) s loop switch n w z h =
          let x = bound_ok (condition a s) _ z h in
          let v = condition_as untagged f a s n.0 w x.0 x.1 in
          let b = bound_ok (performed result one x.0.1 loop switch) _ z x.2 in
          let u = sound_statement one x.0.1 loop switch n.1 v.found.within b.0 b.1 in
          given (FoundStatement (Trees.when at from a to one) s loop switch) (Typed.when x.0.0 b.0.0, b.0.1) z b.2
          (then_as untagged f s x.0.1 b.0.1 _ _ _ _ (IsConditionThere untagged f a x.0.0) (IsStatementThere one loop switch b.0.0)
          (IsStatementThere (Trees.when at from a to one) loop switch (Typed.when x.0.0 b.0.0)) _ _ v u
          (λ c p q. ((x.0.0, b.0.0, refl, p.0, q.0), (p.1, p.2, q.1))))
      sound_statement (Trees.choose at from a to one middle other) s loop switch n w z h =
          let x = bound_ok (condition a s) _ z h in
          let v = condition_as untagged f a s n.0 w x.0 x.1 in
          let b = bound_ok (performed result one x.0.1 loop switch) _ z x.2 in
          let u = sound_statement one x.0.1 loop switch n.1 v.found.within b.0 b.1 in
          let d = bound_ok (performed result other b.0.1 loop switch) _ z b.2 in
          let t = sound_statement other b.0.1 loop switch n.2 u.found.within d.0 d.1 in
          given (FoundStatement (Trees.choose at from a to one middle other) s loop switch) (Typed.when_else x.0.0 b.0.0 d.0.0, d.0.1) z d.2
          (then_as untagged f s b.0.1 d.0.1 _ _ _ _ (λ c. IsConditionThere untagged f a x.0.0 c × IsStatementThere one loop switch b.0.0 c)
          (IsStatementThere other loop switch d.0.0)
          (IsStatementThere (Trees.choose at from a to one middle other) loop switch (Typed.when_else x.0.0 b.0.0 d.0.0)) _ _
          (then_as untagged f s x.0.1 b.0.1 _ _ _ _ (IsConditionThere untagged f a x.0.0) (IsStatementThere one loop switch b.0.0)
          (λ c. IsConditionThere untagged f a x.0.0 c × IsStatementThere one loop switch b.0.0 c) _ _ v u (λ c p q. (p, q))) t
          (λ c p q. ((x.0.0, b.0.0, d.0.0, refl, p.0.0, p.1.0, q.0), (p.0.1, p.0.2, p.1.1, q.1))))
      sound_statement (Trees.while at from a to body) s loop switch n w z h =
          let x = bound_ok (condition a s) _ z h in
          let v = condition_as untagged f a s n.0 w x.0 x.1 in
          let b = bound_ok (performed result body x.0.1 true switch) _ z x.2 in
          let u = sound_statement body x.0.1 true switch n.1 v.found.within b.0 b.1 in
          given (FoundStatement (Trees.while at from a to body) s loop switch) (Typed.while x.0.0 b.0.0, b.0.1) z b.2
          (then_as untagged f s x.0.1 b.0.1 _ _ _ _ (IsConditionThere untagged f a x.0.0) (IsStatementThere body true switch b.0.0)
          (IsStatementThere (Trees.while at from a to body) loop switch (Typed.while x.0.0 b.0.0)) _ _ v u
          (λ c p q. ((x.0.0, b.0.0, refl, p.0, q.0), (p.1, p.2, q.1))))
      sound_statement (Trees.do_while at body word from a to semicolon) s loop switch n w z h =
          let b = bound_ok (performed result body s true switch) _ z h in
          let u = sound_statement body s true switch n.1 w b.0 b.1 in
          let x = bound_ok (condition a b.0.1) _ z b.2 in
          let v = condition_as untagged f a b.0.1 n.0 u.found.within x.0 x.1 in
          let st = Typed.do_while b.0.0 x.0.0 in
          given (FoundStatement (Trees.do_while at body word from a to semicolon) s loop switch) (st, x.0.1) z x.2
          (change_as untagged f s x.0.1 _ _ (IsStatementThere (Trees.do_while at body word from a to semicolon) loop switch st)
          (IsStatementThere (Trees.do_while at body word from a to semicolon) loop switch st) (all_declared b.0.0 ++ []) (all_declared b.0.0)
          (then_as untagged f s b.0.1 x.0.1 _ _ _ _ (IsStatementThere body true switch b.0.0) (IsConditionThere untagged f a x.0.0)
          (IsStatementThere (Trees.do_while at body word from a to semicolon) loop switch st) _ _ u v
          (λ c p q. ((b.0.0, x.0.0, refl, p.0, q.0), (p.1, q.1, q.2)))) (append-nil (all_declared b.0.0)) (λ c p. p))
      sound_statement (Trees.for at from start test semicolon step to body) s loop switch n w z h =
          let all = bound_ok (start_of start (inside s)) _ z h in
          let u = start_found result start (inside s) n.0 (inside_within untagged f s w) all.0 all.1 in
          let t = bound_ok (condition_if_any test all.0.1) _ z all.2 in
          let v = test_as test all.0.1 n.1 u.within t.0 t.1 in
          let e = bound_ok (value_if_any step t.0.1) _ z t.2 in
          let x = effect_as step t.0.1 n.2 v.found.within e.0 e.1 in
          let b = bound_ok (performed result body e.0.1 true switch) _ z e.2 in
          let y = sound_statement body e.0.1 true switch n.3 x.found.within b.0 b.1 in
          given (FoundStatement (Trees.for at from start test semicolon step to body) s loop switch) _ z b.2
          (for_found at from start test semicolon step to body s loop switch w all.0 u t.0 v e.0 x b.0 y)
      sound_statement (Trees.switch at from a to begin items end) s loop switch n w z h =
          let x = bound_ok (value_of_expression a s) _ z h in
          let v = value_as untagged f a s n.0 w x.0 x.1 in
          let y = bound_ok (switched_in (first a) x.0.0) _ z x.2 in
          let k = switched_keeps (first a) x.0.0 y.0 y.1 in
          let b = bound_ok (switch_items result items (inside x.0.1) loop y.0.1 no_labels) _ z y.2 in
          let u = sound_switch_items items (inside x.0.1) loop y.0.1 k no_labels (omega arith) n.1 (inside_within untagged f x.0.1 v.found.within) b.0 b.1 in
          given (FoundStatement (Trees.switch at from a to begin items end) s loop switch) _ z b.2
          (switch_found at from a to begin items end s loop switch x.0 v y.0 y.1 b.0 u)
      sound_statement (Trees.break at semicolon) s loop switch n w z h =
          let x = bound_ok (jump at (loop || switch) Typed.break) _ z h in
          let j = jump_is at (loop || switch) Typed.break x.0 x.1 in
          given (FoundStatement (Trees.break at semicolon) s loop switch) (x.0, s) z x.2
          (subst (λ st. FoundStatement (Trees.break at semicolon) s loop switch (st, s)) j.1
          (nothing_as untagged f s (IsStatementThere (Trees.break at semicolon) loop switch Typed.break) w (λ c. (refl, j.0))))
      sound_statement (Trees.continue at semicolon) s loop switch n w z h =
          let x = bound_ok (jump at loop Typed.continue) _ z h in
          let j = jump_is at loop Typed.continue x.0 x.1 in
          given (FoundStatement (Trees.continue at semicolon) s loop switch) (x.0, s) z x.2
          (subst (λ st. FoundStatement (Trees.continue at semicolon) s loop switch (st, s)) j.1
          (nothing_as untagged f s (IsStatementThere (Trees.continue at semicolon) loop switch Typed.continue) w (λ c. (refl, j.0))))
      sound_statement (Trees.return at None semicolon) s loop switch n w z h =
          let x = bound_ok (returned_nothing at result) _ z h in
          let j = nothing_is at result x.0 x.1 in
          given (FoundStatement (Trees.return at None semicolon) s loop switch) (x.0, s) z x.2
          (subst (λ st. FoundStatement (Trees.return at None semicolon) s loop switch (st, s)) j.1
          (nothing_as untagged f s (IsStatementThere (Trees.return at None semicolon) loop switch (Typed.return None)) w (λ c. (refl, j.0))))
      sound_statement (Trees.return at (Some a) semicolon) s loop switch n w z h =
          let k = not_void at result _ z h in
          let x = bound_ok (value_of_expression a s) _ z k in
          let y = bound_ok (returned_in at result x.0.0) _ z x.2 in
          given (FoundStatement (Trees.return at (Some a) semicolon) s loop switch) (Typed.return (Some y.0), x.0.1) z y.2
          (change_as untagged f s x.0.1 (spoken a) (literals a) (IsValueThere untagged f a x.0.0)
          (IsStatementThere (Trees.return at (Some a) semicolon) loop switch (Typed.return (Some y.0))) [] [] (value_as untagged f a s n w x.0 x.1) refl
          (λ c v.
          let r = returned_made (Erases a c) c at result x.0.0 v y.0 y.1 in
          ((y.0, refl, r.0), (r.1, r.2))))

      pub sound_item : (e : Trees.BlockItem) (s : Scope) (loop switch : Bool) → IsItemInRange f.ends (length f.records) e → IsWithin untagged f s → (z : Statements × Scope)
          → item_in result e s loop switch ≡ Ok z → FoundItem e s loop switch z
      sound_item (Trees.local d) s loop switch n w z h =
          as_said untagged f s z.1 _ _ _ (IsItemFound (Trees.local d) s loop switch z.0 z.1) _ _ (declaration_found untagged f d s n w z h) refl
          (λ g l e laid goes v. record { erases = v.declares; is_typed = v.is_typed result loop switch })
      sound_item (Trees.statement a) s loop switch n w z h =
          let st = bound_ok (performed result a s loop switch) _ z h in
          let v = sound_statement a s loop switch n w st.0 st.1 in
          given (FoundItem (Trees.statement a) s loop switch) (Typed.and_statement st.0.0 Typed.no_statements, st.0.1) z st.2
          (as_said untagged f s st.0.1 _ _ _ (IsItemFound (Trees.statement a) s loop switch (Typed.and_statement st.0.0 Typed.no_statements) st.0.1) _ _ v.found
          (sym (append-nil (all_declared st.0.0)))
          (λ g l e laid goes p. record {
            erases = (st.0.0, refl, p.0, same_seen untagged f s st.0.1 v.stays g l);
            is_typed = (p.1, tt);
          }))

      pub sound_items : (items : Trees.BlockItems) (s : Scope) (loop switch : Bool) → AreItemsInRange f.ends (length f.records) items → IsWithin untagged f s → (z : Statements × Scope)
          → items_in result items s loop switch ≡ Ok z → FoundItems items s loop switch z
      sound_items Trees.no_block_items s loop switch n w z h =
          given (FoundItems Trees.no_block_items s loop switch) (Typed.no_statements, s) z h
          (nothing_in untagged f s _ w (λ g l. record { erase = refl; is_typed = tt }))
      sound_items (Trees.and_block_item e more) s loop switch n w z h =
          let own = bound_ok (item_in result e s loop switch) _ z h in
          let v = sound_item e s loop switch n.0 w own.0 own.1 in
          let rest = bound_ok (items_in result more own.0.1 loop switch) _ z own.2 in
          let u = sound_items more own.0.1 loop switch n.1 v.within rest.0 rest.1 in
          let all = followed_by own.0.0 rest.0.0 in
          given (FoundItems (Trees.and_block_item e more) s loop switch) (all, rest.0.1) z rest.2
          (as_said untagged f s rest.0.1 _ _ _ (AreItemsFound (Trees.and_block_item e more) s loop switch all) _ _
          (then_in untagged f s own.0.1 rest.0.1 _ _ _ _ _ _ (AreItemsFound (Trees.and_block_item e more) s loop switch all) _ _ v u
          (λ g l e laid goes one others. record {
            erase = (own.0.0, rest.0.0, seen own.0.1 g l, refl, one.erases, others.erase);
            is_typed = typed_then (declared (seen s g l)) result loop switch own.0.0 rest.0.0 one.is_typed others.is_typed;
          })) (sym (declared_then own.0.0 rest.0.0)) (λ g l e laid goes a. a))

      sound_switch_items : (items : Trees.SwitchItems) (s : Scope) (loop : Bool) (kind : IntKind) → ((v : ℕ) → as_kind kind (as_kind kind v) ≡ as_kind kind v)
          → (before : Labels) → before.defaults ≤ 1 → AreSwitchItemsInRange f.ends (length f.records) items → IsWithin untagged f s → (z : (Statements × Arms) × Scope)
          → switch_items result items s loop kind before ≡ Ok z → FoundSwitchItems items s loop kind before z
      sound_switch_items Trees.no_switch_items s loop kind k before few n w z h =
          given (FoundSwitchItems Trees.no_switch_items s loop kind before) ((Typed.no_statements, Typed.no_arms), s) z h (record {
            found = nothing_in untagged f s _ w (λ g l. record { erase = (refl, refl); is_typed = tt; arms_typed = tt });
            counted = record { fresh = tt; values = All-nil (λ v. as_kind kind v ≡ v); bounded = omega (arith, few) };
          })
      sound_switch_items (Trees.and_switch_item item more) s loop kind k before few n w z h =
          let own = bound_ok (switch_item result item s loop kind before) _ z h in
          let v = sound_switch_item item s loop kind k before n.0 w own.0 own.1 in
          let rest = bound_ok (switch_items result more own.0.1 loop kind own.0.0.1.all) _ z own.2 in
          let u = sound_switch_items more own.0.1 loop kind k own.0.0.1.all (v.counted.bounded few) n.1 v.found.within rest.0 rest.1 in
          given (FoundSwitchItems (Trees.and_switch_item item more) s loop kind before) _ z rest.2
          (switch_items_then item more s loop kind before few own.0 v rest.0 u)

      pub sound_switch_item : (item : Trees.SwitchItem) (s : Scope) (loop : Bool) (kind : IntKind) → ((v : ℕ) → as_kind kind (as_kind kind v) ≡ as_kind kind v)
          → (before : Labels) → IsSwitchItemInRange f.ends (length f.records) item → IsWithin untagged f s → (z : (Statements × Found) × Scope)
          → switch_item result item s loop kind before ≡ Ok z → FoundSwitchItem item s loop kind before z
      sound_switch_item (Trees.local_switch_item d) s loop kind k before n w z h =
          let own = bound_ok (local_declaration d s) _ z h in
          let v = declaration_found untagged f d s n w own.0 own.1 in
          given (FoundSwitchItem (Trees.local_switch_item d) s loop kind before) ((own.0.0, record { cases = []; defaults = 0; all = before }), own.0.1) z own.2
          (record {
            found = as_said untagged f s own.0.1 _ _ _ (IsSwitchItemFound (Trees.local_switch_item d) s loop kind [] 0 own.0.0 own.0.1) _ _ v refl
                (λ g l e laid goes v. record { erases = (refl, refl, v.declares); is_typed = v.is_typed result loop true });
            counted = none_counted kind before;
          })
      sound_switch_item (Trees.labelled labels a) s loop kind k before n w z h =
          let all = bound_ok (in_scope s (labels_in labels s kind before)) _ z h in
          let c = bound_ok (labels_in labels s kind before) _ all.0 all.1 in
          let v = labels_found untagged f labels s kind k before n.0 w c.0 c.1 in
          let m = moved s c.0.1 in
          let there : (performed result a m loop true >>= λ st. Ok ((Typed.and_statement st.0 Typed.no_statements, c.0.0), st.1)) ≡ Ok z =
          labels_there (c.0.0, m) all.0 c.2 (λ all. performed result a all.1 loop true >>= λ st. Ok
          ((Typed.and_statement st.0 Typed.no_statements, all.0), st.1)) z all.2 in
          let st = bound_ok (performed result a m loop true) _ z there in
          let u = sound_statement a m loop true n.1 v.found.found.within st.0 st.1 in
          let own = Typed.and_statement st.0.0 Typed.no_statements in
          given (FoundSwitchItem (Trees.labelled labels a) s loop kind before) ((own, c.0.0), st.0.1) z st.2 (record {
            found = as_said untagged f s st.0.1 _ _ _ (IsSwitchItemFound (Trees.labelled labels a) s loop kind c.0.0.cases c.0.0.defaults own st.0.1) _ _
                (then_in untagged f s m st.0.1 _ _ [] _ _ _
                (IsSwitchItemFound (Trees.labelled labels a) s loop kind c.0.0.cases c.0.0.defaults own st.0.1) [] _ v.found.found u.found
                (λ g l e laid goes p q. record {
                  erases = (p, (st.0.0, refl, q.0), same_seen untagged f m st.0.1 u.stays g l);
                  is_typed = (q.1, tt);
                })) (sym (append-nil (all_declared st.0.0))) (λ g l e laid goes a. a);
            counted = v.counted;
          })
