-- Initializers and statements are well typed where allocations are recognised in them.
use Rattle.std.proofs.Common.{◌≡◌, ◌∙◌, ℕ, ◌≤◌, ◌<◌, Bool, true, false, sym, subst, List, [], ◌∷◌, map}
use Rattle.std.proofs.lemmas.List.Elements.{recursion_from_All, All-from_recursion}
use Rattle.std.specs.Prelude.{Option, Some, None}
use Rattle.std.specs.List.{AllByRecursion}
use Rattle.std.specs.Option.{option_map}
use Rattle.c_types.specs.Types.{CType}
use Rattle.c_typed.specs.Constants.{ty}
use Rattle.c_typed.specs.Mapped.{of_types, mapped_value, mapped_part, mapped_initializer, mapped_statement, mapped_statements, mapped_arms}
use Rattle.c_typed.specs.Trees as Trees
use Rattle.c_typed.specs.Typed.{Declared}
use Rattle.c_typed.specs.TypedStatements.{declared_by, declared_by_arms, all_cases, defaults, IsTypedValue, IsTypedPart, AreRising, IsTypedInitializer}
use Rattle.c_typed.specs.TypedStatements as Typed
use Rattle.c_typed.specs.TypedStatements.{IsInitialized, IsCondition, IsEffect, AreCases, IsReturned, IsTypedStatement, AreTyped, AreTypedArms}
use Rattle.c_erasure.specs.Erasure.{typed}
use Rattle.c_erasure.specs.Noted.{Noted, Expression}
use Rattle.c_erasure.specs.Recognised.{recognised}
use Rattle.c_erasure.specs.Units.{recognised_value, recognised_part, recognised_initializer, recognised_statement, recognised_statements, recognised_arms}
use Rattle.c_well_typed.proofs.Labels.{declared_mapped, declared_arms_mapped, cases_mapped, defaults_mapped, declared_recognised, declared_arms_recognised}
use Rattle.c_well_typed.proofs.Labels.{cases_recognised, defaults_recognised}
use Rattle.c_well_typed.proofs.Nulls.{type_stays}
use Rattle.c_well_typed.proofs.Recognised.{with_complete, path_type_stays, bare_stays, tested_stays, converted_stays, promoted_stays, keeps, keeps_path}
use Rattle.c_well_typed.proofs.StatementNotes.{IsNotedValue, ArePartsNoted, IsNotedInitializer, IsNotedInitial, IsNotedIfAny, IsNotedStatement}
use Rattle.c_well_typed.proofs.StatementNotes.{AreStatementsNoted, AreArmsNoted}

abbrev pub typed_value : Trees.PartValue Noted → Trees.PartValue CType
typed_value = mapped_value (of_types (λ t. t.ty))

abbrev pub typed_part : Trees.Part Noted → Trees.Part CType
typed_part = mapped_part (of_types (λ t. t.ty))

abbrev pub typed_initial : Trees.Initializer Noted → Trees.Initializer CType
typed_initial = mapped_initializer (of_types (λ t. t.ty))

abbrev pub typed_statement : Trees.Statement Noted → Trees.Statement CType
typed_statement = mapped_statement (of_types (λ t. t.ty))

abbrev pub typed_statements : Trees.Statements Noted → Trees.Statements CType
typed_statements = mapped_statements (of_types (λ t. t.ty))

abbrev pub typed_arms : Trees.Arms Noted → Trees.Arms CType
typed_arms = mapped_arms (of_types (λ t. t.ty))

module _ (d : Declared) (count : ℕ) (less : (at : ℕ) → d.complete at ≤ count) where
  abbrev D : Declared
  D = with_complete count d

  -- ---- initializers

  value_keeps : (t : CType) (v : Trees.PartValue Noted) → IsNotedValue count ⊥ v → IsTypedValue d t (typed_value v)
      → IsTypedValue D t (typed_value (recognised_value v))
  value_keeps t (Trees.value e) n h = (keeps d count less e n h.0, h.1, converted_stays d e t h.0 h.2)
  value_keeps t (Trees.record_of p) n h = (h.0, keeps_path d count less p n h.1, h.2, path_type_stays p ∙ h.3)
  value_keeps t (Trees.text bytes) n h = h

  parts_keep : (t : CType) (all : List (Trees.Part Noted)) → ArePartsNoted count ⊥ all → AllByRecursion (IsTypedPart d t) (map typed_part all)
      → AllByRecursion (IsTypedPart D t) (map typed_part (map recognised_part all))
  parts_keep t [] n h = tt
  parts_keep t (part ∷ all) n h = ((h.0.0, h.0.1, value_keeps h.0.0 part.value n.0 h.0.2), parts_keep t all n.1 h.1)

  behind : (offset : ℕ) (all : List (Trees.Part Noted)) → AllByRecursion (λ (next : Trees.Part CType). offset < next.offset) (map typed_part all)
      → AllByRecursion (λ (next : Trees.Part CType). offset < next.offset) (map typed_part (map recognised_part all))
  behind offset [] h = tt
  behind offset (part ∷ all) h = (h.0, behind offset all h.1)

  rising_keep : (all : List (Trees.Part Noted)) → AreRising d (map typed_part all) → AreRising D (map typed_part (map recognised_part all))
  rising_keep [] h = tt
  rising_keep (part ∷ all) h =
      let P = λ (next : Trees.Part CType). part.offset < next.offset in (
        All-from_recursion P (map typed_part (map recognised_part all)) (behind part.offset all (recursion_from_All P (map typed_part all) h.0)),
        rising_keep all h.1,
      )

  pub initializer_keeps : (t : CType) (i : Trees.Initializer Noted) → IsNotedInitializer count ⊥ i → IsTypedInitializer d t (typed_initial i)
      → IsTypedInitializer D t (typed_initial (recognised_initializer i))
  initializer_keeps t (Trees.whole e) n h = value_keeps t (Trees.value e) n h
  initializer_keeps t (Trees.whole_record p) n h = value_keeps t (Trees.record_of p) n h
  initializer_keeps t (Trees.parts all) n h = (
    h.0,
    All-from_recursion (IsTypedPart D t) (map typed_part (map recognised_part all))
        (parts_keep t all n (recursion_from_All (IsTypedPart d t) (map typed_part all) h.1)),
    rising_keep all h.2,
  )

  initial_keeps : (t : CType) (i : Option (Trees.Initializer Noted)) → IsNotedInitial count ⊥ i → IsInitialized d t (option_map typed_initial i)
      → IsInitialized D t (option_map typed_initial (option_map recognised_initializer i))
  initial_keeps t None n h = h
  initial_keeps t (Some i) n h = initializer_keeps t i n h

  -- ---- statements

  condition_keeps : (e : Option Expression) → IsNotedIfAny count ⊥ e → IsCondition d (option_map typed e)
      → IsCondition D (option_map typed (option_map recognised e))
  condition_keeps None n h = h
  condition_keeps (Some e) n h = (keeps d count less e n h.0, tested_stays d e h.1)

  effect_keeps : (e : Option Expression) → IsNotedIfAny count ⊥ e → IsEffect d (option_map typed e) → IsEffect D (option_map typed (option_map recognised e))
  effect_keeps None n h = h
  effect_keeps (Some e) n h = (keeps d count less e n h.0, bare_stays e h.1)

  returned_keeps : (result : CType) (e : Option Expression) → IsNotedIfAny count ⊥ e → IsReturned d result (option_map typed e)
      → IsReturned D result (option_map typed (option_map recognised e))
  returned_keeps result None n h = h
  returned_keeps result (Some e) n h = (keeps d count less e n h.0, converted_stays d e result h.0 h.1)

  abbrev m : Rattle.c_typed.specs.Mapped.Renaming Noted CType
  m = of_types (λ t. t.ty)

  declared_same : (all : Trees.Statements Noted) → declared_by (typed_statements all) ≡ declared_by (typed_statements (recognised_statements all))
  declared_same all = declared_mapped m all ∙ sym (declared_recognised all) ∙ sym (declared_mapped m (recognised_statements all))

  declared_arms_same : (all : Trees.Arms Noted) → declared_by_arms (typed_arms all) ≡ declared_by_arms (typed_arms (recognised_arms all))
  declared_arms_same all = declared_arms_mapped m all ∙ sym (declared_arms_recognised all) ∙ sym (declared_arms_mapped m (recognised_arms all))

  cases_same : (all : Trees.Arms Noted) → all_cases (typed_arms all) ≡ all_cases (typed_arms (recognised_arms all))
  cases_same all = cases_mapped m all ∙ sym (cases_recognised all) ∙ sym (cases_mapped m (recognised_arms all))

  defaults_same : (all : Trees.Arms Noted) → defaults (typed_arms all) ≡ defaults (typed_arms (recognised_arms all))
  defaults_same all = defaults_mapped m all ∙ sym (defaults_recognised all) ∙ sym (defaults_mapped m (recognised_arms all))

  module _ (result : CType) where
    mutual
      pub statement_keeps : (s : Trees.Statement Noted) (loop switch : Bool) → IsNotedStatement count ⊥ s → IsTypedStatement d result loop switch (typed_statement s)
          → IsTypedStatement D result loop switch (typed_statement (recognised_statement s))
      statement_keeps (Trees.evaluate e) loop switch n h = (keeps d count less e n h.0, bare_stays e h.1)
      statement_keeps (Trees.block locals all) loop switch n h = (h.0 ∙ declared_same all, statements_keep all loop switch n h.1)
      statement_keeps (Trees.declare k initial) loop switch n h = (h.0, h.1, h.2, initial_keeps h.0 initial n h.3)
      statement_keeps (Trees.when e one) loop switch n h =
          (keeps d count less e n.0 h.0, tested_stays d e h.1, statement_keeps one loop switch n.1 h.2)
      statement_keeps (Trees.when_else e one other) loop switch n h =
          (keeps d count less e n.0 h.0, tested_stays d e h.1, statement_keeps one loop switch n.1 h.2, statement_keeps other loop switch n.2 h.3)
      statement_keeps (Trees.while e body) loop switch n h =
          (keeps d count less e n.0 h.0, tested_stays d e h.1, statement_keeps body true switch n.1 h.2)
      statement_keeps (Trees.do_while body e) loop switch n h =
          (statement_keeps body true switch n.0 h.0, keeps d count less e n.1 h.1, tested_stays d e h.2)
      statement_keeps (Trees.for locals start test step body) loop switch n h = (
        h.0 ∙ declared_same start,
        statements_keep start false false n.0 h.1,
        condition_keeps test n.1 h.2,
        effect_keeps step n.2 h.3,
        statement_keeps body true switch n.3 h.4,
      )
      statement_keeps (Trees.switch e locals arms) loop switch n h = (
        keeps d count less e n.0 h.0,
        promoted_stays d e h.0 h.1,
        h.2 ∙ declared_arms_same arms,
        rw (type_stays e) (subst (AreCases d (ty (typed e))) (cases_same arms) h.3),
        subst Typed.AreDifferent (cases_same arms) h.4,
        subst (λ n. n ≤ 1) (defaults_same arms) h.5,
        arms_keep arms loop n.1 h.6,
      )
      statement_keeps Trees.break loop switch n h = h
      statement_keeps Trees.continue loop switch n h = h
      statement_keeps (Trees.return e) loop switch n h = returned_keeps result e n h

      statements_keep : (all : Trees.Statements Noted) (loop switch : Bool) → AreStatementsNoted count ⊥ all → AreTyped d result loop switch (typed_statements all)
          → AreTyped D result loop switch (typed_statements (recognised_statements all))
      statements_keep Trees.no_statements loop switch n h = h
      statements_keep (Trees.and_statement s more) loop switch n h = (statement_keeps s loop switch n.0 h.0, statements_keep more loop switch n.1 h.1)

      arms_keep : (arms : Trees.Arms Noted) (loop : Bool) → AreArmsNoted count ⊥ arms → AreTypedArms d result loop (typed_arms arms)
          → AreTypedArms D result loop (typed_arms (recognised_arms arms))
      arms_keep Trees.no_arms loop n h = h
      arms_keep (Trees.and_arm cases is_default all more) loop n h = (statements_keep all loop true n.0 h.0, arms_keep more loop n.1 h.1)
