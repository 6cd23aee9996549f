-- Initializers and statements are well typed where records, objects and functions have other numbers.
use Rattle.std.proofs.Common.{◌≡◌, ◌∙◌, ℕ, ◌≤◌, ◌<◌, Bool, true, false, refl, sym, ap, subst, List, [], ◌∷◌, length, map}
use Rattle.std.proofs.lemmas.List.Elements.{recursion_from_All, All-from_recursion}
use Rattle.std.specs.Prelude.{Option, Some, None}
use Rattle.std.specs.List.{AllByRecursion}
use Rattle.std.specs.Option.{option_map}
use Rattle.c_types.specs.Types.{CType}
use Rattle.c_types.specs.Objects.{is_object}
use Rattle.c_numbers.specs.TypeNumbers.Renumbered.{renumbered}
use Rattle.c_typed.specs.Constants.{ty}
use Rattle.c_typed.specs.Mapped.{Renaming, mapped, mapped_value, mapped_part, mapped_initializer, mapped_statement, mapped_statements, mapped_arms}
use Rattle.c_typed.specs.Trees as Trees
use Rattle.c_typed.specs.Typed.{Declared, is_bare, IsConverted, IsTyped}
use Rattle.c_typed.specs.TypedStatements.{declared_by, declared_by_arms, all_cases, defaults, IsTypedValue, IsTypedPart, AreRising, IsTypedInitializer}
use Rattle.c_typed.specs.TypedStatements as Typed
use Rattle.c_typed.specs.TypedStatements.{IsInitialized, IsCondition, IsEffect, AreCases, IsReturned, IsTypedStatement, AreTyped, AreTypedArms}
use Rattle.c_well_typed.proofs.Labels.{declared_mapped, declared_arms_mapped, cases_mapped, defaults_mapped}
use Rattle.c_well_typed.proofs.RenumberedTypes.{scalar_same}
use Rattle.c_well_typed.proofs.Renumbered.{m, AreRenumbered, again, path_again, path_type_is, bare_fits, bare_same, tested_again, converted_again}
use Rattle.c_well_typed.proofs.Renumbered.{converted_fits}
use Rattle.c_well_typed.proofs.Renumbered.{promoted_fits, promoted_again, type_is}

module _ (f object callee : ℕ → ℕ) (d e : Declared) (a : AreRenumbered f object callee d e) where
  abbrev R : CType → CType
  R t = renumbered f t

  abbrev M : Renaming CType CType
  M = m f object callee

  one_again : (x : Trees.Expression CType) → is_bare x ≡ true → IsTyped d x
      → IsTyped e (mapped M x)
  one_again x b h = again f object callee d e a x (bare_fits f object callee x b) h

  to_again : (x : Trees.Expression CType) (t : CType) → IsTyped d x → IsConverted x t
      → IsTyped e (mapped M x)
  to_again x t h c = again f object callee d e a x (converted_fits f object callee d e a x t h c) h

  -- ---- initializers

  value_again : (t : CType) (v : Trees.PartValue CType) → IsTypedValue d t v → IsTypedValue e (R t) (mapped_value M v)
  value_again t (Trees.value x) h = (to_again x t h.0 h.2, scalar_same f t ∙ h.1, converted_again f object callee x t h.2)
  value_again t (Trees.record_of p) h =
      (f h.0, path_again f object callee d e a p h.1, ap R h.2, path_type_is f object callee p ∙ ap R h.3)
  value_again t (Trees.text bytes) h = (h.0, h.1, ap R h.2, h.3, h.4)

  module _ (t : CType) (w : is_object (length d.records) t ≡ true) where
    parts_again : (all : List (Trees.Part CType)) → AllByRecursion (IsTypedPart d t) all → AllByRecursion (IsTypedPart e (R t)) (map (mapped_part M) all)
    parts_again [] h = tt
    parts_again (part ∷ all) h =
        ((R h.0.0, a.parts t h.0.0 part.offset w h.0.1, value_again h.0.0 part.value h.0.2), parts_again all h.1)

    behind : (offset : ℕ) (all : List (Trees.Part CType)) → AllByRecursion (λ (next : Trees.Part CType). offset < next.offset) all
        → AllByRecursion (λ (next : Trees.Part CType). offset < next.offset) (map (mapped_part M) all)
    behind offset [] h = tt
    behind offset (part ∷ all) h = (h.0, behind offset all h.1)

    rising_again : (all : List (Trees.Part CType)) → AreRising d all → AreRising e (map (mapped_part M) all)
    rising_again [] h = tt
    rising_again (part ∷ all) h =
        let P = λ (next : Trees.Part CType). part.offset < next.offset in
        (All-from_recursion P (map (mapped_part M) all) (behind part.offset all (recursion_from_All P all h.0)), rising_again all h.1)

    pub initializer_again : (i : Trees.Initializer CType) → IsTypedInitializer d t i → IsTypedInitializer e (R t) (mapped_initializer M i)
    initializer_again (Trees.whole x) h = value_again t (Trees.value x) h
    initializer_again (Trees.whole_record p) h = value_again t (Trees.record_of p) h
    initializer_again (Trees.parts all) h = (
      scalar_same f t ∙ h.0,
      All-from_recursion (IsTypedPart e (R t)) (map (mapped_part M) all) (parts_again all (recursion_from_All (IsTypedPart d t) all h.1)),
      rising_again all h.2,
    )

    initial_again : (i : Option (Trees.Initializer CType)) → IsInitialized d t i → IsInitialized e (R t) (option_map (mapped_initializer M) i)
    initial_again None h = h
    initial_again (Some i) h = initializer_again i h

  -- ---- statements

  condition_again : (x : Option (Trees.Expression CType)) → IsCondition d x → IsCondition e (option_map (mapped M) x)
  condition_again None h = h
  condition_again (Some x) h = (one_again x h.1.0 h.0, tested_again f object callee x h.1)

  effect_again : (x : Option (Trees.Expression CType)) → IsEffect d x → IsEffect e (option_map (mapped M) x)
  effect_again None h = h
  effect_again (Some x) h = (one_again x h.1 h.0, bare_same f object callee x ∙ h.1)

  returned_again : (result : CType) (x : Option (Trees.Expression CType)) → IsReturned d result x → IsReturned e (R result) (option_map (mapped M) x)
  returned_again result None h = ap R h
  returned_again result (Some x) h = (to_again x result h.0 h.1, converted_again f object callee x result h.1)

  cases_again : (t : CType) (cases : List ℕ) → AreCases d t cases → AreCases e (R t) cases
  cases_again t cases h = (h.0, ap R h.1, h.2)

  module _ (result : CType) where
    mutual
      pub statement_again : (s : Trees.Statement CType) (loop switch : Bool) → IsTypedStatement d result loop switch s
          → IsTypedStatement e (R result) loop switch (mapped_statement M s)
      statement_again (Trees.evaluate x) loop switch h = (one_again x h.1 h.0, bare_same f object callee x ∙ h.1)
      statement_again (Trees.block locals all) loop switch h = (h.0 ∙ sym (declared_mapped M all), statements_again all loop switch h.1)
      statement_again (Trees.declare n initial) loop switch h =
          (R h.0, a.locals n h.0 h.1, a.whole h.0 h.2, initial_again h.0 h.2 initial h.3)
      statement_again (Trees.when x one) loop switch h =
          (one_again x h.1.0 h.0, tested_again f object callee x h.1, statement_again one loop switch h.2)
      statement_again (Trees.when_else x one other) loop switch h =
          (one_again x h.1.0 h.0, tested_again f object callee x h.1, statement_again one loop switch h.2, statement_again other loop switch h.3)
      statement_again (Trees.while x body) loop switch h =
          (one_again x h.1.0 h.0, tested_again f object callee x h.1, statement_again body true switch h.2)
      statement_again (Trees.do_while body x) loop switch h =
          (statement_again body true switch h.0, one_again x h.2.0 h.1, tested_again f object callee x h.2)
      statement_again (Trees.for locals start test step body) loop switch h = (
        h.0 ∙ sym (declared_mapped M start),
        statements_again start false false h.1,
        condition_again test h.2,
        effect_again step h.3,
        statement_again body true switch h.4,
      )
      statement_again (Trees.switch x locals arms) loop switch h = (
        again f object callee d e a x (promoted_fits f object callee d e a x (ty x) h.0 h.1 refl) h.0,
        promoted_again f object callee x (ty x) h.1 ∙ ap Some (sym (type_is f object callee x)),
        h.2 ∙ sym (declared_arms_mapped M arms),
        rw (type_is f object callee x) (subst (AreCases e (R (ty x))) (sym (cases_mapped M arms)) (cases_again (ty x) (all_cases arms) h.3)),
        subst Typed.AreDifferent (sym (cases_mapped M arms)) h.4,
        subst (λ n. n ≤ 1) (sym (defaults_mapped M arms)) h.5,
        arms_again arms loop h.6,
      )
      statement_again Trees.break loop switch h = h
      statement_again Trees.continue loop switch h = h
      statement_again (Trees.return x) loop switch h = returned_again result x h

      statements_again : (all : Trees.Statements CType) (loop switch : Bool) → AreTyped d result loop switch all
          → AreTyped e (R result) loop switch (mapped_statements M all)
      statements_again Trees.no_statements loop switch h = h
      statements_again (Trees.and_statement s more) loop switch h = (statement_again s loop switch h.0, statements_again more loop switch h.1)

      arms_again : (arms : Trees.Arms CType) (loop : Bool) → AreTypedArms d result loop arms → AreTypedArms e (R result) loop (mapped_arms M arms)
      arms_again Trees.no_arms loop h = h
      arms_again (Trees.and_arm cases is_default all more) loop h = (statements_again all loop true h.0, arms_again more loop h.1)
