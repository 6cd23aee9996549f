-- Well typed initializers and statements refer to the same objects and functions where their allocations and null pointers are recognised
-- (C99 6.7.8, 6.8).
use Rattle.std.proofs.Common.{◌≡◌, Bool, true, false, refl, List, [], ◌∷◌, ◌++◌, map, flat_map}
use Rattle.std.proofs.lemmas.List.Elements.{recursion_from_All}
use Rattle.std.specs.Prelude.{Option, Some, None}
use Rattle.std.specs.List.{AllByRecursion}
use Rattle.std.specs.Option.{option_map}
use Rattle.c_types.specs.Types.{CType}
use Rattle.c_typed.specs.Trees as Trees
use Rattle.c_typed.specs.Constants.{ty}
use Rattle.c_typed.specs.References.{Reference, references, references_by_value, references_by_initializer, references_by_initial, references_if_any}
use Rattle.c_typed.specs.References.{references_by_statement, references_by_statements, references_by_arms}
use Rattle.c_typed.specs.Typed.{Declared, bare_ty}
use Rattle.c_typed.specs.TypedStatements.{IsTypedValue, IsTypedPart, IsTypedInitializer, IsInitialized, IsCondition, IsEffect, IsReturned, IsTypedStatement}
use Rattle.c_typed.specs.TypedStatements.{AreTyped, AreTypedArms}
use Rattle.c_erasure.specs.Erasure.{typed}
use Rattle.c_erasure.specs.Noted.{Noted, Expression}
use Rattle.c_erasure.specs.Recognised.{recognised}
use Rattle.c_erasure.specs.Units.{recognised_value, recognised_part, recognised_initializer, recognised_statement, recognised_statements, recognised_arms}
use Rattle.c_well_typed.proofs.Fitting.{promoting_is}
use Rattle.c_well_typed.proofs.RecognisedStatements.{typed_value, typed_part, typed_initial, typed_statement, typed_statements, typed_arms}
use Rattle.c_well_typed.proofs.PrintableObjects.Kept.{bare_settled, number_settled, converted_settled, kept, path_kept}

module _ (d : Declared) where
  two : (a b c e : List Reference) → a ≡ c → b ≡ e → a ++ b ≡ c ++ e
  two a b c e h k = rw (h, k) refl

  -- ---- initializers

  value_kept : (t : CType) (v : Trees.PartValue Noted) → IsTypedValue d t (typed_value v) → references_by_value (recognised_value v) ≡ references_by_value v
  value_kept t (Trees.value e) h = kept d e h.0 (converted_settled (typed e) t h.2)
  value_kept t (Trees.record_of p) h = path_kept d p h.1
  value_kept t (Trees.text bytes) h = refl

  abbrev of_parts : List (Trees.Part Noted) → List Reference
  of_parts all = flat_map (λ part. references_by_value part.value) all

  parts_kept : (t : CType) (all : List (Trees.Part Noted)) → AllByRecursion (IsTypedPart d t) (map typed_part all)
      → of_parts (map recognised_part all) ≡ of_parts all
  parts_kept t [] h = refl
  parts_kept t (part ∷ all) h =
      two (references_by_value (recognised_value part.value)) (of_parts (map recognised_part all)) (references_by_value part.value) (of_parts all)
      (value_kept h.0.0 part.value h.0.2) (parts_kept t all h.1)

  pub initializer_kept : (t : CType) (i : Trees.Initializer Noted) → IsTypedInitializer d t (typed_initial i)
      → references_by_initializer (recognised_initializer i) ≡ references_by_initializer i
  initializer_kept t (Trees.whole e) h = value_kept t (Trees.value e) h
  initializer_kept t (Trees.whole_record p) h = value_kept t (Trees.record_of p) h
  initializer_kept t (Trees.parts all) h = parts_kept t all (recursion_from_All (IsTypedPart d t) (map typed_part all) h.1)

  initial_kept : (t : CType) (i : Option (Trees.Initializer Noted)) → IsInitialized d t (option_map typed_initial i)
      → references_by_initial (option_map recognised_initializer i) ≡ references_by_initial i
  initial_kept t None h = refl
  initial_kept t (Some i) h = initializer_kept t i h

  -- ---- statements

  condition_kept : (e : Option Expression) → IsCondition d (option_map typed e) → references_if_any (option_map recognised e) ≡ references_if_any e
  condition_kept None h = refl
  condition_kept (Some e) h = kept d e h.0 (bare_settled (typed e) h.1.0)

  effect_kept : (e : Option Expression) → IsEffect d (option_map typed e) → references_if_any (option_map recognised e) ≡ references_if_any e
  effect_kept None h = refl
  effect_kept (Some e) h = kept d e h.0 (bare_settled (typed e) h.1)

  module _ (result : CType) where
    returned_kept : (e : Option Expression) → IsReturned d result (option_map typed e) → references_if_any (option_map recognised e) ≡ references_if_any e
    returned_kept None h = refl
    returned_kept (Some e) h = kept d e h.0 (converted_settled (typed e) result h.1)

    abbrev Old : Trees.Statement Noted → List Reference
    Old s = references_by_statement s

    abbrev New : Trees.Statement Noted → List Reference
    New s = references_by_statement (recognised_statement s)

    mutual
      pub statement_kept : (s : Trees.Statement Noted) (loop switch : Bool) → IsTypedStatement d result loop switch (typed_statement s)
          → references_by_statement (recognised_statement s) ≡ references_by_statement s
      statement_kept (Trees.evaluate e) loop switch h = effect_kept (Some e) h
      statement_kept (Trees.block locals all) loop switch h = statements_kept all loop switch h.1
      statement_kept (Trees.declare n initial) loop switch h = initial_kept h.0 initial h.3
      statement_kept (Trees.when e one) loop switch h =
          two (references (recognised e)) (New one) (references e) (Old one) (condition_kept (Some e) (h.0, h.1)) (statement_kept one loop switch h.2)
      statement_kept (Trees.when_else e one other) loop switch h =
          two (references (recognised e) ++ New one) (New other) (references e ++ Old one) (Old other)
          (two (references (recognised e)) (New one) (references e) (Old one) (condition_kept (Some e) (h.0, h.1)) (statement_kept one loop switch h.2))
          (statement_kept other loop switch h.3)
      statement_kept (Trees.while e body) loop switch h =
          two (references (recognised e)) (New body) (references e) (Old body) (condition_kept (Some e) (h.0, h.1)) (statement_kept body true switch h.2)
      statement_kept (Trees.do_while body e) loop switch h =
          two (New body) (references (recognised e)) (Old body) (references e) (statement_kept body true switch h.0) (condition_kept (Some e) (h.1, h.2))
      statement_kept (Trees.for locals start test step body) loop switch h =
          let s = references_by_statements start in
          let t = references_if_any test in
          let e = references_if_any step in
          let s' = references_by_statements (recognised_statements start) in
          let t' = references_if_any (option_map recognised test) in
          let e' = references_if_any (option_map recognised step) in
          two (s' ++ t' ++ e') (New body) (s ++ t ++ e) (Old body)
          (two (s' ++ t') e' (s ++ t) e (two s' t' s t (statements_kept start false false h.1) (condition_kept test h.2)) (effect_kept step h.3))
          (statement_kept body true switch h.4)
      statement_kept (Trees.switch e locals arms) loop switch h =
          two (references (recognised e)) (references_by_arms (recognised_arms arms)) (references e) (references_by_arms arms)
          (kept d e h.0 (number_settled (typed e) (promoting_is (bare_ty (typed e)) (ty (typed e)) h.1).1)) (arms_kept arms loop h.6)
      statement_kept Trees.break loop switch h = refl
      statement_kept Trees.continue loop switch h = refl
      statement_kept (Trees.return e) loop switch h = returned_kept e h

      statements_kept : (all : Trees.Statements Noted) (loop switch : Bool) → AreTyped d result loop switch (typed_statements all)
          → references_by_statements (recognised_statements all) ≡ references_by_statements all
      statements_kept Trees.no_statements loop switch h = refl
      statements_kept (Trees.and_statement s more) loop switch h =
          two (New s) (references_by_statements (recognised_statements more)) (Old s) (references_by_statements more) (statement_kept s loop switch h.0)
          (statements_kept more loop switch h.1)

      arms_kept : (arms : Trees.Arms Noted) (loop : Bool) → AreTypedArms d result loop (typed_arms arms)
          → references_by_arms (recognised_arms arms) ≡ references_by_arms arms
      arms_kept Trees.no_arms loop h = refl
      arms_kept (Trees.and_arm cases is_default all more) loop h =
          two (references_by_statements (recognised_statements all)) (references_by_arms (recognised_arms more)) (references_by_statements all)
          (references_by_arms more) (statements_kept all loop true h.0) (arms_kept more loop h.1)
