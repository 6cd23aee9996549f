-- The types of the nodes of typed statements and initializers (C99 6.7.8, 6.8) have what all types have that functions and arrays can have
-- (`IsWellMade`).
use Rattle.std.proofs.Common.{◌≡◌, ℕ, Bool, true, false, sym, subst, List, [], ◌∷◌, ◌++◌, map, flat_map}
use Rattle.std.proofs.lemmas.List.Elements.{recursion_from_All}
use Rattle.std.specs.Prelude.{Option, Some, None, slice_get}
use Rattle.std.specs.List.{AllByRecursion}
use Rattle.std.specs.Option.{option_map}
use Rattle.c_types.specs.Types.{CType}
use Rattle.c_typed.specs.Trees as Trees
use Rattle.c_typed.specs.Conversions.{is_integer, is_scalar}
use Rattle.c_typed.specs.Constants.{ty}
use Rattle.c_typed.specs.Parts.{IsPart, itself}
use Rattle.c_typed.specs.Typed.{Declared, bare_ty, field_type}
use Rattle.c_typed.specs.TypedStatements.{IsTypedValue, IsTypedPart, IsTypedInitializer, IsInitialized, IsCondition, IsEffect, IsReturned, IsTypedStatement}
use Rattle.c_typed.specs.TypedStatements.{AreTyped, AreTypedArms}
use Rattle.c_typed.specs.Walk.{types_in, types_in_value, types_in_initializer, types_in_initial, types_if_any, types_in_statement}
use Rattle.c_typed.specs.Walk.{types_in_statements, types_in_arms}
use Rattle.c_erasure.specs.Erasure.{typed}
use Rattle.c_erasure.specs.Noted.{Noted, Expression}
use Rattle.c_well_typed.proofs.Fitting.{promoting_is}
use Rattle.c_well_typed.proofs.Leaves.{InValue, InParts, InInitializer, InInitial, IfAny, InStatement, InStatements, InArms}
use Rattle.c_well_typed.proofs.MadeNodes.{AreWhole, joined, bare_whole, number_whole, all_whole, path_whole}
use Rattle.c_well_typed.proofs.RecognisedStatements.{typed_value, typed_part, typed_initial, typed_statement, typed_statements, typed_arms}
use Rattle.c_well_typed.proofs.WellMade.{IsMade}

module _ (d : Declared) (IsElement : CType → Type 0) (functions : (n : ℕ) (t : CType) → slice_get d.functions n ≡ Some t → IsMade IsElement t)
    (fields : (r k : ℕ) (t : CType) → field_type d.records r k ≡ Some t → IsMade IsElement t)
    (H : CType → Type 0) (of_made : (t : CType) → IsMade IsElement t → H t) where
  abbrev W : CType → Type 0
  W = IsMade IsElement

  abbrev A : List Noted → Type 0
  A = AreWhole H

  -- ---- initializers

  -- the numbers and pointers in an object of that type
  abbrev pub HasParts : CType → Type 0
  HasParts t = (at : ℕ) (u : CType) → IsPart d.records t at u → is_scalar u ≡ true → H u

  value_whole : (t : CType) (v : Trees.PartValue Noted) → (is_scalar t ≡ true → H t) → IsTypedValue d t (typed_value v) → InValue W W v
      → A (types_in_value v)
  value_whole t (Trees.value e) s h l = all_whole d IsElement functions fields H of_made e h.0 l (subst H (sym h.2.1) (s h.1))
  value_whole t (Trees.record_of p) s h l = path_whole d IsElement functions fields H of_made p h.1 l
  value_whole t (Trees.text bytes) s h l = tt

  parts_whole : (t : CType) (all : List (Trees.Part Noted)) → HasParts t → AllByRecursion (IsTypedPart d t) (map typed_part all) → InParts W W all
      → A (flat_map (λ part. types_in_value part.value) all)
  parts_whole t [] s h l = tt
  parts_whole t (part ∷ all) s h l =
      joined H (types_in_value part.value) (flat_map (λ part. types_in_value part.value) all)
      (value_whole h.0.0 part.value (s part.offset h.0.0 h.0.1) h.0.2 l.0) (parts_whole t all s h.1 l.1)

  pub initializer_whole : (t : CType) (i : Trees.Initializer Noted) → HasParts t → IsTypedInitializer d t (typed_initial i) → InInitializer W W i
      → A (types_in_initializer i)
  initializer_whole t (Trees.whole e) s h l = value_whole t (Trees.value e) (s 0 t (itself t)) h l
  initializer_whole t (Trees.whole_record p) s h l = value_whole t (Trees.record_of p) (s 0 t (itself t)) h l
  initializer_whole t (Trees.parts all) s h l = parts_whole t all s (recursion_from_All (IsTypedPart d t) (map typed_part all) h.1) l

  initial_whole : (t : CType) (i : Option (Trees.Initializer Noted)) → HasParts t → IsInitialized d t (option_map typed_initial i) → InInitial W W i
      → A (types_in_initial i)
  initial_whole t None s h l = tt
  initial_whole t (Some i) s h l = initializer_whole t i s h l

  -- ---- statements

  condition_whole : (e : Option Expression) → IsCondition d (option_map typed e) → IfAny W W e → A (types_if_any e)
  condition_whole None h l = tt
  condition_whole (Some e) h l = all_whole d IsElement functions fields H of_made e h.0 l (bare_whole d IsElement functions fields H of_made e h.1.0 h.0 l)

  effect_whole : (e : Option Expression) → IsEffect d (option_map typed e) → IfAny W W e → A (types_if_any e)
  effect_whole None h l = tt
  effect_whole (Some e) h l = all_whole d IsElement functions fields H of_made e h.0 l (bare_whole d IsElement functions fields H of_made e h.1 h.0 l)

  switched : (e : Expression) → is_integer (ty (typed e)) ≡ true → H (ty (typed e))
  switched e i = number_whole d IsElement functions fields H of_made (ty (typed e)) i

  module _ (IsLocal : ℕ → Type 0) (result : CType) (whole : H result) (locals : (n : ℕ) (t : CType) → slice_get d.locals n ≡ Some t → HasParts t) where
    returned_whole : (e : Option Expression) → IsReturned d result (option_map typed e) → IfAny W W e → A (types_if_any e)
    returned_whole None h l = tt
    returned_whole (Some e) h l = all_whole d IsElement functions fields H of_made e h.0 l (subst H (sym h.1.1) whole)

    mutual
      pub statement_whole : (s : Trees.Statement Noted) (loop switch : Bool) → IsTypedStatement d result loop switch (typed_statement s) → InStatement W W IsLocal s
          → A (types_in_statement s)
      statement_whole (Trees.evaluate e) loop switch h l = effect_whole (Some e) h l
      statement_whole (Trees.block locals all) loop switch h l = statements_whole all loop switch h.1 l
      statement_whole (Trees.declare n initial) loop switch h l = initial_whole h.0 initial (locals n h.0 h.1) h.3 l.1
      statement_whole (Trees.when e one) loop switch h l =
          joined H (types_in e) (types_in_statement one) (condition_whole (Some e) (h.0, h.1) l.0) (statement_whole one loop switch h.2 l.1)
      statement_whole (Trees.when_else e one other) loop switch h l =
          joined H (types_in e ++ types_in_statement one) (types_in_statement other)
          (joined H (types_in e) (types_in_statement one) (condition_whole (Some e) (h.0, h.1) l.0) (statement_whole one loop switch h.2 l.1))
          (statement_whole other loop switch h.3 l.2)
      statement_whole (Trees.while e body) loop switch h l =
          joined H (types_in e) (types_in_statement body) (condition_whole (Some e) (h.0, h.1) l.0) (statement_whole body true switch h.2 l.1)
      statement_whole (Trees.do_while body e) loop switch h l =
          joined H (types_in_statement body) (types_in e) (statement_whole body true switch h.0 l.0) (condition_whole (Some e) (h.1, h.2) l.1)
      statement_whole (Trees.for locals start test step body) loop switch h l =
          joined H (types_in_statements start ++ types_if_any test ++ types_if_any step) (types_in_statement body)
          (joined H (types_in_statements start ++ types_if_any test) (types_if_any step)
          (joined H (types_in_statements start) (types_if_any test) (statements_whole start false false h.1 l.0) (condition_whole test h.2 l.1))
          (effect_whole step h.3 l.2))
          (statement_whole body true switch h.4 l.3)
      statement_whole (Trees.switch e locals arms) loop switch h l =
          joined H (types_in e) (types_in_arms arms)
          (all_whole d IsElement functions fields H of_made e h.0 l.0 (switched e (promoting_is (bare_ty (typed e)) (ty (typed e)) h.1).1))
          (arms_whole arms loop h.6 l.1)
      statement_whole Trees.break loop switch h l = tt
      statement_whole Trees.continue loop switch h l = tt
      statement_whole (Trees.return e) loop switch h l = returned_whole e h l

      pub statements_whole : (all : Trees.Statements Noted) (loop switch : Bool) → AreTyped d result loop switch (typed_statements all) → InStatements W W IsLocal all
          → A (types_in_statements all)
      statements_whole Trees.no_statements loop switch h l = tt
      statements_whole (Trees.and_statement s more) loop switch h l =
          joined H (types_in_statement s) (types_in_statements more) (statement_whole s loop switch h.0 l.0) (statements_whole more loop switch h.1 l.1)

      arms_whole : (arms : Trees.Arms Noted) (loop : Bool) → AreTypedArms d result loop (typed_arms arms) → InArms W W IsLocal arms → A (types_in_arms arms)
      arms_whole Trees.no_arms loop h l = tt
      arms_whole (Trees.and_arm cases is_default all more) loop h l =
          joined H (types_in_statements all) (types_in_arms more) (statements_whole all loop true h.0 l.0) (arms_whole more loop h.1 l.1)
