-- Where implicit conversions stand is told by their rule, and by the tree of the text where everything else does.
use Rattle.std.proofs.Common.{◌≡◌, ◌∙◌, refl, sym, subst, Bool, true, false, List, [], ◌∷◌, map, Some, None}
use Rattle.std.specs.Prelude.{Option, All}
use Rattle.std.specs.Option.{option_map}
use Rattle.std.proofs.lemmas.List.Elements.{All-head, All-tail}
use Rattle.lay_base.specs.declared.place.Place.{Place}
use Rattle.c_types.specs.Types.{CType, CTypes, no_types, and_type}
use Rattle.c_typed.specs.Mapped.{of_types, mapped, mapped_node, mapped_path, mapped_step, mapped_all, mapped_if_any, mapped_value, mapped_part}
use Rattle.c_typed.specs.Mapped.{mapped_initializer}
use Rattle.c_typed.specs.Mapped.{mapped_statement, mapped_statements, mapped_arms}
use Rattle.c_typed.specs.Trees
use Rattle.c_typed.specs.Typed.{Declared, at_of, IsTyped, IsTypedNode, AreArguments, IsCount, IsTypedPath, IsTypedStep}
use Rattle.c_typed.specs.TypedStatements.{IsTypedValue, IsTypedPart, IsInitialized, IsCondition, IsEffect, IsReturned}
use Rattle.c_typed.specs.TypedStatements.{IsTypedStatement, AreTyped, AreTypedArms}
use Rattle.c_erasure.specs.Noted.{Noted, Expression, Path, Node, PathNode}
use Rattle.c_undefined_places.specs.Placed.{IsPlaced, IsPlacedNode, IsPlacedPath, IsPlacedStep, ArePlaced, IsPlacedCount, IsPlacedValue, ArePlacedParts}
use Rattle.c_undefined_places.specs.Placed.{IsPlacedInitial, IsPlacedIfAny, IsPlacedStatement, ArePlacedStatements, ArePlacedArms}

-- each place is so but for those of implicit conversions
module _ {T : Type 0} (Is : Place → Type 0) where
  abbrev mutual
    pub IsLoose : Trees.Expression T → Type 0
    IsLoose (Trees.expression t at (Trees.convert e false)) = IsLoose e
    IsLoose (Trees.expression t at node) = Is at × IsLooseNode node

    pub IsLooseNode : Trees.Node T → Type 0
    IsLooseNode (Trees.constant v) = Unit {0}
    IsLooseNode Trees.null = Unit {0}
    IsLooseNode (Trees.function_name f) = Unit {0}
    IsLooseNode (Trees.load p) = IsLoosePath p
    IsLooseNode (Trees.address_of p) = IsLoosePath p
    IsLooseNode (Trees.decay p) = IsLoosePath p
    IsLooseNode (Trees.convert e written) = IsLoose e
    IsLooseNode (Trees.unary op x) = IsLoose x
    IsLooseNode (Trees.binary op x y) = IsLoose x × IsLoose y
    IsLooseNode (Trees.compare op x y) = IsLoose x × IsLoose y
    IsLooseNode (Trees.pointer_add op x y) = IsLoose x × IsLoose y
    IsLooseNode (Trees.pointer_difference x y) = IsLoose x × IsLoose y
    IsLooseNode (Trees.both x y) = IsLoose x × IsLoose y
    IsLooseNode (Trees.either x y) = IsLoose x × IsLoose y
    IsLooseNode (Trees.not x) = IsLoose x
    IsLooseNode (Trees.choose x y z) = IsLoose x × IsLoose y × IsLoose z
    IsLooseNode (Trees.comma x y) = IsLoose x × IsLoose y
    IsLooseNode (Trees.assign p x) = IsLoosePath p × IsLoose x
    IsLooseNode (Trees.assign_op op p x) = IsLoosePath p × IsLoose x
    IsLooseNode (Trees.step op before p) = IsLoosePath p
    IsLooseNode (Trees.copy_record to from) = IsLoosePath to × IsLoosePath from
    IsLooseNode (Trees.call f all) = AreLoose all
    IsLooseNode (Trees.call_through e all) = IsLoose e × AreLoose all
    IsLooseNode (Trees.library which all) = AreLoose all
    IsLooseNode (Trees.allocate r count zeroed) = IsLooseCount count

    pub IsLoosePath : Trees.Path T → Type 0
    IsLoosePath (Trees.path t at step) = Is at × IsLooseStep step

    pub IsLooseStep : Trees.PathNode T → Type 0
    IsLooseStep (Trees.local n) = Unit {0}
    IsLooseStep (Trees.object n) = Unit {0}
    IsLooseStep (Trees.deref e) = IsLoose e
    IsLooseStep (Trees.index e i) = IsLoose e × IsLoose i
    IsLooseStep (Trees.member p r field) = IsLoosePath p
    IsLooseStep (Trees.element p i) = IsLoosePath p × IsLoose i

    pub AreLoose : Trees.Expressions T → Type 0
    AreLoose Trees.no_expressions = Unit {0}
    AreLoose (Trees.and_expression e more) = IsLoose e × AreLoose more

    pub IsLooseCount : Trees.OptionalExpression T → Type 0
    IsLooseCount Trees.no_expression = Unit {0}
    IsLooseCount (Trees.some_expression e) = IsLoose e

  -- ---- initializers and statements

  abbrev pub IsLooseValue : Trees.PartValue T → Type 0
  IsLooseValue (Trees.value e) = IsLoose e
  IsLooseValue (Trees.record_of p) = IsLoosePath p
  IsLooseValue (Trees.text bytes) = Unit {0}

  abbrev pub AreLooseParts : List (Trees.Part T) → Type 0
  AreLooseParts [] = Unit {0}
  AreLooseParts (part ∷ more) = IsLooseValue part.value × AreLooseParts more

  abbrev pub IsLooseInitializer : Trees.Initializer T → Type 0
  IsLooseInitializer (Trees.whole e) = IsLoose e
  IsLooseInitializer (Trees.whole_record p) = IsLoosePath p
  IsLooseInitializer (Trees.parts all) = AreLooseParts all

  abbrev pub IsLooseInitial : Option (Trees.Initializer T) → Type 0
  IsLooseInitial None = Unit {0}
  IsLooseInitial (Some initial) = IsLooseInitializer initial

  abbrev pub IsLooseIfAny : Option (Trees.Expression T) → Type 0
  IsLooseIfAny None = Unit {0}
  IsLooseIfAny (Some e) = IsLoose e

  abbrev mutual
    pub IsLooseStatement : Trees.Statement T → Type 0
    IsLooseStatement (Trees.evaluate e) = IsLoose e
    IsLooseStatement (Trees.block locals all) = AreLooseStatements all
    IsLooseStatement (Trees.declare n initial) = IsLooseInitial initial
    IsLooseStatement (Trees.when e one) = IsLoose e × IsLooseStatement one
    IsLooseStatement (Trees.when_else e one other) = IsLoose e × IsLooseStatement one × IsLooseStatement other
    IsLooseStatement (Trees.while e body) = IsLoose e × IsLooseStatement body
    IsLooseStatement (Trees.do_while body e) = IsLooseStatement body × IsLoose e
    IsLooseStatement (Trees.for locals start test step body) =
        AreLooseStatements start × IsLooseIfAny test × IsLooseIfAny step × IsLooseStatement body
    IsLooseStatement (Trees.switch e locals arms) = IsLoose e × AreLooseArms arms
    IsLooseStatement Trees.break = Unit {0}
    IsLooseStatement Trees.continue = Unit {0}
    IsLooseStatement (Trees.return e) = IsLooseIfAny e

    pub AreLooseStatements : Trees.Statements T → Type 0
    AreLooseStatements Trees.no_statements = Unit {0}
    AreLooseStatements (Trees.and_statement s more) = IsLooseStatement s × AreLooseStatements more

    pub AreLooseArms : Trees.Arms T → Type 0
    AreLooseArms Trees.no_arms = Unit {0}
    AreLooseArms (Trees.and_arm cases is_default all more) = AreLooseStatements all × AreLooseArms more

module _ (d : Declared) (Is : Place → Type 0) where
  at_again : (e : Expression) → at_of (mapped (of_types (λ (t : Noted). t.ty)) e) ≡ at_of e
  at_again (Trees.expression t at node) = refl

  own_place : (e : Expression) → IsPlaced Is e → Is (at_of e)
  own_place (Trees.expression t at node) h = h.0

  -- ---- expressions

  mutual
    pub settled : (e : Expression) → IsTyped d (mapped (of_types (λ t. t.ty)) e) → IsLoose Is e → IsPlaced Is e
    settled (Trees.expression t at (Trees.convert e false)) k h =
        let p = settled e k.0 h in (subst Is (sym (k.3 ∙ at_again e)) (own_place e p), p)
    settled (Trees.expression t at (Trees.convert e true)) k h = (h.0, settled e k.0 h.1)
    settled (Trees.expression t at node) k h = (h.0, settled_node t.ty at node k h.1)

    settled_node : (t : CType) (at : Place) (node : Node) → IsTypedNode d t at (mapped_node (of_types (λ t. t.ty)) node) → IsLooseNode Is node
        → IsPlacedNode Is node
    settled_node t at (Trees.constant v) k h = tt
    settled_node t at Trees.null k h = tt
    settled_node t at (Trees.function_name f) k h = tt
    settled_node t at (Trees.load p) k h = settled_path p k.0 h
    settled_node t at (Trees.address_of p) k h = settled_path p k.0 h
    settled_node t at (Trees.decay p) k h = settled_path p k.0 h
    settled_node t at (Trees.convert e false) k h = settled e k.0 h
    settled_node t at (Trees.convert e true) k h = settled e k.0 h
    settled_node t at (Trees.unary op x) k h = settled x k.0 h
    settled_node t at (Trees.binary op x y) k h = (settled x k.0 h.0, settled y k.1 h.1)
    settled_node t at (Trees.compare op x y) k h = (settled x k.0 h.0, settled y k.1 h.1)
    settled_node t at (Trees.pointer_add op x y) k h = (settled x k.0 h.0, settled y k.1 h.1)
    settled_node t at (Trees.pointer_difference x y) k h = (settled x k.0 h.0, settled y k.1 h.1)
    settled_node t at (Trees.both x y) k h = (settled x k.0 h.0, settled y k.1 h.1)
    settled_node t at (Trees.either x y) k h = (settled x k.0 h.0, settled y k.1 h.1)
    settled_node t at (Trees.not x) k h = settled x k.0 h
    settled_node t at (Trees.choose x y z) k h = (settled x k.0 h.0, settled y k.1 h.1, settled z k.2 h.2)
    settled_node t at (Trees.comma x y) k h = (settled x k.0 h.0, settled y k.1 h.1)
    settled_node t at (Trees.assign p x) k h = (settled_path p k.0 h.0, settled x k.1 h.1)
    settled_node t at (Trees.assign_op op p x) k h = (settled_path p k.0 h.0, settled x k.1 h.1)
    settled_node t at (Trees.step op before p) k h = settled_path p k.0 h
    settled_node t at (Trees.copy_record to from) k h = (settled_path to k.0 h.0, settled_path from k.1 h.1)
    settled_node t at (Trees.call f all) k h = all_settled all k.0 k.2 h
    settled_node t at (Trees.call_through e all) k h = (settled e k.1 h.0, all_settled all k.0 k.4 h.1)
    settled_node t at (Trees.library which all) k h = all_settled all k.0 k.2 h
    settled_node t at (Trees.allocate r count zeroed) k h = count_settled count k.2 h

    count_settled : (count : Trees.OptionalExpression Noted) → IsCount d (mapped_if_any (of_types (λ t. t.ty)) count) → IsLooseCount Is count
        → IsPlacedCount Is count
    count_settled Trees.no_expression k h = tt
    count_settled (Trees.some_expression e) k h = settled e k.0 h

    all_settled : (all : Trees.Expressions Noted) (parameters : CTypes) → AreArguments d parameters (mapped_all (of_types (λ t. t.ty)) all)
        → AreLoose Is all → ArePlaced Is all
    all_settled Trees.no_expressions parameters k h = tt
    all_settled (Trees.and_expression e more) no_types k h = absurd k
    all_settled (Trees.and_expression e more) (and_type t rest) k h = (settled e k.0 h.0, all_settled more rest k.2 h.1)

    pub settled_path : (p : Path) → IsTypedPath d (mapped_path (of_types (λ t. t.ty)) p) → IsLoosePath Is p → IsPlacedPath Is p
    settled_path (Trees.path t at step) k h = (h.0, settled_step t.ty at step k h.1)

    settled_step : (t : CType) (at : Place) (step : PathNode) → IsTypedStep d t at (mapped_step (of_types (λ t. t.ty)) step) → IsLooseStep Is step
        → IsPlacedStep Is step
    settled_step t at (Trees.local n) k h = tt
    settled_step t at (Trees.object n) k h = tt
    settled_step t at (Trees.deref e) k h = settled e k.0 h
    settled_step t at (Trees.index e i) k h = (settled e k.0 h.0, settled i k.1 h.1)
    settled_step t at (Trees.member p r field) k h = settled_path p k.0 h
    settled_step t at (Trees.element p i) k h = (settled_path p k.0 h.0, settled i k.1 h.1)

  -- ---- initializers and statements

  value_settled : (v : Trees.PartValue Noted) (t : CType) → IsTypedValue d t (mapped_value (of_types (λ t. t.ty)) v) → IsLooseValue Is v → IsPlacedValue Is v
  value_settled (Trees.value e) t k h = settled e k.0 h
  value_settled (Trees.record_of p) t k h = settled_path p k.1 h
  value_settled (Trees.text bytes) t k h = tt

  parts_settled : (all : List (Trees.Part Noted)) (t : CType) → All (IsTypedPart d t) (map (mapped_part (of_types (λ t. t.ty))) all)
      → AreLooseParts Is all → ArePlacedParts Is all
  parts_settled [] t k h = tt
  parts_settled (part ∷ all) t k h =
      let typed = map (mapped_part (of_types (λ (t : Noted). t.ty))) all in
      let first = mapped_part (of_types (λ (t : Noted). t.ty)) part in
      let own = All-head (IsTypedPart d t) first typed k in
      (value_settled part.value own.0 own.2 h.0, parts_settled all t (All-tail (IsTypedPart d t) first typed k) h.1)

  pub initial_settled : (i : Option (Trees.Initializer Noted)) (t : CType) → IsInitialized d t (option_map (mapped_initializer (of_types (λ t. t.ty))) i)
      → IsLooseInitial Is i → IsPlacedInitial Is i
  initial_settled None t k h = tt
  initial_settled (Some (Trees.whole e)) t k h = settled e k.0 h
  initial_settled (Some (Trees.whole_record p)) t k h = settled_path p k.1 h
  initial_settled (Some (Trees.parts all)) t k h = parts_settled all t k.1 h

  condition_settled : (e : Option Expression) → IsCondition d (option_map (mapped (of_types (λ t. t.ty))) e) → IsLooseIfAny Is e → IsPlacedIfAny Is e
  condition_settled None k h = tt
  condition_settled (Some e) k h = settled e k.0 h

  effect_settled : (e : Option Expression) → IsEffect d (option_map (mapped (of_types (λ t. t.ty))) e) → IsLooseIfAny Is e → IsPlacedIfAny Is e
  effect_settled None k h = tt
  effect_settled (Some e) k h = settled e k.0 h

  returned_settled : (e : Option Expression) (result : CType) → IsReturned d result (option_map (mapped (of_types (λ t. t.ty))) e) → IsLooseIfAny Is e
      → IsPlacedIfAny Is e
  returned_settled None result k h = tt
  returned_settled (Some e) result k h = settled e k.0 h

  module _ (result : CType) where
    mutual
      pub statement_settled : (st : Trees.Statement Noted) (loop switch : Bool)
          → IsTypedStatement d result loop switch (mapped_statement (of_types (λ t. t.ty)) st) → IsLooseStatement Is st → IsPlacedStatement Is st
      statement_settled (Trees.evaluate e) loop switch k h = settled e k.0 h
      statement_settled (Trees.block locals all) loop switch k h = statements_settled all loop switch k.1 h
      statement_settled (Trees.declare n i) loop switch k h = initial_settled i k.0 k.3 h
      statement_settled (Trees.when e one) loop switch k h = (settled e k.0 h.0, statement_settled one loop switch k.2 h.1)
      statement_settled (Trees.when_else e one other) loop switch k h =
          (settled e k.0 h.0, statement_settled one loop switch k.2 h.1, statement_settled other loop switch k.3 h.2)
      statement_settled (Trees.while e body) loop switch k h = (settled e k.0 h.0, statement_settled body true switch k.2 h.1)
      statement_settled (Trees.do_while body e) loop switch k h = (statement_settled body true switch k.0 h.0, settled e k.1 h.1)
      statement_settled (Trees.for locals start test step body) loop switch k h = (
        statements_settled start false false k.1 h.0,
        condition_settled test k.2 h.1,
        effect_settled step k.3 h.2,
        statement_settled body true switch k.4 h.3,
      )
      statement_settled (Trees.switch e locals arms) loop switch k h = (settled e k.0 h.0, arms_settled arms loop k.6 h.1)
      statement_settled Trees.break loop switch k h = tt
      statement_settled Trees.continue loop switch k h = tt
      statement_settled (Trees.return e) loop switch k h = returned_settled e result k h

      pub statements_settled : (all : Trees.Statements Noted) (loop switch : Bool)
          → AreTyped d result loop switch (mapped_statements (of_types (λ t. t.ty)) all) → AreLooseStatements Is all → ArePlacedStatements Is all
      statements_settled Trees.no_statements loop switch k h = tt
      statements_settled (Trees.and_statement s more) loop switch k h =
          (statement_settled s loop switch k.0 h.0, statements_settled more loop switch k.1 h.1)

      arms_settled : (arms : Trees.Arms Noted) (loop : Bool) → AreTypedArms d result loop (mapped_arms (of_types (λ t. t.ty)) arms) → AreLooseArms Is arms
          → ArePlacedArms Is arms
      arms_settled Trees.no_arms loop k h = tt
      arms_settled (Trees.and_arm cases is_default all more) loop k h = (statements_settled all loop true k.0 h.0, arms_settled more loop k.1 h.1)
