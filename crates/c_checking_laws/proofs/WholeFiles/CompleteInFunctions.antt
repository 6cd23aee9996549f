-- What is typed without locals is typed inside of a function too (C99 6.5, 6.7.8).
use Rattle.std.proofs.Common.{true, false, List, [], ◌∷◌}
use Rattle.std.proofs.lemmas.List.Elements.{All-cons, All-nil, All-head, All-tail}
use Rattle.std.specs.Prelude.{All}
use Rattle.c_types.specs.Types.{CType, CTypes, no_types, and_type}
use Rattle.c_typed.specs.Trees as Trees
use Rattle.c_typed.specs.Trees.{Expression, expression, Expressions, no_expressions, and_expression, OptionalExpression, no_expression}
use Rattle.c_typed.specs.Trees.{some_expression}
use Rattle.c_typed.specs.Trees.{Path, path, PartValue, Part, Initializer}
use Rattle.c_typed.specs.Typed.{Declared, IsTyped, IsTypedPath, AreArguments, IsCount}
use Rattle.c_typed.specs.TypedStatements.{IsTypedValue, IsTypedPart, IsTypedInitializer}

-- the same file outside of functions
abbrev pub without_locals : Declared → Declared
without_locals d = record { records = d.records; complete = d.complete; locals = []; objects = d.objects; functions = d.functions }

module _ (d : Declared) where
  abbrev Outside : Declared
  Outside = without_locals d

  mutual
    inside : (e : Expression CType) → IsTyped Outside e → IsTyped d e
    inside (expression t at (Trees.constant v)) h = h
    inside (expression t at Trees.null) h = h
    inside (expression t at (Trees.function_name f)) h = h
    inside (expression t at (Trees.load p)) h = (path_inside p h.0, h.1, h.2, h.3)
    inside (expression t at (Trees.address_of p)) h = (path_inside p h.0, h.1)
    inside (expression t at (Trees.decay p)) h = (path_inside p h.0, h.1, h.2)
    inside (expression t at (Trees.convert e false)) h = (inside e h.0, h.1, h.2, h.3)
    inside (expression t at (Trees.convert e true)) h = (inside e h.0, h.1, h.2)
    inside (expression t at (Trees.unary op x)) h = (inside x h.0, h.1, h.2)
    inside (expression t at (Trees.binary op x y)) h = (inside x h.0, inside y h.1, h.2, h.3)
    inside (expression t at (Trees.compare op x y)) h = (inside x h.0, inside y h.1, h.2, h.3, h.4)
    inside (expression t at (Trees.pointer_add op x y)) h = (inside x h.0, inside y h.1, h.2)
    inside (expression t at (Trees.pointer_difference x y)) h = (inside x h.0, inside y h.1, h.2, h.3, h.4, h.5)
    inside (expression t at (Trees.both x y)) h = (inside x h.0, inside y h.1, h.2, h.3, h.4)
    inside (expression t at (Trees.either x y)) h = (inside x h.0, inside y h.1, h.2, h.3, h.4)
    inside (expression t at (Trees.not x)) h = (inside x h.0, h.1, h.2)
    inside (expression t at (Trees.choose x y z)) h = (inside x h.0, inside y h.1, inside z h.2, h.3, h.4, h.5, h.6)
    inside (expression t at (Trees.comma x y)) h = (inside x h.0, inside y h.1, h.2, h.3, h.4)
    inside (expression t at (Trees.assign p x)) h = (path_inside p h.0, inside x h.1, h.2, h.3, h.4)
    inside (expression t at (Trees.assign_op op p x)) h = (path_inside p h.0, inside x h.1, h.2, h.3)
    inside (expression t at (Trees.step op before p)) h = (path_inside p h.0, h.1, h.2)
    inside (expression t at (Trees.copy_record to from)) h = (path_inside to h.0, path_inside from h.1, h.2, h.3, h.4)
    inside (expression t at (Trees.call f all)) h = (h.0, h.1, all_inside h.0 all h.2)
    inside (expression t at (Trees.call_through e all)) h = (h.0, inside e h.1, h.2, h.3, all_inside h.0 all h.4)
    inside (expression t at (Trees.library which all)) h = (h.0, h.1, all_inside h.0 all h.2)
    inside (expression t at (Trees.allocate r count zeroed)) h = (h.0, h.1, count_inside count h.2)

    all_inside : (types : CTypes) (all : Expressions CType) → AreArguments Outside types all → AreArguments d types all
    all_inside no_types no_expressions h = h
    all_inside (and_type t more) (and_expression x rest) h = (inside x h.0, h.1, all_inside more rest h.2)
    all_inside no_types (and_expression x rest) h = absurd h
    all_inside (and_type t more) no_expressions h = absurd h

    count_inside : (count : OptionalExpression CType) → IsCount Outside count → IsCount d count
    count_inside no_expression h = h
    count_inside (some_expression x) h = (inside x h.0, h.1)

    path_inside : (p : Path CType) → IsTypedPath Outside p → IsTypedPath d p
    path_inside (path t at (Trees.local n)) h = cc
    path_inside (path t at (Trees.object n)) h = h
    path_inside (path t at (Trees.deref e)) h = (inside e h.0, h.1, h.2, h.3)
    path_inside (path t at (Trees.index e i)) h = (inside e h.0, inside i h.1, h.2, h.3, h.4, h.5, h.6)
    path_inside (path t at (Trees.member p r field)) h = (path_inside p h.0, h.1, h.2)
    path_inside (path t at (Trees.element p i)) h = (path_inside p h.0, inside i h.1, h.2, h.3)

  -- ---- initializers

  value_inside : (t : CType) (v : PartValue CType) → IsTypedValue Outside t v → IsTypedValue d t v
  value_inside t (Trees.value e) h = (inside e h.0, h.1, h.2)
  value_inside t (Trees.record_of p) h = (h.0, path_inside p h.1, h.2, h.3)
  value_inside t (Trees.text bytes) h = h

  parts_inside : (t : CType) (all : List (Part CType)) → All (IsTypedPart Outside t) all → All (IsTypedPart d t) all
  parts_inside t [] h = All-nil (IsTypedPart d t)
  parts_inside t (part ∷ more) h =
      let k = All-head (IsTypedPart Outside t) part more h in
      All-cons (IsTypedPart d t) part more (k.0, k.1, value_inside k.0 part.value k.2) (parts_inside t more (All-tail
      (IsTypedPart Outside t) part more h))

  pub initial_inside : (t : CType) (i : Initializer CType) → IsTypedInitializer Outside t i → IsTypedInitializer d t i
  initial_inside t (Trees.whole e) h = value_inside t (Trees.value e) h
  initial_inside t (Trees.whole_record p) h = value_inside t (Trees.record_of p) h
  initial_inside t (Trees.parts all) h = (h.0, parts_inside t all h.1, h.2)
