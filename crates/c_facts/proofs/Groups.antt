-- Where a profile fits a program, its counts and the groups that facts begin are the same in number.
use Rattle.std.proofs.Common.{◌≡◌, ℕ, suc, ◌+◌, Bool, true, false, List, [], ◌∷◌, ◌++◌, Option, Some, None, refl, arith}
use Rattle.std.specs.Prelude.{flat_map, if◌then◌else◌}
use Rattle.lay_base.specs.declared.place.Place.{Place}
use Rattle.c_typed.specs.declared.operators.LibraryFunction.{LibraryFunction}
use Rattle.c_typed.specs.RunCounts.Loops.{loops_in, loops_in_all, loops_in_arms, loops_in_body}
use Rattle.c_typed.specs.Trees as T
use Rattle.c_typed.specs.Trees.{Arms, Expression, Expressions, Initializer, Node, OptionalExpression, Part, PartValue, Path, PathNode, Statement, Statements}
use Rattle.c_facts.specs.declared.contexts.Context.{Context}
use Rattle.c_facts.specs.declared.fact.Fact.{Fact}
use Rattle.c_facts.specs.declared.fact.Fact.TheVariants as F
use Rattle.c_facts.specs.Contexts.{is_permitted, passes}
use Rattle.c_facts.specs.Facts.{converted, of_conversion, facts_by_all, facts_by_arms, facts_by_expression, facts_by_initial, facts_by_node, facts_by_optional}
use Rattle.c_facts.specs.Facts.{facts_by_path, facts_by_statement, facts_by_statements, facts_by_step, facts_by_value, if_any, read_whole, tested, effect}
use Rattle.c_facts.specs.Fields.{site, taken}
use Rattle.c_facts.specs.Groups.{ArmsStartPlainly, ArePlain, AllStartPlainly, StartsPlainly, BodyStartsPlainly, begins_group, groups_in}
use Rattle.c_facts.specs.Programs.{facts_by_body}

-- ---- lists

one_more : (c : Bool) (both first rest : ℕ) → both ≡ first + rest
    → (if c then suc both else both) ≡ (if c then suc first else first) + rest
one_more true both first rest e = omega (arith, e)
one_more false both first rest e = e

pub groups_append : (a b : List Fact) → groups_in (a ++ b) ≡ groups_in a + groups_in b
groups_append [] b = omega arith
groups_append (x ∷ more) b = one_more (begins_group x) (groups_in (more ++ b)) (groups_in more) (groups_in b) (groups_append more b)

record BeginsNone (all : List Fact) : Type 0 where
  pub is : groups_in all ≡ 0

none : {a b : List Fact} → BeginsNone a → BeginsNone b → BeginsNone (a ++ b)
none {a} {b} e f = let both = groups_append a b in let first = e.is in let rest = f.is in record { is = omega (arith, both, first, rest) }

-- ---- expressions begin none

none_unless : (c : Bool) (t : ℕ) → BeginsNone (if c then [] else F.Value t ∷ [])
none_unless true t = record { is = refl }
none_unless false t = record { is = refl }

none_site : (is_read : Bool) (p : Path ℕ) → BeginsNone (site is_read p)
none_site is_read (T.path t at (T.member p r field)) = record { is = refl }
none_site is_read (T.path t at (T.element p i)) = none_site is_read p
none_site is_read p = record { is = refl }

none_taken : (p : Path ℕ) → BeginsNone (taken p)
none_taken (T.path t at (T.member p r field)) = record { is = (none_taken p).is }
none_taken (T.path t at (T.element p i)) = none_taken p
none_taken p = record { is = refl }

none_converted : (to : ℕ) (e : Expression ℕ) → BeginsNone (converted to e)
none_converted to (T.expression t at T.null) = record { is = refl }
none_converted to e = record { is = refl }

none_of_conversion : (which : Option LibraryFunction) (to : ℕ) (e : Expression ℕ) → BeginsNone (of_conversion which to e)
none_of_conversion None to e = none_converted to e
none_of_conversion (Some which) to (T.expression t at node) = record { is = refl }

mutual
  none_by_expression : (context : Context) (e : Expression ℕ) → BeginsNone (facts_by_expression context e)
  none_by_expression context (T.expression t at node) = none (none_unless (is_permitted context) t) (none_by_node context t at node)

  none_by_node : (context : Context) (t : ℕ) (at : Place) (node : Node ℕ) → BeginsNone (facts_by_node context t at node)
  none_by_node context t at (T.constant v) = record { is = refl }
  none_by_node context t at T.null = record { is = refl }
  none_by_node context t at (T.function_name f) = record { is = refl }
  none_by_node context t at (T.load p) = none (none_site true p) (none_by_path false p)
  none_by_node context t at (T.address_of p) = record { is = (none (none (none_taken p) (none_site false p)) (none_by_path false p)).is }
  none_by_node context t at (T.decay p) = none (none (none_taken p) (none_site false p)) (none_by_path false p)
  none_by_node context t at (T.convert e written) = none (none_of_conversion (passes context written) t e) (none_by_expression _ e)
  none_by_node context t at (T.unary op x) = none_by_expression _ x
  none_by_node context t at (T.binary op x y) = none (none_by_expression _ x) (none_by_expression _ y)
  none_by_node context t at (T.compare op x y) = none (none_by_expression _ x) (none_by_expression _ y)
  none_by_node context t at (T.pointer_add op x y) = none (none_by_expression _ x) (none_by_expression _ y)
  none_by_node context t at (T.pointer_difference x y) = none (none_by_expression _ x) (none_by_expression _ y)
  none_by_node context t at (T.both x y) = none (none_by_expression _ x) (none_by_expression _ y)
  none_by_node context t at (T.either x y) = none (none_by_expression _ x) (none_by_expression _ y)
  none_by_node context t at (T.not x) = none_by_expression _ x
  none_by_node context t at (T.choose x y z) = none (none (none_by_expression _ x) (none_by_expression _ y)) (none_by_expression _ z)
  none_by_node context t at (T.comma x y) = none (none_by_expression _ x) (none_by_expression _ y)
  none_by_node context t at (T.assign p x) = none (none (none_site false p) (none_by_path false p)) (none_by_expression _ x)
  none_by_node context t at (T.assign_op op p x) = none (none (none_site true p) (none_by_path false p)) (none_by_expression _ x)
  none_by_node context t at (T.step op before p) = none (none_site true p) (none_by_path false p)
  none_by_node context t at (T.copy_record to from) =
      record { is = (none (none (none (none_site false to) (none_by_path false to)) (none_site true from)) (none_by_path false from)).is }
  none_by_node context t at (T.call f all) = none_by_all _ all
  none_by_node context t at (T.call_through e all) = none (none_by_expression _ e) (none_by_all _ all)
  none_by_node context t at (T.library which all) = none_by_all _ all
  none_by_node context t at (T.allocate r count zeroed) = none_by_optional count

  none_by_path : (under : Bool) (p : Path ℕ) → BeginsNone (facts_by_path under p)
  none_by_path under (T.path t at step) = none_by_step under step

  none_by_step : (under : Bool) (step : PathNode ℕ) → BeginsNone (facts_by_step under step)
  none_by_step under (T.local n) = record { is = refl }
  none_by_step under (T.object n) = record { is = refl }
  none_by_step under (T.deref e) = none_by_expression _ e
  none_by_step under (T.index e i) = none (none_by_expression _ e) (none_by_expression _ i)
  none_by_step under (T.member p r field) = none_by_path true p
  none_by_step under (T.element p i) = none (none_by_path false p) (none_by_expression _ i)

  none_by_all : (context : Context) (all : Expressions ℕ) → BeginsNone (facts_by_all context all)
  none_by_all context T.no_expressions = record { is = refl }
  none_by_all context (T.and_expression e more) = none (none_by_expression context e) (none_by_all context more)

  none_by_optional : (count : OptionalExpression ℕ) → BeginsNone (facts_by_optional count)
  none_by_optional T.no_expression = record { is = refl }
  none_by_optional (T.some_expression e) = none_by_expression _ e

none_read_whole : (p : Path ℕ) → BeginsNone (read_whole p)
none_read_whole p = none (none_site true p) (none_by_path false p)

none_by_value : (value : PartValue ℕ) → BeginsNone (facts_by_value value)
none_by_value (T.value e) = none_by_expression _ e
none_by_value (T.record_of p) = none_read_whole p
none_by_value (T.text bytes) = record { is = refl }

none_by_parts : (all : List (Part ℕ)) → BeginsNone (flat_map (λ part. facts_by_value part.value) all)
none_by_parts [] = record { is = refl }
none_by_parts (part ∷ more) = none (none_by_value part.value) (none_by_parts more)

none_by_initial : (initial : Option (Initializer ℕ)) → BeginsNone (facts_by_initial initial)
none_by_initial None = record { is = refl }
none_by_initial (Some (T.whole e)) = none_by_expression _ e
none_by_initial (Some (T.whole_record p)) = none_read_whole p
none_by_initial (Some (T.parts all)) = none_by_parts all

none_if_any : (f : Expression ℕ → List Fact) → ((e : Expression ℕ) → BeginsNone (f e)) → (e : Option (Expression ℕ)) → BeginsNone (if_any f e)
none_if_any f h None = record { is = refl }
none_if_any f h (Some e) = h e

none_effect : (e : Expression ℕ) → BeginsNone (effect e)
none_effect e = none_by_expression _ e

none_tested : (e : Expression ℕ) → BeginsNone (tested e)
none_tested e = none_by_expression _ e

-- ---- statements begin their loops

record Begins (count : ℕ) (all : List Fact) : Type 0 where
  pub is : groups_in all ≡ count

nothing : {a : List Fact} → BeginsNone a → Begins 0 a
nothing e = record { is = e.is }

behind : {a b : List Fact} {n : ℕ} → BeginsNone a → Begins n b → Begins n (a ++ b)
behind {a} {b} e f = let both = groups_append a b in let first = e.is in let rest = f.is in record { is = omega (arith, both, first, rest) }

before : {a b : List Fact} {n : ℕ} → Begins n a → BeginsNone b → Begins n (a ++ b)
before {a} {b} e f = let both = groups_append a b in let first = e.is in let rest = f.is in record { is = omega (arith, both, first, rest) }

joined : {a b : List Fact} {n m : ℕ} → Begins n a → Begins m b → Begins (n + m) (a ++ b)
joined {a} {b} e f = let both = groups_append a b in let first = e.is in let rest = f.is in record { is = omega (arith, both, first, rest) }

in_loop : {a : List Fact} {n : ℕ} → Begins n a → Begins (n + 1) (F.LoopBegins ∷ a)
in_loop e = let within = e.is in record { is = omega (arith, within) }

opens : {a : List Fact} → BeginsNone a → Begins 1 (F.LoopBegins ∷ a)
opens e = let within = e.is in record { is = omega (arith, within) }

ends : BeginsNone (F.LoopEnds ∷ [])
ends = record { is = refl }

none_first : (all : Statements ℕ) → ArePlain all → BeginsNone (facts_by_statements all)
none_first T.no_statements h = record { is = refl }
none_first (T.and_statement (T.evaluate e) more) h = none (none_effect e) (none_first more h)
none_first (T.and_statement (T.declare n initial) more) h = none (none_by_initial initial) (none_first more h)
none_first all h = absurd h

mutual
  by_statement : (s : Statement ℕ) → StartsPlainly s → Begins (loops_in s) (facts_by_statement s)
  by_statement (T.evaluate e) h = nothing (none_effect e)
  by_statement (T.block locals all) h = by_statements all h
  by_statement (T.declare n initial) h = nothing (none_by_initial initial)
  by_statement (T.when e one) h = behind (none_tested e) (by_statement one h)
  by_statement (T.when_else e one other) h = joined (behind (none_tested e) (by_statement one h.0)) (by_statement other h.1)
  by_statement (T.while e body) h = in_loop (before (behind (none_tested e) (by_statement body h)) ends)
  by_statement (T.do_while body e) h = in_loop (before (before (by_statement body h) (none_tested e)) ends)
  by_statement (T.for locals start test step body) h =
      let head = before (behind (none_first start h.0) (opens (none_if_any tested none_tested test))) (none_if_any effect none_effect step) in
      let count = (before (joined head (by_statement body h.1)) ends).is in
      record { is = omega (arith, count) }
  by_statement (T.switch e locals arms) h = behind (none_by_expression _ e) (by_arms arms h)
  by_statement T.break h = record { is = refl }
  by_statement T.continue h = record { is = refl }
  by_statement (T.return e) h = nothing (none_if_any _ (none_by_expression _) e)

  by_statements : (all : Statements ℕ) → AllStartPlainly all → Begins (loops_in_all all) (facts_by_statements all)
  by_statements T.no_statements h = record { is = refl }
  by_statements (T.and_statement s more) h = joined (by_statement s h.0) (by_statements more h.1)

  by_arms : (arms : Arms ℕ) → ArmsStartPlainly arms → Begins (loops_in_arms arms) (facts_by_arms arms)
  by_arms T.no_arms h = record { is = refl }
  by_arms (T.and_arm cases is_default all more) h = joined (by_statements all h.0) (by_arms more h.1)

pub by_body : (body : Option (Statement ℕ)) → BodyStartsPlainly body → groups_in (facts_by_body body) ≡ loops_in_body body
by_body None h = refl
by_body (Some body) h = (by_statement body h).is
