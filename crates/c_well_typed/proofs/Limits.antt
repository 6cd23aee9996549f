-- A program of files passes no limit.
use Rattle.std.proofs.Common.{◌≡◌, ℕ, ◌^◌, ◌≤◌, Bool, true, false, refl, sym, subst, cond, List, [], ◌∷◌, length, map, arith}
use Rattle.std.proofs.lemmas.Bool.Decides.{nat_tests}
use Rattle.std.proofs.lemmas.List.Elements.{All-from_recursion}
use Rattle.std.specs.Prelude.{Option, Some, None, nat_lt}
use Rattle.std.specs.List.{AllByRecursion}
use Rattle.lay_base.specs.declared.faults.LimitKind.{LimitKind}
use Rattle.lay_base.specs.declared.faults.LimitKind.TheVariants.{Nodes, Fields, Frame, Globals}
use Rattle.c_types.specs.Types.{Record}
use Rattle.c_typed.specs.Programs.{FunctionData, ProgramData}
use Rattle.c_link.specs.Joining.{joined}
use Rattle.c_link.specs.Gaps.{first_past, past_alone, past, or_limit, first_limit, limits, local_bytes, global_bytes}
use Rattle.c_well_typed.specs.Within.{IsWithinLimits, ProgramsAreWithinLimits}

no_first : (which : LimitKind) (o : Option ℕ) (later : Option (LimitKind × ℕ)) → or_limit which o later ≡ None → (o ≡ None) × (later ≡ None)
no_first which None later h = (refl, h)
no_first which (Some n) later h = cc

alone_within : (most n : ℕ) → past_alone most n ≡ None → n ≤ most
alone_within most n h = by_test (nat_lt most n) refl h
  where
    by_test : (b : Bool) → nat_lt most n ≡ b → cond b (Some n) None ≡ None → n ≤ most
    by_test true e h = cc
    by_test false e h = grind (arith, nat_tests)

each_within : {A : Type 0} (count : A → ℕ) (most : ℕ) (all : List A) → first_past most (map count all) ≡ None → AllByRecursion (λ x. count x ≤ most) all
each_within count most [] h = tt
each_within count most (x ∷ all) h = by_test (nat_lt most (count x)) refl h (each_within count most all)
  where
    by_test : (b : Bool) → nat_lt most (count x) ≡ b → cond b (Some (count x)) (first_past most (map count all)) ≡ None
        → (first_past most (map count all) ≡ None → AllByRecursion (λ x. count x ≤ most) all)
        → (count x ≤ most) × AllByRecursion (λ x. count x ≤ most) all
    by_test true e h later = cc
    by_test false e h later = (grind (arith, nat_tests), later h)

within : (p : ProgramData) → first_limit p limits ≡ None → IsWithinLimits p
within p h =
    let a = no_first Nodes (past p Nodes) (first_limit p (Fields ∷ Frame ∷ Globals ∷ [])) h in
    let b = no_first Fields (past p Fields) (first_limit p (Frame ∷ Globals ∷ [])) a.1 in
    let c = no_first Frame (past p Frame) (first_limit p (Globals ∷ [])) b.1 in
    let d = no_first Globals (past p Globals) None c.1 in
    record {
      nodes = alone_within 131072 p.nodes a.0;
      fields = All-from_recursion (λ (r : Record). length r.fields ≤ 64) p.records (each_within (λ r. length r.fields) 64 p.records b.0);
      frames = All-from_recursion (λ (f : FunctionData). local_bytes p f ≤ 2 ^ 24) p.functions (each_within (local_bytes p) (2 ^ 24) p.functions c.0);
      globals = alone_within (2 ^ 24) (global_bytes p) d.0;
    }

pub programs_are_within_limits : ProgramsAreWithinLimits
programs_are_within_limits files p h = subst IsWithinLimits (sym h.program.joined_units) (within (joined h.units) h.program.within_limits)
