-- Units have at most one program, and none where they have a gap.
use Rattle.std.proofs.Common.{◌≡◌, ◌==◌, true, false, List, ap, sym, ◌∙◌, inl, inr}
use Rattle.std.specs.Prelude.{Some, None}
use Rattle.std.specs.List.{list_any}
use Rattle.c_typed.specs.Programs.{UnitData, ProgramData}
use Rattle.c_link.specs.Gaps.{Gap, IsGap, IsProgramOfUnits, tag_clash, name_clash, twice, missing, no_main, limit}

pub program_is_one : (units : List UnitData) (p q : ProgramData) → IsProgramOfUnits units p → IsProgramOfUnits units q → p ≡ q
program_is_one units p q f g = f.joined_units ∙ sym g.joined_units

some_is_none : {A : Type 0} (x : A) → Some x ≡ None → ⊥
some_is_none x h = cc

false_is_true : false ≡ true → ⊥
false_is_true h = cc

pub no_program_with_a_gap : (units : List UnitData) (p : ProgramData) (g : Gap) → IsProgramOfUnits units p → IsGap units g → ⊥
no_program_with_a_gap units p (tag_clash t) f g = f.agree.tags t g.here
no_program_with_a_gap units p (name_clash t) f g = f.agree.names t g.1.here
no_program_with_a_gap units p (twice t) f g = f.agree.once t g.2.here
no_program_with_a_gap units p (missing x) f g = elim g.1 [
  | inl w ↦ f.complete.names w.0 w.1.here
  | inr w ↦ false_is_true (sym (ap (list_any (λ m. m == w.0)) f.complete.structures) ∙ w.2.0)
]
no_program_with_a_gap units p no_main f g = g.1.2 f.complete.main
no_program_with_a_gap units p (limit which n) f g = some_is_none (which, n) (sym g.2 ∙ f.within_limits)
