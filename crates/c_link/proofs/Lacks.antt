-- What a program of units that agree lacks is a gap of the units.
use Rattle.std.proofs.Common.{◌≡◌, ◌∙◌, ℕ, List, Some, None, subst}
use Rattle.std.specs.Prelude.{Result, Ok, Err}
use Rattle.c_typed.specs.declared.program.Typed.{Typed}
use Rattle.c_typed.specs.Programs.{ProgramData, UnitData}
use Rattle.c_link.specs.Joining.{all_tags, joined}
use Rattle.c_link.specs.declared.gap.Gap as declared
use Rattle.c_link.specs.declared.gap.Gap.TheVariants.{TagClash, NameClash, Twice, Missing, NoMain, Limit, Memory}
use Rattle.c_link.specs.Gaps.{Agree, HasNoMain, IsComplete, IsMissingOf, first_limit, limits}
use Rattle.c_link.specs.Linking.{Fails, IsLack, LinkGives, WithinGives}

pub lack_is_gap : (units : List UnitData) (tags : List (List ℕ)) (p : ProgramData) (gap : declared.Gap) → Agree units → tags ≡ all_tags units → p ≡ joined units
    → Fails (IsLack tags p) gap → LinkGives units (Err gap)
lack_is_gap units tags p (Missing x) agree e f h = (agree, subst (λ them. IsMissingOf them (joined units) x) e (subst (λ it. IsMissingOf tags it x) f h))
lack_is_gap units tags p NoMain agree e f h = (agree, subst HasNoMain f h)
lack_is_gap units tags p (Memory want) agree e f h = tt
lack_is_gap units tags p (TagClash t) agree e f h = absurd h
lack_is_gap units tags p (NameClash t) agree e f h = absurd h
lack_is_gap units tags p (Twice t) agree e f h = absurd h
lack_is_gap units tags p (Limit it) agree e f h = absurd h

pub within_is_program : (units : List UnitData) (p : ProgramData) (r : Result Typed declared.Gap) → Agree units → p ≡ joined units → IsComplete p → WithinGives p r
    → LinkGives units r
within_is_program units p (Ok q) agree e complete h = record {
  agree = agree;
  complete = subst IsComplete e complete;
  within_limits = subst (λ it. first_limit it limits ≡ None) e h.1;
  joined_units = h.0 ∙ e;
}
within_is_program units p (Err (Limit it)) agree e complete h =
    (agree, subst IsComplete e complete, subst (λ q. first_limit q limits ≡ Some (it.which, it.counted)) e h)
within_is_program units p (Err (Memory want)) agree e complete h = tt
within_is_program units p (Err (Missing x)) agree e complete h = absurd h
within_is_program units p (Err NoMain) agree e complete h = absurd h
within_is_program units p (Err (TagClash t)) agree e complete h = absurd h
within_is_program units p (Err (NameClash t)) agree e complete h = absurd h
within_is_program units p (Err (Twice t)) agree e complete h = absurd h
