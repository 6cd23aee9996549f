-- What linking answers, against the first gap of the units. Want of memory is a free answer.
use Rattle.std.specs.Prelude.{◌≡◌, ℕ, List, Some, None, Result, Ok, Err}
use Rattle.c_typed.specs.declared.program.Typed.{Typed}
use Rattle.c_typed.specs.Programs.{UnitData, ProgramData, program_data}
use Rattle.c_link.specs.Clashes.{trouble_of}
use Rattle.c_link.specs.declared.gap.Gap as declared
use Rattle.c_link.specs.declared.gap.Gap.TheVariants.{TagClash, NameClash, Twice, Missing, NoMain, Limit, Memory}
use Rattle.c_link.specs.Gaps.{Agree, IsComplete, IsGap, IsProgramOfUnits, IsMissingOf, HasNoMain, first_limit, limits}
use Rattle.c_link.specs.Gaps as Gaps

abbrev pub Fails : (Gaps.Gap → Type 0) → declared.Gap → Type 0
Fails Is (TagClash t) = Is (Gaps.tag_clash (trouble_of t))
Fails Is (NameClash t) = Is (Gaps.name_clash (trouble_of t))
Fails Is (Twice t) = Is (Gaps.twice (trouble_of t))
Fails Is (Missing x) = Is (Gaps.missing x)
Fails Is NoMain = Is Gaps.no_main
Fails Is (Limit it) = Is (Gaps.limit it.which it.counted)
Fails Is (Memory want) = Unit {0}

-- units are at odds, or they agree
abbrev pub AgreeGives : List UnitData → Result (Unit {0}) declared.Gap → Type 0
AgreeGives units (Ok x) = Agree units
AgreeGives units (Err gap) = Fails (IsGap units) gap

-- what a program lacks whose structures have these tags
abbrev pub IsLack : (tags : List (List ℕ)) → ProgramData → Gaps.Gap → Type 0
IsLack tags p (Gaps.missing x) = IsMissingOf tags p x
IsLack tags p Gaps.no_main = HasNoMain p
IsLack tags p gap = ⊥

-- which limit a program passes first
abbrev pub IsPassed : ProgramData → Gaps.Gap → Type 0
IsPassed p (Gaps.limit which counted) = first_limit p limits ≡ Some (which, counted)
IsPassed p gap = ⊥

abbrev pub CompleteGives : (tags : List (List ℕ)) → ProgramData → Result (Unit {0}) declared.Gap → Type 0
CompleteGives tags p (Ok x) = IsComplete p
CompleteGives tags p (Err gap) = Fails (IsLack tags p) gap

abbrev pub LinkGives : List UnitData → Result Typed declared.Gap → Type 0
LinkGives units (Ok p) = IsProgramOfUnits units (program_data p)
LinkGives units (Err gap) = Fails (IsGap units) gap

-- the same program, or the first limit that it passes
abbrev pub WithinGives : ProgramData → Result Typed declared.Gap → Type 0
WithinGives p (Ok q) = (program_data q ≡ p) × (first_limit p limits ≡ None)
WithinGives p (Err gap) = Fails (IsPassed p) gap
