-- The earliest of some troubles: of two at one place the first.
use Rattle.std.specs.Prelude.{◌==◌, nat_lt, Bool, ◌&&◌, ◌||◌, if◌then◌else◌, List, [], ◌∷◌, Option, Some, None}
use Rattle.lay_base.specs.declared.place.Place.{Place}
use Rattle.c_link.specs.Gaps.{Trouble}

abbrev pub is_earlier : Place → Place → Bool
is_earlier p q = nat_lt p.file q.file || (p.file == q.file && nat_lt p.at q.at)

abbrev pub earlier : Trouble → Trouble → Trouble
earlier t u = if is_earlier u.place t.place then u else t

abbrev pub earliest : Trouble → List Trouble → Trouble
earliest t [] = t
earliest t (u ∷ more) = earliest (earlier t u) more

abbrev pub earliest_of : List Trouble → Option Trouble
earliest_of [] = None
earliest_of (t ∷ more) = Some (earliest t more)

abbrev pub earlier_of : Option Trouble → Trouble → Trouble
earlier_of None u = u
earlier_of (Some t) u = earlier t u
