-- No record takes the place of one that is there: the first of each tag is kept.
use Rattle.std.proofs.Common.{◌≡◌, true, false, Option, Some, None, refl}
use Rattle.c_types.specs.Types.{Record}
use Rattle.c_link.specs.Placing.{replaces_one}

pub never : (found : Option Record) (x : Record) → false ≡ replaces_one (λ r. true) found x
never None x = refl
never (Some y) x = refl
