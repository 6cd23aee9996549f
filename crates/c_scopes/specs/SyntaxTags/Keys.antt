-- What a table with keys of bytes has at a name.
use Rattle.std.specs.Prelude.{ℕ, List, Option}
use Rattle.std.specs.Map.{lookup}
use Rattle.std.specs.Str.{bytes_eq}
use Rattle.std.specs.Global.{Vec}

abbrev pub found_at : {V : Type 0} → List (Vec ℕ × V) → List ℕ → Option V
found_at entries x = lookup (λ key. bytes_eq x key.items) entries
