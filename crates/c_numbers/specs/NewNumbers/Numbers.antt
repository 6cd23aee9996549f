-- The renaming for which lists of numbers stand.
use Rattle.std.specs.Prelude.{ℕ, slice_get, unwrap_or}
use Rattle.c_numbers.specs.declared.new_numbers.numbers.Numbers.{Numbers}
use Rattle.c_numbers.specs.declared.new_numbers.numbers.Renumbering.{Renumbering}
use Rattle.c_typed.specs.Mapped.{Renaming}

-- the number in its place, or the one for all others
abbrev pub number_at : Numbers → ℕ → ℕ
number_at numbers n = unwrap_or (slice_get numbers.entries n) numbers.otherwise

abbrev pub renaming_of : Renumbering → Renaming ℕ ℕ
renaming_of to = record {
  ty = number_at to.types;
  object = number_at to.objects;
  function = number_at to.functions;
  structure = number_at to.records;
}
