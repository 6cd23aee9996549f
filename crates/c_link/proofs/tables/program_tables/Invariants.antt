use Rattle.std.proofs.Common.{◌≡◌, drop, fold, map}
use Rattle.c_typed.specs.Programs.{unit_data}
use Rattle.c_link.specs.Joining.{numbered_from}
use Rattle.c_link.specs.Views.{no_tables, tables_of, with_unit_in}
use Rattle.c_link.proofs.tables.program_tables.Given as goal

abbrev pub invariant-loop-k : goal.invariant-loop-k
invariant-loop-k l = fold with_unit_in (tables_of l.tags l.tables) (numbered_from l.k (map unit_data (drop l.k l.units)))
    ≡ fold with_unit_in (no_tables l.tags) (numbered_from 0 (map unit_data l.units))
