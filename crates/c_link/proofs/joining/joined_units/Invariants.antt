use Rattle.std.proofs.Common.{◌≡◌, ◌≤◌, ◌*◌, ◌^◌, fold, length, map}
use Rattle.c_typed.specs.Programs.{unit_data}
use Rattle.c_link.specs.Joining.{numbered_from}
use Rattle.c_link.specs.JoinedViews.{nothing, with_unit}
use Rattle.c_link.specs.Views.{joined_of, tables_of}
use Rattle.c_link.proofs.joining.joined_units.Given as goal

abbrev pub invariant-loop-u : goal.invariant-loop-u
invariant-loop-u l = record {
  few : l.joined.nodes ≤ l.k * 2 ^ 64;
  number : l.k ≡ length l.yielded;
  joined : joined_of l.joined ≡ fold (with_unit (tables_of l.tags l.tables)) nothing (numbered_from 0 (map unit_data l.yielded));
}
