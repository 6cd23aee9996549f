use Rattle.std.proofs.Common.{◌≡◌, ◌++◌, drop, map}
use Rattle.rv_code.specs.Programs.{all_texts_end, entries_end, entries_from, first_entry, layouts_from}
use Rattle.tac_ir.specs.Code.{data_of}
use Rattle.rv_code.proofs.programs.layouts.Given as goal

abbrev pub invariant-loop-g : goal.invariant-loop-g
invariant-loop-g l = record {
  layouts : l.layouts.items ++ layouts_from l.at l.texts (map data_of (drop l.g-index l.routines)) ≡ layouts_from first_entry l.fn.texts (map data_of l.fn.routines);
  entries : l.entries.items ++ entries_from l.at (map data_of (drop l.g-index l.routines)) ≡ entries_from first_entry (map data_of l.fn.routines);
  code : entries_end l.at (map data_of (drop l.g-index l.routines)) ≡ entries_end first_entry (map data_of l.fn.routines);
  text : all_texts_end l.texts (map data_of (drop l.g-index l.routines)) ≡ all_texts_end l.fn.texts (map data_of l.fn.routines);
}
