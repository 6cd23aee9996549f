use Rattle.std.proofs.Common.{◌∙◌, ap, fold, map, sym}
use Rattle.std.proofs.lemmas.List.{drop_all}
use Rattle.c_typed.specs.Programs.{unit_data}
use Rattle.c_link.specs.Joining.{numbered_from}
use Rattle.c_link.specs.Views.{tables_of, with_unit_in}
use Rattle.c_link.proofs.TablesOfUnits.{all_tables}
use Rattle.c_link.proofs.tables.program_tables.Goals as goal

pub returns : goal.returns
returns c =
    let e = drop_all c.loop-k.k c.args.units.now c.loop-k-test.false in
    ap (λ rest. fold with_unit_in (tables_of c.args.tags.now c.loop-k.tables) (numbered_from c.loop-k.k (map unit_data rest))) (sym e)
    ∙ c.loop-k.invariant ∙ all_tables (map unit_data c.args.units.now) c.args.tags.now c.requires
