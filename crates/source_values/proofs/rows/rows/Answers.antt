use Rattle.std.proofs.Common.{◌≡◌, ap, arith, rules, length, refl, Some}
use Rattle.std.specs.Prelude.{slice_get}
use Rattle.std.proofs.lemmas.List.{length-map}
use Rattle.std.proofs.lemmas.Option.{slice_get_read}
use Rattle.c_types.specs.Views.{type_of}
use Rattle.c_typed.specs.Programs.{program_data}
use Rattle.source_values.specs.Rows.{row_of}
use Rattle.source_values.proofs.ByNumber.{all_found, one_more, row_here, small_here}
use Rattle.source_values.proofs.rows.rows.Goals as goal

pub row_for-row-requires : goal.row_for-row-requires
row_for-row-requires c =
    let there : slice_get c.args.typed.now.types c.loop-index.index ≡ Some c.t-item.result =
    rw (← c.as_slice-t-items.ensures)
    (slice_get_read c.as_slice-t-items.result.now (length c.as_slice-t-items.result.now) c.loop-index.index c.t-item.result refl c.loop-index-test.true c.t-item.is) in
    small_here c.args.typed.now c.loop-index.index c.t-item.result there c.requires

pub loop-index-preserved : goal.loop-index-preserved
loop-index-preserved c =
    let there : slice_get c.args.typed.now.types c.loop-index.index ≡ Some c.t-item.result =
    rw (← c.as_slice-t-items.ensures)
    (slice_get_read c.as_slice-t-items.result.now (length c.as_slice-t-items.result.now) c.loop-index.index c.t-item.result refl c.loop-index-test.true c.t-item.is) in
    let here : c.row_for-row.result ≡ row_of (program_data c.args.typed.now) c.loop-index.index =
    row_here c.args.typed.now c.loop-index.index c.t-item.result c.row_for-row.result there c.row_for-row.ensures in
    one_more (program_data c.args.typed.now) c.loop-index.rows.items c.push.new.items.items c.loop-index.index c.row_for-row.result here
    c.loop-index.invariant (search rules)

pub returns : goal.returns
returns c =
    all_found (program_data c.args.typed.now) c.loop-index.rows.items c.loop-index.index
    (omega (arith, length-map c.args.typed.now.types type_of, ap length c.as_slice-t-items.ensures)) c.loop-index.invariant c.requires
