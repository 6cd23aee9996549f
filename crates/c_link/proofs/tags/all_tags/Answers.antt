use Rattle.std.proofs.Common.{◌≡◌, ◌∙◌, ap, fold, map, sym}
use Rattle.std.specs.Prelude.{flat_map}
use Rattle.std.proofs.lemmas.List.{drop_all}
use Rattle.c_typed.specs.Programs.{unit_data}
use Rattle.c_numbers.specs.KeyNumbers.Keys.{with_key}
use Rattle.c_numbers.proofs.KeyNumbers.Laws.{all_after, all_new}
use Rattle.c_link.specs.Joining.{complete_in, complete_tags}
use Rattle.c_link.proofs.tags.all_tags.Goals as goal

pub loop-u-2-init : goal.loop-u-2-init
loop-u-2-init c =
    let units = map unit_data c.args.units.now in
    let e = drop_all c.loop-u.u-index c.args.units.now c.loop-u-test.false in
    let complete : c.loop-u.tags ≡ complete_tags units =
    ap (λ rest. fold with_key c.loop-u.tags (flat_map complete_in (map unit_data rest))) (sym e) ∙ c.loop-u.invariant ∙ all_new _ in
    ap (λ known. fold with_key known (flat_map (λ u. u.incomplete) units)) complete

pub returns : goal.returns
returns c =
    let e = drop_all c.loop-u-2.u-index c.args.units.now c.loop-u-2-test.false in
    ap (λ rest. fold with_key c.loop-u-2.tags (flat_map (λ u. u.incomplete) (map unit_data rest))) (sym e) ∙ c.loop-u-2.invariant ∙ all_after _ _
