use Rattle.std.proofs.Common.{◌≡◌, ◌++◌, ◌∙◌, [], append-nil, ap, map, rules, sym}
use Rattle.std.proofs.lemmas.List.{drop_all, map-append}
use Rattle.c_typed.specs.Programs.{unit_data}
use Rattle.c_numbers.specs.KeyNumbers.Keys.{position}
use Rattle.c_types.specs.Views.{records_of}
use Rattle.c_link.specs.Joining.{complete_in, tags_of_unit}
use Rattle.c_link.proofs.NumberLists.{numbers_are}
use Rattle.c_link.proofs.tags.numbers_of_structures.Goals as goal

pub returns : goal.returns
returns c =
    let tags = c.args.tags.now in
    let u = unit_data c.args.u.now in
    let number = position tags in
    let no_records = drop_all c.loop-r.r-index c.as_slice-r-items.result.now c.loop-r-test.false in
    let no_names = drop_all c.loop-name.name-index c.as_slice-name-items.result.now c.loop-name-test.false in
    let r : map (λ r. r.tag) (records_of c.as_slice-r-items.result.now) ≡ complete_in u = search rules in
    let n : c.as_slice-name-items.result.now ≡ u.incomplete = search rules in
    let first : c.loop-r.entries ≡ map number (complete_in u) =
    sym (append-nil c.loop-r.entries) ∙ ap (λ rest. c.loop-r.entries ++ map number (map (λ r. r.tag) (records_of rest))) (sym no_records)
    ∙ c.loop-r.invariant ∙ ap (map number) r in
    let second : c.loop-name.entries ≡ c.loop-r.entries ++ map number u.incomplete =
    sym (append-nil c.loop-name.entries) ∙ ap (λ rest. c.loop-name.entries ++ map number rest) (sym no_names) ∙ c.loop-name.invariant
    ∙ ap (λ them. c.loop-r.entries ++ map number them) n in
    let h = second ∙ ap (λ them. them ++ map number u.incomplete) first ∙ sym (map-append number (complete_in u) u.incomplete) in
    numbers_are number [] (tags_of_unit u) _ h c.number-2.ensures
