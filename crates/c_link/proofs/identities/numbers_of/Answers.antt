use Rattle.std.proofs.Common.{◌≡◌, ◌∙◌, [], ap, map}
use Rattle.std.proofs.lemmas.List.{take_all}
use Rattle.c_numbers.specs.KeyNumbers.Keys.{position}
use Rattle.c_link.proofs.NumberLists.{numbers_are}
use Rattle.c_link.proofs.identities.numbers_of.Goals as goal

pub returns : goal.returns
returns c =
    let number = position c.args.table.now in
    let keys = map (λ key. key.items) c.args.keys.now in
    let h : c.loop-key.entries ≡ map number keys =
    c.loop-key.invariant ∙ ap (λ them. map number (map (λ key. key.items) them)) (take_all c.loop-key.key-index c.args.keys.now c.loop-key-test.false) in
    numbers_are number [] keys _ h c.number-2.ensures
