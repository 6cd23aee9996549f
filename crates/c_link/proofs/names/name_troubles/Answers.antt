use Rattle.std.proofs.Common.{◌≡◌, Bor, ◌+◌, ◌++◌, ◌∷◌, ◌∙◌, List, ap, drop, map, sym, rules}
use Rattle.std.specs.Prelude.{slice_get}
use Rattle.std.specs.Option.{option_copied, option_map}
use Rattle.std.proofs.lemmas.List.{at_drop_more}
use Rattle.c_numbers.specs.KeyNumbers.Keys.{position}
use Rattle.c_link.specs.declared.linked.Linked.{Linked}
use Rattle.c_link.specs.Clashes.{trouble_of}
use Rattle.c_link.specs.Gaps as Gaps
use Rattle.c_link.specs.Names.{counts, linked_of, told_by}
use Rattle.c_link.specs.Repeats.{repeats}
use Rattle.c_link.proofs.LookUps.{found_is, looked_up}
use Rattle.c_link.proofs.Repeats.{one_more_told}
use Rattle.c_link.proofs.names.name_troubles.Goals as goal

pub loop-l-preserved : goal.loop-l-preserved
loop-l-preserved c =
    let l = c.l-item.result in
    let names = c.args.names.now in
    let asked = c.args.asked in
    let all = c.args.all.now in
    let i = c.loop-l.l-index in
    let firsts = c.loop-l.firsts.items in
    let number = c.number-number.result in
    let n : number ≡ position names l.name = search rules in
    let at = c.get.ensures.lookup in
    let k = looked_up c.get.result c.deref.result.now number at.0 at.1 in
    let q = c.copied-first.ensures ∙ k ∙ ap (λ them. slice_get them number) c.deref.ensures.value in
    let found = option_map linked_of (option_copied c.copied-first.result) in
    let f = found_is linked_of firsts number c.copied-first.result q in
    let left = λ (them : List Linked). map trouble_of c.loop-l.troubles
    ++ repeats (λ (l : Gaps.Linked). l.name) (counts asked) (told_by asked) names (map (λ (it : Bor Linked). linked_of it.now) firsts) (map linked_of them) in
    one_more_told (λ (l : Gaps.Linked). l.name) (counts asked) (told_by asked) (λ (it : Bor Linked). linked_of it.now) names firsts _ number c.takes_place.result
    (map trouble_of c.loop-l.troubles) (map trouble_of c.tell.new.troubles) found c.put.new.all.items (map linked_of (drop (i + 1) all)) n f
    c.takes_place.ensures c.in_ok-tell.ensures c.in_ok-put.ensures
    ∙ ap (λ x. left (x ∷ drop (i + 1) all)) c.l-item.is
    ∙ sym (at_drop_more left all i l c.loop-l-test.true)
    ∙ c.loop-l.invariant
