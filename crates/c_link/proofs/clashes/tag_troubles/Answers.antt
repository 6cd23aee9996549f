use Rattle.std.proofs.Common.{◌≡◌, Bor, ◌+◌, List, true, false, ◌++◌, ◌∷◌, ◌∙◌, ap, drop, map, sym, rules}
use Rattle.std.specs.Prelude.{slice_get}
use Rattle.std.specs.Option.{option_copied, option_map}
use Rattle.std.proofs.lemmas.List.{at_drop_more}
use Rattle.c_types.specs.declared.record.Record.{Record}
use Rattle.c_types.specs.Types as Types
use Rattle.c_types.specs.Views.{record_of, records_of}
use Rattle.c_numbers.specs.KeyNumbers.Keys.{position}
use Rattle.c_link.proofs.RecordLists.{never}
use Rattle.c_link.specs.Clashes.{clashes, differing, trouble_of}
use Rattle.c_link.proofs.LookUps.{found_is, looked_up}
use Rattle.c_link.proofs.Repeats.{one_more_told}
use Rattle.c_link.proofs.clashes.tag_troubles.Goals as goal

pub loop-r-preserved : goal.loop-r-preserved
loop-r-preserved c =
    let r = c.r-item.result in
    let tags = c.args.tags.now in
    let all = c.args.all.now in
    let i = c.loop-r.r-index in
    let firsts = c.loop-r.firsts.items in
    let number = c.number-number.result in
    let n : number ≡ position tags r.tag = search rules in
    let at = c.get.ensures.lookup in
    let k = looked_up c.get.result c.deref.result.now number at.0 at.1 in
    let q = c.copied.ensures ∙ k ∙ ap (λ them. slice_get them number) c.deref.ensures.value in
    let found = option_map record_of (option_copied c.copied.result) in
    let f = found_is record_of firsts number c.copied.result q in
    let left = λ (them : List Record). map trouble_of c.loop-r.troubles
    ++ clashes tags (map (λ (it : Bor Record). record_of it.now) firsts) (records_of them) in
    one_more_told (λ (r : Types.Record). r.tag) (λ r. true) differing (λ (it : Bor Record). record_of it.now) tags firsts _ number false
    (map trouble_of c.loop-r.troubles) (map trouble_of c.add_clash.new.troubles) found c.put.new.all.items (records_of (drop (i + 1) all)) n f
    (never found (record_of r)) c.in_ok-add_clash.ensures c.in_ok-put.ensures
    ∙ ap (λ x. left (x ∷ drop (i + 1) all)) c.r-item.is
    ∙ sym (at_drop_more left all i r c.loop-r-test.true)
    ∙ c.loop-r.invariant
