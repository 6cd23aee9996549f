use Rattle.std.proofs.Common.{◌≡◌, ◌≤◌, ◌∙◌, [], arith, ap, drop, false, length, rules, subst, sym}
use Rattle.std.proofs.lemmas.Iterator.Adapters.{YieldsList-from_vec}
use Rattle.std.proofs.lemmas.Iterator.Consumers.{YieldsList-end, YieldsList-turn}
use Rattle.std.proofs.lemmas.List.{drop_all, length_push}
use Rattle.c_types.specs.Views.{records_of}
use Rattle.c_numbers.specs.KeyNumbers.Keys.{position}
use Rattle.c_link.specs.Placing.{put}
use Rattle.c_link.proofs.NextRecords.{counted, from, next_can_follow, next_records}
use Rattle.c_link.proofs.program.joined_records.Goals as goal

pub join_record-requires : goal.join_record-requires
join_record-requires c =
    let l = c.loop-r in
    let v = c.into_vec-r-items in
    let g = c.into_iter-r-iterator.ensures.into_iter_gives in
    let turn = YieldsList-turn (YieldsList-from_vec c.args.all (g.0 ∙ v.ensures) (g.1 ∙ counted v.result ∙ ap length v.ensures)) l.yielded l.r-iterator l.yielded_by c.next.result c.next.new.self c.in-Some.r c.in-Some.is c.next.ensures.steps in
    let n : c.number.result ≡ position c.args.tags.now c.in-Some.r.tag = search rules in
    next_can_follow c.args.tags.now c.args.all (length l.yielded) c.in-Some.r c.number.result l.records _ turn.0 turn.1 n l.invariant c.requires

pub loop-r-preserved : goal.loop-r-preserved
loop-r-preserved c =
    let l = c.loop-r in
    let v = c.into_vec-r-items in
    let g = c.into_iter-r-iterator.ensures.into_iter_gives in
    let turn = YieldsList-turn (YieldsList-from_vec c.args.all (g.0 ∙ v.ensures) (g.1 ∙ counted v.result ∙ ap length v.ensures)) l.yielded l.r-iterator l.yielded_by c.next.result c.next.new.self c.in-Some.r c.in-Some.is c.next.ensures.steps in
    let n : c.number.result ≡ position c.args.tags.now c.in-Some.r.tag = search rules in
    let e : c.join_record.new.records ≡ put false l.records c.number.result c.in-Some.r = search rules in
    let whole = from c.args.tags.now (records_of []) (records_of c.args.all) in
    subst (λ i. from c.args.tags.now (records_of c.join_record.new.records) (records_of (drop i c.args.all)) ≡ whole) (sym (length_push l.yielded c.in-Some.r))
    (next_records c.args.tags.now c.args.all (length l.yielded) c.in-Some.r c.number.result l.records c.join_record.new.records whole turn.0 turn.1 n e l.invariant)

pub returns : goal.returns
returns c =
    let l = c.loop-r in
    let v = c.into_vec-r-items in
    let g = c.into_iter-r-iterator.ensures.into_iter_gives in
    let end = YieldsList-end (YieldsList-from_vec c.args.all (g.0 ∙ v.ensures) (g.1 ∙ counted v.result ∙ ap length v.ensures)) l.yielded l.r-iterator l.yielded_by c.next.result c.next.new.self c.in-None.is c.next.ensures.steps in
    let past : length c.args.all ≤ length l.yielded = omega (arith, end.1) in
    ap (λ them. from c.args.tags.now (records_of l.records) (records_of them)) (sym (drop_all (length l.yielded) c.args.all past)) ∙ l.invariant
