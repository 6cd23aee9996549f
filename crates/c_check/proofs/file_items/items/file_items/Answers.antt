use Rattle.std.proofs.Common.{◌≡◌, ◌∙◌, ◌+◌, ◌≤◌, ap, arith, length, map, drop, subst, sym}
use Rattle.std.proofs.lemmas.Iterator.Adapters.{YieldsList-from_vec}
use Rattle.std.proofs.lemmas.Iterator.Consumers.{YieldsList-end, YieldsList-turn}
use Rattle.std.proofs.lemmas.List.{length_push}
use Rattle.c_ast.specs.Sizes.{IsCountable, size_items}
use Rattle.c_ast.specs.Views.{item_of}
use Rattle.c_erasure.specs.Checking.Answers.{◌>>=◌}
use Rattle.c_erasure.specs.Checking.Files.{filed}
use Rattle.c_scopes.specs.Scoping.{file_of}
use Rattle.c_check_parts.proofs.InitializerParts.Turns.{fails_along, fails_on}
use Rattle.c_check.proofs.FileItems.InTurn.{counted, items_next, nodes_next, no_items, rest_countable}
use Rattle.c_check.proofs.file_items.items.file_items.Goals as goal

pub returns-in-Err-clause-filed : goal.returns-in-Err-clause-filed
returns-in-Err-clause-filed c =
    let l = c.loop-item in
    let v = c.into_vec-item-items in
    let g = c.into_iter-item-iterator.ensures.into_iter_gives in
    let turn = YieldsList-turn (YieldsList-from_vec c.args.items (g.0 ∙ v.ensures) (g.1 ∙ counted v.result ∙ ap length v.ensures)) l.yielded l.item-iterator l.yielded_by c.next.result c.next.new.self c.in-Some.item c.in-Some.is c.next.ensures.steps in
    fails_along c.in-Err.fault _ _
    (l.invariant.0 ∙ items_next c.args.items (length l.yielded) c.in-Some.item (file_of l.file) turn.0 turn.1)
    (fails_on c.in-Err.fault _ _ c.in-Err.ensures.filed)

pub loop-item-preserved : goal.loop-item-preserved
loop-item-preserved c =
    let l = c.loop-item in
    let all = c.args.items in
    let v = c.into_vec-item-items in
    let g = c.into_iter-item-iterator.ensures.into_iter_gives in
    let turn = YieldsList-turn (YieldsList-from_vec all (g.0 ∙ v.ensures) (g.1 ∙ counted v.result ∙ ap length v.ensures)) l.yielded l.item-iterator l.yielded_by c.next.result c.next.new.self c.in-Some.item c.in-Some.is c.next.ensures.steps in
    let nodes = nodes_next all (length l.yielded) c.in-Some.item turn.0 turn.1 in
    subst (λ n. (filed (map item_of all) (file_of c.args.file.now) ≡ filed (map item_of (drop n all)) (file_of c.finished_item.new.file))
    × (l.nodes + c.in-Ok.count + (size_items (map item_of (drop n all))).nodes ≡ (size_items (map item_of all)).nodes)
    × IsCountable (size_items (map item_of (drop n all)))) (sym (length_push l.yielded c.in-Some.item)) (
      l.invariant.0
          ∙ items_next all (length l.yielded) c.in-Some.item (file_of l.file) turn.0 turn.1
          ∙ ap (λ r. r >>= λ g. filed (map item_of (drop (length l.yielded + 1) all)) g) c.in-Ok.ensures.filed,
      omega (arith, l.invariant.1, nodes, c.in-Ok.ensures.nodes),
      rest_countable all (length l.yielded) c.in-Some.item turn.0 turn.1 l.invariant.2,
    )

pub returns-clause-filed : goal.returns-clause-filed
returns-clause-filed c =
    let l = c.loop-item in
    let v = c.into_vec-item-items in
    let g = c.into_iter-item-iterator.ensures.into_iter_gives in
    let end = YieldsList-end (YieldsList-from_vec c.args.items (g.0 ∙ v.ensures) (g.1 ∙ counted v.result ∙ ap length v.ensures)) l.yielded l.item-iterator l.yielded_by c.next.result c.next.new.self c.in-None.is c.next.ensures.steps in
    let past : length c.args.items ≤ length l.yielded = omega (arith, end.1) in
    l.invariant.0 ∙ no_items c.args.items (length l.yielded) (file_of l.file) past
