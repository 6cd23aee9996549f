use Rattle.std.proofs.Common.{rules, map, refl}
use Rattle.c_ast.specs.Views.{item_of}
use Rattle.c_parser.proofs.ItemRounds.{items_end, items_out, items_fail, items_go, some_tokens, no_tokens}
use Rattle.c_parser.proofs.parsing.items_of.Goals as goal

pub returns-then-rounds-eq0 : goal.returns-then-rounds-eq0
returns-then-rounds-eq0 c =
    let some = some_tokens _ c.items.tokens c.is_empty.ensures (search (rules, c.items-test.true)) in
    let out = items_out (map item_of c.items.all) c.items.rounds c.items.types c.items.tokens _ some c.if-rounds-eq0.true c.items.invariant in
    search (rules, out, c.stop.ensures)

pub returns-in_err-one : goal.returns-in_err-one
returns-in_err-one c =
    let some = some_tokens _ c.items.tokens c.is_empty.ensures (search (rules, c.items-test.true)) in
    let stops = items_fail c.in_err-one.field-0.0 (map item_of c.items.all) c.items.rounds c.items.types c.items.tokens _ some
    (search rules) c.in_err-one.ensures c.items.invariant in
    search (rules, stops, c.from_residual.ensures)

pub items-preserved : goal.items-preserved
items-preserved c =
    let some = some_tokens _ c.items.tokens c.is_empty.ensures (search (rules, c.items-test.true)) in
    rw c.in_ok-all.ensures.items
    (items_go (map item_of c.items.all) c.items.rounds _ c.items.types c.kept.new.types c.items.tokens c.item.new.tokens
    (item_of c.in_ok-one.one) _ _ some refl (search rules) c.in_ok-one.ensures c.in_ok-all.ensures.types c.items.invariant)

pub returns : goal.returns
returns c =
    let none = no_tokens _ c.items.tokens c.is_empty.ensures (search (rules, c.items-test.false)) in
    items_end (map item_of c.items.all) c.items.rounds c.items.types c.items.tokens _ none c.items.invariant
