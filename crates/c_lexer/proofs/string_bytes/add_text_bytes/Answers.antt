use Rattle.std.proofs.Common.{◌≡◌, ◌++◌, ◌∷◌, [], ◌<◌, ◌≤◌, length, rules, arith, sym, ◌∙◌}
use Rattle.c_lexer.proofs.StringBytes.{reads_end, reads_more, reads_none}
use Rattle.c_lexer.proofs.string_bytes.add_text_bytes.Goals as goal

pub returns-in_default : goal.returns-in_default
returns-in_default c =
    let more : 0 < length c.loop-rest.rest.now = search rules in
    let kept = reads_none c.args.bytes.now.items c.loop-rest.bytes.items c.loop-rest.rest.now c.args.text.now
    (sym c.item_at.ensures.is ∙ c.in_default.is) more c.loop-rest.invariant in
    search (rules, kept)

pub loop-rest-preserved : goal.loop-rest-preserved
loop-rest-preserved c =
    let added : c.push.new.items.items ≡ c.loop-rest.bytes.items ++ c.in-Some.value ∷ [] = search rules in
    let small : c.in-Some.value ≤ 255 = omega (arith, c.if-value-gt255.false) in
    rw (added, c.split_at.ensures.back) (reads_more _ c.loop-rest.bytes.items c.loop-rest.rest.now _ c.in-Some.value c.in-Some.count
    (sym c.item_at.ensures.is ∙ c.in-Some.is) small c.loop-rest.invariant)

pub returns : goal.returns
returns c =
    let none : length c.loop-rest.rest.now ≡ 0 = search rules in
    reads_end c.args.bytes.now.items c.loop-rest.bytes.items c.loop-rest.rest.now c.args.text.now none c.loop-rest.invariant
