use Rattle.std.proofs.Common.{sym, ◌∙◌}
use Rattle.c_lexer.proofs.Strings.{text_kept}
use Rattle.c_lexer.proofs.quoted.string_of.Goals as goal

pub loop-rest-preserved : goal.loop-rest-preserved
loop-rest-preserved c = text_kept c.loop-rest.wide c.too_great_yet-wide.result c.loop-rest.rest.now c.split_at.result.1.now c.in-Some.value
    c.in-Some.count _ c.too_great_yet-wide.ensures c.split_at.ensures.back (sym c.item_at.ensures.is ∙ c.in-Some.is) c.loop-rest.invariant
