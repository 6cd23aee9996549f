use Rattle.std.proofs.Common.{◌≡◌, true, false, map, sym, ap, subst, ◌∙◌}
use Rattle.std.specs.Prelude.{if◌then◌else◌}
use Rattle.lay_base.specs.KeywordScan.{begins_with_underscore, number_from}
use Rattle.lay_base.specs.Keywords.{left_out, left_out_plain}
use Rattle.lay_base.proofs.keywords.left_out_of.Goals as goal

pub returns-then-begins_with_underscore : goal.returns-then-begins_with_underscore
returns-then-begins_with_underscore c =
    let word = c.args.word.now in
    let is : begins_with_underscore word ≡ true = sym c.begins_with_underscore.ensures ∙ c.if-begins_with_underscore.true in
    subst (λ texts. c.number_of.result ≡ number_from 0 (map (λ text. text.now) texts) word) c.as_slice.ensures c.number_of.ensures
    ∙ sym (ap (λ b. if b then number_from 0 left_out word else number_from 0 left_out_plain word) is)

pub returns-else-begins_with_underscore : goal.returns-else-begins_with_underscore
returns-else-begins_with_underscore c =
    let word = c.args.word.now in
    let is : begins_with_underscore word ≡ false = sym c.begins_with_underscore.ensures ∙ c.if-begins_with_underscore.false in
    subst (λ texts. c.number_of-else-begins_with_underscore.result ≡ number_from 0 (map (λ text. text.now) texts) word)
    c.as_slice-else-begins_with_underscore.ensures c.number_of-else-begins_with_underscore.ensures
    ∙ sym (ap (λ b. if b then number_from 0 left_out word else number_from 0 left_out_plain word) is)
