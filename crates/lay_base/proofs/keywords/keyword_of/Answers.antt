use Rattle.std.proofs.Common.{◌≡◌, Some, None, map, sym, ap, subst, ◌∙◌}
use Rattle.lay_base.specs.KeywordScan.{found_in, kept_or, kept_rows, keyword_of}
use Rattle.lay_base.proofs.keywords.keyword_of.Goals as goal

pub returns-in-Some : goal.returns-in-Some
unfolding keyword_of
returns-in-Some c =
    let there : found_in kept_rows c.args.word.now ≡ Some c.in-Some.keyword = sym (subst (λ rows. c.found_in.result ≡ found_in (map (λ row. (row.0.now, row.1)) rows) c.args.word.now) c.as_slice.ensures c.found_in.ensures) ∙ c.in-Some.is in
    sym (ap (λ o. kept_or o c.args.word.now) there)

pub returns-in-None : goal.returns-in-None
unfolding keyword_of
returns-in-None c =
    let there : found_in kept_rows c.args.word.now ≡ None = sym (subst (λ rows. c.found_in.result ≡ found_in (map (λ row. (row.0.now, row.1)) rows) c.args.word.now) c.as_slice.ensures c.found_in.ensures) ∙ c.in-None.is in
    c.left_out_of.ensures ∙ sym (ap (λ o. kept_or o c.args.word.now) there)
