use Rattle.std.proofs.Common.{◌≡◌, [], map, get_or, subst}
use Rattle.lay_base.proofs.keywords.left_out_text.Goals as goal

pub returns : goal.returns
returns c = subst (λ texts. c.text_at.result.now ≡ get_or (map (λ text. text.now) texts) c.args.number []) c.as_slice.ensures c.text_at.ensures
