use Rattle.std.proofs.Common.{◌≡◌, sym, subst}
use Rattle.std.specs.Prelude.{IfOk}
use Rattle.profile_file.proofs.Texts.{text_in_pieces}
use Rattle.profile_file.proofs.writing.write.Goals as goal

pub returns : goal.returns
returns c = subst (λ t. IfOk c.pieces.result (λ text. text.items ≡ t)) (sym (text_in_pieces c.args.c.now)) c.pieces.ensures
