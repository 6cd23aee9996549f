use Rattle.c_checking_laws.proofs.TextOrder.Texts.{texts_are_in_order}
use Rattle.c_checking_laws.proofs.text_order.texts_are_in_order.Goals as goal

pub returns : goal.returns
returns c = texts_are_in_order
