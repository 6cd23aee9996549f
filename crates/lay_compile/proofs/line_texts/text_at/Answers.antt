use Rattle.std.proofs.Common.{◌∙◌}
use Rattle.lay_compile.proofs.LineTexts.Texts.{is_text}
use Rattle.lay_compile.proofs.line_texts.text_at.Goals as goal

pub returns : goal.returns
returns c =
    let is = rw c.in-Some.is at c.in_ok-presumed.ensures in
    is_text c.args.file.now c.args.at c.of-2.result c.in-Some.presumed (rw c.as_slice.ensures at is)
    (c.of-2.ensures ∙ rw (← c.presumed_name.ensures) c.in_ok-text.ensures)
