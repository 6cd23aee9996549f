use Rattle.std.proofs.Common.{append_assoc}
use Rattle.std.proofs.lemmas.Result.{IfOk-equal}
use Rattle.elf32.proofs.writing.program_header.Goals as goal

pub returns : goal.returns
returns c =
    IfOk-equal c.word-8.result _ _ _ c.word-8.ensures
    (rw (
      c.in_ok-word-7.ensures,
      c.in_ok-word-6.ensures,
      c.in_ok-word-5.ensures,
      c.in_ok-word-4.ensures,
      c.in_ok-word-3.ensures,
      c.in_ok-word-2.ensures,
      c.in_ok-word.ensures,
      c.len.ensures,
    ) (simp append_assoc))
