use Rattle.std.proofs.Common.{append_assoc}
use Rattle.std.proofs.lemmas.Result.{IfOk-equal}
use Rattle.elf32.proofs.writing.file_header.Goals as goal

pub returns : goal.returns
returns c =
    IfOk-equal c.half-8.result _ _ _ c.half-8.ensures
    (rw (
      c.in_ok-half-7.ensures,
      c.in_ok-half-6.ensures,
      c.in_ok-half-5.ensures,
      c.in_ok-half-4.ensures,
      c.in_ok-half-3.ensures,
      c.in_ok-word-5.ensures,
      c.in_ok-word-4.ensures,
      c.in_ok-word-3.ensures,
      c.in_ok-word-2.ensures,
      c.in_ok-word.ensures,
      c.in_ok-half-2.ensures,
      c.in_ok-half.ensures,
      c.in_ok-bytes.ensures,
    ) (simp append_assoc))
