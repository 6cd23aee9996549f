use Rattle.std.proofs.Common.{sym}
use Rattle.refusals.proofs.Texts.{line-joined}
use Rattle.refusals.proofs.put.put_stale.Goals as goal

pub returns : goal.returns
returns g c =
    rw (
      c.difference.ensures,
      line-joined,
      sym c.format.ensures.text,
      sym c.as_bytes-expected.ensures.value,
      sym c.format-2.ensures.text,
      sym c.as_bytes-found.ensures.value,
    )
    c.put_line.ensures
