use Rattle.std.proofs.Common.{sym}
use Rattle.refusals.proofs.put.put_bad_profile.Goals as goal

pub returns : goal.returns
returns g c = rw (sym c.format.ensures.text, sym c.as_bytes.ensures.value) c.put_line.ensures
