use Rattle.std.proofs.Common.{◌≡◌, rules}
use Rattle.std.specs.Option.{option_map}
use Rattle.c_typed.specs.Programs.{program_data}
use Rattle.c_link.specs.Clashes.{trouble_of}
use Rattle.c_link.specs.Earliest.{earliest_of}
use Rattle.c_link.specs.Gaps.{all_missing}
use Rattle.c_link.proofs.MissingNames.{missing_or_none}
use Rattle.c_link.proofs.missing.missing_name.Goals as goal

pub returns : goal.returns
returns c =
    let p = program_data c.args.p.now in
    let e : option_map trouble_of c.earliest.result ≡ earliest_of (all_missing p) = search rules in
    missing_or_none p c.earliest.result e
