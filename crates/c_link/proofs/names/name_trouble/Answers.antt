use Rattle.std.proofs.Common.{◌≡◌, map, rules}
use Rattle.std.specs.Option.{option_map}
use Rattle.c_typed.specs.Programs.{unit_data}
use Rattle.c_link.specs.Clashes.{trouble_of}
use Rattle.c_link.specs.Earliest.{earliest_of}
use Rattle.c_link.specs.Names.{linked_of, troubles_with_names}
use Rattle.c_link.proofs.NameTroubles.{asked_or_none}
use Rattle.c_link.proofs.names.name_trouble.Goals as goal

pub returns : goal.returns
returns c =
    let all = map linked_of c.args.all.now in
    let e : option_map trouble_of c.earliest.result ≡ earliest_of (troubles_with_names c.args.asked all) = search rules in
    asked_or_none (map unit_data c.args.units.now) c.args.asked all c.earliest.result c.requires.linked e
