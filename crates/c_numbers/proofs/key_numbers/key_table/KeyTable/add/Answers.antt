use Rattle.std.proofs.Common.{◌∙◌, ap}
use Rattle.c_numbers.specs.KeyNumbers.Keys.{with_key}
use Rattle.c_numbers.proofs.KeyNumbers.Places.{added_is, listed}
use Rattle.c_numbers.proofs.key_numbers.key_table.KeyTable.add.Goals as goal

pub returns-clause-added : goal.returns-clause-added
returns-clause-added c =
    ap listed c.in_ok-put_key.ensures.put ∙ added_is c.self.inside.keys.keys c.args.key ∙ ap (λ keys. with_key keys c.args.key.items) c.self.view_is
