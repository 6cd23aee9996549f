use Rattle.std.proofs.Common.{◌∙◌, ap}
use Rattle.c_numbers.specs.KeyNumbers.Keys.{with_key}
use Rattle.c_numbers.proofs.KeyNumbers.Places.{added_is, listed}
use Rattle.c_numbers.proofs.key_numbers.name_table.NameTable.add.Goals as goal

pub returns-clause-added : goal.returns-clause-added
returns-clause-added c =
    ap listed c.in_ok-put_key.ensures.put ∙ added_is c.self.inside.names.keys c.in_ok-copy.copy ∙ ap (λ names. with_key names c.in_ok-copy.copy.items) c.self.view_is
    ∙ ap (with_key c.args.self.now) (c.in_ok-copy.ensures ∙ c.as_slice.ensures)
