use Rattle.std.proofs.Common.{◌∙◌, ap}
use Rattle.c_numbers.proofs.KeyNumbers.Places.{index_is_place}
use Rattle.c_numbers.specs.KeyNumbers.Keys.{position}
use Rattle.c_numbers.proofs.key_numbers.name_table.NameTable.number.Goals as goal

pub returns : goal.returns
returns c =
    let key = c.args.name.now in
    c.unwrap_or.ensures ∙ (rw c.get_index_of.ensures.index (rw c.len.ensures.len (index_is_place c.self.inside.names.keys key))) ∙ ap (λ keys. position keys key) c.self.view_is
