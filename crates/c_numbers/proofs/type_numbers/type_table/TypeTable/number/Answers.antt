use Rattle.std.proofs.Common.{◌≡◌, ◌∙◌, ap, map, rules}
use Rattle.c_erasure.specs.Units.{number_in}
use Rattle.c_types.specs.Views.{type_of}
use Rattle.c_numbers.specs.KeyNumbers.Keys.{position}
use Rattle.c_numbers.specs.TypeNumbers.TypeKeys.{type_key}
use Rattle.c_numbers.proofs.TypeNumbers.Places.{place_is}
use Rattle.c_numbers.proofs.type_numbers.type_table.TypeTable.number.Goals as goal

pub returns : goal.returns
returns c =
    let t = type_of c.args.t.now in
    let e : c.number.result ≡ position (map type_key (map type_of c.self.inside.types.items)) (type_key t) = search rules in
    e ∙ place_is _ t ∙ ap (λ types. number_in (map type_of types) t) c.self.view_is
