use Rattle.std.proofs.Common.{rules, ◌≡◌, ◌<◌, get_or, length, None}
use Rattle.c_types.specs.Layouts.{size_of}
use Rattle.c_types.specs.Limits.{size_if_small}
use Rattle.c_types.specs.Views.{records_of, type_of}
use Rattle.c_declaring.proofs.LargeFields.{passes_with_field}
use Rattle.c_declaring.proofs.structures.are_bounded.Goals as goal

pub returns-then-is_none-clause-passed : goal.returns-then-is_none-clause-passed
returns-then-is_none-clause-passed c h =
    let fields = c.args.it.now.fields in
    let i = c.loop-field.field-index in
    let within : i < length fields = search rules in
    let item : c.field-item.result ≡ get_or fields i c.field-item.result = search rules in
    let none : None ≡ size_if_small (size_of (records_of c.args.records.now) (type_of c.field-item.result.ty)) = search rules in
    passes_with_field c.args.records.now c.args.it.now i c.field-item.result within item none
