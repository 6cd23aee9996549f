use Rattle.std.proofs.Common.{◌<◌, length, arith}
use Rattle.c_types.proofs.Offsets.{offset_within}
use Rattle.c_types.proofs.sizes.offset_of.Goals as goal

pub bounds-as_slice-field : goal.bounds-as_slice-field
bounds-as_slice-field c =
    rw (c.as_slice.ensures, c.layout_at.ensures, c.layouts.ensures.value) (offset_within c.args.r.now c.args.number c.args.field c.requires)

pub offset_bounds-as_slice-field : goal.offset_bounds-as_slice-field
offset_bounds-as_slice-field c =
    let within : c.args.field < length c.as_slice.result.now =
    rw (c.as_slice.ensures, c.layout_at.ensures, c.layouts.ensures.value) (offset_within c.args.r.now c.args.number c.args.field c.requires) in
    omega (arith, within)
