use Rattle.std.proofs.Common.{◌≡◌, ◌∙◌, ap, length, arith}
use Rattle.rv_isa.specs.Memory.{readable, writable}
use Rattle.rv_machine.specs.Making.{size_of}
use Rattle.rv_machine.specs.Rows.{segments_of}
use Rattle.rv_machine.proofs.Segments.{fits_each, bytes_length, rows_are_sound, begins_nothing, all_begin_nothing, segments_are, content_is}
use Rattle.rv_machine.proofs.memory.Memory.of.Goals as goal

pub bytes_for-requires : goal.bytes_for-requires
bytes_for-requires c = fits_each c.args.segments.now c.requires

pub rows_for-requires : goal.rows_for-requires
rows_for-requires c =
    let segments = c.args.segments.now in
    let number : length c.in_ok-bytes.bytes.items ≡ size_of segments = ap length c.in_ok-bytes.ensures ∙ bytes_length segments c.requires in
    omega arith

pub invariant_of-result : goal.invariant_of-result
invariant_of-result c =
    let segments = c.args.segments.now in
    let number : length c.in_ok-bytes.bytes.items ≡ size_of segments = ap length c.in_ok-bytes.ensures ∙ bytes_length segments c.requires in
    record {
      sound = rw c.in_ok-rows.ensures (rows_are_sound segments (length c.in_ok-bytes.bytes.items) c.requires number);
      code_begins = begins_nothing _ _ _;
      loads_begin = all_begin_nothing c.in_ok-rows.rows.items (length c.in_ok-bytes.bytes.items) readable;
      stores_begin = all_begin_nothing c.in_ok-rows.rows.items (length c.in_ok-bytes.bytes.items) writable;
    }

pub returns-clause-segments : goal.returns-clause-segments
returns-clause-segments c = ap segments_of c.in_ok-rows.ensures ∙ segments_are 0 c.args.segments.now

pub returns-clause-content : goal.returns-clause-content
returns-clause-content c = rw (c.in_ok-rows.ensures, c.in_ok-bytes.ensures) (content_is c.args.segments.now c.requires)
