use Rattle.std.proofs.Common.{◌≡◌, map, drop}
use Rattle.c_types.specs.Views.{field_of}
use Rattle.c_erasure.specs.Checking.Nodes.{field_from}
use Rattle.c_nodes.proofs.operator_nodes.members.field_named.Given as goal

abbrev pub invariant-loop-number : goal.invariant-loop-number
invariant-loop-number l = field_from 0 (map field_of l.fields) l.x ≡ field_from l.number (map field_of (drop l.number l.fields)) l.x
