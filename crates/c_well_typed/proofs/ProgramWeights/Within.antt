-- Numbers that so much for each node of the syntax tree pays for: of what one node brings at most.
use Rattle.std.proofs.Common.{ℕ, ◌+◌, ◌≤◌, arith}
use Rattle.c_well_typed.specs.ProgramWeights.Counted.{Kind, begins, through, to_field, to_element, constant, load, conversion, pointer_sum, operator}
use Rattle.c_well_typed.specs.ProgramWeights.Counted.{assignment, call}
use Rattle.c_well_typed.specs.ProgramWeights.Counted.{argument, part, statement, arm, label, definition, parameter, named_local, block_local, structure, field}
use Rattle.c_well_typed.specs.ProgramWeights.Counted.{code, frame}

pub record AreWithin (n : Kind → ℕ) (most : ℕ) : Type 0 where
  -- a null pointer weighs no more than the conversion that it stands for
  pub null_pointer : n constant ≤ n conversion
  -- a name, and what is only measured
  pub name : n conversion + n argument + (n load + n begins) ≤ most
  pub unmade : n conversion + n argument + (n load + (n through + n constant)) ≤ most
  -- subscripts, fields and operators
  pub subscript : n conversion + n argument + (n load + n to_element) ≤ most
  pub sum_subscript : n conversion + n argument + (n load + (n through + n pointer_sum)) ≤ most
  pub arrow : n conversion + n argument + (n load + (n to_field + n through)) ≤ most
  pub operator_node : n conversion + n argument + n operator ≤ most
  pub assignment_node : n conversion + n argument + n assignment ≤ most
  pub call_node : n conversion + n argument + n call ≤ most
  pub cast_node : n conversion + n argument + n conversion ≤ most
  -- an item of an initializer
  pub part_node : n part ≤ most
  -- a `for` with the expression before its test, and a `switch` with the statements before its first label, each in an arm
  pub for_node : n statement + n statement + n arm ≤ most
  pub switch_node : n statement + n arm + n arm ≤ most
  pub case_label : n label ≤ most
  -- a declarator of a local, and one of a parameter
  pub named : n statement + n named_local ≤ most
  pub block : n block_local ≤ n named_local
  pub parameter_name : n parameter ≤ most
  -- an item and its body
  pub item : n definition + n statement ≤ most + most
  -- the definition of a structure
  pub structure_node : n structure ≤ most
  pub field_name : n field ≤ most

pub code_within : AreWithin code 512
code_within = record {
  null_pointer = omega arith;
  name = omega arith;
  unmade = omega arith;
  subscript = omega arith;
  sum_subscript = omega arith;
  arrow = omega arith;
  operator_node = omega arith;
  assignment_node = omega arith;
  call_node = omega arith;
  cast_node = omega arith;
  part_node = omega arith;
  for_node = omega arith;
  switch_node = omega arith;
  case_label = omega arith;
  named = omega arith;
  block = omega arith;
  parameter_name = omega arith;
  item = omega arith;
  structure_node = omega arith;
  field_name = omega arith;
}

pub frame_within : AreWithin frame 64
frame_within = record {
  null_pointer = omega arith;
  name = omega arith;
  unmade = omega arith;
  subscript = omega arith;
  sum_subscript = omega arith;
  arrow = omega arith;
  operator_node = omega arith;
  assignment_node = omega arith;
  call_node = omega arith;
  cast_node = omega arith;
  part_node = omega arith;
  for_node = omega arith;
  switch_node = omega arith;
  case_label = omega arith;
  named = omega arith;
  block = omega arith;
  parameter_name = omega arith;
  item = omega arith;
  structure_node = omega arith;
  field_name = omega arith;
}
