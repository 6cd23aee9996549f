-- What a weight counts, and the numbers by kind.
use Rattle.std.specs.Prelude.{ℕ}

pub data Kind : Type 0 where
  -- a path: where it begins, the way through a pointer, to a field, and to an element
  begins : Kind
  through : Kind
  to_field : Kind
  to_element : Kind
  -- a constant, a null pointer or the name of a function
  constant : Kind
  -- the value of an object, or the address of an array's first element
  load : Kind
  conversion : Kind
  pointer_sum : Kind
  -- any other operator, with `&`
  operator : Kind
  -- an assignment, `++`, `--` or a copy of a record
  assignment : Kind
  -- a call, also of the library, or an allocation
  call : Kind
  -- an argument of a call, or the number of records of an allocation
  argument : Kind
  -- a part of an initializer
  part : Kind
  statement : Kind
  -- the statements of a switch between labels, and a `case` label
  arm : Kind
  label : Kind
  -- a function that is defined
  definition : Kind
  parameter : Kind
  -- a local that is kept by name, and one that has a block of memory
  named_local : Kind
  block_local : Kind
  -- a record that is complete, and a field of it
  structure : Kind
  field : Kind

-- bytes of code
abbrev pub code : Kind → ℕ
code begins = 192
code through = 96
code to_field = 96
code to_element = 192
code constant = 96
code load = 96
code conversion = 96
code pointer_sum = 96
code operator = 288
code assignment = 288
code call = 288
code argument = 128
code part = 512
code statement = 192
code arm = 128
code label = 512
code definition = 832
code parameter = 512
code named_local = 320
code block_local = 320
code structure = 512
code field = 512

-- bytes of the frame, without the blocks of locals; what is defined once has no part in a frame
abbrev pub frame : Kind → ℕ
frame begins = 24
frame through = 12
frame to_field = 12
frame to_element = 24
frame constant = 12
frame load = 12
frame conversion = 12
frame pointer_sum = 12
frame operator = 36
frame assignment = 36
frame call = 36
frame argument = 16
frame part = 64
frame statement = 24
frame arm = 16
frame label = 64
frame definition = 104
frame parameter = 64
frame named_local = 40
frame block_local = 0
frame structure = 0
frame field = 0
