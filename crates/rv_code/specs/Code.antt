-- The instructions of each step, and of a function. What a step gives comes by way of x5 and x6, and from a call in x10.
use Rattle.std.specs.Prelude.{ℕ, ◌+◌, ◌*◌, ◌-◌, ◌/◌, ◌^◌, Bool, true, false, if◌then◌else◌, List, [], ◌∷◌, ◌++◌, slice_get, slice_index, unwrap_or, length, get_or}
use Rattle.std.specs.Prelude.{Option, Some, None, pos, negsuc}
use Rattle.block_memory.specs.RunWorlds.Operators.{common_kind, pointer_op}
use Rattle.block_memory.specs.declared.kinds.Access.{Access}
use Rattle.block_memory.specs.declared.kinds.Access.TheVariants.{Number}
use Rattle.c_types.specs.declared.ty.IntKind.{IntKind}
use Rattle.c_types.specs.declared.ty.IntKind.TheVariants.{Int}
use Rattle.c_typed.specs.declared.operators.BinaryOp.{BinaryOp}
use Rattle.c_typed.specs.declared.operators.LibraryFunction.{LibraryFunction}
use Rattle.c_typed.specs.declared.operators.LibraryFunction.TheVariants as L
use Rattle.rv_isa.specs.declared.instruction.Inst.{Inst}
use Rattle.rv_isa.specs.declared.instruction.Inst.TheVariants.{Lui, Jal, Jalr, Beq, Bne, Bgeu, Lbu, Sb, Addi, Add, Sub, Mul, Ecall, Ebreak}
use Rattle.tac_ir.specs.Code.{RoutineData}
use Rattle.tac_ir.specs.declared.step.Operand.{Operand}
use Rattle.tac_ir.specs.declared.step.Operand.TheVariants as O
use Rattle.tac_ir.specs.declared.step.Parameter.{Parameter}
use Rattle.tac_ir.specs.declared.step.Row.{Row}
use Rattle.tac_ir.specs.declared.step.Sort.{Sort}
use Rattle.tac_ir.specs.declared.step.Sort.TheVariants as Sorts
use Rattle.tac_ir.specs.declared.step.Step.{Step}
use Rattle.tac_ir.specs.declared.step.Step.TheVariants as S
use Rattle.tac_ir.specs.declared.step.Target.{Target}
use Rattle.tac_ir.specs.declared.step.Target.TheVariants as To
use Rattle.rv_isa.specs.Events.{malloc_entry, calloc_entry, free_entry}
use Rattle.rv_runtime.specs.Routines.{exit_entry, copy_entry, fill_entry, compare_entry, data_place}
use Rattle.rv_code.specs.Frames.{slot_at}
use Rattle.rv_code.specs.Operators.{unary_code, not_code, convert_code, binary_code, compare_code, skip_unless, skip_unless_true, scale_code, move_code, offset_code, distance_code}
use Rattle.rv_code.specs.Words.{number_code, place_code, load_by, store_by, fetch_code, keep_code, address_code, jump_code, call_code}
use Rattle.rv_code.specs.declared.layout.Layout.{Layout}
use Rattle.rv_code.specs.declared.layout.Places.{Places}

-- ---- the memory map, beside the routines of the runtime

-- the byte that is written or read, among the data of the runtime
abbrev pub byte_at : ℕ
byte_at = 64

abbrev pub stack_place : ℕ
stack_place = 0x10000000

-- ---- calls of the environment

-- the low byte of x10 is written, and comes into x5
abbrev pub write_code : List Inst
write_code =
    Lui 11 (data_place / 2 ^ 12) ∷ Sb 11 10 (pos byte_at) ∷ Addi 11 11 (pos byte_at) ∷ Addi 10 0 (pos 1) ∷ Addi 12 0 (pos 1)
    ∷ Addi 17 0 (pos 64) ∷ Ecall ∷ Lbu 5 11 (pos 0) ∷ []

-- the next byte is read into x5, or -1 where there is none
abbrev pub read_code : List Inst
read_code =
    Addi 10 0 (pos 0) ∷ Lui 11 (data_place / 2 ^ 12) ∷ Addi 11 11 (pos byte_at) ∷ Addi 12 0 (pos 1) ∷ Addi 17 0 (pos 63) ∷ Ecall
    ∷ Beq 10 0 (pos 12) ∷ Lbu 5 11 (pos 0) ∷ Jal 0 (pos 8) ∷ Addi 5 0 (negsuc 0) ∷ []

-- where a turn begins, the machine takes a step too
abbrev pub turn_code : List Inst
turn_code = Addi 0 0 (pos 0) ∷ []

abbrev pub a_word : Access
a_word = Number Int

-- ---- temporaries

abbrev pub give_code : (t rs : ℕ) → List Inst
give_code t rs = keep_code a_word rs 2 (slot_at t)

-- the address of a row of temporaries, and the first one, two or three of them in registers from x10 on
abbrev pub row_code : Row → List Inst
row_code all = address_code 10 2 (slot_at all.first)

abbrev pub one_code : (first : ℕ) → List Inst
one_code first = fetch_code 10 2 (slot_at first)

abbrev pub two_code : (first : ℕ) → List Inst
two_code first = one_code first ++ fetch_code 11 2 (slot_at (first + 1))

abbrev pub three_code : (first : ℕ) → List Inst
three_code first = two_code first ++ fetch_code 12 2 (slot_at (first + 2))

-- ---- the library

-- a call of a routine, whose answer a temporary gets
abbrev pub answer_code : (place t : ℕ) → List Inst
answer_code place t = call_code place ++ give_code t 10

abbrev pub library_code : LibraryFunction → (first t : ℕ) → List Inst
library_code L.Malloc first t = one_code first ++ answer_code malloc_entry t
library_code L.Calloc first t = two_code first ++ answer_code calloc_entry t
library_code L.Free first t = one_code first ++ call_code free_entry
library_code L.Memcpy first t = three_code first ++ answer_code copy_entry t
library_code L.Memmove first t = three_code first ++ answer_code copy_entry t
library_code L.Memset first t = three_code first ++ answer_code fill_entry t
library_code L.Memcmp first t = three_code first ++ answer_code compare_entry t
library_code L.Putchar first t = one_code first ++ (write_code ++ give_code t 5)
library_code L.Getchar first t = read_code ++ give_code t 5
library_code L.Exit first t = one_code first ++ jump_code exit_entry

-- so many records in x10, which are zero or need not be
abbrev pub allocate_code : (size : ℕ) → (zeroed : Bool) → List Inst
allocate_code size true = number_code 11 size ++ call_code calloc_entry
allocate_code size false = number_code 11 size ++ (Mul 10 10 11 ∷ call_code malloc_entry)

-- ---- updates

abbrev pub update_code : BinaryOp → (size : ℕ) → Sort → IntKind → List Inst
update_code op size (Sorts.Number kind) right =
    convert_code (common_kind op kind right) ++ (binary_code op (common_kind op kind right) ∷ convert_code kind)
update_code op size Sorts.Pointer right = move_code (pointer_op op) size

-- ---- in a function whose things lie so

module _ (l : Layout) where
  -- the address of a byte of a local's block
  abbrev pub block_code : (rd x by : ℕ) → List Inst
  block_code rd x by = address_code rd 2 (slice_index l.blocks x + by)

  -- in front of the code of which so many steps are left
  abbrev pub place_left : (steps : ℕ) → ℕ
  place_left n = l.end - 4 * slice_index l.behind n

  -- the end of the function, with its value in x10
  abbrev pub return_code : List Inst
  return_code = fetch_code 1 2 0 ++ (number_code 5 l.size ++ (Add 2 2 5 ∷ Jalr 0 1 (pos 0) ∷ []))

  -- ---- the beginning: it makes its frame, where there is room, and takes the arguments from the row of words at x10

  abbrev pub parameter_code : (x : ℕ) → Parameter → List Inst
  parameter_code x r = if r.block then keep_code r.access 5 2 (slice_index l.blocks x) else give_code x 5

  abbrev pub parameters_code : (x : ℕ) → List Parameter → List Inst
  parameters_code x [] = []
  parameters_code x (r ∷ more) = fetch_code 5 10 (4 * x) ++ (parameter_code x r ++ parameters_code (x + 1) more)

  abbrev pub entry_code : List Parameter → List Inst
  entry_code parameters =
      number_code 5 (stack_place + l.size)
      ++ (Bgeu 2 5 (pos 8) ∷ Ebreak ∷ (number_code 5 l.size ++ (Sub 2 2 5 ∷ (keep_code a_word 1 2 0 ++ parameters_code 0 parameters))))

abbrev pub is_block : RoutineData → (t : ℕ) → Bool
is_block g t = unwrap_or (slice_get g.locals t) false

module _ (g : RoutineData) (l : Layout) where
  -- a local that lies in a block is read as the block's address
  abbrev pub temporary_code : (rd t : ℕ) → List Inst
  temporary_code rd t = if is_block g t then address_code rd 2 (slice_index l.blocks t) else fetch_code rd 2 (slot_at t)

  -- where a jump leads
  abbrev pub place_led : Target → ℕ
  place_led (To.Left n) = place_left l n
  place_led (To.Label k) = place_left l (get_or g.labels k 0)

  -- bytes of a text come to a local's block
  abbrev pub text_code : (x by text : ℕ) → List Inst
  text_code x by n = block_code l 10 x by
      ++ (place_code 11 (slice_index l.texts n) ++ (number_code 12 (length (get_or g.texts n [])) ++ call_code copy_entry))

module _ (p : Places) (g : RoutineData) (l : Layout) where
  abbrev pub get_code : (rd : ℕ) → Operand → List Inst
  get_code rd (O.Word n) = number_code rd n
  get_code rd O.Null = number_code rd 0
  get_code rd (O.Function f) = place_code rd (slice_index p.entries f)
  get_code rd (O.Object n) = place_code rd (slice_index p.objects n)
  get_code rd (O.Temp kind t at) = temporary_code g l rd t

  abbrev pub get_if_any : Option Operand → List Inst
  get_if_any None = []
  get_if_any (Some a) = get_code 10 a

  abbrev pub both_code : Operand → Operand → List Inst
  both_code a b = get_code 5 a ++ get_code 6 b

  -- ---- each step

  abbrev pub step_code : Step → List Inst
  step_code (S.Set t a) = get_code 5 a ++ give_code t 5
  step_code (S.Clear t) = []
  step_code (S.Unary t at op a) = get_code 5 a ++ (unary_code op ++ give_code t 5)
  step_code (S.Not t a) = get_code 5 a ++ (not_code ++ give_code t 5)
  step_code (S.Convert t at kind a) = get_code 5 a ++ (convert_code kind ++ give_code t 5)
  step_code (S.AsPointer t at a) = get_code 5 a ++ give_code t 5
  step_code (S.Number t at a) = get_code 5 a ++ give_code t 5
  step_code (S.Binary t at op kind right a b) = both_code a b ++ (binary_code op kind ∷ give_code t 5)
  step_code (S.Compare t at op kind a b) = both_code a b ++ (compare_code op kind ++ give_code t 5)
  step_code (S.Move t at op size left kind a b) = (if left then both_code a b else both_code b a) ++ (move_code op size ++ give_code t 5)
  step_code (S.Distance t at size a b) = both_code a b ++ (distance_code size ++ give_code t 5)
  step_code (S.Update t at op size sort right a b) = both_code a b ++ (update_code op size sort right ++ give_code t 5)
  step_code (S.Field t at by a) = get_code 5 a ++ (offset_code by ++ give_code t 5)
  step_code (S.ElementField t at size kind by a b) = both_code a b ++ (scale_code size ++ (Add 5 5 6 ∷ (offset_code by ++ give_code t 5)))
  step_code (S.Element t at n size addressed kind a b) = both_code a b ++ (scale_code size ++ (Add 5 5 6 ∷ give_code t 5))
  step_code (S.Part t at by a) = get_code 5 a ++ (offset_code by ++ give_code t 5)
  step_code (S.Inside t at x by) = block_code l 5 x by ++ give_code t 5
  step_code (S.Load t at access a) = get_code 5 a ++ (load_by access 5 5 (pos 0) ∷ give_code t 5)
  step_code (S.Store at access a b) = both_code a b ++ (store_by access 5 6 (pos 0) ∷ [])
  step_code (S.CopyRecord at size a b) = get_code 10 a ++ (get_code 11 b ++ (number_code 12 size ++ call_code copy_entry))
  step_code (S.Jump to) = jump_code (place_led g l to)
  step_code (S.Branch when a to) = get_code 5 a ++ (skip_unless_true when ∷ jump_code (place_led g l to))
  step_code (S.Test at op kind when a b to) = both_code a b ++ (skip_unless when op kind ∷ jump_code (place_led g l to))
  step_code (S.Case n a to) = get_code 5 a ++ (number_code 6 n ++ (Bne 5 6 (pos 12) ∷ jump_code (place_led g l to)))
  step_code (S.Call t at f all) = row_code all ++ (call_code (slice_index p.entries f) ++ give_code t 10)
  step_code (S.CallThrough t at ty a all) = get_code 5 a ++ (row_code all ++ (Jalr 1 5 (pos 0) ∷ give_code t 10))
  step_code (S.Library t at which all) = library_code which all.first t
  step_code (S.Allocate t at r size zeroed a) = get_code 10 a ++ (allocate_code size zeroed ++ give_code t 10)
  step_code (S.Begin x size) = []
  step_code (S.End x) = []
  step_code (S.Forget x size) = []
  step_code (S.Zeros x size) = block_code l 10 x 0 ++ (Addi 11 0 (pos 0) ∷ (number_code 12 size ++ call_code fill_entry))
  step_code (S.Text x by n) = text_code g l x by n
  step_code (S.Began f n) = turn_code
  step_code (S.Return a) = get_if_any a ++ return_code l
  step_code (S.ReturnHeld t) = temporary_code g l 10 t ++ return_code l
  step_code (S.Fail kind at) = Ebreak ∷ []

  abbrev pub steps_code : List Step → List Inst
  steps_code [] = []
  steps_code (s ∷ more) = step_code s ++ steps_code more

  -- what is only declared has no code
  abbrev pub code_if_any : List Step → List Inst
  code_if_any [] = []
  code_if_any (s ∷ more) = entry_code l g.parameters ++ steps_code (s ∷ more)

  abbrev pub function_code : List Inst
  function_code = code_if_any g.code
