-- Loads and stores, calls and traps, with the results that the RISC-V unprivileged specification gives.
use Rattle.std.proofs.Common.{refl}
use Rattle.std.specs.Prelude.{◌≡◌, ℕ, List, [], ◌∷◌, map, replicate, ◌++◌, Option, Some, None, pos, negsuc}
use Rattle.lay_base.specs.declared.faults.TrapKind.{TrapKind}
use Rattle.lay_base.specs.declared.faults.TrapKind.TheVariants.{Unmapped, Illegal, Jump, Misaligned, Call}
use Rattle.rv_isa.specs.declared.image.Image.{Image}
use Rattle.rv_isa.specs.declared.image.Segment.{Segment}
use Rattle.rv_isa.specs.declared.instruction.Inst.{Inst}
use Rattle.rv_isa.specs.declared.instruction.Inst.TheVariants.{Lui, Jal, Jalr, Beq, Lb, Lh, Lw, Lbu, Lhu, Sb, Sh, Sw, Addi, Mul, Fence, Ecall, Ebreak}
use Rattle.rv_isa.specs.Memory.{are_mapped, word_at, bytes_at}
use Rattle.rv_isa.specs.Decoding.{decoded}
use Rattle.rv_isa.specs.Step.{State, Stepped, Exits, Trap, Break, Goes, Ends, register, executed, step}
use Rattle.rv_isa.specs.Run.{start, run, machine_run}

-- ---- the machine of the examples

-- code that may be read: addi x10,x0,42; addi x17,x0,93; ecall
abbrev code : Segment
code = record {
  at = 0x10000;
  size = 12;
  flags = 5;
  bytes = 0x13 ∷ 0x05 ∷ 0xA0 ∷ 0x02 ∷ 0x93 ∷ 0x08 ∷ 0xD0 ∷ 0x05 ∷ 0x73 ∷ 0 ∷ 0 ∷ 0 ∷ [];
}

-- six bytes of data that may be read and written
abbrev data_bytes : List ℕ
data_bytes = 0x00 ∷ 0x80 ∷ 0x7F ∷ 0x01 ∷ 0xFE ∷ 0xCA ∷ []

abbrev data_segment : Segment
data_segment = record { at = 0x20000; size = 6; flags = 6; bytes = data_bytes }

-- code of zeros only, which may be executed and nothing else
abbrev zeros : Segment
zeros = record { at = 0x30000; size = 4; flags = 1; bytes = [] }

-- zeros that may be written and nothing else
abbrev written_only : Segment
written_only = record { at = 0x40000; size = 4; flags = 2; bytes = [] }

abbrev segments : List Segment
segments = code ∷ data_segment ∷ zeros ∷ written_only ∷ []

abbrev image : Image
image = record { entry = 0x10000; segments = segments }

abbrev at_start : State
at_start = start image []

-- x1 and x2 have values
abbrev with_values : (x1 x2 : ℕ) → State
with_values x1 x2 = record at_start { registers = 0 ∷ x1 ∷ x2 ∷ replicate 29 0 }

-- and x3 has one, at a place
abbrev with_results : (x1 x2 x3 pc : ℕ) → State
with_results x1 x2 x3 pc = record at_start { registers = 0 ∷ x1 ∷ x2 ∷ x3 ∷ replicate 28 0; pc = pc }

-- ---- loads and stores

-- an instruction, x1, and the x3 that it gives
abbrev loads : List (Inst × ℕ × ℕ)
loads =
    (Lb 3 1 (pos 1), 0x20000, 0xFFFFFF80) ∷
    (Lbu 3 1 (pos 1), 0x20000, 0x80) ∷
    (Lb 3 1 (negsuc 0), 0x20003, 0x7F) ∷
    (Lh 3 1 (pos 0), 0x20000, 0xFFFF8000) ∷
    (Lhu 3 1 (pos 0), 0x20000, 0x8000) ∷
    (Lh 3 1 (pos 2), 0x20000, 0x017F) ∷
    (Lw 3 1 (pos 0), 0x20000, 0x017F8000) ∷
    -- what may be read need not be writable
    (Lb 3 1 (pos 0), 0x10000, 0x13) ∷
    (Lbu 3 1 (pos 2), 0x10000, 0xA0) ∷
    (Lh 3 1 (pos 0), 0x10000, 0x0513) ∷
    (Lhu 3 1 (pos 2), 0x10000, 0x02A0) ∷
    (Lw 3 1 (pos 8), 0xFFFC, 0x05D00893) ∷
    []

load_steps : map (λ row. executed segments (with_values row.1 0) row.0) loads ≡ map (λ row. Goes (with_results row.1 0 row.2 0x10004)) loads
unfolding are_mapped
load_steps = refl

-- the registers, the place and the data after a step
abbrev after : Stepped → Option (List ℕ × ℕ × List ℕ)
after (Goes t) = Some (t.registers, t.pc, bytes_at t.memory 0x20000 6)
after (Ends standing) = None

-- an instruction that stores from an x2 of 0x12345678, x1, and the data that it leaves
abbrev stores : List (Inst × ℕ × List ℕ)
stores =
    (Sb 1 2 (pos 2), 0x20000, 0x00 ∷ 0x80 ∷ 0x78 ∷ 0x01 ∷ 0xFE ∷ 0xCA ∷ []) ∷
    (Sh 1 2 (pos 2), 0x20000, 0x00 ∷ 0x80 ∷ 0x78 ∷ 0x56 ∷ 0xFE ∷ 0xCA ∷ []) ∷
    (Sw 1 2 (negsuc 3), 0x20004, 0x78 ∷ 0x56 ∷ 0x34 ∷ 0x12 ∷ 0xFE ∷ 0xCA ∷ []) ∷
    []

store_steps : map (λ row. after (executed segments (with_values row.1 0x12345678) row.0)) stores
    ≡ map (λ row. Some ((with_values row.1 0x12345678).registers, 0x10004, row.2)) stores
unfolding are_mapped bytes_at
store_steps = refl

-- what may be written need not be readable: an instruction that stores there from an x2 of 0x12345678, and the word that stands there then
abbrev blind_stores : List (Inst × ℕ)
blind_stores = (Sb 1 2 (pos 1), 0x00007800) ∷ (Sh 1 2 (pos 2), 0x56780000) ∷ (Sw 1 2 (pos 0), 0x12345678) ∷ []

abbrev word_after : Stepped → Option ℕ
word_after (Goes t) = Some (word_at t.memory 0x40000)
word_after (Ends standing) = None

blind_store_steps : map (λ row. word_after (executed segments (with_values 0x40000 0x12345678) row.0)) blind_stores ≡ map (λ row. Some row.1) blind_stores
unfolding are_mapped
blind_store_steps = refl

-- ---- x0, FENCE and EBREAK

-- instructions that write x0 change no register
abbrev to_x0 : List Inst
to_x0 = Addi 0 0 (pos 5) ∷ Lui 0 1 ∷ Mul 0 1 1 ∷ Lw 0 1 (pos 0) ∷ Fence 0 0 (pos 255) ∷ []

x0_stays_0 : map (executed segments (with_values 0x10000 0)) to_x0 ≡ replicate 5 (Goes (with_results 0x10000 0 0 0x10004))
unfolding are_mapped
x0_stays_0 = refl

-- FENCE changes no register, whatever its fields are
fence_does_nothing : executed segments (with_results 5 6 7 0x10000) (Fence 3 1 (pos 255)) ≡ Goes (with_results 5 6 7 0x10004)
fence_does_nothing = refl

ebreak_ends : executed segments at_start Ebreak ≡ Ends (Break 0x10000)
ebreak_ends = refl

-- ---- calls

-- the state before an ECALL with a number in a7, three arguments and an input
abbrev before_call : (a7 a0 a1 a2 : ℕ) (input : List ℕ) → State
before_call a7 a0 a1 a2 input = record at_start {
  registers = replicate 10 0 ++ (a0 ∷ a1 ∷ a2 ∷ 0 ∷ 0 ∷ 0 ∷ 0 ∷ a7 ∷ replicate 14 0);
  input = input;
  output = 0x2A ∷ [];
}

-- the status is the low byte
exit_has_a_byte : executed segments (before_call 93 0x12B 0 0 []) Ecall ≡ Ends (Exits 0x2B)
exit_has_a_byte = refl

-- a0, the data, the output and the input left after a step
abbrev served : Stepped → Option (ℕ × List ℕ × List ℕ × List ℕ)
served (Goes t) = Some (register t 10, bytes_at t.memory 0x20000 6, t.output, t.input)
served (Ends standing) = None

-- three bytes from 0x20001 on
write_appends : served (executed segments (before_call 64 1 0x20001 3 (7 ∷ [])) Ecall) ≡ Some (3, data_bytes, 0x2A ∷ 0x80 ∷ 0x7F ∷ 0x01 ∷ [], 7 ∷ [])
unfolding are_mapped bytes_at
write_appends = refl

-- three bytes that may not be written
write_of_code : served (executed segments (before_call 64 1 0x10000 3 []) Ecall) ≡ Some (3, data_bytes, 0x2A ∷ 0x13 ∷ 0x05 ∷ 0xA0 ∷ [], [])
unfolding are_mapped bytes_at
write_of_code = refl

-- no byte, from an address that is not mapped
write_of_nothing : served (executed segments (before_call 64 1 0x50000 0 []) Ecall) ≡ Some (0, data_bytes, 0x2A ∷ [], [])
unfolding are_mapped bytes_at
write_of_nothing = refl

-- at most two bytes of three
read_leaves_the_rest : served (executed segments (before_call 63 0 0x20002 2 (0x11 ∷ 0x22 ∷ 0x33 ∷ [])) Ecall)
    ≡ Some (2, 0x00 ∷ 0x80 ∷ 0x11 ∷ 0x22 ∷ 0xFE ∷ 0xCA ∷ [], 0x2A ∷ [], 0x33 ∷ [])
unfolding are_mapped bytes_at
read_leaves_the_rest = refl

-- at most four bytes, of which two are left
read_takes_what_is_left : served (executed segments (before_call 63 0 0x20002 4 (0x11 ∷ 0x22 ∷ [])) Ecall)
    ≡ Some (2, 0x00 ∷ 0x80 ∷ 0x11 ∷ 0x22 ∷ 0xFE ∷ 0xCA ∷ [], 0x2A ∷ [], [])
unfolding are_mapped bytes_at
read_takes_what_is_left = refl

-- to where nothing may be read
read_into_what_is_not_readable : word_after (executed segments (before_call 63 0 0x40001 1 (0x11 ∷ [])) Ecall) ≡ Some 0x1100
unfolding are_mapped
read_into_what_is_not_readable = refl

-- ---- traps, in their order

-- an instruction, x1, x2, and the kind
abbrev trapping : List (Inst × ℕ × ℕ × TrapKind)
trapping =
    -- a target that is no multiple of 4
    (Jal 0 (pos 2), 0, 0, Jump) ∷
    (Jalr 3 1 (pos 3), 0x20000, 0, Jump) ∷
    (Beq 1 2 (pos 2), 5, 5, Jump) ∷
    -- an address that is no multiple of the width, mapped or not
    (Lh 3 1 (pos 1), 0x20000, 0, Misaligned) ∷
    (Lhu 3 1 (pos 1), 0x20000, 0, Misaligned) ∷
    (Lw 3 1 (pos 2), 0x20000, 0, Misaligned) ∷
    (Sh 1 2 (pos 1), 0x50000, 0, Misaligned) ∷
    (Sw 1 2 (pos 1), 0x50000, 0, Misaligned) ∷
    -- no segment, two bytes of four after a segment, no flag to read, no flag to write
    (Lb 3 1 (pos 0), 0xFFFFFFFF, 0, Unmapped) ∷
    (Lw 3 1 (pos 4), 0x20000, 0, Unmapped) ∷
    (Lw 3 1 (pos 0), 0x30000, 0, Unmapped) ∷
    (Lb 3 1 (pos 0), 0x40000, 0, Unmapped) ∷
    (Sw 1 2 (pos 0), 0x10000, 0, Unmapped) ∷
    (Sb 1 2 (pos 0), 0x10000, 0, Unmapped) ∷
    []

trap_steps : map (λ row. executed segments (with_values row.1 row.2) row.0) trapping ≡ map (λ row. Ends (Trap row.3 0x10000)) trapping
unfolding are_mapped
trap_steps = refl

-- a7, a0, a1 and a2 of an ECALL with an input of one byte, and the kind
abbrev trapping_calls : List (ℕ × ℕ × ℕ × ℕ × TrapKind)
trapping_calls =
    -- another number or descriptor
    (1, 1, 0x20000, 1, Call) ∷
    (64, 2, 0x20000, 1, Call) ∷
    (63, 1, 0x20000, 1, Call) ∷
    -- a byte that is not mapped, also where fewer are left to read; no flag to read, no flag to write
    (64, 1, 0x20004, 3, Unmapped) ∷
    (63, 0, 0x20004, 3, Unmapped) ∷
    (64, 1, 0x30000, 1, Unmapped) ∷
    (63, 0, 0x10000, 1, Unmapped) ∷
    []

call_traps : map (λ row. executed segments (before_call row.0 row.1 row.2 row.3 (7 ∷ [])) Ecall) trapping_calls
    ≡ map (λ row. Ends (Trap row.4 0x10000)) trapping_calls
unfolding are_mapped
call_traps = refl

-- ---- fetching

-- two of the four bytes lie after the code
fetch_past_the_end_is_unmapped : step segments (record at_start { pc = 0x1000A }) ≡ Ends (Trap Unmapped 0x1000A)
unfolding step are_mapped
fetch_past_the_end_is_unmapped = refl

-- data is not executed
fetch_of_data_is_unmapped : step segments (record at_start { pc = 0x20000 }) ≡ Ends (Trap Unmapped 0x20000)
unfolding step are_mapped
fetch_of_data_is_unmapped = refl

word_of_none_is_illegal : step segments (record at_start { pc = 0x30000 }) ≡ Ends (Trap Illegal 0x30000)
unfolding step are_mapped decoded
word_of_none_is_illegal = refl

-- ---- a run

exits_with_42 : machine_run image [] 3 ≡ record { standing = Exits 42; output = []; rest = [] }
unfolding run step are_mapped decoded
exits_with_42 = refl
