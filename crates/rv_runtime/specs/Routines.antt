-- The routines of the runtime, as instructions at fixed addresses. Each has 512 bytes, takes its arguments in a0 to a2 and answers in a0.
use Rattle.std.specs.Prelude.{ℕ, zero, suc, ◌+◌, nat_lt, if◌then◌else◌, List, [], ◌∷◌, ◌++◌, pos, negsuc}
use Rattle.rv_isa.specs.declared.instruction.Inst.{Inst}
use Rattle.rv_isa.specs.declared.instruction.Inst.TheVariants.{Lui, Jal, Jalr, Beq, Bne, Bltu, Bgeu, Lw, Lbu, Sw, Sb, Addi, Add, Sub, Sltu, Mul, Mulhu, Ecall, Ebreak}

-- ---- where they begin, and the last word of each, by which alone it returns. Those of malloc, calloc and free stand in rv_isa's Events

-- where the machine starts
abbrev pub start_entry : ℕ
start_entry = 0x00010000

abbrev pub exit_entry : ℕ
exit_entry = 0x00010200

abbrev pub free_return : ℕ
free_return = 0x000109FC

abbrev pub copy_entry : ℕ
copy_entry = 0x00010A00

abbrev pub copy_return : ℕ
copy_return = 0x00010BFC

abbrev pub fill_entry : ℕ
fill_entry = 0x00010C00

abbrev pub fill_return : ℕ
fill_return = 0x00010DFC

abbrev pub compare_entry : ℕ
compare_entry = 0x00010E00

abbrev pub compare_return : ℕ
compare_return = 0x00010FFC

-- the runtime's own data. Its first word is where the unused heap begins, the second where the heap ends
abbrev pub data_place : ℕ
data_place = 0x08000000

-- back to x1
abbrev pub return_code : Inst
return_code = Jalr 0 1 (pos 0)

-- ---- start and exit

-- to compiled code
abbrev pub start_code : List Inst
start_code = Jal 0 (pos 4096) ∷ []

-- with the status in a0
abbrev pub exit_code : List Inst
exit_code = Addi 17 0 (pos 93) ∷ Ecall ∷ []

-- ---- the heap

-- doubled, at most k times, until it is no less than n
unfoldable pub rounded : (k q n : ℕ) → ℕ
rounded zero q n = q
rounded (suc k) q n = if nat_lt q n then rounded k (q + q) n else q

-- what a request for n bytes takes, without its head: the least power of two from 16 on that is no less
unfoldable pub taken : ℕ → ℕ
taken n = rounded 28 16 n

-- the bytes of a head
abbrev pub head : ℕ
head = 16

-- a call of allocate, and back
abbrev pub malloc_head : List Inst
malloc_head = Jal 16 (pos 8) ∷ Jal 0 (pos 504) ∷ []

abbrev pub allocate_entry : ℕ
allocate_entry = 0x00010408

-- allocate: a head and the rounded number of bytes in x10 are taken from where the unused heap begins, or EBREAK where they are more than are left. It
-- answers the place behind the head in x10, and returns to x16
abbrev pub allocate_code : List Inst
allocate_code =
    Lui 11 0x08000
    ∷ Lw 12 11 (pos 4)
    ∷ Bltu 12 10 (pos 52)
    -- x13 is the rounded number
    ∷ Addi 13 0 (pos 16)
    ∷ Bgeu 13 10 (pos 12)
    ∷ Add 13 13 13
    ∷ Jal 0 (negsuc 7)
    -- x14 is where the unused heap begins, x15 what is left
    ∷ Lw 14 11 (pos 0)
    ∷ Sub 15 12 14
    ∷ Addi 13 13 (pos 16)
    ∷ Bltu 15 13 (pos 20)
    ∷ Add 15 14 13
    ∷ Sw 11 15 (pos 0)
    ∷ Addi 10 14 (pos 16)
    ∷ Jalr 0 16 (pos 0)
    ∷ Ebreak
    ∷ []

abbrev pub malloc_code : List Inst
malloc_code = malloc_head ++ allocate_code

-- count and size: EBREAK where their product is no word, else as malloc. Unused heap is zero, so nothing is cleared
abbrev pub calloc_code : List Inst
calloc_code = Mulhu 12 10 11 ∷ Bne 12 0 (pos 16) ∷ Mul 10 10 11 ∷ Jal 16 (negsuc 515) ∷ Jal 0 (pos 492) ∷ Ebreak ∷ []

-- nothing is used again
abbrev pub free_code : List Inst
free_code = Jal 0 (pos 508) ∷ []

-- ---- ranges of bytes

-- to, from and the number of bytes. From the first byte on where the destination is not above the source, else from the last one on
abbrev pub copy_code : List Inst
copy_code =
    Bltu 11 10 (pos 36)
    ∷ Addi 13 10 (pos 0)
    -- x11 and x13 go up, and x12 bytes are left
    ∷ Beq 12 0 (pos 500)
    ∷ Lbu 14 11 (pos 0)
    ∷ Sb 13 14 (pos 0)
    ∷ Addi 11 11 (pos 1)
    ∷ Addi 13 13 (pos 1)
    ∷ Addi 12 12 (negsuc 0)
    ∷ Jal 0 (negsuc 23)
    -- x12 bytes are left, of which the last is next
    ∷ Beq 12 0 (pos 472)
    ∷ Addi 12 12 (negsuc 0)
    ∷ Add 13 11 12
    ∷ Lbu 14 13 (pos 0)
    ∷ Add 13 10 12
    ∷ Sb 13 14 (pos 0)
    ∷ Jal 0 (negsuc 23)
    ∷ []

-- to, the byte and the number of bytes
abbrev pub fill_code : List Inst
fill_code =
    Addi 13 10 (pos 0)
    ∷ Beq 12 0 (pos 504)
    ∷ Sb 13 11 (pos 0)
    ∷ Addi 13 13 (pos 1)
    ∷ Addi 12 12 (negsuc 0)
    ∷ Jal 0 (negsuc 15)
    ∷ []

-- both places and the number of bytes; the answer is minus one, 0 or 1
abbrev pub compare_code : List Inst
compare_code =
    Beq 12 0 (pos 44)
    ∷ Lbu 13 10 (pos 0)
    ∷ Lbu 14 11 (pos 0)
    ∷ Bne 13 14 (pos 20)
    ∷ Addi 10 10 (pos 1)
    ∷ Addi 11 11 (pos 1)
    ∷ Addi 12 12 (negsuc 0)
    ∷ Jal 0 (negsuc 27)
    -- two bytes that differ
    ∷ Sltu 10 14 13
    ∷ Sltu 12 13 14
    ∷ Sub 12 10 12
    -- the answer is x12
    ∷ Addi 10 12 (pos 0)
    ∷ Jal 0 (pos 460)
    ∷ []
