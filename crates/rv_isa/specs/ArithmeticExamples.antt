-- Arithmetic, jumps and branches, with the results that the RISC-V unprivileged specification gives.
use Rattle.std.proofs.Common.{refl}
use Rattle.std.specs.Prelude.{◌≡◌, ℕ, List, [], ◌∷◌, map, replicate, pos, negsuc}
use Rattle.rv_isa.specs.declared.instruction.Inst.{Inst}
use Rattle.rv_isa.specs.declared.instruction.Inst.TheVariants.{Lui, Auipc, Jal, Jalr, Beq, Bne, Blt, Bge, Bltu, Bgeu, Addi, Slti, Sltiu, Xori, Ori}
use Rattle.rv_isa.specs.declared.instruction.Inst.TheVariants.{Andi, Slli, Srli, Srai, Add, Sub, Sll, Slt, Sltu, Xor, Srl, Sra, Or, And, Mul, Mulh}
use Rattle.rv_isa.specs.declared.instruction.Inst.TheVariants.{Mulhsu, Mulhu, Div, Divu, Rem, Remu}
use Rattle.rv_isa.specs.Step.{State, Goes, executed}
use Rattle.rv_isa.specs.Run.{start}

-- a machine with no memory, its place, and values in x1, x2 and x3
abbrev at : (pc x1 x2 x3 : ℕ) → State
at pc x1 x2 x3 = record (start (record { entry = pc; segments = [] }) []) { registers = 0 ∷ x1 ∷ x2 ∷ x3 ∷ replicate 28 0 }

-- ---- arithmetic

-- an instruction, x1, x2, and the x3 that it gives
abbrev arithmetic : List (Inst × ℕ × ℕ × ℕ)
arithmetic =
    -- sums, differences and low products wrap
    (Add 3 1 2, 0xFFFFFFFF, 2, 1) ∷
    (Addi 3 1 (negsuc 0), 0, 0, 0xFFFFFFFF) ∷
    (Sub 3 1 2, 1, 2, 0xFFFFFFFF) ∷
    (Mul 3 1 2, 0x10001, 0x10001, 0x20001) ∷
    -- upper words of products, by the signs
    (Mulh 3 1 2, 0x55555555, 3, 0) ∷
    (Mulh 3 1 2, 0x55555555, 0xFFFFFFFD, 0xFFFFFFFF) ∷
    (Mulh 3 1 2, 0xAAAAAAAB, 0x0002FE7D, 0xFFFF0081) ∷
    (Mulh 3 1 2, 0xFF000000, 0xFF000000, 0x00010000) ∷
    (Mulhsu 3 1 2, 0x0002FE7D, 0xAAAAAAAB, 0x0001FEFE) ∷
    (Mulhsu 3 1 2, 0xAAAAAAAB, 0x0002FE7D, 0xFFFF0081) ∷
    (Mulhu 3 1 2, 0xAAAAAAAB, 0x0002FE7D, 0x0001FEFE) ∷
    (Mulhu 3 1 2, 0xFFFFFFFF, 0xFFFFFFFF, 0xFFFFFFFE) ∷
    -- division rounds towards zero, and the remainder has the sign of the dividend
    (Div 3 1 2, 7, 0xFFFFFFFE, 0xFFFFFFFD) ∷
    (Rem 3 1 2, 7, 0xFFFFFFFE, 1) ∷
    (Div 3 1 2, 0xFFFFFFF9, 2, 0xFFFFFFFD) ∷
    (Rem 3 1 2, 0xFFFFFFF9, 2, 0xFFFFFFFF) ∷
    (Div 3 1 2, 0xFFFFFFF9, 0xFFFFFFFE, 3) ∷
    (Rem 3 1 2, 0xFFFFFFF9, 0xFFFFFFFE, 0xFFFFFFFF) ∷
    (Divu 3 1 2, 0xFFFFFFF9, 2, 0x7FFFFFFC) ∷
    (Remu 3 1 2, 0xFFFFFFF9, 2, 1) ∷
    -- by zero
    (Div 3 1 2, 0xFFFFFFF9, 0, 0xFFFFFFFF) ∷
    (Divu 3 1 2, 0xFFFFFFF9, 0, 0xFFFFFFFF) ∷
    (Rem 3 1 2, 0xFFFFFFF9, 0, 0xFFFFFFF9) ∷
    (Remu 3 1 2, 0xFFFFFFF9, 0, 0xFFFFFFF9) ∷
    -- -2 ^ 31 by -1
    (Div 3 1 2, 0x80000000, 0xFFFFFFFF, 0x80000000) ∷
    (Rem 3 1 2, 0x80000000, 0xFFFFFFFF, 0) ∷
    -- shifts, by the low five bits of x2
    (Sll 3 1 2, 3, 31, 0x80000000) ∷
    (Sll 3 1 2, 3, 33, 6) ∷
    (Srl 3 1 2, 0x80000000, 31, 1) ∷
    (Srl 3 1 2, 0x80000000, 33, 0x40000000) ∷
    (Sra 3 1 2, 0x80000000, 31, 0xFFFFFFFF) ∷
    (Sra 3 1 2, 0x80000000, 33, 0xC0000000) ∷
    (Sra 3 1 2, 0x40000000, 0xFFFFFFE4, 0x04000000) ∷
    (Slli 3 1 (pos 31), 3, 0, 0x80000000) ∷
    (Srli 3 1 (pos 31), 0x80000000, 0, 1) ∷
    (Srai 3 1 (pos 31), 0x80000000, 0, 0xFFFFFFFF) ∷
    -- order, of signed and of unsigned numbers
    (Slt 3 1 2, 0xFFFFFFFF, 1, 1) ∷
    (Slt 3 1 2, 1, 0xFFFFFFFF, 0) ∷
    (Sltu 3 1 2, 0xFFFFFFFF, 1, 0) ∷
    (Sltu 3 1 2, 1, 0xFFFFFFFF, 1) ∷
    (Slti 3 1 (negsuc 0), 1, 0, 0) ∷
    (Slti 3 1 (negsuc 0), 0x80000000, 0, 1) ∷
    -- the immediate's sign is extended first, and then both are compared without signs
    (Sltiu 3 1 (negsuc 0), 1, 0, 1) ∷
    (Sltiu 3 1 (negsuc 0), 0xFFFFFFFE, 0, 1) ∷
    (Sltiu 3 1 (negsuc 0), 0xFFFFFFFF, 0, 0) ∷
    (Sltiu 3 1 (pos 1), 0xFFFFFFFF, 0, 0) ∷
    -- bit by bit; the immediate's sign is extended
    (And 3 1 2, 0xFF00FF00, 0x0F0F0F0F, 0x0F000F00) ∷
    (Or 3 1 2, 0xFF00FF00, 0x0F0F0F0F, 0xFF0FFF0F) ∷
    (Xor 3 1 2, 0xFF00FF00, 0x0F0F0F0F, 0xF00FF00F) ∷
    (Andi 3 1 (negsuc 15), 0xFF00FF0F, 0, 0xFF00FF00) ∷
    (Ori 3 1 (negsuc 15), 0xFF, 0, 0xFFFFFFFF) ∷
    (Xori 3 1 (negsuc 0), 0xFF00FF0F, 0, 0x00FF00F0) ∷
    -- upper immediates; the instruction stands at 0x10000
    (Lui 3 0xFFFFF, 0, 0, 0xFFFFF000) ∷
    (Auipc 3 1, 0, 0, 0x11000) ∷
    (Auipc 3 0xFFFFF, 0, 0, 0xF000) ∷
    []

-- nothing else changes, and the next instruction follows
arithmetic_steps : map (λ row. executed [] (at 0x10000 row.1 row.2 0) row.0) arithmetic ≡ map (λ row. Goes (at 0x10004 row.1 row.2 row.3)) arithmetic
arithmetic_steps = refl

-- ---- jumps and branches

-- an instruction, x1, x2, and the x3 and the place that it gives
abbrev jumps : List (Inst × ℕ × ℕ × ℕ × ℕ)
jumps =
    (Jal 3 (pos 8), 0, 0, 0x10004, 0x10008) ∷
    (Jal 3 (negsuc 3), 0, 0, 0x10004, 0xFFFC) ∷
    -- bit 0 of the target is cleared
    (Jalr 3 1 (pos 1), 0x20000, 0, 0x10004, 0x20000) ∷
    (Jalr 3 1 (negsuc 6), 0x2000C, 0, 0x10004, 0x20004) ∷
    (Jalr 3 1 (pos 8), 0xFFFFFFFC, 0, 0x10004, 4) ∷
    -- taken, and not taken
    (Beq 1 2 (pos 16), 5, 5, 0, 0x10010) ∷
    (Beq 1 2 (pos 16), 5, 6, 0, 0x10004) ∷
    (Bne 1 2 (negsuc 7), 5, 6, 0, 0xFFF8) ∷
    (Bne 1 2 (negsuc 7), 5, 5, 0, 0x10004) ∷
    (Blt 1 2 (pos 16), 0xFFFFFFFF, 1, 0, 0x10010) ∷
    (Bltu 1 2 (pos 16), 0xFFFFFFFF, 1, 0, 0x10004) ∷
    (Blt 1 2 (pos 16), 1, 0xFFFFFFFF, 0, 0x10004) ∷
    (Bltu 1 2 (pos 16), 1, 0xFFFFFFFF, 0, 0x10010) ∷
    (Bge 1 2 (pos 16), 0xFFFFFFFF, 1, 0, 0x10004) ∷
    (Bgeu 1 2 (pos 16), 0xFFFFFFFF, 1, 0, 0x10010) ∷
    (Bge 1 2 (pos 16), 1, 1, 0, 0x10010) ∷
    (Bgeu 1 2 (pos 16), 1, 1, 0, 0x10010) ∷
    -- a target between instructions does nothing where the branch is not taken
    (Beq 1 2 (pos 2), 5, 6, 0, 0x10004) ∷
    []

jump_steps : map (λ row. executed [] (at 0x10000 row.1 row.2 0) row.0) jumps ≡ map (λ row. Goes (at row.4 row.1 row.2 row.3)) jumps
jump_steps = refl

-- the target is read before the register is written
jump_through_its_own_register : executed [] (at 0x10000 0x20000 0 0) (Jalr 1 1 (pos 4)) ≡ Goes (at 0x20004 0x10004 0 0)
jump_through_its_own_register = refl

-- ---- the end of the addresses

-- an instruction at the last word, the place of the next one, and the x3 that it gives
abbrev at_the_end : List (Inst × ℕ × ℕ)
at_the_end =
    (Addi 3 0 (pos 5), 0, 5) ∷
    (Auipc 3 1, 0, 0xFFC) ∷
    (Beq 1 2 (pos 16), 0, 7) ∷
    (Bne 1 2 (pos 16), 12, 7) ∷
    (Jal 3 (pos 16), 12, 0) ∷
    (Jalr 3 1 (pos 16), 0x20010, 0) ∷
    []

-- the program counter wraps, also where it becomes the register's value
end_steps : map (λ row. executed [] (at 0xFFFFFFFC 0x20000 0 7) row.0) at_the_end ≡ map (λ row. Goes (at row.1 0x20000 0 row.2)) at_the_end
end_steps = refl
