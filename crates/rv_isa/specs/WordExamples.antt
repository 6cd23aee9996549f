-- Words of instructions, as assemblers write them (GNU's and LLVM's agree on each).
use Rattle.std.proofs.Common.{refl}
use Rattle.std.specs.Prelude.{◌≡◌, ℕ, List, [], ◌∷◌, map, replicate, Some, None, pos, negsuc}
use Rattle.rv_isa.specs.declared.instruction.Inst.{Inst}
use Rattle.rv_isa.specs.declared.instruction.Inst.TheVariants.{Lui, Auipc, Jal, Jalr, Beq, Bne, Blt, Bge, Bltu, Bgeu, Lb, Lh, Lw, Lbu, Lhu, Sb, Sh}
use Rattle.rv_isa.specs.declared.instruction.Inst.TheVariants.{Sw, Addi, Slti, Sltiu, Xori, Ori, Andi, Slli, Srli, Srai, Add, Sub, Sll, Slt, Sltu}
use Rattle.rv_isa.specs.declared.instruction.Inst.TheVariants.{Xor, Srl, Sra, Or, And, Mul, Mulh, Mulhsu, Mulhu, Div, Divu, Rem, Remu, Fence, Ecall}
use Rattle.rv_isa.specs.declared.instruction.Inst.TheVariants.{Ebreak}
use Rattle.rv_isa.specs.Encoding.{encoding}
use Rattle.rv_isa.specs.Decoding.{decoded}

-- instructions, each kind at least once, and their words. A distance of a jump or a branch counts from the instruction.
abbrev table : List (Inst × ℕ)
table =
    (Lui 7 0x80000, 0x800003B7) ∷  -- lui x7, 0x80000
    (Auipc 31 0x12345, 0x12345F97) ∷  -- auipc x31, 0x12345
    (Jal 1 (negsuc 2047), 0x801FF0EF) ∷  -- jal x1, -2048
    (Jal 0 (pos 703710), 0x4DFAB06F) ∷  -- jal x0, 703710
    (Jalr 1 6 (negsuc 3), 0xFFC300E7) ∷  -- jalr x1, -4(x6)
    (Beq 5 6 (pos 4094), 0x7E628FE3) ∷  -- beq x5, x6, 4094
    (Bne 7 0 (negsuc 1), 0xFE039FE3) ∷  -- bne x7, x0, -2
    (Blt 8 9 (negsuc 4095), 0x80944063) ∷  -- blt x8, x9, -4096
    (Bge 10 11 (pos 2048), 0x00B550E3) ∷  -- bge x10, x11, 2048
    (Bltu 12 13 (pos 30), 0x00D66F63) ∷  -- bltu x12, x13, 30
    (Bgeu 30 31 (negsuc 31), 0xFFFF70E3) ∷  -- bgeu x30, x31, -32
    (Lb 1 2 (negsuc 2047), 0x80010083) ∷  -- lb x1, -2048(x2)
    (Lh 3 4 (pos 2047), 0x7FF21183) ∷  -- lh x3, 2047(x4)
    (Lw 10 11 (pos 2), 0x0025A503) ∷  -- lw x10, 2(x11)
    (Lbu 5 6 (negsuc 0), 0xFFF34283) ∷  -- lbu x5, -1(x6)
    (Lhu 7 8 (pos 32), 0x02045383) ∷  -- lhu x7, 32(x8)
    (Sb 9 10 (pos 2047), 0x7EA48FA3) ∷  -- sb x10, 2047(x9)
    (Sh 11 12 (negsuc 2047), 0x80C59023) ∷  -- sh x12, -2048(x11)
    (Sw 2 5 (negsuc 3), 0xFE512E23) ∷  -- sw x5, -4(x2)
    (Addi 1 1 (negsuc 0), 0xFFF08093) ∷  -- addi x1, x1, -1
    (Slti 2 3 (negsuc 2047), 0x8001A113) ∷  -- slti x2, x3, -2048
    (Sltiu 4 5 (pos 1), 0x0012B213) ∷  -- sltiu x4, x5, 1
    (Xori 6 7 (negsuc 0), 0xFFF3C313) ∷  -- xori x6, x7, -1
    (Ori 8 9 (pos 1365), 0x5554E413) ∷  -- ori x8, x9, 1365
    (Andi 10 11 (pos 255), 0x0FF5F513) ∷  -- andi x10, x11, 255
    (Slli 12 13 (pos 31), 0x01F69613) ∷  -- slli x12, x13, 31
    (Srli 14 15 (pos 1), 0x0017D713) ∷  -- srli x14, x15, 1
    (Srai 16 17 (pos 16), 0x4108D813) ∷  -- srai x16, x17, 16
    (Add 12 13 14, 0x00E68633) ∷  -- add x12, x13, x14
    (Sub 3 4 5, 0x405201B3) ∷  -- sub x3, x4, x5
    (Sll 15 16 17, 0x011817B3) ∷  -- sll x15, x16, x17
    (Slt 18 19 20, 0x0149A933) ∷  -- slt x18, x19, x20
    (Sltu 21 22 23, 0x017B3AB3) ∷  -- sltu x21, x22, x23
    (Xor 24 25 26, 0x01ACCC33) ∷  -- xor x24, x25, x26
    (Srl 27 28 29, 0x01DE5DB3) ∷  -- srl x27, x28, x29
    (Sra 30 31 1, 0x401FDF33) ∷  -- sra x30, x31, x1
    (Or 2 3 4, 0x0041E133) ∷  -- or x2, x3, x4
    (And 5 6 7, 0x007372B3) ∷  -- and x5, x6, x7
    (Mul 6 7 28, 0x03C38333) ∷  -- mul x6, x7, x28
    (Mulh 8 9 10, 0x02A49433) ∷  -- mulh x8, x9, x10
    (Mulhsu 11 12 13, 0x02D625B3) ∷  -- mulhsu x11, x12, x13
    (Mulhu 14 15 16, 0x0307B733) ∷  -- mulhu x14, x15, x16
    (Div 17 18 19, 0x033948B3) ∷  -- div x17, x18, x19
    (Divu 20 21 22, 0x036ADA33) ∷  -- divu x20, x21, x22
    (Rem 23 24 25, 0x039C6BB3) ∷  -- rem x23, x24, x25
    (Remu 26 27 28, 0x03CDFD33) ∷  -- remu x26, x27, x28
    (Fence 0 0 (pos 0x0FF), 0x0FF0000F) ∷  -- fence iorw, iorw
    (Fence 0 0 (pos 0x021), 0x0210000F) ∷  -- fence r, w
    (Ecall, 0x00000073) ∷  -- ecall
    (Ebreak, 0x00100073) ∷  -- ebreak
    []

words_of_instructions : map (λ row. encoding row.0) table ≡ map (λ row. row.1) table
words_of_instructions = refl

instructions_of_words : map (λ row. decoded row.1) table ≡ map (λ row. Some row.0) table
unfolding decoded
instructions_of_words = refl

-- words of other instruction sets, of reserved rows and of none
abbrev others : List ℕ
others =
    0x00000000 ∷  -- zeros only
    0xFFFFFFFF ∷  -- ones only
    0x00000001 ∷  -- c.nop
    0x00001067 ∷  -- jalr with funct3 1
    0x00002063 ∷  -- a branch with funct3 2
    0x00003003 ∷  -- ld x0, 0(x0), of RV64I
    0x00006003 ∷  -- lwu x0, 0(x0), of RV64I
    0x00003023 ∷  -- sd x0, 0(x0), of RV64I
    0x02009093 ∷  -- slli x1, x1, 32, of RV64I
    0x0200D093 ∷  -- srli x1, x1, 32, of RV64I
    0x4200D093 ∷  -- srai x1, x1, 32, of RV64I
    0x0000003B ∷  -- addw x0, x0, x0, of RV64I
    0x40001033 ∷  -- sll with funct7 0x20
    0x04000033 ∷  -- add with funct7 2
    0x0000100F ∷  -- fence.i
    0x10500073 ∷  -- wfi
    0x30200073 ∷  -- mret
    0x34011073 ∷  -- csrrw x0, mscratch, x2
    0x000000F3 ∷  -- ecall with rd 1
    0x1000A0AF ∷  -- lr.w x1, (x1)
    []

words_of_none : map decoded others ≡ replicate 20 None
unfolding decoded
words_of_none = refl
