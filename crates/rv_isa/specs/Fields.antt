-- A word is six fields side by side (RISC-V unprivileged specification 2.2, format R).
use Rattle.std.specs.Prelude.{ℕ, ◌+◌, ◌*◌, ◌/◌, ◌%◌, ◌^◌, ◌<◌}
use Rattle.rv_isa.specs.declared.fields.Fields.{Fields}

-- the word with these fields
abbrev pub word : Fields → ℕ
word f = f.opcode + 2 ^ 7 * f.rd + 2 ^ 12 * f.funct3 + 2 ^ 15 * f.rs1 + 2 ^ 20 * f.rs2 + 2 ^ 25 * f.funct7

-- each field has as many bits as its place
pub record InRange (f : Fields) : Type 0 where
  pub funct7 : f.funct7 < 2 ^ 7
  pub rs2 : f.rs2 < 2 ^ 5
  pub rs1 : f.rs1 < 2 ^ 5
  pub funct3 : f.funct3 < 2 ^ 3
  pub rd : f.rd < 2 ^ 5
  pub opcode : f.opcode < 2 ^ 7

-- the fields of a word
abbrev pub fields_of : ℕ → Fields
fields_of w = record {
  funct7 = w / 2 ^ 25;
  rs2 = w / 2 ^ 20 % 2 ^ 5;
  rs1 = w / 2 ^ 15 % 2 ^ 5;
  funct3 = w / 2 ^ 12 % 2 ^ 3;
  rd = w / 2 ^ 7 % 2 ^ 5;
  opcode = w % 2 ^ 7;
}
