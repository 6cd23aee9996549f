-- A word and its fields determine each other.
use Rattle.std.proofs.Common.{◌≡◌, ℕ, ◌^◌, ◌<◌, arith}
use Rattle.rv_isa.specs.declared.fields.Fields.{Fields}
use Rattle.rv_isa.specs.Fields.{word, fields_of, InRange}
use Rattle.rv_isa.specs.Encoding.{format_r}

-- fields are the same when each of them is
pub same_fields : (f g : Fields) → f.funct7 ≡ g.funct7 → f.rs2 ≡ g.rs2 → f.rs1 ≡ g.rs1 → f.funct3 ≡ g.funct3 → f.rd ≡ g.rd → f.opcode ≡ g.opcode → f ≡ g
same_fields f g a b c d e h =
    let same : format_r f.funct7 f.rs2 f.rs1 f.funct3 f.rd f.opcode ≡ format_r g.funct7 g.rs2 g.rs1 g.funct3 g.rd g.opcode = cc in same

-- a word gives its fields back
pub fields_of_word : (f : Fields) → InRange f → fields_of (word f) ≡ f
fields_of_word f r = same_fields (fields_of (word f)) f (omega arith) (omega arith) (omega arith) (omega arith) (omega arith) (omega arith)

-- a word is the word of its fields
pub word_of_fields : (w : ℕ) → w < 2 ^ 32 → word (fields_of w) ≡ w
word_of_fields w lt = omega arith

-- the fields of a word are in range
pub fields_fit : (w : ℕ) → w < 2 ^ 32 → InRange (fields_of w)
fields_fit w lt = record { funct7 = omega arith; rs2 = omega arith; rs1 = omega arith; funct3 = omega arith; rd = omega arith; opcode = omega arith }

-- the word of fields in range has 32 bits
pub word_fits : (f : Fields) → InRange f → word f < 2 ^ 32
word_fits f r = omega arith
