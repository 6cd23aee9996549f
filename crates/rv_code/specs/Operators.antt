-- Instructions for the operators of C, of x5 and x6 in x5. Numbers of all kinds are kept in 32 bits, so those of signed and unsigned kinds differ in
-- quotients, remainders, shifts to the right, order and conversions.
use Rattle.std.specs.Prelude.{ℕ, ◌==◌, nat_lt, Bool, true, false, if◌then◌else◌, List, [], ◌∷◌, ◌++◌, pos, negsuc}
use Rattle.c_types.specs.declared.ty.IntKind.{IntKind}
use Rattle.c_types.specs.declared.ty.IntKind.TheVariants as K
use Rattle.c_typed.specs.Conversions.{is_signed}
use Rattle.c_typed.specs.declared.operators.BinaryOp.{BinaryOp}
use Rattle.c_typed.specs.declared.operators.BinaryOp.TheVariants as B
use Rattle.c_typed.specs.declared.operators.CompareOp.{CompareOp}
use Rattle.c_typed.specs.declared.operators.CompareOp.TheVariants as C
use Rattle.c_typed.specs.declared.operators.PointerOp.{PointerOp}
use Rattle.c_typed.specs.declared.operators.PointerOp.TheVariants as O
use Rattle.c_typed.specs.declared.operators.UnaryOp.{UnaryOp}
use Rattle.c_typed.specs.declared.operators.UnaryOp.TheVariants as U
use Rattle.rv_isa.specs.declared.instruction.Inst.{Inst}
use Rattle.rv_isa.specs.declared.instruction.Inst.TheVariants.{Beq, Bne, Blt, Bge, Bltu, Bgeu, Addi, Sltiu, Xori, Andi, Slli, Srli, Srai, Add, Sub, Sll, Slt, Sltu, Xor, Srl, Sra, Or, And, Mul, Div, Divu, Rem, Remu}
use Rattle.rv_code.specs.Words.{number_code}

-- ---- numbers

abbrev pub unary_code : UnaryOp → List Inst
unary_code U.Plus = []
unary_code U.Minus = Sub 5 0 5 ∷ []
unary_code U.Complement = Xori 5 5 (negsuc 0) ∷ []

-- 1 for 0 and for null, else 0
abbrev pub not_code : List Inst
not_code = Sltiu 5 5 (pos 1) ∷ []

-- the low bits, with the sign or zeros above them
abbrev pub convert_code : IntKind → List Inst
convert_code K.Char = Andi 5 5 (pos 255) ∷ []
convert_code K.SChar = Slli 5 5 (pos 24) ∷ Srai 5 5 (pos 24) ∷ []
convert_code K.UChar = Andi 5 5 (pos 255) ∷ []
convert_code K.Short = Slli 5 5 (pos 16) ∷ Srai 5 5 (pos 16) ∷ []
convert_code K.UShort = Slli 5 5 (pos 16) ∷ Srli 5 5 (pos 16) ∷ []
convert_code kind = []

abbrev pub binary_code : BinaryOp → IntKind → Inst
binary_code B.Multiply kind = Mul 5 5 6
binary_code B.Divide kind = if is_signed kind then Div 5 5 6 else Divu 5 5 6
binary_code B.Remainder kind = if is_signed kind then Rem 5 5 6 else Remu 5 5 6
binary_code B.Add kind = Add 5 5 6
binary_code B.Subtract kind = Sub 5 5 6
binary_code B.ShiftLeft kind = Sll 5 5 6
binary_code B.ShiftRight kind = if is_signed kind then Sra 5 5 6 else Srl 5 5 6
binary_code B.BitAnd kind = And 5 5 6
binary_code B.BitXor kind = Xor 5 5 6
binary_code B.BitOr kind = Or 5 5 6

-- ---- comparisons. Pointers are compared as numbers: each place is below 2 ^ 31, so in both orders alike

abbrev pub less_code : IntKind → (left right : ℕ) → Inst
less_code kind left right = if is_signed kind then Slt 5 left right else Sltu 5 left right

abbrev pub compare_code : CompareOp → IntKind → List Inst
compare_code C.Equal kind = Sub 5 5 6 ∷ Sltiu 5 5 (pos 1) ∷ []
compare_code C.NotEqual kind = Sub 5 5 6 ∷ Sltu 5 0 5 ∷ []
compare_code C.Less kind = less_code kind 5 6 ∷ []
compare_code C.Greater kind = less_code kind 6 5 ∷ []
compare_code C.LessEqual kind = less_code kind 6 5 ∷ Xori 5 5 (pos 1) ∷ []
compare_code C.GreaterEqual kind = less_code kind 5 6 ∷ Xori 5 5 (pos 1) ∷ []

abbrev pub opposite : CompareOp → CompareOp
opposite C.Equal = C.NotEqual
opposite C.NotEqual = C.Equal
opposite C.Less = C.GreaterEqual
opposite C.Greater = C.LessEqual
opposite C.LessEqual = C.Greater
opposite C.GreaterEqual = C.Less

-- ---- branches over the two instructions that follow

abbrev pub skip_less : IntKind → (left right : ℕ) → Inst
skip_less kind left right = if is_signed kind then Blt left right (pos 12) else Bltu left right (pos 12)

abbrev pub skip_not_less : IntKind → (left right : ℕ) → Inst
skip_not_less kind left right = if is_signed kind then Bge left right (pos 12) else Bgeu left right (pos 12)

-- where the comparison holds
abbrev pub skip_if : CompareOp → IntKind → Inst
skip_if C.Equal kind = Beq 5 6 (pos 12)
skip_if C.NotEqual kind = Bne 5 6 (pos 12)
skip_if C.Less kind = skip_less kind 5 6
skip_if C.Greater kind = skip_less kind 6 5
skip_if C.LessEqual kind = skip_not_less kind 6 5
skip_if C.GreaterEqual kind = skip_not_less kind 5 6

-- where it is not as asked
abbrev pub skip_unless : Bool → CompareOp → IntKind → Inst
skip_unless true op kind = skip_if (opposite op) kind
skip_unless false op kind = skip_if op kind

-- where a word is not as asked: true is any but 0
abbrev pub skip_unless_true : Bool → Inst
skip_unless_true true = Beq 5 0 (pos 12)
skip_unless_true false = Bne 5 0 (pos 12)

-- ---- pointers

-- so many elements in x6 as bytes; x7 has their size
abbrev pub scale_code : (size : ℕ) → List Inst
scale_code size = if size == 1 then [] else if size == 4 then Slli 6 6 (pos 2) ∷ [] else number_code 7 size ++ Mul 6 6 7 ∷ []

abbrev pub pointer_code : PointerOp → Inst
pointer_code O.Add = Add 5 5 6
pointer_code O.Subtract = Sub 5 5 6

-- a pointer in x5 by so many elements in x6
abbrev pub move_code : PointerOp → (size : ℕ) → List Inst
move_code op size = scale_code size ++ pointer_code op ∷ []

-- a pointer in x5 by so many bytes
abbrev pub offset_code : (by : ℕ) → List Inst
offset_code by = if by == 0 then [] else if nat_lt by 2048 then Addi 5 5 (pos by) ∷ [] else number_code 6 by ++ Add 5 5 6 ∷ []

-- how many elements lie between two pointers
abbrev pub distance_code : (size : ℕ) → List Inst
distance_code size = Sub 5 5 6 ∷ (number_code 6 size ++ Div 5 5 6 ∷ [])
