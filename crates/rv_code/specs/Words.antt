-- Instructions that bring numbers and words of memory into registers and back, and jumps to places that are known.
use Rattle.std.specs.Prelude.{ℕ, ◌+◌, ◌/◌, ◌%◌, ◌^◌, ◌==◌, nat_lt, if◌then◌else◌, List, [], ◌∷◌, pos, ℤ}
use Rattle.block_memory.specs.declared.kinds.Access.{Access}
use Rattle.block_memory.specs.declared.kinds.Access.TheVariants.{Number, Pointer}
use Rattle.c_types.specs.declared.ty.IntKind.{IntKind}
use Rattle.c_types.specs.declared.ty.IntKind.TheVariants as K
use Rattle.rv_isa.specs.declared.instruction.Inst.{Inst}
use Rattle.rv_isa.specs.declared.instruction.Inst.TheVariants.{Lui, Jalr, Lb, Lh, Lw, Lbu, Lhu, Sb, Sh, Sw, Addi, Add}
use Rattle.rv_isa.specs.TwosComplement.{signed}

-- ---- numbers of 32 bits: the upper 20 bits, one more where the lower 12 are read as negative

abbrev pub upper : ℕ → ℕ
upper n = (n / 2 ^ 12 + n % 2 ^ 12 / 2 ^ 11) % 2 ^ 20

abbrev pub lower : ℕ → ℤ
lower n = signed 12 (n % 2 ^ 12)

abbrev pub number_code : (rd n : ℕ) → List Inst
number_code rd n = if upper n == 0 then Addi rd 0 (lower n) ∷ [] else Lui rd (upper n) ∷ Addi rd rd (lower n) ∷ []

-- a place, in two instructions wherever it is
abbrev pub place_code : (rd place : ℕ) → List Inst
place_code rd place = Lui rd (upper place) ∷ Addi rd rd (lower place) ∷ []

-- ---- accesses, at a distance from an address in a register

abbrev pub load_number : IntKind → (rd base : ℕ) → ℤ → Inst
load_number K.Char rd base by = Lbu rd base by
load_number K.SChar rd base by = Lb rd base by
load_number K.UChar rd base by = Lbu rd base by
load_number K.Short rd base by = Lh rd base by
load_number K.UShort rd base by = Lhu rd base by
load_number kind rd base by = Lw rd base by

abbrev pub store_number : IntKind → (base rs : ℕ) → ℤ → Inst
store_number K.Char base rs by = Sb base rs by
store_number K.SChar base rs by = Sb base rs by
store_number K.UChar base rs by = Sb base rs by
store_number K.Short base rs by = Sh base rs by
store_number K.UShort base rs by = Sh base rs by
store_number kind base rs by = Sw base rs by

abbrev pub load_by : Access → (rd base : ℕ) → ℤ → Inst
load_by (Number kind) rd base by = load_number kind rd base by
load_by (Pointer type) rd base by = Lw rd base by

abbrev pub store_by : Access → (base rs : ℕ) → ℤ → Inst
store_by (Number kind) base rs by = store_number kind base rs by
store_by (Pointer type) base rs by = Sw base rs by

-- ---- words behind an address in a register, near or far; x7 has the addresses of those far from it to which a register goes

abbrev pub fetch_code : (rd base offset : ℕ) → List Inst
fetch_code rd base offset =
    if nat_lt offset 2048 then Lw rd base (pos offset) ∷ [] else Lui rd (upper offset) ∷ Add rd rd base ∷ Lw rd rd (lower offset) ∷ []

abbrev pub keep_code : Access → (rs base offset : ℕ) → List Inst
keep_code access rs base offset =
    if nat_lt offset 2048 then store_by access base rs (pos offset) ∷ [] else Lui 7 (upper offset) ∷ Add 7 7 base ∷ store_by access 7 rs (lower offset) ∷ []

abbrev pub address_code : (rd base offset : ℕ) → List Inst
address_code rd base offset = if nat_lt offset 2048 then Addi rd base (pos offset) ∷ [] else Lui rd (upper offset) ∷ Addi rd rd (lower offset) ∷ Add rd rd base ∷ []

-- ---- where code goes on

abbrev pub jump_code : (place : ℕ) → List Inst
jump_code place = Lui 5 (upper place) ∷ Jalr 0 5 (lower place) ∷ []

abbrev pub call_code : (place : ℕ) → List Inst
call_code place = Lui 1 (upper place) ∷ Jalr 1 1 (lower place) ∷ []
