-- What the meaning reads of a program beside its trees: types by their numbers, functions, and the memory with which it starts (C99 5.1.2, 6.7.8).
use Rattle.std.specs.Prelude.{ℕ, zero, suc, ◌+◌, Bool, true, false, if◌then◌else◌, List, [], ◌∷◌, ◌++◌, map, fold, replicate, Option, Some, None}
use Rattle.std.specs.Prelude.{slice_get, unwrap_or}
use Rattle.c_types.specs.IntKinds.{width}
use Rattle.c_types.specs.Layouts.{size_of}
use Rattle.c_types.specs.Types.{CType, void, integer, pointer, array}
use Rattle.c_typed.specs.declared.program.Initial.{Initial}
use Rattle.c_typed.specs.declared.program.InitialValue.{InitialValue}
use Rattle.c_typed.specs.declared.program.InitialValue.TheVariants as V
use Rattle.c_typed.specs.declared.program.Local.{Local}
use Rattle.c_typed.specs.declared.program.Object.{Object}
use Rattle.c_typed.specs.Programs.{FunctionData, ProgramData}
use Rattle.memory_words.specs.declared.cell_words.cell.Cell.{Cell}
use Rattle.memory_words.specs.declared.cell_words.cell.Cell.TheVariants.{Byte}
use Rattle.block_memory.specs.declared.kinds.Access.{Access}
use Rattle.block_memory.specs.declared.kinds.Access.TheVariants.{Number, Pointer}
use Rattle.block_memory.specs.declared.kinds.BlockKind.{BlockKind}
use Rattle.block_memory.specs.declared.kinds.BlockKind.TheVariants.{Global, Text}
use Rattle.memory_words.specs.declared.cell_words.pointer.Ptr.TheVariants as P
use Rattle.block_memory.specs.Blocks.{Memory, Block, Contents, living, overwritten}
use Rattle.block_memory.specs.Held.{bytes_of, fragments_of}

-- ---- types

abbrev pub type_at : ProgramData → (type : ℕ) → CType
type_at p n = unwrap_or (slice_get p.types n) void

-- in bytes
abbrev pub size_at : ProgramData → (type : ℕ) → ℕ
size_at p n = size_of p.records (type_at p n)

-- what is loaded or stored of that type: pointers keep its number
abbrev pub access_of : CType → (type : ℕ) → Access
access_of (integer kind) n = Number kind
access_of t n = Pointer n

abbrev pub access_at : ProgramData → (type : ℕ) → Access
access_at p n = access_of (type_at p n) n

-- the size of what a pointer of a type points to, or of the elements of an array
abbrev pub element_size : ProgramData → CType → ℕ
element_size p (pointer t) = size_of p.records t
element_size p (array t n) = size_of p.records t
element_size p t = 0

-- how many elements an array has
abbrev pub length_of : CType → ℕ
length_of (array t n) = n
length_of t = 0

-- ---- functions

abbrev pub all_locals : FunctionData → List Local
all_locals g = g.parameters ++ g.locals

-- ---- the memory with which a program starts: a block for each object, as it is initialized, and all else in it zero

abbrev pub cells_of : InitialValue → List Cell
cells_of (V.Number kind v) = bytes_of (width kind) v
cells_of (V.Address type object offset) = fragments_of type (P.Block object offset)
cells_of (V.Function type f) = fragments_of type (P.Function f)

abbrev pub initially : List Initial → (size : ℕ) → Contents
initially all size = fold (λ c i. overwritten c i.offset (cells_of i.value)) (living (replicate size (Byte 0))) all

abbrev pub none_or : Option (List Initial) → List Initial
none_or None = []
none_or (Some all) = all

abbrev pub object_kind : (text : Bool) → BlockKind
object_kind true = Text
object_kind false = Global

-- an object that is only declared has no bytes: nothing uses it
abbrev pub size_if_defined : Option (List Initial) → (size : ℕ) → ℕ
size_if_defined None size = 0
size_if_defined (Some all) size = size

abbrev pub object_size : ProgramData → Object → ℕ
object_size p o = size_if_defined o.initial (size_at p o.ty)

abbrev pub object_block : ProgramData → Object → Block
object_block p o = record { kind = object_kind o.text; contents = initially (none_or o.initial) (object_size p o) }

abbrev pub initial_memory : ProgramData → Memory
initial_memory p = map (object_block p) p.objects
