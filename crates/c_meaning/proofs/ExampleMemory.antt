-- A program with two records, and a memory of it with a block for two elements of one of them.
use Rattle.std.specs.Prelude.{◌≡◌, ℕ, List, [], ◌∷◌, ◌++◌, replicate, Some, None, codes}
use Rattle.lay_base.specs.declared.place.Place.{Place}
use Rattle.c_types.specs.declared.ty.IntKind.TheVariants as I
use Rattle.c_types.specs.Types.{CType, void, integer, pointer, structure, Field, Record}
use Rattle.c_typed.specs.Programs.{ProgramData}
use Rattle.memory_words.specs.declared.cell_words.cell.Cell.{Cell}
use Rattle.memory_words.specs.declared.cell_words.cell.Cell.TheVariants.{Empty, Byte}
use Rattle.block_memory.specs.declared.kinds.BlockKind.TheVariants.{Heap, Local}
use Rattle.memory_words.specs.declared.cell_words.pointer.Ptr.TheVariants as P
use Rattle.block_memory.specs.Blocks.{Memory, living}
use Rattle.block_memory.specs.Held.{fragments_of}
use Rattle.c_meaning.specs.Allocations.{Made}
use Rattle.c_meaning.specs.PointerTypes.{Records}

abbrev here : Place
here = record { file = 0; at = 0 }

abbrev field : CType → Field
field t = record { name = []; ty = t; place = here }

-- struct T { char c; int v; }, with padding at 1 to 3, and struct U { int v; struct T *t; }
abbrev records : List Record
records = record { tag = codes "T"; place = here; fields = field (integer I.Char) ∷ field (integer I.Int) ∷ [] } ∷
    record { tag = codes "U"; place = here; fields = field (integer I.Int) ∷ field (pointer (structure 0)) ∷ [] } ∷ []

abbrev pub to_t : ℕ
to_t = 0

abbrev pub to_u : ℕ
to_u = 1

abbrev pub to_int : ℕ
to_int = 2

abbrev pub to_void : ℕ
to_void = 3

abbrev types : List CType
types = pointer (structure 0) ∷ pointer (structure 1) ∷ pointer (integer I.Int) ∷ pointer void ∷ []

abbrev pub p : ProgramData
p = record { records = records; types = types; objects = []; functions = []; mentions = []; main = 0; nodes = 0 }

-- the first record alone
abbrev pub OnlyT : Records
OnlyT r = r ≡ 0

-- block 0 is a local of type `T *`, block 1 an allocation of two elements of T, block 2 another local
abbrev pub made : Made
made = None ∷ Some 0 ∷ None ∷ []

-- the local holds a pointer to the second element; of the first element one field was stored, the second was cleared
abbrev pub with_padding : (byte : Cell) → Memory
with_padding byte = record { kind = Local; contents = living (fragments_of to_t (P.Block 1 8)) } ∷
    record { kind = Heap; contents = living (Byte 5 ∷ byte ∷ Empty ∷ Empty ∷ replicate 4 Empty ++ replicate 8 (Byte 0)) } ∷
    record { kind = Local; contents = living (replicate 4 Empty) } ∷ []
