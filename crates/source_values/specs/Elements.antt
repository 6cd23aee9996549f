-- How many elements lie between two offsets, by natural numbers.
use Rattle.std.specs.Prelude.{ℕ, ◌/◌, ◌%◌, ◌==◌, if◌then◌else◌, pos, neg_ℤ, Option, Some, None, Ok, Err}
use Rattle.std.specs.Int.{w32, cast_unsigned}
use Rattle.lay_base.specs.declared.faults.UndefinedKind.TheVariants.{Range}
use Rattle.block_memory.specs.Pointers.{elements_between}
use Rattle.block_memory.specs.Tested.{Tested}
use Rattle.block_memory.specs.RunWorlds.Scalars.{as_value}
use Rattle.block_memory.specs.declared.run_worlds.value.Value.{Value}
use Rattle.block_memory.specs.declared.run_worlds.value.Value.TheVariants.{Word as word}

-- so many bytes, where they are a whole number of elements; of size 0 that is none, where there is no byte
abbrev pub whole : (bytes size : ℕ) → Option ℕ
whole bytes size = if bytes % size == 0 then Some (bytes / size) else None

abbrev pub ahead : Option ℕ → Tested Value
ahead (Some n) = Ok (word n)
ahead None = Err Range

abbrev pub back : Option ℕ → Tested Value
back (Some n) = Ok (word (cast_unsigned w32 (neg_ℤ (pos n))))
back None = Err Range

-- as bits
abbrev pub words_between : (from to size : ℕ) → Tested Value
words_between from to size = as_value (λ z. word (cast_unsigned w32 z)) (elements_between from to size)
