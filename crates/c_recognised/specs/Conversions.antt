-- What a node becomes that may be a conversion whose operand is done.
use Rattle.std.specs.Prelude.{ℕ, Bool, true, false, is_some}
use Rattle.c_typed.specs.Trees as Trees
use Rattle.c_erasure.specs.Noted.{Node}
use Rattle.c_erasure.specs.Recognised.{allocation, or_converted}
use Rattle.c_recognised.specs.declared.allocations.Becomes.{Becomes}
use Rattle.c_recognised.specs.declared.allocations.Becomes.TheVariants as C

abbrev pub allocated_by : ℕ → Node → Node
allocated_by r (Trees.convert e written) = or_converted r (allocation r e) e written
allocated_by r node = node

abbrev pub may_allocate : ℕ → Node → Bool
may_allocate r (Trees.convert e written) = is_some (allocation r e)
may_allocate r node = false

-- a node becomes an allocation only where it may
abbrev pub is_fit : Becomes → Node → Bool
is_fit (C.Records r) node = may_allocate r node
is_fit which node = true

abbrev pub became : Becomes → Node → Node
became C.Same node = node
became C.Null node = Trees.null
became (C.Records r) node = allocated_by r node
