-- How a part of a function is left, and loops (C99 6.8.5, 6.8.6).
use Rattle.std.specs.Prelude.{ℕ, zero, suc, Bool, if◌then◌else◌}
use Rattle.block_memory.specs.RunWorlds.Doing.{Doing, ◌>>=◌, ◌>>◌, pure}
use Rattle.block_memory.specs.RunWorlds.Worlds.{goes_on}
use Rattle.block_memory.specs.declared.run_worlds.way.Way.{Way}
use Rattle.block_memory.specs.declared.run_worlds.way.Way.TheVariants.{Normally as normally, ByBreak as by_break, ByContinue as by_continue}
use Rattle.block_memory.specs.declared.run_worlds.way.Way.TheVariants.{ByReturn as by_return}

-- ---- what stands behind a part (6.8.6)

-- the statements behind it come only where it is left normally
abbrev pub and_then : {F : Type 0} → Doing F Way → Way → Doing F Way
and_then next normally = next
and_then next way = pure way

-- behind the body of a loop
abbrev pub and_again : {F : Type 0} → Doing F Way → Way → Doing F Way
and_again next normally = next
and_again next by_continue = next
and_again next by_break = pure normally
and_again next (by_return v) = pure (by_return v)

-- ---- loops (6.8.5): each begin of the body is a turn. The first number is no less than the turns that are left

abbrev pub no_more : {F A : Type 0} → Doing F A
no_more = λ rest f w. goes_on w

module _ {F : Type 0} (begins : Doing F (Unit {0})) where
  -- what is done behind each body is the third expression of a `for`
  abbrev pub loop : ℕ → Doing F Bool → Doing F (Unit {0}) → Doing F Way → Doing F Way
  loop zero test step body = test >>= λ goes. if goes then no_more else pure normally
  loop (suc n) test step body = test >>= λ goes. if goes then (begins >> body >>= and_again (step >> loop n test step body)) else pure normally

  -- a loop whose test stands behind its body
  abbrev pub loop_behind : ℕ → Doing F Way → Doing F Bool → Doing F Way
  loop_behind zero body test = no_more
  loop_behind (suc n) body test = begins >> body >>= and_again (test >>= λ goes. if goes then loop_behind n body test else pure normally)
