use Rattle.std.proofs.Common.{sym, arith}
use Rattle.memory_words.proofs.ListPages.Paging.{count_in, within}
use Rattle.memory_words.proofs.list_pages.PagedList.len.Goals as goal

pub returns-clause-is : goal.returns-clause-is
returns-clause-is g c = rw (← c.self.view_is) (sym (count_in _ _ c.self.invariant.1))

pub returns-clause-within : goal.returns-clause-within
returns-clause-within g c = rw (← c.self.view_is) (within _ _ c.self.invariant.1)

pub returns-clause-small : goal.returns-clause-small
returns-clause-small g c = rw (← c.self.view_is) (omega (arith, c.self.invariant.0))
