use Rattle.std.proofs.Common.{arith, length-append}
use Rattle.memory_words.proofs.ListPages.Paging.{items_more, paged_more}
use Rattle.memory_words.proofs.list_pages.PagedList.add_page.Goals as goal

pub invariant_of-self-2 : goal.invariant_of-self-2
invariant_of-self-2 g c =
    let made = c.in_ok-page.ensures in
    rw (c.push_reserved.ensures.items, c.in_ok-reserve.ensures.items)
    (rw length-append (omega (arith, rw (← c.self.view_is) at c.requires)), paged_more c.self.inside.len c.self.inside.pages.items c.in_ok-page.page c.self.invariant.1 (omega (arith, made.capacity)) made.items)

pub returns-clause-items : goal.returns-clause-items
returns-clause-items g c =
    rw (c.push_reserved.ensures.items, c.in_ok-reserve.ensures.items, ← c.self.view_is) (items_more c.self.inside.pages.items c.in_ok-page.page c.in_ok-page.ensures.items)
