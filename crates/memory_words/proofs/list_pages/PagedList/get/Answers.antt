use Rattle.memory_words.proofs.ListPages.Paging.{count_in, item_of, page_in, spot_in}
use Rattle.memory_words.proofs.list_pages.PagedList.get.Goals as goal

pub index-requires : goal.index-requires
index-requires g c =
    let i_in = rw (← c.self.view_is, count_in _ _ c.self.invariant.1) at c.requires in
    page_in c.self.inside.len c.args.i c.self.inside.pages c.self.invariant.1 i_in

pub index-requires-2 : goal.index-requires-2
index-requires-2 g c =
    let i_in = rw (← c.self.view_is, count_in _ _ c.self.invariant.1) at c.requires in
    spot_in c.self.inside.len c.args.i c.self.inside.pages c.index.result.now c.self.invariant.1 i_in c.index.ensures

pub returns : goal.returns
returns g c d =
    let i_in = rw (← c.self.view_is, count_in _ _ c.self.invariant.1) at c.requires in
    rw (← c.self.view_is) (item_of c.self.inside.len c.args.i c.self.inside.pages c.index.result.now c.index-2.result.now c.self.invariant.1 i_in c.index.ensures c.index-2.ensures d)
