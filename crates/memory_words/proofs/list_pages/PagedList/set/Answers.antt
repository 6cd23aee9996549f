use Rattle.std.proofs.Common.{◌/◌, ◌%◌, refl, arith, length-set}
use Rattle.std.specs.Vec.{with_item}
use Rattle.memory_words.proofs.ListPages.Paging.{count_in, page_in, spot_in, set_in, paged_set}
use Rattle.memory_words.proofs.list_pages.PagedList.set.Goals as goal

pub index_mut-requires : goal.index_mut-requires
index_mut-requires g c =
    let i_in = rw (← c.self.view_is, count_in _ _ c.self.invariant.1) at c.requires in
    page_in c.self.inside.len c.args.i c.self.inside.pages c.self.invariant.1 i_in

pub index_mut-requires-2 : goal.index_mut-requires-2
index_mut-requires-2 g c =
    let i_in = rw (← c.self.view_is, count_in _ _ c.self.invariant.1) at c.requires in
    spot_in c.self.inside.len c.args.i c.self.inside.pages c.index_mut.result.now c.self.invariant.1 i_in c.index_mut.ensures.value

pub invariant_of-self : goal.invariant_of-self
invariant_of-self g c =
    let i_in = rw (← c.self.view_is, count_in _ _ c.self.invariant.1) at c.requires in
    let page = c.index_mut.result.now in
    let new = with_item page (c.args.i % 32768) c.args.value in
    let same = length-set page.items (c.args.i % 32768) c.args.value in
    (rw (length-set c.self.inside.pages.items (c.args.i / 32768) new) c.self.invariant.0, paged_set c.self.inside.len c.args.i c.self.inside.pages page new c.self.invariant.1 i_in c.index_mut.ensures.value refl same)

pub returns-clause-items : goal.returns-clause-items
returns-clause-items g c =
    let i_in = rw (← c.self.view_is, count_in _ _ c.self.invariant.1) at c.requires in
    let page = c.index_mut.result.now in
    let new = with_item page (c.args.i % 32768) c.args.value in
    rw (← c.self.view_is) (set_in c.self.inside.len c.args.i (c.args.i / 32768) (c.args.i % 32768) c.self.inside.pages.items page new c.args.value c.self.invariant.1 i_in (omega arith) (omega arith) c.index_mut.ensures.value refl)
