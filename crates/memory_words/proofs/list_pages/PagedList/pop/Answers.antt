use Rattle.std.proofs.Common.{◌-◌, refl, arith, length-set}
use Rattle.memory_words.proofs.ListPages.Paging.{none_in, one_less, page_in, paged_popped, popped_of}
use Rattle.memory_words.proofs.list_pages.PagedList.pop.Goals as goal

pub returns-then-self-eq0 : goal.returns-then-self-eq0
returns-then-self-eq0 g c =
    (rw (← c.self.view_is) (none_in _ _ c.self.invariant.1 c.if-self-eq0.true), refl)

pub index_mut-requires : goal.index_mut-requires
index_mut-requires g c =
    page_in c.self.inside.len (c.self.inside.len - 1) c.self.inside.pages c.self.invariant.1 (omega (arith, c.if-self-eq0.false))

pub invariant_of-self : goal.invariant_of-self
invariant_of-self g c =
    let less = one_less _ _ c.pop.result c.pop.ensures.cases in
    (rw length-set c.self.invariant.0, paged_popped c.self.inside.len c.self.inside.pages.items c.index_mut.result.now c.pop.new.self c.self.invariant.1 c.if-self-eq0.false c.index_mut.ensures.value c.pop.ensures.capacity less)

pub returns : goal.returns
returns g c =
    popped_of c.self.inside.len c.self.inside.pages.items c.index_mut.result.now c.pop.new.self c.pop.result c.args.self.now _ c.self.invariant.1 c.if-self-eq0.false c.index_mut.ensures.value c.pop.ensures.cases c.pop.ensures.items c.self.view_is
