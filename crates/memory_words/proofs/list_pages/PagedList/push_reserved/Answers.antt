use Rattle.std.proofs.Common.{◌≡◌, ◌+◌, ◌-◌, ◌*◌, ◌/◌, min, length, arith, length-append, length-set}
use Rattle.memory_words.proofs.ListPages.Paging.{count_in, page_at, within, pushed_in, paged_with}
use Rattle.memory_words.proofs.list_pages.PagedList.push_reserved.Goals as goal

pub index_mut-requires : goal.index_mut-requires
index_mut-requires g c =
    let room = rw (← c.self.view_is, count_in _ _ c.self.invariant.1) at c.requires in
    omega (arith, room, c.self.inside.pages.ok.0)

pub push_reserved-requires : goal.push_reserved-requires
push_reserved-requires g c =
    let room = rw (← c.self.view_is, count_in _ _ c.self.invariant.1) at c.requires in
    let page = page_at c.self.inside.len (c.self.inside.len / 32768) c.self.inside.pages.items c.index_mut.result.now c.self.invariant.1 (omega (arith, room)) c.index_mut.ensures.value in
    omega (arith, page.0, page.1, c.index_mut.result.now.ok.0)

pub overflow_add-self : goal.overflow_add-self
overflow_add-self g c = omega (arith, within _ _ c.self.invariant.1, c.self.invariant.0)

pub invariant_of-self : goal.invariant_of-self
invariant_of-self g c =
    let n = c.self.inside.len in
    let room = rw (← c.self.view_is, count_in _ _ c.self.invariant.1) at c.requires in
    let page = page_at n (n / 32768) c.self.inside.pages.items c.index_mut.result.now c.self.invariant.1 (omega (arith, room)) c.index_mut.ensures.value in
    let longer : length c.push_reserved.new.self.items ≡ min 32768 (n + 1 - 32768 * (n / 32768)) = rw (c.push_reserved.ensures.items, length-append) (omega (arith, page.0)) in
    (rw length-set c.self.invariant.0, paged_with n (n + 1) (n / 32768) c.self.inside.pages.items c.push_reserved.new.self c.self.invariant.1 (omega (arith, room)) (rw c.push_reserved.ensures.capacity page.1) longer (omega arith) (omega arith))

pub returns-clause-items : goal.returns-clause-items
returns-clause-items g c =
    let n = c.self.inside.len in
    let room = rw (← c.self.view_is, count_in _ _ c.self.invariant.1) at c.requires in
    rw (← c.self.view_is) (pushed_in n (n / 32768) c.self.inside.pages.items c.index_mut.result.now c.push_reserved.new.self c.args.value c.self.invariant.1 (omega (arith, room)) (omega arith) c.index_mut.ensures.value c.push_reserved.ensures.items)
