use Rattle.c_recognised.proofs.Calls.{of_call}
use Rattle.c_recognised.proofs.allocations.allocation.Goals as goal

pub returns : goal.returns
returns c =
    let a = c.in-Library in
    let h = rw (a.which-is, a.all-is) at c.by_call.ensures in
    rw (of_call c.args.r c.args.e.now a.which a.all a.is) h

pub by_call-requires : goal.by_call-requires
by_call-requires c =
    let a = c.in-Library in
    let h = rw (of_call c.args.r c.args.e.now a.which a.all a.is) at c.requires in
    rw (a.which-is, a.all-is) h
