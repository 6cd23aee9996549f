use Rattle.std.proofs.Common.{sym, ltb-true, rules, ◌≡◌, Some, true, length, ap, arith}
use Rattle.std.specs.Prelude.{◌==◌, slice_get}
use Rattle.std.proofs.lemmas.Bool.Decides.{nat_tests}
use Rattle.c_typed.specs.RunCounts.Loops.{loops_at}
use Rattle.c_typed.specs.RunCounts.Stale.{loops_among, loops_differ, loops_in_each, loops_stale}
use Rattle.c_typed.specs.Programs.{program_data}
use Rattle.profile_file.proofs.Differences.{found_at, loops_at_end, loops_next}
use Rattle.profile_file.proofs.fitting.loops_fit.Goals as goal

pub loop-i-init : goal.loop-i-init
loop-i-init c =
    let p = program_data c.args.p.now in
    ap (λ order. loops_differ 0 (loops_among p order) (loops_in_each c.args.c.now)) c.requires.order

pub loop-i-preserved : goal.loop-i-preserved
loop-i-preserved c =
    let p = program_data c.args.p.now in
    let next : slice_get c.args.order.now c.loop-i.i ≡ Some c.in-Some.next.now
    = found_at c.args.order.now c.loop-i.i c.in-Some.next.now (ltb-true _ _ (sym c.in-Some.ensures.lookup.0)) c.in-Some.ensures.lookup.1 in
    let same : (loops_at p c.in-Some.next.now.number == length c.f-item.result.loops) ≡ true = grind (arith, nat_tests) in
    loops_next p c.args.order.now c.args.c.now.functions c.loop-i.i c.f-item.result c.in-Some.next.now (loops_stale c.args.c.now p)
    (search rules) (search rules) next same c.loop-i.invariant

pub returns : goal.returns
returns c =
    let p = program_data c.args.p.now in
    loops_at_end p c.args.order.now c.args.c.now.functions c.loop-i.i (loops_stale c.args.c.now p) (search rules) c.loop-i.invariant
