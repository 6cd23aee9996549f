use Rattle.std.proofs.Common.{sym, ltb-true, rules, ◌≡◌, Some, true, ap}
use Rattle.std.specs.Prelude.{slice_get}
use Rattle.std.specs.Str.{bytes_eq}
use Rattle.c_typed.specs.RunCounts.Counting.{name_at}
use Rattle.c_typed.specs.RunCounts.Stale.{names_among, names_in, order_differs, order_stale}
use Rattle.c_typed.specs.Programs.{program_data}
use Rattle.profile_file.proofs.Differences.{found_at, names_at_end, names_next}
use Rattle.profile_file.proofs.fitting.names_fit.Goals as goal

pub loop-i-init : goal.loop-i-init
loop-i-init c =
    let p = program_data c.args.p.now in
    ap (λ order. order_differs (names_in c.args.c.now) 0 (names_among p order) (names_in c.args.c.now)) c.requires.order

pub loop-i-preserved : goal.loop-i-preserved
loop-i-preserved c =
    let p = program_data c.args.p.now in
    let next : slice_get c.args.order.now c.loop-i.i ≡ Some c.in-Some.next.now
    = found_at c.args.order.now c.loop-i.i c.in-Some.next.now (ltb-true _ _ (sym c.in-Some.ensures.lookup.0)) c.in-Some.ensures.lookup.1 in
    let same : bytes_eq (name_at p c.in-Some.next.now.number) c.f-item.result.name ≡ true = search rules in
    names_next p (names_in c.args.c.now) c.args.order.now c.args.c.now.functions c.loop-i.i c.f-item.result c.in-Some.next.now
    (order_stale c.args.c.now p) (search rules) (search rules) next same c.loop-i.invariant

pub returns : goal.returns
returns c =
    let p = program_data c.args.p.now in
    names_at_end p (names_in c.args.c.now) c.args.order.now c.args.c.now.functions c.loop-i.i (order_stale c.args.c.now p) (search rules) c.loop-i.invariant
