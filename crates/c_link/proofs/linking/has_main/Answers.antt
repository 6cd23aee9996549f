use Rattle.std.proofs.Common.{◌≡◌, rules}
use Rattle.std.specs.Prelude.{is_some, slice_get, Some, None}
use Rattle.c_link.proofs.MainFunction.{found_main, no_main_found}
use Rattle.c_link.proofs.linking.has_main.Goals as goal

pub returns-in-Some : goal.returns-in-Some
returns-in-Some c =
    let p = c.args.p.now in
    let h : Some c.in-Some.f.now ≡ slice_get p.functions p.main = search rules in
    let e : c.is_some.result ≡ is_some c.in-Some.f.now.body = search rules in
    rw e (found_main p c.in-Some.f.now h)

pub returns-in-None : goal.returns-in-None
returns-in-None c =
    let p = c.args.p.now in
    let h : None ≡ slice_get p.functions p.main = search rules in
    no_main_found p h
