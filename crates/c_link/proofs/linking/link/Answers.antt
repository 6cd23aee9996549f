use Rattle.std.proofs.Common.{◌≡◌, List, map, subst, rules}
use Rattle.c_typed.specs.declared.program.Unit.{Unit}
use Rattle.c_typed.specs.Programs.{unit_data}
use Rattle.c_link.specs.Gaps.{IsGap}
use Rattle.c_link.specs.Linking.{Fails}
use Rattle.c_link.proofs.linking.link.Goals as goal

pub returns-in-Err : goal.returns-in-Err
returns-in-Err c =
    let e : c.as_slice-2.result.now ≡ c.args.units = search rules in
    subst (λ (units : List Unit). Fails (IsGap (map unit_data units)) c.in-Err.gap) e c.in-Err.ensures
