use Rattle.std.proofs.Common.{◌≡◌, All, subst, sym, rules}
use Rattle.c_typed.specs.declared.program.Function.{Function}
use Rattle.c_typed.specs.Programs.{data_of, program_data}
use Rattle.c_link.specs.Counting.{AreLocalsMeasured}
use Rattle.c_link.proofs.Counted.{all_of_mapped}
use Rattle.c_link.proofs.limits.limit_past.Goals as goal

pub frame_past-frame-requires : goal.frame_past-frame-requires
frame_past-frame-requires c =
    let p = program_data c.args.p.now in
    let e : c.as_slice-3.result.now ≡ c.args.p.now.functions = search rules in
    subst (All (λ (f : Function). AreLocalsMeasured p (data_of f))) (sym e) (all_of_mapped (AreLocalsMeasured p) data_of c.args.p.now.functions c.requires.locals)
