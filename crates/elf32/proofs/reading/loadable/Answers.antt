use Rattle.std.proofs.Common.{◌≡◌, ◌≤◌, length, rules, ◌∙◌, arith}
use Rattle.std.proofs.lemmas.Grind.{common_steps}
use Rattle.std.proofs.lemmas.List.{take_all}
use Rattle.elf32.specs.Header.{loadable}
use Rattle.elf32.specs.Read.{HasFirst}
use Rattle.elf32.proofs.reading.loadable.Goals as goal

pub returns : goal.returns
returns c =
    let found : HasFirst c.in_ok-count.field-0 (loadable c.args.bytes.now) = search rules in
    let few : length (loadable c.args.bytes.now) ≤ 16 = grind (arith, common_steps) in
    let kept : c.in_ok-count.field-0.first.items ≡ loadable c.args.bytes.now = found.first ∙ take_all 16 _ few in
    record { passes = grind (arith, common_steps); few = rw kept few; all = kept }
