use Rattle.std.proofs.Common.{◌≡◌, ap, ◌∙◌, arith}
use Rattle.std.specs.Prelude.{IfOk, Ok}
use Rattle.std.proofs.lemmas.Grind.{common_steps}
use Rattle.std.proofs.lemmas.Result.{IfOk-weaker}
use Rattle.elf32.specs.Loaded.{loaded}
use Rattle.elf32.specs.Written.{elf_file}
use Rattle.elf32.proofs.ReadBack.{read_back}
use Rattle.elf32.proofs.writing.write.Goals as goal

pub returns-clause-loads : goal.returns-clause-loads
returns-clause-loads c =
    let written : IfOk c.file.result (λ file. file.items ≡ elf_file c.args.image.now) = grind (arith, common_steps) in
    IfOk-weaker c.file.result _ (λ file. loaded file.items ≡ Ok c.args.image.now) (λ file is. ap loaded is ∙ read_back c.args.image.now c.requires) written
