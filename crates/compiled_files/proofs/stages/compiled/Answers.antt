use Rattle.std.proofs.Common.{◌<◌, ◌^◌, All, Ok, ap, ◌∙◌, subst}
use Rattle.c_typed.specs.Programs.{program_data}
use Rattle.elf32.specs.Written.{elf_file}
use Rattle.compiled_files.proofs.stages.compiled.Goals as goal

pub lower-requires-clause-asked : goal.lower-requires-clause-asked
lower-requires-clause-asked c = c.few_are_asked.ensures c.requires.program.0 (program_data c.args.p.now) c.requires.program.1

pub image-requires-clause-fits : goal.image-requires-clause-fits
image-requires-clause-fits c = c.programs_fit.ensures c.requires.program.0 c.requires.program.1 c.in_ok-code.ensures

pub returns : goal.returns
returns c =
    let bytes : All (λ b. b < 2 ^ 8) c.in_ok-elf.elf.items = subst (All (λ b. b < 2 ^ 8)) c.as_slice.ensures.value c.has_bytes.ensures in
    let image = c.in_ok-image.ensures.image in
    c.images_are_of_programs.ensures c.requires.program.0 c.requires.program.1 c.in_ok-code.ensures c.requires.small c.args.heap c.args.stack
    c.requires.heap c.requires.stack c.in_ok-elf.elf.items bytes (c.in_ok-elf.ensures.bytes ∙ ap elf_file image)
    (c.in_ok-elf.ensures.loads ∙ ap Ok image)
