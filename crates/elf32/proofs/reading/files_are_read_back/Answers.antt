use Rattle.elf32.proofs.ReadBack.{read_again}
use Rattle.elf32.proofs.reading.files_are_read_back.Goals as goal

pub returns : goal.returns
returns c = read_again
