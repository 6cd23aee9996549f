use Rattle.std.proofs.Common.{refl, arith}
use Rattle.std.proofs.Common.{◌<◌, length}
use Rattle.memory_words.proofs.CellWords.Steps.{put_plain, replaced}
use Rattle.memory_words.specs.CellWords.Words.{whole}
use Rattle.memory_words.proofs.cell_words.packed.Packed.replace.Goals as goal

pub returns : goal.returns
returns c =
    let p = c.release.new.self in
    let known : c.args.i < length p.words.items = omega (arith, c.requires.known, c.release.ensures.long) in
    replaced c.args.i (whole c.args.word) c.args.self.now p _ c.release.ensures
    (put_plain p _ c.args.i c.args.word c.release.ensures.packed known c.release.ensures.plain c.requires.plain c.set.ensures.items refl refl)
