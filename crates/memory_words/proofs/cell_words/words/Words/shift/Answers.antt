use Rattle.std.proofs.Common.{ap, arith, ◌∙◌}
use Rattle.std.proofs.Common.{◌<◌, length}
use Rattle.std.proofs.Math.ListN.{set}
use Rattle.memory_words.specs.CellWords.Words.{four_at, nothing}
use Rattle.memory_words.proofs.CellWords.Steps.{long, shifted}
use Rattle.memory_words.proofs.cell_words.words.Words.shift.Goals as goal

pub returns : goal.returns
returns c =
    let p = c.self.inside.packed in
    let known : c.args.from < length p.words.items = omega (arith, long p, ap length c.self.view_is, c.requires.known) in
    (shifted c.args.from c.args.to p c.release.new.self c.carry.new.self known c.requires.before c.release.ensures c.carry.ensures).is
    ∙ ap (λ fours. set (set fours c.args.to (four_at fours c.args.from)) c.args.from nothing) c.self.view_is
