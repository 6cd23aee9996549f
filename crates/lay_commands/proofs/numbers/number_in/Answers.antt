use Rattle.std.proofs.Common.{rules}
use Rattle.lay_commands.proofs.Spelled.{unread}
use Rattle.lay_commands.proofs.numbers.number_in.Goals as goal

pub returns-in_default-3 : goal.returns-in_default-3
returns-in_default-3 c =
    unread c.args.most c.args.word.now c.parse.result c.in_default.field-0 c.in_default.is c.parse.ensures.value.0 c.ranges.most.fits (search rules)
