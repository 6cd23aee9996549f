use Rattle.lay_commands.proofs.compiling.outputs_of.Goals as goal

pub compiled-requires-clause-small : goal.compiled-requires-clause-small
compiled-requires-clause-small c = c.types_are_small.ensures c.args.inputs.now.source.files c.requires.short c.requires.program
