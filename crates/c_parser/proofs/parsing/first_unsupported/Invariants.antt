use Rattle.std.proofs.Common.{◌≡◌, drop}
use Rattle.c_ast.specs.TreesOfFiles.{first_unsupported}
use Rattle.c_parser.proofs.parsing.first_unsupported.Given as goal

abbrev pub invariant-loop-token : goal.invariant-loop-token
invariant-loop-token l = first_unsupported (drop l.token-index l.tokens) ≡ first_unsupported l.tokens
