use Rattle.std.proofs.Common.{◌≡◌, rules}
use Rattle.c_tokens.specs.QuotedScan.{string_bytes}
use Rattle.c_lexer.proofs.StringBytes.{of_one}
use Rattle.c_lexer.proofs.string_bytes.text_bytes.Goals as goal

pub returns-clause-is : goal.returns-clause-is
returns-clause-is c =
    let read : c.add_text_bytes.new.bytes.items ≡ string_bytes c.args.text.now = search rules in
    rw read (of_one c.args.text.now c.requires)
