use Rattle.std.proofs.Common.{◌≡◌, ◌∙◌, ◌+◌, ap, sym, length, arith}
use Rattle.std.specs.Prelude.{◌==◌}
use Rattle.rv_code.specs.Code.{entry_code}
use Rattle.rv_code.specs.Programs.{words_of_function}
use Rattle.tac_ir.specs.Code.{data_of}
use Rattle.rv_code.proofs.Lists.{words_counted}
use Rattle.rv_code.proofs.functions.words.Goals as goal

pub entry_words-requires-clause-short : goal.entry_words-requires-clause-short
entry_words-requires-clause-short c =
    let is : length (entry_code c.args.frame.now c.args.g.now.parameters) + c.args.steps ≡ words_of_function (data_of c.args.g.now)
    = words_counted c.args.g.now c.args.frame.now c.args.steps c.requires.frame c.requires.steps
    (ap (λ code. length code == 0) (sym c.as_slice.ensures) ∙ sym c.if-is_empty.ensures) in
    let short = c.requires.short in omega arith

all_words : (c : goal.In_ok-entry_words) → c.in_ok-entry_words.field-0 + c.args.steps ≡ words_of_function (data_of c.args.g.now)
all_words c =
    ap (λ n. n + c.args.steps) c.in_ok-entry_words.ensures
    ∙ words_counted c.args.g.now c.args.frame.now c.args.steps c.requires.frame c.requires.steps
    (ap (λ code. length code == 0) (sym c.as_slice.ensures) ∙ sym c.if-is_empty.ensures)

pub overflow_add-result : goal.overflow_add-result
overflow_add-result c = let is = all_words c in let short = c.requires.short in omega arith

pub returns : goal.returns
returns c = all_words c
