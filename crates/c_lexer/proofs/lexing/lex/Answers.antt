use Rattle.std.proofs.Common.{refl, rules}
use Rattle.std.proofs.lemmas.Result.{err_from_is_err_and}
use Rattle.c_lexer.proofs.Exactness.{parts_are_exact, tokens_are_exact}
use Rattle.c_lexer.proofs.OneReading.{scanned_lexes, scanned_fault}
use Rattle.c_lexer.proofs.lexing.lex.Goals as goal

pub returns-in_err-list : goal.returns-in_err-list
returns-in_err-list c =
    let is_err = err_from_is_err_and c.from_residual.result c.from_residual.ensures.1 in
    rw (is_err.1, is_err.2) (scanned_fault parts_are_exact tokens_are_exact c.args.bytes.now c.in_err-list.field-0.0 c.in_err-list.ensures)

pub returns : goal.returns
returns c = (
  refl,
  search rules,
  rw c.of-2.ensures
      (scanned_lexes parts_are_exact tokens_are_exact c.args.bytes.now c.in_ok-list.list.items c.in_ok-list.ensures),
)
