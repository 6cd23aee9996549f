use Rattle.std.proofs.Common.{◌≡◌, ◌<◌, ◌≤◌, length, map, sym, subst, ◌∙◌}
use Rattle.std.specs.Prelude.{IfSome}
use Rattle.c_lexer.specs.Scanning.{punctuators, row_of, word_by}
use Rattle.c_lexer.proofs.PunctuatorRows.{rows_say, rows_within}
use Rattle.c_lexer.proofs.words.punctuator_at.Goals as goal

pub returns : goal.returns
returns c =
    let found : c.word_by.result ≡ word_by (map row_of punctuators) c.args.bytes.now =
    subst (λ rows. c.word_by.result ≡ word_by (map (λ row. (row.0.now, row.1)) rows) c.args.bytes.now) c.as_slice.ensures c.word_by.ensures in
    record {
      is = found ∙ rows_say punctuators c.args.bytes.now;
      within = subst (λ o. IfSome o (λ word. (0 < word.1) × (word.1 ≤ length c.args.bytes.now))) (sym found) (rows_within punctuators c.args.bytes.now);
    }
