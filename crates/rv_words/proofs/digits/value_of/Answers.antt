use Rattle.std.proofs.Common.{sym, ◌∙◌, arith}
use Rattle.rv_words.proofs.Values.{value_digit, value_other, value_end, has_room, below_more}
use Rattle.rv_words.proofs.digits.value_of.Goals as goal

pub overflow_mul-word : goal.overflow_mul-word
overflow_mul-word c = omega (arith, has_room c.loop-byte.byte-index c.loop-byte.word (omega (arith, c.loop-byte-test.true, c.requires)) c.loop-byte.invariant.0)

pub overflow_add-word : goal.overflow_add-word
overflow_add-word c =
    omega (
      arith,
      has_room c.loop-byte.byte-index c.loop-byte.word (omega (arith, c.loop-byte-test.true, c.requires)) c.loop-byte.invariant.0,
      c.in_ok-word.ensures.below_16,
    )

pub returns-in_err-word : goal.returns-in_err-word
returns-in_err-word c =
    c.from_residual.ensures ∙ sym (c.loop-byte.invariant.1
    ∙ value_other c.args.text.now c.loop-byte.byte-index c.loop-byte.word c.loop-byte-test.true (sym c.digit_of.ensures.value ∙ c.in_err-word.was))

pub loop-byte-preserved : goal.loop-byte-preserved
loop-byte-preserved c = (
  below_more c.loop-byte.byte-index c.loop-byte.word c.in_ok-word.field-0 c.loop-byte.invariant.0 c.in_ok-word.ensures.below_16,
  c.loop-byte.invariant.1 ∙ value_digit c.args.text.now c.loop-byte.byte-index c.loop-byte.word c.loop-byte-test.true c.in_ok-word.field-0
      (sym c.digit_of.ensures.value ∙ c.in_ok-word.was),
)

pub returns : goal.returns
returns c = sym (c.loop-byte.invariant.1 ∙ value_end c.args.text.now c.loop-byte.byte-index c.loop-byte.word
    (omega (arith, c.loop-byte-test.false, c.loop-byte.auto.byte-index-end)))
