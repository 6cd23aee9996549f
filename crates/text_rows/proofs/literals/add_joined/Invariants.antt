use Rattle.std.proofs.Common.{◌≡◌, length}
use Rattle.c_tokens.specs.TokenTexts.{HaveTexts}
use Rattle.text_rows.proofs.literals.add_joined.Given as goal

abbrev pub invariant-loop-rest : goal.invariant-loop-rest
invariant-loop-rest l = HaveTexts l.text l.rest × (l.text ≡ l.fn.text)

abbrev pub decreases-loop-rest : goal.decreases-loop-rest
decreases-loop-rest l = length l.rest
