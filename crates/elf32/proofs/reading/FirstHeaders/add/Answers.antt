use Rattle.std.proofs.Common.{◌≡◌, ◌<◌, ◌≤◌, [], ◌∷◌, ◌++◌, length, sym, ap, ◌∙◌, arith}
use Rattle.std.proofs.lemmas.Grind.{common_steps}
use Rattle.std.proofs.lemmas.List.{take-append-le}
use Rattle.elf32.proofs.Headers.{first_more}
use Rattle.elf32.proofs.reading.FirstHeaders.add.Goals as goal
use Rattle.elf32.proofs.reading.FirstHeaders.add.Goals.{then-self-lt-MOST_SEGMENTS+in_ok-push, else-self-lt-MOST_SEGMENTS}

pub returns-clause-first : goal.returns-clause-first
returns-clause-first c = λ hs old.
    elim c.if-self-lt-MOST_SEGMENTS.branch [
      | then-self-lt-MOST_SEGMENTS+in_ok-push w ↦
          let kept : c.if-self-lt-MOST_SEGMENTS.self.first.items ≡ c.args.self.now.first.items ++ c.args.header ∷ [] = grind (arith, common_steps) in
          let few : length hs < 16 = grind (arith, common_steps) in
          record {
            count = grind (arith, common_steps);
            first = kept ∙ ap (λ ys. ys ++ c.args.header ∷ []) old.first ∙ sym (first_more 16 hs c.args.header few);
          }
      | else-self-lt-MOST_SEGMENTS w ↦
          let same : c.if-self-lt-MOST_SEGMENTS.self.first.items ≡ c.args.self.now.first.items = grind (arith, common_steps) in
          let many : 16 ≤ length hs = grind (arith, common_steps) in
          record {
            count = grind (arith, common_steps);
            first = same ∙ old.first ∙ sym (take-append-le 16 hs (c.args.header ∷ []) many);
          }
    ]
