-- What a writer has written, last step first, as code.
use Rattle.std.specs.Prelude.{◌≡◌, None, reverse}
use Rattle.lower_tac.specs.declared.writer.Writer.{Writer}
use Rattle.lower_tac.specs.Parts.{Steps}

unfoldable pub code_in : Writer → Steps
code_in w = reverse w.steps.items

-- where no want of memory is kept there was none before, and the code has what is made before it
abbrev pub Wrote : (old new : Writer) → (Steps → Steps) → Type 0
Wrote old new made = new.want ≡ None → (old.want ≡ None) × (code_in new ≡ made (code_in old))

-- the same, with an answer that is known where no want of memory is kept
abbrev pub WroteTo : {A : Type 0} → (old new : Writer) → A → (Steps → A) → (Steps → Steps) → Type 0
WroteTo old new answer known made = new.want ≡ None → (old.want ≡ None) × (answer ≡ known (code_in old)) × (code_in new ≡ made (code_in old))
