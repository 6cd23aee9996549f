-- What a call that adds to a text leaves of it, where memory is not out.
use Rattle.std.specs.Prelude.{◌≡◌, ℕ, None, List, ◌++◌}
use Rattle.lay_report.specs.declared.text.Text.{Text}

abbrev pub Writes : (old new : Text) → (more : List ℕ) → Type 0
Writes old new more = new.want ≡ None → (old.want ≡ None) × (new.bytes.items ≡ old.bytes.items ++ more)
