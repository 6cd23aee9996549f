-- What was added to a list, unless memory was out.
use Rattle.std.specs.Prelude.{◌≡◌, None, List, ◌++◌}
use Rattle.c_facts.specs.declared.fact.Fact.{Fact}
use Rattle.c_facts.specs.declared.found.Found.{Found}

abbrev pub Puts : (old new : Found) → List Fact → Type 0
Puts old new more = new.want ≡ None → (old.want ≡ None) × (new.list ≡ old.list ++ more)
