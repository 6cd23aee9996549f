-- What is done, or is undefined, with the kind.
use Rattle.std.specs.Prelude.{Result, Ok, Err}
use Rattle.lay_base.specs.declared.faults.UndefinedKind.{UndefinedKind}

abbrev pub Tested : Type 0 → Type 0
Tested A = Result A UndefinedKind

-- one after the other: the first that is undefined decides
infixl 10 ◌>>=◌
abbrev pub ◌>>=◌ : {A B : Type 0} → Tested A → (A → Tested B) → Tested B
Ok x >>= next = next x
Err kind >>= next = Err kind
