-- What a call of the parser returned, against what is to be read.
use Rattle.std.specs.Prelude.{◌≡◌, ℕ, Bool, List, Option, Some, None, Result, Ok, Err}
use Rattle.c_ast.specs.Spelling.{Lexeme}
use Rattle.c_cursor.specs.declared.failure.Failure.{Failure}
use Rattle.c_cursor.specs.declared.failure.Failure.TheVariants.{Memory, NoParse}

-- want of memory says nothing of it
abbrev pub Fails : {Y : Type 0} → Failure → Option Y → Type 0
Fails (Memory want) read = Unit {0}
Fails (NoParse left) read = read ≡ None

abbrev pub Gives : {X Y : Type 0} → (X → Y) → Result X Failure → Option Y → Type 0
Gives view (Ok x) read = read ≡ Some (view x)
Gives view (Err failure) read = Fails failure read

-- what was passed where it stood at the front, and what is left
abbrev pub Accepts : Option ℕ → List Lexeme → List Lexeme → Option (ℕ × List Lexeme) → Type 0
Accepts None left tokens found = (found ≡ None) × (left ≡ tokens)
Accepts (Some at) left tokens found = found ≡ Some (at, left)

-- a tree with its depth, and what is left
abbrev pub Reads : {X Y : Type 0} → (X → Y) → Result (X × ℕ) Failure → List Lexeme → Option (Y × ℕ × List Lexeme) → Type 0
Reads view result left read = Gives (λ x. (view x.0, x.1, left)) result read

-- the same after one step of a list, and whether to go on
abbrev pub Steps : {X Y : Type 0} → (X → Y) → Result (X × ℕ × Bool) Failure → List Lexeme → Option (Y × ℕ × List Lexeme × Bool) → Type 0
Steps view result left read = Gives (λ x. (view x.0, x.1, left, x.2)) result read
