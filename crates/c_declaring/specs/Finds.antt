-- What a call answers, and the file after it, against what the checker's definition gives. Want of memory is a free answer.
use Rattle.std.specs.Prelude.{◌≡◌, Result, Ok, Err, Option, Some, None}
use Rattle.c_erasure.specs.Broken as Broken
use Rattle.c_erasure.specs.Checking.Answers.{Checked}
use Rattle.c_nodes.specs.declared.fault.Fault.{Fault}
use Rattle.c_nodes.specs.declared.fault.Fault.TheVariants.{TooBig, IllTyped, Undeclared, Redeclared, Memory}
use Rattle.c_nodes.specs.Gives.{Fails}
use Rattle.c_scopes.specs.declared.file_scope.FileScope.{FileScope}
use Rattle.c_scopes.specs.Scoping.{file_of}

abbrev pub Finds : {X Y : Type 0} → (X → Y) → Result X Fault → Checked Y → FileScope → Type 0
Finds view (Ok x) r f = r ≡ Ok (view x, file_of f)
Finds view (Err fault) r f = Fails fault r

-- a fault that a test finds, or none
abbrev pub Refuses : Result (Unit {0}) Fault → Option Broken.Fault → Type 0
Refuses (Ok done) o = o ≡ None
Refuses (Err (TooBig at)) o = o ≡ Some (Broken.too_big at)
Refuses (Err (IllTyped rule at)) o = o ≡ Some (Broken.ill_typed rule at)
Refuses (Err (Undeclared x at)) o = o ≡ Some (Broken.undeclared x at)
Refuses (Err (Redeclared x at first)) o = o ≡ Some (Broken.redeclared x at first)
Refuses (Err (Memory want)) o = Unit {0}
